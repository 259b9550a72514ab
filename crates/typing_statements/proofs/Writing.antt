-- INSERT, UPDATE and DELETE without faults are well typed.
use Rattle.std.proofs.Common.{◌≡◌, refl, sym, ap, ◌∙◌, subst, arith, ℕ, ◌+◌, ◌<◌, suc, Bool, true}
use Rattle.std.proofs.Common.{false, not, ◌==◌, cond, List, [], ◌∷◌, ◌++◌, map, length, Option}
use Rattle.std.proofs.Common.{Some, None, append_assoc}
use Rattle.std.specs.Prelude.{slice_get, is_some}
use Rattle.std.specs.List.{flat_map}
use Rattle.std.specs.Str.{bytes_eq}
use Rattle.std.proofs.lemmas.List.{length-map, map-append}
use Rattle.std.proofs.lemmas.Option.{slice_get-get_or}
use Rattle.syntax_trees.specs.declared.anchor.Ident.{Ident}
use Rattle.statement_trees.specs.declared.writing.Assignment.{Assignment}
use Rattle.statement_trees.specs.declared.writing.Delete.{Delete}
use Rattle.statement_trees.specs.declared.writing.Insert.{Insert}
use Rattle.statement_trees.specs.declared.writing.Update.{Update}
use Rattle.row_types.specs.declared.ColumnType.{ColumnType}
use Rattle.row_types.specs.declared.RowType.{RowType}
use Rattle.bound_trees.specs.declared.change.BoundDelete.{BoundDelete}
use Rattle.bound_trees.specs.declared.change.BoundUpdate.{BoundUpdate}
use Rattle.bound_trees.specs.declared.expr.BoundExpr.{BoundExpr}
use Rattle.bound_trees.specs.declared.expr.BoundExpr.TheVariants as expr
use Rattle.bound_trees.specs.declared.query.BoundFromItem.TheVariants as item
use Rattle.bound_trees.specs.declared.query.BoundSource.TheVariants as source
use Rattle.bound_trees.specs.declared.query.BoundSelect.{roll-BoundSelect}
use Rattle.bind_faults.specs.declared.fault.FaultKind.TheVariants.{UnknownName, WrongCount}
use Rattle.bind_faults.specs.Faults.{Noted, ◌>>=◌, as_value}
use Rattle.bind_kinds.specs.declared.kind.Kind.{Kind}
use Rattle.bind_kinds.specs.declared.kind.Kind.TheVariants.{Null}
use Rattle.bind_kinds.specs.Kinds.{kind_of_type, misfit, fits}
use Rattle.bind_sight.specs.Index.{place_of, one_further}
use Rattle.bind_sight.specs.Sight.{Seen, inside_writing, may_stand}
use Rattle.bind_parts.specs.declared.from.Opened.{Opened}
use Rattle.bind_parts.specs.declared.typed.TypedQuery.{TypedQuery}
use Rattle.bind_parts.specs.From.{table_source, put_comma, nothing_open, begun, output_of}
use Rattle.bind_parts.specs.Turns.{each_noted}
use Rattle.bind_queries.specs.Names.{judge}
use Rattle.bind_queries.specs.Queries.{judge_query}
use Rattle.bind_queries.proofs.Laws.{front_nil, back_nil, no_fault, equal}
use Rattle.bind_rules.specs.Names.{unknown_in, places_in, at_place, repeated}
use Rattle.bind_changes.specs.Writing.{target_of, kind_in, kind_at, kind_named, target_faults}
use Rattle.bind_changes.specs.Writing.{kinds_into, listed, wrong_width, insert_into, into_faults}
use Rattle.bind_changes.specs.Writing.{judged_rows, judged_insert, columns_from, met_query}
use Rattle.bind_changes.specs.Writing.{one_value, judged_values, judged_where, update_in}
use Rattle.bind_changes.specs.Writing.{judged_update, assigned, in_row, rows_to_update}
use Rattle.bind_changes.specs.Writing.{judged_delete, of_rows}
use Rattle.typing_trees.specs.Around.{Around, with_row, then, only_if}
use Rattle.typing_trees.specs.Kinds.{in_turn, each_fits}
use Rattle.typing_trees.specs.Queries.{FromRow, kind_of, kinds_of, kinds_of_query, kinds_of_item}
use Rattle.typing_trees.specs.Queries.{kinds_of_source, columns_of_table, tests, items_joined}
use Rattle.typing_trees.specs.Queries.{nothing_joined, past_comma, joined_with, selected, whole_row}
use Rattle.typing_trees.specs.Statements.{at_places, columns_into, columns_and, rows_fit}
use Rattle.typing_trees.specs.Statements.{insert_typed, update_typed, delete_typed}
use Rattle.typing_queries.proofs.Laws.{AllBelow, below-self, fitting, fits-below, column-kind}
use Rattle.typing_queries.proofs.Laws.{comma-kinds, table-kinds, select-kinds, ungrouped-kinds}
use Rattle.typing_queries.proofs.Laws.{sees-row, sees-writing, joined-nothing, joined-begun}
use Rattle.typing_queries.proofs.Laws.{joined-item, Sees, Joined, kinds_shown, QueryTyped}
use Rattle.typing_queries.proofs.Laws.{expr_typed, query_typed, filter_typed}
use Rattle.typing_statements.proofs.Lists.{both-true, not-false, append-nil}
use Rattle.typing_statements.proofs.Values.{row-fits, each-fits-itself, each-fits-more, kinds-more}
use Rattle.typing_statements.proofs.Values.{then-some}

-- ---- columns by their names

further : (o : Option ℕ) (k n : ℕ) → ((m : ℕ) → o ≡ Some m → m < n) → one_further o ≡ Some k →
    k < suc n
further None k n h p = absurd cc
further (Some m) k n h p = let here : suc m ≡ k = cc in omega (arith, h m refl)

first-or : (b : Bool) (o : Option ℕ) (k n : ℕ) → ((m : ℕ) → o ≡ Some m → m < n) →
    cond b (Some 0) (one_further o) ≡ Some k → k < suc n
first-or true o k n h p = let here : 0 ≡ k = cc in omega arith
first-or false o k n h p = further o k n h p

pub place-within : (name : List ℕ) (ns : List (List ℕ)) (k : ℕ) → place_of name ns ≡ Some k →
    k < length ns
place-within name [] k p = absurd cc
place-within name (n ∷ ns) k p = first-or (bytes_eq name n) (place_of name ns) k (length ns)
    (λ m e. place-within name ns m e) p

one : (names : List (List ℕ)) (kinds : List Kind) (i : Ident) (is : List Ident) (o : Option ℕ) →
    length names ≡ length kinds → place_of i.name names ≡ o → is_some o ≡ true
    → at_places kinds (places_in names is) ≡ Some
    (map (λ j. kind_in kinds (place_of j.name names)) is)
    → at_places kinds (at_place o ++ places_in names is) ≡
    Some (kind_in kinds o ∷ map (λ j. kind_in kinds (place_of j.name names)) is)
one names kinds i is None n e s rest = absurd cc
one names kinds i is (Some k) n e s rest =
    let more = map (λ j. kind_in kinds (place_of j.name names)) is in
    then-some (slice_get kinds k) (λ x. then (at_places kinds (places_in names is))
    (λ ks. Some (x ∷ ks))) (kind_at kinds k) (Some (kind_at kinds k ∷ more))
    (slice_get-get_or kinds k Null (omega (arith, place-within i.name names k e)))
    (then-some (at_places kinds (places_in names is)) (λ ks. Some (kind_at kinds k ∷ ks)) more
    (Some (kind_at kinds k ∷ more)) rest refl)

at-places : (names : List (List ℕ)) (kinds : List Kind) (is : List Ident) →
    length names ≡ length kinds → flat_map (unknown_in names) is ≡ []
    → at_places kinds (places_in names is) ≡ Some
    (map (λ i. kind_in kinds (place_of i.name names)) is)
at-places names kinds [] n p = refl
at-places names kinds (i ∷ is) n p =
    let here = is_some (place_of i.name names) in
    one names kinds i is (place_of i.name names) n refl
    (not-false here (no_fault (not here) UnknownName i.anchor
    (front_nil (unknown_in names i) (flat_map (unknown_in names) is) p)))
    (at-places names kinds is n (back_nil (unknown_in names i) (flat_map (unknown_in names) is) p))

-- the columns of a table that is known
abbrev columns-of : (t : RowType) → List Kind
columns-of t = map (λ c. kind_of_type c.data_type) t.columns

listed-places : (t : RowType) (is : List Ident) → target_faults (target_of (Some t)) is ≡ []
    → at_places (target_of (Some t)).kinds (places_in (target_of (Some t)).names is) ≡
    Some (map (kind_named (target_of (Some t))) is)
listed-places t is p =
    let to = target_of (Some t) in
    at-places to.names to.kinds is (length-map t.columns (λ c. c.name) ∙
    sym (length-map t.columns (λ c. kind_of_type c.data_type)))
    (back_nil (repeated [] is) (flat_map (unknown_in to.names) is) p)

-- ---- INSERT

into-fits : (t : RowType) (is : List Ident) (q : TypedQuery) (a : Around) →
    target_faults (target_of (Some t)) is ≡ [] → wrong_width (target_of (Some t)) is q ≡ []
    → in_turn (kinds_into (target_of (Some t)) is) (kinds_shown q.columns) ≡ true → QueryTyped q a
    → rows_fit (columns_into (target_of (Some t)).kinds (listed (target_of (Some t)) is))
    (kinds_of_query q.tree a) ≡ true
into-fits t [] q a p w turn typed =
    let to = target_of (Some t) in
    let many : length q.columns ≡ length to.kinds = equal (length q.columns) (length to.kinds)
    (no_fault (not (length q.columns == length to.kinds)) WrongCount q.at w) in
    row-fits to.kinds (kinds_shown q.columns) (kinds_of_query q.tree a) typed turn
    (length-map q.columns (λ c. c.kind) ∙ many)
into-fits t (i ∷ is) q a p w turn typed =
    let to = target_of (Some t) in
    let many : length q.columns ≡ length (i ∷ is) = equal (length q.columns) (length (i ∷ is))
    (no_fault (not (length q.columns == length (i ∷ is))) WrongCount q.at w) in
    ap (λ (z : Option (List Kind)). rows_fit z (kinds_of_query q.tree a))
    (listed-places t (i ∷ is) p)
    ∙ row-fits (map (kind_named to) (i ∷ is)) (kinds_shown q.columns) (kinds_of_query q.tree a)
    typed turn (length-map q.columns (λ c. c.kind) ∙ many ∙
    sym (length-map (i ∷ is) (kind_named to)))

insert-into : (s : Insert) (t : Option RowType) (seen : Seen) (a : Around) → Sees seen a →
    a.tables s.table.name ≡ t → (insert_into s (target_of t) seen).faults ≡ []
    → insert_typed (insert_into s (target_of t) seen).value.insert
    (insert_into s (target_of t) seen).value.listed a ≡ true
insert-into s None seen a sees e p = absurd cc
insert-into s (Some t) seen a sees e p =
    let to = target_of (Some t) in
    let q = judge_query (kinds_into to s.columns) s.source (inside_writing seen) in
    let rows : (judged_rows s to seen).faults ≡ [] =
    back_nil (into_faults s to) (judged_rows s to seen).faults p in
    let typed = query_typed (kinds_into to s.columns) s.source (inside_writing seen) a
    (sees-writing seen a sees) (front_nil q.faults (wrong_width to s.columns q.value) rows) in
    ap (λ o. rows_fit (then (columns_of_table o) (λ cs. columns_into cs (listed to s.columns)))
    (kinds_of_query q.value.tree a)) e
    ∙ into-fits t s.columns q.value a (front_nil (into_faults s to) (judged_rows s to seen).faults
    p) (back_nil q.faults (wrong_width to s.columns q.value) rows) typed.1 typed.0

pub insert-typed : (s : Insert) (seen : Seen) (a : Around) → Sees seen a →
    (judged_insert s seen).faults ≡ [] → insert_typed (judged_insert s seen).value.insert
    (judged_insert s seen).value.listed a ≡ true
insert-typed s seen a sees p = insert-into s _ seen a sees (sees.tables s.table.name) p

-- ---- the rows that are met

-- the table under its own name
abbrev opened-at : Ident → Option RowType → Opened
opened-at i t = (table_source i None t >>= put_comma nothing_open).value

abbrev row-of : List Kind → FromRow
row-of ks = joined_with (past_comma nothing_joined []) ks

columns-below : (cs : List ColumnType) → AllBelow (map (λ c. kind_of_type c.data_type) cs)
    (kinds_shown (map output_of cs))
columns-below [] = tt
columns-below (c ∷ cs) = (below-self (kind_of_type c.data_type), columns-below cs)

opened-joined : (i : Ident) (t : RowType) → Joined (opened-at i (Some t)) (row-of (columns-of t))
opened-joined i t =
    let x = (table_source i None (Some t)).value in
    let j = joined-item (begun nothing_open) (past_comma nothing_joined []) x (columns-of t)
    (joined-begun nothing_open nothing_joined joined-nothing) (columns-below t.columns) in
    record { width = j.width; base = j.base; first = j.first; all = j.all; on = j.on }

sees-table : (i : Ident) (t : RowType) (seen : Seen) (a : Around) → Sees seen a →
    Sees (in_row seen (opened-at i (Some t))) (with_row (columns-of t) a)
sees-table i t seen a sees = sees-row (opened-at i (Some t)) (row-of (columns-of t)) seen a
    (opened-joined i t) sees

-- columns of the innermost row, from a place on
columns-typed : (row ks : List Kind) (n : ℕ) (a : Around) →
    ((m : ℕ) (k : Kind) → slice_get ks m ≡ Some k → slice_get row (n + m) ≡ Some k)
    → kinds_of (with_row row a) (map kind_of (columns_from n (length ks))) ≡ Some ks
columns-typed row [] n a at = refl
columns-typed row (k ∷ ks) n a at =
    let aw = with_row row a in
    let more = map kind_of (columns_from (suc n) (length ks)) in
    let same : n + 0 ≡ n = omega arith in
    then-some (kind_of (expr.Column 0 n) aw) (λ j. then (kinds_of aw more) (λ zs. Some (j ∷ zs))) k
    (Some (k ∷ ks))
    (column-kind 0 n aw ∙ sym (ap (slice_get row) same) ∙ at 0 k refl)
    (then-some (kinds_of aw more) (λ zs. Some (k ∷ zs)) ks (Some (k ∷ ks))
    (columns-typed row ks (suc n) a (λ m j e. next m ∙ at (suc m) j e)) refl)
  where
    next : (m : ℕ) → slice_get row (suc n + m) ≡ slice_get row (n + suc m)
    next m = let same : suc n + m ≡ n + suc m = omega arith in ap (slice_get row) same

met-kinds : (name : List ℕ) (t : RowType) (values conjuncts : List BoundExpr) (vs : List Kind)
    (a : Around) → a.tables name ≡ Some t
    → kinds_of (with_row (columns-of t) a) (map kind_of values) ≡ Some vs →
    tests (with_row (columns-of t) a) (map kind_of conjuncts) ≡ true
    → kinds_of_query (met_query name (length (columns-of t)) values conjuncts) a ≡
    Some (columns-of t ++ vs)
met-kinds name t values conjuncts vs a e is passed =
    let ks = columns-of t in
    let aw = with_row ks a in
    let items = columns_from 0 (length ks) ++ values in
    let from = item.Comma (source.Table name) ∷ [] in
    let row : items_joined a nothing_joined (map kinds_of_item from) ≡
    Some (past_comma nothing_joined ks) =
    then-some (kinds_of_item (item.Comma (source.Table name)) a nothing_joined) (λ more. Some more)
    (past_comma nothing_joined ks) (Some (past_comma nothing_joined ks))
    (comma-kinds (source.Table name) a nothing_joined
    ∙ then-some (kinds_of_source (source.Table name) a) (λ cs. Some (past_comma nothing_joined cs))
    ks (Some (past_comma nothing_joined ks)) (table-kinds name a ∙ ap columns_of_table e) refl)
    refl in
    let at : (m : ℕ) (k : Kind) → slice_get ks m ≡ Some k → slice_get ks (0 + m) ≡ Some k =
    λ m k q. (let same : 0 + m ≡ m = omega arith in ap (slice_get ks) same ∙ q) in
    let listed-kinds : kinds_of aw (map kind_of items) ≡ Some (ks ++ vs) =
    ap (kinds_of aw) (map-append kind_of (columns_from 0 (length ks)) values)
    ∙ kinds-more aw (map kind_of (columns_from 0 (length ks))) (map kind_of values) ks vs
    (columns-typed ks ks 0 a at) is in
    select-kinds (roll-BoundSelect (record {
      items = items;
      from = from;
      conjuncts = conjuncts;
      grouping = None;
    })) a ∙ ungrouped-kinds items from conjuncts a
    ∙ then-some (items_joined a nothing_joined (map kinds_of_item from))
    (λ so. selected a (whole_row so) (map kind_of items) (map kind_of conjuncts) None)
    (past_comma nothing_joined ks) (Some (ks ++ vs)) row
    (ap (λ b. only_if b (kinds_of aw (map kind_of items))) passed ∙ listed-kinds)

-- ---- UPDATE

-- values of kinds that fit
abbrev ValuesFit : Around → List Kind → List BoundExpr → Type 0
ValuesFit a ws es = (vs : List Kind) × (kinds_of a (map kind_of es) ≡ Some vs) ×
    (each_fits ws vs ≡ true)

value-fits : (t : RowType) (seen : Seen) (a : Around) (so : List BoundExpr) (ws : List Kind)
    (x : Assignment) → Sees seen a → may_stand seen.levels ≡ false
    → (one_value (target_of (Some t)) seen so x).faults ≡ []
    → ValuesFit a ws so → ValuesFit a (ws ++ kind_named (target_of (Some t)) x.target ∷ [])
    (one_value (target_of (Some t)) seen so x).value
value-fits t seen a so ws x sees m p (vs, is, fit) =
    let to = target_of (Some t) in
    let w = kind_named to x.target in
    let v = judge x.value seen in
    let (j, of, below) = expr_typed x.value seen a sees m
    (front_nil v.faults (misfit w v.value.head) p) in
    let fits-w = fits-below w j v.value.head.kind below
    (fitting w v.value.head (back_nil v.faults (misfit w v.value.head) p)) in (
      vs ++ j ∷ [],
      ap (kinds_of a) (map-append kind_of so (v.value.tree ∷ [])) ∙
          kinds-more a (map kind_of so) (kind_of v.value.tree ∷ []) vs (j ∷ []) is
          (ap (λ o. then o (λ k. Some (k ∷ []))) of),
      each-fits-more ws vs (w ∷ []) (j ∷ []) fit (both-true (fits w j) true fits-w refl),
    )

values-fit : (t : RowType) (seen : Seen) (a : Around) (xs : List Assignment) (so : List BoundExpr)
    (ws : List Kind) → Sees seen a → may_stand seen.levels ≡ false
    → (each_noted (one_value (target_of (Some t)) seen) so xs).faults ≡ []
    → ValuesFit a ws so → ValuesFit a (ws ++ map (kind_named (target_of (Some t)))
    (map (λ x. x.target) xs)) (each_noted (one_value (target_of (Some t)) seen) so xs).value
values-fit t seen a [] so ws sees m p fit = subst (λ z. ValuesFit a z so) (sym (append-nil ws)) fit
values-fit t seen a (x ∷ xs) so ws sees m p fit =
    let to = target_of (Some t) in
    let more = one_value to seen so x in
    let rest = each_noted (one_value to seen) more.value xs in
    subst (λ z. ValuesFit a z rest.value) (append_assoc ws (kind_named to x.target ∷ [])
    (map (kind_named to) (map (λ y. y.target) xs)))
    (values-fit t seen a xs more.value (ws ++ kind_named to x.target ∷ []) sees m
    (back_nil more.faults rest.faults p) (value-fits t seen a so ws x sees m
    (front_nil more.faults rest.faults p) fit))

update-in : (s : Update) (t : RowType) (seen : Seen) (a : Around) → Sees seen a →
    a.tables s.table.name ≡ Some t → (update_in s (target_of (Some t))
    (in_row seen (opened-at s.table (Some t)))).faults ≡ []
    → update_typed (update_in s (target_of (Some t))
    (in_row seen (opened-at s.table (Some t)))).value a ≡ true
update-in s t seen a sees e p =
    let to = target_of (Some t) in
    let ks = columns-of t in
    let aw = with_row ks a in
    let row = in_row seen (opened-at s.table (Some t)) in
    let sees-it = sees-table s.table t seen a sees in
    let values = judged_values to row s.assignments in
    let met = judged_where s.filter row in
    let rest : values.faults ++ met.faults ≡ [] =
    back_nil (target_faults to (assigned s)) (values.faults ++ met.faults) p in
    let (vs, is, fit) = values-fit t row aw s.assignments [] [] sees-it refl
    (front_nil values.faults met.faults rest) ([], refl, refl) in
    let passed = filter_typed s.filter row aw sees-it refl (back_nil values.faults met.faults rest)
    in
    ap (λ o. rows_fit (then (columns_of_table o)
    (λ cs. columns_and cs (places_in to.names (assigned s))))
    (kinds_of_query (rows_to_update s to row).value a)) e
    ∙ ap (λ o. rows_fit (then o (λ js. Some (ks ++ js)))
    (kinds_of_query (rows_to_update s to row).value a))
    (listed-places t (assigned s) (front_nil (target_faults to (assigned s))
    (values.faults ++ met.faults) p))
    ∙ ap (λ o. rows_fit (Some (ks ++ map (kind_named to) (assigned s))) o)
    (met-kinds s.table.name t values.value met.value vs a e is passed)
    ∙ each-fits-more ks ks (map (kind_named to) (assigned s)) vs (each-fits-itself ks) fit

abbrev update-at : Update → Option RowType → Seen → Noted BoundUpdate
update-at s t seen = (table_source s.table None t >>= put_comma nothing_open) >>= λ so. update_in s
    (target_of t) (in_row seen so)

update-over : (s : Update) (t : Option RowType) (seen : Seen) (a : Around) → Sees seen a →
    a.tables s.table.name ≡ t → (update-at s t seen).faults ≡ [] →
    update_typed (update-at s t seen).value a ≡ true
update-over s None seen a sees e p = absurd cc
update-over s (Some t) seen a sees e p = update-in s t seen a sees e p

pub update-typed : (s : Update) (seen : Seen) (a : Around) → Sees seen a →
    (judged_update s seen).faults ≡ [] → update_typed (judged_update s seen).value a ≡ true
update-typed s seen a sees p = update-over s _ (inside_writing seen) a (sees-writing seen a sees)
    (sees.tables s.table.name) p

-- ---- DELETE

abbrev delete-at : Delete → Option RowType → Seen → Noted BoundDelete
delete-at s t seen = as_value (of_rows s (target_of t))
    ((table_source s.table None t >>= put_comma nothing_open) >>= λ so. judged_where s.filter
    (in_row seen so))

delete-over : (s : Delete) (t : Option RowType) (seen : Seen) (a : Around) → Sees seen a →
    a.tables s.table.name ≡ t → (delete-at s t seen).faults ≡ [] →
    delete_typed (delete-at s t seen).value a ≡ true
delete-over s None seen a sees e p = absurd cc
delete-over s (Some t) seen a sees e p =
    let ks = columns-of t in
    let row = in_row seen (opened-at s.table (Some t)) in
    let met = judged_where s.filter row in
    let passed = filter_typed s.filter row (with_row ks a) (sees-table s.table t seen a sees) refl p
    in
    ap (λ o. rows_fit (columns_of_table o) (kinds_of_query
    (met_query s.table.name (length ks) [] met.value) a)) e
    ∙ ap (λ o. rows_fit (Some ks) o) (met-kinds s.table.name t [] met.value [] a e refl passed)
    ∙ ap (each_fits ks) (append-nil ks) ∙ each-fits-itself ks

pub delete-typed : (s : Delete) (seen : Seen) (a : Around) → Sees seen a →
    (judged_delete s seen).faults ≡ [] → delete_typed (judged_delete s seen).value a ≡ true
delete-typed s seen a sees p = delete-over s _ (inside_writing seen) a (sees-writing seen a sees)
    (sees.tables s.table.name) p
