-- SELECT without faults: what it is bound to is well typed.
use Rattle.std.proofs.Common.{◌≡◌, refl, sym, ap, ◌∙◌, subst, ℕ, zero, suc, Bool, true, false, List}
use Rattle.std.proofs.Common.{[], ◌∷◌, ◌++◌, map, length, drop, Option, Some, None}
use Rattle.std.proofs.Math.Seq.{drop-append_seam}
use Rattle.std.proofs.lemmas.List.{append-nil, map-append}
use Rattle.sql_values.specs.declared.fold.FoldKind.{FoldKind}
use Rattle.syntax_trees.specs.declared.anchor.Anchor.{Anchor}
use Rattle.syntax_trees.specs.declared.anchor.ColumnName.{ColumnName}
use Rattle.bound_trees.specs.declared.expr.BoundExpr.{BoundExpr}
use Rattle.bound_trees.specs.declared.query.BoundFromItem.{BoundFromItem}
use Rattle.bound_trees.specs.declared.query.BoundQuery.TheVariants as bound
use Rattle.bound_trees.specs.declared.query.BoundSelect.{BoundSelect, roll-BoundSelect}
use Rattle.bind_faults.specs.Faults.{Noted}
use Rattle.bind_kinds.specs.declared.kind.Kind.{Kind}
use Rattle.bind_kinds.specs.Kinds.{in_turn as turn_faults}
use Rattle.bind_sight.specs.Sight.{Seen, inside}
use Rattle.bind_parts.specs.declared.aggregates.Parts.{Parts}
use Rattle.bind_parts.specs.declared.from.Opened.{Opened}
use Rattle.bind_parts.specs.declared.grouping.Grouping.{Grouping}
use Rattle.bind_parts.specs.declared.list.Outputs.{Outputs}
use Rattle.bind_parts.specs.From.{row_level, list_level}
use Rattle.bind_parts.specs.Grouping.{grouping_of}
use Rattle.bind_parts.specs.Lists.{no_outputs}
use Rattle.bind_parts.specs.Selects.{grouping_bound, select_typed}
use Rattle.bind_parts.specs.Typed.{Beside, first_parts}
use Rattle.bind_queries.specs.Judges.{Expression, JudgedItem}
use Rattle.bind_queries.specs.Lists.{judged_items, judged_filter, judged_having}
use Rattle.bind_queries.specs.Selects.{with_having, grouped, selected as judged}
use Rattle.bind_queries.proofs.Laws.{front_nil, back_nil}
use Rattle.typing_trees.specs.Around.{Around, with_row, then, only_if}
use Rattle.typing_trees.specs.Kinds.{in_turn}
use Rattle.typing_trees.specs.Queries.{FromRow, GroupKinds, kind_of, kinds_of, kinds_of_item}
use Rattle.typing_trees.specs.Queries.{kinds_of_query, tests, whole_row, nothing_joined}
use Rattle.typing_trees.specs.Queries.{items_joined, aggregate_kinds, group_row, listed, list_kinds}
use Rattle.typing_trees.specs.Queries.{selected}
use Rattle.typing_queries.proofs.Below.{HasAll}
use Rattle.typing_queries.proofs.Fits.{kinds}
use Rattle.typing_queries.proofs.Layers.{select-kinds, ungrouped-kinds, grouped-kinds}
use Rattle.typing_queries.proofs.Levels.{sees-row, sees-list, sees-inside, keys-typed}
use Rattle.typing_queries.proofs.Sees.{Sees}
use Rattle.typing_queries.proofs.Shapes.{Aggregating, Follows, Joined, Opens, kinds_joined}
use Rattle.typing_queries.proofs.Shapes.{kinds_shown}
use Rattle.typing_queries.proofs.Growing.{kinds-append, grown-then, grown-alone}
use Rattle.typing_queries.proofs.Lists.{AllItems, AreOf, AreTests, MaybeFits, filter-fits}
use Rattle.typing_queries.proofs.Lists.{having-fits, items-fit, stored-in-turn}

-- ---- the row of a group

pub row-of-group : (n : ℕ) (ks js : List Kind) (fs : List FoldKind) (gs : List Kind) →
    length ks ≡ n → aggregate_kinds js fs ≡ Some gs → group_row n (ks ++ js) fs ≡ Some (ks ++ gs)
row-of-group zero [] js fs gs p q = q
row-of-group zero (k ∷ ks) js fs gs p q = absurd cc
row-of-group (suc n) [] js fs gs p q = absurd cc
row-of-group (suc n) (k ∷ ks) js fs gs p q = ap (λ z. then z (λ g. Some (k ∷ g)))
    (row-of-group n ks js fs gs (cc) q)

-- it has the aggregates after the grouping columns
follows-keys : (n : ℕ) (ks js : List Kind) (rows : List (List Kind)) → n ≡ length ks →
    Follows ((ks ++ js) ∷ rows) n js
follows-keys n ks js rows p = (
  [],
  ap (λ i. drop i (ks ++ js)) p ∙ drop-append_seam ks js ∙
      sym (append-nil js),
)

-- ---- kinds of a SELECT

where-holds : (b : Bool) (o : Option (List Kind)) (ks : List Kind) → b ≡ true → HasAll o ks →
    HasAll (only_if b o) ks
where-holds b o ks p h = subst (λ c. HasAll (only_if c o) ks) (sym p) h

over : {A : Type 0} (o : Option A) (x : A) (go : A → Option (List Kind)) (ks : List Kind) →
    o ≡ Some x → HasAll (go x) ks → HasAll (then o go) ks
over o x go ks p h = subst (λ z. HasAll (then z go) ks) (sym p) h

as-select : (s : BoundSelect) (a : Around) (o : Option (List Kind)) (ks : List Kind) →
    kinds_of_query (bound.Select s) a ≡ o → HasAll o ks →
    HasAll (kinds_of_query (bound.Select s) a) ks
as-select s a o ks p h = subst (λ z. HasAll z ks) (sym p) h

-- one that is not grouped
plain-select : (items : List BoundExpr) (from : List BoundFromItem) (conjuncts : List BoundExpr)
    (a : Around) (row : FromRow) (ks : List Kind) →
    items_joined a nothing_joined (map kinds_of_item from) ≡ Some row
    → AreTests conjuncts (with_row (whole_row row) a) →
    HasAll (kinds_of (with_row (whole_row row) a) (map kind_of items)) ks
    → HasAll (kinds_of_query
    (bound.Select (roll-BoundSelect (record {
      items = items;
      from = from;
      conjuncts = conjuncts;
      grouping = None;
    }))) a) ks
plain-select items from conjuncts a row ks p c h =
    let select = roll-BoundSelect (record {
      items = items;
      from = from;
      conjuncts = conjuncts;
      grouping = None;
    }) in
    as-select select a _ ks (select-kinds select a ∙ ungrouped-kinds items from conjuncts a)
    (over (items_joined a nothing_joined (map kinds_of_item from)) row
    (λ r. selected a (whole_row r) (map kind_of items) (map kind_of conjuncts) None) ks p
    (where-holds (tests (with_row (whole_row row) a) (map kind_of conjuncts))
    (kinds_of (with_row (whole_row row) a) (map kind_of items)) ks c h))

-- one that is grouped
group-select : (items : List BoundExpr) (from : List BoundFromItem) (conjuncts : List BoundExpr)
    (keys : ℕ) (parts : Parts) (having : List BoundExpr) (a : Around) (row : FromRow)
    (ps group ks : List Kind)
    → items_joined a nothing_joined (map kinds_of_item from) ≡ Some row →
    AreTests conjuncts (with_row (whole_row row) a)
    → kinds_of (with_row (whole_row row) a) (map kind_of parts.trees) ≡ Some ps →
    group_row keys ps parts.aggregates ≡ Some group
    → AreTests having (with_row group a) → HasAll (kinds_of (with_row group a) (map kind_of items))
    ks
    → HasAll (kinds_of_query
    (bound.Select (roll-BoundSelect (record {
      items = items;
      from = from;
      conjuncts = conjuncts;
      grouping = grouping_bound true keys parts having;
    }))) a) ks
group-select items from conjuncts keys parts having a row ps group ks p c q g t h =
    let select = roll-BoundSelect (record {
      items = items;
      from = from;
      conjuncts = conjuncts;
      grouping = grouping_bound true keys parts having;
    }) in
    let inner = with_row (whole_row row) a in
    let kinds-in : GroupKinds = record {
      keys = keys;
      parts = map kind_of parts.trees;
      aggregates =
          parts.aggregates;
      having = map kind_of having;
    } in
    as-select select a _ ks (select-kinds select a ∙
    grouped-kinds items from conjuncts keys parts.trees parts.aggregates having a)
    (over (items_joined a nothing_joined (map kinds_of_item from)) row
    (λ r. selected a (whole_row r) (map kind_of items) (map kind_of conjuncts) (Some kinds-in))
    ks p
    (where-holds (tests inner (map kind_of conjuncts))
    (list_kinds a (whole_row row) (map kind_of items) (Some kinds-in)) ks c
    (over (kinds_of inner (map kind_of parts.trees)) ps
    (λ js. then (group_row keys js parts.aggregates)
    (λ r. listed (with_row r a) (map kind_of having) (map kind_of items))) ks q
    (over (group_row keys ps parts.aggregates) group
    (λ r. listed (with_row r a) (map kind_of having) (map kind_of items)) ks g
    (where-holds (tests (with_row group a) (map kind_of having))
    (kinds_of (with_row group a) (map kind_of items)) ks t h)))))

-- ---- the list, and HAVING

module _ (items : List JudgedItem) (group_by : List ColumnName) (having : Option Expression)
    (s : Seen) (so : Opened) where
  abbrev groups : Noted Grouping
  groups = grouping_of group_by (inside (row_level so) s)

  abbrev within : Bool → Seen
  within b = inside (list_level so groups.value.keys b) s

  abbrev list : Bool → Noted Outputs
  list b = judged_items items (first_parts groups.value.trees) (within b)

  abbrev condition : Bool → Noted (Beside (List BoundExpr))
  condition b = judged_having having (within b) (list b).value.parts

  -- what the list shows are the kinds of its heads
  list-shown : (b : Bool) (a : Around) → AllItems items → (list b).faults ≡ [] →
      Aggregating (within b) a → kinds_shown (list b).value.columns ≡ kinds (list b).value.heads
  list-shown b a fi e may = (items-fit items (within b)
      (no_outputs (first_parts groups.value.trees)) fi e a may).shown refl

  -- the list is of the kinds of its heads around a row, or below
  abbrev ListTyped : Bool → Around → Type 0
  ListTyped b a = HasAll (kinds_of a (map kind_of (list b).value.trees))
      (kinds_shown (list b).value.columns)

  module _ (fi : AllItems items) (fh : MaybeFits having) (a : Around) (sees : Sees s a)
      (row : FromRow) (joined : Joined so row) where
    abbrev inner : Around
    inner = with_row (whole_row row) a

    list-may : (b : Bool) → Aggregating (within b) inner
    list-may b may = sees-inside so groups.value.keys b row s a joined sees

    ungrouped-list : (list false).faults ≡ [] → ListTyped false inner
    ungrouped-list e =
        let seen = within false in
        let parts = first_parts groups.value.trees in
        let l = items-fit items seen (no_outputs parts) fi e inner (list-may false) in
        subst (λ ks. HasAll (kinds_of inner (map kind_of (list false).value.trees)) ks)
        (sym (list-shown false inner fi e (list-may false) ∙ ap kinds l.after_heads))
        (subst (λ es. HasAll (kinds_of inner (map kind_of es)) (kinds l.heads)) (sym l.after_trees)
        (grown-alone inner seen parts (list false).value.parts (AreOf l.trees l.heads) refl l.grown
        inner (sees-list so groups.value.keys row s a joined sees)))

    grouped-select : (from : List BoundFromItem) (conjuncts : List BoundExpr) →
        items_joined a nothing_joined (map kinds_of_item from) ≡ Some row → AreTests conjuncts inner
        → groups.faults ≡ [] → (list true).faults ≡ [] → (condition true).faults ≡ []
        → HasAll (kinds_of_query (bound.Select
        (roll-BoundSelect (record {
          items = (list true).value.trees;
          from = from;
          conjuncts =
              conjuncts;
          grouping = grouping_bound true (length groups.value.keys)
              (condition true).value.parts (condition true).value.value;
        }))) a)
        (kinds_shown (list true).value.columns)
    grouped-select from conjuncts p c eg el eh =
        let seen = within true in
        let first = first_parts groups.value.trees in
        let last = (condition true).value.parts in
        let l = items-fit items seen (no_outputs first) fi el inner (list-may true) in
        let h = having-fits having seen (list true).value.parts fh eh inner (list-may true) in
        let all = grown-then inner seen first (list true).value.parts last (AreOf l.trees l.heads)
        (AreTests (condition true).value.value) l.grown h in
        let k = keys-typed group_by so row s a joined sees eg in
        let group = k.0 ++ all.kinds in
        let claims = all.claim (with_row group a) (k.4 all.kinds)
        (follows-keys (length groups.value.trees) k.0 all.kinds a.rows (k.3 ∙ sym k.2)) in
        let parts-typed : kinds_of inner (map kind_of last.trees) ≡ Some (k.0 ++ all.finished.0) =
        ap (λ (es : List BoundExpr). kinds_of inner (map kind_of es)) all.later ∙
        ap (kinds_of inner) (map-append kind_of groups.value.trees all.trees)
        ∙ kinds-append inner (map kind_of groups.value.trees) (map kind_of all.trees) k.0
        all.finished.0 k.1 all.finished.1 in
        group-select (list true).value.trees from conjuncts (length groups.value.keys) last
        (condition true).value.value a row (k.0 ++ all.finished.0) group
        (kinds_shown (list true).value.columns) p c
        parts-typed
        (ap (λ (fs : List FoldKind). group_row (length groups.value.keys) (k.0 ++ all.finished.0)
        fs) all.aggregates
        ∙ row-of-group (length groups.value.keys) k.0 all.finished.0 all.folds all.kinds k.2
        all.finished.2)
        claims.1
        (subst (λ ks. HasAll (kinds_of (with_row group a) (map kind_of (list true).value.trees)) ks)
        (sym (list-shown true inner fi el (list-may true) ∙ ap kinds l.after_heads))
        (subst (λ es. HasAll (kinds_of (with_row group a) (map kind_of es)) (kinds l.heads))
        (sym l.after_trees) claims.0))

    pub listed-fits : (b : Bool) (at : Anchor) (conjuncts : List BoundExpr) →
        kinds_joined so a ≡ Some row → AreTests conjuncts inner
        → groups.faults ≡ [] → (list b).faults ≡ [] → (condition b).faults ≡ []
        → HasAll (kinds_of_query (select_typed at so.from conjuncts b (length groups.value.keys)
        (with_having (list b).value (condition b).value)).tree a)
        (kinds_shown (list b).value.columns)
    listed-fits false at conjuncts p c eg el eh =
        plain-select (list false).value.trees so.from conjuncts a row
        (kinds_shown (list false).value.columns) p c (ungrouped-list el)
    listed-fits true at conjuncts p c eg el eh = grouped-select so.from conjuncts p c eg el eh

    pub listed-shown : (b : Bool) → (list b).faults ≡ [] →
        kinds_shown (list b).value.columns ≡ kinds (list b).value.heads
    listed-shown b e = list-shown b inner fi e (list-may b)

-- ---- whole

pub selected-fits : (at : Anchor) (items : List JudgedItem) (filter : Option Expression)
    (group_by : List ColumnName) (having : Option Expression) (targets : List Kind) (s : Seen)
    (so : Opened)
    → AllItems items → MaybeFits filter → MaybeFits having →
    (judged at items filter group_by having targets s so).faults ≡ [] → (a : Around) →
    Sees s a → Opens so a
    → HasAll (kinds_of_query (judged at items filter group_by having targets s so).value.tree a)
    (kinds_shown (judged at items filter group_by having targets s so).value.columns)
    × (in_turn targets
    (kinds_shown (judged at items filter group_by having targets s so).value.columns) ≡ true)
selected-fits at items filter group_by having targets s so fi ff fh e a sees opens =
    let seen-row = inside (row_level so) s in
    let cj = judged_filter filter seen-row in
    let g = grouping_of group_by seen-row in
    let b = grouped items group_by having in
    let seen = inside (list_level so g.value.keys b) s in
    let l = judged_items items (first_parts g.value.trees) seen in
    let asked = turn_faults targets l.value.heads in
    let h = judged_having having seen l.value.parts in
    let first = front_nil (cj.faults ++ g.faults) ((l.faults ++ asked) ++ h.faults) e in
    let second = back_nil (cj.faults ++ g.faults) ((l.faults ++ asked) ++ h.faults) e in
    let free = front_nil (l.faults ++ asked) h.faults second in
    let row = opens.0 in
    let conjuncts = filter-fits filter seen-row refl ff (front_nil cj.faults g.faults first)
    (with_row (whole_row row) a) (sees-row so row s a opens.2 sees) in (
      listed-fits items group_by having s so fi fh a sees row opens.2 b at cj.value opens.1
          conjuncts (back_nil cj.faults g.faults first) (front_nil l.faults asked free)
          (back_nil (l.faults ++ asked) h.faults second),
      subst (λ ks. in_turn targets ks ≡ true)
          (sym (listed-shown items group_by having s so fi fh a sees row opens.2 b
          (front_nil l.faults asked free)))
          (stored-in-turn targets l.value.heads (back_nil l.faults asked free)),
    )
