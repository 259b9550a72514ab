-- VALUES and SELECT without faults: what is noted is what they use, and they have plans
-- where each function that is used has one.
use Rattle.std.proofs.Common.{◌≡◌, refl, sym, ap, ap₂, ◌∙◌, subst, arith, ℕ, suc, Bool, true, false}
use Rattle.std.proofs.Common.{not, ◌||◌, ◌&&◌, nat_eq, ◌==◌, List, [], ◌∷◌, ◌++◌, append_assoc, map}
use Rattle.std.proofs.Common.{length, Option, Some, None}
use Rattle.std.specs.Prelude.{is_some}
use Rattle.std.specs.List.{list_any}
use Rattle.std.proofs.lemmas.Bool.{and_parts, and_from, or_parts}
use Rattle.std.proofs.lemmas.Bool.Decides.{nat_tests}
use Rattle.std.proofs.lemmas.List.{append-nil}
use Rattle.syntax_trees.specs.declared.anchor.Anchor.{Anchor}
use Rattle.syntax_trees.specs.declared.anchor.ColumnName.{ColumnName}
use Rattle.bound_trees.specs.declared.expr.BoundExpr.{BoundExpr}
use Rattle.bound_trees.specs.declared.expr.BoundExpr.TheOpen.{BoundGrouping-F}
use Rattle.bound_trees.specs.declared.expr.BoundLink.{BoundLink}
use Rattle.bound_trees.specs.declared.query.BoundFromItem.{BoundFromItem}
use Rattle.bound_trees.specs.declared.query.BoundGrouping.{BoundGrouping, roll-BoundGrouping}
use Rattle.bound_trees.specs.declared.query.BoundQuery.{BoundQuery}
use Rattle.bound_trees.specs.declared.query.BoundQuery.TheVariants as bound
use Rattle.bound_trees.specs.declared.query.BoundRow.{BoundRow}
use Rattle.bound_trees.specs.declared.query.BoundRow.TheVariants.{Row}
use Rattle.bound_trees.specs.declared.query.BoundSelect.{BoundSelect, roll-BoundSelect}
use Rattle.bound_trees.specs.declared.query.BoundSource.{BoundSource}
use Rattle.rel_algebra.specs.Tree.{count, Rows, NoRow, MoreRows}
use Rattle.rel_algebra.specs.Joins.{rows_width}
use Rattle.rel_algebra.specs.Plain.{all_even, planned, planned_all, planned_from, planned_rows}
use Rattle.catalog_store.specs.Planning.{AllPlanned}
use Rattle.catalog_store.specs.Uses.{Uses, joined, uses_in, uses_in_row, uses_in_item}
use Rattle.catalog_store.specs.View.{exprs_of, rows_of, row_of, from_of, item_of, selected as view}
use Rattle.catalog_store.proofs.Laws.{uses_in_query-Select, uses_in_query-Values}
use Rattle.catalog_store.proofs.Laws.{uses_in_select-made, uses_in_row-Row, row_of-Row}
use Rattle.catalog_store.proofs.Laws.{query_of-Select, query_of-Values, select_of-made}
use Rattle.catalog_store.proofs.Laws.{grouping_uses-at, grouping_of-at}
use Rattle.bind_faults.specs.Faults.{fault_if}
use Rattle.bind_faults.specs.declared.fault.FaultKind.TheVariants.{WrongCount}
use Rattle.bind_kinds.specs.declared.kind.Kind.{Kind}
use Rattle.bind_kinds.specs.declared.kind.OperandHead.{OperandHead}
use Rattle.bind_kinds.specs.Kinds.{in_turn, joined_row}
use Rattle.bind_sight.specs.Sight.{Level, Seen, may_stand, inside, without_aggregates}
use Rattle.bind_sight.specs.Sight.{inside_values}
use Rattle.bind_parts.specs.declared.aggregates.Parts.{Parts}
use Rattle.bind_parts.specs.declared.from.Opened.{Opened}
use Rattle.bind_parts.specs.declared.values.TypedRows.{TypedRows}
use Rattle.bind_parts.specs.From.{row_level, list_level}
use Rattle.bind_parts.specs.Grouping.{is_written, grouping_of, no_grouping}
use Rattle.bind_parts.specs.Lists.{no_outputs}
use Rattle.bind_parts.specs.Selects.{grouping_bound}
use Rattle.bind_parts.specs.Typed.{no_parts, first_parts}
use Rattle.bind_parts.specs.Turns.{each_noted}
use Rattle.bind_parts.specs.ValueRows.{anchor_of_row, row_faults, with_row, no_rows}
use Rattle.bind_queries.specs.Judges.{Expression, JudgedItem, JudgedRow, all_of}
use Rattle.bind_queries.specs.Lists.{judged_items, judged_filter, judged_having}
use Rattle.bind_queries.specs.Selects.{grouped, selected}
use Rattle.bind_queries.specs.ValueRows.{judged_row, one_row, width_of, judged_rows, judged_values}
use Rattle.bind_queries.proofs.Sets.{Names, front_nil, back_nil, no_fault, equal}
use Rattle.bind_queries.proofs.Marks.{Known, known_in, Mark, ◌⊕◌, Covers, covers-as, covers-both}
use Rattle.bind_queries.proofs.Marks.{covers-nothing, between, grown-alone, right-nothing}
use Rattle.bind_queries.proofs.Marks.{and-assoc, marks, marks-append, Alike, alike-same, alike-is}
use Rattle.bind_queries.proofs.Marks.{alike-then, alike-both, alike-self, alike-swap}
use Rattle.bind_queries.proofs.Marks.{alike-outwards, alike-inwards}
use Rattle.bind_queries.proofs.Bound.{query-mark}
use Rattle.bind_queries.proofs.Forms.{AllFitting, QueryFits, all-grow, as-many}
use Rattle.bind_queries.proofs.Clauses.{AllItems, items-fit, MaybeFits, filter-fits, having-fits}
use Rattle.bind_queries.proofs.Clauses.{keys-fit}
use Rattle.bind_queries.proofs.Froms.{item-marks, from-planned}

-- ---- lengths

joined-length : (ks : List Kind) (hs : List OperandHead) → length (joined_row ks hs) ≡ length ks
joined-length [] hs = refl
joined-length (k ∷ ks) [] = refl
joined-length (k ∷ ks) (h ∷ hs) = ap (λ n. suc n) (joined-length ks hs)

counted : (known : Known) (es : List BoundExpr) → count (exprs_of known.catalog es) ≡ length es
counted known [] = refl
counted known (e ∷ es) = ap (λ n. suc n) (counted known es)

same_number : (a b : ℕ) → a ≡ b → nat_eq a b ≡ true
same_number a b p = grind (arith, nat_tests)

number_from : (a b : ℕ) → nat_eq a b ≡ true → a ≡ b
number_from a b p = grind (arith, nat_tests)

even : (n : ℕ) (rows : Rows) → all_even n rows ≡ true → all_even (rows_width rows) rows ≡ true
even n NoRow p = refl
even n (MoreRows es rows) p =
    subst (λ m. all_even m (MoreRows es rows) ≡ true)
    (sym (number_from (count es) n (and_parts (nat_eq (count es) n) (all_even n rows) p).0)) p

-- no aggregate may stand in VALUES
none-in-values : (ls : List Level) → may_stand (without_aggregates ls) ≡ false
none-in-values [] = refl
none-in-values (l ∷ ls) = refl

module _ (known : Known) (planned_all_names : AllPlanned known.catalog) where
  abbrev made : Uses → Bool → Mark
  made us b = record { uses = us; planned = b }

  -- ---- VALUES

  abbrev row-mark : BoundRow → Mark
  row-mark r = made (uses_in_row r) (planned_all (row_of known.catalog r))

  abbrev row-marks : List BoundRow → Mark
  row-marks rs = made (joined (map uses_in_row rs)) (planned_rows (rows_of known.catalog rs))

  alike-row : (es : List BoundExpr) → Alike known (marks known es) (row-marks (Row es ∷ []))
  alike-row es =
      alike-then known (marks known es) (row-mark (Row es)) (row-marks (Row es ∷ []))
      (alike-same known (marks known es) (row-mark (Row es)) (uses_in_row-Row es)
      (λ p. ap planned_all (row_of-Row known.catalog es) ∙ p))
      (alike-is known (row-mark (Row es)) (row-marks (Row es ∷ []))
      (right-nothing known (row-mark (Row es))))

  rows-append : (xs ys : List BoundRow) → row-marks (xs ++ ys) ≡ (row-marks xs ⊕ row-marks ys)
  rows-append [] ys = refl
  rows-append (x ∷ xs) ys =
      ap (λ m. row-mark x ⊕ m) (rows-append xs ys)
      ∙ ap₂ made (sym (append_assoc (uses_in_row x) (row-marks xs).uses (row-marks ys).uses))
      (and-assoc known (row-mark x).planned (row-marks xs).planned (row-marks ys).planned)

  even-append : (n : ℕ) (rs : List BoundRow) (es : List BoundExpr) →
      all_even n (rows_of known.catalog rs) ≡ true → length es ≡ n →
      all_even n (rows_of known.catalog (rs ++ Row es ∷ [])) ≡ true
  even-append n [] es p q = and_from (nat_eq (count (row_of known.catalog (Row es))) n) true
      (same_number (count (row_of known.catalog (Row es))) n
      (ap count (row_of-Row known.catalog es) ∙ counted known es ∙ q)) refl
  even-append n (x ∷ rs) es p q =
      let both = and_parts (nat_eq (count (row_of known.catalog x)) n)
      (all_even n (rows_of known.catalog rs)) p in
      and_from (nat_eq (count (row_of known.catalog x)) n)
      (all_even n (rows_of known.catalog (rs ++ Row es ∷ []))) both.0
      (even-append n rs es both.1 q)

  abbrev pub AllRows : List JudgedRow → Type 0
  AllRows [] = Unit {0}
  AllRows (r ∷ rs) = AllFitting known planned_all_names r × AllRows rs

  module _ (at : Anchor) (targets : List Kind) (s : Seen) (m : may_stand s.levels ≡ false)
      (is : known_in s ≡ known) where
    row-even : (ks : List Kind) (r : JudgedRow) → (judged_row at targets s ks r).faults ≡ [] →
        length (judged_row at targets s ks r).value.trees ≡ length ks
    row-even ks es p =
        let so = all_of s no_parts es in
        let heads = so.value.value.heads in
        let kinds = in_turn ks heads ++ in_turn targets heads in
        let asked = back_nil so.faults (row_faults at targets ks heads) p in
        let many = front_nil (fault_if (not (length heads == length ks)) WrongCount
        (anchor_of_row at heads)) kinds asked in
        as-many known planned_all_names s no_parts es ∙
        equal (length heads) (length ks) (no_fault _ _ (anchor_of_row at heads) many)

    rows-fit : (rs : List JudgedRow) (so : TypedRows) (n : ℕ) (u : Names) → AllRows rs →
        length so.kinds ≡ n → all_even n (rows_of known.catalog so.rows) ≡ true →
        Covers known u (row-marks so.rows)
        → (each_noted (one_row at targets s) so rs).faults ≡ []
        → (all_even n (rows_of known.catalog (each_noted (one_row at targets s) so rs).value.rows) ≡
        true)
        × Covers known (u ++ (each_noted (one_row at targets s) so rs).uses)
        (row-marks (each_noted (one_row at targets s) so rs).value.rows)
    rows-fit [] so n u fs k q c p = (
      q,
      subst (λ v. Covers known v (row-marks so.rows))
          (sym (append-nil u)) c,
    )
    rows-fit (r ∷ rs) so n u fs k q c p =
        let row = judged_row at targets s so.kinds r in
        let more = with_row so row.value in
        let rest = each_noted (one_row at targets s) more rs in
        let free = front_nil row.faults rest.faults p in
        let all = all_of s no_parts r in
        let one = grown-alone known s no_parts all.value.parts all.uses
        (marks known row.value.trees) m
        (all-grow known planned_all_names r s no_parts fs.0 is
        (front_nil all.faults (row_faults at targets so.kinds row.value.heads) free)) in
        let both = covers-as known (u ++ row.uses) (row-marks so.rows ⊕ marks known row.value.trees)
        (row-marks more.rows)
        (covers-both known u row.uses (row-marks so.rows) (marks known row.value.trees) c one)
        (alike-then known (row-marks so.rows ⊕ marks known row.value.trees)
        (row-marks so.rows ⊕ row-marks (Row row.value.trees ∷ [])) (row-marks more.rows)
        (alike-both known (row-marks so.rows) (row-marks so.rows) (marks known row.value.trees)
        (row-marks (Row row.value.trees ∷ [])) (alike-self known (row-marks so.rows))
        (alike-row row.value.trees))
        (alike-is known (row-marks so.rows ⊕ row-marks (Row row.value.trees ∷ []))
        (row-marks more.rows) (rows-append so.rows (Row row.value.trees ∷ [])))) in
        let whole = rows-fit rs more n (u ++ row.uses) fs.1
        (joined-length so.kinds row.value.heads ∙ k)
        (even-append n so.rows row.value.trees q (row-even so.kinds r free ∙ k)) both
        (back_nil row.faults rest.faults p) in (
          whole.0,
          subst (λ v. Covers known v (row-marks rest.value.rows))
              (append_assoc u row.uses rest.uses) whole.1,
        )

  pub values-fit : (at : Anchor) (rs : List JudgedRow) → AllRows rs →
      QueryFits known planned_all_names (λ targets s. judged_values at rs targets s)
  values-fit at rs fs targets s is e =
      let seen = inside_values s in
      let width = width_of rs in
      let so = judged_rows at targets rs seen in
      let rows = so.value.rows in
      let ok = rows-fit at targets seen (none-in-values s.levels) is rs (no_rows width)
      (length (no_rows width).kinds) [] fs refl refl (covers-nothing known) e in
      covers-as known so.uses (row-marks rows) (query-mark known (bound.Values rows)) ok.1
      (alike-same known (row-marks rows) (query-mark known (bound.Values rows))
      (uses_in_query-Values rows)
      (λ p. ap planned (query_of-Values known.catalog rows) ∙
      and_from (all_even (rows_width (rows_of known.catalog rows)) (rows_of known.catalog rows))
      (planned_rows (rows_of known.catalog rows)) (even _ (rows_of known.catalog rows) ok.0) p))

  -- ---- SELECT

  -- the marks of its clauses, in the order of the bound tree
  in-order : (f c k a i b h : Mark) → Alike known (f ⊕ ((c ⊕ k) ⊕ ((a ⊕ i) ⊕ (b ⊕ h))))
      (f ⊕ (c ⊕ ((((k ⊕ a) ⊕ b) ⊕ h) ⊕ i)))
  in-order f c k a i b h =
      alike-both known f f ((c ⊕ k) ⊕ ((a ⊕ i) ⊕ (b ⊕ h))) (c ⊕ ((((k ⊕ a) ⊕ b) ⊕ h) ⊕ i))
      (alike-self known f)
      (alike-then known ((c ⊕ k) ⊕ ((a ⊕ i) ⊕ (b ⊕ h))) (c ⊕ (k ⊕ ((a ⊕ i) ⊕ (b ⊕ h))))
      (c ⊕ ((((k ⊕ a) ⊕ b) ⊕ h) ⊕ i)) (alike-outwards known c k ((a ⊕ i) ⊕ (b ⊕ h)))
      (alike-both known c c (k ⊕ ((a ⊕ i) ⊕ (b ⊕ h))) ((((k ⊕ a) ⊕ b) ⊕ h) ⊕ i) (alike-self known c)
      (rest k a i b h)))
    where
      rest : (k a i b h : Mark) → Alike known (k ⊕ ((a ⊕ i) ⊕ (b ⊕ h))) ((((k ⊕ a) ⊕ b) ⊕ h) ⊕ i)
      rest k a i b h =
          alike-then known (k ⊕ ((a ⊕ i) ⊕ (b ⊕ h))) (k ⊕ ((a ⊕ b) ⊕ (i ⊕ h)))
          ((((k ⊕ a) ⊕ b) ⊕ h) ⊕ i)
          (alike-both known k k ((a ⊕ i) ⊕ (b ⊕ h)) ((a ⊕ b) ⊕ (i ⊕ h)) (alike-self known k)
          (between known a i b h))
          (alike-then known (k ⊕ ((a ⊕ b) ⊕ (i ⊕ h))) ((k ⊕ (a ⊕ b)) ⊕ (i ⊕ h))
          ((((k ⊕ a) ⊕ b) ⊕ h) ⊕ i) (alike-inwards known k (a ⊕ b) (i ⊕ h))
          (alike-then known ((k ⊕ (a ⊕ b)) ⊕ (i ⊕ h)) (((k ⊕ a) ⊕ b) ⊕ (h ⊕ i))
          ((((k ⊕ a) ⊕ b) ⊕ h) ⊕ i)
          (alike-both known (k ⊕ (a ⊕ b)) ((k ⊕ a) ⊕ b) (i ⊕ h) (h ⊕ i) (alike-inwards known k a b)
          (alike-swap known i h))
          (alike-inwards known ((k ⊕ a) ⊕ b) h i)))

  -- what a SELECT of these clauses uses
  select-alike : (b : Bool) (keys : ℕ) (parts : Parts) (from : List BoundFromItem)
      (conjuncts having items : List BoundExpr) → (b ≡ false → (parts.trees ≡ []) × (having ≡ []))
      → Alike known (item-marks known planned_all_names from ⊕
      (marks known conjuncts ⊕ ((marks known parts.trees ⊕ marks known having) ⊕ marks known
      items)))
      (query-mark known
      (bound.Select
      (roll-BoundSelect (record {
        items = items;
        from = from;
        conjuncts = conjuncts;
        grouping =
            grouping_bound b keys parts having;
      }))))
  select-alike true keys parts from conjuncts having items n =
      let g : BoundGrouping-F BoundExpr BoundFromItem BoundQuery BoundRow BoundSource BoundLink
      BoundGrouping BoundSelect =
      record { keys = keys; parts = parts.trees; aggregates = parts.aggregates; having = having } in
      let select = roll-BoundSelect (record {
        items = items;
        from = from;
        conjuncts = conjuncts;
        grouping = grouping_bound true keys parts having;
      }) in
      let f = (item-marks known planned_all_names from).planned in
      let cj = (marks known conjuncts).planned in
      let ps = (marks known parts.trees).planned in
      let hs = (marks known having).planned in
      let is = (marks known items).planned in
      alike-same known _ (query-mark known (bound.Select select))
      (uses_in_query-Select select ∙ uses_in_select-made items from conjuncts
      (Some (roll-BoundGrouping g))
      ∙ ap (λ z. joined (map uses_in_item from) ++
      (joined (map uses_in conjuncts) ++ (z ++ joined (map uses_in items))))
      (grouping_uses-at g))
      (λ p.
      let all = and_parts f (cj && ((ps && hs) && is)) p in
      let after = and_parts cj ((ps && hs) && is) all.1 in
      let lists = and_parts (ps && hs) is after.1 in
      let groups = and_parts ps hs lists.0 in
      ap planned (query_of-Select known.catalog select ∙
      select_of-made known.catalog items from conjuncts (Some (roll-BoundGrouping g))
      ∙ ap (λ z. view (Some z) (exprs_of known.catalog items)
      (from_of (map (item_of known.catalog) from)) (exprs_of known.catalog conjuncts))
      (grouping_of-at known.catalog g))
      ∙ and_from (planned_from (from_of (map (item_of known.catalog) from)))
      (cj && (ps && (hs && is))) (from-planned (map (item_of known.catalog) from) all.0)
      (and_from cj (ps && (hs && is)) after.0
      (and_from ps (hs && is) groups.0 (and_from hs is groups.1 lists.1))))
  select-alike false keys parts from conjuncts having items n =
      let select = roll-BoundSelect (record {
        items = items;
        from = from;
        conjuncts = conjuncts;
        grouping = grouping_bound false keys parts having;
      }) in
      let f = (item-marks known planned_all_names from).planned in
      let cj = (marks known conjuncts).planned in
      let ps = (marks known parts.trees).planned in
      let hs = (marks known having).planned in
      let is = (marks known items).planned in
      let none = n refl in
      alike-same known _ (query-mark known (bound.Select select))
      (uses_in_query-Select select ∙ uses_in_select-made items from conjuncts None
      ∙ ap₂ (λ (x y : List BoundExpr). joined (map uses_in_item from) ++
      (joined (map uses_in conjuncts) ++ ((joined (map uses_in x) ++ joined (map uses_in y)) ++
      joined (map uses_in items)))) (sym none.0) (sym none.1))
      (λ p.
      let all = and_parts f (cj && ((ps && hs) && is)) p in
      let after = and_parts cj ((ps && hs) && is) all.1 in
      let lists = and_parts (ps && hs) is after.1 in
      ap planned (query_of-Select known.catalog select ∙
      select_of-made known.catalog items from conjuncts None)
      ∙ and_from is (planned_from (from_of (map (item_of known.catalog) from)) && cj) lists.1
      (and_from (planned_from (from_of (map (item_of known.catalog) from))) cj
      (from-planned (map (item_of known.catalog) from) all.0) after.0))

  -- ---- whole

  none-written : (cs : List ColumnName) → is_written cs ≡ false → cs ≡ []
  none-written [] p = refl
  none-written (c ∷ cs) p = absurd cc

  none-there : (o : Option Expression) → is_some o ≡ false → o ≡ None
  none-there None p = refl
  none-there (Some x) p = absurd cc

  pub selected-fits : (at : Anchor) (items : List JudgedItem) (filter : Option Expression)
      (group_by : List ColumnName) (having : Option Expression) (targets : List Kind) (s : Seen)
      (so : Opened) (u : Names)
      → AllItems known planned_all_names items → MaybeFits known planned_all_names filter →
      MaybeFits known planned_all_names having → known_in s ≡ known
      → Covers known u (item-marks known planned_all_names so.from) →
      (selected at items filter group_by having targets s so).faults ≡ []
      → Covers known (u ++ (selected at items filter group_by having targets s so).uses)
      (query-mark known (selected at items filter group_by having targets s so).value.tree)
  selected-fits at items filter group_by having targets s so u fi ff fh is c e =
      let row = inside (row_level so) s in
      let cj = judged_filter filter row in
      let g = grouping_of group_by row in
      let b = grouped items group_by having in
      let seen = inside (list_level so g.value.keys b) s in
      let parts = first_parts g.value.trees in
      let l = judged_items items parts seen in
      let asked = in_turn targets l.value.heads in
      let h = judged_having having seen l.value.parts in
      let first = front_nil (cj.faults ++ g.faults) ((l.faults ++ asked) ++ h.faults) e in
      let second = back_nil (cj.faults ++ g.faults) ((l.faults ++ asked) ++ h.faults) e in
      let k = keys-fit known planned_all_names group_by row no_grouping
      (back_nil cj.faults g.faults first) in
      let ls = items-fit known planned_all_names items seen (no_outputs parts) fi is
      (front_nil l.faults asked (front_nil (l.faults ++ asked) h.faults second)) in
      let hs = having-fits known planned_all_names having seen l.value.parts fh is
      (back_nil (l.faults ++ asked) h.faults second) in
      let F = item-marks known planned_all_names so.from in
      let CJ = marks known cj.value in
      let A = marks known ls.0 in
      let I = marks known ls.1 in
      let B = marks known hs.0 in
      let H = marks known h.value.value in
      let K = marks known k.0 in
      let all = covers-both known u ((cj.uses ++ g.uses) ++ (l.uses ++ h.uses)) F
      ((CJ ⊕ K) ⊕ ((A ⊕ I) ⊕ (B ⊕ H))) c
      (covers-both known (cj.uses ++ g.uses) (l.uses ++ h.uses) (CJ ⊕ K) ((A ⊕ I) ⊕ (B ⊕ H))
      (covers-both known cj.uses g.uses CJ K (filter-fits known planned_all_names filter row refl ff
      is (front_nil cj.faults g.faults first)) k.1)
      (covers-both known l.uses h.uses (A ⊕ I) (B ⊕ H) ls.4 hs.2)) in
      let trees : h.value.parts.trees ≡ (k.0 ++ ls.0) ++ hs.0 = hs.1 ∙
      ap (λ z. z ++ hs.0) (ls.2 ∙ ap (λ z. z ++ ls.0) k.2) in
      let whole : marks known h.value.parts.trees ≡ ((K ⊕ A) ⊕ B) =
      ap (marks known) trees ∙ marks-append known (k.0 ++ ls.0) hs.0 ∙
      ap (λ z. z ⊕ B) (marks-append known k.0 ls.0) in
      covers-as known (u ++ ((cj.uses ++ g.uses) ++ (l.uses ++ h.uses)))
      (F ⊕ ((CJ ⊕ K) ⊕ ((A ⊕ I) ⊕ (B ⊕ H)))) _ all
      (alike-then known (F ⊕ ((CJ ⊕ K) ⊕ ((A ⊕ I) ⊕ (B ⊕ H))))
      (F ⊕ (CJ ⊕ ((((K ⊕ A) ⊕ B) ⊕ H) ⊕ I))) _ (in-order F CJ K A I B H)
      (alike-then known (F ⊕ (CJ ⊕ ((((K ⊕ A) ⊕ B) ⊕ H) ⊕ I)))
      (F ⊕ (CJ ⊕ ((marks known h.value.parts.trees ⊕ H) ⊕ marks known l.value.trees))) _
      (alike-is known (F ⊕ (CJ ⊕ ((((K ⊕ A) ⊕ B) ⊕ H) ⊕ I)))
      (F ⊕ (CJ ⊕ ((marks known h.value.parts.trees ⊕ H) ⊕ marks known l.value.trees)))
      (ap₂ (λ (x y : Mark). F ⊕ (CJ ⊕ ((x ⊕ H) ⊕ y))) whole (ap (marks known) ls.3)))
      (select-alike b (length g.value.keys) h.value.parts so.from cj.value h.value.value
      l.value.trees
      (λ n.
      let any = list_any (λ (i : JudgedItem). i.aggregates) items in
      let written = or_parts (is_written group_by) (is_some having || any) n in
      let there = or_parts (is_some having) any written.1 in
      let no-keys : k.0 ≡ [] = sym k.2 ∙ ap (λ cs. (grouping_of cs row).value.trees)
      (none-written group_by written.0) in (
        trees ∙ ap₂ (λ (x y : List BoundExpr). x ++ y)
            (ap₂ (λ (x y : List BoundExpr). x ++ y) no-keys (ls.5 n)) (hs.3 n),
        ap (λ o. (judged_having o seen l.value.parts).value.value) (none-there having there.0),
      )))))
