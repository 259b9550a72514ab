-- FROM and queries over it: the row of FROM so far beside the plain tree so far.
use Rattle.std.proofs.Common.{◌≡◌, ℕ, ◌+◌, true, ◌&&◌, List, [], ◌∷◌, ◌++◌}
use Rattle.std.proofs.Common.{length, Option, Some, None, refl, sym, ap, ◌∙◌, subst, arith}
use Rattle.std.proofs.lemmas.List.{length-append}
use Rattle.bind_kinds.specs.declared.kind.Kind.{Kind}
use Rattle.rel_algebra.specs.Tree.{Exprs, From}
use Rattle.rel_algebra.specs.Joins.{from_width}
use Rattle.rel_algebra.specs.Plain.{planned_all, planned_from}
use Rattle.rel_algebra.specs.WellFormed.{ShapedAll, ShapedFrom}
use Rattle.catalog_store.specs.View.{Grouping, Joining, after_comma, crossing, matching}
use Rattle.catalog_store.specs.View.{matching_or_nulls, Joined, beside, grown, all_grown}
use Rattle.catalog_store.specs.View.{begun, from_of}
use Rattle.catalog_store.specs.View.{selected as selected_tree}
use Rattle.typing_trees.specs.Around.{Around, with_row, then}
use Rattle.typing_trees.specs.Queries.{ExprKind, QueryKinds, FromKinds, FromRow, GroupKinds}
use Rattle.typing_trees.specs.Queries.{nothing_joined, past_comma, joined_with, joined_on}
use Rattle.typing_trees.specs.Queries.{whole_row}
use Rattle.typing_trees.specs.Queries.{items_joined, selected, list_kinds, group_row, kinds_of}
use Rattle.typing_trees.specs.Queries.{tests}
use Rattle.typing_plans.specs.Shaping.{TablesWide}
use Rattle.typing_plans.proofs.Parts.{then_some, only_some, some_same, halves, group_long}
use Rattle.typing_plans.proofs.Shapes.{QueryGood, SourceGood, AllGood, all_counted, all_shaped}
use Rattle.typing_plans.proofs.Shapes.{tests_shaped, GroupGood}

module _ (widths : List ℕ → ℕ) where
  -- how many columns stand before the last comma
  abbrev before_width : Option From → ℕ
  before_width None = 0
  before_width (Some f) = from_width f widths

  -- they are shaped, if they have a plan
  abbrev BeforeShaped : Option From → Type 0
  BeforeShaped None = Unit {0}
  BeforeShaped (Some f) = planned_from f ≡ true → ShapedFrom f widths

  -- the row of FROM so far has as many kinds as the plain tree so far has columns
  pub record SoFar (row : FromRow) (j : Joined) : Type 0 where
    pub before_long : before_width j.before ≡ length row.before
    pub long : from_width j.current widths ≡ length row.joined
    pub before : BeforeShaped j.before
    pub current : planned_from j.current ≡ true → ShapedFrom j.current widths

  closed_long : (row : FromRow) (b : Option From) (c : From) →
      before_width b ≡ length row.before → from_width c widths ≡ length row.joined →
      from_width (beside b c) widths ≡ length (whole_row row)
  closed_long row None c p q =
      let e = length-append row.before row.joined in omega (arith, p, q, e)
  closed_long row (Some f) c p q =
      let e = length-append row.before row.joined in omega (arith, p, q, e)

  closed_shaped : (b : Option From) (c : From) → BeforeShaped b →
      (planned_from c ≡ true → ShapedFrom c widths) → planned_from (beside b c) ≡ true →
      ShapedFrom (beside b c) widths
  closed_shaped None c s t p = t p
  closed_shaped (Some f) c s t p =
      let both = halves (planned_from f) (planned_from c) p in (s both.0, t both.1)

  -- ---- items

  -- an item goes on with what is so far, or begins it
  abbrev pub ItemGood : FromKinds → Joining → Type 0
  ItemGood f i = (a : Around) → TablesWide a widths →
      ((more : FromRow) → f a nothing_joined ≡ Some more → SoFar more (begun i))
      × ((row more : FromRow) (j : Joined) → f a row ≡ Some more → SoFar row j →
      SoFar more (grown j i))

  -- one table or derived table
  begins : (t : From) (ks : List Kind) (more : FromRow) →
      (from_width t widths ≡ length ks) × (planned_from t ≡ true → ShapedFrom t widths) →
      joined_with nothing_joined ks ≡ more → SoFar more (record { before = None; current = t })
  begins t ks more g e = subst (λ m. SoFar m (record { before = None; current = t })) e
      (record { before_long = refl; long = g.0; before = tt; current = g.1 })

  pub comma_good : (q : QueryKinds) (t : From) → SourceGood widths q t →
      ItemGood (λ a row. then (q a) (λ ks. Some (past_comma row ks))) (after_comma t)
  comma_good q t g a w = (
    λ more h. let kinds = then_some (q a) _ more h in
        begins t kinds.0 more (g a kinds.0 w kinds.1) (some_same _ more kinds.2),
    λ row more j h s. let kinds = then_some (q a) _ more h in
        let one = g a kinds.0 w kinds.1 in
        subst (λ m. SoFar m (grown j (after_comma t))) (some_same _ more kinds.2)
        (record {
          before_long = closed_long row j.before j.current s.before_long s.long;
          long = one.0;
          before = closed_shaped j.before j.current s.before s.current;
          current = one.1;
        }),
  )

  wider : (a b : From) (xs ys : List Kind) → from_width a widths ≡ length xs →
      from_width b widths ≡ length ys →
      from_width a widths + from_width b widths ≡ length (xs ++ ys)
  wider a b xs ys p q = let e = length-append xs ys in omega (arith, p, q, e)

  pub cross_good : (q : QueryKinds) (t : From) → SourceGood widths q t →
      ItemGood (λ a row. then (q a) (λ ks. Some (joined_with row ks))) (crossing t)
  cross_good q t g a w = (
    λ more h. let kinds = then_some (q a) _ more h in
        begins t kinds.0 more (g a kinds.0 w kinds.1) (some_same _ more kinds.2),
    λ row more j h s. let kinds = then_some (q a) _ more h in
        let one = g a kinds.0 w kinds.1 in
        subst (λ m. SoFar m (grown j (crossing t))) (some_same _ more kinds.2)
        (record {
          before_long = s.before_long;
          long = wider j.current t row.joined kinds.0 s.long one.0;
          before = s.before;
          current = λ p. let both = halves (planned_from j.current) (planned_from t) p in
              (s.current both.0, one.1 both.1);
        }),
  )

  -- ON beside its plain tests
  on_good : (on : List ExprKind) (ts : Exprs) → AllGood widths on ts → (a : Around) →
      TablesWide a widths → (c t : From) → (planned_from c ≡ true → ShapedFrom c widths) →
      (planned_from t ≡ true → ShapedFrom t widths) → (row : FromRow) →
      tests (with_row row.joined a) on ≡ true →
      (planned_from c && (planned_from t && planned_all ts)) ≡ true →
      ShapedFrom c widths × ShapedFrom t widths × ShapedAll ts widths
  on_good on ts g a w c t s o row h p =
      let outer = halves (planned_from c) (planned_from t && planned_all ts) p in
      let inner = halves (planned_from t) (planned_all ts) outer.1 in
      (s outer.0, o inner.0, tests_shaped widths on ts g (with_row row.joined a) w h inner.1)

  pub inner_good : (q : QueryKinds) (t : From) (on : List ExprKind) (ts : Exprs) →
      SourceGood widths q t → AllGood widths on ts →
      ItemGood (λ a row. then (q a) (λ ks. joined_on a on (joined_with row ks))) (matching t ts)
  inner_good q t on ts g f a w = (
    λ more h. let kinds = then_some (q a) _ more h in
        let seen = joined_with nothing_joined kinds.0 in
        let held = only_some (tests (with_row seen.joined a) on) (Some seen) more kinds.2 in
        begins t kinds.0 more (g a kinds.0 w kinds.1) (some_same _ more held.1),
    λ row more j h s. let kinds = then_some (q a) _ more h in
        let seen = joined_with row kinds.0 in
        let held = only_some (tests (with_row seen.joined a) on) (Some seen) more kinds.2 in
        let one = g a kinds.0 w kinds.1 in
        subst (λ m. SoFar m (grown j (matching t ts))) (some_same _ more held.1)
        (record {
          before_long = s.before_long;
          long = wider j.current t row.joined kinds.0 s.long one.0;
          before = s.before;
          current = on_good on ts f a w j.current t s.current one.1 seen held.0;
        }),
  )

  pub left_good : (q : QueryKinds) (t : From) (on : List ExprKind) (ts : Exprs) →
      SourceGood widths q t → AllGood widths on ts →
      ItemGood (λ a row. then (q a) (λ ks. joined_on a on (joined_with row ks)))
      (matching_or_nulls t ts)
  left_good q t on ts g f a w = (
    λ more h. let kinds = then_some (q a) _ more h in
        let seen = joined_with nothing_joined kinds.0 in
        let held = only_some (tests (with_row seen.joined a) on) (Some seen) more kinds.2 in
        begins t kinds.0 more (g a kinds.0 w kinds.1) (some_same _ more held.1),
    λ row more j h s. let kinds = then_some (q a) _ more h in
        let seen = joined_with row kinds.0 in
        let held = only_some (tests (with_row seen.joined a) on) (Some seen) more kinds.2 in
        let one = g a kinds.0 w kinds.1 in
        subst (λ m. SoFar m (grown j (matching_or_nulls t ts))) (some_same _ more held.1)
        (record {
          before_long = s.before_long;
          long = wider j.current t row.joined kinds.0 s.long one.0;
          before = s.before;
          current = on_good on ts f a w j.current t s.current one.1 seen held.0;
        }),
  )

  -- ---- all items

  abbrev pub FromsGood : List FromKinds → List Joining → Type 0
  FromsGood [] [] = Unit {0}
  FromsGood [] (i ∷ is) = ⊥
  FromsGood (f ∷ fs) [] = ⊥
  FromsGood (f ∷ fs) (i ∷ is) = ItemGood f i × FromsGood fs is

  all_joined : (fs : List FromKinds) (is : List Joining) → FromsGood fs is → (a : Around) →
      TablesWide a widths → (row more : FromRow) (j : Joined) →
      items_joined a row fs ≡ Some more → SoFar row j → SoFar more (all_grown j is)
  all_joined [] [] g a w row more j h s = subst (λ m. SoFar m j) (some_same row more h) s
  all_joined [] (i ∷ is) g a w row more j h s = absurd g
  all_joined (f ∷ fs) [] g a w row more j h s = absurd g
  all_joined (f ∷ fs) (i ∷ is) g a w row more j h s =
      let next = then_some (f a row) _ more h in
      all_joined fs is g.1 a w next.0 more (grown j i) next.2
      ((g.0 a w).1 row next.0 j next.1 s)

  pub from_good : (fs : List FromKinds) (is : List Joining) → FromsGood fs is → (a : Around) →
      TablesWide a widths → (row : FromRow) → items_joined a nothing_joined fs ≡ Some row →
      (from_width (from_of is) widths ≡ length (whole_row row))
      × (planned_from (from_of is) ≡ true → ShapedFrom (from_of is) widths)
  from_good [] [] g a w row h =
      (ap (λ r. length (whole_row r)) (some_same nothing_joined row h), λ p. (refl, tt))
  from_good [] (i ∷ is) g a w row h = absurd g
  from_good (f ∷ fs) [] g a w row h = absurd g
  from_good (f ∷ fs) (i ∷ is) g a w row h =
      let first = then_some (f a nothing_joined) _ row h in
      let s = all_joined fs is g.1 a w first.0 row (begun i) first.2
      ((g.0 a w).0 first.0 first.1) in
      let j = all_grown (begun i) is in (
        closed_long row j.before j.current s.before_long s.long,
        closed_shaped j.before j.current s.before s.current,
      )

  -- ---- a query over FROM

  abbrev pub GroupingGood : Option GroupKinds → Option Grouping → Type 0
  GroupingGood None None = Unit {0}
  GroupingGood None (Some t) = ⊥
  GroupingGood (Some g) None = ⊥
  GroupingGood (Some g) (Some t) = GroupGood widths g t

  pub select_good : (fs : List FromKinds) (is : List Joining) (items conjuncts : List ExprKind)
      (ts cs : Exprs) (grouping : Option GroupKinds) (g : Option Grouping) → FromsGood fs is →
      AllGood widths items ts → AllGood widths conjuncts cs → GroupingGood grouping g →
      QueryGood widths (λ a. then (items_joined a nothing_joined fs)
      (λ so. selected a (whole_row so) items conjuncts grouping))
      (selected_tree g ts (from_of is) cs)
  select_good fs is items conjuncts ts cs None None ff fi fc fg a ks w h =
      let row = then_some (items_joined a nothing_joined fs) _ ks h in
      let r = whole_row row.0 in
      let held = only_some (tests (with_row r a) conjuncts) (kinds_of (with_row r a) items) ks
      row.2 in (
        all_counted widths items ts fi (with_row r a) ks held.1,
        λ p. let outer = halves (planned_all ts) (planned_from (from_of is) && planned_all cs) p in
            let inner = halves (planned_from (from_of is)) (planned_all cs) outer.1 in (
              (from_good fs is ff a w row.0 row.1).1 inner.0,
              tests_shaped widths conjuncts cs fc (with_row r a) w held.0 inner.1,
              all_shaped widths items ts fi (with_row r a) ks w held.1 outer.0,
            ),
      )
  select_good fs is items conjuncts ts cs None (Some t) ff fi fc fg a ks w h = absurd fg
  select_good fs is items conjuncts ts cs (Some g) None ff fi fc fg a ks w h = absurd fg
  select_good fs is items conjuncts ts cs (Some g) (Some t) ff fi fc fg a ks w h =
      let row = then_some (items_joined a nothing_joined fs) _ ks h in
      let r = whole_row row.0 in
      let held = only_some (tests (with_row r a) conjuncts) (list_kinds a r items (Some g)) ks
      row.2 in
      let parts = then_some (kinds_of (with_row r a) g.parts) _ ks held.1 in
      let group = then_some (group_row g.keys parts.0 g.aggregates) _ ks parts.2 in
      let list = only_some (tests (with_row group.0 a) g.having)
      (kinds_of (with_row group.0 a) items) ks group.2 in (
        all_counted widths items ts fi (with_row group.0 a) ks list.1,
        λ p. let from = halves (planned_from (from_of is)) _ p in
            let where_ = halves (planned_all cs) _ from.1 in
            let made = halves (planned_all t.parts) _ where_.1 in
            let last = halves (planned_all t.having) (planned_all ts) made.1 in (
              (from_good fs is ff a w row.0 row.1).1 from.0,
              tests_shaped widths conjuncts cs fc (with_row r a) w held.0 where_.0,
              all_shaped widths g.parts t.parts fg.parts (with_row r a) parts.0 w parts.1 made.0,
              tests_shaped widths g.having t.having fg.having (with_row group.0 a) w list.0 last.0,
              all_shaped widths items ts fi (with_row group.0 a) ks w list.1 last.1,
              all_counted widths g.parts t.parts fg.parts (with_row r a) parts.0 parts.1 ∙
                  group_long g.keys parts.0 g.aggregates group.0 group.1 ∙
                  (λ i. sym fg.keys i + length (sym fg.aggregates i)),
            ),
      )
