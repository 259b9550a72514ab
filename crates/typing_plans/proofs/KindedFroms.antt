-- FROM and queries over it: the row of FROM so far beside the kinds of the plain tree so far.
use Rattle.std.proofs.Common.{◌≡◌, ℕ, true, ◌&&◌, List, [], ◌∷◌, ◌++◌, Option, Some, None}
use Rattle.std.proofs.Common.{refl, ◌∙◌, subst}
use Rattle.bind_kinds.specs.declared.kind.Kind.{Kind}
use Rattle.rel_algebra.specs.Tree.{Exprs, From}
use Rattle.rel_algebra.specs.Plain.{planned_all, planned_from}
use Rattle.rel_algebra.specs.Kinds.{Kinds, TypedFrom, TypedAll, from_kinds, exprs_kinds, tests_good}
use Rattle.rel_algebra.specs.Kinds.{group_kinds}
use Rattle.catalog_store.specs.Catalog.{Catalog}
use Rattle.catalog_store.specs.View.{Grouping, Joining, after_comma, crossing, matching}
use Rattle.catalog_store.specs.View.{matching_or_nulls, Joined, beside, grown, all_grown}
use Rattle.catalog_store.specs.View.{begun, from_of}
use Rattle.catalog_store.specs.View.{selected as selected_tree}
use Rattle.typing_trees.specs.Around.{Around, with_row, then}
use Rattle.typing_trees.specs.Queries.{ExprKind, QueryKinds, FromKinds, FromRow, GroupKinds}
use Rattle.typing_trees.specs.Queries.{nothing_joined, past_comma, joined_with, joined_on}
use Rattle.typing_trees.specs.Queries.{whole_row, items_joined, selected, list_kinds, group_row}
use Rattle.typing_trees.specs.Queries.{kinds_of, tests}
use Rattle.typing_plans.specs.Kinding.{AllLower, InSight}
use Rattle.typing_plans.proofs.Parts.{then_some, only_some, some_same, halves}
use Rattle.typing_plans.proofs.Lower.{append_lower}
use Rattle.typing_plans.proofs.Columns.{group_lower}
use Rattle.typing_plans.proofs.Kinded.{QueryTyped, SourceTyped, AllTyped, all_typed, tests_typed}
use Rattle.typing_plans.proofs.Kinded.{entered}

module _ (known : Catalog) (T : List ℕ → Kinds) where
  -- a FROM that is typed, of kinds below these, if it has a plan
  abbrev pub Has : From → List Kinds → Kinds → List Kind → Type 0
  Has t g p ks = planned_from t ≡ true → TypedFrom t T g p × AllLower (from_kinds t T g p) ks

  -- what stands before the last comma
  abbrev HasBefore : Option From → List Kinds → Kinds → List Kind → Type 0
  HasBefore None g p ks = [] ≡ ks
  HasBefore (Some t) g p ks = Has t g p ks

  -- the plain tree so far has kinds below those of the row of FROM so far
  pub record SoFar (g : List Kinds) (p : Kinds) (row : FromRow) (j : Joined) : Type 0 where
    pub before : HasBefore j.before g p row.before
    pub current : Has j.current g p row.joined

  closed_has : (g : List Kinds) (p : Kinds) (b : Option From) (c : From) (js ks : List Kind) →
      HasBefore b g p js → Has c g p ks → Has (beside b c) g p (js ++ ks)
  closed_has g p None c js ks e f q = subst (λ is. Has c g p (is ++ ks)) e f q
  closed_has g p (Some t) c js ks e f q =
      let both = halves (planned_from t) (planned_from c) q in
      let left = e both.0 in let right = f both.1 in (
        (left.0, right.0),
        append_lower (from_kinds t T g p) (from_kinds c T g p) js ks left.1 right.1,
      )

  -- ---- items

  -- an item goes on with what is so far, or begins it
  abbrev pub ItemTyped : FromKinds → Joining → Type 0
  ItemTyped f i = (a : Around) (g : List Kinds) (p : Kinds) → InSight known a T g p →
      ((more : FromRow) → f a nothing_joined ≡ Some more → SoFar g p more (begun i))
      × ((row more : FromRow) (j : Joined) → f a row ≡ Some more → SoFar g p row j →
      SoFar g p more (grown j i))

  begins : (g : List Kinds) (p : Kinds) (t : From) (ks : List Kind) (more : FromRow) →
      Has t g p ks → joined_with nothing_joined ks ≡ more →
      SoFar g p more (record { before = None; current = t })
  begins g p t ks more f e = subst (λ m. SoFar g p m (record { before = None; current = t })) e
      (record { before = refl; current = f })

  pub comma_typed : (q : QueryKinds) (t : From) → SourceTyped known T q t →
      ItemTyped (λ a row. then (q a) (λ ks. Some (past_comma row ks))) (after_comma t)
  comma_typed q t f a g p s = (
    λ more h. let kinds = then_some (q a) _ more h in
        begins g p t kinds.0 more (f a g p kinds.0 s kinds.1) (some_same _ more kinds.2),
    λ row more j h so. let kinds = then_some (q a) _ more h in
        subst (λ m. SoFar g p m (grown j (after_comma t))) (some_same _ more kinds.2)
        (record {
          before = closed_has g p j.before j.current row.before row.joined so.before so.current;
          current = f a g p kinds.0 s kinds.1;
        }),
  )

  -- what is joined to the current items
  both_have : (g : List Kinds) (p : Kinds) (c t : From) (js ks : List Kind) → Has c g p js →
      Has t g p ks → planned_from c ≡ true → planned_from t ≡ true →
      TypedFrom c T g p × TypedFrom t T g p
      × AllLower (from_kinds c T g p ++ from_kinds t T g p) (js ++ ks)
  both_have g p c t js ks e f q r =
      let left = e q in let right = f r in (
        left.0,
        right.0,
        append_lower (from_kinds c T g p) (from_kinds t T g p) js ks left.1 right.1,
      )

  pub cross_typed : (q : QueryKinds) (t : From) → SourceTyped known T q t →
      ItemTyped (λ a row. then (q a) (λ ks. Some (joined_with row ks))) (crossing t)
  cross_typed q t f a g p s = (
    λ more h. let kinds = then_some (q a) _ more h in
        begins g p t kinds.0 more (f a g p kinds.0 s kinds.1) (some_same _ more kinds.2),
    λ row more j h so. let kinds = then_some (q a) _ more h in
        subst (λ m. SoFar g p m (grown j (crossing t))) (some_same _ more kinds.2)
        (record {
          before = so.before;
          current = λ r. let both = halves (planned_from j.current) (planned_from t) r in
              let joined = both_have g p j.current t row.joined kinds.0 so.current
              (f a g p kinds.0 s kinds.1) both.0 both.1 in
              ((joined.0, joined.1), joined.2);
        }),
  )

  -- ON beside its plain tests
  on_typed : (on : List ExprKind) (ts : Exprs) → AllTyped known T on ts → (a : Around)
      (g : List Kinds) (p : Kinds) → InSight known a T g p → (c t : From) (js ks : List Kind) →
      Has c g p js → Has t g p ks → tests (with_row (js ++ ks) a) on ≡ true →
      (planned_from c && (planned_from t && planned_all ts)) ≡ true →
      (TypedFrom c T g p × TypedFrom t T g p
      × TypedAll ts T ((from_kinds c T g p ++ from_kinds t T g p) ∷ g) p
      × (tests_good (exprs_kinds ts T ((from_kinds c T g p ++ from_kinds t T g p) ∷ g) p) ≡ true))
      × AllLower (from_kinds c T g p ++ from_kinds t T g p) (js ++ ks)
  on_typed on ts f a g p s c t js ks l r h q =
      let outer = halves (planned_from c) (planned_from t && planned_all ts) q in
      let inner = halves (planned_from t) (planned_all ts) outer.1 in
      let joined = both_have g p c t js ks l r outer.0 inner.0 in
      let ds = from_kinds c T g p ++ from_kinds t T g p in
      let held = tests_typed known T on ts f (with_row (js ++ ks) a) (ds ∷ g) p
      (entered known T a g p ds (js ++ ks) s joined.2) h inner.1 in
      ((joined.0, joined.1, held.0, held.1), joined.2)

  pub inner_typed : (q : QueryKinds) (t : From) (on : List ExprKind) (ts : Exprs) →
      SourceTyped known T q t → AllTyped known T on ts →
      ItemTyped (λ a row. then (q a) (λ ks. joined_on a on (joined_with row ks))) (matching t ts)
  inner_typed q t on ts f o a g p s = (
    λ more h. let kinds = then_some (q a) _ more h in
        let seen = joined_with nothing_joined kinds.0 in
        let held = only_some (tests (with_row seen.joined a) on) (Some seen) more kinds.2 in
        begins g p t kinds.0 more (f a g p kinds.0 s kinds.1) (some_same _ more held.1),
    λ row more j h so. let kinds = then_some (q a) _ more h in
        let seen = joined_with row kinds.0 in
        let held = only_some (tests (with_row seen.joined a) on) (Some seen) more kinds.2 in
        subst (λ m. SoFar g p m (grown j (matching t ts))) (some_same _ more held.1)
        (record {
          before = so.before;
          current = on_typed on ts o a g p s j.current t row.joined kinds.0 so.current
              (f a g p kinds.0 s kinds.1) held.0;
        }),
  )

  pub left_typed : (q : QueryKinds) (t : From) (on : List ExprKind) (ts : Exprs) →
      SourceTyped known T q t → AllTyped known T on ts →
      ItemTyped (λ a row. then (q a) (λ ks. joined_on a on (joined_with row ks)))
      (matching_or_nulls t ts)
  left_typed q t on ts f o a g p s = (
    λ more h. let kinds = then_some (q a) _ more h in
        let seen = joined_with nothing_joined kinds.0 in
        let held = only_some (tests (with_row seen.joined a) on) (Some seen) more kinds.2 in
        begins g p t kinds.0 more (f a g p kinds.0 s kinds.1) (some_same _ more held.1),
    λ row more j h so. let kinds = then_some (q a) _ more h in
        let seen = joined_with row kinds.0 in
        let held = only_some (tests (with_row seen.joined a) on) (Some seen) more kinds.2 in
        subst (λ m. SoFar g p m (grown j (matching_or_nulls t ts))) (some_same _ more held.1)
        (record {
          before = so.before;
          current = on_typed on ts o a g p s j.current t row.joined kinds.0 so.current
              (f a g p kinds.0 s kinds.1) held.0;
        }),
  )

  -- ---- all items

  abbrev pub FromsTyped : List FromKinds → List Joining → Type 0
  FromsTyped [] [] = Unit {0}
  FromsTyped [] (i ∷ is) = ⊥
  FromsTyped (f ∷ fs) [] = ⊥
  FromsTyped (f ∷ fs) (i ∷ is) = ItemTyped f i × FromsTyped fs is

  all_joined : (fs : List FromKinds) (is : List Joining) → FromsTyped fs is → (a : Around)
      (g : List Kinds) (p : Kinds) → InSight known a T g p → (row more : FromRow) (j : Joined) →
      items_joined a row fs ≡ Some more → SoFar g p row j → SoFar g p more (all_grown j is)
  all_joined [] [] f a g p s row more j h so = subst (λ m. SoFar g p m j) (some_same row more h) so
  all_joined [] (i ∷ is) f a g p s row more j h so = absurd f
  all_joined (e ∷ fs) [] f a g p s row more j h so = absurd f
  all_joined (e ∷ fs) (i ∷ is) f a g p s row more j h so =
      let next = then_some (e a row) _ more h in
      all_joined fs is f.1 a g p s next.0 more (grown j i) next.2
      ((f.0 a g p s).1 row next.0 j next.1 so)

  pub from_typed : (fs : List FromKinds) (is : List Joining) → FromsTyped fs is → (a : Around)
      (g : List Kinds) (p : Kinds) → InSight known a T g p → (row : FromRow) →
      items_joined a nothing_joined fs ≡ Some row → Has (from_of is) g p (whole_row row)
  from_typed [] [] f a g p s row h q =
      ((refl, tt), subst (λ r. AllLower [] (whole_row r)) (some_same nothing_joined row h) tt)
  from_typed [] (i ∷ is) f a g p s row h q = absurd f
  from_typed (e ∷ fs) [] f a g p s row h q = absurd f
  from_typed (e ∷ fs) (i ∷ is) f a g p s row h q =
      let first = then_some (e a nothing_joined) _ row h in
      let so = all_joined fs is f.1 a g p s first.0 row (begun i) first.2
      ((f.0 a g p s).0 first.0 first.1) in
      let j = all_grown (begun i) is in
      closed_has g p j.before j.current row.before row.joined so.before so.current q

  -- ---- a query over FROM

  -- the parts of a grouping, side by side
  pub record GroupTyped (e : GroupKinds) (t : Grouping) : Type 0 where
    pub keys : t.keys ≡ e.keys
    pub aggregates : t.aggregates ≡ e.aggregates
    pub parts : AllTyped known T e.parts t.parts
    pub having : AllTyped known T e.having t.having

  abbrev pub GroupingTyped : Option GroupKinds → Option Grouping → Type 0
  GroupingTyped None None = Unit {0}
  GroupingTyped None (Some t) = ⊥
  GroupingTyped (Some e) None = ⊥
  GroupingTyped (Some e) (Some t) = GroupTyped e t

  pub select_typed : (fs : List FromKinds) (is : List Joining) (items conjuncts : List ExprKind)
      (ts cs : Exprs) (grouping : Option GroupKinds) (t : Option Grouping) → FromsTyped fs is →
      AllTyped known T items ts → AllTyped known T conjuncts cs → GroupingTyped grouping t →
      QueryTyped known T (λ a. then (items_joined a nothing_joined fs)
      (λ so. selected a (whole_row so) items conjuncts grouping))
      (selected_tree t ts (from_of is) cs)
  select_typed fs is items conjuncts ts cs None None ff fi fc fg a g p ks s h q =
      let row = then_some (items_joined a nothing_joined fs) _ ks h in
      let r = whole_row row.0 in
      let held = only_some (tests (with_row r a) conjuncts) (kinds_of (with_row r a) items) ks
      row.2 in
      let outer = halves (planned_all ts) (planned_from (from_of is) && planned_all cs) q in
      let inner = halves (planned_from (from_of is)) (planned_all cs) outer.1 in
      let from = from_typed fs is ff a g p s row.0 row.1 inner.0 in
      let ds = from_kinds (from_of is) T g p in
      let sight = entered known T a g p ds r s from.1 in
      let wanted = tests_typed known T conjuncts cs fc (with_row r a) (ds ∷ g) p sight held.0
      inner.1 in
      let list = all_typed known T items ts fi (with_row r a) (ds ∷ g) p ks sight held.1 outer.0 in
      ((from.0, wanted.0, wanted.1, list.0), list.1)
  select_typed fs is items conjuncts ts cs None (Some t) ff fi fc fg a g p ks s h q = absurd fg
  select_typed fs is items conjuncts ts cs (Some e) None ff fi fc fg a g p ks s h q = absurd fg
  select_typed fs is items conjuncts ts cs (Some e) (Some t) ff fi fc fg a g p ks s h q =
      let row = then_some (items_joined a nothing_joined fs) _ ks h in
      let r = whole_row row.0 in
      let held = only_some (tests (with_row r a) conjuncts) (list_kinds a r items (Some e)) ks
      row.2 in
      let parts = then_some (kinds_of (with_row r a) e.parts) _ ks held.1 in
      let group = then_some (group_row e.keys parts.0 e.aggregates) _ ks parts.2 in
      let list = only_some (tests (with_row group.0 a) e.having)
      (kinds_of (with_row group.0 a) items) ks group.2 in
      let from_planned = halves (planned_from (from_of is)) _ q in
      let where_planned = halves (planned_all cs) _ from_planned.1 in
      let parts_planned = halves (planned_all t.parts) _ where_planned.1 in
      let last = halves (planned_all t.having) (planned_all ts) parts_planned.1 in
      let from = from_typed fs is ff a g p s row.0 row.1 from_planned.0 in
      let ds = from_kinds (from_of is) T g p in
      let sight = entered known T a g p ds r s from.1 in
      let wanted = tests_typed known T conjuncts cs fc (with_row r a) (ds ∷ g) p sight held.0
      where_planned.0 in
      let made = all_typed known T e.parts t.parts fg.parts (with_row r a) (ds ∷ g) p parts.0
      sight parts.1 parts_planned.0 in
      let es = exprs_kinds t.parts T (ds ∷ g) p in
      let grouped = group_lower t.keys t.aggregates es parts.0 group.0 made.1
      ((λ i. group_row (fg.keys i) parts.0 (fg.aggregates i)) ∙ group.1) in
      let gs = group_kinds t.keys t.aggregates es in
      let within = entered known T a g p gs group.0 s grouped.0 in
      let kept = tests_typed known T e.having t.having fg.having (with_row group.0 a) (gs ∷ g) p
      within list.0 last.0 in
      let out = all_typed known T items ts fi (with_row group.0 a) (gs ∷ g) p ks within list.1
      last.1 in
      ((from.0, wanted.0, wanted.1, made.0, grouped.1, kept.0, kept.1, out.0), out.1)
