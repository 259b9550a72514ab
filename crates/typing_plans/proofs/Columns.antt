-- Kinds of columns in sight, of groups and of VALUES, below those that are known.
use Rattle.std.proofs.Common.{map}
use Rattle.std.proofs.Common.{◌≡◌, inl, ℕ, zero, suc, true, ◌&&◌, List, [], ◌∷◌, ◌++◌}
use Rattle.std.proofs.Common.{Some, slice_get, refl, sym, ap, ◌∙◌, subst}
use Rattle.sql_values.specs.declared.fold.FoldKind.{FoldKind}
use Rattle.sql_values.specs.declared.fold.FoldKind.TheVariants.{Count, Sum, Avg, Min, Max}
use Rattle.bind_kinds.specs.declared.kind.Kind.{Kind}
use Rattle.bind_kinds.specs.declared.kind.Kind.TheVariants.{Integer}
use Rattle.bind_kinds.specs.Kinds.{fits, joined}
use Rattle.rel_algebra.specs.Joins.{places, numbered}
use Rattle.rel_algebra.specs.Kinds.{DataKind, Kinds, kind_at, kinds_row, kinds_at, aggregate_kind}
use Rattle.rel_algebra.specs.Kinds.{aggregate_good, aggregates_good, group_kinds}
use Rattle.rel_algebra.specs.Kinds.{aggregate_kinds as kinds_of_aggregates}
use Rattle.typing_trees.specs.Kinds.{aggregate_allows, aggregate_gives}
use Rattle.typing_trees.specs.Around.{Around, Slot, kind_of_slot, kind_in_slot, then}
use Rattle.typing_trees.specs.Around.{kind_at as kind_in_rows}
use Rattle.typing_trees.specs.Queries.{ExprKind, aggregate_kinds, group_row, kinds_of, more_rows}
use Rattle.typing_trees.specs.Queries.{row_kinds}
use Rattle.typing_plans.specs.Kinding.{Lower, AllLower, RowsLower}
use Rattle.typing_plans.proofs.Parts.{and_true, then_some, only_some, some_same}
use Rattle.typing_plans.proofs.Lower.{agree_to, first_below}
use Rattle.typing_plans.proofs.Lower.{second_below, AllBelow, all_below_self, all_below_then}

-- ---- columns and slots

pub column_lower : (ds : Kinds) (ks : List Kind) (i : ℕ) (k : Kind) → AllLower ds ks →
    slice_get ks i ≡ Some k → Lower (kind_at ds i) k
column_lower [] [] i k l h = absurd cc
column_lower [] (j ∷ ks) i k l h = absurd l
column_lower (d ∷ ds) [] i k l h = absurd l
column_lower (d ∷ ds) (j ∷ ks) zero k l h = subst (Lower d) (some_same j k h) l.0
column_lower (d ∷ ds) (j ∷ ks) (suc i) k l h = column_lower ds ks i k l.1 h

pub outer_lower : (g : List Kinds) (rows : List (List Kind)) (level place : ℕ) (k : Kind) →
    RowsLower g rows → kind_in_rows rows level place ≡ Some k →
    Lower (kind_at (kinds_row g level) place) k
outer_lower [] [] level place k l h = absurd cc
outer_lower [] (r ∷ rs) level place k l h = absurd l
outer_lower (d ∷ ds) [] level place k l h = absurd l
outer_lower (d ∷ ds) (r ∷ rs) zero place k l h = column_lower d r place k l.0 h
outer_lower (d ∷ ds) (r ∷ rs) (suc level) place k l h = outer_lower ds rs level place k l.1 h

pub slot_lower : (p : Kinds) (slots : List Slot) (i : ℕ) (k : Kind) →
    AllLower p (map kind_of_slot slots) → kind_in_slot slots i ≡ Some k → Lower (kind_at p i) k
slot_lower [] [] i k l h = absurd cc
slot_lower [] (s ∷ slots) i k l h = absurd l
slot_lower (d ∷ p) [] i k l h = absurd l
slot_lower (d ∷ p) (s ∷ slots) zero k l h = subst (Lower d) (some_same (kind_of_slot s) k h) l.0
slot_lower (d ∷ p) (s ∷ slots) (suc i) k l h = slot_lower p slots i k l.1 h

-- ---- groups

kinds_next : (d : DataKind) (ds : Kinds) (i n : ℕ) →
    kinds_at (d ∷ ds) (places (suc i) n) ≡ kinds_at ds (places i n)
kinds_next d ds i zero = refl
kinds_next d ds i (suc n) = ap (λ r. kind_at ds i ∷ r) (kinds_next d ds (suc i) n)

aggregates_next : (d : DataKind) (ds : Kinds) (i : ℕ) (fs : List FoldKind) →
    kinds_of_aggregates (numbered (suc i) fs) (d ∷ ds) ≡ kinds_of_aggregates (numbered i fs) ds
aggregates_next d ds i [] = refl
aggregates_next d ds i (f ∷ fs) =
    ap (λ r. aggregate_kind f (kind_at ds i) ∷ r) (aggregates_next d ds (suc i) fs)

good_next : (d : DataKind) (ds : Kinds) (i : ℕ) (fs : List FoldKind) →
    aggregates_good (numbered (suc i) fs) (d ∷ ds) ≡ aggregates_good (numbered i fs) ds
good_next d ds i [] = refl
good_next d ds i (f ∷ fs) =
    ap (λ b. aggregate_good f (kind_at ds i) && b) (good_next d ds (suc i) fs)

aggregate_lower : (f : FoldKind) (d : DataKind) (k : Kind) → Lower d k →
    aggregate_allows f k ≡ true →
    Lower (aggregate_kind f d) (aggregate_gives f k) × (aggregate_good f d ≡ true)
aggregate_lower Count d k l h = (inl refl, refl)
aggregate_lower Sum d k l h = (inl refl, agree_to d Integer k l h)
aggregate_lower Avg d k l h = (inl refl, agree_to d Integer k l h)
aggregate_lower Min d k l h = (l, refl)
aggregate_lower Max d k l h = (l, refl)

aggregates_lower : (fs : List FoldKind) (ds : Kinds) (ks gs : List Kind) → AllLower ds ks →
    aggregate_kinds ks fs ≡ Some gs →
    AllLower (kinds_of_aggregates (numbered 0 fs) ds) gs
    × (aggregates_good (numbered 0 fs) ds ≡ true)
aggregates_lower [] ds [] gs l h =
    (subst (AllLower []) (some_same [] gs h) tt, refl)
aggregates_lower [] ds (k ∷ ks) gs l h = absurd cc
aggregates_lower (f ∷ fs) ds [] gs l h = absurd cc
aggregates_lower (f ∷ fs) [] (k ∷ ks) gs l h = absurd l
aggregates_lower (f ∷ fs) (d ∷ ds) (k ∷ ks) gs l h =
    let fit = only_some (aggregate_allows f k) (then (aggregate_kinds ks fs)
    (λ is. Some (aggregate_gives f k ∷ is))) gs h in
    let others = then_some (aggregate_kinds ks fs) _ gs fit.1 in
    let one = aggregate_lower f d k l.0 fit.0 in
    let rest = aggregates_lower fs ds ks others.0 l.1 others.1 in (
      subst (AllLower (kinds_of_aggregates (numbered 0 (f ∷ fs)) (d ∷ ds)))
          (some_same (aggregate_gives f k ∷ others.0) gs others.2)
          (one.0, subst (λ r. AllLower r others.0) (sym (aggregates_next d ds 0 fs)) rest.0),
      and_true (aggregate_good f d) (aggregates_good (numbered 1 fs) (d ∷ ds)) one.1
          (good_next d ds 0 fs ∙ rest.1),
    )

-- the row of a group
pub group_lower : (n : ℕ) (fs : List FoldKind) (ds : Kinds) (ks gs : List Kind) →
    AllLower ds ks → group_row n ks fs ≡ Some gs →
    AllLower (group_kinds n fs ds) gs × (aggregates_good (numbered n fs) ds ≡ true)
group_lower zero fs ds ks gs l h = aggregates_lower fs ds ks gs l h
group_lower (suc n) fs ds [] gs l h = absurd cc
group_lower (suc n) fs [] (k ∷ ks) gs l h = absurd l
group_lower (suc n) fs (d ∷ ds) (k ∷ ks) gs l h =
    let others = then_some (group_row n ks fs) _ gs h in
    let rest = group_lower n fs ds ks others.0 l.1 others.1 in (
      subst (AllLower (group_kinds (suc n) fs (d ∷ ds))) (some_same (k ∷ others.0) gs others.2) (
        l.0,
        subst (λ r. AllLower r others.0)
            (λ i. sym (kinds_next d ds 0 n) i ++ sym (aggregates_next d ds n fs) i) rest.0,
      ),
      good_next d ds n fs ∙ rest.1,
    )

-- ---- VALUES

-- both the columns so far and a row more are below what becomes of them
pub row_below : (cs ks js : List Kind) → row_kinds cs ks ≡ Some js →
    AllBelow cs js × AllBelow ks js
row_below [] [] js h =
    (subst (AllBelow []) (some_same [] js h) tt, subst (AllBelow []) (some_same [] js h) tt)
row_below [] (k ∷ ks) js h = absurd cc
row_below (c ∷ cs) [] js h = absurd cc
row_below (c ∷ cs) (k ∷ ks) js h =
    let fit = only_some (fits c k) (then (row_kinds cs ks) (λ is. Some (joined c k ∷ is))) js h in
    let others = then_some (row_kinds cs ks) _ js fit.1 in
    let rest = row_below cs ks others.0 others.1 in
    let whole = some_same (joined c k ∷ others.0) js others.2 in (
      subst (AllBelow (c ∷ cs)) whole (first_below c k, rest.0),
      subst (AllBelow (k ∷ ks)) whole (second_below c k fit.0, rest.1),
    )

pub more_below : (a : Around) (cs : List Kind) (rs : List (List ExprKind)) (js : List Kind) →
    more_rows a cs rs ≡ Some js → AllBelow cs js
more_below a cs [] js h = subst (AllBelow cs) (some_same cs js h) (all_below_self cs)
more_below a cs (r ∷ rs) js h =
    let one = then_some (kinds_of a r) _ js h in
    let columns = then_some (row_kinds cs one.0) _ js one.2 in
    all_below_then cs columns.0 js (row_below cs one.0 columns.0 columns.1).0
    (more_below a columns.0 rs js columns.2)
