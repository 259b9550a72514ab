-- Rows that conjuncts leave out make no record.
use Rattle.std.proofs.Common.{◌≡◌, ◌<◌, ◌≤◌, ◌+◌, ◌-◌, ℕ, zero, suc, Bool, true, List, []}
use Rattle.std.proofs.Common.{◌∷◌, ◌++◌, Option, refl, ap, sym, ◌∙◌, subst, take, drop, length, arith}
use Rattle.std.proofs.Common.{slice_index_or}
use Rattle.std.specs.List.{list_all}
use Rattle.std.proofs.lemmas.Bool.{and_parts}
use Rattle.std.proofs.lemmas.List.{take-append-drop, drop-drop}
use Rattle.row_types.specs.Rows.{Row}
use Rattle.bound_trees.specs.declared.expr.BoundExpr.{BoundExpr}
use Rattle.rel_algebra.specs.Tree.{Exprs}
use Rattle.rel_algebra.specs.World.{Called, Ends, Eval, Gives, Raises, RunsOut, Frame, World, after}
use Rattle.rel_algebra.specs.World.{give, kept, with_front}
use Rattle.rel_algebra.specs.Meaning.{ev_all, record_of}
use Rattle.routine_views.specs.Views.{Known}
use Rattle.plan_keys.specs.Terms.{misses}
use Rattle.plan_keys.specs.declared.terms.Term.{Term}
use Rattle.run_places.specs.Views.{exprs_in}
use Rattle.run_places.specs.Groups.{records_by}
use Rattle.run_expressions.proofs.Laws.{after_give}
use Rattle.bound_trees.specs.declared.query.BoundFromItem.{BoundFromItem}
use Rattle.bound_trees.specs.declared.query.BoundSelect.{BoundSelect, out-BoundSelect}
use Rattle.run_keys.specs.LeftOut.{AreMet, GivesRows, LeavesOut}

module _ (k : Known) (self : Called) (list : Exprs) (tests : List BoundExpr) (outer : List Row)
    (f : Frame) where
  abbrev made : List Row → Eval (List Row)
  made rows = records_by self list (exprs_in k tests) outer f rows

  -- a row that is left out makes no record
  none_of : (row : Row) (rows : List Row) (w : World) → LeavesOut tests outer f row →
      made (row ∷ rows) w ≡ made rows w
  none_of row rows w out =
      ap (λ (d : Ends Bool). after (after d (λ keep. kept keep
      (ev_all list self (row ∷ outer) f))) (λ y u. after (made rows u)
      (λ ys. give (with_front y ys)))) (out k self w) ∙
      after_give (made rows w)

  -- after a row, what the others make
  onward : (row : Row) (xs ys : List Row) (w : World) →
      ((u : World) → made xs u ≡ made ys u) → made (row ∷ xs) w ≡ made (row ∷ ys) w
  onward row xs ys w same = by (record_of list (exprs_in k tests) self (row ∷ outer) f w)
    where
      by : (d : Ends (Option Row)) →
          after d (λ y u. after (made xs u) (λ zs. give (with_front y zs)))
          ≡ after d (λ y u. after (made ys u) (λ zs. give (with_front y zs)))
      by (Gives y u) = ap (λ (e : Ends (List Row)). after e (λ zs. give (with_front y zs))) (same u)
      by (Raises area u) = refl
      by (RunsOut u) = refl

  module _ (terms : List Term)
      (leaves : (row : Row) → misses terms row ≡ true → LeavesOut tests outer f row) where
    -- rows that are left out before others, and after them
    before_others : (out rows : List Row) (w : World) → list_all (misses terms) out ≡ true →
        made (out ++ rows) w ≡ made rows w
    before_others [] rows w h = refl
    before_others (row ∷ out) rows w h =
        let both = and_parts (misses terms row) (list_all (misses terms) out) h in
        none_of row (out ++ rows) w (leaves row both.0) ∙ before_others out rows w both.1

    alone : (out : List Row) (w : World) → list_all (misses terms) out ≡ true →
        made out w ≡ made [] w
    alone [] w h = refl
    alone (row ∷ out) w h =
        let both = and_parts (misses terms row) (list_all (misses terms) out) h in
        none_of row out w (leaves row both.0) ∙ alone out w both.1

    after_others : (rows out : List Row) (w : World) → list_all (misses terms) out ≡ true →
        made (rows ++ out) w ≡ made rows w
    after_others [] out w h = alone out w h
    after_others (row ∷ rows) out w h =
        onward row (rows ++ out) rows w (λ u. after_others rows out u h)

    -- the rows between two places make all records
    pub between_make : (all : List Row) (from to : ℕ) (w : World) → from ≤ to →
        list_all (misses terms) (take from all) ≡ true →
        list_all (misses terms) (drop to all) ≡ true →
        made all w ≡ made (take (to - from) (drop from all)) w
    between_make all from to w order before past =
        let rest = drop from all in
        let met = take (to - from) rest in
        let last : drop (to - from) rest ≡ drop to all = drop-drop (to - from) from all ∙
        ap (λ (n : ℕ). drop n all) (omega (arith, order)) in
        ap (λ (rows : List Row). made rows w) (sym (take-append-drop from all)) ∙
        (before_others (take from all) rest w before ∙
        (ap (λ (rows : List Row). made rows w) (sym (take-append-drop (to - from) rest)) ∙
        (ap (λ (rows : List Row). made (met ++ rows) w) last ∙
        after_others met (drop to all) w past)))

-- the rows between two places, for the rows that terms leave
pub are_met : (q : BoundSelect) (items : List BoundFromItem) (tests : List BoundExpr)
    (outer : List Row) (f : Frame) (w : World) (terms ts : List Term) (all rows : List Row)
    (from to : ℕ) → items ≡ (out-BoundSelect q).from → tests ≡ (out-BoundSelect q).conjuncts →
    ts ≡ terms → GivesRows items w all →
    ((row : Row) → misses terms row ≡ true → LeavesOut tests outer f row) → from ≤ to →
    list_all (misses ts) (take from all) ≡ true → list_all (misses ts) (drop to all) ≡ true →
    rows ≡ take (to - from) (drop from all) → AreMet q outer f w rows
are_met q items tests outer f w terms ts all rows from to is are same gives leaves order before
    past rows_are = record {
      all = all;
      given = subst (λ (xs : List BoundFromItem). GivesRows xs w all) is gives;
      same = λ k self list. ap (λ (es : List BoundExpr). records_by self list (exprs_in k es) outer f
          all w) (sym are) ∙
          (between_make k self list tests outer f terms leaves all from to w order
          (ap (λ (xs : List Term). list_all (misses xs) (take from all)) (sym same) ∙ before)
          (ap (λ (xs : List Term). list_all (misses xs) (drop to all)) (sym same) ∙ past) ∙
          (ap (λ (ys : List Row). records_by self list (exprs_in k tests) outer f ys w)
          (sym rows_are) ∙
          ap (λ (es : List BoundExpr). records_by self list (exprs_in k es) outer f rows w) are));
    }

-- ---- a row more

first_more : (xs : List Row) (at : ℕ) (x : Row) → at < length xs → x ≡ slice_index_or xs at x →
    take (suc at) xs ≡ take at xs ++ x ∷ []
first_more [] at x l is = absurd (omega (arith, l))
first_more (y ∷ xs) zero x l is = ap (λ (z : Row). z ∷ []) (sym is)
first_more (y ∷ xs) (suc at) x l is =
    ap (λ (zs : List Row). y ∷ zs) (first_more xs at x (omega (arith, l)) is)

later_more : (xs : List Row) (from n : ℕ) (x : Row) → from + n < length xs →
    x ≡ slice_index_or xs (from + n) x →
    take (suc n) (drop from xs) ≡ take n (drop from xs) ++ x ∷ []
later_more xs zero n x l is =
    let same : 0 + n ≡ n = omega arith in
    first_more xs n x (omega (arith, l)) (is ∙ ap (λ (m : ℕ). slice_index_or xs m x) same)
later_more [] (suc from) n x l is = absurd (omega (arith, l))
later_more (y ∷ xs) (suc from) n x l is =
    let same : suc from + n ≡ suc (from + n) = omega arith in
    later_more xs from n x (omega (arith, l))
    (is ∙ ap (λ (m : ℕ). slice_index_or (y ∷ xs) m x) same)

pub row_more : (xs : List Row) (from at : ℕ) (x : Row) → from ≤ at → at < length xs →
    x ≡ slice_index_or xs at x →
    take (at + 1 - from) (drop from xs) ≡ take (at - from) (drop from xs) ++ x ∷ []
row_more xs from at x l h is =
    let there : at ≡ from + (at - from) = omega (arith, l) in
    let more : at + 1 - from ≡ suc (at - from) = omega (arith, l) in
    ap (λ (n : ℕ). take n (drop from xs)) more ∙
    later_more xs from (at - from) x (omega (arith, l, h))
    (is ∙ ap (λ (n : ℕ). slice_index_or xs n x) there)
