-- The top conjuncts of a test are tests.
use Rattle.std.proofs.Common.{◌≡◌, refl, sym, ap, ◌∙◌, subst, Bool, true, false, ◌&&◌, List, []}
use Rattle.std.proofs.Common.{◌∷◌, ◌++◌, map, Option, Some, None}
use Rattle.std.specs.List.{flat_map}
use Rattle.std.proofs.lemmas.List.{map-append}
use Rattle.bound_trees.specs.declared.expr.BoundExpr.{BoundExpr, roll-BoundExpr}
use Rattle.bound_trees.specs.declared.expr.BoundExpr.TheVariants as bound
use Rattle.bound_trees.specs.declared.expr.BoundExpr.TheVariants.{rolls-Literal, rolls-Column}
use Rattle.bound_trees.specs.declared.expr.BoundExpr.TheVariants.{rolls-Variable, rolls-Operation}
use Rattle.bound_trees.specs.declared.expr.BoundExpr.TheVariants.{rolls-Chain, rolls-Call}
use Rattle.bound_trees.specs.declared.expr.BoundExpr.TheVariants.{rolls-Single, rolls-Exists}
use Rattle.bound_trees.specs.declared.expr.BoundExpr.TheVariants.{rolls-In}
use Rattle.bound_trees.specs.declared.expr.BoundExpr.TheOpen.{BoundExpr-F}
use Rattle.bound_trees.specs.declared.expr.BoundExpr.TheFolds.{map-BoundExpr, ind-BoundExpr}
use Rattle.bound_trees.specs.declared.expr.BoundLink.{BoundLink}
use Rattle.bound_trees.specs.declared.expr.BoundOperation.{BoundOperation}
use Rattle.bound_trees.specs.declared.expr.BoundOperation.TheVariants as word
use Rattle.bound_trees.specs.declared.query.BoundFromItem.{BoundFromItem}
use Rattle.bound_trees.specs.declared.query.BoundQuery.{BoundQuery}
use Rattle.bound_trees.specs.declared.query.BoundRow.{BoundRow}
use Rattle.bound_trees.specs.declared.query.BoundSource.{BoundSource}
use Rattle.bound_trees.specs.declared.query.BoundGrouping.{BoundGrouping}
use Rattle.bound_trees.specs.declared.query.BoundSelect.{BoundSelect}
use Rattle.rel_algebra.proofs.Laws.{and_true, left_true, right_true}
use Rattle.bind_kinds.specs.declared.kind.Kind.{Kind}
use Rattle.bind_kinds.specs.declared.kind.Kind.TheVariants.{Boolean}
use Rattle.bind_kinds.specs.Kinds.{fits}
use Rattle.bind_kinds.specs.Conjuncts.{is_and, conjuncts_of}
use Rattle.bind_kinds.proofs.Laws.{of_literal, of_column, of_variable, of_chain, of_call, of_single}
use Rattle.bind_kinds.proofs.Laws.{of_exists, of_in, of_other, of_and}
use Rattle.typing_trees.specs.Kinds.{all_fit}
use Rattle.typing_trees.specs.Around.{Around, then, only_if}
use Rattle.typing_trees.specs.Queries.{ExprKind, kind_of, kinds_of, is_true_value, tests}
use Rattle.typing_queries.proofs.Below.{Has}
use Rattle.typing_queries.proofs.Fits.{fits-below}
use Rattle.typing_queries.proofs.Layers.{operation-kind}

-- ---- truth values

-- a word that gives a truth value over operands that are such
abbrev over : Option (List Kind) → Option Kind
over o = then o (λ ks. only_if (all_fit Boolean ks) (Some Boolean))

first-fits : (b c : Bool) → is_true_value (only_if (b && c) (Some Boolean)) ≡ true → b ≡ true
first-fits true c t = refl
first-fits false c t = absurd cc

rest-fits : (b c : Bool) → is_true_value (only_if (b && c) (Some Boolean)) ≡ true →
    is_true_value (only_if c (Some Boolean)) ≡ true
rest-fits true c t = t
rest-fits false c t = absurd cc

over-first : (o : Option Kind) (p : Option (List Kind)) →
    is_true_value (over (then o (λ k. then p (λ ks. Some (k ∷ ks))))) ≡ true →
    is_true_value o ≡ true
over-first None p t = absurd cc
over-first (Some k) None t = absurd cc
over-first (Some k) (Some ks) t = first-fits (fits Boolean k) (all_fit Boolean ks) t

over-rest : (o : Option Kind) (p : Option (List Kind)) →
    is_true_value (over (then o (λ k. then p (λ ks. Some (k ∷ ks))))) ≡ true →
    is_true_value (over p) ≡ true
over-rest None p t = absurd cc
over-rest (Some k) None t = absurd cc
over-rest (Some k) (Some ks) t = rest-fits (fits Boolean k) (all_fit Boolean ks) t

-- ---- conjuncts

tests-append : (a : Around) (xs ys : List ExprKind) → tests a xs ≡ true → tests a ys ≡ true →
    tests a (xs ++ ys) ≡ true
tests-append a [] ys p q = q
tests-append a (x ∷ xs) ys p q =
    and_true (is_true_value (x a)) (tests a (xs ++ ys))
    (left_true (is_true_value (x a)) (tests a xs) p)
    (tests-append a xs ys (right_true (is_true_value (x a)) (tests a xs) p) q)

module _ (a : Around) where
  abbrev Tests : BoundExpr → Type 0
  Tests e = is_true_value (kind_of e a) ≡ true → tests a (map kind_of (conjuncts_of e)) ≡ true

  abbrev Shown : Type 0
  Shown = (e : BoundExpr) × Tests e

  abbrev Other : Type 0 → Type 0
  Other A = (a : A) × Unit {0}

  one : (e : BoundExpr) → conjuncts_of e ≡ e ∷ [] → Tests e
  one e p t = subst (λ (es : List BoundExpr). tests a (map kind_of es) ≡ true) (sym p)
      (and_true (is_true_value (kind_of e a)) true t refl)

  all : (es : List Shown) → is_true_value (over (kinds_of a (map kind_of (map (λ e. e.0) es)))) ≡
      true → tests a (map kind_of (flat_map conjuncts_of (map (λ e. e.0) es))) ≡ true
  all [] t = refl
  all (e ∷ es) t =
      let rest : List BoundExpr = map (λ (x : Shown). x.0) es in
      subst (λ (ks : List ExprKind). tests a ks ≡ true)
      (sym (map-append kind_of (conjuncts_of e.0) (flat_map conjuncts_of rest)))
      (tests-append a (map kind_of (conjuncts_of e.0)) (map kind_of (flat_map conjuncts_of rest))
      (e.1 (over-first (kind_of e.0 a) (kinds_of a (map kind_of rest)) t))
      (all es (over-rest (kind_of e.0 a) (kinds_of a (map kind_of rest)) t)))

  and-over : (w : BoundOperation) (es : List BoundExpr) → is_and w ≡ true →
      kind_of (bound.Operation w es) a ≡ over (kinds_of a (map kind_of es))
  and-over word.And es p = operation-kind word.And es a
  and-over word.Negation es p = absurd cc
  and-over word.Opposite es p = absurd cc
  and-over (word.Comparing c) es p = absurd cc
  and-over word.NullTest es p = absurd cc
  and-over word.TrueTest es p = absurd cc
  and-over word.FalseTest es p = absurd cc
  and-over word.AnyOf es p = absurd cc
  and-over word.Modulo es p = absurd cc
  and-over word.CharLength es p = absurd cc
  and-over word.Substring es p = absurd cc
  and-over (word.Cast t) es p = absurd cc
  and-over word.Or es p = absurd cc
  and-over word.Coalesce es p = absurd cc
  and-over word.Case es p = absurd cc
  and-over word.CaseOf es p = absurd cc

  of-word : (b : Bool) (w : BoundOperation) (es : List Shown) → is_and w ≡ b →
      Tests (bound.Operation w (map (λ e. e.0) es))
  of-word true w es p t =
      let trees : List BoundExpr = map (λ (e : Shown). e.0) es in
      subst (λ (cs : List BoundExpr). tests a (map kind_of cs) ≡ true) (sym (of_and w trees p))
      (all es (ap is_true_value (sym (and-over w trees p)) ∙ t))
  of-word false w es p t = one (bound.Operation w (map (λ e. e.0) es))
      (of_other w (map (λ e. e.0) es) p) t

  abbrev layer : BoundExpr-F Shown (Other BoundFromItem) (Other BoundQuery) (Other BoundRow)
      (Other BoundSource) (Other BoundLink) (Other BoundGrouping) (Other BoundSelect) →
      BoundExpr-F BoundExpr BoundFromItem BoundQuery BoundRow BoundSource BoundLink BoundGrouping
      BoundSelect
  layer y = map-BoundExpr Shown (Other BoundFromItem) (Other BoundQuery) (Other BoundRow)
      (Other BoundSource) (Other BoundLink) (Other BoundGrouping) (Other BoundSelect) BoundExpr
      BoundFromItem BoundQuery BoundRow BoundSource BoundLink BoundGrouping BoundSelect (λ e. e.0)
      (λ e. e.0) (λ e. e.0) (λ e. e.0) (λ e. e.0) (λ e. e.0) (λ e. e.0) (λ e. e.0) y

  of-layer : (y : BoundExpr-F Shown (Other BoundFromItem) (Other BoundQuery) (Other BoundRow)
      (Other BoundSource) (Other BoundLink) (Other BoundGrouping) (Other BoundSelect)) →
      Tests (roll-BoundExpr (layer y))
  of-layer (BoundExpr-F.Literal v) = subst Tests (sym (rolls-Literal v))
      (one (bound.Literal v) (of_literal v))
  of-layer (BoundExpr-F.Column level i) = subst Tests (sym (rolls-Column level i))
      (one (bound.Column level i) (of_column level i))
  of-layer (BoundExpr-F.Variable i) = subst Tests (sym (rolls-Variable i))
      (one (bound.Variable i) (of_variable i))
  of-layer (BoundExpr-F.Operation w es) = subst Tests (sym (rolls-Operation w (map (λ e. e.0) es)))
      (of-word (is_and w) w es refl)
  of-layer (BoundExpr-F.Chain e ls) = subst Tests (sym (rolls-Chain e.0 (map (λ l. l.0) ls)))
      (one (bound.Chain e.0 (map (λ l. l.0) ls)) (of_chain e.0 (map (λ l. l.0) ls)))
  of-layer (BoundExpr-F.Call name es) = subst Tests (sym (rolls-Call name (map (λ e. e.0) es)))
      (one (bound.Call name (map (λ e. e.0) es)) (of_call name (map (λ e. e.0) es)))
  of-layer (BoundExpr-F.Single q) = subst Tests (sym (rolls-Single q.0))
      (one (bound.Single q.0) (of_single q.0))
  of-layer (BoundExpr-F.Exists q) = subst Tests (sym (rolls-Exists q.0))
      (one (bound.Exists q.0) (of_exists q.0))
  of-layer (BoundExpr-F.In e q) = subst Tests (sym (rolls-In e.0 q.0))
      (one (bound.In e.0 q.0) (of_in e.0 q.0))

  tested : (e : BoundExpr) → Tests e
  tested = ind-BoundExpr Tests (λ x. Unit {0}) (λ x. Unit {0}) (λ x. Unit {0}) (λ x. Unit {0})
      (λ x. Unit {0}) (λ x. Unit {0}) (λ x. Unit {0})
      (λ x y is. subst (λ z. Tests (roll-BoundExpr z)) is (of-layer y)) (λ x y is. tt)
      (λ x y is. tt) (λ x y is. tt) (λ x y is. tt) (λ x y is. tt) (λ x y is. tt) (λ x y is. tt)

pub conjuncts-are-tests : (e : BoundExpr) (a : Around) (k : Kind) → Has (kind_of e a) k →
    fits Boolean k ≡ true → tests a (map kind_of (conjuncts_of e)) ≡ true
conjuncts-are-tests e a k (j, is, below) f = tested a e
    (ap is_true_value is ∙ fits-below Boolean j k below f)
