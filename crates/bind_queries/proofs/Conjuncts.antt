-- The top conjuncts of a test use what it uses, and have plans where it has one.
use Rattle.std.proofs.Common.{◌≡◌, refl, sym, ap, ap₂, ◌∙◌, subst, Bool, true, false, List, [], ◌∷◌}
use Rattle.std.proofs.Common.{map}
use Rattle.std.specs.List.{flat_map}
use Rattle.bound_trees.specs.declared.expr.BoundExpr.{BoundExpr, roll-BoundExpr}
use Rattle.bound_trees.specs.declared.expr.BoundExpr.TheVariants as bound
use Rattle.bound_trees.specs.declared.expr.BoundExpr.TheVariants.{rolls-Literal, rolls-Column}
use Rattle.bound_trees.specs.declared.expr.BoundExpr.TheVariants.{rolls-Variable, rolls-Operation}
use Rattle.bound_trees.specs.declared.expr.BoundExpr.TheVariants.{rolls-Chain, rolls-Call}
use Rattle.bound_trees.specs.declared.expr.BoundExpr.TheVariants.{rolls-Single, rolls-Exists}
use Rattle.bound_trees.specs.declared.expr.BoundExpr.TheVariants.{rolls-In}
use Rattle.bound_trees.specs.declared.expr.BoundExpr.TheOpen.{BoundExpr-F}
use Rattle.bound_trees.specs.declared.expr.BoundExpr.TheFolds.{map-BoundExpr, ind-BoundExpr}
use Rattle.bound_trees.specs.declared.expr.BoundLink.{BoundLink}
use Rattle.bound_trees.specs.declared.expr.BoundOperation.{BoundOperation}
use Rattle.bound_trees.specs.declared.expr.BoundOperation.TheVariants as word
use Rattle.bound_trees.specs.declared.query.BoundFromItem.{BoundFromItem}
use Rattle.bound_trees.specs.declared.query.BoundQuery.{BoundQuery}
use Rattle.bound_trees.specs.declared.query.BoundRow.{BoundRow}
use Rattle.bound_trees.specs.declared.query.BoundSource.{BoundSource}
use Rattle.bound_trees.specs.declared.query.BoundGrouping.{BoundGrouping}
use Rattle.bound_trees.specs.declared.query.BoundSelect.{BoundSelect}
use Rattle.rel_algebra.specs.Plain.{planned_expr}
use Rattle.catalog_store.specs.Uses.{Uses}
use Rattle.catalog_store.proofs.Laws.{uses_in-Operation, tree_of-Operation}
use Rattle.bind_kinds.specs.Conjuncts.{is_and, conjuncts_of}
use Rattle.bind_kinds.proofs.Laws.{of_literal, of_column, of_variable, of_chain, of_call, of_single}
use Rattle.bind_kinds.proofs.Laws.{of_exists, of_in, of_other, of_and}
use Rattle.bind_queries.proofs.Marks.{Known, Mark, ◌⊕◌, mark, marks, marks-one, marks-append, Alike}
use Rattle.bind_queries.proofs.Marks.{alike-is}

module _ (known : Known) where
  abbrev Same : BoundExpr → Type 0
  Same e = marks known (conjuncts_of e) ≡ mark known e

  abbrev Shown : Type 0
  Shown = (e : BoundExpr) × Same e

  abbrev Other : Type 0 → Type 0
  Other A = (a : A) × Unit {0}

  one : (e : BoundExpr) → conjuncts_of e ≡ e ∷ [] → Same e
  one e p = ap (marks known) p ∙ marks-one known e

  all : (es : List Shown) → marks known (flat_map conjuncts_of (map (λ e. e.0) es)) ≡ marks known
      (map (λ e. e.0) es)
  all [] = refl
  all (e ∷ es) =
      marks-append known (conjuncts_of e.0) (flat_map conjuncts_of (map (λ x. x.0) es)) ∙
      ap₂ (λ (a b : Mark). a ⊕ b) e.1 (all es)

  abbrev made : Uses → Bool → Mark
  made us b = record { uses = us; planned = b }

  and-itself : (w : BoundOperation) (es : List BoundExpr) → is_and w ≡ true →
      marks known es ≡ mark known (bound.Operation w es)
  and-itself word.And es p = ap₂ made (sym (uses_in-Operation word.And es))
      (sym (ap planned_expr (tree_of-Operation known.catalog word.And es)))
  and-itself word.Negation es p = absurd cc
  and-itself word.Opposite es p = absurd cc
  and-itself (word.Comparing c) es p = absurd cc
  and-itself word.NullTest es p = absurd cc
  and-itself word.TrueTest es p = absurd cc
  and-itself word.FalseTest es p = absurd cc
  and-itself word.AnyOf es p = absurd cc
  and-itself word.Modulo es p = absurd cc
  and-itself word.CharLength es p = absurd cc
  and-itself word.Substring es p = absurd cc
  and-itself (word.Cast t) es p = absurd cc
  and-itself word.Or es p = absurd cc
  and-itself word.Coalesce es p = absurd cc
  and-itself word.Case es p = absurd cc
  and-itself word.CaseOf es p = absurd cc

  of-word : (b : Bool) (w : BoundOperation) (es : List Shown) → is_and w ≡ b →
      Same (bound.Operation w (map (λ e. e.0) es))
  of-word true w es p = ap (marks known) (of_and w (map (λ e. e.0) es) p) ∙ all es ∙
      and-itself w (map (λ e. e.0) es) p
  of-word false w es p = one (bound.Operation w (map (λ e. e.0) es))
      (of_other w (map (λ e. e.0) es) p)

  abbrev layer : BoundExpr-F Shown (Other BoundFromItem) (Other BoundQuery) (Other BoundRow)
      (Other BoundSource) (Other BoundLink) (Other BoundGrouping) (Other BoundSelect) →
      BoundExpr-F BoundExpr BoundFromItem BoundQuery BoundRow BoundSource BoundLink BoundGrouping
      BoundSelect
  layer y = map-BoundExpr Shown (Other BoundFromItem) (Other BoundQuery) (Other BoundRow)
      (Other BoundSource) (Other BoundLink) (Other BoundGrouping) (Other BoundSelect) BoundExpr
      BoundFromItem BoundQuery BoundRow BoundSource BoundLink BoundGrouping BoundSelect (λ e. e.0)
      (λ e. e.0) (λ e. e.0) (λ e. e.0) (λ e. e.0) (λ e. e.0) (λ e. e.0) (λ e. e.0) y

  of-layer : (y : BoundExpr-F Shown (Other BoundFromItem) (Other BoundQuery) (Other BoundRow)
      (Other BoundSource) (Other BoundLink) (Other BoundGrouping) (Other BoundSelect)) →
      Same (roll-BoundExpr (layer y))
  of-layer (BoundExpr-F.Literal v) = subst Same (sym (rolls-Literal v))
      (one (bound.Literal v) (of_literal v))
  of-layer (BoundExpr-F.Column level i) = subst Same (sym (rolls-Column level i))
      (one (bound.Column level i) (of_column level i))
  of-layer (BoundExpr-F.Variable i) = subst Same (sym (rolls-Variable i))
      (one (bound.Variable i) (of_variable i))
  of-layer (BoundExpr-F.Operation w es) = subst Same (sym (rolls-Operation w (map (λ e. e.0) es)))
      (of-word (is_and w) w es refl)
  of-layer (BoundExpr-F.Chain e ls) = subst Same (sym (rolls-Chain e.0 (map (λ l. l.0) ls)))
      (one (bound.Chain e.0 (map (λ l. l.0) ls)) (of_chain e.0 (map (λ l. l.0) ls)))
  of-layer (BoundExpr-F.Call name es) = subst Same (sym (rolls-Call name (map (λ e. e.0) es)))
      (one (bound.Call name (map (λ e. e.0) es)) (of_call name (map (λ e. e.0) es)))
  of-layer (BoundExpr-F.Single q) = subst Same (sym (rolls-Single q.0))
      (one (bound.Single q.0) (of_single q.0))
  of-layer (BoundExpr-F.Exists q) = subst Same (sym (rolls-Exists q.0))
      (one (bound.Exists q.0) (of_exists q.0))
  of-layer (BoundExpr-F.In e q) = subst Same (sym (rolls-In e.0 q.0))
      (one (bound.In e.0 q.0) (of_in e.0 q.0))

  pub same : (e : BoundExpr) → Same e
  same = ind-BoundExpr Same (λ x. Unit {0}) (λ x. Unit {0}) (λ x. Unit {0}) (λ x. Unit {0})
      (λ x. Unit {0}) (λ x. Unit {0}) (λ x. Unit {0})
      (λ x y is. subst (λ z. Same (roll-BoundExpr z)) is (of-layer y)) (λ x y is. tt) (λ x y is. tt)
      (λ x y is. tt) (λ x y is. tt) (λ x y is. tt) (λ x y is. tt) (λ x y is. tt)

  pub alike-conjuncts : (e : BoundExpr) → Alike known (mark known e) (marks known (conjuncts_of e))
  alike-conjuncts e = alike-is known (mark known e) (marks known (conjuncts_of e)) (same e)
