use Rattle.std.proofs.Common.{◌≡◌, refl, ap₂, ◌∙◌, List, [], ◌∷◌, ◌++◌}
use Rattle.bound_trees.specs.declared.expr.BoundExpr.{BoundExpr}
use Rattle.bound_trees.specs.declared.expr.BoundOperation.TheVariants.{And, Or}
use Rattle.bind_kinds.specs.Conjuncts.{conjuncts_of}
use Rattle.bind_kinds.specs.Examples.{column, two}
use Rattle.bind_kinds.proofs.Parts.{of_and, of_column, of_other}
use Rattle.bind_kinds.proofs.conjuncts_stand_in_order.Goals as goal

both : (a b : BoundExpr) (x y : List BoundExpr) → conjuncts_of a ≡ x → conjuncts_of b ≡ y →
    conjuncts_of (two And a b) ≡ x ++ (y ++ [])
both a b x y p q = of_and And (a ∷ b ∷ []) refl ∙ ap₂ (λ u v. u ++ (v ++ [])) p q

pub returns : goal.returns
returns c =
    let or = of_other Or (column 3 ∷ column 4 ∷ []) refl in
    let left = both (column 0) (column 1) _ _ (of_column 0 0) (of_column 0 1) in
    let right = both (column 2) (two Or (column 3) (column 4)) _ _ (of_column 0 2) or in
    record {
      in_brackets = both (two And (column 0) (column 1))
          (two And (column 2) (two Or (column 3) (column 4))) _ _ left right;
      of_or = of_other Or (column 0 ∷ column 1 ∷ []) refl;
      of_one = of_column 0 0;
    }
