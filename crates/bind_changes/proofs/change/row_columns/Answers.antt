use Rattle.std.proofs.Common.{ℕ, ◌≡◌, ◌<◌, ◌+◌, ◌-◌, ◌++◌, suc, List, [], ◌∷◌, sym, ap, ◌∙◌}
use Rattle.std.proofs.Common.{append_assoc, arith}
use Rattle.bound_trees.specs.declared.expr.BoundExpr.{BoundExpr}
use Rattle.bound_trees.specs.declared.expr.BoundExpr.TheVariants as expr
use Rattle.bind_changes.specs.Writing.{columns_from}
use Rattle.bind_changes.proofs.change.row_columns.Goals as goal

next : (p end : ℕ) → p < end → columns_from p (end - p) ≡ expr.Column 0 p ∷ columns_from (p + 1)
    (end - (p + 1))
next p end h =
    let e : end - p ≡ suc (end - (p + 1)) = omega (arith, h) in
    let f : suc p ≡ p + 1 = omega arith in
    ap (columns_from p) e ∙ ap (λ q. expr.Column 0 p ∷ columns_from q (end - (p + 1))) f

pub loop-place-preserved : goal.loop-place-preserved
loop-place-preserved c =
    let p = c.loop-place.place in
    let others = columns_from (p + 1) (c.args.width - (p + 1)) in
    ap (λ (es : List BoundExpr). es ++ others) c.in_ok-push.ensures.ok ∙
    append_assoc c.loop-place.items (expr.Column 0 p ∷ []) others
    ∙ ap (λ (es : List BoundExpr). c.loop-place.items ++ es)
    (sym (next p c.args.width c.loop-place-test.true)) ∙ c.loop-place.invariant
