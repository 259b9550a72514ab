use Rattle.std.proofs.Common.{ℕ, ◌≡◌, ◌<◌, ◌+◌, ◌-◌, ◌++◌, suc, List, [], ◌∷◌, sym, ap, ◌∙◌}
use Rattle.std.proofs.Common.{append_assoc, arith}
use Rattle.bound_trees.specs.declared.expr.BoundExpr.{BoundExpr}
use Rattle.null_guards.specs.Guards.{null_test, null_tests}
use Rattle.null_guards.proofs.guard.null_tests.Goals as goal

next : (p end : ℕ) → p < end →
    null_tests p (end - p) ≡ null_test p ∷ null_tests (p + 1) (end - (p + 1))
next p end h =
    let e : end - p ≡ suc (end - (p + 1)) = omega (arith, h) in
    let f : suc p ≡ p + 1 = omega arith in
    ap (null_tests p) e ∙ ap (λ q. null_test p ∷ null_tests q (end - (p + 1))) f

pub loop-place-preserved : goal.loop-place-preserved
loop-place-preserved c =
    let p = c.loop-place.place in
    let others = null_tests (p + 1) (c.args.count - (p + 1)) in
    ap (λ (es : List BoundExpr). es ++ others) c.in_ok-push.ensures.ok ∙
    ap (λ (e : BoundExpr). (c.loop-place.tests ++ e ∷ []) ++ others) c.in_ok-null_test.ensures ∙
    append_assoc c.loop-place.tests (null_test p ∷ []) others
    ∙ ap (λ (es : List BoundExpr). c.loop-place.tests ++ es)
    (sym (next p c.args.count c.loop-place-test.true)) ∙ c.loop-place.invariant
