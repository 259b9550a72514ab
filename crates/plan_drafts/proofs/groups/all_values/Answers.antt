use Rattle.std.proofs.Common.{ℕ, List, [], ◌∷◌, ◌+◌, ◌-◌, sym, ap, ◌∙◌}
use Rattle.rel_algebra.specs.declared.scalar.Scalar.{Scalar as ScalarCode}
use Rattle.rel_algebra.specs.Emit.{checks}
use Rattle.rel_algebra.specs.Joins.{places}
use Rattle.rel_algebra.specs.Plan.{and_word, word, more}
use Rattle.plan_expressions.specs.Emission.{put}
use Rattle.plan_expressions.proofs.Laws.{put-none, put-append}
use Rattle.plan_drafts.proofs.Places.{places-next, places-none}
use Rattle.plan_drafts.proofs.groups.all_values.Goals as goal

pub loop-place-preserved : goal.loop-place-preserved
loop-place-preserved c =
    let p = c.loop-place.place in
    let before = c.loop-place.checks in
    let others = checks (places (p + 1) (c.args.end - (p + 1))) in
    ap (λ (ss : List ScalarCode). put ss others) c.in_ok-push.ensures.ok ∙
    put-append before (c.in_ok-check.field-0 ∷ []) others
    ∙ ap (λ s. put before (more s others)) c.in_ok-check.ensures ∙
    ap (λ (ps : List ℕ). put before (checks ps))
    (sym (places-next p c.args.end c.loop-place-test.true))
    ∙ c.loop-place.invariant

pub returns : goal.returns
returns c =
    let all = c.loop-place.checks in
    c.listed.ensures
    ∙ ap (λ ss. word and_word ss)
    (sym (put-none all) ∙ ap (λ (ps : List ℕ). put all (checks ps))
    (sym (places-none c.loop-place.place c.args.end c.loop-place-test.false)) ∙
    c.loop-place.invariant)
