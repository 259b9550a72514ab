use Rattle.std.proofs.Common.{◌≡◌, [], ◌++◌, codes, sym, ap, ◌∙◌, append_assoc, arith}
use Rattle.rel_algebra.specs.PlanText.{Text, indented}
use Rattle.plan_text.proofs.Margins.{indented_more}
use Rattle.plan_text.proofs.lines.put_margin.Goals as goal

pub loop-preserved : goal.loop-preserved
loop-preserved c =
    let old : Text = c.args.text.now.items in
    let i = c.loop.counter in
    c.in_ok-put.ensures ∙ (ap (λ (t : Text). t ++ codes "  ") c.loop.invariant ∙
    (append_assoc old (indented i []) (codes "  ") ∙
    ap (λ (t : Text). old ++ t) (sym (indented_more i))))

pub returns : goal.returns
returns c =
    let all : c.loop.counter ≡ c.args.depth =
    omega (arith, c.loop-test.false, c.loop.auto.counter-end) in
    c.loop.invariant ∙ ap (λ n. c.args.text.now.items ++ indented n []) all
