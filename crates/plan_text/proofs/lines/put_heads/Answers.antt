use Rattle.std.proofs.Common.{◌≡◌, ◌+◌, ◌-◌, ◌<◌, ℕ, List, [], ◌++◌, drop, length, sym, ap, ◌∙◌}
use Rattle.std.proofs.Common.{arith}
use Rattle.std.proofs.lemmas.List.{append-nil, drop_all}
use Rattle.rel_algebra.specs.declared.plan.Node.{Node}
use Rattle.rel_algebra.specs.PlanText.{Text}
use Rattle.plan_text.specs.Parts.{parts_of, all_parts, heads}
use Rattle.plan_text.proofs.Steps.{heads_put, heads_deep}
use Rattle.plan_text.proofs.lines.put_heads.Goals as goal

pub loop-left-init : goal.loop-left-init
loop-left-init c =
    let nodes = c.args.nodes.now in
    let r = c.args.in_run in
    let old : Text = c.args.text.now.items in
    let d : ℕ = c.args.depth in
    let none : drop (length nodes) nodes ≡ [] = drop_all (length nodes) nodes (omega arith) in
    let same : d ≡ d + 0 = omega arith in
    record {
      text = sym (append-nil old) ∙
          ap (λ (ns : List Node). old ++ heads (all_parts r ns) d) (sym none);
      deep = same ∙ ap (λ (ns : List Node). d + length (all_parts r ns)) (sym none);
      within = omega arith;
    }

pub loop-left-preserved : goal.loop-left-preserved
loop-left-preserved c =
    let nodes = c.args.nodes.now in
    let f = parts_of c.args.in_run in
    let i = c.loop-left.left - 1 in
    let known = c.loop-left.invariant in
    let some : 0 < c.loop-left.left = c.loop-left-test.true in
    let within = known.within in
    let up : c.loop-left.left ≡ i + 1 = omega (arith, some) in
    let there : i < length nodes = omega (arith, some, within) in
    record {
      text = heads_put f nodes i c.loop-left.left c.index-nodes-left.result c.args.depth
          c.loop-left.inside c.args.text.now.items c.loop-left.text.items
          c.put_head.new.text.items up there c.index-nodes-left.is known.deep known.text
          c.in_ok-lower.ensures.text;
      deep = heads_deep f nodes i c.loop-left.left c.index-nodes-left.result c.args.depth
          c.loop-left.inside c.in_ok-lower.lower up there c.index-nodes-left.is known.deep
          c.in_ok-lower.ensures.depth;
      within = omega (arith, within);
    }

pub returns-clause-text : goal.returns-clause-text
returns-clause-text c =
    let none : c.loop-left.left ≡ 0 = (let f = c.loop-left-test.false in omega (arith, f)) in
    c.loop-left.invariant.text ∙ ap (λ (n : ℕ). c.args.text.now.items ++
    heads (all_parts c.args.in_run (drop n c.args.nodes.now)) c.args.depth) none

pub returns-clause-depth : goal.returns-clause-depth
returns-clause-depth c =
    let none : c.loop-left.left ≡ 0 = (let f = c.loop-left-test.false in omega (arith, f)) in
    c.loop-left.invariant.deep ∙ ap (λ (n : ℕ). c.args.depth +
    length (all_parts c.args.in_run (drop n c.args.nodes.now))) none
