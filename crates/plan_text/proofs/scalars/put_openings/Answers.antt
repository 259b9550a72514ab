use Rattle.std.proofs.Common.{◌≡◌, ◌+◌, ◌-◌, ◌<◌, ℕ, List, [], ◌++◌, map, drop, length, sym, ap}
use Rattle.std.proofs.Common.{◌∙◌, arith}
use Rattle.std.proofs.lemmas.List.{append-nil, drop_all}
use Rattle.rel_algebra.specs.declared.scalar.ScalarLink.{ScalarLink}
use Rattle.rel_algebra.specs.PlanText.{Text}
use Rattle.rel_algebra.specs.PlanView.{link_of}
use Rattle.plan_text.specs.Parts.{openings}
use Rattle.plan_text.proofs.Operators.{word_put}
use Rattle.plan_text.proofs.scalars.put_openings.Goals as goal

pub loop-left-init : goal.loop-left-init
loop-left-init c =
    let links = c.args.links.now in
    let old : Text = c.args.text.now.items in
    let none : drop (length links) links ≡ [] = drop_all (length links) links (omega arith) in
    record {
      text = sym (append-nil old) ∙
          ap (λ (ls : List ScalarLink). old ++ openings (map link_of ls)) (sym none);
      within = omega arith;
    }

pub loop-left-preserved : goal.loop-left-preserved
loop-left-preserved c =
    let i = c.loop-left.left - 1 in
    let some : 0 < c.loop-left.left = c.loop-left-test.true in
    let within = c.loop-left.invariant.within in
    let up : c.loop-left.left ≡ i + 1 = omega (arith, some) in
    let there : i < length c.args.links.now = omega (arith, some, within) in
    record {
      text = word_put c.args.links.now i c.loop-left.left c.index-links-left.result
          c.args.text.now.items c.loop-left.text.items c.put_opening.new.text.items up there
          c.index-links-left.is c.loop-left.invariant.text c.in_ok-put_opening.ensures;
      within = omega (arith, within);
    }

pub returns : goal.returns
returns c =
    let none : c.loop-left.left ≡ 0 = (let f = c.loop-left-test.false in omega (arith, f)) in
    c.loop-left.invariant.text ∙ ap (λ (n : ℕ). c.args.text.now.items ++
    openings (map link_of (drop n c.args.links.now))) none
