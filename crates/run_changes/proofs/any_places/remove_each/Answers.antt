use Rattle.run_changes.proofs.Removing.{one_out, still_there, all_out}
use Rattle.std.proofs.Common.{◌≡◌, [], refl, rules}
use Rattle.run_changes.proofs.any_places.remove_each.Goals as goal

pub loop-at-preserved : goal.loop-at-preserved
loop-at-preserved c =
    let g = c.loop-at.invariant in
    record {
      going = one_out c.args.world.now c.loop-at.world c.remove_one.new.world c.args.place
          c.in-Some.at c.loop-at.left.items c.pop.new.self.items _ g.there c.in-Some.ensures.items
          g.going c.in_ok-remove_one.ensures;
      there = still_there c.args.world.now c.loop-at.world c.remove_one.new.world c.args.place
          c.in-Some.at c.loop-at.left.items c.pop.new.self.items _ g.there c.in-Some.ensures.items
          g.going c.in_ok-remove_one.ensures;
    }

pub returns : goal.returns
returns c =
    let none : c.loop-at.left.items ≡ [] = search rules in
    all_out c.args.world.now c.loop-at.world c.args.place c.loop-at.left.items _ _ none
    c.loop-at.invariant.going refl
