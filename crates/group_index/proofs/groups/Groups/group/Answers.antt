use Rattle.std.proofs.Common.{ap, sym, ◌∙◌}
use Rattle.group_index.specs.Indexed.{group_of}
use Rattle.group_index.proofs.Indexed.{there, absent}
use Rattle.group_index.proofs.groups.Groups.group.Goals as goal

pub returns-in-Some-clause-rows : goal.returns-in-Some-clause-rows
returns-in-Some-clause-rows g c = sym (there c.args.key.now c.self.inside.index.entries
    c.in-Some.rows.now (sym c.in-Some.ensures.value)) ∙ ap (group_of c.args.key.now) c.self.view_is

pub returns-in-None-clause-rows : goal.returns-in-None-clause-rows
returns-in-None-clause-rows g c = c.self.invariant ∙
    (sym (absent c.args.key.now c.self.inside.index.entries (sym c.in-None.ensures.value)) ∙
    ap (group_of c.args.key.now) c.self.view_is)
