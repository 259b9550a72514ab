use Rattle.std.proofs.Common.{ap, ◌∙◌}
use Rattle.std.proofs.lemmas.Result.{on_ok_weaker}
use Rattle.group_index.specs.Indexed.{group_of}
use Rattle.group_index.proofs.Indexed.{pushed, missing}
use Rattle.group_index.proofs.groups.add_to.Goals as goal

pub returns-in-Some : goal.returns-in-Some
returns-in-Some c = on_ok_weaker c.push_at.result
    (λ h q. ap (group_of q) h ∙ pushed c.args.key c.args.row q c.args.index.now.entries c.in-Some.at
    c.in-Some.ensures.index) c.push_at.ensures

pub returns-in-None : goal.returns-in-None
returns-in-None c = on_ok_weaker c.push_new.result
    (λ h q. ap (group_of q) h ∙ missing c.args.key c.args.row q c.args.index.now.entries
    c.in-None.ensures.index) c.push_new.ensures
