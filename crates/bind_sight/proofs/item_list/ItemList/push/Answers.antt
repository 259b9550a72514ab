use Rattle.std.proofs.Common.{◌∙◌}
use Rattle.bind_sight.proofs.ItemNaming.{names_more, names_stay, popped}
use Rattle.bind_sight.proofs.item_list.ItemList.push.Goals as goal
use Rattle.bind_sight.proofs.item_list.ItemList.push.Goals.{in-Ok, in-Err+in-Some-1}
use Rattle.bind_sight.proofs.item_list.ItemList.push.Goals.{in-Err+in-None-1}

pub invariant_of-self-in-Ok : goal.invariant_of-self-in-Ok
invariant_of-self-in-Ok c =
    names_more c.self.inside.names.keys c.insert.new.self.keys c.self.inside.items c.push.new.self
    c.args.item c.in_ok-name.name c.in_ok-push.ensures.ok c.in_ok-name.ensures c.self.invariant
    (λ other. c.in-Ok.ensures.updates.0 other)

pub invariant_of-self-in-Err : goal.invariant_of-self-in-Err
invariant_of-self-in-Err c =
    names_stay c.self.inside.names.keys c.insert.new.self.keys c.self.inside.items
    c.pop-last.new.self c.in-Err.ensures.err
    (popped c.pop-last.result c.self.inside.items c.push.new.self c.pop-last.new.self c.args.item
    c.in_ok-push.ensures.ok c.pop-last.ensures) c.self.invariant

pub returns-clause-err : goal.returns-clause-err
returns-clause-err c =
    elim c.match-insert.branch [
      | in-Ok w ↦ rw w.result-is tt
      | in-Err+in-Some-1 w ↦ rw w.result-is
          (w.self-is
          ∙ (popped w.pop-last.result c.self.inside.items c.push.new.self w.pop-last.new.self
          c.args.item c.in_ok-push.ensures.ok w.pop-last.ensures ∙ c.self.view_is))
      | in-Err+in-None-1 w ↦ rw w.result-is
          (w.self-is
          ∙ (popped w.pop-last.result c.self.inside.items c.push.new.self w.pop-last.new.self
          c.args.item c.in_ok-push.ensures.ok w.pop-last.ensures ∙ c.self.view_is))
    ]
