-- The function comes after what it uses.
use Rattle.std.proofs.Common.{ℕ, List, Some, sym, ap, ◌∙◌}
use Rattle.std.specs.Borrow.{Bor}
use Rattle.catalog_store.specs.declared.entry.Object.{Object as HeldObject}
use Rattle.catalog_store.specs.Entries.{interpreted_of, object_of}
use Rattle.called_names.specs.Called.{held}
use Rattle.called_names.specs.Reached.{is_among}
use Rattle.called_names.proofs.After.{comes_after}
use Rattle.called_names.proofs.reaching.+reach.Goals as goal

pub returns-in_ok-push-in-Some-Interpreted : goal.returns-in_ok-push-in-Some-Interpreted
returns-in_ok-push-in-Some-Interpreted t c =
    comes_after c.args.steps c.args.catalog.now c.args.name
    (interpreted_of c.in-Some-Interpreted.function) c.args.done.now.items c.loop-used.done.items
    c.push.new.self.items c.as_slice-uses.result.now c.loop-used.used-index c.if-steps-eq0.false
    (ap (λ (names : List (Bor (List ℕ))). is_among c.args.name.now (held names))
    (sym c.as_slice.ensures.value) ∙ sym c.is_among.ensures ∙ c.if-is_among.false)
    (c.in-Some-Interpreted.ensures.value
    ∙ ap (λ (o : HeldObject). Some (object_of c.args.catalog.now o)) c.in-Some-Interpreted.field-0-is)
    c.as_slice-uses.ensures c.loop-used-test.false c.loop-used.invariant
    c.in_ok-push-in-Some-Interpreted.ensures.items
