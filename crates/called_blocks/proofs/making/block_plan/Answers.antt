-- The plan of a block's body is the block's.
use Rattle.std.specs.List.{IsDistinct}
use Rattle.std.specs.Str.{bytes_eq}
use Rattle.std.proofs.Common.{sym, subst, ◌∙◌}
use Rattle.catalog_store.specs.Catalog.{Catalog, names_of}
use Rattle.catalog_store.specs.Entries.{interpreted_of}
use Rattle.called_blocks.proofs.Owning.{block_made}
use Rattle.called_blocks.proofs.making.block_plan.Goals as goal

pub returns-clause-block : goal.returns-clause-block
returns-clause-block c =
    block_made c.routine_is.ensures c.forms_are_planned.ensures c.args.functions.now
    c.args.name.now (interpreted_of c.args.function.now) c.as_slice-parameters.result.now
    c.in_ok-plan.plan
    (subst (λ (known : Catalog). IsDistinct bytes_eq (names_of known)) c.catalog.ensures
    c.len-entries.ensures.names)
    c.requires.calls c.requires.apart c.requires.function
    (sym c.may_be_planned.ensures ∙ c.if-not-may_be_planned.false)
    c.as_slice-parameters.ensures c.in_ok-plan.ensures
