use Rattle.std.proofs.Common.{Some, ap, ◌∙◌}
use Rattle.catalog_store.specs.declared.entry.Object.{Object as HeldObject}
use Rattle.catalog_store.specs.Entries.{object_of}
use Rattle.run_places.proofs.Catalogs.{interpreted_performs, performs_procedure}
use Rattle.run_places.proofs.callee.procedure_named.Goals as goal

pub returns-in-Some-Procedure : goal.returns-in-Some-Procedure
returns-in-Some-Procedure c =
    performs_procedure c.routine_is.ensures c.args.place.now.catalog.now c.args.name.now
    c.len-entries.ensures.names c.in-Some-Procedure.procedure
    (c.in-Some-Procedure.ensures.value ∙
    ap (λ (o : HeldObject). Some (object_of c.args.place.now.catalog.now o))
    c.in-Some-Procedure.field-0-is) c.args.place.now.calls

pub returns-in-Some-Interpreted : goal.returns-in-Some-Interpreted
returns-in-Some-Interpreted c =
    interpreted_performs c.routine_is.ensures c.args.place.now.catalog.now c.args.name.now
    c.len-entries.ensures.names c.in-Some-Interpreted.field-0-0
    (c.in-Some-Interpreted.ensures.value ∙
    ap (λ (o : HeldObject). Some (object_of c.args.place.now.catalog.now o))
    c.in-Some-Interpreted.field-0-is) c.args.place.now.calls
