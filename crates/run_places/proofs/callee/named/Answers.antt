use Rattle.std.proofs.Common.{Some, ap, ◌∙◌, subst}
use Rattle.catalog_store.specs.declared.entry.Object.{Object as HeldObject}
use Rattle.catalog_store.specs.Entries.{ObjectFits, object_of}
use Rattle.run_places.proofs.Catalogs.{function_named, interpreted_named, procedure_named, same_there}
use Rattle.run_places.proofs.callee.named.Goals as goal

pub returns-in-Some : goal.returns-in-Some
returns-in-Some c =
    function_named c.routine_is.ensures c.planned_views.ensures c.args.place.now.catalog.now c.args.name.now
    c.len-entries.ensures.names c.in-Some-Function.record c.in-Some.tree.now
    (c.in-Some-Function.ensures.value ∙ ap (λ (o : HeldObject). Some (object_of c.args.place.now.catalog.now o))
    c.in-Some-Function.field-0-is)
    (subst (λ (o : HeldObject). ObjectFits c.args.place.now.catalog.now o) c.in-Some-Function.field-0-is
    c.in-Some-Function.ensures.fits)
    (same_there c.in-Some.tree.now c.in-Some-Function.record.body c.in-Some.ensures)

pub returns-in-Some-Interpreted : goal.returns-in-Some-Interpreted
returns-in-Some-Interpreted c =
    interpreted_named c.routine_is.ensures c.planned_views.ensures c.args.place.now.catalog.now
    c.args.name.now c.len-entries.ensures.names c.in-Some-Interpreted.function
    (c.in-Some-Interpreted.ensures.value ∙
    ap (λ (o : HeldObject). Some (object_of c.args.place.now.catalog.now o)) c.in-Some-Interpreted.field-0-is)
    c.args.place.now.calls

pub returns-in-Some-Procedure : goal.returns-in-Some-Procedure
returns-in-Some-Procedure c =
    procedure_named c.routine_is.ensures c.planned_views.ensures c.args.place.now.catalog.now
    c.args.name.now c.len-entries.ensures.names c.in-Some-Procedure.field-0-0
    (c.in-Some-Procedure.ensures.value ∙
    ap (λ (o : HeldObject). Some (object_of c.args.place.now.catalog.now o)) c.in-Some-Procedure.field-0-is)
    c.args.place.now.calls
