use Rattle.std.proofs.Common.{[], refl, subst, ◌≡◌, sym, List}
use Rattle.catalog_store.specs.declared.entry.ParameterMode.{ParameterMode}
use Rattle.routine_views.specs.Routines.{with_modes}
use Rattle.routine_views.specs.Views.{types_of}
use Rattle.run_places.specs.Places.{parameters_in}
use Rattle.run_places.proofs.Parameters.{modes_in}
use Rattle.run_places.proofs.own.own_modes.Goals as goal

pub returns-in-Function : goal.returns-in-Function
returns-in-Function c = modes_in c.args.own.now.routine _ []
    c.in-Function.field-0.now.head.parameters c.in-Function.is refl

pub returns-in-Procedure : goal.returns-in-Procedure
returns-in-Procedure c = subst (λ (ms : List ParameterMode).
    with_modes ms (types_of (parameters_in c.args.own.now.routine))
    ≡ parameters_in c.args.own.now.routine) (sym c.as_slice.ensures)
    (modes_in c.args.own.now.routine _ c.in-Procedure.procedure.now.head.modes
    c.in-Procedure.procedure.now.head.parameters c.in-Procedure.is refl)
