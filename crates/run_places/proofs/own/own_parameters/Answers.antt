use Rattle.std.proofs.Common.{[], refl}
use Rattle.run_places.proofs.Parameters.{types_in}
use Rattle.run_places.proofs.own.own_parameters.Goals as goal

pub returns-in-Function : goal.returns-in-Function
returns-in-Function c = types_in c.args.own.now.routine _ [] c.in-Function.function.now.head.parameters
    c.as_slice.result.now c.in-Function.is refl c.as_slice.ensures

pub returns-in-Procedure : goal.returns-in-Procedure
returns-in-Procedure c = types_in c.args.own.now.routine _ c.in-Procedure.procedure.now.head.modes
    c.in-Procedure.procedure.now.head.parameters c.as_slice-in-Procedure.result.now
    c.in-Procedure.is refl c.as_slice-in-Procedure.ensures
