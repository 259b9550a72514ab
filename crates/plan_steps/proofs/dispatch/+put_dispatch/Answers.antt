use Rattle.std.proofs.Common.{ap, length, refl}
use Rattle.std.proofs.lemmas.Result.{on_ok_weaker}
use Rattle.plan_steps.specs.Places.{codes_in}
use Rattle.plan_steps.proofs.Dispatching.{dispatch_put}
use Rattle.plan_steps.proofs.dispatch.+put_dispatch.Goals as goal

pub returns-in_ok-next-in-Scope : goal.returns-in_ok-next-in-Scope
returns-in_ok-next-in-Scope t c =
    let p = c.args.place.now in let s = c.in-Scope.scope in
    on_ok_weaker c.put_dispatch.result
    (dispatch_put p s c.in-Scope.outer.now _ c.args.first (length s.handlers.now)
    c.in_ok-next-in-Scope.next c.args.here c.args.column c.code_at.result c.args.arms.now
    c.put_scope.new.arms c.put_dispatch.new.arms c.code_at.ensures refl
    c.in_ok-next-in-Scope.ensures (ap (codes_in p.functions.now) c.in-Scope.is)
    c.in_ok-put_scope-in-Scope.ensures) c.put_dispatch.ensures
