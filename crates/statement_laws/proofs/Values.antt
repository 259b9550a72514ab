-- How a statement goes on from the end of an evaluation.
use Rattle.std.proofs.Common.{Bool, ap, if◌then◌else◌}
use Rattle.rel_algebra.specs.World.{Ends}
use Rattle.rel_algebra.specs.Handlers.{with_end}
use Rattle.statement_laws.specs.Values.{CalledGoesOn, ValueGoesOn, TestGoesOn, EvaluationsGoOn}

pub called : (A : Type 0) → CalledGoesOn A
called A = record {
  gives = λ scopes e go f w u a h. ap (λ (x : Ends A). with_end scopes x f go) h;
  raises = λ scopes e go f w u area h. ap (λ (x : Ends A). with_end scopes x f go) h;
  runs_out = λ scopes e go f w u h. ap (λ (x : Ends A). with_end scopes x f go) h;
}

pub valued : (A : Type 0) → ValueGoesOn A
valued A = record {
  gives = λ scopes e go f w u a h. ap (λ (x : Ends A). with_end scopes x f go) h;
  raises = λ scopes e go f w u area h. ap (λ (x : Ends A). with_end scopes x f go) h;
  runs_out = λ scopes e go f w u h. ap (λ (x : Ends A). with_end scopes x f go) h;
}

pub tested : TestGoesOn
tested = record {
  is = λ v go rest h. ap (λ (b : Bool). if b then go else rest) h;
  is_not = λ v go rest h. ap (λ (b : Bool). if b then go else rest) h;
}

pub evaluations : EvaluationsGoOn
evaluations = record {
  called_values = called _;
  value = valued _;
  perhaps = valued _;
  values = valued _;
  rows = valued _;
  number = valued _;
  found = valued _;
  test = tested;
}
