-- What is found is kept for the routine that is asked for, or for none.
use Rattle.std.proofs.Common.{ℕ, List, Option, IfSome, Bor, sym, subst}
use Rattle.std.specs.Option.{option_copied}
use Rattle.kept_queries.specs.Keeping.{IsKeptFor}
use Rattle.kept_queries.proofs.plans.KeptPlans.find.Goals as goal

pub returns-in-Some-clause-kept : goal.returns-in-Some-clause-kept
returns-in-Some-clause-kept c =
    subst (λ (own : Option (Bor (List ℕ))). IfSome c.find_in.result
    (λ k. IsKeptFor c.args.self.now (option_copied own) k.now)) (sym c.in-Some.is)
    c.find_in.ensures.kept

pub returns-in-None-clause-kept : goal.returns-in-None-clause-kept
returns-in-None-clause-kept c =
    subst (λ (own : Option (Bor (List ℕ))). IfSome c.find_outside.result
    (λ k. IsKeptFor c.args.self.now (option_copied own) k.now)) (sym c.in-None.is)
    c.find_outside.ensures.kept
