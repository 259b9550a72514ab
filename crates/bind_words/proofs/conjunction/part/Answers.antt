use Rattle.std.proofs.Common.{rules, ◌≡◌, ◌∷◌, [], subst, sym}
use Rattle.bind_kinds.specs.Conjuncts.{conjuncts_of}
use Rattle.bind_kinds.proofs.Laws.{of_chain, of_call, of_single, of_exists, of_in, found_one}
use Rattle.bind_words.proofs.conjunction.part.Goals as goal

pub returns-in_ok-push-in-Chain-clause-conjuncts : goal.returns-in_ok-push-in-Chain-clause-conjuncts
returns-in_ok-push-in-Chain-clause-conjuncts c =
    found_one c.args.left.now c.args.found.now c.push-in-Chain.new.self c.args.test
    (subst (λ e. conjuncts_of e ≡ e ∷ []) (sym c.in-Chain.is)
    (of_chain c.in-Chain.first c.in-Chain.rest)) (search rules)

pub returns-in_ok-push-in-Call-clause-conjuncts : goal.returns-in_ok-push-in-Call-clause-conjuncts
returns-in_ok-push-in-Call-clause-conjuncts c =
    found_one c.args.left.now c.args.found.now c.push-in-Call.new.self c.args.test
    (subst (λ e. conjuncts_of e ≡ e ∷ []) (sym c.in-Call.is)
    (of_call c.in-Call.name c.in-Call.args)) (search rules)

pub returns-in_ok-push-in-Single-clause-conjuncts :
    goal.returns-in_ok-push-in-Single-clause-conjuncts
returns-in_ok-push-in-Single-clause-conjuncts c =
    found_one c.args.left.now c.args.found.now c.push-in-Single.new.self c.args.test
    (subst (λ e. conjuncts_of e ≡ e ∷ []) (sym c.in-Single.is) (of_single c.in-Single.query))
    (search rules)

pub returns-in_ok-push-in-Exists-clause-conjuncts :
    goal.returns-in_ok-push-in-Exists-clause-conjuncts
returns-in_ok-push-in-Exists-clause-conjuncts c =
    found_one c.args.left.now c.args.found.now c.push-in-Exists.new.self c.args.test
    (subst (λ e. conjuncts_of e ≡ e ∷ []) (sym c.in-Exists.is) (of_exists c.in-Exists.query))
    (search rules)

pub returns-in_ok-push-in-In-clause-conjuncts : goal.returns-in_ok-push-in-In-clause-conjuncts
returns-in_ok-push-in-In-clause-conjuncts c =
    found_one c.args.left.now c.args.found.now c.push-in-In.new.self c.args.test
    (subst (λ e. conjuncts_of e ≡ e ∷ []) (sym c.in-In.is) (of_in c.in-In.left c.in-In.query))
    (search rules)
