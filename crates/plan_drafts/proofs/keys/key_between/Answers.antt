use Rattle.std.proofs.Common.{◌≡◌, ℕ, Option, sym, ap, ◌∙◌}
use Rattle.catalog_store.specs.Catalog.{Catalog}
use Rattle.catalog_store.specs.View.{tree_of}
use Rattle.plan_expressions.specs.Scopes.{env_of}
use Rattle.plan_expressions.proofs.Laws.{if_ok}
use Rattle.plan_drafts.specs.Conjuncts.{held, inner_place, key_with, key_between, other_key}
use Rattle.plan_drafts.proofs.keys.key_between.Goals as goal

pub returns-in-Some : goal.returns-in-Some
returns-in-Some c =
    let e = env_of c.args.scope.now in
    if_ok c.key_with.result (λ o. (known : Catalog) →
    held o ≡ key_with c.in-Some.own (tree_of known c.args.right.now) e)
    (λ o. (known : Catalog) → held o ≡ key_between (inner_place (tree_of known c.args.left.now))
    (tree_of known c.args.left.now) (tree_of known c.args.right.now) e) c.key_with.ensures
    (λ o h known. h known ∙ ap (λ (q : Option ℕ). key_between q (tree_of known c.args.left.now)
    (tree_of known c.args.right.now) e) (c.in-Some.ensures known))

pub returns-in-Some-inner_place : goal.returns-in-Some-inner_place
returns-in-Some-inner_place c =
    let e = env_of c.args.scope.now in
    if_ok c.key_with-in-Some-inner_place.result (λ o. (known : Catalog) →
    held o ≡ key_with c.in-Some-inner_place.own (tree_of known c.args.left.now) e)
    (λ o. (known : Catalog) → held o ≡ key_between (inner_place (tree_of known c.args.left.now))
    (tree_of known c.args.left.now) (tree_of known c.args.right.now) e)
    c.key_with-in-Some-inner_place.ensures
    (λ o h known. h known
    ∙ ap (λ (q : Option ℕ). other_key q (tree_of known c.args.left.now) e)
    (sym c.in-Some-inner_place.is ∙ c.inner_place-in-None.ensures known)
    ∙ ap (λ (q : Option ℕ). key_between q (tree_of known c.args.left.now)
    (tree_of known c.args.right.now) e) (sym c.in-None.is ∙ c.inner_place.ensures known))

pub returns-in-None-inner_place : goal.returns-in-None-inner_place
returns-in-None-inner_place c = λ known.
    let e = env_of c.args.scope.now in
    ap (λ (q : Option ℕ). other_key q (tree_of known c.args.left.now) e)
    (sym c.in-None-inner_place.is ∙ c.inner_place-in-None.ensures known)
    ∙ ap (λ (q : Option ℕ). key_between q (tree_of known c.args.left.now)
    (tree_of known c.args.right.now) e) (sym c.in-None.is ∙ c.inner_place.ensures known)
