-- Statements one after the other, and parts of statements.
use Rattle.std.proofs.Common.{◌≡◌, ℕ, suc, ◌+◌, ◌<◌, ◌≤◌, List, [], ◌∷◌, ◌++◌, length, drop, take}
use Rattle.std.proofs.Common.{get_or, Option, None, Some, refl, sym, ap, ◌∙◌, subst, arith}
use Rattle.std.proofs.Common.{append_assoc}
use Rattle.std.proofs.lemmas.List.{drop_all}
use Rattle.bound_trees.specs.declared.condition.BoundInformation.{BoundInformation}
use Rattle.bound_trees.specs.declared.condition.BoundInformation.TheVariants as information
use Rattle.bound_trees.specs.declared.statement.BoundBranch.{BoundBranch, out-BoundBranch}
use Rattle.bound_trees.specs.declared.statement.BoundStmt.{BoundStmt}
use Rattle.rel_algebra.specs.Bodies.{ConditionRead, Perhaps, StatementRead, Target}
use Rattle.rel_algebra.specs.BodyChain.{Rest, branching, emit, emit_again, emit_all}
use Rattle.rel_algebra.specs.BodyChain.{emit_condition_items, emit_into, emit_statement_items}
use Rattle.rel_algebra.specs.BodyChain.{into_by, reading}
use Rattle.rel_algebra.specs.BodyDispatch.{Codes, Env}
use Rattle.rel_algebra.specs.BodySteps.{Step, jump, steps_tree}
use Rattle.rel_algebra.specs.Emissions.{Folded}
use Rattle.rel_algebra.specs.Leaves.{QueryLeaf, ValueLeaf, Widths}
use Rattle.regions.specs.TreeBodies.{stmts_body, value_leaf}
use Rattle.region_trees.specs.Regions.{BranchRegion}
use Rattle.plan_expressions.specs.Drafts.{drafted}
use Rattle.plan_expressions.specs.declared.draft.Draft.{Draft}
use Rattle.plan_expressions.proofs.Laws.{rest}
use Rattle.plan_bodies.specs.Cost.{branches_cost, cost, stmts_cost}
use Rattle.plan_steps.specs.Places.{branches_in, codes_of, env_in, leaf_in, stmt_in, stmts_in}
use Rattle.plan_steps.specs.Places.{widths_in}
use Rattle.plan_steps.specs.Steps.{GoesOn, Puts}
use Rattle.plan_bodies.specs.Choices.{branch_step, branch_steps, branches_by}
use Rattle.plan_statements.specs.Statements.{get_steps}
use Rattle.plan_steps.specs.Steps.{taken}
use Rattle.plan_statements.specs.Statements.{test_by, test_step}
use Rattle.plan_steps.specs.declared.dispatch.At.{At}
use Rattle.plan_steps.specs.declared.dispatch.Reached.{Reached}
use Rattle.plan_steps.specs.declared.dispatch.Spot.{Spot}
use Rattle.plan_steps.specs.declared.place.Place.{Place}
use Rattle.plan_steps.proofs.Stepping.{goes_after, puts_after, puts_as, steps-append}
use Rattle.plan_steps.proofs.Trees.{branch-parts}

-- ---- lists of statements

-- of a list this much is done: what is left goes on from here
pub record Listing (p : Place) (at : At) (ss : List BoundStmt) (i : ℕ) (start now : Draft) :
    Type 0 where
  pub going : steps_tree (emit_all (stmts_in p.functions.now (drop i ss)) (widths_in p) (codes_of p)
      (env_in p) at.here at.next at.columns) (drafted now).tree
      ≡ steps_tree (emit_all (stmts_in p.functions.now ss) (widths_in p) (codes_of p) (env_in p)
      at.here at.next at.columns) (drafted start).tree
  pub small : stmts_cost (stmts_in p.functions.now (drop i ss)) ≤ stmts_cost (stmts_in p.functions.now ss)

pub listing_first : (p : Place) (at : At) (ss : List BoundStmt) (start : Draft) →
    Listing p at ss 0 start start
listing_first p at ss start = record { going = refl; small = omega arith }

pub stmts_rest : (p : Place) (ss : List BoundStmt) (i : ℕ) (x : BoundStmt) → i < length ss →
    x ≡ get_or ss i x →
    stmts_cost (stmts_in p.functions.now (drop i ss)) ≡ cost (stmt_in p.functions.now x)
    + stmts_cost (stmts_in p.functions.now (drop (i + 1) ss))
stmts_rest p ss i x h is =
    ap (λ (xs : List BoundStmt). stmts_cost (stmts_in p.functions.now xs)) (rest ss i x h is)

pub listing_next : (p : Place) (at : At) (ss : List BoundStmt) (i : ℕ) (x : BoundStmt)
    (start old new : Draft) → i < length ss → x ≡ get_or ss i x → Listing p at ss i start old →
    Puts old new (emit (stmt_in p.functions.now x) (widths_in p) (codes_of p) (env_in p) at.here
    at.next at.columns) → Listing p at ss (i + 1) start new
listing_next p at ss i x start old new h is l puts =
    let k = p.functions.now in
    let steps = λ (xs : List BoundStmt). emit_all (stmts_in k xs) (widths_in p) (codes_of p)
    (env_in p) at.here at.next at.columns in
    let one = emit (stmt_in k x) (widths_in p) (codes_of p) (env_in p) at.here at.next
    at.columns in
    record {
      going = ap (steps_tree (steps (drop (i + 1) ss))) puts.tree ∙
          sym (steps-append one (steps (drop (i + 1) ss)) (drafted old).tree) ∙
          ap (λ (xs : List BoundStmt). steps_tree (steps xs) (drafted old).tree)
          (sym (rest ss i x h is)) ∙ l.going;
      small = omega (arith, stmts_rest p ss i x h is, l.small);
    }

pub listing_done : (p : Place) (at : At) (ss : List BoundStmt) (i : ℕ) (start now : Draft) →
    length ss ≤ i → Listing p at ss i start now →
    Puts start now (emit_all (stmts_in p.functions.now ss) (widths_in p) (codes_of p) (env_in p)
    at.here at.next at.columns)
listing_done p at ss i start now h l = record {
  tree = ap (λ (xs : List BoundStmt). steps_tree (emit_all (stmts_in p.functions.now xs)
      (widths_in p) (codes_of p) (env_in p) at.here at.next at.columns) (drafted now).tree)
      (sym (drop_all i ss h)) ∙ l.going;
}

-- ---- one step, and what handles what it raises

-- a statement whose first step stands already
abbrev pub IsTaken : List Step → Codes → Env → At → Type 0
IsTaken steps codes env at = take 1 steps ++ taken codes env at ≡ steps

pub into_taken : (q : QueryLeaf) (ts : List Target) (S : Widths) (codes : Codes) (env : Env)
    (at : At) → IsTaken (emit_into q ts S codes env at.here at.next at.columns) codes env at
into_taken q ts S codes env at = by (q.folded S (reading env))
  where
    by : (f : Option Folded) →
        IsTaken (into_by f (q.plan S (reading env)) ts codes env at.here at.next at.columns) codes
        env at
    by None = refl
    by (Some a) = refl

pub again_taken : (o : Option ℕ) (state : Option (List ℕ)) (words : Perhaps) (S : Widths)
    (codes : Codes) (env : Env) (at : At) →
    IsTaken (emit_again o state words S codes env at.here at.next at.columns) codes env at
again_taken None state words S codes env at = refl
again_taken (Some c) state words S codes env at = refl

statement_taken : (o : Option ℕ) (reads : List StatementRead) (codes : Codes) (env : Env)
    (at : At) →
    IsTaken (emit_statement_items o reads codes env at.here at.next at.columns) codes env at
statement_taken None reads codes env at = refl
statement_taken (Some c) reads codes env at = refl

condition_taken : (o : Option ℕ) (number : ValueLeaf) (reads : List ConditionRead) (S : Widths)
    (codes : Codes) (env : Env) (at : At) →
    IsTaken (emit_condition_items o number reads S codes env at.here at.next at.columns) codes env
    at
condition_taken None number reads S codes env at = refl
condition_taken (Some c) number reads S codes env at = refl

pub get_taken : (i : BoundInformation) (p : Place) (at : At) →
    IsTaken (get_steps i p at) (codes_of p) (env_in p) at
get_taken (information.Statement rs) p at = statement_taken p.stacked _ (codes_of p) (env_in p) at
get_taken (information.Condition n rs) p at =
    condition_taken p.stacked (leaf_in p.functions.now n) _ (widths_in p) (codes_of p) (env_in p) at

pub puts_taken : (old mid new : Draft) (steps : List Step) (codes : Codes) (env : Env) (at : At) →
    IsTaken steps codes env at → Puts old mid (take 1 steps) → Puts mid new (taken codes env at) →
    Puts old new steps
puts_taken old mid new steps codes env at e h g =
    puts_as old new (take 1 steps ++ taken codes env at) steps e
    (puts_after old mid new (take 1 steps) (taken codes env at) h g)

-- ---- tests

pub branches_cons : (o : Option ℕ) (b : BoundBranch) (bs : List BoundBranch) (r : Rest)
    (p : Place) → branches_by o (b ∷ bs) r p ≡ branching
    (test_by o (leaf_in p.functions.now (out-BoundBranch b).test) (widths_in p)) (codes_of p)
    (emit_all (stmts_in p.functions.now (out-BoundBranch b).body) (widths_in p) (codes_of p))
    (branches_by o bs r p)
branches_cons None b bs r p =
    ap (λ (x : BranchRegion). branching (test_by None (value_leaf x.test) (widths_in p))
    (codes_of p) (emit_all (stmts_body x.body) (widths_in p) (codes_of p))
    (branches_by None bs r p)) (branch-parts p.functions.now b)
branches_cons (Some c) b bs r p =
    ap (λ (x : BranchRegion). branching (test_by (Some c) (value_leaf x.test) (widths_in p))
    (codes_of p) (emit_all (stmts_body x.body) (widths_in p) (codes_of p))
    (branches_by (Some c) bs r p)) (branch-parts p.functions.now b)

branch_cost : (k : BoundBranch) (p : Place) (bs : List BoundBranch) →
    branches_cost (branches_in p.functions.now (k ∷ bs)) ≡ stmts_cost
    (stmts_in p.functions.now (out-BoundBranch k).body)
    + branches_cost (branches_in p.functions.now bs)
branch_cost b p bs = ap (λ (x : BranchRegion). stmts_cost (stmts_body x.body)
    + branches_cost (branches_in p.functions.now bs)) (branch-parts p.functions.now b)

-- of tests this much is done: those that are left, and what follows them, go on from here
pub record Testing (o : Option ℕ) (p : Place) (spot : Spot) (bs : List BoundBranch) (i free : ℕ)
    (r : Reached) (start now : Draft) : Type 0 where
  pub going : (f : Rest) → GoesOn start now (branch_steps o bs f p spot free)
      (branches_by o (drop i bs) f p (env_in p) r.from spot.here spot.base r.free spot.columns)
  pub small : branches_cost (branches_in p.functions.now (drop i bs)) ≤ branches_cost
      (branches_in p.functions.now bs)

pub testing_first : (o : Option ℕ) (p : Place) (spot : Spot) (bs : List BoundBranch) (free : ℕ)
    (start : Draft) →
    Testing o p spot bs 0 free (record { from = spot.from; free = free }) start start
testing_first o p spot bs free start = record {
  going = λ f. record { tree = refl };
  small = omega arith;
}

pub branches_rest : (p : Place) (bs : List BoundBranch) (i : ℕ) (x : BoundBranch) →
    i < length bs → x ≡ get_or bs i x →
    branches_cost (branches_in p.functions.now (drop i bs)) ≡ stmts_cost
    (stmts_in p.functions.now (out-BoundBranch x).body)
    + branches_cost (branches_in p.functions.now (drop (i + 1) bs))
branches_rest p bs i x h is =
    ap (λ (xs : List BoundBranch). branches_cost (branches_in p.functions.now xs))
    (rest bs i x h is) ∙ branch_cost x p (drop (i + 1) bs)

pub testing_next : (o : Option ℕ) (p : Place) (spot : Spot) (bs : List BoundBranch) (i free : ℕ)
    (r next : Reached) (x : BoundBranch) (start old new : Draft) → i < length bs →
    x ≡ get_or bs i x → Testing o p spot bs i free r start old →
    ((f : Rest) → GoesOn old new (branch_step o x f p spot r)
    (f (env_in p) next.from spot.here spot.base next.free spot.columns)) →
    Testing o p spot bs (i + 1) free next start new
testing_next o p spot bs i free r next x start old new h is t goes = record {
  going = λ f. record {
    tree = (goes (branches_by o (drop (i + 1) bs) f p)).tree ∙
        ap (λ (g : Rest). steps_tree (g (env_in p) r.from spot.here spot.base r.free spot.columns)
        (drafted old).tree) (sym (branches_cons o x (drop (i + 1) bs) f p)) ∙
        ap (λ (xs : List BoundBranch). steps_tree (branches_by o xs f p (env_in p) r.from spot.here
        spot.base r.free spot.columns) (drafted old).tree) (sym (rest bs i x h is)) ∙
        (t.going f).tree;
  };
  small = omega (arith, branches_rest p bs i x h is, t.small);
}

nothing_left : (o : Option ℕ) (f : Rest) (p : Place) → branches_by o [] f p ≡ f
nothing_left None f p = refl
nothing_left (Some x) f p = refl

pub testing_done : (o : Option ℕ) (p : Place) (spot : Spot) (bs : List BoundBranch) (i free : ℕ)
    (r : Reached) (start now : Draft) → length bs ≤ i → Testing o p spot bs i free r start now →
    (f : Rest) → GoesOn start now (branch_steps o bs f p spot free)
    (f (env_in p) r.from spot.here spot.base r.free spot.columns)
testing_done o p spot bs i free r start now h t f = record {
  tree = ap (λ (g : Rest). steps_tree (g (env_in p) r.from spot.here spot.base r.free spot.columns)
      (drafted now).tree) (sym (nothing_left o f p)) ∙
      ap (λ (xs : List BoundBranch). steps_tree (branches_by o xs f p (env_in p) r.from spot.here
      spot.base r.free spot.columns) (drafted now).tree) (sym (drop_all i bs h)) ∙
      (t.going f).tree;
}

-- one test with its statements: what follows goes on from there
pub branch_goes : (o : Option ℕ) (b : BoundBranch) (p : Place) (spot own : Spot) (r : Reached)
    (at : At) (from free : ℕ) (old d1 d2 new : Draft) →
    own ≡ record { from = r.from; here = spot.here; base = spot.base; columns = spot.columns } →
    at ≡ record { here = r.free; next = free; columns = spot.columns } → from ≡ suc r.free →
    free ≡ suc from →
    Puts old d1 (test_step (test_by o (leaf_in p.functions.now (out-BoundBranch b).test)
    (widths_in p) (env_in p) spot.columns) r.free own p ∷ []) →
    Puts d1 d2 (emit_all (stmts_in p.functions.now (out-BoundBranch b).body) (widths_in p)
    (codes_of p) (env_in p) at.here at.next at.columns) →
    Puts d2 new (jump r.free spot.here spot.columns ∷ []) → (f : Rest) →
    GoesOn old new (branch_step o b f p spot r)
    (f (env_in p) from spot.here spot.base free spot.columns)
branch_goes o b p spot own r at from free old d1 d2 new own_is at_is from_is free_is h g e f =
    let next : free ≡ suc (suc r.free) = free_is ∙ ap suc from_is in
    let ats : at ≡ record {
      here = r.free;
      next = suc (suc r.free);
      columns = spot.columns;
    } = at_is ∙ (λ j. record { here = r.free; next = next j; columns = spot.columns }) in
    let body = emit_all (stmts_in p.functions.now (out-BoundBranch b).body) (widths_in p)
    (codes_of p) (env_in p) r.free (suc (suc r.free)) spot.columns in
    let test : Spot → Step = λ (s : Spot). test_step (test_by o
    (leaf_in p.functions.now (out-BoundBranch b).test) (widths_in p) (env_in p) spot.columns) r.free
    s p in
    let last = jump r.free spot.here spot.columns in
    let left = f (env_in p) (suc r.free) spot.here spot.base (suc (suc r.free)) spot.columns in
    let first_is : Puts old d1 (test (record {
      from = r.from;
      here = spot.here;
      base = spot.base;
      columns = spot.columns;
    }) ∷ []) = subst (λ (s : Spot). Puts old d1 (test s ∷ [])) own_is h in
    let second_is : Puts d1 d2 body = subst (λ (a : At). Puts d1 d2 (emit_all
    (stmts_in p.functions.now (out-BoundBranch b).body) (widths_in p) (codes_of p) (env_in p) a.here
    a.next a.columns)) ats g in
    let start : Spot = record {
      from = r.from;
      here = spot.here;
      base = spot.base;
      columns = spot.columns;
    } in
    let all_are = puts_after old d2 new ((test start ∷ []) ++ body) (last ∷ [])
    (puts_after old d1 d2 (test start ∷ []) body first_is second_is) e in
    record {
      tree = (λ j. steps_tree (f (env_in p) (from_is j) spot.here spot.base (next j) spot.columns)
          (drafted new).tree) ∙
          (goes_after old new (((test start ∷ []) ++ body) ++ (last ∷ [])) left all_are).tree ∙
          ap (λ (xs : List Step). steps_tree (test start ∷ xs) (drafted old).tree)
          (append_assoc body (last ∷ []) left);
    }
