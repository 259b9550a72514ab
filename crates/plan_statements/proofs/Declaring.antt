-- Declarations one after the other.
use Rattle.std.proofs.Common.{◌≡◌, ℕ, zero, suc, ◌+◌, ◌<◌, ◌≤◌, List, [], ◌∷◌, ◌++◌, length, drop}
use Rattle.std.proofs.Common.{get_or, Bool, true, false, ◌||◌, Option, None, Some, is_some}
use Rattle.std.proofs.Common.{refl, sym, ap, ◌∙◌, arith, append_assoc}
use Rattle.std.proofs.lemmas.List.{drop_all}
use Rattle.bound_trees.specs.declared.expr.BoundExpr.{BoundExpr}
use Rattle.bound_trees.specs.declared.statement.BoundVariables.{BoundVariables}
use Rattle.rel_algebra.specs.BodyChain.{declared, emit_declares, has_default, is_given}
use Rattle.rel_algebra.specs.BodyChain.{null_scalars, variable_count}
use Rattle.rel_algebra.specs.BodyDispatch.{Env}
use Rattle.rel_algebra.specs.BodySteps.{Step, grow, steps_tree}
use Rattle.rel_algebra.specs.Joins.{places}
use Rattle.rel_algebra.specs.Plan.{Scalars, extend}
use Rattle.sql_values.specs.declared.value.SqlType.{SqlType}
use Rattle.block_plans.specs.Callees.{Callees}
use Rattle.block_plans.specs.Callees.{width_in}
use Rattle.plan_expressions.specs.Drafts.{drafted}
use Rattle.plan_expressions.specs.declared.draft.Draft.{Draft}
use Rattle.plan_expressions.proofs.Laws.{rest}
use Rattle.plan_steps.specs.Places.{codes_in, codes_of, default_in, env_in, perhaps_in}
use Rattle.plan_steps.specs.Places.{variables_in, widths_in}
use Rattle.plan_steps.specs.Steps.{Puts}
use Rattle.plan_statements.specs.Statements.{group_step}
use Rattle.plan_steps.specs.declared.dispatch.Spot.{Spot}
use Rattle.plan_steps.specs.declared.place.Place.{Place}
use Rattle.plan_steps.proofs.Stepping.{puts_as}

-- where other columns are in sight
abbrev pub seeing : Place → List ℕ → Env
seeing p columns = record {
  columns = columns;
  labels = (env_in p).labels;
  exits = (env_in p).exits;
  out = p.out;
  stacked = p.stacked;
  level = p.level;
}

-- the steps of declarations, with these columns in sight, on rows of n columns
abbrev declares : Place → Spot → ℕ → List BoundVariables → List ℕ → ℕ → List Step
declares p spot free vs columns n = emit_declares (variables_in p.functions.now vs) (widths_in p)
    (codes_of p) (seeing p columns) spot.from spot.here spot.base free n

abbrev counted : Place → List BoundVariables → ℕ
counted p vs = variable_count (variables_in p.functions.now vs)

-- of declarations this much is done: what is left goes on from here
pub record Declaring (p : Place) (spot : Spot) (vs : List BoundVariables) (i : ℕ)
    (columns : List ℕ) (n : ℕ) (start now : Draft) : Type 0 where
  pub going : (free : ℕ) → steps_tree (declares p spot free (drop i vs) columns n)
      (drafted now).tree
      ≡ steps_tree (declares p spot free vs p.columns.now spot.columns) (drafted start).tree
  pub sight : columns ++ places n (counted p (drop i vs)) ≡ p.columns.now ++ places spot.columns
      (counted p vs)

places-append : (first k m : ℕ) → places first (k + m) ≡ places first k ++ places (first + k) m
places-append first zero m =
    let all : 0 + m ≡ m = omega arith in
    let same : first ≡ first + 0 = omega arith in
    ap (places first) all ∙ ap (λ n. places n m) same
places-append first (suc k) m =
    let all : suc k + m ≡ suc (k + m) = omega arith in
    let next : suc first + k ≡ first + suc k = omega arith in
    ap (places first) all ∙ ap (λ xs. first ∷ xs) (places-append (suc first) k m) ∙
    ap (λ n. first ∷ (places (suc first) k ++ places n m)) next

pub declaring_first : (p : Place) (spot : Spot) (vs : List BoundVariables) (columns : List ℕ)
    (start : Draft) → columns ≡ p.columns.now →
    Declaring p spot vs 0 columns spot.columns start start
declaring_first p spot vs columns start h = record {
  going = λ free. ap (λ (cs : List ℕ). steps_tree (declares p spot free vs cs spot.columns)
      (drafted start).tree) h;
  sight = ap (λ (cs : List ℕ). cs ++ places spot.columns (counted p vs)) h;
}

pub declaring_next : (p : Place) (spot : Spot) (vs : List BoundVariables) (i : ℕ)
    (x : BoundVariables) (columns wider : List ℕ) (n m : ℕ) (start old new : Draft) →
    i < length vs → x ≡ get_or vs i x → Declaring p spot vs i columns n start old →
    Puts old new (group_step x columns n spot p ∷ []) → m ≡ n + x.count →
    wider ≡ columns ++ places n x.count →
    Declaring p spot vs (i + 1) wider m start new
declaring_next p spot vs i x columns wider n m start old new h is d puts m_is wider_is = record {
  going = λ free.
      (λ j. steps_tree (declares p spot free (drop (i + 1) vs) (wider_is j) (m_is j))
      (drafted new).tree) ∙
      ap (steps_tree (declares p spot free (drop (i + 1) vs) (columns ++ places n x.count)
      (n + x.count))) puts.tree ∙
      ap (λ (xs : List BoundVariables). steps_tree (declares p spot free xs columns n)
      (drafted old).tree) (sym (rest vs i x h is)) ∙ d.going free;
  sight =
      (λ j. wider_is j ++ places (m_is j) (counted p (drop (i + 1) vs))) ∙
      append_assoc columns (places n x.count) (places (n + x.count)
      (counted p (drop (i + 1) vs))) ∙
      ap (λ cs. columns ++ cs) (sym (places-append n x.count (counted p (drop (i + 1) vs)))) ∙
      ap (λ (xs : List BoundVariables). columns ++ places n (counted p xs))
      (sym (rest vs i x h is)) ∙ d.sight;
}

pub declaring_done : (p : Place) (spot : Spot) (vs : List BoundVariables) (i : ℕ)
    (columns : List ℕ) (n : ℕ) (start now : Draft) → length vs ≤ i →
    Declaring p spot vs i columns n start now → (free : ℕ) →
    Puts start now (declares p spot free vs p.columns.now spot.columns)
declaring_done p spot vs i columns n start now h d free = record {
  tree = ap (λ (xs : List BoundVariables). steps_tree (declares p spot free xs columns n)
      (drafted now).tree) (sym (drop_all i vs h)) ∙ d.going free;
}

pub declared_sight : (p : Place) (spot : Spot) (vs : List BoundVariables) (i : ℕ)
    (columns : List ℕ) (n : ℕ) (start now : Draft) → length vs ≤ i →
    Declaring p spot vs i columns n start now →
    columns ≡ p.columns.now ++ places spot.columns (counted p vs)
declared_sight p spot vs i columns n start now h d =
    sym (append_none columns) ∙
    ap (λ (xs : List BoundVariables). columns ++ places n (counted p xs)) (sym (drop_all i vs h))
    ∙ d.sight
  where
    append_none : (xs : List ℕ) → xs ++ [] ≡ xs
    append_none [] = refl
    append_none (y ∷ ys) = ap (λ zs. y ∷ zs) (append_none ys)

-- ---- how many variables, and whether one has a default

pub width_next : (k : Callees) (vs : List BoundVariables) (i : ℕ) (x : BoundVariables)
    (wide wider whole : ℕ) → i < length vs → x ≡ get_or vs i x → wider ≡ wide + x.count →
    wide + variable_count (variables_in k (drop i vs)) ≡ whole →
    wider + variable_count (variables_in k (drop (i + 1) vs)) ≡ whole
width_next k vs i x wide wider whole h is grown b =
    let first : variable_count (variables_in k (drop i vs)) ≡ x.count +
    variable_count (variables_in k (drop (i + 1) vs)) =
    ap (λ (xs : List BoundVariables). variable_count (variables_in k xs)) (rest vs i x h is) in
    omega (arith, first, grown, b)

pub width_done : (k : Callees) (vs : List BoundVariables) (i wide whole : ℕ) → length vs ≤ i →
    wide + variable_count (variables_in k (drop i vs)) ≡ whole → wide ≡ whole
width_done k vs i wide whole h b =
    let nothing : variable_count (variables_in k (drop i vs)) ≡ 0 =
    ap (λ (xs : List BoundVariables). variable_count (variables_in k xs)) (drop_all i vs h) in
    omega (arith, nothing, b)

given_by : (k : Callees) (e : Option BoundExpr) → is_given (perhaps_in k e) ≡ is_some e
given_by k None = refl
given_by k (Some e) = refl

-- the first of those that are left
first_has : (k : Callees) (vs : List BoundVariables) (i : ℕ) (x : BoundVariables) → i < length vs →
    x ≡ get_or vs i x → has_default (variables_in k (drop i vs)) ≡ is_some x.default
    || has_default (variables_in k (drop (i + 1) vs))
first_has k vs i x h is =
    ap (λ (xs : List BoundVariables). has_default (variables_in k xs)) (rest vs i x h is) ∙
    ap (λ (b : Bool). b || has_default (variables_in k (drop (i + 1) vs))) (given_by k x.default)

pub default_next : (k : Callees) (vs : List BoundVariables) (i : ℕ) (x : BoundVariables)
    (whole : Bool) → i < length vs → x ≡ get_or vs i x → is_some x.default ≡ false →
    has_default (variables_in k (drop i vs)) ≡ whole →
    has_default (variables_in k (drop (i + 1) vs)) ≡ whole
default_next k vs i x whole h is without b =
    sym (ap (λ (a : Bool). a || has_default (variables_in k (drop (i + 1) vs))) without) ∙
    sym (first_has k vs i x h is) ∙ b

pub default_here : (k : Callees) (vs : List BoundVariables) (i : ℕ) (x : BoundVariables)
    (whole : Bool) → i < length vs → x ≡ get_or vs i x → is_some x.default ≡ true →
    has_default (variables_in k (drop i vs)) ≡ whole → true ≡ whole
default_here k vs i x whole h is has b =
    sym (ap (λ (a : Bool). a || has_default (variables_in k (drop (i + 1) vs))) has) ∙
    sym (first_has k vs i x h is) ∙ b

pub default_done : (k : Callees) (vs : List BoundVariables) (i : ℕ) (whole : Bool) →
    length vs ≤ i → has_default (variables_in k (drop i vs)) ≡ whole → false ≡ whole
default_done k vs i whole h b =
    sym (ap (λ (xs : List BoundVariables). has_default (variables_in k xs)) (drop_all i vs h)) ∙ b

-- ---- the step of one declaration

pub group_put : (p within : Place) (spot : Spot) (v : BoundVariables) (columns : List ℕ) (n : ℕ)
    (old new : Draft) → env_in within ≡ seeing p columns → within.sight.now ≡ p.sight.now →
    within.functions.now ≡ p.functions.now →
    Puts old new (declared (perhaps_in within.functions.now v.default) v.count v.data_type
    (widths_in within) (codes_of within) (env_in within) spot.from spot.here spot.base n ∷ []) →
    Puts old new (group_step v columns n spot p ∷ [])
group_put p within spot v columns n old new env sights cats puts = puts_as old new _ _
    (λ j. declared (perhaps_in (cats j) v.default) v.count v.data_type (width_in (cats j))
    (codes_in (cats j) (sights j)) (env j) spot.from spot.here spot.base n ∷ []) puts

pub default_put : (p : Place) (spot : Spot) (o : Option BoundExpr) (e : BoundExpr) (k : ℕ)
    (t : SqlType) (old new : Draft) → o ≡ Some e →
    Puts old new (declared (default_in p.functions.now e) k t (widths_in p) (codes_of p) (env_in p)
    spot.from spot.here spot.base spot.columns ∷ []) →
    Puts old new (declared (perhaps_in p.functions.now o) k t (widths_in p) (codes_of p) (env_in p)
    spot.from spot.here spot.base spot.columns ∷ [])
default_put p spot o e k t old new h puts = puts_as old new _ _
    (ap (λ (x : Option BoundExpr). declared (perhaps_in p.functions.now x) k t (widths_in p)
    (codes_of p) (env_in p) spot.from spot.here spot.base spot.columns ∷ []) (sym h)) puts

pub nulls_put : (p : Place) (spot : Spot) (o : Option BoundExpr) (k : ℕ) (t : SqlType)
    (old new : Draft) → o ≡ None → Puts old new (grow (null_scalars t k) ∷ []) →
    Puts old new (declared (perhaps_in p.functions.now o) k t (widths_in p) (codes_of p) (env_in p)
    spot.from spot.here spot.base spot.columns ∷ [])
nulls_put p spot o k t old new h puts = puts_as old new (grow (null_scalars t k) ∷ []) _
    (ap (λ (x : Option BoundExpr). declared (perhaps_in p.functions.now x) k t (widths_in p)
    (codes_of p) (env_in p) spot.from spot.here spot.base spot.columns ∷ []) (sym h)) puts

-- columns more
pub grown_put : (ss made : Scalars) (old new : Draft) → ss ≡ made →
    (drafted new).tree ≡ extend ss (drafted old).tree → Puts old new (grow made ∷ [])
grown_put ss made old new is more_is = record {
  tree = more_is ∙ ap (λ (xs : Scalars). extend xs (drafted old).tree) is;
}
