-- The conjuncts of a query that are keys, and those of them that wait.
use Rattle.std.proofs.Common.{ℕ, ◌≡◌, zero, suc, ◌∷◌, [], ◌++◌, map, reverse}
use Rattle.std.proofs.Common.{slice_index_or, arith, List, Option, Some, None, true, false, length}
use Rattle.std.proofs.Common.{refl, sym, ap, ◌∙◌}
use Rattle.sql_values.specs.declared.operators.Comparison.{Comparison}
use Rattle.sql_values.specs.declared.operators.Comparison.TheVariants.{Equals}
use Rattle.bound_trees.specs.declared.expr.BoundExpr.{BoundExpr}
use Rattle.bound_trees.specs.declared.expr.BoundOperation.TheVariants.{Comparing as BoundComparing}
use Rattle.catalog_store.specs.Catalog.{Catalog}
use Rattle.catalog_store.specs.View.{tree_of, operated}
use Rattle.rel_algebra.specs.declared.scalar.Scalar.{Scalar as ScalarCode}
use Rattle.rel_algebra.specs.Tree.{Comparing, Expr, NoExpr, MoreExprs, Operate, Column, Variable}
use Rattle.rel_algebra.specs.Tree.{Literal, Chain, And, Or, Case, CaseOf, Coalesce, In, Exists}
use Rattle.rel_algebra.specs.Tree.{Single, Call, CallSelf}
use Rattle.rel_algebra.specs.Plan.{PlanTree, filter, on_each}
use Rattle.rel_algebra.specs.PlanView.{scalar_of}
use Rattle.rel_algebra.specs.Emit.{Env, Key, Emitted, all_waiting}
use Rattle.rel_algebra.specs.Emit.{key_of, filters}
use Rattle.rel_algebra.specs.Emit.{filters_width, width}
use Rattle.plan_expressions.specs.declared.draft.Draft.{Draft}
use Rattle.plan_expressions.specs.Drafts.{drafted}
use Rattle.plan_expressions.proofs.Laws.{turned_last}
use Rattle.plan_drafts.specs.Conjuncts.{inner_place, key_with, other_key, key_between, is_equality}
use Rattle.plan_drafts.specs.Conjuncts.{plain_of, waiting_of}
use Rattle.plan_drafts.specs.declared.keys.Waiting.{Waiting as WaitingCode}

-- ---- which conjuncts are keys

-- no key has a side that is neither a column nor a parameter
no_sides : (x : Expr) (e : Env) → ((i : ℕ) → key_with i x e ≡ None) → (q : Option ℕ) →
    other_key q x e ≡ None
no_sides x e h None = refl
no_sides x e h (Some i) = h i

sides : (x y : Expr) (e : Env) → key_between (inner_place x) x y e ≡ key_of
    (Operate (Comparing Equals) (MoreExprs x (MoreExprs y NoExpr))) e
sides (Column zero i) (Column zero j) e = refl
sides (Column zero i) (Column (suc d) j) e = refl
sides (Column (suc d) j) (Column zero i) e = refl
sides (Column (suc c) i) (Column (suc d) j) e = refl
sides (Column zero i) (Variable j) e = refl
sides (Column (suc d) i) (Variable j) e = refl
sides (Variable j) (Column zero i) e = refl
sides (Variable j) (Column (suc d) i) e = refl
sides (Variable i) (Variable j) e = refl
sides (Column zero i) _ e = refl
sides (Column (suc d) i) _ e = refl
sides (Variable i) _ e = refl
sides (Literal v) y e = no_sides (Literal v) e (λ i. refl) (inner_place y)
sides (Chain x links) y e = no_sides (Chain x links) e (λ i. refl) (inner_place y)
sides (Operate operation es) y e = no_sides (Operate operation es) e (λ i. refl) (inner_place y)
sides (And es) y e = no_sides (And es) e (λ i. refl) (inner_place y)
sides (Or es) y e = no_sides (Or es) e (λ i. refl) (inner_place y)
sides (Case es) y e = no_sides (Case es) e (λ i. refl) (inner_place y)
sides (CaseOf x test result arms) y e = no_sides (CaseOf x test result arms) e (λ i. refl)
    (inner_place y)
sides (Coalesce es) y e = no_sides (Coalesce es) e (λ i. refl) (inner_place y)
sides (In x query) y e = no_sides (In x query) e (λ i. refl) (inner_place y)
sides (Exists query) y e = no_sides (Exists query) e (λ i. refl) (inner_place y)
sides (Single query) y e = no_sides (Single query) e (λ i. refl) (inner_place y)
sides (Call name routine es) y e = no_sides (Call name routine es) e (λ i. refl) (inner_place y)
sides (CallSelf types es) y e = no_sides (CallSelf types es) e (λ i. refl) (inner_place y)

-- an equality of two sides
pub key_of_equality : (k : Catalog) (comparison : Comparison) (es : List BoundExpr)
    (x y : BoundExpr) (e : Env) → is_equality comparison ≡ true → length es ≡ 2 →
    x ≡ slice_index_or es 0 x →
    y ≡ slice_index_or es 1 y → key_between (inner_place (tree_of k x)) (tree_of k x)
    (tree_of k y) e ≡ key_of (operated (BoundComparing comparison) (map (tree_of k) es)) e
key_of_equality k Equals [] x y e equal two first second = absurd (omega (arith, two))
key_of_equality k Equals (a ∷ []) x y e equal two first second = absurd (omega (arith, two))
key_of_equality k Equals (a ∷ b ∷ []) x y e equal two first second =
    (λ j. key_between (inner_place (tree_of k (first j))) (tree_of k (first j))
    (tree_of k (second j)) e) ∙ sides (tree_of k a) (tree_of k b) e
key_of_equality k Equals (a ∷ b ∷ c ∷ es) x y e equal two first second = absurd (omega (arith, two))
key_of_equality k _ es x y e equal two first second = absurd (let never = equal in cc)

pub param_there : (own place : ℕ) (e : Env) (key : Key) → key.own ≡ e.columns 0 own →
    key.other ≡ e.params place → key.of_column ≡ false → Some key ≡ key_with own (Variable place) e
param_there own place e key a b c = λ j. Some (record { own = a j; other = b j; of_column = c j })

-- ---- Filters

pub filters-after : (a b : List Emitted) (t : PlanTree) → filters (a ++ b) t ≡ filters b
    (filters a t)
filters-after [] b t = refl
filters-after (x ∷ a) b t = filters-after a b (filter x.scalar (on_each x.nodes t))

pub width-after : (a b : List Emitted) (n : ℕ) → filters_width (a ++ b) n ≡ filters_width b
    (filters_width a n)
width-after [] b n = refl
width-after (x ∷ a) b n = width-after a b (width x.nodes n)

plain-wide : (ss : List ScalarCode) (n : ℕ) → filters_width (map plain_of ss) n ≡ n
plain-wide [] n = refl
plain-wide (s ∷ ss) n = plain-wide ss n

pub waiting-wide : (w : WaitingCode) (n : ℕ) → filters_width (all_waiting (waiting_of w)) n ≡ n
waiting-wide w n = width-after (map plain_of w.parameters) (map plain_of w.columns) n ∙
    plain-wide w.columns (filters_width (map plain_of w.parameters) n) ∙ plain-wide w.parameters n

-- all that wait
pub both_filtered : (w : WaitingCode) (old mid new : Draft) →
    (drafted mid).tree ≡ filters (map plain_of w.parameters) (drafted old).tree →
    (drafted new).tree ≡ filters (map plain_of w.columns) (drafted mid).tree →
    (drafted new).tree ≡ filters (all_waiting (waiting_of w)) (drafted old).tree
both_filtered w old mid new a b = b ∙ ap (filters (map plain_of w.columns)) a ∙
    sym (filters-after (map plain_of w.parameters) (map plain_of w.columns) (drafted old).tree)

-- one more of those that are left
pub each_next : (left others : List ScalarCode) (x : ScalarCode) (old new : Draft)
    (whole : PlanTree) → left ≡ others ++ x ∷ [] →
    (drafted new).tree ≡ filter (scalar_of x) (drafted old).tree →
    filters (map plain_of (reverse left)) (drafted old).tree ≡ whole →
    filters (map plain_of (reverse others)) (drafted new).tree ≡ whole
each_next left others x old new whole h tree b =
    ap (filters (map plain_of (reverse others))) tree
    ∙ ap (λ (xs : List ScalarCode). filters (map plain_of xs) (drafted old).tree)
    (sym (turned_last others x) ∙ ap reverse (sym h)) ∙ b

pub each_done : (left : List ScalarCode) (now : Draft) (whole : PlanTree) → left ≡ [] →
    filters (map plain_of (reverse left)) (drafted now).tree ≡ whole → (drafted now).tree ≡ whole
each_done left now whole h b = ap (λ (xs : List ScalarCode). filters (map plain_of (reverse xs))
    (drafted now).tree) (sym h) ∙ b
