-- ORDER BY of a query that is well typed.
use Rattle.std.proofs.Common.{◌≡◌, refl, ap, subst, arith, ◌∙◌, ℕ, suc, ◌+◌, ◌<◌, nat_lt, Bool}
use Rattle.std.proofs.Common.{true, false, if◌then◌else◌, List, [], ◌∷◌, ◌++◌, length, Option, Some}
use Rattle.std.specs.List.{list_all}
use Rattle.std.proofs.lemmas.Bool.Decides.{nat_tests}
use Rattle.std.proofs.lemmas.List.Folds.{list_all-append}
use Rattle.syntax_trees.specs.declared.query.SortSpecification.{SortSpecification}
use Rattle.row_types.specs.declared.sort_key.SortKey.{SortKey}
use Rattle.rel_algebra.proofs.Laws.{and_true}
use Rattle.bound_trees.specs.declared.query.BoundQuery.{BoundQuery}
use Rattle.bind_faults.specs.Faults.{Noted}
use Rattle.bind_kinds.specs.declared.kind.Kind.{Kind}
use Rattle.bind_sight.specs.declared.output.Output.{Output}
use Rattle.bind_sight.specs.declared.output.Hit.{Hit}
use Rattle.bind_sight.specs.declared.output.Hit.TheVariants.{Nowhere, Once, Twice}
use Rattle.bind_sight.specs.Columns.{once_more, is_name, hits_from, hits}
use Rattle.bind_parts.specs.declared.typed.TypedQuery.{TypedQuery}
use Rattle.bind_parts.specs.Turns.{each_noted}
use Rattle.bind_parts.specs.Order.{place_at, sort_key, one_key, keys_of, in_order_of, ordered_by}
use Rattle.typing_trees.specs.Around.{Around, then as followed, only_if}
use Rattle.typing_trees.specs.Queries.{kinds_of_query, keys_within}
use Rattle.typing_queries.proofs.Below.{AllBelow, HasAll}
use Rattle.typing_queries.proofs.Fits.{front_nil, back_nil}
use Rattle.typing_queries.proofs.Layers.{ordered-kinds}
use Rattle.typing_queries.proofs.Shapes.{kinds_shown}
use Rattle.typing_queries.proofs.Subqueries.{QueryTyped}

-- ---- the place of a name

-- a place that was found is below so many columns
abbrev Within : ℕ → Hit → Type 0
Within width Nowhere = Unit {0}
Within width (Once place kind) = place < width
Within width Twice = Unit {0}

within-more : (width place : ℕ) (hit : Hit) (kind : Kind) → place < width → Within width hit →
    Within width (once_more hit place kind)
within-more width place Nowhere kind n w = n
within-more width place (Once p k) kind n w = tt
within-more width place Twice kind n w = tt

within-choice : (width place : ℕ) (b : Bool) (hit : Hit) (kind : Kind) → place < width →
    Within width hit → Within width (if b then once_more hit place kind else hit)
within-choice width place true hit kind n w = within-more width place hit kind n w
within-choice width place false hit kind n w = w

within-columns : (name : List ℕ) (width place : ℕ) (hit : Hit) (cs : List Output) →
    place + length cs ≡ width → Within width hit → Within width (hits_from name place hit cs)
within-columns name width place hit [] n w = w
within-columns name width place hit (c ∷ cs) n w =
    within-columns name width (place + 1) (if is_name name c.name then once_more hit place c.kind
    else hit) cs (omega arith)
    (within-choice width place (is_name name c.name) hit c.kind (omega arith) w)

-- ---- keys

below-test : (a b : ℕ) → a < b → nat_lt a b ≡ true
below-test a b h = grind (arith, nat_tests)

all-append : {A : Type 0} (p : A → Bool) (xs : List A) (x : A) → list_all p xs ≡ true → p x ≡ true →
    list_all p (xs ++ x ∷ []) ≡ true
all-append p xs x h q = list_all-append p xs (x ∷ []) ∙
    and_true (list_all p xs) (list_all p (x ∷ [])) h (and_true (p x) true q refl)

-- a name without faults has a place
named-within : (s : SortSpecification) (width : ℕ) (so : List SortKey) (hit : Hit) →
    Within width hit → (place_at s.name hit).faults ≡ [] → keys_within width so ≡ true
    → keys_within width (so ++ sort_key s (place_at s.name hit).value ∷ []) ≡ true
named-within s width so Nowhere w p k = absurd cc
named-within s width so (Once place kind) w p k =
    all-append (λ (key : SortKey). nat_lt key.place width) so (sort_key s place) k
    (below-test place width w)
named-within s width so Twice w p k = absurd cc

keys-within : (columns : List Output) (so : List SortKey) (order : List SortSpecification) →
    (each_noted (one_key columns) so order).faults ≡ [] → keys_within (length columns) so ≡ true
    → keys_within (length columns) (each_noted (one_key columns) so order).value ≡ true
keys-within columns so [] p k = k
keys-within columns so (s ∷ order) p k =
    let first : Noted (List SortKey) = one_key columns so s in
    keys-within columns first.value order (back_nil first.faults
    (each_noted (one_key columns) first.value order).faults p)
    (named-within s (length columns) so (hits s.name.name columns)
    (within-columns s.name.name (length columns) 0 Nowhere columns (omega arith) tt)
    (front_nil first.faults (each_noted (one_key columns) first.value order).faults p) k)

-- ---- the query

as-wide : (js : List Kind) (cs : List Output) → AllBelow js (kinds_shown cs) → length cs ≡ length js
as-wide [] [] b = refl
as-wide [] (c ∷ cs) b = absurd b
as-wide (j ∷ js) [] b = absurd b
as-wide (j ∷ js) (c ∷ cs) b = ap (λ (n : ℕ). suc n) (as-wide js cs b.1)

by-keys : (q : BoundQuery) (a : Around) (cs : List Output) (keys : List SortKey) →
    keys_within (length cs) keys ≡ true → HasAll (kinds_of_query q a) (kinds_shown cs)
    → HasAll (kinds_of_query (in_order_of q keys) a) (kinds_shown cs)
by-keys q a cs [] k t = t
by-keys q a cs (key ∷ keys) k (js, is, below) = (
  js,
  ordered-kinds q (key ∷ keys) a
      ∙ ap (λ (o : Option (List Kind)). followed o
      (λ ks. only_if (keys_within (length ks) (key ∷ keys)) (Some ks))) is
      ∙ ap (λ (b : Bool). only_if b (Some js))
      (subst (λ (n : ℕ). keys_within n (key ∷ keys) ≡ true) (as-wide js cs below) k),
  below,
)

pub ordered-typed : (order : List SortSpecification) (q : TypedQuery) (a : Around) →
    (ordered_by order q).faults ≡ [] → QueryTyped q a → QueryTyped (ordered_by order q).value a
ordered-typed order q a p t = by-keys q.tree a q.columns (keys_of q.columns order).value
    (keys-within q.columns [] order p refl) t
