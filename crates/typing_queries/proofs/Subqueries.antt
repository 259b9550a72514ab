-- Subqueries that are well typed.
use Rattle.std.proofs.Common.{◌≡◌, refl, sym, ap, subst, arith, ◌∙◌, ℕ, Bool, true, false, ◌==◌}
use Rattle.std.proofs.Common.{List, [], ◌∷◌, length, Option, Some}
use Rattle.std.proofs.lemmas.Bool.Decides.{nat_tests}
use Rattle.syntax_trees.specs.declared.anchor.Anchor.{Anchor}
use Rattle.bound_trees.specs.declared.expr.BoundExpr.{BoundExpr}
use Rattle.bound_trees.specs.declared.expr.BoundExpr.TheVariants as bound
use Rattle.bound_trees.specs.declared.expr.BoundOperation.TheVariants as word
use Rattle.bound_trees.specs.declared.query.BoundQuery.{BoundQuery}
use Rattle.bind_faults.specs.declared.fault.Fault.{Fault}
use Rattle.bind_faults.specs.declared.fault.FaultKind.TheVariants.{WrongCount}
use Rattle.bind_kinds.specs.declared.kind.Kind.{Kind}
use Rattle.bind_kinds.specs.declared.kind.Kind.TheVariants.{Boolean}
use Rattle.bind_kinds.specs.Kinds.{fits, head_of, misfit, like_first}
use Rattle.bind_kinds.specs.Words.{opposite}
use Rattle.bind_sight.specs.declared.output.Output.{Output}
use Rattle.bind_parts.specs.declared.typed.Typed.{Typed}
use Rattle.bind_parts.specs.declared.typed.TypedQuery.{TypedQuery}
use Rattle.bind_parts.specs.Subqueries.{only, single, exists, if_negated, member, width_faults}
use Rattle.bind_parts.specs.Subqueries.{member_faults}
use Rattle.typing_trees.specs.Kinds.{all_fit}
use Rattle.typing_trees.specs.Around.{Around, then, only_if}
use Rattle.typing_trees.specs.Queries.{kind_of, kinds_of_query, only_column}
use Rattle.typing_queries.proofs.Below.{AllBelow, Has, HasAll, below-self}
use Rattle.typing_queries.proofs.Fits.{front_nil, back_nil, holds, both-below, fitting}
use Rattle.typing_queries.proofs.Layers.{single-kind, exists-kind, in-kind, operation-kind}
use Rattle.typing_queries.proofs.Shapes.{IsTyped, kinds_shown}

pub as-many : (m n : ℕ) → (m == n) ≡ true → m ≡ n
as-many m n p = grind (arith, nat_tests)

-- ---- the one column

-- a query is of the kinds that its columns show, or below
abbrev pub QueryTyped : TypedQuery → Around → Type 0
QueryTyped q a = HasAll (kinds_of_query q.tree a) (kinds_shown q.columns)

only-below : (cs : List Output) (js : List Kind) → length cs ≡ 1 → AllBelow js (kinds_shown cs) →
    Has (only_column js) (only cs)
only-below [] js n below = absurd cc
only-below (c ∷ []) [] n below = absurd below
only-below (c ∷ []) (j ∷ []) n below = (j, refl, below.0)
only-below (c ∷ []) (j ∷ k ∷ js) n below = absurd below.1
only-below (c ∷ d ∷ cs) js n below = absurd cc

-- of a query with one column, the kind of that
only-typed : (cs : List Output) (o : Option (List Kind)) → length cs ≡ 1 →
    HasAll o (kinds_shown cs) → Has (then o only_column) (only cs)
only-typed cs o n (js, is, below) = subst (λ (p : Option (List Kind)). Has (then p only_column)
    (only cs)) (sym is) (only-below cs js n below)

one-column : (q : TypedQuery) → width_faults q ≡ [] → length q.columns ≡ 1
one-column q p = as-many (length q.columns) 1 (holds (length q.columns == 1) WrongCount q.at p)

pub single-typed : (q : TypedQuery) (a : Around) → width_faults q ≡ [] → QueryTyped q a →
    IsTyped (single q) a
single-typed q a p t = subst (λ (o : Option Kind). Has o (only q.columns))
    (sym (single-kind q.tree a)) (only-typed q.columns (kinds_of_query q.tree a) (one-column q p) t)

-- ---- EXISTS and IN

then-boolean : (o : Option (List Kind)) (ks : List Kind) → HasAll o ks →
    Has (then o (λ (js : List Kind). Some Boolean)) Boolean
then-boolean o ks (js, is, below) = subst (λ (p : Option (List Kind)).
    Has (then p (λ (is : List Kind). Some Boolean)) Boolean) (sym is)
    (Boolean, refl, below-self Boolean)

pub exists-typed : (at : Anchor) (q : TypedQuery) (a : Around) → QueryTyped q a →
    IsTyped (exists at q) a
exists-typed at q a t = subst (λ (o : Option Kind). Has o Boolean) (sym (exists-kind q.tree a))
    (then-boolean (kinds_of_query q.tree a) (kinds_shown q.columns) t)

-- what fits gives a truth value
compared : (o p : Option Kind) (j k : Kind) → fits j k ≡ true → Has o j → Has p k →
    then o (λ l. then p (λ m. only_if (fits l m) (Some Boolean))) ≡ Some Boolean
compared o p j k f (l, is, below) (m, also, under) =
    ap (λ (x : Option Kind). then x (λ i. then p (λ n. only_if (fits i n) (Some Boolean)))) is
    ∙ ap (λ (x : Option Kind). then x (λ n. only_if (fits l n) (Some Boolean))) also
    ∙ ap (λ (b : Bool). only_if b (Some Boolean)) (both-below l j m k below under f)

in-boolean : (left : BoundExpr) (q : BoundQuery) (a : Around) (j k : Kind) → fits j k ≡ true →
    Has (kind_of left a) j → Has (then (kinds_of_query q a) only_column) k
    → kind_of (bound.In left q) a ≡ Some Boolean
in-boolean left q a j k f l t = in-kind left q a ∙
    compared (kind_of left a) (then (kinds_of_query q a) only_column) j k f l t

opposite-boolean : (e : BoundExpr) (a : Around) → kind_of e a ≡ Some Boolean →
    kind_of (opposite e) a ≡ Some Boolean
opposite-boolean e a is =
    operation-kind word.Opposite (e ∷ []) a
    ∙ ap (λ (o : Option Kind). then (then o (λ k. Some (k ∷ [])))
    (λ ks. only_if (all_fit Boolean ks) (Some Boolean))) is

-- a test or its opposite
negated-boolean : (negated : Bool) (e : BoundExpr) (a : Around) → kind_of e a ≡ Some Boolean →
    Has (kind_of (if_negated negated e) a) Boolean
negated-boolean false e a is = (Boolean, is, below-self Boolean)
negated-boolean true e a is = (Boolean, opposite-boolean e a is, below-self Boolean)

pub member-typed : (at : Anchor) (negated : Bool) (left : Typed) (q : TypedQuery) (a : Around) →
    member_faults left q ≡ [] → IsTyped left a → QueryTyped q a →
    IsTyped (member at negated left q) a
member-typed at negated left q a p l t =
    let compares : List Fault = like_first (left.head ∷ head_of (only q.columns) q.at ∷ []) in
    let f : fits left.head.kind (only q.columns) ≡ true =
    fitting left.head.kind (head_of (only q.columns) q.at)
    (front_nil (misfit left.head.kind (head_of (only q.columns) q.at)) []
    (back_nil (width_faults q) compares p)) in
    negated-boolean negated (bound.In left.tree q.tree) a
    (in-boolean left.tree q.tree a left.head.kind (only q.columns) f l
    (only-typed q.columns (kinds_of_query q.tree a)
    (one-column q (front_nil (width_faults q) compares p)) t))
