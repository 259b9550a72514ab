-- Values of statements are of the kinds that are wanted.
use Rattle.std.proofs.Common.{◌≡◌, refl, ap, ◌∙◌, arith, true, List, [], ◌∷◌, ◌++◌, length, Option}
use Rattle.std.proofs.Common.{Some, None}
use Rattle.syntax_trees.specs.declared.expr.Expr.{Expr}
use Rattle.bind_kinds.specs.declared.kind.Kind.{Kind}
use Rattle.bind_kinds.specs.declared.kind.Kind.TheVariants.{Integer, Text, Boolean, Null}
use Rattle.bind_kinds.specs.Kinds.{fits, misfit}
use Rattle.bind_queries.proofs.Laws.{front_nil, back_nil}
use Rattle.typing_trees.specs.Around.{Around, then}
use Rattle.typing_trees.specs.Kinds.{in_turn, each_fits}
use Rattle.typing_trees.specs.Queries.{ExprKind, kind_of, kinds_of}
use Rattle.typing_trees.specs.Statements.{is_of, value_of, holds}
use Rattle.typing_queries.proofs.Laws.{Below, AllBelow, Has, HasAll, fits-below, wanted-below}
use Rattle.typing_queries.proofs.Laws.{fitting, Sees, IsTyped, expr_typed}
use Rattle.bind_simple.specs.Places.{Surroundings, seen_from}
use Rattle.bind_simple.specs.Values.{judged_expr, value_of_kind}
use Rattle.typing_statements.proofs.Lists.{both-true, left-true, right-true, same-some}

-- ---- one value

pub is-of : (w k : Kind) (o : Option Kind) → Has o k → fits w k ≡ true → is_of w o ≡ true
is-of w k o (j, is, below) f = ap (is_of w) is ∙ fits-below w j k below f

-- what is wanted may be less
pub is-of-less : (v w : Kind) (o : Option Kind) → Below v w → is_of w o ≡ true → is_of v o ≡ true
is-of-less v w None b p = absurd cc
is-of-less v w (Some k) b p = wanted-below v w k b p

pub expr-typed : (e : Expr) (p : Surroundings) (a : Around) → Sees (seen_from p) a →
    (judged_expr e p).faults ≡ [] → IsTyped (judged_expr e p).value a
expr-typed e p a sees free = expr_typed e (seen_from p) a sees refl free

pub value-typed : (kind : Kind) (e : Expr) (p : Surroundings) (a : Around) → Sees (seen_from p) a →
    (value_of_kind kind e p).faults ≡ [] → value_of kind (value_of_kind kind e p).value a ≡ true
value-typed kind e p a sees free =
    let x = judged_expr e p in
    is-of kind x.value.head.kind (kind_of x.value.tree a)
    (expr-typed e p a sees (front_nil x.faults (misfit kind x.value.head) free))
    (fitting kind x.value.head (back_nil x.faults (misfit kind x.value.head) free))

-- ---- several

pub each-fit : (ws js ks : List Kind) → AllBelow js ks → in_turn ws ks ≡ true →
    length ks ≡ length ws → each_fits ws js ≡ true
each-fit [] [] [] b t n = refl
each-fit [] [] (k ∷ ks) b t n = absurd b
each-fit [] (j ∷ js) [] b t n = absurd b
each-fit [] (j ∷ js) (k ∷ ks) b t n = absurd (omega arith)
each-fit (w ∷ ws) [] [] b t n = absurd (omega arith)
each-fit (w ∷ ws) [] (k ∷ ks) b t n = absurd b
each-fit (w ∷ ws) (j ∷ js) [] b t n = absurd b
each-fit (w ∷ ws) (j ∷ js) (k ∷ ks) b t n =
    both-true (fits w j) (each_fits ws js) (fits-below w j k b.0
    (left-true (fits w k) (in_turn ws ks) t))
    (each-fit ws js ks b.1 (right-true (fits w k) (in_turn ws ks) t) (omega arith))

pub row-fits : (ws ks : List Kind) (o : Option (List Kind)) → HasAll o ks → in_turn ws ks ≡ true →
    length ks ≡ length ws → holds o (each_fits ws) ≡ true
row-fits ws ks o (js, is, below) t n = ap (λ (x : Option (List Kind)). holds x (each_fits ws)) is ∙
    each-fit ws js ks below t n

pub fits-itself : (k : Kind) → fits k k ≡ true
fits-itself Integer = refl
fits-itself Text = refl
fits-itself Boolean = refl
fits-itself Null = refl

pub each-fits-itself : (ks : List Kind) → each_fits ks ks ≡ true
each-fits-itself [] = refl
each-fits-itself (k ∷ ks) = both-true (fits k k) (each_fits ks ks) (fits-itself k)
    (each-fits-itself ks)

pub each-fits-more : (ws js vs ks : List Kind) → each_fits ws js ≡ true → each_fits vs ks ≡ true →
    each_fits (ws ++ vs) (js ++ ks) ≡ true
each-fits-more [] [] vs ks p q = q
each-fits-more [] (j ∷ js) vs ks p q = absurd cc
each-fits-more (w ∷ ws) [] vs ks p q = absurd cc
each-fits-more (w ∷ ws) (j ∷ js) vs ks p q =
    both-true (fits w j) (each_fits (ws ++ vs) (js ++ ks))
    (left-true (fits w j) (each_fits ws js) p)
    (each-fits-more ws js vs ks (right-true (fits w j) (each_fits ws js) p) q)

pub then-some : {A B : Type 0} (o : Option A) (f : A → Option B) (x : A) (y : Option B) →
    o ≡ Some x → f x ≡ y → then o f ≡ y
then-some o f x y is e = ap (λ z. then z f) is ∙ e

pub then-parts : {A B : Type 0} (o : Option A) (f : A → Option B) (y : B) → then o f ≡ Some y →
    (x : A) × (o ≡ Some x) × (f x ≡ Some y)
then-parts None f y p = absurd cc
then-parts (Some x) f y p = (x, refl, p)

pub kinds-more : (a : Around) (es fs : List ExprKind) (js ks : List Kind) →
    kinds_of a es ≡ Some js → kinds_of a fs ≡ Some ks → kinds_of a (es ++ fs) ≡ Some (js ++ ks)
kinds-more a [] fs js ks p q = q ∙ ap (λ (zs : List Kind). Some (zs ++ ks)) (same-some [] js p)
kinds-more a (e ∷ es) fs js ks p q =
    let front = then-parts (e a) (λ k. then (kinds_of a es) (λ zs. Some (k ∷ zs))) js p in
    let back = then-parts (kinds_of a es) (λ zs. Some (front.0 ∷ zs)) js front.2 in
    then-some (e a) (λ k. then (kinds_of a (es ++ fs)) (λ zs. Some (k ∷ zs))) front.0
    (Some (js ++ ks)) front.1
    (then-some (kinds_of a (es ++ fs)) (λ zs. Some (front.0 ∷ zs)) (back.0 ++ ks) (Some (js ++ ks))
    (kinds-more a es fs back.0 ks back.1 q)
    (ap (λ (zs : List Kind). Some (zs ++ ks)) (same-some (front.0 ∷ back.0) js back.2)))
