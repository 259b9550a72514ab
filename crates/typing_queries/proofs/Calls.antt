-- Calls and aggregates over arguments that are well typed.
use Rattle.std.proofs.Common.{◌≡◌, inl, refl, ap, subst, ◌∙◌, arith, ℕ, suc, ◌==◌, Bool, true, List}
use Rattle.std.proofs.Common.{[], ◌∷◌, map, length, Option, Some, None}
use Rattle.std.proofs.lemmas.Bool.Decides.{nat_tests}
use Rattle.rel_algebra.proofs.Laws.{and_true}
use Rattle.sql_values.specs.declared.fold.FoldKind.{FoldKind}
use Rattle.sql_values.specs.declared.fold.FoldKind.TheVariants.{Count, Sum, Avg, Min, Max}
use Rattle.sql_values.specs.declared.value.SqlType.{SqlType}
use Rattle.sql_values.specs.declared.value.Value.TheVariants.{Bool as Truth}
use Rattle.syntax_trees.specs.declared.anchor.Anchor.{Anchor}
use Rattle.syntax_trees.specs.declared.anchor.Ident.{Ident}
use Rattle.bound_trees.specs.declared.expr.BoundExpr.{BoundExpr}
use Rattle.bound_trees.specs.declared.expr.BoundExpr.TheVariants as bound
use Rattle.catalog_store.specs.declared.entry.FunctionHead.{FunctionHead}
use Rattle.bind_faults.specs.declared.fault.FaultKind.TheVariants.{WrongCount}
use Rattle.bind_kinds.specs.declared.kind.OperandHead.{OperandHead}
use Rattle.bind_kinds.specs.declared.kind.Kind.{Kind}
use Rattle.bind_kinds.specs.declared.kind.Kind.TheVariants.{Integer, Boolean}
use Rattle.bind_kinds.specs.Aggregates.{aggregate_asked, aggregate_given, argument_of}
use Rattle.bind_kinds.specs.Kinds.{kind_of_type, fits, misfit, all_of_kind, in_turn}
use Rattle.bind_parts.specs.declared.typed.Operands.{Operands}
use Rattle.bind_parts.specs.Typed.{call_faults, argument_faults, call_typed, takes_arguments}
use Rattle.bind_parts.specs.Typed.{aggregate_faults}
use Rattle.typing_trees.specs.Around.{Around, only_if}
use Rattle.typing_trees.specs.Kinds.{each_fits, aggregate_allows, aggregate_gives}
use Rattle.typing_trees.specs.Queries.{kind_of, kinds_of, call_kind}
use Rattle.typing_queries.proofs.Below.{Below, AllBelow, Has}
use Rattle.typing_queries.proofs.Fits.{kinds, front_nil, back_nil, holds, fits-below, fitting}
use Rattle.typing_queries.proofs.Fits.{some-then, kinds-parts}
use Rattle.typing_queries.proofs.Layers.{literal-kind, call-kind}
use Rattle.typing_queries.proofs.Shapes.{IsTyped, AreTyped}

-- ---- calls

-- as many arguments as parameters, each of its parameter's kind
each-fits : (ts : List SqlType) (js : List Kind) (hs : List OperandHead) → length hs ≡ length ts →
    in_turn (map kind_of_type ts) hs ≡ [] → AllBelow js (kinds hs) →
    each_fits (map kind_of_type ts) js ≡ true
each-fits [] [] hs n p b = refl
each-fits [] (j ∷ js) [] n p b = absurd b
each-fits [] (j ∷ js) (h ∷ hs) n p b = absurd (omega arith)
each-fits (t ∷ ts) js [] n p b = absurd (omega arith)
each-fits (t ∷ ts) [] (h ∷ hs) n p b = absurd b
each-fits (t ∷ ts) (j ∷ js) (h ∷ hs) n p b =
    and_true (fits (kind_of_type t) j) (each_fits (map kind_of_type ts) js)
    (fits-below (kind_of_type t) j h.kind b.0
    (fitting (kind_of_type t) h (front_nil (misfit (kind_of_type t) h)
    (in_turn (map kind_of_type ts) hs) p)))
    (each-fits ts js hs (omega arith) (back_nil (misfit (kind_of_type t) h)
    (in_turn (map kind_of_type ts) hs) p) b.1)

as-many : (m n : ℕ) → (m == n) ≡ true → m ≡ n
as-many m n p = grind (arith, nat_tests)

called : (i : Ident) (f : FunctionHead) (hs : List OperandHead) (es : List BoundExpr)
    (js : List Kind) (a : Around) → a.functions i.name ≡ Some f → length hs ≡ length f.parameters
    → in_turn (map kind_of_type f.parameters) hs ≡ [] → kinds_of a (map kind_of es) ≡ Some js →
    AllBelow js (kinds hs) → Has (kind_of (bound.Call i.name es) a) (kind_of_type f.returns)
called i f hs es js a is n p t b = (
  kind_of_type f.returns,
  call-kind i.name es a
      ∙ some-then (kinds_of a (map kind_of es)) (λ ks. call_kind (a.functions i.name) ks) js
      (Some (kind_of_type f.returns)) t
      (ap (λ o. call_kind o js) is ∙ ap (λ c. only_if c (Some (kind_of_type f.returns)))
      (each-fits f.parameters js hs n p b)),
  inl refl,
)

pub call-typed : (writing : Bool) (i : Ident) (f : Option FunctionHead) (so : Operands) (a : Around)
    → a.functions i.name ≡ f → call_faults writing i.anchor (length so.heads) f ≡ [] →
    argument_faults f so.heads ≡ [] → AreTyped so a → IsTyped (call_typed i f so) a
call-typed writing i None so a is p q t = absurd cc
call-typed writing i (Some f) so a is p q t =
    let many : (length so.heads == length f.parameters) ≡ true =
    holds (length so.heads == length f.parameters) WrongCount i.anchor (front_nil _ _ p) in
    called i f so.heads so.trees t.0 a is (as-many (length so.heads) (length f.parameters) many) q
    t.1 t.2

-- ---- aggregates

of-numbers : (h : OperandHead) (j : Kind) → Below j h.kind → all_of_kind Integer (h ∷ []) ≡ [] →
    fits Integer j ≡ true
of-numbers h j b p = fits-below Integer j h.kind b
    (fitting Integer h (front_nil (misfit Integer h) [] p))

allowed : (kind : FoldKind) (h : OperandHead) (j : Kind) → Below j h.kind →
    aggregate_asked kind (h ∷ []) ≡ [] → (aggregate_allows kind j ≡ true) ×
    Below (aggregate_gives kind j) (aggregate_given kind (h ∷ []))
allowed Count h j b p = (refl, inl refl)
allowed Sum h j b p = (of-numbers h j b p, inl refl)
allowed Avg h j b p = (of-numbers h j b p, inl refl)
allowed Min h j b p = (refl, b)
allowed Max h j b p = (refl, b)

-- the argument of COUNT(*) is TRUE
without : (kind : FoldKind) (a : Around) → takes_arguments kind 0 ≡ true
    → (k : Kind) × (kind_of (argument_of []) a ≡ Some k) × (aggregate_allows kind k ≡ true) ×
    Below (aggregate_gives kind k) (aggregate_given kind [])
without Count a p = (Boolean, literal-kind (Truth true) a, refl, inl refl)
without Sum a p = absurd cc
without Avg a p = absurd cc
without Min a p = absurd cc
without Max a p = absurd cc

no-more : (kind : FoldKind) (n : ℕ) → takes_arguments kind (suc (suc n)) ≡ true → ⊥
no-more Count n p = grind (arith, nat_tests)
no-more Sum n p = grind (arith, nat_tests)
no-more Avg n p = grind (arith, nat_tests)
no-more Min n p = grind (arith, nat_tests)
no-more Max n p = grind (arith, nat_tests)

argument : (kind : FoldKind) (hs : List OperandHead) (es : List BoundExpr) (js : List Kind)
    (a : Around) → takes_arguments kind (length hs) ≡ true → aggregate_asked kind hs ≡ []
    → kinds_of a (map kind_of es) ≡ Some js → AllBelow js (kinds hs)
    → (k : Kind) × (kind_of (argument_of es) a ≡ Some k) × (aggregate_allows kind k ≡ true) ×
    Below (aggregate_gives kind k) (aggregate_given kind hs)
argument kind [] [] js a n p t b = without kind a n
argument kind [] (e ∷ es) js a n p t b =
    let c : (j : Kind) × (ks : List Kind) × (kind_of e a ≡ Some j) ×
    (kinds_of a (map kind_of es) ≡ Some ks) × (js ≡ j ∷ ks) =
    kinds-parts a (kind_of e) (map kind_of es) js t in
    absurd (subst (λ ks. AllBelow ks []) c.4 b)
argument kind (h ∷ hs) [] [] a n p t b = absurd b
argument kind (h ∷ hs) [] (j ∷ js) a n p t b = absurd cc
argument kind (h ∷ []) (e ∷ es) js a n p t b =
    let c : (j : Kind) × (ks : List Kind) × (kind_of e a ≡ Some j) ×
    (kinds_of a (map kind_of es) ≡ Some ks) × (js ≡ j ∷ ks) =
    kinds-parts a (kind_of e) (map kind_of es) js t in
    let below : AllBelow (c.0 ∷ c.1) (kinds (h ∷ [])) =
    subst (λ ks. AllBelow ks (kinds (h ∷ []))) c.4 b in
    let taken : (aggregate_allows kind c.0 ≡ true) ×
    Below (aggregate_gives kind c.0) (aggregate_given kind (h ∷ [])) =
    allowed kind h c.0 below.0 p in
    (c.0, c.2, taken.0, taken.1)
argument kind (h ∷ g ∷ hs) (e ∷ es) js a n p t b = absurd (no-more kind (length hs) n)

-- an aggregate has its argument, whose kind it takes
pub argument-typed : (at : Anchor) (kind : FoldKind) (so : Operands) (a : Around) →
    aggregate_faults at kind so.heads ≡ [] → AreTyped so a
    → (k : Kind) × (kind_of (argument_of so.trees) a ≡ Some k) × (aggregate_allows kind k ≡ true) ×
    Below (aggregate_gives kind k) (aggregate_given kind so.heads)
argument-typed at kind so a p t =
    argument kind so.heads so.trees t.0 a (holds (takes_arguments kind (length so.heads)) WrongCount
    at (back_nil (aggregate_asked kind so.heads) _ p))
    (front_nil (aggregate_asked kind so.heads) _ p) t.1 t.2
