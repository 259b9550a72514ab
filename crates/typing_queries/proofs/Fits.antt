-- What fits a kind fits a lower one, and words over lower kinds give lower ones.
use Rattle.std.proofs.Common.{◌≡◌, inl, inr, refl, sym, ap, subst, ◌∙◌, Bool, true, false, not}
use Rattle.std.proofs.Common.{List, [], ◌∷◌, ◌++◌, map, Option, Some, None}
use Rattle.rel_algebra.proofs.Laws.{and_true}
use Rattle.syntax_trees.specs.declared.anchor.Anchor.{Anchor}
use Rattle.bind_faults.specs.declared.fault.FaultKind.{FaultKind}
use Rattle.bind_faults.specs.declared.fault.FaultKind.TheVariants.{TypeMismatch}
use Rattle.bind_faults.specs.Faults.{fault_if}
use Rattle.bind_kinds.specs.declared.kind.OperandHead.{OperandHead}
use Rattle.bind_kinds.specs.declared.kind.Kind.{Kind}
use Rattle.bind_kinds.specs.declared.kind.Kind.TheVariants.{Integer, Text, Boolean, Null}
use Rattle.bind_kinds.specs.Kinds.{fits, joined, misfit, all_of_kind, alike, common, like_first}
use Rattle.bind_kinds.specs.Kinds.{in_turn}
use Rattle.typing_trees.specs.Kinds.{all_fit}
use Rattle.typing_trees.specs.Kinds as tree
use Rattle.typing_trees.specs.Around.{Around, then}
use Rattle.typing_trees.specs.Queries.{ExprKind, kinds_of}
use Rattle.typing_queries.proofs.Below.{Below, AllBelow}

abbrev pub kinds : List OperandHead → List Kind
kinds hs = map (λ h. h.kind) hs

-- ---- lists without faults

pub front_nil : {A : Type 0} (a b : List A) → a ++ b ≡ [] → a ≡ []
front_nil [] b p = refl
front_nil (x ∷ a) b p = absurd cc

pub back_nil : {A : Type 0} (a b : List A) → a ++ b ≡ [] → b ≡ []
back_nil [] b p = p
back_nil (x ∷ a) b p = absurd cc

pub no_fault : (b : Bool) (kind : FaultKind) (at : Anchor) → fault_if b kind at ≡ [] → b ≡ false
no_fault false kind at p = refl
no_fault true kind at p = absurd cc

not-false : (b : Bool) → not b ≡ false → b ≡ true
not-false true p = refl
not-false false p = sym p

-- where a test that fails is a fault, it holds
pub holds : (b : Bool) (kind : FaultKind) (at : Anchor) → fault_if (not b) kind at ≡ [] → b ≡ true
holds b kind at p = not-false b (no_fault (not b) kind at p)

-- ---- one kind

fits-null : (w : Kind) → fits w Null ≡ true
fits-null Integer = refl
fits-null Text = refl
fits-null Boolean = refl
fits-null Null = refl

pub fits-below : (w j k : Kind) → Below j k → fits w k ≡ true → fits w j ≡ true
fits-below w j k (inl e) f = subst (λ x. fits w x ≡ true) (sym e) f
fits-below w j k (inr e) f = subst (λ x. fits w x ≡ true) (sym e) (fits-null w)

pub wanted-below : (v w k : Kind) → Below v w → fits w k ≡ true → fits v k ≡ true
wanted-below v w k (inl e) f = subst (λ x. fits x k ≡ true) (sym e) f
wanted-below v w k (inr e) f = subst (λ x. fits x k ≡ true) (sym e) refl

-- of lower kinds each
pub both-below : (v w j k : Kind) → Below v w → Below j k → fits w k ≡ true → fits v j ≡ true
both-below v w j k p q f = wanted-below v w j p (fits-below w j k q f)

pub fits-swap : (j k : Kind) → fits j k ≡ fits k j
fits-swap Integer Integer = refl
fits-swap Integer Text = refl
fits-swap Integer Boolean = refl
fits-swap Integer Null = refl
fits-swap Text Integer = refl
fits-swap Text Text = refl
fits-swap Text Boolean = refl
fits-swap Text Null = refl
fits-swap Boolean Integer = refl
fits-swap Boolean Text = refl
fits-swap Boolean Boolean = refl
fits-swap Boolean Null = refl
fits-swap Null Integer = refl
fits-swap Null Text = refl
fits-swap Null Boolean = refl
fits-swap Null Null = refl

pub fitting : (w : Kind) (h : OperandHead) → misfit w h ≡ [] → fits w h.kind ≡ true
fitting w h p = holds (fits w h.kind) TypeMismatch h.at p

-- what fits numbers is below them
pub below-integer : (k : Kind) → fits Integer k ≡ true → Below k Integer
below-integer Integer f = inl refl
below-integer Text f = absurd cc
below-integer Boolean f = absurd cc
below-integer Null f = inr refl

fits-joined : (k l : Kind) → fits k l ≡ true → Below l (joined k l)
fits-joined Integer Integer f = inl refl
fits-joined Integer Text f = absurd cc
fits-joined Integer Boolean f = absurd cc
fits-joined Integer Null f = inr refl
fits-joined Text Integer f = absurd cc
fits-joined Text Text f = inl refl
fits-joined Text Boolean f = absurd cc
fits-joined Text Null f = inr refl
fits-joined Boolean Integer f = absurd cc
fits-joined Boolean Text f = absurd cc
fits-joined Boolean Boolean f = inl refl
fits-joined Boolean Null f = inr refl
fits-joined Null l f = inl refl

pub below-then : (i j k : Kind) → Below i j → Below j k → Below i k
below-then i j k (inl p) q = subst (λ x. Below x k) (sym p) q
below-then i j k (inr p) q = inr p

joined-same : (k j l : Kind) → Below j l → fits k l ≡ true → Below (joined k j) (joined k l)
joined-same Integer j l q f = inl refl
joined-same Text j l q f = inl refl
joined-same Boolean j l q f = inl refl
joined-same Null j l q f = q

pub below-joined : (i j k l : Kind) → Below i k → Below j l → fits k l ≡ true →
    Below (joined i j) (joined k l)
below-joined i j k l (inl p) q f = subst (λ x. Below (joined x j) (joined k l)) (sym p)
    (joined-same k j l q f)
below-joined i j k l (inr p) q f = subst (λ x. Below (joined x j) (joined k l)) (sym p)
    (below-then j l (joined k l) q (fits-joined k l f))

-- ---- several kinds

pub all-fit : (w : Kind) (js : List Kind) (hs : List OperandHead) → AllBelow js (kinds hs) →
    all_of_kind w hs ≡ [] → all_fit w js ≡ true
all-fit w [] [] b p = refl
all-fit w [] (h ∷ hs) b p = absurd b
all-fit w (j ∷ js) [] b p = absurd b
all-fit w (j ∷ js) (h ∷ hs) b p =
    and_true (fits w j) (all_fit w js) (fits-below w j h.kind b.0
    (fitting w h (front_nil (misfit w h) (all_of_kind w hs) p)))
    (all-fit w js hs b.1 (back_nil (misfit w h) (all_of_kind w hs) p))

pub alike-below : (i k : Kind) (js : List Kind) (hs : List OperandHead) → Below i k →
    AllBelow js (kinds hs) → alike k hs ≡ [] → tree.alike i js ≡ true
alike-below i k [] [] q b p = refl
alike-below i k [] (h ∷ hs) q b p = absurd b
alike-below i k (j ∷ js) [] q b p = absurd b
alike-below i k (j ∷ js) (h ∷ hs) q b p =
    let f : fits k h.kind ≡ true = fitting k h
    (front_nil (misfit k h) (alike (joined k h.kind) hs) p) in
    and_true (fits i j) (tree.alike (joined i j) js) (both-below i k j h.kind q b.0 f)
    (alike-below (joined i j) (joined k h.kind) js hs (below-joined i j k h.kind q b.0 f) b.1
    (back_nil (misfit k h) (alike (joined k h.kind) hs) p))

pub common-below : (i k : Kind) (js : List Kind) (hs : List OperandHead) → Below i k →
    AllBelow js (kinds hs) → alike k hs ≡ [] → Below (tree.common i js) (common k hs)
common-below i k [] [] q b p = q
common-below i k [] (h ∷ hs) q b p = absurd b
common-below i k (j ∷ js) [] q b p = absurd b
common-below i k (j ∷ js) (h ∷ hs) q b p =
    let f : fits k h.kind ≡ true = fitting k h
    (front_nil (misfit k h) (alike (joined k h.kind) hs) p) in
    common-below (joined i j) (joined k h.kind) js hs (below-joined i j k h.kind q b.0 f) b.1
    (back_nil (misfit k h) (alike (joined k h.kind) hs) p)

all-wanted-below : (v w : Kind) (ks : List Kind) → Below v w → all_fit w ks ≡ true →
    all_fit v ks ≡ true
all-wanted-below v w ks (inl e) f = subst (λ x. all_fit x ks ≡ true) (sym e) f
all-wanted-below v w ks (inr e) f = subst (λ x. all_fit x ks ≡ true) (sym e) (all-null ks)
  where
    all-null : (ks : List Kind) → all_fit Null ks ≡ true
    all-null [] = refl
    all-null (k ∷ ks) = all-null ks

pub like-first : (js : List Kind) (hs : List OperandHead) → AllBelow js (kinds hs) →
    like_first hs ≡ [] → tree.like_first js ≡ true
like-first [] [] b p = refl
like-first [] (h ∷ hs) b p = absurd b
like-first (j ∷ js) [] b p = absurd b
like-first (j ∷ js) (h ∷ hs) b p = all-wanted-below j h.kind js b.0 (all-fit h.kind js hs b.1 p)

pub in-turn : (ws js : List Kind) (hs : List OperandHead) → AllBelow js (kinds hs) →
    in_turn ws hs ≡ [] → tree.in_turn ws js ≡ true
in-turn [] js hs b p = refl
in-turn (w ∷ ws) [] hs b p = refl
in-turn (w ∷ ws) (j ∷ js) [] b p = absurd b
in-turn (w ∷ ws) (j ∷ js) (h ∷ hs) b p =
    and_true (fits w j) (tree.in_turn ws js) (fits-below w j h.kind b.0
    (fitting w h (front_nil (misfit w h) (in_turn ws hs) p)))
    (in-turn ws js hs b.1 (back_nil (misfit w h) (in_turn ws hs) p))

-- ---- what may fail

pub then-some : {A B : Type 0} (o : Option A) (f : A → Option B) (y : B) → then o f ≡ Some y →
    (x : A) × (o ≡ Some x) × (f x ≡ Some y)
then-some None f y p = absurd cc
then-some (Some x) f y p = (x, refl, p)

pub some-then : {A B : Type 0} (o : Option A) (f : A → Option B) (x : A) (y : Option B) →
    o ≡ Some x → f x ≡ y → then o f ≡ y
some-then o f x y p q = ap (λ z. then z f) p ∙ q

pub kinds-both : (a : Around) (e : ExprKind) (es : List ExprKind) (j : Kind) (ks : List Kind) →
    e a ≡ Some j → kinds_of a es ≡ Some ks → kinds_of a (e ∷ es) ≡ Some (j ∷ ks)
kinds-both a e es j ks p q =
    some-then (e a) (λ k. then (kinds_of a es) (λ ks. Some (k ∷ ks))) j (Some (j ∷ ks)) p
    (some-then (kinds_of a es) (λ ks. Some (j ∷ ks)) ks (Some (j ∷ ks)) q refl)

-- an expression and those after it
pub kinds-parts : (a : Around) (e : ExprKind) (es : List ExprKind) (js : List Kind) →
    kinds_of a (e ∷ es) ≡ Some js
    → (j : Kind) × (ks : List Kind) × (e a ≡ Some j) × (kinds_of a es ≡ Some ks) × (js ≡ j ∷ ks)
kinds-parts a e es js p =
    let first : (x : Kind) × (e a ≡ Some x) ×
    (then (kinds_of a es) (λ ks. Some (x ∷ ks)) ≡ Some js) =
    then-some (e a) (λ k. then (kinds_of a es) (λ ks. Some (k ∷ ks))) js p in
    let rest : (x : List Kind) × (kinds_of a es ≡ Some x) × (Some (first.0 ∷ x) ≡ Some js) =
    then-some (kinds_of a es) (λ ks. Some (first.0 ∷ ks)) js first.2 in
    (first.0, rest.0, first.1, rest.1, cc rest.2)
