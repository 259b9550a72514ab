-- Rows of VALUES that are well typed.
use Rattle.std.proofs.Common.{◌≡◌, refl, sym, ap, subst, ℕ, zero, suc, true, ◌==◌, not, List, []}
use Rattle.std.proofs.Common.{◌∷◌, ◌++◌, length, replicate, Option, Some}
use Rattle.rel_algebra.proofs.Laws.{and_true, left_true, right_true}
use Rattle.syntax_trees.specs.declared.anchor.Anchor.{Anchor}
use Rattle.bind_faults.specs.declared.fault.FaultKind.TheVariants.{WrongCount}
use Rattle.bind_faults.specs.Faults.{fault_if}
use Rattle.bind_kinds.specs.declared.kind.OperandHead.{OperandHead}
use Rattle.bind_kinds.specs.declared.kind.Kind.{Kind}
use Rattle.bind_kinds.specs.declared.kind.Kind.TheVariants.{Integer, Text, Boolean, Null}
use Rattle.bind_kinds.specs.Kinds.{fits, joined, misfit, in_turn as asked_in_turn, joined_row}
use Rattle.bind_parts.specs.ValueRows.{anchor_of_row, row_faults}
use Rattle.typing_trees.specs.Kinds.{in_turn}
use Rattle.typing_trees.specs.Around.{then, only_if}
use Rattle.typing_trees.specs.Queries.{row_kinds}
use Rattle.typing_queries.proofs.Below.{Below, AllBelow, HasAll}
use Rattle.typing_queries.proofs.Fits.{kinds, front_nil, back_nil, holds, both-below, fitting}
use Rattle.typing_queries.proofs.Fits.{below-joined}
use Rattle.typing_queries.proofs.Subqueries.{as-many}

-- ---- a column

-- a column more, of the kinds that it has with a value more
one-more : (c k j m : Kind) (o : Option (List Kind)) (js : List Kind) → fits c k ≡ true →
    Below (joined c k) (joined j m) → HasAll o js
    → HasAll (only_if (fits c k) (then o (λ ks. Some (joined c k ∷ ks)))) (joined j m ∷ js)
one-more c k j m o js f b (ks, is, below) =
    subst (λ t. HasAll (only_if t (then o (λ xs. Some (joined c k ∷ xs)))) (joined j m ∷ js))
    (sym f)
    (subst (λ p. HasAll (then p (λ xs. Some (joined c k ∷ xs))) (joined j m ∷ js)) (sym is)
    (joined c k ∷ ks, refl, (b, below)))

wider : (known : List Kind) (hs : List OperandHead) (cs ks : List Kind) → length hs ≡ length known →
    asked_in_turn known hs ≡ [] → AllBelow cs known → AllBelow ks (kinds hs)
    → HasAll (row_kinds cs ks) (joined_row known hs)
wider [] [] [] [] n p below is = ([], refl, tt)
wider [] [] [] (k ∷ ks) n p below is = absurd is
wider [] [] (c ∷ cs) ks n p below is = absurd below
wider [] (h ∷ hs) cs ks n p below is = absurd cc
wider (j ∷ known) [] cs ks n p below is = absurd cc
wider (j ∷ known) (h ∷ hs) [] ks n p below is = absurd below
wider (j ∷ known) (h ∷ hs) (c ∷ cs) [] n p below is = absurd is
wider (j ∷ known) (h ∷ hs) (c ∷ cs) (k ∷ ks) n p below is =
    let f : fits j h.kind ≡ true = fitting j h (front_nil (misfit j h) (asked_in_turn known hs) p)
    in
    let m : length hs ≡ length known = cc in
    one-more c k j h.kind (row_kinds cs ks) (joined_row known hs)
    (both-below c j k h.kind below.0 is.0 f) (below-joined c k j h.kind below.0 is.0 f)
    (wider known hs cs ks m (back_nil (misfit j h) (asked_in_turn known hs) p) below.1 is.1)

-- ---- rows

-- a row more, of lower kinds than are known
pub row-typed : (at : Anchor) (targets : List Kind) (known : List Kind) (hs : List OperandHead)
    (cs ks : List Kind)
    → row_faults at targets known hs ≡ [] → AllBelow cs known → AllBelow ks (kinds hs) →
    HasAll (row_kinds cs ks) (joined_row known hs)
row-typed at targets known hs cs ks p below is =
    let counted = fault_if (not (length hs == length known)) WrongCount (anchor_of_row at hs) in
    let rest : asked_in_turn known hs ++ asked_in_turn targets hs ≡ [] =
    back_nil counted (asked_in_turn known hs ++ asked_in_turn targets hs) p in
    wider known hs cs ks
    (as-many (length hs) (length known) (holds (length hs == length known) WrongCount
    (anchor_of_row at hs) (front_nil counted
    (asked_in_turn known hs ++ asked_in_turn targets hs) p)))
    (front_nil (asked_in_turn known hs) (asked_in_turn targets hs) rest) below is

-- ---- what they are stored into

joined-fits : (w j k : Kind) → fits w j ≡ true → fits w k ≡ true → fits w (joined j k) ≡ true
joined-fits w Null k p q = q
joined-fits w Integer k p q = p
joined-fits w Text k p q = p
joined-fits w Boolean k p q = p

kept : (targets : List Kind) (known : List Kind) (hs : List OperandHead) →
    asked_in_turn targets hs ≡ [] → in_turn targets known ≡ true →
    in_turn targets (joined_row known hs) ≡ true
kept [] known hs p t = refl
kept (w ∷ targets) [] hs p t = refl
kept (w ∷ targets) (j ∷ known) [] p t = t
kept (w ∷ targets) (j ∷ known) (h ∷ hs) p t =
    and_true (fits w (joined j h.kind)) (in_turn targets (joined_row known hs))
    (joined-fits w j h.kind (left_true (fits w j) (in_turn targets known) t)
    (fitting w h (front_nil (misfit w h) (asked_in_turn targets hs) p)))
    (kept targets known hs (back_nil (misfit w h) (asked_in_turn targets hs) p)
    (right_true (fits w j) (in_turn targets known) t))

-- columns keep to what they are stored into
pub row-stored : (at : Anchor) (targets : List Kind) (known : List Kind) (hs : List OperandHead) →
    row_faults at targets known hs ≡ [] → in_turn targets known ≡ true →
    in_turn targets (joined_row known hs) ≡ true
row-stored at targets known hs p t =
    kept targets known hs
    (back_nil (asked_in_turn known hs) (asked_in_turn targets hs)
    (back_nil (fault_if (not (length hs == length known)) WrongCount (anchor_of_row at hs))
    (asked_in_turn known hs ++ asked_in_turn targets hs) p)) t

-- ---- the first row

nothing-known : (hs : List OperandHead) → joined_row (replicate (length hs) Null) hs ≡ kinds hs
nothing-known [] = refl
nothing-known (h ∷ hs) = ap (λ (ks : List Kind). h.kind ∷ ks) (nothing-known hs)

-- of the first row nothing is known before
pub first-row : (at : Anchor) (targets : List Kind) (hs : List OperandHead) (ks : List Kind)
    → row_faults at targets (replicate (length hs) Null) hs ≡ [] → AllBelow ks (kinds hs) →
    AllBelow ks (joined_row (replicate (length hs) Null) hs)
first-row at targets hs ks p is = subst (λ js. AllBelow ks js) (sym (nothing-known hs)) is

null-fits : (w : Kind) → fits w Null ≡ true
null-fits Null = refl
null-fits Integer = refl
null-fits Text = refl
null-fits Boolean = refl

pub nothing-stored : (targets : List Kind) (n : ℕ) → in_turn targets (replicate n Null) ≡ true
nothing-stored [] n = refl
nothing-stored (w ∷ targets) zero = refl
nothing-stored (w ∷ targets) (suc n) = and_true (fits w Null) (in_turn targets (replicate n Null))
    (null-fits w) (nothing-stored targets n)
