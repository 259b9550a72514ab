-- Words and chains over operands that are well typed.
use Rattle.std.proofs.Common.{◌≡◌, inl, inr, refl, sym, ap, subst, ◌∙◌, arith, true, not, ◌&&◌}
use Rattle.std.proofs.Common.{List, [], ◌∷◌, ◌++◌, map, length, Some, None}
use Rattle.std.specs.List.{list_all}
use Rattle.rel_algebra.proofs.Laws.{and_true, left_true, right_true}
use Rattle.sql_values.specs.declared.operators.Operator.{Operator}
use Rattle.sql_values.specs.declared.operators.Operator.TheVariants.{Add, Subtract, Multiply}
use Rattle.sql_values.specs.declared.operators.Operator.TheVariants.{Divide, Concatenate}
use Rattle.syntax_trees.specs.declared.anchor.Anchor.{Anchor}
use Rattle.syntax_trees.specs.declared.expr.ChainOperator.{ChainOperator}
use Rattle.syntax_trees.specs.declared.expr.ChainOperator.TheVariants.{Or, And, Value}
use Rattle.syntax_trees.specs.declared.expr.Literal.{Literal}
use Rattle.syntax_trees.specs.declared.expr.Literal.TheVariants as constant
use Rattle.syntax_trees.specs.declared.expr.Operation.{Operation}
use Rattle.syntax_trees.specs.declared.expr.Operation.TheVariants.{Plus, Minus, Not, Compare, Is}
use Rattle.syntax_trees.specs.declared.expr.Operation.TheVariants.{IsNot, In, NotIn, Modulo}
use Rattle.syntax_trees.specs.declared.expr.Operation.TheVariants.{CharLength, Substring, Cast}
use Rattle.syntax_trees.specs.declared.expr.Operation.TheVariants.{Coalesce, Case, CaseOf}
use Rattle.syntax_trees.specs.declared.expr.TruthTest.{TruthTest}
use Rattle.syntax_trees.specs.declared.expr.TruthTest.TheVariants as is
use Rattle.bound_trees.specs.declared.expr.BoundExpr.{BoundExpr}
use Rattle.bound_trees.specs.declared.expr.BoundExpr.TheVariants as bound
use Rattle.bound_trees.specs.declared.expr.BoundOperation.{BoundOperation}
use Rattle.bound_trees.specs.declared.expr.BoundOperation.TheVariants as word
use Rattle.bind_faults.specs.declared.fault.Fault.{Fault}
use Rattle.bind_faults.specs.declared.fault.FaultKind.TheVariants.{TypeMismatch}
use Rattle.bind_faults.specs.Faults.{fault_if}
use Rattle.bind_kinds.specs.declared.kind.OperandHead.{OperandHead}
use Rattle.bind_kinds.specs.declared.kind.Kind.{Kind}
use Rattle.bind_kinds.specs.declared.kind.Kind.TheVariants.{Integer, Text, Boolean, Null}
use Rattle.bind_kinds.specs.Types.{type_of, type_faults}
use Rattle.bind_kinds.specs.Kinds.{kind_of_type, kind_of_literal, fits, joined, misfit, head_of}
use Rattle.bind_kinds.specs.Kinds.{settled}
use Rattle.bind_kinds.specs.Chains.{kind_of_operator, link_faults, link_free, linked, links_faults}
use Rattle.bind_kinds.specs.Chains.{kind_of_chain, chain_place}
use Rattle.bind_kinds.specs.Operations.{asked, given, test_faults, is_cast, no_cast_faults, arm}
use Rattle.bind_kinds.specs.Operations as words
use Rattle.bind_kinds.specs.Words.{value_of, word_of_test, opposite, plus, tree_of, link_of}
use Rattle.bind_kinds.specs.Words.{links_of, chain_of}
use Rattle.bind_parts.specs.declared.typed.Typed.{Typed}
use Rattle.bind_parts.specs.declared.typed.Operands.{Operands}
use Rattle.bind_parts.specs.Typed.{literal, operated_typed, asked_of, chained_typed, asked_by_chain}
use Rattle.typing_trees.specs.Around.{Around, only_if}
use Rattle.typing_trees.specs.Kinds.{kind_of_value, all_fit, allows, gives, operator_allows}
use Rattle.typing_trees.specs.Kinds as tree
use Rattle.typing_trees.specs.Queries.{LinkKind, kind_of, kinds_of, kind_of_link, chain_kind}
use Rattle.typing_queries.proofs.Below.{Below, AllBelow, Has, below-self}
use Rattle.typing_queries.proofs.Fits.{kinds, front_nil, back_nil, holds, fits-below, both-below}
use Rattle.typing_queries.proofs.Fits.{fitting, below-integer, below-joined, all-fit, alike-below}
use Rattle.typing_queries.proofs.Fits.{common-below, like-first, in-turn, some-then, kinds-both}
use Rattle.typing_queries.proofs.Fits.{kinds-parts}
use Rattle.typing_queries.proofs.Layers.{literal-kind, operation-kind, chain-kind, link-kind}
use Rattle.typing_queries.proofs.Shapes.{IsTyped, AreTyped}

below-literal : (l : Literal) → Below (kind_of_value (value_of l)) (kind_of_literal l)
below-literal (constant.Number n) = inl refl
below-literal (constant.Text t) = inl refl
below-literal constant.True = inl refl
below-literal constant.False = inl refl
below-literal constant.Unknown = inr refl
below-literal constant.Null = inl refl

pub literal-typed : (at : Anchor) (l : Literal) (a : Around) → IsTyped (literal at l) a
literal-typed at l a = (kind_of_value (value_of l), literal-kind (value_of l) a, below-literal l)

-- ---- words

-- a word over operands that it takes
pub worked : (w : BoundOperation) (es : List BoundExpr) (a : Around) (js : List Kind) (k : Kind) →
    kinds_of a (map kind_of es) ≡ Some js → allows w js ≡ true → Below (gives w js) k
    → Has (kind_of (bound.Operation w es) a) k
worked w es a js k t p b = (
  gives w js,
  operation-kind w es a ∙ some-then (kinds_of a (map kind_of es))
      (λ ks. only_if (allows w ks) (Some (gives w ks))) js (Some (gives w js)) t
      (ap (λ c. only_if c (Some (gives w js))) p),
  b,
)

pub opposite-typed : (e : BoundExpr) (a : Around) → Has (kind_of e a) Boolean →
    Has (kind_of (opposite e) a) Boolean
opposite-typed e a t =
    worked word.Opposite (e ∷ []) a (t.0 ∷ []) Boolean (kinds-both a (kind_of e) [] t.0 [] t.1 refl)
    (and_true (fits Boolean t.0) true (fits-below Boolean t.0 Boolean t.2 refl) refl) (inl refl)

plus-typed : (es : List BoundExpr) (a : Around) (js : List Kind) →
    kinds_of a (map kind_of es) ≡ Some js → all_fit Integer js ≡ true →
    Has (kind_of (plus es) a) Integer
plus-typed [] a js t p = worked word.Negation [] a js Integer t p (inl refl)
plus-typed (e ∷ []) a js t p =
    let c : (j : Kind) × (ks : List Kind) × (kind_of e a ≡ Some j) × (kinds_of a [] ≡ Some ks) ×
    (js ≡ j ∷ ks) = kinds-parts a (kind_of e) [] js t in (
      c.0,
      c.2,
      below-integer c.0 (left_true (fits Integer c.0) (all_fit Integer c.1)
          (subst (λ ks. all_fit Integer ks ≡ true) c.4 p)),
    )
plus-typed (e ∷ d ∷ es) a js t p = worked word.Negation (e ∷ d ∷ es) a js Integer t p (inl refl)

tested : (test : TruthTest) (hs : List OperandHead) (es : List BoundExpr) (a : Around)
    (js : List Kind) → test_faults test hs ≡ [] → kinds_of a (map kind_of es) ≡ Some js →
    AllBelow js (kinds hs)
    → Has (kind_of (bound.Operation (word_of_test test) es) a) Boolean
tested is.Null hs es a js p t b = worked word.NullTest es a js Boolean t refl (inl refl)
tested is.True hs es a js p t b = worked word.TrueTest es a js Boolean t (all-fit Boolean js hs b p)
    (inl refl)
tested is.False hs es a js p t b = worked word.FalseTest es a js Boolean t
    (all-fit Boolean js hs b p) (inl refl)
tested is.Unknown hs es a js p t b = worked word.NullTest es a js Boolean t refl (inl refl)

-- ---- CAST

cast-null : (to : Kind) → is_cast to Null ≡ true
cast-null Integer = refl
cast-null Text = refl
cast-null Boolean = refl
cast-null Null = refl

cast-below : (to j k : Kind) → Below j k → is_cast to k ≡ true → is_cast to j ≡ true
cast-below to j k (inl e) f = subst (λ x. is_cast to x ≡ true) (sym e) f
cast-below to j k (inr e) f = subst (λ x. is_cast to x ≡ true) (sym e) (cast-null to)

casts : (to : Kind) (js : List Kind) (hs : List OperandHead) → AllBelow js (kinds hs) →
    no_cast_faults to hs ≡ [] → list_all (is_cast to) js ≡ true
casts to [] [] b p = refl
casts to [] (h ∷ hs) b p = absurd b
casts to (j ∷ js) [] b p = absurd b
casts to (j ∷ js) (h ∷ hs) b p =
    and_true (is_cast to j) (list_all (is_cast to) js)
    (cast-below to j h.kind b.0 (holds (is_cast to h.kind) TypeMismatch h.at
    (front_nil _ (no_cast_faults to hs) p)))
    (casts to js hs b.1 (back_nil (fault_if (not (is_cast to h.kind)) TypeMismatch h.at)
    (no_cast_faults to hs) p))

-- ---- CASE

arms-below : (v w i k : Kind) (js : List Kind) (hs : List OperandHead) → Below v w → Below i k →
    AllBelow js (kinds hs) → words.arms w k None hs ≡ [] → tree.arms v i js ≡ true
arms-below v w i k [] [] q r b p = refl
arms-below v w i k [] (h ∷ hs) q r b p = absurd b
arms-below v w i k (j ∷ js) [] q r b p = absurd b
arms-below v w i k (j ∷ []) (h ∷ []) q r b p = both-below i k j h.kind r b.0 (fitting k h p)
arms-below v w i k (j ∷ []) (h ∷ g ∷ hs) q r b p = absurd b.1
arms-below v w i k (j ∷ l ∷ js) (h ∷ []) q r b p = absurd b.1
arms-below v w i k (j ∷ l ∷ js) (h ∷ g ∷ hs) q r b p =
    let rest : List Fault = words.arms w (joined k g.kind) None hs in
    let here : arm w k h g ≡ [] = front_nil (arm w k h g) rest p in
    let f : fits w h.kind ≡ true = fitting w h (front_nil (misfit w h) (misfit k g) here) in
    let e : fits k g.kind ≡ true = fitting k g (back_nil (misfit w h) (misfit k g) here) in
    and_true (fits v j && fits i l) (tree.arms v (joined i l) js)
    (and_true (fits v j) (fits i l) (both-below v w j h.kind q b.0 f)
    (both-below i k l g.kind r b.1.0 e))
    (arms-below v w (joined i l) (joined k g.kind) js hs q (below-joined i l k g.kind r b.1.0 e)
    b.1.1 (back_nil (arm w k h g) rest p))

results-below : (w i k : Kind) (js : List Kind) (hs : List OperandHead) → Below i k →
    AllBelow js (kinds hs) → words.arms w k None hs ≡ [] →
    Below (tree.kind_of_arms i js) (words.kind_of_arms k None hs)
results-below w i k [] [] r b p = r
results-below w i k [] (h ∷ hs) r b p = absurd b
results-below w i k (j ∷ js) [] r b p = absurd b
results-below w i k (j ∷ []) (h ∷ []) r b p = below-joined i j k h.kind r b.0 (fitting k h p)
results-below w i k (j ∷ []) (h ∷ g ∷ hs) r b p = absurd b.1
results-below w i k (j ∷ l ∷ js) (h ∷ []) r b p = absurd b.1
results-below w i k (j ∷ l ∷ js) (h ∷ g ∷ hs) r b p =
    let rest : List Fault = words.arms w (joined k g.kind) None hs in
    let e : fits k g.kind ≡ true = fitting k g
    (back_nil (misfit w h) (misfit k g) (front_nil (arm w k h g) rest p)) in
    results-below w (joined i l) (joined k g.kind) js hs (below-joined i l k g.kind r b.1.0 e) b.1.1
    (back_nil (arm w k h g) rest p)

arms-of-below : (js : List Kind) (hs : List OperandHead) → AllBelow js (kinds hs) →
    words.arms_of hs ≡ [] → tree.arms_of js ≡ true
arms-of-below [] [] b p = refl
arms-of-below [] (h ∷ hs) b p = absurd b
arms-of-below (j ∷ js) [] b p = absurd b
arms-of-below (j ∷ js) (h ∷ hs) b p = arms-below j h.kind Null Null js hs b.0 (below-self Null) b.1
    p

results-of-below : (js : List Kind) (hs : List OperandHead) → AllBelow js (kinds hs) →
    words.arms_of hs ≡ [] → Below (tree.kind_of_arms_of js) (words.kind_of_arms_of hs)
results-of-below [] [] b p = inl refl
results-of-below [] (h ∷ hs) b p = absurd b
results-of-below (j ∷ js) [] b p = absurd b
results-of-below (j ∷ js) (h ∷ hs) b p = results-below h.kind Null Null js hs (below-self Null) b.1
    p

-- ---- each word

word-typed : (operation : Operation) (hs : List OperandHead) (es : List BoundExpr) (a : Around)
    (js : List Kind) → asked operation hs ≡ [] → kinds_of a (map kind_of es) ≡ Some js →
    AllBelow js (kinds hs)
    → Has (kind_of (tree_of operation es) a) (given operation hs)
word-typed Plus hs es a js p t b = plus-typed es a js t (all-fit Integer js hs b p)
word-typed Minus hs es a js p t b = worked word.Negation es a js Integer t
    (all-fit Integer js hs b p) (inl refl)
word-typed Not hs es a js p t b = worked word.Opposite es a js Boolean t (all-fit Boolean js hs b p)
    (inl refl)
word-typed (Compare comparison) hs es a js p t b =
    worked (word.Comparing comparison) es a js Boolean t
    (alike-below Null Null js hs (below-self Null) b p) (inl refl)
word-typed (Is test) hs es a js p t b = tested test hs es a js p t b
word-typed (IsNot test) hs es a js p t b = opposite-typed (bound.Operation (word_of_test test) es) a
    (tested test hs es a js p t b)
word-typed In hs es a js p t b = worked word.AnyOf es a js Boolean t (like-first js hs b p)
    (inl refl)
word-typed NotIn hs es a js p t b = opposite-typed (bound.Operation word.AnyOf es) a
    (worked word.AnyOf es a js Boolean t (like-first js hs b p) (inl refl))
word-typed Modulo hs es a js p t b = worked word.Modulo es a js Integer t
    (all-fit Integer js hs b p) (inl refl)
word-typed CharLength hs es a js p t b = worked word.CharLength es a js Integer t
    (all-fit Text js hs b p) (inl refl)
word-typed Substring hs es a js p t b = worked word.Substring es a js Text t
    (in-turn (Text ∷ Integer ∷ Integer ∷ []) js hs b p) (inl refl)
word-typed (Cast to) hs es a js p t b =
    worked (word.Cast (type_of to)) es a js (kind_of_type (type_of to)) t
    (casts (kind_of_type (type_of to)) js hs b
    (back_nil (type_faults to) (no_cast_faults (kind_of_type (type_of to)) hs) p)) (inl refl)
word-typed Coalesce hs es a js p t b =
    worked word.Coalesce es a js (given Coalesce hs) t
    (alike-below Null Null js hs (below-self Null) b p)
    (common-below Null Null js hs (below-self Null) b p)
word-typed Case hs es a js p t b =
    worked word.Case es a js (given Case hs) t
    (arms-below Boolean Boolean Null Null js hs (below-self Boolean) (below-self Null) b p)
    (results-below Boolean Null Null js hs (below-self Null) b p)
word-typed CaseOf hs es a js p t b = worked word.CaseOf es a js (given CaseOf hs) t
    (arms-of-below js hs b p) (results-of-below js hs b p)

pub operation-typed : (at : Anchor) (operation : Operation) (so : Operands) (a : Around) →
    asked_of operation so ≡ [] → AreTyped so a → IsTyped (operated_typed at operation so) a
operation-typed at operation so a p t = word-typed operation so.heads so.trees a t.0 p t.1 t.2

-- ---- chains

-- one link without faults, and the head of the chain with it
link-step : (at : Anchor) (k : Kind) (left right : OperandHead) (os : List ChainOperator)
    (hs : List OperandHead) → left.free ≡ true → right.free ≡ true
    → link_faults k left right ++ links_faults at (linked at k left right) os hs ≡ []
    → (fits k left.kind ≡ true) × (fits k right.kind ≡ true) ×
    (links_faults at (head_of k at) os hs ≡ [])
link-step at k left right os hs f g p =
    let here : link_faults k left right ≡ [] =
    front_nil (link_faults k left right) (links_faults at (linked at k left right) os hs) p in
    let l : fits k left.kind ≡ true = fitting k left
    (front_nil (misfit k left) (misfit k right) here) in
    let r : fits k right.kind ≡ true = fitting k right
    (back_nil (misfit k left) (misfit k right) here) in
    let free : link_free k left right ≡ true =
    and_true (left.free && right.free) (fits k left.kind && fits k right.kind)
    (and_true left.free right.free f g) (and_true (fits k left.kind) (fits k right.kind) l r) in (
      l,
      r,
      subst (λ c. links_faults at (settled c (head_of k at)) os hs ≡ []) free
          (back_nil (link_faults k left right) (links_faults at (linked at k left right) os hs) p),
    )

not-truth : (operator : Operator) → fits Boolean (kind_of_operator operator) ≡ true → ⊥
not-truth Add f = cc
not-truth Subtract f = cc
not-truth Multiply f = cc
not-truth Divide f = cc
not-truth Concatenate f = cc

not-value : (operator : Operator) → fits (kind_of_operator operator) Boolean ≡ true → ⊥
not-value Add f = cc
not-value Subtract f = cc
not-value Multiply f = cc
not-value Divide f = cc
not-value Concatenate f = cc

-- after a truth value there are truth values alone
truths : (at : Anchor) (os : List ChainOperator) (hs : List OperandHead) (js : List Kind) →
    list_all (λ h. h.free) hs ≡ true → length os ≡ length hs →
    links_faults at (head_of Boolean at) os hs ≡ []
    → AllBelow js (kinds hs) → (all_fit Boolean js ≡ true) × (kind_of_chain Boolean os ≡ Boolean)
truths at [] [] [] fs n p b = (refl, refl)
truths at [] [] (j ∷ js) fs n p b = absurd b
truths at [] (h ∷ hs) js fs n p b = absurd (omega arith)
truths at (o ∷ os) [] js fs n p b = absurd (omega arith)
truths at (o ∷ os) (h ∷ hs) [] fs n p b = absurd b
truths at (Or ∷ os) (h ∷ hs) (j ∷ js) fs n p b =
    let s : (true ≡ true) × (fits Boolean h.kind ≡ true) ×
    (links_faults at (head_of Boolean at) os hs ≡ []) =
    link-step at Boolean (head_of Boolean at) h os hs refl
    (left_true h.free (list_all (λ h. h.free) hs) fs) p in
    let r : (all_fit Boolean js ≡ true) × (kind_of_chain Boolean os ≡ Boolean) =
    truths at os hs js (right_true h.free (list_all (λ h. h.free) hs) fs) (omega arith) s.2
    b.1 in
    (and_true (fits Boolean j) (all_fit Boolean js) (fits-below Boolean j h.kind b.0 s.1) r.0, r.1)
truths at (And ∷ os) (h ∷ hs) (j ∷ js) fs n p b =
    let s : (true ≡ true) × (fits Boolean h.kind ≡ true) ×
    (links_faults at (head_of Boolean at) os hs ≡ []) =
    link-step at Boolean (head_of Boolean at) h os hs refl
    (left_true h.free (list_all (λ h. h.free) hs) fs) p in
    let r : (all_fit Boolean js ≡ true) × (kind_of_chain Boolean os ≡ Boolean) =
    truths at os hs js (right_true h.free (list_all (λ h. h.free) hs) fs) (omega arith) s.2
    b.1 in
    (and_true (fits Boolean j) (all_fit Boolean js) (fits-below Boolean j h.kind b.0 s.1) r.0, r.1)
truths at (Value operator ∷ os) (h ∷ hs) (j ∷ js) fs n p b =
    absurd (not-value operator ((link-step at (kind_of_operator operator) (head_of Boolean at) h os
    hs refl (left_true h.free (list_all (λ h. h.free) hs) fs) p).0))

-- the operands of OR and AND
word-chain : (at : Anchor) (left : OperandHead) (os : List ChainOperator) (h : OperandHead)
    (hs : List OperandHead) (i j : Kind) (js : List Kind) → left.free ≡ true →
    list_all (λ h. h.free) (h ∷ hs) ≡ true
    → length os ≡ length hs → link_faults Boolean left h ++ links_faults at
    (linked at Boolean left h) os hs ≡ [] → Below i left.kind →
    AllBelow (j ∷ js) (kinds (h ∷ hs))
    → (all_fit Boolean (i ∷ j ∷ js) ≡ true) × (kind_of_chain Boolean os ≡ Boolean)
word-chain at left os h hs i j js f fs n p q b =
    let s : (fits Boolean left.kind ≡ true) × (fits Boolean h.kind ≡ true) ×
    (links_faults at (head_of Boolean at) os hs ≡ []) =
    link-step at Boolean left h os hs f (left_true h.free (list_all (λ h. h.free) hs) fs) p in
    let r : (all_fit Boolean js ≡ true) × (kind_of_chain Boolean os ≡ Boolean) =
    truths at os hs js (right_true h.free (list_all (λ h. h.free) hs) fs) n s.2 b.1 in (
      and_true (fits Boolean i) (all_fit Boolean (j ∷ js)) (fits-below Boolean i left.kind q s.0)
          (and_true (fits Boolean j) (all_fit Boolean js) (fits-below Boolean j h.kind b.0 s.1)
          r.0),
      r.1,
    )

-- a chain with one link more in front
link-typed : (operator : Operator) (e : BoundExpr) (ls : List LinkKind) (a : Around)
    (i j k : Kind) → kind_of e a ≡ Some j → operator_allows operator i j ≡ true →
    chain_kind a (kind_of_operator operator) ls ≡ Some k
    → chain_kind a i (kind_of_link (link_of operator e) ∷ ls) ≡ Some k
link-typed operator e ls a i j k t p q =
    ap (λ (l : LinkKind). chain_kind a i (l ∷ ls)) (link-kind operator e)
    ∙ some-then (kind_of e a) (λ x. only_if (operator_allows operator i x)
    (chain_kind a (kind_of_operator operator) ls)) j (Some k) t
    (ap (λ c. only_if c (chain_kind a (kind_of_operator operator) ls)) p ∙ q)

no-operands : (h : OperandHead) (hs : List OperandHead) (js : List Kind) → Some [] ≡ Some js →
    AllBelow js (kinds (h ∷ hs)) → ⊥
no-operands h hs [] t b = b
no-operands h hs (j ∷ js) t b = cc

-- after the value of an operator
links-typed : (at : Anchor) (operator : Operator) (os : List ChainOperator) (hs : List OperandHead)
    (es : List BoundExpr) (js : List Kind) (a : Around) → list_all (λ h. h.free) hs ≡ true →
    length os ≡ length hs
    → links_faults at (head_of (kind_of_operator operator) at) os hs ≡ [] →
    kinds_of a (map kind_of es) ≡ Some js → AllBelow js (kinds hs)
    → chain_kind a (kind_of_operator operator) (map kind_of_link (links_of os es)) ≡
    Some (kind_of_chain (kind_of_operator operator) os)
links-typed at operator [] hs es js a fs n p t b = refl
links-typed at operator (o ∷ os) [] es js a fs n p t b = absurd (omega arith)
links-typed at operator (o ∷ os) (h ∷ hs) [] js a fs n p t b = absurd (no-operands h hs js t b)
links-typed at operator (Or ∷ os) (h ∷ hs) (e ∷ es) js a fs n p t b =
    absurd (not-truth operator ((link-step at Boolean (head_of (kind_of_operator operator) at) h os
    hs refl (left_true h.free (list_all (λ h. h.free) hs) fs) p).0))
links-typed at operator (And ∷ os) (h ∷ hs) (e ∷ es) js a fs n p t b =
    absurd (not-truth operator ((link-step at Boolean (head_of (kind_of_operator operator) at) h os
    hs refl (left_true h.free (list_all (λ h. h.free) hs) fs) p).0))
links-typed at operator (Value next ∷ os) (h ∷ hs) (e ∷ es) js a fs n p t b =
    let s : (fits (kind_of_operator next) (kind_of_operator operator) ≡ true) ×
    (fits (kind_of_operator next) h.kind ≡ true) ×
    (links_faults at (head_of (kind_of_operator next) at) os hs ≡ []) =
    link-step at (kind_of_operator next) (head_of (kind_of_operator operator) at) h os hs refl
    (left_true h.free (list_all (λ h. h.free) hs) fs) p in
    let c : (j : Kind) × (ks : List Kind) × (kind_of e a ≡ Some j) ×
    (kinds_of a (map kind_of es) ≡ Some ks) × (js ≡ j ∷ ks) =
    kinds-parts a (kind_of e) (map kind_of es) js t in
    let below : AllBelow (c.0 ∷ c.1) (kinds (h ∷ hs)) =
    subst (λ ks. AllBelow ks (kinds (h ∷ hs))) c.4 b in
    link-typed next e (map kind_of_link (links_of os es)) a (kind_of_operator operator) c.0
    (kind_of_chain (kind_of_operator next) os) c.2
    (and_true (fits (kind_of_operator next) (kind_of_operator operator))
    (fits (kind_of_operator next) c.0) s.0
    (fits-below (kind_of_operator next) c.0 h.kind below.0 s.1))
    (links-typed at next os hs es c.1 a (right_true h.free (list_all (λ h. h.free) hs) fs)
    (omega arith) s.2 c.3 below.1)

chained : (at : Anchor) (operators : List ChainOperator) (left : OperandHead) (first : BoundExpr)
    (hs : List OperandHead) (es : List BoundExpr) (js : List Kind) (a : Around) → left.free ≡ true
    → list_all (λ h. h.free) hs ≡ true → length operators ≡ length hs →
    links_faults at left operators hs ≡ [] → Has (kind_of first a) left.kind →
    kinds_of a (map kind_of es) ≡ Some js → AllBelow js (kinds hs)
    → Has (kind_of (chain_of first operators es) a) (kind_of_chain left.kind operators)
chained at [] left first hs es js a f fs n p t ts b = t
chained at (o ∷ os) left first [] es js a f fs n p t ts b = absurd (omega arith)
chained at (o ∷ os) left first (h ∷ hs) es [] a f fs n p t ts b = absurd b
chained at (Or ∷ os) left first (h ∷ hs) es (j ∷ js) a f fs n p t ts b =
    let r : (all_fit Boolean (t.0 ∷ j ∷ js) ≡ true) × (kind_of_chain Boolean os ≡ Boolean) =
    word-chain at left os h hs t.0 j js f fs (omega arith) p t.2 b in
    worked word.Or (first ∷ es) a (t.0 ∷ j ∷ js) (kind_of_chain Boolean os)
    (kinds-both a (kind_of first) (map kind_of es) t.0 (j ∷ js) t.1 ts) r.0 (inl (sym r.1))
chained at (And ∷ os) left first (h ∷ hs) es (j ∷ js) a f fs n p t ts b =
    let r : (all_fit Boolean (t.0 ∷ j ∷ js) ≡ true) × (kind_of_chain Boolean os ≡ Boolean) =
    word-chain at left os h hs t.0 j js f fs (omega arith) p t.2 b in
    worked word.And (first ∷ es) a (t.0 ∷ j ∷ js) (kind_of_chain Boolean os)
    (kinds-both a (kind_of first) (map kind_of es) t.0 (j ∷ js) t.1 ts) r.0 (inl (sym r.1))
chained at (Value operator ∷ os) left first (h ∷ hs) [] (j ∷ js) a f fs n p t ts b =
    absurd (no-operands h hs (j ∷ js) ts b)
chained at (Value operator ∷ os) left first (h ∷ hs) (e ∷ es) (j ∷ js) a f fs n p t ts b =
    let s : (fits (kind_of_operator operator) left.kind ≡ true) ×
    (fits (kind_of_operator operator) h.kind ≡ true) ×
    (links_faults at (head_of (kind_of_operator operator) at) os hs ≡ []) =
    link-step at (kind_of_operator operator) left h os hs f
    (left_true h.free (list_all (λ h. h.free) hs) fs) p in
    let c : (i : Kind) × (ks : List Kind) × (kind_of e a ≡ Some i) ×
    (kinds_of a (map kind_of es) ≡ Some ks) × (j ∷ js ≡ i ∷ ks) =
    kinds-parts a (kind_of e) (map kind_of es) (j ∷ js) ts in
    let below : AllBelow (c.0 ∷ c.1) (kinds (h ∷ hs)) =
    subst (λ ks. AllBelow ks (kinds (h ∷ hs))) c.4 b in
    let links : chain_kind a t.0 (map kind_of_link (links_of (Value operator ∷ os) (e ∷ es))) ≡
    Some (kind_of_chain (kind_of_operator operator) os) =
    link-typed operator e (map kind_of_link (links_of os es)) a t.0 c.0
    (kind_of_chain (kind_of_operator operator) os) c.2
    (and_true (fits (kind_of_operator operator) t.0) (fits (kind_of_operator operator) c.0)
    (fits-below (kind_of_operator operator) t.0 left.kind t.2 s.0)
    (fits-below (kind_of_operator operator) c.0 h.kind below.0 s.1))
    (links-typed at operator os hs es c.1 a (right_true h.free (list_all (λ h. h.free) hs) fs)
    (omega arith) s.2 c.3 below.1) in (
      kind_of_chain (kind_of_operator operator) os,
      chain-kind first (links_of (Value operator ∷ os) (e ∷ es)) a
          ∙ some-then (kind_of first a) (λ k. chain_kind a k
          (map kind_of_link (links_of (Value operator ∷ os) (e ∷ es)))) t.0
          (Some (kind_of_chain (kind_of_operator operator) os)) t.1 links,
      inl refl,
    )

-- no operand has a fault inside, and there are as many as operators
pub chain-typed : (operators : List ChainOperator) (places : List Anchor) (first : Typed)
    (so : Operands) (a : Around)
    → first.head.free ≡ true → list_all (λ h. h.free) so.heads ≡ true →
    length operators ≡ length so.heads
    → asked_by_chain operators places first so ≡ [] → IsTyped first a → AreTyped so a →
    IsTyped (chained_typed operators places first so) a
chain-typed operators places first so a f fs n p t ts =
    chained (chain_place first.head.at places) operators first.head first.tree so.heads so.trees
    ts.0 a f fs n p t ts.1 ts.2
