-- Kinds of scalars, of nodes and of steps over a row of registers: a step keeps each column's kind.
use Rattle.std.proofs.Common.{◌≡◌, ℕ, zero, suc, ◌+◌, Bool, true, false, cond, ◌&&◌, List, []}
use Rattle.std.proofs.Common.{◌∷◌, ◌++◌, length, drop, slice_set, refl, sym, ap, ◌∙◌, subst}
use Rattle.std.proofs.Common.{arith, append_assoc}
use Rattle.std.proofs.lemmas.List.{append-nil}
use Rattle.sql_values.specs.declared.value.SqlType.{SqlType}
use Rattle.sql_values.specs.declared.value.SqlType.TheVariants.{Integer, Varchar, Boolean}
use Rattle.rel_algebra.specs.Emit.{joined_nodes, assigning, read, all_values}
use Rattle.rel_algebra.specs.Joins.{places}
use Rattle.rel_algebra.specs.Kinds.{BooleanKind, DataKind, IntegerKind, Kinds, NullKind, TextKind}
use Rattle.rel_algebra.specs.Kinds.{agree, apply_kinds, assigned_kind, found_kinds}
use Rattle.rel_algebra.specs.Kinds.{is_test, joined_kind, kind_at, kind_good, kinds_at, nodes_good}
use Rattle.rel_algebra.specs.Kinds.{nodes_kinds, scalar_good, scalar_kind}
use Rattle.rel_algebra.specs.Kinds.{scalars_good, scalars_kinds, table_widths, takes, tree_good}
use Rattle.rel_algebra.specs.Kinds.{tree_kinds, type_kind, way_good, word_good, word_kind}
use Rattle.rel_algebra.specs.Plan.{Nodes, no_node, extend_by, apply_by, Scalar, Scalars, none, more}
use Rattle.rel_algebra.specs.Plan.{word, Word, and_word, case_word, PlanTree, extend, keep}
use Rattle.rel_algebra.specs.Plan.{on_each, Way, anew, once, lookup}
use Rattle.rel_algebra.proofs.Truths.{and_true, left_true, right_true}
use Rattle.rel_algebra.proofs.KindNodes.{KindsRead, PlanIs, Yields, after_grow, after_join}
use Rattle.rel_algebra.proofs.KindNodes.{good_join, kinds_wider, on_each_is}
use Rattle.rel_algebra.proofs.KindRows.{KindsGrow, first_kinds_columns}
use Rattle.rel_algebra.proofs.KindRows.{kinds_grow_trans, kinds_grown_column}
use Rattle.rel_algebra.proofs.KindWords.{Has, HaveAll, all_values_has, assigning_first_has, tested}
use Rattle.rel_algebra.specs.BodyChain.{place_at, column_at, reading, emitted, with_column}
use Rattle.rel_algebra.specs.BodyChain.{with_columns}
use Rattle.rel_algebra.specs.BodyDispatch.{Env}
use Rattle.rel_algebra.specs.Kinds.{Tables, type_kinds}
use Rattle.rel_algebra.specs.Leaves.{ValueLeaf}
use Rattle.rel_algebra.specs.BodySteps.{asked_when, Step, grow, fat, Store, store, steps_tree}
use Rattle.rel_algebra.specs.BodySteps.{is_sure}
use Rattle.rel_algebra.specs.BodySteps.{asked_at, code_is, case_of, guarded, placed, acts, jump}
use Rattle.rel_algebra.specs.BodySteps.{only, two}
use Rattle.rel_algebra.specs.BodySteps.{col, tag}
use Rattle.rel_algebra.proofs.BodyBase.{both}
use Rattle.rel_algebra.proofs.BodyKindsHeld.{ValueKinds}

-- the kinds of the tables, of the rows outside and of the arguments, and the type of the result
pub record Around : Type 0 where
  pub tables : Tables
  pub outer : List Kinds
  pub args : Kinds
  pub returns : SqlType

-- a scalar on rows of kinds q
abbrev pub Is : Around → Scalar → Kinds → DataKind → Type 0
Is A s q k = Has s (q ∷ A.outer) A.args k

-- the same of several
abbrev pub AreAll : Around → Scalars → Kinds → Kinds → Type 0
AreAll A ss q kk = HaveAll ss (q ∷ A.outer) A.args kk

-- nodes over rows of kinds r
abbrev pub Good : Around → Nodes → Kinds → Type 0
Good A nodes r = nodes_good nodes A.tables r A.outer A.args ≡ true

-- the row after them
abbrev pub after : Around → Nodes → Kinds → Kinds
after A nodes r = nodes_kinds nodes A.tables r A.outer A.args

-- ---- kinds of types

pub never_null : (t : SqlType) → NullKind ≡ type_kind t → ⊥
never_null Integer h = cc
never_null (Varchar n) h = cc
never_null Boolean h = cc

pub same_agrees : (t : SqlType) → agree (type_kind t) (type_kind t) ≡ true
same_agrees Integer = refl
same_agrees (Varchar n) = refl
same_agrees Boolean = refl

-- what a column of a type takes leaves its kind
pub joined_takes : (k : DataKind) (t : SqlType) → agree k (type_kind t) ≡ true →
    joined_kind k (type_kind t) ≡ type_kind t
joined_takes NullKind t h = refl
joined_takes IntegerKind Integer h = refl
joined_takes IntegerKind (Varchar n) h = absurd cc
joined_takes IntegerKind Boolean h = absurd cc
joined_takes TextKind Integer h = absurd cc
joined_takes TextKind (Varchar n) h = refl
joined_takes TextKind Boolean h = absurd cc
joined_takes BooleanKind Integer h = absurd cc
joined_takes BooleanKind (Varchar n) h = absurd cc
joined_takes BooleanKind Boolean h = refl

-- what a target of the type takes of it, it takes too
pub assigned_agrees : (t : SqlType) (k : DataKind) → agree k (type_kind t) ≡ true →
    agree (assigned_kind t k) (type_kind t) ≡ true
assigned_agrees Integer k h = h
assigned_agrees (Varchar n) k h = refl
assigned_agrees Boolean k h = h

pub agrees_takes : (t : SqlType) (k : DataKind) → agree k (type_kind t) ≡ true → takes t k ≡ true
agrees_takes Integer k h = refl
agrees_takes (Varchar n) k h = h
agrees_takes Boolean k h = refl

-- a column of a type keeps its kind in a wider row
pub kind_on : (r x : Kinds) (i : ℕ) (t : SqlType) → kind_at r i ≡ type_kind t →
    kind_at (r ++ x) i ≡ type_kind t
kind_on [] x i t h = absurd (never_null t h)
kind_on (k ∷ r) x zero t h = h
kind_on (k ∷ r) x (suc i) t h = kind_on r x i t h

pub kind_grows : (r z : Kinds) (i : ℕ) (t : SqlType) → KindsGrow r z → kind_at r i ≡ type_kind t →
    kind_at z i ≡ type_kind t
kind_grows r z i t g h =
    subst (λ (j : Kinds). kind_at j i ≡ type_kind t) g.1 (kind_on r g.0 i t h)

-- ---- scalars

pub column_is : (A : Around) (q : Kinds) (i : ℕ) → Is A (col i) q (kind_at q i)
column_is A q i = (refl, refl)

pub more_are : (A : Around) (s : Scalar) (ss : Scalars) (q : Kinds) (k : DataKind) (kk : Kinds) →
    Is A s q k → AreAll A ss q kk → AreAll A (more s ss) q (k ∷ kk)
more_are A s ss q k kk p h = (
  both (λ (x : DataKind) (xs : Kinds). x ∷ xs) _ _ _ _ p.0 h.0,
  and_true (scalar_good s (q ∷ A.outer) A.args) (scalars_good ss (q ∷ A.outer) A.args) p.1 h.1,
)

pub two_are : (A : Around) (s t : Scalar) (q : Kinds) (a b : DataKind) → Is A s q a → Is A t q b →
    AreAll A (two s t) q (a ∷ b ∷ [])
two_are A s t q a b p h =
    more_are A s (only t) q a (b ∷ []) p (more_are A t none q b [] h (refl, refl))

pub word_is : (A : Around) (w : Word) (ss : Scalars) (q kk : Kinds) → AreAll A ss q kk →
    word_good w kk ≡ true → Is A (word w ss) q (word_kind w kk)
word_is A w ss q kk h g = (
  ap (word_kind w) h.0,
  and_true (scalars_good ss (q ∷ A.outer) A.args)
      (word_good w (scalars_kinds ss (q ∷ A.outer) A.args)) h.1 (ap (word_good w) h.0 ∙ g),
)

pub code_good : (A : Around) (k : ℕ) (q : Kinds) → kind_at q 0 ≡ IntegerKind →
    Is A (code_is k) q BooleanKind
code_good A k q h = (refl, ap (λ (j : DataKind). agree j IntegerKind) h)

pub case_is : (A : Around) (a b c : Scalar) (q : Kinds) (j k : DataKind) → Is A a q BooleanKind →
    Is A b q j → Is A c q k → agree j k ≡ true → Is A (case_of a b c) q (joined_kind j k)
case_is A a b c q j k p x y h =
    word_is A case_word (more a (two b c)) q (BooleanKind ∷ j ∷ k ∷ [])
    (more_are A a (two b c) q BooleanKind (j ∷ k ∷ []) p (two_are A b c q j k x y))
    (and_true (agree j k) true h refl)

pub assigning_is : (A : Around) (t : SqlType) (s : Scalar) (q : Kinds) (k : DataKind) →
    Is A s q k → agree k (type_kind t) ≡ true → Is A (assigning t s) q (assigned_kind t k)
assigning_is A t s q k h g =
    assigning_first_has (t ∷ []) s (q ∷ A.outer) A.args k h (agrees_takes t k g)

-- ---- nodes

pub asked_after : (A : Around) (k : ℕ) (nodes : Nodes) (r : Kinds) →
    after A (asked_at k nodes) r ≡ after A nodes r
asked_after A k no_node r = refl
asked_after A k (extend_by ss rest) r =
    asked_after A k rest (r ++ scalars_kinds ss (r ∷ A.outer) A.args)
asked_after A k (apply_by when kind way inner rest) r =
    asked_after A k rest (r ++ apply_kinds kind
    (found_kinds way (tree_kinds inner A.tables (r ∷ A.outer) A.args)))

when_good : (A : Around) (k : ℕ) (when : Scalar) (r : Kinds) (b : Bool) →
    kind_at r 0 ≡ IntegerKind → is_test when (r ∷ A.outer) A.args ≡ true →
    is_test (cond b (code_is k) (word and_word (two (code_is k) when))) (r ∷ A.outer) A.args ≡ true
when_good A k when r true h g =
    tested (code_is k) (r ∷ A.outer) A.args BooleanKind (code_good A k r h) refl
when_good A k when r false h g =
    let ks = r ∷ A.outer in let j = scalar_kind when ks A.args in
    let x = scalar_good when ks A.args in let y = agree j BooleanKind in
    tested (word and_word (two (code_is k) when)) ks A.args BooleanKind
    (word_is A and_word (two (code_is k) when) r (BooleanKind ∷ j ∷ [])
    (two_are A (code_is k) when r BooleanKind j (code_good A k r h) (refl, left_true x y g))
    (and_true y true (right_true x y g) refl)) refl

asked_is : (A : Around) (k : ℕ) (when : Scalar) (r : Kinds) (way : Way) →
    kind_at r 0 ≡ IntegerKind → is_test when (r ∷ A.outer) A.args ≡ true →
    is_test (asked_when way k when) (r ∷ A.outer) A.args ≡ true
asked_is A k when r anew h g = when_good A k when r (is_sure when) h g
asked_is A k when r once h g = g
asked_is A k when r (lookup keys) h g = when_good A k when r (is_sure when) h g

pub asked_good : (A : Around) (k : ℕ) (nodes : Nodes) (r : Kinds) → kind_at r 0 ≡ IntegerKind →
    Good A nodes r → Good A (asked_at k nodes) r
asked_good A k no_node r h p = p
asked_good A k (extend_by ss rest) r h p =
    let x = scalars_good ss (r ∷ A.outer) A.args in
    let j = r ++ scalars_kinds ss (r ∷ A.outer) A.args in
    let y = nodes_good rest A.tables j A.outer A.args in
    and_true x (nodes_good (asked_at k rest) A.tables j A.outer A.args) (left_true x y p)
    (asked_good A k rest j (kind_on r (scalars_kinds ss (r ∷ A.outer) A.args) 0 Integer h)
    (right_true x y p))
asked_good A k (apply_by when kind way inner rest) r h p =
    let ks = r ∷ A.outer in let found = tree_kinds inner A.tables ks A.args in
    let w = is_test when ks A.args in let w' = is_test (asked_when way k when) ks A.args in
    let wg = way_good way found ks A.args in
    let kd = kind_good kind (found_kinds way found) ks A.args in
    let t = tree_good inner A.tables ks A.args in
    let x = apply_kinds kind (found_kinds way found) in let j = r ++ x in
    let y = nodes_good rest A.tables j A.outer A.args in
    let y' = nodes_good (asked_at k rest) A.tables j A.outer A.args in
    let front = left_true (w && (wg && kd)) (t && y) p in
    let back = right_true (w && (wg && kd)) (t && y) p in
    and_true (w' && (wg && kd)) (t && y')
    (and_true w' (wg && kd) (asked_is A k when r way h (left_true w (wg && kd) front))
    (right_true w (wg && kd) front))
    (and_true t y' (left_true t y back)
    (asked_good A k rest j (kind_on r x 0 Integer h) (right_true t y back)))

-- one column more
pub one_good : (A : Around) (nodes : Nodes) (s : Scalar) (r : Kinds) (k : DataKind) →
    Good A nodes r → Is A s (after A nodes r) k → Good A (with_column nodes s) r
one_good A nodes s r k p h =
    good_join nodes (extend_by (only s) no_node) A.tables r A.outer A.args p
    (and_true (scalars_good (only s) (after A nodes r ∷ A.outer) A.args) true
    (and_true (scalar_good s (after A nodes r ∷ A.outer) A.args) true h.1 refl) refl)

pub one_after : (A : Around) (nodes : Nodes) (s : Scalar) (r : Kinds) (k : DataKind) →
    Is A s (after A nodes r) k → after A (with_column nodes s) r ≡ after A nodes r ++ k ∷ []
one_after A nodes s r k h = after_join nodes (extend_by (only s) no_node) A.tables r A.outer A.args
    ∙ ap (λ (j : DataKind). after A nodes r ++ j ∷ []) h.0

-- columns, and the test of some of them
pub more_good : (A : Around) (nodes : Nodes) (ss : Scalars) (is : List ℕ) (r kk : Kinds) →
    Good A nodes r → AreAll A ss (after A nodes r) kk → Good A (with_columns nodes ss is) r
more_good A nodes ss is r kk p h =
    let q = after A nodes r in
    let q' = q ++ scalars_kinds ss (q ∷ A.outer) A.args in
    let test = all_values_has is (q' ∷ A.outer) A.args in
    good_join nodes (extend_by ss (extend_by (only (all_values is)) no_node)) A.tables r A.outer
    A.args p
    (and_true (scalars_good ss (q ∷ A.outer) A.args) _ h.1
    (and_true (scalars_good (only (all_values is)) (q' ∷ A.outer) A.args) true
    (and_true (scalar_good (all_values is) (q' ∷ A.outer) A.args) true test.1 refl) refl))

pub more_after : (A : Around) (nodes : Nodes) (ss : Scalars) (is : List ℕ) (r kk : Kinds) →
    AreAll A ss (after A nodes r) kk →
    after A (with_columns nodes ss is) r ≡ (after A nodes r ++ kk) ++ BooleanKind ∷ []
more_after A nodes ss is r kk h =
    after_join nodes (extend_by ss (extend_by (only (all_values is)) no_node)) A.tables r A.outer
    A.args
    ∙ ap (λ (js : Kinds). (after A nodes r ++ js) ++ BooleanKind ∷ []) h.0

-- ---- steps

-- each operand has its kind, and the row after it has the kinds j
abbrev pub StepIs : Around → Step → Kinds → Kinds → Type 0
StepIs A (grow ss) r j = (scalars_good ss (r ∷ A.outer) A.args ≡ true)
    × (r ++ scalars_kinds ss (r ∷ A.outer) A.args ≡ j)
StepIs A (fat nodes is) r j = Good A nodes r × (kinds_at (after A nodes r) is ≡ j)

-- from rows of kinds r to rows of kinds s
abbrev pub Goes : Around → List Step → Kinds → Kinds → Type 0
Goes A [] r s = r ≡ s
Goes A (x ∷ xs) r s = (j : Kinds) × StepIs A x r j × Goes A xs j s

pub goes_append : (A : Around) (a b : List Step) (r j s : Kinds) → Goes A a r j → Goes A b j s →
    Goes A (a ++ b) r s
goes_append A [] b r j s p q = subst (λ (i : Kinds). Goes A b i s) (sym p) q
goes_append A (x ∷ a) b r j s p q = (p.0, p.1, goes_append A a b p.0 j s p.2 q)

pub steps_are : (A : Around) (ss : List Step) (t : PlanTree) (r s : Kinds) →
    PlanIs t A.tables A.outer A.args r → Goes A ss r s →
    PlanIs (steps_tree ss t) A.tables A.outer A.args s
steps_are A [] t r s p g = (p.0, p.1 ∙ g)
steps_are A (grow cs ∷ ss) t r s p g =
    steps_are A ss (extend cs t) g.0 s (
      and_true (scalars_good cs (tree_kinds t A.tables A.outer A.args ∷ A.outer) A.args)
          (tree_good t A.tables A.outer A.args)
          (ap (λ (j : Kinds). scalars_good cs (j ∷ A.outer) A.args) p.1 ∙ g.1.0) p.0,
      ap (λ (j : Kinds). j ++ scalars_kinds cs (j ∷ A.outer) A.args) p.1 ∙ g.1.1,
    ) g.2
steps_are A (fat nodes is ∷ ss) t r s p g =
    let x = on_each_is nodes t A.tables r A.outer A.args g.1.0 p in
    steps_are A ss (keep is (on_each nodes t)) g.0 s
    (x.0, ap (λ (j : Kinds). kinds_at j is) x.1 ∙ g.1.1) g.2

-- ---- stores

-- a new cell of a kind that its column takes
pub record StoreIs (A : Around) (x : Store) (q : Kinds) : Type 0 where
  pub data_type : SqlType
  pub kind : DataKind
  pub old : kind_at q x.column ≡ type_kind data_type
  pub new : Is A x.new q kind
  pub takes : agree kind (type_kind data_type) ≡ true

abbrev pub StoresAre : Around → List Store → Kinds → Type 0
StoresAre A [] q = Unit {0}
StoresAre A (x ∷ xs) q = StoreIs A x q × StoresAre A xs q

pub stores_append : (A : Around) (xs ys : List Store) (q : Kinds) → StoresAre A xs q →
    StoresAre A ys q → StoresAre A (xs ++ ys) q
stores_append A [] ys q p h = h
stores_append A (x ∷ xs) ys q p h = (p.0, stores_append A xs ys q p.1 h)

-- the kinds of the columns in which they are stored
abbrev olds : List Store → Kinds → Kinds
olds [] q = []
olds (x ∷ xs) q = kind_at q x.column ∷ olds xs q

guarded_are : (A : Around) (k : ℕ) (xs : List Store) (q : Kinds) → kind_at q 0 ≡ IntegerKind →
    StoresAre A xs q → AreAll A (guarded k xs) q (olds xs q)
guarded_are A k [] q h s = (refl, refl)
guarded_are A k (x ∷ xs) q h s =
    let c = kind_at q x.column in let t = s.0.data_type in let j = s.0.kind in
    let a : agree j c ≡ true = ap (agree j) s.0.old ∙ s.0.takes in
    let e : joined_kind j c ≡ c = ap (joined_kind j) s.0.old
    ∙ (joined_takes j t s.0.takes ∙ sym s.0.old) in
    let h1 = case_is A (code_is k) x.new (col x.column) q j c (code_good A k q h) s.0.new
    (column_is A q x.column) a in
    more_are A (case_of (code_is k) x.new (col x.column)) (guarded k xs) q c (olds xs q)
    (h1.0 ∙ e, h1.1) (guarded_are A k xs q h s.1)

pub kinds_at_append : (row : Kinds) (a b : List ℕ) →
    kinds_at row (a ++ b) ≡ kinds_at row a ++ kinds_at row b
kinds_at_append row [] b = refl
kinds_at_append row (i ∷ a) b = ap (λ (js : Kinds). kind_at row i ∷ js) (kinds_at_append row a b)

kinds_at_set : (row : Kinds) (is : List ℕ) (x i : ℕ) →
    kinds_at row (slice_set is x i) ≡ slice_set (kinds_at row is) x (kind_at row i)
kinds_at_set row [] x i = refl
kinds_at_set row (p ∷ is) zero i = refl
kinds_at_set row (p ∷ is) (suc x) i =
    ap (λ (js : Kinds). kind_at row p ∷ js) (kinds_at_set row is x i)

set_kept : (r x : Kinds) (i : ℕ) → slice_set r i (kind_at (r ++ x) i) ≡ r
set_kept [] x i = refl
set_kept (k ∷ r) x zero = refl
set_kept (k ∷ r) x (suc i) = ap (λ (js : Kinds). k ∷ js) (set_kept r x i)

set_grown : (r q : Kinds) (i : ℕ) → KindsGrow r q → slice_set r i (kind_at q i) ≡ r
set_grown r q i g =
    subst (λ (j : Kinds). slice_set r i (kind_at j i) ≡ r) g.1 (set_kept r g.0 i)

-- stored in a row that grew, they leave it as it was
pub placed_kinds : (xs : List Store) (m : ℕ) (is : List ℕ) (r q z Q : Kinds) → KindsGrow r q →
    length z ≡ m → KindsGrow (z ++ olds xs q) Q → kinds_at Q is ≡ r →
    kinds_at Q (placed xs m is) ≡ r
placed_kinds [] m is r q z Q g l w h = h
placed_kinds (x ∷ xs) m is r q z Q g l w h =
    let c = kind_at q x.column in let rest = olds xs q in
    let e : (z ++ c ∷ []) ++ rest ≡ z ++ c ∷ rest = append_assoc z (c ∷ []) rest in
    let one : KindsGrow (z ++ c ∷ []) Q =
    kinds_grow_trans (z ++ c ∷ []) (z ++ c ∷ rest) Q (rest, e) w in
    let here : kind_at Q m ≡ c = kinds_grown_column z Q c m l one in
    placed_kinds xs (suc m) (slice_set is x.column m) r q (z ++ c ∷ []) Q g
    (kinds_wider z (c ∷ []) m 1 l refl ∙ (let s : m + 1 ≡ suc m = omega arith in s))
    (w.0, ap (λ (j : Kinds). j ++ w.0) e ∙ w.1)
    (kinds_at_set Q is x.column m
    ∙ (both (λ (j : Kinds) (k : DataKind). slice_set j x.column k) _ _ _ _ h here
    ∙ set_grown r q x.column g))

-- ---- the row of registers

-- its registers have their kinds, and so have the variables of these types in these columns
pub record Stands (A : Around) (cs : List ℕ) (ts : List SqlType) (r : Kinds)
    (n : ℕ) : Type 0 where
  pub long : length r ≡ n
  pub code : kind_at r 0 ≡ IntegerKind
  pub result : kind_at r 1 ≡ type_kind A.returns
  pub area : kind_at r 2 ≡ BooleanKind
  pub columns : kinds_at r cs ≡ type_kinds ts

pub columns_on : (r x : Kinds) (cs : List ℕ) (ts : List SqlType) → kinds_at r cs ≡ type_kinds ts →
    kinds_at (r ++ x) cs ≡ type_kinds ts
columns_on r x [] ts h = h
columns_on r x (c ∷ cs) [] h = absurd (longer (ap (λ (j : Kinds). length j) h))
  where
    longer : suc (length (kinds_at r cs)) ≡ 0 → ⊥
    longer e = omega (arith, e)
columns_on r x (c ∷ cs) (t ∷ ts) h = both (λ (j : DataKind) (js : Kinds). j ∷ js) _ _ _ _
    (kind_on r x c t (ap (λ (j : Kinds). kind_at j 0) h))
    (columns_on r x cs ts (ap (λ (j : Kinds). drop 1 j) h))

pub stands_on : (A : Around) (cs : List ℕ) (ts : List SqlType) (r q : Kinds) (n m : ℕ) →
    Stands A cs ts r n → KindsGrow r q → length q ≡ m → Stands A cs ts q m
stands_on A cs ts r q n m st g l = record {
  long = l;
  code = kind_grows r q 0 Integer g st.code;
  result = kind_grows r q 1 A.returns g st.result;
  area = kind_grows r q 2 Boolean g st.area;
  columns = subst (λ (j : Kinds). kinds_at j cs ≡ type_kinds ts) g.1
      (columns_on r g.0 cs ts st.columns);
}

place_kind : (cs : List ℕ) (z : Kinds) (i : ℕ) (ks : List Kinds) (ps : Kinds) →
    scalar_kind (read (place_at cs i)) (z ∷ ks) ps ≡ kind_at (kinds_at z cs) i
place_kind [] z i ks ps = refl
place_kind (c ∷ cs) z zero ks ps = refl
place_kind (c ∷ cs) z (suc i) ks ps = place_kind cs z i ks ps

pub reading_kinds : (A : Around) (env : Env) (ts : List SqlType) (r : Kinds) (n : ℕ) →
    Stands A env.columns ts r n →
    KindsRead (reading env) r A.outer A.args [] (type_kinds ts)
reading_kinds A env ts r n st = λ z g. (
  λ d i. refl,
  λ i. place_kind env.columns z i A.outer A.args
      ∙ ap (λ (j : Kinds). kind_at j i)
      (subst (λ (j : Kinds). kinds_at j env.columns ≡ type_kinds ts) g.1
      (columns_on r g.0 env.columns ts st.columns)),
)

pub expr_is : (A : Around) (ts : List SqlType) (e : ValueLeaf) (k : DataKind) →
    ValueKinds A.tables (type_kinds ts) k e → (env : Env) (r : Kinds) (n : ℕ) →
    Stands A env.columns ts r n →
    Yields (emitted e (table_widths A.tables) env n) A.tables r A.outer A.args k
expr_is A ts e k s env r n st =
    s (reading env) r A.outer A.args n st.long (reading_kinds A env ts r n st)

-- where a variable of a type is stored
slot_kind : (cs : List ℕ) (n x : ℕ) (q : Kinds) (t : SqlType) →
    kind_at (kinds_at q cs) x ≡ type_kind t → kind_at q (column_at n cs x) ≡ type_kind t
slot_kind [] n x q t h = absurd (never_null t h)
slot_kind (c ∷ cs) n zero q t h = h
slot_kind (c ∷ cs) n (suc x) q t h = slot_kind cs n x q t h

pub slot_is : (A : Around) (cs : List ℕ) (ts : List SqlType) (q : Kinds) (m n x : ℕ)
    (t : SqlType) → Stands A cs ts q m → kind_at (type_kinds ts) x ≡ type_kind t →
    kind_at q (column_at n cs x) ≡ type_kind t
slot_is A cs ts q m n x t st h =
    slot_kind cs n x q t (ap (λ (j : Kinds). kind_at j x) st.columns ∙ h)

-- ---- a step at a code

pub acts_are : (A : Around) (k : ℕ) (pre : Nodes) (m : ℕ) (xs : List Store) (n : ℕ)
    (extra : List ℕ) (cs : List ℕ) (ts : List SqlType) (r j : Kinds) → Stands A cs ts r n →
    Good A pre r → length (after A pre r) ≡ m → StoresAre A xs (after A pre r) →
    ((z : Kinds) → KindsGrow (after A pre r) z → kinds_at z extra ≡ j) →
    StepIs A (acts k pre m xs n extra) r (r ++ j)
acts_are A k pre m xs n extra cs ts r j st p w s ex =
    let q = after A pre r in let g = after_grow pre A.tables r A.outer A.args in
    let st' = stands_on A cs ts r q n m st g w in
    let news = guarded_are A k xs q st'.code s in
    let same = asked_after A k pre r in let add = extend_by (guarded k xs) no_node in
    let Q = after A (joined_nodes (asked_at k pre) add) r in
    let is : Q ≡ q ++ olds xs q =
    after_join (asked_at k pre) add A.tables r A.outer A.args
    ∙ (ap (λ (z : Kinds). z ++ scalars_kinds (guarded k xs) (z ∷ A.outer) A.args) same
    ∙ ap (λ (z : Kinds). q ++ z) news.0) in
    let wide : KindsGrow (q ++ olds xs q) Q = ([], append-nil (q ++ olds xs q) ∙ sym is) in
    let grown : KindsGrow q Q = (olds xs q, sym is) in (
      good_join (asked_at k pre) add A.tables r A.outer A.args (asked_good A k pre r st.code p)
          (subst (λ (z : Kinds). nodes_good add A.tables z A.outer A.args ≡ true) (sym same)
          (and_true (scalars_good (guarded k xs) (q ∷ A.outer) A.args) true news.1 refl)),
      kinds_at_append Q (placed xs m (places 0 n)) extra
          ∙ both (λ (a b : Kinds). a ++ b) _ _ _ _
          (placed_kinds xs m (places 0 n) r q q Q g w wide
          (first_kinds_columns r Q n st.long (kinds_grow_trans r q Q g grown)))
          (ex Q grown),
    )

-- one that keeps the row's kinds, and what comes after
pub then_goes : (A : Around) (k : ℕ) (pre : Nodes) (m : ℕ) (xs : List Store) (n : ℕ)
    (rest : List Step) (cs : List ℕ) (ts : List SqlType) (r s : Kinds) → Stands A cs ts r n →
    Good A pre r → length (after A pre r) ≡ m → StoresAre A xs (after A pre r) → Goes A rest r s →
    Goes A (acts k pre m xs n [] ∷ rest) r s
then_goes A k pre m xs n rest cs ts r s st p w x g =
    let a = acts_are A k pre m xs n [] cs ts r [] st p w x (λ z h. refl) in
    (r, (a.0, a.1 ∙ append-nil r), g)

-- a code
pub code_store : (A : Around) (cs : List ℕ) (ts : List SqlType) (q : Kinds) (m : ℕ) (s : Scalar) →
    Stands A cs ts q m → Is A s q IntegerKind → StoreIs A (store 0 s) q
code_store A cs ts q m s st h = record {
  data_type = Integer;
  kind = IntegerKind;
  old = st.code;
  new = h;
  takes = refl;
}

pub jump_goes : (A : Around) (k to n : ℕ) (rest : List Step) (cs : List ℕ) (ts : List SqlType)
    (r s : Kinds) → Stands A cs ts r n → Goes A rest r s → Goes A (jump k to n ∷ rest) r s
jump_goes A k to n rest cs ts r s st g =
    then_goes A k no_node n (store 0 (tag to) ∷ []) n rest cs ts r s st refl st.long
    (code_store A cs ts r n (tag to) st (refl, refl), tt) g
