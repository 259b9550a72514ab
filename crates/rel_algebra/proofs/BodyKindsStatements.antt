-- Kinds of statements of one step: what they store is of kinds that targets and the result take, so
-- that the row keeps its kinds.
use Rattle.std.proofs.Common.{◌≡◌, ℕ, suc, ◌+◌, true, ◌&&◌}
use Rattle.std.proofs.Common.{List, [], ◌∷◌, ◌++◌, length, Option, Some, None, refl}
use Rattle.std.proofs.Common.{sym, ap, ◌∙◌, subst, arith, append_assoc}
use Rattle.std.proofs.lemmas.List.{append-nil}
use Rattle.sql_values.specs.declared.value.SqlType.{SqlType}
use Rattle.sql_values.specs.declared.value.Value.TheVariants.{Null, Bool as Truth}
use Rattle.rel_algebra.specs.Emit.{Emitted, Folded, joined_nodes, width, assigning, if_values}
use Rattle.rel_algebra.specs.Joins.{places}
use Rattle.rel_algebra.specs.Kinds.{BooleanKind, DataKind, IntegerKind, Kinds, TextKind, agree}
use Rattle.rel_algebra.specs.Kinds.{aggregate_kinds, aggregates_good, assigned_kind}
use Rattle.rel_algebra.specs.Kinds.{NullKind, kind_at, kinds_at, nodes_good, scalars_good}
use Rattle.rel_algebra.specs.Kinds.{scalars_kinds, table_widths, tree_good, tree_kinds, type_kind}
use Rattle.rel_algebra.specs.OnConditions.{retext_word, push_word, item_word}
use Rattle.rel_algebra.specs.OnConditions.{state_item, ItemWord}
use Rattle.rel_algebra.specs.Plan.{Nodes, no_node, extend_by, apply_by, Scalar, Scalars, none, more}
use Rattle.rel_algebra.specs.Plan.{on_condition, constant, PlanTree, into}
use Rattle.rel_algebra.specs.Plan.{aggregate, anew}
use Rattle.rel_algebra.proofs.Truths.{and_true}
use Rattle.rel_algebra.proofs.KindNodes.{Yields, after_grow, after_join}
use Rattle.rel_algebra.proofs.KindNodes.{after_long, aggregates_long, good_join}
use Rattle.rel_algebra.proofs.KindNodes.{kinds_wider}
use Rattle.rel_algebra.proofs.KindRows.{KindsGrow, first_kinds_columns, kinds_grow_by}
use Rattle.rel_algebra.proofs.KindRows.{kinds_grow_same, kinds_grow_trans, kinds_grown_column}
use Rattle.rel_algebra.proofs.KindNodes.{FoldIs}
use Rattle.rel_algebra.proofs.KindWords.{if_values_has}
use Rattle.rel_algebra.specs.Bodies.{word_of, Target, Perhaps, Without, With, StatementItem, Number}
use Rattle.rel_algebra.specs.Bodies.{RowCount, StatementRead, ConditionRead}
use Rattle.rel_algebra.specs.BodyMeaning.{statement_targets, condition_targets}
use Rattle.rel_algebra.specs.BodyChain.{reading, emitted}
use Rattle.rel_algebra.specs.BodyChain.{column_at, with_column, with_columns}
use Rattle.rel_algebra.specs.BodyChain.{target_stores, emit_set, emit_return, assigns, assigns_if}
use Rattle.rel_algebra.specs.BodyChain.{into_by, push, not_active_cell, not_stacked_cell, one_raise}
use Rattle.rel_algebra.specs.BodyChain.{perhaps_emitted, again, emit_signal}
use Rattle.rel_algebra.specs.BodyChain.{emit_again, statement_cell, statement_cells, item_cell}
use Rattle.rel_algebra.specs.BodyChain.{emit_statement_items, condition_cells, emit_condition_items}
use Rattle.rel_algebra.specs.BodyDispatch.{Env, Codes, store_if}
use Rattle.rel_algebra.specs.Kinds.{AllTaken, EachTaken, Taken}
use Rattle.rel_algebra.specs.Leaves.{QueryLeaf, ValueLeaf}
use Rattle.rel_algebra.specs.BodySteps.{two, col, tag}
use Rattle.rel_algebra.proofs.BodyKindsHeld.{Gives, PerhapsGives, Selects, Sets}
use Rattle.rel_algebra.proofs.BodyKindsHandled.{CodesAre, EmitIs, if_store, one_goes}
use Rattle.rel_algebra.proofs.BodyKindsHandled.{raise_goes}
use Rattle.rel_algebra.proofs.BodyKindsSteps.{AreAll, Around, Goes, Good, Is, Stands, StoresAre}
use Rattle.rel_algebra.proofs.BodyKindsSteps.{after}
use Rattle.rel_algebra.proofs.BodyKindsSteps.{assigned_agrees, assigning_is, column_is, expr_is}
use Rattle.rel_algebra.proofs.BodyKindsSteps.{more_after, more_are, more_good}
use Rattle.rel_algebra.proofs.BodyKindsSteps.{one_after, one_good, reading_kinds, slot_is}
use Rattle.rel_algebra.proofs.BodyKindsSteps.{stands_on}
use Rattle.rel_algebra.proofs.BodyKindsSteps.{two_are, word_is}

-- ---- columns that nodes add

-- the last of the columns after nodes and one column more
pub one_long : (A : Around) (nodes : Nodes) (s : Scalar) (r : Kinds) (n : ℕ) (k : DataKind) →
    length r ≡ n → Is A s (after A nodes r) k →
    length (after A (with_column nodes s) r) ≡ suc (width nodes n)
one_long A nodes s r n k l h =
    ap (λ (j : Kinds). length j) (one_after A nodes s r k h)
    ∙ (kinds_wider (after A nodes r) (k ∷ []) (width nodes n) 1
    (after_long nodes A.tables r A.outer A.args n l) refl
    ∙ (let e : width nodes n + 1 ≡ suc (width nodes n) = omega arith in e))

-- its kind, in each wider row
pub one_at : (A : Around) (nodes : Nodes) (s : Scalar) (r z : Kinds) (n : ℕ) (k : DataKind) →
    length r ≡ n → Is A s (after A nodes r) k → KindsGrow (after A (with_column nodes s) r) z →
    kind_at z (width nodes n) ≡ k
one_at A nodes s r z n k l h g =
    kinds_grown_column (after A nodes r) z k (width nodes n)
    (after_long nodes A.tables r A.outer A.args n l)
    (subst (λ (j : Kinds). KindsGrow j z) (one_after A nodes s r k h) g)

-- columns of these kinds stand from p on
abbrev Columns : Kinds → ℕ → Kinds → Type 0
Columns q p [] = Unit {0}
Columns q p (k ∷ kk) = (kind_at q p ≡ k) × Columns q (suc p) kk

columns_in : (kk z q : Kinds) (p : ℕ) → length z ≡ p → KindsGrow (z ++ kk) q → Columns q p kk
columns_in [] z q p l g = tt
columns_in (k ∷ kk) z q p l g =
    let e : (z ++ k ∷ []) ++ kk ≡ z ++ k ∷ kk = append_assoc z (k ∷ []) kk in (
      kinds_grown_column z q k p l
          (kinds_grow_trans (z ++ k ∷ []) (z ++ k ∷ kk) q (kk, e) g),
      columns_in kk (z ++ k ∷ []) q (suc p)
          (kinds_wider z (k ∷ []) p 1 l refl ∙ (let s : p + 1 ≡ suc p = omega arith in s))
          (g.0, ap (λ (j : Kinds). j ++ g.0) e ∙ g.1),
    )

-- ---- targets

taken_long : (ts : List SqlType) (kk : Kinds) (targets : List Target) → AllTaken ts kk targets →
    length kk ≡ length targets
taken_long ts [] [] h = refl
taken_long ts [] (t ∷ targets) h = absurd h
taken_long ts (k ∷ kk) [] h = absurd h
taken_long ts (k ∷ kk) (t ∷ targets) h = ap suc (taken_long ts kk targets h.1)

-- scalars of kinds that targets take
record Cells (A : Around) (ss : Scalars) (q : Kinds) (ts : List SqlType)
    (targets : List Target) : Type 0 where
  kinds : Kinds
  are : AreAll A ss q kinds
  taken : AllTaken ts kinds targets

no_cells : (A : Around) (q : Kinds) (ts : List SqlType) → Cells A none q ts []
no_cells A q ts = record { kinds = []; are = (refl, refl); taken = tt }

more_cells : (A : Around) (s : Scalar) (ss : Scalars) (q : Kinds) (ts : List SqlType)
    (t : Target) (targets : List Target) (k : DataKind) → Is A s q (assigned_kind t.data_type k) →
    Taken ts k t → Cells A ss q ts targets → Cells A (more s ss) q ts (t ∷ targets)
more_cells A s ss q ts t targets k h g c = record {
  kinds = assigned_kind t.data_type k ∷ c.kinds;
  are = more_are A s ss q (assigned_kind t.data_type k) c.kinds h c.are;
  taken = ((g.0, assigned_agrees t.data_type k g.1), c.taken);
}

assigns_cells : (A : Around) (ts : List SqlType) (targets : List Target) (kk : Kinds) →
    AllTaken ts kk targets → (q : Kinds) (p : ℕ) → Columns q p kk →
    Cells A (assigns targets p) q ts targets
assigns_cells A ts [] [] h q p g = no_cells A q ts
assigns_cells A ts [] (k ∷ kk) h q p g = absurd h
assigns_cells A ts (t ∷ targets) [] h q p g = absurd h
assigns_cells A ts (t ∷ targets) (k ∷ kk) h q p g =
    more_cells A (assigning t.data_type (col p)) (assigns targets (suc p)) q ts t targets k
    (assigning_is A t.data_type (col p) q k (g.0, refl) h.0.1) h.0
    (assigns_cells A ts targets kk h.1 q (suc p) g.1)

ifs_cells : (A : Around) (is : List ℕ) (ts : List SqlType) (targets : List Target) (kk : Kinds) →
    AllTaken ts kk targets → (q : Kinds) (p : ℕ) → Columns q p kk →
    Cells A (assigns_if is targets p) q ts targets
ifs_cells A is ts [] [] h q p g = no_cells A q ts
ifs_cells A is ts [] (k ∷ kk) h q p g = absurd h
ifs_cells A is ts (t ∷ targets) [] h q p g = absurd h
ifs_cells A is ts (t ∷ targets) (k ∷ kk) h q p g =
    more_cells A (if_values is (assigning t.data_type (col p))) (assigns_if is targets (suc p)) q
    ts t targets k
    (if_values_has is (assigning t.data_type (col p)) (q ∷ A.outer) A.args
    (assigned_kind t.data_type k)
    (assigning_is A t.data_type (col p) q k (g.0, refl) h.0.1)) h.0
    (ifs_cells A is ts targets kk h.1 q (suc p) g.1)

-- they are stored in columns of their types
targets_are : (A : Around) (ts : List SqlType) (targets : List Target) (kk : Kinds) →
    AllTaken ts kk targets → (env : Env) (n t p : ℕ) (q : Kinds) (m : ℕ) →
    Stands A env.columns ts q m → Columns q p kk → StoresAre A (target_stores targets env n t p) q
targets_are A ts [] [] h env n t p q m st g = tt
targets_are A ts [] (k ∷ kk) h env n t p q m st g = absurd h
targets_are A ts (x ∷ targets) [] h env n t p q m st g = absurd h
targets_are A ts (x ∷ targets) (k ∷ kk) h env n t p q m st g = (
  if_store A t p (column_at n env.columns x.slot) q k x.data_type g.0
      (slot_is A env.columns ts q m n x.slot x.data_type st h.0.0) h.0.1,
  targets_are A ts targets kk h.1 env n t (suc p) q m st g.1,
)

-- nodes, the targets' cells from column p on, and their test in column t, behind which all is
-- stored
record Stored (A : Around) (pre : Nodes) (r : Kinds) (ts : List SqlType) (targets : List Target)
    (env : Env) (n p t : ℕ) : Type 0 where
  good : Good A pre r
  long : length (after A pre r) ≡ suc t
  stores : StoresAre A (target_stores targets env n t p) (after A pre r)

stored : (A : Around) (pre : Nodes) (r z : Kinds) (ts : List SqlType) (targets : List Target)
    (env : Env) (n p t : ℕ) (kk : Kinds) → AllTaken ts kk targets → p + length targets ≡ t →
    Stands A env.columns ts r n → KindsGrow r z → length z ≡ p → Good A pre r →
    after A pre r ≡ (z ++ kk) ++ BooleanKind ∷ [] → Stored A pre r ts targets env n p t
stored A pre r z ts targets env n p t kk taken et st g l good e =
    let k = length targets in let q = after A pre r in
    let long : length q ≡ suc t = ap (λ (j : Kinds). length j) e
    ∙ (kinds_wider (z ++ kk) (BooleanKind ∷ []) (p + k) 1
    (kinds_wider z kk p k l (taken_long ts kk targets taken)) refl
    ∙ (let s : (p + k) + 1 ≡ suc t = omega (arith, et) in s)) in
    let grown : KindsGrow (z ++ kk) q = (BooleanKind ∷ [], sym e) in
    let wide = stands_on A env.columns ts r q n (suc t) st
    (kinds_grow_trans r z q g (kinds_grow_trans z (z ++ kk) q (kinds_grow_by z kk) grown)) long in
    record {
      good = good;
      long = long;
      stores = targets_are A ts targets kk taken env n t p q (suc t) wide
          (columns_in kk z q p l grown);
    }

-- ---- statements of one step

pub set_goes : (A : Around) (ts : List SqlType) (t : Target) (e : ValueLeaf) →
    Sets A.tables ts t e → (cs : Codes) → CodesAre A ts cs →
    EmitIs A ts (emit_set t e (table_widths A.tables) cs)
set_goes A ts t e s cs h env here next n r st =
    let a = emitted e (table_widths A.tables) env n in let p = width a.nodes n in
    let dt = t.data_type in let k = assigned_kind dt s.own.kind in
    let y = expr_is A ts e s.own.kind s.own.yields env r n st in
    let x = assigning_is A dt a.scalar (after A a.nodes r) s.own.kind
    (y.1 (after A a.nodes r) (kinds_grow_same (after A a.nodes r))) s.taken.1 in
    let pre = with_column a.nodes (assigning dt a.scalar) in let q = after A pre r in
    let long = one_long A a.nodes (assigning dt a.scalar) r n k st.long x in
    let wide = stands_on A env.columns ts r q n (suc p) st
    (after_grow pre A.tables r A.outer A.args) long in
    one_goes A ts cs h env here next n r st pre p (tag here)
    (store_if p p (column_at n env.columns t.slot) ∷ [])
    (one_good A a.nodes (assigning dt a.scalar) r k y.0 x) long (refl, refl) (
      if_store A p p (column_at n env.columns t.slot) q k dt
          (one_at A a.nodes (assigning dt a.scalar) r q n k st.long x (kinds_grow_same q))
          (slot_is A env.columns ts q (suc p) n t.slot dt wide s.taken.0)
          (assigned_agrees dt s.own.kind s.taken.1),
      tt,
    )

pub return_goes : (A : Around) (ts : List SqlType) (e : ValueLeaf) →
    Gives A.tables ts (type_kind A.returns) e → (cs : Codes) → CodesAre A ts cs →
    EmitIs A ts (emit_return e (table_widths A.tables) cs)
return_goes A ts e s cs h env here next n r st =
    let a = emitted e (table_widths A.tables) env n in let p = width a.nodes n in
    let k = s.own.kind in let y = expr_is A ts e k s.own.yields env r n st in
    let x = y.1 (after A a.nodes r) (kinds_grow_same (after A a.nodes r)) in
    let pre = with_column a.nodes a.scalar in let q = after A pre r in
    let long = one_long A a.nodes a.scalar r n k st.long x in
    let wide = stands_on A env.columns ts r q n (suc p) st
    (after_grow pre A.tables r A.outer A.args) long in
    one_goes A ts cs h env here next n r st pre p (tag 0) (store_if p p 1 ∷ [])
    (one_good A a.nodes a.scalar r k y.0 x) long (refl, refl) (
      if_store A p p 1 q k A.returns
          (one_at A a.nodes a.scalar r q n k st.long x (kinds_grow_same q)) wide.result s.takes,
      tt,
    )

-- ---- SELECT INTO

asked_goes : (A : Around) (ts : List SqlType) (query : QueryLeaf) (targets : List Target) →
    (s : Selects A.tables ts targets query) → (cs : Codes) → CodesAre A ts cs →
    (env : Env) (here next n : ℕ) (r : Kinds) → Stands A env.columns ts r n →
    Goes A (into_by None (query.plan (table_widths A.tables) (reading env)) targets cs env here
    next n) r r
asked_goes A ts query targets s cs h env here next n r st =
    let k = length targets in let inner = query.plan (table_widths A.tables) (reading env) in
    let p = n + k in let ss = assigns targets n in let kk = s.columns in
    let i = s.own.asked (reading env) (r ∷ A.outer) A.args
    (reading_kinds A env ts r n st r (kinds_grow_same r)) in
    let found = tree_kinds inner A.tables (r ∷ A.outer) A.args in
    let lk = taken_long ts kk targets s.taken in
    let e : kinds_at found (places 0 k) ≡ kk =
    ap (λ (j : Kinds). kinds_at j (places 0 k)) i.1
    ∙ first_kinds_columns kk kk k lk (kinds_grow_same kk) in
    let z = r ++ kinds_at found (places 0 k) in
    let grown : KindsGrow (r ++ kk) z = (
      [],
      append-nil (r ++ kk)
          ∙ sym (ap (λ (j : Kinds). r ++ j) e),
    ) in
    let lz : length z ≡ p = ap (λ (j : Kinds). length (r ++ j)) e
    ∙ kinds_wider r kk n k st.long lk in
    let c = assigns_cells A ts targets kk s.taken z n (columns_in kk r z n st.long grown) in
    let behind = with_columns no_node ss (places p k) in
    let x = stored A (apply_by (constant (Truth true)) (into k) anew inner behind) r z ts targets
    env n p (p + k) c.kinds c.taken refl st (kinds_grow_by r (kinds_at found (places 0 k))) lz
    (and_true (tree_good inner A.tables (r ∷ A.outer) A.args)
    (nodes_good behind A.tables z A.outer A.args) i.0
    (more_good A no_node ss (places p k) z c.kinds refl c.are))
    (more_after A no_node ss (places p k) z c.kinds c.are) in
    one_goes A ts cs h env here next n r st
    (apply_by (constant (Truth true)) (into k) anew inner behind) (p + k) (tag here)
    (target_stores targets env n (p + k) p) x.good x.long (refl, refl) x.stores

folded_goes : (A : Around) (ts : List SqlType) (targets : List Target) (kk : Kinds) →
    AllTaken ts kk targets → (inner : PlanTree) (a : Folded) (cs : Codes) → CodesAre A ts cs →
    (env : Env) (here next n : ℕ) (r : Kinds) → Stands A env.columns ts r n →
    FoldIs (Some a) A.tables r A.outer A.args n kk →
    Goes A (into_by (Some a) inner targets cs env here next n) r r
folded_goes A ts targets kk taken inner a cs h env here next n r st f =
    let k = length targets in let l = a.list n in let m = n + length a.aggregates in
    let p = width l.nodes m in let is = n ∷ places p k in let ss = assigns_if is targets p in
    let found = tree_kinds a.input A.tables (r ∷ A.outer) A.args in
    let aggs = aggregate_kinds a.aggregates found in let r1 = r ++ aggs in
    let l1 : length r1 ≡ m = kinds_wider r aggs n (length a.aggregates) st.long
    (aggregates_long a.aggregates found) in
    let z = after A l.nodes r1 in
    let lz : length z ≡ p = after_long l.nodes A.tables r1 A.outer A.args m l1 in
    let list = f.2.1 z (kinds_grow_same z) in
    let q = z ++ scalars_kinds l.scalars (z ∷ A.outer) A.args in
    let e : q ≡ z ++ kk = ap (λ (j : Kinds). z ++ j) list.0 in
    let lk = taken_long ts kk targets taken in
    let lq : length q ≡ p + k = ap (λ (j : Kinds). length j) e ∙ kinds_wider z kk p k lz lk in
    let grown : KindsGrow (z ++ kk) q = ([], append-nil (z ++ kk) ∙ sym e) in
    let c = ifs_cells A is ts targets kk taken q p (columns_in kk z q p lz grown) in
    let tests = with_columns no_node ss (places (p + k) k) in
    let behind = extend_by l.scalars tests in
    let pre = apply_by (constant (Truth true)) (aggregate a.aggregates) anew a.input
    (joined_nodes l.nodes behind) in
    let up : KindsGrow r q =
    kinds_grow_trans r r1 q (kinds_grow_by r aggs)
    (kinds_grow_trans r1 z q (after_grow l.nodes A.tables r1 A.outer A.args)
    (kinds_grow_by z (scalars_kinds l.scalars (z ∷ A.outer) A.args))) in
    let x = stored A pre r q ts targets env n (p + k) ((p + k) + k) c.kinds c.taken refl st up lq
    (and_true (aggregates_good a.aggregates found)
    (tree_good a.input A.tables (r ∷ A.outer) A.args
    && nodes_good (joined_nodes l.nodes behind) A.tables r1 A.outer A.args) f.0
    (and_true (tree_good a.input A.tables (r ∷ A.outer) A.args)
    (nodes_good (joined_nodes l.nodes behind) A.tables r1 A.outer A.args) f.1
    (good_join l.nodes behind A.tables r1 A.outer A.args f.2.0
    (and_true (scalars_good l.scalars (z ∷ A.outer) A.args)
    (nodes_good tests A.tables q A.outer A.args) list.1
    (more_good A no_node ss (places (p + k) k) q c.kinds refl c.are)))))
    (after_join l.nodes behind A.tables r1 A.outer A.args
    ∙ more_after A no_node ss (places (p + k) k) q c.kinds c.are) in
    one_goes A ts cs h env here next n r st pre ((p + k) + k) (tag here)
    (target_stores targets env n ((p + k) + k) (p + k)) x.good x.long (refl, refl) x.stores

pub into_goes : (A : Around) (ts : List SqlType) (query : QueryLeaf) (targets : List Target) →
    (s : Selects A.tables ts targets query) → (cs : Codes) → CodesAre A ts cs →
    (env : Env) (here next n : ℕ) (r : Kinds) → Stands A env.columns ts r n →
    (oa : Option Folded) → FoldIs oa A.tables r A.outer A.args n s.columns →
    Goes A (into_by oa (query.plan (table_widths A.tables) (reading env)) targets cs env here next
    n) r r
into_goes A ts query targets s cs h env here next n r st None f =
    asked_goes A ts query targets s cs h env here next n r st
into_goes A ts query targets s cs h env here next n r st (Some a) f =
    folded_goes A ts targets s.columns s.taken
    (query.plan (table_widths A.tables) (reading env)) a cs h env here next n r st f

-- ---- SIGNAL and RESIGNAL

-- an expression of a kind that this takes
pub record Yielded (A : Around) (a : Emitted) (r : Kinds) (k : DataKind) : Type 0 where
  pub kind : DataKind
  pub yields : Yields a A.tables r A.outer A.args kind
  pub takes : agree kind k ≡ true

text_is : (A : Around) (ts : List SqlType) (p : Perhaps) → PerhapsGives A.tables ts TextKind p →
    (env : Env) (r : Kinds) (n : ℕ) → Stands A env.columns ts r n →
    Yielded A (perhaps_emitted p (table_widths A.tables) env n) r TextKind
text_is A ts Without s env r n st = record {
  kind = TextKind;
  yields = (refl, λ z g. (refl, refl));
  takes = refl;
}
text_is A ts (With e) s env r n st = record {
  kind = s.own.kind;
  yields = expr_is A ts e s.own.kind s.own.yields env r n st;
  takes = s.takes;
}

-- a raise, whatever the kind of its area
raised_goes : (A : Around) (ts : List SqlType) (cs : Codes) → CodesAre A ts cs →
    (env : Env) (here next n : ℕ) (r : Kinds) → Stands A env.columns ts r n →
    (nodes : Nodes) (s : Scalar) (k : DataKind) → Good A nodes r → Is A s (after A nodes r) k →
    Goes A (one_raise cs env here next n (with_column nodes s) (width nodes n)) r r
raised_goes A ts cs h env here next n r st nodes s k good x =
    raise_goes A ts cs h env here next n r st (with_column nodes s) (width nodes n)
    (one_good A nodes s r k good x) (one_long A nodes s r n k st.long x)

push_is : (A : Around) (state : List ℕ) (text c : Scalar) (q : Kinds) (k j : DataKind) →
    Is A text q k → agree k TextKind ≡ true → Is A c q j →
    Is A (push state text c) q NullKind
push_is A state text c q k j h g x =
    word_is A (on_condition (push_word state)) (two text c) q (k ∷ j ∷ [])
    (two_are A text c q k j h x) g

pub signal_goes : (A : Around) (ts : List SqlType) (state : List ℕ) (text : Perhaps) →
    PerhapsGives A.tables ts TextKind text → (cs : Codes) → CodesAre A ts cs →
    EmitIs A ts (emit_signal state text (table_widths A.tables) cs)
signal_goes A ts state text s cs h env here next n r st =
    let a = perhaps_emitted text (table_widths A.tables) env n in
    let t = text_is A ts text s env r n st in let q = after A a.nodes r in
    raised_goes A ts cs h env here next n r st a.nodes (push state a.scalar (constant Null))
    NullKind t.yields.0
    (push_is A state a.scalar (constant Null) q t.kind NullKind
    (t.yields.1 q (kinds_grow_same q)) t.takes (refl, refl))

again_is : (A : Around) (state : Option (List ℕ)) (text : Perhaps) (s : Scalar) (c : ℕ)
    (q : Kinds) (k : DataKind) → Is A s q k → agree k TextKind ≡ true →
    (j : DataKind) × Is A (again state text s c) q j
again_is A None Without s c q k h g = (kind_at q c, (refl, refl))
again_is A None (With e) s c q k h g = (
  kind_at q c,
  word_is A (on_condition retext_word) (two s (col c)) q (k ∷ kind_at q c ∷ [])
      (two_are A s (col c) q k (kind_at q c) h (column_is A q c)) g,
)
again_is A (Some state) Without s c q k h g = (
  NullKind,
  push_is A state s (col c) q k (kind_at q c) h g (column_is A q c),
)
again_is A (Some state) (With e) s c q k h g = (
  NullKind,
  push_is A state s (col c) q k (kind_at q c) h g (column_is A q c),
)

-- one condition of the engine's own
own_goes : (A : Around) (ts : List SqlType) (s : Scalar) →
    ((q : Kinds) → Is A s q NullKind) → (cs : Codes) →
    CodesAre A ts cs → (env : Env) (here next n : ℕ) (r : Kinds) → Stands A env.columns ts r n →
    Goes A (one_raise cs env here next n (with_column no_node s) n) r r
own_goes A ts s x cs h env here next n r st =
    raised_goes A ts cs h env here next n r st no_node s NullKind
    refl (x r)

pub again_goes : (A : Around) (ts : List SqlType) (es : Option ℕ) (state : Option (List ℕ))
    (text : Perhaps) → PerhapsGives A.tables ts TextKind text → (cs : Codes) → CodesAre A ts cs →
    EmitIs A ts (emit_again es state text (table_widths A.tables) cs)
again_goes A ts None state text s cs h env here next n r st =
    own_goes A ts not_active_cell (λ q. (refl, refl)) cs h env here next n r st
again_goes A ts (Some c) state text s cs h env here next n r st =
    let a = perhaps_emitted text (table_widths A.tables) env n in
    let t = text_is A ts text s env r n st in let q = after A a.nodes r in
    let x = again_is A state text a.scalar c q t.kind (t.yields.1 q (kinds_grow_same q)) t.takes in
    raised_goes A ts cs h env here next n r st a.nodes (again state text a.scalar c) x.0
    t.yields.0 x.1

-- ---- GET STACKED DIAGNOSTICS

statement_is : (A : Around) (item : StatementItem) (c : ℕ) (q : Kinds) →
    Is A (statement_cell item c) q IntegerKind
statement_is A Number c q = (refl, refl)
statement_is A RowCount c q = (refl, refl)

statements_are : (A : Around) (ts : List SqlType) (reads : List StatementRead) →
    EachTaken ts IntegerKind (statement_targets reads) → (c : ℕ) (q : Kinds) →
    Cells A (statement_cells reads c) q ts (statement_targets reads)
statements_are A ts [] h c q = no_cells A q ts
statements_are A ts (x ∷ reads) h c q =
    more_cells A (assigning x.target.data_type (statement_cell x.item c)) (statement_cells reads c)
    q ts x.target (statement_targets reads) IntegerKind
    (assigning_is A x.target.data_type (statement_cell x.item c) q IntegerKind
    (statement_is A x.item c q) h.0.1) h.0 (statements_are A ts reads h.1 c q)

reads_long : (reads : List StatementRead) → length (statement_targets reads) ≡ length reads
reads_long [] = refl
reads_long (x ∷ reads) = ap suc (reads_long reads)

pub statement_goes : (A : Around) (ts : List SqlType) (es : Option ℕ) (reads : List StatementRead) →
    EachTaken ts IntegerKind (statement_targets reads) → (cs : Codes) → CodesAre A ts cs →
    EmitIs A ts (emit_statement_items es reads cs)
statement_goes A ts None reads s cs h env here next n r st =
    own_goes A ts not_stacked_cell (λ q. (refl, refl)) cs h env here next n r st
statement_goes A ts (Some c) reads s cs h env here next n r st =
    let targets = statement_targets reads in let ss = statement_cells reads c in
    let k = length reads in let is = places n k in
    let d = statements_are A ts reads s c r in
    let x = stored A (with_columns no_node ss is) r r ts targets env n n (n + k) d.kinds d.taken
    (ap (λ (j : ℕ). n + j) (reads_long reads)) st (kinds_grow_same r) st.long
    (more_good A no_node ss is r d.kinds refl d.are) (more_after A no_node ss is r d.kinds d.are) in
    one_goes A ts cs h env here next n r st (with_columns no_node ss is) (n + k) (tag here)
    (target_stores targets env n (n + k) n) x.good x.long (refl, refl) x.stores

item_is : (A : Around) (item : ItemWord) (i c : ℕ) (q : Kinds) (k : DataKind) → kind_at q i ≡ k →
    agree k IntegerKind ≡ true → Is A (item_cell item i c) q TextKind
item_is A item i c q k e g =
    word_is A (on_condition (item_word item)) (two (col i) (col c)) q (k ∷ kind_at q c ∷ [])
    (two_are A (col i) (col c) q k (kind_at q c) (e, refl) (column_is A q c)) g

conditions_are : (A : Around) (ts : List SqlType) (reads : List ConditionRead) →
    EachTaken ts TextKind (condition_targets reads) → (i c : ℕ) (q : Kinds) (k : DataKind) →
    kind_at q i ≡ k → agree k IntegerKind ≡ true →
    Cells A (condition_cells reads i c) q ts (condition_targets reads)
conditions_are A ts [] h i c q k e g = no_cells A q ts
conditions_are A ts (x ∷ reads) h i c q k e g =
    more_cells A (assigning x.target.data_type (item_cell (word_of x.item) i c))
    (condition_cells reads i c) q ts x.target (condition_targets reads) TextKind
    (assigning_is A x.target.data_type (item_cell (word_of x.item) i c) q TextKind
    (item_is A (word_of x.item) i c q k e g) h.0.1) h.0
    (conditions_are A ts reads h.1 i c q k e g)

condition_reads_long : (reads : List ConditionRead) →
    length (condition_targets reads) ≡ length reads
condition_reads_long [] = refl
condition_reads_long (x ∷ reads) = ap suc (condition_reads_long reads)

pub condition_goes : (A : Around) (ts : List SqlType) (es : Option ℕ) (number : ValueLeaf) →
    Gives A.tables ts IntegerKind number → (reads : List ConditionRead) →
    EachTaken ts TextKind (condition_targets reads) → (cs : Codes) → CodesAre A ts cs →
    EmitIs A ts (emit_condition_items es number reads (table_widths A.tables) cs)
condition_goes A ts None number s reads g cs h env here next n r st =
    own_goes A ts not_stacked_cell (λ q. (refl, refl)) cs h env here next n r st
condition_goes A ts (Some c) number s reads g cs h env here next n r st =
    let a = emitted number (table_widths A.tables) env n in let i = width a.nodes n in
    let kn = s.own.kind in let y = expr_is A ts number kn s.own.yields env r n st in
    let x = y.1 (after A a.nodes r) (kinds_grow_same (after A a.nodes r)) in
    let pre = with_column a.nodes a.scalar in let q = after A pre r in
    let lq = one_long A a.nodes a.scalar r n kn st.long x in
    let good = one_good A a.nodes a.scalar r kn y.0 x in
    let at_i = one_at A a.nodes a.scalar r q n kn st.long x (kinds_grow_same q) in
    let targets = condition_targets reads in let k = suc (length reads) in
    let is = places (suc i) k in let cells = condition_cells reads i c in
    let ss = more (item_cell state_item i c) cells in
    let d = conditions_are A ts reads g i c q kn at_i s.takes in
    let all : AreAll A ss q (TextKind ∷ d.kinds) =
    more_are A (item_cell state_item i c) cells q TextKind d.kinds
    (item_is A state_item i c q kn at_i s.takes) d.are in
    let z = q ++ TextKind ∷ [] in
    let up = kinds_grow_trans r q z (after_grow pre A.tables r A.outer A.args)
    (kinds_grow_by q (TextKind ∷ [])) in
    let lz : length z ≡ suc (suc i) = kinds_wider q (TextKind ∷ []) (suc i) 1 lq refl
    ∙ (let e1 : suc i + 1 ≡ suc (suc i) = omega arith in e1) in
    let lr = condition_reads_long reads in
    let w = stored A (with_columns pre ss is) r z ts targets env n (suc (suc i)) (suc i + k)
    d.kinds d.taken (omega (arith, lr)) st up lz
    (more_good A pre ss is r (TextKind ∷ d.kinds) good all)
    (more_after A pre ss is r (TextKind ∷ d.kinds) all
    ∙ ap (λ (j : Kinds). j ++ BooleanKind ∷ []) (sym (append_assoc q (TextKind ∷ []) d.kinds))) in
    one_goes A ts cs h env here next n r st (with_columns pre ss is) (suc i + k) (tag here)
    (target_stores targets env n (suc i + k) (suc (suc i))) w.good w.long (refl, refl) w.stores
