-- The emitter commutes with a move, so a function's own plan, moved, is the emission of its body in
-- a call.
use Rattle.std.proofs.Common.{◌≡◌, ℕ, zero, suc, ◌+◌, Bool, true, false, List, [], ◌∷◌, ◌++◌}
use Rattle.std.proofs.Common.{length, Option, Some, None, refl, ap, sym, ◌∙◌, arith, drop}
use Rattle.sql_values.specs.declared.operators.Comparison.TheVariants.{Equals}
use Rattle.sql_values.specs.declared.value.SqlType.{SqlType}
use Rattle.sql_values.specs.declared.value.Value.TheVariants.{Bool as Truth}
use Rattle.rel_algebra.specs.Emit.{Emitted, EmittedAll, Env, Folded, Key, Place, Waiting}
use Rattle.rel_algebra.specs.Emit.{against_on, all_true, all_waiting, ask, ask_member, asked}
use Rattle.rel_algebra.specs.Emit.{asked_member, assigning_in, at, called, emit, emit_all}
use Rattle.rel_algebra.specs.Emit.{emit_args, emit_body, emit_links, emit_rows, emit_tests, entered}
use Rattle.rel_algebra.specs.Emit.{filters, first_and, first_value, folded, folded_env}
use Rattle.rel_algebra.specs.Emit.{folded_member, folding, from_plan, given, if_values, key_of}
use Rattle.rel_algebra.specs.Emit.{key_step, lifted, none_waits, nowhere, one_column, one_param}
use Rattle.rel_algebra.specs.Emit.{passed, plain, plan, raising, read, row_stands, selected, singly}
use Rattle.rel_algebra.specs.Emit.{test_step, top, turned, values_plan, width, word_on}
use Rattle.rel_algebra.specs.Joins.{from_width, numbered, places, rows_width}
use Rattle.rel_algebra.specs.Merged.{MergedPlans, Move, after_arguments, moved, moved_kind}
use Rattle.rel_algebra.specs.Merged.{moved_nodes}
use Rattle.rel_algebra.specs.Merged.{moved_scalar, moved_tree}
use Rattle.rel_algebra.specs.Plan.{anew, Kind, Nodes, PlanTree, Scalar, Scalars, aggregate}
use Rattle.rel_algebra.specs.Plan.{and_word, apply_by, case_word, coalesce_word, column, constant}
use Rattle.rel_algebra.specs.Plan.{cross, exists, filter, group, keep, left_outer, member, more}
use Rattle.rel_algebra.specs.Plan.{no_node, none, or_word, settle, single, sort, strict, word}
use Rattle.rel_algebra.specs.PlanExamples.{f}
use Rattle.rel_algebra.specs.Tree.{Aggregate, And, AnyOf, Arithmetic, Call, CallSelf, Case, CaseOf}
use Rattle.rel_algebra.specs.Tree.{Chain, Coalesce, Column, Comparing, Cross, Derived, Exists, Expr}
use Rattle.rel_algebra.specs.Tree.{Exprs, From, Returned, Grouped, In, Inner, LeftOuter, Links}
use Rattle.rel_algebra.specs.Tree.{Literal, MoreExprs, MoreLinks, MoreRows, NoExpr, NoLink, NoRow}
use Rattle.rel_algebra.specs.Tree.{Operate, Or, Ordered, Query, Routine, Rows, Select, Single}
use Rattle.rel_algebra.specs.Tree.{Table, Values, Variable, parameters_of}
use Rattle.rel_algebra.proofs.Truths.{both, never}
use Rattle.rel_algebra.proofs.Moves.{EnvMoved, NotGiven, UseMoved, against_moved, all_values_moved}
use Rattle.rel_algebra.proofs.Moves.{append_moved, assigning_in_moved, below_moved, emitted}
use Rattle.rel_algebra.proofs.Moves.{entered_moved, filters_moved, first_and_moved}
use Rattle.rel_algebra.proofs.Moves.{first_value_moved, folded_moved, if_values_moved, joined_moved}
use Rattle.rel_algebra.proofs.Moves.{lifted_moved, moved_all, moved_each, moved_place, moved_tests}
use Rattle.rel_algebra.proofs.Moves.{own_column, passed_moved, raising_moved, read_moved}
use Rattle.rel_algebra.proofs.Moves.{row_stands_moved, selected_moved, then_columns_moved}
use Rattle.rel_algebra.proofs.Moves.{truths_moved, values_plan_moved, wide, wide_add, wide_suc}
use Rattle.rel_algebra.proofs.Moves.{width_moved}
use Rattle.rel_algebra.specs.Tree.{Function, Perhaps, Without, With, Variables, NoVariable}
use Rattle.rel_algebra.specs.Tree.{MoreVariables, Stmt, Compound, If, SearchedCase, SimpleCase, Set}
use Rattle.rel_algebra.specs.Tree.{SelectInto, Signal, Resignal, GetStatementItems}
use Rattle.rel_algebra.specs.Tree.{GetConditionItems, Leave, Return, Stmts, NoStmt, MoreStmts}
use Rattle.rel_algebra.specs.Tree.{Branches, NoBranch, MoreBranches, Handlers, NoHandler}
use Rattle.rel_algebra.specs.Tree.{MoreHandlers}
use Rattle.rel_algebra.specs.Emit.{branches_body, handlers_body, perhaps_body, stmt_body}
use Rattle.rel_algebra.specs.Emit.{stmts_body, variables_body}
use Rattle.rel_algebra.proofs.BodyHeld.{AllHold, BranchesHold, HandlersHold, Holds, PerhapsHolds}
use Rattle.rel_algebra.proofs.BodyHeld.{VariablesHold}
use Rattle.rel_algebra.specs.Bodies as body
use Rattle.rel_algebra.specs.Emit.{query_leaf, value_leaf}
use Rattle.rel_algebra.proofs.BodyCalled.{called_moved}
use Rattle.rel_algebra.proofs.BodyKnown.{known_moved}
use Rattle.rel_algebra.proofs.BodyMoved.{FoldedStays, QueryStays, ValueStays}

abbrev pub ExprMoved : Expr → Type 0
ExprMoved x = (S : List ℕ → ℕ) (v : Move) (d : ℕ) (e e' : Env) (j : ℕ) → EnvMoved v d e e' →
    emit x S e' (wide v d j) ≡ moved v d (emit x S e j)

abbrev pub EachMoved : Exprs → Type 0
EachMoved NoExpr = Unit {0}
EachMoved (MoreExprs x es) = ExprMoved x × EachMoved es

abbrev pub LinksMoved : Links → Type 0
LinksMoved NoLink = Unit {0}
LinksMoved (MoreLinks operator x links) = ExprMoved x × LinksMoved links

abbrev pub RowsMoved : Rows → Type 0
RowsMoved NoRow = Unit {0}
RowsMoved (MoreRows es rows) = EachMoved es × RowsMoved rows

abbrev pub BodyMoved : Routine → Type 0
BodyMoved r = (S : List ℕ → ℕ) (v : Move) (d : ℕ) (e e' : Env) (j : ℕ) → EnvMoved v d e e' →
    emit_body r S e' (wide v d j) ≡ moved v d
    (emit_body r S e j)

abbrev pub QueryMoved : Query → Type 0
QueryMoved q = (S : List ℕ → ℕ) (v : Move) (d : ℕ) (e e' : Env) → EnvMoved v d e e' →
    plan q S e' ≡ moved_tree v d (plan q S e)

abbrev pub FromMoved : From → Type 0
FromMoved x = (S : List ℕ → ℕ) (v : Move) (d : ℕ) (e e' : Env) → EnvMoved v d e e' →
    from_plan x S e' ≡ moved_tree v d (from_plan x S e)

-- the second is the first, moved
abbrev pub FoldedMoved : Move → ℕ → Option Folded → Option Folded → Type 0
FoldedMoved v d None None = Unit {0}
FoldedMoved v d None (Some b) = ⊥
FoldedMoved v d (Some a) None = ⊥
FoldedMoved v d (Some a) (Some b) =
    (b.input ≡ moved_tree v d a.input) × (b.aggregates ≡ a.aggregates)
    × ((j : ℕ) → b.list (wide v d j) ≡ moved_all v d (a.list j))

abbrev pub FoldMoved : Query → Type 0
FoldMoved q = (S : List ℕ → ℕ) (v : Move) (d : ℕ) (e e' : Env) → EnvMoved v d e e' →
    FoldedMoved v d (folded q S e) (folded q S e')

pub all_moved : (es : Exprs) → EachMoved es →
    (S : List ℕ → ℕ) (v : Move) (d : ℕ) (e e' : Env) (j : ℕ) → EnvMoved v d e e' →
    emit_all es S e' (wide v d j) ≡ moved_all v d (emit_all es S e j)
all_moved NoExpr h S v d e e' j m = refl
all_moved (MoreExprs x es) h S v d e e' j m =
    first_and_moved (emit x S e j) (emit x S e' (wide v d j)) (emit_all es S e)
    (emit_all es S e') v d j (h.0 S v d e e' j m)
    (λ i. all_moved es h.1 S v d e e' i m)

args_moved : (es : Exprs) → EachMoved es →
    (types : List SqlType) (S : List ℕ → ℕ) (v : Move) (d : ℕ) (e e' : Env) (j : ℕ) →
    EnvMoved v d e e' →
    emit_args es types S e' (wide v d j) ≡ moved_all v d (emit_args es types S e j)
args_moved NoExpr h types S v d e e' j m = refl
args_moved (MoreExprs x es) h types S v d e e' j m =
    first_and_moved (assigning_in types (emit x S e j))
    (assigning_in types (emit x S e' (wide v d j))) (emit_args es (drop 1 types) S e)
    (emit_args es (drop 1 types) S e') v d j
    (ap (assigning_in types) (h.0 S v d e e' j m) ∙ assigning_in_moved types (emit x S e j) v d)
    (λ i. args_moved es h.1 (drop 1 types) S v d e e' i m)

two_moved : (a a' : Emitted) (x : Expr) → ExprMoved x →
    (S : List ℕ → ℕ) (v : Move) (d : ℕ) (e e' : Env) (j : ℕ) → EnvMoved v d e e' →
    a' ≡ moved v d a →
    first_and a' (λ i. singly (emit x S e' i)) (wide v d j)
    ≡ moved_all v d (first_and a (λ i. singly (emit x S e i)) j)
two_moved a a' x hx S v d e e' j m h =
    first_and_moved a a' (λ i. singly (emit x S e i)) (λ i. singly (emit x S e' i)) v d j h
    (λ i. ap singly (hx S v d e e' i m))

links_moved : (links : Links) → LinksMoved links →
    (a a' : Emitted) (S : List ℕ → ℕ) (v : Move) (d : ℕ) (e e' : Env) (j : ℕ) → EnvMoved v d e e' →
    a' ≡ moved v d a →
    emit_links links a' S e' (wide v d j) ≡ moved v d (emit_links links a S e j)
links_moved NoLink h a a' S v d e e' j m ha = ha
links_moved (MoreLinks operator x links) h a a' S v d e e' j m ha =
    links_moved links h.1 (word_on (strict (Arithmetic operator))
    (first_and a (λ i. singly (emit x S e i)) j))
    (word_on (strict (Arithmetic operator))
    (first_and a' (λ i. singly (emit x S e' i)) (wide v d j)))
    S v d e e' j m (ap (word_on (strict (Arithmetic operator)))
    (two_moved a a' x h.0 S v d e e' j m ha))

case_of_moved : (x test result : Expr) (arms : Exprs) → ExprMoved x → ExprMoved test →
    ExprMoved result → EachMoved arms →
    ExprMoved (CaseOf x test result arms)
case_of_moved x test result arms hx ht hr ha S v d e e' j m =
    then_columns_moved (singly (emit x S e j)) (singly (emit x S e' (wide v d j)))
    (λ p k. against_on p (all_arms e (suc p)))
    (λ p k. against_on p (all_arms e' (suc p))) v d j
    (ap singly (hx S v d e e' j m)) (λ p k. arms_moved p)
  where
    all_arms : Env → ℕ → EmittedAll
    all_arms g c = first_and (emit test S g c)
        (λ i. first_and (emit result S g i) (emit_all arms S g) i) c

    arms_moved : (p : ℕ) → against_on (wide v d p) (all_arms e' (suc (wide v d p)))
        ≡ moved v d (against_on p (all_arms e (suc p)))
    arms_moved p =
        ap (λ (c : ℕ). against_on (wide v d p) (all_arms e' c)) (wide_suc v d p)
        ∙ (ap (against_on (wide v d p))
        (first_and_moved (emit test S e (suc p)) (emit test S e' (wide v d (suc p)))
        (λ i. first_and (emit result S e i) (emit_all arms S e) i)
        (λ i. first_and (emit result S e' i) (emit_all arms S e') i) v d (suc p)
        (ht S v d e e' (suc p) m)
        (λ i. first_and_moved (emit result S e i) (emit result S e' (wide v d i))
        (emit_all arms S e) (emit_all arms S e') v d i (hr S v d e e' i m)
        (λ c. all_moved arms ha S v d e e' c m)))
        ∙ ap (λ (ss : Scalars). emitted (moved_nodes v d (all_arms e (suc p)).nodes)
        (word case_word ss))
        (against_moved (all_arms e (suc p)).scalars p v d))

call_moved : (name : List ℕ) (r : Routine) (es : Exprs) → BodyMoved r → EachMoved es →
    ExprMoved (Call name r es)
call_moved name r es hb ha S v d e e' j m =
    let types = parameters_of r in let go : ℕ → ℕ →
    Emitted = λ c k. called (raising es types c) (emit_body r S (passed c k) (c + k)) in
    then_columns_moved (emit_args es types S e j) (emit_args es types S e' (wide v d j)) go go v d j
    (args_moved es ha types S v d e e' j m)
    (λ c k. both called _ _ _ _ (raising_moved es types v d c)
    (ap (emit_body r S (passed (wide v d c) k)) (wide_add v d c k)
    ∙ hb S v d (passed c k) (passed (wide v d c) k) (c + k) (passed_moved c k v d))
    ∙ ap (λ (s : Scalar). emitted (moved_nodes v d (emit_body r S (passed c k) (c + k)).nodes) s)
    (if_values_moved (raising es types c) (emit_body r S (passed c k) (c + k)).scalar v d))

-- Queries inside.
abbrev pub fold_by : PlanTree → List (Aggregate × ℕ) → EmittedAll → (Scalars → Scalar) → ℕ → Emitted
fold_by input ags c use_list n = record {
  nodes = apply_by (constant (Truth true)) (aggregate ags) anew input c.nodes;
  scalar = if_values (n ∷ [])
      (use_list c.scalars);
}

folding_moved : (a b : Folded) (use_list : Scalars → Scalar) (v : Move) (d j : ℕ) →
    UseMoved use_list → FoldedMoved v d (Some a) (Some b) →
    folding b use_list (wide v d j) ≡ moved v d (folding a use_list j)
folding_moved a b use_list v d j hu h =
    let c = a.list j in
    ap (λ (t : PlanTree). fold_by t b.aggregates (b.list (wide v d j)) use_list (wide v d j)) h.0
    ∙ (ap (λ (ags : List (Aggregate × ℕ)). fold_by (moved_tree v d a.input) ags
    (b.list (wide v d j)) use_list (wide v d j)) h.1
    ∙ (ap (λ (x : EmittedAll). fold_by (moved_tree v d a.input) a.aggregates x use_list
    (wide v d j)) (h.2 j)
    ∙ ap (λ (s : Scalar). emitted (apply_by (constant (Truth true)) (aggregate a.aggregates) anew
    (moved_tree v d a.input) (moved_nodes v d c.nodes)) s)
    (ap (if_values (wide v d j ∷ [])) (hu c.scalars v d)
    ∙ if_values_moved (j ∷ []) (use_list c.scalars) v d)))

asked_moved : (kind : Kind) (t t' : PlanTree) (v : Move) (d j : ℕ) → kind ≡ moved_kind v d kind →
    t' ≡ moved_tree v d t →
    asked kind t' (wide v d j) ≡ moved v d (asked kind t j)
asked_moved kind t t' v d j hk ht =
    both (λ (u : PlanTree) (s : Scalar). emitted
    (apply_by (constant (Truth true)) kind anew u no_node) s) _ _ _ _ ht (own_column v d j)
    ∙ ap (λ (k : Kind). emitted (apply_by (constant (Truth true)) k anew (moved_tree v d t) no_node)
    (moved_scalar v d (column 0 j))) hk

ask_moved : (oa ob : Option Folded) (kind : Kind) (use_list : Scalars →
    Scalar) (t t' : PlanTree) (v : Move) (d j : ℕ) → UseMoved use_list →
    kind ≡ moved_kind v d kind → t' ≡ moved_tree v d t → FoldedMoved v d oa ob →
    ask ob kind use_list t' (wide v d j) ≡ moved v d (ask oa kind use_list t j)
ask_moved None None kind use_list t t' v d j hu hk ht h = asked_moved kind t t' v d j hk ht
ask_moved None (Some b) kind use_list t t' v d j hu hk ht h = absurd h
ask_moved (Some a) None kind use_list t t' v d j hu hk ht h = absurd h
ask_moved (Some a) (Some b) kind use_list t t' v d j hu hk ht h =
    folding_moved a b use_list v d j hu h

ask_member_moved : (oa ob : Option Folded) (a a' : Emitted) (t t' : PlanTree) (v : Move) (d j : ℕ) →
    a' ≡ moved v d a → t' ≡ moved_tree v d t →
    FoldedMoved v d oa ob → ask_member ob a' t' (wide v d j) ≡ moved v d (ask_member oa a t j)
ask_member_moved None None a a' t t' v d j ha ht h =
    both (λ (x : Emitted) (u : PlanTree). asked_member x u (wide v d j)) _ _ _ _ ha ht
    ∙ both emitted _ _ _ _ (joined_moved a.nodes
    (apply_by (constant (Truth true)) (member a.scalar) anew t no_node) v d)
    (ap (column 0) (width_moved a.nodes v d j) ∙ own_column v d (width a.nodes j))
ask_member_moved None (Some b) a a' t t' v d j ha ht h = absurd h
ask_member_moved (Some c) None a a' t t' v d j ha ht h = absurd h
ask_member_moved (Some c) (Some b) a a' t t' v d j ha ht h =
    let f = folding c first_value (width a.nodes j) in
    ap (λ (x : Emitted). folded_member x (folding b first_value (width x.nodes (wide v d j)))) ha
    ∙ (ap (λ i. folded_member (moved v d a) (folding b first_value i)) (width_moved a.nodes v d j)
    ∙ (ap (folded_member (moved v d a))
    (folding_moved c b first_value v d (width a.nodes j) first_value_moved h)
    ∙ ap (λ (n : Nodes). emitted n
    (word (strict AnyOf) (more (moved_scalar v d a.scalar)
    (more (moved_scalar v d f.scalar) none))))
    (joined_moved a.nodes f.nodes v d)))

-- Conjuncts.
turned_moved : (own other own' other' : Place) (v : Move) (d : ℕ) → own' ≡ moved_place v d own →
    other' ≡ moved_place v d other →
    turned own' other' ≡ moved v d (turned own other)
turned_moved own other own' other' v d p q =
    both (λ (s t : Scalar). plain (word (strict (Comparing Equals)) (more s (more t none)))) _ _ _ _
    (ap read p ∙ read_moved own v d)
    (ap read q ∙ read_moved other v d)

abbrev pub KeyMoved : Move → ℕ → Option Key → Option Key → Type 0
KeyMoved v d None None = Unit {0}
KeyMoved v d None (Some b) = ⊥
KeyMoved v d (Some a) None = ⊥
KeyMoved v d (Some a) (Some b) =
    (b.own ≡ moved_place v d a.own) × (b.other ≡ moved_place v d a.other)
    × (b.of_column ≡ a.of_column) × (a.of_column ≡ true → NotGiven a.other)

key_moved : (x : Expr) (v : Move) (d : ℕ) (e e' : Env) → EnvMoved v d e e' →
    KeyMoved v d (key_of x e) (key_of x e')
key_moved (Operate (Comparing Equals)
    (MoreExprs (Column zero i) (MoreExprs (Column (suc c) j) NoExpr))) v d e e' m =
    (m.columns zero i, m.columns (suc c) j, refl, λ h. m.free (suc c) j)
key_moved (Operate (Comparing Equals)
    (MoreExprs (Column (suc c) j) (MoreExprs (Column zero i) NoExpr))) v d e e' m =
    (m.columns zero i, m.columns (suc c) j, refl, λ h. m.free (suc c) j)
key_moved (Operate (Comparing Equals) (MoreExprs (Column zero i) (MoreExprs (Variable j) NoExpr))) v
    d e e' m =
    (m.columns zero i, m.params j, refl, λ h. never h)
key_moved (Operate (Comparing Equals) (MoreExprs (Variable j) (MoreExprs (Column zero i) NoExpr))) v
    d e e' m =
    (m.columns zero i, m.params j, refl, λ h. never h)
key_moved _ v d e e' m = tt

abbrev pub moved_waiting : Move → ℕ → Waiting → Waiting
moved_waiting v d p =
    record { params = moved_tests v d p.params; columns = moved_tests v d p.columns }

waiting_moved : (p : Waiting) (v : Move) (d : ℕ) → all_waiting (moved_waiting v d p)
    ≡ moved_tests v d (all_waiting p)
waiting_moved p v d = sym (append_moved p.params p.columns v d)

abbrev pub StepMoved : Move → ℕ → (Waiting → ℕ → List Emitted) → (Waiting → ℕ → List Emitted) →
    Type 0
StepMoved v d rest rest' = (p : Waiting) (j : ℕ) → rest' (moved_waiting v d p) (wide v d j)
    ≡ moved_tests v d (rest p j)

column_waits_moved : (t : Emitted) (rest rest' : Waiting → ℕ → List Emitted) (p : Waiting)
    (v : Move) (d j : ℕ) → StepMoved v d rest rest' →
    rest' (one_column (moved v d t) (moved_waiting v d p)) (wide v d j)
    ≡ moved_tests v d (rest (one_column t p) j)
column_waits_moved t rest rest' p v d j h =
    ap (λ (cs : List Emitted). rest' (record { params = moved_tests v d p.params; columns = cs })
    (wide v d j))
    (sym (append_moved p.columns (t ∷ []) v d)) ∙ h (one_column t p) j

param_waits_moved : (t : Emitted) (rest rest' : Waiting → ℕ → List Emitted) (p : Waiting) (v : Move)
    (d j : ℕ) → StepMoved v d rest rest' →
    rest' (one_param (moved v d t) (moved_waiting v d p)) (wide v d j)
    ≡ moved_tests v d (rest (one_param t p) j)
param_waits_moved t rest rest' p v d j h =
    ap (λ (ps : List Emitted). rest' (record { params = ps; columns = moved_tests v d p.columns })
    (wide v d j))
    (sym (append_moved p.params (t ∷ []) v d)) ∙ h (one_param t p) j

key_step_moved : (of_column : Bool) (place : Place) (t : Emitted) (rest rest' : Waiting → ℕ →
    List Emitted) (p : Waiting) (v : Move) (d j : ℕ) →
    (of_column ≡ true → NotGiven place) → StepMoved v d rest rest' →
    key_step of_column (moved_place v d place) (moved v d t) rest' (moved_waiting v d p)
    (wide v d j) ≡ moved_tests v d
    (key_step of_column place t rest p j)
key_step_moved true (at level i) t rest rest' p v d j f h =
    column_waits_moved t rest rest' p v d j h
key_step_moved true (given i) t rest rest' p v d j f h = absurd (f refl)
key_step_moved true nowhere t rest rest' p v d j f h =
    ap (λ (ems : List Emitted). moved v d t ∷ ems) (h p j)
key_step_moved false (at level i) t rest rest' p v d j f h =
    param_waits_moved t rest rest' p v d j h
key_step_moved false (given i) t rest rest' p v d j f h = param_waits_moved t rest rest' p v d j h
key_step_moved false nowhere t rest rest' p v d j f h =
    ap (λ (ems : List Emitted). moved v d t ∷ ems) (h p j)

test_step_moved : (key key' : Option Key) (a a' : Emitted) (rest rest' : Waiting → ℕ →
    List Emitted) (p : Waiting) (v : Move) (d j : ℕ) →
    KeyMoved v d key key' → a' ≡ moved v d a → StepMoved v d rest rest' →
    test_step key' a' rest' (moved_waiting v d p) (wide v d j)
    ≡ moved_tests v d (test_step key a rest p j)
test_step_moved None None a a' rest rest' p v d j k ha h =
    let front = all_waiting (moved_waiting v d p) in
    let others = rest none_waits (width a.nodes j) in
    ap (λ (x : Emitted). front ++ x ∷ rest' none_waits (width x.nodes (wide v d j))) ha
    ∙ (ap (λ i. front ++ moved v d a ∷ rest' none_waits i) (width_moved a.nodes v d j)
    ∙ (both (λ (xs ys : List Emitted). xs ++ moved v d a ∷ ys) _ _ _ _ (waiting_moved p v d)
    (h none_waits (width a.nodes j))
    ∙ sym (append_moved (all_waiting p) (a ∷ others) v d)))
test_step_moved None (Some key') a a' rest rest' p v d j k ha h = absurd k
test_step_moved (Some key) None a a' rest rest' p v d j k ha h = absurd k
test_step_moved (Some key) (Some key') a a' rest rest' p v d j k ha h =
    ap (λ b. key_step b key'.other (turned key'.own key'.other) rest' (moved_waiting v d p)
    (wide v d j)) k.2
    ∙ (both (λ (o : Place) (t : Emitted). key_step key.of_column o t rest' (moved_waiting v d p)
    (wide v d j)) _ _ _ _ k.1
    (turned_moved key.own key.other key'.own key'.other v d k.0 k.1)
    ∙ key_step_moved key.of_column key.other (turned key.own key.other) rest rest' p v d j k.3 h)

tests_moved : (es : Exprs) → EachMoved es →
    (S : List ℕ → ℕ) (v : Move) (d : ℕ) (e e' : Env) (j : ℕ) (p : Waiting) → EnvMoved v d e e' →
    emit_tests es S e' (moved_waiting v d p) (wide v d j) ≡ moved_tests v d (emit_tests es S e p j)
tests_moved NoExpr h S v d e e' j p m = waiting_moved p v d
tests_moved (MoreExprs x es) h S v d e e' j p m =
    test_step_moved (key_of x e) (key_of x e') (emit x S e j) (emit x S e' (wide v d j))
    (emit_tests es S e) (emit_tests es S e') p v d j
    (key_moved x v d e e' m) (h.0 S v d e e' j m) (λ q i. tests_moved es h.1 S v d e e' i q m)

-- a query's tests and list
chosen_rows_moved : (tests items : Exprs) → EachMoved tests → EachMoved items →
    (S : List ℕ → ℕ) (v : Move) (d : ℕ) (e e' : Env) (n : ℕ) (t t' : PlanTree) → EnvMoved v d e e' →
    t' ≡ moved_tree v d t →
    selected (emit_tests tests S (entered e' n) none_waits) (emit_all items S (entered e' n)) n t'
    ≡ moved_tree v d
    (selected (emit_tests tests S (entered e n) none_waits) (emit_all items S (entered e n)) n t)
chosen_rows_moved tests items ht hi S v d e e' n t t' m h =
    let inner = entered_moved e e' n v d m in
    selected_moved (emit_tests tests S (entered e n) none_waits)
    (emit_tests tests S (entered e' n) none_waits) (emit_all items S (entered e n))
    (emit_all items S (entered e' n)) n t t' v d
    (tests_moved tests ht S v (suc d) (entered e n) (entered e' n) n none_waits inner)
    (λ i. all_moved items hi S v (suc d) (entered e n) (entered e' n) i inner) h

grouped_moved : (x : From) (tests : Exprs) (k : ℕ) (items : Exprs) (ags : List Aggregate)
    (having list : Exprs) → FromMoved x → EachMoved tests →
    EachMoved items → EachMoved having → EachMoved list →
    QueryMoved (Grouped x tests k items ags having list)
grouped_moved x tests k items ags having list hx ht hi hh hl S v d e e' m =
    chosen_rows_moved having list hh hl S v d e e' (k + length ags) _ _ m
    (both (λ (s : Scalar) (u : PlanTree). filter s (group (places 0 k) (numbered k ags) u)) _ _ _ _
    (all_values_moved (places k (length ags)) v d)
    (chosen_rows_moved tests items ht hi S v d e e' (from_width x S) (from_plan x S e)
    (from_plan x S e') m (hx S v d e e' m)))

rows_moved : (rows : Rows) → RowsMoved rows →
    (S : List ℕ → ℕ) (v : Move) (d : ℕ) (e e' : Env) (j : ℕ) → EnvMoved v d e e' →
    emit_rows rows S e' (wide v d j) ≡ moved_each v d (emit_rows rows S e j)
rows_moved NoRow h S v d e e' j m = refl
rows_moved (MoreRows es rows) h S v d e e' j m =
    let a = emit_all es S e j in
    ap (λ (x : EmittedAll). x ∷ emit_rows rows S e' (width x.nodes (wide v d j)))
    (all_moved es h.0 S v d e e' j m)
    ∙ (ap (λ i. moved_all v d a ∷ emit_rows rows S e' i) (width_moved a.nodes v d j)
    ∙ ap (λ (l : List EmittedAll). moved_all v d a ∷ l)
    (rows_moved rows h.1 S v d e e' (width a.nodes j) m))

values_moved : (rows : Rows) → RowsMoved rows → QueryMoved (Values rows)
values_moved rows h S v d e e' m =
    let n = lifted_moved e e' v d m in
    both (λ (a b : List EmittedAll). values_plan (rows_width rows) a b) _ _ _ _
    (rows_moved rows h S v (suc d) (lifted e) (lifted e') 0 n)
    (rows_moved rows h S v (suc d) (lifted e) (lifted e') 1 n)
    ∙ values_plan_moved (rows_width rows) (emit_rows rows S (lifted e) 0)
    (emit_rows rows S (lifted e) 1) v d

inner_moved : (a b : From) (on : Exprs) → FromMoved a → FromMoved b → EachMoved on →
    FromMoved (Inner a b on)
inner_moved a b on ha hb ho S v d e e' m =
    let n = from_width a S + from_width b S in
    let ts = emit_tests on S (entered e n) none_waits n in let both_sides = cross (from_plan a S e)
    (from_plan b S e) in
    ap (λ (u : PlanTree). settle (keep (places 0 n) u))
    (both (λ (ems : List Emitted) (u : PlanTree). filters ems u) _ _ _ _
    (tests_moved on ho S v (suc d) (entered e n) (entered e' n) n none_waits
    (entered_moved e e' n v d m))
    (both (λ (x y : PlanTree). cross x y) _ _ _ _ (ha S v d e e' m) (hb S v d e e' m))
    ∙ filters_moved ts both_sides v d)

abbrev pub left_by : EmittedAll → ℕ → PlanTree → PlanTree → PlanTree
left_by c k x y = left_outer c.nodes (all_true c.scalars) k x y

left_outer_moved : (a b : From) (on : Exprs) → FromMoved a → FromMoved b → EachMoved on →
    FromMoved (LeftOuter a b on)
left_outer_moved a b on ha hb ho S v d e e' m =
    let n = from_width a S + from_width b S in let c = emit_all on S (entered e n) n in
    let k = from_width b S in
    ap (λ (x : EmittedAll). left_by x k (from_plan a S e') (from_plan b S e'))
    (all_moved on ho S v (suc d) (entered e n) (entered e' n) n (entered_moved e e' n v d m))
    ∙ (both (λ (x y : PlanTree). left_by (moved_all v (suc d) c) k x y) _ _ _ _ (ha S v d e e' m)
    (hb S v d e e' m)
    ∙ ap (λ (ss : Scalars). left_outer (moved_nodes v (suc d) c.nodes) (word and_word ss) k
    (moved_tree v d (from_plan a S e))
    (moved_tree v d (from_plan b S e))) (truths_moved c.scalars v (suc d)))

-- The leaves of a body read its parameters and variables in columns of its own row, which stand
-- where a row outside is moved.
expr_stays : (x : Expr) → ExprMoved x → (S : List ℕ → ℕ) (v : Move) (d : ℕ) →
    ValueStays S v (suc d) (value_leaf x)
expr_stays x hx S v d e m h = let p = sym (hx S v (suc d) e e m h) in
    (λ i. (p i).nodes, λ i. (p i).scalar)

folded_stays : (oa : Option Folded) (v : Move) (d : ℕ) → FoldedMoved v (suc d) oa oa →
    FoldedStays oa v (suc d)
folded_stays None v d h = tt
folded_stays (Some a) v d h =
    (sym h.0, λ j. (λ i. (sym (h.2 j) i).nodes, λ i. (sym (h.2 j) i).scalars))

into_stays : (q : Query) (targets : List body.Target) → QueryMoved q → FoldMoved q →
    (S : List ℕ → ℕ) (v : Move) (d : ℕ) → QueryStays S v (suc d) (query_leaf q) targets
into_stays q targets hq hf S v d = record {
  plan = λ e h. sym (hq S v (suc d) e e h);
  folds = λ e h. folded_stays (folded q S e) v d (hf S v (suc d) e e h);
}

mutual
  pub expr_moved : (x : Expr) → ExprMoved x
  expr_moved (Literal x) = λ S v d e e' j m. refl
  expr_moved (Column c i) =
      λ S v d e e' j m. ap plain (ap read (m.columns c i) ∙ read_moved (e.columns c i) v d)
  expr_moved (Variable i) =
      λ S v d e e' j m. ap plain (ap read (m.params i) ∙ read_moved (e.params i) v d)
  expr_moved (Chain x links) = λ S v d e e' j m. links_moved links (each_link links) (emit x S e j)
      (emit x S e' (wide v d j)) S v d e e' j m
      (expr_moved x S v d e e' j m)
  expr_moved (Operate op es) =
      λ S v d e e' j m. ap (word_on (strict op)) (all_moved es (each_moved es) S v d e e' j m)
  expr_moved (And es) = λ S v d e e' j m.
      ap (word_on and_word) (all_moved es (each_moved es) S v d e e' j m)
  expr_moved (Or es) = λ S v d e e' j m.
      ap (word_on or_word) (all_moved es (each_moved es) S v d e e' j m)
  expr_moved (Case arms) = λ S v d e e' j m.
      ap (word_on case_word) (all_moved arms (each_moved arms) S v d e e' j m)
  expr_moved (CaseOf x test result arms) = case_of_moved x test result arms (expr_moved x)
      (expr_moved test) (expr_moved result) (each_moved arms)
  expr_moved (Coalesce es) =
      λ S v d e e' j m. ap (word_on coalesce_word) (all_moved es (each_moved es) S v d e e' j m)
  expr_moved (In x q) = λ S v d e e' j m.
      ask_member_moved (folded q S e) (folded q S e') (emit x S e j) (emit x S e' (wide v d j))
      (plan q S e) (plan q S e') v d j
      (expr_moved x S v d e e' j m) (query_moved q S v d e e' m) (fold_moved q S v d e e' m)
  expr_moved (Exists q) = λ S v d e e' j m.
      ask_moved (folded q S e) (folded q S e') exists row_stands (plan q S e)
      (plan q S e') v d j row_stands_moved refl (query_moved q S v d e e' m)
      (fold_moved q S v d e e' m)
  expr_moved (Single q) = λ S v d e e' j m.
      ask_moved (folded q S e) (folded q S e') single first_value (plan q S e)
      (plan q S e') v d j first_value_moved refl (query_moved q S v d e e' m)
      (fold_moved q S v d e e' m)
  expr_moved (Call name r es) = call_moved name r es (body_moved r) (each_moved es)
  expr_moved (CallSelf types es) = λ S v d e e' j m. refl

  pub each_link : (links : Links) → LinksMoved links
  each_link NoLink = tt
  each_link (MoreLinks operator x links) = (expr_moved x, each_link links)

  pub each_moved : (es : Exprs) → EachMoved es
  each_moved NoExpr = tt
  each_moved (MoreExprs x es) = (expr_moved x, each_moved es)

  pub body_moved : (r : Routine) → BodyMoved r
  body_moved (Returned types returns x) = λ S v d e e' j m.
      ap (assigning_in (returns ∷ [])) (expr_moved x S v d e e' j m)
      ∙ assigning_in_moved (returns ∷ []) (emit x S e j) v d
  body_moved (Function false types returns false statement) = λ S v d e e' j m.
      called_moved (constant (Truth true)) (constant (Truth true))
      (body.Body types returns (stmt_body statement)) S v d refl
      (stmt_moved statement S v d) e e' j m
  body_moved (Function false types returns true statement) = λ S v d e e' j m.
      known_moved (body.Body types returns (stmt_body statement)) S v d
      (stmt_moved statement S v d) e e' j m
  body_moved _ = λ S v d e e' j m. refl

  pub perhaps_moved : (text : Perhaps) (S : List ℕ → ℕ) (v : Move) (d : ℕ) →
      PerhapsHolds (perhaps_body text) (ValueStays S v (suc d))
  perhaps_moved Without S v d = tt
  perhaps_moved (With x) S v d = expr_stays x (expr_moved x) S v d

  pub variables_moved : (vs : Variables) (S : List ℕ → ℕ) (v : Move) (d : ℕ) →
      VariablesHold (variables_body vs) (ValueStays S v (suc d))
  variables_moved NoVariable S v d = tt
  variables_moved (MoreVariables k t default others) S v d =
      (perhaps_moved default S v d, variables_moved others S v d)

  pub stmt_moved : (s : Stmt) (S : List ℕ → ℕ) (v : Move) (d : ℕ) →
      Holds (stmt_body s) (ValueStays S v (suc d)) (QueryStays S v (suc d))
  stmt_moved (Compound atomic variables cursors handlers statements) S v d = (
    variables_moved variables S v d,
    handlers_moved handlers S v d,
    stmts_moved statements S v d,
  )
  stmt_moved (If branches otherwise) S v d =
      (branches_moved branches S v d, stmts_moved otherwise S v d)
  stmt_moved (SearchedCase branches otherwise) S v d =
      (branches_moved branches S v d, stmts_moved otherwise S v d)
  stmt_moved (SimpleCase x branches otherwise) S v d = (
    expr_stays x (expr_moved x) S v d,
    branches_moved branches S v d,
    stmts_moved otherwise S v d,
  )
  stmt_moved (Set t x) S v d = expr_stays x (expr_moved x) S v d
  stmt_moved (SelectInto q targets) S v d =
      into_stays q targets (query_moved q) (fold_moved q) S v d
  stmt_moved (Signal state text) S v d = perhaps_moved text S v d
  stmt_moved (Resignal state text) S v d = perhaps_moved text S v d
  stmt_moved (GetStatementItems area reads) S v d = tt
  stmt_moved (GetConditionItems area number reads) S v d =
      expr_stays number (expr_moved number) S v d
  stmt_moved (Leave outwards) S v d = tt
  stmt_moved (Return x) S v d = expr_stays x (expr_moved x) S v d
  stmt_moved _ S v d = tt

  pub stmts_moved : (ss : Stmts) (S : List ℕ → ℕ) (v : Move) (d : ℕ) →
      AllHold (stmts_body ss) (ValueStays S v (suc d)) (QueryStays S v (suc d))
  stmts_moved NoStmt S v d = tt
  stmts_moved (MoreStmts s ss) S v d = (stmt_moved s S v d, stmts_moved ss S v d)

  pub branches_moved : (bs : Branches) (S : List ℕ → ℕ) (v : Move) (d : ℕ) →
      BranchesHold (branches_body bs) (ValueStays S v (suc d)) (QueryStays S v (suc d))
  branches_moved NoBranch S v d = tt
  branches_moved (MoreBranches test statements others) S v d = (
    expr_stays test (expr_moved test) S v d,
    stmts_moved statements S v d,
    branches_moved others S v d,
  )

  pub handlers_moved : (hs : Handlers) (S : List ℕ → ℕ) (v : Move) (d : ℕ) →
      HandlersHold (handlers_body hs) (ValueStays S v (suc d)) (QueryStays S v (suc d))
  handlers_moved NoHandler S v d = tt
  handlers_moved (MoreHandlers kind takes action others) S v d =
      (stmt_moved action S v d, handlers_moved others S v d)

  pub query_moved : (q : Query) → QueryMoved q
  query_moved (Select items x tests) = λ S v d e e' m.
      chosen_rows_moved tests items (each_moved tests) (each_moved items) S v d e e'
      (from_width x S) (from_plan x S e) (from_plan x S e') m
      (from_moved x S v d e e' m)
  query_moved (Grouped x tests k items ags having list) =
      grouped_moved x tests k items ags having list (from_moved x) (each_moved tests)
      (each_moved items) (each_moved having) (each_moved list)
  query_moved (Values rows) = values_moved rows (rows_each rows)
  query_moved (Ordered q keys) = λ S v d e e' m. ap (sort keys) (query_moved q S v d e e' m)

  pub rows_each : (rows : Rows) → RowsMoved rows
  rows_each NoRow = tt
  rows_each (MoreRows es rows) = (each_moved es, rows_each rows)

  pub fold_moved : (q : Query) → FoldMoved q
  fold_moved (Grouped x tests zero items (a ∷ ags) NoExpr list) = λ S v d e e' m. (
    chosen_rows_moved tests items (each_moved tests) (each_moved items) S v d e e' (from_width x S)
        (from_plan x S e) (from_plan x S e') m
        (from_moved x S v d e e' m),
    refl,
    λ j. ap (emit_all list S (folded_env e' (wide v d j) (suc (length ags))))
        (wide_add v d j (suc (length ags)))
        ∙ all_moved list (each_moved list) S v d (folded_env e j (suc (length ags)))
        (folded_env e' (wide v d j) (suc (length ags)))
        (j + suc (length ags)) (folded_moved e e' j (suc (length ags)) v d m),
  )
  fold_moved _ = λ S v d e e' m. tt

  pub from_moved : (x : From) → FromMoved x
  from_moved (Table t) = λ S v d e e' m. refl
  from_moved (Derived q) = λ S v d e e' m. ap settle (query_moved q S v d e e' m)
  from_moved (Cross a b) = λ S v d e e' m. both (λ (x y : PlanTree). cross x y) _ _ _ _
      (from_moved a S v d e e' m) (from_moved b S v d e e' m)
  from_moved (Inner a b on) = inner_moved a b on (from_moved a) (from_moved b) (each_moved on)
  from_moved (LeftOuter a b on) =
      left_outer_moved a b on (from_moved a) (from_moved b) (each_moved on)

pub merged_plans : MergedPlans
merged_plans r S m k =
    ap (emit_body r S (passed m k)) (let e : m + k ≡ m + k + 0 = omega arith in e)
    ∙ body_moved r S (after_arguments m k) 0 (top k) (passed m k) 0
    (record {
      columns = λ c i. refl;
      params = λ i. below_moved k i (given i) (at 0 (m + i)) (after_arguments m k) 0 refl;
      free = λ c i. tt;
    })
