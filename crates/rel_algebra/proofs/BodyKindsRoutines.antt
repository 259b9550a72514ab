-- The plan of a body is well kinded, where its leaves are, and its targets, defaults and result
-- take what they are given: tests, declarations, compound statements, and the function.
use Rattle.std.proofs.Common.{◌≡◌, ℕ, zero, suc, ◌+◌, ◌-◌, ◌<◌, Bool, true, false, ◌||◌}
use Rattle.std.proofs.Common.{◌&&◌}
use Rattle.std.proofs.Common.{List, [], ◌∷◌, ◌++◌, length, take, replicate, refl}
use Rattle.std.proofs.Common.{sym, ap, ◌∙◌, subst, arith, append_assoc, length-append}
use Rattle.std.proofs.lemmas.List.{append-nil, length-replicate}
use Rattle.sql_values.specs.declared.value.SqlType.{SqlType}
use Rattle.sql_values.specs.declared.value.SqlType.TheVariants.{Integer, Varchar, Boolean}
use Rattle.sql_values.specs.declared.value.Value.TheVariants.{Bool as Truth}
use Rattle.sql_values.specs.declared.operators.Comparison.TheVariants.{Equals}
use Rattle.rel_algebra.specs.Tree.{Assign, Comparing}
use Rattle.rel_algebra.specs.Emit.{Emitted, Env as Reading, Place, assigning, at, given, nowhere}
use Rattle.rel_algebra.specs.Emit.{outward, read, width}
use Rattle.rel_algebra.specs.Joins.{places}
use Rattle.rel_algebra.specs.Kinds.{NullKind, joined_kind}
use Rattle.rel_algebra.specs.Plan.{coalesce_word}
use Rattle.rel_algebra.specs.Kinds.{BooleanKind, DataKind, IntegerKind, Kinds, NullKind, agree}
use Rattle.rel_algebra.specs.Kinds.{assigned_kind, kind_at, kinds_at, scalar_good}
use Rattle.rel_algebra.specs.Kinds.{is_test, scalar_kind, scalars_good, scalars_kinds, table_widths}
use Rattle.rel_algebra.specs.Kinds.{tests_good, tree_good, tree_kinds, type_kind}
use Rattle.rel_algebra.specs.Plan.{no_node, Scalar, Scalars, none, more, word, case_word, strict}
use Rattle.rel_algebra.specs.Plan.{constant, extend, unit_row}
use Rattle.rel_algebra.proofs.Truths.{and_true}
use Rattle.rel_algebra.proofs.KindNodes.{PlanIs, Yields, after_grow, kinds_wider}
use Rattle.rel_algebra.proofs.KindRows.{KindsGrow, first_kinds_columns, kinds_grow_at}
use Rattle.rel_algebra.proofs.KindRows.{kinds_grow_by, kinds_grow_same, kinds_grow_trans}
use Rattle.rel_algebra.proofs.KindRows.{kinds_grown_column, kinds_grown_columns}
use Rattle.rel_algebra.proofs.KindWords.{HaveAll, agree_null, agree_turned, join_null, read_good}
use Rattle.rel_algebra.proofs.KindWords.{tested}
use Rattle.rel_algebra.specs.Bodies.{Without, With, Stmt, Compound, If, SearchedCase}
use Rattle.rel_algebra.specs.Bodies.{SimpleCase, Set, SelectInto, Signal, Resignal}
use Rattle.rel_algebra.specs.Bodies.{GetStatementItems}
use Rattle.rel_algebra.specs.Bodies.{GetConditionItems, Leave, Return, Stmts, NoStmt, MoreStmts}
use Rattle.rel_algebra.specs.Bodies.{Branches, NoBranch, MoreBranches, Variables, NoVariable}
use Rattle.rel_algebra.specs.Bodies.{MoreVariables, Handlers, NoHandler, MoreHandlers, Body}
use Rattle.rel_algebra.specs.BodyChain.{null_of, assigned_as, inline_with, Rest, reading, emitted}
use Rattle.rel_algebra.specs.BodyChain.{with_column, with_variables, case_not_found_cell, and_on}
use Rattle.rel_algebra.specs.BodyChain.{branching, not_found, equal_to, inside, ending_env, its_own}
use Rattle.rel_algebra.specs.BodyChain.{ending, ending_width, whole_raise, variable_count}
use Rattle.rel_algebra.specs.BodyChain.{has_default, null_scalars, emit, emit_all, emit_else}
use Rattle.rel_algebra.specs.BodyChain.{emit_branches, emit_matching, emit_declares, coded, top}
use Rattle.rel_algebra.specs.BodyChain.{raised_area, last_cell, first_cells, called_body, of_type}
use Rattle.rel_algebra.specs.BodyChain.{all_known, known_body, knowns, read_outward}
use Rattle.rel_algebra.specs.BodyChain.{without_return_cell}
use Rattle.rel_algebra.specs.BodyCompounds.{scopes_in}
use Rattle.rel_algebra.specs.BodyDispatch.{Env, Emit, Coded, Codes, count, judging, raising_to}
use Rattle.rel_algebra.specs.BodyDispatch.{scope_arms, scope_actions, whatever, action_env}
use Rattle.rel_algebra.specs.BodyDispatch.{dispatch}
use Rattle.rel_algebra.specs.BodyDispatch.{joins, handled}
use Rattle.rel_algebra.specs.Kinds.{type_kinds}
use Rattle.rel_algebra.specs.Leaves.{ValueLeaf}
use Rattle.rel_algebra.specs.BodySteps.{Step, grow, fat, store, jump, only, two, col, tag, case_of}
use Rattle.rel_algebra.specs.BodySteps.{code_is, steps_tree}
use Rattle.rel_algebra.proofs.BodyBase.{both}
use Rattle.rel_algebra.proofs.BodyKindsStatements.{Yielded, again_goes, condition_goes, into_goes}
use Rattle.rel_algebra.proofs.BodyKindsStatements.{one_at}
use Rattle.rel_algebra.proofs.BodyKindsStatements.{one_long, return_goes, set_goes, signal_goes}
use Rattle.rel_algebra.proofs.BodyKindsStatements.{statement_goes}
use Rattle.rel_algebra.proofs.BodyKindsHeld.{AllKinds, BranchesKinds, Gives, HandlersKinds}
use Rattle.rel_algebra.proofs.BodyKindsHeld.{RoutineKinds}
use Rattle.rel_algebra.proofs.BodyKindsHeld.{StmtKinds, VariablesKinds, made_types}
use Rattle.rel_algebra.proofs.BodyKindsHandled.{CodesAre, EmitIs, HandlersAre, RestIs, area_stands}
use Rattle.rel_algebra.proofs.BodyKindsHandled.{arms_code, codes_on, dispatch_code, handled_goes}
use Rattle.rel_algebra.proofs.BodyKindsHandled.{joins_step, judging_are, raising_are}
use Rattle.rel_algebra.proofs.BodyKindsHandled.{scope_arms_good}
use Rattle.rel_algebra.proofs.BodyKindsHandled.{scope_goes, stands_take}
use Rattle.rel_algebra.proofs.BodyKindsSteps.{AreAll, Around, Goes, Is, Stands, acts_are, after}
use Rattle.rel_algebra.proofs.BodyKindsSteps.{assigning_is, code_good, code_store, expr_is}
use Rattle.rel_algebra.proofs.BodyKindsSteps.{goes_append, jump_goes, kinds_at_append, more_are}
use Rattle.rel_algebra.proofs.BodyKindsSteps.{never_null, one_good, reading_kinds, same_agrees}
use Rattle.rel_algebra.proofs.BodyKindsSteps.{stands_on}
use Rattle.rel_algebra.proofs.BodyKindsSteps.{joined_takes, steps_are, then_goes, two_are}
use Rattle.rel_algebra.proofs.BodyKindsSteps.{word_is}

-- ---- tests

and_on_goes : (A : Around) (ts : List SqlType) (m : ℕ) (k : DataKind) (body : Emit) →
    EmitIs A ts body → RestIs A ts m k (and_on body)
and_on_goes A ts m k body b env from here base free n r km ml st =
    goes_append A (body env from free n) (jump from here n ∷ []) r r r (b env from free n r st)
    (jump_goes A from here n [] env.columns ts r r st refl)

not_found_goes : (A : Around) (ts : List SqlType) (m : ℕ) (k : DataKind) (cs : Codes) →
    RestIs A ts m k (not_found cs)
not_found_goes A ts m k cs env from here base free n r km ml st =
    let s = case_not_found_cell in let pre = with_column no_node s in let q = after A pre r in
    let long = one_long A no_node s r n NullKind st.long (refl, refl) in
    let wide = stands_on A env.columns ts r q n (suc n) st
    (after_grow pre A.tables r A.outer A.args) long in
    then_goes A from pre (suc n) (raising_to cs env base here n) n [] env.columns ts r r st
    (one_good A no_node s r NullKind refl (refl, refl)) long
    (raising_are A cs env base here n env.columns ts q (suc n) wide) refl

-- to one of two codes
test_is : (A : Around) (p i j : ℕ) (q : Kinds) (k : DataKind) → kind_at q p ≡ k →
    agree k BooleanKind ≡ true → Is A (case_of (col p) (tag i) (tag j)) q IntegerKind
test_is A p i j q k e g =
    word_is A case_word (more (col p) (two (tag i) (tag j))) q (k ∷ IntegerKind ∷ IntegerKind ∷ [])
    (more_are A (col p) (two (tag i) (tag j)) q k (IntegerKind ∷ IntegerKind ∷ []) (e, refl)
    (two_are A (tag i) (tag j) q IntegerKind IntegerKind (refl, refl) (refl, refl)))
    (and_true (agree k BooleanKind) true g refl)

branching_goes : (A : Around) (ts : List SqlType) (m : ℕ) (k : DataKind)
    (test : Env → ℕ → Emitted) →
    ((env : Env) (n : ℕ) (r : Kinds) → kind_at r m ≡ k → m < length r →
    Stands A env.columns ts r n → Yielded A (test env n) r BooleanKind) →
    (cs : Codes) (body : Emit) → EmitIs A ts body → (rest : Rest) → RestIs A ts m k rest →
    RestIs A ts m k (branching test cs body rest)
branching_goes A ts m k test t cs body b rest h env from here base free n r km ml st =
    let a = test env n in let p = width a.nodes n in let y = t env n r km ml st in
    let x = y.yields.1 (after A a.nodes r) (kinds_grow_same (after A a.nodes r)) in
    let pre = with_column a.nodes a.scalar in let q = after A pre r in
    let long = one_long A a.nodes a.scalar r n y.kind st.long x in
    let wide = stands_on A env.columns ts r q n (suc p) st
    (after_grow pre A.tables r A.outer A.args) long in
    let goes = case_of (col p) (tag free) (tag (suc free)) in
    then_goes A from pre (suc p) (judging goes cs env base here p []) n
    (body env free (suc (suc free)) n ++ jump free here n ∷ rest env (suc free) here base
    (suc (suc free)) n) env.columns ts r r st (one_good A a.nodes a.scalar r y.kind y.yields.0 x)
    long
    (judging_are A goes cs env base here p [] env.columns ts q (suc p) wide
    (test_is A p free (suc free) q y.kind
    (one_at A a.nodes a.scalar r q n y.kind st.long x (kinds_grow_same q)) y.takes) tt)
    (goes_append A (body env free (suc (suc free)) n)
    (jump free here n ∷ rest env (suc free) here base (suc (suc free)) n) r r r
    (b env free (suc (suc free)) n r st)
    (jump_goes A free here n (rest env (suc free) here base (suc (suc free)) n) env.columns ts r r
    st (h env (suc free) here base (suc (suc free)) n r km ml st)))

gives_is : (A : Around) (ts : List SqlType) (k : DataKind) (e : ValueLeaf) →
    Gives A.tables ts k e → (env : Env) (n : ℕ) (r : Kinds) → Stands A env.columns ts r n →
    Yielded A (emitted e (table_widths A.tables) env n) r k
gives_is A ts k e s env n r st = record {
  kind = s.own.kind;
  yields = expr_is A ts e s.own.kind s.own.yields env r n st;
  takes = s.takes;
}

equal_is : (A : Around) (ts : List SqlType) (m : ℕ) (k : DataKind) (e : ValueLeaf) →
    Gives A.tables ts k e → (env : Env) (n : ℕ) (r : Kinds) → kind_at r m ≡ k → m < length r →
    Stands A env.columns ts r n →
    Yielded A (equal_to m (emitted e (table_widths A.tables) env n)) r BooleanKind
equal_is A ts m k e s env n r km ml st =
    let a = emitted e (table_widths A.tables) env n in let j = s.own.kind in
    let y = expr_is A ts e j s.own.yields env r n st in
    record {
      kind = BooleanKind;
      yields = (
        y.0,
        λ z g. word_is A (strict (Comparing Equals)) (two (col m) a.scalar) z (k ∷ j ∷ [])
            (two_are A (col m) a.scalar z k j (
              kinds_grow_at r z m (kinds_grow_trans r (after A a.nodes r) z
                  (after_grow a.nodes A.tables r A.outer A.args) g) ml ∙ km,
              refl,
            ) (y.1 z g)) (agree_turned j k s.takes),
      );
      takes = refl;
    }

-- ---- declarations

null_is : (A : Around) (t : SqlType) (q : Kinds) → Is A (null_of t) q (type_kind t)
null_is A Integer q = (refl, refl)
null_is A (Varchar n) q = (refl, refl)
null_is A Boolean q = (refl, refl)

-- what a target of a type takes has the type's kind
pub assigned_is : (A : Around) (t : SqlType) (s : Scalar) (q : Kinds) (k : DataKind) →
    Is A s q k → agree k (type_kind t) ≡ true → Is A (assigned_as t s) q (type_kind t)
assigned_is A t s q k h g =
    word_is A (strict (Assign t)) (only s) q (k ∷ []) (more_are A s none q k [] h (refl, refl)) g

nulls_are : (A : Around) (t : SqlType) (k : ℕ) (q : Kinds) →
    AreAll A (null_scalars t k) q (type_kinds (replicate k t))
nulls_are A t zero q = (refl, refl)
nulls_are A t (suc k) q =
    more_are A (null_of t) (null_scalars t k) q (type_kind t) (type_kinds (replicate k t))
    (null_is A t q) (nulls_are A t k q)

types_append : (a b : List SqlType) → type_kinds (a ++ b) ≡ type_kinds a ++ type_kinds b
types_append [] b = refl
types_append (t ∷ a) b = ap (λ (js : Kinds). type_kind t ∷ js) (types_append a b)

types_long : (ts : List SqlType) → length (type_kinds ts) ≡ length ts
types_long [] = refl
types_long (t ∷ ts) = ap suc (types_long ts)

made_long : (vs : Variables) → length (made_types vs) ≡ variable_count vs
made_long NoVariable = refl
made_long (MoreVariables k t default others) =
    length-append (replicate k t) (made_types others)
    ∙ both (λ (a b : ℕ). a + b) _ _ _ _ (length-replicate k t) (made_long others)

-- variables more, in the columns behind
within_stands : (A : Around) (cs : List ℕ) (ts us : List SqlType) (r : Kinds) (n k : ℕ) →
    length us ≡ k → Stands A cs ts r n →
    Stands A (cs ++ places n k) (ts ++ us) (r ++ type_kinds us) (n + k)
within_stands A cs ts us r n k l st =
    let x = type_kinds us in let lx : length x ≡ k = types_long us ∙ l in
    let wide = stands_on A cs ts r (r ++ x) n (n + k) st (kinds_grow_by r x)
    (kinds_wider r x n k st.long lx) in
    record {
      long = wide.long;
      code = wide.code;
      result = wide.result;
      area = wide.area;
      columns = kinds_at_append (r ++ x) cs (places n k)
          ∙ (both (λ (a b : Kinds). a ++ b) _ _ _ _ wide.columns
          (kinds_grown_columns r x (r ++ x) n k st.long lx (kinds_grow_same (r ++ x)))
          ∙ sym (types_append ts us));
    }

same_kinds : (k p : ℕ) (z : Kinds) (t : SqlType) → kind_at z p ≡ type_kind t →
    kinds_at z (replicate k p) ≡ type_kinds (replicate k t)
same_kinds zero p z t h = refl
same_kinds (suc k) p z t h =
    both (λ (a : DataKind) (b : Kinds). a ∷ b) _ _ _ _ h (same_kinds k p z t h)

more_made : (A : Around) (ss : List Step) (r : Kinds) (a b : List SqlType) →
    Goes A ss (r ++ type_kinds a) ((r ++ type_kinds a) ++ type_kinds b) →
    Goes A ss (r ++ type_kinds a) (r ++ type_kinds (a ++ b))
more_made A ss r a b g = subst (λ (j : Kinds). Goes A ss (r ++ type_kinds a) j)
    (append_assoc r (type_kinds a) (type_kinds b)
    ∙ ap (λ (j : Kinds). r ++ j) (sym (types_append a b))) g

declares_go : (A : Around) (vs : Variables) (ts : List SqlType) → VariablesKinds vs A.tables ts →
    (cs : Codes) (env : Env) (from here base free n : ℕ) (r : Kinds) →
    Stands A env.columns ts r n →
    Goes A (emit_declares vs (table_widths A.tables) cs env from here base free n) r
    (r ++ type_kinds (made_types vs))
declares_go A NoVariable ts s cs env from here base free n r st = sym (append-nil r)
declares_go A (MoreVariables k t Without others) ts s cs env from here base free n r st =
    let us = replicate k t in let x = nulls_are A t k r in
    let W = with_variables env n k in (
      r ++ type_kinds us,
      (x.1, ap (λ (j : Kinds). r ++ j) x.0),
      more_made A (emit_declares others (table_widths A.tables) cs W from here base free (n + k)) r
          us (made_types others)
          (declares_go A others (ts ++ us) s.1 cs W from here base free (n + k)
          (r ++ type_kinds us)
          (within_stands A env.columns ts us r n k (length-replicate k t) st)),
    )
declares_go A (MoreVariables k t (With e) others) ts s cs env from here base free n r st =
    let us = replicate k t in let W = with_variables env n k in
    let a = emitted e (table_widths A.tables) env n in let p = width a.nodes n in
    let kd = s.0.own.kind in let y = expr_is A ts e kd s.0.own.yields env r n st in
    let q0 = after A a.nodes r in
    let x = assigned_is A t a.scalar q0 kd (y.1 q0 (kinds_grow_same q0)) s.0.takes in
    let new = assigned_as t a.scalar in let pre = with_column a.nodes new in
    let q = after A pre r in let long = one_long A a.nodes new r n (type_kind t) st.long x in
    let wide = stands_on A env.columns ts r q n (suc p) st
    (after_grow pre A.tables r A.outer A.args) long in (
      r ++ type_kinds us,
      acts_are A from pre (suc p) (judging (tag from) cs env base here p []) n (replicate k p)
          env.columns ts r (type_kinds us) st
          (one_good A a.nodes new r (type_kind t) y.0 x) long
          (judging_are A (tag from) cs env base here p [] env.columns ts q (suc p) wide
          (refl, refl) tt)
          (λ z g. same_kinds k p z t (one_at A a.nodes new r z n (type_kind t) st.long x g)),
      more_made A (emit_declares others (table_widths A.tables) cs W from here base free (n + k)) r
          us (made_types others)
          (declares_go A others (ts ++ us) s.1 cs W from here base free (n + k)
          (r ++ type_kinds us)
          (within_stands A env.columns ts us r n k (length-replicate k t) st)),
    )

-- ---- compound statements

-- the row at the end
abbrev ending_row : List Coded → Kinds → Kinds
ending_row [] r = r
ending_row (c ∷ cs) r = r ++ kind_at r 2 ∷ []

ending_grows : (own : List Coded) (r : Kinds) → KindsGrow r (ending_row own r)
ending_grows [] r = kinds_grow_same r
ending_grows (c ∷ cs) r = kinds_grow_by r (kind_at r 2 ∷ [])

ending_long : (own : List Coded) (r : Kinds) (n : ℕ) → length r ≡ n →
    length (ending_row own r) ≡ ending_width own n
ending_long [] r n l = l
ending_long (c ∷ cs) r n l = kinds_wider r (kind_at r 2 ∷ []) n 1 l refl
    ∙ (let s : n + 1 ≡ suc n = omega arith in s)

ending_goes : (A : Around) (ts : List SqlType) (own : List Coded) (env : Env) →
    HandlersAre A (take (length env.columns) ts) own → (exit first free n : ℕ) (r : Kinds) →
    Stands A env.columns ts r n →
    Goes A (ending own env exit first free n) r (ending_row own r)
ending_goes A ts [] env h exit first free n r st = refl
ending_goes A ts (c ∷ cs) env h exit first free n r st =
    let z = r ++ kind_at r 2 ∷ [] in let v = length env.columns in
    let arms = scope_arms its_own (c ∷ cs) first 2 (only (tag (env.exits env.level))) in
    let good = scope_arms_good A its_own (c ∷ cs) first 2 (only (tag (env.exits env.level))) r
    (refl, refl, refl) in
    let wide = area_stands A env.columns ts r n st in
    then_goes A exit no_node n (store 0 (word case_word arms) ∷ []) n
    (grow (only (col 2)) ∷ scope_actions whatever (c ∷ cs) (action_env env env.level v n) first
    free (suc n)) env.columns ts r z st refl st.long
    (code_store A env.columns ts r n (word case_word arms) st (arms_code A arms r good), tt) (
      z,
      (refl, refl),
      scope_goes A whatever (λ kind ss j g. g) (take v ts) (c ∷ cs) h
          (action_env env env.level v n) first free (suc n) z
          (stands_take A env.columns ts z (suc n) v wide),
    )

whole_goes : (A : Around) (ts : List SqlType) (whole atomic : Bool) (cs : Codes) →
    CodesAre A ts cs → (env : Env) (sealing here base free n : ℕ) (r : Kinds) →
    Stands A env.columns ts r n →
    Goes A (whole_raise whole atomic cs env sealing here base free n) r r
whole_goes A ts false atomic cs h env sealing here base free n r st = refl
whole_goes A ts true false cs h env sealing here base free n r st =
    handled_goes A ts cs h env here base free n r st
whole_goes A ts true true cs h env sealing here base free n r st =
    let s = word case_word (dispatch cs env base here 2) in
    then_goes A sealing no_node n (store 0 s ∷ []) n (handled cs env here base free n) env.columns
    ts r r st refl st.long
    (code_store A env.columns ts r n s st (dispatch_code A cs env base here 2 r), tt)
    (handled_goes A ts cs h env here base free n r st)

scopes_are : (A : Around) (ts : List SqlType) (atomic : Bool) (cs : Codes) → CodesAre A ts cs →
    CodesAre A ts (scopes_in atomic cs)
scopes_are A ts true cs h = tt
scopes_are A ts false cs h = h

take_all : (ts : List SqlType) (v : ℕ) → v ≡ length ts → take v ts ≡ ts
take_all [] zero h = refl
take_all [] (suc v) h = absurd (omega arith)
take_all (t ∷ ts) zero h = absurd (omega arith)
take_all (t ∷ ts) (suc v) h = ap (λ (js : List SqlType). t ∷ js) (take_all ts v (omega arith))

columns_long : (r : Kinds) (cs : List ℕ) (ts : List SqlType) → kinds_at r cs ≡ type_kinds ts →
    length cs ≡ length ts
columns_long r cs ts h =
    sym (long cs) ∙ (ap (λ (j : Kinds). length j) h ∙ types_long ts)
  where
    long : (is : List ℕ) → length (kinds_at r is) ≡ length is
    long [] = refl
    long (i ∷ is) = ap suc (long is)

first_there : (r : Kinds) → kind_at r 0 ≡ IntegerKind → 0 < length r
first_there [] h = absurd (never_null Integer h)
first_there (k ∷ r) h = omega arith

-- ---- all statements

mutual
  stmt_goes : (s : Stmt) (A : Around) (ts : List SqlType) → StmtKinds s A.tables A.returns ts →
      (cs : Codes) → CodesAre A ts cs → EmitIs A ts (emit s (table_widths A.tables) cs)
  stmt_goes (Compound atomic variables handlers body) A ts s cs h = λ env here next n r st.
      let S = table_widths A.tables in let outer = scopes_in atomic cs in
      let own = coded handlers S outer in let us = ts ++ made_types variables in
      let oh : CodesAre A us outer = codes_on A ts (made_types variables) outer
      (scopes_are A ts atomic cs h) in
      let good : HandlersAre A us own = coded_go handlers A us s.1 outer oh in
      let sealing = next + count cs in let exit = suc sealing in let runs = suc exit in
      let first = suc runs in let free = first + length own in
      let k = variable_count variables in let m = n + k in let W = with_variables env n k in
      let x = type_kinds (made_types variables) in let r1 = r ++ x in
      let wide = within_stands A env.columns ts (made_types variables) r n k
      (made_long variables) st in
      let v = length W.columns in let lv = columns_long r1 W.columns us wide.columns in
      let taken : HandlersAre A (take v us) own =
      subst (λ (js : List SqlType). HandlersAre A js own) (sym (take_all us v lv)) good in
      let inner : Codes = record { handlers = own; level = env.level; variables = v } ∷ outer in
      let I = inside atomic own W here exit sealing in
      let N = ending_env atomic W here sealing in
      let raise = whole_raise (atomic || has_default variables) atomic cs env sealing here next free
      n in
      let z = ending_row own r1 in
      let last = joins runs (suc (length own)) here (ending_width own m) n in
      let grown = kinds_grow_trans r r1 z (kinds_grow_by r x) (ending_grows own r1) in
      jump_goes A here runs n (emit_declares variables S cs env runs here next free n
      ++ (emit_all body S inner I runs free m ++ (ending own N exit first free m ++ last ∷ raise)))
      env.columns ts r r st
      (goes_append A (emit_declares variables S cs env runs here next free n)
      (emit_all body S inner I runs free m ++ (ending own N exit first free m ++ last ∷ raise)) r
      r1 r (declares_go A variables ts s.0 cs env runs here next free n r st)
      (goes_append A (emit_all body S inner I runs free m)
      (ending own N exit first free m ++ last ∷ raise) r1 r1 r
      (stmts_go body A us s.2 inner (taken, (omega (arith, lv)), oh) I runs free m r1 wide)
      (goes_append A (ending own N exit first free m) (last ∷ raise) r1 z r
      (ending_goes A us own N taken exit first free m r1 wide) (
        r,
        joins_step A runs (suc (length own)) here (ending_width own m) n env.columns ts r z st
            grown (ending_long own r1 m wide.long),
        whole_goes A ts (atomic || has_default variables) atomic cs h env sealing here next free
            n r st,
      ))))
  stmt_goes (If branches otherwise) A ts s cs h = λ env here next n r st.
      let S = table_widths A.tables in let free = next + count cs in
      let rest = and_on (emit_all otherwise S cs) in
      goes_append A (emit_branches branches S cs rest env here here next free n)
      (handled cs env here next free n) r r r
      (tests_go branches A ts s.0 cs h rest
      (and_on_goes A ts 0 IntegerKind (emit_all otherwise S cs)
      (stmts_go otherwise A ts s.1 cs h)) env here here next free n r st.code
      (first_there r st.code) st)
      (handled_goes A ts cs h env here next free n r st)
  stmt_goes (SearchedCase branches otherwise) A ts s cs h = λ env here next n r st.
      let S = table_widths A.tables in let free = next + count cs in
      let rest = emit_else otherwise S cs in
      goes_append A (emit_branches branches S cs rest env here here next free n)
      (handled cs env here next free n) r r r
      (tests_go branches A ts s.0 cs h rest (else_goes otherwise A ts 0 IntegerKind s.1 cs h) env
      here here next free n r st.code (first_there r st.code) st)
      (handled_goes A ts cs h env here next free n r st)
  stmt_goes (SimpleCase e branches otherwise) A ts s cs h = λ env here next n r st.
      let S = table_widths A.tables in let k = s.0.kind in
      let a = emitted e S env n in let p = width a.nodes n in
      let y = expr_is A ts e k s.0.yields env r n st in
      let x = y.1 (after A a.nodes r) (kinds_grow_same (after A a.nodes r)) in
      let start = next + count cs in let pre = with_column a.nodes a.scalar in
      let q = after A pre r in let long = one_long A a.nodes a.scalar r n k st.long x in
      let wide = stands_on A env.columns ts r q n (suc p) st
      (after_grow pre A.tables r A.outer A.args) long in
      let z = r ++ k ∷ [] in let rest = emit_else otherwise S cs in
      let lz : length z ≡ suc n = kinds_wider r (k ∷ []) n 1 st.long refl
      ∙ (let e1 : n + 1 ≡ suc n = omega arith in e1) in
      let wider = stands_on A env.columns ts r z n (suc n) st (kinds_grow_by r (k ∷ [])) lz in (
        z,
        acts_are A here pre (suc p) (judging (tag start) cs env next here p []) n (p ∷ [])
            env.columns ts r (k ∷ []) st (one_good A a.nodes a.scalar r k y.0 x) long
            (judging_are A (tag start) cs env next here p [] env.columns ts q (suc p) wide
            (refl, refl) tt)
            (λ j g. ap (λ (i : DataKind). i ∷ [])
            (one_at A a.nodes a.scalar r j n k st.long x g)),
        goes_append A (emit_matching branches n S cs rest env start here next (suc start) (suc n))
            (fat no_node (places 0 n) ∷ handled cs env here next (suc start) n) z z r
            (matching_go branches A ts n k s.1 cs h rest (else_goes otherwise A ts n k s.2 cs h)
            env start here next (suc start) (suc n) z
            (kinds_grown_column r z k n st.long (kinds_grow_same z)) (omega (arith, lz)) wider) (
              r,
              (refl, first_kinds_columns r z n st.long (kinds_grow_by r (k ∷ []))),
              handled_goes A ts cs h env here next (suc start) n r st,
            ),
      )
  stmt_goes (Set t e) A ts s cs h = set_goes A ts t e s cs h
  stmt_goes (SelectInto query targets) A ts s cs h = λ env here next n r st.
      into_goes A ts query targets s cs h env here next n r st
      (query.folded (table_widths A.tables) (reading env))
      (s.own.folds (reading env) r A.outer A.args n st.long (reading_kinds A env ts r n st))
  stmt_goes (Signal state text) A ts s cs h = signal_goes A ts state text s cs h
  stmt_goes (Resignal state text) A ts s cs h = λ env here next n r st.
      again_goes A ts env.stacked state text s cs h env here next n r st
  stmt_goes (GetStatementItems reads) A ts s cs h = λ env here next n r st.
      statement_goes A ts env.stacked reads s cs h env here next n r st
  stmt_goes (GetConditionItems number reads) A ts s cs h = λ env here next n r st.
      condition_goes A ts env.stacked number s.0 reads s.1 cs h env here next n r st
  stmt_goes (Leave outwards) A ts s cs h = λ env here next n r st.
      jump_goes A here (env.labels (env.level - suc outwards)) n [] env.columns ts r r st refl
  stmt_goes (Return e) A ts s cs h = return_goes A ts e s cs h

  stmts_go : (ss : Stmts) (A : Around) (ts : List SqlType) → AllKinds ss A.tables A.returns ts →
      (cs : Codes) → CodesAre A ts cs → EmitIs A ts (emit_all ss (table_widths A.tables) cs)
  stmts_go NoStmt A ts s cs h = λ env here next n r st. refl
  stmts_go (MoreStmts x xs) A ts s cs h = λ env here next n r st.
      let S = table_widths A.tables in
      goes_append A (emit x S cs env here next n) (emit_all xs S cs env here next n) r r r
      (stmt_goes x A ts s.0 cs h env here next n r st)
      (stmts_go xs A ts s.1 cs h env here next n r st)

  else_goes : (ss : Stmts) (A : Around) (ts : List SqlType) (m : ℕ) (k : DataKind) →
      AllKinds ss A.tables A.returns ts → (cs : Codes) → CodesAre A ts cs →
      RestIs A ts m k (emit_else ss (table_widths A.tables) cs)
  else_goes NoStmt A ts m k s cs h = not_found_goes A ts m k cs
  else_goes (MoreStmts x xs) A ts m k s cs h =
      and_on_goes A ts m k (λ env here next n. emit x (table_widths A.tables) cs env here next n
      ++ emit_all xs (table_widths A.tables) cs env here next n)
      (λ env here next n r st. goes_append A (emit x (table_widths A.tables) cs env here next n)
      (emit_all xs (table_widths A.tables) cs env here next n) r r r
      (stmt_goes x A ts s.0 cs h env here next n r st)
      (stmts_go xs A ts s.1 cs h env here next n r st))

  tests_go : (bs : Branches) (A : Around) (ts : List SqlType) →
      BranchesKinds bs BooleanKind A.tables A.returns ts → (cs : Codes) → CodesAre A ts cs →
      (rest : Rest) → RestIs A ts 0 IntegerKind rest →
      RestIs A ts 0 IntegerKind (emit_branches bs (table_widths A.tables) cs rest)
  tests_go NoBranch A ts s cs h rest g = g
  tests_go (MoreBranches test body others) A ts s cs h rest g =
      let S = table_widths A.tables in
      branching_goes A ts 0 IntegerKind (emitted test S)
      (λ env n r km ml st. gives_is A ts BooleanKind test s.0 env n r st) cs (emit_all body S cs)
      (stmts_go body A ts s.1 cs h) (emit_branches others S cs rest)
      (tests_go others A ts s.2 cs h rest g)

  matching_go : (bs : Branches) (A : Around) (ts : List SqlType) (m : ℕ) (k : DataKind) →
      BranchesKinds bs k A.tables A.returns ts → (cs : Codes) → CodesAre A ts cs →
      (rest : Rest) → RestIs A ts m k rest →
      RestIs A ts m k (emit_matching bs m (table_widths A.tables) cs rest)
  matching_go NoBranch A ts m k s cs h rest g = g
  matching_go (MoreBranches e body others) A ts m k s cs h rest g =
      let S = table_widths A.tables in
      branching_goes A ts m k (λ env n. equal_to m (emitted e S env n))
      (λ env n r km ml st. equal_is A ts m k e s.0 env n r km ml st) cs (emit_all body S cs)
      (stmts_go body A ts s.1 cs h) (emit_matching others m S cs rest)
      (matching_go others A ts m k s.2 cs h rest g)

  coded_go : (hs : Handlers) (A : Around) (ts : List SqlType) →
      HandlersKinds hs A.tables A.returns ts → (cs : Codes) → CodesAre A ts cs →
      HandlersAre A ts (coded hs (table_widths A.tables) cs)
  coded_go NoHandler A ts s cs h = tt
  coded_go (MoreHandlers kind takes action others) A ts s cs h =
      (stmt_goes action A ts s.0 cs h, coded_go others A ts s.1 cs h)

-- ---- the function

assigned_same : (t : SqlType) → assigned_kind t (type_kind t) ≡ type_kind t
assigned_same Integer = refl
assigned_same (Varchar n) = refl
assigned_same Boolean = refl

last_is : (A : Around) (t : SqlType) (q : Kinds) → kind_at q 0 ≡ IntegerKind →
    kind_at q 1 ≡ type_kind t → Is A (last_cell t) q (type_kind t)
last_is A t q h g =
    let k = type_kind t in let s = assigning t (col 1) in
    let x = assigning_is A t (col 1) q k (g, refl) (same_agrees t) in
    let all = word_is A case_word (more (code_is 0) (more s
    (more (code_is 1) (more raised_area (only without_return_cell))))) q
    (BooleanKind ∷ k ∷ BooleanKind ∷ NullKind ∷ NullKind ∷ [])
    (more_are A (code_is 0) (more s (more (code_is 1)
    (more raised_area (only without_return_cell)))) q BooleanKind
    (k ∷ BooleanKind ∷ NullKind ∷ NullKind ∷ []) (code_good A 0 q h)
    (more_are A s (more (code_is 1) (more raised_area (only without_return_cell))) q k
    (BooleanKind ∷ NullKind ∷ NullKind ∷ []) (x.0 ∙ assigned_same t, x.1)
    (more_are A (code_is 1) (more raised_area (only without_return_cell)) q BooleanKind
    (NullKind ∷ NullKind ∷ []) (code_good A 1 q h) (refl, refl))))
    (and_true (agree k NullKind) true (agree_null k) refl) in
    (all.0 ∙ join_null k, all.1)

-- The plan is well kinded under rows outside and arguments of any kinds, where the leaves are, and
-- the scalars that read the parameters have the kinds of their types.
pub well_kinded : (types : List SqlType) (returns : SqlType) (body : Stmt)
    (T : List ℕ → Kinds) (params : Scalars) (ks : List Kinds) (ps : Kinds) →
    RoutineKinds T (Body types returns body) → HaveAll params ([] ∷ ks) ps (type_kinds types) →
    PlanIs (inline_with (Body types returns body) (table_widths T) params) T ks ps
    (type_kind returns ∷ [])
well_kinded types returns body T params ks ps s h =
    let A : Around = record { tables = T; outer = ks; args = ps; returns = returns } in
    let k = length types in let n = 3 + k in let R = type_kind returns in
    let tk = type_kinds types in let r = IntegerKind ∷ R ∷ BooleanKind ∷ tk in
    let cells = first_cells returns params in let S = table_widths T in
    let steps = emit body S [] (top k) 3 4 n in
    let lt = types_long types in
    let c : AreAll A cells [] r = more_are A (tag 3)
    (more (null_of returns) (more (constant (Truth false)) params)) [] IntegerKind
    (R ∷ BooleanKind ∷ tk) (refl, refl)
    (more_are A (null_of returns) (more (constant (Truth false)) params) [] R (BooleanKind ∷ tk)
    (null_is A returns [])
    (more_are A (constant (Truth false)) params [] BooleanKind tk (refl, refl) h)) in
    let st : Stands A (places 3 k) types r n = record {
      long = (let e : suc (suc (suc (length tk))) ≡ 3 + k = omega (arith, lt) in e);
      code = refl;
      result = refl;
      area = refl;
      columns = kinds_grown_columns (IntegerKind ∷ R ∷ BooleanKind ∷ []) tk r 3 k refl lt
          (kinds_grow_same r);
    } in
    let t = steps_are A steps (extend cells unit_row) r r
    (and_true (scalars_good cells ([] ∷ ks) ps) true c.1 refl, c.0)
    (stmt_goes body A types s [] tt (top k) 3 4 n r st) in
    let tree = steps_tree steps (extend cells unit_row) in
    let x = last_is A returns r refl refl in (
      and_true (scalars_good (only (last_cell returns)) (tree_kinds tree T ks ps ∷ ks) ps)
          (tree_good tree T ks ps)
          (ap (λ (j : Kinds). scalars_good (only (last_cell returns)) (j ∷ ks) ps) t.1
          ∙ and_true (scalar_good (last_cell returns) (r ∷ ks) ps) true x.1 refl) t.0,
      ap (λ (j : Kinds). kind_at (j ++ scalar_kind (last_cell returns) (j ∷ ks) ps ∷ []) n ∷ []) t.1
          ∙ ap (λ (i : DataKind). i ∷ [])
          (kinds_grown_column r (r ++ scalar_kind (last_cell returns) (r ∷ ks) ps ∷ [])
          (scalar_kind (last_cell returns) (r ∷ ks) ps) n st.long
          (kinds_grow_same (r ++ scalar_kind (last_cell returns) (r ∷ ks) ps ∷ [])) ∙ x.0),
    )

-- ---- a call

outward_kind : (p : Place) (q : Kinds) (ks : List Kinds) (ps : Kinds) →
    scalar_kind (read (outward p)) (q ∷ ks) ps ≡ scalar_kind (read p) ks ps
outward_kind (at level i) q ks ps = refl
outward_kind (given i) q ks ps = refl
outward_kind nowhere q ks ps = refl

-- a scalar, read as one of a type
of_type_is : (A : Around) (t : SqlType) (s : Scalar) (q : Kinds) (k : DataKind) → Is A s q k →
    agree k (type_kind t) ≡ true → Is A (of_type t s) q (type_kind t)
of_type_is A t s q k h g =
    let R = type_kind t in
    let last : joined_kind R NullKind ≡ R = join_null R in
    subst (λ (j : DataKind). Is A (of_type t s) q j)
    (ap (joined_kind k) last ∙ joined_takes k t g)
    (word_is A coalesce_word (two s (null_of t)) q (k ∷ R ∷ [])
    (two_are A s (null_of t) q k R h (null_is A t q))
    (and_true (agree k (joined_kind R NullKind)) (agree R NullKind && true)
    (ap (agree k) last ∙ g) (and_true (agree R NullKind) true (agree_null R) refl)))

outward_are : (A : Around) (e : Reading) (i : ℕ) (ts : List SqlType) →
    ((j : ℕ) → j < length ts →
    agree (scalar_kind (read (e.params (i + j))) A.outer A.args) (kind_at (type_kinds ts) j)
    ≡ true) → AreAll A (read_outward e i ts) [] (type_kinds ts)
outward_are A e i [] h = (refl, refl)
outward_are A e i (t ∷ ts) h =
    let p = e.params i in
    let k = scalar_kind (read p) A.outer A.args in
    more_are A (of_type t (read (outward p))) (read_outward e (suc i) ts) [] (type_kind t)
    (type_kinds ts)
    (of_type_is A t (read (outward p)) [] k
    (outward_kind p [] A.outer A.args, read_good (outward p) ([] ∷ A.outer) A.args)
    (ap (λ (m : ℕ). agree (scalar_kind (read (e.params m)) A.outer A.args) (type_kind t))
    (let e0 : i ≡ i + 0 = omega arith in e0) ∙ h 0 (omega arith)))
    (outward_are A e (suc i) ts
    (λ j l. ap (λ (m : ℕ). agree (scalar_kind (read (e.params m)) A.outer A.args)
    (kind_at (type_kinds ts) j)) (let e1 : suc i + j ≡ i + suc j = omega arith in e1)
    ∙ h (suc j) (omega arith)))

-- What a call emits has the kind of the result, where the types of the parameters take what the
-- environment's parameters have.
pub called_kinds : (types : List SqlType) (returns : SqlType) (body : Stmt)
    (T : List ℕ → Kinds) → RoutineKinds T (Body types returns body) →
    (e : Reading) (n : ℕ) (r : Kinds) (ks : List Kinds) (ps : Kinds) → length r ≡ n →
    ((j : ℕ) → j < length types →
    agree (scalar_kind (read (e.params j)) (r ∷ ks) ps) (kind_at (type_kinds types) j) ≡ true) →
    Yields (called_body (Body types returns body) (table_widths T) e n) T r ks ps
    (type_kind returns)
called_kinds types returns body T s e n r ks ps l h =
    let A : Around = record { tables = T; outer = r ∷ ks; args = ps; returns = returns } in
    let params = read_outward e 0 types in let R = type_kind returns in
    let inner = inline_with (Body types returns body) (table_widths T) params in
    let p = well_kinded types returns body T params (r ∷ ks) ps s
    (outward_are A e 0 types
    (λ j g. ap (λ (m : ℕ). agree (scalar_kind (read (e.params m)) (r ∷ ks) ps)
    (kind_at (type_kinds types) j)) (let e0 : 0 + j ≡ j = omega arith in e0) ∙ h j g)) in
    let one : kind_at (tree_kinds inner T (r ∷ ks) ps) 0 ∷ [] ≡ R ∷ [] =
    ap (λ (j : Kinds). kind_at j 0 ∷ []) p.1 in (
      and_true (tree_good inner T (r ∷ ks) ps) true p.0 refl,
      λ z g. (
        kinds_grown_column r z R n l (subst (λ (j : Kinds). KindsGrow (r ++ j) z) one g),
        refl,
      ),
    )

-- ---- a call of a function that returns NULL on NULL input

-- each test of a parameter is one
knowns_tests : (e : Reading) (i : ℕ) (ts : List SqlType) (ks : List Kinds) (ps : Kinds) →
    tests_good (scalars_kinds (knowns e i ts) ks ps) ≡ true
knowns_tests e i [] ks ps = refl
knowns_tests e i (t ∷ ts) ks ps = knowns_tests e (suc i) ts ks ps

knowns_good : (e : Reading) (i : ℕ) (ts : List SqlType) (ks : List Kinds) (ps : Kinds) →
    scalars_good (knowns e i ts) ks ps ≡ true
knowns_good e i [] ks ps = refl
knowns_good e i (t ∷ ts) ks ps =
    let s = scalar_good (read (e.params i)) ks ps in
    and_true ((((s && true) && true) && true) && true) (scalars_good (knowns e (suc i) ts) ks ps)
    (and_true (((s && true) && true) && true) true (and_true ((s && true) && true) true
    (and_true (s && true) true (and_true s true (read_good (e.params i) ks ps) refl) refl) refl)
    refl)
    (knowns_good e (suc i) ts ks ps)

all_known_test : (e : Reading) (ts : List SqlType) (ks : List Kinds) (ps : Kinds) →
    is_test (all_known e ts) ks ps ≡ true
all_known_test e [] ks ps = refl
all_known_test e (t ∷ ts) ks ps =
    tested (all_known e (t ∷ ts)) ks ps BooleanKind (
      refl,
      and_true (scalars_good (knowns e 0 (t ∷ ts)) ks ps)
          (tests_good (scalars_kinds (knowns e 0 (t ∷ ts)) ks ps))
          (knowns_good e 0 (t ∷ ts) ks ps) (knowns_tests e 0 (t ∷ ts) ks ps),
    ) refl

-- the same of it
pub known_kinds : (types : List SqlType) (returns : SqlType) (body : Stmt)
    (T : List ℕ → Kinds) → RoutineKinds T (Body types returns body) →
    (e : Reading) (n : ℕ) (r : Kinds) (ks : List Kinds) (ps : Kinds) → length r ≡ n →
    ((j : ℕ) → j < length types →
    agree (scalar_kind (read (e.params j)) (r ∷ ks) ps) (kind_at (type_kinds types) j) ≡ true) →
    Yields (known_body (Body types returns body) (table_widths T) e n) T r ks ps
    (type_kind returns)
known_kinds types returns body T s e n r ks ps l h =
    let c = called_kinds types returns body T s e n r ks ps l h in
    let inner = inline_with (Body types returns body) (table_widths T) (read_outward e 0 types) in
    let test = is_test (all_known e types) (r ∷ ks) ps in (
      and_true (test && true) (tree_good inner T (r ∷ ks) ps && true)
          (and_true test true (all_known_test e types (r ∷ ks) ps) refl) c.0,
      c.1,
    )
