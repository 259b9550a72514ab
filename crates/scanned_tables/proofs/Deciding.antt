-- The tables of the plan of a planned query are those on which it depends.
use Rattle.std.proofs.Common.{◌≡◌, ℕ, zero, suc, ◌+◌, true, false, ◌&&◌, List, [], ◌∷◌, length}
use Rattle.std.proofs.Common.{Option, None, Some, refl, drop, inl, inr, ◌||◌}
use Rattle.std.proofs.lemmas.Bool.{and_parts, false≢true}
use Rattle.sql_values.specs.declared.operators.Comparison.TheVariants.{Equals}
use Rattle.sql_values.specs.declared.value.SqlType.{SqlType}
use Rattle.rel_algebra.specs.Emit.{Emitted, Env, Key, Waiting, all_values, branches_body, emit}
use Rattle.rel_algebra.specs.Emit.{emit_all, emit_args, emit_body, emit_links, emit_rows}
use Rattle.rel_algebra.specs.Emit.{emit_tests, entered, filters_width, first_and, first_value}
use Rattle.rel_algebra.specs.Emit.{folded, folded_env, from_plan, handlers_body, joined_nodes}
use Rattle.rel_algebra.specs.Emit.{key_of, lifted, none_waits, passed, perhaps_body, plan}
use Rattle.rel_algebra.specs.Emit.{query_leaf, row_stands, selected, singly, stmt_body, stmts_body}
use Rattle.rel_algebra.specs.Emit.{value_leaf, variables_body, width, word_on}
use Rattle.rel_algebra.specs.Bodies as body
use Rattle.rel_algebra.specs.BodyChain as chain
use Rattle.rel_algebra.specs.BodyChain.{and_on, coded, emit_again, emit_branches}
use Rattle.rel_algebra.specs.BodyChain.{emit_condition_items, emit_declares, emit_else}
use Rattle.rel_algebra.specs.BodyChain.{emit_matching, first_cells, has_default, inline_with}
use Rattle.rel_algebra.specs.BodyChain.{last_cell, perhaps_emitted, read_outward, reading}
use Rattle.rel_algebra.specs.BodyChain.{variable_count, with_variables}
use Rattle.rel_algebra.specs.BodyCompounds.{scopes_in}
use Rattle.rel_algebra.specs.BodyDispatch.{Codes, Env as Around, count as codes_count}
use Rattle.rel_algebra.specs.BodyDispatch.{scope_actions, whatever}
use Rattle.rel_algebra.specs.Joins.{from_width, numbered, places, rows_width}
use Rattle.rel_algebra.specs.Lasting.{AllLast, FromLasts, Lasts, LinksLast, QueryLasts}
use Rattle.rel_algebra.specs.Lasting.{RoutineLasts, RowsLast}
use Rattle.rel_algebra.specs.Plain.{all_even, as_many, fills, planned, planned_all}
use Rattle.rel_algebra.specs.Plain.{planned_branches, planned_expr, planned_from, planned_handlers}
use Rattle.rel_algebra.specs.Plain.{planned_links, planned_perhaps, planned_routine, planned_rows}
use Rattle.rel_algebra.specs.Plain.{planned_stmt, planned_stmts, planned_variables}
use Rattle.rel_algebra.specs.Plan.{cross, exists, extend_by, filter, group}
use Rattle.rel_algebra.specs.Plan.{scalar_count, single, strict}
use Rattle.rel_algebra.specs.Tree.{And, Arithmetic, Branches, Call, CallSelf, Case, CaseOf, Chain}
use Rattle.rel_algebra.specs.Tree.{Coalesce, Column, Comparing, Compound, Cross}
use Rattle.rel_algebra.specs.Tree.{Derived, Exists, Expr, Exprs, From, Function, GetConditionItems}
use Rattle.rel_algebra.specs.Tree.{GetStatementItems, Grouped, Handlers, If, In, Inner, Leave}
use Rattle.rel_algebra.specs.Tree.{LeftOuter, Links, Literal, MoreBranches, MoreExprs, MoreHandlers}
use Rattle.rel_algebra.specs.Tree.{MoreLinks, MoreRows, MoreStmts, MoreVariables, NoBranch, NoExpr}
use Rattle.rel_algebra.specs.Tree.{NoHandler, NoLink, NoRow, NoStmt, NoVariable, Operate, Or}
use Rattle.rel_algebra.specs.Tree.{Ordered, Perhaps, Query, Resignal, Return, Returned, Routine}
use Rattle.rel_algebra.specs.Tree.{Rows, SearchedCase, Select, SelectInto, Set, Signal, SimpleCase}
use Rattle.rel_algebra.specs.Tree.{Single, Stacked, Stmt, Stmts, Table, Values, Variable, Variables}
use Rattle.rel_algebra.specs.Tree.{With, Without, count, parameters_of}
use Rattle.rel_algebra.proofs.Laws.{PerhapsHolds, ValueLasts, VariablesHold, fold_lasts}
use Rattle.rel_algebra.proofs.Laws.{plan_lasts}
use Rattle.scanned_tables.proofs.Alike.{AllSame, BranchesSame, HandlersSame, Same, acting}
use Rattle.scanned_tables.proofs.Alike.{action_same, case_same, compound_same, if_same}
use Rattle.scanned_tables.proofs.Alike.{leaf_same, more_same, operand_same}
use Rattle.scanned_tables.proofs.Steps.{BranchesRead, RestRead, StepsRead}
use Rattle.scanned_tables.proofs.Steps.{branches_parts, compared_read, compounded_read}
use Rattle.scanned_tables.proofs.Steps.{default_read, first_steps, into_read}
use Rattle.scanned_tables.proofs.Steps.{last_steps, matching_parts, on_read, return_read, set_read}
use Rattle.scanned_tables.proofs.Steps.{signal_read, tested_read}
use Rattle.scanned_tables.specs.Laws.{ScansDecide}
use Rattle.scanned_tables.proofs.Blocks.{Stands, again_by, block_reads, items_by, leaf_lasts}
use Rattle.scanned_tables.proofs.Reading.{FoldedRead, ListsRead, NodesRead, Reads, TestsRead}
use Rattle.scanned_tables.proofs.Reading.{ask_read, asked_by, filters_read, left, member_read}
use Rattle.scanned_tables.proofs.Reading.{reads, right, selected_read, step_read, values_read}

-- a conjunct that may wait compares names alone
key_names : (S R : List ℕ → ℕ) (x : Expr) (e : Env) (key : Key) → key_of x e ≡ Some key →
    Lasts x S R
key_names S R (Operate (Comparing Equals)
    (MoreExprs (Column zero i) (MoreExprs (Column (suc d) j) NoExpr))) e key h = (tt, (tt, tt))
key_names S R (Operate (Comparing Equals)
    (MoreExprs (Column (suc d) j) (MoreExprs (Column zero i) NoExpr))) e key h = (tt, (tt, tt))
key_names S R (Operate (Comparing Equals)
    (MoreExprs (Column zero i) (MoreExprs (Variable j) NoExpr))) e key h = (tt, (tt, tt))
key_names S R (Operate (Comparing Equals)
    (MoreExprs (Variable j) (MoreExprs (Column zero i) NoExpr))) e key h = (tt, (tt, tt))
key_names S R _ e key h = absurd (let never = h in cc)

-- a conjunct, which is emitted where it is no key
conjunct : (S R : List ℕ → ℕ) (x : Expr) (e : Env) (key : Option Key) → key_of x e ≡ key →
    (key ≡ None → Lasts x S R) → Lasts x S R
conjunct S R x e None h own = own refl
conjunct S R x e (Some key) h own = key_names S R x e key h

module _ (S R : List ℕ → ℕ) where
  mutual
    expr_reads : (x : Expr) (e : Env) (n : ℕ) → planned_expr x ≡ true →
        NodesRead (emit x S e n).nodes R → Lasts x S R
    expr_reads (Literal v) e n p h = tt
    expr_reads (Column level i) e n p h = tt
    expr_reads (Variable i) e n p h = tt
    expr_reads (Chain x links) e n p h =
        let ps = and_parts (planned_expr x) (planned_links links) p in
        let both = links_read links (emit x S e n) e n ps.1 h in
        (expr_reads x e n ps.0 both.0, both.1)
    expr_reads (Operate op es) e n p h = all_reads es e n p h
    expr_reads (And es) e n p h = all_reads es e n p h
    expr_reads (Or es) e n p h = all_reads es e n p h
    expr_reads (Case arms) e n p h = all_reads arms e n p h
    expr_reads (CaseOf x test result arms) e n p h =
        let p1 = and_parts (planned_expr x)
        (planned_expr test && (planned_expr result && planned_all arms)) p in
        let p2 = and_parts (planned_expr test) (planned_expr result && planned_all arms) p1.1 in
        let p3 = and_parts (planned_expr result) (planned_all arms) p2.1 in
        let own = emit x S e n in
        let m = width own.nodes n in
        let tested = emit test S e (suc m) in
        let k = width tested.nodes (suc m) in
        let given = emit result S e k in
        let j = width given.nodes k in
        let last = emit_all arms S e j in
        let inside = joined_nodes tested.nodes (joined_nodes given.nodes last.nodes) in
        let after = right R own.nodes (extend_by (singly own).scalars inside) h in
        let later = right R tested.nodes (joined_nodes given.nodes last.nodes) after in (
          expr_reads x e n p1.0 (left R own.nodes (extend_by (singly own).scalars inside) h),
          expr_reads test e (suc m) p2.0
              (left R tested.nodes (joined_nodes given.nodes last.nodes) after),
          expr_reads result e k p3.0 (left R given.nodes last.nodes later),
          all_reads arms e j p3.1 (right R given.nodes last.nodes later),
        )
    expr_reads (Coalesce es) e n p h = all_reads es e n p h
    expr_reads (In x q) e n p h =
        let ps = and_parts (planned_expr x) (planned q) p in
        let both = member_read R (folded q S e) (emit x S e n) (plan q S e) n h in (
          expr_reads x e n ps.0 both.0,
          asked_by R (folded q S e) (plan q S e) both.1 (plan_reads q e ps.1) (fold_reads q e ps.1),
        )
    expr_reads (Exists q) e n p h =
        asked_by R (folded q S e) (plan q S e)
        (ask_read R (folded q S e) exists row_stands (plan q S e) n h)
        (plan_reads q e p) (fold_reads q e p)
    expr_reads (Single q) e n p h =
        asked_by R (folded q S e) (plan q S e)
        (ask_read R (folded q S e) single first_value (plan q S e) n h)
        (plan_reads q e p) (fold_reads q e p)
    expr_reads (Call name r es) e n p h =
        let p1 = and_parts (planned_routine r) (planned_all es && as_many r (count es)) p in
        let p2 = and_parts (planned_all es) (as_many r (count es)) p1.1 in
        let passing = emit_args es (parameters_of r) S e n in
        let m = width passing.nodes n in
        let k = scalar_count passing.scalars in
        let body = emit_body r S (passed m k) (m + k) in (
          routine_reads r (passed m k) (m + k) p1.0
              (right R passing.nodes (extend_by passing.scalars body.nodes) h),
          args_read es (parameters_of r) e n p2.0
              (left R passing.nodes (extend_by passing.scalars body.nodes) h),
        )
    expr_reads (CallSelf types es) e n p h = absurd (false≢true p)

    links_read : (links : Links) (a : Emitted) (e : Env) (n : ℕ) → planned_links links ≡ true →
        NodesRead (emit_links links a S e n).nodes R → NodesRead a.nodes R × LinksLast links S R
    links_read NoLink a e n p h = (h, tt)
    links_read (MoreLinks operator x links) a e n p h =
        let ps = and_parts (planned_expr x) (planned_links links) p in
        let m = width a.nodes n in
        let more = links_read links
        (word_on (strict (Arithmetic operator)) (first_and a (λ k. singly (emit x S e k)) n))
        e n ps.1 h in (
          left R a.nodes (emit x S e m).nodes more.0,
          (expr_reads x e m ps.0 (right R a.nodes (emit x S e m).nodes more.0), more.1),
        )

    all_reads : (es : Exprs) (e : Env) (n : ℕ) → planned_all es ≡ true →
        NodesRead (emit_all es S e n).nodes R → AllLast es S R
    all_reads NoExpr e n p h = tt
    all_reads (MoreExprs x es) e n p h =
        let ps = and_parts (planned_expr x) (planned_all es) p in
        let m = width (emit x S e n).nodes n in (
          expr_reads x e n ps.0 (left R (emit x S e n).nodes (emit_all es S e m).nodes h),
          all_reads es e m ps.1 (right R (emit x S e n).nodes (emit_all es S e m).nodes h),
        )

    args_read : (es : Exprs) (types : List SqlType) (e : Env) (n : ℕ) → planned_all es ≡ true →
        NodesRead (emit_args es types S e n).nodes R → AllLast es S R
    args_read NoExpr types e n p h = tt
    args_read (MoreExprs x es) types e n p h =
        let ps = and_parts (planned_expr x) (planned_all es) p in
        let m = width (emit x S e n).nodes n in
        let others = emit_args es (drop 1 types) S e m in (
          expr_reads x e n ps.0 (left R (emit x S e n).nodes others.nodes h),
          args_read es (drop 1 types) e m ps.1 (right R (emit x S e n).nodes others.nodes h),
        )

    routine_reads : (r : Routine) (e : Env) (n : ℕ) → planned_routine r ≡ true →
        NodesRead (emit_body r S e n).nodes R → RoutineLasts r S R
    routine_reads (Returned types returns x) e n p h = expr_reads x e n p h
    routine_reads (Function false types returns false statement) e n p h =
        block_reads S R types returns (stmt_body statement) (read_outward e 0 types)
        (λ g. stmt_reads statement [] (chain.top (length types)) 3 4 (3 + length types) None refl p
        g)
        h.0
    routine_reads (Function false types returns true statement) e n p h =
        block_reads S R types returns (stmt_body statement) (read_outward e 0 types)
        (λ g. stmt_reads statement [] (chain.top (length types)) 3 4 (3 + length types) None refl p
        g)
        h.0
    routine_reads _ e n p h = absurd (false≢true p)

    -- ---- statements

    -- an expression that may be left out
    perhaps_reads : (x : Perhaps) (env : Around) (n : ℕ) → planned_perhaps x ≡ true →
        NodesRead (perhaps_emitted (perhaps_body x) S env n).nodes R →
        PerhapsHolds (perhaps_body x) (ValueLasts S R)
    perhaps_reads Without env n p h = tt
    perhaps_reads (With x) env n p h = leaf_lasts S R x (expr_reads x (reading env) n p h)

    -- declarations
    variables_read : (vs : Variables) (cs : Codes) (env : Around) (from here base free n : ℕ) →
        planned_variables vs ≡ true →
        StepsRead R (emit_declares (variables_body vs) S cs env from here base free n) →
        VariablesHold (variables_body vs) (ValueLasts S R)
    variables_read NoVariable cs env from here base free n p h = tt
    variables_read (MoreVariables k t Without others) cs env from here base free n p h = (
      tt,
      variables_read others cs (with_variables env n k) from here base free (n + k)
          (and_parts true (planned_variables others) p).1 h.1,
    )
    variables_read (MoreVariables k t (With x) others) cs env from here base free n p h =
        let ps = and_parts (planned_expr x) (planned_variables others) p in (
          leaf_lasts S R x (expr_reads x (reading env) n ps.0
              (default_read R (value_leaf x) k t S cs env from here base n h.0)),
          variables_read others cs (with_variables env n k) from here base free (n + k) ps.1 h.1,
        )

    -- the steps of a statement, in any environment that may stand in the place of this one
    stmt_reads : (s : Stmt) (cs : Codes) (env : Around) (here next n : ℕ) (o : Option ℕ) →
        Stands env.stacked o → planned_stmt s ≡ true →
        StepsRead R (chain.emit (stmt_body s) S cs env here next n) → Same S R o (stmt_body s)
    stmt_reads (Compound atomic variables zero handlers statements) cs env here next n o w p h =
        let p1 = and_parts (planned_variables variables)
        (planned_handlers handlers && planned_stmts statements) p in
        let p2 = and_parts (planned_handlers handlers) (planned_stmts statements) p1.1 in
        let vs = variables_body variables in
        let parts = compounded_read R atomic (atomic || has_default vs) cs (emit_declares vs S cs)
        (variable_count vs) (coded (handlers_body handlers) S (scopes_in atomic cs))
        (chain.emit_all (stmts_body statements) S) env here next n
        (λ from base free g. variables_read variables cs env from here base free n p1.0 g)
        (λ inner within m g. stmts_read statements inner (acting env.stacked within) g.0 g.1.0 m o w
        p2.1 g.1.1)
        (λ c at first free m g. handlers_read handlers (scopes_in atomic cs) at c first free m p2.0
        g)
        h in
        compound_same S R atomic vs (handlers_body handlers) (stmts_body statements) o parts.0
        parts.2 parts.1
    stmt_reads (If branches otherwise) cs env here next n o w p h =
        let ps = and_parts (planned_branches branches) (planned_stmts otherwise) p in
        let last = chain.emit_all (stmts_body otherwise) S cs in
        let rest = and_on last in
        let parts = branches_parts R (branches_body branches) S cs rest env here here next
        (next + codes_count cs) n
        (tested_read R cs (emit_branches (branches_body branches) S cs rest) env here next n h) in
        let after = on_read R last env here next n parts.1 in
        if_same S R (branches_body branches) (stmts_body otherwise) o
        (branches_read branches cs env n o w ps.0 parts.0)
        (stmts_read otherwise cs env after.0 after.1.0 n o w ps.1 after.1.1)
    stmt_reads (SearchedCase branches otherwise) cs env here next n o w p h =
        let ps = and_parts (planned_branches branches) (planned_stmts otherwise) p in
        let rest = emit_else (stmts_body otherwise) S cs in
        let parts = branches_parts R (branches_body branches) S cs rest env here here next
        (next + codes_count cs) n
        (tested_read R cs (emit_branches (branches_body branches) S cs rest) env here next n h) in
        case_same S R (branches_body branches) (stmts_body otherwise) o
        (branches_read branches cs env n o w ps.0 parts.0)
        (else_reads otherwise cs env here next n o w ps.1 parts.1)
    stmt_reads (SimpleCase x branches otherwise) cs env here next n o w p h =
        let p1 = and_parts (planned_expr x)
        (planned_branches branches && planned_stmts otherwise) p in
        let p2 = and_parts (planned_branches branches) (planned_stmts otherwise) p1.1 in
        let rest = emit_else (stmts_body otherwise) S cs in
        let whole = compared_read R (value_leaf x) S cs
        (λ i. emit_matching (branches_body branches) i S cs rest) env here next n h in
        let start = next + codes_count cs in
        let parts = matching_parts R (branches_body branches) n S cs rest env start here next
        (suc start) (suc n) whole.1 in
        operand_same S R (value_leaf x) (branches_body branches) (stmts_body otherwise) o
        (leaf_lasts S R x (expr_reads x (reading env) n p1.0 whole.0))
        (branches_read branches cs env (suc n) o w p2.0 parts.0)
        (else_reads otherwise cs env here next (suc n) o w p2.1 parts.1)
    stmt_reads (Set t x) cs env here next n o w p h =
        leaf_same S R (body.Set t (value_leaf x)) o
        (leaf_lasts S R x
        (expr_reads x (reading env) n p (set_read R t (value_leaf x) S cs env here next n h)))
    stmt_reads (SelectInto q targets) cs env here next n o w p h =
        let own = (and_parts (planned q) (fills q targets) p).0 in
        let e = reading env in
        let lasts = asked_by R (folded q S e) (plan q S e)
        (into_read R (folded q S e) (plan q S e) targets cs env here next n h) (plan_reads q e own)
        (fold_reads q e own) in
        leaf_same S R (body.SelectInto (query_leaf q) targets) o
        (λ at. plan_lasts q S R at lasts, λ at. fold_lasts q S R at lasts)
    stmt_reads (Signal state text) cs env here next n o w p h =
        leaf_same S R (body.Signal state (perhaps_body text)) o
        (perhaps_reads text env n p
        (signal_read R state (perhaps_body text) S cs env here next n h))
    stmt_reads (Resignal state text) cs env here next n o w p h =
        again_by S R env.stacked state (perhaps_body text) cs env here next n o w
        (λ g. perhaps_reads text env n p g) h
    stmt_reads (GetStatementItems Stacked items) cs env here next n o w p h =
        leaf_same S R (body.GetStatementItems items) o tt
    stmt_reads (GetConditionItems Stacked number items) cs env here next n o w p h =
        items_by S R env.stacked (value_leaf number) items cs env here next n o w
        (λ g. leaf_lasts S R number (expr_reads number (reading env) n p g)) h
    stmt_reads (Leave outwards) cs env here next n o w p h =
        leaf_same S R (body.Leave outwards) o tt
    stmt_reads (Return x) cs env here next n o w p h =
        leaf_same S R (body.Return (value_leaf x)) o
        (leaf_lasts S R x
        (expr_reads x (reading env) n p (return_read R (value_leaf x) S cs env here next n h)))
    stmt_reads _ cs env here next n o w p h = absurd (false≢true p)

    -- statements in order
    stmts_read : (ss : Stmts) (cs : Codes) (env : Around) (here next n : ℕ) (o : Option ℕ) →
        Stands env.stacked o → planned_stmts ss ≡ true →
        StepsRead R (chain.emit_all (stmts_body ss) S cs env here next n) →
        AllSame S R o (stmts_body ss)
    stmts_read NoStmt cs env here next n o w p h = λ these those q. refl
    stmts_read (MoreStmts s ss) cs env here next n o w p h =
        let ps = and_parts (planned_stmt s) (planned_stmts ss) p in
        let a = chain.emit (stmt_body s) S cs env here next n in
        let b = chain.emit_all (stmts_body ss) S cs env here next n in
        more_same S R (stmt_body s) (stmts_body ss) o
        (stmt_reads s cs env here next n o w ps.0 (first_steps R a b h))
        (stmts_read ss cs env here next n o w ps.1 (last_steps R a b h))

    -- those of ELSE in a CASE
    else_reads : (ss : Stmts) (cs : Codes) (env : Around) (here base n : ℕ) (o : Option ℕ) →
        Stands env.stacked o → planned_stmts ss ≡ true →
        RestRead R (emit_else (stmts_body ss) S cs) env here base n →
        AllSame S R o (stmts_body ss)
    else_reads NoStmt cs env here base n o w p h = λ these those q. refl
    else_reads (MoreStmts s ss) cs env here base n o w p h =
        let ps = and_parts (planned_stmt s) (planned_stmts ss) p in
        let g = on_read R (chain.emit_all (stmts_body (MoreStmts s ss)) S cs) env here base n h in
        let a = chain.emit (stmt_body s) S cs env g.0 g.1.0 n in
        let b = chain.emit_all (stmts_body ss) S cs env g.0 g.1.0 n in
        more_same S R (stmt_body s) (stmts_body ss) o
        (stmt_reads s cs env g.0 g.1.0 n o w ps.0 (first_steps R a b g.1.1))
        (stmts_read ss cs env g.0 g.1.0 n o w ps.1 (last_steps R a b g.1.1))

    -- tests, and their statements
    branches_read : (bs : Branches) (cs : Codes) (env : Around) (n : ℕ) (o : Option ℕ) →
        Stands env.stacked o → planned_branches bs ≡ true →
        BranchesRead R (branches_body bs) S cs env n → BranchesSame S R o (branches_body bs)
    branches_read NoBranch cs env n o w p h = tt
    branches_read (MoreBranches test statements others) cs env n o w p h =
        let p1 = and_parts (planned_expr test)
        (planned_stmts statements && planned_branches others) p in
        let p2 = and_parts (planned_stmts statements) (planned_branches others) p1.1 in (
          leaf_lasts S R test (expr_reads test (reading env) n p1.0 h.0),
          stmts_read statements cs env h.1.0 h.1.1.0 n o w p2.0 h.1.1.1,
          branches_read others cs env n o w p2.1 h.2,
        )

    -- the actions of handlers, which handle the area in column c
    handlers_read : (hs : Handlers) (cs : Codes) (env : Around) (c first free n : ℕ) →
        planned_handlers hs ≡ true →
        StepsRead R (scope_actions whatever (coded (handlers_body hs) S cs) (acting (Some c) env)
        first free n) → HandlersSame S R (handlers_body hs)
    handlers_read NoHandler cs env c first free n p h = λ these those q. refl
    handlers_read (MoreHandlers kind takes action others) cs env c first free n p h =
        let ps = and_parts (planned_stmt action) (planned_handlers others) p in
        let at = acting (Some c) env in
        let a = chain.emit (stmt_body action) S cs at first free n in
        let b = scope_actions whatever (coded (handlers_body others) S cs) at (suc first) free n in
        action_same S R kind takes (stmt_body action) (handlers_body others)
        (λ o. stmt_reads action cs at first free n o tt ps.0 (first_steps R a b h))
        (handlers_read others cs env c (suc first) free n ps.1 (last_steps R a b h))

    tests_read : (es : Exprs) (e : Env) (w : Waiting) (n : ℕ) → planned_all es ≡ true →
        TestsRead R (emit_tests es S e w n) → AllLast es S R
    tests_read NoExpr e w n p h = tt
    tests_read (MoreExprs x es) e w n p h =
        let ps = and_parts (planned_expr x) (planned_all es) p in
        let both : (key_of x e ≡ None → NodesRead (emit x S e n).nodes R) × AllLast es S R =
        step_read R (key_of x e) (emit x S e n) (emit_tests es S e) w n
        (λ v m g. tests_read es e v m ps.1 g) h in
        (conjunct S R x e (key_of x e) refl (λ k. expr_reads x e n ps.0 (both.0 k)), both.1)

    rows_read : (rows : Rows) (e : Env) (n : ℕ) → planned_rows rows ≡ true →
        ListsRead R (emit_rows rows S e n) → RowsLast rows S R
    rows_read NoRow e n p h = tt
    rows_read (MoreRows es rows) e n p h =
        let ps = and_parts (planned_all es) (planned_rows rows) p in (
          all_reads es e n ps.0 h.0,
          rows_read rows e (width (emit_all es S e n).nodes n) ps.1 h.1,
        )

    plan_reads : (q : Query) (e : Env) → planned q ≡ true → Reads (plan q S e) R → QueryLasts q S R
    plan_reads (Select items from tests) e p h =
        let p1 = and_parts (planned_all items) (planned_from from && planned_all tests) p in
        let p2 = and_parts (planned_from from) (planned_all tests) p1.1 in
        let n = from_width from S in
        let within = entered e n in
        let parts = selected_read R (emit_tests tests S within none_waits) (emit_all items S within)
        n (from_plan from S e) h in (
          all_reads items within (filters_width (emit_tests tests S within none_waits n) n) p1.0
              parts.1.0,
          from_reads from e p2.0 parts.1.1,
          tests_read tests within none_waits n p2.1 parts.0,
        )
    plan_reads (Grouped from tests k items ags having list) e p h =
        let p1 = and_parts (planned_from from) (planned_all tests
        && (planned_all items && (planned_all having && planned_all list))) p in
        let p2 = and_parts (planned_all tests)
        (planned_all items && (planned_all having && planned_all list)) p1.1 in
        let p3 = and_parts (planned_all items) (planned_all having && planned_all list) p2.1 in
        let p4 = and_parts (planned_all having) (planned_all list) p3.1 in
        let n = from_width from S in
        let within = entered e n in
        let m = k + length ags in
        let group_within = entered e m in
        let inner = selected (emit_tests tests S within none_waits) (emit_all items S within) n
        (from_plan from S e) in
        let outside = selected_read R (emit_tests having S group_within none_waits)
        (emit_all list S group_within) m
        (filter (all_values (places k (length ags))) (group (places 0 k) (numbered k ags) inner)) h
        in
        let inside = selected_read R (emit_tests tests S within none_waits)
        (emit_all items S within) n (from_plan from S e) outside.1.1 in (
          from_reads from e p1.0 inside.1.1,
          tests_read tests within none_waits n p2.0 inside.0,
          all_reads items within (filters_width (emit_tests tests S within none_waits n) n) p3.0
              inside.1.0,
          tests_read having group_within none_waits m p4.0 outside.0,
          all_reads list group_within
              (filters_width (emit_tests having S group_within none_waits m) m) p4.1 outside.1.0,
        )
    plan_reads (Values rows) e p h =
        let ps = and_parts (all_even (rows_width rows) rows) (planned_rows rows) p in
        elim (values_read R (rows_width rows) (emit_rows rows S (lifted e) 0)
        (emit_rows rows S (lifted e) 1) h) as (λ _. RowsLast rows S R) [
          | inl g ↦ rows_read rows (lifted e) 0 ps.1 g
          | inr g ↦ rows_read rows (lifted e) 1 ps.1 g
        ]
    plan_reads (Ordered q keys) e p h = plan_reads q e p h

    fold_reads : (q : Query) (e : Env) → planned q ≡ true → FoldedRead R (folded q S e) →
        QueryLasts q S R
    fold_reads (Grouped from tests zero items (a ∷ ags) NoExpr list) e p h =
        let p1 = and_parts (planned_from from)
        (planned_all tests && (planned_all items && (true && planned_all list))) p in
        let p2 = and_parts (planned_all tests)
        (planned_all items && (true && planned_all list)) p1.1 in
        let p3 = and_parts (planned_all items) (true && planned_all list) p2.1 in
        let n = from_width from S in
        let within = entered e n in
        let m = suc (length ags) in
        let inside = selected_read R (emit_tests tests S within none_waits)
        (emit_all items S within) n (from_plan from S e) h.0 in (
          from_reads from e p1.0 inside.1.1,
          tests_read tests within none_waits n p2.0 inside.0,
          all_reads items within (filters_width (emit_tests tests S within none_waits n) n) p3.0
              inside.1.0,
          tt,
          all_reads list (folded_env e h.1.0 m) (h.1.0 + m) p3.1 h.1.1,
        )
    fold_reads _ e p h = absurd h

    from_reads : (f : From) (e : Env) → planned_from f ≡ true → Reads (from_plan f S e) R →
        FromLasts f S R
    from_reads (Table name) e p h = h
    from_reads (Derived q) e p h = plan_reads q e p h
    from_reads (Cross a b) e p h =
        let ps = and_parts (planned_from a) (planned_from b) p in
        (from_reads a e ps.0 h.0, from_reads b e ps.1 h.1)
    from_reads (Inner a b on) e p h =
        let p1 = and_parts (planned_from a) (planned_from b && planned_all on) p in
        let p2 = and_parts (planned_from b) (planned_all on) p1.1 in
        let n = from_width a S + from_width b S in
        let parts = filters_read R (emit_tests on S (entered e n) none_waits n)
        (cross (from_plan a S e) (from_plan b S e)) h in (
          from_reads a e p1.0 parts.1.0,
          from_reads b e p2.0 parts.1.1,
          tests_read on (entered e n) none_waits n p2.1 parts.0,
        )
    from_reads (LeftOuter a b on) e p h =
        let p1 = and_parts (planned_from a) (planned_from b && planned_all on) p in
        let p2 = and_parts (planned_from b) (planned_all on) p1.1 in
        let n = from_width a S + from_width b S in (
          from_reads a e p1.0 h.1.0,
          from_reads b e p2.0 h.1.1,
          all_reads on (entered e n) n p2.1 h.0,
        )

pub scans_decide : ScansDecide
scans_decide q S R e p h = plan_reads S R q e p (reads R (plan q S e) h)
