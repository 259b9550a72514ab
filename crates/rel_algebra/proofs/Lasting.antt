-- A plan depends on the tables that its query names alone.
use Rattle.std.proofs.Common.{◌≡◌, ℕ, zero, suc, ◌+◌, true, false, List, [], ◌∷◌, length, Some}
use Rattle.std.proofs.Common.{refl, drop}
use Rattle.sql_values.specs.declared.value.SqlType.{SqlType}
use Rattle.rel_algebra.specs.Emit.{Emitted, Env, Waiting, against_on, all_true, all_values, ask}
use Rattle.rel_algebra.specs.Emit.{ask_member, assigning_in, called, emit, emit_all, emit_args}
use Rattle.rel_algebra.specs.Emit.{emit_body, emit_links, emit_rows, emit_tests, entered, filters}
use Rattle.rel_algebra.specs.Emit.{first_and, first_value, folded, folded_env, from_plan, key_of}
use Rattle.rel_algebra.specs.Emit.{lifted, listed, none_waits, passed, plan, raising, row_stands}
use Rattle.rel_algebra.specs.Emit.{selected, singly, test_step, then_columns, top, values_plan}
use Rattle.rel_algebra.specs.Emit.{width, word_on}
use Rattle.rel_algebra.specs.Joins.{from_width, numbered, places, query_width, rows_width}
use Rattle.rel_algebra.specs.Lasting.{AllLast, FromLasts, LastingPlans, Lasts, LinksLast}
use Rattle.rel_algebra.specs.Lasting.{QueryLasts, RoutineLasts, RowsLast}
use Rattle.rel_algebra.specs.Plan.{and_word, case_word, coalesce_word, cross, exists, filter, group}
use Rattle.rel_algebra.specs.Plan.{keep, left_outer, or_word, scan, settle, single, sort, strict}
use Rattle.rel_algebra.specs.Plan.{unit_row}
use Rattle.rel_algebra.specs.Tree.{And, Arithmetic, Call, CallSelf, Case, CaseOf, Chain, Coalesce}
use Rattle.rel_algebra.specs.Tree.{Column, Cross, Derived, Exists, Expr, Exprs, From, Returned}
use Rattle.rel_algebra.specs.Tree.{Grouped, In, Inner, LeftOuter, Links, Literal, MoreExprs}
use Rattle.rel_algebra.specs.Tree.{MoreLinks, MoreRows, NoExpr, NoLink, NoRow, Operate, Or, Ordered}
use Rattle.rel_algebra.specs.Tree.{Query, Routine, Rows, Select, Single, Table, Values, Variable}
use Rattle.rel_algebra.specs.Tree.{parameters_of}
use Rattle.rel_algebra.specs.Tree.{Function, Perhaps, Without, With, Variables, NoVariable}
use Rattle.rel_algebra.specs.Tree.{MoreVariables, Stmt, Compound, If, SearchedCase, SimpleCase, Set}
use Rattle.rel_algebra.specs.Tree.{SelectInto, Signal, Resignal, GetStatementItems}
use Rattle.rel_algebra.specs.Tree.{GetConditionItems, Leave, Return, Stmts, NoStmt, MoreStmts}
use Rattle.rel_algebra.specs.Tree.{Branches, NoBranch, MoreBranches, Handlers, NoHandler}
use Rattle.rel_algebra.specs.Tree.{MoreHandlers}
use Rattle.rel_algebra.specs.Emit.{branches_body, handlers_body, perhaps_body, stmt_body}
use Rattle.rel_algebra.specs.Emit.{stmts_body, variables_body}
use Rattle.rel_algebra.proofs.BodyHeld.{AllHold, BranchesHold, HandlersHold, Holds, PerhapsHolds}
use Rattle.rel_algebra.proofs.BodyHeld.{VariablesHold}
use Rattle.rel_algebra.specs.Bodies as body
use Rattle.rel_algebra.specs.BodyChain.{all_known, read_outward}
use Rattle.rel_algebra.specs.Emissions.{asked, asked_where}
use Rattle.rel_algebra.specs.Lasting.{BranchesLast, HandlersLast, PerhapsLasts, StmtLasts}
use Rattle.rel_algebra.specs.Lasting.{StmtsLast, VariablesLast}
use Rattle.rel_algebra.proofs.BodyLasts.{QueryLasts as LeafLasts, ValueLasts, inline_lasts}

mutual
  width_lasts : (q : Query) (S R : List ℕ → ℕ) → QueryLasts q S R →
      query_width q S ≡ query_width q R
  width_lasts (Select items from tests) S R h = refl
  width_lasts (Grouped from tests k items ags having list) S R h = refl
  width_lasts (Values rows) S R h = refl
  width_lasts (Ordered q keys) S R h = width_lasts q S R h

  from_width_lasts : (x : From) (S R : List ℕ → ℕ) → FromLasts x S R →
      from_width x S ≡ from_width x R
  from_width_lasts (Table name) S R h = h
  from_width_lasts (Derived q) S R h = width_lasts q S R h
  from_width_lasts (Cross a b) S R h =
      λ i. from_width_lasts a S R h.0 i + from_width_lasts b S R h.1 i
  from_width_lasts (Inner a b on) S R h =
      λ i. from_width_lasts a S R h.0 i + from_width_lasts b S R h.1 i
  from_width_lasts (LeftOuter a b on) S R h =
      λ i. from_width_lasts a S R h.0 i + from_width_lasts b S R h.1 i

mutual
  pub expr_lasts : (x : Expr) (S R : List ℕ → ℕ) (e : Env) (n : ℕ) → Lasts x S R →
      emit x S e n ≡ emit x R e n
  expr_lasts (Literal v) S R e n h = refl
  expr_lasts (Column level j) S R e n h = refl
  expr_lasts (Variable j) S R e n h = refl
  expr_lasts (Chain x links) S R e n h =
      λ i. links_last links S R e n h.1 (emit x S e n) (emit x R e n) (expr_lasts x S R e n h.0) i
  expr_lasts (Operate op es) S R e n h = λ i. word_on (strict op) (all_last es S R e n h i)
  expr_lasts (And es) S R e n h = λ i. word_on and_word (all_last es S R e n h i)
  expr_lasts (Or es) S R e n h = λ i. word_on or_word (all_last es S R e n h i)
  expr_lasts (Case arms) S R e n h = λ i. word_on case_word (all_last arms S R e n h i)
  expr_lasts (CaseOf x test result arms) S R e n h = λ i.
      then_columns (singly (expr_lasts x S R e n h.0 i))
      (λ p k. against_on p (first_and (expr_lasts test S R e (suc p) h.1 i)
      (λ m. first_and (expr_lasts result S R e m h.2 i) (λ j. all_last arms S R e j h.3 i) m)
      (suc p))) n
  expr_lasts (Coalesce es) S R e n h = λ i. word_on coalesce_word (all_last es S R e n h i)
  expr_lasts (In x q) S R e n h = λ i. ask_member (fold_lasts q S R e h.1 i)
      (expr_lasts x S R e n h.0 i) (plan_lasts q S R e h.1 i) n
  expr_lasts (Exists q) S R e n h =
      λ i. ask (fold_lasts q S R e h i) exists row_stands (plan_lasts q S R e h i) n
  expr_lasts (Single q) S R e n h =
      λ i. ask (fold_lasts q S R e h i) single first_value (plan_lasts q S R e h i) n
  expr_lasts (Call name r es) S R e n h =
      λ i. then_columns (args_last es (parameters_of r) S R e n h.1 i)
      (λ m k. called (raising es (parameters_of r) m) (body_lasts r S R (passed m k) (m + k) h.0 i))
      n
  expr_lasts (CallSelf types es) S R e n h = refl

  links_last : (links : Links) (S R : List ℕ → ℕ) (e : Env) (n : ℕ) → LinksLast links S R →
      (a b : Emitted) → a ≡ b →
      emit_links links a S e n ≡ emit_links links b R e n
  links_last NoLink S R e n h a b p = p
  links_last (MoreLinks operator x links) S R e n h a b p =
      links_last links S R e n h.1
      (word_on (strict (Arithmetic operator)) (first_and a (λ m. singly (emit x S e m)) n))
      (word_on (strict (Arithmetic operator)) (first_and b (λ m. singly (emit x R e m)) n))
      (λ i. word_on (strict (Arithmetic operator))
      (first_and (p i) (λ m. singly (expr_lasts x S R e m h.0 i)) n))

  all_last : (es : Exprs) (S R : List ℕ → ℕ) (e : Env) (n : ℕ) → AllLast es S R →
      emit_all es S e n ≡ emit_all es R e n
  all_last NoExpr S R e n h = refl
  all_last (MoreExprs x es) S R e n h =
      λ i. first_and (expr_lasts x S R e n h.0 i) (λ m. all_last es S R e m h.1 i) n

  args_last : (es : Exprs) (types : List SqlType) (S R : List ℕ → ℕ) (e : Env) (n : ℕ) →
      AllLast es S R →
      emit_args es types S e n ≡ emit_args es types R e n
  args_last NoExpr types S R e n h = refl
  args_last (MoreExprs x es) types S R e n h =
      λ i. first_and (assigning_in types (expr_lasts x S R e n h.0 i))
      (λ m. args_last es (drop 1 types) S R e m h.1 i) n

  body_lasts : (r : Routine) (S R : List ℕ → ℕ) (e : Env) (n : ℕ) → RoutineLasts r S R →
      emit_body r S e n ≡ emit_body r R e n
  body_lasts (Returned types returns x) S R e n h =
      λ i. assigning_in (returns ∷ []) (expr_lasts x S R e n h i)
  body_lasts (Function false types returns false statement) S R e n h =
      λ i. asked single (h (read_outward e 0 types) i) n
  body_lasts (Function false types returns true statement) S R e n h =
      λ i. asked_where (all_known e types) single (h (read_outward e 0 types) i) n
  body_lasts _ S R e n h = refl

  perhaps_last : (text : Perhaps) (S R : List ℕ → ℕ) → PerhapsLasts text S R →
      PerhapsHolds (perhaps_body text) (ValueLasts S R)
  perhaps_last Without S R p = tt
  perhaps_last (With x) S R p = λ e n. expr_lasts x S R e n p

  variables_last : (vs : Variables) (S R : List ℕ → ℕ) → VariablesLast vs S R →
      VariablesHold (variables_body vs) (ValueLasts S R)
  variables_last NoVariable S R p = tt
  variables_last (MoreVariables k t default others) S R p =
      (perhaps_last default S R p.0, variables_last others S R p.1)

  stmt_last : (s : Stmt) (S R : List ℕ → ℕ) → StmtLasts s S R →
      Holds (stmt_body s) (ValueLasts S R) (LeafLasts S R)
  stmt_last (Compound atomic variables cursors handlers statements) S R p = (
    variables_last variables S R p.0,
    handlers_last handlers S R p.1,
    stmts_last statements S R p.2,
  )
  stmt_last (If branches otherwise) S R p =
      (branches_last branches S R p.0, stmts_last otherwise S R p.1)
  stmt_last (SearchedCase branches otherwise) S R p =
      (branches_last branches S R p.0, stmts_last otherwise S R p.1)
  stmt_last (SimpleCase x branches otherwise) S R p = (
    λ e n. expr_lasts x S R e n p.0,
    branches_last branches S R p.1,
    stmts_last otherwise S R p.2,
  )
  stmt_last (Set t x) S R p = λ e n. expr_lasts x S R e n p
  stmt_last (SelectInto q targets) S R p =
      (λ e. plan_lasts q S R e p, λ e. fold_lasts q S R e p)
  stmt_last (Signal state text) S R p = perhaps_last text S R p
  stmt_last (Resignal state text) S R p = perhaps_last text S R p
  stmt_last (GetStatementItems area reads) S R p = tt
  stmt_last (GetConditionItems area number reads) S R p = λ e n. expr_lasts number S R e n p
  stmt_last (Leave outwards) S R p = tt
  stmt_last (Return x) S R p = λ e n. expr_lasts x S R e n p
  stmt_last _ S R p = tt

  stmts_last : (ss : Stmts) (S R : List ℕ → ℕ) → StmtsLast ss S R →
      AllHold (stmts_body ss) (ValueLasts S R) (LeafLasts S R)
  stmts_last NoStmt S R p = tt
  stmts_last (MoreStmts s ss) S R p = (stmt_last s S R p.0, stmts_last ss S R p.1)

  branches_last : (bs : Branches) (S R : List ℕ → ℕ) → BranchesLast bs S R →
      BranchesHold (branches_body bs) (ValueLasts S R) (LeafLasts S R)
  branches_last NoBranch S R p = tt
  branches_last (MoreBranches test statements others) S R p = (
    λ e n. expr_lasts test S R e n p.0,
    stmts_last statements S R p.1,
    branches_last others S R p.2,
  )

  handlers_last : (hs : Handlers) (S R : List ℕ → ℕ) → HandlersLast hs S R →
      HandlersHold (handlers_body hs) (ValueLasts S R) (LeafLasts S R)
  handlers_last NoHandler S R p = tt
  handlers_last (MoreHandlers kind takes action others) S R p =
      (stmt_last action S R p.0, handlers_last others S R p.1)

  tests_last : (es : Exprs) (S R : List ℕ → ℕ) (e : Env) (w : Waiting) (n : ℕ) → AllLast es S R →
      emit_tests es S e w n ≡ emit_tests es R e w n
  tests_last NoExpr S R e w n h = refl
  tests_last (MoreExprs x es) S R e w n h = λ i. test_step (key_of x e) (expr_lasts x S R e n h.0 i)
      (λ u m. tests_last es S R e u m h.1 i) w n

  rows_last : (rows : Rows) (S R : List ℕ → ℕ) (e : Env) (n : ℕ) → RowsLast rows S R →
      emit_rows rows S e n ≡ emit_rows rows R e n
  rows_last NoRow S R e n h = refl
  rows_last (MoreRows es rows) S R e n h = λ i. all_last es S R e n h.0 i
      ∷ rows_last rows S R e (width (all_last es S R e n h.0 i).nodes n) h.1 i

  pub plan_lasts : (q : Query) (S R : List ℕ → ℕ) (e : Env) → QueryLasts q S R →
      plan q S e ≡ plan q R e
  plan_lasts (Select items from tests) S R e h = λ i.
      selected (λ m. tests_last tests S R (entered e (from_width_lasts from S R h.1 i)) none_waits m
      h.2 i)
      (λ m. all_last items S R (entered e (from_width_lasts from S R h.1 i)) m h.0 i)
      (from_width_lasts from S R h.1 i) (from_lasts from S R e h.1 i)
  plan_lasts (Grouped from tests k items ags having list) S R e h = λ i.
      selected (λ m. tests_last having S R (entered e (k + length ags)) none_waits m h.3 i)
      (λ m. all_last list S R (entered e (k + length ags)) m h.4 i) (k + length ags)
      (filter (all_values (places k (length ags))) (group (places 0 k) (numbered k ags)
      (selected (λ m. tests_last tests S R (entered e (from_width_lasts from S R h.0 i)) none_waits
      m h.1 i)
      (λ m. all_last items S R (entered e (from_width_lasts from S R h.0 i)) m h.2 i)
      (from_width_lasts from S R h.0 i) (from_lasts from S R e h.0 i))))
  plan_lasts (Values rows) S R e h =
      λ i. values_plan (rows_width rows) (rows_last rows S R (lifted e) 0 h i)
      (rows_last rows S R (lifted e) 1 h i)
  plan_lasts (Ordered q keys) S R e h = λ i. sort keys (plan_lasts q S R e h i)

  pub fold_lasts : (q : Query) (S R : List ℕ → ℕ) (e : Env) → QueryLasts q S R →
      folded q S e ≡ folded q R e
  fold_lasts (Grouped from tests zero items (a ∷ ags) NoExpr list) S R e h = λ i. Some (record {
    input = selected (λ m. tests_last tests S R (entered e (from_width_lasts from S R h.0 i))
        none_waits m h.1 i)
        (λ m. all_last items S R (entered e (from_width_lasts from S R h.0 i)) m h.2 i)
        (from_width_lasts from S R h.0 i) (from_lasts from S R e h.0 i);
    aggregates = numbered 0 (a ∷ ags);
    list = λ p. all_last list S R (folded_env e p (suc (length ags))) (p + suc (length ags)) h.4 i;
  })
  fold_lasts _ S R e h = refl

  from_lasts : (x : From) (S R : List ℕ → ℕ) (e : Env) → FromLasts x S R →
      from_plan x S e ≡ from_plan x R e
  from_lasts (Table name) S R e h = λ i. scan name (h i)
  from_lasts (Derived q) S R e h = λ i. settle (plan_lasts q S R e h i)
  from_lasts (Cross a b) S R e h = λ i. cross (from_lasts a S R e h.0 i) (from_lasts b S R e h.1 i)
  from_lasts (Inner a b on) S R e h = λ i.
      let n = from_width_lasts a S R h.0 i + from_width_lasts b S R h.1 i in
      settle (keep (places 0 n) (filters (tests_last on S R (entered e n) none_waits n h.2 i)
      (cross (from_lasts a S R e h.0 i) (from_lasts b S R e h.1 i))))
  from_lasts (LeftOuter a b on) S R e h = λ i.
      let n = from_width_lasts a S R h.0 i + from_width_lasts b S R h.1 i in
      let c = all_last on S R (entered e n) n h.2 i in
      left_outer c.nodes (all_true c.scalars) (from_width_lasts b S R h.1 i)
      (from_lasts a S R e h.0 i) (from_lasts b S R e h.1 i)

pub lasting_plans : LastingPlans
lasting_plans = record {
  queries = plan_lasts;
  routines = λ r S R h. λ i.
      listed (singly (body_lasts r S R (top (length (parameters_of r))) 0 h i)) 0 unit_row;
  blocks = λ types returns s S R h params.
      inline_lasts (body.Body types returns (stmt_body s)) S R params (stmt_last s S R h);
  bodies = body_lasts;
}
