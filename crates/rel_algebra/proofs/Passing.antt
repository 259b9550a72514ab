-- Planned expressions and queries end as the plain meaning does, and leave the world in which they
-- began.
use Rattle.std.proofs.Common.{◌≡◌, ℕ, zero, suc, Bool, true, false, cond, List, [], ◌∷◌, ◌++◌, refl}
use Rattle.std.proofs.Common.{ap, sym, ◌∙◌, drop, slice_index_or, Option, Some, None, ◌⊎◌, inl}
use Rattle.std.proofs.Common.{inr}
use Rattle.rel_algebra.specs.Meaning as full
use Rattle.rel_algebra.specs.World as worlds
use Rattle.sql_values.specs.Operators.{applied as applied_value}
use Rattle.sql_values.specs.declared.value.Value.TheVariants.{Null, Bool as Truth}
use Rattle.std.proofs.Common.{Err, Ok}
use Rattle.sql_values.specs.Values.{Outcome, is_null, is_true}
use Rattle.sql_values.specs.Casts.{assigned}
use Rattle.sql_values.specs.declared.value.SqlType.{SqlType}
use Rattle.sql_values.specs.declared.value.Value.{Value}
use Rattle.row_types.specs.Rows.{Row}
use Rattle.rel_algebra.specs.Emit.{plan, top}
use Rattle.rel_algebra.specs.Endings.{Ending, after, ending_of, equal_values, is_false, op_value}
use Rattle.rel_algebra.specs.Endings.{row_at, value_at}
use Rattle.rel_algebra.specs.Groups.{Group, groups}
use Rattle.rel_algebra.specs.Joins.{from_width, group_row, numbered, or_nulls, pairs, places}
use Rattle.rel_algebra.specs.Joins.{single_of, table_width}
use Rattle.rel_algebra.specs.Plain.{Inputs, Scope, answer, call, each_of, ev, ev_all, ev_and}
use Rattle.rel_algebra.specs.Plain.{ev_args, ev_case, ev_coalesce, ev_links, ev_or, ev_rows}
use Rattle.rel_algebra.specs.Plain.{from_rows, holds, joined_row, kept_if, list_if, list_where}
use Rattle.rel_algebra.specs.Plain.{within}
use Rattle.rel_algebra.specs.Plan.{collected, den}
use Rattle.rel_algebra.specs.Theorem.{FunctionPlans, MeansAsked, MeansPassing, MeansWithin}
use Rattle.rel_algebra.specs.Theorem.{inputs_of}
use Rattle.rel_algebra.specs.Tree.{And, Call, CallSelf, Case, CaseOf, Chain, Coalesce, Column}
use Rattle.rel_algebra.specs.Tree.{Cross, Derived, Exists, Expr, Exprs, From, Returned, Grouped, In}
use Rattle.rel_algebra.specs.Tree.{Inner, LeftOuter, Links, Literal, MoreExprs, MoreLinks, MoreRows}
use Rattle.rel_algebra.specs.Tree.{NoExpr, NoLink, NoRow, Operate, Or, Ordered, Query, Routine}
use Rattle.rel_algebra.specs.Tree.{Rows, Select, Single, Table, Values, Variable, parameters_of}
use Rattle.rel_algebra.specs.World.{Called, call_of, Ends, Eval, Frame, Gives, Raises, RunsOut}
use Rattle.rel_algebra.specs.World.{World, with_tables, each_kept, each_listed, frame_of, give}
use Rattle.rel_algebra.specs.World.{no_frame, no_self, outcome, tested}
use Rattle.rel_algebra.specs.States.{is_exception, state_in}
use Rattle.rel_algebra.specs.Doing.{Returning, ends}
use Rattle.rel_algebra.specs.Handlers.{with_end}
use Rattle.rel_algebra.specs.Calls.{returned}
use Rattle.rel_algebra.specs.Returning.{IsReturned, ReturnedMeans}
use Rattle.rel_algebra.specs.Plain.{planned, planned_expr, planned_routine}
use Rattle.rel_algebra.proofs.Truths.{both, never}
use Rattle.rel_algebra.proofs.Induction.{routine_cells, whole_means}
use Rattle.rel_algebra.proofs.Planned.{AllPlan, FromPlans, LinksPlan, Plans, QueryPlans}
use Rattle.rel_algebra.proofs.Planned.{RoutinePlans, RowsPlan, plans, query_plans, routine_plans}
use Rattle.rel_algebra.specs.Tree.{Function, Perhaps, Without, With, Variables, NoVariable}
use Rattle.rel_algebra.specs.Tree.{MoreVariables, Stmt, Compound, If, SearchedCase, SimpleCase, Set}
use Rattle.rel_algebra.specs.Tree.{SelectInto, Signal, Resignal, GetStatementItems}
use Rattle.rel_algebra.specs.Tree.{GetConditionItems, Leave, Return, Stmts, NoStmt, MoreStmts}
use Rattle.rel_algebra.specs.Tree.{Branches, NoBranch, MoreBranches, Handlers, NoHandler}
use Rattle.rel_algebra.specs.Tree.{MoreHandlers}
use Rattle.rel_algebra.specs.Tree.{Stacked, Target}
use Rattle.rel_algebra.specs.BodyMeaning.{seen}
use Rattle.rel_algebra.specs.Returning.{IsBlock}
use Rattle.rel_algebra.proofs.Planned.{BranchesPlan, HandlersPlan, PerhapsPlans, StmtPlans}
use Rattle.rel_algebra.proofs.Planned.{StmtsPlan, VariablesPlan}
use Rattle.rel_algebra.proofs.BlockWorlds.{AllEach, BranchesEach, Each, ExprGives, HandlersEach}
use Rattle.rel_algebra.proofs.BlockWorlds.{PerhapsEach, QueryGives, VariablesEach, call_gives}
use Rattle.rel_algebra.proofs.BlockWorlds.{known_call_gives}
use Rattle.rel_algebra.proofs.Exceptions.{answer_fails, ev_fails}

-- this evaluation ends so, in this world
abbrev pub Is : {A : Type 0} → Eval A → Ending A → World → Type 0
Is m e w = m w ≡ full.carried e w

bind : {A B : Type 0} (m : Eval A) (e : Ending A) (w : World) (go : A → Eval B) (then : A →
    Ending B) → Is m e w → ((a : A) → Is (go a) (then a) w) →
    Is (λ v. worlds.after (m v) go) (after e then) w
bind m (Ok a) w go then h k = ap (λ (d : Ends _). worlds.after d go) h ∙ k a
bind m (Err s) w go then h k = ap (λ (d : Ends _). worlds.after d go) h

either : {A : Type 0} (b : Bool) (m n : Eval A) (e d : Ending A) (w : World) → Is m e w → Is n d w →
    Is (cond b m n) (cond b e d) w
either true m n e d w h k = h
either false m n e d w h k = k

outcome_is : (o : Outcome) (w : World) → Is (outcome o) (ending_of o) w
outcome_is (Ok v) w = refl
outcome_is (Err fault) w = refl

-- Columns.
column_is : (r : Row) (i : ℕ) → slice_index_or r i Null ≡ value_at r i
column_is [] i = refl
column_is (v ∷ r) zero = refl
column_is (v ∷ r) (suc i) = column_is r i

row_is : (rows : List Row) (level : ℕ) → slice_index_or rows level [] ≡ row_at rows level
row_is [] level = refl
row_is (r ∷ rows) zero = refl
row_is (r ∷ rows) (suc level) = row_is rows level

-- Records.
abbrev pub kept_end : {A : Type 0} → Bool → Ending A → Ending (Option A)
kept_end false e = Ok None
kept_end true e = after e (λ v. Ok (Some v))

abbrev pub tested_end : {A : Type 0} → Ending Bool → Ending A → Ending (Option A)
tested_end t e = after t (λ b. kept_end b e)

kept_is : {A : Type 0} (b : Bool) (m : Eval A) (e : Ending A) (w : World) → Is m e w →
    Is (worlds.kept b m) (kept_end b e) w
kept_is false m e w h = refl
kept_is true m e w h = bind m e w (λ v. give (Some v)) (λ v. Ok (Some v)) h (λ v. refl)

tested_is : {A : Type 0} (t : Eval Bool) (d : Ending Bool) (m : Eval A) (e : Ending A) (w : World) →
    Is t d w → Is m e w →
    Is (tested t m) (tested_end d e) w
tested_is t d m e w h k =
    bind t d w (λ b. worlds.kept b m) (λ b. kept_end b e) h (λ b. kept_is b m e w k)

abbrev pub listed_option : {A : Type 0} → Option A → List A
listed_option None = []
listed_option (Some a) = a ∷ []

front_end : {B : Type 0} (e : Ending (Option B)) (d : Ending (List B)) →
    after e (λ y. after d (λ ys. Ok (worlds.with_front y ys)))
    ≡ after (after e (λ y. Ok (listed_option y))) (λ ys. after d (λ zs. Ok (ys ++ zs)))
front_end (Err s) d = refl
front_end (Ok None) d = refl
front_end (Ok (Some x)) d = refl

each_kept_is : {A B : Type 0} (f : A → Eval (Option B)) (g : A → Ending (Option B)) (w : World) →
    ((a : A) → Is (f a) (g a) w) → (xs : List A) →
    Is (each_kept f xs) (each_of (λ a. after (g a) (λ y. Ok (listed_option y))) xs) w
each_kept_is f g w h [] = refl
each_kept_is f g w h (x ∷ xs) =
    bind (f x) (g x) w _ (λ y. after (each_of (λ a. after (g a) (λ z. Ok (listed_option z))) xs)
    (λ ys. Ok (worlds.with_front y ys))) (h x)
    (λ y. bind (each_kept f xs) (each_of (λ a. after (g a) (λ z. Ok (listed_option z))) xs) w
    (λ ys. give (worlds.with_front y ys))
    (λ ys. Ok (worlds.with_front y ys)) (each_kept_is f g w h xs) (λ ys. refl))
    ∙ ap (λ (e : Ending (List _)). full.carried e w)
    (front_end (g x) (each_of (λ a. after (g a) (λ z. Ok (listed_option z))) xs))

each_same_end : {A B : Type 0} (f g : A → Ending (List B)) → ((a : A) → f a ≡ g a) → (xs : List A) →
    each_of f xs ≡ each_of g xs
each_same_end f g h [] = refl
each_same_end f g h (x ∷ xs) =
    both (λ (a b : Ending (List _)). after a (λ ys. after b (λ zs. Ok (ys ++ zs)))) _ _ _ _ (h x)
    (each_same_end f g h xs)

kept_where : (b : Bool) (e : Ending Row) → after (kept_end b e) (λ y. Ok (listed_option y))
    ≡ list_if b e
kept_where true (Ok r) = refl
kept_where true (Err s) = refl
kept_where false e = refl

tested_where : (t : Ending Bool) (e : Ending Row) →
    after (tested_end t e) (λ y. Ok (listed_option y)) ≡ list_where t e
tested_where (Ok b) e = kept_where b e
tested_where (Err s) e = refl

kept_row : (b : Bool) (r : Row) → after (kept_end b (Ok r)) (λ y. Ok (listed_option y))
    ≡ Ok (kept_if b r)
kept_row true r = refl
kept_row false r = refl

tested_row : (t : Ending Bool) (r : Row) → after (tested_end t (Ok r)) (λ y. Ok (listed_option y))
    ≡ after t (λ b. Ok (kept_if b r))
tested_row (Ok b) r = kept_row b r
tested_row (Err s) r = refl

records_is : {A : Type 0} (t : A → Eval Bool) (m : A → Eval Row) (d : A → Ending Bool) (e : A →
    Ending Row) (w : World) →
    ((a : A) → Is (t a) (d a) w) → ((a : A) → Is (m a) (e a) w) → (xs : List A) →
    Is (each_kept (λ a. tested (t a) (m a)) xs) (each_of (λ a. list_where (d a) (e a)) xs) w
records_is t m d e w h k xs =
    each_kept_is (λ a. tested (t a) (m a)) (λ a. tested_end (d a) (e a)) w
    (λ a. tested_is (t a) (d a) (m a) (e a) w (h a) (k a)) xs
    ∙ ap (λ (x : Ending (List Row)). full.carried x w)
    (each_same_end _ _ (λ a. tested_where (d a) (e a)) xs)

matches_is : (g : Row → Row) (t : Row → Eval Bool) (d : Row → Ending Bool) (w : World) →
    ((r : Row) → Is (t r) (d r) w) → (rs : List Row) →
    Is (each_kept (λ r. tested (t (g r)) (give (g r))) rs)
    (each_of (λ r. after (d (g r)) (λ b. Ok (kept_if b (g r)))) rs) w
matches_is g t d w h rs =
    each_kept_is (λ r. tested (t (g r)) (give (g r))) (λ r. tested_end (d (g r)) (Ok (g r))) w
    (λ r. tested_is (t (g r)) (d (g r)) (give (g r)) (Ok (g r)) w (h (g r)) refl) rs
    ∙ ap (λ (x : Ending (List Row)). full.carried x w)
    (each_same_end _ _ (λ r. tested_row (d (g r)) (g r)) rs)

each_listed_is : {A B : Type 0} (f : A → Eval (List B)) (g : A → Ending (List B)) (w : World) →
    ((a : A) → Is (f a) (g a) w) → (xs : List A) →
    Is (each_listed f xs) (each_of g xs) w
each_listed_is f g w h [] = refl
each_listed_is f g w h (x ∷ xs) =
    bind (f x) (g x) w _ _ (h x) (λ ys. bind (each_listed f xs) (each_of g xs) w _ _
    (each_listed_is f g w h xs)
    (λ zs. refl))

-- the rows outside and the frame
abbrev pub scope : List Row → Frame → Scope
scope rows f = record { rows = rows; params = f.variables }

-- the tables of a world
abbrev pub given_by : World → List Value → Inputs
given_by w args = record { tables = w.tables; args = args }

-- the end of a body that is one RETURN, by that of its expression
abbrev pub ending_body : SqlType → Frame → World → Ends Value → Ends Value
ending_body returns f w d =
    returned returns (with_end [] (worlds.unit_of w d) f (λ v. ends (Returning v)))

same_world : (b : Bool) (w : World) → cond b (with_tables w w.tables) w ≡ w
same_world true w = refl
same_world false w = refl

body_is : (returns : SqlType) (f : Frame) (w : World) (e : Ending Value) →
    ending_body returns f w (full.carried e w)
    ≡ full.carried (after e (λ v. ending_of (assigned returns v))) w
body_is returns f w (Ok v) = outcome_is (assigned returns v) w
body_is returns f w (Err s) = ap (Raises s) (same_world (is_exception (state_in s)) w)

-- ---- what is asked of the expressions and queries of a block

expr_given : (x : Expr) (w : World) (args : List Value) →
    ((self : Called) (rows : List Row) (f : Frame) (w : World) (args : List Value) →
    Is (full.ev x self rows f) (ev x (given_by w args) (scope rows f)) w) → ExprGives w args x
expr_given x w args h =
    (λ self f. h self [] f w args, λ vs. ev_fails x (given_by w args) (seen vs))

query_given : (q : Query) (w : World) (args : List Value) →
    ((self : Called) (rows : List Row) (f : Frame) (w : World) (args : List Value) →
    Is (full.answer q self rows f) (answer q (given_by w args) (scope rows f)) w) →
    (targets : List Target) → QueryGives w args q targets
query_given q w args h targets =
    (λ self f. h self [] f w args, λ vs. answer_fails q (given_by w args) (seen vs))

mutual
  pub expr_is : (x : Expr) → Plans x →
      (self : Called) (rows : List Row) (f : Frame) (w : World) (args : List Value) →
      Is (full.ev x self rows f) (ev x (given_by w args) (scope rows f)) w
  expr_is (Literal v) p self rows f w args = refl
  expr_is (Column d i) p self rows f w args =
      ap (λ (r : Row). Gives (slice_index_or r i Null) w) (row_is rows d) ∙ ap (λ v. Gives v w)
      (column_is (row_at rows d) i)
  expr_is (Variable i) p self rows f w args = ap (λ v. Gives v w) (column_is f.variables i)
  expr_is (Chain x links) p self rows f w args =
      bind (full.ev x self rows f) (ev x (given_by w args) (scope rows f)) w
      (λ v. full.ev_links links v self rows f)
      (λ v. ev_links links v (given_by w args) (scope rows f)) (expr_is x p.0 self rows f w args)
      (λ v. links_is links p.1 v self rows f w args)
  expr_is (Operate op es) p self rows f w args =
      bind (full.ev_all es self rows f) (ev_all es (given_by w args) (scope rows f)) w
      (λ vs. full.carried (op_value op vs)) (op_value op)
      (all_is es p self rows f w args) (λ vs. refl)
  expr_is (And es) p self rows f w args = and_is es p (Truth true) self rows f w args
  expr_is (Or es) p self rows f w args = or_is es p (Truth false) self rows f w args
  expr_is (Case arms) p self rows f w args = case_is arms p is_true self rows f w args
  expr_is (CaseOf x test result arms) p self rows f w args =
      bind (full.ev x self rows f) (ev x (given_by w args) (scope rows f)) w _ _
      (expr_is x p.0 self rows f w args)
      (λ u. bind (full.ev test self rows f) (ev test (given_by w args) (scope rows f)) w _ _
      (expr_is test p.1 self rows f w args)
      (λ v. either (is_true (equal_values u v)) (full.ev result self rows f)
      (full.ev_case arms (λ z. is_true (equal_values u z)) self rows f)
      (ev result (given_by w args) (scope rows f))
      (ev_case arms (λ z. is_true (equal_values u z)) (given_by w args) (scope rows f)) w
      (expr_is result p.2 self rows f w args)
      (case_is arms p.3 (λ z. is_true (equal_values u z)) self rows f w args)))
  expr_is (Coalesce es) p self rows f w args = coalesce_is es p self rows f w args
  expr_is (In x q) p self rows f w args =
      bind (full.ev x self rows f) (ev x (given_by w args) (scope rows f)) w _ _
      (expr_is x p.0 self rows f w args)
      (λ v. bind (full.answer q self rows f) (answer q (given_by w args) (scope rows f)) w _ _
      (query_is q p.1 self rows f w args) (λ rs. refl))
  expr_is (Exists q) p self rows f w args =
      bind (full.answer q self rows f) (answer q (given_by w args) (scope rows f)) w _ _
      (query_is q p self rows f w args) (λ rs. refl)
  expr_is (Single q) p self rows f w args =
      bind (full.answer q self rows f) (answer q (given_by w args) (scope rows f)) w
      (λ rs. full.carried (single_of rs)) single_of
      (query_is q p self rows f w args) (λ rs. refl)
  expr_is (Call name r es) p self rows f w args =
      bind (full.ev_args es (parameters_of r) self rows f)
      (ev_args es (parameters_of r) (given_by w args) (scope rows f)) w (full.call r)
      (λ vs. call r vs (given_by w args))
      (args_is es p.1 (parameters_of r) self rows f w args) (λ vs. call_is r p.0 vs w args)
  expr_is (CallSelf types es) p self rows f w args = absurd p

  pub links_is : (links : Links) → LinksPlan links →
      (v : Value) (self : Called) (rows : List Row) (f : Frame) (w : World) (args : List Value) →
      Is (full.ev_links links v self rows f) (ev_links links v (given_by w args) (scope rows f)) w
  links_is NoLink p v self rows f w args = refl
  links_is (MoreLinks operator x links) p v self rows f w args =
      bind (full.ev x self rows f) (ev x (given_by w args) (scope rows f)) w _ _
      (expr_is x p.0 self rows f w args)
      (λ u. bind (outcome (applied_value operator v u)) (ending_of (applied_value operator v u)) w
      (λ y. full.ev_links links y self rows f)
      (λ y. ev_links links y (given_by w args) (scope rows f))
      (outcome_is (applied_value operator v u) w) (λ y. links_is links p.1 y self rows f w args))

  pub args_is : (es : Exprs) → AllPlan es →
      (types : List SqlType) (self : Called) (rows : List Row) (f : Frame) (w : World)
      (args : List Value) →
      Is (full.ev_args es types self rows f) (ev_args es types (given_by w args) (scope rows f)) w
  args_is NoExpr p types self rows f w args = refl
  args_is (MoreExprs x es) p types self rows f w args =
      let others = full.ev_args es (drop 1 types) self rows f in
      let others_end = ev_args es (drop 1 types) (given_by w args) (scope rows f) in
      bind (full.ev x self rows f) (ev x (given_by w args) (scope rows f)) w _ _
      (expr_is x p.0 self rows f w args)
      (λ v. bind (outcome (full.assigned_first types v)) (ending_of (full.assigned_first types v)) w
      (λ y. λ u. worlds.after (others u) (λ ys. give (y ∷ ys)))
      (λ y. after others_end (λ ys. Ok (y ∷ ys)))
      (outcome_is (full.assigned_first types v) w)
      (λ y. bind others others_end w (λ ys. give (y ∷ ys)) (λ ys. Ok (y ∷ ys))
      (args_is es p.1 (drop 1 types) self rows f w args) (λ ys. refl)))

  pub all_is : (es : Exprs) → AllPlan es →
      (self : Called) (rows : List Row) (f : Frame) (w : World) (args : List Value) →
      Is (full.ev_all es self rows f) (ev_all es (given_by w args) (scope rows f)) w
  all_is NoExpr p self rows f w args = refl
  all_is (MoreExprs x es) p self rows f w args =
      bind (full.ev x self rows f) (ev x (given_by w args) (scope rows f)) w _ _
      (expr_is x p.0 self rows f w args)
      (λ v. bind (full.ev_all es self rows f) (ev_all es (given_by w args) (scope rows f)) w _ _
      (all_is es p.1 self rows f w args) (λ vs. refl))

  pub rows_is : (rs : Rows) → RowsPlan rs →
      (self : Called) (rows : List Row) (f : Frame) (w : World) (args : List Value) →
      Is (full.ev_rows rs self rows f) (ev_rows rs (given_by w args) (scope rows f)) w
  rows_is NoRow p self rows f w args = refl
  rows_is (MoreRows es rs) p self rows f w args =
      bind (full.ev_all es self rows f) (ev_all es (given_by w args) (scope rows f)) w _ _
      (all_is es p.0 self rows f w args)
      (λ r. bind (full.ev_rows rs self rows f) (ev_rows rs (given_by w args) (scope rows f)) w _ _
      (rows_is rs p.1 self rows f w args) (λ more. refl))

  pub and_is : (es : Exprs) → AllPlan es →
      (so : Value) (self : Called) (rows : List Row) (f : Frame) (w : World) (args : List Value) →
      Is (full.ev_and es so self rows f) (ev_and es so (given_by w args) (scope rows f)) w
  and_is NoExpr p so self rows f w args = refl
  and_is (MoreExprs x es) p so self rows f w args =
      bind (full.ev x self rows f) (ev x (given_by w args) (scope rows f)) w _ _
      (expr_is x p.0 self rows f w args)
      (λ v. either (is_false v) (give (Truth false))
      (full.ev_and es (cond (is_true v) so Null) self rows f) (Ok (Truth false))
      (ev_and es (cond (is_true v) so Null) (given_by w args) (scope rows f)) w refl
      (and_is es p.1 (cond (is_true v) so Null) self rows f w args))

  pub or_is : (es : Exprs) → AllPlan es →
      (so : Value) (self : Called) (rows : List Row) (f : Frame) (w : World) (args : List Value) →
      Is (full.ev_or es so self rows f) (ev_or es so (given_by w args) (scope rows f)) w
  or_is NoExpr p so self rows f w args = refl
  or_is (MoreExprs x es) p so self rows f w args =
      bind (full.ev x self rows f) (ev x (given_by w args) (scope rows f)) w _ _
      (expr_is x p.0 self rows f w args)
      (λ v. either (is_true v) (give (Truth true))
      (full.ev_or es (cond (is_false v) so Null) self rows f) (Ok (Truth true))
      (ev_or es (cond (is_false v) so Null) (given_by w args) (scope rows f)) w refl
      (or_is es p.1 (cond (is_false v) so Null) self rows f w args))

  pub case_is : (es : Exprs) → AllPlan es →
      (passes : Value → Bool) (self : Called) (rows : List Row) (f : Frame) (w : World)
      (args : List Value) →
      Is (full.ev_case es passes self rows f) (ev_case es passes (given_by w args) (scope rows f)) w
  case_is NoExpr p passes self rows f w args = refl
  case_is (MoreExprs last NoExpr) p passes self rows f w args = expr_is last p.0 self rows f w args
  case_is (MoreExprs test (MoreExprs result arms)) p passes self rows f w args =
      bind (full.ev test self rows f) (ev test (given_by w args) (scope rows f)) w _ _
      (expr_is test p.0 self rows f w args)
      (λ v. either (passes v) (full.ev result self rows f) (full.ev_case arms passes self rows f)
      (ev result (given_by w args) (scope rows f))
      (ev_case arms passes (given_by w args) (scope rows f)) w
      (expr_is result p.1.0 self rows f w args) (case_is arms p.1.1 passes self rows f w args))

  pub coalesce_is : (es : Exprs) → AllPlan es →
      (self : Called) (rows : List Row) (f : Frame) (w : World) (args : List Value) →
      Is (full.ev_coalesce es self rows f) (ev_coalesce es (given_by w args) (scope rows f)) w
  coalesce_is NoExpr p self rows f w args = refl
  coalesce_is (MoreExprs x es) p self rows f w args =
      bind (full.ev x self rows f) (ev x (given_by w args) (scope rows f)) w _ _
      (expr_is x p.0 self rows f w args)
      (λ v. either (is_null v) (full.ev_coalesce es self rows f) (give v)
      (ev_coalesce es (given_by w args) (scope rows f)) (Ok v) w
      (coalesce_is es p.1 self rows f w args) refl)

  pub call_is : (r : Routine) → RoutinePlans r → (vs : List Value) (w : World) (args : List Value) →
      Is (full.call r vs) (call r vs (given_by w args)) w
  call_is (Returned types returns x) p vs w args =
      let f = frame_of vs in let e = ev x (given_by w args) (scope [] f) in
      ap (λ (d : Ends Value). ending_body returns f w d) (expr_is x p no_self [] f w args)
      ∙ body_is returns f w e
  call_is (Function false types returns false statement) p vs w args =
      call_gives types returns statement vs args w (stmt_give statement p w args)
  call_is (Function false types returns true statement) p vs w args =
      known_call_gives types returns statement vs args w (stmt_give statement p w args)
  call_is _ p vs w args = absurd p

  perhaps_give : (text : Perhaps) → PerhapsPlans text → (w : World) (args : List Value) →
      PerhapsEach text (ExprGives w args)
  perhaps_give Without p w args = tt
  perhaps_give (With x) p w args = expr_given x w args (expr_is x p)

  variables_give : (vs : Variables) → VariablesPlan vs → (w : World) (args : List Value) →
      VariablesEach vs (ExprGives w args)
  variables_give NoVariable p w args = tt
  variables_give (MoreVariables k t default others) p w args =
      (perhaps_give default p.0 w args, variables_give others p.1 w args)

  stmt_give : (s : Stmt) → StmtPlans s → (w : World) (args : List Value) →
      Each s (ExprGives w args) (QueryGives w args)
  stmt_give (Compound atomic variables zero handlers statements) p w args = (
    variables_give variables p.0 w args,
    handlers_give handlers p.1 w args,
    stmts_give statements p.2 w args,
  )
  stmt_give (If branches otherwise) p w args =
      (branches_give branches p.0 w args, stmts_give otherwise p.1 w args)
  stmt_give (SearchedCase branches otherwise) p w args =
      (branches_give branches p.0 w args, stmts_give otherwise p.1 w args)
  stmt_give (SimpleCase x branches otherwise) p w args = (
    expr_given x w args (expr_is x p.0),
    branches_give branches p.1 w args,
    stmts_give otherwise p.2 w args,
  )
  stmt_give (Set t x) p w args = expr_given x w args (expr_is x p)
  stmt_give (SelectInto q targets) p w args = query_given q w args (query_is q p.0) targets
  stmt_give (Signal state text) p w args = perhaps_give text p w args
  stmt_give (Resignal state text) p w args = perhaps_give text p w args
  stmt_give (GetStatementItems Stacked reads) p w args = tt
  stmt_give (GetConditionItems Stacked number reads) p w args =
      expr_given number w args (expr_is number p)
  stmt_give (Leave outwards) p w args = tt
  stmt_give (Return x) p w args = expr_given x w args (expr_is x p)
  stmt_give _ p w args = absurd p

  stmts_give : (ss : Stmts) → StmtsPlan ss → (w : World) (args : List Value) →
      AllEach ss (ExprGives w args) (QueryGives w args)
  stmts_give NoStmt p w args = tt
  stmts_give (MoreStmts s ss) p w args = (stmt_give s p.0 w args, stmts_give ss p.1 w args)

  branches_give : (bs : Branches) → BranchesPlan bs → (w : World) (args : List Value) →
      BranchesEach bs (ExprGives w args) (QueryGives w args)
  branches_give NoBranch p w args = tt
  branches_give (MoreBranches test statements others) p w args = (
    expr_given test w args (expr_is test p.0),
    stmts_give statements p.1 w args,
    branches_give others p.2 w args,
  )

  handlers_give : (hs : Handlers) → HandlersPlan hs → (w : World) (args : List Value) →
      HandlersEach hs (ExprGives w args) (QueryGives w args)
  handlers_give NoHandler p w args = tt
  handlers_give (MoreHandlers kind takes action others) p w args =
      (stmt_give action p.0 w args, handlers_give others p.1 w args)

  pub holds_is : (es : Exprs) → AllPlan es →
      (self : Called) (rows : List Row) (f : Frame) (w : World) (args : List Value) →
      Is (full.holds es self rows f) (holds es (given_by w args) (scope rows f)) w
  holds_is NoExpr p self rows f w args = refl
  holds_is (MoreExprs x es) p self rows f w args =
      bind (full.ev x self rows f) (ev x (given_by w args) (scope rows f)) w _ _
      (expr_is x p.0 self rows f w args)
      (λ v. either (is_true v) (full.holds es self rows f) (give false)
      (holds es (given_by w args) (scope rows f)) (Ok false) w
      (holds_is es p.1 self rows f w args) refl)

  pub query_is : (q : Query) → QueryPlans q →
      (self : Called) (rows : List Row) (f : Frame) (w : World) (args : List Value) →
      Is (full.answer q self rows f) (answer q (given_by w args) (scope rows f)) w
  query_is (Select items x tests) p self rows f w args =
      let g = given_by w args in let s = scope rows f in
      bind (full.from_rows x self rows f) (from_rows x g s) w _ _ (from_is x p.1 self rows f w args)
      (λ rs. records_is (λ (r : Row). full.holds tests self (r ∷ rows) f)
      (λ r. full.ev_all items self (r ∷ rows) f) (λ r. holds tests g (within s r))
      (λ r. ev_all items g (within s r)) w
      (λ r. holds_is tests p.2 self (r ∷ rows) f w args)
      (λ r. all_is items p.0 self (r ∷ rows) f w args) rs)
  query_is (Grouped x tests k items ags having list) p self rows f w args =
      let g = given_by w args in let s = scope rows f in
      let row : Row → Eval (Option Row) = λ r. tested (full.holds tests self (r ∷ rows) f)
      (full.ev_all items self (r ∷ rows) f) in
      let row_end : Row → Ending (List Row) = λ r. list_where (holds tests g (within s r))
      (ev_all items g (within s r)) in
      let one : Group → Eval (Option Row) = λ m. λ v.
      worlds.after (full.carried (group_row (numbered k ags) m) v)
      (λ r. tested (full.holds having self (r ∷ rows) f) (full.ev_all list self (r ∷ rows) f)) in
      let one_test : Group → Ending (Option Row) = λ m. after (group_row (numbered k ags) m)
      (λ r. tested_end (holds having g (within s r)) (ev_all list g (within s r))) in
      let one_end : Group → Ending (List Row) = λ m. after (group_row (numbered k ags) m)
      (λ r. list_where (holds having g (within s r)) (ev_all list g (within s r))) in
      bind (full.from_rows x self rows f) (from_rows x g s) w
      (λ rs. λ v. worlds.after (each_kept row rs v)
      (λ parts. each_kept one (groups (places 0 k) parts)))
      (λ rs. after (each_of row_end rs) (λ parts. each_of one_end (groups (places 0 k) parts)))
      (from_is x p.0 self rows f w args)
      (λ rs. bind (each_kept row rs) (each_of row_end rs) w
      (λ parts. each_kept one (groups (places 0 k) parts))
      (λ parts. each_of one_end (groups (places 0 k) parts))
      (records_is (λ (r : Row). full.holds tests self (r ∷ rows) f)
      (λ r. full.ev_all items self (r ∷ rows) f) (λ r. holds tests g (within s r))
      (λ r. ev_all items g (within s r)) w
      (λ r. holds_is tests p.1 self (r ∷ rows) f w args)
      (λ r. all_is items p.2 self (r ∷ rows) f w args) rs)
      (λ parts. each_kept_is one one_test w
      (λ m. bind (full.carried (group_row (numbered k ags) m)) (group_row (numbered k ags) m) w
      (λ r. tested (full.holds having self (r ∷ rows) f) (full.ev_all list self (r ∷ rows) f))
      (λ r. tested_end (holds having g (within s r)) (ev_all list g (within s r))) refl
      (λ r. tested_is (full.holds having self (r ∷ rows) f) (holds having g (within s r))
      (full.ev_all list self (r ∷ rows) f)
      (ev_all list g (within s r)) w
      (holds_is having p.3 self (r ∷ rows) f w args) (all_is list p.4 self (r ∷ rows) f w args)))
      (groups (places 0 k) parts)
      ∙ ap (λ (e : Ending (List Row)). full.carried e w) (each_same_end _ _
      (λ m. group_where (group_row (numbered k ags) m) (λ r. holds having g (within s r))
      (λ r. ev_all list g (within s r)))
      (groups (places 0 k) parts))))
    where
      group_where : (e : Ending Row) (t : Row → Ending Bool) (d : Row → Ending Row) →
          after (after e (λ r. tested_end (t r) (d r))) (λ y. Ok (listed_option y))
          ≡ after e (λ r. list_where (t r) (d r))
      group_where (Ok r) t d = tested_where (t r) (d r)
      group_where (Err a) t d = refl
  query_is (Values rs) p self rows f w args = rows_is rs p.1 self rows f w args
  query_is (Ordered q keys) p self rows f w args =
      bind (full.answer q self rows f) (answer q (given_by w args) (scope rows f)) w _ _
      (query_is q p self rows f w args) (λ rs. refl)

  pub from_is : (x : From) → FromPlans x →
      (self : Called) (rows : List Row) (f : Frame) (w : World) (args : List Value) →
      Is (full.from_rows x self rows f) (from_rows x (given_by w args) (scope rows f)) w
  from_is (Table t) p self rows f w args = refl
  from_is (Derived q) p self rows f w args = query_is q p self rows f w args
  from_is (Cross a b) p self rows f w args =
      bind (full.from_rows a self rows f) (from_rows a (given_by w args) (scope rows f)) w _ _
      (from_is a p.0 self rows f w args)
      (λ left. bind (full.from_rows b self rows f) (from_rows b (given_by w args) (scope rows f)) w
      _ _ (from_is b p.1 self rows f w args)
      (λ right. refl))
  from_is (Inner a b on) p self rows f w args =
      let g = given_by w args in let s = scope rows f in
      bind (full.from_rows a self rows f) (from_rows a g s) w _ _ (from_is a p.0 self rows f w args)
      (λ left. bind (full.from_rows b self rows f) (from_rows b g s) w _ _
      (from_is b p.1 self rows f w args)
      (λ right. matches_is (λ r. r) (λ r. full.holds on self (r ∷ rows) f)
      (λ r. holds on g (within s r)) w
      (λ r. holds_is on p.2 self (r ∷ rows) f w args) (pairs left right)))
  from_is (LeftOuter a b on) p self rows f w args =
      let g = given_by w args in let s = scope rows f in
      let n = from_width b (table_width w.tables) in
      bind (full.from_rows a self rows f) (from_rows a g s) w _ _ (from_is a p.0 self rows f w args)
      (λ left. bind (full.from_rows b self rows f) (from_rows b g s) w _ _
      (from_is b p.1 self rows f w args)
      (λ right. each_listed_is _ (joined_row n (λ r. holds on g (within s r)) right) w
      (λ l. bind (each_kept (λ r. tested (full.holds on self ((l ++ r) ∷ rows) f) (give (l ++ r)))
      right)
      (each_of (λ r. after (holds on g (within s (l ++ r))) (λ t. Ok (kept_if t (l ++ r)))) right) w
      (λ ms. give (or_nulls l n ms)) (λ ms. Ok (or_nulls l n ms))
      (matches_is (λ r. l ++ r) (λ r. full.holds on self (r ∷ rows) f)
      (λ r. holds on g (within s r)) w
      (λ r. holds_is on p.2 self (r ∷ rows) f w args) right) (λ ms. refl)) left))

-- what is planned, is so in every world
pub expr_gives : (x : Expr) → planned_expr x ≡ true → (w : World) (args : List Value) →
    ExprGives w args x
expr_gives x p w args = expr_given x w args (expr_is x (plans x p))

pub query_gives : (q : Query) → planned q ≡ true → (w : World) (args : List Value)
    (targets : List Target) → QueryGives w args q targets
query_gives q p w args targets = query_given q w args (query_is q (query_plans q p)) targets

pub means_within : MeansWithin
means_within q self f w p fits =
    query_is q (query_plans q p) self [] f w f.variables
    ∙ ap (λ (e : Ending (List Row)). full.carried e w) (sym (whole_means q (inputs_of w f) p fits))

pub means_passing : MeansPassing
means_passing q f w p fits = means_within q no_self f w p fits

unit_carried : {A : Type 0} (w : World) (e : Ending A) → worlds.unit_of w (full.carried e w)
    ≡ full.carried e w
unit_carried w (Ok a) = refl
unit_carried w (Err s) = ap (Raises s) (same_world (is_exception (state_in s)) w)

pub means_asked : MeansAsked
means_asked q w p fits =
    ap (worlds.unit_of w) (means_passing q no_frame w p fits) ∙ unit_carried w
    (collected (den (plan q (table_width w.tables) (top 0)) (inputs_of w no_frame) []))

pub function_plans : FunctionPlans
function_plans r vs w p l fits = record {
  end = call r vs (given_by w vs);
  has = routine_cells r (inputs_of w (frame_of vs)) p l fits;
  ends = call_is r (routine_plans r p) vs w vs;
}

-- Bodies that are one RETURN.
body_means : (returns : SqlType) (f : Frame) (w : World) (d : Ends Value) →
    ending_body returns f w d
    ≡ worlds.after (worlds.unit_of w d) (λ v. outcome (assigned returns v))
body_means returns f w (Gives v u) = refl
body_means returns f w (Raises s u) = refl
body_means returns f w (RunsOut u) = refl

two_forms : (r : Routine) → planned_routine r ≡ true → IsReturned r ⊎ IsBlock r
two_forms (Returned types returns x) p =
    inl (record { parameters = types; returns = returns; body = x; form = refl })
two_forms (Function false types returns null_call statement) p = inr (record {
  parameters = types;
  returns = returns;
  null_call = null_call;
  body = statement;
  form = refl;
  in_form = p;
})
two_forms _ p = never p

pub returned_means : ReturnedMeans
returned_means = record {
  called = λ calls_itself types returns e vs w.
      λ i. call_of calls_itself no_self
      (λ self us v. body_means returns (frame_of us) v (full.ev e self [] (frame_of us) v) i) vs w;
  planned = λ types returns e vs w p.
      let f = frame_of vs in let g = given_by w vs in
      let h = expr_is e (plans e p) no_self [] f w vs in
      call_is (Returned types returns e) (plans e p) vs w vs
      ∙ sym (bind (full.ev e no_self [] f) (ev e g (scope [] f)) w
      (λ v. outcome (assigned returns v)) (λ v. ending_of (assigned returns v)) h
      (λ v. outcome_is (assigned returns v) w));
  alone = two_forms;
}
