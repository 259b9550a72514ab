-- Whatever an expression or a query raises is an exception.
use Rattle.std.proofs.Common.{ℕ, Bool, true, false, cond, List, [], ◌∷◌, ◌++◌, refl, Ok}
use Rattle.std.proofs.Common.{Some, None}
use Rattle.std.specs.List.{list_any}
use Rattle.rel_algebra.specs.BodyMeaning.{call as body_call}
use Rattle.sql_values.specs.declared.value.Value.{Value}
use Rattle.sql_values.specs.declared.value.Value.TheVariants.{Null, Bool as Truth}
use Rattle.sql_values.specs.declared.value.SqlType.{SqlType}
use Rattle.sql_values.specs.Values.{is_null, is_true, negation_of, remainder_of}
use Rattle.sql_values.specs.Texts.{substring_of}
use Rattle.sql_values.specs.Casts.{assigned, cast_to}
use Rattle.sql_values.specs.Operators.{applied}
use Rattle.sql_values.specs.Folds.{folded}
use Rattle.row_types.specs.Rows.{Row}
use Rattle.rel_algebra.specs.Tree.{Aggregate, And, Call, CallSelf, Case, CaseOf, Chain, Coalesce}
use Rattle.rel_algebra.specs.Tree.{Column, Cross, Derived, Exists, Expr, Exprs, From, Returned}
use Rattle.rel_algebra.specs.Tree.{Grouped, In, Inner, LeftOuter, Links, Literal, MoreExprs}
use Rattle.rel_algebra.specs.Tree.{MoreLinks, MoreRows, NoExpr, NoLink, NoRow, Operate, Or, Ordered}
use Rattle.rel_algebra.specs.Tree.{Query, Routine, Rows, Select, Single, Table, Values, Variable}
use Rattle.rel_algebra.specs.Tree.{Function, parameters_of, Operation, Negation, Arithmetic}
use Rattle.rel_algebra.specs.Tree.{Modulo}
use Rattle.rel_algebra.specs.Tree.{Substring, Cast, Assign, Opposite, Comparing, CharLength}
use Rattle.rel_algebra.specs.Tree.{NullTest, TrueTest, FalseTest, AnyOf}
use Rattle.rel_algebra.specs.Endings.{Ending, after, ending_of, equal_values, is_false, op_value}
use Rattle.rel_algebra.specs.Groups.{Group, groups, values_of_column}
use Rattle.rel_algebra.specs.Joins.{finish_all, from_width, group_row, numbered, pairs, places}
use Rattle.rel_algebra.specs.Joins.{single_of}
use Rattle.rel_algebra.specs.Meaning.{assigned_first}
use Rattle.rel_algebra.specs.Plain.{Inputs, Scope, answer, call, columns_in, each_of, ev, ev_all}
use Rattle.rel_algebra.specs.Plain.{ev_and, ev_args, ev_case, ev_coalesce, ev_links, ev_or, ev_rows}
use Rattle.rel_algebra.specs.Plain.{from_rows, holds, joined_row, kept_if, list_if, list_where}
use Rattle.rel_algebra.specs.Plain.{within}
use Rattle.rel_algebra.specs.Bodies as body
use Rattle.rel_algebra.specs.Plain.{stmt_meant}
use Rattle.rel_algebra.proofs.BodyRaises.{Fails, body_fails, ending_fails, fails_after}

fails_if : {A : Type 0} (b : Bool) (e d : Ending A) → Fails e → Fails d → Fails (cond b e d)
fails_if true e d h k = h
fails_if false e d h k = k

op_fails : (op : Operation) (vs : List Value) → Fails (op_value op vs)
op_fails Negation (x ∷ []) = ending_fails (negation_of x)
op_fails (Arithmetic operator) (x ∷ y ∷ []) = ending_fails (applied operator x y)
op_fails Modulo (x ∷ y ∷ []) = ending_fails (remainder_of x y)
op_fails Substring (x ∷ from ∷ []) = ending_fails (substring_of x from None)
op_fails Substring (x ∷ from ∷ count ∷ []) = ending_fails (substring_of x from (Some count))
op_fails (Cast t) (x ∷ []) = ending_fails (cast_to t x)
op_fails (Assign t) (x ∷ []) = ending_fails (assigned t x)
op_fails (Comparing comparison) (x ∷ y ∷ []) = tt
op_fails CharLength (x ∷ []) = tt
op_fails Opposite (Truth p ∷ []) = tt
op_fails NullTest (x ∷ []) = tt
op_fails TrueTest (x ∷ []) = tt
op_fails FalseTest (x ∷ []) = tt
op_fails AnyOf (x ∷ vs) = tt
op_fails _ _ = tt

single_fails : (rows : List Row) → Fails (single_of rows)
single_fails [] = tt
single_fails (r ∷ []) = tt
single_fails (r ∷ s ∷ rows) = refl

finish_fails : (ags : List (Aggregate × ℕ)) (rows : List Row) → Fails (finish_all ags rows)
finish_fails [] rows = tt
finish_fails (a ∷ ags) rows =
    fails_after (ending_of (folded a.0 (values_of_column a.1 rows))) _
    (ending_fails (folded a.0 (values_of_column a.1 rows)))
    (λ v. fails_after (finish_all ags rows) _ (finish_fails ags rows) (λ vs. tt))

group_fails : (ags : List (Aggregate × ℕ)) (g : Group) → Fails (group_row ags g)
group_fails ags g =
    fails_after (finish_all ags g.members) _ (finish_fails ags g.members) (λ vs. tt)

each_fails : {A B : Type 0} (f : A → Ending (List B)) → ((a : A) → Fails (f a)) →
    (xs : List A) → Fails (each_of f xs)
each_fails f h [] = tt
each_fails f h (x ∷ xs) =
    fails_after (f x) _ (h x) (λ ys. fails_after (each_of f xs) _ (each_fails f h xs) (λ zs. tt))

list_fails : (b : Bool) (list : Ending Row) → Fails list → Fails (list_if b list)
list_fails true list h = fails_after list _ h (λ r. tt)
list_fails false list h = tt

where_fails : (tests : Ending Bool) (list : Ending Row) → Fails tests → Fails list →
    Fails (list_where tests list)
where_fails tests list h k = fails_after tests _ h (λ b. list_fails b list k)

assigned_first_fails : (types : List SqlType) (v : Value) →
    Fails (ending_of (assigned_first types v))
assigned_first_fails types v = ending_fails (assigned_first types v)

mutual
  pub ev_fails : (x : Expr) (w : Inputs) (f : Scope) → Fails (ev x w f)
  ev_fails (Literal v) w f = tt
  ev_fails (Column d i) w f = tt
  ev_fails (Variable i) w f = tt
  ev_fails (Chain x links) w f =
      fails_after (ev x w f) _ (ev_fails x w f) (λ v. links_fail links v w f)
  ev_fails (Operate op es) w f =
      fails_after (ev_all es w f) _ (all_fail es w f) (λ vs. op_fails op vs)
  ev_fails (And es) w f = and_fails es (Truth true) w f
  ev_fails (Or es) w f = or_fails es (Truth false) w f
  ev_fails (Case arms) w f = case_fails arms is_true w f
  ev_fails (CaseOf e test result arms) w f =
      fails_after (ev e w f) _ (ev_fails e w f) (λ x. fails_after (ev test w f) _
      (ev_fails test w f) (λ y. fails_if (is_true (equal_values x y)) (ev result w f)
      (ev_case arms (λ z. is_true (equal_values x z)) w f) (ev_fails result w f)
      (case_fails arms (λ z. is_true (equal_values x z)) w f)))
  ev_fails (Coalesce es) w f = coalesce_fails es w f
  ev_fails (In e q) w f = fails_after (ev e w f) _ (ev_fails e w f)
      (λ x. fails_after (answer q w f) _ (answer_fails q w f) (λ rows. tt))
  ev_fails (Exists q) w f = fails_after (answer q w f) _ (answer_fails q w f) (λ rows. tt)
  ev_fails (Single q) w f =
      fails_after (answer q w f) _ (answer_fails q w f) (λ rows. single_fails rows)
  ev_fails (Call name r es) w f = fails_after (ev_args es (parameters_of r) w f) _
      (args_fail es (parameters_of r) w f) (λ vs. call_fails r vs w)
  ev_fails (CallSelf types es) w f = tt

  links_fail : (links : Links) (v : Value) (w : Inputs) (f : Scope) → Fails (ev_links links v w f)
  links_fail NoLink v w f = tt
  links_fail (MoreLinks operator x links) v w f =
      fails_after (ev x w f) _ (ev_fails x w f) (λ u. fails_after (ending_of (applied operator v u))
      _ (ending_fails (applied operator v u)) (λ y. links_fail links y w f))

  all_fail : (es : Exprs) (w : Inputs) (f : Scope) → Fails (ev_all es w f)
  all_fail NoExpr w f = tt
  all_fail (MoreExprs e es) w f = fails_after (ev e w f) _ (ev_fails e w f)
      (λ v. fails_after (ev_all es w f) _ (all_fail es w f) (λ vs. tt))

  args_fail : (es : Exprs) (types : List SqlType) (w : Inputs) (f : Scope) →
      Fails (ev_args es types w f)
  args_fail NoExpr types w f = tt
  args_fail (MoreExprs e es) types w f = fails_after (ev e w f) _ (ev_fails e w f)
      (λ v. fails_after (ending_of (assigned_first types v)) _ (assigned_first_fails types v)
      (λ x. fails_after (ev_args es _ w f) _ (args_fail es _ w f) (λ xs. tt)))

  rows_fail : (rows : Rows) (w : Inputs) (f : Scope) → Fails (ev_rows rows w f)
  rows_fail NoRow w f = tt
  rows_fail (MoreRows es rows) w f = fails_after (ev_all es w f) _ (all_fail es w f)
      (λ r. fails_after (ev_rows rows w f) _ (rows_fail rows w f) (λ rs. tt))

  and_fails : (es : Exprs) (so_far : Value) (w : Inputs) (f : Scope) → Fails (ev_and es so_far w f)
  and_fails NoExpr so_far w f = tt
  and_fails (MoreExprs e es) so_far w f = fails_after (ev e w f) _ (ev_fails e w f)
      (λ v. fails_if (is_false v) (Ok (Truth false)) _ tt
      (and_fails es (cond (is_true v) so_far Null) w f))

  or_fails : (es : Exprs) (so_far : Value) (w : Inputs) (f : Scope) → Fails (ev_or es so_far w f)
  or_fails NoExpr so_far w f = tt
  or_fails (MoreExprs e es) so_far w f = fails_after (ev e w f) _ (ev_fails e w f)
      (λ v. fails_if (is_true v) (Ok (Truth true)) _ tt
      (or_fails es (cond (is_false v) so_far Null) w f))

  case_fails : (arms : Exprs) (passes : Value → Bool) (w : Inputs) (f : Scope) →
      Fails (ev_case arms passes w f)
  case_fails NoExpr passes w f = tt
  case_fails (MoreExprs last NoExpr) passes w f = ev_fails last w f
  case_fails (MoreExprs test (MoreExprs result arms)) passes w f =
      fails_after (ev test w f) _ (ev_fails test w f)
      (λ v. fails_if (passes v) (ev result w f) (ev_case arms passes w f) (ev_fails result w f)
      (case_fails arms passes w f))

  coalesce_fails : (es : Exprs) (w : Inputs) (f : Scope) → Fails (ev_coalesce es w f)
  coalesce_fails NoExpr w f = tt
  coalesce_fails (MoreExprs e es) w f = fails_after (ev e w f) _ (ev_fails e w f)
      (λ v. fails_if (is_null v) (ev_coalesce es w f) (Ok v) (coalesce_fails es w f) tt)

  call_fails : (r : Routine) (vs : List Value) (w : Inputs) → Fails (call r vs w)
  call_fails (Returned types returns e) vs w =
      fails_after (ev e w (record { rows = []; params = vs })) _
      (ev_fails e w (record { rows = []; params = vs })) (λ v. ending_fails (assigned returns v))
  call_fails (Function false types returns false statement) vs w =
      body_fails (body.Body types returns (stmt_meant statement)) vs w
  call_fails (Function false types returns true statement) vs w =
      let r = body.Body types returns (stmt_meant statement) in
      fails_if (list_any is_null vs) (Ok Null) (body_call r vs w) tt (body_fails r vs w)
  call_fails _ vs w = tt

  holds_fails : (tests : Exprs) (w : Inputs) (f : Scope) → Fails (holds tests w f)
  holds_fails NoExpr w f = tt
  holds_fails (MoreExprs e es) w f = fails_after (ev e w f) _ (ev_fails e w f)
      (λ v. fails_if (is_true v) (holds es w f) (Ok false) (holds_fails es w f) tt)

  pub answer_fails : (q : Query) (w : Inputs) (f : Scope) → Fails (answer q w f)
  answer_fails (Select items from tests) w f = fails_after (from_rows from w f) _
      (from_fails from w f) (λ rows. each_fails _ (λ r. where_fails (holds tests w (within f r))
      (ev_all items w (within f r)) (holds_fails tests w (within f r))
      (all_fail items w (within f r))) rows)
  answer_fails (Grouped from tests k items ags having list) w f =
      fails_after (from_rows from w f) _ (from_fails from w f)
      (λ rows. fails_after (each_of (λ r. list_where (holds tests w (within f r))
      (ev_all items w (within f r))) rows) _ (each_fails _
      (λ r. where_fails (holds tests w (within f r)) (ev_all items w (within f r))
      (holds_fails tests w (within f r)) (all_fail items w (within f r))) rows)
      (λ parts. each_fails _ (λ g. fails_after (group_row (numbered k ags) g) _
      (group_fails (numbered k ags) g) (λ r. where_fails (holds having w (within f r))
      (ev_all list w (within f r)) (holds_fails having w (within f r))
      (all_fail list w (within f r)))) (groups (places 0 k) parts)))
  answer_fails (Values rows) w f = rows_fail rows w f
  answer_fails (Ordered q keys) w f =
      fails_after (answer q w f) _ (answer_fails q w f) (λ rows. tt)

  from_fails : (x : From) (w : Inputs) (f : Scope) → Fails (from_rows x w f)
  from_fails (Table t) w f = tt
  from_fails (Derived q) w f = answer_fails q w f
  from_fails (Cross a b) w f = fails_after (from_rows a w f) _ (from_fails a w f)
      (λ left. fails_after (from_rows b w f) _ (from_fails b w f) (λ right. tt))
  from_fails (Inner a b on) w f = fails_after (from_rows a w f) _ (from_fails a w f)
      (λ left. fails_after (from_rows b w f) _ (from_fails b w f)
      (λ right. each_fails _ (λ r. fails_after (holds on w (within f r)) _
      (holds_fails on w (within f r)) (λ t. tt)) (pairs left right)))
  from_fails (LeftOuter a b on) w f = fails_after (from_rows a w f) _ (from_fails a w f)
      (λ left. fails_after (from_rows b w f) _ (from_fails b w f)
      (λ right. each_fails (joined_row (from_width b (columns_in w))
      (λ r. holds on w (within f r)) right) (λ l. fails_after (each_of
      (λ r. after (holds on w (within f (l ++ r))) (λ t. Ok (kept_if t (l ++ r)))) right) _
      (each_fails _ (λ r. fails_after (holds on w (within f (l ++ r))) _
      (holds_fails on w (within f (l ++ r))) (λ t. tt)) right) (λ ms. tt)) left))
