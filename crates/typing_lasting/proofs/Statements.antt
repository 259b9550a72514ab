-- Statements are typed the same where the names that they use stand for the same: by induction over
-- the trees.
use Rattle.std.proofs.Common.{◌≡◌, ℕ, Bool, false, ◌&&◌, ◌||◌, List, [], ◌∷◌, ◌++◌, map}
use Rattle.std.proofs.Common.{length, Option, None, Some, refl, sym, subst}
use Rattle.std.specs.Prelude.{nat_eq, not, replicate, is_some}
use Rattle.std.specs.List.{list_all}
use Rattle.bound_trees.specs.declared.change.BoundDelete.{BoundDelete}
use Rattle.bound_trees.specs.declared.change.BoundInsert.{BoundInsert}
use Rattle.bound_trees.specs.declared.change.BoundUpdate.{BoundUpdate}
use Rattle.bound_trees.specs.declared.condition.BoundInformation.{BoundInformation}
use Rattle.bound_trees.specs.declared.condition.BoundInformation.TheVariants as information
use Rattle.bound_trees.specs.declared.expr.BoundExpr.{BoundExpr}
use Rattle.bound_trees.specs.declared.query.BoundQuery.{BoundQuery}
use Rattle.bound_trees.specs.declared.statement.BoundArgument.{BoundArgument}
use Rattle.bound_trees.specs.declared.statement.BoundArgument.TheVariants as argument
use Rattle.bound_trees.specs.declared.statement.BoundBlock.{BoundBlock, roll-BoundBlock}
use Rattle.bound_trees.specs.declared.statement.BoundBranch.{BoundBranch, roll-BoundBranch}
use Rattle.bound_trees.specs.declared.statement.BoundCall.{BoundCall}
use Rattle.bound_trees.specs.declared.statement.BoundHandler.{BoundHandler, roll-BoundHandler}
use Rattle.bound_trees.specs.declared.statement.BoundStmt.{BoundStmt, roll-BoundStmt}
use Rattle.bound_trees.specs.declared.statement.BoundStmt.TheFolds.{map-BoundStmt, map-BoundBlock}
use Rattle.bound_trees.specs.declared.statement.BoundStmt.TheFolds.{map-BoundBranch}
use Rattle.bound_trees.specs.declared.statement.BoundStmt.TheFolds.{map-BoundHandler, ind-BoundStmt}
use Rattle.bound_trees.specs.declared.statement.BoundStmt.TheOpen.{BoundStmt-F, BoundBlock-F}
use Rattle.bound_trees.specs.declared.statement.BoundStmt.TheOpen.{BoundBranch-F, BoundHandler-F}
use Rattle.bound_trees.specs.declared.statement.BoundVariables.{BoundVariables}
use Rattle.bind_kinds.specs.declared.kind.Kind.{Kind}
use Rattle.bind_kinds.specs.declared.kind.Kind.TheVariants.{Integer, Text, Boolean}
use Rattle.bind_kinds.specs.Kinds.{kind_of_type}
use Rattle.typing_trees.specs.Around.{Around, Slot, stored, read, with_slots, then, only_if}
use Rattle.typing_trees.specs.Queries.{columns_of_table}
use Rattle.typing_trees.specs.Statements.{Inside, in_loop, in_block, in_action, with_declared}
use Rattle.typing_trees.specs.Statements.{with_read, holds, is_of, value_of, if_there, takes_value}
use Rattle.typing_trees.specs.Statements.{take_row, columns_into, columns_and, rows_fit}
use Rattle.typing_trees.specs.Statements.{insert_typed, update_typed, delete_typed, Want, wants}
use Rattle.typing_trees.specs.Statements.{takes_expr, argument_typed, arguments_typed, call_typed}
use Rattle.typing_trees.specs.Statements.{condition_read_typed, information_typed, Typed}
use Rattle.typing_trees.specs.Statements.{TypedBranch, TypedHandler, all_typed}
use Rattle.typing_trees.specs.Statements.{branches_typed, case_typed, for_typed, return_typed}
use Rattle.typing_trees.specs.Statements.{declared, each_kinds, handler_typed}
use Rattle.typing_trees.specs.Statements.{stmt_typed, block_typed, branch_parts}
use Rattle.typing_trees.specs.Statements.{handler_parts, is_typed, block_is_typed, branch_of}
use Rattle.typing_trees.specs.Statements.{handler_of}
use Rattle.typing_lasting.specs.Used.{UsedNames, all_names, expr_names, query_names}
use Rattle.typing_lasting.specs.Used.{names_if_there, argument_names, arguments_names}
use Rattle.typing_lasting.specs.Used.{information_names, variables_names, cursors_names, stmt_names}
use Rattle.typing_lasting.specs.Used.{block_names, branch_names, handler_names, statement_names}
use Rattle.typing_lasting.specs.Used.{names_of_block, names_of_branch, names_of_handler}
use Rattle.typing_lasting.specs.Lasting.{Objects, around_with, inside_with, AllSame}
use Rattle.typing_lasting.proofs.Layers.{StmtLayer, BlockLayer, BranchLayer, HandlerLayer}
use Rattle.typing_lasting.proofs.Layers.{stmt_seen, block_seen, branch_seen, handler_seen}
use Rattle.typing_lasting.proofs.Layers.{is_typed-at, block_is_typed-at, branch_of-at}
use Rattle.typing_lasting.proofs.Layers.{handler_of-at, stmt_used, block_used, branch_used}
use Rattle.typing_lasting.proofs.Layers.{handler_used, statement_names-at, names_of_block-at}
use Rattle.typing_lasting.proofs.Layers.{names_of_branch-at, names_of_handler-at}
use Rattle.typing_lasting.proofs.Expressions.{Each, SameKind, expr-same, query-same}

module _ (m n : Objects) where
  front : (xs ys : UsedNames) → AllSame m n (xs ++ ys) → AllSame m n xs
  front [] ys s = tt
  front (x ∷ xs) ys s = (s.0, front xs ys s.1)

  back : (xs ys : UsedNames) → AllSame m n (xs ++ ys) → AllSame m n ys
  back [] ys s = s
  back (x ∷ xs) ys s = back xs ys s.1

  -- ---- values

  value-same : (wanted : Kind) (e : BoundExpr) → AllSame m n (expr_names e) → (a : Around) →
      value_of wanted e (around_with m a) ≡ value_of wanted e (around_with n a)
  value-same wanted e s a = λ i. is_of wanted (expr-same m n e s a i)

  there-same : (wanted : Kind) (e : Option BoundExpr) → AllSame m n (names_if_there e) →
      (a : Around) → if_there wanted e (around_with m a) ≡ if_there wanted e (around_with n a)
  there-same wanted None s a = refl
  there-same wanted (Some e) s a = value-same wanted e s a

  -- ---- statements that write

  insert-same : (b : BoundInsert) (places : Option (List ℕ)) →
      AllSame m n (b.table ∷ query_names b.source) → (a : Around) →
      insert_typed b places (around_with m a) ≡ insert_typed b places (around_with n a)
  insert-same b places s a =
      λ i. rows_fit (then (columns_of_table (s.0.tables i)) (λ cs. columns_into cs places))
      (query-same m n b.source s.1 a i)

  update-same : (b : BoundUpdate) → AllSame m n (b.table ∷ query_names b.rows) → (a : Around) →
      update_typed b (around_with m a) ≡ update_typed b (around_with n a)
  update-same b s a =
      λ i. rows_fit (then (columns_of_table (s.0.tables i)) (λ cs. columns_and cs b.targets))
      (query-same m n b.rows s.1 a i)

  delete-same : (b : BoundDelete) → AllSame m n (b.table ∷ query_names b.rows) → (a : Around) →
      delete_typed b (around_with m a) ≡ delete_typed b (around_with n a)
  delete-same b s a = λ i. rows_fit (columns_of_table (s.0.tables i))
      (query-same m n b.rows s.1 a i)

  -- ---- CALL

  argument-same : (script : Bool) (w : Option Want) (x : BoundArgument) →
      AllSame m n (argument_names x) → (a : Around) →
      argument_typed script (around_with m a) w x ≡ argument_typed script (around_with n a) w x
  argument-same script None (argument.Value e) s a = λ i. is_some (expr-same m n e s a i)
  argument-same script None (argument.Variable t) s a = refl
  argument-same script None argument.Given s a = refl
  argument-same script (Some w) (argument.Value e) s a =
      λ i. takes_expr script w.mode && value-same (kind_of_type w.data_type) e s a i
  argument-same script (Some w) (argument.Variable t) s a = refl
  argument-same script (Some w) argument.Given s a = refl

  arguments-same : (script : Bool) (ws : List (Option Want)) (xs : List BoundArgument) →
      AllSame m n (arguments_names xs) → (a : Around) →
      arguments_typed script (around_with m a) ws xs ≡
      arguments_typed script (around_with n a) ws xs
  arguments-same script [] [] s a = refl
  arguments-same script [] (x ∷ xs) s a = refl
  arguments-same script (w ∷ ws) [] s a = refl
  arguments-same script (w ∷ ws) (x ∷ xs) s a =
      λ i. argument-same script w x (front (argument_names x) (arguments_names xs) s) a i &&
      arguments-same script ws xs (back (argument_names x) (arguments_names xs) s) a i

  call-same : (script : Bool) (c : BoundCall) →
      AllSame m n (c.procedure ∷ arguments_names c.arguments) → (i : Inside) →
      call_typed script c (inside_with m i) ≡ call_typed script c (inside_with n i)
  call-same script c s i =
      λ j. holds (s.0.procedures j)
      (λ p. arguments-same script (wants p.modes p.parameters) c.arguments s.1 i.around j)

  -- ---- GET DIAGNOSTICS

  information-same : (d : BoundInformation) → AllSame m n (information_names d) → (a : Around) →
      information_typed d (around_with m a) ≡ information_typed d (around_with n a)
  information-same (information.Statement rs) s a = refl
  information-same (information.Condition number rs) s a =
      λ i. value-same Integer number s a i && list_all (condition_read_typed a.slots) rs

  -- ---- statements that hold statements

  abbrev SameTyped : Typed → Type 0
  SameTyped t = (i : Inside) → t (inside_with m i) ≡ t (inside_with n i)

  record SameBranch (b : TypedBranch) : Type 0 where
    pub test : SameKind m n b.test
    pub body : Each SameTyped b.body

  abbrev SameHandler : TypedHandler → Type 0
  SameHandler h = SameTyped h.action

  all-same : (ss : List Typed) → Each SameTyped ss → (i : Inside) →
      all_typed ss (inside_with m i) ≡ all_typed ss (inside_with n i)
  all-same [] same i = refl
  all-same (s ∷ ss) same i = λ j. same.0 i j && all-same ss same.1 i j

  branches-same : (wanted : Kind) (bs : List TypedBranch) → Each SameBranch bs → (i : Inside) →
      branches_typed wanted bs (inside_with m i) ≡ branches_typed wanted bs (inside_with n i)
  branches-same wanted [] same i = refl
  branches-same wanted (b ∷ bs) same i =
      λ j. (is_of wanted (same.0.test i.around j) && all-same b.body same.0.body i j) &&
      branches-same wanted bs same.1 i j

  case-same : (operand : Option BoundExpr) (bs : List TypedBranch) →
      AllSame m n (names_if_there operand) → Each SameBranch bs → (i : Inside) →
      case_typed operand bs (inside_with m i) ≡ case_typed operand bs (inside_with n i)
  case-same None bs s same i = branches-same Boolean bs same i
  case-same (Some e) bs s same i =
      λ j. holds (expr-same m n e s i.around j) (λ k. branches-same k bs same i j)

  for-same : (q : BoundQuery) (slot : ℕ) (body : List Typed) → AllSame m n (query_names q) →
      Each SameTyped body → (i : Inside) →
      for_typed q slot body (inside_with m i) ≡ for_typed q slot body (inside_with n i)
  for-same q slot body s same i =
      λ j. holds (query-same m n q s i.around j)
      (λ ks. nat_eq slot (length i.around.slots) &&
      all-same body same (with_read (i.around.slots ++ map read ks) i) j)

  return-same : (e : BoundExpr) → AllSame m n (expr_names e) → (i : Inside) →
      return_typed e (inside_with m i) ≡ return_typed e (inside_with n i)
  return-same e s i =
      λ j. holds i.returns (λ t. value-same (kind_of_type t) e s i.around j)

  -- ---- compound statements

  declared-same : (vs : List BoundVariables) → AllSame m n (variables_names vs) → (a : Around)
      (slots : List Slot) →
      declared (around_with m a) slots vs ≡ declared (around_with n a) slots vs
  declared-same [] s a slots = refl
  declared-same (v ∷ vs) s a slots =
      let here = front (names_if_there v.default) (variables_names vs) s in
      let rest = back (names_if_there v.default) (variables_names vs) s in
      λ i. only_if (nat_eq v.first (length slots) &&
      there-same (kind_of_type v.data_type) v.default here (with_slots slots a) i)
      (declared-same vs rest a (slots ++ replicate v.count (stored v.data_type)) i)

  cursors-same : (qs : List BoundQuery) → AllSame m n (cursors_names qs) → (a : Around) →
      each_kinds qs (around_with m a) ≡ each_kinds qs (around_with n a)
  cursors-same [] s a = refl
  cursors-same (q ∷ qs) s a =
      λ i. then (query-same m n q (front (query_names q) (cursors_names qs) s) a i)
      (λ ks. then (cursors-same qs (back (query_names q) (cursors_names qs) s) a i)
      (λ kss. Some (ks ∷ kss)))

  handlers-same : (atomic : Bool) (hs : List TypedHandler) → Each SameHandler hs → (i : Inside) →
      list_all (handler_typed atomic (inside_with m i)) hs ≡
      list_all (handler_typed atomic (inside_with n i)) hs
  handlers-same atomic [] same i = refl
  handlers-same atomic (h ∷ hs) same i =
      λ j. ((atomic || not h.undoes) && same.0 (in_action i) j) &&
      handlers-same atomic hs same.1 i j

  compound-same : (b : BoundBlock-F Typed Typed TypedBranch TypedHandler) →
      AllSame m n (variables_names b.variables) → AllSame m n (cursors_names b.cursors) →
      Each SameHandler b.handlers → Each SameTyped b.statements → SameTyped (block_typed b)
  compound-same b v c hs ss i =
      λ j. holds (declared-same b.variables v i.around i.around.slots j)
      (λ slots. nat_eq b.first_cursor (length i.cursors)
      && holds (cursors-same b.cursors c (with_slots slots i.around) j)
      (λ kss. handlers-same b.atomic b.handlers hs
      (with_declared slots (i.cursors ++ kss) i) j &&
      all-same b.statements ss (with_declared slots (i.cursors ++ kss) i) j))

  -- ---- trees

  -- a tree that is typed the same where its names stand for the same
  abbrev Lasts : {A V : Type 0} → (A → UsedNames) → (A → V) → (V → Type 0) → A → Type 0
  Lasts names seen P x = AllSame m n (names x) → P (seen x)

  each-shown : {A V : Type 0} (names : A → UsedNames) (seen : A → V) (P : V → Type 0)
      (xs : List ((x : A) × Lasts names seen P x)) →
      AllSame m n (all_names (map names (map (λ x. x.0) xs))) →
      Each P (map seen (map (λ x. x.0) xs))
  each-shown names seen P [] s = tt
  each-shown names seen P (x ∷ xs) s =
      let rest = all_names (map names (map (λ y. y.0) xs)) in (
        x.1 (front (names x.0) rest s),
        each-shown names seen P xs (back (names x.0) rest s),
      )

  abbrev ShownStmt : Type 0
  ShownStmt = (x : BoundStmt) × Lasts statement_names is_typed SameTyped x

  abbrev ShownBlock : Type 0
  ShownBlock = (x : BoundBlock) × Lasts names_of_block block_is_typed SameTyped x

  abbrev ShownBranch : Type 0
  ShownBranch = (x : BoundBranch) × Lasts names_of_branch branch_of SameBranch x

  abbrev ShownHandler : Type 0
  ShownHandler = (x : BoundHandler) × Lasts names_of_handler handler_of SameHandler x

  abbrev stmt_shown : BoundStmt-F ShownStmt ShownBlock ShownBranch ShownHandler → StmtLayer
  stmt_shown y = map-BoundStmt ShownStmt ShownBlock ShownBranch ShownHandler BoundStmt BoundBlock
      BoundBranch BoundHandler (λ x. x.0) (λ x. x.0) (λ x. x.0) (λ x. x.0) y

  abbrev block_shown : BoundBlock-F ShownStmt ShownBlock ShownBranch ShownHandler → BlockLayer
  block_shown y = map-BoundBlock ShownStmt ShownBlock ShownBranch ShownHandler BoundStmt BoundBlock
      BoundBranch BoundHandler (λ x. x.0) (λ x. x.0) (λ x. x.0) (λ x. x.0) y

  abbrev branch_shown : BoundBranch-F ShownStmt ShownBlock ShownBranch ShownHandler → BranchLayer
  branch_shown y =
      map-BoundBranch ShownStmt ShownBlock ShownBranch ShownHandler BoundStmt BoundBlock
      BoundBranch BoundHandler (λ x. x.0) (λ x. x.0) (λ x. x.0) (λ x. x.0) y

  abbrev handler_shown : BoundHandler-F ShownStmt ShownBlock ShownBranch ShownHandler → HandlerLayer
  handler_shown y =
      map-BoundHandler ShownStmt ShownBlock ShownBranch ShownHandler BoundStmt BoundBlock
      BoundBranch BoundHandler (λ x. x.0) (λ x. x.0) (λ x. x.0) (λ x. x.0) y

  -- each statement, branch and handler of a list, as seen
  stmts-shown : (ss : List ShownStmt) →
      AllSame m n (all_names (map statement_names (map (λ x. x.0) ss))) →
      Each SameTyped (map is_typed (map (λ x. x.0) ss))
  stmts-shown ss s = each-shown statement_names is_typed SameTyped ss s

  branches-shown : (bs : List ShownBranch) →
      AllSame m n (all_names (map names_of_branch (map (λ x. x.0) bs))) →
      Each SameBranch (map branch_of (map (λ x. x.0) bs))
  branches-shown bs s = each-shown names_of_branch branch_of SameBranch bs s

  -- ---- one layer

  stmt-layer : (y : BoundStmt-F ShownStmt ShownBlock ShownBranch ShownHandler) →
      AllSame m n (stmt_names (stmt_used (stmt_shown y))) →
      SameTyped (stmt_typed (stmt_seen (stmt_shown y)))
  stmt-layer (BoundStmt-F.Insert b places) s i = insert-same b places s i.around
  stmt-layer (BoundStmt-F.Update b) s i = update-same b s i.around
  stmt-layer (BoundStmt-F.Delete b) s i = delete-same b s i.around
  stmt-layer (BoundStmt-F.Call c) s i = call-same false c s i
  stmt-layer (BoundStmt-F.Block b) s i = b.1 s (in_block i)
  stmt-layer (BoundStmt-F.If bs ss) s i =
      let bn = all_names (map names_of_branch (map (λ x. x.0) bs)) in
      let sn = all_names (map statement_names (map (λ x. x.0) ss)) in
      λ j. branches-same Boolean (map branch_of (map (λ x. x.0) bs))
      (branches-shown bs (front bn sn s)) i j &&
      all-same (map is_typed (map (λ x. x.0) ss)) (stmts-shown ss (back bn sn s)) i j
  stmt-layer (BoundStmt-F.Case operand bs ss) s i =
      let bn = all_names (map names_of_branch (map (λ x. x.0) bs)) in
      let sn = all_names (map statement_names (map (λ x. x.0) ss)) in
      let on = names_if_there operand in
      let rest = back on (bn ++ sn) s in
      λ j. case-same operand (map branch_of (map (λ x. x.0) bs)) (front on (bn ++ sn) s)
      (branches-shown bs (front bn sn rest)) i j &&
      all-same (map is_typed (map (λ x. x.0) ss)) (stmts-shown ss (back bn sn rest)) i j
  stmt-layer (BoundStmt-F.Set t e) s i =
      λ j. takes_value i.around.slots t (expr-same m n e s i.around j)
  stmt-layer (BoundStmt-F.SelectInto q ts) s i =
      λ j. take_row i.around.slots ts (query-same m n q s i.around j)
  stmt-layer (BoundStmt-F.Loop body) s i =
      all-same (map is_typed (map (λ x. x.0) body)) (stmts-shown body s) (in_loop i)
  stmt-layer (BoundStmt-F.While test body) s i =
      let bn = all_names (map statement_names (map (λ x. x.0) body)) in
      λ j. value-same Boolean test (front (expr_names test) bn s) i.around j &&
      all-same (map is_typed (map (λ x. x.0) body))
      (stmts-shown body (back (expr_names test) bn s)) (in_loop i) j
  stmt-layer (BoundStmt-F.Repeat body test) s i =
      let bn = all_names (map statement_names (map (λ x. x.0) body)) in
      λ j. all-same (map is_typed (map (λ x. x.0) body))
      (stmts-shown body (front bn (expr_names test) s)) (in_loop i) j &&
      value-same Boolean test (back bn (expr_names test) s) i.around j
  stmt-layer (BoundStmt-F.For q slot body) s i =
      let bn = all_names (map statement_names (map (λ x. x.0) body)) in
      for-same q slot (map is_typed (map (λ x. x.0) body)) (front (query_names q) bn s)
      (stmts-shown body (back (query_names q) bn s)) (in_loop i)
  stmt-layer (BoundStmt-F.Open slot) s i = refl
  stmt-layer (BoundStmt-F.Close slot) s i = refl
  stmt-layer (BoundStmt-F.Fetch slot ts) s i = refl
  stmt-layer (BoundStmt-F.Signal x) s i = there-same Text x.message s i.around
  stmt-layer (BoundStmt-F.Resignal x) s i = there-same Text x.message s i.around
  stmt-layer (BoundStmt-F.GetDiagnostics d) s i = information-same d.information s i.around
  stmt-layer (BoundStmt-F.Leave level) s i = refl
  stmt-layer (BoundStmt-F.Iterate level) s i = refl
  stmt-layer (BoundStmt-F.Return e) s i = return-same e s i

  block-layer : (y : BoundBlock-F ShownStmt ShownBlock ShownBranch ShownHandler) →
      AllSame m n (block_names (block_used (block_shown y))) →
      SameTyped (block_typed (block_seen (block_shown y)))
  block-layer y s =
      let hn = all_names (map names_of_handler (map (λ x. x.0) y.handlers)) in
      let sn = all_names (map statement_names (map (λ x. x.0) y.statements)) in
      let vn = variables_names y.variables in
      let cn = cursors_names y.cursors in
      let past = back vn (cn ++ (hn ++ sn)) s in
      let rest = back cn (hn ++ sn) past in
      compound-same (block_seen (block_shown y)) (front vn (cn ++ (hn ++ sn)) s)
      (front cn (hn ++ sn) past)
      (each-shown names_of_handler handler_of SameHandler y.handlers (front hn sn rest))
      (stmts-shown y.statements (back hn sn rest))

  branch-layer : (y : BoundBranch-F ShownStmt ShownBlock ShownBranch ShownHandler) →
      AllSame m n (branch_names (branch_used (branch_shown y))) →
      SameBranch (branch_parts (branch_seen (branch_shown y)))
  branch-layer y s =
      let bn = all_names (map statement_names (map (λ x. x.0) y.body)) in
      record {
        test = expr-same m n y.test (front (expr_names y.test) bn s);
        body = stmts-shown y.body (back (expr_names y.test) bn s);
      }

  handler-layer : (y : BoundHandler-F ShownStmt ShownBlock ShownBranch ShownHandler) →
      AllSame m n (handler_names (handler_used (handler_shown y))) →
      SameHandler (handler_parts (handler_seen (handler_shown y)))
  handler-layer y s = y.action.1 s

  -- ---- whole trees

  stmt-whole : (y : BoundStmt-F ShownStmt ShownBlock ShownBranch ShownHandler) →
      Lasts statement_names is_typed SameTyped (roll-BoundStmt (stmt_shown y))
  stmt-whole y s = subst SameTyped (sym (is_typed-at (stmt_shown y)))
      (stmt-layer y (subst (AllSame m n) (statement_names-at (stmt_shown y)) s))

  block-whole : (y : BoundBlock-F ShownStmt ShownBlock ShownBranch ShownHandler) →
      Lasts names_of_block block_is_typed SameTyped (roll-BoundBlock (block_shown y))
  block-whole y s = subst SameTyped (sym (block_is_typed-at (block_shown y)))
      (block-layer y (subst (AllSame m n) (names_of_block-at (block_shown y)) s))

  branch-whole : (y : BoundBranch-F ShownStmt ShownBlock ShownBranch ShownHandler) →
      Lasts names_of_branch branch_of SameBranch (roll-BoundBranch (branch_shown y))
  branch-whole y s = subst SameBranch (sym (branch_of-at (branch_shown y)))
      (branch-layer y (subst (AllSame m n) (names_of_branch-at (branch_shown y)) s))

  handler-whole : (y : BoundHandler-F ShownStmt ShownBlock ShownBranch ShownHandler) →
      Lasts names_of_handler handler_of SameHandler (roll-BoundHandler (handler_shown y))
  handler-whole y s = subst SameHandler (sym (handler_of-at (handler_shown y)))
      (handler-layer y (subst (AllSame m n) (names_of_handler-at (handler_shown y)) s))

  pub statement-same : (x : BoundStmt) → Lasts statement_names is_typed SameTyped x
  statement-same =
      ind-BoundStmt (Lasts statement_names is_typed SameTyped)
      (Lasts names_of_block block_is_typed SameTyped)
      (Lasts names_of_branch branch_of SameBranch)
      (Lasts names_of_handler handler_of SameHandler)
      (λ x y is. subst (λ z. Lasts statement_names is_typed SameTyped (roll-BoundStmt z)) is
      (stmt-whole y))
      (λ x y is. subst (λ z. Lasts names_of_block block_is_typed SameTyped (roll-BoundBlock z)) is
      (block-whole y))
      (λ x y is. subst (λ z. Lasts names_of_branch branch_of SameBranch (roll-BoundBranch z)) is
      (branch-whole y))
      (λ x y is. subst (λ z. Lasts names_of_handler handler_of SameHandler (roll-BoundHandler z)) is
      (handler-whole y))
