-- Well typed statements call what is a function or a procedure around them: by induction over the
-- trees.
use Rattle.std.proofs.Common.{◌≡◌, ℕ, Bool, true, false, ◌&&◌, ◌||◌, List, [], ◌∷◌, ◌++◌, map}
use Rattle.std.proofs.Common.{length, Option, None, Some, refl, sym, ◌∙◌, subst}
use Rattle.std.specs.List.{AllByRecursion, list_all}
use Rattle.std.specs.Prelude.{is_some, nat_eq, not, replicate}
use Rattle.bound_trees.specs.declared.condition.BoundInformation.{BoundInformation}
use Rattle.bound_trees.specs.declared.condition.BoundInformation.TheVariants as information
use Rattle.bound_trees.specs.declared.expr.BoundExpr.{BoundExpr}
use Rattle.bound_trees.specs.declared.query.BoundQuery.{BoundQuery}
use Rattle.bound_trees.specs.declared.statement.BoundArgument.{BoundArgument}
use Rattle.bound_trees.specs.declared.statement.BoundArgument.TheVariants as argument
use Rattle.bound_trees.specs.declared.statement.BoundBlock.{BoundBlock, roll-BoundBlock}
use Rattle.bound_trees.specs.declared.statement.BoundBranch.{BoundBranch, roll-BoundBranch}
use Rattle.bound_trees.specs.declared.statement.BoundHandler.{BoundHandler, roll-BoundHandler}
use Rattle.bound_trees.specs.declared.statement.BoundStmt.{BoundStmt, roll-BoundStmt}
use Rattle.bound_trees.specs.declared.statement.BoundStmt.TheFolds.{map-BoundStmt, map-BoundBlock}
use Rattle.bound_trees.specs.declared.statement.BoundStmt.TheFolds.{map-BoundBranch}
use Rattle.bound_trees.specs.declared.statement.BoundStmt.TheFolds.{map-BoundHandler, ind-BoundStmt}
use Rattle.bound_trees.specs.declared.statement.BoundStmt.TheOpen.{BoundStmt-F, BoundBlock-F}
use Rattle.bound_trees.specs.declared.statement.BoundStmt.TheOpen.{BoundBranch-F, BoundHandler-F}
use Rattle.bound_trees.specs.declared.statement.BoundVariables.{BoundVariables}
use Rattle.bind_kinds.specs.declared.kind.Kind.{Kind}
use Rattle.bind_kinds.specs.declared.kind.Kind.TheVariants.{Integer, Text, Boolean}
use Rattle.bind_kinds.specs.Kinds.{kind_of_type, fits}
use Rattle.catalog_store.specs.declared.entry.FunctionHead.{FunctionHead}
use Rattle.catalog_store.specs.declared.entry.ProcedureHead.{ProcedureHead}
use Rattle.typing_trees.specs.Around.{Around, Slot, stored, read, with_slots}
use Rattle.typing_trees.specs.Queries.{kind_of, kinds_of_query}
use Rattle.typing_trees.specs.Statements.{Inside, in_loop, in_block, in_action, with_declared}
use Rattle.typing_trees.specs.Statements.{with_read, holds, is_of, value_of, if_there, is_target}
use Rattle.typing_trees.specs.Statements.{rows_fit, Want, wants, takes_expr, argument_typed}
use Rattle.typing_trees.specs.Statements.{arguments_typed, information_typed, Typed, TypedBranch}
use Rattle.typing_trees.specs.Statements.{TypedHandler, all_typed, branch_typed, branches_typed}
use Rattle.typing_trees.specs.Statements.{case_typed, declared, each_kinds, handler_typed}
use Rattle.typing_trees.specs.Statements.{after_variables, stmt_typed, block_typed}
use Rattle.typing_trees.specs.Statements.{branch_parts, handler_parts, is_typed, block_is_typed}
use Rattle.typing_trees.specs.Statements.{branch_of, handler_of}
use Rattle.typing_trees.proofs.Laws.{stmt_seen, block_seen, branch_seen, handler_seen}
use Rattle.typing_trees.proofs.Laws.{is_typed-at, block_is_typed-at, branch_of-at}
use Rattle.typing_trees.proofs.Laws.{handler_of-at}
use Rattle.typing_plans.proofs.Laws.{pair}
use Rattle.typing_plans.proofs.Laws.{then_some, only_some, halves}
use Rattle.viewing_laws.specs.Calls.{CalledNames, all_calls, expr_calls, query_calls}
use Rattle.viewing_laws.specs.Calls.{calls_if_there, argument_calls, arguments_calls}
use Rattle.viewing_laws.specs.Calls.{information_calls, variables_calls, cursors_calls, stmt_calls}
use Rattle.viewing_laws.specs.Calls.{block_calls, branch_calls, handler_calls, statement_calls}
use Rattle.viewing_laws.specs.Calls.{calls_of_block, calls_of_branch, calls_of_handler}
use Rattle.viewing_laws.proofs.Laws.{StmtLayer, BlockLayer, BranchLayer, HandlerLayer}
use Rattle.viewing_laws.proofs.Laws.{stmt_called, block_called, branch_called, handler_called}
use Rattle.viewing_laws.proofs.Laws.{statement_calls-at, calls_of_block-at, calls_of_branch-at}
use Rattle.viewing_laws.proofs.Laws.{calls_of_handler-at}
use Rattle.typing_calls.proofs.Expressions.{expr-calls, query-calls}

-- ---- what is there

held : {A : Type 0} (o : Option A) (p : A → Bool) → holds o p ≡ true →
    (x : A) × (o ≡ Some x) × (p x ≡ true)
held None p h = absurd cc
held (Some x) p h = (x, refl, h)

there : {A : Type 0} (o : Option A) → is_some o ≡ true → (x : A) × (o ≡ Some x)
there None h = absurd cc
there (Some x) h = (x, refl)

module _ (F : List ℕ → Option FunctionHead) (Q : List ℕ → Option ProcedureHead)
    (P : List ℕ → Type 0) (good : (name : List ℕ) (h : FunctionHead) → F name ≡ Some h → P name)
    (fine : (name : List ℕ) (h : ProcedureHead) → Q name ≡ Some h → P name) where
  -- each of these names is such
  abbrev Called : CalledNames → Type 0
  Called names = AllByRecursion P names

  -- where these are the functions and procedures around
  abbrev Knows : Inside → Type 0
  Knows i = (i.around.functions ≡ F) × (i.procedures ≡ Q)

  one-after : (xs ys : CalledNames) → Called xs → Called ys → Called (xs ++ ys)
  one-after [] ys s t = t
  one-after (x ∷ xs) ys s t = (s.0, one-after xs ys s.1 t)

  -- ---- what holds no statement

  value-calls : (wanted : Kind) (e : BoundExpr) (a : Around) → a.functions ≡ F →
      value_of wanted e a ≡ true → Called (expr_calls e)
  value-calls wanted e a q h =
      let k = held (kind_of e a) (fits wanted) h in expr-calls F P good e a k.0 q k.1

  optional-calls : (wanted : Kind) (e : Option BoundExpr) (a : Around) → a.functions ≡ F →
      if_there wanted e a ≡ true → Called (calls_if_there e)
  optional-calls wanted None a q h = tt
  optional-calls wanted (Some e) a q h = value-calls wanted e a q h

  -- a query whose columns are there
  columns-calls : (x : BoundQuery) (a : Around) (p : List Kind → Bool) → a.functions ≡ F →
      holds (kinds_of_query x a) p ≡ true → Called (query_calls x)
  columns-calls x a p q h =
      let ks = held (kinds_of_query x a) p h in query-calls F P good x a ks.0 q ks.1

  rows-calls : (wanted : Option (List Kind)) (x : BoundQuery) (a : Around) → a.functions ≡ F →
      rows_fit wanted (kinds_of_query x a) ≡ true → Called (query_calls x)
  rows-calls wanted x a q h = let ws = held wanted _ h in columns-calls x a _ q ws.2

  argument-calls : (w : Option Want) (x : BoundArgument) (a : Around) → a.functions ≡ F →
      argument_typed false a w x ≡ true → Called (argument_calls x)
  argument-calls None (argument.Value e) a q h =
      let k = there (kind_of e a) h in expr-calls F P good e a k.0 q k.1
  argument-calls (Some w) (argument.Value e) a q h =
      value-calls (kind_of_type w.data_type) e a q (halves (takes_expr false w.mode) _ h).1
  argument-calls w (argument.Variable t) a q h = tt
  argument-calls w argument.Given a q h = tt

  arguments-calls : (ws : List (Option Want)) (xs : List BoundArgument) (a : Around) →
      a.functions ≡ F → arguments_typed false a ws xs ≡ true → Called (arguments_calls xs)
  arguments-calls ws [] a q h = tt
  arguments-calls [] (x ∷ xs) a q h = absurd cc
  arguments-calls (w ∷ ws) (x ∷ xs) a q h =
      let parts = halves (argument_typed false a w x) _ h in
      one-after (argument_calls x) (arguments_calls xs) (argument-calls w x a q parts.0)
      (arguments-calls ws xs a q parts.1)

  information-calls : (d : BoundInformation) (a : Around) → a.functions ≡ F →
      information_typed d a ≡ true → Called (information_calls d)
  information-calls (information.Statement rs) a q h = tt
  information-calls (information.Condition n rs) a q h =
      value-calls Integer n a q (halves (value_of Integer n a) _ h).0

  declared-calls : (vs : List BoundVariables) (a : Around) (slots more : List Slot) →
      a.functions ≡ F → declared a slots vs ≡ Some more → Called (variables_calls vs)
  declared-calls [] a slots more q h = tt
  declared-calls (v ∷ vs) a slots more q h =
      let parts = only_some (nat_eq v.first (length slots) &&
      if_there (kind_of_type v.data_type) v.default (with_slots slots a)) _ more h in
      let default = halves (nat_eq v.first (length slots)) _ parts.0 in
      one-after (calls_if_there v.default) (variables_calls vs)
      (optional-calls (kind_of_type v.data_type) v.default (with_slots slots a) q default.1)
      (declared-calls vs a (slots ++ replicate v.count (stored v.data_type)) more q parts.1)

  cursors-calls : (qs : List BoundQuery) (a : Around) (kss : List (List Kind)) →
      a.functions ≡ F → each_kinds qs a ≡ Some kss → Called (cursors_calls qs)
  cursors-calls [] a kss q h = tt
  cursors-calls (x ∷ xs) a kss q h =
      let ks = then_some (kinds_of_query x a) _ kss h in
      let rest = then_some (each_kinds xs a) _ kss ks.2 in
      one-after (query_calls x) (cursors_calls xs) (query-calls F P good x a ks.0 q ks.1)
      (cursors-calls xs a rest.0 q rest.1)

  -- ---- trees

  -- what is well typed calls such
  abbrev GoodStmt : Typed → CalledNames → Type 0
  GoodStmt t names = (i : Inside) → Knows i → t i ≡ true → Called names

  abbrev GoodBranch : TypedBranch → CalledNames → Type 0
  GoodBranch b names = (wanted : Kind) (i : Inside) → Knows i → branch_typed wanted i b ≡ true →
      Called names

  abbrev GoodHandler : TypedHandler → CalledNames → Type 0
  GoodHandler h names = (i : Inside) → Knows i → h.action i ≡ true → Called names

  abbrev ShownStmt : Type 0
  ShownStmt = (x : BoundStmt) × GoodStmt (is_typed x) (statement_calls x)

  abbrev ShownBlock : Type 0
  ShownBlock = (x : BoundBlock) × GoodStmt (block_is_typed x) (calls_of_block x)

  abbrev ShownBranch : Type 0
  ShownBranch = (x : BoundBranch) × GoodBranch (branch_of x) (calls_of_branch x)

  abbrev ShownHandler : Type 0
  ShownHandler = (x : BoundHandler) × GoodHandler (handler_of x) (calls_of_handler x)

  abbrev stmt_shown : BoundStmt-F ShownStmt ShownBlock ShownBranch ShownHandler → StmtLayer
  stmt_shown y = map-BoundStmt ShownStmt ShownBlock ShownBranch ShownHandler BoundStmt BoundBlock
      BoundBranch BoundHandler (λ x. x.0) (λ x. x.0) (λ x. x.0) (λ x. x.0) y

  abbrev block_shown : BoundBlock-F ShownStmt ShownBlock ShownBranch ShownHandler → BlockLayer
  block_shown y = map-BoundBlock ShownStmt ShownBlock ShownBranch ShownHandler BoundStmt BoundBlock
      BoundBranch BoundHandler (λ x. x.0) (λ x. x.0) (λ x. x.0) (λ x. x.0) y

  abbrev branch_shown : BoundBranch-F ShownStmt ShownBlock ShownBranch ShownHandler → BranchLayer
  branch_shown y =
      map-BoundBranch ShownStmt ShownBlock ShownBranch ShownHandler BoundStmt BoundBlock
      BoundBranch BoundHandler (λ x. x.0) (λ x. x.0) (λ x. x.0) (λ x. x.0) y

  abbrev handler_shown : BoundHandler-F ShownStmt ShownBlock ShownBranch ShownHandler → HandlerLayer
  handler_shown y =
      map-BoundHandler ShownStmt ShownBlock ShownBranch ShownHandler BoundStmt BoundBlock
      BoundBranch BoundHandler (λ x. x.0) (λ x. x.0) (λ x. x.0) (λ x. x.0) y

  -- ---- statements in order

  all-calls : (ss : List ShownStmt) (i : Inside) → Knows i →
      all_typed (map is_typed (map (λ x. x.0) ss)) i ≡ true →
      Called (all_calls (map statement_calls (map (λ x. x.0) ss)))
  all-calls [] i q h = tt
  all-calls (s ∷ ss) i q h =
      let parts = halves (is_typed s.0 i) _ h in
      one-after (statement_calls s.0) (all_calls (map statement_calls (map (λ x. x.0) ss)))
      (s.1 i q parts.0) (all-calls ss i q parts.1)

  branches-calls : (bs : List ShownBranch) (wanted : Kind) (i : Inside) → Knows i →
      branches_typed wanted (map branch_of (map (λ x. x.0) bs)) i ≡ true →
      Called (all_calls (map calls_of_branch (map (λ x. x.0) bs)))
  branches-calls [] wanted i q h = tt
  branches-calls (b ∷ bs) wanted i q h =
      let parts = halves (branch_typed wanted i (branch_of b.0)) _ h in
      one-after (calls_of_branch b.0) (all_calls (map calls_of_branch (map (λ x. x.0) bs)))
      (b.1 wanted i q parts.0) (branches-calls bs wanted i q parts.1)

  handlers-calls : (hs : List ShownHandler) (atomic : Bool) (i : Inside) → Knows i →
      list_all (handler_typed atomic i) (map handler_of (map (λ x. x.0) hs)) ≡ true →
      Called (all_calls (map calls_of_handler (map (λ x. x.0) hs)))
  handlers-calls [] atomic i q h = tt
  handlers-calls (x ∷ xs) atomic i q h =
      let parts = halves (handler_typed atomic i (handler_of x.0)) _ h in
      let action = halves (atomic || not (handler_of x.0).undoes) _ parts.0 in
      one-after (calls_of_handler x.0) (all_calls (map calls_of_handler (map (λ y. y.0) xs)))
      (x.1 (in_action i) q action.1) (handlers-calls xs atomic i q parts.1)

  case-calls : (operand : Option BoundExpr) (bs : List ShownBranch) (i : Inside) → Knows i →
      case_typed operand (map branch_of (map (λ x. x.0) bs)) i ≡ true →
      Called (calls_if_there operand) × Called (all_calls (map calls_of_branch (map (λ x. x.0) bs)))
  case-calls None bs i q h = (tt, branches-calls bs Boolean i q h)
  case-calls (Some e) bs i q h =
      let k = held (kind_of e i.around) _ h in
      (expr-calls F P good e i.around k.0 q.0 k.1, branches-calls bs k.0 i q k.2)

  -- ---- one layer

  stmt-layer : (y : BoundStmt-F ShownStmt ShownBlock ShownBranch ShownHandler) →
      GoodStmt (stmt_typed (stmt_seen (stmt_shown y))) (stmt_calls (stmt_called (stmt_shown y)))
  stmt-layer (BoundStmt-F.Insert b places) i q h = rows-calls _ b.source i.around q.0 h
  stmt-layer (BoundStmt-F.Update b) i q h = rows-calls _ b.rows i.around q.0 h
  stmt-layer (BoundStmt-F.Delete b) i q h = rows-calls _ b.rows i.around q.0 h
  stmt-layer (BoundStmt-F.Call c) i q h =
      let p = held (i.procedures c.procedure) _ h in (
        fine c.procedure p.0 ((λ j. sym q.1 j c.procedure) ∙ p.1),
        arguments-calls (wants p.0.modes p.0.parameters) c.arguments i.around q.0 p.2,
      )
  stmt-layer (BoundStmt-F.Block b) i q h = b.1 (in_block i) q h
  stmt-layer (BoundStmt-F.If bs ss) i q h =
      let parts = halves (branches_typed Boolean (map branch_of (map (λ x. x.0) bs)) i) _ h in
      one-after (all_calls (map calls_of_branch (map (λ x. x.0) bs)))
      (all_calls (map statement_calls (map (λ x. x.0) ss)))
      (branches-calls bs Boolean i q parts.0) (all-calls ss i q parts.1)
  stmt-layer (BoundStmt-F.Case operand bs ss) i q h =
      let parts = halves (case_typed operand (map branch_of (map (λ x. x.0) bs)) i) _ h in
      let case = case-calls operand bs i q parts.0 in
      let bn = all_calls (map calls_of_branch (map (λ x. x.0) bs)) in
      let sn = all_calls (map statement_calls (map (λ x. x.0) ss)) in
      one-after (calls_if_there operand) (bn ++ sn) case.0
      (one-after bn sn case.1 (all-calls ss i q parts.1))
  stmt-layer (BoundStmt-F.Set t e) i q h =
      value-calls _ e i.around q.0 (halves (is_target i.around.slots t) _ h).1
  stmt-layer (BoundStmt-F.SelectInto x ts) i q h =
      columns-calls x i.around _ q.0 (halves (list_all (is_target i.around.slots) ts) _ h).1
  stmt-layer (BoundStmt-F.Loop body) i q h = all-calls body (in_loop i) q h
  stmt-layer (BoundStmt-F.While test body) i q h =
      let parts = halves (value_of Boolean test i.around) _ h in
      one-after (expr_calls test) (all_calls (map statement_calls (map (λ x. x.0) body)))
      (value-calls Boolean test i.around q.0 parts.0) (all-calls body (in_loop i) q parts.1)
  stmt-layer (BoundStmt-F.Repeat body test) i q h =
      let parts = halves (all_typed (map is_typed (map (λ x. x.0) body)) (in_loop i)) _ h in
      one-after (all_calls (map statement_calls (map (λ x. x.0) body))) (expr_calls test)
      (all-calls body (in_loop i) q parts.0) (value-calls Boolean test i.around q.0 parts.1)
  stmt-layer (BoundStmt-F.For x slot body) i q h =
      let ks = held (kinds_of_query x i.around) _ h in
      let parts = halves (nat_eq slot (length i.around.slots)) _ ks.2 in
      one-after (query_calls x) (all_calls (map statement_calls (map (λ y. y.0) body)))
      (query-calls F P good x i.around ks.0 q.0 ks.1)
      (all-calls body (with_read (i.around.slots ++ map read ks.0) (in_loop i)) q parts.1)
  stmt-layer (BoundStmt-F.Open slot) i q h = tt
  stmt-layer (BoundStmt-F.Close slot) i q h = tt
  stmt-layer (BoundStmt-F.Fetch slot ts) i q h = tt
  stmt-layer (BoundStmt-F.Signal x) i q h = optional-calls Text x.message i.around q.0 h
  stmt-layer (BoundStmt-F.Resignal x) i q h = optional-calls Text x.message i.around q.0 h
  stmt-layer (BoundStmt-F.GetDiagnostics d) i q h =
      information-calls d.information i.around q.0 h
  stmt-layer (BoundStmt-F.Leave level) i q h = tt
  stmt-layer (BoundStmt-F.Iterate level) i q h = tt
  stmt-layer (BoundStmt-F.Return e) i q h =
      let t = held i.returns _ h in value-calls (kind_of_type t.0) e i.around q.0 t.2

  block-layer : (y : BoundBlock-F ShownStmt ShownBlock ShownBranch ShownHandler) →
      GoodStmt (block_typed (block_seen (block_shown y)))
      (block_calls (block_called (block_shown y)))
  block-layer y i q h =
      let slots = held (declared i.around i.around.slots y.variables)
      (after_variables (block_seen (block_shown y)) i) h in
      let first = halves (nat_eq y.first_cursor (length i.cursors)) _ slots.2 in
      let kss = held (each_kinds y.cursors (with_slots slots.0 i.around)) _ first.1 in
      let inner = with_declared slots.0 (i.cursors ++ kss.0) i in
      let parts = halves (list_all (handler_typed y.atomic inner)
      (map handler_of (map (λ x. x.0) y.handlers))) _ kss.2 in
      let hn = all_calls (map calls_of_handler (map (λ x. x.0) y.handlers)) in
      let sn = all_calls (map statement_calls (map (λ x. x.0) y.statements)) in
      let vn = variables_calls y.variables in
      let cn = cursors_calls y.cursors in
      one-after vn (cn ++ (hn ++ sn))
      (declared-calls y.variables i.around i.around.slots slots.0 q.0 slots.1)
      (one-after cn (hn ++ sn)
      (cursors-calls y.cursors (with_slots slots.0 i.around) kss.0 q.0 kss.1)
      (one-after hn sn (handlers-calls y.handlers y.atomic inner q parts.0)
      (all-calls y.statements inner q parts.1)))

  branch-layer : (y : BoundBranch-F ShownStmt ShownBlock ShownBranch ShownHandler) →
      GoodBranch (branch_parts (branch_seen (branch_shown y)))
      (branch_calls (branch_called (branch_shown y)))
  branch-layer y wanted i q h =
      let parts = halves (is_of wanted (kind_of y.test i.around)) _ h in
      one-after (expr_calls y.test) (all_calls (map statement_calls (map (λ x. x.0) y.body)))
      (value-calls wanted y.test i.around q.0 parts.0) (all-calls y.body i q parts.1)

  handler-layer : (y : BoundHandler-F ShownStmt ShownBlock ShownBranch ShownHandler) →
      GoodHandler (handler_parts (handler_seen (handler_shown y)))
      (handler_calls (handler_called (handler_shown y)))
  handler-layer y i q h = y.action.1 i q h

  -- ---- whole trees

  stmt-whole : (y : BoundStmt-F ShownStmt ShownBlock ShownBranch ShownHandler) →
      GoodStmt (is_typed (roll-BoundStmt (stmt_shown y))) (statement_calls (roll-BoundStmt
      (stmt_shown y)))
  stmt-whole y = pair GoodStmt _ _ _ _ (is_typed-at (stmt_shown y)) (statement_calls-at (stmt_shown
      y)) (stmt-layer y)

  block-whole : (y : BoundBlock-F ShownStmt ShownBlock ShownBranch ShownHandler) →
      GoodStmt (block_is_typed (roll-BoundBlock (block_shown y))) (calls_of_block (roll-BoundBlock
      (block_shown y)))
  block-whole y = pair GoodStmt _ _ _ _ (block_is_typed-at (block_shown y)) (calls_of_block-at
      (block_shown y)) (block-layer y)

  branch-whole : (y : BoundBranch-F ShownStmt ShownBlock ShownBranch ShownHandler) →
      GoodBranch (branch_of (roll-BoundBranch (branch_shown y))) (calls_of_branch (roll-BoundBranch
      (branch_shown y)))
  branch-whole y = pair GoodBranch _ _ _ _ (branch_of-at (branch_shown y)) (calls_of_branch-at
      (branch_shown y)) (branch-layer y)

  handler-whole : (y : BoundHandler-F ShownStmt ShownBlock ShownBranch ShownHandler) →
      GoodHandler (handler_of (roll-BoundHandler (handler_shown y))) (calls_of_handler
      (roll-BoundHandler (handler_shown y)))
  handler-whole y = pair GoodHandler _ _ _ _ (handler_of-at (handler_shown y)) (calls_of_handler-at
      (handler_shown y)) (handler-layer y)

  pub statement-calls : (x : BoundStmt) → GoodStmt (is_typed x) (statement_calls x)
  statement-calls =
      ind-BoundStmt
      (λ z. GoodStmt (is_typed z) (statement_calls z))
      (λ z. GoodStmt (block_is_typed z) (calls_of_block z))
      (λ z. GoodBranch (branch_of z) (calls_of_branch z))
      (λ z. GoodHandler (handler_of z) (calls_of_handler z))
      (λ x y is. subst (λ z. GoodStmt (is_typed (roll-BoundStmt z)) (statement_calls
      (roll-BoundStmt z))) is
      (stmt-whole y))
      (λ x y is. subst (λ z. GoodStmt (block_is_typed (roll-BoundBlock z)) (calls_of_block
      (roll-BoundBlock z))) is
      (block-whole y))
      (λ x y is. subst (λ z. GoodBranch (branch_of (roll-BoundBranch z)) (calls_of_branch
      (roll-BoundBranch z))) is
      (branch-whole y))
      (λ x y is. subst (λ z. GoodHandler (handler_of (roll-BoundHandler z)) (calls_of_handler
      (roll-BoundHandler z))) is
      (handler-whole y))
