-- One layer of each kind of bound statement: whether it is well typed, by the trees in it.
use Rattle.std.proofs.Common.{◌≡◌, sym, ap, ◌∙◌, ℕ, Bool, false, ◌&&◌, List, map, Option}
use Rattle.std.specs.Prelude.{slice_get, is_some}
use Rattle.bound_trees.specs.declared.change.BoundDelete.{BoundDelete}
use Rattle.bound_trees.specs.declared.change.BoundInsert.{BoundInsert}
use Rattle.bound_trees.specs.declared.change.BoundUpdate.{BoundUpdate}
use Rattle.bound_trees.specs.declared.condition.BoundConditionValue.{BoundConditionValue}
use Rattle.bound_trees.specs.declared.condition.BoundDiagnostics.{BoundDiagnostics}
use Rattle.bound_trees.specs.declared.condition.BoundHandlerType.{BoundHandlerType}
use Rattle.bound_trees.specs.declared.condition.BoundResignal.{BoundResignal}
use Rattle.bound_trees.specs.declared.condition.BoundSignal.{BoundSignal}
use Rattle.bound_trees.specs.declared.expr.BoundExpr.{BoundExpr}
use Rattle.bound_trees.specs.declared.query.BoundQuery.{BoundQuery}
use Rattle.bound_trees.specs.declared.statement.BoundBlock.{BoundBlock, roll-BoundBlock}
use Rattle.bound_trees.specs.declared.statement.BoundBranch.{BoundBranch, roll-BoundBranch}
use Rattle.bound_trees.specs.declared.statement.BoundCall.{BoundCall}
use Rattle.bound_trees.specs.declared.statement.BoundHandler.{BoundHandler, roll-BoundHandler}
use Rattle.bound_trees.specs.declared.statement.BoundStmt.{BoundStmt}
use Rattle.bound_trees.specs.declared.statement.BoundStmt.TheFolds.{fold-roll-BoundBranch}
use Rattle.bound_trees.specs.declared.statement.BoundStmt.TheFolds.{fold-roll-BoundHandler}
use Rattle.bound_trees.specs.declared.statement.BoundStmt.TheOpen.{BoundStmt-F, BoundBlock-F}
use Rattle.bound_trees.specs.declared.statement.BoundStmt.TheVariants as bound
use Rattle.bound_trees.specs.declared.statement.BoundStmt.TheVariants.{rolls-Insert, rolls-Update}
use Rattle.bound_trees.specs.declared.statement.BoundStmt.TheVariants.{rolls-Delete, rolls-Call}
use Rattle.bound_trees.specs.declared.statement.BoundStmt.TheVariants.{rolls-Block, rolls-If}
use Rattle.bound_trees.specs.declared.statement.BoundStmt.TheVariants.{rolls-Case, rolls-Set}
use Rattle.bound_trees.specs.declared.statement.BoundStmt.TheVariants.{rolls-SelectInto, rolls-Loop}
use Rattle.bound_trees.specs.declared.statement.BoundStmt.TheVariants.{rolls-While, rolls-Repeat}
use Rattle.bound_trees.specs.declared.statement.BoundStmt.TheVariants.{rolls-For, rolls-Open}
use Rattle.bound_trees.specs.declared.statement.BoundStmt.TheVariants.{rolls-Close, rolls-Fetch}
use Rattle.bound_trees.specs.declared.statement.BoundStmt.TheVariants.{rolls-Signal, rolls-Resignal}
use Rattle.bound_trees.specs.declared.statement.BoundStmt.TheVariants.{rolls-GetDiagnostics}
use Rattle.bound_trees.specs.declared.statement.BoundStmt.TheVariants.{rolls-Leave, rolls-Iterate}
use Rattle.bound_trees.specs.declared.statement.BoundStmt.TheVariants.{rolls-Return}
use Rattle.bound_trees.specs.declared.statement.BoundTarget.{BoundTarget}
use Rattle.bound_trees.specs.declared.statement.BoundVariables.{BoundVariables}
use Rattle.bind_kinds.specs.declared.kind.Kind.TheVariants.{Text, Boolean}
use Rattle.typing_trees.specs.Queries.{kind_of, kinds_of_query}
use Rattle.typing_trees.specs.Statements.{Inside, Typed, TypedBranch, TypedHandler, in_loop}
use Rattle.typing_trees.specs.Statements.{in_block, value_of, if_there, takes_value, take_row}
use Rattle.typing_trees.specs.Statements.{insert_typed, update_typed, delete_typed, call_typed}
use Rattle.typing_trees.specs.Statements.{information_typed, all_typed, branches_typed, case_typed}
use Rattle.typing_trees.specs.Statements.{for_typed, may_leave, may_iterate, return_typed, undoes}
use Rattle.typing_trees.specs.Statements.{stmt_typed, block_typed, branch_parts, handler_parts}
use Rattle.typing_trees.specs.Statements.{is_typed, block_is_typed, branch_of, handler_of}
use Rattle.typing_trees.proofs.Laws.{is_typed-at, block_is_typed-at}

abbrev pub seen_block : Bool → List BoundVariables → ℕ → List BoundQuery → List BoundHandler →
    List BoundStmt → BoundBlock-F Typed Typed TypedBranch TypedHandler
seen_block atomic variables first_cursor cursors handlers statements =
    record {
      atomic = atomic;
      variables = variables;
      first_cursor = first_cursor;
      cursors = cursors;
      handlers = map handler_of handlers;
      statements = map is_typed statements;
    }

pub block-layer : (atomic : Bool) (variables : List BoundVariables) (first_cursor : ℕ)
    (cursors : List BoundQuery) (handlers : List BoundHandler) (statements : List BoundStmt)
    (i : Inside)
    → block_is_typed
    (roll-BoundBlock (record {
      atomic = atomic;
      variables = variables;
      first_cursor =
          first_cursor;
      cursors = cursors;
      handlers = handlers;
      statements = statements;
    })) i
    ≡ block_typed (seen_block atomic variables first_cursor cursors handlers statements) i
block-layer atomic variables first_cursor cursors handlers statements i =
    ap (λ (f : Typed). f i)
    (block_is_typed-at (record {
      atomic = atomic;
      variables = variables;
      first_cursor = first_cursor;
      cursors = cursors;
      handlers = handlers;
      statements = statements;
    }))

pub branch-layer : (test : BoundExpr) (body : List BoundStmt) →
    branch_of (roll-BoundBranch (record { test = test; body = body })) ≡
    record { test = kind_of test; body = map is_typed body }
branch-layer test body = fold-roll-BoundBranch Typed Typed TypedBranch TypedHandler stmt_typed
    block_typed branch_parts handler_parts (record { test = test; body = body })

pub handler-layer : (type : BoundHandlerType) (values : List BoundConditionValue)
    (action : BoundStmt)
    → handler_of (roll-BoundHandler (record {
      handler_type = type;
      values = values;
      action =
          action;
    })) ≡ record { undoes = undoes type; action = is_typed action }
handler-layer type values action = fold-roll-BoundHandler Typed Typed TypedBranch TypedHandler
    stmt_typed block_typed branch_parts handler_parts
    (record { handler_type = type; values = values; action = action })

-- ---- statements

pub insert-layer : (b : BoundInsert) (places : Option (List ℕ)) (i : Inside) →
    is_typed (bound.Insert b places) i ≡ insert_typed b places i.around
insert-layer b places i = ap (λ (f : Typed). f i) (ap is_typed (sym (rolls-Insert b places)) ∙
    is_typed-at (BoundStmt-F.Insert b places))

pub update-layer : (b : BoundUpdate) (i : Inside) →
    is_typed (bound.Update b) i ≡ update_typed b i.around
update-layer b i = ap (λ (f : Typed). f i) (ap is_typed (sym (rolls-Update b)) ∙
    is_typed-at (BoundStmt-F.Update b))

pub delete-layer : (b : BoundDelete) (i : Inside) →
    is_typed (bound.Delete b) i ≡ delete_typed b i.around
delete-layer b i = ap (λ (f : Typed). f i) (ap is_typed (sym (rolls-Delete b)) ∙
    is_typed-at (BoundStmt-F.Delete b))

pub call-layer : (c : BoundCall) (i : Inside) → is_typed (bound.Call c) i ≡ call_typed false c i
call-layer c i = ap (λ (f : Typed). f i) (ap is_typed (sym (rolls-Call c)) ∙
    is_typed-at (BoundStmt-F.Call c))

pub block-stmt-layer : (b : BoundBlock) (i : Inside) →
    is_typed (bound.Block b) i ≡ block_is_typed b (in_block i)
block-stmt-layer b i = ap (λ (f : Typed). f i) (ap is_typed (sym (rolls-Block b)) ∙
    is_typed-at (BoundStmt-F.Block b))

pub if-layer : (bs : List BoundBranch) (ss : List BoundStmt) (i : Inside) →
    is_typed (bound.If bs ss) i ≡ (branches_typed Boolean (map branch_of bs) i && all_typed
    (map is_typed ss) i)
if-layer bs ss i = ap (λ (f : Typed). f i) (ap is_typed (sym (rolls-If bs ss)) ∙
    is_typed-at (BoundStmt-F.If bs ss))

pub case-layer : (operand : Option BoundExpr) (bs : List BoundBranch) (ss : List BoundStmt)
    (i : Inside)
    → is_typed (bound.Case operand bs ss) i ≡
    (case_typed operand (map branch_of bs) i && all_typed (map is_typed ss) i)
case-layer operand bs ss i = ap (λ (f : Typed). f i) (ap is_typed (sym (rolls-Case operand bs ss)) ∙
    is_typed-at (BoundStmt-F.Case operand bs ss))

pub set-layer : (t : BoundTarget) (e : BoundExpr) (i : Inside) →
    is_typed (bound.Set t e) i ≡ takes_value i.around.slots t (kind_of e i.around)
set-layer t e i = ap (λ (f : Typed). f i) (ap is_typed (sym (rolls-Set t e)) ∙
    is_typed-at (BoundStmt-F.Set t e))

pub select-into-layer : (q : BoundQuery) (ts : List BoundTarget) (i : Inside) →
    is_typed (bound.SelectInto q ts) i ≡ take_row i.around.slots ts (kinds_of_query q i.around)
select-into-layer q ts i = ap (λ (f : Typed). f i) (ap is_typed (sym (rolls-SelectInto q ts)) ∙
    is_typed-at (BoundStmt-F.SelectInto q ts))

pub loop-layer : (ss : List BoundStmt) (i : Inside) →
    is_typed (bound.Loop ss) i ≡ all_typed (map is_typed ss) (in_loop i)
loop-layer ss i = ap (λ (f : Typed). f i) (ap is_typed (sym (rolls-Loop ss)) ∙
    is_typed-at (BoundStmt-F.Loop ss))

pub while-layer : (e : BoundExpr) (ss : List BoundStmt) (i : Inside) →
    is_typed (bound.While e ss) i ≡ (value_of Boolean e i.around && all_typed (map is_typed ss)
    (in_loop i))
while-layer e ss i = ap (λ (f : Typed). f i) (ap is_typed (sym (rolls-While e ss)) ∙
    is_typed-at (BoundStmt-F.While e ss))

pub repeat-layer : (ss : List BoundStmt) (e : BoundExpr) (i : Inside) →
    is_typed (bound.Repeat ss e) i ≡ (all_typed (map is_typed ss) (in_loop i) &&
    value_of Boolean e i.around)
repeat-layer ss e i = ap (λ (f : Typed). f i) (ap is_typed (sym (rolls-Repeat ss e)) ∙
    is_typed-at (BoundStmt-F.Repeat ss e))

pub for-layer : (q : BoundQuery) (slot : ℕ) (ss : List BoundStmt) (i : Inside) →
    is_typed (bound.For q slot ss) i ≡ for_typed q slot (map is_typed ss) (in_loop i)
for-layer q slot ss i = ap (λ (f : Typed). f i) (ap is_typed (sym (rolls-For q slot ss)) ∙
    is_typed-at (BoundStmt-F.For q slot ss))

pub open-layer : (slot : ℕ) (i : Inside) → is_typed (bound.Open slot) i ≡ is_some
    (slice_get i.cursors slot)
open-layer slot i = ap (λ (f : Typed). f i) (ap is_typed (sym (rolls-Open slot)) ∙
    is_typed-at (BoundStmt-F.Open slot))

pub close-layer : (slot : ℕ) (i : Inside) → is_typed (bound.Close slot) i ≡ is_some
    (slice_get i.cursors slot)
close-layer slot i = ap (λ (f : Typed). f i) (ap is_typed (sym (rolls-Close slot)) ∙
    is_typed-at (BoundStmt-F.Close slot))

pub fetch-layer : (slot : ℕ) (ts : List BoundTarget) (i : Inside) →
    is_typed (bound.Fetch slot ts) i ≡ take_row i.around.slots ts (slice_get i.cursors slot)
fetch-layer slot ts i = ap (λ (f : Typed). f i) (ap is_typed (sym (rolls-Fetch slot ts)) ∙
    is_typed-at (BoundStmt-F.Fetch slot ts))

pub signal-layer : (s : BoundSignal) (i : Inside) →
    is_typed (bound.Signal s) i ≡ if_there Text s.message i.around
signal-layer s i = ap (λ (f : Typed). f i) (ap is_typed (sym (rolls-Signal s)) ∙
    is_typed-at (BoundStmt-F.Signal s))

pub resignal-layer : (s : BoundResignal) (i : Inside) →
    is_typed (bound.Resignal s) i ≡ if_there Text s.message i.around
resignal-layer s i = ap (λ (f : Typed). f i) (ap is_typed (sym (rolls-Resignal s)) ∙
    is_typed-at (BoundStmt-F.Resignal s))

pub get-diagnostics-layer : (d : BoundDiagnostics) (i : Inside) →
    is_typed (bound.GetDiagnostics d) i ≡ information_typed d.information i.around
get-diagnostics-layer d i = ap (λ (f : Typed). f i) (ap is_typed (sym (rolls-GetDiagnostics d)) ∙
    is_typed-at (BoundStmt-F.GetDiagnostics d))

pub leave-layer : (level : ℕ) (i : Inside) → is_typed (bound.Leave level) i ≡
    may_leave i.outer level
leave-layer level i = ap (λ (f : Typed). f i) (ap is_typed (sym (rolls-Leave level)) ∙
    is_typed-at (BoundStmt-F.Leave level))

pub iterate-layer : (level : ℕ) (i : Inside) →
    is_typed (bound.Iterate level) i ≡ may_iterate i.outer level
iterate-layer level i = ap (λ (f : Typed). f i) (ap is_typed (sym (rolls-Iterate level)) ∙
    is_typed-at (BoundStmt-F.Iterate level))

pub return-layer : (e : BoundExpr) (i : Inside) → is_typed (bound.Return e) i ≡ return_typed e i
return-layer e i = ap (λ (f : Typed). f i) (ap is_typed (sym (rolls-Return e)) ∙
    is_typed-at (BoundStmt-F.Return e))
