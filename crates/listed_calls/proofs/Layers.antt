-- One layer of each kind of bound statement: what it calls, by the trees in it.
use Rattle.std.proofs.Common.{◌≡◌, ℕ, sym, ap, ◌∙◌, List, [], ◌∷◌, ◌++◌, map, Option}
use Rattle.bound_trees.specs.declared.change.BoundDelete.{BoundDelete}
use Rattle.bound_trees.specs.declared.change.BoundInsert.{BoundInsert}
use Rattle.bound_trees.specs.declared.change.BoundUpdate.{BoundUpdate}
use Rattle.bound_trees.specs.declared.condition.BoundDiagnostics.{BoundDiagnostics}
use Rattle.bound_trees.specs.declared.condition.BoundResignal.{BoundResignal}
use Rattle.bound_trees.specs.declared.condition.BoundSignal.{BoundSignal}
use Rattle.bound_trees.specs.declared.expr.BoundExpr.{BoundExpr}
use Rattle.bound_trees.specs.declared.query.BoundQuery.{BoundQuery}
use Rattle.bound_trees.specs.declared.statement.BoundBlock.{BoundBlock}
use Rattle.bound_trees.specs.declared.statement.BoundBranch.{BoundBranch}
use Rattle.bound_trees.specs.declared.statement.BoundCall.{BoundCall}
use Rattle.bound_trees.specs.declared.statement.BoundStmt.{BoundStmt}
use Rattle.bound_trees.specs.declared.statement.BoundStmt.TheOpen.{BoundStmt-F}
use Rattle.bound_trees.specs.declared.statement.BoundStmt.TheVariants as bound
use Rattle.bound_trees.specs.declared.statement.BoundStmt.TheVariants.{rolls-Insert, rolls-Update}
use Rattle.bound_trees.specs.declared.statement.BoundStmt.TheVariants.{rolls-Delete, rolls-Call}
use Rattle.bound_trees.specs.declared.statement.BoundStmt.TheVariants.{rolls-Block, rolls-If}
use Rattle.bound_trees.specs.declared.statement.BoundStmt.TheVariants.{rolls-Case, rolls-Set}
use Rattle.bound_trees.specs.declared.statement.BoundStmt.TheVariants.{rolls-SelectInto, rolls-Loop}
use Rattle.bound_trees.specs.declared.statement.BoundStmt.TheVariants.{rolls-While, rolls-Repeat}
use Rattle.bound_trees.specs.declared.statement.BoundStmt.TheVariants.{rolls-For, rolls-Open}
use Rattle.bound_trees.specs.declared.statement.BoundStmt.TheVariants.{rolls-Close, rolls-Fetch}
use Rattle.bound_trees.specs.declared.statement.BoundStmt.TheVariants.{rolls-Signal, rolls-Resignal}
use Rattle.bound_trees.specs.declared.statement.BoundStmt.TheVariants.{rolls-GetDiagnostics}
use Rattle.bound_trees.specs.declared.statement.BoundStmt.TheVariants.{rolls-Leave, rolls-Iterate}
use Rattle.bound_trees.specs.declared.statement.BoundStmt.TheVariants.{rolls-Return}
use Rattle.bound_trees.specs.declared.statement.BoundTarget.{BoundTarget}
use Rattle.viewing_laws.specs.Calls.{all_calls, expr_calls, query_calls, calls_if_there}
use Rattle.viewing_laws.specs.Calls.{arguments_calls, information_calls, statement_calls}
use Rattle.viewing_laws.specs.Calls.{calls_of_block, calls_of_branch}
use Rattle.viewing_laws.proofs.Laws.{statement_calls-at}

pub insert-calls : (b : BoundInsert) (places : Option (List ℕ)) →
    statement_calls (bound.Insert b places) ≡ query_calls b.source
insert-calls b places = ap statement_calls (sym (rolls-Insert b places)) ∙
    statement_calls-at (BoundStmt-F.Insert b places)

pub update-calls : (b : BoundUpdate) → statement_calls (bound.Update b) ≡ query_calls b.rows
update-calls b = ap statement_calls (sym (rolls-Update b)) ∙
    statement_calls-at (BoundStmt-F.Update b)

pub delete-calls : (b : BoundDelete) → statement_calls (bound.Delete b) ≡ query_calls b.rows
delete-calls b = ap statement_calls (sym (rolls-Delete b)) ∙
    statement_calls-at (BoundStmt-F.Delete b)

pub call-calls : (c : BoundCall) →
    statement_calls (bound.Call c) ≡ c.procedure ∷ arguments_calls c.arguments
call-calls c = ap statement_calls (sym (rolls-Call c)) ∙ statement_calls-at (BoundStmt-F.Call c)

pub block-calls : (b : BoundBlock) → statement_calls (bound.Block b) ≡ calls_of_block b
block-calls b = ap statement_calls (sym (rolls-Block b)) ∙
    statement_calls-at (BoundStmt-F.Block b)

pub if-calls : (bs : List BoundBranch) (ss : List BoundStmt) →
    statement_calls (bound.If bs ss) ≡
    all_calls (map calls_of_branch bs) ++ all_calls (map statement_calls ss)
if-calls bs ss = ap statement_calls (sym (rolls-If bs ss)) ∙
    statement_calls-at (BoundStmt-F.If bs ss)

pub case-calls : (operand : Option BoundExpr) (bs : List BoundBranch) (ss : List BoundStmt) →
    statement_calls (bound.Case operand bs ss) ≡ calls_if_there operand ++
    (all_calls (map calls_of_branch bs) ++ all_calls (map statement_calls ss))
case-calls operand bs ss = ap statement_calls (sym (rolls-Case operand bs ss)) ∙
    statement_calls-at (BoundStmt-F.Case operand bs ss)

pub set-calls : (t : BoundTarget) (e : BoundExpr) → statement_calls (bound.Set t e) ≡ expr_calls e
set-calls t e = ap statement_calls (sym (rolls-Set t e)) ∙
    statement_calls-at (BoundStmt-F.Set t e)

pub select-into-calls : (q : BoundQuery) (ts : List BoundTarget) →
    statement_calls (bound.SelectInto q ts) ≡ query_calls q
select-into-calls q ts = ap statement_calls (sym (rolls-SelectInto q ts)) ∙
    statement_calls-at (BoundStmt-F.SelectInto q ts)

pub loop-calls : (ss : List BoundStmt) →
    statement_calls (bound.Loop ss) ≡ all_calls (map statement_calls ss)
loop-calls ss = ap statement_calls (sym (rolls-Loop ss)) ∙
    statement_calls-at (BoundStmt-F.Loop ss)

pub while-calls : (e : BoundExpr) (ss : List BoundStmt) →
    statement_calls (bound.While e ss) ≡ expr_calls e ++ all_calls (map statement_calls ss)
while-calls e ss = ap statement_calls (sym (rolls-While e ss)) ∙
    statement_calls-at (BoundStmt-F.While e ss)

pub repeat-calls : (ss : List BoundStmt) (e : BoundExpr) →
    statement_calls (bound.Repeat ss e) ≡ all_calls (map statement_calls ss) ++ expr_calls e
repeat-calls ss e = ap statement_calls (sym (rolls-Repeat ss e)) ∙
    statement_calls-at (BoundStmt-F.Repeat ss e)

pub for-calls : (q : BoundQuery) (slot : ℕ) (ss : List BoundStmt) →
    statement_calls (bound.For q slot ss) ≡ query_calls q ++ all_calls (map statement_calls ss)
for-calls q slot ss = ap statement_calls (sym (rolls-For q slot ss)) ∙
    statement_calls-at (BoundStmt-F.For q slot ss)

pub open-calls : (slot : ℕ) → statement_calls (bound.Open slot) ≡ []
open-calls slot = ap statement_calls (sym (rolls-Open slot)) ∙
    statement_calls-at (BoundStmt-F.Open slot)

pub close-calls : (slot : ℕ) → statement_calls (bound.Close slot) ≡ []
close-calls slot = ap statement_calls (sym (rolls-Close slot)) ∙
    statement_calls-at (BoundStmt-F.Close slot)

pub fetch-calls : (slot : ℕ) (ts : List BoundTarget) → statement_calls (bound.Fetch slot ts) ≡ []
fetch-calls slot ts = ap statement_calls (sym (rolls-Fetch slot ts)) ∙
    statement_calls-at (BoundStmt-F.Fetch slot ts)

pub signal-calls : (s : BoundSignal) →
    statement_calls (bound.Signal s) ≡ calls_if_there s.message
signal-calls s = ap statement_calls (sym (rolls-Signal s)) ∙
    statement_calls-at (BoundStmt-F.Signal s)

pub resignal-calls : (s : BoundResignal) →
    statement_calls (bound.Resignal s) ≡ calls_if_there s.message
resignal-calls s = ap statement_calls (sym (rolls-Resignal s)) ∙
    statement_calls-at (BoundStmt-F.Resignal s)

pub get-calls : (d : BoundDiagnostics) →
    statement_calls (bound.GetDiagnostics d) ≡ information_calls d.information
get-calls d = ap statement_calls (sym (rolls-GetDiagnostics d)) ∙
    statement_calls-at (BoundStmt-F.GetDiagnostics d)

pub leave-calls : (level : ℕ) → statement_calls (bound.Leave level) ≡ []
leave-calls level = ap statement_calls (sym (rolls-Leave level)) ∙
    statement_calls-at (BoundStmt-F.Leave level)

pub iterate-calls : (level : ℕ) → statement_calls (bound.Iterate level) ≡ []
iterate-calls level = ap statement_calls (sym (rolls-Iterate level)) ∙
    statement_calls-at (BoundStmt-F.Iterate level)

pub return-calls : (e : BoundExpr) → statement_calls (bound.Return e) ≡ expr_calls e
return-calls e = ap statement_calls (sym (rolls-Return e)) ∙
    statement_calls-at (BoundStmt-F.Return e)
