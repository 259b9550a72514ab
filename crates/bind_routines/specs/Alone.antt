-- Statements that hold no statement, by their form: what each stands for, and the name faults in
-- it. ISO/IEC 9075-4, 14 (control statements), and 17 (diagnostics management).
use Rattle.std.specs.Prelude.{false}
use Rattle.statement_trees.specs.declared.condition.Resignal.{Resignal}
use Rattle.statement_trees.specs.declared.condition.Signal.{Signal}
use Rattle.statement_trees.specs.declared.statement.Block.{Block}
use Rattle.statement_trees.specs.declared.statement.Branch.{Branch}
use Rattle.statement_trees.specs.declared.statement.Case.{Case, out-Case}
use Rattle.statement_trees.specs.declared.statement.CreateFunction.{CreateFunction}
use Rattle.statement_trees.specs.declared.statement.CreateFunction.{out-CreateFunction}
use Rattle.statement_trees.specs.declared.statement.CreateProcedure.{CreateProcedure}
use Rattle.statement_trees.specs.declared.statement.CreateProcedure.{out-CreateProcedure}
use Rattle.statement_trees.specs.declared.statement.Declaration.{Declaration}
use Rattle.statement_trees.specs.declared.statement.Declaration.TheOpen.{Stmt-F}
use Rattle.statement_trees.specs.declared.statement.Handler.{Handler}
use Rattle.statement_trees.specs.declared.statement.If.{If, out-If}
use Rattle.statement_trees.specs.declared.statement.Labelled.{Labelled, out-Labelled}
use Rattle.statement_trees.specs.declared.statement.Stmt.{Stmt}
use Rattle.statement_trees.specs.declared.statement.Structure.{Structure}
use Rattle.statement_trees.specs.declared.writing.Assignment.{Assignment}
use Rattle.statement_trees.specs.declared.writing.Call.{Call}
use Rattle.statement_trees.specs.declared.writing.SelectInto.{SelectInto}
use Rattle.bound_trees.specs.declared.statement.BoundStmt.TheVariants as bound
use Rattle.bind_faults.specs.Faults.{as_value}
use Rattle.bind_simple.specs.Anchors.{standing_of}
use Rattle.bind_simple.specs.Calls.{judged_call}
use Rattle.bind_simple.specs.Simple.{Judge, judged_leave, judged_iterate, judged_return}
use Rattle.bind_simple.specs.Simple.{judged_open, judged_close, judged_fetch, judged_get, inserted}
use Rattle.bind_simple.specs.Simple.{changed, removed, misplaced}
use Rattle.bind_simple.specs.States.{judged_signal, judged_resignal}
use Rattle.bind_simple.specs.Storing.{judged_set, judged_select_into}

-- CALL
abbrev pub called : Call → Judge
called s p = as_value (λ b. bound.Call b) (judged_call false s p)

-- SET
abbrev pub assigned : Assignment → Judge
assigned a p = as_value (λ b. bound.Set b.target b.value) (judged_set a p)

-- SELECT INTO
abbrev pub selected : SelectInto → Judge
selected s p = as_value (λ b. bound.SelectInto b.query b.targets) (judged_select_into s p)

-- SIGNAL
abbrev pub signalled : Signal → Judge
signalled s p = as_value (λ b. bound.Signal b) (judged_signal s p)

-- RESIGNAL
abbrev pub resignalled : Resignal → Judge
resignalled s p = as_value (λ b. bound.Resignal b) (judged_resignal s p)

-- A statement by its form. What holds statements is judged by those, so here it counts as one that
-- stands in no routine.
abbrev pub judged_alone : Stmt-F Declaration Stmt Structure Block Branch Case CreateFunction
    CreateProcedure Handler If Labelled → Judge
judged_alone (Stmt-F.CreateTable s) p = misplaced s.anchor
judged_alone (Stmt-F.CreateFunction s) p = misplaced (out-CreateFunction s).anchor
judged_alone (Stmt-F.CreateProcedure s) p = misplaced (out-CreateProcedure s).anchor
judged_alone (Stmt-F.Drop s) p = misplaced s.anchor
judged_alone (Stmt-F.Query q) p = misplaced (standing_of q.query).at
judged_alone (Stmt-F.Explain at q) p = misplaced at
judged_alone (Stmt-F.Labelled s) p = misplaced (out-Labelled s).anchor
judged_alone (Stmt-F.If s) p = misplaced (out-If s).anchor
judged_alone (Stmt-F.Case s) p = misplaced (out-Case s).anchor
judged_alone (Stmt-F.Insert s) p = inserted s p
judged_alone (Stmt-F.Update s) p = changed s p
judged_alone (Stmt-F.Delete s) p = removed s p
judged_alone (Stmt-F.Call s) p = called s p
judged_alone (Stmt-F.Set at a) p = assigned a p
judged_alone (Stmt-F.SelectInto s) p = selected s p
judged_alone (Stmt-F.Open at i) p = judged_open i p
judged_alone (Stmt-F.Close at i) p = judged_close i p
judged_alone (Stmt-F.Fetch s) p = judged_fetch s p
judged_alone (Stmt-F.Signal s) p = signalled s p
judged_alone (Stmt-F.Resignal s) p = resignalled s p
judged_alone (Stmt-F.GetDiagnostics s) p = judged_get s p
judged_alone (Stmt-F.Leave at i) p = judged_leave i p
judged_alone (Stmt-F.Iterate at i) p = judged_iterate at i p
judged_alone (Stmt-F.Return at e) p = judged_return at e p
