-- Compound statements, ATOMIC and not. ISO/IEC 9075-4, 14.1 (compound statement) and 14.2 (handler
-- declaration).
use Rattle.std.specs.Prelude.{ℕ, nat_eq, Bool, true, false, if◌then◌else◌, List, [], ◌∷◌, ◌++◌}
use Rattle.std.specs.Prelude.{length, replicate, Option, Some, None}
use Rattle.sql_conditions.specs.Conditions.{Area}
use Rattle.row_types.specs.Tables.{Tables}
use Rattle.rel_algebra.specs.Tree.{HandlerType, Undo}
use Rattle.rel_algebra.specs.States.{state_in}
use Rattle.rel_algebra.specs.World.{with_tables, Frame, Closed, Ends, Gives, Raises, RunsOut, Eval}
use Rattle.rel_algebra.specs.Doing.{Outcome, Next, Leaving, Exiting, Raising, Spent, End, Doing}
use Rattle.rel_algebra.specs.Doing.{ends, left_by, with_cursors}
use Rattle.rel_algebra.specs.Handlers.{Handling, Scope, Scopes, best_here, acting, failing}

-- inside an ATOMIC compound statement the handlers outside it are not seen
abbrev pub scopes_in : Bool → Scopes → Scopes
scopes_in true scopes = []
scopes_in false scopes = scopes

-- ---- the end of the statement list

-- the tables of the start, and then this
abbrev pub put_back : Tables → Doing → Doing
put_back start go = λ f w. go f (with_tables w start)

-- before the action of an UNDO handler the table changes since the start are taken back
abbrev pub exit_by : HandlerType → Tables → Doing → Doing
exit_by Undo start action = put_back start action
exit_by _ start action = action

-- the action of the handler that takes these conditions; where none does, they go on outwards
abbrev pub exit_or : Option Handling → ℕ → Area → Tables → Doing
exit_or None level area start = ends (Exiting level area)
exit_or (Some h) level area start = exit_by h.kind start (acting h area)

-- a handler of this compound statement acts at its end
abbrev pub exited_or : ℕ → List Handling → Tables → Outcome → Doing
exited_or level own start (Exiting l area) =
    if nat_eq l level then exit_or (best_here (state_in area) own) level area start
    else ends (Exiting l area)
exited_or level own start o = ends o

-- the end of a statement list, by the handlers of its compound statement
abbrev pub exited : ℕ → List Handling → Tables → End → End
exited level own start e = exited_or level own start e.outcome e.frame e.world

-- LEAVE with its label ends it
abbrev pub left_or : ℕ → Outcome → Outcome
left_or level (Leaving l) = if nat_eq l level then Next else Leaving l
left_or level o = o

-- the end of a compound statement that LEAVE with its label ends. 14.9 (leave statement)
abbrev pub left : ℕ → End → End
left level e = record e { outcome = left_or level e.outcome }

-- ---- raising as a whole

-- the compound statement is the statement that raises; one that is ATOMIC is undone first
abbrev pub raising_whole : Bool → Scopes → Tables → Area → Doing
raising_whole true scopes start area = put_back start (failing scopes area)
raising_whole false scopes start area = failing scopes area

-- what an ATOMIC compound statement raises, it raises as a whole
abbrev pub sealed_or : Bool → Scopes → Tables → Outcome → Doing
sealed_or true scopes start (Raising area) = raising_whole true scopes start area
sealed_or _ scopes start o = ends o

-- the end of a compound statement, where an ATOMIC one raises as a whole what it raises
abbrev pub sealed : Bool → Scopes → Tables → End → End
sealed atomic scopes start e = sealed_or atomic scopes start e.outcome e.frame e.world

-- ---- the whole

-- the cursors that are declared, all closed
abbrev pub with_closed : ℕ → Doing → Doing
with_closed n go = λ f w. go (with_cursors (f.cursors ++ replicate n Closed) f) w

-- the handlers of a compound statement, with what its actions see: the variables and cursors that
-- are in sight as its statements start
abbrev pub scope_in : ℕ → List Handling → Frame → Scope
scope_in level own f = record {
  handlings = own;
  level = level;
  variables = length f.variables;
  cursors = length f.cursors;
}

-- the statements of a compound statement at a level, with its handlers, and what follows them
abbrev pub listed : ℕ → Tables → Scopes → List Handling → (Scopes → Doing) → Doing
listed level start outer own body =
    λ f w. left level (exited level own start (body (scope_in level own f ∷ outer) f w))

-- What the declarations give goes on to the statements; what they raise, the compound statement
-- raises as a whole. The frame is that before them.
abbrev pub declared_or : Bool → Scopes → Tables → Ends Frame → Doing → Frame → End
declared_or atomic scopes start (Gives g w) go f = sealed atomic scopes start (left_by f (go g w))
declared_or atomic scopes start (Raises area w) go f = raising_whole atomic scopes start area f w
declared_or atomic scopes start (RunsOut w) go f = ends Spent f w

-- By whether it is ATOMIC, its level, the handlers in sight, its variables, how many cursors it
-- declares, its handlers by those outside it, and its statements. The start of the tables is before
-- its declarations.
abbrev pub compound : Bool → ℕ → Scopes → (Frame → Eval Frame) → ℕ → (Scopes → List Handling) →
    (Scopes → Doing) → Doing
compound atomic level scopes declare cursors handlings body = λ f w.
    let outer = scopes_in atomic scopes in
    declared_or atomic scopes w.tables (declare f w)
    (with_closed cursors (listed level w.tables outer (handlings outer) body)) f
