-- Worked rows of outcomes and of the choice of handlers. ISO/IEC 9075-4, 14.2 (handler
-- declaration), 14.8 (ITERATE) and 14.9 (LEAVE); ISO/IEC 9075-2, 15.1 (call) and 15.2 (return).
use Rattle.std.specs.Prelude.{◌≡◌, ℕ, ◌-◌, suc, List, [], ◌∷◌, Some, None, codes, pos}
use Rattle.sql_values.specs.declared.value.Value.{Value}
use Rattle.sql_values.specs.declared.value.Value.TheVariants.{Int}
use Rattle.sql_values.specs.declared.value.SqlType.TheVariants.{Integer}
use Rattle.bound_trees.specs.declared.condition.BoundConditionValue.{BoundConditionValue}
use Rattle.bound_trees.specs.declared.condition.BoundConditionValue.TheVariants as waited
use Rattle.bound_trees.specs.declared.condition.BoundHandlerType.TheVariants.{Exit}
use Rattle.bound_trees.specs.declared.statement.BoundHandler.{BoundHandler, roll-BoundHandler}
use Rattle.bound_trees.specs.declared.statement.BoundStmt.TheVariants as bound
use Rattle.catalog_store.specs.declared.entry.ParameterMode.TheVariants.{In, Out, Inout}
use Rattle.rel_algebra.specs.States.{no_data, without_return}
use Rattle.rel_algebra.specs.World.{World, Gives, Raises, frame_of}
use Rattle.rel_algebra.specs.Doing as doing
use Rattle.rel_algebra.specs.Doing.{Doing, ends}
use Rattle.rel_algebra.specs.Calls.{returned_or, given_or}
use Rattle.rel_algebra.specs.Compounds.{left_or}
use Rattle.rel_algebra.specs.Handlers.{Chosen, best}
use Rattle.rel_algebra.specs.Loops.{again_or}
use Rattle.routine_views.specs.Routines.{with_modes}
use Rattle.run_outcomes.specs.declared.choice.Scope.{Scope as HeldScope}
use Rattle.run_outcomes.specs.Scopes.{Acts, scopes_by, scope_by, handling_by}

-- ---- labels

-- Inside two compound statements and a loop, which have the levels 0, 1 and 2: LEAVE of the label
-- one outwards goes to level 1, past the loop, which it ends, and ends the compound statement
-- there. ITERATE of the loop's own label goes on. A label that no text spells has level 0.
pub record LabelsAreLeft : Type 0 where
  pub own : 3 - suc 0 ≡ 2
  pub outer : 3 - suc 1 ≡ 1
  pub too_far : 1 - suc 4 ≡ 0
  pub past_the_loop : (go : Doing) → again_or 2 (doing.Leaving 1) go ≡ ends (doing.Leaving 1)
  pub at_its_label : left_or 1 (doing.Leaving 1) ≡ doing.Next
  pub not_yet : left_or 2 (doing.Leaving 1) ≡ doing.Leaving 1
  pub goes_on : (go : Doing) → again_or 2 (doing.Iterating 2) go ≡ go
  pub ends_the_loop : (go : Doing) → again_or 2 (doing.Leaving 2) go ≡ ends doing.Next

-- ---- the ends of bodies

-- a number
abbrev number : ℕ → Value
number n = Int (pos n)

-- A function gives the value of RETURN, and raises 2F005 without one; a procedure gives the values
-- of its OUT and INOUT parameters, also after LEAVE, and none where it raises.
pub record BodiesEnd : Type 0 where
  pub returns : (w : World) → returned_or Integer (doing.Returning (number 5)) w
      ≡ Gives (number 5) w
  pub without : (w : World) → returned_or Integer doing.Next w ≡ Raises without_return w
  pub raises : (w : World) → returned_or Integer (doing.Raising no_data) w ≡ Raises no_data w
  pub outs : (w : World) →
      given_or (with_modes (In ∷ Out ∷ Inout ∷ []) (Integer ∷ Integer ∷ Integer ∷ []))
      doing.Next (frame_of (number 1 ∷ number 2 ∷ number 3 ∷ [])) w
      ≡ Gives (number 2 ∷ number 3 ∷ []) w
  pub none : (w : World) →
      given_or (with_modes (Out ∷ []) (Integer ∷ [])) (doing.Raising no_data)
      (frame_of (number 1 ∷ [])) w ≡ Raises no_data w

-- ---- handlers

-- a handler that waits for this, with an action that does nothing here
abbrev handler : BoundConditionValue → BoundHandler
handler value = roll-BoundHandler
    (record { handler_type = Exit; values = value ∷ []; action = bound.Loop [] })

-- a compound statement with these handlers, at a level
abbrev around : ℕ → List BoundHandler → HeldScope
around level hs = record {
  handlers = record { ref_ptr = (0, 0); now = hs };
  queries = record { ref_ptr = (0, 0); now = [] };
  level = level;
  variables = 0;
  cursors = 0;
}

-- a handler of SQLSTATE '22012'
abbrev named : BoundHandler
named = handler (waited.State (codes "22012"))

-- a handler of SQLEXCEPTION
abbrev general : BoundHandler
general = handler waited.SqlException

-- a handler of NOT FOUND
abbrev not_found : BoundHandler
not_found = handler waited.NotFound

-- a handler of a compound statement that stands inside these
abbrev taken : Acts → List HeldScope → HeldScope → BoundHandler → Chosen
taken acts outer s h = record {
  handling = handling_by (acts (scopes_by acts outer) s) h;
  scope = scope_by acts (scopes_by acts outer) s;
}

-- A general handler of the inner compound statement goes before one of the outer that names the
-- state; in one compound statement the one that names the state goes before the general one that
-- is declared first; where none of the inner one takes the state, the outer one is asked.
pub record HandlersAreChosen : Type 0 where
  pub inner_first : (acts : Acts) →
      best (codes "22012") (scopes_by acts (around 0 (named ∷ []) ∷ around 1 (general ∷ []) ∷ []))
      ≡ Some (taken acts (around 0 (named ∷ []) ∷ []) (around 1 (general ∷ [])) general)
  pub named_first : (acts : Acts) →
      best (codes "22012") (scopes_by acts (around 0 (general ∷ named ∷ []) ∷ []))
      ≡ Some (taken acts [] (around 0 (general ∷ named ∷ [])) named)
  pub outer_then : (acts : Acts) →
      best (codes "22012") (scopes_by acts (around 0 (named ∷ []) ∷ around 1 (not_found ∷ []) ∷ []))
      ≡ Some (taken acts [] (around 0 (named ∷ [])) named)
  pub no_data_is_not_found : (acts : Acts) →
      best (codes "02000") (scopes_by acts (around 0 (general ∷ not_found ∷ []) ∷ []))
      ≡ Some (taken acts [] (around 0 (general ∷ not_found ∷ [])) not_found)
  pub none_takes : (acts : Acts) →
      best (codes "01000") (scopes_by acts (around 0 (general ∷ not_found ∷ []) ∷ [])) ≡ None
