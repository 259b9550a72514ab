-- That the names that a tree calls decide which plain tree it stands for. ISO/IEC 9075-2, 10.4
-- (routine invocation).
use Rattle.std.specs.Prelude.{◌≡◌, ℕ, Bool, false, List, Option, Some, None, if◌then◌else◌}
use Rattle.std.specs.List.{AllByRecursion}
use Rattle.std.specs.Str.{bytes_eq}
use Rattle.bound_trees.specs.declared.expr.BoundExpr.{BoundExpr}
use Rattle.bound_trees.specs.declared.query.BoundQuery.{BoundQuery}
use Rattle.bound_trees.specs.declared.statement.BoundArgument.{BoundArgument}
use Rattle.bound_trees.specs.declared.statement.BoundBlock.{BoundBlock}
use Rattle.bound_trees.specs.declared.statement.BoundStmt.{BoundStmt}
use Rattle.bound_trees.specs.declared.statement.BoundVariables.{BoundVariables}
use Rattle.rel_algebra.specs.Tree.{Parameter, Query, Routine}
use Rattle.routine_views.specs.Views as view
use Rattle.routine_views.specs.Views.{Known, Own, expr_in, query_in, perhaps, stmt_in, block_in}
use Rattle.viewing_laws.specs.Calls.{CalledNames, expr_calls, query_calls, calls_if_there}
use Rattle.viewing_laws.specs.Calls.{arguments_calls, variables_calls, statement_calls}
use Rattle.viewing_laws.specs.Calls.{calls_of_block}

-- Where the names that a tree calls are such, it stands for the same by the one and by the other.
pub record SameViews (Such : CalledNames → Type 0) (k l : Known) : Type 0 where
  pub expressions : (e : BoundExpr) → Such (expr_calls e) → expr_in k e ≡ expr_in l e
  pub queries : (q : BoundQuery) → Such (query_calls q) → query_in k q ≡ query_in l q
  pub optional : (e : Option BoundExpr) → Such (calls_if_there e) → perhaps k e ≡ perhaps l e
  pub arguments : (xs : List BoundArgument) → Such (arguments_calls xs) →
      view.arguments k xs ≡ view.arguments l xs
  pub variables : (vs : List BoundVariables) → Such (variables_calls vs) →
      view.variables k vs ≡ view.variables l vs
  -- at every list of cursors
  pub statements : (s : BoundStmt) → Such (statement_calls s) → (cursors : List Query) →
      stmt_in k s cursors ≡ stmt_in l s cursors
  pub blocks : (b : BoundBlock) → Such (calls_of_block b) → (cursors : List Query) →
      block_in k b cursors ≡ block_in l b cursors

-- ---- by what is called

-- what is called: the routine in which the call stands, of these parameters, or another one
pub data Callee : Type 0 where
  itself : List Parameter → Callee
  another : Routine → Callee

-- the one where it is the routine's own name, and else the other
abbrev pub callee_by : Option Own → List ℕ → Routine → Callee
callee_by None name r = another r
callee_by (Some own) name r = if bytes_eq own.name name then itself own.parameters else another r

-- what a call of a name calls
abbrev pub callee : Known → List ℕ → Callee
callee k name = callee_by k.own name (k.routines name)

-- What is called decides: where each called name is that of the same callee, a tree stands for the
-- same.
abbrev pub CalleesDecide : Type 0
CalleesDecide =
    (k l : Known) → SameViews (AllByRecursion (λ name. callee k name ≡ callee l name)) k l

-- ---- by what names stand for

-- whether it is the name of the routine in which a tree stands
abbrev pub is_own : Option Own → List ℕ → Bool
is_own None name = false
is_own (Some own) name = bytes_eq own.name name

-- a name stands for the same routine, if it isn't that of the routine in which the tree stands
abbrev pub SameBeside : Option Own → (List ℕ → Routine) → (List ℕ → Routine) → List ℕ → Type 0
SameBeside own m n name = is_own own name ≡ false → m name ≡ n name

-- In the same routine, or in none, what the called names stand for decides.
abbrev pub RoutinesDecide : Type 0
RoutinesDecide = (own : Option Own) (m n : List ℕ → Routine) → SameViews
    (AllByRecursion (SameBeside own m n)) (record { routines = m; own = own })
    (record { routines = n; own = own })

-- A tree that doesn't call the routine in which it stands is what it is outside.
abbrev pub OthersDecide : Type 0
OthersDecide = (own : Own) (m : List ℕ → Routine) → SameViews
    (AllByRecursion (λ name. bytes_eq own.name name ≡ false))
    (record { routines = m; own = Some own }) (record { routines = m; own = None })

-- the three of them
pub record ViewsDecided : Type 0 where
  pub callees : CalleesDecide
  pub routines : RoutinesDecide
  pub others : OthersDecide
