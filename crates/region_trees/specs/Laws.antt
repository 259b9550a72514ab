-- That a body in form is the tree that stands for it: what it stands for as a statement is what the
-- tree does, so that the plan of the tree means the function. ISO/IEC 9075-2, 10.4 (routine
-- invocation).
use Rattle.std.specs.Prelude.{◌≡◌, ℕ, false, true, List, [], length, Some}
use Rattle.std.specs.List.{IsDistinct}
use Rattle.std.specs.Str.{bytes_eq}
use Rattle.sql_values.specs.declared.value.Value.{Value}
use Rattle.bound_trees.specs.declared.expr.BoundExpr.{BoundExpr}
use Rattle.bound_trees.specs.declared.query.BoundQuery.{BoundQuery}
use Rattle.bound_trees.specs.declared.statement.BoundStmt.{BoundStmt}
use Rattle.rel_algebra.specs.Endings.{Ending, cell_end}
use Rattle.rel_algebra.specs.Joins.{query_width, table_width}
use Rattle.rel_algebra.specs.Meaning.{call as calls, carried}
use Rattle.rel_algebra.specs.Plain.{planned, planned_expr}
use Rattle.rel_algebra.specs.Plan.{den}
use Rattle.rel_algebra.specs.Theorem.{Fits, inputs_of, one_cell}
use Rattle.rel_algebra.specs.Tree.{Query, Routine}
use Rattle.rel_algebra.specs.World.{World, frame_of}
use Rattle.catalog_store.specs.Catalog.{Interpreted, names_of}
use Rattle.regions.specs.Inline.{Widths, inline}
use Rattle.regions.specs.Theorem.{Each, Formed, StmtShaped}
use Rattle.regions.specs.Tree as region
use Rattle.regions.specs.Worlds.{stmt_of}
use Rattle.routine_views.specs.Views.{Known, Own, stmt_in}
use Rattle.routine_views.specs.Routines.{inside, routines_of, function_view, with_modes}
use Rattle.viewing_laws.specs.Calls.{statement_calls}
use Rattle.viewing_laws.specs.Standing.{is_called}
use Rattle.block_plans.specs.Callees.{Callees}
use Rattle.block_plans.specs.View.{expr_seen, query_seen}
use Rattle.region_trees.specs.Form.{formed}
use Rattle.region_trees.specs.Regions.{Seeing, region_by, region_in, region_seen}

-- The tree of a body in form is the statement that the body stands for, whatever its calls are of
-- and whatever cursors are in sight.
abbrev pub RegionsEmbed : Type 0
RegionsEmbed = (c : Callees) (k : Known) (s : BoundStmt) (cursors : List Query) →
    formed c s ≡ true → stmt_of (region_in k s) ≡ stmt_in k s cursors

-- Each expression and each query that has a plan is seen alike in both ways.
pub record SeenAlike (c : Callees) (v w : Seeing) : Type 0 where
  pub expressions : (e : BoundExpr) → planned_expr (expr_seen c e) ≡ true →
      v.expression e ≡ w.expression e
  pub queries : (q : BoundQuery) → planned (query_seen c q) ≡ true → v.query q ≡ w.query q

-- Where what has a plan is seen alike in two ways, the tree of a body in form is the same by both.
abbrev pub RegionsAgree : Type 0
RegionsAgree = (c : Callees) (v w : Seeing) (s : BoundStmt) → SeenAlike c v w →
    formed c s ≡ true → region_by v s ≡ region_by w s

-- the tree of a function, where names stand for these routines
abbrev pub function_region : (List ℕ → Routine) → List ℕ → Interpreted → region.Routine
function_region routines name f = region.Body f.parameters f.returns
    (region_in (inside routines name (with_modes [] f.parameters)) f.body)

-- in each SELECT INTO of a tree there are as many columns as targets
abbrev pub IsCounted : region.Stmt → Widths → Type 0
IsCounted s widths =
    Each s (λ e. Unit {0}) (λ q targets. query_width q widths ≡ length targets)

-- The tree of a body in form by what has a plan is formed as plans want it, where each SELECT INTO
-- has as many columns as targets. Where the body doesn't call the routine in which it stands, the
-- tree is the same by what the routines of the catalog run; so that is formed too, where its queries
-- have the shapes of what is well typed.
pub record BodiesFormed : Type 0 where
  pub seen : (c : Callees) (s : BoundStmt) (widths : Widths) → formed c s ≡ true →
      IsCounted (region_seen c s) widths → Formed (region_seen c s) widths
  pub same : (c : Callees) (own : Own) (s : BoundStmt) → IsDistinct bytes_eq (names_of c.known) →
      formed c s ≡ true → is_called own.name (statement_calls s) ≡ false →
      region_in (record { routines = routines_of c.known; own = Some own }) s ≡ region_seen c s
  pub stands : (c : Callees) (own : Own) (s : BoundStmt) (widths : Widths) →
      IsDistinct bytes_eq (names_of c.known) → formed c s ≡ true →
      is_called own.name (statement_calls s) ≡ false →
      let k : Known = record { routines = routines_of c.known; own = Some own } in
      StmtShaped (region_in k s) widths → Formed (region_in k s) widths

-- a function that may have a plan: its body is of statements in form, whatever it weighs, it
-- doesn't call itself, and is called on NULL too
pub record MayBePlanned (c : Callees) (name : List ℕ) (f : Interpreted) : Type 0 where
  pub body_formed : formed c f.body ≡ true
  pub calls_others : is_called name (statement_calls f.body) ≡ false
  pub self_calling : f.self_calling ≡ false
  pub null_call : f.null_call ≡ false

-- how a call of such a function ends: as the one cell of the plan of its tree, and in its world
pub record PlanMeans (c : Callees) (name : List ℕ) (f : Interpreted) (values : List Value)
    (w : World) : Type 0 where
  -- how a call ends
  pub end : Ending Value
  -- the plan has one row of that one cell
  pub has : den (inline (function_region (routines_of c.known) name f) (table_width w.tables))
      (inputs_of w (frame_of values)) [] ≡ one_cell (cell_end end)
  -- a call of what the function stands for ends so, and leaves its world
  pub ends : calls (function_view (routines_of c.known) name f) values w ≡ carried end w

-- What the plan of its tree means is what such a function means, for as many values as it has
-- parameters.
abbrev pub BodiesMean : Type 0
BodiesMean = (c : Callees) (name : List ℕ) (f : Interpreted) (values : List Value)
    (w : World) → IsDistinct bytes_eq (names_of c.known) → MayBePlanned c name f →
    StmtShaped (region_in (inside (routines_of c.known) name (with_modes [] f.parameters)) f.body)
    (table_width w.tables) → length values ≡ length f.parameters →
    Fits (inputs_of w (frame_of values)) → PlanMeans c name f values w
