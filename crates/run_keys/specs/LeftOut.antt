-- Rows of a table that conjuncts leave out without a trace. ISO/IEC 9075-2, 7.12 (where clause).
use Rattle.std.specs.Prelude.{◌≡◌, false, List, ◌∷◌, map}
use Rattle.sql_values.specs.declared.value.Value.{Value}
use Rattle.sql_values.specs.declared.operators.Comparison.{Comparison}
use Rattle.sql_values.specs.Operators.{compared}
use Rattle.row_types.specs.Rows.{Row}
use Rattle.bound_trees.specs.declared.expr.BoundExpr.{BoundExpr}
use Rattle.bound_trees.specs.declared.expr.BoundOperation.{BoundOperation}
use Rattle.bound_trees.specs.declared.query.BoundFromItem.{BoundFromItem}
use Rattle.bound_trees.specs.declared.query.BoundSelect.{BoundSelect, out-BoundSelect}
use Rattle.rel_algebra.specs.Tree.{Exprs}
use Rattle.rel_algebra.specs.World.{Called, Gives, Frame, World}
use Rattle.rel_algebra.specs.Meaning.{ev, from_rows, holds}
use Rattle.catalog_store.specs.View.{from_of, operated}
use Rattle.routine_views.specs.Views.{Known, expr_in}
use Rattle.plan_keys.specs.Terms.{said}
use Rattle.plan_keys.specs.declared.terms.Term.{Term}
use Rattle.run_places.specs.Groups.{records_by}
use Rattle.run_places.specs.Views.{exprs_in, item_in}

-- on each row an expression has this value, and does nothing else
abbrev pub IsFixed : BoundExpr → List Row → Frame → Value → Type 0
IsFixed e outer f v = (k : Known) (self : Called) (row : Row) (w : World) →
    ev (expr_in k e) self (row ∷ outer) f w ≡ Gives v w

-- on each row a test has the truth value of a term, and does nothing else
abbrev pub SaysTerm : BoundExpr → List Row → Frame → Term → Type 0
SaysTerm e outer f t = (k : Known) (self : Called) (row : Row) (w : World) →
    ev (expr_in k e) self (row ∷ outer) f w ≡ Gives (said t row) w

-- the same of a word with its operands
abbrev pub WordSays : BoundOperation → List BoundExpr → List Row → Frame → Term → Type 0
WordSays word es outer f t = (k : Known) (self : Called) (row : Row) (w : World) →
    ev (operated word (map (expr_in k) es)) self (row ∷ outer) f w ≡ Gives (said t row) w

-- on a row the two sides have values, and do nothing else, and a comparison of them says this
pub record SidesSay (c : Comparison) (a b : BoundExpr) (outer : List Row) (f : Frame) (row : Row)
    (says : Value) : Type 0 where
  pub left : Value
  pub right : Value
  pub left_is : (k : Known) (self : Called) (w : World) →
      ev (expr_in k a) self (row ∷ outer) f w ≡ Gives left w
  pub right_is : (k : Known) (self : Called) (w : World) →
      ev (expr_in k b) self (row ∷ outer) f w ≡ Gives right w
  pub says_so : compared c left right ≡ says

-- a comparison of two sides says on each row what a term says
abbrev pub ComparesAs : Comparison → BoundExpr → BoundExpr → List Row → Frame → Term → Type 0
ComparesAs c a b outer f t = (row : Row) → SidesSay c a b outer f row (said t row)

-- conjuncts are not all true on a row, and do nothing else
abbrev pub LeavesOut : List BoundExpr → List Row → Frame → Row → Type 0
LeavesOut tests outer f row = (k : Known) (self : Called) (w : World) →
    holds (exprs_in k tests) self (row ∷ outer) f w ≡ Gives false w

-- FROM gives these rows, and does nothing else
abbrev pub GivesRows : List BoundFromItem → World → List Row → Type 0
GivesRows items w rows = (k : Known) (self : Called) (outer : List Row) (f : Frame) →
    from_rows (from_of (map (item_in k) items)) self outer f w ≡ Gives rows w

-- What a SELECT makes of these rows it makes of all rows of its FROM, whatever its list.
pub record AreMet (q : BoundSelect) (outer : List Row) (f : Frame) (w : World) (rows : List Row) :
    Type 0 where
  -- all rows of FROM
  pub all : List Row
  pub given : GivesRows (out-BoundSelect q).from w all
  pub same : (k : Known) (self : Called) (list : Exprs) →
      records_by self list (exprs_in k (out-BoundSelect q).conjuncts) outer f all w
      ≡ records_by self list (exprs_in k (out-BoundSelect q).conjuncts) outer f rows w
