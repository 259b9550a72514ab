-- The top conjuncts of a test: those of each operand of AND, and of any other expression itself.
-- ISO/IEC 9075-2, 7.12 (where clause).
use Rattle.std.specs.Prelude.{ℕ, suc, ◌+◌, Bool, true, false, if◌then◌else◌, List, [], ◌∷◌, map}
use Rattle.std.specs.List.{flat_map}
use Rattle.bound_trees.specs.declared.expr.BoundExpr.{BoundExpr, roll-BoundExpr, fold-BoundExpr}
use Rattle.bound_trees.specs.declared.expr.BoundExpr.TheOpen.{BoundExpr-F, BoundFromItem-F}
use Rattle.bound_trees.specs.declared.expr.BoundExpr.TheOpen.{BoundQuery-F, BoundRow-F}
use Rattle.bound_trees.specs.declared.expr.BoundExpr.TheOpen.{BoundSource-F, BoundGrouping-F}
use Rattle.bound_trees.specs.declared.expr.BoundExpr.TheOpen.{BoundLink-F, BoundSelect-F}
use Rattle.bound_trees.specs.declared.expr.BoundExpr.TheFolds.{map-BoundExpr, map-BoundFromItem}
use Rattle.bound_trees.specs.declared.expr.BoundExpr.TheFolds.{map-BoundQuery, map-BoundRow}
use Rattle.bound_trees.specs.declared.expr.BoundExpr.TheFolds.{map-BoundSource, map-BoundGrouping}
use Rattle.bound_trees.specs.declared.expr.BoundExpr.TheFolds.{map-BoundLink, map-BoundSelect}
use Rattle.bound_trees.specs.declared.expr.BoundLink.{BoundLink, roll-BoundLink}
use Rattle.bound_trees.specs.declared.expr.BoundOperation.{BoundOperation}
use Rattle.bound_trees.specs.declared.expr.BoundOperation.TheVariants.{And}
use Rattle.bound_trees.specs.declared.query.BoundFromItem.{BoundFromItem, roll-BoundFromItem}
use Rattle.bound_trees.specs.declared.query.BoundQuery.{BoundQuery, roll-BoundQuery}
use Rattle.bound_trees.specs.declared.query.BoundRow.{BoundRow, roll-BoundRow}
use Rattle.bound_trees.specs.declared.query.BoundSource.{BoundSource, roll-BoundSource}
use Rattle.bound_trees.specs.declared.query.BoundGrouping.{BoundGrouping, roll-BoundGrouping}
use Rattle.bound_trees.specs.declared.query.BoundSelect.{BoundSelect, roll-BoundSelect}

-- whether the word is AND
abbrev pub is_and : BoundOperation → Bool
is_and And = true
is_and _ = false

-- an expression with its top conjuncts
pub record Test : Type 0 where
  pub itself : BoundExpr
  pub conjuncts : List BoundExpr

-- the conjuncts of AND are those of its operands; any other expression is its own
abbrev pub conjuncts_at : BoundExpr-F Test BoundFromItem BoundQuery BoundRow BoundSource BoundLink
    BoundGrouping BoundSelect → List BoundExpr → List BoundExpr
conjuncts_at (BoundExpr-F.Operation word es) itself =
    if is_and word then flat_map (λ e. e.conjuncts) es else itself
conjuncts_at _ itself = itself

-- the expression again, of its parts
abbrev pub tree_at : BoundExpr-F Test BoundFromItem BoundQuery BoundRow BoundSource BoundLink
    BoundGrouping BoundSelect → BoundExpr
tree_at x = roll-BoundExpr (map-BoundExpr Test BoundFromItem BoundQuery BoundRow BoundSource
    BoundLink BoundGrouping BoundSelect BoundExpr BoundFromItem BoundQuery BoundRow BoundSource
    BoundLink BoundGrouping BoundSelect (λ e. e.itself) (λ x. x) (λ x. x) (λ x. x) (λ x. x) (λ x. x)
    (λ x. x) (λ x. x) x)

-- an expression with its conjuncts, once those of its operands are known
abbrev pub test_step : BoundExpr-F Test BoundFromItem BoundQuery BoundRow BoundSource BoundLink
    BoundGrouping BoundSelect → Test
test_step x = record { itself = tree_at x; conjuncts = conjuncts_at x (tree_at x ∷ []) }

-- what else stands in an expression is itself
abbrev pub item_step : BoundFromItem-F Test BoundFromItem BoundQuery BoundRow BoundSource BoundLink
    BoundGrouping BoundSelect → BoundFromItem
item_step x = roll-BoundFromItem (map-BoundFromItem Test BoundFromItem BoundQuery BoundRow
    BoundSource BoundLink BoundGrouping BoundSelect BoundExpr BoundFromItem BoundQuery BoundRow
    BoundSource BoundLink BoundGrouping BoundSelect (λ e. e.itself) (λ x. x) (λ x. x) (λ x. x)
    (λ x. x) (λ x. x) (λ x. x) (λ x. x) x)

-- a query again, of its parts
abbrev pub query_step : BoundQuery-F Test BoundFromItem BoundQuery BoundRow BoundSource BoundLink
    BoundGrouping BoundSelect → BoundQuery
query_step x = roll-BoundQuery (map-BoundQuery Test BoundFromItem BoundQuery BoundRow BoundSource
    BoundLink BoundGrouping BoundSelect BoundExpr BoundFromItem BoundQuery BoundRow BoundSource
    BoundLink BoundGrouping BoundSelect (λ e. e.itself) (λ x. x) (λ x. x) (λ x. x) (λ x. x) (λ x. x)
    (λ x. x) (λ x. x) x)

-- a row of VALUES again
abbrev pub row_step : BoundRow-F Test BoundFromItem BoundQuery BoundRow BoundSource BoundLink
    BoundGrouping BoundSelect → BoundRow
row_step x = roll-BoundRow (map-BoundRow Test BoundFromItem BoundQuery BoundRow BoundSource
    BoundLink BoundGrouping BoundSelect BoundExpr BoundFromItem BoundQuery BoundRow BoundSource
    BoundLink BoundGrouping BoundSelect (λ e. e.itself) (λ x. x) (λ x. x) (λ x. x) (λ x. x) (λ x. x)
    (λ x. x) (λ x. x) x)

-- a table or derived table again
abbrev pub source_step : BoundSource-F Test BoundFromItem BoundQuery BoundRow BoundSource BoundLink
    BoundGrouping BoundSelect → BoundSource
source_step x = roll-BoundSource (map-BoundSource Test BoundFromItem BoundQuery BoundRow BoundSource
    BoundLink BoundGrouping BoundSelect BoundExpr BoundFromItem BoundQuery BoundRow BoundSource
    BoundLink BoundGrouping BoundSelect (λ e. e.itself) (λ x. x) (λ x. x) (λ x. x) (λ x. x) (λ x. x)
    (λ x. x) (λ x. x) x)

-- a grouping again
abbrev pub grouping_step : BoundGrouping-F Test BoundFromItem BoundQuery BoundRow BoundSource
    BoundLink BoundGrouping BoundSelect → BoundGrouping
grouping_step x = roll-BoundGrouping (map-BoundGrouping Test BoundFromItem BoundQuery BoundRow
    BoundSource BoundLink BoundGrouping BoundSelect BoundExpr BoundFromItem BoundQuery BoundRow
    BoundSource BoundLink BoundGrouping BoundSelect (λ e. e.itself) (λ x. x) (λ x. x) (λ x. x)
    (λ x. x) (λ x. x) (λ x. x) (λ x. x) x)

-- a link again
abbrev pub link_step : BoundLink-F Test BoundFromItem BoundQuery BoundRow BoundSource BoundLink
    BoundGrouping BoundSelect → BoundLink
link_step x = roll-BoundLink (map-BoundLink Test BoundFromItem BoundQuery BoundRow BoundSource
    BoundLink BoundGrouping BoundSelect BoundExpr BoundFromItem BoundQuery BoundRow BoundSource
    BoundLink BoundGrouping BoundSelect (λ e. e.itself) (λ x. x) (λ x. x) (λ x. x) (λ x. x) (λ x. x)
    (λ x. x) (λ x. x) x)

-- a select again
abbrev pub select_step : BoundSelect-F Test BoundFromItem BoundQuery BoundRow BoundSource BoundLink
    BoundGrouping BoundSelect → BoundSelect
select_step x = roll-BoundSelect (map-BoundSelect Test BoundFromItem BoundQuery BoundRow BoundSource
    BoundLink BoundGrouping BoundSelect BoundExpr BoundFromItem BoundQuery BoundRow BoundSource
    BoundLink BoundGrouping BoundSelect (λ e. e.itself) (λ x. x) (λ x. x) (λ x. x) (λ x. x) (λ x. x)
    (λ x. x) (λ x. x) x)

-- an expression with its conjuncts
abbrev pub test_of : BoundExpr → Test
test_of = fold-BoundExpr Test BoundFromItem BoundQuery BoundRow BoundSource BoundLink BoundGrouping
    BoundSelect test_step item_step query_step row_step source_step link_step grouping_step
    select_step

-- the conjuncts of an expression, from the left
abbrev pub conjuncts_of : BoundExpr → List BoundExpr
conjuncts_of e = (test_of e).conjuncts

-- ---- how many expressions stand in the words of a test

-- the sum of several numbers
abbrev pub total : List ℕ → ℕ
total [] = 0
total (n ∷ ns) = n + total ns

-- anything counts one
abbrev pub one : {A : Type 0} → A → ℕ
one x = 1

-- a word counts one and its operands
abbrev pub weight_step : BoundExpr-F ℕ ℕ ℕ ℕ ℕ ℕ ℕ ℕ → ℕ
weight_step (BoundExpr-F.Operation word es) = suc (total es)
weight_step _ = 1

-- how many words and operands there are down to those whose conjuncts are their own
abbrev pub weight : BoundExpr → ℕ
weight = fold-BoundExpr ℕ ℕ ℕ ℕ ℕ ℕ ℕ ℕ weight_step one one one one one one one

-- the weight of several expressions together
abbrev pub weights : List BoundExpr → ℕ
weights es = total (map weight es)
