-- What a SELECT makes of the rows of its FROM. ISO/IEC 9075-2, 7.16 (query specification).
use Rattle.std.specs.Prelude.{List, Option, Some, None}
use Rattle.row_types.specs.Rows.{Row}
use Rattle.rel_algebra.specs.Tree.{Exprs}
use Rattle.rel_algebra.specs.World.{Called, Eval, Frame}
use Rattle.catalog_store.specs.View.{Grouping}
use Rattle.run_places.specs.Groups.{grouped_by, records_by}

-- a record of each row that the conjuncts keep, or of each group of them
abbrev pub made_of : Option Grouping → Called → Exprs → Exprs → List Row → Frame → List Row → Eval
    (List Row)
made_of None self list conjuncts outer f rows = records_by self list conjuncts outer f rows
made_of (Some g) self list conjuncts outer f rows = grouped_by self g conjuncts list outer f rows
