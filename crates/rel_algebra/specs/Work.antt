-- How many steps a plan may take: each node counts, for each row that it takes, two and the nodes
-- of its scalars; a join counts the same for each pair too; and each row that the whole plan gives
-- counts one. Comparisons inside a sort or a grouping aren't counted.
use Rattle.std.specs.Prelude.{ℕ, ◌+◌, ◌*◌, List, [], ◌∷◌, ◌++◌, length}
use Rattle.row_types.specs.Tables.{rows_named}
use Rattle.row_types.specs.declared.cell.Cell.{Cell}
use Rattle.row_types.specs.Cells.{PlanRow, Whole, Poisoned}
use Rattle.rel_algebra.specs.Plain.{Inputs}
use Rattle.rel_algebra.specs.Plan.{Way, anew, once, lookup, found, tree_width, Scalar, constant}
use Rattle.rel_algebra.specs.Plan.{column, argument, word, Scalars, none, more, Kind, single}
use Rattle.rel_algebra.specs.Plan.{exists, member, aggregate, PlanTree, unit_row, scan, values}
use Rattle.rel_algebra.specs.Plan.{extend, apply, filter, keep, cross, left_outer, settle, group}
use Rattle.rel_algebra.specs.Plan.{sort, Nodes, no_node, extend_by, apply_by, sight, cells_of}
use Rattle.rel_algebra.specs.Plan.{apply_cells, settled, den, into}

-- the nodes of a scalar
abbrev mutual
  -- how many nodes a scalar has
  pub nodes_in : Scalar → ℕ
  nodes_in (constant v) = 1
  nodes_in (column level i) = 1
  nodes_in (argument i) = 1
  nodes_in (word w operands) = 1 + nodes_in_all operands

  -- how many several have
  pub nodes_in_all : Scalars → ℕ
  nodes_in_all none = 0
  nodes_in_all (more s ss) = nodes_in s + nodes_in_all ss

-- the nodes of the scalar of a kind
abbrev pub kind_nodes : Kind → ℕ
kind_nodes single = 0
kind_nodes exists = 0
kind_nodes (member s) = nodes_in s
kind_nodes (aggregate ags) = 0
kind_nodes (into k) = 0

-- one row of Unit is taken for each list
abbrev pub lists_work : List Scalars → ℕ
lists_work [] = 0
lists_work (ss ∷ lists) = 2 + nodes_in_all ss + lists_work lists

-- f of each row without poison, added up
abbrev pub over_rows : (List Cell → ℕ) → List PlanRow → ℕ
over_rows f [] = 0
over_rows f (Whole row ∷ rows) = f row + over_rows f rows
over_rows f (Poisoned area ∷ rows) = over_rows f rows

-- f of each pair
abbrev pub over_pairs : (List Cell → ℕ) → List PlanRow → List PlanRow → ℕ
over_pairs f left right = over_rows (λ l. over_rows (λ r. f (l ++ r)) right) left

-- the nodes of the scalars of a Lookup's keys
abbrev pub keys_nodes : List (ℕ × Scalar) → ℕ
keys_nodes [] = 0
keys_nodes (k ∷ keys) = nodes_in k.1 + keys_nodes keys

-- the searches for a row, one for each equality and one for the kind
abbrev pub way_nodes : Way → ℕ
way_nodes anew = 0
way_nodes once = 0
way_nodes (lookup keys) = keys_nodes keys + length keys + 1

-- Once has no when
abbrev pub when_nodes : Way → Scalar → ℕ
when_nodes anew when = nodes_in when
when_nodes once when = 0
when_nodes (lookup keys) when = nodes_in when

-- the inner plan is run and its list is taken for each row, or once
abbrev pub inside : Way → (List (List Cell) → ℕ) → List (List Cell) → List PlanRow → ℕ
inside anew f outer rows = over_rows (λ row. f (row ∷ outer)) rows
inside once f outer rows = f outer
inside (lookup keys) f outer rows = f outer

-- the same at one row
abbrev pub inside_row : Way → (List (List Cell) → ℕ) → List (List Cell) → List Cell → ℕ
inside_row anew f outer row = f (row ∷ outer)
inside_row once f outer row = 0
inside_row (lookup keys) f outer row = 0

abbrev mutual
  -- the steps of a plan, without its result's rows
  pub work_below : PlanTree → Inputs → List (List Cell) → ℕ
  work_below unit_row w outer = 2
  work_below (scan name n) w outer = length (rows_named name w.tables) * 2
  work_below (values lists) w outer = lists_work lists
  work_below (extend ss input) w outer =
      work_below input w outer + length (den input w outer) * (2 + nodes_in_all ss)
  work_below (apply when kind way inner input) w outer =
      work_below input w outer + length (den input w outer)
      * (2 + when_nodes way when + kind_nodes kind + way_nodes way)
      + inside way (λ o. work_below inner w o + length (den inner w o)) outer (den input w outer)
  work_below (filter s input) w outer =
      work_below input w outer + length (den input w outer) * (2 + nodes_in s)
  work_below (keep is input) w outer = work_below input w outer + length (den input w outer) * 2
  work_below (cross a b) w outer =
      work_below a w outer + work_below b w outer + length (den a w outer) * 2
      + length (den b w outer) * 2
      + over_pairs (λ row. 2) (settled (den a w outer)) (settled (den b w outer))
  work_below (left_outer nodes s n a b) w outer =
      work_below a w outer + work_below b w outer + length (den a w outer) * 2
      + length (den b w outer) * 2
      + over_pairs (λ row. 2 + nodes_in s + nodes_work nodes w outer row) (settled (den a w outer))
      (settled (den b w outer))
      + nodes_once nodes w outer
  work_below (settle input) w outer = work_below input w outer + length (den input w outer) * 2
  work_below (group keys ags input) w outer =
      work_below input w outer + length (den input w outer) * 2
  work_below (sort keys input) w outer = work_below input w outer + length (den input w outer) * 2

  -- the steps of a run of nodes on one row
  pub nodes_work : Nodes → Inputs → List (List Cell) → List Cell → ℕ
  nodes_work no_node w outer row = 0
  nodes_work (extend_by ss rest) w outer row =
      2 + nodes_in_all ss + nodes_work rest w outer (row ++ cells_of ss (sight w outer row))
  nodes_work (apply_by when kind way inner rest) w outer row =
      2 + when_nodes way when + kind_nodes kind + way_nodes way
      + inside_row way (λ o. work_below inner w o + length (den inner w o)) outer row
      + nodes_work rest w outer (row ++ apply_cells when kind (sight w outer row)
      (found way (tree_width inner) (sight w outer row) (den inner w (row ∷ outer))))

  -- of a run's inner plans those that are run once for all pairs
  pub nodes_once : Nodes → Inputs → List (List Cell) → ℕ
  nodes_once no_node w outer = 0
  nodes_once (extend_by ss rest) w outer = nodes_once rest w outer
  nodes_once (apply_by when kind way inner rest) w outer =
      inside way (λ o. work_below inner w o + length (den inner w o)) outer []
      + nodes_once rest w outer

-- the steps of a plan: those below, and one for each row that it gives
abbrev pub work : PlanTree → Inputs → List (List Cell) → ℕ
work p w outer = work_below p w outer + length (den p w outer)
