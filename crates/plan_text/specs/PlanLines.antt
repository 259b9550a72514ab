-- The lines of a plan. A node stands above its input, and both above the plan that the node runs or
-- joins: that is two spaces further in, and comes after the input. Each line ends in LF.
use Rattle.std.specs.Prelude.{ℕ, suc, [], ◌++◌, map, codes, if◌then◌else◌}
use Rattle.row_types.specs.declared.sort_key.SortKey.{SortKey}
use Rattle.rel_algebra.specs.Tree.{Aggregate, Count, Sum, Avg, Min, Max}
use Rattle.rel_algebra.specs.Plan.{Scalars, Kind, single, exists, member, aggregate, into, PlanTree}
use Rattle.rel_algebra.specs.Plan.{unit_row, scan, values, extend, apply, filter, keep, cross}
use Rattle.rel_algebra.specs.Plan.{left_outer, settle, group, sort, Nodes, no_node, extend_by}
use Rattle.rel_algebra.specs.Plan.{apply_by}
use Rattle.rel_algebra.specs.PlanText.{Text, Texts, way_text, indented}
use Rattle.plan_text.specs.ScalarText.{separated, spaced, comma, place_text, scalar_text}
use Rattle.plan_text.specs.ScalarText.{scalar_texts}

-- ---- the text of one node

-- which aggregate
abbrev pub fold_text : Aggregate → Text
fold_text Count = codes "count"
fold_text Sum = codes "sum"
fold_text Avg = codes "avg"
fold_text Min = codes "min"
fold_text Max = codes "max"

-- an aggregate of a column
abbrev pub aggregate_text : Aggregate × ℕ → Text
aggregate_text a = fold_text a.0 ++ codes " " ++ place_text a.1

-- a column by which rows are ordered
abbrev pub key_text : SortKey → Text
key_text key = place_text key.place ++ (if key.descending then codes " desc" else codes " asc")

-- a row of a Values
abbrev pub row_text : Scalars → Text
row_text ss = separated comma (scalar_texts ss)

-- what an Apply makes of the rows of its inner plan
abbrev pub kind_text : Kind → Text
kind_text single = codes "scalar"
kind_text exists = codes "exists"
kind_text (member s) = codes "member " ++ scalar_text s
kind_text (aggregate ags) = codes "aggregate" ++ spaced comma (map aggregate_text ags)
kind_text (into n) = codes "into"

-- the texts of which those of Apply, Once and Lookup are made
abbrev pub texts : Texts
texts = record { scalar = scalar_text; kind = kind_text; place = place_text }

-- the topmost node of a plan, or its leaf
abbrev pub node_text : PlanTree → Text
node_text unit_row = codes "Unit"
node_text (scan name n) = codes "Scan " ++ name
node_text (values rows) = codes "Values" ++ spaced (codes "; ") (map row_text rows)
node_text (extend ss input) = codes "Extend" ++ spaced comma (scalar_texts ss)
node_text (apply when kind way inner input) = way_text texts when kind way
node_text (filter s input) = codes "Filter " ++ scalar_text s
node_text (keep is input) = codes "Keep" ++ spaced comma (map place_text is)
node_text (cross a b) = codes "Product cross"
node_text (left_outer nodes s n a b) = codes "Product left " ++ scalar_text s
node_text (settle input) = codes "Settle"
node_text (group is ags input) = codes "Group [" ++ separated comma (map place_text is) ++
    codes "]" ++ spaced comma (map aggregate_text ags)
node_text (sort keys input) = codes "Sort" ++ spaced comma (map key_text keys)

-- ---- lines

-- lines, by how far in the first of them stands
abbrev pub Lines : Type 0
Lines = ℕ → Text

-- no line
abbrev pub nothing : Lines
nothing depth = []

-- lines, and after them others as far in
abbrev pub beside : Lines → Lines → Lines
beside a b depth = a depth ++ b depth

-- the line of a text, and below it lines that stand one step further in
abbrev pub over : Text → Lines → Lines
over t inside depth = indented depth (t ++ codes "\n") ++ inside (suc depth)

-- a plan, by the lines below its topmost node
abbrev pub whole : PlanTree → Lines → Lines
whole plan inside = over (node_text plan) inside

abbrev mutual
  -- What stands below the topmost node of a plan: its input, or its left side and then its right
  -- one; and then its inner plan. That of a LEFT JOIN is the nodes that are run on each pair.
  pub below : PlanTree → Lines
  below unit_row = nothing
  below (scan name n) = nothing
  below (values rows) = nothing
  below (extend ss input) = whole input (below input)
  below (apply when kind way inner input) =
      beside (whole input (below input)) (whole inner (below inner))
  below (filter s input) = whole input (below input)
  below (keep is input) = whole input (below input)
  below (cross a b) = beside (whole a (below a)) (whole b (below b))
  below (left_outer nodes s n a b) =
      beside (whole a (below a)) (beside (whole b (below b)) (run_lines nodes nothing))
  below (settle input) = whole input (below input)
  below (group is ags input) = whole input (below input)
  below (sort keys input) = whole input (below input)

  -- a run of nodes, the last of them topmost, over the lines of their input
  pub run_lines : Nodes → Lines → Lines
  run_lines no_node input = input
  run_lines (extend_by ss rest) input =
      run_lines rest (over (node_text (extend ss unit_row)) input)
  run_lines (apply_by when kind way inner rest) input =
      run_lines rest (over (way_text texts when kind way)
      (beside input (whole inner (below inner))))

-- the lines of a plan
abbrev pub plan_lines : PlanTree → Lines
plan_lines plan = whole plan (below plan)

-- the text of a plan
abbrev pub plan_text : PlanTree → Text
plan_text plan = plan_lines plan 0
