-- The rule region: an Apply of a chain over Unit becomes columns of its input.
use Rattle.std.specs.Prelude.{ℕ, true, List, [], ◌++◌, suc, zero}
use Rattle.sql_values.specs.declared.value.Value.TheVariants.{Bool as Truth}
use Rattle.rel_algebra.specs.Emit.{if_values, joined_nodes, width}
use Rattle.rel_algebra.specs.Joins.{places}
use Rattle.rel_algebra.specs.Plan.{Kind, Nodes, PlanTree, Scalar, aggregate, apply, apply_by}
use Rattle.rel_algebra.specs.Plan.{case_word, column, constant, cross, exists, extend, extend_by}
use Rattle.rel_algebra.specs.Plan.{filter, group, keep, kind_width, left_outer, member, more}
use Rattle.rel_algebra.specs.Plan.{no_node, none, scalar_count, scan, settle, single, sort, strict}
use Rattle.rel_algebra.specs.Plan.{unit_row, values, word, into, Scalars}
use Rattle.rel_algebra.specs.Renaming.{merged_row, own_row, place_in, places_in, renamed_kind}
use Rattle.rel_algebra.specs.Renaming.{renamed_scalar, renamed_scalars, renamed_tree, renamed_way}
use Rattle.rel_algebra.specs.Tree.{AnyOf}

-- nodes that widen a row, and the places of columns in the wider row
pub record Columns : Type 0 where
  -- on each row
  pub nodes : Nodes
  -- in the wider row
  pub places : List ℕ

-- with further nodes, which add k columns to a row of m columns
abbrev pub more_columns : Nodes → ℕ → ℕ → Columns → Columns
more_columns nodes k m c =
    record { nodes = joined_nodes c.nodes nodes; places = c.places ++ places m k }

-- the chain's columns after the n of its outer row
abbrev pub region_columns : PlanTree → ℕ → Columns
region_columns (extend ss t) n =
    let c = region_columns t n in let m = width c.nodes n in
    more_columns (extend_by (renamed_scalars ss (merged_row n c.places m)) no_node)
    (scalar_count ss) m c
region_columns (apply when kind way inner t) n =
    let c = region_columns t n in let m = width c.nodes n in let names = merged_row n c.places m in
    more_columns (apply_by (renamed_scalar when names) (renamed_kind kind names)
    (renamed_way way names) (renamed_tree inner names) no_node)
    (kind_width kind) m c
region_columns (keep is t) n =
    let c = region_columns t n in
    record { nodes = c.nodes; places = places_in c.places (width c.nodes n) is }
region_columns unit_row n = record { nodes = no_node; places = [] }
region_columns (scan name k) n = record { nodes = no_node; places = [] }
region_columns (values lists) n = record { nodes = no_node; places = [] }
region_columns (filter s t) n = record { nodes = no_node; places = [] }
region_columns (cross a b) n = record { nodes = no_node; places = [] }
region_columns (left_outer nodes s k a b) n = record { nodes = no_node; places = [] }
region_columns (settle t) n = record { nodes = no_node; places = [] }
region_columns (group keys ags t) n = record { nodes = no_node; places = [] }
region_columns (sort keys t) n = record { nodes = no_node; places = [] }

-- the scalar, where the when is true
abbrev pub where_true : Scalar → Scalar → Scalar
where_true (constant (Truth true)) s = s
where_true when s = word case_word (more when (more s none))

-- so many of the cells at these places, from the i-th on; the first area where not all are values
abbrev pub into_scalars : List ℕ → ℕ → ℕ → ℕ → Scalars
into_scalars outs m i zero = none
into_scalars outs m i (suc n) =
    more (if_values outs (column 0 (place_in outs m i))) (into_scalars outs m (suc i) n)

-- what the kind makes of the one row whose cells stand at these places
abbrev pub region_cells : Kind → List ℕ → ℕ → Scalars
region_cells single outs m = more (column 0 (place_in outs m 0)) none
region_cells exists outs m = more (if_values outs (constant (Truth true))) none
region_cells (member s) outs m =
    more (word (strict AnyOf) (more s (more (column 0 (place_in outs m 0)) none))) none
region_cells (aggregate ags) outs m = none
region_cells (into n) outs m = into_scalars outs m 0 n

-- each scalar, where the when is true
abbrev pub where_all : Scalar → Scalars → Scalars
where_all when none = none
where_all when (more s ss) = more (where_true when s) (where_all when ss)

-- the chain's columns, then the cells, and the places of the cells
abbrev pub region : Scalar → Kind → PlanTree → ℕ → Columns
region when kind inner n =
    let c = region_columns inner n in let m = width c.nodes n in
    let names = own_row (places 0 n) m in record {
      nodes = joined_nodes c.nodes
          (extend_by (where_all (renamed_scalar when names)
          (region_cells (renamed_kind kind names) c.places m)) no_node);
      places = places m (kind_width kind);
    }
