-- The columns of ORDER BY. ISO/IEC 9075-2, 10.10 (sort specification list) and 14.3 (cursor
-- specification).
use Rattle.std.specs.Prelude.{ℕ, true, List, [], ◌∷◌, ◌++◌}
use Rattle.syntax_trees.specs.declared.anchor.Ident.{Ident}
use Rattle.syntax_trees.specs.declared.query.SortSpecification.{SortSpecification}
use Rattle.row_types.specs.declared.sort_key.SortKey.{SortKey}
use Rattle.bound_trees.specs.declared.query.BoundQuery.{BoundQuery}
use Rattle.bound_trees.specs.declared.query.BoundQuery.TheVariants as bound
use Rattle.bind_faults.specs.declared.fault.FaultKind.TheVariants.{UnknownName, DuplicateName}
use Rattle.bind_faults.specs.Faults.{Noted, give, ◌>>◌, as_value, fault_if}
use Rattle.bind_sight.specs.declared.output.Output.{Output}
use Rattle.bind_sight.specs.declared.output.Hit.{Hit}
use Rattle.bind_sight.specs.declared.output.Hit.TheVariants.{Nowhere, Once, Twice}
use Rattle.bind_sight.specs.Columns.{hits}
use Rattle.bind_parts.specs.declared.typed.TypedQuery.{TypedQuery}
use Rattle.bind_parts.specs.Turns.{each_noted}

-- the place of the one output column of a name
abbrev pub place_at : Ident → Hit → Noted ℕ
place_at i Nowhere = fault_if true UnknownName i.anchor >> give 0
place_at i (Once place kind) = give place
place_at i Twice = fault_if true DuplicateName i.anchor >> give 0

-- a sort specification over the output column at a place
abbrev pub sort_key : SortSpecification → ℕ → SortKey
sort_key s place = record { place = place; descending = s.descending }

-- one sort key more; its name is that of exactly one output column
abbrev pub one_key : List Output → List SortKey → SortSpecification → Noted (List SortKey)
one_key columns so s = as_value (λ place. so ++ sort_key s place ∷ [])
    (place_at s.name (hits s.name.name columns))

-- the sort keys of ORDER BY in turn
abbrev pub keys_of : List Output → List SortSpecification → Noted (List SortKey)
keys_of columns order = each_noted (one_key columns) [] order

-- a query without ORDER BY is itself
abbrev pub in_order_of : BoundQuery → List SortKey → BoundQuery
in_order_of query [] = query
in_order_of query (k ∷ ks) = bound.Ordered query (k ∷ ks)

-- it has the same columns
abbrev pub in_order : TypedQuery → List SortKey → TypedQuery
in_order q keys = record { at = q.at; columns = q.columns; tree = in_order_of q.tree keys }

-- a query in the order that is written, with what is asked of each name
abbrev pub ordered_by : List SortSpecification → TypedQuery → Noted TypedQuery
ordered_by order q = as_value (in_order q) (keys_of q.columns order)
