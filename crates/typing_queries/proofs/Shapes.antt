-- What is shown of parts without faults: the trees that they give are well typed in all that has
-- what is in sight.
use Rattle.std.proofs.Common.{◌≡◌, ℕ, ◌≤◌, true, false, List, [], ◌∷◌, ◌++◌, map, length, drop}
use Rattle.std.proofs.Common.{Option, Some}
use Rattle.sql_values.specs.declared.fold.FoldKind.{FoldKind}
use Rattle.bound_trees.specs.declared.expr.BoundExpr.{BoundExpr}
use Rattle.bind_kinds.specs.declared.kind.Kind.{Kind}
use Rattle.bind_sight.specs.declared.output.Output.{Output}
use Rattle.bind_sight.specs.Sight.{Seen, may_stand, inside_aggregate}
use Rattle.bind_parts.specs.declared.aggregates.Parts.{Parts}
use Rattle.bind_parts.specs.declared.from.Opened.{Opened}
use Rattle.bind_parts.specs.declared.typed.Operands.{Operands}
use Rattle.bind_parts.specs.declared.typed.Typed.{Typed}
use Rattle.bind_parts.specs.From.{row_level, on_level}
use Rattle.typing_trees.specs.Around.{Around}
use Rattle.typing_trees.specs.Queries.{kind_of, kinds_of, kinds_of_item, items_joined}
use Rattle.typing_trees.specs.Queries.{aggregate_kinds, nothing_joined, whole_row, FromRow}
use Rattle.typing_queries.proofs.Below.{Has, HasAll}
use Rattle.typing_queries.proofs.Sees.{Sees, ItemsIn}

-- ---- parts of a group

-- where aggregates may stand, their arguments are typed by what is in sight in them
abbrev pub Aggregating : Seen → Around → Type 0
Aggregating s inner = may_stand s.levels ≡ true → Sees (inside_aggregate s) inner

-- arguments of aggregates, and the kinds of these
abbrev pub Finished : Around → List BoundExpr → List FoldKind → List Kind → Type 0
Finished inner trees folds kinds = (ks : List Kind) ×
    (kinds_of inner (map kind_of trees) ≡ Some ks) × (aggregate_kinds ks folds ≡ Some kinds)

-- the innermost row has these kinds from a place on
abbrev pub Follows : List (List Kind) → ℕ → List Kind → Type 0
Follows [] n kinds = kinds ≡ []
Follows (r ∷ rs) n kinds = (more : List Kind) × (drop n r ≡ kinds ++ more)

-- After the parts there are others, of these kinds in the row of the group; where no aggregate may
-- stand there are none. What is claimed holds around rows that have them.
pub record Grown (inner : Around) (s : Seen) (before : Parts) (after : Parts)
    (Claim : Around → Type 0) : Type 0 where
  pub trees : List BoundExpr
  pub folds : List FoldKind
  pub kinds : List Kind
  pub later : after.trees ≡ before.trees ++ trees
  pub aggregates : after.aggregates ≡ before.aggregates ++ folds
  pub finished : Finished inner trees folds kinds
  pub as_many : length kinds ≡ length trees
  pub none : may_stand s.levels ≡ false → kinds ≡ []
  pub claim : (a : Around) → Sees s a → Follows a.rows (length before.trees) kinds → Claim a

-- a tree is of the kind that is known of it, or below
abbrev pub IsTyped : Typed → Around → Type 0
IsTyped t a = Has (kind_of t.tree a) t.head.kind

abbrev pub kinds_in : Operands → List Kind
kinds_in so = map (λ h. h.kind) so.heads

abbrev pub AreTyped : Operands → Around → Type 0
AreTyped so a = HasAll (kinds_of a (map kind_of so.trees)) (kinds_in so)

-- ---- queries

abbrev pub kinds_shown : List Output → List Kind
kinds_shown cs = map (λ c. c.kind) cs

-- The row of FROM so far: WHERE sees its items in all of it, and ON those from the last comma on in
-- its end.
pub record Joined (so : Opened) (row : FromRow) : Type 0 where
  pub width : so.width ≡ length (whole_row row)
  pub base : so.base ≡ length row.before
  pub first : so.first_item ≤ length so.items
  pub all : ItemsIn (row_level so) (whole_row row) so.items
  pub on : ItemsIn (on_level so) row.joined (on_level so).items

abbrev pub kinds_joined : Opened → Around → Option FromRow
kinds_joined so a = items_joined a nothing_joined (map kinds_of_item so.from)

abbrev pub Opens : Opened → Around → Type 0
Opens so a = (row : FromRow) × (kinds_joined so a ≡ Some row) × Joined so row
