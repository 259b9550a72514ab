-- Subqueries in expressions: what each stands for, and what is asked of its query. ISO/IEC 9075-2,
-- 7.19 (subquery), 8.4 (in predicate) and 8.10 (exists predicate).
use Rattle.std.specs.Prelude.{◌==◌, Bool, true, false, not, List, [], ◌∷◌, ◌++◌, length}
use Rattle.syntax_trees.specs.declared.anchor.Anchor.{Anchor}
use Rattle.bound_trees.specs.declared.expr.BoundExpr.{BoundExpr}
use Rattle.bound_trees.specs.declared.expr.BoundExpr.TheVariants as bound
use Rattle.bind_faults.specs.declared.fault.Fault.{Fault}
use Rattle.bind_faults.specs.declared.fault.FaultKind.TheVariants.{WrongCount}
use Rattle.bind_faults.specs.Faults.{fault_if}
use Rattle.bind_kinds.specs.declared.kind.Kind.{Kind}
use Rattle.bind_kinds.specs.declared.kind.Kind.TheVariants.{Boolean, Null}
use Rattle.bind_kinds.specs.Kinds.{head_of, like_first}
use Rattle.bind_kinds.specs.Words.{opposite}
use Rattle.bind_sight.specs.declared.output.Output.{Output}
use Rattle.bind_parts.specs.declared.typed.Typed.{Typed}
use Rattle.bind_parts.specs.declared.typed.TypedQuery.{TypedQuery}
use Rattle.bind_parts.specs.Typed.{with_kind}

-- the kind of the one column; of another number of columns nothing is known
abbrev pub only : List Output → Kind
only [] = Null
only (c ∷ []) = c.kind
only (c ∷ d ∷ cs) = Null

-- one column, or a fault at the query
abbrev pub width_faults : TypedQuery → List Fault
width_faults q = fault_if (not (length q.columns == 1)) WrongCount q.at

-- a scalar subquery, at its query
abbrev pub single : TypedQuery → Typed
single q = with_kind (only q.columns) q.at (bound.Single q.tree)

-- EXISTS of a query, which gives a truth value
abbrev pub exists : Anchor → TypedQuery → Typed
exists at q = with_kind Boolean at (bound.Exists q.tree)

-- NOT IN is the opposite of IN
abbrev pub if_negated : Bool → BoundExpr → BoundExpr
if_negated false e = e
if_negated true e = opposite e

-- IN of a query or NOT IN, which gives a truth value
abbrev pub member : Anchor → Bool → Typed → TypedQuery → Typed
member at negated left q = with_kind Boolean at (if_negated negated (bound.In left.tree q.tree))

-- one column, of the kind of the left side; both are shown at the query
abbrev pub member_faults : Typed → TypedQuery → List Fault
member_faults left q = width_faults q ++ like_first (left.head ∷ head_of (only q.columns) q.at ∷ [])
