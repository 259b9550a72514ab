-- Expressions, alone and in lists and HAVING: how each is judged. ISO/IEC 9075-2, 6.6 (identifier
-- chain) and 6.26 (value expression).
use Rattle.std.specs.Prelude.{Bool, List, [], map}
use Rattle.syntax_trees.specs.declared.anchor.Anchor.{Anchor}
use Rattle.syntax_trees.specs.declared.expr.Expr.{Expr}
use Rattle.syntax_trees.specs.declared.expr.Link.{Link}
use Rattle.syntax_trees.specs.declared.query.Query.{Query}
use Rattle.bind_faults.specs.Faults.{Noted}
use Rattle.bind_sight.specs.Sight.{Seen}
use Rattle.bind_parts.specs.declared.aggregates.Parts.{Parts}
use Rattle.bind_parts.specs.declared.typed.Typed.{Typed}
use Rattle.bind_parts.specs.declared.typed.Operands.{Operands}
use Rattle.bind_parts.specs.Typed.{Beside, alone, no_parts, chained_typed, asked_by_chain}
use Rattle.bind_parts.specs.Subqueries.{member, member_faults}
use Rattle.bind_queries.specs.Judges.{Judge, look, all_of, made, over_query}
use Rattle.bind_queries.specs.Queries.{expression, judge_query}

-- an expression, before it is looked whether a fault is inside
abbrev pub inner : Expr → Judge
inner e = (expression e).judge

-- ---- in lists and HAVING, after the parts so far

-- an expression in a list or in HAVING
abbrev pub judge_after : Expr → Judge
judge_after e = look (inner e)

-- several expressions there, from left to right
abbrev pub all_after : List Expr → Seen → Parts → Noted (Beside Operands)
all_after es seen parts = all_of seen parts (map expression es)

-- the operands of a chain there, after its first
abbrev pub links_after : List Link → Seen → Parts → Noted (Beside Operands)
links_after ls seen parts = all_of seen parts (map (λ l. expression l.operand) ls)

-- a chain there, after its first operand
abbrev pub chain_after : List Link → Typed → Seen → Parts → Noted (Beside Typed)
chain_after ls first seen parts =
    made (chained_typed (map (λ l. l.operator) ls) (map (λ l. l.anchor) ls) first)
    (asked_by_chain (map (λ l. l.operator) ls) (map (λ l. l.anchor) ls) first)
    (links_after ls seen parts)

-- IN of a query or NOT IN, after its left side
abbrev pub member_after : Anchor → Bool → Typed → Query → Seen → Noted Typed
member_after at negated left q seen = alone
    (over_query (member at negated left) (member_faults left) no_parts (judge_query [] q seen))

-- ---- elsewhere

-- an expression that stands outside of lists and HAVING, where no group has parts
abbrev pub judge : Expr → Seen → Noted Typed
judge e seen = alone (judge_after e seen no_parts)
