-- What is written apart: of a list what is left of it, of a chain of operators its words and its
-- operands, and of a list of nodes their lines, from the top down, and those of their inner plans,
-- on the way back up.
use Rattle.std.specs.Prelude.{ℕ, ◌+◌, ◌-◌, Bool, true, false, not, ◌||◌, List, [], ◌∷◌, ◌++◌}
use Rattle.std.specs.Prelude.{length, codes, if◌then◌else◌}
use Rattle.std.specs.List.{flat_map}
use Rattle.rel_algebra.specs.declared.plan.Node.{Node}
use Rattle.rel_algebra.specs.Plan.{PlanTree, unit_row, apply, cross, left_outer, Nodes, no_node}
use Rattle.rel_algebra.specs.PlanText.{Text, indented}
use Rattle.rel_algebra.specs.PlanView.{Link, NodeTree, node_of}
use Rattle.plan_text.specs.ScalarText.{after, comma, operator_text, scalar_text, separated}
use Rattle.plan_text.specs.PlanLines.{Lines, nothing, beside, node_text, plan_lines, run_lines}

-- ---- lists of scalars

-- what stands before a text of a list, which may be the first
abbrev pub mark_text : Bool → Text
mark_text true = []
mark_text false = comma

-- what is left of a list, at its start or after one of its texts
abbrev pub rest_text : Bool → List Text → Text
rest_text true ts = separated comma ts
rest_text false ts = flat_map (after comma) ts

-- ---- chains of operators

-- the word of an operator with its bracket
abbrev pub opening : Link → Text
opening l = operator_text l.operator ++ codes "("

-- those of a chain's operators, the last one first
abbrev pub openings : List Link → Text
openings [] = []
openings (l ∷ ls) = openings ls ++ opening l

-- what stands right of an operator, up to the bracket of its word
abbrev pub closing : Link → Text
closing l = codes ", " ++ scalar_text l.operand ++ codes ")"

-- ---- lists of nodes

-- the line of a text
abbrev pub line : Text → ℕ → Text
line t depth = indented depth (t ++ codes "\n")

-- a node by itself: the text of its line, and the lines of its right side and of its inner plan
pub record Part : Type 0 where
  pub text : Text
  pub inner : Lines

-- what stands below the topmost node of a plan, without the lines of its input
abbrev pub further : PlanTree → Lines
further (apply when kind way inner input) = plan_lines inner
further (cross a b) = plan_lines b
further (left_outer nodes s n a b) = beside (plan_lines b) (run_lines nodes nothing)
further _ = nothing

-- whether a run has a node
abbrev pub has_node : Nodes → Bool
has_node no_node = false
has_node _ = true

-- a node over a plan, or, where it is in a run, that of the run, if it has one
abbrev pub parts_at : Bool → NodeTree → List Part
parts_at in_run n =
    if not in_run || has_node (n.below no_node)
    then (record { text = node_text (n.over unit_row); inner = further (n.over unit_row) } ∷ [])
    else []

-- the same of a node of the code
abbrev pub parts_of : Bool → Node → List Part
parts_of in_run n = parts_at in_run (node_of n)

-- the same of several
abbrev pub all_parts : Bool → List Node → List Part
all_parts in_run = flat_map (parts_of in_run)

-- the lines of nodes, the last of them topmost, from this depth on
abbrev pub heads : List Part → ℕ → Text
heads [] depth = []
heads (p ∷ ps) depth = heads ps depth ++ line p.text (depth + length ps)

-- the lines of what they run or join, that of the first of them at this depth
abbrev pub tails : List Part → ℕ → Text
tails [] depth = []
tails (p ∷ ps) depth = p.inner depth ++ tails ps (depth - 1)
