-- Worked rows of the text of plans. T has two columns, D has three.
use Rattle.std.specs.Prelude.{◌≡◌, true, [], ◌∷◌, ◌++◌, codes, refl, Some, None}
use Rattle.std.specs.Fmt.{digits}
use lib.Utf8.{encode}
use Rattle.sql_values.specs.declared.value.Value.TheVariants.{Null, Str, Bool as Truth}
use Rattle.sql_values.specs.declared.value.SqlType.TheVariants.{Integer, Varchar}
use Rattle.sql_values.specs.declared.operators.Operator.TheVariants.{Add, Divide, Concatenate}
use Rattle.rel_algebra.specs.Tree.{Arithmetic, Cast, Assign, AnyOf, CharLength, Count, Sum}
use Rattle.rel_algebra.specs.Tree.{Select, Values, Table, Cross, Literal, Column, NoExpr}
use Rattle.rel_algebra.specs.Tree.{MoreRows, NoRow, State, NotFound}
use Rattle.rel_algebra.specs.OnConditions.{text_item, matches_word, class_word, item_word}
use Rattle.rel_algebra.specs.OnConditions.{push_word, raise_word}
use Rattle.rel_algebra.specs.Plan.{constant, column, argument, word, more, none, strict}
use Rattle.rel_algebra.specs.Plan.{on_condition, exists, single, member, aggregate, into, anew}
use Rattle.rel_algebra.specs.Plan.{once, lookup, PlanTree, unit_row, scan, extend, apply, filter}
use Rattle.rel_algebra.specs.Plan.{group, settle, left_outer, apply_by, extend_by, no_node}
use Rattle.rel_algebra.specs.PlanExamples.{planned_as, inverses, sums_of_keys, keys_where, same}
use Rattle.rel_algebra.specs.PlanExamples.{sums, number, two, int, t_name, d_name, only, both_of}
use Rattle.rel_algebra.specs.PlanExamples.{equal, col}
use Rattle.plan_text.specs.ScalarText.{scalar_text}
use Rattle.plan_text.specs.PlanLines.{plan_text}
use Rattle.plan_text.specs.NodeCounts.{lookups, onces}
use Rattle.plan_text.specs.Explained.{explained_text}

-- ---- plans of queries

-- a call of inv (x), RETURN 100 / x: its argument is a column
pub call_lines : plan_text (planned_as inverses) ≡
    codes "Keep #3\n  Extend div(100, #2)\n    Extend #1\n      Scan T\n"
unfolding digits
call_lines = refl

-- an inner plan stands after the input and as far in; ^1.2 is column 2 of the row outside it
pub sum_lines : plan_text (planned_as sums_of_keys) ≡
    codes "Keep #4\n  Extend case(and(or(isnull(#3), TRUE)), #3)\n" ++
    codes "    Apply TRUE aggregate sum #0\n      Extend #0\n        Scan T\n" ++
    codes "      Keep #2\n        Filter lt(0, div(10, #2))\n" ++
    codes "          Filter eq(#1, ^1.2)\n            Scan D\n"
unfolding digits
sum_lines = refl

-- EXISTS
pub exists_lines : plan_text (planned_as (keys_where same)) ≡
    codes "Keep #0\n  Filter #2\n    Apply TRUE exists\n      Scan T\n" ++
    codes "      Keep #2\n        Filter eq(#1, ^1.0)\n          Scan D\n"
unfolding digits
exists_lines = refl

-- LEFT JOIN, GROUP BY and ORDER BY DESC: the left side stands before the right one
pub join_lines : plan_text (planned_as sums) ≡
    codes "Sort #1 desc\n  Keep #0, #1\n    Filter and(or(isnull(#1), TRUE))\n" ++
    codes "      Group [#0] sum #1\n        Keep #0, #4\n" ++
    codes "          Product left and(istrue(eq(#3, #0)))\n            Scan T\n            Scan D\n"
unfolding digits
join_lines = refl

-- VALUES (2, 10), (1, NULL), (3, 0)
pub values_lines : plan_text (planned_as (Values (MoreRows (two (number 2) (number 10))
    (MoreRows (two (number 1) (Literal Null)) (MoreRows (two (number 3) (number 0)) NoRow))))) ≡
    codes "Values 2, 10; 1, NULL; 3, 0\n"
unfolding digits
values_lines = refl

-- SELECT t.k, d.k FROM t, d
pub cross_lines : plan_text (planned_as (Select (two (Column 0 0) (Column 0 2))
    (Cross (Table t_name) (Table d_name)) NoExpr)) ≡
    codes "Keep #0, #2\n  Product cross\n    Scan T\n    Scan D\n"
unfolding digits
cross_lines = refl

-- ---- nodes

-- nodes that are run on each pair stand as the inner plan of a LEFT JOIN, without an input
pub pair_lines : plan_text (left_outer (apply_by (constant (Truth true)) exists anew
    (filter (equal (col 0) (column 1 0)) (scan d_name 3)) (extend_by (only (col 1)) no_node))
    (col 6) 3 (scan t_name 2) (scan d_name 3)) ≡
    codes "Product left #6\n  Scan T\n  Scan D\n  Extend #1\n    Apply TRUE exists\n" ++
    codes "      Filter eq(#0, ^1.0)\n        Scan D\n"
unfolding digits
pair_lines = refl

-- a Once has no when; its inner plan uses no outer column
pub once_lines : plan_text (apply (constant (Truth true)) single once (scan t_name 2) unit_row) ≡
    codes "Once scalar\n  Unit\n  Scan T\n"
once_lines = refl

-- the keys of a Lookup stand last
pub lookup_lines : plan_text (apply (col 0) (aggregate ((Count, 2) ∷ (Sum, 2) ∷ []))
    (lookup ((1, col 1) ∷ [])) (scan d_name 3) (scan t_name 2)) ≡
    codes "Lookup #0 aggregate count #2, sum #2 [#1 = #1]\n  Scan T\n  Scan D\n"
unfolding digits
lookup_lines = refl

-- the kinds member and into
pub kind_lines : plan_text (apply (constant Null) (member (col 0)) anew (scan d_name 3)
    (apply (constant (Truth true)) (into 2) anew (scan d_name 3) unit_row)) ≡
    codes "Apply NULL member #0\n  Apply TRUE into\n    Unit\n    Scan D\n  Scan D\n"
unfolding digits
kind_lines = refl

-- a list without items leaves no space
pub bare_lines : plan_text (group [] [] (extend none (settle unit_row))) ≡
    codes "Group []\n  Extend\n    Settle\n      Unit\n"
bare_lines = refl

-- ---- scalars

-- a text, whose quote marks are doubled, and an argument
pub text_row : scalar_text (word (strict (Arithmetic Concatenate))
    (both_of (constant (Str (codes "a'b"))) (argument 0))) ≡ codes "concat('a''b', $0)"
unfolding digits encode
text_row = refl

-- a chain of operators is nested words
pub chain_row : scalar_text (word (strict (Arithmetic Add)) (both_of
    (word (strict (Arithmetic Divide)) (both_of (col 0) (constant (int 2)))) (col 1))) ≡
    codes "add(div(#0, 2), #1)"
unfolding digits
chain_row = refl

-- words with a type, and IN over a list
pub typed_row : scalar_text (word (strict AnyOf)
    (more (word (strict CharLength) (only (word (strict (Cast (Varchar 5))) (only (column 2 0)))))
    (both_of (word (strict (Assign Integer)) (only (col 3))) (constant (int 7))))) ≡
    codes "anyof(length(cast:VARCHAR(5)(^2.0)), assign:INTEGER(#3), 7)"
unfolding digits
typed_row = refl

-- words over a cell that may be a condition
pub condition_row : scalar_text (word (on_condition (push_word (codes "45000")))
    (both_of (constant (Str (codes "bad row"))) (word (on_condition raise_word) (only (col 0))))) ≡
    codes "push:45000('bad row', raise(#0))"
unfolding digits encode
condition_row = refl

-- which conditions they ask for
pub asking_row : scalar_text (word (on_condition (matches_word (State (codes "22012"))))
    (only (word (on_condition (matches_word NotFound)) (both_of
    (word (on_condition (class_word (codes "22"))) (only (col 0)))
    (word (on_condition (item_word text_item)) (both_of (col 1) (col 0))))))) ≡
    codes "matches:SQLSTATE '22012'(matches:NOT FOUND(class:22(#0), item:text(#1, #0)))"
unfolding digits
asking_row = refl

-- ---- counts

-- a Lookup over a Once, under whose inner plan another Once stands
abbrev pub counted_plan : PlanTree
counted_plan = apply (col 0) exists (lookup []) (scan d_name 3)
    (apply (constant (Truth true)) single once
    (apply (constant (Truth true)) single once (scan t_name 2) unit_row) (scan t_name 2))

-- inner plans count too
pub lookups_counted : lookups counted_plan ≡ 1
lookups_counted = refl

-- and inner plans of inner plans
pub onces_counted : onces counted_plan ≡ 2
onces_counted = refl

-- ---- replies to EXPLAIN

-- SELECT k, inv(a) FROM t, where inv has a plan
pub by_plan_reply : explained_text 1 0 (Some (planned_as inverses)) ≡
    codes "inlined 1 interpreted 0 apply 0 lookup 0 once 0\n" ++
    codes "Keep #3\n  Extend div(100, #2)\n    Extend #1\n      Scan T\n00000\n"
unfolding digits
by_plan_reply = refl

-- the nodes of a plan are counted, with those of inner plans
pub counted_reply : explained_text 0 0 (Some (apply (constant (Truth true)) exists anew
    (apply (constant (Truth true)) single once (scan d_name 3) unit_row) (scan t_name 2))) ≡
    codes "inlined 0 interpreted 0 apply 1 lookup 0 once 1\nApply TRUE exists\n  Scan T\n" ++
    codes "  Once scalar\n    Unit\n    Scan D\n00000\n"
unfolding digits
counted_reply = refl

-- a query that calls two functions, of which one has no plan
pub by_row_reply : explained_text 1 1 None ≡
    codes "inlined 1 interpreted 1 apply 0 lookup 0 once 0\nrow by row\n00000\n"
unfolding digits
by_row_reply = refl
