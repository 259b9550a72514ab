-- Which plain trees the scalars and plans of the code stand for: a chain of operators stands for
-- nested words.
use Rattle.std.specs.Prelude.{ℕ, List, [], ◌∷◌, map}
use Rattle.sql_values.specs.declared.operators.Operator.{Operator}
use Rattle.rel_algebra.specs.declared.scalar.Scalar.{Scalar as ScalarCode, fold-Scalar}
use Rattle.rel_algebra.specs.declared.scalar.Scalar.TheOpen.{Scalar-F, ScalarLink-F}
use Rattle.rel_algebra.specs.declared.scalar.ScalarLink.{ScalarLink as LinkCode, fold-ScalarLink}
use Rattle.rel_algebra.specs.declared.scalar.UnaryWord.{UnaryWord}
use Rattle.rel_algebra.specs.declared.scalar.UnaryWord.TheVariants as unary
use Rattle.rel_algebra.specs.declared.scalar.ListWord.{ListWord}
use Rattle.rel_algebra.specs.declared.scalar.ListWord.TheVariants as listed
use Rattle.rel_algebra.specs.declared.plan.ScalarRow.{ScalarRow}
use Rattle.rel_algebra.specs.declared.plan.Leaf.{Leaf}
use Rattle.rel_algebra.specs.declared.plan.Leaf.TheVariants as leaf
use Rattle.rel_algebra.specs.declared.plan.ApplyKind.{ApplyKind}
use Rattle.rel_algebra.specs.declared.plan.ApplyKind.TheVariants as kind
use Rattle.rel_algebra.specs.declared.plan.Node.{Node, fold-Node}
use Rattle.rel_algebra.specs.declared.plan.Node.TheOpen.{Node-F, Plan-F}
use Rattle.rel_algebra.specs.declared.plan.Plan.{Plan, fold-Plan}
use Rattle.row_types.specs.declared.aggregate_column.AggregateColumn.{AggregateColumn}
use Rattle.rel_algebra.specs.Tree.{Aggregate, Operation, Negation, Arithmetic, Comparing, Modulo}
use Rattle.rel_algebra.specs.Tree.{CharLength, Substring, Cast, Assign, Opposite, NullTest}
use Rattle.rel_algebra.specs.Tree.{TrueTest, FalseTest, AnyOf}
use Rattle.rel_algebra.specs.Plan.{anew, Word, strict, and_word, or_word, case_word, coalesce_word}
use Rattle.rel_algebra.specs.Plan.{on_condition, Scalar, constant, column, argument, word, Scalars}
use Rattle.rel_algebra.specs.Plan.{none, more, Kind, single, exists, member, aggregate, into}
use Rattle.rel_algebra.specs.Plan.{PlanTree, unit_row}
use Rattle.rel_algebra.specs.Plan.{scan, values, extend, apply, filter, keep, cross, left_outer}
use Rattle.rel_algebra.specs.Plan.{settle, group, sort, Nodes, no_node, extend_by, apply_by}
use Rattle.rel_algebra.specs.WordView.{condition_word}

-- an operator with the plain scalar right of it
pub record Link : Type 0 where
  pub operator : Operator
  pub operand : Scalar

-- scalars of a list
abbrev pub scalars : List Scalar → Scalars
scalars [] = none
scalars (s ∷ ss) = more s (scalars ss)

-- operators with what stands right of them, from the left
abbrev pub chained : Scalar → List Link → Scalar
chained first [] = first
chained first (l ∷ ls) = chained
    (word (strict (Arithmetic l.operator)) (more first (more l.operand none))) ls

-- the operation of a word with one operand
abbrev pub unary_operation : UnaryWord → Operation
unary_operation unary.Negation = Negation
unary_operation unary.Opposite = Opposite
unary_operation unary.NullTest = NullTest
unary_operation unary.TrueTest = TrueTest
unary_operation unary.FalseTest = FalseTest
unary_operation unary.CharLength = CharLength
unary_operation (unary.Cast t) = Cast t
unary_operation (unary.Assign t) = Assign t

-- the word over a list of operands
abbrev pub list_word : ListWord → Word
list_word listed.Modulo = strict Modulo
list_word listed.Substring = strict Substring
list_word listed.AnyOf = strict AnyOf
list_word listed.And = and_word
list_word listed.Or = or_word
list_word listed.Case = case_word
list_word listed.Coalesce = coalesce_word

-- one level, with what stands inside already seen as its plain scalar
abbrev pub scalar_step : Scalar-F Scalar Link → Scalar
scalar_step (Scalar-F.Constant v) = constant v
scalar_step (Scalar-F.Column level i) = column level i
scalar_step (Scalar-F.Argument i) = argument i
scalar_step (Scalar-F.Unary w s) = word (strict (unary_operation w)) (more s none)
scalar_step (Scalar-F.Compare comparison a b) =
    word (strict (Comparing comparison)) (more a (more b none))
scalar_step (Scalar-F.Chain first rest) = chained first rest
scalar_step (Scalar-F.Listed w operands) = word (list_word w) (scalars operands)
scalar_step (Scalar-F.OnCondition w operands) =
    word (on_condition (condition_word w)) (scalars operands)

-- one link of a chain, with what stands inside already seen as its plain scalar
abbrev pub link_step : ScalarLink-F Scalar Link → Link
link_step l = record { operator = l.operator; operand = l.operand }

-- the plain scalar that one of the code stands for
abbrev pub scalar_of : ScalarCode → Scalar
scalar_of = fold-Scalar Scalar Link scalar_step link_step

-- the same of a link
abbrev pub link_of : LinkCode → Link
link_of = fold-ScalarLink Scalar Link scalar_step link_step

-- the same of several scalars
abbrev pub scalars_of : List ScalarCode → Scalars
scalars_of ss = scalars (map scalar_of ss)

-- the lists of Values
abbrev pub lists_of : List ScalarRow → List Scalars
lists_of rows = map (λ r. scalars_of r.scalars) rows

-- the plan that a leaf stands for
abbrev pub leaf_of : Leaf → PlanTree
leaf_of leaf.Unit = unit_row
leaf_of (leaf.Scan name columns) = scan name columns
leaf_of (leaf.Values rows) = values (lists_of rows)

-- aggregates of columns
abbrev pub aggregates_of : List AggregateColumn → List (Aggregate × ℕ)
aggregates_of columns = map (λ a. (a.kind, a.place)) columns

-- the kind that one of the code stands for
abbrev pub kind_of : ApplyKind → Kind
kind_of kind.Single = single
kind_of kind.Exists = exists
kind_of (kind.Member s) = member (scalar_of s)
kind_of (kind.Aggregate columns) = aggregate (aggregates_of columns)
kind_of (kind.Into columns) = into columns

-- what a node makes of the plan below it, and of a run of nodes one that has an Extend or an Apply
-- more at its lower end
pub record NodeTree : Type 0 where
  -- over a plan
  pub over : PlanTree → PlanTree
  -- at the lower end of a run
  pub below : Nodes → Nodes

-- a node that adds nothing to the rows of a run
abbrev pub acting : (PlanTree → PlanTree) → NodeTree
acting f = record { over = f; below = λ rest. rest }

-- the nodes of a run, the first of them lowest; only an Extend and an Apply are such nodes
abbrev pub run : List NodeTree → Nodes
run [] = no_node
run (n ∷ ns) = n.below (run ns)

-- one level, with what stands inside already seen as its plain tree
abbrev pub node_step : Node-F NodeTree PlanTree → NodeTree
node_step (Node-F.Extend ss) =
    record {
      over = λ input. extend (scalars_of ss) input;
      below = λ rest. extend_by (scalars_of ss) rest;
    }
node_step (Node-F.Apply s k inner) =
    record {
      over = λ input. apply (scalar_of s) (kind_of k) anew inner input;
      below = λ rest. apply_by (scalar_of s) (kind_of k) anew inner rest;
    }
node_step (Node-F.Filter s) = acting (λ input. filter (scalar_of s) input)
node_step (Node-F.Keep places) = acting (λ input. keep places input)
node_step (Node-F.Cross right) = acting (λ input. cross input right)
node_step (Node-F.LeftOuter nodes s n right) =
    acting (λ input. left_outer (run nodes) (scalar_of s) n input right)
node_step Node-F.Settle = acting (λ input. settle input)
node_step (Node-F.Group places aggregates) =
    acting (λ input. group places (aggregates_of aggregates) input)
node_step (Node-F.Sort keys) = acting (λ input. sort keys input)

-- nodes over an input, the first of them lowest
abbrev pub all_over : List NodeTree → PlanTree → PlanTree
all_over [] input = input
all_over (n ∷ ns) input = all_over ns (n.over input)

-- a leaf with its nodes over it
abbrev pub plan_step : Plan-F NodeTree PlanTree → PlanTree
plan_step p = all_over p.nodes (leaf_of p.leaf)

-- what a node of the code does to a plan and to a run
abbrev pub node_of : Node → NodeTree
node_of = fold-Node NodeTree PlanTree node_step plan_step

-- a node over its input
abbrev pub with_node : Node → PlanTree → PlanTree
with_node n input = (node_of n).over input

-- nodes over an input, the first of them lowest
abbrev pub with_nodes : List Node → PlanTree → PlanTree
with_nodes ns input = all_over (map node_of ns) input

-- nodes as a run that is done on each row
abbrev pub run_of : List Node → Nodes
run_of ns = run (map node_of ns)

-- the plain plan that one of the code stands for
abbrev pub tree_of : Plan → PlanTree
tree_of = fold-Plan NodeTree PlanTree node_step plan_step
