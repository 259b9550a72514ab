-- Plans that are well formed, kinds of values aside: each column, outer column and argument that
-- they name is there, the lists of a Values have one length, and a plan that is judged as one value
-- has one column.
use Rattle.std.specs.Prelude.{◌≡◌, ℕ, zero, suc, ◌+◌, ◌&&◌, Bool, true, false, nat_eq, List, []}
use Rattle.std.specs.Prelude.{◌∷◌, length}
use Rattle.sql_values.specs.declared.value.Value.TheVariants.{Bool as Truth}
use Rattle.rel_algebra.specs.Emit.{plan, routine_plan, scalar_count, top, width}
use Rattle.rel_algebra.specs.Joins.{query_width, rows_width}
use Rattle.rel_algebra.specs.Plain.{all_even}
use Rattle.rel_algebra.specs.Plan.{Kind, Nodes, PlanTree, Scalar, Scalars, aggregate, apply}
use Rattle.rel_algebra.specs.Plan.{apply_by, argument, column, constant, cross, exists, extend}
use Rattle.rel_algebra.specs.Plan.{extend_by, filter, group, keep, kind_width, left_outer, member}
use Rattle.rel_algebra.specs.Plan.{more, no_node, none, scan, settle, single, sort, unit_row}
use Rattle.rel_algebra.specs.Plan.{values, word, Way, anew, once, lookup, found_width, into}
use Rattle.rel_algebra.specs.Removal.{less, lists_width, tree_width, tree_within}
use Rattle.rel_algebra.specs.Tree.{Aggregate, And, Call, CallSelf, Case, CaseOf, Chain, Coalesce}
use Rattle.rel_algebra.specs.Tree.{Column, Cross, Derived, Exists, Expr, Exprs, From, Returned}
use Rattle.rel_algebra.specs.Tree.{Grouped, In, Inner, LeftOuter, Links, Literal, MoreExprs}
use Rattle.rel_algebra.specs.Tree.{MoreLinks, MoreRows, NoExpr, NoLink, NoRow, Operate, Or, Ordered}
use Rattle.rel_algebra.specs.Tree.{Query, Routine, Rows, Select, Single, Table, Values, Variable}
use Rattle.rel_algebra.specs.Tree.{count, parameters_of}
use Rattle.rel_algebra.specs.Tree.{Function, Perhaps, Without, With, Variables, NoVariable}
use Rattle.rel_algebra.specs.Tree.{MoreVariables, Stmt, Compound, If, SearchedCase, SimpleCase, Set}
use Rattle.rel_algebra.specs.Tree.{SelectInto, Signal, Resignal, GetStatementItems}
use Rattle.rel_algebra.specs.Tree.{GetConditionItems, Leave, Return, Stmts, NoStmt, MoreStmts}
use Rattle.rel_algebra.specs.Tree.{Branches, NoBranch, MoreBranches, Handlers, NoHandler}
use Rattle.rel_algebra.specs.Tree.{MoreHandlers}
use Rattle.row_types.specs.declared.sort_key.SortKey.{SortKey}

-- a column that a row has: the widths are those of the rows in sight, the innermost first
abbrev pub has_column : List ℕ → ℕ → ℕ → Bool
has_column [] d i = false
has_column (n ∷ ns) zero i = less i n
has_column (n ∷ ns) (suc d) i = has_column ns d i

-- on rows of these widths, the row itself first, and with so many arguments
abbrev mutual
  -- a scalar whose columns and arguments are there
  pub scalar_fits : Scalar → List ℕ → ℕ → Bool
  scalar_fits (constant v) ws ps = true
  scalar_fits (column level i) ws ps = has_column ws level i
  scalar_fits (argument i) ws ps = less i ps
  scalar_fits (word w ss) ws ps = scalars_fit ss ws ps

  -- several such scalars
  pub scalars_fit : Scalars → List ℕ → ℕ → Bool
  scalars_fit none ws ps = true
  scalars_fit (more s ss) ws ps = scalar_fits s ws ps && scalars_fit ss ws ps

-- places of a row of n columns
abbrev pub columns_fit : List ℕ → ℕ → Bool
columns_fit [] n = true
columns_fit (i ∷ is) n = less i n && columns_fit is n

-- aggregates of columns of a row of n
abbrev pub aggregates_fit : List (Aggregate × ℕ) → ℕ → Bool
aggregates_fit [] n = true
aggregates_fit (a ∷ ags) n = less a.1 n && aggregates_fit ags n

-- sort keys of a row of n columns
abbrev pub keys_fit : List SortKey → ℕ → Bool
keys_fit [] n = true
keys_fit (key ∷ keys) n = less key.place n && keys_fit keys n

-- lists of k scalars, each of which fits
abbrev pub lists_fit : List Scalars → ℕ → List ℕ → ℕ → Bool
lists_fit [] k ws ps = true
lists_fit (ss ∷ lists) k ws ps = (nat_eq (scalar_count ss) k && scalars_fit ss ws ps)
    && lists_fit lists k ws ps

-- what is judged as one value has one column, and the places of aggregates are there
abbrev pub kind_fits : Kind → ℕ → List ℕ → ℕ → Bool
kind_fits single n ws ps = nat_eq n 1
kind_fits exists n ws ps = true
kind_fits (member s) n ws ps = scalar_fits s ws ps && nat_eq n 1
kind_fits (aggregate ags) n ws ps = aggregates_fit ags n
kind_fits (into k) n ws ps = nat_eq n k

-- keys of an inner plan of n columns, whose scalars fit
abbrev pub lookup_fits : List (ℕ × Scalar) → ℕ → List ℕ → ℕ → Bool
lookup_fits [] n ws ps = true
lookup_fits (k ∷ keys) n ws ps = (less k.0 n && scalar_fits k.1 ws ps) && lookup_fits keys n ws ps

-- the literal TRUE
abbrev pub is_true_constant : Scalar → Bool
is_true_constant (constant (Truth true)) = true
is_true_constant _ = false

-- what is run once uses no outer column
abbrev pub way_fits : Way → Scalar → PlanTree → List ℕ → ℕ → Bool
way_fits anew when inner ws ps = true
way_fits once when inner ws ps = is_true_constant when && tree_within inner 0
way_fits (lookup keys) when inner ws ps =
    lookup_fits keys (tree_width inner) ws ps && tree_within inner 0

-- under rows outside of these widths
abbrev mutual
  -- a plan whose names are there, under rows outside of these widths
  pub tree_fits : PlanTree → (List ℕ → ℕ) → List ℕ → ℕ → Bool
  tree_fits unit_row S ws ps = true
  tree_fits (scan name n) S ws ps = nat_eq n (S name)
  tree_fits (values lists) S ws ps = lists_fit lists (lists_width lists) (0 ∷ ws) ps
  tree_fits (extend ss input) S ws ps =
      scalars_fit ss (tree_width input ∷ ws) ps && tree_fits input S ws ps
  tree_fits (apply when kind way inner input) S ws ps =
      (scalar_fits when (tree_width input ∷ ws) ps
      && (way_fits way when inner (tree_width input ∷ ws) ps
      && kind_fits kind (found_width way (tree_width inner)) (tree_width input ∷ ws) ps))
      && (tree_fits inner S (tree_width input ∷ ws) ps && tree_fits input S ws ps)
  tree_fits (filter s input) S ws ps =
      scalar_fits s (tree_width input ∷ ws) ps && tree_fits input S ws ps
  tree_fits (keep is input) S ws ps = columns_fit is (tree_width input) && tree_fits input S ws ps
  tree_fits (cross a b) S ws ps = tree_fits a S ws ps && tree_fits b S ws ps
  tree_fits (left_outer nodes s n a b) S ws ps =
      (nodes_fit nodes S (tree_width a + n) ws ps
      && scalar_fits s (width nodes (tree_width a + n) ∷ ws) ps)
      && (nat_eq (tree_width b) n && (tree_fits a S ws ps && tree_fits b S ws ps))
  tree_fits (settle input) S ws ps = tree_fits input S ws ps
  tree_fits (group keys ags input) S ws ps =
      (columns_fit keys (tree_width input) && aggregates_fit ags (tree_width input))
      && tree_fits input S ws ps
  tree_fits (sort keys input) S ws ps = keys_fit keys (tree_width input) && tree_fits input S ws ps

  -- on rows of m columns
  pub nodes_fit : Nodes → (List ℕ → ℕ) → ℕ → List ℕ → ℕ → Bool
  nodes_fit no_node S m ws ps = true
  nodes_fit (extend_by ss rest) S m ws ps =
      scalars_fit ss (m ∷ ws) ps && nodes_fit rest S (m + scalar_count ss) ws ps
  nodes_fit (apply_by when kind way inner rest) S m ws ps =
      (scalar_fits when (m ∷ ws) ps
      && (way_fits way when inner (m ∷ ws) ps && kind_fits kind (found_width way (tree_width inner))
      (m ∷ ws) ps))
      && (tree_fits inner S (m ∷ ws) ps && nodes_fit rest S (m + kind_width kind) ws ps)

-- what queries keep that are well typed: a scalar or IN subquery has one column, the places of
-- ORDER BY are there, all rows of VALUES have one length, and the columns that are grouped are the
-- grouping columns and one for each aggregate
abbrev mutual
  -- an expression whose queries have these shapes
  pub Shaped : Expr → (List ℕ → ℕ) → Type 0
  Shaped (Literal v) S = Unit {0}
  Shaped (Column d i) S = Unit {0}
  Shaped (Variable i) S = Unit {0}
  Shaped (Chain x links) S = Shaped x S × ShapedLinks links S
  Shaped (Operate op es) S = ShapedAll es S
  Shaped (And es) S = ShapedAll es S
  Shaped (Or es) S = ShapedAll es S
  Shaped (Case arms) S = ShapedAll arms S
  Shaped (CaseOf x test result arms) S = Shaped x S × Shaped test S × Shaped result S
      × ShapedAll arms S
  Shaped (Coalesce es) S = ShapedAll es S
  Shaped (In x q) S = Shaped x S × (query_width q S ≡ 1) × ShapedQuery q S
  Shaped (Exists q) S = ShapedQuery q S
  Shaped (Single q) S = (query_width q S ≡ 1) × ShapedQuery q S
  Shaped (Call name r es) S = ShapedBody r S × ShapedAll es S
  Shaped (CallSelf types es) S = Unit {0}

  -- the operands of a chain
  pub ShapedLinks : Links → (List ℕ → ℕ) → Type 0
  ShapedLinks NoLink S = Unit {0}
  ShapedLinks (MoreLinks operator x links) S = Shaped x S × ShapedLinks links S

  -- several expressions
  pub ShapedAll : Exprs → (List ℕ → ℕ) → Type 0
  ShapedAll NoExpr S = Unit {0}
  ShapedAll (MoreExprs x es) S = Shaped x S × ShapedAll es S

  -- the body of a called function
  pub ShapedBody : Routine → (List ℕ → ℕ) → Type 0
  ShapedBody (Returned types returns x) S = Shaped x S
  ShapedBody (Function false types returns null_call statement) S = ShapedStmt statement S
  ShapedBody _ S = ⊥

  -- an expression that may be left out
  pub ShapedPerhaps : Perhaps → (List ℕ → ℕ) → Type 0
  ShapedPerhaps Without S = Unit {0}
  ShapedPerhaps (With x) S = Shaped x S

  -- declarations
  pub ShapedVariables : Variables → (List ℕ → ℕ) → Type 0
  ShapedVariables NoVariable S = Unit {0}
  ShapedVariables (MoreVariables k t default others) S = ShapedPerhaps default S
      × ShapedVariables others S

  -- a statement in form, whose SELECT INTO has one target for each column
  pub ShapedStmt : Stmt → (List ℕ → ℕ) → Type 0
  ShapedStmt (Compound atomic variables cursors handlers statements) S =
      ShapedVariables variables S × ShapedHandlers handlers S × ShapedStmts statements S
  ShapedStmt (If branches otherwise) S = ShapedBranches branches S × ShapedStmts otherwise S
  ShapedStmt (SearchedCase branches otherwise) S = ShapedBranches branches S
      × ShapedStmts otherwise S
  ShapedStmt (SimpleCase x branches otherwise) S = Shaped x S × ShapedBranches branches S
      × ShapedStmts otherwise S
  ShapedStmt (Set t x) S = Shaped x S
  ShapedStmt (SelectInto q targets) S = (query_width q S ≡ length targets) × ShapedQuery q S
  ShapedStmt (Signal state text) S = ShapedPerhaps text S
  ShapedStmt (Resignal state text) S = ShapedPerhaps text S
  ShapedStmt (GetStatementItems area reads) S = Unit {0}
  ShapedStmt (GetConditionItems area number reads) S = Shaped number S
  ShapedStmt (Leave outwards) S = Unit {0}
  ShapedStmt (Return x) S = Shaped x S
  ShapedStmt _ S = ⊥

  -- statements
  pub ShapedStmts : Stmts → (List ℕ → ℕ) → Type 0
  ShapedStmts NoStmt S = Unit {0}
  ShapedStmts (MoreStmts s ss) S = ShapedStmt s S × ShapedStmts ss S

  -- tests with their statements
  pub ShapedBranches : Branches → (List ℕ → ℕ) → Type 0
  ShapedBranches NoBranch S = Unit {0}
  ShapedBranches (MoreBranches test statements others) S = Shaped test S
      × ShapedStmts statements S × ShapedBranches others S

  -- handlers
  pub ShapedHandlers : Handlers → (List ℕ → ℕ) → Type 0
  ShapedHandlers NoHandler S = Unit {0}
  ShapedHandlers (MoreHandlers kind takes action others) S = ShapedStmt action S
      × ShapedHandlers others S

  -- a query. 7.16 and 7.17
  pub ShapedQuery : Query → (List ℕ → ℕ) → Type 0
  ShapedQuery (Select items from tests) S =
      ShapedFrom from S × ShapedAll tests S × ShapedAll items S
  ShapedQuery (Grouped from tests k items ags having list) S =
      ShapedFrom from S × ShapedAll tests S × ShapedAll items S × ShapedAll having S
      × ShapedAll list S × (count items ≡ k + length ags)
  ShapedQuery (Values rows) S = (all_even (rows_width rows) rows ≡ true) × ShapedRows rows S
  ShapedQuery (Ordered q keys) S = ShapedQuery q S × (keys_fit keys (query_width q S) ≡ true)

  -- the rows of VALUES. 7.3
  pub ShapedRows : Rows → (List ℕ → ℕ) → Type 0
  ShapedRows NoRow S = Unit {0}
  ShapedRows (MoreRows es rows) S = ShapedAll es S × ShapedRows rows S

  -- a FROM. 7.6 (table reference)
  pub ShapedFrom : From → (List ℕ → ℕ) → Type 0
  ShapedFrom (Table t) S = Unit {0}
  ShapedFrom (Derived q) S = ShapedQuery q S
  ShapedFrom (Cross a b) S = ShapedFrom a S × ShapedFrom b S
  ShapedFrom (Inner a b on) S = ShapedFrom a S × ShapedFrom b S × ShapedAll on S
  ShapedFrom (LeftOuter a b on) S = ShapedFrom a S × ShapedFrom b S × ShapedAll on S

-- the plan of a whole query that is so is well formed for tables of these widths and n arguments,
-- and that of a function for its parameters
pub record WellFormedPlans : Type 0 where
  -- of a whole query, for so many arguments
  pub queries : (q : Query) (S : List ℕ → ℕ) (n : ℕ) → ShapedQuery q S →
      tree_fits (plan q S (top n)) S [] n ≡ true
  -- of a function, whose parameters are the arguments
  pub routines : (r : Routine) (S : List ℕ → ℕ) → ShapedBody r S →
      tree_fits (routine_plan r S) S [] (length (parameters_of r)) ≡ true
