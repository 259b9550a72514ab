-- What is asked of the leaves of a body: that they are right, so that its plan is what it does;
-- that each Apply in their plans can be removed; and that their plans fit.
use Rattle.std.proofs.Common.{◌≡◌, ℕ, suc, true, false, List, ◌∷◌, ◌++◌, length, Option, Some, None}
use Rattle.row_types.specs.Rows.{Row}
use Rattle.row_types.specs.declared.cell.Cell.{Cell}
use Rattle.rel_algebra.specs.Environments.{Env}
use Rattle.rel_algebra.specs.Emissions.{Folded}
use Rattle.rel_algebra.specs.Plan.{scalar_count, added, cells_of, collected, den, into, shown}
use Rattle.rel_algebra.specs.Plan.{sight, values_of}
use Rattle.rel_algebra.specs.Endings.{Ending, after, cell_end}
use Rattle.rel_algebra.specs.Joins.{finish_all}
use Rattle.rel_algebra.specs.Scopes.{Inputs, Scope, columns_in, one_row}
use Rattle.rel_algebra.specs.Removal.{all_removable, nodes_removable, removable, tree_width}
use Rattle.rel_algebra.specs.Agreement.{Agrees, outside}
use Rattle.rel_algebra.specs.WellFormed.{tree_fits}
use Rattle.rel_algebra.proofs.FittingNodes.{EnvFits, Fit}
use Rattle.rel_algebra.proofs.FoldedParts.{FoldedFits, InputRemovable, PartsOk}
use Rattle.rel_algebra.proofs.Reading.{Given}
use Rattle.rel_algebra.proofs.Growing.{Grows}
use Rattle.rel_algebra.proofs.Nodes.{Reads, Yields}
use Rattle.rel_algebra.proofs.Rows.{WideEnd}
use Rattle.rel_algebra.specs.Bodies.{HasTarget, Perhaps, Without, With, Variables, NoVariable}
use Rattle.rel_algebra.specs.Bodies.{MoreVariables, Target, Stmt, Compound, If, SearchedCase}
use Rattle.rel_algebra.specs.Bodies.{SimpleCase, Set, SelectInto, Signal, Resignal}
use Rattle.rel_algebra.specs.Bodies.{GetStatementItems, GetConditionItems, Leave, Return, Stmts}
use Rattle.rel_algebra.specs.Bodies.{NoStmt, MoreStmts, Branches, NoBranch, MoreBranches, Handlers}
use Rattle.rel_algebra.specs.Bodies.{NoHandler, MoreHandlers, Routine, Body}
use Rattle.rel_algebra.specs.Leaves.{QueryLeaf, ValueLeaf, Widths}

-- what holds of an expression that may be left out
abbrev pub PerhapsHolds : Perhaps → (ValueLeaf → Type 0) → Type 0
PerhapsHolds Without P = Unit {0}
PerhapsHolds (With e) P = P e

-- of each default of declarations
abbrev pub VariablesHold : Variables → (ValueLeaf → Type 0) → Type 0
VariablesHold NoVariable P = Unit {0}
VariablesHold (MoreVariables k t default others) P = PerhapsHolds default P × VariablesHold others P

-- what holds of each expression, and of each query with the targets of its SELECT INTO
abbrev mutual
  -- in a statement
  pub Holds : Stmt → (ValueLeaf → Type 0) → (QueryLeaf → List Target → Type 0) → Type 0
  Holds (Compound atomic variables handlers body) P Q = VariablesHold variables P
      × HandlersHold handlers P Q × AllHold body P Q
  Holds (If branches otherwise) P Q = BranchesHold branches P Q × AllHold otherwise P Q
  Holds (SearchedCase branches otherwise) P Q = BranchesHold branches P Q × AllHold otherwise P Q
  Holds (SimpleCase e branches otherwise) P Q = P e × BranchesHold branches P Q
      × AllHold otherwise P Q
  Holds (Set t e) P Q = P e
  Holds (SelectInto query targets) P Q = Q query targets
  Holds (Signal state text) P Q = PerhapsHolds text P
  Holds (Resignal state text) P Q = PerhapsHolds text P
  Holds (GetStatementItems reads) P Q = Unit {0}
  Holds (GetConditionItems number reads) P Q = P number
  Holds (Leave outwards) P Q = Unit {0}
  Holds (Return e) P Q = P e

  -- in statements
  pub AllHold : Stmts → (ValueLeaf → Type 0) → (QueryLeaf → List Target → Type 0) → Type 0
  AllHold NoStmt P Q = Unit {0}
  AllHold (MoreStmts s ss) P Q = Holds s P Q × AllHold ss P Q

  -- in tests with their statements
  pub BranchesHold : Branches → (ValueLeaf → Type 0) → (QueryLeaf → List Target → Type 0) → Type 0
  BranchesHold NoBranch P Q = Unit {0}
  BranchesHold (MoreBranches test body others) P Q = P test × AllHold body P Q
      × BranchesHold others P Q

  -- in handlers
  pub HandlersHold : Handlers → (ValueLeaf → Type 0) → (QueryLeaf → List Target → Type 0) → Type 0
  HandlersHold NoHandler P Q = Unit {0}
  HandlersHold (MoreHandlers kind takes action others) P Q = Holds action P Q
      × HandlersHold others P Q

-- in the body of a function
abbrev pub RoutineHolds : Routine → (ValueLeaf → Type 0) → (QueryLeaf → List Target → Type 0) →
    Type 0
RoutineHolds (Body types returns body) P Q = Holds body P Q

-- ---- what follows of each leaf

perhaps_gives : (text : Perhaps) (P P' : ValueLeaf → Type 0) → ((e : ValueLeaf) → P e → P' e) →
    PerhapsHolds text P → PerhapsHolds text P'
perhaps_gives Without P P' p h = tt
perhaps_gives (With e) P P' p h = p e h

variables_give : (vs : Variables) (P P' : ValueLeaf → Type 0) → ((e : ValueLeaf) → P e → P' e) →
    VariablesHold vs P → VariablesHold vs P'
variables_give NoVariable P P' p h = tt
variables_give (MoreVariables k t default others) P P' p h =
    (perhaps_gives default P P' p h.0, variables_give others P P' p h.1)

mutual
  gives : (s : Stmt) (P P' : ValueLeaf → Type 0) (Q Q' : QueryLeaf → List Target → Type 0) →
      ((e : ValueLeaf) → P e → P' e) →
      ((q : QueryLeaf) (ts : List Target) → Q q ts → Q' q ts) → Holds s P Q → Holds s P' Q'
  gives (Compound atomic variables handlers body) P P' Q Q' p q h = (
    variables_give variables P P' p h.0,
    handlers_give handlers P P' Q Q' p q h.1,
    all_give body P P' Q Q' p q h.2,
  )
  gives (If branches otherwise) P P' Q Q' p q h =
      (branches_give branches P P' Q Q' p q h.0, all_give otherwise P P' Q Q' p q h.1)
  gives (SearchedCase branches otherwise) P P' Q Q' p q h =
      (branches_give branches P P' Q Q' p q h.0, all_give otherwise P P' Q Q' p q h.1)
  gives (SimpleCase e branches otherwise) P P' Q Q' p q h = (
    p e h.0,
    branches_give branches P P' Q Q' p q h.1,
    all_give otherwise P P' Q Q' p q h.2,
  )
  gives (Set t e) P P' Q Q' p q h = p e h
  gives (SelectInto query targets) P P' Q Q' p q h = q query targets h
  gives (Signal state text) P P' Q Q' p q h = perhaps_gives text P P' p h
  gives (Resignal state text) P P' Q Q' p q h = perhaps_gives text P P' p h
  gives (GetStatementItems reads) P P' Q Q' p q h = tt
  gives (GetConditionItems number reads) P P' Q Q' p q h = p number h
  gives (Leave outwards) P P' Q Q' p q h = tt
  gives (Return e) P P' Q Q' p q h = p e h

  all_give : (ss : Stmts) (P P' : ValueLeaf → Type 0) (Q Q' : QueryLeaf → List Target → Type 0) →
      ((e : ValueLeaf) → P e → P' e) →
      ((q : QueryLeaf) (ts : List Target) → Q q ts → Q' q ts) → AllHold ss P Q → AllHold ss P' Q'
  all_give NoStmt P P' Q Q' p q h = tt
  all_give (MoreStmts s ss) P P' Q Q' p q h =
      (gives s P P' Q Q' p q h.0, all_give ss P P' Q Q' p q h.1)

  branches_give : (bs : Branches) (P P' : ValueLeaf → Type 0)
      (Q Q' : QueryLeaf → List Target → Type 0) → ((e : ValueLeaf) → P e → P' e) →
      ((q : QueryLeaf) (ts : List Target) → Q q ts → Q' q ts) → BranchesHold bs P Q →
      BranchesHold bs P' Q'
  branches_give NoBranch P P' Q Q' p q h = tt
  branches_give (MoreBranches test body others) P P' Q Q' p q h = (
    p test h.0,
    all_give body P P' Q Q' p q h.1,
    branches_give others P P' Q Q' p q h.2,
  )

  handlers_give : (hs : Handlers) (P P' : ValueLeaf → Type 0)
      (Q Q' : QueryLeaf → List Target → Type 0) → ((e : ValueLeaf) → P e → P' e) →
      ((q : QueryLeaf) (ts : List Target) → Q q ts → Q' q ts) → HandlersHold hs P Q →
      HandlersHold hs P' Q'
  handlers_give NoHandler P P' Q Q' p q h = tt
  handlers_give (MoreHandlers kind takes action others) P P' Q Q' p q h =
      (gives action P P' Q Q' p q h.0, handlers_give others P P' Q Q' p q h.1)

pub routine_gives : (r : Routine) (P P' : ValueLeaf → Type 0)
    (Q Q' : QueryLeaf → List Target → Type 0) → ((e : ValueLeaf) → P e → P' e) →
    ((q : QueryLeaf) (ts : List Target) → Q q ts → Q' q ts) → RoutineHolds r P Q →
    RoutineHolds r P' Q'
routine_gives (Body types returns body) P P' Q Q' p q h = gives body P P' Q Q' p q h

-- ---- that they are right, over given tables

-- an expression's columns and scalar give its cell
abbrev pub ValueRight : Inputs → ValueLeaf → Type 0
ValueRight w e = (o : List (List Cell)) (f : Scope) (env : Env) (n : ℕ) (q : List Cell) →
    length q ≡ n → Reads env w o f q →
    Yields (e.emitted (columns_in w) env n) w o q (cell_end (e.value w f))

-- a folded query has these rows, asked on the row z of n columns
pub record FoldsTo (a : Folded) (rows : Ending (List Row)) (w : Inputs) (o : List (List Cell))
    (z : List Cell) (n : ℕ) : Type 0 where
  -- the rows that are folded
  pub parts : Ending (List Row)
  -- the list, by the row of the aggregates
  pub list : Row → Ending Row
  -- at least one aggregate
  pub some : ℕ
  pub long : length a.aggregates ≡ suc some
  pub input : collected (den a.input w (z ∷ o)) ≡ parts
  pub answers : rows ≡ after (after parts (finish_all a.aggregates)) (λ vs. one_row (list vs))
  pub yields : (vs : Row) → length vs ≡ length a.aggregates → (y : List Cell) →
      Grows (added (a.list n).nodes w o (z ++ shown vs)) y →
      values_of (cells_of (a.list n).scalars (sight w o y)) ≡ list vs

-- where it is folded
abbrev pub Folds : Option Folded → Ending (List Row) → Inputs → List (List Cell) → List Cell → ℕ →
    Type 0
Folds None rows w o z n = Unit {0}
Folds (Some a) rows w o z n = FoldsTo a rows w o z n

-- how many scalars the list of a folded query has
abbrev pub CountIs : Option Folded → ℕ → Type 0
CountIs None k = Unit {0}
CountIs (Some a) k = (n : ℕ) → scalar_count (a.list n).scalars ≡ k

-- a query of k columns: its plan has its rows, folded too
pub record QueryMeans (w : Inputs) (q : QueryLeaf) (k : ℕ) : Type 0 where
  pub means : (o : List (List Cell)) (f : Scope) (env : Env) → Agrees env (outside w o) f →
      collected (den (q.plan (columns_in w) env) w o) ≡ q.answer w f
  pub folds : (o : List (List Cell)) (f : Scope) (env : Env) (z : List Cell) (n : ℕ) →
      length z ≡ n → Reads env w o f z →
      Folds (q.folded (columns_in w) env) (q.answer w f) w o z n
  pub wide : (f : Scope) → WideEnd k (q.answer w f)
  pub counted : (env : Env) → CountIs (q.folded (columns_in w) env) k

-- a query that is right has one column for each target, of which there is at least one
abbrev pub QueryRight : Inputs → QueryLeaf → List Target → Type 0
QueryRight w q targets = QueryMeans w q (length targets) × HasTarget targets

-- ---- that each Apply in their plans can be removed

-- in an expression's, where no argument of the whole query is read
abbrev pub ValueRemovable : Widths → ValueLeaf → Type 0
ValueRemovable S e = (env : Env) (n : ℕ) → Given env false →
    nodes_removable (e.emitted S env n).nodes ≡ true

-- in a query's, and that by which it is asked
pub record QueryRemovable (S : Widths) (q : QueryLeaf) (targets : List Target) : Type 0 where
  pub inside : (env : Env) → Given env false → all_removable (q.plan S env) ≡ true
  pub asked : (env : Env) → Given env false → q.folded S env ≡ None → (k : ℕ) →
      removable (into k) (q.plan S env) ≡ true
  pub parts : (env : Env) → Given env false → PartsOk (q.folded S env)
  pub input : (env : Env) → Given env false → InputRemovable (q.folded S env)

-- ---- that their plans fit

-- an expression's, on rows of n columns, under rows outside of any widths
abbrev pub ValueFits : Widths → ValueLeaf → Type 0
ValueFits S e = (outer : List ℕ) (args : ℕ) (env : Env) (n : ℕ) → EnvFits env (n ∷ outer) args →
    Fit (e.emitted S env n) S n outer args

-- a query's, which has a column for each target
pub record QueryFits (S : Widths) (q : QueryLeaf) (targets : List Target) : Type 0 where
  pub fits : (env : Env) (ws : List ℕ) (args : ℕ) → EnvFits env ws args →
      tree_fits (q.plan S env) S ws args ≡ true
  pub wide : (env : Env) → tree_width (q.plan S env) ≡ length targets
  pub folds : (env : Env) (n : ℕ) (outer : List ℕ) (args : ℕ) → EnvFits env (n ∷ outer) args →
      FoldedFits (q.folded S env) S n outer args
  pub counted : (env : Env) → CountIs (q.folded S env) (length targets)

-- ---- of whole functions

-- the leaves of a function are right
abbrev pub RoutineRight : Inputs → Routine → Type 0
RoutineRight w r = RoutineHolds r (ValueRight w) (QueryRight w)

-- each Apply in their plans can be removed
abbrev pub RoutineRemovable : Widths → Routine → Type 0
RoutineRemovable S r = RoutineHolds r (ValueRemovable S) (QueryRemovable S)

-- their plans fit
abbrev pub RoutineFits : Widths → Routine → Type 0
RoutineFits S r = RoutineHolds r (ValueFits S) (QueryFits S)
