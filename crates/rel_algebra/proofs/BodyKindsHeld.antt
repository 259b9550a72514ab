-- What is asked of the leaves of a body, of its targets and of its result, so that its plan is well
-- kinded.
use Rattle.std.proofs.Common.{◌≡◌, ℕ, true, List, [], ◌++◌, length, replicate}
use Rattle.sql_values.specs.declared.value.SqlType.{SqlType}
use Rattle.rel_algebra.specs.Emit.{Env}
use Rattle.rel_algebra.specs.Kinds.{BooleanKind, DataKind, IntegerKind, Kinds, TextKind, agree}
use Rattle.rel_algebra.specs.Kinds.{table_widths, type_kind}
use Rattle.rel_algebra.proofs.KindNodes.{KindsAgree, KindsRead, PlanIs, Yields}
use Rattle.rel_algebra.proofs.KindNodes.{FoldIs}
use Rattle.rel_algebra.specs.Bodies.{Perhaps, Without, With, Variables, NoVariable, MoreVariables}
use Rattle.rel_algebra.specs.Bodies.{Target, Stmt, Compound, If, SearchedCase, SimpleCase, Set}
use Rattle.rel_algebra.specs.Bodies.{SelectInto, Signal, Resignal, GetStatementItems}
use Rattle.rel_algebra.specs.Bodies.{GetConditionItems, Leave, Return, Stmts, NoStmt, MoreStmts}
use Rattle.rel_algebra.specs.Bodies.{Branches, NoBranch, MoreBranches, Handlers, NoHandler}
use Rattle.rel_algebra.specs.Bodies.{MoreHandlers, Routine, Body}
use Rattle.rel_algebra.specs.BodyMeaning.{statement_targets, condition_targets}
use Rattle.rel_algebra.specs.Kinds.{AllTaken, EachTaken, Tables, Taken, type_kinds}
use Rattle.rel_algebra.specs.Leaves.{QueryLeaf, ValueLeaf}

-- an expression's columns and scalar, where the variables in sight have these kinds
abbrev pub ValueKinds : Tables → Kinds → DataKind → ValueLeaf → Type 0
ValueKinds T p k e = (env : Env) (r : Kinds) (ks : List Kinds) (ps : Kinds) (n : ℕ) →
    length r ≡ n → KindsRead env r ks ps [] p →
    Yields (e.emitted (table_widths T) env n) T r ks ps k

-- a query's plan, folded too, where they have these kinds
pub record QueryKinds (T : Tables) (p kk : Kinds) (q : QueryLeaf) : Type 0 where
  pub asked : (env : Env) (ks : List Kinds) (ps : Kinds) → KindsAgree env ks ps [] p →
      PlanIs (q.plan (table_widths T) env) T ks ps kk
  pub folds : (env : Env) (r : Kinds) (ks : List Kinds) (ps : Kinds) (n : ℕ) → length r ≡ n →
      KindsRead env r ks ps [] p → FoldIs (q.folded (table_widths T) env) T r ks ps n kk

-- ---- in sight of variables of these types

-- an expression of some kind
pub record Kinded (T : Tables) (ts : List SqlType) (e : ValueLeaf) : Type 0 where
  pub kind : DataKind
  pub yields : ValueKinds T (type_kinds ts) kind e

-- of one that this takes
pub record Gives (T : Tables) (ts : List SqlType) (k : DataKind) (e : ValueLeaf) : Type 0 where
  pub own : Kinded T ts e
  pub takes : agree own.kind k ≡ true

-- what a target takes
pub record Sets (T : Tables) (ts : List SqlType) (t : Target) (e : ValueLeaf) : Type 0 where
  pub own : Kinded T ts e
  pub taken : Taken ts own.kind t

-- a query whose columns targets take
pub record Selects (T : Tables) (ts : List SqlType) (targets : List Target)
    (q : QueryLeaf) : Type 0 where
  pub columns : Kinds
  pub own : QueryKinds T (type_kinds ts) columns q
  pub taken : AllTaken ts columns targets

-- an expression that may be left out
abbrev pub PerhapsGives : Tables → List SqlType → DataKind → Perhaps → Type 0
PerhapsGives T ts k Without = Unit {0}
PerhapsGives T ts k (With e) = Gives T ts k e

-- the types of the variables that declarations make
abbrev pub made_types : Variables → List SqlType
made_types NoVariable = []
made_types (MoreVariables k t default others) = replicate k t ++ made_types others

-- declarations
abbrev pub VariablesKinds : Variables → Tables → List SqlType → Type 0
VariablesKinds NoVariable T ts = Unit {0}
VariablesKinds (MoreVariables k t default others) T ts =
    PerhapsGives T ts (type_kind t) default × VariablesKinds others T (ts ++ replicate k t)

abbrev mutual
  -- a statement of a function that returns a type
  pub StmtKinds : Stmt → Tables → SqlType → List SqlType → Type 0
  StmtKinds (Compound atomic variables handlers body) T returns ts =
      VariablesKinds variables T ts × HandlersKinds handlers T returns (ts ++ made_types variables)
      × AllKinds body T returns (ts ++ made_types variables)
  StmtKinds (If branches otherwise) T returns ts =
      BranchesKinds branches BooleanKind T returns ts × AllKinds otherwise T returns ts
  StmtKinds (SearchedCase branches otherwise) T returns ts =
      BranchesKinds branches BooleanKind T returns ts × AllKinds otherwise T returns ts
  StmtKinds (SimpleCase e branches otherwise) T returns ts =
      (own : Kinded T ts e) × BranchesKinds branches own.kind T returns ts
      × AllKinds otherwise T returns ts
  StmtKinds (Set t e) T returns ts = Sets T ts t e
  StmtKinds (SelectInto query targets) T returns ts = Selects T ts targets query
  StmtKinds (Signal state text) T returns ts = PerhapsGives T ts TextKind text
  StmtKinds (Resignal state text) T returns ts = PerhapsGives T ts TextKind text
  StmtKinds (GetStatementItems reads) T returns ts =
      EachTaken ts IntegerKind (statement_targets reads)
  StmtKinds (GetConditionItems number reads) T returns ts =
      Gives T ts IntegerKind number × EachTaken ts TextKind (condition_targets reads)
  StmtKinds (Leave outwards) T returns ts = Unit {0}
  StmtKinds (Return e) T returns ts = Gives T ts (type_kind returns) e

  -- statements in order
  pub AllKinds : Stmts → Tables → SqlType → List SqlType → Type 0
  AllKinds NoStmt T returns ts = Unit {0}
  AllKinds (MoreStmts s ss) T returns ts = StmtKinds s T returns ts × AllKinds ss T returns ts

  -- tests, or what an operand of this kind is compared with, with their statements
  pub BranchesKinds : Branches → DataKind → Tables → SqlType → List SqlType → Type 0
  BranchesKinds NoBranch k T returns ts = Unit {0}
  BranchesKinds (MoreBranches e body others) k T returns ts = Gives T ts k e
      × AllKinds body T returns ts × BranchesKinds others k T returns ts

  -- handlers
  pub HandlersKinds : Handlers → Tables → SqlType → List SqlType → Type 0
  HandlersKinds NoHandler T returns ts = Unit {0}
  HandlersKinds (MoreHandlers kind takes action others) T returns ts =
      StmtKinds action T returns ts × HandlersKinds others T returns ts

-- the body of a function
abbrev pub RoutineKinds : Tables → Routine → Type 0
RoutineKinds T (Body types returns body) = StmtKinds body T returns types
