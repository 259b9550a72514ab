-- Worked rows, which hold by computation.
use Rattle.std.specs.Prelude.{◌≡◌, true, false, [], ◌∷◌, None, Some, codes}
use Rattle.sql_values.specs.declared.value.SqlType.TheVariants.{Integer}
use Rattle.bound_trees.specs.declared.condition.BoundArea.TheVariants.{Current}
use Rattle.bound_trees.specs.declared.condition.BoundInformation.TheVariants.{Condition}
use Rattle.bound_trees.specs.declared.expr.BoundExpr.{BoundExpr}
use Rattle.bound_trees.specs.declared.expr.BoundExpr.TheOpen.{BoundExpr-F}
use Rattle.bound_trees.specs.declared.query.BoundQuery.{BoundQuery}
use Rattle.bound_trees.specs.declared.statement.BoundStmt.TheOpen.{BoundStmt-F}
use Rattle.bound_trees.specs.declared.statement.BoundStmt.TheVariants.{Leave}
use Rattle.bound_trees.specs.declared.statement.BoundVariables.{BoundVariables}
use Rattle.catalog_store.specs.Catalog.{FunctionObject, InterpretedObject, Entry, Catalog, missing}
use Rattle.catalog_store.specs.declared.entry.DataAccess.TheVariants.{ContainsSql}
use Rattle.routine_form.specs.declared.sum.TheConstants.{HEAVIEST}
use Rattle.routine_form.specs.Calls.{weight_named, expr_calls, select_calls, calls_in}
use Rattle.routine_form.specs.Calls.{calls_in_query}
use Rattle.routine_form.specs.Sums.{add, total}
use Rattle.routine_form.specs.Weight.{Weigh, itself, choice, inside, compound, stmt_weight}

-- F () weighs 5, and LONG (), which has no plan, 4097
abbrev pub light : Entry
light = record {
  name = codes "F";
  object = FunctionObject
      (record {
        parameters = [];
        returns = Integer;
        access = ContainsSql;
        height = 1;
        weight = 5;
        uses = [];
        routine = missing;
      });
}

-- LONG (): a function without a plan, as heavy as counting goes
abbrev pub long : Entry
long =
    record {
      name = codes "LONG";
      object = InterpretedObject (record {
        parameters = [];
        returns = Integer;
        access = ContainsSql;
        height = 1;
        weight = HEAVIEST;
        uses = [];
        null_call = false;
        self_calling = false;
        body =
            Leave 0;
      });
    }

-- a catalog of these two functions
abbrev pub known : Catalog
known = light ∷ long ∷ []

-- DECLARE V INTEGER
abbrev pub variable : BoundVariables
variable = record { first = 0; count = 1; data_type = Integer; default = None }

-- SET V = NULL, in sight of what handlers there are
abbrev pub set : Weigh
set handlers = itself 0 handlers

-- What expressions call.
pub record ExpressionsWeigh : Type 0 where
  pub function : weight_named known (codes "F") ≡ 5
  -- what is no function of the catalog calls itself
  pub itself : weight_named known (codes "G") ≡ 4097
  -- F() + 1, F(F()) and F() IN (query that calls F)
  pub chain : expr_calls known (BoundExpr-F.Chain 5 (0 ∷ [])) ≡ 5
  pub argument : expr_calls known (BoundExpr-F.Call (codes "F") (5 ∷ [])) ≡ 10
  pub query : expr_calls known (BoundExpr-F.In 5 5) ≡ 10
  -- the list, FROM, WHERE and the groups each count
  pub parts : select_calls (record {
    items = 1 ∷ 1 ∷ [];
    from = 2 ∷ [];
    conjuncts = 3 ∷ [];
    grouping = Some 4;
  }) ≡ 11
  -- counting stops
  pub most : add 4000 97 ≡ 4097
  pub no_more : add 4000 98 ≡ 4097

-- Statements that hold none, and choices.
pub record StatementsWeigh : Type 0 where
  pub alone : set 0 ≡ 1
  pub in_sight : set 3 ≡ 4
  pub calling : itself 5 3 ≡ 9
  -- IF with a test that calls F, one statement in its branch and two in ELSE
  pub branches : choice 0 (record { test = 5; body = λ h. total (set h ∷ []) } ∷ [])
      (set ∷ set ∷ []) 0 ≡ 9
  -- each statement of them counts the handlers, and so does the choice itself
  pub branches_in_sight : choice 0 (record { test = 5; body = λ h. total (set h ∷ []) } ∷ [])
      (set ∷ set ∷ []) 3 ≡ 21
  -- loops, and what no plan takes
  pub loop : stmt_weight known (BoundStmt-F.Loop []) 0 ≡ 4097
  pub iterate : stmt_weight known (BoundStmt-F.Iterate 0) 0 ≡ 4097
  pub leave : stmt_weight known (BoundStmt-F.Leave 0) 0 ≡ 1
  -- the operand of CASE, the text of SIGNAL, the number of a condition and a query that call F
  pub operand : (e : BoundExpr) → calls_in known e ≡ 5 →
      stmt_weight known (BoundStmt-F.Case (Some e) [] []) 0 ≡ 6
  pub message : (e : BoundExpr) → calls_in known e ≡ 5 →
      stmt_weight known (BoundStmt-F.Signal (record { state = codes "45000"; message = Some e }))
      0 ≡ 6
  pub number : (e : BoundExpr) → calls_in known e ≡ 5 →
      stmt_weight known (BoundStmt-F.GetDiagnostics
      (record { area = Current; information = Condition e [] })) 0 ≡ 6
  pub selected : (q : BoundQuery) → calls_in_query known q ≡ 5 →
      stmt_weight known (BoundStmt-F.SelectInto q []) 0 ≡ 6

-- Compound statements.
pub record CompoundStatementsWeigh : Type 0 where
  -- a variable and three statements
  pub plain : compound false (inside known (variable ∷ []) [] (set ∷ set ∷ set ∷ [])) 0 ≡ 4
  -- with a handler that does one statement: each of the three counts it, and the variable doesn't
  pub handled : compound false (inside known (variable ∷ []) (set ∷ []) (set ∷ set ∷ set ∷ [])) 0 ≡
      7
  -- in sight of handlers that weigh 3: the variable counts these, and so does the action, which
  -- each statement counts beside them
  pub nested : compound false (inside known (variable ∷ []) (set ∷ []) (set ∷ [])) 3 ≡ 12
  -- ATOMIC: the whole counts the handlers outside once, and nothing in it does
  pub atomic : compound true (inside known (variable ∷ []) (set ∷ []) (set ∷ [])) 3 ≡ 6
