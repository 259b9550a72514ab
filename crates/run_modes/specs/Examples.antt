-- Worked rows, which hold by computation.
use Rattle.std.specs.Prelude.{◌≡◌, true, false, pos, [], ◌∷◌, None, Some, codes}
use Rattle.sql_values.specs.declared.value.Value.TheVariants.{Int}
use Rattle.bound_trees.specs.declared.expr.BoundExpr.{BoundExpr}
use Rattle.bound_trees.specs.declared.expr.BoundExpr.TheOpen.{BoundExpr-F, BoundFromItem-F}
use Rattle.bound_trees.specs.declared.expr.BoundExpr.TheOpen.{BoundQuery-F, BoundSource-F}
use Rattle.bound_trees.specs.declared.expr.BoundExpr.TheVariants as bound
use Rattle.bound_trees.specs.declared.expr.BoundOperation.TheVariants.{Opposite}
use Rattle.bound_trees.specs.declared.query.BoundQuery.{BoundQuery}
use Rattle.bound_trees.specs.declared.query.BoundQuery.TheVariants as query
use Rattle.bound_trees.specs.declared.query.BoundRow.TheVariants as row
use Rattle.catalog_store.specs.Uses.{Uses, calls, reads, expr_uses, grouping_uses, item_uses}
use Rattle.catalog_store.specs.Uses.{query_uses, select_uses, source_uses}
use Rattle.run_modes.specs.declared.mode.Mode.{Mode}
use Rattle.run_modes.specs.declared.mode.Mode.TheVariants.{Inlining, Plain}
use Rattle.run_modes.specs.Modes.{calls_function, has_call, is_by_plan, mode_of}

-- what T in FROM uses, and what F () does
abbrev pub table : Uses
table = reads (codes "T") ∷ []

abbrev pub call : Uses
call = calls (codes "F") 0 ∷ []

-- VALUES with one value
abbrev pub value_alone : BoundExpr → BoundQuery
value_alone e = query.Values (row.Row (e ∷ []) ∷ [])

-- Whether a call stands among what uses the table and F (), by where F () stands.
pub record CallsAreSeen : Type 0 where
  pub nothing : has_call [] ≡ false
  pub only_read : has_call table ≡ false
  pub called : has_call call ≡ true
  -- in an operand and in an argument of another function
  pub operand : has_call (expr_uses (BoundExpr-F.Operation Opposite (call ∷ []))) ≡ true
  pub argument : has_call (expr_uses (BoundExpr-F.Call (codes "G") (call ∷ []))) ≡ true
  -- at the end of a chain
  pub chain : has_call (expr_uses (BoundExpr-F.Chain [] ([] ∷ call ∷ []))) ≡ true
  -- in a subquery, EXISTS, and at both sides of IN
  pub subquery : has_call (expr_uses (BoundExpr-F.Single call)) ≡ true
  pub exists : has_call (expr_uses (BoundExpr-F.Exists call)) ≡ true
  pub left : has_call (expr_uses (BoundExpr-F.In call table)) ≡ true
  pub right : has_call (expr_uses (BoundExpr-F.In [] call)) ≡ true
  pub neither : has_call (expr_uses (BoundExpr-F.In [] table)) ≡ false
  -- in a derived table, and in a condition of a join
  pub derived : has_call (item_uses (BoundFromItem-F.Comma
      (source_uses (BoundSource-F.Derived call)))) ≡ true
  pub condition : has_call (item_uses (BoundFromItem-F.Left table ([] ∷ call ∷ []))) ≡ true
  -- in a query that is ordered
  pub ordered : has_call (query_uses (BoundQuery-F.Ordered call [])) ≡ true
  -- in a select list, WHERE, GROUP BY and HAVING
  pub item : has_call (select_uses (record {
    items = call ∷ [];
    from = table ∷ [];
    conjuncts = [];
    grouping = None;
  })) ≡ true
  pub conjunct : has_call (select_uses (record {
    items = [] ∷ [];
    from = table ∷ [];
    conjuncts = [] ∷ call ∷ [];
    grouping = None;
  })) ≡ true
  pub group : has_call (select_uses (record {
    items = [] ∷ [];
    from = table ∷ [];
    conjuncts = [];
    grouping = Some (grouping_uses (record {
      keys = 1;
      parts = call ∷ [];
      aggregates = [];
      having = [];
    }));
  })) ≡ true
  pub having : has_call (select_uses (record {
    items = [] ∷ [];
    from = table ∷ [];
    conjuncts = [];
    grouping = Some (grouping_uses (record {
      keys = 1;
      parts = [] ∷ [];
      aggregates = [];
      having = call ∷ [];
    }));
  })) ≡ true
  pub nowhere : has_call (select_uses (record {
    items = [] ∷ [];
    from = table ∷ [];
    conjuncts = [] ∷ [];
    grouping = None;
  })) ≡ false
  -- VALUES (F ()), and VALUES (1)
  pub value : calls_function (value_alone (bound.Call (codes "F") [])) ≡ true
  pub literal : calls_function (value_alone (bound.Literal (Int (pos 1)))) ≡ false

-- Which queries are answered by their plans.
pub record QueriesAreAnswered : Type 0 where
  -- the mode of itself, and the one that is asked for
  pub by_itself : mode_of false ≡ Inlining
  pub asked_for : mode_of true ≡ Plain
  pub inlined : (q : BoundQuery) → is_by_plan Inlining true q ≡ true
  pub calling : (q : BoundQuery) → calls_function q ≡ true → is_by_plan Plain true q ≡ false
  pub calling_nothing : (q : BoundQuery) → calls_function q ≡ false → is_by_plan Plain true q ≡ true
  pub without_a_plan : (mode : Mode) (q : BoundQuery) → is_by_plan mode false q ≡ false
