-- Plans answer a statement without faults, if it is of a planned form and all functions have plans.
use Rattle.std.proofs.Common.{◌≡◌, refl, sym, ap, ◌∙◌, subst, ℕ, Bool, true, false, ◌||◌, List, []}
use Rattle.std.proofs.Common.{◌∷◌, ◌++◌, Option, Some, None}
use Rattle.std.specs.Prelude.{is_some, ◌&&◌, if◌then◌else◌}
use Rattle.std.specs.Str.{bytes_eq}
use Rattle.std.proofs.lemmas.Bool.{and_from}
use Rattle.std.proofs.lemmas.Slice.Eq.{bytes_eq-Decides}
use Rattle.syntax_trees.specs.declared.anchor.Ident.{Ident}
use Rattle.syntax_trees.specs.declared.expr.Expr.{Expr}
use Rattle.syntax_trees.specs.declared.query.OrderedQuery.{OrderedQuery}
use Rattle.syntax_trees.specs.declared.query.Query.{Query}
use Rattle.syntax_trees.specs.declared.query.SortSpecification.{SortSpecification}
use Rattle.statement_trees.specs.declared.definition.Characteristic.{Characteristic}
use Rattle.statement_trees.specs.declared.statement.CreateFunction.{out-CreateFunction}
use Rattle.statement_trees.specs.declared.statement.Declaration.TheOpen.{Stmt-F}
use Rattle.statement_trees.specs.declared.statement.Stmt.{Stmt, out-Stmt}
use Rattle.statement_trees.specs.declared.writing.Assignment.{Assignment}
use Rattle.statement_trees.specs.declared.writing.Delete.{Delete}
use Rattle.statement_trees.specs.declared.writing.Insert.{Insert}
use Rattle.statement_trees.specs.declared.writing.Update.{Update}
use Rattle.row_types.specs.declared.sort_key.SortKey.{SortKey}
use Rattle.bound_trees.specs.declared.expr.BoundExpr.{BoundExpr}
use Rattle.bound_trees.specs.declared.statement.BoundStmt.TheVariants.{Return}
use Rattle.catalog_store.specs.Catalog.{Object, TableObject, FunctionObject, InterpretedObject}
use Rattle.catalog_store.specs.Catalog.{ProcedureObject, Catalog, object_named}
use Rattle.catalog_store.specs.declared.entry.FunctionHead.{FunctionHead}
use Rattle.catalog_store.specs.Planning.{AllPlanned}
use Rattle.catalog_store.specs.Uses.{Use, calls, reads, Uses, name_used, names_used}
use Rattle.bind_kinds.specs.declared.kind.Kind.{Kind}
use Rattle.bind_kinds.specs.declared.kind.Kind.TheVariants.{Boolean}
use Rattle.bind_kinds.specs.Kinds.{kind_of_type, misfit}
use Rattle.bind_kinds.specs.Types.{type_of}
use Rattle.bind_sight.specs.declared.output.Hit.{Hit}
use Rattle.bind_sight.specs.declared.output.Hit.TheVariants.{Nowhere, Once, Twice}
use Rattle.bind_sight.specs.declared.output.Output.{Output}
use Rattle.bind_sight.specs.declared.scope.EnclosingRoutine.{EnclosingRoutine}
use Rattle.bind_sight.specs.Columns.{hits}
use Rattle.bind_sight.specs.Sight.{Seen, at_top, inside_writing, may_stand}
use Rattle.bind_parts.specs.From.{table_in, table_uses}
use Rattle.bind_parts.specs.Order.{place_at, one_key, keys_of}
use Rattle.bind_parts.specs.Turns.{each_noted}
use Rattle.bind_parts.specs.Typed.{no_parts, head_in, is_own}
use Rattle.bind_queries.specs.Names.{judge, inner}
use Rattle.bind_queries.specs.Order.{judge_ordered}
use Rattle.bind_queries.specs.Queries.{judge_query}
use Rattle.bind_queries.specs.Runs.{is_run, all_run}
use Rattle.bind_queries.proofs.Laws.{Names, has, front_nil, back_nil, Known, known_in, Mark, Stands}
use Rattle.bind_queries.proofs.Laws.{AllStand, Covers, mark, grown-alone, query-mark, expr-fits}
use Rattle.bind_queries.proofs.Laws.{query-fits, in-catalog, runs-by-name, runs-both}
use Rattle.bind_changes.specs.Writing.{target_of, target_named, kind_named, uses_of, kinds_into}
use Rattle.bind_changes.specs.Writing.{into_faults, wrong_width, judged_insert, opened, in_row}
use Rattle.bind_changes.specs.Writing.{one_value, judged_values, judged_where, target_faults}
use Rattle.bind_changes.specs.Writing.{assigned, judged_update, judged_delete}
use Rattle.bind_simple.specs.Places.{seen_from}
use Rattle.bind_definitions.specs.Characteristics.{group_faults}
use Rattle.bind_rules.specs.Definitions.{Definition}
use Rattle.bind_definitions.specs.Making.{own_function, signature_faults, planned_function}
use Rattle.bind_definitions.specs.Making.{interpreted, access_of_result, asked_of_result, is_light}
use Rattle.bind_direct.specs.Returning.{in_function, judged_result, judged_returning}
use Rattle.bind_definitions.specs.Routines.{parameters_of, calls as calls_in}
use Rattle.bind_statements.specs.Runs.{lacks_plan, FunctionsPlanned, has_run_form, calls_back}
use Rattle.bind_statements.specs.Runs.{form_calls_itself, returns_light, form_is_light}
use Rattle.bind_statements.specs.Runs.{FaultlessRuns}
use Rattle.bind_direct.specs.Direct.{is_planned}
use Rattle.bind_statements.specs.Statements.{judged_object, judged_form}
use Rattle.bind_rules.specs.Definitions.{Form, if_bare, value_returned}

-- ---- what a name stands for

run-by-head : (h : FunctionHead) (o : Option Object) → lacks_plan o ≡ false → head_in o ≡ Some h →
    is_run o ≡ true
run-by-head h None l p = absurd cc
run-by-head h (Some (TableObject t)) l p = refl
run-by-head h (Some (FunctionObject f)) l p = refl
run-by-head h (Some (InterpretedObject f)) l p = absurd cc
run-by-head h (Some (ProcedureObject q)) l p = absurd cc

-- none of these names is that of the routine in whose body they stand
abbrev Outside : Option EnclosingRoutine → Names → Type 0
Outside own us = (name : List ℕ) → has name us ≡ true → is_own name own ≡ false

outside : (own : EnclosingRoutine) (us : Names) → calls_in own.name us ≡ false →
    Outside (Some own) us
outside own us p name h = by (bytes_eq own.name name) refl
  where
    by : (b : Bool) → bytes_eq own.name name ≡ b → bytes_eq own.name name ≡ false
    by true e =
        let here : has own.name us ≡ true = subst (λ n. has n us ≡ true)
        (sym ((bytes_eq-Decides own.name name).0 e)) h in absurd cc
    by false e = e

-- ---- names that are noted

module _ (known : Known) (plans : FunctionsPlanned known.catalog) where
  abbrev IsRun : List ℕ → Type 0
  IsRun name = is_run (object_named name known.catalog) ≡ true

  use-runs : (u : Use) → Stands known u → is_own (name_used u) known.own ≡ false →
      IsRun (name_used u)
  use-runs (calls name arguments) p n = run-by-head p.0 (object_named name known.catalog)
      (plans name) (in-catalog known.catalog known.own name p.0 n p.1)
  use-runs (reads name) p n = ap is_run p.stands

  uses-run : (us : Uses) → AllStand known us → (name : List ℕ) → has name (names_used us) ≡ true →
      is_own name known.own ≡ false → IsRun name
  uses-run [] p name h n = absurd cc
  uses-run (u ∷ us) p name h n = by (bytes_eq (name_used u) name) refl h
      (λ q. uses-run us p.1 name q n)
    where
      by : (b : Bool) → bytes_eq (name_used u) name ≡ b → (b || has name (names_used us)) ≡ true →
          (has name (names_used us) ≡ true → IsRun name) → IsRun name
      by true e q rest =
          let same = (bytes_eq-Decides (name_used u) name).0 e in
          subst IsRun same (use-runs u p.0 (subst (λ x. is_own x known.own ≡ false) (sym same) n))
      by false e q rest = rest q

  covered-run : (us : Names) (m : Mark) → Covers known us m → Outside known.own us →
      all_run known.catalog us ≡ true
  covered-run us m c out = runs-by-name known.catalog us
      (λ name h. uses-run m.uses c.0 name (sym (c.2 name) ∙ h) (out name h))

-- ---- expressions and queries

abbrev around : Catalog → Seen → Known
around known s = record { catalog = known; own = s.own }

seen-around : (known : Catalog) (s : Seen) → s.catalog ≡ known → known_in s ≡ around known s
seen-around known s is = ap (λ c. around c s) is

module _ (known : Catalog) (all : AllPlanned known) (plans : FunctionsPlanned known) where
  expr-runs : (e : Expr) (s : Seen) → s.catalog ≡ known → may_stand s.levels ≡ false →
      Outside s.own (judge e s).uses → (judge e s).faults ≡ [] →
      all_run known (judge e s).uses ≡ true
  expr-runs e s is bare out p =
      let k = around known s in
      let x = inner e s no_parts in
      let m = mark k x.value.value.tree in
      covered-run k plans x.uses m (grown-alone k s no_parts x.value.parts x.uses m bare
      (expr-fits k all e s no_parts (seen-around known s is) p)) out

  query-runs : (targets : List Kind) (q : Query) (s : Seen) → s.catalog ≡ known →
      Outside s.own (judge_query targets q s).uses → (judge_query targets q s).faults ≡ []
      → all_run known (judge_query targets q s).uses ≡ true
  query-runs targets q s is out p =
      let k = around known s in
      let x = judge_query targets q s in
      covered-run k plans x.uses (query-mark k x.value.tree)
      (query-fits k all q targets s (seen-around known s is) p) out

  -- ORDER BY uses no name
  order-runs : (columns : List Output) (so : List SortKey) (order : List SortSpecification) →
      all_run known (each_noted (one_key columns) so order).uses ≡ true
  order-runs columns so [] = refl
  order-runs columns so (k ∷ ks) =
      let one = one_key columns so k in
      runs-both known one.uses (each_noted (one_key columns) one.value ks).uses
      (place-runs k.name (hits k.name.name columns)) (order-runs columns one.value ks)
    where
      place-runs : (i : Ident) (h : Hit) → all_run known (place_at i h).uses ≡ true
      place-runs i Nowhere = refl
      place-runs i (Once place kind) = refl
      place-runs i Twice = refl

  ordered-runs : (q : OrderedQuery) → (judge_ordered q (at_top known)).faults ≡ [] →
      all_run known (judge_ordered q (at_top known)).uses ≡ true
  ordered-runs q p =
      let query = judge_query [] q.query (at_top known) in
      let keys = keys_of query.value.columns q.order in
      runs-both known query.uses keys.uses (query-runs [] q.query (at_top known) refl
      (λ name h. refl) (front_nil query.faults keys.faults p))
      (order-runs query.value.columns [] q.order)

  -- ---- INSERT

  -- the table that is written, if it is known
  target-runs : (i : Ident) → all_run known (uses_of i (target_named i.name known)).uses ≡ true
  target-runs i = by (object_named i.name known) refl
    where
      by : (o : Option Object) → object_named i.name known ≡ o →
          all_run known (uses_of i (target_of (table_in o))).uses ≡ true
      by None e = refl
      by (Some (TableObject t)) e = ap (λ o. is_run o && true) e
      by (Some (FunctionObject f)) e = refl
      by (Some (InterpretedObject f)) e = refl
      by (Some (ProcedureObject p)) e = refl

  insert-runs : (s : Insert) → (judged_insert s (at_top known)).faults ≡ [] →
      all_run known (judged_insert s (at_top known)).uses ≡ true
  insert-runs s p =
      let to = target_named s.table.name known in
      let seen = inside_writing (at_top known) in
      let source = judge_query (kinds_into to s.columns) s.source seen in
      let width = wrong_width to s.columns source.value in
      runs-both known (uses_of s.table to).uses source.uses (target-runs s.table)
      (query-runs (kinds_into to s.columns) s.source seen refl (λ name h. refl)
      (front_nil source.faults width (back_nil (into_faults s to) (source.faults ++ width) p)))

  -- ---- UPDATE and DELETE

  -- the table in sight, if it is known
  opened-runs : (i : Ident) → all_run known (opened i (inside_writing (at_top known))).uses ≡ true
  opened-runs i = by (object_named i.name known) refl
    where
      by : (o : Option Object) → object_named i.name known ≡ o →
          all_run known (table_uses i.name (table_in o) ++ []) ≡ true
      by None e = refl
      by (Some (TableObject t)) e = ap (λ o. is_run o && true) e
      by (Some (FunctionObject f)) e = refl
      by (Some (InterpretedObject f)) e = refl
      by (Some (ProcedureObject p)) e = refl

  module _ (seen : Seen) (is : seen.catalog ≡ known) (bare : may_stand seen.levels ≡ false)
      (free : seen.own ≡ None) where
    judged-runs : (e : Expr) → (judge e seen).faults ≡ [] → all_run known (judge e seen).uses ≡ true
    judged-runs e p = expr-runs e seen is bare (λ name h. ap (is_own name) free) p

    where-runs : (filter : Option Expr) → (judged_where filter seen).faults ≡ [] →
        all_run known (judged_where filter seen).uses ≡ true
    where-runs None p = refl
    where-runs (Some e) p = let x = judge e seen in
        judged-runs e (front_nil x.faults (misfit Boolean x.value.head) p)

    values-run : (n : List ℕ) (so : List BoundExpr) (sets : List Assignment) →
        (each_noted (one_value (target_named n known) seen) so sets).faults ≡ []
        → all_run known (each_noted (one_value (target_named n known) seen) so sets).uses ≡ true
    values-run n so [] p = refl
    values-run n so (a ∷ sets) p =
        let to = target_named n known in
        let x = judge a.value seen in
        let one = one_value to seen so a in
        let rest = each_noted (one_value to seen) one.value sets in
        runs-both known x.uses rest.uses (judged-runs a.value
        (front_nil x.faults (misfit (kind_named to a.target) x.value.head)
        (front_nil one.faults rest.faults p)))
        (values-run n one.value sets (back_nil one.faults rest.faults p))

  update-runs : (s : Update) → (judged_update s (at_top known)).faults ≡ [] →
      all_run known (judged_update s (at_top known)).uses ≡ true
  update-runs s p =
      let to = target_named s.table.name known in
      let outer = inside_writing (at_top known) in
      let row = opened s.table outer in
      let seen = in_row outer row.value in
      let values = judged_values to seen s.assignments in
      let conjuncts = judged_where s.filter seen in
      let rows = values.faults ++ conjuncts.faults in
      let asked = back_nil (target_faults to (assigned s)) rows
      (back_nil row.faults (target_faults to (assigned s) ++ rows) p) in
      runs-both known row.uses (values.uses ++ conjuncts.uses) (opened-runs s.table)
      (runs-both known values.uses conjuncts.uses
      (values-run seen refl refl refl s.table.name [] s.assignments
      (front_nil values.faults conjuncts.faults asked))
      (where-runs seen refl refl refl s.filter (back_nil values.faults conjuncts.faults asked)))

  delete-runs : (s : Delete) → (judged_delete s (at_top known)).faults ≡ [] →
      all_run known (judged_delete s (at_top known)).uses ≡ true
  delete-runs s p =
      let outer = inside_writing (at_top known) in
      let row = opened s.table outer in
      let seen = in_row outer row.value in
      let conjuncts = judged_where s.filter seen in
      runs-both known row.uses conjuncts.uses (opened-runs s.table)
      (where-runs seen refl refl refl s.filter (back_nil row.faults conjuncts.faults p))

  -- ---- CREATE FUNCTION

  returning-runs : (s : Definition) (result : Expr) →
      calls_in s.name.name (judged_result s result (parameters_of s.parameters) known).uses ≡ false
      → is_light known (judged_result s result (parameters_of s.parameters) known).value ≡ true
      → (judged_returning s result known).faults ≡ [] →
      is_planned (judged_returning s result known).value ≡ true
  returning-runs s result c l p =
      let place = in_function s (parameters_of s.parameters) known in
      let seen = seen_from place in
      let x = judge result seen in
      let given = misfit (kind_of_type (type_of s.returns)) x.value.head in
      let asked = asked_of_result s known x.uses in
      let heads = signature_faults s known ++ group_faults s.characteristics in
      let inside = front_nil (x.faults ++ given) asked
      (back_nil heads ((x.faults ++ given) ++ asked) p) in
      let access = access_of_result s known x.uses in
      ap (λ b. is_planned (if b then planned_function s known access x.uses x.value.tree else
      interpreted s known access x.uses (Return x.value.tree)))
      (and_from (all_run known x.uses) (is_light known x.value.tree)
      (expr-runs result seen refl refl (outside (own_function s) x.uses c)
      (front_nil x.faults given inside)) l)

  definition-runs : (s : Definition) (result : Option Expr) → is_some result ≡ true →
      calls_back s result known ≡ false → returns_light s result known ≡ true
      → (judged_object s result known).faults ≡ []
      → is_planned (judged_object s result known).value ≡ true
  definition-runs s None r c l p = absurd cc
  definition-runs s (Some result) r c l p = returning-runs s result c l p

  -- of a function without characteristics the value that it returns is its form
  bare : (cs : List Characteristic) (value : Option Expr) → is_some (if_bare cs value) ≡ true →
      if_bare cs value ≡ value
  bare [] value r = refl
  bare (c ∷ cs) value r = absurd cc

  created-runs : (s : Definition) (value : Option Expr) →
      is_some (if_bare s.characteristics value) ≡ true
      → calls_back s (if_bare s.characteristics value) known ≡ false →
      returns_light s (if_bare s.characteristics value) known ≡ true →
      (judged_object s value known).faults ≡ []
      → (is_some (if_bare s.characteristics value) &&
      is_planned (judged_object s value known).value) ≡ true
  created-runs s value r c l p =
      let same = bare s.characteristics value r in
      and_from (is_some (if_bare s.characteristics value))
      (is_planned (judged_object s value known).value) r
      (definition-runs s value (ap is_some (sym same) ∙ r)
      (ap (λ o. calls_back s o known) (sym same) ∙ c)
      (ap (λ o. returns_light s o known) (sym same) ∙ l) p)

  -- ---- statements

  form-runs : (y : Form) (whole : Stmt) → has_run_form y ≡ true →
      form_calls_itself y known ≡ false → form_is_light y known ≡ true →
      (judged_form y whole known).faults ≡ [] →
      (judged_form y whole known).value.by_plan ≡ true
  form-runs (Stmt-F.CreateTable s) whole r c l p = refl
  form-runs (Stmt-F.CreateFunction s) whole r c l p =
      created-runs (out-CreateFunction s) (value_returned (out-Stmt (out-CreateFunction s).body))
      r c l p
  form-runs (Stmt-F.CreateProcedure s) whole r c l p = absurd cc
  form-runs (Stmt-F.Drop s) whole r c l p = refl
  form-runs (Stmt-F.Insert s) whole r c l p = insert-runs s p
  form-runs (Stmt-F.Update s) whole r c l p = update-runs s p
  form-runs (Stmt-F.Delete s) whole r c l p = delete-runs s p
  form-runs (Stmt-F.Query q) whole r c l p = ordered-runs q p
  form-runs (Stmt-F.Explain anchor q) whole r c l p = absurd cc
  form-runs (Stmt-F.Call s) whole r c l p = absurd cc
  form-runs (Stmt-F.Labelled s) whole r c l p = absurd cc
  form-runs (Stmt-F.If s) whole r c l p = absurd cc
  form-runs (Stmt-F.Case s) whole r c l p = absurd cc
  form-runs (Stmt-F.Set anchor a) whole r c l p = absurd cc
  form-runs (Stmt-F.SelectInto s) whole r c l p = absurd cc
  form-runs (Stmt-F.Open anchor i) whole r c l p = absurd cc
  form-runs (Stmt-F.Close anchor i) whole r c l p = absurd cc
  form-runs (Stmt-F.Fetch s) whole r c l p = absurd cc
  form-runs (Stmt-F.Signal s) whole r c l p = absurd cc
  form-runs (Stmt-F.Resignal s) whole r c l p = absurd cc
  form-runs (Stmt-F.GetDiagnostics s) whole r c l p = absurd cc
  form-runs (Stmt-F.Leave anchor i) whole r c l p = absurd cc
  form-runs (Stmt-F.Iterate anchor i) whole r c l p = absurd cc
  form-runs (Stmt-F.Return anchor value) whole r c l p = absurd cc

pub faultless-runs : FaultlessRuns
faultless-runs s catalog all plans r c l p = form-runs catalog all plans (out-Stmt s) s r c l p
