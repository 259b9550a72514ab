-- A statement without faults makes what fits the catalog.
use Rattle.std.proofs.Common.{◌≡◌, refl, sym, ◌∙◌, subst, arith, ℕ, ◌+◌, ◌<◌, nat_lt, Bool, true, false}
use Rattle.std.proofs.Common.{List, [], ◌∷◌, ◌++◌, Option, Some, None}
use Rattle.std.specs.Prelude.{is_some, not, ◌==◌, if◌then◌else◌}
use Rattle.std.proofs.lemmas.Bool.{and_parts}
use Rattle.std.proofs.lemmas.Bool.Decides.{nat_tests}
use Rattle.syntax_trees.specs.declared.anchor.Ident.{Ident}
use Rattle.statement_trees.specs.declared.definition.CreateTable.{CreateTable}
use Rattle.syntax_trees.specs.declared.expr.Expr.{Expr}
use Rattle.syntax_trees.specs.declared.query.OrderedQuery.{OrderedQuery}
use Rattle.statement_trees.specs.declared.statement.CreateFunction.{out-CreateFunction}
use Rattle.statement_trees.specs.declared.statement.CreateProcedure.{out-CreateProcedure}
use Rattle.statement_trees.specs.declared.definition.DropObject.{DropObject}
use Rattle.statement_trees.specs.declared.definition.ObjectSort.{ObjectSort}
use Rattle.statement_trees.specs.declared.writing.Delete.{Delete}
use Rattle.statement_trees.specs.declared.writing.Insert.{Insert}
use Rattle.statement_trees.specs.declared.writing.Update.{Update}
use Rattle.statement_trees.specs.declared.statement.Stmt.{Stmt, out-Stmt}
use Rattle.statement_trees.specs.declared.statement.Declaration.TheOpen.{Stmt-F}
use Rattle.bound_trees.specs.declared.expr.BoundExpr.{BoundExpr}
use Rattle.bound_trees.specs.declared.statement.BoundStmt.TheVariants.{Return}
use Rattle.catalog_store.specs.Catalog.{Object, Catalog, object_named}
use Rattle.catalog_store.specs.Entries.{ObjectFits}
use Rattle.catalog_store.specs.Planning.{AllPlanned}
use Rattle.catalog_store.specs.Users.{users_of}
use Rattle.catalog_store.specs.Uses.{Uses, UsesStand, AllFit, SameNames, names_used, uses_in}
use Rattle.catalog_store.specs.Uses.{uses_in_query}
use Rattle.catalog_store.specs.View.{tree_of}
use Rattle.rel_algebra.specs.Plain.{planned_expr}
use Rattle.bind_faults.specs.Faults.{noted}
use Rattle.bind_faults.specs.declared.fault.FaultKind.TheVariants.{DuplicateName, NotPermitted}
use Rattle.bind_faults.specs.declared.fault.FaultKind.TheVariants.{TooHigh}
use Rattle.bind_faults.proofs.Laws.{is_free}
use Rattle.bind_kinds.specs.Kinds.{kind_of_type, misfit}
use Rattle.bind_kinds.specs.Types.{type_of, type_faults}
use Rattle.bind_sight.specs.Sight.{at_top, inside_writing}
use Rattle.bind_queries.specs.Binds.{HasPlan}
use Rattle.bind_queries.specs.Heights.{greatest_height}
use Rattle.bind_queries.specs.Names.{judge}
use Rattle.bind_queries.specs.Queries.{judge_query}
use Rattle.bind_queries.specs.Order.{judge_ordered, judge_ordered_typed}
use Rattle.bind_queries.specs.Runs.{all_run, Runs}
use Rattle.bind_queries.proofs.Laws.{front_nil, back_nil, no_fault, fitting, query_planned}
use Rattle.bind_queries.proofs.Laws.{ordered_planned, ordered_names, runs-same, runs-parts}
use Rattle.bind_rules.specs.Names.{taken_name}
use Rattle.bind_changes.specs.Writing.{target_named, uses_of, kinds_into, into_faults}
use Rattle.bind_changes.specs.Writing.{wrong_width}
use Rattle.bind_changes.specs.Writing.{judged_insert, opened, in_row, judged_values, judged_where}
use Rattle.bind_changes.specs.Writing.{target_faults, assigned, judged_update, judged_delete}
use Rattle.bind_simple.specs.Places.{seen_from}
use Rattle.bind_direct.specs.declared.bound.BoundStatement.{BoundStatement}
use Rattle.bind_direct.specs.declared.bound.Bound.TheVariants as bound
use Rattle.bind_rules.specs.declared.heights.TheConstants.{MOST_HEIGHT}
use Rattle.bind_statements.specs.Binds.{FaultlessFits, StatementFits, MeetsRows}
use Rattle.bind_definitions.specs.Characteristics.{group_faults, null_call_faults, need_of}
use Rattle.bind_definitions.specs.Characteristics.{access_faults}
use Rattle.bind_rules.specs.Definitions.{Definition, ProcedureDefinition}
use Rattle.bind_direct.specs.Returning.{in_function, judged_returning}
use Rattle.bind_statements.specs.Functions.{function_with}
use Rattle.bind_statements.specs.Functions.{body_of_function, judged_function, procedure_faults}
use Rattle.bind_statements.specs.Functions.{procedure_with, body_of_procedure, judged_procedure}
use Rattle.bind_definitions.specs.Making.{signature_faults, planned_function, interpreted}
use Rattle.bind_definitions.specs.Making.{is_light, has_plan}
use Rattle.bind_definitions.specs.Making.{access_of_result}
use Rattle.bind_definitions.proofs.Laws.{guarded_uses, guarded_planned}
use Rattle.bind_definitions.specs.Routines.{parameters_of, parameter_faults, stands, used_in}
use Rattle.bind_rules.specs.Heights.{height_above, too_high}
use Rattle.bind_definitions.specs.Removals.{is_of_sort, judged_drop}
use Rattle.bind_rules.specs.Drops.{drop_faults}
use Rattle.bind_rules.specs.Definitions.{Form, value_returned}
use Rattle.bind_statements.specs.Statements.{judged_object, judged_form, judged_statement}
use Rattle.bind_definitions.specs.Tables.{element_faults, judged_table}
use Rattle.bind_definitions.proofs.Laws.{key-columns}
use Rattle.bind_statements.proofs.Meeting.{rows-met, values-planned, where-planned}

none : (o : Option Object) → is_some o ≡ false → o ≡ None
none None p = refl
none (Some o) p = absurd cc

free : (i : Ident) (catalog : Catalog) → taken_name i catalog ≡ [] →
    object_named i.name catalog ≡ None
free i catalog p = none (object_named i.name catalog)
    (no_fault (is_some (object_named i.name catalog)) DuplicateName i.anchor p)

table-fits : (s : CreateTable) (catalog : Catalog) → (judged_table s catalog).faults ≡ [] →
    (object_named s.name.name catalog ≡ None) × ObjectFits catalog (judged_table s catalog).value
table-fits s catalog p =
    let fs : taken_name s.name catalog ++ element_faults s ≡ [] =
    front_nil (taken_name s.name catalog ++ element_faults s) [] p in (
      free s.name catalog (front_nil (taken_name s.name catalog) (element_faults s) fs),
      key-columns
          s.elements,
    )

low_enough : (n : ℕ) → nat_lt MOST_HEIGHT (n + 1) ≡ false → n < height_above n
low_enough n p = grind (arith, nat_tests)

-- the names that stand for something do so
kept-stand : (catalog : Catalog) (name : List ℕ) (names : List (List ℕ)) →
    UsesStand catalog (used_in catalog names) → UsesStand catalog (used_in catalog (name ∷ names))
kept-stand catalog name names p = by (stands catalog name) refl
  where
    by : (b : Bool) → stands catalog name ≡ b →
        UsesStand catalog (if b then name ∷ used_in catalog names else used_in catalog names)
    by true e = (e, p)
    by false e = p

used-stand : (catalog : Catalog) (names : List (List ℕ)) → UsesStand catalog (used_in catalog names)
used-stand catalog [] = tt
used-stand catalog (name ∷ names) = kept-stand catalog name names (used-stand catalog names)

-- a function with a plan, or without one
either-fits : (s : Definition) (catalog : Catalog) (uses : List (List ℕ)) (tree : BoundExpr)
    (b : Bool) →
    (b ≡ true → ObjectFits catalog
    (planned_function s catalog (access_of_result s catalog uses) uses tree))
    → ObjectFits catalog
    (if b then planned_function s catalog (access_of_result s catalog uses) uses tree else
    interpreted s catalog (access_of_result s catalog uses) uses (Return tree))
either-fits s catalog uses tree true f = f refl
either-fits s catalog uses tree false f = used-stand catalog uses

-- RETURNS NULL ON NULL INPUT changes neither what a function uses nor whether it has a plan
guarded-fits : (s : Definition) (catalog : Catalog) (uses : List (List ℕ)) (tree : BoundExpr)
    → AllFit catalog (height_above (greatest_height catalog uses)) (uses_in tree) →
    SameNames uses (names_used (uses_in tree)) → planned_expr (tree_of catalog tree) ≡ true →
    ObjectFits catalog (planned_function s catalog (access_of_result s catalog uses) uses tree)
guarded-fits s catalog uses tree all same planned =
    let used = sym (guarded_uses s tree) in record {
      all = subst (λ (us : Uses). AllFit catalog (height_above (greatest_height catalog uses)) us)
          used all;
      uses = subst (λ (us : Uses). SameNames uses (names_used us)) used same;
      planned = guarded_planned catalog s tree ∙ planned;
    }

returning-fits : (s : Definition) (result : Expr) (catalog : Catalog) → AllPlanned catalog →
    (judged_returning s result catalog).faults ≡ []
    → (object_named s.name.name catalog ≡ None) ×
    ObjectFits catalog (judged_returning s result catalog).value
returning-fits s result catalog all p =
    let seen = seen_from (in_function s (parameters_of s.parameters) catalog) in
    let expr = judge result seen in
    let given = misfit (kind_of_type (type_of s.returns)) expr.value.head in
    let called = greatest_height catalog expr.uses in
    let high = too_high s.name called in
    let access = access_faults (need_of catalog expr.uses false) s.characteristics in
    let asked = (expr.faults ++ given) ++ (access ++ high) in
    let groups = group_faults s.characteristics in
    let heads = signature_faults s catalog in
    let rest = back_nil (heads ++ groups) asked p in
    let first = front_nil heads groups (front_nil (heads ++ groups) asked p) in
    let inside = front_nil (expr.faults ++ given) (access ++ high) rest in
    let new = free s.name catalog (front_nil (taken_name s.name catalog)
    (parameter_faults s.parameters ++ type_faults s.returns) first) in
    let covers = fitting catalog all result seen refl refl (front_nil expr.faults given inside) in
    let low = no_fault (nat_lt MOST_HEIGHT (called + 1)) TooHigh s.name.anchor
    (back_nil access high (back_nil (expr.faults ++ given) (access ++ high) rest)) in (
      new,
      either-fits s catalog expr.uses expr.value.tree (has_plan catalog expr.uses expr.value.tree)
          (λ (plan : has_plan catalog expr.uses expr.value.tree ≡ true).
          let runs = (and_parts (all_run catalog expr.uses) (is_light catalog expr.value.tree)
          plan).0 in
          guarded-fits s catalog expr.uses expr.value.tree
          (covers.0 new runs (height_above called) (low_enough called low)) covers.2
          (covers.1 new runs)),
    )

-- a function whose body is another statement
function-fits : (s : Definition) (catalog : Catalog) → (judged_function s catalog).faults ≡ []
    → (object_named s.name.name catalog ≡ None) ×
    ObjectFits catalog (judged_function s catalog).value
function-fits s catalog p =
    let body = body_of_function s (parameters_of s.parameters) catalog in
    let heads = signature_faults s catalog in
    let groups = group_faults s.characteristics in
    let first = front_nil heads groups (front_nil (heads ++ groups)
    (function_with s catalog body).faults p) in (
      free s.name catalog (front_nil (taken_name s.name catalog)
          (parameter_faults s.parameters ++ type_faults s.returns) first),
      used-stand catalog body.uses,
    )

procedure-fits : (s : ProcedureDefinition) (catalog : Catalog) →
    (judged_procedure s catalog).faults ≡ []
    → (object_named s.name.name catalog ≡ None) ×
    ObjectFits catalog (judged_procedure s catalog).value
procedure-fits s catalog p =
    let body = body_of_procedure s (parameters_of s.parameters) catalog in
    let rest = parameter_faults s.parameters ++
    (group_faults s.characteristics ++ null_call_faults s.characteristics) in (
      free s.name catalog (front_nil (taken_name s.name catalog) rest
          (front_nil (procedure_faults s catalog) (procedure_with s catalog body).faults p)),
      used-stand catalog body.uses,
    )

definition-fits : (s : Definition) (result : Option Expr) (catalog : Catalog) → AllPlanned catalog →
    (judged_object s result catalog).faults ≡ []
    → (object_named s.name.name catalog ≡ None) ×
    ObjectFits catalog (judged_object s result catalog).value
definition-fits s None catalog all p = function-fits s catalog p
definition-fits s (Some result) catalog all p = returning-fits s result catalog all p

no-users : (n : ℕ) → not (n == 0) ≡ false → n ≡ 0
no-users n p = grind (arith, nat_tests)

unused : (b : Bool) (n : ℕ) (i : Ident) → drop_faults i b n ≡ [] → (b ≡ true) × (n ≡ 0)
unused false n i p = absurd cc
unused true n i p = (refl, no-users n (no_fault (not (n == 0)) NotPermitted i.anchor p))

there : (s : ObjectSort) (o : Option Object) → is_of_sort s o ≡ true → is_some o ≡ true
there s None p = absurd cc
there s (Some o) p = refl

drop-fits : (s : DropObject) (catalog : Catalog) → (judged_drop s catalog).faults ≡ [] →
    (is_some (object_named s.name.name catalog) ≡ true) × (users_of s.name.name catalog ≡ 0)
drop-fits s catalog p =
    let o = object_named s.name.name catalog in
    let users = users_of s.name.name catalog in
    let found = unused (is_of_sort s.sort o) users s.name
    (front_nil (drop_faults s.name (is_of_sort s.sort o) users) [] p) in
    (there s.sort o found.0, found.1)

insert-fits : (s : Insert) (catalog : Catalog) → AllPlanned catalog →
    (judged_insert s (at_top catalog)).faults ≡ []
    → Runs catalog (judged_insert s (at_top catalog)).uses →
    HasPlan catalog (judged_insert s (at_top catalog)).value.insert.source
insert-fits s catalog all p runs =
    let to = target_named s.table.name catalog in
    let seen = inside_writing (at_top catalog) in
    let source = judge_query (kinds_into to s.columns) s.source seen in
    let width = wrong_width to s.columns source.value in
    query_planned catalog all (kinds_into to s.columns) s.source seen refl
    (front_nil source.faults width (back_nil (into_faults s to) (source.faults ++ width) p)) tt
    (runs-parts catalog (uses_of s.table to).uses source.uses runs).1

update-fits : (s : Update) (catalog : Catalog) → AllPlanned catalog →
    (judged_update s (at_top catalog)).faults ≡ []
    → Runs catalog (judged_update s (at_top catalog)).uses →
    MeetsRows catalog s.table.name (judged_update s (at_top catalog)).value.rows
update-fits s catalog all p runs =
    let to = target_named s.table.name catalog in
    let outer = inside_writing (at_top catalog) in
    let row = opened s.table outer in
    let seen = in_row outer row.value in
    let values = judged_values to seen s.assignments in
    let conjuncts = judged_where s.filter seen in
    let rows = values.faults ++ conjuncts.faults in
    let asked = back_nil (target_faults to (assigned s)) rows
    (back_nil row.faults (target_faults to (assigned s) ++ rows) p) in
    let inside = (runs-parts catalog row.uses (values.uses ++ conjuncts.uses) runs).1 in
    let both = runs-parts catalog values.uses conjuncts.uses inside in
    rows-met catalog s.table.name values.value conjuncts.value
    (values-planned catalog all seen refl refl tt s.table.name [] s.assignments refl
    (front_nil values.faults conjuncts.faults asked) both.0)
    (where-planned catalog all seen refl refl tt s.filter
    (back_nil values.faults conjuncts.faults asked) both.1)

delete-fits : (s : Delete) (catalog : Catalog) → AllPlanned catalog →
    (judged_delete s (at_top catalog)).faults ≡ []
    → Runs catalog (judged_delete s (at_top catalog)).uses →
    MeetsRows catalog s.table.name (judged_delete s (at_top catalog)).value.rows
delete-fits s catalog all p runs =
    let outer = inside_writing (at_top catalog) in
    let row = opened s.table outer in
    let seen = in_row outer row.value in
    let conjuncts = judged_where s.filter seen in
    rows-met catalog s.table.name [] conjuncts.value refl
    (where-planned catalog all seen refl refl tt s.filter (back_nil row.faults conjuncts.faults p)
    (runs-parts catalog row.uses conjuncts.uses runs).1)

explain-fits : (q : OrderedQuery) (catalog : Catalog) → AllPlanned catalog →
    (judge_ordered q (at_top catalog)).faults ≡ []
    → Runs catalog (names_used (uses_in_query (judge_ordered q (at_top catalog)).value)) →
    HasPlan catalog (judge_ordered q (at_top catalog)).value
explain-fits q catalog all p runs =
    let x = judge_ordered_typed q (at_top catalog) in
    ordered_planned catalog all q (at_top catalog) refl p tt
    (runs-same catalog (names_used (uses_in_query x.value.tree)) x.uses
    (λ name. sym (ordered_names catalog all q (at_top catalog) refl p name)) runs)

form-fits : (y : Form) (whole : Stmt) (catalog : Catalog) → AllPlanned catalog →
    (judged_form y whole catalog).faults ≡ []
    → StatementFits catalog (judged_form y whole catalog).value
form-fits (Stmt-F.CreateTable s) whole catalog all p = table-fits s catalog p
form-fits (Stmt-F.CreateFunction s) whole catalog all p =
    definition-fits (out-CreateFunction s) (value_returned (out-Stmt (out-CreateFunction s).body))
    catalog all p
form-fits (Stmt-F.CreateProcedure s) whole catalog all p =
    procedure-fits (out-CreateProcedure s) catalog p
form-fits (Stmt-F.Drop s) whole catalog all p = drop-fits s catalog p
form-fits (Stmt-F.Insert s) whole catalog all p = λ runs. insert-fits s catalog all p runs
form-fits (Stmt-F.Update s) whole catalog all p = λ runs. update-fits s catalog all p runs
form-fits (Stmt-F.Delete s) whole catalog all p = λ runs. delete-fits s catalog all p runs
form-fits (Stmt-F.Query q) whole catalog all p = λ runs.
    ordered_planned catalog all q (at_top catalog) refl p tt runs
form-fits (Stmt-F.Explain anchor q) whole catalog all p = λ runs. explain-fits q catalog all p runs
form-fits (Stmt-F.Call s) whole catalog all p = tt
form-fits (Stmt-F.Labelled s) whole catalog all p = tt
form-fits (Stmt-F.If s) whole catalog all p = tt
form-fits (Stmt-F.Case s) whole catalog all p = tt
form-fits (Stmt-F.Set anchor a) whole catalog all p = tt
form-fits (Stmt-F.SelectInto s) whole catalog all p = tt
form-fits (Stmt-F.Open anchor i) whole catalog all p = tt
form-fits (Stmt-F.Close anchor i) whole catalog all p = tt
form-fits (Stmt-F.Fetch s) whole catalog all p = tt
form-fits (Stmt-F.Signal s) whole catalog all p = tt
form-fits (Stmt-F.Resignal s) whole catalog all p = tt
form-fits (Stmt-F.GetDiagnostics s) whole catalog all p = tt
form-fits (Stmt-F.Leave anchor i) whole catalog all p = tt
form-fits (Stmt-F.Iterate anchor i) whole catalog all p = tt
form-fits (Stmt-F.Return anchor value) whole catalog all p = tt

pub faultless-fits : FaultlessFits
faultless-fits s catalog all p = form-fits (out-Stmt s) s catalog all p

pub bound_fits : (s : Stmt) (catalog : Catalog) (b : BoundStatement) →
    b ≡ (judged_statement s catalog).value → noted None (judged_statement s catalog).faults ≡ None →
    AllPlanned catalog
    → StatementFits catalog b
bound_fits s catalog b p q all = subst (StatementFits catalog) (sym p)
    (faultless-fits s catalog all (is_free (judged_statement s catalog).faults q))
