-- Statements that hold plain trees are judged as these are, which computes.
use Rattle.std.proofs.Common.{◌≡◌, refl, ap, ap₂, ◌∙◌, ℕ, false, List, [], ◌∷◌, ◌++◌, map, length}
use Rattle.std.proofs.Common.{Option, Some, None}
use Rattle.std.specs.Prelude.{codes, is_some, ◌&&◌}
use Rattle.syntax_trees.specs.declared.expr.Expr.{Expr as Tree}
use Rattle.syntax_trees.specs.declared.anchor.Ident.{Ident}
use Rattle.syntax_trees.specs.declared.data_type.DataType.{DataType}
use Rattle.statement_trees.specs.declared.definition.Characteristic.{Characteristic}
use Rattle.statement_trees.specs.declared.definition.Column.{Column}
use Rattle.statement_trees.specs.declared.definition.ObjectSort.{ObjectSort}
use Rattle.statement_trees.specs.declared.definition.Parameter.{Parameter}
use Rattle.statement_trees.specs.declared.definition.TableElement.{TableElement}
use Rattle.statement_trees.specs.declared.definition.TableElement.TheVariants as element
use Rattle.statement_trees.specs.declared.statement.Block.{Block}
use Rattle.statement_trees.specs.declared.statement.Branch.{Branch}
use Rattle.statement_trees.specs.declared.statement.Case.{Case}
use Rattle.statement_trees.specs.declared.statement.CreateFunction.{CreateFunction}
use Rattle.statement_trees.specs.declared.statement.CreateFunction.{roll-CreateFunction}
use Rattle.statement_trees.specs.declared.statement.CreateProcedure.{CreateProcedure}
use Rattle.statement_trees.specs.declared.statement.CreateProcedure.{roll-CreateProcedure}
use Rattle.statement_trees.specs.declared.statement.Declaration.{Declaration}
use Rattle.statement_trees.specs.declared.statement.Declaration.TheOpen.{Stmt-F, Labelled-F}
use Rattle.statement_trees.specs.declared.statement.Declaration.TheViews.{out-roll-CreateFunction}
use Rattle.statement_trees.specs.declared.statement.Declaration.TheViews.{out-roll-CreateProcedure}
use Rattle.statement_trees.specs.declared.statement.Declaration.TheViews.{out-roll-Labelled}
use Rattle.statement_trees.specs.declared.statement.Declaration.TheViews.{outs-CreateTable}
use Rattle.statement_trees.specs.declared.statement.Declaration.TheViews.{outs-CreateFunction}
use Rattle.statement_trees.specs.declared.statement.Declaration.TheViews.{outs-CreateProcedure}
use Rattle.statement_trees.specs.declared.statement.Declaration.TheViews.{outs-Drop, outs-Insert}
use Rattle.statement_trees.specs.declared.statement.Declaration.TheViews.{outs-Update, outs-Delete}
use Rattle.statement_trees.specs.declared.statement.Declaration.TheViews.{outs-Query, outs-Explain}
use Rattle.statement_trees.specs.declared.statement.Declaration.TheViews.{outs-Call, outs-Labelled}
use Rattle.statement_trees.specs.declared.statement.Declaration.TheViews.{outs-Return}
use Rattle.statement_trees.specs.declared.statement.Handler.{Handler}
use Rattle.statement_trees.specs.declared.statement.If.{If}
use Rattle.statement_trees.specs.declared.statement.Labelled.{Labelled, roll-Labelled}
use Rattle.statement_trees.specs.declared.statement.Stmt.{Stmt, out-Stmt}
use Rattle.statement_trees.specs.declared.statement.Stmt.TheVariants as stmt
use Rattle.statement_trees.specs.declared.statement.Structure.{Structure}
use Rattle.statement_trees.specs.declared.writing.Delete.{Delete}
use Rattle.statement_trees.specs.declared.writing.Insert.{Insert}
use Rattle.statement_trees.specs.declared.writing.Update.{Update}
use Rattle.bound_trees.specs.declared.expr.BoundExpr.{BoundExpr}
use Rattle.bind_faults.specs.Faults.{Noted, after, both, ◌>>=◌, ◌>>◌, as_value}
use Rattle.bind_kinds.specs.Kinds.{kind_of_type, misfit}
use Rattle.bind_kinds.specs.Types.{type_of}
use Rattle.bind_sight.specs.Sight.{Seen, at_top, inside_writing}
use Rattle.bind_parts.specs.declared.typed.Typed.{Typed}
use Rattle.bind_parts.specs.declared.typed.TypedQuery.{TypedQuery}
use Rattle.bind_parts.specs.Order.{ordered_by}
use Rattle.bind_parts.specs.Turns.{each_noted}
use Rattle.bind_parts.specs.Typed.{alone, no_parts}
use Rattle.catalog_store.specs.Catalog.{Catalog}
use Rattle.catalog_store.specs.declared.entry.Object.{Object as NewObject}
use Rattle.bind_queries.specs.Examples.{at, called, null, catalog}
use Rattle.bind_queries.specs.Judges.{Expression, look}
use Rattle.bind_queries.specs.Lists.{judged_filter, judged_test}
use Rattle.bind_queries.specs.Written.{Expr, Query, expr_of}
use Rattle.bind_queries.proofs.Laws.{plain, expr_plain, plain_query, query_plain}
use Rattle.bind_direct.specs.declared.bound.BoundStatement.{BoundStatement}
use Rattle.bind_direct.specs.declared.bound.Bound.TheVariants as bound
use Rattle.bind_statements.specs.Examples.{unordered, asked, values_of, values, insert_of, insert}
use Rattle.bind_statements.specs.Examples.{listed_row, listed_of, insert_listed, assignment}
use Rattle.bind_statements.specs.Examples.{filter_of, update_of, update, delete_of, delete}
use Rattle.bind_statements.specs.Examples.{select_of, select, new_table, table_of, table, removal}
use Rattle.bind_statements.specs.Examples.{drop, definition_returning, new_function, function}
use Rattle.bind_statements.specs.Examples.{g_of, function_g, call_of}
use Rattle.bind_statements.specs.Examples.{begin_end, block, procedure, explained}
use Rattle.bind_rules.specs.Definitions.{Definition, ProcedureDefinition}
use Rattle.bind_direct.specs.Direct.{asking_nothing, not_planned, run_over, with_plans, is_planned, created}
use Rattle.bind_direct.specs.Direct.{direct_call}
use Rattle.bind_direct.specs.Returning.{in_function, returning_with}
use Rattle.bind_statements.specs.Functions.{judged_function}
use Rattle.bind_definitions.specs.Characteristics.{group_faults}
use Rattle.bind_definitions.specs.Making.{signature_faults}
use Rattle.bind_definitions.specs.Routines.{parameters_of}
use Rattle.bind_simple.specs.Places.{seen_from}
use Rattle.bind_definitions.specs.Removals.{judged_drop}
use Rattle.bind_rules.specs.Definitions.{Form, value_returned, if_bare}
use Rattle.bind_statements.specs.Statements.{judged_routine, judged_object, judged_definition}
use Rattle.bind_statements.specs.Statements.{judged_form, judged_statement, anchor_of_form}
use Rattle.bind_statements.specs.Statements.{anchor_of}
use Rattle.bind_definitions.specs.Tables.{judged_table}
use Rattle.bind_changes.specs.Writing.{asked as with_faults, uses_of, wrong_width, target_named}
use Rattle.bind_changes.specs.Writing.{kind_named, target_faults, into_faults, kinds_into}
use Rattle.bind_changes.specs.Writing.{rows_into, opened, in_row, met_query, judged_where, of_kind}
use Rattle.bind_changes.specs.Writing.{one_value, assigned, with_targets, of_rows}

-- a statement is judged as its form is
of_form : (s : Stmt) (y : Form) (known : Catalog) → out-Stmt s ≡ y →
    judged_statement s known ≡ judged_form y s known
of_form s y known p = ap (λ z. judged_form z s known) p

-- ---- queries and INSERT

abbrev pub answered : Noted TypedQuery → Noted BoundStatement
answered x = run_over catalog (λ b. bound.Query b)
    (as_value (λ (t : TypedQuery). t.tree) (x >>= ordered_by []))

asked-row : (q : Query) → judged_statement (asked q) catalog ≡ answered
    (plain_query q [] (at_top catalog))
asked-row q = of_form (asked q) (Stmt-F.Query (unordered q)) catalog (outs-Query (unordered q)) ∙
    ap answered (query_plain q [] (at_top catalog))

pub select-row : (n : List ℕ) (is : List Expr) (filter : Option Expr) →
    judged_statement (select n is filter) catalog ≡ answered
    (plain_query (select_of n is filter) [] (at_top catalog))
select-row n is filter = asked-row (select_of n is filter)

pub values-row : (rs : List (List Expr)) → judged_statement (values rs) catalog ≡ answered
    (plain_query (values_of rs) [] (at_top catalog))
values-row rs = asked-row (values_of rs)

-- what a change sees
abbrev pub changing : Seen
changing = inside_writing (at_top catalog)

abbrev pub inserted : Insert → List ℕ → Noted TypedQuery → Noted BoundStatement
inserted s n x =
    let to = target_named n catalog in
    run_over catalog (λ b. bound.Insert b.insert b.listed)
    (into_faults s to >> after (uses_of s.table to)
    (with_faults (rows_into s to) (wrong_width to s.columns) x))

pub insert-row : (n : List ℕ) (rs : List (List Expr))
    → judged_statement (insert n rs) catalog ≡ inserted (insert_of n rs) n
    (plain_query (values_of rs) (target_named n catalog).kinds changing)
insert-row n rs =
    let to = target_named n catalog in
    of_form (insert n rs) (Stmt-F.Insert (insert_of n rs)) catalog (outs-Insert (insert_of n rs)) ∙
    ap (inserted (insert_of n rs) n) (query_plain (values_of rs) to.kinds changing)

pub listed-row : (n : List ℕ) (is : List Ident) (es : List Expr)
    → judged_statement (insert_listed n is es) catalog
    ≡ inserted (listed_of n is es) n (plain_query (listed_row es)
    (kinds_into (target_named n catalog) is) changing)
listed-row n is es =
    let to = target_named n catalog in
    of_form (insert_listed n is es) (Stmt-F.Insert (listed_of n is es)) catalog
    (outs-Insert (listed_of n is es))
    ∙ ap (inserted (listed_of n is es) n) (query_plain (listed_row es) (kinds_into to is) changing)

-- ---- CREATE and DROP

pub keyed-row : (n : List ℕ) (es : List TableElement) → judged_statement (table_of n es) catalog ≡
    as_value (created (called n 2)) (judged_table (new_table n es) catalog)
keyed-row n es = of_form (table_of n es) (Stmt-F.CreateTable (new_table n es)) catalog
    (outs-CreateTable (new_table n es))

pub table-row : (n : List ℕ) (cs : List Column)
    → judged_statement (table n cs) catalog ≡ as_value (created (called n 2))
    (judged_table (new_table n (map (λ c. element.Column c) cs)) catalog)
table-row n cs = keyed-row n (map (λ c. element.Column c) cs)

pub drop-row : (known : Catalog) (of : ObjectSort) (n : List ℕ) →
    judged_statement (drop of n) known ≡ asking_nothing (λ name. bound.Drop name)
    (judged_drop (removal of n) known)
drop-row known of n = of_form (drop of n) (Stmt-F.Drop (removal of n)) known
    (outs-Drop (removal of n))

-- a new function of the value that its body gives, if it is RETURN
abbrev pub created_by : Definition → Option Tree → NewObject → BoundStatement
created_by d value o = with_plans (is_some (if_bare d.characteristics value) && is_planned o)
    (bound.Create d.name.name o)

-- a function whose body is of a form
definition-row : (d : Definition) (y : Form) → out-Stmt d.body ≡ y
    → judged_statement (stmt.CreateFunction (roll-CreateFunction d)) catalog ≡ as_value
    (created_by d (value_returned y)) (judged_object d (value_returned y) catalog)
definition-row d y p =
    of_form (stmt.CreateFunction (roll-CreateFunction d))
    (Stmt-F.CreateFunction (roll-CreateFunction d)) catalog
    (outs-CreateFunction (roll-CreateFunction d))
    ∙ ap (λ z. judged_definition z catalog) (out-roll-CreateFunction d)
    ∙ ap (λ z. as_value (created_by d (value_returned z))
    (judged_object d (value_returned z) catalog)) p

-- a function of its result
abbrev pub of_result : Definition → Tree → Noted Typed → Noted BoundStatement
of_result d value t =
    as_value (created_by d (Some value)) (signature_faults d catalog ++
    group_faults d.characteristics >> returning_with d catalog
    (with_faults (λ (x : Typed). x.tree) (λ (x : Typed). misfit (kind_of_type (type_of d.returns))
    x.head) t))

-- what its body sees
abbrev pub body_sees : Definition → Seen
body_sees d = seen_from (in_function d (parameters_of d.parameters) catalog)

pub returning-row : (n : List ℕ) (ps : List Parameter) (to : DataType) (cs : List Characteristic)
    (e : Expr) →
    judged_statement (stmt.CreateFunction (roll-CreateFunction (definition_returning n ps to cs e)))
    catalog
    ≡ of_result (definition_returning n ps to cs e) (expr_of e)
    (alone (look (plain e).judge (body_sees (definition_returning n ps to cs e)) no_parts))
returning-row n ps to cs e =
    let d = definition_returning n ps to cs e in
    definition-row d (Stmt-F.Return (at 9) (expr_of e)) (outs-Return (at 9) (expr_of e))
    ∙ ap (λ (j : Expression). of_result d (expr_of e)
    (alone (look j.judge (body_sees d) no_parts))) (expr_plain e)

pub function-row : (n : List ℕ) (ps : List Parameter) (to : DataType) (e : Expr)
    → judged_statement (function n ps to e) catalog ≡ of_result (new_function n ps to e) (expr_of e)
    (alone (look (plain e).judge (body_sees (new_function n ps to e)) no_parts))
function-row n ps to e = returning-row n ps to [] e

-- ---- statements that are bound alone

abbrev LabelledForm : Type 0
LabelledForm = Labelled-F Declaration Stmt Structure Block Branch Case CreateFunction
    CreateProcedure Handler If Labelled

pub call-row : (token : ℕ) → judged_statement (stmt.Call (call_of token)) catalog ≡ direct_call
    (call_of token) catalog
call-row token = of_form (stmt.Call (call_of token)) (Stmt-F.Call (call_of token)) catalog
    (outs-Call (call_of token))

abbrev pub shown : Noted TypedQuery → Noted BoundStatement
shown x = not_planned (λ b. bound.Explain b) (as_value (λ (t : TypedQuery). t.tree)
    (x >>= ordered_by []))

pub explain-row : (n : List ℕ) → judged_statement (explained n) catalog ≡ shown
    (plain_query (select_of n (null 2 ∷ []) None) [] (at_top catalog))
explain-row n =
    let q = select_of n (null 2 ∷ []) None in
    of_form (explained n) (Stmt-F.Explain (at 0) (unordered q)) catalog
    (outs-Explain (at 0) (unordered q)) ∙ ap shown (query_plain q [] (at_top catalog))

pub block-row : (label : Option Ident) (token : ℕ) (statements : List Stmt) →
    judged_statement (block label token statements) catalog ≡ judged_routine
    (block label token statements) catalog
block-row label token statements =
    let s : LabelledForm = record {
      label = label;
      anchor = at token;
      structure =
          begin_end statements;
      end_label = None;
    } in
    of_form (stmt.Labelled (roll-Labelled s)) (Stmt-F.Labelled (roll-Labelled s)) catalog
    (outs-Labelled (roll-Labelled s))

pub procedure-row : (body : Stmt) → (judged_statement (procedure body) catalog).value.by_plan ≡ false
procedure-row body =
    let s : ProcedureDefinition = record {
      anchor = at 0;
      name = called (codes "P") 2;
      parameters =
          [];
      characteristics = [];
      body = body;
    } in
    ap (λ (x : Noted BoundStatement). x.value.by_plan)
    (of_form (stmt.CreateProcedure (roll-CreateProcedure s))
    (Stmt-F.CreateProcedure (roll-CreateProcedure s)) catalog
    (outs-CreateProcedure (roll-CreateProcedure s)))

pub body-block-row : (statements : List Stmt) →
    judged_statement (function_g [] (block None 9 statements)) catalog ≡ as_value
    (created_by (g_of [] (block None 9 statements)) None)
    (judged_function (g_of [] (block None 9 statements)) catalog)
body-block-row statements =
    let s : LabelledForm = record {
      label = None;
      anchor = at 9;
      structure = begin_end statements;
      end_label = None;
    } in
    definition-row (g_of [] (block None 9 statements)) (Stmt-F.Labelled (roll-Labelled s))
    (outs-Labelled (roll-Labelled s))

pub characteristic-row : (c : Characteristic) (cs : List Characteristic) (body : Stmt) →
    (judged_statement (function_g (c ∷ cs) body) catalog).value.by_plan ≡ false
characteristic-row c cs body = ap (λ (x : Noted BoundStatement). x.value.by_plan)
    (definition-row (g_of (c ∷ cs) body) (out-Stmt body) refl)

-- ---- anchors

pub anchor-of-call : (token : ℕ) → anchor_of (stmt.Call (call_of token)) ≡ at token
anchor-of-call token = ap anchor_of_form (outs-Call (call_of token))

pub anchor-of-explain : (n : List ℕ) → anchor_of (explained n) ≡ at 0
anchor-of-explain n = ap anchor_of_form (outs-Explain (at 0)
    (unordered (select_of n (null 2 ∷ []) None)))

pub anchor-of-block : (label : Option Ident) (token : ℕ) (statements : List Stmt) →
    anchor_of (block label token statements) ≡ at token
anchor-of-block label token statements =
    let s : LabelledForm = record {
      label = label;
      anchor = at token;
      structure =
          begin_end statements;
      end_label = None;
    } in
    ap anchor_of_form (outs-Labelled (roll-Labelled s)) ∙
    ap (λ (x : LabelledForm). x.anchor) (out-roll-Labelled s)

pub anchor-of-function : (cs : List Characteristic) (body : Stmt) →
    anchor_of (function_g cs body) ≡ at 0
anchor-of-function cs body =
    ap anchor_of_form (outs-CreateFunction (roll-CreateFunction (g_of cs body))) ∙
    ap (λ (x : Definition). x.anchor) (out-roll-CreateFunction (g_of cs body))

pub anchor-of-procedure : (body : Stmt) → anchor_of (procedure body) ≡ at 0
anchor-of-procedure body =
    let s : ProcedureDefinition = record {
      anchor = at 0;
      name = called (codes "P") 2;
      parameters =
          [];
      characteristics = [];
      body = body;
    } in
    ap anchor_of_form (outs-CreateProcedure (roll-CreateProcedure s)) ∙
    ap (λ (x : ProcedureDefinition). x.anchor) (out-roll-CreateProcedure s)

-- ---- UPDATE and DELETE

abbrev pub plain_value : List ℕ → Seen → List BoundExpr → Ident × Expr → Noted (List BoundExpr)
plain_value n seen so a = as_value (λ e. so ++ e ∷ [])
    (of_kind (kind_named (target_named n catalog) a.0)
    (alone (look (plain a.1).judge seen no_parts)))

value-plain : (n : List ℕ) (seen : Seen) (so : List BoundExpr) (a : Ident × Expr) →
    one_value (target_named n catalog) seen so (assignment a) ≡ plain_value n seen so a
value-plain n seen so a =
    ap (λ (j : Expression). as_value (λ e. so ++ e ∷ [])
    (of_kind (kind_named (target_named n catalog) a.0) (alone (look j.judge seen no_parts))))
    (expr_plain a.1)

values-plain : (n : List ℕ) (seen : Seen) (so : List BoundExpr) (sets : List (Ident × Expr))
    → each_noted (one_value (target_named n catalog) seen) so (map assignment sets) ≡ each_noted
    (plain_value n seen) so sets
values-plain n seen so [] = refl
values-plain n seen so (a ∷ sets) =
    ap (λ (x : Noted (List BoundExpr)). x >>= λ more.
    each_noted (one_value (target_named n catalog) seen) more (map assignment sets))
    (value-plain n seen so a)
    ∙ ap (λ (z : Noted (List BoundExpr)). after (plain_value n seen so a) z)
    (values-plain n seen (plain_value n seen so a).value sets)

abbrev pub plain_filter : Option Expr → Option Expression
plain_filter None = None
plain_filter (Some e) = Some (plain e)

where-plain : (filter : Option Expr) (seen : Seen) →
    judged_where (filter_of filter) seen ≡ judged_filter (plain_filter filter) seen
where-plain None seen = refl
where-plain (Some e) seen = ap (λ (j : Expression). judged_test j.judge seen) (expr_plain e)

-- the table's row in sight
abbrev pub row_of : Ident → Seen
row_of table = in_row changing (opened table changing).value

abbrev pub updated : Update → Noted (List BoundExpr) → Noted (List BoundExpr) → Noted BoundStatement
updated s values conjuncts =
    let to = target_named s.table.name catalog in
    run_over catalog (λ b. bound.Update b) (after (opened s.table changing)
    (target_faults to (assigned s) >> as_value (with_targets s to)
    (both (met_query s.table.name (length to.kinds)) values conjuncts)))

pub update-row : (n : List ℕ) (sets : List (Ident × Expr)) (filter : Option Expr)
    → judged_statement (update n sets filter) catalog
    ≡ updated (update_of n sets filter) (each_noted (plain_value n (row_of (called n 1))) [] sets)
    (judged_filter (plain_filter filter) (row_of (called n 1)))
update-row n sets filter =
    of_form (update n sets filter) (Stmt-F.Update (update_of n sets filter)) catalog
    (outs-Update (update_of n sets filter))
    ∙ ap₂ (updated (update_of n sets filter)) (values-plain n (row_of (called n 1)) [] sets)
    (where-plain filter (row_of (called n 1)))

abbrev pub deleted : Delete → Noted (List BoundExpr) → Noted BoundStatement
deleted s conjuncts = run_over catalog (λ b. bound.Delete b)
    (as_value (of_rows s (target_named s.table.name catalog))
    (after (opened s.table changing) conjuncts))

pub delete-row : (n : List ℕ) (filter : Option Expr)
    → judged_statement (delete n filter) catalog ≡ deleted (delete_of n filter)
    (judged_filter (plain_filter filter) (row_of (called n 2)))
delete-row n filter =
    of_form (delete n filter) (Stmt-F.Delete (delete_of n filter)) catalog
    (outs-Delete (delete_of n filter))
    ∙ ap (deleted (delete_of n filter)) (where-plain filter (row_of (called n 2)))
