-- Statements that hold statements note what they call where these do.
use Rattle.std.proofs.Common.{◌≡◌, Bool, List, [], ◌++◌, map, Option, None, Some, refl}
use Rattle.std.specs.List.{AllByRecursion}
use Rattle.syntax_trees.specs.declared.anchor.Ident.{Ident}
use Rattle.syntax_trees.specs.declared.expr.Expr.{Expr}
use Rattle.syntax_trees.specs.declared.query.OrderedQuery.{OrderedQuery}
use Rattle.bound_trees.specs.declared.statement.BoundStmt.TheVariants as bound
use Rattle.catalog_store.specs.Planning.{AllPlanned}
use Rattle.bind_faults.specs.Faults.{as_value}
use Rattle.bind_kinds.specs.declared.kind.Kind.{Kind}
use Rattle.bind_kinds.specs.declared.kind.Kind.TheVariants.{Boolean}
use Rattle.bind_queries.specs.Order.{judge_ordered_typed}
use Rattle.bind_queries.proofs.Laws.{front_nil, back_nil}
use Rattle.bind_rules.specs.Labels.{label_faults, end_faults}
use Rattle.bind_simple.specs.Places.{Surroundings, seen_from, with_scope, within}
use Rattle.bind_simple.specs.Simple.{Judge}
use Rattle.bind_simple.specs.Values.{judged_expr, value_of_kind}
use Rattle.bind_declarations.specs.Declarations.{nothing_declared, after_declared}
use Rattle.bind_declarations.specs.Loops.{columns_faults, scope_of_columns}
use Rattle.bind_routines.specs.Statements.{JudgedBranch, JudgedStructure, JudgedDeclaration}
use Rattle.bind_routines.specs.Statements.{one_more, judged_list, judged_branch, one_branch}
use Rattle.bind_routines.specs.Statements.{judged_branches, judged_if, judged_case, judged_while}
use Rattle.bind_routines.specs.Statements.{judged_repeat, looped, judged_for, one_declaration}
use Rattle.bind_routines.specs.Statements.{judged_declarations, block_of, judged_block, label_of}
use Rattle.bind_routines.specs.Statements.{judged_labelled}
use Rattle.viewing_laws.specs.Calls.{all_calls, expr_calls, query_calls}
use Rattle.viewing_laws.specs.Calls.{calls_if_there, variables_calls, cursors_calls}
use Rattle.viewing_laws.specs.Calls.{statement_calls, calls_of_branch, calls_of_handler}
use Rattle.viewing_laws.proofs.Laws.{calls_of_block-at, calls_of_branch-at}
use Rattle.listed_calls.proofs.Declarations.{DeclaredListed, declared-more, DeclarationNotes}
use Rattle.listed_calls.proofs.Layers.{block-calls, if-calls, case-calls, loop-calls, while-calls}
use Rattle.listed_calls.proofs.Layers.{repeat-calls, for-calls}
use Rattle.listed_calls.proofs.Noted.{Listed, listed-append, listed-back, listed-both}
use Rattle.listed_calls.proofs.Noted.{EachListed, each-front, each-all, each-flat, Notes}
use Rattle.listed_calls.proofs.Noted.{last-listed, turns, each_as}
use Rattle.listed_calls.proofs.Simple.{StatementNotes, listed-as}
use Rattle.listed_calls.proofs.Values.{expr-notes, value-notes, ordered-notes}

-- ---- lists of statements

abbrev pub AllNote : List Judge → Type 0
AllNote js = AllByRecursion StatementNotes js

pub list-notes : (js : List Judge) → AllNote js → (p : Surroundings) → AllPlanned p.catalog →
    Notes p.own p.catalog (λ ss. all_calls (map statement_calls ss)) (judged_list js p)
list-notes js notes p all f =
    let so = judged_list js p in
    each-all p.own p.catalog statement_calls so.uses so.value
    (turns (one_more p) (EachListed p.own p.catalog statement_calls)
    (each-front p.own p.catalog statement_calls) js
    (each_as (λ j n u so g h. last-listed p.own p.catalog statement_calls u so (j p) (n p all) g h)
    js notes) [] [] f tt)

-- ---- IF and CASE

abbrev pub BranchNotes : JudgedBranch → Type 0
BranchNotes b = AllNote b.body

branch-notes : (kind : Kind) (b : JudgedBranch) → BranchNotes b → (p : Surroundings) →
    AllPlanned p.catalog → Notes p.own p.catalog calls_of_branch (judged_branch kind p b)
branch-notes kind b notes p all f =
    let t = value_of_kind kind b.test p in
    let ss = judged_list b.body p in
    listed-as p (t.uses ++ ss.uses) _ _
    (calls_of_branch-at (record { test = t.value; body = ss.value }))
    (listed-both p.own p.catalog t.uses ss.uses (expr_calls t.value)
    (all_calls (map statement_calls ss.value))
    (value-notes kind b.test p all (front_nil t.faults ss.faults f))
    (list-notes b.body notes p all (back_nil t.faults ss.faults f)))

branches-note : (kind : Kind) (bs : List JudgedBranch) → AllByRecursion BranchNotes bs →
    (p : Surroundings) → AllPlanned p.catalog →
    Notes p.own p.catalog (λ xs. all_calls (map calls_of_branch xs)) (judged_branches kind bs p)
branches-note kind bs notes p all f =
    let so = judged_branches kind bs p in
    each-all p.own p.catalog calls_of_branch so.uses so.value
    (turns (one_branch kind p) (EachListed p.own p.catalog calls_of_branch)
    (each-front p.own p.catalog calls_of_branch) bs
    (each_as (λ b n u so g h. last-listed p.own p.catalog calls_of_branch u so
    (judged_branch kind p b) (branch-notes kind b n p all) g h) bs notes) [] [] f tt)

-- branches, and the statements of ELSE
arms-listed : (kind : Kind) (bs : List JudgedBranch) (otherwise : List Judge) →
    AllByRecursion BranchNotes bs → AllNote otherwise → (p : Surroundings) →
    AllPlanned p.catalog →
    (judged_branches kind bs p).faults ++ (judged_list otherwise p).faults ≡ [] →
    Listed p.own p.catalog ((judged_branches kind bs p).uses ++ (judged_list otherwise p).uses)
    (all_calls (map calls_of_branch (judged_branches kind bs p).value) ++
    all_calls (map statement_calls (judged_list otherwise p).value))
arms-listed kind bs otherwise nb ne p all f =
    let xs = judged_branches kind bs p in
    let ss = judged_list otherwise p in
    listed-both p.own p.catalog xs.uses ss.uses (all_calls (map calls_of_branch xs.value))
    (all_calls (map statement_calls ss.value))
    (branches-note kind bs nb p all (front_nil xs.faults ss.faults f))
    (list-notes otherwise ne p all (back_nil xs.faults ss.faults f))

pub if-notes : (bs : List JudgedBranch) (otherwise : List Judge) →
    AllByRecursion BranchNotes bs → AllNote otherwise → StatementNotes (judged_if bs otherwise)
if-notes bs otherwise nb ne p all f =
    listed-as p (judged_if bs otherwise p).uses _ _ (if-calls _ _)
    (arms-listed Boolean bs otherwise nb ne p all f)

pub case-notes : (operand : Option Expr) (bs : List JudgedBranch) (otherwise : List Judge) →
    AllByRecursion BranchNotes bs → AllNote otherwise →
    StatementNotes (judged_case operand bs otherwise)
case-notes None bs otherwise nb ne p all f =
    listed-as p (judged_case None bs otherwise p).uses _ _ (case-calls None _ _)
    (arms-listed Boolean bs otherwise nb ne p all f)
case-notes (Some e) bs otherwise nb ne p all f =
    let t = judged_expr e p in
    let kind = t.value.head.kind in
    let xs = judged_branches kind bs p in
    let ss = judged_list otherwise p in
    listed-as p (t.uses ++ (xs.uses ++ ss.uses)) _ _ (case-calls (Some t.value.tree) _ _)
    (listed-both p.own p.catalog t.uses (xs.uses ++ ss.uses) (expr_calls t.value.tree)
    (all_calls (map calls_of_branch xs.value) ++ all_calls (map statement_calls ss.value))
    (expr-notes e p all (front_nil t.faults (xs.faults ++ ss.faults) f))
    (arms-listed kind bs otherwise nb ne p all (back_nil t.faults (xs.faults ++ ss.faults) f)))

-- ---- loops

pub loop-notes : (body : List Judge) → AllNote body →
    StatementNotes (λ p. as_value (λ ss. bound.Loop ss) (judged_list body p))
loop-notes body notes p all f =
    let ss = judged_list body p in
    listed-as p ss.uses _ _ (loop-calls ss.value) (list-notes body notes p all f)

pub while-notes : (test : Expr) (body : List Judge) → AllNote body →
    StatementNotes (judged_while test body)
while-notes test body notes p all f =
    let t = value_of_kind Boolean test p in
    let ss = judged_list body p in
    listed-as p (t.uses ++ ss.uses) _ _ (while-calls t.value ss.value)
    (listed-both p.own p.catalog t.uses ss.uses (expr_calls t.value)
    (all_calls (map statement_calls ss.value))
    (value-notes Boolean test p all (front_nil t.faults ss.faults f))
    (list-notes body notes p all (back_nil t.faults ss.faults f)))

pub repeat-notes : (body : List Judge) (test : Expr) → AllNote body →
    StatementNotes (judged_repeat body test)
repeat-notes body test notes p all f =
    let t = value_of_kind Boolean test p in
    let ss = judged_list body p in
    listed-as p (ss.uses ++ t.uses) _ _ (repeat-calls ss.value t.value)
    (listed-both p.own p.catalog ss.uses t.uses (all_calls (map statement_calls ss.value))
    (expr_calls t.value)
    (list-notes body notes p all (front_nil ss.faults t.faults f))
    (value-notes Boolean test p all (back_nil ss.faults t.faults f)))

pub for-notes : (i : Ident) (q : OrderedQuery) (body : List Judge) → AllNote body →
    StatementNotes (judged_for i q body)
for-notes i q body notes p all f =
    let t = judge_ordered_typed q (seen_from p) in
    let rest = looped i q body p t.value in
    let inside = with_scope (scope_of_columns i t.value.columns p.scopes) p in
    let names = columns_faults q.query 0 [] t.value.columns in
    let ss = judged_list body inside in
    listed-as p (t.uses ++ ss.uses) _ _ (for-calls t.value.tree _ ss.value)
    (listed-both p.own p.catalog t.uses ss.uses (query_calls t.value.tree)
    (all_calls (map statement_calls ss.value))
    (ordered-notes p.catalog all (seen_from p) refl q (front_nil t.faults rest.faults f))
    (list-notes body notes inside all (back_nil names ss.faults
    (back_nil t.faults rest.faults f))))

-- ---- compound statements

pub block-notes : (atomic : Bool) (ds : List JudgedDeclaration) (statements : List Judge) →
    AllByRecursion DeclarationNotes ds → AllNote statements →
    StatementNotes (judged_block atomic ds statements)
block-notes atomic ds statements nd ns p all f =
    let so = judged_declarations atomic ds p in
    let inside = after_declared so.value p in
    let ss = judged_list statements inside in
    let d = so.value in
    let declared : DeclaredListed p so.uses d =
    turns (one_declaration atomic p) (DeclaredListed p) (declared-more p) ds
    (each_as (λ j n u more g h. n atomic p all u more g h) ds nd) [] (nothing_declared p)
    (front_nil so.faults ss.faults f)
    (record { variables = tt; cursors = tt; handlers = tt }) in
    let uses = so.uses ++ ss.uses in
    let after = declared-more p so.uses ss.uses d declared in
    let rest = all_calls (map statement_calls ss.value) in
    let handlers = all_calls (map calls_of_handler d.handlers) in
    listed-as p uses _ _ (block-calls (block_of atomic d ss.value))
    (listed-as p uses _ _
    (calls_of_block-at (record {
      atomic = atomic;
      variables = d.variables;
      first_cursor = d.scope.first_cursor;
      cursors = d.cursors;
      handlers = d.handlers;
      statements = ss.value;
    }))
    (listed-append p.own p.catalog uses (variables_calls d.variables)
    (cursors_calls d.cursors ++ (handlers ++ rest))
    (each-flat p.own p.catalog (λ v. calls_if_there v.default) uses d.variables after.variables)
    (listed-append p.own p.catalog uses (cursors_calls d.cursors) (handlers ++ rest)
    (each-flat p.own p.catalog query_calls uses d.cursors after.cursors)
    (listed-append p.own p.catalog uses handlers rest
    (each-all p.own p.catalog calls_of_handler uses d.handlers after.handlers)
    (listed-back p.own p.catalog so.uses ss.uses rest
    (list-notes statements ns inside all (back_nil so.faults ss.faults f)))))))

-- ---- labels

pub labelled-notes : (label end_label : Option Ident) (s : JudgedStructure) →
    StatementNotes s.judge → StatementNotes (judged_labelled label end_label s)
labelled-notes label end_label s notes p all f =
    let inside = within (label_of label s.is_loop) p in
    notes inside all (back_nil (label_faults label p.labels ++ end_faults label end_label)
    (s.judge inside).faults f)
