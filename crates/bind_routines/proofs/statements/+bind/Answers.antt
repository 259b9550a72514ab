use Rattle.std.proofs.Common.{rules, ◌≡◌, ◌∙◌, ap, ap₂, sym, subst, arith, ℕ, List, [], map, Option}
use Rattle.std.proofs.Common.{Some}
use Rattle.std.specs.Prelude.{IfOk, OnOk}
use Rattle.statement_trees.specs.declared.statement.Block.{out-Block}
use Rattle.statement_trees.specs.declared.statement.Branch.{out-Branch}
use Rattle.statement_trees.specs.declared.statement.Case.{out-Case}
use Rattle.statement_trees.specs.declared.statement.If.{out-If}
use Rattle.statement_trees.specs.declared.statement.Stmt.{Stmt}
use Rattle.bound_trees.specs.declared.statement.BoundStmt.{BoundStmt}
use Rattle.bound_trees.specs.declared.statement.BoundStmt.TheVariants as bound
use Rattle.bind_faults.specs.declared.fault.Fault.{Fault}
use Rattle.bind_faults.specs.Faults.{Noted, taken}
use Rattle.bind_sight.specs.declared.output.Output.{Output}
use Rattle.bind_sight.specs.declared.scope.Scope.{Scope}
use Rattle.bind_parts.specs.declared.typed.TypedQuery.{TypedQuery}
use Rattle.bind_parts.proofs.Laws.{then-notes, next}
use Rattle.bind_queries.specs.Order.{judge_ordered_typed}
use Rattle.bind_kinds.specs.declared.kind.Kind.TheVariants.{Boolean}
use Rattle.bind_declarations.specs.Loops.{columns_faults, scope_of_columns}
use Rattle.bind_simple.specs.Places.{place_by, seen_from, with_scope}
use Rattle.bind_simple.specs.Values.{judged_expr, value_of_kind}
use Rattle.bind_routines.specs.Statements.{JudgedBranch, judged_branch, one_more, one_branch}
use Rattle.bind_routines.specs.Statements.{one_declaration, judged_list, judged_branches}
use Rattle.bind_routines.specs.Statements.{judged_declarations, after_declarations, looped, arms_of}
use Rattle.bind_routines.specs.Statements.{looped_body, judged_for}
use Rattle.bind_routines.specs.Statements.{judge_stmt, judge_branch, judge_declaration}
use Rattle.bind_routines.proofs.Forms.{alone_layer}
use Rattle.bind_routines.proofs.Made.{made-value}
use Rattle.bind_routines.proofs.Layers.{branch-layer, if-layer, block-layer}
use Rattle.bind_simple.proofs.Laws.{mapped-value, mapped-notes, faults-notes}
use Rattle.bind_routines.proofs.statements.+bind.Goals as goal

pub bind_statement-returns-in_default-clause-value :
    goal.bind_statement-returns-in_default-clause-value
bind_statement-returns-in_default-clause-value t c =
    subst (λ (j : Noted BoundStmt). IfOk c.bind_alone.result (λ b. b ≡ j.value))
    (sym (alone_layer c.args.stmt.now (place_by c.args.place.now) c.in_default.not-Labelled
    c.in_default.not-If c.in_default.not-Case)) c.bind_alone.ensures.value

pub bind_statement-returns-in_default-clause-notes :
    goal.bind_statement-returns-in_default-clause-notes
bind_statement-returns-in_default-clause-notes t c =
    subst (λ (j : Noted BoundStmt). OnOk c.bind_alone.result
    (c.bind_alone.new.notes ≡ taken c.args.notes.now j))
    (sym (alone_layer c.args.stmt.now (place_by c.args.place.now) c.in_default.not-Labelled
    c.in_default.not-If c.in_default.not-Case)) c.bind_alone.ensures.notes

pub bind_list-loop-stmt-preserved : goal.bind_list-loop-stmt-preserved
bind_list-loop-stmt-preserved t c = record {
  value = mapped-value (one_more (place_by c.args.place.now)) judge_stmt c.args.stmts.now
      c.loop-stmt.stmt-index c.stmt-item.result c.loop-stmt.so _
      (omega arith) c.stmt-item.is c.in_ok-add_statement.ensures.value ∙
      c.loop-stmt.invariant.value;
  notes = mapped-notes (one_more (place_by c.args.place.now)) judge_stmt c.args.stmts.now
      c.loop-stmt.stmt-index c.stmt-item.result c.loop-stmt.so _ c.loop-stmt.notes _
      (omega arith) c.stmt-item.is c.in_ok-add_statement.ensures.value
      c.in_ok-add_statement.ensures.notes ∙ c.loop-stmt.invariant.notes;
}

pub bind_branches-loop-branch-preserved : goal.bind_branches-loop-branch-preserved
bind_branches-loop-branch-preserved t c = record {
  value = mapped-value (one_branch c.args.kind (place_by c.args.place.now)) judge_branch
      c.args.branches.now c.loop-branch.branch-index c.branch-item.result c.loop-branch.so _
      (omega arith) c.branch-item.is c.in_ok-add_branch.ensures.value ∙
      c.loop-branch.invariant.value;
  notes = mapped-notes (one_branch c.args.kind (place_by c.args.place.now)) judge_branch
      c.args.branches.now c.loop-branch.branch-index c.branch-item.result c.loop-branch.so _
      c.loop-branch.notes _
      (omega arith) c.branch-item.is c.in_ok-add_branch.ensures.value
      c.in_ok-add_branch.ensures.notes ∙ c.loop-branch.invariant.notes;
}

pub bind_declarations-loop-declaration-preserved : goal.bind_declarations-loop-declaration-preserved
bind_declarations-loop-declaration-preserved t c = record {
  value = mapped-value (one_declaration c.args.atomic (place_by c.args.outside.now))
      judge_declaration c.args.declarations.now c.loop-declaration.declaration-index
      c.declaration-item.result c.loop-declaration.so _
      (omega arith) c.declaration-item.is c.in_ok-declare.ensures.value ∙
      c.loop-declaration.invariant.value;
  notes = mapped-notes (one_declaration c.args.atomic (place_by c.args.outside.now))
      judge_declaration c.args.declarations.now c.loop-declaration.declaration-index
      c.declaration-item.result c.loop-declaration.so _ c.loop-declaration.notes _
      (omega arith) c.declaration-item.is c.in_ok-declare.ensures.value
      c.in_ok-declare.ensures.notes ∙ c.loop-declaration.invariant.notes;
}

pub bind_branch-returns-clause-notes : goal.bind_branch-returns-clause-notes
bind_branch-returns-clause-notes t c =
    let here = place_by c.args.place.now in
    let b = out-Branch c.args.branch.now in
    next c.args.notes.now c.bind_of_kind.new.notes c.bind_list.new.notes
    (value_of_kind c.args.kind b.test here) (judged_list (map judge_stmt b.body) here)
    c.in_ok-test.ensures.notes (cc (c.in_ok-body.ensures.notes, c.as_slice.ensures))
    ∙ ap (λ (j : JudgedBranch). taken c.args.notes.now (judged_branch c.args.kind here j))
    (sym (branch-layer c.args.branch.now))

pub bind_if-returns-clause-notes : goal.bind_if-returns-clause-notes
bind_if-returns-clause-notes t c =
    let here = place_by c.args.place.now in
    let b = out-If c.args.branching.now in
    next c.args.notes.now c.bind_branches.new.notes c.bind_list.new.notes
    (judged_branches Boolean (map judge_branch b.branches) here)
    (judged_list (map judge_stmt b.otherwise) here)
    (cc (c.in_ok-branches.ensures.notes, c.as_slice-branches.ensures))
    (cc (c.in_ok-otherwise.ensures.notes, c.as_slice.ensures))
    ∙ ap (taken c.args.notes.now) (sym (if-layer c.args.branching.now here))

pub bind_arms-returns-clause-notes : goal.bind_arms-returns-clause-notes
bind_arms-returns-clause-notes t c =
    let here = place_by c.args.place.now in
    let b = out-Case c.args.branching.now in
    next c.args.notes.now c.bind_branches.new.notes c.bind_list.new.notes
    (judged_branches c.args.kind (map judge_branch b.branches) here)
    (judged_list (map judge_stmt b.otherwise) here)
    (cc (c.in_ok-branches.ensures.notes, c.as_slice.ensures))
    (cc (c.in_ok-otherwise.ensures.notes, c.as_slice-2.ensures))

pub bind_simple-returns-clause-notes : goal.bind_simple-returns-clause-notes
bind_simple-returns-clause-notes t c =
    let here = place_by c.args.place.now in
    let kind : c.kind_of_tests-kind.result ≡ c.in_ok-typed.typed.head.kind =
    c.kind_of_tests-kind.ensures in
    then-notes c.args.notes.now c.bind_value.new.notes c.bind_arms.new.notes
    (judged_expr c.args.operand.now here)
    (λ x. arms_of (Some x.tree) x.head.kind c.args.branching.now here) c.in_ok-typed.typed
    c.in_ok-typed.ensures.notes c.in_ok-typed.ensures.value
    (cc (c.in_ok-bound.ensures.notes, kind))

pub bind_while-returns-clause-notes : goal.bind_while-returns-clause-notes
bind_while-returns-clause-notes t c =
    let here = place_by c.args.place.now in
    next c.args.notes.now c.bind_of_kind.new.notes c.bind_list.new.notes
    (value_of_kind Boolean c.args.test.now here)
    (judged_list (map judge_stmt c.args.body.now) here)
    (search rules) (search rules)

pub bind_repeat-returns-clause-notes : goal.bind_repeat-returns-clause-notes
bind_repeat-returns-clause-notes t c =
    let here = place_by c.args.place.now in
    next c.args.notes.now c.bind_list.new.notes c.bind_of_kind.new.notes
    (judged_list (map judge_stmt c.args.body.now) here)
    (value_of_kind Boolean c.args.test.now here)
    (search rules) (search rules)

pub bind_looped-returns-clause-value : goal.bind_looped-returns-clause-value
bind_looped-returns-clause-value t c =
    let here = place_by c.args.place.now in
    let body = map judge_stmt c.args.body.now in
    c.in_ok-bound.ensures.value
    ∙ ap (λ (s : Scope). (judged_list body (with_scope s here)).value) c.in_ok-scope.ensures.value

pub bind_looped-returns-clause-notes : goal.bind_looped-returns-clause-notes
bind_looped-returns-clause-notes t c =
    let here = place_by c.args.place.now in
    let body = map judge_stmt c.args.body.now in
    let old = c.args.notes.now in
    let columns = scope_of_columns c.args.ident.now c.args.columns.now here.scopes in
    let faults = columns_faults (c.args.query.now).query 0 [] c.args.columns.now in
    faults-notes old c.bind_inside.new.notes faults (judged_list body (with_scope columns here))
    (c.in_ok-bound.ensures.notes ∙ ap₂ (λ (l : Option Fault) (s : Scope).
    taken (record { least = l; uses = old.uses }) (judged_list body (with_scope s here)))
    c.in_ok-scope.ensures.faults c.in_ok-scope.ensures.value)

pub bind_for-returns-clause-value : goal.bind_for-returns-clause-value
bind_for-returns-clause-value t c =
    let here = place_by c.args.place.now in
    let body = map judge_stmt c.args.body.now in
    let i = c.args.ident.now in
    let q = c.args.query.now in
    let typed = c.in_ok-typed.typed in
    let is : typed ≡ (judge_ordered_typed q (seen_from here)).value = search rules in
    made-value (λ (ss : List BoundStmt). bound.For typed.tree c.in_ok-first.first ss)
    c.bind_looped-body.result c.for_of.result
    (λ ss. ss ≡ (looped_body i q body here c.as_slice-columns.result.now).value)
    (λ b. b ≡ (judged_for i q body here).value) c.for_of.ensures c.bind_looped-body.ensures.value
    (λ ss h. ap₂ (λ (n : ℕ) (more : List BoundStmt). bound.For typed.tree n more)
    c.in_ok-first.ensures
    (h ∙ ap (λ (cs : List Output). (looped_body i q body here cs).value) c.as_slice-columns.ensures)
    ∙ ap (λ (u : TypedQuery). (looped i q body here u).value) is)

pub bind_for-returns-clause-notes : goal.bind_for-returns-clause-notes
bind_for-returns-clause-notes t c =
    let here = place_by c.args.place.now in
    let body = map judge_stmt c.args.body.now in
    let i = c.args.ident.now in
    let q = c.args.query.now in
    let typed = c.in_ok-typed.typed in
    let bound_notes = c.bind_ordered_typed.new.notes in
    let is : typed ≡ (judge_ordered_typed q (seen_from here)).value = search rules in
    let noted_first : bound_notes ≡ taken c.args.notes.now
    (judge_ordered_typed q (seen_from here)) = search rules in
    made-value (λ (ss : List BoundStmt). bound.For typed.tree c.in_ok-first.first ss)
    c.bind_looped-body.result c.for_of.result
    (λ ss. c.bind_looped-body.new.notes ≡ taken bound_notes
    (looped_body i q body here c.as_slice-columns.result.now))
    (λ b. c.bind_looped-body.new.notes ≡ taken c.args.notes.now (judged_for i q body here))
    c.for_of.ensures c.bind_looped-body.ensures.notes
    (λ ss h. then-notes c.args.notes.now bound_notes c.bind_looped-body.new.notes
    (judge_ordered_typed q (seen_from here)) (looped i q body here) typed noted_first is
    (h ∙ ap (λ (cs : List Output). taken bound_notes (looped_body i q body here cs))
    c.as_slice-columns.ensures))

pub bind_block-returns-clause-notes : goal.bind_block-returns-clause-notes
bind_block-returns-clause-notes t c =
    let here = place_by c.args.place.now in
    let b = out-Block c.args.block.now in
    then-notes c.args.notes.now c.bind_declarations.new.notes c.bind_inside.new.notes
    (judged_declarations b.atomic (map judge_declaration b.declarations) here)
    (after_declarations b.atomic (map judge_stmt b.statements) here) c.in_ok-so.so
    (cc (c.in_ok-so.ensures.notes, c.as_slice-declarations.ensures))
    (cc (c.in_ok-so.ensures.value, c.as_slice-declarations.ensures))
    (c.in_ok-statements.ensures.notes
    ∙ ap (λ (ss : List Stmt). taken c.bind_declarations.new.notes
    (judged_list (map judge_stmt ss) (with_scope c.in_ok-so.so.scope here)))
    c.as_slice-stmts.ensures)
    ∙ ap (taken c.args.notes.now) (sym (block-layer c.args.block.now here))
