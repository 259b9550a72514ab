use Rattle.std.proofs.Common.{◌≡◌, drop, map}
use Rattle.bind_faults.specs.Faults.{taken}
use Rattle.bind_parts.specs.Turns.{each_noted}
use Rattle.bind_simple.specs.Places.{place_by}
use Rattle.bind_routines.specs.Statements.{one_more, judged_list, one_branch, judged_branches}
use Rattle.bind_routines.specs.Statements.{one_declaration, judged_declarations, judge_stmt}
use Rattle.bind_routines.specs.Statements.{judge_branch, judge_declaration}
use Rattle.bind_routines.proofs.statements.+bind.Given as goal

abbrev pub invariant-bind_list-loop-stmt : goal.invariant-bind_list-loop-stmt
invariant-bind_list-loop-stmt l =
    let left = each_noted (one_more (place_by l.place)) l.so
    (map judge_stmt (drop l.stmt-index l.stmts)) in
    let whole = judged_list (map judge_stmt l.stmts) (place_by l.place) in
    record {
      value : left.value ≡ whole.value;
      notes : taken l.notes left ≡ taken l.initial.notes whole;
    }

abbrev pub invariant-bind_branches-loop-branch : goal.invariant-bind_branches-loop-branch
invariant-bind_branches-loop-branch l =
    let left = each_noted (one_branch l.kind (place_by l.place)) l.so
    (map judge_branch (drop l.branch-index l.branches)) in
    let whole = judged_branches l.kind (map judge_branch l.branches) (place_by l.place) in
    record {
      value : left.value ≡ whole.value;
      notes : taken l.notes left ≡ taken l.initial.notes whole;
    }

abbrev pub invariant-bind_declarations-loop-declaration :
    goal.invariant-bind_declarations-loop-declaration
invariant-bind_declarations-loop-declaration l =
    let left = each_noted (one_declaration l.atomic (place_by l.outside)) l.so
    (map judge_declaration (drop l.declaration-index l.declarations)) in
    let whole = judged_declarations l.atomic (map judge_declaration l.declarations)
    (place_by l.outside) in
    record {
      value : left.value ≡ whole.value;
      notes : taken l.notes left ≡ taken l.initial.notes whole;
    }
