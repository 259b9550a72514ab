-- The plan of a body depends on tables only by the plans of its leaves.
use Rattle.std.proofs.Common.{◌≡◌, ℕ, suc, ◌+◌, ◌||◌, List, [], ◌∷◌, ◌++◌, length, Option, None}
use Rattle.std.proofs.Common.{Some, refl, replicate}
use Rattle.sql_values.specs.declared.value.SqlType.{SqlType}
use Rattle.sql_values.specs.declared.value.Value.TheVariants.{Null}
use Rattle.rel_algebra.specs.Environments.{Env as Reading}
use Rattle.rel_algebra.specs.Emissions.{assigning, width}
use Rattle.rel_algebra.specs.Joins.{places}
use Rattle.rel_algebra.specs.OnConditions.{state_item}
use Rattle.rel_algebra.specs.Plan.{Scalars, constant, extend, keep, more, no_node, unit_row}
use Rattle.rel_algebra.specs.Bodies.{ConditionRead, Perhaps, Without, With, Variables, NoVariable}
use Rattle.rel_algebra.specs.Bodies.{MoreVariables, Target, Stmt, Compound, If, SearchedCase}
use Rattle.rel_algebra.specs.Bodies.{SimpleCase, Set, SelectInto, Signal, Resignal}
use Rattle.rel_algebra.specs.Bodies.{GetStatementItems, GetConditionItems, Leave, Return, Stmts}
use Rattle.rel_algebra.specs.Bodies.{NoStmt, MoreStmts, Branches, NoBranch, MoreBranches, Handlers}
use Rattle.rel_algebra.specs.Bodies.{NoHandler, MoreHandlers, Routine, Body}
use Rattle.rel_algebra.specs.BodyChain.{Rest, again, and_on, assigned_as, branching, coded}
use Rattle.rel_algebra.specs.BodyChain.{column_at, compared_with, compounded, condition_cells}
use Rattle.rel_algebra.specs.BodyChain.{declared, emit, emit_again, emit_all, emit_branches}
use Rattle.rel_algebra.specs.BodyChain.{emit_condition_items, emit_declares, emit_else}
use Rattle.rel_algebra.specs.BodyChain.{emit_matching, emit_return, emit_set, emit_signal, equal_to}
use Rattle.rel_algebra.specs.BodyChain.{first_cells, has_default, inline_with, into_by, item_cell}
use Rattle.rel_algebra.specs.BodyChain.{last_cell, one_raise, one_step, perhaps_emitted, push}
use Rattle.rel_algebra.specs.BodyChain.{reading, target_stores, tested, top, variable_count}
use Rattle.rel_algebra.specs.BodyChain.{with_column, with_columns, with_variables}
use Rattle.rel_algebra.specs.BodyMeaning.{condition_targets}
use Rattle.rel_algebra.specs.BodyCompounds.{scopes_in}
use Rattle.rel_algebra.specs.BodyDispatch.{Codes, Env, count, handled, judging, store_if}
use Rattle.rel_algebra.specs.Leaves.{QueryLeaf, ValueLeaf, Widths}
use Rattle.rel_algebra.specs.BodySteps.{acts, fat, only, steps_tree, tag}
use Rattle.rel_algebra.proofs.BodyHeld.{AllHold, BranchesHold, HandlersHold, Holds, PerhapsHolds}
use Rattle.rel_algebra.proofs.BodyHeld.{RoutineHolds, VariablesHold}

-- an expression is planned alike by tables of these widths and of those
abbrev pub ValueLasts : Widths → Widths → ValueLeaf → Type 0
ValueLasts S R e = (env : Reading) (n : ℕ) → e.emitted S env n ≡ e.emitted R env n

-- a query is, folded too
abbrev pub QueryLasts : Widths → Widths → QueryLeaf → List Target → Type 0
QueryLasts S R q targets = ((env : Reading) → q.plan S env ≡ q.plan R env)
    × ((env : Reading) → q.folded S env ≡ q.folded R env)

-- ---- statements

set_lasts : (t : Target) (e : ValueLeaf) (S R : Widths) → ValueLasts S R e → (cs ds : Codes) →
    cs ≡ ds → emit_set t e S cs ≡ emit_set t e R ds
set_lasts t e S R h cs ds p = λ i env here next n.
    let a = h (reading env) n i in let m = width a.nodes n in
    one_step (p i) env here next n (with_column a.nodes (assigning t.data_type a.scalar)) m
    (tag here) (store_if m m (column_at n env.columns t.slot) ∷ [])

return_lasts : (e : ValueLeaf) (S R : Widths) → ValueLasts S R e → (cs ds : Codes) → cs ≡ ds →
    emit_return e S cs ≡ emit_return e R ds
return_lasts e S R h cs ds p = λ i env here next n.
    let a = h (reading env) n i in let m = width a.nodes n in
    one_step (p i) env here next n (with_column a.nodes a.scalar) m (tag 0) (store_if m m 1 ∷ [])

text_lasts : (text : Perhaps) (S R : Widths) → PerhapsHolds text (ValueLasts S R) → (env : Env)
    (n : ℕ) → perhaps_emitted text S env n ≡ perhaps_emitted text R env n
text_lasts Without S R h env n = refl
text_lasts (With e) S R h env n = h (reading env) n

signal_lasts : (state : List ℕ) (text : Perhaps) (S R : Widths) →
    PerhapsHolds text (ValueLasts S R) → (cs ds : Codes) → cs ≡ ds →
    emit_signal state text S cs ≡ emit_signal state text R ds
signal_lasts state text S R h cs ds p = λ i env here next n.
    let a = text_lasts text S R h env n i in
    one_raise (p i) env here next n (with_column a.nodes (push state a.scalar (constant Null)))
    (width a.nodes n)

again_lasts : (es : Option ℕ) (state : Option (List ℕ)) (text : Perhaps) (S R : Widths) →
    PerhapsHolds text (ValueLasts S R) → (cs ds : Codes) → cs ≡ ds →
    emit_again es state text S cs ≡ emit_again es state text R ds
again_lasts None state text S R h cs ds p = λ i env here next n.
    emit_again None state text R (p i) env here next n
again_lasts (Some c) state text S R h cs ds p = λ i env here next n.
    let a = text_lasts text S R h env n i in
    one_raise (p i) env here next n (with_column a.nodes (again state text a.scalar c))
    (width a.nodes n)

items_last : (es : Option ℕ) (number : ValueLeaf) (reads : List ConditionRead) (S R : Widths) →
    ValueLasts S R number → (cs ds : Codes) → cs ≡ ds →
    emit_condition_items es number reads S cs ≡ emit_condition_items es number reads R ds
items_last None number reads S R h cs ds p = λ i env here next n.
    emit_condition_items None number reads R (p i) env here next n
items_last (Some c) number reads S R h cs ds p = λ i env here next n.
    let a = h (reading env) n i in let j = width a.nodes n in let k = suc (length reads) in
    one_step (p i) env here next n
    (with_columns (with_column a.nodes a.scalar)
    (more (item_cell state_item j c) (condition_cells reads j c)) (places (suc j) k)) (suc j + k)
    (tag here)
    (target_stores (condition_targets reads) env n (suc j + k) (suc (suc j)))

compared_lasts : (e : ValueLeaf) (S R : Widths) → ValueLasts S R e → (cs ds : Codes) → cs ≡ ds →
    (a b : ℕ → Rest) → a ≡ b → compared_with e S cs a ≡ compared_with e R ds b
compared_lasts e S R h cs ds p a b q = λ i env here next n.
    let x = h (reading env) n i in let m = width x.nodes n in let start = next + count (p i) in
    let free = suc start in
    acts here (with_column x.nodes x.scalar) (suc m)
    (judging (tag start) (p i) env next here m []) n (m ∷ [])
    ∷ (q i n env start here next free (suc n) ++ fat no_node (places 0 n) ∷ handled (p i) env here
    next free n)

pub default_lasts : (default : Perhaps) (k : ℕ) (t : SqlType) (S R : Widths) →
    PerhapsHolds default (ValueLasts S R) → (cs ds : Codes) → cs ≡ ds →
    declared default k t S cs ≡ declared default k t R ds
default_lasts Without k t S R h cs ds p = λ i env from here base n.
    declared Without k t R (p i) env from here base n
default_lasts (With e) k t S R h cs ds p = λ i env from here base n.
    let a = h (reading env) n i in let m = width a.nodes n in
    acts from (with_column a.nodes (assigned_as t a.scalar)) (suc m)
    (judging (tag from) (p i) env base here m []) n (replicate k m)

pub declares_last : (vs : Variables) (S R : Widths) → VariablesHold vs (ValueLasts S R) →
    (cs ds : Codes) → cs ≡ ds → emit_declares vs S cs ≡ emit_declares vs R ds
declares_last NoVariable S R h cs ds p = refl
declares_last (MoreVariables k t default others) S R h cs ds p = λ i env from here base free n.
    default_lasts default k t S R h.0 cs ds p i env from here base n
    ∷ declares_last others S R h.1 cs ds p i (with_variables env n k) from here base free (n + k)

mutual
  pub stmt_lasts : (s : Stmt) (S R : Widths) → Holds s (ValueLasts S R) (QueryLasts S R) →
      (cs ds : Codes) → cs ≡ ds → emit s S cs ≡ emit s R ds
  stmt_lasts (Compound atomic variables handlers body) S R h cs ds p = λ i.
      compounded atomic (atomic || has_default variables) (p i)
      (declares_last variables S R h.0 cs ds p i) (variable_count variables)
      (coded_last handlers S R h.1 (scopes_in atomic cs) (scopes_in atomic ds)
      (λ j. scopes_in atomic (p j)) i) (λ inner. all_last body S R h.2 inner inner refl i)
  stmt_lasts (If branches otherwise) S R h cs ds p = λ i.
      tested (p i) (branches_last branches S R h.0 cs ds p (and_on (emit_all otherwise S cs))
      (and_on (emit_all otherwise R ds)) (λ j. and_on (all_last otherwise S R h.1 cs ds p j)) i)
  stmt_lasts (SearchedCase branches otherwise) S R h cs ds p = λ i.
      tested (p i) (branches_last branches S R h.0 cs ds p (emit_else otherwise S cs)
      (emit_else otherwise R ds) (else_lasts otherwise S R h.1 cs ds p) i)
  stmt_lasts (SimpleCase e branches otherwise) S R h cs ds p =
      compared_lasts e S R h.0 cs ds p
      (λ x. emit_matching branches x S cs (emit_else otherwise S cs))
      (λ x. emit_matching branches x R ds (emit_else otherwise R ds))
      (λ i x. matching_lasts branches x S R h.1 cs ds p (emit_else otherwise S cs)
      (emit_else otherwise R ds) (else_lasts otherwise S R h.2 cs ds p) i)
  stmt_lasts (Set t e) S R h cs ds p = set_lasts t e S R h cs ds p
  stmt_lasts (SelectInto query targets) S R h cs ds p = λ i env here next n.
      into_by (h.1 (reading env) i) (h.0 (reading env) i) targets (p i) env here next n
  stmt_lasts (Signal state text) S R h cs ds p = signal_lasts state text S R h cs ds p
  stmt_lasts (Resignal state text) S R h cs ds p = λ i env here next n.
      again_lasts env.stacked state text S R h cs ds p i env here next n
  stmt_lasts (GetStatementItems reads) S R h cs ds p = λ i.
      emit (GetStatementItems reads) R (p i)
  stmt_lasts (GetConditionItems number reads) S R h cs ds p = λ i env here next n.
      items_last env.stacked number reads S R h cs ds p i env here next n
  stmt_lasts (Leave outwards) S R h cs ds p = refl
  stmt_lasts (Return e) S R h cs ds p = return_lasts e S R h cs ds p

  all_last : (ss : Stmts) (S R : Widths) → AllHold ss (ValueLasts S R) (QueryLasts S R) →
      (cs ds : Codes) → cs ≡ ds → emit_all ss S cs ≡ emit_all ss R ds
  all_last NoStmt S R h cs ds p = refl
  all_last (MoreStmts s ss) S R h cs ds p = λ i env here next n.
      stmt_lasts s S R h.0 cs ds p i env here next n
      ++ all_last ss S R h.1 cs ds p i env here next n

  else_lasts : (ss : Stmts) (S R : Widths) → AllHold ss (ValueLasts S R) (QueryLasts S R) →
      (cs ds : Codes) → cs ≡ ds → emit_else ss S cs ≡ emit_else ss R ds
  else_lasts NoStmt S R h cs ds p = λ i. emit_else NoStmt R (p i)
  else_lasts (MoreStmts s ss) S R h cs ds p = λ i.
      and_on (λ env here next n. stmt_lasts s S R h.0 cs ds p i env here next n
      ++ all_last ss S R h.1 cs ds p i env here next n)

  branches_last : (bs : Branches) (S R : Widths) →
      BranchesHold bs (ValueLasts S R) (QueryLasts S R) → (cs ds : Codes) → cs ≡ ds →
      (a b : Rest) → a ≡ b → emit_branches bs S cs a ≡ emit_branches bs R ds b
  branches_last NoBranch S R h cs ds p a b q = q
  branches_last (MoreBranches test body others) S R h cs ds p a b q = λ i.
      branching (λ env n. h.0 (reading env) n i) (p i) (all_last body S R h.1 cs ds p i)
      (branches_last others S R h.2 cs ds p a b q i)

  matching_lasts : (bs : Branches) (x : ℕ) (S R : Widths) →
      BranchesHold bs (ValueLasts S R) (QueryLasts S R) → (cs ds : Codes) → cs ≡ ds →
      (a b : Rest) → a ≡ b → emit_matching bs x S cs a ≡ emit_matching bs x R ds b
  matching_lasts NoBranch x S R h cs ds p a b q = q
  matching_lasts (MoreBranches test body others) x S R h cs ds p a b q = λ i.
      branching (λ env n. equal_to x (h.0 (reading env) n i)) (p i)
      (all_last body S R h.1 cs ds p i) (matching_lasts others x S R h.2 cs ds p a b q i)

  pub coded_last : (hs : Handlers) (S R : Widths) →
      HandlersHold hs (ValueLasts S R) (QueryLasts S R) → (cs ds : Codes) → cs ≡ ds →
      coded hs S cs ≡ coded hs R ds
  coded_last NoHandler S R h cs ds p = refl
  coded_last (MoreHandlers kind takes action others) S R h cs ds p = λ i.
      record { kind = kind; takes = takes; action = stmt_lasts action S R h.0 cs ds p i }
      ∷ coded_last others S R h.1 cs ds p i

-- Where the leaves are planned alike, so is the function.
pub inline_lasts : (r : Routine) (S R : Widths) (params : Scalars) →
    RoutineHolds r (ValueLasts S R) (QueryLasts S R) →
    inline_with r S params ≡ inline_with r R params
inline_lasts (Body types returns body) S R params h = λ i.
    let n = 3 + length types in
    keep (n ∷ []) (extend (only (last_cell returns))
    (steps_tree (stmt_lasts body S R h [] [] refl i (top (length types)) 3 4 n)
    (extend (first_cells returns params) unit_row)))
