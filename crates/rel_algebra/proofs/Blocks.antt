-- Blocks over planned trees: what a block means by its expressions and queries is what its body
-- does over leaves that have plans; and the leaves of SELECT INTO are right.
use Rattle.std.proofs.Common.{◌≡◌, ℕ, zero, ◌+◌, true, nat_eq, List, [], ◌∷◌}
use Rattle.std.proofs.Common.{length, Option, Some, None, refl, sym, ap, ◌∙◌, subst, suc}
use Rattle.std.proofs.Common.{if◌then◌else◌, Ok}
use Rattle.std.specs.List.{list_any}
use Rattle.sql_values.specs.Values.{is_null}
use Rattle.sql_values.specs.declared.value.Value.TheVariants.{Null}
use Rattle.sql_values.specs.declared.value.SqlType.{SqlType}
use Rattle.sql_values.specs.declared.value.Value.{Value}
use Rattle.row_types.specs.Rows.{Row}
use Rattle.row_types.specs.declared.cell.Cell.{Cell}
use Rattle.rel_algebra.specs.Bodies as body
use Rattle.rel_algebra.specs.BodyChain.{called_body, known_body}
use Rattle.rel_algebra.specs.BodyMeaning.{call}
use Rattle.rel_algebra.specs.Emit.{Env, Folded, branches_body, folded, folded_env, handlers_body}
use Rattle.rel_algebra.specs.Emit.{perhaps_body, query_leaf, stmt_body, stmts_body}
use Rattle.rel_algebra.specs.Emit.{variables_body}
use Rattle.rel_algebra.specs.Endings.{Ending, cell_end}
use Rattle.rel_algebra.specs.Joins.{query_width}
use Rattle.rel_algebra.specs.Plain.{Inputs, Scope, answer, branches_meant, columns_in, ev}
use Rattle.rel_algebra.specs.Plain.{fills}
use Rattle.rel_algebra.specs.Plain.{handlers_meant, perhaps_meant, stmt_meant, stmts_meant}
use Rattle.rel_algebra.specs.Plain.{variables_meant}
use Rattle.rel_algebra.specs.Leaves.{valued}
use Rattle.rel_algebra.specs.Theorem.{Fits}
use Rattle.rel_algebra.specs.Tree.{Query, Select, Grouped, Values, Ordered, NoExpr, Target}
use Rattle.rel_algebra.specs.Tree.{Perhaps, Without, With, Variables, NoVariable}
use Rattle.rel_algebra.specs.Tree.{MoreVariables, Stmt, Compound, If, SearchedCase, SimpleCase, Set}
use Rattle.rel_algebra.specs.Tree.{SelectInto, Signal, Resignal, GetStatementItems}
use Rattle.rel_algebra.specs.Tree.{GetConditionItems, Leave, Return, Stmts, NoStmt, MoreStmts}
use Rattle.rel_algebra.specs.Tree.{Branches, NoBranch, MoreBranches, Handlers, NoHandler}
use Rattle.rel_algebra.specs.Tree.{MoreHandlers}
use Rattle.rel_algebra.proofs.BodyCalled.{called_right}
use Rattle.rel_algebra.proofs.BodyKnown.{known_right}
use Rattle.rel_algebra.proofs.BodyHeld.{CountIs, QueryRight, RoutineRight}
use Rattle.rel_algebra.proofs.BodyHeld.{Folds as FoldsTo}
use Rattle.rel_algebra.proofs.BodyUnplanned.{all_unplanned, branches_unplanned, call_unplanned}
use Rattle.rel_algebra.proofs.BodyUnplanned.{handlers_unplanned, perhaps_unplanned, unplanned}
use Rattle.rel_algebra.proofs.BodyUnplanned.{variables_unplanned}
use Rattle.rel_algebra.proofs.Counts.{all_count}
use Rattle.rel_algebra.proofs.Folding.{FoldedRight, Folds}
use Rattle.rel_algebra.proofs.Nodes.{Reads, Yields}
use Rattle.rel_algebra.proofs.Planned.{QueryPlans}
use Rattle.rel_algebra.proofs.Right.{QueryMeans}
use Rattle.rel_algebra.proofs.Rows.{WideEnd}
use Rattle.rel_algebra.proofs.Truths.{equal_numbers, never}
use Rattle.rel_algebra.proofs.Wide.{answer_wide}

-- ---- the meaning is that over leaves without their plans

perhaps_are : (text : Perhaps) → perhaps_unplanned (perhaps_body text) ≡ perhaps_meant text
perhaps_are Without = refl
perhaps_are (With x) = refl

variables_are : (vs : Variables) → variables_unplanned (variables_body vs) ≡ variables_meant vs
variables_are NoVariable = refl
variables_are (MoreVariables k t default others) =
    λ i. body.MoreVariables k t (perhaps_are default i) (variables_are others i)

mutual
  stmt_are : (s : Stmt) → unplanned (stmt_body s) ≡ stmt_meant s
  stmt_are (Compound atomic variables cursors handlers statements) =
      λ i. body.Compound atomic (variables_are variables i) (handlers_are handlers i)
      (stmts_are statements i)
  stmt_are (If branches otherwise) =
      λ i. body.If (branches_are branches i) (stmts_are otherwise i)
  stmt_are (SearchedCase branches otherwise) =
      λ i. body.SearchedCase (branches_are branches i) (stmts_are otherwise i)
  stmt_are (SimpleCase x branches otherwise) =
      λ i. body.SimpleCase (valued (λ w f. ev x w f)) (branches_are branches i)
      (stmts_are otherwise i)
  stmt_are (Set t x) = refl
  stmt_are (SelectInto q targets) = refl
  stmt_are (Signal state text) = λ i. body.Signal state (perhaps_are text i)
  stmt_are (Resignal state text) = λ i. body.Resignal state (perhaps_are text i)
  stmt_are (GetStatementItems area reads) = refl
  stmt_are (GetConditionItems area number reads) = refl
  stmt_are (Leave outwards) = refl
  stmt_are (Return x) = refl
  stmt_are _ = refl

  stmts_are : (ss : Stmts) → all_unplanned (stmts_body ss) ≡ stmts_meant ss
  stmts_are NoStmt = refl
  stmts_are (MoreStmts s ss) = λ i. body.MoreStmts (stmt_are s i) (stmts_are ss i)

  branches_are : (bs : Branches) → branches_unplanned (branches_body bs) ≡ branches_meant bs
  branches_are NoBranch = refl
  branches_are (MoreBranches test statements others) =
      λ i. body.MoreBranches (valued (λ w f. ev test w f)) (stmts_are statements i)
      (branches_are others i)

  handlers_are : (hs : Handlers) → handlers_unplanned (handlers_body hs) ≡ handlers_meant hs
  handlers_are NoHandler = refl
  handlers_are (MoreHandlers kind takes action others) =
      λ i. body.MoreHandlers kind takes (stmt_are action i) (handlers_are others i)

-- a call gives the same
pub call_meant : (types : List SqlType) (returns : SqlType) (s : Stmt) (vs : Row) (w : Inputs) →
    call (body.Body types returns (stmt_body s)) vs w
    ≡ call (body.Body types returns (stmt_meant s)) vs w
call_meant types returns s vs w =
    sym (call_unplanned (body.Body types returns (stmt_body s)) vs w)
    ∙ ap (λ (d : body.Stmt). call (body.Body types returns d) vs w) (stmt_are s)

-- ---- how many columns a query has

-- no table tells it
pub width_alike : (q : Query) (S R : List ℕ → ℕ) → query_width q S ≡ query_width q R
width_alike (Select items from tests) S R = refl
width_alike (Grouped from tests k items ags having list) S R = refl
width_alike (Values rows) S R = refl
width_alike (Ordered q keys) S R = width_alike q S R

-- as many as targets
pub filled : (q : Query) (targets : List Target) (S : List ℕ → ℕ) → fills q targets ≡ true →
    (query_width q S ≡ length targets) × body.HasTarget targets
filled q [] S p = never p
filled q (t ∷ targets) S p = (
  width_alike q S (λ name. 0) ∙ equal_numbers (query_width q (λ name. 0)) (length (t ∷ targets)) p,
  tt,
)

-- so many scalars has the list of what is folded
pub list_counted : (q : Query) (S : List ℕ → ℕ) (e : Env) →
    CountIs (folded q S e) (query_width q S)
list_counted (Grouped from tests zero items (a ∷ ags) NoExpr list) S e = λ n. all_count list S
    (folded_env e n (suc (length ags))) (n + suc (length ags))
list_counted _ S e = tt

-- ---- SELECT INTO is right

folds_to : (oa : Option Folded) (q : Query) (w : Inputs) (o : List (List Cell)) (f : Scope)
    (z : List Cell) (n : ℕ) → FoldedRight oa q w o f z n → FoldsTo oa (answer q w f) w o z n
folds_to None q w o f z n h = tt
folds_to (Some a) q w o f z n h = record {
  parts = h.parts;
  list = h.list;
  some = h.some;
  long = h.long;
  input = h.input;
  answers = h.answers;
  yields = h.yields;
}

pub into_right : (q : Query) (targets : List Target) (w : Inputs) → Fits w → QueryPlans q →
    fills q targets ≡ true → QueryMeans q → Folds q → QueryRight w (query_leaf q) targets
into_right q targets w fits p c means folds = let long = filled q targets (columns_in w) c in (
  record {
    means = λ o f env a. means w fits o f env a;
    folds = λ o f env z n l r. folds_to (folded q (columns_in w) env) q w o f z n
        (folds w fits o f env z n l r);
    wide = λ f. subst (λ (k : ℕ). WideEnd k (answer q w f)) long.0 (answer_wide q w f p);
    counted = λ env. subst (λ (k : ℕ). CountIs (folded q (columns_in w) env) k) long.0
        (list_counted q (columns_in w) env);
  },
  long.1,
)

-- ---- a call is right

-- where there are as many values as parameters
pub block_right : (types : List SqlType) (returns : SqlType) (s : Stmt) (w : Inputs) →
    RoutineRight w (body.Body types returns (stmt_body s)) → (o : List (List Cell)) (vs : Row)
    (e : Env) (n : ℕ) (q : List Cell) → length q ≡ n → nat_eq (length vs) (length types) ≡ true →
    Reads e w o (record { rows = []; params = vs }) q →
    Yields (called_body (body.Body types returns (stmt_body s)) (columns_in w) e n) w o q
    (cell_end (call (body.Body types returns (stmt_meant s)) vs w))
block_right types returns s w right o vs e n q l c reads =
    let r = body.Body types returns (stmt_body s) in
    subst (λ (d : Ending Value). Yields (called_body r (columns_in w) e n) w o q (cell_end d))
    (call_meant types returns s vs w)
    (called_right r w right o vs e n q l (equal_numbers (length vs) (length types) c) reads)

-- the same of a function that returns NULL on NULL input
pub known_block_right : (types : List SqlType) (returns : SqlType) (s : Stmt) (w : Inputs) →
    RoutineRight w (body.Body types returns (stmt_body s)) → (o : List (List Cell)) (vs : Row)
    (e : Env) (n : ℕ) (q : List Cell) → length q ≡ n → nat_eq (length vs) (length types) ≡ true →
    Reads e w o (record { rows = []; params = vs }) q →
    Yields (known_body (body.Body types returns (stmt_body s)) (columns_in w) e n) w o q
    (cell_end (if list_any is_null vs then Ok Null
    else call (body.Body types returns (stmt_meant s)) vs w))
known_block_right types returns s w right o vs e n q l c reads =
    let r = body.Body types returns (stmt_body s) in
    subst (λ (d : Ending Value). Yields (known_body r (columns_in w) e n) w o q
    (cell_end (if list_any is_null vs then Ok Null else d)))
    (call_meant types returns s vs w)
    (known_right r w right o vs e n q l (equal_numbers (length vs) (length types) c) reads)
