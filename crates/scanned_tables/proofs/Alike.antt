-- Where a body has the same steps by two widths: from what is the same of its parts. Outside of an
-- action a RESIGNAL and a GET CONDITION have the same steps whatever their expressions are.
use Rattle.std.proofs.Common.{◌≡◌, ℕ, suc, ◌+◌, Bool, ◌||◌, List, [], ◌∷◌, ◌++◌, Option, None, refl}
use Rattle.rel_algebra.specs.Bodies.{Branches, Compound, ConditionRead}
use Rattle.rel_algebra.specs.Bodies.{GetConditionItems, HandlerType, Handlers, If, MoreBranches}
use Rattle.rel_algebra.specs.Bodies.{MoreHandlers, MoreStmts, NoBranch, NoStmt, Perhaps}
use Rattle.rel_algebra.specs.Bodies.{Resignal, SearchedCase, SimpleCase, Stmt, Stmts, Variables}
use Rattle.rel_algebra.specs.BodyChain.{Rest, and_on, branching, coded, compounded}
use Rattle.rel_algebra.specs.BodyChain.{emit, emit_again, emit_all, emit_branches}
use Rattle.rel_algebra.specs.BodyChain.{emit_condition_items, emit_else, emit_matching, equal_to}
use Rattle.rel_algebra.specs.BodyChain.{has_default, reading, tested, variable_count, with_column}
use Rattle.rel_algebra.specs.BodyCompounds.{scopes_in}
use Rattle.rel_algebra.specs.BodyDispatch.{Codes, Emit, Env, count, handled, judging}
use Rattle.rel_algebra.specs.BodySteps.{acts, fat, jump, tag}
use Rattle.rel_algebra.specs.Emissions.{width}
use Rattle.rel_algebra.specs.Joins.{places}
use Rattle.rel_algebra.specs.Leaves.{ValueLeaf, Widths}
use Rattle.rel_algebra.specs.Plan.{no_node}
use Rattle.rel_algebra.specs.Tree.{ConditionValue}
use Rattle.rel_algebra.proofs.Laws.{Holds, QueryLasts, ValueLasts, VariablesHold, declares_last}
use Rattle.rel_algebra.proofs.Laws.{stmt_lasts}

-- the same environment, in the action that handles this column, or outside of any
abbrev pub acting : Option ℕ → Env → Env
acting o env = record {
  columns = env.columns;
  labels = env.labels;
  exits = env.exits;
  out = env.out;
  stacked = o;
  level = env.level;
}

-- steps there
abbrev pub acting_on : Option ℕ → Emit → Emit
acting_on o steps env = steps (acting o env)

-- what follows tests, there
abbrev pub acting_next : Option ℕ → Rest → Rest
acting_next o rest env = rest (acting o env)

-- a statement has the same steps there
abbrev pub Same : Widths → Widths → Option ℕ → Stmt → Type 0
Same S R o s = (cs ds : Codes) → cs ≡ ds → acting_on o (emit s S cs) ≡ acting_on o (emit s R ds)

-- statements have
abbrev pub AllSame : Widths → Widths → Option ℕ → Stmts → Type 0
AllSame S R o ss = (cs ds : Codes) → cs ≡ ds →
    acting_on o (emit_all ss S cs) ≡ acting_on o (emit_all ss R ds)

-- what follows tests has
abbrev pub RestSame : Option ℕ → Rest → Rest → Type 0
RestSame o a b = acting_next o a ≡ acting_next o b

-- tests are planned alike, and their statements have the same steps
abbrev pub BranchesSame : Widths → Widths → Option ℕ → Branches → Type 0
BranchesSame S R o NoBranch = Unit {0}
BranchesSame S R o (MoreBranches test body others) = ValueLasts S R test × AllSame S R o body
    × BranchesSame S R o others

-- handlers have the same steps, in any environment
abbrev pub HandlersSame : Widths → Widths → Handlers → Type 0
HandlersSame S R hs = (cs ds : Codes) → cs ≡ ds → coded hs S cs ≡ coded hs R ds

module _ (S R : Widths) where
  -- a statement all of whose leaves are planned alike
  pub leaf_same : (s : Stmt) (o : Option ℕ) → Holds s (ValueLasts S R) (QueryLasts S R) →
      Same S R o s
  leaf_same s o h cs ds p = λ i env. stmt_lasts s S R h cs ds p i (acting o env)

  -- RESIGNAL outside of an action
  pub again_same : (state : Option (List ℕ)) (text : Perhaps) → Same S R None (Resignal state text)
  again_same state text cs ds p = λ i env here next n.
      emit_again None state text R (p i) (acting None env) here next n

  -- GET CONDITION outside of an action
  pub items_same : (number : ValueLeaf) (reads : List ConditionRead) →
      Same S R None (GetConditionItems number reads)
  items_same number reads cs ds p = λ i env here next n.
      emit_condition_items None number reads R (p i) (acting None env) here next n

  -- a statement, and more
  pub more_same : (s : Stmt) (ss : Stmts) (o : Option ℕ) → Same S R o s → AllSame S R o ss →
      AllSame S R o (MoreStmts s ss)
  more_same s ss o a b cs ds p = λ i env here next n.
      a cs ds p i env here next n ++ b cs ds p i env here next n

  -- statements, and then on
  on_same : (ss : Stmts) (o : Option ℕ) → AllSame S R o ss → (cs ds : Codes) → cs ≡ ds →
      RestSame o (and_on (emit_all ss S cs)) (and_on (emit_all ss R ds))
  on_same ss o a cs ds p = λ i env from here base free n.
      a cs ds p i env from free n ++ jump from here n ∷ []

  -- the statements of ELSE in a CASE
  else_same : (ss : Stmts) (o : Option ℕ) → AllSame S R o ss → (cs ds : Codes) → cs ≡ ds →
      RestSame o (emit_else ss S cs) (emit_else ss R ds)
  else_same NoStmt o a cs ds p = λ i env. emit_else NoStmt R (p i) (acting o env)
  else_same (MoreStmts s ss) o a cs ds p = on_same (MoreStmts s ss) o a cs ds p

  -- tests, and what follows them
  branches_same : (bs : Branches) (o : Option ℕ) → BranchesSame S R o bs → (cs ds : Codes) →
      cs ≡ ds → (a b : Rest) → RestSame o a b →
      RestSame o (emit_branches bs S cs a) (emit_branches bs R ds b)
  branches_same NoBranch o h cs ds p a b q = q
  branches_same (MoreBranches test body others) o h cs ds p a b q = λ i env from here base free n.
      branching (λ e m. h.0 (reading e) m i) (p i) (λ e. h.1 cs ds p i e)
      (λ e. branches_same others o h.2 cs ds p a b q i e) (acting o env) from here base free n

  -- what an operand is compared with, and what follows
  matching_same : (bs : Branches) (x : ℕ) (o : Option ℕ) → BranchesSame S R o bs →
      (cs ds : Codes) → cs ≡ ds → (a b : Rest) → RestSame o a b →
      RestSame o (emit_matching bs x S cs a) (emit_matching bs x R ds b)
  matching_same NoBranch x o h cs ds p a b q = q
  matching_same (MoreBranches test body others) x o h cs ds p a b q =
      λ i env from here base free n. branching (λ e m. equal_to x (h.0 (reading e) m i)) (p i)
      (λ e. h.1 cs ds p i e) (λ e. matching_same others x o h.2 cs ds p a b q i e) (acting o env)
      from here base free n

  -- IF
  pub if_same : (bs : Branches) (ss : Stmts) (o : Option ℕ) → BranchesSame S R o bs →
      AllSame S R o ss → Same S R o (If bs ss)
  if_same bs ss o h a cs ds p = λ i env here next n.
      tested (p i) (λ e. branches_same bs o h cs ds p (and_on (emit_all ss S cs))
      (and_on (emit_all ss R ds)) (on_same ss o a cs ds p) i e) (acting o env) here next n

  -- CASE with tests
  pub case_same : (bs : Branches) (ss : Stmts) (o : Option ℕ) → BranchesSame S R o bs →
      AllSame S R o ss → Same S R o (SearchedCase bs ss)
  case_same bs ss o h a cs ds p = λ i env here next n.
      tested (p i) (λ e. branches_same bs o h cs ds p (emit_else ss S cs) (emit_else ss R ds)
      (else_same ss o a cs ds p) i e) (acting o env) here next n

  -- CASE with an operand
  pub operand_same : (e : ValueLeaf) (bs : Branches) (ss : Stmts) (o : Option ℕ) →
      ValueLasts S R e → BranchesSame S R o bs → AllSame S R o ss → Same S R o (SimpleCase e bs ss)
  operand_same e bs ss o v h a cs ds p = λ i env here next n.
      let c = v (reading (acting o env)) n i in let m = width c.nodes n in
      let start = next + count (p i) in let free = suc start in
      acts here (with_column c.nodes c.scalar) (suc m)
      (judging (tag start) (p i) (acting o env) next here m []) n (m ∷ [])
      ∷ (matching_same bs n o h cs ds p (emit_else ss S cs) (emit_else ss R ds)
      (else_same ss o a cs ds p) i env start here next free (suc n)
      ++ fat no_node (places 0 n) ∷ handled (p i) (acting o env) here next free n)

  -- a handler, and more
  pub action_same : (kind : HandlerType) (takes : List ConditionValue) (action : Stmt)
      (others : Handlers) → ((o : Option ℕ) → Same S R o action) → HandlersSame S R others →
      HandlersSame S R (MoreHandlers kind takes action others)
  action_same kind takes action others a h cs ds p = λ i.
      record { kind = kind; takes = takes; action = λ env. a env.stacked cs ds p i env }
      ∷ h cs ds p i

  -- a compound statement
  pub compound_same : (atomic : Bool) (vs : Variables) (hs : Handlers) (ss : Stmts)
      (o : Option ℕ) → VariablesHold vs (ValueLasts S R) → HandlersSame S R hs →
      AllSame S R o ss → Same S R o (Compound atomic vs hs ss)
  compound_same atomic vs hs ss o v h a cs ds p = λ i env here next n.
      compounded atomic (atomic || has_default vs) (p i) (declares_last vs S R v cs ds p i)
      (variable_count vs)
      (h (scopes_in atomic cs) (scopes_in atomic ds) (λ j. scopes_in atomic (p j)) i)
      (λ inner e. a inner inner refl i e) (acting o env) here next n
