-- What a body does is told by what its leaves mean, whatever their plans are: so it can be said
-- before any plan is, of leaves that have none.
use Rattle.std.proofs.Common.{◌≡◌, ℕ, List, ◌∷◌, ◌++◌, replicate, refl}
use Rattle.sql_values.specs.Casts.{assigned}
use Rattle.sql_values.specs.declared.value.Value.{Value}
use Rattle.sql_values.specs.declared.value.Value.TheVariants.{Null}
use Rattle.rel_algebra.specs.Endings.{after, ending_of, equal_values}
use Rattle.rel_algebra.specs.Scopes.{Inputs}
use Rattle.rel_algebra.specs.Bodies.{Perhaps, Without, With, Variables, NoVariable, MoreVariables}
use Rattle.rel_algebra.specs.Bodies.{Stmt, Compound, If, SearchedCase, SimpleCase, Set, SelectInto}
use Rattle.rel_algebra.specs.Bodies.{Signal, Resignal, GetStatementItems, GetConditionItems, Leave}
use Rattle.rel_algebra.specs.Bodies.{Return, Stmts, NoStmt, MoreStmts, Branches, NoBranch}
use Rattle.rel_algebra.specs.Bodies.{MoreBranches, Handlers, NoHandler, MoreHandlers, Routine, Body}
use Rattle.rel_algebra.specs.BodyMeaning.{Context, call, choose, declare, does, does_all}
use Rattle.rel_algebra.specs.BodyMeaning.{does_branches, does_else, does_matching, handlings}
use Rattle.rel_algebra.specs.BodyMeaning.{in_action, inside_scopes, no_context, perhaps_in}
use Rattle.rel_algebra.specs.BodyMeaning.{returned_or, resignalling, signalling, value_in}
use Rattle.rel_algebra.specs.BodyCompounds.{compound}
use Rattle.rel_algebra.specs.BodyDoing.{Doing, Frame, in_turn}
use Rattle.rel_algebra.specs.BodyHandlers.{Scopes, with_value}
use Rattle.rel_algebra.specs.Leaves.{answered, valued}

-- an expression that may be left out, without its plan
abbrev pub perhaps_unplanned : Perhaps → Perhaps
perhaps_unplanned Without = Without
perhaps_unplanned (With e) = With (valued e.value)

-- declarations without the plans of their leaves
abbrev pub variables_unplanned : Variables → Variables
variables_unplanned NoVariable = NoVariable
variables_unplanned (MoreVariables k t default others) =
    MoreVariables k t (perhaps_unplanned default) (variables_unplanned others)

abbrev mutual
  -- a statement without the plans of its leaves
  pub unplanned : Stmt → Stmt
  unplanned (Compound atomic variables handlers body) =
      Compound atomic (variables_unplanned variables) (handlers_unplanned handlers)
      (all_unplanned body)
  unplanned (If branches otherwise) = If (branches_unplanned branches) (all_unplanned otherwise)
  unplanned (SearchedCase branches otherwise) =
      SearchedCase (branches_unplanned branches) (all_unplanned otherwise)
  unplanned (SimpleCase e branches otherwise) =
      SimpleCase (valued e.value) (branches_unplanned branches) (all_unplanned otherwise)
  unplanned (Set t e) = Set t (valued e.value)
  unplanned (SelectInto query targets) = SelectInto (answered query.answer) targets
  unplanned (Signal state text) = Signal state (perhaps_unplanned text)
  unplanned (Resignal state text) = Resignal state (perhaps_unplanned text)
  unplanned (GetStatementItems reads) = GetStatementItems reads
  unplanned (GetConditionItems number reads) = GetConditionItems (valued number.value) reads
  unplanned (Leave outwards) = Leave outwards
  unplanned (Return e) = Return (valued e.value)

  -- statements in order
  pub all_unplanned : Stmts → Stmts
  all_unplanned NoStmt = NoStmt
  all_unplanned (MoreStmts s ss) = MoreStmts (unplanned s) (all_unplanned ss)

  -- tests or values with their statements
  pub branches_unplanned : Branches → Branches
  branches_unplanned NoBranch = NoBranch
  branches_unplanned (MoreBranches test body others) =
      MoreBranches (valued test.value) (all_unplanned body) (branches_unplanned others)

  -- the handlers of a compound statement
  pub handlers_unplanned : Handlers → Handlers
  handlers_unplanned NoHandler = NoHandler
  handlers_unplanned (MoreHandlers kind takes action others) =
      MoreHandlers kind takes (unplanned action) (handlers_unplanned others)

-- a function without the plans of its leaves
abbrev pub routine_unplanned : Routine → Routine
routine_unplanned (Body types returns body) = Body types returns (unplanned body)

-- ---- they do the same

perhaps_same : (text : Perhaps) (w : Inputs) →
    perhaps_in w (perhaps_unplanned text) ≡ perhaps_in w text
perhaps_same Without w = refl
perhaps_same (With e) w = refl

declare_same : (vs : Variables) (w : Inputs) (f : Frame) →
    declare (variables_unplanned vs) w f ≡ declare vs w f
declare_same NoVariable w f = refl
declare_same (MoreVariables k t Without others) w f = declare_same others w (f ++ replicate k Null)
declare_same (MoreVariables k t (With e) others) w f = λ i.
    after (value_in w e f) (λ x. after (ending_of (assigned t x))
    (λ v. declare_same others w (f ++ replicate k v) i))

mutual
  does_same : (s : Stmt) (w : Inputs) (c : Context) → does (unplanned s) w c ≡ does s w c
  does_same (Compound atomic variables handlers body) w c = λ i.
      compound atomic c.level c.scopes (λ f. declare_same variables w f i)
      (λ outer. handlings_same handlers w c.level outer i)
      (λ scopes. all_same body w (inside_scopes scopes c) i)
  does_same (If branches otherwise) w c = branches_same branches w c
      (does_all (all_unplanned otherwise) w c) (does_all otherwise w c) (all_same otherwise w c)
  does_same (SearchedCase branches otherwise) w c = branches_same branches w c
      (does_else (all_unplanned otherwise) w c) (does_else otherwise w c) (else_same otherwise w c)
  does_same (SimpleCase e branches otherwise) w c = λ i.
      with_value c.scopes (value_in w e) (λ x. matching_same branches x w c
      (does_else (all_unplanned otherwise) w c) (does_else otherwise w c) (else_same otherwise w c)
      i)
  does_same (Set t e) w c = refl
  does_same (SelectInto query targets) w c = refl
  does_same (Signal state text) w c = λ i. signalling state c.scopes (perhaps_same text w i)
  does_same (Resignal state text) w c = λ i.
      resignalling c.stacked state c.scopes (perhaps_same text w i)
  does_same (GetStatementItems reads) w c = refl
  does_same (GetConditionItems number reads) w c = refl
  does_same (Leave outwards) w c = refl
  does_same (Return e) w c = refl

  all_same : (ss : Stmts) (w : Inputs) (c : Context) →
      does_all (all_unplanned ss) w c ≡ does_all ss w c
  all_same NoStmt w c = refl
  all_same (MoreStmts s ss) w c = λ i. in_turn (does_same s w c i) (all_same ss w c i)

  else_same : (ss : Stmts) (w : Inputs) (c : Context) →
      does_else (all_unplanned ss) w c ≡ does_else ss w c
  else_same NoStmt w c = refl
  else_same (MoreStmts s ss) w c = λ i. in_turn (does_same s w c i) (all_same ss w c i)

  branches_same : (bs : Branches) (w : Inputs) (c : Context) (d e : Doing) → d ≡ e →
      does_branches (branches_unplanned bs) w c d ≡ does_branches bs w c e
  branches_same NoBranch w c d e h = h
  branches_same (MoreBranches test body others) w c d e h = λ i.
      with_value c.scopes (value_in w test) (λ v. choose v (all_same body w c i)
      (branches_same others w c d e h i))

  matching_same : (bs : Branches) (x : Value) (w : Inputs) (c : Context) (d e : Doing) → d ≡ e →
      does_matching (branches_unplanned bs) x w c d ≡ does_matching bs x w c e
  matching_same NoBranch x w c d e h = h
  matching_same (MoreBranches test body others) x w c d e h = λ i.
      with_value c.scopes (value_in w test) (λ y. choose (equal_values x y) (all_same body w c i)
      (matching_same others x w c d e h i))

  handlings_same : (hs : Handlers) (w : Inputs) (level : ℕ) (outer : Scopes) →
      handlings (handlers_unplanned hs) w level outer ≡ handlings hs w level outer
  handlings_same NoHandler w level outer = refl
  handlings_same (MoreHandlers kind takes action others) w level outer = λ i.
      record {
        kind = kind;
        takes = takes;
        action = λ area. does_same action w (in_action outer area level) i;
      } ∷ handlings_same others w level outer i

-- a call gives the same
pub call_unplanned : (r : Routine) (vs : List Value) (w : Inputs) →
    call (routine_unplanned r) vs w ≡ call r vs w
call_unplanned (Body types returns body) vs w = λ i.
    returned_or returns (does_same body w no_context i vs).outcome
