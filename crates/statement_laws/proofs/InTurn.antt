-- Statements in their order, and the branches of IF and CASE.
use Rattle.std.proofs.Common.{◌≡◌, [], Bool, true, false, refl, sym, ap, ◌∙◌, if◌then◌else◌}
use Rattle.sql_values.specs.declared.value.Value.{Value}
use Rattle.sql_values.specs.Values.{is_true}
use Rattle.rel_algebra.specs.Tree.{Expr, Stmts, NoStmt, MoreStmts, Branches, MoreBranches}
use Rattle.rel_algebra.specs.World.{World, Frame, Ends, Gives, unit}
use Rattle.rel_algebra.specs.Endings.{equal_values}
use Rattle.rel_algebra.specs.Doing.{Outcome, Next, Leaving, Iterating, Returning, Exiting, Raising}
use Rattle.rel_algebra.specs.Doing.{Spent, Doing, End, ends, in_turn, next_of, next_or}
use Rattle.rel_algebra.specs.Handlers.{with_end}
use Rattle.rel_algebra.specs.Meaning.{Context, ev, does, does_all, does_else, does_branches}
use Rattle.rel_algebra.specs.Meaning.{does_matching}
use Rattle.statement_laws.specs.InTurn.{Otherwise, appended, GoesInTurn, ListGoesOn, ElseGoesOn}
use Rattle.statement_laws.specs.InTurn.{BranchesGoOn, MatchingGoesOn}

-- ---- in turn

-- an end that isn't Next is that of both
ends_both : (o : Outcome) (go : Doing) → Otherwise o → next_or o go ≡ ends o
ends_both Next go h = absurd (h refl)
ends_both (Leaving l) go h = refl
ends_both (Iterating l) go h = refl
ends_both (Returning v) go h = refl
ends_both (Exiting l area) go h = refl
ends_both (Raising area) go h = refl
ends_both Spent go h = refl

pub goes_next : (first second : Doing) (f g : Frame) (w u : World) → first f w ≡ ends Next g u →
    in_turn first second f w ≡ second g u
goes_next first second f g w u h = ap (λ (e : End). next_of e second) h

pub goes_out : (first second : Doing) (f g : Frame) (w u : World) (o : Outcome) →
    first f w ≡ ends o g u → Otherwise o → in_turn first second f w ≡ ends o g u
goes_out first second f g w u o h other =
    ap (λ (e : End). next_of e second) h
    ∙ ap (λ (d : Doing). d g u) (ends_both o second other)

pub goes_in_turn : GoesInTurn
goes_in_turn = record { next = goes_next; stops = goes_out }

-- ---- lists

next_next : (o : Outcome) (f : Frame) (w : World) (second third : Doing) →
    next_of (next_or o second f w) third ≡ next_or o (in_turn second third) f w
next_next Next f w second third = refl
next_next (Leaving l) f w second third = refl
next_next (Iterating l) f w second third = refl
next_next (Returning v) f w second third = refl
next_next (Exiting l area) f w second third = refl
next_next (Raising area) f w second third = refl
next_next Spent f w second third = refl

-- three in turn
three : (first second third : Doing) (f : Frame) (w : World) →
    in_turn (in_turn first second) third f w ≡ in_turn first (in_turn second third) f w
three first second third f w =
    let e = first f w in next_next e.outcome e.frame e.world second third

-- what is done first, where what follows does the same
same_next : (e : End) (go on : Doing) → ((f : Frame) (w : World) → go f w ≡ on f w) →
    next_of e go ≡ next_of e on
same_next e go on h = λ i. next_of e (λ f w. h f w i)

all_append : (ss ts : Stmts) (c : Context) (f : Frame) (w : World) →
    does_all (appended ss ts) c f w ≡ in_turn (does_all ss c) (does_all ts c) f w
all_append NoStmt ts c f w = refl
all_append (MoreStmts s ss) ts c f w =
    same_next (does s c f w) (does_all (appended ss ts) c)
    (in_turn (does_all ss c) (does_all ts c)) (λ g u. all_append ss ts c g u)
    ∙ sym (three (does s c) (does_all ss c) (does_all ts c) f w)

pub list_goes_on : ListGoesOn
list_goes_on = record {
  none = λ ss c f w is. ap (λ (xs : Stmts). does_all xs c f w) is;
  next = λ ss s more c f g w u is h. ap (λ (xs : Stmts). does_all xs c f w) is
      ∙ goes_next (does s c) (does_all more c) f g w u h;
  stops = λ ss s more c f g w u o is h other. ap (λ (xs : Stmts). does_all xs c f w) is
      ∙ goes_out (does s c) (does_all more c) f g w u o h other;
  rest = λ ss ts c f g w u h. all_append ss ts c f w
      ∙ goes_next (does_all ss c) (does_all ts c) f g w u h;
  first = λ ss ts c f g w u o h other. all_append ss ts c f w
      ∙ goes_out (does_all ss c) (does_all ts c) f g w u o h other;
}

pub else_goes_on : ElseGoesOn
else_goes_on = record {
  none = λ ss c f w is. ap (λ (xs : Stmts). does_else xs c f w) is;
  some = λ ss s more c f w is. ap (λ (xs : Stmts). does_else xs c f w) is
      ∙ ap (λ (xs : Stmts). does_all xs c f w) (sym is);
}

-- ---- branches

module _ (bs : Branches) (test : Expr) (body : Stmts) (more : Branches) (c : Context)
    (otherwise : Doing) (f : Frame) (w : World) where
  -- by the end of the first test
  by_test : (e : Ends Value) → bs ≡ MoreBranches test body more →
      unit (ev test c.self [] f) w ≡ e → does_branches bs c otherwise f w ≡ with_end c.scopes e f
      (λ v. if is_true v then does_all body c else does_branches more c otherwise)
  by_test e is h = ap (λ (xs : Branches). does_branches xs c otherwise f w) is
      ∙ ap (λ (x : Ends Value). with_end c.scopes x f
      (λ v. if is_true v then does_all body c else does_branches more c otherwise)) h

  by_truth : (u : World) (v : Value) (b : Bool) → bs ≡ MoreBranches test body more →
      unit (ev test c.self [] f) w ≡ Gives v u → is_true v ≡ b →
      does_branches bs c otherwise f w ≡
      (if b then does_all body c else does_branches more c otherwise) f u
  by_truth u v b is h truth = by_test (Gives v u) is h
      ∙ ap (λ (x : Bool). (if x then does_all body c else does_branches more c otherwise) f u) truth

pub branches_go_on : BranchesGoOn
branches_go_on = record {
  none = λ bs c otherwise f w is. ap (λ (xs : Branches). does_branches xs c otherwise f w) is;
  taken = λ bs test body more c otherwise f w u v is h truth.
      by_truth bs test body more c otherwise f w u v true is h truth;
  passed = λ bs test body more c otherwise f w u v is h truth.
      by_truth bs test body more c otherwise f w u v false is h truth;
  raises = λ bs test body more c otherwise f w u area is h.
      by_test bs test body more c otherwise f w _ is h;
  runs_out = λ bs test body more c otherwise f w u is h.
      by_test bs test body more c otherwise f w _ is h;
}

module _ (bs : Branches) (e : Expr) (body : Stmts) (more : Branches) (x : Value) (c : Context)
    (otherwise : Doing) (f : Frame) (w : World) where
  -- what follows the value with which the operand is compared
  abbrev matched : Value → Doing
  matched v = if is_true (equal_values x v) then does_all body c
      else does_matching more x c otherwise

  -- by the end of the first value
  by_value : (end : Ends Value) → bs ≡ MoreBranches e body more →
      unit (ev e c.self [] f) w ≡ end → does_matching bs x c otherwise f w ≡ with_end c.scopes end f
      matched
  by_value end is h = ap (λ (xs : Branches). does_matching xs x c otherwise f w) is
      ∙ ap (λ (y : Ends Value). with_end c.scopes y f matched) h

  by_match : (u : World) (v : Value) (b : Bool) → bs ≡ MoreBranches e body more →
      unit (ev e c.self [] f) w ≡ Gives v u → is_true (equal_values x v) ≡ b →
      does_matching bs x c otherwise f w ≡
      (if b then does_all body c else does_matching more x c otherwise) f u
  by_match u v b is h truth = by_value (Gives v u) is h
      ∙ ap (λ (y : Bool). (if y then does_all body c else does_matching more x c otherwise) f u)
      truth

pub matching_goes_on : MatchingGoesOn
matching_goes_on = record {
  none = λ bs x c otherwise f w is. ap (λ (xs : Branches). does_matching xs x c otherwise f w) is;
  taken = λ bs e body more x c otherwise f w u v is h truth.
      by_match bs e body more x c otherwise f w u v true is h truth;
  passed = λ bs e body more x c otherwise f w u v is h truth.
      by_match bs e body more x c otherwise f w u v false is h truth;
  raises = λ bs e body more x c otherwise f w u area is h.
      by_value bs e body more x c otherwise f w _ is h;
  runs_out = λ bs e body more x c otherwise f w u is h.
      by_value bs e body more x c otherwise f w _ is h;
}
