-- What a body raises is an exception, whatever its leaves are: any other condition that no handler
-- takes is dropped.
use Rattle.std.proofs.Common.{◌≡◌, ℕ, Bool, true, false, cond, nat_eq, List, [], ◌∷◌, length}
use Rattle.std.proofs.Common.{take, Option, Some, None, Ok, Err, refl}
use Rattle.sql_values.specs.declared.value.Value.{Value}
use Rattle.sql_values.specs.declared.value.Value.TheVariants.{Null, Int, Str, Bool as Truth}
use Rattle.sql_values.specs.declared.value.SqlType.{SqlType}
use Rattle.sql_values.specs.declared.value.ValueFault.{ValueFault}
use Rattle.sql_values.specs.declared.value.ValueFault.TheVariants.{TooLong, OutOfRange, DivZero}
use Rattle.sql_values.specs.declared.value.ValueFault.TheVariants.{BadCast, BadSubstring, NoMemory}
use Rattle.sql_values.specs.Casts.{assigned}
use Rattle.sql_values.specs.Values.{Outcome as Judged, is_true}
use Rattle.sql_conditions.specs.declared.condition.Condition.{Condition}
use Rattle.sql_conditions.specs.Conditions.{Area, area_of}
use Rattle.rel_algebra.specs.Endings.{Ending, after, ending_of, equal_values}
use Rattle.rel_algebra.specs.OnConditions.{condition_numbered}
use Rattle.rel_algebra.specs.Scopes.{Inputs}
use Rattle.rel_algebra.specs.States.{invalid_number, is_exception, not_active, not_stacked}
use Rattle.rel_algebra.specs.States.{case_not_found, null_text, one_condition, state_in}
use Rattle.rel_algebra.specs.World.{condition_of}
use Rattle.rel_algebra.specs.Bodies.{Target, HandlerType, Continue, Exit, Undo, StatementRead}
use Rattle.rel_algebra.specs.Bodies.{ConditionRead, Stmt, Compound, If, SearchedCase, SimpleCase}
use Rattle.rel_algebra.specs.Bodies.{Set, SelectInto, Signal, Resignal, GetStatementItems}
use Rattle.rel_algebra.specs.Bodies.{GetConditionItems, Leave, Return, Stmts, NoStmt, MoreStmts}
use Rattle.rel_algebra.specs.Bodies.{Branches, NoBranch, MoreBranches, Handlers, NoHandler}
use Rattle.rel_algebra.specs.Bodies.{MoreHandlers, Routine, Body}
use Rattle.rel_algebra.specs.BodyDoing.{Frame, Outcome, Next, Leaving, Returning, Exiting, Raising}
use Rattle.rel_algebra.specs.BodyDoing.{Doing, ends, in_turn, next_or, storing, take_values}
use Rattle.rel_algebra.specs.BodyHandlers.{Handling, Scopes, act_by, best_here, covers_it}
use Rattle.rel_algebra.specs.BodyHandlers.{first_with, names_it, or_else, raising, unhandled}
use Rattle.rel_algebra.specs.BodyHandlers.{with_best, with_end, with_value}
use Rattle.rel_algebra.specs.BodyCompounds.{compound, declared_or, exited_or, left_or, listed}
use Rattle.rel_algebra.specs.BodyCompounds.{scope_in, scopes_in, sealed_or}
use Rattle.rel_algebra.specs.BodyMeaning.{Context, again_as, call, choose, declare, does, does_all}
use Rattle.rel_algebra.specs.BodyMeaning.{condition_targets, condition_values, does_branches}
use Rattle.rel_algebra.specs.BodyMeaning.{does_else, does_matching, getting_area}
use Rattle.rel_algebra.specs.BodyMeaning.{getting_condition, handlings, in_action, inside_scopes}
use Rattle.rel_algebra.specs.BodyMeaning.{no_context, of_condition, one_row, or_empty, perhaps_in}
use Rattle.rel_algebra.specs.BodyMeaning.{reading_into, resignalling, returned_or, seen}
use Rattle.rel_algebra.specs.BodyMeaning.{statement_targets, statement_values, value_in}
use Rattle.rel_algebra.specs.BodyMeaning.{with_text}

-- ---- exceptions

-- these conditions are those of an exception
abbrev pub Excepts : Area → Type 0
Excepts area = is_exception (state_in area) ≡ true

-- what raises at all raises an exception
abbrev pub Fails : {A : Type 0} → Ending A → Type 0
Fails (Ok a) = Unit {0}
Fails (Err area) = Excepts area

pub fails_after : {A B : Type 0} (e : Ending A) (go : A → Ending B) → Fails e →
    ((a : A) → Fails (go a)) → Fails (after e go)
fails_after (Ok a) go h k = k a
fails_after (Err area) go h k = h

fault_excepts : (fault : ValueFault) → Excepts (area_of (condition_of fault))
fault_excepts TooLong = refl
fault_excepts OutOfRange = refl
fault_excepts DivZero = refl
fault_excepts BadCast = refl
fault_excepts BadSubstring = refl
fault_excepts NoMemory = refl

pub ending_fails : (o : Judged) → Fails (ending_of o)
ending_fails (Ok v) = tt
ending_fails (Err fault) = fault_excepts fault

-- what is raised is an exception
abbrev pub Told : Outcome → Type 0
Told Next = Unit {0}
Told (Leaving l) = Unit {0}
Told (Returning v) = Unit {0}
Told (Exiting l area) = Unit {0}
Told (Raising area) = Excepts area

-- from every frame
abbrev pub Tells : Doing → Type 0
Tells d = (f : Frame) → Told (d f).outcome

-- ---- one after another

next_tells : (o : Outcome) (go : Doing) → Told o → Tells go → Tells (next_or o go)
next_tells Next go t h f = h f
next_tells (Leaving l) go t h f = tt
next_tells (Returning v) go t h f = tt
next_tells (Exiting l area) go t h f = tt
next_tells (Raising area) go t h f = t

turn_tells : (d e : Doing) → Tells d → Tells e → Tells (in_turn d e)
turn_tells d e h k f = next_tells (d f).outcome e (h f) k (d f).frame

-- ---- handlers

-- the actions of handlers
abbrev pub EachTells : List Handling → Type 0
EachTells [] = Unit {0}
EachTells (h ∷ hs) = ((area : Area) → Tells (h.action area)) × EachTells hs

-- of those in sight
abbrev pub ScopesTell : Scopes → Type 0
ScopesTell [] = Unit {0}
ScopesTell (s ∷ ss) = EachTells s.handlings × ScopesTell ss

-- of one that may be found
abbrev pub FoundTells : Option Handling → Type 0
FoundTells None = Unit {0}
FoundTells (Some h) = (area : Area) → Tells (h.action area)

else_tells : (x y : Option Handling) → FoundTells x → FoundTells y → FoundTells (or_else x y)
else_tells None y h k = k
else_tells (Some a) y h k = h

if_tells : (b : Bool) (x y : Option Handling) → FoundTells x → FoundTells y →
    FoundTells (cond b x y)
if_tells true x y h k = h
if_tells false x y h k = k

first_tells : (test : Handling → Bool) (hs : List Handling) → EachTells hs →
    FoundTells (first_with test hs)
first_tells test [] t = tt
first_tells test (h ∷ hs) t =
    if_tells (test h) (Some h) (first_with test hs) t.0 (first_tells test hs t.1)

best_tells : (state : List ℕ) (hs : List Handling) → EachTells hs → FoundTells (best_here state hs)
best_tells state hs t =
    else_tells (first_with (λ h. names_it state h.takes) hs)
    (first_with (λ h. covers_it state h.takes) hs)
    (first_tells (λ h. names_it state h.takes) hs t)
    (first_tells (λ h. covers_it state h.takes) hs t)

act_tells : (kind : HandlerType) (action : Area → Doing) (level n : ℕ) (area : Area) →
    Tells (action area) → Tells (act_by kind action level n area)
act_tells Continue action level n area t f = t (take n f)
act_tells Exit action level n area t f = tt
act_tells Undo action level n area t f = tt

unhandled_tells : (area : Area) → Tells (unhandled area)
unhandled_tells area = either (is_exception (state_in area)) refl
  where
    either : (b : Bool) → is_exception (state_in area) ≡ b →
        Tells (cond b (ends (Raising area)) (ends Next))
    either true e f = e
    either false e f = tt

raising_tells : (ss : Scopes) → ScopesTell ss → (area : Area) → Tells (raising ss area)
raising_tells [] t area = unhandled_tells area
raising_tells (s ∷ ss) t area =
    found (best_here (state_in area) s.handlings) (best_tells (state_in area) s.handlings t.0)
    (raising ss area) (raising_tells ss t.1 area)
  where
    found : (x : Option Handling) → FoundTells x → (rest : Doing) → Tells rest → Tells (with_best x
        (λ h. act_by h.kind h.action s.level s.variables area) rest)
    found None h rest k = k
    found (Some a) h rest k = act_tells a.kind a.action s.level s.variables area (h area)

end_tells : {A : Type 0} (ss : Scopes) → ScopesTell ss → (e : Ending A) (f : Frame)
    (go : A → Doing) → ((a : A) → Tells (go a)) → Told (with_end ss e f go).outcome
end_tells ss t (Ok a) f go h = h a f
end_tells ss t (Err area) f go h = raising_tells ss t area f

value_tells : {A : Type 0} (ss : Scopes) → ScopesTell ss → (e : Frame → Ending A)
    (go : A → Doing) → ((a : A) → Tells (go a)) → Tells (with_value ss e go)
value_tells ss t e go h f = end_tells ss t (e f) f go h

-- ---- compound statements

inside_tells : (atomic : Bool) (ss : Scopes) → ScopesTell ss → ScopesTell (scopes_in atomic ss)
inside_tells true ss t = tt
inside_tells false ss t = t

exited_tells : (level : ℕ) (own : List Handling) → EachTells own → (o : Outcome) → Told o →
    Tells (exited_or level own o)
exited_tells level own h Next t f = tt
exited_tells level own h (Leaving l) t f = tt
exited_tells level own h (Returning v) t f = tt
exited_tells level own h (Exiting l area) t f = here (nat_eq l level) f
  where
    found : (x : Option Handling) → FoundTells x →
        Tells (with_best x (λ y. y.action area) (ends (Exiting level area)))
    found None k f = tt
    found (Some a) k f = k area f

    here : (b : Bool) → Tells (cond b (with_best (best_here (state_in area) own)
        (λ y. y.action area) (ends (Exiting level area))) (ends (Exiting l area)))
    here true f = found (best_here (state_in area) own) (best_tells (state_in area) own h) f
    here false f = tt
exited_tells level own h (Raising area) t f = t

left_told : (level : ℕ) (o : Outcome) → Told o → Told (left_or level o)
left_told level Next t = tt
left_told level (Leaving l) t = here (nat_eq l level)
  where
    here : (b : Bool) → Told (cond b Next (Leaving l))
    here true = tt
    here false = tt
left_told level (Returning v) t = tt
left_told level (Exiting l area) t = tt
left_told level (Raising area) t = t

sealed_tells : (atomic : Bool) (ss : Scopes) → ScopesTell ss → (o : Outcome) → Told o →
    Tells (sealed_or atomic ss o)
sealed_tells true ss s (Raising area) t f = raising_tells ss s area f
sealed_tells true ss s Next t f = tt
sealed_tells true ss s (Leaving l) t f = tt
sealed_tells true ss s (Returning v) t f = tt
sealed_tells true ss s (Exiting l area) t f = tt
sealed_tells false ss s o t f = t

listed_tells : (level : ℕ) (outer : Scopes) → ScopesTell outer → (own : List Handling) →
    EachTells own → (body : Scopes → Doing) → ((ss : Scopes) → ScopesTell ss → Tells (body ss)) →
    Tells (listed level outer own body)
listed_tells level outer t own k body h f =
    let inner = scope_in level own f ∷ outer in let e = body inner f in
    let x = exited_or level own e.outcome e.frame in
    left_told level x.outcome (exited_tells level own k e.outcome (h inner (k, t) f) e.frame)

declared_tells : (atomic : Bool) (ss : Scopes) → ScopesTell ss → (e : Ending Frame) (go : Doing) →
    Tells go → (f : Frame) → Told (declared_or atomic ss e go f).outcome
declared_tells atomic ss t (Ok g) go h f =
    sealed_tells atomic ss t (go g).outcome (h g) (take (length f) (go g).frame)
declared_tells atomic ss t (Err area) go h f = raising_tells ss t area f

compound_tells : (atomic : Bool) (level : ℕ) (ss : Scopes) → ScopesTell ss →
    (declares : Frame → Ending Frame) (own : Scopes → List Handling) →
    ((outer : Scopes) → ScopesTell outer → EachTells (own outer)) → (body : Scopes → Doing) →
    ((inner : Scopes) → ScopesTell inner → Tells (body inner)) →
    Tells (compound atomic level ss declares own body)
compound_tells atomic level ss t declares own k body h f =
    let outer = scopes_in atomic ss in let u = inside_tells atomic ss t in
    declared_tells atomic ss t (declares f) (listed level outer (own outer) body)
    (listed_tells level outer u (own outer) (k outer u) body h) f

-- ---- statements of one kind

storing_tells : (ts : List Target) (vs : List Value) → Tells (storing ts vs)
storing_tells ts vs f = tt

text_tells : (ss : Scopes) → ScopesTell ss → (v : Option Value) (go : Option (List ℕ) → Doing) →
    ((s : Option (List ℕ)) → Tells (go s)) → Tells (with_text ss v go)
text_tells ss t None go h = h None
text_tells ss t (Some (Str s)) go h = h (Some s)
text_tells ss t (Some Null) go h = raising_tells ss t null_text
text_tells ss t (Some (Int n)) go h = raising_tells ss t null_text
text_tells ss t (Some (Truth b)) go h = raising_tells ss t null_text

again_tells : (stacked : Option Area) (state : Option (List ℕ)) (ss : Scopes) → ScopesTell ss →
    (message : Frame → Ending (Option Value)) → Tells (resignalling stacked state ss message)
again_tells None state ss t message = raising_tells ss t not_active
again_tells (Some area) state ss t message =
    value_tells ss t message _ (λ v. text_tells ss t v _
    (λ s. raising_tells ss t (again_as state s area)))

reading_tells : (ss : Scopes) → ScopesTell ss → (ts : List Target) (vs : List Value) →
    Tells (reading_into ss ts vs)
reading_tells ss t ts vs = value_tells ss t (λ f. take_values ts vs) (storing ts) (storing_tells ts)

area_tells : (stacked : Option Area) (ss : Scopes) → ScopesTell ss → (reads : List StatementRead) →
    Tells (getting_area stacked ss reads)
area_tells None ss t reads = raising_tells ss t not_stacked
area_tells (Some area) ss t reads =
    reading_tells ss t (statement_targets reads) (statement_values area reads)

of_condition_tells : (c : Option Condition) (ss : Scopes) → ScopesTell ss →
    (reads : List ConditionRead) → Tells (of_condition c ss reads)
of_condition_tells None ss t reads = raising_tells ss t invalid_number
of_condition_tells (Some c) ss t reads =
    reading_tells ss t (condition_targets reads) (condition_values c reads)

condition_tells : (stacked : Option Area) (ss : Scopes) → ScopesTell ss →
    (number : Frame → Ending Value) (reads : List ConditionRead) →
    Tells (getting_condition stacked ss number reads)
condition_tells None ss t number reads = raising_tells ss t not_stacked
condition_tells (Some area) ss t number reads =
    value_tells ss t number (λ n. of_condition (condition_numbered n area) ss reads)
    (λ n. of_condition_tells (condition_numbered n area) ss t reads)

choose_tells : (v : Value) (d e : Doing) → Tells d → Tells e → Tells (choose v d e)
choose_tells v d e h k = either (is_true v)
  where
    either : (b : Bool) → Tells (cond b d e)
    either true = h
    either false = k

-- ---- all statements

mutual
  stmt_tells : (s : Stmt) (w : Inputs) (c : Context) → ScopesTell c.scopes → Tells (does s w c)
  stmt_tells (Compound atomic variables handlers body) w c t =
      compound_tells atomic c.level c.scopes t (declare variables w)
      (λ outer. handlings handlers w c.level outer)
      (λ outer u. handlers_tell handlers w c.level outer u)
      (λ scopes. does_all body w (inside_scopes scopes c))
      (λ inner u. all_tell body w (inside_scopes inner c) u)
  stmt_tells (If branches otherwise) w c t =
      branches_tell branches w c t (does_all otherwise w c) (all_tell otherwise w c t)
  stmt_tells (SearchedCase branches otherwise) w c t =
      branches_tell branches w c t (does_else otherwise w c) (otherwise_tell otherwise w c t)
  stmt_tells (SimpleCase e branches otherwise) w c t =
      value_tells c.scopes t (value_in w e)
      (λ x. does_matching branches x w c (does_else otherwise w c))
      (λ x. matching_tell branches x w c t (does_else otherwise w c)
      (otherwise_tell otherwise w c t))
  stmt_tells (Set target e) w c t =
      value_tells c.scopes t
      (λ f. after (value_in w e f) (λ v. take_values (target ∷ []) (v ∷ [])))
      (storing (target ∷ [])) (storing_tells (target ∷ []))
  stmt_tells (SelectInto query targets) w c t =
      value_tells c.scopes t (λ f. after (query.answer w (seen f)) (λ rows. one_row targets rows))
      (storing targets) (storing_tells targets)
  stmt_tells (Signal state text) w c t =
      value_tells c.scopes t (perhaps_in w text) _ (λ v. text_tells c.scopes t v _
      (λ s. raising_tells c.scopes t (one_condition state (or_empty s))))
  stmt_tells (Resignal state text) w c t =
      again_tells c.stacked state c.scopes t (perhaps_in w text)
  stmt_tells (GetStatementItems reads) w c t = area_tells c.stacked c.scopes t reads
  stmt_tells (GetConditionItems number reads) w c t =
      condition_tells c.stacked c.scopes t (value_in w number) reads
  stmt_tells (Leave outwards) w c t = λ f. tt
  stmt_tells (Return e) w c t =
      value_tells c.scopes t (value_in w e) (λ v. ends (Returning v)) (λ v f. tt)

  all_tell : (ss : Stmts) (w : Inputs) (c : Context) → ScopesTell c.scopes → Tells (does_all ss w c)
  all_tell NoStmt w c t = λ f. tt
  all_tell (MoreStmts s ss) w c t =
      turn_tells (does s w c) (does_all ss w c) (stmt_tells s w c t) (all_tell ss w c t)

  otherwise_tell : (ss : Stmts) (w : Inputs) (c : Context) → ScopesTell c.scopes →
      Tells (does_else ss w c)
  otherwise_tell NoStmt w c t = raising_tells c.scopes t case_not_found
  otherwise_tell (MoreStmts s ss) w c t =
      turn_tells (does s w c) (does_all ss w c) (stmt_tells s w c t) (all_tell ss w c t)

  branches_tell : (bs : Branches) (w : Inputs) (c : Context) → ScopesTell c.scopes → (d : Doing) →
      Tells d → Tells (does_branches bs w c d)
  branches_tell NoBranch w c t d h = h
  branches_tell (MoreBranches test body others) w c t d h =
      value_tells c.scopes t (value_in w test)
      (λ v. choose v (does_all body w c) (does_branches others w c d))
      (λ v. choose_tells v (does_all body w c) (does_branches others w c d) (all_tell body w c t)
      (branches_tell others w c t d h))

  matching_tell : (bs : Branches) (x : Value) (w : Inputs) (c : Context) → ScopesTell c.scopes →
      (d : Doing) → Tells d → Tells (does_matching bs x w c d)
  matching_tell NoBranch x w c t d h = h
  matching_tell (MoreBranches e body others) x w c t d h =
      value_tells c.scopes t (value_in w e)
      (λ y. choose (equal_values x y) (does_all body w c) (does_matching others x w c d))
      (λ y. choose_tells (equal_values x y) (does_all body w c) (does_matching others x w c d)
      (all_tell body w c t) (matching_tell others x w c t d h))

  handlers_tell : (hs : Handlers) (w : Inputs) (level : ℕ) (outer : Scopes) → ScopesTell outer →
      EachTells (handlings hs w level outer)
  handlers_tell NoHandler w level outer t = tt
  handlers_tell (MoreHandlers kind takes action others) w level outer t = (
    λ area. stmt_tells action w (in_action outer area level) t,
    handlers_tell others w level outer t,
  )

-- ---- calls

returned_fails : (t : SqlType) (o : Outcome) → Told o → Fails (returned_or t o)
returned_fails t Next h = refl
returned_fails t (Leaving l) h = refl
returned_fails t (Returning v) h = ending_fails (assigned t v)
returned_fails t (Exiting l area) h = refl
returned_fails t (Raising area) h = h

-- a call raises nothing but exceptions
pub body_fails : (r : Routine) (vs : List Value) (w : Inputs) → Fails (call r vs w)
body_fails (Body types returns body) vs w =
    returned_fails returns (does body w no_context vs).outcome (stmt_tells body w no_context tt vs)
