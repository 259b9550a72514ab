-- Where a raised area is sent.
use Rattle.std.proofs.Common.{◌≡◌, ℕ, suc, ◌+◌, Bool, true, false, cond, ◌||◌, List, [], ◌∷◌}
use Rattle.std.proofs.Common.{length, Option, Some, None, refl, ap, ◌∙◌, subst, inl, inr, ◌⊎◌}
use Rattle.sql_conditions.specs.Conditions.{Area}
use Rattle.sql_values.specs.declared.value.Value.TheVariants.{Bool as Truth, Null, Int, Str}
use Rattle.row_types.specs.declared.cell.Cell.{Cell}
use Rattle.row_types.specs.declared.cell.Cell.TheVariants.{Val, Cond}
use Rattle.rel_algebra.specs.Scopes.{Inputs, columns_in}
use Rattle.rel_algebra.specs.Plan.{Scalars, none, more, Sight, cell_of, cells_of, case_cell}
use Rattle.rel_algebra.specs.Plan.{or_cell, column}
use Rattle.rel_algebra.specs.Tree.{ConditionValue, State, SqlException, SqlWarning, NotFound}
use Rattle.rel_algebra.specs.States.{names, covers, state_in, is_exception}
use Rattle.rel_algebra.specs.Bodies.{HandlerType, Continue, Exit, Undo, Handlers, NoHandler}
use Rattle.rel_algebra.specs.Bodies.{MoreHandlers}
use Rattle.rel_algebra.specs.BodyDoing.{Frame, Outcome, Next, Leaving, Returning, Exiting, Raising}
use Rattle.rel_algebra.specs.BodyDoing.{End, Doing, ends, outside}
use Rattle.rel_algebra.specs.BodyHandlers.{Handling, or_else, first_with, names_it, covers_it}
use Rattle.rel_algebra.specs.BodyHandlers.{best_here, with_best, act_by, raising}
use Rattle.rel_algebra.specs.BodyMeaning.{does, in_action, handlings}
use Rattle.rel_algebra.specs.BodyDispatch.{Env, Coded, named_tests, general_tests, arm, named_arms}
use Rattle.rel_algebra.specs.BodyDispatch.{general_arms, scope_arms, aimed, dispatch, matching}
use Rattle.rel_algebra.specs.BodyChain.{coded}
use Rattle.rel_algebra.proofs.BodyBase.{at}
use Rattle.rel_algebra.proofs.BodyLands.{place_of, Seen, nowhere, within, scopes_of, codes_of}
use Rattle.rel_algebra.specs.OnConditions.{matches_cell}

-- ---- tests

or_false : (b : Bool) (cs : List Cell) → or_cell (Truth false) (Val (Truth b) ∷ cs) ≡ cond b
    (Val (Truth true)) (or_cell (Truth false) cs)
or_false true cs = refl
or_false false cs = refl

or_any : (b c : Bool) → cond b (Val (Truth true)) (Val (Truth c)) ≡ Val (Truth (b || c))
or_any true c = refl
or_any false c = refl

pub matches : (v : ConditionValue) (t : ℕ) (s : Sight) (a : Area) → cell_of (column 0 t) s
    ≡ Cond a →
    cell_of (matching v t) s ≡ Val (Truth (names v (state_in a) || covers v (state_in a)))
matches v t s a h = ap (matches_cell v) h

or_right : (b : Bool) → (b || false) ≡ b
or_right true = refl
or_right false = refl

named_cell : (vs : List ConditionValue) (t : ℕ) (s : Sight) (a : Area) → cell_of (column 0 t) s
    ≡ Cond a →
    or_cell (Truth false) (cells_of (named_tests vs t) s) ≡ Val (Truth (names_it (state_in a) vs))
named_cell [] t s a h = refl
named_cell (State x ∷ vs) t s a h =
    let b = names (State x) (state_in a) in
    ap (λ (c : Cell). or_cell (Truth false) (c ∷ cells_of (named_tests vs t) s))
    (matches (State x) t s a h ∙ ap (λ p. Val (Truth p)) (or_right b))
    ∙ (or_false b (cells_of (named_tests vs t) s)
    ∙ (ap (cond b (Val (Truth true))) (named_cell vs t s a h) ∙ or_any b
    (names_it (state_in a) vs)))
named_cell (SqlException ∷ vs) t s a h = named_cell vs t s a h
named_cell (SqlWarning ∷ vs) t s a h = named_cell vs t s a h
named_cell (NotFound ∷ vs) t s a h = named_cell vs t s a h

covered : (v : ConditionValue) (vs : List ConditionValue) (t : ℕ) (s : Sight) (a : Area) →
    cell_of (column 0 t) s ≡ Cond a →
    names v (state_in a) ≡ false → or_cell (Truth false) (cells_of (general_tests vs t) s)
    ≡ Val (Truth (covers_it (state_in a) vs)) →
    or_cell (Truth false) (cell_of (matching v t) s ∷ cells_of (general_tests vs t) s)
    ≡ Val (Truth (covers_it (state_in a) (v ∷ vs)))
covered v vs t s a h n g =
    let b = covers v (state_in a) in
    ap (λ (c : Cell). or_cell (Truth false) (c ∷ cells_of (general_tests vs t) s))
    (matches v t s a h ∙ ap (λ p. Val (Truth (p || b))) n)
    ∙ (or_false b (cells_of (general_tests vs t) s)
    ∙ (ap (cond b (Val (Truth true))) g ∙ or_any b (covers_it (state_in a) vs)))

general_cell : (vs : List ConditionValue) (t : ℕ) (s : Sight) (a : Area) → cell_of (column 0 t) s
    ≡ Cond a →
    or_cell (Truth false) (cells_of (general_tests vs t) s)
    ≡ Val (Truth (covers_it (state_in a) vs))
general_cell [] t s a h = refl
general_cell (State x ∷ vs) t s a h = general_cell vs t s a h
general_cell (SqlException ∷ vs) t s a h = covered SqlException vs t s a h refl
    (general_cell vs t s a h)
general_cell (SqlWarning ∷ vs) t s a h = covered SqlWarning vs t s a h refl
    (general_cell vs t s a h)
general_cell (NotFound ∷ vs) t s a h = covered NotFound vs t s a h refl (general_cell vs t s a h)

pub case_truth : (b : Bool) (c : Cell) (x : Cell) (cs : List Cell) →
    case_cell (Val (Truth b) ∷ c ∷ x ∷ cs) ≡ cond b c (case_cell (x ∷ cs))
case_truth true c x cs = refl
case_truth false c x cs = refl

-- arms are never without a last one
abbrev pub Ended : Scalars → Type 0
Ended none = ⊥
Ended (more s ss) = Unit {0}

pub case_more : (b : Bool) (c : Cell) (rest : Scalars) (s : Sight) → Ended rest →
    case_cell (Val (Truth b) ∷ c ∷ cells_of rest s) ≡ cond b c (case_cell (cells_of rest s))
case_more b c none s e = absurd e
case_more b c (more x xs) s e = case_truth b c (cell_of x s) (cells_of xs s)

arm_cell : (tests : Scalars) (b : Bool) (to : ℕ) (rest : Scalars) (s : Sight) → Ended rest →
    or_cell (Truth false) (cells_of tests s) ≡ Val (Truth b) →
    case_cell (cells_of (arm tests to rest) s) ≡ cond b (at to) (case_cell (cells_of rest s))
arm_cell none b to rest s e h = ap (λ (x : Bool). cond x (at to) (case_cell (cells_of rest s)))
    (truth_of h)
  where
    bool_of : Cell → Bool
    bool_of c = elim c as (λ x. Bool) [
      | Val v ↦ elim v as (λ x. Bool) [
        | Null ↦ false
        | Int n ↦ false
        | Rattle.sql_values.specs.declared.value.Value.TheVariants.Bool p ↦ p
        | Str t ↦ false
      ]
      | Cond a ↦ false
    ]

    truth_of : Val (Truth false) ≡ Val (Truth b) → false ≡ b
    truth_of g = ap bool_of g
arm_cell (more t ts) b to rest s e h =
    ap (λ (c : Cell). case_cell (c ∷ at to ∷ cells_of rest s)) h ∙ case_more b (at to) rest s e

arm_ended : (tests : Scalars) (to : ℕ) (rest : Scalars) → Ended rest → Ended (arm tests to rest)
arm_ended none to rest e = e
arm_ended (more t ts) to rest e = tt

named_ended : (to : HandlerType → ℕ → ℕ) (hs : List Coded) (i t : ℕ) (rest : Scalars) → Ended rest →
    Ended (named_arms to hs i t rest)
named_ended to [] i t rest e = e
named_ended to (h ∷ hs) i t rest e = arm_ended (named_tests h.takes t) (to h.kind i)
    (named_arms to hs (suc i) t rest) (named_ended to hs (suc i) t rest e)

general_ended : (to : HandlerType → ℕ → ℕ) (hs : List Coded) (i t : ℕ) (rest : Scalars) →
    Ended rest → Ended (general_arms to hs i t rest)
general_ended to [] i t rest e = e
general_ended to (h ∷ hs) i t rest e = arm_ended (general_tests h.takes t) (to h.kind i)
    (general_arms to hs (suc i) t rest) (general_ended to hs (suc i) t rest e)

-- ---- the arms of the handlers of a compound statement

-- the arms lead to a code of which this holds
abbrev pub LeadsTo : (ℕ → Type 0) → Scalars → Sight → Type 0
LeadsTo Q arms s = (k : ℕ) × (case_cell (cells_of arms s) ≡ at k) × Q k

-- each handler's own code is right for it
abbrev pub AllSend : Inputs → ℕ → Seen → (HandlerType → ℕ → ℕ) → (Handling → Doing) →
    (Doing → ℕ → Type 0) → Handlers → ℕ → Type 0
AllSend w level outer to act Q NoHandler i = Unit {0}
AllSend w level outer to act Q (MoreHandlers kind takes action others) i =
    Q (act (record {
      kind = kind;
      takes = takes;
      action = λ area. does action w
          (in_action (scopes_of w outer) area level);
    })) (to kind i)
    × AllSend w level outer to act Q others (suc i)

best_cond : {A : Type 0} (b : Bool) (h : Handling) (m : Option Handling) (act : Handling → A)
    (rest : A) →
    cond b (act h) (with_best m act rest) ≡ with_best (cond b (Some h) m) act rest
best_cond true h m act rest = refl
best_cond false h m act rest = refl

best_or : {A : Type 0} (a b : Option Handling) (act : Handling → A) (rest : A) → with_best a act
    (with_best b act rest) ≡ with_best (or_else a b) act rest
best_or None b act rest = refl
best_or (Some h) b act rest = refl

one_arm : (Q : Doing → ℕ → Type 0) (tests : Scalars) (b : Bool) (to : ℕ) (rest : Scalars)
    (s : Sight) (d dr : Doing) → Ended rest →
    or_cell (Truth false) (cells_of tests s) ≡ Val (Truth b) → Q d to → LeadsTo (Q dr) rest s →
    LeadsTo (Q (cond b d dr)) (arm tests to rest) s
one_arm Q tests true to rest s d dr e h q r = (to, arm_cell tests true to rest s e h, q)
one_arm Q tests false to rest s d dr e h q r = (r.0, arm_cell tests false to rest s e h ∙ r.1, r.2)

named_leads : (w : Inputs) (level : ℕ) (outer : Seen) (to : HandlerType → ℕ → ℕ)
    (act : Handling → Doing) (Q : Doing → ℕ → Type 0) (hs : Handlers) (i t : ℕ) (rest : Scalars)
    (s : Sight) (a : Area) (dr : Doing) →
    cell_of (column 0 t) s ≡ Cond a → Ended rest → AllSend w level outer to act Q hs i →
    LeadsTo (Q dr) rest s →
    LeadsTo (Q (with_best (first_with (λ h. names_it (state_in a) h.takes)
    (handlings hs w level (scopes_of w outer))) act dr))
    (named_arms to (coded hs (columns_in w) (codes_of w outer)) i t rest) s
named_leads w level outer to act Q NoHandler i t rest s a dr h e all r = r
named_leads w level outer to act Q (MoreHandlers kind takes action others) i t rest s a dr h e all
    r =
    let b = names_it (state_in a) takes in
    let me : Handling = record {
      kind = kind;
      takes = takes;
      action = λ area. does action w
          (in_action (scopes_of w outer) area level);
    } in
    let cs = coded others (columns_in w) (codes_of w outer) in
    subst (λ (d : Doing). LeadsTo (Q d) (arm (named_tests takes t) (to kind i)
    (named_arms to cs (suc i) t rest)) s)
    (best_cond b me (first_with (λ h. names_it (state_in a) h.takes)
    (handlings others w level (scopes_of w outer))) act dr)
    (one_arm Q (named_tests takes t) b (to kind i) (named_arms to cs (suc i) t rest) s (act me) _
    (named_ended to cs (suc i) t rest e)
    (named_cell takes t s a h) all.0 (named_leads w level outer to act Q others (suc i) t rest s a
    dr h e all.1 r))

general_leads : (w : Inputs) (level : ℕ) (outer : Seen) (to : HandlerType → ℕ → ℕ)
    (act : Handling → Doing) (Q : Doing → ℕ → Type 0) (hs : Handlers) (i t : ℕ) (rest : Scalars)
    (s : Sight) (a : Area) (dr : Doing) →
    cell_of (column 0 t) s ≡ Cond a → Ended rest → AllSend w level outer to act Q hs i →
    LeadsTo (Q dr) rest s →
    LeadsTo (Q (with_best (first_with (λ h. covers_it (state_in a) h.takes)
    (handlings hs w level (scopes_of w outer))) act dr))
    (general_arms to (coded hs (columns_in w) (codes_of w outer)) i t rest) s
general_leads w level outer to act Q NoHandler i t rest s a dr h e all r = r
general_leads w level outer to act Q (MoreHandlers kind takes action others) i t rest s a dr h e all
    r =
    let b = covers_it (state_in a) takes in
    let me : Handling = record {
      kind = kind;
      takes = takes;
      action = λ area. does action w
          (in_action (scopes_of w outer) area level);
    } in
    let cs = coded others (columns_in w) (codes_of w outer) in
    subst (λ (d : Doing). LeadsTo (Q d) (arm (general_tests takes t) (to kind i)
    (general_arms to cs (suc i) t rest)) s)
    (best_cond b me (first_with (λ h. covers_it (state_in a) h.takes)
    (handlings others w level (scopes_of w outer))) act dr)
    (one_arm Q (general_tests takes t) b (to kind i) (general_arms to cs (suc i) t rest) s (act me)
    _ (general_ended to cs (suc i) t rest e)
    (general_cell takes t s a h) all.0 (general_leads w level outer to act Q others (suc i) t rest s
    a dr h e all.1 r))

pub scope_leads : (w : Inputs) (level : ℕ) (outer : Seen) (to : HandlerType → ℕ → ℕ)
    (act : Handling → Doing) (Q : Doing → ℕ → Type 0) (hs : Handlers) (i t : ℕ) (rest : Scalars)
    (s : Sight) (a : Area) (dr : Doing) →
    cell_of (column 0 t) s ≡ Cond a → Ended rest → AllSend w level outer to act Q hs i →
    LeadsTo (Q dr) rest s →
    LeadsTo (Q (with_best (best_here (state_in a) (handlings hs w level (scopes_of w outer))) act
    dr))
    (scope_arms to (coded hs (columns_in w) (codes_of w outer)) i t rest) s
scope_leads w level outer to act Q hs i t rest s a dr h e all r =
    let cs = coded hs (columns_in w) (codes_of w outer) in
    subst (λ (d : Doing). LeadsTo (Q d) (scope_arms to cs i t rest) s)
    (best_or (first_with (λ h. names_it (state_in a) h.takes)
    (handlings hs w level (scopes_of w outer)))
    (first_with (λ h. covers_it (state_in a) h.takes) (handlings hs w level (scopes_of w outer)))
    act dr)
    (named_leads w level outer to act Q hs i t (general_arms to cs i t rest) s a _ h
    (general_ended to cs i t rest e) all
    (general_leads w level outer to act Q hs i t rest s a dr h e all r))

pub scope_ended : (to : HandlerType → ℕ → ℕ) (hs : List Coded) (i t : ℕ) (rest : Scalars) →
    Ended rest → Ended (scope_arms to hs i t rest)
scope_ended to hs i t rest e = named_ended to hs i t (general_arms to hs i t rest)
    (general_ended to hs i t rest e)

-- ---- all handlers in sight

-- it ends at once, at the code of its outcome
abbrev pub Quiet : Outcome → Area → Type 0
Quiet Next a = Unit {0}
Quiet (Leaving l) a = ⊥
Quiet (Returning v) a = ⊥
Quiet (Exiting l b) a = b ≡ a
Quiet (Raising b) a = b ≡ a

-- the area goes on without an action: its outcome, and the code for that
pub record Direct (env : Env) (here : ℕ) (a : Area) (f : Frame) (e : End) (k : ℕ) : Type 0 where
  pub outcome : Outcome
  pub ends_so : e ≡ record { outcome = outcome; frame = f }
  pub quiet : Quiet outcome a
  pub place : k ≡ place_of env here outcome

-- or the action of a CONTINUE handler with a code of its own is to run
abbrev pub ActsIn : Inputs → Handlers → ℕ → ℕ → Seen → ℕ → ℕ → Area → Frame → End → Type 0
ActsIn w NoHandler level variables outer i k a f e = ⊥
ActsIn w (MoreHandlers Continue takes action others) level variables outer i k a f e =
    ((k ≡ i) × (e ≡ outside variables (does action w (in_action (scopes_of w outer) a level)) f))
    ⊎ ActsIn w others level variables outer (suc i) k a f e
ActsIn w (MoreHandlers Exit takes action others) level variables outer i k a f e = ActsIn w others
    level variables outer (suc i) k a f e
ActsIn w (MoreHandlers Undo takes action others) level variables outer i k a f e = ActsIn w others
    level variables outer (suc i) k a f e

-- the same, of the handlers in sight
abbrev pub Acts : Inputs → Seen → ℕ → ℕ → Area → Frame → End → Type 0
Acts w nowhere i k a f e = ⊥
Acts w (within hs level variables outer) i k a f e =
    ActsIn w hs level variables outer i k a f e ⊎ Acts w outer
    (i + length (coded hs (columns_in w) (codes_of w outer))) k a f e

-- where an area is sent, and what is done with it
abbrev pub Sends : Inputs → Env → ℕ → Seen → ℕ → Area → Frame → End → ℕ → Type 0
Sends w env here seen base a f e k = Direct env here a f e k ⊎ Acts w seen base k a f e

all_send : (w : Inputs) (env : Env) (here : ℕ) (level variables : ℕ) (outer : Seen) (a : Area)
    (f : Frame) (hs : Handlers) (i : ℕ) (P : End → ℕ → Type 0) →
    ((e : End) (k : ℕ) → Direct env here a f e k → P e k) →
    ((e : End) (k : ℕ) → ActsIn w hs level variables outer i k a f e → P e k) →
    AllSend w level outer (aimed (env.exits level)) (λ h. act_by h.kind h.action level variables a)
    (λ d k. P (d f) k) hs i
all_send w env here level variables outer a f NoHandler i P p q = tt
all_send w env here level variables outer a f (MoreHandlers Continue takes act others) i P p q = (
  q _ i (inl (refl, refl)),
  all_send w env here level variables outer a f others (suc i) P p
      (λ e k m. q e k (inr m)),
)
all_send w env here level variables outer a f (MoreHandlers Exit takes action others) i P p q = (
  p _ (env.exits level) (record {
    outcome = Exiting level a;
    ends_so = refl;
    quiet = refl;
    place = refl;
  }),
  all_send w env here level variables outer a f others (suc i) P p
      (λ e k m. q e k m),
)
all_send w env here level variables outer a f (MoreHandlers Undo takes action others) i P p q = (
  p _ (env.exits level) (record {
    outcome = Exiting level a;
    ends_so = refl;
    quiet = refl;
    place = refl;
  }),
  all_send w env here level variables outer a f others (suc i) P p
      (λ e k m. q e k m),
)

pub dispatch_ended : (w : Inputs) (seen : Seen) (env : Env) (i here t : ℕ) →
    Ended (dispatch (codes_of w seen) env i here t)
dispatch_ended w nowhere env i here t = tt
dispatch_ended w (within hs level variables outer) env i here t =
    let cs = coded hs (columns_in w) (codes_of w outer) in
    scope_ended (aimed (env.exits level)) cs i t
    (dispatch (codes_of w outer) env (i + length cs) here t)
    (dispatch_ended w outer env (i + length cs) here t)

unhandled_sends : (w : Inputs) (env : Env) (here base : ℕ) (a : Area) (f : Frame) (b : Bool) →
    is_exception (state_in a) ≡ b →
    (k : ℕ) × (cond b (at env.out) (at here) ≡ at k) × Sends w env here nowhere base a f
    (cond b (ends (Raising a)) (ends Next) f) k
unhandled_sends w env here base a f true h = (
  env.out,
  refl,
  inl (record { outcome = Raising a; ends_so = refl; quiet = refl; place = refl }),
)
unhandled_sends w env here base a f false h =
    (here, refl, inl (record { outcome = Next; ends_so = refl; quiet = tt; place = refl }))

pub dispatch_sends : (w : Inputs) (seen : Seen) (env : Env) (i here t : ℕ) (s : Sight) (a : Area)
    (f : Frame) → cell_of (column 0 t) s ≡ Cond a →
    LeadsTo (Sends w env here seen i a f (raising (scopes_of w seen) a f))
    (dispatch (codes_of w seen) env i here t) s
dispatch_sends w nowhere env i here t s a f h =
    let b = is_exception (state_in a) in
    let r = unhandled_sends w env here i a f b refl in (
      r.0,
      ap (λ (c : Cell). case_cell (c ∷ at env.out ∷ at here ∷ [])) (matches SqlException t s a h)
          ∙ (case_truth b (at env.out) (at here) [] ∙ r.1),
      r.2,
    )
dispatch_sends w (within hs level variables outer) env i here t s a f h =
    let cs = coded hs (columns_in w) (codes_of w outer) in
    let Q : Doing → ℕ → Type 0 = λ d k. Sends w env here (within hs level variables outer) i a f
    (d f) k in
    let rest = dispatch_sends w outer env (i + length cs) here t s a f h in
    scope_leads w level outer (aimed (env.exits level))
    (λ x. act_by x.kind x.action level variables a) Q hs i t
    (dispatch (codes_of w outer) env (i + length cs) here t) s a (raising (scopes_of w outer) a) h
    (dispatch_ended w outer env (i + length cs) here t)
    (all_send w env here level variables outer a f hs i
    (Sends w env here (within hs level variables outer) i a f) (λ e k d. inl d)
    (λ e k m. inr (inl m)))
    (rest.0, rest.1, widen rest.2)
  where
    widen : {e : End} {k : ℕ} → Sends w env here outer
        (i + length (coded hs (columns_in w) (codes_of w outer))) a f e k → Sends w env here
        (within hs level variables outer) i a f e k
    widen (inl d) = inl d
    widen (inr m) = inr (inr m)
