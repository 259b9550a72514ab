-- What a statement does among all statements and by the tables alone: the same outcome, the same
-- variables, and the world in which it began.
use Rattle.std.proofs.Common.{◌≡◌, ℕ, Bool, true, false, cond, List, [], ◌∷◌, ◌++◌, drop, Option}
use Rattle.std.proofs.Common.{Some, None, Ok, Err, refl, ap, sym, ◌∙◌, subst}
use Rattle.sql_values.specs.declared.value.Value.{Value}
use Rattle.sql_values.specs.Casts.{assigned}
use Rattle.sql_values.specs.Values.{Outcome as Judged}
use Rattle.sql_conditions.specs.Conditions.{Area}
use Rattle.rel_algebra.specs.Tree.{HandlerType, Continue, Exit, Undo}
use Rattle.rel_algebra.specs.Endings.{Ending, after, ending_of}
use Rattle.rel_algebra.specs.Meaning.{carried}
use Rattle.rel_algebra.specs.States.{is_exception, state_in}
use Rattle.rel_algebra.specs.World as worlds
use Rattle.rel_algebra.specs.World.{World, Ends, Eval, Raises, unit_of, with_tables}
use Rattle.rel_algebra.specs.Doing as doing
use Rattle.rel_algebra.specs.Handlers as handlers
use Rattle.rel_algebra.specs.Bodies.{Target}
use Rattle.rel_algebra.specs.BodyDoing.{Frame, Outcome, Next, Leaving, Returning, Exiting, Raising}
use Rattle.rel_algebra.specs.BodyDoing.{End, Doing, ends, in_turn, next_or, outside, storing}
use Rattle.rel_algebra.specs.BodyDoing.{take_values}
use Rattle.rel_algebra.specs.BodyHandlers.{Handling, Scope, Scopes, act_by, best_here, covers_it}
use Rattle.rel_algebra.specs.BodyHandlers.{names_it, first_with, or_else, raising, unhandled}
use Rattle.rel_algebra.specs.BodyHandlers.{with_best, with_end, with_value}
use Rattle.rel_algebra.proofs.BodyRaises.{Excepts, Fails, Told, ending_fails, fails_after}

-- the same outcome among all outcomes
abbrev pub outcome_of : Outcome → doing.Outcome
outcome_of Next = doing.Next
outcome_of (Leaving l) = doing.Leaving l
outcome_of (Returning v) = doing.Returning v
outcome_of (Exiting l area) = doing.Exiting l area
outcome_of (Raising area) = doing.Raising area

-- the same end, in this world
pub record Same (w : World) (e : doing.End) (p : End) : Type 0 where
  pub outcome : e.outcome ≡ outcome_of p.outcome
  pub frame : e.frame.variables ≡ p.frame
  pub world : e.world ≡ w
  pub told : Told p.outcome

-- from every frame
abbrev pub Does : World → doing.Doing → Doing → Type 0
Does w d p = (f : worlds.Frame) → Same w (d f w) (p f.variables)

pub ends_same : (w : World) (o : Outcome) → Told o → Does w (doing.ends (outcome_of o)) (ends o)
ends_same w o t f = record { outcome = refl; frame = refl; world = refl; told = t }

-- what follows an end, where it does the same for each outcome
pub goes_on : (w : World) (e : doing.End) (p : End) → Same w e p →
    (K : doing.Outcome → worlds.Frame → World → doing.End) (k : Outcome → Frame → End) →
    ((q : Outcome) → Told q → (g : worlds.Frame) →
    Same w (K (outcome_of q) g w) (k q g.variables)) →
    Same w (K e.outcome e.frame e.world) (k p.outcome p.frame)
goes_on w e p s K k h =
    subst (λ (v : World). Same w (K e.outcome e.frame v) (k p.outcome p.frame)) (sym s.world)
    (subst (λ (o : doing.Outcome). Same w (K o e.frame w) (k p.outcome p.frame)) (sym s.outcome)
    (subst (λ (vs : List Value). Same w (K (outcome_of p.outcome) e.frame w) (k p.outcome vs))
    s.frame (h p.outcome s.told e.frame)))

pub in_turn_same : (w : World) (d e : doing.Doing) (p q : Doing) → Does w d p → Does w e q →
    Does w (doing.in_turn d e) (in_turn p q)
in_turn_same w d e p q h k f =
    goes_on w (d f w) (p f.variables) (h f) (λ o g v. doing.next_or o e g v)
    (λ o g. next_or o q g) next
  where
    next : (o : Outcome) → Told o → (g : worlds.Frame) →
        Same w (doing.next_or (outcome_of o) e g w) (next_or o q g.variables)
    next Next t g = k g
    next (Leaving l) t g = ends_same w (Leaving l) tt g
    next (Returning v) t g = ends_same w (Returning v) tt g
    next (Exiting l area) t g = ends_same w (Exiting l area) tt g
    next (Raising area) t g = ends_same w (Raising area) t g

-- ---- handlers

-- the same handler
pub record SameHandling (w : World) (h : handlers.Handling) (k : Handling) : Type 0 where
  pub kind : h.kind ≡ k.kind
  pub takes : h.takes ≡ k.takes
  pub action : (area : Area) → Does w (h.action area) (k.action area)

-- one by one
abbrev pub SameHandlings : World → List handlers.Handling → List Handling → Type 0
SameHandlings w [] [] = Unit {0}
SameHandlings w (h ∷ hs) (k ∷ ks) = SameHandling w h k × SameHandlings w hs ks
SameHandlings w _ _ = ⊥

-- the same compound statement; cursors are not seen
pub record SameScope (w : World) (s : handlers.Scope) (t : Scope) : Type 0 where
  pub handlings : SameHandlings w s.handlings t.handlings
  pub level : s.level ≡ t.level
  pub variables : s.variables ≡ t.variables

-- one by one
abbrev pub SameScopes : World → handlers.Scopes → Scopes → Type 0
SameScopes w [] [] = Unit {0}
SameScopes w (s ∷ ss) (t ∷ ts) = SameScope w s t × SameScopes w ss ts
SameScopes w _ _ = ⊥

-- the same handler, where there is one
abbrev pub SameFound : World → Option handlers.Handling → Option Handling → Type 0
SameFound w None None = Unit {0}
SameFound w (Some h) (Some k) = SameHandling w h k
SameFound w _ _ = ⊥

else_same : (w : World) (x x' : Option handlers.Handling) (y y' : Option Handling) →
    SameFound w x y → SameFound w x' y' → SameFound w (handlers.or_else x x') (or_else y y')
else_same w None x' None y' h k = k
else_same w (Some a) x' (Some b) y' h k = h
else_same w None x' (Some b) y' h k = absurd h
else_same w (Some a) x' None y' h k = absurd h

found_if : (w : World) (b : Bool) (x x' : Option handlers.Handling) (y y' : Option Handling) →
    SameFound w x y → SameFound w x' y' → SameFound w (cond b x x') (cond b y y')
found_if w true x x' y y' h k = h
found_if w false x x' y y' h k = k

-- the first that passes tests that tell the same
first_same : (w : World) (p : handlers.Handling → Bool) (q : Handling → Bool) →
    ((h : handlers.Handling) (k : Handling) → SameHandling w h k → p h ≡ q k) →
    (hs : List handlers.Handling) (ks : List Handling) → SameHandlings w hs ks →
    SameFound w (handlers.first_with p hs) (first_with q ks)
first_same w p q e [] [] s = tt
first_same w p q e (h ∷ hs) (k ∷ ks) s =
    subst (λ (b : Bool). SameFound w (handlers.first_with p (h ∷ hs))
    (cond b (Some k) (first_with q ks))) (e h k s.0)
    (found_if w (p h) (Some h) (handlers.first_with p hs) (Some k) (first_with q ks) s.0
    (first_same w p q e hs ks s.1))
first_same w p q e [] (k ∷ ks) s = absurd s
first_same w p q e (h ∷ hs) [] s = absurd s

pub best_same : (w : World) (state : List ℕ) (hs : List handlers.Handling) (ks : List Handling) →
    SameHandlings w hs ks → SameFound w (handlers.best_here state hs) (best_here state ks)
best_same w state hs ks s =
    else_same w (handlers.first_with (handlers.names_it state) hs) _
    (first_with (λ h. names_it state h.takes) ks) _
    (first_same w (handlers.names_it state) (λ h. names_it state h.takes)
    (λ h k e. ap (names_it state) e.takes) hs ks s)
    (first_same w (handlers.covers_it state) (λ h. covers_it state h.takes)
    (λ h k e. ap (covers_it state) e.takes) hs ks s)

-- an action leaves the diagnostics of success, which no statement in form reads
pub acting_same : (w : World) (h : handlers.Handling) (p : Area → Doing) (area : Area) →
    Does w (h.action area) (p area) → Does w (handlers.acting h area) (p area)
acting_same w h p area s f = let d = s f in
    record { outcome = d.outcome; frame = d.frame; world = d.world; told = d.told }

act_same : (w : World) (kind : HandlerType) (h : handlers.Handling) (s : handlers.Scope)
    (p : Area → Doing) (level n : ℕ) (area : Area) →
    ((a : Area) → Does w (h.action a) (p a)) → s.level ≡ level → s.variables ≡ n →
    Does w (handlers.act_by kind (record { handling = h; scope = s }) area)
    (act_by kind p level n area)
act_same w Continue h s p level n area g l e f =
    subst (λ (m : ℕ). Same w (doing.outside s.variables s.cursors (handlers.acting h area) f w)
    (outside m (p area) f.variables)) e
    (let d = g area (doing.first_of s.variables s.cursors f) in record {
      outcome = d.outcome;
      frame = ap (λ (vs : List Value). vs ++ drop s.variables f.variables) d.frame;
      world = d.world;
      told = d.told;
    })
act_same w Exit h s p level n area g l e f =
    subst (λ (m : ℕ). Same w (doing.ends (doing.Exiting s.level area) f w)
    (ends (Exiting m area) f.variables)) l (ends_same w (Exiting s.level area) tt f)
act_same w Undo h s p level n area g l e f =
    subst (λ (m : ℕ). Same w (doing.ends (doing.Exiting s.level area) f w)
    (ends (Exiting m area) f.variables)) l (ends_same w (Exiting s.level area) tt f)

-- the handler of one compound statement, where it has one, and else those outside it
one_same : (w : World) (x : Option handlers.Handling) (y : Option Handling) → SameFound w x y →
    (s : handlers.Scope) (t : Scope) → SameScope w s t →
    (outer : Option handlers.Chosen) (area : Area) (rest : doing.Doing) (p : Doing) →
    Does w (handlers.act_or outer area rest) p →
    Does w (handlers.act_or (handlers.or_else (handlers.of_scope s x) outer) area rest)
    (with_best y (λ h. act_by h.kind h.action t.level t.variables area) p)
one_same w None None e s t c outer area rest p h = h
one_same w (Some x) (Some y) e s t c outer area rest p h =
    subst (λ (kind : HandlerType). Does w
    (handlers.act_by x.kind (record { handling = x; scope = s }) area)
    (act_by kind y.action t.level t.variables area)) e.kind
    (act_same w x.kind x s y.action t.level t.variables area e.action c.level c.variables)
one_same w None (Some y) e s t c outer area rest p h = absurd e
one_same w (Some x) None e s t c outer area rest p h = absurd e

-- ---- raising

-- what is done where nothing takes it, the same by one choice among all handlers
chosen_same : (w : World) (ss : handlers.Scopes) (ts : Scopes) → SameScopes w ss ts →
    (area : Area) (rest : doing.Doing) → Does w rest (unhandled area) →
    Does w (handlers.act_or (handlers.best (state_in area) ss) area rest) (raising ts area)
chosen_same w [] [] c area rest h = h
chosen_same w (s ∷ ss) (t ∷ ts) c area rest h =
    one_same w (handlers.best_here (state_in area) s.handlings)
    (best_here (state_in area) t.handlings)
    (best_same w (state_in area) s.handlings t.handlings c.0.handlings) s t c.0
    (handlers.best (state_in area) ss) area rest (raising ts area)
    (chosen_same w ss ts c.1 area rest h)
chosen_same w [] (t ∷ ts) c area rest h = absurd c
chosen_same w (s ∷ ss) [] c area rest h = absurd c

taking_same : (w : World) (ss : handlers.Scopes) (ts : Scopes) → SameScopes w ss ts →
    (area : Area) (rest : doing.Doing) → Does w rest (unhandled area) →
    Does w (handlers.taking ss area rest) (raising ts area)
taking_same w ss ts c area rest h f =
    chosen_same w ss ts c area rest h (doing.with_diagnostics area 0 f)

-- a condition that an evaluation raises
pub failing_same : (w : World) (ss : handlers.Scopes) (ts : Scopes) → SameScopes w ss ts →
    (area : Area) → Excepts area → Does w (handlers.failing ss area) (raising ts area)
failing_same w ss ts c area e = taking_same w ss ts c area (doing.ends (doing.Raising area))
    (λ f. subst (λ (b : Bool). Same w (doing.ends (doing.Raising area) f w)
    (cond b (ends (Raising area)) (ends Next) f.variables)) (sym e)
    (ends_same w (Raising area) e f))

-- any condition
pub raising_same : (w : World) (ss : handlers.Scopes) (ts : Scopes) → SameScopes w ss ts →
    (area : Area) → Does w (handlers.raising ss area) (raising ts area)
raising_same w ss ts c area = taking_same w ss ts c area (handlers.unhandled area)
    (either (is_exception (state_in area)) refl)
  where
    either : (b : Bool) → is_exception (state_in area) ≡ b →
        Does w (cond b (doing.ends (doing.Raising area)) (doing.ends doing.Next))
        (cond b (ends (Raising area)) (ends Next))
    either true e = ends_same w (Raising area) e
    either false e = ends_same w Next tt

-- ---- values

-- this evaluation ends so, in this world
abbrev pub Gives : {A : Type 0} → World → Eval A → Ending A → Type 0
Gives w m e = m w ≡ carried e w

pub then_same : {A B : Type 0} (w : World) (m : Eval A) (e : Ending A) (go : A → Eval B)
    (next : A → Ending B) → Gives w m e → ((a : A) → Gives w (go a) (next a)) →
    Gives w (λ v. worlds.after (m v) go) (after e next)
then_same w m (Ok a) go next h k = ap (λ (d : Ends _). worlds.after d go) h ∙ k a
then_same w m (Err area) go next h k = ap (λ (d : Ends _). worlds.after d go) h

pub outcome_same : (w : World) (o : Judged) → Gives w (worlds.outcome o) (ending_of o)
outcome_same w (Ok v) = refl
outcome_same w (Err fault) = refl

pub unit_same : {A : Type 0} (w : World) (m : Eval A) (e : Ending A) → Gives w m e →
    Gives w (worlds.unit m) e
unit_same w m e h = ap (unit_of w) h ∙ carried_unit e
  where
    back : (b : Bool) → cond b (with_tables w w.tables) w ≡ w
    back true = refl
    back false = refl

    carried_unit : {A : Type 0} (e : Ending A) → unit_of w (carried e w) ≡ carried e w
    carried_unit (Ok a) = refl
    carried_unit (Err area) = ap (Raises area) (back (is_exception (state_in area)))

pub take_same : (w : World) (ts : List Target) (vs : List Value) →
    Gives w (doing.take_values ts vs) (take_values ts vs)
take_same w [] vs = refl
take_same w (t ∷ ts) [] = refl
take_same w (t ∷ ts) (v ∷ vs) =
    then_same w (worlds.outcome (assigned t.data_type v)) (ending_of (assigned t.data_type v)) _ _
    (outcome_same w (assigned t.data_type v))
    (λ x. then_same w (doing.take_values ts vs) (take_values ts vs) _ _ (take_same w ts vs)
    (λ xs. refl))

pub take_fails : (ts : List Target) (vs : List Value) → Fails (take_values ts vs)
take_fails [] vs = tt
take_fails (t ∷ ts) [] = tt
take_fails (t ∷ ts) (v ∷ vs) =
    fails_after (ending_of (assigned t.data_type v)) _ (ending_fails (assigned t.data_type v))
    (λ x. fails_after (take_values ts vs) _ (take_fails ts vs) (λ xs. tt))

-- goes on with what an evaluation gives, or raises
pub end_same : {A : Type 0} (w : World) (ss : handlers.Scopes) (ts : Scopes) → SameScopes w ss ts →
    (e : Ending A) → Fails e → (go : A → doing.Doing) (next : A → Doing) →
    ((a : A) → Does w (go a) (next a)) → (f : worlds.Frame) →
    Same w (handlers.with_end ss (carried e w) f go) (with_end ts e f.variables next)
end_same w ss ts c (Ok a) h go next k f = k a f
end_same w ss ts c (Err area) h go next k f = failing_same w ss ts c area h f

pub called_same : {A : Type 0} (w : World) (ss : handlers.Scopes) (ts : Scopes) →
    SameScopes w ss ts → (m : worlds.Frame → Eval A) (e : Frame → Ending A) →
    ((f : worlds.Frame) → Gives w (m f) (e f.variables)) → ((vs : Frame) → Fails (e vs)) →
    (go : A → doing.Doing) (next : A → Doing) → ((a : A) → Does w (go a) (next a)) →
    Does w (handlers.with_called ss m go) (with_value ts e next)
called_same w ss ts c m e h x go next k f =
    subst (λ (d : Ends _). Same w (handlers.with_end ss d f go)
    (with_end ts (e f.variables) f.variables next)) (sym (h f))
    (end_same w ss ts c (e f.variables) (x f.variables) go next k f)

pub value_same : {A : Type 0} (w : World) (ss : handlers.Scopes) (ts : Scopes) →
    SameScopes w ss ts → (m : worlds.Frame → Eval A) (e : Frame → Ending A) →
    ((f : worlds.Frame) → Gives w (m f) (e f.variables)) → ((vs : Frame) → Fails (e vs)) →
    (go : A → doing.Doing) (next : A → Doing) → ((a : A) → Does w (go a) (next a)) →
    Does w (handlers.with_value ss m go) (with_value ts e next)
value_same w ss ts c m e h = called_same w ss ts c (λ f. worlds.unit (m f)) e
    (λ f. unit_same w (m f) (e f.variables) (h f))

pub storing_same : (w : World) (ts : List Target) (vs : List Value) →
    Does w (doing.storing ts vs) (storing ts vs)
storing_same w ts vs f = record { outcome = refl; frame = refl; world = refl; told = tt }
