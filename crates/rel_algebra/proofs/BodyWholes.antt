-- Compound statements do the same among all statements: their handlers, what follows their
-- statements, and their declarations.
use Rattle.std.proofs.Common.{◌≡◌, ℕ, nat_eq, Bool, true, false, cond, List, [], ◌∷◌, ◌++◌, length}
use Rattle.std.proofs.Common.{take, Option, Some, None, Ok, Err, refl, ap, sym, subst}
use Rattle.sql_values.specs.declared.value.Value.{Value}
use Rattle.sql_conditions.specs.Conditions.{Area}
use Rattle.rel_algebra.specs.Tree.{HandlerType, Continue, Exit, Undo}
use Rattle.rel_algebra.specs.Endings.{Ending, after}
use Rattle.rel_algebra.specs.Meaning.{carried}
use Rattle.rel_algebra.specs.States.{state_in}
use Rattle.rel_algebra.specs.World as worlds
use Rattle.rel_algebra.specs.World.{World, Ends, Eval}
use Rattle.rel_algebra.specs.Doing as doing
use Rattle.rel_algebra.specs.Handlers as handlers
use Rattle.rel_algebra.specs.Compounds as whole
use Rattle.rel_algebra.specs.BodyDoing.{Frame, Outcome, Next, Leaving, Returning, Exiting, Raising}
use Rattle.rel_algebra.specs.BodyDoing.{End, Doing, ends, left_by}
use Rattle.rel_algebra.specs.BodyHandlers.{Handling, Scopes, best_here, raising, with_best}
use Rattle.rel_algebra.specs.BodyCompounds.{compound, declared_or, exited, exited_or, left, left_or}
use Rattle.rel_algebra.specs.BodyCompounds.{listed, scope_in, scopes_in, sealed, sealed_or}
use Rattle.rel_algebra.proofs.BodyRaises.{Excepts, Fails, Told}
use Rattle.rel_algebra.proofs.BodySame.{Does, Same, SameFound, SameHandlings, SameScopes}
use Rattle.rel_algebra.proofs.BodySame.{acting_same}
use Rattle.rel_algebra.proofs.BodySame.{best_same, ends_same, failing_same, goes_on, outcome_of}

pub inside_same : (w : World) (atomic : Bool) (ss : handlers.Scopes) (ts : Scopes) →
    SameScopes w ss ts → SameScopes w (whole.scopes_in atomic ss) (scopes_in atomic ts)
inside_same w true ss ts c = tt
inside_same w false ss ts c = c

-- the action of UNDO begins with the tables of the start, which are those of the world
exit_same : (w : World) (x : Option handlers.Handling) (y : Option Handling) → SameFound w x y →
    (level : ℕ) (area : Area) →
    Does w (whole.exit_or x level area w.tables)
    (with_best y (λ h. h.action area) (ends (Exiting level area)))
exit_same w None None e level area = ends_same w (Exiting level area) tt
exit_same w (Some x) (Some y) e level area =
    by x.kind (acting_same w x y.action area (e.action area))
  where
    by : (kind : HandlerType) → Does w (handlers.acting x area) (y.action area) →
        Does w (whole.exit_by kind w.tables (handlers.acting x area)) (y.action area)
    by Continue h = h
    by Exit h = h
    by Undo h = h
exit_same w None (Some y) e level area = absurd e
exit_same w (Some x) None e level area = absurd e

exited_same : (w : World) (level : ℕ) (hs : List handlers.Handling) (ks : List Handling) →
    SameHandlings w hs ks → (e : doing.End) (p : End) → Same w e p →
    Same w (whole.exited level hs w.tables e) (exited level ks p)
exited_same w level hs ks c e p s =
    goes_on w e p s (λ o. whole.exited_or level hs w.tables o) (λ o. exited_or level ks o) next
  where
    here : (b : Bool) (l : ℕ) (area : Area) →
        Does w (cond b (whole.exit_or (handlers.best_here (state_in area) hs) level area w.tables)
        (doing.ends (doing.Exiting l area)))
        (cond b (with_best (best_here (state_in area) ks) (λ h. h.action area)
        (ends (Exiting level area))) (ends (Exiting l area)))
    here true l area = exit_same w (handlers.best_here (state_in area) hs)
        (best_here (state_in area) ks) (best_same w (state_in area) hs ks c) level area
    here false l area = ends_same w (Exiting l area) tt

    next : (o : Outcome) → Told o →
        Does w (whole.exited_or level hs w.tables (outcome_of o)) (exited_or level ks o)
    next Next t = ends_same w Next tt
    next (Leaving l) t = ends_same w (Leaving l) tt
    next (Returning v) t = ends_same w (Returning v) tt
    next (Exiting l area) t = here (nat_eq l level) l area
    next (Raising area) t = ends_same w (Raising area) t

left_same : (w : World) (level : ℕ) (e : doing.End) (p : End) → Same w e p →
    Same w (whole.left level e) (left level p)
left_same w level e p s =
    goes_on w e p s (λ o g v. record { outcome = whole.left_or level o; frame = g; world = v })
    (λ o g. record { outcome = left_or level o; frame = g }) next
  where
    here : (b : Bool) (l : ℕ) (g : worlds.Frame) →
        Same w (record { outcome = cond b doing.Next (doing.Leaving l); frame = g; world = w })
        (record { outcome = cond b Next (Leaving l); frame = g.variables })
    here true l g = ends_same w Next tt g
    here false l g = ends_same w (Leaving l) tt g

    next : (o : Outcome) → Told o → (g : worlds.Frame) →
        Same w (record { outcome = whole.left_or level (outcome_of o); frame = g; world = w })
        (record { outcome = left_or level o; frame = g.variables })
    next Next t g = ends_same w Next tt g
    next (Leaving l) t g = here (nat_eq l level) l g
    next (Returning v) t g = ends_same w (Returning v) tt g
    next (Exiting l area) t g = ends_same w (Exiting l area) tt g
    next (Raising area) t g = ends_same w (Raising area) t g

whole_raised : (w : World) (atomic : Bool) (ss : handlers.Scopes) (ts : Scopes) →
    SameScopes w ss ts → (area : Area) → Excepts area →
    Does w (whole.raising_whole atomic ss w.tables area) (raising ts area)
whole_raised w true ss ts c area e = failing_same w ss ts c area e
whole_raised w false ss ts c area e = failing_same w ss ts c area e

sealed_same : (w : World) (atomic : Bool) (ss : handlers.Scopes) (ts : Scopes) →
    SameScopes w ss ts → (e : doing.End) (p : End) → Same w e p →
    Same w (whole.sealed atomic ss w.tables e) (sealed atomic ts p)
sealed_same w true ss ts c e p s =
    goes_on w e p s (λ o. whole.sealed_or true ss w.tables o) (λ o. sealed_or true ts o) next
  where
    next : (o : Outcome) → Told o →
        Does w (whole.sealed_or true ss w.tables (outcome_of o)) (sealed_or true ts o)
    next Next t = ends_same w Next tt
    next (Leaving l) t = ends_same w (Leaving l) tt
    next (Returning v) t = ends_same w (Returning v) tt
    next (Exiting l area) t = ends_same w (Exiting l area) tt
    next (Raising area) t = whole_raised w true ss ts c area t
sealed_same w false ss ts c e p s = s

left_by_same : (w : World) (f : worlds.Frame) (e : doing.End) (p : End) → Same w e p →
    Same w (doing.left_by f e) (left_by f.variables p)
left_by_same w f e p s = record {
  outcome = s.outcome;
  frame = ap (λ (vs : List Value). take (length f.variables) vs) s.frame;
  world = s.world;
  told = s.told;
}

-- the statements of a compound statement that declares no cursor
listed_same : (w : World) (level : ℕ) (ss : handlers.Scopes) (ts : Scopes) → SameScopes w ss ts →
    (hs : List handlers.Handling) (ks : List Handling) → SameHandlings w hs ks →
    (body : handlers.Scopes → doing.Doing) (go : Scopes → Doing) →
    ((ss : handlers.Scopes) (ts : Scopes) → SameScopes w ss ts → Does w (body ss) (go ts)) →
    Does w (whole.with_closed 0 (whole.listed level w.tables ss hs body)) (listed level ts ks go)
listed_same w level ss ts c hs ks k body go h f =
    let g = doing.with_cursors (f.cursors ++ []) f in
    let inner = whole.scope_in level hs g ∷ ss in
    let within = scope_in level ks g.variables ∷ ts in
    let s = h inner within (record { handlings = k; level = refl; variables = refl }, c) g in
    left_same w level _ _ (exited_same w level hs ks k (body inner g w) (go within g.variables) s)

-- a frame with other variables
abbrev pub with_frame : worlds.Frame → Ending Frame → Ending worlds.Frame
with_frame f e = after e (λ vs. Ok (doing.with_variables vs f))

declared_same : (w : World) (atomic : Bool) (ss : handlers.Scopes) (ts : Scopes) →
    SameScopes w ss ts → (f : worlds.Frame) (e : Ending Frame) → Fails e →
    (go : doing.Doing) (next : Doing) → Does w go next →
    Same w (whole.declared_or atomic ss w.tables (carried (with_frame f e) w) go f)
    (declared_or atomic ts e next f.variables)
declared_same w atomic ss ts c f (Ok vs) t go next h =
    let g = doing.with_variables vs f in
    sealed_same w atomic ss ts c _ _ (left_by_same w f (go g w) (next vs) (h g))
declared_same w atomic ss ts c f (Err area) t go next h = whole_raised w atomic ss ts c area t f

-- By whether it is ATOMIC, its level, the handlers in sight, and by what its declarations, its
-- handlers and its statements do.
pub compound_same : (w : World) (atomic : Bool) (level : ℕ) (ss : handlers.Scopes) (ts : Scopes) →
    SameScopes w ss ts → (declare : worlds.Frame → Eval worlds.Frame)
    (declares : Frame → Ending Frame) →
    ((f : worlds.Frame) → declare f w ≡ carried (with_frame f (declares f.variables)) w) →
    ((vs : Frame) → Fails (declares vs)) →
    (handlings : handlers.Scopes → List handlers.Handling) (own : Scopes → List Handling) →
    ((ss : handlers.Scopes) (ts : Scopes) → SameScopes w ss ts →
    SameHandlings w (handlings ss) (own ts)) →
    (body : handlers.Scopes → doing.Doing) (go : Scopes → Doing) →
    ((ss : handlers.Scopes) (ts : Scopes) → SameScopes w ss ts → Does w (body ss) (go ts)) →
    Does w (whole.compound atomic level ss declare 0 handlings body)
    (compound atomic level ts declares own go)
compound_same w atomic level ss ts c declare declares d x handlings own k body go h f =
    let outer = whole.scopes_in atomic ss in let inner = scopes_in atomic ts in
    let e = inside_same w atomic ss ts c in
    let list = whole.with_closed 0 (whole.listed level w.tables outer (handlings outer) body) in
    let next = listed level inner (own inner) go in
    subst (λ (y : Ends worlds.Frame). Same w (whole.declared_or atomic ss w.tables y list f)
    (declared_or atomic ts (declares f.variables) next f.variables)) (sym (d f))
    (declared_same w atomic ss ts c f (declares f.variables) (x f.variables) list next
    (listed_same w level outer inner e (handlings outer) (own inner) (k outer inner e) body go h))
