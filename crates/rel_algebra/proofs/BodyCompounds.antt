-- Compound statements.
use Rattle.std.proofs.Common.{◌≡◌, ℕ, suc, ◌+◌, ◌<◌, ◌≤◌, Bool, true, false, cond, nat_eq, ◌||◌}
use Rattle.std.proofs.Common.{List, [], ◌∷◌, ◌++◌, length, take, Option, Some, None, Ok, Err}
use Rattle.std.proofs.Common.{slice_set, refl, sym, ap, ◌∙◌, subst, arith, inl, inr, length-append}
use Rattle.std.proofs.Common.{append_assoc}
use Rattle.std.proofs.lemmas.List.{length-set}
use Rattle.sql_conditions.specs.Conditions.{Area}
use Rattle.row_types.specs.declared.cell.Cell.{Cell}
use Rattle.rel_algebra.specs.Endings.{Ending}
use Rattle.rel_algebra.specs.Joins.{places}
use Rattle.rel_algebra.specs.Scopes.{Inputs, columns_in}
use Rattle.rel_algebra.specs.Plan.{no_node, word, case_word, sight, cell_at, cells_at, shown}
use Rattle.rel_algebra.proofs.Growing.{shown_long}
use Rattle.rel_algebra.specs.Bodies.{Stmts, Variables, Handlers}
use Rattle.rel_algebra.specs.BodyDoing.{Frame, Outcome, Next, Leaving, Returning, Exiting, Raising}
use Rattle.rel_algebra.specs.BodyDoing.{End, Doing, left_by}
use Rattle.rel_algebra.specs.BodyHandlers.{raising}
use Rattle.rel_algebra.specs.BodyCompounds.{exited, left, left_or, sealed, sealed_or, declared_or}
use Rattle.rel_algebra.specs.BodyCompounds.{listed}
use Rattle.rel_algebra.specs.BodyMeaning.{inside_scopes, does_all, declare, handlings}
use Rattle.rel_algebra.specs.BodySteps.{stepped, run, store, acts, jump}
use Rattle.rel_algebra.specs.BodyDispatch.{Env, Emit, count, dispatch, joins, handled, Coded}
use Rattle.rel_algebra.specs.BodyChain.{emit_all, emit_declares, coded, with_variables}
use Rattle.rel_algebra.specs.BodyChain.{variable_count, has_default, set_at, out_in, inside}
use Rattle.rel_algebra.specs.BodyChain.{ending_env, ending, ending_width, whole_raise, exits_in}
use Rattle.rel_algebra.proofs.BodyHeld.{ValueRight, VariablesHold}
use Rattle.rel_algebra.proofs.BodyBase.{at, both, lower_differs, set_same, set_other, take_cells}
use Rattle.rel_algebra.proofs.BodyBase.{take_shown, Rising, rising_below, rising_append}
use Rattle.rel_algebra.proofs.BodyBase.{apart_append, apart_places, Keeps, kept_rest, cells_set_low}
use Rattle.rel_algebra.proofs.BodyBase.{cells_at_long, front_at}
use Rattle.rel_algebra.proofs.BodyRows.{run_append, acts_off, acts_on, jump_off, jump_on}
use Rattle.rel_algebra.proofs.BodyLands.{place_of, Carries, Lands, Under, Ready, Holds, Starts, Sim}
use Rattle.rel_algebra.proofs.BodyLands.{lands_same, Seen, within, scopes_of, codes_of, context}
use Rattle.rel_algebra.proofs.BodyLands.{AllGood, Good}
use Rattle.rel_algebra.proofs.BodyArms.{dispatch_sends}
use Rattle.rel_algebra.proofs.BodyHandled.{in_tags, below_tags, inside_tags, joins_row, joins_off}
use Rattle.rel_algebra.proofs.BodyHandled.{handler_count, handled_passes, handled_lands, Sent}
use Rattle.rel_algebra.proofs.BodyHandled.{Rests, carries_joined, sends_bound}
use Rattle.rel_algebra.proofs.BodyDeclares.{DeclaredEnd, declares_off, declares_run, no_default}
use Rattle.rel_algebra.proofs.BodyEndings.{Numbers, EndedAt, ending_off, ending_lands, ending_under}

-- the steps, where the handlers outside it that its statements see are these
abbrev compound_steps : Bool → Bool → Inputs → Seen → Seen → Variables → Handlers → Stmts → Emit
compound_steps atomic whole w seen outer vs hs body env here next n =
    let S = columns_in w in let codes = codes_of w seen in let own =
    coded hs S (codes_of w outer) in
    let sealing = next + count codes in let exit = suc sealing in let runs = suc exit in let first =
    suc runs in let free = first + length own in
    let k = variable_count vs in let m = n + k in let W = with_variables env n k in
    let inner = codes_of w (within hs env.level (length W.columns) outer) in
    jump here runs n
    ∷ (emit_declares vs S codes env runs here next free n
    ++ (emit_all body S inner (inside atomic own W here exit sealing) runs free m
    ++ (ending own (ending_env atomic W here sealing) exit first free m
    ++ joins runs (suc (length own)) here (ending_width own m) n
    ∷ whole_raise whole atomic codes env sealing here next free n)))

-- what it does, at a level
abbrev compound_does : Bool → Inputs → Seen → Seen → Variables → Handlers → Stmts → ℕ →
    Option Area → Doing
compound_does atomic w seen outer vs hs body level st = λ f.
    declared_or atomic (scopes_of w seen) (declare vs w f)
    (listed level (scopes_of w outer) (handlings hs w level (scopes_of w outer))
    (λ scopes. does_all body w (inside_scopes scopes (context w seen level st)))) f

numbers : (w : Inputs) (seen outer : Seen) (hs : Handlers) (env : Env) (here next n : ℕ) →
    Ready env here next n →
    let sealing = next + count (codes_of w seen) in
    Numbers here sealing (suc sealing) (suc (suc sealing)) (suc (suc (suc sealing)))
    (suc (suc (suc sealing)) + handler_count w outer hs) (handler_count w outer hs)
numbers w seen outer hs env here next n r = let b = r.before in
    record {
      sealing_above = omega arith;
      exit_is = refl;
      runs_is = refl;
      first_is = refl;
      free_is =
          refl;
    }

set_below : (f : ℕ → ℕ) (k to n m : ℕ) → f n < m → to < m → set_at f k to n < m
set_below f k to n m h g = elim (nat_eq n k) as (λ b. cond b to (f n) < m) [ true ↦ g | false ↦ h ]

exits_below : (own : List Coded) (exits : ℕ → ℕ) (level exit l m : ℕ) → exits l < m → exit < m →
    exits_in own exits level exit l < m
exits_below [] exits level exit l m h g = h
exits_below (x ∷ xs) exits level exit l m h g = set_below exits level exit l m h g

under_inside : (atomic : Bool) (own : List Coded) (env : Env) (here exit sealing x : ℕ) →
    Under env here → here < x → exit < x → sealing < x →
    Under (inside atomic own env here exit sealing) x
under_inside atomic own env here exit sealing x u h g s = record {
  labels = λ l. set_below env.labels env.level here l x (let e = u.labels l in omega arith) h;
  exits = λ l. exits_below own env.exits env.level exit l x (let e = u.exits l in omega arith) g;
  out = elim atomic as (λ b. out_in b sealing env.out < x)
      [ true ↦ s | false ↦ let e = u.out in omega arith ];
  some = omega arith;
}

under_within : (env : Env) (n k here : ℕ) → Under env here → Under (with_variables env n k) here
under_within env n k here u = record {
  labels = u.labels;
  exits = u.exits;
  out = u.out;
  some =
      u.some;
}

-- ---- raising as a whole

whole_passes : (w : Inputs) (o : List (List Cell)) (seen : Seen) → Good w o seen →
    (whole atomic : Bool) (env : Env) (here sealing base free n : ℕ) → Under env here →
    here < base → base + count (codes_of w seen) ≤ free → Rising 3 env.columns n →
    (c : ℕ) → c < base → nat_eq c sealing ≡ false → base ≤ free → (q : List Cell) → length q ≡ n →
    cell_at q 0 ≡ at c → run w o (whole_raise whole atomic (codes_of w seen) env sealing here base
    free n) q ≡ q
whole_passes w o seen g false atomic env here sealing base free n u b f r c cb cs bf q l e = refl
whole_passes w o seen g true true env here sealing base free n u b f r c cb cs bf q l e =
    let h3 = rising_below 3 env.columns n r in
    ap (run w o (handled (codes_of w seen) env here base free n))
    (acts_off sealing no_node n (store 0 (word case_word
    (dispatch (codes_of w seen) env base here 2)) ∷ []) n w o q c l (omega arith) l e cs)
    ∙ handled_passes w o seen g env here base free n u b f r c (omega arith) (inl cb) q l h3 e
whole_passes w o seen g true false env here sealing base free n u b f r c cb cs bf q l e =
    handled_passes w o seen g env here base free n u b f r c (omega arith) (inl cb) q l
    (rising_below 3 env.columns n r) e

-- an environment whose unhandled conditions go elsewhere
abbrev with_out : Env → ℕ → Env
with_out env out = record {
  columns = env.columns;
  labels = env.labels;
  exits = env.exits;
  out =
      out;
  stacked = env.stacked;
  level = env.level;
}

-- an ATOMIC one is sealed
sealed_rests : (w : Inputs) (o : List (List Cell)) (seen : Seen) (env : Env)
    (here sealing base n : ℕ) → Under env here → here < sealing → Rising 3 env.columns n →
    (out : Outcome) (f : Frame) (q z : List Cell) →
    Lands (with_out env sealing) here n q (record { outcome = out; frame = f }) z →
    Rests w env here seen base n q (sealed_or true (scopes_of w seen) out f)
    (stepped w o (acts sealing no_node n (store 0
    (word case_word (dispatch (codes_of w seen) env base here 2)) ∷ []) n []) z)
sealed_rests w o seen env here sealing base n u h r Next f q z l =
    let h3 = rising_below 3 env.columns n r in
    inl (lands_same env here n q _ z _ (acts_off sealing no_node n
    (store 0 (word case_word (dispatch (codes_of w seen) env base here 2)) ∷ []) n w o z here l.long
    (omega arith) l.long l.code (lower_differs here sealing h))
    (record {
      long = l.long;
      code = l.code;
      shows = l.shows;
      carries = l.carries;
      keeps =
          l.keeps;
    }))
sealed_rests w o seen env here sealing base n u h r (Leaving k) f q z l =
    let h3 = rising_below 3 env.columns n r in let e = u.labels k in
    inl (lands_same env here n q _ z _ (acts_off sealing no_node n
    (store 0 (word case_word (dispatch (codes_of w seen) env base here 2)) ∷ []) n w o z
    (env.labels k) l.long (omega arith) l.long l.code (lower_differs _ sealing (omega arith)))
    (record {
      long = l.long;
      code = l.code;
      shows = l.shows;
      carries = l.carries;
      keeps =
          l.keeps;
    }))
sealed_rests w o seen env here sealing base n u h r (Returning v) f q z l =
    let h3 = rising_below 3 env.columns n r in
    inl (lands_same env here n q _ z _ (acts_off sealing no_node n
    (store 0 (word case_word (dispatch (codes_of w seen) env base here 2)) ∷ []) n w o z 0 l.long
    (omega arith) l.long l.code (lower_differs _ sealing (omega arith)))
    (record {
      long = l.long;
      code = l.code;
      shows = l.shows;
      carries = l.carries;
      keeps =
          l.keeps;
    }))
sealed_rests w o seen env here sealing base n u h r (Exiting k a) f q z l =
    let h3 = rising_below 3 env.columns n r in let e = u.exits k in
    inl (lands_same env here n q _ z _ (acts_off sealing no_node n
    (store 0 (word case_word (dispatch (codes_of w seen) env base here 2)) ∷ []) n w o z
    (env.exits k) l.long (omega arith) l.long l.code (lower_differs _ sealing (omega arith)))
    (record {
      long = l.long;
      code = l.code;
      shows = l.shows;
      carries = l.carries;
      keeps =
          l.keeps;
    }))
sealed_rests w o seen env here sealing base n u h r (Raising a) f q z l =
    let h3 = rising_below 3 env.columns n r in
    let t = dispatch_sends w seen env base here 2 (sight w o z) a f l.carries in
    let is : stepped w o (acts sealing no_node n
    (store 0 (word case_word (dispatch (codes_of w seen) env base here 2)) ∷ []) n []) z
    ≡ slice_set z 0 (at t.0) =
    acts_on sealing no_node n (store 0 (word case_word (dispatch (codes_of w seen) env base here 2))
    ∷ []) n w o z l.long (omega arith) l.long l.code ∙ ap (slice_set z 0) t.1 in
    inr (subst (λ (x : List Cell). Sent w env here seen base n q (raising (scopes_of w seen) a f) x)
    (sym is) (record {
      area = a;
      frame = f;
      to = t.0;
      sends = t.2;
      long = length-set z 0 (at t.0) ∙ l.long;
      code = set_same z 0 (at t.0) (let e = l.long in omega (arith, e));
      shows = cells_set_low 3 env.columns n 0 z (at t.0) r (omega arith) ∙ l.shows;
      holds = set_other z 0 2 (at t.0) (lower_differs 0 2 (omega arith)) ∙ l.carries;
      keeps = λ i lo hi p. set_other z 0 i (at t.0) (lower_differs 0 i (omega arith)) ∙ l.keeps i lo
          hi p;
    }))

-- what went well so far
whole_lands : (w : Inputs) (o : List (List Cell)) (seen : Seen) → Good w o seen →
    (whole atomic : Bool) → (whole ≡ false → atomic ≡ false) →
    (env : Env) (here sealing base free n : ℕ) → Under env here → here < base → here < sealing →
    base + count (codes_of w seen) ≤ free → Rising 3 env.columns n → (e : End) (q z : List Cell) →
    Lands (with_out env (out_in atomic sealing env.out)) here n q e z →
    Lands env here n q (sealed atomic (scopes_of w seen) e)
    (run w o (whole_raise whole atomic (codes_of w seen) env sealing here base free n) z)
whole_lands w o seen g false true h env here sealing base free n u b s f r e q z l =
    absurd (clash (h refl))
  where
    clash : true ≡ false → ⊥
    clash x = cc
whole_lands w o seen g false false h env here sealing base free n u b s f r e q z l = l
whole_lands w o seen g true false h env here sealing base free n u b s f r e q z l =
    handled_lands w o seen g env here base free n u b f r (rising_below 3 env.columns n r) q e z
    (inl l)
whole_lands w o seen g true true h env here sealing base free n u b s f r e q z l =
    handled_lands w o seen g env here base free n u b f r (rising_below 3 env.columns n r) q
    (sealed_or true (scopes_of w seen) e.outcome e.frame) _
    (sealed_rests w o seen env here sealing base n u s r e.outcome e.frame q z l)

-- what a default raised
whole_raised : (w : Inputs) (o : List (List Cell)) (seen : Seen) → Good w o seen →
    (whole atomic : Bool) → whole ≡ true → (env : Env) (here sealing base free n : ℕ) →
    Under env here → here < base → base + count (codes_of w seen) ≤ sealing → sealing ≤ free →
    Rising 3 env.columns n → (q : List Cell) (e : End) (z : List Cell) → Sent w env here seen base n
    q e z →
    Lands env here n q e (run w o (whole_raise whole atomic (codes_of w seen) env sealing here base
    free n) z)
whole_raised w o seen g false atomic h env here sealing base free n u b s f r q e z l =
    absurd (clash h)
  where
    clash : false ≡ true → ⊥
    clash x = cc
whole_raised w o seen g true false h env here sealing base free n u b s f r q e z l =
    handled_lands w o seen g env here base free n u b (omega arith) r
    (rising_below 3 env.columns n r) q e z (inr l)
whole_raised w o seen g true true h env here sealing base free n u b s f r q e z l =
    let h3 = rising_below 3 env.columns n r in
    let bound = sends_bound w env here u seen base l.area l.frame e l.to l.sends in
    let low : l.to < sealing = elim bound as (λ x. l.to < sealing)
    [ inl j ↦ omega arith | inr j ↦ let j1 = j.1 in omega arith ] in
    lands_same env here n q e _ _
    (ap (run w o (handled (codes_of w seen) env here base free n))
    (acts_off sealing no_node n (store 0 (word case_word
    (dispatch (codes_of w seen) env base here 2)) ∷ []) n w o z l.to l.long (omega arith) l.long
    l.code (lower_differs l.to sealing low)))
    (handled_lands w o seen g env here base free n u b (omega arith) r h3 q e z (inr l))

-- ---- back at the width before

-- where a row at the end of the statement list goes
join_code : (atomic : Bool) (env : Env) (here sealing runs m r : ℕ) → Under env here → here < runs →
    sealing < runs → runs ≤ r → r < runs + m → (out : Outcome) →
    cond (in_tags (place_of (ending_env atomic env here sealing) r out) runs m) here
    (place_of (ending_env atomic env here sealing) r out)
    ≡ place_of (with_out env (out_in atomic sealing env.out)) here (left_or env.level out)
join_code atomic env here sealing runs m r u h s lo hi Next = ap (λ t. cond t here r)
    (inside_tags r runs m lo hi)
join_code atomic env here sealing runs m r u h s lo hi (Leaving l) =
    let E = with_out env (out_in atomic sealing env.out) in
    elim (nat_eq l env.level) as (λ b. cond (in_tags (cond b here (env.labels l)) runs m) here
    (cond b here (env.labels l)) ≡ place_of E here (cond b Next (Leaving l))) [
      | true ↦ ap (λ t. cond t here here) (below_tags here runs m h)
      | false ↦ ap (λ t. cond t here (env.labels l))
          (below_tags (env.labels l) runs m (let e = u.labels l in omega arith))
    ]
join_code atomic env here sealing runs m r u h s lo hi (Returning v) = ap (λ t. cond t here 0)
    (below_tags 0 runs m (omega arith))
join_code atomic env here sealing runs m r u h s lo hi (Exiting l a) =
    ap (λ t. cond t here (env.exits l)) (below_tags (env.exits l) runs m
    (let e = u.exits l in omega arith))
join_code atomic env here sealing runs m r u h s lo hi (Raising a) =
    elim atomic as (λ b. cond (in_tags (out_in b sealing env.out) runs m) here
    (out_in b sealing env.out) ≡ out_in b sealing env.out) [
      | true ↦ ap (λ t. cond t here sealing) (below_tags sealing runs m s)
      | false ↦ ap (λ t. cond t here env.out)
          (below_tags env.out runs m (let e = u.out in omega arith))
    ]

left_carries : (level : ℕ) (o : Outcome) (z : List Cell) → Carries o z → Carries (left_or level o) z
left_carries level Next z h = tt
left_carries level (Leaving l) z h = elim (nat_eq l level) as
    (λ b. Carries (cond b Next (Leaving l)) z) [ true ↦ tt | false ↦ tt ]
left_carries level (Returning v) z h = h
left_carries level (Exiting l a) z h = h
left_carries level (Raising a) z h = h

frame_long : (cs : List ℕ) (f : Frame) (z : List Cell) → cells_at z cs ≡ shown f → length cs
    ≡ length f
frame_long cs f z h = sym (cells_at_long z cs) ∙ (ap (λ (x : List Cell). length x) h ∙ shown_long f)

first_of_two : (cs ds : List ℕ) → take (length cs) (cs ++ ds) ≡ cs
first_of_two [] ds = refl
first_of_two (c ∷ cs) ds = ap (λ (is : List ℕ). c ∷ is) (first_of_two cs ds)

-- the variables before the compound statement
outer_shows : (cs ds : List ℕ) (g f : Frame) (z : List Cell) (x : List Cell) → cells_at x cs
    ≡ shown f → cells_at z (cs ++ ds) ≡ shown g → cells_at z cs ≡ shown (take (length f) g)
outer_shows cs ds g f z x hf hg =
    ap (cells_at z) (sym (first_of_two cs ds))
    ∙ (take_cells z (length cs) (cs ++ ds)
    ∙ (ap (take (length cs)) hg ∙ (take_shown (length cs) g ∙ ap (λ (i : ℕ). shown (take i g))
    (frame_long cs f x hf))))

ended_lands : (w : Inputs) (o : List (List Cell)) (atomic : Bool) (env : Env)
    (here sealing runs mo n k wide : ℕ) → Under env here → here < runs → sealing < runs →
    Rising 3 env.columns n → (e : End) (f : Frame) (q q1 z : List Cell) →
    n ≤ wide → cells_at q env.columns ≡ shown f → Keeps [] n q q1 →
    EndedAt (ending_env atomic (with_variables env n k) here sealing) runs mo (n + k) wide q1 e z →
    Lands (with_out env (out_in atomic sealing env.out)) here n q (left_by f (left env.level e))
    (stepped w o (joins runs (suc mo) here wide n) z)
ended_lands w o atomic env here sealing runs mo n k wide u h s r e f q q1 z nw sf kp at_end =
    let h3 = rising_below 3 env.columns n r in let W = with_variables env n k in let N =
    ending_env atomic W here sealing in
    let row = at_end.3 in
    let j = joins_row runs (suc mo) here wide n (place_of N at_end.0 e.outcome) w o z row.long nw
    (omega arith) row.code in
    let y = stepped w o (joins runs (suc mo) here wide n) z in
    record {
      long = j.long;
      code = j.code ∙ ap at (join_code atomic W here sealing runs (suc mo) at_end.0
          (under_within env n k here u) h s at_end.1 at_end.2 e.outcome ∙ same_place env n k
          (out_in atomic sealing env.out) here (left_or env.level e.outcome));
      shows = kept_rest 0 env.columns n z y r (λ i lo hi x. j.others i (omega arith) hi)
          ∙ outer_shows env.columns (places n k) e.frame f z q sf row.shows;
      carries = left_carries env.level e.outcome y
          (carries_joined e.outcome z y (j.others 1 (omega arith) (omega arith))
          (j.others 2 (omega arith) (omega arith)) row.carries);
      keeps = λ i lo hi p. j.others i (omega arith) hi
          ∙ (row.keeps i lo (omega arith) (apart_append env.columns (places n k) i p
          (apart_places n k i hi)) ∙ kp i lo hi tt);
    }
  where
    same_place : (env : Env) (n k out here : ℕ) (x : Outcome) →
        place_of (with_out (with_variables env n k) out) here x ≡ place_of (with_out env out) here x
    same_place env n k out here Next = refl
    same_place env n k out here (Leaving l) = refl
    same_place env n k out here (Returning v) = refl
    same_place env n k out here (Exiting l a) = refl
    same_place env n k out here (Raising a) = refl

-- ---- the whole

ready_body : (w : Inputs) (seen outer : Seen) (atomic : Bool) (vs : Variables) (hs : Handlers)
    (env : Env) (here next n : ℕ) → Ready env here next n →
    let own = coded hs (columns_in w) (codes_of w outer) in let sealing = next + count
    (codes_of w seen) in let k = variable_count vs in
    Ready (inside atomic own (with_variables env n k) here (suc sealing) sealing)
    (suc (suc sealing)) (suc (suc (suc sealing)) + length own) (n + k)
ready_body w seen outer atomic vs hs env here next n r =
    let own = coded hs (columns_in w) (codes_of w outer) in let sealing = next + count
    (codes_of w seen) in let k = variable_count vs in let b = r.before in
    record {
      under = under_inside atomic own (with_variables env n k) here (suc sealing) sealing
          (suc (suc sealing)) (under_within env n k here r.under) (omega arith) (omega arith)
          (omega arith);
      before = omega arith;
      rising = rising_append 3 env.columns n k r.rising;
    }

-- a row at a code that is none of its own
through : (w : Inputs) (o : List (List Cell)) (seen : Seen) → Good w o seen → (outer : Seen)
    (atomic whole : Bool) (vs : Variables) (hs : Handlers) (body : Stmts) →
    ((level : ℕ) → AllGood w o hs level outer) →
    ((level v : ℕ) → Sim w o (suc level) (emit_all body (columns_in w)
    (codes_of w (within hs level v outer))) (λ st. does_all body w
    (context w (within hs level v outer) (suc level) st))) →
    (env : Env) (here next n : ℕ) → Ready env here next n → (c : ℕ) → c < next + count
    (codes_of w seen) → (z : List Cell) → length z ≡ n + variable_count vs → cell_at z 0 ≡ at c →
    let S = columns_in w in let own = coded hs S (codes_of w outer) in
    let sealing = next + count (codes_of w seen) in let exit = suc sealing in let runs = suc exit in
    let first = suc runs in let free = first + length own in
    let k = variable_count vs in let m = n + k in let W = with_variables env n k in
    (x : List Cell) × (length (z ++ x) ≡ ending_width own m)
    × (run w o (emit_all body S (codes_of w (within hs env.level (length W.columns) outer))
    (inside atomic own W here exit sealing) runs free m
    ++ (ending own (ending_env atomic W here sealing) exit first free m ++ joins runs
    (suc (length own)) here (ending_width own m) n
    ∷ whole_raise whole atomic (codes_of w seen) env sealing here next free n)) z
    ≡ run w o (whole_raise whole atomic (codes_of w seen) env sealing here next free n)
    (stepped w o (joins runs (suc (length own)) here (ending_width own m) n) (z ++ x)))
through w o seen good outer atomic whole vs hs body hh hb env here next n r c cn z l e =
    let S = columns_in w in let own = coded hs S (codes_of w outer) in
    let sealing = next + count (codes_of w seen) in let exit = suc sealing in let runs = suc exit in
    let first = suc runs in let free = first + length own in
    let k = variable_count vs in let m = n + k in let W = with_variables env n k in let b =
    r.before in
    let I = inside atomic own W here exit sealing in let N = ending_env atomic W here sealing in
    let steps = emit_all body S (codes_of w (within hs env.level (length W.columns) outer)) I runs
    free m in
    let last = joins runs (suc (length own)) here (ending_width own m) n in let raise =
    whole_raise whole atomic (codes_of w seen) env sealing here next free n in
    let rising = rising_append 3 env.columns n k r.rising in
    let body_passes : run w o steps z ≡ z =
    (hb env.level (length W.columns)).passes I runs free m
    (ready_body w seen outer atomic vs hs env here next n r) c (omega arith)
    (lower_differs c runs (omega arith)) z l e in
    let t = ending_off w o hs env.level outer (hh env.level) N refl runs exit first free m
    (ending_under atomic W here sealing runs (under_within env n k here r.under) (omega arith)
    (omega arith)) (omega arith) (omega arith) rising
    c (omega arith) (lower_differs c exit (omega arith)) (inl (omega arith)) z l e in (
      t.0,
      t.2,
      run_append w o steps (ending own N exit first free m ++ last ∷ raise) z
          ∙ (ap (run w o (ending own N exit first free m ++ last ∷ raise)) body_passes
          ∙ (run_append w o (ending own N exit first free m) (last ∷ raise) z
          ∙ ap (run w o (last ∷ raise)) t.1)),
    )

holds_within : (c : Option ℕ) (a : Option Area) (cs : List ℕ) (n k : ℕ) (q z : List Cell) →
    Holds c a cs n q → Keeps [] n q z → Holds c a (cs ++ places n k) (n + k) z
holds_within None None cs n k q z h g = tt
holds_within None (Some a) cs n k q z h g = h
holds_within (Some c) None cs n k q z h g = h
holds_within (Some c) (Some a) cs n k q z h g = (
  h.0,
  (let b = h.1 in omega arith),
  apart_append cs (places n k) c h.2 (apart_places n k c h.1),
  g c h.0 h.1 tt ∙ h.3,
)

width_above : (hs : List Coded) (n m : ℕ) → n ≤ m → n ≤ ending_width hs m
width_above [] n m h = h
width_above (x ∷ xs) n m h = omega arith

or_false : (a b : Bool) → (a || b) ≡ false → (a ≡ false) × (b ≡ false)
or_false true b h = absurd (clash h)
  where
    clash : true ≡ false → ⊥
    clash x = cc
or_false false b h = (refl, h)

pub compound_general : (w : Inputs) (o : List (List Cell)) → (seen : Seen) →
    Good w o seen → (outer : Seen) (atomic : Bool) (vs : Variables) (hs : Handlers) (body : Stmts) →
    VariablesHold vs (ValueRight w) → ((level : ℕ) → AllGood w o hs level outer) →
    ((level v : ℕ) → Sim w o (suc level) (emit_all body (columns_in w)
    (codes_of w (within hs level v outer))) (λ st. does_all body w
    (context w (within hs level v outer) (suc level) st))) → (level : ℕ) →
    Sim w o level (compound_steps atomic (atomic || has_default vs) w seen outer vs hs body)
    (compound_does atomic w seen outer vs hs body level)
compound_general w o seen good outer atomic vs hs body pvs hh hb level = record {
  passes = λ env here next n r c cn ch q l e.
      let S = columns_in w in let own = coded hs S (codes_of w outer) in let whole =
      atomic || has_default vs in
      let sealing = next + count (codes_of w seen) in let exit = suc sealing in let runs =
      suc exit in let first = suc runs in let free = first + length own in
      let k = variable_count vs in let m = n + k in let W = with_variables env n k in let b =
      r.before in let h3 = rising_below 3 env.columns n r.rising in
      let I = inside atomic own W here exit sealing in let N = ending_env atomic W here sealing in
      let last = joins runs (suc (length own)) here (ending_width own m) n in let raise =
      whole_raise whole atomic (codes_of w seen) env sealing here next free n in
      let rest = emit_all body S (codes_of w (within hs env.level (length W.columns) outer)) I runs
      free m ++ (ending own N exit first free m ++ last ∷ raise) in
      let d = declares_off w o (codes_of w seen) vs env runs here next free n c
      (lower_differs c runs (omega arith)) q l (omega arith) e in
      let long : length (q ++ d.0) ≡ m = length-append q d.0 ∙ both (λ (u v : ℕ). u + v) _ _ _ _ l
      d.1 in
      let t = through w o seen good outer atomic whole vs hs body hh hb env here next n r c
      (omega arith) (q ++ d.0) long (front_at q d.0 0 (omega (arith, l)) ∙ e) in
      let assoc : (q ++ d.0) ++ t.0 ≡ q ++ (d.0 ++ t.0) = append_assoc q d.0 t.0 in
      ap (run w o (emit_declares vs S (codes_of w seen) env runs here next free n ++ rest))
      (jump_off here runs n w o q c l (omega arith) e ch)
      ∙ (run_append w o (emit_declares vs S (codes_of w seen) env runs here next free n) rest q
      ∙ (ap (run w o rest) d.2
      ∙ (t.2
      ∙ (ap (λ (x : List Cell). run w o raise (stepped w o last x)) assoc
      ∙ (ap (run w o raise) (joins_off runs (suc (length own)) here (ending_width own m) n c w o q
      (d.0 ++ t.0) l (ap (λ (x : List Cell). length x) (sym assoc) ∙ t.1) (omega arith) e
      (below_tags c runs (suc (length own)) (omega arith)))
      ∙ whole_passes w o seen good whole atomic env here sealing next free n r.under r.before
      (omega arith) r.rising c cn (lower_differs c sealing (omega arith)) (omega arith) q l e)))));
  lands = λ env here next n r v st f q s c.
      subst (λ (lv : ℕ). Lands env here n q (compound_does atomic w seen outer vs hs body lv st f)
      (run w o (compound_steps atomic (atomic || has_default vs) w seen outer vs hs body env here
      next n) q)) v
      (started env here next n r st f q s c);
}
  where
    started : (env : Env) (here next n : ℕ) → Ready env here next n → (st : Option Area) (f : Frame)
        (q : List Cell) → Starts env n st f q → cell_at q 0 ≡ at here →
        Lands env here n q (compound_does atomic w seen outer vs hs body env.level st f)
        (run w o (compound_steps atomic (atomic || has_default vs) w seen outer vs hs body env here
        next n) q)
    started env here next n r st f q s c =
        let S = columns_in w in let own = coded hs S (codes_of w outer) in let whole =
        atomic || has_default vs in
        let sealing = next + count (codes_of w seen) in let exit = suc sealing in let runs =
        suc exit in let first = suc runs in let free = first + length own in
        let k = variable_count vs in let m = n + k in let W = with_variables env n k in let b =
        r.before in let h3 = rising_below 3 env.columns n r.rising in
        let I = inside atomic own W here exit sealing in let N = ending_env atomic W here sealing in
        let steps = emit_all body S (codes_of w (within hs env.level (length W.columns) outer)) I
        runs free m in
        let last = joins runs (suc (length own)) here (ending_width own m) n in let raise =
        whole_raise whole atomic (codes_of w seen) env sealing here next free n in
        let rest = steps ++ (ending own N exit first free m ++ last ∷ raise) in
        let q0 = slice_set q 0 (at runs) in
        let z = run w o (emit_declares vs S (codes_of w seen) env runs here next free n) q0 in
        let k0 : Keeps [] n q q0 = λ i lo hi p. set_other q 0 i (at runs)
        (lower_differs 0 i (omega arith)) in
        let D = declares_run w o seen vs pvs env runs here next free n r.under (omega arith)
        (omega arith) r.rising f f q0 (length-set q 0 (at runs) ∙ s.long)
        (cells_set_low 3 env.columns n 0 q (at runs) r.rising (omega arith) ∙ s.shows)
        (set_same q 0 (at runs) (let l = s.long in omega (arith, l))) in
        lands_same env here n q _ _ _
        (ap (run w o (emit_declares vs S (codes_of w seen) env runs here next free n ++ rest))
        (jump_on here runs n w o q s.long (omega arith) c)
        ∙ run_append w o (emit_declares vs S (codes_of w seen) env runs here next free n) rest q0)
        (goes_on (declare vs w f) refl z D)
      where
        goes_on : (D : Ending Frame) → declare vs w f ≡ D → (z : List Cell) →
            let sealing = next + count (codes_of w seen) in let runs = suc (suc sealing) in
            DeclaredEnd w env runs here seen next n (variable_count vs) f (slice_set q 0 (at runs))
            z D →
            let S = columns_in w in let own = coded hs S (codes_of w outer) in let exit =
            suc sealing in let first = suc runs in let free = first + length own in
            let k = variable_count vs in let m = n + k in let W = with_variables env n k in
            Lands env here n q (declared_or atomic (scopes_of w seen) D
            (listed env.level (scopes_of w outer) (handlings hs w env.level (scopes_of w outer))
            (λ scopes. does_all body w (inside_scopes scopes (context w seen env.level st)))) f)
            (run w o (emit_all body S (codes_of w (within hs env.level (length W.columns) outer))
            (inside atomic own W here exit sealing) runs free m
            ++ (ending own (ending_env atomic W here sealing) exit first free m
            ++ joins runs (suc (length own)) here (ending_width own m) n ∷ whole_raise
            (atomic || has_default vs) atomic (codes_of w seen) env sealing here next free n)) z)
        goes_on (Ok g) is z d =
            let S = columns_in w in let own = coded hs S (codes_of w outer) in let whole =
            atomic || has_default vs in
            let sealing = next + count (codes_of w seen) in let exit = suc sealing in let runs =
            suc exit in let first = suc runs in let free = first + length own in
            let k = variable_count vs in let m = n + k in let W = with_variables env n k in let b =
            r.before in let h3 = rising_below 3 env.columns n r.rising in
            let I = inside atomic own W here exit sealing in let N = ending_env atomic W here
            sealing in
            let steps = emit_all body S (codes_of w (within hs env.level (length W.columns) outer))
            I runs free m in
            let last = joins runs (suc (length own)) here (ending_width own m) n in let raise =
            whole_raise whole atomic (codes_of w seen) env sealing here next free n in
            let kp : Keeps [] n q z = λ i lo hi p. d.keeps i lo hi p ∙ set_other q 0 i (at runs)
            (lower_differs 0 i (omega arith)) in
            let start : Starts I m st g z = record {
              long = d.long;
              shows = d.shows;
              holds =
                  holds_within env.stacked st env.columns n k q z s.holds kp;
            } in
            let e0 = does_all body w (context w (within hs env.level (length W.columns) outer)
            (suc env.level) st) g in
            let L = (hb env.level (length W.columns)).lands I runs free m
            (ready_body w seen outer atomic vs hs env here next n r) refl st g z start d.code in
            let z2 = run w o steps z in
            let E = ending_lands w o hs outer atomic W (hh env.level) here sealing exit runs first
            free m (numbers w seen outer hs env here next n r)
            (under_within env n k here r.under) (rising_append 3 env.columns n k r.rising)
            e0.outcome e0.frame z z2 L in
            let e1 = exited env.level (handlings hs w env.level (scopes_of w outer)) e0 in
            let z3 = run w o (ending own N exit first free m) z2 in
            let J = ended_lands w o atomic env here sealing runs (length own) n k
            (ending_width own m) r.under (omega arith) (omega arith) r.rising e1 f q z z3
            (width_above own n m (omega arith)) s.shows kp E in
            let F = whole_lands w o seen good whole atomic
            (λ h. (or_false atomic (has_default vs) h).0) env here sealing next free n r.under
            r.before (omega arith) (omega arith) r.rising (left_by f (left env.level e1)) q
            (stepped w o last z3) J in
            subst (λ (i : ℕ). Lands env here n q
            (sealed atomic (scopes_of w seen)
            (left_by f (left env.level (exited env.level
            (handlings hs w env.level (scopes_of w outer))
            (does_all body w (context w (within hs env.level i outer) (suc env.level) st) g)))))
            (run w o (steps ++ (ending own N exit first free m ++ last ∷ raise)) z))
            (frame_long W.columns g z d.shows)
            (lands_same env here n q _ _ _
            (run_append w o steps (ending own N exit first free m ++ last ∷ raise) z ∙ run_append w
            o (ending own N exit first free m) (last ∷ raise) z2) F)
        goes_on (Err a) is z d =
            let S = columns_in w in let own = coded hs S (codes_of w outer) in let whole =
            atomic || has_default vs in
            let sealing = next + count (codes_of w seen) in let exit = suc sealing in let runs =
            suc exit in let first = suc runs in let free = first + length own in
            let k = variable_count vs in let m = n + k in let W = with_variables env n k in let b =
            r.before in let h3 = rising_below 3 env.columns n r.rising in
            let last = joins runs (suc (length own)) here (ending_width own m) n in let raise =
            whole_raise whole atomic (codes_of w seen) env sealing here next free n in
            let bound = sends_bound w env here r.under seen next a f
            (raising (scopes_of w seen) a f) d.to d.sends in
            let low : d.to < sealing = elim bound as (λ x. d.to < sealing)
            [ inl j ↦ omega arith | inr j ↦ let j1 = j.1 in omega arith ] in
            let t = through w o seen good outer atomic whole vs hs body hh hb env here next n r d.to
            low z d.long d.code in
            let zx = z ++ t.0 in let dl = d.long in
            let jr = joins_row runs (suc (length own)) here (ending_width own m) n d.to w o zx t.1
            (width_above own n m (omega arith)) (omega arith)
            (front_at z t.0 0 (omega (arith, dl)) ∙ d.code) in
            let y = stepped w o last zx in
            let same : (i : ℕ) → 0 < i → i < n → cell_at y i ≡ cell_at z i = λ i lo hi. jr.others i
            lo hi ∙ front_at z t.0 i (omega (arith, dl)) in
            let kp : Keeps [] n q y = λ i lo hi p. same i (omega arith) hi
            ∙ (d.keeps i lo hi p ∙ set_other q 0 i (at runs) (lower_differs 0 i (omega arith)))
            in
            let sent : Sent w env here seen next n q (raising (scopes_of w seen) a f) y = record {
              area = a;
              frame = f;
              to = d.to;
              sends = d.sends;
              long = jr.long;
              code = jr.code ∙ ap (λ (x : Bool). at (cond x here d.to))
                  (below_tags d.to runs (suc (length own)) (omega arith));
              shows = kept_rest 0 env.columns n q y r.rising kp ∙ s.shows;
              holds = same 2 (omega arith) (omega arith) ∙ d.holds;
              keeps = λ i lo hi p. kp i lo hi tt;
            } in
            lands_same env here n q _ _ _ t.2
            (whole_raised w o seen good whole atomic (some_default is) env here sealing next free n
            r.under r.before (omega arith) (omega arith) r.rising q (raising (scopes_of w seen) a f)
            y sent)
          where
            is_whole : (x : Bool) → (atomic || has_default vs) ≡ x → declare vs w f ≡ Err a →
                x ≡ true
            is_whole true h g = refl
            is_whole false h g = absurd (never
                (no_default vs (or_false atomic (has_default vs) h).1 w f))
              where
                never : (x : Frame) × (declare vs w f ≡ Ok x) → ⊥
                never p = clash (sym g ∙ p.1)
                  where
                    clash : {x : Frame} → Err a ≡ Ok x → ⊥
                    clash y = cc

            some_default : declare vs w f ≡ Err a → (atomic || has_default vs) ≡ true
            some_default g = is_whole (atomic || has_default vs) refl g
