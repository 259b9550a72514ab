-- The handlers of a compound statement at its end.
use Rattle.std.proofs.Common.{◌≡◌, ℕ, suc, ◌+◌, ◌<◌, ◌≤◌, Bool, true, false, cond, nat_eq, List, []}
use Rattle.std.proofs.Common.{◌∷◌, ◌++◌, length, take, Some, refl, sym, ap, ◌∙◌, subst, arith, inl}
use Rattle.std.proofs.Common.{inr, ◌⊎◌, length-append}
use Rattle.std.proofs.lemmas.List.{length-set, append-nil}
use Rattle.std.proofs.lemmas.Bool.Decides.{eqb_tells}
use Rattle.sql_conditions.specs.Conditions.{Area}
use Rattle.row_types.specs.declared.cell.Cell.{Cell}
use Rattle.row_types.specs.declared.cell.Cell.TheVariants.{Cond}
use Rattle.rel_algebra.specs.Scopes.{Inputs, columns_in}
use Rattle.rel_algebra.specs.Plan.{no_node, word, case_word, sight, cell_at, cells_at, shown}
use Rattle.rel_algebra.specs.States.{state_in}
use Rattle.rel_algebra.specs.Bodies.{HandlerType, Stmt, Handlers, NoHandler, MoreHandlers}
use Rattle.rel_algebra.specs.BodyDoing.{Frame, Outcome, Next, Leaving, Returning, Exiting, Raising}
use Rattle.rel_algebra.specs.BodyDoing.{End, Doing, ends}
use Rattle.rel_algebra.specs.BodyHandlers.{Handling, best_here, with_best}
use Rattle.rel_algebra.specs.BodyCompounds.{exited_or}
use Rattle.rel_algebra.specs.BodyMeaning.{does, in_action, handlings}
use Rattle.rel_algebra.specs.BodySteps.{grow, stepped, run, Store, store, acts, col, only, tag}
use Rattle.rel_algebra.specs.BodyDispatch.{Env, scope_arms, action_env, whatever, scope_actions}
use Rattle.rel_algebra.specs.BodyChain.{coded, set_at, out_in, inside, ending_env, its_own, ending}
use Rattle.rel_algebra.specs.BodyChain.{ending_width}
use Rattle.rel_algebra.proofs.BodyBase.{at, lower_differs, higher_differs, set_same, set_other}
use Rattle.rel_algebra.proofs.BodyBase.{Rising, rising_below, rising_more, rising_take, Apart}
use Rattle.rel_algebra.proofs.BodyBase.{Keeps, cells_set_low, cells_at_long, front_at, grown_cells}
use Rattle.rel_algebra.proofs.BodyRows.{acts_off, acts_on}
use Rattle.rel_algebra.proofs.BodyLands.{place_of, Carries, Lands, Under, Starts, Seen, scopes_of}
use Rattle.rel_algebra.proofs.BodyLands.{codes_of, context, AllGood}
use Rattle.rel_algebra.proofs.BodyArms.{AllSend, LeadsTo, scope_leads}
use Rattle.rel_algebra.proofs.BodyHandled.{InHandlers, handler_count, in_from, in_below, Beside}
use Rattle.rel_algebra.proofs.BodyHandled.{picks_all, scope_passes, scope_acts, start_action}
use Rattle.rel_algebra.proofs.BodyHandled.{carries_joined}
use Rattle.rel_algebra.specs.Tree.{ConditionValue}
use Rattle.rel_algebra.proofs.Growing.{shown_long}
use Rattle.std.specs.Prelude.{slice_set}

pub take_whole : {A : Type 0} (xs : List A) → take (length xs) xs ≡ xs
take_whole [] = refl
take_whole (x ∷ xs) = ap (λ ys. x ∷ ys) (take_whole xs)

-- the codes of a compound statement: it is sealed; it is left for its handlers; it runs; these act
pub record Numbers (here sealing exit runs first free m : ℕ) : Type 0 where
  pub sealing_above : here < sealing
  pub exit_is : exit ≡ suc sealing
  pub runs_is : runs ≡ suc exit
  pub first_is : first ≡ suc runs
  pub free_is : free ≡ first + m

pub ending_off : (w : Inputs) (o : List (List Cell)) (hs : Handlers) (level : ℕ) (outer : Seen) →
    AllGood w o hs level outer → (env : Env) → env.level ≡ level → (here exit first free n : ℕ) →
    Under env here → here < first → first + handler_count w outer hs ≤ free →
    Rising 3 env.columns n → (c : ℕ) → c < free → nat_eq c exit ≡ false → Beside c first
    (handler_count w outer hs) → (z : List Cell) → length z ≡ n → cell_at z 0 ≡ at c →
    let own = coded hs (columns_in w) (codes_of w outer) in
    (x : List Cell) × (run w o (ending own env exit first free n) z ≡ z ++ x)
    × (length (z ++ x) ≡ ending_width own n)
ending_off w o NoHandler level outer g env v here exit first free n u b f r c cf ce cb z l e =
    ([], sym (append-nil z), ap (λ (y : List Cell). length y) (append-nil z) ∙ l)
ending_off w o (MoreHandlers kind takes action others) level outer g env v here exit first free n u
    b f r c cf ce cb z l e =
    let hs = MoreHandlers kind takes action others in let own = coded hs (columns_in w)
    (codes_of w outer) in
    let h3 = rising_below 3 env.columns n r in
    let E = action_env env env.level (length env.columns) n in
    let x = cell_at z 2 ∷ [] in
    let stores : List Store = store 0 (word case_word
    (scope_arms its_own own first 2 (only (tag (env.exits env.level))))) ∷ [] in
    let actions = scope_actions whatever own E first free (suc n) in
    let long : length (z ++ x) ≡ suc n = length-append z x
    ∙ (let d : length z + 1 ≡ suc n = omega (arith, l) in d) in (
      x,
      ap (λ (y : List Cell). run w o (grow (only (col 2)) ∷ actions) y)
          (acts_off exit no_node n stores n w o z c l (omega arith) l e ce)
          ∙ scope_passes w o whatever (λ k. true) (picks_all w o) hs level outer g E here first free
          (suc n) (record { labels = u.labels; exits = u.exits; out = u.out; some = u.some }) b
          f
          (rising_take 3 (length env.columns) env.columns (suc n)
          (rising_more 3 env.columns n (suc n) r (omega arith))) c cf cb (z ++ x) long
          (front_at z x 0 (omega (arith, l)) ∙ e),
      long,
    )

-- the row that stands for an end, perhaps with one column more
pub record EndedRow (env : Env) (here n wide : ℕ) (q : List Cell) (e : End) (z : List Cell) : Type 0
  where
    pub long : length z ≡ wide
    pub code : cell_at z 0 ≡ at (place_of env here e.outcome)
    pub shows : cells_at z env.columns ≡ shown e.frame
    pub carries : Carries e.outcome z
    pub keeps : Keeps env.columns n q z

-- at one of the codes that lead on after the compound statement
abbrev pub EndedAt : Env → ℕ → ℕ → ℕ → ℕ → List Cell → End → List Cell → Type 0
EndedAt env runs k n wide q e z = (r : ℕ) × (runs ≤ r) × (r < runs + suc k) × EndedRow env r n wide
    q e z

-- a row that the steps leave as it was, but for a column more
off_row : (env : Env) (here n wide : ℕ) (q : List Cell) (e : End) (z y x : List Cell) → length z
    ≡ n → 3 ≤ n → Rising 3 env.columns n → y ≡ z ++ x → length (z ++ x) ≡ wide → cell_at z 0
    ≡ at (place_of env here e.outcome) → cells_at z env.columns ≡ shown e.frame →
    Carries e.outcome z → Keeps env.columns n q z → EndedRow env here n wide q e y
off_row env here n wide q e z y x l h r is lw c s ca k = record {
  long = ap (λ (t : List Cell). length t) is ∙ lw;
  code = ap (λ (t : List Cell). cell_at t 0) is ∙ (front_at z x 0 (omega (arith, l)) ∙ c);
  shows = ap (λ (t : List Cell). cells_at t env.columns) is
      ∙ (grown_cells 3 env.columns n z x r (omega (arith, l)) ∙ s);
  carries = carries_joined e.outcome z y (ap (λ (t : List Cell). cell_at t 1) is ∙ front_at z x 1
      (omega (arith, l))) (ap (λ (t : List Cell). cell_at t 2) is ∙ front_at z x 2
      (omega (arith, l))) ca;
  keeps = λ i lo hi p. ap (λ (t : List Cell). cell_at t i) is
      ∙ (front_at z x i (omega (arith, l)) ∙ k i lo hi p);
}

-- the choice at the end
Chooses : Inputs → Handlers → ℕ → Seen → ℕ → ℕ → Area → Doing → ℕ → Type 0
Chooses w hs level outer first away a d k =
    InHandlers (λ kind. true) hs first k (λ act. d ≡ does act w
    (in_action (scopes_of w outer) a level)) ⊎ ((d ≡ ends (Exiting level a)) × (k ≡ away))

chooses_all : (w : Inputs) (level : ℕ) (outer : Seen) (a : Area) (hs : Handlers) (i : ℕ)
    (P : Doing → ℕ → Type 0) →
    ((d : Doing) (k : ℕ) → InHandlers (λ kind. true) hs i k
    (λ act. d ≡ does act w (in_action (scopes_of w outer) a level)) → P d k) →
    AllSend w level outer its_own (λ h. h.action a) P hs i
chooses_all w level outer a NoHandler i P f = tt
chooses_all w level outer a (MoreHandlers kind takes action others) i P f = (
  f (does action w (in_action (scopes_of w outer) a level)) i (inl (refl, refl, refl)),
  chooses_all w level outer a others (suc i) P (λ d k m. f d k (inr m)),
)

-- where there are handlers, and the conditions are for these
exit_acts : (w : Inputs) (o : List (List Cell)) (kind : HandlerType) (takes : List ConditionValue)
    (action : Stmt) (others : Handlers) (outer : Seen) (env : Env) →
    let hs = MoreHandlers kind takes action others in
    AllGood w o hs env.level outer → (here sealing exit runs first free n : ℕ) → Numbers here
    sealing exit runs first free (handler_count w outer hs) → Under env runs → Rising 3 env.columns
    n →
    (a : Area) (f : Frame) (q z : List Cell) → length z ≡ n → cell_at z 0 ≡ at exit →
    cells_at z env.columns ≡ shown f → cell_at z 2 ≡ Cond a → Keeps env.columns n q z →
    EndedAt env runs (handler_count w outer hs) n (suc n) q
    (with_best (best_here (state_in a) (handlings hs w env.level (scopes_of w outer)))
    (λ h. h.action a) (ends (Exiting env.level a)) f)
    (run w o (ending (coded hs (columns_in w) (codes_of w outer)) env exit first free n) z)
exit_acts w o kind takes action others outer env good here sealing exit runs first free n num u r a
    f q z l c s ca keep =
    let hs = MoreHandlers kind takes action others in let own = coded hs (columns_in w)
    (codes_of w outer) in let level = env.level in let mo = handler_count w outer hs in
    let h3 = rising_below 3 env.columns n r in
    let n2 = num.first_is in let n5 = num.free_is in
    let E = action_env env level (length env.columns) n in
    let stores : List Store = store 0 (word case_word
    (scope_arms its_own own first 2 (only (tag (env.exits level))))) ∷ [] in
    let actions = scope_actions whatever own E first free (suc n) in
    let act : Handling → Doing = λ h. h.action a in
    let d : Doing = with_best (best_here (state_in a) (handlings hs w level (scopes_of w outer)))
    act (ends (Exiting level a)) in
    let Q : Doing → ℕ → Type 0 = λ x k.
    InHandlers (λ kind. true) hs first k (λ y. x ≡ does y w (in_action (scopes_of w outer) a level))
    ⊎ ((x ≡ ends (Exiting level a)) × (k ≡ env.exits level)) in
    let t : LeadsTo (Q d) (scope_arms its_own own first 2 (only (tag (env.exits level))))
    (sight w o z) =
    scope_leads w level outer its_own act Q hs first 2 (only (tag (env.exits level))) (sight w o z)
    a (ends (Exiting level a)) ca tt
    (chooses_all w level outer a hs first Q (λ x k m. inl m))
    (env.exits level, refl, inr (refl, refl)) in
    let k = t.0 in let y = slice_set_code z k in
    let is : stepped w o (acts exit no_node n stores n []) z ≡ slice_set_code z k = acts_on exit
    no_node n stores n w o z l (omega arith) l c ∙ ap (λ (x : Cell). slice_set z 0 x) t.1 in
    let ly : length y ≡ n = length-set z 0 (at k) ∙ l in
    let cy : cell_at y 0 ≡ at k = set_same z 0 (at k) (omega (arith, l)) in
    let sy : cells_at y env.columns ≡ shown f = cells_set_low 3 env.columns n 0 z (at k) r
    (omega arith) ∙ s in
    let ay : cell_at y 2 ≡ Cond a = set_other z 0 2 (at k) (lower_differs 0 2 (omega arith)) ∙ ca in
    let ky : Keeps env.columns n q y = λ i lo hi p. set_other z 0 i (at k)
    (lower_differs 0 i (omega arith)) ∙ keep i lo hi p in
    let yx = y ++ Cond a ∷ [] in
    let start : run w o (ending own env exit first free n) z ≡ run w o actions yx =
    ap (λ (x : List Cell). run w o (grow (only (col 2)) ∷ actions) x) is
    ∙ ap (λ (x : Cell). run w o actions (y ++ x ∷ [])) ay in
    let uE : Under E runs = record {
      labels = u.labels;
      exits = u.exits;
      out = u.out;
      some =
          u.some;
    } in
    let rE : Rising 3 E.columns (suc n) = rising_take 3 (length env.columns) env.columns (suc n)
    (rising_more 3 env.columns n (suc n) r (omega arith)) in
    let long : length yx ≡ suc n = length-append y (Cond a ∷ [])
    ∙ (let g : length y + 1 ≡ suc n = omega (arith, ly) in g) in
    let cyx : cell_at yx 0 ≡ at k = front_at y (Cond a ∷ []) 0 (omega (arith, ly)) ∙ cy in
    elim t.2 as (λ x. EndedAt env runs mo n (suc n) q (d f)
    (run w o (ending own env exit first free n) z)) [
      | inl m ↦
          let P : Stmt → Type 0 = λ x. d ≡ does x w (in_action (scopes_of w outer) a level) in
          let from = in_from (λ x. true) hs first k P m in let below = in_below w outer (λ x. true)
          hs first k P m in
          let st : Starts E (suc n) (Some a) (take (length env.columns) f) yx = start_action env
          level (length env.columns) n a f y ly h3 r sy in
          let A = scope_acts w o whatever (λ x. true) (picks_all w o) hs level outer good E runs
          first free (suc n) uE (omega (arith, n2)) (omega (arith, n5)) rE refl k P m a
          (take (length env.columns) f) yx st cyx in
          let inner = does A.action w (context w outer (suc level) (Some a)) f in
          let whole_f : take (length env.columns) f ≡ f = ap (λ (i : ℕ). take i f)
          (frame_long env.columns f z s) ∙ take_whole f in
          let L : Lands E k (suc n) yx inner (run w o actions yx) =
          subst (λ (g : Frame). Lands E k (suc n) yx
          (does A.action w (context w outer (suc level) (Some a)) g) (run w o actions yx)) whole_f
          A.lands in
          let same_end : d f ≡ inner = ap (λ (x : Doing). x f) A.is in
          let cols : take (length env.columns) env.columns ≡ env.columns =
          take_whole env.columns in (
            k,
            omega (arith, n2),
            omega (arith, n2),
            subst (λ (x : End). EndedRow env k n (suc n) q x
                (run w o (ending own env exit first free n) z)) (sym same_end)
                (subst (λ (x : List Cell). EndedRow env k n (suc n) q inner x) (sym start)
                (record {
                  long = L.long;
                  code = L.code ∙ ap at (same_place env level (length env.columns) n k
                      inner.outcome);
                  shows = ap (cells_at (run w o actions yx)) (sym cols) ∙ L.shows;
                  carries = L.carries;
                  keeps = λ i lo hi p. L.keeps i lo (omega arith)
                      (subst (λ (x : List ℕ). Apart x i) (sym cols) p)
                      ∙ (front_at y (Cond a ∷ []) i (omega (arith, ly)) ∙ ky i lo hi p);
                })),
          )
      | inr m ↦
          let away = u.exits level in
          let km = m.1 in
          let passed : run w o actions yx ≡ yx =
          scope_passes w o whatever (λ x. true) (picks_all w o) hs level outer good E runs first
          free (suc n) uE (omega (arith, n2)) (omega (arith, n5)) rE k (omega (arith, n2, n5, km))
          (inl (omega (arith, n2, km))) yx long cyx in (
            runs,
            omega arith,
            omega arith,
            subst (λ (x : End). EndedRow env runs n (suc n) q x
                (run w o (ending own env exit first free n) z)) (sym (ap (λ (x : Doing). x f) m.0))
                (off_row env runs n (suc n) q (record { outcome = Exiting level a; frame = f }) y
                (run w o (ending own env exit first free n) z) (Cond a ∷ []) ly h3 r
                (start ∙ passed) long (cy ∙ ap at km) sy ay ky),
          )
    ]
  where
    slice_set_code : List Cell → ℕ → List Cell
    slice_set_code z k = slice_set z 0 (at k)

    frame_long : (cs : List ℕ) (f : Frame) (z : List Cell) → cells_at z cs ≡ shown f → length cs
        ≡ length f
    frame_long cs f z h = sym (cells_at_long z cs)
        ∙ (ap (λ (x : List Cell). length x) h ∙ shown_long f)

    same_place : (env : Env) (level v n k : ℕ) (out : Outcome) → place_of (action_env env level v n)
        k out ≡ place_of env k out
    same_place env level v n k Next = refl
    same_place env level v n k (Leaving l) = refl
    same_place env level v n k (Returning x) = refl
    same_place env level v n k (Exiting l x) = refl
    same_place env level v n k (Raising x) = refl

-- ---- all ends

set_below : (f : ℕ → ℕ) (k to n m : ℕ) → f n < m → to < m → set_at f k to n < m
set_below f k to n m h g = elim (nat_eq n k) as (λ b. cond b to (f n) < m) [ true ↦ g | false ↦ h ]

out_below : (atomic : Bool) (sealing out here exit runs first free m : ℕ) → Numbers here sealing
    exit runs first free m → out < here →
    (out_in atomic sealing out < exit)
out_below true sealing out here exit runs first free m n h = let a = n.exit_is in omega (arith, a)
out_below false sealing out here exit runs first free m n h = let a = n.exit_is in let b =
    n.sealing_above in omega (arith, a, b)

pub ending_under : (atomic : Bool) (env : Env) (here sealing x : ℕ) → Under env here → here < x →
    sealing < x → Under (ending_env atomic env here sealing) x
ending_under atomic env here sealing x u h g = record {
  labels = λ l. set_below env.labels env.level here l x (let e = u.labels l in omega arith) h;
  exits = λ l. let e = u.exits l in omega arith;
  out = elim atomic as (λ b. out_in b sealing env.out < x)
      [ true ↦ g | false ↦ let e = u.out in omega arith ];
  some = omega arith;
}

-- what is neither an end for these handlers nor changed by them
quiet_row : (w : Inputs) (o : List (List Cell)) (hs : Handlers) (outer : Seen) (atomic : Bool)
    (env : Env) → AllGood w o hs env.level outer → (here sealing exit runs first free n : ℕ) →
    Numbers here sealing exit runs first free (handler_count w outer hs) → Under env here →
    Rising 3 env.columns n → (e : End) (q z : List Cell) → length z ≡ n →
    cell_at z 0 ≡ at (place_of (ending_env atomic env here sealing) runs e.outcome) →
    (place_of (ending_env atomic env here sealing) runs e.outcome < exit) ⊎
    (place_of (ending_env atomic env here sealing) runs e.outcome ≡ runs) →
    cells_at z env.columns ≡ shown e.frame → Carries e.outcome z → Keeps env.columns n q z →
    let own = coded hs (columns_in w) (codes_of w outer) in let N = ending_env atomic env here
    sealing in
    EndedAt N runs (handler_count w outer hs) n (ending_width own n) q e
    (run w o (ending own N exit first free n) z)
quiet_row w o hs outer atomic env good here sealing exit runs first free n num u r e q z l c low s
    ca keep =
    let own = coded hs (columns_in w) (codes_of w outer) in let N = ending_env atomic env here
    sealing in
    let n1 = num.sealing_above in let n2 = num.exit_is in let n3 = num.runs_is in let n4 =
    num.first_is in let n5 = num.free_is in
    let place = place_of N runs e.outcome in
    let bound : place ≤ runs = elim low as (λ x. place ≤ runs)
    [ inl a ↦ omega (arith, a, n3) | inr a ↦ omega (arith, a) ] in
    let other : nat_eq place exit ≡ false = elim low as (λ x. nat_eq place exit ≡ false) [
      | inl a ↦ lower_differs place exit a
      | inr a ↦ higher_differs place exit
          (omega (arith, a, n3))
    ] in
    let t = ending_off w o hs env.level outer good N refl runs exit first free n
    (ending_under atomic env here sealing runs u (omega (arith, n1, n2, n3))
    (omega (arith, n2, n3))) (omega (arith, n4)) (omega (arith, n5)) r
    place (omega (arith, n4, n5, bound)) other (inl (omega (arith, n4, bound))) z l c in (
      runs,
      omega arith,
      omega arith,
      off_row N runs n (ending_width own n) q e z
          (run w o (ending own N exit first free n) z) t.0 l (rising_below 3 env.columns n r) r t.1
          t.2 c
          s ca keep,
    )

exited_here : (level : ℕ) (hs : List Handling) (l : ℕ) (a : Area) (f : Frame) → nat_eq l level
    ≡ true →
    exited_or level hs (Exiting l a) f ≡ with_best (best_here (state_in a) hs) (λ h. h.action a)
    (ends (Exiting level a)) f
exited_here level hs l a f h = ap (λ (b : Bool). cond b
    (with_best (best_here (state_in a) hs) (λ h. h.action a) (ends (Exiting level a)))
    (ends (Exiting l a)) f) h

exited_away : (level : ℕ) (hs : List Handling) (l : ℕ) (a : Area) (f : Frame) → nat_eq l level
    ≡ false → exited_or level hs (Exiting l a) f ≡ record { outcome = Exiting l a; frame = f }
exited_away level hs l a f h = ap (λ (b : Bool). cond b
    (with_best (best_here (state_in a) hs) (λ h. h.action a) (ends (Exiting level a)))
    (ends (Exiting l a)) f) h

pub ending_lands : (w : Inputs) (o : List (List Cell)) (hs : Handlers) (outer : Seen)
    (atomic : Bool) (env : Env) → AllGood w o hs env.level outer →
    (here sealing exit runs first free n : ℕ) →
    Numbers here sealing exit runs first free (handler_count w outer hs) → Under env here →
    Rising 3 env.columns n → (out : Outcome) (f : Frame) (q z : List Cell) →
    let own = coded hs (columns_in w) (codes_of w outer) in let N = ending_env atomic env here
    sealing in
    Lands (inside atomic own env here exit sealing) runs n q (record { outcome = out; frame = f })
    z →
    EndedAt N runs (handler_count w outer hs) n (ending_width own n) q
    (exited_or env.level (handlings hs w env.level (scopes_of w outer)) out f)
    (run w o (ending own N exit first free n) z)
ending_lands w o hs outer atomic env good here sealing exit runs first free n num u r Next f q z l =
    quiet_row w o hs outer atomic env good here sealing exit runs first free n num u r
    (record { outcome = Next; frame = f }) q z l.long l.code (inr refl) l.shows l.carries
    l.keeps
ending_lands w o hs outer atomic env good here sealing exit runs first free n num u r (Leaving k) f
    q z l =
    let n1 = num.sealing_above in let n2 = num.exit_is in
    quiet_row w o hs outer atomic env good here sealing exit runs first free n num u r
    (record { outcome = Leaving k; frame = f }) q z l.long l.code
    (inl (set_below env.labels env.level here k exit (let e = u.labels k in omega (arith, n1, n2))
    (omega (arith, n1, n2)))) l.shows l.carries l.keeps
ending_lands w o hs outer atomic env good here sealing exit runs first free n num u r (Returning v)
    f q z l =
    let n2 = num.exit_is in
    quiet_row w o hs outer atomic env good here sealing exit runs first free n num u r
    (record { outcome = Returning v; frame = f }) q z l.long l.code (inl (omega (arith, n2)))
    l.shows l.carries l.keeps
ending_lands w o hs outer atomic env good here sealing exit runs first free n num u r (Raising a) f
    q z l =
    quiet_row w o hs outer atomic env good here sealing exit runs first free n num u r
    (record { outcome = Raising a; frame = f }) q z l.long l.code
    (inl (out_below atomic sealing env.out here exit runs first free (handler_count w outer hs) num
    u.out)) l.shows l.carries l.keeps
ending_lands w o NoHandler outer atomic env good here sealing exit runs first free n num u r
    (Exiting k a) f q z l =
    let n1 = num.sealing_above in let n2 = num.exit_is in
    let N = ending_env atomic env here sealing in
    elim (eqb_tells k env.level) as (λ x. EndedAt N runs 0 n n q
    (exited_or env.level [] (Exiting k a) f) z) [
      | inl h ↦
          subst (λ (e : End). EndedAt N runs 0 n n q e z) (sym (exited_here env.level [] k a f h.0))
          (quiet_row w o NoHandler outer atomic env good here sealing exit runs first free n num u r
          (record { outcome = Exiting env.level a; frame = f }) q z l.long
          (l.code ∙ ap (λ (i : ℕ). at (env.exits i)) h.1)
          (inl (let e = u.exits env.level in omega (arith, n1, n2))) l.shows l.carries l.keeps)
      | inr h ↦
          subst (λ (e : End). EndedAt N runs 0 n n q e z) (sym (exited_away env.level [] k a f h.0))
          (quiet_row w o NoHandler outer atomic env good here sealing exit runs first free n num u r
          (record { outcome = Exiting k a; frame = f }) q z l.long l.code
          (inl (let e = u.exits k in omega (arith, n1, n2))) l.shows l.carries l.keeps)
    ]
ending_lands w o (MoreHandlers kind takes action others) outer atomic env good here sealing exit
    runs first free n num u r (Exiting k a) f q z l =
    let hs = MoreHandlers kind takes action others in let own = coded hs (columns_in w)
    (codes_of w outer) in let mo = handler_count w outer hs in
    let n1 = num.sealing_above in let n2 = num.exit_is in let n3 = num.runs_is in
    let N = ending_env atomic env here sealing in let hd = handlings hs w env.level
    (scopes_of w outer) in
    elim (eqb_tells k env.level) as (λ x. EndedAt N runs mo n (suc n) q
    (exited_or env.level hd (Exiting k a) f) (run w o (ending own N exit first free n) z)) [
      | inl h ↦
          subst (λ (e : End). EndedAt N runs mo n (suc n) q e
          (run w o (ending own N exit first free n) z)) (sym (exited_here env.level hd k a f h.0))
          (exit_acts w o kind takes action others outer N good here sealing exit runs first free n
          num (ending_under atomic env here sealing runs u (omega (arith, n1, n2, n3))
          (omega (arith, n2, n3))) r a f q z l.long
          (l.code ∙ ap (λ (b : Bool). at (cond b exit (env.exits k))) h.0) l.shows l.carries
          l.keeps)
      | inr h ↦
          subst (λ (e : End). EndedAt N runs mo n (suc n) q e
          (run w o (ending own N exit first free n) z)) (sym (exited_away env.level hd k a f h.0))
          (quiet_row w o hs outer atomic env good here sealing exit runs first free n num u r
          (record { outcome = Exiting k a; frame = f }) q z l.long
          (l.code ∙ ap (λ (b : Bool). at (cond b exit (env.exits k))) h.0)
          (inl (let e = u.exits k in omega (arith, n1, n2))) l.shows l.carries l.keeps)
    ]
