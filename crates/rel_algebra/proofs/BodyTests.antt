-- IF and CASE.
use Rattle.std.proofs.Common.{◌≡◌, ℕ, suc, ◌+◌, ◌<◌, ◌≤◌, Bool, true, false, cond, nat_eq, List, []}
use Rattle.std.proofs.Common.{◌∷◌, ◌++◌, length, Option, Some, None, Ok, Err, refl, sym, ap, ◌∙◌}
use Rattle.std.proofs.Common.{subst, arith, inl, inr, ◌⊎◌, length-append}
use Rattle.std.proofs.lemmas.List.{length-set}
use Rattle.sql_values.specs.declared.value.Value.{Value}
use Rattle.sql_values.specs.declared.operators.Comparison.TheVariants.{Equals}
use Rattle.sql_values.specs.Values.{is_true}
use Rattle.sql_conditions.specs.Conditions.{Area}
use Rattle.row_types.specs.declared.cell.Cell.{Cell}
use Rattle.row_types.specs.declared.cell.Cell.TheVariants.{Val, Cond}
use Rattle.rel_algebra.specs.Tree.{Comparing}
use Rattle.rel_algebra.specs.Endings.{Ending, cell_end, after, op_value, equal_values}
use Rattle.rel_algebra.specs.Emissions.{Emitted, width}
use Rattle.rel_algebra.specs.Joins.{places}
use Rattle.rel_algebra.specs.Scopes.{Inputs, columns_in}
use Rattle.rel_algebra.specs.Plan.{no_node, Sight, sight, added, cell_at, cells_at, cell_of}
use Rattle.rel_algebra.specs.Plan.{case_cell, shown, strictly}
use Rattle.rel_algebra.specs.States.{case_not_found}
use Rattle.rel_algebra.proofs.Growing.{Grows, grows_at, grows_same}
use Rattle.rel_algebra.proofs.Nodes.{added_grows}
use Rattle.rel_algebra.specs.Leaves.{ValueLeaf}
use Rattle.rel_algebra.proofs.BodyHeld.{ValueRight}
use Rattle.rel_algebra.specs.BodyDoing.{Frame, Outcome, Next, Leaving, Returning, Exiting, Raising}
use Rattle.rel_algebra.specs.BodyDoing.{End, Doing}
use Rattle.rel_algebra.specs.BodyHandlers.{Scopes, raising, with_end, with_value}
use Rattle.rel_algebra.specs.BodyMeaning.{value_in, choose}
use Rattle.rel_algebra.specs.BodySteps.{Step, stepped, run, col, tag, case_of, jump}
use Rattle.rel_algebra.specs.BodyDispatch.{Env, Emit, count, judging, raising_to, area_in, handled}
use Rattle.rel_algebra.specs.BodyChain.{Rest, emitted, with_column, and_on, branching, not_found}
use Rattle.rel_algebra.specs.BodyChain.{case_not_found_cell, tested, equal_to}
use Rattle.rel_algebra.proofs.BodyBase.{at, both, lower_differs, higher_differs, set_same}
use Rattle.rel_algebra.proofs.BodyBase.{set_other, Rising, rising_below, Apart, Keeps, kept_rest}
use Rattle.rel_algebra.proofs.BodyBase.{cells_set_low, cells_at_long, front_at, grown_cells}
use Rattle.rel_algebra.proofs.BodyRows.{run_append, puts, acts_off, acts_on, jump_off, jump_on}
use Rattle.rel_algebra.proofs.BodyLands.{place_of, Carries, Lands, Under, under_more, Ready, Holds}
use Rattle.rel_algebra.proofs.BodyLands.{holds_kept, Starts, Sim, place_low, lands_same, lands_from}
use Rattle.rel_algebra.proofs.BodyLands.{keeps_trans, Seen, scopes_of, codes_of, Good}
use Rattle.rel_algebra.proofs.BodyHandled.{Sent, Rests, handled_passes, handled_lands, places_cell}
use Rattle.rel_algebra.proofs.BodyHandled.{places_count, sends_bound}
use Rattle.rel_algebra.proofs.BodyJudged.{expr_yields, column_wide, column_cell, marked, marks}
use Rattle.rel_algebra.proofs.BodyJudged.{judged_area, judged_value, marked_sent, raise_sent}

-- ---- rests

pub sent_from : (w : Inputs) (env : Env) (here : ℕ) (seen : Seen) (base n : ℕ) (q y : List Cell)
    (e : End) (z : List Cell) → Keeps env.columns n q y → Sent w env here seen base n y e z →
    Sent w env here seen base n q e z
sent_from w env here seen base n q y e z k s = record {
  area = s.area;
  frame = s.frame;
  to = s.to;
  sends = s.sends;
  long = s.long;
  code = s.code;
  shows = s.shows;
  holds = s.holds;
  keeps = keeps_trans env.columns n q y z k s.keeps;
}

pub rests_from : (w : Inputs) (env : Env) (here : ℕ) (seen : Seen) (base n : ℕ) (q y : List Cell)
    (e : End) (z : List Cell) → Keeps env.columns n q y → Rests w env here seen base n y e z →
    Rests w env here seen base n q e z
rests_from w env here seen base n q y e z k r = elim r as
    (λ x. Rests w env here seen base n q e z) [
      | inl l ↦ inl (lands_from env here n q y e z k l)
      | inr s ↦ inr (sent_from w env here seen base n q y e z k s)
    ]

pub rests_same : (w : Inputs) (env : Env) (here : ℕ) (seen : Seen) (base n : ℕ) (q : List Cell)
    (e : End) (y z : List Cell) → z ≡ y → Rests w env here seen base n q e y → Rests w env here seen
    base n q e z
rests_same w env here seen base n q e y z h r =
    subst (λ (x : List Cell). Rests w env here seen base n q e x) (sym h) r

-- the row of a rest is at here or below, or at a code of a handler in sight
pub rests_code : (w : Inputs) (env : Env) (here : ℕ) → Under env here → (seen : Seen) (base n : ℕ)
    (q : List Cell) (e : End) (z : List Cell) → Rests w env here seen base n q e z →
    (k : ℕ) × (cell_at z 0 ≡ at k) × ((k ≤ here) ⊎
    ((base ≤ k) × (k < base + count (codes_of w seen)))) × (length z ≡ n)
rests_code w env here u seen base n q e z r =
    elim r as (λ x. (k : ℕ) × (cell_at z 0 ≡ at k)
    × ((k ≤ here) ⊎ ((base ≤ k) × (k < base + count (codes_of w seen)))) × (length z ≡ n)) [
      | inl l ↦ (place_of env here e.outcome, l.code, inl (place_low env here u e.outcome), l.long)
      | inr s ↦ (
        s.to,
        s.code,
        sends_bound w env here u seen base s.area s.frame e s.to s.sends,
        s.long,
      )
    ]

-- steps that leave rows at such codes
abbrev pub Leaves : Inputs → List (List Cell) → ℕ → ℕ → ℕ → ℕ → List Step → Type 0
Leaves w o here base m n ss = (k : ℕ) → ((k ≤ here) ⊎ ((base ≤ k) × (k < base + m))) →
    (z : List Cell) → length z ≡ n → cell_at z 0 ≡ at k → run w o ss z ≡ z

pub rests_pass : (w : Inputs) (o : List (List Cell)) (env : Env) (here : ℕ) → Under env here →
    (seen : Seen) (base n : ℕ) (q : List Cell) (e : End) (z : List Cell) (ss : List Step) →
    Leaves w o here base (count (codes_of w seen)) n ss → Rests w env here seen base n q e z →
    Rests w env here seen base n q e (run w o ss z)
rests_pass w o env here u seen base n q e z ss leaves r =
    let c = rests_code w env here u seen base n q e z r in
    rests_same w env here seen base n q e z (run w o ss z) (leaves c.0 c.2 z c.3 c.1) r

-- ---- the hypothesis for tests: what they raise is sent

-- the codes that such steps use lie apart, and the columns rise
pub record ReadyRest (w : Inputs) (seen : Seen) (env : Env) (from here base free n : ℕ) : Type 0
  where
    pub under : Under env here
    pub before : here < base
    pub counted : base + count (codes_of w seen) ≤ free
    pub above : here ≤ from
    pub below : from < free
    pub beside : (from ≡ here) ⊎ (base + count (codes_of w seen) ≤ from)
    pub rising : Rising 3 env.columns n

-- what is known of a row, and stays so
abbrev pub Knowing : Type 1
Knowing = List ℕ → ℕ → List Cell → Type 0

-- what is known stays so where a row keeps its columns
abbrev pub Stays : Knowing → Type 0
Stays K = (cs : List ℕ) (n : ℕ) (q z : List Cell) → K cs n q → Keeps cs n q z → K cs n z

-- rows at other codes pass, and a row that starts there comes to rest
pub record Half (w : Inputs) (o : List (List Cell)) (seen : Seen) (level : ℕ) (K : Knowing)
    (rest : Rest) (d : Option Area → Doing) : Type 0 where
  pub passes : (env : Env) (from here base free n : ℕ) → ReadyRest w seen env from here base free
      n → (k : ℕ) → k < free → nat_eq k from ≡ false → (q : List Cell) → length q ≡ n →
      cell_at q 0 ≡ at k → run w o (rest env from here base free n) q ≡ q
  pub lands : (env : Env) (from here base free n : ℕ) → ReadyRest w seen env from here base free n →
      env.level ≡ level → (st : Option Area) (f : Frame) (q : List Cell) →
      Starts env n st f q → K env.columns n q → cell_at q 0 ≡ at from → Rests w env here seen base n
      q (d st f) (run w o (rest env from here base free n) q)

ready_from : (w : Inputs) (seen : Seen) (env : Env) (from here base free n : ℕ) → ReadyRest w seen
    env from here base free n → Ready env from free n
ready_from w seen env from here base free n r =
    record { under = under_more env here from r.under r.above; before = r.below; rising = r.rising }

-- after an arm: on at here
pub back : (w : Inputs) (o : List (List Cell)) (env : Env) (from here n : ℕ) → Under env here →
    here ≤ from → Rising 3 env.columns n → (out : Outcome) (f : Frame) (q z : List Cell) →
    Lands env from n q (record { outcome = out; frame = f }) z → Lands env here n q
    (record { outcome = out; frame = f }) (stepped w o (jump from here n) z)
back w o env from here n u h r Next f q z l =
    let h3 = rising_below 3 env.columns n r in
    lands_same env here n q _ _ _ (jump_on from here n w o z l.long (omega arith) l.code) (record {
      long = length-set z 0 (at here) ∙ l.long;
      code = set_same z 0 (at here) (let e = l.long in omega (arith, e));
      shows = cells_set_low 3 env.columns n 0 z (at here) r (omega arith) ∙ l.shows;
      carries = tt;
      keeps = λ i lo hi p. set_other z 0 i (at here) (lower_differs 0 i (omega arith)) ∙ l.keeps i
          lo hi p;
    })
back w o env from here n u h r (Leaving k) f q z l =
    let h3 = rising_below 3 env.columns n r in let e = u.labels k in
    lands_same env here n q _ z _ (jump_off from here n w o z (env.labels k) l.long (omega arith)
    l.code (lower_differs _ _ (omega arith)))
    (record { long = l.long; code = l.code; shows = l.shows; carries = l.carries; keeps = l.keeps })
back w o env from here n u h r (Returning v) f q z l =
    let h3 = rising_below 3 env.columns n r in let e = u.some in
    lands_same env here n q _ z _ (jump_off from here n w o z 0 l.long (omega arith) l.code
    (lower_differs _ _ (omega arith)))
    (record { long = l.long; code = l.code; shows = l.shows; carries = l.carries; keeps = l.keeps })
back w o env from here n u h r (Exiting k a) f q z l =
    let h3 = rising_below 3 env.columns n r in let e = u.exits k in
    lands_same env here n q _ z _ (jump_off from here n w o z (env.exits k) l.long (omega arith)
    l.code (lower_differs _ _ (omega arith)))
    (record { long = l.long; code = l.code; shows = l.shows; carries = l.carries; keeps = l.keeps })
back w o env from here n u h r (Raising a) f q z l =
    let h3 = rising_below 3 env.columns n r in let e = u.out in
    lands_same env here n q _ z _ (jump_off from here n w o z env.out l.long (omega arith) l.code
    (lower_differs _ _ (omega arith)))
    (record { long = l.long; code = l.code; shows = l.shows; carries = l.carries; keeps = l.keeps })

-- ---- statements, and then on at here

pub and_on_half : (w : Inputs) (o : List (List Cell)) (seen : Seen) (level : ℕ) (K : Knowing)
    (body : Emit) (d : Option Area → Doing) → Sim w o level body d → Half w o seen level K
    (and_on body) d
and_on_half w o seen level K body d s = record {
  passes = λ env from here base free n r k u x q l c.
      let h3 = rising_below 3 env.columns n r.rising in
      run_append w o (body env from free n) (jump from here n ∷ []) q
      ∙ (ap (stepped w o (jump from here n)) (s.passes env from free n
      (ready_from w seen env from here base free n r) k u x q l c)
      ∙ jump_off from here n w o q k l (omega arith) c x);
  lands = λ env from here base free n r v st f q z g c.
      let e = d st f in let y = run w o (body env from free n) q in
      rests_same w env here seen base n q e (stepped w o (jump from here n) y) _
      (run_append w o (body env from free n) (jump from here n ∷ []) q)
      (inl (back w o env from here n r.under r.above r.rising e.outcome e.frame q y
      (s.lands env from free n (ready_from w seen env from here base free n r) v st f q z c)));
}

-- ---- CASE without ELSE

pub not_found_half : (w : Inputs) (o : List (List Cell)) (seen : Seen) (level : ℕ) (K : Knowing) →
    Half w o seen level K (not_found (codes_of w seen))
    (λ st. raising (scopes_of w seen) case_not_found)
not_found_half w o seen level K = record {
  passes = λ env from here base free n r k u x q l c.
      let h3 = rising_below 3 env.columns n r.rising in
      acts_off from (with_column no_node case_not_found_cell) (suc n)
      (raising_to (codes_of w seen) env base here n) n w o q k l (omega arith)
      (column_wide no_node case_not_found_cell w o q n l) c x;
  lands = λ env from here base free n r v st f q z g c.
      inr (raise_sent w o seen env from here base n r.rising
      (with_column no_node case_not_found_cell) n f (raising (scopes_of w seen) case_not_found f) q
      z.long z.shows
      (column_wide no_node case_not_found_cell w o q n z.long) c case_not_found
      (column_cell no_node case_not_found_cell w o q n z.long) refl);
}

-- ---- a test, what it chooses, and the rest

branch_cell : (t p : ℕ) (a b : ℕ) (s : Sight) (v : Value) → cell_of (col p) s ≡ Val v →
    cell_of (case_of (col p) (tag a) (tag b)) s ≡ at (cond (is_true v) a b)
branch_cell t p a b s v h = ap (λ (c : Cell). case_cell (c ∷ at a ∷ at b ∷ [])) h ∙ picked
    (is_true v)
  where
    picked : (x : Bool) → cond x (at a) (at b) ≡ at (cond x a b)
    picked true = refl
    picked false = refl

-- a row that is marked, as one to start on
pub marked_starts : (env : Env) (n : ℕ) (st : Option Area) (f : Frame) (q : List Cell) (k : ℕ)
    (c : Cell) → Rising 3 env.columns n → Starts env n st f q → Starts env n st f (marked q k c)
marked_starts env n st f q k c r s =
    let m = marks q n k c s.long (rising_below 3 env.columns n r) in
    record {
      long = m.long;
      shows = m.shows env.columns r ∙ s.shows;
      holds = holds_kept env.stacked st env.columns n q (marked q k c) s.holds
          (λ i lo hi p. m.others i lo);
    }

choose_doing : (b : Bool) (P : Doing → Type 0) (x y : Doing) → (b ≡ true → P x) →
    (b ≡ false → P y) → P (cond b x y)
choose_doing true P x y p q = p refl
choose_doing false P x y p q = q refl

pub branching_half : (w : Inputs) (o : List (List Cell)) (seen : Seen) (level : ℕ) (K : Knowing) →
    Stays K → (test : Env → ℕ → Emitted) (E : Frame → Ending Value) (body : Emit) (rest : Rest)
    (db dr : Option Area → Doing) →
    ((env : Env) (n : ℕ) (f : Frame) (q : List Cell) → Rising 3 env.columns n → length q ≡ n →
    cells_at q env.columns ≡ shown f → K env.columns n q →
    cell_of (test env n).scalar (sight w o (added (test env n).nodes w o q)) ≡ cell_end (E f)) →
    Sim w o level body db → Half w o seen level K rest dr →
    Half w o seen level K (branching test (codes_of w seen) body rest)
    (λ st. with_value (scopes_of w seen) E (λ v. choose v (db st) (dr st)))
branching_half w o seen level K stays test E body rest db dr yields sb hr = record {
  passes = λ env from here base free n r k u x q l c.
      let h3 = rising_below 3 env.columns n r.rising in
      let a = test env n in
      ap (run w o (body env free (suc (suc free)) n ++ jump free here n ∷ rest env (suc free) here
      base (suc (suc free)) n))
      (acts_off from (with_column a.nodes a.scalar) (suc (width a.nodes n))
      (judging (case_of (col (width a.nodes n)) (tag free) (tag (suc free))) (codes_of w seen) env
      base here (width a.nodes n) []) n w o q k l (omega arith)
      (column_wide a.nodes a.scalar w o q n l) c x)
      ∙ arms_pass env from here base free n r k (omega arith) (lower_differs k free u)
      (lower_differs k (suc free) (omega arith)) q l c;
  lands = λ env from here base free n r v st f q s g c.
      let h3 = rising_below 3 env.columns n r.rising in
      let a = test env n in let p = width a.nodes n in let pre = with_column a.nodes a.scalar in
      let z = added pre w o q in
      let arms = body env free (suc (suc free)) n ++ jump free here n ∷ rest env (suc free) here
      base (suc (suc free)) n in
      let stores = judging (case_of (col p) (tag free) (tag (suc free))) (codes_of w seen) env base
      here p [] in
      rests_same w env here seen base n q _ _ _
      (ap (run w o arms) (acts_on from pre (suc p) stores n w o q s.long (omega arith)
      (column_wide a.nodes a.scalar w o q n s.long) c))
      (judged env from here base free n r v st f q s g z (added_grows pre w o q) (E f)
      (column_cell a.nodes a.scalar w o q n s.long ∙ yields env n f q r.rising s.long s.shows g));
}
  where
    arms_pass : (env : Env) (from here base free n : ℕ) → ReadyRest w seen env from here base free
        n → (k : ℕ) → k < suc (suc free) → nat_eq k free ≡ false → nat_eq k (suc free) ≡ false →
        (q : List Cell) → length q ≡ n →
        cell_at q 0 ≡ at k → run w o (body env free (suc (suc free)) n ++ jump free here n
        ∷ rest env (suc free) here base (suc (suc free)) n) q ≡ q
    arms_pass env from here base free n r k u x y q l c =
        let h3 = rising_below 3 env.columns n r.rising in
        run_append w o (body env free (suc (suc free)) n)
        (jump free here n ∷ rest env (suc free) here base (suc (suc free)) n) q
        ∙ (ap (run w o (jump free here n ∷ rest env (suc free) here base (suc (suc free)) n))
        (sb.passes env free (suc (suc free)) n (ready_body env from here base free n r) k u x q l c)
        ∙ (ap (run w o (rest env (suc free) here base (suc (suc free)) n))
        (jump_off free here n w o q k l (omega arith) c x)
        ∙ hr.passes env (suc free) here base (suc (suc free)) n
        (ready_rest env from here base free n r) k u y q l c))
      where
        ready_body : (env : Env) (from here base free n : ℕ) → ReadyRest w seen env from here base
            free n → Ready env free (suc (suc free)) n
        ready_body env from here base free n r =
            let b = r.before in let t = r.counted in
            record {
              under = under_more env here free r.under (omega arith);
              before =
                  omega arith;
              rising = r.rising;
            }

        ready_rest : (env : Env) (from here base free n : ℕ) → ReadyRest w seen env from here base
            free n → ReadyRest w seen env (suc free) here base (suc (suc free)) n
        ready_rest env from here base free n r =
            let b = r.before in let t = r.counted in
            record {
              under = r.under;
              before = r.before;
              counted = omega arith;
              above = omega arith;
              below = omega arith;
              beside = inr (omega arith);
              rising = r.rising;
            }

    judged : (env : Env) (from here base free n : ℕ) → ReadyRest w seen env from here base free n →
        env.level ≡ level → (st : Option Area) (f : Frame) (q : List Cell) → Starts env n st f q →
        K env.columns n q →
        (z : List Cell) → Grows q z → (D : Ending Value) → let p = width (test env n).nodes n in
        cell_at z p ≡ cell_end D →
        Rests w env here seen base n q (with_end (scopes_of w seen) D f
        (λ v. choose v (db st) (dr st)))
        (run w o (body env free (suc (suc free)) n ++ jump free here n ∷ rest env (suc free) here
        base (suc (suc free)) n)
        (puts (judging (case_of (col p) (tag free) (tag (suc free))) (codes_of w seen) env base here
        p []) (sight w o z) q))
    judged env from here base free n r v st f q s g z gz (Err a) h =
        let p = width (test env n).nodes n in
        let arms = body env free (suc (suc free)) n ++ jump free here n ∷ rest env (suc free) here
        base (suc (suc free)) n in
        let t = judged_area w o seen (case_of (col p) (tag free) (tag (suc free))) env base here p
        [] q gz.0 z a f gz.1 h tt in
        let sent = marked_sent w env here seen base n q a f (raising (scopes_of w seen) a f) t.0
        s.long r.rising s.shows t.2 in
        rests_same w env here seen base n q _ _ _ (ap (run w o arms) t.1)
        (rests_pass w o env here r.under seen base n q _ (marked q t.0 (Cond a)) arms
        (λ k b y l c. let bf = r.before in let ct = r.counted in
        let low : k < free = elim b as (λ x. k < free)
        [ inl j ↦ omega arith | inr j ↦ let j0 = j.0 in let j1 = j.1 in omega arith ] in
        arms_pass env from here base free n r k (omega arith) (lower_differs k free low)
        (lower_differs k (suc free) (omega arith)) y l c) (inr sent))
    judged env from here base free n r v st f q s g z gz (Ok x) h =
        let p = width (test env n).nodes n in let goes = case_of (col p) (tag free)
        (tag (suc free)) in
        let tail = rest env (suc free) here base (suc (suc free)) n in
        let arms = body env free (suc (suc free)) n ++ jump free here n ∷ tail in
        let ca = cell_of (area_in p) (sight w o z) in
        let bf = r.before in let ct = r.counted in
        let h3 = rising_below 3 env.columns n r.rising in
        let P : Doing → Type 0 = λ d. Rests w env here seen base n q (d f)
        (run w o arms (puts (judging goes (codes_of w seen) env base here p []) (sight w o z)
        q)) in
        choose_doing (is_true x) P (db st) (dr st)
        (λ yes_.
        let is = judged_value w o seen goes env base here p [] q z x free h
        (branch_cell p p free (suc free) (sight w o z) x h
        ∙ ap (λ b. at (cond b free (suc free))) yes_) in
        let y = marked q free ca in let m = marks q n free ca s.long h3 in
        let ready : Ready env free (suc (suc free)) n =
        record {
          under = under_more env here free r.under (omega arith);
          before = omega arith;
          rising = r.rising;
        } in
        let l = sb.lands env free (suc (suc free)) n ready v st f y
        (marked_starts env n st f q free ca r.rising s) m.code in
        let e = db st f in
        let y1 = run w o (body env free (suc (suc free)) n) y in
        let b = back w o env free here n r.under (omega arith) r.rising e.outcome e.frame y y1 l in
        let rr : ReadyRest w seen env (suc free) here base (suc (suc free)) n =
        record {
          under = r.under;
          before = r.before;
          counted = omega arith;
          above = omega arith;
          below = omega arith;
          beside = inr (omega arith);
          rising = r.rising;
        } in
        let low = place_low env here r.under e.outcome in
        rests_same w env here seen base n q e (stepped w o (jump free here n) y1) _
        (ap (run w o arms) is ∙ (run_append w o (body env free (suc (suc free)) n)
        (jump free here n ∷ tail) y
        ∙ hr.passes env (suc free) here base (suc (suc free)) n rr (place_of env here e.outcome)
        (omega arith) (lower_differs _ _ (omega arith)) (stepped w o (jump free here n) y1) b.long
        b.code))
        (inl (lands_from env here n q y e _ (λ i lo hi pp. m.others i lo) b)))
        (λ not_.
        let is = judged_value w o seen goes env base here p [] q z x (suc free) h
        (branch_cell p p free (suc free) (sight w o z) x h
        ∙ ap (λ b. at (cond b free (suc free))) not_) in
        let y = marked q (suc free) ca in let m = marks q n (suc free) ca s.long h3 in
        let ready : Ready env free (suc (suc free)) n =
        record {
          under = under_more env here free r.under (omega arith);
          before = omega arith;
          rising = r.rising;
        } in
        let rr : ReadyRest w seen env (suc free) here base (suc (suc free)) n =
        record {
          under = r.under;
          before = r.before;
          counted = omega arith;
          above = omega arith;
          below = omega arith;
          beside = inr (omega arith);
          rising = r.rising;
        } in
        let off = higher_differs (suc free) free (omega arith) in
        rests_same w env here seen base n q (dr st f) (run w o tail y) _
        (ap (run w o arms) is ∙ (run_append w o (body env free (suc (suc free)) n)
        (jump free here n ∷ tail) y
        ∙ ap (run w o (jump free here n ∷ tail))
        (sb.passes env free (suc (suc free)) n ready (suc free) (omega arith) off y m.long m.code)
        ∙ ap (run w o tail) (jump_off free here n w o y (suc free) m.long (omega arith) m.code
        off)))
        (rests_from w env here seen base n q y (dr st f) _ (λ i lo hi pp. m.others i lo)
        (hr.lands env (suc free) here base (suc (suc free)) n rr v st f y
        (marked_starts env n st f q (suc free) ca r.rising s)
        (stays env.columns n q y g (λ i lo hi pp. m.others i lo)) m.code)))

-- ---- the whole

-- nothing is known
abbrev pub nothing_known : Knowing
nothing_known cs n q = Unit {0}

pub tested_sim : (w : Inputs) (o : List (List Cell)) (seen : Seen) → Good w o seen →
    (level : ℕ) (rest : Rest) (d : Option Area → Doing) → Half w o seen level nothing_known rest d →
    Sim w o level (tested (codes_of w seen) rest) d
tested_sim w o seen good level rest d h = record {
  passes = λ env here next n r k u x q l c.
      let free = next + count (codes_of w seen) in let h3 = rising_below 3 env.columns n r.rising in
      let b = r.before in
      run_append w o (rest env here here next free n)
      (handled (codes_of w seen) env here next free n) q
      ∙ (ap (run w o (handled (codes_of w seen) env here next free n))
      (h.passes env here here next free n (start env here next n r) k (omega arith) x q l c)
      ∙ handled_passes w o seen good env here next free n r.under r.before (omega arith) r.rising k
      (omega arith) (inl u) q l h3 c);
  lands = λ env here next n r v st f q s c.
      let free = next + count (codes_of w seen) in let h3 = rising_below 3 env.columns n r.rising in
      lands_same env here n q (d st f) _ _ (run_append w o (rest env here here next free n)
      (handled (codes_of w seen) env here next free n) q)
      (handled_lands w o seen good env here next free n r.under r.before (omega arith) r.rising h3 q
      (d st f) _
      (h.lands env here here next free n (start env here next n r) v st f q s tt c));
}
  where
    start : (env : Env) (here next n : ℕ) → Ready env here next n → ReadyRest w seen env here here
        next (next + count (codes_of w seen)) n
    start env here next n r = let b = r.before in record {
      under = r.under;
      before = r.before;
      counted = omega arith;
      above = omega arith;
      below = omega arith;
      beside = inl refl;
      rising = r.rising;
    }

-- ---- the first columns of a wider row

-- a row that has the first n columns of another
pub record Front (z : List Cell) (n : ℕ) (y : List Cell) : Type 0 where
  pub long : length y ≡ n
  pub same : (i : ℕ) → i < n → cell_at y i ≡ cell_at z i

pub front_row : (z : List Cell) (n : ℕ) → Front z n (cells_at z (places 0 n))
front_row z n = record {
  long = cells_at_long z (places 0 n) ∙ places_count 0 n;
  same = λ i h. places_cell z 0 n i h ∙ ap (cell_at z) (let e : 0 + i ≡ i = omega arith in e);
}

pub front_shows : (z : List Cell) (n : ℕ) (y : List Cell) (cs : List ℕ) → Front z n y →
    Rising 3 cs n → cells_at y cs ≡ cells_at z cs
front_shows z n y cs h r = kept_rest 0 cs n z y r (λ i lo hi p. h.same i hi)

carries_front : (o : Outcome) (z y : List Cell) → cell_at y 1 ≡ cell_at z 1 → cell_at y 2 ≡ cell_at
    z 2 → Carries o z → Carries o y
carries_front Next z y a b h = tt
carries_front (Leaving l) z y a b h = tt
carries_front (Returning v) z y a b h = a ∙ h
carries_front (Exiting l x) z y a b h = b ∙ h
carries_front (Raising x) z y a b h = b ∙ h

pub lands_front : (env : Env) (here n m : ℕ) (q x : List Cell) (e : End) (z y : List Cell) → n ≤ m →
    Rising 3 env.columns n → Front z n y → Keeps env.columns n q x → Lands env here m x e z →
    Lands env here n q e y
lands_front env here n m q x e z y h r fr k l =
    let h3 = rising_below 3 env.columns n r in
    record {
      long = fr.long;
      code = fr.same 0 (omega arith) ∙ l.code;
      shows = front_shows z n y env.columns fr r ∙ l.shows;
      carries = carries_front e.outcome z y (fr.same 1 (omega arith)) (fr.same 2 (omega arith))
          l.carries;
      keeps = λ i lo hi p. fr.same i hi ∙ (l.keeps i lo (omega arith) p ∙ k i lo hi p);
    }

pub sent_front : (w : Inputs) (env : Env) (here : ℕ) (seen : Seen) (base n m : ℕ) (q x : List Cell)
    (e : End) (z y : List Cell) → n ≤ m → Rising 3 env.columns n → Front z n y → Keeps env.columns n
    q x → Sent w env here seen base m x e z →
    Sent w env here seen base n q e y
sent_front w env here seen base n m q x e z y h r fr k s =
    let h3 = rising_below 3 env.columns n r in
    record {
      area = s.area;
      frame = s.frame;
      to = s.to;
      sends = s.sends;
      long = fr.long;
      code = fr.same 0 (omega arith) ∙ s.code;
      shows = front_shows z n y env.columns fr r ∙ s.shows;
      holds = fr.same 2 (omega arith) ∙ s.holds;
      keeps = λ i lo hi p. fr.same i hi ∙ (s.keeps i lo (omega arith) p ∙ k i lo hi p);
    }

pub rests_front : (w : Inputs) (env : Env) (here : ℕ) (seen : Seen) (base n m : ℕ) (q x : List Cell)
    (e : End) (z y : List Cell) → n ≤ m → Rising 3 env.columns n → Front z n y → Keeps env.columns n
    q x → Rests w env here seen base m x e z →
    Rests w env here seen base n q e y
rests_front w env here seen base n m q x e z y h r fr k rests = elim rests as
    (λ t. Rests w env here seen base n q e y) [
      | inl l ↦ inl (lands_front env here n m q x e z y h r fr k l)
      | inr s ↦ inr (sent_front w env here seen base n m q x e z y h r fr k s)
    ]

-- ---- CASE with an operand

-- the operand's value stands in column m
abbrev pub operand_known : ℕ → Value → Knowing
operand_known m x cs n q = (3 ≤ m) × (m < n) × Apart cs m × (cell_at q m ≡ Val x)

pub operand_stays : (m : ℕ) (x : Value) → Stays (operand_known m x)
operand_stays m x cs n q z h k = (h.0, h.1, h.2, k m h.0 h.1 h.2 ∙ h.3)

equal_cell : (x : Value) (E : Ending Value) → strictly (op_value (Comparing Equals))
    (Val x ∷ cell_end E ∷ []) ≡ cell_end (after E (λ y. Ok (equal_values x y)))
equal_cell x (Ok y) = refl
equal_cell x (Err a) = refl

-- the comparison with the operand
pub matching_yields : (w : Inputs) (o : List (List Cell)) → (e : ValueLeaf) → ValueRight w e →
    (m : ℕ) (x : Value) (env : Env) (n : ℕ) (f : Frame) (q : List Cell) → Rising 3 env.columns n →
    length q ≡ n →
    cells_at q env.columns ≡ shown f → operand_known m x env.columns n q →
    let a = equal_to m (emitted e (columns_in w) env n) in
    cell_of a.scalar (sight w o (added a.nodes w o q)) ≡ cell_end
    (after (value_in w e f) (λ y. Ok (equal_values x y)))
matching_yields w o e p m x env n f q r l s k =
    let a = emitted e (columns_in w) env n in let z = added a.nodes w o q in
    both (λ (c d : Cell). strictly (op_value (Comparing Equals)) (c ∷ d ∷ [])) _ _ _ _
    (grows_at q z m (added_grows a.nodes w o q) (let h = k.1 in omega (arith, l, h)) ∙ k.3)
    (expr_yields w o e p env n f q r l s z (grows_same z))
    ∙ equal_cell x (value_in w e f)

pub matching_doing : (scopes : Scopes) (E : Ending Value) (x : Value) (f : Frame) (a b : Doing) →
    with_end scopes E f (λ y. choose (equal_values x y) a b) ≡ with_end scopes
    (after E (λ y. Ok (equal_values x y))) f (λ v. choose v a b)
matching_doing scopes (Ok y) x f a b = refl
matching_doing scopes (Err s) x f a b = refl

-- a row with one more column, as one to start on
pub wider_starts : (env : Env) (n : ℕ) (st : Option Area) (f : Frame) (q : List Cell) (c : Cell) →
    Rising 3 env.columns n → Starts env n st f q → Starts env (suc n) st f (q ++ c ∷ [])
wider_starts env n st f q c r s = record {
  long = length-append q (c ∷ []) ∙ (let l = s.long in let e : length q + 1 ≡ suc n =
      omega (arith, l) in e);
  shows = grown_cells 3 env.columns n q (c ∷ []) r (let l = s.long in omega (arith, l)) ∙ s.shows;
  holds = holds_wider env.stacked st s.holds;
}
  where
    holds_wider : (es st : Option _) → Holds es st env.columns n q → Holds es st env.columns (suc n)
        (q ++ c ∷ [])
    holds_wider None None h = tt
    holds_wider None (Some a) h = h
    holds_wider (Some i) None h = h
    holds_wider (Some i) (Some a) h = (
      h.0,
      let b = h.1 in omega arith,
      h.2,
      front_at q (c ∷ []) i
          (let b = h.1 in let l = s.long in omega (arith, b, l)) ∙ h.3,
    )
