-- The actions of handlers in sight, after a statement that raised.
use Rattle.std.proofs.Common.{◌≡◌, ℕ, zero, suc, ◌+◌, ◌<◌, ◌≤◌, Bool, true, false, cond, nat_eq}
use Rattle.std.proofs.Common.{◌||◌, List, [], ◌∷◌, ◌++◌, length, take, drop, pos, Some, Ok}
use Rattle.std.proofs.Common.{slice_set, refl, sym, ap, ◌∙◌, subst, arith, inl, inr, ◌⊎◌}
use Rattle.std.proofs.Common.{length-append}
use Rattle.std.proofs.lemmas.List.{length-set}
use Rattle.sql_values.specs.declared.value.Value.{Value}
use Rattle.sql_values.specs.declared.value.Value.TheVariants.{Int, Bool as Truth}
use Rattle.sql_conditions.specs.Conditions.{Area}
use Rattle.row_types.specs.declared.cell.Cell.{Cell}
use Rattle.row_types.specs.declared.cell.Cell.TheVariants.{Val, Cond}
use Rattle.rel_algebra.specs.Tree.{AnyOf}
use Rattle.rel_algebra.specs.Endings.{Ending, op_value, among, cell_end, after}
use Rattle.rel_algebra.specs.Joins.{places}
use Rattle.rel_algebra.specs.Scopes.{Inputs, columns_in}
use Rattle.rel_algebra.specs.Plan.{Sight, sight, cell_at, cells_at, cells_of, case_cell, shown}
use Rattle.rel_algebra.specs.Plan.{values_of, strictly}
use Rattle.rel_algebra.proofs.Growing.{grows_by, grown_column, first_columns, grows_trans}
use Rattle.rel_algebra.proofs.Growing.{grows_same}
use Rattle.rel_algebra.proofs.Rows.{shown_append}
use Rattle.rel_algebra.specs.Bodies.{HandlerType, Continue, Exit, Undo, Stmt, Handlers, NoHandler}
use Rattle.rel_algebra.specs.Bodies.{MoreHandlers}
use Rattle.rel_algebra.specs.BodyDoing.{Frame, Outcome, Next, Leaving, Returning, Exiting, Raising}
use Rattle.rel_algebra.specs.BodyDoing.{End, back_in, outside}
use Rattle.rel_algebra.specs.BodyMeaning.{does, in_action, choose}
use Rattle.rel_algebra.specs.BodySteps.{Step, grow, stepped, run, col, only}
use Rattle.rel_algebra.specs.BodyDispatch.{Env, count, action_env, if_continue, whatever}
use Rattle.rel_algebra.specs.BodyDispatch.{scope_actions, actions, is_continue, any_continue}
use Rattle.rel_algebra.specs.BodyDispatch.{has_continue, tags, joins, handled}
use Rattle.rel_algebra.specs.BodyChain.{emit, coded}
use Rattle.rel_algebra.proofs.BodyBase.{at, both, codes_equal, lower_differs, higher_differs}
use Rattle.rel_algebra.proofs.BodyBase.{set_same, set_other, cells_at_append, cells_at_set}
use Rattle.rel_algebra.proofs.BodyBase.{cells_at_long, take_cells, drop_cells, take_shown}
use Rattle.rel_algebra.proofs.BodyBase.{drop_shown, take_and_drop, Rising, rising_more, rising_take}
use Rattle.rel_algebra.proofs.BodyBase.{apart_take, apart_above, Keeps, kept_rest, grown_cells}
use Rattle.rel_algebra.proofs.BodyBase.{front_at}
use Rattle.rel_algebra.proofs.BodyRows.{run_append}
use Rattle.rel_algebra.proofs.BodyLands.{place_of, Carries, Lands, Under, under_more, Ready, Starts}
use Rattle.rel_algebra.proofs.BodyLands.{place_low, lands_same, Seen, nowhere, within, scopes_of}
use Rattle.rel_algebra.proofs.BodyLands.{codes_of, context, AllGood, Good}
use Rattle.rel_algebra.proofs.BodyArms.{Direct, Quiet, ActsIn, Acts, Sends}
use Rattle.std.proofs.lemmas.Bool.Decides.{eqb_tells}
use Rattle.sql_values.specs.Values.{is_null}

-- ---- back at one code

-- whether a code is one of k from i on
abbrev pub in_tags : ℕ → ℕ → ℕ → Bool
in_tags c i zero = false
in_tags c i (suc k) = nat_eq c i || in_tags c (suc i) k

-- these codes as values
abbrev ints : ℕ → ℕ → List Value
ints i zero = []
ints i (suc k) = Int (pos i) ∷ ints (suc i) k

tag_values : (i k : ℕ) (s : Sight) → values_of (cells_of (tags i k) s) ≡ Ok (ints i k)
tag_values i zero s = refl
tag_values i (suc k) s = ap (λ (e : Ending (List Value)). after e (λ vs. Ok (Int (pos i) ∷ vs)))
    (tag_values (suc i) k s)

among_one : (b : Bool) (c : ℕ) (vs : List Value) → cond b (Truth b)
    (among (Truth false) (Int (pos c)) vs) ≡ cond b (Truth true)
    (among (Truth false) (Int (pos c)) vs)
among_one true c vs = refl
among_one false c vs = refl

among_step : (b r : Bool) → cond b (Truth true) (Truth r) ≡ Truth (b || r)
among_step true r = refl
among_step false r = refl

among_ints : (c i k : ℕ) → among (Truth false) (Int (pos c)) (ints i k) ≡ Truth (in_tags c i k)
among_ints c i zero = refl
among_ints c i (suc k) =
    let rest = among (Truth false) (Int (pos c)) (ints (suc i) k) in
    ap (λ (v : Value). choose v v (among (cond (is_null v) v (Truth false)) (Int (pos c))
    (ints (suc i) k))) (codes_equal c i)
    ∙ (among_one (nat_eq c i) c (ints (suc i) k)
    ∙ (ap (cond (nat_eq c i) (Truth true)) (among_ints c (suc i) k) ∙ among_step (nat_eq c i)
    (in_tags c (suc i) k)))

pub below_tags : (c i k : ℕ) → c < i → in_tags c i k ≡ false
below_tags c i zero h = refl
below_tags c i (suc k) h = ap (λ b. b || in_tags c (suc i) k) (lower_differs c i h) ∙ below_tags c
    (suc i) k (omega arith)

pub above_tags : (c i k : ℕ) → i + k ≤ c → in_tags c i k ≡ false
above_tags c i zero h = refl
above_tags c i (suc k) h = ap (λ b. b || in_tags c (suc i) k) (higher_differs c i (omega arith))
    ∙ above_tags c (suc i) k (omega arith)

pub inside_tags : (c i k : ℕ) → i ≤ c → c < i + k → in_tags c i k ≡ true
inside_tags c i zero h g = absurd (omega arith)
inside_tags c i (suc k) h g = elim (eqb_tells c i) as
    (λ x. (nat_eq c i || in_tags c (suc i) k) ≡ true) [
      | inl p ↦ ap (λ b. b || in_tags c (suc i) k) p.0
      | inr p ↦ ap (λ b. b || in_tags c (suc i) k) p.0 ∙ inside_tags c (suc i) k
          (let n = p.1 in omega (arith, n)) (omega arith)
    ]

pub places_cell : (row : List Cell) (s n i : ℕ) → i < n → cell_at (cells_at row (places s n)) i
    ≡ cell_at row (s + i)
places_cell row s zero i h = absurd (omega arith)
places_cell row s (suc n) zero h = ap (cell_at row) (let e : s ≡ s + 0 = omega arith in e)
places_cell row s (suc n) (suc i) h = places_cell row (suc s) n i (omega arith) ∙ ap (cell_at row)
    (let e : suc s + i ≡ s + suc i = omega arith in e)

pub places_count : (s n : ℕ) → length (places s n) ≡ n
places_count s zero = refl
places_count s (suc n) = ap suc (places_count (suc s) n)

join_cell : (i k here c : ℕ) (w : Inputs) (o : List (List Cell)) (q : List Cell) → cell_at q 0
    ≡ at c →
    case_cell (strictly (op_value AnyOf) (cell_at q 0 ∷ cells_of (tags i k) (sight w o q)) ∷ at here
    ∷ cell_at q 0 ∷ []) ≡ at (cond (in_tags c i k) here c)
join_cell i k here c w o q e =
    ap (λ (x : Cell). case_cell (strictly (op_value AnyOf) (x ∷ cells_of (tags i k) (sight w o q))
    ∷ at here ∷ x ∷ [])) e
    ∙ (ap (λ (r : Ending (List Value)). case_cell
    (cell_end (after (after r (λ vs. Ok (Int (pos c) ∷ vs))) (op_value AnyOf)) ∷ at here ∷ at c
    ∷ [])) (tag_values i k (sight w o q))
    ∙ (ap (λ (v : Value). case_cell (Val v ∷ at here ∷ at c ∷ [])) (among_ints c i k) ∙ picked
    (in_tags c i k)))
  where
    picked : (b : Bool) → cond b (at here) (at c) ≡ at (cond b here c)
    picked true = refl
    picked false = refl

-- a row with another code, and some of its columns
pub record Joined (q : List Cell) (n c : ℕ) (y : List Cell) : Type 0 where
  pub long : length y ≡ n
  pub code : cell_at y 0 ≡ at c
  pub others : (i : ℕ) → 0 < i → i < n → cell_at y i ≡ cell_at q i

joins_is : (i k here m n c : ℕ) (w : Inputs) (o : List (List Cell)) (q : List Cell) → length q ≡ m →
    cell_at q 0 ≡ at c →
    stepped w o (joins i k here m n) q ≡ slice_set
    (cells_at (q ++ at (cond (in_tags c i k) here c) ∷ []) (places 0 n)) 0
    (at (cond (in_tags c i k) here c))
joins_is i k here m n c w o q l e =
    let x = case_cell (strictly (op_value AnyOf) (cell_at q 0 ∷ cells_of (tags i k) (sight w o q))
    ∷ at here ∷ cell_at q 0 ∷ []) in
    cells_at_set (q ++ x ∷ []) (places 0 n) 0 m
    ∙ (ap (slice_set (cells_at (q ++ x ∷ []) (places 0 n)) 0)
    (grown_column q (q ++ x ∷ []) x m l (grows_same (q ++ x ∷ [])))
    ∙ ap (λ (y : Cell). slice_set (cells_at (q ++ y ∷ []) (places 0 n)) 0 y)
    (join_cell i k here c w o q e))

pub joins_row : (i k here m n c : ℕ) (w : Inputs) (o : List (List Cell)) (q : List Cell) → length q
    ≡ m → n ≤ m → 0 < n → cell_at q 0 ≡ at c →
    Joined q n (cond (in_tags c i k) here c) (stepped w o (joins i k here m n) q)
joins_row i k here m n c w o q l u p e =
    let x = at (cond (in_tags c i k) here c) in let p0 = cells_at (q ++ x ∷ []) (places 0 n) in
    let long0 : length p0 ≡ n = cells_at_long (q ++ x ∷ []) (places 0 n) ∙ places_count 0 n in
    let is = joins_is i k here m n c w o q l e in
    record {
      long = ap (λ (r : List Cell). length r) is ∙ (length-set p0 0 x ∙ long0);
      code = ap (λ (r : List Cell). cell_at r 0) is ∙ set_same p0 0 x (omega (arith, long0));
      others = λ j a b. ap (λ (r : List Cell). cell_at r j) is
          ∙ (set_other p0 0 j x (lower_differs 0 j a)
          ∙ (places_cell (q ++ x ∷ []) 0 n j b
          ∙ (ap (cell_at (q ++ x ∷ [])) (let g : 0 + j ≡ j = omega arith in g) ∙ front_at q
          (x ∷ []) j (omega (arith, l)))));
    }

-- a row that was as it is, and at another code
pub joins_off : (i k here m n c : ℕ) (w : Inputs) (o : List (List Cell)) (q x : List Cell) →
    length q ≡ n → length (q ++ x) ≡ m → 0 < n → cell_at q 0 ≡ at c →
    in_tags c i k ≡ false → stepped w o (joins i k here m n) (q ++ x) ≡ q
joins_off i k here m n c w o q x l lm p e d =
    let y = at (cond (in_tags c i k) here c) in
    joins_is i k here m n c w o (q ++ x) lm (front_at q x 0 (omega (arith, l)) ∙ e)
    ∙ (ap (λ (r : List Cell). slice_set r 0 y)
    (first_columns q ((q ++ x) ++ y ∷ []) n l
    (grows_trans q (q ++ x) ((q ++ x) ++ y ∷ []) (grows_by q x) (grows_by (q ++ x) (y ∷ []))))
    ∙ (ap (λ b. slice_set q 0 (at (cond b here c))) d ∙ (ap (slice_set q 0) (sym e) ∙ whole q)))
  where
    whole : (q : List Cell) → slice_set q 0 (cell_at q 0) ≡ q
    whole [] = refl
    whole (c ∷ cs) = refl

-- ---- actions

-- a chosen handler with a number
abbrev pub InHandlers : (HandlerType → Bool) → Handlers → ℕ → ℕ → (Stmt → Type 0) → Type 0
InHandlers chosen NoHandler i k P = ⊥
InHandlers chosen (MoreHandlers kind takes action others) i k P =
    ((chosen kind ≡ true) × (k ≡ i) × P action) ⊎ InHandlers chosen others (suc i) k P

-- how many handlers these are
abbrev pub handler_count : Inputs → Seen → Handlers → ℕ
handler_count w outer hs = length (coded hs (columns_in w) (codes_of w outer))

pub in_from : (chosen : HandlerType → Bool) (hs : Handlers) (i k : ℕ) (P : Stmt → Type 0) →
    InHandlers chosen hs i k P → i ≤ k
in_from chosen NoHandler i k P m = absurd m
in_from chosen (MoreHandlers kind takes action others) i k P m = elim m as (λ x. i ≤ k) [
  | inl h ↦ let e = h.1 in omega (arith, e)
  | inr h ↦ let e = in_from chosen others (suc i) k P h in omega arith
]

pub in_below : (w : Inputs) (outer : Seen) (chosen : HandlerType → Bool) (hs : Handlers) (i k : ℕ)
    (P : Stmt → Type 0) → InHandlers chosen hs i k P → k < i + handler_count w outer hs
in_below w outer chosen NoHandler i k P m = absurd m
in_below w outer chosen (MoreHandlers kind takes action others) i k P m =
    elim m as (λ x. k < i + suc (handler_count w outer others)) [
      | inl h ↦ let e = h.1 in omega (arith, e)
      | inr h ↦ let e = in_below w outer chosen others (suc i) k P h in omega arith
    ]

-- what is asked of the choice of handlers
abbrev pub Picks : Inputs → List (List Cell) → (HandlerType → List Step → List Step) →
    (HandlerType → Bool) → Type 0
Picks w o pick chosen = (kind : HandlerType) (ss : List Step) (y : List Cell) →
    run w o (pick kind ss) y ≡ cond (chosen kind) (run w o ss y) y

pub picks_continue : (w : Inputs) (o : List (List Cell)) → Picks w o if_continue is_continue
picks_continue w o Continue ss y = refl
picks_continue w o Exit ss y = refl
picks_continue w o Undo ss y = refl

pub picks_all : (w : Inputs) (o : List (List Cell)) → Picks w o whatever (λ kind. true)
picks_all w o kind ss y = refl

cond_same : {A : Type 0} (b : Bool) (x y : A) → x ≡ y → cond b x y ≡ y
cond_same true x y h = h
cond_same false x y h = refl

cond_true : {A : Type 0} (b : Bool) (x y : A) → b ≡ true → cond b x y ≡ x
cond_true true x y h = refl
cond_true false x y h = absurd cc

-- not among k numbers from i on
abbrev pub Beside : ℕ → ℕ → ℕ → Type 0
Beside c i k = (c < i) ⊎ (i + k ≤ c)

beside_head : (c i k : ℕ) → Beside c i (suc k) → nat_eq c i ≡ false
beside_head c i k h = elim h as (λ x. nat_eq c i ≡ false)
    [ inl a ↦ lower_differs c i a | inr a ↦ higher_differs c i (omega arith) ]

beside_tail : (c i k : ℕ) → Beside c i (suc k) → Beside c (suc i) k
beside_tail c i k h = elim h as (λ x. Beside c (suc i) k)
    [ inl a ↦ inl (omega arith) | inr a ↦ inr (omega arith) ]

pub scope_passes : (w : Inputs) (o : List (List Cell)) (pick : HandlerType → List Step → List Step)
    (chosen : HandlerType → Bool) → Picks w o pick chosen →
    (hs : Handlers) (level : ℕ) (outer : Seen) → AllGood w o hs level outer →
    (env : Env) (here i free n : ℕ) → Under env here → here < i → i + handler_count w outer
    hs ≤ free →
    Rising 3 env.columns n → (c : ℕ) → c < free → Beside c i (handler_count w outer hs) →
    (y : List Cell) → length y ≡ n → cell_at y 0 ≡ at c →
    run w o (scope_actions pick (coded hs (columns_in w) (codes_of w outer)) env i free n) y ≡ y
scope_passes w o pick chosen ps NoHandler level outer g env here i free n u b f r c cf cb y l e =
    refl
scope_passes w o pick chosen ps (MoreHandlers kind takes action others) level outer g env here i
    free n u b f r c cf cb y l e =
    let S = columns_in w in let first = emit action S (codes_of w outer) env i free n in let rest =
    scope_actions pick (coded others S (codes_of w outer)) env (suc i) free n in
    run_append w o (pick kind first) rest y
    ∙ (ap (run w o rest) (ps kind first y ∙ cond_same (chosen kind) (run w o first y) y
    (g.0.passes env i free n (record {
      under = under_more env here i u (omega arith);
      before =
          omega arith;
      rising = r;
    }) c cf (beside_head c i (handler_count w outer others) cb) y l e))
    ∙ scope_passes w o pick chosen ps others level outer g.1 env here (suc i) free n u (omega arith)
    (omega arith) r c cf (beside_tail c i (handler_count w outer others) cb) y l e)

-- what the action with this number leaves
pub record Acted (w : Inputs) (outer : Seen) (level : ℕ) (a : Area) (env : Env) (k n : ℕ)
    (g : Frame) (P : Stmt → Type 0) (y z : List Cell) : Type 0 where
  pub action : Stmt
  pub is : P action
  pub lands : Lands env k n y (does action w (context w outer (suc level) (Some a)) g) z

pub scope_acts : (w : Inputs) (o : List (List Cell)) (pick : HandlerType → List Step → List Step)
    (chosen : HandlerType → Bool) → Picks w o pick chosen →
    (hs : Handlers) (level : ℕ) (outer : Seen) → AllGood w o hs level outer →
    (env : Env) (here i free n : ℕ) → Under env here → here < i → i + handler_count w outer
    hs ≤ free →
    Rising 3 env.columns n → env.level ≡ suc level → (k : ℕ) (P : Stmt → Type 0) → InHandlers chosen
    hs i k P → (a : Area) (g : Frame) (y : List Cell) →
    Starts env n (Some a) g y → cell_at y 0 ≡ at k →
    Acted w outer level a env k n g P y (run w o
    (scope_actions pick (coded hs (columns_in w) (codes_of w outer)) env i free n) y)
scope_acts w o pick chosen ps NoHandler level outer good env here i free n u b f r v k P m a g y s
    e = absurd m
scope_acts w o pick chosen ps (MoreHandlers kind takes action others) level outer good env here i
    free n u b f r v k P m a g y s e =
    let S = columns_in w in let first = emit action S (codes_of w outer) env i free n in let rest =
    scope_actions pick (coded others S (codes_of w outer)) env (suc i) free n in
    let ready : Ready env i free n = record {
      under = under_more env here i u (omega arith);
      before = omega arith;
      rising = r;
    } in
    elim m as (λ x. Acted w outer level a env k n g P y (run w o (pick kind first ++ rest) y)) [
      | inl h ↦
          let d = does action w (context w outer (suc level) (Some a)) g in
          let at_i : cell_at y 0 ≡ at i = e ∙ ap at h.1 in
          let l : Lands env i n y d (run w o first y) = good.0.lands env i free n ready v (Some a) g
          y s at_i in
          let low = place_low env i ready.under d.outcome in
          let after_first : run w o (pick kind first) y ≡ run w o first y = ps kind first y
          ∙ cond_true (chosen kind) (run w o first y) y h.0 in
          let rest_passes : run w o rest (run w o first y) ≡ run w o first y =
          scope_passes w o pick chosen ps others level outer good.1 env here (suc i) free n u
          (omega arith) (omega arith) r (place_of env i d.outcome) (omega arith) (inl (omega arith))
          (run w o first y) l.long l.code in
          record {
            action = action;
            is = h.2;
            lands = subst (λ (j : ℕ). Lands env j n y d (run w o (pick kind first ++ rest) y))
                (sym h.1)
                (lands_same env i n y d (run w o first y) _
                (run_append w o (pick kind first) rest y
                ∙ (ap (run w o rest) after_first ∙ rest_passes)) l);
          }
      | inr h ↦
          let from = in_from chosen others (suc i) k P h in let below = in_below w outer chosen
          others (suc i) k P h in
          let passed : run w o (pick kind first) y ≡ y =
          ps kind first y ∙ cond_same (chosen kind) (run w o first y) y
          (good.0.passes env i free n ready k (omega arith) (higher_differs k i (omega arith)) y
          s.long e) in
          let t = scope_acts w o pick chosen ps others level outer good.1 env here (suc i) free n u
          (omega arith) (omega arith) r v k P h a g y s e in
          record {
            action = t.action;
            is = t.is;
            lands = lands_same env k n y _ (run w o rest y) _
                (run_append w o (pick kind first) rest y ∙ ap (run w o rest) passed) t.lands;
          }
    ]

under_action : (env : Env) (level variables n here : ℕ) → Under env here →
    Under (action_env env level variables n) here
under_action env level variables n here u = record {
  labels = u.labels;
  exits = u.exits;
  out =
      u.out;
  some = u.some;
}

seen_count : Inputs → Seen → ℕ
seen_count w seen = count (codes_of w seen)

pub actions_pass : (w : Inputs) (o : List (List Cell)) (seen : Seen) → Good w o seen →
    (env : Env) (here i free n : ℕ) → Under env here → here < i →
    i + count (codes_of w seen) ≤ free → Rising 3 env.columns n → (c : ℕ) → c < free →
    Beside c i (count (codes_of w seen)) → (y : List Cell) → length y ≡ suc n → cell_at y 0 ≡ at c →
    run w o (actions (codes_of w seen) env i free n) y ≡ y
actions_pass w o nowhere g env here i free n u b f r c cf cb y l e = refl
actions_pass w o (within hs level variables outer) g env here i free n u b f r c cf cb y l e =
    let S = columns_in w in let E = action_env env level variables n in let k = handler_count w
    outer hs in
    let first = scope_actions if_continue (coded hs S (codes_of w outer)) E i free (suc n) in
    let rest = actions (codes_of w outer) env (i + k) free n in
    run_append w o first rest y
    ∙ (ap (run w o rest) (scope_passes w o if_continue is_continue (picks_continue w o) hs level
    outer g.0 E here i free (suc n) (under_action env level variables n here u) b (omega arith)
    (rising_take 3 variables env.columns (suc n)
    (rising_more 3 env.columns n (suc n) r (omega arith))) c cf (first_part cb) y l e)
    ∙ actions_pass w o outer g.1 env here (i + k) free n u (omega arith) (omega arith) r c cf
    (second_part cb) y l e)
  where
    first_part : Beside c i (handler_count w outer hs + count (codes_of w outer)) →
        Beside c i (handler_count w outer hs)
    first_part h = elim h as (λ x. Beside c i (handler_count w outer hs))
        [ inl a ↦ inl a | inr a ↦ inr (omega arith) ]

    second_part : Beside c i (handler_count w outer hs + count (codes_of w outer)) →
        Beside c (i + handler_count w outer hs) (count (codes_of w outer))
    second_part h = elim h as (λ x. Beside c (i + handler_count w outer hs)
        (count (codes_of w outer))) [ inl a ↦ inl (omega arith) | inr a ↦ inr (omega arith) ]

-- an action of a handler in sight, which sees the first so many variables
pub record ActedFor (env : Env) (k n : ℕ) (f : Frame) (e : End) (y z : List Cell) : Type 0 where
  pub level : ℕ
  pub variables : ℕ
  pub inner : End
  pub is : e ≡ back_in variables f inner
  pub lands : Lands (action_env env level variables n) k (suc n) y inner z

acts_in : (w : Inputs) (hs : Handlers) (level variables : ℕ) (outer : Seen) (i k : ℕ) (a : Area)
    (f : Frame) (e : End) → ActsIn w hs level variables outer i k a f e →
    InHandlers is_continue hs i k (λ action. e ≡ outside variables
    (does action w (in_action (scopes_of w outer) a level)) f)
acts_in w NoHandler level variables outer i k a f e m = m
acts_in w (MoreHandlers Continue takes action others) level variables outer i k a f e m =
    elim m as (λ x. InHandlers is_continue (MoreHandlers Continue takes action others) i k
    (λ act. e ≡ outside variables (does act w (in_action (scopes_of w outer) a level)) f)) [
      | inl h ↦ inl (refl, h.0, h.1)
      | inr h ↦ inr (acts_in w others level variables outer (suc i) k a f e h)
    ]
acts_in w (MoreHandlers Exit takes action others) level variables outer i k a f e m =
    inr (acts_in w others level variables outer (suc i) k a f e m)
acts_in w (MoreHandlers Undo takes action others) level variables outer i k a f e m =
    inr (acts_in w others level variables outer (suc i) k a f e m)

acts_from : (w : Inputs) (seen : Seen) (i k : ℕ) (a : Area) (f : Frame) (e : End) → Acts w seen i k
    a f e → (i ≤ k) × (k < i + count (codes_of w seen))
acts_from w nowhere i k a f e m = absurd m
acts_from w (within hs level variables outer) i k a f e m =
    elim m as (λ x. (i ≤ k) × (k < i + (handler_count w outer hs + count (codes_of w outer)))) [
      | inl h ↦
          let j = acts_in w hs level variables outer i k a f e h in
          let P : Stmt → Type 0 = λ action. e ≡ outside variables
          (does action w (in_action (scopes_of w outer) a level)) f in
          let x = in_from is_continue hs i k P j in let y = in_below w outer is_continue hs i k P
          j in
          (x, omega arith)
      | inr h ↦ let t = acts_from w outer (i + handler_count w outer hs) k a f e h in let x = t.0 in
          let y = t.1 in (omega arith, omega arith)
    ]

-- a row on which an action starts
pub start_action : (env : Env) (level variables n : ℕ) (a : Area) (f : Frame) (z : List Cell) →
    length z ≡ n → 3 ≤ n → Rising 3 env.columns n → cells_at z env.columns ≡ shown f →
    Starts (action_env env level variables n) (suc n) (Some a) (take variables f) (z ++ Cond a ∷ [])
start_action env level variables n a f z l h r s = record {
  long = length-append z (Cond a ∷ []) ∙ (let e : length z + 1 ≡ suc n = omega (arith, l) in e);
  shows = take_cells (z ++ Cond a ∷ []) variables env.columns
      ∙ (ap (take variables) (grown_cells 3 env.columns n z (Cond a ∷ []) r (omega (arith, l)) ∙ s)
      ∙ take_shown variables f);
  holds = (
    h,
    omega arith,
    apart_take variables env.columns n (apart_above 3 env.columns n n r (omega arith)),
    grown_column z (z ++ Cond a ∷ []) (Cond a) n l (grows_same (z ++ Cond a ∷ [])),
  );
}

actions_act : (w : Inputs) (o : List (List Cell)) (seen : Seen) → Good w o seen →
    (env : Env) (here i free n : ℕ) → Under env here → here < i →
    i + count (codes_of w seen) ≤ free → Rising 3 env.columns n → 3 ≤ n → (k : ℕ) (a : Area)
    (f : Frame) (e : End) → Acts w seen i k a f e →
    (z : List Cell) → length z ≡ n → cells_at z env.columns ≡ shown f → cell_at z 0 ≡ at k →
    ActedFor env k n f e (z ++ Cond a ∷ []) (run w o (actions (codes_of w seen) env i free n)
    (z ++ Cond a ∷ []))
actions_act w o nowhere g env here i free n u b fr r h k a f e m z l s c = absurd m
actions_act w o (within hs level variables outer) g env here i free n u b fr r h k a f e m z l s c =
    let S = columns_in w in let E = action_env env level variables n in let j = handler_count w
    outer hs in let y = z ++ Cond a ∷ [] in
    let first = scope_actions if_continue (coded hs S (codes_of w outer)) E i free (suc n) in
    let rest = actions (codes_of w outer) env (i + j) free n in
    let rising : Rising 3 E.columns (suc n) = rising_take 3 variables env.columns (suc n)
    (rising_more 3 env.columns n (suc n) r (omega arith)) in
    let st : Starts E (suc n) (Some a) (take variables f) y = start_action env level variables n a f
    z l h r s in
    let cy : cell_at y 0 ≡ at k = front_at z (Cond a ∷ []) 0 (omega (arith, l)) ∙ c in
    elim m as (λ x. ActedFor env k n f e y (run w o (first ++ rest) y)) [
      | inl mi ↦
          let P : Stmt → Type 0 = λ action. e ≡ outside variables
          (does action w (in_action (scopes_of w outer) a level)) f in
          let member = acts_in w hs level variables outer i k a f e mi in
          let below = in_below w outer is_continue hs i k P member in
          let t = scope_acts w o if_continue is_continue (picks_continue w o) hs level outer g.0 E
          here i free (suc n) (under_action env level variables n here u) b (omega arith) rising
          refl k P member a (take variables f) y st cy in
          let inner = does t.action w (context w outer (suc level) (Some a)) (take variables f) in
          let low = place_low E k (under_action env level variables n k
          (under_more env here k u (let x = in_from is_continue hs i k P member in
          omega arith))) inner.outcome in
          record {
            level = level;
            variables = variables;
            inner = inner;
            is = t.is;
            lands = lands_same E k (suc n) y inner (run w o first y) _
                (run_append w o first rest y ∙ actions_pass w o outer g.1 env here (i + j) free n u
                (omega arith) (omega arith) r (place_of E k inner.outcome) (omega arith)
                (inl (omega arith)) (run w o first y) t.lands.long t.lands.code) t.lands;
          }
      | inr mo ↦
          let bounds = acts_from w outer (i + j) k a f e mo in let from = bounds.0 in let below =
          bounds.1 in
          let passed : run w o first y ≡ y =
          scope_passes w o if_continue is_continue (picks_continue w o) hs level outer g.0 E here i
          free (suc n) (under_action env level variables n here u) b (omega arith) rising k
          (omega arith) (inr (omega arith)) y st.long cy in
          let t = actions_act w o outer g.1 env here (i + j) free n u (omega arith) (omega arith) r
          h k a f e mo z l s c in
          let same : run w o (first ++ rest) y ≡ run w o rest y = run_append w o first rest y
          ∙ ap (run w o rest) passed in
          record {
            level = t.level;
            variables = t.variables;
            inner = t.inner;
            is = t.is;
            lands = lands_same (action_env env t.level t.variables n) k (suc n) y t.inner
                (run w o rest y) _ same t.lands;
          }
    ]

-- ---- the whole

-- a row whose area is sent to a code
pub record Sent (w : Inputs) (env : Env) (here : ℕ) (seen : Seen) (base n : ℕ) (q : List Cell)
    (e : End) (z : List Cell) : Type 0 where
  pub area : Area
  pub frame : Frame
  pub to : ℕ
  pub sends : Sends w env here seen base area frame e to
  pub long : length z ≡ n
  pub code : cell_at z 0 ≡ at to
  pub shows : cells_at z env.columns ≡ shown frame
  pub holds : cell_at z 2 ≡ Cond area
  pub keeps : Keeps env.columns n q z

-- it stands for its end, or its area is sent
abbrev pub Rests : Inputs → Env → ℕ → Seen → ℕ → ℕ → List Cell → End → List Cell → Type 0
Rests w env here seen base n q e z = Lands env here n q e z ⊎ Sent w env here seen base n q e z

pub handled_passes : (w : Inputs) (o : List (List Cell)) (seen : Seen) → Good w o seen →
    (env : Env) (here base free n : ℕ) → Under env here → here < base →
    base + count (codes_of w seen) ≤ free → Rising 3 env.columns n → (c : ℕ) → c < free →
    Beside c base (count (codes_of w seen)) → (q : List Cell) → length q ≡ n → 3 ≤ n → cell_at q 0
    ≡ at c →
    run w o (handled (codes_of w seen) env here base free n) q ≡ q
handled_passes w o seen g env here base free n u b f r c cf cb q l h e =
    let cs = codes_of w seen in
    elim (has_continue cs) as (λ t. run w o (cond t
    (grow (only (col 2)) ∷ (actions cs env base free n ++ joins base (count cs) here (suc n) n
    ∷ [])) []) q ≡ q) [
      | true ↦
          let x = cell_at q 2 ∷ [] in
          let long : length (q ++ x) ≡ suc n = length-append q x
          ∙ (let d : length q + 1 ≡ suc n = omega (arith, l) in d) in
          run_append w o (actions cs env base free n) (joins base (count cs) here (suc n) n ∷ [])
          (q ++ x)
          ∙ (ap (stepped w o (joins base (count cs) here (suc n) n))
          (actions_pass w o seen g env here base free n u b f r c cf cb (q ++ x) long
          (front_at q x 0 (omega (arith, l)) ∙ e))
          ∙ joins_off base (count cs) here (suc n) n c w o q x l long (omega arith) e
          (beside_tags cb))
      | false ↦ refl
    ]
  where
    beside_tags : Beside c base (count (codes_of w seen)) → in_tags c base (count (codes_of w seen))
        ≡ false
    beside_tags h = elim h as (λ x. in_tags c base (count (codes_of w seen)) ≡ false) [
      | inl a ↦ below_tags c base (count (codes_of w seen)) a
      | inr a ↦ above_tags c base (count (codes_of w seen)) a
    ]

any_of : (w : Inputs) (hs : Handlers) (level variables : ℕ) (outer : Seen) (i k : ℕ) (a : Area)
    (f : Frame) (e : End) → ActsIn w hs level variables outer i k a f e →
    any_continue (coded hs (columns_in w) (codes_of w outer)) ≡ true
any_of w NoHandler level variables outer i k a f e m = absurd m
any_of w (MoreHandlers Continue takes action others) level variables outer i k a f e m = refl
any_of w (MoreHandlers Exit takes action others) level variables outer i k a f e m = any_of w others
    level variables outer (suc i) k a f e m
any_of w (MoreHandlers Undo takes action others) level variables outer i k a f e m = any_of w others
    level variables outer (suc i) k a f e m

has_of : (w : Inputs) (seen : Seen) (i k : ℕ) (a : Area) (f : Frame) (e : End) → Acts w seen i k a f
    e → has_continue (codes_of w seen) ≡ true
has_of w nowhere i k a f e m = absurd m
has_of w (within hs level variables outer) i k a f e m =
    elim m as (λ x. (any_continue (coded hs (columns_in w) (codes_of w outer)) || has_continue
    (codes_of w outer)) ≡ true) [
      | inl h ↦ ap (λ b. b || has_continue (codes_of w outer))
          (any_of w hs level variables outer i k a f e h)
      | inr h ↦ ap (λ b. any_continue (coded hs (columns_in w) (codes_of w outer)) || b)
          (has_of w outer (i + handler_count w outer hs) k a f e h) ∙ or_true
          (any_continue (coded hs (columns_in w) (codes_of w outer)))
    ]
  where
    or_true : (b : Bool) → (b || true) ≡ true
    or_true true = refl
    or_true false = refl

pub carries_joined : (o : Outcome) (y z : List Cell) → cell_at z 1 ≡ cell_at y 1 → cell_at z 2
    ≡ cell_at y 2 → Carries o y → Carries o z
carries_joined Next y z a b h = tt
carries_joined (Leaving l) y z a b h = tt
carries_joined (Returning v) y z a b h = a ∙ h
carries_joined (Exiting l x) y z a b h = b ∙ h
carries_joined (Raising x) y z a b h = b ∙ h

back_code : (env : Env) (here base m k : ℕ) → Under env here → here < base → base ≤ k →
    k < base + m → (out : Outcome) →
    cond (in_tags (place_of env k out) base m) here (place_of env k out) ≡ place_of env here out
back_code env here base m k u b lo hi Next = ap (λ t. cond t here k) (inside_tags k base m lo hi)
back_code env here base m k u b lo hi (Leaving l) = let e = u.labels l in
    ap (λ t. cond t here (env.labels l)) (below_tags (env.labels l) base m (omega arith))
back_code env here base m k u b lo hi (Returning v) = ap (λ t. cond t here 0)
    (below_tags 0 base m (omega arith))
back_code env here base m k u b lo hi (Exiting l a) = let e = u.exits l in
    ap (λ t. cond t here (env.exits l)) (below_tags (env.exits l) base m (omega arith))
back_code env here base m k u b lo hi (Raising a) = let e = u.out in ap (λ t. cond t here env.out)
    (below_tags env.out base m (omega arith))

-- the variables that the action did not see come back
back_shows : (v : ℕ) (cs : List ℕ) (n : ℕ) (f g : Frame) (z y t : List Cell) → Rising 3 cs n →
    length z ≡ n → (x : List Cell) → y ≡ z ++ x → Keeps (take v cs) (suc n) y t →
    cells_at z cs ≡ shown f → cells_at t (take v cs) ≡ shown g → cells_at t cs
    ≡ shown (g ++ drop v f)
back_shows v cs n f g z y t r l x e k s h =
    ap (cells_at t) (sym (take_and_drop v cs))
    ∙ (cells_at_append t (take v cs) (drop v cs)
    ∙ (both (λ (a b : List Cell). a ++ b) _ _ _ _ h
    (kept_rest v cs n z t r (λ i lo hi ap_. k i lo (omega arith) ap_
    ∙ (ap (λ (p : List Cell). cell_at p i) e ∙ front_at z x i (omega (arith, l))))
    ∙ (drop_cells z v cs ∙ (ap (drop v) s ∙ drop_shown v f)))
    ∙ shown_append g (drop v f)))

pub handled_acts : (w : Inputs) (o : List (List Cell)) (seen : Seen) → Good w o seen →
    (env : Env) (here base free n : ℕ) → Under env here → here < base →
    base + count (codes_of w seen) ≤ free → Rising 3 env.columns n → 3 ≤ n → (k : ℕ) (a : Area)
    (f : Frame) (e : End) → Acts w seen base k a f e → (q z : List Cell) → length z ≡ n →
    cells_at z env.columns ≡ shown f → cell_at z 0 ≡ at k → cell_at z 2 ≡ Cond a → Keeps env.columns
    n q z →
    Lands env here n q e (run w o (handled (codes_of w seen) env here base free n) z)
handled_acts w o seen g env here base free n u b fr r h k a f e m q z l s c ca keep =
    let cs = codes_of w seen in let y = z ++ Cond a ∷ [] in
    let t = actions_act w o seen g env here base free n u b fr r h k a f e m z l s c in
    let y2 = run w o (actions cs env base free n) y in
    let bounds = acts_from w seen base k a f e m in
    let j : Joined y2 n _ (stepped w o (joins base (count cs) here (suc n) n) y2) = joins_row base
    (count cs) here (suc n) n (place_of env k t.inner.outcome) w o y2 t.lands.long (omega arith)
    (omega arith) t.lands.code in
    let y3 = stepped w o (joins base (count cs) here (suc n) n) y2 in
    let same : run w o (handled cs env here base free n) z ≡ y3 =
    ap (λ x. run w o (cond x (grow (only (col 2))
    ∷ (actions cs env base free n ++ joins base (count cs) here (suc n) n ∷ [])) []) z)
    (has_of w seen base k a f e m)
    ∙ (ap (λ (x : Cell). run w o (actions cs env base free n ++ joins base (count cs) here (suc n) n
    ∷ []) (z ++ x ∷ [])) ca
    ∙ run_append w o (actions cs env base free n) (joins base (count cs) here (suc n) n ∷ []) y) in
    let bs0 = bounds.0 in let bs1 = bounds.1 in
    let others : (i : ℕ) → 3 ≤ i → i < n → cell_at y3 i ≡ cell_at y2 i = λ i lo hi. j.others i
    (omega arith) hi in
    lands_same env here n q e y3 _ same
    (subst (λ (x : End). Lands env here n q x y3) (sym t.is)
    (record {
      long = j.long;
      code = j.code ∙ ap at (back_code env here base (count cs) k u b bs0 bs1 t.inner.outcome);
      shows = kept_rest 0 env.columns n y2 y3 r (λ i lo hi x. others i lo hi)
          ∙ back_shows t.variables env.columns n f t.inner.frame z y y2 r l (Cond a ∷ []) refl
          t.lands.keeps s t.lands.shows;
      carries = carries_joined t.inner.outcome y2 y3 (j.others 1 (omega arith) (omega arith))
          (j.others 2 (omega arith) (omega arith)) t.lands.carries;
      keeps = λ i lo hi x. others i lo hi
          ∙ (t.lands.keeps i lo (omega arith) (apart_take t.variables env.columns i x)
          ∙ (front_at z (Cond a ∷ []) i (omega (arith, l)) ∙ keep i lo hi x));
    }))

quiet_carries : (out : Outcome) (a : Area) (z : List Cell) → Quiet out a → cell_at z 2 ≡ Cond a →
    Carries out z
quiet_carries Next a z q h = tt
quiet_carries (Leaving l) a z q h = absurd q
quiet_carries (Returning v) a z q h = absurd q
quiet_carries (Exiting l b) a z q h = h ∙ ap Cond (sym q)
quiet_carries (Raising b) a z q h = h ∙ ap Cond (sym q)

-- a row that was sent at once where it goes
pub direct_lands : (env : Env) (here n : ℕ) (a : Area) (f : Frame) (e : End) (k : ℕ) →
    Direct env here a f e k → (q z : List Cell) → length z ≡ n → cells_at z env.columns ≡ shown f →
    cell_at z 0 ≡ at k → cell_at z 2 ≡ Cond a → Keeps env.columns n q z → Lands env here n q e z
direct_lands env here n a f e k d q z l s c ca keep = subst (λ (x : End). Lands env here n q x z)
    (sym d.ends_so) (record {
      long = l;
      code = c ∙ ap at d.place;
      shows = s;
      carries = quiet_carries d.outcome a z d.quiet ca;
      keeps = keep;
    })

pub handled_lands : (w : Inputs) (o : List (List Cell)) (seen : Seen) → Good w o seen →
    (env : Env) (here base free n : ℕ) → Under env here → here < base →
    base + count (codes_of w seen) ≤ free → Rising 3 env.columns n → 3 ≤ n → (q : List Cell)
    (e : End) (z : List Cell) → Rests w env here seen base n q e z →
    Lands env here n q e (run w o (handled (codes_of w seen) env here base free n) z)
handled_lands w o seen g env here base free n u b f r h q e z rests = elim rests as
    (λ x. Lands env here n q e (run w o (handled (codes_of w seen) env here base free n) z)) [
      | inl l ↦ stays l
      | inr s ↦ elim s.sends as (λ x. Lands env here n q e
          (run w o (handled (codes_of w seen) env here base free n) z)) [
            | inl d ↦ stays (direct_lands env here n s.area s.frame e s.to d q z s.long s.shows
                s.code
                s.holds s.keeps)
            | inr m ↦ handled_acts w o seen g env here base free n u b f r h s.to s.area s.frame e m
                q z
                s.long s.shows s.code s.holds s.keeps
          ]
    ]
  where
    stays : Lands env here n q e z → Lands env here n q e
        (run w o (handled (codes_of w seen) env here base free n) z)
    stays l =
        let low = place_low env here u e.outcome in
        lands_same env here n q e z _
        (handled_passes w o seen g env here base free n u b f r (place_of env here e.outcome)
        (omega arith) (inl (omega arith)) z l.long h l.code) l

-- where a row is that was sent
pub sends_bound : (w : Inputs) (env : Env) (here : ℕ) → Under env here → (seen : Seen) (base : ℕ)
    (a : Area) (f : Frame) (e : End) (k : ℕ) → Sends w env here seen base a f e k →
    (k ≤ here) ⊎ ((base ≤ k) × (k < base + count (codes_of w seen)))
sends_bound w env here u seen base a f e k s =
    elim s as (λ x. (k ≤ here) ⊎ ((base ≤ k) × (k < base + count (codes_of w seen)))) [
      | inl d ↦ let low = place_low env here u d.outcome in let p = d.place in
          inl (omega (arith, p))
      | inr m ↦ inr (acts_from w seen base k a f e m)
    ]
