-- How a row of registers stands for the end of a statement.
use Rattle.std.proofs.Common.{◌≡◌, ℕ, suc, ◌<◌, ◌≤◌, false, nat_eq, List, [], ◌∷◌, ◌++◌, length}
use Rattle.std.proofs.Common.{Option, Some, None, refl, sym, ap, ◌∙◌, subst, arith}
use Rattle.sql_conditions.specs.Conditions.{Area}
use Rattle.row_types.specs.declared.cell.Cell.{Cell}
use Rattle.row_types.specs.declared.cell.Cell.TheVariants.{Val, Cond}
use Rattle.rel_algebra.specs.Scopes.{Inputs, columns_in}
use Rattle.rel_algebra.specs.Plan.{cell_at, cells_at, shown}
use Rattle.rel_algebra.specs.Bodies.{Stmt, Handlers, NoHandler, MoreHandlers}
use Rattle.rel_algebra.specs.BodyDoing.{Frame, Outcome, Next, Leaving, Returning, Exiting, Raising}
use Rattle.rel_algebra.specs.BodyDoing.{End, Doing, ends, next_or, in_turn}
use Rattle.rel_algebra.specs.BodyHandlers.{Scopes}
use Rattle.rel_algebra.specs.BodyMeaning.{Context, does, handlings}
use Rattle.rel_algebra.specs.BodySteps.{run}
use Rattle.rel_algebra.specs.BodyDispatch.{Env, Emit, Codes}
use Rattle.rel_algebra.specs.BodyChain.{emit, coded}
use Rattle.rel_algebra.proofs.BodyBase.{at, lower_differs, Rising, Apart, Keeps}
use Rattle.rel_algebra.proofs.BodyRows.{run_append}

-- the code of an outcome
abbrev pub place_of : Env → ℕ → Outcome → ℕ
place_of env here Next = here
place_of env here (Leaving l) = env.labels l
place_of env here (Returning v) = 0
place_of env here (Exiting l a) = env.exits l
place_of env here (Raising a) = env.out

-- what the registers carry
abbrev pub Carries : Outcome → List Cell → Type 0
Carries Next z = Unit {0}
Carries (Leaving l) z = Unit {0}
Carries (Returning v) z = cell_at z 1 ≡ Val v
Carries (Exiting l a) z = cell_at z 2 ≡ Cond a
Carries (Raising a) z = cell_at z 2 ≡ Cond a

-- the row z stands for an end, and is otherwise as the row q
pub record Lands (env : Env) (here n : ℕ) (q : List Cell) (e : End) (z : List Cell) : Type 0 where
  pub long : length z ≡ n
  pub code : cell_at z 0 ≡ at (place_of env here e.outcome)
  pub shows : cells_at z env.columns ≡ shown e.frame
  pub carries : Carries e.outcome z
  pub keeps : Keeps env.columns n q z

-- all codes to go to are below n
pub record Under (env : Env) (n : ℕ) : Type 0 where
  pub labels : (l : ℕ) → env.labels l < n
  pub exits : (l : ℕ) → env.exits l < n
  pub out : env.out < n
  pub some : 0 < n

pub under_more : (env : Env) (n m : ℕ) → Under env n → n ≤ m → Under env m
under_more env n m u h = record {
  labels = λ l. let e = u.labels l in omega arith;
  exits = λ l. let e = u.exits l in omega arith;
  out = let e = u.out in omega arith;
  some = let e = u.some in omega arith;
}

-- what every emitter is given
pub record Ready (env : Env) (here next n : ℕ) : Type 0 where
  pub under : Under env here
  pub before : here < next
  pub rising : Rising 3 env.columns n

-- the area of the action around stands in its column
abbrev pub Holds : Option ℕ → Option Area → List ℕ → ℕ → List Cell → Type 0
Holds None None cs n q = Unit {0}
Holds None (Some a) cs n q = ⊥
Holds (Some c) None cs n q = ⊥
Holds (Some c) (Some a) cs n q = (3 ≤ c) × (c < n) × Apart cs c × (cell_at q c ≡ Cond a)

pub holds_kept : (c : Option ℕ) (a : Option Area) (cs : List ℕ) (n : ℕ) (q z : List Cell) →
    Holds c a cs n q → Keeps cs n q z → Holds c a cs n z
holds_kept None None cs n q z h k = tt
holds_kept None (Some a) cs n q z h k = h
holds_kept (Some c) None cs n q z h k = h
holds_kept (Some c) (Some a) cs n q z h k = (h.0, h.1, h.2, k c h.0 h.1 h.2 ∙ h.3)

-- a row on which a statement starts
pub record Starts (env : Env) (n : ℕ) (st : Option Area) (f : Frame) (q : List Cell) : Type 0 where
  pub long : length q ≡ n
  pub shows : cells_at q env.columns ≡ shown f
  pub holds : Holds env.stacked st env.columns n q

-- the hypothesis of the induction: the steps do what the statement does, and rows at other codes
-- pass
pub record Sim (w : Inputs) (o : List (List Cell)) (level : ℕ) (code : Emit)
    (d : Option Area → Doing) : Type 0 where
  pub passes : (env : Env) (here next n : ℕ) → Ready env here next n → (k : ℕ) → k < next →
      nat_eq k here ≡ false → (q : List Cell) → length q ≡ n →
      cell_at q 0 ≡ at k → run w o (code env here next n) q ≡ q
  pub lands : (env : Env) (here next n : ℕ) → Ready env here next n → env.level ≡ level →
      (st : Option Area) (f : Frame) (q : List Cell) →
      Starts env n st f q → cell_at q 0 ≡ at here → Lands env here n q (d st f)
      (run w o (code env here next n) q)

pub keeps_trans : (cs : List ℕ) (n : ℕ) (q y z : List Cell) → Keeps cs n q y → Keeps cs n y z →
    Keeps cs n q z
keeps_trans cs n q y z a b = λ i l u p. b i l u p ∙ a i l u p

pub lands_from : (env : Env) (here n : ℕ) (q y : List Cell) (e : End) (z : List Cell) →
    Keeps env.columns n q y → Lands env here n y e z → Lands env here n q e z
lands_from env here n q y e z k l = record {
  long = l.long;
  code = l.code;
  shows = l.shows;
  carries = l.carries;
  keeps = keeps_trans env.columns n q y z k l.keeps;
}

-- no outcome is at a code above here
pub place_low : (env : Env) (here : ℕ) → Under env here → (o : Outcome) → place_of env here o ≤ here
place_low env here u Next = omega arith
place_low env here u (Leaving l) = let e = u.labels l in omega arith
place_low env here u (Returning v) = omega arith
place_low env here u (Exiting l a) = let e = u.exits l in omega arith
place_low env here u (Raising a) = let e = u.out in omega arith

pub lands_same : (env : Env) (here n : ℕ) (q : List Cell) (e : End) (y z : List Cell) → z ≡ y →
    Lands env here n q e y → Lands env here n q e z
lands_same env here n q e y z h l = subst (λ (x : List Cell). Lands env here n q e x) (sym h) l

-- the second of two statements, after the first has ended
then_lands : (w : Inputs) (o : List (List Cell)) (level : ℕ) (b : Emit) (db : Option Area → Doing) →
    Sim w o level b db →
    (env : Env) (here next n : ℕ) → Ready env here next n → env.level ≡ level → (st : Option Area)
    (q : List Cell) → Holds env.stacked st env.columns n q →
    (out : Outcome) (f : Frame) (z : List Cell) → Lands env here n q
    (record { outcome = out; frame = f }) z →
    Lands env here n q (next_or out (db st) f) (run w o (b env here next n) z)
then_lands w o level b db sb env here next n r v st q h Next f z l =
    lands_from env here n q z (db st f) _ l.keeps
    (sb.lands env here next n r v st f z (record {
      long = l.long;
      shows = l.shows;
      holds = holds_kept env.stacked st env.columns n q z h l.keeps;
    }) l.code)
then_lands w o level b db sb env here next n r v st q h (Leaving k) f z l =
    let e = r.under.labels k in let g = r.before in
    lands_same env here n q _ z _ (sb.passes env here next n r (env.labels k) (omega arith)
    (lower_differs _ _ e) z l.long l.code) l
then_lands w o level b db sb env here next n r v st q h (Returning x) f z l =
    let e = r.under.some in let g = r.before in
    lands_same env here n q _ z _ (sb.passes env here next n r 0 (omega arith) (lower_differs _ _ e)
    z l.long l.code) l
then_lands w o level b db sb env here next n r v st q h (Exiting k a) f z l =
    let e = r.under.exits k in let g = r.before in
    lands_same env here n q _ z _ (sb.passes env here next n r (env.exits k) (omega arith)
    (lower_differs _ _ e) z l.long l.code) l
then_lands w o level b db sb env here next n r v st q h (Raising a) f z l =
    let e = r.under.out in let g = r.before in
    lands_same env here n q _ z _ (sb.passes env here next n r env.out (omega arith)
    (lower_differs _ _ e) z l.long l.code) l

pub in_turn_sim : (w : Inputs) (o : List (List Cell)) (level : ℕ) (a b : Emit)
    (da db : Option Area → Doing) → Sim w o level a da → Sim w o level b db →
    Sim w o level (λ env here next n. a env here next n ++ b env here next n)
    (λ st. in_turn (da st) (db st))
in_turn_sim w o level a b da db sa sb = record {
  passes = λ env here next n r k u d q l c.
      run_append w o (a env here next n) (b env here next n) q
      ∙ (ap (run w o (b env here next n)) (sa.passes env here next n r k u d q l c) ∙ sb.passes env
      here next n r k u d q l c);
  lands = λ env here next n r v st f q s c.
      lands_same env here n q (in_turn (da st) (db st) f) _ _
      (run_append w o (a env here next n) (b env here next n) q)
      (then_lands w o level b db sb env here next n r v st q s.holds (da st f).outcome
      (da st f).frame (run w o (a env here next n) q)
      (sa.lands env here next n r v st f q s c));
}

pub nothing_sim : (w : Inputs) (o : List (List Cell)) (level : ℕ) → Sim w o level
    (λ env here next n. []) (λ st. ends Next)
nothing_sim w o level = record {
  passes = λ env here next n r k u d q l c. refl;
  lands = λ env here next n r v st f q s c. record {
    long = s.long;
    code = c;
    shows = s.shows;
    carries = tt;
    keeps = λ i l u p. refl;
  };
}

-- ---- the handlers in sight, as trees, the innermost compound statement first

-- by a compound statement: its handlers, its level, and how many variables its actions see
pub data Seen : Type 0 where
  nowhere : Seen
  within : Handlers → ℕ → ℕ → Seen → Seen

-- the handlers in sight, by their meaning
abbrev pub scopes_of : Inputs → Seen → Scopes
scopes_of w nowhere = []
scopes_of w (within hs level variables outer) =
    record {
      handlings = handlings hs w level (scopes_of w outer);
      level = level;
      variables =
          variables;
    } ∷ scopes_of w outer

-- the handlers in sight, by their steps
abbrev pub codes_of : Inputs → Seen → Codes
codes_of w nowhere = []
codes_of w (within hs level variables outer) =
    record {
      handlers = coded hs (columns_in w) (codes_of w outer);
      level = level;
      variables =
          variables;
    } ∷ codes_of w outer

-- the place of a statement, by its meaning
abbrev pub context : Inputs → Seen → ℕ → Option Area → Context
context w seen level st = record { scopes = scopes_of w seen; level = level; stacked = st }

-- a statement is simulated
abbrev pub Simulated : Inputs → List (List Cell) → Seen → ℕ → Stmt → Type 0
Simulated w o seen level s = Sim w o level (emit s (columns_in w) (codes_of w seen))
    (λ st. does s w (context w seen level st))

-- each action in sight is
abbrev pub AllGood : Inputs → List (List Cell) → Handlers → ℕ → Seen → Type 0
AllGood w o NoHandler level outer = Unit {0}
AllGood w o (MoreHandlers kind takes action others) level outer = Simulated w o outer (suc level)
    action × AllGood w o others level outer

-- so is each action of all in sight
abbrev pub Good : Inputs → List (List Cell) → Seen → Type 0
Good w o nowhere = Unit {0}
Good w o (within hs level variables outer) = AllGood w o hs level outer × Good w o outer
