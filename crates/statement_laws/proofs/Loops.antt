-- Loops, from one run of the body to the next.
use Rattle.std.proofs.Common.{ℕ, ◌≡◌, ◌<◌, ◌≤◌, zero, suc, Bool, true, false, List, ◌∷◌, refl}
use Rattle.std.proofs.Common.{true≢false, sym, ap, ◌∙◌, arith, if◌then◌else◌}
use Rattle.sql_values.specs.declared.value.Value.{Value}
use Rattle.sql_values.specs.Values.{is_true}
use Rattle.row_types.specs.Rows.{Row}
use Rattle.rel_algebra.specs.World.{World, Frame, Ends, Eval, Gives, Raises, RunsOut, unit, turn}
use Rattle.rel_algebra.specs.World.{turn_of}
use Rattle.rel_algebra.specs.Doing.{Doing, End, Outcome, Next, Spent, ends, left_by}
use Rattle.rel_algebra.specs.Handlers.{Scopes, with_end}
use Rattle.rel_algebra.specs.Loops.{again_of, running, turning_of, loop}
use Rattle.rel_algebra.specs.Loops.{while_true, until_true, for_each, with_row}
use Rattle.statement_laws.specs.Loops.{PassesTo, StopsWith, LoopTests, GoesAgain, IsOver, RunsBody}
use Rattle.statement_laws.specs.Loops.{BodyLeft, LoopGoesOn, RowsGoOn}

-- ---- tests

module _ (scopes : Scopes) (test : Frame → Eval Value) (f : Frame) (w : World) where
  -- WHILE, by the end of its test
  while_by : (e : Ends Value) → unit (test f) w ≡ e → (go : Doing) →
      while_true scopes test go f w ≡
      with_end scopes e f (λ v. if is_true v then go else ends Next)
  while_by e h go = ap (λ (x : Ends Value).
      with_end scopes x f (λ v. if is_true v then go else ends Next)) h

  while_if : (u : World) (v : Value) (b : Bool) → unit (test f) w ≡ Gives v u → is_true v ≡ b →
      (go : Doing) → while_true scopes test go f w ≡ (if b then go else ends Next) f u
  while_if u v b h is go = while_by (Gives v u) h go ∙
      ap (λ (x : Bool). (if x then go else ends Next) f u) is

  -- REPEAT, by the end of its test
  until_by : (e : Ends Value) → unit (test f) w ≡ e → (go : Doing) →
      until_true scopes test go f w ≡
      with_end scopes e f (λ v. if is_true v then ends Next else go)
  until_by e h go = ap (λ (x : Ends Value).
      with_end scopes x f (λ v. if is_true v then ends Next else go)) h

  until_if : (u : World) (v : Value) (b : Bool) → unit (test f) w ≡ Gives v u → is_true v ≡ b →
      (go : Doing) → until_true scopes test go f w ≡ (if b then ends Next else go) f u
  until_if u v b h is go = until_by (Gives v u) h go ∙
      ap (λ (x : Bool). (if x then ends Next else go) f u) is

pub loop_tests : LoopTests
loop_tests = record {
  at_once = λ f w go. refl;
  while_goes = λ scopes test f w u v h is. while_if scopes test f w u v true h is;
  while_ends = λ scopes test f w u v h is. while_if scopes test f w u v false h is;
  while_raises = λ scopes test f w u area h. while_by scopes test f w (Raises area u) h;
  while_runs_out = λ scopes test f w u h. while_by scopes test f w (RunsOut u) h;
  until_goes = λ scopes test f w u v h is. until_if scopes test f w u v false h is;
  until_ends = λ scopes test f w u v h is. until_if scopes test f w u v true h is;
  until_raises = λ scopes test f w u area h. until_by scopes test f w (Raises area u) h;
  until_runs_out = λ scopes test f w u h. until_by scopes test f w (RunsOut u) h;
}

-- ---- turns

-- what an end of a turn says of a loop that takes it
abbrev turned : Ends (Unit {0}) → Doing → Frame → End
turned (Gives t u) go f = go f u
turned (Raises area u) go f = ends Spent f u
turned (RunsOut u) go f = ends Spent f u

turning_by : (n : ℕ) (go : Doing) (f : Frame) (w : World) →
    turning_of n go f w ≡ turned (turn_of n w) go f
turning_by zero go f w = refl
turning_by (suc n) go f w = refl

run_by : (level : ℕ) (body go : Doing) (f : Frame) (w : World) (e : Ends (Unit {0})) →
    turn w ≡ e → running level body go f w ≡ turned e (λ f u. again_of level (body f u) go) f
run_by level body go f w e h =
    turning_by w.turns (λ f u. again_of level (body f u) go) f w
    ∙ ap (λ (x : Ends (Unit {0})). turned x (λ f u. again_of level (body f u) go) f) h

-- the world that a turn leaves
abbrev left_in : {A : Type 0} → Ends A → World
left_in (Gives a u) = u
left_in (Raises area u) = u
left_in (RunsOut u) = u

-- whether one was left
abbrev was_left : {A : Type 0} → Ends A → Bool
was_left (Gives a u) = true
was_left (Raises area u) = false
was_left (RunsOut u) = false

one_fewer : (n : ℕ) (w : World) → was_left (turn_of n w) ≡ true →
    suc (left_in (turn_of n w)).turns ≡ n
one_fewer zero w h = absurd (true≢false (sym h))
one_fewer (suc n) w h = refl

pub fewer : (w u : World) → turn w ≡ Gives tt u → suc u.turns ≡ w.turns
fewer w u h =
    ap (λ (e : Ends (Unit {0})). suc (left_in e).turns) (sym h)
    ∙ one_fewer w.turns w (ap (λ (e : Ends (Unit {0})). was_left e) h)

-- ---- runs

again_goes : (level : ℕ) (body go : Doing) (f g : Frame) (u x : World) (o : Outcome) →
    body f u ≡ ends o g x → GoesAgain level o → again_of level (body f u) go ≡ go g x
again_goes level body go f g u x o h is =
    ap (λ (e : End). again_of level e go) h ∙ ap (λ (d : Doing). d g x) (is go)

over_ends : (level : ℕ) (body go : Doing) (f g : Frame) (u x : World) (o p : Outcome) →
    body f u ≡ ends o g x → IsOver level o p → again_of level (body f u) go ≡ ends p g x
over_ends level body go f g u x o p h is =
    ap (λ (e : End). again_of level e go) h ∙ ap (λ (d : Doing). d g x) (is go)

pub runs_body : RunsBody
runs_body = record {
  turns = λ level body go f w u h. run_by level body go f w (Gives tt u) h;
  spent = λ level body go f w u h. run_by level body go f w (RunsOut u) h;
  again = again_goes;
  over = over_ends;
  fewer = fewer;
}

-- ---- loops

module _ (level : ℕ) (before : Doing → Doing) (body : Doing) (afterwards : Doing → Doing)
    (whole : End) where
  -- what follows a run of the body
  abbrev rest : ℕ → Doing
  rest n = afterwards (loop n level before body afterwards)

  passes : (f : Frame) (w u : World) (n : ℕ) → w.turns < n →
      loop n level before body afterwards f w ≡ whole → PassesTo before f w u →
      u.turns ≤ w.turns → BodyLeft level before body afterwards f u whole
  passes f w u zero above same test less = absurd (omega (arith, above))
  passes f w u (suc n) above same test less = record {
    runs = n;
    above = omega (arith, above, less);
    same = sym (test (running level body (rest n))) ∙ same;
  }

  stops : (f : Frame) (w : World) (e : End) (n : ℕ) → w.turns < n →
      loop n level before body afterwards f w ≡ whole → StopsWith before f w e → whole ≡ e
  stops f w e zero above same test = absurd (omega (arith, above))
  stops f w e (suc n) above same test = sym same ∙ test (running level body (rest n))

  pub loop_goes_on : LoopGoesOn level before body afterwards whole
  loop_goes_on = record {
    starts = λ f w h. record { runs = suc w.turns; above = omega arith; same = h };
    passes = λ f w u l test less. passes f w u l.runs l.above l.same test less;
    stops = λ f w e l test. stops f w e l.runs l.above l.same test;
    turns = λ f w u l taken. let one = fewer w u taken in let top = l.above in record {
      runs = l.runs;
      above = omega (arith, one, top);
      same = sym (run_by level body (rest l.runs) f w (Gives tt u) taken) ∙ l.same;
    };
    spent = λ f w u l none.
        sym l.same ∙ run_by level body (rest l.runs) f w (RunsOut u) none;
    again = λ f g w u o l h is less. let top = l.above in record {
      runs = l.runs;
      above = omega (arith, less, top);
      same = sym (again_goes level body (rest l.runs) f g w u o h is) ∙ l.same;
    };
    over = λ f g w u o p l h is. sym l.same ∙ over_ends level body (rest l.runs) f g w u o p h is;
    goes = λ f w u l test less. let top = l.above in record {
      runs = l.runs;
      above = omega (arith, less, top);
      same = sym (test (loop l.runs level before body afterwards)) ∙ l.same;
    };
    ended = λ f w e l test.
        sym l.same ∙ test (loop l.runs level before body afterwards);
  }

-- ---- FOR

module _ (level : ℕ) (rows : List Row) (row : Row) (more : List Row) (body : Doing) (f : Frame)
    (w : World) where
  row_by : (e : Ends (Unit {0})) → rows ≡ row ∷ more → turn w ≡ e →
      for_each level rows body f w ≡ turned e
      (λ f u. again_of level (with_row row body f u) (for_each level more body)) f
  row_by e is h =
      ap (λ (rs : List Row). for_each level rs body f w) is
      ∙ run_by level (with_row row body) (for_each level more body) f w e h

pub rows_go_on : RowsGoOn
rows_go_on = record {
  none = λ level rows body f w is. ap (λ (rs : List Row). for_each level rs body f w) is;
  spent = λ level rows row more body f w u is h.
      row_by level rows row more body f w (RunsOut u) is h;
  again = λ level rows row more body f g w u x o is h done goes.
      row_by level rows row more body f w (Gives tt u) is h
      ∙ again_goes level (with_row row body) (for_each level more body) f _ u x o
      (ap (left_by f) done) goes;
  over = λ level rows row more body f g w u x o p is h done out.
      row_by level rows row more body f w (Gives tt u) is h
      ∙ over_ends level (with_row row body) (for_each level more body) f _ u x o p
      (ap (left_by f) done) out;
}
