-- What a unit that stops leaves, and how it ends.
use Rattle.std.proofs.Common.{ℕ, ◌≡◌, ◌≤◌, Bool, true, false, sym, ap, ◌∙◌, subst, length}
use Rattle.std.proofs.Common.{Err, if◌then◌else◌}
use Rattle.sql_conditions.specs.Conditions.{state_in}
use Rattle.sql_conditions.specs.States.{is_exception}
use Rattle.atomic_undo.proofs.Laws.{KeepsMarks-rolled_back, back_to-run}
use Rattle.rel_algebra.specs.World.{Ends, Raises, RunsOut, with_tables, unit_of}
use Rattle.run_choices.specs.declared.stop.Stop.{Stop}
use Rattle.run_choices.specs.declared.stop.Stop.TheVariants.{Raised, Spent, NoMemory}
use Rattle.run_choices.specs.Units.{is_taken_back}
use Rattle.run_expressions.specs.Content.{Content, IsBackAt, Stays, world_of}
use Rattle.run_expressions.specs.Ending.{Ended}
use Rattle.run_expressions.specs.Units.{IsBackIf, IsLeft}

-- it is back at its mark
pub left_back : (s : Stop) (mark : ℕ) (old new : Content) → is_taken_back s ≡ true →
    IsBackAt mark old new → IsLeft s mark old new
left_back s mark old new is back = subst (λ (b : Bool). IsBackIf b mark old new) (sym is) back

-- it leaves all as it is
pub left_same : (s : Stop) (mark : ℕ) (old new : Content) → is_taken_back s ≡ false → new ≡ old →
    IsLeft s mark old new
left_same s mark old new is same = subst (λ (b : Bool). IsBackIf b mark old new) (sym is) same

module _ (old now new : Content) (stays : Stays old now) where
  -- where it was when the unit began
  abbrev start : ℕ
  start = length old.book.entries

  -- back there, each mark from before it is kept
  stays_back : IsBackAt start now new → Stays old new
  stays_back back = record {
    marks = KeepsMarks-rolled_back old.memory old.book now.memory now.book new.memory new.book
        stays.marks back.entries back.earlier;
    active = back.active ∙ stays.active;
    turns = subst (λ n. n ≤ old.turns) (sym back.turns) stays.turns;
  }

  -- and the tables are those of then
  world_back : IsBackAt start now new → with_tables (world_of now) old.memory.tables ≡ world_of new
  world_back back =
      ap (λ ts. record { tables = ts; turns = now.turns; active = now.active })
      (sym (back.tables ∙ back_to-run old.memory old.book now.memory now.book stays.marks))
      ∙ ap (λ n. record { tables = new.memory.tables; turns = n; active = now.active })
      (sym back.turns)
      ∙ ap (λ n. record { tables = new.memory.tables; turns = new.turns; active = n })
      (sym back.active)

  -- what it keeps, whether it is taken back or not
  stays_if : (b : Bool) → IsBackIf b start now new → Stays old new
  stays_if true back = stays_back back
  stays_if false same = subst (λ (n : Content). Stays old n) (sym same) stays

  -- and the world that it leaves
  world_if : (b : Bool) → IsBackIf b start now new →
      (if b then with_tables (world_of now) old.memory.tables else world_of now) ≡ world_of new
  world_if true back = world_back back
  world_if false same = ap world_of (sym same)

-- a unit that stops ends as its evaluation does, its own changes taken back where that raises an
-- exception
unit_left : {A : Type 0} (old now new : Content) (s : Stop) (e : Ends A) →
    Ended {A = A} old now (Err s) e → IsLeft s (length old.book.entries) now new →
    Ended {A = A} old new (Err s) (unit_of (world_of old) e)
unit_left old now new (Raised area) e d left = record {
  tells = ap (unit_of (world_of old)) d.tells ∙
      ap (Raises area) (world_if old now new d.stays (is_exception (state_in area)) left);
  stays = stays_if old now new d.stays (is_exception (state_in area)) left;
}
unit_left old now new Spent e d left = record {
  tells = ap (unit_of (world_of old)) d.tells ∙ ap RunsOut (world_if old now new d.stays false left);
  stays = stays_if old now new d.stays false left;
}
unit_left old now new NoMemory e d left =
    record { tells = tt; stays = stays_if old now new d.stays true left }

-- the same of the mark that was taken when it began
pub unit_stops : {A : Type 0} (old now new : Content) (mark : ℕ) (s t : Stop) (e : Ends A) →
    mark ≡ length old.book.entries → Ended {A = A} old now (Err s) e → IsLeft s mark now new →
    t ≡ s → Ended {A = A} old new (Err t) (unit_of (world_of old) e)
unit_stops {A} old now new mark s t e at d left same =
    subst (λ (x : Stop). Ended {A = A} old new (Err x) (unit_of (world_of old) e)) (sym same)
    (unit_left old now new s e d (subst (λ (m : ℕ). IsLeft s m now new) at left))
