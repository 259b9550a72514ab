-- Turns, and routines that call themselves, by what the world's calls say of it. ISO/IEC 9075-2,
-- 10.4 (routine invocation).
use Rattle.std.proofs.Common.{ℕ, ◌≡◌, suc, ◌-◌, ◌+◌, refl, sym, ap, ◌∙◌, subst, arith}
use Rattle.std.proofs.Common.{Result, Ok, Err, List}
use Rattle.sql_values.specs.declared.value.Value.{Value}
use Rattle.rel_algebra.specs.World.{Ends, Answering, turn, after, with_active}
use Rattle.rel_algebra.specs.World.{activation}
use Rattle.run_choices.specs.declared.stop.Stop.{Stop}
use Rattle.run_choices.specs.declared.stop.Stop.TheVariants.{Raised, Spent, NoMemory}
use Rattle.run_choices.specs.Ending.{Tells}
use Rattle.run_expressions.specs.Content.{Content, world_of, Stays, turned, counted}
use Rattle.run_expressions.specs.Ending.{Ended}
use Rattle.run_expressions.proofs.Stays.{stays_same, stays_on}

-- fewer turns are left, and all else stays
stays_turned : (n : ℕ) (c : Content) → Stays c (turned (c.turns - n) c)
stays_turned n c = record {
  marks = (stays_same c).marks;
  active = refl;
  turns = omega arith;
}

-- a turn is taken, or none is left
pub turn_ends : (old new : Content) (r : Result (Unit {0}) Stop) →
    Tells (world_of new) r (turn (world_of old)) → new ≡ turned (old.turns - 1) old →
    Ended old new r (turn (world_of old))
turn_ends old new r tells is = record {
  tells = tells;
  stays = subst (λ (c : Content). Stays old c) (sym is) (stays_turned 1 old);
}

-- the end of a body, with as many active routines as before it
counted_tells : {A : Type 0} (n : ℕ) (out : Content) (r : Result A Stop) (e : Ends A) →
    Tells (world_of out) r e → Tells (world_of (counted n out)) r (with_active n e)
counted_tells n out (Ok a) e h = ap (with_active n) h
counted_tells n out (Err (Raised area)) e h = ap (with_active n) h
counted_tells n out (Err Spent) e h = ap (with_active n) h
counted_tells n out (Err NoMemory) e h = tt

module _ {A : Type 0} (room : ℕ) (body : Answering A → Answering A) (values : List Value)
    (old now out : Content) (r : Result A Stop) where
  -- with one more active routine
  abbrev started : Content
  started = counted (suc now.active) now

  -- the end of the body
  abbrev body_end : Ends A
  body_end = body (activation room body) values (world_of started)

  activated : Ended old now (Ok tt) (turn (world_of old)) →
      activation (suc room) body values (world_of old) ≡ with_active now.active body_end
  activated taken =
      let one : now.active + 1 ≡ suc now.active = omega arith in
      ap (λ (e : Ends (Unit {0})). after e (λ t w. with_active w.active
      (body (activation room body) values (record w { active = w.active + 1 })))) taken.tells
      ∙ ap (λ n. with_active now.active (body (activation room body) values
      (record { tables = now.memory.tables; turns = now.turns; active = n }))) one

  ended_same : (n : ℕ) → n ≡ now.active → out.active ≡ suc now.active →
      Ended old now (Ok tt) (turn (world_of old)) → Ended started out r body_end →
      Ended old (counted n out) r (activation (suc room) body values (world_of old))
  ended_same n same one taken d = record {
    tells = subst (λ (e : Ends A). Tells (world_of (counted n out)) r e)
        (ap (λ k. with_active k body_end) same ∙ sym (activated taken))
        (counted_tells n out r body_end d.tells);
    stays = record {
      marks = (stays_on old now (counted now.active out) taken.stays (record {
        marks = d.stays.marks;
        active = refl;
        turns = d.stays.turns;
      })).marks;
      active = same ∙ taken.stays.active;
      turns = omega (arith, d.stays.turns, taken.stays.turns);
    };
  }

  -- A routine that calls itself, with room for one more: a turn is taken, one more is active, the
  -- body is run, and one less is active.
  pub activation_ends : (inner new : Content) → Ended old now (Ok tt) (turn (world_of old)) →
      inner ≡ counted (suc now.active) now →
      Ended inner out r (body (activation room body) values (world_of inner)) →
      new ≡ counted (out.active - 1) out →
      Ended old new r (activation (suc room) body values (world_of old))
  activation_ends inner new taken is d put_back =
      let ran : Ended started out r body_end = subst (λ (c : Content).
      Ended c out r (body (activation room body) values (world_of c))) is d in
      subst (λ (c : Content). Ended old c r (activation (suc room) body values (world_of old)))
      (sym put_back) (ended_same (out.active - 1) (omega (arith, ran.stays.active))
      ran.stays.active taken ran)
