-- FOR in its midst, from one row to the next.
use Rattle.std.proofs.Common.{◌≡◌, ℕ, ◌<◌, ◌≤◌, ◌+◌, List, Result, Ok, Err, refl, sym, ap, ◌∙◌}
use Rattle.std.proofs.Common.{length, drop, get_or}
use Rattle.std.proofs.lemmas.List.{drop_all}
use Rattle.sql_texts.specs.declared.memory.NoMemory.{NoMemory}
use Rattle.row_types.specs.Rows.{Row}
use Rattle.rel_algebra.specs.World.{Frame, turn}
use Rattle.rel_algebra.specs.Doing.{Doing, End, Spent as NoTurn, ends, first_of, only_of}
use Rattle.rel_algebra.specs.Doing.{with_more}
use Rattle.rel_algebra.specs.Loops.{again_or, for_each}
use Rattle.run_choices.specs.declared.stop.Stop.TheVariants.{Spent}
use Rattle.run_expressions.specs.Content.{Content, world_of}
use Rattle.run_expressions.specs.Ending.{Ended}
use Rattle.run_expressions.proofs.Laws.{rest}
use Rattle.run_expressions.proofs.Laws.{stays_on}
use Rattle.run_outcomes.specs.declared.levels.AfterBody.TheVariants.{Again, Ends as IsEnd}
use Rattle.run_outcomes.specs.declared.outcome.Outcome.{Outcome}
use Rattle.run_outcomes.specs.declared.outcome.Outcome.TheVariants as held
use Rattle.run_outcomes.specs.Outcomes.{outcome_of, follows}
use Rattle.run_places.specs.Ran.{Ran}
use Rattle.run_places.proofs.Underway.{Underway, ends_here, moves_on}
use Rattle.statement_laws.proofs.Laws.{rows_go_on}

-- no row is left
pub rows_end : (level : ℕ) (rows : List Row) (i : ℕ) (body : Doing) (f : Frame)
    (old now : Content) (whole : End) (r : Result Outcome NoMemory) → length rows ≤ i →
    Underway old now (for_each level (drop i rows) body f (world_of now)) whole →
    r ≡ Ok held.Next → Ran old now f r whole
rows_end level rows i body f old now whole r h u is =
    ends_here old now (for_each level (drop i rows) body f (world_of now)) whole held.Next f r u
    (rows_go_on.none level (drop i rows) body f (world_of now) (drop_all i rows h)) is

module _ (level : ℕ) (rows : List Row) (i : ℕ) (row : Row) (body : Doing) (f : Frame)
    (old now mid : Content) (whole : End) (within : i < length rows)
    (is : row ≡ get_or rows i row)
    (u : Underway old now (for_each level (drop i rows) body f (world_of now)) whole) where
  -- no turn is left
  pub rows_spent : (r : Result Outcome NoMemory) →
      Ended {A = Unit {0}} now mid (Err Spent) (turn (world_of now)) → r ≡ Ok held.Spent →
      Ran old mid f r whole
  rows_spent r t answer =
      ends_here old mid (ends NoTurn f (world_of mid)) whole held.Spent f r
      (moves_on old now mid (for_each level (drop i rows) body f (world_of now))
      (ends NoTurn f (world_of mid)) whole u
      (rows_go_on.spent level (drop i rows) row (drop (i + 1) rows) body f (world_of now)
      (world_of mid) (rest rows i row within is) t.tells) t.stays) refl answer

  -- the body ends the loop
  pub rows_over : (g h j : Frame) (new : Content) (o p : Outcome) (r : Result Outcome NoMemory) →
      Ended now mid (Ok tt) (turn (world_of now)) → g ≡ with_more row f →
      Ran mid new h (Ok o) (body g (world_of mid)) →
      j ≡ first_of (length f.variables) (length f.cursors) h →
      ((go : Doing) → again_or level (outcome_of o) go ≡ follows (IsEnd p) go) → r ≡ Ok p →
      Ran old new j r whole
  rows_over g h j new o p r t more d cut over answer =
      ends_here old new (ends (outcome_of p) (only_of f h) (world_of new)) whole p j r
      (moves_on old now new (for_each level (drop i rows) body f (world_of now))
      (ends (outcome_of p) (only_of f h) (world_of new)) whole u
      (rows_go_on.over level (drop i rows) row (drop (i + 1) rows) body f h (world_of now)
      (world_of mid) (world_of new) (outcome_of o) (outcome_of p) (rest rows i row within is)
      t.tells (ap (λ (x : Frame). body x (world_of mid)) (sym more) ∙ d.tells) over)
      (stays_on now mid new t.stays d.stays))
      (ap (λ (x : Frame). ends (outcome_of p) x (world_of new)) (sym cut)) answer

  -- the next row follows
  pub rows_again : (g h j : Frame) (new : Content) (o : Outcome) →
      Ended now mid (Ok tt) (turn (world_of now)) → g ≡ with_more row f →
      Ran mid new h (Ok o) (body g (world_of mid)) →
      j ≡ first_of (length f.variables) (length f.cursors) h →
      ((go : Doing) → again_or level (outcome_of o) go ≡ follows Again go) →
      Underway old new (for_each level (drop (i + 1) rows) body j (world_of new)) whole
  rows_again g h j new o t more d cut again =
      moves_on old now new (for_each level (drop i rows) body f (world_of now))
      (for_each level (drop (i + 1) rows) body j (world_of new)) whole u
      (rows_go_on.again level (drop i rows) row (drop (i + 1) rows) body f h (world_of now)
      (world_of mid) (world_of new) (outcome_of o) (rest rows i row within is) t.tells
      (ap (λ (x : Frame). body x (world_of mid)) (sym more) ∙ d.tells) again
      ∙ ap (λ (x : Frame). for_each level (drop (i + 1) rows) body x (world_of new)) (sym cut))
      (stays_on now mid new t.stays d.stays)
