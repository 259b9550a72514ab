-- Runs of statements, over any step: the replies one after the other, and the database that they
-- leave.
use Rattle.std.specs.Prelude.{◌≡◌, ◌<◌, ◌≤◌, ℕ, Bool, List, [], ◌∷◌, flat_map}
use Rattle.std.specs.List.{list_any}
use Rattle.program_status.specs.Replies.{is_exception}

-- One statement: at this place it takes the one database to the other, with this reply, and the
-- next one begins at `to`.
abbrev pub Step : Type 0 → Type 1
Step D = ℕ → D → List ℕ → ℕ → D → Type 0

-- the statements from a place on, one by one: their replies, where the next one begins, and the
-- database that they leave
abbrev pub Runs : {D : Type 0} → Step D → ℕ → D → List (List ℕ) → ℕ → D → Type 0
Runs step at before [] to after = (to ≡ at) × (after ≡ before)
Runs {D} step at before (reply ∷ replies) to after = (mid : ℕ) × (between : D) ×
    step at before reply mid between × Runs step mid between replies to after

-- A statement at a place has one outcome. And none begins at the end.
pub record IsDetermined {D : Type 0} (step : Step D) (end : ℕ) : Type 0 where
  pub one : (at : ℕ) (before : D) (reply reply' : List ℕ) (to to' : ℕ) (after after' : D) →
      step at before reply to after → step at before reply' to' after' → (reply ≡ reply') ×
      (to ≡ to') × (after ≡ after')
  pub ends : (before : D) (reply : List ℕ) (to : ℕ) (after : D) → step end before reply to after → ⊥

-- a statement at this place has an outcome, which leaves a sound database, and the next one begins
-- further on, up to the end
abbrev pub GoesOn : {D : Type 0} → (D → Type 0) → Step D → ℕ → ℕ → D → Type 0
GoesOn {D} Sound step end at before = (reply : List ℕ) × (to : ℕ) × (after : D) ×
    step at before reply to after × Sound after × (at < to) × (to ≤ end)

-- so at each place before the end, whatever the sound database
abbrev pub AlwaysGoesOn : {D : Type 0} → (D → Type 0) → Step D → ℕ → Type 0
AlwaysGoesOn {D} Sound step end = (at : ℕ) (before : D) → Sound before → at < end →
    GoesOn Sound step end at before

-- one of the replies tells of an exception or a fault
abbrev pub has_exception : List (List ℕ) → Bool
has_exception replies = list_any is_exception replies

-- all that a run writes: the replies joined
abbrev pub whole : List (List ℕ) → List ℕ
whole replies = flat_map (λ r. r) replies
