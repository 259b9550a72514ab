-- Runs over any step: there is one where each place before the end has an outcome that goes
-- further, and no other where each step is determined.
use Rattle.std.proofs.Common.{◌≡◌, ℕ, zero, suc, ◌<◌, ◌≤◌, ◌+◌, ◌-◌, List, [], ◌∷◌, ◌++◌, refl, sym}
use Rattle.std.proofs.Common.{◌∙◌, ap₂, subst, arith}
use Rattle.psm_program.specs.Script.{Step, Runs, IsDetermined, GoesOn, AlwaysGoesOn}

module _ {D : Type 0} (Sound : D → Type 0) (step : Step D) (end : ℕ)
    (goes : AlwaysGoesOn Sound step end) where
  -- so many places before the end
  run_from : (fuel left at : ℕ) (before : D) → Sound before → left ≤ fuel → at + left ≡ end →
      (replies : List (List ℕ)) × (after : D) × Runs step at before replies end after
  run_from fuel zero at before sound few is = ([], before, (omega (arith, is), refl))
  run_from zero (suc left) at before sound few is = absurd (omega arith)
  run_from (suc fuel) (suc left) at before sound few is =
      let s : GoesOn Sound step end at before = goes at before sound (omega arith) in
      let further : at < s.1 = s.5 in
      let within : s.1 ≤ end = s.6 in
      let later = run_from fuel (end - s.1) s.1 s.2 s.4 (omega arith) (omega arith) in
      (s.0 ∷ later.0, later.1, (s.1, s.2, s.3, later.2))

  -- There is a run to the end.
  pub some_run : (before : D) → Sound before → (replies : List (List ℕ)) × (after : D) ×
      Runs step 0 before replies end after
  some_run before sound = run_from end end 0 before sound (omega arith) (omega arith)

module _ {D : Type 0} (step : Step D) (end : ℕ) (one : IsDetermined step end) where
  -- Two runs to the end give the same replies and the same database.
  pub runs_same : (at : ℕ) (before : D) (rs rs' : List (List ℕ)) (after after' : D) →
      Runs step at before rs end after → Runs step at before rs' end after'
      → (rs ≡ rs') × (after ≡ after')
  runs_same at before [] [] after after' p q = (refl, p.1 ∙ sym q.1)
  runs_same at before [] (r' ∷ rs') after after' p q =
      absurd (one.ends before r' q.0 q.1 (subst (λ (k : ℕ). step k before r' q.0 q.1)
      (sym p.0) q.2))
  runs_same at before (r ∷ rs) [] after after' p q =
      absurd (one.ends before r p.0 p.1 (subst (λ (k : ℕ). step k before r p.0 p.1) (sym q.0) p.2))
  runs_same at before (r ∷ rs) (r' ∷ rs') after after' p q =
      let same = one.one at before r r' p.0 q.0 p.1 q.1 p.2 q.2 in
      let there : Runs step q.0 p.1 rs end after =
      subst (λ (k : ℕ). Runs step k p.1 rs end after) same.1 p.3 in
      let from : Runs step q.0 q.1 rs end after =
      subst (λ (d : D). Runs step q.0 d rs end after) same.2 there in
      let later = runs_same q.0 q.1 rs rs' after after' from q.3 in
      (ap₂ (λ x xs. x ∷ xs) same.0 later.0, later.1)

  -- A run that stops before the end is a front of the one that does not.
  pub runs_front : (at : ℕ) (before : D) (few rs : List (List ℕ)) (to : ℕ) (mid last : D) →
      Runs step at before few to mid → Runs step at before rs end last
      → (more : List (List ℕ)) × (rs ≡ few ++ more)
  runs_front at before [] rs to mid last p q = (rs, refl)
  runs_front at before (f ∷ few) [] to mid last p q =
      absurd (one.ends before f p.0 p.1 (subst (λ (k : ℕ). step k before f p.0 p.1) (sym q.0) p.2))
  runs_front at before (f ∷ few) (r ∷ rs) to mid last p q =
      let same = one.one at before r f q.0 p.0 q.1 p.1 q.2 p.2 in
      let there : Runs step p.0 q.1 rs end last =
      subst (λ (k : ℕ). Runs step k q.1 rs end last) same.1 q.3 in
      let from : Runs step p.0 p.1 rs end last =
      subst (λ (d : D). Runs step p.0 d rs end last) same.2 there in
      let later = runs_front p.0 p.1 few rs to mid last p.3 from in
      (later.0, ap₂ (λ x xs. x ∷ xs) same.0 later.1)
