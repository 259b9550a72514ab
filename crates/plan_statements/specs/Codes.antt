-- The codes of compound statements.
use Rattle.std.specs.Prelude.{ℕ, suc, ◌+◌, List, [], ◌∷◌}
use Rattle.bound_trees.specs.declared.statement.BoundHandler.{BoundHandler}
use Rattle.rel_algebra.specs.BodyChain.{its_own}
use Rattle.rel_algebra.specs.BodyDispatch.{Coded, scope_arms}
use Rattle.rel_algebra.specs.BodySteps.{Step, acts, store, only, tag}
use Rattle.rel_algebra.specs.Plan.{no_node, word, case_word}
use Rattle.plan_statements.specs.declared.compound.BlockCodes.{BlockCodes}
use Rattle.plan_steps.specs.declared.place.Marks.{Marks}

-- the codes of a compound statement with k handlers, from one on
abbrev pub codes_for : ℕ → ℕ → BlockCodes
codes_for sealing k = record {
  sealing = sealing;
  exit = suc sealing;
  runs = suc (suc sealing);
  first = suc (suc (suc sealing));
  free = suc (suc (suc sealing)) + k;
}

-- the first of two marks, where there are handlers
abbrev pub own_if : List BoundHandler → Marks → Marks → Marks
own_if [] own outer = outer
own_if (h ∷ hs) own outer = own

-- at its end on at the code of the handler that takes the area
abbrev pub ending_test : List Coded → BlockCodes → ℕ → ℕ → Step
ending_test own codes exit n = acts codes.exit no_node n (store 0 (word case_word
    (scope_arms its_own own codes.first 2 (only (tag exit)))) ∷ []) n []
