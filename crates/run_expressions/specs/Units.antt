-- What a unit that stops leaves. ISO/IEC 9075-2, 4.17 (SQL-statements and atomicity).
use Rattle.std.specs.Prelude.{ℕ, ◌≡◌, Bool, true, false}
use Rattle.run_choices.specs.declared.stop.Stop.{Stop}
use Rattle.run_choices.specs.Units.{is_taken_back}
use Rattle.run_expressions.specs.Content.{Content, IsBackAt}

-- back at a mark, or as it was
abbrev pub IsBackIf : Bool → ℕ → Content → Content → Type 0
IsBackIf true mark old new = IsBackAt mark old new
IsBackIf false mark old new = new ≡ old

-- back at its mark where it is taken back, and else as it was
abbrev pub IsLeft : Stop → ℕ → Content → Content → Type 0
IsLeft stop mark old new = IsBackIf (is_taken_back stop) mark old new
