-- Worked rows: the greatest height of a routine.
use Rattle.std.specs.Prelude.{◌≡◌, [], ◌∷◌, codes}
use Rattle.syntax_trees.specs.declared.anchor.Ident.{Ident}
use Rattle.bind_faults.specs.declared.fault.FaultKind.TheVariants.{TooHigh}
use Rattle.bind_rules.specs.Heights.{height_above, too_high}

-- a name at the third token
abbrev pub named : Ident
named = record { name = codes "F"; anchor = record { token = 2; line = 1; column = 3 } }

-- what stands above height 7 is of height 8, and nothing stands above that
pub record HeightsEnd : Type 0 where
  pub lowest : height_above 0 ≡ 1
  pub greatest : height_above 7 ≡ 8
  pub no_greater : height_above 8 ≡ 8
  pub within : too_high named 7 ≡ []
  pub above : too_high named 8 ≡ record { at = named.anchor; kind = TooHigh } ∷ []
