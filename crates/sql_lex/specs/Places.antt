-- Where a byte stands: lines are counted by LF and columns by bytes, both from 1.
use Rattle.std.specs.Prelude.{ℕ, ◌+◌, nat_eq, List, [], ◌∷◌, if◌then◌else◌}
use Rattle.sql_lex.specs.declared.position.Position.{Position}

-- the place of the first byte
abbrev pub origin : Position
origin = record { at = 0; line = 1; column = 1 }

-- the place right after a byte that stands at a place: a LF ends its line
abbrev pub moved : ℕ → Position → Position
moved b p =
    if nat_eq b 10 then record { at = p.at + 1; line = p.line + 1; column = 1 }
    else record { at = p.at + 1; line = p.line; column = p.column + 1 }

-- the place right after these bytes
abbrev pub past : List ℕ → Position → Position
past [] p = p
past (b ∷ bs) p = past bs (moved b p)
