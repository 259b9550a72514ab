-- Columns in a row, and how often a name stands among them. ISO/IEC 9075-2, 5.4 (names) and 6.6
-- (identifier chain).
use Rattle.std.specs.Prelude.{◌≡◌, ℕ, ◌+◌, Bool, false, if◌then◌else◌, List, [], ◌∷◌, Option, Some}
use Rattle.std.specs.Prelude.{None}
use Rattle.std.specs.Map.{lookup}
use Rattle.std.specs.Str.{bytes_eq}
use Rattle.bind_kinds.specs.declared.kind.Kind.{Kind}
use Rattle.bind_sight.specs.declared.output.Output.{Output}
use Rattle.bind_sight.specs.declared.output.Hit.{Hit}
use Rattle.bind_sight.specs.declared.output.Hit.TheVariants.{Nowhere, Once, Twice}

-- one column more of the name
abbrev pub once_more : Hit → ℕ → Kind → Hit
once_more Nowhere place kind = Once place kind
once_more (Once p k) place kind = Twice
once_more Twice place kind = Twice

-- whether a column has this name; one without a name has none
abbrev pub is_name : List ℕ → Option (List ℕ) → Bool
is_name name None = false
is_name name (Some own) = bytes_eq own name

-- how often a name stands among columns that begin at a place, after those that were looked at
abbrev pub hits_from : List ℕ → ℕ → Hit → List Output → Hit
hits_from name place hit [] = hit
hits_from name place hit (c ∷ cs) = hits_from name (place + 1)
    (if is_name name c.name then once_more hit place c.kind else hit) cs

-- how often a name stands among columns
abbrev pub hits : List ℕ → List Output → Hit
hits name cs = hits_from name 0 Nowhere cs

-- ---- of several items

-- in one of two items, or in both
abbrev pub together : Hit → Hit → Hit
together Nowhere other = other
together (Once place kind) Nowhere = Once place kind
together (Once place kind) (Once p k) = Twice
together (Once place kind) Twice = Twice
together Twice other = Twice

-- in the first item that has it
abbrev pub or_else : Hit → Hit → Hit
or_else Nowhere other = other
or_else (Once place kind) other = Once place kind
or_else Twice other = Twice

-- a column further to the right
abbrev pub moved : ℕ → Hit → Hit
moved by Nowhere = Nowhere
moved by (Once place kind) = Once (by + place) kind
moved by Twice = Twice

-- ---- an index

-- what an index says of a name: one that it does not hold stands nowhere
abbrev pub known : Option Hit → Hit
known None = Nowhere
known (Some hit) = hit

-- entries that say of each name how often it stands among columns
abbrev pub Counts : List (List ℕ × Hit) → List Output → Type 0
Counts entries cs = (name : List ℕ) → known (lookup (bytes_eq name) entries) ≡ hits name cs

-- entries with a column more, at a place
abbrev pub CountsMore : List (List ℕ × Hit) → List (List ℕ × Hit) → Output → ℕ → Type 0
CountsMore old new c place =
    (name : List ℕ) → known (lookup (bytes_eq name) new) ≡
    (if is_name name c.name then once_more (known (lookup (bytes_eq name) old)) place c.kind else
    known (lookup (bytes_eq name) old))
