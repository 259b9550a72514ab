-- Places of columns as they lie in memory.
use Rattle.std.specs.Prelude.{ℕ, List}
use Rattle.rel_algebra.specs.declared.column_places.Form.{Form}
use Rattle.rel_algebra.specs.declared.column_places.Form.TheVariants as form
use Rattle.rel_algebra.specs.declared.column_places.KeptPlaces.{KeptPlaces}
use Rattle.rel_algebra.specs.declared.column_places.KeptPlaces.TheVariants as kept
use Rattle.rel_algebra.specs.Joins.{places}

-- those that are listed, or the first so many
abbrev pub places_in : Form → List ℕ
places_in (form.Listed is) = is
places_in (form.Front n) = places 0 n

-- the same where they are lent
abbrev pub kept_places : KeptPlaces → List ℕ
kept_places (kept.Listed is) = is.now
kept_places (kept.Front n) = places 0 n
