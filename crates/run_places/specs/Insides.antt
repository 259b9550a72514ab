-- Places further inside. ISO/IEC 9075-4, 14.1 (compound statement) and 14.10 to 14.13 (loops).
use Rattle.std.specs.Prelude.{suc}
use Rattle.run_places.specs.declared.place.Place.{Place}

-- the same place, inside one loop more
abbrev pub one_inside : Place → Place
one_inside place = record place { level = suc place.level }
