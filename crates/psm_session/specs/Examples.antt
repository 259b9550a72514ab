-- Worked rows of the definitions on dumps and names.
use Rattle.std.specs.Prelude.{◌≡◌, true, [], ◌∷◌, codes, refl}
use Rattle.std.specs.Fmt.{digits}
use Rattle.csv.specs.Writing.{fields_text, is_blank}
use Rattle.sql_values.specs.declared.value.Value.TheVariants.{Null, Bool}
use Rattle.psm_effects.specs.Database.{empty}
use Rattle.psm_session.specs.Dump.{dump_text}
use Rattle.psm_session.specs.Names.{without_name}

-- a database without tables has nothing to dump
pub no_table : dump_text empty ≡ []
no_table = refl

-- tables stand in the order of their making
pub two_tables : dump_text (record {
  catalog = [];
  tables =
      record {
        name = codes "U";
        table = record { columns = []; key = []; rows = (Bool true ∷ Null ∷ []) ∷ [] };
      }
      ∷ record { name = codes "T"; table = record { columns = []; key = []; rows = [] } } ∷ [];
}) ≡ codes "table U rows 1\nTRUE,NULL\ntable T rows 0\n"
unfolding digits fields_text is_blank
two_tables = refl

-- a name goes, and the others stay in their order
pub one_goes : without_name (codes "B") (codes "A" ∷ codes "B" ∷ codes "C" ∷ []) ≡
    codes "A" ∷ codes "C" ∷ []
one_goes = refl

-- one that does not stand there changes nothing
pub none_goes : without_name (codes "D") (codes "A" ∷ codes "B" ∷ []) ≡ codes "A" ∷ codes "B" ∷ []
none_goes = refl
