-- Worked rows of the definitions on replies.
use Rattle.std.specs.Prelude.{◌≡◌, true, false, [], ◌∷◌, ◌++◌, Some, None, codes, refl}
use Rattle.std.specs.Fmt.{digits}
use lib.Utf8.{encode}
use Rattle.csv.specs.Writing.{fields_text, escaped, is_blank}
use Rattle.sql_values.specs.declared.value.Value.TheVariants.{Null, Str, Bool}
use Rattle.sql_conditions.specs.declared.condition.EngineCondition.TheVariants.{DivisionByZero}
use Rattle.sql_conditions.specs.Conditions.{own, area_of}
use Rattle.bind_faults.specs.declared.fault.FaultKind.TheVariants.{UnknownName}
use Rattle.reply_text.specs.declared.fault.FaultText.TheVariants.{Name, TooDeep}
use Rattle.reply_text.specs.Texts.{rows_text, table_text, done_text, area_text, fault_text}

-- A query without rows ends with 02000.
pub no_row : rows_text [] ≡ codes "02000 rows 0\n"
no_row = refl

-- A row is one record, and NULL, TRUE and FALSE are written as words.
pub two_rows : rows_text ((Null ∷ []) ∷ (Bool true ∷ Bool false ∷ Null ∷ []) ∷ []) ≡
    codes "NULL\nTRUE,FALSE,NULL\n00000 rows 2\n"
unfolding digits fields_text escaped is_blank
two_rows = refl

-- a table of a dump without rows: there is no condition of no data
pub empty_table : table_text (codes "T") [] ≡ codes "table T rows 0\n"
unfolding digits
empty_table = refl

-- a table of a dump: its line, and a record for each row
pub dumped_table : table_text (codes "A_1")
    ((Bool true ∷ Str (codes "a'b") ∷ []) ∷ (Null ∷ Str (codes "a,b") ∷ []) ∷ []) ≡
    codes "table A_1 rows 2\nTRUE,'a''b'\nNULL,\"'a,b'\"\n"
unfolding digits fields_text escaped is_blank encode
dumped_table = refl

-- what changes no rows and returns none
pub done : done_text [] None ≡ codes "00000\n"
done = refl

-- what changes three rows
pub stored : done_text [] (Some 3) ≡ codes "00000 rows 3\n"
unfolding digits
stored = refl

-- the values that CALL hands out, before the last line
pub handed_out : done_text (Null ∷ Bool true ∷ []) None ≡ codes "NULL,TRUE\n00000\n"
unfolding fields_text escaped is_blank
handed_out = refl

-- 'a''b', "'a,b'", '' and a text with LF
pub texts : done_text (Str (codes "a'b") ∷ Str (codes "a,b") ∷ Str [] ∷ Str (codes "a\nb") ∷ [])
    None ≡ codes "'a''b',\"'a,b'\",'',\"'a\nb'\"\n00000\n"
unfolding fields_text escaped is_blank encode
texts = refl

-- a double quote, and a character of two bytes
pub other_texts : done_text (Str (codes "\"") ∷ Str (233 ∷ []) ∷ []) None ≡ codes "\"'\"\"'\"," ++
    (39 ∷ 195 ∷ 169 ∷ 39 ∷ []) ++ codes "\n00000\n"
unfolding fields_text escaped is_blank encode
other_texts = refl

-- an exception with its own message
pub one_condition : area_text (area_of DivisionByZero) ≡ codes "! 22012 division by zero\n"
unfolding encode
one_condition = refl

-- A condition below the first is indented.
pub further_condition : area_text (record { state = codes "45000"; message = codes "bad row" } ∷
    own DivisionByZero ∷ []) ≡ codes "! 45000 bad row\n  22012 division by zero\n"
unfolding encode
further_condition = refl

-- a message with a character of two bytes
pub other_message : area_text (record { state = codes "45000"; message = 233 ∷ [] } ∷ []) ≡
    codes "! 45000 " ++ (195 ∷ 169 ∷ []) ++ codes "\n"
unfolding encode
other_message = refl

-- Without a message the state stands alone.
pub empty_message : area_text (record { state = codes "45000"; message = [] } ∷
    record { state = codes "45001"; message = [] } ∷ []) ≡ codes "! 45000\n  45001\n"
empty_message = refl

-- a fault with its place
pub unknown_name : fault_text (Name UnknownName) 1 15 ≡
    codes "! 42000 unknown name at line 1 column 15\n"
unfolding digits
unknown_name = refl

-- a fault of reading with its place
pub too_deep : fault_text TooDeep 1 32 ≡ codes "! 42000 nesting too deep at line 1 column 32\n"
unfolding digits
too_deep = refl
