-- The text of replies. Each line ends in LF. States are those of ISO/IEC 9075-2, 24.1 (SQLSTATE).
use Rattle.std.specs.Prelude.{ℕ, Bool, true, false, List, [], ◌∷◌, ◌++◌, map, length, codes}
use Rattle.std.specs.Prelude.{decimal, ◌==◌, if◌then◌else◌, Option, Some, None}
use Rattle.std.specs.List.{flat_map}
use Rattle.std.specs.Fmt.{signed_decimal}
use Rattle.std.specs.Str.{encode_utf8_all}
use Rattle.csv.specs.declared.writer.WriterBuilder.{WriterBuilder}
use Rattle.csv.specs.Writing.{default_writer, with_flexible, row_text}
use Rattle.sql_values.specs.declared.value.Value.{Value}
use Rattle.sql_values.specs.declared.value.Value.TheVariants.{Null, Int, Str, Bool as Truth}
use Rattle.sql_conditions.specs.declared.condition.Condition.{Condition}
use Rattle.sql_conditions.specs.Conditions.{Area}
use Rattle.bind_faults.specs.declared.fault.FaultKind.{FaultKind}
use Rattle.bind_faults.specs.declared.fault.FaultKind.TheVariants.{UnknownName, DuplicateName}
use Rattle.bind_faults.specs.declared.fault.FaultKind.TheVariants.{TypeMismatch, WrongCount}
use Rattle.bind_faults.specs.declared.fault.FaultKind.TheVariants.{NotPermitted, TooHigh}
use Rattle.reply_text.specs.declared.fault.FaultText.{FaultText}
use Rattle.reply_text.specs.declared.fault.FaultText.TheVariants.{Name, Syntax, TooDeep}

-- a truth value as it is written
abbrev pub truth_text : Bool → List ℕ
truth_text true = codes "TRUE"
truth_text false = codes "FALSE"

-- each quote mark twice
abbrev pub doubled : List ℕ → List ℕ
doubled [] = []
doubled (b ∷ bs) = if b == 39 then b ∷ b ∷ doubled bs else b ∷ doubled bs

-- a text in UTF-8, in quote marks, those inside it doubled
abbrev pub quoted : List ℕ → List ℕ
quoted text = codes "'" ++ doubled (encode_utf8_all text) ++ codes "'"

-- a field: a decimal integer, a text, a truth value, or NULL
abbrev pub value_text : Value → List ℕ
value_text Null = codes "NULL"
value_text (Int n) = signed_decimal n
value_text (Str text) = quoted text
value_text (Truth p) = truth_text p

-- Records are those of csv: fields separated by commas, in double quotes where one has a comma, a
-- double quote, CR or LF, and LF last. Records of one reply may differ in length.
abbrev pub record_writer : WriterBuilder
record_writer = with_flexible default_writer true

-- a row as one record of csv, without a header
abbrev pub record_text : List Value → List ℕ
record_text values = row_text record_writer (map value_text values)

-- how many rows there were; none is the condition of no data
abbrev pub count_text : ℕ → List ℕ
count_text n = if n == 0 then codes "02000 rows 0\n" else codes "00000 rows " ++ decimal n ++
    codes "\n"

-- a query's answer: a record for each row, and how many there are
abbrev pub rows_text : List (List Value) → List ℕ
rows_text rows = flat_map record_text rows ++ count_text (length rows)

-- the line of a table in a dump: its name, and how many rows it has
abbrev pub table_line : List ℕ → ℕ → List ℕ
table_line name rows = codes "table " ++ name ++ codes " rows " ++ decimal rows ++ codes "\n"

-- a table in a dump: its line, and a record for each row
abbrev pub table_text : List ℕ → List (List Value) → List ℕ
table_text name rows = table_line name (length rows) ++ flat_map record_text rows

-- the values that a statement hands out: one record, where there are any
abbrev pub values_text : List Value → List ℕ
values_text [] = []
values_text (v ∷ vs) = record_text (v ∷ vs)

-- how a statement that isn't a query ends: with the number of its rows, where it has one
abbrev pub end_text : Option ℕ → List ℕ
end_text None = codes "00000\n"
end_text (Some n) = count_text n

-- a statement that isn't a query and raises nothing
abbrev pub done_text : List Value → Option ℕ → List ℕ
done_text values rows = values_text values ++ end_text rows

-- a message after its state; an empty one leaves no space
abbrev pub message_text : List ℕ → List ℕ
message_text [] = []
message_text (c ∷ cs) = codes " " ++ c ∷ cs

-- a line with a condition: its state, and its message in UTF-8
abbrev pub condition_line : Condition → List ℕ
condition_line c = c.state ++ message_text (encode_utf8_all c.message) ++ codes "\n"

-- a further condition of an area
abbrev pub further_line : Condition → List ℕ
further_line c = codes "  " ++ condition_line c

-- an exception: a line for each condition of its area, the newest first
abbrev pub area_text : Area → List ℕ
area_text [] = []
area_text (c ∷ cs) = codes "! " ++ condition_line c ++ flat_map further_line cs

-- the reply of a statement for which no turn was left
abbrev pub spent_text : List ℕ
spent_text = codes "! PS001 budget exhausted\n"

-- what is wrong with a name, in words of this engine's own
abbrev pub kind_text : FaultKind → List ℕ
kind_text UnknownName = codes "unknown name"
kind_text DuplicateName = codes "duplicate name"
kind_text TypeMismatch = codes "type mismatch"
kind_text WrongCount = codes "wrong count"
kind_text NotPermitted = codes "not permitted"
kind_text TooHigh = codes "too high"

-- what a script is refused for
abbrev pub refusal_text : FaultText → List ℕ
refusal_text (Name kind) = kind_text kind
refusal_text Syntax = codes "syntax error"
refusal_text TooDeep = codes "nesting too deep"

-- a fault of the script, with its line and column: the state of a syntax error or access rule
-- violation
abbrev pub fault_text : FaultText → ℕ → ℕ → List ℕ
fault_text fault line column = codes "! 42000 " ++ refusal_text fault ++ codes " at line " ++
    decimal line ++ codes " column " ++ decimal column ++ codes "\n"
