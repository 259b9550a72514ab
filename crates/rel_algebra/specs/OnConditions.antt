-- Words that read a cell which may be a condition, and what they give.
use Rattle.std.specs.Prelude.{ℕ, suc, pos, false, List, [], ◌∷◌, length, slice_get, Option, Some}
use Rattle.std.specs.Prelude.{None}
use Rattle.sql_values.specs.declared.value.Value.{Value}
use Rattle.sql_values.specs.declared.value.Value.TheVariants.{Null, Int, Str, Bool as Truth}
use Rattle.sql_conditions.specs.declared.condition.Condition.{Condition}
use Rattle.sql_conditions.specs.Conditions.{Area, pushed, retexted}
use Rattle.row_types.specs.declared.cell.Cell.{Cell}
use Rattle.row_types.specs.declared.cell.Cell.TheVariants.{Val, Cond}
use Rattle.rel_algebra.specs.Tree.{ConditionValue}
use Rattle.rel_algebra.specs.States.{state_in, is_class, waits_for, null_text, invalid_number}

-- an item of a condition
pub data ItemWord : Type 0 where
  state_item : ItemWord
  text_item : ItemWord

-- the words; catch and raise give their cell as it is
pub data ConditionWord : Type 0 where
  catch_word : ConditionWord
  -- whether a handler value waits for it, whether it is of a class
  matches_word : ConditionValue → ConditionWord
  class_word : List ℕ → ConditionWord
  -- how many conditions, and an item of the condition of a number
  number_word : ConditionWord
  item_word : ItemWord → ConditionWord
  -- the text, and the area that goes on after a new condition of this state
  push_word : List ℕ → ConditionWord
  -- another first text
  retext_word : ConditionWord
  raise_word : ConditionWord

-- whether a handler value waits for the conditions of a cell. ISO/IEC 9075-4, 14.2 (handler
-- declaration)
abbrev pub matches_cell : ConditionValue → Cell → Cell
matches_cell v (Val x) = Val (Truth false)
matches_cell v (Cond a) = Val (Truth (waits_for v (state_in a)))

-- whether the newest condition of a cell is of a class. 24.1 (SQLSTATE)
abbrev pub class_cell : List ℕ → Cell → Cell
class_cell class (Val x) = Val (Truth false)
class_cell class (Cond a) = Val (Truth (is_class class (state_in a)))

-- how many conditions a cell has, and NULL of a value. 23.1 (get diagnostics statement)
abbrev pub number_cell : Cell → Cell
number_cell (Val x) = Val Null
number_cell (Cond a) = Val (Int (pos (length a)))

-- an item of a condition. 23.1 (get diagnostics statement)
abbrev pub item_of : ItemWord → Condition → Value
item_of state_item c = Str c.state
item_of text_item c = Str c.message

-- the condition of a number, from one on
abbrev pub condition_numbered : Value → Area → Option Condition
condition_numbered (Int (pos (suc n))) area = slice_get area n
condition_numbered _ area = None

-- the item of a condition, where there is one, and else 35000
abbrev pub item_or : ItemWord → Option Condition → Cell
item_or item None = Cond invalid_number
item_or item (Some c) = Val (item_of item c)

-- the item of the condition with a number; a number that raises goes first
abbrev pub item_cell : ItemWord → Cell → Cell → Cell
item_cell item (Cond a) c = Cond a
item_cell item (Val n) (Val x) = Val Null
item_cell item (Val n) (Cond a) = item_or item (condition_numbered n a)

-- the area after the new condition; that of a value has none
abbrev pub area_in : Cell → Area
area_in (Val x) = []
area_in (Cond a) = a

-- a new condition with a text, before an area; it raises where the text is NULL. ISO/IEC 9075-4,
-- 17.2 and 17.3
abbrev pub push_text : List ℕ → Value → Area → Cell
push_text state (Str s) a = Cond (pushed (record { state = state; message = s }) a)
push_text state _ a = Cond null_text

-- the same by cells; a text that raises goes first
abbrev pub push_cell : List ℕ → Cell → Cell → Cell
push_cell state (Cond a) c = Cond a
push_cell state (Val v) c = push_text state v (area_in c)

-- The same by a value, which raises where it is NULL. ISO/IEC 9075-4, 17.3 (resignal statement).
abbrev pub retext_text : Value → Area → Cell
retext_text (Str s) a = Cond (retexted s a)
retext_text _ a = Cond null_text

-- the same by cells; a text that raises goes first, and a value stays
abbrev pub retext_cell : Cell → Cell → Cell
retext_cell (Cond a) c = Cond a
retext_cell (Val v) (Val x) = Val x
retext_cell (Val v) (Cond a) = retext_text v a

-- NULL where it is not of so many operands
abbrev pub condition_cell : ConditionWord → List Cell → Cell
condition_cell catch_word (c ∷ []) = c
condition_cell (matches_word v) (c ∷ []) = matches_cell v c
condition_cell (class_word class) (c ∷ []) = class_cell class c
condition_cell number_word (c ∷ []) = number_cell c
condition_cell (item_word item) (n ∷ c ∷ []) = item_cell item n c
condition_cell (push_word state) (s ∷ c ∷ []) = push_cell state s c
condition_cell retext_word (s ∷ c ∷ []) = retext_cell s c
condition_cell raise_word (c ∷ []) = c
condition_cell _ _ = Val Null
