-- Worked rows, which hold by computation: states, their classes and texts, and areas. ISO/IEC
-- 9075-2, 24.1 (SQLSTATE) and 4.33 (diagnostics area).
use Rattle.std.specs.Prelude.{◌≡◌, refl, false, [], ◌∷◌, codes, Some, None}
use Rattle.sql_conditions.specs.declared.condition.EngineCondition.TheVariants as engine
use Rattle.sql_conditions.specs.declared.state.Class.TheVariants as class
use Rattle.sql_conditions.specs.declared.condition.Condition.{Condition}
use Rattle.sql_conditions.specs.Conditions.{Area, own, one_condition, area_of, success}
use Rattle.sql_conditions.specs.Conditions.{state_in, pushed, retexted}
use Rattle.sql_conditions.specs.States.{state_in_text, is_exception, class_of}
use Rattle.sql_conditions.specs.Texts.{text_of}

-- ---- what spells a state

pub five_digits : state_in_text (codes "45000") ≡ Some (codes "45000")
five_digits = refl

pub with_capitals : state_in_text (codes "HY0Z9") ≡ Some (codes "HY0Z9")
with_capitals = refl

pub a_small_letter : state_in_text (codes "4500a") ≡ None
a_small_letter = refl

pub a_space : state_in_text (codes "4500 ") ≡ None
a_space = refl

pub four_characters : state_in_text (codes "4500") ≡ None
four_characters = refl

pub six_characters : state_in_text (codes "450000") ≡ None
six_characters = refl

pub no_character : state_in_text [] ≡ None
no_character = refl

-- ---- classes

pub completion : class_of (codes "00000") ≡ class.Success
completion = refl

pub warning : class_of (codes "01004") ≡ class.Warning
warning = refl

pub no_row : class_of (codes "02000") ≡ class.NoData
no_row = refl

pub division : class_of (codes "22012") ≡ class.Exception
division = refl

-- a class of the engine's own
pub engine_class : class_of (codes "PS002") ≡ class.Exception
engine_class = refl

-- the first character alone says nothing
pub no_class_of_one_zero : class_of (codes "0K000") ≡ class.Exception
no_class_of_one_zero = refl

pub warning_is_none : is_exception (codes "01000") ≡ false
warning_is_none = refl

-- ---- the texts of states

pub text_02000 : text_of (codes "02000") ≡ codes "no data"
text_02000 = refl

pub text_0K000 : text_of (codes "0K000") ≡ codes "resignal when handler not active"
text_0K000 = refl

pub text_0Z002 : text_of (codes "0Z002") ≡ codes "stacked diagnostics without handler"
text_0Z002 = refl

pub text_20000 : text_of (codes "20000") ≡ codes "case not found"
text_20000 = refl

pub text_21000 : text_of (codes "21000") ≡ codes "more than one row"
text_21000 = refl

pub text_22001 : text_of (codes "22001") ≡ codes "string too long"
text_22001 = refl

pub text_22003 : text_of (codes "22003") ≡ codes "number out of range"
text_22003 = refl

pub text_22004 : text_of (codes "22004") ≡ codes "null value not allowed"
text_22004 = refl

pub text_22011 : text_of (codes "22011") ≡ codes "substring error"
text_22011 = refl

pub text_22012 : text_of (codes "22012") ≡ codes "division by zero"
text_22012 = refl

pub text_22018 : text_of (codes "22018") ≡ codes "invalid text for cast"
text_22018 = refl

pub text_23000 : text_of (codes "23000") ≡ codes "constraint violated"
text_23000 = refl

pub text_24000 : text_of (codes "24000") ≡ codes "invalid cursor state"
text_24000 = refl

pub text_2F005 : text_of (codes "2F005") ≡ codes "function ended without RETURN"
text_2F005 = refl

pub text_35000 : text_of (codes "35000") ≡ codes "invalid condition number"
text_35000 = refl

pub text_PS001 : text_of (codes "PS001") ≡ codes "budget exhausted"
text_PS001 = refl

pub text_PS002 : text_of (codes "PS002") ≡ codes "recursion too deep"
text_PS002 = refl

-- what a script is refused for has texts of its own
pub text_42000 : text_of (codes "42000") ≡ []
text_42000 = refl

-- SIGNAL and RESIGNAL alone raise it
pub text_45000 : text_of (codes "45000") ≡ []
text_45000 = refl

pub text_00000 : text_of (codes "00000") ≡ []
text_00000 = refl

-- ---- areas

-- a condition of a script's own, with its text
abbrev signalled : Condition
signalled = record { state = codes "45000"; message = codes "no stock" }

-- four conditions
abbrev four : Area
four =
    signalled ∷ own engine.DivisionByZero ∷ own engine.NumberOutOfRange
    ∷ own engine.ConstraintViolated ∷ []

-- the new one stands first
pub newest_first :
    pushed signalled (area_of engine.DivisionByZero) ≡ signalled ∷ own engine.DivisionByZero ∷ []
newest_first = refl

-- of five the oldest goes
pub oldest_goes :
    pushed (own engine.NoData) four
    ≡ own engine.NoData ∷ signalled ∷ own engine.DivisionByZero ∷ own engine.NumberOutOfRange ∷ []
oldest_goes = refl

-- another text for the first, whose state stays; the others stay
pub first_text :
    retexted (codes "none") (signalled ∷ own engine.DivisionByZero ∷ [])
    ≡ record { state = codes "45000"; message = codes "none" } ∷ own engine.DivisionByZero ∷ []
first_text = refl

-- an area is of the state of its newest condition
pub newest_state : state_in four ≡ codes "45000"
newest_state = refl

-- what raises nothing leaves one condition without a text
pub nothing_raised : success ≡ one_condition (codes "00000") (text_of (codes "00000"))
nothing_raised = refl
