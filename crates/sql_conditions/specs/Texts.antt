-- The states and texts of the conditions that the engine raises. ISO/IEC 9075-2, 24.1 (SQLSTATE),
-- and 9075-4, 20.1 (SQLSTATE); the texts are this engine's own.
use Rattle.std.specs.Prelude.{ℕ, List, [], ◌∷◌, codes, if◌then◌else◌}
use Rattle.std.specs.Str.{bytes_eq}
use Rattle.sql_conditions.specs.declared.condition.EngineCondition.{EngineCondition}
use Rattle.sql_conditions.specs.declared.condition.EngineCondition.TheVariants as engine

-- the SQLSTATE of each condition that the engine raises: a class of two, a subclass of three
abbrev pub state_of : EngineCondition → List ℕ
state_of engine.NumberOutOfRange = codes "22003"
state_of engine.DivisionByZero = codes "22012"
state_of engine.ConstraintViolated = codes "23000"
state_of engine.RecursionTooDeep = codes "PS002"
state_of engine.SeveralRows = codes "21000"
state_of engine.StringTooLong = codes "22001"
state_of engine.SubstringError = codes "22011"
state_of engine.InvalidTextForCast = codes "22018"
state_of engine.NoData = codes "02000"
state_of engine.CaseNotFound = codes "20000"
state_of engine.NullNotAllowed = codes "22004"
state_of engine.InvalidCursorState = codes "24000"
state_of engine.EndedWithoutReturn = codes "2F005"
state_of engine.HandlerNotActive = codes "0K000"
state_of engine.StackedWithoutHandler = codes "0Z002"
state_of engine.InvalidConditionNumber = codes "35000"

-- the message text of each condition that the engine raises
abbrev pub message_of : EngineCondition → List ℕ
message_of engine.NumberOutOfRange = codes "number out of range"
message_of engine.DivisionByZero = codes "division by zero"
message_of engine.ConstraintViolated = codes "constraint violated"
message_of engine.RecursionTooDeep = codes "recursion too deep"
message_of engine.SeveralRows = codes "more than one row"
message_of engine.StringTooLong = codes "string too long"
message_of engine.SubstringError = codes "substring error"
message_of engine.InvalidTextForCast = codes "invalid text for cast"
message_of engine.NoData = codes "no data"
message_of engine.CaseNotFound = codes "case not found"
message_of engine.NullNotAllowed = codes "null value not allowed"
message_of engine.InvalidCursorState = codes "invalid cursor state"
message_of engine.EndedWithoutReturn = codes "function ended without RETURN"
message_of engine.HandlerNotActive = codes "resignal when handler not active"
message_of engine.StackedWithoutHandler = codes "stacked diagnostics without handler"
message_of engine.InvalidConditionNumber = codes "invalid condition number"

-- the conditions that the engine raises
abbrev pub engine_conditions : List EngineCondition
engine_conditions =
    engine.NumberOutOfRange ∷ engine.DivisionByZero ∷ engine.ConstraintViolated
    ∷ engine.RecursionTooDeep ∷ engine.SeveralRows ∷ engine.StringTooLong
    ∷ engine.SubstringError ∷ engine.InvalidTextForCast ∷ engine.NoData ∷ engine.CaseNotFound
    ∷ engine.NullNotAllowed ∷ engine.InvalidCursorState ∷ engine.EndedWithoutReturn
    ∷ engine.HandlerNotActive ∷ engine.StackedWithoutHandler ∷ engine.InvalidConditionNumber ∷ []

-- the text of a state among these conditions
abbrev pub text_among : List EngineCondition → List ℕ → List ℕ
text_among [] state = []
text_among (c ∷ cs) state =
    if bytes_eq (state_of c) state then message_of c else text_among cs state

-- the state that a statement is answered by for which no turn is left; no routine sees it
abbrev pub spent_state : List ℕ
spent_state = codes "PS001"

-- its text
abbrev pub spent_message : List ℕ
spent_message = codes "budget exhausted"

-- the text of a state; of those that the engine doesn't give, none
abbrev pub text_of : List ℕ → List ℕ
text_of state =
    if bytes_eq state spent_state then spent_message else text_among engine_conditions state
