-- The texts of the engine's conditions, and states, have ASCII characters alone.
use Rattle.std.proofs.Common.{◌≡◌, ◌≤◌, ◌<◌, ◌∷◌, [], List, ℕ, zero, suc, Bool, true, false, ◌&&◌}
use Rattle.std.proofs.Common.{refl, sym, arith, length, ◌==◌}
use Rattle.std.specs.List.{list_all}
use Rattle.std.specs.Str.{chars, encode_utf8_all, IsAscii, IsUtf8}
use Rattle.std.proofs.lemmas.Str.{chars-IsAscii, encodes-IsAscii, encodes_same, IsUtf8-from_ascii}
use Rattle.sql_texts.specs.declared.TheConstants.{MOST_TEXT}
use Rattle.sql_conditions.specs.States.{is_state_character, is_state}
use Rattle.sql_conditions.specs.declared.condition.EngineCondition.{EngineCondition}
use Rattle.sql_conditions.specs.declared.condition.EngineCondition.TheVariants as engine
use Rattle.sql_conditions.specs.Texts.{message_of}

-- their characters are their bytes
pub engine_characters : (c : EngineCondition) → chars (message_of c) ≡ message_of c
unfolding chars
engine_characters engine.NumberOutOfRange = refl
engine_characters engine.DivisionByZero = refl
engine_characters engine.ConstraintViolated = refl
engine_characters engine.RecursionTooDeep = refl
engine_characters engine.SeveralRows = refl
engine_characters engine.StringTooLong = refl
engine_characters engine.SubstringError = refl
engine_characters engine.InvalidTextForCast = refl
engine_characters engine.NoData = refl
engine_characters engine.CaseNotFound = refl
engine_characters engine.NullNotAllowed = refl
engine_characters engine.InvalidCursorState = refl
engine_characters engine.EndedWithoutReturn = refl
engine_characters engine.HandlerNotActive = refl
engine_characters engine.StackedWithoutHandler = refl
engine_characters engine.InvalidConditionNumber = refl

-- they are within the limit of a text
pub engine_short : (c : EngineCondition) → length (message_of c) ≤ MOST_TEXT
engine_short engine.NumberOutOfRange = omega arith
engine_short engine.DivisionByZero = omega arith
engine_short engine.ConstraintViolated = omega arith
engine_short engine.RecursionTooDeep = omega arith
engine_short engine.SeveralRows = omega arith
engine_short engine.StringTooLong = omega arith
engine_short engine.SubstringError = omega arith
engine_short engine.InvalidTextForCast = omega arith
engine_short engine.NoData = omega arith
engine_short engine.CaseNotFound = omega arith
engine_short engine.NullNotAllowed = omega arith
engine_short engine.InvalidCursorState = omega arith
engine_short engine.EndedWithoutReturn = omega arith
engine_short engine.HandlerNotActive = omega arith
engine_short engine.StackedWithoutHandler = omega arith
engine_short engine.InvalidConditionNumber = omega arith

-- ---- states

both : (a b : Bool) → (a && b) ≡ true → (a ≡ true) × (b ≡ true)
both true b p = (refl, p)
both false b p = absurd cc

low : (c : ℕ) → is_state_character c ≡ true → c < 128
low c p = grind arith

-- a list of state characters
pub state_ascii : (cs : List ℕ) → list_all is_state_character cs ≡ true → IsAscii cs
state_ascii [] p i = omega arith
state_ascii (c ∷ cs) p zero = low c (both _ _ p).0
state_ascii (c ∷ cs) p (suc i) = state_ascii cs (both _ _ p).1 i

-- its bytes are a text
pub state_utf8 : (cs : List ℕ) → list_all is_state_character cs ≡ true → IsUtf8 cs
state_utf8 cs p = IsUtf8-from_ascii cs (state_ascii cs p)

-- and its characters
pub state_characters : (cs : List ℕ) → list_all is_state_character cs ≡ true → chars cs ≡ cs
state_characters cs p = chars-IsAscii cs (state_ascii cs p)

-- a text that spells a state is stored as its characters
pub state_spelled : (t : List ℕ) → is_state (encode_utf8_all t) ≡ true → encode_utf8_all t ≡ t
state_spelled t p =
    sym (encodes_same t (encode_utf8_all t) (sym (encodes-IsAscii (encode_utf8_all t)
    (state_ascii (encode_utf8_all t) (both (length (encode_utf8_all t) == 5) _ p).1))))
