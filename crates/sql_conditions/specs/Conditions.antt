-- Conditions and areas. ISO/IEC 9075-2, 24.1 (SQLSTATE) and 4.33 (diagnostics area).
use Rattle.std.specs.Prelude.{ℕ, List, [], ◌∷◌, codes, take}
use Rattle.sql_conditions.specs.declared.condition.EngineCondition.{EngineCondition}
use Rattle.sql_conditions.specs.Texts.{state_of, message_of}
use Rattle.sql_conditions.specs.declared.condition.Condition.{Condition}

-- the condition that the engine raises, with its state and its text
abbrev pub own : EngineCondition → Condition
own c = record { state = state_of c; message = message_of c }

-- one to four conditions, the newest first
abbrev pub Area : Type 0
Area = List Condition

-- the area of one condition
abbrev pub one_condition : List ℕ → List ℕ → Area
one_condition state message = record { state = state; message = message } ∷ []

-- the area of one condition that the engine raises
abbrev pub area_of : EngineCondition → Area
area_of c = own c ∷ []

-- successful completion, without a text
abbrev pub completion : Condition
completion = record { state = codes "00000"; message = [] }

-- the area of what raises nothing
abbrev pub success : Area
success = completion ∷ []

-- the state of the newest condition
abbrev pub state_in : Area → List ℕ
state_in [] = []
state_in (c ∷ cs) = c.state

-- a condition in front; of five the oldest goes
abbrev pub pushed : Condition → Area → Area
pushed c area = take 4 (c ∷ area)

-- another text for the newest condition
abbrev pub retexted : List ℕ → Area → Area
retexted s [] = []
retexted s (c ∷ cs) = record { state = c.state; message = s } ∷ cs
