-- The truth tables of ISO/IEC 9075-2, 6.39 (boolean value expression). A truth value that isn't
-- known is the BOOLEAN NULL.
use Rattle.std.specs.Prelude.{true, false}
use Rattle.sql_values.specs.declared.value.Value.{Value}
use Rattle.sql_values.specs.declared.value.Value.TheVariants.{Null, Bool as Truth_value}
use Rattle.three_valued.specs.declared.truth.Truth.{Truth}
use Rattle.three_valued.specs.declared.truth.Truth.TheVariants.{True, False, Unknown}

-- AND
abbrev pub conjunction : Truth → Truth → Truth
conjunction True True = True
conjunction True False = False
conjunction True Unknown = Unknown
conjunction False True = False
conjunction False False = False
conjunction False Unknown = False
conjunction Unknown True = Unknown
conjunction Unknown False = False
conjunction Unknown Unknown = Unknown

-- OR
abbrev pub disjunction : Truth → Truth → Truth
disjunction True True = True
disjunction True False = True
disjunction True Unknown = True
disjunction False True = True
disjunction False False = False
disjunction False Unknown = Unknown
disjunction Unknown True = True
disjunction Unknown False = Unknown
disjunction Unknown Unknown = Unknown

-- NOT
abbrev pub negation : Truth → Truth
negation True = False
negation False = True
negation Unknown = Unknown

-- the truth value that a BOOLEAN is
abbrev pub truth_of_value : Value → Truth
truth_of_value (Truth_value true) = True
truth_of_value (Truth_value false) = False
truth_of_value _ = Unknown

-- the BOOLEAN that a truth value is
abbrev pub value_of_truth : Truth → Value
value_of_truth True = Truth_value true
value_of_truth False = Truth_value false
value_of_truth Unknown = Null
