-- States and their classes. ISO/IEC 9075-2, 24.1 (SQLSTATE).
use Rattle.std.specs.Prelude.{ℕ, ◌==◌, nat_le, Bool, ◌&&◌, ◌||◌, not, List, codes, length, take}
use Rattle.std.specs.Prelude.{Option, Some, None, if◌then◌else◌}
use Rattle.std.specs.List.{list_all}
use Rattle.std.specs.Str.{bytes_eq}
use Rattle.sql_conditions.specs.declared.state.Class.{Class}
use Rattle.sql_conditions.specs.declared.state.Class.TheVariants.{Success, Warning, NoData}
use Rattle.sql_conditions.specs.declared.state.Class.TheVariants.{Exception}

-- a digit or a capital letter
abbrev pub is_state_character : ℕ → Bool
is_state_character c = (nat_le 48 c && nat_le c 57) || (nat_le 65 c && nat_le c 90)

-- five digits and capitals
abbrev pub is_state : List ℕ → Bool
is_state cs = (length cs == 5) && list_all is_state_character cs

-- the state that a text spells; none where it is no five digits and capitals
abbrev pub state_in_text : List ℕ → Option (List ℕ)
state_in_text cs = if is_state cs then Some cs else None

-- the class is the first two characters
abbrev pub is_class : List ℕ → List ℕ → Bool
is_class class state = bytes_eq (take 2 state) class

-- class 00
abbrev pub is_success : List ℕ → Bool
is_success = is_class (codes "00")

-- class 01
abbrev pub is_warning : List ℕ → Bool
is_warning = is_class (codes "01")

-- class 02
abbrev pub is_no_data : List ℕ → Bool
is_no_data = is_class (codes "02")

-- every class but success, warning and no data
abbrev pub is_exception : List ℕ → Bool
is_exception state = not (is_success state || (is_warning state || is_no_data state))

-- the class of a state
abbrev pub class_of : List ℕ → Class
class_of state =
    if is_success state then Success
    else if is_warning state then Warning
    else if is_no_data state then NoData
    else Exception
