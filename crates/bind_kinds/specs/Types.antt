-- Written types: the type that each stands for, and n of VARCHAR within its range. ISO/IEC 9075-2,
-- 6.1 (data type).
use Rattle.std.specs.Prelude.{ℕ, ℤ, pos, negsuc, nat_le, Bool, false, ◌&&◌, not, if◌then◌else◌}
use Rattle.std.specs.Prelude.{List, []}
use Rattle.sql_texts.specs.declared.TheConstants.{MOST_TEXT}
use Rattle.sql_values.specs.declared.value.SqlType.{SqlType}
use Rattle.sql_values.specs.declared.value.SqlType.TheVariants.{Integer, Varchar, Boolean}
use Rattle.syntax_trees.specs.declared.data_type.DataType.{DataType}
use Rattle.syntax_trees.specs.declared.data_type.TypeName.{TypeName}
use Rattle.syntax_trees.specs.declared.data_type.TypeName.TheVariants as written
use Rattle.bind_faults.specs.declared.fault.Fault.{Fault}
use Rattle.bind_faults.specs.declared.fault.FaultKind.TheVariants.{NotPermitted}
use Rattle.bind_faults.specs.Faults.{fault_if}

-- n of VARCHAR is from 1 to MOST_TEXT
abbrev pub is_length : ℤ → Bool
is_length (pos n) = nat_le 1 n && nat_le n MOST_TEXT
is_length (negsuc n) = false

-- n of VARCHAR; 1 where it is out of range
abbrev pub length_by : Bool → ℤ → ℕ
length_by within (pos n) = if within then n else 1
length_by within (negsuc n) = 1

-- the type of the written name; n of VARCHAR is a length where it is in range
abbrev pub type_named : TypeName → SqlType
type_named written.Integer = Integer
type_named (written.Varchar at n) = Varchar (length_by (is_length n) n)
type_named written.Boolean = Boolean

-- the type that is written
abbrev pub type_of : DataType → SqlType
type_of t = type_named t.name

-- n of VARCHAR out of range is a fault at n
abbrev pub name_faults : TypeName → List Fault
name_faults written.Integer = []
name_faults (written.Varchar at n) = fault_if (not (is_length n)) NotPermitted at
name_faults written.Boolean = []

-- n of VARCHAR outside its range, at its place
abbrev pub type_faults : DataType → List Fault
type_faults t = name_faults t.name
