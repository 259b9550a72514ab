-- Labels: the compound statements and loops around a statement, and which of them a name stands
-- for. ISO/IEC 9075-4, 14.1 (compound statement), 14.8 (iterate statement) and 14.9 (leave
-- statement).
use Rattle.std.specs.Prelude.{ℕ, ◌+◌, Bool, false, ◌&&◌, not, if◌then◌else◌, List, [], ◌∷◌, Option}
use Rattle.std.specs.Prelude.{Some, None}
use Rattle.std.specs.List.{list_any}
use Rattle.std.specs.Str.{bytes_eq}
use Rattle.syntax_trees.specs.declared.anchor.Ident.{Ident}
use Rattle.bind_faults.specs.declared.fault.Fault.{Fault}
use Rattle.bind_faults.specs.declared.fault.FaultKind.TheVariants.{UnknownName, DuplicateName}
use Rattle.bind_faults.specs.Faults.{fault_if}
use Rattle.bind_rules.specs.declared.labels.Label.{Label as CodeLabel}
use Rattle.bind_rules.specs.declared.labels.Labelled.{Labelled}

-- A compound statement or a loop around a statement: its label, whether it is a loop, and whether
-- what stands here may leave it. An action may not leave the compound statement that declares it.
pub record Label : Type 0 where
  pub name : Option Ident
  pub is_loop : Bool
  pub may_leave : Bool

-- in an action of the innermost compound statement, which it may not leave
abbrev pub barred : List Label → List Label
barred [] = []
barred (l ∷ ls) = record { name = l.name; is_loop = l.is_loop; may_leave = false } ∷ ls

-- ---- names

-- whether a label has a name
abbrev pub is_name : List ℕ → Option Ident → Bool
is_name name None = false
is_name name (Some i) = bytes_eq i.name name

-- whether one of the labels has a name
abbrev pub has_label : List ℕ → List Label → Bool
has_label name ls = list_any (λ l. is_name name l.name) ls

-- the innermost from a level on that has the label and may be left
abbrev pub label_from : ℕ → List ℕ → List Label → Option Labelled
label_from level name [] = None
label_from level name (l ∷ ls) = if l.may_leave && is_name name l.name then Some
    (record { level = level; is_loop = l.is_loop }) else label_from (level + 1) name ls

-- the innermost that has the label and may be left, by how many outwards it stands
abbrev pub label_named : List ℕ → List Label → Option Labelled
label_named name ls = label_from 0 name ls

-- a label that one around it has
abbrev pub label_faults : Option Ident → List Label → List Fault
label_faults None ls = []
label_faults (Some i) ls = fault_if (has_label i.name ls) DuplicateName i.anchor

-- an end label that is not the statement's label
abbrev pub end_faults : Option Ident → Option Ident → List Fault
end_faults label None = []
end_faults label (Some i) = fault_if (not (is_name i.name label)) UnknownName i.anchor

-- ---- what the code's label shows

-- a label of the code, as it is seen
abbrev pub label_by : CodeLabel → Label
label_by l = record { name = l.name.now; is_loop = l.is_loop; may_leave = l.may_leave }
