-- Characteristics of routines, and what a routine does with SQL data. ISO/IEC 9075-2, 11.60
-- (SQL-invoked routine).
use Rattle.std.specs.Prelude.{ℕ, nat_lt, Bool, true, false, if◌then◌else◌, List, [], ◌∷◌, ◌++◌}
use Rattle.std.specs.Prelude.{Option, Some, None}
use Rattle.std.specs.List.{flat_map}
use Rattle.syntax_trees.specs.declared.anchor.Anchor.{Anchor}
use Rattle.statement_trees.specs.declared.definition.Characteristic.{Characteristic}
use Rattle.statement_trees.specs.declared.definition.CharacteristicKind.{CharacteristicKind}
use Rattle.statement_trees.specs.declared.definition.CharacteristicKind.TheVariants as kind
use Rattle.catalog_store.specs.Catalog.{Catalog, Object, TableObject, FunctionObject}
use Rattle.catalog_store.specs.Catalog.{InterpretedObject, ProcedureObject, object_named}
use Rattle.catalog_store.specs.declared.entry.DataAccess.{DataAccess}
use Rattle.catalog_store.specs.declared.entry.DataAccess.TheVariants.{ContainsSql, ReadsSqlData}
use Rattle.catalog_store.specs.declared.entry.DataAccess.TheVariants.{ModifiesSqlData}
use Rattle.bind_faults.specs.declared.fault.Fault.{Fault}
use Rattle.bind_faults.specs.declared.fault.FaultKind.TheVariants.{DuplicateName, NotPermitted}
use Rattle.bind_faults.specs.Faults.{fault_if}
use Rattle.bind_definitions.specs.declared.characteristics.Group.{Group}
use Rattle.bind_definitions.specs.declared.characteristics.Group.TheVariants.{Language, Determinism}
use Rattle.bind_definitions.specs.declared.characteristics.Group.TheVariants.{Access, NullCall}
use Rattle.bind_definitions.specs.declared.characteristics.Groups.{Groups}

-- ---- groups: a routine has one characteristic of each at most

-- the group of which a characteristic is
abbrev pub group_of : CharacteristicKind → Group
group_of kind.LanguageSql = Language
group_of kind.Deterministic = Determinism
group_of kind.NotDeterministic = Determinism
group_of kind.ContainsSql = Access
group_of kind.ReadsSqlData = Access
group_of kind.ModifiesSqlData = Access
group_of kind.ReturnsNullOnNullInput = NullCall
group_of kind.CalledOnNullInput = NullCall

-- of no group is there one yet
abbrev pub no_groups : Groups
no_groups = record { language = false; determinism = false; access = false; null_call = false }

-- whether there is one of a group
abbrev pub has : Groups → Group → Bool
has s Language = s.language
has s Determinism = s.determinism
has s Access = s.access
has s NullCall = s.null_call

-- with one of a group more
abbrev pub with_group : Groups → Group → Groups
with_group s Language = record {
  language = true;
  determinism = s.determinism;
  access = s.access;
  null_call = s.null_call;
}
with_group s Determinism = record {
  language = s.language;
  determinism = true;
  access = s.access;
  null_call = s.null_call;
}
with_group s Access = record {
  language = s.language;
  determinism = s.determinism;
  access = true;
  null_call = s.null_call;
}
with_group s NullCall = record {
  language = s.language;
  determinism = s.determinism;
  access =
      s.access;
  null_call = true;
}

-- after characteristics of these groups
abbrev pub again_after : Groups → List Characteristic → List Fault
again_after s [] = []
again_after s (c ∷ cs) = fault_if (has s (group_of c.kind)) DuplicateName c.anchor ++ again_after
    (with_group s (group_of c.kind)) cs

-- a second characteristic of one group: DuplicateName at the later one
abbrev pub group_faults : List Characteristic → List Fault
group_faults cs = again_after no_groups cs

-- ---- null call

-- whether a group says what a call with NULL gives
abbrev pub is_null_call : Group → Bool
is_null_call Language = false
is_null_call Determinism = false
is_null_call Access = false
is_null_call NullCall = true

-- NotPermitted at a characteristic of that group
abbrev pub null_call_fault : Characteristic → List Fault
null_call_fault c = fault_if (is_null_call (group_of c.kind)) NotPermitted c.anchor

-- a procedure has none
abbrev pub null_call_faults : List Characteristic → List Fault
null_call_faults cs = flat_map null_call_fault cs

-- RETURNS NULL ON NULL INPUT
abbrev pub gives_null : CharacteristicKind → Bool
gives_null kind.ReturnsNullOnNullInput = true
gives_null _ = false

-- whether a function is NULL where an argument is
abbrev pub is_null_on_null : List Characteristic → Bool
is_null_on_null [] = false
is_null_on_null (c ∷ cs) = if gives_null c.kind then true else is_null_on_null cs

-- ---- data access

-- CONTAINS SQL, READS SQL DATA and MODIFIES SQL DATA in their order
abbrev pub rank : DataAccess → ℕ
rank ContainsSql = 0
rank ReadsSqlData = 1
rank ModifiesSqlData = 2

-- whether one allows less than another
abbrev pub is_less : DataAccess → DataAccess → Bool
is_less a b = nat_lt (rank a) (rank b)

-- the one that allows more
abbrev pub greater : DataAccess → DataAccess → DataAccess
greater a b = if is_less a b then b else a

-- what the use of a name needs: of a table, that it is read; of a routine, what that needs
abbrev pub access_of : Option Object → DataAccess
access_of None = ContainsSql
access_of (Some (TableObject t)) = ReadsSqlData
access_of (Some (FunctionObject f)) = f.access
access_of (Some (InterpretedObject f)) = f.access
access_of (Some (ProcedureObject p)) = p.access

-- what the use of these names needs together
abbrev pub greatest_access : Catalog → List (List ℕ) → DataAccess
greatest_access catalog [] = ContainsSql
greatest_access catalog (name ∷ names) = greater (access_of (object_named name catalog))
    (greatest_access catalog names)

-- what a body needs that uses these names, and perhaps writes
abbrev pub need_of : Catalog → List (List ℕ) → Bool → DataAccess
need_of catalog uses writes = if writes then ModifiesSqlData else greatest_access catalog uses

-- the data access that a characteristic writes, where it speaks of that
abbrev pub written_by : CharacteristicKind → Option DataAccess
written_by kind.ContainsSql = Some ContainsSql
written_by kind.ReadsSqlData = Some ReadsSqlData
written_by kind.ModifiesSqlData = Some ModifiesSqlData
written_by _ = None

-- NotPermitted where what is written is less than what is needed
abbrev pub less_fault : Anchor → DataAccess → Option DataAccess → List Fault
less_fault at need None = []
less_fault at need (Some written) = fault_if (is_less written need) NotPermitted at

-- what is written is not less than what the body needs
abbrev pub access_faults : DataAccess → List Characteristic → List Fault
access_faults need cs = flat_map (λ c. less_fault c.anchor need (written_by c.kind)) cs

-- what is written, or else another
abbrev pub or_else : Option DataAccess → DataAccess → DataAccess
or_else None other = other
or_else (Some a) other = a

-- the written one, and without one the need of the body
abbrev pub access_by : List Characteristic → DataAccess → DataAccess
access_by [] need = need
access_by (c ∷ cs) need = or_else (written_by c.kind) (access_by cs need)
