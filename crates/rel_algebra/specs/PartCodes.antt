-- What plain trees have beside trees, as trees of numbers, each with its way back.
use Rattle.std.specs.Prelude.{ℕ, pos, negsuc, ◌≡◌, Bool, true, false, if◌then◌else◌, nat_eq, List}
use Rattle.std.specs.Prelude.{[], ◌∷◌, Option, Some, None}
use Rattle.std.proofs.Common.{ap, ap₂, sym, ◌∙◌, refl}
use Rattle.std.specs.Coded.{Coded}
use base.Stored.{Gv, gnil, gnum, gcons}
use Rattle.sql_values.specs.declared.value.Value.{Value}
use Rattle.sql_values.specs.declared.value.Value.TheVariants.{Null, Int, Str, Bool as Truth}
use Rattle.sql_values.specs.declared.value.SqlType.{SqlType}
use Rattle.sql_values.specs.declared.value.SqlType.TheVariants.{Integer, Varchar, Boolean}
use Rattle.sql_values.specs.declared.operators.Operator.{Operator}
use Rattle.sql_values.specs.declared.operators.Operator.TheVariants.{Add, Subtract, Multiply}
use Rattle.sql_values.specs.declared.operators.Operator.TheVariants.{Divide, Concatenate}
use Rattle.sql_values.specs.declared.operators.Comparison.{Comparison}
use Rattle.sql_values.specs.declared.operators.Comparison.TheVariants.{Equals, NotEquals, LessThan}
use Rattle.sql_values.specs.declared.operators.Comparison.TheVariants.{LessThanOrEquals}
use Rattle.sql_values.specs.declared.operators.Comparison.TheVariants.{GreaterThan}
use Rattle.sql_values.specs.declared.operators.Comparison.TheVariants.{GreaterThanOrEquals}
use Rattle.rel_algebra.specs.Tree.{Operation, Negation, Arithmetic, Comparing, Modulo, CharLength}
use Rattle.rel_algebra.specs.Tree.{Substring, Cast, Assign, Opposite, NullTest, TrueTest, FalseTest}
use Rattle.rel_algebra.specs.Tree.{AnyOf, Aggregate, Count, Sum, Avg, Min, Max, Target, Mode}
use Rattle.rel_algebra.specs.Tree.{InMode, OutMode, InoutMode, Parameter, HandlerType, Continue}
use Rattle.rel_algebra.specs.Tree.{Exit, Undo, ConditionValue, State, SqlException, SqlWarning}
use Rattle.rel_algebra.specs.Tree.{NotFound, WhichArea, Current, Stacked, StatementItem, Number}
use Rattle.rel_algebra.specs.Tree.{RowCount, ConditionItem, ReturnedSqlstate, MessageText}
use Rattle.rel_algebra.specs.Tree.{StatementRead, ConditionRead}
use Rattle.row_types.specs.declared.sort_key.SortKey.{SortKey}

-- a code that is read back
abbrev pub coded_back : {A : Type 0} (code : A → Gv) (from : Gv → A) →
    ((a : A) → from (code a) ≡ a) → Coded A
coded_back code from back = record { code = code; inj = λ a b h. sym (back a) ∙ ap from h ∙ back b }

-- the number of a code
abbrev pub num : Gv → ℕ
num gnil = 0
num (gnum n) = n
num (gcons x y) = 0

-- the first of a pair
abbrev pub left : Gv → Gv
left gnil = gnil
left (gnum n) = gnil
left (gcons x y) = x

-- the second of a pair
abbrev pub right : Gv → Gv
right gnil = gnil
right (gnum n) = gnil
right (gcons x y) = y

-- one of two by a number, the first at 0
abbrev pub by_number : {A : Type 0} → ℕ → A → A → A
by_number n a b = if nat_eq n 0 then a else b

-- ---- names and texts, values, types, operators

-- a name as a code
abbrev pub name_code : List ℕ → Gv
name_code [] = gnil
name_code (b ∷ bs) = gcons (gnum b) (name_code bs)

-- a name of a code
abbrev pub name_from : Gv → List ℕ
name_from gnil = []
name_from (gnum n) = []
name_from (gcons b bs) = num b ∷ name_from bs

-- a name comes back from its code
pub name_back : (name : List ℕ) → name_from (name_code name) ≡ name
name_back [] = refl
name_back (b ∷ bs) = ap (λ (xs : List ℕ). b ∷ xs) (name_back bs)

-- a value as a code
abbrev pub value_code : Value → Gv
value_code Null = gnil
value_code (Int (pos n)) = gcons (gnum 0) (gnum n)
value_code (Int (negsuc n)) = gcons (gnum 1) (gnum n)
value_code (Truth false) = gcons (gnum 2) (gnum 0)
value_code (Truth true) = gcons (gnum 2) (gnum 1)
value_code (Str s) = gcons (gnum 3) (name_code s)

-- a value by its number
abbrev pub value_by : ℕ → Gv → Value
value_by kind g =
    if nat_eq kind 0 then Int (pos (num g)) else if nat_eq kind 1 then Int (negsuc (num g))
    else if nat_eq kind 2 then by_number (num g) (Truth false) (Truth true) else Str (name_from g)

-- a value of a code
abbrev pub value_from : Gv → Value
value_from gnil = Null
value_from (gnum n) = Null
value_from (gcons kind g) = value_by (num kind) g

-- a value comes back from its code
pub value_back : (v : Value) → value_from (value_code v) ≡ v
value_back Null = refl
value_back (Int (pos n)) = refl
value_back (Int (negsuc n)) = refl
value_back (Truth false) = refl
value_back (Truth true) = refl
value_back (Str s) = ap Str (name_back s)

-- values are told apart by their codes
abbrev pub coded_value : Coded Value
coded_value = coded_back value_code value_from value_back

-- a type as a code
abbrev pub type_code : SqlType → Gv
type_code Integer = gnum 0
type_code Boolean = gnum 1
type_code (Varchar n) = gcons (gnum n) gnil

-- a type of a code
abbrev pub type_from : Gv → SqlType
type_from gnil = Integer
type_from (gnum n) = by_number n Integer Boolean
type_from (gcons n rest) = Varchar (num n)

-- a type comes back from its code
pub type_back : (t : SqlType) → type_from (type_code t) ≡ t
type_back Integer = refl
type_back Boolean = refl
type_back (Varchar n) = refl

-- types are told apart by their codes
abbrev pub coded_type : Coded SqlType
coded_type = coded_back type_code type_from type_back

-- types as a code
abbrev pub types_code : List SqlType → Gv
types_code [] = gnil
types_code (t ∷ ts) = gcons (type_code t) (types_code ts)

-- types of a code
abbrev pub types_from : Gv → List SqlType
types_from gnil = []
types_from (gnum n) = []
types_from (gcons t ts) = type_from t ∷ types_from ts

-- types comes back from its code
pub types_back : (ts : List SqlType) → types_from (types_code ts) ≡ ts
types_back [] = refl
types_back (t ∷ ts) = ap₂ (λ (x : SqlType) (xs : List SqlType). x ∷ xs) (type_back t)
    (types_back ts)

-- an operator as a code
abbrev pub operator_code : Operator → Gv
operator_code Add = gnum 0
operator_code Subtract = gnum 1
operator_code Multiply = gnum 2
operator_code Divide = gnum 3
operator_code Concatenate = gnum 4

-- an operator by its number
abbrev pub operator_by : ℕ → Operator
operator_by n =
    if nat_eq n 0 then Add else if nat_eq n 1 then Subtract else if nat_eq n 2 then Multiply
    else if nat_eq n 3 then Divide else Concatenate

-- an operator comes back from its code
pub operator_back : (o : Operator) → operator_by (num (operator_code o)) ≡ o
operator_back Add = refl
operator_back Subtract = refl
operator_back Multiply = refl
operator_back Divide = refl
operator_back Concatenate = refl

-- a comparison as a code
abbrev pub comparison_code : Comparison → Gv
comparison_code Equals = gnum 0
comparison_code NotEquals = gnum 1
comparison_code LessThan = gnum 2
comparison_code LessThanOrEquals = gnum 3
comparison_code GreaterThan = gnum 4
comparison_code GreaterThanOrEquals = gnum 5

-- a comparison by its number
abbrev pub comparison_by : ℕ → Comparison
comparison_by n = if nat_eq n 0 then Equals else if nat_eq n 1 then NotEquals
    else if nat_eq n 2 then LessThan
    else if nat_eq n 3 then LessThanOrEquals else if nat_eq n 4 then GreaterThan
    else GreaterThanOrEquals

-- a comparison comes back from its code
pub comparison_back : (c : Comparison) → comparison_by (num (comparison_code c)) ≡ c
comparison_back Equals = refl
comparison_back NotEquals = refl
comparison_back LessThan = refl
comparison_back LessThanOrEquals = refl
comparison_back GreaterThan = refl
comparison_back GreaterThanOrEquals = refl

-- a truth value as a code
abbrev pub bool_code : Bool → Gv
bool_code false = gnum 0
bool_code true = gnum 1

-- a truth value comes back from its code
pub bool_back : (b : Bool) → by_number (num (bool_code b)) false true ≡ b
bool_back false = refl
bool_back true = refl

-- an operation as a code
abbrev pub operation_code : Operation → Gv
operation_code Negation = gcons (gnum 0) gnil
operation_code (Arithmetic operator) = gcons (gnum 1) (operator_code operator)
operation_code (Comparing comparison) = gcons (gnum 2) (comparison_code comparison)
operation_code Opposite = gcons (gnum 3) gnil
operation_code NullTest = gcons (gnum 4) gnil
operation_code TrueTest = gcons (gnum 5) gnil
operation_code FalseTest = gcons (gnum 6) gnil
operation_code AnyOf = gcons (gnum 7) gnil
operation_code Modulo = gcons (gnum 8) gnil
operation_code CharLength = gcons (gnum 9) gnil
operation_code Substring = gcons (gnum 10) gnil
operation_code (Cast t) = gcons (gnum 11) (type_code t)
operation_code (Assign t) = gcons (gnum 12) (type_code t)

-- an operation by its number
abbrev pub operation_by : ℕ → Gv → Operation
operation_by kind g =
    if nat_eq kind 0 then Negation else if nat_eq kind 1 then Arithmetic (operator_by (num g))
    else if nat_eq kind 2 then Comparing (comparison_by (num g)) else if nat_eq kind 3 then Opposite
    else if nat_eq kind 4 then NullTest
    else if nat_eq kind 5 then TrueTest else if nat_eq kind 6 then FalseTest
    else if nat_eq kind 7 then AnyOf
    else if nat_eq kind 8 then Modulo else if nat_eq kind 9 then CharLength
    else if nat_eq kind 10 then Substring
    else if nat_eq kind 11 then Cast (type_from g) else Assign (type_from g)

-- an operation of a code
abbrev pub operation_from : Gv → Operation
operation_from g = operation_by (num (left g)) (right g)

-- an operation comes back from its code
pub operation_back : (o : Operation) → operation_from (operation_code o) ≡ o
operation_back Negation = refl
operation_back (Arithmetic operator) = ap Arithmetic (operator_back operator)
operation_back (Comparing comparison) = ap Comparing (comparison_back comparison)
operation_back Opposite = refl
operation_back NullTest = refl
operation_back TrueTest = refl
operation_back FalseTest = refl
operation_back AnyOf = refl
operation_back Modulo = refl
operation_back CharLength = refl
operation_back Substring = refl
operation_back (Cast t) = ap Cast (type_back t)
operation_back (Assign t) = ap Assign (type_back t)

-- an aggregate as a code
abbrev pub aggregate_code : Aggregate → Gv
aggregate_code Count = gnum 0
aggregate_code Sum = gnum 1
aggregate_code Avg = gnum 2
aggregate_code Min = gnum 3
aggregate_code Max = gnum 4

-- an aggregate by its number
abbrev pub aggregate_by : ℕ → Aggregate
aggregate_by n =
    if nat_eq n 0 then Count else if nat_eq n 1 then Sum else if nat_eq n 2 then Avg
    else if nat_eq n 3 then Min else Max

-- an aggregate comes back from its code
pub aggregate_back : (a : Aggregate) → aggregate_by (num (aggregate_code a)) ≡ a
aggregate_back Count = refl
aggregate_back Sum = refl
aggregate_back Avg = refl
aggregate_back Min = refl
aggregate_back Max = refl

-- aggregates as a code
abbrev pub aggregates_code : List Aggregate → Gv
aggregates_code [] = gnil
aggregates_code (a ∷ ags) = gcons (aggregate_code a) (aggregates_code ags)

-- aggregates of a code
abbrev pub aggregates_from : Gv → List Aggregate
aggregates_from gnil = []
aggregates_from (gnum n) = []
aggregates_from (gcons a ags) = aggregate_by (num a) ∷ aggregates_from ags

-- aggregates comes back from its code
pub aggregates_back : (ags : List Aggregate) → aggregates_from (aggregates_code ags) ≡ ags
aggregates_back [] = refl
aggregates_back (a ∷ ags) =
    ap₂ (λ (x : Aggregate) (xs : List Aggregate). x ∷ xs) (aggregate_back a) (aggregates_back ags)

-- a sort key as a code
abbrev pub key_code : SortKey → Gv
key_code key = gcons (gnum key.place) (bool_code key.descending)

-- a sort key of a code
abbrev pub key_from : Gv → SortKey
key_from g = record { place = num (left g); descending = by_number (num (right g)) false true }

-- a sort key comes back from its code
pub key_back : (key : SortKey) → key_from (key_code key) ≡ key
key_back key = ap (λ (b : Bool). record { place = key.place; descending = b })
    (bool_back key.descending)

-- sort keys as a code
abbrev pub keys_code : List SortKey → Gv
keys_code [] = gnil
keys_code (key ∷ keys) = gcons (key_code key) (keys_code keys)

-- sort keys of a code
abbrev pub keys_from : Gv → List SortKey
keys_from gnil = []
keys_from (gnum n) = []
keys_from (gcons key keys) = key_from key ∷ keys_from keys

-- sort keys comes back from its code
pub keys_back : (keys : List SortKey) → keys_from (keys_code keys) ≡ keys
keys_back [] = refl
keys_back (key ∷ keys) = ap₂ (λ (x : SortKey) (xs : List SortKey). x ∷ xs) (key_back key)
    (keys_back keys)

-- ---- lists and options

-- a list as a code
abbrev pub list_code : {A : Type 0} → (A → Gv) → List A → Gv
list_code code [] = gnil
list_code code (x ∷ xs) = gcons (code x) (list_code code xs)

-- a list of a code
abbrev pub list_from : {A : Type 0} → (Gv → A) → Gv → List A
list_from from gnil = []
list_from from (gnum n) = []
list_from from (gcons x xs) = from x ∷ list_from from xs

-- a list comes back from its code
pub list_back : {A : Type 0} (code : A → Gv) (from : Gv → A) → ((a : A) → from (code a) ≡ a) →
    (xs : List A) → list_from from (list_code code xs) ≡ xs
list_back code from back [] = refl
list_back code from back (x ∷ xs) =
    ap₂ (λ (y : _) (ys : List _). y ∷ ys) (back x) (list_back code from back xs)

-- a list that may be left out
abbrev pub listed_code : Option (List ℕ) → Gv
listed_code None = gnil
listed_code (Some ns) = gcons (name_code ns) gnil

-- a list that may be left out of a code
abbrev pub listed_from : Gv → Option (List ℕ)
listed_from gnil = None
listed_from (gnum n) = None
listed_from (gcons ns rest) = Some (name_from ns)

-- a list that may be left out comes back from its code
pub listed_back : (listed : Option (List ℕ)) → listed_from (listed_code listed) ≡ listed
listed_back None = refl
listed_back (Some ns) = ap Some (name_back ns)

-- ---- what statements have

-- a target as a code
abbrev pub target_code : Target → Gv
target_code t = gcons (gnum t.slot) (type_code t.data_type)

-- a target of a code
abbrev pub target_from : Gv → Target
target_from g = record { slot = num (left g); data_type = type_from (right g) }

-- a target comes back from its code
pub target_back : (t : Target) → target_from (target_code t) ≡ t
target_back t = ap (λ (x : SqlType). record { slot = t.slot; data_type = x })
    (type_back t.data_type)

-- targets as a code
abbrev pub targets_code : List Target → Gv
targets_code = list_code target_code

-- targets of a code
abbrev pub targets_from : Gv → List Target
targets_from = list_from target_from

-- targets comes back from its code
pub targets_back : (ts : List Target) → targets_from (targets_code ts) ≡ ts
targets_back = list_back target_code target_from target_back

-- a mode as a code
abbrev pub mode_code : Mode → Gv
mode_code InMode = gnum 0
mode_code OutMode = gnum 1
mode_code InoutMode = gnum 2

-- a mode by its number
abbrev pub mode_by : ℕ → Mode
mode_by n = if nat_eq n 0 then InMode else if nat_eq n 1 then OutMode else InoutMode

-- a mode comes back from its code
pub mode_back : (m : Mode) → mode_by (num (mode_code m)) ≡ m
mode_back InMode = refl
mode_back OutMode = refl
mode_back InoutMode = refl

-- a parameter as a code
abbrev pub parameter_code : Parameter → Gv
parameter_code p = gcons (mode_code p.mode) (type_code p.data_type)

-- a parameter of a code
abbrev pub parameter_from : Gv → Parameter
parameter_from g = record { mode = mode_by (num (left g)); data_type = type_from (right g) }

-- a parameter comes back from its code
pub parameter_back : (p : Parameter) → parameter_from (parameter_code p) ≡ p
parameter_back p = ap₂ (λ (m : Mode) (t : SqlType). record { mode = m; data_type = t })
    (mode_back p.mode) (type_back p.data_type)

-- parameters as a code
abbrev pub parameters_code : List Parameter → Gv
parameters_code = list_code parameter_code

-- parameters of a code
abbrev pub parameters_from : Gv → List Parameter
parameters_from = list_from parameter_from

-- parameters comes back from its code
pub parameters_back : (ps : List Parameter) → parameters_from (parameters_code ps) ≡ ps
parameters_back = list_back parameter_code parameter_from parameter_back

-- what follows a handler's action as a code
abbrev pub handler_code : HandlerType → Gv
handler_code Continue = gnum 0
handler_code Exit = gnum 1
handler_code Undo = gnum 2

-- what follows a handler's action by its number
abbrev pub handler_by : ℕ → HandlerType
handler_by n = if nat_eq n 0 then Continue else if nat_eq n 1 then Exit else Undo

-- what follows a handler's action comes back from its code
pub handler_back : (h : HandlerType) → handler_by (num (handler_code h)) ≡ h
handler_back Continue = refl
handler_back Exit = refl
handler_back Undo = refl

-- what a handler waits for as a code
abbrev pub condition_code : ConditionValue → Gv
condition_code (State s) = gcons (name_code s) gnil
condition_code SqlException = gnum 0
condition_code SqlWarning = gnum 1
condition_code NotFound = gnum 2

-- what a handler waits for by its number
abbrev pub condition_by : ℕ → ConditionValue
condition_by n = if nat_eq n 0 then SqlException else if nat_eq n 1 then SqlWarning else NotFound

-- what a handler waits for of a code
abbrev pub condition_from : Gv → ConditionValue
condition_from gnil = NotFound
condition_from (gnum n) = condition_by n
condition_from (gcons s rest) = State (name_from s)

-- what a handler waits for comes back from its code
pub condition_back : (c : ConditionValue) → condition_from (condition_code c) ≡ c
condition_back (State s) = ap State (name_back s)
condition_back SqlException = refl
condition_back SqlWarning = refl
condition_back NotFound = refl

-- what a handler waits for, in order as a code
abbrev pub conditions_code : List ConditionValue → Gv
conditions_code = list_code condition_code

-- what a handler waits for, in order of a code
abbrev pub conditions_from : Gv → List ConditionValue
conditions_from = list_from condition_from

-- what a handler waits for, in order comes back from its code
pub conditions_back : (cs : List ConditionValue) → conditions_from (conditions_code cs) ≡ cs
conditions_back = list_back condition_code condition_from condition_back

-- CURRENT or STACKED as a code
abbrev pub which_code : WhichArea → Gv
which_code Current = gnum 0
which_code Stacked = gnum 1

-- CURRENT or STACKED comes back from its code
pub which_back : (w : WhichArea) → by_number (num (which_code w)) Current Stacked ≡ w
which_back Current = refl
which_back Stacked = refl

-- a statement item as a code
abbrev pub statement_item_code : StatementItem → Gv
statement_item_code Number = gnum 0
statement_item_code RowCount = gnum 1

-- a statement item comes back from its code
pub statement_item_back : (i : StatementItem) →
    by_number (num (statement_item_code i)) Number RowCount ≡ i
statement_item_back Number = refl
statement_item_back RowCount = refl

-- a condition item as a code
abbrev pub condition_item_code : ConditionItem → Gv
condition_item_code ReturnedSqlstate = gnum 0
condition_item_code MessageText = gnum 1

-- a condition item comes back from its code
pub condition_item_back : (i : ConditionItem) →
    by_number (num (condition_item_code i)) ReturnedSqlstate MessageText ≡ i
condition_item_back ReturnedSqlstate = refl
condition_item_back MessageText = refl

-- a statement item with its variable as a code
abbrev pub statement_read_code : StatementRead → Gv
statement_read_code r = gcons (statement_item_code r.item) (target_code r.target)

-- a statement item with its variable of a code
abbrev pub statement_read_from : Gv → StatementRead
statement_read_from g = record {
  item = by_number (num (left g)) Number RowCount;
  target = target_from (right g);
}

-- a statement item with its variable comes back from its code
pub statement_read_back : (r : StatementRead) → statement_read_from (statement_read_code r) ≡ r
statement_read_back r = ap₂ (λ (i : StatementItem) (t : Target). record { item = i; target = t })
    (statement_item_back r.item) (target_back r.target)

-- several of these as a code
abbrev pub statement_reads_code : List StatementRead → Gv
statement_reads_code = list_code statement_read_code

-- several of these of a code
abbrev pub statement_reads_from : Gv → List StatementRead
statement_reads_from = list_from statement_read_from

-- several of these comes back from its code
pub statement_reads_back : (rs : List StatementRead) →
    statement_reads_from (statement_reads_code rs) ≡ rs
statement_reads_back = list_back statement_read_code statement_read_from statement_read_back

-- a condition item with its variable as a code
abbrev pub condition_read_code : ConditionRead → Gv
condition_read_code r = gcons (condition_item_code r.item) (target_code r.target)

-- a condition item with its variable of a code
abbrev pub condition_read_from : Gv → ConditionRead
condition_read_from g = record {
  item = by_number (num (left g)) ReturnedSqlstate MessageText;
  target = target_from (right g);
}

-- a condition item with its variable comes back from its code
pub condition_read_back : (r : ConditionRead) → condition_read_from (condition_read_code r) ≡ r
condition_read_back r = ap₂ (λ (i : ConditionItem) (t : Target). record { item = i; target = t })
    (condition_item_back r.item) (target_back r.target)

-- several of these as a code
abbrev pub condition_reads_code : List ConditionRead → Gv
condition_reads_code = list_code condition_read_code

-- several of these of a code
abbrev pub condition_reads_from : Gv → List ConditionRead
condition_reads_from = list_from condition_read_from

-- several of these comes back from its code
pub condition_reads_back : (rs : List ConditionRead) →
    condition_reads_from (condition_reads_code rs) ≡ rs
condition_reads_back = list_back condition_read_code condition_read_from condition_read_back
