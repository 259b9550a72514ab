-- Which conjuncts compare a column with a name from outside, and those that wait. ISO/IEC 9075-2,
-- 7.12 (where clause) and 8.2 (comparison predicate).
use Rattle.std.specs.Prelude.{ℕ, zero, suc, map, Bool, true, false, if◌then◌else◌, Option}
use Rattle.std.specs.Prelude.{Some, None}
use Rattle.sql_values.specs.declared.operators.Comparison.{Comparison}
use Rattle.sql_values.specs.declared.operators.Comparison.TheVariants.{Equals}
use Rattle.rel_algebra.specs.declared.scalar.Scalar.{Scalar as ScalarCode}
use Rattle.rel_algebra.specs.Tree.{Expr, Column, Variable}
use Rattle.rel_algebra.specs.PlanView.{scalar_of}
use Rattle.rel_algebra.specs.Emit.{Env, Key, Emitted, Waiting, plain, column_key, param_key}
use Rattle.plan_expressions.specs.Scopes.{is_zero, place_of}
use Rattle.plan_drafts.specs.declared.keys.Key.{Key as KeyCode}
use Rattle.plan_drafts.specs.declared.keys.Waiting.{Waiting as WaitingCode}

-- the place of a column of the query's own row
abbrev pub inner_place : Expr → Option ℕ
inner_place (Column level i) = if is_zero level then Some i else None
inner_place _ = None

-- an own column with the other side, where this is a name from outside
abbrev pub key_with : ℕ → Expr → Env → Option Key
key_with i (Column zero j) e = None
key_with i (Column (suc d) j) e = Some (column_key e i d j)
key_with i (Variable j) e = Some (param_key e i j)
key_with i _ e = None

-- the key of an own column, where the first side has one, and of the other side
abbrev pub other_key : Option ℕ → Expr → Env → Option Key
other_key None x e = None
other_key (Some i) x e = key_with i x e

-- the key of an equation, whichever of its sides is the own column
abbrev pub key_between : Option ℕ → Expr → Expr → Env → Option Key
key_between None x y e = other_key (inner_place y) x e
key_between (Some i) x y e = key_with i y e

-- = alone makes a key; the other comparisons are plain tests
abbrev pub is_equality : Comparison → Bool
is_equality Equals = true
is_equality _ = false

-- as they are held
abbrev pub key_view : KeyCode → Key
key_view k = record { own = place_of k.own; other = place_of k.other; of_column = k.of_column }

-- the key that the code found, or none
abbrev pub held : Option KeyCode → Option Key
held None = None
held (Some k) = Some (key_view k)

-- a scalar that needs no node
abbrev pub plain_of : ScalarCode → Emitted
plain_of s = plain (scalar_of s)

-- the tests that wait, those on parameters before those on columns
abbrev pub waiting_of : WaitingCode → Waiting
waiting_of w = record { params = map plain_of w.parameters; columns = map plain_of w.columns }
