-- The typing of the worked rows.
use Rattle.std.proofs.Common.{◌≡◌, ℕ, true, cond, ◌&&◌, List, [], ◌∷◌, Option, Some, None}
use Rattle.std.proofs.Common.{refl, sym, ap, ◌∙◌, codes}
use Rattle.std.specs.Prelude.{IsSome}
use Rattle.bound_trees.specs.declared.expr.BoundExpr.{BoundExpr}
use Rattle.bound_trees.specs.declared.expr.BoundExpr.TheOpen.{BoundExpr-F}
use Rattle.bound_trees.specs.declared.expr.BoundExpr.TheVariants as expr
use Rattle.bound_trees.specs.declared.expr.BoundExpr.TheVariants.{rolls-Variable, rolls-Call}
use Rattle.bound_trees.specs.declared.statement.BoundArgument.TheVariants as argument
use Rattle.bound_trees.specs.declared.statement.BoundCall.{BoundCall}
use Rattle.bound_trees.specs.declared.statement.BoundStmt.TheOpen.{BoundStmt-F}
use Rattle.bound_trees.specs.declared.statement.BoundStmt.TheVariants.{rolls-Return}
use Rattle.bound_trees.specs.declared.statement.BoundStmt.TheVariants.{rolls-Call as rolls-call}
use Rattle.bind_kinds.specs.declared.kind.Kind.TheVariants.{Integer}
use Rattle.catalog_store.specs.declared.entry.FunctionHead.{FunctionHead}
use Rattle.catalog_store.specs.declared.entry.ProcedureHead.{ProcedureHead}
use Rattle.catalog_store.specs.Catalog.{Catalog, Object, object_named}
use Rattle.typing_trees.specs.Queries.{ExprKind, expr_kind, kind_of}
use Rattle.typing_trees.specs.Statements.{Typed, is_typed, is_of}
use Rattle.typing_trees.proofs.Laws.{kind_of-at, is_typed-at}
use Rattle.viewing_laws.specs.Examples.{call, f_of_v, g_of_v, body_g, body_p}
use Rattle.viewing_laws.specs.Standing.{StandsBeside}
use Rattle.typing_calls.specs.Typed.{SeesBeside}
use Rattle.typing_calls.specs.Examples.{function_in, head_p, nothing, only_p, over}

-- ---- kinds

call-kind : (name : List ℕ) (e : BoundExpr) → kind_of (call name e) ≡
    expr_kind (BoundExpr-F.Call name (kind_of e ∷ []))
call-kind name e = ap kind_of (sym (rolls-Call name (e ∷ []))) ∙
    kind_of-at (BoundExpr-F.Call name (e ∷ []))

v-kind : kind_of (expr.Variable 0) ≡ expr_kind (BoundExpr-F.Variable 0)
v-kind = ap kind_of (sym (rolls-Variable 0)) ∙ kind_of-at (BoundExpr-F.Variable 0)

-- a call with V, whose kind computes
abbrev kind_with_v : List ℕ → ExprKind
kind_with_v name = expr_kind (BoundExpr-F.Call name (expr_kind (BoundExpr-F.Variable 0) ∷ []))

with-v-kind : (name : List ℕ) → kind_of (call name (expr.Variable 0)) ≡ kind_with_v name
with-v-kind name = call-kind name (expr.Variable 0) ∙
    (λ i. expr_kind (BoundExpr-F.Call name (v-kind i ∷ [])))

f-g-kind : kind_of (call (codes "F") g_of_v) ≡
    expr_kind (BoundExpr-F.Call (codes "F") (kind_with_v (codes "G") ∷ []))
f-g-kind = call-kind (codes "F") g_of_v ∙
    (λ i. expr_kind (BoundExpr-F.Call (codes "F") (with-v-kind (codes "G") i ∷ [])))

-- ---- statements

pub g-typed : (c : Catalog) → is_typed body_g (over nothing c) ≡
    is_of Integer (kind_with_v (codes "F") (over nothing c).around)
g-typed c = ap (λ (t : Typed). t (over nothing c)) (ap is_typed (sym (rolls-Return f_of_v)) ∙
    is_typed-at (BoundStmt-F.Return f_of_v)) ∙
    (λ i. is_of Integer (with-v-kind (codes "F") i (over nothing c).around))

-- the CALL in the body of P
abbrev call_p : BoundCall
call_p = record {
  procedure = codes "P";
  arguments = argument.Value (call (codes "F") g_of_v) ∷ [];
}

pub p-typed : (c : Catalog) → is_typed body_p (over only_p c) ≡
    (is_of Integer (expr_kind (BoundExpr-F.Call (codes "F") (kind_with_v (codes "G") ∷ []))
    (over only_p c).around) && true)
p-typed c = ap (λ (t : Typed). t (over only_p c)) (ap is_typed (sym (rolls-call call_p)) ∙
    is_typed-at (BoundStmt-F.Call call_p)) ∙
    (λ i. is_of Integer (f-g-kind i (over only_p c).around) && true)

-- ---- what stands around

function_there : (o : Option Object) (h : FunctionHead) → function_in o ≡ Some h → IsSome o
function_there None h p = absurd cc
function_there (Some o) h p = refl

functions_stand : (own : List ℕ) (c : Catalog) (name : List ℕ) (h : FunctionHead) →
    function_in (object_named name c) ≡ Some h → StandsBeside own c name
functions_stand own c name h p q = function_there (object_named name c) h p

pub sees_g : (c : Catalog) → SeesBeside (codes "G") c (over nothing c)
sees_g c = record {
  functions = functions_stand (codes "G") c;
  procedures = λ name h p. absurd cc;
}

-- a procedure is P, and so the routine itself
itself : (c : Catalog) (name : List ℕ) (h : ProcedureHead) → only_p name ≡ Some h →
    StandsBeside (codes "P") c name
itself c name h p q =
    let none : only_p name ≡ None = ap (λ b. cond b (Some head_p) None) q in cc

pub sees_p : (c : Catalog) → SeesBeside (codes "P") c (over only_p c)
sees_p c = record {
  functions = functions_stand (codes "P") c;
  procedures = itself c;
}
