-- What is well typed calls what stands around it, and so bodies call what stands before them.
use Rattle.std.proofs.Common.{◌≡◌, inl, inr, ℕ, List, [], ◌∷◌, ◌++◌, Option, Some}
use Rattle.std.proofs.Common.{refl, sym, subst}
use Rattle.std.proofs.lemmas.List.{append-nil, append_assoc}
use Rattle.std.specs.List.{AllByRecursion}
use Rattle.std.specs.Prelude.{IsSome}
use Rattle.bound_trees.specs.declared.statement.BoundStmt.{BoundStmt}
use Rattle.catalog_store.specs.declared.entry.Object.{Object as HeldObject}
use Rattle.catalog_store.specs.Catalog.{Object, TableObject, FunctionObject, InterpretedObject}
use Rattle.catalog_store.specs.Catalog.{ProcedureObject, Entry, Catalog}
use Rattle.catalog_store.specs.Entries.{object_of, entry_of, with_all}
use Rattle.viewing_laws.specs.Calls.{statement_calls}
use Rattle.viewing_laws.specs.Standing.{object_calls, StandsBeside, CallsStandAfter}
use Rattle.typing_calls.specs.Typed.{IsCallable, StatementTyped, ObjectTyped, RoutinesTyped}
use Rattle.typing_calls.specs.Typed.{TypedCallsStand}
use Rattle.typing_calls.proofs.Expressions.{expr-calls, query-calls}
use Rattle.typing_calls.proofs.Statements.{statement-calls}

-- what is there is there
is_there : {A : Type 0} (o : Option A) (x : A) → o ≡ Some x → IsSome o
is_there o x h = subst (λ p. IsSome p) (sym h) refl

body_calls : (own : List ℕ) (known : Catalog) (body : BoundStmt) → StatementTyped own known body →
    AllByRecursion (StandsBeside own known) (statement_calls body)
body_calls own known body t =
    statement-calls t.around.around.functions t.around.procedures (StandsBeside own known)
    t.sees.functions t.sees.procedures body t.around (refl, refl) t.typed

typed_calls : (own : List ℕ) (known : Catalog) (o : Object) → ObjectTyped own known o →
    AllByRecursion (StandsBeside own known) (object_calls o)
typed_calls own known (TableObject row_type) t = tt
typed_calls own known (FunctionObject f) t = tt
typed_calls own known (InterpretedObject f) t = body_calls own known f.body t
typed_calls own known (ProcedureObject p) t = body_calls own known p.body t

one_more : (known es : Catalog) (e : Entry) → CallsStandAfter known es →
    AllByRecursion (StandsBeside e.name (known ++ es)) (object_calls e.object) →
    CallsStandAfter known (es ++ e ∷ [])
one_more known [] e h k = (
  subst (λ (c : Catalog). AllByRecursion (StandsBeside e.name c) (object_calls e.object))
      (append-nil known) k,
  tt,
)
one_more known (x ∷ xs) e h k = (
  h.0,
  one_more (known ++ x ∷ []) xs e h.1
      (subst (λ (c : Catalog). AllByRecursion (StandsBeside e.name c) (object_calls e.object))
      (sym (append_assoc known (x ∷ []) xs)) k),
)

bodies_stand : (known : Catalog) (es : List (List ℕ × HeldObject)) → CallsStandAfter [] known →
    RoutinesTyped known es → CallsStandAfter [] (with_all known es)
bodies_stand known [] h typed = h
bodies_stand known (e ∷ es) h typed = bodies_stand (known ++ entry_of known e.0 e.1 ∷ []) es
    (one_more [] known (entry_of known e.0 e.1) h
    (typed_calls e.0 known (object_of known e.1) typed.0)) typed.1

pub typed_calls_stand : TypedCallsStand
typed_calls_stand = record {
  expressions = λ e a kind h. expr-calls a.functions (λ name. IsSome (a.functions name))
      (λ name f p. is_there (a.functions name) f p) e a kind refl h;
  queries = λ q a kinds h. query-calls a.functions (λ name. IsSome (a.functions name))
      (λ name f p. is_there (a.functions name) f p) q a kinds refl h;
  statements = λ s i h. statement-calls i.around.functions i.procedures (IsCallable i)
      (λ name f p. inl (is_there (i.around.functions name) f p))
      (λ name f p. inr (is_there (i.procedures name) f p)) s i (refl, refl) h;
  bodies = λ es typed. bodies_stand [] es tt typed;
}
