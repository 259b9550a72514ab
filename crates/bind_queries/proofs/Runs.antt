-- What a plan may use: which of the names in sight have plans, and lists of such names.
use Rattle.std.proofs.Common.{◌≡◌, refl, sym, ap, ◌∙◌, subst, ℕ, Bool, true, false, ◌||◌, ◌&&◌}
use Rattle.std.proofs.Common.{List, [], ◌∷◌, ◌++◌, length, Option, Some, None, if◌then◌else◌}
use Rattle.std.specs.Str.{bytes_eq}
use Rattle.std.proofs.lemmas.Bool.{and_parts, and_from, eq-eqb, or_left, or_right}
use Rattle.std.proofs.lemmas.List.Folds.{list_all-append}
use Rattle.std.proofs.lemmas.Slice.Eq.{bytes_eq-Decides}
use Rattle.rel_algebra.specs.Plain.{as_many, planned_routine}
use Rattle.rel_algebra.specs.Tree.{Returned, Routine, parameters_of}
use Rattle.catalog_store.specs.Catalog.{Function, Object, TableObject, FunctionObject}
use Rattle.catalog_store.specs.Catalog.{InterpretedObject, ProcedureObject, Catalog, object_named}
use Rattle.catalog_store.specs.Catalog.{routine_in, routine_named}
use Rattle.catalog_store.specs.Planning.{AllPlanned, IsPlannedFunction, IsPlannedObject}
use Rattle.catalog_store.specs.Uses.{SameNames}
use Rattle.catalog_store.specs.declared.entry.FunctionHead.{FunctionHead}
use Rattle.bind_sight.specs.declared.scope.EnclosingRoutine.{EnclosingRoutine}
use Rattle.bind_parts.specs.Typed.{head_in, head_named, is_own, own_head, function_known}
use Rattle.bind_queries.specs.Runs.{is_run, all_run, Runs, IsNew}
use Rattle.bind_queries.proofs.Sets.{Names, has}

-- ---- what a name in sight stands for in the catalog

-- a routine has a plan, and is called with as many values as it takes
abbrev pub called_planned : Routine → ℕ → Bool
called_planned r arguments = planned_routine r && as_many r arguments

-- a routine takes as many values as it has parameters
as-many : (r : Routine) (n : ℕ) → n ≡ length (parameters_of r) → as_many r n ≡ true
as-many (Returned types returns x) n h = refl
as-many r n h = eq-eqb n (length (parameters_of r)) h

pub not-own : (known : Catalog) (own : Option EnclosingRoutine) (name : List ℕ) → IsNew known own →
    is_run (object_named name known) ≡ true → is_own name own ≡ false
not-own known None name new r = refl
not-own known (Some o) name new r = by (bytes_eq o.name name) refl
  where
    none : is_run None ≡ true → ⊥
    none p = cc

    by : (b : Bool) → bytes_eq o.name name ≡ b → bytes_eq o.name name ≡ false
    by true e =
        absurd (none
        (ap is_run (sym (subst (λ n. object_named n known ≡ None)
        ((bytes_eq-Decides o.name name).0 e) new)) ∙ r))
    by false e = e

pub in-catalog : (known : Catalog) (own : Option EnclosingRoutine) (name : List ℕ)
    (h : FunctionHead) →
    is_own name own ≡ false → function_known name own known ≡ Some h →
    head_named name known ≡ Some h
in-catalog known own name h n p = sym (ap (λ b. if b then own_head own else head_named name known)
    n) ∙ p

pub with-a-plan : (known : Catalog) (name : List ℕ) (h : FunctionHead) (o : Option Object) →
    object_named name known ≡ o → head_in o ≡ Some h → is_run o ≡ true
    → (f : Function) × (object_named name known ≡ Some (FunctionObject f)) ×
    (length f.parameters ≡ length h.parameters)
with-a-plan known name h None is p r = absurd cc
with-a-plan known name h (Some (TableObject t)) is p r = absurd cc
with-a-plan known name h (Some (FunctionObject f)) is p r =
    let same : f.parameters ≡ h.parameters = cc in (f, is, ap (λ ps. length ps) same)
with-a-plan known name h (Some (InterpretedObject f)) is p r = absurd cc
with-a-plan known name h (Some (ProcedureObject q)) is p r = absurd cc

-- a function in sight that may be run has a plan, and is called with as many values as it takes
pub planned-call : (known : Catalog) (own : Option EnclosingRoutine) (name : List ℕ)
    (h : FunctionHead) (arguments : ℕ) → AllPlanned known → IsNew known own →
    function_known name own known ≡ Some h → arguments ≡ length h.parameters
    → is_run (object_named name known) ≡ true →
    called_planned (routine_named name known) arguments ≡ true
planned-call known own name h arguments all new p n r =
    let here = in-catalog known own name h (not-own known own name new r) p in
    let g = with-a-plan known name h (object_named name known) refl here r in
    let is : IsPlannedFunction g.0 = subst IsPlannedObject g.1 (all name) in
    let many : as_many g.0.routine arguments ≡ true =
    as-many g.0.routine arguments (n ∙ sym g.2 ∙ ap (λ ps. length ps) (sym is.parameters)) in
    ap (λ o. called_planned (routine_in o) arguments) g.1
    ∙ and_from (planned_routine g.0.routine) (as_many g.0.routine arguments) is.planned many

-- ---- lists of names

pub one-runs : (known : Catalog) (xs : Names) (name : List ℕ) → Runs known xs → has name xs ≡ true →
    is_run (object_named name known) ≡ true
one-runs known [] name r h = absurd cc
one-runs known (x ∷ xs) name r h =
    let both = and_parts (is_run (object_named x known)) (all_run known xs) r in
    by both.0 (bytes_eq x name) refl h (λ q. one-runs known xs name both.1 q)
  where
    by : is_run (object_named x known) ≡ true → (b : Bool) → bytes_eq x name ≡ b →
        (b || has name xs) ≡ true → (has name xs ≡ true → is_run (object_named name known) ≡ true) →
        is_run (object_named name known) ≡ true
    by here true e q rest = subst (λ n. is_run (object_named n known) ≡ true)
        ((bytes_eq-Decides x name).0 e) here
    by here false e q rest = rest q

pub runs-by-name : (known : Catalog) (us : Names) →
    ((name : List ℕ) → has name us ≡ true → is_run (object_named name known) ≡ true) →
    Runs known us
runs-by-name known [] f = refl
runs-by-name known (u ∷ us) f =
    and_from (is_run (object_named u known)) (all_run known us)
    (f u (or_left (bytes_eq u u) (has u us) ((bytes_eq-Decides u u).1 refl)))
    (runs-by-name known us (λ name h. f name (or_right (bytes_eq u name) (has name us) h)))

pub runs-same : (known : Catalog) (us vs : Names) → SameNames us vs → Runs known us → Runs known vs
runs-same known us vs same r = runs-by-name known vs
    (λ name h. one-runs known us name r (same name ∙ h))

pub runs-both : (known : Catalog) (us vs : Names) → Runs known us → Runs known vs →
    Runs known (us ++ vs)
runs-both known us vs p q = list_all-append (λ name. is_run (object_named name known)) us vs ∙
    and_from (all_run known us) (all_run known vs) p q

pub runs-parts : (known : Catalog) (us vs : Names) → Runs known (us ++ vs) →
    Runs known us × Runs known vs
runs-parts known us vs p = and_parts (all_run known us) (all_run known vs)
    (sym (list_all-append (λ name. is_run (object_named name known)) us vs) ∙ p)
