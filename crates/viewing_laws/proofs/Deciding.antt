-- What decides which plain tree a bound tree stands for.
use Rattle.std.proofs.Common.{◌≡◌, ℕ, false, List, [], ◌∷◌, Option, Some, None, refl, ap}
use Rattle.std.proofs.Common.{Bool, true, cond}
use Rattle.std.specs.List.{AllByRecursion}
use Rattle.std.specs.Str.{bytes_eq}
use Rattle.rel_algebra.specs.Tree.{Routine}
use Rattle.routine_views.specs.Views.{Known, Own}
use Rattle.viewing_laws.specs.Calls.{CalledNames, expr_calls, query_calls, calls_if_there}
use Rattle.viewing_laws.specs.Calls.{arguments_calls, variables_calls, statement_calls}
use Rattle.viewing_laws.specs.Calls.{calls_of_block}
use Rattle.viewing_laws.specs.Deciding.{SameViews, itself, another, callee_by}
use Rattle.viewing_laws.specs.Deciding.{CalleesDecide, SameBeside, RoutinesDecide}
use Rattle.viewing_laws.specs.Deciding.{OthersDecide, ViewsDecided}
use Rattle.viewing_laws.proofs.Expressions.{expr-same, query-same}
use Rattle.viewing_laws.proofs.Statements.{optional-same, arguments-same, variables-same}
use Rattle.viewing_laws.proofs.Statements.{statement-same, block-same}

pub callees_decide : CalleesDecide
callees_decide k l = record {
  expressions = expr-same k l;
  queries = query-same k l;
  optional = optional-same k l;
  arguments = arguments-same k l;
  variables = variables-same k l;
  statements = λ x s cursors i. statement-same k l x s i cursors;
  blocks = λ x s cursors i. block-same k l x s i cursors;
}

-- what holds where the names are of one sort holds where they are of a narrower one
pub narrowed : (Such Wide : CalledNames → Type 0) (k l : Known) →
    ((names : CalledNames) → Such names → Wide names) → SameViews Wide k l → SameViews Such k l
narrowed Such Wide k l f same = record {
  expressions = λ e s. same.expressions e (f (expr_calls e) s);
  queries = λ q s. same.queries q (f (query_calls q) s);
  optional = λ e s. same.optional e (f (calls_if_there e) s);
  arguments = λ xs s. same.arguments xs (f (arguments_calls xs) s);
  variables = λ vs s. same.variables vs (f (variables_calls vs) s);
  statements = λ x s. same.statements x (f (statement_calls x) s);
  blocks = λ x s. same.blocks x (f (calls_of_block x) s);
}

-- what holds of each holds of each in another way
pub each_so : (P Q : List ℕ → Type 0) → ((name : List ℕ) → P name → Q name) →
    (names : CalledNames) → AllByRecursion P names → AllByRecursion Q names
each_so P Q f [] h = tt
each_so P Q f (name ∷ names) h = (f name h.0, each_so P Q f names h.1)

same-callee : (own : Option Own) (m n : List ℕ → Routine) (name : List ℕ) →
    SameBeside own m n name → callee_by own name (m name) ≡ callee_by own name (n name)
same-callee None m n name h = ap another (h refl)
same-callee (Some own) m n name h = by (bytes_eq own.name name) h
  where
    by : (b : Bool) → (b ≡ false → m name ≡ n name) →
        cond b (itself own.parameters) (another (m name)) ≡
        cond b (itself own.parameters) (another (n name))
    by true h = refl
    by false h = ap another (h refl)

pub routines_decide : RoutinesDecide
routines_decide own m n = narrowed _ _ (record { routines = m; own = own })
    (record { routines = n; own = own })
    (each_so _ _ (same-callee own m n))
    (callees_decide (record { routines = m; own = own }) (record { routines = n; own = own }))

pub others_decide : OthersDecide
others_decide own m = narrowed _ _ (record { routines = m; own = Some own })
    (record { routines = m; own = None })
    (each_so _ _ (λ name h. ap (λ b. cond b (itself own.parameters) (another (m name))) h))
    (callees_decide (record { routines = m; own = Some own })
    (record { routines = m; own = None }))

pub views_decided : ViewsDecided
views_decided = record {
  callees = callees_decide;
  routines = routines_decide;
  others = others_decide;
}
