-- Expressions and queries without faults note what they call.
use Rattle.std.proofs.Common.{◌≡◌, ℕ, true, false, List, [], ◌∷◌, ◌++◌}
use Rattle.std.proofs.Common.{Option, refl, ◌∙◌}
use Rattle.std.proofs.lemmas.Bool.{or_left, or_right}
use Rattle.std.specs.List.{AllByRecursion}
use Rattle.std.specs.Prelude.{is_some}
use Rattle.std.specs.Str.{bytes_eq}
use Rattle.syntax_trees.specs.declared.expr.Expr.{Expr}
use Rattle.syntax_trees.specs.declared.query.OrderedQuery.{OrderedQuery}
use Rattle.syntax_trees.specs.declared.query.Query.{Query}
use Rattle.catalog_store.specs.Catalog.{Catalog, object_named}
use Rattle.catalog_store.specs.Planning.{AllPlanned}
use Rattle.catalog_store.specs.Uses.{Use, Uses, calls, reads, uses_in, uses_in_query}
use Rattle.catalog_store.specs.Uses.{names_used, SameNames}
use Rattle.catalog_store.proofs.Laws.{bytes_self}
use Rattle.bind_kinds.specs.declared.kind.Kind.{Kind}
use Rattle.bind_kinds.specs.Kinds.{misfit}
use Rattle.bind_sight.specs.declared.scope.EnclosingRoutine.{EnclosingRoutine}
use Rattle.bind_sight.specs.Sight.{Seen, may_stand}
use Rattle.bind_queries.specs.Names.{judge}
use Rattle.bind_queries.specs.Order.{judge_ordered_typed}
use Rattle.bind_queries.specs.Queries.{judge_query}
use Rattle.bind_queries.proofs.Laws.{front_nil, fitting, expr_used, query_fitting, query_used}
use Rattle.bind_queries.proofs.Laws.{ordered_names, ordered_used}
use Rattle.bind_simple.specs.Calls.{is_own}
use Rattle.bind_simple.specs.Places.{Surroundings, seen_from}
use Rattle.bind_simple.specs.Values.{judged_expr, value_of_kind}
use Rattle.viewing_laws.specs.Calls.{CalledNames, names_called, expr_calls, query_calls}
use Rattle.viewing_laws.specs.Standing.{is_called}
use Rattle.listed_calls.specs.Listed.{IsNoted}
use Rattle.listed_calls.proofs.Noted.{Listed, Notes}

module _ (own : Option EnclosingRoutine) (known : Catalog) where
  -- a call was noted among these uses; to read a table is no call
  abbrev pub UseListed : CalledNames → Use → Type 0
  UseListed uses (calls name arguments) = IsNoted own known uses name
  UseListed uses (reads name) = Unit {0}

  -- each of these uses
  abbrev pub UsesListed : CalledNames → Uses → Type 0
  UsesListed uses us = AllByRecursion (UseListed uses) us

  pub uses-append : (uses : CalledNames) (us vs : Uses) → UsesListed uses us →
      UsesListed uses vs → UsesListed uses (us ++ vs)
  uses-append uses [] vs p q = q
  uses-append uses (u ∷ us) vs p q = (p.0, uses-append uses us vs p.1 q)

  pub listed-names : (uses : CalledNames) (us : Uses) → UsesListed uses us →
      Listed own known uses (names_called us)
  listed-names uses [] h = tt
  listed-names uses (calls name arguments ∷ us) h = (h.0, listed-names uses us h.1)
  listed-names uses (reads name ∷ us) h = listed-names uses us h.1

  pub listed-uses : (uses : CalledNames) (us : Uses) → Listed own known uses (names_called us) →
      UsesListed uses us
  listed-uses uses [] h = tt
  listed-uses uses (calls name arguments ∷ us) h = (h.0, listed-uses uses us h.1)
  listed-uses uses (reads name ∷ us) h = (tt, listed-uses uses us h)

  -- where each name in use was noted
  within : (uses : CalledNames) (us : Uses) →
      ((name : List ℕ) → is_called name (names_used us) ≡ true → IsNoted own known uses name) →
      UsesListed uses us
  within uses [] f = tt
  within uses (calls name arguments ∷ us) f = (
    f name (or_left (bytes_eq name name) (is_called name (names_used us)) (bytes_self name)),
    within uses us (λ other h.
        f other (or_right (bytes_eq name other) (is_called other (names_used us)) h)),
  )
  within uses (reads name ∷ us) f = (
    tt,
    within uses us (λ other h.
        f other (or_right (bytes_eq name other) (is_called other (names_used us)) h)),
  )

  -- where the names in use are those that were noted, and stand for something
  noted-uses : (uses : CalledNames) (us : Uses) → SameNames uses (names_used us) →
      ((name : List ℕ) → is_called name uses ≡ true → is_own name own ≡ false →
      is_some (object_named name known) ≡ true) → UsesListed uses us
  noted-uses uses us same there = within uses us (λ name h.
      (let noted = same name ∙ h in record { noted = noted; stands = there name noted }))

-- ---- trees

module _ (known : Catalog) (all : AllPlanned known) (s : Seen) (is : s.catalog ≡ known) where
  pub expr-uses : may_stand s.levels ≡ false → (e : Expr) → (judge e s).faults ≡ [] →
      UsesListed s.own known (judge e s).uses (uses_in (judge e s).value.tree)
  expr-uses bare e f = noted-uses s.own known (judge e s).uses (uses_in (judge e s).value.tree)
      (fitting known all e s is bare f).2 (expr_used known all e s is bare f)

  pub query-notes : (targets : List Kind) (q : Query) →
      Notes s.own known (λ x. query_calls x.tree) (judge_query targets q s)
  query-notes targets q f =
      let x = judge_query targets q s in
      listed-names s.own known x.uses (uses_in_query x.value.tree)
      (noted-uses s.own known x.uses (uses_in_query x.value.tree)
      (query_fitting known all targets q s is f).1 (query_used known all targets q s is f))

  pub ordered-notes : (q : OrderedQuery) →
      Notes s.own known (λ x. query_calls x.tree) (judge_ordered_typed q s)
  ordered-notes q f =
      let x = judge_ordered_typed q s in
      listed-names s.own known x.uses (uses_in_query x.value.tree)
      (noted-uses s.own known x.uses (uses_in_query x.value.tree)
      (ordered_names known all q s is f) (ordered_used known all q s is f))

-- ---- in statements

pub expr-notes : (e : Expr) (p : Surroundings) → AllPlanned p.catalog →
    Notes p.own p.catalog (λ x. expr_calls x.tree) (judged_expr e p)
expr-notes e p all f =
    let x = judged_expr e p in
    listed-names p.own p.catalog x.uses (uses_in x.value.tree)
    (expr-uses p.catalog all (seen_from p) refl refl e f)

pub value-notes : (kind : Kind) (e : Expr) (p : Surroundings) → AllPlanned p.catalog →
    Notes p.own p.catalog expr_calls (value_of_kind kind e p)
value-notes kind e p all f =
    let x = judged_expr e p in
    expr-notes e p all (front_nil x.faults (misfit kind x.value.head) f)
