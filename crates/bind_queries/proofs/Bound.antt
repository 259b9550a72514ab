-- What each kind of bound tree uses, and when it has a plan, of its parts.
use Rattle.std.proofs.Common.{◌≡◌, refl, sym, ap, ap₂, ◌∙◌, ℕ, Bool, true, false, List, [], ◌∷◌}
use Rattle.std.proofs.Common.{◌++◌, ◌&&◌, if◌then◌else◌, map, length, suc}
use Rattle.std.proofs.lemmas.Bool.{and_parts, and_from}
use Rattle.sql_values.specs.declared.value.Value.{Value}
use Rattle.sql_values.specs.declared.value.Value.TheVariants.{Null}
use Rattle.syntax_trees.specs.declared.expr.ChainOperator.{ChainOperator}
use Rattle.syntax_trees.specs.declared.expr.ChainOperator.TheVariants as chain
use Rattle.syntax_trees.specs.declared.expr.Operation.{Operation}
use Rattle.syntax_trees.specs.declared.expr.Operation.TheVariants.{Plus, Minus, Not, Compare, Is}
use Rattle.syntax_trees.specs.declared.expr.Operation.TheVariants.{IsNot, In, NotIn, Modulo}
use Rattle.syntax_trees.specs.declared.expr.Operation.TheVariants.{CharLength, Substring, Cast}
use Rattle.syntax_trees.specs.declared.expr.Operation.TheVariants.{Coalesce, Case, CaseOf}
use Rattle.bound_trees.specs.Operands.{takes}
use Rattle.bound_trees.specs.declared.expr.BoundExpr.{BoundExpr}
use Rattle.bound_trees.specs.declared.expr.BoundExpr.TheVariants as bound
use Rattle.bound_trees.specs.declared.expr.BoundOperation.{BoundOperation}
use Rattle.bound_trees.specs.declared.expr.BoundOperation.TheVariants as word
use Rattle.bound_trees.specs.declared.query.BoundQuery.{BoundQuery}
use Rattle.rel_algebra.specs.Tree.{Expr, Literal, count}
use Rattle.rel_algebra.specs.Plain.{planned, planned_expr, planned_all, planned_links}
use Rattle.rel_algebra.specs.Plain.{as_many, planned_routine}
use Rattle.catalog_store.specs.Catalog.{routine_named}
use Rattle.catalog_store.specs.Uses.{Uses, calls, joined, uses_in, uses_in_link, uses_in_query}
use Rattle.catalog_store.specs.View.{Link, Standing, over_all, as_and, as_or, as_coalesce, as_case}
use Rattle.catalog_store.specs.View.{as_case_of, standing, stood, case_of, operated, exprs, tree_of}
use Rattle.catalog_store.specs.View.{link_of, exprs_of, links_of, query_of}
use Rattle.catalog_store.proofs.Laws.{uses_in-Literal, uses_in-Column, uses_in-Variable}
use Rattle.catalog_store.proofs.Laws.{uses_in-Operation, uses_in-Chain, uses_in-Call}
use Rattle.catalog_store.proofs.Laws.{uses_in-Single, uses_in-Exists, uses_in-In, link_uses-at}
use Rattle.catalog_store.proofs.Laws.{link_of-at, tree_of-Literal, tree_of-Column, tree_of-Variable}
use Rattle.catalog_store.proofs.Laws.{tree_of-Operation, tree_of-Chain, tree_of-Call}
use Rattle.catalog_store.proofs.Laws.{tree_of-Single, tree_of-Exists, tree_of-In}
use Rattle.bind_kinds.specs.Types.{type_of}
use Rattle.bind_kinds.specs.Words.{word_of_test, tree_of as word_tree, opposite, operator_in}
use Rattle.bind_kinds.specs.Words.{link_of as link_made, links_of as links_made, chain_of}
use Rattle.bind_parts.specs.Subqueries.{if_negated}
use Rattle.bind_queries.proofs.Marks.{Known, Mark, nothing, ◌⊕◌, mark, marks, Covers, Alike}
use Rattle.bind_queries.proofs.Marks.{alike-same, alike-is, alike-then, marks-one, covers-nothing}
use Rattle.bind_queries.proofs.Marks.{covers-as}
use Rattle.bind_queries.proofs.Runs.{called_planned}

-- ---- words

case-of-planned : (es : List Expr) → planned_all (exprs es) ≡ true →
    planned_expr (case_of es) ≡ true
case-of-planned [] p = refl
case-of-planned (e ∷ []) p = refl
case-of-planned (e ∷ test ∷ []) p = refl
case-of-planned (e ∷ test ∷ result ∷ arms) p = p

stood-planned : (s : Standing) (es : List Expr) → planned_all (exprs es) ≡ true →
    planned_expr (stood s es) ≡ true
stood-planned (over_all operation) es p = p
stood-planned as_and es p = p
stood-planned as_or es p = p
stood-planned as_coalesce es p = p
stood-planned as_case es p = p
stood-planned as_case_of es p = case-of-planned es p

chosen : (b : Bool) (e : Expr) → planned_expr e ≡ true →
    planned_expr (if b then e else Literal Null) ≡ true
chosen true e p = p
chosen false e p = refl

operated-planned : (w : BoundOperation) (es : List Expr) → planned_all (exprs es) ≡ true →
    planned_expr (operated w es) ≡ true
operated-planned w es p = chosen (takes w (length es)) (stood (standing w) es)
    (stood-planned (standing w) es p)

module _ (known : Known) where
  abbrev M : BoundExpr → Mark
  M = mark known

  abbrev MS : List BoundExpr → Mark
  MS = marks known

  -- a tree that uses nothing and has a plan in any case
  alike-plain : (e : BoundExpr) → uses_in e ≡ [] → planned_expr (tree_of known.catalog e) ≡ true →
      Alike known nothing (M e)
  alike-plain e u p = alike-same known nothing (M e) u (λ q. p)

  pub alike-literal : (v : Value) → Alike known nothing (M (bound.Literal v))
  alike-literal v = alike-plain (bound.Literal v) (uses_in-Literal v)
      (ap planned_expr (tree_of-Literal known.catalog v))

  pub alike-column : (level place : ℕ) → Alike known nothing (M (bound.Column level place))
  alike-column level place = alike-plain (bound.Column level place) (uses_in-Column level place)
      (ap planned_expr (tree_of-Column known.catalog level place))

  alike-variable : (place : ℕ) → Alike known nothing (M (bound.Variable place))
  alike-variable place = alike-plain (bound.Variable place) (uses_in-Variable place)
      (ap planned_expr (tree_of-Variable known.catalog place))

  covers-plain : (e : BoundExpr) → Alike known nothing (M e) → Covers known [] (M e)
  covers-plain e p = covers-as known [] nothing (M e) (covers-nothing known) p

  pub literal-covers : (v : Value) → Covers known [] (M (bound.Literal v))
  literal-covers v = covers-plain (bound.Literal v) (alike-literal v)

  pub column-covers : (level place : ℕ) → Covers known [] (M (bound.Column level place))
  column-covers level place = covers-plain (bound.Column level place) (alike-column level place)

  pub variable-covers : (place : ℕ) → Covers known [] (M (bound.Variable place))
  variable-covers place = covers-plain (bound.Variable place) (alike-variable place)

  alike-word : (w : BoundOperation) (es : List BoundExpr) →
      Alike known (MS es) (M (bound.Operation w es))
  alike-word w es =
      alike-same known (MS es) (M (bound.Operation w es)) (uses_in-Operation w es)
      (λ p. ap planned_expr (tree_of-Operation known.catalog w es) ∙
      operated-planned w (map (tree_of known.catalog) es) p)

  alike-opposite : (e : BoundExpr) → Alike known (M e) (M (opposite e))
  alike-opposite e = alike-then known (M e) (MS (e ∷ [])) (M (opposite e))
      (alike-is known (M e) (MS (e ∷ [])) (marks-one known e)) (alike-word word.Opposite (e ∷ []))

  alike-not : (w : BoundOperation) (es : List BoundExpr) →
      Alike known (MS es) (M (opposite (bound.Operation w es)))
  alike-not w es = alike-then known (MS es) (M (bound.Operation w es))
      (M (opposite (bound.Operation w es))) (alike-word w es)
      (alike-opposite (bound.Operation w es))

  pub alike-operation : (operation : Operation) (es : List BoundExpr) →
      Alike known (MS es) (M (word_tree operation es))
  alike-operation Plus [] = alike-word word.Negation []
  alike-operation Plus (e ∷ []) = alike-is known (MS (e ∷ [])) (M e) (sym (marks-one known e))
  alike-operation Plus (e ∷ d ∷ es) = alike-word word.Negation (e ∷ d ∷ es)
  alike-operation Minus es = alike-word word.Negation es
  alike-operation Not es = alike-word word.Opposite es
  alike-operation (Compare comparison) es = alike-word (word.Comparing comparison) es
  alike-operation (Is test) es = alike-word (word_of_test test) es
  alike-operation (IsNot test) es = alike-not (word_of_test test) es
  alike-operation In es = alike-word word.AnyOf es
  alike-operation NotIn es = alike-not word.AnyOf es
  alike-operation Modulo es = alike-word word.Modulo es
  alike-operation CharLength es = alike-word word.CharLength es
  alike-operation Substring es = alike-word word.Substring es
  alike-operation (Cast to) es = alike-word (word.Cast (type_of to)) es
  alike-operation Coalesce es = alike-word word.Coalesce es
  alike-operation Case es = alike-word word.Case es
  alike-operation CaseOf es = alike-word word.CaseOf es

  -- ---- chains

  links-uses : (os : List ChainOperator) (es : List BoundExpr) → length os ≡ length es →
      joined (map uses_in_link (links_made os es)) ≡ joined (map uses_in es)
  links-uses [] [] h = refl
  links-uses [] (e ∷ es) h = absurd cc
  links-uses (o ∷ os) [] h = absurd cc
  links-uses (o ∷ os) (e ∷ es) h =
      ap₂ (λ (x xs : Uses). x ++ xs) (link_uses-at
      (record { operator = operator_in o; operand = e })) (links-uses os es cc)

  links-planned : (os : List ChainOperator) (es : List BoundExpr) →
      planned_all (exprs_of known.catalog es) ≡ true →
      planned_links (links_of known.catalog (links_made os es)) ≡ true
  links-planned [] es p = refl
  links-planned (o ∷ os) [] p = refl
  links-planned (o ∷ os) (e ∷ es) p =
      let both = and_parts (planned_expr (tree_of known.catalog e))
      (planned_all (exprs_of known.catalog es)) p in
      let one : planned_expr (link_of known.catalog (link_made (operator_in o) e)).operand ≡ true =
      ap (λ (l : Link). planned_expr l.operand)
      (link_of-at known.catalog (record { operator = operator_in o; operand = e })) ∙ both.0 in
      and_from (planned_expr (link_of known.catalog (link_made (operator_in o) e)).operand)
      (planned_links (links_of known.catalog (links_made os es))) one
      (links-planned os es both.1)

  pub alike-chain : (first : BoundExpr) (os : List ChainOperator) (es : List BoundExpr) →
      length os ≡ length es → Alike known (M first ⊕ MS es) (M (chain_of first os es))
  alike-chain first [] [] h = alike-is known (M first ⊕ MS []) (M first)
      (sym (marks-one known first))
  alike-chain first [] (e ∷ es) h = absurd cc
  alike-chain first (chain.Or ∷ os) es h = alike-word word.Or (first ∷ es)
  alike-chain first (chain.And ∷ os) es h = alike-word word.And (first ∷ es)
  alike-chain first (chain.Value operator ∷ os) es h =
      let links = links_made (chain.Value operator ∷ os) es in
      alike-same known (M first ⊕ MS es) (M (bound.Chain first links))
      (uses_in-Chain first links ∙ ap (λ z. uses_in first ++ z)
      (links-uses (chain.Value operator ∷ os) es h))
      (λ p.
      let both = and_parts (M first).planned (MS es).planned p in
      ap planned_expr (tree_of-Chain known.catalog first links)
      ∙ and_from (M first).planned (planned_links (links_of known.catalog links)) both.0
      (links-planned (chain.Value operator ∷ os) es both.1))

  -- ---- calls

  abbrev pub call-mark : List ℕ → ℕ → Mark
  call-mark name arguments = record {
    uses = calls name arguments ∷ [];
    planned =
        called_planned (routine_named name known.catalog) arguments;
  }

  counted : (es : List BoundExpr) →
      count (exprs_of known.catalog es) ≡ length (map uses_in es)
  counted [] = refl
  counted (e ∷ es) = ap (λ n. suc n) (counted es)

  pub alike-call : (name : List ℕ) (es : List BoundExpr) →
      Alike known (call-mark name (length (map uses_in es)) ⊕ MS es) (M (bound.Call name es))
  alike-call name es =
      alike-same known (call-mark name (length (map uses_in es)) ⊕ MS es) (M (bound.Call name es))
      (uses_in-Call name es)
      (λ p.
      let r = routine_named name known.catalog in let n = length (map uses_in es) in
      let both = and_parts (called_planned r n) (MS es).planned p in
      let call = and_parts (planned_routine r) (as_many r n) both.0 in
      let many : as_many r (count (exprs_of known.catalog es)) ≡ true =
      ap (as_many r) (counted es) ∙ call.1 in
      ap planned_expr (tree_of-Call known.catalog name es)
      ∙ and_from (planned_routine r)
      ((MS es).planned && as_many r (count (exprs_of known.catalog es))) call.0
      (and_from (MS es).planned (as_many r (count (exprs_of known.catalog es))) both.1 many))

  -- ---- subqueries

  abbrev pub query-mark : BoundQuery → Mark
  query-mark q = record { uses = uses_in_query q; planned = planned (query_of known.catalog q) }

  pub alike-single : (q : BoundQuery) → Alike known (query-mark q) (M (bound.Single q))
  alike-single q = alike-same known (query-mark q) (M (bound.Single q)) (uses_in-Single q)
      (λ p. ap planned_expr (tree_of-Single known.catalog q) ∙ p)

  pub alike-exists : (q : BoundQuery) → Alike known (query-mark q) (M (bound.Exists q))
  alike-exists q = alike-same known (query-mark q) (M (bound.Exists q)) (uses_in-Exists q)
      (λ p. ap planned_expr (tree_of-Exists known.catalog q) ∙ p)

  alike-in : (e : BoundExpr) (q : BoundQuery) → Alike known (M e ⊕ query-mark q) (M (bound.In e q))
  alike-in e q = alike-same known (M e ⊕ query-mark q) (M (bound.In e q)) (uses_in-In e q)
      (λ p. ap planned_expr (tree_of-In known.catalog e q) ∙ p)

  pub alike-member : (negated : Bool) (e : BoundExpr) (q : BoundQuery) →
      Alike known (M e ⊕ query-mark q) (M (if_negated negated (bound.In e q)))
  alike-member false e q = alike-in e q
  alike-member true e q =
      alike-then known (M e ⊕ query-mark q) (M (bound.In e q)) (M (opposite (bound.In e q)))
      (alike-in e q) (alike-opposite (bound.In e q))
