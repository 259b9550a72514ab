-- Kinds beside the plain trees of the same bound trees: where there are kinds the trees have their
-- shapes.
use Rattle.std.proofs.Common.{◌≡◌, ℕ, suc, Bool, true, false, cond, List, []}
use Rattle.std.proofs.Common.{◌∷◌, length, Some, refl, sym, ap, ◌∙◌, subst}
use Rattle.row_types.specs.declared.sort_key.SortKey.{SortKey}
use Rattle.bound_trees.specs.Operands.{takes}
use Rattle.bound_trees.specs.declared.expr.BoundOperation.{BoundOperation}
use Rattle.bind_kinds.specs.declared.kind.Kind.{Kind}
use Rattle.bind_kinds.specs.Chains.{kind_of_operator}
use Rattle.rel_algebra.specs.Tree.{Expr, Exprs, NoExpr, MoreExprs, Links, NoLink, MoreLinks, Rows}
use Rattle.rel_algebra.specs.Tree.{NoRow, MoreRows, Query, Values, Ordered, From, Literal, count}
use Rattle.rel_algebra.specs.Joins.{query_width, from_width}
use Rattle.rel_algebra.specs.Plain.{planned_expr, planned_all, planned_links, planned_rows}
use Rattle.rel_algebra.specs.Plain.{planned_from, planned, all_even}
use Rattle.rel_algebra.specs.WellFormed.{Shaped, ShapedAll, ShapedLinks, ShapedRows, ShapedFrom}
use Rattle.rel_algebra.specs.WellFormed.{ShapedQuery, keys_fit}
use Rattle.sql_values.specs.declared.value.Value.TheVariants.{Null}
use Rattle.catalog_store.specs.View.{Standing, over_all, as_and, as_or, as_coalesce, as_case}
use Rattle.catalog_store.specs.View.{as_case_of, standing, stood, operated, exprs, Grouping}
use Rattle.typing_trees.specs.Kinds.{operator_allows}
use Rattle.typing_trees.specs.Around.{Around, then, only_if}
use Rattle.typing_trees.specs.Queries.{ExprKind, QueryKinds, LinkKind, GroupKinds, kinds_of, tests}
use Rattle.typing_trees.specs.Queries.{chain_kind, is_true_value, kinds_of_rows, more_rows}
use Rattle.typing_trees.specs.Queries.{row_kinds, keys_within}
use Rattle.typing_plans.specs.Shaping.{TablesWide}
use Rattle.typing_plans.proofs.Parts.{then_some, only_some, value_some, some_same, halves}
use Rattle.typing_plans.proofs.Parts.{keys_there, more_long}

module _ (widths : List ℕ → ℕ) where
  -- an expression that has a kind is shaped, if it has a plan
  abbrev pub ExprGood : ExprKind → Expr → Type 0
  ExprGood e t = (a : Around) (k : Kind) → TablesWide a widths → e a ≡ Some k →
      planned_expr t ≡ true → Shaped t widths

  -- a query that has kinds has as many columns, and is shaped, if it has a plan
  abbrev pub QueryGood : QueryKinds → Query → Type 0
  QueryGood q t = (a : Around) (ks : List Kind) → TablesWide a widths → q a ≡ Some ks →
      (query_width t widths ≡ length ks) × (planned t ≡ true → ShapedQuery t widths)

  -- the same of a table or a derived table
  abbrev pub SourceGood : QueryKinds → From → Type 0
  SourceGood q t = (a : Around) (ks : List Kind) → TablesWide a widths → q a ≡ Some ks →
      (from_width t widths ≡ length ks) × (planned_from t ≡ true → ShapedFrom t widths)

  -- ---- several expressions

  abbrev pub AllGood : List ExprKind → Exprs → Type 0
  AllGood [] NoExpr = Unit {0}
  AllGood [] (MoreExprs t ts) = ⊥
  AllGood (e ∷ es) NoExpr = ⊥
  AllGood (e ∷ es) (MoreExprs t ts) = ExprGood e t × AllGood es ts

  pub all_counted : (es : List ExprKind) (ts : Exprs) → AllGood es ts →
      (a : Around) (ks : List Kind) → kinds_of a es ≡ Some ks → count ts ≡ length ks
  all_counted [] NoExpr g a ks h = ap length (some_same [] ks h)
  all_counted [] (MoreExprs t ts) g a ks h = absurd g
  all_counted (e ∷ es) NoExpr g a ks h = absurd g
  all_counted (e ∷ es) (MoreExprs t ts) g a ks h =
      let first = then_some (e a) _ ks h in
      let rest = then_some (kinds_of a es) _ ks first.2 in
      ap suc (all_counted es ts g.1 a rest.0 rest.1) ∙
      ap length (some_same (first.0 ∷ rest.0) ks rest.2)

  pub all_shaped : (es : List ExprKind) (ts : Exprs) → AllGood es ts →
      (a : Around) (ks : List Kind) → TablesWide a widths → kinds_of a es ≡ Some ks →
      planned_all ts ≡ true → ShapedAll ts widths
  all_shaped [] NoExpr g a ks w h p = tt
  all_shaped [] (MoreExprs t ts) g a ks w h p = absurd g
  all_shaped (e ∷ es) NoExpr g a ks w h p = absurd g
  all_shaped (e ∷ es) (MoreExprs t ts) g a ks w h p =
      let both = halves (planned_expr t) (planned_all ts) p in
      let first = then_some (e a) _ ks h in
      let rest = then_some (kinds_of a es) _ ks first.2 in
      (g.0 a first.0 w first.1 both.0, all_shaped es ts g.1 a rest.0 w rest.1 both.1)

  -- truth values
  pub tests_shaped : (es : List ExprKind) (ts : Exprs) → AllGood es ts →
      (a : Around) → TablesWide a widths → tests a es ≡ true → planned_all ts ≡ true →
      ShapedAll ts widths
  tests_shaped [] NoExpr g a w h p = tt
  tests_shaped [] (MoreExprs t ts) g a w h p = absurd g
  tests_shaped (e ∷ es) NoExpr g a w h p = absurd g
  tests_shaped (e ∷ es) (MoreExprs t ts) g a w h p =
      let both = halves (planned_expr t) (planned_all ts) p in
      let each = halves (is_true_value (e a)) (tests a es) h in
      let first = value_some (e a) each.0 in
      (g.0 a first.0 w first.1 both.0, tests_shaped es ts g.1 a w each.1 both.1)

  -- ---- words

  -- what a word stands for has the shapes that its operands have
  stood_shaped : (s : Standing) (es : List Expr) →
      (planned_all (exprs es) ≡ true → ShapedAll (exprs es) widths) →
      planned_expr (stood s es) ≡ true → Shaped (stood s es) widths
  stood_shaped (over_all operation) es f p = f p
  stood_shaped as_and es f p = f p
  stood_shaped as_or es f p = f p
  stood_shaped as_coalesce es f p = f p
  stood_shaped as_case es f p = f p
  stood_shaped as_case_of [] f p = tt
  stood_shaped as_case_of (e ∷ []) f p = tt
  stood_shaped as_case_of (e ∷ test ∷ []) f p = tt
  stood_shaped as_case_of (e ∷ test ∷ result ∷ arms) f p =
      let s = f p in (s.0, s.1.0, s.1.1.0, s.1.1.1)

  pub operated_shaped : (word : BoundOperation) (es : List Expr) →
      (planned_all (exprs es) ≡ true → ShapedAll (exprs es) widths) →
      planned_expr (operated word es) ≡ true → Shaped (operated word es) widths
  operated_shaped word es f = by (takes word (length es))
    where
      by : (b : Bool) → planned_expr (cond b (stood (standing word) es) (Literal Null)) ≡ true →
          Shaped (cond b (stood (standing word) es) (Literal Null)) widths
      by true p = stood_shaped (standing word) es f p
      by false p = tt

  -- ---- chains

  abbrev pub LinksGood : List LinkKind → Links → Type 0
  LinksGood [] NoLink = Unit {0}
  LinksGood [] (MoreLinks operator x links) = ⊥
  LinksGood (l ∷ ls) NoLink = ⊥
  LinksGood (l ∷ ls) (MoreLinks operator x links) = ExprGood l.operand x × LinksGood ls links

  pub links_shaped : (ls : List LinkKind) (links : Links) → LinksGood ls links →
      (a : Around) (k j : Kind) → TablesWide a widths → chain_kind a k ls ≡ Some j →
      planned_links links ≡ true → ShapedLinks links widths
  links_shaped [] NoLink g a k j w h p = tt
  links_shaped [] (MoreLinks operator x links) g a k j w h p = absurd g
  links_shaped (l ∷ ls) NoLink g a k j w h p = absurd g
  links_shaped (l ∷ ls) (MoreLinks operator x links) g a k j w h p =
      let both = halves (planned_expr x) (planned_links links) p in
      let first = then_some (l.operand a) _ j h in
      let fit = only_some (operator_allows l.operator k first.0)
      (chain_kind a (kind_of_operator l.operator) ls) j first.2 in (
        g.0 a first.0 w first.1 both.0,
        links_shaped ls links g.1 a (kind_of_operator l.operator) j w fit.1 both.1,
      )

  -- ---- VALUES

  abbrev pub RowsGood : List (List ExprKind) → Rows → Type 0
  RowsGood [] NoRow = Unit {0}
  RowsGood [] (MoreRows ts rows) = ⊥
  RowsGood (r ∷ rs) NoRow = ⊥
  RowsGood (r ∷ rs) (MoreRows ts rows) = AllGood r ts × RowsGood rs rows

  more_shaped : (rs : List (List ExprKind)) (rows : Rows) → RowsGood rs rows →
      (a : Around) (cs js : List Kind) → TablesWide a widths → more_rows a cs rs ≡ Some js →
      planned_rows rows ≡ true → ShapedRows rows widths
  more_shaped [] NoRow g a cs js w h p = tt
  more_shaped [] (MoreRows ts rows) g a cs js w h p = absurd g
  more_shaped (r ∷ rs) NoRow g a cs js w h p = absurd g
  more_shaped (r ∷ rs) (MoreRows ts rows) g a cs js w h p =
      let both = halves (planned_all ts) (planned_rows rows) p in
      let row = then_some (kinds_of a r) _ js h in
      let columns = then_some (row_kinds cs row.0) _ js row.2 in (
        all_shaped r ts g.0 a row.0 w row.1 both.0,
        more_shaped rs rows g.1 a columns.0 js w columns.2 both.1,
      )

  pub values_good : (rs : List (List ExprKind)) (rows : Rows) → RowsGood rs rows →
      QueryGood (λ a. kinds_of_rows a rs) (Values rows)
  values_good [] NoRow g a ks w h = (ap length (some_same [] ks h), λ p. (refl, tt))
  values_good [] (MoreRows ts rows) g a ks w h = absurd g
  values_good (r ∷ rs) NoRow g a ks w h = absurd g
  values_good (r ∷ rs) (MoreRows ts rows) g a ks w h =
      let row = then_some (kinds_of a r) _ ks h in (
        all_counted r ts g.0 a row.0 row.1 ∙ sym (more_long a row.0 rs ks row.2),
        λ p. let both = halves (all_even (count ts) (MoreRows ts rows))
            (planned_rows (MoreRows ts rows)) p in
            let each = halves (planned_all ts) (planned_rows rows) both.1 in (
              both.0,
              (
                all_shaped r ts g.0 a row.0 w row.1 each.0,
                more_shaped rs rows g.1 a row.0 ks w row.2 each.1,
              ),
            ),
      )

  -- ---- ORDER BY

  pub ordered_good : (q : QueryKinds) (t : Query) (keys : List SortKey) → QueryGood q t →
      QueryGood (λ a. then (q a) (λ ks. only_if (keys_within (length ks) keys) (Some ks)))
      (Ordered t keys)
  ordered_good q t keys g a ks w h =
      let inner = then_some (q a) _ ks h in
      let there = only_some (keys_within (length inner.0) keys) (Some inner.0) ks inner.2 in
      let one = g a inner.0 w inner.1 in (
        one.0 ∙ ap length (some_same inner.0 ks there.1),
        λ p. (
          one.1 p,
          subst (λ n. keys_fit keys n ≡ true) (sym one.0)
              (keys_there (length inner.0) keys there.0),
        ),
      )

  -- ---- groups

  -- the parts of a grouping, side by side
  pub record GroupGood (g : GroupKinds) (t : Grouping) : Type 0 where
    pub keys : t.keys ≡ g.keys
    pub aggregates : t.aggregates ≡ g.aggregates
    pub parts : AllGood g.parts t.parts
    pub having : AllGood g.having t.having
