-- Kinds beside the plain trees of the same bound trees: where there are kinds the trees are typed,
-- of kinds that are the same or NULL's.
use Rattle.std.proofs.Common.{◌≡◌, inl, ℕ, suc, true, List, [], ◌∷◌, length}
use Rattle.std.proofs.Common.{map, Option, Some, None, refl, sym, ap, ◌∙◌, subst}
use Rattle.sql_values.specs.declared.operators.Operator.{Operator}
use Rattle.row_types.specs.declared.sort_key.SortKey.{SortKey}
use Rattle.bind_kinds.specs.declared.kind.Kind.{Kind}
use Rattle.bind_kinds.specs.declared.kind.Kind.TheVariants.{Boolean}
use Rattle.bind_kinds.specs.Chains.{kind_of_operator}
use Rattle.bind_kinds.specs.Kinds.{fits, kind_of_type}
use Rattle.rel_algebra.specs.Tree.{Expr, Exprs, NoExpr, MoreExprs, Links, NoLink, MoreLinks, Rows}
use Rattle.rel_algebra.specs.Tree.{NoRow, MoreRows, Query, Values, Ordered, From, Routine, count}
use Rattle.rel_algebra.specs.Tree.{parameters_of}
use Rattle.rel_algebra.specs.Plain.{planned_expr, planned_all, planned_links, planned_rows}
use Rattle.rel_algebra.specs.Plain.{planned_from, planned, all_even}
use Rattle.rel_algebra.specs.Kinds.{DataKind, Kinds, BooleanKind, agree, operator_kind}
use Rattle.rel_algebra.specs.Kinds.{tests_good, args_good, args_kinds, body_kind}
use Rattle.rel_algebra.specs.Kinds.{Typed, TypedAll, TypedLinks, TypedRows, TypedFrom, TypedQuery}
use Rattle.rel_algebra.specs.Kinds.{TypedBody, expr_kind, exprs_kinds, links_kind, rows_kinds}
use Rattle.rel_algebra.specs.Kinds.{query_kinds, from_kinds}
use Rattle.catalog_store.specs.declared.entry.FunctionHead.{FunctionHead}
use Rattle.catalog_store.specs.Catalog.{Catalog}
use Rattle.typing_trees.specs.Kinds.{operator_allows, each_fits}
use Rattle.typing_trees.specs.Around.{Around, with_row, then, only_if}
use Rattle.typing_trees.specs.Queries.{ExprKind, QueryKinds, LinkKind, kinds_of, tests, chain_kind}
use Rattle.typing_trees.specs.Queries.{call_kind, is_true_value, kinds_of_rows, more_rows}
use Rattle.typing_trees.specs.Queries.{row_kinds, keys_within}
use Rattle.typing_plans.specs.Kinding.{Lower, AllLower, InSight, BodyKinded}
use Rattle.typing_plans.proofs.Parts.{and_true, then_some, only_some, value_some, some_same, halves}
use Rattle.typing_plans.proofs.Parts.{more_long}
use Rattle.typing_plans.proofs.Lower.{agree_to, all_up, nulls_lower, join_lower}
use Rattle.typing_plans.proofs.Lower.{agree_all_lower}
use Rattle.typing_plans.proofs.Words.{operator_same, arguments_lower}
use Rattle.typing_plans.proofs.Columns.{row_below, more_below}

-- as many kinds as are below others
pub lower_long : (ds : Kinds) (ks : List Kind) → AllLower ds ks → length ds ≡ length ks
lower_long [] [] l = refl
lower_long [] (k ∷ ks) l = absurd l
lower_long (d ∷ ds) [] l = absurd l
lower_long (d ∷ ds) (k ∷ ks) l = ap suc (lower_long ds ks l.1)

module _ (known : Catalog) (T : List ℕ → Kinds) where
  -- with one row more
  pub entered : (a : Around) (g : List Kinds) (p ds : Kinds) (row : List Kind) →
      InSight known a T g p → AllLower ds row → InSight known (with_row row a) T (ds ∷ g) p
  entered a g p ds row s l = record {
    rows = (l, s.rows);
    slots = s.slots;
    tables = s.tables;
    functions = s.functions;
  }

  -- an expression that has a kind is typed, if it has a plan
  abbrev pub ExprTyped : ExprKind → Expr → Type 0
  ExprTyped e t = (a : Around) (g : List Kinds) (p : Kinds) (k : Kind) → InSight known a T g p →
      e a ≡ Some k → planned_expr t ≡ true → Typed t T g p × Lower (expr_kind t T g p) k

  -- the same of a query
  abbrev pub QueryTyped : QueryKinds → Query → Type 0
  QueryTyped q t = (a : Around) (g : List Kinds) (p : Kinds) (ks : List Kind) →
      InSight known a T g p → q a ≡ Some ks → planned t ≡ true →
      TypedQuery t T g p × AllLower (query_kinds t T g p) ks

  -- the same of a table or a derived table
  abbrev pub SourceTyped : QueryKinds → From → Type 0
  SourceTyped q t = (a : Around) (g : List Kinds) (p : Kinds) (ks : List Kind) →
      InSight known a T g p → q a ≡ Some ks → planned_from t ≡ true →
      TypedFrom t T g p × AllLower (from_kinds t T g p) ks

  -- ---- several expressions

  abbrev pub AllTyped : List ExprKind → Exprs → Type 0
  AllTyped [] NoExpr = Unit {0}
  AllTyped [] (MoreExprs t ts) = ⊥
  AllTyped (e ∷ es) NoExpr = ⊥
  AllTyped (e ∷ es) (MoreExprs t ts) = ExprTyped e t × AllTyped es ts

  pub all_typed : (es : List ExprKind) (ts : Exprs) → AllTyped es ts → (a : Around)
      (g : List Kinds) (p : Kinds) (ks : List Kind) → InSight known a T g p →
      kinds_of a es ≡ Some ks → planned_all ts ≡ true →
      TypedAll ts T g p × AllLower (exprs_kinds ts T g p) ks
  all_typed [] NoExpr f a g p ks s h q = (tt, subst (AllLower []) (some_same [] ks h) tt)
  all_typed [] (MoreExprs t ts) f a g p ks s h q = absurd f
  all_typed (e ∷ es) NoExpr f a g p ks s h q = absurd f
  all_typed (e ∷ es) (MoreExprs t ts) f a g p ks s h q =
      let both = halves (planned_expr t) (planned_all ts) q in
      let first = then_some (e a) _ ks h in
      let others = then_some (kinds_of a es) _ ks first.2 in
      let one = f.0 a g p first.0 s first.1 both.0 in
      let rest = all_typed es ts f.1 a g p others.0 s others.1 both.1 in (
        (one.0, rest.0),
        subst (AllLower (exprs_kinds (MoreExprs t ts) T g p))
            (some_same (first.0 ∷ others.0) ks others.2) (one.1, rest.1),
      )

  -- truth values
  pub tests_typed : (es : List ExprKind) (ts : Exprs) → AllTyped es ts → (a : Around)
      (g : List Kinds) (p : Kinds) → InSight known a T g p → tests a es ≡ true →
      planned_all ts ≡ true →
      TypedAll ts T g p × (tests_good (exprs_kinds ts T g p) ≡ true)
  tests_typed [] NoExpr f a g p s h q = (tt, refl)
  tests_typed [] (MoreExprs t ts) f a g p s h q = absurd f
  tests_typed (e ∷ es) NoExpr f a g p s h q = absurd f
  tests_typed (e ∷ es) (MoreExprs t ts) f a g p s h q =
      let both = halves (planned_expr t) (planned_all ts) q in
      let each = halves (is_true_value (e a)) (tests a es) h in
      let first = value_some (e a) each.0 in
      let one = f.0 a g p first.0 s first.1 both.0 in
      let rest = tests_typed es ts f.1 a g p s each.1 both.1 in (
        (one.0, rest.0),
        and_true (agree (expr_kind t T g p) BooleanKind)
            (tests_good (exprs_kinds ts T g p))
            (agree_to (expr_kind t T g p) Boolean first.0 one.1
            (subst (λ o. is_true_value o ≡ true) first.1 each.0)) rest.1,
      )

  -- ---- chains

  abbrev pub LinksTyped : List LinkKind → Links → Type 0
  LinksTyped [] NoLink = Unit {0}
  LinksTyped [] (MoreLinks operator x links) = ⊥
  LinksTyped (l ∷ ls) NoLink = ⊥
  LinksTyped (l ∷ ls) (MoreLinks operator x links) =
      (l.operator ≡ operator) × ExprTyped l.operand x × LinksTyped ls links

  -- a kind that fits an operator
  operand_agrees : (o : Operator) (d : DataKind) (k : Kind) → Lower d k →
      fits (kind_of_operator o) k ≡ true → agree d (operator_kind o) ≡ true
  operand_agrees o d k l h = subst (λ x. agree d x ≡ true) (sym (operator_same o))
      (agree_to d (kind_of_operator o) k l h)

  pub links_typed : (ls : List LinkKind) (links : Links) → LinksTyped ls links → (a : Around)
      (g : List Kinds) (p : Kinds) (d : DataKind) (k j : Kind) → InSight known a T g p →
      Lower d k → chain_kind a k ls ≡ Some j → planned_links links ≡ true →
      TypedLinks links d T g p × Lower (links_kind links d) j
  links_typed [] NoLink f a g p d k j s l h q = (tt, subst (Lower d) (some_same k j h) l)
  links_typed [] (MoreLinks operator x links) f a g p d k j s l h q = absurd f
  links_typed (m ∷ ls) NoLink f a g p d k j s l h q = absurd f
  links_typed (m ∷ ls) (MoreLinks operator x links) f a g p d k j s l h q =
      let both = halves (planned_expr x) (planned_links links) q in
      let first = then_some (m.operand a) _ j h in
      let fit = only_some (operator_allows m.operator k first.0)
      (chain_kind a (kind_of_operator m.operator) ls) j first.2 in
      let sides = halves (fits (kind_of_operator m.operator) k)
      (fits (kind_of_operator m.operator) first.0) fit.0 in
      let one = f.1 a g p first.0 s first.1 both.0 in
      let rest = links_typed ls links f.2 a g p (operator_kind m.operator)
      (kind_of_operator m.operator) j s (inl (operator_same m.operator)) fit.1 both.1 in
      let left = operand_agrees m.operator d k l sides.0 in
      let right = operand_agrees m.operator (expr_kind x T g p) first.0 one.1 sides.1 in
      subst (λ o. TypedLinks (MoreLinks o x links) d T g p × Lower
      (links_kind (MoreLinks o x links) d) j) f.0
      ((left, one.0, right, rest.0), rest.1)

  -- ---- calls

  pub call_typed : (r : Routine) (h : Option FunctionHead) (ts : Exprs) (g : List Kinds)
      (p : Kinds) (ks : List Kind) (k : Kind) →
      ((f : FunctionHead) → h ≡ Some f → BodyKinded r f T) → TypedAll ts T g p →
      AllLower (exprs_kinds ts T g p) ks → call_kind h ks ≡ Some k →
      (TypedBody r T (args_kinds (exprs_kinds ts T g p) (parameters_of r)) × TypedAll ts T g p
      × (args_good (exprs_kinds ts T g p) (parameters_of r) ≡ true))
      × Lower (body_kind r T (args_kinds (exprs_kinds ts T g p) (parameters_of r))) k
  call_typed r None ts g p ks k bodies t l h = absurd cc
  call_typed r (Some f) ts g p ks k bodies t l h =
      let body = bodies f refl in
      let ds = exprs_kinds ts T g p in
      let fit = only_some (each_fits (map kind_of_type f.parameters) ks)
      (Some (kind_of_type f.returns)) k h in
      let given : (args_good ds (parameters_of r) ≡ true)
      × AllLower (args_kinds ds (parameters_of r)) (map kind_of_type f.parameters) =
      subst (λ types. (args_good ds types ≡ true)
      × AllLower (args_kinds ds types) (map kind_of_type f.parameters)) (sym body.parameters)
      (arguments_lower f.parameters ds ks l fit.0) in
      let args = args_kinds ds (parameters_of r) in (
        (body.typed args given.1, t, given.0),
        subst (Lower (body_kind r T args)) (some_same (kind_of_type f.returns) k fit.1)
            (body.kind args given.1),
      )

  -- ---- VALUES

  abbrev pub RowsTyped : List (List ExprKind) → Rows → Type 0
  RowsTyped [] NoRow = Unit {0}
  RowsTyped [] (MoreRows ts rows) = ⊥
  RowsTyped (r ∷ rs) NoRow = ⊥
  RowsTyped (r ∷ rs) (MoreRows ts rows) = AllTyped r ts × RowsTyped rs rows

  -- rows that are typed, of kinds below those of the columns
  abbrev RowsKinded : Rows → List Kinds → Kinds → List Kind → Type 0
  RowsKinded rows g p js = TypedRows rows (length js) T g p
      × AllLower (rows_kinds rows (length js) T g p) js

  one_more : (ts : Exprs) (rows : Rows) (g : List Kinds) (p : Kinds) (ks js : List Kind) →
      TypedAll ts T g p → AllLower (exprs_kinds ts T g p) js → RowsKinded rows g p js →
      RowsKinded (MoreRows ts rows) g p js
  one_more ts rows g p ks js t l rest =
      let ds = exprs_kinds ts T g p in let es = rows_kinds rows (length js) T g p in
      ((t, agree_all_lower ds es js l rest.1, rest.0), join_lower ds es js l rest.1)

  more_typed : (rs : List (List ExprKind)) (rows : Rows) → RowsTyped rs rows → (a : Around)
      (g : List Kinds) (p : Kinds) (cs js : List Kind) → InSight known a T g p →
      more_rows a cs rs ≡ Some js → planned_rows rows ≡ true → RowsKinded rows g p js
  more_typed [] NoRow f a g p cs js s h q = (tt, nulls_lower js)
  more_typed [] (MoreRows ts rows) f a g p cs js s h q = absurd f
  more_typed (r ∷ rs) NoRow f a g p cs js s h q = absurd f
  more_typed (r ∷ rs) (MoreRows ts rows) f a g p cs js s h q =
      let both = halves (planned_all ts) (planned_rows rows) q in
      let row = then_some (kinds_of a r) _ js h in
      let columns = then_some (row_kinds cs row.0) _ js row.2 in
      let one = all_typed r ts f.0 a g p row.0 s row.1 both.0 in
      let below = row_below cs row.0 columns.0 columns.1 in
      one_more ts rows g p row.0 js one.0
      (all_up (exprs_kinds ts T g p) columns.0 js
      (all_up (exprs_kinds ts T g p) row.0 columns.0 one.1 below.1)
      (more_below a columns.0 rs js columns.2))
      (more_typed rs rows f.1 a g p columns.0 js s columns.2 both.1)

  pub values_typed : (rs : List (List ExprKind)) (rows : Rows) → RowsTyped rs rows →
      QueryTyped (λ a. kinds_of_rows a rs) (Values rows)
  values_typed [] NoRow f a g p ks s h q =
      ((refl, tt), subst (AllLower []) (some_same [] ks h) tt)
  values_typed [] (MoreRows ts rows) f a g p ks s h q = absurd f
  values_typed (r ∷ rs) NoRow f a g p ks s h q = absurd f
  values_typed (r ∷ rs) (MoreRows ts rows) f a g p ks s h q =
      let both = halves (all_even (count ts) (MoreRows ts rows)) (planned_rows (MoreRows ts rows))
      q in
      let each = halves (planned_all ts) (planned_rows rows) both.1 in
      let row = then_some (kinds_of a r) _ ks h in
      let one = all_typed r ts f.0 a g p row.0 s row.1 each.0 in
      let whole = one_more ts rows g p row.0 ks one.0
      (all_up (exprs_kinds ts T g p) row.0 ks one.1 (more_below a row.0 rs ks row.2))
      (more_typed rs rows f.1 a g p row.0 ks s row.2 each.1) in
      let long : length ks ≡ count ts = more_long a row.0 rs ks row.2 ∙
      sym (lower_long (exprs_kinds ts T g p) row.0 one.1) ∙ exprs_long ts g p in (
        (both.0, subst (λ n. TypedRows (MoreRows ts rows) n T g p) long whole.0),
        subst (λ n. AllLower (rows_kinds (MoreRows ts rows) n T g p) ks) long whole.1,
      )
    where
      exprs_long : (ts : Exprs) (g : List Kinds) (p : Kinds) →
          length (exprs_kinds ts T g p) ≡ count ts
      exprs_long NoExpr g p = refl
      exprs_long (MoreExprs t ts) g p = ap suc (exprs_long ts g p)

  -- ---- ORDER BY

  pub ordered_typed : (q : QueryKinds) (t : Query) (keys : List SortKey) → QueryTyped q t →
      QueryTyped (λ a. then (q a) (λ ks. only_if (keys_within (length ks) keys) (Some ks)))
      (Ordered t keys)
  ordered_typed q t keys f a g p ks s h planned =
      let inner = then_some (q a) _ ks h in
      let there = only_some (keys_within (length inner.0) keys) (Some inner.0) ks inner.2 in
      let one = f a g p inner.0 s inner.1 planned in
      (one.0, subst (AllLower (query_kinds t T g p)) (some_same inner.0 ks there.1) one.1)
