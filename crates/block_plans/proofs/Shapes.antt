-- What the catalog alone tells of a tree: whether it is a name, how a conjunct compares names, and
-- how wide a query is. Which routines its calls run changes none of it.
use Rattle.std.proofs.Common.{◌≡◌, ◌⊎◌, ℕ, zero, suc, Bool, true, false, cond, List, [], ◌∷◌, map}
use Rattle.std.proofs.Common.{length, drop, Option, None, Some, ◌||◌, inl, inr, refl, sym, ap, ◌∙◌}
use Rattle.std.proofs.Common.{subst, arith}
use Rattle.std.proofs.lemmas.Bool.{ne_eqb}
use Rattle.std.proofs.lemmas.List.{length-map}
use Rattle.std.specs.Option.{option_map}
use Rattle.sql_values.specs.declared.operators.Comparison.TheVariants.{Equals}
use Rattle.sql_values.specs.declared.value.SqlType.{SqlType}
use Rattle.sql_values.specs.declared.value.Value.TheVariants.{Null}
use Rattle.bound_trees.specs.Operands.{takes}
use Rattle.bound_trees.specs.declared.expr.BoundExpr.{BoundExpr, out-BoundExpr, roll-BoundExpr}
use Rattle.bound_trees.specs.declared.expr.BoundExpr.TheFolds.{ind-BoundQuery, map-BoundQuery}
use Rattle.bound_trees.specs.declared.expr.BoundExpr.TheOpen.{BoundExpr-F, BoundQuery-F, BoundRow-F}
use Rattle.bound_trees.specs.declared.expr.BoundExpr.TheViews.{roll-out-BoundExpr}
use Rattle.bound_trees.specs.declared.expr.BoundExpr.TheViews.{roll-out-BoundRow}
use Rattle.bound_trees.specs.declared.expr.BoundLink.{BoundLink}
use Rattle.bound_trees.specs.declared.expr.BoundOperation.{BoundOperation}
use Rattle.bound_trees.specs.declared.expr.BoundOperation.TheVariants as bound
use Rattle.bound_trees.specs.declared.query.BoundFromItem.{BoundFromItem}
use Rattle.bound_trees.specs.declared.query.BoundGrouping.{BoundGrouping}
use Rattle.bound_trees.specs.declared.query.BoundQuery.{BoundQuery, roll-BoundQuery}
use Rattle.bound_trees.specs.declared.query.BoundRow.{BoundRow, out-BoundRow, roll-BoundRow}
use Rattle.bound_trees.specs.declared.query.BoundSelect.{BoundSelect, out-BoundSelect}
use Rattle.bound_trees.specs.declared.query.BoundSource.{BoundSource}
use Rattle.rel_algebra.specs.Tree.{Expr, Exprs, From, NoExpr, MoreExprs, Literal, Column, Variable}
use Rattle.rel_algebra.specs.Tree.{Operate, Comparing, count}
use Rattle.rel_algebra.specs.Joins.{query_width, rows_width}
use Rattle.rel_algebra.specs.Emit.{Env, Key, computed, key_of, raising, may_refuse, place_if}
use Rattle.catalog_store.specs.View.{Grouping, Standing, over_all, as_and, as_or, as_coalesce}
use Rattle.catalog_store.specs.View.{as_case, as_case_of, standing, stood, operated, selected}
use Rattle.catalog_store.specs.View.{case_of}
use Rattle.catalog_store.specs.View.{from_of, tree_of, item_of, query_of, row_of, select_of}
use Rattle.catalog_store.specs.View.{grouping_of, exprs, exprs_of, rows_of}
use Rattle.catalog_store.proofs.Laws.{ExprLayer, RowLayer, QueryLayer, tree_of-at, query_of-at}
use Rattle.catalog_store.proofs.Laws.{row_of-at}
use Rattle.catalog_store.proofs.Laws.{select_of-parts}
use Rattle.block_plans.specs.Callees.{Callees}
use Rattle.block_plans.specs.View.{expr_seen, exprs_seen, query_seen, row_seen, rows_seen}
use Rattle.block_plans.specs.View.{item_seen, select_seen, grouping_seen}
use Rattle.block_plans.proofs.Layers.{expr_seen-at, query_seen-at, row_seen-at}
use Rattle.block_plans.proofs.Parts.{select_seen-parts}

-- ---- names

-- neither a literal nor a name
abbrev pub IsOther : Expr → Type 0
IsOther (Literal v) = ⊥
IsOther (Column level i) = ⊥
IsOther (Variable i) = ⊥
IsOther _ = Unit {0}

-- the same, or both neither a literal nor a name
abbrev pub Alike : Expr → Expr → Type 0
Alike x y = (x ≡ y) ⊎ (IsOther x × IsOther y)

other_computed : (x : Expr) → IsOther x → computed x ≡ true
other_computed (Literal v) h = absurd h
other_computed (Column level i) h = absurd h
other_computed (Variable i) h = absurd h
other_computed _ h = refl

alike_computed : (x y : Expr) → Alike x y → computed x ≡ computed y
alike_computed x y (inl h) = ap computed h
alike_computed x y (inr h) = other_computed x h.0 ∙ sym (other_computed y h.1)

-- the equality of two expressions
abbrev equal : Expr → Expr → Expr
equal x y = Operate (Comparing Equals) (MoreExprs x (MoreExprs y NoExpr))

first_other : (x y : Expr) (e : Env) → IsOther x → key_of (equal x y) e ≡ None
first_other (Literal v) y e h = absurd h
first_other (Column level i) y e h = absurd h
first_other (Variable i) y e h = absurd h
first_other _ y e h = refl

second_other : (x y : Expr) (e : Env) → IsOther y → key_of (equal x y) e ≡ None
second_other x (Literal v) e h = absurd h
second_other x (Column level i) e h = absurd h
second_other x (Variable i) e h = absurd h
second_other (Column zero i) _ e h = refl
second_other (Column (suc d) i) _ e h = refl
second_other (Variable i) _ e h = refl
second_other _ _ e h = refl

alike_key : (a b x y : Expr) (e : Env) → Alike a b → Alike x y →
    key_of (equal a x) e ≡ key_of (equal b y) e
alike_key a b x y e (inr h) other = first_other a x e h.0 ∙ sym (first_other b y e h.1)
alike_key a b x y e (inl h) (inr g) = second_other a x e g.0 ∙ sym (second_other b y e g.1)
alike_key a b x y e (inl h) (inl g) = λ i. key_of (equal (h i) (g i)) e

-- ---- words

-- two ways to see bound expressions
module _ (f g : BoundExpr → Expr) where
  alike_stood : (s : Standing) (xs : List BoundExpr) → Alike (stood s (map f xs))
      (stood s (map g xs))
  alike_stood (over_all operation) xs = inr (tt, tt)
  alike_stood as_and xs = inr (tt, tt)
  alike_stood as_or xs = inr (tt, tt)
  alike_stood as_coalesce xs = inr (tt, tt)
  alike_stood as_case xs = inr (tt, tt)
  alike_stood as_case_of [] = inl refl
  alike_stood as_case_of (x ∷ []) = inl refl
  alike_stood as_case_of (x ∷ y ∷ []) = inl refl
  alike_stood as_case_of (x ∷ y ∷ z ∷ xs) = inr (tt, tt)

  alike_if : (b : Bool) (x y : Expr) → Alike x y →
      Alike (cond b x (Literal Null)) (cond b y (Literal Null))
  alike_if true x y h = h
  alike_if false x y h = inl refl

-- a word over as many operands as there are
taken : (f : BoundExpr → Expr) (w : BoundOperation) (xs : List BoundExpr) →
    operated w (map f xs)
    ≡ cond (takes w (length xs)) (stood (standing w) (map f xs)) (Literal Null)
taken f w xs = ap (λ n. cond (takes w n) (stood (standing w) (map f xs)) (Literal Null))
    (length-map xs f)

alike_operated : (f g : BoundExpr → Expr) (w : BoundOperation) (xs : List BoundExpr) →
    Alike (operated w (map f xs)) (operated w (map g xs))
alike_operated f g w xs =
    subst (λ y. Alike y (operated w (map g xs))) (sym (taken f w xs))
    (subst (λ y. Alike (cond (takes w (length xs)) (stood (standing w) (map f xs)) (Literal Null))
    y)
    (sym (taken g w xs))
    (alike_if f g (takes w (length xs)) (stood (standing w) (map f xs))
    (stood (standing w) (map g xs)) (alike_stood f g (standing w) xs)))

-- a word that makes no key
abbrev IsTest : BoundOperation → Type 0
IsTest (bound.Comparing Equals) = ⊥
IsTest _ = Unit {0}

none_if : (b : Bool) (x : Expr) (e : Env) → key_of x e ≡ None →
    key_of (cond b x (Literal Null)) e ≡ None
none_if true x e h = h
none_if false x e h = refl

no_case : (es : List Expr) (e : Env) → key_of (case_of es) e ≡ None
no_case [] e = refl
no_case (x ∷ []) e = refl
no_case (x ∷ y ∷ []) e = refl
no_case (x ∷ y ∷ z ∷ es) e = refl

no_key : (w : BoundOperation) (es : List Expr) (e : Env) → IsTest w →
    key_of (operated w es) e ≡ None
no_key (bound.Comparing Equals) es e h = absurd h
no_key bound.CaseOf es e h = none_if (takes bound.CaseOf (length es)) (case_of es) e (no_case es e)
no_key w es e h = none_if (takes w (length es)) (stood (standing w) es) e refl

-- over more than two sides it is NULL
too_many : (x y z : Expr) (es : List Expr) (e : Env) →
    key_of (operated (bound.Comparing Equals) (x ∷ y ∷ z ∷ es)) e ≡ None
too_many x y z es e =
    ap (λ b. key_of (cond b (stood (over_all (Comparing Equals)) (x ∷ y ∷ z ∷ es)) (Literal Null))
    e)
    (ne_eqb (length (x ∷ y ∷ z ∷ es)) 2 (λ h. omega (arith, h)))

operation_key : (f g : BoundExpr → Expr) → ((x : BoundExpr) → Alike (f x) (g x)) →
    (w : BoundOperation) (xs : List BoundExpr) (e : Env) →
    key_of (operated w (map f xs)) e ≡ key_of (operated w (map g xs)) e
operation_key f g alike (bound.Comparing Equals) [] e = refl
operation_key f g alike (bound.Comparing Equals) (x ∷ []) e = refl
operation_key f g alike (bound.Comparing Equals) (x ∷ y ∷ []) e =
    alike_key (f x) (g x) (f y) (g y) e (alike x) (alike y)
operation_key f g alike (bound.Comparing Equals) (x ∷ y ∷ z ∷ xs) e =
    too_many (f x) (f y) (f z) (map f xs) e ∙ sym (too_many (g x) (g y) (g z) (map g xs) e)
operation_key f g alike w xs e = no_key w (map f xs) e tt ∙ sym (no_key w (map g xs) e tt)

-- ---- any expression

between : {a b x y : Expr} → a ≡ x → b ≡ y → Alike x y → Alike a b
between {a} {b} {x} {y} p q h =
    subst (λ z. Alike z b) (sym p) (subst (λ z. Alike x z) (sym q) h)

module _ (k : Callees) where
  alike_layer : (y : ExprLayer) →
      Alike (expr_seen k (roll-BoundExpr y)) (tree_of k.known (roll-BoundExpr y))
  alike_layer (BoundExpr-F.Literal v) =
      between (expr_seen-at k (BoundExpr-F.Literal v)) (tree_of-at k.known (BoundExpr-F.Literal v))
      (inl refl)
  alike_layer (BoundExpr-F.Column level i) =
      between (expr_seen-at k (BoundExpr-F.Column level i))
      (tree_of-at k.known (BoundExpr-F.Column level i)) (inl refl)
  alike_layer (BoundExpr-F.Variable i) =
      between (expr_seen-at k (BoundExpr-F.Variable i))
      (tree_of-at k.known (BoundExpr-F.Variable i)) (inl refl)
  alike_layer (BoundExpr-F.Operation w es) =
      between (expr_seen-at k (BoundExpr-F.Operation w es))
      (tree_of-at k.known (BoundExpr-F.Operation w es))
      (alike_operated (expr_seen k) (tree_of k.known) w es)
  alike_layer (BoundExpr-F.Chain first rest) =
      between (expr_seen-at k (BoundExpr-F.Chain first rest))
      (tree_of-at k.known (BoundExpr-F.Chain first rest)) (inr (tt, tt))
  alike_layer (BoundExpr-F.Call name args) =
      between (expr_seen-at k (BoundExpr-F.Call name args))
      (tree_of-at k.known (BoundExpr-F.Call name args)) (inr (tt, tt))
  alike_layer (BoundExpr-F.Single q) =
      between (expr_seen-at k (BoundExpr-F.Single q)) (tree_of-at k.known (BoundExpr-F.Single q))
      (inr (tt, tt))
  alike_layer (BoundExpr-F.Exists q) =
      between (expr_seen-at k (BoundExpr-F.Exists q)) (tree_of-at k.known (BoundExpr-F.Exists q))
      (inr (tt, tt))
  alike_layer (BoundExpr-F.In x q) =
      between (expr_seen-at k (BoundExpr-F.In x q)) (tree_of-at k.known (BoundExpr-F.In x q))
      (inr (tt, tt))

  alike_seen : (x : BoundExpr) → Alike (expr_seen k x) (tree_of k.known x)
  alike_seen x = subst (λ z. Alike (expr_seen k z) (tree_of k.known z)) (roll-out-BoundExpr x)
      (alike_layer (out-BoundExpr x))

  -- ---- arguments that may raise

  pub raising_seen : (es : List BoundExpr) (types : List SqlType) (m : ℕ) →
      raising (exprs_seen k es) types m ≡ raising (exprs_of k.known es) types m
  raising_seen [] types m = refl
  raising_seen (x ∷ es) types m =
      let told = alike_computed (expr_seen k x) (tree_of k.known x) (alike_seen x) in
      λ i. place_if (may_refuse types || told i) m (raising_seen es (drop 1 types) (suc m) i)

  -- ---- conjuncts that are keys

  by_key : (e : Env) (a b x y : Expr) → a ≡ x → b ≡ y → key_of x e ≡ key_of y e →
      key_of a e ≡ key_of b e
  by_key e a b x y p q h = ap (λ z. key_of z e) p ∙ h ∙ ap (λ z. key_of z e) (sym q)

  key_layer : (y : ExprLayer) (e : Env) →
      key_of (expr_seen k (roll-BoundExpr y)) e ≡ key_of (tree_of k.known (roll-BoundExpr y)) e
  key_layer (BoundExpr-F.Operation w es) e =
      by_key e _ _ _ _ (expr_seen-at k (BoundExpr-F.Operation w es))
      (tree_of-at k.known (BoundExpr-F.Operation w es))
      (operation_key (expr_seen k) (tree_of k.known) alike_seen w es e)
  key_layer y e = by_key e _ _ _ _ (expr_seen-at k y) (tree_of-at k.known y) refl

  pub key_seen : (x : BoundExpr) (e : Env) → key_of (expr_seen k x) e ≡ key_of (tree_of k.known x) e
  key_seen x e = subst (λ z. key_of (expr_seen k z) e ≡ key_of (tree_of k.known z) e)
      (roll-out-BoundExpr x) (key_layer (out-BoundExpr x) e)

-- ---- columns of queries

count_map : (f : BoundExpr → Expr) (es : List BoundExpr) → count (exprs (map f es)) ≡ length es
count_map f [] = refl
count_map f (e ∷ es) = ap suc (count_map f es)

selected_width : (o : Option Grouping) (items : Exprs) (from : From) (tests : Exprs)
    (S : List ℕ → ℕ) → query_width (selected o items from tests) S ≡ count items
selected_width None items from tests S = refl
selected_width (Some g) items from tests S = refl

module _ (k : Callees) where
  row_count : (r : BoundRow) → count (row_seen k r) ≡ count (row_of k.known r)
  row_count r = subst (λ z. count (row_seen k z) ≡ count (row_of k.known z)) (roll-out-BoundRow r)
      (by (out-BoundRow r))
    where
      by : (y : RowLayer) →
          count (row_seen k (roll-BoundRow y)) ≡ count (row_of k.known (roll-BoundRow y))
      by (BoundRow-F.Row es) =
          ap count (row_seen-at k (BoundRow-F.Row es)) ∙ count_map (expr_seen k) es
          ∙ sym (count_map (tree_of k.known) es)
          ∙ sym (ap count (row_of-at k.known (BoundRow-F.Row es)))

  pub rows_width_seen : (rs : List BoundRow) →
      rows_width (rows_seen k rs) ≡ rows_width (rows_of k.known rs)
  rows_width_seen [] = refl
  rows_width_seen (r ∷ rs) = row_count r

  select_width : (s : BoundSelect) (S : List ℕ → ℕ) →
      query_width (select_seen k s) S ≡ query_width (select_of k.known s) S
  select_width s S =
      let y = out-BoundSelect s in
      ap (λ q. query_width q S) (select_seen-parts k s)
      ∙ selected_width (option_map (grouping_seen k) y.grouping) (exprs_seen k y.items)
      (from_of (map (item_seen k) y.from)) (exprs_seen k y.conjuncts) S
      ∙ count_map (expr_seen k) y.items ∙ sym (count_map (tree_of k.known) y.items)
      ∙ sym (selected_width (option_map (grouping_of k.known) y.grouping)
      (exprs_of k.known y.items) (from_of (map (item_of k.known) y.from))
      (exprs_of k.known y.conjuncts) S)
      ∙ sym (ap (λ q. query_width q S) (select_of-parts k.known s))

  -- a query that is as wide by the catalog alone
  abbrev IsWide : BoundQuery → Type 0
  IsWide q = (S : List ℕ → ℕ) →
      query_width (query_seen k q) S ≡ query_width (query_of k.known q) S

  -- any tree
  abbrev Any : {A : Type 0} → A → Type 0
  Any x = Unit {0}

  abbrev Layer : Type 0
  Layer = BoundQuery-F ((x : BoundExpr) × Any x) ((x : BoundFromItem) × Any x)
      ((q : BoundQuery) × IsWide q) ((x : BoundRow) × Any x) ((x : BoundSource) × Any x)
      ((x : BoundLink) × Any x) ((x : BoundGrouping) × Any x) ((x : BoundSelect) × Any x)

  abbrev shown : Layer → QueryLayer
  shown y = map-BoundQuery ((x : BoundExpr) × Any x) ((x : BoundFromItem) × Any x)
      ((q : BoundQuery) × IsWide q) ((x : BoundRow) × Any x) ((x : BoundSource) × Any x)
      ((x : BoundLink) × Any x) ((x : BoundGrouping) × Any x) ((x : BoundSelect) × Any x)
      BoundExpr BoundFromItem BoundQuery BoundRow BoundSource BoundLink BoundGrouping BoundSelect
      (λ x. x.0) (λ x. x.0) (λ x. x.0) (λ x. x.0) (λ x. x.0) (λ x. x.0) (λ x. x.0) (λ x. x.0) y

  wide : (y : Layer) → IsWide (roll-BoundQuery (shown y))
  wide (BoundQuery-F.Select s) S =
      ap (λ q. query_width q S) (query_seen-at k (BoundQuery-F.Select s.0))
      ∙ select_width s.0 S
      ∙ sym (ap (λ q. query_width q S) (query_of-at k.known (BoundQuery-F.Select s.0)))
  wide (BoundQuery-F.Values rs) S =
      ap (λ q. query_width q S) (query_seen-at k (BoundQuery-F.Values (map (λ x. x.0) rs)))
      ∙ rows_width_seen (map (λ x. x.0) rs)
      ∙ sym (ap (λ q. query_width q S)
      (query_of-at k.known (BoundQuery-F.Values (map (λ x. x.0) rs))))
  wide (BoundQuery-F.Ordered q keys) S =
      ap (λ r. query_width r S) (query_seen-at k (BoundQuery-F.Ordered q.0 keys)) ∙ q.1 S
      ∙ sym (ap (λ r. query_width r S) (query_of-at k.known (BoundQuery-F.Ordered q.0 keys)))

  pub query_width_seen : (q : BoundQuery) → IsWide q
  query_width_seen =
      ind-BoundQuery Any Any IsWide Any Any Any Any Any (λ x y is. tt) (λ x y is. tt)
      (λ x y is. subst (λ z. IsWide (roll-BoundQuery z)) is (wide y)) (λ x y is. tt)
      (λ x y is. tt) (λ x y is. tt) (λ x y is. tt) (λ x y is. tt)
