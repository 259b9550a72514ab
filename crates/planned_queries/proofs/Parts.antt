-- When the plain trees of parts of expressions and queries have plans.
use Rattle.std.proofs.Common.{◌≡◌, ℕ, Bool, true, false, cond, not, ◌&&◌, ◌||◌, List, [], ◌∷◌}
use Rattle.std.proofs.Common.{map, length, Option, None, Some, refl, sym, ap, ◌∙◌, suc}
use Rattle.std.specs.Prelude.{nat_eq, slice_get}
use Rattle.std.proofs.Math.Bool.{and_assoc, and-true}
use Rattle.std.proofs.lemmas.Bool.{eq-eqb, ne_eqb}
use Rattle.std.proofs.lemmas.List.{length-map}
use Rattle.std.specs.Option.{option_map}
use Rattle.bound_trees.specs.Operands.{takes}
use Rattle.bound_trees.specs.declared.expr.BoundExpr.{BoundExpr}
use Rattle.bound_trees.specs.declared.expr.BoundExpr.TheVariants as expr
use Rattle.bound_trees.specs.declared.expr.BoundOperation.{BoundOperation}
use Rattle.bound_trees.specs.declared.expr.BoundOperation.TheVariants as bound
use Rattle.bound_trees.specs.declared.query.BoundRow.{BoundRow}
use Rattle.bound_trees.specs.declared.query.BoundQuery.{BoundQuery}
use Rattle.bound_trees.specs.declared.query.BoundQuery.TheVariants as query
use Rattle.bound_trees.specs.declared.query.BoundSelect.{BoundSelect, out-BoundSelect}
use Rattle.rel_algebra.specs.Joins.{rows_width}
use Rattle.rel_algebra.specs.Plain.{all_even, planned_expr, planned_all, planned_rows}
use Rattle.rel_algebra.specs.Plain.{as_many, planned_from, planned, planned_routine}
use Rattle.rel_algebra.specs.Tree.{Expr, Exprs, From, Rows, NoRow, MoreRows, Literal, Routine}
use Rattle.rel_algebra.specs.Tree.{count}
use Rattle.sql_values.specs.declared.value.Value.TheVariants.{Null}
use Rattle.catalog_store.specs.Catalog.{Catalog, routine_named}
use Rattle.catalog_store.specs.View.{Grouping, Joining, Joined, after_comma, crossing, matching}
use Rattle.catalog_store.specs.View.{matching_or_nulls, beside, closed, grown, all_grown, itself}
use Rattle.catalog_store.specs.View.{begun, from_of, selected, standing, stood, operated, exprs}
use Rattle.block_plans.specs.Callees.{Callees, callee}
use Rattle.block_plans.specs.View.{expr_seen, query_seen, row_seen, item_seen, grouping_seen}
use Rattle.block_plans.specs.View.{select_seen, exprs_seen, rows_seen}
use Rattle.block_plans.proofs.Laws.{expr_seen-Operation, expr_seen-Call, query_seen-Values}
use Rattle.block_plans.proofs.Parts.{select_seen-parts}
use Rattle.planned_queries.specs.Planned.{rows_planned, groups_planned, item_planned, items_planned}
use Rattle.planned_queries.specs.Planned.{row_planned, tables_planned, lists_planned}

-- ---- words

if_planned : (b : Bool) (x : Expr) → planned_expr (cond b x (Literal Null)) ≡
    (not b || planned_expr x)
if_planned true x = refl
if_planned false x = refl

pub operated_planned : (w : BoundOperation) (es : List Expr) →
    planned_expr (operated w es) ≡ (not (takes w (length es)) || planned_all (exprs es))
operated_planned bound.CaseOf [] = refl
operated_planned bound.CaseOf (a ∷ []) = refl
operated_planned bound.CaseOf (a ∷ b ∷ []) = refl
operated_planned bound.CaseOf (a ∷ b ∷ c ∷ arms) =
    if_planned (takes bound.CaseOf (length (a ∷ b ∷ c ∷ arms)))
    (stood (standing bound.CaseOf) (a ∷ b ∷ c ∷ arms))
operated_planned w es = if_planned (takes w (length es)) (stood (standing w) es)

-- a word has a plan where its operands have, or it takes another number of them
pub operation_planned : (known : Callees) (w : BoundOperation) (es : List BoundExpr) →
    planned_expr (expr_seen known (expr.Operation w es)) ≡
    (not (takes w (length es)) || planned_all (exprs_seen known es))
operation_planned known w es =
    ap planned_expr (expr_seen-Operation known w es) ∙
    operated_planned w (map (expr_seen known) es) ∙
    ap (λ n. not (takes w n) || planned_all (exprs_seen known es)) (length-map es (expr_seen known))

-- ---- calls

count-exprs : (known : Callees) (es : List BoundExpr) → count (exprs_seen known es) ≡ length es
count-exprs known [] = refl
count-exprs known (e ∷ es) = ap suc (count-exprs known es)

-- what a call runs has a plan where the function of its name in the catalog has one
pub named_runs : (known : Callees) (c : Catalog) (name : List ℕ) (n : ℕ) (b : Bool) →
    c ≡ known.known → callee known name n ≡ routine_named name known.known →
    b ≡ planned_routine (routine_named name c) → b ≡ planned_routine (callee known name n)
named_runs known c name n b same runs h =
    h ∙ ap (λ (k : Catalog). planned_routine (routine_named name k)) same
    ∙ sym (ap planned_routine runs)

-- and takes as many
pub named_takes : (known : Callees) (c : Catalog) (name : List ℕ) (n : ℕ) (b : Bool) →
    c ≡ known.known → callee known name n ≡ routine_named name known.known →
    ((m : ℕ) → (b && as_many (routine_named name c) m) ≡ b) → b ≡ true →
    as_many (callee known name n) n ≡ true
named_takes known c name n b same runs h t =
    ap (λ (r : Routine). as_many r n) runs
    ∙ sym (ap (λ (k : Catalog). as_many (routine_named name k) n) same)
    ∙ by b t (h n)
  where
    by : (b : Bool) → b ≡ true → (b && as_many (routine_named name c) n) ≡ b →
        as_many (routine_named name c) n ≡ true
    by true t g = g
    by false t g = absurd cc

-- a call by what it runs and its arguments
call_planned : (known : Callees) (name : List ℕ) (es : List BoundExpr) (n : ℕ) →
    n ≡ length es → planned_expr (expr_seen known (expr.Call name es)) ≡
    (planned_routine (callee known name n)
    && (planned_all (exprs_seen known es) && as_many (callee known name n) n))
call_planned known name es n q =
    ap planned_expr (expr_seen-Call known name es)
    ∙ ap (λ m. planned_routine (callee known name (length es))
    && (planned_all (exprs_seen known es) && as_many (callee known name (length es)) m))
    (count-exprs known es)
    ∙ ap (λ m. planned_routine (callee known name m)
    && (planned_all (exprs_seen known es) && as_many (callee known name m) m)) (sym q)

-- ---- VALUES

pub row_count : (known : Callees) (es : List BoundExpr) (r : BoundRow) →
    exprs_seen known es ≡ row_seen known r → length es ≡ count (row_seen known r)
row_count known es r h = sym (count-exprs known es) ∙ ap count h

pub first_row : (known : Callees) (rs : List BoundRow) (r : BoundRow) → Some r ≡ slice_get rs 0 →
    count (row_seen known r) ≡ rows_width (rows_seen known rs)
first_row known [] r h = absurd (let never = h in cc)
first_row known (x ∷ rs) r h = let same : r ≡ x = cc in
    ap (λ (y : BoundRow). count (row_seen known y)) same

swapped : (a b c d : Bool) → ((a && b) && (c && d)) ≡ ((a && c) && (b && d))
swapped true true c d = refl
swapped true false true d = refl
swapped true false false d = refl
swapped false b c d = refl

pub both_planned : (n : ℕ) (rs : Rows) → rows_planned n rs ≡ (all_even n rs && planned_rows rs)
both_planned n NoRow = refl
both_planned n (MoreRows es rs) =
    ap (λ b. row_planned n es && b) (both_planned n rs) ∙
    swapped (nat_eq (count es) n) (planned_all es) (all_even n rs) (planned_rows rs)

-- VALUES has a plan where its rows have, and as many columns as the first
pub values_planned : (known : Callees) (rs : List BoundRow) (n : ℕ) →
    n ≡ rows_width (rows_seen known rs) →
    planned (query_seen known (query.Values rs)) ≡ rows_planned n (rows_seen known rs)
values_planned known rs n h =
    ap planned (query_seen-Values known rs) ∙
    sym (both_planned (rows_width (rows_seen known rs)) (rows_seen known rs)) ∙
    ap (λ k. rows_planned k (rows_seen known rs)) (sym h)

-- ---- FROM

grown_planned : (before : Option From) (current : From) (i : Joining) →
    planned_from (closed (grown (record { before = before; current = current }) i)) ≡
    (planned_from (beside before current) && item_planned false i)
grown_planned before current (after_comma f) = refl
grown_planned None current (crossing f) = refl
grown_planned None current (matching f on) = refl
grown_planned None current (matching_or_nulls f on) = refl
grown_planned (Some b) current (crossing f) =
    sym (and_assoc (planned_from b) (planned_from current) (planned_from f))
grown_planned (Some b) current (matching f on) =
    sym (and_assoc (planned_from b) (planned_from current) (planned_from f && planned_all on))
grown_planned (Some b) current (matching_or_nulls f on) =
    sym (and_assoc (planned_from b) (planned_from current) (planned_from f && planned_all on))

all_grown_planned : (j : Joined) (is : List Joining) →
    planned_from (closed (all_grown j is)) ≡ (planned_from (closed j) && items_planned false is)
all_grown_planned j [] = sym (and-true (planned_from (closed j)))
all_grown_planned j (i ∷ is) =
    all_grown_planned (grown j i) is ∙
    ap (λ b. b && items_planned false is) (grown_planned j.before j.current i) ∙
    and_assoc (planned_from (closed j)) (item_planned false i) (items_planned false is)

first_planned : (i : Joining) → planned_from (itself i) ≡ item_planned true i
first_planned (after_comma f) = refl
first_planned (crossing f) = refl
first_planned (matching f on) = sym (and-true (planned_from f))
first_planned (matching_or_nulls f on) = sym (and-true (planned_from f))

-- FROM has a plan where its items have
pub joined_planned : (is : List Joining) → items_planned true is ≡ planned_from (from_of is)
joined_planned [] = refl
joined_planned (i ∷ is) =
    sym (all_grown_planned (begun i) is ∙
    ap (λ b. b && items_planned false is) (first_planned i))

-- ---- select

ungrouped : (items from tests : Bool) →
    (items && (from && tests)) ≡ ((from && tests) && (true && items))
ungrouped true true true = refl
ungrouped true true false = refl
ungrouped true false tests = refl
ungrouped false true true = refl
ungrouped false true false = refl
ungrouped false false tests = refl

grouped : (from tests parts having list : Bool) →
    (from && (tests && (parts && (having && list)))) ≡
    ((from && tests) && ((parts && having) && list))
grouped true true true having list = refl
grouped true true false having list = refl
grouped true false parts having list = refl
grouped false tests parts having list = refl

selected_planned : (g : Option Grouping) (items : Exprs) (from : From) (conjuncts : Exprs) →
    planned (selected g items from conjuncts) ≡
    ((planned_from from && planned_all conjuncts) && (groups_planned g && planned_all items))
selected_planned None items from conjuncts =
    ungrouped (planned_all items) (planned_from from) (planned_all conjuncts)
selected_planned (Some g) items from conjuncts =
    grouped (planned_from from) (planned_all conjuncts) (planned_all g.parts)
    (planned_all g.having) (planned_all items)

-- a select has a plan where its parts have
pub select_planned : (known : Callees) (s : BoundSelect) → planned (select_seen known s) ≡
    (tables_planned known (out-BoundSelect s) && lists_planned known (out-BoundSelect s))
select_planned known s =
    ap planned (select_seen-parts known s) ∙
    selected_planned (option_map (grouping_seen known) (out-BoundSelect s).grouping)
    (exprs_seen known (out-BoundSelect s).items)
    (from_of (map (item_seen known) (out-BoundSelect s).from))
    (exprs_seen known (out-BoundSelect s).conjuncts) ∙
    ap (λ b. (b && planned_all (exprs_seen known (out-BoundSelect s).conjuncts))
    && lists_planned known (out-BoundSelect s))
    (sym (joined_planned (map (item_seen known) (out-BoundSelect s).from)))

-- ---- as code meets them

-- a call of what has a plan
pub call_taken : (known : Callees) (e : BoundExpr) (name : List ℕ) (es xs : List BoundExpr)
    (n : ℕ) (a b : Bool) → e ≡ expr.Call name es → xs ≡ es → n ≡ length es →
    a ≡ planned_routine (callee known name n) →
    (a ≡ true → as_many (callee known name n) n ≡ true) → a ≡ true →
    b ≡ planned_all (exprs_seen known xs) → b ≡ planned_expr (expr_seen known e)
call_taken known e name es xs n a b is same many runs takes t h =
    h ∙ ap (λ ys. planned_all (exprs_seen known ys)) same
    ∙ sym (and-true (planned_all (exprs_seen known es)))
    ∙ sym (ap (λ x. planned_expr (expr_seen known x)) is ∙ call_planned known name es n many
    ∙ ap (λ c. c && (planned_all (exprs_seen known es) && as_many (callee known name n) n))
    (sym runs ∙ t)
    ∙ ap (λ c. planned_all (exprs_seen known es) && c) (takes t))

-- and of what has none
pub call_refused : (known : Callees) (e : BoundExpr) (name : List ℕ) (es : List BoundExpr)
    (n : ℕ) (a : Bool) → e ≡ expr.Call name es → n ≡ length es →
    a ≡ planned_routine (callee known name n) → a ≡ false →
    a ≡ planned_expr (expr_seen known e)
call_refused known e name es n a is many runs f =
    f ∙ sym (ap (λ x. planned_expr (expr_seen known x)) is ∙ call_planned known name es n many
    ∙ ap (λ c. c && (planned_all (exprs_seen known es) && as_many (callee known name n) n))
    (sym runs ∙ f))

-- a word that takes so many operands
pub word_taken : (known : Callees) (e : BoundExpr) (w : BoundOperation) (es xs : List BoundExpr)
    (n : ℕ) (b : Bool) → e ≡ expr.Operation w es → n ≡ length es → takes w n ≡ true → xs ≡ es →
    b ≡ planned_all (exprs_seen known xs) → b ≡ planned_expr (expr_seen known e)
word_taken known e w es xs n b p q h r k =
    k ∙ ap (λ ys. planned_all (exprs_seen known ys)) r ∙
    sym (ap (λ x. planned_expr (expr_seen known x)) p ∙ operation_planned known w es ∙
    ap (λ c. not c || planned_all (exprs_seen known es)) (sym (ap (takes w) q) ∙ h))

-- VALUES by the width of its first row
pub values_taken : (known : Callees) (q : BoundQuery) (rs xs ys : List BoundRow) (n : ℕ)
    (b : Bool) → q ≡ query.Values rs → xs ≡ rs → ys ≡ rs → n ≡ rows_width (rows_seen known xs) →
    b ≡ rows_planned n (rows_seen known ys) → b ≡ planned (query_seen known q)
values_taken known q rs xs ys n b p r s h k =
    k ∙ ap (λ zs. rows_planned n (rows_seen known zs)) s ∙
    sym (ap (λ x. planned (query_seen known x)) p ∙
    values_planned known rs n (h ∙ ap (λ zs. rows_width (rows_seen known zs)) r))

-- so many values
pub many_taken : (known : Callees) (es : List BoundExpr) (n w : ℕ) (b : Bool) → n ≡ length es →
    n ≡ w → b ≡ planned_all (exprs_seen known es) → b ≡ row_planned w (exprs_seen known es)
many_taken known es n w b h k p =
    p ∙ sym (ap (λ t. t && planned_all (exprs_seen known es))
    (eq-eqb (count (exprs_seen known es)) w (count-exprs known es ∙ sym h ∙ k)))

-- another number of values
pub many_refused : (known : Callees) (es : List BoundExpr) (n w : ℕ) → n ≡ length es →
    (n ≡ w → ⊥) → nat_eq n w ≡ row_planned w (exprs_seen known es)
many_refused known es n w h k =
    ne_eqb n w k ∙ sym (ap (λ t. t && planned_all (exprs_seen known es))
    (ne_eqb (count (exprs_seen known es)) w (λ e. k (h ∙ sym (count-exprs known es) ∙ e))))

-- a select, half by half
pub select_taken : (known : Callees) (s : BoundSelect) (t l : Bool) →
    t ≡ tables_planned known (out-BoundSelect s) → t ≡ true →
    l ≡ lists_planned known (out-BoundSelect s) → l ≡ planned (select_seen known s)
select_taken known s t l p q k =
    k ∙ sym (select_planned known s ∙
    ap (λ b. b && lists_planned known (out-BoundSelect s)) (sym p ∙ q))

pub select_refused : (known : Callees) (s : BoundSelect) (t : Bool) →
    t ≡ tables_planned known (out-BoundSelect s) → t ≡ false → t ≡ planned (select_seen known s)
select_refused known s t p q =
    q ∙ sym (select_planned known s ∙
    ap (λ b. b && lists_planned known (out-BoundSelect s)) (sym p ∙ q))
