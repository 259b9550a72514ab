-- Each form of expression with its top conjuncts, and how many expressions stand in it.
use Rattle.std.proofs.Common.{◌≡◌, refl, sym, ap, ap₂, ◌∙◌, subst, arith, ℕ, ◌+◌, ◌<◌, suc, true}
use Rattle.std.proofs.Common.{false, if◌then◌else◌, List, [], ◌∷◌, ◌++◌, append_assoc, map, reverse}
use Rattle.std.proofs.Common.{Option, Some, None}
use Rattle.std.specs.List.{flat_map}
use Rattle.std.proofs.lemmas.List.{reverse-append, append-nil}
use Rattle.sql_values.specs.declared.value.Value.{Value}
use Rattle.bound_trees.specs.declared.expr.BoundExpr.{BoundExpr, roll-BoundExpr}
use Rattle.bound_trees.specs.declared.expr.BoundExpr.TheVariants as bound
use Rattle.bound_trees.specs.declared.expr.BoundExpr.TheVariants.{rolls-Literal, rolls-Column}
use Rattle.bound_trees.specs.declared.expr.BoundExpr.TheVariants.{rolls-Variable, rolls-Operation}
use Rattle.bound_trees.specs.declared.expr.BoundExpr.TheVariants.{rolls-Chain, rolls-Call}
use Rattle.bound_trees.specs.declared.expr.BoundExpr.TheVariants.{rolls-Single, rolls-Exists}
use Rattle.bound_trees.specs.declared.expr.BoundExpr.TheVariants.{rolls-In}
use Rattle.bound_trees.specs.declared.expr.BoundExpr.TheOpen.{BoundExpr-F, BoundFromItem-F}
use Rattle.bound_trees.specs.declared.expr.BoundExpr.TheOpen.{BoundQuery-F, BoundRow-F}
use Rattle.bound_trees.specs.declared.expr.BoundExpr.TheOpen.{BoundSource-F, BoundGrouping-F}
use Rattle.bound_trees.specs.declared.expr.BoundExpr.TheOpen.{BoundLink-F, BoundSelect-F}
use Rattle.bound_trees.specs.declared.expr.BoundExpr.TheFolds.{map-BoundExpr, map-BoundFromItem}
use Rattle.bound_trees.specs.declared.expr.BoundExpr.TheFolds.{map-BoundQuery, map-BoundRow}
use Rattle.bound_trees.specs.declared.expr.BoundExpr.TheFolds.{map-BoundSource, map-BoundGrouping}
use Rattle.bound_trees.specs.declared.expr.BoundExpr.TheFolds.{map-BoundLink, map-BoundSelect}
use Rattle.bound_trees.specs.declared.expr.BoundExpr.TheFolds.{fold-BoundFromItem, fold-BoundQuery}
use Rattle.bound_trees.specs.declared.expr.BoundExpr.TheFolds.{fold-BoundRow, fold-BoundSource}
use Rattle.bound_trees.specs.declared.expr.BoundExpr.TheFolds.{fold-BoundGrouping, fold-BoundLink}
use Rattle.bound_trees.specs.declared.expr.BoundExpr.TheFolds.{fold-BoundSelect}
use Rattle.bound_trees.specs.declared.expr.BoundExpr.TheFolds.{fold-roll-BoundExpr}
use Rattle.bound_trees.specs.declared.expr.BoundExpr.TheFolds.{fold-roll-BoundFromItem}
use Rattle.bound_trees.specs.declared.expr.BoundExpr.TheFolds.{fold-roll-BoundQuery}
use Rattle.bound_trees.specs.declared.expr.BoundExpr.TheFolds.{fold-roll-BoundRow}
use Rattle.bound_trees.specs.declared.expr.BoundExpr.TheFolds.{fold-roll-BoundSource}
use Rattle.bound_trees.specs.declared.expr.BoundExpr.TheFolds.{fold-roll-BoundGrouping}
use Rattle.bound_trees.specs.declared.expr.BoundExpr.TheFolds.{fold-roll-BoundLink}
use Rattle.bound_trees.specs.declared.expr.BoundExpr.TheFolds.{fold-roll-BoundSelect, ind-BoundExpr}
use Rattle.bound_trees.specs.declared.expr.BoundLink.{BoundLink, roll-BoundLink}
use Rattle.bound_trees.specs.declared.expr.BoundOperation.{BoundOperation}
use Rattle.bound_trees.specs.declared.query.BoundFromItem.{BoundFromItem, roll-BoundFromItem}
use Rattle.bound_trees.specs.declared.query.BoundQuery.{BoundQuery, roll-BoundQuery}
use Rattle.bound_trees.specs.declared.query.BoundRow.{BoundRow, roll-BoundRow}
use Rattle.bound_trees.specs.declared.query.BoundSource.{BoundSource, roll-BoundSource}
use Rattle.bound_trees.specs.declared.query.BoundGrouping.{BoundGrouping, roll-BoundGrouping}
use Rattle.bound_trees.specs.declared.query.BoundSelect.{BoundSelect, roll-BoundSelect}
use Rattle.bind_kinds.specs.Conjuncts.{Test, is_and, conjuncts_at, tree_at, test_step, item_step}
use Rattle.bind_kinds.specs.Conjuncts.{query_step, row_step, source_step, grouping_step, link_step}
use Rattle.bind_kinds.specs.Conjuncts.{select_step, test_of, conjuncts_of, one, weight_step, weight}
use Rattle.bind_kinds.specs.Conjuncts.{weights}

abbrev same_item : BoundFromItem → BoundFromItem
same_item = fold-BoundFromItem Test BoundFromItem BoundQuery BoundRow BoundSource BoundLink
    BoundGrouping BoundSelect test_step item_step query_step row_step source_step link_step
    grouping_step select_step

abbrev same_query : BoundQuery → BoundQuery
same_query = fold-BoundQuery Test BoundFromItem BoundQuery BoundRow BoundSource BoundLink
    BoundGrouping BoundSelect test_step item_step query_step row_step source_step link_step
    grouping_step select_step

abbrev same_row : BoundRow → BoundRow
same_row = fold-BoundRow Test BoundFromItem BoundQuery BoundRow BoundSource BoundLink BoundGrouping
    BoundSelect test_step item_step query_step row_step source_step link_step grouping_step
    select_step

abbrev same_source : BoundSource → BoundSource
same_source = fold-BoundSource Test BoundFromItem BoundQuery BoundRow BoundSource BoundLink
    BoundGrouping BoundSelect test_step item_step query_step row_step source_step link_step
    grouping_step select_step

abbrev same_grouping : BoundGrouping → BoundGrouping
same_grouping = fold-BoundGrouping Test BoundFromItem BoundQuery BoundRow BoundSource BoundLink
    BoundGrouping BoundSelect test_step item_step query_step row_step source_step link_step
    grouping_step select_step

abbrev same_link : BoundLink → BoundLink
same_link = fold-BoundLink Test BoundFromItem BoundQuery BoundRow BoundSource BoundLink
    BoundGrouping BoundSelect test_step item_step query_step row_step source_step link_step
    grouping_step select_step

abbrev same_select : BoundSelect → BoundSelect
same_select = fold-BoundSelect Test BoundFromItem BoundQuery BoundRow BoundSource BoundLink
    BoundGrouping BoundSelect test_step item_step query_step row_step source_step link_step
    grouping_step select_step

-- ---- an expression is itself

abbrev ShownExpr : Type 0
ShownExpr = (e : BoundExpr) × ((test_of e).itself ≡ e)

abbrev ShownFromItem : Type 0
ShownFromItem = (e : BoundFromItem) × (same_item e ≡ e)

abbrev ShownQuery : Type 0
ShownQuery = (e : BoundQuery) × (same_query e ≡ e)

abbrev ShownRow : Type 0
ShownRow = (e : BoundRow) × (same_row e ≡ e)

abbrev ShownSource : Type 0
ShownSource = (e : BoundSource) × (same_source e ≡ e)

abbrev ShownGrouping : Type 0
ShownGrouping = (e : BoundGrouping) × (same_grouping e ≡ e)

abbrev ShownLink : Type 0
ShownLink = (e : BoundLink) × (same_link e ≡ e)

abbrev ShownSelect : Type 0
ShownSelect = (e : BoundSelect) × (same_select e ≡ e)

-- lists in which each is itself
same-all : {A B : Type 0} (g : B → A) (f : A → B) (xs : List ((a : A) × (g (f a) ≡ a))) →
    map g (map f (map (λ x. x.0) xs)) ≡ map (λ x. x.0) xs
same-all g f [] = refl
same-all g f (x ∷ xs) = ap₂ (λ y ys. y ∷ ys) x.1 (same-all g f xs)

abbrev expr-layer : BoundExpr-F ShownExpr ShownFromItem ShownQuery ShownRow ShownSource ShownLink
    ShownGrouping ShownSelect → BoundExpr-F BoundExpr BoundFromItem BoundQuery BoundRow BoundSource
    BoundLink BoundGrouping BoundSelect
expr-layer y = map-BoundExpr ShownExpr ShownFromItem ShownQuery ShownRow ShownSource ShownLink
    ShownGrouping ShownSelect BoundExpr BoundFromItem BoundQuery BoundRow BoundSource BoundLink
    BoundGrouping BoundSelect (λ e. e.0) (λ e. e.0) (λ e. e.0) (λ e. e.0) (λ e. e.0) (λ e. e.0)
    (λ e. e.0) (λ e. e.0) y

abbrev fromitem-layer : BoundFromItem-F ShownExpr ShownFromItem ShownQuery ShownRow ShownSource
    ShownLink ShownGrouping ShownSelect → BoundFromItem-F BoundExpr BoundFromItem BoundQuery
    BoundRow BoundSource BoundLink BoundGrouping BoundSelect
fromitem-layer y = map-BoundFromItem ShownExpr ShownFromItem ShownQuery ShownRow ShownSource
    ShownLink ShownGrouping ShownSelect BoundExpr BoundFromItem BoundQuery BoundRow BoundSource
    BoundLink BoundGrouping BoundSelect (λ e. e.0) (λ e. e.0) (λ e. e.0) (λ e. e.0) (λ e. e.0)
    (λ e. e.0) (λ e. e.0) (λ e. e.0) y

abbrev query-layer : BoundQuery-F ShownExpr ShownFromItem ShownQuery ShownRow ShownSource ShownLink
    ShownGrouping ShownSelect → BoundQuery-F BoundExpr BoundFromItem BoundQuery BoundRow BoundSource
    BoundLink BoundGrouping BoundSelect
query-layer y = map-BoundQuery ShownExpr ShownFromItem ShownQuery ShownRow ShownSource ShownLink
    ShownGrouping ShownSelect BoundExpr BoundFromItem BoundQuery BoundRow BoundSource BoundLink
    BoundGrouping BoundSelect (λ e. e.0) (λ e. e.0) (λ e. e.0) (λ e. e.0) (λ e. e.0) (λ e. e.0)
    (λ e. e.0) (λ e. e.0) y

abbrev row-layer : BoundRow-F ShownExpr ShownFromItem ShownQuery ShownRow ShownSource ShownLink
    ShownGrouping ShownSelect → BoundRow-F BoundExpr BoundFromItem BoundQuery BoundRow BoundSource
    BoundLink BoundGrouping BoundSelect
row-layer y = map-BoundRow ShownExpr ShownFromItem ShownQuery ShownRow ShownSource ShownLink
    ShownGrouping ShownSelect BoundExpr BoundFromItem BoundQuery BoundRow BoundSource BoundLink
    BoundGrouping BoundSelect (λ e. e.0) (λ e. e.0) (λ e. e.0) (λ e. e.0) (λ e. e.0) (λ e. e.0)
    (λ e. e.0) (λ e. e.0) y

abbrev source-layer : BoundSource-F ShownExpr ShownFromItem ShownQuery ShownRow ShownSource
    ShownLink ShownGrouping ShownSelect → BoundSource-F BoundExpr BoundFromItem BoundQuery BoundRow
    BoundSource BoundLink BoundGrouping BoundSelect
source-layer y = map-BoundSource ShownExpr ShownFromItem ShownQuery ShownRow ShownSource ShownLink
    ShownGrouping ShownSelect BoundExpr BoundFromItem BoundQuery BoundRow BoundSource BoundLink
    BoundGrouping BoundSelect (λ e. e.0) (λ e. e.0) (λ e. e.0) (λ e. e.0) (λ e. e.0) (λ e. e.0)
    (λ e. e.0) (λ e. e.0) y

abbrev grouping-layer : BoundGrouping-F ShownExpr ShownFromItem ShownQuery ShownRow ShownSource
    ShownLink ShownGrouping ShownSelect → BoundGrouping-F BoundExpr BoundFromItem BoundQuery
    BoundRow BoundSource BoundLink BoundGrouping BoundSelect
grouping-layer y = map-BoundGrouping ShownExpr ShownFromItem ShownQuery ShownRow ShownSource
    ShownLink ShownGrouping ShownSelect BoundExpr BoundFromItem BoundQuery BoundRow BoundSource
    BoundLink BoundGrouping BoundSelect (λ e. e.0) (λ e. e.0) (λ e. e.0) (λ e. e.0) (λ e. e.0)
    (λ e. e.0) (λ e. e.0) (λ e. e.0) y

abbrev link-layer : BoundLink-F ShownExpr ShownFromItem ShownQuery ShownRow ShownSource ShownLink
    ShownGrouping ShownSelect → BoundLink-F BoundExpr BoundFromItem BoundQuery BoundRow BoundSource
    BoundLink BoundGrouping BoundSelect
link-layer y = map-BoundLink ShownExpr ShownFromItem ShownQuery ShownRow ShownSource ShownLink
    ShownGrouping ShownSelect BoundExpr BoundFromItem BoundQuery BoundRow BoundSource BoundLink
    BoundGrouping BoundSelect (λ e. e.0) (λ e. e.0) (λ e. e.0) (λ e. e.0) (λ e. e.0) (λ e. e.0)
    (λ e. e.0) (λ e. e.0) y

abbrev select-layer : BoundSelect-F ShownExpr ShownFromItem ShownQuery ShownRow ShownSource
    ShownLink ShownGrouping ShownSelect → BoundSelect-F BoundExpr BoundFromItem BoundQuery BoundRow
    BoundSource BoundLink BoundGrouping BoundSelect
select-layer y = map-BoundSelect ShownExpr ShownFromItem ShownQuery ShownRow ShownSource ShownLink
    ShownGrouping ShownSelect BoundExpr BoundFromItem BoundQuery BoundRow BoundSource BoundLink
    BoundGrouping BoundSelect (λ e. e.0) (λ e. e.0) (λ e. e.0) (λ e. e.0) (λ e. e.0) (λ e. e.0)
    (λ e. e.0) (λ e. e.0) y

at-expr : (y : BoundExpr-F ShownExpr ShownFromItem ShownQuery ShownRow ShownSource ShownLink
    ShownGrouping ShownSelect) → tree_at (map-BoundExpr BoundExpr BoundFromItem BoundQuery BoundRow
    BoundSource BoundLink BoundGrouping BoundSelect Test BoundFromItem BoundQuery BoundRow
    BoundSource BoundLink BoundGrouping BoundSelect test_of same_item same_query same_row
    same_source same_link same_grouping same_select (expr-layer y)) ≡ roll-BoundExpr (expr-layer y)
at-expr (BoundExpr-F.Literal v) = refl
at-expr (BoundExpr-F.Column level i) = refl
at-expr (BoundExpr-F.Variable i) = refl
at-expr (BoundExpr-F.Operation word es) = ap (λ z. roll-BoundExpr (BoundExpr-F.Operation word z))
    (same-all (λ (t : Test). t.itself) test_of es)
at-expr (BoundExpr-F.Chain first rest) = ap₂ (λ (x : BoundExpr) (xs : List BoundLink).
    roll-BoundExpr (BoundExpr-F.Chain x xs)) first.1
    (same-all (λ (x : BoundLink). x) same_link rest)
at-expr (BoundExpr-F.Call name es) = ap (λ z. roll-BoundExpr (BoundExpr-F.Call name z))
    (same-all (λ (t : Test). t.itself) test_of es)
at-expr (BoundExpr-F.Single q) = ap (λ z. roll-BoundExpr (BoundExpr-F.Single z)) q.1
at-expr (BoundExpr-F.Exists q) = ap (λ z. roll-BoundExpr (BoundExpr-F.Exists z)) q.1
at-expr (BoundExpr-F.In e q) = ap₂ (λ (x : BoundExpr) (z : BoundQuery). roll-BoundExpr
    (BoundExpr-F.In x z)) e.1 q.1

at-item : (y : BoundFromItem-F ShownExpr ShownFromItem ShownQuery ShownRow ShownSource ShownLink
    ShownGrouping ShownSelect) → item_step (map-BoundFromItem BoundExpr BoundFromItem BoundQuery
    BoundRow BoundSource BoundLink BoundGrouping BoundSelect Test BoundFromItem BoundQuery BoundRow
    BoundSource BoundLink BoundGrouping BoundSelect test_of same_item same_query same_row
    same_source same_link same_grouping same_select (fromitem-layer y)) ≡ roll-BoundFromItem
    (fromitem-layer y)
at-item (BoundFromItem-F.Comma f) = ap (λ z. roll-BoundFromItem (BoundFromItem-F.Comma z)) f.1
at-item (BoundFromItem-F.Cross f) = ap (λ z. roll-BoundFromItem (BoundFromItem-F.Cross z)) f.1
at-item (BoundFromItem-F.Inner f on) = ap₂ (λ (x : BoundSource) (xs : List BoundExpr).
    roll-BoundFromItem (BoundFromItem-F.Inner x xs)) f.1
    (same-all (λ (t : Test). t.itself) test_of on)
at-item (BoundFromItem-F.Left f on) = ap₂ (λ (x : BoundSource) (xs : List BoundExpr).
    roll-BoundFromItem (BoundFromItem-F.Left x xs)) f.1
    (same-all (λ (t : Test). t.itself) test_of on)

at-query : (y : BoundQuery-F ShownExpr ShownFromItem ShownQuery ShownRow ShownSource ShownLink
    ShownGrouping ShownSelect) → query_step (map-BoundQuery BoundExpr BoundFromItem BoundQuery
    BoundRow BoundSource BoundLink BoundGrouping BoundSelect Test BoundFromItem BoundQuery BoundRow
    BoundSource BoundLink BoundGrouping BoundSelect test_of same_item same_query same_row
    same_source same_link same_grouping same_select (query-layer y)) ≡ roll-BoundQuery
    (query-layer y)
at-query (BoundQuery-F.Select s) = ap (λ z. roll-BoundQuery (BoundQuery-F.Select z)) s.1
at-query (BoundQuery-F.Values rs) = ap (λ z. roll-BoundQuery (BoundQuery-F.Values z))
    (same-all (λ (x : BoundRow). x) same_row rs)
at-query (BoundQuery-F.Ordered q keys) = ap (λ z. roll-BoundQuery (BoundQuery-F.Ordered z keys)) q.1

at-row : (y : BoundRow-F ShownExpr ShownFromItem ShownQuery ShownRow ShownSource ShownLink
    ShownGrouping ShownSelect) → row_step (map-BoundRow BoundExpr BoundFromItem BoundQuery BoundRow
    BoundSource BoundLink BoundGrouping BoundSelect Test BoundFromItem BoundQuery BoundRow
    BoundSource BoundLink BoundGrouping BoundSelect test_of same_item same_query same_row
    same_source same_link same_grouping same_select (row-layer y)) ≡ roll-BoundRow (row-layer y)
at-row (BoundRow-F.Row es) = ap (λ z. roll-BoundRow (BoundRow-F.Row z))
    (same-all (λ (t : Test). t.itself) test_of es)

at-source : (y : BoundSource-F ShownExpr ShownFromItem ShownQuery ShownRow ShownSource ShownLink
    ShownGrouping ShownSelect) → source_step (map-BoundSource BoundExpr BoundFromItem BoundQuery
    BoundRow BoundSource BoundLink BoundGrouping BoundSelect Test BoundFromItem BoundQuery BoundRow
    BoundSource BoundLink BoundGrouping BoundSelect test_of same_item same_query same_row
    same_source same_link same_grouping same_select (source-layer y)) ≡ roll-BoundSource
    (source-layer y)
at-source (BoundSource-F.Table name) = refl
at-source (BoundSource-F.Derived q) = ap (λ z. roll-BoundSource (BoundSource-F.Derived z)) q.1

at-grouping : (y : BoundGrouping-F ShownExpr ShownFromItem ShownQuery ShownRow ShownSource ShownLink
    ShownGrouping ShownSelect) → grouping_step
    (map-BoundGrouping BoundExpr BoundFromItem BoundQuery BoundRow BoundSource BoundLink
    BoundGrouping BoundSelect Test BoundFromItem BoundQuery BoundRow BoundSource BoundLink
    BoundGrouping BoundSelect test_of same_item same_query same_row same_source same_link
    same_grouping same_select (grouping-layer y)) ≡ roll-BoundGrouping (grouping-layer y)
at-grouping y = ap₂ (λ (ps hs : List BoundExpr). roll-BoundGrouping
    (record { keys = y.keys; parts = ps; aggregates = y.aggregates; having = hs }))
    (same-all (λ (t : Test). t.itself) test_of y.parts)
    (same-all (λ (t : Test). t.itself) test_of y.having)

at-link : (y : BoundLink-F ShownExpr ShownFromItem ShownQuery ShownRow ShownSource ShownLink
    ShownGrouping ShownSelect) → link_step (map-BoundLink BoundExpr BoundFromItem BoundQuery
    BoundRow BoundSource BoundLink BoundGrouping BoundSelect Test BoundFromItem BoundQuery BoundRow
    BoundSource BoundLink BoundGrouping BoundSelect test_of same_item same_query same_row
    same_source same_link same_grouping same_select (link-layer y)) ≡ roll-BoundLink (link-layer y)
at-link y = ap (λ z. roll-BoundLink (record { operator = y.operator; operand = z })) y.operand.1

abbrev selected : List BoundExpr → List BoundFromItem → List BoundExpr → Option BoundGrouping →
    BoundSelect
selected items from conjuncts grouping = roll-BoundSelect
    (record { items = items; from = from; conjuncts = conjuncts; grouping = grouping })

at-parts : (items : List ShownExpr) (from : List ShownFromItem) (conjuncts : List ShownExpr)
    (g : Option BoundGrouping)
    → selected (map (λ (t : Test). t.itself) (map test_of (map (λ e. e.0) items)))
    (map (λ (x : BoundFromItem). x) (map same_item (map (λ e. e.0) from)))
    (map (λ (t : Test). t.itself) (map test_of (map (λ e. e.0) conjuncts))) g
    ≡ selected (map (λ e. e.0) items) (map (λ e. e.0) from) (map (λ e. e.0) conjuncts) g
at-parts items from conjuncts g =
    ap₂ (λ (is : List BoundExpr) (fs : List BoundFromItem). selected is fs
    (map (λ (t : Test). t.itself) (map test_of (map (λ e. e.0) conjuncts))) g)
    (same-all (λ (t : Test). t.itself) test_of items)
    (same-all (λ (x : BoundFromItem). x) same_item from)
    ∙ ap (λ (cs : List BoundExpr). selected (map (λ e. e.0) items) (map (λ e. e.0) from) cs g)
    (same-all (λ (t : Test). t.itself) test_of conjuncts)

at-option : (items : List ShownExpr) (from : List ShownFromItem) (conjuncts : List ShownExpr)
    (g : Option ShownGrouping)
    → select_step (map-BoundSelect BoundExpr BoundFromItem BoundQuery BoundRow BoundSource BoundLink
    BoundGrouping BoundSelect Test BoundFromItem BoundQuery BoundRow BoundSource BoundLink
    BoundGrouping BoundSelect test_of same_item same_query same_row same_source same_link
    same_grouping same_select (select-layer
    (record { items = items; from = from; conjuncts = conjuncts; grouping = g }))) ≡
    roll-BoundSelect
    (select-layer (record { items = items; from = from; conjuncts = conjuncts; grouping = g }))
at-option items from conjuncts None = at-parts items from conjuncts None
at-option items from conjuncts (Some g) =
    at-parts items from conjuncts (Some (same_grouping g.0)) ∙
    ap (λ x. selected (map (λ e. e.0) items) (map (λ e. e.0) from) (map (λ e. e.0) conjuncts)
    (Some x)) g.1

at-select : (y : BoundSelect-F ShownExpr ShownFromItem ShownQuery ShownRow ShownSource ShownLink
    ShownGrouping ShownSelect) → select_step (map-BoundSelect BoundExpr BoundFromItem BoundQuery
    BoundRow BoundSource BoundLink BoundGrouping BoundSelect Test BoundFromItem BoundQuery BoundRow
    BoundSource BoundLink BoundGrouping BoundSelect test_of same_item same_query same_row
    same_source same_link same_grouping same_select (select-layer y)) ≡ roll-BoundSelect
    (select-layer y)
at-select y = at-option y.items y.from y.conjuncts y.grouping

of-expr : (y : BoundExpr-F ShownExpr ShownFromItem ShownQuery ShownRow ShownSource ShownLink
    ShownGrouping ShownSelect) → (test_of (roll-BoundExpr (expr-layer y))).itself ≡ roll-BoundExpr
    (expr-layer y)
of-expr y = ap (λ (t : Test). t.itself) (fold-roll-BoundExpr Test BoundFromItem BoundQuery BoundRow
    BoundSource BoundLink BoundGrouping BoundSelect test_step item_step query_step row_step
    source_step link_step grouping_step select_step (expr-layer y)) ∙ at-expr y

of-item : (y : BoundFromItem-F ShownExpr ShownFromItem ShownQuery ShownRow ShownSource ShownLink
    ShownGrouping ShownSelect) → same_item (roll-BoundFromItem (fromitem-layer y)) ≡
    roll-BoundFromItem (fromitem-layer y)
of-item y = fold-roll-BoundFromItem Test BoundFromItem BoundQuery BoundRow BoundSource BoundLink
    BoundGrouping BoundSelect test_step item_step query_step row_step source_step link_step
    grouping_step select_step (fromitem-layer y) ∙ at-item y

of-query : (y : BoundQuery-F ShownExpr ShownFromItem ShownQuery ShownRow ShownSource ShownLink
    ShownGrouping ShownSelect) → same_query (roll-BoundQuery (query-layer y)) ≡ roll-BoundQuery
    (query-layer y)
of-query y = fold-roll-BoundQuery Test BoundFromItem BoundQuery BoundRow BoundSource BoundLink
    BoundGrouping BoundSelect test_step item_step query_step row_step source_step link_step
    grouping_step select_step (query-layer y) ∙ at-query y

of-row : (y : BoundRow-F ShownExpr ShownFromItem ShownQuery ShownRow ShownSource ShownLink
    ShownGrouping ShownSelect) → same_row (roll-BoundRow (row-layer y)) ≡ roll-BoundRow
    (row-layer y)
of-row y = fold-roll-BoundRow Test BoundFromItem BoundQuery BoundRow BoundSource BoundLink
    BoundGrouping BoundSelect test_step item_step query_step row_step source_step link_step
    grouping_step select_step (row-layer y) ∙ at-row y

of-source : (y : BoundSource-F ShownExpr ShownFromItem ShownQuery ShownRow ShownSource ShownLink
    ShownGrouping ShownSelect) → same_source (roll-BoundSource (source-layer y)) ≡ roll-BoundSource
    (source-layer y)
of-source y = fold-roll-BoundSource Test BoundFromItem BoundQuery BoundRow BoundSource BoundLink
    BoundGrouping BoundSelect test_step item_step query_step row_step source_step link_step
    grouping_step select_step (source-layer y) ∙ at-source y

of-grouping : (y : BoundGrouping-F ShownExpr ShownFromItem ShownQuery ShownRow ShownSource ShownLink
    ShownGrouping ShownSelect) → same_grouping (roll-BoundGrouping (grouping-layer y)) ≡
    roll-BoundGrouping (grouping-layer y)
of-grouping y = fold-roll-BoundGrouping Test BoundFromItem BoundQuery BoundRow BoundSource BoundLink
    BoundGrouping BoundSelect test_step item_step query_step row_step source_step link_step
    grouping_step select_step (grouping-layer y) ∙ at-grouping y

of-link : (y : BoundLink-F ShownExpr ShownFromItem ShownQuery ShownRow ShownSource ShownLink
    ShownGrouping ShownSelect) → same_link (roll-BoundLink (link-layer y)) ≡ roll-BoundLink
    (link-layer y)
of-link y = fold-roll-BoundLink Test BoundFromItem BoundQuery BoundRow BoundSource BoundLink
    BoundGrouping BoundSelect test_step item_step query_step row_step source_step link_step
    grouping_step select_step (link-layer y) ∙ at-link y

of-select : (y : BoundSelect-F ShownExpr ShownFromItem ShownQuery ShownRow ShownSource ShownLink
    ShownGrouping ShownSelect) → same_select (roll-BoundSelect (select-layer y)) ≡ roll-BoundSelect
    (select-layer y)
of-select y = fold-roll-BoundSelect Test BoundFromItem BoundQuery BoundRow BoundSource BoundLink
    BoundGrouping BoundSelect test_step item_step query_step row_step source_step link_step
    grouping_step select_step (select-layer y) ∙ at-select y

itself : (e : BoundExpr) → (test_of e).itself ≡ e
itself =
    ind-BoundExpr (λ e. (test_of e).itself ≡ e) (λ x. same_item x ≡ x) (λ x. same_query x ≡ x)
    (λ x. same_row x ≡ x) (λ x. same_source x ≡ x) (λ x. same_link x ≡ x)
    (λ x. same_grouping x ≡ x) (λ x. same_select x ≡ x)
    (λ x y is. subst (λ z. (test_of (roll-BoundExpr z)).itself ≡ roll-BoundExpr z) is (of-expr y))
    (λ x y is. subst (λ z. same_item (roll-BoundFromItem z) ≡ roll-BoundFromItem z) is (of-item y))
    (λ x y is. subst (λ z. same_query (roll-BoundQuery z) ≡ roll-BoundQuery z) is (of-query y))
    (λ x y is. subst (λ z. same_row (roll-BoundRow z) ≡ roll-BoundRow z) is (of-row y))
    (λ x y is. subst (λ z. same_source (roll-BoundSource z) ≡ roll-BoundSource z) is (of-source y))
    (λ x y is. subst (λ z. same_link (roll-BoundLink z) ≡ roll-BoundLink z) is (of-link y))
    (λ x y is. subst (λ z. same_grouping (roll-BoundGrouping z) ≡ roll-BoundGrouping z) is
    (of-grouping y))
    (λ x y is. subst (λ z. same_select (roll-BoundSelect z) ≡ roll-BoundSelect z) is (of-select y))

-- ---- conjuncts

abbrev Layer : Type 0
Layer = BoundExpr-F BoundExpr BoundFromItem BoundQuery BoundRow BoundSource BoundLink BoundGrouping
    BoundSelect

abbrev seen : Layer → BoundExpr-F Test BoundFromItem BoundQuery BoundRow BoundSource BoundLink
    BoundGrouping BoundSelect
seen x = map-BoundExpr BoundExpr BoundFromItem BoundQuery BoundRow BoundSource BoundLink
    BoundGrouping BoundSelect Test BoundFromItem BoundQuery BoundRow BoundSource BoundLink
    BoundGrouping BoundSelect test_of same_item same_query same_row same_source same_link
    same_grouping same_select x

-- any other expression
alone : (x : Layer) → ((es : List BoundExpr) → conjuncts_at (seen x) es ≡ es) →
    conjuncts_of (roll-BoundExpr x) ≡ roll-BoundExpr x ∷ []
alone x p =
    let rolled = fold-roll-BoundExpr Test BoundFromItem BoundQuery BoundRow BoundSource BoundLink
    BoundGrouping BoundSelect test_step item_step query_step row_step source_step link_step
    grouping_step select_step x in
    ap (λ (t : Test). t.conjuncts) rolled ∙ p (tree_at (seen x) ∷ [])
    ∙ ap (λ (t : BoundExpr). t ∷ []) (sym (ap (λ (t : Test). t.itself) rolled) ∙
    itself (roll-BoundExpr x))

pub of_literal : (v : Value) → conjuncts_of (bound.Literal v) ≡ bound.Literal v ∷ []
of_literal v = subst (λ e. conjuncts_of e ≡ e ∷ []) (rolls-Literal v)
    (alone (BoundExpr-F.Literal v) (λ es. refl))

pub of_column : (level i : ℕ) → conjuncts_of (bound.Column level i) ≡ bound.Column level i ∷ []
of_column level i = subst (λ e. conjuncts_of e ≡ e ∷ []) (rolls-Column level i)
    (alone (BoundExpr-F.Column level i) (λ es. refl))

pub of_variable : (i : ℕ) → conjuncts_of (bound.Variable i) ≡ bound.Variable i ∷ []
of_variable i = subst (λ e. conjuncts_of e ≡ e ∷ []) (rolls-Variable i)
    (alone (BoundExpr-F.Variable i) (λ es. refl))

pub of_chain : (first : BoundExpr) (rest : List BoundLink) →
    conjuncts_of (bound.Chain first rest) ≡ bound.Chain first rest ∷ []
of_chain first rest = subst (λ e. conjuncts_of e ≡ e ∷ []) (rolls-Chain first rest)
    (alone (BoundExpr-F.Chain first rest) (λ es. refl))

pub of_call : (name : List ℕ) (args : List BoundExpr) →
    conjuncts_of (bound.Call name args) ≡ bound.Call name args ∷ []
of_call name args = subst (λ e. conjuncts_of e ≡ e ∷ []) (rolls-Call name args)
    (alone (BoundExpr-F.Call name args) (λ es. refl))

pub of_single : (q : BoundQuery) → conjuncts_of (bound.Single q) ≡ bound.Single q ∷ []
of_single q = subst (λ e. conjuncts_of e ≡ e ∷ []) (rolls-Single q)
    (alone (BoundExpr-F.Single q) (λ es. refl))

pub of_exists : (q : BoundQuery) → conjuncts_of (bound.Exists q) ≡ bound.Exists q ∷ []
of_exists q = subst (λ e. conjuncts_of e ≡ e ∷ []) (rolls-Exists q)
    (alone (BoundExpr-F.Exists q) (λ es. refl))

pub of_in : (e : BoundExpr) (q : BoundQuery) → conjuncts_of (bound.In e q) ≡ bound.In e q ∷ []
of_in e q = subst (λ e. conjuncts_of e ≡ e ∷ []) (rolls-In e q)
    (alone (BoundExpr-F.In e q) (λ es. refl))

pub of_other : (word : BoundOperation) (es : List BoundExpr) → is_and word ≡ false →
    conjuncts_of (bound.Operation word es) ≡ bound.Operation word es ∷ []
of_other word es p =
    subst (λ e. conjuncts_of e ≡ e ∷ []) (rolls-Operation word es)
    (alone (BoundExpr-F.Operation word es) (λ xs.
    ap (λ b. if b then flat_map (λ (e : Test). e.conjuncts) (map test_of es) else xs) p))

joined-tests : (es : List BoundExpr) → flat_map (λ (e : Test). e.conjuncts) (map test_of es) ≡
    flat_map conjuncts_of es
joined-tests [] = refl
joined-tests (e ∷ es) = ap (λ z. conjuncts_of e ++ z) (joined-tests es)

pub of_and : (word : BoundOperation) (es : List BoundExpr) → is_and word ≡ true →
    conjuncts_of (bound.Operation word es) ≡ flat_map conjuncts_of es
of_and word es p =
    ap conjuncts_of (sym (rolls-Operation word es)) ∙
    ap (λ (t : Test). t.conjuncts) (fold-roll-BoundExpr Test BoundFromItem BoundQuery BoundRow
    BoundSource BoundLink BoundGrouping BoundSelect test_step item_step query_step row_step
    source_step link_step grouping_step select_step (BoundExpr-F.Operation word es))
    ∙ ap (λ b. if b then flat_map (λ (e : Test). e.conjuncts) (map test_of es) else tree_at
    (seen (BoundExpr-F.Operation word es)) ∷ []) p
    ∙ joined-tests es

-- ---- weights

pub weight_of_word : (word : BoundOperation) (es : List BoundExpr) →
    weight (bound.Operation word es) ≡ suc (weights es)
weight_of_word word es = ap weight (sym (rolls-Operation word es)) ∙
    fold-roll-BoundExpr ℕ ℕ ℕ ℕ ℕ ℕ ℕ ℕ weight_step one one one one one one one
    (BoundExpr-F.Operation word es)

pub weight_of_literal : (v : Value) → weight (bound.Literal v) ≡ 1
weight_of_literal v = ap weight (sym (rolls-Literal v)) ∙
    fold-roll-BoundExpr ℕ ℕ ℕ ℕ ℕ ℕ ℕ ℕ weight_step one one one one one one one
    (BoundExpr-F.Literal v)

pub weight_of_column : (level i : ℕ) → weight (bound.Column level i) ≡ 1
weight_of_column level i = ap weight (sym (rolls-Column level i)) ∙
    fold-roll-BoundExpr ℕ ℕ ℕ ℕ ℕ ℕ ℕ ℕ weight_step one one one one one one one
    (BoundExpr-F.Column level i)

pub weight_of_variable : (i : ℕ) → weight (bound.Variable i) ≡ 1
weight_of_variable i = ap weight (sym (rolls-Variable i)) ∙
    fold-roll-BoundExpr ℕ ℕ ℕ ℕ ℕ ℕ ℕ ℕ weight_step one one one one one one one
    (BoundExpr-F.Variable i)

pub weight_of_chain : (first : BoundExpr) (rest : List BoundLink) →
    weight (bound.Chain first rest) ≡ 1
weight_of_chain first rest = ap weight (sym (rolls-Chain first rest)) ∙
    fold-roll-BoundExpr ℕ ℕ ℕ ℕ ℕ ℕ ℕ ℕ weight_step one one one one one one one
    (BoundExpr-F.Chain first rest)

pub weight_of_call : (name : List ℕ) (args : List BoundExpr) → weight (bound.Call name args) ≡ 1
weight_of_call name args = ap weight (sym (rolls-Call name args)) ∙
    fold-roll-BoundExpr ℕ ℕ ℕ ℕ ℕ ℕ ℕ ℕ weight_step one one one one one one one
    (BoundExpr-F.Call name args)

pub weight_of_single : (q : BoundQuery) → weight (bound.Single q) ≡ 1
weight_of_single q = ap weight (sym (rolls-Single q)) ∙
    fold-roll-BoundExpr ℕ ℕ ℕ ℕ ℕ ℕ ℕ ℕ weight_step one one one one one one one
    (BoundExpr-F.Single q)

pub weight_of_exists : (q : BoundQuery) → weight (bound.Exists q) ≡ 1
weight_of_exists q = ap weight (sym (rolls-Exists q)) ∙
    fold-roll-BoundExpr ℕ ℕ ℕ ℕ ℕ ℕ ℕ ℕ weight_step one one one one one one one
    (BoundExpr-F.Exists q)

pub weight_of_in : (e : BoundExpr) (q : BoundQuery) → weight (bound.In e q) ≡ 1
weight_of_in e q = ap weight (sym (rolls-In e q)) ∙
    fold-roll-BoundExpr ℕ ℕ ℕ ℕ ℕ ℕ ℕ ℕ weight_step one one one one one one one (BoundExpr-F.In e q)

weights-append : (xs ys : List BoundExpr) → weights (xs ++ ys) ≡ weights xs + weights ys
weights-append [] ys = omega arith
weights-append (x ∷ xs) ys = omega (arith, weights-append xs ys)

flat-append : (xs ys : List BoundExpr) → flat_map conjuncts_of (xs ++ ys) ≡
    flat_map conjuncts_of xs ++ flat_map conjuncts_of ys
flat-append [] ys = refl
flat-append (x ∷ xs) ys = ap (λ z. conjuncts_of x ++ z) (flat-append xs ys) ∙
    sym (append_assoc (conjuncts_of x) (flat_map conjuncts_of xs) (flat_map conjuncts_of ys))

-- the last that is left, parted
pub parted : (left rest more : List BoundExpr) (last : BoundExpr)
    (found next whole : List BoundExpr) → left ≡ rest ++ last ∷ []
    → flat_map conjuncts_of more ++ reverse next ≡ flat_map conjuncts_of rest ++
    (conjuncts_of last ++ reverse found)
    → flat_map conjuncts_of left ++ reverse found ≡ whole →
    flat_map conjuncts_of more ++ reverse next ≡ whole
parted left rest more last found next whole is p q =
    p ∙ ap (λ z. flat_map conjuncts_of rest ++ (z ++ reverse found))
    (sym (append-nil (conjuncts_of last)))
    ∙ sym (append_assoc (flat_map conjuncts_of rest) (conjuncts_of last ++ []) (reverse found))
    ∙ ap (λ z. z ++ reverse found) (sym (flat-append rest (last ∷ [])))
    ∙ ap (λ z. flat_map conjuncts_of z ++ reverse found) (sym is) ∙ q

pub lighter : (left rest more : List BoundExpr) (last : BoundExpr) → left ≡ rest ++ last ∷ [] →
    weights more < weights rest + weight last → weights more < weights left
lighter left rest more last is p = omega (arith, p, weights-append rest (last ∷ []), ap weights is)

-- one more that is found
pub found_one : (left found next : List BoundExpr) (e : BoundExpr) → conjuncts_of e ≡ e ∷ [] →
    next ≡ found ++ e ∷ []
    → flat_map conjuncts_of left ++ reverse next ≡ flat_map conjuncts_of left ++
    (conjuncts_of e ++ reverse found)
found_one left found next e p q =
    ap (λ z. flat_map conjuncts_of left ++ reverse z) q ∙
    ap (λ z. flat_map conjuncts_of left ++ z) (reverse-append found (e ∷ []))
    ∙ ap (λ z. flat_map conjuncts_of left ++ (z ++ reverse found)) (sym p)

-- the operands of AND are left
pub left_all : (left more found : List BoundExpr) (e : BoundExpr) (es : List BoundExpr) →
    conjuncts_of e ≡ flat_map conjuncts_of es → more ≡ left ++ es
    → flat_map conjuncts_of more ++ reverse found ≡ flat_map conjuncts_of left ++
    (conjuncts_of e ++ reverse found)
left_all left more found e es p q =
    ap (λ z. flat_map conjuncts_of z ++ reverse found) q ∙
    ap (λ z. z ++ reverse found) (flat-append left es)
    ∙ append_assoc (flat_map conjuncts_of left) (flat_map conjuncts_of es) (reverse found)
    ∙ ap (λ z. flat_map conjuncts_of left ++ (z ++ reverse found)) (sym p)

pub left_lighter : (left more : List BoundExpr) (word : BoundOperation) (es : List BoundExpr) →
    more ≡ left ++ es → weights more < weights left + weight (bound.Operation word es)
left_lighter left more word es q = omega (
  arith,
  weights-append left es,
  weight_of_word word es,
  ap
      weights q,
)

pub found_lighter : (left : List BoundExpr) (e : BoundExpr) (n : ℕ) → weight e ≡ suc n →
    weights left < weights left + weight e
found_lighter left e n p = omega (arith, p)
