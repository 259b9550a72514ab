-- Expressions on nodes, and statements that store several values at once.
use Rattle.std.proofs.Common.{◌≡◌, ℕ, suc, ◌+◌, List, [], ◌∷◌, length, take, Option}
use Rattle.std.proofs.Common.{None, true}
use Rattle.std.proofs.Common.{Some, Result, IfOk, refl, sym, ap, ◌∙◌, subst}
use Rattle.bound_trees.specs.declared.condition.BoundInformation.{BoundInformation}
use Rattle.bound_trees.specs.declared.expr.BoundExpr.{BoundExpr}
use Rattle.bound_trees.specs.declared.query.BoundQuery.{BoundQuery}
use Rattle.sql_texts.specs.declared.memory.NoMemory.{NoMemory}
use Rattle.sql_values.specs.declared.operators.Comparison.TheVariants.{Equals}
use Rattle.sql_values.specs.declared.value.Value.TheVariants.{Bool as Truth}
use Rattle.rel_algebra.specs.Bodies.{StatementRead, ConditionRead, Target}
use Rattle.rel_algebra.specs.BodyChain.{assigns, assigns_if, condition_cells, emitted, item_cell}
use Rattle.rel_algebra.specs.BodyChain.{emit_condition_items, emit_statement_items, into_asked}
use Rattle.rel_algebra.specs.BodyChain.{into_by, perhaps_emitted, reading, text_of}
use Rattle.rel_algebra.specs.BodyChain.{statement_cells, target_stores, with_column, with_columns}
use Rattle.rel_algebra.specs.BodyMeaning.{condition_targets, statement_targets}
use Rattle.rel_algebra.specs.BodySteps.{Store, col, tag, two}
use Rattle.rel_algebra.specs.Emissions.{Emitted, Folded, all_values, joined_nodes, width}
use Rattle.rel_algebra.specs.Emit.{emit, folded, plan}
use Rattle.rel_algebra.specs.Environments.{Env as Reading}
use Rattle.rel_algebra.specs.Joins.{places}
use Rattle.rel_algebra.specs.Leaves.{ValueLeaf}
use Rattle.rel_algebra.specs.OnConditions.{state_item}
use Rattle.rel_algebra.specs.Plan.{Nodes, PlanTree, Scalar, Scalars, anew, apply, apply_by}
use Rattle.rel_algebra.specs.Plan.{constant, extend, extend_by, into, more, no_node, none, on_each}
use Rattle.rel_algebra.specs.Plan.{strict, unit_row, word}
use Rattle.rel_algebra.specs.PlanView.{scalar_of, scalars_of}
use Rattle.rel_algebra.specs.Tree.{Comparing}
use Rattle.rel_algebra.specs.declared.scalar.Scalar.{Scalar as ScalarCode}
use Rattle.block_plans.specs.Callees.{Callees}
use Rattle.block_plans.specs.View.{expr_seen, query_seen}
use Rattle.block_plans.specs.Callees.{width_in}
use Rattle.plan_expressions.specs.Drafts.{drafted}
use Rattle.plan_expressions.specs.Emission.{Emits}
use Rattle.plan_expressions.specs.declared.draft.Draft.{Draft}
use Rattle.plan_expressions.proofs.Laws.{joined-joined, on_each-joined}
use Rattle.plan_steps.specs.Places.{codes_of, env_in, leaf_in, perhaps_in, widths_in}
use Rattle.plan_queries.specs.Folding.{EmitsFolded, fold_list}
use Rattle.plan_steps.specs.Steps.{Puts, judged}
use Rattle.plan_statements.specs.Statements.{folded_step, get_steps, numbered_step, test_by}
use Rattle.plan_steps.specs.declared.dispatch.At.{At}
use Rattle.plan_steps.specs.declared.dispatch.Spot.{Spot}
use Rattle.plan_steps.specs.declared.place.Place.{Place}
use Rattle.plan_statements.proofs.Single.{Stands, column_tree, own_spot, stands_there}
use Rattle.plan_steps.proofs.Stepping.{puts_as}

-- ---- expressions

-- what is emitted of an expression, where names are read so
pub value_emits : (k : Callees) (e : BoundExpr) (p : Place) (names : Reading) (old new : Draft)
    (r : Result ScalarCode NoMemory) → names ≡ reading (env_in p) →
    IfOk r (λ s. Emits old new (scalar_of s) (emit (expr_seen k e) (width_in k) names
    (drafted old).width)) →
    IfOk r (λ s. Emits old new (scalar_of s) (emitted (leaf_in k e) (width_in k) (env_in p)
    (drafted old).width))
value_emits k e p names old new r h made =
    subst (λ (x : Emitted). IfOk r (λ s. Emits old new (scalar_of s) x))
    (λ j. emit (expr_seen k e) (width_in k) (h j) (drafted old).width) made

-- an expression that may be left out, and is given
pub given_emits : (k : Callees) (o : Option BoundExpr) (e : BoundExpr) (p : Place)
    (old new : Draft) (r : Result ScalarCode NoMemory) → o ≡ Some e →
    IfOk r (λ s. Emits old new (scalar_of s) (emitted (leaf_in k e) (widths_in p) (env_in p)
    (drafted old).width)) →
    IfOk r (λ s. Emits old new (scalar_of s) (perhaps_emitted (perhaps_in k o) (widths_in p)
    (env_in p) (drafted old).width))
given_emits k o e p old new r h made =
    subst (λ (x : Option BoundExpr). IfOk r (λ s. Emits old new (scalar_of s)
    (perhaps_emitted (perhaps_in k x) (widths_in p) (env_in p) (drafted old).width))) (sym h) made

-- one that is left out
pub empty_emits : (k : Callees) (o : Option BoundExpr) (p : Place) (d : Draft) (s : Scalar) →
    o ≡ None → s ≡ text_of [] →
    Emits d d s (perhaps_emitted (perhaps_in k o) (widths_in p) (env_in p) (drafted d).width)
empty_emits k o p d s h is =
    subst (λ (x : Option BoundExpr). Emits d d s (perhaps_emitted (perhaps_in k x) (widths_in p)
    (env_in p) (drafted d).width)) (sym h) (record { tree = refl; columns = refl; scalar = is })

-- a test that is compared with the operand of CASE
pub compared_emits : (o : Option ℕ) (x : ℕ) (e : ValueLeaf) (p : Place) (old new : Draft)
    (s : ScalarCode) (made : Scalar) → o ≡ Some x →
    Emits old new (scalar_of s) (emitted e (widths_in p) (env_in p) (drafted old).width) →
    made ≡ word (strict (Comparing Equals)) (two (col x) (scalar_of s)) →
    Emits old new made (test_by o e (widths_in p) (env_in p) (drafted old).width)
compared_emits o x e p old new s made h emits is =
    subst (λ (y : Option ℕ). Emits old new made (test_by y e (widths_in p) (env_in p)
    (drafted old).width)) (sym h)
    (record {
      tree = emits.tree;
      columns = emits.columns;
      scalar = is ∙ ap (λ y. word (strict (Comparing Equals)) (two (col x) y)) emits.scalar;
    })

-- a test alone
pub alone_emits : (o : Option ℕ) (e : ValueLeaf) (p : Place) (old new : Draft) (s : Scalar) →
    o ≡ None → Emits old new s (emitted e (widths_in p) (env_in p) (drafted old).width) →
    Emits old new s (test_by o e (widths_in p) (env_in p) (drafted old).width)
alone_emits o e p old new s h emits =
    subst (λ (y : Option ℕ). Emits old new s (test_by y e (widths_in p) (env_in p)
    (drafted old).width)) (sym h) emits

-- ---- whether all are values, and the stores

pub targets_put : (p : Place) (spot : Spot) (d1 d2 old new : Draft) (x y g : Scalar) (t : ℕ)
    (stores stored : List Store) (kept : List ℕ) (a : Nodes) →
    (drafted d1).tree ≡ on_each a unit_row →
    (drafted d2).tree ≡ extend (more x none) (drafted d1).tree → x ≡ y → g ≡ tag spot.here →
    stores ≡ stored → kept ≡ [] →
    ((b : Nodes) → (drafted d2).tree ≡ on_each b unit_row →
    Puts old new (judged b g t stores kept spot p ∷ [])) →
    Puts old new (judged (with_column a y) (tag spot.here) t stored [] spot p ∷ [])
targets_put p spot d1 d2 old new x y g t stores stored kept a tree more_is x_is g_is stores_are
    kept_is puts =
    puts_as old new _ _
    (λ j. judged (with_column a y) (g_is j) t (stores_are j) (kept_is j) spot p ∷ [])
    (puts (with_column a y) (more_is ∙ (λ j. extend (more (x_is j) none) (tree j)) ∙
    sym (on_each-joined a (extend_by (more y none) no_node) unit_row)))

-- cells and the column of whether they are values are columns of nodes
pub columns_joined : (a : Nodes) (ss : Scalars) (is : List ℕ) →
    with_column (joined_nodes a (extend_by ss no_node)) (all_values is) ≡ with_columns a ss is
columns_joined a ss is =
    joined-joined a (extend_by ss no_node) (extend_by (more (all_values is) none) no_node)

pub cells_tree : (d0 d1 : Draft) (ss tt : Scalars) (a : Nodes) →
    (drafted d0).tree ≡ on_each a unit_row → (drafted d1).tree ≡ extend ss (drafted d0).tree →
    ss ≡ tt → (drafted d1).tree ≡ on_each (joined_nodes a (extend_by tt no_node)) unit_row
cells_tree d0 d1 ss tt a tree more_is same =
    more_is ∙ (λ j. extend (same j) (tree j)) ∙
    sym (on_each-joined a (extend_by tt no_node) unit_row)

-- cells after the row alone
pub cells_put : (p : Place) (spot : Spot) (d0 d1 old new : Draft) (cells : Scalars) (g : Scalar)
    (k t : ℕ) (stores : List Store) → (drafted d0).tree ≡ unit_row →
    (drafted d1).tree ≡ extend cells (drafted d0).tree →
    ((a : Nodes) → (drafted d1).tree ≡ on_each a unit_row → Puts old new
    (judged (with_column a (all_values (places spot.columns k))) g t stores [] spot p ∷ [])) →
    Puts old new (judged (with_columns no_node cells (places spot.columns k)) g t stores [] spot p
    ∷ [])
cells_put p spot d0 d1 old new cells g k t stores tree more_is puts =
    puts (extend_by cells no_node) (more_is ∙ ap (extend cells) tree)

-- ---- what is read of the handled area

pub statement_put : (p : Place) (at : At) (spot : Spot) (o : Option ℕ) (c k t : ℕ)
    (reads : List StatementRead) (cells : Scalars) (targets : List Target) (old new : Draft) →
    spot ≡ own_spot at → o ≡ Some c → k ≡ length reads → t ≡ spot.columns + k →
    cells ≡ statement_cells reads c → targets ≡ statement_targets reads →
    Puts old new (judged (with_columns no_node cells (places spot.columns k)) (tag spot.here) t
    (target_stores targets (env_in p) spot.columns t spot.columns) [] spot p ∷ []) →
    Puts old new (take 1 (emit_statement_items o reads (codes_of p) (env_in p) at.here at.next
    at.columns))
statement_put p at spot o c k t reads cells targets old new spot_is stacked k_is t_is cells_are
    targets_are puts =
    let n = at.columns in
    let n_is : spot.columns ≡ n = ap (λ (y : Spot). y.columns) spot_is in
    let last : t ≡ n + length reads = t_is ∙ (λ j. n_is j + k_is j) in
    puts_as old new _ _
    ((λ j. judged (with_columns no_node (cells_are j) (places (n_is j) (k_is j)))
    (tag (spot_is j).here) (last j) (target_stores (targets_are j) (env_in p) (n_is j) (last j)
    (n_is j)) [] (spot_is j) p ∷ []) ∙
    sym (ap (λ (x : Option ℕ). take 1 (emit_statement_items x reads (codes_of p) (env_in p) at.here
    at.next at.columns)) stacked)) puts

pub condition_put : (p : Place) (at : At) (spot : Spot) (o : Option ℕ) (c i : ℕ) (e : ValueLeaf)
    (reads : List ConditionRead) (d0 d1 d2 old new : Draft) (s : ScalarCode) →
    spot ≡ own_spot at → o ≡ Some c → (drafted d0).tree ≡ unit_row →
    (drafted d0).width ≡ spot.columns →
    Emits d0 d1 (scalar_of s) (emitted e (widths_in p) (env_in p) (drafted d0).width) →
    i ≡ (drafted d1).width →
    (drafted d2).tree ≡ extend (more (scalar_of s) none) (drafted d1).tree →
    ((a : Nodes) → (drafted d2).tree ≡ on_each a unit_row →
    Puts old new (numbered_step a i c reads spot p ∷ [])) →
    Puts old new (take 1 (emit_condition_items o e reads (widths_in p) (codes_of p) (env_in p)
    at.here at.next at.columns))
condition_put p at spot o c i e reads d0 d1 d2 old new s spot_is stacked tree wide emits i_is
    more_is puts =
    let f : ℕ → Emitted = emitted e (widths_in p) (env_in p) in
    let n = at.columns in
    let here : Stands f n d1 s = stands_there f n d0 d1 s tree
    (wide ∙ ap (λ (y : Spot). y.columns) spot_is) emits in
    let nodes = with_column (f n).nodes (f n).scalar in
    let last : i ≡ width (f n).nodes n = i_is ∙ here.wide in
    puts_as old new _ _
    ((λ j. numbered_step nodes (last j) c reads (spot_is j) p ∷ []) ∙
    sym (ap (λ (x : Option ℕ). take 1 (emit_condition_items x e reads (widths_in p) (codes_of p)
    (env_in p) at.here at.next at.columns)) stacked))
    (puts nodes (column_tree f n d1 d2 s (scalar_of s) (f n).scalar here more_is here.scalar))

-- the same, where the number stands in a column
pub numbered_put : (p : Place) (spot : Spot) (a : Nodes) (i c checked first k t : ℕ)
    (reads : List ConditionRead) (cells : Scalars) (targets : List Target)
    (d0 d1 old new : Draft) → checked ≡ suc i → first ≡ suc checked → k ≡ suc (length reads) →
    t ≡ checked + k → targets ≡ condition_targets reads →
    cells ≡ more (item_cell state_item i c) (condition_cells reads i c) →
    (drafted d0).tree ≡ on_each a unit_row → (drafted d1).tree ≡ extend cells (drafted d0).tree →
    ((b : Nodes) → (drafted d1).tree ≡ on_each b unit_row → Puts old new
    (judged (with_column b (all_values (places checked k))) (tag spot.here) t
    (target_stores targets (env_in p) spot.columns t first) [] spot p ∷ [])) →
    Puts old new (numbered_step a i c reads spot p ∷ [])
numbered_put p spot a i c checked first k t reads cells targets d0 d1 old new checked_is first_is
    k_is t_is targets_are cells_are tree more_is puts =
    let read = more (item_cell state_item i c) (condition_cells reads i c) in
    let nodes = joined_nodes a (extend_by read no_node) in
    let from : first ≡ suc (suc i) = first_is ∙ ap suc checked_is in
    let last : t ≡ suc i + suc (length reads) = t_is ∙ (λ j. checked_is j + k_is j) in
    puts_as old new _ _
    ((λ j. judged (with_column nodes (all_values (places (checked_is j) (k_is j)))) (tag spot.here)
    (last j) (target_stores (targets_are j) (env_in p) spot.columns (last j) (from j)) [] spot p
    ∷ []) ∙
    ap (λ (b : Nodes). judged b (tag spot.here) (suc i + suc (length reads))
    (target_stores (condition_targets reads) (env_in p) spot.columns (suc i + suc (length reads))
    (suc (suc i))) [] spot p ∷ []) (columns_joined a read (places (suc i) (suc (length reads)))))
    (puts nodes (cells_tree d0 d1 cells read a tree more_is cells_are))

-- by what is read
pub get_put : (p : Place) (at : At) (x y : BoundInformation) (old new : Draft) → x ≡ y →
    Puts old new (take 1 (get_steps y p at)) → Puts old new (take 1 (get_steps x p at))
get_put p at x y old new h puts = puts_as old new _ _
    (ap (λ (i : BoundInformation). take 1 (get_steps i p at)) (sym h)) puts

-- ---- SELECT INTO

pub asked_put : (p : Place) (at : At) (spot : Spot) (inner : PlanTree) (ts : List Target)
    (k first t : ℕ) (cells : Scalars) (d0 d1 d2 old new : Draft) → spot ≡ own_spot at →
    (drafted d0).tree ≡ unit_row →
    (drafted d1).tree ≡ apply (constant (Truth true)) (into k) anew inner (drafted d0).tree →
    k ≡ length ts → first ≡ spot.columns + k → t ≡ first + k → cells ≡ assigns ts spot.columns →
    (drafted d2).tree ≡ extend cells (drafted d1).tree →
    ((a : Nodes) → (drafted d2).tree ≡ on_each a unit_row → Puts old new
    (judged (with_column a (all_values (places first k))) (tag spot.here) t
    (target_stores ts (env_in p) spot.columns t first) [] spot p ∷ [])) →
    Puts old new (take 1 (into_asked inner ts (codes_of p) (env_in p) at.here at.next at.columns))
asked_put p at spot inner ts k first t cells d0 d1 d2 old new spot_is tree applied k_is first_is
    t_is cells_are more_is puts =
    let n = at.columns in
    let n_is : spot.columns ≡ n = ap (λ (y : Spot). y.columns) spot_is in
    let from : first ≡ n + length ts = first_is ∙ (λ j. n_is j + k_is j) in
    let last : t ≡ (n + length ts) + length ts = t_is ∙ (λ j. from j + k_is j) in
    let cells_there : cells ≡ assigns ts n = cells_are ∙ ap (assigns ts) n_is in
    let nodes = apply_by (constant (Truth true)) (into (length ts)) anew inner
    (extend_by (assigns ts n) no_node) in
    puts_as old new _ _
    (λ j. judged (with_column nodes (all_values (places (from j) (k_is j)))) (tag (spot_is j).here)
    (last j) (target_stores ts (env_in p) (n_is j) (last j) (from j)) [] (spot_is j) p ∷ [])
    (puts nodes (more_is ∙ (λ j. extend (cells_there j) (applied j)) ∙
    (λ j. extend (assigns ts n) (apply (constant (Truth true)) (into (k_is j)) anew inner
    (tree j)))))

pub folded_put : (p : Place) (at : At) (spot : Spot) (o : Option Folded) (inner : PlanTree)
    (ts : List Target) (list : List ScalarCode) (d0 d1 old new : Draft) → spot ≡ own_spot at →
    (drafted d0).tree ≡ unit_row → (drafted d0).width ≡ spot.columns →
    EmitsFolded d0 d1 (Some list) o →
    ((a : Nodes) → (drafted d1).tree ≡ on_each a unit_row → Puts old new
    (folded_step a (drafted d1).width (scalars_of list) ts spot p ∷ [])) →
    Puts old new (take 1 (into_by o inner ts (codes_of p) (env_in p) at.here at.next at.columns))
folded_put p at spot None inner ts list d0 d1 old new spot_is tree wide emits puts = absurd emits
folded_put p at spot (Some f) inner ts list d0 d1 old new spot_is tree wide emits puts =
    let n = at.columns in
    let w : (drafted d0).width ≡ n = wide ∙ ap (λ (y : Spot). y.columns) spot_is in
    let nodes = (fold_list f n).nodes in
    let stands : (drafted d1).tree ≡ on_each nodes unit_row =
    emits.tree ∙ (λ j. on_each (fold_list f (w j)).nodes (tree j)) in
    let last : (drafted d1).width ≡ width nodes n =
    emits.columns ∙ (λ j. width (fold_list f (w j)).nodes (w j)) in
    let scalars : scalars_of list ≡ (f.list n).scalars =
    emits.scalars ∙ (λ j. (fold_list f (w j)).scalars) in
    puts_as old new _ _
    (λ j. folded_step nodes (last j) (scalars j) ts (spot_is j) p ∷ []) (puts nodes stands)

-- a list of aggregates, and its cells as targets take them
pub list_put : (p : Place) (spot : Spot) (a : Nodes) (m wide checked t k : ℕ)
    (list cells : Scalars) (targets : List Target) (d0 d1 d2 old new : Draft) → m ≡ wide →
    k ≡ length targets → checked ≡ m + k → t ≡ checked + k →
    cells ≡ assigns_if (spot.columns ∷ places m (length targets)) targets m →
    (drafted d0).tree ≡ on_each a unit_row → (drafted d1).tree ≡ extend list (drafted d0).tree →
    (drafted d2).tree ≡ extend cells (drafted d1).tree →
    ((b : Nodes) → (drafted d2).tree ≡ on_each b unit_row → Puts old new
    (judged (with_column b (all_values (places checked k))) (tag spot.here) t
    (target_stores targets (env_in p) spot.columns t checked) [] spot p ∷ [])) →
    Puts old new (folded_step a wide list targets spot p ∷ [])
list_put p spot a m wide checked t k list cells targets d0 d1 d2 old new m_is k_is checked_is t_is
    cells_are tree list_is more_is puts =
    let l = length targets in
    let assigned = assigns_if (spot.columns ∷ places m l) targets m in
    let from : checked ≡ m + l = checked_is ∙ ap (λ n. m + n) k_is in
    let last : t ≡ (m + l) + l = t_is ∙ (λ j. from j + k_is j) in
    let nodes = joined_nodes a (extend_by list (extend_by assigned no_node)) in
    puts_as old new _ _
    ((λ j. judged (with_column nodes (all_values (places (from j) (k_is j)))) (tag spot.here)
    (last j) (target_stores targets (env_in p) spot.columns (last j) (from j)) [] spot p ∷ []) ∙
    ap (λ (b : Nodes). judged b (tag spot.here) ((m + l) + l) (target_stores targets (env_in p)
    spot.columns ((m + l) + l) (m + l)) [] spot p ∷ [])
    (joined-joined a (extend_by list (extend_by assigned no_node))
    (extend_by (more (all_values (places (m + l) l)) none) no_node)) ∙
    (λ j. folded_step a (m_is j) list targets spot p ∷ []))
    (puts nodes (more_is ∙ (λ j. extend (cells_are j) (list_is j)) ∙
    ap (λ x. extend assigned (extend list x)) tree ∙
    sym (on_each-joined a (extend_by list (extend_by assigned no_node)) unit_row)))

-- a query that isn't folded
pub not_folded : (p : Place) (at : At) (o : Option Folded) (asked inner : PlanTree)
    (ts : List Target) (d0 d1 old new : Draft) → EmitsFolded d0 d1 None o → asked ≡ inner →
    Puts old new (take 1 (into_asked asked ts (codes_of p) (env_in p) at.here at.next at.columns))
    →
    Puts old new (take 1 (into_by o inner ts (codes_of p) (env_in p) at.here at.next at.columns))
not_folded p at None asked inner ts d0 d1 old new emits asked_is puts = puts_as old new _ _
    (ap (λ (x : PlanTree). take 1 (into_asked x ts (codes_of p) (env_in p) at.here at.next
    at.columns)) asked_is) puts
not_folded p at (Some f) asked inner ts d0 d1 old new emits asked_is puts = absurd emits

-- whether a query is folded, and its plan
pub folded_seen : (k : Callees) (q : BoundQuery) (names env : Reading) (old new : Draft)
    (x y : Option (List ScalarCode)) → names ≡ env → x ≡ y →
    EmitsFolded old new x (folded (query_seen k q) (width_in k) names) →
    EmitsFolded old new y (folded (query_seen k q) (width_in k) env)
folded_seen k q names env old new x y names_is made emits =
    subst (λ (o : Option (List ScalarCode)). EmitsFolded old new o
    (folded (query_seen k q) (width_in k) env)) made
    (subst (λ (o : Option Folded). EmitsFolded old new x o)
    (λ j. folded (query_seen k q) (width_in k) (names_is j)) emits)

pub plan_seen : (k : Callees) (q : BoundQuery) (names env : Reading) → names ≡ env →
    plan (query_seen k q) (width_in k) names ≡ plan (query_seen k q) (width_in k) env
plan_seen k q names env h = λ j. plan (query_seen k q) (width_in k) (h j)
