-- Statements of one step: what stands on their nodes, and the step.
use Rattle.std.proofs.Common.{◌≡◌, ℕ, List, [], ◌∷◌, take, Option, None}
use Rattle.std.proofs.Common.{Some, sym, ap, ◌∙◌}
use Rattle.bound_trees.specs.declared.expr.BoundExpr.{BoundExpr}
use Rattle.rel_algebra.specs.Bodies.{Perhaps, Target}
use Rattle.rel_algebra.specs.BodyChain.{again, column_at, emit_again, emit_return, emit_set}
use Rattle.rel_algebra.specs.BodyChain.{emitted, perhaps_emitted, push, raising_step, with_column}
use Rattle.rel_algebra.specs.BodyDispatch.{store_if}
use Rattle.rel_algebra.specs.BodySteps.{Step, Store, col, only, tag, two}
use Rattle.rel_algebra.specs.Emissions.{Emitted, assigning, width}
use Rattle.rel_algebra.specs.Leaves.{ValueLeaf}
use Rattle.rel_algebra.specs.Plan.{Nodes, Scalar, extend, extend_by, more}
use Rattle.rel_algebra.specs.Plan.{no_node, none, on_condition, on_each, unit_row, word}
use Rattle.rel_algebra.specs.OnConditions.{raise_word, retext_word}
use Rattle.rel_algebra.specs.PlanView.{Link, link_step, scalar_of, scalar_step, scalars_of}
use Rattle.rel_algebra.specs.WordView.{condition_word}
use Rattle.rel_algebra.specs.declared.condition_word.ConditionWord.{ConditionWord}
use Rattle.rel_algebra.specs.declared.scalar.Scalar.{Scalar as ScalarCode}
use Rattle.rel_algebra.specs.declared.scalar.Scalar.TheFolds.{fold-roll-Scalar}
use Rattle.rel_algebra.specs.declared.scalar.Scalar.TheOpen.{Scalar-F}
use Rattle.rel_algebra.specs.declared.scalar.Scalar.TheVariants as code
use Rattle.rel_algebra.specs.declared.scalar.Scalar.TheVariants.{rolls-OnCondition}
use Rattle.block_plans.specs.Callees.{Callees}
use Rattle.plan_expressions.specs.Drafts.{drafted}
use Rattle.plan_expressions.specs.Emission.{Emits}
use Rattle.plan_expressions.specs.declared.draft.Draft.{Draft}
use Rattle.plan_expressions.proofs.Laws.{on_each-joined}
use Rattle.plan_steps.specs.Places.{codes_of, env_in, perhaps_in, widths_in}
use Rattle.plan_steps.specs.Steps.{Puts, judged, stores_of}
use Rattle.plan_steps.specs.declared.dispatch.At.{At}
use Rattle.plan_steps.specs.declared.dispatch.Spot.{Spot}
use Rattle.plan_steps.specs.declared.place.Place.{Place}
use Rattle.plan_steps.specs.declared.step.Store.{Store as StoreCode}
use Rattle.plan_steps.proofs.Stepping.{puts_as}

-- a word over cells that may be conditions
pub scalar_of-OnCondition : (w : ConditionWord) (ss : List ScalarCode) →
    scalar_of (code.OnCondition w ss) ≡ word (on_condition (condition_word w)) (scalars_of ss)
scalar_of-OnCondition w ss = ap scalar_of (sym (rolls-OnCondition w ss)) ∙
    fold-roll-Scalar Scalar Link scalar_step link_step (Scalar-F.OnCondition w ss)

-- ---- a column more on nodes

-- the spot of the one step of a statement
abbrev pub own_spot : At → Spot
own_spot at = record {
  from = at.here;
  here = at.here;
  base = at.next;
  columns = at.columns;
}

-- what stands on nodes over rows of n columns: an emission, and its scalar
pub record Stands (f : ℕ → Emitted) (n : ℕ) (d : Draft) (s : ScalarCode) : Type 0 where
  pub tree : (drafted d).tree ≡ on_each (f n).nodes unit_row
  pub wide : (drafted d).width ≡ width (f n).nodes n
  pub scalar : scalar_of s ≡ (f n).scalar

pub stands_there : (f : ℕ → Emitted) (n : ℕ) (d0 d1 : Draft) (s : ScalarCode) →
    (drafted d0).tree ≡ unit_row → (drafted d0).width ≡ n →
    Emits d0 d1 (scalar_of s) (f (drafted d0).width) → Stands f n d1 s
stands_there f n d0 d1 s t w e = record {
  tree = e.tree ∙ (λ j. on_each (f (w j)).nodes (t j));
  wide = e.columns ∙ (λ j. width (f (w j)).nodes (w j));
  scalar = e.scalar ∙ (λ j. (f (w j)).scalar);
}

-- one column more
pub column_tree : (f : ℕ → Emitted) (n : ℕ) (d1 d2 : Draft) (s : ScalarCode) (x y : Scalar) →
    Stands f n d1 s → (drafted d2).tree ≡ extend (more x none) (drafted d1).tree → x ≡ y →
    (drafted d2).tree ≡ on_each (with_column (f n).nodes y) unit_row
column_tree f n d1 d2 s x y h t e =
    t ∙ (λ j. extend (more (e j) none) (h.tree j)) ∙
    sym (on_each-joined (f n).nodes (extend_by (more y none) no_node) unit_row)

-- ---- SET and RETURN

pub set_put : (p : Place) (at : At) (spot : Spot) (t : Target) (e : ValueLeaf)
    (d0 d1 d2 old new : Draft) (s : ScalarCode) (x : Scalar) (column stored : ℕ) →
    spot ≡ own_spot at → (drafted d0).tree ≡ unit_row → (drafted d0).width ≡ spot.columns →
    Emits d0 d1 (scalar_of s) (emitted e (widths_in p) (env_in p) (drafted d0).width) →
    x ≡ assigning t.data_type (scalar_of s) → column ≡ (drafted d1).width →
    (drafted d2).tree ≡ extend (more x none) (drafted d1).tree →
    stored ≡ column_at spot.columns p.columns.now t.slot →
    ((a : Nodes) → (drafted d2).tree ≡ on_each a unit_row → Puts old new
    (judged a (tag spot.here) column (store_if column column stored ∷ []) [] spot p ∷ [])) →
    Puts old new (take 1 (emit_set t e (widths_in p) (codes_of p) (env_in p) at.here at.next
    at.columns))
set_put p at spot t e d0 d1 d2 old new s x column stored spot_is tree wide emits x_is column_is
    more_is stored_is puts =
    let f : ℕ → Emitted = emitted e (widths_in p) (env_in p) in
    let n = at.columns in
    let columns_are : spot.columns ≡ n = ap (λ (y : Spot). y.columns) spot_is in
    let here : Stands f n d1 s = stands_there f n d0 d1 s tree (wide ∙ columns_are) emits in
    let y = assigning t.data_type (f n).scalar in
    let nodes = with_column (f n).nodes y in
    let last : column ≡ width (f n).nodes n = column_is ∙ here.wide in
    let slot : stored ≡ column_at n p.columns.now t.slot =
    stored_is ∙ ap (λ m. column_at m p.columns.now t.slot) columns_are in
    puts_as old new _ _
    (λ j. judged nodes (tag (spot_is j).here) (last j)
    (store_if (last j) (last j) (slot j) ∷ []) [] (spot_is j) p ∷ [])
    (puts nodes (column_tree f n d1 d2 s x y here more_is
    (x_is ∙ ap (assigning t.data_type) here.scalar)))

pub return_put : (p : Place) (at : At) (spot : Spot) (e : ValueLeaf) (d0 d1 d2 old new : Draft)
    (s : ScalarCode) (column : ℕ) → spot ≡ own_spot at → (drafted d0).tree ≡ unit_row →
    (drafted d0).width ≡ spot.columns →
    Emits d0 d1 (scalar_of s) (emitted e (widths_in p) (env_in p) (drafted d0).width) →
    column ≡ (drafted d1).width →
    (drafted d2).tree ≡ extend (more (scalar_of s) none) (drafted d1).tree →
    ((a : Nodes) → (drafted d2).tree ≡ on_each a unit_row → Puts old new
    (judged a (tag 0) column (store_if column column 1 ∷ []) [] spot p ∷ [])) →
    Puts old new (take 1 (emit_return e (widths_in p) (codes_of p) (env_in p) at.here at.next
    at.columns))
return_put p at spot e d0 d1 d2 old new s column spot_is tree wide emits column_is more_is puts =
    let f : ℕ → Emitted = emitted e (widths_in p) (env_in p) in
    let n = at.columns in
    let here : Stands f n d1 s = stands_there f n d0 d1 s tree
    (wide ∙ ap (λ (y : Spot). y.columns) spot_is) emits in
    let nodes = with_column (f n).nodes (f n).scalar in
    let last : column ≡ width (f n).nodes n = column_is ∙ here.wide in
    puts_as old new _ _
    (λ j. judged nodes (tag 0) (last j) (store_if (last j) (last j) 1 ∷ []) [] (spot_is j) p ∷ [])
    (puts nodes (column_tree f n d1 d2 s (scalar_of s) (f n).scalar here more_is here.scalar))

-- where a column has a value, a store of that
pub value_put : (p : Place) (spot : Spot) (a : Nodes) (column stored : ℕ) (goes goal : Scalar)
    (stores : List Store) (extra : List ℕ) (old new : Draft) → goes ≡ goal →
    stores ≡ store_if column column stored ∷ [] → extra ≡ [] →
    Puts old new (judged a goes column stores extra spot p ∷ []) →
    Puts old new (judged a goal column (store_if column column stored ∷ []) [] spot p ∷ [])
value_put p spot a column stored goes goal stores extra old new goes_is stores_are none_is puts =
    puts_as old new (judged a goes column stores extra spot p ∷ [])
    (judged a goal column (store_if column column stored ∷ []) [] spot p ∷ [])
    (λ j. judged a (goes_is j) column (stores_are j) (none_is j) spot p ∷ []) puts

-- ---- what raises in any case

-- a cell that stands on nodes raises
pub raised_put : (p : Place) (spot : Spot) (d1 d2 old new : Draft) (cell : Scalar) (column : ℕ)
    (a : Nodes) → (drafted d1).tree ≡ on_each a unit_row → column ≡ (drafted d1).width →
    (drafted d2).tree ≡ extend (more cell none) (drafted d1).tree →
    ((b : Nodes) → (drafted d2).tree ≡ on_each b unit_row → Puts old new
    (raising_step (codes_of p) (env_in p) spot.from spot.here spot.base spot.columns b column
    ∷ [])) →
    Puts old new (raising_step (codes_of p) (env_in p) spot.from spot.here spot.base spot.columns
    (with_column a cell) (drafted d1).width ∷ [])
raised_put p spot d1 d2 old new cell column a tree column_is more_is puts =
    puts_as old new _ _
    (λ j. raising_step (codes_of p) (env_in p) spot.from spot.here spot.base spot.columns
    (with_column a cell) (column_is j) ∷ [])
    (puts (with_column a cell) (more_is ∙ ap (extend (more cell none)) tree ∙
    sym (on_each-joined a (extend_by (more cell none) no_node) unit_row)))

-- a cell that stands alone raises
pub own_raised : (p : Place) (spot : Spot) (d1 d2 old new : Draft) (cell made : Scalar)
    (column : ℕ) → (drafted d1).tree ≡ unit_row → (drafted d1).width ≡ spot.columns →
    cell ≡ made → column ≡ (drafted d1).width →
    (drafted d2).tree ≡ extend (more cell none) (drafted d1).tree →
    ((b : Nodes) → (drafted d2).tree ≡ on_each b unit_row → Puts old new
    (raising_step (codes_of p) (env_in p) spot.from spot.here spot.base spot.columns b column
    ∷ [])) →
    Puts old new (raising_step (codes_of p) (env_in p) spot.from spot.here spot.base spot.columns
    (with_column no_node made) spot.columns ∷ [])
own_raised p spot d1 d2 old new cell made column tree wide cell_is column_is more_is puts =
    puts_as old new _ _
    (λ j. raising_step (codes_of p) (env_in p) spot.from spot.here spot.base spot.columns
    (with_column no_node (cell_is j)) (wide j) ∷ [])
    (raised_put p spot d1 d2 old new cell column no_node tree column_is more_is puts)

-- a condition of the engine's own, where no area is handled
pub engine_put : (p : Place) (at : At) (spot : Spot) (cell : Scalar) (f : Option ℕ → List Step)
    (o : Option ℕ) (old new : Draft) → spot ≡ own_spot at → o ≡ None →
    f None ≡ raising_step (codes_of p) (env_in p) at.here at.here at.next at.columns
    (with_column no_node cell) at.columns ∷ [] →
    Puts old new (raising_step (codes_of p) (env_in p) spot.from spot.here spot.base spot.columns
    (with_column no_node cell) spot.columns ∷ []) →
    Puts old new (f o)
engine_put p at spot cell f o old new spot_is nothing first puts =
    puts_as old new _ (f o)
    ((λ j. raising_step (codes_of p) (env_in p) (spot_is j).from (spot_is j).here (spot_is j).base
    (spot_is j).columns (with_column no_node cell) (spot_is j).columns ∷ []) ∙ sym first ∙
    ap f (sym nothing)) puts

-- SIGNAL and RESIGNAL: a cell on the nodes of their text raises
pub text_raised : (p : Place) (at : At) (spot : Spot) (text : Perhaps) (d0 d1 old new : Draft)
    (s : ScalarCode) (cell : Scalar) (of : Scalar → Scalar) → spot ≡ own_spot at →
    (drafted d0).tree ≡ unit_row → (drafted d0).width ≡ spot.columns →
    Emits d0 d1 (scalar_of s) (perhaps_emitted text (widths_in p) (env_in p) (drafted d0).width) →
    cell ≡ of (scalar_of s) →
    ((a : Nodes) → (drafted d1).tree ≡ on_each a unit_row → Puts old new
    (raising_step (codes_of p) (env_in p) spot.from spot.here spot.base spot.columns
    (with_column a cell) (drafted d1).width ∷ [])) →
    Puts old new (raising_step (codes_of p) (env_in p) at.here at.here at.next at.columns
    (with_column (perhaps_emitted text (widths_in p) (env_in p) at.columns).nodes
    (of (perhaps_emitted text (widths_in p) (env_in p) at.columns).scalar))
    (width (perhaps_emitted text (widths_in p) (env_in p) at.columns).nodes at.columns) ∷ [])
text_raised p at spot text d0 d1 old new s cell of spot_is tree wide emits cell_is puts =
    let f : ℕ → Emitted = perhaps_emitted text (widths_in p) (env_in p) in
    let n = at.columns in
    let here : Stands f n d1 s = stands_there f n d0 d1 s tree
    (wide ∙ ap (λ (y : Spot). y.columns) spot_is) emits in
    let raises : cell ≡ of (f n).scalar = cell_is ∙ ap of here.scalar in
    puts_as old new _ _
    (λ j. raising_step (codes_of p) (env_in p) (spot_is j).from (spot_is j).here (spot_is j).base
    (spot_is j).columns (with_column (f n).nodes (raises j)) (here.wide j) ∷ [])
    (puts (f n).nodes here.tree)

-- the area again, with a state, with a text, or as it is
pub again_state : (o : Option (List ℕ)) (state : List ℕ) (words : Perhaps)
    (text x made : Scalar) (c : ℕ) → o ≡ Some state → x ≡ col c → made ≡ push state text x →
    made ≡ again o words text c
again_state o state words text x made c h g is =
    is ∙ ap (push state text) g ∙ sym (ap (λ (y : Option (List ℕ)). again y words text c) h)

pub again_as : (o : Option (List ℕ)) (words : Perhaps) (text made : Scalar) (c : ℕ) → o ≡ None →
    made ≡ again None words text c → made ≡ again o words text c
again_as o words text made c h is =
    is ∙ sym (ap (λ (y : Option (List ℕ)). again y words text c) h)

pub again_text : (k : Callees) (m : Option BoundExpr) (e : BoundExpr) (text made : Scalar)
    (c : ℕ) → m ≡ Some e → made ≡ word (on_condition retext_word) (two text (col c)) →
    made ≡ again None (perhaps_in k m) text c
again_text k m e text made c h is =
    is ∙ sym (ap (λ (x : Option BoundExpr). again None (perhaps_in k x) text c) h)

pub again_whole : (k : Callees) (m : Option BoundExpr) (text made : Scalar) (c : ℕ) → m ≡ None →
    made ≡ word (on_condition raise_word) (only (col c)) → made ≡ again None (perhaps_in k m) text c
again_whole k m text made c h is =
    is ∙ sym (ap (λ (x : Option BoundExpr). again None (perhaps_in k x) text c) h)

-- RESIGNAL by the column of the handled area
pub again_put : (p : Place) (at : At) (o : Option ℕ) (c : ℕ) (state : Option (List ℕ))
    (words : Perhaps) (old new : Draft) → o ≡ Some c →
    Puts old new (raising_step (codes_of p) (env_in p) at.here at.here at.next at.columns
    (with_column (perhaps_emitted words (widths_in p) (env_in p) at.columns).nodes
    (again state words (perhaps_emitted words (widths_in p) (env_in p) at.columns).scalar c))
    (width (perhaps_emitted words (widths_in p) (env_in p) at.columns).nodes at.columns) ∷ []) →
    Puts old new (take 1 (emit_again o state words (widths_in p) (codes_of p) (env_in p) at.here
    at.next at.columns))
again_put p at o c state words old new stacked puts = puts_as old new _ _
    (ap (λ (x : Option ℕ). take 1 (emit_again x state words (widths_in p) (codes_of p) (env_in p)
    at.here at.next at.columns)) (sym stacked)) puts

-- ---- tests, operands and defaults

-- a column on an emission's nodes is judged
pub column_judged : (p : Place) (spot : Spot) (f : ℕ → Emitted) (d0 d1 d2 old new : Draft)
    (s : ScalarCode) (of : Scalar → Scalar) (x : Scalar) (goes : ℕ → Scalar)
    (extra : ℕ → List ℕ) (stores : List Store) (kept : List ℕ) (g : Scalar) (column : ℕ) →
    (drafted d0).tree ≡ unit_row → (drafted d0).width ≡ spot.columns →
    Emits d0 d1 (scalar_of s) (f (drafted d0).width) → x ≡ of (scalar_of s) →
    column ≡ (drafted d1).width →
    (drafted d2).tree ≡ extend (more x none) (drafted d1).tree → g ≡ goes column → stores ≡ [] →
    kept ≡ extra column →
    ((a : Nodes) → (drafted d2).tree ≡ on_each a unit_row → Puts old new
    (judged a g column stores kept spot p ∷ [])) →
    Puts old new (judged (with_column (f spot.columns).nodes (of (f spot.columns).scalar))
    (goes (width (f spot.columns).nodes spot.columns))
    (width (f spot.columns).nodes spot.columns) []
    (extra (width (f spot.columns).nodes spot.columns)) spot p ∷ [])
column_judged p spot f d0 d1 d2 old new s of x goes extra stores kept g column tree wide emits x_is
    column_is more_is goes_is stores_are kept_is puts =
    let n = spot.columns in
    let here : Stands f n d1 s = stands_there f n d0 d1 s tree wide emits in
    let y = of (f n).scalar in
    let last : column ≡ width (f n).nodes n = column_is ∙ here.wide in
    puts_as old new _ _
    ((λ j. judged (with_column (f n).nodes y) (goes_is j) column (stores_are j) (kept_is j) spot p
    ∷ []) ∙
    (λ j. judged (with_column (f n).nodes y) (goes (last j)) (last j) [] (extra (last j)) spot p
    ∷ []))
    (puts (with_column (f n).nodes y) (column_tree f n d1 d2 s x y here more_is
    (x_is ∙ ap of here.scalar)))

-- no store at all
pub stores_none : (ss : List StoreCode) → ss ≡ [] → stores_of ss ≡ []
stores_none ss h = ap stores_of h
