-- The chain is well formed: each column, outer column and argument that it names is there.
use Rattle.std.proofs.Common.{◌≡◌, ℕ, zero, suc, ◌+◌, ◌-◌, ◌<◌, ◌≤◌, Bool, true, false, cond, ◌&&◌}
use Rattle.std.proofs.Common.{◌||◌, nat_eq, List, [], ◌∷◌, ◌++◌, length, replicate, slice_set}
use Rattle.std.proofs.Common.{Option, Some, None, refl, sym, ap, ◌∙◌, subst, arith, length-append}
use Rattle.std.proofs.lemmas.List.{length-set, length-replicate}
use Rattle.sql_values.specs.declared.value.SqlType.{SqlType}
use Rattle.sql_values.specs.declared.value.SqlType.TheVariants.{Integer, Varchar, Boolean}
use Rattle.sql_values.specs.declared.value.Value.TheVariants.{Null, Bool as Truth}
use Rattle.rel_algebra.specs.Tree.{ConditionValue, State, SqlException, SqlWarning, NotFound, AnyOf}
use Rattle.rel_algebra.specs.Tree.{NullTest}
use Rattle.rel_algebra.specs.Emissions.{Emitted, Folded, joined_nodes, width, assigning, all_values}
use Rattle.rel_algebra.specs.Emissions.{if_values}
use Rattle.rel_algebra.specs.Plan.{scalar_count, Nodes, no_node, extend_by, apply_by, kind_width}
use Rattle.rel_algebra.specs.Plan.{into, aggregate, constant, word, Scalar, Scalars, none, more}
use Rattle.rel_algebra.specs.Plan.{PlanTree, extend, keep, on_each, unit_row, Way, anew, once}
use Rattle.rel_algebra.specs.Plan.{lookup, found_width, on_condition, strict, case_word, and_word}
use Rattle.rel_algebra.specs.Plan.{or_word, Word}
use Rattle.rel_algebra.specs.Environments.{Place, at, given, nowhere}
use Rattle.rel_algebra.specs.Joins.{places}
use Rattle.rel_algebra.specs.Removal.{less, tree_width}
use Rattle.rel_algebra.specs.WellFormed.{has_column, columns_fit, kind_fits, nodes_fit, scalar_fits}
use Rattle.rel_algebra.specs.WellFormed.{scalars_fit, tree_fits, way_fits}
use Rattle.rel_algebra.proofs.Truths.{and_true, left_true, right_true}
use Rattle.rel_algebra.proofs.FittingNodes.{EnvFits, Fit, check_fits, if_values_fits, join_fits}
use Rattle.rel_algebra.proofs.FittingNodes.{lt_less, on_each_fits, places_fit}
use Rattle.rel_algebra.proofs.FoldedParts.{FoldedFits}
use Rattle.rel_algebra.proofs.Widths.{on_each_width, width_join, width_more}
use Rattle.rel_algebra.specs.Bodies.{word_of, Target, HandlerType, Continue, Exit, Undo, Perhaps}
use Rattle.rel_algebra.specs.Bodies.{Without, With, StatementItem, Number, RowCount, StatementRead}
use Rattle.rel_algebra.specs.Bodies.{ConditionRead, Stmt, Compound, If, SearchedCase, SimpleCase}
use Rattle.rel_algebra.specs.Bodies.{Set, SelectInto, Signal, Resignal, GetStatementItems}
use Rattle.rel_algebra.specs.Bodies.{GetConditionItems, Leave, Return, Stmts, NoStmt, MoreStmts}
use Rattle.rel_algebra.specs.Bodies.{Branches, NoBranch, MoreBranches, Variables, NoVariable}
use Rattle.rel_algebra.specs.Bodies.{MoreVariables, Handlers, NoHandler, MoreHandlers, Body}
use Rattle.rel_algebra.specs.Bodies.{Routine, parameters_of}
use Rattle.rel_algebra.specs.BodySteps.{asked_when, Step, grow, fat, Store, store, steps_tree}
use Rattle.rel_algebra.specs.BodySteps.{is_sure, asked_at, code_is, case_of, guarded, placed, acts}
use Rattle.rel_algebra.specs.BodySteps.{jump, only, two, col, tag}
use Rattle.rel_algebra.specs.OnConditions.{matches_word, number_word, state_item, raise_word}
use Rattle.rel_algebra.proofs.BodyHeld.{Holds, AllHold, BranchesHold, CountIs, HandlersHold}
use Rattle.rel_algebra.proofs.BodyHeld.{PerhapsHolds, QueryFits, RoutineFits, ValueFits}
use Rattle.rel_algebra.proofs.BodyHeld.{VariablesHold}
use Rattle.rel_algebra.specs.Leaves.{QueryLeaf, ValueLeaf, Widths}
use Rattle.rel_algebra.specs.BodyCompounds.{scopes_in}
use Rattle.rel_algebra.specs.BodyMeaning.{statement_targets, condition_targets}
use Rattle.rel_algebra.specs.BodyDispatch.{Env, Emit, Coded, Codes, count, matching, is_value}
use Rattle.rel_algebra.specs.BodyDispatch.{area_in, named_tests, general_tests, arm, named_arms}
use Rattle.rel_algebra.specs.BodyDispatch.{general_arms, scope_arms, aimed, dispatch, code_or}
use Rattle.rel_algebra.specs.BodyDispatch.{judging, raising_to, store_if, action_env, if_continue}
use Rattle.rel_algebra.specs.BodyDispatch.{whatever, scope_actions, actions, has_continue, tags}
use Rattle.rel_algebra.specs.BodyDispatch.{joins, handled}
use Rattle.rel_algebra.specs.BodyChain.{null_of, assigned_as, inline_with, Rest, reading, place_at}
use Rattle.rel_algebra.specs.BodyChain.{column_at, emitted, with_column, with_columns}
use Rattle.rel_algebra.specs.BodyChain.{target_stores, one_step, one_raise, emit_set, emit_return}
use Rattle.rel_algebra.specs.BodyChain.{assigns, assigns_if, into_by, push, not_active_cell}
use Rattle.rel_algebra.specs.BodyChain.{not_stacked_cell, case_not_found_cell, without_return_cell}
use Rattle.rel_algebra.specs.BodyChain.{perhaps_emitted, again, emit_signal, emit_again}
use Rattle.rel_algebra.specs.BodyChain.{statement_cell, statement_cells, emit_statement_items}
use Rattle.rel_algebra.specs.BodyChain.{item_cell, condition_cells, emit_condition_items, and_on}
use Rattle.rel_algebra.specs.BodyChain.{branching, not_found, equal_to, with_variables, inside}
use Rattle.rel_algebra.specs.BodyChain.{ending_env, its_own, ending, ending_width, whole_raise}
use Rattle.rel_algebra.specs.BodyChain.{variable_count, has_default, null_scalars, emit, emit_all}
use Rattle.rel_algebra.specs.BodyChain.{emit_else, emit_branches, emit_matching, emit_declares}
use Rattle.rel_algebra.specs.BodyChain.{coded, top, raised_area, last_cell, first_cells}
use Rattle.rel_algebra.proofs.BodyBase.{Rising, rising_below, rising_more, rising_take}
use Rattle.rel_algebra.proofs.BodyBase.{rising_append, both}
use Rattle.rel_algebra.proofs.BodyRows.{asked_width, guarded_count}
use Rattle.rel_algebra.proofs.BodyHandled.{places_count}

-- a number below another
less_lt : (i n : ℕ) → less i n ≡ true → i < n
less_lt i zero h = absurd cc
less_lt zero (suc n) h = omega arith
less_lt (suc i) (suc n) h = let k = less_lt i n h in omega (arith, k)

less_more : (i n m : ℕ) → n ≤ m → less i n ≡ true → less i m ≡ true
less_more i n m h l = lt_less i m (let k = less_lt i n l in omega (arith, h, k))

-- what is read there is there
abbrev pub PlaceFits : Place → List ℕ → ℕ → Type 0
PlaceFits (at level i) ws ps = has_column ws level i ≡ true
PlaceFits (given i) ws ps = less i ps ≡ true
PlaceFits nowhere ws ps = Unit {0}

-- the tables' widths, the widths of the rows outside, and how many arguments
pub record Around : Type 0 where
  pub tables : Widths
  pub outer : List ℕ
  pub args : ℕ

-- a scalar over rows of m columns
abbrev Right : Around → Scalar → ℕ → Type 0
Right A s m = scalar_fits s (m ∷ A.outer) A.args ≡ true

-- the same of several
abbrev AllRight : Around → Scalars → ℕ → Type 0
AllRight A ss m = scalars_fit ss (m ∷ A.outer) A.args ≡ true

-- the same of nodes over rows of n
abbrev NodesRight : Around → Nodes → ℕ → Type 0
NodesRight A nodes n = nodes_fit nodes A.tables n A.outer A.args ≡ true

-- ---- scalars

column_right : (A : Around) (i m : ℕ) → i < m → Right A (col i) m
column_right A i m h = lt_less i m h

two_right : (A : Around) (s t : Scalar) (m : ℕ) → Right A s m → Right A t m → AllRight A (two s t) m
two_right A s t m p q = and_true (scalar_fits s (m ∷ A.outer) A.args) _ p
    (and_true (scalar_fits t (m ∷ A.outer) A.args) true q refl)

more_right : (A : Around) (s : Scalar) (ss : Scalars) (m : ℕ) → Right A s m → AllRight A ss m →
    AllRight A (more s ss) m
more_right A s ss m p q = and_true (scalar_fits s (m ∷ A.outer) A.args)
    (scalars_fit ss (m ∷ A.outer) A.args) p q

code_right : (A : Around) (k m : ℕ) → 0 < m → Right A (code_is k) m
code_right A k m h = two_right A (col 0) (tag k) m (column_right A 0 m h) refl

case_right : (A : Around) (a b c : Scalar) (m : ℕ) → Right A a m → Right A b m → Right A c m →
    Right A (case_of a b c) m
case_right A a b c m p q r = more_right A a (two b c) m p (two_right A b c m q r)

assigning_right : (A : Around) (t : SqlType) (s : Scalar) (m : ℕ) → Right A s m →
    Right A (assigning t s) m
assigning_right A Integer s m h = h
assigning_right A Boolean s m h = h
assigning_right A (Varchar n) s m h = more_right A s none m h refl

-- ---- nodes

asked_right : (A : Around) (k : ℕ) (nodes : Nodes) (n : ℕ) → 0 < n → NodesRight A nodes n →
    NodesRight A (asked_at k nodes) n
asked_right A k no_node n h p = p
asked_right A k (extend_by ss rest) n h p =
    let x = scalars_fit ss (n ∷ A.outer) A.args in let y = nodes_fit rest A.tables
    (n + scalar_count ss) A.outer A.args in
    and_true x (nodes_fit (asked_at k rest) A.tables (n + scalar_count ss) A.outer A.args)
    (left_true x y p) (asked_right A k rest (n + scalar_count ss) (omega arith) (right_true x y p))
asked_right A k (apply_by when kind way inner rest) n h p =
    let w = scalar_fits when (n ∷ A.outer) A.args in let way_is = way_fits way when inner
    (n ∷ A.outer) A.args in
    let kd = kind_fits kind (found_width way (tree_width inner)) (n ∷ A.outer) A.args in
    let t = tree_fits inner A.tables (n ∷ A.outer) A.args in let y = nodes_fit rest A.tables
    (n + kind_width kind) A.outer A.args in
    let front = left_true (w && (way_is && kd)) (t && y) p in let back =
    right_true (w && (way_is && kd)) (t && y) p in
    let behind = right_true w (way_is && kd) front in
    let w' = scalar_fits (asked_when way k when) (n ∷ A.outer) A.args in let way' = way_fits way
    (asked_when way k when) inner (n ∷ A.outer) A.args in
    and_true (w' && (way' && kd)) (t && nodes_fit (asked_at k rest) A.tables (n + kind_width kind)
    A.outer A.args)
    (and_true w' (way' && kd) (by_way way (left_true w (way_is && kd) front))
    (and_true way' kd (way_right way (left_true way_is kd behind)) (right_true way_is kd behind)))
    (and_true t (nodes_fit (asked_at k rest) A.tables (n + kind_width kind) A.outer A.args)
    (left_true t y back) (asked_right A k rest (n + kind_width kind) (omega arith)
    (right_true t y back)))
  where
    when_right : (b : Bool) → is_sure when ≡ b → Right A when n →
        Right A (cond b (code_is k) (word and_word (two (code_is k) when))) n
    when_right true e g = code_right A k n h
    when_right false e g = two_right A (code_is k) when n (code_right A k n h) g

    by_way : (v : Way) → Right A when n → Right A (asked_when v k when) n
    by_way anew g = when_right (is_sure when) refl g
    by_way once g = g
    by_way (lookup keys) g = when_right (is_sure when) refl g

    way_right : (v : Way) → way_fits v when inner (n ∷ A.outer) A.args ≡ true →
        way_fits v (asked_when v k when) inner (n ∷ A.outer) A.args ≡ true
    way_right anew g = refl
    way_right once g = g
    way_right (lookup keys) g = g

with_one : (A : Around) (nodes : Nodes) (s : Scalar) (n : ℕ) → NodesRight A nodes n →
    Right A s (width nodes n) → NodesRight A (joined_nodes nodes (extend_by (only s) no_node)) n
with_one A nodes s n p q = join_fits nodes (extend_by (only s) no_node) A.tables n A.outer A.args p
    (and_true (scalars_fit (only s) (width nodes n ∷ A.outer) A.args) true
    (more_right A s none (width nodes n) q refl) refl)

one_width : (nodes : Nodes) (s : Scalar) (n : ℕ) →
    width (joined_nodes nodes (extend_by (only s) no_node)) n ≡ suc (width nodes n)
one_width nodes s n = width_join nodes (extend_by (only s) no_node) n
    ∙ (let e : width nodes n + 1 ≡ suc (width nodes n) = omega arith in e)

-- columns, and the test of some of them
with_more : (A : Around) (nodes : Nodes) (ss : Scalars) (is : List ℕ) (n k : ℕ) → scalar_count ss
    ≡ k → NodesRight A nodes n → AllRight A ss (width nodes n) → columns_fit is (width nodes n + k)
    ≡ true →
    NodesRight A (joined_nodes nodes (extend_by ss (extend_by (only (all_values is)) no_node))) n
with_more A nodes ss is n k c p q r =
    let m = width nodes n in
    join_fits nodes (extend_by ss (extend_by (only (all_values is)) no_node)) A.tables n A.outer
    A.args p
    (and_true (scalars_fit ss (m ∷ A.outer) A.args) _ q
    (and_true (scalars_fit (only (all_values is)) ((m + scalar_count ss) ∷ A.outer) A.args) true
    (more_right A (all_values is) none (m + scalar_count ss)
    (check_fits is (m + scalar_count ss) A.outer A.args
    (ap (λ (i : ℕ). columns_fit is (m + i)) c ∙ r)) refl) refl))

more_width : (nodes : Nodes) (ss : Scalars) (is : List ℕ) (n k : ℕ) → scalar_count ss ≡ k →
    width (joined_nodes nodes (extend_by ss (extend_by (only (all_values is)) no_node))) n
    ≡ suc (width nodes n + k)
more_width nodes ss is n k c =
    width_join nodes (extend_by ss (extend_by (only (all_values is)) no_node)) n
    ∙ (let e : (width nodes n + scalar_count ss) + 1 ≡ suc (width nodes n + k) =
    omega (arith, c) in e)

-- ---- steps

-- a step names what is there
abbrev StepFits : Around → Step → ℕ → Type 0
StepFits A (grow ss) n = AllRight A ss n
StepFits A (fat nodes is) n = NodesRight A nodes n × (columns_fit is (width nodes n) ≡ true)

-- how many columns a row has after it
abbrev step_width : Step → ℕ → ℕ
step_width (grow ss) n = n + scalar_count ss
step_width (fat nodes is) n = length is

-- from rows of n columns to rows of m
abbrev Fits : Around → List Step → ℕ → ℕ → Type 0
Fits A [] n m = n ≡ m
Fits A (s ∷ ss) n m = StepFits A s n × ((j : ℕ) × (step_width s n ≡ j) × Fits A ss j m)

fits_append : (A : Around) (a b : List Step) (n j m : ℕ) → Fits A a n j → Fits A b j m →
    Fits A (a ++ b) n m
fits_append A [] b n j m p q = subst (λ (i : ℕ). Fits A b i m) (sym p) q
fits_append A (s ∷ a) b n j m p q = (p.0, (p.1.0, p.1.1, fits_append A a b p.1.0 j m p.1.2 q))

steps_fit : (A : Around) (ss : List Step) (t : PlanTree) (n m : ℕ) → tree_width t ≡ n →
    tree_fits t A.tables A.outer A.args ≡ true → Fits A ss n m →
    (tree_fits (steps_tree ss t) A.tables A.outer A.args ≡ true)
    × (tree_width (steps_tree ss t) ≡ m)
steps_fit A [] t n m w p f = (p, w ∙ f)
steps_fit A (grow cs ∷ ss) t n m w p f =
    steps_fit A ss (extend cs t) f.1.0 m (ap (λ (i : ℕ). i + scalar_count cs) w ∙ f.1.1)
    (and_true (scalars_fit cs (tree_width t ∷ A.outer) A.args) (tree_fits t A.tables A.outer A.args)
    (ap (λ (i : ℕ). scalars_fit cs (i ∷ A.outer) A.args) w ∙ f.0) p) f.1.2
steps_fit A (fat nodes is ∷ ss) t n m w p f =
    steps_fit A ss (keep is (on_each nodes t)) f.1.0 m f.1.1
    (and_true (columns_fit is (tree_width (on_each nodes t)))
    (tree_fits (on_each nodes t) A.tables A.outer A.args)
    (ap (columns_fit is) (on_each_width nodes t ∙ ap (width nodes) w) ∙ f.0.1)
    (on_each_fits nodes t A.tables A.outer A.args
    (ap (λ (i : ℕ). nodes_fit nodes A.tables i A.outer A.args) w ∙ f.0.0) p)) f.1.2

-- ---- stores

-- new cells name what is there, and go into columns that are there
abbrev StoresRight : Around → List Store → ℕ → Type 0
StoresRight A [] m = Unit {0}
StoresRight A (x ∷ xs) m = (Right A x.new m × (x.column < m)) × StoresRight A xs m

stores_append : (A : Around) (xs ys : List Store) (m : ℕ) → StoresRight A xs m → StoresRight A ys
    m → StoresRight A (xs ++ ys) m
stores_append A [] ys m p q = q
stores_append A (x ∷ xs) ys m p q = (p.0, stores_append A xs ys m p.1 q)

guarded_right : (A : Around) (k : ℕ) (xs : List Store) (m : ℕ) → 0 < m → StoresRight A xs m →
    AllRight A (guarded k xs) m
guarded_right A k [] m h s = refl
guarded_right A k (x ∷ xs) m h s =
    more_right A (case_of (code_is k) x.new (col x.column)) (guarded k xs) m
    (case_right A (code_is k) x.new (col x.column) m (code_right A k m h) s.0.0
    (column_right A x.column m s.0.1)) (guarded_right A k xs m h s.1)

set_fits : (is : List ℕ) (i j M : ℕ) → columns_fit is M ≡ true → j < M →
    columns_fit (slice_set is i j) M ≡ true
set_fits [] i j M h g = h
set_fits (c ∷ is) zero j M h g = and_true (less j M) (columns_fit is M) (lt_less j M g)
    (right_true (less c M) (columns_fit is M) h)
set_fits (c ∷ is) (suc i) j M h g = and_true (less c M) (columns_fit (slice_set is i j) M)
    (left_true (less c M) (columns_fit is M) h)
    (set_fits is i j M (right_true (less c M) (columns_fit is M) h) g)

placed_fits : (xs : List Store) (m : ℕ) (is : List ℕ) (M : ℕ) → columns_fit is M ≡ true →
    m + length xs ≤ M → columns_fit (placed xs m is) M ≡ true
placed_fits [] m is M h g = h
placed_fits (x ∷ xs) m is M h g = placed_fits xs (suc m) (slice_set is x.column m) M
    (set_fits is x.column m M h (omega arith)) (omega arith)

placed_long : (xs : List Store) (m : ℕ) (is : List ℕ) → length (placed xs m is) ≡ length is
placed_long [] m is = refl
placed_long (x ∷ xs) m is = placed_long xs (suc m) (slice_set is x.column m) ∙ length-set is
    x.column m

columns_append : (a b : List ℕ) (M : ℕ) → columns_fit a M ≡ true → columns_fit b M ≡ true →
    columns_fit (a ++ b) M ≡ true
columns_append [] b M p q = q
columns_append (i ∷ a) b M p q = and_true (less i M) (columns_fit (a ++ b) M)
    (left_true (less i M) (columns_fit a M) p)
    (columns_append a b M (right_true (less i M) (columns_fit a M) p) q)

columns_more : (is : List ℕ) (m M : ℕ) → columns_fit is m ≡ true → m ≤ M → columns_fit is M ≡ true
columns_more [] m M h g = refl
columns_more (i ∷ is) m M h g = and_true (less i M) (columns_fit is M)
    (less_more i m M g (left_true (less i m) (columns_fit is m) h))
    (columns_more is m M (right_true (less i m) (columns_fit is m) h) g)

-- a step at a code, and its row
acts_fits : (A : Around) (k : ℕ) (pre : Nodes) (m : ℕ) (xs : List Store) (n : ℕ) (extra : List ℕ) →
    0 < n → n ≤ m → NodesRight A pre n → width pre n ≡ m → StoresRight A xs m → columns_fit extra m
    ≡ true →
    StepFits A (acts k pre m xs n extra) n × (length (placed xs m (places 0 n) ++ extra)
    ≡ n + length extra)
acts_fits A k pre m xs n extra h g p w s e =
    let add = extend_by (guarded k xs) no_node in
    let wide : width (joined_nodes (asked_at k pre) add) n ≡ m + length xs =
    width_join (asked_at k pre) add n ∙ both_sums (width (asked_at k pre) n) m
    (scalar_count (guarded k xs)) (length xs) (asked_width k pre n ∙ w) (guarded_count k xs) in (
      (
        join_fits (asked_at k pre) add A.tables n A.outer A.args (asked_right A k pre n h p)
            (and_true (scalars_fit (guarded k xs) (width (asked_at k pre) n ∷ A.outer) A.args) true
            (ap (λ (i : ℕ). scalars_fit (guarded k xs) (i ∷ A.outer) A.args)
            (asked_width k pre n ∙ w) ∙ guarded_right A k xs m (omega arith) s) refl),
        ap (columns_fit (placed xs m (places 0 n) ++ extra)) wide
            ∙ columns_append (placed xs m (places 0 n)) extra (m + length xs)
            (placed_fits xs m (places 0 n) (m + length xs)
            (places_fit 0 n (m + length xs) (omega arith)) (omega arith))
            (columns_more extra m (m + length xs) e (omega arith)),
      ),
      length-append (placed xs m (places 0 n)) extra ∙ ap (λ (i : ℕ). i + length extra)
          (placed_long xs m (places 0 n) ∙ places_count 0 n),
    )
  where
    both_sums : (a b c d : ℕ) → a ≡ b → c ≡ d → a + c ≡ b + d
    both_sums a b c d p q = both (λ (x y : ℕ). x + y) a b c d p q

-- ---- what an emitter is given

-- the column of the handled area is there
abbrev StackedBelow : Option ℕ → ℕ → Type 0
StackedBelow None n = Unit {0}
StackedBelow (Some c) n = c < n

-- the columns of the variables rise from the registers on, and are there
pub record Placed (env : Env) (n : ℕ) : Type 0 where
  pub rising : Rising 3 env.columns n
  pub stacked : StackedBelow env.stacked n

place_right : (lo : ℕ) (cs : List ℕ) (n : ℕ) → Rising lo cs n → (i : ℕ) (ws : List ℕ) (ps : ℕ) →
    PlaceFits (place_at cs i) (n ∷ ws) ps
place_right lo [] n r i ws ps = tt
place_right lo (c ∷ cs) n r zero ws ps = lt_less c n
    (let e = rising_below (suc c) cs n r.1 in omega arith)
place_right lo (c ∷ cs) n r (suc i) ws ps = place_right (suc c) cs n r.1 i ws ps

reading_fits : (A : Around) (env : Env) (n : ℕ) → Placed env n → EnvFits (reading env) (n ∷ A.outer)
    A.args
reading_fits A env n p = (λ d i. tt, λ i. place_right 3 env.columns n p.rising i A.outer A.args)

expr_right : (A : Around) (e : ValueLeaf) → ValueFits A.tables e → (env : Env) (n : ℕ) → Placed env
    n →
    Fit (emitted e A.tables env n) A.tables n A.outer A.args
expr_right A e s env n p = s A.outer A.args (reading env) n (reading_fits A env n p)

-- ---- dispatch

one_word : (A : Around) (w : Word) (t m : ℕ) → t < m → Right A (word w (only (col t))) m
one_word A w t m h = more_right A (col t) none m (column_right A t m h) refl

value_right : (A : Around) (t m : ℕ) → t < m → Right A (is_value t) m
value_right A t m h = more_right A (word (on_condition number_word) (only (col t))) none m
    (one_word A (on_condition number_word) t m h) refl

named_right : (A : Around) (vs : List ConditionValue) (t m : ℕ) → t < m →
    AllRight A (named_tests vs t) m
named_right A [] t m h = refl
named_right A (State s ∷ vs) t m h = more_right A (matching (State s) t) (named_tests vs t) m
    (one_word A (on_condition (matches_word (State s))) t m h) (named_right A vs t m h)
named_right A (SqlException ∷ vs) t m h = named_right A vs t m h
named_right A (SqlWarning ∷ vs) t m h = named_right A vs t m h
named_right A (NotFound ∷ vs) t m h = named_right A vs t m h

general_right : (A : Around) (vs : List ConditionValue) (t m : ℕ) → t < m →
    AllRight A (general_tests vs t) m
general_right A [] t m h = refl
general_right A (State s ∷ vs) t m h = general_right A vs t m h
general_right A (SqlException ∷ vs) t m h = more_right A (matching SqlException t)
    (general_tests vs t) m (one_word A (on_condition (matches_word SqlException)) t m h)
    (general_right A vs t m h)
general_right A (SqlWarning ∷ vs) t m h = more_right A (matching SqlWarning t) (general_tests vs t)
    m (one_word A (on_condition (matches_word SqlWarning)) t m h) (general_right A vs t m h)
general_right A (NotFound ∷ vs) t m h = more_right A (matching NotFound t) (general_tests vs t) m
    (one_word A (on_condition (matches_word NotFound)) t m h) (general_right A vs t m h)

arm_right : (A : Around) (tests : Scalars) (to : ℕ) (rest : Scalars) (m : ℕ) → AllRight A tests m →
    AllRight A rest m → AllRight A (arm tests to rest) m
arm_right A none to rest m p q = q
arm_right A (more t ts) to rest m p q = more_right A (word or_word (more t ts)) (more (tag to) rest)
    m p (more_right A (tag to) rest m refl q)

named_arms_right : (A : Around) (to : HandlerType → ℕ → ℕ) (hs : List Coded) (i t : ℕ)
    (rest : Scalars) (m : ℕ) → t < m → AllRight A rest m → AllRight A (named_arms to hs i t rest) m
named_arms_right A to [] i t rest m h q = q
named_arms_right A to (c ∷ hs) i t rest m h q = arm_right A (named_tests c.takes t) (to c.kind i)
    (named_arms to hs (suc i) t rest) m (named_right A c.takes t m h)
    (named_arms_right A to hs (suc i) t rest m h q)

general_arms_right : (A : Around) (to : HandlerType → ℕ → ℕ) (hs : List Coded) (i t : ℕ)
    (rest : Scalars) (m : ℕ) → t < m → AllRight A rest m → AllRight A (general_arms to hs i t rest)
    m
general_arms_right A to [] i t rest m h q = q
general_arms_right A to (c ∷ hs) i t rest m h q = arm_right A (general_tests c.takes t)
    (to c.kind i) (general_arms to hs (suc i) t rest) m (general_right A c.takes t m h)
    (general_arms_right A to hs (suc i) t rest m h q)

scope_arms_right : (A : Around) (to : HandlerType → ℕ → ℕ) (hs : List Coded) (i t : ℕ)
    (rest : Scalars) (m : ℕ) → t < m → AllRight A rest m → AllRight A (scope_arms to hs i t rest) m
scope_arms_right A to hs i t rest m h q = named_arms_right A to hs i t (general_arms to hs i t rest)
    m h (general_arms_right A to hs i t rest m h q)

dispatch_right : (A : Around) (cs : Codes) (env : Env) (i here t m : ℕ) → t < m →
    AllRight A (dispatch cs env i here t) m
dispatch_right A [] env i here t m h = more_right A (matching SqlException t)
    (two (tag env.out) (tag here)) m (one_word A (on_condition (matches_word SqlException)) t m h)
    (two_right A (tag env.out) (tag here) m refl refl)
dispatch_right A (s ∷ outer) env i here t m h =
    scope_arms_right A (aimed (env.exits s.level)) s.handlers i t
    (dispatch outer env (i + length s.handlers) here t) m h
    (dispatch_right A outer env (i + length s.handlers) here t m h)

judging_right : (A : Around) (goes : Scalar) (cs : Codes) (env : Env) (base here t : ℕ)
    (stores : List Store) (m : ℕ) → t < m → 2 < m → Right A goes m → StoresRight A stores m →
    StoresRight A (judging goes cs env base here t stores) m
judging_right A goes cs env base here t stores m h g p s =
    stores_append A stores (store 0 (code_or goes cs env base here t) ∷ store 2 (area_in t) ∷ []) m
    s (
      (
        more_right A (is_value t) (more goes (dispatch cs env base here t)) m (value_right A t m h)
            (more_right A goes (dispatch cs env base here t) m p
            (dispatch_right A cs env base here t m h)),
        omega arith,
      ),
      ((one_word A (strict NullTest) t m h, g), tt),
    )

raising_right : (A : Around) (cs : Codes) (env : Env) (base here t m : ℕ) → t < m → 2 < m →
    StoresRight A (raising_to cs env base here t) m
raising_right A cs env base here t m h g = (
  (dispatch_right A cs env base here t m h, omega arith),
  ((one_word A (strict NullTest) t m h, g), tt),
)

if_right : (A : Around) (t p i m : ℕ) → t < m → p < m → i < m → Right A (store_if t p i).new m
if_right A t p i m h g k = case_right A (is_value t) (col p) (col i) m (value_right A t m h)
    (column_right A p m g) (column_right A i m k)

column_below : (lo : ℕ) (cs : List ℕ) (n x : ℕ) → Rising lo cs n → column_at n cs x ≤ n
column_below lo [] n x r = omega arith
column_below lo (c ∷ cs) n zero r = let e = rising_below (suc c) cs n r.1 in omega arith
column_below lo (c ∷ cs) n (suc x) r = column_below (suc c) cs n x r.1

targets_right : (A : Around) (ts : List Target) (env : Env) (n t p m : ℕ) → Rising 3 env.columns n →
    n < m → t < m → p + length ts ≤ m → StoresRight A (target_stores ts env n t p) m
targets_right A [] env n t p m r g h k = tt
targets_right A (x ∷ ts) env n t p m r g h k =
    let c = column_below 3 env.columns n x.slot r in (
      (
        if_right A t p (column_at n env.columns x.slot) m h (omega arith) (omega arith),
        omega arith,
      ),
      targets_right A ts env n t (suc p) m r g h (omega arith),
    )

-- ---- actions

-- steps fit wherever they stand
abbrev EmitFits : Around → Emit → Type 0
EmitFits A code = (env : Env) (here next n : ℕ) → Placed env n → Fits A (code env here next n) n n

-- where the row has at least so many columns
abbrev RestFits : Around → ℕ → Rest → Type 0
RestFits A lo rest = (env : Env) (from here base free n : ℕ) → lo ≤ n → Placed env n →
    Fits A (rest env from here base free n) n n

-- so do those of actions
abbrev HandlersFit : Around → List Coded → Type 0
HandlersFit A [] = Unit {0}
HandlersFit A (h ∷ hs) = EmitFits A h.action × HandlersFit A hs

-- and those of all handlers in sight
abbrev CodesFit : Around → Codes → Type 0
CodesFit A [] = Unit {0}
CodesFit A (s ∷ outer) = HandlersFit A s.handlers × CodesFit A outer

continue_fits : (A : Around) (kind : HandlerType) (ss : List Step) (n : ℕ) → Fits A ss n n →
    Fits A (if_continue kind ss) n n
continue_fits A Continue ss n h = h
continue_fits A Exit ss n h = refl
continue_fits A Undo ss n h = refl

scope_fits : (A : Around) (pick : HandlerType → List Step → List Step) →
    ((kind : HandlerType) (ss : List Step) (n : ℕ) → Fits A ss n n → Fits A (pick kind ss) n n) →
    (hs : List Coded) → HandlersFit A hs → (env : Env) (i free n : ℕ) → Placed env n →
    Fits A (scope_actions pick hs env i free n) n n
scope_fits A pick p [] h env i free n q = refl
scope_fits A pick p (c ∷ hs) h env i free n q =
    fits_append A (pick c.kind (c.action env i free n)) (scope_actions pick hs env (suc i) free n) n
    n n (p c.kind (c.action env i free n) n (h.0 env i free n q))
    (scope_fits A pick p hs h.1 env (suc i) free n q)

action_placed : (env : Env) (level v n : ℕ) → Placed env n → Placed (action_env env level v n)
    (suc n)
action_placed env level v n p = record {
  rising = rising_take 3 v env.columns (suc n)
      (rising_more 3 env.columns n (suc n) p.rising (omega arith));
  stacked = omega arith;
}

actions_fit : (A : Around) (cs : Codes) → CodesFit A cs → (env : Env) (i free n : ℕ) →
    Placed env n → Fits A (actions cs env i free n) (suc n) (suc n)
actions_fit A [] h env i free n p = refl
actions_fit A (s ∷ outer) h env i free n p =
    fits_append A (scope_actions if_continue s.handlers (action_env env s.level s.variables n) i
    free (suc n)) (actions outer env (i + length s.handlers) free n) (suc n) (suc n) (suc n)
    (scope_fits A if_continue (continue_fits A) s.handlers h.0
    (action_env env s.level s.variables n) i free (suc n)
    (action_placed env s.level s.variables n p))
    (actions_fit A outer h.1 env (i + length s.handlers) free n p)

tags_right : (A : Around) (i k m : ℕ) → AllRight A (tags i k) m
tags_right A i zero m = refl
tags_right A i (suc k) m = more_right A (tag i) (tags (suc i) k) m refl (tags_right A (suc i) k m)

joins_fit : (A : Around) (i k here m n : ℕ) → 0 < n → n ≤ m → StepFits A (joins i k here m n) m
    × (length (placed (store 0 (tag here) ∷ []) m (places 0 n)) ≡ n)
joins_fit A i k here m n h g =
    let s = case_of (word (strict AnyOf) (more (col 0) (tags i k))) (tag here) (col 0) in (
      (
        with_one A no_node s m refl (case_right A (word (strict AnyOf) (more (col 0) (tags i k)))
            (tag here) (col 0) m (more_right A (col 0) (tags i k) m
            (column_right A 0 m (omega arith))
            (tags_right A i k m)) refl (column_right A 0 m (omega arith))),
        placed_fits (store 0 (tag here) ∷ []) m (places 0 n) (m + 1)
            (places_fit 0 n (m + 1) (omega arith)) (omega arith),
      ),
      placed_long (store 0 (tag here) ∷ []) m (places 0 n) ∙ places_count 0 n,
    )

handled_fits : (A : Around) (cs : Codes) → CodesFit A cs → (env : Env) (here base free n : ℕ) →
    Placed env n → Fits A (handled cs env here base free n) n n
handled_fits A cs h env here base free n p =
    let h3 = rising_below 3 env.columns n p.rising in
    elim (has_continue cs) as (λ b. Fits A (cond b
    (grow (only (col 2)) ∷ (actions cs env base free n ++ joins base (count cs) here (suc n) n
    ∷ [])) []) n n) [
      | true ↦
          let j = joins_fit A base (count cs) here (suc n) n (omega arith) (omega arith) in (
            more_right A (col 2) none n (column_right A 2 n (omega arith)) refl,
            (
              suc n,
              (let e : n + 1 ≡ suc n = omega arith in e),
              fits_append A
                  (actions cs env base free n) (joins base (count cs) here (suc n) n ∷ []) (suc n)
                  (suc n)
                  n (actions_fit A cs h env base free n p) (j.0, (n, j.1, refl)),
            ),
          )
      | false ↦ refl
    ]

-- a step at a code that keeps the row's width, and what comes after
then_fits : (A : Around) (k : ℕ) (pre : Nodes) (m : ℕ) (xs : List Store) (n j : ℕ)
    (rest : List Step) → 0 < n → n ≤ m → NodesRight A pre n → width pre n ≡ m → StoresRight A xs m →
    Fits A rest n j → Fits A (acts k pre m xs n [] ∷ rest) n j
then_fits A k pre m xs n j rest h g p w s f =
    let t = acts_fits A k pre m xs n [] h g p w s refl in
    (t.0, (n, t.1 ∙ (let e : n + 0 ≡ n = omega arith in e), f))

one_fits : (A : Around) (cs : Codes) → CodesFit A cs → (env : Env) (here next n : ℕ) →
    Placed env n → (pre : Nodes) (p : ℕ) (goes : Scalar) (stores : List Store) → n ≤ p →
    NodesRight A pre n → width pre n ≡ suc p → Right A goes (suc p) → StoresRight A stores (suc p) →
    Fits A (one_step cs env here next n pre p goes stores) n n
one_fits A cs h env here next n q pre p goes stores g nr w gr sr =
    let h3 = rising_below 3 env.columns n q.rising in
    then_fits A here pre (suc p) (judging goes cs env next here p stores) n n
    (handled cs env here next (next + count cs) n) (omega arith) (omega arith) nr w
    (judging_right A goes cs env next here p stores (suc p) (omega arith) (omega arith) gr sr)
    (handled_fits A cs h env here next (next + count cs) n q)

raise_fits : (A : Around) (cs : Codes) → CodesFit A cs → (env : Env) (here next n : ℕ) →
    Placed env n → (pre : Nodes) (p : ℕ) → n ≤ p → NodesRight A pre n → width pre n ≡ suc p →
    Fits A (one_raise cs env here next n pre p) n n
raise_fits A cs h env here next n q pre p g nr w =
    let h3 = rising_below 3 env.columns n q.rising in
    then_fits A here pre (suc p) (raising_to cs env next here p) n n
    (handled cs env here next (next + count cs) n) (omega arith) (omega arith) nr w
    (raising_right A cs env next here p (suc p) (omega arith) (omega arith))
    (handled_fits A cs h env here next (next + count cs) n q)

jump_fits : (A : Around) (k to n j : ℕ) (rest : List Step) → 0 < n → Fits A rest n j →
    Fits A (jump k to n ∷ rest) n j
jump_fits A k to n j rest h f = then_fits A k no_node n (store 0 (tag to) ∷ []) n j rest h
    (omega arith) refl refl ((refl, h), tt) f

-- ---- statements

set_fits_all : (A : Around) (t : Target) (e : ValueLeaf) → ValueFits A.tables e → (cs : Codes) →
    CodesFit A cs → EmitFits A (emit_set t e A.tables cs)
set_fits_all A t e s cs h env here next n q =
    let a = emitted e A.tables env n in let p = width a.nodes n in let f = expr_right A e s env n
    q in let c = column_below 3 env.columns n t.slot q.rising in let wm = width_more a.nodes
    n in
    one_fits A cs h env here next n q (with_column a.nodes (assigning t.data_type a.scalar)) p
    (tag here) (store_if p p (column_at n env.columns t.slot) ∷ []) wm
    (with_one A a.nodes (assigning t.data_type a.scalar) n f.0
    (assigning_right A t.data_type a.scalar p f.1))
    (one_width a.nodes (assigning t.data_type a.scalar) n) refl (
      (
        if_right A p p (column_at n env.columns t.slot) (suc p) (omega arith) (omega arith)
            (omega arith),
        omega arith,
      ),
      tt,
    )

return_fits_all : (A : Around) (e : ValueLeaf) → ValueFits A.tables e → (cs : Codes) → CodesFit A
    cs →
    EmitFits A (emit_return e A.tables cs)
return_fits_all A e s cs h env here next n q =
    let a = emitted e A.tables env n in let p = width a.nodes n in let f = expr_right A e s env n
    q in let wm = width_more a.nodes n in let h3 = rising_below 3 env.columns n q.rising in
    one_fits A cs h env here next n q (with_column a.nodes a.scalar) p (tag 0) (store_if p p 1 ∷ [])
    wm
    (with_one A a.nodes a.scalar n f.0 f.1) (one_width a.nodes a.scalar n) refl
    ((if_right A p p 1 (suc p) (omega arith) (omega arith) (omega arith), omega arith), tt)

assigns_right : (A : Around) (ts : List Target) (p m : ℕ) → p + length ts ≤ m →
    AllRight A (assigns ts p) m
assigns_right A [] p m h = refl
assigns_right A (t ∷ ts) p m h = more_right A (assigning t.data_type (col p)) (assigns ts (suc p)) m
    (assigning_right A t.data_type (col p) m (column_right A p m (omega arith)))
    (assigns_right A ts (suc p) m (omega arith))

ifs_right : (A : Around) (is : List ℕ) (ts : List Target) (p m : ℕ) → columns_fit is m ≡ true →
    p + length ts ≤ m → AllRight A (assigns_if is ts p) m
ifs_right A is [] p m f h = refl
ifs_right A is (t ∷ ts) p m f h =
    more_right A (if_values is (assigning t.data_type (col p))) (assigns_if is ts (suc p)) m
    (if_values_fits is (assigning t.data_type (col p)) m A.outer A.args f
    (assigning_right A t.data_type (col p) m (column_right A p m (omega arith))))
    (ifs_right A is ts (suc p) m f (omega arith))

assigns_long : (ts : List Target) (p : ℕ) → scalar_count (assigns ts p) ≡ length ts
assigns_long [] p = refl
assigns_long (t ∷ ts) p = ap suc (assigns_long ts (suc p))

ifs_long : (is : List ℕ) (ts : List Target) (p : ℕ) → scalar_count (assigns_if is ts p) ≡ length ts
ifs_long is [] p = refl
ifs_long is (t ∷ ts) p = ap suc (ifs_long is ts (suc p))

equal_true : (a b : ℕ) → a ≡ b → nat_eq a b ≡ true
equal_true a b h = ap (nat_eq a) (sym h) ∙ grind arith

into_fits : (A : Around) (query : QueryLeaf) (ts : List Target) → QueryFits A.tables query ts →
    (cs : Codes) → CodesFit A cs →
    (env : Env) (here next n : ℕ) → Placed env n →
    (oa : Option Folded) → FoldedFits oa A.tables n A.outer A.args → CountIs oa (length ts) →
    Fits A (into_by oa (query.plan A.tables (reading env)) ts cs env here next n) n n
into_fits A query ts s cs h env here next n q None f c =
    let k = length ts in let t = query.plan A.tables (reading env) in let p = n + k in
    one_fits A cs h env here next n q (apply_by (constant (Truth true)) (into k) anew t
    (with_columns no_node (assigns ts n) (places p k))) (p + k) (tag here)
    (target_stores ts env n (p + k) p) (omega arith)
    (and_true (true && nat_eq (tree_width t) k)
    (tree_fits t A.tables (n ∷ A.outer) A.args && nodes_fit
    (with_columns no_node (assigns ts n) (places p k)) A.tables p A.outer A.args)
    (equal_true (tree_width t) k (s.wide (reading env)))
    (and_true (tree_fits t A.tables (n ∷ A.outer) A.args) _
    (s.fits (reading env) (n ∷ A.outer) A.args (reading_fits A env n q))
    (with_more A no_node (assigns ts n) (places p k) p k (assigns_long ts n) refl
    (assigns_right A ts n p (omega arith)) (places_fit p k (p + k) (omega arith)))))
    (more_width no_node (assigns ts n) (places p k) p k (assigns_long ts n)) refl
    (targets_right A ts env n (p + k) p (suc (p + k)) q.rising (omega arith) (omega arith)
    (omega arith))
into_fits A query ts s cs h env here next n q (Some a) f c =
    let k = length ts in let l = a.list n in let m = n + length a.aggregates in let p =
    width l.nodes m in let is = n ∷ places p k in let ss = assigns_if is ts p in
    let behind = extend_by l.scalars (with_columns no_node ss (places (p + k) k)) in
    let wm = width_more l.nodes m in let above = f.3 in let lc = c n in
    let here_fits : columns_fit is (p + k) ≡ true = and_true (less n (p + k))
    (columns_fit (places p k) (p + k)) (lt_less n (p + k) (omega arith))
    (places_fit p k (p + k) (omega arith)) in
    let wide : p + scalar_count l.scalars ≡ p + k = ap (λ (i : ℕ). p + i) lc in
    one_fits A cs h env here next n q (apply_by (constant (Truth true)) (aggregate a.aggregates)
    anew a.input (joined_nodes l.nodes behind)) ((p + k) + k) (tag here)
    (target_stores ts env n ((p + k) + k) (p + k)) (omega arith)
    (and_true (true && kind_fits (aggregate a.aggregates) (tree_width a.input) (n ∷ A.outer) A.args)
    (tree_fits a.input A.tables (n ∷ A.outer) A.args && nodes_fit (joined_nodes l.nodes behind)
    A.tables m A.outer A.args)
    f.0
    (and_true (tree_fits a.input A.tables (n ∷ A.outer) A.args) _ f.1
    (join_fits l.nodes behind A.tables m A.outer A.args f.2.0
    (and_true (scalars_fit l.scalars (p ∷ A.outer) A.args) _ f.2.1
    (ap (λ (i : ℕ). nodes_fit (with_columns no_node ss (places (p + k) k)) A.tables i A.outer
    A.args) wide
    ∙ with_more A no_node ss (places (p + k) k) (p + k) k (ifs_long is ts p) refl
    (ifs_right A is ts p (p + k) here_fits (omega arith))
    (places_fit (p + k) k ((p + k) + k) (omega arith)))))))
    (width_join l.nodes behind m ∙ (ap (λ (i : ℕ). width
    (with_columns no_node ss (places (p + k) k)) i) wide ∙ more_width no_node ss (places (p + k) k)
    (p + k) k (ifs_long is ts p)))
    refl (targets_right A ts env n ((p + k) + k) (p + k) (suc ((p + k) + k)) q.rising (omega arith)
    (omega arith) (omega arith))

perhaps_fits : (A : Around) (p : Perhaps) → PerhapsHolds p (ValueFits A.tables) → (env : Env)
    (n : ℕ) →
    Placed env n → Fit (perhaps_emitted p A.tables env n) A.tables n A.outer A.args
perhaps_fits A Without s env n q = (refl, refl)
perhaps_fits A (With e) s env n q = expr_right A e s env n q

signal_fits : (A : Around) (state : List ℕ) (text : Perhaps) → PerhapsHolds text
    (ValueFits A.tables) →
    (cs : Codes) → CodesFit A cs → EmitFits A (emit_signal state text A.tables cs)
signal_fits A state text s cs h env here next n q =
    let a = perhaps_emitted text A.tables env n in let p = width a.nodes n in let f = perhaps_fits A
    text s env n q in
    raise_fits A cs h env here next n q (with_column a.nodes (push state a.scalar (constant Null)))
    p (width_more a.nodes n)
    (with_one A a.nodes (push state a.scalar (constant Null)) n f.0
    (two_right A a.scalar (constant Null) p f.1 refl))
    (one_width a.nodes (push state a.scalar (constant Null)) n)

constant_fits : (A : Around) (s : Scalar) (n : ℕ) → ((m : ℕ) → Right A s m) → (cs : Codes) →
    CodesFit A cs → (env : Env) (here next : ℕ) → Placed env n →
    Fits A (one_raise cs env here next n (with_column no_node s) n) n n
constant_fits A s n r cs h env here next q = raise_fits A cs h env here next n q
    (with_column no_node s) n (omega arith) (with_one A no_node s n refl (r n))
    (one_width no_node s n)

again_right : (A : Around) (state : Option (List ℕ)) (text : Perhaps) (s : Scalar) (c m : ℕ) →
    c < m → Right A s m → Right A (again state text s c) m
again_right A None Without s c m h r = one_word A (on_condition raise_word) c m h
again_right A None (With e) s c m h r = two_right A s (col c) m r (column_right A c m h)
again_right A (Some state) Without s c m h r = two_right A s (col c) m r (column_right A c m h)
again_right A (Some state) (With e) s c m h r = two_right A s (col c) m r (column_right A c m h)

again_fits : (A : Around) (es : Option ℕ) (state : Option (List ℕ)) (text : Perhaps) → PerhapsHolds
    text (ValueFits A.tables) → (cs : Codes) → CodesFit A cs → (env : Env) (here next n : ℕ) →
    Placed env n →
    StackedBelow es n →
    Fits A (emit_again es state text A.tables cs env here next n) n n
again_fits A None state text s cs h env here next n q b = constant_fits A not_active_cell n
    (λ m. refl) cs h env here next q
again_fits A (Some c) state text s cs h env here next n q b =
    let a = perhaps_emitted text A.tables env n in let p = width a.nodes n in let f = perhaps_fits A
    text s env n q in let wm = width_more a.nodes n in
    raise_fits A cs h env here next n q (with_column a.nodes (again state text a.scalar c)) p wm
    (with_one A a.nodes (again state text a.scalar c) n f.0
    (again_right A state text a.scalar c p (omega arith) f.1))
    (one_width a.nodes (again state text a.scalar c) n)

statement_right : (A : Around) (item : StatementItem) (c m : ℕ) → c < m →
    Right A (statement_cell item c) m
statement_right A Number c m h = one_word A (on_condition number_word) c m h
statement_right A RowCount c m h = refl

statements_right : (A : Around) (reads : List StatementRead) (c m : ℕ) → c < m →
    AllRight A (statement_cells reads c) m
statements_right A [] c m h = refl
statements_right A (r ∷ rs) c m h = more_right A
    (assigning r.target.data_type (statement_cell r.item c)) (statement_cells rs c) m
    (assigning_right A r.target.data_type (statement_cell r.item c) m
    (statement_right A r.item c m h)) (statements_right A rs c m h)

statements_long : (reads : List StatementRead) (c : ℕ) → scalar_count (statement_cells reads c)
    ≡ length reads
statements_long [] c = refl
statements_long (r ∷ rs) c = ap suc (statements_long rs c)

reads_long : (reads : List StatementRead) → length (statement_targets reads) ≡ length reads
reads_long [] = refl
reads_long (r ∷ rs) = ap suc (reads_long rs)

statement_fits : (A : Around) (es : Option ℕ) (reads : List StatementRead) (cs : Codes) →
    CodesFit A cs → (env : Env) (here next n : ℕ) → Placed env n → StackedBelow es n →
    Fits A (emit_statement_items es reads cs env here next n) n n
statement_fits A None reads cs h env here next n q b = constant_fits A not_stacked_cell n
    (λ m. refl) cs h env here next q
statement_fits A (Some c) reads cs h env here next n q b =
    let k = length reads in let l = reads_long reads in
    one_fits A cs h env here next n q (with_columns no_node (statement_cells reads c) (places n k))
    (n + k) (tag here) (target_stores (statement_targets reads) env n (n + k) n) (omega arith)
    (with_more A no_node (statement_cells reads c) (places n k) n k (statements_long reads c) refl
    (statements_right A reads c n b) (places_fit n k (n + k) (omega arith)))
    (more_width no_node (statement_cells reads c) (places n k) n k (statements_long reads c)) refl
    (targets_right A (statement_targets reads) env n (n + k) n (suc (n + k)) q.rising (omega arith)
    (omega arith) (omega (arith, l)))

conditions_right : (A : Around) (reads : List ConditionRead) (i c m : ℕ) → i < m → c < m →
    AllRight A (condition_cells reads i c) m
conditions_right A [] i c m h g = refl
conditions_right A (r ∷ rs) i c m h g =
    more_right A (assigning r.target.data_type (item_cell (word_of r.item) i c))
    (condition_cells rs i c) m
    (assigning_right A r.target.data_type (item_cell (word_of r.item) i c) m
    (two_right A (col i) (col c) m (column_right A i m h) (column_right A c m g)))
    (conditions_right A rs i c m h g)

conditions_long : (reads : List ConditionRead) (i c : ℕ) → scalar_count (condition_cells reads i c)
    ≡ length reads
conditions_long [] i c = refl
conditions_long (r ∷ rs) i c = ap suc (conditions_long rs i c)

condition_reads_long : (reads : List ConditionRead) → length (condition_targets reads) ≡ length
    reads
condition_reads_long [] = refl
condition_reads_long (r ∷ rs) = ap suc (condition_reads_long rs)

condition_fits : (A : Around) (es : Option ℕ) (number : ValueLeaf) → ValueFits A.tables number →
    (reads : List ConditionRead) (cs : Codes) → CodesFit A cs → (env : Env) (here next n : ℕ) →
    Placed env n → StackedBelow es n →
    Fits A (emit_condition_items es number reads A.tables cs env here next n) n n
condition_fits A None number s reads cs h env here next n q b = constant_fits A not_stacked_cell n
    (λ m. refl) cs h env here next q
condition_fits A (Some c) number s reads cs h env here next n q b =
    let a = emitted number A.tables env n in let i = width a.nodes n in let k =
    suc (length reads) in let f = expr_right A number s env n q in let wm = width_more a.nodes
    n in
    let pre = with_column a.nodes a.scalar in let ss = more (item_cell state_item i c)
    (condition_cells reads i c) in let l = condition_reads_long reads in
    let w1 = one_width a.nodes a.scalar n in
    one_fits A cs h env here next n q (with_columns pre ss (places (suc i) k)) (suc i + k)
    (tag here) (target_stores (condition_targets reads) env n (suc i + k) (suc (suc i)))
    (omega arith)
    (with_more A pre ss (places (suc i) k) n k (ap suc (conditions_long reads i c))
    (with_one A a.nodes a.scalar n f.0 f.1)
    (ap (λ (j : ℕ). scalars_fit ss (j ∷ A.outer) A.args) w1
    ∙ more_right A (item_cell state_item i c) (condition_cells reads i c) (suc i)
    (two_right A (col i) (col c) (suc i) (column_right A i (suc i) (omega arith))
    (column_right A c (suc i) (omega arith)))
    (conditions_right A reads i c (suc i) (omega arith) (omega arith)))
    (ap (λ (j : ℕ). columns_fit (places (suc i) k) (j + k)) w1 ∙ places_fit (suc i) k (suc i + k)
    (omega arith)))
    (more_width pre ss (places (suc i) k) n k (ap suc (conditions_long reads i c))
    ∙ ap (λ (j : ℕ). suc (j + k)) w1) refl
    (targets_right A (condition_targets reads) env n (suc i + k) (suc (suc i)) (suc (suc i + k))
    q.rising (omega arith) (omega arith) (omega (arith, l)))

-- ---- tests

and_on_fits : (A : Around) (lo : ℕ) (body : Emit) → EmitFits A body → RestFits A lo (and_on body)
and_on_fits A lo body b env from here base free n l q =
    fits_append A (body env from free n) (jump from here n ∷ []) n n n (b env from free n q)
    (jump_fits A from here n n [] (let h3 = rising_below 3 env.columns n q.rising in
    omega arith) refl)

not_found_fits : (A : Around) (lo : ℕ) (cs : Codes) → RestFits A lo (not_found cs)
not_found_fits A lo cs env from here base free n l q =
    let h3 = rising_below 3 env.columns n q.rising in
    then_fits A from (with_column no_node case_not_found_cell) (suc n)
    (raising_to cs env base here n) n n [] (omega arith) (omega arith)
    (with_one A no_node case_not_found_cell n refl refl) (one_width no_node case_not_found_cell n)
    (raising_right A cs env base here n (suc n) (omega arith) (omega arith)) refl

branching_fits : (A : Around) (lo : ℕ) (test : Env → ℕ → Emitted) →
    ((env : Env) (n : ℕ) → lo ≤ n → Placed env n → Fit (test env n) A.tables n A.outer A.args) →
    (cs : Codes) (body : Emit) → EmitFits A body → (rest : Rest) → RestFits A lo rest →
    RestFits A lo (branching test cs body rest)
branching_fits A lo test t cs body b rest r env from here base free n l q =
    let h3 = rising_below 3 env.columns n q.rising in
    let a = test env n in let p = width a.nodes n in let f = t env n l q in let wm =
    width_more a.nodes n in
    then_fits A from (with_column a.nodes a.scalar) (suc p)
    (judging (case_of (col p) (tag free) (tag (suc free))) cs env base here p []) n n
    (body env free (suc (suc free)) n ++ jump free here n ∷ rest env (suc free) here base
    (suc (suc free)) n) (omega arith) (omega arith)
    (with_one A a.nodes a.scalar n f.0 f.1) (one_width a.nodes a.scalar n)
    (judging_right A (case_of (col p) (tag free) (tag (suc free))) cs env base here p [] (suc p)
    (omega arith) (omega arith) (case_right A (col p) (tag free) (tag (suc free)) (suc p)
    (column_right A p (suc p) (omega arith)) refl refl) tt)
    (fits_append A (body env free (suc (suc free)) n)
    (jump free here n ∷ rest env (suc free) here base (suc (suc free)) n) n n n
    (b env free (suc (suc free)) n q)
    (jump_fits A free here n n (rest env (suc free) here base (suc (suc free)) n) (omega arith)
    (r env (suc free) here base (suc (suc free)) n l q)))

equal_fits : (A : Around) (m : ℕ) (e : ValueLeaf) → ValueFits A.tables e → (env : Env) (n : ℕ) → suc
    m ≤ n →
    Placed env n → Fit (equal_to m (emitted e A.tables env n)) A.tables n A.outer A.args
equal_fits A m e s env n l q =
    let a = emitted e A.tables env n in let f = expr_right A e s env n q in let wm =
    width_more a.nodes n in (
      f.0,
      two_right A (col m) a.scalar (width a.nodes n)
          (column_right A m (width a.nodes n) (omega arith)) f.1,
    )

-- ---- compound statements

within_placed : (env : Env) (n k : ℕ) → Placed env n → Placed (with_variables env n k) (n + k)
within_placed env n k p = record {
  rising = rising_append 3 env.columns n k p.rising;
  stacked =
      below env.stacked p.stacked;
}
  where
    below : (es : Option ℕ) → StackedBelow es n → StackedBelow es (n + k)
    below None h = tt
    below (Some c) h = omega arith

nulls_right : (A : Around) (t : SqlType) (k m : ℕ) → AllRight A (null_scalars t k) m
nulls_right A t zero m = refl
nulls_right A t (suc k) m = more_right A (null_of t) (null_scalars t k) m refl (nulls_right A t k m)

nulls_long : (t : SqlType) (k : ℕ) → scalar_count (null_scalars t k) ≡ k
nulls_long t zero = refl
nulls_long t (suc k) = ap suc (nulls_long t k)

same_fit : (k p m : ℕ) → p < m → columns_fit (replicate k p) m ≡ true
same_fit zero p m h = refl
same_fit (suc k) p m h = and_true (less p m) (columns_fit (replicate k p) m) (lt_less p m h)
    (same_fit k p m h)

declares_fit : (A : Around) (vs : Variables) → VariablesHold vs (ValueFits A.tables) → (cs : Codes)
    (env : Env) (from here base free n : ℕ) → Placed env n →
    Fits A (emit_declares vs A.tables cs env from here base free n) n (n + variable_count vs)
declares_fit A NoVariable s cs env from here base free n q = (let e : n ≡ n + 0 = omega arith in e)
declares_fit A (MoreVariables k t Without others) s cs env from here base free n q = (
  nulls_right A t k n,
  (
    n + k,
    ap (λ (i : ℕ). n + i) (nulls_long t k),
    moved (declares_fit A others s.1 cs (with_variables env n k) from here base free (n + k)
        (within_placed env n k q)),
  ),
)
  where
    moved : Fits A (emit_declares others A.tables cs (with_variables env n k) from here base free
        (n + k)) (n + k) ((n + k) + variable_count others) →
        Fits A (emit_declares others A.tables cs (with_variables env n k) from here base free
        (n + k)) (n + k) (n + (k + variable_count others))
    moved f = subst (λ (i : ℕ). Fits A (emit_declares others A.tables cs (with_variables env n k)
        from here base free (n + k)) (n + k) i)
        (let e : (n + k) + variable_count others ≡ n + (k + variable_count others) = omega arith in
        e) f
declares_fit A (MoreVariables k t (With e) others) s cs env from here base free n q =
    let h3 = rising_below 3 env.columns n q.rising in
    let a = emitted e A.tables env n in let p = width a.nodes n in let f = expr_right A e s.0 env n
    q in let wm = width_more a.nodes n in
    let st = acts_fits A from (with_column a.nodes (assigned_as t a.scalar)) (suc p)
    (judging (tag from) cs env base here p []) n (replicate k p) (omega arith) (omega arith)
    (with_one A a.nodes (assigned_as t a.scalar) n f.0 (more_right A a.scalar none p f.1 refl))
    (one_width a.nodes (assigned_as t a.scalar) n)
    (judging_right A (tag from) cs env base here p [] (suc p) (omega arith) (omega arith) refl tt)
    (same_fit k p (suc p) (omega arith)) in (
      st.0,
      (
        n + k,
        st.1 ∙ ap (λ (i : ℕ). n + i) (length-replicate k p),
        moved (declares_fit A others s.1 cs (with_variables env n k) from here base free (n + k)
            (within_placed env n k q)),
      ),
    )
  where
    moved : Fits A (emit_declares others A.tables cs (with_variables env n k) from here base free
        (n + k)) (n + k) ((n + k) + variable_count others) →
        Fits A (emit_declares others A.tables cs (with_variables env n k) from here base free
        (n + k)) (n + k) (n + (k + variable_count others))
    moved f = subst (λ (i : ℕ). Fits A (emit_declares others A.tables cs (with_variables env n k)
        from here base free (n + k)) (n + k) i)
        (let e : (n + k) + variable_count others ≡ n + (k + variable_count others) = omega arith in
        e) f

ending_fits : (A : Around) (own : List Coded) → HandlersFit A own →
    (env : Env) (exit first free n : ℕ) → Placed env n → Fits A (ending own env exit first free n) n
    (ending_width own n)
ending_fits A [] h env exit first free n q = refl
ending_fits A (c ∷ cs) h env exit first free n q =
    let h3 = rising_below 3 env.columns n q.rising in
    let arms = scope_arms its_own (c ∷ cs) first 2 (only (tag (env.exits env.level))) in
    then_fits A exit no_node n (store 0 (word case_word arms) ∷ []) n (suc n)
    (grow (only (col 2)) ∷ scope_actions whatever (c ∷ cs)
    (action_env env env.level (length env.columns) n) first free (suc n)) (omega arith)
    (omega arith) refl refl (
      (
        scope_arms_right A its_own (c ∷ cs) first 2 (only (tag (env.exits env.level))) n
            (omega arith)
            (more_right A (tag (env.exits env.level)) none n refl refl),
        omega arith,
      ),
      tt,
    ) (
      more_right A (col 2) none n (column_right A 2 n (omega arith)) refl,
      (
        suc n,
        (let e : n + 1 ≡ suc n = omega arith in e),
        scope_fits A whatever (λ kind ss m f. f)
            (c ∷ cs) h (action_env env env.level (length env.columns) n) first free (suc n)
            (action_placed env env.level (length env.columns) n q),
      ),
    )

whole_fits : (A : Around) (whole atomic : Bool) (cs : Codes) → CodesFit A cs →
    (env : Env) (sealing here base free n : ℕ) → Placed env n →
    Fits A (whole_raise whole atomic cs env sealing here base free n) n n
whole_fits A false atomic cs h env sealing here base free n q = refl
whole_fits A true false cs h env sealing here base free n q = handled_fits A cs h env here base free
    n q
whole_fits A true true cs h env sealing here base free n q =
    let h3 = rising_below 3 env.columns n q.rising in
    then_fits A sealing no_node n (store 0 (word case_word (dispatch cs env base here 2)) ∷ []) n n
    (handled cs env here base free n) (omega arith) (omega arith) refl refl
    ((dispatch_right A cs env base here 2 n (omega arith), omega arith), tt)
    (handled_fits A cs h env here base free n q)

scopes_fit : (A : Around) (atomic : Bool) (cs : Codes) → CodesFit A cs →
    CodesFit A (scopes_in atomic cs)
scopes_fit A true cs h = tt
scopes_fit A false cs h = h

ending_above : (own : List Coded) (n m : ℕ) → n ≤ m → n ≤ ending_width own m
ending_above [] n m h = h
ending_above (c ∷ cs) n m h = omega arith

wider_placed : (env : Env) (n : ℕ) → Placed env n → Placed env (suc n)
wider_placed env n p = record {
  rising = rising_more 3 env.columns n (suc n) p.rising (omega arith);
  stacked = below env.stacked p.stacked;
}
  where
    below : (es : Option ℕ) → StackedBelow es n → StackedBelow es (suc n)
    below None h = tt
    below (Some c) h = omega arith

mutual
  stmt_fits : (s : Stmt) (A : Around) → Holds s (ValueFits A.tables) (QueryFits A.tables) →
      (cs : Codes) → CodesFit A cs →
      EmitFits A (emit s A.tables cs)
  stmt_fits (Compound atomic variables handlers body) A s cs h = λ env here next n q.
      let S = A.tables in let own = coded handlers S (scopes_in atomic cs) in
      let good : HandlersFit A own = coded_fits handlers A s.1 (scopes_in atomic cs)
      (scopes_fit A atomic cs h) in
      let sealing = next + count cs in let exit = suc sealing in let runs = suc exit in let first =
      suc runs in let free = first + length own in
      let k = variable_count variables in let m = n + k in let W = with_variables env n k in
      let inner : Codes = record { handlers = own; level = env.level; variables = length W.columns }
      ∷ scopes_in atomic cs in
      let I = inside atomic own W here exit sealing in let N = ending_env atomic W here sealing in
      let raise = whole_raise (atomic || has_default variables) atomic cs env sealing here next free
      n in
      let last = joins runs (suc (length own)) here (ending_width own m) n in
      let pw = within_placed env n k q in
      let pI : Placed I m = record { rising = pw.rising; stacked = pw.stacked } in let pN : Placed N
      m = record { rising = pw.rising; stacked = pw.stacked } in
      let h3 = rising_below 3 env.columns n q.rising in
      let j = joins_fit A runs (suc (length own)) here (ending_width own m) n (omega arith)
      (ending_above own n m (omega arith)) in
      jump_fits A here runs n n (emit_declares variables S cs env runs here next free n
      ++ (emit_all body S inner I runs free m ++ (ending own N exit first free m ++ last ∷ raise)))
      (omega arith)
      (fits_append A (emit_declares variables S cs env runs here next free n)
      (emit_all body S inner I runs free m ++ (ending own N exit first free m ++ last ∷ raise)) n m
      n (declares_fit A variables s.0 cs env runs here next free n q)
      (fits_append A (emit_all body S inner I runs free m)
      (ending own N exit first free m ++ last ∷ raise) m m n
      (stmts_fits body A s.2 inner (good, scopes_fit A atomic cs h) I runs free m pI)
      (fits_append A (ending own N exit first free m) (last ∷ raise) m (ending_width own m) n
      (ending_fits A own good N exit first free m pN) (
        j.0,
        (
          n,
          j.1,
          whole_fits A (atomic || has_default variables) atomic cs h env sealing here
              next free n q,
        ),
      ))))
  stmt_fits (If branches otherwise) A s cs h = λ env here next n q.
      fits_append A (emit_branches branches A.tables cs (and_on (emit_all otherwise A.tables cs))
      env here here next (next + count cs) n) (handled cs env here next (next + count cs) n) n n n
      (branches_fits branches A 0 s.0 cs h (and_on (emit_all otherwise A.tables cs))
      (and_on_fits A 0 (emit_all otherwise A.tables cs) (stmts_fits otherwise A s.1 cs h)) env here
      here next (next + count cs) n (omega arith) q)
      (handled_fits A cs h env here next (next + count cs) n q)
  stmt_fits (SearchedCase branches otherwise) A s cs h = λ env here next n q.
      fits_append A (emit_branches branches A.tables cs (emit_else otherwise A.tables cs) env here
      here next (next + count cs) n) (handled cs env here next (next + count cs) n) n n n
      (branches_fits branches A 0 s.0 cs h (emit_else otherwise A.tables cs)
      (else_fits otherwise A 0 s.1 cs h) env here here next (next + count cs) n (omega arith) q)
      (handled_fits A cs h env here next (next + count cs) n q)
  stmt_fits (SimpleCase e branches otherwise) A s cs h = λ env here next n q.
      let a = emitted e A.tables env n in let p = width a.nodes n in let f = expr_right A e s.0 env
      n q in let start = next + count cs in let wm = width_more a.nodes n in
      let h3 = rising_below 3 env.columns n q.rising in
      let st = acts_fits A here (with_column a.nodes a.scalar) (suc p)
      (judging (tag start) cs env next here p []) n (p ∷ []) (omega arith) (omega arith)
      (with_one A a.nodes a.scalar n f.0 f.1) (one_width a.nodes a.scalar n)
      (judging_right A (tag start) cs env next here p [] (suc p) (omega arith) (omega arith) refl
      tt) (and_true (less p (suc p)) true (lt_less p (suc p) (omega arith)) refl) in
      let rest = emit_matching branches n A.tables cs (emit_else otherwise A.tables cs) in
      let wider : Placed env (suc n) = wider_placed env n q in (
        st.0,
        (
          suc n,
          st.1 ∙ (let e : n + 1 ≡ suc n = omega arith in e),
          fits_append A (rest env start here next (suc start) (suc n))
              (fat no_node (places 0 n) ∷ handled cs env here next (suc start) n) (suc n) (suc n) n
              (matching_fits branches A n s.1 cs h (emit_else otherwise A.tables cs)
              (else_fits otherwise A (suc n) s.2 cs h) env start here next (suc start) (suc n)
              (omega arith) wider) (
                (refl, places_fit 0 n (suc n) (omega arith)),
                (n, places_count 0 n, handled_fits A cs h env here next (suc start) n q),
              ),
        ),
      )
  stmt_fits (Set t e) A s cs h = set_fits_all A t e s cs h
  stmt_fits (SelectInto query targets) A s cs h = λ env here next n q.
      into_fits A query targets s cs h env here next n q (query.folded A.tables (reading env))
      (s.folds (reading env) n A.outer A.args (reading_fits A env n q))
      (s.counted (reading env))
  stmt_fits (Signal state text) A s cs h = signal_fits A state text s cs h
  stmt_fits (Resignal state text) A s cs h = λ env here next n q. again_fits A env.stacked state
      text s cs h env here next n q q.stacked
  stmt_fits (GetStatementItems reads) A s cs h = λ env here next n q. statement_fits A env.stacked
      reads cs h env here next n q q.stacked
  stmt_fits (GetConditionItems number reads) A s cs h = λ env here next n q. condition_fits A
      env.stacked number s reads cs h env here next n q q.stacked
  stmt_fits (Leave outwards) A s cs h = λ env here next n q. jump_fits A here
      (env.labels (env.level - suc outwards)) n n []
      (let h3 = rising_below 3 env.columns n q.rising in omega arith) refl
  stmt_fits (Return e) A s cs h = return_fits_all A e s cs h

  stmts_fits : (ss : Stmts) (A : Around) → AllHold ss (ValueFits A.tables) (QueryFits A.tables) →
      (cs : Codes) → CodesFit A cs →
      EmitFits A (emit_all ss A.tables cs)
  stmts_fits NoStmt A s cs h = λ env here next n q. refl
  stmts_fits (MoreStmts x xs) A s cs h = λ env here next n q.
      fits_append A (emit x A.tables cs env here next n) (emit_all xs A.tables cs env here next n) n
      n n (stmt_fits x A s.0 cs h env here next n q) (stmts_fits xs A s.1 cs h env here next n q)

  else_fits : (ss : Stmts) (A : Around) (lo : ℕ) → AllHold ss (ValueFits A.tables)
      (QueryFits A.tables) → (cs : Codes) →
      CodesFit A cs → RestFits A lo (emit_else ss A.tables cs)
  else_fits NoStmt A lo s cs h = not_found_fits A lo cs
  else_fits (MoreStmts x xs) A lo s cs h =
      and_on_fits A lo (λ env here next n. emit x A.tables cs env here next n ++ emit_all xs
      A.tables cs env here next n)
      (λ env here next n q. fits_append A (emit x A.tables cs env here next n)
      (emit_all xs A.tables cs env here next n) n n n (stmt_fits x A s.0 cs h env here next n q)
      (stmts_fits xs A s.1 cs h env here next n q))

  branches_fits : (bs : Branches) (A : Around) (lo : ℕ) → BranchesHold bs (ValueFits A.tables)
      (QueryFits A.tables) →
      (cs : Codes) → CodesFit A cs → (rest : Rest) → RestFits A lo rest → RestFits A lo
      (emit_branches bs A.tables cs rest)
  branches_fits NoBranch A lo s cs h rest r = r
  branches_fits (MoreBranches test body others) A lo s cs h rest r =
      branching_fits A lo (emitted test A.tables) (λ env n l q. expr_right A test s.0 env n q) cs
      (emit_all body A.tables cs) (stmts_fits body A s.1 cs h)
      (emit_branches others A.tables cs rest) (branches_fits others A lo s.2 cs h rest r)

  matching_fits : (bs : Branches) (A : Around) (m : ℕ) → BranchesHold bs (ValueFits A.tables)
      (QueryFits A.tables) → (cs : Codes) →
      CodesFit A cs → (rest : Rest) → RestFits A (suc m) rest → RestFits A (suc m)
      (emit_matching bs m A.tables cs rest)
  matching_fits NoBranch A m s cs h rest r = r
  matching_fits (MoreBranches e body others) A m s cs h rest r =
      branching_fits A (suc m) (λ env n. equal_to m (emitted e A.tables env n))
      (λ env n l q. equal_fits A m e s.0 env n l q) cs (emit_all body A.tables cs)
      (stmts_fits body A s.1 cs h) (emit_matching others m A.tables cs rest)
      (matching_fits others A m s.2 cs h rest r)

  coded_fits : (hs : Handlers) (A : Around) → HandlersHold hs (ValueFits A.tables)
      (QueryFits A.tables) → (cs : Codes) →
      CodesFit A cs → HandlersFit A (coded hs A.tables cs)
  coded_fits NoHandler A s cs h = tt
  coded_fits (MoreHandlers kind takes action others) A s cs h =
      (stmt_fits action A s.0 cs h, coded_fits others A s.1 cs h)

-- The plan is well formed under rows outside of any widths and for any number of arguments, where
-- the plans of the leaves fit, and the scalars that read the parameters do.
pub well_formed : (r : Routine) (S : Widths) (params : Scalars) (ws : List ℕ) (ps : ℕ) →
    RoutineFits S r → scalars_fit params (0 ∷ ws) ps ≡ true →
    scalar_count params ≡ length (parameters_of r) →
    tree_fits (inline_with r S params) S ws ps ≡ true
well_formed (Body types returns body) S params ws ps s p c =
    let A : Around = record { tables = S; outer = ws; args = ps } in let k = length types in let n =
    3 + k in
    let first = extend (first_cells returns params) unit_row in
    let wide : tree_width first ≡ n = (let e : 0 + suc (suc (suc (scalar_count params))) ≡ 3 + k =
    omega (arith, c) in e) in
    let q : Placed (top k) n = record {
      rising = rising_append 3 [] 3 k (omega arith);
      stacked =
          tt;
    } in
    let t = steps_fit A (emit body S [] (top k) 3 4 n) first n n wide
    (and_true (scalars_fit (first_cells returns params) (0 ∷ ws) ps) true
    (more_right A (tag 3) (more (null_of returns) (more (constant (Truth false)) params)) 0 refl
    (more_right A (null_of returns) (more (constant (Truth false)) params) 0 refl
    (more_right A (constant (Truth false)) params 0 refl p))) refl)
    (stmt_fits body A s [] tt (top k) 3 4 n q) in
    let body_tree = steps_tree (emit body S [] (top k) 3 4 n) first in
    and_true (columns_fit (n ∷ []) (tree_width body_tree + 1))
    (tree_fits (extend (only (last_cell returns)) body_tree) S ws ps)
    (and_true (less n (tree_width body_tree + 1)) true
    (ap (λ (i : ℕ). less n (i + 1)) t.1 ∙ lt_less n (n + 1) (omega arith)) refl)
    (and_true (scalars_fit (only (last_cell returns)) (tree_width body_tree ∷ ws) ps)
    (tree_fits body_tree S ws ps)
    (ap (λ (i : ℕ). scalars_fit (only (last_cell returns)) (i ∷ ws) ps) t.1 ∙ more_right A
    (last_cell returns) none n (last_right A returns n (omega arith)) refl) t.0)
  where
    last_right : (A : Around) (returns : SqlType) (m : ℕ) → 2 < m → Right A (last_cell returns) m
    last_right A returns m h =
        more_right A (code_is 0) (more (assigning returns (col 1))
        (more (code_is 1) (more raised_area (only without_return_cell)))) m
        (code_right A 0 m (omega arith))
        (more_right A (assigning returns (col 1))
        (more (code_is 1) (more raised_area (only without_return_cell))) m
        (assigning_right A returns (col 1) m (column_right A 1 m (omega arith)))
        (more_right A (code_is 1) (more raised_area (only without_return_cell)) m
        (code_right A 1 m (omega arith))
        (more_right A raised_area (only without_return_cell) m
        (two_right A (area_in 2) (constant Null) m (one_word A (strict NullTest) 2 m h) refl)
        refl)))
