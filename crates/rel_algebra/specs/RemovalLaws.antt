-- What holds of renaming and of the rules of removal.
use Rattle.std.specs.Prelude.{◌≡◌, ℕ, ◌<◌, ◌≤◌, true, List, [], ◌∷◌, ◌++◌, length}
use Rattle.sql_values.specs.declared.operators.Comparison.TheVariants.{Equals}
use Rattle.sql_values.specs.declared.value.Value.{Value}
use Rattle.sql_values.specs.declared.value.Value.TheVariants.{Null, Bool as Truth}
use Rattle.rel_algebra.specs.Endings.{op_value}
use Rattle.rel_algebra.specs.Tree.{Comparing}
use Rattle.sql_conditions.specs.Conditions.{Area}
use Rattle.row_types.specs.Cells.{PlanRow, Poisoned, Whole}
use Rattle.row_types.specs.declared.cell.Cell.{Cell}
use Rattle.row_types.specs.declared.cell.Cell.TheVariants.{Cond, Val}
use Rattle.rel_algebra.specs.Applies.{applies}
use Rattle.rel_algebra.specs.Staying.{NoneGoes, staying}
use Rattle.rel_algebra.specs.Even.{AllLong, IsEven, KindEven, PlacesIn, TablesEven}
use Rattle.rel_algebra.specs.Kinds.{Kinds, tree_good, tree_kinds}
use Rattle.rel_algebra.specs.Plain.{Inputs}
use Rattle.rel_algebra.specs.Plan.{Kind, Nodes, PlanTree, Scalar, added, anew, apply, apply_cells}
use Rattle.rel_algebra.specs.Plan.{cell_at, cells_at, cells_row, collapse, found, kept, lookup}
use Rattle.rel_algebra.specs.Plan.{strictly, meeting, sight, Sight, constant, den, extend, filter}
use Rattle.rel_algebra.specs.Plan.{keep, more, none, on_each, tree_width}
use Rattle.rel_algebra.specs.Remove.{remove}
use Rattle.rel_algebra.specs.Renaming.{Renaming, own_row, renamed_scalar, renamed_tree}
use Rattle.rel_algebra.specs.Removal.{all_removable, of_region, chained, is_region, tree_within}
use Rattle.rel_algebra.specs.Regions.{region}
use Rattle.rel_algebra.specs.WellFormed.{tree_fits}
use Rattle.rel_algebra.specs.Widening.{key_test, lookup_keys, lookup_plan, read_by, widened}

-- a renamed plan has the same rows where each renamed column holds what the column held
abbrev pub RenamedSame : Type 0
RenamedSame = (t : PlanTree) (names : Renaming) (w : Inputs) (b a : List (List Cell)) →
    ((level i : ℕ) → cell_at (cells_row b (names level i).0) (names level i).1
    ≡ cell_at (cells_row a level) i) →
    den (renamed_tree t names) w b ≡ den t w a

-- the rows of a plan are as long as the plan is wide
abbrev pub RowsLong : Type 0
RowsLong = (t : PlanTree) (S : List ℕ → ℕ) (w : Inputs) → TablesEven w S → IsEven t S →
    (o : List (List Cell)) → AllLong (tree_width t) (den t w o)

-- an equality with an outer scalar goes above nodes that add columns
abbrev pub LateRule : Type 0
LateRule = (nodes : Nodes) (k : ℕ × Scalar) (n : ℕ) (t : PlanTree) (w : Inputs)
    (o : List (List Cell)) → k.0 < n → AllLong n (den t w o) →
    den (on_each nodes (filter (key_test k) t)) w o
    ≡ den (filter (key_test k) (on_each nodes t)) w o

-- a Filter goes below a Keep
abbrev pub KeepRule : Type 0
KeepRule = (s : Scalar) (outs : List ℕ) (n : ℕ) (t : PlanTree) (w : Inputs) (o : List (List Cell)) →
    AllLong n (den t w o) →
    den (filter s (keep outs t)) w o
    ≡ den (keep outs (filter (renamed_scalar s (own_row outs n)) t)) w o

-- a Filter becomes a cell that is compared with TRUE and left out
abbrev pub CellRule : Type 0
CellRule = (s : Scalar) (outs : List ℕ) (n : ℕ) (t : PlanTree) (w : Inputs) (o : List (List Cell)) →
    AllLong n (den t w o) → PlacesIn outs n →
    den (keep outs (filter s t)) w o
    ≡ den (keep outs (filter (key_test (n, constant (Truth true))) (extend (more s none) t))) w o

-- the rules late, keep and cell hold
pub record LocalRules : Type 0 where
  -- nodes that add columns go below tests
  pub late : LateRule
  -- a Keep and a Filter change places
  pub keeping : KeepRule
  -- a test becomes a cell that is compared with TRUE
  pub cell : CellRule

-- what a Lookup means: the Apply of its inner plan, a Filter for each equality, and a Keep of the
-- columns that are no keys
abbrev pub LookupMeans : Type 0
LookupMeans = (when : Scalar) (kind : Kind) (keys : List (ℕ × Scalar)) (inner input : PlanTree)
    (w : Inputs) (o : List (List Cell)) →
    den (apply when kind (lookup keys) inner input) w o
    ≡ den (apply when kind anew (read_by keys inner) input) w o

-- an Apply of a chain is a Lookup of its wide plan
abbrev pub LookupRule : Type 0
LookupRule = (when : Scalar) (kind : Kind) (inner input : PlanTree) (S : List ℕ → ℕ) (w : Inputs) →
    TablesEven w S → IsEven inner S →
    chained inner ≡ true → (o : List (List Cell)) →
    den (apply when kind (lookup (lookup_keys (widened inner))) (lookup_plan (widened inner)) input)
    w o ≡ den (apply when kind anew inner input) w o

-- what a Lookup means, and that a chain becomes one
pub record LookupRules : Type 0 where
  -- a Lookup is an Apply with a Filter for each equality
  pub means : LookupMeans
  -- an Apply of a chain is a Lookup
  pub of_chain : LookupRule

-- an Apply of a chain over Unit is columns of its input
abbrev pub RegionRule : Type 0
RegionRule = (when : Scalar) (kind : Kind) (inner : PlanTree) (S : List ℕ → ℕ) → IsEven inner S →
    is_region inner ≡ true → of_region kind ≡ true →
    KindEven kind (tree_width inner) → (n : ℕ) (w : Inputs) (o : List (List Cell)) (r : List Cell) →
    length r ≡ n →
    cells_at (added (region when kind inner n).nodes w o r) (region when kind inner n).places
    ≡ apply_cells when kind (sight w o r) (den inner w (r ∷ o))

-- what removal makes of an even plan is even, and as wide
pub record KeptEven (t : PlanTree) (S : List ℕ → ℕ) : Type 0 where
  -- what is left is even
  pub even : IsEven (remove t) S
  -- and as wide
  pub wide : tree_width (remove t) ≡ tree_width t

-- for every even plan
abbrev pub RemovedEven : Type 0
RemovedEven = (t : PlanTree) (S : List ℕ → ℕ) → IsEven t S → KeptEven t S

-- an equal plan: the same rows in the same order, cells and poison
abbrev pub RemovedSame : Type 0
RemovedSame = (t : PlanTree) (S : List ℕ → ℕ) (w : Inputs) → TablesEven w S → IsEven t S →
    (o : List (List Cell)) → den (remove t) w o ≡ den t w o

-- what removal leaves
pub record Left (t : PlanTree) : Type 0 where
  -- no Apply that can be removed
  pub none_goes : NoneGoes (remove t)
  -- and no more Applies than could not be
  pub count : applies (remove t) ≤ staying t
  -- no outer column that the plan does not use
  pub within : (n : ℕ) → tree_within t n ≡ true → tree_within (remove t) n ≡ true
  -- a chain over Unit stays one, and a chain stays one
  pub region : is_region t ≡ true → is_region (remove t) ≡ true
  -- and a chain stays one
  pub chain : chained t ≡ true → chained (remove t) ≡ true

-- for every plan
abbrev pub RemovedLeaves : Type 0
RemovedLeaves = (t : PlanTree) → Left t

-- for tables of these widths, under outer rows of these widths and with so many arguments
abbrev pub RemovedFits : Type 0
RemovedFits = (t : PlanTree) (S : List ℕ → ℕ) (ws : List ℕ) (ps : ℕ) → tree_fits t S ws ps ≡ true →
    tree_fits (remove t) S ws ps ≡ true

-- no Apply is left of a plan whose Applies all pass the test, as those of a simple query's plan do
abbrev pub NoneLeft : Type 0
NoneLeft = (t : PlanTree) → all_removable t ≡ true → applies (remove t) ≡ 0

-- of a well-formed plan: for all tables whose rows have so many columns, and all outer rows and
-- arguments
abbrev pub RemovedMeans : Type 0
RemovedMeans = (t : PlanTree) (S : List ℕ → ℕ) (ws : List ℕ) (ps : ℕ) (w : Inputs) →
    tree_fits t S ws ps ≡ true → TablesEven w S →
    (o : List (List Cell)) → den (remove t) w o ≡ den t w o

-- whether a key column's cell equals that of the outer row
abbrev pub key_value : Cell → Cell → Cell
key_value own outer = strictly (op_value (Comparing Equals)) (own ∷ outer ∷ [])

-- what the code of Once and Lookup stands on
pub record RunOnce : Type 0 where
  -- the inner plan has the same rows for each outer row
  pub closed : (t : PlanTree) → tree_within t 0 ≡ true → (w : Inputs) (b a : List (List Cell)) →
      den t w b ≡ den t w a
  -- no row after the first poisoned one counts
  pub first_bad : (kind : Kind) (c : Cell) (keys : List (ℕ × Scalar)) (n : ℕ) (s : Sight)
      (xs ys : List PlanRow) (a : Area) →
      collapse kind c (found (lookup keys) n s (xs ++ Poisoned a ∷ ys))
      ≡ collapse kind c (found (lookup keys) n s (xs ++ Poisoned a ∷ []))
  -- a row whose first key column is a condition is as good as poisoned
  pub bad_key : (k : ℕ × Scalar) (keys : List (ℕ × Scalar)) (s : Sight) (xs ys : List PlanRow)
      (r : List Cell) (a : Area) → cell_at r k.0 ≡ Cond a →
      meeting (k ∷ keys) s (xs ++ Whole r ∷ ys) ≡ meeting (k ∷ keys) s (xs ++ Poisoned a ∷ ys)
  -- each row by itself
  pub each_row : (keys : List (ℕ × Scalar)) (s : Sight) (xs ys : List PlanRow) →
      meeting keys s (xs ++ ys) ≡ meeting keys s xs ++ meeting keys s ys
  -- at a key: the row's own condition, else the outer row's, raises; NULL on either side meets
  -- nothing
  pub own_condition : (a : Area) (u : Cell) (r : List Cell) → kept (key_value (Cond a) u) r
      ≡ Poisoned a ∷ []
  -- the outer row's condition raises where the row's own cell is a value
  pub outer_condition : (v : Value) (b : Area) (r : List Cell) → kept (key_value (Val v) (Cond b)) r
      ≡ Poisoned b ∷ []
  -- NULL in the outer row meets nothing
  pub outer_null : (v : Value) (r : List Cell) → kept (key_value (Val v) (Val Null)) r ≡ []
  -- nor does NULL in the row
  pub own_null : (u : Value) (r : List Cell) → kept (key_value (Val Null) (Val u)) r ≡ []

-- in the result each operand has its kind, and the columns are of the same kinds, for tables of
-- these kinds
abbrev pub RemovedKinds : Type 0
RemovedKinds = (t : PlanTree) (S : List ℕ → ℕ) (T : List ℕ → Kinds) →
    ((name : List ℕ) → length (T name) ≡ S name) → IsEven t S →
    (ks : List Kinds) (ps : Kinds) → tree_good t T ks ps ≡ true →
    (tree_good (remove t) T ks ps ≡ true) × (tree_kinds (remove t) T ks ps ≡ tree_kinds t T ks ps)
