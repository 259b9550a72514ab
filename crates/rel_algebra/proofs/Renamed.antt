-- A plan with renamed outer columns has the same rows, where each renamed column holds what the
-- column held.
use Rattle.std.proofs.Common.{◌≡◌, ℕ, zero, suc, ◌+◌, Bool, cond, ◌||◌, nat_eq, List, [], ◌∷◌, ◌++◌}
use Rattle.std.proofs.Common.{map, refl, ap, ◌∙◌, Ok, Err}
use Rattle.sql_values.specs.declared.operators.Comparison.TheVariants.{Equals}
use Rattle.row_types.specs.Cells.{PlanRow, Whole}
use Rattle.row_types.specs.Rows.{Row}
use Rattle.row_types.specs.declared.cell.Cell.{Cell}
use Rattle.row_types.specs.declared.cell.Cell.TheVariants.{Cond, Val}
use Rattle.rel_algebra.specs.Endings.{Ending, op_value}
use Rattle.rel_algebra.specs.Plain.{Inputs}
use Rattle.rel_algebra.specs.Plan.{Kind, Nodes, PlanTree, Scalar, Scalars, Way, added, aggregate}
use Rattle.rel_algebra.specs.Plan.{anew, applied, apply, apply_by, apply_cells, argument, cell_at}
use Rattle.rel_algebra.specs.Plan.{cell_of, cells_at, cells_of, cells_row, collapse, collapse_as}
use Rattle.rel_algebra.specs.Plan.{collected, column, constant, cross, crossed, den, each, exists}
use Rattle.rel_algebra.specs.Plan.{extend, extend_by, filter, found, group, grouped, has_key}
use Rattle.rel_algebra.specs.Plan.{joined, keep, kept, left_outer, list_rows, lookup, meeting}
use Rattle.rel_algebra.specs.Plan.{member, member_cell, more, no_node, none, once, other_places}
use Rattle.rel_algebra.specs.Plan.{scan, settle, settled, sight, single, sort, sorted, strictly}
use Rattle.rel_algebra.specs.Plan.{tree_width, unit_row, values, with_settled, word, word_cell}
use Rattle.rel_algebra.specs.Plan.{into}
use Rattle.rel_algebra.specs.Plan.{kind_width, scalar_count, lists_width}
use Rattle.rel_algebra.specs.Renaming.{Renaming, inside, renamed_keys, renamed_kind, renamed_lists}
use Rattle.rel_algebra.specs.Renaming.{renamed_nodes, renamed_scalar, renamed_scalars, renamed_tree}
use Rattle.rel_algebra.specs.Renaming.{renamed_way}
use Rattle.rel_algebra.specs.Theorem.{outside}
use Rattle.rel_algebra.specs.Tree.{Comparing}
use Rattle.rel_algebra.proofs.Truths.{both}

-- what the first stack holds by the new names, the second holds by the old ones
abbrev pub Tells : Renaming → List (List Cell) → List (List Cell) → Type 0
Tells names b a = (level i : ℕ) → cell_at (cells_row b (names level i).0) (names level i).1
    ≡ cell_at (cells_row a level) i

pub inside_tells : (names : Renaming) (b a : List (List Cell)) (row : List Cell) → Tells names b a →
    Tells (inside names) (row ∷ b) (row ∷ a)
inside_tells names b a row h zero i = refl
inside_tells names b a row h (suc level) i = h level i

mutual
  pub cell_renamed : (s : Scalar) (names : Renaming) (w : Inputs) (b a : List (List Cell)) →
      Tells names b a →
      cell_of (renamed_scalar s names) (outside w b) ≡ cell_of s (outside w a)
  cell_renamed (constant v) names w b a h = refl
  cell_renamed (column level i) names w b a h = h level i
  cell_renamed (argument i) names w b a h = refl
  cell_renamed (word x ss) names w b a h = ap (word_cell x) (cells_renamed ss names w b a h)

  pub cells_renamed : (ss : Scalars) (names : Renaming) (w : Inputs) (b a : List (List Cell)) →
      Tells names b a →
      cells_of (renamed_scalars ss names) (outside w b) ≡ cells_of ss (outside w a)
  cells_renamed none names w b a h = refl
  cells_renamed (more s ss) names w b a h =
      λ i. cell_renamed s names w b a h i ∷ cells_renamed ss names w b a h i

lists_renamed : (lists : List Scalars) (names : Renaming) (w : Inputs) (b a : List (List Cell)) →
    Tells names b a →
    list_rows (renamed_lists lists names) (outside w b) ≡ list_rows lists (outside w a)
lists_renamed [] names w b a h = refl
lists_renamed (ss ∷ lists) names w b a h =
    λ i. Whole (cells_renamed ss names w b a h i) ∷ lists_renamed lists names w b a h i

-- Widths.
pub count_renamed : (ss : Scalars) (names : Renaming) → scalar_count (renamed_scalars ss names)
    ≡ scalar_count ss
count_renamed none names = refl
count_renamed (more s ss) names = ap suc (count_renamed ss names)

lists_width_renamed : (lists : List Scalars) (names : Renaming) →
    lists_width (renamed_lists lists names) ≡ lists_width lists
lists_width_renamed [] names = refl
lists_width_renamed (ss ∷ lists) names = count_renamed ss names

pub kind_width_renamed : (kind : Kind) (names : Renaming) → kind_width (renamed_kind kind names)
    ≡ kind_width kind
kind_width_renamed single names = refl
kind_width_renamed exists names = refl
kind_width_renamed (member s) names = refl
kind_width_renamed (aggregate ags) names = refl
kind_width_renamed (into k) names = refl

pub width_renamed : (t : PlanTree) (names : Renaming) → tree_width (renamed_tree t names)
    ≡ tree_width t
width_renamed unit_row names = refl
width_renamed (scan name n) names = refl
width_renamed (values lists) names = lists_width_renamed lists (inside names)
width_renamed (extend ss input) names =
    λ i. width_renamed input names i + count_renamed ss (inside names) i
width_renamed (apply when kind way inner input) names =
    λ i. width_renamed input names i + kind_width_renamed kind (inside names) i
width_renamed (filter s input) names = width_renamed input names
width_renamed (keep is input) names = refl
width_renamed (cross a b) names = λ i. width_renamed a names i + width_renamed b names i
width_renamed (left_outer nodes s n a b) names = λ i. width_renamed a names i + n
width_renamed (settle input) names = width_renamed input names
width_renamed (group keys ags input) names = refl
width_renamed (sort keys input) names = width_renamed input names

-- What an Apply adds.
as_member : (s t : Scalar) (x : Cell) (e : Ending (List Row)) →
    collapse_as (member s) x e ≡ collapse_as (member t) x e
as_member s t (Val v) (Ok rs) = refl
as_member s t (Cond a) (Ok rs) = refl
as_member s t x (Err a) = refl

any_member : (s t : Scalar) (x : Cell) (rows : List PlanRow) →
    collapse (member s) x rows ≡ collapse (member t) x rows
any_member s t (Val v) rows = as_member s t (Val v) (collected rows)
any_member s t (Cond a) rows = refl

collapse_renamed : (kind : Kind) (names : Renaming) (w : Inputs) (b a : List (List Cell))
    (rows : List PlanRow) → Tells names b a →
    collapse (renamed_kind kind names) (member_cell (renamed_kind kind names) (outside w b)) rows
    ≡ collapse kind (member_cell kind (outside w a)) rows
collapse_renamed single names w b a rows h = refl
collapse_renamed exists names w b a rows h = refl
collapse_renamed (member s) names w b a rows h =
    ap (λ (x : Cell). collapse (member (renamed_scalar s names)) x rows)
    (cell_renamed s names w b a h)
    ∙ any_member (renamed_scalar s names) s (cell_of s (outside w a)) rows
collapse_renamed (aggregate ags) names w b a rows h = refl
collapse_renamed (into k) names w b a rows h = refl

pub apply_cells_renamed : (when : Scalar) (kind : Kind) (names : Renaming) (w : Inputs)
    (b a : List (List Cell)) (rows : List PlanRow) →
    Tells names b a →
    apply_cells (renamed_scalar when names) (renamed_kind kind names) (outside w b) rows
    ≡ apply_cells when kind (outside w a) rows
apply_cells_renamed when kind names w b a rows h =
    λ i. map (applied (cell_renamed when names w b a h i))
    (collapse_renamed kind names w b a rows h i)

has_key_renamed : (keys : List (ℕ × Scalar)) (names : Renaming) (j : ℕ) →
    has_key (renamed_keys keys names) j ≡ has_key keys j
has_key_renamed [] names j = refl
has_key_renamed (k ∷ keys) names j =
    ap (λ (b : Bool). nat_eq k.0 j || b) (has_key_renamed keys names j)

pub others_renamed : (keys : List (ℕ × Scalar)) (names : Renaming) (j n : ℕ) →
    other_places (renamed_keys keys names) j n ≡ other_places keys j n
others_renamed keys names j zero = refl
others_renamed keys names j (suc n) =
    λ i. cond (has_key_renamed keys names j i) (others_renamed keys names (suc j) n i)
    (j ∷ others_renamed keys names (suc j) n i)

meeting_renamed : (keys : List (ℕ × Scalar)) (names : Renaming) (w : Inputs)
    (b a : List (List Cell)) (rows : List PlanRow) → Tells names b a →
    meeting (renamed_keys keys names) (outside w b) rows ≡ meeting keys (outside w a) rows
meeting_renamed [] names w b a rows h = refl
meeting_renamed (k ∷ keys) names w b a rows h =
    let test : Cell → List PlanRow =
    λ c. each (λ r. kept (strictly (op_value (Comparing Equals)) (cell_at r k.0 ∷ c ∷ [])) r) rows
    in
    ap (λ (c : Cell). meeting (renamed_keys keys names) (outside w b) (test c))
    (cell_renamed k.1 names w b a h)
    ∙ meeting_renamed keys names w b a (test (cell_of k.1 (outside w a))) h

pub found_renamed : (way : Way) (names : Renaming) (n : ℕ) (w : Inputs) (b a : List (List Cell))
    (rows : List PlanRow) → Tells names b a →
    found (renamed_way way names) n (outside w b) rows ≡ found way n (outside w a) rows
found_renamed anew names n w b a rows h = refl
found_renamed once names n w b a rows h = refl
found_renamed (lookup keys) names n w b a rows h =
    λ i. each (λ r. Whole (cells_at r (others_renamed keys names 0 n i)) ∷ [])
    (meeting_renamed keys names w b a rows h i)

-- the same of a node whose inner plan has the same rows
pub node_renamed : (when : Scalar) (kind : Kind) (way : Way) (names : Renaming) (n n' : ℕ)
    (w : Inputs) (b a : List (List Cell))
    (rows rows' : List PlanRow) → Tells names b a → n' ≡ n → rows' ≡ rows →
    apply_cells (renamed_scalar when names) (renamed_kind kind names) (outside w b)
    (found (renamed_way way names) n' (outside w b) rows')
    ≡ apply_cells when kind (outside w a) (found way n (outside w a) rows)
node_renamed when kind way names n n' w b a rows rows' h e d =
    ap (apply_cells (renamed_scalar when names) (renamed_kind kind names) (outside w b))
    (both (λ (m : ℕ) (rs : List PlanRow). found (renamed_way way names) m (outside w b) rs) _ _ _ _
    e d
    ∙ found_renamed way names n w b a rows h)
    ∙ apply_cells_renamed when kind names w b a (found way n (outside w a) rows) h

-- a test over the row that nodes leave
test_renamed : (s : Scalar) (names : Renaming) (w : Inputs) (b a : List (List Cell)) →
    Tells names b a → (z z' : List Cell) → z' ≡ z →
    cell_of (renamed_scalar s (inside names)) (sight w b z') ≡ cell_of s (sight w a z)
test_renamed s names w b a h z z' e =
    ap (λ (y : List Cell). cell_of (renamed_scalar s (inside names)) (sight w b y)) e
    ∙ cell_renamed s (inside names) w (z ∷ b) (z ∷ a) (inside_tells names b a z h)

mutual
  pub den_renamed : (t : PlanTree) (names : Renaming) (w : Inputs) (b a : List (List Cell)) →
      Tells names b a →
      den (renamed_tree t names) w b ≡ den t w a
  den_renamed unit_row names w b a h = refl
  den_renamed (scan name n) names w b a h = refl
  den_renamed (values lists) names w b a h =
      lists_renamed lists (inside names) w ([] ∷ b) ([] ∷ a) (inside_tells names b a [] h)
  den_renamed (extend ss input) names w b a h =
      λ i. each (λ row. Whole (row ++ cells_renamed ss (inside names) w (row ∷ b) (row ∷ a)
      (inside_tells names b a row h) i) ∷ [])
      (den_renamed input names w b a h i)
  den_renamed (apply when kind way inner input) names w b a h =
      λ i. each (λ row. Whole (row ++ node_renamed when kind way (inside names) (tree_width inner)
      (tree_width (renamed_tree inner (inside names))) w
      (row ∷ b) (row ∷ a) (den inner w (row ∷ a))
      (den (renamed_tree inner (inside names)) w (row ∷ b)) (inside_tells names b a row h)
      (width_renamed inner (inside names)) (den_renamed inner (inside names) w (row ∷ b) (row ∷ a)
      (inside_tells names b a row h)) i) ∷ [])
      (den_renamed input names w b a h i)
  den_renamed (filter s input) names w b a h =
      λ i. each (λ row. kept (cell_renamed s (inside names) w (row ∷ b) (row ∷ a)
      (inside_tells names b a row h) i) row)
      (den_renamed input names w b a h i)
  den_renamed (keep is input) names w b a h =
      ap (each (λ row. Whole (cells_at row is) ∷ [])) (den_renamed input names w b a h)
  den_renamed (cross p q) names w b a h =
      λ i. with_settled (den_renamed p names w b a h i)
      (λ left. with_settled (den_renamed q names w b a h i) (crossed left))
  den_renamed (left_outer nodes s n p q) names w b a h =
      λ i. with_settled (den_renamed p names w b a h i)
      (λ left. with_settled (den_renamed q names w b a h i) (λ right.
      settled (joined n (λ row. test_renamed s names w b a h (added nodes w a row)
      (added (renamed_nodes nodes (inside names)) w b row)
      (added_renamed nodes names w b a h row) i) left right)))
  den_renamed (settle input) names w b a h = ap settled (den_renamed input names w b a h)
  den_renamed (group keys ags input) names w b a h =
      λ i. grouped keys ags (collected (den_renamed input names w b a h i))
  den_renamed (sort keys input) names w b a h =
      λ i. sorted keys (collected (den_renamed input names w b a h i))

  added_renamed : (nodes : Nodes) (names : Renaming) (w : Inputs) (b a : List (List Cell)) →
      Tells names b a → (row : List Cell) →
      added (renamed_nodes nodes (inside names)) w b row ≡ added nodes w a row
  added_renamed no_node names w b a h row = refl
  added_renamed (extend_by ss rest) names w b a h row =
      ap (λ (cs : List Cell). added (renamed_nodes rest (inside names)) w b (row ++ cs))
      (cells_renamed ss (inside names) w (row ∷ b) (row ∷ a) (inside_tells names b a row h))
      ∙ added_renamed rest names w b a h (row ++ cells_of ss (sight w a row))
  added_renamed (apply_by when kind way inner rest) names w b a h row =
      ap (λ (cs : List Cell). added (renamed_nodes rest (inside names)) w b (row ++ cs))
      (node_renamed when kind way (inside names) (tree_width inner)
      (tree_width (renamed_tree inner (inside names))) w
      (row ∷ b) (row ∷ a) (den inner w (row ∷ a))
      (den (renamed_tree inner (inside names)) w (row ∷ b)) (inside_tells names b a row h)
      (width_renamed inner (inside names)) (den_renamed inner (inside names) w (row ∷ b) (row ∷ a)
      (inside_tells names b a row h)))
      ∙ added_renamed rest names w b a h
      (row ++ apply_cells when kind (sight w a row)
      (found way (tree_width inner) (sight w a row) (den inner w (row ∷ a))))
