-- A plan has the same rows under outer rows that agree in those that it uses. So what uses none is
-- run once.
use Rattle.std.proofs.Common.{◌≡◌, ℕ, zero, suc, true, ◌&&◌, List, [], ◌∷◌, ◌++◌, map, refl, ap}
use Rattle.std.proofs.Common.{sym, ◌∙◌, Ok}
use Rattle.sql_values.specs.declared.operators.Comparison.TheVariants.{Equals}
use Rattle.sql_values.specs.declared.value.Value.{Value}
use Rattle.sql_values.specs.declared.value.Value.TheVariants.{Int, Null, Str, Bool as Truth}
use Rattle.sql_conditions.specs.Conditions.{Area}
use Rattle.row_types.specs.Cells.{PlanRow, Poisoned, Whole}
use Rattle.row_types.specs.Rows.{Row}
use Rattle.row_types.specs.declared.cell.Cell.{Cell}
use Rattle.row_types.specs.declared.cell.Cell.TheVariants.{Cond, Val}
use Rattle.rel_algebra.specs.Endings.{Ending, after, op_value}
use Rattle.rel_algebra.specs.Plain.{Inputs}
use Rattle.rel_algebra.specs.Plan.{Kind, Nodes, PlanTree, Scalar, Scalars, Sight, Way, added}
use Rattle.rel_algebra.specs.Plan.{aggregate, anew, applied, apply, apply_by, apply_cells, argument}
use Rattle.rel_algebra.specs.Plan.{cell_at, cell_of, cells_at, cells_of, cells_row, collapse}
use Rattle.rel_algebra.specs.Plan.{collapse_as, collected, column, constant, cross, crossed, den}
use Rattle.rel_algebra.specs.Plan.{each, exists, extend, extend_by, filter, found, group, grouped}
use Rattle.rel_algebra.specs.Plan.{joined, keep, kept, left_outer, list_rows, lookup, meeting}
use Rattle.rel_algebra.specs.Plan.{member, member_cell, more, no_node, none, once, other_places}
use Rattle.rel_algebra.specs.Plan.{scan, settle, settled, sight, single, sort, sorted, strictly}
use Rattle.rel_algebra.specs.Plan.{tree_width, unit_row, values, values_of, with_settled, word}
use Rattle.rel_algebra.specs.Plan.{word_cell, into}
use Rattle.rel_algebra.specs.Removal.{keys_stay, kind_stays, less, lists_stay, nodes_within, stays}
use Rattle.rel_algebra.specs.Removal.{stays_all, tree_within, way_stays}
use Rattle.rel_algebra.specs.RemovalLaws.{key_value}
use Rattle.rel_algebra.specs.Theorem.{outside}
use Rattle.rel_algebra.specs.Tree.{Comparing}
use Rattle.rel_algebra.proofs.Rows.{each_append}
use Rattle.rel_algebra.proofs.Truths.{left_true, never, right_true}

-- the n innermost rows are alike
abbrev pub Agree : ℕ → List (List Cell) → List (List Cell) → Type 0
Agree n b a = (level i : ℕ) → less level n ≡ true → cell_at (cells_row b level) i
    ≡ cell_at (cells_row a level) i

inside_agree : (n : ℕ) (b a : List (List Cell)) (row : List Cell) → Agree n b a →
    Agree (suc n) (row ∷ b) (row ∷ a)
inside_agree n b a row h zero i l = refl
inside_agree n b a row h (suc level) i l = h level i l

mutual
  cell_same : (s : Scalar) (n : ℕ) (w : Inputs) (b a : List (List Cell)) → Agree n b a →
      stays s n ≡ true → cell_of s (outside w b) ≡ cell_of s (outside w a)
  cell_same (constant v) n w b a h p = refl
  cell_same (column level i) n w b a h p = h level i p
  cell_same (argument i) n w b a h p = refl
  cell_same (word x ss) n w b a h p = ap (word_cell x) (cells_same ss n w b a h p)

  cells_same : (ss : Scalars) (n : ℕ) (w : Inputs) (b a : List (List Cell)) → Agree n b a →
      stays_all ss n ≡ true →
      cells_of ss (outside w b) ≡ cells_of ss (outside w a)
  cells_same none n w b a h p = refl
  cells_same (more s ss) n w b a h p =
      let x = cell_same s n w b a h (left_true (stays s n) (stays_all ss n) p) in
      let y = cells_same ss n w b a h (right_true (stays s n) (stays_all ss n) p) in
      λ i. x i ∷ y i

lists_same : (lists : List Scalars) (n : ℕ) (w : Inputs) (b a : List (List Cell)) → Agree n b a →
    lists_stay lists n ≡ true →
    list_rows lists (outside w b) ≡ list_rows lists (outside w a)
lists_same [] n w b a h p = refl
lists_same (ss ∷ lists) n w b a h p =
    let x = cells_same ss n w b a h (left_true (stays_all ss n) (lists_stay lists n) p) in
    let y = lists_same lists n w b a h (right_true (stays_all ss n) (lists_stay lists n) p) in
    λ i. Whole (x i) ∷ y i

member_same : (kind : Kind) (n : ℕ) (w : Inputs) (b a : List (List Cell)) → Agree n b a →
    kind_stays kind n ≡ true →
    member_cell kind (outside w b) ≡ member_cell kind (outside w a)
member_same single n w b a h p = refl
member_same exists n w b a h p = refl
member_same (member s) n w b a h p = cell_same s n w b a h p
member_same (aggregate ags) n w b a h p = refl
member_same (into k) n w b a h p = refl

meeting_same : (keys : List (ℕ × Scalar)) (n : ℕ) (w : Inputs) (b a : List (List Cell))
    (rows : List PlanRow) → Agree n b a → keys_stay keys n ≡ true →
    meeting keys (outside w b) rows ≡ meeting keys (outside w a) rows
meeting_same [] n w b a rows h p = refl
meeting_same (k ∷ keys) n w b a rows h p =
    let test : Cell → List PlanRow = λ c.
    each (λ r. kept (strictly (op_value (Comparing Equals)) (cell_at r k.0 ∷ c ∷ [])) r) rows in
    ap (λ (c : Cell). meeting keys (outside w b) (test c))
    (cell_same k.1 n w b a h (left_true (stays k.1 n) (keys_stay keys n) p))
    ∙ meeting_same keys n w b a (test (cell_of k.1 (outside w a))) h
    (right_true (stays k.1 n) (keys_stay keys n) p)

found_same : (way : Way) (m n : ℕ) (w : Inputs) (b a : List (List Cell)) (rows : List PlanRow) →
    Agree n b a → way_stays way n ≡ true →
    found way m (outside w b) rows ≡ found way m (outside w a) rows
found_same anew m n w b a rows h p = refl
found_same once m n w b a rows h p = refl
found_same (lookup keys) m n w b a rows h p =
    ap (each (λ r. Whole (cells_at r (other_places keys 0 m)) ∷ []))
    (meeting_same keys n w b a rows h p)

node_same : (when : Scalar) (kind : Kind) (way : Way) (m n : ℕ) (w : Inputs)
    (b a : List (List Cell)) (rows rows' : List PlanRow) → Agree n b a →
    (stays when n && (way_stays way n && kind_stays kind n)) ≡ true → rows ≡ rows' →
    apply_cells when kind (outside w b) (found way m (outside w b) rows)
    ≡ apply_cells when kind (outside w a) (found way m (outside w a) rows')
node_same when kind way m n w b a rows rows' h p e =
    let q : (way_stays way n && kind_stays kind n)
    ≡ true = right_true (stays when n) (way_stays way n && kind_stays kind n) p in
    let x = cell_same when n w b a h
    (left_true (stays when n) (way_stays way n && kind_stays kind n) p) in
    let y = member_same kind n w b a h (right_true (way_stays way n) (kind_stays kind n) q) in
    let z = ap (found way m (outside w b)) e
    ∙ found_same way m n w b a rows' h (left_true (way_stays way n) (kind_stays kind n) q) in
    λ i. map (applied (x i)) (collapse kind (y i) (z i))

-- a test over the row that nodes leave
test_same : (s : Scalar) (n : ℕ) (w : Inputs) (b a : List (List Cell)) → Agree n b a →
    (z z' : List Cell) → stays s (suc n) ≡ true → z ≡ z' →
    cell_of s (sight w b z) ≡ cell_of s (sight w a z')
test_same s n w b a h z z' p e =
    ap (λ (y : List Cell). cell_of s (sight w b y)) e
    ∙ cell_same s (suc n) w (z' ∷ b) (z' ∷ a) (inside_agree n b a z' h) p

mutual
  pub den_agrees : (t : PlanTree) (n : ℕ) (w : Inputs) (b a : List (List Cell)) → Agree n b a →
      tree_within t n ≡ true → den t w b ≡ den t w a
  den_agrees unit_row n w b a h p = refl
  den_agrees (scan name k) n w b a h p = refl
  den_agrees (values lists) n w b a h p =
      lists_same lists (suc n) w ([] ∷ b) ([] ∷ a) (inside_agree n b a [] h) p
  den_agrees (extend ss input) n w b a h p =
      let x = left_true (stays_all ss (suc n)) (tree_within input n) p in
      let y = den_agrees input n w b a h (right_true (stays_all ss (suc n)) (tree_within input n) p)
      in
      λ i. each (λ row. Whole (row ++ cells_same ss (suc n) w (row ∷ b) (row ∷ a)
      (inside_agree n b a row h) x i) ∷ []) (y i)
  den_agrees (apply when kind way inner input) n w b a h p =
      let x = stays when (suc n) && (way_stays way (suc n) && kind_stays kind (suc n)) in
      let q : (tree_within inner (suc n) && tree_within input n)
      ≡ true = right_true x (tree_within inner (suc n) && tree_within input n) p in
      let hx : x ≡ true = left_true x (tree_within inner (suc n) && tree_within input n) p in
      let hi = left_true (tree_within inner (suc n)) (tree_within input n) q in
      let y = den_agrees input n w b a h
      (right_true (tree_within inner (suc n)) (tree_within input n) q) in
      λ i. each (λ row. Whole (row ++ node_same when kind way (tree_width inner) (suc n) w (row ∷ b)
      (row ∷ a) (den inner w (row ∷ b)) (den inner w (row ∷ a))
      (inside_agree n b a row h) hx
      (den_agrees inner (suc n) w (row ∷ b) (row ∷ a) (inside_agree n b a row h) hi) i) ∷ []) (y i)
  den_agrees (filter s input) n w b a h p =
      let x = left_true (stays s (suc n)) (tree_within input n) p in
      let y = den_agrees input n w b a h (right_true (stays s (suc n)) (tree_within input n) p) in
      λ i. each (λ row. kept (cell_same s (suc n) w (row ∷ b) (row ∷ a) (inside_agree n b a row h) x
      i) row) (y i)
  den_agrees (keep is input) n w b a h p =
      ap (each (λ row. Whole (cells_at row is) ∷ [])) (den_agrees input n w b a h p)
  den_agrees (cross c d) n w b a h p =
      let x = den_agrees c n w b a h (left_true (tree_within c n) (tree_within d n) p) in
      let y = den_agrees d n w b a h (right_true (tree_within c n) (tree_within d n) p) in
      λ i. with_settled (x i) (λ left. with_settled (y i) (crossed left))
  den_agrees (left_outer nodes s k c d) n w b a h p =
      let u = nodes_within nodes n in let v = stays s (suc n) in
      let cd = tree_within c n && tree_within d n in
      let q : (u && v) ≡ true = left_true (u && v) cd p in
      let r : cd ≡ true = right_true (u && v) cd p in
      let hu = left_true u v q in let hv = right_true u v q in
      let x = den_agrees c n w b a h (left_true (tree_within c n) (tree_within d n) r) in
      let y = den_agrees d n w b a h (right_true (tree_within c n) (tree_within d n) r) in
      λ i. with_settled (x i) (λ left.
      with_settled (y i) (λ right.
      settled (joined k (λ row. test_same s n w b a h (added nodes w b row) (added nodes w a row) hv
      (added_agrees nodes n w b a h hu row) i) left right)))
  den_agrees (settle input) n w b a h p = ap settled (den_agrees input n w b a h p)
  den_agrees (group keys ags input) n w b a h p =
      ap (λ (rows : List PlanRow). grouped keys ags (collected rows)) (den_agrees input n w b a h p)
  den_agrees (sort keys input) n w b a h p =
      ap (λ (rows : List PlanRow). sorted keys (collected rows)) (den_agrees input n w b a h p)

  added_agrees : (nodes : Nodes) (n : ℕ) (w : Inputs) (b a : List (List Cell)) → Agree n b a →
      nodes_within nodes n ≡ true → (row : List Cell) →
      added nodes w b row ≡ added nodes w a row
  added_agrees no_node n w b a h p row = refl
  added_agrees (extend_by ss rest) n w b a h p row =
      ap (λ (cs : List Cell). added rest w b (row ++ cs))
      (cells_same ss (suc n) w (row ∷ b) (row ∷ a) (inside_agree n b a row h)
      (left_true (stays_all ss (suc n)) (nodes_within rest n) p))
      ∙ added_agrees rest n w b a h (right_true (stays_all ss (suc n)) (nodes_within rest n) p)
      (row ++ cells_of ss (sight w a row))
  added_agrees (apply_by when kind way inner rest) n w b a h p row =
      let x = stays when (suc n) && (way_stays way (suc n) && kind_stays kind (suc n)) in
      let q : (tree_within inner (suc n) && nodes_within rest n)
      ≡ true = right_true x (tree_within inner (suc n) && nodes_within rest n) p in
      ap (λ (cs : List Cell). added rest w b (row ++ cs))
      (node_same when kind way (tree_width inner) (suc n) w (row ∷ b) (row ∷ a)
      (den inner w (row ∷ b)) (den inner w (row ∷ a)) (inside_agree n b a row h)
      (left_true x (tree_within inner (suc n) && nodes_within rest n) p)
      (den_agrees inner (suc n) w (row ∷ b) (row ∷ a) (inside_agree n b a row h)
      (left_true (tree_within inner (suc n)) (nodes_within rest n) q)))
      ∙ added_agrees rest n w b a h (right_true (tree_within inner (suc n)) (nodes_within rest n) q)
      (row ++ apply_cells when kind (sight w a row)
      (found way (tree_width inner) (sight w a row) (den inner w (row ∷ a))))

-- a plan that uses no outer column has the same rows under all outer rows
pub closed_den : (t : PlanTree) → tree_within t 0 ≡ true → (w : Inputs) (b a : List (List Cell)) →
    den t w b ≡ den t w a
closed_den t p w b a = den_agrees t 0 w b a (λ level i l. never l) p

-- The first row that raises for each outer row decides all lists that have no area before it: an
-- index is built of the rows before it.
collected_stops : (xs ys : List PlanRow) (a : Area) → collected (xs ++ Poisoned a ∷ ys)
    ≡ collected (xs ++ Poisoned a ∷ [])
collected_stops [] ys a = refl
collected_stops (Whole cs ∷ xs) ys a =
    ap (λ (e : Ending (List Row)). after (values_of cs) (λ r. after e (λ rs. Ok (r ∷ rs))))
    (collected_stops xs ys a)
collected_stops (Poisoned b ∷ xs) ys a = refl

collapse_stops : (kind : Kind) (c : Cell) (xs ys : List PlanRow) (a : Area) →
    collapse kind c (xs ++ Poisoned a ∷ ys) ≡ collapse kind c (xs ++ Poisoned a ∷ [])
collapse_stops single c xs ys a = ap (collapse_as single c) (collected_stops xs ys a)
collapse_stops exists c xs ys a = ap (collapse_as exists c) (collected_stops xs ys a)
collapse_stops (member s) (Val v) xs ys a =
    ap (collapse_as (member s) (Val v)) (collected_stops xs ys a)
collapse_stops (member s) (Cond b) xs ys a = refl
collapse_stops (aggregate ags) c xs ys a =
    ap (collapse_as (aggregate ags) c) (collected_stops xs ys a)
collapse_stops (into k) c xs ys a = ap (collapse_as (into k) c) (collected_stops xs ys a)

-- what meets an outer row, of rows with a poisoned one among them
meeting_bad : (keys : List (ℕ × Scalar)) (s : Sight) (xs ys : List PlanRow) (a : Area) →
    meeting keys s (xs ++ Poisoned a ∷ ys) ≡ meeting keys s xs ++ Poisoned a ∷ meeting keys s ys
meeting_bad [] s xs ys a = refl
meeting_bad (k ∷ keys) s xs ys a =
    let F : List Cell → List PlanRow = λ r.
    kept (strictly (op_value (Comparing Equals)) (cell_at r k.0 ∷ cell_of k.1 s ∷ [])) r in
    ap (meeting keys s) (each_append F xs (Poisoned a ∷ ys))
    ∙ meeting_bad keys s (each F xs) (each F ys) a

pub first_bad : (kind : Kind) (c : Cell) (keys : List (ℕ × Scalar)) (n : ℕ) (s : Sight)
    (xs ys : List PlanRow) (a : Area) →
    collapse kind c (found (lookup keys) n s (xs ++ Poisoned a ∷ ys))
    ≡ collapse kind c (found (lookup keys) n s (xs ++ Poisoned a ∷ []))
first_bad kind c keys n s xs ys a =
    let K : List Cell → List PlanRow = λ r. Whole (cells_at r (other_places keys 0 n)) ∷ [] in
    let end : (zs : List PlanRow) → each K (meeting keys s (xs ++ Poisoned a ∷ zs))
    ≡ each K (meeting keys s xs) ++ Poisoned a ∷ each K (meeting keys s zs) =
    λ zs. ap (each K) (meeting_bad keys s xs zs a)
    ∙ each_append K (meeting keys s xs) (Poisoned a ∷ meeting keys s zs) in
    ap (collapse kind c) (end ys)
    ∙ (collapse_stops kind c (each K (meeting keys s xs)) (each K (meeting keys s ys)) a
    ∙ (sym (collapse_stops kind c (each K (meeting keys s xs)) (each K (meeting keys s [])) a)
    ∙ ap (collapse kind c) (sym (end []))))

-- a row whose first key column is a condition is as good as poisoned by it
pub bad_key : (k : ℕ × Scalar) (keys : List (ℕ × Scalar)) (s : Sight) (xs ys : List PlanRow)
    (r : List Cell) (a : Area) → cell_at r k.0 ≡ Cond a →
    meeting (k ∷ keys) s (xs ++ Whole r ∷ ys) ≡ meeting (k ∷ keys) s (xs ++ Poisoned a ∷ ys)
bad_key k keys s xs ys r a h =
    let F : List Cell → List PlanRow = λ x.
    kept (strictly (op_value (Comparing Equals)) (cell_at x k.0 ∷ cell_of k.1 s ∷ [])) x in
    ap (meeting keys s) (each_append F xs (Whole r ∷ ys)
    ∙ (ap (λ (c : Cell). each F xs
    ++ (kept (strictly (op_value (Comparing Equals)) (c ∷ cell_of k.1 s ∷ [])) r ++ each F ys)) h
    ∙ sym (each_append F xs (Poisoned a ∷ ys))))

-- Each row meets or leaves by itself.
pub meeting_append : (keys : List (ℕ × Scalar)) (s : Sight) (xs ys : List PlanRow) →
    meeting keys s (xs ++ ys) ≡ meeting keys s xs ++ meeting keys s ys
meeting_append [] s xs ys = refl
meeting_append (k ∷ keys) s xs ys =
    let F : List Cell → List PlanRow = λ r.
    kept (strictly (op_value (Comparing Equals)) (cell_at r k.0 ∷ cell_of k.1 s ∷ [])) r in
    ap (meeting keys s) (each_append F xs ys) ∙ meeting_append keys s (each F xs) (each F ys)

pub own_condition : (a : Area) (u : Cell) (r : List Cell) → kept (key_value (Cond a) u) r
    ≡ Poisoned a ∷ []
own_condition a u r = refl

pub outer_condition : (v : Value) (b : Area) (r : List Cell) → kept (key_value (Val v) (Cond b)) r
    ≡ Poisoned b ∷ []
outer_condition v b r = refl

pub outer_null : (v : Value) (r : List Cell) → kept (key_value (Val v) (Val Null)) r ≡ []
outer_null Null r = refl
outer_null (Int n) r = refl
outer_null (Str t) r = refl
outer_null (Truth b) r = refl

pub own_null : (u : Value) (r : List Cell) → kept (key_value (Val Null) (Val u)) r ≡ []
own_null Null r = refl
own_null (Int n) r = refl
own_null (Str t) r = refl
own_null (Truth b) r = refl
