-- The columns of a region are the cells of its one row.
use Rattle.sql_conditions.specs.Conditions.{Area}
use Rattle.rel_algebra.proofs.Rows.{AreCells, are_cells}
use Rattle.std.proofs.Common.{◌≡◌, ℕ, zero, suc, ◌+◌, true, false, List, [], ◌∷◌, ◌++◌, length, map}
use Rattle.std.proofs.Common.{refl, ap, sym, ◌∙◌, subst, arith, length-append, Ok, Err, replicate}
use Rattle.sql_values.specs.declared.value.Value.{Value}
use Rattle.sql_values.specs.declared.value.Value.TheVariants.{Int, Null, Str, Bool as Truth}
use Rattle.row_types.specs.Cells.{Whole}
use Rattle.row_types.specs.Rows.{Row}
use Rattle.row_types.specs.declared.cell.Cell.{Cell}
use Rattle.row_types.specs.declared.cell.Cell.TheVariants.{Cond, Val}
use Rattle.rel_algebra.specs.Emit.{checks, if_values, joined_nodes, width}
use Rattle.rel_algebra.specs.Endings.{Ending, after, op_value}
use Rattle.rel_algebra.specs.Even.{IsEven, KindEven, PlacesIn}
use Rattle.rel_algebra.specs.Joins.{places}
use Rattle.rel_algebra.specs.Plain.{Inputs}
use Rattle.rel_algebra.specs.Plan.{Kind, Nodes, PlanTree, Scalar, Sight, added, aggregate, and_cell}
use Rattle.rel_algebra.specs.Plan.{applied, apply, apply_by, apply_cells, argument, case_cell}
use Rattle.rel_algebra.specs.Plan.{cell_at, cell_of, cells_at, cells_of, cells_row, collapse}
use Rattle.rel_algebra.specs.Plan.{collapse_as, column, constant, cross, den, each, exists, extend}
use Rattle.rel_algebra.specs.Plan.{extend_by, filter, found, group, keep, kind_width, left_outer}
use Rattle.rel_algebra.specs.Plan.{member, member_cell, more, no_node, none, or_cell, scalar_count}
use Rattle.rel_algebra.specs.Plan.{scan, settle, sight, single, sort, strictly, tree_width}
use Rattle.rel_algebra.specs.Plan.{unit_row, values, values_of, word, into, Scalars}
use Rattle.rel_algebra.specs.Regions.{Columns, into_scalars, more_columns, region, region_cells}
use Rattle.rel_algebra.specs.Regions.{region_columns, where_all, where_true}
use Rattle.rel_algebra.specs.Removal.{of_region, is_region}
use Rattle.rel_algebra.specs.Renaming.{merged_row, own_row, renamed_kind, renamed_scalar}
use Rattle.rel_algebra.specs.Renaming.{renamed_scalars, renamed_tree, renamed_way, Renaming}
use Rattle.rel_algebra.specs.Renaming.{place_in}
use Rattle.rel_algebra.specs.Tree.{AnyOf, NullTest}
use Rattle.rel_algebra.proofs.Growing.{Grows, first_columns}
use Rattle.rel_algebra.proofs.Even.{cells_at_long}
use Rattle.rel_algebra.proofs.Nodes.{added_grows, added_join, added_long, apply_cells_long}
use Rattle.rel_algebra.proofs.Nodes.{cells_long}
use Rattle.rel_algebra.proofs.Places.{grown_cells, place_at, places_append, places_at, places_below}
use Rattle.rel_algebra.proofs.Places.{places_in_below, places_in_long, places_wide, added_cells}
use Rattle.rel_algebra.proofs.Renamed.{Tells, cell_renamed, cells_renamed, count_renamed}
use Rattle.rel_algebra.proofs.Renamed.{den_renamed, kind_width_renamed, node_renamed, width_renamed}
use Rattle.rel_algebra.proofs.Truths.{both, never}
use Rattle.rel_algebra.proofs.Widths.{places_long, width_join}

pub merged_tells : (n : ℕ) (outs : List ℕ) (m : ℕ) (z r : List Cell) (o : List (List Cell)) →
    length z ≡ m → length r ≡ n → Grows r z →
    Tells (merged_row n outs m) (z ∷ o) (cells_at z outs ∷ r ∷ o)
merged_tells n outs m z r o e d g zero i = place_at outs m i z e
merged_tells n outs m z r o e d g (suc zero) i =
    place_at (places 0 n) m i z e ∙ ap (λ (cs : List Cell). cell_at cs i) (first_columns r z n d g)
merged_tells n outs m z r o e d g (suc (suc level)) i = refl

pub outer_tells : (n m : ℕ) (z r : List Cell) (o : List (List Cell)) → length z ≡ m → length r ≡ n →
    Grows r z →
    Tells (own_row (places 0 n) m) (z ∷ o) (r ∷ o)
outer_tells n m z r o e d g zero i =
    place_at (places 0 n) m i z e ∙ ap (λ (cs : List Cell). cell_at cs i) (first_columns r z n d g)
outer_tells n m z r o e d g (suc level) i = refl

-- the places of the chain's columns
pub record Placed (c : Columns) (t : PlanTree) (n : ℕ) : Type 0 where
  pub inside : PlacesIn c.places (width c.nodes n)
  pub count : length c.places ≡ tree_width t

more_placed : (node : Nodes) (k : ℕ) (c : Columns) (t u : PlanTree) (n : ℕ) → Placed c t n →
    width node (width c.nodes n) ≡ width c.nodes n + k →
    tree_width u ≡ tree_width t + k → Placed (more_columns node k (width c.nodes n) c) u n
more_placed node k c t u n h e d =
    let m = width c.nodes n in let wide : width (joined_nodes c.nodes node) n
    ≡ m + k = width_join c.nodes node n ∙ e in record {
      inside = subst (λ (j : ℕ). PlacesIn (c.places ++ places m k) j) (sym wide)
          (places_append c.places (places m k) (m + k)
          (places_wide c.places m (m + k) (omega arith) h.inside)
          (places_below m k (m + k) (omega arith)));
      count = length-append c.places (places m k)
          ∙ (both (λ (a b : ℕ). a + b) _ _ _ _ h.count (places_long m k) ∙ sym d);
    }

pub placed : (t : PlanTree) (S : List ℕ → ℕ) → IsEven t S → is_region t ≡ true → (n : ℕ) →
    Placed (region_columns t n) t n
placed unit_row S h p n = record { inside = tt; count = refl }
placed (extend ss t) S h p n =
    let c = region_columns t n in let m = width c.nodes n in let names = merged_row n c.places m in
    more_placed (extend_by (renamed_scalars ss names) no_node) (scalar_count ss) c t (extend ss t) n
    (placed t S h p n)
    (ap (λ (k : ℕ). m + k) (count_renamed ss names)) refl
placed (apply when kind way inner t) S h p n =
    let c = region_columns t n in let m = width c.nodes n in let names = merged_row n c.places m in
    more_placed (apply_by (renamed_scalar when names) (renamed_kind kind names)
    (renamed_way way names) (renamed_tree inner names) no_node)
    (kind_width kind) c t (apply when kind way inner t) n (placed t S h.2 p n)
    (ap (λ (k : ℕ). m + k) (kind_width_renamed kind names)) refl
placed (keep is t) S h p n =
    let c = region_columns t n in let m = width c.nodes n in let k = placed t S h.1 p n in record {
      inside = places_in_below c.places m is k.inside
          (subst (λ (j : ℕ). PlacesIn is j) (sym k.count) h.0);
      count = places_in_long c.places m is;
    }
placed (scan name k) S h p n = never p
placed (values lists) S h p n = never p
placed (filter s t) S h p n = never p
placed (cross a b) S h p n = never p
placed (left_outer nodes s k a b) S h p n = never p
placed (settle t) S h p n = never p
placed (group keys ags t) S h p n = never p
placed (sort keys t) S h p n = never p

-- the cells of the one row
abbrev pub region_row : Columns → Inputs → List (List Cell) → List Cell → List Cell
region_row c w o r = cells_at (added c.nodes w o r) c.places

more_row : (node wide : Nodes) (k : ℕ) (c : Columns) (t : PlanTree) (n : ℕ) (w : Inputs)
    (o : List (List Cell)) (r x : List Cell) → length r ≡ n →
    Placed c t n → length x ≡ k → added wide w o (added c.nodes w o r) ≡ added c.nodes w o r ++ x →
    region_row (more_columns wide k (width c.nodes n) c) w o r ≡ region_row c w o r ++ x
more_row node wide k c t n w o r x e h l a =
    let z = added c.nodes w o r in let m = width c.nodes n in
    ap (λ (y : List Cell). cells_at y (c.places ++ places m k)) (added_join c.nodes wide w o r ∙ a)
    ∙ grown_cells z x c.places m k (added_long c.nodes w o r n e) l h.inside

pub region_den : (t : PlanTree) (S : List ℕ → ℕ) → IsEven t S → is_region t ≡ true →
    (n : ℕ) (w : Inputs) (o : List (List Cell)) (r : List Cell) →
    length r ≡ n → den t w (r ∷ o) ≡ Whole (region_row (region_columns t n) w o r) ∷ []
region_den unit_row S h p n w o r e = refl
region_den (extend ss t) S h p n w o r e =
    let c = region_columns t n in let m = width c.nodes n in let names = merged_row n c.places m in
    let z = added c.nodes w o r in
    let q = region_row c w o r in let x = cells_of (renamed_scalars ss names) (sight w o z) in
    let tells = merged_tells n c.places m z r o (added_long c.nodes w o r n e) e
    (added_grows c.nodes w o r) in
    ap (each (λ row. Whole (row ++ cells_of ss (sight w (r ∷ o) row)) ∷ []))
    (region_den t S h p n w o r e)
    ∙ ap (λ (cs : List Cell). Whole cs ∷ [])
    (ap (λ (cs : List Cell). q ++ cs) (sym (cells_renamed ss names w (z ∷ o) (q ∷ r ∷ o) tells))
    ∙ sym (more_row (extend_by ss no_node) (extend_by (renamed_scalars ss names) no_node)
    (scalar_count ss) c t n w o r x e (placed t S h p n)
    (cells_long (renamed_scalars ss names) (sight w o z) ∙ count_renamed ss names) refl))
region_den (apply when kind way inner t) S h p n w o r e =
    let c = region_columns t n in let m = width c.nodes n in let names = merged_row n c.places m in
    let z = added c.nodes w o r in
    let q = region_row c w o r in
    let tells = merged_tells n c.places m z r o (added_long c.nodes w o r n e) e
    (added_grows c.nodes w o r) in
    let inner' = renamed_tree inner names in let when' = renamed_scalar when names in
    let kind' = renamed_kind kind names in
    let rows = found (renamed_way way names) (tree_width inner') (sight w o z)
    (den inner' w (z ∷ o)) in
    let x = apply_cells when' kind' (sight w o z) rows in
    ap (each (λ row. Whole (row ++ apply_cells when kind (sight w (r ∷ o) row)
    (found way (tree_width inner) (sight w (r ∷ o) row) (den inner w (row ∷ r ∷ o)))) ∷ []))
    (region_den t S h.2 p n w o r e)
    ∙ ap (λ (cs : List Cell). Whole cs ∷ [])
    (ap (λ (cs : List Cell). q ++ cs)
    (sym (node_renamed when kind way names (tree_width inner) (tree_width inner') w (z ∷ o)
    (q ∷ r ∷ o)
    (den inner w (q ∷ r ∷ o)) (den inner' w (z ∷ o)) tells (width_renamed inner names)
    (den_renamed inner names w (z ∷ o) (q ∷ r ∷ o) tells)))
    ∙ sym (more_row (apply_by when kind way inner no_node)
    (apply_by when' kind' (renamed_way way names) inner' no_node) (kind_width kind) c t n w o r x e
    (placed t S h.2 p n) (apply_cells_long when' kind' (sight w o z) rows
    ∙ kind_width_renamed kind names) refl))
region_den (keep is t) S h p n w o r e =
    let c = region_columns t n in let m = width c.nodes n in let z = added c.nodes w o r in
    ap (each (λ row. Whole (cells_at row is) ∷ [])) (region_den t S h.1 p n w o r e)
    ∙ ap (λ (cs : List Cell). Whole cs ∷ [])
    (sym (places_at c.places m is z (added_long c.nodes w o r n e)))
region_den (scan name k) S h p n w o r e = never p
region_den (values lists) S h p n w o r e = never p
region_den (filter s t) S h p n w o r e = never p
region_den (cross a b) S h p n w o r e = never p
region_den (left_outer nodes s k a b) S h p n w o r e = never p
region_den (settle t) S h p n w o r e = never p
region_den (group keys ags t) S h p n w o r e = never p
region_den (sort keys t) S h p n w o r e = never p

-- What a kind makes of one row.
case_applied : (x c : Cell) → case_cell (x ∷ c ∷ []) ≡ applied x c
case_applied (Cond a) c = refl
case_applied (Val v) c = refl

pub where_applied : (when s : Scalar) (here : Sight) → cell_of (where_true when s) here
    ≡ applied (cell_of when here) (cell_of s here)
where_applied (constant (Truth true)) s here = refl
where_applied (constant (Truth false)) s here = refl
where_applied (constant Null) s here = refl
where_applied (constant (Int n)) s here = refl
where_applied (constant (Str t)) s here = refl
where_applied (column level i) s here =
    case_applied (cell_at (cells_row here.rows level) i) (cell_of s here)
where_applied (argument i) s here = refl
where_applied (word w ss) s here = case_applied (cell_of (word w ss) here) (cell_of s here)

-- TRUE, or the first condition
abbrev pub stand : Ending Row → Cell
stand (Ok vs) = Val (Truth true)
stand (Err a) = Cond a

stand_more : (v : Value) (e : Ending Row) → stand (after e (λ vs. Ok (v ∷ vs))) ≡ stand e
stand_more v (Ok vs) = refl
stand_more v (Err a) = refl

checked : (v : Value) →
    or_cell (Truth false) (strictly (op_value NullTest) (Val v ∷ []) ∷ Val (Truth true) ∷ [])
    ≡ Val (Truth true)
checked Null = refl
checked (Int n) = refl
checked (Str t) = refl
checked (Truth b) = refl

checks_stand : (is : List ℕ) (w : Inputs) (o : List (List Cell)) (z : List Cell) →
    and_cell (Truth true) (cells_of (checks is) (sight w o z)) ≡ stand (values_of (cells_at z is))
checks_stand [] w o z = refl
checks_stand (i ∷ is) w o z = by_cell (cell_at z i) (cells_of (checks is) (sight w o z))
    (values_of (cells_at z is)) (cells_at z is) refl
    (checks_stand is w o z)
  where
    by_cell : (c : Cell) (cs : List Cell) (e : Ending Row) (ds : List Cell) → values_of ds ≡ e →
        and_cell (Truth true) cs ≡ stand e →
        and_cell (Truth true) (or_cell (Truth false) (strictly (op_value NullTest) (c ∷ [])
        ∷ Val (Truth true) ∷ []) ∷ cs) ≡ stand (values_of (c ∷ ds))
    by_cell (Cond a) cs e ds d h = refl
    by_cell (Val v) cs e ds d h =
        ap (λ (x : Cell). and_cell (Truth true) (x ∷ cs)) (checked v)
        ∙ (h ∙ (sym (stand_more v e) ∙ ap (λ (y : Ending Row). stand (after y (λ vs. Ok (v ∷ vs))))
        (sym d)))

exists_end : (q : List Cell) (e : Ending Row) → values_of q ≡ e →
    collapse exists (Val Null) (Whole q ∷ []) ≡ case_cell (stand e ∷ Val (Truth true) ∷ []) ∷ []
exists_end q (Ok vs) d = ap (λ (y : Ending Row). collapse_as exists (Val Null)
    (after y (λ r. Ok (r ∷ [])))) d
exists_end q (Err a) d = ap (λ (y : Ending Row). collapse_as exists (Val Null)
    (after y (λ r. Ok (r ∷ [])))) d

exists_cell : (is : List ℕ) (w : Inputs) (o : List (List Cell)) (z : List Cell) →
    collapse exists (Val Null) (Whole (cells_at z is) ∷ [])
    ≡ cell_of (if_values is (constant (Truth true))) (sight w o z) ∷ []
exists_cell [] w o z = refl
exists_cell (i ∷ is) w o z =
    exists_end (cells_at z (i ∷ is)) (values_of (cells_at z (i ∷ is))) refl
    ∙ ap (λ (c : Cell). case_cell (c ∷ Val (Truth true) ∷ []) ∷ [])
    (sym (checks_stand (i ∷ is) w o z))

single_cell : (q : List Cell) → length q ≡ 1 → collapse single (Val Null) (Whole q ∷ [])
    ≡ cell_at q 0 ∷ []
single_cell [] h = absurd (omega arith)
single_cell (Cond a ∷ []) h = refl
single_cell (Val v ∷ []) h = refl
single_cell (c ∷ d ∷ q) h = absurd (omega arith)

member_one : (s : Scalar) (x : Cell) (q : List Cell) → length q ≡ 1 →
    collapse (member s) x (Whole q ∷ []) ≡ strictly (op_value AnyOf) (x ∷ cell_at q 0 ∷ []) ∷ []
member_one s x [] h = absurd (omega arith)
member_one s (Cond b) (c ∷ []) h = refl
member_one s (Val v) (Cond a ∷ []) h = refl
member_one s (Val v) (Val u ∷ []) h = refl
member_one s x (c ∷ d ∷ q) h = absurd (omega arith)

-- cells where all of a row are values
abbrev taken_from : Ending Row → List Cell → ℕ → ℕ → List Cell
taken_from e q i zero = []
taken_from e q i (suc k) = case_cell (stand e ∷ cell_at q i ∷ []) ∷ taken_from e q (suc i) k

taken_values : (vs : Row) (q : List Cell) (i k : ℕ) →
    taken_from (Ok vs) q i k ≡ cells_at q (places i k)
taken_values vs q i zero = refl
taken_values vs q i (suc k) =
    ap (λ (cs : List Cell). cell_at q i ∷ cs) (taken_values vs q (suc i) k)

taken_area : (a : Area) (q : List Cell) (i k : ℕ) → taken_from (Err a) q i k ≡ replicate k (Cond a)
taken_area a q i zero = refl
taken_area a q i (suc k) = ap (λ (cs : List Cell). Cond a ∷ cs) (taken_area a q (suc i) k)

into_row : (k : ℕ) (q : List Cell) (e : Ending Row) → values_of q ≡ e → AreCells e q →
    collapse (into k) (Val Null) (Whole q ∷ []) ≡ taken_from e q 0 k
into_row k q (Ok vs) d h =
    ap (λ (y : Ending Row). collapse_as (into k) (Val Null) (after y (λ r. Ok (r ∷ [])))) d
    ∙ (ap (λ (cs : List Cell). cells_at cs (places 0 k)) (sym h) ∙ sym (taken_values vs q 0 k))
into_row k q (Err a) d h =
    ap (λ (y : Ending Row). collapse_as (into k) (Val Null) (after y (λ r. Ok (r ∷ [])))) d
    ∙ sym (taken_area a q 0 k)

into_cell : (outs : List ℕ) (m i : ℕ) (w : Inputs) (o : List (List Cell)) (z : List Cell) →
    length z ≡ m →
    cell_of (if_values outs (column 0 (place_in outs m i))) (sight w o z)
    ≡ case_cell (stand (values_of (cells_at z outs)) ∷ cell_at (cells_at z outs) i ∷ [])
into_cell [] m i w o z d = place_at [] m i z d
into_cell (j ∷ outs) m i w o z d =
    both (λ (x c : Cell). case_cell (x ∷ c ∷ [])) _ _ _ _ (checks_stand (j ∷ outs) w o z)
    (place_at (j ∷ outs) m i z d)

into_scalars_are : (outs : List ℕ) (m i k : ℕ) (w : Inputs) (o : List (List Cell)) (z : List Cell) →
    length z ≡ m →
    cells_of (into_scalars outs m i k) (sight w o z)
    ≡ taken_from (values_of (cells_at z outs)) (cells_at z outs) i k
into_scalars_are outs m i zero w o z d = refl
into_scalars_are outs m i (suc k) w o z d =
    both (λ (c : Cell) (cs : List Cell). c ∷ cs) _ _ _ _ (into_cell outs m i w o z d)
    (into_scalars_are outs m (suc i) k w o z d)

-- the cells, read on the wider row z of a row r
kind_cells : (kind : Kind) (outs : List ℕ) (n m : ℕ) (w : Inputs) (o : List (List Cell))
    (r z : List Cell) → length r ≡ n → length z ≡ m → Grows r z →
    of_region kind ≡ true → KindEven kind (length outs) →
    collapse kind (member_cell kind (sight w o r)) (Whole (cells_at z outs) ∷ [])
    ≡ cells_of (region_cells (renamed_kind kind (own_row (places 0 n) m)) outs m) (sight w o z)
kind_cells single outs n m w o r z e d g p h =
    single_cell (cells_at z outs) (cells_at_long z outs ∙ h)
    ∙ ap (λ (c : Cell). c ∷ []) (sym (place_at outs m 0 z d))
kind_cells exists outs n m w o r z e d g p h = exists_cell outs w o z
kind_cells (member s) outs n m w o r z e d g p h =
    member_one s (cell_of s (sight w o r)) (cells_at z outs) (cells_at_long z outs ∙ h)
    ∙ both (λ (x c : Cell). strictly (op_value AnyOf) (x ∷ c ∷ []) ∷ []) _ _ _ _
    (sym (cell_renamed s (own_row (places 0 n) m) w (z ∷ o) (r ∷ o) (outer_tells n m z r o d e g)))
    (sym (place_at outs m 0 z d))
kind_cells (aggregate ags) outs n m w o r z e d g p h = never p
kind_cells (into k) outs n m w o r z e d g p h =
    into_row k (cells_at z outs) (values_of (cells_at z outs)) refl (are_cells (cells_at z outs))
    ∙ sym (into_scalars_are outs m 0 k w o z d)

where_all_applied : (when : Scalar) (ss : Scalars) (here : Sight) →
    cells_of (where_all when ss) here ≡ map (applied (cell_of when here)) (cells_of ss here)
where_all_applied when none here = refl
where_all_applied when (more s ss) here =
    both (λ (c : Cell) (cs : List Cell). c ∷ cs) _ _ _ _ (where_applied when s here)
    (where_all_applied when ss here)

into_count : (outs : List ℕ) (m i k : ℕ) → scalar_count (into_scalars outs m i k) ≡ k
into_count outs m i zero = refl
into_count outs m i (suc k) = ap suc (into_count outs m (suc i) k)

where_all_count : (when : Scalar) (ss : Scalars) → scalar_count (where_all when ss)
    ≡ scalar_count ss
where_all_count when none = refl
where_all_count when (more s ss) = ap suc (where_all_count when ss)

cells_count : (kind : Kind) (names : Renaming) (outs : List ℕ) (m : ℕ) → of_region kind ≡ true →
    scalar_count (region_cells (renamed_kind kind names) outs m) ≡ kind_width kind
cells_count single names outs m p = refl
cells_count exists names outs m p = refl
cells_count (member s) names outs m p = refl
cells_count (aggregate ags) names outs m p = never p
cells_count (into k) names outs m p = into_count outs m 0 k

-- the cells stand in the row after a region
pub region_places : (when : Scalar) (kind : Kind) (inner : PlanTree) (n : ℕ) →
    of_region kind ≡ true →
    PlacesIn (region when kind inner n).places (width (region when kind inner n).nodes n)
region_places when kind inner n p =
    let c = region_columns inner n in let m = width c.nodes n in
    let names = own_row (places 0 n) m in let k = kind_width kind in
    let ss = region_cells (renamed_kind kind names) c.places m in
    let last = where_all (renamed_scalar when names) ss in
    let wide : width (joined_nodes c.nodes (extend_by last no_node)) n ≡ m + k =
    width_join c.nodes (extend_by last no_node) n
    ∙ ap (λ (j : ℕ). m + j) (where_all_count (renamed_scalar when names) ss
    ∙ cells_count kind names c.places m p) in
    subst (PlacesIn (places m k)) (sym wide) (places_below m k (m + k) (omega arith))

-- the region's cells stand where its places say
pub region_gives : (when : Scalar) (kind : Kind) (inner : PlanTree) (S : List ℕ → ℕ) →
    IsEven inner S → is_region inner ≡ true → of_region kind ≡ true →
    KindEven kind (tree_width inner) → (n : ℕ) (w : Inputs) (o : List (List Cell)) (r : List Cell) →
    length r ≡ n →
    cells_at (added (region when kind inner n).nodes w o r) (region when kind inner n).places
    ≡ apply_cells when kind (sight w o r) (den inner w (r ∷ o))
region_gives when kind inner S h p q k n w o r e =
    let c = region_columns inner n in let m = width c.nodes n in
    let names = own_row (places 0 n) m in let z = added c.nodes w o r in
    let l : length z ≡ m = added_long c.nodes w o r n e in let g = added_grows c.nodes w o r in
    let pl = placed inner S h p n in
    let ss = region_cells (renamed_kind kind names) c.places m in
    let last = where_all (renamed_scalar when names) ss in
    let ys = cells_of last (sight w o z) in
    let row : added (region when kind inner n).nodes w o r
    ≡ z ++ ys = added_join c.nodes (extend_by last no_node) w o r in
    let value : apply_cells when kind (sight w o r) (den inner w (r ∷ o)) ≡ ys =
    ap (apply_cells when kind (sight w o r)) (region_den inner S h p n w o r e)
    ∙ (ap (map (applied (cell_of when (sight w o r))))
    (kind_cells kind c.places n m w o r z e l g q (subst (KindEven kind) (sym pl.count) k))
    ∙ (ap (λ (x : Cell). map (applied x) (cells_of ss (sight w o z)))
    (sym (cell_renamed when names w (z ∷ o) (r ∷ o) (outer_tells n m z r o l e g)))
    ∙ sym (where_all_applied (renamed_scalar when names) ss (sight w o z)))) in
    let long : length ys ≡ kind_width kind =
    ap (λ (cs : List Cell). length cs) (sym value)
    ∙ apply_cells_long when kind (sight w o r) (den inner w (r ∷ o)) in
    ap (λ (cs : List Cell). cells_at cs (places m (kind_width kind))) row
    ∙ (added_cells z ys m (kind_width kind) l long ∙ sym value)
