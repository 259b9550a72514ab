-- The rules late, keep and cell, each over any plan below.
use Rattle.std.proofs.Common.{◌≡◌, ℕ, ◌<◌, true, false, List, [], ◌∷◌, ◌++◌, length, refl, ap, sym}
use Rattle.std.proofs.Common.{◌∙◌, subst}
use Rattle.std.proofs.lemmas.List.{append-nil}
use Rattle.sql_values.specs.declared.operators.Comparison.TheVariants.{Equals}
use Rattle.sql_values.specs.declared.value.Value.TheVariants.{Int, Null, Str, Bool as Truth}
use Rattle.row_types.specs.Cells.{PlanRow, Whole}
use Rattle.row_types.specs.declared.cell.Cell.{Cell}
use Rattle.row_types.specs.declared.cell.Cell.TheVariants.{Cond, Val}
use Rattle.rel_algebra.specs.Endings.{op_value}
use Rattle.rel_algebra.specs.Even.{AllLong, PlacesIn}
use Rattle.rel_algebra.specs.Joins.{places}
use Rattle.rel_algebra.specs.Plain.{Inputs}
use Rattle.rel_algebra.specs.Plan.{Nodes, PlanTree, Scalar, added, cell_at, cell_of, cells_at}
use Rattle.rel_algebra.specs.Plan.{constant, den, each, extend, filter, keep, kept, more, none}
use Rattle.rel_algebra.specs.Plan.{on_each, sight, strictly}
use Rattle.rel_algebra.specs.Renaming.{outward_row, own_row, places_in, renamed_scalar}
use Rattle.rel_algebra.specs.Theorem.{outside}
use Rattle.rel_algebra.specs.Tree.{Comparing}
use Rattle.rel_algebra.specs.Widening.{key_filters, key_test}
use Rattle.rel_algebra.proofs.Growing.{grows_at, only_at}
use Rattle.rel_algebra.proofs.Even.{each_long, kept_long}
use Rattle.rel_algebra.proofs.Nodes.{added_grows, on_each_den}
use Rattle.rel_algebra.proofs.Places.{each_same_long, front_cells, grown_cells, kept_then}
use Rattle.rel_algebra.proofs.Places.{outward_tells, own_tells, places_at}
use Rattle.rel_algebra.proofs.Renamed.{cell_renamed}
use Rattle.rel_algebra.proofs.Rows.{each_each}

pub on_each_same : (nodes : Nodes) (t u : PlanTree) (w : Inputs) (o : List (List Cell)) →
    den t w o ≡ den u w o →
    den (on_each nodes t) w o ≡ den (on_each nodes u) w o
on_each_same nodes t u w o h =
    on_each_den nodes t w o ∙ (ap (each (λ r. Whole (added nodes w o r) ∷ [])) h
    ∙ sym (on_each_den nodes u w o))

pub filters_same : (keys : List (ℕ × Scalar)) (t u : PlanTree) (w : Inputs) (o : List (List Cell)) →
    den t w o ≡ den u w o →
    den (key_filters keys t) w o ≡ den (key_filters keys u) w o
filters_same [] t u w o h = h
filters_same (k ∷ keys) t u w o h =
    filters_same keys (filter (key_test k) t) (filter (key_test k) u) w o
    (ap (each (λ r. kept (cell_of (key_test k) (sight w o r)) r)) h)

pub filters_long : (keys : List (ℕ × Scalar)) (n : ℕ) (t : PlanTree) (w : Inputs)
    (o : List (List Cell)) → AllLong n (den t w o) →
    AllLong n (den (key_filters keys t) w o)
filters_long [] n t w o h = h
filters_long (k ∷ keys) n t w o h =
    filters_long keys n (filter (key_test k) t) w o
    (each_long n n (λ r. kept (cell_of (key_test k) (sight w o r)) r) (den t w o) h
    (λ r e. kept_long n (cell_of (key_test k) (sight w o r)) r e))

pub filters_append : (keys : List (ℕ × Scalar)) (k : ℕ × Scalar) (t : PlanTree) →
    key_filters (keys ++ k ∷ []) t ≡ filter (key_test k) (key_filters keys t)
filters_append [] k t = refl
filters_append (j ∷ keys) k t = filters_append keys k (filter (key_test j) t)

-- the cell of a key's test
abbrev pub key_cell : ℕ × Scalar → Inputs → List (List Cell) → List Cell → Cell
key_cell k w o r = strictly (op_value (Comparing Equals)) (cell_at r k.0 ∷ cell_of k.1 (outside w o)
    ∷ [])

pub key_is : (k : ℕ × Scalar) (w : Inputs) (o : List (List Cell)) (r : List Cell) →
    cell_of (key_test k) (sight w o r) ≡ key_cell k w o r
key_is k w o r =
    ap (λ (c : Cell). strictly (op_value (Comparing Equals)) (cell_at r k.0 ∷ c ∷ []))
    (cell_renamed k.1 outward_row w (r ∷ o) o (outward_tells r o))

-- The rule late: an equality with an outer scalar goes above nodes that add columns.
late_row : (nodes : Nodes) (k : ℕ × Scalar) (w : Inputs) (o : List (List Cell)) (r : List Cell) →
    k.0 < length r →
    each (λ x. Whole (added nodes w o x) ∷ []) (kept (cell_of (key_test k) (sight w o r)) r)
    ≡ kept (cell_of (key_test k) (sight w o (added nodes w o r))) (added nodes w o r) ++ []
late_row nodes k w o r l =
    let z = added nodes w o r in
    let same : cell_of (key_test k) (sight w o r) ≡ cell_of (key_test k) (sight w o z) =
    key_is k w o r ∙ (ap (λ (c : Cell). strictly (op_value (Comparing Equals))
    (c ∷ cell_of k.1 (outside w o) ∷ []))
    (sym (grows_at r z k.0 (added_grows nodes w o r) l)) ∙ sym (key_is k w o z)) in
    kept_then (cell_of (key_test k) (sight w o r)) r (added nodes w o)
    ∙ (ap (λ (c : Cell). kept c z) same
    ∙ sym (append-nil (kept (cell_of (key_test k) (sight w o z)) z)))

pub late_rule : (nodes : Nodes) (k : ℕ × Scalar) (n : ℕ) (t : PlanTree) (w : Inputs)
    (o : List (List Cell)) → k.0 < n → AllLong n (den t w o) →
    den (on_each nodes (filter (key_test k) t)) w o
    ≡ den (filter (key_test k) (on_each nodes t)) w o
late_rule nodes k n t w o l h =
    let F : List Cell → List PlanRow = λ r. kept (cell_of (key_test k) (sight w o r)) r in
    let A : List Cell → List PlanRow = λ r. Whole (added nodes w o r) ∷ [] in
    on_each_den nodes (filter (key_test k) t) w o
    ∙ (each_each F A (den t w o)
    ∙ (each_same_long n (λ r. each A (F r)) (λ r. each F (A r)) (den t w o) h
    (λ r e. late_row nodes k w o r (subst (λ (m : ℕ). k.0 < m) (sym e) l))
    ∙ (sym (each_each A F (den t w o)) ∙ ap (each F) (sym (on_each_den nodes t w o)))))

abbrev pub TestsIn : List (ℕ × Scalar) → ℕ → Type 0
TestsIn [] n = Unit {0}
TestsIn (k ∷ tests) n = (k.0 < n) × TestsIn tests n

pub late_all : (nodes : Nodes) (tests : List (ℕ × Scalar)) (n : ℕ) (t : PlanTree) (w : Inputs)
    (o : List (List Cell)) → TestsIn tests n →
    AllLong n (den t w o) → den (on_each nodes (key_filters tests t)) w o
    ≡ den (key_filters tests (on_each nodes t)) w o
late_all nodes [] n t w o l h = refl
late_all nodes (k ∷ tests) n t w o l h =
    late_all nodes tests n (filter (key_test k) t) w o l.1 (filters_long (k ∷ []) n t w o h)
    ∙ filters_same tests (on_each nodes (filter (key_test k) t))
    (filter (key_test k) (on_each nodes t)) w o (late_rule nodes k n t w o l.0 h)

-- The rule keep: a Filter, a Keep, and nodes that add columns go below a Keep.
pub keep_filter : (s : Scalar) (outs : List ℕ) (n : ℕ) (t : PlanTree) (w : Inputs)
    (o : List (List Cell)) → AllLong n (den t w o) →
    den (filter s (keep outs t)) w o
    ≡ den (keep outs (filter (renamed_scalar s (own_row outs n)) t)) w o
keep_filter s outs n t w o h =
    let s' = renamed_scalar s (own_row outs n) in
    let K : List Cell → List PlanRow = λ r. Whole (cells_at r outs) ∷ [] in
    let F : List Cell → List PlanRow = λ r. kept (cell_of s (sight w o r)) r in
    let G : List Cell → List PlanRow = λ r. kept (cell_of s' (sight w o r)) r in
    each_each K F (den t w o)
    ∙ (each_same_long n (λ r. each F (K r)) (λ r. each K (G r)) (den t w o) h
    (λ r e. append-nil (kept (cell_of s (sight w o (cells_at r outs))) (cells_at r outs))
    ∙ (ap (λ (c : Cell). kept c (cells_at r outs))
    (sym (cell_renamed s (own_row outs n) w (r ∷ o) (cells_at r outs ∷ o) (own_tells outs n r o e)))
    ∙ sym (kept_then (cell_of s' (sight w o r)) r (λ x. cells_at x outs))))
    ∙ sym (each_each G K (den t w o)))

pub keep_keep : (is outs : List ℕ) (n : ℕ) (t : PlanTree) (w : Inputs) (o : List (List Cell)) →
    AllLong n (den t w o) →
    den (keep is (keep outs t)) w o ≡ den (keep (places_in outs n is) t) w o
keep_keep is outs n t w o h =
    each_each (λ r. Whole (cells_at r outs) ∷ []) (λ r. Whole (cells_at r is) ∷ []) (den t w o)
    ∙ each_same_long n (λ r. Whole (cells_at (cells_at r outs) is) ∷ [])
    (λ r. Whole (cells_at r (places_in outs n is)) ∷ []) (den t w o) h
    (λ r e. ap (λ (cs : List Cell). Whole cs ∷ []) (sym (places_at outs n is r e)))

-- a node over the columns at these places, and its like over the wider row, add the same k columns
abbrev pub SameColumns : Nodes → Nodes → List ℕ → ℕ → ℕ → Inputs → List (List Cell) → Type 0
SameColumns node wide outs n k w o = (r : List Cell) → length r ≡ n →
    (x : List Cell) × ((length x ≡ k) × (added wide w o r ≡ r ++ x)
    × (added node w o (cells_at r outs) ≡ cells_at r outs ++ x))

pub keep_columns : (node wide : Nodes) (outs : List ℕ) (n k : ℕ) (t : PlanTree) (w : Inputs)
    (o : List (List Cell)) → AllLong n (den t w o) →
    PlacesIn outs n → SameColumns node wide outs n k w o →
    den (on_each node (keep outs t)) w o ≡ den (keep (outs ++ places n k) (on_each wide t)) w o
keep_columns node wide outs n k t w o h p same =
    let K : List Cell → List PlanRow = λ r. Whole (cells_at r outs) ∷ [] in
    let L : List Cell → List PlanRow = λ r. Whole (cells_at r (outs ++ places n k)) ∷ [] in
    let A : List Cell → List PlanRow = λ r. Whole (added node w o r) ∷ [] in
    let B : List Cell → List PlanRow = λ r. Whole (added wide w o r) ∷ [] in
    on_each_den node (keep outs t) w o
    ∙ (each_each K A (den t w o)
    ∙ (each_same_long n (λ r. each A (K r)) (λ r. each L (B r)) (den t w o) h
    (λ r e. let x = same r e in
    ap (λ (cs : List Cell). Whole cs ∷ [])
    (x.1.2 ∙ (sym (grown_cells r x.0 outs n k e x.1.0 p)
    ∙ ap (λ (z : List Cell). cells_at z (outs ++ places n k)) (sym x.1.1))))
    ∙ (sym (each_each B L (den t w o)) ∙ ap (each L) (sym (on_each_den wide t w o)))))

-- The rule cell: a Filter becomes a cell that is compared with TRUE, and is left out.
true_test : (c : Cell) (z y : List Cell) (outs : List ℕ) → cells_at y outs ≡ cells_at z outs →
    each (λ r. Whole (cells_at r outs) ∷ [])
    (kept (strictly (op_value (Comparing Equals)) (c ∷ Val (Truth true) ∷ [])) y)
    ≡ each (λ r. Whole (cells_at r outs) ∷ []) (kept c z)
true_test (Cond s) z y outs h = refl
true_test (Val Null) z y outs h = refl
true_test (Val (Int n)) z y outs h = refl
true_test (Val (Str t)) z y outs h = refl
true_test (Val (Truth true)) z y outs h = ap (λ (cs : List Cell). Whole cs ∷ []) h
true_test (Val (Truth false)) z y outs h = refl

cell_row : (s : Scalar) (outs : List ℕ) (n : ℕ) (w : Inputs) (o : List (List Cell))
    (r : List Cell) → length r ≡ n → PlacesIn outs n →
    each (λ x. Whole (cells_at x outs) ∷ []) (kept (cell_of s (sight w o r)) r)
    ≡ each (λ x. Whole (cells_at x outs) ∷ [])
    (kept (cell_of (key_test (n, constant (Truth true)))
    (sight w o (r ++ cell_of s (sight w o r) ∷ []))) (r ++ cell_of s (sight w o r) ∷ []) ++ [])
cell_row s outs n w o r e p =
    let c = cell_of s (sight w o r) in let y = r ++ c ∷ [] in
    let here : cell_at y n ≡ c = ap (cell_at y) (sym e) ∙ only_at r [] c in
    sym (ap (each (λ x. Whole (cells_at x outs) ∷ []))
    (append-nil (kept (cell_of (key_test (n, constant (Truth true))) (sight w o y)) y))
    ∙ (ap (λ (d : Cell). each (λ x. Whole (cells_at x outs) ∷ [])
    (kept (strictly (op_value (Comparing Equals)) (d ∷ Val (Truth true) ∷ [])) y)) here
    ∙ true_test c r y outs (front_cells r (c ∷ []) outs
    (subst (λ (m : ℕ). PlacesIn outs m) (sym e) p))))

pub cell_rule : (s : Scalar) (outs : List ℕ) (n : ℕ) (t : PlanTree) (w : Inputs)
    (o : List (List Cell)) → AllLong n (den t w o) → PlacesIn outs n →
    den (keep outs (filter s t)) w o
    ≡ den (keep outs (filter (key_test (n, constant (Truth true))) (extend (more s none) t))) w o
cell_rule s outs n t w o h p =
    let K : List Cell → List PlanRow = λ r. Whole (cells_at r outs) ∷ [] in
    let F : List Cell → List PlanRow = λ r. kept (cell_of s (sight w o r)) r in
    let E : List Cell → List PlanRow = λ r. Whole (r ++ cell_of s (sight w o r) ∷ []) ∷ [] in
    let T : List Cell → List PlanRow = λ r.
    kept (cell_of (key_test (n, constant (Truth true))) (sight w o r)) r in
    each_each F K (den t w o)
    ∙ (each_same_long n (λ r. each K (F r)) (λ r. each K (each T (E r))) (den t w o) h
    (λ r e. cell_row s outs n w o r e p)
    ∙ (sym (each_each (λ r. each T (E r)) K (den t w o))
    ∙ ap (each K) (sym (each_each E T (den t w o)))))
