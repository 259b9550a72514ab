-- A chain stands for its wide plan, whose equalities and columns a Lookup reads.
use Rattle.std.proofs.Common.{◌≡◌, ℕ, zero, suc, ◌+◌, ◌<◌, ◌≤◌, Bool, true, false, cond, ◌&&◌, ◌||◌}
use Rattle.std.proofs.Common.{nat_eq, List, [], ◌∷◌, ◌++◌, length, refl, ap, sym, ◌∙◌, subst, arith}
use Rattle.std.proofs.Common.{append_assoc, length-append}
use Rattle.std.proofs.lemmas.List.{append-nil}
use Rattle.sql_values.specs.declared.operators.Comparison.TheVariants.{Equals}
use Rattle.sql_values.specs.declared.value.Value.TheVariants.{Bool as Truth}
use Rattle.row_types.specs.Cells.{PlanRow, Whole}
use Rattle.row_types.specs.declared.cell.Cell.{Cell}
use Rattle.rel_algebra.specs.Endings.{op_value}
use Rattle.rel_algebra.specs.Even.{AllLong, IsEven, PlacesIn, TablesEven}
use Rattle.rel_algebra.specs.Joins.{places}
use Rattle.rel_algebra.specs.Plain.{Inputs}
use Rattle.rel_algebra.specs.Plan.{Kind, Nodes, PlanTree, Scalar, Scalars, Way, added, anew, apply}
use Rattle.rel_algebra.specs.Plan.{apply_by, apply_cells, cell_at, cell_of, cells_at, cells_of}
use Rattle.rel_algebra.specs.Plan.{column, constant, cross, den, each, extend, extend_by, filter}
use Rattle.rel_algebra.specs.Plan.{found, group, has_key, keep, kept, kind_width, left_outer}
use Rattle.rel_algebra.specs.Plan.{lookup, meeting, more, no_node, none, on_each, other_places}
use Rattle.rel_algebra.specs.Plan.{scalar_count, scan, settle, sight, Sight, sort, strict, strictly}
use Rattle.rel_algebra.specs.Plan.{tree_width, unit_row, values, word}
use Rattle.rel_algebra.specs.Removal.{chained, is_key, less, kind_stays, stays, stays_all}
use Rattle.rel_algebra.specs.Removal.{tree_within, way_stays}
use Rattle.rel_algebra.specs.Renaming.{own_row, place_in, renamed_kind, renamed_scalar}
use Rattle.rel_algebra.specs.Renaming.{renamed_scalars, renamed_tree, renamed_way}
use Rattle.rel_algebra.specs.Tree.{Comparing}
use Rattle.rel_algebra.specs.Widening.{Wide, at_base, key_filters, key_test, keys_from, lookup_keys}
use Rattle.rel_algebra.specs.Widening.{lookup_plan, test_places, wide_tree, widened, with_cell}
use Rattle.rel_algebra.specs.Widening.{with_columns, with_filter, with_keep, with_key, with_test}
use Rattle.rel_algebra.proofs.Growing.{first_columns, grows_by, only_at}
use Rattle.rel_algebra.proofs.Even.{cells_at_long, each_long, kept_long, rows_long}
use Rattle.rel_algebra.proofs.Nodes.{apply_cells_long, cells_long, on_each_den, wider}
use Rattle.rel_algebra.proofs.Places.{cells_append, each_same_long, kept_then, own_cells, own_tells}
use Rattle.rel_algebra.proofs.Places.{place_below, places_append, places_below, places_in_below}
use Rattle.rel_algebra.proofs.Places.{places_in_long, places_wide}
use Rattle.rel_algebra.proofs.Renamed.{cells_renamed, count_renamed, den_renamed}
use Rattle.rel_algebra.proofs.Renamed.{kind_width_renamed, node_renamed, width_renamed}
use Rattle.rel_algebra.proofs.Rows.{each_each, each_same, each_whole}
use Rattle.rel_algebra.proofs.Rules.{SameColumns, TestsIn, cell_rule, filters_append, filters_long}
use Rattle.rel_algebra.proofs.Rules.{keep_columns, keep_filter, keep_keep, key_cell, key_is}
use Rattle.rel_algebra.proofs.Rules.{late_all, on_each_same}
use Rattle.rel_algebra.proofs.Truths.{both, left_true, never, right_true}
use Rattle.rel_algebra.proofs.Widths.{places_long}

-- t's rows are those of the wide plan
pub record Stands (c : Wide) (t : PlanTree) (w : Inputs) (o : List (List Cell)) : Type 0 where
  pub same : den t w o ≡ den (wide_tree c) w o
  pub long : AllLong (tree_width c.below) (den c.below w o)
  pub outs : PlacesIn c.outs (tree_width c.below)
  pub tests : TestsIn c.tests (tree_width c.below)
  pub count : length c.outs ≡ tree_width t

pub tests_wide : (tests : List (ℕ × Scalar)) (n m : ℕ) → n ≤ m → TestsIn tests n → TestsIn tests m
tests_wide [] n m l h = tt
tests_wide (k ∷ tests) n m l h = (let p = h.0 in omega (arith, p), tests_wide tests n m l h.1)

pub tests_append : (a b : List (ℕ × Scalar)) (n : ℕ) → TestsIn a n → TestsIn b n →
    TestsIn (a ++ b) n
tests_append [] b n h k = k
tests_append (x ∷ a) b n h k = (h.0, tests_append a b n h.1 k)

keep_same : (outs : List ℕ) (t u : PlanTree) (w : Inputs) (o : List (List Cell)) →
    den t w o ≡ den u w o → den (keep outs t) w o ≡ den (keep outs u) w o
keep_same outs t u w o h = ap (each (λ r. Whole (cells_at r outs) ∷ [])) h

filter_same : (s : Scalar) (t u : PlanTree) (w : Inputs) (o : List (List Cell)) →
    den t w o ≡ den u w o → den (filter s t) w o ≡ den (filter s u) w o
filter_same s t u w o h = ap (each (λ r. kept (cell_of s (sight w o r)) r)) h

-- the base
pub base_stands : (t : PlanTree) (S : List ℕ → ℕ) (w : Inputs) → TablesEven w S → IsEven t S →
    (o : List (List Cell)) → Stands (at_base t) t w o
base_stands t S w fits h o =
    let n = tree_width t in let long = rows_long t S w fits h o in record {
      same = sym (each_same_long n (λ r. Whole (cells_at r (places 0 n)) ∷ []) (λ r. Whole r ∷ [])
          (den t w o) long
          (λ r e. ap (λ (cs : List Cell). Whole cs ∷ []) (own_cells r n e))
          ∙ each_whole (den t w o));
      long = long;
      outs = places_below 0 n n (omega arith);
      tests = tt;
      count = places_long 0 n;
    }

-- nodes that add columns
nodes_long : (wide : Nodes) (n k : ℕ) (t : PlanTree) (w : Inputs) (o : List (List Cell)) →
    AllLong n (den t w o) →
    ((r : List Cell) → length r ≡ n → length (added wide w o r) ≡ n + k) →
    AllLong (n + k) (den (on_each wide t) w o)
nodes_long wide n k t w o h l =
    subst (λ (rows : List PlanRow). AllLong (n + k) rows) (sym (on_each_den wide t w o))
    (each_long n (n + k) (λ r. Whole (added wide w o r) ∷ []) (den t w o) h (λ r e. (l r e, tt)))

same_long : (node wide : Nodes) (outs : List ℕ) (n k : ℕ) (w : Inputs) (o : List (List Cell)) →
    SameColumns node wide outs n k w o →
    (r : List Cell) → length r ≡ n → length (added wide w o r) ≡ n + k
same_long node wide outs n k w o same r e =
    let x = same r e in ap (λ (z : List Cell). length z) x.1.1 ∙ wider r x.0 n k e x.1.0

columns_stand : (node wide : Nodes) (k : ℕ) (c : Wide) (t : PlanTree) (w : Inputs)
    (o : List (List Cell)) → Stands c t w o →
    SameColumns node wide c.outs (tree_width c.below) k w o → tree_width (on_each wide c.below)
    ≡ tree_width c.below + k →
    tree_width (on_each node t) ≡ tree_width t + k →
    Stands (with_columns wide k c) (on_each node t) w o
columns_stand node wide k c t w o h same ew et =
    let n = tree_width c.below in let tests = key_filters c.tests c.below in
    let long = nodes_long wide n k c.below w o h.long (same_long node wide c.outs n k w o same) in
    let grown : n ≤ tree_width (on_each wide c.below) = omega (arith, ew) in record {
      same = on_each_same node t (wide_tree c) w o h.same
          ∙ (keep_columns node wide c.outs n k tests w o (filters_long c.tests n c.below w o h.long)
          h.outs same
          ∙ keep_same (c.outs ++ places n k) (on_each wide tests)
          (key_filters c.tests (on_each wide c.below)) w o
          (late_all wide c.tests n c.below w o h.tests h.long));
      long = subst (λ (m : ℕ). AllLong m (den (on_each wide c.below) w o)) (sym ew) long;
      outs = places_append c.outs (places n k) (tree_width (on_each wide c.below))
          (places_wide c.outs n (tree_width (on_each wide c.below)) grown h.outs)
          (places_below n k (tree_width (on_each wide c.below)) (omega (arith, ew)));
      tests = tests_wide c.tests n (tree_width (on_each wide c.below)) grown h.tests;
      count = length-append c.outs (places n k)
          ∙ (both (λ (a b : ℕ). a + b) _ _ _ _ h.count (places_long n k) ∙ sym et);
    }

extend_same : (ss : Scalars) (outs : List ℕ) (n : ℕ) (w : Inputs) (o : List (List Cell)) →
    SameColumns (extend_by ss no_node) (extend_by (renamed_scalars ss (own_row outs n)) no_node)
    outs n (scalar_count ss) w o
extend_same ss outs n w o r e =
    let names = own_row outs n in let x = cells_of (renamed_scalars ss names) (sight w o r) in (
      x,
      (
        cells_long (renamed_scalars ss names) (sight w o r) ∙ count_renamed ss names,
        refl,
        ap (λ (cs : List Cell). cells_at r outs ++ cs)
            (sym (cells_renamed ss names w (r ∷ o) (cells_at r outs ∷ o) (own_tells outs n r o e))),
      ),
    )

apply_same : (when : Scalar) (kind : Kind) (way : Way) (inner : PlanTree) (outs : List ℕ) (n : ℕ)
    (w : Inputs) (o : List (List Cell)) →
    let names = own_row outs n in SameColumns (apply_by when kind way inner no_node)
    (apply_by (renamed_scalar when names) (renamed_kind kind names) (renamed_way way names)
    (renamed_tree inner names) no_node) outs n (kind_width kind) w o
apply_same when kind way inner outs n w o r e =
    let names = own_row outs n in let z = cells_at r outs in let tells = own_tells outs n r o e in
    let s' = sight w o r in let rows = found (renamed_way way names)
    (tree_width (renamed_tree inner names)) s' (den (renamed_tree inner names) w (r ∷ o)) in
    let x = apply_cells (renamed_scalar when names) (renamed_kind kind names) s' rows in (
      x,
      (
        apply_cells_long (renamed_scalar when names) (renamed_kind kind names) s' rows
            ∙ kind_width_renamed kind names,
        refl,
        ap (λ (cs : List Cell). z ++ cs)
            (sym (node_renamed when kind way names (tree_width inner)
            (tree_width (renamed_tree inner names)) w (r ∷ o) (z ∷ o)
            (den inner w (z ∷ o)) (den (renamed_tree inner names) w (r ∷ o)) tells
            (width_renamed inner names) (den_renamed inner names w (r ∷ o) (z ∷ o) tells))),
      ),
    )

-- a Keep
keep_stands : (is : List ℕ) (c : Wide) (t : PlanTree) (w : Inputs) (o : List (List Cell)) →
    Stands c t w o → PlacesIn is (tree_width t) →
    Stands (with_keep is c) (keep is t) w o
keep_stands is c t w o h p =
    let n = tree_width c.below in record {
      same = keep_same is t (wide_tree c) w o h.same
          ∙ keep_keep is c.outs n (key_filters c.tests c.below) w o
          (filters_long c.tests n c.below w o h.long);
      long = h.long;
      outs = places_in_below c.outs n is h.outs (subst (λ (m : ℕ). PlacesIn is m) (sym h.count) p);
      tests = h.tests;
      count = places_in_long c.outs n is;
    }

-- a Filter
abbrev pub own : Wide → Scalar → Scalar
own c s = renamed_scalar s (own_row c.outs (tree_width c.below))

filter_below : (s : Scalar) (c : Wide) (t : PlanTree) (w : Inputs) (o : List (List Cell)) →
    Stands c t w o →
    den (filter s t) w o ≡ den (keep c.outs (filter (own c s) (key_filters c.tests c.below))) w o
filter_below s c t w o h =
    let n = tree_width c.below in
    filter_same s t (wide_tree c) w o h.same
    ∙ keep_filter s c.outs n (key_filters c.tests c.below) w o
    (filters_long c.tests n c.below w o h.long)

plain_test : (s : Scalar) (c : Wide) (t : PlanTree) (w : Inputs) (o : List (List Cell)) →
    Stands c t w o → c.tests ≡ [] →
    Stands (record { below = filter (own c s) c.below; tests = c.tests; outs = c.outs })
    (filter s t) w o
plain_test s c t w o h e =
    let n = tree_width c.below in let s' = own c s in record {
      same = filter_below s c t w o h
          ∙ (ap (λ (tests : List (ℕ × Scalar)). den
          (keep c.outs (filter s' (key_filters tests c.below))) w o) e
          ∙ ap (λ (tests : List (ℕ × Scalar)). den
          (keep c.outs (key_filters tests (filter s' c.below))) w o) (sym e));
      long = each_long n n (λ r. kept (cell_of s' (sight w o r)) r) (den c.below w o) h.long
          (λ r d. kept_long n (cell_of s' (sight w o r)) r d);
      outs = h.outs;
      tests = h.tests;
      count = h.count;
    }

cell_stands : (s : Scalar) (c : Wide) (t : PlanTree) (w : Inputs) (o : List (List Cell)) →
    Stands c t w o → Stands (with_cell (own c s) c) (filter s t) w o
cell_stands s c t w o h =
    let n = tree_width c.below in let s' = own c s in
    let k : ℕ × Scalar = (n, constant (Truth true)) in
    let wide : Nodes = extend_by (more s' none) no_node in let u = key_filters c.tests c.below in
    record {
      same = filter_below s c t w o h
          ∙ (cell_rule s' c.outs n u w o (filters_long c.tests n c.below w o h.long) h.outs
          ∙ keep_same c.outs (filter (key_test k) (extend (more s' none) u))
          (key_filters (c.tests ++ k ∷ []) (extend (more s' none) c.below)) w o
          (filter_same (key_test k) (extend (more s' none) u)
          (key_filters c.tests (extend (more s' none) c.below)) w o
          (late_all wide c.tests n c.below w o h.tests h.long)
          ∙ ap (λ (v : PlanTree). den v w o)
          (sym (filters_append c.tests k (extend (more s' none) c.below)))));
      long = nodes_long wide n 1 c.below w o h.long
          (λ r e. wider r (cell_of s' (sight w o r) ∷ []) n 1 e refl);
      outs = places_wide c.outs n (n + 1) (omega arith) h.outs;
      tests = tests_append c.tests (k ∷ []) (n + 1)
          (tests_wide c.tests n (n + 1) (omega arith) h.tests) (omega arith, tt);
      count = h.count;
    }

test_stands : (tests : List (ℕ × Scalar)) (s : Scalar) (c : Wide) (t : PlanTree) (w : Inputs)
    (o : List (List Cell)) → Stands c t w o → c.tests ≡ tests →
    Stands (with_test tests (own c s) c) (filter s t) w o
test_stands [] s c t w o h e = plain_test s c t w o h e
test_stands (k ∷ tests) s c t w o h e = cell_stands s c t w o h

pub less_lt : (i n : ℕ) → less i n ≡ true → i < n
less_lt i zero h = never h
less_lt zero (suc n) h = omega arith
less_lt (suc i) (suc n) h = let k = less_lt i n h in omega (arith, k)

key_stands : (s : Scalar) (c : Wide) (t : PlanTree) (w : Inputs) (o : List (List Cell)) →
    Stands c t w o → is_key (tree_width t) s ≡ true →
    Stands (with_key s c) (filter s t) w o
key_stands (word (strict (Comparing Equals)) (more (column zero i) (more (column (suc d) j) none)))
    c t w o h p =
    let n = tree_width c.below in let k : ℕ × Scalar = (place_in c.outs n i, column d j) in
    let s : Scalar = word (strict (Comparing Equals))
    (more (column zero i) (more (column (suc d) j) none)) in
    let l = less_lt i (tree_width t) p in record {
      same = filter_below s c t w o h
          ∙ ap (λ (v : PlanTree). den (keep c.outs v) w o) (sym (filters_append c.tests k c.below));
      long = h.long;
      outs = h.outs;
      tests = tests_append c.tests (k ∷ []) n h.tests
          (place_below c.outs n i h.outs (let e = h.count in omega (arith, l, e)), tt);
      count = h.count;
    }
key_stands _ c t w o h p = never p

by_stays : (b : Bool) (s : Scalar) (c : Wide) (t : PlanTree) (w : Inputs) (o : List (List Cell)) →
    stays s 1 ≡ b → (b || is_key (tree_width t) s) ≡ true →
    Stands c t w o → Stands (with_filter s c) (filter s t) w o
by_stays true s c t w o e p h =
    subst (λ (b : Bool). Stands (cond b (with_test c.tests (own c s) c) (with_key s c))
    (filter s t) w o) (sym e) (test_stands c.tests s c t w o h refl)
by_stays false s c t w o e p h =
    subst (λ (b : Bool). Stands (cond b (with_test c.tests (own c s) c) (with_key s c))
    (filter s t) w o) (sym e) (key_stands s c t w o h p)

pub stands : (t : PlanTree) (S : List ℕ → ℕ) (w : Inputs) → TablesEven w S → IsEven t S →
    chained t ≡ true → (o : List (List Cell)) →
    Stands (widened t) t w o
stands (extend ss t) S w fits h p o =
    let c = widened t in let names = own_row c.outs (tree_width c.below) in
    columns_stand (extend_by ss no_node) (extend_by (renamed_scalars ss names) no_node)
    (scalar_count ss) c t w o
    (stands t S w fits h (right_true (stays_all ss 1) (chained t) p) o)
    (extend_same ss c.outs (tree_width c.below) w o)
    (ap (λ (k : ℕ). tree_width c.below + k) (count_renamed ss names)) refl
stands (apply when kind way inner t) S w fits h p o =
    let c = widened t in let names = own_row c.outs (tree_width c.below) in
    columns_stand (apply_by when kind way inner no_node)
    (apply_by (renamed_scalar when names) (renamed_kind kind names) (renamed_way way names)
    (renamed_tree inner names) no_node) (kind_width kind) c t w o
    (stands t S w fits h.2 (right_true ((stays when 1 && (way_stays way 1 && kind_stays kind 1))
    && tree_within inner 1) (chained t) p) o)
    (apply_same when kind way inner c.outs (tree_width c.below) w o)
    (ap (λ (k : ℕ). tree_width c.below + k) (kind_width_renamed kind names)) refl
stands (filter s t) S w fits h p o =
    by_stays (stays s 1) s (widened t) t w o refl
    (left_true (stays s 1 || is_key (tree_width t) s) (chained t) p)
    (stands t S w fits h (right_true (stays s 1 || is_key (tree_width t) s) (chained t) p) o)
stands (keep is t) S w fits h p o = keep_stands is (widened t) t w o (stands t S w fits h.1 p o) h.0
stands unit_row S w fits h p o = base_stands unit_row S w fits h o
stands (scan name n) S w fits h p o = base_stands (scan name n) S w fits h o
stands (values lists) S w fits h p o = base_stands (values lists) S w fits h o
stands (cross a b) S w fits h p o = base_stands (cross a b) S w fits h o
stands (left_outer nodes s n a b) S w fits h p o =
    base_stands (left_outer nodes s n a b) S w fits h o
stands (settle t) S w fits h p o = base_stands (settle t) S w fits h o
stands (group keys ags t) S w fits h p o = base_stands (group keys ags t) S w fits h o
stands (sort keys t) S w fits h p o = base_stands (sort keys t) S w fits h o

-- What a Lookup reads.
pub filters_meet : (keys : List (ℕ × Scalar)) (t : PlanTree) (w : Inputs) (o : List (List Cell))
    (row : List Cell) →
    den (key_filters keys t) w (row ∷ o) ≡ meeting keys (sight w o row) (den t w (row ∷ o))
filters_meet [] t w o row = refl
filters_meet (k ∷ keys) t w o row =
    filters_meet keys (filter (key_test k) t) w o row
    ∙ ap (meeting keys (sight w o row))
    (each_same (λ r. kept (cell_of (key_test k) (sight w (row ∷ o) r)) r)
    (λ r. kept (key_cell k w (row ∷ o) r) r)
    (den t w (row ∷ o)) (λ r. ap (λ (c : Cell). kept c r) (key_is k w (row ∷ o) r)))

-- the tests' columns stand from a place on
abbrev pub KeysAt : List ℕ → ℕ → List (ℕ × Scalar) → Type 0
KeysAt outs from [] = Unit {0}
KeysAt outs from (k ∷ tests) = ((z : List Cell) → cell_at (cells_at z outs) from ≡ cell_at z k.0)
    × KeysAt outs (suc from) tests

keys_at : (outs : List ℕ) (n : ℕ) (tests : List (ℕ × Scalar)) → length outs ≡ n →
    KeysAt (outs ++ test_places tests) n tests
keys_at outs n [] e = tt
keys_at outs n (k ∷ tests) e = (
  λ z. ap (λ (cs : List Cell). cell_at cs n) (cells_append z outs (k.0 ∷ test_places tests))
      ∙ (ap (cell_at (cells_at z outs ++ cell_at z k.0 ∷ cells_at z (test_places tests))) (sym e
      ∙ sym (cells_at_long z outs))
      ∙ only_at (cells_at z outs) (cells_at z (test_places tests)) (cell_at z k.0)),
  subst (λ (is : List ℕ). KeysAt is (suc n) tests)
      (append_assoc outs (k.0 ∷ []) (test_places tests))
      (keys_at (outs ++ k.0 ∷ []) (suc n) tests (length-append outs (k.0 ∷ [])
      ∙ (let d : length outs + 1 ≡ suc n = omega (arith, e) in d))),
)

meet_kept : (tests : List (ℕ × Scalar)) (outs : List ℕ) (from : ℕ) (s : Sight)
    (rows : List PlanRow) → KeysAt outs from tests →
    meeting (keys_from from tests) s (each (λ r. Whole (cells_at r outs) ∷ []) rows)
    ≡ each (λ r. Whole (cells_at r outs) ∷ []) (meeting tests s rows)
meet_kept [] outs from s rows h = refl
meet_kept (k ∷ tests) outs from s rows h =
    let K : List Cell → List PlanRow = λ r. Whole (cells_at r outs) ∷ [] in
    let cell : Cell → Cell = λ c. strictly (op_value (Comparing Equals)) (c ∷ cell_of k.1 s ∷ []) in
    let F : List Cell → List PlanRow = λ r. kept (cell (cell_at r from)) r in
    let G : List Cell → List PlanRow = λ r. kept (cell (cell_at r k.0)) r in
    ap (meeting (keys_from (suc from) tests) s)
    (each_each K F rows
    ∙ (each_same (λ r. each F (K r)) (λ r. each K (G r)) rows
    (λ r. append-nil (kept (cell (cell_at (cells_at r outs) from)) (cells_at r outs))
    ∙ (ap (λ (c : Cell). kept (cell c) (cells_at r outs)) (h.0 r)
    ∙ sym (kept_then (cell (cell_at r k.0)) r (λ x. cells_at x outs))))
    ∙ sym (each_each G K rows)))
    ∙ meet_kept tests outs (suc from) s (each G rows) h.1

key_before : (tests : List (ℕ × Scalar)) (from i : ℕ) → i < from → has_key (keys_from from tests) i
    ≡ false
key_before [] from i l = refl
key_before (k ∷ tests) from i l =
    λ t. unequal from i l t || key_before tests (suc from) i (omega arith) t
  where
    unequal : (n m : ℕ) → m < n → nat_eq n m ≡ false
    unequal n m d = grind arith

or_right : (a b : Bool) → b ≡ true → (a || b) ≡ true
or_right true b h = refl
or_right false b h = h

unequal_above : (a b : ℕ) → nat_eq a b ≡ false → a ≤ b → suc a ≤ b
unequal_above a b d e = grind arith

here_or : (b : Bool) (from i : ℕ) (rest : Bool) → nat_eq from i ≡ b → from ≤ i →
    (suc from ≤ i → rest ≡ true) → (nat_eq from i || rest) ≡ true
here_or true from i rest e l h = ap (λ (c : Bool). c || rest) e
here_or false from i rest e l h = or_right (nat_eq from i) rest (h (unequal_above from i e l))

key_there : (tests : List (ℕ × Scalar)) (from i : ℕ) → from ≤ i → i < from + length tests →
    has_key (keys_from from tests) i ≡ true
key_there [] from i l m = absurd (omega arith)
key_there (k ∷ tests) from i l m =
    here_or (nat_eq from i) from i (has_key (keys_from (suc from) tests) i) refl l
    (λ d. key_there tests (suc from) i d (omega arith))

others_none : (keys : List (ℕ × Scalar)) (i m : ℕ) →
    ((j : ℕ) → i ≤ j → j < i + m → has_key keys j ≡ true) → other_places keys i m ≡ []
others_none keys i zero h = refl
others_none keys i (suc m) h =
    ap (λ (b : Bool). cond b (other_places keys (suc i) m) (i ∷ other_places keys (suc i) m))
    (h i (omega arith) (omega arith))
    ∙ others_none keys (suc i) m (λ j l k. h j (omega arith) (omega arith))

others_all : (keys : List (ℕ × Scalar)) (i n m : ℕ) →
    ((j : ℕ) → i ≤ j → j < i + n → has_key keys j ≡ false) →
    ((j : ℕ) → i + n ≤ j → j < i + n + m → has_key keys j ≡ true) → other_places keys i (n + m)
    ≡ places i n
others_all keys i zero m h k =
    ap (other_places keys i) (let e : 0 + m ≡ m = omega arith in e)
    ∙ others_none keys i m (λ j l d. k j (omega arith) (omega arith))
others_all keys i (suc n) m h k =
    ap (other_places keys i) (let e : suc n + m ≡ suc (n + m) = omega arith in e)
    ∙ (ap (λ (b : Bool). cond b (other_places keys (suc i) (n + m))
    (i ∷ other_places keys (suc i) (n + m))) (h i (omega arith) (omega arith))
    ∙ ap (λ (is : List ℕ). i ∷ is)
    (others_all keys (suc i) n m (λ j l d. h j (omega arith) (omega arith))
    (λ j l d. k j (omega arith) (omega arith))))

pub others_from : (n : ℕ) (tests : List (ℕ × Scalar)) →
    other_places (keys_from n tests) 0 (n + length tests) ≡ places 0 n
others_from n tests =
    others_all (keys_from n tests) 0 n (length tests) (λ j l d. key_before tests n j (omega arith))
    (λ j l d. key_there tests n j (omega arith) (omega arith))

test_places_long : (tests : List (ℕ × Scalar)) → length (test_places tests) ≡ length tests
test_places_long [] = refl
test_places_long (k ∷ tests) = ap suc (test_places_long tests)

pub lookup_width : (c : Wide) → tree_width (lookup_plan c) ≡ length c.outs + length c.tests
lookup_width c = length-append c.outs (test_places c.tests)
    ∙ ap (λ (n : ℕ). length c.outs + n) (test_places_long c.tests)

pub lookup_others : (c : Wide) → other_places (lookup_keys c) 0 (tree_width (lookup_plan c))
    ≡ places 0 (length c.outs)
lookup_others c = ap (other_places (lookup_keys c) 0) (lookup_width c)
    ∙ others_from (length c.outs) c.tests

-- what is found is what the chain gives
pub lookup_finds : (c : Wide) (t : PlanTree) (w : Inputs) (o : List (List Cell)) (row : List Cell) →
    Stands c t w (row ∷ o) →
    found (lookup (lookup_keys c)) (tree_width (lookup_plan c)) (sight w o row)
    (den (lookup_plan c) w (row ∷ o)) ≡ den t w (row ∷ o)
lookup_finds c t w o row h =
    let n = length c.outs in let L = c.outs ++ test_places c.tests in
    let rows = den c.below w (row ∷ o) in let s = sight w o row in
    let K : List Cell → List PlanRow = λ r. Whole (cells_at r L) ∷ [] in
    both (λ (is : List ℕ) (rs : List PlanRow). each (λ r. Whole (cells_at r is) ∷ []) rs) _ _ _ _
    (lookup_others c)
    (meet_kept c.tests L n s rows (keys_at c.outs n c.tests refl))
    ∙ (each_each K (λ r. Whole (cells_at r (places 0 n)) ∷ []) (meeting c.tests s rows)
    ∙ (each_same (λ r. Whole (cells_at (cells_at r L) (places 0 n)) ∷ [])
    (λ r. Whole (cells_at r c.outs) ∷ []) (meeting c.tests s rows)
    (λ r. ap (λ (cs : List Cell). Whole cs ∷ [])
    (ap (λ (z : List Cell). cells_at z (places 0 n)) (cells_append r c.outs (test_places c.tests))
    ∙ first_columns (cells_at r c.outs) (cells_at r c.outs ++ cells_at r (test_places c.tests)) n
    (cells_at_long r c.outs)
    (grows_by (cells_at r c.outs) (cells_at r (test_places c.tests)))))
    ∙ (ap (each (λ r. Whole (cells_at r c.outs) ∷ [])) (sym (filters_meet c.tests c.below w o row))
    ∙ sym h.same)))

-- The rule lookup: an Apply of a chain is a Lookup.
pub lookup_rule : (when : Scalar) (kind : Kind) (inner input : PlanTree) (S : List ℕ →
    ℕ) (w : Inputs) → TablesEven w S → IsEven inner S →
    chained inner ≡ true → (o : List (List Cell)) →
    den (apply when kind (lookup (lookup_keys (widened inner))) (lookup_plan (widened inner)) input)
    w o ≡ den (apply when kind anew inner input) w o
lookup_rule when kind inner input S w fits h p o =
    let c = widened inner in
    each_same (λ r. Whole (r ++ apply_cells when kind (sight w o r)
    (found (lookup (lookup_keys c)) (tree_width (lookup_plan c)) (sight w o r)
    (den (lookup_plan c) w (r ∷ o)))) ∷ [])
    (λ r. Whole (r ++ apply_cells when kind (sight w o r) (den inner w (r ∷ o))) ∷ [])
    (den input w o)
    (λ r. ap (λ (rows : List PlanRow). Whole (r ++ apply_cells when kind (sight w o r) rows) ∷ [])
    (lookup_finds c inner w o r (stands inner S w fits h p (r ∷ o))))

-- what a Lookup means
pub lookup_means : (when : Scalar) (kind : Kind) (keys : List (ℕ × Scalar)) (inner input : PlanTree)
    (w : Inputs) (o : List (List Cell)) →
    den (apply when kind (lookup keys) inner input) w o
    ≡ den (apply when kind anew
    (keep (other_places keys 0 (tree_width inner)) (key_filters keys inner)) input) w o
lookup_means when kind keys inner input w o =
    each_same (λ r. Whole (r ++ apply_cells when kind (sight w o r)
    (found (lookup keys) (tree_width inner) (sight w o r) (den inner w (r ∷ o)))) ∷ [])
    (λ r. Whole (r ++ apply_cells when kind (sight w o r)
    (den (keep (other_places keys 0 (tree_width inner)) (key_filters keys inner)) w (r ∷ o))) ∷ [])
    (den input w o)
    (λ r. ap (λ (rows : List PlanRow). Whole (r ++ apply_cells when kind (sight w o r)
    (each (λ x. Whole (cells_at x (other_places keys 0 (tree_width inner))) ∷ []) rows)) ∷ [])
    (sym (filters_meet keys inner w o r)))
