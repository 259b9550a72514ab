-- Runs of nodes, and expressions over the columns that they add.
use Rattle.std.proofs.Common.{◌≡◌, ℕ, zero, suc, ◌+◌, ◌<◌, true, List, [], ◌∷◌, ◌++◌, length, map}
use Rattle.std.proofs.Common.{refl, ap, sym, ◌∙◌, subst, arith, length-append}
use Rattle.std.proofs.lemmas.List.{length-map, length-replicate}
use Rattle.sql_values.specs.declared.value.Value.TheVariants.{Bool as Truth}
use Rattle.row_types.specs.Cells.{PlanRow, Whole}
use Rattle.row_types.specs.Rows.{Row}
use Rattle.row_types.specs.declared.cell.Cell.{Cell}
use Rattle.row_types.specs.declared.cell.Cell.TheVariants.{Cond, Val}
use Rattle.rel_algebra.specs.Emit.{Emitted, EmittedAll, Env, Place, asked, asked_member, at, below}
use Rattle.rel_algebra.specs.Emissions.{asked_where}
use Rattle.rel_algebra.specs.Emit.{columns_within, entered, first_and, given, joined_nodes, lifted}
use Rattle.rel_algebra.specs.Emit.{nowhere, outward, passed, read, scalar_count, singly}
use Rattle.rel_algebra.specs.Emit.{then_columns, width}
use Rattle.rel_algebra.specs.Endings.{Ending, row_at, value_at}
use Rattle.rel_algebra.specs.Plain.{Inputs, Scope, within}
use Rattle.rel_algebra.specs.Plan.{anew, Scalar, apply_cells, found, tree_width, Kind, Nodes}
use Rattle.rel_algebra.specs.Plan.{PlanTree, Scalars, Sight, added, aggregate, all_or_first}
use Rattle.rel_algebra.specs.Plan.{applied, apply, apply_by, cell_of, cells_of, collapse}
use Rattle.rel_algebra.specs.Plan.{collapse_as, collected, constant, den, each, exists, extend}
use Rattle.rel_algebra.specs.Plan.{extend_by, finish_cells, judged, kind_width, member, member_cell}
use Rattle.rel_algebra.specs.Plan.{more, no_node, none, on_each, shown, sight, single, values_of}
use Rattle.rel_algebra.specs.Plan.{into, into_cells, cells_at}
use Rattle.rel_algebra.specs.Joins.{places}
use Rattle.rel_algebra.specs.States.{no_data}
use Rattle.sql_conditions.specs.Conditions.{area_of}
use Rattle.sql_conditions.specs.declared.condition.EngineCondition.TheVariants.{SeveralRows}
use Rattle.rel_algebra.specs.Theorem.{Agrees, outside}
use Rattle.rel_algebra.specs.Tree.{Aggregate}
use Rattle.rel_algebra.proofs.Growing.{Grows, grown_at, grown_column, grows_at, grows_by}
use Rattle.rel_algebra.proofs.Growing.{grows_same, grows_trans, shown_at, shown_long}
use Rattle.rel_algebra.proofs.Truths.{both}
use Rattle.rel_algebra.proofs.Rows.{AreCells, are_cells, each_each, each_whole}
use Rattle.std.proofs.Common.{Err, Ok}

-- Widths.
pub cells_long : (ss : Scalars) (s : Sight) → length (cells_of ss s) ≡ scalar_count ss
cells_long none s = refl
cells_long (more e ss) s = ap suc (cells_long ss s)

pub finish_long : (ags : List (Aggregate × ℕ)) (rs : List Row) → length (finish_cells ags rs)
    ≡ length ags
finish_long [] rs = refl
finish_long (a ∷ ags) rs = ap suc (finish_long ags rs)

first_long : (n : ℕ) (e : Ending Row) (cs : List Cell) → AreCells e cs → length cs ≡ n →
    length (all_or_first n e) ≡ n
first_long n (Ok vs) cs h l = ap (λ (ds : List Cell). length ds) (sym h) ∙ l
first_long n (Err s) cs h l = length-replicate n (Cond s)

cells_at_long : (row : List Cell) (is : List ℕ) → length (cells_at row is) ≡ length is
cells_at_long row [] = refl
cells_at_long row (i ∷ is) = ap suc (cells_at_long row is)

pub places_count : (i n : ℕ) → length (places i n) ≡ n
places_count i zero = refl
places_count i (suc n) = ap suc (places_count (suc i) n)

into_long : (n : ℕ) (rs : List Row) → length (into_cells n rs) ≡ n
into_long n [] = length-replicate n (Cond no_data)
into_long n (r ∷ []) = cells_at_long (shown r) (places 0 n) ∙ places_count 0 n
into_long n (r ∷ s ∷ rs) = length-replicate n (Cond (area_of SeveralRows))

judged_long : (kind : Kind) (c : Cell) (rs : List Row) → length (judged kind c rs) ≡ kind_width kind
judged_long single c rs = refl
judged_long exists c rs = refl
judged_long (member s) (Val x) rs = refl
judged_long (member s) (Cond a) rs = refl
judged_long (aggregate ags) c rs = first_long (length ags) (values_of (finish_cells ags rs))
    (finish_cells ags rs) (are_cells (finish_cells ags rs))
    (finish_long ags rs)
judged_long (into n) c rs = into_long n rs

as_long : (kind : Kind) (c : Cell) (e : Ending (List Row)) → length (collapse_as kind c e)
    ≡ kind_width kind
as_long kind c (Ok rs) = judged_long kind c rs
as_long kind c (Err s) = length-replicate (kind_width kind) (Cond s)

collapse_long : (kind : Kind) (c : Cell) (rows : List PlanRow) → length (collapse kind c rows)
    ≡ kind_width kind
collapse_long single c rows = as_long single c (collected rows)
collapse_long exists c rows = as_long exists c (collected rows)
collapse_long (member s) (Val x) rows = as_long (member s) (Val x) (collected rows)
collapse_long (member s) (Cond a) rows = refl
collapse_long (aggregate ags) c rows = as_long (aggregate ags) c (collected rows)
collapse_long (into k) c rows = as_long (into k) c (collected rows)

pub apply_cells_long : (when : Scalar) (kind : Kind) (s : Sight) (rows : List PlanRow) →
    length (apply_cells when kind s rows) ≡ kind_width kind
apply_cells_long when kind s rows =
    let cs = collapse kind (member_cell kind s) rows in
    length-map cs (applied (cell_of when s)) ∙ collapse_long kind (member_cell kind s) rows

pub wider : (q cs : List Cell) (n k : ℕ) → length q ≡ n → length cs ≡ k → length (q ++ cs) ≡ n + k
wider q cs n k a b = length-append q cs ∙ both (λ (x y : ℕ). x + y) _ _ _ _ a b

pub added_long : (nodes : Nodes) (w : Inputs) (o : List (List Cell)) (q : List Cell) (n : ℕ) →
    length q ≡ n →
    length (added nodes w o q) ≡ width nodes n
added_long no_node w o q n e = e
added_long (extend_by ss a) w o q n e =
    added_long a w o (q ++ cells_of ss (sight w o q)) (n + scalar_count ss)
    (wider q (cells_of ss (sight w o q)) n (scalar_count ss) e (cells_long ss (sight w o q)))
added_long (apply_by when kind way inner a) w o q n e =
    let rows = found way (tree_width inner) (sight w o q) (den inner w (q ∷ o)) in
    added_long a w o (q ++ apply_cells when kind (sight w o q) rows) (n + kind_width kind)
    (wider q (apply_cells when kind (sight w o q) rows) n (kind_width kind) e
    (apply_cells_long when kind (sight w o q) rows))

pub added_grows : (nodes : Nodes) (w : Inputs) (o : List (List Cell)) (q : List Cell) →
    Grows q (added nodes w o q)
added_grows no_node w o q = grows_same q
added_grows (extend_by ss a) w o q = grows_trans q _ _ (grows_by q (cells_of ss (sight w o q)))
    (added_grows a w o (q ++ cells_of ss (sight w o q)))
added_grows (apply_by when kind way inner a) w o q =
    let cs = apply_cells when kind (sight w o q)
    (found way (tree_width inner) (sight w o q) (den inner w (q ∷ o))) in
    grows_trans q _ _ (grows_by q cs) (added_grows a w o (q ++ cs))

pub added_join : (a b : Nodes) (w : Inputs) (o : List (List Cell)) (q : List Cell) →
    added (joined_nodes a b) w o q ≡ added b w o (added a w o q)
added_join no_node b w o q = refl
added_join (extend_by ss a) b w o q = added_join a b w o (q ++ cells_of ss (sight w o q))
added_join (apply_by when kind way inner a) b w o q =
    added_join a b w o (q ++ apply_cells when kind (sight w o q)
    (found way (tree_width inner) (sight w o q) (den inner w (q ∷ o))))

-- on the row q, however it grows
abbrev pub Reads : Env → Inputs → List (List Cell) → Scope → List Cell → Type 0
Reads e w o f q = (z : List Cell) → Grows q z → Agrees e (outside w (z ∷ o)) f

pub reads_on : (e : Env) (w : Inputs) (o : List (List Cell)) (f : Scope) (q z : List Cell) →
    Reads e w o f q → Grows q z → Reads e w o f z
reads_on e w o f q z h g = λ y k. h y (grows_trans q z y g k)

abbrev pub Yields : Emitted → Inputs → List (List Cell) → List Cell → Cell → Type 0
Yields a w o q c = (z : List Cell) → Grows (added a.nodes w o q) z → cell_of a.scalar (sight w o z)
    ≡ c

abbrev pub YieldsAll : EmittedAll → Inputs → List (List Cell) → List Cell → List Cell → Type 0
YieldsAll a w o q cs = (z : List Cell) → Grows (added a.nodes w o q) z →
    cells_of a.scalars (sight w o z) ≡ cs

pub below_reads : (r : Row) (i : ℕ) (p : Place) (s : Sight) →
    (i < length r → cell_of (read p) s ≡ Val (value_at r i)) →
    cell_of (read (below (length r) i p)) s ≡ Val (value_at r i)
below_reads [] i p s h = refl
below_reads (v ∷ r) zero p s h = h (omega arith)
below_reads (v ∷ r) (suc i) p s h = below_reads r i p s (λ l. h (omega arith))

pub outward_reads : (p : Place) (w : Inputs) (o : List (List Cell)) (z : List Cell) →
    cell_of (read (outward p)) (outside w (z ∷ o)) ≡ cell_of (read p) (outside w o)
outward_reads (at level i) w o z = refl
outward_reads (given i) w o z = refl
outward_reads nowhere w o z = refl

own_reads : (w : Inputs) (o : List (List Cell)) (n : ℕ) (r : Row) (z : List Cell) (i : ℕ) →
    length r ≡ n → Grows (shown r) z →
    cell_of (read (below n i (at 0 i))) (outside w (z ∷ o)) ≡ Val (value_at r i)
own_reads w o n r z i e g =
    subst (λ (k : ℕ). cell_of (read (below k i (at 0 i))) (outside w (z ∷ o))
    ≡ Val (value_at r i)) e
    (below_reads r i (at 0 i) (outside w (z ∷ o))
    (λ h. grows_at (shown r) z i g (omega (arith, h, shown_long r)) ∙ shown_at r i))

-- a row within
pub entered_reads : (e : Env) (w : Inputs) (o : List (List Cell)) (f : Scope) (n : ℕ) (r : Row) →
    length r ≡ n → Agrees e (outside w o) f →
    Reads (entered e n) w o (within f r) (shown r)
entered_reads e w o f n r l h z g = (columns, λ i. outward_reads (e.params i) w o z ∙ h.1 i)
  where
    columns : (d i : ℕ) → cell_of (read (columns_within e n d i)) (outside w (z ∷ o))
        ≡ Val (value_at (row_at (within f r).rows d) i)
    columns zero i = own_reads w o n r z i l g
    columns (suc d) i = outward_reads (e.columns d i) w o z ∙ h.0 d i

-- parameters in columns
pub passed_reads : (w : Inputs) (o : List (List Cell)) (m : ℕ) (z : List Cell) (vs : Row) →
    length z ≡ m →
    Reads (passed m (length vs)) w o (record { rows = []; params = vs }) (z ++ shown vs)
passed_reads w o m z vs e y g = (
  λ d i. refl,
  λ i. below_reads vs i (at 0 (m + i)) (outside w (y ∷ o))
      (λ h. grown_at z (shown vs) y m i e g (omega (arith, h, shown_long vs)) ∙ shown_at vs i),
)

-- One after another.
pub first_and_yields : (a : Emitted) (b : ℕ → EmittedAll) (n : ℕ) (w : Inputs)
    (o : List (List Cell)) (q : List Cell) (c : Cell) (cs : List Cell) →
    length q ≡ n → Yields a w o q c →
    ((z : List Cell) → length z ≡ width a.nodes n → Grows q z →
    YieldsAll (b (width a.nodes n)) w o z cs) → YieldsAll (first_and a b n) w o q (c ∷ cs)
first_and_yields a b n w o q c cs l ya yb z g =
    let q' = added a.nodes w o q in let m = width a.nodes n in
    let g' : Grows (added (b m).nodes w o q') z = subst (λ (r : List Cell). Grows r z)
    (added_join a.nodes (b m).nodes w o q) g in
    both (λ (x : Cell) (xs : List Cell). x ∷ xs) _ _ _ _
    (ya z (grows_trans q' _ z (added_grows (b m).nodes w o q') g'))
    (yb q' (added_long a.nodes w o q n l) (added_grows a.nodes w o q) z g')

pub singly_yields : (a : Emitted) (w : Inputs) (o : List (List Cell)) (q : List Cell) (c : Cell) →
    Yields a w o q c →
    YieldsAll (singly a) w o q (c ∷ [])
singly_yields a w o q c y z g = ap (λ (x : Cell). x ∷ []) (y z g)

-- Columns, and what sees them.
pub then_columns_yields : (a : EmittedAll) (go : ℕ → ℕ → Emitted) (n : ℕ) (w : Inputs)
    (o : List (List Cell)) (q cs : List Cell) (c : Cell) →
    length q ≡ n → YieldsAll a w o q cs →
    ((z : List Cell) → length z ≡ width a.nodes n → Grows q z → length cs ≡ scalar_count a.scalars →
    Yields
    (go (width a.nodes n) (scalar_count a.scalars)) w o (z ++ cs) c) →
    Yields (then_columns a go n) w o q c
then_columns_yields a go n w o q cs c l ya yc y g =
    let z = added a.nodes w o q in let m = width a.nodes n in let k = scalar_count a.scalars in
    let same : cells_of a.scalars (sight w o z) ≡ cs = ya z (grows_same z) in
    let row : added (joined_nodes a.nodes (extend_by a.scalars (go m k).nodes)) w o q
    ≡ added (go m k).nodes w o (z ++ cs) =
    added_join a.nodes (extend_by a.scalars (go m k).nodes) w o q
    ∙ ap (λ (ds : List Cell). added (go m k).nodes w o (z ++ ds)) same in
    yc z (added_long a.nodes w o q n l) (added_grows a.nodes w o q)
    (ap (λ (ds : List Cell). length ds) (sym same) ∙ cells_long a.scalars
    (sight w o z)) y (subst (λ (r : List Cell). Grows r y) row g)

-- Queries inside: under a test
pub asked_where_yields : (when : Scalar) (kind : Kind) (inner : PlanTree) (n : ℕ) (w : Inputs)
    (o : List (List Cell)) (q : List Cell) (c : Cell) → length q ≡ n →
    apply_cells when kind (sight w o q) (den inner w (q ∷ o)) ≡ c ∷ [] →
    Yields (asked_where when kind inner n) w o q c
asked_where_yields when kind inner n w o q c l h z g =
    grown_column q z c n l (subst (λ (cs : List Cell). Grows (q ++ cs) z) h g)

-- and always
pub asked_yields : (kind : Kind) (inner : PlanTree) (n : ℕ) (w : Inputs) (o : List (List Cell))
    (q : List Cell) (c : Cell) → length q ≡ n →
    collapse kind (member_cell kind (sight w o q)) (den inner w (q ∷ o)) ≡ c ∷ [] →
    Yields (asked kind inner n) w o q c
asked_yields kind inner n w o q c l h z g =
    grown_column q z c n l (subst
    (λ (cs : List Cell). Grows (q ++ map (applied (Val (Truth true))) cs) z) h g)

pub asked_member_yields : (a : Emitted) (inner : PlanTree) (n : ℕ) (w : Inputs)
    (o : List (List Cell)) (q : List Cell) (x c : Cell) → length q ≡ n →
    Yields a w o q x →
    ((z : List Cell) → Grows q z → collapse (member a.scalar) x (den inner w (z ∷ o)) ≡ c ∷ []) →
    Yields (asked_member a inner n) w o q c
asked_member_yields a inner n w o q x c l ya h y g =
    let z = added a.nodes w o q in
    let cells : collapse (member a.scalar) (cell_of a.scalar (sight w o z)) (den inner w (z ∷ o))
    ≡ c ∷ [] =
    ap (λ (d : Cell). collapse (member a.scalar) d (den inner w (z ∷ o))) (ya z (grows_same z))
    ∙ h z (added_grows a.nodes w o q) in
    let g' = subst (λ (r : List Cell). Grows r y)
    (added_join a.nodes (apply_by (constant (Truth true)) (member a.scalar) anew inner no_node) w o
    q) g in
    grown_column z y c (width a.nodes n) (added_long a.nodes w o q n l)
    (subst (λ (cs : List Cell). Grows (z ++ map (applied (Val (Truth true))) cs) y) cells g')

-- a run of nodes over a plan
pub on_each_den : (nodes : Nodes) (t : PlanTree) (w : Inputs) (o : List (List Cell)) →
    den (on_each nodes t) w o ≡ each (λ row. Whole (added nodes w o row) ∷ []) (den t w o)
on_each_den no_node t w o = sym (each_whole (den t w o))
on_each_den (extend_by ss a) t w o =
    on_each_den a (extend ss t) w o
    ∙ each_each (λ row. Whole (row ++ cells_of ss (sight w o row)) ∷ [])
    (λ row. Whole (added a w o row) ∷ [])
    (den t w o)
on_each_den (apply_by when kind way inner a) t w o =
    on_each_den a (apply when kind way inner t) w o
    ∙ each_each (λ row. Whole (row ++ apply_cells when kind (sight w o row)
    (found way (tree_width inner) (sight w o row) (den inner w (row ∷ o)))) ∷ [])
    (λ row. Whole (added a w o row) ∷ []) (den t w o)

-- in the rows outside alone
pub lifted_reads : (e : Env) (w : Inputs) (o : List (List Cell)) (f : Scope) (q : List Cell) →
    Agrees e (outside w o) f → Reads (lifted e) w o f q
lifted_reads e w o f q h z g = (
  λ d i. outward_reads (e.columns d i) w o z
      ∙ h.0 d i,
  λ i. outward_reads (e.params i) w o z ∙ h.1 i,
)
