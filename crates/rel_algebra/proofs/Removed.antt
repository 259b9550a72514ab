-- A plan without the Applies that can be removed has the same rows.
use Rattle.std.proofs.Common.{◌≡◌, ℕ, ◌+◌, ◌<◌, List, [], ◌∷◌, ◌++◌, length, refl, ap, sym, ◌∙◌}
use Rattle.std.proofs.Common.{subst, arith, Ok, Err}
use Rattle.row_types.specs.Cells.{PlanRow, Whole}
use Rattle.row_types.specs.declared.cell.Cell.{Cell}
use Rattle.rel_algebra.specs.Emit.{width}
use Rattle.rel_algebra.specs.Endings.{Ending}
use Rattle.row_types.specs.Rows.{Row}
use Rattle.rel_algebra.specs.Even.{AllLong, IsEven, KindEven, NodesEven, PlacesIn, TablesEven}
use Rattle.rel_algebra.specs.Joins.{places}
use Rattle.rel_algebra.specs.Plain.{Inputs}
use Rattle.rel_algebra.specs.Plan.{Kind, Nodes, PlanTree, Scalar, Way, added, anew, apply, apply_by}
use Rattle.rel_algebra.specs.Plan.{apply_cells, cell_of, cells_at, cells_of, collected, cross}
use Rattle.rel_algebra.specs.Plan.{crossed, den, each, extend, extend_by, filter, found}
use Rattle.rel_algebra.specs.Plan.{found_width, group, grouped, joined, keep, kept, kind_width}
use Rattle.rel_algebra.specs.Plan.{left_outer, lookup, no_node, once, or_null_cells, scalar_count}
use Rattle.rel_algebra.specs.Plan.{scan, settle, settled, settled_then, sight, sort, sorted}
use Rattle.rel_algebra.specs.Plan.{tree_width, unit_row, values, with_settled}
use Rattle.rel_algebra.specs.Regions.{Columns}
use Rattle.rel_algebra.specs.Remove.{Removed, as_columns, as_node, in_front, once_way, put, put_by}
use Rattle.rel_algebra.specs.Remove.{remove, remove_nodes, removed_apply, removed_node}
use Rattle.rel_algebra.specs.RemovalLaws.{KeptEven}
use Rattle.rel_algebra.specs.Renaming.{own_row, renamed_kind, renamed_scalar, renamed_scalars}
use Rattle.rel_algebra.specs.Renaming.{renamed_tree, renamed_way}
use Rattle.rel_algebra.specs.Widening.{widened}
use Rattle.rel_algebra.proofs.Growing.{Grows, first_columns, grows_at}
use Rattle.rel_algebra.proofs.Even.{rows_long}
use Rattle.rel_algebra.proofs.EvenRemoved.{RemovedEven, node_even, once_by, others_nothing}
use Rattle.rel_algebra.proofs.EvenRemoved.{remove_even, removed_by, removed_even, renamed_even}
use Rattle.rel_algebra.proofs.Nodes.{added_grows, added_join, added_long, apply_cells_long}
use Rattle.rel_algebra.proofs.Nodes.{cells_long, on_each_den, wider}
use Rattle.rel_algebra.proofs.Places.{cells_append, each_same_long, grown_cells, own_cells}
use Rattle.rel_algebra.proofs.Places.{own_tells, places_append, places_below, places_wide}
use Rattle.rel_algebra.proofs.Regions.{region_gives}
use Rattle.rel_algebra.proofs.Renamed.{cell_renamed, cells_renamed, count_renamed, den_renamed}
use Rattle.rel_algebra.proofs.Renamed.{node_renamed, width_renamed}
use Rattle.rel_algebra.proofs.Rows.{each_each, each_same, each_whole}
use Rattle.rel_algebra.proofs.Truths.{both}
use Rattle.rel_algebra.proofs.Widening.{lookup_finds, stands}
use Rattle.rel_algebra.proofs.Widths.{width_more}

-- the cells that an Apply adds to a row
abbrev pub apply_row : Scalar → Kind → Way → PlanTree → Inputs → List (List Cell) → List Cell →
    List Cell
apply_row when kind way inner w o r =
    apply_cells when kind (sight w o r)
    (found way (tree_width inner) (sight w o r) (den inner w (r ∷ o)))

-- what the Apply becomes adds these cells
abbrev pub Gives : Scalar → Kind → Inputs → List (List Cell) → List Cell → List Cell → Removed →
    Type 0
Gives when kind w o r cells (as_node way inner) = apply_row when kind way inner w o r ≡ cells
Gives when kind w o r cells (as_columns c) = cells_at (added c.nodes w o r) c.places ≡ cells

-- The rule once.
once_found : (when : Scalar) (inner : PlanTree) (S : List ℕ → ℕ) (w : Inputs) → TablesEven w S →
    IsEven inner S → (o : List (List Cell)) (r : List Cell) →
    found (once_way when) (tree_width inner) (sight w o r) (den inner w (r ∷ o))
    ≡ den inner w (r ∷ o)
once_found when inner S w fits h o r =
    let n = tree_width inner in let rows = den inner w (r ∷ o) in
    once_by (λ (way : Way). found way n (sight w o r) rows ≡ rows) when refl
    (ap (λ (is : List ℕ). each (λ x. Whole (cells_at x is) ∷ []) rows) (others_nothing 0 n)
    ∙ (each_same_long n (λ x. Whole (cells_at x (places 0 n)) ∷ []) (λ x. Whole x ∷ []) rows
    (rows_long inner S w fits h (r ∷ o))
    (λ x e. ap (λ (cs : List Cell). Whole cs ∷ []) (own_cells x n e)) ∙ each_whole rows))

anew_gives : (when : Scalar) (kind : Kind) (inner : PlanTree) (S : List ℕ → ℕ) (w : Inputs) →
    TablesEven w S → IsEven inner S →
    KindEven kind (tree_width inner) → (n : ℕ) (o : List (List Cell)) (r : List Cell) →
    length r ≡ n →
    Gives when kind w o r (apply_row when kind anew inner w o r) (removed_apply when kind inner n)
anew_gives when kind inner S w fits h k n o r e =
    removed_by (Gives when kind w o r (apply_row when kind anew inner w o r)) when kind inner n
    (λ p. ap (apply_cells when kind (sight w o r)) (once_found when inner S w fits h o r))
    (λ p. ap (apply_cells when kind (sight w o r))
    (lookup_finds (widened inner) inner w o r (stands inner S w fits h p (r ∷ o))))
    (λ p q. region_gives when kind inner S h p q k n w o r e)
    (λ x y z. refl)

pub removed_gives : (when : Scalar) (kind : Kind) (way : Way) (inner : PlanTree) (S : List ℕ →
    ℕ) (w : Inputs) → TablesEven w S → IsEven inner S →
    KindEven kind (found_width way (tree_width inner)) →
    (n : ℕ) (o : List (List Cell)) (r : List Cell) → length r ≡ n →
    Gives when kind w o r (apply_row when kind way inner w o r) (removed_node when kind way inner n)
removed_gives when kind anew inner S w fits h k n o r e =
    anew_gives when kind inner S w fits h k n o r e
removed_gives when kind once inner S w fits h k n o r e = refl
removed_gives when kind (lookup keys) inner S w fits h k n o r e = refl

-- in a plan
pub put_same : (when : Scalar) (kind : Kind) (way : Way) (inner input : PlanTree) (d : Removed)
    (w : Inputs) (o : List (List Cell)) →
    AllLong (tree_width input) (den input w o) →
    ((r : List Cell) → length r ≡ tree_width input →
    Gives when kind w o r (apply_row when kind way inner w o r) d) →
    den (put when kind input d) w o ≡ den (apply when kind way inner input) w o
put_same when kind way inner input (as_node new plan) w o long gives =
    each_same_long (tree_width input) (λ r. Whole (r ++ apply_row when kind new plan w o r) ∷ [])
    (λ r. Whole (r ++ apply_row when kind way inner w o r) ∷ [])
    (den input w o) long (λ r e. ap (λ (cs : List Cell). Whole (r ++ cs) ∷ []) (gives r e))
put_same when kind way inner input (as_columns c) w o long gives =
    let n = tree_width input in let ps = places 0 n ++ c.places in
    ap (each (λ r. Whole (cells_at r ps) ∷ [])) (on_each_den c.nodes input w o)
    ∙ (each_each (λ r. Whole (added c.nodes w o r) ∷ []) (λ r. Whole (cells_at r ps) ∷ [])
    (den input w o)
    ∙ each_same_long n (λ r. Whole (cells_at (added c.nodes w o r) ps) ∷ [])
    (λ r. Whole (r ++ apply_row when kind way inner w o r) ∷ []) (den input w o) long
    (λ r e. ap (λ (cs : List Cell). Whole cs ∷ [])
    (cells_append (added c.nodes w o r) (places 0 n) c.places
    ∙ both (λ (a b : List Cell). a ++ b) _ _ _ _
    (first_columns r (added c.nodes w o r) n e (added_grows c.nodes w o r)) (gives r e))))

-- In a run, on a row z of m columns in which the old row's stand at some places.
grown_front : (z y : List Cell) (outs : List ℕ) (m : ℕ) → length z ≡ m → PlacesIn outs m →
    Grows z y → cells_at y outs ≡ cells_at z outs
grown_front z y [] m e h g = refl
grown_front z y (i ∷ outs) m e h g = λ t. grows_at z y i g (subst (λ (k : ℕ). i < k) (sym e) h.0) t
    ∷ grown_front z y outs m e h.1 g t

abbrev pub RestSame : (List ℕ → ℕ → Columns) → (List Cell → List Cell) → Inputs → List (List Cell) →
    Type 0
RestSame rest old w o = (outs : List ℕ) (m : ℕ) (z : List Cell) → length z ≡ m → PlacesIn outs m →
    cells_at (added (rest outs m).nodes w o z) (rest outs m).places ≡ old (cells_at z outs)

-- nodes that add k columns, and then the rest
step_same : (node : Nodes) (k : ℕ) (x : List Cell) (rest : List ℕ → ℕ → Columns) (old : List Cell →
    List Cell) (w : Inputs) (o : List (List Cell))
    (outs : List ℕ) (m : ℕ) (z : List Cell) → length z ≡ m → PlacesIn outs m →
    added node w o z ≡ z ++ x → length x ≡ k → RestSame rest old w o →
    let c = in_front node (rest (outs ++ places m k) (m + k)) in
    cells_at (added c.nodes w o z) c.places ≡ old (cells_at z outs ++ x)
step_same node k x rest old w o outs m z e h a l same =
    let c = rest (outs ++ places m k) (m + k) in
    ap (λ (y : List Cell). cells_at y c.places) (added_join node c.nodes w o z
    ∙ ap (added c.nodes w o) a)
    ∙ (same (outs ++ places m k) (m + k) (z ++ x) (wider z x m k e l)
    (places_append outs (places m k) (m + k) (places_wide outs m (m + k) (omega arith) h)
    (places_below m k (m + k) (omega arith)))
    ∙ ap old (grown_cells z x outs m k e l h))

put_by_same : (when : Scalar) (kind : Kind) (d : Removed) (rest : List ℕ → ℕ →
    Columns) (old : List Cell → List Cell) (S : List ℕ → ℕ) (w : Inputs)
    (o : List (List Cell)) (outs : List ℕ) (m : ℕ) (z x : List Cell) → length z ≡ m →
    PlacesIn outs m → RemovedEven kind m S d →
    Gives when kind w o z x d → RestSame rest old w o →
    cells_at (added (put_by when kind outs m d rest).nodes w o z)
    (put_by when kind outs m d rest).places ≡ old (cells_at z outs ++ x)
put_by_same when kind (as_node way inner) rest old S w o outs m z x e h k g same =
    step_same (apply_by when kind way inner no_node) (kind_width kind) x rest old w o outs m z e h
    (ap (λ (cs : List Cell). z ++ cs) g)
    (ap (λ (cs : List Cell). length cs) (sym g)
    ∙ apply_cells_long when kind (sight w o z)
    (found way (tree_width inner) (sight w o z) (den inner w (z ∷ o)))) same
put_by_same when kind (as_columns c) rest old S w o outs m z x e h k g same =
    let y = added c.nodes w o z in let j = width c.nodes m in let r = rest (outs ++ c.places) j in
    ap (λ (v : List Cell). cells_at v r.places) (added_join c.nodes r.nodes w o z)
    ∙ (same (outs ++ c.places) j y (added_long c.nodes w o z m e)
    (places_append outs c.places j (places_wide outs m j (width_more c.nodes m) h) k.1)
    ∙ ap old (cells_append y outs c.places
    ∙ both (λ (a b : List Cell). a ++ b) _ _ _ _
    (grown_front z y outs m e h (added_grows c.nodes w o z)) g))

-- what the removed inner plan gives for the old row
row_same : (when : Scalar) (kind : Kind) (way : Way) (inner : PlanTree) (S : List ℕ →
    ℕ) (w : Inputs) (o : List (List Cell)) → KeptEven inner S →
    ((p : List (List Cell)) → den (remove inner) w p ≡ den inner w p) → (r : List Cell) →
    apply_row when kind way (remove inner) w o r ≡ apply_row when kind way inner w o r
row_same when kind way inner S w o k same r =
    ap (apply_cells when kind (sight w o r))
    (both (λ (n : ℕ) (rows : List PlanRow). found way n (sight w o r) rows) _ _ _ _ k.wide
    (same (r ∷ o)))

apply_removed : (when : Scalar) (kind : Kind) (way : Way) (inner input : PlanTree) (S : List ℕ →
    ℕ) (w : Inputs) → TablesEven w S →
    KindEven kind (found_width way (tree_width inner)) → KeptEven inner S → KeptEven input S →
    (o : List (List Cell)) →
    ((p : List (List Cell)) → den (remove inner) w p ≡ den inner w p) →
    den (remove input) w o ≡ den input w o →
    den (remove (apply when kind way inner input)) w o ≡ den (apply when kind way inner input) w o
apply_removed when kind way inner input S w fits h ki kp o si sp =
    put_same when kind way (remove inner) (remove input)
    (removed_node when kind way (remove inner) (tree_width (remove input))) w o
    (rows_long (remove input) S w fits kp.even o)
    (λ r e. removed_gives when kind way (remove inner) S w fits ki.even
    (subst (λ (n : ℕ). KindEven kind (found_width way n)) (sym ki.wide) h)
    (tree_width (remove input)) o r e)
    ∙ (each_same (λ r. Whole (r ++ apply_row when kind way (remove inner) w o r) ∷ [])
    (λ r. Whole (r ++ apply_row when kind way inner w o r) ∷ [])
    (den (remove input) w o) (λ r. ap (λ (cs : List Cell). Whole (r ++ cs) ∷ [])
    (row_same when kind way inner S w o ki si r))
    ∙ ap (each (λ r. Whole (r ++ apply_row when kind way inner w o r) ∷ [])) sp)

-- a run's test
test_removed : (nodes : Nodes) (s : Scalar) (m : ℕ) (w : Inputs) (o : List (List Cell))
    (r : List Cell) → length r ≡ m →
    (let c = remove_nodes nodes (places 0 m) m in cells_at (added c.nodes w o r) c.places
    ≡ added nodes w o r) →
    let c = remove_nodes nodes (places 0 m) m in
    cell_of (renamed_scalar s (own_row c.places (width c.nodes m)))
    (sight w o (added c.nodes w o r)) ≡ cell_of s (sight w o (added nodes w o r))
test_removed nodes s m w o r e h =
    let c = remove_nodes nodes (places 0 m) m in let y = added c.nodes w o r in
    cell_renamed s (own_row c.places (width c.nodes m)) w (y ∷ o) (cells_at y c.places ∷ o)
    (own_tells c.places (width c.nodes m) y o (added_long c.nodes w o r m e))
    ∙ ap (λ (z : List Cell). cell_of s (sight w o z)) h

joined_same : (n k : ℕ) (f g : List Cell → Cell) (left right : List PlanRow) → AllLong n left →
    AllLong k right →
    ((r : List Cell) → length r ≡ n + k → f r ≡ g r) → joined k f left right ≡ joined k g left right
joined_same n k f g left right p q h =
    each_same_long n (λ l. or_null_cells l k (each (λ r. kept (f (l ++ r)) (l ++ r)) right))
    (λ l. or_null_cells l k (each (λ r. kept (g (l ++ r)) (l ++ r)) right)) left p
    (λ l e. ap (or_null_cells l k)
    (each_same_long k (λ r. kept (f (l ++ r)) (l ++ r)) (λ r. kept (g (l ++ r)) (l ++ r)) right q
    (λ r d. ap (λ (c : Cell). kept c (l ++ r)) (h (l ++ r) (wider l r n k e d)))))

-- an Apply in a run
run_apply : (when : Scalar) (kind : Kind) (way : Way) (inner : PlanTree) (rest : Nodes)
    (S : List ℕ → ℕ) (w : Inputs) → TablesEven w S →
    KindEven kind (found_width way (tree_width inner)) → KeptEven inner S → (o : List (List Cell)) →
    ((p : List (List Cell)) → den (remove inner) w p ≡ den inner w p) →
    RestSame (remove_nodes rest) (added rest w o) w o →
    RestSame (remove_nodes (apply_by when kind way inner rest))
    (added (apply_by when kind way inner rest) w o) w o
run_apply when kind way inner rest S w fits h k o si sr outs m z e p =
    let names = own_row outs m in let when' = renamed_scalar when names in
    let kind' = renamed_kind kind names in let way' = renamed_way way names in
    let plan = renamed_tree (remove inner) names in let d = removed_node when' kind' way' plan m in
    let y = cells_at z outs in
    let even = renamed_even (remove inner) names S k.even in
    let kinds : KindEven kind' (found_width way' (tree_width plan)) = node_even kind way names
    (tree_width (remove inner)) (tree_width plan)
    (width_renamed (remove inner) names) (subst (λ (n : ℕ). KindEven kind (found_width way n))
    (sym k.wide) h) in
    let tells = own_tells outs m z o e in
    put_by_same when' kind' d (remove_nodes rest) (added rest w o) S w o outs m z
    (apply_row when' kind' way' plan w o z) e p
    (removed_even when' kind' way' plan S kinds even m)
    (removed_gives when' kind' way' plan S w fits even kinds m o z e) sr
    ∙ ap (λ (cs : List Cell). added rest w o (y ++ cs))
    (node_renamed when kind way names (tree_width (remove inner)) (tree_width plan) w (z ∷ o)
    (y ∷ o) (den (remove inner) w (y ∷ o))
    (den plan w (z ∷ o)) tells (width_renamed (remove inner) names)
    (den_renamed (remove inner) names w (z ∷ o) (y ∷ o) tells)
    ∙ row_same when kind way inner S w o k si y)

then_same : (e : Ending (List Row)) (rows : List PlanRow) (f g : List PlanRow → List PlanRow) →
    f rows ≡ g rows →
    settled_then e rows f ≡ settled_then e rows g
then_same (Ok rs) rows f g h = h
then_same (Err s) rows f g h = refl

-- a LEFT JOIN
outer_removed : (nodes : Nodes) (s : Scalar) (n : ℕ) (a b : PlanTree) (S : List ℕ →
    ℕ) (w : Inputs) → TablesEven w S → tree_width b ≡ n →
    KeptEven a S → KeptEven b S → (o : List (List Cell)) → den (remove a) w o ≡ den a w o →
    den (remove b) w o ≡ den b w o →
    ((m : ℕ) (r : List Cell) → length r ≡ m →
    cells_at (added (remove_nodes nodes (places 0 m) m).nodes w o r)
    (remove_nodes nodes (places 0 m) m).places ≡ added nodes w o r) →
    den (remove (left_outer nodes s n a b)) w o ≡ den (left_outer nodes s n a b) w o
outer_removed nodes s n a b S w fits h ka kb o sa sb run =
    let m = tree_width (remove a) + n in let c = remove_nodes nodes (places 0 m) m in
    let f : List Cell → Cell = λ r. cell_of (renamed_scalar s (own_row c.places (width c.nodes m)))
    (sight w o (added c.nodes w o r)) in
    let g : List Cell → Cell = λ r. cell_of s (sight w o (added nodes w o r)) in
    let left = den (remove a) w o in let right = den (remove b) w o in
    let right_long : AllLong n right = subst (λ (k : ℕ). AllLong k right) (kb.wide
    ∙ h) (rows_long (remove b) S w fits kb.even o) in
    then_same (collected left) left (λ l. with_settled right (λ x. settled (joined n f l x)))
    (λ l. with_settled right (λ x. settled (joined n g l x)))
    (then_same (collected right) right (λ x. settled (joined n f left x))
    (λ x. settled (joined n g left x))
    (ap settled (joined_same (tree_width (remove a)) n f g left right
    (rows_long (remove a) S w fits ka.even o) right_long
    (λ r e. test_removed nodes s m w o r e (run m r e)))))
    ∙ λ i. with_settled (sa i) (λ l. with_settled (sb i) (λ x. settled (joined n g l x)))

mutual
  pub remove_same : (t : PlanTree) (S : List ℕ → ℕ) (w : Inputs) → TablesEven w S → IsEven t S →
      (o : List (List Cell)) →
      den (remove t) w o ≡ den t w o
  remove_same unit_row S w fits h o = refl
  remove_same (scan name n) S w fits h o = refl
  remove_same (values lists) S w fits h o = refl
  remove_same (extend ss input) S w fits h o =
      ap (each (λ r. Whole (r ++ cells_of ss (sight w o r)) ∷ [])) (remove_same input S w fits h o)
  remove_same (apply when kind way inner input) S w fits h o =
      apply_removed when kind way inner input S w fits h.0 (remove_even inner S h.1)
      (remove_even input S h.2) o (λ p. remove_same inner S w fits h.1 p)
      (remove_same input S w fits h.2 o)
  remove_same (filter s input) S w fits h o =
      ap (each (λ r. kept (cell_of s (sight w o r)) r)) (remove_same input S w fits h o)
  remove_same (keep is input) S w fits h o =
      ap (each (λ r. Whole (cells_at r is) ∷ [])) (remove_same input S w fits h.1 o)
  remove_same (cross a b) S w fits h o =
      λ i. with_settled (remove_same a S w fits h.0 o i)
      (λ left. with_settled (remove_same b S w fits h.1 o i) (crossed left))
  remove_same (left_outer nodes s n a b) S w fits h o =
      outer_removed nodes s n a b S w fits h.1 (remove_even a S h.2) (remove_even b S h.3) o
      (remove_same a S w fits h.2 o) (remove_same b S w fits h.3 o)
      (λ m r e. run_same nodes S w fits h.0 o (places 0 m) m r e (places_below 0 m m (omega arith))
      ∙ ap (added nodes w o) (own_cells r m e))
  remove_same (settle input) S w fits h o = ap settled (remove_same input S w fits h o)
  remove_same (group keys ags input) S w fits h o =
      ap (λ (rows : List PlanRow). grouped keys ags (collected rows))
      (remove_same input S w fits h o)
  remove_same (sort keys input) S w fits h o =
      ap (λ (rows : List PlanRow). sorted keys (collected rows)) (remove_same input S w fits h o)

  run_same : (nodes : Nodes) (S : List ℕ → ℕ) (w : Inputs) → TablesEven w S → NodesEven nodes S →
      (o : List (List Cell)) →
      RestSame (remove_nodes nodes) (added nodes w o) w o
  run_same no_node S w fits h o = λ outs m z e p. refl
  run_same (extend_by ss rest) S w fits h o = λ outs m z e p.
      let names = own_row outs m in let x = cells_of (renamed_scalars ss names) (sight w o z) in
      step_same (extend_by (renamed_scalars ss names) no_node) (scalar_count ss) x
      (remove_nodes rest) (added rest w o) w o outs m z e p refl
      (cells_long (renamed_scalars ss names) (sight w o z) ∙ count_renamed ss names)
      (run_same rest S w fits h o)
      ∙ ap (λ (cs : List Cell). added rest w o (cells_at z outs ++ cs))
      (cells_renamed ss names w (z ∷ o) (cells_at z outs ∷ o) (own_tells outs m z o e))
  run_same (apply_by when kind way inner rest) S w fits h o = λ outs m z e p.
      run_apply when kind way inner rest S w fits h.0 (remove_even inner S h.1) o
      (λ q. remove_same inner S w fits h.1 q) (run_same rest S w fits h.2 o) outs m z e p
