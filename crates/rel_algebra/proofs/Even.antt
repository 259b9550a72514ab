-- The rows of even plans are as long as the plan is wide.
use Rattle.std.proofs.Common.{◌≡◌, ℕ, suc, ◌+◌, true, false, List, [], ◌∷◌, ◌++◌, length, replicate}
use Rattle.std.proofs.Common.{refl, ap, sym, ◌∙◌, subst, Ok, Err}
use Rattle.std.proofs.lemmas.List.{length-replicate}
use Rattle.sql_values.specs.declared.value.Value.TheVariants.{Int, Null, Str, Bool as Truth}
use Rattle.row_types.specs.Cells.{PlanRow, Poisoned, Whole}
use Rattle.row_types.specs.Rows.{Row}
use Rattle.row_types.specs.Sorting.{in_order}
use Rattle.row_types.specs.declared.cell.Cell.{Cell}
use Rattle.row_types.specs.declared.cell.Cell.TheVariants.{Cond, Val}
use Rattle.row_types.specs.declared.sort_key.SortKey.{SortKey}
use Rattle.rel_algebra.specs.Endings.{Ending, after}
use Rattle.rel_algebra.specs.Even.{AllLong, IsEven, ListsEven, TablesEven}
use Rattle.rel_algebra.specs.Groups.{Group, first_groups, grouped_from, groups, put, values_at}
use Rattle.rel_algebra.specs.Plain.{Inputs}
use Rattle.rel_algebra.specs.Plan.{PlanTree, Scalars, added, apply, apply_cells, cell_of, cells_at}
use Rattle.rel_algebra.specs.Plan.{cells_of, collected, cross, crossed, den, each, extend, filter}
use Rattle.rel_algebra.specs.Plan.{finish_cells, found, group, group_rows, grouped, joined, keep}
use Rattle.rel_algebra.specs.Plan.{kept, kind_width, left_outer, list_rows, lists_width}
use Rattle.rel_algebra.specs.Plan.{or_null_cells, scalar_count, scan, settle, settled, settled_as}
use Rattle.rel_algebra.specs.Plan.{settled_then, shown, shown_rows, sight, Sight, sort, sorted}
use Rattle.rel_algebra.specs.Plan.{tree_width, unit_row, values, values_of, with_settled}
use Rattle.rel_algebra.specs.Theorem.{AllWide}
use Rattle.rel_algebra.specs.Tree.{Aggregate}
use Rattle.rel_algebra.proofs.Growing.{shown_long}
use Rattle.rel_algebra.proofs.Nodes.{apply_cells_long, cells_long, finish_long, wider}
use Rattle.rel_algebra.proofs.Rows.{AreCells, WideEnd, are_cells}
use Rattle.rel_algebra.proofs.Wide.{KeysLong, order_wide, put_long}

pub long_append : (n : ℕ) (a b : List PlanRow) → AllLong n a → AllLong n b → AllLong n (a ++ b)
long_append n [] b p q = q
long_append n (Whole r ∷ a) b p q = (p.0, long_append n a b p.1 q)
long_append n (Poisoned s ∷ a) b p q = long_append n a b p q

pub each_long : (n m : ℕ) (f : List Cell → List PlanRow) (rows : List PlanRow) → AllLong n rows →
    ((r : List Cell) → length r ≡ n → AllLong m (f r)) → AllLong m (each f rows)
each_long n m f [] h k = tt
each_long n m f (Whole r ∷ rows) h k =
    long_append m (f r) (each f rows) (k r h.0) (each_long n m f rows h.1 k)
each_long n m f (Poisoned s ∷ rows) h k = each_long n m f rows h k

pub kept_long : (n : ℕ) (c : Cell) (r : List Cell) → length r ≡ n → AllLong n (kept c r)
kept_long n (Cond s) r e = tt
kept_long n (Val Null) r e = tt
kept_long n (Val (Int z)) r e = tt
kept_long n (Val (Str t)) r e = tt
kept_long n (Val (Truth true)) r e = (e, tt)
kept_long n (Val (Truth false)) r e = tt

shown_rows_long : (n : ℕ) (rs : List Row) → AllWide n rs → AllLong n (shown_rows rs)
shown_rows_long n [] h = tt
shown_rows_long n (r ∷ rs) h = (shown_long r ∙ h.0, shown_rows_long n rs h.1)

lists_long : (lists : List Scalars) (k : ℕ) (s : Sight) → ListsEven lists k →
    AllLong k (list_rows lists s)
lists_long [] k s h = tt
lists_long (ss ∷ lists) k s h = (cells_long ss s ∙ h.0, lists_long lists k s h.1)

pub cells_at_long : (r : List Cell) (is : List ℕ) → length (cells_at r is) ≡ length is
cells_at_long r [] = refl
cells_at_long r (i ∷ is) = ap suc (cells_at_long r is)

settled_as_long : (n : ℕ) (e : Ending (List Row)) (rows : List PlanRow) → AllLong n rows →
    AllLong n (settled_as e rows)
settled_as_long n (Ok rs) rows h = h
settled_as_long n (Err s) rows h = tt

then_long : (n : ℕ) (e : Ending (List Row)) (rows : List PlanRow) (go : List PlanRow →
    List PlanRow) → AllLong n (go rows) →
    AllLong n (settled_then e rows go)
then_long n (Ok rs) rows go h = h
then_long n (Err s) rows go h = tt

or_null_long : (n m : ℕ) (l : List Cell) (rows : List PlanRow) → length l ≡ n →
    AllLong (n + m) rows → AllLong (n + m) (or_null_cells l m rows)
or_null_long n m l [] e h =
    (wider l (replicate m (Val Null)) n m e (length-replicate m (Val Null)), tt)
or_null_long n m l (r ∷ rows) e h = h

-- collected rows
wide_cons : (n : ℕ) (cs : List Cell) (e : Ending Row) (d : Ending (List Row)) → AreCells e cs →
    length cs ≡ n → WideEnd n d →
    WideEnd n (after e (λ r. after d (λ rs. Ok (r ∷ rs))))
wide_cons n cs (Err s) d a e h = tt
wide_cons n cs (Ok r) (Err s) a e h = tt
wide_cons n cs (Ok r) (Ok rs) a e h =
    (sym (shown_long r) ∙ (ap (λ (ds : List Cell). length ds) (sym a) ∙ e), h)

collected_wide : (n : ℕ) (rows : List PlanRow) → AllLong n rows → WideEnd n (collected rows)
collected_wide n [] h = tt
collected_wide n (Poisoned s ∷ rows) h = tt
collected_wide n (Whole cs ∷ rows) h =
    wide_cons n cs (values_of cs) (collected rows) (are_cells cs) h.0 (collected_wide n rows h.1)

sorted_long : (n : ℕ) (keys : List SortKey) (e : Ending (List Row)) → WideEnd n e →
    AllLong n (sorted keys e)
sorted_long n keys (Ok rs) h = shown_rows_long n (in_order keys rs) (order_wide n keys rs h)
sorted_long n keys (Err s) h = tt

-- groups
values_at_long : (r : Row) (keys : List ℕ) → length (values_at r keys) ≡ length keys
values_at_long r [] = refl
values_at_long r (k ∷ keys) = ap suc (values_at_long r keys)

from_long : (keys : List ℕ) (gs : List Group) (rs : List Row) → KeysLong (length keys) gs →
    KeysLong (length keys) (grouped_from keys gs rs)
from_long keys gs [] h = h
from_long keys gs (r ∷ rs) h = from_long keys (put (values_at r keys) r gs) rs
    (put_long (length keys) (values_at r keys) r gs (values_at_long r keys) h)

start_long : (keys : List ℕ) → KeysLong (length keys) (first_groups keys)
start_long [] = (refl, tt)
start_long (k ∷ keys) = tt

group_rows_long : (k : ℕ) (ags : List (Aggregate × ℕ)) (gs : List Group) → KeysLong k gs →
    AllLong (k + length ags) (group_rows ags gs)
group_rows_long k ags [] h = tt
group_rows_long k ags (g ∷ gs) h = (
  wider (shown g.key) (finish_cells ags g.members) k (length ags) (shown_long g.key ∙ h.0)
      (finish_long ags g.members),
  group_rows_long k ags gs h.1,
)

grouped_long : (keys : List ℕ) (ags : List (Aggregate × ℕ)) (e : Ending (List Row)) →
    AllLong (length keys + length ags) (grouped keys ags e)
grouped_long keys ags (Ok rs) = group_rows_long (length keys) ags (groups keys rs)
    (from_long keys (first_groups keys) rs (start_long keys))
grouped_long keys ags (Err s) = tt

crossed_long : (n m : ℕ) (left right : List PlanRow) → AllLong n left → AllLong m right →
    AllLong (n + m) (crossed left right)
crossed_long n m left right p q =
    each_long n (n + m) (λ l. each (λ r. Whole (l ++ r) ∷ []) right) left p
    (λ l e. each_long m (n + m) (λ r. Whole (l ++ r) ∷ []) right q (λ r d. (wider l r n m e d, tt)))

joined_long : (n m : ℕ) (test : List Cell → Cell) (left right : List PlanRow) → AllLong n left →
    AllLong m right →
    AllLong (n + m) (joined m test left right)
joined_long n m test left right p q =
    each_long n (n + m) (λ l. or_null_cells l m (each (λ r. kept (test (l ++ r)) (l ++ r)) right))
    left p
    (λ l e. or_null_long n m l (each (λ r. kept (test (l ++ r)) (l ++ r)) right) e
    (each_long m (n + m) (λ r. kept (test (l ++ r)) (l ++ r)) right q
    (λ r d. kept_long (n + m) (test (l ++ r)) (l ++ r) (wider l r n m e d))))

pub rows_long : (t : PlanTree) (S : List ℕ → ℕ) (w : Inputs) → TablesEven w S → IsEven t S →
    (o : List (List Cell)) →
    AllLong (tree_width t) (den t w o)
rows_long unit_row S w fits h o = (refl, tt)
rows_long (scan name n) S w fits h o = subst (λ (k : ℕ). AllLong k (den (scan name n) w o)) (sym h)
    (shown_rows_long (S name) _ (fits name))
rows_long (values lists) S w fits h o = lists_long lists (lists_width lists) (sight w o []) h
rows_long (extend ss input) S w fits h o =
    each_long (tree_width input) _ (λ r. Whole (r ++ cells_of ss (sight w o r)) ∷ [])
    (den input w o) (rows_long input S w fits h o)
    (λ r e. (
      wider r (cells_of ss (sight w o r)) (tree_width input) (scalar_count ss) e
          (cells_long ss (sight w o r)),
      tt,
    ))
rows_long (apply when kind way inner input) S w fits h o =
    let rows : List Cell → List PlanRow = λ r. found way (tree_width inner) (sight w o r)
    (den inner w (r ∷ o)) in
    each_long (tree_width input) _ (λ r. Whole (r ++ apply_cells when kind (sight w o r) (rows r))
    ∷ []) (den input w o)
    (rows_long input S w fits h.2 o)
    (λ r e. (
      wider r _ (tree_width input) (kind_width kind) e
          (apply_cells_long when kind (sight w o r) (rows r)),
      tt,
    ))
rows_long (filter s input) S w fits h o =
    each_long (tree_width input) (tree_width input) (λ r. kept (cell_of s (sight w o r)) r)
    (den input w o) (rows_long input S w fits h o)
    (λ r e. kept_long (tree_width input) (cell_of s (sight w o r)) r e)
rows_long (keep is input) S w fits h o =
    each_long (tree_width input) (length is) (λ r. Whole (cells_at r is) ∷ []) (den input w o)
    (rows_long input S w fits h.1 o)
    (λ r e. (cells_at_long r is, tt))
rows_long (cross a b) S w fits h o =
    let n = tree_width a in let m = tree_width b in
    then_long (n + m) (collected (den a w o)) (den a w o)
    (λ left. with_settled (den b w o) (crossed left))
    (then_long (n + m) (collected (den b w o)) (den b w o) (crossed (den a w o))
    (crossed_long n m (den a w o) (den b w o) (rows_long a S w fits h.0 o)
    (rows_long b S w fits h.1 o)))
rows_long (left_outer nodes s n a b) S w fits h o =
    let k = tree_width a in let test : List Cell →
    Cell = λ r. cell_of s (sight w o (added nodes w o r)) in
    let right : AllLong n (den b w o) = subst (λ (m : ℕ). AllLong m (den b w o)) h.1
    (rows_long b S w fits h.3 o) in
    let pairs : AllLong (k + n) (joined n test (den a w o) (den b w o)) =
    joined_long k n test (den a w o) (den b w o) (rows_long a S w fits h.2 o) right in
    then_long (k + n) (collected (den a w o)) (den a w o)
    (λ left. with_settled (den b w o) (λ rs. settled (joined n test left rs)))
    (then_long (k + n) (collected (den b w o)) (den b w o)
    (λ rs. settled (joined n test (den a w o) rs))
    (settled_as_long (k + n) (collected (joined n test (den a w o) (den b w o)))
    (joined n test (den a w o) (den b w o)) pairs))
rows_long (settle input) S w fits h o =
    settled_as_long (tree_width input) (collected (den input w o)) (den input w o)
    (rows_long input S w fits h o)
rows_long (group keys ags input) S w fits h o = grouped_long keys ags (collected (den input w o))
rows_long (sort keys input) S w fits h o =
    sorted_long (tree_width input) keys (collected (den input w o))
    (collected_wide (tree_width input) (den input w o) (rows_long input S w fits h o))
