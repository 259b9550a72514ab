-- How the rows of one node go on to the next, and what is collected of them.
use Rattle.std.proofs.Common.{◌≡◌, ℕ, List, [], ◌∷◌, ◌++◌, length, map, refl, ap, sym, ◌∙◌}
use Rattle.std.proofs.Common.{append_assoc}
use Rattle.std.proofs.lemmas.List.{map-append}
use Rattle.sql_values.specs.declared.value.Value.{Value}
use Rattle.row_types.specs.Cells.{PlanRow, Poisoned, Whole}
use Rattle.row_types.specs.Rows.{Row}
use Rattle.row_types.specs.declared.cell.Cell.{Cell}
use Rattle.row_types.specs.declared.cell.Cell.TheVariants.{Cond, Val}
use Rattle.rel_algebra.specs.Endings.{Ending, after}
use Rattle.rel_algebra.specs.Joins.{pairs}
use Rattle.rel_algebra.specs.Plain.{each_of}
use Rattle.rel_algebra.specs.Plan.{collected, crossed, each, finished, settled, settled_as}
use Rattle.rel_algebra.specs.Plan.{settled_then, shown, shown_rows, values_of, with_settled}
use Rattle.rel_algebra.specs.Theorem.{AllWide}
use Rattle.rel_algebra.proofs.Truths.{both}
use Rattle.std.proofs.Common.{Err, Ok}

pub each_append : (f : List Cell → List PlanRow) (xs ys : List PlanRow) →
    each f (xs ++ ys) ≡ each f xs ++ each f ys
each_append f [] ys = refl
each_append f (Whole row ∷ xs) ys = ap (λ (zs : List PlanRow). f row ++ zs) (each_append f xs ys)
    ∙ sym (append_assoc (f row) (each f xs) (each f ys))
each_append f (Poisoned s ∷ xs) ys =
    ap (λ (zs : List PlanRow). Poisoned s ∷ zs) (each_append f xs ys)

-- one node after another is one node
pub each_each : (f g : List Cell → List PlanRow) (rows : List PlanRow) →
    each g (each f rows) ≡ each (λ row. each g (f row)) rows
each_each f g [] = refl
each_each f g (Whole row ∷ rows) = each_append g (f row) (each f rows)
    ∙ ap (λ (zs : List PlanRow). each g (f row) ++ zs) (each_each f g rows)
each_each f g (Poisoned s ∷ rows) = ap (λ (zs : List PlanRow). Poisoned s ∷ zs) (each_each f g rows)

pub each_same : (f g : List Cell → List PlanRow) (rows : List PlanRow) →
    ((row : List Cell) → f row ≡ g row) → each f rows ≡ each g rows
each_same f g [] h = refl
each_same f g (Whole row ∷ rows) h =
    both (λ (a b : List PlanRow). a ++ b) _ _ _ _ (h row) (each_same f g rows h)
each_same f g (Poisoned s ∷ rows) h =
    ap (λ (zs : List PlanRow). Poisoned s ∷ zs) (each_same f g rows h)

pub each_whole : (rows : List PlanRow) → each (λ row. Whole row ∷ []) rows ≡ rows
each_whole [] = refl
each_whole (Whole row ∷ rows) = ap (λ (zs : List PlanRow). Whole row ∷ zs) (each_whole rows)
each_whole (Poisoned s ∷ rows) = ap (λ (zs : List PlanRow). Poisoned s ∷ zs) (each_whole rows)

-- Rows of values.
pub values_shown : (r : Row) → values_of (shown r) ≡ Ok r
values_shown [] = refl
values_shown (v ∷ r) = ap (λ (e : Ending Row). after e (λ vs. Ok (v ∷ vs))) (values_shown r)

pub collected_shown : (rs : List Row) → collected (shown_rows rs) ≡ Ok rs
collected_shown [] = refl
collected_shown (r ∷ rs) =
    both (λ (a : Ending Row) (b : Ending (List Row)). after a (λ x. after b (λ xs. Ok (x ∷ xs)))) _
    _ _ _ (values_shown r)
    (collected_shown rs)

pub collected_finished : (e : Ending (List Row)) → collected (finished e) ≡ e
collected_finished (Ok rs) = collected_shown rs
collected_finished (Err s) = refl

-- these cells, where they are values
abbrev pub AreCells : Ending Row → List Cell → Type 0
AreCells (Ok vs) cs = cs ≡ shown vs
AreCells (Err s) cs = Unit {0}

more_cells : (e : Ending Row) (v : Value) (cs : List Cell) → AreCells e cs →
    AreCells (after e (λ vs. Ok (v ∷ vs))) (Val v ∷ cs)
more_cells (Ok vs) v cs h = ap (λ (ds : List Cell). Val v ∷ ds) h
more_cells (Err s) v cs h = tt

pub are_cells : (cs : List Cell) → AreCells (values_of cs) cs
are_cells [] = refl
are_cells (Cond s ∷ cs) = tt
are_cells (Val v ∷ cs) = more_cells (values_of cs) v cs (are_cells cs)

abbrev pub AreRows : Ending (List Row) → List PlanRow → Type 0
AreRows (Ok rs) rows = rows ≡ shown_rows rs
AreRows (Err s) rows = Unit {0}

more_rows : (e : Ending Row) (d : Ending (List Row)) (cs : List Cell) (rows : List PlanRow) →
    AreCells e cs → AreRows d rows →
    AreRows (after e (λ r. after d (λ rs. Ok (r ∷ rs)))) (Whole cs ∷ rows)
more_rows (Err s) d cs rows h k = tt
more_rows (Ok r) (Err s) cs rows h k = tt
more_rows (Ok r) (Ok rs) cs rows h k =
    both (λ (ds : List Cell) (xs : List PlanRow). Whole ds ∷ xs) _ _ _ _ h k

pub are_rows : (rows : List PlanRow) → AreRows (collected rows) rows
are_rows [] = refl
are_rows (Poisoned s ∷ rows) = tt
are_rows (Whole cs ∷ rows) =
    more_rows (values_of cs) (collected rows) cs rows (are_cells cs) (are_rows rows)

settled_are : (e : Ending (List Row)) (rows : List PlanRow) → AreRows e rows →
    settled_as e rows ≡ finished e
settled_are (Ok rs) rows h = h
settled_are (Err s) rows h = refl

-- to settle is to collect
pub settled_finished : (rows : List PlanRow) → settled rows ≡ finished (collected rows)
settled_finished rows = settled_are (collected rows) rows (are_rows rows)

-- Row by row.
after_gives : (e : Ending (List Row)) → e ≡ after e (λ rs. Ok rs)
after_gives (Ok rs) = refl
after_gives (Err s) = refl

joined_ends : (v : Ending Row) (a b : Ending (List Row)) →
    after v (λ r. after (after a (λ x. after b (λ y. Ok (x ++ y)))) (λ rs. Ok (r ∷ rs)))
    ≡ after (after v (λ r. after a (λ rs. Ok (r ∷ rs))))
    (λ x. after b (λ y. Ok (x ++ y)))
joined_ends (Err s) a b = refl
joined_ends (Ok r) (Err s) b = refl
joined_ends (Ok r) (Ok x) (Err s) = refl
joined_ends (Ok r) (Ok x) (Ok y) = refl

pub collected_append : (xs ys : List PlanRow) →
    collected (xs ++ ys) ≡ after (collected xs) (λ a. after (collected ys) (λ b. Ok (a ++ b)))
collected_append [] ys = after_gives (collected ys)
collected_append (Poisoned s ∷ xs) ys = refl
collected_append (Whole cs ∷ xs) ys =
    ap (λ (e : Ending (List Row)). after (values_of cs) (λ r. after e (λ rs. Ok (r ∷ rs))))
    (collected_append xs ys)
    ∙ joined_ends (values_of cs) (collected xs) (collected ys)

pub collected_rows : (n : ℕ) (g : List Cell → List PlanRow) (f : Row → Ending (List Row)) →
    ((r : Row) → length r ≡ n → collected (g (shown r)) ≡ f r) → (rs : List Row) → AllWide n rs →
    collected (each g (shown_rows rs)) ≡ each_of f rs
collected_rows n g f h [] wide = refl
collected_rows n g f h (r ∷ rs) wide =
    collected_append (g (shown r)) (each g (shown_rows rs))
    ∙ both (λ (a b : Ending (List Row)). after a (λ x. after b (λ y. Ok (x ++ y)))) _ _ _ _
    (h r wide.0) (collected_rows n g f h rs wide.1)

abbrev pub WideEnd : ℕ → Ending (List Row) → Type 0
WideEnd n (Ok rs) = AllWide n rs
WideEnd n (Err s) = Unit {0}

-- a node over a finished list
pub collected_each : (n : ℕ) (g : List Cell → List PlanRow) (f : Row → Ending (List Row)) →
    ((r : Row) → length r ≡ n → collected (g (shown r)) ≡ f r) → (e : Ending (List Row)) →
    WideEnd n e →
    collected (each g (finished e)) ≡ after e (λ rs. each_of f rs)
collected_each n g f h (Ok rs) wide = collected_rows n g f h rs wide
collected_each n g f h (Err s) wide = refl

-- Pairs.
pub shown_append : (a b : Row) → shown a ++ shown b ≡ shown (a ++ b)
shown_append a b = sym (map-append Val a b)

shown_rows_append : (a b : List Row) → shown_rows a ++ shown_rows b ≡ shown_rows (a ++ b)
shown_rows_append [] b = refl
shown_rows_append (r ∷ a) b =
    ap (λ (rows : List PlanRow). Whole (shown r) ∷ rows) (shown_rows_append a b)

crossed_row : (l : Row) (rs : List Row) → each (λ r. Whole (shown l ++ r) ∷ []) (shown_rows rs)
    ≡ shown_rows (map (λ (r : Row). l ++ r) rs)
crossed_row l [] = refl
crossed_row l (r ∷ rs) = both (λ (c : List Cell) (rows : List PlanRow). Whole c ∷ rows) _ _ _ _
    (shown_append l r) (crossed_row l rs)

pub crossed_shown : (ls rs : List Row) → crossed (shown_rows ls) (shown_rows rs)
    ≡ shown_rows (pairs ls rs)
crossed_shown [] rs = refl
crossed_shown (l ∷ ls) rs =
    both (λ (a b : List PlanRow). a ++ b) _ _ _ _ (crossed_row l rs) (crossed_shown ls rs)
    ∙ shown_rows_append (map (λ (r : Row). l ++ r) rs)
    (pairs ls rs)

settled_go : (e : Ending (List Row)) (go : List PlanRow → List PlanRow) →
    with_settled (finished e) go ≡ settled_then e (finished e) go
settled_go e go = ap (λ (d : Ending (List Row)). settled_then d (finished e) go)
    (collected_finished e)

right_finished : (m : ℕ) (b : Ending (List Row)) (go : List PlanRow → List PlanRow) (f : List Row →
    Ending (List Row)) → WideEnd m b →
    ((rs : List Row) → AllWide m rs → go (shown_rows rs) ≡ finished (f rs)) →
    settled_then b (finished b) go ≡ finished (after b f)
right_finished m (Err s) go f wide h = refl
right_finished m (Ok rs) go f wide h = h rs wide

-- what is made of two finished lists
pub both_finished : (n m : ℕ) (a b : Ending (List Row)) (go : List PlanRow → List PlanRow →
    List PlanRow)
    (f : List Row → List Row → Ending (List Row)) → WideEnd n a → WideEnd m b →
    ((ls rs : List Row) → AllWide n ls → AllWide m rs → go (shown_rows ls) (shown_rows rs)
    ≡ finished (f ls rs)) →
    with_settled (finished a) (λ left. with_settled (finished b) (go left))
    ≡ finished (after a (λ ls. after b (f ls)))
both_finished n m (Err s) b go f wa wb h = refl
both_finished n m (Ok ls) b go f wa wb h =
    settled_go (Ok ls) (λ left. with_settled (finished b) (go left))
    ∙ (settled_go b (go (shown_rows ls))
    ∙ right_finished m b (go (shown_rows ls)) (f ls) wb (λ rs w. h ls rs wa w))
