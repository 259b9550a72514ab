-- Rows that are put in the places of others, and in all places of a table.
use Rattle.std.proofs.Common.{ℕ, zero, suc, ◌≡◌, ◌<◌, ◌≤◌, true, Bool, List, [], ◌∷◌, ◌++◌}
use Rattle.std.proofs.Common.{length, take, drop, get_or, set, refl, sym, ap, ◌∙◌, arith}
use Rattle.std.proofs.Common.{length-append, append_assoc, add-one, subst}
use Rattle.std.specs.List.{list_all}
use Rattle.std.proofs.Math.Seq.{take-suc, take-length}
use Rattle.std.proofs.lemmas.Bool.{and_parts}
use Rattle.std.proofs.lemmas.List.{drop-set, drop_all, length-set, length-take-le, append-nil}
use Rattle.row_types.specs.Rows.{Row, fits, well_kept}
use Rattle.row_types.specs.Tables.{Table}
use Rattle.row_types.proofs.Laws.{all-set}
use Rattle.table_store.proofs.Laws.{kept_fits}
use Rattle.atomic_undo.specs.Changes.{set_all, Climb}
use Rattle.run_changes.specs.Making.{places_below}

-- ---- rows at places

set_all-append : (ps : List ℕ) (rs : List Row) (p : ℕ) (r : Row) (rows : List Row) →
    length ps ≡ length rs →
    set_all (ps ++ p ∷ []) (rs ++ r ∷ []) rows ≡ set_all ps rs (set rows p r)
set_all-append [] [] p r rows e = refl
set_all-append [] (s ∷ ss) p r rows e = absurd (omega arith)
set_all-append (q ∷ qs) [] p r rows e = absurd (omega arith)
set_all-append (q ∷ qs) (s ∷ ss) p r rows e =
    ap (λ (xs : List Row). set xs q s) (set_all-append qs ss p r rows (omega arith))

length-set_all : (ps : List ℕ) (rs rows : List Row) → length (set_all ps rs rows) ≡ length rows
length-set_all [] rs rows = refl
length-set_all (p ∷ ps) [] rows = refl
length-set_all (p ∷ ps) (r ∷ rs) rows = length-set (set_all ps rs rows) p r ∙
    length-set_all ps rs rows

all-set_all : (f : Row → Bool) (ps : List ℕ) (rs rows : List Row) → list_all f rs ≡ true →
    list_all f rows ≡ true → list_all f (set_all ps rs rows) ≡ true
all-set_all f [] rs rows h k = k
all-set_all f (p ∷ ps) [] rows h k = k
all-set_all f (p ∷ ps) (r ∷ rs) rows h k =
    let both = and_parts (f r) (list_all f rs) h in
    all-set f (set_all ps rs rows) p r both.0 (all-set_all f ps rs rows both.1 k)

-- the last of places and of rows is put first
pub last_set : (places ps : List ℕ) (new rs : List Row) (p : ℕ) (r : Row) (rows : List Row) →
    length places ≡ length new → places ≡ ps ++ p ∷ [] → new ≡ rs ++ r ∷ [] →
    (set_all ps rs (set rows p r) ≡ set_all places new rows) × (length ps ≡ length rs)
last_set places ps new rs p r rows e h k =
    let a : length places ≡ length (ps ++ p ∷ []) = ap (λ (xs : List ℕ). length xs) h in
    let b : length new ≡ length (rs ++ r ∷ []) = ap (λ (xs : List Row). length xs) k in
    let even : length ps ≡ length rs =
    omega (arith, length-append ps (p ∷ []), length-append rs (r ∷ [])) in (
      sym (set_all-append ps rs p r rows even)
          ∙ ap (λ (xs : List ℕ). set_all xs (rs ++ r ∷ []) rows) (sym h)
          ∙ ap (λ (xs : List Row). set_all places xs rows) (sym k),
      even,
    )

-- ---- all places

length-places_below : (n : ℕ) → length (places_below n) ≡ n
length-places_below zero = refl
length-places_below (suc n) =
    let a = length-append (places_below n) (n ∷ []) in let b = length-places_below n in omega arith

-- places that climb, and one more
climb_on : (low : ℕ) (ps : List ℕ) (p high : ℕ) → Climb low ps p → low ≤ p → p < high →
    Climb low (ps ++ p ∷ []) high
climb_on low [] p high c l h = (l, h, tt)
climb_on low (q ∷ qs) p high c l h =
    let a = c.1 in (c.0, omega arith, climb_on (suc q) qs p high c.2 (omega arith) h)

climb-places_below : (n : ℕ) → Climb 0 (places_below n) n
climb-places_below zero = tt
climb-places_below (suc n) =
    climb_on 0 (places_below n) n (suc n) (climb-places_below n) (omega arith) (omega arith)

-- rows are put in the first places
set_all-first : (n : ℕ) (new rows : List Row) → n ≤ length new → n ≤ length rows →
    set_all (places_below n) (take n new) rows ≡ take n new ++ drop n rows
set_all-first zero new rows h k = refl
set_all-first (suc n) new rows h k =
    let r = get_or new n [] in
    let more = length-take-le n new (omega arith) in
    let long = length-places_below n in
    let one_more = take-suc new n [] (omega arith) in
    ap (λ (rs : List Row). set_all (places_below n ++ n ∷ []) rs rows) one_more
    ∙ set_all-append (places_below n) (take n new) n r rows (omega arith)
    ∙ set_all-first n new (set rows n r) (omega arith) (let e = length-set rows n r in omega arith)
    ∙ ap (λ (rs : List Row). take n new ++ rs) (drop-set rows n r (omega arith))
    ∙ ap (λ m. take n new ++ r ∷ drop m rows) (add-one n)
    ∙ sym (append_assoc (take n new) (r ∷ []) (drop (suc n) rows))
    ∙ ap (λ (rs : List Row). rs ++ drop (suc n) rows) (sym one_more)

-- rows put in all places are all
set_all-whole : (new rows : List Row) → length new ≡ length rows →
    set_all (places_below (length rows)) new rows ≡ new
set_all-whole new rows e =
    let n = length rows in
    let all : take n new ≡ new = subst (λ m. take m new ≡ new) e (take-length new) in
    ap (λ (rs : List Row). set_all (places_below n) rs rows) (sym all)
    ∙ set_all-first n new rows (omega arith) (omega arith)
    ∙ ap (λ (rs : List Row). rs ++ drop n rows) all
    ∙ ap (λ (rs : List Row). new ++ rs) (drop_all n rows (omega arith)) ∙ append-nil new

-- all rows of a table anew, with others at places
module _ (t : Table) (places all : List ℕ) (new was rows : List Row) (count : ℕ)
    (counted : count ≡ length t.rows) (numbered : all ≡ places_below count) (same : was ≡ t.rows)
    (are : rows ≡ set_all places new was) where
  as_set : rows ≡ set_all places new t.rows
  as_set = are ∙ ap (set_all places new) same

  as_many : length rows ≡ length t.rows
  as_many = ap (λ (xs : List Row). length xs) as_set ∙ length-set_all places new t.rows

  every : all ≡ places_below (length t.rows)
  every = numbered ∙ ap places_below counted

  pub is_whole : list_all (fits t.columns t.key) new ≡ true →
      well_kept t.columns t.key t.rows ≡ true →
      Climb 0 all (length t.rows) × (length all ≡ length rows) ×
      (list_all (fits t.columns t.key) rows ≡ true)
  is_whole fit kept =
      let f = fits t.columns t.key in (
        subst (λ (ps : List ℕ). Climb 0 ps (length t.rows)) (sym every)
            (climb-places_below (length t.rows)),
        ap (λ (ps : List ℕ). length ps) every ∙ length-places_below (length t.rows) ∙ sym as_many,
        ap (list_all f) as_set
            ∙ all-set_all f places new t.rows fit (kept_fits t.columns t.key t.rows kept),
      )

  pub sets_whole : set_all all rows t.rows ≡ set_all places new t.rows
  sets_whole = ap (λ (ps : List ℕ). set_all ps rows t.rows) every ∙
      set_all-whole rows t.rows as_many ∙ as_set
