-- Rows move down over places.
use Rattle.std.proofs.Common.{ℕ, zero, suc, ◌≡◌, ◌<◌, ◌≤◌, ◌+◌, ◌-◌, List, [], ◌∷◌, ◌++◌, refl, sym}
use Rattle.std.proofs.Common.{ap, ◌∙◌, subst, arith, length, take, drop, get_or, set, remove}
use Rattle.std.proofs.Common.{slice_get, Some, append_assoc, length-set, take-append-drop}
use Rattle.std.proofs.lemmas.List.{append-nil, drop_all, drop_more, take_more_set, take-set-le}
use Rattle.std.proofs.lemmas.List.{drop-set-lt, length-take-le}
use Rattle.row_types.specs.Rows.{Row}
use Rattle.table_store.specs.Places.{Climb, removed_all}
use Rattle.table_store.proofs.Places.{Climb-end, next_is, not_next, still_there, get_or-removed_all}
use Rattle.table_store.proofs.Places.{take-removed_all, removed_all-set}

drop-append : (xs ys : List Row) (n : ℕ) → length xs ≡ n → drop n (xs ++ ys) ≡ ys
drop-append [] ys zero e = refl
drop-append [] ys (suc n) e = absurd (omega arith)
drop-append (x ∷ xs) ys zero e = absurd (omega arith)
drop-append (x ∷ xs) ys (suc n) e = drop-append xs ys n (omega arith)

-- at first all stand
pub all_stand : (first : ℕ) (ps : List ℕ) (rows : List Row) → Climb first ps (length rows) →
    take first rows ++ drop first (removed_all ps rows) ≡ removed_all ps rows
all_stand first ps rows c =
    ap (λ (xs : List Row). xs ++ drop first (removed_all ps rows))
    (sym (take-removed_all first ps rows c)) ∙ take-append-drop first (removed_all ps rows)

-- a place is passed
pub passed_one : (p : ℕ) (ps : List ℕ) (rows all : List Row) (w : ℕ) →
    Climb p (p ∷ ps) (length rows) → take w rows ++ drop p (removed_all (p ∷ ps) rows) ≡ all
    → take w rows ++ drop (p + 1) (removed_all ps rows) ≡ all
passed_one p ps rows all w c h =
    let left = removed_all ps rows in
    let l : p < length left = still_there p ps rows c.1 c.2 in
    let on : suc p ≡ p + 1 = omega arith in
    let cut : drop p (remove left p) ≡ drop (p + 1) left =
    drop-append (take p left) (drop (suc p) left) p (length-take-le p left (omega arith)) ∙
    ap (λ n. drop n left) on in
    ap (λ (xs : List Row). take w rows ++ xs) (sym cut) ∙ h

-- a row moves down
pub moved_down : (ps : List ℕ) (rows all : List Row) (r w : ℕ) → Climb (suc r) ps (length rows) →
    w ≤ r → r < length rows → take w rows ++ drop r (removed_all ps rows) ≡ all
    → take (w + 1) (set (set rows r []) w (get_or rows r [])) ++ drop (r + 1)
    (removed_all ps (set (set rows r []) w (get_or rows r []))) ≡ all
moved_down ps rows all r w c l n h =
    let left = removed_all ps rows in
    let x = get_or rows r [] in
    let out : removed_all ps (set (set rows r []) w x) ≡ set (set left r []) w x =
    removed_all-set (suc r) ps (set rows r []) (length rows) w x (omega arith) c ∙
    ap (λ (xs : List Row). set xs w x) (removed_all-set (suc r) ps rows (length rows) r []
    (omega arith) c) in
    let front : take (w + 1) (set (set rows r []) w x) ≡ take w rows ++ x ∷ [] =
    take_more_set (set rows r []) w x (let e = length-set rows r [] in omega arith) ∙
    ap (λ (xs : List Row). xs ++ x ∷ []) (take-set-le w rows r [] (omega arith)) in
    let after : drop (r + 1) (set (set left r []) w x) ≡ drop (r + 1) left =
    drop-set-lt (r + 1) (set left r []) w x (omega arith) ∙
    drop-set-lt (r + 1) left r [] (omega arith) in
    let next : drop r left ≡ x ∷ drop (r + 1) left =
    drop_more left r [] (still_there r ps rows n c) ∙ ap (λ (y : Row). y ∷ drop (r + 1) left)
    (get_or-removed_all (suc r) ps rows r [] (omega arith) c) in
    ap (λ (xs : List Row). take (w + 1) (set (set rows r []) w x) ++ drop (r + 1) xs) out ∙
    ap (λ (xs : List Row). xs ++ drop (r + 1) (set (set left r []) w x)) front
    ∙ ap (λ (xs : List Row). (take w rows ++ x ∷ []) ++ xs) after ∙
    append_assoc (take w rows) (x ∷ []) (drop (r + 1) left)
    ∙ ap (λ (xs : List Row). take w rows ++ xs) (sym next) ∙ h

-- at last the rest is cut off
pub closed : (ps : List ℕ) (rows all : List Row) (r w : ℕ) → r ≡ length rows →
    Climb r ps (length rows) → take w rows ++ drop r (removed_all ps rows) ≡ all → take w rows ≡ all
closed ps rows all r w e c h =
    let none : ps ≡ [] = Climb-end r ps (subst (λ n. Climb r ps n) (sym e) c) in
    let gone : drop r (removed_all ps rows) ≡ [] =
    ap (λ (qs : List ℕ). drop r (removed_all qs rows)) none ∙ drop_all r rows (omega arith) in
    sym (ap (λ (xs : List Row). take w rows ++ xs) gone ∙ append-nil (take w rows)) ∙ h

-- ---- the same, as the code has it

-- Of the rows before one place those that stay have moved down over the first of the places.
pub record Closing (ps : List ℕ) (rows all : List Row) (from passed count : ℕ) : Type 0 where
  pub rows_then : take (from - passed) rows ++ drop from (removed_all (drop passed ps) rows) ≡ all
  pub climb : Climb from (drop passed ps) (length rows)
  pub len : length rows ≡ count
  pub fewer : passed ≤ from
  pub within : from ≤ count

pub starts : (ps : List ℕ) (rows : List Row) (first count : ℕ) → count ≡ length rows →
    first ≤ length rows → Climb first ps (length rows) →
    Closing ps rows (removed_all ps rows) first 0 count
starts ps rows first count e l c =
    let same : first - 0 ≡ first = omega arith in
    record {
      rows_then = ap (λ n. take n rows ++ drop first (removed_all ps rows)) same ∙
          all_stand first ps rows c;
      climb = c;
      len = sym e;
      fewer = omega arith;
      within = omega arith;
    }

module _ (ps : List ℕ) (rows all : List Row) (from passed count : ℕ)
    (g : Closing ps rows all from passed count) where
  on : suc from ≡ from + 1
  on = omega arith

  more : suc passed ≡ passed + 1
  more = omega arith

  pub passes : slice_get ps passed ≡ Some from → Closing ps rows all (from + 1) (passed + 1) count
  passes e =
      let here : drop passed ps ≡ from ∷ drop (passed + 1) ps = next_is ps passed from e ∙
      ap (λ n. from ∷ drop n ps) more in
      let c : Climb from (from ∷ drop (passed + 1) ps) (length rows) =
      subst (λ (qs : List ℕ). Climb from qs (length rows)) here g.climb in
      let same : from + 1 - (passed + 1) ≡ from - passed = omega arith in
      record {
        rows_then = ap (λ n. take n rows ++ drop (from + 1)
            (removed_all (drop (passed + 1) ps) rows)) same
            ∙ passed_one from (drop (passed + 1) ps) rows all (from - passed) c
            (ap (λ (qs : List ℕ). take (from - passed) rows ++ drop from (removed_all qs rows))
            (sym here) ∙ g.rows_then);
        climb = subst (λ n. Climb n (drop (passed + 1) ps) (length rows)) on c.2;
        len = g.len;
        fewer = (let f = g.fewer in omega arith);
        within = (let a : from < length rows = c.1 in let b = g.len in omega arith);
      }

  pub moves : (slice_get ps passed ≡ Some from → ⊥) → from < count → (rows' : List Row) →
      rows' ≡ set (set rows from []) (from - passed) (get_or rows from []) →
      Closing ps rows' all (from + 1) passed count
  moves n l rows' e =
      let c : Climb (suc from) (drop passed ps) (length rows) =
      not_next ps passed from (length rows) n g.climb in
      let f = g.fewer in
      let m = g.len in
      let same : from + 1 - passed ≡ from - passed + 1 = omega arith in
      let row = get_or rows from [] in
      let long : length (set (set rows from []) (from - passed) row) ≡ length rows =
      length-set (set rows from []) (from - passed) row ∙ length-set rows from [] in
      subst (λ (xs : List Row). Closing ps xs all (from + 1) passed count) (sym e)
      record {
        rows_then = ap (λ k. take k (set (set rows from []) (from - passed) row) ++ drop (from + 1)
            (removed_all (drop passed ps) (set (set rows from []) (from - passed) row))) same
            ∙ moved_down (drop passed ps) rows all from (from - passed) c (omega arith)
            (omega arith) g.rows_then;
        climb = subst (λ k. Climb (from + 1) (drop passed ps) k) (sym long)
            (subst (λ k. Climb k (drop passed ps) (length rows)) on c);
        len = long ∙ g.len;
        fewer = omega arith;
        within = omega arith;
      }

  pub closes : count ≤ from → (last : List Row) → last ≡ take (count - passed) rows → last ≡ all
  closes l last e =
      let m = g.len in
      let w = g.within in
      let same : count - passed ≡ from - passed = omega arith in
      e ∙ ap (λ n. take n rows) same ∙ closed (drop passed ps) rows all from (from - passed)
      (omega arith) g.climb g.rows_then
