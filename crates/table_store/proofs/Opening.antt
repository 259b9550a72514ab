-- Rows move up, and others go in between.
use Rattle.std.proofs.Common.{ℕ, suc, ◌≡◌, ◌<◌, ◌≤◌, ◌+◌, ◌-◌, List, [], ◌∷◌, ◌++◌, refl, sym, ap}
use Rattle.std.proofs.Common.{◌∙◌, subst, arith, length, take, drop, get_or, set, insert, remove}
use Rattle.std.proofs.Common.{append_assoc, length-append, length-set, take-append-drop}
use Rattle.std.proofs.lemmas.List.{append-nil, take_all, drop_all, take_more, take-set-le}
use Rattle.std.proofs.lemmas.List.{drop-set-lt, drop-set, length-take-le, get_or_at, get_or_default}
use Rattle.std.proofs.lemmas.List.{length-map, map_push}
use Rattle.std.proofs.lemmas.List.Edits.{length-insert, insert-append_left}
use Rattle.row_types.specs.Rows.{Row}
use Rattle.row_types.proofs.Laws.{insert-remove, remove-insert}
use Rattle.table_store.specs.declared.placed_row.PlacedRow.{PlacedRow}
use Rattle.table_store.specs.Places.{Climb, removed_all, all_placed_at, places_of, inserted_all}
use Rattle.table_store.proofs.Places.{Climb-room, Climb-front, not_last, still_there}
use Rattle.table_store.proofs.Places.{get_or-removed_all}

pub inserted_all-append : (qs rs : List PlacedRow) (rows : List Row) →
    inserted_all (qs ++ rs) rows ≡ inserted_all rs (inserted_all qs rows)
inserted_all-append [] rs rows = refl
inserted_all-append (q ∷ qs) rs rows = inserted_all-append qs rs (insert rows q.at q.row)

-- the first place is there
first_there : (low : ℕ) (q : PlacedRow) (qs : List PlacedRow) (rows : List Row) (high : ℕ) →
    high ≡ length rows + suc (length qs) → Climb low (places_of (q ∷ qs)) high → q.at ≤ length rows
first_there low q qs rows high e c =
    let b : q.at < high = c.1 in
    let r : suc q.at + length (places_of qs) ≤ high =
    Climb-room (suc q.at) (places_of qs) high (omega arith) c.2 in
    let n : length (places_of qs) ≡ length qs = length-map qs (λ (p : PlacedRow). p.at) in
    omega arith

pub length-inserted_all : (low : ℕ) (qs : List PlacedRow) (rows : List Row) (high : ℕ) →
    high ≡ length rows + length qs → Climb low (places_of qs) high
    → length (inserted_all qs rows) ≡ length rows + length qs
length-inserted_all low [] rows high e c = omega arith
length-inserted_all low (q ∷ qs) rows high e c =
    let l : q.at ≤ length rows = first_there low q qs rows high (omega arith) c in
    let n : length (insert rows q.at q.row) ≡ length rows + 1 = length-insert rows q.at q.row l in
    let r : length (inserted_all qs (insert rows q.at q.row)) ≡ length (insert rows q.at q.row) +
    length qs =
    length-inserted_all (suc q.at) qs (insert rows q.at q.row) high (omega arith) c.2 in
    omega arith

-- rows after stay after
inserted_all-before : (low : ℕ) (qs : List PlacedRow) (rows after : List Row) (high : ℕ) →
    high ≡ length rows + length qs → Climb low (places_of qs) high
    → inserted_all qs (rows ++ after) ≡ inserted_all qs rows ++ after
inserted_all-before low [] rows after high e c = refl
inserted_all-before low (q ∷ qs) rows after high e c =
    let l : q.at ≤ length rows = first_there low q qs rows high (omega arith) c in
    let n : length (insert rows q.at q.row) ≡ length rows + 1 = length-insert rows q.at q.row l in
    ap (inserted_all qs) (insert-append_left rows after q.at q.row l) ∙
    inserted_all-before (suc q.at) qs (insert rows q.at q.row) after high (omega arith) c.2

insert-end : (xs : List Row) (n : ℕ) (x : Row) → n ≡ length xs → insert xs n x ≡ xs ++ x ∷ []
insert-end xs n x e =
    ap (λ (ys : List Row). ys ++ x ∷ drop n xs) (take_all n xs (omega arith)) ∙
    ap (λ (ys : List Row). xs ++ x ∷ ys) (drop_all n xs (omega arith))

-- a row takes its place
pub put_last : (left : List PlacedRow) (q : PlacedRow) (rows all : List Row) (to : ℕ) → q.at ≡ to →
    Climb 0 (places_of left) to → to < length rows
    → inserted_all (left ++ q ∷ []) (take (to - length left) rows) ++ drop (to + 1) rows ≡ all
    → inserted_all left (take (to - length left) (set rows to q.row)) ++ drop to
    (set rows to q.row) ≡ all
put_last left q rows all to at c l h =
    let k = to - length left in
    let room : length left ≤ to =
    (let r : 0 + length (places_of left) ≤ to = Climb-room 0 (places_of left) to (omega arith) c in
    let n : length (places_of left) ≡ length left = length-map left (λ (p : PlacedRow). p.at) in
    omega arith) in
    let short : length (take k rows) ≡ k = length-take-le k rows (omega arith) in
    let inner = inserted_all left (take k rows) in
    let long : length inner ≡ length (take k rows) + length left =
    length-inserted_all 0 left (take k rows) to (omega arith) c in
    let last : inserted_all (left ++ q ∷ []) (take k rows) ≡ inner ++ q.row ∷ [] =
    inserted_all-append left (q ∷ []) (take k rows) ∙
    insert-end inner q.at q.row (omega arith) in
    ap (λ (xs : List Row). inserted_all left xs ++ drop to (set rows to q.row))
    (take-set-le k rows to q.row (omega arith))
    ∙ ap (λ (xs : List Row). inner ++ xs) (drop-set rows to q.row l)
    ∙ sym (append_assoc inner (q.row ∷ []) (drop (to + 1) rows))
    ∙ ap (λ (xs : List Row). xs ++ drop (to + 1) rows) (sym last) ∙ h

-- a row moves up
pub moved_up : (left : List PlacedRow) (rows all : List Row) (to : ℕ) →
    Climb 0 (places_of left) to → to < length rows
    → inserted_all left (take (to + 1 - length left) rows) ++ drop (to + 1) rows ≡ all
    → inserted_all left (take (to - length left)
    (set (set rows (to - length left) []) to (get_or rows (to - length left) []))) ++ drop to
    (set (set rows (to - length left) []) to (get_or rows (to - length left) [])) ≡ all
moved_up left rows all to c l h =
    let k = to - length left in
    let x = get_or rows k [] in
    let room : length left ≤ to =
    (let r : 0 + length (places_of left) ≤ to = Climb-room 0 (places_of left) to (omega arith) c in
    let n : length (places_of left) ≡ length left = length-map left (λ (p : PlacedRow). p.at) in
    omega arith) in
    let short : length (take k rows) ≡ k = length-take-le k rows (omega arith) in
    let on : to + 1 - length left ≡ k + 1 = omega arith in
    let inner = inserted_all left (take k rows) in
    let split : inserted_all left (take (to + 1 - length left) rows) ≡ inner ++ x ∷ [] =
    ap (λ n. inserted_all left (take n rows)) on ∙
    ap (inserted_all left) (take_more rows k [] (omega arith)) ∙
    inserted_all-before 0 left (take k rows) (x ∷ []) to (omega arith) c in
    let front : take k (set (set rows k []) to x) ≡ take k rows =
    take-set-le k (set rows k []) to x (omega arith) ∙
    take-set-le k rows k [] (omega arith) in
    let after : drop to (set (set rows k []) to x) ≡ x ∷ drop (to + 1) rows =
    drop-set (set rows k []) to x (let e = length-set rows k [] in omega arith) ∙
    ap (λ (xs : List Row). x ∷ xs) (drop-set-lt (to + 1) rows k [] (omega arith)) in
    ap (λ (xs : List Row). inserted_all left xs ++ drop to (set (set rows k []) to x)) front
    ∙ ap (λ (xs : List Row). inner ++ xs) after
    ∙ sym (append_assoc inner (x ∷ []) (drop (to + 1) rows))
    ∙ ap (λ (xs : List Row). xs ++ drop (to + 1) rows) (sym split) ∙ h

-- the place of the last row
pub last_place_is : (left front : List PlacedRow) (q : PlacedRow) → left ≡ front ++ q ∷ [] →
    get_or (places_of left) (length left - 1) 0 ≡ q.at
last_place_is left front q e =
    let n : length left ≡ length (front ++ q ∷ []) = ap (λ (xs : List PlacedRow). length xs) e in
    let m : length (front ++ q ∷ []) ≡ length front + 1 = length-append front (q ∷ []) in
    let k : length left - 1 ≡ length front = omega arith in
    let f : length (places_of front) ≡ length front = length-map front (λ (p : PlacedRow). p.at) in
    ap (λ (xs : List PlacedRow). get_or (places_of xs) (length left - 1) 0) e
    ∙ ap (λ (xs : List ℕ). get_or xs (length left - 1) 0)
    (map_push (λ (p : PlacedRow). p.at) front q)
    ∙ get_or_at (places_of front) q.at [] 0 (length left - 1) (omega arith)

-- ---- there and back

-- rows that were taken out go in again
pub inserted-removed : (low : ℕ) (ps : List ℕ) (rows : List Row) → Climb low ps (length rows) →
    inserted_all (all_placed_at ps rows) (removed_all ps rows) ≡ rows
inserted-removed low [] rows c = refl
inserted-removed low (p ∷ ps) rows c =
    let left = removed_all ps rows in
    let same : get_or rows p [] ≡ get_or left p (get_or rows p []) =
    sym (get_or_default left p (get_or rows p []) [] (still_there p ps rows c.1 c.2) ∙
    get_or-removed_all (suc p) ps rows p [] (omega arith) c.2) in
    ap (inserted_all (all_placed_at ps rows))
    (insert-remove left p (get_or rows p []) (still_there p ps rows c.1 c.2) same) ∙
    inserted-removed (suc p) ps rows c.2

-- rows that went in are taken out again
pub removed-inserted : (low : ℕ) (qs : List PlacedRow) (rows : List Row) (high : ℕ) →
    high ≡ length rows + length qs → Climb low (places_of qs) high
    → removed_all (places_of qs) (inserted_all qs rows) ≡ rows
removed-inserted low [] rows high e c = refl
removed-inserted low (q ∷ qs) rows high e c =
    let l : q.at ≤ length rows = first_there low q qs rows high (omega arith) c in
    let n : length (insert rows q.at q.row) ≡ length rows + 1 = length-insert rows q.at q.row l in
    ap (λ (xs : List Row). remove xs q.at) (removed-inserted (suc q.at) qs (insert rows q.at q.row)
    high (omega arith) c.2) ∙ remove-insert rows q.at q.row l

-- ---- the same, as the code has it

-- The rows that stand from one place on are those that will, and the others are to go in or to move
-- up.
pub record Opening (left : List PlacedRow) (rows all : List Row) (to : ℕ) : Type 0 where
  pub rows_then : inserted_all left (take (to - length left) rows) ++ drop to rows ≡ all
  pub climb : Climb 0 (places_of left) to
  pub within : to ≤ length rows

-- rows without values stand after the others
pub opens : (new : List PlacedRow) (old rows : List Row) (to : ℕ) → take (length old) rows ≡ old →
    length rows ≡ length old + length new → to ≡ length rows →
    Climb 0 (places_of new) (length old + length new)
    → Opening new rows (inserted_all new old) to
opens new old rows to f n e c =
    let k : to - length new ≡ length old = omega arith in
    let m : length old + length new ≡ to = omega arith in
    record {
      rows_then = ap (λ i. inserted_all new (take i rows) ++ drop to rows) k ∙
          ap (λ (xs : List Row). inserted_all new xs ++ drop to rows) f
          ∙ ap (λ (xs : List Row). inserted_all new old ++ xs) (drop_all to rows (omega arith)) ∙
          append-nil (inserted_all new old);
      climb = subst (λ i. Climb 0 (places_of new) i) m c;
      within = omega arith;
    }

pub as_many : (left : List PlacedRow) (to : ℕ) → Climb 0 (places_of left) to → length left ≤ to
as_many left to c =
    let r : 0 + length (places_of left) ≤ to = Climb-room 0 (places_of left) to (omega arith) c in
    let n : length (places_of left) ≡ length left = length-map left (λ (p : PlacedRow). p.at) in
    omega arith

module _ (left : List PlacedRow) (rows all : List Row) (to : ℕ) (g : Opening left rows all to) where
  pub not_yet : 0 < length left → 0 < to
  not_yet l = let a = as_many left to g.climb in omega arith

  -- the last row has this place
  pub puts : (front : List PlacedRow) (q : PlacedRow) → left ≡ front ++ q ∷ [] →
      get_or (places_of left) (length left - 1) 0 ≡ to - 1 → 0 < to
      → (rows' : List Row) → rows' ≡ set rows (to - 1) q.row → Opening front rows' all (to - 1)
  puts front q e last l rows' f =
      let next = to - 1 in
      let w = g.within in
      let at : q.at ≡ next = sym (last_place_is left front q e) ∙ last in
      let places : places_of left ≡ places_of front ++ q.at ∷ [] = ap places_of e ∙
      map_push (λ (p : PlacedRow). p.at) front q in
      let c : Climb 0 (places_of front) q.at = Climb-front 0 (places_of front) q.at to
      (subst (λ (ps : List ℕ). Climb 0 ps to) places g.climb) in
      let d : Climb 0 (places_of front) next = subst (λ n. Climb 0 (places_of front) n) at c in
      let n : length left ≡ length front + 1 = ap (λ (xs : List PlacedRow). length xs) e ∙
      length-append front (q ∷ []) in
      let k : to - length left ≡ next - length front = omega arith in
      let on : to ≡ next + 1 = omega arith in
      subst (λ (xs : List Row). Opening front xs all next) (sym f)
      record {
        rows_then = put_last front q rows all next at d (omega arith)
            (ap (λ i. inserted_all (front ++ q ∷ []) (take i rows) ++ drop (next + 1) rows)
            (sym k) ∙ ap (λ (xs : List PlacedRow). inserted_all xs
            (take (to - length left) rows) ++ drop (next + 1) rows) (sym e)
            ∙ ap (λ i. inserted_all left (take (to - length left) rows) ++ drop i rows) (sym on) ∙
            g.rows_then);
        climb = d;
        within = (let m = length-set rows next q.row in omega arith);
      }

  -- it has one before this
  pub lifts : (get_or (places_of left) (length left - 1) 0 ≡ to - 1 → ⊥) → 0 < length left
      → (rows' : List Row) → rows' ≡ set (set rows (to - 1 - length left) []) (to - 1)
      (get_or rows (to - 1 - length left) []) → Opening left rows' all (to - 1)
  lifts last l rows' f =
      let next = to - 1 in
      let w = g.within in
      let a = as_many left to g.climb in
      let on : to ≡ next + 1 = omega arith in
      let n : length (places_of left) ≡ length left = length-map left (λ (p : PlacedRow). p.at) in
      let other : get_or (places_of left) (length (places_of left) - 1) 0 ≡ next → ⊥ =
      λ e. last (ap (λ i. get_or (places_of left) (i - 1) 0) (sym n) ∙ e) in
      let d : Climb 0 (places_of left) next = not_last 0 (places_of left) next other
      (subst (λ i. Climb 0 (places_of left) i) on g.climb) in
      let long = length-set (set rows (next - length left) []) next
      (get_or rows (next - length left) []) ∙ length-set rows (next - length left) [] in
      subst (λ (xs : List Row). Opening left xs all next) (sym f)
      record {
        rows_then = moved_up left rows all next d (omega arith)
            (ap (λ i. inserted_all left (take (i - length left) rows) ++ drop i rows) (sym on) ∙
            g.rows_then);
        climb = d;
        within = omega arith;
      }

  pub still_left : (get_or (places_of left) (length left - 1) 0 ≡ to - 1 → ⊥) → 0 < length left →
      length left ≤ to - 1
  still_left last l =
      let next = to - 1 in
      let a = as_many left to g.climb in
      let on : to ≡ next + 1 = omega arith in
      let n : length (places_of left) ≡ length left = length-map left (λ (p : PlacedRow). p.at) in
      let other : get_or (places_of left) (length (places_of left) - 1) 0 ≡ next → ⊥ =
      λ e. last (ap (λ i. get_or (places_of left) (i - 1) 0) (sym n) ∙ e) in
      as_many left next (not_last 0 (places_of left) next other
      (subst (λ i. Climb 0 (places_of left) i) on g.climb))

pub opened : (left : List PlacedRow) (rows all : List Row) (to : ℕ) → Opening left rows all to →
    length left ≤ 0 → rows ≡ all
opened [] rows all to g l = sym (take-append-drop to rows) ∙
    ap (λ n. take n rows ++ drop to rows) (let e : to ≡ to - 0 = omega arith in e) ∙ g.rows_then
opened (q ∷ qs) rows all to g l = absurd (omega arith)

pub places_of-placed : (ps : List ℕ) (rows : List Row) → places_of (all_placed_at ps rows) ≡ ps
places_of-placed [] rows = refl
places_of-placed (p ∷ ps) rows = ap (λ (qs : List ℕ). p ∷ qs) (places_of-placed ps rows)
