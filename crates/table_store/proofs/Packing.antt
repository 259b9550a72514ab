-- Rows in blocks.
use Rattle.std.proofs.Common.{ℕ, suc, zero, ◌≡◌, ◌<◌, ◌≤◌, ◌+◌, ◌-◌, ◌*◌, inl, inr, List, [], ◌∷◌}
use Rattle.std.proofs.Common.{◌++◌, refl, sym, ap, ◌∙◌, subst, arith, length, take, drop, get_or}
use Rattle.std.proofs.Common.{set, append_assoc, length-append, eq-or-lt_of_le, length-set}
use Rattle.std.proofs.Common.{take-append-drop, insert, remove}
use Rattle.std.proofs.lemmas.List.{append-nil, get_or_append_left, get_or-append_right}
use Rattle.std.proofs.lemmas.List.{nil_from_length, drop_more, take_more_set, take-set-le}
use Rattle.std.proofs.lemmas.List.{drop-set-lt, drop-set, set_split, get_or-drop, get_or_default}
use Rattle.std.proofs.lemmas.List.{get_or-set_same, set-append_left, set-append_right, take-set}
use Rattle.std.proofs.lemmas.List.{set-set}
use Rattle.std.proofs.lemmas.List.Edits.{insert-append_left, insert-append_right}
use Rattle.std.proofs.lemmas.List.Edits.{remove-append_left, remove-append_right, length-insert}
use Rattle.std.proofs.lemmas.List.Edits.{length-remove}
use Rattle.row_types.specs.Rows.{Row}
use Rattle.table_store.specs.Blocks.{joined, Full, Packed, Lacks}

pub joined-append : (cs bs : List (List Row)) → joined (cs ++ bs) ≡ joined cs ++ joined bs
joined-append [] bs = refl
joined-append (a ∷ cs) bs = ap (λ (xs : List Row). a ++ xs) (joined-append cs bs) ∙
    sym (append_assoc a (joined cs) (joined bs))

pub Full-append : (cs bs : List (List Row)) → Full cs → Full bs → Full (cs ++ bs)
Full-append [] bs f g = g
Full-append (a ∷ cs) bs f g = (f.0, Full-append cs bs f.1 g)

pub Packed-append : (cs bs : List (List Row)) → Full cs → Packed bs → Packed (cs ++ bs)
Packed-append [] bs f p = p
Packed-append (a ∷ cs) bs f p = inl (f.0, Packed-append cs bs f.1 p)

-- blocks without rows
none_left : (xs ys : List Row) → xs ++ ys ≡ [] → (xs ≡ []) × (ys ≡ [])
none_left [] ys h = (refl, h)
none_left (x ∷ xs) ys h = cc

pub Packed-none : (bs : List (List Row)) → joined bs ≡ [] → Packed bs
Packed-none [] h = tt
Packed-none (b ∷ bs) h =
    let p = none_left b (joined bs) h in
    let e : length b ≡ 0 = ap (λ (xs : List Row). length xs) p.0 in
    inr (omega arith, p.1)

-- one row more in the first block
pub Packed-more : (b c : List Row) (bs : List (List Row)) → length c ≡ length b + 1 →
    length b < 1024 → joined bs ≡ [] → Packed (c ∷ bs)
Packed-more b c bs e l h = by_room (length c) refl
  where
    by_room : (n : ℕ) → length c ≡ n → Packed (c ∷ bs)
    by_room n k = elim (eq-or-lt_of_le (let w : length c ≤ 1024 = omega arith in w))
        [ inl s ↦ inl (s, Packed-none bs h) | inr s ↦ inr (s, h) ]

not_full : (b : List Row) (bs : List (List Row)) → Packed (b ∷ bs) → length b < 1024 →
    joined bs ≡ []
not_full b bs (inl p) l = absurd (let e = p.0 in omega arith)
not_full b bs (inr p) l = p.1

full_rest : (b : List Row) (bs : List (List Row)) → Packed (b ∷ bs) → length b ≡ 1024 → Packed bs
full_rest b bs (inl p) e = p.1
full_rest b bs (inr p) e = absurd (let l = p.0 in omega arith)

pub at_most : (b : List Row) (bs : List (List Row)) → Packed (b ∷ bs) → length b ≤ 1024
at_most b bs (inl p) = (let e = p.0 in omega arith)
at_most b bs (inr p) = (let e = p.0 in omega arith)

pub room_for_all : (bs : List (List Row)) → Packed bs → length (joined bs) ≤ 1024 * length bs
room_for_all [] p = omega arith
room_for_all (b ∷ bs) (inl p) = (let e = p.0 in let r = room_for_all bs p.1 in
    omega (arith, length-append b (joined bs)))
room_for_all (b ∷ bs) (inr p) =
    let e = p.0 in let z : length (joined bs) ≡ 0 = ap (λ (xs : List Row). length xs) p.1 in
    omega (arith, length-append b (joined bs))

-- ---- where a row is

pub record IsAt (bs : List (List Row)) (k off : ℕ) : Type 0 where
  pub block : k < length bs
  pub within : off < length (get_or bs k [])
  pub row : (d : Row) → get_or (joined bs) (1024 * k + off) d ≡ get_or (get_or bs k []) off d

pub is_at : (bs : List (List Row)) (k off : ℕ) → Packed bs → off < 1024 →
    1024 * k + off < length (joined bs) → IsAt bs k off
is_at [] k off p o l = absurd (omega arith)
is_at (b ∷ bs) zero off (inl p) o l = record {
  block = omega arith;
  within = (let e = p.0 in omega arith);
  row = λ d. ap (λ n. get_or (b ++ joined bs) n d) (let z : 1024 * 0 + off ≡ off = omega arith in z)
      ∙ get_or_append_left b (joined bs) d off (let e = p.0 in omega arith);
}
is_at (b ∷ bs) zero off (inr p) o l =
    let z : length (joined bs) ≡ 0 = ap (λ (xs : List Row). length xs) p.1 in
    let w : off < length b = omega (arith, length-append b (joined bs)) in
    record {
      block = omega arith;
      within = w;
      row =
          λ d. ap (λ n. get_or (b ++ joined bs) n d) (let z : 1024 * 0 + off ≡ off = omega arith in z)
          ∙ get_or_append_left b (joined bs) d off w;
    }
is_at (b ∷ bs) (suc k) off (inl p) o l =
    let e = p.0 in
    let a : 1024 * suc k + off ≡ 1024 + (1024 * k + off) = omega arith in
    let w : 1024 * k + off < length (joined bs) = omega (arith, length-append b (joined bs)) in
    let i = is_at bs k off p.1 o w in
    record {
      block = (let h = i.block in omega arith);
      within = i.within;
      row = λ d. ap (λ n. get_or (b ++ joined bs) n d) a ∙
          get_or-append_right b (joined bs) 1024 (1024 + (1024 * k + off)) d e (omega arith)
          ∙ ap (λ n. get_or (joined bs) n d)
          (let m : 1024 + (1024 * k + off) - 1024 ≡ 1024 * k + off = omega arith in m) ∙
          i.row d;
    }
is_at (b ∷ bs) (suc k) off (inr p) o l =
    let e = p.0 in
    let z : length (joined bs) ≡ 0 = ap (λ (xs : List Row). length xs) p.1 in
    absurd (omega (arith, length-append b (joined bs)))

-- ---- one block of them

pub split_here : (bs : List (List Row)) (k : ℕ) (b : List Row) → k < length bs → b ≡ get_or bs k b →
    drop k bs ≡ b ∷ drop (k + 1) bs
split_here bs k b l e = drop_more bs k b l ∙ ap (λ (c : List Row). c ∷ drop (k + 1) bs) (sym e)

pub whole : (bs : List (List Row)) (k : ℕ) → joined bs ≡ joined (take k bs) ++ joined (drop k bs)
whole bs k = ap joined (sym (take-append-drop k bs)) ∙ joined-append (take k bs) (drop k bs)

pub rows_before : (bs : List (List Row)) (k : ℕ) → k ≤ length bs → Full (take k bs) →
    length (joined (take k bs)) ≡ 1024 * k
rows_before bs zero l f = refl
rows_before [] (suc k) l f = absurd (omega arith)
rows_before (b ∷ bs) (suc k) l f =
    let h = f.0 in let r = rows_before bs k (omega arith) f.1 in
    omega (arith, length-append b (joined (take k bs)))

pub full_before : (bs : List (List Row)) (k : ℕ) → Packed bs → 1024 * k ≤ length (joined bs) →
    Full (take k bs)
full_before bs zero p l = tt
full_before [] (suc k) p l = tt
full_before (b ∷ bs) (suc k) (inl p) l = (
  p.0,
  full_before bs k p.1
      (let e = p.0 in omega (arith, length-append b (joined bs))),
)
full_before (b ∷ bs) (suc k) (inr p) l =
    let z : length (joined bs) ≡ 0 = ap (λ (xs : List Row). length xs) p.1 in
    absurd (let e = p.0 in omega (arith, length-append b (joined bs)))

pub packed_from : (bs : List (List Row)) (k : ℕ) → Packed bs → Packed (drop k bs)
packed_from bs zero p = p
packed_from [] (suc k) p = tt
packed_from (b ∷ bs) (suc k) (inl p) = packed_from bs k p.1
packed_from (b ∷ bs) (suc k) (inr p) = packed_from bs k (Packed-none bs p.1)

-- another block in the place of one
pub take-other : (bs : List (List Row)) (k : ℕ) (c : List Row) → k < length bs →
    take (k + 1) (set bs k c) ≡ take k bs ++ c ∷ []
take-other bs k c l = take_more_set bs k c l

pub drop-other : (bs : List (List Row)) (k : ℕ) (c : List Row) →
    drop (k + 1) (set bs k c) ≡ drop (k + 1) bs
drop-other bs k c = drop-set-lt (k + 1) bs k c (omega arith)

pub full_more : (bs : List (List Row)) (k : ℕ) (c : List Row) → k < length bs → Full (take k bs) →
    length c ≡ 1024 → Full (take (k + 1) (set bs k c))
full_more bs k c l f e = subst Full (sym (take-other bs k c l))
    (Full-append (take k bs) (c ∷ []) f (e, tt))

pub joined-other : (bs : List (List Row)) (k : ℕ) (c : List Row) → k < length bs →
    joined (set bs k c) ≡ joined (take k bs) ++ (c ++ joined (drop (k + 1) bs))
joined-other bs k c l =
    whole (set bs k c) (k + 1) ∙ ap (λ (xs : List (List Row)). joined xs ++ joined
    (drop (k + 1) (set bs k c))) (take-other bs k c l)
    ∙ ap (λ (xs : List (List Row)). joined (take k bs ++ c ∷ []) ++ joined xs) (drop-other bs k c)
    ∙ ap (λ (xs : List Row). xs ++ joined (drop (k + 1) bs)) (joined-append (take k bs) (c ∷ []) ∙
    ap (λ (xs : List Row). joined (take k bs) ++ xs) (append-nil c))
    ∙ append_assoc (joined (take k bs)) c (joined (drop (k + 1) bs))

pub packed-other : (bs : List (List Row)) (k : ℕ) (c : List Row) → k < length bs →
    Full (take k bs) → Packed (c ∷ drop (k + 1) bs) → Packed (set bs k c)
packed-other bs k c l f p =
    subst Packed (sym (set_split bs k c l ∙ ap (λ n. take k bs ++ c ∷ drop n bs)
    (let e : suc k ≡ k + 1 = omega arith in e)))
    (Packed-append (take k bs) (c ∷ drop (k + 1) bs) f p)

-- ---- a row is handed down

pub record Down (bs : List (List Row)) (k : ℕ) (carry : Row) (target : List Row) : Type 0 where
  pub place : k ≤ length bs
  pub before : Full (take k bs)
  pub packed : Packed (drop k bs)
  pub room : length (joined (drop k bs)) < 1024 * (length bs - k)
  pub rows : joined (take k bs) ++ carry ∷ joined (drop k bs) ≡ target

module _ (bs : List (List Row)) (k : ℕ) (carry : Row) (target : List Row)
    (g : Down bs k carry target) where
  pub block_there : k < length bs
  block_there = let r = g.room in omega arith

  pub down_step : (b front : List Row) (last : Row) → b ≡ get_or bs k b → b ≡ front ++ last ∷ [] →
      length b ≡ 1024 → Down (set bs k (carry ∷ front)) (k + 1) last target
  down_step b front last e h n =
      let l = block_there in
      let here = split_here bs k b l e in
      let rest = drop (k + 1) bs in
      let size : length front + 1 ≡ 1024 = omega
      (arith, ap (λ (xs : List Row). length xs) h, length-append front (last ∷ [])) in
      let same = length-set bs k (carry ∷ front) in
      let count : length (joined (drop k bs)) ≡ length b + length (joined rest) =
      ap (λ (xs : List (List Row)). length (joined xs)) here ∙
      length-append b (joined rest) in
      record {
        place = omega arith;
        before = full_more bs k (carry ∷ front) l g.before (omega arith);
        packed = subst Packed (sym (drop-other bs k (carry ∷ front)))
            (full_rest b rest (subst Packed here g.packed) n);
        room = subst (λ (xs : List (List Row)). length (joined xs) < 1024 *
            (length (set bs k (carry ∷ front)) - (k + 1))) (sym (drop-other bs k (carry ∷ front)))
            (let r = g.room in omega arith);
        rows = ap (λ (xs : List (List Row)). joined xs ++ last ∷ joined
            (drop (k + 1) (set bs k (carry ∷ front)))) (take-other bs k (carry ∷ front) l)
            ∙ ap (λ (xs : List (List Row)). joined (take k bs ++ (carry ∷ front) ∷ []) ++ last ∷
            joined xs) (drop-other bs k (carry ∷ front))
            ∙ ap (λ (xs : List Row). xs ++ last ∷ joined rest)
            (joined-append (take k bs) ((carry ∷ front) ∷ []) ∙
            ap (λ (xs : List Row). joined (take k bs) ++ xs) (append-nil (carry ∷ front)))
            ∙ append_assoc (joined (take k bs)) (carry ∷ front) (last ∷ joined rest)
            ∙ ap (λ (xs : List Row). joined (take k bs) ++ carry ∷ xs)
            (sym (append_assoc front (last ∷ []) (joined rest)) ∙
            ap (λ (xs : List Row). xs ++ joined rest) (sym h) ∙ ap joined (sym here))
            ∙ g.rows;
      }

  pub down_rows : (b : List Row) → b ≡ get_or bs k b → joined (set bs k (carry ∷ b)) ≡ target
  down_rows b e =
      let l = block_there in
      joined-other bs k (carry ∷ b) l ∙ ap (λ (xs : List (List Row)). joined (take k bs) ++ carry ∷
      joined xs) (sym (split_here bs k b l e)) ∙ g.rows

  pub down_packed : (b : List Row) → b ≡ get_or bs k b → (length b ≡ 1024 → ⊥) →
      Packed (set bs k (carry ∷ b))
  down_packed b e n =
      let l = block_there in
      let p = subst Packed (split_here bs k b l e) g.packed in
      let m = at_most b (drop (k + 1) bs) p in
      let short : length b < 1024 = omega arith in
      packed-other bs k (carry ∷ b) l g.before
      (Packed-more b (carry ∷ b) (drop (k + 1) bs) (omega arith) short
      (not_full b (drop (k + 1) bs) p short))

-- ---- a row is fetched up

pub record Up (bs : List (List Row)) (k : ℕ) : Type 0 where
  pub place : k < length bs
  pub before : Full (take k bs)
  pub lacks : Lacks (drop k bs)

lacks_next : (b c d : List Row) (r : Row) (bs : List (List Row)) → Lacks (b ∷ c ∷ bs) → c ≡ r ∷ d →
    (length b ≡ 1023) × Lacks (d ∷ bs)
lacks_next b c d r bs (inl (h, inl p)) e = (
  h,
  inl (
    (let s = p.0 in
        let n : length c ≡ length (r ∷ d) = ap (λ (xs : List Row). length xs) e in omega arith),
    p.1,
  ),
)
lacks_next b c d r bs (inl (h, inr p)) e = (
  h,
  inr (
    (let s = p.0 in
        let n : length c ≡ length (r ∷ d) = ap (λ (xs : List Row). length xs) e in omega arith),
    p.1,
  ),
)
lacks_next b c d r bs (inr p) e =
    let z = (none_left c (joined bs) p.1).0 in let y : r ∷ d ≡ [] = sym e ∙ z in cc

module _ (bs : List (List Row)) (k : ℕ) (g : Up bs k) (b c d : List Row) (r : Row)
    (l : k + 1 < length bs) (eb : b ≡ get_or bs k b) (ec : c ≡ get_or bs (k + 1) c)
    (h : c ≡ r ∷ d) where
  here : drop k bs ≡ b ∷ c ∷ drop (k + 1 + 1) bs
  here = split_here bs k b (omega arith) eb ∙
      ap (λ (xs : List (List Row)). b ∷ xs) (split_here bs (k + 1) c l ec)

  front : take (k + 1) (set (set bs (k + 1) d) k (b ++ r ∷ [])) ≡ take k bs ++ (b ++ r ∷ []) ∷ []
  front = take_more_set (set bs (k + 1) d) k (b ++ r ∷ []) (let e = length-set bs (k + 1) d in
      omega arith) ∙ ap (λ (xs : List (List Row)). xs ++ (b ++ r ∷ []) ∷ [])
      (take-set-le k bs (k + 1) d (omega arith))

  after : drop (k + 1) (set (set bs (k + 1) d) k (b ++ r ∷ [])) ≡ d ∷ drop (k + 1 + 1) bs
  after = drop-set-lt (k + 1) (set bs (k + 1) d) k (b ++ r ∷ []) (omega arith) ∙
      drop-set bs (k + 1) d l

  pub up_step : Up (set (set bs (k + 1) d) k (b ++ r ∷ [])) (k + 1)
  up_step =
      let x = lacks_next b c d r (drop (k + 1 + 1) bs) (subst Lacks here g.lacks) h in
      record {
        place = (let e = length-set bs (k + 1) d in
            let f = length-set (set bs (k + 1) d) k (b ++ r ∷ []) in omega arith);
        before = subst Full (sym front) (Full-append (take k bs) ((b ++ r ∷ []) ∷ []) g.before
            ((let s = x.0 in omega (arith, length-append b (r ∷ []))), tt));
        lacks = subst Lacks (sym after) x.1;
      }

  pub up_rows : joined (set (set bs (k + 1) d) k (b ++ r ∷ [])) ≡ joined bs
  up_rows =
      let rest = joined (drop (k + 1 + 1) bs) in
      whole (set (set bs (k + 1) d) k (b ++ r ∷ [])) (k + 1)
      ∙ ap (λ (xs : List (List Row)). joined xs ++ joined
      (drop (k + 1) (set (set bs (k + 1) d) k (b ++ r ∷ [])))) front
      ∙ ap (λ (xs : List (List Row)). joined (take k bs ++ (b ++ r ∷ []) ∷ []) ++ joined xs) after
      ∙ ap (λ (xs : List Row). xs ++ (d ++ rest)) (joined-append (take k bs) ((b ++ r ∷ []) ∷ []) ∙
      ap (λ (xs : List Row). joined (take k bs) ++ xs) (append-nil (b ++ r ∷ [])))
      ∙ append_assoc (joined (take k bs)) (b ++ r ∷ []) (d ++ rest)
      ∙ ap (λ (xs : List Row). joined (take k bs) ++ xs) (append_assoc b (r ∷ []) (d ++ rest) ∙
      ap (λ (xs : List Row). b ++ (xs ++ rest)) (sym h) ∙ ap joined (sym here))
      ∙ sym (whole bs k)

lacks_end : (b : List Row) (bs : List (List Row)) → Lacks (b ∷ bs) → length (get_or bs 0 []) ≡ 0 →
    Packed (b ∷ bs)
lacks_end b bs (inr p) z = inr p
lacks_end b [] (inl p) z = inr ((let s = p.0 in omega arith), refl)
lacks_end b (c ∷ cs) (inl p) z =
    let e : c ≡ [] = nil_from_length c z in
    inr (
      (let s = p.0 in omega arith),
      ap (λ (xs : List Row). xs ++ joined cs) e ∙
          not_full c cs p.1 (omega arith),
    )

pub up_packed : (bs : List (List Row)) (k : ℕ) → Up bs k → length (get_or bs (k + 1) []) ≡ 0 →
    Packed bs
up_packed bs k g z =
    let b = get_or bs k [] in
    let here = drop_more bs k [] g.place in
    let first : get_or (drop (k + 1) bs) 0 [] ≡ get_or bs (k + 1) [] = get_or-drop (k + 1) bs 0 [] ∙
    ap (λ n. get_or bs n []) (let e : k + 1 + 0 ≡ k + 1 = omega arith in e) in
    subst Packed (ap (λ (xs : List (List Row)). take k bs ++ xs) (sym here) ∙ take-append-drop k bs)
    (Packed-append (take k bs) (b ∷ drop (k + 1) bs) g.before
    (lacks_end b (drop (k + 1) bs) (subst Lacks here g.lacks)
    (ap (λ (xs : List Row). length xs) first ∙ z)))

-- what is read of one block, twice
pub same_block : (bs : List (List Row)) (k : ℕ) (b c : List Row) → k < length bs →
    b ≡ get_or bs k b → c ≡ get_or bs k c → b ≡ c
same_block bs k b c l e f = e ∙ get_or_default bs k b c l ∙ sym f

pub set_again : (bs : List (List Row)) (k : ℕ) (b c d : List Row) → k < length bs →
    c ≡ get_or (set bs k b) k c → c ≡ b
set_again bs k b c d l e = e ∙ get_or-set_same bs k b c l

pub there_if : (bs : List (List Row)) (k : ℕ) → 0 < length (get_or bs k []) → k < length bs
there_if [] k l = absurd (omega arith)
there_if (b ∷ bs) zero l = omega arith
there_if (b ∷ bs) (suc k) l = let h : k < length bs = there_if bs k l in omega arith

pub place_in : (bs : List (List Row)) (k off : ℕ) → Packed bs → off < 1024 →
    1024 * k + off ≤ length (joined bs) → length (joined bs) < 1024 * length bs → (k < length bs) ×
    (off ≤ length (get_or bs k []))
place_in [] k off p o l r = absurd (omega arith)
place_in (b ∷ bs) zero off (inl p) o l r = (omega arith, (let e = p.0 in omega arith))
place_in (b ∷ bs) zero off (inr p) o l r =
    let z : length (joined bs) ≡ 0 = ap (λ (xs : List Row). length xs) p.1 in
    (omega arith, omega (arith, length-append b (joined bs)))
place_in (b ∷ bs) (suc k) off (inl p) o l r =
    let e = p.0 in
    let h = place_in bs k off p.1 o (omega (arith, length-append b (joined bs)))
    (omega (arith, length-append b (joined bs))) in
    ((let w = h.0 in omega arith), h.1)
place_in (b ∷ bs) (suc k) off (inr p) o l r =
    let e = p.0 in
    let z : length (joined bs) ≡ 0 = ap (λ (xs : List Row). length xs) p.1 in
    absurd (omega (arith, length-append b (joined bs)))

-- ---- an edit of one row

module _ (bs : List (List Row)) (k off : ℕ) (b : List Row) (l : k < length bs)
    (f : Full (take k bs)) (e : b ≡ get_or bs k b) where
  parts : joined bs ≡ joined (take k bs) ++ (b ++ joined (drop (k + 1) bs))
  parts = whole bs k ∙ ap (λ (xs : List (List Row)). joined (take k bs) ++ joined xs)
      (split_here bs k b l e)

  start : length (joined (take k bs)) ≡ 1024 * k
  start = rows_before bs k (omega arith) f

  less : 1024 * k + off - 1024 * k ≡ off
  less = omega arith

  pub inserted : (row : Row) → off ≤ length b → insert (joined bs) (1024 * k + off) row ≡ joined
      (take k bs) ++ (insert b off row ++ joined (drop (k + 1) bs))
  inserted row w =
      ap (λ (xs : List Row). insert xs (1024 * k + off) row) parts
      ∙ insert-append_right (joined (take k bs)) (b ++ joined (drop (k + 1) bs)) (1024 * k)
      (1024 * k + off) row start (omega arith)
      ∙ ap (λ n. joined (take k bs) ++ insert (b ++ joined (drop (k + 1) bs)) n row) less
      ∙ ap (λ (xs : List Row). joined (take k bs) ++ xs)
      (insert-append_left b (joined (drop (k + 1) bs)) off row w)

  pub removed : off < length b → remove (joined bs) (1024 * k + off) ≡ joined (take k bs) ++
      (remove b off ++ joined (drop (k + 1) bs))
  removed w =
      ap (λ (xs : List Row). remove xs (1024 * k + off)) parts
      ∙ remove-append_right (joined (take k bs)) (b ++ joined (drop (k + 1) bs)) (1024 * k)
      (1024 * k + off) start (omega arith)
      ∙ ap (λ n. joined (take k bs) ++ remove (b ++ joined (drop (k + 1) bs)) n) less
      ∙ ap (λ (xs : List Row). joined (take k bs) ++ xs)
      (remove-append_left b (joined (drop (k + 1) bs)) off w)

  pub replaced : (row : Row) → off < length b → set (joined bs) (1024 * k + off) row ≡ joined
      (take k bs) ++ (set b off row ++ joined (drop (k + 1) bs))
  replaced row w =
      ap (λ (xs : List Row). set xs (1024 * k + off) row) parts
      ∙ set-append_right (joined (take k bs)) (b ++ joined (drop (k + 1) bs)) (1024 * k)
      (1024 * k + off) row start (omega arith)
      ∙ ap (λ n. joined (take k bs) ++ set (b ++ joined (drop (k + 1) bs)) n row) less
      ∙ ap (λ (xs : List Row). joined (take k bs) ++ xs)
      (set-append_left b (joined (drop (k + 1) bs)) off row w)

  -- the block was full: its last row is handed down
  pub inserted_full : (front : List Row) (last row : Row) → b ≡ front ++ last ∷ [] →
      off ≤ length front
      → joined (take (k + 1) (set bs k (insert front off row))) ++ last ∷ joined
      (drop (k + 1) (set bs k (insert front off row))) ≡ insert (joined bs) (1024 * k + off) row
  inserted_full front last row h w =
      let c = insert front off row in
      let rest = joined (drop (k + 1) bs) in
      ap (λ (xs : List (List Row)). joined xs ++ last ∷ joined (drop (k + 1) (set bs k c)))
      (take-other bs k c l)
      ∙ ap (λ (xs : List (List Row)). joined (take k bs ++ c ∷ []) ++ last ∷ joined xs)
      (drop-other bs k c)
      ∙ ap (λ (xs : List Row). xs ++ last ∷ rest) (joined-append (take k bs) (c ∷ []) ∙
      ap (λ (xs : List Row). joined (take k bs) ++ xs) (append-nil c))
      ∙ append_assoc (joined (take k bs)) c (last ∷ rest)
      ∙ ap (λ (xs : List Row). joined (take k bs) ++ xs) (sym (append_assoc c (last ∷ []) rest)
      ∙ ap (λ (xs : List Row). xs ++ rest) (sym (ap (λ (xs : List Row). insert xs off row) h ∙
      insert-append_left front (last ∷ []) off row w)))
      ∙ sym (inserted row (omega (
        arith,
        ap (λ (xs : List Row). length xs) h,
        length-append front
            (last ∷ []),
      )))

  pub packed_inserted : (row : Row) → Packed bs → length b < 1024 → off ≤ length b →
      Packed (set bs k (insert b off row))
  packed_inserted row p s w =
      let q = subst Packed (split_here bs k b l e) (packed_from bs k p) in
      packed-other bs k (insert b off row) l f
      (Packed-more b (insert b off row) (drop (k + 1) bs) (length-insert b off row w) s
      (not_full b (drop (k + 1) bs) q s))

  -- the block in which the place after all rows is
  count_all : length (joined bs) ≡ length (joined (take k bs)) +
      (length b + length (joined (drop (k + 1) bs)))
  count_all =
      ap (λ (xs : List Row). length xs) parts ∙
      length-append (joined (take k bs)) (b ++ joined (drop (k + 1) bs)) ∙
      ap (λ n. length (joined (take k bs)) + n) (length-append b (joined (drop (k + 1) bs)))

  pub has_room : length (joined bs) < 1024 * k + 1024 → length b < 1024
  has_room w = let first = start in let all = count_all in omega arith

  none_after : Packed bs → length (joined bs) < 1024 * k + 1024 → joined (drop (k + 1) bs) ≡ []
  none_after p w = not_full b (drop (k + 1) bs)
      (subst Packed (split_here bs k b l e) (packed_from bs k p)) (has_room w)

  pub pushed : (row : Row) → Packed bs → length (joined bs) < 1024 * k + 1024 →
      joined (set bs k (b ++ row ∷ [])) ≡ joined bs ++ row ∷ []
  pushed row p w =
      let front = joined (take k bs) in
      let none = none_after p w in
      joined-other bs k (b ++ row ∷ []) l
      ∙ ap (λ (xs : List Row). front ++ ((b ++ row ∷ []) ++ xs)) none
      ∙ ap (λ (xs : List Row). front ++ xs) (append-nil (b ++ row ∷ []))
      ∙ sym (append_assoc front b (row ∷ []))
      ∙ ap (λ (xs : List Row). xs ++ row ∷ [])
      (sym (parts ∙ ap (λ (xs : List Row). front ++ (b ++ xs)) none ∙
      ap (λ (xs : List Row). front ++ xs) (append-nil b)))

  pub packed_pushed : (row : Row) → Packed bs → length (joined bs) < 1024 * k + 1024 →
      Packed (set bs k (b ++ row ∷ []))
  packed_pushed row p w =
      packed-other bs k (b ++ row ∷ []) l f (Packed-more b (b ++ row ∷ []) (drop (k + 1) bs)
      (length-append b (row ∷ [])) (has_room w) (none_after p w))

  same_size : (c : List Row) (ds : List (List Row)) → length c ≡ length b → Packed (b ∷ ds) →
      Packed (c ∷ ds)
  same_size c ds n (inl p) = inl ((let h = p.0 in omega arith), p.1)
  same_size c ds n (inr p) = inr ((let h = p.0 in omega arith), p.1)

  pub packed_replaced : (row : Row) → Packed bs → Packed (set bs k (set b off row))
  packed_replaced row p =
      packed-other bs k (set b off row) l f (same_size (set b off row) (drop (k + 1) bs)
      (length-set b off row) (subst Packed (split_here bs k b l e) (packed_from bs k p)))

  one_less : (ds : List (List Row)) → length (remove b off) + 1 ≡ length b → Packed (b ∷ ds) →
      Lacks (remove b off ∷ ds)
  one_less ds n (inl p) = inl ((let h = p.0 in omega arith), p.1)
  one_less ds n (inr p) = inr ((let h = p.0 in omega arith), p.1)

  pub lacks_removed : Packed bs → off < length b → Up (set bs k (remove b off)) k
  lacks_removed p w =
      let c = remove b off in
      let s = length-set bs k c in
      record {
        place = omega arith;
        before = subst Full (sym (take-set bs k c)) f;
        lacks = subst Lacks (sym (drop-set bs k c l))
            (one_less (drop (k + 1) bs) (length-remove b off w)
            (subst Packed (split_here bs k b l e) (packed_from bs k p)));
      }

  -- what the blocks after have room for
  pub down_from : (front : List Row) (last row : Row) → Packed bs →
      length (joined bs) < 1024 * length bs → length b ≡ 1024 → b ≡ front ++ last ∷ [] →
      off ≤ length front
      → Down (set bs k (insert front off row)) (k + 1) last
      (insert (joined bs) (1024 * k + off) row)
  down_from front last row p r n h w =
      let c = insert front off row in
      let q = subst Packed (split_here bs k b l e) (packed_from bs k p) in
      let size : length front + 1 ≡ 1024 = omega
      (arith, ap (λ (xs : List Row). length xs) h, length-append front (last ∷ [])) in
      let long : length c ≡ length front + 1 = length-insert front off row w in
      let same = length-set bs k c in
      let all : length (joined bs) ≡ length (joined (take k bs)) +
      (length b + length (joined (drop (k + 1) bs))) =
      ap (λ (xs : List Row). length xs) parts ∙
      length-append (joined (take k bs)) (b ++ joined (drop (k + 1) bs)) ∙
      ap (λ n. length (joined (take k bs)) + n) (length-append b (joined (drop (k + 1) bs))) in
      let first = start in
      record {
        place = omega arith;
        before = full_more bs k c l f (omega arith);
        packed = subst Packed (sym (drop-other bs k c)) (full_rest b (drop (k + 1) bs) q n);
        room = subst (λ (xs : List (List Row)). length (joined xs) < 1024 *
            (length (set bs k c) - (k + 1))) (sym (drop-other bs k c)) (omega arith);
        rows = inserted_full front last row h w;
      }

-- ---- the same, as the code has it

pub block_of : (bs : List (List Row)) (k : ℕ) (b : List Row) → k < length bs → b ≡ get_or bs k b →
    get_or bs k [] ≡ b
block_of bs k b l e = get_or_default bs k [] b l ∙ sym e

pub within_block : (bs : List (List Row)) (k off : ℕ) (b : List Row) → IsAt bs k off →
    b ≡ get_or bs k b → off < length b
within_block bs k off b i e = subst (λ (xs : List Row). off < length xs) (block_of bs k b i.block e)
    i.within

pub row_of : (bs : List (List Row)) (k off : ℕ) (b : List Row) (x : Row) → IsAt bs k off →
    b ≡ get_or bs k b → x ≡ get_or b off x → x ≡ get_or (joined bs) (1024 * k + off) x
row_of bs k off b x i e h = h ∙ sym (i.row x ∙
    ap (λ (xs : List Row). get_or xs off x) (block_of bs k b i.block e))

pub place_of_block : (bs : List (List Row)) (k off : ℕ) (b : List Row) → (k < length bs) ×
    (off ≤ length (get_or bs k [])) → b ≡ get_or bs k b → off ≤ length b
place_of_block bs k off b p e = subst (λ (xs : List Row). off ≤ length xs) (block_of bs k b p.0 e)
    p.1

pub down_here : (bs : List (List Row)) (k off : ℕ) (b front c mid : List Row) (last row : Row) →
    Packed bs → off < 1024 → 1024 * k + off ≤ length (joined bs) →
    length (joined bs) < 1024 * length bs
    → b ≡ get_or bs k b → length b ≡ 1024 → b ≡ front ++ last ∷ [] →
    mid ≡ get_or (set bs k front) k mid → c ≡ insert mid off row
    → Down (set (set bs k front) k c) (k + 1) last (insert (joined bs) (1024 * k + off) row)
down_here bs k off b front c mid last row p o w r e n h em ec =
    let there = place_in bs k off p o w r in
    let size : length front + 1 ≡ 1024 = omega
    (arith, ap (λ (xs : List Row). length xs) h, length-append front (last ∷ [])) in
    let same : set (set bs k front) k c ≡ set bs k (insert front off row) =
    set-set bs k front c ∙ ap (λ (xs : List Row). set bs k xs)
    (ec ∙ ap (λ (xs : List Row). insert xs off row) (set_again bs k front mid front there.0 em))
    in
    subst (λ (xs : List (List Row)). Down xs (k + 1) last (insert (joined bs) (1024 * k + off) row))
    (sym same)
    (down_from bs k off b there.0 (full_before bs k p (omega arith)) e front last row p r n h
    (omega arith))

pub at_most_there : (bs : List (List Row)) (k : ℕ) (b : List Row) → k < length bs → Packed bs →
    b ≡ get_or bs k b → length b ≤ 1024
at_most_there bs k b l p e = at_most b (drop (k + 1) bs)
    (subst Packed (split_here bs k b l e) (packed_from bs k p))

-- ---- one block more

pub joined-grow : (bs : List (List Row)) → joined (bs ++ [] ∷ []) ≡ joined bs
joined-grow bs = joined-append bs ([] ∷ []) ∙ append-nil (joined bs)

pub Packed-grow : (bs : List (List Row)) → Packed bs → Packed (bs ++ [] ∷ [])
Packed-grow [] p = inr (omega arith, refl)
Packed-grow (b ∷ bs) (inl p) = inl (p.0, Packed-grow bs p.1)
Packed-grow (b ∷ bs) (inr p) = inr (p.0, joined-grow bs ∙ p.1)
