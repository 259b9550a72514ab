-- Rows in the places of others, put in order: the same as the rest with the new ones put among
-- them.
use Rattle.std.proofs.Common.{ℕ, suc, zero, pred, ◌≡◌, ◌<◌, ◌≤◌, ◌+◌, true, false, List, [], ◌∷◌}
use Rattle.std.proofs.Common.{◌++◌, refl, sym, ap, ◌∙◌, subst, arith, length, take, drop, set}
use Rattle.std.proofs.Common.{remove, map, ◌||◌, Ordering, is_eq, length-set}
use Rattle.std.proofs.lemmas.List.{set_split, length-map}
use Rattle.std.proofs.lemmas.List.Edits.{length-remove}
use Rattle.std.specs.Cmp.{IsTotalOrder}
use Rattle.row_types.specs.Ordered.{rises, put, put_all, in_order, stands}
use Rattle.row_types.specs.Rows.{Row}
use Rattle.std.proofs.lemmas.Bool.{or_parts}
use Rattle.std.proofs.lemmas.List.Folds.{list_any-append}
use Rattle.table_store.proofs.Laws.{Climb-low}
use Rattle.row_types.proofs.Laws.{put_all-apart, put_all-put, stands_out, in_order-middle}
use Rattle.row_types.proofs.Laws.{any-put_all, put_all-append}
use Rattle.atomic_undo.specs.Changes.{removed_all, set_all, Climb}

-- ---- a place out of the way

remove_set : (xs : List Row) (p q : ℕ) (r : Row) → p < q →
    remove (set xs q r) p ≡ set (remove xs p) (pred q) r
remove_set [] zero q r l = refl
remove_set [] (suc p) q r l = refl
remove_set (x ∷ xs) p zero r l = absurd (omega arith)
remove_set (x ∷ xs) zero (suc q) r l = refl
remove_set (x ∷ xs) (suc p) (suc zero) r l = absurd (omega arith)
remove_set (x ∷ xs) (suc p) (suc (suc q)) r l =
    ap (λ (ys : List Row). x ∷ ys) (remove_set xs p (suc q) r (omega arith))

remove_remove : (xs : List Row) (p q : ℕ) → p < q →
    remove (remove xs q) p ≡ remove (remove xs p) (pred q)
remove_remove [] zero zero l = absurd (omega arith)
remove_remove [] zero (suc zero) l = refl
remove_remove [] zero (suc (suc q)) l = refl
remove_remove [] (suc p) zero l = absurd (omega arith)
remove_remove [] (suc p) (suc zero) l = refl
remove_remove [] (suc p) (suc (suc q)) l = refl
remove_remove (x ∷ xs) p zero l = absurd (omega arith)
remove_remove (x ∷ xs) zero (suc q) l = refl
remove_remove (x ∷ xs) (suc p) (suc zero) l = absurd (omega arith)
remove_remove (x ∷ xs) (suc p) (suc (suc q)) l =
    ap (λ (ys : List Row). x ∷ ys) (remove_remove xs p (suc q) (omega arith))

remove_set_all : (p low : ℕ) (ps : List ℕ) (rs rows : List Row) (high : ℕ) → p < low →
    Climb low ps high → remove (set_all ps rs rows) p ≡ set_all (map pred ps) rs (remove rows p)
remove_set_all p low [] rs rows high l h = refl
remove_set_all p low (q ∷ qs) [] rows high l h = refl
remove_set_all p low (q ∷ qs) (r ∷ rs) rows high l h =
    let a : low ≤ q = h.0 in
    remove_set (set_all qs rs rows) p q r (omega arith) ∙ ap (λ (xs : List Row). set xs (pred q) r)
    (remove_set_all p (suc q) qs rs rows high (omega arith) h.2)

remove_removed_all : (p low : ℕ) (ps : List ℕ) (rows : List Row) (high : ℕ) → p < low →
    Climb low ps high → remove (removed_all ps rows) p ≡ removed_all (map pred ps) (remove rows p)
remove_removed_all p low [] rows high l h = refl
remove_removed_all p low (q ∷ qs) rows high l h =
    let a : low ≤ q = h.0 in
    remove_remove (removed_all qs rows) p q (omega arith) ∙
    ap (λ (xs : List Row). remove xs (pred q))
    (remove_removed_all p (suc q) qs rows high (omega arith) h.2)

Climb-pred : (low : ℕ) (ps : List ℕ) (high : ℕ) → Climb (suc low) ps (suc high) →
    Climb low (map pred ps) high
Climb-pred low [] high h = tt
Climb-pred low (zero ∷ qs) high h = absurd (let a : suc low ≤ 0 = h.0 in omega arith)
Climb-pred low (suc q ∷ qs) high h = (
  (let a : suc low ≤ suc q = h.0 in omega arith),
  (let b : suc q < suc high = h.1 in omega arith),
  Climb-pred (suc q) qs high h.2,
)

pub length-set_all : (ps : List ℕ) (rs rows : List Row) → length (set_all ps rs rows) ≡ length rows
length-set_all [] rs rows = refl
length-set_all (p ∷ ps) [] rows = refl
length-set_all (p ∷ ps) (r ∷ rs) rows = length-set (set_all ps rs rows) p r ∙
    length-set_all ps rs rows

module _ (R : Row → Row → Ordering) (o : IsTotalOrder R) where
  stands-put_all : (x : Row) (xs ys : List Row) →
      stands R x (put_all R xs ys) ≡ (stands R x xs || stands R x ys)
  stands-put_all x xs ys = any-put_all R o (λ y. is_eq (R y x)) xs ys

  placed : (n : ℕ) (ps : List ℕ) (rs rows : List Row) → length ps ≡ n → length ps ≡ length rs →
      Climb 0 ps (length rows)
      → rises R (put_all R (in_order R (removed_all ps rows)) rs) ≡ true →
      in_order R (set_all ps rs rows) ≡ put_all R (in_order R (removed_all ps rows)) rs
  placed n [] [] rows f e c h = refl
  placed n [] (s ∷ ss) rows f e c h = absurd (omega arith)
  placed n (p ∷ ps) [] rows f e c h = absurd (omega arith)
  placed zero (p ∷ ps) (r ∷ rs) rows f e c h = absurd (omega arith)
  placed (suc n) (p ∷ ps) (r ∷ rs) rows f e c h =
      let there : p < length rows = c.1 in
      let before = set_all ps rs rows in
      let w : p < length before = (let k = length-set_all ps rs rows in omega arith) in
      let rest = removed_all (p ∷ ps) rows in
      let others = put_all R (in_order R rest) rs in
      let a : stands R r rs ≡ false = put_all-apart R o r (in_order R rest) rs h in
      let turned : put_all R (put R r (in_order R rest)) rs ≡ put R r others =
      put_all-put R o r (in_order R rest) rs a in
      let s = stands_out R o r others (ap (rises R) (sym turned) ∙ h) in
      let cut = remove rows p in
      let short : length cut + 1 ≡ length rows = length-remove rows p there in
      let down = map pred ps in
      let even : length down ≡ length ps = length-map ps pred in
      let same : removed_all down cut ≡ rest =
      sym (remove_removed_all p (suc p) ps rows (length rows) (omega arith) c.2) in
      let long : length rows ≡ suc (length cut) = omega arith in
      let climb : Climb 0 down (length cut) = Climb-low 0 p down (length cut) (omega arith)
      (Climb-pred p ps (length cut) (subst (λ k. Climb (suc p) ps k) long c.2)) in
      let joined : in_order R (remove before p) ≡ others =
      ap (in_order R) (remove_set_all p (suc p) ps rs rows (length rows) (omega arith) c.2)
      ∙ placed n down rs cut (omega arith) (omega arith) climb
      (ap (λ (xs : List Row). rises R (put_all R (in_order R xs) rs)) same ∙ s.1)
      ∙ ap (λ (xs : List Row). put_all R (in_order R xs) rs) same in
      let far : stands R r (remove before p) ≡ false = sym (stands-put_all r [] (remove before p)) ∙
      ap (stands R r) joined ∙ s.0 in
      let after : stands R r (drop (suc p) before) ≡ false =
      (or_parts (stands R r (take p before)) (stands R r (drop (suc p) before))
      (sym (list_any-append (λ y. is_eq (R y r)) (take p before) (drop (suc p) before)) ∙
      far)).1 in
      ap (in_order R) (set_split before p r w) ∙ in_order-middle R o (take p before) r
      (drop (suc p) before) after ∙ ap (put R r) joined ∙ sym turned

  pub update_order : (ps : List ℕ) (rs rows : List Row) → length ps ≡ length rs →
      Climb 0 ps (length rows)
      → rises R (put_all R (in_order R (removed_all ps rows)) rs) ≡ true →
      in_order R (set_all ps rs rows) ≡ put_all R (in_order R (removed_all ps rows)) rs
  update_order ps rs rows e c h = placed (length ps) ps rs rows refl e c h

  -- the same from the other side
  placed_back : (n : ℕ) (ps : List ℕ) (rs rows : List Row) → length ps ≡ n → length ps ≡ length rs →
      Climb 0 ps (length rows)
      → rises R (in_order R (set_all ps rs rows)) ≡ true →
      in_order R (set_all ps rs rows) ≡ put_all R (in_order R (removed_all ps rows)) rs
  placed_back n [] [] rows f e c h = refl
  placed_back n [] (s ∷ ss) rows f e c h = absurd (omega arith)
  placed_back n (p ∷ ps) [] rows f e c h = absurd (omega arith)
  placed_back zero (p ∷ ps) (r ∷ rs) rows f e c h = absurd (omega arith)
  placed_back (suc n) (p ∷ ps) (r ∷ rs) rows f e c h =
      let there : p < length rows = c.1 in
      let before = set_all ps rs rows in
      let w : p < length before = (let k = length-set_all ps rs rows in omega arith) in
      let rest = removed_all (p ∷ ps) rows in
      let others = put_all R (in_order R rest) rs in
      let front = take p before in
      let after = drop (suc p) before in
      let split : set before p r ≡ front ++ r ∷ after = set_split before p r w in
      let up : rises R (in_order R (front ++ r ∷ after)) ≡ true =
      ap (λ (xs : List Row). rises R (in_order R xs)) (sym split) ∙ h in
      let far : stands R r after ≡ false = put_all-apart R o r (in_order R front) after
      (ap (rises R) (sym (put_all-append R o [] front (r ∷ after))) ∙ up) in
      let mid : in_order R (front ++ r ∷ after) ≡ put R r (in_order R (remove before p)) =
      in_order-middle R o front r after far in
      let s = stands_out R o r (in_order R (remove before p)) (ap (rises R) (sym mid) ∙ up) in
      let cut = remove rows p in
      let short : length cut + 1 ≡ length rows = length-remove rows p there in
      let down = map pred ps in
      let even : length down ≡ length ps = length-map ps pred in
      let same : removed_all down cut ≡ rest =
      sym (remove_removed_all p (suc p) ps rows (length rows) (omega arith) c.2) in
      let long : length rows ≡ suc (length cut) = omega arith in
      let climb : Climb 0 down (length cut) = Climb-low 0 p down (length cut) (omega arith)
      (Climb-pred p ps (length cut) (subst (λ k. Climb (suc p) ps k) long c.2)) in
      let out : remove before p ≡ set_all down rs cut =
      remove_set_all p (suc p) ps rs rows (length rows) (omega arith) c.2 in
      let joined : in_order R (remove before p) ≡ others =
      ap (in_order R) out ∙ placed_back n down rs cut (omega arith) (omega arith) climb
      (ap (λ (xs : List Row). rises R (in_order R xs)) (sym out) ∙ s.1)
      ∙ ap (λ (xs : List Row). put_all R (in_order R xs) rs) same in
      let a : stands R r rs ≡ false =
      (or_parts (stands R r (in_order R rest)) (stands R r rs)
      (sym (stands-put_all r (in_order R rest) rs) ∙ ap (stands R r) (sym joined) ∙ s.0)).1 in
      ap (in_order R) split ∙ mid ∙ ap (put R r) joined ∙
      sym (put_all-put R o r (in_order R rest) rs a)

  pub update_order_back : (ps : List ℕ) (rs rows : List Row) → length ps ≡ length rs →
      Climb 0 ps (length rows)
      → rises R (in_order R (set_all ps rs rows)) ≡ true →
      in_order R (set_all ps rs rows) ≡ put_all R (in_order R (removed_all ps rows)) rs
  update_order_back ps rs rows e c h = placed_back (length ps) ps rs rows refl e c h
