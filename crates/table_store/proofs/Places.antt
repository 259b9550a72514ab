-- Rows at places that increase.
use Rattle.std.proofs.Common.{ℕ, zero, suc, ◌≡◌, ◌<◌, ◌≤◌, ◌+◌, ◌-◌, List, [], ◌∷◌, ◌++◌, refl, sym}
use Rattle.std.proofs.Common.{ap, ◌∙◌, subst, arith, length, take, drop, get_or, set, remove}
use Rattle.std.proofs.Common.{slice_get, Some, append_assoc}
use Rattle.std.proofs.lemmas.List.{drop_more, take-append-le, length-take-le, get_or-set_other}
use Rattle.std.proofs.lemmas.List.Edits.{length-remove, get_or-remove_below}
use Rattle.row_types.specs.Rows.{Row}
use Rattle.table_store.specs.declared.placed_row.PlacedRow.{PlacedRow}
use Rattle.table_store.specs.Places.{Climb, removed_all, placed_at, all_placed_at}

-- ---- places that increase

pub Climb-last : (low : ℕ) (ps : List ℕ) (p high : ℕ) → Climb low (ps ++ p ∷ []) high → p < high
Climb-last low [] p high h = h.1
Climb-last low (q ∷ qs) p high h = Climb-last (suc q) qs p high h.2

low_last : (low : ℕ) (ps : List ℕ) (p high : ℕ) → Climb low (ps ++ p ∷ []) high → low ≤ p
low_last low [] p high h = h.0
low_last low (q ∷ qs) p high h = let a : low ≤ q = h.0 in
    let b : suc q ≤ p = low_last (suc q) qs p high h.2 in omega arith

pub Climb-front : (low : ℕ) (ps : List ℕ) (p high : ℕ) → Climb low (ps ++ p ∷ []) high →
    Climb low ps p
Climb-front low [] p high h = tt
Climb-front low (q ∷ qs) p high h = (
  h.0,
  (let b : suc q ≤ p = low_last (suc q) qs p high h.2 in
      omega arith),
  Climb-front (suc q) qs p high h.2,
)

pub Climb-more : (low : ℕ) (ps : List ℕ) (m n : ℕ) → m ≤ n → Climb low ps m → Climb low ps n
Climb-more low [] m n l h = tt
Climb-more low (q ∷ qs) m n l h = (
  h.0,
  (let b : q < m = h.1 in omega arith),
  Climb-more
      (suc q) qs m n l h.2,
)

pub Climb-low : (low more : ℕ) (ps : List ℕ) (high : ℕ) → low ≤ more → Climb more ps high →
    Climb low ps high
Climb-low low more [] high l h = tt
Climb-low low more (q ∷ qs) high l h = ((let a : more ≤ q = h.0 in omega arith), h.1, h.2)

-- there is room for all
pub Climb-room : (low : ℕ) (ps : List ℕ) (high : ℕ) → low ≤ high → Climb low ps high →
    low + length ps ≤ high
Climb-room low [] high l h = omega arith
Climb-room low (p ∷ ps) high l h =
    let a : low ≤ p = h.0 in
    let b : p < high = h.1 in
    let c : suc p + length ps ≤ high = Climb-room (suc p) ps high (omega arith) h.2 in
    omega arith

-- none is at the end
pub Climb-end : (low : ℕ) (ps : List ℕ) → Climb low ps low → ps ≡ []
Climb-end low [] h = refl
Climb-end low (p ∷ ps) h = absurd (let a : low ≤ p = h.0 in let b : p < low = h.1 in omega arith)

pub next_is : (ps : List ℕ) (j p : ℕ) → slice_get ps j ≡ Some p → drop j ps ≡ p ∷ drop (suc j) ps
next_is [] zero p h = cc
next_is [] (suc j) p h = cc
next_is (q ∷ qs) zero p h = let e : q ≡ p = cc in ap (λ n. n ∷ qs) e
next_is (q ∷ qs) (suc j) p h = next_is qs j p h

pub not_next : (ps : List ℕ) (j at high : ℕ) → (slice_get ps j ≡ Some at → ⊥) →
    Climb at (drop j ps) high → Climb (suc at) (drop j ps) high
not_next [] zero at high n h = tt
not_next [] (suc j) at high n h = tt
not_next (p ∷ ps) zero at high n h =
    let a : at ≤ p = h.0 in
    let d : p ≡ at → ⊥ = λ e. n (ap (λ m. Some m) e) in
    (omega arith, h.1, h.2)
not_next (p ∷ ps) (suc j) at high n h = not_next ps j at high n h

pub not_last : (low : ℕ) (ps : List ℕ) (to : ℕ) → (get_or ps (length ps - 1) 0 ≡ to → ⊥) →
    Climb low ps (to + 1) → Climb low ps to
not_last low [] to n h = tt
not_last low (p ∷ []) to n h = (h.0, (let b : p < to + 1 = h.1 in omega arith), tt)
not_last low (p ∷ q ∷ qs) to n h =
    let e : length (p ∷ q ∷ qs) - 1 ≡ suc (length (q ∷ qs) - 1) = omega arith in
    let m : get_or (q ∷ qs) (length (q ∷ qs) - 1) 0 ≡ to → ⊥ =
    λ k. n (ap (λ j. get_or (p ∷ q ∷ qs) j 0) e ∙ k) in
    let c : Climb (suc p) (q ∷ qs) to = not_last (suc p) (q ∷ qs) to m h.2 in
    (h.0, (let a : suc p ≤ q = c.0 in let b : q < to = c.1 in omega arith), c)

-- ---- rows that are left

pub removed_all-append : (ps qs : List ℕ) (rows : List Row) →
    removed_all (ps ++ qs) rows ≡ removed_all ps (removed_all qs rows)
removed_all-append [] qs rows = refl
removed_all-append (p ∷ ps) qs rows = ap (λ (xs : List Row). remove xs p)
    (removed_all-append ps qs rows)

pub length-removed_all : (low : ℕ) (ps : List ℕ) (rows : List Row) → Climb low ps (length rows) →
    length (removed_all ps rows) + length ps ≡ length rows
length-removed_all low [] rows c = omega arith
length-removed_all low (p ∷ ps) rows c =
    let b : p < length rows = c.1 in
    let d : suc p + length ps ≤ length rows =
    Climb-room (suc p) ps (length rows) (omega arith) c.2 in
    let e : length (removed_all ps rows) + length ps ≡ length rows =
    length-removed_all (suc p) ps rows c.2 in
    let f : p < length (removed_all ps rows) = omega arith in
    let h : length (remove (removed_all ps rows) p) + 1 ≡ length (removed_all ps rows) =
    length-remove (removed_all ps rows) p f in
    omega arith

-- a place below those that go is there
pub still_there : (p : ℕ) (ps : List ℕ) (rows : List Row) → p < length rows →
    Climb (suc p) ps (length rows) → p < length (removed_all ps rows)
still_there p ps rows l c =
    let d : suc p + length ps ≤ length rows = Climb-room (suc p) ps (length rows) (omega arith) c in
    let e : length (removed_all ps rows) + length ps ≡ length rows =
    length-removed_all (suc p) ps rows c in
    omega arith

-- rows below the places stay
pub get_or-removed_all : (low : ℕ) (ps : List ℕ) (rows : List Row) (k : ℕ) (d : Row) → k < low →
    Climb low ps (length rows) → get_or (removed_all ps rows) k d ≡ get_or rows k d
get_or-removed_all low [] rows k d l c = refl
get_or-removed_all low (p ∷ ps) rows k d l c =
    let a : low ≤ p = c.0 in
    get_or-remove_below (removed_all ps rows) p d k (omega arith) (still_there p ps rows c.1 c.2) ∙
    get_or-removed_all (suc p) ps rows k d (omega arith) c.2

take-remove : (xs : List Row) (k p : ℕ) → k ≤ p → p < length xs → take k (remove xs p) ≡ take k xs
take-remove xs k p l w =
    let n = length-take-le p xs (omega arith) in
    take-append-le k (take p xs) (drop (suc p) xs) (omega arith) ∙ take-below xs k p l
  where
    take-below : (ys : List Row) (i j : ℕ) → i ≤ j → take i (take j ys) ≡ take i ys
    take-below ys zero j l = refl
    take-below [] (suc i) zero l = refl
    take-below [] (suc i) (suc j) l = refl
    take-below (y ∷ ys) (suc i) zero l = absurd (omega arith)
    take-below (y ∷ ys) (suc i) (suc j) l = ap (λ (zs : List Row). y ∷ zs)
        (take-below ys i j (omega arith))

pub take-removed_all : (low : ℕ) (ps : List ℕ) (rows : List Row) → Climb low ps (length rows) →
    take low (removed_all ps rows) ≡ take low rows
take-removed_all low ps rows c = below low low ps (omega arith) c
  where
    below : (k low : ℕ) (ps : List ℕ) → k ≤ low → Climb low ps (length rows) →
        take k (removed_all ps rows) ≡ take k rows
    below k low [] l c = refl
    below k low (p ∷ ps) l c =
        let a : low ≤ p = c.0 in
        take-remove (removed_all ps rows) k p (omega arith) (still_there p ps rows c.1 c.2) ∙
        below k (suc p) ps (omega arith) c.2

-- another row below the places
remove-set_below : (xs : List Row) (k p : ℕ) (x : Row) → k < p →
    remove (set xs k x) p ≡ set (remove xs p) k x
remove-set_below [] k zero x l = absurd (omega arith)
remove-set_below [] k (suc p) x l = refl
remove-set_below (y ∷ ys) k zero x l = absurd (omega arith)
remove-set_below (y ∷ ys) zero (suc p) x l = refl
remove-set_below (y ∷ ys) (suc k) (suc p) x l =
    ap (λ (zs : List Row). y ∷ zs) (remove-set_below ys k p x (omega arith))

remove-set_same : (xs : List Row) (p : ℕ) (x : Row) → remove (set xs p x) p ≡ remove xs p
remove-set_same [] zero x = refl
remove-set_same [] (suc p) x = refl
remove-set_same (y ∷ ys) zero x = refl
remove-set_same (y ∷ ys) (suc p) x = ap (λ (zs : List Row). y ∷ zs) (remove-set_same ys p x)

pub removed_all-set : (low : ℕ) (ps : List ℕ) (rows : List Row) (high k : ℕ) (x : Row) → k < low →
    Climb low ps high → removed_all ps (set rows k x) ≡ set (removed_all ps rows) k x
removed_all-set low [] rows high k x l c = refl
removed_all-set low (p ∷ ps) rows high k x l c =
    let a : low ≤ p = c.0 in
    ap (λ (xs : List Row). remove xs p) (removed_all-set (suc p) ps rows high k x (omega arith) c.2)
    ∙ remove-set_below (removed_all ps rows) k p x (omega arith)

-- another row at one of the places
pub removed_all-vacated : (low : ℕ) (ps : List ℕ) (rows : List Row) (high i : ℕ) (x : Row) →
    i < length ps → Climb low ps high → removed_all ps (set rows (get_or ps i 0) x) ≡
    removed_all ps rows
removed_all-vacated low [] rows high i x l c = absurd (omega arith)
removed_all-vacated low (p ∷ ps) rows high zero x l c =
    ap (λ (xs : List Row). remove xs p) (removed_all-set (suc p) ps rows high p x (omega arith) c.2)
    ∙ remove-set_same (removed_all ps rows) p x
removed_all-vacated low (p ∷ ps) rows high (suc i) x l c =
    ap (λ (xs : List Row). remove xs p) (removed_all-vacated (suc p) ps rows high i x
    (omega arith) c.2)

-- ---- rows that are handed back

all_placed_at-set : (low : ℕ) (ps : List ℕ) (rows : List Row) (high k : ℕ) (x : Row) → k < low →
    Climb low ps high → all_placed_at ps (set rows k x) ≡ all_placed_at ps rows
all_placed_at-set low [] rows high k x l c = refl
all_placed_at-set low (p ∷ ps) rows high k x l c =
    let a : low ≤ p = c.0 in
    let here : get_or (set rows k x) p [] ≡ get_or rows p [] =
    get_or-set_other rows k p x [] (λ e. absurd (omega arith)) in
    λ i. record { at = p; row = here i } ∷ all_placed_at-set (suc p) ps rows high k x
    (omega arith) c.2 i

pub climb_there : (low : ℕ) (ps : List ℕ) (high i : ℕ) → i < length ps → Climb low ps high →
    get_or ps i 0 < high
climb_there low [] high i l c = absurd (omega arith)
climb_there low (p ∷ ps) high zero l c = c.1
climb_there low (p ∷ ps) high (suc i) l c = climb_there (suc p) ps high i (omega arith) c.2

climb_after : (low : ℕ) (ps : List ℕ) (high i : ℕ) → i < length ps → Climb low ps high →
    Climb (suc (get_or ps i 0)) (drop (suc i) ps) high
climb_after low [] high i l c = absurd (omega arith)
climb_after low (p ∷ ps) high zero l c = c.2
climb_after low (p ∷ ps) high (suc i) l c = climb_after (suc p) ps high i (omega arith) c.2

pub vacated_next : (ps : List ℕ) (rows : List Row) (high i : ℕ) (taken all : List PlacedRow) →
    i < length ps → Climb 0 ps high → taken ++ all_placed_at (drop i ps) rows ≡ all
    → (taken ++ placed_at rows (get_or ps i 0) ∷ []) ++ all_placed_at (drop (i + 1) ps)
    (set rows (get_or ps i 0) []) ≡ all
vacated_next ps rows high i taken all l c h =
    let p = get_or ps i 0 in
    let on : suc i ≡ i + 1 = omega arith in
    let rest : all_placed_at (drop (i + 1) ps) (set rows p []) ≡ all_placed_at (drop (i + 1) ps)
    rows =
    all_placed_at-set (suc p) (drop (i + 1) ps) rows high p [] (omega arith)
    (subst (λ n. Climb (suc p) (drop n ps) high) on (climb_after 0 ps high i l c)) in
    ap (λ (xs : List PlacedRow). (taken ++ placed_at rows p ∷ []) ++ xs) rest ∙
    append_assoc taken (placed_at rows p ∷ []) (all_placed_at (drop (i + 1) ps) rows)
    ∙ ap (λ (xs : List ℕ). taken ++ all_placed_at xs rows) (sym (drop_more ps i 0 l)) ∙ h
