-- Rows of kinds that grow, and where their kinds stand.
use Rattle.std.proofs.Common.{◌≡◌, ℕ, zero, suc, ◌+◌, ◌<◌, [], ◌∷◌, ◌++◌, length, refl, ap, sym}
use Rattle.std.proofs.Common.{◌∙◌, arith, append_assoc}
use Rattle.std.proofs.lemmas.List.{append-nil}
use Rattle.rel_algebra.specs.Joins.{places}
use Rattle.rel_algebra.specs.Kinds.{DataKind, Kinds, kind_at, kinds_at}
use Rattle.rel_algebra.proofs.Truths.{both}

-- z is q with more columns
abbrev pub KindsGrow : Kinds → Kinds → Type 0
KindsGrow q z = (x : Kinds) × (q ++ x ≡ z)

pub kinds_grow_same : (q : Kinds) → KindsGrow q q
kinds_grow_same q = ([], append-nil q)

pub kinds_grow_by : (q x : Kinds) → KindsGrow q (q ++ x)
kinds_grow_by q x = (x, refl)

pub kinds_grow_trans : (a b c : Kinds) → KindsGrow a b → KindsGrow b c → KindsGrow a c
kinds_grow_trans a b c g h =
    (g.0 ++ h.0, sym (append_assoc a g.0 h.0) ∙ (ap (λ (q : Kinds). q ++ h.0) g.1 ∙ h.1))

front_at : (q x : Kinds) (i : ℕ) → i < length q → kind_at (q ++ x) i ≡ kind_at q i
front_at [] x i h = absurd (omega arith)
front_at (c ∷ q) x zero h = refl
front_at (c ∷ q) x (suc i) h = front_at q x i (omega arith)

pub kinds_grow_at : (q z : Kinds) (i : ℕ) → KindsGrow q z → i < length q → kind_at z i ≡ kind_at q i
kinds_grow_at q z i g h = ap (λ (r : Kinds). kind_at r i) (sym g.1) ∙ front_at q g.0 i h

end_at : (z y : Kinds) (i : ℕ) → kind_at (z ++ y) (length z + i) ≡ kind_at y i
end_at [] y i = ap (kind_at y) (let e : 0 + i ≡ i = omega arith in e)
end_at (c ∷ z) y i = ap (kind_at (c ∷ (z ++ y))) (let e : suc (length z) + i
    ≡ suc (length z + i) = omega arith in e) ∙ end_at z y i

pub kinds_only_at : (z x : Kinds) (c : DataKind) → kind_at (z ++ c ∷ x) (length z) ≡ c
kinds_only_at [] x c = refl
kinds_only_at (d ∷ z) x c = kinds_only_at z x c

-- the one column that was added
pub kinds_grown_column : (z y : Kinds) (c : DataKind) (m : ℕ) → length z ≡ m →
    KindsGrow (z ++ c ∷ []) y → kind_at y m ≡ c
kinds_grown_column z y c m e g =
    ap (kind_at y) (sym e)
    ∙ (ap (λ (r : Kinds). kind_at r (length z)) (sym g.1 ∙ append_assoc z (c ∷ []) g.0)
    ∙ kinds_only_at z g.0 c)

-- one of the columns that were added
pub kinds_grown_at : (z cs y : Kinds) (m i : ℕ) → length z ≡ m → KindsGrow (z ++ cs) y →
    i < length cs → kind_at y (m + i) ≡ kind_at cs i
kinds_grown_at z cs y m i e g h =
    ap (λ (k : ℕ). kind_at y (k + i)) (sym e)
    ∙ (ap (λ (r : Kinds). kind_at r (length z + i)) (sym g.1 ∙ append_assoc z cs g.0)
    ∙ (end_at z (cs ++ g.0) i ∙ front_at cs g.0 i h))

places_past : (c : DataKind) (row : Kinds) (i n : ℕ) → kinds_at (c ∷ row) (places (suc i) n)
    ≡ kinds_at row (places i n)
places_past c row i zero = refl
places_past c row i (suc n) = ap (λ (cs : Kinds). kind_at row i ∷ cs) (places_past c row (suc i) n)

places_all : (cs x : Kinds) → kinds_at (cs ++ x) (places 0 (length cs)) ≡ cs
places_all [] x = refl
places_all (c ∷ cs) x = ap (λ (ds : Kinds). c ∷ ds) (places_past c (cs ++ x) 0 (length cs)
    ∙ places_all cs x)

places_after : (z cs x : Kinds) → kinds_at (z ++ (cs ++ x)) (places (length z) (length cs)) ≡ cs
places_after [] cs x = places_all cs x
places_after (c ∷ z) cs x = places_past c (z ++ (cs ++ x)) (length z) (length cs)
    ∙ places_after z cs x

-- the columns that were added
pub kinds_grown_columns : (z cs y : Kinds) (m k : ℕ) → length z ≡ m → length cs ≡ k →
    KindsGrow (z ++ cs) y → kinds_at y (places m k) ≡ cs
kinds_grown_columns z cs y m k em ek g =
    both (λ (a b : ℕ). kinds_at y (places a b)) _ _ _ _ (sym em) (sym ek)
    ∙ (ap (λ (r : Kinds). kinds_at r (places (length z) (length cs))) (sym g.1
    ∙ append_assoc z cs g.0) ∙ places_after z cs g.0)

-- the columns that stood before
pub first_kinds_columns : (q z : Kinds) (n : ℕ) → length q ≡ n → KindsGrow q z →
    kinds_at z (places 0 n) ≡ q
first_kinds_columns q z n e g = ap (λ (k : ℕ). kinds_at z (places 0 k)) (sym e) ∙
    (ap (λ (r : Kinds). kinds_at r (places 0 (length q))) (sym g.1) ∙ places_all q g.0)
