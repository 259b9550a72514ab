-- Where the names of a query are read that stands under rows: as on a row of so many values within
-- the rows outside.
use Rattle.std.proofs.Common.{◌≡◌, ◌≤◌, ◌-◌, ℕ, zero, suc, List, [], ◌∷◌, length, take, drop}
use Rattle.std.proofs.Common.{slice_index_or, refl, ap, ◌∙◌, arith}
use Rattle.std.proofs.lemmas.List.{take_rest}
use Rattle.rel_algebra.specs.Emit.{Env, Place, below, columns_within, entered, given, outward}
use Rattle.rel_algebra.specs.Theorem.{under, under_columns}

-- the columns by level and place
columns_there : (n : ℕ) (ns : List ℕ) (v d i : ℕ) →
    columns_within (under ns v) n d i ≡ under_columns (n ∷ ns) d i
columns_there n ns v zero i = refl
columns_there n ns v (suc d) i = refl

-- an argument is one from a row further in, too
argument_there : (v i : ℕ) (p : Place) → outward p ≡ p → outward (below v i p) ≡ below v i p
argument_there zero i p same = refl
argument_there (suc v) zero p same = same
argument_there (suc v) (suc i) p same = argument_there v i p same

-- one row more, within the others
pub under_more : (n : ℕ) (ns : List ℕ) (v : ℕ) → entered (under ns v) n ≡ under (n ∷ ns) v
under_more n ns v = λ j. record {
  columns = λ d i. columns_there n ns v d i j;
  params = λ i. argument_there v i (given i) refl j;
}

-- the first row, within the others
pub under_first : (rows : List ℕ) (v : ℕ) (e : Env) → 1 ≤ length rows →
    e ≡ under (take (length rows - 1) (drop 1 rows)) v →
    entered e (slice_index_or rows 0 0) ≡ under rows v
under_first [] v e some is = absurd (let never = some in omega arith)
under_first (n ∷ ns) v e some is =
    ap (λ (x : Env). entered x n) (is ∙ ap (λ (ms : List ℕ). under ms v) (take_rest (n ∷ ns) 1))
    ∙ under_more n ns v
