-- Rows and columns side by side.
use Rattle.std.proofs.Common.{◌≡◌, suc, Bool, true, false, List, [], ◌∷◌, refl, ap, ◌&&◌, length}
use Rattle.row_types.specs.declared.ColumnType.{ColumnType}
use Rattle.row_types.specs.Groups.{same_value, same_row}
use Rattle.row_types.specs.Rows.{Row, takes, take_all}

fails : (a b : Bool) → false ≡ b → false ≡ (a && b)
fails true b h = h
fails false b h = refl

-- columns take only as many values as they are
pub take_all-lengths : (cs : List ColumnType) (vs : Row) → ¬ (length cs ≡ length vs) →
    false ≡ take_all cs vs
take_all-lengths [] [] n = absurd (n refl)
take_all-lengths [] (v ∷ vs) n = refl
take_all-lengths (c ∷ cs) [] n = refl
take_all-lengths (c ∷ cs) (v ∷ vs) n = fails (takes c v) (take_all cs vs)
    (take_all-lengths cs vs (λ e. n (ap suc e)))

-- rows are the same only where they have as many values
pub same_row-lengths : (a b : Row) → ¬ (length a ≡ length b) → false ≡ same_row a b
same_row-lengths [] [] n = absurd (n refl)
same_row-lengths [] (y ∷ b) n = refl
same_row-lengths (x ∷ a) [] n = refl
same_row-lengths (x ∷ a) (y ∷ b) n = fails (same_value x y) (same_row a b)
    (same_row-lengths a b (λ e. n (ap suc e)))
