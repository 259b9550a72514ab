-- What is kept of the values of a list finishes as the list's aggregate.
use Rattle.std.proofs.Common.{ℕ, ◌≡◌, ◌+◌, List, [], ◌∷◌, ℤ, pos, ◌+ℤ◌, refl, sym, ap, ◌∙◌, arith}
use Rattle.std.proofs.Common.{zero-add}
use Rattle.std.specs.List.{fold}
use Rattle.sql_values.specs.declared.value.Value.{Value}
use Rattle.sql_values.specs.declared.value.Value.TheVariants.{Null, Int, Str, Bool as Truth}
use Rattle.sql_values.specs.declared.fold.FoldKind.{FoldKind}
use Rattle.sql_values.specs.declared.fold.FoldKind.TheVariants.{Count, Sum, Avg, Min, Max}
use Rattle.sql_values.specs.Folds.{count_of, total_of, better, folded, Taken, nothing, with_value}
use Rattle.sql_values.specs.Folds.{taken, finished, finished_by}
use lib.IntN.{+ℤ_idl, +ℤ_idr, +ℤ_assoc}

-- what is kept after a list, by parts
abbrev Parts : Taken → List Value → Taken
Parts s vs = record {
  kind = s.kind;
  count = s.count + count_of vs;
  total = s.total +ℤ total_of vs;
  best = fold (better s.kind) s.best vs;
}

same_parts : (kind : FoldKind) (m n : ℕ) (y z : ℤ) (best : Value) → m ≡ n → y ≡ z
    → ◌≡◌ {A = Taken} (record { kind = kind; count = m; total = y; best = best })
    (record { kind = kind; count = n; total = z; best = best })
same_parts kind m n y z best e f = λ i. record {
  kind = kind;
  count = e i;
  total = f i;
  best =
      best;
}

parts : (s : Taken) (vs : List Value) → fold with_value s vs ≡ Parts s vs
parts s [] = same_parts s.kind s.count (s.count + 0) s.total (s.total +ℤ pos 0) s.best (omega arith)
    (sym (+ℤ_idr s.total))
parts s (Null ∷ vs) = parts s vs ∙ same_parts s.kind _ _ _ _ (fold (better s.kind) s.best vs) refl
    (ap (λ (z : ℤ). s.total +ℤ z) (sym (+ℤ_idl (total_of vs))))
parts s (Int n ∷ vs) =
    parts (with_value s (Int n)) vs ∙ same_parts s.kind _ _ _ _
    (fold (better s.kind) (better s.kind s.best (Int n)) vs) (omega arith)
    (+ℤ_assoc s.total n (total_of vs))
parts s (Str t ∷ vs) =
    parts (with_value s (Str t)) vs ∙ same_parts s.kind _ _ _ _
    (fold (better s.kind) (better s.kind s.best (Str t)) vs) (omega arith)
    (+ℤ_assoc s.total (pos 0) (total_of vs))
parts s (Truth p ∷ vs) =
    parts (with_value s (Truth p)) vs ∙ same_parts s.kind _ _ _ _
    (fold (better s.kind) (better s.kind s.best (Truth p)) vs) (omega arith)
    (+ℤ_assoc s.total (pos 0) (total_of vs))

finished_parts : (kind : FoldKind) (vs : List Value) →
    finished (Parts (nothing kind) vs) ≡ folded kind vs
finished_parts Count vs = (λ i. finished_by Count (zero-add (count_of vs) i) (total_of vs) Null)
finished_parts Sum vs = (λ i. finished_by Sum (zero-add (count_of vs) i) (+ℤ_idl (total_of vs) i)
    Null)
finished_parts Avg vs = (λ i. finished_by Avg (zero-add (count_of vs) i) (+ℤ_idl (total_of vs) i)
    Null)
finished_parts Min vs = refl
finished_parts Max vs = refl

pub folds : (kind : FoldKind) (vs : List Value) → finished (taken kind vs) ≡ folded kind vs
folds kind vs = ap finished (parts (nothing kind) vs) ∙ finished_parts kind vs
