-- The reserved word that capitals spell, and no other.
use Rattle.std.proofs.Common.{ℕ, ◌≡◌, true, false, cond, List, [], ◌∷◌, refl, sym, ap, ◌∙◌}
use Rattle.std.specs.Prelude.{Some, None}
use Rattle.std.specs.List.{find}
use Rattle.std.specs.Str.{bytes_eq}
use Rattle.std.proofs.lemmas.Slice.Eq.{bytes_eq-Decides}
use Rattle.sql_lex.specs.declared.word.Word.{Word}
use Rattle.sql_lex.specs.declared.word.Word.TheVariants as word
use Rattle.sql_lex.specs.Words.{spelling}
use Rattle.sql_lex.specs.Scan.{reserved}

pub reserved-spelling : (w : Word) → reserved (spelling w) ≡ Some w
reserved-spelling word.And = refl
reserved-spelling _ = refl

find_spelled : (capitals : List ℕ) (ws : List Word) (w : Word) →
    find (λ v. bytes_eq (spelling v) capitals) ws ≡ Some w → spelling w ≡ capitals
find_spelled capitals [] w h = cc
find_spelled capitals (v ∷ ws) w h =
    elim (bytes_eq (spelling v) capitals) as (λ t. bytes_eq (spelling v) capitals ≡ t →
    cond t (Some v) (find (λ v. bytes_eq (spelling v) capitals) ws) ≡ Some w →
    spelling w ≡ capitals) [
      | true ↦ λ e k. let same : v ≡ w = cc in ap spelling (sym same) ∙
          (bytes_eq-Decides (spelling v) capitals).0 e
      | false ↦ λ e k. find_spelled capitals ws w k
    ] refl h

pub spelling-reserved : (capitals : List ℕ) (w : Word) → reserved capitals ≡ Some w →
    capitals ≡ spelling w
spelling-reserved capitals w h = sym (find_spelled capitals _ w h)

pub reserved-of : (capitals : List ℕ) (w : Word) → capitals ≡ spelling w →
    reserved capitals ≡ Some w
reserved-of capitals w h = ap reserved h ∙ reserved-spelling w

pub not_reserved : (capitals : List ℕ) → reserved capitals ≡ None → (w : Word) →
    capitals ≡ spelling w → ⊥
not_reserved capitals none w h = let some = reserved-of capitals w h in cc

pub reserved-none : (capitals : List ℕ) → ((w : Word) → capitals ≡ spelling w → ⊥) →
    reserved capitals ≡ None
reserved-none capitals h =
    elim (reserved capitals) as (λ o. reserved capitals ≡ o → o ≡ None) [
      | None ↦ λ e. refl
      | Some w ↦ λ e. absurd (h w (spelling-reserved capitals w e))
    ] refl
