-- Insertion of what a function gives. Nothing here knows of rows.
use Rattle.std.proofs.Common.{◌≡◌, List, [], ◌∷◌, refl, ap, ◌∙◌, map, cond, Ordering, Bool, true}
use Rattle.std.proofs.Common.{false, is_lt}
use Rattle.row_types.specs.Ordered.{put, put_all, in_order}

module _ {X Y : Type 0} (g : Y → X) (S : X → X → Ordering) (R : Y → Y → Ordering)
    (same : (a b : Y) → S (g a) (g b) ≡ R a b) where
  chosen : (b : Bool) (xs ys : List Y) → cond b (map g xs) (map g ys) ≡ map g (cond b xs ys)
  chosen true xs ys = refl
  chosen false xs ys = refl

  put-map : (a : Y) (ys : List Y) → put S (g a) (map g ys) ≡ map g (put R a ys)
  put-map a [] = refl
  put-map a (y ∷ ys) =
      ap (λ r. cond (is_lt r) (g a ∷ g y ∷ map g ys) (g y ∷ put S (g a) (map g ys))) (same a y)
      ∙ ap (λ (zs : List X). cond (is_lt (R a y)) (g a ∷ g y ∷ map g ys) (g y ∷ zs)) (put-map a ys)
      ∙ chosen (is_lt (R a y)) (a ∷ y ∷ ys) (y ∷ put R a ys)

  put_all-map : (xs ys : List Y) → put_all S (map g xs) (map g ys) ≡ map g (put_all R xs ys)
  put_all-map xs [] = refl
  put_all-map xs (y ∷ ys) = ap (λ (zs : List X). put_all S zs (map g ys)) (put-map y xs) ∙
      put_all-map (put R y xs) ys

  pub in_order-map : (ys : List Y) → in_order S (map g ys) ≡ map g (in_order R ys)
  in_order-map ys = put_all-map [] ys
