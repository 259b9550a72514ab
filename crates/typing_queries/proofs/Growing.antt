-- Parts of a group that grow: others after them, and others after those, with what is claimed
-- around rows that have them all.
use Rattle.std.proofs.Common.{◌≡◌, refl, sym, ap, ap₂, ◌∙◌, subst, ℕ, ◌+◌, Bool, true, false, List}
use Rattle.std.proofs.Common.{[], ◌∷◌, ◌++◌, append_assoc, map, length, drop, Option, Some, None}
use Rattle.std.proofs.Math.Seq.{drop-append_seam}
use Rattle.std.proofs.lemmas.List.{append-nil, map-append, length-append, drop-drop}
use Rattle.sql_values.specs.declared.fold.FoldKind.{FoldKind}
use Rattle.bound_trees.specs.declared.expr.BoundExpr.{BoundExpr}
use Rattle.bind_kinds.specs.declared.kind.Kind.{Kind}
use Rattle.bind_sight.specs.Sight.{Seen, may_stand}
use Rattle.bind_parts.specs.declared.aggregates.Parts.{Parts}
use Rattle.bind_queries.proofs.Laws.{front_nil, back_nil}
use Rattle.typing_trees.specs.Around.{Around, then, only_if}
use Rattle.typing_trees.specs.Kinds.{aggregate_allows, aggregate_gives}
use Rattle.typing_trees.specs.Queries.{ExprKind, kind_of, kinds_of, aggregate_kinds}
use Rattle.typing_queries.proofs.Below.{AllBelow, Has, HasAll}
use Rattle.typing_queries.proofs.Sees.{Sees}
use Rattle.typing_queries.proofs.Shapes.{Finished, Follows, Grown}

pub some-is : {A : Type 0} (x y : A) → Some x ≡ Some y → x ≡ y
some-is x y p = cc

-- ---- kinds of several

abbrev in-front : Option Kind → Option (List Kind) → Option (List Kind)
in-front o os = then o (λ k. then os (λ ks. Some (k ∷ ks)))

abbrev one-after-another : Option (List Kind) → Option (List Kind) → Option (List Kind)
one-after-another u v = then u (λ ks. then v (λ js. Some (ks ++ js)))

then-some : (o : Option (List Kind)) → o ≡ then o (λ ks. Some ks)
then-some None = refl
then-some (Some ks) = refl

front-moves : (o : Option Kind) (u v w : Option (List Kind)) → w ≡ one-after-another u v →
    in-front o w ≡ one-after-another (in-front o u) v
front-moves None u v w p = refl
front-moves (Some k) None v w p = ap (λ z. in-front (Some k) z) p
front-moves (Some k) (Some ks) None w p = ap (λ z. in-front (Some k) z) p
front-moves (Some k) (Some ks) (Some js) w p = ap (λ z. in-front (Some k) z) p

kinds-after : (a : Around) (xs ys : List ExprKind) →
    kinds_of a (xs ++ ys) ≡ one-after-another (kinds_of a xs) (kinds_of a ys)
kinds-after a [] ys = then-some (kinds_of a ys)
kinds-after a (x ∷ xs) ys = front-moves (x a) (kinds_of a xs) (kinds_of a ys)
    (kinds_of a (xs ++ ys)) (kinds-after a xs ys)

pub kinds-append : (a : Around) (xs ys : List ExprKind) (ks js : List Kind) →
    kinds_of a xs ≡ Some ks → kinds_of a ys ≡ Some js → kinds_of a (xs ++ ys) ≡ Some (ks ++ js)
kinds-append a xs ys ks js p q =
    kinds-after a xs ys ∙ ap (λ z. one-after-another z (kinds_of a ys)) p ∙
    ap (λ z. one-after-another (Some ks) z) q

pub below-append : (is ks js ls : List Kind) → AllBelow is ks → AllBelow js ls →
    AllBelow (is ++ js) (ks ++ ls)
below-append [] [] js ls p q = q
below-append [] (k ∷ ks) js ls p q = absurd p
below-append (i ∷ is) [] js ls p q = absurd p
below-append (i ∷ is) (k ∷ ks) js ls p q = (p.0, below-append is ks js ls p.1 q)

pub has-append : (a : Around) (xs ys : List ExprKind) (ks js : List Kind) →
    HasAll (kinds_of a xs) ks → HasAll (kinds_of a ys) js →
    HasAll (kinds_of a (xs ++ ys)) (ks ++ js)
has-append a xs ys ks js p q = (
  p.0 ++ q.0,
  kinds-append a xs ys p.0 q.0 p.1 q.1,
  below-append p.0
      ks q.0 js p.2 q.2,
)

pub has-more : (o : Option Kind) (os : Option (List Kind)) (k : Kind) (ks : List Kind) → Has o k →
    HasAll os ks → HasAll (in-front o os) (k ∷ ks)
has-more o os k ks p q = (
  p.0 ∷ q.0,
  ap (λ z. in-front z os) p.1 ∙
      ap (λ z. in-front (Some p.0) z) q.1,
  (p.2, q.2),
)

pub has-one : (a : Around) (x : ExprKind) (k : Kind) → Has (x a) k →
    HasAll (kinds_of a (x ∷ [])) (k ∷ [])
has-one a x k p = has-more (x a) (Some []) k [] p ([], refl, tt)

-- ---- kinds of aggregates

after-front : (b : Bool) (o w : Option (List Kind)) (g : Kind) (gs hs : List Kind) →
    only_if b (then o (λ z. Some (g ∷ z))) ≡ Some gs →
    ((rest : List Kind) → o ≡ Some rest → w ≡ Some (rest ++ hs))
    → only_if b (then w (λ z. Some (g ∷ z))) ≡ Some (gs ++ hs)
after-front false o w g gs hs p f = absurd cc
after-front true None w g gs hs p f = absurd cc
after-front true (Some rest) w g gs hs p f = ap (λ u. then u (λ z. Some (g ∷ z))) (f rest refl) ∙
    ap (λ z. Some (z ++ hs)) (some-is (g ∷ rest) gs p)

pub aggregates-append : (ks js : List Kind) (fs es : List FoldKind) (gs hs : List Kind) →
    aggregate_kinds ks fs ≡ Some gs → aggregate_kinds js es ≡ Some hs
    → aggregate_kinds (ks ++ js) (fs ++ es) ≡ Some (gs ++ hs)
aggregates-append [] js [] es gs hs p q = q ∙ ap (λ z. Some (z ++ hs)) (some-is [] gs p)
aggregates-append [] js (f ∷ fs) es gs hs p q = absurd cc
aggregates-append (k ∷ ks) js [] es gs hs p q = absurd cc
aggregates-append (k ∷ ks) js (f ∷ fs) es gs hs p q =
    after-front (aggregate_allows f k) (aggregate_kinds ks fs)
    (aggregate_kinds (ks ++ js) (fs ++ es)) (aggregate_gives f k) gs hs p
    (λ rest e. aggregates-append ks js fs es rest hs e q)

finished-then : (inner : Around) (ts us : List BoundExpr) (fs es : List FoldKind)
    (ks js : List Kind) → Finished inner ts fs ks → Finished inner us es js →
    Finished inner (ts ++ us) (fs ++ es) (ks ++ js)
finished-then inner ts us fs es ks js p q = (
  p.0 ++ q.0,
  ap (kinds_of inner) (map-append kind_of ts us) ∙
      kinds-append inner (map kind_of ts) (map kind_of us) p.0 q.0 p.1 q.1,
  aggregates-append p.0 q.0 fs es ks js p.2 q.2,
)

-- ---- rows that have them

pub follows-none : (rows : List (List Kind)) (n : ℕ) → Follows rows n []
follows-none [] n = refl
follows-none (r ∷ rs) n = (drop n r, refl)

follows-front : (rows : List (List Kind)) (n : ℕ) (ks js : List Kind) → Follows rows n (ks ++ js) →
    Follows rows n ks
follows-front [] n ks js f = front_nil ks js f
follows-front (r ∷ rs) n ks js f = (js ++ f.0, f.1 ∙ append_assoc ks js f.0)

follows-back : (rows : List (List Kind)) (n m : ℕ) (ks js : List Kind) → m ≡ n + length ks →
    Follows rows n (ks ++ js) → Follows rows m js
follows-back [] n m ks js p f = back_nil ks js f
follows-back (r ∷ rs) n m ks js p f = (
  f.0,
  ap (λ i. drop i r) p ∙ sym (drop-drop (length ks) n r) ∙
      ap (λ z. drop (length ks) z) (f.1 ∙ append_assoc ks js f.0) ∙ drop-append_seam ks (js ++ f.0),
)

-- ---- parts

pub grown-nothing : (inner : Around) (s : Seen) (p : Parts) (C : Around → Type 0) →
    ((a : Around) → Sees s a → C a) → Grown inner s p p C
grown-nothing inner s p C c = record {
  trees = [];
  folds = [];
  kinds = [];
  later = sym (append-nil p.trees);
  aggregates = sym (append-nil p.aggregates);
  finished = ([], refl, refl);
  as_many = refl;
  none = λ m. refl;
  claim = λ a sees f. c a sees;
}

pub grown-as : (inner : Around) (s : Seen) (p q : Parts) (C D : Around → Type 0) →
    Grown inner s p q C → ((a : Around) → Sees s a → C a → D a) → Grown inner s p q D
grown-as inner s p q C D g c = record {
  trees = g.trees;
  folds = g.folds;
  kinds = g.kinds;
  later = g.later;
  aggregates = g.aggregates;
  finished = g.finished;
  as_many = g.as_many;
  none = g.none;
  claim = λ a sees f. c a sees (g.claim a sees f);
}

pub grown-then : (inner : Around) (s : Seen) (p q r : Parts) (C D : Around → Type 0) →
    Grown inner s p q C → Grown inner s q r D → Grown inner s p r (λ a. C a × D a)
grown-then inner s p q r C D g h =
    let count : length q.trees ≡ length p.trees + length g.kinds =
    ap (λ (ts : List BoundExpr). length ts) g.later ∙ length-append p.trees g.trees ∙
    ap (λ n. length p.trees + n) (sym g.as_many) in
    record {
      trees = g.trees ++ h.trees;
      folds = g.folds ++ h.folds;
      kinds = g.kinds ++ h.kinds;
      later = h.later ∙ ap (λ z. z ++ h.trees) g.later ∙ append_assoc p.trees g.trees h.trees;
      aggregates = h.aggregates ∙ ap (λ z. z ++ h.folds) g.aggregates ∙
          append_assoc p.aggregates g.folds h.folds;
      finished = finished-then inner g.trees h.trees g.folds h.folds g.kinds h.kinds g.finished
          h.finished;
      as_many = length-append g.kinds h.kinds ∙ ap₂ (λ (x y : ℕ). x + y) g.as_many h.as_many ∙
          sym (length-append g.trees h.trees);
      none = λ m. ap₂ (λ (x y : List Kind). x ++ y) (g.none m) (h.none m);
      claim = λ a sees f. (
        g.claim a sees (follows-front a.rows (length p.trees) g.kinds h.kinds f),
        h.claim a sees (follows-back a.rows (length p.trees) (length q.trees) g.kinds h.kinds count
            f),
      );
    }

-- where no aggregate may stand
pub grown-alone : (inner : Around) (s : Seen) (p q : Parts) (C : Around → Type 0) →
    may_stand s.levels ≡ false → Grown inner s p q C → (a : Around) → Sees s a → C a
grown-alone inner s p q C m g a sees = g.claim a sees
    (subst (λ ks. Follows a.rows (length p.trees) ks) (sym (g.none m))
    (follows-none a.rows (length p.trees)))
