-- What is found among columns and items stands at one of their places, what stands at a place of a
-- row stands there in a longer row, and kinds of several expressions stand one after another.
use Rattle.std.proofs.Common.{◌≡◌, refl, sym, ap, ap₂, subst, ◌∙◌, ℕ, zero, suc, ◌+◌, ◌-◌, arith}
use Rattle.std.proofs.Common.{Bool, true, false, cond, List, [], ◌∷◌, ◌++◌, map, length, slice_get}
use Rattle.std.proofs.Common.{is_some, Option, Some, None, add-zero, zero-add}
use Rattle.syntax_trees.specs.declared.anchor.ColumnName.{ColumnName}
use Rattle.bound_trees.specs.declared.expr.BoundExpr.{BoundExpr}
use Rattle.bind_kinds.specs.declared.kind.Kind.{Kind}
use Rattle.bind_sight.specs.declared.item.Item.{Item}
use Rattle.bind_sight.specs.declared.output.Hit.{Hit}
use Rattle.bind_sight.specs.declared.output.Hit.TheVariants.{Nowhere, Once, Twice}
use Rattle.bind_sight.specs.declared.output.Output.{Output}
use Rattle.bind_sight.specs.Columns.{once_more, is_name, hits_from, hits, moved}
use Rattle.bind_sight.specs.Sight.{is_meant, hit_of, joined, one_more, among_from, among}
use Rattle.typing_trees.specs.Around.{Around, then}
use Rattle.typing_trees.specs.Queries.{kind_of, kinds_of}
use Rattle.typing_queries.proofs.Below.{Below, AllBelow, Has, HasAll}

-- ---- hits

-- what is claimed of the place and the kind of a hit
abbrev pub HitIs : (ℕ → Kind → Type 0) → Hit → Type 0
HitIs P Nowhere = Unit {0}
HitIs P (Once place kind) = P place kind
HitIs P Twice = Unit {0}

-- what is claimed of each of several columns, from a place on
abbrev pub EachAt : (ℕ → Kind → Type 0) → ℕ → List Output → Type 0
EachAt P place cs = (j : ℕ) (c : Output) → slice_get cs j ≡ Some c → P (place + j) c.kind

module _ (P : ℕ → Kind → Type 0) where
  if-hit : (b : Bool) (x y : Hit) → HitIs P x → HitIs P y → HitIs P (cond b x y)
  if-hit true x y p q = p
  if-hit false x y p q = q

  once-more : (hit : Hit) (place : ℕ) (kind : Kind) → HitIs P hit → P place kind →
      HitIs P (once_more hit place kind)
  once-more Nowhere place kind h p = p
  once-more (Once q k) place kind h p = tt
  once-more Twice place kind h p = tt

  pub first-at : (place : ℕ) (c : Output) (cs : List Output) → EachAt P place (c ∷ cs) →
      P place c.kind
  first-at place c cs each = subst (λ n. P n c.kind) (add-zero place) (each 0 c refl)

  pub others-at : (place : ℕ) (c : Output) (cs : List Output) → EachAt P place (c ∷ cs) →
      EachAt P (place + 1) cs
  others-at place c cs each j d is = let e : place + suc j ≡ place + 1 + j = omega arith in
      subst (λ n. P n d.kind) e (each (suc j) d is)

  pub hits_from-is : (name : List ℕ) (place : ℕ) (hit : Hit) (cs : List Output) → HitIs P hit →
      EachAt P place cs → HitIs P (hits_from name place hit cs)
  hits_from-is name place hit [] h each = h
  hits_from-is name place hit (c ∷ cs) h each =
      hits_from-is name (place + 1) (cond (is_name name c.name) (once_more hit place c.kind) hit) cs
      (if-hit (is_name name c.name) (once_more hit place c.kind) hit
      (once-more hit place c.kind h (first-at place c cs each)) h)
      (others-at place c cs each)

  pub moved-is : (by : ℕ) (hit : Hit) → HitIs (λ place kind. P (by + place) kind) hit →
      HitIs P (moved by hit)
  moved-is by Nowhere h = tt
  moved-is by (Once place kind) h = h
  moved-is by Twice h = tt

  pub joined-is : (q : Bool) (x y : Hit) → HitIs P x → HitIs P y → HitIs P (joined q x y)
  joined-is false Nowhere y h k = k
  joined-is false (Once p j) Nowhere h k = h
  joined-is false (Once p j) (Once r l) h k = tt
  joined-is false (Once p j) Twice h k = tt
  joined-is false Twice y h k = tt
  joined-is true Nowhere y h k = k
  joined-is true (Once p j) y h k = h
  joined-is true Twice y h k = tt

pub hit_of-is : (P : ℕ → Kind → Type 0) (name : List ℕ) (base : ℕ) (i : Item) →
    EachAt P (i.first - base) i.columns → HitIs P (hit_of name base i)
hit_of-is P name base i each =
    moved-is P (i.first - base) (hits name i.columns)
    (hits_from-is (λ place kind. P ((i.first - base) + place) kind) name 0 Nowhere i.columns tt
    (λ j c is. subst (λ n. P ((i.first - base) + n) c.kind) (sym (zero-add j)) (each j c is)))

-- what is claimed of each column of several items, in a row that begins at another column
abbrev pub EachOf : (ℕ → Kind → Type 0) → ℕ → List Item → Type 0
EachOf P base [] = Unit {0}
EachOf P base (i ∷ is) = EachAt P (i.first - base) i.columns × EachOf P base is

module _ (P : ℕ → Kind → Type 0) where
  one_more-is : (c : ColumnName) (base : ℕ) (hit : Hit) (i : Item) → HitIs P hit →
      EachAt P (i.first - base) i.columns → HitIs P (one_more c base hit i)
  one_more-is c base hit i h each =
      if-hit P (is_meant c.qualifier i) (joined (is_some c.qualifier) hit
      (hit_of c.name.name base i)) hit
      (joined-is P (is_some c.qualifier) hit (hit_of c.name.name base i) h
      (hit_of-is P c.name.name base i each)) h

  pub among_from-is : (c : ColumnName) (base : ℕ) (hit : Hit) (is : List Item) → HitIs P hit →
      EachOf P base is → HitIs P (among_from c base hit is)
  among_from-is c base hit [] h each = h
  among_from-is c base hit (i ∷ is) h each = among_from-is c base (one_more c base hit i) is
      (one_more-is c base hit i h each.0) each.1

  pub among-is : (c : ColumnName) (base : ℕ) (is : List Item) → EachOf P base is →
      HitIs P (among c base is)
  among-is c base is each = among_from-is c base Nowhere is tt each

-- ---- places

pub slice_get-front : {A : Type 0} (xs ys : List A) (i : ℕ) (x : A) → slice_get xs i ≡ Some x →
    slice_get (xs ++ ys) i ≡ Some x
slice_get-front [] ys i x is = absurd cc
slice_get-front (z ∷ xs) ys zero x is = is
slice_get-front (z ∷ xs) ys (suc i) x is = slice_get-front xs ys i x is

pub slice_get-back : {A : Type 0} (xs ys : List A) (i : ℕ) →
    slice_get (xs ++ ys) (length xs + i) ≡ slice_get ys i
slice_get-back [] ys i = ap (slice_get ys) (zero-add i)
slice_get-back (x ∷ xs) ys i = let e : suc (length xs) + i ≡ suc (length xs + i) = omega arith in
    ap (slice_get (x ∷ (xs ++ ys))) e ∙ slice_get-back xs ys i

pub has-front : (row more : List Kind) (place : ℕ) (kind : Kind) → Has (slice_get row place) kind →
    Has (slice_get (row ++ more) place) kind
has-front row more place kind h = (h.0, slice_get-front row more place h.0 h.1, h.2)

pub has-back : (row more : List Kind) (n place : ℕ) (kind : Kind) → n ≡ length row →
    Has (slice_get more place) kind → Has (slice_get (row ++ more) (n + place)) kind
has-back row more n place kind e h = (
  h.0,
  ap (λ m. slice_get (row ++ more) (m + place)) e ∙
      slice_get-back row more place ∙ h.1,
  h.2,
)

-- lower kinds, at a place
pub below-at : (js : List Kind) (cs : List Output) (j : ℕ) (c : Output) →
    AllBelow js (map (λ (o : Output). o.kind) cs) → slice_get cs j ≡ Some c →
    Has (slice_get js j) c.kind
below-at js [] j c b is = absurd cc
below-at [] (o ∷ cs) j c b is = absurd b
below-at (k ∷ js) (o ∷ cs) zero c b is = (let e : o ≡ c = cc in
    (k, refl, subst (λ (x : Output). Below k x.kind) e b.0))
below-at (k ∷ js) (o ∷ cs) (suc j) c b is = below-at js cs j c b.1 is

pub below-length : (js ks : List Kind) → AllBelow js ks → length js ≡ length ks
below-length [] [] b = refl
below-length [] (k ∷ ks) b = absurd b
below-length (j ∷ js) [] b = absurd b
below-length (j ∷ js) (k ∷ ks) b = ap suc (below-length js ks b.1)

-- ---- kinds in turn

abbrev both : Option Kind → Option (List Kind) → Option (List Kind)
both o p = then o (λ (k : Kind). then p (λ (ks : List Kind). Some (k ∷ ks)))

both-parts : (o : Option Kind) (p : Option (List Kind)) (ks : List Kind) → both o p ≡ Some ks →
    (k : Kind) × (rest : List Kind) × (o ≡ Some k) × (p ≡ Some rest) × (ks ≡ k ∷ rest)
both-parts None p ks e = absurd cc
both-parts (Some k) None ks e = absurd cc
both-parts (Some k) (Some rest) ks e = (k, rest, refl, refl, cc)

-- of what stands after other expressions
pub kinds-append : (a : Around) (es ds : List BoundExpr) (ks js : List Kind)
    → kinds_of a (map kind_of es) ≡ Some ks → kinds_of a (map kind_of ds) ≡ Some js →
    kinds_of a (map kind_of (es ++ ds)) ≡ Some (ks ++ js)
kinds-append a [] ds ks js p q = let e : [] ≡ ks = cc in
    subst (λ (xs : List Kind). kinds_of a (map kind_of ds) ≡ Some (xs ++ js)) e q
kinds-append a (x ∷ es) ds ks js p q =
    let h = both-parts (kind_of x a) (kinds_of a (map kind_of es)) ks p in
    ap₂ both h.2 (kinds-append a es ds h.1 js h.3 q) ∙
    ap (λ (xs : List Kind). Some (xs ++ js)) (sym h.4)

pub one-kind : (a : Around) (e : BoundExpr) (k : Kind) → kind_of e a ≡ Some k →
    kinds_of a (map kind_of (e ∷ [])) ≡ Some (k ∷ [])
one-kind a e k p = ap (λ (o : Option Kind). both o (Some [])) p

pub below-append : (js ks ms ns : List Kind) → AllBelow js ks → AllBelow ms ns →
    AllBelow (js ++ ms) (ks ++ ns)
below-append [] [] ms ns p q = q
below-append [] (k ∷ ks) ms ns p q = absurd p
below-append (j ∷ js) [] ms ns p q = absurd p
below-append (j ∷ js) (k ∷ ks) ms ns p q = (p.0, below-append js ks ms ns p.1 q)

pub has_all-append : (a : Around) (es ds : List BoundExpr) (ks js : List Kind)
    → HasAll (kinds_of a (map kind_of es)) ks → HasAll (kinds_of a (map kind_of ds)) js →
    HasAll (kinds_of a (map kind_of (es ++ ds))) (ks ++ js)
has_all-append a es ds ks js p q = (
  p.0 ++ q.0,
  kinds-append a es ds p.0 q.0 p.1 q.1,
  below-append
      p.0 ks q.0 js p.2 q.2,
)
