-- What holds of the queries of routines as those of one more are put to them and as one is looked
-- up.
use Rattle.std.proofs.Common.{◌≡◌, ℕ, Bool, true, false, cond, List, [], ◌∷◌, ◌++◌, None}
use Rattle.std.proofs.Common.{Some, refl, sym, subst, if◌then◌else◌}
use Rattle.std.proofs.lemmas.List.Elements.{All-append}
use Rattle.std.proofs.lemmas.Slice.Eq.{bytes_eq-Decides}
use Rattle.std.specs.Map.{lookup}
use Rattle.std.specs.Str.{bytes_eq}
use Rattle.indexmap.specs.IndexMap.{insert_entry}
use Rattle.catalog_store.specs.Catalog.{Catalog}
use Rattle.kept_queries.specs.Keeping.{ArePlans, AreForBodies, IsKeptFor}
use Rattle.kept_queries.specs.declared.keeping.KeptQuery.{KeptQuery}

-- those of a routine more, or of one that is there
pub one_more : (known : Catalog) (rs : List (List ℕ × List KeptQuery)) (name : List ℕ)
    (kept : List KeptQuery) → ArePlans known (Some name) kept → AreForBodies known rs →
    AreForBodies known (insert_entry bytes_eq rs name kept)
one_more known [] name kept k h = (k, tt)
one_more known (r ∷ rs) name kept k h =
    by (bytes_eq name r.0) refl (one_more known rs name kept k h.1)
  where
    by : (b : Bool) → bytes_eq name r.0 ≡ b →
        AreForBodies known (insert_entry bytes_eq rs name kept) → AreForBodies known
        (if b then (r.0, kept) ∷ rs else r ∷ insert_entry bytes_eq rs name kept)
    by true t rest = (
      subst (λ (n : List ℕ). ArePlans known (Some n) kept) ((bytes_eq-Decides name r.0).0 t) k,
      h.1,
    )
    by false t rest = (h.0, rest)

-- those that are found by a name
pub found : (known : Catalog) (rs : List (List ℕ × List KeptQuery)) (name : List ℕ)
    (kept : List KeptQuery) → AreForBodies known rs → lookup (bytes_eq name) rs ≡ Some kept →
    ArePlans known (Some name) kept
found known [] name kept h e = absurd (let never = e in cc)
found known (r ∷ rs) name kept h e =
    by (bytes_eq name r.0) refl (found known rs name kept h.1) e
  where
    by : (b : Bool) → bytes_eq name r.0 ≡ b →
        (lookup (bytes_eq name) rs ≡ Some kept → ArePlans known (Some name) kept) →
        cond b (Some r.1) (lookup (bytes_eq name) rs) ≡ Some kept →
        ArePlans known (Some name) kept
    by true t rest g =
        subst (λ (n : List ℕ). ArePlans known (Some n) kept)
        (sym ((bytes_eq-Decides name r.0).0 t))
        (subst (ArePlans known (Some r.0)) (let same = g in cc) h.0)
    by false t rest g = rest g

-- those of a function after those of others, in the catalog that is seen
pub put_after : (known seen : Catalog) (xs ys zs : List KeptQuery) → known ≡ seen →
    ArePlans known None xs → ArePlans seen None ys → zs ≡ xs ++ ys → ArePlans known None zs
put_after known seen xs ys zs is p q e =
    subst (ArePlans known None) (sym e)
    (All-append (IsKeptFor known None) xs ys p
    (subst (λ (k : Catalog). ArePlans k None ys) (sym is) q))
