-- What holds of the plans of calls as one more is put to them and as one is looked up.
use Rattle.std.proofs.Common.{◌≡◌, ℕ, Bool, true, false, cond, List, [], ◌∷◌, Option, None, Some}
use Rattle.std.proofs.Common.{refl, sym, subst, if◌then◌else◌}
use Rattle.std.specs.Prelude.{IfSome}
use Rattle.std.specs.Borrow.{Bor}
use Rattle.std.specs.Map.{lookup}
use Rattle.std.specs.Option.{option_copied}
use Rattle.std.specs.Str.{bytes_eq}
use Rattle.std.proofs.lemmas.Slice.Eq.{bytes_eq-Decides}
use Rattle.indexmap.specs.IndexMap.{insert_entry}
use Rattle.catalog_store.specs.Catalog.{Catalog}
use Rattle.call_plans.specs.Calls.{IsCallPlan}
use Rattle.call_plans.specs.declared.calls.CallPlan.{CallPlan}
use Rattle.kept_queries.specs.Called.{AreCalls}

-- one more, or another of a name that is there
pub one_more : (known : Catalog) (cs : List (List ℕ × CallPlan)) (name : List ℕ)
    (c : CallPlan) → IsCallPlan known name c → AreCalls known cs →
    AreCalls known (insert_entry bytes_eq cs name c)
one_more known [] name c one h = (one, tt)
one_more known (x ∷ cs) name c one h =
    by (bytes_eq name x.0) refl (one_more known cs name c one h.1)
  where
    by : (t : Bool) → bytes_eq name x.0 ≡ t →
        AreCalls known (insert_entry bytes_eq cs name c) → AreCalls known
        (if t then (x.0, c) ∷ cs else x ∷ insert_entry bytes_eq cs name c)
    by true q rest =
        (subst (λ (n : List ℕ). IsCallPlan known n c) ((bytes_eq-Decides name x.0).0 q) one, h.1)
    by false q rest = (h.0, rest)

-- the one that is found by a name
pub found : (known : Catalog) (cs : List (List ℕ × CallPlan)) (name : List ℕ) (c : CallPlan) →
    AreCalls known cs → lookup (bytes_eq name) cs ≡ Some c → IsCallPlan known name c
found known [] name c h e = absurd (let never = e in cc)
found known (x ∷ cs) name c h e = by (bytes_eq name x.0) refl (found known cs name c h.1) e
  where
    by : (t : Bool) → bytes_eq name x.0 ≡ t →
        (lookup (bytes_eq name) cs ≡ Some c → IsCallPlan known name c) →
        cond t (Some x.1) (lookup (bytes_eq name) cs) ≡ Some c → IsCallPlan known name c
    by true q rest g =
        subst (λ (n : List ℕ). IsCallPlan known n c) (sym ((bytes_eq-Decides name x.0).0 q))
        (subst (IsCallPlan known x.0) (let same = g in cc) h.0)
    by false q rest g = rest g

-- and so in the catalog that is seen
pub found_seen : (known seen : Catalog) (cs : List (List ℕ × CallPlan)) (name : List ℕ)
    (o : Option (Bor CallPlan)) → known ≡ seen → AreCalls known cs →
    option_copied o ≡ lookup (bytes_eq name) cs → IfSome o (λ c. IsCallPlan seen name c.now)
found_seen known seen cs name None is h e = tt
found_seen known seen cs name (Some c) is h e =
    subst (λ (k : Catalog). IsCallPlan k name c.now) is (found known cs name c.now h (sym e))
