-- EXPLAIN has a reply, and a plan that it tells means the query; and all of them begin alike.
use Rattle.std.proofs.Common.{◌≡◌, ℕ, Bool, true, false, List, Result, Ok, Err, Some, refl, ap}
use Rattle.std.proofs.Common.{◌∙◌, subst, sym}
use Rattle.std.specs.Prelude.{IfOk, if◌then◌else◌, slice_get}
use Rattle.bound_trees.specs.declared.query.BoundQuery.{BoundQuery}
use Rattle.sql_texts.specs.declared.memory.NoMemory.{NoMemory}
use Rattle.rel_algebra.specs.Applies.{counted}
use Rattle.rel_algebra.specs.Plain.{planned}
use Rattle.catalog_store.specs.Catalog.{Catalog}
use Rattle.block_plans.specs.Callees.{Callees, width_in}
use Rattle.block_plans.specs.View.{query_seen}
use Rattle.call_places.specs.Places.{inlined_places, interpreted_places}
use Rattle.called_blocks.specs.Planned.{all_planned}
use Rattle.plan_text.specs.Explained.{by_plan_text, by_row_text}
use Rattle.psm_effects.specs.Explaining.{IsExplained, TellsPlan, explained, explained_by, told_plan}
use Rattle.psm_effects.specs.Preparing.{IsPlanOf}
use Rattle.psm_effects.proofs.Preparing.{own_plan}
use Rattle.block_views.proofs.Laws.{seen_as_run}
use Rattle.rel_algebra.specs.Tree.{Query}

-- the plan that is told means the query as it is run
tells : (known : Catalog) (q : BoundQuery) → TellsPlan known q
tells known q names some =
    let k = all_planned known q in
    subst (λ (seen : Query). IsPlanOf seen (width_in k) (told_plan k q))
    (sym (seen_as_run.queries k q names some))
    (own_plan (query_seen k q) (width_in k) (told_plan k q) some refl)

-- what is explained by all blocks that may have plans is explained in their catalog
pub explained_there : (known : Catalog) (k : Callees) (q : BoundQuery) → k ≡ all_planned known q →
    (r : Result (List ℕ) NoMemory) → IfOk r (λ reply. reply ≡ explained_by k q)
    → IfOk r (λ reply. IsExplained known q reply)
explained_there known k q all (Ok reply) h = record {
  replies = h ∙ ap (λ (l : Callees). explained_by l q) all;
  means = tells known q;
}
explained_there known k q all (Err e) h = tt

-- ---- a reply

pub some_explained : (known : Catalog) (q : BoundQuery) →
    (reply : List ℕ) × IsExplained known q reply
some_explained known q =
    (explained known q, record { replies = refl; means = tells known q })

-- by the letter `i`
begins : (k : Callees) (q : BoundQuery) → slice_get (explained_by k q) 0 ≡ Some 105
begins k q = by (planned (query_seen k q))
  where
    by : (b : Bool) → slice_get
        (if b then by_plan_text (counted (inlined_places k q)) (told_plan k q)
        else by_row_text (counted (inlined_places k q)) (counted (interpreted_places k q))) 0
        ≡ Some 105
    by true = refl
    by false = refl

pub explained_begins : (known : Catalog) (q : BoundQuery) (reply : List ℕ) →
    IsExplained known q reply → slice_get reply 0 ≡ Some 105
explained_begins known q reply x =
    ap (λ (text : List ℕ). slice_get text 0) x.replies ∙ begins (all_planned known q) q
