-- The plan of a query prepares it, and what is collected of the plan is how the query ends.
use Rattle.std.proofs.Common.{◌≡◌, ℕ, true, List, [], sym, ap, ◌∙◌, subst}
use Rattle.std.specs.List.{IsDistinct}
use Rattle.std.specs.Str.{bytes_eq}
use Rattle.row_types.specs.Tables.{Tables}
use Rattle.row_types.specs.Cells.{PlanRow}
use Rattle.table_store.specs.Memory.{Memory, AllWellKept}
use Rattle.rel_algebra.specs.Tree.{Query}
use Rattle.rel_algebra.specs.World.{World, no_self, no_frame}
use Rattle.rel_algebra.specs.Meaning.{answer, carried}
use Rattle.rel_algebra.specs.Joins.{table_width}
use Rattle.rel_algebra.specs.Plain.{planned}
use Rattle.rel_algebra.specs.Theorem.{Fits}
use Rattle.rel_algebra.specs.Plan.{PlanTree, den, collected}
use Rattle.rel_algebra.specs.Emit.{plan, top}
use Rattle.rel_algebra.specs.Kinds.{tree_good}
use Rattle.rel_algebra.specs.Lasting.{QueryLasts}
use Rattle.rel_algebra.specs.Removal.{tree_within}
use Rattle.rel_algebra.specs.WellFormed.{tree_fits}
use Rattle.rel_algebra.proofs.Laws.{means_passing, lasting_plans, closed_plans}
use Rattle.catalog_store.specs.Catalog.{names_of}
use Rattle.catalog_store.specs.Widths.{width_in}
use Rattle.plan_exec.specs.Passing.{inputs_of}
use Rattle.plan_exec.specs.Answers.{answer_end, shown_end}
use Rattle.plan_exec.specs.declared.collecting.Answer.{Answer}
use Rattle.psm_effects.specs.Answering.{ends_with}
use Rattle.psm_effects.specs.Preparing.{IsPlanOf, KeepsForm, over}
use Rattle.psm_effects.specs.Database.{Plain}
use Rattle.psm_effects.specs.Shapes.{IsWhole}
use Rattle.psm_effects.proofs.Answering.{tells_end}
use Rattle.psm_effects.proofs.Lasting.{query_lasts}
use Rattle.psm_effects.proofs.Widths.{fits_of, widths_agree}

-- the plan that the emitter makes of a query is one of it
pub own_plan : (q : Query) (widths : List ℕ → ℕ) (p : PlanTree) → planned q ≡ true →
    p ≡ plan q widths (top 0) → IsPlanOf q widths p
own_plan q widths p is_planned p_is = record {
  means = λ w fits lasts.
      means_passing q no_frame w is_planned fits
      ∙ ap (λ (t : PlanTree). carried (collected (den t (over w.tables) [])) w)
      (sym (p_is ∙ lasting_plans.queries q widths (table_width w.tables) (top 0) lasts));
  closed = ap (λ (t : PlanTree). tree_within t 0) p_is ∙ closed_plans.queries q widths 0;
}

-- and is as well formed as itself
pub own_form : (q : Query) (widths : List ℕ → ℕ) (p : PlanTree) → p ≡ plan q widths (top 0) →
    KeepsForm q widths p
own_form q widths p p_is = record {
  fits = λ h. ap (λ (t : PlanTree). tree_fits t widths [] 0) p_is ∙ h;
  kinded = λ kinds h. ap (λ (t : PlanTree). tree_good t kinds [] []) p_is ∙ h;
}

-- the query ends as its plan does over the same tables
pub plan_ends : (m : Memory) (p : PlanTree) (rows : List PlanRow) (a : Answer) →
    AllWellKept m.tables → rows ≡ den p (inputs_of m []) []
    → answer_end a ≡ shown_end (collected rows) → (q : Query) (widths : List ℕ → ℕ) →
    IsPlanOf q widths p → QueryLasts q widths (table_width m.tables)
    → (w : World) → w.tables ≡ m.tables → answer q no_self [] no_frame w ≡ ends_with a w
plan_ends m p rows a kept rows_are told q widths is_plan lasts w same =
    is_plan.means w (subst (λ (ts : Tables). Fits (over ts)) (sym same) (fits_of m.tables [] kept))
    (subst (λ (ts : Tables). QueryLasts q widths (table_width ts)) (sym same) lasts)
    ∙ ap (λ (ts : Tables). carried (collected (den p (over ts) [])) w) same ∙
    ap (λ rs. carried (collected rs) w) (sym rows_are) ∙ tells_end a (collected rows) told w

-- ---- the widths of a database

pub same_widths : (db : Plain) → IsWhole db → IsDistinct bytes_eq (names_of db.catalog) →
    width_in db.catalog ≡ table_width db.tables
same_widths db whole distinct = λ i name. widths_agree db whole distinct name i

-- a query lasts from the catalog to its tables
pub lasts_here : (db : Plain) (q : Query) → IsWhole db → IsDistinct bytes_eq (names_of db.catalog) →
    QueryLasts q (width_in db.catalog) (table_width db.tables)
lasts_here db q whole distinct =
    subst (λ (widths : List ℕ → ℕ). QueryLasts q (width_in db.catalog) widths)
    (same_widths db whole distinct) (query_lasts (width_in db.catalog) q)
