-- What a kept plan means, how long, and how one is made.
use Rattle.std.proofs.Common.{◌≡◌, ℕ, true, List, length, Option, Some, None, sym, ap, ◌∙◌, subst}
use Rattle.std.specs.Borrow.{Bor}
use Rattle.std.specs.List.{IsDistinct}
use Rattle.std.specs.Option.{option_copied}
use Rattle.std.specs.Str.{bytes_eq}
use Rattle.row_types.specs.Rows.{Row}
use Rattle.rel_algebra.specs.Emit.{plan}
use Rattle.rel_algebra.specs.Endings.{Ending}
use Rattle.rel_algebra.specs.Joins.{table_width}
use Rattle.rel_algebra.specs.Lasting.{QueryLasts}
use Rattle.rel_algebra.specs.Meaning.{answer, carried}
use Rattle.rel_algebra.specs.Plain.{planned}
use Rattle.rel_algebra.specs.Plan.{PlanTree, collected, den}
use Rattle.rel_algebra.specs.PlanView.{tree_of}
use Rattle.rel_algebra.specs.Theorem.{Fits, inputs_of, stack, under, widths}
use Rattle.rel_algebra.specs.Tree.{Parameter, Query}
use Rattle.rel_algebra.specs.World.{Called, Frame, World}
use Rattle.rel_algebra.proofs.Laws.{lasting_plans, means_under, query_plans}
use Rattle.rel_algebra.proofs.Passing.{query_is}
use Rattle.scanned_tables.specs.Scans.{scans, AreWide}
use Rattle.scanned_tables.specs.declared.scans.ScannedTable.{ScannedTable}
use Rattle.scanned_tables.proofs.Laws.{scans_decide}
use Rattle.catalog_store.specs.Catalog.{Catalog, names_of}
use Rattle.catalog_store.specs.Widths.{width_in}
use Rattle.bound_trees.specs.declared.query.BoundQuery.{BoundQuery}
use Rattle.routine_views.specs.Views.{Own, query_in}
use Rattle.block_plans.specs.Callees.{Callees}
use Rattle.block_plans.specs.View.{query_seen}
use Rattle.block_places.specs.Seen.{SeenInPlace, StandsApart, around}
use Rattle.kept_queries.specs.Apart.{AreApart}
use Rattle.kept_queries.specs.Keeping.{IsKept, IsKeptFor, KeptMean, KeptLast, own_named}
use Rattle.kept_queries.specs.declared.keeping.KeptQuery.{KeptQuery}
use Rattle.kept_queries.specs.declared.sight.InSight.{InSight}

-- ---- what it means

-- the query, as it is seen where it stands
abbrev stood : Catalog → Option Own → KeptQuery → Query
stood known own k = query_in (around known own) k.query

-- the plan of a query by widths of tables, where so much is in sight
abbrev plan_there : Query → (List ℕ → ℕ) → InSight → PlanTree
plan_there q S s = plan q S (under s.rows s.variables)

-- where its tables are as wide, the query lasts
lasting : (known : Catalog) (own : Option Own) (k : KeptQuery) (R : List ℕ → ℕ) →
    IsKept known own k → AreWide k.tables R → QueryLasts (stood known own k) (width_in known) R
lasting known own k R kept wide =
    scans_decide (stood known own k) (width_in known) R
    (under k.in_sight.rows k.in_sight.variables) kept.is_planned
    (subst (λ (ts : List ScannedTable). AreWide ts R)
    (kept.are_tables ∙ ap scans kept.is_plan) wide)

-- and its plan is the same
same_plan : (known : Catalog) (own : Option Own) (k : KeptQuery) (R : List ℕ → ℕ) →
    IsKept known own k → AreWide k.tables R →
    tree_of k.plan ≡ plan_there (stood known own k) R k.in_sight
same_plan known own k R kept wide =
    kept.is_plan
    ∙ lasting_plans.queries (stood known own k) (width_in known) R
    (under k.in_sight.rows k.in_sight.variables) (lasting known own k R kept wide)

-- a planned query ends under rows as its plan does, in the world in which it began
means_within_rows : (q : Query) (self : Called) (rows : List Row) (f : Frame) (w : World) →
    planned q ≡ true → Fits (inputs_of w f) →
    answer q self rows f w
    ≡ carried (collected (den (plan q (table_width w.tables)
    (under (widths rows) (length f.variables))) (inputs_of w f) (stack rows))) w
means_within_rows q self rows f w p fits =
    query_is q (query_plans q p) self rows f w f.variables
    ∙ ap (λ (e : Ending (List Row)). carried e w) (sym (means_under q (inputs_of w f) rows p fits))

pub kept_mean : KeptMean
kept_mean known own k self rows f w kept count long fits wide =
    let q = stood known own k in let R = table_width w.tables in
    means_within_rows q self rows f w kept.is_planned fits
    ∙ ap (λ (t : PlanTree). carried (collected (den t (inputs_of w f) (stack rows))) w)
    (ap (λ n. plan q R (under (widths rows) n)) count
    ∙ ap (λ (ns : List ℕ). plan q R (under ns k.in_sight.variables)) long
    ∙ sym (same_plan known own k R kept wide))

pub kept_last : KeptLast
kept_last known later own k kept same wide = record {
  is_planned = ap planned same ∙ kept.is_planned;
  is_plan =
      same_plan known own k (width_in later) kept wide
      ∙ ap (λ (q : Query). plan_there q (width_in later) k.in_sight) (sym same);
  are_tables = kept.are_tables;
}

-- ---- how one is made

-- what no call runs stands apart, whatever its parameters
apart_named : (f : Callees) (own : Option (Bor (List ℕ))) (ps : List Parameter) →
    AreApart f own → StandsApart f (own_named (option_copied own) ps)
apart_named f None ps h = tt
apart_named f (Some name) ps h = h

-- what is made of a query's copy, of its plan and of the tables in that
pub made : (views : SeenInPlace) (f : Callees) (own : Option (Bor (List ℕ))) (q : BoundQuery)
    (s : InSight) (k : KeptQuery) → IsDistinct bytes_eq (names_of f.known) → AreApart f own →
    planned (query_seen f q) ≡ true → k.query ≡ q → k.in_sight ≡ s →
    tree_of k.plan ≡ plan_there (query_seen f q) (width_in f.known) s →
    k.tables ≡ scans (tree_of k.plan) → IsKeptFor f.known (option_copied own) k
made views f own q s k names apart p same there_too is_plan are_tables = λ ps.
    let there = own_named (option_copied own) ps in
    let stands : stood f.known there k ≡ query_seen f q =
    ap (query_in (around f.known there)) same
    ∙ views.queries f there names (apart_named f own ps apart) q p in
    record {
      is_planned = ap planned stands ∙ p;
      is_plan =
          is_plan
          ∙ ap (λ (t : Query). plan_there t (width_in f.known) s) (sym stands)
          ∙ ap (plan_there (stood f.known there k) (width_in f.known)) (sym there_too);
      are_tables = are_tables;
    }
