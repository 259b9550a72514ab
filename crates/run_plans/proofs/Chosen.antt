-- What is kept of a query at a place, and that the query ends there as the plan does.
use Rattle.std.proofs.Common.{◌≡◌, ℕ, true, List, [], Option, Some, None, length, IsTrue}
use Rattle.std.proofs.Common.{sym, ap, ◌∙◌, subst}
use Rattle.std.specs.Prelude.{IfSome}
use Rattle.std.specs.Borrow.{Bor}
use Rattle.std.specs.List.{list_all}
use Rattle.std.proofs.lemmas.List.Elements.{All-from_recursion}
use Rattle.row_types.specs.Rows.{Row, well_kept}
use Rattle.row_types.specs.Tables.{Stored}
use Rattle.table_store.specs.Memory.{AllWellKept, Memory}
use Rattle.bound_trees.specs.declared.query.BoundQuery.{BoundQuery}
use Rattle.rel_algebra.specs.Joins.{table_width}
use Rattle.rel_algebra.specs.Meaning.{answer}
use Rattle.rel_algebra.specs.Theorem.{KeptTablesFit}
use Rattle.rel_algebra.specs.World.{Frame}
use Rattle.catalog_store.specs.Catalog.{Catalog}
use Rattle.routine_views.specs.Views.{query_in}
use Rattle.scanned_tables.specs.declared.scans.ScannedTable.{ScannedTable}
use Rattle.scanned_tables.specs.Scans.{AreWide}
use Rattle.kept_queries.specs.declared.keeping.KeptQuery.{KeptQuery}
use Rattle.kept_queries.specs.declared.sight.InSight.{InSight}
use Rattle.kept_queries.specs.Keeping.{IsKept, IsKeptFor, KeptMean}
use Rattle.run_expressions.specs.Content.{Content, world_of}
use Rattle.run_places.specs.declared.place.Own.{Own}
use Rattle.run_places.specs.declared.place.Place.{Place}
use Rattle.run_places.specs.Places.{known_of, own_in, parameters_in, self_of}
use Rattle.run_plans.specs.Ending.{kept_end}
use Rattle.run_plans.specs.Sights.{sight_of}
use Rattle.run_plans.specs.Widths.{has_width}
use Rattle.run_plans.proofs.Wide.{all_wide}

-- ---- what is kept

-- the name of the routine around
abbrev pub name_of : Option Own → Option (List ℕ)
name_of None = None
name_of (Some own) = Some own.name.now

-- what is kept for a routine's body is kept there, and so what is kept for none
kept_there : (known : Catalog) (own : Option Own) (k : KeptQuery) →
    IsKeptFor known (name_of own) k → IsKept known (own_in own) k
kept_there known None k h = h []
kept_there known (Some own) k h = h (parameters_in own.routine)

-- what is found is kept at the place
pub found_kept : (p : Place) (own : Option Own) (o : Option (Bor KeptQuery)) → p.own ≡ own →
    IfSome o (λ k. IsKeptFor p.kept.now (name_of own) k.now) →
    IfSome o (λ k. IsKept p.catalog.now (own_in p.own) k.now)
found_kept p own None is h = tt
found_kept p own (Some k) is h =
    subst (λ (around : Option Own). IsKept p.catalog.now (own_in around) k.now) (sym is)
    (kept_there p.catalog.now own k.now
    (subst (λ (known : Catalog). IsKeptFor known (name_of own) k.now) p.same h))

-- ---- how it ends

-- where tables pass the test they have as many columns as in the plan
pub wide_there : (R : List ℕ → ℕ) (scanned ss : List ScannedTable) → scanned ≡ ss →
    list_all (has_width R) scanned ≡ true → AreWide ss R
wide_there R scanned ss same h = all_wide R ss (ap (list_all (has_width R)) (sym same) ∙ h)

module _ (mean : KeptMean) (fit : KeptTablesFit) (p : Place) (c : Content) (f : Frame)
    (rows : List Row) (q : BoundQuery) (k : KeptQuery)
    (kept : IsKept p.catalog.now (own_in p.own) k) (same : k.query ≡ q)
    (n : ℕ) (there : k.in_sight ≡ sight_of n rows) (count : n ≡ length f.variables) where
  -- the query ends as what is kept of it, over tables that are as wide
  ends_kept : AllWellKept c.memory.tables → AreWide k.tables (table_width c.memory.tables) →
      answer (query_in (known_of p) q) (self_of p) rows f (world_of c)
      ≡ kept_end k rows f (world_of c)
  ends_kept stored wide =
      ap (λ (t : BoundQuery). answer (query_in (known_of p) t) (self_of p) rows f (world_of c))
      (sym same)
      ∙ mean p.catalog.now (own_in p.own) k (self_of p) rows f (world_of c) kept
      (sym (ap (λ (s : InSight). s.variables) there ∙ count))
      (sym (ap (λ (s : InSight). s.rows) there))
      (fit c.memory.tables f.variables (All-from_recursion
      (λ (s : Stored). IsTrue (well_kept s.table.columns s.table.key s.table.rows)) c.memory.tables
      stored)) wide

  ends_over : (m : Memory) → m ≡ c.memory → AllWellKept m.tables →
      AreWide k.tables (table_width m.tables) →
      answer (query_in (known_of p) q) (self_of p) rows f (world_of c)
      ≡ kept_end k rows f (world_of c)
  ends_over m is stored wide =
      ends_kept (subst (λ (n : Memory). AllWellKept n.tables) is stored)
      (subst (λ (n : Memory). AreWide k.tables (table_width n.tables)) is wide)

  -- and so does what is found of it, where it is found
  pub ends_found : (m : Memory) → m ≡ c.memory → AllWellKept m.tables →
      (o : Option (Bor KeptQuery)) → IfSome o (λ r. r.now ≡ k) →
      IfSome o (λ _. AreWide k.tables (table_width m.tables)) →
      IfSome o (λ r. answer (query_in (known_of p) q) (self_of p) rows f (world_of c)
      ≡ kept_end r.now rows f (world_of c))
  ends_found m is stored None same wide = tt
  ends_found m is stored (Some r) same wide =
      ends_over m is stored wide ∙ ap (λ (x : KeptQuery). kept_end x rows f (world_of c)) (sym same)
