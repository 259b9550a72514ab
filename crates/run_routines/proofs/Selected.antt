-- A SELECT by the rows that are met, and by all rows of FROM.
use Rattle.std.proofs.Common.{◌≡◌, map, subst, List, Option, Some, IfSome, Result, Ok}
use Rattle.row_types.specs.Rows.{Row}
use Rattle.bound_trees.specs.declared.query.BoundFromItem.{BoundFromItem}
use Rattle.bound_trees.specs.declared.query.BoundSelect.{BoundSelect, out-BoundSelect}
use Rattle.rel_algebra.specs.World.{Called, Frame}
use Rattle.rel_algebra.specs.Meaning.{answer, from_rows}
use Rattle.catalog_store.specs.View.{from_of}
use Rattle.routine_views.specs.Views.{Known}
use Rattle.run_choices.specs.declared.stop.Stop.{Stop}
use Rattle.run_expressions.specs.Content.{Content, world_of}
use Rattle.run_expressions.specs.Ending.{Ended}
use Rattle.run_places.specs.Views.{item_in, select_in}
use Rattle.run_keys.specs.LeftOut.{AreMet}
use Rattle.run_keys.proofs.Laws.{all_make, met_make, of_rows}

pub met_ends : (self : Called) (k : Known) (q : BoundSelect) (outer : List Row) (f : Frame)
    (old new : Content) (found : Option (List Row)) (rows all : List Row)
    (r : Result (List Row) Stop) → found ≡ Some rows →
    IfSome found (λ met. AreMet q outer f (world_of old) met) → all ≡ rows →
    Ended old new r (of_rows self k q outer f all (world_of old)) →
    Ended old new r (answer (select_in k q) self outer f (world_of old))
met_ends self k q outer f old new found rows all r is met same e =
    met_make self k q outer f old new rows r
    (subst (λ (o : Option (List Row)). IfSome o (λ m. AreMet q outer f (world_of old) m)) is met)
    (subst (λ (rs : List Row). Ended old new r (of_rows self k q outer f rs (world_of old))) same e)

pub all_ends : (self : Called) (k : Known) (q : BoundSelect) (outer : List Row) (f : Frame)
    (items : List BoundFromItem) (old now new : Content) (rows all : List Row)
    (r : Result (List Row) Stop) → items ≡ (out-BoundSelect q).from → all ≡ rows →
    Ended old now (Ok rows) (from_rows (from_of (map (item_in k) items)) self outer f
    (world_of old)) → Ended now new r (of_rows self k q outer f all (world_of now)) →
    Ended old new r (answer (select_in k q) self outer f (world_of old))
all_ends self k q outer f items old now new rows all r from same d e =
    all_make self k q outer f old now new rows r
    (subst (λ (is : List BoundFromItem). Ended old now (Ok rows)
    (from_rows (from_of (map (item_in k) is)) self outer f (world_of old))) from d)
    (subst (λ (rs : List Row). Ended now new r (of_rows self k q outer f rs (world_of now))) same e)
