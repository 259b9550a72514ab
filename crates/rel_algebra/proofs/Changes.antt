-- INSERT, UPDATE and DELETE of a script.
use Rattle.std.proofs.Common.{◌≡◌, ℕ, List, [], ◌∷◌, map, refl, ap, Option, Some, None}
use Rattle.row_types.specs.Rows.{Row}
use Rattle.row_types.specs.Tables.{Table, table_named}
use Rattle.rel_algebra.specs.Changes.{ChangesRun}
use Rattle.rel_algebra.specs.Meaning.{answer}
use Rattle.rel_algebra.specs.World.{World, after, unit_of, no_self, no_frame}
use Rattle.rel_algebra.specs.Writing.{spread, spread_rows, stored, stored_in}

-- no columns are listed
unlisted : (t : Table) (new : List Row) → map (spread None t) new ≡ new
unlisted t [] = refl
unlisted t (row ∷ new) = ap (λ (rows : List Row). row ∷ rows) (unlisted t new)

all_rows : (o : Option Table) (new : List Row) → spread_rows None o new ≡ new
all_rows None new = refl
all_rows (Some t) new = unlisted t new

pub stored_in-all : (name : List ℕ) (new : List Row) (w : World) →
    stored_in name None new w ≡ stored name new w
stored_in-all name new w =
    ap (λ (rows : List Row). stored name rows w) (all_rows (table_named name w.tables) new)

pub changes_run : ChangesRun
changes_run = record {
  inserting = λ name listed query w. refl;
  updating = λ name targets query w. refl;
  deleting = λ name query w. refl;
  without_list = λ name query w. λ i.
      unit_of w (after (answer query no_self [] no_frame w) (λ new u. stored_in-all name new u i));
}
