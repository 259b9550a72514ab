-- Rows of the table of a name, changed at its place.
use Rattle.std.proofs.Common.{ℕ, ◌≡◌, ◌<◌, true, List, length, map, Option, Some, None, Result, Ok}
use Rattle.std.proofs.Common.{Err, refl, sym, ap, ◌∙◌, subst}
use Rattle.std.specs.declared.vec.Vec.{Vec}
use Rattle.std.specs.declared.alloc.Global.{Global}
use Rattle.std.specs.List.{list_all}
use Rattle.std.proofs.lemmas.List.{length-map}
use Rattle.row_types.specs.Rows.{Row, fits}
use Rattle.row_types.specs.Tables.{Table, Tables, table_at, table_named, place_named}
use Rattle.row_types.specs.Writing.{inserted}
use Rattle.row_types.proofs.Laws.{table_named-at, table_named-none, place_named-within}
use Rattle.row_types.proofs.Laws.{with_rows_named-at}
use Rattle.table_store.specs.Kept.{Kept}
use Rattle.table_store.specs.Memory.{Memory, kept_at}
use Rattle.atomic_undo.specs.declared.changes.Changes.TheVariants.{Insert, Update}
use Rattle.atomic_undo.specs.Changes.{removed_all}
use Rattle.rel_algebra.specs.World.{World, Ends, Gives, Eval, each, after}
use Rattle.rel_algebra.specs.World.{with_tables}
use Rattle.rel_algebra.specs.Writing.{row_for, store_in, stored, keep_rows}
use Rattle.data_change.specs.Writing.{spread, spread_rows, stored_in, changed_row, change_in}
use Rattle.data_change.specs.Writing.{remove_in, place_in, places_in, replaced}
use Rattle.data_change.proofs.Laws.{stored_in-all}
use Rattle.run_choices.specs.declared.stop.Stop.{Stop}
use Rattle.run_expressions.specs.Content.{Content, world_of}
use Rattle.run_expressions.specs.Ending.{Ended}
use Rattle.run_choices.specs.Ending.{TellsAnywhere}
use Rattle.run_expressions.proofs.Laws.{stays_same, going, stops}
use Rattle.run_changes.specs.Making.{keep_at, rows_after}

abbrev pub Done : Type 0
Done = Result (Unit {0}) Stop

-- ---- the table of a name

kept_named : (name : List ℕ) (place : ℕ) (o : Option (List Row)) (w : World) →
    place_named name w.tables ≡ Some place → keep_rows o name w ≡ keep_at place o w
kept_named name place None w there = refl
kept_named name place (Some rows) w there = ap (λ (ts : Tables). Gives tt (with_tables w ts))
    (with_rows_named-at name rows w.tables place there)

pub place_there : (name : List ℕ) (o : Option ℕ) (there m : Memory) →
    o ≡ place_named name there.tables → there ≡ m → place_named name m.tables ≡ o
place_there name o there m h is = sym (h ∙ ap (λ (x : Memory). place_named name x.tables) is)

pub there_within : (name : List ℕ) (place : ℕ) (ts : Tables) → place_named name ts ≡ Some place →
    place < length ts
there_within name place ts there = place_named-within name ts place there

table_there : (place : ℕ) (k : Kept) (there m : Memory) → k ≡ kept_at there place → there ≡ m →
    k.table ≡ table_at m.tables place
table_there place k there m h is = ap (λ (y : Kept). y.table) h ∙
    ap (λ (x : Memory). table_at x.tables place) is

-- what was made of the table that the code found was made of the table at the place
pub tells_there : (place : ℕ) (k : Kept) (there m : Memory) (of : Table → List Row)
    (r : Result (List Row) Stop) (values : List Row) → k ≡ kept_at there place → there ≡ m →
    values ≡ of k.table →
    TellsAnywhere r (each (row_for k.table) values) →
    TellsAnywhere r (each (row_for (table_at m.tables place)) (of (table_at m.tables place)))
tells_there place k there m of r values h is e t =
    subst (λ (x : Table). TellsAnywhere r (each (row_for x) (of x)))
    (table_there place k there m h is) (subst
    (λ (vs : List Row). TellsAnywhere r (each (row_for k.table) vs)) e t)

pub places_there : (place : ℕ) (k : Kept) (there m : Memory) (seen met : List Row) (places : List ℕ)
    → k ≡ kept_at there place → there ≡ m → seen ≡ met → places ≡ places_in k.table seen →
    places ≡ places_in (table_at m.tables place) met
places_there place k there m seen met places h is same e =
    e ∙ ap (places_in k.table) same ∙ ap (λ (x : Table). places_in x met)
    (table_there place k there m h is)

pub fit_there : (place : ℕ) (k : Kept) (there m : Memory) (rows : List Row) →
    k ≡ kept_at there place → there ≡ m → list_all (fits k.table.columns k.table.key) rows ≡ true →
    list_all (fits (table_at m.tables place).columns (table_at m.tables place).key) rows ≡ true
fit_there place k there m rows h is fit = subst
    (λ (x : Table). list_all (fits x.columns x.key) rows ≡ true) (table_there place k there m h is)
    fit

-- there are as many places as new rows
pub places_many : (places : List ℕ) (met : List Row) (t : Table) (of : Row → Row) (rows : List Row)
    → places ≡ places_in t met → length rows ≡ length (map of met) → length places ≡ length rows
places_many places met t of rows e h = ap (λ (ps : List ℕ). length ps) e ∙
    length-map met (place_in t) ∙ sym (h ∙ length-map met of)

nothing : (old : Content) (whole : Ends (Unit {0})) → whole ≡ Gives tt (world_of old) →
    Ended old old (Ok tt) whole
nothing old whole is = record { tells = is; stays = stays_same old }

-- ---- rows that are assigned first

rows_stop : (old : Content) (t : Table) (values : List Row) (go : List Row → Eval (Unit {0}))
    (s : Stop) (whole : Ends (Unit {0})) (r : Done) →
    whole ≡ after (each (row_for t) values (world_of old)) go →
    TellsAnywhere {A = List Row} (Err s) (each (row_for t) values) → r ≡ Err s →
    Ended old old r whole
rows_stop old t values go s whole r is tells same =
    stops {A = List Row} {B = Unit {0}} old old old s (each (row_for t) values (world_of old)) go
    whole whole r is (going old whole whole refl)
    record { tells = tells (world_of old); stays = stays_same old } same

rows_kept : (old new : Content) (name : List ℕ) (place : ℕ) (t : Table) (values rows : List Row)
    (of : List Row → Option (List Row)) (o : Option (List Row)) (whole : Ends (Unit {0}))
    (r : Done) →
    place_named name old.memory.tables ≡ Some place →
    whole ≡ after (each (row_for t) values (world_of old)) (λ rows. keep_rows (of rows) name) →
    TellsAnywhere (Ok rows) (each (row_for t) values) → of rows ≡ o →
    Ended old new r (keep_at place o (world_of old)) → Ended old new r whole
rows_kept old new name place t values rows of o whole r there is tells same ended =
    subst (λ (e : Ends (Unit {0})). Ended old new r e)
    (sym (is ∙ ap (λ e. after e (λ rows. keep_rows (of rows) name)) (tells (world_of old)) ∙
    kept_named name place (of rows) (world_of old) there ∙
    ap (λ p. keep_at place p (world_of old)) same))
    ended

-- ---- INSERT

module _ (old : Content) (name : List ℕ) (listed : List ℕ) (new : List Row) where
  abbrev pub Stores : Ends (Unit {0})
  Stores = store_in (table_named name old.memory.tables) name
      (spread_rows (Some listed) (table_named name old.memory.tables) new) (world_of old)

  pub no_table_stores : place_named name old.memory.tables ≡ None → Ended old old (Ok tt) Stores
  no_table_stores none =
      nothing old Stores
      (ap (λ (o : Option Table). store_in o name (spread_rows (Some listed) o new) (world_of old))
      (table_named-none name old.memory.tables none))

  module _ (place : ℕ) (there : place_named name old.memory.tables ≡ Some place) where
    abbrev here : Table
    here = table_at old.memory.tables place

    store_at : Stores ≡ after (each (row_for here) (map (spread (Some listed) here) new)
        (world_of old)) (λ rows. keep_rows (inserted here rows) name)
    store_at = ap (λ (o : Option Table). store_in o name (spread_rows (Some listed) o new)
        (world_of old)) (table_named-at name old.memory.tables place there)

    pub store_stops : (s : Stop) (r : Done) →
        TellsAnywhere {A = List Row} (Err s) (each (row_for here)
        (map (spread (Some listed) here) new)) → r ≡ Err s → Ended old old r Stores
    store_stops s r tells same = rows_stop old here (map (spread (Some listed) here) new)
        (λ rows. keep_rows (inserted here rows) name) s Stores r store_at tells same

    pub stores : (after_it : Content) (rows : Vec Row Global) (r : Done) →
        TellsAnywhere (Ok rows.items) (each (row_for here) (map (spread (Some listed) here) new)) →
        Ended old after_it r (keep_at place (rows_after here (Insert rows)) (world_of old)) →
        Ended old after_it r Stores
    stores after_it rows r tells ended =
        rows_kept old after_it name place here (map (spread (Some listed) here) new) rows.items
        (λ rows. inserted here rows) (rows_after here (Insert rows)) Stores r there store_at tells
        refl ended

-- where no columns are listed
pub without_list : (old after_it : Content) (name : List ℕ) (listed : Option (List ℕ))
    (new : List Row) (r : Result ℕ Stop) → listed ≡ None →
    Ended old after_it r (stored name new (world_of old)) →
    Ended old after_it r (stored_in name listed new (world_of old))
without_list old after_it name listed new r none ended =
    subst (λ (o : Option (List ℕ)). Ended old after_it r (stored_in name o new (world_of old)))
    (sym none) (subst (λ (e : Ends ℕ). Ended old after_it r e)
    (sym (stored_in-all name new (world_of old))) ended)

-- ---- UPDATE

module _ (old : Content) (name : List ℕ) (targets : List ℕ) (met : List Row) where
  abbrev pub ChangesThem : Ends (Unit {0})
  ChangesThem = change_in (table_named name old.memory.tables) name targets met (world_of old)

  pub no_table_changes : place_named name old.memory.tables ≡ None →
      Ended old old (Ok tt) ChangesThem
  no_table_changes none =
      nothing old ChangesThem (ap (λ (o : Option Table). change_in o name targets met
      (world_of old)) (table_named-none name old.memory.tables none))

  module _ (place : ℕ) (there : place_named name old.memory.tables ≡ Some place) where
    abbrev at : Table
    at = table_at old.memory.tables place

    change_at : ChangesThem ≡ after (each (row_for at) (map (changed_row targets at) met)
        (world_of old)) (λ new. keep_rows (replaced at (places_in at met) new) name)
    change_at = ap (λ (o : Option Table). change_in o name targets met (world_of old))
        (table_named-at name old.memory.tables place there)

    pub change_stops : (s : Stop) (r : Done) →
        TellsAnywhere {A = List Row} (Err s) (each (row_for at) (map (changed_row targets at) met))
        → r ≡ Err s → Ended old old r ChangesThem
    change_stops s r tells same = rows_stop old at (map (changed_row targets at) met)
        (λ new. keep_rows (replaced at (places_in at met) new) name) s ChangesThem r change_at tells
        same

    pub changes : (after_it : Content) (places : Vec ℕ Global) (rows : Vec Row Global) (r : Done) →
        places.items ≡ places_in at met →
        TellsAnywhere (Ok rows.items) (each (row_for at) (map (changed_row targets at) met)) →
        Ended old after_it r (keep_at place (rows_after at (Update places rows)) (world_of old)) →
        Ended old after_it r ChangesThem
    changes after_it places rows r same tells ended =
        rows_kept old after_it name place at (map (changed_row targets at) met) rows.items
        (λ new. replaced at (places_in at met) new) (rows_after at (Update places rows))
        ChangesThem r there change_at tells
        (ap (λ (ps : List ℕ). replaced at ps rows.items) (sym same)) ended

-- ---- DELETE

module _ (old : Content) (name : List ℕ) (met : List Row) where
  abbrev pub Removes : Ends (Unit {0})
  Removes = remove_in (table_named name old.memory.tables) name met (world_of old)

  pub no_table_removes : place_named name old.memory.tables ≡ None → Ended old old (Ok tt) Removes
  no_table_removes none = nothing old Removes
      (ap (λ (o : Option Table). remove_in o name met (world_of old))
      (table_named-none name old.memory.tables none))

  pub removes : (after_it : Content) (place : ℕ) (places : List ℕ) (r : Done) →
      place_named name old.memory.tables ≡ Some place →
      places ≡ places_in (table_at old.memory.tables place) met →
      Ended old after_it r (keep_at place (Some (removed_all places
      (table_at old.memory.tables place).rows)) (world_of old)) → Ended old after_it r Removes
  removes after_it place places r there same ended =
      let t = table_at old.memory.tables place in
      subst (λ (e : Ends (Unit {0})). Ended old after_it r e)
      (sym (ap (λ (o : Option Table). remove_in o name met (world_of old))
      (table_named-at name old.memory.tables place there)
      ∙ kept_named name place (Some (removed_all (places_in t met) t.rows)) (world_of old) there
      ∙ ap (λ (ps : List ℕ). keep_at place (Some (removed_all ps t.rows)) (world_of old))
      (sym same)))
      ended
