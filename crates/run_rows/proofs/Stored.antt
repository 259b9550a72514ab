-- Storing the rows of an INSERT.
use Rattle.std.proofs.Common.{ℕ, ◌≡◌, ◌++◌, List, Option, Some, None, Result, Ok, Err, refl, sym}
use Rattle.std.proofs.Common.{ap, ◌∙◌, subst, arith}
use Rattle.sql_conditions.specs.declared.condition.EngineCondition.TheVariants.{ConstraintViolated}
use Rattle.sql_conditions.specs.Conditions.{area_of}
use Rattle.row_types.specs.Ordered.{in_order, first_repeat}
use Rattle.row_types.specs.Rows.{Row, by_key}
use Rattle.row_types.specs.Tables.{Table, Tables, table_at, table_named, place_named}
use Rattle.row_types.specs.Tables.{with_rows_named, with_rows_at}
use Rattle.row_types.specs.Writing.{inserted, rows_where}
use Rattle.row_types.proofs.Laws.{table_named-at, table_named-none, with_rows_named-at}
use Rattle.table_store.specs.Kept.{Kept}
use Rattle.table_store.specs.Memory.{Memory, kept_at}
use Rattle.std.specs.declared.vec.Vec.{Vec}
use Rattle.std.specs.declared.alloc.Global.{Global}
use Rattle.atomic_undo.specs.declared.changes.Changes.TheVariants.{Insert}
use Rattle.atomic_undo.specs.declared.fault.ApplyFault.{ApplyFault}
use Rattle.atomic_undo.specs.declared.fault.ApplyFault.TheVariants.{Constraint, NoMemory}
use Rattle.atomic_undo.specs.Applying.{KeepsMarks, IsApplied}
use Rattle.rel_algebra.specs.World.{World, Gives, Raises, each, after}
use Rattle.rel_algebra.specs.Writing.{row_for, store_in, keep_rows}
use Rattle.run_choices.specs.declared.stop.Stop.{Stop}
use Rattle.run_choices.specs.declared.stop.Stop.TheVariants.{Raised}
use Rattle.run_expressions.specs.Content.{Content, world_of}
use Rattle.run_expressions.specs.Ending.{Ended}
use Rattle.run_choices.specs.Ending.{Tells, TellsAnywhere}
use Rattle.run_choices.specs.Faults.{refused_by}
use Rattle.run_expressions.proofs.Laws.{stays_same, going, stops}

-- the table of the name is that at the place
store_at : (name : List ℕ) (place : ℕ) (ts : Tables) (new : List Row) (w : World) →
    place_named name ts ≡ Some place →
    store_in (table_named name ts) name new w ≡ after (each (row_for (table_at ts place)) new w)
    (λ rows. keep_rows (inserted (table_at ts place) rows) name)
store_at name place ts new w there = ap (λ (o : Option Table). store_in o name new w)
    (table_named-at name ts place there)

keeps_at : (name : List ℕ) (place : ℕ) (ts : Tables) (new rows : List Row) (w : World) →
    place_named name ts ≡ Some place → each (row_for (table_at ts place)) new w ≡ Gives rows w →
    store_in (table_named name ts) name new w ≡ keep_rows
    (rows_where (first_repeat (by_key (table_at ts place).key)
    ((table_at ts place).rows ++ rows)) (in_order (by_key (table_at ts place).key)
    ((table_at ts place).rows ++ rows))) name w
keeps_at name place ts new rows w there fit =
    store_at name place ts new w there ∙
    ap (λ e. after e (λ rows. keep_rows (inserted (table_at ts place) rows) name)) fit

pub no_table_stores : (old : Content) (name : List ℕ) (new : List Row) →
    place_named name old.memory.tables ≡ None →
    Ended old old (Ok tt) (store_in (table_named name old.memory.tables) name new (world_of old))
no_table_stores old name new none = record {
  tells = ap (λ (o : Option Table). store_in o name new (world_of old))
      (table_named-none name old.memory.tables none);
  stays = stays_same old;
}

pub rows_stop : (old : Content) (name : List ℕ) (place : ℕ) (new : List Row) (s : Stop)
    (r : Result (Unit {0}) Stop) → place_named name old.memory.tables ≡ Some place →
    TellsAnywhere {A = List Row} (Err s) (each (row_for (table_at old.memory.tables place)) new) →
    r ≡ Err s → Ended old old r (store_in (table_named name old.memory.tables) name new
    (world_of old))
rows_stop old name place new s r there t is =
    let ts = old.memory.tables in
    let whole = store_in (table_named name ts) name new (world_of old) in
    stops {A = List Row} {B = Unit {0}} old old old s
    (each (row_for (table_at ts place)) new (world_of old))
    (λ rows. keep_rows (inserted (table_at ts place) rows) name) whole whole r
    (store_at name place ts new (world_of old) there) (going old whole whole refl) record {
      tells =
          t (world_of old);
      stays = stays_same old;
    } is

abbrev pub world_with : Tables → ℕ → ℕ → World
world_with ts turns active = record { tables = ts; turns = turns; active = active }

world_is : (old new : Content) (ts : Tables) → new.memory.tables ≡ ts → new.turns ≡ old.turns →
    new.active ≡ old.active → world_with ts old.turns old.active ≡ world_of new
world_is old new ts a b c =
    ap (λ (x : Tables). world_with x old.turns old.active) (sym a) ∙
    ap (λ n. world_with new.memory.tables n old.active) (sym b) ∙
    ap (λ n. world_with new.memory.tables new.turns n) (sym c)

-- all rows are stored
pub stores : (old new : Content) (name : List ℕ) (place : ℕ) (values rows : List Row) →
    place_named name old.memory.tables ≡ Some place →
    TellsAnywhere (Ok rows) (each (row_for (table_at old.memory.tables place)) values) →
    new.memory.tables ≡ with_rows_at place (in_order (by_key (table_at old.memory.tables place).key)
    ((table_at old.memory.tables place).rows ++ rows)) old.memory.tables →
    first_repeat (by_key (table_at old.memory.tables place).key)
    ((table_at old.memory.tables place).rows ++ rows) ≡ None →
    KeepsMarks old.memory old.book new.memory new.book → new.turns ≡ old.turns →
    new.active ≡ old.active →
    Ended old new (Ok tt) (store_in (table_named name old.memory.tables) name values (world_of old))
stores old new name place values rows there fit tables none marks turns active =
    let ts = old.memory.tables in
    let order = by_key (table_at ts place).key in
    let all = (table_at ts place).rows ++ rows in
    record {
      tells =
          keeps_at name place ts values rows (world_of old) there (fit (world_of old))
          ∙ ap (λ o. keep_rows (rows_where o (in_order order all)) name (world_of old)) none
          ∙ ap (λ (w : World). Gives tt w) (world_is old new
          (with_rows_named name (in_order order all) ts)
          (tables ∙ sym (with_rows_named-at name (in_order order all) ts place there)) turns
          active);
      stays = record { marks = marks; active = active; turns = omega (arith, turns) };
    }

-- a row has the key of an earlier one
refuses : (old new : Content) (name : List ℕ) (place at : ℕ) (values rows : List Row) (s : Stop) →
    place_named name old.memory.tables ≡ Some place →
    TellsAnywhere (Ok rows) (each (row_for (table_at old.memory.tables place)) values) →
    new.memory.tables ≡ old.memory.tables → first_repeat
    (by_key (table_at old.memory.tables place).key)
    ((table_at old.memory.tables place).rows ++ rows) ≡ Some at →
    KeepsMarks old.memory old.book new.memory new.book → new.turns ≡ old.turns →
    new.active ≡ old.active → s ≡ Raised (area_of ConstraintViolated) →
    Ended {A = Unit {0}} old new (Err s) (store_in (table_named name old.memory.tables) name values
    (world_of old))
refuses old new name place at values rows s there fit tables some marks turns active is =
    let ts = old.memory.tables in
    let order = by_key (table_at ts place).key in
    let all = (table_at ts place).rows ++ rows in
    let e = store_in (table_named name ts) name values (world_of old) in
    record {
      tells = subst (λ (x : Stop). Tells (world_of new) (Err x) e) (sym is)
          (keeps_at name place ts values rows (world_of old) there (fit (world_of old))
          ∙ ap (λ o. keep_rows (rows_where o (in_order order all)) name (world_of old)) some
          ∙ ap (λ (w : World). Raises (area_of ConstraintViolated) w)
          (world_is old new ts tables turns active));
      stays = record { marks = marks; active = active; turns = omega (arith, turns) };
    }

-- the table refuses the rows
pub change_stops : (old new : Content) (name : List ℕ) (place : ℕ) (values : List Row)
    (rows : Vec Row Global) (fault : ApplyFault) (r : Result (Unit {0}) Stop) →
    place_named name old.memory.tables ≡ Some place →
    TellsAnywhere (Ok rows.items) (each (row_for (table_at old.memory.tables place)) values) →
    IsApplied old.memory old.book new.memory new.book place (Insert rows) (Err fault) →
    KeepsMarks old.memory old.book new.memory new.book → new.turns ≡ old.turns →
    new.active ≡ old.active → r ≡ Err (refused_by fault) →
    Ended old new r (store_in (table_named name old.memory.tables) name values (world_of old))
change_stops old new name place values rows (Constraint at) r there fit applied marks turns active
    is =
    subst (λ (q : Result (Unit {0}) Stop). Ended old new q
    (store_in (table_named name old.memory.tables) name values (world_of old))) (sym is)
    (refuses old new name place at values rows.items (Raised (area_of ConstraintViolated)) there fit
    applied.0 applied.2 marks turns active refl)
change_stops old new name place values rows NoMemory r there fit applied marks turns active is =
    subst (λ (q : Result (Unit {0}) Stop). Ended old new q
    (store_in (table_named name old.memory.tables) name values (world_of old))) (sym is)
    record {
      tells = tt;
      stays = record {
        marks = marks;
        active = active;
        turns =
            omega (arith, turns);
      };
    }

-- ---- as the code finds the table

pub place_there : (name : List ℕ) (o : Option ℕ) (there m : Memory) →
    o ≡ place_named name there.tables → there ≡ m → place_named name m.tables ≡ o
place_there name o there m h is = sym (h ∙ ap (λ (x : Memory). place_named name x.tables) is)

pub fit_there : (place : ℕ) (k : Kept) (there m : Memory) (r : Result (List Row) Stop)
    (new : List Row) → k ≡ kept_at there place → there ≡ m →
    TellsAnywhere r (each (row_for k.table) new) →
    TellsAnywhere r (each (row_for (table_at m.tables place)) new)
fit_there place k there m r new h is t =
    subst (λ (x : Table). TellsAnywhere r (each (row_for x) new)) (ap (λ (y : Kept). y.table) h ∙
    ap (λ (x : Memory). table_at x.tables place) is) t
