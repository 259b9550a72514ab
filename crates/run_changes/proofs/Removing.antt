-- Rows that go out of a table, one after another.
use Rattle.std.proofs.Common.{ℕ, zero, suc, ◌≡◌, ◌<◌, ◌≤◌, true, List, [], ◌∷◌, ◌++◌, length}
use Rattle.std.proofs.Common.{drop, Some, Result, Ok, refl, sym, ap, ◌∙◌, subst, arith}
use Rattle.std.specs.declared.vec.Vec.{Vec}
use Rattle.std.specs.declared.alloc.Global.{Global}
use Rattle.std.specs.List.{remove}
use Rattle.std.proofs.lemmas.List.{drop_all, take_all, append-nil}
use Rattle.row_types.specs.Ordered.{rises}
use Rattle.row_types.specs.Rows.{Row, by_key}
use Rattle.row_types.specs.Tables.{Table, Tables, table_at, with_table, with_rows, with_rows_at}
use Rattle.row_types.specs.Writing.{rows_where}
use Rattle.row_types.proofs.Laws.{by_key_total, in_order-rises, first_repeat-rises}
use Rattle.row_types.proofs.Laws.{table_at-with_table}
use Rattle.table_store.specs.Memory.{AllWellKept}
use Rattle.table_store.proofs.Laws.{kept_rises, kept_rows_at, removed_all-append}
use Rattle.atomic_undo.specs.declared.changes.Changes.TheVariants.{Delete}
use Rattle.atomic_undo.specs.Changes.{removed_all}
use Rattle.rel_algebra.specs.World.{World, Ends, Gives, Eval, after, with_tables}
use Rattle.data_change.proofs.Laws.{removed_all-rises}
use Rattle.run_choices.specs.declared.stop.Stop.{Stop}
use Rattle.run_expressions.specs.Content.{Content, world_of}
use Rattle.run_expressions.specs.Ending.{Ended}
use Rattle.run_expressions.proofs.Laws.{Going, goes_on, gives, stays_same}
use Rattle.run_changes.specs.Making.{keep_at, rows_after}

-- ---- tables that are given rows

given_twice : (at : ℕ) (x y : Table) (ts : Tables) →
    with_table at y (with_table at x ts) ≡ with_table at y ts
given_twice at x y [] = refl
given_twice zero x y (s ∷ ss) = refl
given_twice (suc at) x y (s ∷ ss) = ap (λ (us : Tables). s ∷ us) (given_twice at x y ss)

given_its_own : (at : ℕ) (ts : Tables) → with_table at (table_at ts at) ts ≡ ts
given_its_own at [] = refl
given_its_own zero (s ∷ ss) = refl
given_its_own (suc at) (s ∷ ss) = ap (λ (us : Tables). s ∷ us) (given_its_own at ss)

as_many : (at : ℕ) (x : Table) (ts : Tables) → length (with_table at x ts) ≡ length ts
as_many at x [] = refl
as_many zero x (s ∷ ss) = refl
as_many (suc at) x (s ∷ ss) = ap suc (as_many at x ss)

-- the rows of the table at a place
abbrev pub rows_in : ℕ → Tables → List Row
rows_in at ts = (table_at ts at).rows

-- rows at places leave the table at a place
abbrev pub takes_out : ℕ → List ℕ → Eval (Unit {0})
takes_out place places w = keep_at place (Some (removed_all places (rows_in place w.tables))) w

-- ---- in one pass

-- rows that are left stand in key order
left_in_order : (t : Table) (places : Vec ℕ Global) → rises (by_key t.key) t.rows ≡ true →
    rows_after t (Delete places) ≡ Some (removed_all places.items t.rows)
left_in_order t places up =
    let R = by_key t.key in
    let o = by_key_total t.key in
    let left = removed_all places.items t.rows in
    let h = removed_all-rises t.key places.items t.rows up in
    λ i. rows_where (first_repeat-rises R o left h i) (in_order-rises R o left h i)

pub taken_out : (old new : Content) (place : ℕ) (places : Vec ℕ Global)
    (r : Result (Unit {0}) Stop) → AllWellKept old.memory.tables →
    Ended old new r (keep_at place (rows_after (table_at old.memory.tables place) (Delete places))
    (world_of old)) → Ended old new r (takes_out place places.items (world_of old))
taken_out old new place places r kept ended =
    let t = table_at old.memory.tables place in
    subst (λ (e : Ends (Unit {0})). Ended old new r e)
    (ap (λ o. keep_at place o (world_of old)) (left_in_order t places
    (kept_rises t.columns t.key t.rows (kept_rows_at old.memory.tables place kept))))
    ended

-- ---- each by itself

-- past the end none goes
pub none_taken_out : (old : Content) (place at : ℕ) →
    length (rows_in place old.memory.tables) ≤ at →
    Ended old old (Ok tt) (takes_out place (at ∷ []) (world_of old))
none_taken_out old place at past =
    let ts = old.memory.tables in
    let rows = rows_in place ts in
    let stay : remove rows at ≡ rows =
    ap (λ (xs : List Row). xs ++ drop (suc at) rows) (take_all at rows past)
    ∙ ap (λ (xs : List Row). rows ++ xs) (drop_all (suc at) rows (omega arith))
    ∙ append-nil rows in
    record {
      tells = ap (λ (xs : List Row). keep_at place (Some xs) (world_of old)) stay
          ∙ ap (λ (us : Tables). Gives tt (with_tables (world_of old) us)) (given_its_own place ts);
      stays = stays_same old;
    }

-- the last goes first, and then the others
last_first : (place at : ℕ) (places : List ℕ) (w : World) → place < length w.tables →
    takes_out place (places ++ at ∷ []) w ≡ after (takes_out place (at ∷ []) w)
    (λ done. takes_out place places)
last_first place at places w there =
    let t = table_at w.tables place in
    let rows = remove t.rows at in
    let left = removed_all places rows in
    ap (λ (xs : List Row). keep_at place (Some xs) w) (removed_all-append places (at ∷ []) t.rows)
    ∙ ap (λ (us : Tables). Gives tt (with_tables w us))
    (sym (ap (λ (x : Table). with_table place (with_rows (removed_all places x.rows) x)
    (with_rows_at place rows w.tables))
    (table_at-with_table place (with_rows rows t) w.tables there)
    ∙ given_twice place (with_rows rows t) (with_rows left t) w.tables))

same_world : (w v : World) (e f : Ends (Unit {0})) → e ≡ Gives tt w → f ≡ Gives tt v → e ≡ f →
    w ≡ v
same_world w v e f g h k = cc

module _ (old now new : Content) (place at : ℕ) (places ps : List ℕ) (whole : Ends (Unit {0}))
    (there : place < length now.memory.tables) (is : places ≡ ps ++ at ∷ [])
    (g : Going old now (takes_out place places (world_of now)) whole) where
  by_last : takes_out place places (world_of now) ≡ after (takes_out place (at ∷ []) (world_of now))
      (λ done. takes_out place ps)
  by_last = ap (λ (xs : List ℕ). takes_out place xs (world_of now)) is ∙
      last_first place at ps (world_of now) there

  pub one_out : Ended now new (Ok tt) (takes_out place (at ∷ []) (world_of now)) →
      Going old new (takes_out place ps (world_of new)) whole
  one_out d = goes_on old now new tt (takes_out place (at ∷ []) (world_of now))
      (λ done. takes_out place ps) (takes_out place places (world_of now)) whole by_last g d

  pub still_there : Ended now new (Ok tt) (takes_out place (at ∷ []) (world_of now)) →
      place < length new.memory.tables
  still_there d =
      let ts = now.memory.tables in
      let t = table_at ts place in
      let e = same_world (with_tables (world_of now) (with_rows_at place (remove t.rows at) ts))
      (world_of new) (takes_out place (at ∷ []) (world_of now)) (Gives tt (world_of new)) refl refl
      d.tells in
      let same : with_rows_at place (remove t.rows at) ts ≡ new.memory.tables =
      ap (λ (w : World). w.tables) e in
      subst (λ (us : Tables). place < length us) same
      (let n = as_many place (with_rows (remove t.rows at) t) ts in omega arith)

-- none is left
pub all_out : (old now : Content) (place : ℕ) (places : List ℕ) (r : Result (Unit {0}) Stop)
    (whole : Ends (Unit {0})) → places ≡ [] →
    Going old now (takes_out place places (world_of now)) whole → r ≡ Ok tt →
    Ended old now r whole
all_out old now place places r whole none g same =
    gives old now tt r (takes_out place places (world_of now)) whole g
    (ap (λ (xs : List ℕ). takes_out place xs (world_of now)) none
    ∙ ap (λ (us : Tables). Gives tt (with_tables (world_of now) us))
    (given_its_own place now.memory.tables)) same
