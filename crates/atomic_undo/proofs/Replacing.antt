-- New rows in the places of others with their keys.
use Rattle.std.proofs.Common.{ℕ, suc, zero, ◌≡◌, ◌<◌, ◌≤◌, ◌+◌, true, List, [], ◌∷◌, ◌++◌, refl}
use Rattle.std.proofs.Common.{sym, ap, ◌∙◌, subst, arith, length, slice_index, get_or, set, Ok}
use Rattle.std.proofs.Common.{IsTrue, ◌&&◌, is_eq, Ordering, Less, Equal, Greater, length-set, drop}
use Rattle.std.proofs.Common.{◌≢◌, length-append}
use Rattle.std.proofs.lemmas.List.{get_or-set_other, drop_more, drop_all}
use Rattle.std.specs.List.{list_all}
use Rattle.row_types.specs.Ordered.{in_order, rises}
use Rattle.row_types.specs.Rows.{Row, by_key, fits, well_kept}
use Rattle.row_types.specs.Tables.{Table, Tables, table_at, with_rows, with_rows_at}
use Rattle.table_store.specs.Kept.{IsKept, CanReplace}
use Rattle.table_store.specs.Memory.{Memory, kept_at, NoLess}
use Rattle.std.proofs.lemmas.Bool.{and_parts, and_from}
use Rattle.std.proofs.lemmas.List.Folds.{list_all-append}
use Rattle.row_types.proofs.Laws.{by_key_total}
use Rattle.row_types.proofs.Laws.{in_order-rises, first_repeat-rises, set-back}
use Rattle.table_store.proofs.Laws.{kept_rises, well_kept-set}
use Rattle.atomic_undo.specs.declared.log.Edit.{Edit}
use Rattle.atomic_undo.specs.declared.log.Edit.TheVariants.{Replaced}
use Rattle.atomic_undo.specs.Undo.{rows_before, CanUndo}
use Rattle.atomic_undo.specs.Changes.{order_in, rows_in, set_all, keys_stay, Climb, Replacing}
use Rattle.atomic_undo.specs.Changes.{IsAnswer}
use Rattle.atomic_undo.proofs.Places.{rows_at-rows_at, rows_at-same, no_less-trans}
use Rattle.atomic_undo.proofs.TakingBack.{CanUndo-push, more_undo, rows_before-append}
use Rattle.atomic_undo.proofs.Steps.{table_after, there_after}
use Rattle.table_store.proofs.Laws.{Climb-last, Climb-front, Climb-more}

pub set_all-append : (ps : List ℕ) (rs : List Row) (p : ℕ) (r : Row) (rows : List Row) →
    length ps ≡ length rs → set_all (ps ++ p ∷ []) (rs ++ r ∷ []) rows ≡ set_all ps rs
    (set rows p r)
set_all-append [] [] p r rows e = refl
set_all-append [] (s ∷ ss) p r rows e = absurd (omega arith)
set_all-append (q ∷ qs) [] p r rows e = absurd (omega arith)
set_all-append (q ∷ qs) (s ∷ ss) p r rows e =
    ap (λ (xs : List Row). set xs q s) (set_all-append qs ss p r rows (omega arith))

module _ (R : Row → Row → Ordering) where
  pub stay-front : (ps : List ℕ) (rs : List Row) (p : ℕ) (r : Row) (rows : List Row) →
      length ps ≡ length rs → keys_stay R (ps ++ p ∷ []) (rs ++ r ∷ []) rows ≡ true →
      keys_stay R ps rs rows ≡ true
  stay-front [] [] p r rows e h = refl
  stay-front [] (s ∷ ss) p r rows e h = absurd (omega arith)
  stay-front (q ∷ qs) [] p r rows e h = absurd (omega arith)
  stay-front (q ∷ qs) (s ∷ ss) p r rows e h =
      let a = is_eq (R s (get_or rows q s)) in
      and_from a (keys_stay R qs ss rows)
      ((and_parts a (keys_stay R (qs ++ p ∷ []) (ss ++ r ∷ []) rows) h).0)
      (stay-front qs ss p r rows (omega arith)
      ((and_parts a (keys_stay R (qs ++ p ∷ []) (ss ++ r ∷ []) rows) h).1))

  is_equal : (o : Ordering) → is_eq o ≡ true → o ≡ Equal
  is_equal Less h = cc
  is_equal Equal h = refl
  is_equal Greater h = cc

  pub stay-last : (ps : List ℕ) (rs : List Row) (p : ℕ) (r : Row) (rows : List Row) →
      length ps ≡ length rs → keys_stay R (ps ++ p ∷ []) (rs ++ r ∷ []) rows ≡ true →
      R r (get_or rows p r) ≡ Equal
  stay-last [] [] p r rows e h = is_equal (R r (get_or rows p r))
      ((and_parts (is_eq (R r (get_or rows p r))) true h).0)
  stay-last [] (s ∷ ss) p r rows e h = absurd (omega arith)
  stay-last (q ∷ qs) [] p r rows e h = absurd (omega arith)
  stay-last (q ∷ qs) (s ∷ ss) p r rows e h =
      stay-last qs ss p r rows (omega arith) ((and_parts (is_eq (R s (get_or rows q s)))
      (keys_stay R (qs ++ p ∷ []) (ss ++ r ∷ []) rows) h).1)

  -- a row after all the places doesn't matter
  pub stay-set : (low : ℕ) (ps : List ℕ) (rs rows : List Row) (at : ℕ) (row : Row) →
      Climb low ps at → keys_stay R ps rs (set rows at row) ≡ keys_stay R ps rs rows
  stay-set low [] rs rows at row h = refl
  stay-set low (p ∷ ps) [] rows at row h = refl
  stay-set low (p ∷ ps) (r ∷ rs) rows at row h =
      let l : p < at = h.1 in
      let ne : p ≢ at = omega arith in
      ap (λ x. is_eq (R r x) && keys_stay R ps rs (set rows at row))
      (get_or-set_other rows at p row r ne) ∙
      ap (λ b. is_eq (R r (get_or rows p r)) && b) (stay-set (suc p) ps rs rows at row h.2)

  -- one step of the test
  pub stay_step : (ps : List ℕ) (rs rows : List Row) (i : ℕ) (r : Row) → i < length rs →
      length ps ≡ length rs → r ≡ get_or rs i r → is_eq (R r (get_or rows (get_or ps i 0) r)) ≡ true
      → keys_stay R (drop i ps) (drop i rs) rows ≡ keys_stay R (drop (i + 1) ps) (drop (i + 1) rs)
      rows
  stay_step ps rs rows i r l e g h =
      let k : i < length ps = omega arith in
      ap (λ (xs : List ℕ). keys_stay R xs (drop i rs) rows) (drop_more ps i 0 k)
      ∙ ap (λ (xs : List Row). keys_stay R (get_or ps i 0 ∷ drop (i + 1) ps) xs rows)
      (drop_more rs i r l ∙ ap (λ (x : Row). x ∷ drop (i + 1) rs) (sym g))
      ∙ ap (λ b. b && keys_stay R (drop (i + 1) ps) (drop (i + 1) rs) rows) h

  pub stay_end : (ps : List ℕ) (rs rows : List Row) (i : ℕ) → length rs ≤ i →
      length ps ≡ length rs → keys_stay R (drop i ps) (drop i rs) rows ≡ true
  stay_end ps rs rows i l e = ap (λ (xs : List ℕ). keys_stay R xs (drop i rs) rows)
      (drop_all i ps (omega arith))

pub Climb_at : (low : ℕ) (ps : List ℕ) (high i : ℕ) → Climb low ps high → i < length ps →
    get_or ps i 0 < high
Climb_at low [] high i h l = absurd (omega arith)
Climb_at low (p ∷ ps) high zero h l = h.1
Climb_at low (p ∷ ps) high (suc i) h l = Climb_at (suc p) ps high i h.2 (omega arith)

pub last_both : (ps qs : List ℕ) (rs ss : List Row) (p : ℕ) (r : Row) → length ps ≡ length rs →
    ps ≡ qs ++ p ∷ [] → rs ≡ ss ++ r ∷ [] → length qs ≡ length ss
last_both ps qs rs ss p r e h k =
    let a : length ps ≡ length (qs ++ p ∷ []) = ap (λ (xs : List ℕ). length xs) h in
    let b : length rs ≡ length (ss ++ r ∷ []) = ap (λ (xs : List Row). length xs) k in
    omega (arith, length-append qs (p ∷ []), length-append ss (r ∷ []))

module _ (m : Memory) (t : ℕ) (l0 : t < length m.tables) (places : List ℕ) (new : List Row) where
  pub none_replaced : Climb 0 places (length (rows_in m.tables t)) → length places ≡ length new →
      keys_stay (order_in m.tables t) places new (rows_in m.tables t) ≡ true
      → list_all (fits (table_at m.tables t).columns (table_at m.tables t).key) new ≡ true →
      IsKept (kept_at m t) → Replacing m m t places new places new []
  none_replaced p b s f k = record {
    tables = sym (rows_at-same t m.tables);
    there = l0;
    rows = refl;
    can = tt;
    back = refl;
    climb = p;
    both = b;
    same = s;
    fit = f;
    kept = k;
    capacities = λ at. omega arith;
  }

  module _ (n : Memory) (ps qs : List ℕ) (rs ss : List Row) (es : List Edit) (at : ℕ) (row : Row)
      (g : Replacing m n t places new ps rs es) (h : ps ≡ qs ++ at ∷ []) (k : rs ≡ ss ++ row ∷ [])
    where
      pub place_of_last : at < length (rows_in n.tables t)
      place_of_last = Climb-last 0 qs at (length (rows_in n.tables t))
          (subst (λ (xs : List ℕ). Climb 0 xs (length (rows_in n.tables t))) h g.climb)

      stay : keys_stay (order_in n.tables t) (qs ++ at ∷ []) (ss ++ row ∷ []) (rows_in n.tables t) ≡
          true
      stay = ap (λ (xs : List ℕ). keys_stay (order_in n.tables t) xs (ss ++ row ∷ [])
          (rows_in n.tables t)) (sym h) ∙ ap (λ (xs : List Row). keys_stay (order_in n.tables t) ps xs
          (rows_in n.tables t)) (sym k) ∙ g.same

      fit_parts : (list_all (fits (table_at n.tables t).columns (table_at n.tables t).key) ss &&
          list_all (fits (table_at n.tables t).columns (table_at n.tables t).key) (row ∷ [])) ≡ true
      fit_parts =
          let p = fits (table_at n.tables t).columns (table_at n.tables t).key in
          sym (list_all-append p ss (row ∷ [])) ∙ ap (list_all p) (sym k) ∙ g.fit

      fits_row : fits (table_at n.tables t).columns (table_at n.tables t).key row ≡ true
      fits_row =
          let p = fits (table_at n.tables t).columns (table_at n.tables t).key in
          (and_parts (p row) true ((and_parts (list_all p ss) (list_all p (row ∷ [])) fit_parts).1)).0

      well : well_kept (table_at n.tables t).columns (table_at n.tables t).key
          (set (rows_in n.tables t) at row) ≡ true
      well =
          well_kept-set (table_at n.tables t).columns (table_at n.tables t).key (rows_in n.tables t)
          row at place_of_last g.kept.rows fits_row
          (stay-last (order_in n.tables t) qs ss at row (rows_in n.tables t)
          (last_both ps qs rs ss at row g.both h k) stay)

      pub may_replace : CanReplace (kept_at n t) at row
      may_replace = record { place = place_of_last; kept = well }

      pub replaced_one : (n' : Memory) (old : Row) → old ≡ get_or (rows_in n.tables t) at old →
          n'.tables ≡ with_rows_at t (set (rows_in n.tables t) at row) n.tables →
          NoLess n.capacities n'.capacities
          → Replacing m n' t places new qs ss (es ++ Replaced at old ∷ [])
      replaced_one n' old r e c =
          let rows = rows_in n.tables t in
          let next = set (rows_in n.tables t) at row in
          let old_table = table_at n.tables t in
          let now : table_at n'.tables t ≡ with_rows next old_table =
          table_after t next n.tables n'.tables e g.there in
          let more : slice_index n.capacities t ≤ slice_index n'.capacities t = c t in
          let again : set next at old ≡ rows = set-back rows at old row r in
          let climb = subst (λ (xs : List ℕ). Climb 0 xs (length rows)) h g.climb in
          let front = Climb-front 0 qs at (length rows) climb in
          let l = place_of_last in
          let same_length : length next ≡ length rows = length-set rows at row in
          let even = last_both ps qs rs ss at row g.both h k in
          let memory = g.kept.memory in
          record {
            tables = e ∙ ap (λ (xs : Tables). with_rows_at t next xs) g.tables ∙
                rows_at-rows_at t rows next m.tables l0
                ∙ ap (λ (x : Table). with_rows_at t x.rows m.tables) (sym now);
            there = there_after t next n.tables n'.tables e g.there;
            rows = ap (λ (x : Table). set_all qs ss x.rows) now ∙
                sym (set_all-append qs ss at row rows even)
                ∙ ap (λ (xs : List ℕ). set_all xs (ss ++ row ∷ []) rows) (sym h) ∙
                ap (λ (xs : List Row). set_all ps xs rows) (sym k) ∙ g.rows;
            can = subst (λ (x : Table). CanUndo record {
              table = x;
              capacity =
                  slice_index n'.capacities t;
            } (es ++ Replaced at old ∷ [])) (sym now)
                (CanUndo-push record {
                  table = with_rows next old_table;
                  capacity =
                      slice_index n'.capacities t;
                } es (Replaced at old)
                (subst (λ (xs : List Row). CanUndo record {
                  table = with_rows xs old_table;
                  capacity =
                      slice_index n'.capacities t;
                } es) (sym again)
                (more_undo old_table (slice_index n.capacities t) (slice_index n'.capacities t) es
                more g.can))
                record {
                  place = omega arith;
                  kept = subst (λ (xs : List Row).
                      IsTrue (well_kept old_table.columns old_table.key xs)) (sym again) g.kept.rows;
                });
            back = ap (λ (x : Table). rows_before (es ++ Replaced at old ∷ []) x.rows) now ∙
                rows_before-append es (Replaced at old ∷ []) next ∙ ap (rows_before es) again ∙
                g.back;
            climb = subst (λ (x : Table). Climb 0 qs (length x.rows)) (sym now)
                (Climb-more 0 qs at (length next) (omega arith) front);
            both = even;
            same = ap (λ (x : Table). keys_stay (by_key x.key) qs ss x.rows) now ∙
                stay-set (order_in n.tables t) 0 qs ss rows at row front
                ∙ stay-front (order_in n.tables t) qs ss at row rows even stay;
            fit = ap (λ (x : Table). list_all (fits x.columns x.key) ss) now ∙
                (and_parts (list_all (fits old_table.columns old_table.key) ss)
                (list_all (fits old_table.columns old_table.key) (row ∷ [])) fit_parts).0;
            kept = subst (λ (x : Table). IsKept record {
              table = x;
              capacity =
                  slice_index n'.capacities t;
            }) (sym now) record { memory = omega arith; rows = well };
            capacities = no_less-trans m.capacities n.capacities n'.capacities g.capacities c;
          }

  pub all_replaced : (n : Memory) (es : List Edit) → Replacing m n t places new [] [] es →
      IsAnswer m n t (set_all places new (rows_in m.tables t)) (Ok es)
  all_replaced n es g =
      let left = set_all places new (rows_in m.tables t) in
      let now : table_at n.tables t ≡ with_rows (rows_in n.tables t) (table_at m.tables t) =
      table_after t (rows_in n.tables t) m.tables n.tables g.tables l0 in
      let o = by_key_total (table_at m.tables t).key in
      let keys : (table_at n.tables t).key ≡ (table_at m.tables t).key =
      ap (λ (x : Table). x.key) now in
      let up : rises (order_in m.tables t) left ≡ true =
      ap (rises (order_in m.tables t)) (sym g.rows) ∙
      ap (λ (k : List ℕ). rises (by_key k) (rows_in n.tables t)) (sym keys) ∙
      kept_rises (table_at n.tables t).columns (table_at n.tables t).key (rows_in n.tables t)
      g.kept.rows in
      let sorted : in_order (order_in m.tables t) left ≡ left =
      in_order-rises (order_in m.tables t) o left up in (
        record {
          tables = g.tables ∙ ap (λ (xs : List Row). with_rows_at t xs m.tables)
              (g.rows ∙ sym sorted);
          can = g.can;
          back = ap (rows_before es) (sorted ∙ sym g.rows) ∙ g.back;
          capacities = g.capacities;
        },
        first_repeat-rises (order_in m.tables t) o left up,
      )
