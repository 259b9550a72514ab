-- Rows that go out, the last first.
use Rattle.std.proofs.Common.{ℕ, ◌≡◌, ◌<◌, ◌≤◌, ◌+◌, List, [], ◌∷◌, ◌++◌, refl, sym, ap, ◌∙◌, subst}
use Rattle.std.proofs.Common.{arith, length, slice_index, get_or, insert, remove, Ok, IsTrue, true}
use Rattle.std.proofs.lemmas.List.{length-map}
use Rattle.std.proofs.lemmas.List.Edits.{length-remove}
use Rattle.row_types.specs.Ordered.{in_order, rises}
use Rattle.row_types.specs.Rows.{Row, by_key, well_kept}
use Rattle.row_types.specs.Tables.{Table, Tables, table_at, with_rows, with_rows_at}
use Rattle.table_store.specs.declared.placed_row.PlacedRow.{PlacedRow}
use Rattle.table_store.specs.Places.{all_placed_at, places_of, inserted_all}
use Rattle.table_store.specs.Kept.{Kept, IsKept, CanInsertAll, holding}
use Rattle.table_store.specs.Memory.{Memory, kept_at, NoLess}
use Rattle.row_types.proofs.Laws.{by_key_total}
use Rattle.row_types.proofs.Laws.{in_order-rises, first_repeat-rises, insert-remove}
use Rattle.table_store.proofs.Laws.{kept_rises, well_kept-remove, well_kept-removed_all, Climb-last}
use Rattle.table_store.proofs.Laws.{Climb-front, Climb-more, removed_all-append, inserted-removed}
use Rattle.table_store.proofs.Laws.{places_of-placed, length-removed_all}
use Rattle.atomic_undo.specs.declared.log.Edit.{Edit}
use Rattle.atomic_undo.specs.declared.log.Edit.TheVariants.{Removed, RemovedAll}
use Rattle.atomic_undo.specs.Undo.{rows_before, CanUndo}
use Rattle.atomic_undo.specs.Changes.{order_in, rows_in, removed_all, Climb, Going_out, IsAnswer}
use Rattle.atomic_undo.proofs.Places.{rows_at-rows_at, rows_at-same, no_less-trans}
use Rattle.atomic_undo.proofs.TakingBack.{CanUndo-push, more_undo, rows_before-append}
use Rattle.atomic_undo.proofs.Steps.{table_after, there_after}

module _ (m : Memory) (t : ℕ) (l0 : t < length m.tables) (places : List ℕ) (before : List Edit)
  where
    pub none_out : Climb 0 places (length (rows_in m.tables t)) → CanUndo (kept_at m t) before →
        IsKept (kept_at m t) → Going_out m m t places places before before
    none_out p c k = record {
      tables = sym (rows_at-same t m.tables);
      there = l0;
      rows = refl;
      can = c;
      back = refl;
      climb = p;
      kept = k;
      capacities = λ at. omega arith;
    }

    pub place_in : (n : Memory) (left rest : List ℕ) (es : List Edit) (at : ℕ) →
        Going_out m n t places left before es → left ≡ rest ++ at ∷ [] →
        at < length (rows_in n.tables t)
    place_in n left rest es at g h = Climb-last 0 rest at (length (rows_in n.tables t))
        (subst (λ (ps : List ℕ). Climb 0 ps (length (rows_in n.tables t))) h g.climb)

    pub went_out : (n n' : Memory) (left rest : List ℕ) (es : List Edit) (at : ℕ) (row : Row) →
        Going_out m n t places left before es → left ≡ rest ++ at ∷ []
        → row ≡ get_or (rows_in n.tables t) at row →
        n'.tables ≡ with_rows_at t (remove (rows_in n.tables t) at) n.tables →
        NoLess n.capacities n'.capacities
        → Going_out m n' t places rest before (es ++ Removed at row ∷ [])
    went_out n n' left rest es at row g h r e c =
        let rows = rows_in n.tables t in
        let fewer = remove (rows_in n.tables t) at in
        let l = place_in n left rest es at g h in
        let now : table_at n'.tables t ≡ with_rows fewer (table_at n.tables t) =
        table_after t fewer n.tables n'.tables e g.there in
        let short : length fewer + 1 ≡ length rows = length-remove rows at l in
        let more : slice_index n.capacities t ≤ slice_index n'.capacities t = c t in
        let again : insert fewer at row ≡ rows = insert-remove rows at row l r in
        let climb = subst (λ (ps : List ℕ). Climb 0 ps (length rows)) h g.climb in
        let memory = g.kept.memory in
        let well = well_kept-remove (table_at n.tables t).columns (table_at n.tables t).key rows at
        g.kept.rows in
        record {
          tables = e ∙ ap (λ (xs : Tables). with_rows_at t fewer xs) g.tables ∙
              rows_at-rows_at t rows fewer m.tables l0
              ∙ ap (λ (x : Table). with_rows_at t x.rows m.tables) (sym now);
          there = there_after t fewer n.tables n'.tables e g.there;
          rows = ap (λ (x : Table). removed_all rest x.rows) now ∙
              sym (removed_all-append rest (at ∷ []) rows) ∙
              ap (λ (ps : List ℕ). removed_all ps rows) (sym h) ∙ g.rows;
          can = subst (λ (x : Table). CanUndo record {
            table = x;
            capacity =
                slice_index n'.capacities t;
          } (es ++ Removed at row ∷ [])) (sym now)
              (CanUndo-push record {
                table = with_rows fewer (table_at n.tables t);
                capacity =
                    slice_index n'.capacities t;
              } es (Removed at row)
              (subst (λ (xs : List Row). CanUndo record {
                table = with_rows xs (table_at n.tables t);
                capacity = slice_index n'.capacities t;
              } es) (sym again)
              (more_undo (table_at n.tables t) (slice_index n.capacities t)
              (slice_index n'.capacities t) es more g.can))
              record {
                place = omega arith;
                room = omega arith;
                kept = subst (λ (xs : List Row).
                    IsTrue (well_kept (table_at n.tables t).columns (table_at n.tables t).key xs))
                    (sym again) g.kept.rows;
              });
          back = ap (λ (x : Table). rows_before (es ++ Removed at row ∷ []) x.rows) now ∙
              rows_before-append es (Removed at row ∷ []) fewer ∙ ap (rows_before es) again ∙ g.back;
          climb = subst (λ (x : Table). Climb 0 rest (length x.rows)) (sym now)
              (Climb-more 0 rest at (length fewer) (omega arith)
              (Climb-front 0 rest at (length rows) climb));
          kept = subst (λ (x : Table). IsKept record {
            table = x;
            capacity =
                slice_index n'.capacities t;
          }) (sym now) record { memory = omega arith; rows = well };
          capacities = no_less-trans m.capacities n.capacities n'.capacities g.capacities c;
        }

    -- all in one pass
    pub went_at_once : (n : Memory) (removed : List PlacedRow) (es : List Edit) →
        Climb 0 places (length (rows_in m.tables t)) → CanUndo (kept_at m t) before →
        IsKept (kept_at m t)
        → removed ≡ all_placed_at places (rows_in m.tables t) →
        n.tables ≡ with_rows_at t (removed_all places (rows_in m.tables t)) m.tables →
        NoLess m.capacities n.capacities → es ≡ before ++ RemovedAll removed ∷ []
        → Going_out m n t places [] before es
    went_at_once n removed es p can k r e c is =
        let rows = rows_in m.tables t in
        let old = table_at m.tables t in
        let fewer = removed_all places rows in
        let capacity = slice_index n.capacities t in
        let now : table_at n.tables t ≡ with_rows fewer old =
        table_after t fewer m.tables n.tables e l0 in
        let more : slice_index m.capacities t ≤ capacity = c t in
        let short : length fewer + length places ≡ length rows = length-removed_all 0 places rows p in
        let memory = k.memory in
        let well = well_kept-removed_all old.columns old.key places rows k.rows in
        let again : inserted_all removed fewer ≡ rows =
        ap (λ (qs : List PlacedRow). inserted_all qs fewer) r ∙
        inserted-removed 0 places rows p in
        let same : places_of removed ≡ places = ap places_of r ∙ places_of-placed places rows in
        let many : length removed ≡ length places =
        sym (length-map removed (λ (q : PlacedRow). q.at)) ∙
        ap (λ (ps : List ℕ). length ps) same in
        let high : length rows ≡ length fewer + length removed = omega arith in
        let after : Kept = record { table = with_rows fewer old; capacity = capacity } in
        let brings : CanInsertAll after removed = record {
          climb = subst (λ (ps : List ℕ). Climb 0 ps (length fewer + length removed)) (sym same)
              (subst (λ i. Climb 0 places i) high p);
          room = omega arith;
          kept = subst (λ (xs : List Row). IsTrue (well_kept old.columns old.key xs))
              (sym again) k.rows;
        } in
        let first : CanUndo (holding (inserted_all removed fewer) after) before =
        subst (λ (xs : List Row). CanUndo record { table = with_rows xs old; capacity = capacity }
        before) (sym again) (more_undo old (slice_index m.capacities t) capacity before more can)
        in
        record {
          tables = e ∙ ap (λ (x : Table). with_rows_at t x.rows m.tables) (sym now);
          there = there_after t fewer m.tables n.tables e l0;
          rows = ap (λ (x : Table). x.rows) now;
          can = subst (λ (x : Table). CanUndo record { table = x; capacity = capacity } es) (sym now)
              (subst (λ (fs : List Edit). CanUndo after fs) (sym is)
              (CanUndo-push after before (RemovedAll removed) first brings));
          back = ap (λ (x : Table). rows_before es x.rows) now ∙
              ap (λ (fs : List Edit). rows_before fs fewer) is ∙
              rows_before-append before (RemovedAll removed ∷ []) fewer ∙
              ap (rows_before before) again;
          climb = tt;
          kept = subst (λ (x : Table). IsKept record { table = x; capacity = capacity })
              (sym now) record { memory = omega arith; rows = well };
          capacities = c;
        }

    pub all_out : (n : Memory) (es : List Edit) → before ≡ [] → Going_out m n t places [] before es →
        IsAnswer m n t (removed_all places (rows_in m.tables t)) (Ok es)
    all_out n es b g =
        let left = removed_all places (rows_in m.tables t) in
        let now : table_at n.tables t ≡ with_rows (rows_in n.tables t) (table_at m.tables t) =
        table_after t (rows_in n.tables t) m.tables n.tables g.tables l0 in
        let o = by_key_total (table_at m.tables t).key in
        let keys : (table_at n.tables t).key ≡ (table_at m.tables t).key =
        ap (λ (x : Table). x.key) now in
        let up : rises (order_in m.tables t) left ≡ true =
        ap (rises (order_in m.tables t)) (sym g.rows) ∙
        ap (λ (k : List ℕ). rises (by_key k) (rows_in n.tables t)) (sym keys) ∙
        kept_rises (table_at n.tables t).columns (table_at n.tables t).key (rows_in n.tables t)
        g.kept.rows in
        let sorted : in_order (order_in m.tables t) left ≡ left =
        in_order-rises (order_in m.tables t) o left up in (
          record {
            tables = g.tables ∙ ap (λ (xs : List Row). with_rows_at t xs m.tables)
                (g.rows ∙ sym sorted);
            can = g.can;
            back = ap (rows_before es) (sorted ∙ sym g.rows) ∙ g.back ∙
                ap (λ (xs : List Edit). rows_before xs (rows_in m.tables t)) b;
            capacities = g.capacities;
          },
          first_repeat-rises (order_in m.tables t) o left up,
        )
