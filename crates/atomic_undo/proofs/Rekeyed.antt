-- The old rows went out and the new ones in.
use Rattle.std.proofs.Common.{◌++◌, Ordering, false, Bool, ℕ, ◌≡◌, ◌<◌, ◌≤◌, ◌+◌, List, [], ◌∷◌}
use Rattle.std.proofs.Common.{refl, sym, ap, ◌∙◌, subst, arith, length, take, slice_index, Ok, Err}
use Rattle.std.proofs.Common.{Option, Some, None, true}
use Rattle.std.proofs.lemmas.List.{take_all, drop_all}
use Rattle.std.specs.List.{list_all}
use Rattle.row_types.specs.Ordered.{in_order, put_all, first_repeat, first_repeat_after, rises}
use Rattle.row_types.specs.declared.ColumnType.{ColumnType}
use Rattle.row_types.specs.Rows.{Row, by_key, fits}
use Rattle.row_types.specs.Tables.{Table, Tables, table_at, with_rows, with_rows_at}
use Rattle.table_store.specs.Kept.{Kept, IsKept}
use Rattle.table_store.specs.Memory.{Memory, kept_at, with_one_more, NoLess}
use Rattle.row_types.proofs.Laws.{by_key_total}
use Rattle.row_types.proofs.Laws.{in_order-rises, in_order-append, first_repeat-append}
use Rattle.row_types.proofs.Laws.{repeat_none-rises, rises_from_none, all-set}
use Rattle.table_store.proofs.Laws.{kept_rises, length-removed_all}
use Rattle.std.proofs.lemmas.Bool.{and_parts}
use Rattle.atomic_undo.specs.declared.log.Edit.{Edit}
use Rattle.atomic_undo.specs.declared.fault.ApplyFault.{ApplyFault}
use Rattle.atomic_undo.specs.declared.fault.ApplyFault.TheVariants.{Constraint, NoMemory}
use Rattle.atomic_undo.specs.Undo.{undo_entry, rows_before}
use Rattle.std.specs.Cmp.{IsTotalOrder}
use Rattle.atomic_undo.specs.Sorting.{PutAlike}
use Rattle.atomic_undo.specs.Changes.{order_in, rows_in, removed_all, set_all, Climb, Going}
use Rattle.atomic_undo.specs.Changes.{Going_out, WentIn, Refused, NotIn, GoesIn, Unchanged}
use Rattle.atomic_undo.specs.Changes.{IsAnswer, IsJudged}
use Rattle.atomic_undo.proofs.Places.{rows_at-rows_at, rows_at-same, no_less-trans}
use Rattle.atomic_undo.proofs.Steps.{table_after, there_after}
use Rattle.atomic_undo.proofs.Inserting.{back_out, none_yet}
use Rattle.atomic_undo.proofs.Rekeying.{update_order, update_order_back}

module _ (m n q : Memory) (t : ℕ) (l : t < length m.tables) (places : List ℕ) (new : List Row)
    (out es : List Edit) (g : Going_out m n t places [] [] out) where
  now : table_at n.tables t ≡ with_rows (rows_in n.tables t) (table_at m.tables t)
  now = table_after t (rows_in n.tables t) m.tables n.tables g.tables l

  keys : order_in n.tables t ≡ order_in m.tables t
  keys = ap (λ (x : Table). by_key x.key) now

  pub still_fit : list_all (fits (table_at m.tables t).columns (table_at m.tables t).key) new ≡
      true → list_all (fits (table_at n.tables t).columns (table_at n.tables t).key) new ≡ true
  still_fit f = ap (λ (x : Table). list_all (fits x.columns x.key) new) now ∙ f

  pub room_left : IsKept (kept_at m t) → Climb 0 places (length (rows_in m.tables t)) →
      length places ≡ length new → length (rows_in n.tables t) + length new ≤
      slice_index n.capacities t
  room_left k c e =
      let a : length (rows_in n.tables t) ≡ length (removed_all places (rows_in m.tables t)) =
      ap (λ (xs : List Row). length xs) g.rows in
      let b = length-removed_all 0 places (rows_in m.tables t) c in
      let d : slice_index m.capacities t ≤ slice_index n.capacities t = g.capacities t in
      let f = k.memory in
      omega arith

  pub all_rekeyed : Going n q t new (length new) out es → IsKept (kept_at q t) →
      Climb 0 places (length (rows_in m.tables t)) → length places ≡ length new
      → IsAnswer m q t (set_all places new (rows_in m.tables t)) (Ok es)
  all_rekeyed h kq c e =
      let R = order_in m.tables t in
      let o = by_key_total (table_at m.tables t).key in
      let rest = removed_all places (rows_in m.tables t) in
      let last = put_all (order_in n.tables t) (rows_in n.tables t) (take (length new) new) in
      let result = set_all places new (rows_in m.tables t) in
      let up_rest : rises R rest ≡ true =
      ap (rises R) (sym g.rows) ∙ ap (λ r. rises r (rows_in n.tables t)) (sym keys) ∙
      kept_rises (table_at n.tables t).columns (table_at n.tables t).key (rows_in n.tables t)
      g.kept.rows in
      let same : last ≡ put_all R (in_order R rest) new =
      ap (λ r. put_all r (rows_in n.tables t) (take (length new) new)) keys ∙
      ap (put_all R (rows_in n.tables t)) (take_all (length new) new (omega arith))
      ∙ ap (λ (xs : List Row). put_all R xs new) (g.rows ∙ sym (in_order-rises R o rest up_rest)) in
      let at_last : table_at q.tables t ≡ with_rows last (table_at n.tables t) =
      table_after t last n.tables q.tables h.tables g.there in
      let up : rises R last ≡ true =
      ap (λ r. rises r last) (sym keys) ∙ sym
      (ap (λ (x : Table). rises (by_key x.key) x.rows) at_last) ∙
      kept_rises (table_at q.tables t).columns (table_at q.tables t).key (rows_in q.tables t)
      kq.rows in
      let sorted : in_order R result ≡ last = update_order R o places new (rows_in m.tables t) e c
      (ap (rises R) (sym same) ∙ up) ∙ sym same in (
        record {
          tables = h.tables ∙ ap (λ (xs : Tables). with_rows_at t last xs) g.tables ∙
              rows_at-rows_at t (rows_in n.tables t) last m.tables l ∙
              ap (λ (xs : List Row). with_rows_at t xs m.tables) (sym sorted);
          can = h.can;
          back = ap (rows_before es) sorted ∙ h.back ∙ g.back;
          capacities = no_less-trans m.capacities n.capacities q.capacities g.capacities
              h.capacities;
        },
        repeat_none-rises R o [] result (ap (rises R) sorted ∙ up),
      )

  pub rekeyed_back : (i : ℕ) (p : Memory) → Going n q t new i out es →
      p.tables ≡ undo_entry record { table = t; edits = es } q.tables →
      NoLess q.capacities p.capacities → Unchanged m p
  rekeyed_back i p h e c =
      let b = back_out n q t new es i out p g.there h e c in
      record {
        tables = b.0 ∙ ap (λ (xs : List Row). with_rows_at t xs n.tables) g.back ∙
            ap (λ (xs : Tables). with_rows_at t (rows_in m.tables t) xs) g.tables
            ∙ rows_at-rows_at t (rows_in n.tables t) (rows_in m.tables t) m.tables l ∙
            rows_at-same t m.tables;
        capacities = no_less-trans m.capacities n.capacities p.capacities g.capacities b.1;
      }

-- none of the new ones went in
pub none_rekeyed : (m n q : Memory) (t : ℕ) (places : List ℕ) (new : List Row)
    (out es : List Edit) → Going_out m n t places [] [] out → q ≡ n → es ≡ out →
    length (rows_in n.tables t) + length new ≤ slice_index n.capacities t
    → Going n q t new 0 out es
none_rekeyed m n q t places new out es g e f room =
    subst (λ (x : Memory). Going n x t new 0 out es) (sym e)
    (subst (λ (xs : List Edit). Going n n t new 0 out xs) (sym f)
    (none_yet n t new out g.there room g.can))

-- a refusal has a cause in the result
pub refused_for : (m n : Memory) (t : ℕ) → t < length m.tables →
    (places : List ℕ) (new : List Row) (out : List Edit) → Going_out m n t places [] [] out
    → (first_repeat_after (order_in n.tables t) (rows_in n.tables t) new ≡ None → ⊥) →
    Climb 0 places (length (rows_in m.tables t)) → length places ≡ length new
    → first_repeat (order_in m.tables t) (set_all places new (rows_in m.tables t)) ≡ None → ⊥
refused_for m n t l places new out g w c e h =
    let R = order_in m.tables t in
    let o = by_key_total (table_at m.tables t).key in
    let rest = removed_all places (rows_in m.tables t) in
    let result = set_all places new (rows_in m.tables t) in
    let here : table_at n.tables t ≡ with_rows (rows_in n.tables t) (table_at m.tables t) =
    table_after t (rows_in n.tables t) m.tables n.tables g.tables l in
    let same_order : order_in n.tables t ≡ R = ap (λ (x : Table). by_key x.key) here in
    let up : rises R (in_order R result) ≡ true = rises_from_none R o [] result refl h in
    let into : rises R (put_all R (in_order R rest) new) ≡ true =
    ap (rises R) (sym (update_order_back R o places new (rows_in m.tables t) e c up)) ∙ up in
    let none : first_repeat_after R rest new ≡ None = repeat_none-rises R o rest new into in
    let told : first_repeat_after (order_in n.tables t) (rows_in n.tables t) new ≡
    first_repeat_after R rest new =
    ap (λ r. first_repeat_after r (rows_in n.tables t) new) same_order ∙
    ap (λ (xs : List Row). first_repeat_after R xs new) g.rows in
    w (told ∙ none)

pub refused_at : (m p : Memory) (t : ℕ) (k : Kept) (places ps : List ℕ) (new rs : List Row) →
    Unchanged m p → k ≡ kept_at p t → ps ≡ places → rs ≡ new
    → (first_repeat (order_in m.tables t) (set_all places new (rows_in m.tables t)) ≡ None → ⊥) →
    first_repeat (by_key k.table.key) (set_all ps rs k.table.rows) ≡ None → ⊥
refused_at m p t k places ps new rs u e a b f h =
    let at : k.table ≡ table_at m.tables t = ap (λ (x : Kept). x.table) e ∙
    ap (λ (xs : Tables). table_at xs t) u.tables in
    f (sym (ap (λ (x : Table). first_repeat (by_key x.key) (set_all ps rs x.rows)) at
    ∙ ap (λ (xs : List ℕ). first_repeat (order_in m.tables t) (set_all xs rs (rows_in m.tables t)))
    a
    ∙ ap (λ (xs : List Row). first_repeat (order_in m.tables t)
    (set_all places xs (rows_in m.tables t))) b) ∙ h)

pub judged_answer : (m p : Memory) (t : ℕ) (rows : List Row) (f : ApplyFault) → Unchanged m p →
    IsJudged (first_repeat (order_in m.tables t) rows) f → IsAnswer m p t rows (Err f)
judged_answer m p t rows (Constraint at) u j = (u, j)
judged_answer m p t rows NoMemory u j = u

pub went_there : (n q : Memory) (t : ℕ) (new : List Row) (out es : List Edit) (all : Bool) →
    GoesIn n q t new out es all → t < length n.tables → t < length q.tables
went_there n q t new out es true w l = there_after t
    (put_all (order_in n.tables t) (rows_in n.tables t) (take (length new) new)) n.tables q.tables
    (w.0).tables l
went_there n q t new out es false w l =
    there_after t (put_all (order_in n.tables t) (rows_in n.tables t) (take w.stored w.others))
    n.tables q.tables w.going.tables l

-- rows in another order go in as these do
module _ (n q : Memory) (t : ℕ) (xs ys : List Row) (before es : List Edit)
    (k : IsKept (kept_at n t)) (a : PutAlike (order_in n.tables t) (rows_in n.tables t) xs ys)
    (e : length xs ≡ length ys) where
  abbrev R : Row → Row → Ordering
  R = order_in n.tables t

  abbrev rows : List Row
  rows = rows_in n.tables t

  total : IsTotalOrder R
  total = by_key_total (table_at n.tables t).key

  up : rises R rows ≡ true
  up = kept_rises (table_at n.tables t).columns (table_at n.tables t).key rows k.rows

  in_alike : WentIn n q t xs before es None → WentIn n q t ys before es None
  in_alike w =
      let g = w.0 in
      let none : first_repeat R (rows ++ ys) ≡ None = sym a.0 ∙
      first_repeat-append R total rows xs up ∙ w.1 in
      let after : first_repeat_after R rows ys ≡ None =
      sym (first_repeat-append R total rows ys up) ∙ none in
      let same : put_all R rows xs ≡ put_all R rows ys = sym (in_order-append R total rows xs up) ∙
      a.1 none ∙ in_order-append R total rows ys up in
      let whole : put_all R rows (take (length xs) xs) ≡ put_all R rows (take (length ys) ys) =
      ap (put_all R rows) (take_all (length xs) xs (omega arith)) ∙ same ∙
      ap (put_all R rows) (sym (take_all (length ys) ys (omega arith))) in (
        record {
          tables = g.tables ∙ ap (λ (zs : List Row). with_rows_at t zs n.tables) whole;
          can = g.can;
          back = ap (rows_before es) (sym whole) ∙ g.back;
          count = omega arith;
          room = (let r = g.room in let f = ap (λ (zs : List Row). length zs) whole in omega arith);
          judged = after ∙ sym (ap (first_repeat_after R (rows ++ take (length ys) ys))
              (drop_all (length ys) ys (omega arith)));
          capacities = g.capacities;
        },
        after,
      )

  pub alike_in : (r : Option ℕ) → r ≡ None → WentIn n q t xs before es r →
      WentIn n q t ys before es None
  alike_in r f w = in_alike (subst (λ (s : Option ℕ). WentIn n q t xs before es s) f w)

  pub alike_out : (r : Option ℕ) (i : ℕ) → r ≡ Some i → WentIn n q t xs before es r →
      NotIn n q t ys before es
  alike_out r i f w =
      let d : Refused n q t xs i before es = subst (λ (s : Option ℕ). WentIn n q t xs before es s) f
      w in
      record {
        others = xs;
        stored = d.stored;
        going = d.going;
        repeats = λ h.
            let none : first_repeat_after R rows xs ≡ None =
            sym (first_repeat-append R total rows xs up) ∙ a.0 ∙
            first_repeat-append R total rows ys up ∙ h in
            let some = d.judged in
            let both : Some (length rows + i) ≡ None = sym some ∙ none in
            cc;
      }

-- ---- the same, as the code has it

pub out_from : (m n : Memory) (t : ℕ) (places : List ℕ) (before out : List Edit) → before ≡ [] →
    Going_out m n t places [] before out → Going_out m n t places [] [] out
out_from m n t places before out e g = subst (λ (es : List Edit). Going_out m n t places [] es out)
    e g

pub back_from : (m n q p : Memory) (t : ℕ) → t < length m.tables →
    (places : List ℕ) (new : List Row) (before out es fs : List Edit) (i : ℕ) → before ≡ [] →
    Going_out m n t places [] before out
    → Going n q t new i out es → fs ≡ es → p.tables ≡ undo_entry record { table = t; edits = fs }
    q.tables → NoLess q.capacities p.capacities → Unchanged m p
back_from m n q p t l places new before out es fs i e g h f u c =
    rekeyed_back m n q t l places new out es (out_from m n t places before out e g) i p h
    (u ∙ ap (λ (xs : List Edit). undo_entry record { table = t; edits = xs } q.tables) f) c

pub table_back : (m p : Memory) (t : ℕ) (k : Kept) → Unchanged m p → k ≡ kept_at p t →
    k.table ≡ table_at m.tables t
table_back m p t k u e = ap (λ (x : Kept). x.table) e ∙ ap (λ (xs : Tables). table_at xs t) u.tables

pub judged_from : (m p : Memory) (t : ℕ) (k : Kept) (places ps : List ℕ) (new rs : List Row)
    (f : ApplyFault) → Unchanged m p → k ≡ kept_at p t → ps ≡ places → rs ≡ new
    → IsJudged (first_repeat (by_key k.table.key) (set_all ps rs k.table.rows)) f →
    IsAnswer m p t (set_all places new (rows_in m.tables t)) (Err f)
judged_from m p t k places ps new rs f u e a b j =
    judged_answer m p t (set_all places new (rows_in m.tables t)) f u
    (subst (λ (xs : List Row). IsJudged (first_repeat (order_in m.tables t)
    (set_all places xs (rows_in m.tables t))) f) b
    (subst (λ (xs : List ℕ). IsJudged (first_repeat (order_in m.tables t)
    (set_all xs rs (rows_in m.tables t))) f) a
    (subst (λ (x : Table). IsJudged (first_repeat (by_key x.key) (set_all ps rs x.rows)) f)
    (table_back m p t k u e) j)))

pub climb_back : (m p : Memory) (t : ℕ) (k : Kept) (places ps : List ℕ) → Unchanged m p →
    k ≡ kept_at p t → ps ≡ places → Climb 0 places (length (rows_in m.tables t)) →
    Climb 0 ps (length k.table.rows)
climb_back m p t k places ps u e a c =
    subst (λ (x : Table). Climb 0 ps (length x.rows)) (sym (table_back m p t k u e))
    (subst (λ (xs : List ℕ). Climb 0 xs (length (rows_in m.tables t))) (sym a) c)

-- rows in a table of their own
pub found_alone : (m n : Memory) (rows : List Row) (before es : List Edit) (key : List ℕ)
    (r : Option ℕ) → rows_in m.tables 0 ≡ [] → (table_at m.tables 0).key ≡ key →
    WentIn m n 0 rows before es r
    → r ≡ first_repeat (by_key key) rows
found_alone m n rows before es key None e k w =
    sym (ap (λ (x : List ℕ). first_repeat_after (by_key x) [] rows) (sym k) ∙
    ap (λ (xs : List Row). first_repeat_after (order_in m.tables 0) xs rows) (sym e) ∙ w.1)
found_alone m n rows before es key (Some i) e k w =
    let z : length (rows_in m.tables 0) + i ≡ i =
    (let h = ap (λ (xs : List Row). length xs) e in omega arith) in
    sym (ap (λ (x : List ℕ). first_repeat_after (by_key x) [] rows) (sym k) ∙
    ap (λ (xs : List Row). first_repeat_after (order_in m.tables 0) xs rows) (sym e) ∙
    w.judged ∙ ap (λ j. Some j) z)

pub all_set_all : (p : Row → Bool) (ps : List ℕ) (rs rows : List Row) → list_all p rs ≡ true →
    list_all p rows ≡ true → list_all p (set_all ps rs rows) ≡ true
all_set_all p [] rs rows h k = k
all_set_all p (q ∷ qs) [] rows h k = k
all_set_all p (q ∷ qs) (r ∷ rs) rows h k =
    all-set p (set_all qs rs rows) q r ((and_parts (p r) (list_all p rs) h).0)
    (all_set_all p qs rs rows ((and_parts (p r) (list_all p rs) h).1) k)

pub fit_back : (m p : Memory) (t : ℕ) (k : Kept) (new rs : List Row) → Unchanged m p →
    k ≡ kept_at p t → rs ≡ new
    → list_all (fits (table_at m.tables t).columns (table_at m.tables t).key) new ≡ true →
    list_all (fits k.table.columns k.table.key) rs ≡ true
fit_back m p t k new rs u e b f =
    let at : k.table ≡ table_at m.tables t = ap (λ (x : Kept). x.table) e ∙
    ap (λ (xs : Tables). table_at xs t) u.tables in
    ap (λ (x : Table). list_all (fits x.columns x.key) rs) at ∙
    ap (list_all (fits (table_at m.tables t).columns (table_at m.tables t).key)) b ∙ f

pub alone_table : (ts : Tables) (a b : Memory) (name : List ℕ) (k : Kept) (cs cs' : List ColumnType)
    (key key' : List ℕ) → a ≡ record { tables = []; capacities = [] } → b ≡ with_one_more a name k →
    ts ≡ b.tables
    → k.table ≡ record { columns = cs; key = key; rows = [] } → cs ≡ cs' → key ≡ key' →
    table_at ts 0 ≡ record { columns = cs'; key = key'; rows = [] }
alone_table ts a b name k cs cs' key key' ea eb e t c d =
    ap (λ (xs : Tables). table_at xs 0) (e ∙ ap (λ (x : Memory). x.tables) eb ∙
    ap (λ (x : Memory). (with_one_more x name k).tables) ea)
    ∙ t ∙ (λ i. record { columns = c i; key = d i; rows = [] })
