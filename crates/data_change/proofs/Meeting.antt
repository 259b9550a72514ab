-- The rows that a query over a table gives, one after the other.
use Rattle.std.proofs.Common.{ℕ, zero, suc, ◌≡◌, ◌<◌, ◌+◌, Bool, true, false, cond, List, [], ◌∷◌}
use Rattle.std.proofs.Common.{◌++◌, length, get_or, drop, refl, sym, ap, ◌∙◌, subst, arith, Option}
use Rattle.std.proofs.Common.{Some, None, append_assoc, length-append}
use Rattle.std.specs.List.{list_all}
use Rattle.std.specs.Str.{bytes_eq}
use Rattle.std.proofs.Math.Seq.{drop-cons}
use Rattle.std.proofs.lemmas.Bool.{and_parts}
use Rattle.std.proofs.lemmas.List.{drop_all}
use Rattle.sql_values.specs.declared.value.Value.TheVariants.{Null}
use Rattle.row_types.specs.Rows.{Row, fits, well_kept}
use Rattle.row_types.specs.Tables.{Table, Tables, table_named, rows_of}
use Rattle.table_store.specs.Memory.{AllWellKept}
use Rattle.table_store.proofs.Laws.{kept_fits}
use Rattle.atomic_undo.specs.Changes.{Climb}
use Rattle.rel_algebra.specs.Tree.{Exprs, Query}
use Rattle.rel_algebra.specs.World.{World, Ends, Gives, Raises, RunsOut, Eval, after, give}
use Rattle.rel_algebra.specs.World.{with_front, each_kept, kept, Frame, no_self, no_frame}
use Rattle.rel_algebra.specs.Meaning.{ev_all, holds, record_of, answer}
use Rattle.data_change.specs.Writing.{place_in, places_in}
use Rattle.data_change.specs.Met.{columns_then, MetRowsInOrder}
use Rattle.data_change.proofs.Places.{length-fits, place_of_row}

-- ---- what gives in the end gave before

pub record Gave {A B : Type 0} (e : Ends A) (go : A → Eval B) (b : B) (w : World) : Type 0 where
  pub first : A
  pub between : World
  pub gives : e ≡ Gives first between
  pub goes : go first between ≡ Gives b w

gave : {A B : Type 0} (e : Ends A) (go : A → Eval B) (b : B) (w : World) → after e go ≡ Gives b w →
    Gave e go b w
gave (Gives a u) go b w h = record { first = a; between = u; gives = refl; goes = h }
gave (Raises area u) go b w h = cc
gave (RunsOut u) go b w h = cc

same_gift : {A : Type 0} (a b : A) (u w : World) → Gives a u ≡ Gives b w → a ≡ b
same_gift a b u w h = cc

-- ---- a row with values after it

abbrev pub Begins : Row → Row → Type 0
Begins front all = (vs : Row) × (all ≡ front ++ vs)

-- so many columns of a row from one on, and then others
begins : (row : Row) (from n : ℕ) (values : Exprs) (f : Frame) (w w' : World) (out : Row) →
    length row ≡ from + n →
    ev_all (columns_then from n values) no_self (row ∷ []) f w ≡ Gives out w' →
    Begins (drop from row) out
begins row from zero values f w w' out long h =
    (out, ap (λ (vs : Row). vs ++ out) (sym (drop_all from row (omega (arith, long)))))
begins row from (suc n) values f w w' out long h =
    let v = get_or row from Null in
    let g = gave (ev_all (columns_then (suc from) n values) no_self (row ∷ []) f w)
    (λ vs. give (v ∷ vs)) out w' h in
    let more = begins row (suc from) n values f w g.between g.first (omega (arith, long)) g.gives in (
      more.0,
      sym (same_gift (v ∷ g.first) out g.between w' g.goes) ∙ ap (λ (vs : Row). v ∷ vs) more.1
          ∙ ap (λ (vs : Row). vs ++ more.0) (sym (drop-cons row from Null (omega (arith, long)))),
    )

-- what is made of a row begins with it
begins_row : (row : Row) (values conjuncts : Exprs) (w w' : World) (m : Row) →
    record_of (columns_then 0 (length row) values) conjuncts no_self (row ∷ []) no_frame w ≡ Gives
    (Some m) w' → Begins row m
begins_row row values conjuncts w w' m h =
    let list : Eval Row = ev_all (columns_then 0 (length row) values) no_self (row ∷ []) no_frame in
    let g = gave (holds conjuncts no_self (row ∷ []) no_frame w) (λ keep. kept keep list)
    (Some m) w' h in
    by g.first g.between g.goes
  where
    by : (keep : Bool) (u : World) → kept keep
        (ev_all (columns_then 0 (length row) values) no_self (row ∷ []) no_frame) u ≡ Gives
        (Some m) w' → Begins row m
    by false u k = cc
    by true u k =
        let g = gave (ev_all (columns_then 0 (length row) values) no_self (row ∷ []) no_frame u)
        (λ vs. give (Some vs)) (Some m) w' k in
        let same : g.first ≡ m = let s = same_gift (Some g.first) (Some m) g.between w' g.goes in
        cc in
        begins row 0 (length row) values no_frame u g.between m (omega arith)
        (g.gives ∙ ap (λ (vs : Row). Gives vs g.between) same)

-- ---- places that climb

lower : (low : ℕ) (ps : List ℕ) (high : ℕ) → Climb (suc low) ps high → Climb low ps high
lower low [] high h = tt
lower low (p ∷ ps) high h = let a = h.0 in (omega arith, h.1, h.2)

-- The rows from one on are left.
module _ (t : Table) (values conjuncts : Exprs) (well : well_kept t.columns t.key t.rows ≡ true)
  where
    abbrev made : Row → Eval (Option Row)
    made row = record_of (columns_then 0 (length t.columns) values) conjuncts no_self
        (row ∷ []) no_frame

    climbs : (before rest met : List Row) (w w' : World) → t.rows ≡ before ++ rest →
        list_all (fits t.columns t.key) rest ≡ true →
        each_kept made rest w ≡ Gives met w' → Climb (length before) (places_in t met) (length t.rows)
    climbs before [] met w w' is fit h = subst (λ (ms : List Row). Climb (length before)
        (places_in t ms) (length t.rows)) (same_gift [] met w w' h) tt
    climbs before (row ∷ rest) met w w' is fit h =
        let both = and_parts (fits t.columns t.key row) (list_all (fits t.columns t.key) rest) fit in
        let g = gave (made row w) (λ y u. after (each_kept made rest u)
        (λ ys. give (with_front y ys))) met w' h in
        let l = gave (each_kept made rest g.between) (λ ys. give (with_front g.first ys)) met w'
        g.goes in
        let more = climbs (before ++ row ∷ []) rest l.first g.between l.between
        (is ∙ sym (append_assoc before (row ∷ []) rest)) both.1 l.gives in
        let long : length (before ++ row ∷ []) ≡ suc (length before) =
        (let e = length-append before (row ∷ []) in omega arith) in
        subst (λ (ms : List Row). Climb (length before) (places_in t ms) (length t.rows))
        (same_gift (with_front g.first l.first) met l.between w' l.goes)
        (by g.first g.between l.first g.gives (subst
        (λ n. Climb n (places_in t l.first) (length t.rows)) long more) both.0)
      where
        here : length before < length t.rows
        here = let e = ap (λ (rows : List Row). length rows) is in
            let f = length-append before (row ∷ rest) in omega arith

        by : (y : Option Row) (u : World) (ms : List Row) → made row w ≡ Gives y u →
            Climb (suc (length before)) (places_in t ms) (length t.rows) →
            fits t.columns t.key row ≡ true →
            Climb (length before) (places_in t (with_front y ms)) (length t.rows)
        by None u ms is_made more own = lower (length before) (places_in t ms) (length t.rows) more
        by (Some m) u ms is_made more own =
            let wide : length row ≡ length t.columns = length-fits t.columns t.key row own in
            let b = begins_row row values conjuncts w u m
            (ap (λ n. record_of (columns_then 0 n values) conjuncts no_self (row ∷ []) no_frame
            w) wide ∙ is_made) in
            let place : place_in t m ≡ length before = ap (place_in t) b.1 ∙
            place_of_row t before rest row b.0 well is own in
            subst (λ n. Climb (length before) (n ∷ places_in t ms) (length t.rows)) (sym place)
            (omega arith, here, more)

-- ---- the table of a name

named_kept : (name : List ℕ) (ts : Tables) (t : Table) → AllWellKept ts →
    table_named name ts ≡ Some t → well_kept t.columns t.key t.rows ≡ true
named_kept name [] t h is = cc
named_kept name (s ∷ ss) t h is = by (bytes_eq s.name name) is (λ e. named_kept name ss t h.1 e)
  where
    by : (b : Bool) → cond b (Some s.table) (table_named name ss) ≡ Some t →
        (table_named name ss ≡ Some t → well_kept t.columns t.key t.rows ≡ true)
        → well_kept t.columns t.key t.rows ≡ true
    by true e later = subst (λ (x : Table). well_kept x.columns x.key x.rows ≡ true)
        (let f : s.table ≡ t = cc in f) h.0
    by false e later = later e

pub met_rows_in_order : MetRowsInOrder
met_rows_in_order name query t w w' met all is meets h =
    let well = named_kept name w.tables t all is in
    climbs t meets.values meets.conjuncts well [] t.rows met w w' refl
    (kept_fits t.columns t.key t.rows well)
    (ap (λ (rows : List Row). each_kept (made t meets.values meets.conjuncts well) rows w)
    (sym (ap rows_of is))
    ∙ ap (λ (q : Query). answer q no_self [] no_frame w) (sym meets.rows) ∙ h)
