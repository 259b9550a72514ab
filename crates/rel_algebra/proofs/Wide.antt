-- How wide the rows of queries are.
use Rattle.std.proofs.Common.{◌≡◌, ℕ, zero, suc, ◌+◌, Bool, true, false, cond, List, [], ◌∷◌, ◌++◌}
use Rattle.std.proofs.Common.{length, map, replicate, refl, ap, ◌∙◌, length-append}
use Rattle.std.proofs.lemmas.List.{length-replicate}
use Rattle.std.specs.Ordering.{is_lt}
use Rattle.std.specs.declared.cmp.Ordering.{Ordering}
use Rattle.row_types.specs.Ordered as ordered
use Rattle.sql_values.specs.declared.value.Value.{Value}
use Rattle.sql_values.specs.declared.value.Value.TheVariants.{Null}
use Rattle.row_types.specs.Rows.{Row}
use Rattle.rel_algebra.specs.Endings.{Ending, after}
use Rattle.rel_algebra.specs.Groups.{Group, first_groups, grouped_from, groups, put, same_row}
use Rattle.rel_algebra.specs.Groups.{values_at}
use Rattle.row_types.specs.Sorting.{in_order, keys_cmp}
use Rattle.rel_algebra.specs.Joins.{from_width, group_row, numbered, or_nulls, pairs, places}
use Rattle.rel_algebra.specs.Joins.{query_width, rows_width}
use Rattle.rel_algebra.specs.Plain.{Inputs, Scope, all_even, answer, columns_in, each_of, ev}
use Rattle.rel_algebra.specs.Plain.{ev_all, ev_rows, from_rows, holds, joined_row, kept_if}
use Rattle.rel_algebra.specs.Plain.{list_where, one_row, within}
use Rattle.rel_algebra.specs.Theorem.{AllWide, Fits}
use Rattle.rel_algebra.specs.Tree.{Cross, Derived, Exprs, From, Grouped, Inner, LeftOuter}
use Rattle.rel_algebra.specs.Tree.{MoreExprs, MoreRows, NoExpr, NoRow, Ordered, Query, Rows, Select}
use Rattle.rel_algebra.specs.Tree.{Table, Values, count}
use Rattle.row_types.specs.declared.sort_key.SortKey.{SortKey}
use Rattle.rel_algebra.proofs.Truths.{both, equal_numbers, left_true, right_true}
use Rattle.rel_algebra.proofs.Planned.{FromPlans, QueryPlans}
use Rattle.rel_algebra.proofs.Rows.{WideEnd}
use Rattle.std.proofs.Common.{Err, Ok, nat_eq, subst}

pub longer : {A : Type 0} (a b : List A) (n m : ℕ) → length a ≡ n → length b ≡ m →
    length (a ++ b) ≡ n + m
longer a b n m p q = length-append a b ∙ both (λ (x y : ℕ). x + y) _ _ _ _ p q

all_append : (n : ℕ) (a b : List Row) → AllWide n a → AllWide n b → AllWide n (a ++ b)
all_append n [] b p q = q
all_append n (r ∷ a) b p q = (p.0, all_append n a b p.1 q)

wide_both : (n : ℕ) (e d : Ending (List Row)) → WideEnd n e → WideEnd n d →
    WideEnd n (after e (λ ys. after d (λ zs. Ok (ys ++ zs))))
wide_both n (Err s) d p q = tt
wide_both n (Ok a) (Err s) p q = tt
wide_both n (Ok a) (Ok b) p q = all_append n a b p q

pub wide_each : {A : Type 0} (n : ℕ) (f : A → Ending (List Row)) → ((x : A) → WideEnd n (f x)) →
    (xs : List A) → WideEnd n (each_of f xs)
wide_each n f h [] = tt
wide_each n f h (x ∷ xs) = wide_both n (f x) (each_of f xs) (h x) (wide_each n f h xs)

wide_rows : (n m : ℕ) (f : Row → Ending (List Row)) → ((r : Row) → length r ≡ m → WideEnd n (f r)) →
    (rs : List Row) → AllWide m rs →
    WideEnd n (each_of f rs)
wide_rows n m f h [] w = tt
wide_rows n m f h (r ∷ rs) w = wide_both n (f r) (each_of f rs) (h r w.0) (wide_rows n m f h rs w.1)

pub wide_after : {A : Type 0} (n : ℕ) (e : Ending A) (g : A → Ending (List Row)) →
    ((a : A) → WideEnd n (g a)) → WideEnd n (after e g)
wide_after n (Err s) g h = tt
wide_after n (Ok a) g h = h a

-- a list of values
abbrev pub LongEnd : ℕ → Ending Row → Type 0
LongEnd n (Ok r) = length r ≡ n
LongEnd n (Err s) = Unit {0}

pub long_more : (n : ℕ) (e : Ending Value) (d : Ending Row) → LongEnd n d →
    LongEnd (suc n) (after e (λ v. after d (λ vs. Ok (v ∷ vs))))
long_more n (Err s) d h = tt
long_more n (Ok v) (Err s) h = tt
long_more n (Ok v) (Ok vs) h = ap suc h

pub all_long : (es : Exprs) (w : Inputs) (f : Scope) → LongEnd (count es) (ev_all es w f)
all_long NoExpr w f = refl
all_long (MoreExprs e es) w f = long_more (count es) (ev e w f) (ev_all es w f) (all_long es w f)

wide_one : (n : ℕ) (e : Ending Row) → LongEnd n e → WideEnd n (one_row e)
wide_one n (Err s) h = tt
wide_one n (Ok r) h = (h, tt)

wide_list : (n : ℕ) (b : Ending Bool) (e : Ending Row) → LongEnd n e → WideEnd n (list_where b e)
wide_list n (Err s) e h = tt
wide_list n (Ok false) e h = tt
wide_list n (Ok true) e h = wide_one n e h

put_wide : (n : ℕ) (cmp : Row → Row → Ordering) (r : Row) (rs : List Row) → length r ≡ n →
    AllWide n rs → AllWide n (ordered.put cmp r rs)
put_wide n cmp r [] l w = (l, tt)
put_wide n cmp r (s ∷ ss) l w =
    elim (is_lt (cmp r s)) as (λ b. AllWide n (cond b (r ∷ s ∷ ss) (s ∷ ordered.put cmp r ss)))
    [ true ↦ (l, (w.0, w.1)) | false ↦ (w.0, put_wide n cmp r ss l w.1) ]

put_all_wide : (n : ℕ) (cmp : Row → Row → Ordering) (rs ss : List Row) → AllWide n rs →
    AllWide n ss → AllWide n (ordered.put_all cmp rs ss)
put_all_wide n cmp rs [] p q = p
put_all_wide n cmp rs (s ∷ ss) p q =
    put_all_wide n cmp (ordered.put cmp s rs) ss (put_wide n cmp s rs q.0 p) q.1

pub order_wide : (n : ℕ) (keys : List SortKey) (rs : List Row) → AllWide n rs →
    AllWide n (in_order keys rs)
order_wide n keys rs w = put_all_wide n (keys_cmp keys) [] rs tt w

wide_order : (n : ℕ) (keys : List SortKey) (e : Ending (List Row)) → WideEnd n e →
    WideEnd n (after e (λ rs. Ok (in_order keys rs)))
wide_order n keys (Err s) h = tt
wide_order n keys (Ok rs) h = order_wide n keys rs h

wide_more : (n : ℕ) (e : Ending Row) (d : Ending (List Row)) → LongEnd n e → WideEnd n d →
    WideEnd n (after e (λ r. after d (λ rs. Ok (r ∷ rs))))
wide_more n (Err s) d p q = tt
wide_more n (Ok r) (Err s) p q = tt
wide_more n (Ok r) (Ok rs) p q = (p, q)

long_as : (n m : ℕ) (e : Ending Row) → n ≡ m → LongEnd n e → LongEnd m e
long_as n m e p h = subst (λ (i : ℕ). LongEnd i e) p h

rows_wide : (rows : Rows) (n : ℕ) (w : Inputs) (f : Scope) → all_even n rows ≡ true →
    WideEnd n (ev_rows rows w f)
rows_wide NoRow n w f h = tt
rows_wide (MoreRows es rows) n w f h =
    wide_more n (ev_all es w f) (ev_rows rows w f) (long_as (count es) n (ev_all es w f)
    (equal_numbers (count es) n (left_true (nat_eq (count es) n) (all_even n rows) h))
    (all_long es w f))
    (rows_wide rows n w f (right_true (nat_eq (count es) n) (all_even n rows) h))

pub answer_wide : (q : Query) (w : Inputs) (f : Scope) → QueryPlans q →
    WideEnd (query_width q (columns_in w)) (answer q w f)
answer_wide (Select items from tests) w f p =
    wide_after (count items) (from_rows from w f) _
    (λ rows. wide_each (count items)
    (λ r. list_where (holds tests w (within f r)) (ev_all items w (within f r)))
    (λ r. wide_list (count items) (holds tests w (within f r)) (ev_all items w (within f r))
    (all_long items w (within f r))) rows)
answer_wide (Grouped from tests k items ags having list) w f p =
    wide_after (count list) (from_rows from w f) _ (λ rows. wide_after (count list)
    (each_of (λ r. list_where (holds tests w (within f r)) (ev_all items w (within f r))) rows) _
    (λ parts. wide_each (count list) _
    (λ g. wide_after (count list) (group_row (numbered k ags) g) _
    (λ r. wide_list (count list) (holds having w (within f r)) (ev_all list w (within f r))
    (all_long list w (within f r))))
    (groups (places 0 k) parts)))
answer_wide (Values rows) w f p = rows_wide rows (rows_width rows) w f p.0
answer_wide (Ordered q keys) w f p =
    wide_order (query_width q (columns_in w)) keys (answer q w f) (answer_wide q w f p)

mapped_wide : (n m : ℕ) (l : Row) (rs : List Row) → length l ≡ n → AllWide m rs →
    AllWide (n + m) (map (λ (r : Row). l ++ r) rs)
mapped_wide n m l [] e w = tt
mapped_wide n m l (r ∷ rs) e w = (longer l r n m e w.0, mapped_wide n m l rs e w.1)

pub pairs_wide : (n m : ℕ) (ls rs : List Row) → AllWide n ls → AllWide m rs →
    AllWide (n + m) (pairs ls rs)
pairs_wide n m [] rs a b = tt
pairs_wide n m (l ∷ ls) rs a b =
    all_append (n + m) (map (λ (r : Row). l ++ r) rs) (pairs ls rs) (mapped_wide n m l rs a.0 b)
    (pairs_wide n m ls rs a.1 b)

pub wide_two : (n m k : ℕ) (a b : Ending (List Row)) (g : List Row → List Row → Ending (List Row)) →
    WideEnd n a → WideEnd m b →
    ((ls rs : List Row) → AllWide n ls → AllWide m rs → WideEnd k (g ls rs)) →
    WideEnd k (after a (λ ls. after b (g ls)))
wide_two n m k (Err s) b g p q h = tt
wide_two n m k (Ok ls) (Err s) g p q h = tt
wide_two n m k (Ok ls) (Ok rs) g p q h = h ls rs p q

wide_kept : (n : ℕ) (b : Bool) (r : Row) → length r ≡ n → WideEnd n (Ok (kept_if b r))
wide_kept n true r h = (h, tt)
wide_kept n false r h = tt

nulls_wide : (n m : ℕ) (l : Row) (ms : List Row) → length l ≡ n → AllWide (n + m) ms →
    AllWide (n + m) (or_nulls l m ms)
nulls_wide n m l [] e w = (longer l (replicate m Null) n m e (length-replicate m Null), tt)
nulls_wide n m l (x ∷ ms) e w = w

wide_nulls : (n m : ℕ) (l : Row) (e : Ending (List Row)) → length l ≡ n → WideEnd (n + m) e →
    WideEnd (n + m) (after e (λ ms. Ok (or_nulls l m ms)))
wide_nulls n m l (Err s) e w = tt
wide_nulls n m l (Ok ms) e w = nulls_wide n m l ms e w

pub from_wide : (x : From) (w : Inputs) (f : Scope) → FromPlans x → Fits w →
    WideEnd (from_width x (columns_in w)) (from_rows x w f)
from_wide (Table t) w f p fits = fits t
from_wide (Derived q) w f p fits = answer_wide q w f p
from_wide (Cross a b) w f p fits =
    wide_two _ _ _ (from_rows a w f) (from_rows b w f) (λ ls rs. Ok (pairs ls rs))
    (from_wide a w f p.0 fits) (from_wide b w f p.1 fits)
    (λ ls rs ps q. pairs_wide _ _ ls rs ps q)
from_wide (Inner a b on) w f p fits =
    let n = from_width a (columns_in w) + from_width b (columns_in w) in
    wide_two _ _ n (from_rows a w f) (from_rows b w f) _ (from_wide a w f p.0 fits)
    (from_wide b w f p.1 fits)
    (λ ls rs ps q. wide_rows n n (λ r. after (holds on w (within f r)) (λ b. Ok (kept_if b r)))
    (λ r l. wide_after n (holds on w (within f r)) (λ b. Ok (kept_if b r)) (λ b. wide_kept n b r l))
    (pairs ls rs) (pairs_wide _ _ ls rs ps q))
from_wide (LeftOuter a b on) w f p fits =
    let na = from_width a (columns_in w) in let nb = from_width b (columns_in w) in
    wide_two na nb (na + nb) (from_rows a w f) (from_rows b w f)
    (λ ls rs. each_of (joined_row nb (λ r. holds on w (within f r)) rs) ls)
    (from_wide a w f p.0 fits) (from_wide b w f p.1 fits)
    (λ ls rs ps q. wide_rows (na + nb) na (joined_row nb (λ r. holds on w (within f r)) rs)
    (λ l e. wide_nulls na nb l
    (each_of (λ r. after (holds on w (within f (l ++ r))) (λ b. Ok (kept_if b (l ++ r)))) rs) e
    (wide_rows (na + nb) nb (λ r. after (holds on w (within f (l ++ r)))
    (λ b. Ok (kept_if b (l ++ r))))
    (λ r er. wide_after (na + nb) (holds on w (within f (l ++ r))) (λ b. Ok (kept_if b (l ++ r)))
    (λ b. wide_kept (na + nb) b (l ++ r) (longer l r na nb e er))) rs q)) ls ps)

-- Keys of groups.
abbrev pub KeysLong : ℕ → List Group → Type 0
KeysLong k [] = Unit {0}
KeysLong k (g ∷ gs) = (length g.key ≡ k) × KeysLong k gs

pub put_long : (k : ℕ) (key r : Row) (gs : List Group) → length key ≡ k → KeysLong k gs →
    KeysLong k (put key r gs)
put_long k key r [] l h = (l, tt)
put_long k key r (g ∷ gs) l h =
    elim (same_row key g.key) as (λ b.
    KeysLong k (cond b (record { key = g.key; members = g.members ++ r ∷ [] } ∷ gs)
    (g ∷ put key r gs)))
    [ true ↦ (h.0, h.1) | false ↦ (h.0, put_long k key r gs l h.1) ]

values_long : (r : Row) (i k : ℕ) → length (values_at r (places i k)) ≡ k
values_long r i zero = refl
values_long r i (suc k) = ap suc (values_long r (suc i) k)

from_long : (k : ℕ) (gs : List Group) (rs : List Row) → KeysLong k gs →
    KeysLong k (grouped_from (places 0 k) gs rs)
from_long k gs [] h = h
from_long k gs (r ∷ rs) h = from_long k (put (values_at r (places 0 k)) r gs) rs
    (put_long k (values_at r (places 0 k)) r gs (values_long r 0 k) h)

start_long : (k : ℕ) → KeysLong k (first_groups (places 0 k))
start_long zero = (refl, tt)
start_long (suc k) = tt

pub groups_long : (k : ℕ) (rs : List Row) → KeysLong k (groups (places 0 k) rs)
groups_long k rs = from_long k (first_groups (places 0 k)) rs (start_long k)
