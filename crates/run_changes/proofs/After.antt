-- Values after a row, put into its columns one by one.
use Rattle.std.proofs.Common.{ℕ, ◌≡◌, ◌<◌, ◌≤◌, ◌+◌, List, [], ◌∷◌, None, Some, length, drop, take}
use Rattle.std.proofs.Common.{set, get_or, slice_get, refl, sym, ap, ◌∙◌, rules}
use Rattle.std.proofs.lemmas.List.{drop_all}
use Rattle.std.proofs.lemmas.Option.{slice_get_cases, slice_get_within, get_or_from_slice_get}
use Rattle.sql_values.specs.declared.value.Value.{Value}
use Rattle.row_types.specs.Rows.{Row}
use Rattle.data_change.specs.Writing.{put_all}
use Rattle.run_expressions.proofs.Laws.{rest}

nothing_put : (cs : List ℕ) (row : Row) → put_all cs [] row ≡ row
nothing_put [] row = refl
nothing_put (c ∷ cs) row = refl

-- no value is left
pub put_none : (cs : List ℕ) (vs : List Value) (i : ℕ) (row : Row) → None ≡ slice_get vs i →
    put_all cs (drop i vs) row ≡ row
put_none cs vs i row h = ap (λ (rs : List Value). put_all cs rs row) (drop_all i vs (past vs i h)) ∙
    nothing_put cs row
  where
    past : (vs : List Value) (i : ℕ) → None ≡ slice_get vs i → length vs ≤ i
    past vs i h = search (rules, slice_get_cases vs i)

-- no target is left
pub put_no_more : (cs : List ℕ) (vs : List Value) (i : ℕ) (row : Row) → length cs ≤ i →
    put_all (drop i cs) vs row ≡ row
put_no_more cs vs i row h = ap (λ (ds : List ℕ). put_all ds vs row) (drop_all i cs h)

-- one value more is put
pub put_one : (targets : List ℕ) (width i c : ℕ) (v : Value) (row new : Row) → i < length targets →
    c ≡ get_or targets i c → slice_get (drop width row) i ≡ Some v →
    take width new ≡ set (take width row) c v → drop width new ≡ drop width row →
    put_all (drop (i + 1) targets) (drop (i + 1) (drop width new)) (take width new) ≡ put_all
    (drop i targets) (drop i (drop width row)) (take width row)
put_one targets width i c v row new h is value front after =
    let vs = drop width row in
    ap (λ (r : Row). put_all (drop (i + 1) targets) (drop (i + 1) (drop width new)) r) front
    ∙ ap (λ (r : Row). put_all (drop (i + 1) targets) (drop (i + 1) r) (set (take width row) c v))
    after
    ∙ sym (ap (λ (cs : List ℕ). put_all cs (drop i vs) (take width row)) (rest targets i c h is)
    ∙ ap (λ (r : Row). put_all (c ∷ drop (i + 1) targets) r (take width row))
    (rest vs i v (slice_get_within vs i v value) (sym (get_or_from_slice_get vs i v v value))))
