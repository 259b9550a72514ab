-- Rows that are assigned in the places where they stand.
use Rattle.std.proofs.Common.{ℕ, ◌≡◌, ◌<◌, ◌≤◌, ◌+◌, ◌++◌, ◌∷◌, [], List, None, Some, Result, Ok}
use Rattle.std.proofs.Common.{Err, length, drop, take, set, get_or, slice_get, refl, sym, ap, ◌∙◌}
use Rattle.std.proofs.Common.{subst, arith, rules}
use Rattle.std.proofs.lemmas.List.{append-nil, drop-set-lt, take_more_set, take_all, drop_all}
use Rattle.std.proofs.lemmas.Option.{slice_get_within, get_or_from_slice_get, slice_get_cases}
use Rattle.sql_values.specs.declared.value.Value.{Value}
use Rattle.sql_values.specs.declared.value.ValueFault.{ValueFault}
use Rattle.sql_values.specs.Casts.{assigned}
use Rattle.sql_values.specs.Values.{UnlessNoMemory}
use Rattle.row_types.specs.declared.ColumnType.{ColumnType}
use Rattle.row_types.specs.Rows.{Row}
use Rattle.rel_algebra.specs.World.{World, Ends, Gives, after, give, outcome}
use Rattle.rel_algebra.specs.Writing.{assigned_row}
use Rattle.run_choices.specs.declared.stop.Stop.{Stop}
use Rattle.run_choices.specs.Ending.{Tells}
use Rattle.run_choices.specs.Faults.{stopped_by}
use Rattle.run_expressions.proofs.Laws.{after_give, regrouped, outcome_gives, stops_too}
use Rattle.run_expressions.proofs.Laws.{fault_tells, rest}

-- values without a column are left out
cut_short : (cs : List ColumnType) (vs : Row) (w : World) →
    assigned_row cs (take (length cs) vs) w ≡ assigned_row cs vs w
cut_short [] vs w = refl
cut_short (c ∷ cs) [] w = refl
cut_short (c ∷ cs) (v ∷ vs) w = λ i. after (outcome (assigned c.data_type v) w)
    (λ x u. after (cut_short cs vs u i) (λ xs. give (x ∷ xs)))

-- before the first column
pub none_assigned : (cs : List ColumnType) (vs row : Row) (w : World) → row ≡ take (length cs) vs →
    after (assigned_row cs row w) give ≡ assigned_row cs vs w
none_assigned cs vs row w is = after_give (assigned_row cs row w) ∙
    ap (λ (r : Row). assigned_row cs r w) is ∙ cut_short cs vs w

-- what is left begins with the value at the place
at_place : (cs : List ColumnType) (row : Row) (i : ℕ) (c : ColumnType) (v : Value) (w : World) →
    i < length cs → c ≡ get_or cs i c → slice_get row i ≡ Some v →
    assigned_row (drop i cs) (drop i row) w ≡ after (outcome (assigned c.data_type v) w)
    (λ x u. after (assigned_row (drop (i + 1) cs) (drop (i + 1) row) u) (λ xs. give (x ∷ xs)))
at_place cs row i c v w h is some =
    ap (λ (ds : List ColumnType). assigned_row ds (drop i row) w) (rest cs i c h is)
    ∙ ap (λ (vs : Row). assigned_row (c ∷ drop (i + 1) cs) vs w)
    (rest row i v (slice_get_within row i v some) (sym (get_or_from_slice_get row i v v some)))

-- one column more is assigned
pub one_assigned : (cs : List ColumnType) (row new : Row) (i : ℕ) (c : ColumnType) (v x : Value)
    (w : World) → i < length cs → c ≡ get_or cs i c → slice_get row i ≡ Some v →
    Ok x ≡ assigned c.data_type v → new ≡ set row i x →
    after (assigned_row (drop (i + 1) cs) (drop (i + 1) new) w)
    (λ more. give (take (i + 1) new ++ more)) ≡ after (assigned_row (drop i cs) (drop i row) w)
    (λ more. give (take i row ++ more))
one_assigned cs row new i c v x w h is some assigns set_is =
    let left = assigned_row (drop (i + 1) cs) (drop (i + 1) row) w in
    ap (λ (r : Row). after (assigned_row (drop (i + 1) cs) (drop (i + 1) r) w)
    (λ more. give (take (i + 1) r ++ more))) set_is
    ∙ ap (λ (vs : Row). after (assigned_row (drop (i + 1) cs) vs w)
    (λ more. give (take (i + 1) (set row i x) ++ more)))
    (drop-set-lt (i + 1) row i x (omega arith))
    ∙ ap (λ (vs : Row). after left (λ more. give (vs ++ more)))
    (take_more_set row i x (slice_get_within row i v some))
    ∙ regrouped (take i row) (Some x) left
    ∙ ap (λ e. after e (λ more. give (take i row ++ more)))
    (sym (at_place cs row i c v w h is some ∙
    ap (λ e. after e (λ x u. after (assigned_row (drop (i + 1) cs) (drop (i + 1) row) u)
    (λ xs. give (x ∷ xs)))) (outcome_gives (assigned c.data_type v) x w assigns)))

-- a column doesn't take its value
pub one_refused : (cs : List ColumnType) (row : Row) (i : ℕ) (c : ColumnType) (v : Value)
    (fault : ValueFault) (r : Result Row Stop) (whole : Ends Row) (w : World) → i < length cs →
    c ≡ get_or cs i c →
    slice_get row i ≡ Some v → UnlessNoMemory {A = Value} (Err fault)
    (Err fault ≡ assigned c.data_type v) → r ≡ Err (stopped_by fault) →
    after (assigned_row (drop i cs) (drop i row) w) (λ more. give (take i row ++ more)) ≡ whole →
    Tells w r whole
one_refused cs row i c v fault r whole w h is some refuses answer same =
    let o = assigned c.data_type v in
    let go : Value → World → Ends Row = λ x u.
    after (assigned_row (drop (i + 1) cs) (drop (i + 1) row) u) (λ xs. give (x ∷ xs)) in
    let more : Row → World → Ends Row = λ more. give (take i row ++ more) in
    let part = stops_too {A = Value} {B = Row} w (stopped_by fault) (outcome o w) go
    (fault_tells fault o w refuses) in
    let all = stops_too {A = Row} {B = Row} w (stopped_by fault) (after (outcome o w) go) more part
    in
    subst (λ (q : Result Row Stop). Tells w q whole) (sym answer)
    (subst (λ (e : Ends Row). Tells {A = Row} w (Err (stopped_by fault)) e)
    (ap (λ e. after e more) (sym (at_place cs row i c v w h is some)) ∙ same) all)

no_value : (cs : List ColumnType) (w : World) → assigned_row cs [] w ≡ Gives [] w
no_value [] w = refl
no_value (c ∷ cs) w = refl

-- after the last value
pub all_assigned : (cs : List ColumnType) (row : Row) (i : ℕ) (w : World) → length row ≤ i →
    after (assigned_row cs (drop i row) w) (λ more. give (take i row ++ more)) ≡ Gives row w
all_assigned cs row i w h =
    ap (λ (vs : Row). after (assigned_row cs vs w) (λ more. give (take i row ++ more)))
    (drop_all i row h) ∙ ap (λ e. after e (λ more. give (take i row ++ more))) (no_value cs w)
    ∙ ap (λ (vs : Row). Gives vs w) (append-nil (take i row) ∙ take_all i row h)

-- where nothing stands
pub past : {A : Type 0} (xs : List A) (i : ℕ) → None ≡ slice_get xs i → length xs ≤ i
past xs i h = search (rules, slice_get_cases xs i)
