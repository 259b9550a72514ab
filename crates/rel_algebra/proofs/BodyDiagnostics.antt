-- SIGNAL, RESIGNAL and GET STACKED DIAGNOSTICS.
use Rattle.std.proofs.Common.{◌≡◌, ℕ, suc, ◌+◌, ◌<◌, false, nat_eq, List, [], ◌∷◌, length, Option}
use Rattle.std.proofs.Common.{Some, None, Ok, Err, refl, sym, ap, ◌∙◌, subst, arith}
use Rattle.sql_values.specs.declared.value.Value.{Value}
use Rattle.sql_values.specs.declared.value.Value.TheVariants.{Int, Null, Str, Bool as Truth}
use Rattle.sql_values.specs.Casts.{assigned}
use Rattle.sql_conditions.specs.declared.condition.Condition.{Condition}
use Rattle.sql_conditions.specs.Conditions.{Area, pushed, retexted}
use Rattle.row_types.specs.declared.cell.Cell.{Cell}
use Rattle.row_types.specs.declared.cell.Cell.TheVariants.{Val, Cond}
use Rattle.rel_algebra.specs.Endings.{Ending, cell_end, after, ending_of}
use Rattle.rel_algebra.specs.Emissions.{width}
use Rattle.rel_algebra.specs.Plan.{scalar_count, Nodes, no_node, Scalar, constant, more, Sight}
use Rattle.rel_algebra.specs.Plan.{sight, added, cell_at, cells_at, cell_of, cells_of, shown}
use Rattle.rel_algebra.specs.Plan.{values_of}
use Rattle.rel_algebra.specs.Joins.{places}
use Rattle.rel_algebra.specs.Scopes.{Inputs, columns_in}
use Rattle.rel_algebra.specs.States.{null_text, not_active, not_stacked, invalid_number}
use Rattle.rel_algebra.specs.States.{one_condition}
use Rattle.rel_algebra.specs.OnConditions.{ItemWord, state_item, push_cell, retext_cell}
use Rattle.rel_algebra.specs.OnConditions.{item_cell as item_gives, item_or, item_of}
use Rattle.rel_algebra.specs.OnConditions.{condition_numbered, number_cell}
use Rattle.rel_algebra.proofs.Growing.{grows_at, grows_same}
use Rattle.rel_algebra.proofs.Nodes.{added_grows}
use Rattle.rel_algebra.proofs.Words.{assigning_cell, guard, values_more}
use Rattle.rel_algebra.specs.Leaves.{ValueLeaf}
use Rattle.rel_algebra.proofs.BodyHeld.{PerhapsHolds, ValueRight}
use Rattle.rel_algebra.specs.Bodies.{word_of, Target, Perhaps, Without, With, StatementItem, Number}
use Rattle.rel_algebra.specs.Bodies.{RowCount, StatementRead, ConditionRead}
use Rattle.rel_algebra.specs.BodyDoing.{Frame, End, Doing, take_values, storing}
use Rattle.rel_algebra.specs.BodyHandlers.{Scopes, raising, with_end}
use Rattle.rel_algebra.specs.BodyMeaning.{value_in, perhaps_in, with_text, or_empty, again_as}
use Rattle.rel_algebra.specs.BodyMeaning.{signalling, resignalling, statement_item}
use Rattle.rel_algebra.specs.BodyMeaning.{statement_targets, statement_values, condition_targets}
use Rattle.rel_algebra.specs.BodyMeaning.{condition_values, getting_area, of_condition}
use Rattle.rel_algebra.specs.BodyMeaning.{getting_condition}
use Rattle.rel_algebra.specs.BodySteps.{Step, run, col, tag}
use Rattle.rel_algebra.specs.BodyDispatch.{Env, Emit, Codes}
use Rattle.rel_algebra.specs.BodyChain.{emitted, with_column, with_columns, target_stores}
use Rattle.rel_algebra.specs.BodyChain.{one_raise, push, perhaps_emitted, emit_signal, again}
use Rattle.rel_algebra.specs.BodyChain.{emit_again, not_active_cell, not_stacked_cell}
use Rattle.rel_algebra.specs.BodyChain.{statement_cell, statement_cells, emit_statement_items}
use Rattle.rel_algebra.specs.BodyChain.{item_cell, condition_cells, emit_condition_items}
use Rattle.rel_algebra.proofs.BodyBase.{at, both, Rising}
use Rattle.rel_algebra.proofs.BodyLands.{Lands, Ready, Holds, Sim, Seen, scopes_of, codes_of, Good}
use Rattle.rel_algebra.proofs.BodyJudged.{expr_yields, column_wide, column_cell, Judged, one_passes}
use Rattle.rel_algebra.proofs.BodyJudged.{one_lands, raise_sim, raise_passes, raise_lands}
use Rattle.rel_algebra.proofs.BodyValues.{many_judged, columns_wide, columns_test, columns_cells}
use Rattle.rel_algebra.proofs.BodyValues.{columns_before, are_shown}

-- ---- the same steps

pub sim_same : (w : Inputs) (o : List (List Cell)) (level : ℕ) (a b : Emit)
    (d : Option Area → Doing) →
    ((env : Env) (here next n : ℕ) → b env here next n ≡ a env here next n) → Sim w o level a d →
    Sim w o level b d
sim_same w o level a b d h s = record {
  passes = λ env here next n r k u x q l c. ap (λ (ss : List Step). run w o ss q)
      (h env here next n) ∙ s.passes env here next n r k u x q l c;
  lands = λ env here next n r v st f q z c.
      subst (λ (ss : List Step). Lands env here n q (d st f) (run w o ss q))
      (sym (h env here next n)) (s.lands env here next n r v st f q z c);
}

-- ---- texts

-- the text as a value; the empty one where none is written
abbrev text_in : Inputs → Perhaps → Frame → Ending Value
text_in w Without f = Ok (Str [])
text_in w (With e) f = value_in w e f

text_yields : (w : Inputs) (o : List (List Cell)) (text : Perhaps) → PerhapsHolds text
    (ValueRight w) →
    (env : Env) (n : ℕ) (f : Frame) (q : List Cell) → Rising 3 env.columns n → length q ≡ n →
    cells_at q env.columns ≡ shown f → let a = perhaps_emitted text (columns_in w) env n in
    cell_of a.scalar (sight w o (added a.nodes w o q)) ≡ cell_end (text_in w text f)
text_yields w o Without p env n f q r l s = refl
text_yields w o (With e) p env n f q r l s =
    let a = emitted e (columns_in w) env n in expr_yields w o e p env n f q r l s
    (added a.nodes w o q) (grows_same (added a.nodes w o q))

-- ---- SIGNAL

-- a cell is an area, and a statement ends as it is raised
abbrev Raises : Seen → Inputs → Frame → Cell → End → Type 0
Raises seen w f c e = (a : Area) × (c ≡ Cond a) × (e ≡ raising (scopes_of w seen) a f)

signal_with : (w : Inputs) (seen : Seen) (state : List ℕ) (f : Frame) (E : Ending Value) →
    Raises seen w f (push_cell state (cell_end E) (Val Null))
    (with_end (scopes_of w seen) (after E (λ v. Ok (Some v))) f
    (λ v. with_text (scopes_of w seen) v (λ text. raising (scopes_of w seen)
    (one_condition state (or_empty text)))))
signal_with w seen state f (Err a) = (a, refl, refl)
signal_with w seen state f (Ok Null) = (null_text, refl, refl)
signal_with w seen state f (Ok (Int i)) = (null_text, refl, refl)
signal_with w seen state f (Ok (Truth b)) = (null_text, refl, refl)
signal_with w seen state f (Ok (Str s)) = (one_condition state s, refl, refl)

signal_raises : (w : Inputs) (seen : Seen) (state : List ℕ) (text : Perhaps) (f : Frame) →
    Raises seen w f (push_cell state (cell_end (text_in w text f)) (Val Null))
    (signalling state (scopes_of w seen) (perhaps_in w text) f)
signal_raises w seen state Without f = (one_condition state [], refl, refl)
signal_raises w seen state (With e) f = signal_with w seen state f (value_in w e f)

pub signal_sim : (w : Inputs) (o : List (List Cell)) → (seen : Seen) → Good w o seen →
    (level : ℕ) (state : List ℕ) (text : Perhaps) → PerhapsHolds text (ValueRight w) →
    Sim w o level (emit_signal state text (columns_in w) (codes_of w seen))
    (λ st. signalling state (scopes_of w seen) (perhaps_in w text))
signal_sim w o seen good level state text p =
    let S = columns_in w in
    let cell : Env → ℕ → Scalar = λ env n. push state (perhaps_emitted text S env n).scalar
    (constant Null) in
    raise_sim w o seen good level (λ env n. with_column (perhaps_emitted text S env n).nodes
    (cell env n)) (λ env n. width (perhaps_emitted text S env n).nodes n)
    (λ st. signalling state (scopes_of w seen) (perhaps_in w text))
    (λ env n q l. column_wide (perhaps_emitted text S env n).nodes (cell env n) w o q n l)
    (λ env n r st f q s.
    let a = perhaps_emitted text S env n in let t = signal_raises w seen state text f in (
      t.0,
      column_cell a.nodes (cell env n) w o q n s.long
          ∙ (ap (λ (c : Cell). push_cell state c (Val Null))
          (text_yields w o text p env n f q r s.long s.shows) ∙ t.1),
      t.2,
    ))

-- ---- RESIGNAL

again_with : (w : Inputs) (seen : Seen) (state : Option (List ℕ)) (a : Area) (f : Frame)
    (E : Ending Value) (s : Sight) (x : Scalar) (c : ℕ) (e : ValueLeaf) → cell_of x s ≡ cell_end E →
    cell_of (col c) s ≡ Cond a →
    Raises seen w f (cell_of (again state (With e) x c) s)
    (with_end (scopes_of w seen) (after E (λ v. Ok (Some v))) f
    (λ v. with_text (scopes_of w seen) v (λ text. raising (scopes_of w seen)
    (again_as state text a))))
again_with w seen None a f (Err b) s x c e h g =
    (b, ap (λ (y : Cell). retext_cell y (cell_of (col c) s)) h, refl)
again_with w seen None a f (Ok Null) s x c e h g = (null_text, both retext_cell _ _ _ _ h g, refl)
again_with w seen None a f (Ok (Int i)) s x c e h g =
    (null_text, both retext_cell _ _ _ _ h g, refl)
again_with w seen None a f (Ok (Truth b)) s x c e h g =
    (null_text, both retext_cell _ _ _ _ h g, refl)
again_with w seen None a f (Ok (Str t)) s x c e h g =
    (retexted t a, both retext_cell _ _ _ _ h g, refl)
again_with w seen (Some state) a f (Err b) s x c e h g =
    (b, ap (λ (y : Cell). push_cell state y (cell_of (col c) s)) h, refl)
again_with w seen (Some state) a f (Ok Null) s x c e h g =
    (null_text, both (push_cell state) _ _ _ _ h g, refl)
again_with w seen (Some state) a f (Ok (Int i)) s x c e h g =
    (null_text, both (push_cell state) _ _ _ _ h g, refl)
again_with w seen (Some state) a f (Ok (Truth b)) s x c e h g =
    (null_text, both (push_cell state) _ _ _ _ h g, refl)
again_with w seen (Some state) a f (Ok (Str t)) s x c e h g =
    (pushed (record { state = state; message = t }) a, both (push_cell state) _ _ _ _ h g, refl)

again_raises : (w : Inputs) (seen : Seen) (state : Option (List ℕ)) (text : Perhaps) (a : Area)
    (f : Frame) (s : Sight) (x : Scalar) (c : ℕ) → cell_of x s ≡ cell_end (text_in w text f) →
    cell_of (col c) s ≡ Cond a →
    Raises seen w f (cell_of (again state text x c) s)
    (resignalling (Some a) state (scopes_of w seen) (perhaps_in w text) f)
again_raises w seen None Without a f s x c h g = (a, g, refl)
again_raises w seen (Some state) Without a f s x c h g =
    (pushed (record { state = state; message = [] }) a, both (push_cell state) _ _ _ _ h g, refl)
again_raises w seen None (With e) a f s x c h g = again_with w seen None a f (value_in w e f) s x c
    e h g
again_raises w seen (Some state) (With e) a f s x c h g = again_with w seen (Some state) a f
    (value_in w e f) s x c e h g

-- nodes and a column by what is stacked
abbrev again_nodes : Option ℕ → Option (List ℕ) → Perhaps → Inputs → Env → ℕ → Nodes
again_nodes None state text w env n = with_column no_node not_active_cell
again_nodes (Some c) state text w env n = let a = perhaps_emitted text (columns_in w) env n in
    with_column a.nodes (again state text a.scalar c)

-- where the area that RESIGNAL raises stands
abbrev again_column : Option ℕ → Perhaps → Inputs → Env → ℕ → ℕ
again_column None text w env n = n
again_column (Some c) text w env n = width (perhaps_emitted text (columns_in w) env n).nodes n

again_is : (es : Option ℕ) (state : Option (List ℕ)) (text : Perhaps) (w : Inputs) (codes_ : Codes)
    (env : Env) (here next n : ℕ) →
    emit_again es state text (columns_in w) codes_ env here next n ≡ one_raise codes_ env here next
    n (again_nodes es state text w env n) (again_column es text w env n)
again_is None state text w codes_ env here next n = refl
again_is (Some c) state text w codes_ env here next n = refl

again_wide : (es : Option ℕ) (state : Option (List ℕ)) (text : Perhaps) (w : Inputs)
    (o : List (List Cell)) (env : Env) (n : ℕ) (q : List Cell) → length q ≡ n →
    length (added (again_nodes es state text w env n) w o q) ≡ suc (again_column es text w env n)
again_wide None state text w o env n q l = column_wide no_node not_active_cell w o q n l
again_wide (Some c) state text w o env n q l =
    let a = perhaps_emitted text (columns_in w) env n in column_wide a.nodes
    (again state text a.scalar c) w o q n l

again_goes : (es : Option ℕ) (state : Option (List ℕ)) (text : Perhaps) (w : Inputs)
    (o : List (List Cell)) → PerhapsHolds text (ValueRight w) → (seen : Seen) (env : Env) (n : ℕ) →
    Rising 3 env.columns n →
    (st : Option Area) (f : Frame) (q : List Cell) → length q ≡ n → cells_at q env.columns
    ≡ shown f → Holds es st env.columns n q →
    Raises seen w f (cell_at (added (again_nodes es state text w env n) w o q)
    (again_column es text w env n)) (resignalling st state (scopes_of w seen) (perhaps_in w text) f)
again_goes None state text w o p seen env n r None f q l s h =
    (not_active, column_cell no_node not_active_cell w o q n l, refl)
again_goes None state text w o p seen env n r (Some a) f q l s h = absurd h
again_goes (Some c) state text w o p seen env n r None f q l s h = absurd h
again_goes (Some c) state text w o p seen env n r (Some a) f q l s h =
    let e = perhaps_emitted text (columns_in w) env n in
    let t = again_raises w seen state text a f (sight w o (added e.nodes w o q)) e.scalar c
    (text_yields w o text p env n f q r l s)
    (grows_at q (added e.nodes w o q) c (added_grows e.nodes w o q)
    (let b = h.1 in omega (arith, l, b)) ∙ h.3) in
    (t.0, column_cell e.nodes (again state text e.scalar c) w o q n l ∙ t.1, t.2)

pub resignal_sim : (w : Inputs) (o : List (List Cell)) → (seen : Seen) → Good w o seen →
    (level : ℕ) (state : Option (List ℕ)) (text : Perhaps) → PerhapsHolds text (ValueRight w) →
    Sim w o level (λ env here next n. emit_again env.stacked state text (columns_in w)
    (codes_of w seen) env here next n) (λ st. resignalling st state (scopes_of w seen)
    (perhaps_in w text))
resignal_sim w o seen good level state text p =
    let d : Option Area → Doing = λ st. resignalling st state (scopes_of w seen)
    (perhaps_in w text) in
    sim_same w o level (λ env here next n. one_raise (codes_of w seen) env here next n
    (again_nodes env.stacked state text w env n) (again_column env.stacked text w env n)) _ d
    (λ env here next n. again_is env.stacked state text w (codes_of w seen) env here next n)
    (raise_sim w o seen good level (λ env n. again_nodes env.stacked state text w env n)
    (λ env n. again_column env.stacked text w env n) d
    (λ env n q l. again_wide env.stacked state text w o env n q l)
    (λ env n r st f q s. again_goes env.stacked state text w o p seen env n r st f q s.long
    s.shows s.holds))

-- ---- GET STACKED DIAGNOSTICS

-- what the targets take, as cells
abbrev item_values : List Target → List Value → List Cell
item_values [] vs = []
item_values (t ∷ ts) [] = []
item_values (t ∷ ts) (v ∷ vs) = cell_end (ending_of (assigned t.data_type v)) ∷ item_values ts vs

item_ends : (ts : List Target) (vs : List Value) → values_of (item_values ts vs) ≡ take_values ts vs
item_ends [] vs = refl
item_ends (t ∷ ts) [] = refl
item_ends (t ∷ ts) (v ∷ vs) = values_more (ending_of (assigned t.data_type v)) (item_values ts vs)
    (take_values ts vs) (item_ends ts vs)

statement_gives : (item : StatementItem) (c : ℕ) (s : Sight) (a : Area) → cell_of (col c) s
    ≡ Cond a → cell_of (statement_cell item c) s ≡ Val (statement_item a item)
statement_gives Number c s a h = ap number_cell h
statement_gives RowCount c s a h = refl

statements_give : (reads : List StatementRead) (c : ℕ) (s : Sight) (a : Area) → cell_of (col c) s
    ≡ Cond a →
    cells_of (statement_cells reads c) s ≡ item_values (statement_targets reads)
    (statement_values a reads)
statements_give [] c s a h = refl
statements_give (r ∷ rs) c s a h =
    both (λ (x : Cell) (xs : List Cell). x ∷ xs) _ _ _ _
    (assigning_cell r.target.data_type (statement_cell r.item c) s (Ok (statement_item a r.item))
    (statement_gives r.item c s a h)) (statements_give rs c s a h)

statement_count : (reads : List StatementRead) (c : ℕ) → scalar_count (statement_cells reads c)
    ≡ length reads
statement_count [] c = refl
statement_count (r ∷ rs) c = ap suc (statement_count rs c)

target_count : (reads : List StatementRead) → length (statement_targets reads) ≡ length reads
target_count [] = refl
target_count (r ∷ rs) = ap suc (target_count rs)

statement_judged : (w : Inputs) (o : List (List Cell)) (seen : Seen) (env : Env) (here n : ℕ) →
    Rising 3 env.columns n → (reads : List StatementRead) (c : ℕ) (a : Area) (f : Frame)
    (q : List Cell) → length q ≡ n →
    cells_at q env.columns ≡ shown f → cell_at q c ≡ Cond a → c < n →
    let k = length reads in let pre = with_columns no_node (statement_cells reads c) (places n k) in
    Judged w o env here seen n q (added pre w o q)
    (target_stores (statement_targets reads) env n (n + k) n) (tag here) (n + k) f
    (getting_area (Some a) (scopes_of w seen) reads f)
statement_judged w o seen env here n r reads c a f q l s h u =
    let k = length reads in let ss = statement_cells reads c in
    let E = take_values (statement_targets reads) (statement_values a reads) in
    let cells : cells_of ss (sight w o q) ≡ item_values (statement_targets reads)
    (statement_values a reads) = statements_give reads c (sight w o q) a h in
    let values : values_of (cells_of ss (sight w o q)) ≡ E = ap values_of cells ∙ item_ends
    (statement_targets reads) (statement_values a reads) in
    many_judged w o env here seen n q (added (with_columns no_node ss (places n k)) w o q) (n + k) n
    f (statement_targets reads) E r l s
    (columns_test no_node ss (places n k) w o q n k l (statement_count reads c)
    ∙ ap (λ (cs : List Cell). guard (values_of cs))
    (columns_before no_node ss w o q n k l (statement_count reads c)) ∙ ap guard values)
    (λ xs e. ap (λ (j : ℕ). cells_at (added (with_columns no_node ss (places n k)) w o q)
    (places n j)) (target_count reads)
    ∙ (columns_cells no_node ss (places n k) w o q n k l (statement_count reads c)
    ∙ are_shown E (cells_of ss (sight w o q)) values xs e))

statement_wide : (w : Inputs) (o : List (List Cell)) (reads : List StatementRead) (c n : ℕ)
    (q : List Cell) → length q ≡ n →
    length (added (with_columns no_node (statement_cells reads c) (places n (length reads))) w o q)
    ≡ suc (n + length reads)
statement_wide w o reads c n q l = columns_wide no_node (statement_cells reads c)
    (places n (length reads)) w o q n (length reads) l (statement_count reads c)

statement_passes : (w : Inputs) (o : List (List Cell)) (seen : Seen) → Good w o seen →
    (es : Option ℕ) (reads : List StatementRead) (env : Env) (here next n : ℕ) → Ready env here next
    n →
    (k : ℕ) → k < next → nat_eq k here ≡ false → (q : List Cell) → length q ≡ n → cell_at q 0
    ≡ at k → run w o (emit_statement_items es reads (codes_of w seen) env here next n) q ≡ q
statement_passes w o seen good None reads env here next n r k u x q l c =
    raise_passes w o seen good env here next n r (with_column no_node not_stacked_cell) n k u x q l
    (column_wide no_node not_stacked_cell w o q n l) c
statement_passes w o seen good (Some i) reads env here next n r k u x q l c =
    one_passes w o seen good env here next n r
    (with_columns no_node (statement_cells reads i) (places n (length reads))) (n + length reads)
    (tag here) (target_stores (statement_targets reads) env n (n + length reads) n) k u x q l
    (statement_wide w o reads i n q l) c

statement_lands : (w : Inputs) (o : List (List Cell)) (seen : Seen) → Good w o seen →
    (es : Option ℕ) (reads : List StatementRead) (env : Env) (here next n : ℕ) → Ready env here next
    n →
    (st : Option Area) (f : Frame) (q : List Cell) → length q ≡ n → cells_at q env.columns
    ≡ shown f → Holds es st env.columns n q → cell_at q 0 ≡ at here →
    Lands env here n q (getting_area st (scopes_of w seen) reads f)
    (run w o (emit_statement_items es reads (codes_of w seen) env here next n) q)
statement_lands w o seen good None reads env here next n r None f q l s h c =
    raise_lands w o seen good env here next n r (with_column no_node not_stacked_cell) n f
    (raising (scopes_of w seen) not_stacked f) q l s
    (column_wide no_node not_stacked_cell w o q n l) c
    not_stacked (column_cell no_node not_stacked_cell w o q n l) refl
statement_lands w o seen good None reads env here next n r (Some a) f q l s h c = absurd h
statement_lands w o seen good (Some i) reads env here next n r None f q l s h c = absurd h
statement_lands w o seen good (Some i) reads env here next n r (Some a) f q l s h c =
    one_lands w o seen good env here next n r
    (with_columns no_node (statement_cells reads i) (places n (length reads))) (n + length reads)
    (tag here)
    (target_stores (statement_targets reads) env n (n + length reads) n) f
    (getting_area (Some a) (scopes_of w seen) reads f) q l s (statement_wide w o reads i n q l) c
    (statement_judged w o seen env here n r.rising reads i a f q l s h.3 h.1)

pub statement_items_sim : (w : Inputs) (o : List (List Cell)) (seen : Seen) → Good w o seen →
    (level : ℕ) (reads : List StatementRead) →
    Sim w o level (λ env here next n. emit_statement_items env.stacked reads (codes_of w seen) env
    here next n) (λ st. getting_area st (scopes_of w seen) reads)
statement_items_sim w o seen good level reads = record {
  passes = λ env here next n r k u x q l c. statement_passes w o seen good env.stacked reads env
      here next n r k u x q l c;
  lands = λ env here next n r v st f q s c. statement_lands w o seen good env.stacked reads env here
      next n r st f q s.long s.shows s.holds c;
}

-- ---- of one condition

condition_count : (reads : List ConditionRead) (i c : ℕ) → scalar_count (condition_cells reads i c)
    ≡ length reads
condition_count [] i c = refl
condition_count (r ∷ rs) i c = ap suc (condition_count rs i c)

read_count : (reads : List ConditionRead) → length (condition_targets reads) ≡ length reads
read_count [] = refl
read_count (r ∷ rs) = ap suc (read_count rs)

-- what the items of a condition are, where there is one
abbrev condition_ends : Option Condition → List ConditionRead → Ending (List Value)
condition_ends None reads = Err invalid_number
condition_ends (Some c) reads = take_values (condition_targets reads) (condition_values c reads)

-- an item of the condition of a number, which may not be there
abbrev item_end : ItemWord → Option Condition → Ending Value
item_end item None = Err invalid_number
item_end item (Some c) = Ok (item_of item c)

-- what the targets take of it, as cells
abbrev items_end : Option Condition → List ConditionRead → List Cell
items_end m [] = []
items_end m (r ∷ rs) = cell_end (after (item_end (word_of r.item) m)
    (λ v. ending_of (assigned r.target.data_type v))) ∷ items_end m rs

item_is : (item : ItemWord) (m : Option Condition) → item_or item m ≡ cell_end (item_end item m)
item_is item None = refl
item_is item (Some c) = refl

items_some : (c : Condition) (reads : List ConditionRead) → items_end (Some c) reads ≡ item_values
    (condition_targets reads) (condition_values c reads)
items_some c [] = refl
items_some c (r ∷ rs) = ap (λ (cs : List Cell). cell_end
    (ending_of (assigned r.target.data_type (item_of (word_of r.item) c))) ∷ cs) (items_some c rs)

items_all : (m : Option Condition) (reads : List ConditionRead) →
    guard (values_of (cell_end (item_end state_item m) ∷ items_end m reads))
    ≡ guard (condition_ends m reads)
items_all None reads = refl
items_all (Some c) reads =
    ap (λ (cs : List Cell). guard (values_of (Val (item_of state_item c) ∷ cs)))
    (items_some c reads)
    ∙ (ap guard (values_more (Ok (item_of state_item c))
    (item_values (condition_targets reads) (condition_values c reads))
    (take_values (condition_targets reads) (condition_values c reads))
    (item_ends (condition_targets reads) (condition_values c reads)))
    ∙ more_value (item_of state_item c) (take_values (condition_targets reads)
    (condition_values c reads)))
  where
    more_value : (v : Value) (E : Ending (List Value)) → guard (after E (λ vs. Ok (v ∷ vs)))
        ≡ guard E
    more_value v (Ok vs) = refl
    more_value v (Err a) = refl

items_give : (reads : List ConditionRead) (i c : ℕ) (s : Sight) (n : Value) (a : Area) →
    cell_of (col i) s ≡ Val n → cell_of (col c) s ≡ Cond a →
    cells_of (condition_cells reads i c) s ≡ items_end (condition_numbered n a) reads
items_give [] i c s n a h g = refl
items_give (r ∷ rs) i c s n a h g =
    both (λ (x : Cell) (xs : List Cell). x ∷ xs) _ _ _ _
    (assigning_cell r.target.data_type (item_cell (word_of r.item) i c) s
    (item_end (word_of r.item) (condition_numbered n a))
    (both (item_gives (word_of r.item)) _ _ _ _ h g ∙ item_is (word_of r.item)
    (condition_numbered n a)))
    (items_give rs i c s n a h g)

-- as one ending
abbrev number_ends : Ending Value → Area → List ConditionRead → Ending (List Value)
number_ends E a reads = after E (λ n. condition_ends (condition_numbered n a) reads)

number_doing : (scopes : Scopes) (E : Ending Value) (a : Area) (reads : List ConditionRead)
    (f : Frame) →
    with_end scopes E f (λ n. of_condition (condition_numbered n a) scopes reads) ≡ with_end scopes
    (number_ends E a reads) f (storing (condition_targets reads))
number_doing scopes (Err b) a reads f = refl
number_doing scopes (Ok n) a reads f = of_one (condition_numbered n a)
  where
    of_one : (m : Option Condition) → of_condition m scopes reads f ≡ with_end scopes
        (condition_ends m reads) f (storing (condition_targets reads))
    of_one None = refl
    of_one (Some c) = refl

all_cells : (E : Ending Value) (a : Area) (reads : List ConditionRead) (i c : ℕ) (s : Sight) →
    cell_of (col i) s ≡ cell_end E → cell_of (col c) s ≡ Cond a →
    guard (values_of (cells_of (more (item_cell state_item i c) (condition_cells reads i c)) s))
    ≡ guard (number_ends E a reads)
all_cells (Err b) a reads i c s h g = ap (λ (x : Cell). guard
    (values_of (item_gives state_item x (cell_of (col c) s) ∷ cells_of (condition_cells reads i c)
    s))) h
all_cells (Ok n) a reads i c s h g =
    both (λ (x : Cell) (xs : List Cell). guard (values_of (x ∷ xs))) _ _ _ _
    (both (item_gives state_item) _ _ _ _ h g ∙ item_is state_item (condition_numbered n a))
    (items_give reads i c s n a h g)
    ∙ items_all (condition_numbered n a) reads

own_cells : (E : Ending Value) (a : Area) (reads : List ConditionRead) (i c : ℕ) (s : Sight) →
    cell_of (col i) s ≡ cell_end E → cell_of (col c) s ≡ Cond a → (xs : List Value) → number_ends E
    a reads ≡ Ok xs →
    cells_of (condition_cells reads i c) s ≡ shown xs
own_cells (Err b) a reads i c s h g xs e = absurd (never_ok e)
  where
    never_ok : {A : Type 0} {b : Area} {xs : A} → Err b ≡ Ok xs → ⊥
    never_ok e = cc
own_cells (Ok n) a reads i c s h g xs e = items_give reads i c s n a h g
    ∙ found (condition_numbered n a) e
  where
    found : (m : Option Condition) → condition_ends m reads ≡ Ok xs → items_end m reads ≡ shown xs
    found None d = absurd cc
    found (Some c) d = items_some c reads ∙ are_shown
        (take_values (condition_targets reads) (condition_values c reads))
        (item_values (condition_targets reads) (condition_values c reads))
        (item_ends (condition_targets reads) (condition_values c reads)) xs d

-- the cells but the first
abbrev tail_of : List Cell → List Cell
tail_of [] = []
tail_of (c ∷ cs) = cs

condition_judged : (w : Inputs) (o : List (List Cell)) → (seen : Seen) (env : Env)
    (here n : ℕ) → Rising 3 env.columns n → (number : ValueLeaf) → ValueRight w number →
    (reads : List ConditionRead) (c : ℕ) (a : Area) (f : Frame) (q : List Cell) → length q ≡ n →
    cells_at q env.columns ≡ shown f → cell_at q c ≡ Cond a → c < n →
    let x = emitted number (columns_in w) env n in let i = width x.nodes n in let k =
    suc (length reads) in
    let pre = with_columns (with_column x.nodes x.scalar)
    (more (item_cell state_item i c) (condition_cells reads i c)) (places (suc i) k) in
    Judged w o env here seen n q (added pre w o q)
    (target_stores (condition_targets reads) env n (suc i + k) (suc (suc i))) (tag here) (suc i + k)
    f
    (getting_condition (Some a) (scopes_of w seen) (value_in w number) reads f)
condition_judged w o seen env here n r number p reads c a f q l s h u =
    let x = emitted number (columns_in w) env n in let i = width x.nodes n in let k =
    suc (length reads) in
    let before = with_column x.nodes x.scalar in let ss = more (item_cell state_item i c)
    (condition_cells reads i c) in
    let y = added before w o q in
    let E = number_ends (value_in w number f) a reads in
    let long : length y ≡ suc i = column_wide x.nodes x.scalar w o q n l in
    let many : scalar_count ss ≡ k = ap suc (condition_count reads i c) in
    let at_i : cell_at y i ≡ cell_end (value_in w number f) =
    column_cell x.nodes x.scalar w o q n l ∙ expr_yields w o number p env n f q r l s
    (added x.nodes w o q) (grows_same (added x.nodes w o q)) in
    let at_c : cell_at y c ≡ Cond a = grows_at q y c (added_grows before w o q) (omega (arith, l))
    ∙ h in
    let cells = columns_cells before ss (places (suc i) k) w o q (suc i) k long many in
    subst (λ (e : End). Judged w o env here seen n q
    (added (with_columns before ss (places (suc i) k)) w o q)
    (target_stores (condition_targets reads) env n (suc i + k) (suc (suc i))) (tag here) (suc i + k)
    f e)
    (sym (number_doing (scopes_of w seen) (value_in w number f) a reads f))
    (many_judged w o env here seen n q (added (with_columns before ss (places (suc i) k)) w o q)
    (suc i + k) (suc (suc i)) f (condition_targets reads) E r l s
    (columns_test before ss (places (suc i) k) w o q (suc i) k long many
    ∙ (ap (λ (cs : List Cell). guard (values_of cs))
    (columns_before before ss w o q (suc i) k long many)
    ∙ all_cells (value_in w number f) a reads i c (sight w o y) at_i at_c))
    (λ xs e. ap (λ (j : ℕ). cells_at (added (with_columns before ss (places (suc i) k)) w o q)
    (places (suc (suc i)) j)) (read_count reads)
    ∙ (ap tail_of cells ∙ own_cells (value_in w number f) a reads i c (sight w o y) at_i at_c xs
    e)))

condition_wide : (w : Inputs) (o : List (List Cell)) (number : ValueLeaf)
    (reads : List ConditionRead)
    (c : ℕ) (env : Env) (n : ℕ) (q : List Cell) → length q ≡ n →
    let x = emitted number (columns_in w) env n in let i = width x.nodes n in let k =
    suc (length reads) in
    length (added (with_columns (with_column x.nodes x.scalar)
    (more (item_cell state_item i c) (condition_cells reads i c)) (places (suc i) k)) w o q)
    ≡ suc (suc i + k)
condition_wide w o number reads c env n q l =
    let x = emitted number (columns_in w) env n in let i = width x.nodes n in let k =
    suc (length reads) in
    columns_wide (with_column x.nodes x.scalar)
    (more (item_cell state_item i c) (condition_cells reads i c)) (places (suc i) k) w o q (suc i) k
    (column_wide x.nodes x.scalar w o q n l) (ap suc (condition_count reads i c))

condition_passes : (w : Inputs) (o : List (List Cell)) (seen : Seen) → Good w o seen →
    (es : Option ℕ) (number : ValueLeaf) (reads : List ConditionRead) (env : Env)
    (here next n : ℕ) →
    Ready env here next n →
    (k : ℕ) → k < next → nat_eq k here ≡ false → (q : List Cell) → length q ≡ n → cell_at q 0
    ≡ at k →
    run w o (emit_condition_items es number reads (columns_in w) (codes_of w seen) env here next n)
    q ≡ q
condition_passes w o seen good None number reads env here next n r k u x q l c =
    raise_passes w o seen good env here next n r (with_column no_node not_stacked_cell) n k u x q l
    (column_wide no_node not_stacked_cell w o q n l) c
condition_passes w o seen good (Some i) number reads env here next n r k u x q l c =
    let a = emitted number (columns_in w) env n in let j = width a.nodes n in let m =
    suc (length reads) in
    one_passes w o seen good env here next n r
    (with_columns (with_column a.nodes a.scalar)
    (more (item_cell state_item j i) (condition_cells reads j i)) (places (suc j) m)) (suc j + m)
    (tag here)
    (target_stores (condition_targets reads) env n (suc j + m) (suc (suc j))) k u x q l
    (condition_wide w o number reads i env n q l) c

condition_lands : (w : Inputs) (o : List (List Cell)) → (seen : Seen) → Good w o seen →
    (es : Option ℕ) (number : ValueLeaf) → ValueRight w number → (reads : List ConditionRead)
    (env : Env)
    (here next n : ℕ) → Ready env here next n →
    (st : Option Area) (f : Frame) (q : List Cell) → length q ≡ n → cells_at q env.columns
    ≡ shown f → Holds es st env.columns n q → cell_at q 0 ≡ at here →
    Lands env here n q (getting_condition st (scopes_of w seen) (value_in w number) reads f)
    (run w o (emit_condition_items es number reads (columns_in w) (codes_of w seen) env here next n)
    q)
condition_lands w o seen good None number p reads env here next n r None f q l s h c =
    raise_lands w o seen good env here next n r (with_column no_node not_stacked_cell) n f
    (raising (scopes_of w seen) not_stacked f) q l s
    (column_wide no_node not_stacked_cell w o q n l) c
    not_stacked (column_cell no_node not_stacked_cell w o q n l) refl
condition_lands w o seen good None number p reads env here next n r (Some a) f q l s h c =
    absurd h
condition_lands w o seen good (Some i) number p reads env here next n r None f q l s h c =
    absurd h
condition_lands w o seen good (Some i) number p reads env here next n r (Some a) f q l s h c =
    let x = emitted number (columns_in w) env n in let j = width x.nodes n in let k =
    suc (length reads) in
    one_lands w o seen good env here next n r
    (with_columns (with_column x.nodes x.scalar)
    (more (item_cell state_item j i) (condition_cells reads j i)) (places (suc j) k)) (suc j + k)
    (tag here)
    (target_stores (condition_targets reads) env n (suc j + k) (suc (suc j))) f
    (getting_condition (Some a) (scopes_of w seen) (value_in w number) reads f) q l s
    (condition_wide w o number reads i env n q l) c
    (condition_judged w o seen env here n r.rising number p reads i a f q l s h.3 h.1)

pub condition_items_sim : (w : Inputs) (o : List (List Cell)) → (seen : Seen) →
    Good w o seen → (level : ℕ) (number : ValueLeaf) → ValueRight w number →
    (reads : List ConditionRead) →
    Sim w o level (λ env here next n. emit_condition_items env.stacked number reads (columns_in w)
    (codes_of w seen) env here next n)
    (λ st. getting_condition st (scopes_of w seen) (value_in w number) reads)
condition_items_sim w o seen good level number p reads = record {
  passes = λ env here next n r k u x q l c. condition_passes w o seen good env.stacked number reads
      env here next n r k u x q l c;
  lands = λ env here next n r v st f q s c. condition_lands w o seen good env.stacked number p
      reads env here next n r st f q s.long s.shows s.holds c;
}
