-- Conjuncts and lists, row by row.
use Rattle.std.proofs.Common.{zero, ◌&&◌, Option, Some, None, ◌≡◌, ℕ, Bool, true, false, cond, List}
use Rattle.std.proofs.Common.{[], ◌∷◌, ◌++◌, length, refl, ap, sym, ◌∙◌, subst, append_assoc}
use Rattle.std.proofs.lemmas.List.{append-nil}
use Rattle.sql_values.specs.Values.{is_true}
use Rattle.sql_values.specs.declared.value.Value.{Value}
use Rattle.sql_values.specs.declared.value.Value.TheVariants.{Bool as Truth}
use Rattle.row_types.specs.Cells.{PlanRow, Poisoned, Whole}
use Rattle.row_types.specs.Rows.{Row}
use Rattle.row_types.specs.declared.cell.Cell.{Cell}
use Rattle.row_types.specs.declared.cell.Cell.TheVariants.{Val}
use Rattle.rel_algebra.specs.Emit.{Emitted, EmittedAll, Env, Key, Place, Waiting, all_true}
use Rattle.rel_algebra.specs.Emit.{all_waiting, at, emit, emit_all, emit_tests, entered, filters}
use Rattle.rel_algebra.specs.Emit.{filters_width, given, joined_nodes, key_of, key_step, listed}
use Rattle.rel_algebra.specs.Emit.{listed_by, none_waits, nowhere, one_column, one_param}
use Rattle.rel_algebra.specs.Emit.{own_places, scalar_count, selected, test_step, truths, turned}
use Rattle.rel_algebra.specs.Emit.{width, with_place}
use Rattle.rel_algebra.specs.Endings.{Ending, after, cell_end, op_value}
use Rattle.rel_algebra.specs.Joins.{places}
use Rattle.rel_algebra.specs.Plain.{Inputs, Scope, columns_in, each_of, ev, ev_all, holds, kept_if}
use Rattle.rel_algebra.specs.Plain.{list_where, within}
use Rattle.rel_algebra.specs.Plan.{Nodes, PlanTree, Scalar, Scalars, Sight, added, and_cell}
use Rattle.rel_algebra.specs.Plan.{cell_at, cell_of, cells_at, cells_of, collected, column, den}
use Rattle.rel_algebra.specs.Plan.{each, extend_by, filter, finished, kept, more, no_node, none}
use Rattle.rel_algebra.specs.Plan.{on_each, shown, sight, strictly, values_of}
use Rattle.rel_algebra.specs.Theorem.{Agrees, Fits, outside}
use Rattle.rel_algebra.specs.Tree.{Expr, Exprs, MoreExprs, NoExpr, TrueTest}
use Rattle.rel_algebra.proofs.Growing.{Grows, first_columns, grown_columns, grows_same, grows_trans}
use Rattle.rel_algebra.proofs.Growing.{shown_long}
use Rattle.rel_algebra.proofs.Conjuncts.{KeyRight, KeyValue, key_right}
use Rattle.rel_algebra.proofs.Nodes.{Reads, Yields, YieldsAll, added_grows, added_join, added_long}
use Rattle.rel_algebra.proofs.Nodes.{cells_long, entered_reads, on_each_den, reads_on}
use Rattle.rel_algebra.proofs.Right.{AllRight, all_right}
use Rattle.rel_algebra.proofs.Rows.{WideEnd, collected_each, each_each, each_same, each_whole}
use Rattle.rel_algebra.proofs.Rows.{values_shown}
use Rattle.rel_algebra.proofs.Words.{ends_of, values_ends}
use Rattle.std.proofs.Common.{Err, Ok}

-- what tests leave of a row
abbrev pub filtered : List Emitted → Inputs → List (List Cell) → List Cell → List PlanRow
filtered [] w o q = Whole q ∷ []
filtered (a ∷ ems) w o q =
    each (filtered ems w o) (kept (cell_of a.scalar (sight w o (added a.nodes w o q)))
    (added a.nodes w o q))

pub filters_den : (ems : List Emitted) (input : PlanTree) (w : Inputs) (o : List (List Cell)) →
    den (filters ems input) w o ≡ each (filtered ems w o) (den input w o)
filters_den [] input w o = sym (each_whole (den input w o))
filters_den (a ∷ ems) input w o =
    let wide : List Cell → List PlanRow = λ q. Whole (added a.nodes w o q) ∷ [] in
    let test : List Cell → List PlanRow = λ q. kept (cell_of a.scalar (sight w o q)) q in
    filters_den ems (filter a.scalar (on_each a.nodes input)) w o
    ∙ (ap (each (filtered ems w o)) (ap (each test) (on_each_den a.nodes input w o)
    ∙ each_each wide test (den input w o) ∙ each_same
    (λ q. each test (wide q)) (λ q. test (added a.nodes w o q)) (den input w o)
    (λ q. append-nil (test (added a.nodes w o q))))
    ∙ each_each (λ q. test (added a.nodes w o q)) (filtered ems w o) (den input w o))

-- a row is poisoned, gone, or has grown
abbrev pub Passed : Ending Bool → ℕ → List Cell → List PlanRow → Type 0
Passed (Err s) m q rows = rows ≡ Poisoned s ∷ []
Passed (Ok false) m q rows = rows ≡ []
Passed (Ok true) m q rows = (z : List Cell) × (rows ≡ Whole z ∷ []) × Grows q z × (length z ≡ m)

passed_on : (d : Ending Bool) (m : ℕ) (q z : List Cell) (rows : List PlanRow) → Grows q z →
    Passed d m z rows → Passed d m q rows
passed_on (Err s) m q z rows g p = p
passed_on (Ok false) m q z rows g p = p
passed_on (Ok true) m q z rows g p = (p.0, p.1, grows_trans q z p.0 g p.2, p.3)

pass_value : (b : Bool) (d : Ending Bool) (m : ℕ) (q z : List Cell) (go : List Cell →
    List PlanRow) → Grows q z → Passed d m z (go z) →
    Passed (cond b d (Ok false)) m q (each go (cond b (Whole z ∷ []) []))
pass_value true d m q z go g p =
    passed_on d m q z (go z ++ []) g (subst (Passed d m z) (sym (append-nil (go z))) p)
pass_value false d m q z go g p = refl

pass_cell : (v : Ending Value) (d : Ending Bool) (m : ℕ) (q z : List Cell) (go : List Cell →
    List PlanRow) → Grows q z → Passed d m z (go z) →
    Passed (after v (λ x. cond (is_true x) d (Ok false))) m q (each go (kept (cell_end v) z))
pass_cell (Err s) d m q z go g p = refl
pass_cell (Ok x) d m q z go g p = pass_value (is_true x) d m q z go g p

-- Conjuncts that wait: they raise nothing on the row q, and b is whether all are true.
abbrev pub Waits : List Emitted → Inputs → List (List Cell) → List Cell → Bool → Type 0
Waits [] w o q b = b ≡ true
Waits (a ∷ ems) w o q b = (v : Value) × (a.nodes ≡ no_node)
    × (cell_of a.scalar (sight w o q) ≡ Val v) × (c : Bool) × Waits ems w o q c ×
    (b ≡ (is_true v && c))

and_assoc : (a b c : Bool) → ((a && b) && c) ≡ (a && (b && c))
and_assoc true b c = refl
and_assoc false b c = refl

and_one : (a : Bool) → (a && true) ≡ a
and_one true = refl
and_one false = refl

waits_more : (ems : List Emitted) (a : Emitted) (w : Inputs) (o : List (List Cell)) (q : List Cell)
    (b : Bool) (v : Value) → Waits ems w o q b →
    a.nodes ≡ no_node → cell_of a.scalar (sight w o q) ≡ Val v →
    Waits (ems ++ a ∷ []) w o q (b && is_true v)
waits_more [] a w o q b v h n c =
    (v, n, c, true, refl, ap (λ t. t && is_true v) h ∙ sym (and_one (is_true v)))
waits_more (x ∷ ems) a w o q b v h n c = (
  h.0,
  h.1,
  h.2,
  h.3 && is_true v,
  waits_more ems a w o q h.3 v h.4 n c,
  ap (λ t. t && is_true v) h.5 ∙ and_assoc (is_true h.0) h.3 (is_true v),
)

and_turned : (a b : Bool) → (a && b) ≡ (b && a)
and_turned true true = refl
and_turned true false = refl
and_turned false true = refl
and_turned false false = refl

-- one more in their midst
waits_among : (ems rest : List Emitted) (a : Emitted) (w : Inputs) (o : List (List Cell))
    (q : List Cell) (b : Bool) (v : Value) →
    Waits (ems ++ rest) w o q b → a.nodes ≡ no_node → cell_of a.scalar (sight w o q) ≡ Val v →
    Waits ((ems ++ a ∷ []) ++ rest) w o q (b && is_true v)
waits_among [] rest a w o q b v h n c = (v, n, c, b, h, and_turned b (is_true v))
waits_among (x ∷ ems) rest a w o q b v h n c = (
  h.0,
  h.1,
  h.2,
  h.3 && is_true v,
  waits_among ems rest a w o q h.3 v h.4 n c,
  ap (λ t. t && is_true v) h.5 ∙ and_assoc (is_true h.0) h.3
      (is_true v),
)

param_waits : (p : Waiting) (a : Emitted) (w : Inputs) (o : List (List Cell)) (q : List Cell)
    (b : Bool) (v : Value) → Waits (all_waiting p) w o q b →
    a.nodes ≡ no_node → cell_of a.scalar (sight w o q) ≡ Val v →
    Waits (all_waiting (one_param a p)) w o q (b && is_true v)
param_waits p a w o q b v h n c = waits_among p.params p.columns a w o q b v h n c

column_waits : (p : Waiting) (a : Emitted) (w : Inputs) (o : List (List Cell)) (q : List Cell)
    (b : Bool) (v : Value) →
    Waits (all_waiting p) w o q b → a.nodes ≡ no_node → cell_of a.scalar (sight w o q) ≡ Val v →
    Waits (all_waiting (one_column a p)) w o q (b && is_true v)
column_waits p a w o q b v h n c =
    subst (λ (ems : List Emitted). Waits ems w o q (b && is_true v))
    (append_assoc p.params p.columns (a ∷ []))
    (waits_more (p.params ++ p.columns) a w o q b v h n c)

one_waits : (nodes : Nodes) (s : Scalar) (w : Inputs) (o : List (List Cell)) (q : List Cell)
    (v : Value) (go : List Cell → List PlanRow) →
    nodes ≡ no_node → cell_of s (sight w o q) ≡ Val v →
    each go (kept (cell_of s (sight w o (added nodes w o q))) (added nodes w o q))
    ≡ cond (is_true v) (go q) []
one_waits nodes s w o q v go n c =
    ap (λ (ns : Nodes). each go (kept (cell_of s (sight w o (added ns w o q))) (added ns w o q))) n
    ∙
    (ap (λ (d : Cell). each go (kept d q)) c ∙ kept_value (is_true v))
  where
    kept_value : (t : Bool) → each go (cond t (Whole q ∷ []) []) ≡ cond t (go q) []
    kept_value true = append-nil (go q)
    kept_value false = refl

two_conds : (a b c : Bool) (xs : List PlanRow) → c ≡ (a && b) →
    cond a (cond b xs []) [] ≡ cond c xs []
two_conds true b c xs h = ap (λ t. cond t xs []) (sym h)
two_conds false b c xs h = ap (λ t. cond t xs []) (sym h)

-- those that wait go on alone or not at all
waits_filtered : (ems rest : List Emitted) (w : Inputs) (o : List (List Cell)) (q : List Cell)
    (b : Bool) → Waits ems w o q b →
    filtered (ems ++ rest) w o q ≡ cond b (filtered rest w o q) []
waits_filtered [] rest w o q b h = ap (λ t. cond t (filtered rest w o q) []) (sym h)
waits_filtered (a ∷ ems) rest w o q b h =
    one_waits a.nodes a.scalar w o q h.0 (filtered (ems ++ rest) w o) h.1 h.2
    ∙ (ap (λ (rows : List PlanRow). cond (is_true h.0) rows [])
    (waits_filtered ems rest w o q h.3 h.4) ∙ two_conds (is_true h.0) h.3 b
    (filtered rest w o q) h.5)

waits_width : (ems rest : List Emitted) (w : Inputs) (o : List (List Cell)) (q : List Cell)
    (b : Bool) (n : ℕ) → Waits ems w o q b →
    filters_width (ems ++ rest) n ≡ filters_width rest n
waits_width [] rest w o q b n h = refl
waits_width (a ∷ ems) rest w o q b n h =
    ap (λ (nodes : Nodes). filters_width (ems ++ rest) (width nodes n)) h.1
    ∙ waits_width ems rest w o q h.3 n
    h.4

-- what is passed, where all that wait are true
abbrev pub both_ends : Bool → Ending Bool → Ending Bool
both_ends b d = cond b d (Ok false)

end_passes : (b : Bool) (m n : ℕ) (q : List Cell) (rows : List PlanRow) → length q ≡ n → n ≡ m →
    rows ≡ cond b (Whole q ∷ []) [] →
    Passed (both_ends b (Ok true)) m q rows
end_passes true m n q rows l e h = (q, h, grows_same q, l ∙ e)
end_passes false m n q rows l e h = h

flushed : (b : Bool) (d : Ending Bool) (m : ℕ) (q : List Cell) (xs rows : List PlanRow) →
    Passed d m q xs → rows ≡ cond b xs [] →
    Passed (both_ends b d) m q rows
flushed true d m q xs rows h e = subst (Passed d m q) (sym e) h
flushed false d m q xs rows h e = e

-- one more that waits
joins : (b : Bool) (v : Value) (d : Ending Bool) → both_ends (b && is_true v) d
    ≡ both_ends b (both_ends (is_true v) d)
joins true v d = refl
joins false v d = refl

-- one that doesn't
passes_by : (t b : Bool) (d : Ending Bool) (m : ℕ) (q : List Cell) (xs rows : List PlanRow) →
    Passed (both_ends b d) m q xs → rows ≡ cond t xs [] →
    Passed (both_ends b (both_ends t d)) m q rows
passes_by true b d m q xs rows h e = subst (Passed (both_ends b d) m q) (sym e) h
passes_by false true d m q xs rows h e = e
passes_by false false d m q xs rows h e = e

abbrev pub Going : (Waiting → ℕ → List Emitted) → Inputs → List (List Cell) → List Cell → ℕ →
    Ending Bool → Type 0
Going rest w o q n d = (p : Waiting) (c : Bool) → Waits (all_waiting p) w o q c →
    Passed (both_ends c d) (filters_width (rest p n) n) q
    (filtered (rest p n) w o q)

key_waits : (key : Key) (x : Expr) (rest : Waiting → ℕ →
    List Emitted) (w : Inputs) (o : List (List Cell)) (f : Scope) (q : List Cell) (n : ℕ)
    (d : Ending Bool) (p : Waiting) (b : Bool) →
    (k : KeyValue key x w f (sight w o q)) → Waits (all_waiting p) w o q (b && is_true k.value) →
    Going rest w o q n d →
    Passed (both_ends b (after (ev x w f) (λ v. cond (is_true v) d (Ok false))))
    (filters_width (rest p n) n) q (filtered (rest p n) w o q)
key_waits key x rest w o f q n d p b k h go =
    subst (λ (z : Ending Bool). Passed z (filters_width (rest p n) n) q (filtered (rest p n) w o q))
    (joins b k.value d ∙ ap (λ (u : Ending Value). both_ends b
    (after u (λ v. cond (is_true v) d (Ok false)))) (sym k.means))
    (go p (b && is_true k.value) h)

key_goes : (key : Key) (x : Expr) (rest : Waiting → ℕ →
    List Emitted) (w : Inputs) (o : List (List Cell)) (f : Scope) (q : List Cell) (n : ℕ)
    (d : Ending Bool) (p : Waiting) (b : Bool) →
    Waits (all_waiting p) w o q b → KeyValue key x w f (sight w o q) → Going rest w o q n d →
    Passed (both_ends b (after (ev x w f) (λ v. cond (is_true v) d (Ok false))))
    (filters_width (rest p n) n) q
    (filtered (turned key.own key.other ∷ rest p n) w o q)
key_goes key x rest w o f q n d p b h k go =
    let t = turned key.own key.other in let all = rest p n in
    subst (λ (u : Ending Value). Passed (both_ends b (after u (λ v. cond (is_true v) d (Ok false))))
    (filters_width all n) q
    (filtered (t ∷ all) w o q)) (sym k.means)
    (passes_by (is_true k.value) b d (filters_width all n) q (filtered all w o q)
    (filtered (t ∷ all) w o q) (go p b h)
    (one_waits no_node t.scalar w o q k.value (filtered all w o) refl k.cell))

key_passes : (of_column : Bool) (place : Place) (key : Key) (x : Expr) (rest : Waiting → ℕ →
    List Emitted) (w : Inputs) (o : List (List Cell))
    (f : Scope) (q : List Cell) (n : ℕ) (d : Ending Bool) (pending : Waiting) (b : Bool) →
    Waits (all_waiting pending) w o q b → KeyValue key x w f (sight w o q) → Going rest w o q n d →
    Passed (both_ends b (after (ev x w f) (λ v. cond (is_true v) d (Ok false))))
    (filters_width (key_step of_column place (turned key.own key.other) rest pending n) n) q
    (filtered (key_step of_column place (turned key.own key.other) rest pending n) w o q)
key_passes true (at level i) key x rest w o f q n d pending b h k go =
    let t = turned key.own key.other in key_waits key x rest w o f q n d (one_column t pending) b k
    (column_waits pending t w o q b k.value h refl k.cell) go
key_passes true (given i) key x rest w o f q n d pending b h k go =
    key_goes key x rest w o f q n d pending b h k go
key_passes true nowhere key x rest w o f q n d pending b h k go =
    key_goes key x rest w o f q n d pending b h k go
key_passes false (at level i) key x rest w o f q n d pending b h k go =
    let t = turned key.own key.other in key_waits key x rest w o f q n d (one_param t pending) b k
    (param_waits pending t w o q b k.value h refl k.cell) go
key_passes false (given i) key x rest w o f q n d pending b h k go =
    let t = turned key.own key.other in key_waits key x rest w o f q n d (one_param t pending) b k
    (param_waits pending t w o q b k.value h refl k.cell) go
key_passes false nowhere key x rest w o f q n d pending b h k go =
    key_goes key x rest w o f q n d pending b h k go

test_passes : (key : Option Key) (x : Expr) (a : Emitted) (rest : Waiting → ℕ →
    List Emitted) (w : Inputs) (o : List (List Cell)) (f : Scope)
    (q : List Cell) (n : ℕ) (d : Ending Bool) (pending : Waiting) (b : Bool) →
    length q ≡ n → Waits (all_waiting pending) w o q b → Yields a w o q (cell_end (ev x w f)) →
    KeyRight key x w f (sight w o q) →
    Going rest w o q n d →
    ((z : List Cell) → length z ≡ width a.nodes n → Grows q z →
    Passed d (filters_width (rest none_waits (width a.nodes n)) (width a.nodes n)) z
    (filtered (rest none_waits (width a.nodes n)) w o z)) →
    Passed (both_ends b (after (ev x w f) (λ v. cond (is_true v) d (Ok false))))
    (filters_width (test_step key a rest pending n) n) q
    (filtered (test_step key a rest pending n) w o q)
test_passes (Some key) x a rest w o f q n d pending b l h ya k go after_it =
    key_passes key.of_column key.other key x rest w o f q n d pending b h k
    go
test_passes None x a rest w o f q n d pending b l h ya k go after_it =
    let z = added a.nodes w o q in let m = width a.nodes n in let others = rest none_waits m in
    let end = filters_width others m in
    let one : Passed (after (ev x w f) (λ v. cond (is_true v) d (Ok false))) end q
    (filtered (a ∷ others) w o q) =
    subst (λ (c : Cell). Passed (after (ev x w f) (λ v. cond (is_true v) d (Ok false))) end q
    (each (filtered others w o) (kept c z)))
    (sym (ya z (grows_same z)))
    (pass_cell (ev x w f) d end q z (filtered others w o) (added_grows a.nodes w o q)
    (after_it z (added_long a.nodes w o q n l) (added_grows a.nodes w o q))) in
    subst (λ (i : ℕ). Passed (both_ends b (after (ev x w f) (λ v. cond (is_true v) d (Ok false)))) i
    q
    (filtered (all_waiting pending ++ a ∷ others) w o q))
    (sym (waits_width (all_waiting pending) (a ∷ others) w o q b n h))
    (flushed b (after (ev x w f) (λ v. cond (is_true v) d (Ok false))) end q
    (filtered (a ∷ others) w o q)
    (filtered (all_waiting pending ++ a ∷ others) w o q) one
    (waits_filtered (all_waiting pending) (a ∷ others) w o q b h))

tests_go : (es : Exprs) → AllRight es → (w : Inputs) → Fits w →
    (o : List (List Cell)) (f : Scope) (e : Env) (n : ℕ) (q : List Cell) → length q ≡ n →
    Reads e w o f q → (pending : Waiting) (b : Bool) → Waits (all_waiting pending) w o q b →
    Passed (both_ends b (holds es w f)) (filters_width (emit_tests es (columns_in w) e pending n) n)
    q
    (filtered (emit_tests es (columns_in w) e pending n) w o q)
tests_go NoExpr h w fits o f e n q l r pending b p =
    end_passes b (filters_width (all_waiting pending) n) n q (filtered (all_waiting pending) w o q)
    l
    (sym (ap (λ (ems : List Emitted). filters_width ems n) (sym (append-nil (all_waiting pending)))
    ∙ waits_width (all_waiting pending) [] w o q b n
    p))
    (ap (λ (ems : List Emitted). filtered ems w o q) (sym (append-nil (all_waiting pending)))
    ∙ waits_filtered (all_waiting pending) [] w o q b p)
tests_go (MoreExprs x es) h w fits o f e n q l r pending b p =
    test_passes (key_of x e) x (emit x (columns_in w) e n) (emit_tests es (columns_in w) e) w o f q
    n (holds es w f) pending b l p
    (h.0 w fits o f e n q l r) (key_right x e w f (sight w o q) (r q (grows_same q)))
    (λ p c hp. tests_go es h.1 w fits o f e n q l r p c hp)
    (λ z lz gz. tests_go es h.1 w fits o f e (width (emit x (columns_in w) e n).nodes n) z lz
    (reads_on e w o f q z r gz) none_waits true refl)

pub tests_pass : (es : Exprs) → AllRight es → (w : Inputs) → Fits w →
    (o : List (List Cell)) (f : Scope) (e : Env) (n : ℕ) (q : List Cell) →
    length q ≡ n → Reads e w o f q →
    Passed (holds es w f) (filters_width (emit_tests es (columns_in w) e none_waits n) n) q
    (filtered (emit_tests es (columns_in w) e none_waits n) w o q)
tests_pass es h w fits o f e n q l r = tests_go es h w fits o f e n q l r none_waits true refl

-- The list.
abbrev pub list_row_by : Option (List ℕ) → EmittedAll → ℕ → Inputs → List (List Cell) → List Cell →
    List PlanRow
list_row_by (Some is) a n w o q = Whole (cells_at (added a.nodes w o q) is) ∷ []
list_row_by None a n w o q =
    Whole (cells_at (added (joined_nodes a.nodes (extend_by a.scalars no_node)) w o q)
    (places (width a.nodes n) (scalar_count a.scalars))) ∷ []

abbrev pub list_row : EmittedAll → ℕ → Inputs → List (List Cell) → List Cell → List PlanRow
list_row a n w o q = list_row_by (own_places a.scalars) a n w o q

listed_by_den : (own : Option (List ℕ)) (a : EmittedAll) (n : ℕ) (input : PlanTree) (w : Inputs)
    (o : List (List Cell)) →
    den (listed_by own a n input) w o ≡ each (list_row_by own a n w o) (den input w o)
listed_by_den (Some is) a n input w o =
    ap (each (λ q. Whole (cells_at q is) ∷ [])) (on_each_den a.nodes input w o)
    ∙ each_each (λ q. Whole (added a.nodes w o q) ∷ []) (λ q. Whole (cells_at q is) ∷ [])
    (den input w o)
listed_by_den None a n input w o =
    ap (each (λ q. Whole (cells_at q (places (width a.nodes n) (scalar_count a.scalars))) ∷ []))
    (on_each_den (joined_nodes a.nodes (extend_by a.scalars no_node)) input w o)
    ∙ each_each (λ q. Whole (added (joined_nodes a.nodes (extend_by a.scalars no_node)) w o q) ∷ [])
    (λ q. Whole (cells_at q (places (width a.nodes n) (scalar_count a.scalars))) ∷ [])
    (den input w o)

pub listed_den : (a : EmittedAll) (n : ℕ) (input : PlanTree) (w : Inputs) (o : List (List Cell)) →
    den (listed a n input) w o ≡ each (list_row a n w o) (den input w o)
listed_den a n input w o = listed_by_den (own_places a.scalars) a n input w o

-- the places of columns
abbrev pub OwnRight : Option (List ℕ) → Scalars → Type 0
OwnRight None ss = Unit {0}
OwnRight (Some is) ss = (w : Inputs) (o : List (List Cell)) (z : List Cell) →
    cells_at z is ≡ cells_of ss (sight w o z)

own_more : (i : ℕ) (own : Option (List ℕ)) (ss : Scalars) → OwnRight own ss →
    OwnRight (with_place i own) (more (column zero i) ss)
own_more i None ss h = tt
own_more i (Some is) ss h = λ w o z. ap (λ (cs : List Cell). cell_at z i ∷ cs) (h w o z)

own_right : (ss : Scalars) → OwnRight (own_places ss) ss
own_right none = λ w o z. refl
own_right (more (column zero i) ss) = own_more i (own_places ss) ss (own_right ss)
own_right (more _ ss) = tt

list_by_cells : (own : Option (List ℕ)) (a : EmittedAll) (n : ℕ) (w : Inputs) (o : List (List Cell))
    (q cs : List Cell) → OwnRight own a.scalars →
    length q ≡ n → YieldsAll a w o q cs → list_row_by own a n w o q ≡ Whole cs ∷ []
list_by_cells (Some is) a n w o q cs h l y =
    let z = added a.nodes w o q in
    ap (λ (ds : List Cell). Whole ds ∷ []) (h w o z ∙ y z (grows_same z))
list_by_cells None a n w o q cs h l y =
    let z = added a.nodes w o q in let same : cells_of a.scalars (sight w o z)
    ≡ cs = y z (grows_same z) in
    ap (λ (ds : List Cell). Whole ds ∷ [])
    (ap (λ (r : List Cell). cells_at r (places (width a.nodes n) (scalar_count a.scalars)))
    (added_join a.nodes (extend_by a.scalars no_node) w o q ∙ ap (λ (ds : List Cell). z ++ ds) same)
    ∙ grown_columns z cs (z ++ cs) (width a.nodes n) (scalar_count a.scalars)
    (added_long a.nodes w o q n l)
    (ap (λ (ds : List Cell). length ds) (sym same) ∙ cells_long a.scalars (sight w o z))
    (grows_same (z ++ cs)))

pub list_cells : (a : EmittedAll) (n : ℕ) (w : Inputs) (o : List (List Cell)) (q cs : List Cell) →
    length q ≡ n → YieldsAll a w o q cs →
    list_row a n w o q ≡ Whole cs ∷ []
list_cells a n w o q cs l y =
    list_by_cells (own_places a.scalars) a n w o q cs (own_right a.scalars) l y

pub passed_listed : (e : Ending Bool) (m : ℕ) (q : List Cell) (rows : List PlanRow)
    (list : List Cell → List PlanRow) (cs : List Cell) →
    Passed e m q rows → ((z : List Cell) → Grows q z → length z ≡ m → list z ≡ Whole cs ∷ []) →
    collected (each list rows) ≡ list_where e (values_of cs)
passed_listed (Err s) m q rows list cs p h = ap (λ (rs : List PlanRow). collected (each list rs)) p
passed_listed (Ok false) m q rows list cs p h =
    ap (λ (rs : List PlanRow). collected (each list rs)) p
passed_listed (Ok true) m q rows list cs p h =
    ap (λ (rs : List PlanRow). collected (each list rs)) p.1 ∙ ap
    (λ (rs : List PlanRow). collected (rs ++ [])) (h p.0 p.2 p.3)

-- tests and then a list on a row
abbrev pub selected_row : (ℕ → List Emitted) → (ℕ → EmittedAll) → ℕ → Inputs → List (List Cell) →
    List Cell → List PlanRow
selected_row tests list n w o q =
    each (list_row (list (filters_width (tests n) n)) (filters_width (tests n) n) w o)
    (filtered (tests n) w o q)

pub selected_den : (tests : ℕ → List Emitted) (list : ℕ → EmittedAll) (n : ℕ) (input : PlanTree)
    (w : Inputs) (o : List (List Cell)) →
    den (selected tests list n input) w o ≡ each (selected_row tests list n w o) (den input w o)
selected_den tests list n input w o =
    let m = filters_width (tests n) n in
    listed_den (list m) m (filters (tests n) input) w o
    ∙ (ap (each (list_row (list m) m w o)) (filters_den (tests n) input w o)
    ∙ each_each (filtered (tests n) w o) (list_row (list m) m w o)
    (den input w o))

-- what a query makes of one row
abbrev pub row_of : Exprs → Exprs → Inputs → Scope → Row → Ending (List Row)
row_of tests items w f r = list_where (holds tests w (within f r)) (ev_all items w (within f r))

pub row_selected : (tests items : Exprs) → AllRight tests → AllRight items → (w : Inputs) → Fits w →
    (o : List (List Cell)) (f : Scope) (e : Env) →
    Agrees e (outside w o) f → (n : ℕ) (r : Row) → length r ≡ n →
    collected (selected_row (emit_tests tests (columns_in w) (entered e n) none_waits)
    (emit_all items (columns_in w) (entered e n)) n w o (shown r))
    ≡ row_of tests items w f r
row_selected tests items ht hi w fits o f e ag n r l =
    let S = (columns_in w) in let inner = entered e n in
    let ts = emit_tests tests S inner none_waits n in let m = filters_width ts n in
    let reads : Reads inner w o (within f r) (shown r) = entered_reads e w o f n r l ag in
    let cs = ends_of items w (within f r) in
    passed_listed (holds tests w (within f r)) m (shown r) (filtered ts w o (shown r))
    (list_row (emit_all items S inner m) m w o) cs
    (tests_pass tests ht w fits o (within f r) inner n (shown r) (shown_long r ∙ l) reads)
    (λ z g lz. list_cells (emit_all items S inner m) m w o z cs lz
    (all_right items hi w fits o (within f r) inner m z lz
    (reads_on inner w o (within f r) (shown r) z reads g)))
    ∙ ap (list_where (holds tests w (within f r))) (values_ends items w (within f r))

-- on a finished list
pub selected_collected : (tests items : Exprs) → AllRight tests → AllRight items → (w : Inputs) →
    Fits w →
    (o : List (List Cell)) (f : Scope) (e : Env) → Agrees e (outside w o) f →
    (n : ℕ) (input : PlanTree) (end : Ending (List Row)) →
    den input w o ≡ finished end → WideEnd n end →
    collected (den (selected (emit_tests tests (columns_in w) (entered e n) none_waits)
    (emit_all items (columns_in w) (entered e n)) n input) w o) ≡
    after end (λ rs. each_of (row_of tests items w f) rs)
selected_collected tests items ht hi w fits o f e ag n input end h wide =
    let S = (columns_in w) in
    let row = selected_row (emit_tests tests S (entered e n) none_waits)
    (emit_all items S (entered e n)) n w o in
    ap collected (selected_den (emit_tests tests S (entered e n) none_waits)
    (emit_all items S (entered e n)) n input w o ∙ ap (each row) h)
    ∙ collected_each n row (row_of tests items w f)
    (λ r l. row_selected tests items ht hi w fits o f e ag n r l) end wide

-- Tests as one scalar.
abbrev pub truth_cells : List Cell → List Cell
truth_cells [] = []
truth_cells (c ∷ cs) = strictly (op_value TrueTest) (c ∷ []) ∷ truth_cells cs

abbrev pub true_cell : List Cell → Cell
true_cell cs = and_cell (Truth true) (truth_cells cs)

truths_are : (ss : Scalars) (s : Sight) → cells_of (truths ss) s ≡ truth_cells (cells_of ss s)
truths_are none s = refl
truths_are (more x ss) s =
    ap (λ (cs : List Cell). strictly (op_value TrueTest) (cell_of x s ∷ []) ∷ cs) (truths_are ss s)

pub all_true_cell : (ss : Scalars) (s : Sight) → cell_of (all_true ss) s ≡ true_cell (cells_of ss s)
all_true_cell ss s = ap (and_cell (Truth true)) (truths_are ss s)

kept_more : (v : Ending Value) (cs : List Cell) (r : Row) (d : Ending Bool) →
    collected (kept (and_cell (Truth true) cs) (shown r)) ≡ after d (λ b. Ok (kept_if b r)) →
    collected (kept (and_cell (Truth true) (strictly (op_value TrueTest) (cell_end v ∷ []) ∷ cs))
    (shown r)) ≡ after
    (after v (λ x. cond (is_true x) d (Ok false))) (λ b. Ok (kept_if b r))
kept_more (Err s) cs r d h = refl
kept_more (Ok x) cs r d h = by_truth (is_true x)
  where
    by_truth : (b : Bool) →
        collected (kept (and_cell (Truth true) (Val (Truth b) ∷ cs)) (shown r))
        ≡ after (cond b d (Ok false)) (λ t. Ok (kept_if t r))
    by_truth true = h
    by_truth false = refl

pub kept_shown : (r : Row) → collected (Whole (shown r) ∷ []) ≡ Ok (r ∷ [])
kept_shown r = ap (λ (e : Ending Row). after e (λ x. Ok (x ∷ []))) (values_shown r)

pub kept_holds : (es : Exprs) (w : Inputs) (f : Scope) (r : Row) →
    collected (kept (true_cell (ends_of es w f)) (shown r))
    ≡ after (holds es w f) (λ b. Ok (kept_if b r))
kept_holds NoExpr w f r = kept_shown r
kept_holds (MoreExprs x es) w f r =
    kept_more (ev x w f) (truth_cells (ends_of es w f)) r (holds es w f) (kept_holds es w f r)

-- tests that leave the row as it was
pub passed_kept : (e : Ending Bool) (m n : ℕ) (r : Row) (rows : List PlanRow) → length r ≡ n →
    Passed e m (shown r) rows →
    collected (each (λ q. Whole (cells_at q (places 0 n)) ∷ []) rows)
    ≡ after e (λ b. Ok (kept_if b r))
passed_kept (Err s) m n r rows l p =
    ap (λ (rs : List PlanRow). collected (each (λ q. Whole (cells_at q (places 0 n)) ∷ []) rs)) p
passed_kept (Ok false) m n r rows l p =
    ap (λ (rs : List PlanRow). collected (each (λ q. Whole (cells_at q (places 0 n)) ∷ []) rs)) p
passed_kept (Ok true) m n r rows l p =
    ap (λ (rs : List PlanRow). collected (each (λ q. Whole (cells_at q (places 0 n)) ∷ []) rs)) p.1
    ∙ (ap (λ (ds : List Cell). collected (Whole ds ∷ []))
    (first_columns (shown r) p.0 n (shown_long r ∙ l) p.2) ∙ kept_shown r)
