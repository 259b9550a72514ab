-- VALUES of several rows.
use Rattle.std.proofs.Common.{◌≡◌, ℕ, zero, suc, ◌+◌, Bool, true, false, cond, List, [], ◌∷◌, ◌++◌}
use Rattle.std.proofs.Common.{length, replicate, refl, ap, sym, ◌∙◌, subst, arith}
use Rattle.std.proofs.lemmas.Cmp.{int_cmp_total}
use Rattle.std.specs.FinMap.{int_cmp-IsAntisymmetric}
use Rattle.std.specs.Ordering.{ordering_reverse, int_cmp}
use Rattle.std.specs.declared.cmp.Ordering.{Ordering}
use Rattle.std.specs.declared.cmp.Ordering.TheVariants.{Less, Equal, Greater}
use Rattle.sql_values.specs.Operators.{allows}
use Rattle.sql_values.specs.declared.operators.Comparison.TheVariants.{Equals}
use Rattle.sql_values.specs.declared.value.Value.TheVariants.{Int, Null, Bool as Truth}
use Rattle.row_types.specs.Cells.{PlanRow, Whole}
use Rattle.row_types.specs.Rows.{Row}
use Rattle.row_types.specs.declared.cell.Cell.{Cell}
use Rattle.row_types.specs.declared.cell.Cell.TheVariants.{Cond, Val}
use Rattle.rel_algebra.specs.Emit.{EmittedAll, Env, all_plain, chosen, either_all, else_arms}
use Rattle.rel_algebra.specs.Emit.{emit_all, emit_rows, is_plain, lifted, list_nodes, nulls}
use Rattle.rel_algebra.specs.Emit.{numbers, scalar_count, scalars_of, several, values_plan, width}
use Rattle.rel_algebra.specs.Endings.{Ending, after, op_value}
use Rattle.rel_algebra.specs.Joins.{rows_width}
use Rattle.rel_algebra.specs.Plain.{Inputs, Scope, all_even, columns_in, ev_rows}
use Rattle.rel_algebra.specs.Plan.{Nodes, PlanTree, Scalar, Scalars, Sight, added, apply_by}
use Rattle.rel_algebra.specs.Plan.{argument, case_cell, case_word, cell_at, cell_of, cells_of}
use Rattle.rel_algebra.specs.Plan.{collected, column, constant, den, each, extend_by, list_rows}
use Rattle.rel_algebra.specs.Plan.{more, no_node, none, sight, strictly, unit_row, values, word}
use Rattle.rel_algebra.specs.Theorem.{Agrees, Fits, outside}
use Rattle.rel_algebra.specs.Tree.{Comparing, MoreRows, NoRow, Rows, Values}
use Rattle.rel_algebra.proofs.Growing.{Grows, grows_at, grows_same, grows_trans}
use Rattle.rel_algebra.proofs.Truths.{both, left_true, never, right_true}
use Rattle.rel_algebra.proofs.Counts.{EachCount, chosen_count, plain_width, rows_count}
use Rattle.rel_algebra.proofs.Nodes.{Reads, added_grows, added_join, added_long, lifted_reads}
use Rattle.rel_algebra.proofs.Nodes.{reads_on}
use Rattle.rel_algebra.proofs.Right.{AllRight, QueryMeans, all_right}
use Rattle.rel_algebra.proofs.Tests.{list_cells, list_row, listed_den}
use Rattle.rel_algebra.proofs.Words.{ends_of, values_ends}
use Rattle.std.proofs.Common.{Ok, pos}

abbrev pub rows_ends : Rows → Inputs → Scope → List (List Cell)
rows_ends NoRow w f = []
rows_ends (MoreRows es rows) w f = ends_of es w f ∷ rows_ends rows w f

abbrev pub whole_rows : List (List Cell) → List PlanRow
whole_rows [] = []
whole_rows (cs ∷ css) = Whole cs ∷ whole_rows css

rows_collected : (rows : Rows) (w : Inputs) (f : Scope) →
    collected (whole_rows (rows_ends rows w f)) ≡ ev_rows rows w f
rows_collected NoRow w f = refl
rows_collected (MoreRows es rows) w f =
    both (λ (a : Ending Row) (b : Ending (List Row)). after a (λ r. after b (λ rs. Ok (r ∷ rs)))) _
    _ _ _ (values_ends es w f)
    (rows_collected rows w f)

-- Emitted lists.
null_cells : (n : ℕ) (s : Sight) → cells_of (nulls n) s ≡ replicate n (Val Null)
null_cells zero s = refl
null_cells (suc n) s = ap (λ (cs : List Cell). Val Null ∷ cs) (null_cells n s)

abbrev pub RowsRight : Rows → Type 0
RowsRight NoRow = Unit {0}
RowsRight (MoreRows es rows) = AllRight es × RowsRight rows

abbrev pub cells_each : List EmittedAll → Sight → List (List Cell)
cells_each [] s = []
cells_each (a ∷ lists) s = cells_of a.scalars s ∷ cells_each lists s

rows_yield : (rows : Rows) → RowsRight rows → (w : Inputs) → Fits w →
    (o : List (List Cell)) (f : Scope) (e : Env) (n : ℕ) (q : List Cell) →
    length q ≡ n → Reads e w o f q → (z : List Cell) →
    Grows (added (list_nodes (emit_rows rows (columns_in w) e n)) w o q) z →
    cells_each (emit_rows rows (columns_in w) e n) (sight w o z) ≡ rows_ends
    rows w f
rows_yield NoRow h w fits o f e n q l r z g = refl
rows_yield (MoreRows es rows) h w fits o f e n q l r z g =
    let a = emit_all es (columns_in w) e n in let q' = added a.nodes w o q in
    let rest = emit_rows rows (columns_in w) e (width a.nodes n) in
    let g' : Grows (added (list_nodes rest) w o q') z = subst (λ (c : List Cell). Grows c z)
    (added_join a.nodes (list_nodes rest) w o q) g in
    both (λ (cs : List Cell) (css : List (List Cell)). cs ∷ css) _ _ _ _
    (all_right es h.0 w fits o f e n q l r z
    (grows_trans q' _ z (added_grows (list_nodes rest) w o q') g'))
    (rows_yield rows h.1 w fits o f e (width a.nodes n) q' (added_long a.nodes w o q n l)
    (reads_on e w o f q q' r (added_grows a.nodes w o q)) z g')

-- The list of this number.
else_case : (c d : Cell) (cs : List Cell) →
    case_cell (c ∷ d ∷ cs) ≡ case_cell (c ∷ d ∷ case_cell cs ∷ [])
else_case (Cond s) d cs = refl
else_case (Val v) d cs = refl

else_cell : (c d : Cell) (r : Scalar) (s : Sight) → case_cell (c ∷ d ∷ cells_of (else_arms r) s)
    ≡ case_cell (c ∷ d ∷ cell_of r s ∷ [])
else_cell c d (word case_word arms) s = else_case c d (cells_of arms s)
else_cell c d (constant v) s = refl
else_cell c d (column level i) s = refl
else_cell c d (argument i) s = refl
else_cell c d (word w ss) s = refl

either_cells : (b : Bool) (i : ℕ) (ss rs : Scalars) (w : Inputs) (o : List (List Cell))
    (z : List Cell) →
    strictly (op_value (Comparing Equals)) (cell_at z 0 ∷ Val (Int (pos i)) ∷ []) ≡ Val (Truth b) →
    scalar_count ss ≡ scalar_count rs →
    cells_of (either_all i ss rs) (sight w o z)
    ≡ cond b (cells_of ss (sight w o z)) (cells_of rs (sight w o z))
either_cells true i none none w o z h c = refl
either_cells false i none none w o z h c = refl
either_cells b i none (more r rs) w o z h c = absurd (omega arith)
either_cells b i (more s ss) none w o z h c = absurd (omega arith)
either_cells true i (more s ss) (more r rs) w o z h c =
    both (λ (x : Cell) (xs : List Cell). x ∷ xs) _ _ _ _
    (else_cell (strictly (op_value (Comparing Equals)) (cell_at z 0 ∷ Val (Int (pos i)) ∷ []))
    (cell_of s (sight w o z)) r (sight w o z) ∙ ap
    (λ (x : Cell). case_cell (x ∷ cell_of s (sight w o z) ∷ cell_of r (sight w o z) ∷ [])) h)
    (either_cells true i ss rs w o z h (omega arith))
either_cells false i (more s ss) (more r rs) w o z h c =
    both (λ (x : Cell) (xs : List Cell). x ∷ xs) _ _ _ _
    (else_cell (strictly (op_value (Comparing Equals)) (cell_at z 0 ∷ Val (Int (pos i)) ∷ []))
    (cell_of s (sight w o z)) r (sight w o z) ∙ ap
    (λ (x : Cell). case_cell (x ∷ cell_of s (sight w o z) ∷ cell_of r (sight w o z) ∷ [])) h)
    (either_cells false i ss rs w o z h (omega arith))

abbrev pub css_at : ℕ → List (List Cell) → ℕ → List Cell
css_at k [] t = replicate k (Val Null)
css_at k (cs ∷ css) zero = cs
css_at k (cs ∷ css) (suc t) = css_at k css t

same_numbers : (m i : ℕ) (b : Bool) (z : List Cell) → cell_at z 0 ≡ Val (Int (pos m)) →
    allows Equals (int_cmp (pos m) (pos i)) ≡ b →
    strictly (op_value (Comparing Equals)) (cell_at z 0 ∷ Val (Int (pos i)) ∷ []) ≡ Val (Truth b)
same_numbers m i b z h e =
    ap (λ (c : Cell). strictly (op_value (Comparing Equals)) (c ∷ Val (Int (pos i)) ∷ [])) h
    ∙ ap (λ t. Val (Truth t)) e

equal_by : (m i : ℕ) → m ≡ i → allows Equals (int_cmp (pos m) (pos i)) ≡ true
equal_by m i e = ap (λ j. allows Equals (int_cmp (pos j) (pos i))) e
    ∙ itself (int_cmp (pos i) (pos i)) (int_cmp_total.antisymm (pos i) (pos i))
  where
    itself : (o : Ordering) → o ≡ ordering_reverse o → allows Equals o ≡ true
    itself Less h = absurd cc
    itself Equal h = refl
    itself Greater h = absurd cc

unequal_by : (m i : ℕ) → (m ≡ i → ⊥) → allows Equals (int_cmp (pos m) (pos i)) ≡ false
unequal_by m i e = by_order (int_cmp (pos m) (pos i)) refl
  where
    same_number : pos m ≡ pos i → m ≡ i
    same_number p = grind arith

    by_order : (o : Ordering) → int_cmp (pos m) (pos i) ≡ o → allows Equals o ≡ false
    by_order Less h = refl
    by_order Equal h = absurd (e (same_number (int_cmp-IsAntisymmetric (pos m) (pos i) h)))
    by_order Greater h = refl

chosen_cells : (lists : List EmittedAll) (k i t m : ℕ) (w : Inputs) (o : List (List Cell))
    (z : List Cell) → cell_at z 0 ≡ Val (Int (pos m)) →
    m ≡ i + t → EachCount k lists → cells_of (chosen k i lists) (sight w o z)
    ≡ css_at k (cells_each lists (sight w o z)) t
chosen_cells [] k i t m w o z h e c = null_cells k (sight w o z)
chosen_cells (a ∷ lists) k i zero m w o z h e c =
    either_cells true i a.scalars (chosen k (suc i) lists) w o z
    (same_numbers m i true z h (equal_by m i (omega arith)))
    (c.0 ∙ sym (chosen_count k (suc i) lists c.1))
chosen_cells (a ∷ lists) k i (suc t) m w o z h e c =
    either_cells false i a.scalars (chosen k (suc i) lists) w o z
    (same_numbers m i false z h (unequal_by m i (λ s. absurd (omega arith))))
    (c.0 ∙ sym (chosen_count k (suc i) lists c.1))
    ∙ chosen_cells lists k (suc i) t m w o z h (omega arith) c.1

-- The rows of numbers.
abbrev pub rows_by : (ℕ → List Cell) → ℕ → ℕ → List PlanRow
rows_by f i zero = []
rows_by f i (suc r) = Whole (f i) ∷ rows_by f (suc i) r

number_rows : (row : List Cell → List PlanRow) (f : ℕ → List Cell) (s : Sight) →
    ((j : ℕ) → row (Val (Int (pos j)) ∷ []) ≡ Whole (f j) ∷ []) →
    (i r : ℕ) → each row (list_rows (numbers i r) s) ≡ rows_by f i r
number_rows row f s h i zero = refl
number_rows row f s h i (suc r) =
    both (λ (xs ys : List PlanRow). xs ++ ys) _ _ _ _ (h i) (number_rows row f s h (suc i) r)

rows_whole : (css : List (List Cell)) (k i : ℕ) (f : ℕ → List Cell) →
    ((t : ℕ) → f (i + t) ≡ css_at k css t) →
    rows_by f i (length css) ≡ whole_rows css
rows_whole [] k i f h = refl
rows_whole (cs ∷ css) k i f h =
    both (λ (x : List Cell) (xs : List PlanRow). Whole x ∷ xs) _ _ _ _
    (ap f (let e : i ≡ i + 0 = omega arith in e) ∙ h 0)
    (rows_whole css k (suc i) f (λ t. ap f (let e : suc i + t ≡ i + suc t = omega arith in e)
    ∙ h (suc t)))

rows_long : (rows : Rows) (S : List ℕ → ℕ) (e : Env) (n : ℕ) (w : Inputs) (f : Scope) →
    length (emit_rows rows S e n) ≡ length (rows_ends rows w f)
rows_long NoRow S e n w f = refl
rows_long (MoreRows es rows) S e n w f =
    ap suc (rows_long rows S e (width (emit_all es S e n).nodes n) w f)

several_means : (rows : Rows) → RowsRight rows → (k : ℕ) → all_even k rows ≡ true → (w : Inputs) →
    Fits w →
    (o : List (List Cell)) (f : Scope) (e : Env) → Agrees e (outside w o) f →
    den (several k (emit_rows rows (columns_in w) (lifted e) 1)) w o
    ≡ whole_rows (rows_ends rows w f)
several_means rows h k even w fits o f e ag =
    let lists = emit_rows rows (columns_in w) (lifted e) 1 in
    let a : EmittedAll = record { nodes = list_nodes lists; scalars = chosen k 0 lists } in
    let css = rows_ends rows w f in
    listed_den a 1 (values (numbers 0 (length lists))) w o
    ∙ (number_rows (list_row a 1 w o) (css_at k css) (sight w o [])
    (λ j. list_cells a 1 w o (Val (Int (pos j)) ∷ []) (css_at k css j) refl
    (λ z g. let q = Val (Int (pos j)) ∷ [] in
    chosen_cells lists k 0 j j w o z
    (grows_at q z 0 (grows_trans q _ z (added_grows a.nodes w o q) g) (omega arith)) (omega arith)
    (rows_count rows k (columns_in w) (lifted e) 1 even)
    ∙ ap (λ (ds : List (List Cell)). css_at k ds j)
    (rows_yield rows h w fits o f (lifted e) 1 q refl (lifted_reads e w o f q ag) z g)))
    0 (length lists)
    ∙ (ap (rows_by (css_at k css) 0) (rows_long rows (columns_in w) (lifted e) 1 w f)
    ∙ rows_whole css k 0 (css_at k css)
    (λ t. ap (css_at k css) (let s : 0 + t ≡ t = omega arith in s))))

-- Lists without nodes.
plain_grows : (a : Nodes) (w : Inputs) (o : List (List Cell)) → is_plain a ≡ true →
    Grows (added a w o []) []
plain_grows no_node w o h = grows_same []
plain_grows (extend_by ss a) w o h = never h
plain_grows (apply_by when kind way inner a) w o h = never h

plain_rows : (rows : Rows) → RowsRight rows → (w : Inputs) → Fits w →
    (o : List (List Cell)) (f : Scope) (e : Env) (n : ℕ) →
    length {A = Cell} [] ≡ n → Reads e w o f [] → all_plain (emit_rows rows (columns_in w) e n)
    ≡ true →
    list_rows (scalars_of (emit_rows rows (columns_in w) e n)) (sight w o [])
    ≡ whole_rows (rows_ends rows w f)
plain_rows NoRow h w fits o f e n l r p = refl
plain_rows (MoreRows es rows) h w fits o f e n l r p =
    let a = emit_all es (columns_in w) e n in
    let rest = emit_rows rows (columns_in w) e (width a.nodes n) in
    let pa : is_plain a.nodes ≡ true = left_true (is_plain a.nodes) (all_plain rest) p in
    both (λ (cs : List Cell) (xs : List PlanRow). Whole cs ∷ xs) _ _ _ _
    (all_right es h.0 w fits o f e n [] l r [] (plain_grows a.nodes w o pa))
    (plain_rows rows h.1 w fits o f e (width a.nodes n) (l ∙ sym (plain_width a.nodes n pa)) r
    (right_true (is_plain a.nodes) (all_plain rest) p))

-- VALUES.
either_plan : (b : Bool) (p q : PlanTree) (w : Inputs) (o : List (List Cell))
    (rows : List PlanRow) → (b ≡ true → den p w o ≡ rows) →
    den q w o ≡ rows → den (cond b p q) w o ≡ rows
either_plan true p q w o rows hp hq = hp refl
either_plan false p q w o rows hp hq = hq

values_rows : (rows : Rows) → RowsRight rows → (k : ℕ) → all_even k rows ≡ true → (w : Inputs) →
    Fits w →
    (o : List (List Cell)) (f : Scope) (e : Env) → Agrees e (outside w o) f →
    den (values_plan k (emit_rows rows (columns_in w) (lifted e) 0)
    (emit_rows rows (columns_in w) (lifted e) 1)) w o ≡ whole_rows
    (rows_ends rows w f)
values_rows NoRow h k even w fits o f e ag = several_means NoRow h k even w fits o f e ag
values_rows (MoreRows es NoRow) h k even w fits o f e ag =
    let a = emit_all es (columns_in w) (lifted e) 0 in
    listed_den a 0 unit_row w o
    ∙ ap (λ (rs : List PlanRow). rs ++ []) (list_cells a 0 w o [] (ends_of es w f) refl
    (all_right es h.0 w fits o f (lifted e) 0 [] refl (lifted_reads e w o f [] ag)))
values_rows (MoreRows es (MoreRows fs rows)) h k even w fits o f e ag =
    let all = MoreRows es (MoreRows fs rows) in
    let plain = emit_rows all (columns_in w) (lifted e) 0 in
    either_plan (all_plain plain) (values (scalars_of plain))
    (several k (emit_rows all (columns_in w) (lifted e) 1)) w o
    (whole_rows (rows_ends all w f))
    (λ p. plain_rows all h w fits o f (lifted e) 0 refl (lifted_reads e w o f [] ag) p)
    (several_means all h k even w fits o f e ag)

pub values_means : (rows : Rows) → all_even (rows_width rows) rows ≡ true → RowsRight rows →
    QueryMeans (Values rows)
values_means rows even h w fits o f e ag =
    ap collected (values_rows rows h (rows_width rows) even w fits o f e ag)
    ∙ rows_collected rows w f
