-- What is to be proved of each tree, and the rules for each construct.
use Rattle.std.proofs.Common.{◌≡◌, ℕ, suc, ◌+◌, true, false, List, [], ◌∷◌, ◌++◌, length, refl, ap}
use Rattle.std.proofs.Common.{sym, ◌∙◌, subst, arith, drop}
use Rattle.sql_values.specs.Operators.{applied as applied_value}
use Rattle.sql_values.specs.declared.value.SqlType.{SqlType}
use Rattle.sql_values.specs.declared.value.Value.{Value}
use Rattle.sql_values.specs.declared.value.Value.TheVariants.{Null, Bool as Truth}
use Rattle.row_types.specs.Cells.{PlanRow}
use Rattle.row_types.specs.Rows.{Row}
use Rattle.row_types.specs.declared.cell.Cell.{Cell}
use Rattle.row_types.specs.declared.cell.Cell.TheVariants.{Val}
use Rattle.rel_algebra.specs.Emit.{Emitted, EmittedAll, Env, against_on, asked, asked_member}
use Rattle.rel_algebra.specs.Emit.{assigning_in, called, emit, emit_all, emit_args, emit_body}
use Rattle.rel_algebra.specs.Emit.{emit_links, first_and, from_plan, passed, plan, raising}
use Rattle.rel_algebra.specs.Emit.{scalar_count, singly, width, word_on}
use Rattle.rel_algebra.specs.Endings.{Ending, after, cell_end, ending_of, op_value}
use Rattle.rel_algebra.specs.Joins.{exists_of, member_of, single_of}
use Rattle.rel_algebra.specs.Plain.{Inputs, Scope, answer, call, columns_in, ev, ev_links}
use Rattle.rel_algebra.specs.Plain.{from_rows, as_many}
use Rattle.rel_algebra.specs.Plan.{Scalar, Word, and_word, case_cell, case_word, cell_at, cell_of}
use Rattle.rel_algebra.specs.Plan.{cells_of, coalesce_word, collapse, collapse_as, collected, den}
use Rattle.rel_algebra.specs.Plan.{exists, finished, member, or_word, shown, sight, single, strict}
use Rattle.rel_algebra.specs.Plan.{values_of, word_cell}
use Rattle.rel_algebra.specs.Theorem.{Agrees, Fits, outside}
use Rattle.rel_algebra.specs.Tree.{And, Arithmetic, Call, Case, CaseOf, Chain, Coalesce, Column}
use Rattle.rel_algebra.specs.Tree.{Exists, Expr, Exprs, From, In, Links, Literal, MoreExprs}
use Rattle.rel_algebra.specs.Tree.{MoreLinks, NoExpr, NoLink, Operate, Operation, Or, Query}
use Rattle.rel_algebra.specs.Tree.{Routine, Single, Variable, count, parameters_of}
use Rattle.rel_algebra.proofs.Growing.{grown_column, grown_columns, grows_by, grows_same}
use Rattle.rel_algebra.proofs.Growing.{grows_trans, shown_long}
use Rattle.rel_algebra.proofs.Truths.{both}
use Rattle.rel_algebra.proofs.Nodes.{Reads, Yields, YieldsAll, added_grows, asked_member_yields}
use Rattle.rel_algebra.proofs.Nodes.{asked_yields, first_and_yields, reads_on, singly_yields}
use Rattle.rel_algebra.proofs.Nodes.{then_columns_yields, wider}
use Rattle.rel_algebra.proofs.Rows.{are_cells}
use Rattle.rel_algebra.proofs.Words.{against_cells, and_ends, applied_ends, arg_end, arg_ends}
use Rattle.rel_algebra.proofs.Words.{args_long, assigning_first_cell, case_ends, case_of_ends}
use Rattle.rel_algebra.proofs.Words.{cells_against, coalesce_ends, ends_of, guarded_ends}
use Rattle.rel_algebra.proofs.Words.{if_values_cell, links_more, or_ends, raising_guard}
use Rattle.rel_algebra.proofs.Words.{strict_ends, values_args}
use Rattle.std.proofs.Common.{Err, Ok}

-- an expression's columns and scalar give its cell
abbrev pub Right : Expr → Type 0
Right x = (w : Inputs) → Fits w →
    (o : List (List Cell)) (f : Scope) (e : Env) (n : ℕ) (q : List Cell) → length q ≡ n →
    Reads e w o f q → Yields
    (emit x (columns_in w) e n) w o q (cell_end (ev x w f))

abbrev pub AllRight : Exprs → Type 0
AllRight NoExpr = Unit {0}
AllRight (MoreExprs x es) = Right x × AllRight es

abbrev pub BodyRight : Routine → Type 0
BodyRight r = (w : Inputs) → Fits w → (o : List (List Cell)) (vs : Row) (m : ℕ) (z : List Cell) →
    length z ≡ m → as_many r (length vs) ≡ true →
    Yields (emit_body r (columns_in w) (passed m (length vs)) (m + length vs)) w o (z ++ shown vs)
    (cell_end (call r vs w))

-- a query's plan
abbrev pub QueryMeans : Query → Type 0
QueryMeans q = (w : Inputs) → Fits w → (o : List (List Cell)) (f : Scope) (e : Env) →
    Agrees e (outside w o) f → collected
    (den (plan q (columns_in w) e) w o) ≡ answer q w f

-- a FROM is finished
abbrev pub Makes : From → Type 0
Makes x = (w : Inputs) → Fits w → (o : List (List Cell)) (f : Scope) (e : Env) →
    Agrees e (outside w o) f → den (from_plan x (columns_in w) e) w o ≡
    finished (from_rows x w f)

-- Expressions.
pub all_right : (es : Exprs) → AllRight es → (w : Inputs) → Fits w →
    (o : List (List Cell)) (f : Scope) (e : Env) (n : ℕ) (q : List Cell) →
    length q ≡ n → Reads e w o f q →
    YieldsAll (emit_all es (columns_in w) e n) w o q (ends_of es w f)
all_right NoExpr h w fits o f e n q l r = λ z g. refl
all_right (MoreExprs x es) h w fits o f e n q l r =
    first_and_yields (emit x (columns_in w) e n) (emit_all es (columns_in w) e) n w o q
    (cell_end (ev x w f)) (ends_of es w f) l
    (h.0 w fits o f e n q l r)
    (λ z lz gz. all_right es h.1 w fits o f e (width (emit x (columns_in w) e n).nodes n) z lz
    (reads_on e w o f q z r gz))

-- arguments, each as its parameter takes it
pub args_right : (es : Exprs) → AllRight es → (types : List SqlType) (w : Inputs) → Fits w →
    (o : List (List Cell)) (f : Scope) (e : Env) (n : ℕ) (q : List Cell) → length q ≡ n →
    Reads e w o f q →
    YieldsAll (emit_args es types (columns_in w) e n) w o q (arg_ends es types w f)
args_right NoExpr h types w fits o f e n q l r = λ z g. refl
args_right (MoreExprs x es) h types w fits o f e n q l r =
    let a = emit x (columns_in w) e n in
    first_and_yields (assigning_in types a) (emit_args es (drop 1 types) (columns_in w) e) n w o q
    (cell_end (arg_end x types w f))
    (arg_ends es (drop 1 types) w f) l
    (λ z g. assigning_first_cell types a.scalar (sight w o z) (ev x w f)
    (h.0 w fits o f e n q l r z g))
    (λ z lz gz. args_right es h.1 (drop 1 types) w fits o f e (width a.nodes n) z lz
    (reads_on e w o f q z r gz))

pub literal_right : (v : Value) → Right (Literal v)
literal_right v w fits o f e n q l r z g = refl

pub column_right : (d i : ℕ) → Right (Column d i)
column_right d i w fits o f e n q l r z g = (r z g).0 d i

pub parameter_right : (i : ℕ) → Right (Variable i)
parameter_right i w fits o f e n q l r z g = (r z g).1 i

-- a word over its operands
pub word_right : (wd : Word) (es : Exprs) → AllRight es → (w : Inputs) → Fits w →
    (o : List (List Cell)) (f : Scope) (e : Env) (n : ℕ) (q : List Cell) → length q ≡ n →
    Reads e w o f q → (c : Cell) →
    word_cell wd (ends_of es w f) ≡ c →
    Yields (word_on wd (emit_all es (columns_in w) e n)) w o q c
word_right wd es h w fits o f e n q l r c k z g =
    ap (word_cell wd) (all_right es h w fits o f e n q l r z g) ∙ k

pub operation_right : (op : Operation) (es : Exprs) → AllRight es → Right (Operate op es)
operation_right op es h w fits o f e n q l r =
    word_right (strict op) es h w fits o f e n q l r (cell_end (ev (Operate op es) w f))
    (strict_ends (op_value op) es w f)

-- a scalar and an operand after it
two_yields : (wd : Word) (a : Emitted) (x : Expr) → Right x → (w : Inputs) → Fits w →
    (o : List (List Cell)) (f : Scope) (e : Env) (n : ℕ) (q : List Cell) (c : Cell) → length q ≡ n →
    Reads e w o f q → Yields a w o q c →
    Yields (word_on wd (first_and a (λ m. singly (emit x (columns_in w) e m)) n)) w o q
    (word_cell wd (c ∷ cell_end (ev x w f) ∷ []))
two_yields wd a x hx w fits o f e n q c l r ya z g =
    ap (word_cell wd) (first_and_yields a (λ m. singly (emit x (columns_in w) e m)) n w o q c
    (cell_end (ev x w f) ∷ []) l ya
    (λ y ly gy. singly_yields (emit x (columns_in w) e (width a.nodes n)) w o y
    (cell_end (ev x w f))
    (hx w fits o f e (width a.nodes n) y ly (reads_on e w o f q y r gy))) z g)

abbrev pub LinksRight : Links → Type 0
LinksRight NoLink = Unit {0}
LinksRight (MoreLinks operator x links) = Right x × LinksRight links

pub end_gives : (t : Ending Value) → t ≡ after t (λ v. Ok v)
end_gives (Ok v) = refl
end_gives (Err s) = refl

links_yield : (links : Links) → LinksRight links → (a : Emitted) (t : Ending Value) (w : Inputs) →
    Fits w →
    (o : List (List Cell)) (f : Scope) (e : Env) (n : ℕ) (q : List Cell) → length q ≡ n →
    Reads e w o f q → Yields a w o q (cell_end t) →
    Yields (emit_links links a (columns_in w) e n) w o q
    (cell_end (after t (λ v. ev_links links v w f)))
links_yield NoLink h a t w fits o f e n q l r ya z g = ya z g ∙ ap cell_end (end_gives t)
links_yield (MoreLinks operator x links) h a t w fits o f e n q l r ya z g =
    links_yield links h.1 (word_on (strict (Arithmetic operator))
    (first_and a (λ m. singly (emit x (columns_in w) e m)) n))
    (after t (λ u. after (ev x w f) (λ v. ending_of (applied_value operator u v)))) w fits o f e n q
    l r
    (λ y gy. two_yields (strict (Arithmetic operator)) a x h.0 w fits o f e n q
    (cell_end t) l r ya y gy ∙ applied_ends operator t (ev x w f)) z g
    ∙ ap cell_end (links_more t (ev x w f) (λ u v. ending_of (applied_value operator u v))
    (λ y. ev_links links y w f))

pub chain_right : (x : Expr) (links : Links) → Right x → LinksRight links → Right (Chain x links)
chain_right x links hx hl w fits o f e n q l r z g =
    links_yield links hl (emit x (columns_in w) e n) (ev x w f) w fits o f e n q l r
    (hx w fits o f e n q l r) z g

pub and_right : (es : Exprs) → AllRight es → Right (And es)
and_right es h w fits o f e n q l r = word_right and_word es h w fits o f e n q l r
    (cell_end (ev (And es) w f)) (and_ends es w f (Truth true))

pub or_right : (es : Exprs) → AllRight es → Right (Or es)
or_right es h w fits o f e n q l r = word_right or_word es h w fits o f e n q l r
    (cell_end (ev (Or es) w f)) (or_ends es w f (Truth false))

pub case_right : (es : Exprs) → AllRight es → Right (Case es)
case_right es h w fits o f e n q l r =
    word_right case_word es h w fits o f e n q l r (cell_end (ev (Case es) w f)) (case_ends es w f)

pub coalesce_right : (es : Exprs) → AllRight es → Right (Coalesce es)
coalesce_right es h w fits o f e n q l r = word_right coalesce_word es h w fits o f e n q l r
    (cell_end (ev (Coalesce es) w f)) (coalesce_ends es w f)

-- the operand is a column, and the tests are comparisons with it
pub case_of_right : (x test result : Expr) (arms : Exprs) → Right x → Right test → Right result →
    AllRight arms → Right (CaseOf x test result arms)
case_of_right x test result arms hx ht hr ha w fits o f e n q l r =
    let S = (columns_in w) in let a = singly (emit x S e n) in let cx = cell_end (ev x w f) in
    let cs : List Cell = cell_end (ev test w f) ∷ cell_end (ev result w f) ∷ ends_of arms w f in
    then_columns_yields a (λ p k.
    against_on p (first_and (emit test S e (suc p))
    (λ m. first_and (emit result S e m) (emit_all arms S e) m) (suc p)))
    n w o q (cx ∷ []) _ l
    (singly_yields (emit x S e n) w o q cx (hx w fits o f e n q l r))
    (λ z lz gz lc. arms_yield w fits o f e z (width a.nodes n) cx lz
    (reads_on e w o f q (z ++ cx ∷ []) r
    (grows_trans q z _ gz (grows_by z (cx ∷ []))))
    (case_of_ends (ev x w f) test result arms w f))
  where
    arms_yield : (w : Inputs) → Fits w →
        (o : List (List Cell)) (f : Scope) (e : Env) (z : List Cell) (p : ℕ) (c : Cell) →
        length z ≡ p →
        Reads e w o f (z ++ c ∷ []) → {d : Cell} →
        case_cell (against_cells c (cell_end (ev test w f) ∷ cell_end (ev result w f)
        ∷ ends_of arms w f)) ≡ d →
        Yields (against_on p (first_and (emit test (columns_in w) e (suc p))
        (λ m. first_and (emit result (columns_in w) e m) (emit_all arms (columns_in w) e) m)
        (suc p))) w o (z ++ c ∷ []) d
    arms_yield w fits o f e z p c lz r k y g =
        let S = (columns_in w) in
        let all = first_and (emit test S e (suc p))
        (λ m. first_and (emit result S e m) (emit_all arms S e) m) (suc p) in
        let long : length (z ++ c ∷ []) ≡ suc p = wider z (c ∷ []) p 1 lz refl
        ∙ (let s : p + 1 ≡ suc p = omega arith in s) in
        cells_against_case p all w o y c _
        (grown_column z y c p lz (grows_trans _ _ y (added_grows all.nodes w o (z ++ c ∷ [])) g))
        (first_and_yields (emit test S e (suc p))
        (λ m. first_and (emit result S e m) (emit_all arms S e) m) (suc p) w o
        (z ++ c ∷ []) _ _ long
        (ht w fits o f e (suc p) _ long r)
        (λ u lu gu. first_and_yields (emit result S e _) (emit_all arms S e) _ w o u _ _ lu
        (hr w fits o f e _ u lu (reads_on e w o f _ u r gu))
        (λ v lv gv. all_right arms ha w fits o f e _ v lv
        (reads_on e w o f _ v r (grows_trans _ u v gu gv)))) y g)
        ∙ k
      where
        cells_against_case : (p : ℕ) (a : EmittedAll) (w : Inputs) (o : List (List Cell))
            (y : List Cell) (c : Cell) (cs : List Cell) →
            cell_at y p ≡ c → cells_of a.scalars (sight w o y) ≡ cs →
            cell_of (against_on p a).scalar (sight w o y) ≡ case_cell (against_cells c cs)
        cells_against_case p a w o y c cs ec es =
            ap case_cell (cells_against p a.scalars w o y ∙ both against_cells _ _ _ _ ec es)

-- the arguments are columns, and the body sees them
pub call_right : (name : List ℕ) (r : Routine) (es : Exprs) → BodyRight r → AllRight es →
    as_many r (count es) ≡ true → Right (Call name r es)
call_right name r es hb ha hc w fits o f e n q l rd =
    let S = (columns_in w) in let types = parameters_of r in let a = emit_args es types S e n in
    let cs = arg_ends es types w f in
    then_columns_yields a (λ m k. called (raising es types m) (emit_body r S (passed m k) (m + k)))
    n w o q cs _ l
    (args_right es ha types w fits o f e n q l rd)
    (λ z lz gz lc. λ y g. called_yields w fits o f z (width a.nodes n) (scalar_count a.scalars) lz
    lc y g ∙ ap
    (λ (x : Ending Row). cell_end (after x (λ vs. call r vs w))) (values_args es types w f))
  where
    body_yields : (w : Inputs) → Fits w →
        (o : List (List Cell)) (z : List Cell) (m k : ℕ) (cs : List Cell) (vs : Row) →
        length z ≡ m →
        length cs ≡ k → cs ≡ shown vs → length cs ≡ count es →
        Yields (emit_body r (columns_in w) (passed m k) (m + k)) w o (z ++ cs)
        (cell_end (call r vs w))
    body_yields w fits o z m k cs vs lz lc is long =
        let same : length vs ≡ length cs = sym (shown_long vs)
        ∙ ap (λ (ds : List Cell). length ds) (sym is) in
        subst (λ (ds : List Cell). Yields (emit_body r (columns_in w) (passed m k) (m + k)) w o
        (z ++ ds) (cell_end (call r vs w))) (sym is)
        (subst (λ (j : ℕ). Yields (emit_body r (columns_in w) (passed m j) (m + j)) w o
        (z ++ shown vs) (cell_end (call r vs w)))
        (same ∙ lc)
        (hb w fits o vs m z lz (ap (as_many r) (same ∙ long) ∙ hc)))

    called_yields : (w : Inputs) → Fits w →
        (o : List (List Cell)) (f : Scope) (z : List Cell) (m k : ℕ) → length z ≡ m →
        length (arg_ends es (parameters_of r) w f) ≡ k →
        Yields (called (raising es (parameters_of r) m)
        (emit_body r (columns_in w) (passed m k) (m + k))) w o
        (z ++ arg_ends es (parameters_of r) w f)
        (cell_end (after (values_of (arg_ends es (parameters_of r) w f)) (λ vs. call r vs w)))
    called_yields w fits o f z m k lz lc y g =
        let types = parameters_of r in let cs = arg_ends es types w f in
        let c = emit_body r (columns_in w) (passed m k) (m + k) in
        let x : Cell = cell_of c.scalar (sight w o y) in
        if_values_cell (raising es types m) c.scalar w o y
        ∙ (ap (λ (d : Cell). case_cell (d ∷ x ∷ []))
        (raising_guard es types w f y m
        (grown_columns z cs y m (count es) lz (args_long es types w f)
        (grows_trans (z ++ cs) _ y (added_grows c.nodes w o (z ++ cs)) g)))
        ∙ guarded_ends (values_of cs) cs x (λ vs. call r vs w) (are_cells cs)
        (λ vs is. body_yields w fits o z m k cs vs lz lc is (args_long es types w f) y g))

-- Queries inside.
single_ends : (e : Ending (List Row)) → collapse_as single (Val Null) e
    ≡ cell_end (after e single_of) ∷ []
single_ends (Ok rs) = refl
single_ends (Err s) = refl

pub single_asked : (q : Query) → QueryMeans q → (w : Inputs) → Fits w →
    (o : List (List Cell)) (f : Scope) (e : Env) (n : ℕ) (row : List Cell) →
    length row ≡ n → Reads e w o f row →
    Yields (asked single (plan q (columns_in w) e) n) w o row (cell_end (ev (Single q) w f))
single_asked q h w fits o f e n row l r =
    asked_yields single (plan q (columns_in w) e) n w o row _ l
    (ap (collapse_as single (Val Null)) (h w fits (row ∷ o) f e (r row (grows_same row)))
    ∙ single_ends (answer q w f))

exists_ends : (e : Ending (List Row)) → collapse_as exists (Val Null) e
    ≡ cell_end (after e (λ rs. Ok (exists_of rs))) ∷ []
exists_ends (Ok rs) = refl
exists_ends (Err s) = refl

pub exists_asked : (q : Query) → QueryMeans q → (w : Inputs) → Fits w →
    (o : List (List Cell)) (f : Scope) (e : Env) (n : ℕ) (row : List Cell) →
    length row ≡ n → Reads e w o f row →
    Yields (asked exists (plan q (columns_in w) e) n) w o row (cell_end (ev (Exists q) w f))
exists_asked q h w fits o f e n row l r =
    asked_yields exists (plan q (columns_in w) e) n w o row _ l
    (ap (collapse_as exists (Val Null)) (h w fits (row ∷ o) f e (r row (grows_same row)))
    ∙ exists_ends (answer q w f))

member_ends : (s : Scalar) (x : Ending Value) (rows : List PlanRow) (e : Ending (List Row)) →
    collected rows ≡ e →
    collapse (member s) (cell_end x) rows
    ≡ cell_end (after x (λ v. after e (λ rs. Ok (member_of v rs)))) ∷ []
member_ends s (Err a) rows e h = refl
member_ends s (Ok v) rows e h = ap (collapse_as (member s) (Val v)) h ∙ judged_member v e
  where
    judged_member : (v : Value) (e : Ending (List Row)) → collapse_as (member s) (Val v) e
        ≡ cell_end (after e (λ rs. Ok (member_of v rs))) ∷ []
    judged_member v (Ok rs) = refl
    judged_member v (Err a) = refl

pub member_asked : (x : Expr) (q : Query) → Right x → QueryMeans q → (w : Inputs) → Fits w →
    (o : List (List Cell)) (f : Scope) (e : Env) (n : ℕ) (row : List Cell) → length row ≡ n →
    Reads e w o f row →
    Yields (asked_member (emit x (columns_in w) e n) (plan q (columns_in w) e) n) w o row
    (cell_end (ev (In x q) w f))
member_asked x q hx h w fits o f e n row l r =
    asked_member_yields (emit x (columns_in w) e n) (plan q (columns_in w) e) n w o row
    (cell_end (ev x w f)) _ l (hx w fits o f e n row l r)
    (λ z g. member_ends (emit x (columns_in w) e n).scalar (ev x w f)
    (den (plan q (columns_in w) e) w (z ∷ o)) (answer q w f)
    (h w fits (z ∷ o) f e (r z g)))
