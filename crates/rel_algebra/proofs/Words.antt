-- What words make of the cells of operands is what the expressions mean.
use Rattle.std.proofs.Common.{Bool, length, suc, ◌≡◌, ℕ, true, false, cond, List, [], ◌∷◌, refl, ap}
use Rattle.std.proofs.Common.{sym, ◌∙◌, drop, ◌||◌}
use Rattle.std.proofs.lemmas.Cmp.{int_cmp_total, nat_list_cmp_total}
use Rattle.std.specs.Ordering.{ordering_reverse, int_cmp, bool_cmp}
use Rattle.std.specs.declared.cmp.Ordering.{Ordering}
use Rattle.std.specs.declared.cmp.Ordering.TheVariants.{Less, Equal, Greater}
use Rattle.sql_values.specs.Casts.{assigned}
use Rattle.sql_values.specs.Operators.{applied as applied_value}
use Rattle.sql_values.specs.Operators.{allows}
use Rattle.sql_values.specs.Values.{is_null, is_true, text_cmp}
use Rattle.sql_values.specs.declared.operators.Comparison.TheVariants.{Equals}
use Rattle.sql_values.specs.declared.operators.Operator.{Operator}
use Rattle.sql_values.specs.declared.value.SqlType.{SqlType}
use Rattle.sql_values.specs.declared.value.SqlType.TheVariants.{Boolean, Integer, Varchar}
use Rattle.sql_values.specs.declared.value.Value.{Value}
use Rattle.sql_values.specs.declared.value.Value.TheVariants.{Int, Null, Str, Bool as Truth}
use Rattle.row_types.specs.Rows.{Row}
use Rattle.row_types.specs.declared.cell.Cell.{Cell}
use Rattle.row_types.specs.declared.cell.Cell.TheVariants.{Cond, Val}
use Rattle.rel_algebra.specs.Emit.{against, all_values, assigning, assigning_first, checks}
use Rattle.rel_algebra.specs.Emit.{checks_of, computed, first_value, if_values, may_refuse}
use Rattle.rel_algebra.specs.Emit.{place_if, raising, row_stands}
use Rattle.rel_algebra.specs.Endings.{Ending, after, cell_end, ending_of, equal_values, is_false}
use Rattle.rel_algebra.specs.Endings.{op_value, value_at}
use Rattle.rel_algebra.specs.Groups.{finish, values_of_column}
use Rattle.rel_algebra.specs.Meaning.{assigned_first}
use Rattle.rel_algebra.specs.Joins.{finish_all, places}
use Rattle.rel_algebra.specs.Plain.{Inputs, Scope, ev, ev_all, ev_and, ev_args, ev_case}
use Rattle.rel_algebra.specs.Plain.{ev_coalesce, ev_or}
use Rattle.rel_algebra.specs.Plan.{Scalar, Scalars, Sight, and_cell, case_cell, cell_at, cell_of}
use Rattle.rel_algebra.specs.Plan.{cells_at, cells_of, coalesce_cell, finish_cells, more, none}
use Rattle.rel_algebra.specs.Plan.{or_cell, shown, sight, strictly, values_of}
use Rattle.rel_algebra.specs.Tree.{Aggregate, Arithmetic, Assign, Column, Comparing, Expr, Exprs}
use Rattle.rel_algebra.specs.Tree.{Literal, MoreExprs, NoExpr, NullTest, Variable, count}
use Rattle.rel_algebra.proofs.Truths.{if_cells, left_false, never, right_false}
use Rattle.rel_algebra.proofs.Rows.{AreCells}
use Rattle.std.proofs.Common.{Err, Ok}

-- the cells of expressions
abbrev pub ends_of : Exprs → Inputs → Scope → List Cell
ends_of NoExpr w f = []
ends_of (MoreExprs e es) w f = cell_end (ev e w f) ∷ ends_of es w f

pub values_more : (e : Ending Value) (cs : List Cell) (r : Ending Row) → values_of cs ≡ r →
    values_of (cell_end e ∷ cs) ≡ after e (λ v. after r (λ vs. Ok (v ∷ vs)))
values_more (Ok v) cs r h = ap (λ (x : Ending Row). after x (λ vs. Ok (v ∷ vs))) h
values_more (Err s) cs r h = refl

pub values_ends : (es : Exprs) (w : Inputs) (f : Scope) → values_of (ends_of es w f) ≡ ev_all es w f
values_ends NoExpr w f = refl
values_ends (MoreExprs e es) w f =
    values_more (ev e w f) (ends_of es w f) (ev_all es w f) (values_ends es w f)

-- what an argument is, as its parameter takes it
abbrev pub arg_end : Expr → List SqlType → Inputs → Scope → Ending Value
arg_end e types w f = after (ev e w f) (λ v. ending_of (assigned_first types v))

abbrev pub arg_ends : Exprs → List SqlType → Inputs → Scope → List Cell
arg_ends NoExpr types w f = []
arg_ends (MoreExprs e es) types w f =
    cell_end (arg_end e types w f) ∷ arg_ends es (drop 1 types) w f

after_after : {A B C : Type 0} (e : Ending A) (g : A → Ending B) (h : B → Ending C) →
    after (after e g) h ≡ after e (λ a. after (g a) h)
after_after (Ok a) g h = refl
after_after (Err s) g h = refl

pub values_args : (es : Exprs) (types : List SqlType) (w : Inputs) (f : Scope) →
    values_of (arg_ends es types w f) ≡ ev_args es types w f
values_args NoExpr types w f = refl
values_args (MoreExprs e es) types w f =
    values_more (arg_end e types w f) (arg_ends es (drop 1 types) w f)
    (ev_args es (drop 1 types) w f) (values_args es (drop 1 types) w f)
    ∙ after_after (ev e w f) (λ v. ending_of (assigned_first types v))
    (λ x. after (ev_args es (drop 1 types) w f) (λ xs. Ok (x ∷ xs)))

assigned_ends : (t : SqlType) (e : Ending Value) →
    strictly (op_value (Assign t)) (cell_end e ∷ [])
    ≡ cell_end (after e (λ v. ending_of (assigned t v)))
assigned_ends t (Ok v) = refl
assigned_ends t (Err s) = refl

-- the cell of a scalar, as a target takes it
pub assigning_cell : (t : SqlType) (x : Scalar) (s : Sight) (e : Ending Value) →
    cell_of x s ≡ cell_end e →
    cell_of (assigning t x) s ≡ cell_end (after e (λ v. ending_of (assigned t v)))
assigning_cell (Varchar n) x s e h =
    ap (λ (c : Cell). strictly (op_value (Assign (Varchar n))) (c ∷ [])) h
    ∙ assigned_ends (Varchar n) e
assigning_cell Integer x s (Ok v) h = h
assigning_cell Integer x s (Err a) h = h
assigning_cell Boolean x s (Ok v) h = h
assigning_cell Boolean x s (Err a) h = h

pub assigning_first_cell : (types : List SqlType) (x : Scalar) (s : Sight) (e : Ending Value) →
    cell_of x s ≡ cell_end e →
    cell_of (assigning_first types x) s
    ≡ cell_end (after e (λ v. ending_of (assigned_first types v)))
assigning_first_cell [] x s (Ok v) h = h
assigning_first_cell [] x s (Err a) h = h
assigning_first_cell (t ∷ types) x s e h = assigning_cell t x s e h

pub values_finished : (ags : List (Aggregate × ℕ)) (rs : List Row) → values_of (finish_cells ags rs)
    ≡ finish_all ags rs
values_finished [] rs = refl
values_finished (a ∷ ags) rs = values_more (finish a.0 (values_of_column a.1 rs))
    (finish_cells ags rs) (finish_all ags rs) (values_finished ags rs)

pub strict_ends : (f : Row → Ending Value) (es : Exprs) (w : Inputs) (fr : Scope) →
    strictly f (ends_of es w fr) ≡ cell_end (after (ev_all es w fr) f)
strict_ends f es w fr = ap (λ (e : Ending Row). cell_end (after e f)) (values_ends es w fr)

and_more : (e : Ending Value) (so : Value) (cs : List Cell) (rest : Value → Ending Value) →
    ((s : Value) → and_cell s cs ≡ cell_end (rest s)) →
    and_cell so (cell_end e ∷ cs)
    ≡ cell_end (after e (λ v. cond (is_false v) (Ok (Truth false))
    (rest (cond (is_true v) so Null))))
and_more (Err s) so cs rest h = refl
and_more (Ok v) so cs rest h =
    ap (cond (is_false v) (Val (Truth false))) (h (cond (is_true v) so Null)) ∙ sym
    (if_cells cell_end (is_false v) (Ok (Truth false)) (rest (cond (is_true v) so Null)))

pub and_ends : (es : Exprs) (w : Inputs) (f : Scope) (so : Value) → and_cell so (ends_of es w f)
    ≡ cell_end (ev_and es so w f)
and_ends NoExpr w f so = refl
and_ends (MoreExprs e es) w f so =
    and_more (ev e w f) so (ends_of es w f) (λ s. ev_and es s w f) (and_ends es w f)

or_more : (e : Ending Value) (so : Value) (cs : List Cell) (rest : Value → Ending Value) →
    ((s : Value) → or_cell s cs ≡ cell_end (rest s)) →
    or_cell so (cell_end e ∷ cs)
    ≡ cell_end (after e (λ v. cond (is_true v) (Ok (Truth true))
    (rest (cond (is_false v) so Null))))
or_more (Err s) so cs rest h = refl
or_more (Ok v) so cs rest h =
    ap (cond (is_true v) (Val (Truth true))) (h (cond (is_false v) so Null)) ∙ sym
    (if_cells cell_end (is_true v) (Ok (Truth true)) (rest (cond (is_false v) so Null)))

pub or_ends : (es : Exprs) (w : Inputs) (f : Scope) (so : Value) → or_cell so (ends_of es w f)
    ≡ cell_end (ev_or es so w f)
or_ends NoExpr w f so = refl
or_ends (MoreExprs e es) w f so =
    or_more (ev e w f) so (ends_of es w f) (λ s. ev_or es s w f) (or_ends es w f)

coalesce_more : (e : Ending Value) (cs : List Cell) (rest : Ending Value) →
    coalesce_cell cs ≡ cell_end rest →
    coalesce_cell (cell_end e ∷ cs) ≡ cell_end (after e (λ v. cond (is_null v) rest (Ok v)))
coalesce_more (Err s) cs rest h = refl
coalesce_more (Ok v) cs rest h = ap (λ (c : Cell). cond (is_null v) c (Val v)) h
    ∙ sym (if_cells cell_end (is_null v) rest (Ok v))

pub coalesce_ends : (es : Exprs) (w : Inputs) (f : Scope) → coalesce_cell (ends_of es w f)
    ≡ cell_end (ev_coalesce es w f)
coalesce_ends NoExpr w f = refl
coalesce_ends (MoreExprs e es) w f =
    coalesce_more (ev e w f) (ends_of es w f) (ev_coalesce es w f) (coalesce_ends es w f)

case_more : (e result : Ending Value) (cs : List Cell) (rest : Ending Value) →
    case_cell cs ≡ cell_end rest →
    case_cell (cell_end e ∷ cell_end result ∷ cs)
    ≡ cell_end (after e (λ v. cond (is_true v) result rest))
case_more (Err s) result cs rest h = refl
case_more (Ok v) result cs rest h = ap (cond (is_true v) (cell_end result)) h
    ∙ sym (if_cells cell_end (is_true v) result rest)

pub case_ends : (es : Exprs) (w : Inputs) (f : Scope) →
    case_cell (ends_of es w f) ≡ cell_end (ev_case es is_true w f)
case_ends NoExpr w f = refl
case_ends (MoreExprs last NoExpr) w f = refl
case_ends (MoreExprs test (MoreExprs result arms)) w f =
    case_more (ev test w f) (ev result w f) (ends_of arms w f) (ev_case arms is_true w f)
    (case_ends arms w f)

-- tests that are comparisons with a cell
abbrev pub against_cells : Cell → List Cell → List Cell
against_cells c [] = []
against_cells c (last ∷ []) = last ∷ []
against_cells c (t ∷ r ∷ cs) =
    strictly (op_value (Comparing Equals)) (c ∷ t ∷ []) ∷ r ∷ against_cells c cs

pub cells_against : (p : ℕ) (ss : Scalars) (w : Inputs) (o : List (List Cell)) (z : List Cell) →
    cells_of (against p ss) (sight w o z) ≡ against_cells (cell_at z p) (cells_of ss (sight w o z))
cells_against p none w o z = refl
cells_against p (more last none) w o z = refl
cells_against p (more test (more result arms)) w o z =
    ap (λ (cs : List Cell). strictly (op_value (Comparing Equals))
    (cell_at z p ∷ cell_of test (sight w o z) ∷ []) ∷ cell_of result (sight w o z) ∷
    cs) (cells_against p arms w o z)

against_more : (x : Value) (e result : Ending Value) (cs : List Cell) (rest : Ending Value) →
    case_cell (against_cells (Val x) cs) ≡ cell_end rest →
    case_cell (against_cells (Val x) (cell_end e ∷ cell_end result ∷ cs))
    ≡ cell_end (after e (λ v. cond (is_true (equal_values x v)) result rest))
against_more x (Err s) result cs rest h = refl
against_more x (Ok v) result cs rest h = ap (cond (is_true (equal_values x v)) (cell_end result)) h
    ∙ sym
    (if_cells cell_end (is_true (equal_values x v)) result rest)

pub against_ends : (x : Value) (es : Exprs) (w : Inputs) (f : Scope) →
    case_cell (against_cells (Val x) (ends_of es w f))
    ≡ cell_end (ev_case es (λ v. is_true (equal_values x v)) w f)
against_ends x NoExpr w f = refl
against_ends x (MoreExprs last NoExpr) w f = refl
against_ends x (MoreExprs test (MoreExprs result arms)) w f =
    against_more x (ev test w f) (ev result w f) (ends_of arms w f)
    (ev_case arms (λ v. is_true (equal_values x v)) w f) (against_ends x arms w f)

-- an operand and the arms
pub case_of_ends : (x : Ending Value) (test result : Expr) (arms : Exprs) (w : Inputs) (f : Scope) →
    case_cell (against_cells (cell_end x) (cell_end (ev test w f) ∷ cell_end (ev result w f)
    ∷ ends_of arms w f))
    ≡ cell_end (after x (λ v.
    after (ev test w f) (λ y. cond (is_true (equal_values v y)) (ev result w f)
    (ev_case arms (λ z. is_true (equal_values v z)) w f))))
case_of_ends (Err s) test result arms w f = refl
case_of_ends (Ok v) test result arms w f =
    against_more v (ev test w f) (ev result w f) (ends_of arms w f)
    (ev_case arms (λ z. is_true (equal_values v z)) w f) (against_ends v arms w f)

abbrev pub head_cell : List Cell → Cell
head_cell [] = Val Null
head_cell (c ∷ cs) = c

abbrev pub tail_cells : List Cell → List Cell
tail_cells [] = []
tail_cells (c ∷ cs) = cs

-- TRUE where all are values
abbrev pub guard : Ending Row → Cell
guard (Ok vs) = Val (Truth true)
guard (Err s) = Cond s

guard_more : (e : Ending Row) (v : Value) → guard e ≡ guard (after e (λ vs. Ok (v ∷ vs)))
guard_more (Ok vs) v = refl
guard_more (Err s) v = refl

check_more : (c : Cell) (ds cs : List Cell) → and_cell (Truth true) ds ≡ guard (values_of cs) →
    and_cell (Truth true) (or_cell (Truth false) (strictly (op_value NullTest) (c ∷ [])
    ∷ Val (Truth true) ∷ []) ∷ ds) ≡ guard (values_of (c ∷ cs))
check_more (Cond s) ds cs h = refl
check_more (Val Null) ds cs h = h ∙ guard_more (values_of cs) Null
check_more (Val (Int n)) ds cs h = h ∙ guard_more (values_of cs) (Int n)
check_more (Val (Str s)) ds cs h = h ∙ guard_more (values_of cs) (Str s)
check_more (Val (Truth b)) ds cs h = h ∙ guard_more (values_of cs) (Truth b)

pub checks_guard : (ps : List ℕ) (w : Inputs) (o : List (List Cell)) (z : List Cell) →
    cell_of (all_values ps) (sight w o z) ≡ guard (values_of (cells_at z ps))
checks_guard [] w o z = refl
checks_guard (p ∷ ps) w o z = check_more (cell_at z p) (cells_of (checks ps) (sight w o z))
    (cells_at z ps) (checks_guard ps w o z)

-- a scalar under the guard of columns
pub if_values_cell : (is : List ℕ) (s : Scalar) (w : Inputs) (o : List (List Cell))
    (z : List Cell) →
    cell_of (if_values is s) (sight w o z)
    ≡ case_cell (guard (values_of (cells_at z is)) ∷ cell_of s (sight w o z) ∷ [])
if_values_cell [] s w o z = refl
if_values_cell (i ∷ is) s w o z =
    ap (λ (c : Cell). case_cell (c ∷ cell_of s (sight w o z) ∷ [])) (checks_guard (i ∷ is) w o z)

-- the arguments that may raise tell of all
skip_value : (v : Value) (cs ds : List Cell) → guard (values_of ds) ≡ guard (values_of cs) →
    guard (values_of ds) ≡ guard (values_of (Val v ∷ cs))
skip_value v cs ds h = h ∙ guard_more (values_of cs) v

keep_cell : (c : Cell) (cs ds : List Cell) → guard (values_of ds) ≡ guard (values_of cs) →
    guard (values_of (c ∷ ds)) ≡ guard (values_of (c ∷ cs))
keep_cell (Cond s) cs ds h = refl
keep_cell (Val v) cs ds h = sym (guard_more (values_of ds) v) ∙ (h ∙ guard_more (values_of cs) v)

pub args_long : (es : Exprs) (types : List SqlType) (w : Inputs) (f : Scope) →
    length (arg_ends es types w f) ≡ count es
args_long NoExpr types w f = refl
args_long (MoreExprs e es) types w f = ap suc (args_long es (drop 1 types) w f)

abbrev pub IsValue : Ending Value → Type 0
IsValue (Ok v) = Unit {0}
IsValue (Err s) = ⊥

named_value : (x : Expr) (w : Inputs) (f : Scope) → computed x ≡ false → IsValue (ev x w f)
named_value (Literal v) w f h = tt
named_value (Column d i) w f h = tt
named_value (Variable i) w f h = tt
named_value _ w f h = never (sym h)

kept_value : (types : List SqlType) (e : Ending Value) → may_refuse types ≡ false → IsValue e →
    IsValue (after e (λ v. ending_of (assigned_first types v)))
kept_value [] (Ok v) h k = tt
kept_value (Integer ∷ types) (Ok v) h k = tt
kept_value (Boolean ∷ types) (Ok v) h k = tt
kept_value (Varchar n ∷ types) e h k = never (sym h)
kept_value types (Err s) h k = absurd k

-- an argument whose column is not checked is a value
quiet_value : (x : Expr) (types : List SqlType) (w : Inputs) (f : Scope) →
    (may_refuse types || computed x) ≡ false → IsValue (arg_end x types w f)
quiet_value x types w f h =
    kept_value types (ev x w f) (left_false (may_refuse types) (computed x) h)
    (named_value x w f (right_false (may_refuse types) (computed x) h))

-- a column that is checked where it must be
place_guard : (b : Bool) (e : Ending Value) (cs : List Cell) (z : List Cell) (m : ℕ) (is : List ℕ) →
    (b ≡ false → IsValue e) →
    cell_at z m ≡ cell_end e → guard (values_of (cells_at z is)) ≡ guard (values_of cs) →
    guard (values_of (cells_at z (place_if b m is))) ≡ guard (values_of (cell_end e ∷ cs))
place_guard true e cs z m is q h k = ap (λ (c : Cell). guard (values_of (c ∷ cells_at z is))) h
    ∙ keep_cell (cell_end e) cs (cells_at z is) k
place_guard false (Ok v) cs z m is q h k = skip_value v cs (cells_at z is) k
place_guard false (Err s) cs z m is q h k = absurd (q refl)

-- in the columns from m on stand the cells of these arguments
pub raising_guard : (es : Exprs) (types : List SqlType) (w : Inputs) (f : Scope) (z : List Cell)
    (m : ℕ) →
    cells_at z (places m (count es)) ≡ arg_ends es types w f →
    guard (values_of (cells_at z (raising es types m))) ≡ guard (values_of (arg_ends es types w f))
raising_guard NoExpr types w f z m h = refl
raising_guard (MoreExprs x es) types w f z m h =
    place_guard (may_refuse types || computed x) (arg_end x types w f)
    (arg_ends es (drop 1 types) w f) z m (raising es (drop 1 types) (suc m))
    (quiet_value x types w f) (ap head_cell h)
    (raising_guard es (drop 1 types) w f z (suc m) (ap tail_cells h))

-- the same of scalars
pub checks_of_guard : (ss : Scalars) (s : Sight) → and_cell (Truth true) (cells_of (checks_of ss) s)
    ≡ guard (values_of (cells_of ss s))
checks_of_guard none s = refl
checks_of_guard (more x ss) s =
    check_more (cell_of x s) (cells_of (checks_of ss) s) (cells_of ss s) (checks_of_guard ss s)

-- of one row
only_value : (c : Cell) → c ≡ cell_end (after (values_of (c ∷ [])) (λ r. Ok (value_at r 0)))
only_value (Val v) = refl
only_value (Cond s) = refl

first_of_all : (c : Cell) (cs : List Cell) →
    case_cell (guard (values_of (c ∷ cs)) ∷ c ∷ [])
    ≡ cell_end (after (values_of (c ∷ cs)) (λ r. Ok (value_at r 0)))
first_of_all (Cond s) cs = refl
first_of_all (Val v) cs = first_of_end (values_of cs)
  where
    first_of_end : (e : Ending Row) →
        case_cell (guard (after e (λ vs. Ok (v ∷ vs))) ∷ Val v ∷ [])
        ≡ cell_end (after (after e (λ vs. Ok (v ∷ vs))) (λ r. Ok (value_at r 0)))
    first_of_end (Ok vs) = refl
    first_of_end (Err s) = refl

pub first_value_cell : (ss : Scalars) (s : Sight) →
    cell_of (first_value ss) s
    ≡ cell_end (after (values_of (cells_of ss s)) (λ r. Ok (value_at r 0)))
first_value_cell none s = refl
first_value_cell (more x none) s = only_value (cell_of x s)
first_value_cell (more x (more y ss)) s =
    ap (λ (c : Cell). case_cell (c ∷ cell_of x s ∷ [])) (checks_of_guard (more x (more y ss)) s)
    ∙ first_of_all (cell_of x s) (cells_of (more y ss) s)

stands_end : (e : Ending Row) → case_cell (guard e ∷ Val (Truth true) ∷ [])
    ≡ cell_end (after e (λ r. Ok (Truth true)))
stands_end (Ok r) = refl
stands_end (Err s) = refl

pub row_stands_cell : (ss : Scalars) (s : Sight) →
    cell_of (row_stands ss) s ≡ cell_end (after (values_of (cells_of ss s)) (λ r. Ok (Truth true)))
row_stands_cell ss s = ap (λ (c : Cell). case_cell (c ∷ Val (Truth true) ∷ []))
    (checks_of_guard ss s) ∙ stands_end (values_of (cells_of ss s))

order_turned : (o : Ordering) → allows Equals (ordering_reverse o) ≡ allows Equals o
order_turned Less = refl
order_turned Equal = refl
order_turned Greater = refl

same_turned : (a b : Bool) → allows Equals (bool_cmp a b) ≡ allows Equals (bool_cmp b a)
same_turned true true = refl
same_turned true false = refl
same_turned false true = refl
same_turned false false = refl

pub equal_turned : (x y : Value) → equal_values x y ≡ equal_values y x
equal_turned Null Null = refl
equal_turned Null (Int y) = refl
equal_turned Null (Str t) = refl
equal_turned Null (Truth b) = refl
equal_turned (Int x) Null = refl
equal_turned (Int x) (Str t) = refl
equal_turned (Int x) (Int y) =
    ap (λ t. Truth t) (ap (allows Equals) (int_cmp_total.antisymm x y) ∙ order_turned (int_cmp y x))
equal_turned (Int x) (Truth b) = refl
equal_turned (Str s) Null = refl
equal_turned (Str s) (Int y) = refl
equal_turned (Str s) (Str t) =
    ap (λ o. Truth o) (ap (allows Equals) (nat_list_cmp_total.antisymm s t)
    ∙ order_turned (text_cmp t s))
equal_turned (Str s) (Truth b) = refl
equal_turned (Truth a) Null = refl
equal_turned (Truth a) (Int y) = refl
equal_turned (Truth a) (Str t) = refl
equal_turned (Truth a) (Truth b) = ap (λ t. Truth t) (same_turned a b)

-- a scalar under the guard
pub guarded_ends : (e : Ending Row) (cs : List Cell) (x : Cell) (go : Row → Ending Value) →
    AreCells e cs →
    ((vs : Row) → cs ≡ shown vs → x ≡ cell_end (go vs)) → case_cell (guard e ∷ x ∷ [])
    ≡ cell_end (after e go)
guarded_ends (Ok vs) cs x go a h = h vs a
guarded_ends (Err s) cs x go a h = refl

-- Operators.
pub applied_ends : (operator : Operator) (e d : Ending Value) →
    strictly (op_value (Arithmetic operator)) (cell_end e ∷ cell_end d ∷ []) ≡ cell_end
    (after e (λ u. after d (λ v. ending_of (applied_value operator u v))))
applied_ends operator (Ok u) (Ok v) = refl
applied_ends operator (Ok u) (Err s) = refl
applied_ends operator (Err s) d = refl

pub links_more : (e d : Ending Value) (g : Value → Value → Ending Value) (h : Value →
    Ending Value) →
    after (after e (λ u. after d (λ v. g u v))) h ≡ after e (λ u. after d (λ v. after (g u v) h))
links_more (Ok u) (Ok v) g h = refl
links_more (Ok u) (Err s) g h = refl
links_more (Err s) d g h = refl
