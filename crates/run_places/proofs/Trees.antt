-- Lists of expressions, as loops go over them.
use Rattle.std.proofs.Common.{ℕ, ◌≡◌, ◌<◌, ◌+◌, ◌∷◌, List, length, drop, get_or, sym, ap, ◌∙◌}
use Rattle.std.proofs.lemmas.List.{drop_more, drop-drop}
use Rattle.sql_values.specs.declared.value.SqlType.{SqlType}
use Rattle.bound_trees.specs.declared.expr.BoundExpr.{BoundExpr}
use Rattle.bound_trees.specs.declared.query.BoundRow.{BoundRow}
use Rattle.row_types.specs.Rows.{Row}
use Rattle.rel_algebra.specs.Tree.{Exprs}
use Rattle.rel_algebra.specs.World.{World, Frame, Called, after, give, outcome}
use Rattle.rel_algebra.specs.Meaning.{ev, ev_args, ev_all, ev_rows, assigned_first}
use Rattle.routine_views.specs.Views.{Known, expr_in}
use Rattle.run_places.specs.Views.{exprs_in, row_in, rows_in}
use Rattle.run_places.specs.Cost.{cost, costs, rows_cost}

-- the rest of a list begins with what stands there
pub rest : {A : Type 0} (xs : List A) (i : ℕ) (x : A) → i < length xs → x ≡ get_or xs i x →
    drop i xs ≡ x ∷ drop (i + 1) xs
rest xs i x h is = drop_more xs i x h ∙ ap (λ y. y ∷ drop (i + 1) xs) (sym is)

-- what is left of arguments begins with the argument at its place
pub args_at : (self : Called) (k : Known) (es : List BoundExpr) (types : List SqlType) (i : ℕ)
    (x : BoundExpr)
    (rows : List Row) (f : Frame) (w : World) → i < length es → x ≡ get_or es i x →
    ev_args (exprs_in k (drop i es)) (drop i types) self rows f w
    ≡ after (ev (expr_in k x) self rows f w)
    (λ v w. after (outcome (assigned_first (drop i types) v) w)
    (λ y w. after (ev_args (exprs_in k (drop (i + 1) es)) (drop (i + 1) types) self rows f w)
    (λ ys. give (y ∷ ys))))
args_at self k es types i x rows f w h is =
    ap (λ (xs : List BoundExpr). ev_args (exprs_in k xs) (drop i types) self rows f w)
    (rest es i x h is)
    ∙ ap (λ (ts : List SqlType). after (ev (expr_in k x) self rows f w)
    (λ v w. after (outcome (assigned_first (drop i types) v) w)
    (λ y w. after (ev_args (exprs_in k (drop (i + 1) es)) ts self rows f w)
    (λ ys. give (y ∷ ys))))) (drop-drop 1 i types)

-- what is left of the rows of VALUES begins with the row at its place
pub rows_at : (self : Called) (k : Known) (rs : List BoundRow) (i : ℕ) (x : BoundRow)
    (es : List BoundExpr)
    (rows : List Row) (f : Frame) (w : World) → i < length rs → x ≡ get_or rs i x →
    row_in k x ≡ exprs_in k es →
    ev_rows (rows_in k (drop i rs)) self rows f w
    ≡ after (ev_all (exprs_in k es) self rows f w)
    (λ v w. after (ev_rows (rows_in k (drop (i + 1) rs)) self rows f w)
    (λ ys. give (v ∷ ys)))
rows_at self k rs i x es rows f w h is of =
    ap (λ (xs : List BoundRow). ev_rows (rows_in k xs) self rows f w) (rest rs i x h is)
    ∙ ap (λ (r : Exprs). after (ev_all r self rows f w)
    (λ v w. after (ev_rows (rows_in k (drop (i + 1) rs)) self rows f w)
    (λ ys. give (v ∷ ys)))) of

-- and so do their costs

pub rows_cost-rest : (k : Known) (rs : List BoundRow) (i : ℕ) (x : BoundRow)
    (es : List BoundExpr) → i < length rs → x ≡ get_or rs i x → row_in k x ≡ exprs_in k es →
    rows_cost (rows_in k (drop i rs)) ≡ costs (exprs_in k es) + rows_cost
    (rows_in k (drop (i + 1) rs)) + 1
rows_cost-rest k rs i x es h is of =
    ap (λ (xs : List BoundRow). rows_cost (rows_in k xs)) (rest rs i x h is) ∙
    ap (λ (r : Exprs). costs r + rows_cost (rows_in k (drop (i + 1) rs)) + 1) of

pub costs-rest : (k : Known) (es : List BoundExpr) (i : ℕ) (x : BoundExpr) → i < length es →
    x ≡ get_or es i x →
    costs (exprs_in k (drop i es)) ≡ cost (expr_in k x) + costs (exprs_in k (drop (i + 1) es)) + 1
costs-rest k es i x h is = ap (λ (xs : List BoundExpr). costs (exprs_in k xs)) (rest es i x h is)
