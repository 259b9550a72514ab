-- What words and operators give of operands that have values.
use Rattle.std.proofs.Common.{◌≡◌, ◌∷◌, [], Bool, List, Ok, Result, map, refl, ap, ◌∙◌, sym}
use Rattle.std.proofs.Common.{IfSome, None, Option, Some}
use Rattle.std.specs.Option.{option_map}
use Rattle.std.proofs.lemmas.Option.{IfSome_then}
use Rattle.std.proofs.Common.{◌≤◌, ◌<◌, ap₂, arith, length, slice_index_or, subst}
use Rattle.sql_values.specs.declared.value.Value.{Value}
use Rattle.sql_values.specs.declared.value.Value.TheVariants.{Bool as Truth}
use Rattle.sql_values.specs.declared.value.SqlType.{SqlType}
use Rattle.sql_values.specs.declared.operators.Comparison.{Comparison}
use Rattle.sql_values.specs.Casts.{assigned}
use Rattle.sql_values.specs.Operators.{applied, compared}
use Rattle.sql_values.specs.Values.{is_null}
use Rattle.row_types.specs.Rows.{Row}
use Rattle.bound_trees.specs.declared.expr.BoundExpr.{BoundExpr}
use Rattle.bound_trees.specs.declared.expr.BoundExpr.TheVariants as expr
use Rattle.bound_trees.specs.declared.expr.BoundLink.{BoundLink}
use Rattle.bound_trees.specs.declared.expr.BoundOperation.{BoundOperation}
use Rattle.bound_trees.specs.declared.expr.BoundOperation.TheVariants as words
use Rattle.bound_trees.specs.declared.statement.BoundStmt.{BoundStmt}
use Rattle.bound_trees.specs.declared.statement.BoundStmt.TheVariants as bound
use Rattle.bound_trees.specs.declared.statement.BoundTarget.{BoundTarget}
use Rattle.catalog_store.specs.View.{operated, links, Link}
use Rattle.rel_algebra.specs.Tree.{Expr, NoExpr, MoreExprs, Operate, Operation, Comparing, Opposite}
use Rattle.rel_algebra.specs.Tree.{NullTest, Chain, NoLink, MoreLinks, Query, Set, Stmt}
use Rattle.rel_algebra.specs.World.{Called, Ends, Eval, Gives, Frame, World, after, outcome, give}
use Rattle.rel_algebra.specs.Endings.{op_value}
use Rattle.rel_algebra.specs.Doing.{Next, ends, put_in, with_diagnostics}
use Rattle.rel_algebra.specs.Meaning.{Context, does, ev}
use Rattle.rel_algebra.specs.States.{success}
use Rattle.routine_views.specs.Views.{Known, expr_in, stmt_in, target}
use Rattle.run_expressions.proofs.Laws.{after_give}
use Rattle.run_choices.specs.Ending.{Tells, TellsAnywhere}
use Rattle.run_choices.specs.declared.stop.Stop.{Stop}
use Rattle.run_places.specs.Views.{link_in, links_in}
use Rattle.run_places.proofs.Laws.{expr_in-Chain, expr_in-Operation, link_in-parts, stmt_in-Set}
use Rattle.run_operands.specs.AtOnce.{ChainEndsAs, EndsAs, HasValue, IsDone, IsSet, IsTaken}
use Rattle.run_operands.specs.AtOnce.{WordGives}

-- a word over one operand
over_one : (o : Operation) (a : Expr) (x v : Value) (self : Called) (rows : List Row)
    (f : Frame) (w : World) → ev a self rows f w ≡ Gives x w → op_value o (x ∷ []) ≡ Ok v →
    ev (Operate o (MoreExprs a NoExpr)) self rows f w ≡ Gives v w
over_one o a x v self rows f w h is = rw h (rw is refl)

-- and over two
over_two : (o : Operation) (a b : Expr) (x y v : Value) (self : Called) (rows : List Row)
    (f : Frame) (w : World) → ev a self rows f w ≡ Gives x w → ev b self rows f w ≡ Gives y w →
    op_value o (x ∷ y ∷ []) ≡ Ok v →
    ev (Operate o (MoreExprs a (MoreExprs b NoExpr))) self rows f w ≡ Gives v w
over_two o a b x y v self rows f w h g is = rw h (rw g (rw is refl))

-- a comparison
pub compared_gives : (c : Comparison) (a b : BoundExpr) (x y v : Value) (rows : List Row)
    (f : Frame) → HasValue a rows f x → HasValue b rows f y → v ≡ compared c x y →
    WordGives (words.Comparing c) (a ∷ b ∷ []) rows f v
compared_gives c a b x y v rows f h g is k self w =
    over_two (Comparing c) (expr_in k a) (expr_in k b) x y v self rows f w (h k self w)
    (g k self w) (ap (λ (z : Value). Ok z) (sym is))

-- NOT
pub opposite_gives : (a : BoundExpr) (x v : Value) (rows : List Row) (f : Frame) →
    HasValue a rows f x → Ok v ≡ op_value Opposite (x ∷ []) →
    WordGives words.Opposite (a ∷ []) rows f v
opposite_gives a x v rows f h is k self w =
    over_one Opposite (expr_in k a) x v self rows f w (h k self w) (sym is)

-- IS NULL
pub null_test_gives : (a : BoundExpr) (x : Value) (b : Bool) (rows : List Row) (f : Frame) →
    HasValue a rows f x → b ≡ is_null x → WordGives words.NullTest (a ∷ []) rows f (Truth b)
null_test_gives a x b rows f h is k self w =
    over_one NullTest (expr_in k a) x (Truth b) self rows f w (h k self w)
    (ap (λ (c : Bool). Ok (Truth c)) (sym is))

-- a word that is another, over a list that is another
pub word_given : (word other : BoundOperation) (es others : List BoundExpr) (rows : List Row)
    (f : Frame) (v : Value) → word ≡ other → es ≡ others → WordGives other others rows f v →
    WordGives word es rows f v
word_given word other es others rows f v is are h k self w =
    ap (λ (o : BoundOperation). ev (operated o (map (expr_in k) es)) self rows f w) is
    ∙ (ap (λ (xs : List BoundExpr). ev (operated other (map (expr_in k) xs)) self rows f w) are
    ∙ h k self w)

-- an expression that is a word over operands
pub operation_ends : (e : BoundExpr) (word : BoundOperation) (es others : List BoundExpr)
    (rows : List Row) (f : Frame) (found : Option Value) (r : Option (Result Value Stop)) →
    e ≡ expr.Operation word es → others ≡ es → IfSome found (WordGives word others rows f) →
    r ≡ option_map Ok found → IfSome r (EndsAs e rows f)
operation_ends e word es others rows f None r is are h made =
    subst (λ (x : Option (Result Value Stop)). IfSome x (EndsAs e rows f)) (sym made) tt
operation_ends e word es others rows f (Some v) r is are h made =
    subst (λ (x : Option (Result Value Stop)). IfSome x (EndsAs e rows f)) (sym made)
    (λ k self w. ap (λ (x : Expr). ev x self rows f w)
    (ap (expr_in k) is ∙ expr_in-Operation k word es)
    ∙ (ap (λ (xs : List BoundExpr). ev (operated word (map (expr_in k) xs)) self rows f w)
    (sym are) ∙ h k self w))

-- an expression that has a value
pub value_ends : (e : BoundExpr) (x : Value) (rows : List Row) (f : Frame)
    (r : Result Value Stop) → HasValue e rows f x → TellsAnywhere r (give x) → EndsAs e rows f r
value_ends e x rows f r h tells k self w =
    subst (λ (d : Ends Value). Tells w r d) (sym (h k self w)) (tells w)

-- a chain of one operator between two operands
pub chain_ends : (first : BoundExpr) (l : BoundLink) (x y : Value) (rows : List Row) (f : Frame)
    (r : Result Value Stop) → HasValue first rows f x → HasValue l.operand rows f y →
    TellsAnywhere r (outcome (applied l.operator x y)) → ChainEndsAs first (l ∷ []) rows f r
chain_ends first l x y rows f r h g tells k self w =
    subst (λ (d : Ends Value). Tells w r d) (sym (
    ap (λ (m : Link). ev (Chain (expr_in k first) (links (m ∷ []))) self rows f w)
    (link_in-parts k l) ∙ by)) (tells w)
  where
    by : ev (Chain (expr_in k first) (MoreLinks l.operator (expr_in k l.operand) NoLink)) self rows
        f w ≡ outcome (applied l.operator x y) w
    by = rw (h k self w) (rw (g k self w) (after_give (outcome (applied l.operator x y) w)))

-- a list of one link
pub one_link : (first : BoundExpr) (ls : List BoundLink) (l : BoundLink) (rows : List Row)
    (f : Frame) (r : Result Value Stop) → 1 ≤ length ls → length ls < 2 →
    l ≡ slice_index_or ls 0 l → ChainEndsAs first (l ∷ []) rows f r → ChainEndsAs first ls rows f r
one_link first [] l rows f r a b is h = absurd (omega (arith, a))
one_link first (x ∷ []) l rows f r a b is h =
    subst (λ (y : BoundLink). ChainEndsAs first (y ∷ []) rows f r) is h
one_link first (x ∷ y ∷ ls) l rows f r a b is h = absurd (omega (arith, b))

-- a list of one expression
pub one_expr : (es : List BoundExpr) (e : BoundExpr) → 1 ≤ length es → length es < 2 →
    e ≡ slice_index_or es 0 e → es ≡ e ∷ []
one_expr [] e a b is = absurd (omega (arith, a))
one_expr (x ∷ []) e a b is = ap (λ (y : BoundExpr). y ∷ []) (sym is)
one_expr (x ∷ y ∷ es) e a b is = absurd (omega (arith, b))

-- a list of two expressions
pub two_exprs : (es : List BoundExpr) (d e : BoundExpr) → 2 ≤ length es → length es < 3 →
    d ≡ slice_index_or es 0 d → e ≡ slice_index_or es 1 e → es ≡ d ∷ e ∷ []
two_exprs [] d e a b p q = absurd (omega (arith, a))
two_exprs (x ∷ []) d e a b p q = absurd (omega (arith, a))
two_exprs (x ∷ y ∷ []) d e a b p q = ap₂ (λ u v. u ∷ v ∷ []) (sym p) (sym q)
two_exprs (x ∷ y ∷ z ∷ es) d e a b p q = absurd (omega (arith, b))

-- an expression that is a chain
pub chain_given : (e first other : BoundExpr) (ls others : List BoundLink) (rows : List Row)
    (f : Frame) (r : Result Value Stop) → e ≡ expr.Chain first ls → other ≡ first → others ≡ ls →
    ChainEndsAs other others rows f r → EndsAs e rows f r
chain_given e first other ls others rows f r is same are h k self w =
    subst (λ (d : Ends Value). Tells w r d) (sym (
    ap (λ (x : Expr). ev x self rows f w) (ap (expr_in k) is ∙ expr_in-Chain k first ls)
    ∙ (ap (λ (x : BoundExpr). ev (Chain (expr_in k x) (links_in k ls)) self rows f w) (sym same)
    ∙ ap (λ (xs : List BoundLink). ev (Chain (expr_in k other) (links_in k xs)) self rows f w)
    (sym are)))) (h k self w)

-- a value that a type takes
pub is_taken : (to : SqlType) (e : BoundExpr) (x : Value) (f : Frame)
    (found : Option (Result Value Stop)) (r : Option Value) → found ≡ Some (Ok x) →
    IfSome found (EndsAs e [] f) → IfSome r (λ v. assigned to x ≡ Ok v) →
    IfSome r (λ v. IsTaken to e f v)
is_taken to e x f found r is h taken =
    IfSome_then r taken (λ v g. record {
      value = x;
      has = λ k self w. subst (λ o. IfSome o (EndsAs e [] f)) is h k self w;
      taken = g;
    })

-- SET of a value that is taken
pub set_ends : (t : BoundTarget) (e : BoundExpr) (f g h : Frame) (v : Value)
    (found : Option Value) → found ≡ Some v → IfSome found (IsTaken t.data_type e f) →
    g ≡ put_in (target t ∷ []) (v ∷ []) f → h ≡ with_diagnostics success 0 g → IsSet t e f h
set_ends t e f g h v found is all stored done k c w =
    let taken = subst (λ o. IfSome o (IsTaken t.data_type e f)) is all in
    by taken ∙ ap (λ (x : Frame). ends Next x w)
    (sym (done ∙ ap (with_diagnostics success 0) stored))
  where
    by : IsTaken t.data_type e f v → does (Set (target t) (expr_in k e)) c f w
        ≡ ends Next (with_diagnostics success 0 (put_in (target t ∷ []) (v ∷ []) f)) w
    by taken = rw (taken.has k c.self w) (rw taken.taken refl)

-- a statement that is SET
pub set_done : (stmt : BoundStmt) (t : BoundTarget) (e : BoundExpr) (f g : Frame) →
    stmt ≡ bound.Set t e → IsSet t e f g → IsDone stmt f g
set_done stmt t e f g is h k cursors c w =
    ap (λ (s : List Query → Stmt). does (s cursors) c f w) (ap (stmt_in k) is ∙ stmt_in-Set k t e)
    ∙ h k c w
