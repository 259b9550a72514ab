-- The steps of loops over links, arguments, expressions and rows, and the end of a function's body.
use Rattle.std.proofs.Common.{ℕ, ◌≡◌, ◌<◌, ◌+◌, ◌++◌, ◌∷◌, [], List, length, drop, get_or, Some}
use Rattle.std.proofs.Common.{sym, ap, ◌∙◌, subst, Result, Ok, Err}
use Rattle.sql_values.specs.declared.operators.Operator.{Operator}
use Rattle.sql_values.specs.declared.value.SqlType.{SqlType}
use Rattle.sql_values.specs.declared.value.Value.{Value}
use Rattle.sql_values.specs.Operators.{applied}
use Rattle.bound_trees.specs.declared.expr.BoundExpr.{BoundExpr}
use Rattle.bound_trees.specs.declared.query.BoundRow.{BoundRow}
use Rattle.row_types.specs.Rows.{Row}
use Rattle.rel_algebra.specs.Tree.{Expr, Links}
use Rattle.rel_algebra.specs.World.{World, Frame, Ends, Called, after, give, outcome}
use Rattle.rel_algebra.specs.Meaning.{ev, ev_links, ev_args, ev_all, ev_rows, assigned_first}
use Rattle.routine_views.specs.Views.{Known, expr_in}
use Rattle.run_places.specs.Views.{exprs_in, row_in, rows_in}
use Rattle.run_expressions.specs.Content.{Content, world_of}
use Rattle.run_choices.specs.declared.stop.Stop.{Stop}
use Rattle.run_expressions.specs.Ending.{Ended}
use Rattle.run_expressions.specs.Following.{Follows}
use Rattle.run_expressions.proofs.Laws.{Going, goes_on, stops, follows, after_after, adds_stop}
use Rattle.run_expressions.proofs.Laws.{adds_go}
use Rattle.run_places.proofs.Trees.{rest, args_at, rows_at}

-- ---- arguments: the value of one is assigned to its parameter

module _ (self : Called) (k : Known) (es : List BoundExpr) (types : List SqlType) (i : ℕ)
    (x : BoundExpr)
    (rows : List Row) (f : Frame) (old now new : Content) (first : Result Value Stop)
    (vs : List Value) (whole : Ends (List Value)) where
  abbrev args_left : Ends (List Value)
  args_left = ev_args (exprs_in k (drop i es)) (drop i types) self rows f (world_of now)

  abbrev args_after : World → Ends (List Value)
  args_after w = ev_args (exprs_in k (drop (i + 1) es)) (drop (i + 1) types) self rows f w

  -- an argument as its parameter takes it
  abbrev taken : Ends Value
  taken = after (ev (expr_in k x) self rows f (world_of now))
      (λ v. outcome (assigned_first (drop i types) v))

  -- what is there with it
  abbrev more : Value → World → Ends (List Value)
  more v u = after (outcome (assigned_first (drop i types) v) u) (λ y. give (vs ++ y ∷ []))

  left_is : i < length es → x ≡ get_or es i x →
      args_left ≡ after taken (λ y w. after (args_after w) (λ ys. give (y ∷ ys)))
  left_is h is = args_at self k es types i x rows f (world_of now) h is ∙
      sym (after_after (ev (expr_in k x) self rows f (world_of now))
      (λ v. outcome (assigned_first (drop i types) v))
      (λ y w. after (args_after w) (λ ys. give (y ∷ ys))))

  taken_ends : (r : Result (List Value) Stop) →
      Ended now new first (ev (expr_in k x) self rows f (world_of now)) →
      Follows first r more → Ended now new r (after taken (λ y. give (vs ++ y ∷ [])))
  taken_ends r d h = subst (λ (e : Ends (List Value)). Ended now new r e)
      (sym (after_after (ev (expr_in k x) self rows f (world_of now))
      (λ v. outcome (assigned_first (drop i types) v)) (λ y. give (vs ++ y ∷ []))))
      (follows now new first r (ev (expr_in k x) self rows f (world_of now)) more h d)

  -- an argument stops, or its parameter doesn't take it
  pub args_stop : (s : Stop) (r : Result (List Value) Stop) → i < length es → x ≡ get_or es i x →
      Going old now (after args_left (λ ts. give (vs ++ ts))) whole →
      Ended now new first (ev (expr_in k x) self rows f (world_of now)) →
      Follows {B = List Value} first (Err s) more → r ≡ Err s → Ended old new r whole
  args_stop s r h is g d made answer =
      adds_stop old now new taken (λ y. Some y) vs args_after args_left whole s r (left_is h is) g
      (taken_ends (Err s) d made) answer

  -- it is taken, and the next follows
  pub args_go : (us : List Value) → i < length es → x ≡ get_or es i x →
      Going old now (after args_left (λ ts. give (vs ++ ts))) whole →
      Ended now new first (ev (expr_in k x) self rows f (world_of now)) →
      Follows first (Ok us) more →
      Going old new (after (args_after (world_of new)) (λ ts. give (us ++ ts))) whole
  args_go us h is g d made =
      adds_go old now new taken (λ y. Some y) vs args_after args_left whole us (left_is h is) g
      (taken_ends (Ok us) d made)

-- ---- several expressions

module _ (self : Called) (k : Known) (es : List BoundExpr) (i : ℕ) (x : BoundExpr) (rows : List Row)
    (f : Frame)
    (old now new : Content) (first : Result Value Stop) (vs : List Value)
    (whole : Ends (List Value)) where
  abbrev all_left : Ends (List Value)
  all_left = ev_all (exprs_in k (drop i es)) self rows f (world_of now)

  abbrev all_after : World → Ends (List Value)
  all_after w = ev_all (exprs_in k (drop (i + 1) es)) self rows f w

  -- one stops
  pub all_stop : (s : Stop) (r : Result (List Value) Stop) → i < length es → x ≡ get_or es i x →
      Going old now (after all_left (λ ts. give (vs ++ ts))) whole →
      Ended now new first (ev (expr_in k x) self rows f (world_of now)) →
      Follows {B = List Value} first (Err s) (λ v. give (vs ++ v ∷ [])) → r ≡ Err s →
      Ended old new r whole
  all_stop s r h is g d made answer =
      adds_stop old now new (ev (expr_in k x) self rows f (world_of now)) (λ v. Some v) vs
      all_after all_left whole s r (ap (λ (xs : List BoundExpr). ev_all (exprs_in k xs) self rows
      f (world_of now)) (rest es i x h is)) g
      (follows {B = List Value} now new first (Err s)
      (ev (expr_in k x) self rows f (world_of now)) (λ v. give (vs ++ v ∷ [])) made d) answer

  -- its value is added, and the next follows
  pub all_go : (us : List Value) → i < length es → x ≡ get_or es i x →
      Going old now (after all_left (λ ts. give (vs ++ ts))) whole →
      Ended now new first (ev (expr_in k x) self rows f (world_of now)) →
      Follows first (Ok us) (λ v. give (vs ++ v ∷ [])) →
      Going old new (after (all_after (world_of new)) (λ ts. give (us ++ ts))) whole
  all_go us h is g d made =
      adds_go old now new (ev (expr_in k x) self rows f (world_of now)) (λ v. Some v) vs
      all_after all_left whole us (ap (λ (xs : List BoundExpr). ev_all (exprs_in k xs) self rows
      f (world_of now)) (rest es i x h is)) g
      (follows now new first (Ok us) (ev (expr_in k x) self rows f (world_of now))
      (λ v. give (vs ++ v ∷ [])) made d)

-- ---- rows of VALUES

module _ (self : Called) (k : Known) (rs : List BoundRow) (i : ℕ) (x : BoundRow)
    (es : List BoundExpr)
    (rows : List Row) (f : Frame) (old now new : Content) (first : Result Row Stop)
    (vs : List Row) (whole : Ends (List Row)) where
  abbrev rows_left : Ends (List Row)
  rows_left = ev_rows (rows_in k (drop i rs)) self rows f (world_of now)

  abbrev rows_after : World → Ends (List Row)
  rows_after w = ev_rows (rows_in k (drop (i + 1) rs)) self rows f w

  -- one stops
  pub rows_stop : (s : Stop) (r : Result (List Row) Stop) → i < length rs → x ≡ get_or rs i x →
      row_in k x ≡ exprs_in k es → Going old now (after rows_left (λ ts. give (vs ++ ts))) whole →
      Ended now new first (ev_all (exprs_in k es) self rows f (world_of now)) →
      Follows {B = List Row} first (Err s) (λ v. give (vs ++ v ∷ [])) → r ≡ Err s →
      Ended old new r whole
  rows_stop s r h is of g d made answer =
      adds_stop old now new (ev_all (exprs_in k es) self rows f (world_of now)) (λ v. Some v) vs
      rows_after rows_left whole s r (rows_at self k rs i x es rows f (world_of now) h is of) g
      (follows {B = List Row} now new first (Err s)
      (ev_all (exprs_in k es) self rows f (world_of now)) (λ v. give (vs ++ v ∷ [])) made d)
      answer

  -- it is added, and the next follows
  pub rows_go : (us : List Row) → i < length rs → x ≡ get_or rs i x → row_in k x ≡ exprs_in k es →
      Going old now (after rows_left (λ ts. give (vs ++ ts))) whole →
      Ended now new first (ev_all (exprs_in k es) self rows f (world_of now)) →
      Follows first (Ok us) (λ v. give (vs ++ v ∷ [])) →
      Going old new (after (rows_after (world_of new)) (λ ts. give (us ++ ts))) whole
  rows_go us h is of g d made =
      adds_go old now new (ev_all (exprs_in k es) self rows f (world_of now)) (λ v. Some v) vs
      rows_after rows_left whole us (rows_at self k rs i x es rows f (world_of now) h is of) g
      (follows now new first (Ok us) (ev_all (exprs_in k es) self rows f (world_of now))
      (λ v. give (vs ++ v ∷ [])) made d)

-- ---- links: what stands left, with the value to its right

module _ (self : Called) (operator : Operator) (e : Expr) (links : Links) (left : Value)
    (rows : List Row)
    (f : Frame) (old now new : Content) (first : Result Value Stop) (all whole : Ends Value)
    (all_is : all ≡ after (ev e self rows f (world_of now))
    (λ w u. after (outcome (applied operator left w) u) (λ v. ev_links links v self rows f)))
    (g : Going old now all whole) (d : Ended now new first (ev e self rows f (world_of now)))
  where
    abbrev both : Ends Value
    both = after (ev e self rows f (world_of now)) (λ w. outcome (applied operator left w))

    on : all ≡ after both (λ v. ev_links links v self rows f)
    on = all_is ∙ sym (after_after (ev e self rows f (world_of now))
        (λ w. outcome (applied operator left w)) (λ v. ev_links links v self rows f))

    -- it stops, or the operator refuses them
    pub link_stops : (s : Stop) (r : Result Value Stop) →
        Follows {B = Value} first (Err s) (λ w. outcome (applied operator left w)) → r ≡ Err s →
        Ended old new r whole
    link_stops s r made answer = stops {A = Value} {B = Value} old now new s both
        (λ v. ev_links links v self rows f) all whole r on g
        (follows {B = Value} now new first (Err s) (ev e self rows f (world_of now))
        (λ w. outcome (applied operator left w)) made d) answer

    -- it goes on from what the operator gives
    pub link_goes : (v : Value) → Follows first (Ok v) (λ w. outcome (applied operator left w)) →
        Going old new (ev_links links v self rows f (world_of new)) whole
    link_goes v made = goes_on old now new v both (λ x. ev_links links x self rows f) all whole on g
        (follows now new first (Ok v) (ev e self rows f (world_of now))
        (λ w. outcome (applied operator left w)) made d)
