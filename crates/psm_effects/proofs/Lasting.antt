-- A query lasts while the tables stay as they are.
use Rattle.std.proofs.Common.{ℕ, List, false, refl}
use Rattle.rel_algebra.specs.Lasting.{Lasts, LinksLast, AllLast, RoutineLasts, RowsLast, FromLasts}
use Rattle.rel_algebra.specs.Lasting.{QueryLasts}
use Rattle.rel_algebra.specs.Tree.{And, Call, CallSelf, Case, CaseOf, Chain, Coalesce, Column}
use Rattle.rel_algebra.specs.Tree.{Cross, Derived, Exists, Expr, Exprs, From, Function, Grouped}
use Rattle.rel_algebra.specs.Tree.{In, Inner, LeftOuter, Links, Literal, MoreExprs, MoreLinks}
use Rattle.rel_algebra.specs.Tree.{MoreRows, NoExpr, NoLink, NoRow, Operate, Or, Ordered, Query}
use Rattle.rel_algebra.specs.Tree.{Returned, Routine, Rows, Select, Single, Table, Values, Variable}

module _ (S : List ℕ → ℕ) where
  mutual
    expr_lasts : (e : Expr) → Lasts e S S
    expr_lasts (Literal v) = tt
    expr_lasts (Column level i) = tt
    expr_lasts (Variable i) = tt
    expr_lasts (Chain x links) = (expr_lasts x, links_last links)
    expr_lasts (Operate op es) = all_last es
    expr_lasts (And es) = all_last es
    expr_lasts (Or es) = all_last es
    expr_lasts (Case arms) = all_last arms
    expr_lasts (CaseOf x test result arms) = (
      expr_lasts x,
      expr_lasts test,
      expr_lasts result,
      all_last arms,
    )
    expr_lasts (Coalesce es) = all_last es
    expr_lasts (In x q) = (expr_lasts x, query_lasts q)
    expr_lasts (Exists q) = query_lasts q
    expr_lasts (Single q) = query_lasts q
    expr_lasts (Call name r es) = (routine_lasts r, all_last es)
    expr_lasts (CallSelf types es) = all_last es

    links_last : (ls : Links) → LinksLast ls S S
    links_last NoLink = tt
    links_last (MoreLinks operator x links) = (expr_lasts x, links_last links)

    all_last : (es : Exprs) → AllLast es S S
    all_last NoExpr = tt
    all_last (MoreExprs x es) = (expr_lasts x, all_last es)

    routine_lasts : (r : Routine) → RoutineLasts r S S
    routine_lasts (Returned types returns x) = expr_lasts x
    routine_lasts (Function false types returns null_call statement) = λ params. refl
    routine_lasts _ = tt

    rows_last : (rs : Rows) → RowsLast rs S S
    rows_last NoRow = tt
    rows_last (MoreRows es rows) = (all_last es, rows_last rows)

    from_lasts : (f : From) → FromLasts f S S
    from_lasts (Table name) = refl
    from_lasts (Derived q) = query_lasts q
    from_lasts (Cross a b) = (from_lasts a, from_lasts b)
    from_lasts (Inner a b on) = (from_lasts a, from_lasts b, all_last on)
    from_lasts (LeftOuter a b on) = (from_lasts a, from_lasts b, all_last on)

    pub query_lasts : (q : Query) → QueryLasts q S S
    query_lasts (Select items from tests) = (all_last items, from_lasts from, all_last tests)
    query_lasts (Grouped from tests k items ags having list) =
        (from_lasts from, all_last tests, all_last items, all_last having, all_last list)
    query_lasts (Values rows) = rows_last rows
    query_lasts (Ordered q keys) = query_lasts q
