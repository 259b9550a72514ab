-- Where expressions, queries and the columns of queries stand: the token at which their faults are
-- shown. ISO/IEC 9075-2, 7.3 (table value constructor) and 7.16 (query specification).
use Rattle.std.specs.Prelude.{ℕ, List, [], ◌∷◌, slice_get, Option, Some, None}
use Rattle.syntax_trees.specs.declared.anchor.Anchor.{Anchor}
use Rattle.syntax_trees.specs.Columns.{anchor_of_column}
use Rattle.syntax_trees.specs.declared.expr.Expr.{Expr, fold-Expr}
use Rattle.syntax_trees.specs.declared.expr.Expr.TheOpen.{Expr-F, SelectItem-F, ValueRow-F, Query-F}
use Rattle.syntax_trees.specs.declared.query.Query.{Query, fold-Query}
use Rattle.syntax_trees.specs.declared.query.Select.{Select, fold-Select}
use Rattle.syntax_trees.specs.declared.query.SelectItem.{SelectItem, fold-SelectItem}
use Rattle.syntax_trees.specs.declared.query.ValueRow.{ValueRow, fold-ValueRow}
use Rattle.syntax_trees.specs.declared.query.Values.{Values, fold-Values}

-- where a query stands, and each of its columns by its place
pub record Standing : Type 0 where
  pub at : Anchor
  pub column : ℕ → Anchor

-- the one there, or another
abbrev pub given_or : Anchor → Option Anchor → Anchor
given_or other None = other
given_or other (Some a) = a

-- the first, or another
abbrev pub first_or : Anchor → List Anchor → Anchor
first_or other [] = other
first_or other (a ∷ more) = a

-- the columns of a select list stand at its items, and those of `*`, which stands alone, all there
abbrev pub in_list : Anchor → List Anchor → ℕ → Anchor
in_list at items place = given_or (first_or at items) (slice_get items place)

-- the columns of VALUES stand at the values of the first row
abbrev pub in_rows : Anchor → List (List Anchor) → ℕ → Anchor
in_rows at [] place = at
in_rows at (r ∷ rs) place = given_or at (slice_get r place)

-- the token of an expression; of a chain that of its first operator
abbrev pub expr_at : Expr-F Anchor (Unit {0}) Standing Anchor (Unit {0}) (List Anchor) Anchor
    Standing Standing → Anchor
expr_at (Expr-F.Literal at l) = at
expr_at (Expr-F.Name c) = anchor_of_column c
expr_at (Expr-F.Call i args) = i.anchor
expr_at (Expr-F.Operation at operation es) = at
expr_at (Expr-F.Aggregate at kind args) = at
-- a chain stands at its first operator
expr_at (Expr-F.Chain first links) = first_or first links
expr_at (Expr-F.Subquery query) = query.at
expr_at (Expr-F.Exists at query) = at
expr_at (Expr-F.InQuery at negated left query) = at

-- the token of an item of a select list
abbrev pub item_at : SelectItem-F Anchor (Unit {0}) Standing Anchor (Unit {0}) (List Anchor) Anchor
    Standing Standing → Anchor
item_at (SelectItem-F.All at) = at
item_at (SelectItem-F.Value e alias) = e

-- the tokens of the values of a row
abbrev pub row_at : ValueRow-F Anchor (Unit {0}) Standing Anchor (Unit {0}) (List Anchor) Anchor
    Standing Standing → List Anchor
row_at (ValueRow-F.Row es) = es

-- where a query and its columns stand
abbrev pub query_at : Query-F Anchor (Unit {0}) Standing Anchor (Unit {0}) (List Anchor) Anchor
    Standing Standing → Standing
query_at (Query-F.Select s) = s
query_at (Query-F.Values v) = v

-- where an expression stands
abbrev pub anchor_of : Expr → Anchor
anchor_of = fold-Expr Anchor (Unit {0}) Standing Anchor (Unit {0}) (List Anchor) Anchor Standing
    Standing expr_at (λ _. tt) query_at item_at (λ _. tt) row_at (λ l. l.anchor)
    (λ s. record { at = s.anchor; column = in_list s.anchor s.items })
    (λ v. record { at = v.anchor; column = in_rows v.anchor v.rows })

-- where a query and its columns stand
abbrev pub standing_of : Query → Standing
standing_of = fold-Query Anchor (Unit {0}) Standing Anchor (Unit {0}) (List Anchor) Anchor Standing
    Standing expr_at (λ _. tt) query_at item_at (λ _. tt) row_at (λ l. l.anchor)
    (λ s. record { at = s.anchor; column = in_list s.anchor s.items })
    (λ v. record { at = v.anchor; column = in_rows v.anchor v.rows })

-- those of a select list
abbrev pub standing_of_select : Select → Standing
standing_of_select = fold-Select Anchor (Unit {0}) Standing Anchor (Unit {0}) (List Anchor) Anchor
    Standing Standing expr_at (λ _. tt) query_at item_at (λ _. tt) row_at (λ l. l.anchor)
    (λ s. record { at = s.anchor; column = in_list s.anchor s.items })
    (λ v. record { at = v.anchor; column = in_rows v.anchor v.rows })

-- those of VALUES
abbrev pub standing_of_values : Values → Standing
standing_of_values = fold-Values Anchor (Unit {0}) Standing Anchor (Unit {0}) (List Anchor) Anchor
    Standing Standing expr_at (λ _. tt) query_at item_at (λ _. tt) row_at (λ l. l.anchor)
    (λ s. record { at = s.anchor; column = in_list s.anchor s.items })
    (λ v. record { at = v.anchor; column = in_rows v.anchor v.rows })

-- where an item of a list stands
abbrev pub anchor_of_item : SelectItem → Anchor
anchor_of_item = fold-SelectItem Anchor (Unit {0}) Standing Anchor (Unit {0}) (List Anchor) Anchor
    Standing Standing expr_at (λ _. tt) query_at item_at (λ _. tt) row_at (λ l. l.anchor)
    (λ s. record { at = s.anchor; column = in_list s.anchor s.items })
    (λ v. record { at = v.anchor; column = in_rows v.anchor v.rows })

-- where the values of a row stand
abbrev pub anchors_of_row : ValueRow → List Anchor
anchors_of_row = fold-ValueRow Anchor (Unit {0}) Standing Anchor (Unit {0}) (List Anchor) Anchor
    Standing Standing expr_at (λ _. tt) query_at item_at (λ _. tt) row_at (λ l. l.anchor)
    (λ s. record { at = s.anchor; column = in_list s.anchor s.items })
    (λ v. record { at = v.anchor; column = in_rows v.anchor v.rows })

-- the token of the column at a place of a query
abbrev pub column_at : Query → ℕ → Anchor
column_at q place = (standing_of q).column place
