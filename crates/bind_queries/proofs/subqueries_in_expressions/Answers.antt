use Rattle.std.proofs.Common.{ap, [], ◌∷◌, true, false}
use Rattle.std.specs.Prelude.{codes}
use Rattle.sql_values.specs.declared.fold.FoldKind.TheVariants.{Sum}
use Rattle.syntax_trees.specs.declared.expr.Operation.TheVariants.{Minus}
use Rattle.bind_faults.specs.Faults.{Noted}
use Rattle.bind_sight.specs.Sight.{at_top}
use Rattle.bind_parts.specs.declared.typed.TypedQuery.{TypedQuery}
use Rattle.bind_queries.specs.Examples.{at, number, text, name, qualified, word, equal, item, star}
use Rattle.bind_queries.specs.Examples.{table, aliased, select, select_where, t, s, aggregate, by}
use Rattle.bind_queries.specs.Examples.{grouped, having_of, query_at, catalog}
use Rattle.bind_queries.specs.Written.{Subquery, Exists, InQuery, Values, Comma, Cross, Inner}
use Rattle.bind_queries.specs.Written.{exprs}
use Rattle.bind_queries.proofs.Rows.{query_plain}
use Rattle.bind_queries.proofs.subqueries_in_expressions.Goals as goal

pub returns : goal.returns
returns c = record {
  two_columns = ap (λ (x : Noted TypedQuery). x.faults)
      (query_plain
      (select (item
      (Subquery (query_at 3 (item (name (codes "K") 4) ∷ item (name (codes "A") 6) ∷ []) (t ∷ [])))
      ∷ []) (t ∷ [])) [] (at_top catalog));
  two_columns_of_in = ap (λ (x : Noted TypedQuery). x.faults)
      (query_plain (select_where (item (number 1) ∷ []) (t ∷ [])
      (InQuery (at 71) false (number 70) (query_at 73
      (item (name (codes "K") 4) ∷ item (name (codes "A") 6) ∷ []) (t ∷ [])))) [] (at_top catalog));
  two_columns_of_values = ap (λ (x : Noted TypedQuery). x.faults)
      (query_plain (select (item (Subquery (Values (at 3) (exprs (number 4 ∷ number 6 ∷ []) ∷ [])))
      ∷ []) (t ∷ [])) [] (at_top catalog));
  columns_of_exists = ap (λ (x : Noted TypedQuery). x.faults)
      (query_plain (select_where (item (number 1) ∷ []) (t ∷ [])
      (Exists (at 71) (query_at 73 (item (name (codes "K") 4) ∷ item (name (codes "A") 6) ∷ [])
      (t ∷ [])))) [] (at_top catalog));
  in_of_another_kind = ap (λ (x : Noted TypedQuery). x.faults)
      (query_plain (select_where (item (number 1) ∷ []) (t ∷ [])
      (InQuery (at 71) false (text 70) (query_at 73 (item (name (codes "K") 74) ∷ []) (t ∷ [])))) []
      (at_top catalog));
  not_in_of_another_kind = ap (λ (x : Noted TypedQuery). x.faults)
      (query_plain (select_where (item (number 1) ∷ []) (t ∷ [])
      (InQuery (at 72) true (number 70) (query_at 73 (item (name (codes "B") 74) ∷ []) (s ∷ []))))
      [] (at_top catalog));
  in_of_its_kind = ap (λ (x : Noted TypedQuery). x.faults)
      (query_plain (select_where (item (number 1) ∷ []) (t ∷ [])
      (InQuery (at 71) false (name (codes "A") 70)
      (query_at 73 (item (name (codes "K") 74) ∷ []) (t ∷ [])))) [] (at_top catalog));
  kind_of_its_column = ap (λ (x : Noted TypedQuery). x.faults)
      (query_plain
      (select (item (word Minus 1 (Subquery (query_at 3 (item (name (codes "B") 4) ∷ []) (s ∷ [])) ∷
      [])) ∷ []) (t ∷ [])) [] (at_top catalog));
  exists_is_a_truth_value = ap (λ (x : Noted TypedQuery). x.faults)
      (query_plain
      (select (item (word Minus 1 (Exists (at 2) (query_at 4 (item (number 5) ∷ []) (s ∷ [])) ∷ []))
      ∷ []) (t ∷ [])) [] (at_top catalog));
  in_is_a_truth_value = ap (λ (x : Noted TypedQuery). x.faults)
      (query_plain
      (select (item (word Minus 1 (InQuery (at 3) false (number 2)
      (query_at 5 (item (number 6) ∷ []) (s ∷ [])) ∷ [])) ∷ []) (t ∷ [])) [] (at_top catalog));
  fault_inside = ap (λ (x : Noted TypedQuery). x.faults)
      (query_plain
      (select (item (word Minus 1 (Subquery (query_at 3 (item (name (codes "Z") 4) ∷ []) (s ∷ [])) ∷
      [])) ∷ []) (t ∷ [])) [] (at_top catalog));
  all_of_an_unknown_table = ap (λ (x : Noted TypedQuery). x.faults)
      (query_plain
      (select (item (Subquery (query_at 3 (star 4 ∷ []) (Comma (table (codes "V") 60) ∷ []))) ∷ [])
      (t ∷ [])) [] (at_top catalog));
  column_of_an_unknown_table = ap (λ (x : Noted TypedQuery). x.faults)
      (query_plain
      (select (item (Subquery (query_at 3 (item (name (codes "Z") 4) ∷ [])
      (Comma (table (codes "V") 60) ∷ []))) ∷ []) (t ∷ [])) [] (at_top catalog));
  inner_item_hides = ap (λ (x : Noted TypedQuery). x.faults)
      (query_plain
      (select (item (Subquery (query_at 3 (item (qualified (codes "T") 4 (codes "B")) ∷ [])
      (Comma (aliased (codes "T") 60 (codes "T") 62) ∷ []))) ∷ [])
      (Comma (aliased (codes "S") 50 (codes "T") 52) ∷ [])) [] (at_top catalog));
  in_on = ap (λ (x : Noted TypedQuery). x.faults)
      (query_plain (select (item (number 1) ∷ [])
      (t ∷ Inner (table (codes "S") 60) (Exists (at 62)
      (query_at 64 (item (qualified (codes "T") 65 (codes "K")) ∷ []) (s ∷ []))) ∷ [])) []
      (at_top catalog));
  later_item_in_on = ap (λ (x : Noted TypedQuery). x.faults)
      (query_plain (select (item (number 1) ∷ [])
      (t ∷ Inner (table (codes "S") 60) (Exists (at 62)
      (query_at 64 (item (qualified (codes "X") 65 (codes "A")) ∷ []) (s ∷ []))) ∷ Cross
      (aliased (codes "S") 80 (codes "X") 82) ∷ [])) [] (at_top catalog));
  column_of_the_group = ap (λ (x : Noted TypedQuery). x.faults)
      (query_plain
      (grouped (item (Subquery (query_at 3 (item (qualified (codes "T") 4 (codes "K")) ∷ [])
      (s ∷ []))) ∷ []) (t ∷ []) (by (codes "K") 80 ∷ [])) [] (at_top catalog));
  other_column_of_the_group = ap (λ (x : Noted TypedQuery). x.faults)
      (query_plain
      (grouped (item (Subquery (query_at 3 (item (qualified (codes "T") 4 (codes "A")) ∷ [])
      (s ∷ []))) ∷ []) (t ∷ []) (by (codes "K") 80 ∷ [])) [] (at_top catalog));
  other_column_in_an_inner_aggregate = ap (λ (x : Noted TypedQuery). x.faults)
      (query_plain
      (grouped (item
      (Subquery (query_at 3 (item (aggregate Sum 4 (qualified (codes "T") 6 (codes "A"))) ∷ [])
      (s ∷ []))) ∷ []) (t ∷ []) (by (codes "K") 80 ∷ [])) [] (at_top catalog));
  inside_an_aggregate = ap (λ (x : Noted TypedQuery). x.faults)
      (query_plain
      (grouped (item
      (aggregate Sum 1 (Subquery (query_at 3 (item (qualified (codes "T") 4 (codes "A")) ∷ [])
      (s ∷ [])))) ∷ []) (t ∷ []) (by (codes "K") 80 ∷ [])) [] (at_top catalog));
  other_column_in_having = ap (λ (x : Noted TypedQuery). x.faults)
      (query_plain (having_of (item (number 1) ∷ []) (t ∷ []) (by (codes "K") 80 ∷ [])
      (Exists (at 90) (query_at 92 (item (qualified (codes "T") 93 (codes "A")) ∷ []) (s ∷ [])))) []
      (at_top catalog));
  aggregate_of_the_subquery = ap (λ (x : Noted TypedQuery). x.faults)
      (query_plain
      (select (item (name (codes "K") 1) ∷ item
      (Subquery (query_at 3 (item (aggregate Sum 4 (name (codes "A") 6)) ∷ []) (s ∷ []))) ∷ [])
      (t ∷ [])) [] (at_top catalog));
  aggregate_in_its_where = ap (λ (x : Noted TypedQuery). x.faults)
      (query_plain
      (grouped (item (Exists (at 1) (select_where (item (number 4) ∷ []) (s ∷ [])
      (equal (aggregate Sum 5 (name (codes "A") 7)) 9 (number 10)))) ∷ []) (t ∷ [])
      (by (codes "K") 80 ∷ [])) [] (at_top catalog));
  aggregate_in_its_values = ap (λ (x : Noted TypedQuery). x.faults)
      (query_plain
      (grouped (item
      (Subquery (Values (at 3) (exprs (aggregate Sum 4 (name (codes "K") 6) ∷ []) ∷ []))) ∷ [])
      (t ∷ []) (by (codes "K") 80 ∷ [])) [] (at_top catalog));
  other_column_in_its_values = ap (λ (x : Noted TypedQuery). x.faults)
      (query_plain (grouped (item (Subquery (Values (at 3) (exprs (name (codes "A") 4 ∷ []) ∷ [])))
      ∷ []) (t ∷ []) (by (codes "K") 80 ∷ [])) [] (at_top catalog));
}
