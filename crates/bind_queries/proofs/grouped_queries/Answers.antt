use Rattle.std.proofs.Common.{ap, [], ◌∷◌, None, Some}
use Rattle.std.specs.Prelude.{codes}
use Rattle.sql_values.specs.declared.fold.FoldKind.TheVariants.{Count, Sum, Max}
use Rattle.sql_values.specs.declared.operators.Operator.TheVariants.{Add}
use Rattle.syntax_trees.specs.declared.expr.ChainOperator.TheVariants as link
use Rattle.syntax_trees.specs.declared.expr.Operation.TheVariants.{Minus}
use Rattle.bind_faults.specs.Faults.{Noted, least}
use Rattle.bind_sight.specs.Sight.{at_top}
use Rattle.bind_parts.specs.declared.typed.TypedQuery.{TypedQuery}
use Rattle.bind_queries.specs.Examples.{at, number, text, name, qualified, word, chain, equal, item}
use Rattle.bind_queries.specs.Examples.{star, table, select, select_where, t, s, aggregate}
use Rattle.bind_queries.specs.Examples.{count_all, by, of_item, grouped, having_of, catalog}
use Rattle.bind_queries.specs.Written.{Grouped, Values, Comma, Inner, exprs, froms}
use Rattle.bind_queries.proofs.Rows.{query_plain}
use Rattle.bind_queries.proofs.grouped_queries.Goals as goal

pub returns : goal.returns
returns c = record {
  other_column = ap (λ (x : Noted TypedQuery). x.faults)
      (query_plain (grouped (item (name (codes "A") 1) ∷ item (aggregate Sum 3 (name (codes "A") 5))
      ∷ []) (t ∷ []) (by (codes "K") 80 ∷ [])) [] (at_top catalog));
  grouping_column = ap (λ (x : Noted TypedQuery). x.faults)
      (query_plain (grouped (item (name (codes "K") 1) ∷ item (aggregate Sum 3 (name (codes "A") 5))
      ∷ []) (t ∷ []) (by (codes "K") 80 ∷ [])) [] (at_top catalog));
  beside_an_aggregate = ap (λ (x : Noted TypedQuery). x.faults)
      (query_plain (select (item (name (codes "K") 1) ∷ item (aggregate Sum 3 (name (codes "A") 5))
      ∷ []) (t ∷ [])) [] (at_top catalog));
  in_an_expression = ap (λ (x : Noted TypedQuery). x.faults)
      (query_plain
      (select (item (chain (aggregate Sum 1 (name (codes "A") 3)) (link.Value Add) 5
      (name (codes "A") 6)) ∷ []) (t ∷ [])) [] (at_top catalog));
  aggregate_in_aggregate = ap (λ (x : Noted TypedQuery). x.faults)
      (query_plain (select (item (aggregate Sum 1 (aggregate Sum 3 (name (codes "A") 5))) ∷ [])
      (t ∷ [])) [] (at_top catalog));
  aggregate_in_where = ap (λ (x : Noted TypedQuery). x.faults)
      (query_plain (select_where (item (number 1) ∷ []) (t ∷ [])
      (equal (aggregate Sum 70 (name (codes "A") 72)) 74 (number 75))) [] (at_top catalog));
  aggregate_in_where_of_groups = ap (λ (x : Noted TypedQuery). x.faults)
      (query_plain (Grouped (at 0) (item (count_all 1) ∷ []) (froms (t ∷ []))
      (Some (equal (count_all 70) 74 (number 75))) (by (codes "K") 80 ∷ []) None) []
      (at_top catalog));
  aggregate_in_on = ap (λ (x : Noted TypedQuery). x.faults)
      (query_plain (select (item (number 1) ∷ [])
      (t ∷ Inner (table (codes "S") 60) (equal (aggregate Max 62 (name (codes "K") 64)) 66
      (number 67)) ∷ [])) [] (at_top catalog));
  aggregate_in_values = ap (λ (x : Noted TypedQuery). x.faults)
      (query_plain (Values (at 0) (exprs (aggregate Sum 2 (number 4) ∷ []) ∷ [])) []
      (at_top catalog));
  all_columns = ap (λ (x : Noted TypedQuery). x.faults)
      (query_plain (grouped (star 1 ∷ []) (t ∷ []) (by (codes "K") 80 ∷ [])) [] (at_top catalog));
  all_grouping_columns = ap (λ (x : Noted TypedQuery). x.faults)
      (query_plain (grouped (star 1 ∷ []) (t ∷ []) (by (codes "A") 80 ∷ by (codes "K") 82 ∷ [])) []
      (at_top catalog));
  having_alone = ap (λ (x : Noted TypedQuery). x.faults)
      (query_plain (having_of (item (name (codes "K") 1) ∷ []) (t ∷ []) []
      (equal (number 90) 91 (number 92))) [] (at_top catalog));
  having_alone_of_one_group = ap (λ (x : Noted TypedQuery). x.faults)
      (query_plain (having_of (item (number 1) ∷ []) (t ∷ []) []
      (equal (count_all 90) 94 (number 95))) [] (at_top catalog));
  other_column_in_having = ap (λ (x : Noted TypedQuery). x.faults)
      (query_plain (having_of (item (number 1) ∷ []) (t ∷ []) (by (codes "K") 80 ∷ [])
      (equal (name (codes "K") 90) 91 (name (codes "A") 92))) [] (at_top catalog));
  having_of_any_kind = ap (λ (x : Noted TypedQuery). x.faults)
      (query_plain (having_of (item (number 1) ∷ []) (t ∷ []) [] (count_all 90)) []
      (at_top catalog));
  after_its_item = ap (λ (x : Noted TypedQuery). x.faults)
      (query_plain (grouped (item (qualified (codes "T") 1 (codes "A")) ∷ []) (t ∷ [])
      (by (codes "A") 80 ∷ [])) [] (at_top catalog));
  without_its_item = ap (λ (x : Noted TypedQuery). x.faults)
      (query_plain (grouped (item (name (codes "K") 1) ∷ []) (t ∷ s ∷ [])
      (of_item (codes "T") 80 (codes "K") ∷ [])) [] (at_top catalog));
  of_another_item = ap (λ (x : Noted TypedQuery). x.faults)
      (query_plain (grouped (item (qualified (codes "T") 1 (codes "A")) ∷ []) (t ∷ s ∷ [])
      (of_item (codes "S") 80 (codes "A") ∷ [])) [] (at_top catalog));
  of_an_unknown_table = ap (λ (x : Noted TypedQuery). x.faults)
      (query_plain (grouped (item (name (codes "Z") 1) ∷ []) (Comma (table (codes "V") 60) ∷ [])
      (by (codes "Z") 80 ∷ [])) [] (at_top catalog));
  other_of_an_unknown_table = ap (λ (x : Noted TypedQuery). least x.faults)
      (query_plain (grouped (item (name (codes "Y") 1) ∷ []) (Comma (table (codes "V") 60) ∷ [])
      (by (codes "Z") 80 ∷ [])) [] (at_top catalog));
  unknown_grouping_column = ap (λ (x : Noted TypedQuery). x.faults)
      (query_plain (grouped (item (number 1) ∷ []) (t ∷ []) (by (codes "Z") 80 ∷ [])) []
      (at_top catalog));
  grouping_column_of_two_items = ap (λ (x : Noted TypedQuery). x.faults)
      (query_plain (grouped (item (number 1) ∷ []) (t ∷ s ∷ []) (by (codes "A") 80 ∷ [])) []
      (at_top catalog));
  grouping_column_twice = ap (λ (x : Noted TypedQuery). x.faults)
      (query_plain (grouped (item (name (codes "K") 1) ∷ []) (t ∷ [])
      (by (codes "K") 80 ∷ by (codes "K") 82 ∷ [])) [] (at_top catalog));
  sum_of_texts = ap (λ (x : Noted TypedQuery). x.faults)
      (query_plain (select (item (aggregate Sum 1 (text 3)) ∷ []) (t ∷ [])) [] (at_top catalog));
  kind_of_max = ap (λ (x : Noted TypedQuery). x.faults)
      (query_plain (select (item (word Minus 1 (aggregate Max 2 (name (codes "B") 4) ∷ [])) ∷ [])
      (s ∷ [])) [] (at_top catalog));
  kind_of_count = ap (λ (x : Noted TypedQuery). x.faults)
      (query_plain (select (item (word Minus 1 (aggregate Count 2 (name (codes "B") 4) ∷ [])) ∷ [])
      (s ∷ [])) [] (at_top catalog));
  kind_after_a_fault = ap (λ (x : Noted TypedQuery). x.faults)
      (query_plain (select (item (word Minus 1 (aggregate Max 2 (name (codes "Z") 4) ∷ [])) ∷ [])
      (s ∷ [])) [] (at_top catalog));
}
