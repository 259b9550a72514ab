use Rattle.std.proofs.Common.{ap, [], ◌∷◌}
use Rattle.std.specs.Prelude.{codes}
use Rattle.syntax_trees.specs.declared.expr.Operation.TheVariants.{Minus}
use Rattle.bind_faults.specs.Faults.{Noted, least}
use Rattle.bind_sight.specs.Sight.{at_top}
use Rattle.bind_parts.specs.declared.typed.TypedQuery.{TypedQuery}
use Rattle.bind_queries.specs.Examples.{number, text, name, qualified, word, item, table, aliased}
use Rattle.bind_queries.specs.Examples.{select, select_where, t, s, on_x, catalog}
use Rattle.bind_queries.specs.Written.{Comma, Cross, Inner, Left}
use Rattle.bind_queries.proofs.Rows.{query_plain}
use Rattle.bind_queries.proofs.names_in_joins.Goals as goal

pub returns : goal.returns
returns c = record {
  items_of_one_name = ap (λ (x : Noted TypedQuery). x.faults)
      (query_plain (select (item (number 1) ∷ [])
      (t ∷ Comma (aliased (codes "S") 60 (codes "T") 62) ∷ [])) [] (at_top catalog));
  one_table_twice = ap (λ (x : Noted TypedQuery). x.faults)
      (query_plain (select (item (number 1) ∷ []) (t ∷ Cross (table (codes "T") 60) ∷ [])) []
      (at_top catalog));
  in_two_items = ap (λ (x : Noted TypedQuery). x.faults)
      (query_plain (select (item (name (codes "A") 1) ∷ []) (t ∷ s ∷ [])) [] (at_top catalog));
  in_two_items_unused = ap (λ (x : Noted TypedQuery). x.faults)
      (query_plain (select (item (name (codes "K") 1) ∷ item (qualified (codes "S") 3 (codes "A")) ∷
      []) (t ∷ s ∷ [])) [] (at_top catalog));
  no_column_of_the_item = ap (λ (x : Noted TypedQuery). x.faults)
      (query_plain (select (item (qualified (codes "S") 1 (codes "K")) ∷ []) (t ∷ s ∷ [])) []
      (at_top catalog));
  no_item_of_the_name = ap (λ (x : Noted TypedQuery). x.faults)
      (query_plain (select (item (qualified (codes "T") 1 (codes "K")) ∷ [])
      (Comma (aliased (codes "T") 50 (codes "X") 52) ∷ [])) [] (at_top catalog));
  on_names_a_later_item = ap (λ (x : Noted TypedQuery). x.faults)
      (query_plain (select (item (number 1) ∷ [])
      (t ∷ Inner (table (codes "S") 60) on_x ∷ Cross (aliased (codes "S") 80 (codes "X") 82) ∷ []))
      [] (at_top catalog));
  on_after_a_comma = ap (λ (x : Noted TypedQuery). x.faults)
      (query_plain (select (item (number 1) ∷ [])
      (t ∷ s ∷ Left (aliased (codes "S") 66 (codes "X") 68) on_x ∷ [])) [] (at_top catalog));
  on_in_one_group = ap (λ (x : Noted TypedQuery). x.faults)
      (query_plain (select (item (number 1) ∷ [])
      (s ∷ t ∷ Inner (aliased (codes "S") 66 (codes "X") 68) on_x ∷ [])) [] (at_top catalog));
  where_sees_all = ap (λ (x : Noted TypedQuery). x.faults)
      (query_plain (select_where (item (number 1) ∷ [])
      (t ∷ s ∷ Cross (aliased (codes "S") 66 (codes "X") 68) ∷ []) on_x) [] (at_top catalog));
  test_of_on = ap (λ (x : Noted TypedQuery). x.faults)
      (query_plain (select (item (number 1) ∷ [])
      (t ∷ Inner (table (codes "S") 60) (number 62) ∷ [])) [] (at_top catalog));
  unknown_table = ap (λ (x : Noted TypedQuery). x.faults)
      (query_plain (select (item (name (codes "Z") 1) ∷ []) (t ∷ Comma (table (codes "V") 60) ∷ []))
      [] (at_top catalog));
  unknown_table_hides_no_fault = ap (λ (x : Noted TypedQuery). least x.faults)
      (query_plain (select (item (word Minus 1 (text 2 ∷ [])) ∷ [])
      (Comma (table (codes "V") 60) ∷ [])) [] (at_top catalog));
}
