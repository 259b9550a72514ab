use Rattle.std.proofs.Common.{ap, [], ◌∷◌, None}
use Rattle.std.specs.Prelude.{codes}
use Rattle.syntax_trees.specs.declared.expr.Operation.TheVariants.{Minus}
use Rattle.bind_faults.specs.Faults.{Noted, least}
use Rattle.bind_sight.specs.Sight.{at_top}
use Rattle.bind_parts.specs.declared.typed.TypedQuery.{TypedQuery}
use Rattle.bind_queries.specs.Examples.{number, text, name, qualified, word, item, named, star}
use Rattle.bind_queries.specs.Examples.{derived, select, twice, once, t, s, called, at, catalog}
use Rattle.bind_queries.specs.Written.{Select, Values, Comma, exprs, froms}
use Rattle.bind_queries.proofs.Rows.{query_plain}
use Rattle.bind_queries.proofs.names_of_derived_tables.Goals as goal

pub returns : goal.returns
returns c = record {
  two_columns_used = ap (λ (x : Noted TypedQuery). x.faults)
      (query_plain (select (item (name (codes "A") 1) ∷ []) (Comma (derived twice 60 []) ∷ [])) []
      (at_top catalog));
  two_columns_after_its_name = ap (λ (x : Noted TypedQuery). x.faults)
      (query_plain (select (item (qualified (codes "D") 1 (codes "A")) ∷ [])
      (Comma (derived twice 60 []) ∷ [])) [] (at_top catalog));
  two_columns_unused = ap (λ (x : Noted TypedQuery). x.faults)
      (query_plain (select (item (number 1) ∷ star 3 ∷ []) (Comma (derived twice 60 []) ∷ [])) []
      (at_top catalog));
  names_of_another_number = ap (λ (x : Noted TypedQuery). x.faults)
      (query_plain (select (item (name (codes "Q") 1) ∷ [])
      (Comma (derived once 60 (called (codes "P") 62 ∷ called (codes "Q") 64 ∷ [])) ∷ [])) []
      (at_top catalog));
  names_in_place_of_its_own = ap (λ (x : Noted TypedQuery). x.faults)
      (query_plain (select (item (name (codes "K") 1) ∷ [])
      (Comma (derived once 60 (called (codes "P") 62 ∷ [])) ∷ [])) [] (at_top catalog));
  item_beside_it = ap (λ (x : Noted TypedQuery). x.faults)
      (query_plain (select (item (number 1) ∷ [])
      (s ∷ Comma (derived (Select (at 62) (item (qualified (codes "S") 63 (codes "A")) ∷ [])
      (froms (t ∷ [])) None) 68 []) ∷ [])) [] (at_top catalog));
  fault_inside = ap (λ (x : Noted TypedQuery). least x.faults)
      (query_plain (select (item (word Minus 90 (name (codes "Z") 91 ∷ [])) ∷ [])
      (Comma (derived (Select (at 2) (named (word Minus 3 (text 4 ∷ [])) (codes "Z") 6 ∷ [])
      (froms (t ∷ [])) None) 60 []) ∷ [])) [] (at_top catalog));
  no_fault_above_it = ap (λ (x : Noted TypedQuery). x.faults)
      (query_plain (select (item (word Minus 90 (name (codes "Z") 91 ∷ [])) ∷ [])
      (Comma (derived (Select (at 2) (named (word Minus 3 (text 4 ∷ [])) (codes "Z") 6 ∷ [])
      (froms (t ∷ [])) None) 60 []) ∷ [])) [] (at_top catalog));
  kind_of_a_column = ap (λ (x : Noted TypedQuery). x.faults)
      (query_plain (select (item (word Minus 1 (name (codes "Z") 2 ∷ [])) ∷ [])
      (Comma (derived (Values (at 61) (exprs (text 63 ∷ []) ∷ [])) 66 (called (codes "Z") 68 ∷ []))
      ∷ [])) [] (at_top catalog));
}
