use Rattle.std.proofs.Common.{◌≡◌, refl, ap, ◌∙◌, List, ℕ, ◌&&◌, ◌∷◌, [], ◌++◌, codes, true}
use Rattle.std.proofs.Common.{false}
use Rattle.sql_values.specs.declared.value.SqlType.TheVariants as type
use Rattle.bound_trees.specs.declared.expr.BoundExpr.TheVariants as expr
use Rattle.bound_trees.specs.declared.expr.BoundExpr.TheOpen.{BoundExpr-F}
use Rattle.bound_trees.specs.declared.query.BoundQuery.TheVariants as query
use Rattle.bound_trees.specs.declared.statement.BoundArgument.TheVariants as argument
use Rattle.bound_trees.specs.declared.statement.BoundCall.{BoundCall}
use Rattle.catalog_store.specs.Catalog.{Catalog}
use Rattle.catalog_store.specs.Users.{without}
use Rattle.bind_kinds.specs.declared.kind.Kind.TheVariants.{Integer}
use Rattle.typing_trees.specs.Around.{then}
use Rattle.typing_trees.specs.Queries.{QueryKinds, only_column, expr_kind, kind_of}
use Rattle.typing_trees.specs.Queries.{columns_of_table}
use Rattle.typing_trees.specs.Statements.{Inside, is_typed, takes_value, rows_fit, is_of}
use Rattle.typing_trees.specs.Statements.{call_typed}
use Rattle.typing_lasting.specs.Examples.{all_of, f_of_v, calls, reads_t, empties_u, known, outside}
use Rattle.typing_lasting.specs.Examples.{in_q, inside, procedure_q}
use Rattle.typing_lasting.proofs.Rows.{set-typed, delete-typed, call-typed, all-kinds, single-kind}
use Rattle.typing_lasting.proofs.Rows.{call-kind, columns_of_all}
use Rattle.typing_lasting.proofs.lasting.bodies_outlast_others.Goals as goal

read : (k : Catalog) → is_typed reads_t (inside outside k) ≡
    takes_value (inside outside k).around.slots (record { slot = 0; data_type = type.Integer })
    (then (columns_of_all (codes "T") (inside outside k).around) only_column)
read k =
    set-typed (record { slot = 0; data_type = type.Integer })
    (expr.Single (query.Select (all_of (codes "T")))) (inside outside k)
    ∙ ap (takes_value (inside outside k).around.slots
    (record { slot = 0; data_type = type.Integer }))
    (single-kind (codes "T") (inside outside k).around)

written : (k : Catalog) → is_typed empties_u (inside outside k) ≡
    rows_fit (columns_of_table ((inside outside k).around.tables (codes "U")))
    (columns_of_all (codes "U") (inside outside k).around)
written k =
    delete-typed (record { table = codes "U"; rows = query.Select (all_of (codes "U")) })
    (inside outside k)
    ∙ ap (λ (q : QueryKinds). rows_fit
    (columns_of_table ((inside outside k).around.tables (codes "U")))
    (q (inside outside k).around)) (all-kinds (codes "U"))

abbrev call_of : List ℕ → BoundCall
call_of name = record { procedure = name; arguments = argument.Value f_of_v ∷ [] }

-- a CALL of a procedure that is there, by the kind of its argument
called : (name : List ℕ) (i : Inside) → is_typed (calls name f_of_v) i ≡ call_typed false
    (call_of name) i
called name i = call-typed (call_of name) i

argument-kind : (i : Inside) → (is_of Integer (kind_of f_of_v i.around) && true) ≡
    (is_of Integer (expr_kind (BoundExpr-F.Call (codes "F")
    (expr_kind (BoundExpr-F.Variable 0) ∷ [])) i.around) && true)
argument-kind i = λ j. is_of Integer (call-kind i.around j) && true

pub returns : goal.returns
returns c = record {
  read = read known;
  read_without_other = read (without (codes "U") known);
  read_without_own = read (without (codes "T") known);
  users = refl;
  users_of_read = refl;
  written_without_other = written (without (codes "T") known);
  written_without_own = written (without (codes "U") known);
  called_without_other = called (codes "P") (inside outside (without (codes "T") known))
      ∙ argument-kind (inside outside (without (codes "T") known));
  called_without_function = called (codes "P") (inside outside (without (codes "F") known))
      ∙ argument-kind (inside outside (without (codes "F") known));
  called_without_procedure = called (codes "P") (inside outside (without (codes "P") known));
  itself_before = called (codes "Q") (inside in_q known) ∙ argument-kind (inside in_q known);
  itself_after = called (codes "Q") (inside in_q (known ++ procedure_q ∷ []))
      ∙ argument-kind (inside in_q (known ++ procedure_q ∷ []));
  other_before = called (codes "Q") (inside outside known);
  other_after = called (codes "Q") (inside outside (known ++ procedure_q ∷ []))
      ∙ argument-kind (inside outside (known ++ procedure_q ∷ []));
}
