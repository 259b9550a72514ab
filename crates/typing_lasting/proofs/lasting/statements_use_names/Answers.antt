use Rattle.std.proofs.Common.{refl, ap, ◌∙◌, ◌∷◌, [], ◌++◌, codes}
use Rattle.sql_values.specs.declared.value.SqlType.TheVariants as type
use Rattle.bound_trees.specs.declared.expr.BoundExpr.TheVariants as expr
use Rattle.bound_trees.specs.declared.query.BoundQuery.TheVariants as query
use Rattle.bound_trees.specs.declared.statement.BoundArgument.TheVariants as argument
use Rattle.catalog_store.specs.Uses.{names_used}
use Rattle.catalog_store.proofs.Laws.{uses_in-Single}
use Rattle.typing_lasting.specs.Examples.{all_of, f_of_v}
use Rattle.typing_lasting.proofs.Rows.{set-names, delete-names, call-names, all-uses, call-uses}
use Rattle.typing_lasting.proofs.lasting.statements_use_names.Goals as goal

pub returns : goal.returns
returns c = record {
  reads = set-names (record { slot = 0; data_type = type.Integer })
      (expr.Single (query.Select (all_of (codes "T"))))
      ∙ ap names_used (uses_in-Single (query.Select (all_of (codes "T"))) ∙ all-uses (codes "T"));
  writes = delete-names (record {
    table = codes "U";
    rows = query.Select (all_of (codes "U"));
  }) ∙ (λ i. codes "U" ∷ names_used (all-uses (codes "U") i));
  calls = call-names (record { procedure = codes "Q"; arguments = argument.Value f_of_v ∷ [] })
      ∙ (λ i. codes "Q" ∷ (names_used (call-uses i) ++ []));
  branches = refl;
  compound = refl;
  opened = refl;
}
