-- A function in form does among all routines what it does by the tables alone.
use Rattle.std.proofs.Common.{[], sym, ap, ◌∙◌}
use Rattle.sql_values.specs.declared.value.Value.{Value}
use Rattle.rel_algebra.specs.Endings.{Ending}
use Rattle.rel_algebra.specs.Joins.{table_width}
use Rattle.rel_algebra.specs.Meaning.{carried}
use Rattle.rel_algebra.specs.Theorem.{inputs_of}
use Rattle.rel_algebra.specs.World.{frame_of}
use Rattle.rel_algebra.proofs.Laws.{ExprGives, QueryGives, call_gives, call_meant, expr_gives}
use Rattle.rel_algebra.proofs.Laws.{query_gives}
use Rattle.regions.specs.Meaning.{call}
use Rattle.regions.specs.Theorem.{ExprPlanned, QueryPlanned}
use Rattle.regions.specs.Tree.{Body}
use Rattle.regions.specs.TreeBodies.{stmt_of}
use Rattle.regions.specs.Worlds.{BodyPlans, FormIsPure, tables_of}
use Rattle.regions.proofs.TreeLaws.{inlines}
use Rattle.regions.proofs.Trees.{each}

pub form_is_pure : FormIsPure
form_is_pure (Body types returns s) values args w p fits =
    call_gives types returns (stmt_of s) values args w
    (each s ExprPlanned (ExprGives w args) (QueryPlanned (table_width w.tables))
    (QueryGives w args) (λ e h. expr_gives e h w args) (λ q ts h. query_gives q h.0 w args ts) p)
    ∙ ap (λ (e : Ending Value). carried e w)
    (sym (call_meant types returns (stmt_of s) values (tables_of w args)))

pub body_plans : BodyPlans
body_plans r values w p l fits = record {
  end = call r values (inputs_of w (frame_of values));
  has = inlines r (inputs_of w (frame_of values)) [] fits p l;
  ends = form_is_pure r values values w p fits;
}
