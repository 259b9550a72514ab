use Rattle.std.proofs.Common.{◌≡◌, false, refl, sym, ap, ◌∙◌}
use Rattle.rel_algebra.specs.Tree.{Column}
use Rattle.catalog_store.specs.Catalog.{Catalog}
use Rattle.catalog_store.specs.View.{tree_of}
use Rattle.catalog_store.proofs.Laws.{tree_of-Column, tree_of-Variable}
use Rattle.plan_expressions.specs.Scopes.{env_of}
use Rattle.plan_expressions.proofs.Laws.{if_ok}
use Rattle.plan_drafts.specs.Conjuncts.{held, key_view, key_with}
use Rattle.plan_drafts.proofs.Waits.{param_there}
use Rattle.plan_drafts.proofs.keys.key_with.Goals as goal

pub returns-in-Column : goal.returns-in-Column
returns-in-Column c =
    let e = env_of c.args.scope.now in
    if_ok c.column_key.result (λ o. held o ≡ key_with c.args.own
    (Column c.in-Column.level c.in-Column.place) e)
    (λ o. (known : Catalog) → held o ≡ key_with c.args.own (tree_of known c.args.other.now) e)
    c.column_key.ensures
    (λ o h known. h ∙ ap (λ x. key_with c.args.own x e)
    (sym (tree_of-Column known c.in-Column.level c.in-Column.place) ∙
    ap (tree_of known) (sym c.in-Column.is)))

pub returns-in_ok-other-in-Variable : goal.returns-in_ok-other-in-Variable
returns-in_ok-other-in-Variable c = λ known.
    let e = env_of c.args.scope.now in
    param_there c.args.own c.in-Variable.place e
    (key_view (record {
      own = c.in_ok-own-in-Variable.own;
      other =
          c.in_ok-other-in-Variable.other;
      of_column = false;
    })) c.in_ok-own-in-Variable.ensures
    c.in_ok-other-in-Variable.ensures refl
    ∙ ap (λ x. key_with c.args.own x e) (sym (tree_of-Variable known c.in-Variable.place) ∙
    ap (tree_of known) (sym c.in-Variable.is))
