use Rattle.std.proofs.Common.{◌≡◌, ◌∷◌, ◌++◌, [], None, ap, ◌∙◌, sym, subst}
use Rattle.std.proofs.lemmas.Result.{on_err_weaker, on_ok_weaker}
use Rattle.catalog_store.specs.Catalog.{Catalog, object_named}
use Rattle.catalog_store.specs.Entries.{plain, entry_of, Stands}
use Rattle.catalog_store.specs.Holding.{held}
use Rattle.catalog_store.proofs.Sound.{none_held, sound_added, with_all-append}
use Rattle.catalog_store.proofs.catalog.Catalog.add.Goals as goal

pub add-requires-clause-free : goal.add-requires-clause-free
add-requires-clause-free c =
    none_held c.args.name (held c.self.inside.entries) c.self.invariant.0
    (subst (λ (k : Catalog). object_named c.args.name k ≡ None) (sym c.self.view_is)
    c.requires.free)

pub invariant_of-self : goal.invariant_of-self
invariant_of-self c = (
  sound_added c.args.name c.args.object (held c.self.inside.entries) (held c.add.new.self)
      c.add.result c.add.ensures.ok c.add.ensures.err c.self.invariant.0
      (subst (λ (k : Catalog). object_named c.args.name k ≡ None) (sym c.self.view_is)
      c.requires.free)
      (subst (λ (k : Catalog). Stands k c.args.object) (sym c.self.view_is)
      (record { fits = c.requires.fits; planned = c.requires.planned })),
  c.add.ensures.holds,
)

pub returns-clause-ok : goal.returns-clause-ok
returns-clause-ok c =
    on_ok_weaker c.add.result
    (λ e. ap plain e
    ∙ with_all-append [] (held c.self.inside.entries) ((c.args.name, c.args.object) ∷ [])
    ∙ ap (λ k. k ++ entry_of k c.args.name c.args.object ∷ []) c.self.view_is)
    c.add.ensures.ok

pub returns-clause-err : goal.returns-clause-err
returns-clause-err c = on_err_weaker c.add.result (λ e. ap plain e ∙ c.self.view_is)
    c.add.ensures.err
