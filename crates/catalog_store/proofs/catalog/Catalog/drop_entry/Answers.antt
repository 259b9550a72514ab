use Rattle.std.proofs.Common.{◌≡◌, ℕ, List, [], length, filter, refl, ap, ◌∙◌, sym, subst, arith}
use Rattle.catalog_store.specs.Catalog.{Catalog}
use Rattle.catalog_store.specs.Entries.{plain, AreSound}
use Rattle.catalog_store.specs.Holding.{held}
use Rattle.catalog_store.specs.Users.{users_of, without}
use Rattle.catalog_store.specs.Using.{Held, held_user}
use Rattle.catalog_store.proofs.Lasting.{none_lasting}
use Rattle.catalog_store.proofs.Dropped.{users-with_all, dropped, gone_from}
use Rattle.catalog_store.proofs.catalog.Catalog.drop_entry.Goals as goal

unused : (name : List ℕ) (known : Catalog) (hs : List Held) → plain hs ≡ known →
    users_of name known ≡ 0 → length (filter (held_user name) hs) ≡ 0
unused name known hs view none = omega (
  arith,
  users-with_all name [] hs,
  ap (λ (k : Catalog). users_of name k) view,
)

pub remove-requires-clause-unused : goal.remove-requires-clause-unused
remove-requires-clause-unused c =
    unused c.args.name.now c.args.self.now (held c.self.inside.entries) c.self.view_is
    c.requires.unused

pub invariant_of-self : goal.invariant_of-self
invariant_of-self c = (
  subst (AreSound []) (sym c.remove.ensures.entries)
      (dropped c.args.name.now [] (held c.self.inside.entries) none_lasting refl
      (unused c.args.name.now c.args.self.now (held c.self.inside.entries) c.self.view_is
      c.requires.unused) c.self.invariant.0).0,
  c.remove.ensures.holds,
)

pub returns-clause-entries : goal.returns-clause-entries
returns-clause-entries c =
    ap plain c.remove.ensures.entries
    ∙ (dropped c.args.name.now [] (held c.self.inside.entries) none_lasting refl
    (unused c.args.name.now c.args.self.now (held c.self.inside.entries) c.self.view_is
    c.requires.unused) c.self.invariant.0).1
    ∙ ap (without c.args.name.now) c.self.view_is

pub returns-clause-gone : goal.returns-clause-gone
returns-clause-gone c =
    gone_from c.args.name.now (held c.self.inside.entries) (held c.remove.new.self)
    c.self.invariant.0 (invariant_of-self c).0 c.remove.ensures.entries
