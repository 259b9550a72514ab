-- Each function with a plan stays planned as a statement makes or drops an entry.
use Rattle.std.proofs.Common.{ℕ, Bool, true, false, cond, List, [], ◌∷◌, ◌++◌, Some, refl}
use Rattle.std.proofs.Common.{subst}
use Rattle.std.specs.Str.{bytes_eq}
use Rattle.catalog_store.specs.declared.entry.Object.{Object as HeldObject}
use Rattle.catalog_store.specs.declared.entry.Object.TheVariants.{Table, Function as FunctionRecord}
use Rattle.catalog_store.specs.declared.entry.Object.TheVariants.{Interpreted as InterpretedRecord}
use Rattle.catalog_store.specs.declared.entry.Object.TheVariants.{Procedure as ProcedureRecord}
use Rattle.catalog_store.specs.Catalog.{Catalog, Entry, object_named}
use Rattle.catalog_store.specs.Entries.{ObjectFits, entry_of, object_of}
use Rattle.catalog_store.specs.Planning.{AllPlanned, IsPlannedObject}
use Rattle.catalog_store.specs.Users.{without}
use Rattle.bind_direct.specs.declared.bound.Bound.{Bound}
use Rattle.bind_direct.specs.declared.bound.Bound.TheVariants as bound
use Rattle.bind_statements.specs.Binds.{BoundFits}
use Rattle.psm_effects.specs.Database.{Plain}
use Rattle.psm_session.specs.Effects.{effect, checked}
use Rattle.psm_session.specs.Planned.{EachPlanned}
use Rattle.psm_session.proofs.Calls.{catalog_after, effect-catalog, checked-catalog}

-- what a name stands for is planned
pub planned-names : (known : Catalog) → EachPlanned known → AllPlanned known
planned-names [] p name = tt
planned-names (e ∷ es) p name = by (bytes_eq e.name name) (planned-names es p.1 name)
  where
    by : (b : Bool) → IsPlannedObject (object_named name es) →
        IsPlannedObject (cond b (Some e.object) (object_named name es))
    by true h = p.0
    by false h = h

planned-object : (known : Catalog) (o : HeldObject) → ObjectFits known o →
    IsPlannedObject (Some (object_of known o))
planned-object known (Table row_type) fits = tt
planned-object known (FunctionRecord r) fits =
    record { planned = fits.planned; parameters = refl }
planned-object known (InterpretedRecord f) fits = tt
planned-object known (ProcedureRecord p) fits = tt

planned-more : (known : Catalog) (e : Entry) → EachPlanned known →
    IsPlannedObject (Some e.object) → EachPlanned (known ++ e ∷ [])
planned-more [] e p h = (h, tt)
planned-more (k ∷ ks) e p h = (p.0, planned-more ks e p.1 h)

planned-less : (name : List ℕ) (known : Catalog) → EachPlanned known →
    EachPlanned (without name known)
planned-less name [] p = tt
planned-less name (k ∷ ks) p = by (bytes_eq k.name name) (planned-less name ks p.1)
  where
    by : (b : Bool) → EachPlanned (without name ks) →
        EachPlanned (cond b ks (k ∷ without name ks))
    by true h = p.1
    by false h = (p.0, h)

after-planned : (known : Catalog) (b : Bound) (runs : Bool) → BoundFits known runs b →
    EachPlanned known → EachPlanned (catalog_after b known)
after-planned known (bound.Create name object) runs f p = planned-more known
    (entry_of known name object) p (planned-object known object f.1)
after-planned known (bound.Drop name) runs f p = planned-less name known p
after-planned known (bound.Insert s places) runs f p = p
after-planned known (bound.Update s) runs f p = p
after-planned known (bound.Delete s) runs f p = p
after-planned known (bound.Query q) runs f p = p
after-planned known (bound.Explain q) runs f p = p
after-planned known (bound.Routine s) runs f p = p

pub effect-planned : (budget : ℕ) (b : Bound) (runs : Bool) (db : Plain) →
    BoundFits db.catalog runs b → EachPlanned db.catalog →
    EachPlanned (effect budget b db).after.catalog
effect-planned budget b runs db f p =
    subst EachPlanned (effect-catalog budget b db) (after-planned db.catalog b runs f p)

pub checked-planned : (b : Bound) (runs : Bool) (db : Plain) → BoundFits db.catalog runs b →
    EachPlanned db.catalog → EachPlanned (checked b db).after.catalog
checked-planned b runs db f p =
    subst EachPlanned (checked-catalog b db) (after-planned db.catalog b runs f p)
