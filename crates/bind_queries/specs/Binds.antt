-- What a binder answers: the bound tree exactly where there is no fault, and else the least fault,
-- unless memory runs out, which says nothing of what is bound.
use Rattle.std.specs.Prelude.{◌≡◌, true, [], Some, Result, Ok, Err}
use Rattle.rel_algebra.specs.Plain.{planned}
use Rattle.bound_trees.specs.declared.query.BoundQuery.{BoundQuery}
use Rattle.catalog_store.specs.Catalog.{Catalog}
use Rattle.catalog_store.specs.View.{query_of}
use Rattle.bind_faults.specs.Faults.{Noted, least}
use Rattle.bind_parts.specs.declared.fault.NameFault.{NameFault}
use Rattle.bind_parts.specs.declared.fault.NameFault.TheVariants as fault

-- an answer that says what was judged: the value where no fault was noted, or the least fault
abbrev pub Binds : {A : Type 0} → Noted A → Result A NameFault → Type 0
Binds noted (Ok b) = (noted.faults ≡ []) × (b ≡ noted.value)
Binds noted (Err (fault.Fault f)) = least noted.faults ≡ Some f
Binds noted (Err fault.NoMemory) = Unit {0}

-- a query has a plan: so have the functions that it calls, and the rows of each VALUES in it are of
-- one length
abbrev pub HasPlan : Catalog → BoundQuery → Type 0
HasPlan catalog q = planned (query_of catalog q) ≡ true
