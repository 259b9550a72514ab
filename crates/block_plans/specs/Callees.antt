-- What calls run where blocks have plans beside the functions of a catalog. ISO/IEC 9075-2, 10.4
-- (routine invocation).
use Rattle.std.specs.Prelude.{ℕ, Bool, List, [], ◌∷◌, ◌&&◌, length, nat_eq, if◌then◌else◌}
use Rattle.std.specs.Coded.{Coded, code_by, coded_list, coded×}
use Rattle.std.specs.List.{list_any}
use Rattle.std.specs.Str.{bytes_eq}
use Rattle.std.proofs.Common.{refl}
use Rattle.rel_algebra.specs.Tree.{Routine, parameters_of}
use Rattle.catalog_store.specs.Catalog.{Catalog, routine_named}
use Rattle.catalog_store.specs.Codes.{coded_catalog, coded_name}
use Rattle.catalog_store.specs.Widths as catalog
use Rattle.routine_views.specs.Routines.{routines_of}

-- a catalog, and the names of those of its blocks that have plans
pub record Callees : Type 0 where
  pub known : Catalog
  pub blocks : List (List ℕ)

-- a catalog whose blocks have none
abbrev pub without_blocks : Catalog → Callees
without_blocks known = record { known = known; blocks = [] }

-- whether a name is that of a block with a plan, and of so many parameters
abbrev pub is_block : Callees → List ℕ → ℕ → Bool
is_block k name n = list_any (bytes_eq name) k.blocks
    && nat_eq n (length (parameters_of (routines_of k.known name)))

-- The routine that a call of a name with so many arguments runs: such a block, or else the function
-- with a plan. A call of a block with another number of arguments runs none.
abbrev pub callee : Callees → List ℕ → ℕ → Routine
callee k name n = if is_block k name n then routines_of k.known name else routine_named name k.known

-- how wide the tables of the catalog are
abbrev pub width_in : Callees → List ℕ → ℕ
width_in k = catalog.width_in k.known

-- by their contents
abbrev pub coded_callees : Coded Callees
coded_callees =
    code_by (Catalog × List (List ℕ)) (coded× coded_catalog (coded_list coded_name))
    (λ k. (k.known, k.blocks)) (λ p. record { known = p.0; blocks = p.1 }) (λ _. refl)
