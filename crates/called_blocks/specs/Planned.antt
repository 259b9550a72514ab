-- Which blocks a query finds planned: of the functions that it reaches, lowest first, each that may
-- have a plan, where its own calls run the blocks that were planned before it. ISO/IEC 9075-2, 10.4
-- (routine invocation).
use Rattle.std.specs.Prelude.{◌≡◌, ℕ, List, [], Option, Some, if◌then◌else◌}
use Rattle.bound_trees.specs.declared.query.BoundQuery.{BoundQuery}
use Rattle.catalog_store.specs.Catalog.{Catalog, InterpretedObject, Object, object_named}
use Rattle.catalog_store.specs.Entries.{interpreted_of}
use Rattle.catalog_store.specs.declared.entry.InterpretedFunction.{InterpretedFunction}
use Rattle.block_plans.specs.Blocks.{with_name}
use Rattle.block_plans.specs.Callees.{Callees}
use Rattle.block_forms.specs.Forms.{may_be_planned}
use Rattle.called_names.specs.Reached.{Names, in_turn, reached}

-- a name stands for this function, whose body is a statement
abbrev pub IsFunction : Catalog → List ℕ → InterpretedFunction → Type 0
IsFunction known name f = object_named name known ≡ Some (InterpretedObject (interpreted_of f))

-- a catalog, and those of its blocks that have plans
abbrev pub planning : Catalog → Names → Callees
planning known blocks = record { known = known; blocks = blocks }

-- one block more, where the name stands for a function that may have a plan, whose calls run these
abbrev pub with_object : Catalog → List ℕ → Option Object → Names → Names
with_object known name (Some (InterpretedObject f)) blocks =
    if may_be_planned (planning known blocks) f then with_name name blocks else blocks
with_object known name _ blocks = blocks

-- the same of what the name stands for
abbrev pub with_block : Catalog → List ℕ → Names → Names
with_block known name blocks = with_object known name (object_named name known) blocks

-- the blocks among these names that have plans, each by those before it
abbrev pub planned_among : Catalog → Names → Names
planned_among known names = in_turn (with_block known) names []

-- What a query's calls run: the functions of the catalog that have plans, and each block that may
-- have one.
abbrev pub all_planned : Catalog → BoundQuery → Callees
all_planned known q = planning known (planned_among known (reached known q))
