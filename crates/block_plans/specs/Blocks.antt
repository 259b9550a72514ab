-- The plans that are kept of blocks, all in one catalog. ISO/IEC 9075-2, 10.4 (routine invocation).
use Rattle.std.specs.Prelude.{◌≡◌, ℕ, true, List, [], ◌∷◌, map, length, if◌then◌else◌, Option}
use Rattle.std.specs.Prelude.{Some, None}
use Rattle.std.specs.Borrow.{Bor}
use Rattle.std.specs.Str.{bytes_eq}
use Rattle.rel_algebra.specs.Emit.{emit_body, top}
use Rattle.rel_algebra.specs.Plain.{as_many, planned_routine}
use Rattle.rel_algebra.specs.Tree.{parameters_of}
use Rattle.catalog_store.specs.Catalog.{Catalog}
use Rattle.catalog_store.specs.Kept.{HasPlan}
use Rattle.routine_views.specs.Routines.{routines_of}
use Rattle.block_plans.specs.Callees.{Callees, callee, width_in, without_blocks}
use Rattle.block_plans.specs.declared.blocks.BlockPlan.{BlockPlan}

-- The routine of a name has a plan in this catalog, these are its parameters, and the plan is what
-- the emitter makes of its body, its parameters the arguments.
pub record IsBlock (known : Catalog) (name : List ℕ) (b : BlockPlan) : Type 0 where
  pub planned : planned_routine (routines_of known name) ≡ true
  pub parameters : b.parameters ≡ parameters_of (routines_of known name)
  pub plan : HasPlan b.plan (emit_body (routines_of known name) (width_in (without_blocks known))
      (top (length b.parameters)) 0)

-- each of these is one
abbrev pub AreBlocks : Catalog → List (List ℕ × BlockPlan) → Type 0
AreBlocks known [] = Unit {0}
AreBlocks known (b ∷ bs) = IsBlock known b.0 b.1 × AreBlocks known bs

-- the names of blocks
abbrev pub names_of : List (List ℕ × BlockPlan) → List (List ℕ)
names_of bs = map (λ b. b.0) bs

-- with a name after the others, unless it is there
abbrev pub with_name : List ℕ → List (List ℕ) → List (List ℕ)
with_name name [] = name ∷ []
with_name name (n ∷ ns) = if bytes_eq name n then n ∷ ns else n ∷ with_name name ns

-- what is known of the block that a call with so many arguments runs: it has a plan and takes as
-- many
pub record IsRun (k : Callees) (name : List ℕ) (n : ℕ) (b : BlockPlan) : Type 0 where
  pub planned : planned_routine (callee k name n) ≡ true
  pub takes : as_many (callee k name n) n ≡ true
  pub parameters : b.parameters ≡ parameters_of (callee k name n)
  pub plan : HasPlan b.plan (emit_body (callee k name n) (width_in k) (top n) 0)

-- ---- beside a catalog

-- the names of the blocks that are there
abbrev pub blocks_in : Option (Bor Callees) → List (List ℕ)
blocks_in None = []
blocks_in (Some b) = b.now.blocks

-- they are those of this catalog
abbrev pub AreOf : Catalog → Option (Bor Callees) → Type 0
AreOf known None = Unit {0}
AreOf known (Some b) = b.now.known ≡ known
