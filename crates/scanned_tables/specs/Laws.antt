-- What a plan's tables tell of its query.
use Rattle.std.specs.Prelude.{◌≡◌, ℕ, true, List}
use Rattle.rel_algebra.specs.Emit.{Env, plan}
use Rattle.rel_algebra.specs.Lasting.{QueryLasts}
use Rattle.rel_algebra.specs.Plain.{planned}
use Rattle.rel_algebra.specs.Tree.{Query}
use Rattle.scanned_tables.specs.Scans.{scans, AreWide}

-- where the tables of the plan by S are as wide by R, so are those that the query names, and the
-- plans of the blocks that it calls are the same by R
abbrev pub ScansDecide : Type 0
ScansDecide = (q : Query) (S R : List ℕ → ℕ) (e : Env) → planned q ≡ true →
    AreWide (scans (plan q S e)) R → QueryLasts q S R
