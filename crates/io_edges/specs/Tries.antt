-- Which calls of std are made again.
use Rattle.std.specs.Prelude.{ℕ}
use Rattle.io_edges.specs.declared.tries.Tries.{Tries}

-- how often a call may still be made again
abbrev pub tries_left : Tries → ℕ
tries_left t = t.left
