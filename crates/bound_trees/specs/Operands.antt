-- How many operands a word takes. ISO/IEC 9075-2, 6.12, 6.13, 6.27, 6.28, 6.39, 8.2 and 8.8.
use Rattle.std.specs.Prelude.{ℕ, Bool, true, nat_eq, nat_le}
use Rattle.bound_trees.specs.declared.expr.BoundOperation.{BoundOperation}
use Rattle.bound_trees.specs.declared.expr.BoundOperation.TheVariants as word

-- whether a word takes so many operands; those that aren't named here take lists
abbrev pub takes : BoundOperation → ℕ → Bool
takes word.Negation n = nat_eq n 1
takes word.Opposite n = nat_eq n 1
takes (word.Comparing comparison) n = nat_eq n 2
takes word.NullTest n = nat_eq n 1
takes word.TrueTest n = nat_eq n 1
takes word.FalseTest n = nat_eq n 1
takes word.CharLength n = nat_eq n 1
takes (word.Cast t) n = nat_eq n 1
takes word.CaseOf n = nat_le 3 n
takes _ n = true
