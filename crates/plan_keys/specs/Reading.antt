-- Which scalars are the same on all rows, whatever the rows outside and the arguments are.
use Rattle.std.specs.Prelude.{Bool, false, ◌||◌, nat_eq}
use Rattle.rel_algebra.specs.Plan.{Scalar, constant, column, argument, word, Scalars, none, more}
use Rattle.rel_algebra.specs.PlanView.{scalar_of}
use Rattle.rel_algebra.specs.declared.scalar.ScalarLink.{ScalarLink}

abbrev mutual
  -- a scalar names a column of the row itself
  pub reads_row : Scalar → Bool
  reads_row (constant v) = false
  reads_row (column level i) = nat_eq level 0
  reads_row (argument i) = false
  reads_row (word w operands) = any_reads operands

  -- one of several does
  pub any_reads : Scalars → Bool
  any_reads none = false
  any_reads (more s ss) = reads_row s || any_reads ss

-- the right operand of an operator does
abbrev pub link_reads : ScalarLink → Bool
link_reads link = reads_row (scalar_of link.operand)
