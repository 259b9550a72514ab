use denote.Enum.Bare.{same_true, true_same}
use Rattle.std.proofs.lemmas.Slice.Eq.{slice_eq-Decides}
use Rattle.sql_values.specs.contracts.fold.FoldKind.{the_type as kinds}
use Rattle.bound_equality.proofs.leaves.same_folds.Goals as goal

pub returns : goal.returns
returns c = slice_eq-Decides (λ a b. (λ e. same_true kinds tt a b e, λ e. true_same kinds a b e))
    c.args.one.now c.args.other.now c.eq.result c.eq.ensures
