-- What an Apply adds for a query inside an expression, by what its rows come to.
use Rattle.std.proofs.Common.{◌≡◌, List, [], ◌∷◌, Ok, Err, refl}
use Rattle.row_types.specs.Rows.{Row}
use Rattle.row_types.specs.declared.cell.Cell.{Cell}
use Rattle.row_types.specs.declared.cell.Cell.TheVariants.{Val, Cond}
use Rattle.row_types.specs.Cells.{PlanRow}
use Rattle.rel_algebra.specs.Endings.{Ending}
use Rattle.rel_algebra.specs.Plan.{Scalar, collapse, collapse_as, collected, exists, member, single}
use Rattle.plan_rows.specs.Subqueries.{exists_end, member_end, single_end}

single_by : (c : Cell) (e : Ending (List Row)) → collapse_as single c e ≡ single_end e ∷ []
single_by c (Ok rs) = refl
single_by c (Err a) = refl

exists_by : (c : Cell) (e : Ending (List Row)) → collapse_as exists c e ≡ exists_end e ∷ []
exists_by c (Ok rs) = refl
exists_by c (Err a) = refl

member_by : (s : Scalar) (v : Cell) (e : Ending (List Row)) → (rows : List PlanRow) →
    collected rows ≡ e → collapse (member s) v rows ≡ member_end v (collected rows) ∷ []
member_by s (Cond a) e rows h = refl
member_by s (Val v) (Ok rs) rows h = rw h refl
member_by s (Val v) (Err a) rows h = rw h refl

pub single_is : (c : Cell) (rows : List PlanRow) →
    collapse single c rows ≡ single_end (collected rows) ∷ []
single_is c rows = single_by c (collected rows)

pub exists_is : (c : Cell) (rows : List PlanRow) →
    collapse exists c rows ≡ exists_end (collected rows) ∷ []
exists_is c rows = exists_by c (collected rows)

pub member_is : (s : Scalar) (c : Cell) (rows : List PlanRow) →
    collapse (member s) c rows ≡ member_end c (collected rows) ∷ []
member_is s c rows = member_by s c (collected rows) rows refl
