-- The plan of a function over expressions and queries whose statements are typed is well kinded.
use Rattle.rel_algebra.proofs.Laws.{stmt_kinds, well_kinded}
use Rattle.regions.specs.Kinds.{KindedInlines}
use Rattle.regions.specs.Tree.{Body}
use Rattle.regions.specs.TreeBodies.{stmt_body, stmt_of}

pub kinded_inlines : KindedInlines
kinded_inlines (Body types returns s) T params ks ps h e g =
    let p = well_kinded types returns (stmt_body s) T params ks ps
    (stmt_kinds (stmt_of s) T returns types h) (e, g) in
    record { good = p.0; kinds = p.1 }
