-- The rows in sight as the rows outside of a plan.
use Rattle.std.proofs.Common.{◌≡◌, List, [], ◌∷◌, ◌++◌, map, sym, ap, ◌∙◌}
use Rattle.std.proofs.lemmas.List.{append-nil}
use Rattle.sql_values.specs.declared.value.Value.{Value}
use Rattle.row_types.specs.declared.cell.Cell.{Cell}
use Rattle.row_types.specs.declared.cell.Cell.TheVariants.{Val}
use Rattle.row_types.specs.Rows.{Row}
use Rattle.rel_algebra.specs.Plan.{shown}
use Rattle.rel_algebra.specs.Theorem.{stack}
use Rattle.run_plans.specs.Ending.{inside}

-- a row alone, without cells after it
pub row_alone : (r : Row) (more : List Value) (cells : List Cell) → more ≡ [] → cells ≡ [] →
    map Val (r ++ more) ++ cells ≡ shown r
row_alone r more cells none last =
    ap (λ (vs : List Value). map Val (r ++ vs) ++ cells) none
    ∙ ap (λ (cs : List Cell). map Val (r ++ []) ++ cs) last
    ∙ append-nil (map Val (r ++ []))
    ∙ ap (λ (vs : List Value). map Val vs) (append-nil r)

-- where the first of further rows comes inside of those outside
pub one_inside : (rows rest : List Row) (r : Row) (outer : List (List Cell)) → rows ≡ r ∷ rest →
    inside rest ((map Val (r ++ []) ++ []) ∷ outer) ≡ inside rows outer
one_inside rows rest r outer is =
    ap (λ (cells : List Cell). inside rest (cells ∷ outer)) (row_alone r [] [] (λ i. []) (λ i. []))
    ∙ ap (λ (rs : List Row). inside rs outer) (sym is)

-- where the first row in sight is put in front of further ones
pub one_outwards : (rows outer further longer : List Row) (r : Row) → rows ≡ r ∷ outer →
    longer ≡ r ∷ further → inside longer (stack outer) ≡ inside further (stack rows)
one_outwards rows outer further longer r is longer_is =
    ap (λ (rs : List Row). inside rs (stack outer)) longer_is
    ∙ ap (λ (rs : List Row). inside further (stack rs)) (sym is)
