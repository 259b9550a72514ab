use Rattle.std.proofs.Common.{◌≡◌, rules, subst, to_z, of_z, w64}
use Rattle.sql_values.specs.declared.value.Value.{Value}
use Rattle.row_sort.specs.Numbers.{number_by}
use Rattle.row_sort.proofs.Values.{no_row}
use Rattle.row_sort.proofs.numbers.number_at.Goals as goal

pub returns-in-None : goal.returns-in-None
returns-in-None c =
    subst (λ (v : Value). to_z w64 (of_z w64 c.number.result) ≡ number_by c.args.alone v)
    (no_row c.args.rows.now c.args.column c.args.place (search rules)) (search rules)
