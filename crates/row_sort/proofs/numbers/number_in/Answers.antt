use Rattle.std.proofs.Common.{◌≡◌, rules, subst, to_z, of_z, w64}
use Rattle.sql_values.specs.declared.value.Value.{Value}
use Rattle.row_sort.specs.Numbers.{number_by}
use Rattle.row_sort.proofs.Values.{no_value}
use Rattle.row_sort.proofs.numbers.number_in.Goals as goal

pub returns-in-None : goal.returns-in-None
returns-in-None c =
    subst (λ (v : Value). to_z w64 (of_z w64 c.number-in-None.result) ≡ number_by c.args.alone v)
    (no_value c.args.row.now c.args.column c.in-None.ensures.value) (search rules)
