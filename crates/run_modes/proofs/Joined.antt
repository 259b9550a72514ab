-- Calls among the uses of two parts.
use Rattle.std.proofs.Common.{◌≡◌, ◌++◌}
use Rattle.std.specs.Prelude.{◌||◌}
use Rattle.std.proofs.lemmas.List.Folds.{list_any-append}
use Rattle.catalog_store.specs.Uses.{Uses}
use Rattle.run_modes.specs.Modes.{has_call, is_call}

pub calls_in_both : (a b : Uses) → has_call (a ++ b) ≡ (has_call a || has_call b)
calls_in_both a b = list_any-append is_call a b
