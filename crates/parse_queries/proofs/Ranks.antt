-- How many calls at one place a chain of a level is above what it is made of in the end.
use Rattle.std.proofs.Common.{ℕ}
use Rattle.grammar_sql.specs.declared.chain_level.ChainLevel.{ChainLevel}
use Rattle.grammar_sql.specs.declared.chain_level.ChainLevel.TheVariants as level

abbrev pub rank : ChainLevel → ℕ
rank level.Multiplicative = 3
rank level.Additive = 7
rank level.And = 14
rank level.Or = 18
