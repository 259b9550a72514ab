-- The word of scalars that a word of expressions becomes. ISO/IEC 9075-2, 6.12, 6.27, 6.28, 6.32,
-- 6.39 and 8.2.
use Rattle.bound_trees.specs.declared.expr.BoundOperation.{BoundOperation}
use Rattle.rel_algebra.specs.Plan.{Word, strict, and_word, or_word, case_word, coalesce_word}
use Rattle.catalog_store.specs.View.{Standing, over_all, as_and, as_or, as_coalesce, as_case}
use Rattle.catalog_store.specs.View.{as_case_of, standing}

-- by how the word stands; CASE with an operand compares its tests first
abbrev pub word_by : Standing → Word
word_by (over_all operation) = strict operation
word_by as_and = and_word
word_by as_or = or_word
word_by as_coalesce = coalesce_word
word_by as_case = case_word
word_by as_case_of = case_word

-- of each word
abbrev pub word_of : BoundOperation → Word
word_of operation = word_by (standing operation)
