-- Which plain words the words of the code stand for.
use Rattle.rel_algebra.specs.declared.condition_word.ConditionValue.{ConditionValue as ValueCode}
use Rattle.rel_algebra.specs.declared.condition_word.ConditionValue.TheVariants as waited
use Rattle.rel_algebra.specs.declared.condition_word.ConditionWord.{ConditionWord as WordCode}
use Rattle.rel_algebra.specs.declared.condition_word.ConditionWord.TheVariants as word
use Rattle.rel_algebra.specs.declared.condition_word.ItemWord.{ItemWord as ItemCode}
use Rattle.rel_algebra.specs.declared.condition_word.ItemWord.TheVariants as item
use Rattle.rel_algebra.specs.OnConditions.{ConditionWord, ItemWord, catch_word, class_word}
use Rattle.rel_algebra.specs.OnConditions.{item_word as item_of_word, matches_word, number_word}
use Rattle.rel_algebra.specs.OnConditions.{push_word, raise_word, retext_word, state_item}
use Rattle.rel_algebra.specs.OnConditions.{text_item}
use Rattle.rel_algebra.specs.Tree.{ConditionValue, NotFound, SqlException, SqlWarning, State}

-- what a handler waits for
abbrev pub condition_value : ValueCode → ConditionValue
condition_value (waited.State state) = State state
condition_value waited.SqlException = SqlException
condition_value waited.SqlWarning = SqlWarning
condition_value waited.NotFound = NotFound

-- an item of a condition
abbrev pub item_word : ItemCode → ItemWord
item_word item.State = state_item
item_word item.Text = text_item

-- a word over cells that may be conditions
abbrev pub condition_word : WordCode → ConditionWord
condition_word word.Catch = catch_word
condition_word (word.Matches value) = matches_word (condition_value value)
condition_word (word.Class class) = class_word class
condition_word word.Number = number_word
condition_word (word.Item i) = item_of_word (item_word i)
condition_word (word.Push state) = push_word state
condition_word word.Retext = retext_word
condition_word word.Raise = raise_word
