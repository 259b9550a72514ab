-- What holds of INSERT with a column list. ISO/IEC 9075-2, 14.11 (insert statement).
use Rattle.std.specs.Prelude.{ℕ, ◌≡◌, List, None}
use Rattle.rel_algebra.specs.Tree.{Query}
use Rattle.rel_algebra.specs.World.{World}
use Rattle.rel_algebra.specs.Changes.{insert_all}
use Rattle.data_change.specs.Writing.{insert}

-- an INSERT that lists no columns is one of all columns, in their order
abbrev pub InsertWithoutList : Type 0
InsertWithoutList = (name : List ℕ) (query : Query) (w : World) →
    insert name None query w ≡ insert_all name query w
