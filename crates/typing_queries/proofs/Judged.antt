-- What is shown of judges without faults: the trees that they give are well typed in all that has
-- what is in sight.
use Rattle.std.proofs.Common.{◌≡◌, true, List, []}
use Rattle.bind_kinds.specs.declared.kind.Kind.{Kind}
use Rattle.bind_sight.specs.Sight.{Seen}
use Rattle.bind_parts.specs.declared.aggregates.Parts.{Parts}
use Rattle.bind_parts.specs.declared.from.Opened.{Opened}
use Rattle.bind_queries.specs.Judges.{Judge, QueryJudge, FromJudge, RefJudge}
use Rattle.typing_trees.specs.Around.{Around}
use Rattle.typing_trees.specs.Kinds.{in_turn}
use Rattle.typing_trees.specs.Queries.{kinds_of_query, kinds_of_source}
use Rattle.typing_queries.proofs.Below.{HasAll}
use Rattle.typing_queries.proofs.Sees.{Sees}
use Rattle.typing_queries.proofs.Shapes.{Aggregating, Grown, IsTyped, kinds_shown, Opens}

-- ---- judges

-- an expression
abbrev pub Fitting : Judge → Type 0
Fitting j = (s : Seen) (p : Parts) → (j s p).faults ≡ [] → (inner : Around) → Aggregating s inner →
    Grown inner s p (j s p).value.parts (IsTyped (j s p).value.value)

-- a query, whose columns are of the kinds of what they are stored into
abbrev pub QueryFits : QueryJudge → Type 0
QueryFits q = (targets : List Kind) (s : Seen) → (q targets s).faults ≡ [] → (a : Around) → Sees s a
    → HasAll (kinds_of_query (q targets s).value.tree a) (kinds_shown (q targets s).value.columns) ×
    (in_turn targets (kinds_shown (q targets s).value.columns) ≡ true)

-- where an item of FROM comes from
abbrev pub RefFits : RefJudge → Type 0
RefFits r = (s : Seen) → (r s).faults ≡ [] → (a : Around) → Sees s a →
    HasAll (kinds_of_source (r s).value.source a) (kinds_shown (r s).value.columns)

-- an item of FROM after others
abbrev pub FromFits : FromJudge → Type 0
FromFits j = (s : Seen) (so : Opened) → (j s so).faults ≡ [] → (a : Around) → Sees s a →
    Opens so a → Opens (j s so).value a
