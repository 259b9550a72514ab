-- Items of FROM with ON. ISO/IEC 9075-2, 7.10 (joined table).
use Rattle.std.specs.Prelude.{List}
use Rattle.bound_trees.specs.declared.expr.BoundExpr.{BoundExpr}
use Rattle.bound_trees.specs.declared.query.BoundFromItem.{BoundFromItem}
use Rattle.bound_trees.specs.declared.query.BoundFromItem.TheVariants as item
use Rattle.bound_trees.specs.declared.query.BoundSource.{BoundSource}
use Rattle.bind_names.specs.declared.asked.Join.{Join}
use Rattle.bind_faults.specs.Faults.{Noted, ◌>>◌, as_value}
use Rattle.bind_sight.specs.Sight.{Seen, inside}
use Rattle.bind_parts.specs.declared.from.Opened.{Opened}
use Rattle.bind_parts.specs.declared.typed.TypedSource.{TypedSource}
use Rattle.bind_parts.specs.From.{repeated_item, with_item, with_from, on_item, on_level}
use Rattle.bind_queries.specs.Judges.{Judge}
use Rattle.bind_queries.specs.Lists.{judged_test}

-- the conjuncts of ON, which sees the items since the last comma and what is outside of the query
abbrev pub on_test : Judge → Seen → Opened → Noted (List BoundExpr)
on_test on outer so = judged_test on (inside (on_level so) outer)

-- one item more, with its ON, which sees the item too
abbrev pub put_on : (BoundSource → List BoundExpr → BoundFromItem) → Judge → Seen → Opened →
    TypedSource → Noted Opened
put_on form on outer so s =
    repeated_item s so.items >> as_value (λ conjuncts. with_from (with_item so s)
    (form s.source conjuncts)) (on_test on outer (with_item so s))

-- an item after JOIN or LEFT JOIN, with its ON
abbrev pub put_joined : Join → Judge → Seen → Opened → TypedSource → Noted Opened
put_joined join = put_on (on_item join)

-- an item after JOIN, with its ON
abbrev pub put_inner : Judge → Seen → Opened → TypedSource → Noted Opened
put_inner = put_on (λ s on. item.Inner s on)

-- an item after LEFT JOIN, with its ON
abbrev pub put_left : Judge → Seen → Opened → TypedSource → Noted Opened
put_left = put_on (λ s on. item.Left s on)
