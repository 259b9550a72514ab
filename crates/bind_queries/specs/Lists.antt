-- Select lists, and tests over rows. ISO/IEC 9075-2, 7.12 (where clause), 7.16 (query
-- specification) and 9.2 (store assignment).
use Rattle.std.specs.Prelude.{List, [], ◌++◌, Option, Some, None}
use Rattle.syntax_trees.specs.declared.anchor.Anchor.{Anchor}
use Rattle.syntax_trees.specs.declared.anchor.Ident.{Ident}
use Rattle.bound_trees.specs.declared.expr.BoundExpr.{BoundExpr}
use Rattle.bind_faults.specs.Faults.{Noted, give, as_value}
use Rattle.bind_kinds.specs.declared.kind.Kind.{Kind}
use Rattle.bind_kinds.specs.declared.kind.Kind.TheVariants.{Boolean}
use Rattle.bind_kinds.specs.Kinds.{misfit, in_turn}
use Rattle.bind_kinds.specs.Conjuncts.{conjuncts_of}
use Rattle.bind_sight.specs.Sight.{Seen}
use Rattle.bind_parts.specs.declared.aggregates.Parts.{Parts}
use Rattle.bind_parts.specs.declared.list.Outputs.{Outputs}
use Rattle.bind_parts.specs.declared.typed.Typed.{Typed}
use Rattle.bind_parts.specs.Lists.{no_outputs, with_output, star, titled}
use Rattle.bind_parts.specs.Turns.{each_noted}
use Rattle.bind_parts.specs.Typed.{Beside, keeping, alone, no_parts}
use Rattle.bind_queries.specs.Judges.{Judge, Expression, JudgedItem, look}

-- ---- items

-- `*` in a select list: the columns of the innermost query
abbrev pub all_item : Anchor → Seen → Outputs → Noted Outputs
all_item at seen so = star at seen.levels so

-- an expression in a select list: one output column, of the name that is written or its own
abbrev pub value_item : Expression → Option Ident → Seen → Outputs → Noted Outputs
value_item e alias seen so = as_value (with_output so (titled alias e.name))
    (look e.judge seen so.parts)

-- the items of a select list in turn, after the parts of the group so far
abbrev pub judged_items : List JudgedItem → Parts → Seen → Noted Outputs
judged_items items parts seen = each_noted (λ so i. i.judge seen so) (no_outputs parts) items

-- the list, each of the kind of what it is stored into
abbrev pub stored : List Kind → Noted Outputs → Noted Outputs
stored targets so = record {
  value = so.value;
  faults = so.faults ++ in_turn targets so.value.heads;
  uses = so.uses;
}

-- a select list, each column of the kind of what it is stored into
abbrev pub listed : List Kind → List JudgedItem → Parts → Seen → Noted Outputs
listed targets items parts seen = stored targets (judged_items items parts seen)

-- ---- tests

-- a test, as the list of its top conjuncts
abbrev pub tested : Noted (Beside Typed) → Noted (Beside (List BoundExpr))
tested t = record {
  value = record { value = conjuncts_of t.value.value.tree; parts = t.value.parts };
  faults = t.faults ++ misfit Boolean t.value.value.head;
  uses = t.uses;
}

-- the conjuncts of a test that stands outside of groups
abbrev pub judged_test : Judge → Seen → Noted (List BoundExpr)
judged_test j seen = alone (tested (look j seen no_parts))

-- the conjuncts of WHERE; without WHERE there is none
abbrev pub judged_filter : Option Expression → Seen → Noted (List BoundExpr)
judged_filter None seen = give []
judged_filter (Some e) seen = judged_test e.judge seen

-- the condition of HAVING, after the parts of the list
abbrev pub judged_having : Option Expression → Seen → Parts → Noted (Beside (List BoundExpr))
judged_having None seen parts = keeping parts (give [])
judged_having (Some e) seen parts = tested (look e.judge seen parts)
