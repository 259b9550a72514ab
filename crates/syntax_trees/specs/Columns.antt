-- Where a column's name begins. ISO/IEC 9075-2, 6.6.
use Rattle.std.specs.Prelude.{Option, Some, None}
use Rattle.syntax_trees.specs.declared.anchor.Anchor.{Anchor}
use Rattle.syntax_trees.specs.declared.anchor.ColumnName.{ColumnName}
use Rattle.syntax_trees.specs.declared.anchor.Ident.{Ident}

-- the anchor of the name before the dot, if there is one, else of the name
abbrev pub first_anchor : Option Ident → Ident → Anchor
first_anchor (Some qualifier) name = qualifier.anchor
first_anchor None name = name.anchor

-- where a column's name begins
abbrev pub anchor_of_column : ColumnName → Anchor
anchor_of_column c = first_anchor c.qualifier c.name
