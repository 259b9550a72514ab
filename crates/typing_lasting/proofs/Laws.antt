-- The laws that upper crates cite: typing lasts while other things are made and dropped.
use Rattle.std.proofs.Common.{◌∷◌, ◌++◌}
use Rattle.catalog_store.specs.Users.{without}
use Rattle.typing_lasting.specs.Used.{UsedNames, expr_names, query_names, statement_names}
use Rattle.typing_lasting.specs.Lasting.{UsedNamesDecide, SameCatalogsDecide, MakingLeavesTyped}
use Rattle.typing_lasting.specs.Lasting.{MakingLeavesItself, DroppingLeavesTyped}
use Rattle.typing_lasting.specs.Lasting.{UnusedLeavesTyped, Objects, SameTyping, objects_in}
use Rattle.typing_lasting.proofs.Expressions.{expr-same, query-same}
use Rattle.typing_lasting.proofs.Names.{all-seen, all-kept, all-itself, all-left, unused}
use Rattle.typing_lasting.proofs.Statements.{statement-same}
pub use Rattle.typing_lasting.proofs.Layers.{statement_names-at, names_of_block-at}
pub use Rattle.typing_lasting.proofs.Layers.{names_of_branch-at, names_of_handler-at}
pub use Rattle.typing_lasting.proofs.Names.{own-seen}

pub used_names_decide : UsedNamesDecide
used_names_decide m n = record {
  expressions = λ e s a. expr-same m n e s a;
  queries = λ q s a. query-same m n q s a;
  statements = λ x s i. statement-same m n x s i;
}

-- what holds where the names are of one sort holds where they are of a narrower one
pub narrowed : (Such Wide : UsedNames → Type 0) (m n : Objects) →
    ((names : UsedNames) → Such names → Wide names) → SameTyping Wide m n → SameTyping Such m n
narrowed Such Wide m n f same = record {
  expressions = λ e s. same.expressions e (f (expr_names e) s);
  queries = λ q s. same.queries q (f (query_names q) s);
  statements = λ x s. same.statements x (f (statement_names x) s);
}

pub same_catalogs_decide : SameCatalogsDecide
same_catalogs_decide r known more = narrowed _ _ (objects_in r more) (objects_in r known)
    (all-seen r known more) (used_names_decide (objects_in r more) (objects_in r known))

pub making_leaves_typed : MakingLeavesTyped
making_leaves_typed r known more = narrowed _ _ (objects_in r (known ++ more))
    (objects_in r known) (all-kept known more) (same_catalogs_decide r known (known ++ more))

pub making_leaves_itself : MakingLeavesItself
making_leaves_itself r known entry later same = narrowed _ _
    (objects_in r (known ++ entry ∷ later)) (objects_in r known)
    (all-itself r known entry later same)
    (used_names_decide (objects_in r (known ++ entry ∷ later)) (objects_in r known))

pub dropping_leaves_typed : DroppingLeavesTyped
dropping_leaves_typed r known name = narrowed _ _ (objects_in r (without name known))
    (objects_in r known) (all-left known name)
    (same_catalogs_decide r known (without name known))

pub unused_leaves_typed : UnusedLeavesTyped
unused_leaves_typed r known name own o none stands f = narrowed _ _
    (objects_in r (without name known)) (objects_in r known)
    (unused known name own o none stands f) (dropping_leaves_typed r known name)
