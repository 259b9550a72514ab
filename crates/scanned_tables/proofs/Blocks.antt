-- What the statements that read nothing outside of an action tell, and what the region of a block
-- tells.
use Rattle.std.proofs.Common.{◌≡◌, ℕ, ◌+◌, List, [], ◌∷◌, length, Option, None, Some, refl, sym}
use Rattle.std.proofs.Common.{subst}
use Rattle.sql_values.specs.declared.value.SqlType.{SqlType}
use Rattle.rel_algebra.specs.Bodies.{Body, ConditionRead, GetConditionItems, Perhaps, Resignal}
use Rattle.rel_algebra.specs.Bodies.{Stmt}
use Rattle.rel_algebra.specs.BodyChain.{emit, emit_again, emit_condition_items, emitted}
use Rattle.rel_algebra.specs.BodyChain.{first_cells, inline_with, last_cell, perhaps_emitted, top}
use Rattle.rel_algebra.specs.BodyDispatch.{Codes, Env}
use Rattle.rel_algebra.specs.BodySteps.{only, steps_tree}
use Rattle.rel_algebra.specs.Emit.{value_leaf}
use Rattle.rel_algebra.specs.Lasting.{Lasts}
use Rattle.rel_algebra.specs.Leaves.{ValueLeaf}
use Rattle.rel_algebra.specs.Plan.{Scalars, extend, keep, unit_row}
use Rattle.rel_algebra.specs.Tree.{Expr}
use Rattle.rel_algebra.proofs.Laws.{PerhapsHolds, ValueLasts, expr_lasts}
use Rattle.scanned_tables.proofs.Alike.{Same, again_same, items_same, leaf_same}
use Rattle.scanned_tables.proofs.Reading.{NodesRead, Reads}
use Rattle.scanned_tables.proofs.Steps.{StepsRead, again_read, items_read, steps_read}

-- What is told by what an action reads holds outside of one too. What is told outside of actions
-- holds there alone: a RESIGNAL reads nothing there.
abbrev pub Stands : Option ℕ → Option ℕ → Type 0
Stands None o = o ≡ None
Stands (Some c) o = Unit {0}

module _ (S R : List ℕ → ℕ) where
  -- an expression is planned alike
  pub leaf_lasts : (x : Expr) → Lasts x S R → ValueLasts S R (value_leaf x)
  leaf_lasts x h = λ e n. expr_lasts x S R e n h

  -- a RESIGNAL, by the column of the area that is handled
  pub again_by : (c : Option ℕ) (state : Option (List ℕ)) (text : Perhaps) (cs : Codes)
      (env : Env) (here next n : ℕ) (o : Option ℕ) → Stands c o →
      (NodesRead (perhaps_emitted text S env n).nodes R → PerhapsHolds text (ValueLasts S R)) →
      StepsRead R (emit_again c state text S cs env here next n) →
      Same S R o (Resignal state text)
  again_by None state text cs env here next n o w own h =
      subst (λ a. Same S R a (Resignal state text)) (sym w) (again_same S R state text)
  again_by (Some c) state text cs env here next n o w own h =
      leaf_same S R (Resignal state text) o
      (own (again_read R c state text S cs env here next n h))

  -- a GET CONDITION, by the same column
  pub items_by : (c : Option ℕ) (number : ValueLeaf) (items : List ConditionRead) (cs : Codes)
      (env : Env) (here next n : ℕ) (o : Option ℕ) → Stands c o →
      (NodesRead (emitted number S env n).nodes R → ValueLasts S R number) →
      StepsRead R (emit_condition_items c number items S cs env here next n) →
      Same S R o (GetConditionItems number items)
  items_by None number items cs env here next n o w own h =
      subst (λ a. Same S R a (GetConditionItems number items)) (sym w)
      (items_same S R number items)
  items_by (Some c) number items cs env here next n o w own h =
      leaf_same S R (GetConditionItems number items) o
      (own (items_read R c number items S cs env here next n h))

  -- a block, whose steps its region reads
  pub block_reads : (types : List SqlType) (returns : SqlType) (s : Stmt) (params : Scalars) →
      (StepsRead R (emit s S [] (top (length types)) 3 4 (3 + length types)) →
      Same S R None s) → Reads (inline_with (Body types returns s) S params) R →
      (others : Scalars) →
      inline_with (Body types returns s) S others
      ≡ inline_with (Body types returns s) R others
  block_reads types returns s params own h others =
      let n = 3 + length types in let env = top (length types) in
      let same = own (steps_read R (emit s S [] env 3 4 n)
      (extend (first_cells returns params) unit_row) h).0 in
      λ i. keep (n ∷ []) (extend (only (last_cell returns))
      (steps_tree (same [] [] refl i env 3 4 n) (extend (first_cells returns others) unit_row)))
