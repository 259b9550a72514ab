-- VALUES without faults: what it is bound to is well typed.
use Rattle.std.proofs.Common.{◌≡◌, refl, sym, ap, ◌∙◌, subst, ℕ, true, false, List, [], ◌∷◌, ◌++◌}
use Rattle.std.proofs.Common.{append_assoc, map, length, replicate, Some}
use Rattle.std.proofs.lemmas.List.{append-nil}
use Rattle.syntax_trees.specs.declared.anchor.Anchor.{Anchor}
use Rattle.bound_trees.specs.declared.expr.BoundExpr.{BoundExpr}
use Rattle.bound_trees.specs.declared.query.BoundQuery.TheVariants as bound
use Rattle.bound_trees.specs.declared.query.BoundRow.{BoundRow}
use Rattle.bound_trees.specs.declared.query.BoundRow.TheVariants.{Row}
use Rattle.bind_kinds.specs.declared.kind.Kind.{Kind}
use Rattle.bind_kinds.specs.declared.kind.Kind.TheVariants.{Null}
use Rattle.bind_kinds.specs.declared.kind.OperandHead.{OperandHead}
use Rattle.bind_kinds.specs.Kinds.{joined_row}
use Rattle.bind_sight.specs.Sight.{Seen, may_stand, inside_values}
use Rattle.bind_parts.specs.declared.values.TypedRows.{TypedRows}
use Rattle.bind_parts.specs.Turns.{each_noted}
use Rattle.bind_parts.specs.Typed.{no_parts}
use Rattle.bind_parts.specs.ValueRows.{row_faults, with_row, no_rows, unnamed}
use Rattle.bind_queries.specs.Judges.{JudgedRow, all_of}
use Rattle.bind_queries.specs.ValueRows.{judged_row, one_row, judged_values}
use Rattle.bind_queries.proofs.Laws.{front_nil, back_nil}
use Rattle.typing_trees.specs.Around.{Around, then}
use Rattle.typing_trees.specs.Kinds.{in_turn}
use Rattle.typing_trees.specs.Queries.{kind_of, kinds_of, kinds_of_query, exprs_of_row}
use Rattle.typing_trees.specs.Queries.{kinds_of_rows, row_kinds, more_rows}
use Rattle.typing_queries.proofs.Below.{AllBelow, HasAll}
use Rattle.typing_queries.proofs.Layers.{values-kinds, row-exprs}
use Rattle.typing_queries.proofs.Levels.{sees-values, no-aggregate-in-values}
use Rattle.typing_queries.proofs.Sees.{Sees}
use Rattle.typing_queries.proofs.Shapes.{AreTyped, kinds_shown}
use Rattle.typing_queries.proofs.ValueRows.{row-typed, row-stored, first-row, nothing-stored}
use Rattle.typing_queries.proofs.Forms.{AllFitting, all-grown, all-heads, none-aggregating}
use Rattle.typing_queries.proofs.Growing.{grown-alone}
use Rattle.typing_queries.proofs.Judged.{QueryFits}

abbrev pub AllRows : List JudgedRow → Type 0
AllRows [] = Unit {0}
AllRows (r ∷ rs) = AllFitting r × AllRows rs

-- the kinds of a row's expressions
row-kinds-are : (a : Around) (es : List BoundExpr) (ks : List Kind) →
    kinds_of a (map kind_of es) ≡ Some ks → kinds_of a (exprs_of_row (Row es)) ≡ Some ks
row-kinds-are a es ks p = ap (kinds_of a) (row-exprs es) ∙ p

-- a row more
row-more : (a : Around) (cs : List Kind) (trees : List BoundExpr) (rows : List BoundRow)
    (ks js known : List Kind) → kinds_of a (map kind_of trees) ≡ Some ks → row_kinds cs ks ≡ Some js
    → HasAll (more_rows a js (map exprs_of_row rows)) known →
    HasAll (more_rows a cs (map exprs_of_row (Row trees ∷ rows))) known
row-more a cs trees rows ks js known p q h = (
  h.0,
  ap (λ z. then z (λ k. then (row_kinds cs k) (λ j. more_rows a j (map exprs_of_row rows))))
      (row-kinds-are a trees ks p) ∙ ap (λ z. then z (λ j. more_rows a j (map exprs_of_row rows)))
      q ∙ h.1,
  h.2,
)

rows-after : (rows so new : List BoundRow) (r : BoundRow) → rows ≡ (so ++ r ∷ []) ++ new →
    rows ≡ so ++ r ∷ new
rows-after rows so new r p = p ∙ append_assoc so (r ∷ []) new

module _ (at : Anchor) (targets : List Kind) (s : Seen) (m : may_stand s.levels ≡ false)
    (a : Around) (sees : Sees s a) where
  row-values : (ks : List Kind) (r : JudgedRow) → AllFitting r →
      (judged_row at targets s ks r).faults ≡ [] → AreTyped (judged_row at targets s ks r).value a
  row-values ks r f e =
      let all = all_of s no_parts r in
      let asked = row_faults at targets ks all.value.value.heads in
      grown-alone a s no_parts all.value.parts (AreTyped all.value.value) m
      (all-grown r s no_parts a f (none-aggregating s a m) (front_nil all.faults asked e)) a
      sees

  row-asked : (ks : List Kind) (r : JudgedRow) → (judged_row at targets s ks r).faults ≡ [] →
      row_faults at targets ks (judged_row at targets s ks r).value.heads ≡ []
  row-asked ks r e = let all = all_of s no_parts r in
      back_nil all.faults (row_faults at targets ks all.value.value.heads) e

  -- rows after those so far, whose kinds are known
  rows-fit : (rs : List JudgedRow) (so : TypedRows) (cs : List Kind) → AllRows rs →
      (each_noted (one_row at targets s) so rs).faults ≡ [] → AllBelow cs so.kinds →
      in_turn targets so.kinds ≡ true
      → (new : List BoundRow) × ((each_noted (one_row at targets s) so rs).value.rows ≡ so.rows ++
      new)
      × HasAll (more_rows a cs (map exprs_of_row new))
      (each_noted (one_row at targets s) so rs).value.kinds
      × (in_turn targets (each_noted (one_row at targets s) so rs).value.kinds ≡ true)
  rows-fit [] so cs fs e below turn = ([], sym (append-nil so.rows), (cs, refl, below), turn)
  rows-fit (r ∷ rs) so cs fs e below turn =
      let row = judged_row at targets s so.kinds r in
      let more = with_row so row.value in
      let rest = each_noted (one_row at targets s) more rs in
      let free = front_nil row.faults rest.faults e in
      let asked = row-asked so.kinds r free in
      let heads = row.value.heads in
      let trees = row.value.trees in
      let typed = row-values so.kinds r fs.0 free in
      let one = row-typed at targets so.kinds heads cs typed.0 asked below typed.2 in
      let others = rows-fit rs more one.0 fs.1 (back_nil row.faults rest.faults e) one.2
      (row-stored at targets so.kinds heads asked turn) in (
        Row trees ∷ others.0,
        rows-after rest.value.rows so.rows others.0 (Row trees) others.1,
        row-more a cs trees others.0 typed.0 one.0 rest.value.kinds typed.1 one.1 others.2,
        others.3,
      )

shown-kinds : (ks : List Kind) → kinds_shown (map unnamed ks) ≡ ks
shown-kinds [] = refl
shown-kinds (k ∷ ks) = ap (λ js. k ∷ js) (shown-kinds ks)

-- nothing is known above the first row
first-below : (at : Anchor) (targets : List Kind) (n : ℕ) (hs : List OperandHead) (ks : List Kind) →
    length hs ≡ n → row_faults at targets (replicate n Null) hs ≡ [] →
    AllBelow ks (map (λ (h : OperandHead). h.kind) hs)
    → AllBelow ks (joined_row (replicate n Null) hs)
first-below at targets n hs ks p q below =
    subst (λ i. AllBelow ks (joined_row (replicate i Null) hs)) p
    (first-row at targets hs ks (subst (λ i. row_faults at targets (replicate i Null) hs ≡ [])
    (sym p) q) below)

-- the first row, and those below it
all-rows : (rows new : List BoundRow) (trees : List BoundExpr) (a : Around) (ks known : List Kind) →
    rows ≡ Row trees ∷ new → kinds_of a (map kind_of trees) ≡ Some ks
    → HasAll (more_rows a ks (map exprs_of_row new)) known →
    HasAll (kinds_of_query (bound.Values rows) a) known
all-rows rows new trees a ks known p q h = (
  h.0,
  values-kinds rows a ∙ ap (λ (bs : List BoundRow). kinds_of_rows a (map exprs_of_row bs)) p ∙
      ap (λ z. then z (λ js. more_rows a js (map exprs_of_row new))) (row-kinds-are a trees ks q) ∙
      h.1,
  h.2,
)

pub values-fit : (at : Anchor) (rs : List JudgedRow) → AllRows rs →
    QueryFits (λ targets s. judged_values at rs targets s)
values-fit at [] fs targets s e a sees = (([], values-kinds [] a, tt), nothing-stored targets 0)
values-fit at (r ∷ rs) fs targets s e a sees =
    let seen = inside_values s in
    let within = sees-values s a sees in
    let m = no-aggregate-in-values s in
    let known = replicate (length r) Null in
    let row = judged_row at targets seen known r in
    let more = with_row (no_rows (length r)) row.value in
    let rest = each_noted (one_row at targets seen) more rs in
    let free = front_nil row.faults rest.faults e in
    let asked = row-asked at targets seen m a within known r free in
    let heads = row.value.heads in
    let trees = row.value.trees in
    let typed = row-values at targets seen m a within known r fs.0 free in
    let below = first-below at targets (length r) heads typed.0 (all-heads seen no_parts r) asked
    typed.2 in
    let others = rows-fit at targets seen m a within rs more typed.0 fs.1
    (back_nil row.faults rest.faults e) below
    (row-stored at targets known heads asked (nothing-stored targets (length r))) in
    let kinds = rest.value.kinds in (
      subst (λ ks. HasAll (kinds_of_query (bound.Values rest.value.rows) a) ks)
          (sym (shown-kinds kinds)) (all-rows rest.value.rows others.0 trees a typed.0 kinds others.1
          typed.1 others.2),
      subst (λ ks. in_turn targets ks ≡ true) (sym (shown-kinds kinds)) others.3,
    )
