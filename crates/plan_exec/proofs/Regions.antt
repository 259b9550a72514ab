-- Rows that an Apply goes through whose inner plan is read as steps, one after another.
use Rattle.std.proofs.Common.{◌≡◌, ℕ, zero, suc, ◌+◌, ◌*◌, ◌≤◌, List, [], ◌∷◌, ◌++◌, length, map}
use Rattle.std.proofs.Common.{Ok, Err, refl, sym, ap, ◌∙◌, arith}
use Rattle.std.proofs.lemmas.List.{append-nil, append_assoc}
use Rattle.sql_values.specs.declared.value.Value.{Value}
use Rattle.sql_conditions.specs.Conditions.{Area}
use Rattle.row_types.specs.declared.cell.Cell.{Cell}
use Rattle.row_types.specs.declared.cell.Cell.TheVariants.{Val, Cond}
use Rattle.row_types.specs.Cells.{PlanRow, Whole, Poisoned}
use Rattle.rel_algebra.specs.declared.plan.ApplyKind.{ApplyKind}
use Rattle.rel_algebra.specs.declared.scalar.Scalar.{Scalar}
use Rattle.rel_algebra.specs.Plain.{Inputs}
use Rattle.rel_algebra.specs.Plan.{Kind, PlanTree, applied, cell_of, collapse, den, each}
use Rattle.rel_algebra.specs.Plan.{member_cell, sight, single}
use Rattle.rel_algebra.specs.PlanView.{kind_of, scalar_of}
use Rattle.rel_algebra.specs.Work.{over_rows}
use Rattle.plan_scalars.specs.Sights.{sight_of}
use Rattle.plan_nodes.specs.declared.last.Way.{Way}
use Rattle.plan_nodes.specs.declared.received.Received.{Received}
use Rattle.plan_nodes.specs.Fates.{fate_rows}
use Rattle.plan_nodes.specs.Receiving.{received}
use Rattle.plan_nodes.specs.Ways.{way_fate, way_rows}
use Rattle.plan_nodes.proofs.Laws.{each_append, received_append}
use Rattle.plan_regions.specs.declared.region.Step.{Step}
use Rattle.plan_regions.specs.Regions.{steps_cells}
use Rattle.plan_exec.specs.Applying.{added_cells, applied_rows, inner_work}
use Rattle.plan_exec.specs.RegionRows.{IsValueOf, region_cells, region_rows}
use Rattle.plan_exec.proofs.Collapsing.{all_become, all_stay}

module _ (when : Scalar) (steps : List Step) (o : List (List Cell)) (args : List Value) (way : Way)
  where
    -- what comes of rows
    abbrev coming : List PlanRow → List PlanRow
    coming rows = way_rows way o args (region_rows when steps o args rows)

    one_first : (came : PlanRow) (rest : List PlanRow) →
        coming (came ∷ rest) ≡ coming (came ∷ []) ++ coming rest
    one_first came rest =
        ap (way_rows way o args) (each_append
        (λ row. Whole (row ++ region_cells when steps o args row) ∷ []) (came ∷ []) rest)
        ∙ each_append (λ row. fate_rows (way_fate way row o args))
        (region_rows when steps o args (came ∷ [])) (region_rows when steps o args rest)

    -- one row more was taken
    pub next_region : (left rest : List PlanRow) (came : PlanRow) (out new whole : Received) →
        left ≡ came ∷ rest →
        new ≡ received out (way_rows way o args (region_rows when steps o args (came ∷ []))) →
        received out (way_rows way o args (region_rows when steps o args left)) ≡ whole →
        received new (way_rows way o args (region_rows when steps o args rest)) ≡ whole
    next_region left rest came out new whole l n k =
        ap (λ r. received r (coming rest)) n
        ∙ (sym (received_append out (coming (came ∷ [])) (coming rest)) ∙
        (ap (received out) (sym (one_first came rest)) ∙
        (ap (λ xs. received out (coming xs)) (sym l) ∙ k)))

    -- no row is left
    pub all_regions : (left : List PlanRow) (out whole : Received) → length left ≤ 0 →
        received out (way_rows way o args (region_rows when steps o args left)) ≡ whole →
        out ≡ whole
    all_regions [] out whole l k = k
    all_regions (r ∷ rs) out whole l k = absurd (omega (arith, l))

    -- a row got its cell
    pub row_region : (came : PlanRow) (row : List Cell) (out new : Received) → Whole row ≡ came →
        new ≡ received out
        (fate_rows (way_fate way (row ++ region_cells when steps o args row) o args)) →
        new ≡ received out (way_rows way o args (region_rows when steps o args (came ∷ [])))
    row_region came row out new h n =
        n ∙ (ap (received out)
        (sym (append-nil (fate_rows (way_fate way (row ++ region_cells when steps o args row) o
        args))))
        ∙ ap (λ r. received out (coming (r ∷ []))) h)

    -- one that is poisoned goes on
    pub poison_region : (came : PlanRow) (a : Area) (out new : Received) → Poisoned a ≡ came →
        new ≡ received out (Poisoned a ∷ []) →
        new ≡ received out (way_rows way o args (region_rows when steps o args (came ∷ [])))
    poison_region came a out new h n = n ∙ ap (λ r. received out (coming (r ∷ []))) h

-- the cells of a row of values, and after them the one that it gets
pub values_region : (when : Scalar) (steps : List Step) (o : List (List Cell))
    (args vs : List Value) (front : List Value) (cells new : List Cell) (c : Cell) → front ≡ vs → new ≡ cells ++ c ∷ [] →
    c ∷ [] ≡ region_cells when steps o args (map Val vs ++ cells) →
    map Val front ++ new ≡ (map Val vs ++ cells) ++ region_cells when steps o args
    (map Val vs ++ cells)
values_region when steps o args vs front cells new c f n h =
    ap (λ us. map Val us ++ new) f
    ∙ (ap (λ cs. map Val vs ++ cs) (n ∙ ap (λ ds. cells ++ ds) h)
    ∙ sym (append_assoc (map Val vs) cells (region_cells when steps o args
    (map Val vs ++ cells))))

one_alone : (xs : List Cell) → length xs ≡ 1 → (f : Cell → Cell) (c : Cell) →
    ((d : Cell) → f d ≡ c) → c ∷ [] ≡ map f xs
one_alone [] l f c h = absurd (omega (arith, l))
one_alone (x ∷ []) l f c h = ap (λ d. d ∷ []) (sym (h x))
one_alone (x ∷ y ∷ xs) l f c h = absurd (omega (arith, l))

module _ (when : Scalar) (steps : List Step) (o : List (List Cell)) (args : List Value)
    (seen row : List Cell) (same : seen ≡ row) (cell : Cell)
    (is : cell ≡ cell_of (scalar_of when) (sight_of seen o args)) where
  as_one : (d : Cell) → applied (cell_of (scalar_of when) (sight_of row o args)) d ≡ applied cell d
  as_one d = ap (λ r. applied (cell_of (scalar_of when) (sight_of r o args)) d) (sym same) ∙
      ap (λ c. applied c d) (sym is)

  -- the scalar isn't true
  pub none_there : (c : Cell) → length (steps_cells steps [] (row ∷ o) args) ≡ 1 →
      ((d : Cell) → applied cell d ≡ c) → c ∷ [] ≡ region_cells when steps o args row
  none_there c l h = one_alone (steps_cells steps [] (row ∷ o) args) l
      (applied (cell_of (scalar_of when) (sight_of row o args))) c (λ d. as_one d ∙ h d)

  -- it is
  pub one_there : (cs : List Cell) → cs ≡ steps_cells steps [] (row ∷ o) args →
      ((d : Cell) → applied cell d ≡ d) → cs ≡ region_cells when steps o args row
  one_there cs e h = e ∙ sym (all_stay (applied (cell_of (scalar_of when) (sight_of row o args)))
      (λ d. as_one d ∙ h d) (steps_cells steps [] (row ∷ o) args))

-- ---- the rows of an Apply are these

one_collapses : (m : Cell) (cs : List Cell) → length cs ≡ 1 → collapse single m (Whole cs ∷ []) ≡ cs
one_collapses m [] l = absurd (omega (arith, l))
one_collapses m (Val v ∷ []) l = refl
one_collapses m (Cond a ∷ []) l = refl
one_collapses m (c ∷ d ∷ cs) l = absurd (omega (arith, l))

each_same : (f g : List Cell → List PlanRow) → ((row : List Cell) → f row ≡ g row) →
    (rows : List PlanRow) → each f rows ≡ each g rows
each_same f g h [] = refl
each_same f g h (Whole row ∷ rows) = ap (λ xs. xs ++ each f rows) (h row) ∙
    ap (λ ys. g row ++ ys) (each_same f g h rows)
each_same f g h (Poisoned a ∷ rows) = ap (λ zs. Poisoned a ∷ zs) (each_same f g h rows)

module _ (when : Scalar) (kind : ApplyKind) (steps : List Step) (inner : PlanTree) (w : Inputs)
    (o : List (List Cell)) (v : IsValueOf steps inner (kind_of kind)) where
  same_cells : (row : List Cell) →
      added_cells when kind inner w o row ≡ region_cells when steps o w.args row
  same_cells row =
      let cells = steps_cells steps [] (row ∷ o) w.args in
      let here = sight w o row in
      let f = applied (cell_of (scalar_of when) here) in
      ap (λ (k : Kind). map f (collapse k (member_cell k here) (den inner w (row ∷ o)))) v.0
      ∙ (ap (λ rows. map f (collapse single (member_cell single here) rows)) (v.1.row w (row ∷ o))
      ∙ ap (map f) (one_collapses (member_cell single here) cells (v.1.cell.one (row ∷ o) w.args)))

  pub applied_regions : (rows : List PlanRow) →
      applied_rows when kind inner w o rows ≡ region_rows when steps o w.args rows
  applied_regions rows = each_same _ _
      (λ row. ap (λ cs. Whole (row ++ cs) ∷ []) (same_cells row)) rows
