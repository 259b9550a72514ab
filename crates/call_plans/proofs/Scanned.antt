-- The tables of a function's plan by itself are those of its plan in a call of it.
use Rattle.std.proofs.Common.{◌≡◌, ℕ, zero, suc, ◌+◌, ◌&&◌, true, List, [], ◌∷◌, ◌++◌, length, Option}
use Rattle.std.proofs.Common.{Some, None, refl, sym, ap, subst, ◌∙◌, append_assoc, drop}
use Rattle.std.proofs.lemmas.Bool.{eq-eqb}
use Rattle.sql_values.specs.declared.value.SqlType.{SqlType}
use Rattle.sql_values.specs.declared.value.Value.TheVariants.{Null}
use Rattle.rel_algebra.specs.Emit.{Emitted, EmittedAll, Env, emit, emit_args, emit_body, joined_nodes}
use Rattle.rel_algebra.specs.Emit.{lifted, listed_by, own_places, passed, plan, routine_plan}
use Rattle.rel_algebra.specs.Emit.{scalar_count, singly, top, width}
use Rattle.rel_algebra.specs.Lasting.{RoutineLasts}
use Rattle.rel_algebra.specs.Merged.{Move, after_arguments, moved_nodes, moved_tree}
use Rattle.rel_algebra.specs.Plain.{as_many, planned, planned_all, planned_routine}
use Rattle.rel_algebra.specs.Plan.{Nodes, PlanTree, apply, apply_by, cross, extend, extend_by}
use Rattle.rel_algebra.specs.Plan.{filter, group, keep, left_outer, no_node, on_each, scan, settle}
use Rattle.rel_algebra.specs.Plan.{sort, unit_row, values}
use Rattle.rel_algebra.specs.Tree.{Call, Exprs, Literal, MoreExprs, MoreRows, NoExpr, NoRow}
use Rattle.rel_algebra.specs.Tree.{Query, Returned, Routine, Values, count, parameters_of}
use Rattle.rel_algebra.proofs.Laws.{merged_plans}
use Rattle.scanned_tables.specs.Scans.{AreWide, scans, scans_in}
use Rattle.scanned_tables.specs.declared.scans.ScannedTable.{ScannedTable}
use Rattle.scanned_tables.proofs.Laws.{scans_decide}

-- ---- runs

no_more : (xs : List ScannedTable) → xs ++ [] ≡ xs
no_more [] = refl
no_more (x ∷ xs) = ap (λ (ys : List ScannedTable). x ∷ ys) (no_more xs)

scans-joined : (a b : Nodes) → scans_in (joined_nodes a b) ≡ scans_in a ++ scans_in b
scans-joined no_node b = refl
scans-joined (extend_by ss a) b = scans-joined a b
scans-joined (apply_by when kind way inner a) b =
    ap (λ (xs : List ScannedTable). scans inner ++ xs) (scans-joined a b)
    ∙ sym (append_assoc (scans inner) (scans_in a) (scans_in b))

scans-on_each : (a : Nodes) (t : PlanTree) → scans (on_each a t) ≡ scans t ++ scans_in a
scans-on_each no_node t = sym (no_more (scans t))
scans-on_each (extend_by ss a) t = scans-on_each a (extend ss t)
scans-on_each (apply_by when kind way inner a) t =
    scans-on_each a (apply when kind way inner t)
    ∙ append_assoc (scans t) (scans inner) (scans_in a)

scans-listed : (o : Option (List ℕ)) (a : EmittedAll) (n : ℕ) →
    scans (listed_by o a n unit_row) ≡ scans_in a.nodes
scans-listed (Some is) a n = scans-on_each a.nodes unit_row
scans-listed None a n =
    scans-on_each (joined_nodes a.nodes (extend_by a.scalars no_node)) unit_row
    ∙ scans-joined a.nodes (extend_by a.scalars no_node) ∙ no_more (scans_in a.nodes)

-- ---- moves

mutual
  scans-moved : (v : Move) (d : ℕ) (t : PlanTree) → scans (moved_tree v d t) ≡ scans t
  scans-moved v d unit_row = refl
  scans-moved v d (scan name n) = refl
  scans-moved v d (values lists) = refl
  scans-moved v d (extend ss input) = scans-moved v d input
  scans-moved v d (apply when kind way inner input) =
      λ i. scans-moved v d input i ++ scans-moved v (suc d) inner i
  scans-moved v d (filter s input) = scans-moved v d input
  scans-moved v d (keep is input) = scans-moved v d input
  scans-moved v d (cross a b) = λ i. scans-moved v d a i ++ scans-moved v d b i
  scans-moved v d (left_outer nodes s n a b) =
      λ i. scans-moved v d a i ++ (run-moved v (suc d) nodes i ++ scans-moved v d b i)
  scans-moved v d (settle input) = scans-moved v d input
  scans-moved v d (group keys ags input) = scans-moved v d input
  scans-moved v d (sort keys input) = scans-moved v d input

  run-moved : (v : Move) (d : ℕ) (a : Nodes) → scans_in (moved_nodes v d a) ≡ scans_in a
  run-moved v d no_node = refl
  run-moved v d (extend_by ss rest) = run-moved v d rest
  run-moved v d (apply_by when kind way inner rest) =
      λ i. scans-moved v d inner i ++ run-moved v d rest i

-- ---- a call with NULLs

abbrev nulls : ℕ → Exprs
nulls zero = NoExpr
nulls (suc n) = MoreExprs (Literal Null) (nulls n)

nulls_planned : (n : ℕ) → planned_all (nulls n) ≡ true
nulls_planned zero = refl
nulls_planned (suc n) = nulls_planned n

nulls_counted : (n : ℕ) → count (nulls n) ≡ n
nulls_counted zero = refl
nulls_counted (suc n) = ap suc (nulls_counted n)

bare : (n : ℕ) (types : List SqlType) (S : List ℕ → ℕ) (e : Env) (m : ℕ) →
    (emit_args (nulls n) types S e m).nodes ≡ no_node
bare zero types S e m = refl
bare (suc n) types S e m = bare n (drop 1 types) S e m

given : (n : ℕ) (types : List SqlType) (S : List ℕ → ℕ) (e : Env) (m : ℕ) →
    scalar_count (emit_args (nulls n) types S e m).scalars ≡ n
given zero types S e m = refl
given (suc n) types S e m = ap suc (given n (drop 1 types) S e m)

-- a query that calls a routine
abbrev calling : Routine → Query
calling r = Values (MoreRows (MoreExprs (Call [] r (nulls (length (parameters_of r)))) NoExpr) NoRow)

enough : (r : Routine) → as_many r (length (parameters_of r)) ≡ true
enough (Returned types returns x) = refl
enough r = eq-eqb (length (parameters_of r)) (length (parameters_of r)) refl

calling_planned : (r : Routine) → planned_routine r ≡ true → planned (calling r) ≡ true
calling_planned r p =
    let n = length (parameters_of r) in
    ap (λ b. ((b && (planned_all (nulls n) && as_many r (count (nulls n)))) && true) && true) p
    ∙ ap (λ b. ((b && as_many r (count (nulls n))) && true) && true) (nulls_planned n)
    ∙ ap (λ k. (as_many r k && true) && true) (nulls_counted n)
    ∙ ap (λ b. (b && true) && true) (enough r)

module _ (r : Routine) (S : List ℕ → ℕ) where
  -- the emission of a body in a call, and by itself
  body_scans : (m k : ℕ) → k ≡ length (parameters_of r) →
      scans_in (emit_body r S (passed m k) (m + k)).nodes
      ≡ scans_in (emit_body r S (top (length (parameters_of r))) 0).nodes
  body_scans m k is =
      ap (λ (x : Emitted). scans_in x.nodes) (merged_plans r S m k)
      ∙ run-moved (after_arguments m k) 0 (emit_body r S (top k) 0).nodes
      ∙ ap (λ (j : ℕ). scans_in (emit_body r S (top j) 0).nodes) is

  call_scans : (e : Env) →
      scans_in (emit (Call [] r (nulls (length (parameters_of r)))) S e 0).nodes
      ≡ scans_in (emit_body r S (top (length (parameters_of r))) 0).nodes
  call_scans e =
      let n = length (parameters_of r) in
      let a = emit_args (nulls n) (parameters_of r) S e 0 in
      let m = width a.nodes 0 in
      let k = scalar_count a.scalars in
      let b = emit_body r S (passed m k) (m + k) in
      scans-joined a.nodes (extend_by a.scalars b.nodes)
      ∙ ap (λ (x : Nodes). scans_in x ++ scans_in b.nodes) (bare n (parameters_of r) S e 0)
      ∙ body_scans m k (given n (parameters_of r) S e 0)

  plan_scans : scans (plan (calling r) S (top 0)) ≡ scans (routine_plan r S)
  plan_scans =
      let n = length (parameters_of r) in
      let x = emit (Call [] r (nulls n)) S (lifted (top 0)) 0 in
      let own = emit_body r S (top n) 0 in
      scans-listed (own_places (singly x).scalars)
      (record { nodes = joined_nodes x.nodes no_node; scalars = (singly x).scalars }) 0
      ∙ scans-joined x.nodes no_node ∙ no_more (scans_in x.nodes) ∙ call_scans (lifted (top 0))
      ∙ sym (scans-listed (own_places (singly own).scalars) (singly own) 0)

-- where the tables of a function's plan are as wide, its plan is the same
pub routine_lasts : (r : Routine) (S R : List ℕ → ℕ) → planned_routine r ≡ true →
    AreWide (scans (routine_plan r S)) R → RoutineLasts r S R
routine_lasts r S R p wide =
    (scans_decide (calling r) S R (top 0) (calling_planned r p)
    (subst (λ (ts : List ScannedTable). AreWide ts R) (sym (plan_scans r S)) wide)).0.0.0
