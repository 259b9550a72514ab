-- A function whose body is in form is planned.
use Rattle.std.proofs.Common.{◌≡◌, ℕ, Bool, true, false, not, ◌&&◌, List, [], Some, refl, sym, ap}
use Rattle.std.proofs.Common.{◌∙◌}
use Rattle.std.specs.Prelude.{nat_lt}
use Rattle.std.specs.List.{IsDistinct}
use Rattle.std.specs.Str.{bytes_eq}
use Rattle.rel_algebra.specs.Plain.{planned_routine}
use Rattle.rel_algebra.specs.Tree.{Function, Return, Routine, Stmt}
use Rattle.sql_values.specs.declared.value.SqlType.{SqlType}
use Rattle.catalog_store.specs.Catalog.{Interpreted, names_of}
use Rattle.regions.specs.Tree.{Body}
use Rattle.regions.specs.TreeBodies.{stmt_of}
use Rattle.regions.specs.Worlds.{FormIsPlanned}
use Rattle.routine_views.specs.Views.{Own, stmt_in}
use Rattle.routine_views.specs.Routines.{function_view, routines_of, with_modes}
use Rattle.routine_form.specs.Weight.{weight}
use Rattle.routine_form.specs.declared.sum.TheConstants.{HEAVIEST}
use Rattle.block_plans.specs.Callees.{Callees}
use Rattle.block_places.specs.Seen.{IsApart, SeenInPlace, around}
use Rattle.region_trees.specs.Form.{formed, in_form}
use Rattle.region_trees.specs.Regions.{region_in, region_seen, seen_by, seen_in}
use Rattle.region_trees.proofs.Agreeing.{regions_agree}
use Rattle.region_trees.proofs.Bodies.{bodies_formed}
use Rattle.region_trees.proofs.Embedding.{halves, regions_embed}
use Rattle.block_forms.specs.Filled.{filled}
use Rattle.block_forms.specs.Forms.{FormsArePlanned, may_be_planned}
use Rattle.block_forms.proofs.Counting.{counted, widths}

-- ---- what the test says

-- not so
is_not : (b : Bool) → not b ≡ true → b ≡ false
is_not true h = absurd cc
is_not false h = refl

-- its parts
record MayBe (k : Callees) (f : Interpreted) : Type 0 where
  pub self_calling : f.self_calling ≡ false
  pub body_formed : formed k f.body ≡ true
  pub body_filled : filled k f.body ≡ true

parts_of : (k : Callees) (f : Interpreted) → may_be_planned k f ≡ true → MayBe k f
parts_of k f h =
    let first = halves (not f.self_calling) (in_form k f.body && filled k f.body) h in
    let second = halves (in_form k f.body) (filled k f.body) first.1 in
    record {
      self_calling = is_not f.self_calling first.0;
      body_formed =
          (halves (formed k f.body) (nat_lt (weight k.known f.body) HEAVIEST) second.0).0;
      body_filled = second.1;
    }

-- its body is in form
pub formed_of : (k : Callees) (f : Interpreted) → may_be_planned k f ≡ true →
    formed k f.body ≡ true
formed_of k f h = (parts_of k f h).body_formed

-- ---- a function that passes the test

-- in a routine that no call runs with a plan, the tree of its body is that by what has a plan
placed : SeenInPlace → (k : Callees) (name : List ℕ) (f : Interpreted) →
    IsDistinct bytes_eq (names_of k.known) → IsApart k name → formed k f.body ≡ true →
    let own : Own = record { name = name; parameters = with_modes [] f.parameters } in
    region_in (around k.known (Some own)) f.body ≡ region_seen k f.body
placed seen k name f d apart h =
    let own : Own = record { name = name; parameters = with_modes [] f.parameters } in
    regions_agree k (seen_in (around k.known (Some own))) (seen_by k) f.body
    (record {
      expressions = seen.expressions k (Some own) d apart;
      queries = seen.queries k (Some own) d apart;
    }) h

-- a function that returns NULL on NULL input is planned as it is without
null_call_too : (types : List SqlType) (returns : SqlType) (null_call : Bool) (s : Stmt) →
    planned_routine (Function false types returns false s) ≡ true →
    planned_routine (Function false types returns null_call s) ≡ true
null_call_too types returns false s h = h
null_call_too types returns true (Return x) h = h
null_call_too types returns true s h = h

pub forms_are_planned : FormIsPlanned → SeenInPlace → FormsArePlanned
forms_are_planned form_is_planned seen k name f d apart passed =
    let may = parts_of k f passed in
    let own : Own = record { name = name; parameters = with_modes [] f.parameters } in
    let with_body : Stmt → Routine = λ s. Function false f.parameters f.returns f.null_call s in
    let stands : stmt_in (around k.known (Some own)) f.body [] ≡ stmt_of (region_seen k f.body) =
    sym (regions_embed k (around k.known (Some own)) f.body [] may.body_formed)
    ∙ ap stmt_of (placed seen k name f d apart may.body_formed) in
    let same : function_view (routines_of k.known) name f
    ≡ with_body (stmt_of (region_seen k f.body)) =
    (λ i. Function (may.self_calling i) f.parameters f.returns f.null_call
    (stmt_in (around k.known (Some own)) f.body [])) ∙ ap with_body stands in
    record {
      planned =
          ap planned_routine same
          ∙ null_call_too f.parameters f.returns f.null_call (stmt_of (region_seen k f.body))
          (form_is_planned (Body f.parameters f.returns (region_seen k f.body)) widths
          (bodies_formed.seen k f.body widths may.body_formed
          (counted k f.body may.body_filled)));
      same = same;
      body = may.body_formed;
    }
