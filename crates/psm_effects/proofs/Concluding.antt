-- What is left where a statement's changes are taken back, and that runs change rows alone.
use Rattle.std.proofs.Common.{◌≡◌, ◌≤◌, ℕ, List, length, drop, sym, ◌∙◌, ap, subst, le_refl}
use Rattle.std.specs.Prelude.{Result, Ok, Err, IfOk, OnOk, OnErr}
use Rattle.sql_texts.specs.declared.memory.NoMemory.{NoMemory}
use Rattle.rel_algebra.specs.World.{Ends, Gives}
use Rattle.catalog_store.specs.Catalog.{Catalog}
use Rattle.atomic_undo.specs.Undo.{back_to}
use Rattle.atomic_undo.proofs.Laws.{back_to-end}
use Rattle.run_expressions.specs.Content.{Content, world_of, Stays, IsBackAt}
use Rattle.psm_effects.specs.Effects.{replied}
use Rattle.run_choices.specs.declared.stop.Stop.{Stop}
use Rattle.run_choices.specs.declared.stop.Stop.TheVariants.{Raised, Spent}
use Rattle.run_choices.specs.declared.stop.Stop.TheVariants.{NoMemory as WantOfMemory}
use Rattle.psm_effects.specs.Conclusions.{database, IsEffect, IsStopped, KeepsShapes}
use Rattle.psm_effects.specs.Shapes.{shapes_of}
use Rattle.psm_effects.proofs.Shapes.{shapes-undone}

-- the changes of a run are taken back: the tables are as before it
pub tables_back : (mark : ℕ) (old ran new : Content) → mark ≡ length old.book.entries →
    Stays old ran → IsBackAt mark ran new
    → new.memory.tables ≡ old.memory.tables
tables_back mark old ran new at stays back =
    back.tables ∙ stays.marks.back mark (subst (λ (m : ℕ). m ≤ length old.book.entries) (sym at)
    (le_refl (length old.book.entries)))
    ∙ ap (λ (m : ℕ). back_to m old.book.entries old.memory.tables) at ∙
    back_to-end old.book.entries old.memory.tables

-- a run changes rows alone
pub shapes_stay : (old ran : Content) → Stays old ran → KeepsShapes old.memory ran.memory
shapes_stay old ran stays =
    let start : back_to (length old.book.entries) ran.book.entries ran.memory.tables ≡
    old.memory.tables =
    stays.marks.back (length old.book.entries) (le_refl (length old.book.entries)) ∙
    back_to-end old.book.entries old.memory.tables in
    sym (shapes-undone (drop (length old.book.entries) ran.book.entries) ran.memory.tables) ∙
    ap shapes_of start

-- The statement replies what was given, and leaves what the run left.
pub given_effect : {A : Type 0} (text : A → List ℕ) (catalog : Catalog) (old ran new : Content)
    (ends : Ends A) (a : A) (reply result : Result (List ℕ) NoMemory)
    → ends ≡ Gives a (world_of ran) → IfOk reply (λ r. r ≡ text a) → result ≡ reply →
    OnOk result (new ≡ ran)
    → IfOk result (λ r. IsEffect (replied text (database catalog old.memory) ends) r
    (database catalog new.memory))
given_effect text catalog old ran new ends a reply (Ok r) tells says same left =
    let r_is : r ≡ text a = subst (λ (z : Result (List ℕ) NoMemory). IfOk z (λ r'. r' ≡ text a))
    (sym same) says in
    let db = database catalog old.memory in (
      r_is ∙ sym (ap (λ e. (replied text db e).reply) tells),
      ap (λ (c : Content). database catalog c.memory) left ∙
          sym (ap (λ e. (replied text db e).after) tells),
    )
given_effect text catalog old ran new ends a reply (Err e) tells says same left = tt

-- only rows change, with memory for the reply and without
pub given_shapes : (mark : ℕ) (old ran new : Content) (result : Result (List ℕ) NoMemory) →
    mark ≡ length old.book.entries → Stays old ran
    → OnOk result (new ≡ ran) → OnErr result (IsBackAt mark ran new) →
    KeepsShapes old.memory new.memory
given_shapes mark old ran new (Ok r) at stays left back =
    ap (λ (c : Content). shapes_of c.memory.tables) left ∙ shapes_stay old ran stays
given_shapes mark old ran new (Err e) at stays left back =
    ap shapes_of (tables_back mark old ran new at stays back)

-- only rows change where a statement stops
pub stopped_shapes : (stop : Stop) (mark : ℕ) (old ran new : Content)
    (result : Result (List ℕ) NoMemory) → mark ≡ length old.book.entries → Stays old ran →
    IsStopped stop mark ran new result → KeepsShapes old.memory new.memory
stopped_shapes (Raised area) mark old ran new (Ok r) at stays (says, left) =
    ap (λ (c : Content). shapes_of c.memory.tables) left ∙ shapes_stay old ran stays
stopped_shapes Spent mark old ran new (Ok r) at stays (says, back) =
    ap shapes_of (tables_back mark old ran new at stays back)
stopped_shapes WantOfMemory mark old ran new (Ok r) at stays never = absurd never
stopped_shapes stop mark old ran new (Err e) at stays back =
    ap shapes_of (tables_back mark old ran new at stays back)
