-- What holds of the plans of blocks as one more is put to them and as one is looked up.
use Rattle.std.proofs.Common.{◌≡◌, ℕ, Bool, true, false, cond, List, [], ◌∷◌, length, ◌&&◌, ◌||◌}
use Rattle.std.proofs.Common.{Option, None, Some, refl, sym, ap, subst, ◌∙◌, if◌then◌else◌}
use Rattle.std.specs.Prelude.{nat_eq, MatchOption}
use Rattle.std.specs.Borrow.{Bor}
use Rattle.std.specs.List.{list_any}
use Rattle.std.specs.Map.{lookup}
use Rattle.std.specs.Str.{bytes_eq}
use Rattle.std.proofs.lemmas.Bool.{eq-eqb, ne_eqb}
use Rattle.std.proofs.lemmas.Slice.Eq.{bytes_eq-Decides}
use Rattle.indexmap.specs.IndexMap.{insert_entry}
use Rattle.rel_algebra.specs.Emit.{Emitted, emit_body, top}
use Rattle.rel_algebra.specs.Plain.{as_many, planned_routine}
use Rattle.rel_algebra.specs.Tree.{Returned, Routine, parameters_of}
use Rattle.catalog_store.specs.Catalog.{Catalog, routine_named}
use Rattle.catalog_store.specs.Kept.{HasPlan}
use Rattle.catalog_store.specs.Widths.{width_in}
use Rattle.routine_views.specs.Routines.{routines_of}
use Rattle.block_plans.specs.Callees.{Callees, callee, is_block}
use Rattle.block_plans.specs.Blocks.{IsBlock, AreBlocks, IsRun, names_of, with_name}
use Rattle.block_plans.specs.declared.blocks.BlockPlan.{BlockPlan}

-- ---- one more

-- a block more, or another plan of one that is there
pub one_more : (known : Catalog) (bs : List (List ℕ × BlockPlan)) (name : List ℕ)
    (b : BlockPlan) → IsBlock known name b → AreBlocks known bs →
    AreBlocks known (insert_entry bytes_eq bs name b)
one_more known [] name b one h = (one, tt)
one_more known (x ∷ bs) name b one h =
    by (bytes_eq name x.0) refl (one_more known bs name b one h.1)
  where
    by : (t : Bool) → bytes_eq name x.0 ≡ t →
        AreBlocks known (insert_entry bytes_eq bs name b) → AreBlocks known
        (if t then (x.0, b) ∷ bs else x ∷ insert_entry bytes_eq bs name b)
    by true q rest =
        (subst (λ (n : List ℕ). IsBlock known n b) ((bytes_eq-Decides name x.0).0 q) one, h.1)
    by false q rest = (h.0, rest)

pub names_more : (bs : List (List ℕ × BlockPlan)) (name : List ℕ) (b : BlockPlan) →
    names_of (insert_entry bytes_eq bs name b) ≡ with_name name (names_of bs)
names_more [] name b = refl
names_more (x ∷ bs) name b = by (bytes_eq name x.0) (names_more bs name b)
  where
    by : (t : Bool) → names_of (insert_entry bytes_eq bs name b) ≡ with_name name (names_of bs) →
        names_of (if t then (x.0, b) ∷ bs else x ∷ insert_entry bytes_eq bs name b)
        ≡ (if t then x.0 ∷ names_of bs else x.0 ∷ with_name name (names_of bs))
    by true rest = refl
    by false rest = ap (λ (ns : List (List ℕ)). x.0 ∷ ns) rest

-- ---- one that is looked up

found : (known : Catalog) (bs : List (List ℕ × BlockPlan)) (name : List ℕ) (b : BlockPlan) →
    AreBlocks known bs → lookup (bytes_eq name) bs ≡ Some b →
    IsBlock known name b × (list_any (bytes_eq name) (names_of bs) ≡ true)
found known [] name b h e = absurd (let never = e in cc)
found known (x ∷ bs) name b h e = by (bytes_eq name x.0) refl (found known bs name b h.1) e
  where
    by : (t : Bool) → bytes_eq name x.0 ≡ t →
        (lookup (bytes_eq name) bs ≡ Some b →
        IsBlock known name b × (list_any (bytes_eq name) (names_of bs) ≡ true)) →
        cond t (Some x.1) (lookup (bytes_eq name) bs) ≡ Some b →
        IsBlock known name b × ((t || list_any (bytes_eq name) (names_of bs)) ≡ true)
    by true q rest g =
        let same : x.1 ≡ b = let given = g in cc in (
          subst (λ (n : List ℕ). IsBlock known n b) (sym ((bytes_eq-Decides name x.0).0 q))
              (subst (IsBlock known x.0) same h.0),
          refl,
        )
    by false q rest g = rest g

missed : (bs : List (List ℕ × BlockPlan)) (name : List ℕ) →
    lookup (bytes_eq name) bs ≡ None → list_any (bytes_eq name) (names_of bs) ≡ false
missed [] name e = refl
missed (x ∷ bs) name e = by (bytes_eq name x.0) (missed bs name) e
  where
    by : (t : Bool) →
        (lookup (bytes_eq name) bs ≡ None → list_any (bytes_eq name) (names_of bs) ≡ false) →
        cond t (Some x.1) (lookup (bytes_eq name) bs) ≡ None →
        (t || list_any (bytes_eq name) (names_of bs)) ≡ false
    by true rest g = absurd (let never = g in cc)
    by false rest g = rest g

-- ---- what a call runs

-- of blocks in a catalog
abbrev pub seen_by : Catalog → List (List ℕ × BlockPlan) → Callees
seen_by known bs = record { known = known; blocks = names_of bs }

run_is : (known : Catalog) (bs : List (List ℕ × BlockPlan)) (name : List ℕ) (n : ℕ)
    (b c : Bool) → list_any (bytes_eq name) (names_of bs) ≡ b →
    nat_eq n (length (parameters_of (routines_of known name))) ≡ c →
    callee (seen_by known bs) name n
    ≡ (if b && c then routines_of known name else routine_named name known)
run_is known bs name n b c p q = λ i.
    if p i && q i then routines_of known name else routine_named name known

pub none_run : (known : Catalog) (bs : List (List ℕ × BlockPlan)) (name : List ℕ) (n : ℕ) →
    lookup (bytes_eq name) bs ≡ None →
    callee (seen_by known bs) name n ≡ routine_named name known
none_run known bs name n e = run_is known bs name n false _ (missed bs name e) refl

pub other_run : (known : Catalog) (bs : List (List ℕ × BlockPlan)) (name : List ℕ) (n : ℕ)
    (b : BlockPlan) → AreBlocks known bs → lookup (bytes_eq name) bs ≡ Some b →
    ¬ (length b.parameters ≡ n) → callee (seen_by known bs) name n ≡ routine_named name known
other_run known bs name n b h e other =
    let there = found known bs name b h e in
    run_is known bs name n true false there.1
    (ne_eqb n (length (parameters_of (routines_of known name)))
    (λ q. other (ap length there.0.parameters ∙ sym q)))

-- so many values are as many as a routine of so many parameters takes
taken : (r : Routine) (n : ℕ) → nat_eq n (length (parameters_of r)) ≡ true → as_many r n ≡ true
taken (Returned types returns x) n h = refl
taken _ n h = h

pub block_run : (known : Catalog) (bs : List (List ℕ × BlockPlan)) (name : List ℕ) (n : ℕ)
    (b : BlockPlan) → AreBlocks known bs → lookup (bytes_eq name) bs ≡ Some b →
    length b.parameters ≡ n → IsRun (seen_by known bs) name n b
block_run known bs name n b h e many =
    let there = found known bs name b h e in
    let runs : callee (seen_by known bs) name n ≡ routines_of known name =
    run_is known bs name n true true there.1
    (eq-eqb n (length (parameters_of (routines_of known name)))
    (sym many ∙ ap length there.0.parameters)) in
    record {
      planned = ap planned_routine runs ∙ there.0.planned;
      takes =
          ap (λ (r : Routine). as_many r n) runs
          ∙ taken (routines_of known name) n
          (eq-eqb n (length (parameters_of (routines_of known name)))
          (sym many ∙ ap length there.0.parameters));
      parameters = there.0.parameters ∙ ap parameters_of (sym runs);
      plan = subst (HasPlan b.plan)
          (λ i. emit_body (sym runs i) (width_in known) (top (many i)) 0) there.0.plan;
    }

-- by how many parameters one has that is there
pub by_count : (r : Option (Bor BlockPlan)) (x : BlockPlan) (n : ℕ) (P : Type 0)
    (Q : BlockPlan → Type 0) →
    MatchOption r (¬ (length x.parameters ≡ n))
    (λ b. (b.now ≡ x) × (length x.parameters ≡ n)) →
    (¬ (length x.parameters ≡ n) → P) → (length x.parameters ≡ n → Q x) →
    MatchOption r P (λ b. Q b.now)
by_count None x n P Q h f g = f h
by_count (Some b) x n P Q h f g = subst Q (sym h.0) (g h.1)
