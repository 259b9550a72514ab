-- The items of FROM without faults: what is noted is what they use, and they have plans
-- where each function that is used has one.
use Rattle.std.proofs.Common.{◌≡◌, refl, sym, ap, ap₂, ◌∙◌, ℕ, Bool, true, ◌&&◌, List, [], ◌∷◌}
use Rattle.std.proofs.Common.{◌++◌, append_assoc, map, Option, Some, None}
use Rattle.std.proofs.lemmas.Bool.{and_parts, and_from}
use Rattle.std.proofs.lemmas.List.{append-nil}
use Rattle.syntax_trees.specs.declared.anchor.Ident.{Ident}
use Rattle.row_types.specs.declared.RowType.{RowType}
use Rattle.bound_trees.specs.declared.expr.BoundExpr.{BoundExpr}
use Rattle.bound_trees.specs.declared.query.BoundFromItem.{BoundFromItem}
use Rattle.bound_trees.specs.declared.query.BoundFromItem.TheVariants as item
use Rattle.bound_trees.specs.declared.query.BoundSource.{BoundSource}
use Rattle.bound_trees.specs.declared.query.BoundSource.TheVariants as source
use Rattle.rel_algebra.specs.Tree.{From}
use Rattle.rel_algebra.specs.Plain.{planned_all, planned_from}
use Rattle.catalog_store.specs.Catalog.{Object, TableObject, FunctionObject, InterpretedObject}
use Rattle.catalog_store.specs.Catalog.{ProcedureObject, object_named}
use Rattle.catalog_store.specs.Planning.{AllPlanned}
use Rattle.catalog_store.specs.Uses.{Uses, reads, joined, uses_in_item, uses_in_source}
use Rattle.catalog_store.specs.View.{Joining, after_comma, crossing, matching, matching_or_nulls}
use Rattle.catalog_store.specs.View.{Joined, closed, grown, all_grown, begun, from_of, item_of}
use Rattle.catalog_store.specs.View.{source_of}
use Rattle.catalog_store.proofs.Laws.{uses_in_item-Comma, uses_in_item-Cross, uses_in_item-Inner}
use Rattle.catalog_store.proofs.Laws.{uses_in_item-Left, uses_in_source-Table}
use Rattle.catalog_store.proofs.Laws.{uses_in_source-Derived, item_of-Comma, item_of-Cross}
use Rattle.catalog_store.proofs.Laws.{item_of-Inner, item_of-Left, source_of-Table}
use Rattle.catalog_store.proofs.Laws.{source_of-Derived}
use Rattle.bind_faults.specs.Faults.{Noted, ◌>>=◌}
use Rattle.bind_sight.specs.Sight.{Seen, inside}
use Rattle.bind_parts.specs.declared.from.Opened.{Opened}
use Rattle.bind_parts.specs.declared.typed.TypedSource.{TypedSource}
use Rattle.bind_parts.specs.From.{table_in, table_named, table_source, table_judge, derived_source}
use Rattle.bind_parts.specs.From.{list_faults, repeated_item, with_item, on_level, put_comma}
use Rattle.bind_parts.specs.From.{put_cross}
use Rattle.bind_parts.specs.Turns.{each_noted}
use Rattle.bind_queries.specs.Judges.{Judge, FromJudge, RefJudge, QueryJudge}
use Rattle.bind_queries.specs.From.{on_test, put_inner, put_left}
use Rattle.bind_queries.proofs.Sets.{Names, front_nil, back_nil}
use Rattle.bind_queries.proofs.Marks.{Known, known_in, Mark, nothing, ◌⊕◌, Covers, covers-as}
use Rattle.bind_queries.proofs.Marks.{covers-both, covers-nothing, alike-same, alike-is}
use Rattle.bind_queries.proofs.Marks.{right-nothing, and-assoc, marks}
use Rattle.bind_queries.proofs.Bound.{query-mark}
use Rattle.bind_queries.proofs.Forms.{Fitting, QueryFits}
use Rattle.bind_queries.proofs.Clauses.{test-fits}

-- ---- plans

abbrev planned_joining : Joining → Bool
planned_joining (after_comma f) = planned_from f
planned_joining (crossing f) = planned_from f
planned_joining (matching f on) = planned_from f && planned_all on
planned_joining (matching_or_nulls f on) = planned_from f && planned_all on

abbrev pub all_planned : List Joining → Bool
all_planned [] = true
all_planned (i ∷ is) = planned_joining i && all_planned is

abbrev PlannedBefore : Option From → Type 0
PlannedBefore None = Unit {0}
PlannedBefore (Some f) = planned_from f ≡ true

abbrev PlannedSoFar : Option From → From → Type 0
PlannedSoFar before current = PlannedBefore before × (planned_from current ≡ true)

closed-planned : (before : Option From) (current : From) → PlannedSoFar before current →
    planned_from (closed (record { before = before; current = current })) ≡ true
closed-planned None current p = p.1
closed-planned (Some before) current p = and_from (planned_from before) (planned_from current) p.0
    p.1

grown-planned : (j : Joined) (i : Joining) → PlannedSoFar j.before j.current →
    planned_joining i ≡ true → PlannedSoFar (grown j i).before (grown j i).current
grown-planned j (after_comma f) p q = (closed-planned j.before j.current p, q)
grown-planned j (crossing f) p q = (p.0, and_from (planned_from j.current) (planned_from f) p.1 q)
grown-planned j (matching f on) p q = (
  p.0,
  and_from (planned_from j.current)
      (planned_from f && planned_all on) p.1 q,
)
grown-planned j (matching_or_nulls f on) p q =
    (p.0, and_from (planned_from j.current) (planned_from f && planned_all on) p.1 q)

all-planned : (j : Joined) (is : List Joining) → PlannedSoFar j.before j.current →
    all_planned is ≡ true → PlannedSoFar (all_grown j is).before (all_grown j is).current
all-planned j [] p q = p
all-planned j (i ∷ is) p q =
    let both = and_parts (planned_joining i) (all_planned is) q in
    all-planned (grown j i) is (grown-planned j i p both.0) both.1

begun-planned : (i : Joining) → planned_joining i ≡ true →
    PlannedSoFar (begun i).before (begun i).current
begun-planned (after_comma f) q = (tt, q)
begun-planned (crossing f) q = (tt, q)
begun-planned (matching f on) q = (tt, (and_parts (planned_from f) (planned_all on) q).0)
begun-planned (matching_or_nulls f on) q = (tt, (and_parts (planned_from f) (planned_all on) q).0)

pub from-planned : (is : List Joining) → all_planned is ≡ true → planned_from (from_of is) ≡ true
from-planned [] q = refl
from-planned (i ∷ is) q =
    let both = and_parts (planned_joining i) (all_planned is) q in
    let j = all_grown (begun i) is in
    closed-planned j.before j.current (all-planned (begun i) is (begun-planned i both.0) both.1)

module _ (known : Known) (planned : AllPlanned known.catalog) where
  -- ---- marks

  abbrev pub source-mark : BoundSource → Mark
  source-mark s = record {
    uses = uses_in_source s;
    planned =
        planned_from (source_of known.catalog s);
  }

  abbrev pub item-mark : BoundFromItem → Mark
  item-mark i = record {
    uses = uses_in_item i;
    planned =
        planned_joining (item_of known.catalog i);
  }

  abbrev pub item-marks : List BoundFromItem → Mark
  item-marks is = record {
    uses = joined (map uses_in_item is);
    planned =
        all_planned (map (item_of known.catalog) is);
  }

  abbrev made : Uses → Bool → Mark
  made us b = record { uses = us; planned = b }

  items-append : (xs ys : List BoundFromItem) →
      item-marks (xs ++ ys) ≡ (item-marks xs ⊕ item-marks ys)
  items-append [] ys = refl
  items-append (x ∷ xs) ys =
      ap (λ m. item-mark x ⊕ m) (items-append xs ys)
      ∙ ap₂ made (sym (append_assoc (uses_in_item x) (item-marks xs).uses (item-marks ys).uses))
      (and-assoc known (item-mark x).planned (item-marks xs).planned (item-marks ys).planned)

  one-item : (u : Names) (i : BoundFromItem) → Covers known u (item-mark i) →
      Covers known u (item-marks (i ∷ []))
  one-item u i c = covers-as known u (item-mark i) (item-marks (i ∷ [])) c
      (alike-is known (item-mark i) (item-marks (i ∷ [])) (right-nothing known (item-mark i)))

  -- ---- tables and derived tables

  abbrev pub RefFits : RefJudge → Type 0
  RefFits j = (s : Seen) → known_in s ≡ known → (j s).faults ≡ [] →
      Covers known (j s).uses (source-mark (j s).value.source)

  stands : (name : List ℕ) (t : RowType) (o : Option Object) → object_named name known.catalog ≡ o →
      table_in o ≡ Some t → object_named name known.catalog ≡ Some (TableObject t)
  stands name t None is p = absurd cc
  stands name t (Some (FunctionObject f)) is p = absurd cc
  stands name t (Some (InterpretedObject f)) is p = absurd cc
  stands name t (Some (ProcedureObject r)) is p = absurd cc
  stands name t (Some (TableObject r)) is p = let same : r ≡ t = cc in is ∙
      ap (λ z. Some (TableObject z)) same

  known-table : (i : Ident) (alias : Option Ident) (t : Option RowType) →
      table_named i.name known.catalog ≡ t → (table_source i alias t).faults ≡ []
      → Covers known (table_source i alias t).uses
      (source-mark (table_source i alias t).value.source)
  known-table i alias None is e = absurd cc
  known-table i alias (Some t) is e =
      let read = made (reads i.name ∷ []) true in
      covers-as known (i.name ∷ []) read (source-mark (source.Table i.name)) (
        (
          record {
            row_type = t;
            stands = stands i.name t (object_named i.name known.catalog) refl is;
          },
          tt,
        ),
        λ may. refl,
        λ name. refl,
      )
      (alike-same known read (source-mark (source.Table i.name)) (uses_in_source-Table i.name)
      (λ q. ap planned_from (source_of-Table known.catalog i.name)))

  pub table-fits : (i : Ident) (alias : Option Ident) → RefFits (table_judge i alias)
  table-fits i alias s is e = known-table i alias (table_named i.name s.catalog)
      (sym (ap (λ (k : Known). table_named i.name k.catalog) is)) e

  pub derived-fits : (query : QueryJudge) (i : Ident) (columns : List Ident) →
      QueryFits known planned query → RefFits (λ s. query [] s >>= derived_source i columns)
  derived-fits query i columns f s is e =
      let q = query [] s in
      let asked = list_faults i.anchor columns q.value.columns ++ [] in
      let c = f [] s is (front_nil q.faults asked e) in
      let whole = source-mark (source.Derived q.value.tree) in
      covers-as known (q.uses ++ []) (query-mark known q.value.tree ⊕ nothing) whole
      (covers-both known q.uses [] (query-mark known q.value.tree) nothing c
      (covers-nothing known))
      (alike-same known (query-mark known q.value.tree ⊕ nothing) whole
      (uses_in_source-Derived q.value.tree ∙
      sym (append-nil (query-mark known q.value.tree).uses))
      (λ p. ap planned_from (source_of-Derived known.catalog q.value.tree) ∙
      (and_parts (query-mark known q.value.tree).planned true p).0))

  -- ---- items

  abbrev pub Opens : Opened → Opened → Names → Type 0
  Opens so more u = (items : List BoundFromItem) × Covers known u (item-marks items) ×
      (more.from ≡ so.from ++ items)

  abbrev pub FromFits : FromJudge → Type 0
  FromFits j = (s : Seen) (so : Opened) → known_in s ≡ known → (j s so).faults ≡ [] →
      Opens so (j s so).value (j s so).uses

  abbrev plain-item : BoundSource → Mark
  plain-item s = source-mark s ⊕ nothing

  put-plain : (table : Noted TypedSource) (i : BoundFromItem) →
      Covers known table.uses (source-mark table.value.source) →
      uses_in_item i ≡ uses_in_source table.value.source
      → (planned_from (source_of known.catalog table.value.source) ≡ true →
      planned_joining (item_of known.catalog i) ≡ true) →
      Covers known (table.uses ++ []) (item-marks (i ∷ []))
  put-plain table i c us ps =
      let m = source-mark table.value.source in
      one-item (table.uses ++ []) i
      (covers-as known (table.uses ++ []) (m ⊕ nothing) (item-mark i)
      (covers-both known table.uses [] m nothing c (covers-nothing known))
      (alike-same known (m ⊕ nothing) (item-mark i) (us ∙ sym (append-nil m.uses))
      (λ p. ps (and_parts m.planned true p).0)))

  pub comma-fits : (table : RefJudge) → RefFits table → FromFits (λ s so. table s >>= put_comma so)
  comma-fits table f s so is e =
      let t = table s in
      let i = item.Comma t.value.source in (
        i ∷ [],
        put-plain t i (f s is (front_nil t.faults (put_comma so t.value).faults e))
            (uses_in_item-Comma t.value.source)
            (λ p. ap planned_joining (item_of-Comma known.catalog t.value.source) ∙ p),
        refl,
      )

  pub cross-fits : (table : RefJudge) → RefFits table → FromFits (λ s so. table s >>= put_cross so)
  cross-fits table f s so is e =
      let t = table s in
      let i = item.Cross t.value.source in (
        i ∷ [],
        put-plain t i (f s is (front_nil t.faults (put_cross so t.value).faults e))
            (uses_in_item-Cross t.value.source)
            (λ p. ap planned_joining (item_of-Cross known.catalog t.value.source) ∙ p),
        refl,
      )

  put-on : (table : Noted TypedSource) (on : Noted (List BoundExpr)) (i : BoundFromItem) →
      Covers known table.uses (source-mark table.value.source) →
      Covers known on.uses (marks known on.value)
      → uses_in_item i ≡ (source-mark table.value.source ⊕ marks known on.value).uses →
      ((source-mark table.value.source ⊕ marks known on.value).planned ≡ true →
      planned_joining (item_of known.catalog i) ≡ true)
      → Covers known (table.uses ++ on.uses) (item-marks (i ∷ []))
  put-on table on i c d us ps =
      let m = source-mark table.value.source in
      one-item (table.uses ++ on.uses) i
      (covers-as known (table.uses ++ on.uses) (m ⊕ marks known on.value) (item-mark i)
      (covers-both known table.uses on.uses m (marks known on.value) c d)
      (alike-same known (m ⊕ marks known on.value) (item-mark i) us ps))

  pub inner-fits : (table : RefJudge) (j : Judge) → RefFits table → Fitting known planned j →
      FromFits (λ s so. table s >>= put_inner j s so)
  inner-fits table j f g s so is e =
      let t = table s in
      let on = on_test j s (with_item so t.value) in
      let asked = back_nil t.faults (repeated_item t.value so.items ++ on.faults) e in
      let i = item.Inner t.value.source on.value in (
        i ∷ [],
        put-on t on i (f s is (front_nil t.faults (repeated_item t.value so.items ++ on.faults) e))
            (test-fits known planned j (inside (on_level (with_item so t.value)) s) refl g is
            (back_nil (repeated_item t.value so.items) on.faults asked))
            (uses_in_item-Inner t.value.source on.value)
            (λ p. ap planned_joining (item_of-Inner known.catalog t.value.source on.value) ∙ p),
        refl,
      )

  pub left-fits : (table : RefJudge) (j : Judge) → RefFits table → Fitting known planned j →
      FromFits (λ s so. table s >>= put_left j s so)
  left-fits table j f g s so is e =
      let t = table s in
      let on = on_test j s (with_item so t.value) in
      let asked = back_nil t.faults (repeated_item t.value so.items ++ on.faults) e in
      let i = item.Left t.value.source on.value in (
        i ∷ [],
        put-on t on i (f s is (front_nil t.faults (repeated_item t.value so.items ++ on.faults) e))
            (test-fits known planned j (inside (on_level (with_item so t.value)) s) refl g is
            (back_nil (repeated_item t.value so.items) on.faults asked))
            (uses_in_item-Left t.value.source on.value)
            (λ p. ap planned_joining (item_of-Left known.catalog t.value.source on.value) ∙ p),
        refl,
      )

  abbrev pub AllFrom : List FromJudge → Type 0
  AllFrom [] = Unit {0}
  AllFrom (j ∷ js) = FromFits j × AllFrom js

  pub opened-fit : (js : List FromJudge) (s : Seen) (so : Opened) → AllFrom js →
      known_in s ≡ known → (each_noted (λ o (j : FromJudge). j s o) so js).faults ≡ []
      → Opens so (each_noted (λ o (j : FromJudge). j s o) so js).value
      (each_noted (λ o (j : FromJudge). j s o) so js).uses
  opened-fit [] s so fs is e = ([], covers-nothing known, sym (append-nil so.from))
  opened-fit (j ∷ js) s so fs is e =
      let first = j s so in
      let rest = each_noted (λ o (k : FromJudge). k s o) first.value js in
      let one = fs.0 s so is (front_nil first.faults rest.faults e) in
      let more = opened-fit js s first.value fs.1 is (back_nil first.faults rest.faults e) in (
        one.0 ++ more.0,
        covers-as known (first.uses ++ rest.uses) (item-marks one.0 ⊕ item-marks more.0)
            (item-marks (one.0 ++ more.0)) (covers-both known first.uses rest.uses
            (item-marks one.0) (item-marks more.0) one.1 more.1)
            (alike-is known (item-marks one.0 ⊕ item-marks more.0) (item-marks (one.0 ++ more.0))
            (items-append one.0 more.0)),
        more.2 ∙ ap (λ z. z ++ more.0) one.2 ∙ append_assoc so.from one.0 more.0,
      )
