-- Clauses of queries without faults: what is noted is what they use, and they have plans
-- where each function that is used has one.
use Rattle.std.proofs.Common.{◌≡◌, refl, sym, ap, ap₂, ◌∙◌, ◌-◌, false, List, [], ◌∷◌, ◌++◌}
use Rattle.std.proofs.Common.{append_assoc, Option, Some, None}
use Rattle.std.proofs.lemmas.List.{append-nil}
use Rattle.syntax_trees.specs.Columns.{anchor_of_column}
use Rattle.syntax_trees.specs.declared.anchor.Anchor.{Anchor}
use Rattle.syntax_trees.specs.declared.anchor.ColumnName.{ColumnName}
use Rattle.syntax_trees.specs.declared.anchor.Ident.{Ident}
use Rattle.bound_trees.specs.declared.expr.BoundExpr.{BoundExpr}
use Rattle.catalog_store.specs.Planning.{AllPlanned}
use Rattle.bind_kinds.specs.declared.kind.Kind.TheVariants.{Boolean}
use Rattle.bind_kinds.specs.Kinds.{misfit}
use Rattle.bind_kinds.specs.Conjuncts.{conjuncts_of}
use Rattle.bind_sight.specs.declared.item.Item.{Item}
use Rattle.bind_sight.specs.declared.output.Output.{Output}
use Rattle.bind_sight.specs.Sight.{Level, Seen, may_stand, stands_for, column_of}
use Rattle.bind_parts.specs.declared.aggregates.Parts.{Parts}
use Rattle.bind_parts.specs.declared.grouping.Grouping.{Grouping}
use Rattle.bind_parts.specs.declared.list.Outputs.{Outputs}
use Rattle.bind_parts.specs.Typed.{no_parts, named}
use Rattle.bind_parts.specs.Lists.{Placed, placed, star, star_items, star_item, star_column}
use Rattle.bind_parts.specs.Grouping.{one_key}
use Rattle.bind_parts.specs.Turns.{each_noted}
use Rattle.bind_queries.specs.Judges.{Expression, JudgedItem, Judge, look}
use Rattle.bind_queries.specs.Lists.{all_item, value_item, tested, judged_test, judged_filter}
use Rattle.bind_queries.specs.Lists.{judged_having}
use Rattle.bind_queries.proofs.Sets.{Names, front_nil, back_nil}
use Rattle.bind_queries.proofs.Marks.{Known, known_in, Mark, ◌⊕◌, Covers, covers-as, covers-both}
use Rattle.bind_queries.proofs.Marks.{covers-nothing, between, Grows, grows-nothing, grows-as}
use Rattle.bind_queries.proofs.Marks.{grown-alone, marks-one, marks-append, mark, marks, alike-is}
use Rattle.bind_queries.proofs.Marks.{alike-then}
use Rattle.bind_queries.proofs.Conjuncts.{alike-conjuncts}
use Rattle.bind_queries.proofs.Forms.{Fitting, named-covers}

module _ (known : Known) (planned : AllPlanned known.catalog) where
  -- ---- output columns

  -- after the parts and the output columns there are others, which are covered; where no aggregate
  -- may stand there are no other parts
  abbrev pub Lists : Seen → Outputs → Outputs → Names → Type 0
  Lists s so more u =
      (added : List BoundExpr) × (trees : List BoundExpr) ×
      (more.parts.trees ≡ so.parts.trees ++ added) × (more.trees ≡ so.trees ++ trees)
      × Covers known u (marks known added ⊕ marks known trees) ×
      (may_stand s.levels ≡ false → added ≡ [])

  lists-nothing : (s : Seen) (so : Outputs) → Lists s so so []
  lists-nothing s so = (
    [],
    [],
    sym (append-nil so.parts.trees),
    sym (append-nil so.trees),
    covers-nothing known,
    λ m. refl,
  )

  lists-then : (s : Seen) (a b c : Outputs) (u v : Names) → Lists s a b u → Lists s b c v →
      Lists s a c (u ++ v)
  lists-then s a b c u v p q = (
    p.0 ++ q.0,
    p.1 ++ q.1,
    q.2 ∙ ap (λ z. z ++ q.0) p.2 ∙ append_assoc a.parts.trees p.0 q.0,
    q.3 ∙ ap (λ z. z ++ q.1) p.3 ∙ append_assoc a.trees p.1 q.1,
    covers-as known (u ++ v) ((M p.0 ⊕ M p.1) ⊕ (M q.0 ⊕ M q.1)) (M (p.0 ++ q.0) ⊕ M (p.1 ++ q.1))
        (covers-both known u v (M p.0 ⊕ M p.1) (M q.0 ⊕ M q.1) p.4 q.4)
        (alike-then known ((M p.0 ⊕ M p.1) ⊕ (M q.0 ⊕ M q.1)) ((M p.0 ⊕ M q.0) ⊕ (M p.1 ⊕ M q.1))
        (M (p.0 ++ q.0) ⊕ M (p.1 ++ q.1)) (between known (M p.0) (M p.1) (M q.0) (M q.1))
        (alike-is known ((M p.0 ⊕ M q.0) ⊕ (M p.1 ⊕ M q.1)) (M (p.0 ++ q.0) ⊕ M (p.1 ++ q.1))
        (ap₂ (λ (x y : Mark). x ⊕ y) (marks-append known p.0 q.0)
        (marks-append known p.1 q.1)))),
    λ m. ap₂ (λ (x y : List BoundExpr). x ++ y) (p.5 m) (q.5 m),
  )
    where
      M : List BoundExpr → Mark
      M es = marks known es

  -- ---- `*`

  column-lists : (s : Seen) (at : Anchor) (l : Level) (so : Placed) (c : Output) →
      (star_column at l so c).faults ≡ []
      → Lists s so.outputs (star_column at l so c).value.outputs (star_column at l so c).uses
  column-lists s at l so c e =
      let found = column_of 0 so.place c.kind l.grouped l.keys in
      let t = named at found in (
        [],
        t.value.tree ∷ [],
        sym (append-nil so.outputs.parts.trees),
        refl,
        covers-as known t.uses (mark known t.value.tree) (marks known (t.value.tree ∷ []))
            (named-covers known planned at found e)
            (alike-is known (mark known t.value.tree) (marks known (t.value.tree ∷ []))
            (marks-one known t.value.tree)),
        λ m. refl,
      )

  columns-list : (s : Seen) (at : Anchor) (l : Level) (so : Placed) (cs : List Output) →
      (each_noted (star_column at l) so cs).faults ≡ []
      → Lists s so.outputs (each_noted (star_column at l) so cs).value.outputs
      (each_noted (star_column at l) so cs).uses
  columns-list s at l so [] e = lists-nothing s so.outputs
  columns-list s at l so (c ∷ cs) e =
      let first = star_column at l so c in
      let rest = each_noted (star_column at l) first.value cs in
      lists-then s so.outputs first.value.outputs rest.value.outputs first.uses rest.uses
      (column-lists s at l so c (front_nil first.faults rest.faults e))
      (columns-list s at l first.value cs (back_nil first.faults rest.faults e))

  items-list : (s : Seen) (at : Anchor) (l : Level) (so : Outputs) (is : List Item) →
      (star_items at l so is).faults ≡ [] → Lists s so (star_items at l so is).value
      (star_items at l so is).uses
  items-list s at l so [] e = lists-nothing s so
  items-list s at l so (i ∷ is) e =
      let first = star_item at l so i in
      let rest = star_items at l first.value is in
      lists-then s so first.value rest.value first.uses rest.uses
      (columns-list s at l (placed (i.first - l.base) so) i.columns
      (front_nil first.faults rest.faults e))
      (items-list s at l first.value is (back_nil first.faults rest.faults e))

  star-lists : (s : Seen) (at : Anchor) (ls : List Level) (so : Outputs) →
      (star at ls so).faults ≡ [] → Lists s so (star at ls so).value (star at ls so).uses
  star-lists s at [] so e = lists-nothing s so
  star-lists s at (l ∷ ls) so e = items-list s at l so l.items e

  -- ---- select lists

  abbrev pub ItemFits : JudgedItem → Type 0
  ItemFits i = (s : Seen) (so : Outputs) → known_in s ≡ known → (i.judge s so).faults ≡ [] →
      Lists s so (i.judge s so).value (i.judge s so).uses

  pub all-fits : (at : Anchor) (s : Seen) (so : Outputs) → known_in s ≡ known →
      (all_item at s so).faults ≡ [] → Lists s so (all_item at s so).value (all_item at s so).uses
  all-fits at s so is e = star-lists s at s.levels so e

  pub value-fits : (x : Expression) (alias : Option Ident) (s : Seen) (so : Outputs) →
      Fitting known planned x.judge → known_in s ≡ known → (value_item x alias s so).faults ≡ []
      → Lists s so (value_item x alias s so).value (value_item x alias s so).uses
  value-fits x alias s so f is e =
      let g = f s so.parts is e in
      let t = x.judge s so.parts in
      let tree = t.value.value.tree in (
        g.0,
        tree ∷ [],
        g.1,
        refl,
        covers-as known t.uses (marks known g.0 ⊕ mark known tree)
            (marks known g.0 ⊕ marks known (tree ∷ [])) g.2
            (alike-is known (marks known g.0 ⊕ mark known tree)
            (marks known g.0 ⊕ marks known (tree ∷ []))
            (ap (λ m. marks known g.0 ⊕ m) (marks-one known tree))),
        g.3,
      )

  abbrev pub AllItems : List JudgedItem → Type 0
  AllItems [] = Unit {0}
  AllItems (i ∷ is) = ItemFits i × AllItems is

  pub items-fit : (is : List JudgedItem) (s : Seen) (so : Outputs) → AllItems is →
      known_in s ≡ known → (each_noted (λ o (i : JudgedItem). i.judge s o) so is).faults ≡ []
      → Lists s so (each_noted (λ o (i : JudgedItem). i.judge s o) so is).value
      (each_noted (λ o (i : JudgedItem). i.judge s o) so is).uses
  items-fit [] s so fs c e = lists-nothing s so
  items-fit (i ∷ is) s so fs c e =
      let first = i.judge s so in
      let rest = each_noted (λ o (j : JudgedItem). j.judge s o) first.value is in
      lists-then s so first.value rest.value first.uses rest.uses
      (fs.0 s so c (front_nil first.faults rest.faults e))
      (items-fit is s first.value fs.1 c (back_nil first.faults rest.faults e))

  -- ---- tests

  pub tested-fits : (j : Judge) (s : Seen) (p : Parts) → Fitting known planned j →
      known_in s ≡ known → (tested (look j s p)).faults ≡ []
      → Grows known s p (tested (look j s p)).value.parts (tested (look j s p)).uses
      (marks known (tested (look j s p)).value.value)
  tested-fits j s p f is e =
      let t = j s p in
      let tree = t.value.value.tree in
      grows-as known s p t.value.parts t.uses (mark known tree) (marks known (conjuncts_of tree))
      (f s p is (front_nil t.faults (misfit Boolean (look j s p).value.value.head) e))
      (alike-conjuncts known tree)

  -- where no aggregate may stand
  pub test-fits : (j : Judge) (s : Seen) → may_stand s.levels ≡ false → Fitting known planned j →
      known_in s ≡ known → (judged_test j s).faults ≡ []
      → Covers known (judged_test j s).uses (marks known (judged_test j s).value)
  test-fits j s m f is e =
      let t = tested (look j s no_parts) in
      grown-alone known s no_parts t.value.parts t.uses (marks known t.value.value) m
      (tested-fits j s no_parts f is e)

  abbrev pub MaybeFits : Option Expression → Type 0
  MaybeFits None = Unit {0}
  MaybeFits (Some x) = Fitting known planned x.judge

  pub filter-fits : (filter : Option Expression) (s : Seen) → may_stand s.levels ≡ false →
      MaybeFits filter → known_in s ≡ known → (judged_filter filter s).faults ≡ []
      → Covers known (judged_filter filter s).uses (marks known (judged_filter filter s).value)
  filter-fits None s m f is e = covers-nothing known
  filter-fits (Some x) s m f is e = test-fits x.judge s m f is e

  pub having-fits : (having : Option Expression) (s : Seen) (p : Parts) → MaybeFits having →
      known_in s ≡ known → (judged_having having s p).faults ≡ []
      → Grows known s p (judged_having having s p).value.parts (judged_having having s p).uses
      (marks known (judged_having having s p).value.value)
  having-fits None s p f is e = grows-nothing known s p [] (marks known []) (covers-nothing known)
  having-fits (Some x) s p f is e = tested-fits x.judge s p f is e

  -- ---- grouping columns

  pub keys-fit : (cs : List ColumnName) (s : Seen) (so : Grouping) →
      (each_noted (one_key s) so cs).faults ≡ []
      → (added : List BoundExpr) × Covers known (each_noted (one_key s) so cs).uses
      (marks known added) × ((each_noted (one_key s) so cs).value.trees ≡ so.trees ++ added)
  keys-fit [] s so e = ([], covers-nothing known, sym (append-nil so.trees))
  keys-fit (c ∷ cs) s so e =
      let first = one_key s so c in
      let rest = each_noted (one_key s) first.value cs in
      let t = named (anchor_of_column c) (stands_for c s) in
      let one = named-covers known planned (anchor_of_column c) (stands_for c s)
      (front_nil first.faults rest.faults e) in
      let more = keys-fit cs s first.value (back_nil first.faults rest.faults e) in (
        t.value.tree ∷ more.0,
        covers-both known t.uses rest.uses (mark known t.value.tree) (marks known more.0) one
            more.1,
        more.2 ∙ append_assoc so.trees (t.value.tree ∷ []) more.0,
      )
