-- `*` in a select list.
use Rattle.std.proofs.Common.{◌≡◌, refl, sym, ap, subst, ◌∙◌, ℕ, ◌+◌, ◌-◌, List, [], ◌∷◌, ◌++◌, map}
use Rattle.std.proofs.Common.{slice_get, Option, Some, append-nil, append_assoc}
use Rattle.std.proofs.lemmas.List.{map-append, map_push}
use Rattle.syntax_trees.specs.declared.anchor.Anchor.{Anchor}
use Rattle.bound_trees.specs.declared.expr.BoundExpr.{BoundExpr}
use Rattle.bind_kinds.specs.declared.kind.OperandHead.{OperandHead}
use Rattle.bind_kinds.specs.declared.kind.Kind.{Kind}
use Rattle.bind_sight.specs.declared.item.Item.{Item}
use Rattle.bind_sight.specs.declared.output.Output.{Output}
use Rattle.bind_sight.specs.declared.sight.Referent.{Referent}
use Rattle.bind_sight.specs.Sight.{Level, Seen, column_of}
use Rattle.bind_parts.specs.declared.list.Outputs.{Outputs}
use Rattle.bind_parts.specs.declared.typed.Typed.{Typed}
use Rattle.bind_parts.specs.Lists.{star, star_items, star_item, star_column, Placed, placed}
use Rattle.bind_parts.specs.Turns.{each_noted}
use Rattle.bind_parts.specs.Typed.{named}
use Rattle.typing_trees.specs.Around.{Around}
use Rattle.typing_trees.specs.Queries.{kind_of, kinds_of}
use Rattle.typing_queries.proofs.Below.{HasAll}
use Rattle.typing_queries.proofs.Fits.{kinds, front_nil, back_nil}
use Rattle.typing_queries.proofs.Hits.{EachAt, first-at, others-at, one-kind, has_all-append}
use Rattle.typing_queries.proofs.Names.{Stands, found-typed, column-found}
use Rattle.typing_queries.proofs.Sees.{Sees, ItemIn, ItemsIn, LevelsIn}
use Rattle.typing_queries.proofs.Shapes.{IsTyped, kinds_shown}

-- what a list shows are the kinds of its heads
abbrev pub Shown : Outputs → Type 0
Shown so = kinds_shown so.columns ≡ kinds so.heads

-- ---- output columns after others

-- There are more output columns, and the same parts. Each column is typed where the first row is as
-- claimed.
record Longer (Claim : List Kind → Type 0) (so to : Outputs) : Type 0 where
  parts : to.parts ≡ so.parts
  trees : List BoundExpr
  heads : List OperandHead
  after_trees : to.trees ≡ so.trees ++ trees
  after_heads : to.heads ≡ so.heads ++ heads
  shown : Shown so → Shown to
  typed : (a : Around) (row : List Kind) → slice_get a.rows 0 ≡ Some row → Claim row →
      HasAll (kinds_of a (map kind_of trees)) (kinds heads)

no-longer : (Claim : List Kind → Type 0) (so : Outputs) → Longer Claim so so
no-longer Claim so = record {
  parts = refl;
  trees = [];
  heads = [];
  after_trees = sym (append-nil so.trees);
  after_heads = sym (append-nil so.heads);
  shown = λ h. h;
  typed = λ a row at h. ([], refl, tt);
}

longer-then : (Claim First Second : List Kind → Type 0) (so between to : Outputs)
    → ((row : List Kind) → Claim row → First row × Second row) → Longer First so between →
    Longer Second between to → Longer Claim so to
longer-then Claim First Second so between to parts p q = record {
  parts = q.parts ∙ p.parts;
  trees = p.trees ++ q.trees;
  heads = p.heads ++ q.heads;
  after_trees = q.after_trees ∙ ap (λ (ts : List BoundExpr). ts ++ q.trees) p.after_trees ∙
      append_assoc so.trees p.trees q.trees;
  after_heads = q.after_heads ∙ ap (λ (hs : List OperandHead). hs ++ q.heads) p.after_heads ∙
      append_assoc so.heads p.heads q.heads;
  shown = λ h. q.shown (p.shown h);
  typed = λ a row at h.
      let both = parts row h in
      subst (HasAll (kinds_of a (map kind_of (p.trees ++ q.trees))))
      (sym (map-append (λ (x : OperandHead). x.kind) p.heads q.heads))
      (has_all-append a p.trees q.trees (kinds p.heads) (kinds q.heads) (p.typed a row at both.0)
      (q.typed a row at both.1));
}

-- ---- columns of items

shown-push : (cs : List Output) (hs : List OperandHead) (name : Option (List ℕ)) (h : OperandHead) →
    kinds_shown cs ≡ kinds hs → kinds_shown (cs ++ record { name = name; kind = h.kind } ∷ []) ≡
    kinds (hs ++ h ∷ [])
shown-push cs hs name h e =
    map_push (λ (c : Output). c.kind) cs (record { name = name; kind = h.kind }) ∙
    ap (λ (ks : List Kind). ks ++ h.kind ∷ []) e ∙
    sym (map_push (λ (x : OperandHead). x.kind) hs h)

column-longer : (at : Anchor) (l : Level) (so : Placed) (c : Output)
    → (star_column at l so c).faults ≡ [] → Longer
    (λ (row : List Kind). Stands l row so.place c.kind) so.outputs
    (star_column at l so c).value.outputs
column-longer at l so c p =
    let found : Referent = column_of 0 so.place c.kind l.grouped l.keys in
    let t : Typed = (named at (column_of 0 so.place c.kind l.grouped l.keys)).value in
    record {
      parts = refl;
      trees = t.tree ∷ [];
      heads = t.head ∷ [];
      after_trees = refl;
      after_heads = refl;
      shown = shown-push so.outputs.columns so.outputs.heads c.name t.head;
      typed = λ a row at-row h.
          let is : IsTyped t a = found-typed at found a
          (column-found a row 0 so.place c.kind l.grouped l.keys at-row h) p in
          (is.0 ∷ [], one-kind a t.tree is.0 is.1, (is.2, tt));
    }

columns-longer : (at : Anchor) (l : Level) (so : Placed) (cs : List Output) →
    (each_noted (star_column at l) so cs).faults ≡ []
    → Longer (λ (row : List Kind). EachAt (Stands l row) so.place cs) so.outputs
    (each_noted (star_column at l) so cs).value.outputs
columns-longer at l so [] p = no-longer (λ (row : List Kind). EachAt (Stands l row) so.place [])
    so.outputs
columns-longer at l so (c ∷ cs) p =
    let more : Placed = (star_column at l so c).value in
    longer-then (λ (row : List Kind). EachAt (Stands l row) so.place (c ∷ cs))
    (λ (row : List Kind). Stands l row so.place c.kind)
    (λ (row : List Kind). EachAt (Stands l row) (so.place + 1) cs)
    so.outputs more.outputs (each_noted (star_column at l) more cs).value.outputs
    (λ row each. (
      first-at (Stands l row) so.place c cs each,
      others-at (Stands l row) so.place c cs
          each,
    ))
    (column-longer at l so c (front_nil (star_column at l so c).faults
    (each_noted (star_column at l) more cs).faults p))
    (columns-longer at l more cs (back_nil (star_column at l so c).faults
    (each_noted (star_column at l) more cs).faults p))

items-longer : (at : Anchor) (l : Level) (so : Outputs) (is : List Item) →
    (star_items at l so is).faults ≡ [] → Longer (λ (row : List Kind). ItemsIn l row is) so
    (star_items at l so is).value
items-longer at l so [] p = no-longer (λ (row : List Kind). ItemsIn l row []) so
items-longer at l so (i ∷ is) p =
    let more : Outputs = (star_item at l so i).value in
    longer-then (λ (row : List Kind). ItemsIn l row (i ∷ is)) (λ (row : List Kind). ItemIn l row i)
    (λ (row : List Kind). ItemsIn l row is)
    so more (star_items at l more is).value
    (λ row each. (each.0, each.1))
    (columns-longer at l (placed (i.first - l.base) so) i.columns
    (front_nil (star_item at l so i).faults (star_items at l more is).faults p))
    (items-longer at l more is (back_nil (star_item at l so i).faults
    (star_items at l more is).faults p))

-- ---- `*`

innermost : (l : Level) (ls : List Level) (rows : List (List Kind)) → LevelsIn (l ∷ ls) rows →
    (row : List Kind) × (slice_get rows 0 ≡ Some row) × ItemsIn l row l.items
innermost l ls [] h = absurd h
innermost l ls (r ∷ rs) h = (r, refl, h.0)

-- of the innermost query
in-levels : (at : Anchor) (ls : List Level) (so : Outputs) → (star at ls so).faults ≡ []
    → ((star at ls so).value.parts ≡ so.parts)
    × ((trees : List BoundExpr) × (heads : List OperandHead)
    × ((star at ls so).value.trees ≡ so.trees ++ trees)
    × ((star at ls so).value.heads ≡ so.heads ++ heads)
    × (Shown so → Shown (star at ls so).value)
    × ((a : Around) → LevelsIn ls a.rows → HasAll (kinds_of a (map kind_of trees)) (kinds heads)))
in-levels at [] so p = (
  refl,
  (
    [],
    [],
    sym (append-nil so.trees),
    sym (append-nil so.heads),
    λ h. h,
    λ a h.
        ([], refl, tt),
  ),
)
in-levels at (l ∷ ls) so p =
    let m : Longer (λ (row : List Kind). ItemsIn l row l.items) so
    (star_items at l so l.items).value = items-longer at l so l.items p in (
      m.parts,
      (
        m.trees,
        m.heads,
        m.after_trees,
        m.after_heads,
        m.shown,
        λ a h.
            let r = innermost l ls a.rows h in m.typed a r.0 r.1 r.2,
      ),
    )

-- more output columns, of which each is typed; the parts stay
pub star-typed : (at : Anchor) (s : Seen) (so : Outputs) → (star at s.levels so).faults ≡ []
    → ((star at s.levels so).value.parts ≡ so.parts)
    × ((trees : List BoundExpr) × (heads : List OperandHead)
    × ((star at s.levels so).value.trees ≡ so.trees ++ trees)
    × ((star at s.levels so).value.heads ≡ so.heads ++ heads)
    × (Shown so → Shown (star at s.levels so).value)
    × ((a : Around) → Sees s a → HasAll (kinds_of a (map kind_of trees)) (kinds heads)))
star-typed at s so p =
    let m = in-levels at s.levels so p in
    (m.0, (m.1.0, m.1.1, m.1.2, m.1.3, m.1.4, λ a sees. m.1.5 a sees.levels))
