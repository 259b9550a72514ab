-- Lists and tests without faults: what they are bound to is well typed.
use Rattle.std.proofs.Common.{◌≡◌, refl, sym, ap, ap₂, ◌∙◌, subst, true, false, List, [], ◌∷◌, ◌++◌}
use Rattle.std.proofs.Common.{append_assoc, map, Option, Some, None}
use Rattle.std.proofs.lemmas.Bool.{and_from}
use Rattle.std.proofs.lemmas.List.{append-nil, map-append}
use Rattle.syntax_trees.specs.declared.anchor.Anchor.{Anchor}
use Rattle.syntax_trees.specs.declared.anchor.Ident.{Ident}
use Rattle.bound_trees.specs.declared.expr.BoundExpr.{BoundExpr}
use Rattle.bind_kinds.specs.declared.kind.OperandHead.{OperandHead}
use Rattle.bind_kinds.specs.declared.kind.Kind.{Kind}
use Rattle.bind_kinds.specs.declared.kind.Kind.TheVariants.{Boolean}
use Rattle.bind_kinds.specs.Conjuncts.{conjuncts_of}
use Rattle.bind_kinds.specs.Kinds.{fits, misfit, in_turn as turn_faults}
use Rattle.bind_sight.specs.declared.output.Output.{Output}
use Rattle.bind_sight.specs.Sight.{Seen, may_stand}
use Rattle.bind_parts.specs.declared.aggregates.Parts.{Parts}
use Rattle.bind_parts.specs.declared.list.Outputs.{Outputs}
use Rattle.bind_parts.specs.Lists.{star, titled}
use Rattle.bind_parts.specs.Turns.{each_noted}
use Rattle.bind_parts.specs.Typed.{no_parts}
use Rattle.bind_queries.specs.Judges.{Expression, JudgedItem, Judge, look}
use Rattle.bind_queries.specs.Lists.{all_item, value_item, tested, judged_test, judged_filter}
use Rattle.bind_queries.specs.Lists.{judged_having}
use Rattle.bind_queries.proofs.Laws.{front_nil, back_nil}
use Rattle.typing_trees.specs.Around.{Around}
use Rattle.typing_trees.specs.Kinds.{in_turn}
use Rattle.typing_trees.specs.Queries.{kind_of, kinds_of, tests}
use Rattle.typing_queries.proofs.Below.{HasAll}
use Rattle.typing_queries.proofs.Conjuncts.{conjuncts-are-tests}
use Rattle.typing_queries.proofs.Fits.{kinds, fitting}
use Rattle.typing_queries.proofs.Sees.{Sees}
use Rattle.typing_queries.proofs.Shapes.{Aggregating, Grown, IsTyped, kinds_shown}
use Rattle.typing_queries.proofs.Stars.{Shown, star-typed}
use Rattle.typing_queries.proofs.Forms.{looked-grown, none-aggregating}
use Rattle.typing_queries.proofs.Growing.{has-append, has-one, grown-nothing, grown-as, grown-then}
use Rattle.typing_queries.proofs.Growing.{grown-alone}
use Rattle.typing_queries.proofs.Judged.{Fitting}

-- ---- what is stored

-- each is of the kind of what it is stored into
pub stored-in-turn : (targets : List Kind) (hs : List OperandHead) → turn_faults targets hs ≡ [] →
    in_turn targets (kinds hs) ≡ true
stored-in-turn [] hs p = refl
stored-in-turn (w ∷ ws) [] p = refl
stored-in-turn (w ∷ ws) (h ∷ hs) p =
    and_from (fits w h.kind) (in_turn ws (kinds hs))
    (fitting w h (front_nil (misfit w h) (turn_faults ws hs) p))
    (stored-in-turn ws hs (back_nil (misfit w h) (turn_faults ws hs) p))

-- ---- output columns

abbrev pub AreOf : List BoundExpr → List OperandHead → Around → Type 0
AreOf trees heads a = HasAll (kinds_of a (map kind_of trees)) (kinds heads)

-- after the parts and the output columns there are others, which are typed around rows that have
-- these parts
pub record Listed (inner : Around) (s : Seen) (so more : Outputs) : Type 0 where
  pub trees : List BoundExpr
  pub heads : List OperandHead
  pub after_trees : more.trees ≡ so.trees ++ trees
  pub after_heads : more.heads ≡ so.heads ++ heads
  pub shown : Shown so → Shown more
  pub grown : Grown inner s so.parts more.parts (AreOf trees heads)

lists-nothing : (inner : Around) (s : Seen) (so : Outputs) → Listed inner s so so
lists-nothing inner s so = record {
  trees = [];
  heads = [];
  after_trees = sym (append-nil so.trees);
  after_heads = sym (append-nil so.heads);
  shown = λ p. p;
  grown = grown-nothing inner s so.parts (AreOf [] []) (λ a sees. ([], refl, tt));
}

both-of : (ts us : List BoundExpr) (gs hs : List OperandHead) (a : Around) → AreOf ts gs a →
    AreOf us hs a → AreOf (ts ++ us) (gs ++ hs) a
both-of ts us gs hs a p q =
    subst (λ ks. HasAll (kinds_of a (map kind_of (ts ++ us))) ks)
    (sym (map-append (λ (h : OperandHead). h.kind) gs hs))
    (subst (λ es. HasAll (kinds_of a es) (kinds gs ++ kinds hs)) (sym (map-append kind_of ts us))
    (has-append a (map kind_of ts) (map kind_of us) (kinds gs) (kinds hs) p q))

lists-then : (inner : Around) (s : Seen) (so more rest : Outputs) → Listed inner s so more →
    Listed inner s more rest → Listed inner s so rest
lists-then inner s so more rest p q = record {
  trees = p.trees ++ q.trees;
  heads = p.heads ++ q.heads;
  after_trees = q.after_trees ∙ ap (λ z. z ++ q.trees) p.after_trees ∙
      append_assoc so.trees p.trees q.trees;
  after_heads = q.after_heads ∙ ap (λ z. z ++ q.heads) p.after_heads ∙
      append_assoc so.heads p.heads q.heads;
  shown = λ x. q.shown (p.shown x);
  grown = grown-as inner s so.parts rest.parts (λ a. AreOf p.trees p.heads a ×
      AreOf q.trees q.heads a) (AreOf (p.trees ++ q.trees) (p.heads ++ q.heads))
      (grown-then inner s so.parts more.parts rest.parts (AreOf p.trees p.heads)
      (AreOf q.trees q.heads) p.grown q.grown)
      (λ a sees t. both-of p.trees q.trees p.heads q.heads a t.0 t.1);
}

-- ---- items

abbrev pub ItemFits : JudgedItem → Type 0
ItemFits i = (s : Seen) (so : Outputs) → (i.judge s so).faults ≡ [] → (inner : Around) →
    Aggregating s inner → Listed inner s so (i.judge s so).value

pub all-fits : (at : Anchor) (s : Seen) (so : Outputs) → (all_item at s so).faults ≡ [] →
    (inner : Around) → Listed inner s so (all_item at s so).value
all-fits at s so e inner =
    let more = (star at s.levels so).value in
    let t = star-typed at s so e in
    let u = t.1 in
    record {
      trees = u.0;
      heads = u.1;
      after_trees = u.2;
      after_heads = u.3;
      shown = u.4;
      grown = subst (λ q. Grown inner s so.parts q (AreOf u.0 u.1)) (sym t.0)
          (grown-nothing inner s so.parts (AreOf u.0 u.1) u.5);
    }

shown-more : (cs : List Output) (hs : List OperandHead) (c : Output) (h : OperandHead) →
    kinds_shown cs ≡ kinds hs → c.kind ≡ h.kind → kinds_shown (cs ++ c ∷ []) ≡ kinds (hs ++ h ∷ [])
shown-more cs hs c h p q =
    map-append (λ (x : Output). x.kind) cs (c ∷ []) ∙
    ap₂ (λ (xs : List Kind) (x : Kind). xs ++ x ∷ []) p q ∙
    sym (map-append (λ (x : OperandHead). x.kind) hs (h ∷ []))

pub value-fits : (x : Expression) (alias : Option Ident) (s : Seen) (so : Outputs) →
    Fitting x.judge → (value_item x alias s so).faults ≡ [] → (inner : Around) → Aggregating s inner
    → Listed inner s so (value_item x alias s so).value
value-fits x alias s so f e inner may =
    let t = (look x.judge s so.parts).value in
    let tree = t.value.tree in
    let head = t.value.head in
    record {
      trees = tree ∷ [];
      heads = head ∷ [];
      after_trees = refl;
      after_heads = refl;
      shown = λ p. shown-more so.columns so.heads
          (record { name = titled alias x.name; kind = head.kind }) head p refl;
      grown = grown-as inner s so.parts t.parts (IsTyped t.value) (AreOf (tree ∷ []) (head ∷ []))
          (looked-grown x.judge s so.parts inner f may e)
          (λ a sees typed. has-one a (kind_of tree) head.kind typed);
    }

abbrev pub AllItems : List JudgedItem → Type 0
AllItems [] = Unit {0}
AllItems (i ∷ is) = ItemFits i × AllItems is

pub items-fit : (is : List JudgedItem) (s : Seen) (so : Outputs) → AllItems is →
    (each_noted (λ o (i : JudgedItem). i.judge s o) so is).faults ≡ [] → (inner : Around) →
    Aggregating s inner
    → Listed inner s so (each_noted (λ o (i : JudgedItem). i.judge s o) so is).value
items-fit [] s so fs e inner may = lists-nothing inner s so
items-fit (i ∷ is) s so fs e inner may =
    let first = i.judge s so in
    let rest = each_noted (λ o (j : JudgedItem). j.judge s o) first.value is in
    lists-then inner s so first.value rest.value
    (fs.0 s so (front_nil first.faults rest.faults e) inner may)
    (items-fit is s first.value fs.1 (back_nil first.faults rest.faults e) inner may)

-- ---- tests

abbrev pub AreTests : List BoundExpr → Around → Type 0
AreTests es a = tests a (map kind_of es) ≡ true

pub tested-fits : (j : Judge) (s : Seen) (p : Parts) → Fitting j →
    (tested (look j s p)).faults ≡ [] → (inner : Around) → Aggregating s inner
    → Grown inner s p (tested (look j s p)).value.parts (AreTests (tested (look j s p)).value.value)
tested-fits j s p f e inner may =
    let t = look j s p in
    let head = t.value.value.head in
    let tree = t.value.value.tree in
    let asked = misfit Boolean head in
    grown-as inner s p t.value.parts (IsTyped t.value.value) (AreTests (conjuncts_of tree))
    (looked-grown j s p inner f may (front_nil t.faults asked e))
    (λ a sees typed. conjuncts-are-tests tree a head.kind typed
    (fitting Boolean head (back_nil t.faults asked e)))

-- where no aggregate may stand
pub test-fits : (j : Judge) (s : Seen) → may_stand s.levels ≡ false → Fitting j →
    (judged_test j s).faults ≡ [] → (a : Around) → Sees s a → AreTests (judged_test j s).value a
test-fits j s m f e a sees =
    let t = tested (look j s no_parts) in
    grown-alone a s no_parts t.value.parts (AreTests t.value.value) m
    (tested-fits j s no_parts f e a (none-aggregating s a m)) a sees

abbrev pub MaybeFits : Option Expression → Type 0
MaybeFits None = Unit {0}
MaybeFits (Some x) = Fitting x.judge

pub filter-fits : (filter : Option Expression) (s : Seen) → may_stand s.levels ≡ false →
    MaybeFits filter → (judged_filter filter s).faults ≡ [] → (a : Around) → Sees s a
    → AreTests (judged_filter filter s).value a
filter-fits None s m f e a sees = refl
filter-fits (Some x) s m f e a sees = test-fits x.judge s m f e a sees

pub having-fits : (having : Option Expression) (s : Seen) (p : Parts) → MaybeFits having →
    (judged_having having s p).faults ≡ [] → (inner : Around) → Aggregating s inner
    → Grown inner s p (judged_having having s p).value.parts
    (AreTests (judged_having having s p).value.value)
having-fits None s p f e inner may = grown-nothing inner s p (AreTests []) (λ a sees. refl)
having-fits (Some x) s p f e inner may = tested-fits x.judge s p f e inner may
