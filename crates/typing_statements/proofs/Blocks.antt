-- Statements that hold statements are well typed where these are.
use Rattle.std.proofs.Common.{◌≡◌, refl, sym, ap, ap₂, ◌∙◌, subst, arith, ℕ, ◌+◌, zero, suc, Bool}
use Rattle.std.proofs.Common.{true, false, ◌&&◌, List, [], ◌∷◌, ◌++◌, map, length, Option, Some}
use Rattle.std.proofs.Common.{None}
use Rattle.std.specs.Prelude.{nat_eq, slice_get}
use Rattle.std.specs.List.{list_all}
use Rattle.std.proofs.lemmas.List.{length-map, length-append}
use Rattle.syntax_trees.specs.declared.anchor.Ident.{Ident}
use Rattle.syntax_trees.specs.declared.expr.Expr.{Expr}
use Rattle.syntax_trees.specs.declared.query.OrderedQuery.{OrderedQuery}
use Rattle.syntax_trees.specs.declared.query.Query.{Query}
use Rattle.bound_trees.specs.declared.statement.BoundBlock.{BoundBlock}
use Rattle.bound_trees.specs.declared.statement.BoundBranch.{BoundBranch}
use Rattle.bound_trees.specs.declared.statement.BoundStmt.{BoundStmt}
use Rattle.bound_trees.specs.declared.statement.BoundStmt.TheVariants as bound
use Rattle.bind_faults.specs.Faults.{as_value}
use Rattle.bind_kinds.specs.declared.kind.Kind.{Kind}
use Rattle.bind_kinds.specs.declared.kind.Kind.TheVariants.{Boolean}
use Rattle.bind_sight.specs.declared.output.Output.{Output}
use Rattle.bind_sight.specs.declared.scope.Variable.{Variable as Held}
use Rattle.bind_parts.specs.Turns.{each_noted}
use Rattle.bind_queries.specs.Order.{judge_ordered_typed}
use Rattle.bind_queries.proofs.Laws.{front_nil, back_nil}
use Rattle.bind_declarations.specs.declared.declared.Declared.{Declared}
use Rattle.bind_declarations.specs.Declarations.{nothing_declared, after_declared}
use Rattle.bind_declarations.specs.Loops.{next_slot, next_cursor, slot_after, name_in}
use Rattle.bind_declarations.specs.Loops.{names_of_columns, column_held, column_faults}
use Rattle.bind_declarations.specs.Loops.{columns_faults, scope_of_columns}
use Rattle.typing_trees.specs.Around.{Slot, read, with_slots}
use Rattle.typing_trees.specs.Queries.{kind_of}
use Rattle.typing_trees.specs.Statements.{Inside, Typed, in_loop, in_block, with_declared}
use Rattle.typing_trees.specs.Statements.{with_read, holds, is_of, value_of, all_typed}
use Rattle.typing_trees.specs.Statements.{branch_typed, branches_typed, case_typed, handler_typed}
use Rattle.typing_trees.specs.Statements.{each_kinds, parts_typed, after_variables, is_typed}
use Rattle.typing_trees.specs.Statements.{block_is_typed, branch_of, handler_of}
use Rattle.typing_queries.proofs.Laws.{Below, AllBelow, below-self, ScopeIn, SlotIs, kinds_shown}
use Rattle.typing_queries.proofs.Laws.{ordered_typed}
use Rattle.bind_simple.specs.Anchors.{column_at}
use Rattle.bind_simple.specs.Places.{Surroundings, seen_from, with_scope, within}
use Rattle.bind_rules.specs.Labels.{label_faults, end_faults}
use Rattle.bind_simple.specs.Simple.{Judge}
use Rattle.bind_simple.specs.Values.{judged_expr, value_of_kind}
use Rattle.bind_routines.specs.Statements.{JudgedBranch, JudgedStructure, JudgedDeclaration}
use Rattle.bind_routines.specs.Statements.{one_more, judged_list, judged_branch, one_branch}
use Rattle.bind_routines.specs.Statements.{judged_branches, judged_if, judged_case, judged_while}
use Rattle.bind_routines.specs.Statements.{judged_repeat, looped, judged_for, one_declaration}
use Rattle.bind_routines.specs.Statements.{judged_declarations, block_of, judged_block, label_of}
use Rattle.bind_routines.specs.Statements.{judged_labelled}
use Rattle.grammar_order.specs.Ordered.{handlers_last}
use Rattle.typing_statements.proofs.Declarations.{DeclaredFirst, DeclaredAll, FirstFits}
use Rattle.typing_statements.proofs.Declarations.{HandlerFits, nothing-first, first-all}
use Rattle.typing_statements.proofs.Declarations.{stands-declared}
use Rattle.typing_statements.proofs.Layers.{block-layer, seen_block, branch-layer, block-stmt-layer}
use Rattle.typing_statements.proofs.Layers.{if-layer, case-layer, loop-layer, while-layer}
use Rattle.typing_statements.proofs.Layers.{repeat-layer, for-layer}
use Rattle.typing_statements.proofs.Lists.{both-true, equals-itself, all-after, map-after}
use Rattle.typing_statements.proofs.Lists.{append-nil, slice-back, none-of, no-more}
use Rattle.typing_statements.proofs.Simple.{StatementFits}
use Rattle.typing_statements.proofs.Stands.{CursorsOf, Stands, stands-in-scope, stands-in-loop}
use Rattle.typing_statements.proofs.Stands.{stands-in-block}
use Rattle.typing_statements.proofs.Values.{value-typed, expr-typed, is-of-less}

-- ---- lists of statements

abbrev pub AllFit : List Judge → Type 0
AllFit [] = Unit {0}
AllFit (j ∷ js) = StatementFits j × AllFit js

more-fit : (js : List Judge) (so : List BoundStmt) (p : Surroundings) (i : Inside) → AllFit js →
    Stands p i → (each_noted (one_more p) so js).faults ≡ [] → all_typed (map is_typed so) i ≡ true
    → all_typed (map is_typed (each_noted (one_more p) so js).value) i ≡ true
more-fit [] so p i fits stands f typed = typed
more-fit (j ∷ js) so p i fits stands f typed =
    let b = j p in
    let rest = each_noted (one_more p) (so ++ b.value ∷ []) js in
    more-fit js (so ++ b.value ∷ []) p i fits.1 stands (back_nil b.faults rest.faults f)
    (ap (λ ss. all_typed ss i) (map-after is_typed so b.value) ∙
    all-after (λ (s : Typed). s i) (map is_typed so) (is_typed b.value) typed
    (fits.0 p (front_nil b.faults rest.faults f) i stands))

pub list-fits : (js : List Judge) (p : Surroundings) (i : Inside) → AllFit js → Stands p i →
    (judged_list js p).faults ≡ [] → all_typed (map is_typed (judged_list js p).value) i ≡ true
list-fits js p i fits stands f = more-fit js [] p i fits stands f refl

-- ---- IF and CASE

abbrev pub AllBranches : List JudgedBranch → Type 0
AllBranches [] = Unit {0}
AllBranches (b ∷ bs) = AllFit b.body × AllBranches bs

-- a branch, of which less may be wanted
branch-fits : (kind wanted : Kind) (b : JudgedBranch) (p : Surroundings) (i : Inside) →
    AllFit b.body → Below wanted kind → Stands p i → (judged_branch kind p b).faults ≡ []
    → branch_typed wanted i (branch_of (judged_branch kind p b).value) ≡ true
branch-fits kind wanted b p i fits below stands f =
    let t = value_of_kind kind b.test p in
    let ss = judged_list b.body p in
    ap (branch_typed wanted i) (branch-layer t.value ss.value)
    ∙ both-true (is_of wanted (kind_of t.value i.around)) (all_typed (map is_typed ss.value) i)
    (is-of-less wanted kind (kind_of t.value i.around) below
    (value-typed kind b.test p i.around stands.sees (front_nil t.faults ss.faults f)))
    (list-fits b.body p i fits stands (back_nil t.faults ss.faults f))

more-branches : (kind wanted : Kind) (bs : List JudgedBranch) (so : List BoundBranch)
    (p : Surroundings) (i : Inside) → AllBranches bs → Below wanted kind → Stands p i
    → (each_noted (one_branch kind p) so bs).faults ≡ []
    → branches_typed wanted (map branch_of so) i ≡ true →
    branches_typed wanted (map branch_of (each_noted (one_branch kind p) so bs).value) i ≡ true
more-branches kind wanted [] so p i fits below stands f typed = typed
more-branches kind wanted (b ∷ bs) so p i fits below stands f typed =
    let x = judged_branch kind p b in
    let rest = each_noted (one_branch kind p) (so ++ x.value ∷ []) bs in
    more-branches kind wanted bs (so ++ x.value ∷ []) p i fits.1 below stands
    (back_nil x.faults rest.faults f)
    (ap (λ zs. branches_typed wanted zs i) (map-after branch_of so x.value)
    ∙ all-after (branch_typed wanted i) (map branch_of so) (branch_of x.value) typed
    (branch-fits kind wanted b p i fits.0 below stands (front_nil x.faults rest.faults f)))

branches-fit : (kind wanted : Kind) (bs : List JudgedBranch) (p : Surroundings) (i : Inside) →
    AllBranches bs → Below wanted kind → Stands p i → (judged_branches kind bs p).faults ≡ []
    → branches_typed wanted (map branch_of (judged_branches kind bs p).value) i ≡ true
branches-fit kind wanted bs p i fits below stands f =
    more-branches kind wanted bs [] p i fits below stands f refl

pub if-fits : (bs : List JudgedBranch) (otherwise : List Judge) → AllBranches bs →
    AllFit otherwise → StatementFits (judged_if bs otherwise)
if-fits bs otherwise fb fo p f i stands =
    let xs = judged_branches Boolean bs p in
    let ss = judged_list otherwise p in
    if-layer xs.value ss.value i
    ∙ both-true (branches_typed Boolean (map branch_of xs.value) i)
    (all_typed (map is_typed ss.value) i)
    (branches-fit Boolean Boolean bs p i fb (below-self Boolean) stands
    (front_nil xs.faults ss.faults f))
    (list-fits otherwise p i fo stands (back_nil xs.faults ss.faults f))

pub case-fits : (operand : Option Expr) (bs : List JudgedBranch) (otherwise : List Judge) →
    AllBranches bs → AllFit otherwise → StatementFits (judged_case operand bs otherwise)
case-fits None bs otherwise fb fo p f i stands =
    let xs = judged_branches Boolean bs p in
    let ss = judged_list otherwise p in
    case-layer None xs.value ss.value i
    ∙ both-true (branches_typed Boolean (map branch_of xs.value) i)
    (all_typed (map is_typed ss.value) i)
    (branches-fit Boolean Boolean bs p i fb (below-self Boolean) stands
    (front_nil xs.faults ss.faults f))
    (list-fits otherwise p i fo stands (back_nil xs.faults ss.faults f))
case-fits (Some e) bs otherwise fb fo p f i stands =
    let t = judged_expr e p in
    let kind = t.value.head.kind in
    let xs = judged_branches kind bs p in
    let ss = judged_list otherwise p in
    let (k, is, below) = expr-typed e p i.around stands.sees
    (front_nil t.faults (xs.faults ++ ss.faults) f) in
    let rest = back_nil t.faults (xs.faults ++ ss.faults) f in
    case-layer (Some t.value.tree) xs.value ss.value i
    ∙ both-true (case_typed (Some t.value.tree) (map branch_of xs.value) i)
    (all_typed (map is_typed ss.value) i)
    (ap (λ (o : Option Kind). holds o (λ j. branches_typed j (map branch_of xs.value) i)) is ∙
    branches-fit kind k bs p i fb below stands (front_nil xs.faults ss.faults rest))
    (list-fits otherwise p i fo stands (back_nil xs.faults ss.faults rest))

-- ---- loops

-- within its label
abbrev pub StructureFits : JudgedStructure → Type 0
StructureFits s = (label : Option Ident) (p : Surroundings) (i : Inside) →
    (s.judge (within (label_of label s.is_loop) p)).faults ≡ [] → Stands p i →
    is_typed (s.judge (within (label_of label s.is_loop) p)).value i ≡ true

abbrev pub loop_of : List Judge → JudgedStructure
loop_of body = record {
  is_loop = true;
  judge =
      λ p. as_value (λ ss. bound.Loop ss) (judged_list body p);
}

pub loop-fits : (body : List Judge) → AllFit body → StructureFits (loop_of body)
loop-fits body fits label p i f stands =
    let here = within (label_of label true) p in
    loop-layer (judged_list body here).value i ∙
    list-fits body here (in_loop i) fits (stands-in-loop label p i stands) f

pub while-fits : (test : Expr) (body : List Judge) → AllFit body →
    StructureFits (record { is_loop = true; judge = judged_while test body })
while-fits test body fits label p i f stands =
    let here = within (label_of label true) p in
    let t = value_of_kind Boolean test here in
    let ss = judged_list body here in
    let inside = stands-in-loop label p i stands in
    while-layer t.value ss.value i
    ∙ both-true (value_of Boolean t.value i.around) (all_typed (map is_typed ss.value) (in_loop i))
    (value-typed Boolean test here i.around inside.sees (front_nil t.faults ss.faults f))
    (list-fits body here (in_loop i) fits inside (back_nil t.faults ss.faults f))

pub repeat-fits : (body : List Judge) (test : Expr) → AllFit body →
    StructureFits (record { is_loop = true; judge = judged_repeat body test })
repeat-fits body test fits label p i f stands =
    let here = within (label_of label true) p in
    let t = value_of_kind Boolean test here in
    let ss = judged_list body here in
    let inside = stands-in-loop label p i stands in
    repeat-layer ss.value t.value i
    ∙ both-true (all_typed (map is_typed ss.value) (in_loop i)) (value_of Boolean t.value i.around)
    (list-fits body here (in_loop i) fits inside (front_nil ss.faults t.faults f))
    (value-typed Boolean test here i.around inside.sees (back_nil ss.faults t.faults f))

-- ---- FOR

-- each column has a name
named-columns : (q : Query) (place : ℕ) (before : List (List ℕ)) (cs : List Output) →
    columns_faults q place before cs ≡ [] → length (names_of_columns cs) ≡ length cs
named-columns q place before [] f = refl
named-columns q place before (c ∷ cs) f = one c.name
    (front_nil (column_faults (column_at q place) before c.name)
    (columns_faults q (place + 1) (before ++ name_in c.name) cs) f)
    (named-columns q (place + 1) (before ++ name_in c.name) cs
    (back_nil (column_faults (column_at q place) before c.name)
    (columns_faults q (place + 1) (before ++ name_in c.name) cs) f))
  where
    one : (name : Option (List ℕ)) → column_faults (column_at q place) before name ≡ [] →
        length (names_of_columns cs) ≡ length cs →
        length (name_in name ++ names_of_columns cs) ≡ suc (length cs)
    one None g rest = absurd cc
    one (Some name) g rest = ap suc rest

-- and its slot
column-slots : (cs : List Output) (ks : List Kind) → AllBelow ks (kinds_shown cs) →
    (place : ℕ) (v : Held) → slice_get (map column_held cs) place ≡ Some v →
    SlotIs v (slice_get (map read ks) place)
column-slots [] [] b place v is = absurd cc
column-slots [] (k ∷ ks) b place v is = absurd b
column-slots (c ∷ cs) [] b place v is = absurd b
column-slots (c ∷ cs) (k ∷ ks) b zero v is =
    let same : column_held c ≡ v = cc in
    subst (λ (w : Held). SlotIs w (Some (read k))) same (read k, refl, (refl, b.0))
column-slots (c ∷ cs) (k ∷ ks) b (suc place) v is = column-slots cs ks b.1 place v is

below-length : (ks : List Kind) (cs : List Output) → AllBelow ks (kinds_shown cs) →
    length ks ≡ length cs
below-length [] [] b = refl
below-length [] (c ∷ cs) b = absurd b
below-length (k ∷ ks) [] b = absurd b
below-length (k ∷ ks) (c ∷ cs) b = ap suc (below-length ks cs b.1)

for-stands : (x : Ident) (cs : List Output) (ks : List Kind) (p : Surroundings) (i : Inside) →
    Stands p i → AllBelow ks (kinds_shown cs) → length (names_of_columns cs) ≡ length cs
    → Stands (with_scope (scope_of_columns x cs p.scopes) p)
    (with_read (i.around.slots ++ map read ks) i)
for-stands x cs ks p i stands below named =
    let s = scope_of_columns x cs p.scopes in
    let slots = i.around.slots ++ map read ks in
    let held : ScopeIn s slots = record {
      as_many = named ∙ sym (length-map cs column_held);
      slot = λ place v is.
          (let at : next_slot p.scopes + place ≡ length i.around.slots + place = omega (arith, stands.slots) in
          subst (SlotIs v) (sym (ap (slice_get slots) at ∙
          slice-back i.around.slots (map read ks) place))
          (column-slots cs ks below place v is));
    } in
    let count : length slots ≡ slot_after s = length-append i.around.slots (map read ks) ∙
    ap₂ (λ a b. a + b) stands.slots (length-map ks read ∙ below-length ks cs below ∙
    sym (length-map cs column_held)) in
    let cursors : CursorsOf s (i.cursors ++ []) =
    record { as_many = refl; slot = λ place c is. absurd (none-of place c is) } in
    let many : length (i.cursors ++ []) ≡ next_cursor p.scopes + 0 =
    ap length (append-nil i.cursors) ∙ stands.cursors ∙ no-more (next_cursor p.scopes) in
    subst (λ z. Stands (with_scope s p) (with_declared slots z i)) (append-nil i.cursors)
    (stands-in-scope s p i (map read ks) [] stands held count cursors many)

pub for-fits : (x : Ident) (q : OrderedQuery) (body : List Judge) → AllFit body →
    StructureFits (record { is_loop = true; judge = judged_for x q body })
for-fits x q body fits label p i f stands =
    let here = within (label_of label true) p in
    let inside = stands-in-loop label p i stands in
    let t = judge_ordered_typed q (seen_from here) in
    let rest = looped x q body here t.value in
    let cs = t.value.columns in
    let names = columns_faults q.query 0 [] cs in
    let s = scope_of_columns x cs here.scopes in
    let ss = judged_list body (with_scope s here) in
    let after : names ++ ss.faults ≡ [] = back_nil t.faults rest.faults f in
    let (ks, is, below) = ordered_typed q (seen_from here) i.around inside.sees
    (front_nil t.faults rest.faults f) in
    let stands-it = for-stands x cs ks here (in_loop i) inside below
    (named-columns q.query 0 [] cs (front_nil names ss.faults after)) in
    for-layer t.value.tree (next_slot p.scopes) ss.value i
    ∙ ap (λ (o : Option (List Kind)). holds o
    (λ js. nat_eq (next_slot p.scopes) (length i.around.slots) && all_typed
    (map is_typed ss.value) (with_read (i.around.slots ++ map read js) (in_loop i)))) is
    ∙ both-true (nat_eq (next_slot p.scopes) (length i.around.slots))
    (all_typed (map is_typed ss.value) (with_read (i.around.slots ++ map read ks) (in_loop i)))
    (equals-itself (next_slot p.scopes) (length i.around.slots) (sym stands.slots))
    (list-fits body (with_scope s here) (with_read (i.around.slots ++ map read ks) (in_loop i)) fits
    stands-it (back_nil names ss.faults after))

-- ---- compound statements

abbrev pub DeclarationFits : Bool → JudgedDeclaration → Type 0
DeclarationFits false d = FirstFits d
DeclarationFits true d = HandlerFits d

-- by whether each is a handler
abbrev pub AllDeclare : List Bool → List JudgedDeclaration → Type 0
AllDeclare [] [] = Unit {0}
AllDeclare [] (d ∷ ds) = ⊥
AllDeclare (b ∷ bs) [] = ⊥
AllDeclare (b ∷ bs) (d ∷ ds) = DeclarationFits b d × AllDeclare bs ds

handlers-fit : (bs : List Bool) (ds : List JudgedDeclaration) (atomic : Bool) (p : Surroundings)
    (so : Declared) (i : Inside) → AllDeclare bs ds → handlers_last true bs ≡ true → Stands p i
    → (each_noted (one_declaration atomic p) so ds).faults ≡ []
    → DeclaredAll atomic so i → DeclaredAll atomic
    (each_noted (one_declaration atomic p) so ds).value i
handlers-fit [] [] atomic p so i fits o stands f h = h
handlers-fit [] (d ∷ ds) atomic p so i fits o stands f h = absurd fits
handlers-fit (b ∷ bs) [] atomic p so i fits o stands f h = absurd fits
handlers-fit (false ∷ bs) (d ∷ ds) atomic p so i fits o stands f h = absurd cc
handlers-fit (true ∷ bs) (d ∷ ds) atomic p so i fits o stands f h =
    let one = d atomic p so in
    let rest = each_noted (one_declaration atomic p) one.value ds in
    handlers-fit bs ds atomic p one.value i fits.1 o stands (back_nil one.faults rest.faults f)
    (fits.0 atomic p so i stands (front_nil one.faults rest.faults f) h)

first-fit : (bs : List Bool) (ds : List JudgedDeclaration) (atomic : Bool) (p : Surroundings)
    (so : Declared) (i : Inside) → AllDeclare bs ds → handlers_last false bs ≡ true → Stands p i
    → (each_noted (one_declaration atomic p) so ds).faults ≡ []
    → DeclaredFirst so i → DeclaredAll atomic (each_noted (one_declaration atomic p) so ds).value i
first-fit [] [] atomic p so i fits o stands f h = first-all atomic so i h
first-fit [] (d ∷ ds) atomic p so i fits o stands f h = absurd fits
first-fit (b ∷ bs) [] atomic p so i fits o stands f h = absurd fits
first-fit (false ∷ bs) (d ∷ ds) atomic p so i fits o stands f h =
    let one = d atomic p so in
    let rest = each_noted (one_declaration atomic p) one.value ds in
    first-fit bs ds atomic p one.value i fits.1 o stands (back_nil one.faults rest.faults f)
    (fits.0 atomic p so i stands (front_nil one.faults rest.faults f) h)
first-fit (true ∷ bs) (d ∷ ds) atomic p so i fits o stands f h =
    let one = d atomic p so in
    let rest = each_noted (one_declaration atomic p) one.value ds in
    handlers-fit bs ds atomic p one.value i fits.1 o stands (back_nil one.faults rest.faults f)
    (fits.0 atomic p so i stands (front_nil one.faults rest.faults f) (first-all atomic so i h))

-- what a compound statement is bound to
abbrev pub BlockFits : Judge → Type 0
BlockFits j = (p : Surroundings) (i : Inside) → (j p).faults ≡ [] → Stands p i → (b : BoundBlock) ×
    ((j p).value ≡ bound.Block b) × (block_is_typed b i ≡ true)

pub block-fits : (atomic : Bool) (bs : List Bool) (ds : List JudgedDeclaration)
    (statements : List Judge) → AllDeclare bs ds → handlers_last false bs ≡ true → AllFit statements
    → BlockFits (judged_block atomic ds statements)
block-fits atomic bs ds statements declares o fits p i f stands =
    let so = judged_declarations atomic ds p in
    let ss = judged_list statements (after_declared so.value p) in
    let h : DeclaredAll atomic so.value i = first-fit bs ds atomic p (nothing_declared p) i declares
    o stands (front_nil so.faults ss.faults f) (nothing-first p i stands) in
    let slots = i.around.slots ++ h.more in
    let inside = with_declared slots (i.cursors ++ h.cursors.kinds) i in
    let typed : all_typed (map is_typed ss.value) inside ≡ true =
    list-fits statements (after_declared so.value p) inside fits
    (stands-declared atomic p so.value i stands h) (back_nil so.faults ss.faults f) in
    let b = so.value in
    let parts : parts_typed atomic (map handler_of b.handlers) (map is_typed ss.value) inside ≡
    true =
    both-true (list_all (handler_typed atomic inside) (map handler_of b.handlers))
    (all_typed (map is_typed ss.value) inside) h.handlers typed in (
      block_of atomic b ss.value,
      refl,
      block-layer atomic b.variables b.scope.first_cursor b.cursors b.handlers ss.value i
          ∙ ap (λ (o : Option (List Slot)). holds o
          (after_variables (seen_block atomic b.variables b.scope.first_cursor b.cursors
          b.handlers ss.value) i)) h.variables.are
          ∙ both-true (nat_eq b.scope.first_cursor (length i.cursors))
          (holds (each_kinds b.cursors (with_slots slots i.around))
          (λ kss. parts_typed atomic (map handler_of b.handlers) (map is_typed ss.value)
          (with_declared slots (i.cursors ++ kss) i)))
          (equals-itself b.scope.first_cursor (length i.cursors) h.first)
          (ap (λ (o : Option (List (List Kind))).
          holds o (λ kss. parts_typed atomic (map handler_of b.handlers) (map is_typed ss.value)
          (with_declared slots (i.cursors ++ kss) i))) h.cursors.are ∙ parts),
    )

pub block-stands : (j : Judge) → BlockFits j → StructureFits (record { is_loop = false; judge = j })
block-stands j fits label p i f stands =
    let (b, is, typed) = fits (within (label_of label false) p) (in_block i) f
    (stands-in-block label p i stands) in
    ap (λ s. is_typed s i) is ∙ block-stmt-layer b i ∙ typed

-- ---- labels

pub labelled-fits : (label end_label : Option Ident) (s : JudgedStructure) → StructureFits s →
    StatementFits (judged_labelled label end_label s)
labelled-fits label end_label s fits p f i stands =
    let x = s.judge (within (label_of label s.is_loop) p) in
    fits label p i (back_nil (label_faults label p.labels ++ end_faults label end_label) x.faults f)
    stands
