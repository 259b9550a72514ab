-- Expressions without faults, of each form: what they are bound to is well typed.
use Rattle.std.proofs.Common.{◌≡◌, refl, sym, ap, ◌∙◌, subst, ℕ, zero, suc, Bool, true, false, not}
use Rattle.std.proofs.Common.{List, [], ◌∷◌, ◌++◌, map, length, drop, Option, Some}
use Rattle.std.specs.Prelude.{slice_get}
use Rattle.std.specs.List.{list_all}
use Rattle.std.proofs.lemmas.Bool.{and_from}
use Rattle.std.proofs.lemmas.List.{length-map}
use Rattle.sql_values.specs.declared.fold.FoldKind.{FoldKind}
use Rattle.syntax_trees.specs.Columns.{anchor_of_column}
use Rattle.syntax_trees.specs.declared.anchor.Anchor.{Anchor}
use Rattle.syntax_trees.specs.declared.anchor.ColumnName.{ColumnName}
use Rattle.syntax_trees.specs.declared.anchor.Ident.{Ident}
use Rattle.syntax_trees.specs.declared.expr.Literal.{Literal}
use Rattle.syntax_trees.specs.declared.expr.Operation.{Operation}
use Rattle.bind_faults.specs.declared.fault.Fault.{Fault}
use Rattle.bind_faults.specs.declared.fault.FaultKind.TheVariants.{NotPermitted}
use Rattle.bind_faults.specs.Faults.{fault_if, is_faultless}
use Rattle.bind_kinds.specs.declared.kind.Kind.{Kind}
use Rattle.bind_kinds.specs.Aggregates.{argument_of}
use Rattle.bind_kinds.specs.Kinds.{quiet}
use Rattle.bind_sight.specs.Sight.{Level, Seen, stands_for, may_stand, ungrouped, inside_aggregate}
use Rattle.bind_parts.specs.declared.aggregates.Parts.{Parts}
use Rattle.bind_parts.specs.declared.typed.Operands.{Operands}
use Rattle.bind_parts.specs.declared.typed.Typed.{Typed}
use Rattle.bind_parts.specs.Typed.{no_parts, settle, literal, named, in_front, operated_typed}
use Rattle.bind_parts.specs.Typed.{asked_of, chained_typed, asked_by_chain, aggregate_faults}
use Rattle.bind_parts.specs.Typed.{function_in_sight, call_faults, argument_faults, call_typed}
use Rattle.bind_parts.specs.Subqueries.{single, exists, member, width_faults, member_faults}
use Rattle.bind_queries.specs.Judges.{Expression, JudgedLink, QueryJudge, Judge, look, all_of}
use Rattle.bind_queries.specs.Judges.{operators, places, operands, judge_literal, judge_name}
use Rattle.bind_queries.specs.Judges.{judge_call, judge_operation, judge_aggregate, judge_chain}
use Rattle.bind_queries.specs.Judges.{judge_single, judge_exists, judge_member}
use Rattle.bind_queries.proofs.Laws.{front_nil, back_nil, no_fault}
use Rattle.typing_trees.specs.Around.{Around, then, only_if, kind_at}
use Rattle.typing_trees.specs.Kinds.{aggregate_allows, aggregate_gives}
use Rattle.typing_trees.specs.Queries.{kind_of, kinds_of}
use Rattle.typing_queries.proofs.Below.{Has}
use Rattle.typing_queries.proofs.Calls.{call-typed, argument-typed}
use Rattle.typing_queries.proofs.Layers.{column-kind}
use Rattle.typing_queries.proofs.Names.{name-typed}
use Rattle.typing_queries.proofs.Shapes.{Aggregating, Follows, Grown, IsTyped, AreTyped, kinds_in}
use Rattle.typing_queries.proofs.Subqueries.{single-typed, exists-typed, member-typed}
use Rattle.typing_queries.proofs.Words.{literal-typed, operation-typed, chain-typed}
use Rattle.typing_queries.proofs.Growing.{has-more, grown-nothing, grown-as, grown-then}
use Rattle.typing_queries.proofs.Growing.{grown-alone}
use Rattle.typing_queries.proofs.Judged.{Fitting, QueryFits}

abbrev pub AllFitting : List Expression → Type 0
AllFitting [] = Unit {0}
AllFitting (e ∷ es) = Fitting e.judge × AllFitting es

-- ---- what is looked whether a fault is inside

pub settled-typed : (faults : List Fault) (t : Typed) (a : Around) → faults ≡ [] → IsTyped t a →
    IsTyped (settle (is_faultless faults) t) a
settled-typed faults t a p typed = subst (λ fs. Has (kind_of t.tree a)
    (quiet (is_faultless fs) t.head.kind)) (sym p) typed

pub looked-grown : (j : Judge) (s : Seen) (p : Parts) (inner : Around) → Fitting j →
    Aggregating s inner → (j s p).faults ≡ []
    → Grown inner s p (look j s p).value.parts (IsTyped (look j s p).value.value)
looked-grown j s p inner f may e =
    let x = j s p in
    grown-as inner s p x.value.parts (IsTyped x.value.value) (IsTyped (look j s p).value.value)
    (f s p e inner may)
    (λ a sees t. settled-typed x.faults x.value.value a e t)

-- ---- where no aggregate may stand

never : (ls : List Level) → may_stand (ungrouped ls) ≡ false
never [] = refl
never (l ∷ ls) = refl

both-ways : (b : Bool) → b ≡ false → b ≡ true → ⊥
both-ways b p q = cc

pub none-aggregating : (s : Seen) (inner : Around) → may_stand s.levels ≡ false →
    Aggregating s inner
none-aggregating s inner m may = absurd (both-ways (may_stand s.levels) m may)

-- ---- operands

more-typed : (t : Typed) (so : Operands) (a : Around) → IsTyped t a → AreTyped so a →
    AreTyped (in_front t so) a
more-typed t so a p q = has-more (kind_of t.tree a) (kinds_of a (map kind_of so.trees)) t.head.kind
    (kinds_in so) p q

pub all-grown : (es : List Expression) (s : Seen) (p : Parts) (inner : Around) → AllFitting es →
    Aggregating s inner → (all_of s p es).faults ≡ []
    → Grown inner s p (all_of s p es).value.parts (AreTyped (all_of s p es).value.value)
all-grown [] s p inner fs may e = grown-nothing inner s p (AreTyped (all_of s p []).value.value)
    (λ a sees. ([], refl, tt))
all-grown (x ∷ es) s p inner fs may e =
    let one = look x.judge s p in
    let rest = all_of s one.value.parts es in
    let first = looked-grown x.judge s p inner fs.0 may (front_nil one.faults rest.faults e) in
    let others = all-grown es s one.value.parts inner fs.1 may (back_nil one.faults rest.faults e)
    in
    grown-as inner s p rest.value.parts (λ a. IsTyped one.value.value a ×
    AreTyped rest.value.value a) (AreTyped (all_of s p (x ∷ es)).value.value)
    (grown-then inner s p one.value.parts rest.value.parts (IsTyped one.value.value)
    (AreTyped rest.value.value) first others)
    (λ a sees t. more-typed one.value.value rest.value.value a t.0 t.1)

pub all-heads : (s : Seen) (p : Parts) (es : List Expression) →
    length (all_of s p es).value.value.heads ≡ length es
all-heads s p [] = refl
all-heads s p (e ∷ es) = ap (λ n. suc n) (all-heads s (e.judge s p).value.parts es)

pub all-free : (s : Seen) (p : Parts) (es : List Expression) → (all_of s p es).faults ≡ [] →
    list_all (λ h. h.free) (all_of s p es).value.value.heads ≡ true
all-free s p [] e = refl
all-free s p (x ∷ es) e =
    let one = x.judge s p in
    let rest = all_of s one.value.parts es in
    and_from (is_faultless one.faults) (list_all (λ h. h.free) rest.value.value.heads)
    (ap is_faultless (front_nil one.faults rest.faults e))
    (all-free s one.value.parts es (back_nil one.faults rest.faults e))

-- ---- literals and names

pub literal-fits : (at : Anchor) (l : Literal) → Fitting (judge_literal at l)
literal-fits at l s p e inner may = grown-nothing inner s p (IsTyped (literal at l))
    (λ a sees. literal-typed at l a)

pub name-fits : (c : ColumnName) → Fitting (judge_name c)
name-fits c s p e inner may =
    grown-nothing inner s p (IsTyped (named (anchor_of_column c) (stands_for c s)).value)
    (λ a sees. name-typed c s a sees e)

-- ---- words

pub operation-fits : (at : Anchor) (operation : Operation) (es : List Expression) → AllFitting es →
    Fitting (judge_operation at operation es)
operation-fits at operation es fs s p e inner may =
    let so = all_of s p es in
    let asked = asked_of operation so.value.value in
    grown-as inner s p so.value.parts (AreTyped so.value.value)
    (IsTyped (operated_typed at operation so.value.value))
    (all-grown es s p inner fs may (front_nil so.faults asked e))
    (λ a sees t. operation-typed at operation so.value.value a (back_nil so.faults asked e) t)

pub chain-fits : (first : Expression) (links : List JudgedLink) → Fitting first.judge →
    AllFitting (operands links) → Fitting (judge_chain first links)
chain-fits first links f fs s p e inner may =
    let one = look first.judge s p in
    let rest = all_of s one.value.parts (operands links) in
    let os = operators links in
    let ps = places links in
    let asked = asked_by_chain os ps one.value.value rest.value.value in
    let free = front_nil one.faults (rest.faults ++ asked) e in
    let later = back_nil one.faults (rest.faults ++ asked) e in
    let many : length os ≡ length rest.value.value.heads =
    length-map links (λ (l : JudgedLink). l.operator) ∙
    sym (length-map links (λ (l : JudgedLink). l.operand)) ∙
    sym (all-heads s one.value.parts (operands links)) in
    grown-as inner s p rest.value.parts (λ a. IsTyped one.value.value a ×
    AreTyped rest.value.value a) (IsTyped
    (chained_typed os ps one.value.value rest.value.value))
    (grown-then inner s p one.value.parts rest.value.parts (IsTyped one.value.value)
    (AreTyped rest.value.value)
    (looked-grown first.judge s p inner f may free)
    (all-grown (operands links) s one.value.parts inner fs may
    (front_nil rest.faults asked later)))
    (λ a sees t. chain-typed os ps one.value.value rest.value.value a (ap is_faultless free)
    (all-free s one.value.parts (operands links) (front_nil rest.faults asked later))
    many (back_nil rest.faults asked later) t.0 t.1)

-- ---- calls

pub call-fits : (i : Ident) (es : List Expression) → AllFitting es → Fitting (judge_call i es)
call-fits i es fs s p e inner may =
    let so = all_of s p es in
    let f = function_in_sight i.name s in
    let first = call_faults s.writing i.anchor (length es) f in
    let asked = argument_faults f so.value.value.heads in
    let later = back_nil first (so.faults ++ asked) e in
    grown-as inner s p so.value.parts (AreTyped so.value.value)
    (IsTyped (call_typed i f so.value.value))
    (all-grown es s p inner fs may (front_nil so.faults asked later))
    (λ a sees t. call-typed s.writing i f so.value.value a (sees.functions i.name)
    (subst (λ n. call_faults s.writing i.anchor n f ≡ []) (sym (all-heads s p es))
    (front_nil first (so.faults ++ asked) e)) (back_nil so.faults asked later) t)

-- ---- aggregates

pub at-place : (n : ℕ) (row : List Kind) (k : Kind) (more : List Kind) → drop n row ≡ k ∷ more →
    slice_get row n ≡ Some k
at-place zero [] k more p = absurd cc
at-place zero (x ∷ row) k more p = let same : x ≡ k = cc in ap (λ z. Some z) same
at-place (suc n) [] k more p = absurd cc
at-place (suc n) (x ∷ row) k more p = at-place n row k more p

-- the part that follows is the column of its place
in-group : (rows : List (List Kind)) (n : ℕ) (k : Kind) → Follows rows n (k ∷ []) →
    kind_at rows 0 n ≡ Some k
in-group [] n k f = absurd cc
in-group (r ∷ rows) n k f = at-place n r k f.0 f.1

barred : (may : Bool) → not may ≡ false → may ≡ true
barred true p = refl
barred false p = absurd cc

one-kind : (o : Option Kind) (k : Kind) → o ≡ Some k →
    then o (λ j. then (Some []) (λ js. Some (j ∷ js))) ≡ Some (k ∷ [])
one-kind o k p = ap (λ z. then z (λ j. Some (j ∷ []))) p

one-aggregate : (b : Bool) (g : Kind) → b ≡ true →
    only_if b (then (Some []) (λ gs. Some (g ∷ gs))) ≡ Some (g ∷ [])
one-aggregate b g p = ap (λ z. only_if z (Some (g ∷ []))) p

pub aggregate-fits : (at : Anchor) (kind : FoldKind) (es : List Expression) → AllFitting es →
    Fitting (judge_aggregate at kind es)
aggregate-fits at kind es fs s p e inner may =
    let below = inside_aggregate s in
    let so = all_of below no_parts es in
    let bar = fault_if (not (may_stand s.levels)) NotPermitted at in
    let asked = aggregate_faults at kind so.value.value.heads in
    let later = back_nil bar (so.faults ++ asked) e in
    let stands = barred (may_stand s.levels) (no_fault (not (may_stand s.levels)) NotPermitted at
    (front_nil bar (so.faults ++ asked) e)) in
    let typed = grown-alone inner below no_parts so.value.parts (AreTyped so.value.value)
    (never s.levels)
    (all-grown es below no_parts inner fs (none-aggregating below inner (never s.levels))
    (front_nil so.faults asked later)) inner (may stands) in
    let argument = argument-typed at kind so.value.value inner (back_nil so.faults asked later)
    typed in
    let given = aggregate_gives kind argument.0 in
    let tree = argument_of so.value.value.trees in
    let place = length p.trees in
    record {
      trees = tree ∷ [];
      folds = kind ∷ [];
      kinds = given ∷ [];
      later = refl;
      aggregates = refl;
      finished = (
        argument.0 ∷ [],
        one-kind (kind_of tree inner) argument.0 argument.1,
        one-aggregate (aggregate_allows kind argument.0) given argument.2,
      );
      as_many = refl;
      none = λ m. absurd (both-ways (may_stand s.levels) m stands);
      claim = λ a sees f. (
        given,
        column-kind 0 place a ∙
            in-group a.rows place given f,
        argument.3,
      );
    }

-- ---- subqueries

pub single-fits : (query : QueryJudge) → QueryFits query → Fitting (judge_single query)
single-fits query f s p e inner may =
    let q = query [] s in
    let free = front_nil q.faults (width_faults q.value) e in
    grown-nothing inner s p (IsTyped (single q.value))
    (λ a sees. single-typed q.value a (back_nil q.faults (width_faults q.value) e)
    (f [] s free a sees).0)

pub exists-fits : (at : Anchor) (query : QueryJudge) → QueryFits query →
    Fitting (judge_exists at query)
exists-fits at query f s p e inner may =
    let q = query [] s in
    grown-nothing inner s p (IsTyped (exists at q.value))
    (λ a sees. exists-typed at q.value a (f [] s e a sees).0)

pub member-fits : (at : Anchor) (negated : Bool) (left : Expression) (query : QueryJudge) →
    Fitting left.judge → QueryFits query → Fitting (judge_member at negated left query)
member-fits at negated left query f g s p e inner may =
    let one = look left.judge s p in
    let q = query [] s in
    let asked = member_faults one.value.value q.value in
    let later = back_nil one.faults (q.faults ++ asked) e in
    let free = front_nil q.faults asked later in
    grown-as inner s p one.value.parts (IsTyped one.value.value)
    (IsTyped (member at negated one.value.value q.value))
    (looked-grown left.judge s p inner f may (front_nil one.faults (q.faults ++ asked) e))
    (λ a sees t. member-typed at negated one.value.value q.value a (back_nil q.faults asked later) t
    (g [] s free a sees).0)
