-- One step of each loop over expressions, and the forms that have two parts, over plain variables.
use Rattle.std.proofs.Common.{◌≡◌, refl, sym, ap, ap₂, ◌∙◌, Bool, List, [], ◌∷◌, ◌++◌, append_assoc}
use Rattle.std.proofs.Common.{Option, ℕ, ◌+◌, ◌<◌, map, drop, length, get_or}
use Rattle.std.proofs.lemmas.List.{length-map}
use Rattle.syntax_trees.specs.declared.anchor.Anchor.{Anchor}
use Rattle.syntax_trees.specs.declared.anchor.Ident.{Ident}
use Rattle.syntax_trees.specs.declared.expr.ChainOperator.{ChainOperator}
use Rattle.syntax_trees.specs.declared.expr.Expr.{Expr, fold-roll-Expr}
use Rattle.syntax_trees.specs.declared.expr.Expr.TheOpen.{Expr-F}
use Rattle.syntax_trees.specs.declared.expr.Expr.TheVariants.{rolls-Chain, rolls-Operation}
use Rattle.syntax_trees.specs.declared.expr.Expr.TheVariants.{rolls-Subquery, rolls-InQuery}
use Rattle.syntax_trees.specs.declared.expr.Expr.TheViews as tree
use Rattle.syntax_trees.specs.declared.expr.Link.{Link, fold_out-Link}
use Rattle.syntax_trees.specs.declared.expr.Operation.{Operation}
use Rattle.syntax_trees.specs.declared.query.Query.{Query}
use Rattle.bound_trees.specs.declared.expr.BoundExpr.{BoundExpr}
use Rattle.bind_faults.specs.declared.notes.Notes.{Notes}
use Rattle.bind_faults.specs.declared.fault.Fault.{Fault}
use Rattle.bind_faults.specs.Faults.{Noted, noted, taken, as_value, ◌>>=◌}
use Rattle.bind_faults.proofs.Laws.{noted_append}
use Rattle.bind_kinds.specs.declared.kind.OperandHead.{OperandHead}
use Rattle.bind_kinds.specs.declared.kind.Kind.{Kind}
use Rattle.catalog_store.specs.declared.entry.FunctionHead.{FunctionHead}
use Rattle.bind_parts.specs.declared.typed.Typed.{Typed}
use Rattle.bind_parts.specs.declared.typed.Operands.{Operands}
use Rattle.bind_parts.specs.declared.typed.TypedQuery.{TypedQuery}
use Rattle.bind_parts.specs.declared.values.TypedRows.{TypedRows}
use Rattle.bind_sight.specs.Sight.{Seen}
use Rattle.bind_parts.specs.declared.aggregates.Parts.{Parts}
use Rattle.bind_parts.specs.Typed.{Beside, in_front, with_last, operated_typed, asked_of}
use Rattle.bind_parts.specs.Typed.{call_head, call_typed}
use Rattle.bind_parts.specs.Typed.{argument_faults, function_in_sight}
use Rattle.bind_parts.specs.Subqueries.{single, width_faults}
use Rattle.bind_parts.specs.Turns.{each_noted}
use Rattle.bind_parts.specs.ValueRows.{row_faults}
use Rattle.bind_parts.proofs.Laws.{unrolled, next}
use Rattle.bind_queries.specs.Judges.{Expression, JudgedItem, JudgedLink, JudgedRow, QueryJudge}
use Rattle.bind_queries.specs.Judges.{FromJudge, RefJudge, look, in_front_of, all_of, made, chained}
use Rattle.bind_queries.specs.Judges.{called, judge_call, over_query, member_in}
use Rattle.bind_queries.specs.Queries.{expr_step, from_step, query_step, item_step, ref_step}
use Rattle.bind_queries.specs.Queries.{row_step, link_step, select_step, values_step, expression}
use Rattle.bind_queries.specs.Queries.{judged_link, judge_query}
use Rattle.bind_queries.specs.Names.{inner, judge_after, all_after, chain_after, member_after}
use Rattle.bind_queries.specs.ValueRows.{row_values, one_row}

-- ---- lists of parts

module _ {A X Y : Type 0} (f : A → Y → Noted A) (g : X → Y) where
  pub each-value : (xs : List X) (i : ℕ) (x : X) (so more : A) → i < length xs → x ≡ get_or xs i x →
      more ≡ (f so (g x)).value
      → (each_noted f more (map g (drop (i + 1) xs))).value ≡
      (each_noted f so (map g (drop i xs))).value
  each-value xs i x so more h is p =
      ap (λ z. (each_noted f z (map g (drop (i + 1) xs))).value) p ∙
      ap (λ d. (each_noted f so (map g d)).value) (sym (unrolled xs i x h is))

  pub each-notes : (xs : List X) (i : ℕ) (x : X) (so more : A) (n m : Notes) → i < length xs →
      x ≡ get_or xs i x → more ≡ (f so (g x)).value → m ≡ taken n (f so (g x))
      → taken m (each_noted f more (map g (drop (i + 1) xs))) ≡ taken n
      (each_noted f so (map g (drop i xs)))
  each-notes xs i x so more n m h is p q =
      ap (λ z. taken m (each_noted f z (map g (drop (i + 1) xs)))) p
      ∙ next n m _ (f so (g x)) (each_noted f (f so (g x)).value (map g (drop (i + 1) xs))) q refl
      ∙ ap (λ d. taken n (each_noted f so (map g d))) (sym (unrolled xs i x h is))

-- ---- operands

abbrev pub appended : Operands → Operands → Operands
appended a b = record { heads = a.heads ++ b.heads; trees = a.trees ++ b.trees }

abbrev operands : List OperandHead → List BoundExpr → Operands
operands hs ts = record { heads = hs; trees = ts }

put-last : (so more left : Operands) (t u : Typed) → t ≡ u → more ≡ with_last so t →
    appended more left ≡ appended so (in_front u left)
put-last so more left t u p q =
    ap (λ z. appended z left) (q ∙ ap (with_last so) p)
    ∙ ap₂ operands (append_assoc so.heads (u.head ∷ []) left.heads)
    (append_assoc so.trees (u.tree ∷ []) left.trees)

module _ {X : Type 0} (g : X → Expression) (s : Seen) (xs : List X) (i : ℕ) (x : X) (p q : Parts)
    (h : i < length xs) (is : x ≡ get_or xs i x) (f : q ≡ (look (g x).judge s p).value.parts) where
  abbrev rest : Parts → Noted (Beside Operands)
  rest parts = all_of s parts (map g (drop (i + 1) xs))

  pub operands-value : (so more : Operands) (t : Typed) → t ≡ (look (g x).judge s p).value.value →
      more ≡ with_last so t
      → appended more (rest q).value.value ≡ appended so
      (all_of s p (map g (drop i xs))).value.value
  operands-value so more t e m =
      put-last so more (rest q).value.value t (look (g x).judge s p).value.value e m
      ∙ ap (λ z. appended so (in_front (look (g x).judge s p).value.value (rest z).value.value)) f
      ∙ ap (λ d. appended so (all_of s p (map g d)).value.value) (sym (unrolled xs i x h is))

  pub operands-parts : (rest q).value.parts ≡ (all_of s p (map g (drop i xs))).value.parts
  operands-parts = ap (λ z. (rest z).value.parts) f ∙
      ap (λ d. (all_of s p (map g d)).value.parts) (sym (unrolled xs i x h is))

  pub operands-notes : (n m : Notes) → m ≡ taken n (look (g x).judge s p) →
      taken m (rest q) ≡ taken n (all_of s p (map g (drop i xs)))
  operands-notes n m e =
      ap (λ z. taken m (rest z)) f
      ∙ next n m _ (look (g x).judge s p) (as_value (in_front_of (look (g x).judge s p).value.value)
      (rest (look (g x).judge s p).value.parts)) e refl
      ∙ ap (λ d. taken n (all_of s p (map g d))) (sym (unrolled xs i x h is))

-- ---- chains

link-same : (l : Link) → judged_link l ≡ record {
  operator = l.operator;
  anchor = l.anchor;
  operand = expression l.operand;
}
link-same l = fold_out-Link Expression FromJudge QueryJudge JudgedItem RefJudge JudgedRow JudgedLink
    QueryJudge QueryJudge expr_step from_step query_step item_step ref_step row_step link_step
    select_step values_step l

mapped : {A : Type 0} (f : JudgedLink → A) (g : Link → A) → ((l : Link) → f (judged_link l) ≡ g l) →
    (ls : List Link) → map f (map judged_link ls) ≡ map g ls
mapped f g same [] = refl
mapped f g same (l ∷ ls) = ap₂ (λ x xs. x ∷ xs) (same l) (mapped f g same ls)

chain_whole : (e first : Expr) (ls : List Link) (s : Seen) (p : Parts) → e ≡ tree.Chain first ls →
    inner e s p ≡ (judge_after first s p >>= λ t. chain_after ls t.value s t.parts)
chain_whole e first ls s p is =
    ap (λ x. inner x s p) (is ∙ sym (rolls-Chain first ls))
    ∙ ap (λ (j : Expression). j.judge s p) (fold-roll-Expr Expression FromJudge QueryJudge
    JudgedItem RefJudge JudgedRow JudgedLink QueryJudge QueryJudge expr_step from_step
    query_step item_step ref_step row_step link_step select_step values_step
    (Expr-F.Chain first ls))
    ∙ ap (λ os. chain os (map (λ l. l.anchor) (map judged_link ls))
    (map (λ l. l.operand) (map judged_link ls)))
    (mapped (λ l. l.operator) (λ l. l.operator)
    (λ l. ap (λ (k : JudgedLink). k.operator) (link-same l)) ls)
    ∙ ap (λ ats. chain (map (λ l. l.operator) ls) ats (map (λ l. l.operand) (map judged_link ls)))
    (mapped (λ l. l.anchor) (λ l. l.anchor) (λ l. ap (λ (k : JudgedLink). k.anchor) (link-same l))
    ls)
    ∙ ap (λ js. chain (map (λ l. l.operator) ls) (map (λ l. l.anchor) ls) js)
    (mapped (λ l. l.operand) (λ l. expression l.operand)
    (λ l. ap (λ (k : JudgedLink). k.operand) (link-same l)) ls)
  where
    chain : List ChainOperator → List Anchor → List Expression → Noted (Beside Typed)
    chain os ats js = chained os ats (judge_after first s p) (λ more. all_of s more js)

module _ (s : Seen) (p q : Parts) (e first : Expr) (ls : List Link) (is : e ≡ tree.Chain first ls)
    (t : Typed) (v : t ≡ (judge_after first s p).value.value)
    (f : q ≡ (judge_after first s p).value.parts) where
  abbrev left : Noted (Beside Typed)
  left = judge_after first s p

  after_first : chain_after ls t s q ≡ chain_after ls left.value.value s left.value.parts
  after_first = ap₂ (λ a b. chain_after ls a s b) v f

  pub chain_value : (result : Typed) → result ≡ (chain_after ls t s q).value.value →
      result ≡ (inner e s p).value.value
  chain_value result r =
      r ∙ ap (λ (x : Noted (Beside Typed)). x.value.value) after_first ∙
      ap (λ (x : Noted (Beside Typed)). x.value.value) (sym (chain_whole e first ls s p is))

  pub chain_parts : (parts : Parts) → parts ≡ (chain_after ls t s q).value.parts →
      parts ≡ (inner e s p).value.parts
  chain_parts parts r =
      r ∙ ap (λ (x : Noted (Beside Typed)). x.value.parts) after_first ∙
      ap (λ (x : Noted (Beside Typed)). x.value.parts) (sym (chain_whole e first ls s p is))

  pub chain_notes : (n n1 n2 : Notes) → n1 ≡ taken n left → n2 ≡ taken n1 (chain_after ls t s q) →
      n2 ≡ taken n (inner e s p)
  chain_notes n n1 n2 a b =
      next n n1 n2 left (chain_after ls left.value.value s left.value.parts) a
      (b ∙ ap (λ x. taken n1 x) after_first)
      ∙ ap (λ x. taken n x) (sym (chain_whole e first ls s p is))

-- ---- what is asked of operands, noted after them

abbrev notes_of : Option Fault → List (List ℕ) → Notes
notes_of least uses = record { least = least; uses = uses }

made_notes : (n m : Notes) (l : Option Fault) (so : Noted (Beside Operands)) (os : Operands)
    (value : Operands → Typed) (faults : Operands → List Fault) → m ≡ taken n so →
    os ≡ so.value.value
    → l ≡ noted m.least (faults os) → record { least = l; uses = m.uses } ≡ taken n
    (made value faults so)
made_notes n m l so os value faults p q r =
    let least : l ≡ noted n.least (so.faults ++ faults so.value.value) =
    r ∙ ap₂ (λ (k : Notes) (o : Operands). noted k.least (faults o)) p q ∙
    sym (noted_append n.least so.faults (faults so.value.value)) in
    let uses : m.uses ≡ n.uses ++ so.uses = ap (λ (k : Notes). k.uses) p in
    ap₂ notes_of least uses

pub call_notes : (s : Seen) (parts : Parts) (i : Ident) (es : List Expr) (f : Option FunctionHead)
    (n n1 n2 : Notes) (l : Option Fault) (args : Operands)
    → f ≡ function_in_sight i.name s → n1 ≡ taken n (call_head s.writing i (length es) f) →
    n2 ≡ taken n1 (all_after es s parts) → args ≡ (all_after es s parts).value.value
    → l ≡ noted n2.least (argument_faults f args.heads) →
    record { least = l; uses = n2.uses } ≡ taken n (judge_call i (map expression es) s parts)
call_notes s parts i es f n n1 n2 l args is p q v r =
    next n n1 _ (call_head s.writing i (length es) f)
    (made (call_typed i f) (λ o. argument_faults f o.heads) (all_after es s parts)) p
    (made_notes n1 n2 l (all_after es s parts) args (call_typed i f)
    (λ o. argument_faults f o.heads) q v r)
    ∙ ap (λ g. taken n (called s.writing i (length es) g (all_after es s parts))) is
    ∙ ap (λ k. taken n (called s.writing i k (function_in_sight i.name s) (all_after es s parts)))
    (sym (length-map es expression))

-- ---- a query after a left side

query_notes : (n m : Notes) (l : Option Fault) (q : Noted TypedQuery) (v : TypedQuery)
    (value : TypedQuery → Typed) (faults : TypedQuery → List Fault) (parts : Parts) →
    m ≡ taken n q → v ≡ q.value
    → l ≡ noted m.least (faults v) → record { least = l; uses = m.uses } ≡ taken n
    (over_query value faults parts q)
query_notes n m l q v value faults parts p e r =
    let least : l ≡ noted n.least (q.faults ++ faults q.value) =
    r ∙ ap₂ (λ (k : Notes) (o : TypedQuery). noted k.least (faults o)) p e ∙
    sym (noted_append n.least q.faults (faults q.value)) in
    let uses : m.uses ≡ n.uses ++ q.uses = ap (λ (k : Notes). k.uses) p in
    ap₂ notes_of least uses

module _ (s : Seen) (p : Parts) (e left : Expr) (at : Anchor) (negated : Bool) (q : Query)
    (is : e ≡ tree.InQuery at negated left q) where
  member_whole : inner e s p ≡ (judge_after left s p >>= member_in at negated (judge_query [] q s))
  member_whole =
      ap (λ x. inner x s p) (is ∙ sym (rolls-InQuery at negated left q))
      ∙ ap (λ (j : Expression). j.judge s p) (fold-roll-Expr Expression FromJudge QueryJudge
      JudgedItem RefJudge JudgedRow JudgedLink QueryJudge QueryJudge expr_step from_step
      query_step item_step ref_step row_step link_step select_step values_step
      (Expr-F.InQuery at negated left q))

  module _ (t : Typed) (b : t ≡ (judge_after left s p).value.value) where
    abbrev first : Noted (Beside Typed)
    first = judge_after left s p

    pub member_value : (result : Typed) → result ≡ (member_after at negated t q s).value →
        result ≡ (inner e s p).value.value
    member_value result r =
        r ∙ ap (λ z. (member_after at negated z q s).value) b ∙
        ap (λ (x : Noted (Beside Typed)). x.value.value) (sym member_whole)

    pub member_notes : (n n1 n2 : Notes) → n1 ≡ taken n first →
        n2 ≡ taken n1 (member_after at negated t q s) → n2 ≡ taken n (inner e s p)
    member_notes n n1 n2 a r =
        next n n1 n2 first (member_in at negated (judge_query [] q s) first.value) a
        (r ∙ ap (λ z. taken n1 (member_after at negated z q s)) b)
        ∙ ap (λ x. taken n x) (sym member_whole)

  pub member_parts : (parts : Parts) → parts ≡ (judge_after left s p).value.parts →
      parts ≡ (inner e s p).value.parts
  member_parts parts w = w ∙ ap (λ (x : Noted (Beside Typed)). x.value.parts) (sym member_whole)

-- ---- words, scalar subqueries and rows

part_notes : {A : Type 0} (n m : Notes) (l : Option Fault) (x : Noted A) (v : A)
    (faults : A → List Fault) → m ≡ taken n x → v ≡ x.value → l ≡ noted m.least (faults v)
    → notes_of l m.uses ≡ notes_of (noted n.least (x.faults ++ faults x.value)) (n.uses ++ x.uses)
part_notes n m l x v faults p e r =
    let least : l ≡ noted n.least (x.faults ++ faults x.value) =
    r ∙ ap (λ (k : Notes). noted k.least (faults v)) p ∙
    ap (λ o. noted (noted n.least x.faults) (faults o)) e ∙
    sym (noted_append n.least x.faults (faults x.value)) in
    let uses : m.uses ≡ n.uses ++ x.uses = ap (λ (k : Notes). k.uses) p in
    ap₂ notes_of least uses

pub operation_notes : (s : Seen) (p : Parts) (e : Expr) (at : Anchor) (operation : Operation)
    (es : List Expr) (n m : Notes) (l : Option Fault) (os : Operands) →
    e ≡ tree.Operation at operation es
    → m ≡ taken n (all_after es s p) → os ≡ (all_after es s p).value.value →
    l ≡ noted m.least (asked_of operation os) →
    record { least = l; uses = m.uses } ≡ taken n (inner e s p)
operation_notes s p e at operation es n m l os is a b r =
    made_notes n m l (all_after es s p) os (operated_typed at operation) (asked_of operation) a b r
    ∙ ap (λ x. taken n x)
    (sym (ap (λ x. inner x s p) (is ∙ sym (rolls-Operation at operation es)) ∙
    ap (λ (j : Expression). j.judge s p) (fold-roll-Expr Expression FromJudge QueryJudge
    JudgedItem RefJudge JudgedRow JudgedLink QueryJudge QueryJudge expr_step from_step
    query_step item_step ref_step row_step link_step select_step values_step
    (Expr-F.Operation at operation es))))

pub single_notes : (s : Seen) (p : Parts) (e : Expr) (q : Query) (n m : Notes) (l : Option Fault)
    (v : TypedQuery) → e ≡ tree.Subquery q
    → m ≡ taken n (judge_query [] q s) → v ≡ (judge_query [] q s).value →
    l ≡ noted m.least (width_faults v) → record { least = l; uses = m.uses } ≡ taken n
    (inner e s p)
single_notes s p e q n m l v is a b r =
    query_notes n m l (judge_query [] q s) v single width_faults p a b r
    ∙ ap (λ x. taken n x) (sym (ap (λ x. inner x s p) (is ∙ sym (rolls-Subquery q)) ∙
    ap (λ (j : Expression). j.judge s p) (fold-roll-Expr Expression FromJudge QueryJudge
    JudgedItem RefJudge JudgedRow JudgedLink QueryJudge QueryJudge expr_step from_step
    query_step item_step ref_step row_step link_step select_step values_step
    (Expr-F.Subquery q))))

pub row_notes : (s : Seen) (at : Anchor) (targets : List Kind) (so : TypedRows) (r : JudgedRow)
    (n m : Notes) (l : Option Fault) (os : Operands)
    → m ≡ taken n (row_values s r) → os ≡ (row_values s r).value →
    l ≡ noted m.least (row_faults at targets so.kinds os.heads)
    → record { least = l; uses = m.uses } ≡ taken n (one_row at targets s so r)
row_notes s at targets so r n m l os a b e = part_notes n m l (row_values s r) os
    (λ o. row_faults at targets so.kinds o.heads) a b e
