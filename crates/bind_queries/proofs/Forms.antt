-- Expressions without faults, of each form: what is noted is what the bound tree uses, and it has a
-- plan where each function that is used has one.
use Rattle.std.proofs.Common.{◌≡◌, refl, sym, ap, ◌∙◌, arith, ℕ, suc, Bool, true, false, not, ◌&&◌}
use Rattle.std.proofs.Common.{◌==◌, nat_lt, List, [], ◌∷◌, ◌++◌, map, length, Option, Some, None}
use Rattle.std.specs.Prelude.{nat_le}
use Rattle.std.proofs.lemmas.Bool.{and_parts}
use Rattle.std.proofs.lemmas.List.{length-map}
use Rattle.std.proofs.lemmas.Bool.Decides.{nat_tests}
use Rattle.sql_values.specs.declared.fold.FoldKind.{FoldKind}
use Rattle.sql_values.specs.declared.fold.FoldKind.TheVariants.{Count, Sum, Avg, Min, Max}
use Rattle.sql_values.specs.declared.value.Value.TheVariants.{Null, Bool as Truth}
use Rattle.syntax_trees.specs.declared.anchor.Anchor.{Anchor}
use Rattle.syntax_trees.specs.declared.anchor.Ident.{Ident}
use Rattle.syntax_trees.specs.declared.expr.Operation.{Operation}
use Rattle.bound_trees.specs.declared.expr.BoundExpr.{BoundExpr}
use Rattle.bound_trees.specs.declared.expr.BoundExpr.TheVariants as bound
use Rattle.catalog_store.specs.Catalog.{object_named}
use Rattle.catalog_store.specs.Planning.{AllPlanned}
use Rattle.catalog_store.specs.Uses.{uses_in}
use Rattle.catalog_store.specs.declared.entry.FunctionHead.{FunctionHead}
use Rattle.bind_faults.specs.declared.fault.FaultKind.TheVariants.{NotPermitted, WrongCount}
use Rattle.bind_faults.specs.Faults.{fault_if}
use Rattle.bind_kinds.specs.Aggregates.{aggregate_asked, argument_of}
use Rattle.bind_kinds.specs.declared.kind.Kind.{Kind}
use Rattle.bind_sight.specs.declared.sight.Referent.{Referent}
use Rattle.bind_sight.specs.declared.sight.Referent.TheVariants.{Column, Guessed, Variable, Barred}
use Rattle.bind_sight.specs.declared.sight.Referent.TheVariants.{Several, Unknown}
use Rattle.bind_sight.specs.Sight.{Level, Seen, may_stand, ungrouped, inside_aggregate}
use Rattle.bind_parts.specs.declared.aggregates.Parts.{Parts}
use Rattle.bind_parts.specs.declared.typed.Operands.{Operands}
use Rattle.bind_parts.specs.Typed.{no_parts, named, asked_of, asked_by_chain, takes_arguments}
use Rattle.bind_parts.specs.Typed.{argument_faults, function_known, function_in_sight, is_modifying}
use Rattle.bind_parts.specs.Subqueries.{width_faults, member_faults}
use Rattle.bind_queries.specs.Judges.{Expression, JudgedLink, QueryJudge, Judge, look, all_of}
use Rattle.bind_queries.specs.Judges.{operators, places, operands, called, judge_call}
use Rattle.bind_queries.specs.Judges.{judge_operation, judge_aggregate, judge_chain, judge_single}
use Rattle.bind_queries.specs.Judges.{judge_exists, judge_member}
use Rattle.bind_queries.specs.Runs.{is_run}
use Rattle.bind_queries.proofs.Sets.{front_nil, back_nil, no_fault, equal}
use Rattle.bind_queries.proofs.Runs.{planned-call}
use Rattle.bind_queries.proofs.Marks.{Known, known_in, Mark, ◌⊕◌, Covers, covers-as, covers-nothing}
use Rattle.bind_queries.proofs.Marks.{Grows, grows-nothing, grows-as, grows-then, grown-alone}
use Rattle.bind_queries.proofs.Marks.{right-nothing, marks-one, mark, marks, Alike, alike-is}
use Rattle.bind_queries.proofs.Marks.{alike-then, alike-both, alike-self}
use Rattle.bind_queries.proofs.Bound.{literal-covers, column-covers, variable-covers}
use Rattle.bind_queries.proofs.Bound.{alike-literal, alike-column}
use Rattle.bind_queries.proofs.Bound.{alike-operation, alike-chain, call-mark, alike-call}
use Rattle.bind_queries.proofs.Bound.{query-mark, alike-single, alike-exists, alike-member}

module _ (known : Known) (planned : AllPlanned known.catalog) where
  -- what an expression makes of a sight of this catalog, where it makes no fault
  abbrev pub Fitting : Judge → Type 0
  Fitting j = (s : Seen) (p : Parts) → known_in s ≡ known → (j s p).faults ≡ [] →
      Grows known s p (j s p).value.parts (j s p).uses (mark known (j s p).value.value.tree)

  abbrev pub AllFitting : List Expression → Type 0
  AllFitting [] = Unit {0}
  AllFitting (e ∷ es) = Fitting e.judge × AllFitting es

  abbrev pub QueryFits : QueryJudge → Type 0
  QueryFits j = (targets : List Kind) (s : Seen) → known_in s ≡ known → (j targets s).faults ≡ [] →
      Covers known (j targets s).uses (query-mark known (j targets s).value.tree)

  -- ---- operands

  pub all-grow : (es : List Expression) (s : Seen) (p : Parts) → AllFitting es →
      known_in s ≡ known → (all_of s p es).faults ≡ []
      → Grows known s p (all_of s p es).value.parts (all_of s p es).uses
      (marks known (all_of s p es).value.value.trees)
  all-grow [] s p fs is e = grows-nothing known s p [] (marks known []) (covers-nothing known)
  all-grow (x ∷ es) s p fs is e =
      let one = x.judge s p in
      let rest = all_of s one.value.parts es in
      grows-then known s p one.value.parts rest.value.parts one.uses rest.uses
      (mark known one.value.value.tree) (marks known rest.value.value.trees)
      (fs.0 s p is (front_nil one.faults rest.faults e))
      (all-grow es s one.value.parts fs.1 is (back_nil one.faults rest.faults e))

  pub all-length : (s : Seen) (p : Parts) (es : List Expression) →
      length (all_of s p es).value.value.trees ≡ length es
  all-length s p [] = refl
  all-length s p (e ∷ es) = ap (λ n. suc n) (all-length s (e.judge s p).value.parts es)

  pub as-many : (s : Seen) (p : Parts) (es : List Expression) →
      length (all_of s p es).value.value.trees ≡ length (all_of s p es).value.value.heads
  as-many s p [] = refl
  as-many s p (e ∷ es) = ap (λ n. suc n) (as-many s (e.judge s p).value.parts es)

  -- ---- names

  pub named-covers : (at : Anchor) (found : Referent) → (named at found).faults ≡ [] →
      Covers known (named at found).uses (mark known (named at found).value.tree)
  named-covers at (Column level place kind) p = column-covers known level place
  named-covers at (Guessed level item) p = literal-covers known Null
  named-covers at (Variable place kind) p = variable-covers known place
  named-covers at Barred p = absurd cc
  named-covers at Several p = absurd cc
  named-covers at Unknown p = absurd cc

  -- ---- words

  pub operation-fits : (at : Anchor) (operation : Operation) (es : List Expression) →
      AllFitting es → Fitting (judge_operation at operation es)
  operation-fits at operation es fs s p is e =
      let so = all_of s p es in
      grows-as known s p so.value.parts so.uses (marks known so.value.value.trees) _
      (all-grow es s p fs is (front_nil so.faults (asked_of operation so.value.value) e))
      (alike-operation known operation so.value.value.trees)

  pub chain-fits : (first : Expression) (links : List JudgedLink) → Fitting first.judge →
      AllFitting (operands links) → Fitting (judge_chain first links)
  chain-fits first links f fs s p is e =
      let one = first.judge s p in
      let rest = all_of s one.value.parts (operands links) in
      let asked = asked_by_chain (operators links) (places links) (look first.judge s p).value.value
      rest.value.value in
      let later = back_nil one.faults (rest.faults ++ asked) e in
      let many : length (operators links) ≡ length rest.value.value.trees =
      length-map links (λ (l : JudgedLink). l.operator) ∙
      sym (length-map links (λ (l : JudgedLink). l.operand)) ∙
      sym (all-length s one.value.parts (operands links)) in
      grows-as known s p rest.value.parts (one.uses ++ rest.uses)
      (mark known one.value.value.tree ⊕ marks known rest.value.value.trees) _
      (grows-then known s p one.value.parts rest.value.parts one.uses rest.uses
      (mark known one.value.value.tree) (marks known rest.value.value.trees)
      (f s p is (front_nil one.faults (rest.faults ++ asked) e))
      (all-grow (operands links) s one.value.parts fs is (front_nil rest.faults asked later)))
      (alike-chain known one.value.value.tree (operators links) rest.value.value.trees many)

  -- ---- calls

  call-covers : (name : List ℕ) (h : FunctionHead) (arguments : ℕ) →
      function_known name known.own known.catalog ≡ Some h → arguments ≡ length h.parameters →
      Covers known (name ∷ []) (call-mark known name arguments)
  call-covers name h arguments p n = (
    ((h, p, sym n), tt),
    λ may. planned-call known.catalog known.own name h arguments planned may.0 p n
        (and_parts (is_run (object_named name known.catalog)) true may.1).0,
    λ other. refl,
  )

  called-fits : (i : Ident) (es : List Expression) (s : Seen) (p : Parts) (f : Option FunctionHead)
      → AllFitting es → known_in s ≡ known → function_in_sight i.name s ≡ f
      → (called s.writing i (length es) f (all_of s p es)).faults ≡ []
      → Grows known s p (called s.writing i (length es) f (all_of s p es)).value.parts
      (called s.writing i (length es) f (all_of s p es)).uses
      (mark known (called s.writing i (length es) f (all_of s p es)).value.value.tree)
  called-fits i es s p None fs is at e = absurd cc
  called-fits i es s p (Some h) fs is at e =
      let args = all_of s p es in
      let trees = args.value.value.trees in
      let many = fault_if (not (length es == length h.parameters)) WrongCount i.anchor in
      let barred = fault_if (s.writing && is_modifying h.access) NotPermitted i.anchor in
      let asked = argument_faults (Some h) args.value.value.heads in
      let same : length es ≡ length h.parameters =
      equal (length es) (length h.parameters)
      (no_fault _ _ i.anchor (front_nil many barred
      (front_nil (many ++ barred) (args.faults ++ asked) e))) in
      let count : length (map uses_in trees) ≡ length h.parameters = length-map trees uses_in ∙
      all-length s p es ∙ same in
      let call = call-mark known i.name (length (map uses_in trees)) in
      grows-as known s p args.value.parts (i.name ∷ args.uses) (call ⊕ marks known trees) _
      (grows-then known s p p args.value.parts (i.name ∷ []) args.uses call (marks known trees)
      (grows-nothing known s p (i.name ∷ []) call
      (call-covers i.name h (length (map uses_in trees))
      (sym (ap (λ (k : Known). function_known i.name k.own k.catalog) is) ∙ at) count))
      (all-grow es s p fs is (front_nil args.faults asked
      (back_nil (many ++ barred) (args.faults ++ asked) e))))
      (alike-call known i.name trees)

  pub call-fits : (i : Ident) (es : List Expression) → AllFitting es → Fitting (judge_call i es)
  call-fits i es fs s p is e = called-fits i es s p (function_in_sight i.name s) fs is refl e

  -- ---- aggregates

  never : (ls : List Level) → may_stand (ungrouped ls) ≡ false
  never [] = refl
  never (l ∷ ls) = refl

  several : (n : ℕ) → nat_lt 1 (suc (suc n)) ≡ false → ⊥
  several n p = grind (arith, nat_tests)

  known-true : (b : Bool) → not b ≡ false → b ≡ true
  known-true true p = refl
  known-true false p = cc

  at-most-one : (n : ℕ) → nat_le n 1 ≡ true → nat_lt 1 n ≡ false
  at-most-one n p = grind (arith, nat_tests)

  just-one : (n : ℕ) → (n == 1) ≡ true → nat_lt 1 n ≡ false
  just-one n p = grind (arith, nat_tests)

  not-several : (kind : FoldKind) (n : ℕ) → not (takes_arguments kind n) ≡ false →
      nat_lt 1 n ≡ false
  not-several Count n p = at-most-one n (known-true (nat_le n 1) p)
  not-several Sum n p = just-one n (known-true (n == 1) p)
  not-several Avg n p = just-one n (known-true (n == 1) p)
  not-several Min n p = just-one n (known-true (n == 1) p)
  not-several Max n p = just-one n (known-true (n == 1) p)

  alike-argument : (so : Operands) → length so.trees ≡ length so.heads →
      nat_lt 1 (length so.heads) ≡ false → Alike known (marks known so.trees)
      (marks known (argument_of so.trees ∷ []))
  alike-argument so n p = of-trees so.trees (ap (nat_lt 1) n ∙ p)
    where
      of-trees : (es : List BoundExpr) → nat_lt 1 (length es) ≡ false →
          Alike known (marks known es) (marks known (argument_of es ∷ []))
      of-trees [] q =
          alike-then known (marks known []) (mark known (bound.Literal (Truth true)))
          (marks known (bound.Literal (Truth true) ∷ [])) (alike-literal known (Truth true))
          (alike-is known (mark known (bound.Literal (Truth true)))
          (marks known (bound.Literal (Truth true) ∷ []))
          (marks-one known (bound.Literal (Truth true))))
      of-trees (e ∷ []) q = alike-self known (marks known (e ∷ []))
      of-trees (e ∷ d ∷ es) q = absurd (several (length es) q)

  pub aggregate-fits : (at : Anchor) (kind : FoldKind) (es : List Expression) → AllFitting es →
      Fitting (judge_aggregate at kind es)
  aggregate-fits at kind es fs s p is e =
      let inner = inside_aggregate s in
      let so = all_of inner no_parts es in
      let asked = aggregate_asked kind so.value.value.heads in
      let wrong = not (takes_arguments kind (length so.value.value.heads)) in
      let many = fault_if wrong WrongCount at in
      let bar = fault_if (not (may_stand s.levels)) NotPermitted at in
      let after = back_nil bar (so.faults ++ (asked ++ many)) e in
      let covers = grown-alone known inner no_parts so.value.parts so.uses
      (marks known so.value.value.trees) (never s.levels)
      (all-grow es inner no_parts fs is (front_nil so.faults (asked ++ many) after)) in
      let taken = no_fault wrong WrongCount at
      (back_nil asked many (back_nil so.faults (asked ++ many) after)) in
      let one = not-several kind (length so.value.value.heads) taken in
      let may = no_fault (not (may_stand s.levels)) NotPermitted at
      (front_nil bar (so.faults ++ (asked ++ many)) e) in
      let argument = argument_of so.value.value.trees in
      let column = bound.Column 0 (length p.trees) in (
        argument ∷ [],
        refl,
        covers-as known so.uses (marks known so.value.value.trees)
            (marks known (argument ∷ []) ⊕ mark known column) covers
            (alike-then known (marks known so.value.value.trees) (marks known (argument ∷ []))
            (marks known (argument ∷ []) ⊕ mark known column)
            (alike-argument so.value.value (as-many inner no_parts es) one)
            (with-nothing (marks known (argument ∷ [])) (mark known column)
            (alike-column known 0 (length p.trees)))),
        λ m. absurd (barred (may_stand s.levels) m may),
      )
    where
      barred : (may : Bool) → may ≡ false → not may ≡ false → ⊥
      barred true m n = cc
      barred false m n = cc

      with-nothing : (a b : Mark) → Alike known (marks known []) b → Alike known a (a ⊕ b)
      with-nothing a b same =
          alike-then known a (a ⊕ marks known []) (a ⊕ b)
          (alike-is known a (a ⊕ marks known []) (right-nothing known a))
          (alike-both known a a (marks known []) b (alike-self known a) same)

  -- ---- subqueries

  pub single-fits : (query : QueryJudge) → QueryFits query → Fitting (judge_single query)
  single-fits query f s p is e =
      let q = query [] s in
      grows-nothing known s p q.uses (mark known (bound.Single q.value.tree))
      (covers-as known q.uses (query-mark known q.value.tree)
      (mark known (bound.Single q.value.tree))
      (f [] s is (front_nil q.faults (width_faults q.value) e))
      (alike-single known q.value.tree))

  pub exists-fits : (at : Anchor) (query : QueryJudge) → QueryFits query →
      Fitting (judge_exists at query)
  exists-fits at query f s p is e =
      let q = query [] s in
      grows-nothing known s p q.uses (mark known (bound.Exists q.value.tree))
      (covers-as known q.uses (query-mark known q.value.tree)
      (mark known (bound.Exists q.value.tree)) (f [] s is e) (alike-exists known q.value.tree))

  pub member-fits : (at : Anchor) (negated : Bool) (left : Expression) (query : QueryJudge) →
      Fitting left.judge → QueryFits query → Fitting (judge_member at negated left query)
  member-fits at negated left query f g s p is e =
      let one = left.judge s p in
      let q = query [] s in
      let asked = member_faults (look left.judge s p).value.value q.value in
      let later = back_nil one.faults (q.faults ++ asked) e in
      grows-as known s p one.value.parts (one.uses ++ q.uses)
      (mark known one.value.value.tree ⊕ query-mark known q.value.tree) _
      (grows-then known s p one.value.parts one.value.parts one.uses q.uses
      (mark known one.value.value.tree) (query-mark known q.value.tree)
      (f s p is (front_nil one.faults (q.faults ++ asked) e))
      (grows-nothing known s one.value.parts q.uses (query-mark known q.value.tree)
      (g [] s is (front_nil q.faults asked later))))
      (alike-member known negated one.value.value.tree q.value.tree)
