-- A statement at a token has one outcome.
use Rattle.std.proofs.Common.{◌≡◌, ◌≤◌, ◌+◌, ℕ, suc, true, false, List, [], Some, None, length, ap}
use Rattle.std.proofs.Common.{ap₂, sym, ◌∙◌, subst, inl, inr, arith}
use Rattle.sql_lex.specs.Tokens.{Lexing}
use Rattle.sql_lex.specs.Openings.{place_at}
use Rattle.statement_trees.specs.declared.statement.Stmt.{Stmt}
use Rattle.grammar_algebra.specs.Statement.{BeginsWithin, IsStuck, IsTooDeep, IsFurthest, most_open}
use Rattle.grammar_algebra.proofs.Laws.{one_spelling}
use Rattle.grammar_sql.specs.Sql.{rules, statement}
use Rattle.grammar_sql.specs.Decides.{all_decide, statement_decides, statement_ends}
use Rattle.bind_faults.specs.declared.fault.Fault.{Fault}
use Rattle.bind_faults.specs.Faults.{Noted, least}
use Rattle.bound_trees.specs.declared.query.BoundQuery.{BoundQuery}
use Rattle.bind_direct.specs.declared.bound.Bound.{Bound}
use Rattle.bind_direct.specs.declared.bound.Bound.TheVariants as bound
use Rattle.bind_direct.specs.declared.bound.BoundStatement.{BoundStatement}
use Rattle.bind_statements.specs.Statements.{judged_statement, anchor_of}
use Rattle.reply_text.specs.declared.fault.FaultText.{FaultText}
use Rattle.reply_text.specs.Texts.{fault_text}
use Rattle.psm_effects.specs.Database.{Plain}
use Rattle.psm_effects.specs.Explaining.{explained}
use Rattle.psm_session.specs.Effects.{is_done}
use Rattle.psm_session.specs.Executing.{HasExplained, HasFault, Executes, Checks, reply_to}
use Rattle.psm_session.specs.Statement.{Reads, Stops, Doing, IsRead, IsUnread, StatementBy}

-- ---- what comes of a statement

no_least : (faults : List Fault) (fault : Fault) → faults ≡ [] → least faults ≡ Some fault → ⊥
no_least faults fault none some = let e : None ≡ Some fault = sym (ap least none) ∙ some in cc

some_same : {A : Type 0} (a b : A) → Some a ≡ Some b → a ≡ b
some_same a b e = cc

-- an EXPLAIN has no other effect
both_runs : (found : Noted BoundStatement) (q : BoundQuery) → is_done found.value.bound ≡ true →
    found.value.bound ≡ bound.Explain q → ⊥
both_runs found q p is = let e : true ≡ false = sym p ∙ ap is_done is in cc

one_fault : (found : Noted BoundStatement) (before : Plain) (r r' : List ℕ) (after after' : Plain) →
    HasFault found before r after → HasFault found before r' after'
    → (r ≡ r') × (after ≡ after')
one_fault found before r r' after after' p q =
    let same : p.fault ≡ q.fault = some_same p.fault q.fault (sym p.is_least ∙ q.is_least) in
    (p.replies ∙ ap reply_to same ∙ sym q.replies, p.leaves ∙ sym q.leaves)

-- the query that is explained
abbrev query_in : BoundQuery → Bound → BoundQuery
query_in other (bound.Explain query) = query
query_in other _ = other

one_explained : (found : Noted BoundStatement) (before : Plain) (r r' : List ℕ)
    (after after' : Plain) → HasExplained found before r after → HasExplained found before r' after'
    → (r ≡ r') × (after ≡ after')
one_explained found before r r' after after' p q =
    let same : p.query ≡ q.query = ap (query_in p.query) (sym p.explains ∙ q.explains) in (
      p.replies.replies ∙ ap (explained before.catalog) same ∙ sym q.replies.replies,
      p.leaves ∙ sym q.leaves,
    )

-- What is done with a statement that is read has one reply, and leaves one database.
abbrev pub IsOne : Doing → Type 0
IsOne Does = (tree : Stmt) (before : Plain) (r r' : List ℕ) (after after' : Plain) →
    Does (judged_statement tree before.catalog) (anchor_of tree) before r after
    → Does (judged_statement tree before.catalog) (anchor_of tree) before r' after' → (r ≡ r') ×
    (after ≡ after')

pub one_execution : (budget : ℕ) → IsOne (Executes budget)
one_execution budget tree before r r' after after' (inl p) (inl q) =
    (p.replies ∙ sym q.replies, p.leaves ∙ sym q.leaves)
one_execution budget tree before r r' after after' (inl p) (inr (inl q)) =
    absurd (both_runs (judged_statement tree before.catalog) q.query p.runs q.explains)
one_execution budget tree before r r' after after' (inl p) (inr (inr q)) =
    absurd (no_least (judged_statement tree before.catalog).faults q.fault p.valid q.is_least)
one_execution budget tree before r r' after after' (inr (inl p)) (inl q) =
    absurd (both_runs (judged_statement tree before.catalog) p.query q.runs p.explains)
one_execution budget tree before r r' after after' (inr (inl p)) (inr (inl q)) =
    one_explained (judged_statement tree before.catalog) before r r' after after' p q
one_execution budget tree before r r' after after' (inr (inl p)) (inr (inr q)) =
    absurd (no_least (judged_statement tree before.catalog).faults q.fault p.valid q.is_least)
one_execution budget tree before r r' after after' (inr (inr p)) (inl q) =
    absurd (no_least (judged_statement tree before.catalog).faults p.fault q.valid p.is_least)
one_execution budget tree before r r' after after' (inr (inr p)) (inr (inl q)) =
    absurd (no_least (judged_statement tree before.catalog).faults p.fault q.valid p.is_least)
one_execution budget tree before r r' after after' (inr (inr p)) (inr (inr q)) =
    one_fault (judged_statement tree before.catalog) before r r' after after' p q

pub one_check : IsOne Checks
one_check tree before r r' after after' (inl p) (inl q) =
    (p.replies ∙ sym q.replies, p.leaves ∙ sym q.leaves)
one_check tree before r r' after after' (inl p) (inr q) =
    absurd (no_least (judged_statement tree before.catalog).faults q.fault p.valid q.is_least)
one_check tree before r r' after after' (inr p) (inl q) =
    absurd (no_least (judged_statement tree before.catalog).faults p.fault q.valid p.is_least)
one_check tree before r r' after after' (inr p) (inr q) =
    one_fault (judged_statement tree before.catalog) before r r' after after' p q

-- ---- what is read

one_tree : (t : Lexing) (at : ℕ) (tree tree' : Stmt) (end end' : ℕ) → Reads t at tree end →
    Reads t at tree' end' → (tree ≡ tree') × (end ≡ end')
one_tree t at tree tree' end end' p q =
    let here : at ≤ length t.tokens = let a : at ≤ end = p.0 in
    let b : end ≤ length t.tokens = p.1 in omega arith in
    one_spelling rules all_decide most_open statement statement_decides statement_ends t.tokens at
    here tree end tree' end' p q

-- where nothing is read, the place is one
one_place : (t : Lexing) (at place place' : ℕ) →
    IsFurthest rules most_open statement t.tokens at place →
    IsFurthest rules most_open statement t.tokens at place'
    → place ≡ place'
one_place t at place place' f g = let a : place ≤ place' = g.1 place f.0 in
    let b : place' ≤ place = f.1 place' g.0 in omega arith

stuck_or_deep : (t : Lexing) (at place place' : ℕ) →
    IsStuck rules most_open statement t.tokens at place →
    IsTooDeep rules most_open statement t.tokens at place' → ⊥
stuck_or_deep t at place place' stuck deep =
    let same : place' ≡ place = one_place t at place' place deep.0 stuck.0 in
    stuck.1 (
      suc most_open,
      subst (λ (k : ℕ). BeginsWithin rules (suc most_open) statement t.tokens
          at (k + 1)) same deep.1,
    )

-- and so is the reason
one_stop : (t : Lexing) (at : ℕ) (why why' : FaultText) (place place' : ℕ) → Stops t at why place →
    Stops t at why' place' → (why ≡ why') × (place ≡ place')
one_stop t at why why' place place' (inl p) (inl q) =
    (p.0 ∙ sym q.0, one_place t at place place' p.1.0 q.1.0)
one_stop t at why why' place place' (inl p) (inr q) =
    absurd (stuck_or_deep t at place place' p.1 q.1)
one_stop t at why why' place place' (inr p) (inl q) =
    absurd (stuck_or_deep t at place' place q.1 p.1)
one_stop t at why why' place place' (inr p) (inr q) =
    (p.0 ∙ sym q.0, one_place t at place place' p.1.0 q.1.0)

one_unread : (t : Lexing) (at : ℕ) (before : Plain) (r r' : List ℕ) (to to' : ℕ)
    (after after' : Plain)
    → IsUnread t at before r to after → IsUnread t at before r' to' after' → (r ≡ r') × (to ≡ to') ×
    (after ≡ after')
one_unread t at before r r' to to' after after' p q =
    let same = one_stop t at p.why q.why p.place q.place p.stops q.stops in
    let text : fault_text p.why (place_at t p.place).0 (place_at t p.place).1 ≡ fault_text q.why
    (place_at t q.place).0 (place_at t q.place).1 =
    ap₂ (λ (why : FaultText) (place : ℕ). fault_text why (place_at t place).0 (place_at t place).1)
    same.0 same.1 in
    (p.replies ∙ text ∙ sym q.replies, p.ends ∙ sym q.ends, p.leaves ∙ sym q.leaves)

-- ---- the statement

module _ (Does : Doing) (one : IsOne Does) where
  one_read : (t : Lexing) (at : ℕ) (before : Plain) (r r' : List ℕ) (to to' : ℕ)
      (after after' : Plain)
      → IsRead Does t at before r to after → IsRead Does t at before r' to' after' → (r ≡ r') ×
      (to ≡ to') × (after ≡ after')
  one_read t at before r r' to to' after after' p q =
      let same = one_tree t at p.tree q.tree to to' p.reads q.reads in
      let there : Does (judged_statement q.tree before.catalog) (anchor_of q.tree) before r after =
      subst (λ (tree : Stmt). Does (judged_statement tree before.catalog) (anchor_of tree) before r
      after) same.0 p.does in
      let done = one q.tree before r r' after after' there q.does in
      (done.0, same.1, done.1)

  pub Statement-one : (t : Lexing) (at : ℕ) (before : Plain) (r r' : List ℕ) (to to' : ℕ)
      (after after' : Plain)
      → StatementBy Does t at before r to after → StatementBy Does t at before r' to' after' →
      (r ≡ r') × (to ≡ to') × (after ≡ after')
  Statement-one t at before r r' to to' after after' (inl p) (inl q) =
      one_read t at before r r' to to' after after' p q
  Statement-one t at before r r' to to' after after' (inl p) (inr q) =
      absurd (q.nothing p.tree to p.reads)
  Statement-one t at before r r' to to' after after' (inr p) (inl q) =
      absurd (p.nothing q.tree to' q.reads)
  Statement-one t at before r r' to to' after after' (inr p) (inr q) =
      one_unread t at before r r' to to' after after' p q
