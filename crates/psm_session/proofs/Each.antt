-- At each token before the end stands a statement, or nothing is read there; either way there is a
-- reply, and the next one begins further on. The catalog's functions with plans go on having them.
use Rattle.std.proofs.Common.{◌≡◌, ◌<◌, ◌≤◌, ℕ, Bool, true, false, List, [], ◌∷◌, Some, Ok, Err}
use Rattle.std.proofs.Common.{length, drop, refl, ap, ◌∙◌, inl, inr, arith}
use Rattle.std.specs.Prelude.{if◌then◌else◌}
use Rattle.sql_lex.specs.Tokens.{Lexing}
use Rattle.syntax_trees.specs.declared.anchor.Anchor.{Anchor}
use Rattle.statement_trees.specs.declared.statement.Stmt.{Stmt}
use Rattle.grammar_algebra.specs.Reading.{Outcome, NoSpelling, TooDeep, reading}
use Rattle.grammar_algebra.specs.Statement.{Answers, at_places, ReadsNothing, most_open, place}
use Rattle.grammar_algebra.proofs.Laws.{reading_answers, goes_further}
use Rattle.grammar_sql.specs.Sql.{rules, statement}
use Rattle.grammar_sql.specs.Decides.{all_decide, statement_decides, statement_ends, statement_goes}
use Rattle.bind_faults.specs.declared.fault.Fault.{Fault}
use Rattle.bind_faults.specs.Faults.{Noted, noted, least, sooner}
use Rattle.bound_trees.specs.declared.query.BoundQuery.{BoundQuery}
use Rattle.bind_direct.specs.declared.bound.Bound.{Bound}
use Rattle.bind_direct.specs.declared.bound.Bound.TheVariants as bound
use Rattle.bind_direct.specs.declared.bound.BoundStatement.{BoundStatement}
use Rattle.bind_statements.specs.Binds.{BoundFits}
use Rattle.bind_statements.specs.Statements.{judged_statement, anchor_of}
use Rattle.bind_statements.proofs.Made.{faultless-fits}
use Rattle.reply_text.specs.declared.fault.FaultText.{FaultText}
use Rattle.reply_text.specs.declared.fault.FaultText.TheVariants as text
use Rattle.psm_effects.specs.Database.{Plain}
use Rattle.psm_effects.proofs.Laws.{some_explained}
use Rattle.psm_session.specs.Effects.{is_done, effect, checked}
use Rattle.psm_session.specs.Executing.{Executes, Checks}
use Rattle.psm_session.specs.Planned.{EachPlanned}
use Rattle.psm_session.specs.Statement.{Reads, Stops, Doing, StatementBy}
use Rattle.psm_session.proofs.KeptPlans.{planned-names, effect-planned, checked-planned}

-- ---- what comes of a statement

least_from : (first : Fault) (faults : List Fault) → (fault : Fault) ×
    (noted (Some first) faults ≡ Some fault)
least_from first [] = (first, refl)
least_from first (next ∷ faults) = least_from (if sooner next first then next else first) faults

-- something comes of a statement that is read, and functions with plans go on having them
abbrev pub IsSome : Doing → Type 0
IsSome Does = (tree : Stmt) (before : Plain) → EachPlanned before.catalog → (reply : List ℕ) ×
    (after : Plain) × Does (judged_statement tree before.catalog) (anchor_of tree) before reply after
    × EachPlanned after.catalog

explain-form : (b : Bound) → is_done b ≡ false → (q : BoundQuery) × (b ≡ bound.Explain q)
explain-form (bound.Create name object) h = absurd cc
explain-form (bound.Drop name) h = absurd cc
explain-form (bound.Insert s listed) h = absurd cc
explain-form (bound.Update s) h = absurd cc
explain-form (bound.Delete s) h = absurd cc
explain-form (bound.Query q) h = absurd cc
explain-form (bound.Explain q) h = (q, refl)
explain-form (bound.Routine s) h = absurd cc

-- of one that is found to be so, where it fits the catalog
execution-of : (budget : ℕ) (found : Noted BoundStatement) (at : Anchor) (before : Plain) →
    EachPlanned before.catalog →
    (found.faults ≡ [] → BoundFits before.catalog found.value.by_plan found.value.bound) →
    (reply : List ℕ) × (after : Plain) × Executes budget found at before reply after ×
    EachPlanned after.catalog
execution-of budget found at before planned fit =
    by_faults found.faults refl (is_done found.value.bound) refl
  where
    by_faults : (faults : List Fault) → found.faults ≡ faults → (done : Bool) →
        is_done found.value.bound ≡ done → (reply : List ℕ) × (after : Plain) ×
        Executes budget found at before reply after × EachPlanned after.catalog
    by_faults [] none true runs = (
      _,
      (effect budget found.value.bound before).after,
      inl (record { valid = none; runs = runs; replies = refl; leaves = refl }),
      effect-planned budget found.value.bound found.value.by_plan before (fit none) planned,
    )
    by_faults [] none false runs =
        let form = explain-form found.value.bound runs in
        let told = some_explained before.catalog form.0 in (
          told.0,
          before,
          inr (inl (record {
            query = form.0;
            valid = none;
            explains = form.1;
            replies = told.1;
            leaves = refl;
          })),
          planned,
        )
    by_faults (first ∷ more) some b runs =
        let l = least_from first more in (
          _,
          before,
          inr (inr (record {
            fault = l.0;
            is_least = ap least some ∙ l.1;
            replies = refl;
            leaves = refl;
          })),
          planned,
        )

-- a statement has an effect, is an EXPLAIN, or has a least fault
pub some_execution : (budget : ℕ) → IsSome (Executes budget)
some_execution budget tree before planned =
    execution-of budget (judged_statement tree before.catalog) (anchor_of tree) before planned
    (λ none. faultless-fits tree before.catalog (planned-names before.catalog planned) none)

check-of : (found : Noted BoundStatement) (at : Anchor) (before : Plain) →
    EachPlanned before.catalog →
    (found.faults ≡ [] → BoundFits before.catalog found.value.by_plan found.value.bound) →
    (reply : List ℕ) × (after : Plain) × Checks found at before reply after ×
    EachPlanned after.catalog
check-of found at before planned fit = by_faults found.faults refl
  where
    by_faults : (faults : List Fault) → found.faults ≡ faults → (reply : List ℕ) × (after : Plain) ×
        Checks found at before reply after × EachPlanned after.catalog
    by_faults [] none = (
      _,
      (checked found.value.bound before).after,
      inl (record { valid = none; replies = refl; leaves = refl }),
      checked-planned found.value.bound found.value.by_plan before (fit none) planned,
    )
    by_faults (first ∷ more) some =
        let l = least_from first more in (
          _,
          before,
          inr (record {
            fault = l.0;
            is_least = ap least some ∙ l.1;
            replies = refl;
            leaves =
                refl;
          }),
          planned,
        )

pub some_check : IsSome Checks
some_check tree before planned =
    check-of (judged_statement tree before.catalog) (anchor_of tree) before planned
    (λ none. faultless-fits tree before.catalog (planned-names before.catalog planned) none)

-- ---- the statement

module _ (Does : Doing) (some : IsSome Does) where
  -- the statement at a token, and that the next one begins further on
  abbrev pub GoesOn : Lexing → ℕ → Plain → Type 0
  GoesOn t at before = (reply : List ℕ) × (to : ℕ) × (after : Plain) ×
      StatementBy Does t at before reply to after × EachPlanned after.catalog × (at < to) ×
      (to ≤ length t.tokens)

  read : (t : Lexing) (at : ℕ) (before : Plain) (tree : Stmt) (to : ℕ) →
      EachPlanned before.catalog → Reads t at tree to → at < to → to ≤ length t.tokens →
      GoesOn t at before
  read t at before tree to planned reads further within =
      let done = some tree before planned in (
        done.0,
        to,
        done.1,
        inl (record { tree = tree; reads = reads; does = done.2 }),
        done.3,
        further,
        within,
      )

  unread : (t : Lexing) (at : ℕ) (before : Plain) (why : FaultText) (stop : ℕ) →
      EachPlanned before.catalog → at < length t.tokens → ReadsNothing rules most_open statement t.tokens at
      → Stops t at why stop → GoesOn t at before
  unread t at before why stop planned there nothing stops = (
    _,
    _,
    before,
    inr (record {
      nothing = nothing;
      why = why;
      place = stop;
      stops = stops;
      replies = refl;
      ends =
          refl;
      leaves = refl;
    }),
    planned,
    there,
    omega arith,
  )

  by_outcome : (t : Lexing) (at : ℕ) (before : Plain) → EachPlanned before.catalog →
      at < length t.tokens → (o : Outcome Stmt)
      → Answers rules most_open statement t.tokens at (at_places t.tokens o) → GoesOn t at before
  by_outcome t at before planned there (Ok p) a =
      let to = place t.tokens p.1 in
      read t at before p.0 to planned a.0 (goes_further rules most_open statement statement_goes t.tokens at
      p.0 to a.0) a.0.1
  by_outcome t at before planned there (Err (NoSpelling rest)) a =
      unread t at before text.Syntax (place t.tokens rest) planned there a.1 (inl (refl, a.0))
  by_outcome t at before planned there (Err (TooDeep rest)) a =
      unread t at before text.TooDeep (place t.tokens rest) planned there a.1 (inr (refl, a.0))

  pub Statement-some : (t : Lexing) (at : ℕ) (before : Plain) → EachPlanned before.catalog →
      at < length t.tokens → GoesOn t at before
  Statement-some t at before planned there =
      let o = reading rules most_open statement (drop at t.tokens) in
      let within : at ≤ length t.tokens = omega arith in
      by_outcome t at before planned there o (reading_answers rules all_decide most_open statement
      statement_decides statement_ends t.tokens at within)
