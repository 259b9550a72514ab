-- A script has one run; and a status of 1 is told exactly where it should.
use Rattle.std.proofs.Common.{◌≡◌, ℕ, ◌<◌, List, [], ◌∷◌, ◌++◌, Bool, true, false, refl, sym, ◌∙◌}
use Rattle.std.proofs.Common.{ap, subst, arith, length, length-append, append-nil, append_assoc}
use Rattle.std.proofs.Common.{◌⊎◌, inl, inr, ◌||◌}
use Rattle.std.proofs.lemmas.Grind.{flat_map-append}
use Rattle.std.specs.Prelude.{Option, Some, None}
use Rattle.psm_program.proofs.ProgramLemmas.{script_is}
use Rattle.psm_program.proofs.RunLemmas.{whole-more}
use Rattle.psm_program.specs.Outcome.{CutInReply, CutInEnding, FirstFew, Unflushed}
use Rattle.io_edges.specs.TakenBytes.{TakenBytes, Takes, TakesFlushed, with_bytes, all_flushed}
use Rattle.io_edges.specs.TakenBytes.{IsWithin}
use Rattle.io_edges.proofs.Laws.{Takes-nil}
use Rattle.sql_lex.specs.Tokens.{Lexing, IsTokens}
use Rattle.psm_effects.specs.Database.{Plain}
use Rattle.psm_program.specs.Script.{Runs, IsDetermined, AlwaysGoesOn, whole, has_exception}
use Rattle.program_status.specs.Replies.{is_exception}
use Rattle.psm_program.specs.Session.{Does, ending, Script}
use Rattle.psm_session.specs.Planned.{EachPlanned}
use Rattle.psm_words.specs.declared.command.Command.{Command}
use Rattle.psm_words.specs.declared.command.Command.TheVariants.{Run, Check, Demo}
use Rattle.psm_words.specs.declared.command.TheConstants.{DEFAULT_BUDGET}
use Rattle.psm_program.specs.Whole.{RunsWhole, IsCutShort, IsFirstFew, SaysExceptions}
use Rattle.psm_program.specs.Whole.{LeavesTheOnlyRun, WritesFront}
use Rattle.program_status.specs.declared.status.Status.{Status}
use Rattle.program_status.specs.declared.status.Status.TheVariants.{Done, DoneWithExceptions, Usage}
use Rattle.program_status.specs.declared.status.Status.TheVariants.{ReadFault, WriteFault, NoMemory}
use Rattle.program_status.specs.declared.status.Status.TheVariants.{ScriptTooLong}
use Rattle.psm_program.proofs.LowerLaws.{one_lexing, some_lexing, one_statement, some_statement}
use Rattle.psm_program.proofs.LowerLaws.{one_checked, some_checked}
use Rattle.psm_program.proofs.Runs.{some_run, runs_same, runs_front}

-- what a command does is determined
Does-determined : (command : Command) (t : Lexing) →
    IsDetermined (Does command t) (length t.tokens)
Does-determined (Run options) t = record {
  one = λ at before r r' to to' after after' p q. one_statement options.budget t at before r r' to
      to' after after' p.1 q.1;
  ends = λ before r to after p. absurd (omega (arith, p.0));
}
Does-determined Check t = record {
  one = λ at before r r' to to' after after' p q. one_checked t at before r r' to to' after after'
      p.1 q.1;
  ends = λ before r to after p. absurd (omega (arith, p.0));
}
Does-determined (Demo options) t = record {
  one = λ at before r r' to to' after after' p q. one_statement DEFAULT_BUDGET t at before r r' to
      to' after after' p.1 q.1;
  ends = λ before r to after p. absurd (omega (arith, p.0));
}

-- functions with plans have them
abbrev Sound : Plain → Type 0
Sound db = EachPlanned db.catalog

-- and there is always something that it does, up to the end
Does-goes_on : (command : Command) (t : Lexing) →
    AlwaysGoesOn Sound (Does command t) (length t.tokens)
Does-goes_on (Run options) t at before sound there =
    let s = some_statement options.budget t at before sound there in
    (s.0, s.1, s.2, (there, s.3), s.4, s.5, s.6)
Does-goes_on Check t at before sound there =
    let s = some_checked t at before sound there in
    (s.0, s.1, s.2, (there, s.3), s.4, s.5, s.6)
Does-goes_on (Demo options) t at before sound there =
    let s = some_statement DEFAULT_BUDGET t at before sound there in
    (s.0, s.1, s.2, (there, s.3), s.4, s.5, s.6)

-- Each script has a run.
pub script_some : (command : Command) (bytes : List ℕ) (before : Plain) →
    EachPlanned before.catalog →
    (replies : List (List ℕ)) × (after : Plain) × Script command bytes before replies after
script_some command bytes before sound =
    let t = some_lexing bytes in
    let run = some_run Sound (Does command t.0) (length t.0.tokens) (Does-goes_on command t.0) before
    sound in
    (run.0, run.1, record { lexing = t.0; lexed = t.1; ran = run.2 })

-- the tokens of a script are those of its runs
run_over : (command : Command) (bytes : List ℕ) (before : Plain) (rs rs' : List (List ℕ))
    (after after' : Plain) → (p : Script command bytes before rs after) →
    (q : Script command bytes before rs' after') →
    Runs (Does command q.lexing) 0 before rs (length q.lexing.tokens) after
run_over command bytes before rs rs' after after' p q =
    let same : p.lexing ≡ q.lexing = one_lexing bytes p.lexing q.lexing p.lexed q.lexed in
    subst (λ (t : Lexing). Runs (Does command t) 0 before rs (length t.tokens) after) same p.ran

-- A script has one run.
pub script_same : (command : Command) (bytes : List ℕ) (before : Plain) (rs rs' : List (List ℕ))
    (after after' : Plain) → Script command bytes before rs after →
    Script command bytes before rs' after'
    → (rs ≡ rs') × (after ≡ after')
script_same command bytes before rs rs' after after' p q =
    runs_same (Does command q.lexing) (length q.lexing.tokens) (Does-determined command q.lexing) 0
    before rs rs' after after' (run_over command bytes before rs rs' after after' p q) q.ran

-- The first statements of a script give the first of its replies.
pub script_front : (command : Command) (bytes : List ℕ) (t : Lexing) (before : Plain)
    (few rs : List (List ℕ)) (to : ℕ) (mid last : Plain) → IsTokens bytes t
    → Runs (Does command t) 0 before few to mid → Script command bytes before rs last →
    (more : List (List ℕ)) × (rs ≡ few ++ more)
script_front command bytes t before few rs to mid last lexed p q =
    let same : q.lexing ≡ t = one_lexing bytes q.lexing t q.lexed lexed in
    let ran : Runs (Does command t) 0 before rs (length t.tokens) last =
    subst (λ (u : Lexing). Runs (Does command u) 0 before rs (length u.tokens) last) same
    q.ran in
    runs_front (Does command t) (length t.tokens) (Does-determined command t) 0 before few rs to mid
    last p ran

whole-append : (xs ys : List (List ℕ)) → whole (xs ++ ys) ≡ whole xs ++ whole ys
whole-append xs ys = flat_map-append (λ r. r) xs ys

-- an exception has a byte
exception_length : (reply : List ℕ) → is_exception reply ≡ true → 0 < length reply
exception_length [] e = cc
exception_length (b ∷ bs) e = omega arith

first_or_later : (r : List ℕ) (rs : List (List ℕ)) →
    (has_exception rs ≡ true → 0 < length (whole rs)) → (b : Bool) → is_exception r ≡ b
    → (is_exception r || has_exception rs) ≡ true → 0 < length (r ++ whole rs)
first_or_later r rs later true h e = omega (arith, length-append r (whole rs), exception_length r h)
first_or_later r rs later false h e = omega (
  arith,
  length-append r (whole rs),
  later
      (ap (λ x. x || has_exception rs) (sym h) ∙ e),
)

exceptions_length : (rs : List (List ℕ)) → has_exception rs ≡ true → 0 < length (whole rs)
exceptions_length [] e = cc
exceptions_length (r ∷ rs) e = first_or_later r rs (exceptions_length rs) (is_exception r) refl e

-- whatever stands behind the replies
all_length : (rs : List (List ℕ)) (more : List ℕ) → has_exception rs ≡ true →
    0 < length (whole rs ++ more)
all_length rs more e = omega (arith, length-append (whole rs) more, exceptions_length rs e)

-- what was taken and not flushed is not all flushed
unflushed : (told told' : Option TakenBytes) (t : TakenBytes) (w more : List ℕ) → IsWithin told →
    told ≡ Some t → Takes told told' w
    → told' ≡ Some (all_flushed (with_bytes t more)) → 0 < length more → ⊥
unflushed told told' t w more within is takes all some =
    let within' : IsWithin (Some t) = subst (λ (o : Option TakenBytes). IsWithin o) is within in
    let takes' : told' ≡ Some (with_bytes t w) =
    subst (λ (o : Option TakenBytes). Takes o told' w) is takes in
    let same : with_bytes t w ≡ all_flushed (with_bytes t more) = cc (sym takes' ∙ all) in
    let flushed : t.flushed ≡ length (t.bytes ++ more) = ap (λ (x : TakenBytes). x.flushed) same in
    omega (arith, length-append t.bytes more)

module _ (command : Command) (left left' : Option (List ℕ)) (told told' : Option TakenBytes)
    (before after : Plain) (within : IsWithin told) where
  pub exactly : (status : Status)
      → (status ≡ Done → RunsWhole command left left' told told' before after false)
      → (status ≡ WriteFault → IsCutShort command left left' told told' before after)
      → (status ≡ NoMemory → Takes told told' [] ⊎
      IsFirstFew command left left' told told' before after)
      → ((status ≡ Usage) ⊎ ((status ≡ ReadFault) ⊎ (status ≡ ScriptTooLong)) → Takes told told' [])
      → SaysExceptions command left told told' before status
  exactly Done done cut few rest = λ script replies last t is ran excepts tells all.
      let r = done refl in
      let same : script ≡ r.script = script_is command left left' script r.script is r.given in
      let ran' : Script command r.script before replies last =
      subst (λ (s : List ℕ). Script command s before replies last) same ran in
      let mine : Script command r.script before r.completes.replies after =
      record { lexing = r.lexing; lexed = r.lexed; ran = r.completes.ran } in
      let alike : has_exception r.completes.replies ≡ has_exception replies =
      ap has_exception
      (script_same command r.script before r.completes.replies replies after last mine ran').0 in
      let no : false ≡ true = sym r.completes.kind ∙ alike ∙ excepts in
      cc
  exactly DoneWithExceptions done cut few rest = λ script replies last t is ran excepts tells all.
      refl
  exactly WriteFault done cut few rest = λ script replies last t is ran excepts tells all.
      absurd (elim (cut refl).cut [
        | inl x ↦ unflushed told told' t _ _ within tells x.written all
            (all_length replies (ending command last) excepts)
        | inr y ↦ elim y [
          | inl x ↦ unflushed told told' t _ _ within tells x.written all
              (all_length replies (ending command last) excepts)
          | inr x ↦ unflushed told told' t _ _ within tells x.written all
              (all_length replies (ending command last) excepts)
        ]
      ])
  exactly NoMemory done cut few rest = λ script replies last t is ran excepts tells all.
      absurd (elim (few refl) [
        | inl x ↦ unflushed told told' t _ _ within tells x all (all_length replies (ending command last) excepts)
        | inr x ↦ unflushed told told' t _ _ within tells x.first.written all
            (all_length replies (ending command last) excepts)
      ])
  exactly Usage done cut few rest = λ script replies last t is ran excepts tells all.
      absurd (unflushed told told' t _ _ within tells (rest (inl refl)) all
      (all_length replies (ending command last) excepts))
  exactly ReadFault done cut few rest = λ script replies last t is ran excepts tells all.
      absurd (unflushed told told' t _ _ within tells (rest (inr (inl refl))) all
      (all_length replies (ending command last) excepts))
  exactly ScriptTooLong done cut few rest = λ script replies last t is ran excepts tells all.
      absurd (unflushed told told' t _ _ within tells (rest (inr (inr refl))) all
      (all_length replies (ending command last) excepts))

-- where nothing was written, not all was
pub nothing_written : (command : Command) (left : Option (List ℕ)) (told : Option TakenBytes)
    (before : Plain) (status : Status) → IsWithin told
    → SaysExceptions command left told told before status
nothing_written command left told before status within =
    λ script replies last t is ran excepts tells all.
    absurd (unflushed told told t _ _ within tells (Takes-nil told) all
    (all_length replies (ending command last) excepts))

module _ (command : Command) (left left' : Option (List ℕ)) (told told' : Option TakenBytes)
    (before after : Plain) where
  pub only_run : (excepts : Bool) → RunsWhole command left left' told told' before after excepts →
      LeavesTheOnlyRun command left told told' before after
  only_run excepts r script replies last is ran =
      let same : script ≡ r.script = script_is command left left' script r.script is r.given in
      let ran' : Script command r.script before replies last =
      subst (λ (s : List ℕ). Script command s before replies last) same ran in
      let mine : Script command r.script before r.completes.replies after =
      record { lexing = r.lexing; lexed = r.lexed; ran = r.completes.ran } in
      let one = script_same command r.script before r.completes.replies replies after last mine
      ran' in (
        one.1,
        subst (λ (d : Plain). TakesFlushed told told' (whole replies ++ ending command d)) one.1
            (subst (λ (rs : List (List ℕ)). TakesFlushed told told' (whole rs ++
            ending command after)) one.0 r.completes.written),
      )

module _ (command : Command) (told told' : Option TakenBytes) (t : Lexing) (script : List ℕ)
    (lexed : IsTokens script t) (before after : Plain) where
  front_of_few : FirstFew (Does command t) told told' before after →
      (replies : List (List ℕ)) (last : Plain) → Script command script before replies last
      → (front : List ℕ) × (rest : List ℕ) × (whole replies ++ ending command last ≡
      front ++ rest) × Takes told told' front
  front_of_few f replies last ran =
      let more = script_front command script t before f.replies replies f.to after last lexed f.ran
      ran in
      let behind = ending command last in (
        whole f.replies,
        whole more.0 ++ behind,
        ap (λ rs. whole rs ++ behind) more.1 ∙
            ap (λ x. x ++ behind) (whole-append f.replies more.0) ∙
            append_assoc (whole f.replies) (whole more.0) behind,
        f.written,
      )

  front_of_cut : CutInReply (Does command t) told told' before after →
      (replies : List (List ℕ)) (last : Plain) → Script command script before replies last
      → (front : List ℕ) × (rest : List ℕ) × (whole replies ++ ending command last ≡
      front ++ rest) × Takes told told' front
  front_of_cut f replies last ran =
      let more = script_front command script t before (f.replies ++ f.reply ∷ []) replies f.to after
      last lexed f.ran ran in
      let behind = ending command last in
      let all : whole replies ≡ (whole f.replies ++ f.reply) ++ whole more.0 =
      ap whole more.1 ∙ whole-append (f.replies ++ f.reply ∷ []) more.0 ∙
      ap (λ x. x ++ whole more.0) (whole-more f.replies f.reply) in (
        whole f.replies ++ f.front,
        (f.cut.0 ++ whole more.0) ++ behind,
        ap (λ x. x ++ behind) all ∙
            ap (λ x. ((whole f.replies ++ x) ++ whole more.0) ++ behind) f.cut.2 ∙
            grind (arith, append_assoc),
        f.written,
      )

  -- what a run to the end wrote is what any run writes, and the same stands behind it
  all_written : (few : List (List ℕ)) → Runs (Does command t) 0 before few (length t.tokens) after →
      (replies : List (List ℕ)) (last : Plain) → Script command script before replies last
      → whole replies ++ ending command last ≡ whole few ++ ending command after
  all_written few ran replies last other =
      let mine : Script command script before few after =
      record { lexing = t; lexed = lexed; ran = ran } in
      let one = script_same command script before replies few last after other mine in
      ap (λ rs. whole rs ++ ending command last) one.0 ∙
      ap (λ d. whole few ++ ending command d) one.1

  front_of_ending : CutInEnding (Does command t) (length t.tokens) (ending command) told told' before
      after → (replies : List (List ℕ)) (last : Plain) → Script command script before replies last
      → (front : List ℕ) × (rest : List ℕ) × (whole replies ++ ending command last ≡
      front ++ rest) × Takes told told' front
  front_of_ending f replies last ran = (
    whole f.replies ++ f.front,
    f.cut.0,
    all_written f.replies f.ran replies last ran ∙ ap (λ x. whole f.replies ++ x) f.cut.2 ∙
        sym (append_assoc (whole f.replies) f.front f.cut.0),
    f.written,
  )

  front_of_all : Unflushed (Does command t) (length t.tokens) (ending command) told told' before
      after → (replies : List (List ℕ)) (last : Plain) → Script command script before replies last
      → (front : List ℕ) × (rest : List ℕ) × (whole replies ++ ending command last ≡
      front ++ rest) × Takes told told' front
  front_of_all f replies last ran = (
    whole f.replies ++ ending command after,
    [],
    all_written f.replies f.ran replies last ran ∙
        sym (append-nil (whole f.replies ++ ending command after)),
    f.written,
  )

module _ (command : Command) (left left' : Option (List ℕ)) (told told' : Option TakenBytes)
    (before after : Plain) where
  pub front_of_none : Takes told told' [] → WritesFront command left told told' before
  front_of_none w script replies last is ran =
      ([], whole replies ++ ending command last, refl, w)

  pub front_of_first : IsFirstFew command left left' told told' before after →
      WritesFront command left told told' before
  front_of_first f script replies last is ran =
      let same : script ≡ f.script = script_is command left left' script f.script is f.given in
      let ran' : Script command f.script before replies last =
      subst (λ (s : List ℕ). Script command s before replies last) same ran in
      front_of_few command told told' f.lexing f.script f.lexed before after f.first replies last
      ran'

  pub front_of_short : IsCutShort command left left' told told' before after →
      WritesFront command left told told' before
  front_of_short f script replies last is ran =
      let same : script ≡ f.script = script_is command left left' script f.script is f.given in
      let ran' : Script command f.script before replies last =
      subst (λ (s : List ℕ). Script command s before replies last) same ran in
      elim f.cut [
        | inl x ↦ front_of_cut command told told' f.lexing f.script f.lexed before after x
            replies last ran'
        | inr y ↦ elim y [
          | inl x ↦ front_of_ending command told told' f.lexing f.script f.lexed before after x
              replies last ran'
          | inr x ↦ front_of_all command told told' f.lexing f.script f.lexed before after x
              replies last ran'
        ]
      ]
