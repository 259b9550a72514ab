use Rattle.std.proofs.Common.{arith, ap, sym, subst, ◌∙◌, ◌≡◌, ℕ, List, length, [], inl, inr}
use Rattle.std.specs.Prelude.{Option}
use Rattle.io_edges.specs.Causes.{Rose}
use Rattle.io_edges.specs.TakenBytes.{TakenBytes, Takes}
use Rattle.psm_effects.specs.Database.{Plain}
use Rattle.psm_words.specs.declared.command.Command.{Command}
use Rattle.program_status.specs.declared.status.Status.TheVariants as Status
use Rattle.psm_program.specs.Whole.{IsCutShort, SaysExceptions, LeavesTheOnlyRun, WritesFront}
use Rattle.io_edges.proofs.Laws.{Takes-nil}
use Rattle.psm_program.proofs.OneRun.{exactly, nothing_written, only_run, front_of_none}
use Rattle.psm_program.proofs.OneRun.{front_of_first, front_of_short}
use Rattle.psm_program.proofs.ProgramLemmas.{same_command, no_command, too_long_there, none_taken}
use Rattle.psm_program.proofs.program.run_program.Goals as goal
use Rattle.psm_program.proofs.program.run_program.Goals.{in-Ok-Some, in-Ok-None, in-Err}

pub returns-clause-too_long_there : goal.returns-clause-too_long_there
returns-clause-too_long_there g c = λ bytes rest before now size.
    elim c.match-read_words.branch [
      | in-Ok-Some w ↦ w.status-is ∙ too_long_there _ _ _ w.run_source-status.ensures.within bytes
          rest before (ap g.S.Source.left (sym w.src-is) ∙ now) size
      | in-Ok-None w ↦
          let none : length bytes ≡ 0 = none_taken _ bytes rest before
          (ap g.S.Source.left (sym w.src-is) ∙ now) in
          absurd (omega arith)
      | in-Err w ↦
          let none : length bytes ≡ 0 = none_taken _ bytes rest before
          (ap g.S.Source.left (sym w.src-is) ∙ now) in
          absurd (omega arith)
    ]

pub returns-clause-exactly : goal.returns-clause-exactly
returns-clause-exactly g c = λ command taken.
    elim c.match-read_words.branch [
      | in-Ok-Some w ↦
          let r = w.run_source-status in
          let before = g.K.Sink.told c.args.out.now in
          let nothing = λ (e : r.new.out ≡ c.args.out.now).
          subst (λ (k : _). Takes before (g.K.Sink.told k) []) (sym e) (Takes-nil before) in
          let base : SaysExceptions w.in-Ok-Some.command (g.S.Source.left c.args.src.now) before
          (g.K.Sink.told r.new.out) c.args.db.now r.result =
          exactly w.in-Ok-Some.command (g.S.Source.left c.args.src.now) (g.S.Source.left r.new.src)
          before (g.K.Sink.told r.new.out)
          c.args.db.now r.new.db (g.met.K.Sink.within c.args.out.now) r.result
          r.ensures.done (λ e. (r.ensures.write_fault e).1)
          (λ e. elim (r.ensures.no_memory e) [ inl x ↦ inl (nothing x.0) | inr x ↦ inr x.1 ])
          (λ e. elim e [
            | inl u ↦ absurd (r.ensures.usage u)
            | inr f ↦ elim f [
              | inl x ↦ nothing (r.ensures.read_fault x).1
              | inr x ↦ nothing (r.ensures.too_long x).1
            ]
          ]) in
          let mine : SaysExceptions command (g.S.Source.left c.args.src.now) before
          (g.K.Sink.told r.new.out) c.args.db.now r.result =
          subst (λ (k : Command). SaysExceptions k (g.S.Source.left c.args.src.now) before
          (g.K.Sink.told r.new.out) c.args.db.now r.result)
          (same_command _ _ _ _ w.in-Ok-Some.ensures.exact w.in-Ok-Some.field-0-is taken) base in
          λ script replies last t left ran excepts told all.
          w.status-is ∙ mine script replies last t left ran excepts told
          (ap g.K.Sink.told (sym w.out-is) ∙ all)
      | in-Ok-None w ↦ absurd (no_command _ _ _ w.in-Ok-None.ensures.exact w.in-Ok-None.field-0-is
          taken)
      | in-Err w ↦
          let told = g.K.Sink.told c.args.out.now in
          let mine : SaysExceptions command (g.S.Source.left c.args.src.now) told told c.args.db.now
          c.match-read_words.status =
          nothing_written command (g.S.Source.left c.args.src.now) told c.args.db.now
          c.match-read_words.status (g.met.K.Sink.within c.args.out.now) in
          λ script replies last t left ran excepts told all. mine script replies last t left ran
          excepts told (ap g.K.Sink.told (sym w.out-is) ∙ all)
    ]

pub returns-clause-only : goal.returns-clause-only
returns-clause-only g c = λ e command taken.
    elim c.match-read_words.branch [
      | in-Ok-Some w ↦
          let r = w.run_source-status in
          let told = g.K.Sink.told c.args.out.now in
          let left = g.S.Source.left c.args.src.now in
          let one : LeavesTheOnlyRun w.in-Ok-Some.command left told (g.K.Sink.told r.new.out)
          c.args.db.now r.new.db = elim e [
            | inl x ↦ only_run _ _ _ _ _ _ _ _ (r.ensures.done (sym w.status-is ∙ x))
            | inr x ↦ only_run _ _ _ _ _ _ _ _ (r.ensures.exceptions (sym w.status-is ∙ x))
          ] in
          let mine : LeavesTheOnlyRun command left told (g.K.Sink.told r.new.out) c.args.db.now
          r.new.db =
          subst (λ (k : Command). LeavesTheOnlyRun k left told (g.K.Sink.told r.new.out)
          c.args.db.now r.new.db)
          (same_command _ _ _ _ w.in-Ok-Some.ensures.exact w.in-Ok-Some.field-0-is taken) one in
          let there : LeavesTheOnlyRun command left told (g.K.Sink.told c.match-read_words.out)
          c.args.db.now r.new.db =
          subst (λ (o : Option TakenBytes). LeavesTheOnlyRun command left told o c.args.db.now
          r.new.db) (ap g.K.Sink.told (sym w.out-is)) mine in
          subst (λ (d : Plain). LeavesTheOnlyRun command left told
          (g.K.Sink.told c.match-read_words.out) c.args.db.now d) (sym w.db-is) there
      | in-Ok-None w ↦ absurd (no_command _ _ _ w.in-Ok-None.ensures.exact w.in-Ok-None.field-0-is
          taken)
      | in-Err w ↦ absurd (elim e [
        | inl x ↦ let bad : Status.NoMemory ≡ Status.Done = sym w.status-is ∙ x in cc
        | inr x ↦ let bad : Status.NoMemory ≡ Status.DoneWithExceptions = sym w.status-is ∙ x in cc
      ])
    ]

pub returns-clause-front : goal.returns-clause-front
returns-clause-front g c = λ e command taken.
    elim c.match-read_words.branch [
      | in-Ok-Some w ↦
          let r = w.run_source-status in
          let told = g.K.Sink.told c.args.out.now in
          let left = g.S.Source.left c.args.src.now in
          let nothing = λ (e : r.new.out ≡ c.args.out.now).
          subst (λ (k : _). Takes told (g.K.Sink.told k) []) (sym e) (Takes-nil told) in
          let one : WritesFront w.in-Ok-Some.command left told (g.K.Sink.told r.new.out)
          c.args.db.now = elim e [
            | inl x ↦ front_of_short _ _ _ _ _ _ _ (r.ensures.write_fault (sym w.status-is ∙ x)).1
            | inr x ↦ elim (r.ensures.no_memory (sym w.status-is ∙ x)) [
              | inl untouched ↦ front_of_none _ _ left _ _ _ c.args.db.now (nothing untouched.0)
              | inr few ↦ front_of_first _ _ _ _ _ _ _ few.1
            ]
          ] in
          let mine : WritesFront command left told (g.K.Sink.told r.new.out) c.args.db.now =
          subst (λ (k : Command). WritesFront k left told (g.K.Sink.told r.new.out) c.args.db.now)
          (same_command _ _ _ _ w.in-Ok-Some.ensures.exact w.in-Ok-Some.field-0-is taken) one in
          subst (λ (o : Option TakenBytes). WritesFront command left told o c.args.db.now)
          (ap g.K.Sink.told (sym w.out-is)) mine
      | in-Ok-None w ↦ absurd (no_command _ _ _ w.in-Ok-None.ensures.exact w.in-Ok-None.field-0-is
          taken)
      | in-Err w ↦
          let told = g.K.Sink.told c.args.out.now in
          let mine : WritesFront command (g.S.Source.left c.args.src.now) told told c.args.db.now =
          front_of_none _ _ (g.S.Source.left c.args.src.now) _ _ _ c.args.db.now (Takes-nil told) in
          subst (λ (o : Option TakenBytes). WritesFront command (g.S.Source.left c.args.src.now)
          told o c.args.db.now) (ap g.K.Sink.told (sym w.out-is)) mine
    ]

pub returns-clause-write_fault : goal.returns-clause-write_fault
returns-clause-write_fault g c = λ e.
    elim c.match-read_words.branch [
      | in-Ok-Some w ↦
          let r = w.run_source-status in
          let k = w.in-Ok-Some.command in
          let left = g.S.Source.left c.args.src.now in
          let told = g.K.Sink.told c.args.out.now in
          let failed = r.ensures.write_fault (sym w.status-is ∙ e) in
          let read : IsCutShort k left (g.S.Source.left c.match-read_words.src) told
          (g.K.Sink.told r.new.out) c.args.db.now r.new.db =
          subst (λ (l : Option (List ℕ)). IsCutShort k left l told (g.K.Sink.told r.new.out)
          c.args.db.now r.new.db) (ap g.S.Source.left (sym w.src-is)) failed.1 in
          let written : IsCutShort k left (g.S.Source.left c.match-read_words.src) told
          (g.K.Sink.told c.match-read_words.out) c.args.db.now r.new.db =
          subst (λ (o : Option TakenBytes). IsCutShort k left
          (g.S.Source.left c.match-read_words.src) told o c.args.db.now r.new.db)
          (ap g.K.Sink.told (sym w.out-is)) read in (
            subst (λ (n : ℕ). Rose (g.K.Sink.faults c.args.out.now) n)
                (ap g.K.Sink.faults (sym w.out-is)) failed.0,
            (
              k,
              sym w.in-Ok-Some.ensures.exact ∙ w.in-Ok-Some.field-0-is,
              subst (λ (d : Plain). IsCutShort k left (g.S.Source.left c.match-read_words.src) told
                  (g.K.Sink.told c.match-read_words.out) c.args.db.now d) (sym w.db-is) written,
            ),
          )
      | in-Ok-None w ↦ absurd
          (let bad : Status.Usage ≡ Status.WriteFault = sym w.status-is ∙ e in cc)
      | in-Err w ↦ absurd (let bad : Status.NoMemory ≡ Status.WriteFault = sym w.status-is ∙ e in cc)
    ]
