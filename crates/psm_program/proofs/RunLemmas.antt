-- How a run goes on by a statement, and how it ends.
use Rattle.std.proofs.Common.{◌≡◌, ℕ, List, [], ◌∷◌, ◌++◌, Bool, refl, sym, ◌∙◌, ap, subst}
use Rattle.std.proofs.Common.{append-nil, append_assoc, inl, inr, ◌||◌}
use Rattle.std.proofs.Math.Bool.{or-false}
use Rattle.std.proofs.lemmas.Grind.{flat_map-append}
use Rattle.std.proofs.lemmas.List.Folds.{list_any-append}
use Rattle.std.specs.Prelude.{Option, Some, None}
use Rattle.io_edges.specs.TakenBytes.{TakenBytes, Takes, TakesFlushed, with_bytes, all_flushed}
use Rattle.io_edges.proofs.Laws.{Takes-trans}
use Rattle.psm_program.specs.Script.{Step, Runs, whole, has_exception}
use Rattle.program_status.specs.Replies.{is_exception}
use Rattle.program_status.specs.Endings.{Finishes}
use Rattle.psm_program.specs.Outcome.{RanTo, Stepped, StepStopped, Stopped, Closes, Ends}
use Rattle.psm_program.specs.declared.run.Interruption.{Interruption}
use Rattle.psm_program.specs.declared.run.Interruption.TheVariants as stop
use Rattle.program_status.specs.declared.status.Status.{Status}
use Rattle.program_status.specs.declared.status.Status.TheVariants.{Done, DoneWithExceptions, Usage}
use Rattle.program_status.specs.declared.status.Status.TheVariants.{ReadFault, WriteFault, NoMemory}
use Rattle.program_status.specs.declared.status.Status.TheVariants.{ScriptTooLong}

pub whole-more : (replies : List (List ℕ)) (reply : List ℕ) →
    whole (replies ++ reply ∷ []) ≡ whole replies ++ reply
whole-more replies reply = flat_map-append (λ r. r) replies (reply ∷ []) ∙
    ap (λ x. whole replies ++ x) (append-nil reply)

pub has_exception-more : (replies : List (List ℕ)) (reply : List ℕ) →
    has_exception (replies ++ reply ∷ []) ≡ (has_exception replies || is_exception reply)
has_exception-more replies reply = list_any-append is_exception replies (reply ∷ []) ∙
    ap (λ x. has_exception replies || x) (or-false (is_exception reply))

module _ {D : Type 0} (step : Step D) where
  pub runs_on : (at : ℕ) (before : D) (replies : List (List ℕ)) (mid : ℕ) (between : D)
      (reply : List ℕ) (to : ℕ) (after : D)
      → Runs step at before replies mid between → step mid between reply to after →
      Runs step at before (replies ++ reply ∷ []) to after
  runs_on at before [] mid between reply to after r s =
      let s1 : step at between reply to after =
      subst (λ (k : ℕ). step k between reply to after) r.0 s in
      let s2 : step at before reply to after = subst (λ (d : D). step at d reply to after) r.1 s1 in
      (to, after, s2, (refl, refl))
  runs_on at before (first ∷ replies) mid between reply to after r s =
      (r.0, r.1, r.2, runs_on r.0 r.1 replies mid between reply to after r.3 s)

module _ {D : Type 0} (step : Step D) (told mid told' : Option TakenBytes)
    (before between after : D) where
  pub ran_on : (at to : ℕ) (a b c : Bool) → RanTo step at told mid before between a →
      Stepped step at to mid told' between after b → (a || b) ≡ c
      → RanTo step to told told' before after c
  ran_on at to a b c r s e = record {
    replies = r.replies ++ s.reply ∷ [];
    ran = runs_on step 0 before r.replies at between s.reply to after r.ran s.ran;
    kind = has_exception-more r.replies s.reply ∙ ap (λ x. x || is_exception s.reply) r.kind ∙
        ap (λ x. a || x) s.kind ∙ e;
    written = subst (λ (bs : List ℕ). Takes told told' bs) (sym (whole-more r.replies s.reply))
        (Takes-trans told mid told' (whole r.replies) s.reply r.written s.written);
  }

  pub ran_stopped : (at : ℕ) (a : Bool) (stop : Interruption) →
      RanTo step at told mid before between a → StepStopped stop step at mid told' between after
      → Stopped stop step told told' before after
  ran_stopped at a stop.Write r s = record {
    replies = r.replies;
    reply = s.reply;
    to = s.to;
    ran = runs_on step 0 before r.replies at between s.reply s.to after r.ran s.ran;
    front = s.front;
    cut = s.cut;
    written = Takes-trans told mid told' (whole r.replies) s.front r.written s.written;
  }
  ran_stopped at a stop.Memory r s = record {
    replies = r.replies;
    to = at;
    ran = subst (λ (d : D). Runs step 0 before r.replies at d) (sym s.1) r.ran;
    written = subst (λ (t : Option TakenBytes). Takes told t (whole r.replies)) (sym s.0) r.written;
  }

flushed_after : (a b c : Option TakenBytes) (xs ys : List ℕ) → Takes a b xs → TakesFlushed b c ys →
    TakesFlushed a c (xs ++ ys)
flushed_after None b c xs ys p q = tt
flushed_after (Some t) b c xs ys p q =
    let r : TakesFlushed (Some (with_bytes t xs)) c ys =
    subst (λ (o : Option TakenBytes). TakesFlushed o c ys) p q in
    r ∙ ap (λ bs. Some (all_flushed (record { bytes = bs; flushed = t.flushed })))
    (append_assoc t.bytes xs ys)

-- what stands behind the replies is written, and then flushed
pub closes : (excepts : Bool) (text : List ℕ) (told mid told' : Option TakenBytes)
    (status : Status) → Takes told mid text → Finishes excepts mid told' status →
    Closes excepts text told told' status
closes excepts text told mid told' Done w f = (
  f.0,
  subst (λ (bs : List ℕ). TakesFlushed told told' bs) (append-nil text)
      (flushed_after told mid told' text [] w f.1),
)
closes excepts text told mid told' DoneWithExceptions w f = (
  f.0,
  subst (λ (bs : List ℕ). TakesFlushed told told' bs) (append-nil text)
      (flushed_after told mid told' text [] w f.1),
)
closes excepts text told mid told' WriteFault w f =
    inr (subst (λ (bs : List ℕ). Takes told told' bs) (append-nil text)
    (Takes-trans told mid told' text [] w f))
closes excepts text told mid told' NoMemory w f = absurd f
closes excepts text told mid told' Usage w f = absurd f
closes excepts text told mid told' ReadFault w f = absurd f
closes excepts text told mid told' ScriptTooLong w f = absurd f

module _ {D : Type 0} (step : Step D) (end : ℕ) (ending : D → List ℕ)
    (told mid told' : Option TakenBytes) (before after : D) where
  pub ends : (excepts : Bool) (status : Status) → RanTo step end told mid before after excepts →
      Closes excepts (ending after) mid told' status
      → Ends step end ending told told' before after status
  ends excepts Done r f = record {
    replies = r.replies;
    ran = r.ran;
    kind = r.kind ∙ f.0;
    written = flushed_after told mid told' (whole r.replies) (ending after) r.written f.1;
  }
  ends excepts DoneWithExceptions r f = record {
    replies = r.replies;
    ran = r.ran;
    kind = r.kind ∙ f.0;
    written = flushed_after told mid told' (whole r.replies) (ending after) r.written f.1;
  }
  ends excepts WriteFault r f = elim f [
    | inl x ↦ inr (inl (record {
      replies = r.replies;
      ran = r.ran;
      front = x.0;
      cut = x.1;
      written = Takes-trans told mid told' (whole r.replies) x.0 r.written x.2;
    }))
    | inr x ↦ inr (inr (record {
      replies = r.replies;
      ran = r.ran;
      written = Takes-trans told mid told' (whole r.replies) (ending after) r.written x;
    }))
  ]
  ends excepts NoMemory r f = record {
    replies = r.replies;
    to = end;
    ran = r.ran;
    written = subst (λ (t : Option TakenBytes). Takes told t (whole r.replies)) (sym f) r.written;
  }
  ends excepts Usage r f = absurd f
  ends excepts ReadFault r f = absurd f
  ends excepts ScriptTooLong r f = absurd f
