use Rattle.std.proofs.Common.{◌≡◌, ◌++◌, ◌∷◌, [], sym, ap, ◌∙◌, subst, OnOk}
use Rattle.csv.specs.declared.writer.QuoteStyle.TheVariants.{Necessary, NonNumeric}
use Rattle.reply_text.specs.Writers.{IsWithin}
use Rattle.reply_text.proofs.Fields.{within-more}
use Rattle.reply_text.proofs.record.write_field.Goals.{in-Ok, in-Err}
use Rattle.reply_text.proofs.record.write_field.Goals as goal

pub returns : goal.returns
returns c = λ before fields h few.
    let new = c.write_field.new.self in
    elim c.match-write_field.branch [
      | in-Ok w ↦ subst (λ r. OnOk r (IsWithin new before (fields ++ c.args.field.now ∷ [])))
          (sym w.result-is)
          (within-more c.args.writer.now new before fields c.args.field.now h few
          (w.in-Ok.ensures.text
          (λ e. let never : Necessary ≡ NonNumeric = ap (λ s. s.style) (sym h.setup) ∙ e in cc))
          w.in-Ok.ensures.same w.in-Ok.ensures.count
          (λ f. w.in-Ok.ensures.wrote f (λ e.
          let never : Necessary ≡ NonNumeric = ap (λ s. s.style) (sym h.setup) ∙ e in cc))
          w.in-Ok.ensures.stays)
      | in-Err w ↦ subst (λ r. OnOk r (IsWithin new before (fields ++ c.args.field.now ∷ [])))
          (sym w.result-is) tt
    ]
