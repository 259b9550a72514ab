-- Records, field by field.
use Rattle.std.proofs.Common.{ℕ, ◌≡◌, ◌<◌, ◌+◌, ◌-◌, ◌^◌, ◌++◌, ◌∷◌, [], Bool, true, false, List}
use Rattle.std.proofs.Common.{sym, ap, ◌∙◌, arith, min, length, not, ◌&&◌, ◌||◌, ◌==◌}
use Rattle.std.proofs.Common.{if◌then◌else◌, append_assoc, length-append}
use Rattle.std.proofs.lemmas.List.{append-nil}
use Rattle.std.specs.declared.vec.Vec.{Vec}
use Rattle.std.specs.declared.alloc.Global.{Global}
use Rattle.csv.specs.declared.writer.Writer.{Writer}
use Rattle.csv.specs.Writing.{next_sep, field_text, tail_text, is_blank, row_text, row_body}
use Rattle.csv.specs.Writing.{fields_written, has_written, writer_setup}
use Rattle.csv.proofs.WriteFacts.{row-more, blank-more}
use Rattle.reply_text.specs.Texts.{record_writer}
use Rattle.reply_text.specs.Writers.{written, IsBetween, IsWithin}

pub within-start : (w : Writer (Vec ℕ Global)) → IsBetween w → IsWithin w (written w) []
unfolding is_blank
within-start w h = record {
  text = sym (append-nil (written w));
  count = h.fields;
  shown = ap (λ b. not b && true) (sym h.clean);
  setup = h.setup;
}

-- one field more
pub within-more : (v w : Writer (Vec ℕ Global)) (before : List ℕ) (fields : List (List ℕ))
    (field : List ℕ) → IsWithin v before fields → length fields + 1 < 2 ^ 64
    → written w ≡ written v ++ (next_sep (writer_setup v) (fields_written v) ++ field_text
    (writer_setup v) field)
    → writer_setup w ≡ writer_setup v
    → fields_written w ≡ min (fields_written v + 1) (2 ^ 64 - 1)
    → (has_written v ≡ false → has_written w ≡
    not (length (field_text (writer_setup v) field) == 0))
    → (has_written v ≡ true → has_written w ≡ true)
    → IsWithin w before (fields ++ field ∷ [])
within-more v w before fields field h few text setup count wrote stays =
    let size = length-append fields (field ∷ []) in
    let longer : length (fields ++ field ∷ []) ≡ length fields + 1 = size in
    record {
      text = text
          ∙ ap (λ c. written v ++ (next_sep c (fields_written v) ++ field_text c field)) h.setup
          ∙ ap (λ n. written v ++ (next_sep record_writer n ++ field_text record_writer field))
          h.count
          ∙ ap (λ (t : List ℕ). t ++ (next_sep record_writer (length fields) ++
          field_text record_writer field)) h.text
          ∙ append_assoc before (row_body record_writer fields)
          (next_sep record_writer (length fields) ++ field_text record_writer field)
          ∙ ap (λ (t : List ℕ). before ++ t) (sym (row-more record_writer fields field));
      count = count ∙ (let c = h.count in omega arith);
      shown = blank-more record_writer fields field (has_written v) (has_written w) h.shown
          (λ f. wrote f ∙ ap (λ c. not (length (field_text c field) == 0)) h.setup) stays
          ∙ ap (λ n. not (has_written w) && ((n == 0) || (n == 1))) (sym longer);
      setup = setup ∙ h.setup;
    }

-- the record's end
pub within-end : (v w : Writer (Vec ℕ Global)) (before : List ℕ) (fields : List (List ℕ)) →
    IsWithin v before fields
    → written w ≡ written v ++ tail_text (writer_setup v) (has_written v) (fields_written v) →
    written w ≡ before ++ row_text record_writer fields
within-end v w before fields h text =
    let tail = λ (b : Bool). (if b then 34 ∷ 34 ∷ [] else []) ++ 10 ∷ [] in
    text
    ∙ ap (λ c. written v ++ tail_text c (has_written v) (fields_written v)) h.setup
    ∙ ap (λ n. written v ++ tail_text record_writer (has_written v) n) h.count
    ∙ ap (λ b. written v ++ tail b) (sym h.shown)
    ∙ ap (λ (t : List ℕ). t ++ tail (is_blank record_writer fields)) h.text
    ∙ append_assoc before (row_body record_writer fields) (tail (is_blank record_writer fields))
