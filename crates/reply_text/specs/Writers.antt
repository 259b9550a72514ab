-- A csv writer between two records, and what it took.
use Rattle.std.specs.Prelude.{◌≡◌, ◌==◌, ◌&&◌, ◌||◌, ◌++◌, ℕ, false, not, length, List, [], Option}
use Rattle.std.specs.Prelude.{Some, None}
use Rattle.std.specs.declared.vec.Vec.{Vec}
use Rattle.std.specs.declared.alloc.Global.{Global}
use Rattle.csv.specs.declared.writer.Writer.{Writer}
use Rattle.csv.specs.Writing.{text_written, fields_written, has_written, writer_setup, is_blank}
use Rattle.csv.specs.Writing.{row_body}
use Rattle.reply_text.specs.Texts.{record_writer}

-- the bytes where there are such, else none
abbrev pub known : Option (List ℕ) → List ℕ
known None = []
known (Some bytes) = bytes

-- what it took
abbrev pub written : Writer (Vec ℕ Global) → List ℕ
written w = known (text_written (λ v. Some v.items) w)

-- no field of a record is written, and records are those of replies
pub record IsBetween (w : Writer (Vec ℕ Global)) : Type 0 where
  pub fields : fields_written w ≡ 0
  pub clean : has_written w ≡ false
  pub setup : writer_setup w ≡ record_writer

-- after these bytes these fields of a record are written, and the record isn't ended
pub record IsWithin (w : Writer (Vec ℕ Global)) (before : List ℕ) (fields : List (List ℕ)) :
    Type 0 where
  pub text : written w ≡ before ++ row_body record_writer fields
  pub count : fields_written w ≡ length fields
  pub shown : is_blank record_writer fields ≡
      (not (has_written w) && ((length fields == 0) || (length fields == 1)))
  pub setup : writer_setup w ≡ record_writer
