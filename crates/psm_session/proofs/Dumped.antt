-- A dump, table by table.
use Rattle.std.proofs.Common.{◌≡◌, ◌<◌, ◌+◌, ℕ, zero, suc, List, [], ◌∷◌, ◌++◌, length, arith, get_or}
use Rattle.std.proofs.Common.{take, sym, ap, ◌∙◌, append_assoc, append-nil}
use Rattle.row_types.specs.Tables.{Tables, names_of, table_at}
use Rattle.reply_text.specs.Texts.{table_text}
use Rattle.psm_session.specs.Dump.{tables_text}

-- the text of one table more, by its place
tables_more : (ts : Tables) (at : ℕ) (name : List ℕ) → at < length ts →
    name ≡ get_or (names_of ts) at name →
    tables_text (take (suc at) ts) ≡ tables_text (take at ts) ++
    table_text name (table_at ts at).rows
tables_more [] at name there is = absurd (omega arith)
tables_more (s ∷ ss) zero name there is =
    append-nil (table_text s.name s.table.rows) ∙
    ap (λ (n : List ℕ). table_text n s.table.rows) (sym is)
tables_more (s ∷ ss) (suc at) name there is =
    ap (λ (t : List ℕ). table_text s.name s.table.rows ++ t)
    (tables_more ss at name (omega arith) is)
    ∙ sym (append_assoc (table_text s.name s.table.rows) (tables_text (take at ss))
    (table_text name (table_at ss at).rows))

-- one table more is written
pub table_written : (ts : Tables) (names : List (List ℕ)) (at : ℕ) (name : List ℕ)
    (first old new : List ℕ) → at < length ts → names ≡ names_of ts →
    name ≡ get_or names at name → old ≡ first ++ tables_text (take at ts) →
    new ≡ old ++ table_text name (table_at ts at).rows →
    new ≡ first ++ tables_text (take (at + 1) ts)
table_written ts names at name first old new there all is before written =
    let e : at + 1 ≡ suc at = omega arith in
    let more = tables_more ts at name there
    (is ∙ ap (λ (ns : List (List ℕ)). get_or ns at name) all) in
    written ∙ ap (λ (t : List ℕ). t ++ table_text name (table_at ts at).rows) before ∙
    append_assoc first (tables_text (take at ts)) (table_text name (table_at ts at).rows)
    ∙ ap (λ (t : List ℕ). first ++ t) (sym more) ∙
    ap (λ (k : ℕ). first ++ tables_text (take k ts)) (sym e)
