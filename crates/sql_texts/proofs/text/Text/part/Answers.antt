-- The characters that were collected are the part.
use Rattle.std.proofs.Common.{List, ℕ, ◌≡◌, ◌≤◌, rules, ap, ◌∙◌, sym, subst, length, take, drop}
use Rattle.std.proofs.Common.{IfOk, Ok}
use Rattle.std.specs.Str.{chars}
use Rattle.std.proofs.lemmas.Iterator.{text_from_collect, YieldsList-from_take}
use Rattle.std.proofs.lemmas.Iterator.{YieldsList-from_chars}
use Rattle.std.proofs.lemmas.Iterator.Adapters.{YieldsList-from_skip}
use Rattle.sql_texts.proofs.Parts.{chars-part, part-shorter}
use Rattle.sql_texts.proofs.text.Text.part.Goals as goal

pub of-requires : goal.of-requires
of-requires c =
    let bytes = c.as_str.result.now in
    let collected = text_from_collect {E = ℕ} (Ok c.in_ok-characters.characters)
    c.in_ok-characters.ensures.ran
    (YieldsList-from_take c.args.count (YieldsList-from_skip c.args.left_out
    (YieldsList-from_chars bytes c.as_str.utf8 cc) cc) cc) in
    subst (λ (x : List ℕ). length x ≤ 4096) (sym
    (chars-part _ bytes c.args.left_out c.args.count c.as_str.utf8 collected))
    (part-shorter c.args.left_out c.args.count 4096 (chars bytes) (search rules))

pub returns : goal.returns
returns c =
    let bytes = c.as_str.result.now in
    let collected = text_from_collect {E = ℕ} (Ok c.in_ok-characters.characters)
    c.in_ok-characters.ensures.ran
    (YieldsList-from_take c.args.count (YieldsList-from_skip c.args.left_out
    (YieldsList-from_chars bytes c.as_str.utf8 cc) cc) cc) in
    let whole : chars bytes ≡ c.args.self.now = search rules in
    subst (λ (x : List ℕ). IfOk c.of.result (λ t. t ≡ x))
    (chars-part _ bytes c.args.left_out c.args.count c.as_str.utf8 collected ∙
    ap (λ (s : List ℕ). take c.args.count (drop c.args.left_out s)) whole) c.of.ensures
