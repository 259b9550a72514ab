use Rattle.std.specs.Prelude.{IfOk}
use Rattle.std.proofs.Common.{◌≡◌, sym, subst, ap}
use Rattle.std.proofs.lemmas.Str.{IsUtf8-string_bytes}
use Rattle.sql_lex.proofs.Scanning.{text_of-utf8, text_of-other}
use Rattle.sql_lex.proofs.step.text_of.Goals as goal

pub returns-in-Ok : goal.returns-in-Ok
returns-in-Ok c =
    subst (λ z. IfOk c.text_within.result (λ t. t ≡ z))
    (text_of-utf8 c.args.bytes.items _ (ap (λ v. v.items) c.in-Ok.ensures.ok)
    (IsUtf8-string_bytes c.in-Ok.characters)) c.text_within.ensures

pub returns-in-Err : goal.returns-in-Err
returns-in-Err c = sym (text_of-other c.args.bytes.items c.in-Err.ensures.succeeds)
