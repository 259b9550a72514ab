-- The bytes of both give the characters of both.
use Rattle.std.proofs.Common.{List, ℕ, ◌≡◌, ◌++◌, rules, ap, subst, arith, length, length-append}
use Rattle.std.proofs.Common.{string_bytes, IfOk}
use Rattle.std.specs.Str.{chars}
use Rattle.sql_texts.proofs.Parts.{chars-joined}
use Rattle.sql_texts.proofs.text.Text.joined.Goals as goal

pub of-requires : goal.of-requires
of-requires c =
    let made : chars (string_bytes c.push_str-2.new.self) ≡ c.args.self.now ++ c.args.other.now =
    search (rules, chars-joined) in
    omega (arith, ap length made, length-append c.args.self.now c.args.other.now)

pub returns : goal.returns
returns c =
    let made : chars (string_bytes c.push_str-2.new.self) ≡ c.args.self.now ++ c.args.other.now =
    search (rules, chars-joined) in
    subst (λ (x : List ℕ). IfOk c.of.result (λ t. t ≡ x)) made c.of.ensures
