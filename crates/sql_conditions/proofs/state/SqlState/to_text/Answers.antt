use Rattle.std.proofs.Common.{rules, ◌≡◌, ◌≤◌, ◌∙◌, List, ℕ, ap, sym, subst, length, string_bytes}
use Rattle.std.specs.Prelude.{IfOk}
use Rattle.std.specs.Str.{chars}
use Rattle.sql_conditions.proofs.Characters.{state_characters, state_utf8}
use Rattle.sql_conditions.proofs.state.SqlState.to_text.Goals as goal

pub of-requires : goal.of-requires
of-requires c =
    let made : chars (string_bytes c.in_ok-characters.characters) ≡ c.self.inside.characters =
    ap chars (c.in_ok-characters.ensures.ok (state_utf8 _ c.self.invariant))
    ∙ state_characters _ c.self.invariant in
    let short : length c.self.inside.characters ≤ 4096 = search rules in
    subst (λ (s : List ℕ). length s ≤ 4096) (sym made) short

pub returns : goal.returns
returns c =
    let made : chars (string_bytes c.in_ok-characters.characters) ≡ c.self.inside.characters =
    ap chars (c.in_ok-characters.ensures.ok (state_utf8 _ c.self.invariant))
    ∙ state_characters _ c.self.invariant in
    subst (λ (s : List ℕ). IfOk c.of.result (λ t. t ≡ s)) (made ∙ c.self.view_is) c.of.ensures
