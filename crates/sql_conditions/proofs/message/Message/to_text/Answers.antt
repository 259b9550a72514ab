use Rattle.std.proofs.Common.{◌≡◌, ◌≤◌, ◌∙◌, List, ℕ, ap, sym, subst, length, arith}
use Rattle.std.specs.Prelude.{IfOk}
use Rattle.std.specs.Str.{chars}
use Rattle.std.proofs.lemmas.Str.{chars-nil}
use Rattle.sql_texts.specs.declared.TheConstants.{MOST_TEXT}
use Rattle.sql_conditions.specs.Messages.{characters_of}
use Rattle.sql_conditions.proofs.Characters.{engine_characters, engine_short}
use Rattle.sql_conditions.proofs.message.Message.to_text.Goals as goal

pub text_of_constant-requires : goal.text_of_constant-requires
text_of_constant-requires c =
    subst (λ (cs : List ℕ). length cs ≤ MOST_TEXT) (sym chars-nil) (omega arith)

pub text_of_constant-requires-in-Engine : goal.text_of_constant-requires-in-Engine
text_of_constant-requires-in-Engine c =
    subst (λ (cs : List ℕ). length cs ≤ MOST_TEXT)
    (sym (ap chars c.text.ensures ∙ engine_characters c.in-Engine.engine))
    (engine_short c.in-Engine.engine)

pub returns-in-None : goal.returns-in-None
returns-in-None c =
    subst (λ (cs : List ℕ). IfOk c.text_of_constant.result (λ t. t ≡ cs))
    (chars-nil ∙ ap characters_of (sym c.in-None.is) ∙ c.self.view_is) c.text_of_constant.ensures

pub returns-in-Engine : goal.returns-in-Engine
returns-in-Engine c =
    subst (λ (cs : List ℕ). IfOk c.text_of_constant-in-Engine.result (λ t. t ≡ cs))
    (ap chars c.text.ensures ∙ engine_characters c.in-Engine.engine
    ∙ ap characters_of (sym c.in-Engine.is) ∙ c.self.view_is)
    c.text_of_constant-in-Engine.ensures
