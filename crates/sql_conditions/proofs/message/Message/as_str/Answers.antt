use Rattle.std.proofs.Common.{◌∙◌, ap, sym}
use Rattle.std.specs.Str.{chars}
use Rattle.std.proofs.lemmas.Str.{chars-nil}
use Rattle.sql_conditions.proofs.Characters.{engine_characters}
use Rattle.sql_conditions.specs.Messages.{characters_of}
use Rattle.sql_conditions.proofs.message.Message.as_str.Goals as goal

pub returns-in-None-clause-characters : goal.returns-in-None-clause-characters
returns-in-None-clause-characters c =
    chars-nil ∙ ap characters_of (sym c.in-None.is) ∙ c.self.view_is

pub returns-in-Engine-clause-characters : goal.returns-in-Engine-clause-characters
returns-in-Engine-clause-characters c =
    ap chars c.text.ensures ∙ engine_characters c.in-Engine.engine
    ∙ ap characters_of (sym c.in-Engine.is) ∙ c.self.view_is
