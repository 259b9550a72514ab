use Rattle.std.proofs.Common.{◌∙◌, ap, option_map, refl, sym}
use Rattle.std.specs.Prelude.{option_and_then}
use Rattle.clap.proofs.WalkLemmas.{first_value-rows}
use Rattle.clap.specs.Words.{found_of}
use Rattle.psm_words.specs.Words.{most_u64, number_up_to}
use Rattle.psm_words.proofs.Reading.{number_read}
use Rattle.psm_words.proofs.command.u64_in.Goals as goal

pub returns-in-Some : goal.returns-in-Some
returns-in-Some c =
    c.ok.ensures.value
    ∙ number_read 64 most_u64 refl c.in-Some.text.now c.parse.result c.parse.ensures.value.0
    ∙ ap (option_and_then (number_up_to most_u64)) (ap (option_map (λ s. s.now)) (sym c.in-Some.is)
    ∙ c.get_str.ensures ∙ first_value-rows (found_of c.args.matches.now) c.args.id.now)

pub returns-in-None : goal.returns-in-None
returns-in-None c = ap (option_and_then (number_up_to most_u64))
    (ap (option_map (λ s. s.now)) (sym c.in-None.is)
    ∙ c.get_str.ensures ∙ first_value-rows (found_of c.args.matches.now) c.args.id.now)
