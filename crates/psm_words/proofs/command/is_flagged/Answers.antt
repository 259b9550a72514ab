use Rattle.std.proofs.Common.{◌≡◌, ◌∙◌, ap, codes, false, option_map, rules, sym}
use Rattle.std.specs.Option.{option_map_or}
use Rattle.std.specs.Str.{bytes_eq}
use Rattle.clap.proofs.WalkLemmas.{first_value-rows}
use Rattle.clap.specs.Words.{found_of}
use Rattle.psm_words.proofs.command.is_flagged.Goals as goal

pub returns-in-Some : goal.returns-in-Some
returns-in-Some c =
    let same : c.eq.result ≡ bytes_eq c.in-Some.text.now (codes "true") = search rules in
    same ∙ ap (λ o. option_map_or (λ t. bytes_eq t (codes "true")) o false)
    (ap (option_map (λ s. s.now)) (sym c.in-Some.is)
    ∙ c.get_str.ensures ∙ first_value-rows (found_of c.args.matches.now) c.args.id.now)

pub returns-in-None : goal.returns-in-None
returns-in-None c = ap (λ o. option_map_or (λ t. bytes_eq t (codes "true")) o false)
    (ap (option_map (λ s. s.now)) (sym c.in-None.is)
    ∙ c.get_str.ensures ∙ first_value-rows (found_of c.args.matches.now) c.args.id.now)
