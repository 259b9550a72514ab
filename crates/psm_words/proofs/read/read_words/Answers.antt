use Rattle.std.proofs.Common.{rules, ◌≡◌, map}
use Rattle.clap.specs.Kinds.{HasKind}
use Rattle.clap.specs.Words.{fault_of}
use Rattle.psm_words.specs.Words.{command_of, psm}
use Rattle.psm_words.proofs.Laws.{psm_is_simple, read_is_taken, refused_is_none}
use Rattle.psm_words.proofs.read.read_words.Goals as goal

pub returns-in-Ok-clause-taken : goal.returns-in-Ok-clause-taken
returns-in-Ok-clause-taken c =
    let words = map (λ w. w.now) c.args.words.now in
    let same : c.command_in.result ≡ command_of words = search (rules, psm_is_simple) in
    read_is_taken words c.command_in.result same

pub returns-in-Err-clause-exact : goal.returns-in-Err-clause-exact
returns-in-Err-clause-exact c =
    let words = map (λ w. w.now) c.args.words.now in
    let kinds : HasKind (fault_of psm words) c.in-Err.error = search (rules, psm_is_simple) in
    refused_is_none words c.in-Err.error c.refused.result kinds c.refused.ensures
