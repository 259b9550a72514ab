use Rattle.std.proofs.Common.{ap, sym, ◌∙◌}
use Rattle.row_types.specs.Tables.{names_of}
use Rattle.psm_effects.specs.Database.{Plain}
use Rattle.psm_session.specs.Names.{without_name}
use Rattle.psm_session.proofs.Naming.{names-dropped}
use Rattle.psm_session.proofs.names.take_out.Goals as goal

pub returns-clause-names : goal.returns-clause-names
returns-clause-names c =
    c.remove_name.ensures ∙ ap (without_name c.args.name.now) c.requires.names
    ∙ sym (ap (λ (d : Plain). names_of d.tables) c.in_ok-reply.ensures.ok.1
    ∙ names-dropped c.args.name.now c.args.tables.now.tables)
