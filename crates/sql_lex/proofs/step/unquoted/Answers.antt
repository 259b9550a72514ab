use Rattle.std.proofs.Common.{sym, ◌∙◌, [], ◌∷◌, ◌++◌, get_or, append-nil}
use Rattle.sql_lex.proofs.Scanning.{unquoted-starts, unquoted-closes, unquoted-goes, pushed}
use Rattle.sql_lex.proofs.step.unquoted.Goals as goal

pub loop-at-init : goal.loop-at-init
loop-at-init c = ([], sym (append-nil c.args.text.now.items), unquoted-starts c.args.bytes.now)

pub returns-in_default : goal.returns-in_default
returns-in_default c =
    let i = c.loop-at.invariant in (
      i.0,
      unquoted-closes _ _ _ c.loop-at-test.true (sym c.width_in_text.ensures ∙ c.in_default.is)
          i.2,
      i.1,
    )

pub loop-at-preserved : goal.loop-at-preserved
loop-at-preserved c =
    let i = c.loop-at.invariant in (
      i.0 ++ get_or c.args.bytes.now c.loop-at.at 0 ∷ [],
      pushed _ _ _ _ _ c.in_ok-push.ensures.items
          i.1,
      unquoted-goes _ _ _ _ c.loop-at-test.true (sym c.width_in_text.ensures ∙ c.in-Some.is)
          i.2,
    )
