use Rattle.std.proofs.Common.{refl, inl, inr}
use Rattle.reply_text.specs.declared.fault.FaultText.TheVariants.{Syntax, TooDeep}
use Rattle.psm_session.specs.Executing.{Executes}
use Rattle.psm_session.proofs.Unread.{unread}
use Rattle.psm_session.proofs.next.run_next.Goals as goal

pub returns-in-Err-NoStatement-clause-ok : goal.returns-in-Err-NoStatement-clause-ok
returns-in-Err-NoStatement-clause-ok c =
    let found = rw c.in-Err-NoStatement.field-0-is at c.in-Err-NoStatement.ensures.answers in
    unread (Executes c.args.budget) c.args.tokens.now c.args.at c.args.db.now Syntax c.in-Err-NoStatement.stop
    c.unread.result found.1 (inl (refl, found.0)) c.unread.ensures.reply c.unread.ensures.end

pub returns-in-Err-TooDeep-clause-ok : goal.returns-in-Err-TooDeep-clause-ok
returns-in-Err-TooDeep-clause-ok c =
    let found = rw c.in-Err-TooDeep.field-0-is at c.in-Err-TooDeep.ensures.answers in
    unread (Executes c.args.budget) c.args.tokens.now c.args.at c.args.db.now TooDeep c.in-Err-TooDeep.stop
    c.unread-in-Err-TooDeep.result found.1 (inr (refl, found.0))
    c.unread-in-Err-TooDeep.ensures.reply c.unread-in-Err-TooDeep.ensures.end
