-- One more that is kept, after the others.
use Rattle.body_queries.proofs.Making.{one_more}
use Rattle.body_queries.proofs.under_rows.keep_once.Goals as goal

pub returns : goal.returns
returns c =
    one_more c.args.around.now c.args.kept.now c.push.new.self c.in_ok-one.one c.requires.kept
    c.in_ok-one.ensures.kept c.in_ok-push.ensures.ok
