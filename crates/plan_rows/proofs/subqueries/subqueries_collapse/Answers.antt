use Rattle.plan_rows.proofs.Collapsing.{exists_is, member_is, single_is}
use Rattle.plan_rows.proofs.subqueries.subqueries_collapse.Goals as goal

pub returns-clause-single : goal.returns-clause-single
returns-clause-single c = single_is

pub returns-clause-exists : goal.returns-clause-exists
returns-clause-exists c = exists_is

pub returns-clause-member : goal.returns-clause-member
returns-clause-member c = member_is
