use Rattle.std.proofs.Common.{◌<◌, length, arith, sym, ◌∙◌}
use Rattle.row_types.specs.Rows.{by_key}
use Rattle.atomic_undo.proofs.Replacing.{Climb_at, stay_step, stay_end}
use Rattle.atomic_undo.proofs.update.keep_keys.Goals as goal

pub has_key_at-requires : goal.has_key_at-requires
has_key_at-requires c =
    let l : c.loop-i.i < length c.args.places.now = (let h = c.requires.both in omega arith) in
    Climb_at 0 c.args.places.now (length c.args.table.now.table.rows) c.loop-i.i c.requires.places l

pub loop-i-preserved : goal.loop-i-preserved
loop-i-preserved c =
    sym (stay_step (by_key c.args.table.now.table.key) c.args.places.now c.args.new.now
    c.args.table.now.table.rows c.loop-i.i c.index-new-i.result c.loop-i-test.true c.requires.both
    c.index-new-i.is
    (sym c.has_key_at.ensures ∙ c.if-not-has_key_at.false)) ∙ c.loop-i.invariant

pub returns : goal.returns
returns c = λ _. sym c.loop-i.invariant ∙ stay_end (by_key c.args.table.now.table.key)
    c.args.places.now c.args.new.now c.args.table.now.table.rows c.loop-i.i c.loop-i-test.false
    c.requires.both
