use Rattle.std.proofs.Common.{refl}
use Rattle.plan_regions.proofs.Stepped.{one_sound, one_stepped}
use Rattle.plan_regions.proofs.reading.steps_of.Goals as goal

pub loop-left-preserved : goal.loop-left-preserved
loop-left-preserved c = record {
  sound = one_sound c.loop-left.steps.items c.push.new.self.items _ c.in_ok-push.ensures.items
      c.loop-left.invariant.sound c.idle_of-idle.ensures;
  cells = λ row outer args. one_stepped c.loop-left.left.now c.split_at.result.0.now
      c.split_at.result.1.now c.step_len.result c.loop-left.steps.items c.push.new.self.items _ row
      _ outer args c.split_at.ensures.front c.split_at.ensures.back refl c.in_ok-push.ensures.items
      (c.loop-left.invariant.cells row outer args);
}
