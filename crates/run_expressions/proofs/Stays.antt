-- What runs keep, from one to the next.
use Rattle.std.proofs.Common.{refl, ◌∙◌, arith}
use Rattle.atomic_undo.proofs.Laws.{KeepsMarks-refl, KeepsMarks-trans}
use Rattle.run_expressions.specs.Content.{Content, Stays}

pub stays_same : (m : Content) → Stays m m
stays_same m = record {
  marks = KeepsMarks-refl m.memory m.book;
  active = refl;
  turns =
      omega arith;
}

pub stays_on : (m n k : Content) → Stays m n → Stays n k → Stays m k
stays_on m n k one two =
    let c = one.turns in let d = two.turns in
    record {
      marks = KeepsMarks-trans m.memory m.book n.memory n.book k.memory k.book one.marks two.marks;
      active = two.active ∙ one.active;
      turns = omega arith;
    }
