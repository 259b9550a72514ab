use Rattle.std.proofs.Common.{rules, arith, length-drop, length-append, ℕ, ◌+◌}
use Rattle.std.proofs.lemmas.List.{drop_all}
use Rattle.io_edges.proofs.Reading.{read_front}
use Rattle.io_edges.proofs.memory.MemSourceSource.read.Goals as goal

pub returns-clause-bytes : goal.returns-clause-bytes
returns-clause-bytes c = (
  read_front c.args.self.now.bytes.items c.args.buf.now c.copy_from_slice.new.self
      c.args.self.now.at c.min-count.result (search rules) (omega arith),
  λ none room. drop_all (c.args.self.now.at + c.min-count.result) c.args.self.now.bytes.items
      (omega (
        arith,
        length-append {A = ℕ},
        length-drop {A = ℕ},
        c.per_call.ensures.some,
        c.min.ensures,
        c.min-count.ensures,
      )),
)
