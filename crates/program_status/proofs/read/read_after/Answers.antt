use Rattle.std.proofs.Common.{◌≤◌, ◌≡◌, ◌+◌, length, take, arith}
use Rattle.std.proofs.lemmas.List.{length-take-le}
use Rattle.program_status.proofs.ReadLemmas.{piece_after}
use Rattle.program_status.proofs.read.read_after.Goals as goal

pub returns-clause-ok : goal.returns-clause-ok
returns-clause-ok g c =
    let t = c.args.text.now in
    let buf = c.read.new.buf in
    let n = c.in_ok-count.count in
    let at = c.args.at in
    let fits : n ≤ length buf = c.in_ok-count.ensures.bound.0 in
    let len : length buf + at ≡ length t = omega arith in (
      take n buf,
      piece_after t buf _ at n (omega arith) fits,
      c.in_ok-count.ensures.bytes.0,
      length-take-le n buf fits,
      omega arith,
      λ none. c.in_ok-count.ensures.bytes.1 none
          (omega arith),
    )
