use Rattle.std.proofs.Common.{◌∙◌, ap, append-nil, refl, sym}
use Rattle.demo_script.specs.Demo.{next_number, number, triples}
use Rattle.demo_script.proofs.Steps.{number_more, row_more}
use Rattle.demo_script.proofs.script.put_triples.Goals as goal

pub loop-i-init : goal.loop-i-init
unfolding number triples
loop-i-init c = record { last = refl; rows = sym (append-nil c.args.text.now.items) }

pub loop-i-preserved : goal.loop-i-preserved
loop-i-preserved c =
    let last = c.next_number-x.ensures ∙ ap next_number c.loop-i.invariant.last
    ∙ sym (number_more c.args.seed c.loop-i.i) in
    record {
      last = last;
      rows = row_more c.args.seed c.loop-i.i c.next_number-x.result c.args.text.now.items
          c.loop-i.text.items c.put_separator.new.text.items c.put_triple.new.text.items last
          c.loop-i.invariant.rows c.in_ok-put_separator.ensures c.in_ok-put_triple.ensures;
    }
