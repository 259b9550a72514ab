use Rattle.std.proofs.Common.{List, ap, sym, ◌∙◌, arith, take_all}
use Rattle.std.proofs.lemmas.List.Folds.{list_any_at}
use Rattle.std.specs.List.{list_any}
use Rattle.rel_algebra.specs.PlanView.{scalar_of}
use Rattle.rel_algebra.specs.declared.scalar.Scalar.{Scalar}
use Rattle.rel_algebra.specs.declared.scalar.ScalarLink.{ScalarLink}
use Rattle.plan_keys.specs.Reading.{link_reads, reads_row}
use Rattle.plan_keys.proofs.SameRows.{any_listed, chain_reads, code_reads, or_true, or_none}
use Rattle.plan_keys.proofs.reading.+reading.Goals as goal

-- src/reading.rt:28:17
pub reads_row-returns-then-reads_row-2 : goal.reads_row-returns-then-reads_row-2
reads_row-returns-then-reads_row-2 t c =
    sym (chain_reads c.args.scalar.now c.in-Chain.first c.in-Chain.links c.in-Chain.is ∙
    or_true (reads_row (scalar_of c.in-Chain.first)) (list_any link_reads c.in-Chain.links)
    (ap (λ (s : Scalar). reads_row (scalar_of s)) (sym c.get-in-Chain.ensures) ∙
    (sym c.reads_row-in-Chain.ensures ∙ c.if-reads_row-2.true)))

-- src/reading.rt:11:1
pub reads_row-returns-else-reads_row-2 : goal.reads_row-returns-else-reads_row-2
reads_row-returns-else-reads_row-2 t c =
    c.links_read.ensures ∙
    (ap (λ (ls : List ScalarLink). list_any link_reads ls) c.as_slice.ensures ∙
    sym (chain_reads c.args.scalar.now c.in-Chain.first c.in-Chain.links c.in-Chain.is ∙
    or_none (reads_row (scalar_of c.in-Chain.first)) (list_any link_reads c.in-Chain.links)
    (ap (λ (s : Scalar). reads_row (scalar_of s)) (sym c.get-in-Chain.ensures) ∙
    (sym c.reads_row-in-Chain.ensures ∙ c.if-reads_row-2.false))))

-- src/reading.rt:56:13
pub any_reads-returns-then-reads_row : goal.any_reads-returns-then-reads_row
any_reads-returns-then-reads_row t c =
    sym (any_listed c.args.scalars.now ∙
    list_any_at code_reads c.args.scalars.now c.loop-scalar.scalar-index c.scalar-item.result
    (omega (arith, c.loop-scalar-test.true, c.loop-scalar.invariant.end))
    (ap code_reads (sym c.scalar-item.is) ∙ (sym c.reads_row.ensures ∙ c.if-reads_row.true)))

-- src/reading.rt:50:1
pub any_reads-returns : goal.any_reads-returns
any_reads-returns t c =
    sym (any_listed c.args.scalars.now ∙
    (ap (list_any code_reads) (sym (take_all c.loop-scalar.scalar-index c.args.scalars.now
    (omega (arith, c.loop-scalar-test.false, c.loop-scalar.invariant.end)))) ∙
    c.loop-scalar.invariant.none))
