-- A scalar that names no column of the row is the same on all rows.
use Rattle.std.proofs.Common.{◌≡◌, zero, suc, Bool, true, false, List, [], ◌∷◌, ◌||◌, refl, ap, sym}
use Rattle.std.proofs.Common.{◌∙◌, map}
use Rattle.std.specs.List.{list_any}
use Rattle.std.proofs.lemmas.Bool.{true≢false}
use Rattle.sql_values.specs.declared.value.Value.{Value}
use Rattle.row_types.specs.declared.cell.Cell.{Cell}
use Rattle.rel_algebra.specs.Tree.{Arithmetic}
use Rattle.rel_algebra.specs.Plan.{Scalar, constant, column, argument, word, Scalars, none, more}
use Rattle.rel_algebra.specs.Plan.{cell_of, cells_of, strict, word_cell}
use Rattle.rel_algebra.specs.PlanView.{Link, chained, scalar_of, scalars_of, link_of}
use Rattle.rel_algebra.specs.PlanView.{scalar_step, link_step}
use Rattle.rel_algebra.specs.declared.scalar.Scalar.{Scalar as Code}
use Rattle.rel_algebra.specs.declared.scalar.Scalar.TheVariants.{Chain, rolls-Chain}
use Rattle.rel_algebra.specs.declared.scalar.Scalar.TheOpen.{Scalar-F}
use Rattle.rel_algebra.specs.declared.scalar.Scalar.TheFolds.{fold-roll-Scalar}
use Rattle.rel_algebra.specs.declared.scalar.Scalar.TheFolds.{fold-roll-ScalarLink}
use Rattle.rel_algebra.specs.declared.scalar.ScalarLink.{ScalarLink}
use Rattle.plan_scalars.specs.Sights.{sight_of}
use Rattle.plan_keys.specs.Reading.{reads_row, any_reads, link_reads}

left_none : (a b : Bool) → (a || b) ≡ false → a ≡ false
left_none true b h = h
left_none false b h = refl

right_none : (a b : Bool) → (a || b) ≡ false → b ≡ false
right_none true b h = absurd (true≢false h)
right_none false b h = h

mutual
  pub same_on_rows : (s : Scalar) (r q : List Cell) (o : List (List Cell)) (args : List Value) →
      reads_row s ≡ false → cell_of s (sight_of r o args) ≡ cell_of s (sight_of q o args)
  same_on_rows (constant v) r q o args h = refl
  same_on_rows (column zero i) r q o args h = absurd (true≢false h)
  same_on_rows (column (suc level) i) r q o args h = refl
  same_on_rows (argument i) r q o args h = refl
  same_on_rows (word w ss) r q o args h = ap (word_cell w) (all_same_on_rows ss r q o args h)

  all_same_on_rows : (ss : Scalars) (r q : List Cell) (o : List (List Cell)) (args : List Value) →
      any_reads ss ≡ false → cells_of ss (sight_of r o args) ≡ cells_of ss (sight_of q o args)
  all_same_on_rows none r q o args h = refl
  all_same_on_rows (more s ss) r q o args h =
      let x = same_on_rows s r q o args (left_none (reads_row s) (any_reads ss) h) in
      let y = all_same_on_rows ss r q o args (right_none (reads_row s) (any_reads ss) h) in
      λ i. x i ∷ y i

-- ---- chains and lists of the code

abbrev plain_reads : Link → Bool
plain_reads l = reads_row l.operand

or_again : (a b c : Bool) → ((a || (b || false)) || c) ≡ (a || (b || c))
or_again true b c = refl
or_again false true c = refl
or_again false false c = refl

chain_links : (first : Scalar) (ls : List Link) →
    reads_row (chained first ls) ≡ (reads_row first || list_any plain_reads ls)
chain_links first [] = or_none (reads_row first)
  where
    or_none : (a : Bool) → a ≡ (a || false)
    or_none true = refl
    or_none false = refl
chain_links first (l ∷ ls) =
    chain_links (word (strict (Arithmetic l.operator)) (more first (more l.operand none))) ls ∙
    or_again (reads_row first) (reads_row l.operand) (list_any plain_reads ls)

link_parts : (l : ScalarLink) → link_of l ≡ record {
  operator = l.operator;
  operand =
      scalar_of l.operand;
}
link_parts l = fold-roll-ScalarLink Scalar Link scalar_step link_step
    (record { operator = l.operator; operand = l.operand })

links_as : (ls : List ScalarLink) → list_any plain_reads (map link_of ls) ≡ list_any link_reads ls
links_as [] = refl
links_as (l ∷ ls) =
    ap (λ (x : Link). plain_reads x || list_any plain_reads (map link_of ls)) (link_parts l) ∙
    ap (λ b. link_reads l || b) (links_as ls)

pub chain_reads : (whole first : Code) (ls : List ScalarLink) → whole ≡ Chain first ls →
    reads_row (scalar_of whole) ≡ (reads_row (scalar_of first) || list_any link_reads ls)
chain_reads whole first ls is =
    ap (λ x. reads_row (scalar_of x)) (is ∙ sym (rolls-Chain first ls)) ∙
    (ap reads_row (fold-roll-Scalar Scalar Link scalar_step link_step (Scalar-F.Chain first ls)) ∙
    (chain_links (scalar_of first) (map link_of ls) ∙
    ap (λ b. reads_row (scalar_of first) || b) (links_as ls)))

-- a scalar of the code names a column of the row
abbrev pub code_reads : Code → Bool
code_reads s = reads_row (scalar_of s)

pub any_listed : (ss : List Code) → any_reads (scalars_of ss) ≡ list_any code_reads ss
any_listed [] = refl
any_listed (s ∷ ss) = ap (λ b. code_reads s || b) (any_listed ss)

pub or_true : (a b : Bool) → a ≡ true → (a || b) ≡ true
or_true true b h = refl
or_true false b h = absurd (true≢false (sym h))

pub or_none : (a b : Bool) → a ≡ false → (a || b) ≡ b
or_none true b h = absurd (true≢false h)
or_none false b h = refl
