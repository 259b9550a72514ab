use Rattle.std.proofs.Common.{◌≡◌, ◌∷◌, ◌++◌, [], List, sym, ap, ◌∙◌, subst, arith, length}
use Rattle.std.proofs.Common.{length-append}
use Rattle.row_types.specs.Rows.{Row}
use Rattle.table_store.specs.Blocks.{Room}
use Rattle.table_store.specs.Blocks.{joined, Packed}
use Rattle.table_store.proofs.Packing.{joined-grow, Packed-grow}
use Rattle.table_store.proofs.rows.Rows.grow.Goals as goal

pub invariant_of-self-2 : goal.invariant_of-self-2
invariant_of-self-2 c =
    let bs = c.self.inside.blocks.items in
    let e : c.push.new.self.items ≡ bs ++ [] ∷ [] = c.in_ok-push.ensures.items ∙
    ap (λ (b : List Row). bs ++ b ∷ []) c.in_ok-block.ensures in (
      subst Packed (sym e) (Packed-grow bs c.self.invariant.0),
      c.self.invariant.1 ∙ ap (λ (xs : List Row). length xs) (sym (ap joined e ∙ joined-grow bs)),
      (let n = ap (λ (xs : List (List Row)). length xs) e in let l = c.if-len-ge-MOST.false in
          let k = c.len.ensures in omega (arith, length-append bs ([] ∷ []))),
    )

pub returns-clause-rows : goal.returns-clause-rows
returns-clause-rows c =
    let bs = c.self.inside.blocks.items in
    let e : c.push.new.self.items ≡ bs ++ [] ∷ [] = c.in_ok-push.ensures.items ∙
    ap (λ (b : List Row). bs ++ b ∷ []) c.in_ok-block.ensures in
    ap joined e ∙ joined-grow bs ∙ ap (λ (r : Room). r.rows) c.self.view_is
