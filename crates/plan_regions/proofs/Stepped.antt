-- Nodes as steps, one after another.
use Rattle.std.proofs.Common.{◌≡◌, ℕ, List, [], ◌∷◌, ◌++◌, take, drop, refl, sym, ap, ◌∙◌}
use Rattle.std.proofs.Common.{zero, suc, ◌<◌, slice_index_or, subst, arith}
use Rattle.std.specs.List.{All}
use Rattle.std.proofs.lemmas.List.{take-append-drop}
use Rattle.std.proofs.lemmas.List.Elements.{All-append}
use Rattle.sql_values.specs.declared.value.Value.{Value}
use Rattle.row_types.specs.declared.cell.Cell.{Cell}
use Rattle.rel_algebra.specs.declared.plan.Node.{Node}
use Rattle.region_steps.specs.Chains.{chain_cells}
use Rattle.region_steps.proofs.Laws.{chain_append}
use Rattle.plan_regions.specs.declared.region.Step.{Step}
use Rattle.plan_regions.specs.Regions.{IsSound, steps_cells}

pub steps_push : (ss : List Step) (s : Step) (row : List Cell) (o : List (List Cell))
    (args : List Value) → steps_cells (ss ++ s ∷ []) row o args ≡ chain_cells s.nodes.now
    (steps_cells ss row o args) o args
steps_push [] s row o args = refl
steps_push (x ∷ ss) s row o args = steps_push ss s (chain_cells x.nodes.now row o args) o args

-- one step more was made of the nodes that are left
pub one_stepped : (left first rest : List Node) (k : ℕ) (ss new : List Step) (s : Step)
    (row whole : List Cell) (o : List (List Cell)) (args : List Value) → first ≡ take k left →
    rest ≡ drop k left → s.nodes.now ≡ first → new ≡ ss ++ s ∷ [] →
    chain_cells left (steps_cells ss row o args) o args ≡ whole →
    chain_cells rest (steps_cells new row o args) o args ≡ whole
one_stepped left first rest k ss new s row whole o args f r n p h =
    let there = steps_cells ss row o args in
    let both : first ++ rest ≡ left = ap (λ xs. xs ++ rest) f ∙
    (ap (λ ys. take k left ++ ys) r ∙ take-append-drop k left) in
    ap (λ xs. chain_cells rest (steps_cells xs row o args) o args) p
    ∙ (ap (λ cs. chain_cells rest cs o args) (steps_push ss s row o args)
    ∙ (ap (λ ns. chain_cells rest (chain_cells ns there o args) o args) n
    ∙ (sym (chain_append first rest there o args)
    ∙ (ap (λ ns. chain_cells ns there o args) both ∙ h))))

alone_sound : (s : Step) → IsSound s → All IsSound (s ∷ [])
alone_sound s i zero d l = i
alone_sound s i (suc k) d l = absurd (omega (arith, l))

-- and it is sound, as the others are
pub one_sound : (ss new : List Step) (s : Step) → new ≡ ss ++ s ∷ [] → All IsSound ss → IsSound s →
    All IsSound new
one_sound ss new s p h i = subst (λ (xs : List Step). All IsSound xs) (sym p)
    (All-append IsSound ss (s ∷ []) h (alone_sound s i))
