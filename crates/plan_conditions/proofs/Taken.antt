-- Cells that were taken from the end of a list, one and then another.
use Rattle.std.proofs.Common.{◌≡◌, ◌<◌, List, [], ◌∷◌, ◌++◌, length, ap, ◌∙◌, arith}
use Rattle.row_types.specs.declared.cell.Cell.{Cell}
use Rattle.plan_conditions.specs.Operands.{operands_in}
use Rattle.plan_conditions.specs.declared.word.Operands.TheVariants.{One, Two, Other}

-- it was the only one
pub one_taken : (all left : List Cell) (only : Cell) → all ≡ left ++ only ∷ [] → left ≡ [] →
    operands_in all ≡ One only
one_taken all left only h e =
    ap operands_in (h ∙ ap (λ cs. cs ++ only ∷ []) e)

-- two were all
pub two_taken : (all left rest : List Cell) (first second : Cell) → all ≡ left ++ second ∷ [] →
    left ≡ rest ++ first ∷ [] → length rest ≡ 0 → operands_in all ≡ Two first second
two_taken all left [] first second h e l =
    ap operands_in (h ∙ ap (λ cs. cs ++ second ∷ []) e)
two_taken all left (c ∷ rest) first second h e l = absurd (omega (arith, l))

-- others are left
pub more_taken : (all left rest : List Cell) (first second : Cell) → all ≡ left ++ second ∷ [] →
    left ≡ rest ++ first ∷ [] → 0 < length rest → operands_in all ≡ Other
more_taken all left [] first second h e l = absurd (omega (arith, l))
more_taken all left (c ∷ []) first second h e l =
    ap operands_in (h ∙ ap (λ cs. cs ++ second ∷ []) e)
more_taken all left (c ∷ d ∷ []) first second h e l =
    ap operands_in (h ∙ ap (λ cs. cs ++ second ∷ []) e)
more_taken all left (c ∷ d ∷ x ∷ rest) first second h e l =
    ap operands_in (h ∙ ap (λ cs. cs ++ second ∷ []) e)
