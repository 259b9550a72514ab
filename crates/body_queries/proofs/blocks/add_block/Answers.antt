-- The block is one of the catalog of what is kept, under its copied name and types.
use Rattle.std.proofs.Common.{ℕ, List, Some, sym, subst, ◌∙◌}
use Rattle.sql_values.specs.declared.value.SqlType.{SqlType}
use Rattle.block_plans.specs.Blocks.{IsBlock}
use Rattle.body_queries.proofs.blocks.add_block.Goals as goal

pub add_block-requires : goal.add_block-requires
add_block-requires c =
    let known = c.args.kept.now in let plan = c.args.plan in
    subst (λ (n : List ℕ). IsBlock known n
    (record { parameters = c.in_ok-types.types; plan = Some plan })) (sym c.in_ok-name.ensures)
    (subst (λ (types : List SqlType). IsBlock known c.args.name.now
    (record { parameters = types; plan = Some plan }))
    (sym (c.in_ok-types.ensures ∙ c.as_slice.ensures)) c.requires)
