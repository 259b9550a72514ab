use Rattle.std.proofs.Common.{◌∙◌, ap, sym}
use Rattle.std.specs.Option.{option_copied, option_map}
use Rattle.std.proofs.lemmas.Option.{slice_get-map}
use Rattle.bind_simple.specs.Anchors.{given_or, anchor_of_item}
use Rattle.bind_simple.proofs.anchors.anchor_in_items.Goals as goal

pub returns-in-Some : goal.returns-in-Some
returns-in-Some c =
    c.anchor_of_item.ensures
    ∙ ap (given_or c.args.other) (sym (slice_get-map anchor_of_item c.args.items.now c.args.place ∙
    ap (option_map anchor_of_item) (sym c.at.ensures ∙ ap option_copied c.in-Some.is)))

pub returns-in-None : goal.returns-in-None
returns-in-None c =
    ap (given_or c.args.other) (sym (slice_get-map anchor_of_item c.args.items.now c.args.place ∙
    ap (option_map anchor_of_item) (sym c.at.ensures ∙ ap option_copied c.in-None.is)))
