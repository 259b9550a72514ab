use Rattle.std.proofs.Common.{◌∙◌, ap, sym}
use Rattle.std.specs.Option.{option_copied, option_map}
use Rattle.std.proofs.lemmas.Option.{slice_get-map}
use Rattle.bind_simple.specs.Anchors.{given_or, anchor_of}
use Rattle.bind_simple.proofs.anchors.anchor_in_exprs.Goals as goal

pub returns-in-Some : goal.returns-in-Some
returns-in-Some c =
    c.anchor_of.ensures
    ∙ ap (given_or c.args.other) (sym (slice_get-map anchor_of c.args.exprs.now c.args.place ∙
    ap (option_map anchor_of) (sym c.at.ensures ∙ ap option_copied c.in-Some.is)))

pub returns-in-None : goal.returns-in-None
returns-in-None c =
    ap (given_or c.args.other) (sym (slice_get-map anchor_of c.args.exprs.now c.args.place ∙
    ap (option_map anchor_of) (sym c.at.ensures ∙ ap option_copied c.in-None.is)))
