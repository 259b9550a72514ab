use Rattle.std.proofs.Common.{rules}
use Rattle.bind_definitions.proofs.Elements.{judged-elements}
use Rattle.bind_definitions.proofs.table.judge_elements.Goals as goal

pub returns : goal.returns
returns c =
    judged-elements c.args.create.now c.args.idents.now c.args.names.now c.in_ok-places.places
    c.args.least.now c.note_repeated.new.least c.note_types.new.least c.note_keys.new.least
    c.note_key_lists.new.least
    c.requires.idents c.requires.names (search rules) (search rules) (search rules) (search rules)
    (search rules)
