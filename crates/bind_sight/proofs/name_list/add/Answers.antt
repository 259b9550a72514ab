use Rattle.std.proofs.Common.{◌≡◌, None, [], ◌∷◌, ◌++◌, ap, ◌∙◌, sym, bytes_eq, if◌then◌else◌}
use Rattle.std.specs.Prelude.{is_some}
use Rattle.std.specs.Option.{option_copied}
use Rattle.std.specs.Map.{lookup}
use Rattle.indexmap.specs.IndexMap.{insert_entry}
use Rattle.indexmap.proofs.CallerLemmas.{insert_entry-new}
use Rattle.bind_sight.proofs.name_list.add.Goals as goal

pub returns-in_ok-insert-in-None-clause-ok : goal.returns-in_ok-insert-in-None-clause-ok
returns-in_ok-insert-in-None-clause-ok c =
    let es = c.args.index.now.entries in
    let name = c.args.name.now in
    let none : lookup (bytes_eq name) es ≡ None = sym c.get.ensures.value ∙
    ap option_copied c.in-None.is in
    c.in_ok-insert-in-None.ensures.entries
    ∙ ap (λ k. insert_entry bytes_eq es k c.args.place) c.in_ok-copied-in-None.ensures
    ∙ insert_entry-new bytes_eq c.args.index.now name c.args.place none
    ∙ sym (ap (λ o. if is_some o then es else es ++ (name, c.args.place) ∷ []) none)
