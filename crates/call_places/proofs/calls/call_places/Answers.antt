use Rattle.std.proofs.Common.{◌∙◌, ap}
use Rattle.catalog_store.specs.Uses.{uses_in_query}
use Rattle.call_places.specs.declared.places.CallPlaces.{CallPlaces}
use Rattle.call_places.proofs.Counting.{inlined_of, interpreted_of}
use Rattle.call_places.proofs.calls.call_places.Goals as goal

pub returns-clause-inlined : goal.returns-clause-inlined
returns-clause-inlined c =
    ap (λ (p : CallPlaces). p.inlined) c.with_query.ensures ∙
    inlined_of c.args.functions.now (uses_in_query c.args.query.now)

pub returns-clause-interpreted : goal.returns-clause-interpreted
returns-clause-interpreted c =
    ap (λ (p : CallPlaces). p.interpreted) c.with_query.ensures ∙
    interpreted_of c.args.functions.now (uses_in_query c.args.query.now)
