use Rattle.std.proofs.Common.{◌∙◌, get_or, List, refl, sym, ap, subst}
use Rattle.graph_model.specs.declared.graph.Connection.{Connection}
use Rattle.connections.specs.Places.{place_in, HasPlace}
use Rattle.connections.proofs.JointFacts.{connection_passes, no_connection}
use Rattle.connections.proofs.PlaceFacts.{is_new, one_place}
use Rattle.connections.proofs.joints.check_connection.Goals as goal

pub returns-in-None-clause-connections : goal.returns-in-None-clause-connections
returns-in-None-clause-connections c =
    let g = c.args.graph.now in
    let at = c.args.at in
    let none = ap (λ (cs : List Connection). place_in c.args.places.now (get_or cs at no_connection)) (sym c.as_slice.ensures) ∙ sym c.in_ok-earlier.ensures.before ∙ c.in-None.is in
    connection_passes g at no_connection g.connections refl c.requires.within c.requires.before c.in_ok-check_alone.ensures
    (is_new g.connections at c.args.places.now c.requires.places (get_or g.connections at no_connection) none)

pub returns-in-None-clause-places : goal.returns-in-None-clause-places
returns-in-None-clause-places c =
    let g = c.args.graph.now in
    let at = c.args.at in
    one_place g.connections at c.args.places.now c.requires.places no_connection c.requires.within c.note.new.places
    (subst (λ (cs : List Connection). HasPlace c.args.places.now c.note.new.places (get_or cs at no_connection) at) c.as_slice.ensures c.in_ok-earlier.ensures.noted)
