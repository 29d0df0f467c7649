use Rattle.std.proofs.Common.{◌∙◌, ap, eqb, length, unwrap_or}
use Rattle.std.specs.List.{list_any}
use Rattle.graph_model.specs.declared.graph.Uid.{Uid}
use Rattle.plan_model.specs.declared.schedule.Wave.{Wave}
use Rattle.lifetimes.proofs.WaveFacts.{place_or_length}
use Rattle.lifetimes.proofs.nodes.wave_of.Goals as goal

pub returns : goal.returns
returns c =
    c.unwrap_or.ensures
    ∙ ap (λ o. unwrap_or o (length c.args.waves.now)) c.wave_with.ensures
    ∙ place_or_length (λ (w : Wave). list_any (λ (u : Uid). eqb u.0 c.args.uid.0) w.nodes) c.args.waves.now
