use Rattle.std.proofs.Common.{◌∙◌, sym, ap, subst, inl, inr, Result}
use Rattle.serde_json.specs.View.{view}
use Rattle.graph_model.specs.declared.graph.Graph.{Graph}
use Rattle.graph_records.specs.declared.fault.RecordFault.{RecordFault}
use Rattle.graph_model.specs.Refusals.{and_then, Gives}
use Rattle.graph_records.specs.Walk.{graph_in}
use Rattle.graph_records.proofs.ListFacts.{gives_fault, walk_none, walk_some}
use Rattle.graph_records.proofs.FitFacts.{gives_fitting}
use Rattle.graph_records.proofs.walk.read_graph.Goals as goal

pub returns-in-Err-clause-exact : goal.returns-in-Err-clause-exact
returns-in-Err-clause-exact c = elim c.refusal.ensures [
  | inl memory ↦ rw memory tt
  | inr text ↦ rw text.0 (walk_none c.args.bytes.now (c.in-Err.ensures.err text.1))
]

pub returns-in_err-records-clause-exact : goal.returns-in_err-records-clause-exact
returns-in_err-records-clause-exact c =
    let read = walk_some c.args.bytes.now (view c.in-Ok.value) c.in-Ok.ensures.ok.0 c.in-Ok.ensures.ok.1 in
    gives_fault _ c.in_err-records.field-0.0 c.from_residual.result (read ∙ sym (ap (and_then graph_in) c.in_err-records.ensures)) c.from_residual.ensures.1

pub returns-clause-exact : goal.returns-clause-exact
returns-clause-exact c =
    let read = walk_some c.args.bytes.now (view c.in-Ok.value) c.in-Ok.ensures.ok.0 c.in-Ok.ensures.ok.1 in
    subst (λ (w : Result Graph RecordFault). Gives w c.read_records.result) (sym (read ∙ sym (ap (and_then graph_in) c.in_ok-records.ensures))) c.read_records.ensures

pub returns-clause-fits : goal.returns-clause-fits
returns-clause-fits c = gives_fitting (view c.in_ok-records.field-0.now) c.read_records.result c.read_records.ensures
