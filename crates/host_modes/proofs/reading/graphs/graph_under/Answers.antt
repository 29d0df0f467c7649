use Rattle.std.specs.Prelude.{Result, Ok, Err, IfErr}
use Rattle.host_modes.proofs.EndLaws.{refused}
use Rattle.host_modes.proofs.reading.graphs.graph_under.Goals as goal

on_err : {T E : Type 0} {P Q : E → Type 0} (r : Result T E) → ((e : E) → P e → Q e) → IfErr r P → IfErr r Q
on_err (Ok x) f h = tt
on_err (Err e) f h = f e h

pub returns-clause-stops : goal.returns-clause-stops
returns-clause-stops g c =
    on_err c.checked.result (λ end r. refused c.args.name.now c.in_ok-graph.graph (g.F.Folder.held c.args.folder.now) _ end c.in_ok-graph.ensures.ok r) c.checked.ensures.stops
