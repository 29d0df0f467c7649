use Rattle.std.proofs.Common.{map, string_bytes, rules, subst}
use Rattle.gh_outside.specs.Causes.{Rose}
use Rattle.command_words.specs.Requests.{request_of}
use Rattle.host_modes.specs.Asked.{IfRender}
use Rattle.host_modes.specs.Readings.{IsBegun}
use Rattle.host_modes.specs.Causes.{IsCaused}
use Rattle.host_modes.proofs.EndOnceLaws.{exactly}
use Rattle.graph_host.proofs.top_call.run.Goals as goal

pub returns-clause-exact : goal.returns-clause-exact
returns-clause-exact g c =
    let asked = request_of (map string_bytes c.args.words.items) in
    let held = g.F.Folder.held c.args.folder.now in
    let reads = Rose (g.F.Folder.read_faults c.args.folder.now) (g.F.Folder.read_faults c.perform-outcome.new.folder) in
    let writes = Rose (g.F.Folder.write_faults c.args.folder.now) (g.F.Folder.write_faults c.perform-outcome.new.folder) in
    let reports = Rose (g.R.Sink.faults c.args.report.now) (g.R.Sink.faults c.perform-outcome.new.report) in
    let cause : IsCaused asked held reads writes reports c.ended.result.end = search rules in
    λ end told no_read no_write no_report. exactly asked held reads writes reports c.ended.result.end end cause told no_read no_write no_report

pub returns-clause-begun : goal.returns-clause-begun
returns-clause-begun g c =
    subst (λ words. IfRender (request_of (map string_bytes words)) (λ q. IsBegun q (g.F.Folder.held c.args.folder.now) (g.F.Folder.held c.perform-outcome.new.folder)))
    c.as_slice.ensures.value c.perform-outcome.ensures.begun
