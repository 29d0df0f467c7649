use Rattle.std.specs.Prelude.{Ok}
use Rattle.command_words.specs.Rendering.{render_said}
use Rattle.command_words.specs.Requests.{render}
use Rattle.host_modes.specs.Outside.{outside}
use Rattle.host_modes.proofs.RunLaws.{render_rest}
use Rattle.host_modes.proofs.modes.render.render.Goals as goal

pub returns-in-Ok : goal.returns-in-Ok
returns-in-Ok g c =
    render_rest (Ok (render (render_said c.args.request.now))) (g.F.Folder.held c.args.folder.now) (g.F.Folder.held c.prepare.new.folder)
    (g.F.Folder.read_faults c.args.folder.now) (g.F.Folder.read_faults c.prepare.new.folder) (g.F.Folder.write_faults c.args.folder.now)
    (g.F.Folder.write_faults c.prepare.new.folder) (g.R.Sink.bytes c.args.report.now) (g.R.Sink.faults c.args.report.now)
    (outside (g.F.Folder.held c.perform.new.folder) (g.F.Folder.read_faults c.perform.new.folder) (g.F.Folder.write_faults c.perform.new.folder)
    (g.R.Sink.bytes c.perform.new.report) (g.R.Sink.faults c.perform.new.report)) c.perform.result.end c.perform.result.plan c.perform.result.engine
    c.prepare.ensures.held c.prepare.ensures.writes c.prepare.ensures.reads c.perform.ensures
