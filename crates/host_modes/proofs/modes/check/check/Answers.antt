use Rattle.std.proofs.Common.{refl}
use Rattle.std.specs.Prelude.{Ok}
use Rattle.command_words.specs.Checking.{check_said}
use Rattle.command_words.specs.Requests.{check}
use Rattle.host_modes.proofs.RunLaws.{quiet_rest}
use Rattle.host_modes.proofs.modes.check.check.Goals as goal

pub returns-in-Ok : goal.returns-in-Ok
returns-in-Ok g c =
    let held = g.F.Folder.held c.args.folder.now in
    let later = g.F.Folder.read_faults c.prepare.new.folder in
    let writes = g.F.Folder.write_faults c.args.folder.now in
    quiet_rest (Ok (check (check_said c.args.request.now))) held (g.F.Folder.held c.prepare.new.folder) (g.F.Folder.read_faults c.args.folder.now) later
    writes (g.F.Folder.write_faults c.prepare.new.folder) (g.R.Sink.bytes c.args.report.now) (g.R.Sink.bytes c.reported.new.report)
    (g.R.Sink.faults c.args.report.now) (g.R.Sink.faults c.reported.new.report) c.reported.result.end c.reported.result.plan c.reported.result.engine
    c.prepare.ensures.held c.prepare.ensures.writes c.prepare.ensures.reads
    (c.reported.ensures (Ok (check (check_said c.args.request.now))) held later writes tt c.in-Ok.ensures.work refl)
