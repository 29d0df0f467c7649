use Rattle.std.proofs.Common.{refl}
use Rattle.std.specs.Prelude.{Ok}
use Rattle.command_words.specs.Demos.{demo_said}
use Rattle.command_words.specs.Requests.{demo}
use Rattle.host_modes.proofs.modes.demo.demo.Goals as goal

pub returns-in-Ok : goal.returns-in-Ok
returns-in-Ok g c =
    c.reported.ensures (Ok (demo (demo_said c.args.request.now))) (g.F.Folder.held c.args.folder.now) (g.F.Folder.read_faults c.args.folder.now)
    (g.F.Folder.write_faults c.args.folder.now) tt c.in-Ok.ensures.work (c.in-Ok.shown.engine, refl, c.in-Ok.ensures.engine)
