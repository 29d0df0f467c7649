use Rattle.host_modes.proofs.DemoLaws.{frames_are}
use Rattle.host_modes.proofs.modes.demo.frames.Goals as goal

pub returns-clause-value : goal.returns-clause-value
returns-clause-value c = frames_are
