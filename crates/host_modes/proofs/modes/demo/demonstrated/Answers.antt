use Rattle.host_modes.proofs.DemoLaws.{few_late}
use Rattle.host_modes.proofs.modes.demo.demonstrated.Goals as goal

pub text-requires : goal.text-requires
text-requires g c = few_late c.args.graph.now c.args.plan c.requires.sound c.requires.best.plan_is.certified
