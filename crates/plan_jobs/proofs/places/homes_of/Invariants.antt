use Rattle.std.proofs.Common.{◌≡◌, map, take}
use Rattle.engine_model.specs.Machines.{homes_at}
use Rattle.plan_jobs.specs.Jobs.{core_home}
use Rattle.plan_jobs.proofs.places.homes_of.Given as goal

abbrev pub invariant-loop-home : goal.invariant-loop-home
invariant-loop-home l = map core_home l.list.items ≡ homes_at (take l.home-index l.homes) l.uid.0
