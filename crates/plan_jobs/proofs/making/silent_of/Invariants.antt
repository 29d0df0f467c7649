use Rattle.std.proofs.Common.{◌≡◌, ℕ, ◌<◌, false}
use Rattle.std.specs.List.{All, Contains}
use Rattle.players.specs.Reads.{channels_of, is_fed}
use Rattle.plan_jobs.proofs.making.silent_of.Given as goal

abbrev pub invariant-loop-channel : goal.invariant-loop-channel
invariant-loop-channel l = All (λ d. d < l.channel) l.list.items × ((d : ℕ) → d < l.channel → is_fed (channels_of l.wires) d ≡ false → Contains l.list.items d)
