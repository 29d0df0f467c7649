-- The values of lives, and the homes for them.
use Rattle.std.specs.Prelude.{◌==◌, ◌&&◌, Bool}
use Rattle.plan_model.specs.Lives.{Port}
use Rattle.plan_model.specs.declared.buffers.Home.{Home}
use Rattle.plan_model.specs.declared.buffers.Life.{Life}

-- the value that lives
abbrev pub port_of : Life → Port
port_of x = record { uid = x.uid; channel = x.channel }

-- the home is for that value
abbrev pub is_for : Home → Life → Bool
is_for h x = (h.uid.0 == x.uid.0) && (h.channel == x.channel)
