-- Counts kept for nodes in waves.
use Rattle.std.specs.Prelude.{ℕ, Bool, ◌==◌, ◌&&◌}
use Rattle.std.specs.Map.{count_at}
use Rattle.std.specs.HashMap.{HashMap, get}
use Rattle.lifetimes.specs.declared.taken.Turn.{Turn}

abbrev pub same_turn : Turn → Turn → Bool
same_turn x y = (x.wave == y.wave) && (x.uid == y.uid)

-- what is kept of node a in wave s
abbrev pub count_in : {S : Type 0} → HashMap Turn ℕ S → ℕ → ℕ → ℕ
count_in m s a = count_at (get same_turn m) (record { wave = s; uid = a })
