use Rattle.std.proofs.Common.{◌≡◌, ℕ, ◌*◌, ◌<◌, ◌≤◌, [], get_or}
use Rattle.delay_lines.specs.Lines.{kept}
use Rattle.players.specs.Reads.{part}
use Rattle.players.proofs.leaving.leave_rows.Given as goal

abbrev pub invariant-loop-d : goal.invariant-loop-d
invariant-loop-d l = record {
  done : (k : ℕ) → k < l.d → get_or l.lines k [] ≡ kept (get_or l.initial.lines k []) (part (k * l.count) l.count l.rows);
  left : (k : ℕ) → l.d ≤ k → get_or l.lines k [] ≡ get_or l.initial.lines k [];
}
