-- The positions that potentials give, and the delays between them.
use Rattle.std.specs.Prelude.{ℕ, ◌<◌, ◌^◌, ℤ, pos, ◌+ℤ◌, ◌-ℤ◌, ◌≤ℤ◌, List, [], ◌∷◌, length}
use Rattle.std.specs.List.{All}
use Rattle.shortest_paths.specs.Walks.{number_of, from_zero}
use Rattle.plan_model.specs.declared.alignment.At.{At}
use Rattle.plan_model.specs.declared.alignment.LineAt.{LineAt}
use Rattle.alignment.specs.declared.links.Link.{Link}

-- potentials that are positions: from 0 on, and none beyond 2 ^ 26
abbrev pub ArePositions : List ℤ → Type 0
ArePositions potentials = All (λ x. (pos 0 ≤ℤ x) × (x ≤ℤ pos (2 ^ 26))) potentials

-- the nodes of these names stand at these potentials
abbrev pub places_of : List ℕ → List ℤ → List At
places_of [] xs = []
places_of (v ∷ vs) [] = []
places_of (v ∷ vs) (x ∷ xs) = record { uid = record { 0 = v }; at = from_zero x } ∷ places_of vs xs

-- the head of the link stands no earlier than its tail and the latency
pub record IsTimely (potentials : List ℤ) (l : Link) : Type 0 where
  pub tail : l.tail < length potentials
  pub head : l.head < length potentials
  pub after : (number_of potentials l.tail +ℤ pos l.latency) ≤ℤ number_of potentials l.head

-- what a link holds back: what is left between
abbrev pub delay_of : List ℤ → Link → ℕ
delay_of potentials l = from_zero (number_of potentials l.head -ℤ (number_of potentials l.tail +ℤ pos l.latency))

-- the delay line of the link of a connection
abbrev pub line_of : List ℤ → Link → LineAt
line_of potentials l = record { connection = l.index; delay = delay_of potentials l }
