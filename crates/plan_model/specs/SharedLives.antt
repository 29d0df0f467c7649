-- Live ranges where values have lines: only a value whose line is 0 may be written over by the node that reads it last.
use Rattle.std.specs.Prelude.{◌≡◌, ◌≢◌, ℕ, zero, suc, ◌≤◌, List, map, Option, Some, None}
use Rattle.std.specs.List.{All, Contains}
use Rattle.graph_model.specs.declared.graph.Uid.{Uid}
use Rattle.graph_model.specs.declared.graph.Connection.{Connection}
use Rattle.graph_model.specs.declared.graph.Graph.{Graph}
use Rattle.plan_model.specs.Lives.{Port, reads_of, life_of}
use Rattle.plan_model.specs.Schedules.{wave_of}
use Rattle.plan_model.specs.SharedLines.{length_in}
use Rattle.plan_model.specs.declared.schedule.Wave.{Wave}
use Rattle.plan_model.specs.declared.buffers.Life.{Life}
use Rattle.plan_model.specs.declared.shared.LineOf.{LineOf}

-- the sole reader is the free reader where the line is 0; else there is none
abbrev pub free_reader : ℕ → Option Uid → Option Uid
free_reader zero reader = reader
free_reader (suc n) reader = None

abbrev pub free_of : ℕ → Life → Life
free_of n x = record x { reader = free_reader n x.reader }

abbrev pub shared_life_of : Graph → List Wave → List LineOf → Port → Life
shared_life_of g waves lines x = free_of (length_in lines x) (life_of g waves x.uid x.channel)

abbrev pub shared_lives_of : Graph → List Wave → List LineOf → List Port → List Life
shared_lives_of g waves lines ports = map (shared_life_of g waves lines) ports

-- The live range in words: its free reader is who reads it in the last wave, where only one node does and its line is
-- 0.
pub record IsSharedLife (g : Graph) (waves : List Wave) (lines : List LineOf) (x : Life) : Type 0 where
  pub born : x.born ≡ wave_of waves x.uid.0
  pub last : (c : Connection) × Contains (reads_of g x.uid x.channel) c × (wave_of waves c.dst.0 ≡ x.dies)
  pub none_later : All (λ c. wave_of waves c.dst.0 ≤ x.dies) (reads_of g x.uid x.channel)
  pub only : (u : Uid) → x.reader ≡ Some u → All (λ c. wave_of waves c.dst.0 ≡ x.dies → c.dst ≡ u) (reads_of g x.uid x.channel)
  pub empty : (u : Uid) → x.reader ≡ Some u → length_in lines (record { uid = x.uid; channel = x.channel }) ≡ 0
  pub several : x.reader ≡ None → length_in lines (record { uid = x.uid; channel = x.channel }) ≡ 0 →
      (c d : Connection) × Contains (reads_of g x.uid x.channel) c × Contains (reads_of g x.uid x.channel) d
      × (wave_of waves c.dst.0 ≡ x.dies) × (wave_of waves d.dst.0 ≡ x.dies) × (c.dst ≢ d.dst)

-- the function gives just that
abbrev pub SharedLifeIsFound : Type 0
SharedLifeIsFound = (g : Graph) (waves : List Wave) (lines : List LineOf) (x : Life) → IsSharedLife g waves lines x →
    x ≡ shared_life_of g waves lines (record { uid = x.uid; channel = x.channel })

-- and of a value that is read the function gives its live range
abbrev pub SharedFoundIsLife : Type 0
SharedFoundIsLife = (g : Graph) (waves : List Wave) (lines : List LineOf) (x : Port) (c : Connection) →
    Contains (reads_of g x.uid x.channel) c → IsSharedLife g waves lines (shared_life_of g waves lines x)
