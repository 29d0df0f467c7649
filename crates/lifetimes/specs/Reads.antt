-- Reads of values, and the lives that follow from them.
use Rattle.std.specs.Prelude.{◌≡◌, ◌≢◌, ◌≤◌, Some, None, List, map, AllPairs}
use Rattle.std.specs.List.{All, Contains}
use Rattle.graph_model.specs.Paths.{live_connections}
use Rattle.graph_model.specs.declared.graph.Uid.{Uid}
use Rattle.graph_model.specs.declared.graph.Connection.{Connection}
use Rattle.graph_model.specs.declared.graph.Graph.{Graph}
use Rattle.plan_model.specs.Buffers.{IsLifeBefore}
use Rattle.plan_model.specs.Pairs.{ComesBefore}
use Rattle.plan_model.specs.Schedules.{wave_of}
use Rattle.plan_model.specs.declared.schedule.Wave.{Wave}
use Rattle.plan_model.specs.declared.buffers.Life.{Life}
use Rattle.lifetimes.specs.declared.reads.Read.{Read}

-- what a live connection reads: an output channel, born in the wave of its node, read by a node in its wave
abbrev pub read_by : List Wave → Connection → Read
read_by waves c = record {
  uid = c.src;
  channel = c.src_channel;
  born = wave_of waves c.src.0;
  reader = c.dst;
  wave = wave_of waves c.dst.0;
}

abbrev pub reads_in : Graph → List Wave → List Read
reads_in g waves = map (read_by waves) (live_connections g)

-- by (uid, channel)
abbrev pub ReadBefore : Read → Read → Type 0
ReadBefore r q = ComesBefore (r.uid.0, r.channel) (q.uid.0, q.channel)

-- the read is of the value that has this life
abbrev pub IsOf : Read → Life → Type 0
IsOf r x = (r.uid.0 ≡ x.uid.0) × (r.channel ≡ x.channel)

-- the life of a value, by the reads: it is born as one of them says, dies in the last wave that reads it, and has a
-- sole reader where only one node reads it there
pub record IsLifeBy (reads : List Read) (x : Life) : Type 0 where
  pub born : (r : Read) × Contains reads r × IsOf r x × (r.born ≡ x.born)
  pub last : (r : Read) × Contains reads r × IsOf r x × (r.wave ≡ x.dies)
  pub none_later : All (λ r. IsOf r x → r.wave ≤ x.dies) reads
  pub only : (u : Uid) → x.reader ≡ Some u → All (λ r. IsOf r x → r.wave ≡ x.dies → r.reader ≡ u) reads
  pub several : x.reader ≡ None → (r q : Read) × Contains reads r × Contains reads q × IsOf r x × IsOf q x
      × (r.wave ≡ x.dies) × (q.wave ≡ x.dies) × (r.reader ≢ q.reader)

-- one life for each value that is read, ascending by (uid, channel)
pub record AreLivesBy (reads : List Read) (lives : List Life) : Type 0 where
  pub ascending : AllPairs IsLifeBefore lives
  pub each : All (IsLifeBy reads) lives
  pub all : All (λ r. (x : Life) × Contains lives x × IsOf r x) reads
