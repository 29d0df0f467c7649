-- A wave: the buffers of its values out of the pool, all jobs, and back.
use Rattle.std.specs.Prelude.{◌≡◌, ◌≢◌, ℕ, ◌<◌, ℤ, List, length, map, slice_index_or}
use Rattle.pool_waves.specs.declared.job.Home.{Home}
use Rattle.pool_waves.specs.declared.job.Desk.{Desk}
use Rattle.pool_waves.specs.declared.job.Job.{Job}
use Rattle.pool_waves.specs.Exchanges.{AreApart, AreWithin, HaveLists, buffer_at, desks, homes_at, homes_of, list_at, outs_of}

-- no value of these has the buffer
abbrev pub IsFree : List Desk → ℕ → Type 0
IsFree ds b = (i o : ℕ) (d : Desk) (e : Home) → i < length ds → o < length (homes_at ds i d) → buffer_at (homes_at ds i d) o e ≢ b

-- what is left of the pool while the jobs run: nothing is said of the places of their values
pub record IsLent (ds : List Desk) (pool left : List (List ℤ)) : Type 0 where
  pub len : length left ≡ length pool
  pub free : (b : ℕ) → IsFree ds b → list_at left b ≡ list_at pool b

-- the buffers of these homes
abbrev pub taken : List (List ℤ) → List Home → List (List ℤ)
taken pool homes = map (λ h. list_at pool h.buffer) homes

-- what a job's part has done; all else of the job is as it was
pub record PartDone {P : Type 0} (done : List (List ℤ) → P → List (List ℤ) → P → Type 0) (a b : Job P) : Type 0 where
  pub node : b.node ≡ a.node
  pub index : b.index ≡ a.index
  pub homes : b.desk.homes.items ≡ a.desk.homes.items
  pub len : length b.desk.outs.items ≡ length a.desk.outs.items
  pub part : done a.desk.outs.items a.part b.desk.outs.items b.part

-- A wave may run: a desk has a list for each value, the buffers are there, no two values have one, and each part is
-- ready, over whatever is left of the pool, for the buffers of its values.
pub record IsWave {P : Type 0} (ready : List (List ℤ) → List Home → List (List ℤ) → P → Type 0)
    (pool : List (List ℤ)) (jobs : List (Job P)) : Type 0 where
  pub outs : HaveLists jobs
  pub within : AreWithin (length pool) jobs
  pub apart : AreApart (desks jobs)
  pub each : (left : List (List ℤ)) → IsLent (desks jobs) pool left → (i : ℕ) (d : Job P) → i < length jobs
      → ready left (homes_of jobs i d) (taken pool (homes_of jobs i d)) (slice_index_or jobs i d).part

-- A wave has run: each part has done its work on the buffers of its values, over what was left of the pool; all else is
-- as it was, and on each desk lie the lists that lay there.
pub record WaveRan {P : Type 0} (done : List (List ℤ) → List Home → List (List ℤ) → P → List (List ℤ) → P → Type 0)
    (pool : List (List ℤ)) (jobs : List (Job P)) (pool' : List (List ℤ)) (jobs' : List (Job P)) : Type 0 where
  pub left : List (List ℤ)
  pub lent : IsLent (desks jobs) pool left
  pub jobs_len : length jobs' ≡ length jobs
  pub pool_len : length pool' ≡ length pool
  pub nodes : (i : ℕ) (d : Job P) → i < length jobs → (slice_index_or jobs' i d).node ≡ (slice_index_or jobs i d).node
  pub indices : (i : ℕ) (d : Job P) → i < length jobs → (slice_index_or jobs' i d).index ≡ (slice_index_or jobs i d).index
  pub homes : (i : ℕ) (d : Job P) → i < length jobs → homes_of jobs' i d ≡ homes_of jobs i d
  pub outs : (i : ℕ) (d : Job P) → i < length jobs → outs_of jobs' i d ≡ outs_of jobs i d
  pub ran : (i : ℕ) (d : Job P) → i < length jobs
      → done left (homes_of jobs i d) (taken pool (homes_of jobs i d)) (slice_index_or jobs i d).part
      (taken pool' (homes_of jobs i d)) (slice_index_or jobs' i d).part
  pub others : (b : ℕ) → IsFree (desks jobs) b → list_at pool' b ≡ list_at pool b
