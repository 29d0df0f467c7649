-- The lists on the desks of a wave's jobs and those of the buffers of their values change places. A look-up by place
-- names what it gives past the end, and says nothing of it: d of desks and jobs, e of homes.
use Rattle.std.specs.Prelude.{◌≡◌, ◌≢◌, ℕ, ◌<◌, ℤ, List, [], length, map, slice_index_or}
use Rattle.pool_waves.specs.declared.job.Home.{Home}
use Rattle.pool_waves.specs.declared.job.Desk.{Desk}
use Rattle.pool_waves.specs.declared.job.Job.{Job}

abbrev pub desks : {P : Type 0} → List (Job P) → List Desk
desks jobs = map (λ j. j.desk) jobs

-- the buffer of a job's value o, and of the value o of job i
abbrev pub buffer_at : List Home → ℕ → Home → ℕ
buffer_at homes o e = (slice_index_or homes o e).buffer

abbrev pub homes_at : List Desk → ℕ → Desk → List Home
homes_at ds i d = (slice_index_or ds i d).homes.items

-- the samples in the list of a job's value o, and of the value o of job i
abbrev pub list_at : List (List ℤ) → ℕ → List ℤ
list_at lists o = slice_index_or lists o []

abbrev pub outs_at : List Desk → ℕ → Desk → List (List ℤ)
outs_at ds i d = (slice_index_or ds i d).outs.items

-- the homes of job i, and the lists on its desk
abbrev pub homes_of : {P : Type 0} → List (Job P) → ℕ → Job P → List Home
homes_of jobs i d = (slice_index_or jobs i d).desk.homes.items

abbrev pub outs_of : {P : Type 0} → List (Job P) → ℕ → Job P → List (List ℤ)
outs_of jobs i d = (slice_index_or jobs i d).desk.outs.items

-- the desk of each job has a list for each value
abbrev pub HaveLists : {P : Type 0} → List (Job P) → Type 0
HaveLists jobs = (i : ℕ) (d : Job _) → i < length jobs → length (outs_of jobs i d) ≡ length (homes_of jobs i d)

-- all their buffers are below n
abbrev pub AreWithin : {P : Type 0} → ℕ → List (Job P) → Type 0
AreWithin n jobs =
    (i o : ℕ) (d : Job _) (e : Home) → i < length jobs → o < length (homes_of jobs i d) → buffer_at (homes_of jobs i d) o e < n

-- the lists of one job's values and those of their buffers have changed places
pub record Swapped (homes : List Home) (outs pool outs' pool' : List (List ℤ)) : Type 0 where
  pub outs_len : length outs' ≡ length outs
  pub pool_len : length pool' ≡ length pool
  pub given : (o : ℕ) (e : Home) → o < length homes → list_at outs' o ≡ list_at pool (buffer_at homes o e)
  pub lent : (o : ℕ) (e : Home) → o < length homes → list_at pool' (buffer_at homes o e) ≡ list_at outs o
  pub others : (b : ℕ) → ((o : ℕ) (e : Home) → o < length homes → buffer_at homes o e ≢ b) → list_at pool' b ≡ list_at pool b

-- no two values of a job have one buffer
pub record IsDistinct (homes : List Home) : Type 0 where
  pub apart : (o q : ℕ) (e : Home) → o < length homes → q < length homes → buffer_at homes o e ≡ buffer_at homes q e → o ≡ q

-- no two values of a wave have one buffer
pub record AreApart (ds : List Desk) : Type 0 where
  pub apart : (i j o q : ℕ) (d : Desk) (e : Home) → i < length ds → j < length ds
      → o < length (homes_at ds i d) → q < length (homes_at ds j d)
      → buffer_at (homes_at ds i d) o e ≡ buffer_at (homes_at ds j d) q e
      → (i ≡ j) × (o ≡ q)

abbrev pub SameHomes : Desk → Desk → Type 0
SameHomes a b = b.homes.items ≡ a.homes.items

-- the lists of all jobs' values and those of their buffers have changed places
pub record Exchanged (ds : List Desk) (pool : List (List ℤ)) (ds' : List Desk) (pool' : List (List ℤ)) : Type 0 where
  pub jobs_len : length ds' ≡ length ds
  pub pool_len : length pool' ≡ length pool
  pub kept : (i : ℕ) (d : Desk) → i < length ds → SameHomes (slice_index_or ds i d) (slice_index_or ds' i d)
  pub outs_len : (i : ℕ) (d : Desk) → i < length ds → length (outs_at ds' i d) ≡ length (outs_at ds i d)
  pub given : (i o : ℕ) (d : Desk) (e : Home) → i < length ds → o < length (homes_at ds i d)
      → list_at (outs_at ds' i d) o ≡ list_at pool (buffer_at (homes_at ds i d) o e)
  pub lent : (i o : ℕ) (d : Desk) (e : Home) → i < length ds → o < length (homes_at ds i d)
      → list_at pool' (buffer_at (homes_at ds i d) o e) ≡ list_at (outs_at ds i d) o
  pub others : (b : ℕ)
      → ((i o : ℕ) (d : Desk) (e : Home) → i < length ds → o < length (homes_at ds i d) → buffer_at (homes_at ds i d) o e ≢ b)
      → list_at pool' b ≡ list_at pool b

-- all of each job is as it was, but for its desk
pub record SameBut {P : Type 0} (jobs jobs' : List (Job P)) : Type 0 where
  pub len : length jobs' ≡ length jobs
  pub nodes : (i : ℕ) (d : Job P) → i < length jobs → (slice_index_or jobs' i d).node ≡ (slice_index_or jobs i d).node
  pub indices : (i : ℕ) (d : Job P) → i < length jobs → (slice_index_or jobs' i d).index ≡ (slice_index_or jobs i d).index
  pub parts : (i : ℕ) (d : Job P) → i < length jobs → (slice_index_or jobs' i d).part ≡ (slice_index_or jobs i d).part
