-- A stream on its way.
use Rattle.std.proofs.Common.{◌≡◌, ◌≢◌, ℕ, ◌+◌, ◌-◌, ◌*◌, ◌≤◌, ◌<◌, List, [], ◌++◌, length, take, drop, Option, Some, None, inl, inr, refl, sym, ◌∙◌, ap, subst, arith}
use Rattle.std.proofs.lemmas.List.{append-nil}
use Rattle.std.proofs.Math.Seq.{drop-nil}
use Rattle.std.specs.Prelude.{◌⊎◌}
use Rattle.gh_outside.specs.Causes.{Rose}
use Rattle.gh_outside.specs.Holdings.{Holding, HeldBytes, Holds, IsMissing, IsPast, KeepsOthers}
use Rattle.graph_model.specs.Sound.{IsSound}
use Rattle.graph_model.specs.Graphs.{in_channels, out_channels}
use Rattle.wav_pcm.specs.Files.{data_size}
use Rattle.wav_pcm.specs.Samples.{bytes_of}
use Rattle.engine_model.specs.Engines.{IsSame, Parts, Stands}
use Rattle.engine_model.proofs.CuttingLaws.{no_cutting_shows}
use Rattle.streaming.specs.Appends.{IsAppended}
use Rattle.streaming.specs.Blocks.{all_frames, all_samples, put_of, AreFrames, AreLengths, BreaksOff, HasPut, HasPutPart, HasRoom, HasStreamed, MayStream}
use Rattle.streaming.specs.declared.ends.Incoming.{Incoming}
use Rattle.streaming.specs.declared.ends.Outgoing.{Outgoing}
use Rattle.streaming.specs.declared.room.Room.{Room}
use Rattle.streaming.proofs.AnswerLaws.{has_put, has_put_part}
use Rattle.streaming.proofs.PartLaws.{keeps, rose_since}
use Rattle.streaming.proofs.StreamLaws.{broken_on, streamed_on}

-- k frames have come so far, and the block of that turn comes next
pub record Going (i : Incoming) (o : Outgoing) (e : Parts) (old : Option Holding) (lengths : List ℕ) (k turn : ℕ) (e' : Parts) (held : Option Holding) (room : Room) : Type 0 where
  pub at : k ≤ all_frames i
  pub turn_is : turn < length lengths
  pub streamed : HasStreamed i o 0 k old e held e'
  pub others : KeepsOthers o.name.now old held
  pub same : IsSame e e'
  pub count : e'.frames ≡ k
  pub room_is : HasRoom i o e.block room

-- ---- the first
keeps_itself : (name : List ℕ) (held : Option Holding) → KeepsOthers name held held
keeps_itself name None = tt
keeps_itself name (Some files) = λ other differs. refl

no_frames : (i : Incoming) (held : Option Holding) → AreFrames i 0 0 [] held
no_frames i None = tt
no_frames i (Some files) = of (files i.name.now)
  where
    of : (o : Option (List ℕ)) → HeldBytes i.name.now (Some (λ _. o)) (λ file. [] ≡ take (0 * i.head.channels) (drop (0 * i.head.channels) (all_samples i file)))
    of None = tt
    of (Some file) = let none : 0 ≡ 0 * i.head.channels = omega arith in ap (λ j. take j (drop (0 * i.head.channels) (all_samples i file))) none

nothing_put : (o : Outgoing) (held : Option Holding) → IsAppended o.name.now (put_of o 0 []) held held
nothing_put o held start h =
    subst (λ bytes. Holds o.name.now bytes held) (sym (ap (λ xs. start ++ bytes_of o.bits xs) (drop-nil ((o.skipped - 0) * o.channels)) ∙ append-nil start)) h

pub going_none : (i : Incoming) (o : Outgoing) (e : Parts) (old : Option Holding) (lengths : List ℕ) (room : Room) → MayStream i o e old → Stands e [] → AreLengths e.block lengths → HasRoom i o e.block room
    → Going i o e old lengths 0 0 e old room
going_none i o e old lengths room may new are fits = record {
  at = omega arith;
  turn_is = are.0;
  streamed = (
    [],
    [],
    record { frames = no_frames i old; long = omega arith; gone = omega arith; rendered = no_cutting_shows e e [] may.sound refl },
    nothing_put o old,
  );
  others = keeps_itself o.name.now old;
  same = record { graph = refl; plan = refl; block = refl };
  count = new.frames;
  room_is = fits;
}

-- ---- the next
pub not_past : (name other : List ℕ) (end : ℕ) (a b : Option Holding) → name ≢ other → KeepsOthers other a b → (IsPast name end a → ⊥) → IsPast name end b → ⊥
not_past name other end None None differs same there past = past
not_past name other end None (Some b) differs same there past = absurd same
not_past name other end (Some a) None differs same there past = past
not_past name other end (Some a) (Some b) differs same there past = there (λ bytes at. past bytes (same name differs ∙ at))

module _ (i : Incoming) (o : Outgoing) (e : Parts) (old : Option Holding) (lengths : List ℕ) (k turn : ℕ) (e' : Parts) (held : Option Holding) (room : Room)
    (may : MayStream i o e old) (going : Going i o e old lengths k turn e' held room) where
  pub may_go_on : MayStream i o e' held
  may_go_on = record {
    differs = may.differs;
    head = may.head;
    there = not_past i.name.now o.name.now (i.head.from + data_size i.head) old held may.differs going.others may.there;
    size = may.size;
    sound = subst (λ g. IsSound g) (sym going.same.graph) may.sound;
    come = ap in_channels going.same.graph ∙ may.come;
    go = ap out_channels going.same.graph ∙ may.go;
    most = may.most;
    few = may.few;
  }

  pub going_on : (n next : ℕ) (e'' : Parts) (new : Option Holding) (later : Room) → k + n ≤ all_frames i → next < length lengths → HasStreamed i o k n held e' new e'' → KeepsOthers o.name.now held new
      → e''.frames ≡ e'.frames + n → HasRoom i o e'.block later → Going i o e old lengths (k + n) next e'' new later
  going_on n next e'' new later within turns streamed others counted fits = record {
    at = within;
    turn_is = turns;
    streamed = streamed_on i o k n e e' e'' old held new may.sound may.go may.differs going.others going.streamed streamed;
    others = keeps o.name.now old held new going.others others;
    same = let now = streamed.2.rendered.same in record { graph = now.graph ∙ going.same.graph; plan = now.plan ∙ going.same.plan; block = now.block ∙ going.same.block };
    count = counted ∙ ap (λ x. x + n) going.count;
    room_is = subst (λ b. HasRoom i o b later) going.same.block fits;
  }

  pub all_put : Stands e [] → all_frames i ≤ k → HasPut i o (all_frames i) old e held e'
  all_put new over =
      let same : k ≡ all_frames i = let at = going.at in omega arith in
      subst (λ n. HasPut i o n old e held e') same (has_put e e' may.sound new i o k old held may.come going.streamed)

  pub part_put : Stands e [] → k < all_frames i → (n : ℕ) × (n < all_frames i) × HasPut i o n old e held e'
  part_put new more = (k, more, has_put e e' may.sound new i o k old held may.come going.streamed)

  pub broken_put : (n : ℕ) (e'' : Parts) (new_held : Option Holding) → Stands e [] → k + n ≤ all_frames i → BreaksOff i o k n held e' new_held e''
      → (m : ℕ) × (m ≤ all_frames i) × HasPutPart i o m old e new_held e''
  broken_put n e'' new_held new within broken = (
    k + n,
    within,
    has_put_part e e'' may.sound new i o (k + n) old new_held may.come (broken_on i o k n e e' e'' old held new_held may.sound may.go may.differs going.others going.streamed broken),
  )

  pub unread_put : (e'' : Parts) (new_held : Option Holding) → Stands e [] → k < all_frames i → e'' ≡ e' → new_held ≡ held → (n : ℕ) × (n < all_frames i) × HasPut i o n old e new_held e''
  unread_put e'' new_held new more engine files =
      subst (λ x. (n : ℕ) × (n < all_frames i) × HasPut i o n old e new_held x) (sym engine)
      (subst (λ h. (n : ℕ) × (n < all_frames i) × HasPut i o n old e h e') (sym files) (part_put new more))

  -- after a block that was not read, and after one that broke off
  pub same_after : (e'' : Parts) → e'' ≡ e' → IsSame e e''
  same_after e'' is = subst (λ (x : Parts). IsSame e x) (sym is) going.same

  pub same_broken : (n : ℕ) (e'' : Parts) (new : Option Holding) → BreaksOff i o k n held e' new e'' → IsSame e e''
  same_broken n e'' new broken =
      let now = broken.2.rendered.same in record { graph = now.graph ∙ going.same.graph; plan = now.plan ∙ going.same.plan; block = now.block ∙ going.same.block }

-- ---- what a folder misses of a file that is appended to, it missed from the start
some_none : {x : List ℕ} → None ≡ Some x → ⊥
some_none e = cc

missing_before : (name piece : List ℕ) (a b : Option Holding) → KeepsOthers name a b → IsAppended name piece a b → IsMissing name b → IsMissing name a
missing_before name piece None None same there missing = missing
missing_before name piece None (Some b) same there missing = absurd same
missing_before name piece (Some a) None same there missing = absurd same
missing_before name piece (Some a) (Some b) same there missing = of (a name) refl
  where
    of : (o : Option (List ℕ)) → a name ≡ o → a name ≡ None
    of None is = is
    of (Some start) is = absurd (some_none (sym missing ∙ there start is))

pub write_missed : (name piece : List ℕ) (a b : Option Holding) (before now later : ℕ) → KeepsOthers name a b → IsAppended name piece a b → before ≤ now → IsMissing name b ⊎ Rose now later
    → IsMissing name a ⊎ Rose before later
write_missed name piece a b before now later same there more (inl missing) = inl (missing_before name piece a b same there missing)
write_missed name piece a b before now later same there more (inr rose) = inr (rose_since before now later more rose)
