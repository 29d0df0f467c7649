-- The steps of writing a file: its head, its frames, its pad.
use Rattle.std.proofs.Common.{◌≡◌, ◌≢◌, ℕ, ◌+◌, ◌*◌, ◌%◌, ◌≤◌, List, [], ◌++◌, replicate, take, Option, Some, None, refl, sym, ◌∙◌, ap, subst, arith, inl, inr}
use Rattle.std.proofs.lemmas.List.{append-nil}
use Rattle.std.proofs.Math.Nat.{zero-div}
use Rattle.std.specs.Prelude.{◌⊎◌}
use Rattle.gh_outside.specs.Causes.{Rose}
use Rattle.gh_outside.specs.Holdings.{Holding, HeldBytes, Holds, IsMissing, IsPast, KeepsOthers}
use Rattle.graph_model.specs.Histories.{before, frame_in, frames_of}
use Rattle.wav_pcm.specs.Files.{data_size}
use Rattle.wav_pcm.proofs.ToldLaws.{told_always, told_more}
use Rattle.engine_model.specs.Engines.{Parts, Stands}
use Rattle.streaming.specs.Appends.{IsAppended, IsPart, IsPartAppended}
use Rattle.streaming.specs.Blocks.{all_frames, all_samples, answer_put, first_frames, HasPut, HasPutPart, MayStream}
use Rattle.streaming.specs.declared.ends.Incoming.{Incoming}
use Rattle.streaming.proofs.LoopFacts.{not_past}
use Rattle.streaming.proofs.PartLaws.{keeps, not_missing, part-of, rose_since}
use Rattle.host_modes.specs.Files.{part_of, whole_of, IsBroken}
use Rattle.host_modes.specs.declared.output.files.Rendering.{Rendering}
use Rattle.host_modes.proofs.FileLaws.{part_of_more}

-- a name that stays is told the same
told_before : (name other : List ℕ) (P : List ℕ → Type 0) (a b : Option Holding) → name ≢ other → KeepsOthers other a b → HeldBytes name b P → HeldBytes name a P
told_before name other P None b differs same told = tt
told_before name other P (Some a) None differs same told = absurd same
told_before name other P (Some a) (Some b) differs same told = subst (λ (o : Option (List ℕ)). HeldBytes name (Some (λ _. o)) P) (same name differs) told

-- where the bytes are told, they are there
some_told : (name : List ℕ) (end : ℕ) (held : Option Holding) (Q : Type 0) (P : List ℕ → Type 0) → (IsPast name end held → ⊥) → HeldBytes name held P → ((file : List ℕ) → P file → Q) → (held ≡ None → Q) → Q
some_told name end None Q P there told f none = none refl
some_told name end (Some files) Q P there told f none = of (files name) refl told
  where
    none_some : {x : List ℕ} → None ≡ Some x → ⊥
    none_some e = cc

    of : (o : Option (List ℕ)) → files name ≡ o → HeldBytes name (Some (λ _. o)) P → Q
    of None at told = absurd (there (λ bytes held. absurd (none_some (sym at ∙ held))))
    of (Some file) at told = f file told

-- no frames make no history
no_frames : (m : ℕ) → [] ≡ frames_of m []
no_frames m = ap (λ n. before (frame_in m []) n) (sym (zero-div m))

none_first : (i : Incoming) (file : List ℕ) → [] ≡ first_frames i file 0
none_first i file =
    let none : 0 ≡ 0 * i.head.channels = omega arith in
    no_frames i.head.channels ∙ ap (λ n. frames_of i.head.channels (take n (all_samples i file))) none

module _ (r : Rendering) (e : Parts) (old : Option Holding) where
  -- the head, or the first of it
  pub begun_part : (new : Option Holding) → Stands e [] → IsPart r.to.name.now r.head old new
      → (k : ℕ) × (k ≤ all_frames r.from) × HeldBytes r.from.name.now old (λ file. Stands e (first_frames r.from file k) × IsBroken r e.graph file k old new)
  begun_part new none part = (
    0,
    omega arith,
    told_always r.from.name.now old (λ file. Stands e (first_frames r.from file 0) × IsBroken r e.graph file 0 old new)
        (λ file. (subst (Stands e) (none_first r.from file) none, inl (part_of_more r.to.name.now r.head (answer_put r.from r.to e.graph file 0) old new part))),
  )

module _ (r : Rendering) (e : Parts) (old held : Option Holding) (may : MayStream r.from r.to e old) (begun : KeepsOthers r.to.name.now old held) (head : Holds r.to.name.now r.head held) where
  -- the stream begins there
  pub may_still : MayStream r.from r.to e held
  may_still = record {
    differs = may.differs;
    head = may.head;
    there = not_past r.from.name.now r.to.name.now (r.from.head.from + data_size r.from.head) old held may.differs begun may.there;
    size = may.size;
    sound = may.sound;
    come = may.come;
    go = may.go;
    most = may.most;
    few = may.few;
  }

  pub stream_missed : (before now later : ℕ) → before ≤ now → IsMissing r.to.name.now held ⊎ Rose now later → Rose before later
  stream_missed before now later more (inl missing) = absurd (not_missing r.to.name.now r.head held head missing)
  stream_missed before now later more (inr rose) = rose_since before now later more rose

  module _ (new : Option Holding) (others : KeepsOthers r.to.name.now held new) where
    -- a block was not appended whole
    pub broken_file : (k : ℕ) (e' : Parts) → HasPutPart r.from r.to k held e new e'
        → HeldBytes r.from.name.now old (λ file. Stands e' (first_frames r.from file k) × IsBroken r e.graph file k old new)
    broken_file k e' put =
        told_before r.from.name.now r.to.name.now (λ file. Stands e' (first_frames r.from file k) × IsBroken r e.graph file k old new) old held may.differs begun
        (told_more r.from.name.now held (λ file. Stands e' (first_frames r.from file k) × IsPartAppended r.to.name.now (answer_put r.from r.to e.graph file k) held new)
        (λ file. Stands e' (first_frames r.from file k) × IsBroken r e.graph file k old new) (λ file told. (told.0, inl (part_so file told.1))) put)
      where
        part_so : (file : List ℕ) → IsPartAppended r.to.name.now (answer_put r.from r.to e.graph file k) held new → IsPart r.to.name.now (part_of r e.graph file k) old new
        part_so file put =
            subst (λ bytes. IsPart r.to.name.now bytes old new) (ap (λ l. r.head ++ l) (append-nil (answer_put r.from r.to e.graph file k)))
            (part-of r.to.name.now r.head (answer_put r.from r.to e.graph file k) [] old held new begun others head put)

    -- a block could not be read
    pub halted_file : (k : ℕ) (e' : Parts) → HasPut r.from r.to k held e new e'
        → HeldBytes r.from.name.now old (λ file. Stands e' (first_frames r.from file k) × Holds r.to.name.now (part_of r e.graph file k) new)
    halted_file k e' put =
        told_before r.from.name.now r.to.name.now (λ file. Stands e' (first_frames r.from file k) × Holds r.to.name.now (part_of r e.graph file k) new) old held may.differs begun
        (told_more r.from.name.now held (λ file. Stands e' (first_frames r.from file k) × IsAppended r.to.name.now (answer_put r.from r.to e.graph file k) held new)
        (λ file. Stands e' (first_frames r.from file k) × Holds r.to.name.now (part_of r e.graph file k) new) (λ file told. (told.0, told.1 r.head head)) put)

    -- all frames were appended
    module _ (e' : Parts) (put : HasPut r.from r.to (all_frames r.from) held e new e') (last : Option Holding) (pads : KeepsOthers r.to.name.now new last) where
      all_so : HeldBytes r.from.name.now old (λ file. Stands e' (first_frames r.from file (all_frames r.from)) × Holds r.to.name.now (part_of r e.graph file (all_frames r.from)) new)
      all_so = halted_file (all_frames r.from) e' put

      pub whole_file : IsAppended r.to.name.now (replicate (r.data_bytes % 2) 0) new last
          → HeldBytes r.from.name.now old (λ file. Stands e' (first_frames r.from file (all_frames r.from)) × Holds r.to.name.now (whole_of r e.graph file) last)
      whole_file padded =
          told_more r.from.name.now old _ (λ file. Stands e' (first_frames r.from file (all_frames r.from)) × Holds r.to.name.now (whole_of r e.graph file) last)
          (λ file told. (told.0, padded (part_of r e.graph file (all_frames r.from)) told.1)) all_so

      pub padless_file : IsPartAppended r.to.name.now (replicate (r.data_bytes % 2) 0) new last
          → (k : ℕ) × (k ≤ all_frames r.from) × HeldBytes r.from.name.now old (λ file. Stands e' (first_frames r.from file k) × IsBroken r e.graph file k old last)
      padless_file padded = (
        all_frames r.from,
        omega arith,
        told_more r.from.name.now old _ (λ file. Stands e' (first_frames r.from file (all_frames r.from)) × IsBroken r e.graph file (all_frames r.from) old last)
            (λ file told. (told.0, inr (refl, part_so file told.1))) all_so,
      )
        where
          part_so : (file : List ℕ) → Holds r.to.name.now (part_of r e.graph file (all_frames r.from)) new → IsPart r.to.name.now (whole_of r e.graph file) old last
          part_so file there =
              subst (λ bytes. IsPart r.to.name.now bytes old last) (ap (λ pad. part_of r e.graph file (all_frames r.from) ++ pad) (append-nil (replicate (r.data_bytes % 2) 0)))
              (part-of r.to.name.now (part_of r e.graph file (all_frames r.from)) (replicate (r.data_bytes % 2) 0) [] old new last (keeps r.to.name.now old held new begun others) pads there padded)

      pub pad_missed : (before now later : ℕ) → before ≤ now → Rose now later ⊎ IsMissing r.to.name.now new → Rose before later
      pad_missed before now later more (inl rose) = rose_since before now later more rose
      pad_missed before now later more (inr missing) =
          some_told r.from.name.now (r.from.head.from + data_size r.from.head) old (Rose before later) _ may.there all_so
          (λ file told. absurd (not_missing r.to.name.now (part_of r e.graph file (all_frames r.from)) new told.1 missing))
          (λ none. absurd (untold new (keeps r.to.name.now old held new begun others) none missing))
        where
          untold : (new : Option Holding) → KeepsOthers r.to.name.now old new → old ≡ None → IsMissing r.to.name.now new → ⊥
          untold None same none missing = missing
          untold (Some files) same none missing = subst (λ (o : Option Holding). KeepsOthers r.to.name.now o (Some files)) none same
