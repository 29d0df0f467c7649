use Rattle.std.proofs.Common.{◌≡◌, ◌++◌, ℕ, List, drop, map, Result, Ok, Err}
use Rattle.command_words.specs.Rendering.{block_length, each}
use Rattle.command_words.specs.declared.fault.WordsFault.{WordsFault}
use Rattle.command_words.proofs.render.lengths.Given as goal

-- these, and then the rest of an answer
abbrev pub appended : List ℕ → Result (List ℕ) WordsFault → Result (List ℕ) WordsFault
appended found (Ok rest) = Ok (found ++ rest)
appended found (Err e) = Err e

-- all the lengths are those found so far, and then those of the texts that are left
abbrev pub invariant-loop-text : goal.invariant-loop-text
invariant-loop-text l = each block_length (map (λ s. s.now) l.texts) ≡
    appended l.lengths (each block_length (map (λ s. s.now) (drop l.text-index l.texts)))
