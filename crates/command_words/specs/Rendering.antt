-- What `render GRAPH IN OUT [--block N | --cuts a,b,..] [--tail T] [--compensate] [--waves] [--bits B]` asks for.
use Rattle.std.specs.Prelude.{ℕ, ◌<◌, ◌≤◌, ◌==◌, All, Bool, List, [], ◌∷◌, Option, Some, None, codes, fold, length, nat_le}
use Rattle.std.specs.Prelude.{if◌then◌else◌, option_map, Result, Ok, Err}
use Rattle.std.specs.List.{slice_split}
use Rattle.std.specs.Option.{ok_or}
use Rattle.clap.specs.Words.{App, Row, Text, first_of, new_app, with_rule}
use Rattle.wav_pcm.specs.Samples.{is_size}
use Rattle.graph_model.specs.Refusals.{mapped, onto}
use Rattle.command_words.specs.Commands.{flag, has_flag, option, positional, taken, taking, wanted}
use Rattle.command_words.specs.Numbers.{number_that, number_within}
use Rattle.command_words.specs.declared.render.RenderRequest.{RenderRequest as Said}
use Rattle.command_words.specs.declared.fault.WordsFault.{WordsFault}
use Rattle.command_words.specs.declared.fault.WordsFault.TheVariants.{NoRequest}

-- The names of a graph, of a file to read and of a file to write; the lengths of the blocks, which are repeated in
-- turn; how many frames of silence come after the input; the size of the samples that are written, if it is not that
-- of the input; whether the latency is left out; and whether the nodes are scheduled by waves.
pub record RenderRequest : Type 0 where
  pub graph : List ℕ
  pub input : List ℕ
  pub output : List ℕ
  pub cutting : List ℕ
  pub tail : ℕ
  pub bits : Option ℕ
  pub compensate : Bool
  pub waves : Bool

abbrev pub render_said : Said → RenderRequest
render_said r = record {
  graph = r.graph.now;
  input = r.input.now;
  output = r.output.now;
  cutting = r.cutting;
  tail = r.tail;
  bits = r.bits;
  compensate = r.compensate;
  waves = r.waves;
}

abbrev pub render_command : App
render_command = fold with_rule (new_app (codes "render"))
    (positional (codes "GRAPH") ∷ positional (codes "IN") ∷ positional (codes "OUT") ∷ option (codes "block") ∷ option (codes "cuts")
    ∷ option (codes "tail") ∷ flag (codes "compensate") ∷ flag (codes "waves") ∷ option (codes "bits") ∷ [])

-- at least one length, each of 1 to 8192 frames
abbrev pub IsCutting : List ℕ → Type 0
IsCutting lengths = (0 < length lengths) × All (λ n. (1 ≤ n) × (n ≤ 8192)) lengths

-- frames of a block
abbrev pub block_length : List ℕ → Result ℕ WordsFault
block_length t = ok_or (number_within 1 8192 t) NoRequest

-- what f makes of each of them; the first fault decides
abbrev pub each : {A B : Type 0} → (A → Result B WordsFault) → List A → Result (List B) WordsFault
each f [] = Ok []
each f (x ∷ xs) = taking (f x) (λ y. onto y (each f xs))

-- 1 to 64 lengths with commas (44) between them
abbrev pub cuts_of : List ℕ → Result (List ℕ) WordsFault
cuts_of t = let parts = slice_split (λ b. b == 44) t in if nat_le (length parts) 64 then each block_length parts else Err NoRequest

-- the lengths of the blocks by `--block` and `--cuts`, which exclude each other; 512 frames where neither is given
abbrev pub cutting_of : Option (List ℕ) → Option (List ℕ) → Result (List ℕ) WordsFault
cutting_of None None = Ok (512 ∷ [])
cutting_of (Some block) None = mapped (λ n. n ∷ []) (block_length block)
cutting_of None (Some cuts) = cuts_of cuts
cutting_of (Some block) (Some cuts) = Err NoRequest

-- frames, 0 to 2 ^ 32 - 1
abbrev pub tail_of : Option (List ℕ) → Result ℕ WordsFault
tail_of None = Ok 0
tail_of (Some t) = ok_or (number_within 0 4294967295 t) NoRequest

abbrev pub bits_of : Option (List ℕ) → Result (Option ℕ) WordsFault
bits_of None = Ok None
bits_of (Some t) = ok_or (option_map Some (number_that is_size t)) NoRequest

abbrev pub render_in : List Row → Result RenderRequest WordsFault
render_in rows = taking (wanted (codes "GRAPH") rows) (λ graph. taking (wanted (codes "IN") rows) (λ input.
    taking (wanted (codes "OUT") rows) (λ output.
    taking (cutting_of (first_of (codes "block") rows) (first_of (codes "cuts") rows)) (λ cutting.
    taking (tail_of (first_of (codes "tail") rows)) (λ tail. taking (bits_of (first_of (codes "bits") rows)) (λ bits. Ok (record {
      graph = graph;
      input = input;
      output = output;
      cutting = cutting;
      tail = tail;
      bits = bits;
      compensate = has_flag (codes "compensate") rows;
      waves = has_flag (codes "waves") rows;
    })))))))

-- the request to render that the words are
abbrev pub render_request : List Text → Result RenderRequest WordsFault
render_request words = taking (taken render_command words) render_in
