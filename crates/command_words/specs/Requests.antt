-- What the words of the command line ask for.
use Rattle.std.specs.Prelude.{ℕ, ◌≤◌, List, [], ◌∷◌, codes, if◌then◌else◌, length, Result, Err, ⊤}
use Rattle.std.specs.Option.{IfSome}
use Rattle.std.specs.Str.{bytes_eq}
use Rattle.wav_pcm.specs.Samples.{IsSize}
use Rattle.graph_model.specs.Refusals.{mapped}
use Rattle.command_words.specs.Checking.{CheckRequest, check_said, check_request}
use Rattle.command_words.specs.Compiling.{CompileRequest, compile_said, compile_request}
use Rattle.command_words.specs.Demos.{DemoRequest, demo_said, demo_request}
use Rattle.command_words.specs.Rendering.{IsCutting, RenderRequest, render_said, render_request}
use Rattle.command_words.specs.declared.fault.WordsFault.{WordsFault}
use Rattle.command_words.specs.declared.fault.WordsFault.TheVariants.{NoRequest}
use Rattle.command_words.specs.declared.modes.Request.{Request as Said}
use Rattle.command_words.specs.declared.modes.Request.TheVariants as said_to

pub data Request : Type 0 where
  render : RenderRequest → Request
  compile : CompileRequest → Request
  check : CheckRequest → Request
  demo : DemoRequest → Request

abbrev pub said : Said → Request
said (said_to.Render r) = render (render_said r)
said (said_to.Compile r) = compile (compile_said r)
said (said_to.Check r) = check (check_said r)
said (said_to.Demo r) = demo (demo_said r)

-- the numbers of a request are within their ranges
abbrev pub IsInRange : Request → Type 0
IsInRange (render r) = IsCutting r.cutting × (length r.cutting ≤ 64) × IfSome r.bits IsSize
IsInRange (compile r) = ⊤
IsInRange (check r) = ⊤
IsInRange (demo r) = (3 ≤ r.nodes) × (r.nodes ≤ 512)

-- the request that the words are, in that mode
abbrev pub request_in : List ℕ → List (List ℕ) → Result Request WordsFault
request_in mode words = if bytes_eq mode (codes "render") then mapped render (render_request words)
    else (if bytes_eq mode (codes "compile") then mapped compile (compile_request words)
    else (if bytes_eq mode (codes "check") then mapped check (check_request words)
    else (if bytes_eq mode (codes "demo") then mapped demo (demo_request words)
    else Err NoRequest)))

-- the request that the words are, if they are one: the first is the mode
abbrev pub request_of : List (List ℕ) → Result Request WordsFault
request_of [] = Err NoRequest
request_of (mode ∷ words) = request_in mode (mode ∷ words)
