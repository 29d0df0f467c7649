-- What was asked for, by the modes of requests.
use Rattle.std.specs.Prelude.{Bool, true, false, Result, Ok, Err, ⊤}
use Rattle.command_words.specs.Rendering.{RenderRequest}
use Rattle.command_words.specs.Requests.{Request, render, compile, check, demo}
use Rattle.command_words.specs.declared.fault.WordsFault.{WordsFault}
use Rattle.plan_model.specs.declared.schedule.Mode.{Mode}
use Rattle.plan_model.specs.declared.schedule.Mode.TheVariants.{OneByOne, Waves}

-- a request, or why the words are none
abbrev pub Asked : Type 0
Asked = Result Request WordsFault

-- P holds of the request, where it is one to render
abbrev pub IfRender : Asked → (RenderRequest → Type 0) → Type 0
IfRender (Ok (render q)) P = P q
IfRender (Ok (compile q)) P = ⊤
IfRender (Ok (check q)) P = ⊤
IfRender (Ok (demo q)) P = ⊤
IfRender (Err fault) P = ⊤

-- it is one to render, and P holds of it
abbrev pub IsRender : Asked → (RenderRequest → Type 0) → Type 0
IsRender (Ok (render q)) P = P q
IsRender (Ok (compile q)) P = ⊥
IsRender (Ok (check q)) P = ⊥
IsRender (Ok (demo q)) P = ⊥
IsRender (Err fault) P = ⊥

-- the schedule that is asked for
abbrev pub mode_of : Bool → Mode
mode_of true = Waves
mode_of false = OneByOne
