use Rattle.std.proofs.Common.{◌≡◌, ◌++◌, ◌*◌, ◌∙◌, ap, rules}
use Rattle.graph_gen.specs.Draws.{samples_drawn}
use Rattle.host_modes.proofs.modes.demo.input.Goals as goal

pub returns : goal.returns
returns c =
    let silence = c.in_ok-silence.silence.items in
    let all : c.extend_from_slice.new.self.items ≡ c.in_ok-input.input.items ++ silence = search rules in
    let drawn : c.in_ok-input.input.items ≡ samples_drawn c.args.seed (c.args.frames * 2) = search rules in
    all ∙ ap (λ xs. xs ++ silence) drawn ∙ ap (λ xs. samples_drawn c.args.seed (c.args.frames * 2) ++ xs) c.in_ok-silence.ensures
