use Rattle.std.proofs.Common.{◌++◌, map, sym, ap, ◌∙◌}
use Rattle.std.proofs.lemmas.List.{append-nil}
use Rattle.std.proofs.lemmas.Slice.Zip.{either_empty_from_Zip}
use Rattle.lifetimes.proofs.LineFacts.{nothing_left, with_line}
use Rattle.lifetimes.proofs.lined.with_lines.Goals as goal

pub returns : goal.returns
returns c =
    let none = nothing_left _ _ (either_empty_from_Zip c.loop-life.life-iterator c.next.new.self c.next.result c.in-None.is c.next.ensures.steps) in
    sym (append-nil c.loop-life.lined) ∙ ap (λ ps. c.loop-life.lined ++ map with_line ps) (sym none) ∙ c.loop-life.invariant
