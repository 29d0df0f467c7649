use Rattle.std.proofs.Common.{sym, ◌∙◌, ap}
use Rattle.gh_outside.specs.Memory.{held_by}
use Rattle.gh_outside.proofs.PlaceFacts.{stored_there, not_stored}
use Rattle.gh_outside.proofs.stored.bytes_of.Goals as goal

pub returns-in-Some : goal.returns-in-Some
returns-in-Some c =
    c.bytes.ensures ∙ ap (λ f. f.held) c.index-files-at.is
    ∙ sym (ap held_by (stored_there c.args.files.now c.args.name.now c.in-Some.at c.index-files-at.result (sym c.in-Some.ensures)))

pub returns-in-None : goal.returns-in-None
returns-in-None c = sym (ap held_by (not_stored c.args.files.now c.args.name.now (sym c.in-None.ensures)))
