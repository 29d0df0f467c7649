use Rattle.std.proofs.Common.{sym, ◌∙◌, ap, Some}
use Rattle.gh_outside.specs.Memory.{held_by}
use Rattle.gh_outside.proofs.PlaceFacts.{held_there, room_there, free_there, not_stored}
use Rattle.gh_outside.proofs.stored.free_under.Goals as goal

pub returns-in-Some : goal.returns-in-Some
returns-in-Some c =
    let p = sym c.in-Some.ensures in
    free_there c.args.files.now c.args.name.now c.index-files-at.result c.free.result
    (held_there _ _ _ c.index-files-at.result p ∙ ap (λ f. f.held) (sym c.index-files-at.is))
    (room_there _ _ _ c.index-files-at.result p ∙ ap (λ f. Some f.room) (sym c.index-files-at.is))
    c.free.ensures

pub returns-in-None : goal.returns-in-None
returns-in-None c = ap held_by (not_stored c.args.files.now c.args.name.now (sym c.in-None.ensures))
