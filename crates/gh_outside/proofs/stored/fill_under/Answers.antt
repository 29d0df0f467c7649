use Rattle.std.proofs.Common.{sym, ◌∙◌, ap, subst, length, ◌≤◌}
use Rattle.std.specs.Option.{IfSome, is_some}
use Rattle.std.proofs.lemmas.Bool.{false≢true}
use Rattle.gh_outside.specs.Memory.{held_by, room_by}
use Rattle.gh_outside.proofs.PlaceFacts.{room_there, not_stored, stored_after, others_after, rooms_after}
use Rattle.gh_outside.proofs.stored.fill_under.Goals as goal

pub fill-requires : goal.fill-requires
fill-requires c =
    subst (λ o. IfSome o (λ room. length c.args.bytes.now ≤ room)) (room_there c.args.files.now c.args.name.now c.in-Some.at c.index-files-at.result (sym c.in-Some.ensures)) c.requires

pub returns-in-Some-clause-held : goal.returns-in-Some-clause-held
returns-in-Some-clause-held c t =
    ap held_by (stored_after c.args.files.now c.args.name.now c.in-Some.at c.index-files-at.result c.fill.new.self (sym c.in-Some.ensures) (ap (λ f. f.name) c.fill.ensures)) ∙ ap (λ f. f.held) c.fill.ensures

pub returns-in-Some-clause-others : goal.returns-in-Some-clause-others
returns-in-Some-clause-others c other differ =
    ap held_by (others_after c.args.files.now c.args.name.now other c.in-Some.at c.index-files-at.result c.fill.new.self differ (sym c.in-Some.ensures) (ap (λ f. f.name) c.fill.ensures))

pub returns-in-Some-clause-rooms : goal.returns-in-Some-clause-rooms
returns-in-Some-clause-rooms c other =
    rooms_after c.args.files.now c.args.name.now other c.in-Some.at c.index-files-at.result c.fill.new.self (sym c.in-Some.ensures) (ap (λ f. f.name) c.fill.ensures) (ap (λ f. f.room) c.fill.ensures)

pub returns-in_default-clause-held : goal.returns-in_default-clause-held
returns-in_default-clause-held c t = absurd (false≢true (sym (ap (λ o. is_some (room_by o)) (not_stored c.args.files.now c.args.name.now (sym c.in_default.ensures))) ∙ t))
