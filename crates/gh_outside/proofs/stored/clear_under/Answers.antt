use Rattle.std.proofs.Common.{◌≡◌, sym, ◌∙◌, ap, refl}
use Rattle.std.specs.Option.{is_some}
use Rattle.std.proofs.Common.{false}
use Rattle.std.proofs.lemmas.Bool.{false≢true}
use Rattle.gh_outside.specs.Memory.{held_by, room_by, room_of}
use Rattle.gh_outside.proofs.PlaceFacts.{room_there, not_stored, stored_after, others_after, rooms_after}
use Rattle.gh_outside.proofs.stored.clear_under.Goals as goal

pub returns-in-Some-clause-room : goal.returns-in-Some-clause-room
returns-in-Some-clause-room c = let e = room_there c.args.files.now c.args.name.now c.in-Some.at c.index-files-at.result (sym c.in-Some.ensures) in (λ _. ap is_some e, λ _. refl)

pub returns-in-Some-clause-made : goal.returns-in-Some-clause-made
returns-in-Some-clause-made c t =
    ap held_by (stored_after c.args.files.now c.args.name.now c.in-Some.at c.index-files-at.result c.fill.new.self (sym c.in-Some.ensures) (ap (λ f. f.name) c.fill.ensures)) ∙ ap (λ f. f.held) c.fill.ensures

pub returns-in-Some-clause-others : goal.returns-in-Some-clause-others
returns-in-Some-clause-others c other differ =
    ap held_by (others_after c.args.files.now c.args.name.now other c.in-Some.at c.index-files-at.result c.fill.new.self differ (sym c.in-Some.ensures) (ap (λ f. f.name) c.fill.ensures))

pub returns-in-Some-clause-rooms : goal.returns-in-Some-clause-rooms
returns-in-Some-clause-rooms c other =
    rooms_after c.args.files.now c.args.name.now other c.in-Some.at c.index-files-at.result c.fill.new.self (sym c.in-Some.ensures) (ap (λ f. f.name) c.fill.ensures) (ap (λ f. f.room) c.fill.ensures)

pub returns-in-None-clause-room : goal.returns-in-None-clause-room
returns-in-None-clause-room c = let e = ap room_by (not_stored c.args.files.now c.args.name.now (sym c.in-None.ensures)) in let n : is_some (room_of c.args.files.now c.args.name.now) ≡ false = ap is_some e in (λ t. absurd (false≢true t), λ t. absurd (false≢true (sym n ∙ t)))
