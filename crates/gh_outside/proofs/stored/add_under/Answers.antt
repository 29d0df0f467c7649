use Rattle.std.proofs.Common.{◌≡◌, sym, ◌∙◌, ap, Some, get_or, None, List, ℕ}
use Rattle.gh_outside.specs.Memory.{held_by, holding}
use Rattle.gh_outside.proofs.PlaceFacts.{held_there, room_there, fits_there, longer_after, not_stored, stored_after, others_after, rooms_after}
use Rattle.gh_outside.proofs.stored.add_under.Goals as goal

none_some : {x : List ℕ} → None ≡ Some x → ⊥
none_some e = cc

pub add-requires : goal.add-requires
add-requires c =
    let p = sym c.in-Some.ensures in
    let d = c.index-files-at.result in
    fits_there c.args.files.now c.args.name.now c.args.bytes.now (get_or c.args.files.now c.in-Some.at d) (held_there _ _ _ d p) (room_there _ _ _ d p) c.requires

pub returns-in-Some-clause-gained : goal.returns-in-Some-clause-gained
returns-in-Some-clause-gained c held h =
    let p = sym c.in-Some.ensures in
    let d = c.index-files-at.result in
    ap held_by (stored_after c.args.files.now c.args.name.now c.in-Some.at d c.add.new.self p (ap (λ f. f.name) c.add.ensures))
    ∙ longer_after (get_or c.args.files.now c.in-Some.at d) c.add.new.self c.args.bytes.now held c.add.ensures (sym (held_there _ _ _ d p) ∙ h)

pub returns-in-Some-clause-others : goal.returns-in-Some-clause-others
returns-in-Some-clause-others c other differ =
    ap held_by (others_after c.args.files.now c.args.name.now other c.in-Some.at c.index-files-at.result c.add.new.self differ (sym c.in-Some.ensures) (ap (λ f. f.name) c.add.ensures))

pub returns-in-Some-clause-rooms : goal.returns-in-Some-clause-rooms
returns-in-Some-clause-rooms c other =
    rooms_after c.args.files.now c.args.name.now other c.in-Some.at c.index-files-at.result c.add.new.self (sym c.in-Some.ensures) (ap (λ f. f.name) c.add.ensures) (ap (λ f. f.room) c.add.ensures)

pub returns-in_default-clause-gained : goal.returns-in_default-clause-gained
returns-in_default-clause-gained c held h =
    let e : holding c.args.files.now c.args.name.now ≡ None = ap held_by (not_stored c.args.files.now c.args.name.now (sym c.in_default.ensures)) in
    absurd (none_some (sym e ∙ h))
