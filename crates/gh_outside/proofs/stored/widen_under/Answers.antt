use Rattle.std.proofs.Common.{◌≡◌, sym, ◌∙◌, ap, Some, None, subst, max, ℕ, arith}
use Rattle.std.specs.Prelude.{unwrap_or, OnOk}
use Rattle.std.specs.List.{position}
use Rattle.gh_outside.specs.Memory.{room_by, holding, room_of, is_named}
use Rattle.gh_outside.proofs.PlaceFacts.{widened, held_after, room_after, others_after, stored_more, stored_new, held_more, not_stored}
use Rattle.gh_outside.proofs.stored.widen_under.Goals as goal

no_less : (n : ℕ) → n ≡ max 0 n
no_less n = omega arith

pub returns-in-Some-clause-held : goal.returns-in-Some-clause-held
returns-in-Some-clause-held c other =
    let name = c.args.name.now in
    let at = c.in-Some.at in
    let d = c.index_mut-file.result.now in
    let v = c.index_mut-file.ensures.value in
    let p : position (is_named name) c.args.files.now.items ≡ Some at = subst (λ xs. position (is_named name) xs ≡ Some at) c.deref.ensures.value (sym c.in-Some.ensures) in
    let w = widened c.widen.result d c.widen.new.self c.args.room c.widen.ensures.ok c.widen.ensures.err in
    held_after c.args.files.now.items name other at d c.widen.new.self p (w.0 ∙ ap (λ f. f.name) v) (w.1 ∙ ap (λ f. f.held) v)

pub returns-in-Some-clause-rooms : goal.returns-in-Some-clause-rooms
returns-in-Some-clause-rooms c other differ =
    let name = c.args.name.now in
    let at = c.in-Some.at in
    let d = c.index_mut-file.result.now in
    let v = c.index_mut-file.ensures.value in
    let p : position (is_named name) c.args.files.now.items ≡ Some at = subst (λ xs. position (is_named name) xs ≡ Some at) c.deref.ensures.value (sym c.in-Some.ensures) in
    let w = widened c.widen.result d c.widen.new.self c.args.room c.widen.ensures.ok c.widen.ensures.err in
    ap room_by (others_after c.args.files.now.items name other at d c.widen.new.self differ p (w.0 ∙ ap (λ f. f.name) v))

pub returns-in-Some-clause-room : goal.returns-in-Some-clause-room
returns-in-Some-clause-room c =
    let name = c.args.name.now in
    let at = c.in-Some.at in
    let d = c.index_mut-file.result.now in
    let v = c.index_mut-file.ensures.value in
    let p : position (is_named name) c.args.files.now.items ≡ Some at = subst (λ xs. position (is_named name) xs ≡ Some at) c.deref.ensures.value (sym c.in-Some.ensures) in
    room_after c.widen.result c.args.files.now.items name at d c.widen.new.self c.args.room p
    (subst (λ f. OnOk c.widen.result (c.widen.new.self ≡ record { name = f.name; held = f.held; room = max f.room c.args.room })) v c.widen.ensures.ok)

pub returns-in_ok-push-in-None-clause-held : goal.returns-in_ok-push-in-None-clause-held
returns-in_ok-push-in-None-clause-held c other =
    let name = c.args.name.now in
    let s = c.in_ok-new-in-None.field-0 in
    let p : position (is_named name) c.args.files.now.items ≡ None = subst (λ xs. position (is_named name) xs ≡ None) c.deref.ensures.value (sym c.in-None.ensures) in
    ap (λ xs. holding xs other) c.in_ok-push-in-None.ensures.items
    ∙ held_more c.args.files.now.items name other s (ap (λ f. f.name) c.in_ok-new-in-None.ensures) (ap (λ f. f.held) c.in_ok-new-in-None.ensures) p

pub returns-in_ok-push-in-None-clause-rooms : goal.returns-in_ok-push-in-None-clause-rooms
returns-in_ok-push-in-None-clause-rooms c other differ =
    let s = c.in_ok-new-in-None.field-0 in
    ap (λ xs. room_of xs other) c.in_ok-push-in-None.ensures.items
    ∙ ap room_by (stored_more c.args.files.now.items c.args.name.now other s (ap (λ f. f.name) c.in_ok-new-in-None.ensures) differ)

pub returns-in_ok-push-in-None-clause-room : goal.returns-in_ok-push-in-None-clause-room
returns-in_ok-push-in-None-clause-room c =
    let name = c.args.name.now in
    let s = c.in_ok-new-in-None.field-0 in
    let p : position (is_named name) c.args.files.now.items ≡ None = subst (λ xs. position (is_named name) xs ≡ None) c.deref.ensures.value (sym c.in-None.ensures) in
    ap (λ xs. room_of xs name) c.in_ok-push-in-None.ensures.items
    ∙ ap room_by (stored_new c.args.files.now.items name s (ap (λ f. f.name) c.in_ok-new-in-None.ensures) p)
    ∙ ap (λ f. Some f.room) c.in_ok-new-in-None.ensures ∙ ap Some (no_less c.args.room)
    ∙ ap (λ o. Some (max (unwrap_or (room_by o) 0) c.args.room)) (sym (not_stored c.args.files.now.items name p))
