use Rattle.std.proofs.Common.{length, ◌/◌, inl, inr, ap, ◌∙◌, subst, Contains, arith, rules}
use Rattle.std.proofs.lemmas.Grind.{common_steps}
use Rattle.gh_outside.specs.Memory.{HasFree, PassesRoom}
use Rattle.gh_outside.proofs.PlaceFacts.{passes_room}
use Rattle.gh_outside.proofs.memory.MemoryFolderFolder.append.Goals as goal

-- half of the piece
pub returns-then-listed-clause-failed : goal.returns-then-listed-clause-failed
returns-then-listed-clause-failed c bytes h = (length c.args.bytes.now / 2, let g = c.add_under.ensures.gained bytes in first_of (search rules, grind (arith, common_steps)))

pub returns-then-free-bytes-clause-exact : goal.returns-then-free-bytes-clause-exact
returns-then-free-bytes-clause-exact c =
    let name = c.args.name.now in
    let same = c.deref.ensures.value ∙ ap (λ s. s.files) c.self.view_is in
    let free : HasFree c.args.self.now.files name c.in-Some.free = subst (λ files. HasFree files name c.in-Some.free) same c.in-Some.ensures in
    let passes : PassesRoom c.args.self.now.files name (length c.args.bytes.now) = passes_room c.args.self.now.files name c.in-Some.free (length c.args.bytes.now) free (omega arith) in
    let counted = c.count_fault.ensures.counted in
    record { failed = inr (inr passes, search rules); answered = search rules; missed = search rules; stays = search rules; faulted = search rules }

pub returns-then-listed-clause-exact : goal.returns-then-listed-clause-exact
returns-then-listed-clause-exact c =
    let listed : Contains c.args.self.now.fails c.args.self.now.calls =
    subst (λ s. Contains s.fails s.calls) c.self.view_is (c.next_call-listed.ensures.listed.0 c.if-listed.true) in
    record { failed = inr (inl listed, search rules); answered = search rules; missed = search rules; stays = search rules; faulted = search rules }
