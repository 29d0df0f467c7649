use Rattle.std.proofs.Common.{arith, ◌≡◌, ℕ, List, [], ◌∷◌, length, take, ◌∙◌}
use Rattle.std.proofs.lemmas.List.{length-take-le}
use Rattle.limiter_kernel.proofs.ShortFacts.{block_holds, delayed_small, fields_hold, low_small, room_small}
use Rattle.limiter_kernel.proofs.limiter.Limiter.short_block.Goals as goal

abbrev zeros : List ℕ
zeros = 0 ∷ 0 ∷ 0 ∷ 0 ∷ 0 ∷ 0 ∷ 0 ∷ 0 ∷ 0 ∷ 0 ∷ 0 ∷ 0 ∷ 0 ∷ 0 ∷ 0 ∷ 0 ∷ 0 ∷ 0 ∷ 0 ∷ 0 ∷ 0 ∷ 0 ∷ 0 ∷ 0 ∷ 0 ∷ 0 ∷ 0 ∷ 0 ∷ 0 ∷ 0 ∷ 0 ∷ 0 ∷ 0 ∷ 0 ∷ 0 ∷ 0 ∷ 0 ∷ 0 ∷ 0 ∷ 0 ∷ 0 ∷ 0 ∷ 0 ∷ 0 ∷ 0 ∷ 0 ∷ 0 ∷ 0 ∷ 0 ∷ 0 ∷ 0 ∷ 0 ∷ 0 ∷ 0 ∷ 0 ∷ 0 ∷ 0 ∷ 0 ∷ 0 ∷ 0 ∷ 0 ∷ 0 ∷ 0 ∷ 0 ∷ []

pub find_gains-requires-clause-small : goal.find_gains-requires-clause-small
find_gains-requires-clause-small c = low_small c.self.inside c.args.self.now c.self.view_is c.self.invariant c.args.frames c.args.ins.now c.requires.block.ins c.requires.block.within

pub limit_rows-requires-clause-gains : goal.limit_rows-requires-clause-gains
limit_rows-requires-clause-gains c =
    let k = c.self.inside in
    let wide : length (take c.args.frames zeros) ≡ c.args.frames = length-take-le c.args.frames zeros (omega (arith, c.requires.few)) in
    let many : c.len.result ≡ length k.lines.items = omega (arith, c.len.ensures, k.lines.ok.0) in
    room_small c.self.inside c.args.self.now c.self.view_is c.self.invariant c.args.frames c.args.ins.now c.requires.block.ins c.requires.block.within
    c.len.result many (length (take c.args.frames zeros)) wide c.write_peaks.new.peaks c.write_peaks.auto.peaks c.write_peaks.ensures
    c.find_gains.new.scales c.find_gains.new.lowests c.find_gains.new.room c.find_gains.auto.room c.find_gains.ensures

pub limit_rows-requires-clause-small : goal.limit_rows-requires-clause-small
limit_rows-requires-clause-small c =
    let k = c.self.inside in
    let wide : length (take c.args.frames zeros) ≡ c.args.frames = length-take-le c.args.frames zeros (omega (arith, c.requires.few)) in
    let many : c.len.result ≡ length k.lines.items = omega (arith, c.len.ensures, k.lines.ok.0) in
    delayed_small c.self.inside c.args.self.now c.self.view_is c.self.invariant c.args.frames c.args.ins.now c.requires.block.ins c.requires.block.within
    c.deref_mut.result.now c.deref_mut.ensures.value c.as_slice.result.now c.as_slice.ensures (length c.find_gains.new.room) (c.find_gains.auto.room ∙ c.write_peaks.auto.peaks ∙ wide)

pub invariant_of-self : goal.invariant_of-self
invariant_of-self c =
    let k = c.self.inside in
    let wide : length (take c.args.frames zeros) ≡ c.args.frames = length-take-le c.args.frames zeros (omega (arith, c.requires.few)) in
    let many : c.len.result ≡ length k.lines.items = omega (arith, c.len.ensures, k.lines.ok.0) in
    fields_hold c.self.inside c.args.self.now c.self.view_is c.self.invariant c.args.frames c.args.ins.now c.requires.block.ins c.requires.block.within
    c.len.result many (length (take c.args.frames zeros)) wide c.write_peaks.new.peaks c.write_peaks.auto.peaks c.write_peaks.ensures
    c.find_gains.new.scales c.find_gains.new.lowests c.find_gains.new.room c.find_gains.auto.room c.find_gains.ensures
    c.deref_mut.result.now c.limit_rows.new.lines c.deref_mut.ensures.value c.deref_mut.ensures.len c.limit_rows.auto.lines c.limit_rows.ensures.lines

pub returns : goal.returns
returns c =
    let k = c.self.inside in
    let wide : length (take c.args.frames zeros) ≡ c.args.frames = length-take-le c.args.frames zeros (omega (arith, c.requires.few)) in
    let many : c.len.result ≡ length k.lines.items = omega (arith, c.len.ensures, k.lines.ok.0) in
    let seen
    = block_holds c.self.inside c.args.self.now c.self.view_is c.self.invariant c.args.frames c.args.ins.now c.requires.block.ins c.requires.block.within
    c.len.result many (length (take c.args.frames zeros)) wide c.write_peaks.new.peaks c.write_peaks.auto.peaks c.write_peaks.ensures
    c.find_gains.new.scales c.find_gains.new.lowests c.find_gains.new.room c.find_gains.auto.room c.find_gains.ensures
    c.deref_mut.result.now c.limit_rows.new.lines c.deref_mut.ensures.value c.deref_mut.ensures.len c.limit_rows.auto.lines c.limit_rows.ensures.lines
    c.limit_rows.new.outs c.limit_rows.ensures.values in
    seen
