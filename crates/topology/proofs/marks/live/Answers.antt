use Rattle.std.proofs.Common.{rules, arith, ◌≡◌, ℕ, ◌∙◌, sym, ap, subst, List, Bool, false, drop, take, ◌++◌, length}
use Rattle.std.proofs.lemmas.Grind.{common_steps}
use Rattle.std.proofs.lemmas.List.{take_at}
use Rattle.topology.specs.Blocks.{is_taken}
use Rattle.topology.specs.Links.{AreLinks}
use Rattle.topology.specs.Marks.{AllLive, KeepsMarks}
use Rattle.topology.specs.Answers.{AreLive}
use Rattle.topology.proofs.MarkFacts.{AreMarks, first_mark, marks_kept, marks_are_live, if_ok_same}
use Rattle.topology.proofs.marks.live.Goals as goal

pub loop-init : goal.loop-init
loop-init c =
    let len : length c.in_ok-marks.marks.items ≡ length c.args.graph.now.nodes = search rules in
    let none : (v : ℕ) → is_taken c.in_ok-marks.marks.items v ≡ false = λ v. grind (arith, common_steps) in
    first_mark c.args.graph.now c.requires.named c.in_ok-marks.marks.items c.output_index.result len none c.output_index.ensures.within c.output_index.ensures.name

pub loop-preserved : goal.loop-preserved
loop-preserved c =
    let g = c.args.graph.now in
    let old : List Bool = c.loop.marks.items in
    let new : List Bool = c.spread.new.marks in
    let was : c.deref_mut.result.now ≡ old = c.deref_mut.ensures.value in
    let back : take c.loop.marks.len (new ++ drop (length new) old) ≡ new = take_at new (drop (length new) old) c.loop.marks.len (c.spread.auto.marks ∙ c.deref_mut.ensures.len) in
    let kept : KeepsMarks old new = subst (λ (ms : List Bool). KeepsMarks ms new) was c.loop-test.ensures.kept in
    let links : AreLinks g c.deref.result.now = rw c.deref.ensures.value c.in_ok-links.ensures in
    let live : AllLive g old → AllLive g new = λ before. c.loop-test.ensures.live g c.requires.named links (subst (AllLive g) (sym was) before) in
    rw back (marks_kept g old new c.loop.invariant (c.spread.auto.marks ∙ ap (λ (ms : List Bool). length ms) was) kept live)

pub returns : goal.returns
returns c =
    let g = c.args.graph.now in
    let old : List Bool = c.loop.marks.items in
    let new : List Bool = c.spread.new.marks in
    let was : c.deref_mut.result.now ≡ old = c.deref_mut.ensures.value in
    let back : take c.loop.marks.len (new ++ drop (length new) old) ≡ new = take_at new (drop (length new) old) c.loop.marks.len (c.spread.auto.marks ∙ c.deref_mut.ensures.len) in
    let kept : KeepsMarks old new = subst (λ (ms : List Bool). KeepsMarks ms new) was c.loop-test.ensures.kept in
    let links : AreLinks g c.deref.result.now = rw c.deref.ensures.value c.in_ok-links.ensures in
    let live : AllLive g old → AllLive g new = λ before. c.loop-test.ensures.live g c.requires.named links (subst (AllLive g) (sym was) before) in
    let are : AreMarks g new = marks_kept g old new c.loop.invariant (c.spread.auto.marks ∙ ap (λ (ms : List Bool). length ms) was) kept live in
    let result_is : c.deref-2.result.now ≡ new = c.deref-2.ensures.value ∙ back in
    if_ok_same (AreLive g) c.deref-2.result.now c.from_slice.result
    (subst (AreLive g) (sym result_is) (marks_are_live g c.requires.named c.deref.result.now links new are c.loop-test.ensures.more)) c.from_slice.ensures
