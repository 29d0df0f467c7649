-- Laws of a line as a list, the oldest sample first.
use Rattle.std.proofs.Common.{◌≡◌, ◌+◌, ◌≤◌, List, ◌++◌, length, take, drop, replicate, get_or, ℤ, pos, sym, ap, ◌∙◌, arith, append_assoc}
use Rattle.std.proofs.lemmas.List.{take_at, drop_at, drop-drop, take-append-le, drop-append-le, length-append, length-replicate, get_or-take, get_or_append_left, get_or-append-add, get_or-replicate}
use Rattle.std.proofs.Math.Seq.{take-add}
use Rattle.delay_lines.specs.Lines.{kept, passed}
use Rattle.delay_lines.specs.Laws.{BlocksJoin, DelaysByItsLength, PassesOn}

pub passes_on : PassesOn
passes_on line samples out rest whole size = (
  sym (take_at out rest (length samples) size) ∙ ap (take (length samples)) whole,
  sym (drop_at out rest (length samples) size) ∙ ap (drop (length samples)) whole,
)

pub delays_by_its_length : DelaysByItsLength
delays_by_its_length delay samples k here =
    let zeros : List ℤ = replicate delay (pos 0) in
    let at : get_or (passed zeros samples) k (pos 0) ≡ get_or (zeros ++ samples) k (pos 0)
    = get_or-take (length samples) (zeros ++ samples) k (pos 0) here in (
      λ early. at ∙ get_or_append_left zeros samples (pos 0) k (omega (arith, early, length-replicate delay (pos 0)))
          ∙ get_or-replicate delay k (pos 0) (pos 0) early,
      λ j is.
          let place : k ≡ length zeros + j = omega (arith, is, length-replicate delay (pos 0)) in
          at ∙ ap (λ n. get_or (zeros ++ samples) n (pos 0)) place ∙ get_or-append-add zeros samples j (pos 0),
    )

pub blocks_join : BlocksJoin
blocks_join line first second =
    let whole : line ++ (first ++ second) ≡ (line ++ first) ++ second = sym (append_assoc line first second) in
    let few : length first ≤ length (line ++ first) = omega (arith, length-append line first) in
    let n : length (first ++ second) ≡ length first + length second = length-append first second in
    let early : take (length first) ((line ++ first) ++ second) ≡ passed line first
    = take-append-le (length first) (line ++ first) second few in
    let late : drop (length first) ((line ++ first) ++ second) ≡ kept line first ++ second = drop-append-le (length first) (line ++ first) second few in (
      (λ i. take (n i) (whole i)) ∙ take-add (length first) (length second) ((line ++ first) ++ second)
          ∙ (λ i. early i ++ take (length second) (late i)),
      (λ i. drop (n i) (whole i)) ∙ sym (drop-drop (length second) (length first) ((line ++ first) ++ second))
          ∙ ap (drop (length second)) late,
    )
