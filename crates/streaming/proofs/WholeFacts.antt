-- Frames in memory, a block at a time.
use Rattle.std.proofs.Common.{◌≡◌, ℕ, ℤ, ◌+◌, ◌-◌, ◌*◌, ◌≤◌, ◌^◌, List, ◌++◌, length, take, drop, sym, ◌∙◌, ap, subst, arith, take_all, unsigned_abs}
use Rattle.std.proofs.lemmas.List.{length-drop, length-take-le}
use Rattle.std.proofs.lemmas.List.Elements.{All-drop, All-take}
use Rattle.std.proofs.lemmas.Slice.{take-put_mid}
use Rattle.std.proofs.Math.Nat.{mul-le-mul_right}
use Rattle.std.proofs.Math.Seq.{take-add}
use borrow.Rule.Slice.PartMut.{put_mid}
use Rattle.graph_model.specs.Bounds.{AreUpTo}
use Rattle.graph_model.specs.Histories.{frames_of}
use Rattle.graph_model.specs.Graphs.{in_channels, out_channels}
use Rattle.graph_model.specs.Sound.{IsSound}
use Rattle.graph_model.proofs.BlockLaws.{length-frames_of}
use Rattle.graph_model.proofs.NodeFacts.{input_some}
use Rattle.engine_model.specs.Cuttings.{HasRendered}
use Rattle.engine_model.specs.Engines.{ins, outs, IsBlock, IsSame, Parts}
use Rattle.engine_model.proofs.CuttingLaws.{joined}

-- n rows of m after the first d
rows : (d n m : ℕ) → (d + n) * m - d * m ≡ n * m
rows d n m = let sum : (d + n) * m ≡ d * m + n * m = omega arith in omega (arith, sum)

part_long : (d n all m : ℕ) (xs : List ℤ) → length xs ≡ all * m → d + n ≤ all → length (take ((d + n) * m - d * m) (drop (d * m) xs)) ≡ n * m
part_long d n all m xs long within =
    let most : (d + n) * m ≤ all * m = mul-le-mul_right m within in
    let few : (d + n) * m - d * m ≤ length (drop (d * m) xs) =
    subst (λ l. (d + n) * m - d * m ≤ l) (sym (length-drop (d * m) xs ∙ ap (λ l. l - d * m) long)) (omega (arith, most)) in
    length-take-le ((d + n) * m - d * m) (drop (d * m) xs) few ∙ rows d n m

module _ (e0 e : Parts) (d n all m mo : ℕ) (input out : List ℤ) (sound : IsSound e0.graph) (ins_are : m ≡ ins e0) (outs_are : mo ≡ outs e0) (same : IsSame e0 e)
    (comes : length input ≡ all * m) (goes : length out ≡ all * mo) (within : d + n ≤ all) where
  sound_now : IsSound e.graph
  sound_now = subst (λ g. IsSound g) (sym same.graph) sound

  come_now : m ≡ ins e
  come_now = ins_are ∙ ap (λ g. in_channels g) (sym same.graph)

  go_now : mo ≡ outs e
  go_now = outs_are ∙ ap (λ g. out_channels g) (sym same.graph)

  pub next_block : 1 ≤ n → n ≤ e.block → AreUpTo (2 ^ 31) input
      → IsBlock e n (take ((d + n) * m - d * m) (drop (d * m) input)) (take ((d + n) * mo - d * mo) (drop (d * mo) out))
  next_block some most small = record {
    some = some;
    most = most;
    comes = part_long d n all m input comes within ∙ ap (λ k. n * k) come_now;
    goes = part_long d n all mo out goes within ∙ ap (λ k. n * k) go_now;
    small = All-take (λ x. unsigned_abs x ≤ 2 ^ 31) ((d + n) * m - d * m) (drop (d * m) input) (All-drop (λ x. unsigned_abs x ≤ 2 ^ 31) (d * m) input small);
  }

  pub next_frames : length (frames_of (ins e) (take ((d + n) * m - d * m) (drop (d * m) input))) ≡ n
  next_frames =
      length-frames_of (ins e) n (take ((d + n) * m - d * m) (drop (d * m) input)) (input_some e.graph sound_now)
      (part_long d n all m input comes within ∙ ap (λ k. n * k) come_now)

  pub next_rendered : (e' : Parts) (new : List ℤ) → HasRendered e0 (take (d * m) input) (take (d * mo) out) e → HasRendered e (take ((d + n) * m - d * m) (drop (d * m) input)) new e'
      → length new ≡ length (take ((d + n) * mo - d * mo) (drop (d * mo) out))
      → HasRendered e0 (take ((d + n) * m) input) (take ((d + n) * mo) (put_mid (d * mo) ((d + n) * mo - d * mo) out new)) e'
  next_rendered e' new before next long =
      let sum_in : d * m + ((d + n) * m - d * m) ≡ (d + n) * m = let r = rows d n m in let s : (d + n) * m ≡ d * m + n * m = omega arith in omega (arith, r, s) in
      let size : length new ≡ n * mo = long ∙ part_long d n all mo out goes within in
      let sum_out : (d + n) * mo ≡ d * mo + length new = let s : (d + n) * mo ≡ d * mo + n * mo = omega arith in s ∙ ap (λ k. d * mo + k) (sym size) in
      let most : (d + n) * mo ≤ all * mo = mul-le-mul_right mo within in
      let fits : d * mo ≤ length out = subst (λ k. d * mo ≤ k) (sym goes) (let s : (d + n) * mo ≡ d * mo + n * mo = omega arith in omega (arith, most, s)) in
      subst (λ xs. HasRendered e0 xs (take ((d + n) * mo) (put_mid (d * mo) ((d + n) * mo - d * mo) out new)) e')
      (sym (take-add (d * m) ((d + n) * m - d * m) input) ∙ ap (λ k. take k input) sum_in)
      (subst (λ ys. HasRendered e0 (take (d * m) input ++ take ((d + n) * m - d * m) (drop (d * m) input)) ys e')
      (sym (take-put_mid (d * mo) ((d + n) * mo - d * mo) out new ((d + n) * mo) sum_out fits))
      (joined e0 e e' sound (take (d * m) input) (take (d * mo) out) (take ((d + n) * m - d * m) (drop (d * m) input)) new before next))

-- all of them
pub whole_taken : (e0 e : Parts) (d all m mo : ℕ) (input out : List ℤ) → d ≡ all → length input ≡ all * m → length out ≡ all * mo → HasRendered e0 (take (d * m) input) (take (d * mo) out) e
    → HasRendered e0 input out e
whole_taken e0 e d all m mo input out over comes goes rendered =
    let a : take (d * m) input ≡ input = ap (λ k. take (k * m) input) over ∙ take_all (all * m) input (omega (arith, comes)) in
    let b : take (d * mo) out ≡ out = ap (λ k. take (k * mo) out) over ∙ take_all (all * mo) out (omega (arith, goes)) in
    subst (λ xs. HasRendered e0 xs out e) a (subst (λ ys. HasRendered e0 (take (d * m) input) ys e) b rendered)
