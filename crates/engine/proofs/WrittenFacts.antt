-- Frames written channel after channel.
use Rattle.std.proofs.Common.{◌≡◌, ◌≢◌, ℕ, suc, ◌+◌, ◌-◌, ◌*◌, ◌<◌, ◌≤◌, ℤ, pos, List, [], length, get_or, sym, ◌∙◌, ap, subst, arith, ⊎_elim}
use Rattle.std.specs.Prelude.{reverse, slice_set}
use Rattle.std.proofs.Math.ListN.{length-set}
use Rattle.std.proofs.lemmas.Bool.{cases_lt}
use Rattle.players.specs.declared.leaving.Leaving.{Leaving}
use Rattle.graph_model.proofs.BlockLaws.{row_within}
use Rattle.std.proofs.lemmas.List.{get_or-reverse, get_or-set_other, get_or-set_same}
use Rattle.engine.specs.Outputs.{HasWrittenRow}

-- the sample that many back is the one there from the newest on
pub back_is : (line : List ℤ) (back : ℕ) → 1 ≤ back → back ≤ length line → get_or line (length line - back) (pos 0) ≡ get_or (reverse line) (back - 1) (pos 0)
back_is line back some held =
    let place : length line - back ≡ length line - 1 - (back - 1) = omega arith in
    ap (λ k. get_or line k (pos 0)) place ∙ sym (get_or-reverse line (back - 1) (pos 0) (omega arith))

-- no two channels of no two frames have one place
apart : (j k c d channels : ℕ) → c < channels → d < channels → j * channels + d ≡ k * channels + c → (j ≡ k) × (d ≡ c)
apart j k c d channels lc ld e =
    ⊎_elim
    (λ (less : j < k). let b = row_within j k channels less in absurd (omega (arith, e)))
    (λ (le : k ≤ j). ⊎_elim (λ (less : k < j). let b = row_within k j channels less in absurd (omega (arith, e)))
    (λ (same : j ≤ k). let z : j ≡ k = omega arith in (z, let m = ap (λ t. t * channels) z in omega (arith, e, m))) (cases_lt k j))
    (cases_lt j k)

pub record WritingRow (line : List ℤ) (n c channels : ℕ) (output : List ℤ) (k : ℕ) (output' : List ℤ) : Type 0 where
  pub len : length output' ≡ length output
  pub samples : (j : ℕ) → j < k → get_or output' (j * channels + c) (pos 0) ≡ get_or (reverse line) (n - 1 - j) (pos 0)
  pub rest : (j d : ℕ) → d < channels → d ≢ c → get_or output' (j * channels + d) (pos 0) ≡ get_or output (j * channels + d) (pos 0)

pub row_more : (line : List ℤ) (n c channels : ℕ) (output : List ℤ) (k : ℕ) (output' : List ℤ) → WritingRow line n c channels output k output' → c < channels → k < n
    → n ≤ length line → n * channels ≤ length output → WritingRow line n c channels output (suc k) (slice_set output' (k * channels + c) (get_or line (length line - (n - k)) (pos 0)))
row_more line n c channels output k output' w lc lk held room = record {
  len = length-set output' (k * channels + c) (get_or line (length line - (n - k)) (pos 0)) ∙ w.len;
  samples = λ j lj.
      let x = get_or line (length line - (n - k)) (pos 0) in
      ⊎_elim
      (λ (less : j < k). get_or-set_other output' (k * channels + c) (j * channels + c) x (pos 0) (λ e. let s = (apart j k c c channels lc lc e).0 in omega arith) ∙ w.samples j less)
      (λ (le : k ≤ j). let same : j ≡ k = omega arith in
      let b = row_within k n channels lk in
      let place : n - k - 1 ≡ n - 1 - k = omega arith in
      subst (λ z. get_or (slice_set output' (k * channels + c) x) (z * channels + c) (pos 0) ≡ get_or (reverse line) (n - 1 - z) (pos 0)) (sym same)
      (get_or-set_same output' (k * channels + c) x (pos 0) (omega (arith, w.len)) ∙ back_is line (n - k) (omega arith) (omega arith) ∙ ap (λ i. get_or (reverse line) i (pos 0)) place))
      (cases_lt j k);
  rest = λ j d ld other.
      get_or-set_other output' (k * channels + c) (j * channels + d) (get_or line (length line - (n - k)) (pos 0)) (pos 0) (λ e. other (apart j k c d channels lc ld e).1) ∙ w.rest j d ld other;
}

pub record WritingRows (e : Leaving) (n channels : ℕ) (output : List ℤ) (c : ℕ) (output' : List ℤ) : Type 0 where
  pub len : length output' ≡ length output
  pub samples : (j d : ℕ) → j < n → d < c → get_or output' (j * channels + d) (pos 0) ≡ get_or (reverse (get_or e.lines.items d [])) (n - 1 - j) (pos 0)

pub rows_more : (e : Leaving) (n channels : ℕ) (output : List ℤ) (c : ℕ) (output' output'' : List ℤ) → WritingRows e n channels output c output' → length output'' ≡ length output' → c < channels
    → HasWrittenRow (get_or e.lines.items c []) n c channels output' output'' → WritingRows e n channels output (suc c) output''
rows_more e n channels output c output' output'' w len lc row = record {
  len = len ∙ w.len;
  samples = λ j d lj ld.
      ⊎_elim
      (λ (less : d < c). row.rest j d (omega arith) (λ z. absurd (omega arith)) ∙ w.samples j d lj less)
      (λ (le : c ≤ d). let same : d ≡ c = omega arith in
      subst (λ z. get_or output'' (j * channels + z) (pos 0) ≡ get_or (reverse (get_or e.lines.items z [])) (n - 1 - j) (pos 0)) (sym same) (row.samples j lj))
      (cases_lt d c);
}
