-- A line with the oldest sample first, and the same with the newest first.
use Rattle.std.proofs.Common.{◌≡◌, ℕ, ◌+◌, ◌<◌, ◌≤◌, zero, suc, List, [], ◌∷◌, ◌++◌, length, take, drop, reverse, get_or, ℤ, pos, refl, sym, ap, ◌∙◌, arith, append_assoc}
use Rattle.std.proofs.lemmas.List.{take_at, take-append-drop, take-take, length-append, length-reverse, length-take-le, length-drop, take_all, reverse-append, get_or-take, get_or_append_left, get_or-reverse}
use Rattle.std.proofs.Math.Seq.{take-suc}
use Rattle.delay_lines.specs.Lines.{kept, passed}
use Rattle.delay_lines.specs.NewestFirst.{come, held}
use Rattle.delay_lines.specs.Laws.{ViewsAgree}

-- the first n samples of a stream, the newest first
abbrev pub latest : (ℕ → ℤ) → ℕ → List ℤ
latest stream zero = []
latest stream (suc n) = stream n ∷ latest stream n

-- a line holds the newest of what it held and what came in
pub held_is : (line : List ℤ) (stream : ℕ → ℤ) (n : ℕ) → held line stream n ≡ take (length line) (latest stream n ++ line)
held_is line stream zero = sym (take_all (length line) line (omega arith))
held_is line stream (suc n) =
    let before : held line stream n ≡ take (length line) (latest stream n ++ line) = held_is line stream n in
    let size : length (held line stream n) ≡ length line
    = ap length before ∙ length-take-le (length line) (latest stream n ++ line) (omega (arith, length-append (latest stream n) line)) in
    (λ i. take (size i) (stream n ∷ before i)) ∙ cut (length line) (stream n) (latest stream n ++ line)
  where
    cut : (m : ℕ) (x : ℤ) (xs : List ℤ) → take m (x ∷ take m xs) ≡ take m (x ∷ xs)
    cut zero x xs = refl
    cut (suc m) x xs = ap (λ ys. x ∷ ys) (take-take m (suc m) xs (omega arith))

pub length-held : (line : List ℤ) (stream : ℕ → ℤ) (n : ℕ) → length (held line stream n) ≡ length line
length-held line stream n =
    ap length (held_is line stream n)
    ∙ length-take-le (length line) (latest stream n ++ line) (omega (arith, length-append (latest stream n) line))

module _ (samples : List ℤ) (stream : ℕ → ℤ) (same : (k : ℕ) → k < length samples → get_or samples k (pos 0) ≡ stream k) where
  latest_is : (n : ℕ) → n ≤ length samples → latest stream n ≡ reverse (take n samples)
  latest_is zero le = refl
  latest_is (suc n) le =
      let more : take (suc n) samples ≡ take n samples ++ get_or samples n (pos 0) ∷ [] = take-suc samples n (pos 0) (omega (arith, le)) in
      (λ i. sym (same n (omega (arith, le))) i ∷ latest_is n (omega (arith, le)) i)
      ∙ sym (ap reverse more ∙ reverse-append (take n samples) (get_or samples n (pos 0) ∷ []))

  -- what went in after the line, newest first
  whole : (line : List ℤ) (n : ℕ) → n ≤ length samples → latest stream n ++ reverse line ≡ reverse (line ++ take n samples)
  whole line n le = ap (λ xs. xs ++ reverse line) (latest_is n le) ∙ sym (reverse-append line (take n samples))

reverse-drop : (n : ℕ) (xs : List ℤ) → reverse (drop n xs) ≡ take (length (drop n xs)) (reverse xs)
reverse-drop n xs =
    let parts : reverse xs ≡ reverse (drop n xs) ++ reverse (take n xs)
    = ap reverse (sym (take-append-drop n xs)) ∙ reverse-append (take n xs) (drop n xs) in
    sym (ap (take (length (drop n xs))) parts ∙ take_at (reverse (drop n xs)) (reverse (take n xs)) (length (drop n xs)) (length-reverse (drop n xs)))

pub views_agree : ViewsAgree
views_agree line samples stream same =
    (holds, gives)
  where
    all : take (length samples) samples ≡ samples
    all = take_all (length samples) samples (omega arith)

    holds : reverse (kept line samples) ≡ held (reverse line) stream (length samples)
    holds =
        let size : length (kept line samples) ≡ length (reverse line)
        = omega (arith, length-drop (length samples) (line ++ samples), length-append line samples, length-reverse line) in
        reverse-drop (length samples) (line ++ samples)
        ∙ (λ i. take (size i) (sym (whole samples stream same line (length samples) (omega arith) ∙ ap (λ xs. reverse (line ++ xs)) all) i))
        ∙ sym (held_is (reverse line) stream (length samples))

    gives : (k : ℕ) → k < length samples → get_or (passed line samples) k (pos 0) ≡ come (held (reverse line) stream k) (stream k)
    gives k here =
        let m : ℕ = length (reverse line) in
        let first : List ℤ = line ++ take (suc k) samples in
        let size : length first ≡ m + suc k
        = omega (arith, length-append line (take (suc k) samples), length-take-le (suc k) samples here, length-reverse line) in
        let out : get_or (passed line samples) k (pos 0) ≡ get_or first k (pos 0)
        = get_or-take (length samples) (line ++ samples) k (pos 0) here
        ∙ ap (λ xs. get_or xs k (pos 0)) (ap (λ xs. line ++ xs) (sym (take-append-drop (suc k) samples)) ∙ sym (append_assoc line (take (suc k) samples) (drop (suc k) samples)))
        ∙ get_or_append_left first (drop (suc k) samples) (pos 0) k (omega (arith, size)) in
        let back : get_or (reverse first) m (pos 0) ≡ get_or first k (pos 0)
        = get_or-reverse first m (pos 0) (omega (arith, size)) ∙ ap (λ n. get_or first n (pos 0)) (omega (arith, size)) in
        let long : m ≤ length (latest stream k ++ reverse line) = omega (arith, length-append (latest stream k) (reverse line)) in
        let come_is : come (held (reverse line) stream k) (stream k) ≡ get_or (stream k ∷ (latest stream k ++ reverse line)) m (pos 0)
        = (λ i. get_or (stream k ∷ held_is (reverse line) stream k i) (length-held (reverse line) stream k i) (pos 0))
        ∙ get_or-take (suc m) (stream k ∷ (latest stream k ++ reverse line)) m (pos 0) (omega arith) in
        out ∙ sym (come_is ∙ ap (λ xs. get_or xs m (pos 0)) (whole samples stream same line (suc k) here) ∙ back)
