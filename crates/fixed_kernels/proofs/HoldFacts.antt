-- Blocks through a delay or an insert.
use Rattle.std.proofs.Common.{◌≡◌, ℕ, ◌+◌, ◌-◌, ◌*◌, ◌<◌, List, [], ◌∷◌, ◌++◌, length, map, drop, replicate, reverse, get_or, ℤ, pos, false, refl, sym, ap, ◌∙◌, subst, arith}
use Rattle.std.proofs.lemmas.List.{ext_get_or, get_or-map, get_or-replicate, get_or-reverse, length-map, length-replicate, length-reverse, reverse-reverse}
use Rattle.std.proofs.lemmas.List.FromFn.{get_or-map-range_with_len, length-map-range_with_len, fill_by_all}
use Rattle.graph_model.specs.Bounds.{IsWithin}
use Rattle.graph_model.specs.Filters.{delayed}
use Rattle.graph_model.specs.Histories.{History, before, channel, frame_in, on_each, window}
use Rattle.graph_model.specs.Kinds.{ins_of, outs_of, rule_of}
use Rattle.graph_model.specs.Kept.{kept, ins_kept, windows, Kept}
use Rattle.graph_model.specs.Graphs.{is_input}
use Rattle.graph_model.specs.LimiterLaws.{get_or-padded, length-padded}
use Rattle.graph_model.specs.StreamLaws.{get_or_zeros}
use Rattle.graph_model.specs.Ranges.{HasRange}
use Rattle.graph_model.specs.declared.kind.Kind.{Kind}
use Rattle.graph_model.specs.declared.kind.Kind.TheVariants.{Input, Output, Gain, Mixer, Fir, Biquad, Limiter, Delay, Insert}
use Rattle.graph_model.specs.declared.graph.Bound.{Bound}
use Rattle.graph_model.proofs.BlockLaws.{length-frame_in}
use Rattle.graph_model.specs.Blocks.{planar_frame, planar}
use Rattle.graph_model.specs.Kernels.{new_kernel, IsBoundOf}
use Rattle.graph_model.proofs.PlanarLaws.{channel-so_far, voices_out}
use Rattle.fixed_kernels.specs.Kernels.{Keeps, IsKernel, IsNextBlock}
use Rattle.fixed_kernels.specs.States.{kept_in, hold_state}
use Rattle.fixed_kernels.specs.Types.{IsHold}
use Rattle.fixed_kernels.proofs.BlockFacts.{blocks, block_kernel}
use Rattle.fixed_kernels.proofs.KernelFacts.{new_is_kernel}
use Rattle.fixed_kernels.proofs.RowFacts.{kept_all, leaves_at}

-- what holds of a delay holds of an insert
by_hold : (P : Kind → Type 0) → ((n d : ℕ) → P (Delay n d)) → ((n d : ℕ) → P (Insert n d)) → (kind : Kind) → IsHold kind → P kind
by_hold P delay insert (Delay n d) is = delay n d
by_hold P delay insert (Insert n d) is = insert n d
by_hold P delay insert (Input n) is = absurd is
by_hold P delay insert (Output n) is = absurd is
by_hold P delay insert (Gain n g) is = absurd is
by_hold P delay insert (Mixer m n gs) is = absurd is
by_hold P delay insert (Fir n taps q l) is = absurd is
by_hold P delay insert (Biquad n b0 b1 b2 a1 a2 q m) is = absurd is
by_hold P delay insert (Limiter n t l) is = absurd is

pub hold_rule : (kind : Kind) → IsHold kind → (h : History) → rule_of kind h ≡ on_each (ins_of kind) (delayed (ins_kept kind)) h
hold_rule kind is h = by_hold (λ k. rule_of k h ≡ on_each (ins_of k) (delayed (ins_kept k)) h) (λ n d. refl) (λ n d. refl) kind is

pub hold_kept : (kind : Kind) → IsHold kind → (h : History) → kept kind h ≡ kept_in (outs_of kind) (windows (ins_of kind) (ins_kept kind) h)
hold_kept kind is h = by_hold (λ k. kept k h ≡ kept_in (outs_of k) (windows (ins_of k) (ins_kept k) h)) (λ n d. refl) (λ n d. refl) kind is

pub hold_outs : (kind : Kind) → IsHold kind → outs_of kind ≡ ins_of kind
hold_outs kind is = by_hold (λ k. outs_of k ≡ ins_of k) (λ n d. refl) (λ n d. refl) kind is

hold_in : (kind : Kind) → IsHold kind → is_input kind ≡ false
hold_in kind is = by_hold (λ k. is_input k ≡ false) (λ n d. refl) (λ n d. refl) kind is

-- lines as what the kind keeps
module _ (m d : ℕ) (lines : List (List ℤ)) (h : History) where
  pub lines_are : length lines ≡ m → ((c : ℕ) → c < m → get_or lines c [] ≡ reverse (window d (channel c h))) → map reverse lines ≡ windows m d h
  lines_are count each =
      fill_by_all (λ c. window d (channel c h)) (map reverse lines) m [] (length-map lines reverse ∙ count)
      (λ c lc. get_or-map reverse lines c [] [] (omega (arith, count)) ∙ ap reverse (each c lc) ∙ reverse-reverse (window d (channel c h)))

  module _ (stood : map reverse lines ≡ windows m d h) where
    pub lines_count : length lines ≡ m
    lines_count = sym (length-map lines reverse) ∙ ap length stood ∙ length-map-range_with_len (λ c. window d (channel c h)) 0 m

    pub line_is : (c : ℕ) → c < m → get_or lines c [] ≡ reverse (window d (channel c h))
    line_is c lc =
        sym (reverse-reverse (get_or lines c []))
        ∙ ap reverse
        (sym (get_or-map reverse lines c [] [] (omega (arith, lines_count)))
        ∙ ap (λ (xs : List (List ℤ)). get_or xs c []) stood
        ∙ get_or-map-range_with_len (λ e. window d (channel e h)) 0 m c c [] lc (omega arith))

-- its lines hold what its kind keeps
hold_stood : (kind : Kind) (bound : Bound) (lines : List (List ℤ)) → IsHold kind → (h : History) → Keeps (hold_state kind bound lines) h
    → map reverse lines ≡ windows (ins_of kind) (ins_kept kind) h
hold_stood kind bound lines is h stands = ap (λ (k : Kept). k.ins) (stands ∙ hold_kept kind is h)

zeros_turned : (d : ℕ) → replicate d (pos 0) ≡ reverse (window d [])
zeros_turned d =
    let size : length (window d []) ≡ d = length-padded d (pos 0) [] in
    ext_get_or (pos 0) (replicate d (pos 0)) (reverse (window d []))
    (length-replicate d (pos 0) ∙ sym (length-reverse (window d []) ∙ size))
    (λ i lt.
    let at : i < length (window d []) = omega (arith, length-replicate d (pos 0), size) in
    get_or_zeros d i
    ∙ sym (get_or-reverse (window d []) i (pos 0) at ∙ get_or-padded d (pos 0) [] (length (window d []) - 1 - i) (omega (arith, size))))

-- a new one
module _ (kind : Kind) (bound : Bound) (lines : List (List ℤ)) (is : IsHold kind) (n d : ℕ)
    (zeros : lines ≡ replicate n (replicate d (pos 0))) (many : n ≡ ins_of kind) (long : d ≡ ins_kept kind) where
  pub hold_made : hold_state kind bound lines ≡ new_kernel kind bound
  hold_made =
      let stood : map reverse lines ≡ windows (ins_of kind) (ins_kept kind) [] =
      lines_are n d lines [] (ap length zeros ∙ length-replicate n (replicate d (pos 0)))
      (λ c lc. ap (λ (xs : List (List ℤ)). get_or xs c []) zeros ∙ get_or-replicate n c (replicate d (pos 0)) [] lc ∙ zeros_turned d)
      ∙ (λ i. windows (many i) (long i) []) in
      ap (λ (k : Kept). record { kind = kind; bound = bound; kept = k })
      (ap (λ (xs : List (List ℤ)). kept_in (outs_of kind) xs) stood ∙ sym (hold_kept kind is []))

  pub hold_new : HasRange kind → IsBoundOf kind bound → IsHold kind × IsKernel (hold_state kind bound lines)
  hold_new range follows = (is, subst IsKernel (sym hold_made) (new_is_kernel kind bound range follows))

module _ (kind : Kind) (bound : Bound) (lines : List (List ℤ)) (is : IsHold kind) (kernel : IsKernel (hold_state kind bound lines)) where
  pub hold_count : length lines ≡ ins_of kind
  hold_count = lines_count (ins_of kind) (ins_kept kind) lines kernel.history (hold_stood kind bound lines is kernel.history kernel.stands)

  module _ (n : ℕ) (ins : List ℤ) (count : length ins ≡ ins_of kind * n) (within : IsWithin bound.ins (planar (ins_of kind) n ins))
      (new : List (List ℤ)) (as_many : length new ≡ length lines)
      (fed : (c : ℕ) → c < length lines → get_or new c [] ≡ drop n (get_or lines c [] ++ frame_in n ins c)) where
    pub hold_stands : (h : History) → Keeps (hold_state kind bound lines) h → Keeps (hold_state kind bound new) (planar (ins_of kind) n ins ++ h)
    hold_stands h stands =
        let m : ℕ = ins_of kind in
        let d : ℕ = ins_kept kind in
        ap (λ (xs : List (List ℤ)). kept_in (outs_of kind) xs)
        (lines_are (ins_of kind) (ins_kept kind) new (planar (ins_of kind) n ins ++ h) (as_many ∙ hold_count)
        (λ c lc.
        fed c (omega (arith, hold_count))
        ∙ ap (λ zs. drop n (zs ++ frame_in n ins c)) (line_is (ins_of kind) (ins_kept kind) lines h (hold_stood kind bound lines is h stands) c lc)
        ∙ sym (kept_all (ins_kept kind) (channel c h) (frame_in n ins c) n (length-frame_in n (ins_of kind) ins c count lc))
        ∙ ap (λ xs. reverse (window (ins_kept kind) xs)) (sym (channel-so_far (ins_of kind) n ins h c lc n (omega arith)))))
        ∙ sym (hold_kept kind is (planar (ins_of kind) n ins ++ h))

    pub hold_kernel : IsKernel (hold_state kind bound new)
    hold_kernel =
        block_kernel (hold_state kind bound lines) kernel (hold_in kind is) n ins within (hold_state kind bound new) refl refl (hold_stands kernel.history kernel.stands)

    pub hold_blocks : (outs : List ℤ)
        → ((c t : ℕ) → c < length lines → t < n → get_or outs (c * n + t) (pos 0) ≡ get_or (get_or lines c [] ++ frame_in n ins c) t (pos 0))
        → IsNextBlock (hold_state kind bound lines) (hold_state kind bound new) n ins outs
    hold_blocks outs values =
        blocks (hold_state kind bound lines) kernel (hold_in kind is) n ins within (hold_state kind bound new) outs refl refl hold_stands
        (λ h stands t lt.
        ap (λ e. planar_frame e n outs t) (hold_outs kind is)
        ∙ voices_out (ins_of kind) n (delayed (ins_kept kind)) ins outs h t lt
        (λ c lc.
        values c t (omega (arith, hold_count)) lt
        ∙ ap (λ zs. get_or (zs ++ frame_in n ins c) t (pos 0)) (line_is (ins_of kind) (ins_kept kind) lines h (hold_stood kind bound lines is h stands) c lc)
        ∙ leaves_at (ins_kept kind) (channel c h) (frame_in n ins c) t (omega (arith, length-frame_in n (ins_of kind) ins c count lc)))
        ∙ sym (hold_rule kind is (planar_frame (ins_of kind) n ins t ∷ (before (planar_frame (ins_of kind) n ins) t ++ h))))
