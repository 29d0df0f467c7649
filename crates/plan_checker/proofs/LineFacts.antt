-- The lines of the live connections, one more at a time.
use Rattle.std.proofs.Common.{◌≡◌, ℕ, suc, ◌+◌, ◌<◌, List, [], ◌∷◌, ◌++◌, length, get_or, drop, sym, ap, ◌∙◌, subst, cond, true, false, arith, append_assoc, ◌==◌, ◌&&◌}
use Rattle.std.proofs.Math.Seq.{drop-cons}
use Rattle.std.proofs.lemmas.Bool.Decides.{nat_tests}
use Rattle.graph_model.specs.Answers.{delay}
use Rattle.graph_model.specs.Paths.{is_live}
use Rattle.graph_model.specs.declared.graph.Connection.{Connection}
use Rattle.graph_model.specs.declared.graph.Graph.{Graph}
use Rattle.graph_model.proofs.PathLaws.{and_both, same_name}
use Rattle.plan_model.specs.Alignments.{lines_from}
use Rattle.plan_model.specs.Places.{same_line}
use Rattle.plan_model.specs.declared.alignment.LineAt.{LineAt}

module _ (g : Graph) (p : ℕ → ℕ) (k : ℕ) (cs : List Connection) (d : Connection) (lt : k < length cs) where
  abbrev line : LineAt
  line = record { connection = k; delay = delay g p (get_or cs k d) }

  from_here : lines_from g p k (drop k cs)
      ≡ cond (is_live g (get_or cs k d).dst.0) (line ∷ lines_from g p (k + 1) (drop (k + 1) cs)) (lines_from g p (k + 1) (drop (k + 1) cs))
  from_here =
      let next : suc k ≡ k + 1 = omega arith in
      subst (λ n. lines_from g p k (drop k cs) ≡ cond (is_live g (get_or cs k d).dst.0) (line ∷ lines_from g p n (drop n cs)) (lines_from g p n (drop n cs))) next
      (ap (lines_from g p k) (drop-cons cs k d lt))

  pub line_comes : (ls : List LineAt) → is_live g (get_or cs k d).dst.0 ≡ true
      → (ls ++ line ∷ []) ++ lines_from g p (k + 1) (drop (k + 1) cs) ≡ ls ++ lines_from g p k (drop k cs)
  line_comes ls live =
      append_assoc ls (line ∷ []) (lines_from g p (k + 1) (drop (k + 1) cs))
      ∙ sym (ap (λ xs. ls ++ xs) (from_here ∙ ap (λ b. cond b (line ∷ lines_from g p (k + 1) (drop (k + 1) cs)) (lines_from g p (k + 1) (drop (k + 1) cs))) live))

  pub no_line : (ls : List LineAt) → is_live g (get_or cs k d).dst.0 ≡ false → ls ++ lines_from g p (k + 1) (drop (k + 1) cs) ≡ ls ++ lines_from g p k (drop k cs)
  no_line ls idle = sym (ap (λ xs. ls ++ xs) (from_here ∙ ap (λ b. cond b (line ∷ lines_from g p (k + 1) (drop (k + 1) cs)) (lines_from g p (k + 1) (drop (k + 1) cs))) idle))

-- ---- lines that are the same
pub line_is : (x y : LineAt) → same_line x y ≡ true → x ≡ y
line_is x y t = let e = both x.connection y.connection x.delay y.delay t in λ i. record { connection = e.0 i; delay = e.1 i }
  where
    both : (a b m n : ℕ) → ((a == b) && (m == n)) ≡ true → (a ≡ b) × (m ≡ n)
    both a b m n t = grind (arith, nat_tests)

pub line_itself : (x : LineAt) → same_line x x ≡ true
line_itself x = and_both _ _ (same_name x.connection) (same_name x.delay)
