use Rattle.std.proofs.Common.{rules, ◌≡◌, ℕ, ◌<◌, ◌≤◌, ◌^◌, length, ◌+◌, Bool, true, false, slice_index_or, arith, refl, sym, ◌∙◌, subst}
use Rattle.std.specs.List.{All}
use Rattle.shortest_paths.specs.declared.edges.Edge.{Edge}
use Rattle.shortest_paths.specs.Walks.{Joins}
use Rattle.shortest_paths.specs.Search.{IsSettled, IsSearched, room}
use Rattle.shortest_paths.proofs.EndFacts.{found_within}
use Rattle.shortest_paths.proofs.RoundFacts.{improved_room, improved_searched, settled_more}
use Rattle.shortest_paths.proofs.search.relax_all.Goals as goal
use Rattle.shortest_paths.proofs.search.relax_all.Goals.{then-relax, else-relax}

pub relax-requires-clause-bounded : goal.relax-requires-clause-bounded
relax-requires-clause-bounded c v b l f =
    let s = c.requires.searched in
    found_within c.args.edges.now (length c.loop-index.best) s.0 c.loop-index.best v b
    (search rules) (search rules) c.requires.costs (c.loop-index.invariant.kept s.0 s.1) l f

pub loop-index-preserved : goal.loop-index-preserved
loop-index-preserved c =
    let few : length c.loop-index.best ≤ 2 ^ 14 = search rules in
    let joins : All (Joins (length c.loop-index.best)) c.args.edges.now = search rules in
    let s = c.requires.searched in
    let inv = c.loop-index.invariant in
    let old_s = inv.kept s.0 s.1 in
    elim c.if-relax.branch [
      | then-relax w ↦
          let imp = c.relax.ensures.improved w.if-relax.true in
          let less = improved_room c.args.edges.now c.loop-index.best c.relax.new.best c.loop-index.index _ few joins c.requires.costs c.requires.cycles c.loop-index-test.true imp s.0 old_s in
          let changed = w.changed-is in
          record {
            kept = λ from t. improved_searched c.args.edges.now c.loop-index.best c.relax.new.best c.loop-index.index _ few joins c.requires.costs c.requires.cycles c.loop-index-test.true imp from (inv.kept from t);
            falls = λ _. from_room c.loop-index.changed refl less;
            same = λ no. absurd (let q = sym changed ∙ no in cc);
            settled = λ no. absurd (let q = sym changed ∙ no in cc);
          }
      | else-relax w ↦
          let set = c.relax.ensures.settled w.if-relax.false in
          let changed = w.changed-is in
          record {
            kept = λ from t. subst (λ x. IsSearched c.args.edges.now from x) (sym set.0) (inv.kept from t);
            falls = λ yes'. subst (λ x. room x < room c.args.best.now) (sym set.0) (inv.falls (sym changed ∙ yes'));
            same = λ no. set.0 ∙ inv.same (sym changed ∙ no);
            settled = λ no. subst (λ x. (j : ℕ) (d : Edge) → j < c.loop-index.index + 1 → IsSettled x (slice_index_or c.args.edges.now j d)) (sym set.0)
                (settled_more c.loop-index.best c.args.edges.now c.loop-index.index _ c.loop-index-test.true (inv.settled (sym changed ∙ no)) set.1);
          }
    ]
  where
    from_room : (b : Bool) → c.loop-index.changed ≡ b → room c.relax.new.best < room c.loop-index.best → room c.relax.new.best < room c.args.best.now
    from_room true e less = let more = c.loop-index.invariant.falls e in omega (arith, more, less)
    from_room false e less = subst (λ x. room c.relax.new.best < room x) (c.loop-index.invariant.same e) less
