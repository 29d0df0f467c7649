-- A new job stands for no frames.
use Rattle.std.proofs.Common.{◌≡◌, ℕ, zero, suc, ◌-◌, ◌≤◌, min, [], ◌∷◌, length, take, replicate, pos, refl, sym, ap, ◌∙◌, subst, arith}
use Rattle.graph_model.specs.Histories.{History, channel, window, shifted, silence}
use Rattle.graph_model.specs.Graphs.{ins_at, outs_at, connections_into}
use Rattle.graph_model.specs.Paths.{reach}
use Rattle.graph_model.specs.Answers.{delay, incoming, outgoing}
use Rattle.graph_model.specs.Kept.{StandsFor}
use Rattle.graph_model.specs.declared.graph.Connection.{Connection}
use Rattle.graph_model.specs.declared.graph.Graph.{Graph}
use Rattle.graph_model.proofs.AnswerLaws.{length-out}
use Rattle.graph_model.proofs.HistoryLaws.{all_of}
use Rattle.graph_model.proofs.StreamTimeLaws.{length-incoming}
use Rattle.engine_model.specs.Engines.{came_in, gone_into}
use Rattle.engine_model.specs.Laws.{NewStands}
use Rattle.engine_model.proofs.StateTimeLaws.{map_all}

-- nothing shifted is nothing
shifted_nothing : (k m : ℕ) → shifted k m [] ≡ []
shifted_nothing zero m = let e : min 0 0 ≡ 0 = omega arith in ap (λ k. silence k m) e
shifted_nothing (suc k) m = let e : min (suc k) 0 ≡ 0 = omega arith in ap (λ k. silence k m) e

no_frames : (h : History) → length h ≤ 0 → h ≡ []
no_frames [] e = refl
no_frames (f ∷ h) e = absurd (omega (arith, e))

take_whole : (d : ℕ) → take d (replicate d (pos 0)) ≡ replicate d (pos 0)
take_whole zero = refl
take_whole (suc d) = ap (λ xs. pos 0 ∷ xs) (take_whole d)

-- what is in a line of d samples at the start
empty_line : (g : Graph) (p : ℕ → ℕ) (c : Connection) → window (delay g p c) (gone_into g p [] c) ≡ replicate (delay g p c) (pos 0)
empty_line g p c =
    let none : outgoing g (reach g) [] c.src.0 ≡ [] = no_frames (outgoing g (reach g) [] c.src.0) (length-out g (reach g) [] (length g.nodes) c.src.0) in
    ap (λ h. window (delay g p c) (channel c.src_channel (shifted (p c.src.0 - reach g c.src.0) (outs_at g c.src.0) h))) none
    ∙ ap (λ h. window (delay g p c) (channel c.src_channel h)) (shifted_nothing (p c.src.0 - reach g c.src.0) (outs_at g c.src.0))
    ∙ take_whole (delay g p c)

pub new_stand : NewStands
new_stand g p j k lines = record {
  kernel = λ n named i o.
      let none : incoming g (reach g) [] j.node ≡ [] = no_frames (incoming g (reach g) [] j.node) (omega (arith, length-incoming g (reach g) [] j.node)) in
      let e : came_in g p [] j.node ≡ [] = ap (λ h. shifted (p j.node - reach g j.node) (ins_at g j.node) h) none ∙ shifted_nothing (p j.node - reach g j.node) (ins_at g j.node) in
      subst (λ h. StandsFor n.kind j.kernel h) (sym e) (k n named i o);
  lines = lines ∙ sym (map_all _ _ (connections_into g j.node) (all_of _ (connections_into g j.node) (empty_line g p)));
}
