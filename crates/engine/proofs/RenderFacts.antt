-- From the parts of an engine to what contracts see of it.
use Rattle.std.proofs.Common.{◌≡◌, ℕ, ◌+◌, ◌*◌, ◌/◌, ◌^◌, ◌<◌, ◌≤◌, ℤ, List, ◌++◌, length, take, sym, ◌∙◌, ap, subst, arith}
use Rattle.std.proofs.Math.Seq.{take-append_seam}
use Rattle.graph_model.specs.Histories.{History, frames_of}
use Rattle.graph_model.proofs.BlockLaws.{length-frames_of, whole}
use Rattle.graph_model.specs.declared.graph.Graph.{Graph}
use Rattle.plan_model.specs.declared.plan.Plan.{Plan}
use Rattle.pool_waves.specs.declared.job.Job.{Job}
use Rattle.engine_model.specs.Cuttings.{HasRendered}
use Rattle.engine_model.specs.Engines.{Parts, Stands, IsBlock, Answers}
use Rattle.engine_model.specs.Engines as model
use Rattle.engine_model.specs.Events.{AnyOrder}
use Rattle.players.specs.declared.playing.Player.{Player}
use Rattle.engine.specs.declared.shape.Shape.{Shape}
use Rattle.engine.specs.Views.{parts_of}
use Rattle.engine.specs.Working.{IsWorking, MayRender, IsRendered}

-- what is written back to a list of as many items is what was written
pub take_left : {X : Type 0} (a b : List X) (n : ℕ) → length a ≡ n → take n (a ++ b) ≡ a
take_left a b n e = ap (λ k. take k (a ++ b)) (sym e) ∙ take-append_seam a b

module _ (graph : Graph) (plan : Plan) (block frames : ℕ) (sh : Shape) (jobs : List (Job Player)) (pool : List (List ℤ)) (w : IsWorking graph plan block frames sh jobs pool)
    (e : Parts) (view : parts_of graph plan block frames jobs pool ≡ e) (input output : List ℤ) (b : (n : ℕ) × IsBlock e n input output)
    (js : List (Job Player)) (ps : List (List ℤ)) (ej : js ≡ jobs) (ep : ps ≡ pool) where
  ins_e : sh.ins ≡ model.ins e
  ins_e = w.ins_is ∙ ap model.ins view

  li : length input ≡ b.0 * sh.ins
  li = b.1.comes ∙ ap (λ z. b.0 * z) (sym ins_e)

  n_is : length input / sh.ins ≡ b.0
  n_is = whole sh.ins b.0 (length input) w.some_in li

  long : length (frames_of (model.ins e) input) ≡ length input / sh.ins
  long = ap (λ i. length (frames_of i input)) (sym ins_e) ∙ length-frames_of sh.ins b.0 input w.some_in li ∙ sym n_is

  most : length input / sh.ins ≤ block
  most = let m = b.1.most in let v = ap (λ (z : Parts). z.block) view in let n = n_is in omega arith

  pub may_render : e.frames + length (frames_of (model.ins e) input) < 2 ^ 63 → MayRender sh frames js ps input output
  may_render count =
      subst (λ z. MayRender sh frames js z input output) (sym ep)
      (subst (λ z. MayRender sh frames z pool input output) (sym ej)
      (record {
        graph = graph;
        plan = plan;
        block = block;
        working = w;
        is_block = subst (λ n. IsBlock (parts_of graph plan block frames jobs pool) n input output) (sym n_is) (subst (λ (z : Parts). IsBlock z b.0 input output) (sym view) b.1);
        count =
            let l = long in
            let f = ap (λ (z : Parts). z.frames) view in
            omega (arith, count);
      }))

  pub now_counts : (k : ℕ) → k ≡ length input / sh.ins → frames + k ≡ e.frames + length (frames_of (model.ins e) input)
  now_counts k k_is = let l = long in let f = ap (λ (z : Parts). z.frames) view in omega (arith, k_is)

  module _ (jobs' : List (Job Player)) (pool' : List (List ℤ)) (output' : List ℤ) (r : IsRendered sh frames js ps input jobs' pool' output')
      (jv : List (Job Player)) (pv : List (List ℤ)) (jv_is : jv ≡ jobs') (pv_is : pv ≡ pool') (k : ℕ) (k_is : k ≡ length input / sh.ins) where
    r0 : IsRendered sh frames jobs pool input jv pv output'
    r0 =
        subst (λ z. IsRendered sh frames jobs pool input jv z output') (sym pv_is)
        (subst (λ z. IsRendered sh frames jobs pool input z pool' output') (sym jv_is)
        (subst (λ z. IsRendered sh frames jobs z input jobs' pool' output') ep
        (subst (λ z. IsRendered sh frames z ps input jobs' pool' output') ej r)))

    pub now_works : IsWorking graph plan block (frames + k) sh jv pv
    now_works = subst (λ n. IsWorking graph plan block (frames + n) sh jv pv) (sym k_is) (r0.working graph plan block w most)

    stood : (h : History) → Stands e h → Stands (parts_of graph plan block frames jobs pool) h
    stood h s = subst (λ (z : Parts). Stands z h) (sym view) s

    pub now_rendered : HasRendered e input output' (parts_of graph plan block (frames + k) jv pv)
    now_rendered = record {
      same = record {
        graph = ap (λ (z : Parts). z.graph) view;
        plan = ap (λ (z : Parts). z.plan) view;
        block = ap (λ (z : Parts). z.block) view;
      };
      frames = (
        length input / sh.ins,
        b.1.comes ∙ ap (λ n. n * model.ins e) (sym n_is),
        r0.output_len ∙ ap (λ z. length input / sh.ins * z) (w.outs_is ∙ ap model.outs view),
      );
      stands = λ h s.
          subst (λ n. Stands (parts_of graph plan block (frames + n) jv pv) (frames_of (model.ins e) input ++ h)) (sym k_is)
          (subst (λ i. Stands (parts_of graph plan block (frames + length input / sh.ins) jv pv) (frames_of i input ++ h)) ins_e (r0.both graph plan block w most h (stood h s)).0);
      answers = λ h s. subst (λ (z : Parts). Answers z input output' h) view (r0.both graph plan block w most h (stood h s)).1;
    }

    pub now_orders : (h : History) → Stands e h → AnyOrder e (parts_of graph plan block (frames + k) jv pv) input output' h
    now_orders h s =
        subst (λ n. AnyOrder e (parts_of graph plan block (frames + n) jv pv) input output' h) (sym k_is)
        (subst (λ (z : Parts). AnyOrder z (parts_of graph plan block (frames + length input / sh.ins) jv pv) input output' h) view
        (r0.any graph plan block w most h (stood h s)))
