-- What goes out of the nodes of an evaluation and what comes into them: how long, how wide and how large.
use Rattle.std.proofs.Common.{◌≡◌, ℕ, ◌^◌, ◌<◌, ◌≤◌, length, get_or, unsigned_abs}
use Rattle.graph_model.specs.Histories.{sample, interleaved}
use Rattle.graph_model.specs.Graphs.{in_channels, outs_at}
use Rattle.graph_model.specs.Answers.{given_by, incoming, outgoing}
use Rattle.graph_model.specs.Bounds.{bounds, IsWithin}
use Rattle.graph_model.specs.Kernels.{IsBoundOf}
use Rattle.graph_model.specs.Named.{uid_at}
use Rattle.graph_model.proofs.BlockLaws.{length-frames_of, frames_are_interleaved}
use Rattle.graph_model.proofs.InterleavingLaws.{AreWide, wide-frames_of}
use Rattle.graph_model.proofs.NameFacts.{any_node}
use Rattle.graph_model.proofs.NodeFacts.{input_some}
use Rattle.graph_model.proofs.StreamSizeLaws.{frames_small}
use Rattle.graph_model.proofs.StreamSizeLaws as sizes
use Rattle.renderer.specs.Evaluations.{IsEvaluation, input_of, positions_of}
use Rattle.renderer.specs.declared.evaluation.Evaluation.{Evaluation}

module _ (e : Evaluation) (s : IsEvaluation e) where
  -- ---- the input
  pub long_input : length (input_of e) ≡ e.frames
  long_input = length-frames_of (in_channels e.graph.now) e.frames e.input.now (input_some e.graph.now s.sound) s.whole

  wide_input : AreWide (in_channels e.graph.now) (input_of e)
  wide_input = wide-frames_of (in_channels e.graph.now) e.frames e.input.now (input_some e.graph.now s.sound) s.whole

  pub input_interleaved : interleaved (input_of e) ≡ e.input.now
  input_interleaved = frames_are_interleaved (in_channels e.graph.now) e.frames e.input.now (input_some e.graph.now s.sound) s.whole

  input_small : (c k : ℕ) → unsigned_abs (sample (input_of e) c k) ≤ 2 ^ 31
  input_small = frames_small (in_channels e.graph.now) e.frames e.input.now (input_some e.graph.now s.sound) s.whole (2 ^ 31) s.small

  -- no sample that goes out, of any name, is larger than 2 ^ 46
  pub outgoing_small : (v c k : ℕ) → unsigned_abs (sample (outgoing e.graph.now (positions_of e) (input_of e) v) c k) ≤ 2 ^ 46
  outgoing_small = sizes.outgoing_small e.graph.now s.sound (positions_of e) (input_of e) e.frames long_input wide_input input_small

  -- ---- by index
  module _ (i : ℕ) (inside : i < length e.graph.now.nodes) where
    pub incoming_within : IsWithin (bounds e.graph.now (uid_at e.graph.now i)).ins (incoming e.graph.now (positions_of e) (input_of e) (uid_at e.graph.now i))
    incoming_within = sizes.incoming_within e.graph.now s.sound (positions_of e) (input_of e) e.frames long_input wide_input input_small i inside

    pub bound_is : IsBoundOf (get_or e.graph.now.nodes i any_node).kind (bounds e.graph.now (uid_at e.graph.now i))
    bound_is = sizes.bound_is e.graph.now s.sound i inside

    pub outgoing_given : outgoing e.graph.now (positions_of e) (input_of e) (uid_at e.graph.now i)
        ≡ given_by (get_or e.graph.now.nodes i any_node).kind (input_of e) (incoming e.graph.now (positions_of e) (input_of e) (uid_at e.graph.now i))
    outgoing_given = sizes.outgoing_given e.graph.now s.sound (positions_of e) (input_of e) e.frames long_input wide_input input_small i inside

    pub wide_outgoing : AreWide (outs_at e.graph.now (uid_at e.graph.now i)) (outgoing e.graph.now (positions_of e) (input_of e) (uid_at e.graph.now i))
    wide_outgoing = sizes.wide_outgoing e.graph.now s.sound (positions_of e) (input_of e) e.frames long_input wide_input input_small i inside

    pub long_outgoing : length (outgoing e.graph.now (positions_of e) (input_of e) (uid_at e.graph.now i)) ≡ e.frames
    long_outgoing = sizes.long_outgoing e.graph.now s.sound (positions_of e) (input_of e) e.frames long_input wide_input input_small i inside
