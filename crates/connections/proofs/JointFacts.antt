-- One connection more.
use Rattle.std.proofs.Common.{◌≡◌, ℕ, ◌+◌, ◌<◌, List, [], length, take, get_or, sym, subst, arith, Some, inl, inr}
use Rattle.std.specs.Prelude.{slice_get}
use Rattle.std.specs.List.{Contains}
use Rattle.std.proofs.lemmas.Bool.{cases_eq}
use Rattle.std.proofs.lemmas.List.{get_or_default}
use Rattle.std.proofs.lemmas.Option.{slice_get-get_or}
use Rattle.graph_model.specs.Checks.{IsConnection, AreConnections}
use Rattle.graph_model.specs.declared.graph.Connection.{Connection}
use Rattle.graph_model.specs.declared.graph.Graph.{Graph}

module _ (g : Graph) (at : ℕ) (d : Connection) (lt : at < length g.connections) where
  -- it is good by itself, and new
  here : (e : Connection) → ((c : Connection) → slice_get g.connections at ≡ Some c → IsConnection g [] c) → ¬ (Contains (take at g.connections) (get_or g.connections at d))
      → IsConnection g (take at g.connections) (get_or g.connections at e)
  here e alone new =
      let a = alone (get_or g.connections at e) (slice_get-get_or g.connections at e lt) in
      record {
        source_exists = a.source_exists;
        destination_exists = a.destination_exists;
        nodes_differ = a.nodes_differ;
        source_channel = a.source_channel;
        destination_channel = a.destination_channel;
        new = subst (λ (c : Connection). ¬ (Contains (take at g.connections) c)) (get_or_default g.connections at d e lt) new;
      }

  one_more : AreConnections g at → ((c : Connection) → slice_get g.connections at ≡ Some c → IsConnection g [] c) → ¬ (Contains (take at g.connections) (get_or g.connections at d))
      → AreConnections g (at + 1)
  one_more before alone new k e less =
      elim (cases_eq k at) [
        | inl same ↦ subst (λ (j : ℕ). IsConnection g (take j g.connections) (get_or g.connections j e)) (sym same) (here e alone new)
        | inr other ↦ before k e (omega arith)
      ]

pub connection_passes : (g : Graph) (at : ℕ) (d : Connection) (cs : List Connection) → cs ≡ g.connections → at < length g.connections → AreConnections g at
    → ((c : Connection) → slice_get g.connections at ≡ Some c → IsConnection g [] c) → ¬ (Contains (take at cs) (get_or cs at d)) → AreConnections g (at + 1)
connection_passes g at d cs same lt before alone new =
    one_more g at d lt before alone (subst (λ (xs : List Connection). ¬ (Contains (take at xs) (get_or xs at d))) same new)

-- what the code reads where there is none
abbrev pub no_connection : Connection
no_connection = record { src = record { 0 = 0 }; src_channel = 0; dst = record { 0 = 0 }; dst_channel = 0 }
