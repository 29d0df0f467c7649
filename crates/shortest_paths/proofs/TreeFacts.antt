-- Last edges whose tails are all older than their heads form a tree.
use Rattle.std.proofs.Common.{◌≡◌, ◌≢◌, ℕ, zero, suc, ◌<◌, ◌≤◌, List, Option, Some, inl, inr, refl, ap, arith, slice_get}
use Rattle.std.proofs.lemmas.Bool.{cases_eq}
use Rattle.shortest_paths.specs.declared.edges.Edge.{Edge}
use Rattle.shortest_paths.specs.Walks.{ClimbsIn}
use Rattle.shortest_paths.proofs.PigeonholeFacts.{pigeonhole, Into, OneToOne}

-- the edge that `last` names at v, from an older point of the same kind
pub record Older (P : ℕ → Type 0) (edges : List Edge) (last : List (Option ℕ)) (stamp : ℕ → ℕ) (v : ℕ) : Type 0 where
  pub index : ℕ
  pub edge : Edge
  pub named : slice_get last v ≡ Some (Some index)
  pub at : slice_get edges index ≡ Some edge
  pub within : P edge.tail
  pub older : stamp edge.tail < stamp v

-- the climb from v in n steps, with its points, no two of which are equal
record Climb (points : ℕ) (edges : List Edge) (last : List (Option ℕ)) (stamp : ℕ → ℕ) (from v : ℕ) : Type 0 where
  steps : ℕ
  climbs : ClimbsIn edges last from steps v
  stop : ℕ → ℕ
  into : Into stop (suc steps) points
  old : (i : ℕ) → i < suc steps → stamp (stop i) ≤ stamp v
  apart : OneToOne stop (suc steps)

before : ℕ → (ℕ → ℕ) → ℕ → ℕ
before v f zero = v
before v f (suc i) = f i

climb : (points : ℕ) (P : ℕ → Type 0) (edges : List Edge) (last : List (Option ℕ)) (stamp : ℕ → ℕ) (from : ℕ) → ((v : ℕ) → P v → v < points) → ((v : ℕ) → P v → v ≢ from → Older P edges last stamp v) →
    (fuel v : ℕ) → stamp v < fuel → P v → Climb points edges last stamp from v
unfolding before
climb points P edges last stamp from below olds zero v l p = absurd (omega arith)
climb points P edges last stamp from below olds (suc fuel) v l p =
    elim (cases_eq v from) [
      | inl same ↦ record {
        steps = 0;
        climbs = same;
        stop = λ _. v;
        into = λ i q. below v p;
        old = λ i q. omega arith;
        apart = λ i j q r e. omega arith;
      }
      | inr ne ↦ let o = olds v p ne in let less = o.older in more o (climb points P edges last stamp from below olds fuel o.edge.tail (omega arith) o.within)
    ]
  where
    more : (o : Older P edges last stamp v) → Climb points edges last stamp from o.edge.tail → Climb points edges last stamp from v
    more o c = record {
      steps = suc c.steps;
      climbs = (o.index, o.edge, o.named, o.at, c.climbs);
      stop = before v c.stop;
      into = into;
      old = old;
      apart = apart;
    }
      where
        into : Into (before v c.stop) (suc (suc c.steps)) points
        into zero q = below v p
        into (suc i) q = c.into i (omega arith)

        old : (i : ℕ) → i < suc (suc c.steps) → stamp (before v c.stop i) ≤ stamp v
        old zero q = omega arith
        old (suc i) q = let less = o.older in let le = c.old i (omega arith) in omega arith

        apart : OneToOne (before v c.stop) (suc (suc c.steps))
        apart zero zero q r e = refl
        apart zero (suc j) q r e = let less = o.older in let le = c.old j (omega arith) in let same = ap stamp e in absurd (omega arith)
        apart (suc i) zero q r e = let less = o.older in let le = c.old i (omega arith) in let same = ap stamp e in absurd (omega arith)
        apart (suc i) (suc j) q r e = ap suc (c.apart i j (omega arith) (omega arith) e)

pub tree_from_older : (points : ℕ) (P : ℕ → Type 0) (edges : List Edge) (last : List (Option ℕ)) (stamp : ℕ → ℕ) (from : ℕ) → ((v : ℕ) → P v → v < points) → ((v : ℕ) → P v → v ≢ from → Older P edges last stamp v) →
    (v : ℕ) → P v → (n : ℕ) × (n < points) × ClimbsIn edges last from n v
tree_from_older points P edges last stamp from below olds v l =
    let c = climb points P edges last stamp from below olds (suc (stamp v)) v (omega arith) l in
    (c.steps, pigeonhole (suc c.steps) points c.stop c.into c.apart, c.climbs)
