-- A block begins: the exit counts from here on.
use Rattle.std.proofs.Common.{◌≡◌, ℕ, ◌<◌, ◌≤◌, suc, List, length, map, get_or, refl, sym, ◌∙◌, ap, subst, arith, ⊎_elim}
use Rattle.std.specs.Prelude.{reverse}
use Rattle.graph_model.specs.declared.kind.Kind.{Kind}
use Rattle.graph_model.specs.declared.graph.Bound.{Bound}
use Rattle.graph_model.specs.Bounds.{bounds}
use Rattle.graph_model.specs.declared.graph.Graph.{Graph}
use Rattle.plan_model.specs.declared.buffers.Home.{Home as PlanHome}
use Rattle.std.proofs.lemmas.Bool.{cases_lt}
use Rattle.pool_waves.specs.declared.job.Home.{Home}
use Rattle.pool_waves.specs.declared.job.Job.{Job}
use Rattle.players.specs.declared.leaving.Leaving.{Leaving}
use Rattle.players.specs.declared.playing.Player.{Player}
use Rattle.players.specs.declared.playing.Server.{Server}
use Rattle.players.specs.declared.playing.Server.TheVariants.{Entry, Exit, Between}
use Rattle.players.specs.Servers.{FitsServer, SameServer}
use Rattle.plan_jobs.specs.Jobs.{Serves, IsPlayerOf}
use Rattle.engine.specs.Views.{kernel_of, seen, from_now, began}

pub record Beginning (frames : ℕ) (jobs : List (Job Player)) (k : ℕ) (jobs' : List (Job Player)) : Type 0 where
  pub len : length jobs' ≡ length jobs
  pub done : (i : ℕ) (d : Job Player) → i < k → i < length jobs → get_or jobs' i d ≡ began frames (get_or jobs i d)
  pub rest : (i : ℕ) (d : Job Player) → k ≤ i → get_or jobs' i d ≡ get_or jobs i d

pub begin_more : (frames : ℕ) (jobs : List (Job Player)) (k : ℕ) (jobs' jobs'' : List (Job Player)) (j : Job Player) → Beginning frames jobs k jobs' → length jobs'' ≡ length jobs' → k < length jobs
    → ((d : Job Player) → get_or jobs'' k d ≡ j) → ((i : ℕ) (d : Job Player) → (i ≡ k → ⊥) → get_or jobs'' i d ≡ get_or jobs' i d)
    → ((d : Job Player) → j ≡ began frames (get_or jobs' k d))
    → Beginning frames jobs (suc k) jobs''
begin_more frames jobs k jobs' jobs'' j b len lk at other is = record {
  len = len ∙ b.len;
  done = λ i d lt li. ⊎_elim
      (λ (less : i < k). other i d (λ e. omega arith) ∙ b.done i d less li)
      (λ (le : k ≤ i). let same : k ≡ i = omega arith in
      subst (λ z. get_or jobs'' z d ≡ began frames (get_or jobs z d)) same (at d ∙ is d ∙ ap (λ (z : Job Player). began frames z) (b.rest k d (omega arith))))
      (cases_lt i k);
  rest = λ i d le. other i d (λ e. omega arith) ∙ b.rest i d (omega arith);
}

-- ---- what stays
serves_began : (kind : Kind) (bound : Bound) (f : ℕ) (sv : Server) → Serves kind bound sv → Serves kind bound (from_now f sv)
serves_began kind bound f Entry s = s
serves_began kind bound f (Exit e) s = s
serves_began kind bound f (Between p) s = s

fits_began : (f ins outs : ℕ) (sv : Server) → FitsServer sv ins outs → FitsServer (from_now f sv) ins outs
fits_began f ins outs Entry s = s
fits_began f ins outs (Exit e) s = s
fits_began f ins outs (Between p) s = s

kernel_began : (f : ℕ) (sv : Server) → kernel_of (from_now f sv) ≡ kernel_of sv
kernel_began f Entry = refl
kernel_began f (Exit e) = refl
kernel_began f (Between p) = refl

pub seen_began : (f : ℕ) (j : Job Player) → seen (began f j) ≡ seen j
seen_began f j = ap (λ k. record { node = j.node; kernel = k; lines = map reverse j.part.lines.items }) (kernel_began f j.part.server)

pub player_began : (g : Graph) (p : ℕ → ℕ) (hs : List PlanHome) (v f : ℕ) (own : List Home) (j : Job Player) → IsPlayerOf g p hs v own j.part → IsPlayerOf g p hs v own (began f j).part
player_began g p hs v f own j is = record {
  buffers = is.buffers;
  channels = is.channels;
  delays = is.delays;
  own = is.own;
  homes_are = is.homes_are;
  ins = is.ins;
  outs = is.outs;
  server = λ n e. serves_began n.kind (bounds g v) f j.part.server (is.server n e);
  whole = record {
    lines = is.whole.lines;
    sums = is.whole.sums;
    told = is.whole.told;
    spare = is.whole.spare;
    silent = is.whole.silent;
    first = is.whole.first;
    rows = is.whole.rows;
    channels = is.whole.channels;
    server = fits_began f j.part.ins j.part.outs j.part.server is.whole.server;
  };
}

-- the exit counts from there
pub exit_counts : (f : ℕ) (a : Server) (e : Leaving) → from_now f a ≡ Exit e → e.start ≡ f
exit_counts f Entry e is = absurd (cc)
exit_counts f (Exit x) e is = go (record { lines = x.lines; start = f; spare = x.spare }) is refl
  where
    go : (y : Leaving) → Exit y ≡ Exit e → y.start ≡ f → e.start ≡ f
    go y same at = let z : y ≡ e = cc in ap (λ (k : Leaving). k.start) (sym z) ∙ at
exit_counts f (Between p) e is = absurd (cc)

pub exit_still : (f : ℕ) (a b : Server) → SameServer (from_now f a) b → (e : Leaving) → b ≡ Exit e → e.start ≡ f
exit_still f Entry Entry s e is = absurd (cc)
exit_still f Entry (Exit y) s e is = absurd s
exit_still f Entry (Between q) s e is = absurd s
exit_still f (Exit x) Entry s e is = absurd s
exit_still f (Exit x) (Exit y) s e is = let z : y ≡ e = cc in ap (λ (k : Leaving). k.start) (sym z) ∙ s.0
exit_still f (Exit x) (Between q) s e is = absurd s
exit_still f (Between p) Entry s e is = absurd s
exit_still f (Between p) (Exit y) s e is = absurd s
exit_still f (Between p) (Between q) s e is = absurd (cc)
