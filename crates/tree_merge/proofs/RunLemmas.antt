-- Evidence that is a run.
use Rattle.std.proofs.Common.{◌≡◌, ℕ, List, ◌++◌, take, refl, sym, ap, ◌∙◌}
use Rattle.std.proofs.lemmas.List.{append-nil}
use Rattle.vm_field.specs.Machine.{State, start}
use Rattle.rpo_hash.specs.Constants.{constants_of}
use Rattle.block_tree.specs.Trees.{Tree, Opaque, Refines}
use Rattle.block_tree.specs.Cycles.{StartOpaque, effect_of}
use Rattle.block_tree.specs.Execution.{Event, Done, cycle}
use Rattle.block_tree.specs.Laws.{tape_taken}
use Rattle.block_tree.proofs.Parts.{Cycled, taking-inv}
use Rattle.block_tree.proofs.BehindLemmas.{behind-cycle}
use Rattle.block_tree.proofs.Refinement.{keep-execution, refines-digest}
use Rattle.block_tree.proofs.Tapes.{fed-execution}
use Rattle.air_kit.specs.declared.trace.Public.{Public}
use Rattle.air_kit.specs.declared.trace.Trace.{Trace}
use Rattle.tree_merge.specs.Evidences.{IsRun}

pub refined-run : (p : Public) (t : Trace) (cycles : ℕ) (x y : Tree) (tape : List ℕ) → IsRun p t cycles x tape
    → Refines (constants_of p.params) y x → IsRun p t cycles y tape
refined-run p t cycles x y tape r h = record {
  rows = r.rows;
  digest = refines-digest (constants_of p.params) h ∙ r.digest;
  tape_is = r.tape_is;
  state = r.state;
  events = r.events;
  done = (keep-execution (constants_of p.params) p.statement.kernel cycles h (start p.statement.inputs tape)).rule r.state r.events r.done;
  clock = r.clock;
  stands = r.stands;
}

started-tape : (inputs tape : List ℕ) → (start inputs tape).tape ≡ tape
unfolding start
started-tape inputs tape = refl

pub run-tape : (p : Public) (t : Trace) (cycles : ℕ) (x : Tree) (tape : List ℕ) → (r : IsRun p t cycles x tape) → tape ≡ tape_taken r.events
run-tape p t cycles x tape r =
    let fed = fed-execution (constants_of p.params) p.statement.kernel cycles x (start p.statement.inputs tape) r.state r.events r.done in
    sym (started-tape p.statement.inputs tape) ∙ fed.tape ∙ ap (λ rest. tape_taken r.events ++ rest) r.stands.tape ∙ append-nil (tape_taken r.events)

opaque-undone : (constants : List ℕ) (kernel : List (List ℕ)) (limit : ℕ) (s t : State) (es : List Event)
    → cycle constants kernel limit StartOpaque s ≡ Done t es → ⊥
opaque-undone constants kernel limit s t es e =
    let c : Cycled limit StartOpaque 0 (effect_of constants kernel StartOpaque) s t es
    = taking-inv limit StartOpaque 0 (effect_of constants kernel StartOpaque) s t es e in
    (behind-cycle constants kernel StartOpaque (take 0 s.tape) s.core c.core c.made).0

pub opaque-no_run : (p : Public) (t : Trace) (cycles : ℕ) (digest tape : List ℕ) → IsRun p t cycles (Opaque digest) tape → ⊥
opaque-no_run p t cycles digest tape r =
    opaque-undone (constants_of p.params) p.statement.kernel cycles (start p.statement.inputs tape) r.state r.events r.done
