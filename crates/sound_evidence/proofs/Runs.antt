-- The tree that was found is that of the run that the rows show.
use Rattle.sound_evidence.proofs.Words.{◌≡◌, ℕ, suc, ◌-◌, ◌≤◌, arith, List, length, refl, sym, subst, constants_of, state_at, tape_of, claim_of, Public}
use Rattle.sound_evidence.proofs.Words.{Trace, built_good, trees_run, IsWholeTree, Found, placed_of, plain, IsKnown}
use Rattle.vm_field.specs.Machine.{State}
use Rattle.block_tree.specs.Execution.{Done, execution}
use Rattle.block_tree.proofs.Refinement.{refines-refl}
use Rattle.air_kit.specs.DeepCells.{deep_at_start}
use Rattle.air_kit.specs.declared.trace.TableName.TheVariants as table
use Rattle.sound_runs.specs.Running.{Goes, ShowRun}
use Rattle.sound_runs.specs.Ends.{EndFacts}
use Rattle.sound_runs.proofs.CyclesLaw.{cycles_law, ends_law}
use Rattle.tree_merge.specs.AddrEvidences.{IsAddrRun}
use Rattle.tree_merge.specs.Evidences.{IsRun}
use Rattle.sound_evidence.proofs.Readable.{granted, tree_facts}

-- the states along the rows
abbrev states : Public → Trace → ℕ → State
states p t = state_at (deep_at_start (claim_of p t)) t.main

shows : (p : Public) (t : Trace) → IsKnown p t → ShowRun (constants_of p.params) p.statement.kernel (length t.main - 1) t.main (states p t)
shows p t k = cycles_law p t k.constants k.whole (granted p t k)

ends : (p : Public) (t : Trace) → IsKnown p t → EndFacts (claim_of p t) t.main
ends p t k = ends_law p t k.constants k.whole (granted p t k)

-- the tree goes from the first row to the last one
goes : (p : Public) (t : Trace) (k : IsKnown p t) (found : Found) → IsWholeTree p t found
    → Goes (states p t) (execution (constants_of p.params) p.statement.kernel (length t.main - 1) (plain (placed_of found.tree))
    (states p t 0)) (suc found.end)
goes p t k found w =
    trees_run (constants_of p.params) p.statement.kernel (length t.main - 1) t.hasher t.main p.statement.digest (states p t)
    (tree_facts p t k) (shows p t k)
    0 found.end (placed_of found.tree) w.tree (plain (placed_of found.tree)) (refines-refl (constants_of p.params) (plain (placed_of found.tree)))

behind_end : (n end : ℕ) → suc (suc end) ≡ n → suc end ≡ n - 1
behind_end n end is = omega arith

one_more : (n : ℕ) → 1 ≤ n → suc (n - 1) ≡ n
one_more n some = omega arith

run : (p : Public) (t : Trace) (k : IsKnown p t) (found : Found) → IsWholeTree p t found
    → IsRun p t (length t.main - 1) (plain (placed_of found.tree)) (tape_of t.main)
run p t k found w = record {
  rows = one_more (length t.main) (k.whole.counts table.Main).least;
  digest = w.digest;
  tape_is = refl;
  state = states p t (length t.main - 1);
  events = (goes p t k found w).events;
  done = subst (λ s. execution (constants_of p.params) p.statement.kernel (length t.main - 1) (plain (placed_of found.tree)) s
      ≡ Done (states p t (length t.main - 1)) (goes p t k found w).events) (ends p t k).starts
      (subst (λ m. execution (constants_of p.params) p.statement.kernel (length t.main - 1) (plain (placed_of found.tree)) (states p t 0)
      ≡ Done (states p t m) (goes p t k found w).events) (behind_end (length t.main) found.end w.last) (goes p t k found w).done);
  clock = (ends p t k).clock;
  stands = (ends p t k).stands;
}

-- with the addresses of its blocks' hashes
pub is_run : (p : Public) (t : Trace) (found : Found) (cycles : ℕ) (tape : List ℕ) → IsKnown p t → IsWholeTree p t found
    → cycles ≡ length t.main - 1 → tape ≡ tape_of t.main → IsAddrRun p t cycles (placed_of found.tree) tape
is_run p t found cycles tape k w counted taken = record {
  run = subst (λ c. IsRun p t c (plain (placed_of found.tree)) tape) (sym counted)
      (subst (IsRun p t (length t.main - 1) (plain (placed_of found.tree))) (sym taken) (run p t k found w));
  good = built_good (constants_of p.params) t.hasher t.main p.statement.digest (tree_facts p t k) w.tree;
}
