-- A tree that is built along the rows runs as they go.
use Rattle.sound_runs.proofs.Words.{◌≡◌, ℕ, zero, suc, ◌+◌, ◌-◌, ◌<◌, ◌≤◌, Bool, true, cond, eqb, List, Some, None, length, refl, sym, ap, ◌∙◌, subst, arith}
use Rattle.sound_runs.proofs.Words.{State, h, s, Mark, StartSpan, StartJoin, StartSplit, StartLoop, StartCall, StartSyscall, StartDyn, Repeat, End, EndSpan}
use Rattle.sound_runs.proofs.Words.{EndLoop, EndCall, EndSyscall, called_word, frame_of, top, Part, at_bit, cycle, execution, turns, keep-execution, is_op}
use Rattle.sound_runs.proofs.Words.{computation_at, called_digest, front, row_at, op_in, Closes, IsAt, Built, Turns, Goes, ShowRun, ShowsMark, TreeFacts}
use lib.Pointwise.{bytes_decides}
use Rattle.std.specs.Prelude.{Option}
use Rattle.vm_field.specs.Sponge.{HashInput}
use Rattle.std.proofs.lemmas.Bool.{and_from, eq-eqb}
use Rattle.sound_runs.proofs.Words.ops
use Rattle.block_tree.specs.Trees as blocks
use Rattle.block_tree.specs.Trees.{Tree, Refines, first_target, no_target, target}
use Rattle.block_tree.proofs.TargetLemmas.{dyn_run, execution-Dyn}
use Rattle.tree_merge.specs.Placed.{PlacedTree, placed_digest, plain}
use Rattle.sound_runs.specs.Running.{TreeRuns}
use Rattle.sound_runs.proofs.SpanRuns.{batches_go, then_goes}
use Rattle.sound_runs.proofs.TreeLemmas.{built_digest, turns_digest}

-- a block has its END
closes_of : {constants : List ℕ} {comp : ℕ → Option HashInput} {rows : List (List ℕ)} {j e : ℕ} {x : PlacedTree} → Built constants comp rows j e x
    → Closes rows j e
closes_of (Built.span here closes are) = closes
closes_of (Built.join here closes one other is_one is_other) = closes
closes_of (Built.split_one here top_is closes child is) = closes
closes_of (Built.split_zero here top_is closes child is) = closes
closes_of (Built.loop_skipped here top_is closes) = closes
closes_of (Built.loop_entered here top_is closes good rounds) = closes
closes_of (Built.call here closes child is) = closes
closes_of (Built.syscall here closes child is) = closes
closes_of (Built.dyn here closes child is) = closes

pub built_closes : (constants : List ℕ) (hasher rows : List (List ℕ)) (j e : ℕ) (x : PlacedTree)
    → Built constants (computation_at hasher) rows j e x → Closes rows j e
built_closes constants hasher rows j e x tree = closes_of tree

module _ (constants : List ℕ) (kernel : List (List ℕ)) (limit : ℕ) (hasher rows : List (List ℕ)) (root : List ℕ) (st : ℕ → State)
    (facts : TreeFacts constants hasher rows root) (run : ShowRun constants kernel limit rows st) where
  abbrev has_tree : ℕ → ℕ → PlacedTree → Type 0
  has_tree j e x = Built constants (computation_at hasher) rows j e x

  abbrev has_turns : ℕ → ℕ → ℕ → PlacedTree → Type 0
  has_turns j a e x = Turns constants (computation_at hasher) rows j a e x

  abbrev run_of : PlacedTree → Part
  run_of x = execution constants kernel limit (plain x)

  -- the digest that an END shows of a block, and a loop's start of its body
  digest_of : {j e : ℕ} {x : PlacedTree} → has_tree j e x → placed_digest constants x ≡ front (row_at rows e)
  digest_of tree = built_digest constants hasher rows root facts tree

  body_of : {j a e : ℕ} {x : PlacedTree} → has_turns j a e x → placed_digest constants x ≡ front (row_at rows j)
  body_of rounds = turns_digest constants hasher rows root facts rounds

  -- ---- what is on top

  -- a loop that was entered ends where 0 is on top
  stops : {j e : ℕ} → IsAt rows j ops.Loop → s (row_at rows j) 0 ≡ 1 → Closes rows j e → s (row_at rows e) 0 ≡ 0
  stops {j} {e} here top_is closes =
      let entered : h (row_at rows e) 4 ≡ 1 =
      closes.flags.entered ∙ ap (λ t. cond t 1 0)
      (and_from (is_op (op_in rows j) ops.Loop) (eqb (s (row_at rows j) 0) 1) (ap (λ o. is_op o ops.Loop) here.is)
      (eq-eqb (s (row_at rows j) 0) 1 top_is)) in
      ((facts.shows.row_is e (omega (arith, closes.ends.within))).row.block.ends (ap (λ o. is_op o ops.End) closes.ends.is)).stops entered

  goes_on : {r : ℕ} → IsAt rows r ops.Repeat → s (row_at rows r) 0 ≡ 1
  goes_on {r} here = (facts.shows.row_is r (omega (arith, here.within))).row.block.again (ap (λ o. is_op o ops.Repeat) here.is)

  -- of two parts, that which the bit on top of row i chooses
  chosen : (i k : ℕ) {m n : ℕ} (f g : Part) → suc i < length rows → s (row_at rows i) 0 ≡ n → Goes st (at_bit n f g (st k)) m
      → Goes st (at_bit (top (st i).core) f g (st k)) m
  chosen i k {m} f g within is goes =
      subst (λ b. Goes st (at_bit b f g (st k)) m) (sym (run.top_is i (omega (arith, within)) ∙ is)) goes

  -- ---- a cycle whose mark is spelled otherwise

  marked : {i : ℕ} (mark : List ℕ → Mark) {shown digest : List ℕ} → digest ≡ shown → ShowsMark rows st i (mark shown)
      → Goes st (cycle constants kernel limit (mark digest) (st i)) (suc i)
  marked {i} mark {shown} {digest} is shows = run.goes i (mark digest) (subst (λ d. ShowsMark rows st i (mark d)) (sym is) shows)

  marked_two : {i : ℕ} (mark : List ℕ → List ℕ → Mark) {shown also_shown digest other : List ℕ} → digest ≡ shown → other ≡ also_shown
      → ShowsMark rows st i (mark shown also_shown) → Goes st (cycle constants kernel limit (mark digest other) (st i)) (suc i)
  marked_two {i} mark {also_shown = also_shown} {digest = digest} is is_other shows =
      marked (mark digest) is_other (subst (λ d. ShowsMark rows st i (mark d also_shown)) (sym is) shows)

  refined_goes : (i : ℕ) {m : ℕ} {x y : Tree} → Refines constants x y → Goes st (execution constants kernel limit y (st i)) m
      → Goes st (execution constants kernel limit x (st i)) m
  refined_goes i {m} refines goes = record {
    events = goes.events;
    done = (keep-execution constants kernel limit refines (st i)).rule (st m) goes.events goes.done;
  }

  -- ---- turns that are left

  none_left : {A : Type 0} {a b : ℕ} {y : PlacedTree} → has_tree a b y → limit ≤ 0 + a → A
  none_left {a = a} {b = b} {y = y} tree left =
      absurd (omega (arith, run.below a (closes_of tree).starts.within, left))

  one_less : (n : ℕ) {a b : ℕ} {y : PlacedTree} → has_tree a b y → limit ≤ suc n + a → limit ≤ n + suc (suc b)
  one_less n {a} {b} {y} tree left = omega (arith, (facts.frames.closed a b (closes_of tree)).later, left)

  -- ---- the target that ran

  -- its digest is the word on top of the stack, so that it is the first target of that digest
  target_found : {j a : ℕ} (x : PlacedTree) → IsAt rows j ops.Dyn → has_tree (suc j) a x → front (row_at rows a) ≡ called_digest (row_at rows j)
      → first_target constants (called_word (st j).core) (target (plain x) no_target) ≡ Some (plain x)
  target_found {j} x here child is =
      ap (λ (t : Bool). cond t (Some (plain x)) None)
      ((bytes_decides (placed_digest constants x) (called_word (st j).core)).1
      (digest_of child ∙ is ∙ sym (run.word_is j (omega (arith, here.within)))))

  found_goes : (i : ℕ) {m : ℕ} (x : PlacedTree) → first_target constants (called_word (st i).core) (target (plain x) no_target) ≡ Some (plain x)
      → Goes st (dyn_run constants kernel limit (Some (plain x)) (st i)) m
      → Goes st (execution constants kernel limit (blocks.Dyn (target (plain x) no_target)) (st i)) m
  found_goes i x found goes = record {
    events = goes.events;
    done = execution-Dyn constants kernel limit (target (plain x) no_target) (st i)
        ∙ ap (λ o. dyn_run constants kernel limit o (st i)) found ∙ goes.done;
  }

  -- ---- the tree

  mutual
    pub does : {j e : ℕ} {x : PlacedTree} → has_tree j e x → Goes st (run_of x (st j)) (suc e)
    does (Built.span {j} {e} here closes are) =
        then_goes st _ _ j e (batches_go run StartSpan are (ShowsMark.span here))
        (marked EndSpan (digest_of (Built.span here closes are)) (ShowsMark.span_end here closes))
    does (Built.join {j} {a} {b} here closes one other is_one is_other) =
        then_goes st _ _ j (suc j) (marked_two StartJoin (digest_of one ∙ is_one) (digest_of other ∙ is_other) (ShowsMark.join here))
        (then_goes st _ _ (suc j) (suc a) (does one)
        (then_goes st _ _ (suc a) (suc b) (does other)
        (marked End (digest_of (Built.join here closes one other is_one is_other)) (ShowsMark.join_end here closes))))
    does (Built.split_one {j} {a} here top_is closes child is) =
        then_goes st _ _ j (suc j) (marked_two StartSplit (digest_of child ∙ is) refl (ShowsMark.split here))
        (then_goes st _ _ (suc j) (suc a) (chosen j (suc j) _ _ here.within top_is (does child))
        (marked End (digest_of (Built.split_one here top_is closes child is)) (ShowsMark.split_end here closes)))
    does (Built.split_zero {j} {a} here top_is closes child is) =
        then_goes st _ _ j (suc j) (marked_two StartSplit refl (digest_of child ∙ is) (ShowsMark.split here))
        (then_goes st _ _ (suc j) (suc a) (chosen j (suc j) _ _ here.within top_is (does child))
        (marked End (digest_of (Built.split_zero here top_is closes child is)) (ShowsMark.split_end here closes)))
    does (Built.loop_skipped {j} here top_is closes) =
        then_goes st _ _ j (suc j) (run.goes j (StartLoop (front (row_at rows j))) (ShowsMark.loop here))
        (chosen j (suc j) _ _ here.within top_is
        (marked End (digest_of (Built.loop_skipped here top_is closes)) (ShowsMark.skipped_end here top_is closes)))
    does (Built.loop_entered {j} {e} {x} here top_is closes good rounds) =
        then_goes st _ _ j (suc j) (marked StartLoop (body_of rounds) (ShowsMark.loop here))
        (chosen j (suc j) _ _ here.within top_is
        (does_turns rounds here top_is (digest_of (Built.loop_entered here top_is closes good rounds))
        (limit - (st j).core.clock) (omega (arith, run.clock j (omega (arith, here.within))))))
    does (Built.call {j} {a} here closes child is) =
        then_goes st _ _ j (suc j) (marked StartCall (digest_of child ∙ is) (ShowsMark.call here))
        (then_goes st _ _ (suc j) (suc a) (does child)
        (marked (λ d. EndCall d (frame_of (st j).core)) (digest_of (Built.call here closes child is)) (ShowsMark.call_end here closes)))
    does (Built.syscall {j} {a} here closes child is) =
        then_goes st _ _ j (suc j) (marked StartSyscall (digest_of child ∙ is) (ShowsMark.syscall here))
        (then_goes st _ _ (suc j) (suc a) (does child)
        (marked (λ d. EndSyscall d (frame_of (st j).core)) (digest_of (Built.syscall here closes child is)) (ShowsMark.syscall_end here closes)))
    does (Built.dyn {j} {a} {x} here closes child is) =
        found_goes j x (target_found x here child is)
        (then_goes st _ _ j (suc j) (run.goes j (StartDyn true) (ShowsMark.dyn here))
        (then_goes st _ _ (suc j) (suc a) (does child)
        (marked End (digest_of (Built.dyn here closes child is)) (ShowsMark.dyn_end here closes))))

    pub does_turns : {j a e : ℕ} {x : PlacedTree} → has_turns j a e x → IsAt rows j ops.Loop → s (row_at rows j) 0 ≡ 1
        → {digest : List ℕ} → digest ≡ front (row_at rows e) → (n : ℕ) → limit ≤ n + a
        → Goes st (turns constants kernel limit digest (placed_digest constants x) n (run_of x) (st a)) (suc e)
    does_turns (Turns.last turn refines is closes) here top_is digest_is zero left = none_left turn left
    does_turns (Turns.last {j} {a} {b} turn refines is closes) here top_is digest_is (suc n) left =
        then_goes st _ _ a (suc b) (refined_goes a refines (does turn))
        (chosen (suc b) (suc b) _ _ closes.ends.within (stops here top_is closes)
        (marked EndLoop digest_is (ShowsMark.entered_end here top_is closes)))
    does_turns (Turns.more turn refines is again rest) here top_is digest_is zero left = none_left turn left
    does_turns (Turns.more {j} {a} {b} turn refines is again rest) here top_is digest_is (suc n) left =
        then_goes st _ _ a (suc b) (refined_goes a refines (does turn))
        (chosen (suc b) (suc b) _ _ again.repeats.within (goes_on again.repeats)
        (then_goes st _ _ (suc b) (suc (suc b))
        (marked Repeat (body_of rest ∙ sym again.body) (ShowsMark.repeat again.repeats))
        (does_turns rest here top_is digest_is n (one_less n turn left))))

pub trees_run : TreeRuns
trees_run constants kernel limit hasher rows root st facts run j e x tree y refines =
    refined_goes constants kernel limit hasher rows root st facts run j refines (does constants kernel limit hasher rows root st facts run tree)
