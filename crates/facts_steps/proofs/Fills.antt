-- A step fills rows whose facts hold.
use Rattle.facts_steps.proofs.Words
use Words.{◌≡◌, ℕ, ◌+◌, ◌^◌, ◌<◌, ◌≤◌, Bool, true, false, eqb, List, ◌++◌, drop, length, Ok, ap, ap₂, sym, subst, ◌∙◌, arith, lit<}
use Words.{take-append-drop, length-drop, number_of_constants, prime, felt_add, State, IsWellFormed, trap_of-shown, stepped, step-depth}
use Words.{reads_elsewhere, IsOrdinaryItem, leaves_of, IsSeenBy, memory_with, step, Stepped, bit_of, Item, Op, clk, ctx, sys, s, depth, Elsewhere}
use Words.{state_of, taken_by, written_by, cells, seen_of, left_value, ShiftsCells, ShowsState, FilledBy, FillsRows, LooksUpWord, elsewhere_of}
use Rattle.vm_field.proofs.Elements.{elements-index}
use Rattle.vm_ops.proofs.FrameLemmas.{step-same_call}
use Rattle.facts_steps.proofs.Depths.{depth_filled}
use Rattle.facts_steps.proofs.Frames.{frame_filled, written_is, memory_is}
use Rattle.facts_steps.proofs.Ordinary.{ordinary, ordinary_row, mover_is}
use Rattle.facts_steps.proofs.OutsideFills.{Tops, tape_filled, item_filled, memory_filled, permutes_filled}
use Rattle.facts_steps.proofs.Seeing.{seen_by, shows_same, sized, top_index}
use Rattle.facts_steps.proofs.Shifts.{Moved, stack_moved, shifts_from, below_from}
use Rattle.facts_steps.proofs.StackFills.{stack_row_filled, leaves_filled}
use Rattle.facts_steps.proofs.Tops.{leaves_list, value_is}
use Rattle.facts_steps.proofs.FreeRuns.{free_runs}
use Rattle.facts_steps.proofs.Traps.{Runs}
use Rattle.facts_steps.proofs.WordLimbs.{limbs_filled_low, bits_filled}
use Rattle.facts_steps.proofs.WordMade.{Made}
use Rattle.facts_steps.proofs.WordRows.{limb_row_filled, limb_pair_filled}

-- ---- the state of a row that shows it

in_syscall_is : (b : Bool) (n : ℕ) → n ≡ bit_of b → eqb n 1 ≡ b
in_syscall_is true n e = ap (λ m. eqb m 1) e
in_syscall_is false n e = ap (λ m. eqb m 1) e

pub shown_state : (x : List ℕ) (s : State) → ShowsState x s → state_of x (elsewhere_of s) ≡ s
shown_state x s h =
    let flag = in_syscall_is s.core.in_syscall (sys x) h.syscall in
    let stack : cells x ++ drop 16 s.core.stack ≡ s.core.stack =
    ap (λ (u : List ℕ). u ++ drop 16 s.core.stack) h.stack ∙ take-append-drop 16 s.core.stack in
    λ i. record {
      core = record {
        clock = h.clock i;
        context = h.context i;
        fmp = h.frame i;
        in_syscall = flag i;
        digest = h.digest i;
        nesting = h.nesting i;
        stack = stack i;
        memory = s.core.memory;
      };
      tape = s.tape;
    }

pub shown_depth : (x : List ℕ) (s : State) → ShowsState x s → 16 ≤ length s.core.stack → depth x ≡ 16 + length (elsewhere_of s).below
shown_depth x s h deep = let count = length-drop 16 s.core.stack in omega (arith, h.depth_is, deep, count)

-- ---- the facts, from a step that goes on between states of rows

clock_next : {n m : ℕ} → m ≡ n + 1 → n < 2 ^ 19 → m ≡ felt_add n 1
clock_next e few = omega (arith, e, few)

module _ (constants : List ℕ) (item : Item) (x y : List ℕ) (e f : Elsewhere) (o : IsOrdinaryItem item) (well : IsWellFormed (state_of x e))
    (count : length constants ≡ number_of_constants) (early : clk x < 2 ^ 19) (deep : depth x ≡ 16 + length e.below) (shallow : depth x < 2 ^ 20)
    (deep_next : depth y ≡ 16 + length f.below) (flag : sys y ≡ sys x) (done : Stepped constants item (state_of x e) (state_of y f))
    (filled : FilledBy item.op x y e) where
  sees : IsSeenBy item.op (seen_by constants item x e)
  sees = sized constants item x e count well.core.words done.enough

  low : (j : ℕ) → j < 16 → s x j < prime
  low j few = subst (λ n. n < prime) (top_index x e.below j few) (elements-index (cells x ++ e.below) j well.core.cells)

  runs : Runs item.op x
  runs = free_runs item.op x
      (sym (trap_of-shown item.op (seen_by constants item x e) (seen_of x) (shows_same constants item x e deep)) ∙ done.free)

  moved : Moved item.op (seen_by constants item x e) x y e.below f.below
  moved = stack_moved sees (sym (ap (λ (u : State). u.core.stack) done.is))

  tops : reads_elsewhere item.op ≡ false → (j : ℕ) → j < leaves_of item.op → s y j ≡ left_value item.op j x
  tops quiet j few = moved.tops j few ∙ sym (value_is constants item item.op x e deep quiet j)

  made : Made item.op x y
  made = record { runs = runs; low = low 0 (lit< tt); tops = tops; limb = filled.limb; not_highest = filled.not_highest }

  listed : Tops constants item item.op x y e
  listed = record { are = leaves_list item.op (seen_by constants item x e) y sees moved.tops }

  looked : LooksUpWord item.op x y e
  looked = memory_filled listed (well.core.words (ctx x) (s x 0)).size filled.word runs.address

  fills_between : FillsRows constants item x y e f
  fills_between =
      let plain = ordinary item.op o.ordinary in
      record {
        item_is = item_filled o listed;
        clock = clock_next (ap (λ (u : State). u.core.clock) done.is) early;
        block_row = ordinary_row item.op x o.ordinary runs.inside;
        block_pair = frame_filled constants item x y e plain filled.block (record {
          context = ap (λ (u : State). u.core.context) done.is;
          syscall = flag;
          digest = ap (λ (u : State). u.core.digest) done.is;
          frame = ap (λ (u : State). u.core.fmp) done.is;
          nesting = ap (λ (u : State). u.core.nesting) done.is;
        });
        stack_row = stack_row_filled item.op x e.below plain deep shallow filled.deeper runs;
        stack_pair = record {
          depth_moves = depth_filled x y e.below f.below plain deep shallow deep_next filled moved.behind;
          shifts = subst (λ (m : Op). ShiftsCells m x y) (sym (mover_is item.op x plain)) (shifts_from deep moved);
          leaves = leaves_filled item.op x y (low 0 (lit< tt)) (low 1 (lit< tt)) tops filled.not_zero filled.not_same runs;
        };
        limb_row = limb_row_filled made;
        limb_pair = limb_pair_filled made;
        goes = record {
          below = below_from deep moved.behind;
          memory =
              ap (λ (u : State). u.core.memory) done.is
              ∙ ap₂ (λ (p : ℕ) u. memory_with e.memory (ctx x) p u) (top_index x e.below 0 (lit< tt)) (written_is constants item item.op x e looked.kept)
              ∙ memory_is x e.memory (written_by item.op x);
          tape = tape_filled listed ∙ ap (λ (u : List ℕ). taken_by item.op y ++ u) (sym (ap (λ (u : State). u.tape) done.is));
        };
        looks = record { ranges = limbs_filled_low made; bits = bits_filled made; memory = looked; permutes = permutes_filled listed };
      }

-- ---- of a step

pub step_fills : (constants : List ℕ) (item : Item) (s t : State) (x y : List ℕ) → length constants ≡ number_of_constants → IsOrdinaryItem item → IsWellFormed s
    → s.core.clock < 2 ^ 19 → length s.core.stack < 2 ^ 20 → step constants item s ≡ Ok t → ShowsState x s → ShowsState y t
    → FilledBy item.op x y (elsewhere_of s) → FillsRows constants item x y (elsewhere_of s) (elsewhere_of t)
step_fills constants item s t x y count o well early shallow goes here next filled =
    let from : state_of x (elsewhere_of s) ≡ s = shown_state x s here in
    let to : state_of y (elsewhere_of t) ≡ t = shown_state y t next in
    let after = step-depth constants item s t count well goes in
    let deep_after : 16 ≤ length t.core.stack = omega (arith, after) in
    let same = step-same_call constants item s t goes in
    fills_between constants item x y (elsewhere_of s) (elsewhere_of t) o (subst IsWellFormed (sym from) well) count
    (subst (λ n. n < 2 ^ 19) (sym here.clock) early) (shown_depth x s here well.core.deep)
    (subst (λ n. n < 2 ^ 20) (sym here.depth_is) shallow) (shown_depth y t next deep_after)
    (next.syscall ∙ ap bit_of same.in_syscall ∙ sym here.syscall)
    (stepped constants item (state_of x (elsewhere_of s)) (state_of y (elsewhere_of t))
    (ap (step constants item) from ∙ goes ∙ ap (λ (u : State). Ok u) (sym to)))
    filled
