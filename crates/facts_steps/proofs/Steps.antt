-- Rows whose facts hold show a step.
use Rattle.facts_steps.proofs.Words
use Words.{◌≡◌, ◌≢◌, ℕ, ◌+◌, ◌^◌, ◌<◌, ◌≤◌, Bool, true, false, ◌||◌, eqb, List, [], ◌∷◌, ◌++◌, drop, length, slice_index, Option, Some, None, refl, ap, ap₂}
use Words.{sym, subst, ◌∙◌, arith, lit≤, number_of_constants, prime, AreElements, felt_add, WordMap, word_at, IsWord, trap_of-shown, step-goes, is_ordinary_op}
use Words.{reads_elsewhere, shift_of, IsSeenBy, memory_with, state_after, written, advice_of, Op, ctx, s, Elsewhere, state_of, taken_by, written_by}
use Words.{memory_behind, cells, seen_of, is_free, Low, has_second, ShiftsCells, IsRowOf, GoesOnBy, item_of, Lookups, is_bitwise, ShowsStep}
use Words.ops
use Rattle.std.proofs.Common.{MatchOption}
use Rattle.vm_field.proofs.Places.{words-insert}
use Rattle.facts_main.proofs.CellFacts.{elements_each}
use Rattle.facts_main.specs.MainRows.{ShowsRow, ShowsPair}
use Rattle.facts_steps.specs.Numbers.{ShowsNumbers}
use Rattle.facts_steps.proofs.Depths.{depth_shown}
use Rattle.facts_steps.proofs.Frames.{KeepsFrame, frame_shown, written_is, memory_is, tape_left}
use Rattle.facts_steps.proofs.NumberLaw.{borrows_at, numbers_shown}
use Rattle.facts_steps.proofs.Ordinary.{ordinary, mover_is}
use Rattle.facts_steps.proofs.Outside.{outside_left}
use Rattle.facts_steps.proofs.Seeing.{seen_by, shows_same, sized, top_index}
use Rattle.facts_steps.proofs.Shifts.{Behind, behind_from, stack_is}
use Rattle.facts_steps.proofs.Tests.{at_op}
use Rattle.facts_steps.proofs.Tops.{Leaves, list_leaves, value_is, fixed_is_shown}
use Rattle.facts_steps.proofs.Traps.{Runs, runs_free}
use Rattle.facts_steps.proofs.WordOperands.{HasLimbs}
use Rattle.facts_steps.proofs.WordTops.{word_leaves}

-- what the step needs of its row
from_two : {Q : Type 0} (a b : Bool) → (a ≡ true → Q) → (b ≡ true → Q) → a || b ≡ true → Q
from_two true b f g e = f refl
from_two false b f g e = g e

above_zero : {a b : ℕ} → a < b → b ≢ 0
above_zero less z = omega (arith, less, z)

-- the tape has as many elements as are taken
tape_enough : (op : Op) (y rest : List ℕ) → advice_of op ≤ length (taken_by op y ++ rest)
tape_enough ops.AdvPop y rest = omega arith
tape_enough op y rest = omega arith

-- memory stays made of words
four : {a b c d : ℕ} → a < prime → b < prime → c < prime → d < prime → AreElements (a ∷ b ∷ c ∷ d ∷ [])
four {a = a} {b = b} {c = c} {d = d} la lb lc ld = elements_each (a ∷ b ∷ c ∷ d ∷ []) (la, (lb, (lc, (ld, tt))))

word_written : (op : Op) (x : List ℕ) → Low x → MatchOption (written_by op x) (Unit {0}) IsWord
word_written ops.MStore x low = record { size = refl; below = four (low 31) (low 55) (low 56) (low 57) }
word_written ops.MStoreW x low = record { size = refl; below = four (low 34) (low 33) (low 32) (low 31) }
word_written op x low = tt

words_behind : (x : List ℕ) (memory : WordMap) (o : Option (List ℕ)) → MatchOption o (Unit {0}) IsWord
    → ((context place : ℕ) → IsWord (word_at memory context place)) → (context place : ℕ) → IsWord (word_at (memory_behind x o memory) context place)
words_behind x memory None new words = words
words_behind x memory (Some word) new words = words-insert memory (ctx x, s x 0) word new words

next_clock : {n m : ℕ} → m ≡ felt_add n 1 → n < 2 ^ 19 → m ≡ n + 1
next_clock e few = omega (arith, e, few)

module _ (constants : List ℕ) (op next : Op) (x y : List ℕ) (e f : Elsewhere) (count : length constants ≡ number_of_constants)
    (is : is_ordinary_op op ≡ true) (of : IsRowOf x e) (row : ShowsRow op x) (pair : ShowsPair op next x y) (goes : GoesOnBy op x y e f)
    (looks : Lookups constants op x y e) where
  numbers : ShowsNumbers op x y
  numbers = numbers_shown op x y row.limbs pair.limbs looks.ranges

  runs : Runs op x
  runs = record {
    invertible = pair.stack.leaves.inverted;
    divisor = λ divides. above_zero (numbers.divides divides).1;
    bit = row.stack.top;
    second_bit = row.stack.second;
    asserted = row.stack.asserted;
    inside = row.row.block.inside;
    address = looks.memory.address;
    first = from_two (has_second op) (is_bitwise op) numbers.first looks.bits.top;
    second = from_two (has_second op) (is_bitwise op) numbers.second looks.bits.second;
    third = numbers.third;
  }

  leaves : Leaves op (seen_by constants (item_of op y) x e) y
  leaves = pick (is_free op) (reads_elsewhere op) refl refl
    where
      pick : (t u : Bool) → is_free op ≡ t → reads_elsewhere op ≡ u → Leaves op (seen_by constants (item_of op y) x e) y
      pick false u fixed reads =
          λ j few. pair.stack.leaves.cells fixed j few ∙ value_is constants (item_of op y) op x e of.depth_is (fixed_is_shown op fixed) j
      pick true true free reads =
          list_leaves op (seen_by constants (item_of op y) x e) y (outside_left op f.tape reads looks goes.tape)
      pick true false free reads =
          λ j few.
          word_leaves op x y free reads row.reads.low numbers
          (λ sub. borrows_at (at_op (λ o. HasLimbs o x y) op ops.U32Sub sub (record { row = row.limbs; pair = pair.limbs; ranges = looks.ranges })))
          looks.bits j few
          ∙ value_is constants (item_of op y) op x e of.depth_is reads j

  enough : advice_of op ≤ length e.tape
  enough = subst (λ (u : List ℕ). advice_of op ≤ length u) (sym goes.tape) (tape_enough op y f.tape)

  sees : IsSeenBy op (seen_by constants (item_of op y) x e)
  sees = sized constants (item_of op y) x e count of.words enough

  shifts : ShiftsCells op x y
  shifts = subst (λ (m : Op). ShiftsCells m x y) (mover_is op x (ordinary op is)) pair.stack.shifts

  behind : Behind (shift_of op) (s x 15) (s y 15) e.below f.below
  behind = behind_from of.depth_is shifts goes.below

  frame : KeepsFrame op (seen_by constants (item_of op y) x e) x y
  frame = frame_shown constants (item_of op y) x y e (ordinary op is) pair.pair.block

  memory_same : f.memory ≡ memory_with e.memory (ctx x) (slice_index (cells x ++ e.below) 0) (written op (seen_by constants (item_of op y) x e))
  memory_same =
      goes.memory ∙ sym (memory_is x e.memory (written_by op x))
      ∙ ap₂ (λ (p : ℕ) w. memory_with e.memory (ctx x) p w) (sym (top_index x e.below 0 (lit≤ tt)))
      (sym (written_is constants (item_of op y) op x e looks.memory.kept))

  -- the state behind the row, part by part
  state_same : state_of y f ≡ state_after constants (item_of op y) (state_of x e)
  state_same = λ i. record {
    core = record {
      clock = next_clock pair.pair.clock of.early i;
      context = frame.context i;
      fmp = frame.frame i;
      in_syscall = eqb (frame.syscall i) 1;
      digest = frame.digest i;
      nesting = frame.nesting i;
      stack = sym (stack_is sees e.below f.below shifts behind leaves) i;
      memory = memory_same i;
    };
    tape = (sym (ap (drop (advice_of op)) goes.tape ∙ tape_left op y f.tape)) i;
  }

  pub rows_show : ShowsStep constants op x y e f
  rows_show = record {
    steps = step-goes constants (item_of op y) (state_of x e) (state_of y f) (record {
      enough = enough;
      free = trap_of-shown op (seen_by constants (item_of op y) x e) (seen_of x) (shows_same constants (item_of op y) x e of.depth_is)
          ∙ runs_free op x runs;
      is = state_same;
    });
    depth_is = depth_shown x y e.below f.below (ordinary op is) of.depth_is of.shallow pair.stack.depth_moves behind;
    words =
        subst (λ (m : WordMap). (context place : ℕ) → IsWord (word_at m context place)) (sym goes.memory)
        (words_behind x e.memory (written_by op x) (word_written op x row.reads.low) of.words);
  }
