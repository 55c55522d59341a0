-- A run is done exactly where it is done one cycle after another.
use Rattle.std.proofs.Common.{◌≡◌, ℕ, zero, suc, is_some, true, ◌<◌, List, [], ◌∷◌, Option, Some, None, refl, sym, ap, subst, arith}
use Rattle.std.proofs.lemmas.Bool.{false≢true}
use Rattle.std.specs.List.{AllByRecursion}
use Rattle.vm_field.specs.Machine.{Core, State}
use Rattle.block_tree.specs.Trees.{Tree, Targets, Opaque, Span, Join, Split, Loop, Call, Syscall, Dyn, IsWhole, AreWhole, first_target, tree_digest}
use Rattle.block_tree.specs.Cycles.{Mark, StartSpan, Respan, top, called_word, effect_of, advice_taken}
use Rattle.block_tree.specs.Behind.{IsAllowed}
use Rattle.block_tree.specs.Execution.{Event, Done, event_of, execution}
use Rattle.block_tree.specs.Steps.{Task, Block, Within, Turned, Closing, Returning, Leaving, Next, span, join, split_1, split_0, loop_1, loop_0, call, syscall, dyn, operation, respan, span_ends, repeats, loop_ends, closes, returns, leaves, Steps, ended, goes}
use Rattle.block_tree.proofs.Parts.{taking-done}
use Rattle.block_tree.proofs.BehindLemmas.{cycle-allowed}
use Rattle.block_tree.proofs.Keeping.{cycle-is}
use Rattle.block_tree.proofs.Courses.{batch_step, split_step, loop_step, turn_step, dyn_step, step_of, Course, finished, course-same, course-along, course-done, course-of}
use Rattle.block_tree.proofs.TargetLemmas.{first-whole}
use Rattle.block_tree.proofs.TaskLemmas.{each-append}

-- the trees of a task are whole
abbrev IsFull : Task → Type 0
IsFull (Block tree) = IsWhole tree
IsFull (Turned body) = IsWhole body
IsFull _ = Unit {0}

abbrev AreFull : List Task → Type 0
AreFull tasks = AllByRecursion IsFull tasks

bit-cases : (P : ℕ → Type 0) (n : ℕ) → n < 2 → (n ≡ 0 → P 0) → (n ≡ 1 → P 1) → P n
bit-cases P zero l none one = none refl
bit-cases P (suc n) l none one = let e : suc n ≡ 1 = omega arith in subst P (sym e) (one e)

module _ (constants : List ℕ) (kernel : List (List ℕ)) where
  -- the step is one of those that come next, and what is then to be done is whole
  abbrev IsNext : Task → Core → Mark × List Task → Type 0
  IsNext task c step = Next constants task c step.0 step.1 × AreFull step.1

  next-found : (ts : Targets) (c : Core) (o : Option Tree) → first_target constants (called_word c) ts ≡ o → AreWhole ts → is_some o ≡ true
      → IsNext (Block (Dyn ts)) c (dyn_step constants (tree_digest constants (Dyn ts)) o)
  next-found ts c None found w h = absurd (false≢true h)
  next-found ts c (Some a) found w h = (dyn found, (first-whole constants ts (called_word c) a w found, (tt, tt)))

  turn-bit : (a : Tree) (advice : List ℕ) (c : Core) (n : ℕ) → IsAllowed constants kernel (turn_step constants a n).0 advice c → top c < 2
  turn-bit a advice c zero l = l
  turn-bit a advice c (suc n) l = l

  -- a first cycle that is allowed comes next
  next-of : (task : Task) (c : Core) (advice : List ℕ) → IsFull task → IsAllowed constants kernel (step_of constants task c).0 advice c
      → IsNext task c (step_of constants task c)
  next-of (Block (Opaque digest)) c advice w h = absurd h
  next-of (Block (Span [])) c advice w h = absurd (w.0 refl)
  next-of (Block (Span (batch ∷ later))) c advice w h = rw h.1.1 (span h.1.1, (tt, tt))
  next-of (Block (Join a b)) c advice w h = (join, (w.0, (w.1, (tt, tt))))
  next-of (Block (Split a b)) c advice w h =
      bit-cases (λ n. IsNext (Block (Split a b)) c (split_step constants a b n)) (top c) h.1
      (λ bit. (split_0 bit, (w.1, (tt, tt)))) (λ bit. (split_1 bit, (w.0, (tt, tt))))
  next-of (Block (Loop a)) c advice w h =
      bit-cases (λ n. IsNext (Block (Loop a)) c (loop_step constants a n)) (top c) h.1
      (λ bit. (loop_0 bit, (tt, tt))) (λ bit. (loop_1 bit, (w, (w, tt))))
  next-of (Block (Call a)) c advice w h = (call, (w, (tt, tt)))
  next-of (Block (Syscall a)) c advice w h = (syscall, (w, (tt, tt)))
  next-of (Block (Dyn ts)) c advice w h = next-found ts c _ refl w h.1
  next-of (Within (item ∷ items) later digest) c advice w h = (operation, (tt, tt))
  next-of (Within [] (batch ∷ later) digest) c advice w h = rw h.1 (respan h.1, (tt, tt))
  next-of (Within [] [] digest) c advice w h = (span_ends, tt)
  next-of (Turned a) c advice w h =
      bit-cases (λ n. IsNext (Turned a) c (turn_step constants a n)) (top c) (turn-bit a advice c (top c) h)
      (λ bit. (loop_ends bit, tt)) (λ bit. (repeats bit, (w, (w, tt))))
  next-of (Closing digest) c advice w h = (closes, tt)
  next-of (Returning digest frame) c advice w h = (returns, tt)
  next-of (Leaving digest frame) c advice w h = (leaves, tt)

  -- what comes next is the step
  next-is : {task : Task} {c : Core} {mark : Mark} {rest : List Task} → Next constants task c mark rest → step_of constants task c ≡ (mark, rest)
  next-is (span {batch = batch} {later = later} read) =
      ap (batch_step constants (StartSpan batch) later (tree_digest constants (Span (batch ∷ later)))) read
  next-is (respan {batch = batch} {later = later} {digest = digest} read) = ap (batch_step constants (Respan batch) later digest) read
  next-is (split_1 {a = a} {b = b} bit) = ap (split_step constants a b) bit
  next-is (split_0 {a = a} {b = b} bit) = ap (split_step constants a b) bit
  next-is (loop_1 {a = a} bit) = ap (loop_step constants a) bit
  next-is (loop_0 {a = a} bit) = ap (loop_step constants a) bit
  next-is (repeats {a = a} bit) = ap (turn_step constants a) bit
  next-is (loop_ends {a = a} bit) = ap (turn_step constants a) bit
  next-is (dyn {targets = ts} found) = ap (dyn_step constants (tree_digest constants (Dyn ts))) found
  next-is _ = refl

module _ (constants : List ℕ) (kernel : List (List ℕ)) (limit : ℕ) where
  pub run-steps : (tree : Tree) (s t : State) (es : List Event) → IsWhole tree → execution constants kernel limit tree s ≡ Done t es
      → Steps constants kernel limit (Block tree ∷ []) s es t
  run-steps tree s t es w e =
      course-along constants kernel limit (λ todo s es t. AreFull todo → Steps constants kernel limit todo s es t) (λ s w. ended)
      (λ task todo s t u es fs e h w.
      let c = cycle-is constants kernel limit _ s t es e in
      let n = next-of constants kernel task s.core _ w.0 (cycle-allowed constants kernel limit _ s t es e).1 in
      rw c.1 (goes n.0 c.0 (h (each-append IsFull _ todo n.1 w.1))))
      (course-of constants kernel limit tree s) t es e (w, tt)

  steps-course : {todo : List Task} {s t : State} {es : List Event} → Steps constants kernel limit todo s es t
      → Course constants kernel limit todo s (Done t es)
  steps-course ended = finished
  steps-course (goes {mark = mark} {s = s} {t = t} next c later) =
      course-done constants kernel limit mark (event_of mark (advice_taken mark) s ∷ []) (next-is constants kernel next)
      (rw c.now (taking-done limit mark (advice_taken mark) (effect_of constants kernel mark) s c.core c.before c.enough c.made))
      (steps-course later)

  pub steps-run : (tree : Tree) (s t : State) (es : List Event) → Steps constants kernel limit (Block tree ∷ []) s es t
      → execution constants kernel limit tree s ≡ Done t es
  steps-run tree s t es steps = course-same constants kernel limit (course-of constants kernel limit tree s) (steps-course steps)
