-- Tasks that are whole, and what they hold of the states on the way.
use Rattle.std.proofs.Common.{◌≡◌, ℕ, List, [], ◌∷◌, ◌++◌, length, All, Some}
use Rattle.std.proofs.lemmas.List.{length-take-le}
use Rattle.std.specs.List.{AllByRecursion}
use Rattle.std.proofs.lemmas.List.Elements.{All-nil, All-cons, All-head, All-tail}
use Rattle.vm_field.specs.Limits.{number_of_constants}
use Rattle.vm_field.specs.Machine.{Core, State, IsWord, IsWellFormedCore, IsWellFormed}
use Rattle.vm_field.proofs.Elements.{elements-take}
use Rattle.vm_ops.specs.Items.{IsOrdinaryItem}
use Rattle.vm_ops.specs.declared.item.Item.{Item}
use Rattle.op_pack.specs.Reading.{IsBatch, reading}
use Rattle.op_pack.proofs.OrdinaryLemmas.{ordinary_reading}
use Rattle.block_tree.specs.Trees.{Tree, Span, Join, Split, Loop, Call, Syscall, Dyn, IsWhole, tree_digest}
use Rattle.block_tree.specs.Cycles.{Mark, advice_taken}
use Rattle.block_tree.specs.Execution.{Event, event_of}
use Rattle.block_tree.specs.Logs.{IsLog, over, next, IsWholeEvent}
use Rattle.block_tree.specs.Marks.{IsWholeFrame, IsWholeMark}
use Rattle.block_tree.specs.Steps.{Task, Block, Within, Turned, Closing, Returning, Leaving, Next, span, join, split_1, split_0, loop_1, loop_0, call, syscall, dyn, operation, respan, span_ends, repeats, loop_ends, IsCycle, Steps, ended, goes}
use Rattle.block_tree.proofs.KeptLemmas.{cycle-kept, whole-frame}
use Rattle.block_tree.proofs.TargetLemmas.{first-whole}
use Rattle.block_tree.proofs.WholeTrees.{whole-digest}

abbrev pub IsWholeTask : Task → Type 0
IsWholeTask (Block tree) = IsWhole tree
IsWholeTask (Within items later digest) = All IsOrdinaryItem items × All IsBatch later × IsWord digest
IsWholeTask (Turned body) = IsWhole body
IsWholeTask (Closing digest) = IsWord digest
IsWholeTask (Returning digest frame) = IsWord digest × IsWholeFrame frame
IsWholeTask (Leaving digest frame) = IsWord digest × IsWholeFrame frame

abbrev pub AreWholeTasks : List Task → Type 0
AreWholeTasks tasks = AllByRecursion IsWholeTask tasks

pub each-append : (P : Task → Type 0) (a b : List Task) → AllByRecursion P a → AllByRecursion P b → AllByRecursion P (a ++ b)
each-append P [] b h g = g
each-append P (task ∷ tasks) b h g = (h.0, each-append P tasks b h.1 g)

pub whole-append : (a b : List Task) → AreWholeTasks a → AreWholeTasks b → AreWholeTasks (a ++ b)
whole-append a b h g = each-append IsWholeTask a b h g

module _ (constants : List ℕ) (len : length constants ≡ number_of_constants) where
  word : (tree : Tree) → IsWhole tree → IsWord (tree_digest constants tree)
  word tree w = whole-digest constants tree len w

  batch-whole : (batch : List ℕ) (later : List (List ℕ)) (items : List Item) → All IsBatch (batch ∷ later) → reading batch ≡ Some items
      → IsBatch batch × All IsOrdinaryItem items × All IsBatch later
  batch-whole batch later items w read =
      let begun = All-head IsBatch batch later w in (begun, ordinary_reading batch items begun read, All-tail IsBatch batch later w)

  -- of a whole task the first cycle is whole, and so is what is then to be done
  pub next-whole : {task : Task} {c : Core} {mark : Mark} {rest : List Task} → Next constants task c mark rest → IsWholeTask task → IsWellFormedCore c
      → IsWholeMark mark × AreWholeTasks rest
  next-whole (span {batch = batch} {later = later} {items = items} read) w h =
      let begun = batch-whole batch later items w.1 read in (begun.0, ((begun.1, begun.2, word (Span (batch ∷ later)) w), tt))
  next-whole (join {a = a} {b = b}) w h = ((word a w.0, word b w.1), (w.0, (w.1, (word (Join a b) w, tt))))
  next-whole (split_1 {a = a} {b = b} bit) w h = ((word a w.0, word b w.1), (w.0, (word (Split a b) w, tt)))
  next-whole (split_0 {a = a} {b = b} bit) w h = ((word a w.0, word b w.1), (w.1, (word (Split a b) w, tt)))
  next-whole (loop_1 {a = a} bit) w h = (word a w, (w, (w, tt)))
  next-whole (loop_0 {a = a} bit) w h = (word a w, (word (Loop a) w, tt))
  next-whole (call {c = c} {a = a}) w h = (word a w, (w, ((word (Call a) w, whole-frame c h), tt)))
  next-whole (syscall {c = c} {a = a}) w h = (word a w, (w, ((word (Syscall a) w, whole-frame c h), tt)))
  next-whole (dyn {targets = ts} {a = a} found) w h = (tt, (first-whole constants ts _ a w found, (word (Dyn ts) w, tt)))
  next-whole (operation {item = item} {items = items}) w h =
      (All-head IsOrdinaryItem item items w.0, ((All-tail IsOrdinaryItem item items w.0, w.1, w.2), tt))
  next-whole (respan {batch = batch} {later = later} {items = items} read) w h =
      let begun = batch-whole batch later items w.1 read in (begun.0, ((begun.1, begun.2, w.2), tt))
  next-whole span_ends w h = (w.2, tt)
  next-whole (repeats {a = a} bit) w h = (word a w, (w, (w, tt)))
  next-whole (loop_ends {a = a} bit) w h = (word (Loop a) w, tt)
  next-whole _ w h = (w, tt)

module _ (constants : List ℕ) (kernel : List (List ℕ)) (limit : ℕ) where
  pub steps-log : {todo : List Task} {s t : State} {events : List Event} → Steps constants kernel limit todo s events t
      → IsLog constants kernel limit s events t
  steps-log ended = over
  steps-log (goes task cycle later) = next cycle (steps-log later)

  whole-event : (mark : Mark) (s t : State) → IsCycle constants kernel limit mark s t → IsWholeMark mark → IsWellFormed s
      → IsWholeEvent (event_of mark (advice_taken mark) s)
  whole-event mark s t c w h = record {
    mark = w;
    core = h.core;
    size = length-take-le (advice_taken mark) s.tape c.enough;
    advice = elements-take (advice_taken mark) s.tape h.tape;
  }

  pub steps-whole : length constants ≡ number_of_constants
      → {todo : List Task} {s t : State} {events : List Event} → Steps constants kernel limit todo s events t → AreWholeTasks todo → IsWellFormed s
      → All IsWholeEvent events × IsWellFormed t
  steps-whole len ended w h = (All-nil IsWholeEvent, h)
  steps-whole len (goes {rest = rest} {todo = todo} {mark = mark} {s = s} {t = t} {events = events} task cycle later) w h =
      let n = next-whole constants len task w.0 h.core in
      let r = steps-whole len later (whole-append rest todo n.1 w.1) (cycle-kept constants kernel limit mark s t len cycle n.0 h) in
      (All-cons IsWholeEvent (event_of mark (advice_taken mark) s) events (whole-event mark s t cycle n.0 h) r.0, r.1)
