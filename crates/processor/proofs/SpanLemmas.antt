-- The batches of a span and the operations of a batch, one after another.
use Rattle.std.proofs.Common.{◌≡◌, ℕ, ◌+◌, ◌<◌, ◌≤◌, List, ◌∷◌, length, drop, get_or, Ok, refl, sym, ap, subst, ◌∙◌}
use Rattle.std.proofs.lemmas.List.{drop_all, drop_more}
use Rattle.vm_field.specs.Machine as machine
use Rattle.vm_ops.specs.declared.item.Item.{Item}
use Rattle.op_pack.specs.Reading.{reading}
use Rattle.block_tree.specs.Cycles.{Do, EndSpan, Respan, StartSpan}
use Rattle.block_tree.specs.Execution.{Part, seq}
use Rattle.block_tree.specs.Trees.{Span}
use Rattle.vm_state.specs.Views.{state_of}
use Rattle.tree_hash.specs.Nodes.{elements_of}
use Rattle.machine_cycles.specs.Running.{Ran}
use Rattle.machine_cycles.specs.Settings.{cycle_in}
use Rattle.processor.specs.Parts.{batches_in, digest_of, execution_in, operations_in, read_operations_in}
use Rattle.tree_hash.specs.declared.batch.ReadBatch.{ReadBatch}
use Rattle.machine_cycles.specs.declared.cycling.Runner.{Runner}
use Rattle.machine_cycles.specs.declared.setting.Setting.{Setting}
use Rattle.processor.proofs.RunLemmas.{Left, left-along, ran-along, ran-skip}

-- the list from a place on, where something stands there
from_place : {X : Type 0} (xs : List X) (i : ℕ) (x : X) → i < length xs → x ≡ get_or xs i x → drop i xs ≡ x ∷ drop (i + 1) xs
from_place xs i x within is = drop_more xs i x within ∙ ap (λ y. y ∷ drop (i + 1) xs) (sym is)

module _ (setting : Setting) where
  -- the next operation, and then the others
  pub left-operation : (items : List Item) (i : ℕ) (item : Item) {whole : Part} {from now : Runner} → i < length items → item ≡ get_or items i item
      → Left setting whole (operations_in setting (drop i items)) from now
      → Left setting whole (seq (cycle_in setting (Do item)) (operations_in setting (drop (i + 1) items))) from now
  left-operation items i item {now = now} within is left =
      left-along (operations_in setting (drop i items)) (seq (cycle_in setting (Do item)) (operations_in setting (drop (i + 1) items)))
      (ap (λ xs. operations_in setting xs (state_of now.state)) (from_place items i item within is)) left

  pub no_operations : (items : List Item) (i : ℕ) (now : Runner) (u : Unit {0}) → length items ≤ i
      → Ran setting (operations_in setting (drop i items) (state_of now.state)) now.log (Ok u) now
  no_operations items i now u past =
      ran-along (ap (λ xs. operations_in setting xs (state_of now.state)) (drop_all i items past)) (ran-skip setting now u)

  -- the next batch, and then the others
  pub left-batch : (batches : List ReadBatch) (i : ℕ) (batch : ReadBatch) (elements : List ℕ) {whole : Part} {from now : Runner} → i < length batches
      → batch ≡ get_or batches i batch → elements ≡ batch.elements
      → Left setting whole (batches_in setting Respan (elements_of (drop i batches))) from now
      → Left setting whole (seq (cycle_in setting (Respan elements)) (seq (read_operations_in setting (reading batch.elements))
      (batches_in setting Respan (elements_of (drop (i + 1) batches))))) from now
  left-batch batches i batch elements {whole} {from} {now} within is same left =
      subst (λ shown. Left setting whole (seq (cycle_in setting (Respan shown))
      (seq (read_operations_in setting (reading batch.elements)) (batches_in setting Respan (elements_of (drop (i + 1) batches)))))
      from now) (sym same) (
      left-along (batches_in setting Respan (elements_of (drop i batches)))
      (seq (cycle_in setting (Respan batch.elements))
      (seq (read_operations_in setting (reading batch.elements))
      (batches_in setting Respan (elements_of (drop (i + 1) batches)))))
      (ap (λ xs. batches_in setting Respan (elements_of xs) (state_of now.state)) (from_place batches i batch within is)) left)

  -- the first batch, and then the others
  pub first-batch : (batches : List ReadBatch) (batch : ReadBatch) (later : List ReadBatch) (elements : List ℕ) (s : machine.State)
      → batches ≡ batch ∷ later → elements ≡ batch.elements
      → batches_in setting StartSpan (elements_of batches) s
      ≡ seq (cycle_in setting (StartSpan elements))
      (seq (read_operations_in setting (reading batch.elements)) (batches_in setting Respan (elements_of later))) s
  first-batch batches batch later elements s is same =
      ap (λ xs. batches_in setting StartSpan (elements_of xs) s) is
      ∙ ap (λ shown. seq (cycle_in setting (StartSpan shown))
      (seq (read_operations_in setting (reading batch.elements)) (batches_in setting Respan (elements_of later))) s) (sym same)

  pub no_batches : (batches : List ReadBatch) (i : ℕ) (now : Runner) (u : Unit {0}) → length batches ≤ i
      → Ran setting (batches_in setting Respan (elements_of (drop i batches)) (state_of now.state)) now.log (Ok u) now
  no_batches batches i now u past =
      ran-along (ap (λ xs. batches_in setting Respan (elements_of xs) (state_of now.state)) (drop_all i batches past)) (ran-skip setting now u)

  pub span-as : (batches : List (List ℕ)) (digest : List ℕ) (s : machine.State) → digest ≡ digest_of setting (Span batches)
      → execution_in setting (Span batches) s ≡ seq (batches_in setting StartSpan batches) (cycle_in setting (EndSpan digest)) s
  span-as batches digest s e = rw e refl
