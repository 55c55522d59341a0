-- Rows show eight elements of hashing, and words.
use Rattle.std.proofs.Common.{◌≡◌, ℕ, ◌+◌, ◌-◌, ◌<◌, ◌≤◌, Bool, true, false, cond, List, [], ◌∷◌, ◌++◌, length, replicate, sym, ap, ◌∙◌, arith, length-append, lit≤}
use Rattle.std.proofs.lemmas.List.{length-replicate}
use Rattle.std.proofs.lemmas.List.Elements.{All-replicate}
use Rattle.vm_field.specs.Field.{prime, AreElements}
use Rattle.vm_field.specs.Machine.{Core, State, IsWord, IsWellFormedCore, zero_word, word_at}
use Rattle.vm_field.proofs.Elements.{elements-append, word-of, word-zero}
use Rattle.vm_ops.specs.Codes.{accesses_memory}
use Rattle.vm_ops.proofs.MoveLemmas.{advice_of-below}
use Rattle.op_pack.specs.Reading.{IsBatch}
use Rattle.block_tree.specs.Cycles.{Mark, StartOpaque, StartSpan, StartJoin, StartSplit, StartDyn, Respan, Do, EndSpan, EndLoop, EndCall, EndSyscall, top, advice_taken}
use Rattle.block_tree.specs.Marks.{IsWholeMark}
use Rattle.block_tree.specs.RowLaws.{core_after}
use Rattle.block_tree.specs.Rows.{op_of_mark, hash_of, accessed, behind, four_of}
use Rattle.block_tree.specs.Steps.{IsCycle}

-- two words are eight elements
pub two-words : (v w : List ℕ) → IsWord v → IsWord w → IsBatch (v ++ w)
two-words v w hv hw = record {
  size = omega (arith, length-append v w, hv.size, hw.size);
  below = elements-append v w hv.below hw.below;
}

-- what tells the ends apart
flags : (a b c d : ℕ) → a + b + c + d ≤ 1 → IsWord (a ∷ b ∷ c ∷ d ∷ [])
flags a b c d l = word-of a b c d (omega arith) (omega arith) (omega arith) (omega arith)

pub hash-batch : (mark : Mark) → IsWholeMark mark → IsBatch (hash_of mark)
hash-batch StartOpaque h = two-words _ _ word-zero word-zero
hash-batch (StartDyn known) h = two-words _ _ word-zero word-zero
hash-batch (Do item) h = two-words _ _ word-zero word-zero
hash-batch (StartSpan batch) h = h
hash-batch (Respan batch) h = h
hash-batch (StartJoin first second) h = two-words _ _ h.0 h.1
hash-batch (StartSplit on_one on_zero) h = two-words _ _ h.0 h.1
hash-batch (EndSpan digest) h = two-words _ _ h (flags 0 1 0 0 (lit≤ tt))
hash-batch (EndLoop digest) h = two-words _ _ h (flags 1 0 0 0 (lit≤ tt))
hash-batch (EndCall digest frame) h = two-words _ _ h.0 (flags 0 0 1 0 (lit≤ tt))
hash-batch (EndSyscall digest frame) h = two-words _ _ h.0 (flags 0 0 0 1 (lit≤ tt))
hash-batch _ h = two-words _ _ h word-zero

pub four-word : (elements : List ℕ) → length elements ≤ 4 → AreElements elements → IsWord (four_of elements)
four-word elements l h = record {
  size = omega (arith, length-append elements (replicate (4 - length elements) 0), length-replicate {A = ℕ} (4 - length elements) 0);
  below = elements-append elements _ h (All-replicate (λ e. e < prime) (4 - length elements) 0 (omega arith));
}

pub advice-four : (mark : Mark) → advice_taken mark ≤ 4
advice-four (Do item) = advice_of-below item.op
advice-four StartOpaque = lit≤ tt
advice-four _ = lit≤ tt

word-cond : (b : Bool) (v w : List ℕ) → IsWord v → IsWord w → IsWord (cond b v w)
word-cond true v w hv hw = hv
word-cond false v w hv hw = hw

pub accessed-word : (mark : Mark) (before after : Core) → IsWellFormedCore after → IsWord (accessed mark before after)
accessed-word mark before after h =
    word-cond (accesses_memory (op_of_mark mark)) (word_at after.memory before.context (top before)) zero_word
    (h.words before.context (top before)) word-zero

pub shown-behind : (constants : List ℕ) (kernel : List (List ℕ)) (limit : ℕ) (mark : Mark) (s t : State) → IsCycle constants kernel limit mark s t
    → (accessed mark s.core (core_after constants kernel mark s) ≡ accessed mark s.core t.core)
    × (top (core_after constants kernel mark s) ≡ top t.core)
shown-behind constants kernel limit mark s t c =
    let after : core_after constants kernel mark s ≡ c.core = ap (λ r. behind r s.core) c.made in
    (ap (λ x. accessed mark s.core x) after ∙ ap (λ x. accessed mark s.core x.core) (sym c.now), ap top after ∙ ap (λ x. top x.core) (sym c.now))
