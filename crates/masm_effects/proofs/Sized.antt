-- The sizes of a state's parts, which an operation keeps whatever it pushes.
use Rattle.std.proofs.Common.{◌≡◌, inl, inr, ℕ, ◌≤◌, List, drop, length, slice_index, Option, Some, None, Ok, refl, subst, arith}
use Rattle.std.proofs.lemmas.List.{length-drop, length-take-le}
use Rattle.std.specs.FinMap.{insert}
use Rattle.std.specs.Option.{MatchOption}
use Rattle.vm_field.proofs.Places.{same_place, word_at-insert_same, word_at-insert_other}
use Rattle.vm_field.specs.Limits.{number_of_constants}
use Rattle.vm_field.specs.Machine.{Core, State, WordMap, word_at, IsWellFormedCore}
use Rattle.vm_ops.proofs.Sizing.{length-stack_after}
use Rattle.vm_ops.proofs.StepLemmas.{stepped}
use Rattle.vm_ops.specs.declared.item.Item.{Item}
use Rattle.vm_ops.specs.declared.op.Op.{Op}
use Rattle.vm_ops.specs.declared.op.Op.TheVariants as ops
use Rattle.vm_ops.specs.Sizes.{IsSeenBy}
use Rattle.vm_ops.specs.Step.{memory_with, step}
use Rattle.vm_ops.specs.Stepping.{seen_at}
use Rattle.vm_ops.specs.Values.{Seen, advice_of, written}

-- at least sixteen cells, and words of four elements
pub record IsSized (c : Core) : Type 0 where
  pub stack : 16 ≤ length c.stack
  pub digest : length c.digest ≡ 4
  pub words : (context address : ℕ) → length (word_at c.memory context address) ≡ 4

pub sized-of : (c : Core) → IsWellFormedCore c → IsSized c
sized-of c well = record {
  stack = well.deep;
  digest = well.digest.size;
  words = λ context address. (well.words context address).size;
}

length-written : (op : Op) (s : Seen) → length s.word ≡ 4 → MatchOption (written op s) (Unit {0}) (λ word. length word ≡ 4)
length-written ops.MStore s h = let later : length (drop 1 s.word) ≡ 3 = rw (length-drop, h) refl in omega arith
length-written ops.MStoreW s h = refl
length-written ops.Noop s h = tt
length-written _ s h = tt

words-kept : (memory : WordMap) (context place : ℕ) (o : Option (List ℕ)) → ((c a : ℕ) → length (word_at memory c a) ≡ 4)
    → MatchOption o (Unit {0}) (λ word. length word ≡ 4) → (c a : ℕ) → length (word_at (memory_with memory context place o) c a) ≡ 4
words-kept memory context place None h e c a = h c a
words-kept memory context place (Some word) h e c a =
    elim (same_place (c, a) (context, place)) [
      | inl same ↦
          subst (λ p. length (word_at (insert memory p word) c a) ≡ 4) same (rw (word_at-insert_same memory c a word) e)
      | inr differ ↦ rw (word_at-insert_other memory (context, place) word c a differ) (h c a)
    ]

pub step-sized : (constants : List ℕ) (item : Item) (s t : State) → length constants ≡ number_of_constants → IsSized s.core
    → step constants item s ≡ Ok t → IsSized t.core
step-sized constants item s t f h e =
    let done = stepped constants item s t e in
    let sized : IsSeenBy item.op (seen_at constants item s) = record {
      constants = f;
      cells = length-take-le 16 s.core.stack h.stack;
      word = h.words s.core.context (slice_index s.core.stack 0);
      digest = h.digest;
      advice = length-take-le (advice_of item.op) s.tape done.enough;
    } in
    rw done.is (record {
      stack = (let depth = length-stack_after item.op (seen_at constants item s) s.core.stack sized in omega arith);
      digest = h.digest;
      words = words-kept s.core.memory s.core.context (slice_index s.core.stack 0) (written item.op (seen_at constants item s)) h.words
          (length-written item.op (seen_at constants item s) sized.word);
    })
