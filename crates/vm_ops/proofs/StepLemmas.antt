-- Where a step goes on, where it traps, and that it leads from one well-formed state to another.
use Rattle.std.proofs.Common.{◌≡◌, ℕ, ◌+◌, ◌<◌, ◌≤◌, ◌⊎◌, inl, inr, ◌↔◌, Bool, true, false, cond, List, drop, length, Option, Some, None, Ok, Err, slice_index, refl, ap, sym, subst, arith, nat_lt, unwrap_or}
use Rattle.std.proofs.lemmas.Bool.{ltb-true, ltb-false, le-ltb}
use Rattle.std.proofs.lemmas.List.{length-take-le}
use Rattle.std.specs.Option.{MatchOption}
use Rattle.vm_field.proofs.Elements.{elements-append, elements-drop, elements-filled_up, elements-take}
use Rattle.vm_field.proofs.Places.{words-insert}
use Rattle.vm_field.specs.Limits.{number_of_constants}
use Rattle.vm_field.specs.Field.{prime, AreElements}
use Rattle.vm_field.specs.Machine.{Core, State, WordMap, word_at, IsWord, IsWellFormed}
use Rattle.vm_ops.proofs.Sizing.{length-stack_after}
use Rattle.vm_ops.proofs.ValueLemmas.{elements-left_cells, fmp_after-below, word-written}
use Rattle.vm_ops.specs.declared.cause.Cause.{Cause}
use Rattle.vm_ops.specs.declared.cause.Cause.TheVariants.{AdviceEmpty}
use Rattle.vm_ops.specs.declared.item.Item.{Item}
use Rattle.vm_ops.specs.declared.op.Op.{Op}
use Rattle.vm_ops.specs.Moves.{takes_of}
use Rattle.vm_ops.specs.Sizes.{IsSeenBy, IsMadeOfElements, depth_after}
use Rattle.vm_ops.specs.Step.{performed, memory_with, unless_trapped, act, ticked, cycle_taking, step, left_cells, stack_after}
use Rattle.vm_ops.specs.Stepping.{seen_at, state_after, Stepped, Trapped}
use Rattle.vm_ops.specs.Values.{Seen, advice_of, trap_of, written}

-- a state with the clock one later and so much of the tape taken
abbrev later : ℕ → List ℕ → Core → State
later n tape c = record { core = record c { clock = c.clock + 1 }; tape = drop n tape }

-- ---- both ways, over the two tests of a step

record Goes (n : ℕ) (tape : List ℕ) (o : Option Cause) (c : Core) (t : State) : Type 0 where
  enough : n ≤ length tape
  free : o ≡ None
  is : t ≡ later n tape c

goes : (short : Bool) (n : ℕ) (tape : List ℕ) (o : Option Cause) (c : Core) (t : State) → nat_lt (length tape) n ≡ short
    → cond short (Err AdviceEmpty) (ticked n tape (unless_trapped o c)) ≡ Ok t → Goes n tape o c t
goes true n tape o c t short e = cc
goes false n tape None c t short e = record { enough = ltb-false (length tape) n short; free = refl; is = cc }
goes false n tape (Some cause) c t short e = cc

gone : (short : Bool) (n : ℕ) (tape : List ℕ) (o : Option Cause) (c : Core) → short ≡ false → o ≡ None
    → cond short (Err AdviceEmpty) (ticked n tape (unless_trapped o c)) ≡ Ok (later n tape c)
gone true n tape o c e f = cc
gone false n tape None c e f = refl
gone false n tape (Some cause) c e f = cc

abbrev Why : ℕ → List ℕ → Option Cause → Cause → Type 0
Why n tape o cause = ((length tape < n) × (cause ≡ AdviceEmpty)) ⊎ ((n ≤ length tape) × (o ≡ Some cause))

stops : (short : Bool) (n : ℕ) (tape : List ℕ) (o : Option Cause) (c : Core) (cause : Cause) → nat_lt (length tape) n ≡ short
    → cond short (Err AdviceEmpty) (ticked n tape (unless_trapped o c)) ≡ Err cause → Why n tape o cause
stops true n tape o c cause short e = inl (ltb-true (length tape) n short, cc)
stops false n tape None c cause short e = cc
stops false n tape (Some own) c cause short e = inr (ltb-false (length tape) n short, cc)

stopped : (short : Bool) (n : ℕ) (tape : List ℕ) (o : Option Cause) (c : Core) (cause : Cause) → nat_lt (length tape) n ≡ short
    → Why n tape o cause → cond short (Err AdviceEmpty) (ticked n tape (unless_trapped o c)) ≡ Err cause
stopped true n tape o c cause short (inl why) = cc
stopped true n tape o c cause short (inr why) = absurd (let few = ltb-true (length tape) n short in omega (arith, few, why.0))
stopped false n tape o c cause short (inl why) = absurd (let many = ltb-false (length tape) n short in omega (arith, many, why.0))
stopped false n tape None c cause short (inr why) = cc
stopped false n tape (Some own) c cause short (inr why) = cc

-- ---- of a step

pub stepped : (constants : List ℕ) (item : Item) (s t : State) → step constants item s ≡ Ok t → Stepped constants item s t
unfolding cycle_taking act
stepped constants item s t e =
    let done = goes (nat_lt (length s.tape) (advice_of item.op)) (advice_of item.op) s.tape (trap_of item.op (seen_at constants item s))
    (performed item.op (seen_at constants item s) s.core) t refl e in
    record { enough = done.enough; free = done.free; is = done.is }

pub step-goes : (constants : List ℕ) (item : Item) (s t : State) → Stepped constants item s t → step constants item s ≡ Ok t
unfolding cycle_taking act
step-goes constants item s t h =
    subst (λ (u : State). step constants item s ≡ Ok u) (sym h.is)
    (gone (nat_lt (length s.tape) (advice_of item.op)) (advice_of item.op) s.tape (trap_of item.op (seen_at constants item s))
    (performed item.op (seen_at constants item s) s.core) (le-ltb (length s.tape) (advice_of item.op) h.enough) h.free)

pub trapped : (constants : List ℕ) (item : Item) (s : State) (cause : Cause) → step constants item s ≡ Err cause → Trapped constants item s cause
unfolding cycle_taking act
trapped constants item s cause e = record {
  why = stops (nat_lt (length s.tape) (advice_of item.op)) (advice_of item.op) s.tape (trap_of item.op (seen_at constants item s))
      (performed item.op (seen_at constants item s) s.core) cause refl e;
}

pub step-traps : (constants : List ℕ) (item : Item) (s : State) (cause : Cause) → Trapped constants item s cause → step constants item s ≡ Err cause
unfolding cycle_taking act
step-traps constants item s cause h =
    stopped (nat_lt (length s.tape) (advice_of item.op)) (advice_of item.op) s.tape (trap_of item.op (seen_at constants item s))
    (performed item.op (seen_at constants item s) s.core) cause refl h.why

pub step-ok : (constants : List ℕ) (item : Item) (s t : State) → (step constants item s ≡ Ok t) ↔ Stepped constants item s t
step-ok constants item s t = (stepped constants item s t, step-goes constants item s t)

pub step-err : (constants : List ℕ) (item : Item) (s : State) (cause : Cause)
    → (step constants item s ≡ Err cause) ↔ Trapped constants item s cause
step-err constants item s cause = (trapped constants item s cause, step-traps constants item s cause)

pub step-clock : (constants : List ℕ) (item : Item) (s t : State) → step constants item s ≡ Ok t → t.core.clock ≡ s.core.clock + 1
step-clock constants item s t e = ap (λ (u : State). u.core.clock) (stepped constants item s t e).is

-- ---- from a well-formed state

pub seen_at-sized : (constants : List ℕ) (item : Item) (s : State) → length constants ≡ number_of_constants → IsWellFormed s
    → advice_of item.op ≤ length s.tape → IsSeenBy item.op (seen_at constants item s)
seen_at-sized constants item s e h enough = record {
  constants = e;
  cells = length-take-le 16 s.core.stack h.core.deep;
  word = (h.core.words s.core.context (slice_index s.core.stack 0)).size;
  digest = h.core.digest.size;
  advice = length-take-le (advice_of item.op) s.tape enough;
}

pub seen_at-elements : (constants : List ℕ) (item : Item) (s : State) → unwrap_or item.imm 0 < prime → IsWellFormed s
    → IsMadeOfElements (seen_at constants item s)
seen_at-elements constants item s small h = record {
  immediate = small;
  advice = elements-take (advice_of item.op) s.tape h.tape;
  word = (h.core.words s.core.context (slice_index s.core.stack 0)).below;
  fmp = h.core.fmp;
  digest = h.core.digest.below;
  cells = elements-take 16 s.core.stack h.core.cells;
}

pub step-depth : (constants : List ℕ) (item : Item) (s t : State) → length constants ≡ number_of_constants → IsWellFormed s
    → step constants item s ≡ Ok t → length t.core.stack ≡ depth_after item.op (length s.core.stack)
step-depth constants item s t f h e =
    let done = stepped constants item s t e in
    rw done.is (length-stack_after item.op _ s.core.stack (seen_at-sized constants item s f h done.enough))

words_kept : (memory : WordMap) (context place : ℕ) (o : Option (List ℕ)) → ((c a : ℕ) → IsWord (word_at memory c a))
    → MatchOption o (Unit {0}) IsWord → (c a : ℕ) → IsWord (word_at (memory_with memory context place o) c a)
words_kept memory context place None h new c a = h c a
words_kept memory context place (Some word) h new c a = words-insert memory (context, place) word new h c a

pub elements-stack_after : (op : Op) (s : Seen) (stack : List ℕ) → IsSeenBy op s → IsMadeOfElements s → trap_of op s ≡ None
    → AreElements stack → AreElements (stack_after op s stack)
unfolding stack_after
elements-stack_after op s stack h m free below =
    elements-filled_up _ (elements-append (left_cells op s) _ (elements-left_cells op s h m free) (elements-drop (takes_of op) stack below))

kept : (constants : List ℕ) (item : Item) (s : State) → IsWellFormed s → IsSeenBy item.op (seen_at constants item s)
    → IsMadeOfElements (seen_at constants item s) → trap_of item.op (seen_at constants item s) ≡ None
    → IsWellFormed (state_after constants item s)
kept constants item s h sized made free =
    let op = item.op in
    let sees = seen_at constants item s in
    let depth = length-stack_after op sees s.core.stack sized in
    record {
      core = record {
        deep = omega arith;
        cells = elements-stack_after op sees s.core.stack sized made free h.core.cells;
        fmp = fmp_after-below op sees h.core.fmp;
        digest = h.core.digest;
        words = words_kept s.core.memory s.core.context (slice_index s.core.stack 0) (written op sees) h.core.words
            (word-written op sees sized.word made);
      };
      tape = elements-drop (advice_of op) s.tape h.tape;
    }

pub step-kept : (constants : List ℕ) (item : Item) (s t : State) → length constants ≡ number_of_constants → unwrap_or item.imm 0 < prime
    → IsWellFormed s → step constants item s ≡ Ok t → IsWellFormed t
step-kept constants item s t f small h e =
    let done = stepped constants item s t e in
    subst IsWellFormed (sym done.is)
    (kept constants item s h (seen_at-sized constants item s f h done.enough) (seen_at-elements constants item s small h) done.free)
