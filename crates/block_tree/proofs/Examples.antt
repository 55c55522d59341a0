-- Runs of small trees, computed: the definitions give what the machine's rules say.
use Rattle.std.proofs.Common.{◌≡◌, ℕ, zero, suc, List, [], ◌∷◌, refl, length, take}
use Rattle.vm_field.specs.Machine.{start}
use Rattle.vm_ops.specs.declared.cause.Cause.{Cause}
use Rattle.vm_ops.specs.declared.cause.Cause.TheVariants.{NestedTooDeep, OpaqueBlock, BadBatch, NotBinary, NotInKernel, DepthAtReturn, NotU32, AdviceEmpty}
use Rattle.vm_ops.specs.Step.{cycle_taking, act, left_cells, stack_after}
use Rattle.vm_ops.specs.Codes as codes
use Rattle.vm_ops.specs.Values.{computed, trap_of}
use Rattle.op_pack.specs.Reading.{reading, read_on}
use Rattle.block_tree.specs.Trees.{Tree, Opaque, Span, Join, Split, Loop, Call, Syscall}
use Rattle.block_tree.specs.Cycles.{pops_bit, opens, closes, reads, enters_call, enters_syscall, returns_to}
use Rattle.block_tree.specs.Execution.{Outcome, Done, Trap, OutOfCycles, seq, skip, taking, execution}
use Rattle.block_tree.specs.Laws.{tape_taken}

-- What is shown of an outcome, and of a cut: last clock, depth, first four cells, what was taken of the tape, number of events.
pub data Short : Type 0 where
  done : ℕ → ℕ → List ℕ → List ℕ → ℕ → Short
  trap : ℕ → Cause → Short
  out : ℕ → ℕ → List ℕ → List ℕ → ℕ → Short

abbrev short : Outcome → Short
short (Done s es) = done s.core.clock (length s.core.stack) (take 4 s.core.stack) (tape_taken es) (length es)
short (Trap clock cause) = trap clock cause
short (OutOfCycles s es) = out s.core.clock (length s.core.stack) (take 4 s.core.stack) (tape_taken es) (length es)

-- a run within a limit from a stack and a tape
ran : ℕ → Tree → List ℕ → List ℕ → Short
unfolding seq skip taking cycle_taking act left_cells stack_after computed trap_of reading read_on pops_bit opens closes reads
    enters_call enters_syscall returns_to start codes.op_at codes.every_op
ran limit tree stack tape = short (execution [] [] limit tree (start stack tape))

-- an empty stack's first cells
abbrev zeros : List ℕ
zeros = 0 ∷ 0 ∷ 0 ∷ 0 ∷ []

abbrev batch : ℕ → ℕ → ℕ → ℕ → List ℕ
batch a b c d = a ∷ b ∷ c ∷ d ∷ 0 ∷ 0 ∷ 0 ∷ 0 ∷ []

abbrev one : ℕ → ℕ → Tree
one a b = Span (batch a b 0 0 ∷ [])

abbrev eights : ℕ → List ℕ
eights n = n ∷ n ∷ n ∷ n ∷ n ∷ n ∷ n ∷ n ∷ []

abbrev deep : ℕ → Tree
deep zero = one 0 0
deep (suc n) = Join (deep n) (Opaque [])

empty_run : ran 10 (one 0 0) [] [] ≡ done 3 16 zeros [] 3
unfolding ran
empty_run = refl

limit_of_three : ran 3 (one 0 0) [] [] ≡ done 3 16 zeros [] 3
unfolding ran
limit_of_three = refl

limit_of_two : ran 2 (one 0 0) [] [] ≡ out 2 16 zeros [] 2
unfolding ran
limit_of_two = refl

limit_of_none : ran 0 (Opaque []) [] [] ≡ out 0 16 zeros [] 0
unfolding ran
limit_of_none = refl

two_and_three : ran 10 (Span (batch 145318597 2 3 7 ∷ [])) [] [] ≡ done 7 18 (7 ∷ 5 ∷ 0 ∷ 0 ∷ []) [] 7
unfolding ran
two_and_three = refl

pad : ran 10 (one 52 0) [] [] ≡ done 3 17 zeros [] 3
unfolding ran
pad = refl

ninth_place : ran 100 (Span (batch 1134765260439810 69 5 0 ∷ [])) [] [] ≡ done 13 17 (5 ∷ 0 ∷ 0 ∷ 0 ∷ []) [] 13
unfolding ran
ninth_place = refl

two_batches : ran 100 (Span (eights 145249953336295682 ∷ batch 2 0 0 0 ∷ [])) [] []
    ≡ done 76 16 zeros [] 76
unfolding ran
two_batches = refl

loop_not_entered : ran 100 (Loop (one 69 1)) [] [] ≡ done 2 16 zeros [] 2
unfolding ran
loop_not_entered = refl

loop_of_a_split : ran 100 (Loop (Split (one 1032 0) (one 258 0))) (1 ∷ 1 ∷ 1 ∷ 0 ∷ 0 ∷ []) []
    ≡ done 15 16 zeros [] 15
unfolding ran
loop_of_a_split = refl

loop_cut_before_a_turn : ran 7 (Loop (Split (one 1032 0) (one 258 0))) (1 ∷ 1 ∷ 1 ∷ 0 ∷ 0 ∷ []) []
    ≡ out 7 16 (1 ∷ 0 ∷ 0 ∷ 0 ∷ []) [] 7
unfolding ran
loop_cut_before_a_turn = refl

sum_of_no_u32 : ran 100 (Span (batch 90677957 4294967296 1 0 ∷ [])) [] [] ≡ trap 3 NotU32
unfolding ran
sum_of_no_u32 = refl

deep_return : ran 100 (Call (one 69 1)) [] [] ≡ trap 5 DepthAtReturn
unfolding ran
deep_return = refl

call : ran 100 (Join (one 69 9) (Call (one 4805 1))) [] [] ≡ done 12 17 (10 ∷ 0 ∷ 0 ∷ 0 ∷ []) [] 12
unfolding ran
call = refl

advice_ends : ran 100 (one 8385 0) [] (6 ∷ []) ≡ trap 2 AdviceEmpty
unfolding ran
advice_ends = refl

advice_before_it_ends : ran 2 (one 8385 0) [] (6 ∷ []) ≡ out 2 17 (6 ∷ 0 ∷ 0 ∷ 0 ∷ []) (6 ∷ []) 2
unfolding ran
advice_before_it_ends = refl

advice : ran 100 (one 8385 0) [] (6 ∷ 7 ∷ 8 ∷ []) ≡ done 4 18 (7 ∷ 6 ∷ 0 ∷ 0 ∷ []) (6 ∷ 7 ∷ []) 4
unfolding ran
advice = refl

unknown_syscall : ran 100 (Syscall (one 0 0)) [] [] ≡ trap 0 NotInKernel
unfolding ran
unknown_syscall = refl

opaque_block : ran 100 (Opaque []) [] [] ≡ trap 0 OpaqueBlock
unfolding ran
opaque_block = refl

second_opaque : ran 100 (Join (one 0 0) (Opaque [])) [] [] ≡ trap 4 OpaqueBlock
unfolding ran
second_opaque = refl

split_by_two : ran 100 (Split (one 0 0) (one 0 0)) (2 ∷ []) [] ≡ trap 0 NotBinary
unfolding ran
split_by_two = refl

loop_by_two : ran 100 (Loop (one 0 0)) (2 ∷ []) [] ≡ trap 0 NotBinary
unfolding ran
loop_by_two = refl

loop_by_two_later : ran 100 (Loop (one 0 0)) (1 ∷ 2 ∷ []) [] ≡ trap 4 NotBinary
unfolding ran
loop_by_two_later = refl

join_in_a_batch : ran 100 (one 70 0) [] [] ≡ trap 0 BadBatch
unfolding ran
join_in_a_batch = refl

push_without_position : ran 100 (Span (batch 0 0 0 0 ∷ batch 69 0 0 0 ∷ [])) [] [] ≡ trap 2 BadBatch
unfolding ran
push_without_position = refl

nested : ran 5000 (deep 1023) [] [] ≡ trap 1026 OpaqueBlock
unfolding ran
nested = refl

nested_too_deep : ran 5000 (deep 1024) [] [] ≡ trap 1024 NestedTooDeep
unfolding ran
nested_too_deep = refl
