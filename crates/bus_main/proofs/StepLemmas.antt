-- What a row gives and asks on all buses, from what it gives and asks on each.
use Rattle.std.proofs.Common.{◌≡◌, ℕ, ◌+◌, ◌^◌, ◌≤◌, ◌==◌, Bool, true, false, cond, List, [], ◌∷◌, ◌++◌, Option, Some, None, Result, Ok, Err, OnOk, refl, arith, lit≤}
use Rattle.buses.specs.Counts.{Counted, once, with_next}
use Rattle.buses.specs.declared.bus.Bus.{Bus}
use Rattle.buses.specs.declared.bus.Bus.TheVariants as bus
use Rattle.bus_kit.specs.Adding.{Tallied, CanCount, IsCounted}
use Rattle.bus_kit.specs.ByBus.{AreCounted, HaveRoom, both_by}
use Rattle.bus_kit.specs.Tallies.{steps_tallied, values_tallied}
use Rattle.bus_kit.specs.Widths.{tallied}
use Rattle.bus_kit.specs.declared.hasher.StepTally.{StepTally}
use Rattle.bus_kit.specs.declared.tallies.Tallies.{Tallies}
use Rattle.bus_kit.specs.declared.tally.Tally.{Tally}
use Rattle.bus_kit.specs.declared.values.ValueTally.{ValueTally}
use Rattle.bus_kit.proofs.AddingLemmas.{counted_within, none_counted}
use Rattle.air_kit.specs.DeepCells.{tuples_at_start}
use Rattle.air_kit.specs.Flags.{is_op, op_of}
use Rattle.air_kit.specs.Places.{Claim}
use Rattle.air_kit.specs.MainTuples.{accesses_of, bitwise_asked, blocks_asked, blocks_given, children_asked, children_given, groups_asked, groups_given, hasher_asked, kernel_asked, loops_asked, loops_given, main_asked, main_given, memory_asked, overflow_asked, overflow_given, range_asked}
use Rattle.vm_ops.specs.Codes.{is_ordinary_op, is_start_op, kind_of}
use Rattle.vm_ops.specs.declared.kind.Kind.TheVariants as kinds
use Rattle.vm_ops.proofs.CodeLemmas.{ordinary-kind}
use Rattle.vm_ops.specs.declared.op.Op.{Op}
use Rattle.vm_ops.specs.declared.op.Op.TheVariants as ops
use Rattle.bus_blocks.specs.Space.{HasSpace}
use Rattle.bus_main.specs.RowTuples.{HaveSpace, main_asked_at, main_given_at}
use Rattle.bus_blocks.proofs.BlockLemmas.{no_block, no_child, no_loop}
use Rattle.bus_blocks.proofs.TwoLemmas.{given_first}
use Rattle.bus_main.proofs.KernelLemmas.{no_call}
use Rattle.bus_main.proofs.LookupLemmas.{no_access, none_combined}

-- an ordinary operation is none of those of blocks
record IsOutside (op : Op) : Type 0 where
  end : false ≡ is_op op ops.End
  start : false ≡ is_start_op op
  repeat : false ≡ is_op op ops.Repeat
  loop : false ≡ is_op op ops.Loop
  syscall : false ≡ is_op op ops.Syscall

outside : (op : Op) → is_ordinary_op op ≡ true → IsOutside op
outside ops.Join h = absurd (cc)
outside ops.Split h = absurd (cc)
outside ops.Loop h = absurd (cc)
outside ops.Span h = absurd (cc)
outside ops.Call h = absurd (cc)
outside ops.Syscall h = absurd (cc)
outside ops.Dyn h = absurd (cc)
outside ops.End h = absurd (cc)
outside ops.Repeat h = absurd (cc)
outside ops.Respan h = absurd (cc)
outside ops.Halt h = absurd (cc)
outside op h = record { end = refl; start = refl; repeat = refl; loop = refl; syscall = refl }

-- another one is none of those of numbers and of memory
no_accesses_of : (op : Op) (x y : List ℕ) → is_ordinary_op op ≡ false → [] ≡ accesses_of op x y
unfolding accesses_of
no_accesses_of ops.MLoad x y h = absurd (cc)
no_accesses_of ops.MLoadW x y h = absurd (cc)
no_accesses_of ops.MStore x y h = absurd (cc)
no_accesses_of ops.MStoreW x y h = absurd (cc)
no_accesses_of op x y h = refl

no_and : (op : Op) → is_ordinary_op op ≡ false → false ≡ is_op op ops.U32And
no_and ops.U32And h = absurd (cc)
no_and op h = refl

no_xor : (op : Op) → is_ordinary_op op ≡ false → false ≡ is_op op ops.U32Xor
no_xor ops.U32Xor h = absurd (cc)
no_xor op h = refl

-- no count grew by more than 2^65
within : (n : ℕ) (a b : Tallied) (xs ys : List Counted) → IsCounted n a b xs ys → n ≤ 2 ^ 65 → IsCounted (2 ^ 65) a b xs ys
within n a b xs ys p few = counted_within n (2 ^ 65) a b xs ys p few

module _ (x y : List ℕ) (op : Op) (is : op ≡ op_of x) (t : Tallies) where
  -- the buses of an ordinary operation
  module _ (holds : is_ordinary_op op ≡ true) (groups : Tally 3) (overflow : Tally 3) (hasher : StepTally) (bitwise : Tally 4) (memory : Tally 8) (range : ValueTally)
      (to_groups : IsCounted 8 (tallied t.groups) (tallied groups) (groups_asked x y) (groups_given x y))
      (to_overflow : IsCounted 1 (tallied t.overflow) (tallied overflow) (overflow_asked x y) (overflow_given x y))
      (to_hasher : IsCounted 2 (steps_tallied t.hasher) (steps_tallied hasher) (hasher_asked x y) [])
      (to_bitwise : IsCounted 1 (tallied t.bitwise) (tallied bitwise) (bitwise_asked x y) [])
      (to_memory : IsCounted 1 (tallied t.memory) (tallied memory) (memory_asked x y) [])
      (to_range : IsCounted 16 (values_tallied t.range) (values_tallied range) (range_asked x y) []) where
    abbrev Ordinary : Tallies
    Ordinary = record t { groups = groups; overflow = overflow; hasher = hasher; bitwise = bitwise; memory = memory; range = range }

    pub ordinary_counted : (b : Bus) → IsCounted (2 ^ 65) (both_by t b) (both_by Ordinary b) (main_asked b x y) (main_given b x y)
    ordinary_counted bus.Blocks = no_block (2 ^ 65) (tallied t.blocks) x y op is (outside op holds).end (outside op holds).start
    ordinary_counted bus.Children =
        no_child (2 ^ 65) (tallied t.children) x y op is (kind_of op) kinds.Ordinary refl (ordinary-kind (kind_of op) holds) refl refl
    ordinary_counted bus.Loops = no_loop (2 ^ 65) (tallied t.loops) x y op is (outside op holds).repeat (outside op holds).loop
    ordinary_counted bus.Groups = within 8 _ _ _ _ to_groups (lit≤ tt)
    ordinary_counted bus.Overflow = within 1 _ _ _ _ to_overflow (lit≤ tt)
    ordinary_counted bus.Hasher = within 2 _ _ _ _ to_hasher (lit≤ tt)
    ordinary_counted bus.Bitwise = within 1 _ _ _ _ to_bitwise (lit≤ tt)
    ordinary_counted bus.Memory = within 1 _ _ _ _ to_memory (lit≤ tt)
    ordinary_counted bus.Range = within 16 _ _ _ _ to_range (lit≤ tt)
    ordinary_counted bus.Kernel = no_call (2 ^ 65) (tallied t.kernel) x y op is (outside op holds).syscall

  -- those of another one
  module _ (fails : is_ordinary_op op ≡ false) (blocks : Tally 12) (children : Tally 6) (loops : Tally 5) (groups : Tally 3) (overflow : Tally 3) (hasher : StepTally) (range : ValueTally) (kernel : Tally 4)
      (to_blocks : IsCounted 1 (tallied t.blocks) (tallied blocks) (blocks_asked x y) (blocks_given x y))
      (to_children : IsCounted 2 (tallied t.children) (tallied children) (children_asked x y) (children_given x y))
      (to_loops : IsCounted (2 ^ 64) (tallied t.loops) (tallied loops) (loops_asked x y) (loops_given x y))
      (to_groups : IsCounted 8 (tallied t.groups) (tallied groups) (groups_asked x y) (groups_given x y))
      (to_overflow : IsCounted 1 (tallied t.overflow) (tallied overflow) (overflow_asked x y) (overflow_given x y))
      (to_hasher : IsCounted 2 (steps_tallied t.hasher) (steps_tallied hasher) (hasher_asked x y) [])
      (to_range : IsCounted 16 (values_tallied t.range) (values_tallied range) (range_asked x y) []) where
    abbrev Control : Tallies
    Control =
        record t {
          blocks = blocks;
          children = children;
          loops = loops;
          groups = groups;
          overflow = overflow;
          hasher = hasher;
          range = range;
          kernel = kernel;
        }

    control_bus : IsCounted 1 (tallied t.kernel) (tallied kernel) (kernel_asked x y) [] → (b : Bus)
        → IsCounted (2 ^ 65) (both_by t b) (both_by Control b) (main_asked b x y) (main_given b x y)
    control_bus to_kernel bus.Blocks = within 1 _ _ _ _ to_blocks (lit≤ tt)
    control_bus to_kernel bus.Children = within 2 _ _ _ _ to_children (lit≤ tt)
    control_bus to_kernel bus.Loops = within (2 ^ 64) _ _ _ _ to_loops (lit≤ tt)
    control_bus to_kernel bus.Groups = within 8 _ _ _ _ to_groups (lit≤ tt)
    control_bus to_kernel bus.Overflow = within 1 _ _ _ _ to_overflow (lit≤ tt)
    control_bus to_kernel bus.Hasher = within 2 _ _ _ _ to_hasher (lit≤ tt)
    control_bus to_kernel bus.Bitwise = none_combined (2 ^ 65) (tallied t.bitwise) x y op is (no_and op fails) (no_xor op fails)
    control_bus to_kernel bus.Memory = no_access (2 ^ 65) (tallied t.memory) x y op is (no_accesses_of op x y fails)
    control_bus to_kernel bus.Range = within 16 _ _ _ _ to_range (lit≤ tt)
    control_bus to_kernel bus.Kernel = within 1 _ _ _ _ to_kernel (lit≤ tt)

-- the same where memory may have been refused at the last bus
pub ordinary_done : {E : Type 0} (x y : List ℕ) (op : Op) (is : op ≡ op_of x) (t : Tallies) (holds : is_ordinary_op op ≡ true)
    (groups : Tally 3) (overflow : Tally 3) (hasher : StepTally) (bitwise : Tally 4) (memory : Tally 8) (range : ValueTally) (r : Result (Unit {0}) E)
    → IsCounted 8 (tallied t.groups) (tallied groups) (groups_asked x y) (groups_given x y)
    → IsCounted 1 (tallied t.overflow) (tallied overflow) (overflow_asked x y) (overflow_given x y)
    → IsCounted 2 (steps_tallied t.hasher) (steps_tallied hasher) (hasher_asked x y) []
    → IsCounted 1 (tallied t.bitwise) (tallied bitwise) (bitwise_asked x y) []
    → IsCounted 1 (tallied t.memory) (tallied memory) (memory_asked x y) []
    → OnOk r (IsCounted 16 (values_tallied t.range) (values_tallied range) (range_asked x y) [])
    → OnOk r (AreCounted (2
    ^ 65) t (record t {
      groups = groups;
      overflow = overflow;
      hasher = hasher;
      bitwise = bitwise;
      memory = memory;
      range = range;
    })
    (λ b. main_asked b x y) (λ b. main_given b x y))
ordinary_done x y op is t holds groups overflow hasher bitwise memory range (Ok v) p0 p1 p2 p3 p4 p5 =
    ordinary_counted x y op is t holds groups overflow hasher bitwise memory range p0 p1 p2 p3 p4 p5
ordinary_done x y op is t holds groups overflow hasher bitwise memory range (Err e) p0 p1 p2 p3 p4 p5 = tt

pub control_done : {E : Type 0} (x y : List ℕ) (op : Op) (is : op ≡ op_of x) (t : Tallies) (fails : is_ordinary_op op ≡ false)
    (blocks : Tally 12) (children : Tally 6) (loops : Tally 5) (groups : Tally 3) (overflow : Tally 3) (hasher : StepTally) (range : ValueTally) (kernel : Tally 4) (r : Result (Unit {0}) E)
    → IsCounted 1 (tallied t.blocks) (tallied blocks) (blocks_asked x y) (blocks_given x y)
    → IsCounted 2 (tallied t.children) (tallied children) (children_asked x y) (children_given x y)
    → IsCounted (2 ^ 64) (tallied t.loops) (tallied loops) (loops_asked x y) (loops_given x y)
    → IsCounted 8 (tallied t.groups) (tallied groups) (groups_asked x y) (groups_given x y)
    → IsCounted 1 (tallied t.overflow) (tallied overflow) (overflow_asked x y) (overflow_given x y)
    → IsCounted 2 (steps_tallied t.hasher) (steps_tallied hasher) (hasher_asked x y) []
    → IsCounted 16 (values_tallied t.range) (values_tallied range) (range_asked x y) []
    → ((next : List ℕ) → OnOk r (IsCounted 1 (tallied t.kernel) (tallied kernel) (kernel_asked x next) []))
    → OnOk r (AreCounted (2 ^ 65) t
    (record t {
      blocks = blocks;
      children = children;
      loops = loops;
      groups = groups;
      overflow = overflow;
      hasher = hasher;
      range = range;
      kernel = kernel;
    })
    (λ b. main_asked b x y) (λ b. main_given b x y))
control_done x y op is t fails blocks children loops groups overflow hasher range kernel (Ok v) p0 p1 p2 p3 p4 p5 p6 p7 =
    control_bus x y op is t fails blocks children loops groups overflow hasher range kernel p0 p1 p2 p3 p4 p5 p6 (p7 y)
control_done x y op is t fails blocks children loops groups overflow hasher range kernel (Err e) p0 p1 p2 p3 p4 p5 p6 p7 = tt

-- What the statement gives first, and behind it what the row gives and asks, on one bus.
behind_first : (n : ℕ) (test : Bool) (a b c : Tallied) (first asked given : List Counted) → n + 2 ^ 65 ≤ 2 ^ 66
    → IsCounted n a b [] (cond test first []) → IsCounted (2 ^ 65) b c asked given → IsCounted (2 ^ 66) a c asked (cond test (first ++ given) given)
behind_first n true a b c first asked given few p q = given_first n (2 ^ 65) (2 ^ 66) a b c first asked given p q few
behind_first n false a b c first asked given few p q = given_first n (2 ^ 65) (2 ^ 66) a b c [] asked given p q few

-- what the statement gives on the two buses where it gives
pub record IsFirst (k : Claim) (i : ℕ) (t : Tallies) (children : Tally 6) (overflow : Tally 3) : Type 0 where
  pub digest : IsCounted 1 (tallied t.children) (tallied children) [] (cond (i == 0) (once (0 ∷ k.digest ++ 0 ∷ []) ∷ []) [])
  pub inputs : IsCounted (2 ^ 20) (tallied t.overflow) (tallied overflow) [] (cond (i == 0) (tuples_at_start k) [])

-- What a row gives and asks in its place: the statement's digest and its deep inputs first, then what it gives with the row behind it.
module _ (k : Claim) (x : List ℕ) (next : Option (List ℕ)) (i : ℕ) (t : Tallies) (children : Tally 6) (overflow : Tally 3) (now : Tallies)
    (first : IsFirst k i t children overflow)
    (behind : AreCounted (2 ^ 65) (record t { children = children; overflow = overflow }) now (λ b. with_next (main_asked b) i x next)
    (λ b. with_next (main_given b) i x next)) where
  -- a bus on which the statement gives nothing
  elsewhere : (b : Bus) (before after : Tallied) (given : List Counted)
      → IsCounted (2 ^ 65) before after (with_next (main_asked b) i x next) given
      → IsCounted (2 ^ 66) before after (with_next (main_asked b) i x next) (cond (i == 0) ([] ++ given) given)
  elsewhere b before after given p =
      let more : IsCounted (2 ^ 66) before after (with_next (main_asked b) i x next) given =
      counted_within (2 ^ 65) (2 ^ 66) before after (with_next (main_asked b) i x next) given p (lit≤ tt) in
      elim (i == 0) as (λ test. IsCounted (2 ^ 66) before after (with_next (main_asked b) i x next) (cond test ([] ++ given) given))
      [ true ↦ more | false ↦ more ]

  pub placed : AreCounted (2 ^ 66) t now (λ b. main_asked_at b i x next) (λ b. main_given_at k b i x next)
  placed bus.Blocks = elsewhere bus.Blocks (tallied t.blocks) (tallied now.blocks) _ (behind bus.Blocks)
  placed bus.Children =
      behind_first 1 (i == 0) (tallied t.children) (tallied children) (tallied now.children) (once (0 ∷ k.digest ++ 0 ∷ []) ∷ [])
      (with_next (main_asked bus.Children) i x next) (with_next (main_given bus.Children) i x next) (lit≤ tt) first.digest (behind bus.Children)
  placed bus.Loops = elsewhere bus.Loops (tallied t.loops) (tallied now.loops) _ (behind bus.Loops)
  placed bus.Groups = elsewhere bus.Groups (tallied t.groups) (tallied now.groups) _ (behind bus.Groups)
  placed bus.Overflow =
      behind_first (2 ^ 20) (i == 0) (tallied t.overflow) (tallied overflow) (tallied now.overflow) (tuples_at_start k)
      (with_next (main_asked bus.Overflow) i x next) (with_next (main_given bus.Overflow) i x next) (lit≤ tt) first.inputs (behind bus.Overflow)
  placed bus.Hasher = elsewhere bus.Hasher (steps_tallied t.hasher) (steps_tallied now.hasher) _ (behind bus.Hasher)
  placed bus.Bitwise = elsewhere bus.Bitwise (tallied t.bitwise) (tallied now.bitwise) _ (behind bus.Bitwise)
  placed bus.Memory = elsewhere bus.Memory (tallied t.memory) (tallied now.memory) _ (behind bus.Memory)
  placed bus.Range = elsewhere bus.Range (values_tallied t.range) (values_tallied now.range) _ (behind bus.Range)
  placed bus.Kernel = elsewhere bus.Kernel (tallied t.kernel) (tallied now.kernel) _ (behind bus.Kernel)

pub placed_done : {E : Type 0} (k : Claim) (x y : List ℕ) (i : ℕ) (t : Tallies) (children : Tally 6) (overflow : Tally 3) (now : Tallies)
    (r : Result (Unit {0}) E)
    → IsCounted 1 (tallied t.children) (tallied children) [] (cond (i == 0) (once (0 ∷ k.digest ++ 0 ∷ []) ∷ []) [])
    → IsCounted (2 ^ 20) (tallied t.overflow) (tallied overflow) [] (cond (i == 0) (tuples_at_start k) [])
    → OnOk r (AreCounted (2 ^ 65) (record t { children = children; overflow = overflow }) now (λ b. main_asked b x y) (λ b. main_given b x y))
    → OnOk r (AreCounted (2 ^ 66) t now (λ b. main_asked_at b i x (Some y)) (λ b. main_given_at k b i x (Some y)))
placed_done k x y i t children overflow now (Ok v) p o q =
    placed k x (Some y) i t children overflow now (record { digest = p; inputs = o }) q
placed_done k x y i t children overflow now (Err e) p o q = tt

pub placed_last : (k : Claim) (x : List ℕ) (i : ℕ) (t : Tallies) (children : Tally 6) (overflow : Tally 3)
    → IsCounted 1 (tallied t.children) (tallied children) [] (cond (i == 0) (once (0 ∷ k.digest ++ 0 ∷ []) ∷ []) [])
    → IsCounted (2 ^ 20) (tallied t.overflow) (tallied overflow) [] (cond (i == 0) (tuples_at_start k) [])
    → AreCounted (2 ^ 66) t (record t { children = children; overflow = overflow }) (λ b. main_asked_at b i x None) (λ b. main_given_at k b i x None)
placed_last k x i t children overflow p o =
    placed k x None i t children overflow (record t { children = children; overflow = overflow }) (record { digest = p; inputs = o }) nothing
  where
    nothing : (b : Bus)
        → IsCounted (2 ^ 65) (both_by (record t { children = children; overflow = overflow }) b)
        (both_by (record t { children = children; overflow = overflow }) b) [] []
    nothing b = none_counted (2 ^ 65) (both_by (record t { children = children; overflow = overflow }) b)

-- counts that are below 2^127 have space, also behind some more tuples
has_space : (t : Tallied) → CanCount t → HasSpace t
has_space t room u = let both = room u in (omega arith, omega arith)

has_space_behind : (n : ℕ) (t now : Tallied) (xs : List Counted) → n ≤ 2 ^ 20 → CanCount t → IsCounted n t now [] xs → HasSpace now
has_space_behind n t now xs few room p u =
    let both = room u in let asked = p.asked_grows u in let given = p.given_grows u in (omega arith, omega arith)

pub have_space : (t : Tallies) (children : Tally 6) (overflow : Tally 3) (xs ys : List Counted) → HaveRoom t
    → IsCounted 1 (tallied t.children) (tallied children) [] xs → IsCounted (2 ^ 20) (tallied t.overflow) (tallied overflow) [] ys
    → HaveSpace (record t { children = children; overflow = overflow })
have_space t children overflow xs ys room p o bus.Blocks = has_space (tallied t.blocks) (room bus.Blocks)
have_space t children overflow xs ys room p o bus.Children =
    has_space_behind 1 (tallied t.children) (tallied children) xs (lit≤ tt) (room bus.Children) p
have_space t children overflow xs ys room p o bus.Loops = has_space (tallied t.loops) (room bus.Loops)
have_space t children overflow xs ys room p o bus.Groups = has_space (tallied t.groups) (room bus.Groups)
have_space t children overflow xs ys room p o bus.Overflow =
    has_space_behind (2 ^ 20) (tallied t.overflow) (tallied overflow) ys (lit≤ tt) (room bus.Overflow) o
have_space t children overflow xs ys room p o bus.Hasher = has_space (steps_tallied t.hasher) (room bus.Hasher)
have_space t children overflow xs ys room p o bus.Bitwise = has_space (tallied t.bitwise) (room bus.Bitwise)
have_space t children overflow xs ys room p o bus.Memory = has_space (tallied t.memory) (room bus.Memory)
have_space t children overflow xs ys room p o bus.Range = has_space (values_tallied t.range) (room bus.Range)
have_space t children overflow xs ys room p o bus.Kernel = has_space (tallied t.kernel) (room bus.Kernel)
