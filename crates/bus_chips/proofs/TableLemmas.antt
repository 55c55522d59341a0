-- What one table gives or asks on its bus is all that it gives and asks.
use Rattle.std.proofs.Common.{ℕ, ◌^◌, List, [], Option, Result, Ok, Err, OnOk, ◌≡◌, subst, lit≤}
use Rattle.buses.specs.Counts.{Counted}
use Rattle.air_kit.specs.ChipTuples.{bitwise_given, chip_asked, chip_given, hasher_given, kernel_given, left_asked, range_given}
use Rattle.air_kit.specs.Places.{Claim}
use Rattle.air_kit.specs.declared.trace.TableName.TheVariants as table
use Rattle.buses.specs.declared.bus.Bus.{Bus}
use Rattle.buses.specs.declared.bus.Bus.TheVariants as bus
use Rattle.bus_kit.specs.Adding.{Tallied, IsCounted}
use Rattle.bus_kit.specs.ByBus.{AreCounted, both_by}
use Rattle.bus_kit.specs.Tallies.{steps_tallied, values_tallied}
use Rattle.bus_kit.specs.Widths.{tallied}
use Rattle.bus_kit.specs.declared.hasher.StepTally.{StepTally}
use Rattle.bus_kit.specs.declared.tallies.Tallies.{Tallies}
use Rattle.bus_kit.specs.declared.tally.Tally.{Tally}
use Rattle.bus_kit.specs.declared.values.ValueTally.{ValueTally}
use Rattle.bus_kit.proofs.AddingLemmas.{counted_within, none_counted}

range_bus : (c : Claim) (i : ℕ) (x : List ℕ) (next : Option (List ℕ)) (t : Tallies) (now : ValueTally)
    → IsCounted (2 ^ 64) (values_tallied t.range) (values_tallied now) [] (range_given x) → (b : Bus)
    → IsCounted (2 ^ 66) (both_by t b) (both_by (record t { range = now }) b) (chip_asked c b table.Range i x next)
    (chip_given b table.Range i x next)
range_bus c i x next t now p bus.Blocks = none_counted (2 ^ 66) (tallied t.blocks)
range_bus c i x next t now p bus.Children = none_counted (2 ^ 66) (tallied t.children)
range_bus c i x next t now p bus.Loops = none_counted (2 ^ 66) (tallied t.loops)
range_bus c i x next t now p bus.Groups = none_counted (2 ^ 66) (tallied t.groups)
range_bus c i x next t now p bus.Overflow = none_counted (2 ^ 66) (tallied t.overflow)
range_bus c i x next t now p bus.Hasher = none_counted (2 ^ 66) (steps_tallied t.hasher)
range_bus c i x next t now p bus.Bitwise = none_counted (2 ^ 66) (tallied t.bitwise)
range_bus c i x next t now p bus.Memory = none_counted (2 ^ 66) (tallied t.memory)
range_bus c i x next t now p bus.Range = counted_within (2 ^ 64) (2 ^ 66) (values_tallied t.range) (values_tallied now) [] (range_given x) p (lit≤ tt)
range_bus c i x next t now p bus.Kernel = none_counted (2 ^ 66) (tallied t.kernel)

pub range_counted : {E : Type 0} (c : Claim) (i : ℕ) (x : List ℕ) (next : Option (List ℕ)) (t : Tallies) (now : ValueTally) (r : Result (Unit {0}) E)
    → OnOk r (IsCounted (2 ^ 64) (values_tallied t.range) (values_tallied now) [] (range_given x))
    → OnOk r (AreCounted (2 ^ 66) t (record t { range = now }) (λ b. chip_asked c b table.Range i x next) (λ b. chip_given b table.Range i x next))
range_counted c i x next t now (Ok v) p = range_bus c i x next t now p
range_counted c i x next t now (Err e) p = tt

kernel_bus : (c : Claim) (i : ℕ) (x : List ℕ) (next : Option (List ℕ)) (t : Tallies) (now : Tally 4)
    → IsCounted (2 ^ 64) (tallied t.kernel) (tallied now) [] (kernel_given x) → (b : Bus)
    → IsCounted (2 ^ 66) (both_by t b) (both_by (record t { kernel = now }) b) (chip_asked c b table.Kernel i x next)
    (chip_given b table.Kernel i x next)
kernel_bus c i x next t now p bus.Blocks = none_counted (2 ^ 66) (tallied t.blocks)
kernel_bus c i x next t now p bus.Children = none_counted (2 ^ 66) (tallied t.children)
kernel_bus c i x next t now p bus.Loops = none_counted (2 ^ 66) (tallied t.loops)
kernel_bus c i x next t now p bus.Groups = none_counted (2 ^ 66) (tallied t.groups)
kernel_bus c i x next t now p bus.Overflow = none_counted (2 ^ 66) (tallied t.overflow)
kernel_bus c i x next t now p bus.Hasher = none_counted (2 ^ 66) (steps_tallied t.hasher)
kernel_bus c i x next t now p bus.Bitwise = none_counted (2 ^ 66) (tallied t.bitwise)
kernel_bus c i x next t now p bus.Memory = none_counted (2 ^ 66) (tallied t.memory)
kernel_bus c i x next t now p bus.Range = none_counted (2 ^ 66) (values_tallied t.range)
kernel_bus c i x next t now p bus.Kernel = counted_within (2 ^ 64) (2 ^ 66) (tallied t.kernel) (tallied now) [] (kernel_given x) p (lit≤ tt)

pub kernel_counted : {E : Type 0} (c : Claim) (i : ℕ) (x : List ℕ) (next : Option (List ℕ)) (t : Tallies) (now : Tally 4) (r : Result (Unit {0}) E)
    → OnOk r (IsCounted (2 ^ 64) (tallied t.kernel) (tallied now) [] (kernel_given x))
    → OnOk r (AreCounted (2 ^ 66) t (record t { kernel = now }) (λ b. chip_asked c b table.Kernel i x next) (λ b. chip_given b table.Kernel i x next))
kernel_counted c i x next t now (Ok v) p = kernel_bus c i x next t now p
kernel_counted c i x next t now (Err e) p = tt

hasher_bus : (c : Claim) (i : ℕ) (x : List ℕ) (next : Option (List ℕ)) (t : Tallies) (now : StepTally)
    → IsCounted 1 (steps_tallied t.hasher) (steps_tallied now) [] (hasher_given i x) → (b : Bus)
    → IsCounted (2 ^ 66) (both_by t b) (both_by (record t { hasher = now }) b) (chip_asked c b table.Hasher i x next)
    (chip_given b table.Hasher i x next)
hasher_bus c i x next t now p bus.Blocks = none_counted (2 ^ 66) (tallied t.blocks)
hasher_bus c i x next t now p bus.Children = none_counted (2 ^ 66) (tallied t.children)
hasher_bus c i x next t now p bus.Loops = none_counted (2 ^ 66) (tallied t.loops)
hasher_bus c i x next t now p bus.Groups = none_counted (2 ^ 66) (tallied t.groups)
hasher_bus c i x next t now p bus.Overflow = none_counted (2 ^ 66) (tallied t.overflow)
hasher_bus c i x next t now p bus.Hasher = counted_within 1 (2 ^ 66) (steps_tallied t.hasher) (steps_tallied now) [] (hasher_given i x) p (lit≤ tt)
hasher_bus c i x next t now p bus.Bitwise = none_counted (2 ^ 66) (tallied t.bitwise)
hasher_bus c i x next t now p bus.Memory = none_counted (2 ^ 66) (tallied t.memory)
hasher_bus c i x next t now p bus.Range = none_counted (2 ^ 66) (values_tallied t.range)
hasher_bus c i x next t now p bus.Kernel = none_counted (2 ^ 66) (tallied t.kernel)

pub hasher_counted : {E : Type 0} (c : Claim) (i : ℕ) (x : List ℕ) (next : Option (List ℕ)) (t : Tallies) (now : StepTally) (r : Result (Unit {0}) E)
    → OnOk r (IsCounted 1 (steps_tallied t.hasher) (steps_tallied now) [] (hasher_given i x))
    → OnOk r (AreCounted (2 ^ 66) t (record t { hasher = now }) (λ b. chip_asked c b table.Hasher i x next) (λ b. chip_given b table.Hasher i x next))
hasher_counted c i x next t now (Ok v) p = hasher_bus c i x next t now p
hasher_counted c i x next t now (Err e) p = tt

bitwise_bus : (c : Claim) (i : ℕ) (x : List ℕ) (next : Option (List ℕ)) (t : Tallies) (now : Tally 4)
    → IsCounted 1 (tallied t.bitwise) (tallied now) [] (bitwise_given i x) → (b : Bus)
    → IsCounted (2 ^ 66) (both_by t b) (both_by (record t { bitwise = now }) b) (chip_asked c b table.Bitwise i x next)
    (chip_given b table.Bitwise i x next)
bitwise_bus c i x next t now p bus.Blocks = none_counted (2 ^ 66) (tallied t.blocks)
bitwise_bus c i x next t now p bus.Children = none_counted (2 ^ 66) (tallied t.children)
bitwise_bus c i x next t now p bus.Loops = none_counted (2 ^ 66) (tallied t.loops)
bitwise_bus c i x next t now p bus.Groups = none_counted (2 ^ 66) (tallied t.groups)
bitwise_bus c i x next t now p bus.Overflow = none_counted (2 ^ 66) (tallied t.overflow)
bitwise_bus c i x next t now p bus.Hasher = none_counted (2 ^ 66) (steps_tallied t.hasher)
bitwise_bus c i x next t now p bus.Bitwise = counted_within 1 (2 ^ 66) (tallied t.bitwise) (tallied now) [] (bitwise_given i x) p (lit≤ tt)
bitwise_bus c i x next t now p bus.Memory = none_counted (2 ^ 66) (tallied t.memory)
bitwise_bus c i x next t now p bus.Range = none_counted (2 ^ 66) (values_tallied t.range)
bitwise_bus c i x next t now p bus.Kernel = none_counted (2 ^ 66) (tallied t.kernel)

pub bitwise_counted : {E : Type 0} (c : Claim) (i : ℕ) (x : List ℕ) (next : Option (List ℕ)) (t : Tallies) (now : Tally 4) (r : Result (Unit {0}) E)
    → OnOk r (IsCounted 1 (tallied t.bitwise) (tallied now) [] (bitwise_given i x))
    → OnOk r (AreCounted (2 ^ 66) t (record t { bitwise = now }) (λ b. chip_asked c b table.Bitwise i x next)
    (λ b. chip_given b table.Bitwise i x next))
bitwise_counted c i x next t now (Ok v) p = bitwise_bus c i x next t now p
bitwise_counted c i x next t now (Err e) p = tt

left_bus : (c : Claim) (i : ℕ) (x : List ℕ) (next : Option (List ℕ)) (t : Tallies) (now : Tally 3)
    → IsCounted 1 (tallied t.overflow) (tallied now) (left_asked c i x next) [] → (b : Bus)
    → IsCounted (2 ^ 66) (both_by t b) (both_by (record t { overflow = now }) b) (chip_asked c b table.Left i x next)
    (chip_given b table.Left i x next)
left_bus c i x next t now p bus.Blocks = none_counted (2 ^ 66) (tallied t.blocks)
left_bus c i x next t now p bus.Children = none_counted (2 ^ 66) (tallied t.children)
left_bus c i x next t now p bus.Loops = none_counted (2 ^ 66) (tallied t.loops)
left_bus c i x next t now p bus.Groups = none_counted (2 ^ 66) (tallied t.groups)
left_bus c i x next t now p bus.Overflow = counted_within 1 (2 ^ 66) (tallied t.overflow) (tallied now) (left_asked c i x next) [] p (lit≤ tt)
left_bus c i x next t now p bus.Hasher = none_counted (2 ^ 66) (steps_tallied t.hasher)
left_bus c i x next t now p bus.Bitwise = none_counted (2 ^ 66) (tallied t.bitwise)
left_bus c i x next t now p bus.Memory = none_counted (2 ^ 66) (tallied t.memory)
left_bus c i x next t now p bus.Range = none_counted (2 ^ 66) (values_tallied t.range)
left_bus c i x next t now p bus.Kernel = none_counted (2 ^ 66) (tallied t.kernel)

pub left_counted : {E : Type 0} (c : Claim) (i : ℕ) (x : List ℕ) (next : Option (List ℕ)) (t : Tallies) (now : Tally 3) (r : Result (Unit {0}) E)
    → OnOk r (IsCounted 1 (tallied t.overflow) (tallied now) (left_asked c i x next) [])
    → OnOk r (AreCounted (2 ^ 66) t (record t { overflow = now }) (λ b. chip_asked c b table.Left i x next) (λ b. chip_given b table.Left i x next))
left_counted c i x next t now (Ok v) p = left_bus c i x next t now p
left_counted c i x next t now (Err e) p = tt

-- the same list by another name
pub as_given : {E : Type 0} (n : ℕ) (a b : Tallied) (r : Result (Unit {0}) E) (xs ys : List Counted) → xs ≡ ys
    → OnOk r (IsCounted n a b [] xs) → OnOk r (IsCounted n a b [] ys)
as_given n a b r xs ys e p = subst (λ given. OnOk r (IsCounted n a b [] given)) e p
