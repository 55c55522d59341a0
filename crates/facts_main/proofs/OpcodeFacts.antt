-- What the entries on operations say where they are 0.
use Rattle.facts_main.proofs.Words.{◌≡◌, ◌∙◌, ap, lit<, ℕ, ◌+◌, ◌<◌, [], ◌∷◌, slice_index, prime, b, clk, felt_add, felt_sub, every_op, op_of, Op}
use Rattle.facts_main.proofs.Words.{HasOp, HasOps, Claim, Spot, on_row, on_pair, at_first, at_op, sum_of, sum_of-hot, family, opcode_values, entry_1}
use Rattle.facts_main.proofs.Words.{entry_8, entry_9, entry_10, main_values, stack_values, u32_values, dyn_values, has_op, AllZero}
use Rattle.vm_field.proofs.Algebra.{bit_from_product}
use Rattle.air_kit.specs.BoundaryValues.{boundary_values}
use Rattle.air_kit.specs.BlockValues.{block_values}
use Rattle.air_kit.specs.SpanValues.{span_values}
use Rattle.facts_main.proofs.Zeros.{zero_back, zero_family, zero_front}
use Rattle.facts_main.proofs.Says.{bit_says, rest_says, sub_twice_says, zero_says}
use Rattle.facts_main.proofs.Means.{Means, ◌▸◌, ◌⧺◌, ◌&◌, each, means_as, nothing}
use Rattle.facts_main.proofs.PartFacts.{decoder_parts, parts}
use Rattle.facts_main.proofs.SpotSays.{Behind, first_at, pair_at}

-- The lists of all entries, part by part.
pub record Parts (c : Claim) (p : Spot) : Type 0 where
  pub opcode : AllZero (opcode_values p)
  pub boundary : AllZero (boundary_values c p)
  pub block : AllZero (block_values p)
  pub span : AllZero (span_values p)
  pub stack : AllZero (stack_values p)
  pub u32 : AllZero (u32_values p)
  pub dyn : AllZero (dyn_values p)

pub main_parts : (c : Claim) (p : Spot) → AllZero (main_values c p) → Parts c p
main_parts c p zeros =
    let m = (parts c p).shown zeros in
    let d = (decoder_parts c p).shown m.0 in
    record { opcode = d.0; boundary = d.1; block = d.2; span = d.3; stack = m.1; u32 = m.2; dyn = m.3 }

pub opcode_bits : (p : Spot) → ((k : ℕ) → slice_index p.cur k < prime) → AllZero (opcode_values p) → (j : ℕ) → j < 7 → b p.cur j < 2
unfolding opcode_values entry_1
opcode_bits p low zeros j h =
    bit_from_product (b p.cur j) (low (9 + j))
    (zero_family 7 (λ k. on_row (entry_1 k) p) (zero_front (family 7 (λ k. on_row (entry_1 k) p)) _ zeros) j h)

-- a row whose entries are 0 has the operation that its bits spell
pub row_has_op : (p : Spot) → ((k : ℕ) → slice_index p.cur k < prime) → AllZero (opcode_values p) → HasOp p.cur (op_of p.cur)
unfolding opcode_values entry_8
row_has_op p low zeros =
    has_op p.cur (opcode_bits p low zeros)
    (zero_back (family 7 (λ k. on_row (entry_1 k) p)) (on_row entry_8 p ∷ at_first entry_9 p ∷ on_pair entry_10 p ∷ []) zeros 0)

pub opcode_means : (op : Op) (p : Spot) → HasOps op p
    → Means (opcode_values p) ((p.row ≡ 0 → clk p.cur ≡ 0) × Behind p (λ y. clk y ≡ felt_add (clk p.cur) 1))
unfolding opcode_values entry_1 entry_8 entry_9 entry_10
opcode_means op p r =
    means_as
    (each 7 (λ j few. bit_says (r.here.low (9 + j)))
    ⧺ rest_says {P = Unit {0}} _ (λ z. tt) (λ h. at_op r.here.has (λ fl. felt_sub 1 (sum_of every_op fl)) ∙ ap (felt_sub 1) (sum_of-hot op))
    ▸ first_at entry_9 r (zero_says (r.here.low 0)) ▸ pair_at entry_10 r (λ y n. sub_twice_says (n.low 0) (r.here.low 0) (lit< tt)) ▸ nothing)
    (λ (bits, (one, (first, (clock, done)))). (first, clock)) (λ h. r.here.has.bits & tt & h.0 & h.1 & tt)
