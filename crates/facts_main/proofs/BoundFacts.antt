-- What the entries 11 to 59 say where they are 0, and back.
use Rattle.facts_main.proofs.Words.{◌≡◌, ℕ, zero, suc, ◌+◌, ◌-◌, ◌<◌, ◌≤◌, None, length, slice_index, refl, sym, ap, subst, arith, lit<, most_inputs}
use Rattle.facts_main.proofs.Words.{prime, felt_sub, is_start_op, Op, clk, Claim, Spot, HasOps, IsFirstRow, IsLastRow, IsLowClaim}
use Rattle.std.proofs.lemmas.List.{length-drop}
use Rattle.air_kit.specs.BoundaryValues.{boundary_values, start_values, inputs_values, end_values, outputs_values, entry_11, entry_12, entry_13, entry_14, entry_15, entry_16, entry_20, entry_21, entry_22, entry_23, entry_39, entry_40, entry_41, entry_42, entry_43, entry_44}
use Rattle.air_kit.specs.DeepCells.{depth_at_start, key_of, keys_at_start}
use Rattle.air_kit.proofs.InputKeys.{input_key_low, key_of_none, key_of_some}
use Rattle.facts_main.proofs.Says.{Says, says_as, rest_low, zero_says, sub_says, passes_says}
use Rattle.facts_main.proofs.Hot.{set_is}
use Rattle.facts_main.proofs.Means.{Means, ◌▸◌, ◌⧺◌, ◌&◌, each, means_as, nothing}
use Rattle.facts_main.proofs.SpotSays.{first_at, last_at}

-- the depth at the start is an element
few_cells : (n d : ℕ) → n ≤ most_inputs → d ≡ 16 + (n - 16) → d < prime
few_cells n d few e = omega arith

depth_low : (k : Claim) → IsLowClaim k → depth_at_start k < prime
depth_low k few = few_cells (length k.inputs) (depth_at_start k) few.some_inputs (ap (λ n. 16 + n) (length-drop 16 k.inputs))

-- and so is a key
key_low : (n : ℕ) → key_of (keys_at_start n) < prime
key_low zero = subst (λ m. m < prime) (sym key_of_none) (lit< tt)
key_low (suc n) = subst (λ m. m < prime) (sym (key_of_some (suc n) (omega arith))) (input_key_low 0)

left_says : {i n : ℕ} → i < prime → 16 ≤ n → n < prime → Says (felt_sub i (felt_sub n 16)) (i + 16 ≡ n)
left_says low deep few = says_as (sub_says low (rest_low _)) (λ e. omega arith) (λ e. omega arith)

-- the first row, whose clock is an entry of its own, and the last one
pub boundary_means : (k : Claim) (op : Op) (p : Spot) → IsLowClaim k → HasOps op p → (p.row ≡ 0 → clk p.cur ≡ 0)
    → Means (boundary_values k p) ((p.row ≡ 0 → IsFirstRow k op p.cur) × (p.next ≡ None → IsLastRow k op p.cur))
unfolding boundary_values start_values inputs_values end_values outputs_values entry_11 entry_12 entry_13 entry_14 entry_15 entry_16 entry_20 entry_21 entry_22 entry_23 entry_39 entry_40 entry_41 entry_42 entry_43 entry_44
boundary_means k op p few r clock =
    means_as
    ((first_at entry_11 r (passes_says (set_is op is_start_op)) ▸ first_at entry_12 r (zero_says (low 8))
    ▸ first_at entry_13 r (zero_says (low 2)) ▸ first_at entry_14 r (sub_says (low 1) (lit< tt)) ▸ first_at entry_15 r (zero_says (low 3))
    ▸ each 4 (λ j h. first_at (entry_16 j) r (zero_says (low (4 + j))))
    ⧺ first_at entry_20 r (zero_says (low 50)) ▸ first_at (entry_21 k) r (sub_says (low 46) (depth_low k few))
    ▸ first_at (entry_22 k) r (sub_says (low 47) (key_low _)) ▸ nothing)
    ⧺ each 16 (λ j h. first_at (entry_23 k j) r (sub_says (low (30 + j)) (few.inputs j)))
    ⧺ (first_at (entry_39 k) r (sub_says (few.lengths 5) few.kernel) ▸ first_at (entry_40 k) r (left_says (few.lengths 6) few.deep few.few)
    ▸ last_at entry_41 r (passes_says refl) ▸ last_at (entry_42 k) r (sub_says (low 46) few.few)
    ▸ last_at (entry_43 k) r (sub_says (low 47) few.key) ▸ nothing)
    ⧺ each 16 (λ j h. last_at (entry_44 k j) r (sub_says (low (30 + j)) (few.outputs j))))
    (λ ((starts, (block, (context, (frame, (syscall, (digest, (level, (depth_is, (key_is, end))))))))), (inputs, ((kernel, (left, (halts, (deep, (key, done))))), outputs))). (
      λ e. record {
        start = record {
          starts = starts e;
          clock = clock e;
          block = block e;
          context = context e;
          frame = frame e;
          syscall = syscall e;
          digest = λ j h. digest j h e;
          level = level e;
          depth_is = depth_is e;
          key_is = key_is e;
        };
        inputs = λ j h. inputs j h e;
        kernel = kernel e;
        left = left e;
      },
      λ e. record { halts = halts e; depth_is = deep e; key_is = key e; outputs = λ j h. outputs j h e },
    ))
    (λ (first, last).
    ((λ e. (first e).start.starts) & (λ e. (first e).start.block) & (λ e. (first e).start.context) & (λ e. (first e).start.frame)
    & (λ e. (first e).start.syscall) & (λ j h e. (first e).start.digest j h) & (λ e. (first e).start.level) & (λ e. (first e).start.depth_is)
    & (λ e. (first e).start.key_is) & tt)
    & (λ j h e. (first e).inputs j h)
    & ((λ e. (first e).kernel) & (λ e. (first e).left) & (λ e. (last e).halts) & (λ e. (last e).depth_is) & (λ e. (last e).key_is) & tt)
    & (λ j h e. (last e).outputs j h))
  where
    low : (j : ℕ) → slice_index p.cur j < prime
    low = r.here.low
