-- A statement that is read has sixteen outputs at least.
use Rattle.cmd_kit.proofs.Words.{◌≡◌, ℕ, ◌≤◌, Bool, true, false, ◌&&◌, nat_le, if◌then◌else◌, List, length, Result, Ok, Err, refl, subst, arith, ok_or}
use Rattle.cmd_kit.proofs.Words.{and_parts, nat_tests, least_depth, most_inputs, most_kernel, most_outputs, Stated, statement_of, TextCause, NotJson, Shape}
use Rattle.cmd_kit.proofs.Words.{Element, Digest, Count, Repeated}
use Rattle.vm_field.specs.WordText.{word_of_hex}
use Rattle.statement.specs.Causes.{and_then}
use Rattle.statement.specs.Statements.{Parts, are_distinct, claim_by, claim_from, has_counts, parts_of}
use Rattle.statement.specs.Values.{elements_of, value_of, words_of}

-- a step that gives a value had one before it
passed : {A B : Type 0} (r : Result A TextCause) (step : A → Result B TextCause) (b : B) → and_then r step ≡ Ok b → (a : A) × (step a ≡ Ok b)
passed (Ok a) step b is = (a, is)
passed (Err cause) step b is = absurd (cc (is))

same : (a b : Stated) → ◌≡◌ {A = Result Stated TextCause} (Ok a) (Ok b) → a ≡ b
same a b e = cc

counts_of : (b d : Bool) (claim other : Stated)
    → (if b then (if d then Ok claim else Err Repeated) else Err Count) ≡ Ok other → (b ≡ true) × (claim ≡ other)
counts_of true true claim other is = (refl, same claim other is)
counts_of true false claim other is = absurd (cc (is))
counts_of false d claim other is = absurd (cc (is))

deep : (claim : Stated) → has_counts claim ≡ true → least_depth ≤ length claim.outputs
deep claim is =
    let a = and_parts (nat_le (length claim.inputs) most_inputs && nat_le (length claim.kernel) most_kernel
    && nat_le least_depth (length claim.outputs)) (nat_le (length claim.outputs) most_outputs) is in
    let b = and_parts (nat_le (length claim.inputs) most_inputs && nat_le (length claim.kernel) most_kernel)
    (nat_le least_depth (length claim.outputs)) a.0 in
    grind (arith, nat_tests, b.1)

pub full_claim : (bytes : List ℕ) (claim : Stated) → statement_of bytes ≡ Ok claim → least_depth ≤ length claim.outputs
unfolding statement_of
full_claim bytes claim is =
    let value = passed (ok_or (value_of bytes) NotJson) claim_by claim is in
    let parts = passed (ok_or (parts_of value.0) Shape) claim_from claim value.1 in
    let p : Parts = parts.0 in
    let inputs = passed (ok_or (elements_of p.inputs) Element) _ claim parts.1 in
    let outputs = passed (ok_or (elements_of p.outputs) Element) _ claim inputs.1 in
    let digest = passed (ok_or (word_of_hex p.digest) Digest) _ claim outputs.1 in
    let kernel = passed (ok_or (words_of p.kernel) Digest) _ claim digest.1 in
    let whole : Stated = record { digest = digest.0; inputs = inputs.0; kernel = kernel.0; outputs = outputs.0 } in
    let counts = counts_of (has_counts whole) (are_distinct kernel.0) whole claim kernel.1 in
    subst (λ (c : Stated). least_depth ≤ length c.outputs) counts.1 (deep whole counts.0)
