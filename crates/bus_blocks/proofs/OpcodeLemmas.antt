-- The number of a row's operation is the one that its bits spell.
use Rattle.std.proofs.Common.{◌≡◌, ℕ, ◌+◌, ◌*◌, ◌<◌, List, arith, lit<}
use Rattle.vm_field.specs.Signs.{◌⊞◌, ◌⊠◌}
use Rattle.vm_table.specs.MainColumns.{b}
use Rattle.air_kit.specs.Flags.{spelled, HasBits}
use Rattle.air_kit.specs.SpanValues.{opcode_in}

small_sum : (m n : ℕ) → m < 128 → n < 128 → m ⊞ n ≡ m + n
small_sum m n p q = omega arith

small_parts : (n0 n1 n2 n3 n4 n5 n6 : ℕ) → n0 < 2 → n1 < 2 → n2 < 2 → n3 < 2 → n4 < 2 → n5 < 2 → n6 < 2
    → n0 ⊞ 2 ⊠ n1 ⊞ 4 ⊠ n2 ⊞ 8 ⊠ n3 ⊞ 16 ⊠ n4 ⊞ 32 ⊠ n5 ⊞ 64 ⊠ n6 ≡ n0 + 2 * n1 + 4 * n2 + 8 * n3 + 16 * n4 + 32 * n5 + 64 * n6
small_parts n0 n1 n2 n3 n4 n5 n6 l0 l1 l2 l3 l4 l5 l6 =
    let e1 : 2 ⊠ n1 ≡ 2 * n1 = omega arith in
    let e2 : 4 ⊠ n2 ≡ 4 * n2 = omega arith in
    let e3 : 8 ⊠ n3 ≡ 8 * n3 = omega arith in
    let e4 : 16 ⊠ n4 ≡ 16 * n4 = omega arith in
    let e5 : 32 ⊠ n5 ≡ 32 * n5 = omega arith in
    let e6 : 64 ⊠ n6 ≡ 64 * n6 = omega arith in
    let s1 : n0 ⊞ 2 * n1 ≡ n0 + 2 * n1 = small_sum n0 (2 * n1) (omega arith) (omega arith) in
    let s2 : (n0 + 2 * n1) ⊞ 4 * n2 ≡ n0 + 2 * n1 + 4 * n2 = small_sum (n0 + 2 * n1) (4 * n2) (omega arith) (omega arith) in
    let s3 : (n0 + 2 * n1 + 4 * n2) ⊞ 8 * n3 ≡ n0 + 2 * n1 + 4 * n2 + 8 * n3 =
    small_sum (n0 + 2 * n1 + 4 * n2) (8 * n3) (omega arith) (omega arith) in
    let s4 : (n0 + 2 * n1 + 4 * n2 + 8 * n3) ⊞ 16 * n4 ≡ n0 + 2 * n1 + 4 * n2 + 8 * n3 + 16 * n4 =
    small_sum (n0 + 2 * n1 + 4 * n2 + 8 * n3) (16 * n4) (omega arith) (omega arith) in
    let s5 : (n0 + 2 * n1 + 4 * n2 + 8 * n3 + 16 * n4) ⊞ 32 * n5 ≡ n0 + 2 * n1 + 4 * n2 + 8 * n3 + 16 * n4 + 32 * n5 =
    small_sum (n0 + 2 * n1 + 4 * n2 + 8 * n3 + 16 * n4) (32 * n5) (omega arith) (omega arith) in
    rw (e1, e2, e3, e4, e5, e6, s1, s2, s3, s4, s5)
    (small_sum (n0 + 2 * n1 + 4 * n2 + 8 * n3 + 16 * n4 + 32 * n5) (64 * n6) (omega arith) (omega arith))

pub opcode_spelled : (x : List ℕ) → HasBits x → spelled 7 (b x) ≡ opcode_in x
unfolding opcode_in spelled
opcode_spelled x bits =
    let l0 = bits 0 (lit< tt) in let l1 = bits 1 (lit< tt) in let l2 = bits 2 (lit< tt) in let l3 = bits 3 (lit< tt) in
    let l4 = bits 4 (lit< tt) in let l5 = bits 5 (lit< tt) in let l6 = bits 6 (lit< tt) in
    let parts = small_parts (b x 0) (b x 1) (b x 2) (b x 3) (b x 4) (b x 5) (b x 6) l0 l1 l2 l3 l4 l5 l6 in
    omega (arith, parts)
