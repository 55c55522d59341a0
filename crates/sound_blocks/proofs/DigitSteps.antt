-- A group's number in a row and what is left of it in the row behind: no digit wraps, since a group has nine at most.
use Rattle.sound_blocks.proofs.Words.{◌≡◌, ℕ, zero, suc, ◌+◌, ◌-◌, ◌*◌, ◌^◌, ◌<◌, ◌≤◌, arith, lit≤, ◌⊞◌, ◌⊠◌, prime}
use Rattle.std.proofs.Math.Nat.{pow-suc}

some_room : (bound : ℕ) → 1 ≤ bound → 128 ≤ bound * 128
some_room bound h = omega arith

power_some : (k : ℕ) → 1 ≤ 128 ^ k
power_some zero = lit≤ tt
power_some (suc k) = rw (pow-suc 128 k) (omega (arith, some_room (128 ^ k) (power_some k)))

-- eight digits
eight_digits : (d k : ℕ) → k + d ≡ 8 → 128 ^ k ≤ 72057594037927936
eight_digits zero k e = let f : k ≡ 8 = omega (arith, e) in rw f (lit≤ tt)
eight_digits (suc d) k e = let more = eight_digits d (suc k) (omega (arith, e)) in let less = rw (pow-suc 128 k) at more in omega (arith, less)

no_wrap : (number code rest bound : ℕ) → number ≡ code ⊞ 128 ⊠ rest → code < 128 → rest < bound → bound ≤ 72057594037927936
    → number ≡ code + 128 * rest
no_wrap number code rest bound e c h few = omega arith

pub unwrapped : (number code rest k : ℕ) → number ≡ code ⊞ 128 ⊠ rest → code < 128 → k ≤ 8 → rest < 128 ^ k → number ≡ code + 128 * rest
unwrapped number code rest k e c few h = no_wrap number code rest (128 ^ k) e c h (eight_digits (8 - k) k (omega (arith, few)))

more_room : (number code rest bound : ℕ) → number ≡ code + 128 * rest → code < 128 → rest < bound → number < bound * 128
more_room number code rest bound e c h = omega arith

pub one_more : (number code rest k : ℕ) → number ≡ code + 128 * rest → code < 128 → rest < 128 ^ k → number < 128 ^ suc k
one_more number code rest k e c h = rw (pow-suc 128 k) (more_room number code rest (128 ^ k) e c h)

pub one_digit : (number k : ℕ) → number < 128 → number < 128 ^ suc k
one_digit number k h = rw (pow-suc 128 k) (omega (arith, h, some_room (128 ^ k) (power_some k)))

-- one operation up, within nine
pub next_place : (o p : ℕ) → o ≤ 8 → p ≤ 8 → p ≡ o ⊞ 1 → suc (9 - p) ≡ 9 - o
next_place o p h k e = omega arith

-- one position fewer
pub fewer_left : (g k : ℕ) → g < prime → k < prime → 0 < g → g ≡ k ⊞ 1 → g ≡ suc k
fewer_left g k low next some e = omega arith
