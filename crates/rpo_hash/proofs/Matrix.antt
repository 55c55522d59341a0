-- The matrix of the permutation has an inverse: a second circulant matrix, whose product with it is the identity.
use Rattle.std.proofs.Common.{◌≡◌, ℕ, ◌+◌, ◌*◌, ◌/◌, ◌%◌, ◌<◌, List, [], ◌∷◌, length, All, lit<, sym, ap, ◌∙◌, arith}
use Rattle.std.proofs.Math.Nat.{mod-eq_of_lt}
use Rattle.vm_field.specs.Field.{prime}
use Rattle.vm_field.specs.Permutation.{mixed, row_product}
use Rattle.vm_field.proofs.Algebra.{same_mod}

-- the first row of the second matrix, times twelve numbers
inverse_sum : ℕ → ℕ → ℕ → ℕ → ℕ → ℕ → ℕ → ℕ → ℕ → ℕ → ℕ → ℕ → ℕ
inverse_sum m0 m1 m2 m3 m4 m5 m6 m7 m8 m9 m10 m11 =
    14868391535953158196 * m0 + 13278298489594233127 * m1 + 389999932707070822 * m2 + 9782021734907796003 * m3
    + 4829905704463175582 * m4 + 7567822018949214430 * m5 + 14205019324568680367 * m6 + 15489674211196160593 * m7
    + 17636013826542227504 * m8 + 16254215311946436093 * m9 + 3641486184877122796 * m10 + 11069068059762973582 * m11

inverse_sum-mod : (m0 m1 m2 m3 m4 m5 m6 m7 m8 m9 m10 m11 : ℕ)
    → inverse_sum (m0 % prime) (m1 % prime) (m2 % prime) (m3 % prime) (m4 % prime) (m5 % prime) (m6 % prime) (m7 % prime)
    (m8 % prime) (m9 % prime) (m10 % prime) (m11 % prime) % prime ≡ inverse_sum m0 m1 m2 m3 m4 m5 m6 m7 m8 m9 m10 m11 % prime
unfolding inverse_sum
inverse_sum-mod m0 m1 m2 m3 m4 m5 m6 m7 m8 m9 m10 m11 =
    same_mod _ _ 0 (14868391535953158196 * (m0 / prime) + 13278298489594233127 * (m1 / prime) + 389999932707070822 * (m2 / prime)
    + 9782021734907796003 * (m3 / prime) + 4829905704463175582 * (m4 / prime) + 7567822018949214430 * (m5 / prime)
    + 14205019324568680367 * (m6 / prime) + 15489674211196160593 * (m7 / prime) + 17636013826542227504 * (m8 / prime)
    + 16254215311946436093 * (m9 / prime) + 3641486184877122796 * (m10 / prime) + 11069068059762973582 * (m11 / prime))
    (omega arith)

-- the second matrix's first row undoes the first matrix
undone : (x0 x1 x2 x3 x4 x5 x6 x7 x8 x9 x10 x11 : ℕ) → x0 < prime
    → inverse_sum (row_product (x0 ∷ x1 ∷ x2 ∷ x3 ∷ x4 ∷ x5 ∷ x6 ∷ x7 ∷ x8 ∷ x9 ∷ x10 ∷ x11 ∷ []))
    (row_product (x1 ∷ x2 ∷ x3 ∷ x4 ∷ x5 ∷ x6 ∷ x7 ∷ x8 ∷ x9 ∷ x10 ∷ x11 ∷ x0 ∷ []))
    (row_product (x2 ∷ x3 ∷ x4 ∷ x5 ∷ x6 ∷ x7 ∷ x8 ∷ x9 ∷ x10 ∷ x11 ∷ x0 ∷ x1 ∷ []))
    (row_product (x3 ∷ x4 ∷ x5 ∷ x6 ∷ x7 ∷ x8 ∷ x9 ∷ x10 ∷ x11 ∷ x0 ∷ x1 ∷ x2 ∷ []))
    (row_product (x4 ∷ x5 ∷ x6 ∷ x7 ∷ x8 ∷ x9 ∷ x10 ∷ x11 ∷ x0 ∷ x1 ∷ x2 ∷ x3 ∷ []))
    (row_product (x5 ∷ x6 ∷ x7 ∷ x8 ∷ x9 ∷ x10 ∷ x11 ∷ x0 ∷ x1 ∷ x2 ∷ x3 ∷ x4 ∷ []))
    (row_product (x6 ∷ x7 ∷ x8 ∷ x9 ∷ x10 ∷ x11 ∷ x0 ∷ x1 ∷ x2 ∷ x3 ∷ x4 ∷ x5 ∷ []))
    (row_product (x7 ∷ x8 ∷ x9 ∷ x10 ∷ x11 ∷ x0 ∷ x1 ∷ x2 ∷ x3 ∷ x4 ∷ x5 ∷ x6 ∷ []))
    (row_product (x8 ∷ x9 ∷ x10 ∷ x11 ∷ x0 ∷ x1 ∷ x2 ∷ x3 ∷ x4 ∷ x5 ∷ x6 ∷ x7 ∷ []))
    (row_product (x9 ∷ x10 ∷ x11 ∷ x0 ∷ x1 ∷ x2 ∷ x3 ∷ x4 ∷ x5 ∷ x6 ∷ x7 ∷ x8 ∷ []))
    (row_product (x10 ∷ x11 ∷ x0 ∷ x1 ∷ x2 ∷ x3 ∷ x4 ∷ x5 ∷ x6 ∷ x7 ∷ x8 ∷ x9 ∷ []))
    (row_product (x11 ∷ x0 ∷ x1 ∷ x2 ∷ x3 ∷ x4 ∷ x5 ∷ x6 ∷ x7 ∷ x8 ∷ x9 ∷ x10 ∷ [])) % prime ≡ x0
unfolding inverse_sum row_product
undone x0 x1 x2 x3 x4 x5 x6 x7 x8 x9 x10 x11 below =
    inverse_sum-mod (7 * x0 + 23 * x1 + 8 * x2 + 26 * x3 + 13 * x4 + 10 * x5 + 9 * x6 + 7 * x7 + 6 * x8 + 22 * x9 + 21 * x10
    + 8 * x11) (7 * x1 + 23 * x2 + 8 * x3 + 26 * x4 + 13 * x5 + 10 * x6 + 9 * x7 + 7 * x8 + 6 * x9 + 22 * x10 + 21 * x11
    + 8 * x0) (7 * x2 + 23 * x3 + 8 * x4 + 26 * x5 + 13 * x6 + 10 * x7 + 9 * x8 + 7 * x9 + 6 * x10 + 22 * x11 + 21 * x0
    + 8 * x1) (7 * x3 + 23 * x4 + 8 * x5 + 26 * x6 + 13 * x7 + 10 * x8 + 9 * x9 + 7 * x10 + 6 * x11 + 22 * x0 + 21 * x1
    + 8 * x2) (7 * x4 + 23 * x5 + 8 * x6 + 26 * x7 + 13 * x8 + 10 * x9 + 9 * x10 + 7 * x11 + 6 * x0 + 22 * x1 + 21 * x2
    + 8 * x3) (7 * x5 + 23 * x6 + 8 * x7 + 26 * x8 + 13 * x9 + 10 * x10 + 9 * x11 + 7 * x0 + 6 * x1 + 22 * x2 + 21 * x3
    + 8 * x4) (7 * x6 + 23 * x7 + 8 * x8 + 26 * x9 + 13 * x10 + 10 * x11 + 9 * x0 + 7 * x1 + 6 * x2 + 22 * x3 + 21 * x4
    + 8 * x5) (7 * x7 + 23 * x8 + 8 * x9 + 26 * x10 + 13 * x11 + 10 * x0 + 9 * x1 + 7 * x2 + 6 * x3 + 22 * x4 + 21 * x5
    + 8 * x6) (7 * x8 + 23 * x9 + 8 * x10 + 26 * x11 + 13 * x0 + 10 * x1 + 9 * x2 + 7 * x3 + 6 * x4 + 22 * x5 + 21 * x6
    + 8 * x7) (7 * x9 + 23 * x10 + 8 * x11 + 26 * x0 + 13 * x1 + 10 * x2 + 9 * x3 + 7 * x4 + 6 * x5 + 22 * x6 + 21 * x7
    + 8 * x8) (7 * x10 + 23 * x11 + 8 * x0 + 26 * x1 + 13 * x2 + 10 * x3 + 9 * x4 + 7 * x5 + 6 * x6 + 22 * x7 + 21 * x8
    + 8 * x9) (7 * x11 + 23 * x0 + 8 * x1 + 26 * x2 + 13 * x3 + 10 * x4 + 9 * x5 + 7 * x6 + 6 * x7 + 22 * x8 + 21 * x9
    + 8 * x10)
    ∙ same_mod _ x0 (94 * x0 + 87 * x1 + 88 * x2 + 88 * x3 + 101 * x4 + 88 * x5 + 97 * x6 + 87 * x7 + 86 * x8 + 104 * x9 + 109 * x10
    + 90 * x11) 0 (omega arith) ∙ mod-eq_of_lt below

-- the second matrix times the state
unmixed : List ℕ → List ℕ
unmixed (m0 ∷ m1 ∷ m2 ∷ m3 ∷ m4 ∷ m5 ∷ m6 ∷ m7 ∷ m8 ∷ m9 ∷ m10 ∷ m11 ∷ []) =
    inverse_sum m0 m1 m2 m3 m4 m5 m6 m7 m8 m9 m10 m11 % prime ∷ inverse_sum m1 m2 m3 m4 m5 m6 m7 m8 m9 m10 m11 m0 % prime
    ∷ inverse_sum m2 m3 m4 m5 m6 m7 m8 m9 m10 m11 m0 m1 % prime ∷ inverse_sum m3 m4 m5 m6 m7 m8 m9 m10 m11 m0 m1 m2 % prime
    ∷ inverse_sum m4 m5 m6 m7 m8 m9 m10 m11 m0 m1 m2 m3 % prime ∷ inverse_sum m5 m6 m7 m8 m9 m10 m11 m0 m1 m2 m3 m4 % prime
    ∷ inverse_sum m6 m7 m8 m9 m10 m11 m0 m1 m2 m3 m4 m5 % prime ∷ inverse_sum m7 m8 m9 m10 m11 m0 m1 m2 m3 m4 m5 m6 % prime
    ∷ inverse_sum m8 m9 m10 m11 m0 m1 m2 m3 m4 m5 m6 m7 % prime ∷ inverse_sum m9 m10 m11 m0 m1 m2 m3 m4 m5 m6 m7 m8 % prime
    ∷ inverse_sum m10 m11 m0 m1 m2 m3 m4 m5 m6 m7 m8 m9 % prime ∷ inverse_sum m11 m0 m1 m2 m3 m4 m5 m6 m7 m8 m9 m10 % prime ∷ []
unmixed _ = []

unmixed-mixed : (x : List ℕ) → length x ≡ 12 → All (λ e. e < prime) x → unmixed (mixed x) ≡ x
unfolding unmixed mixed
unmixed-mixed (x0 ∷ x1 ∷ x2 ∷ x3 ∷ x4 ∷ x5 ∷ x6 ∷ x7 ∷ x8 ∷ x9 ∷ x10 ∷ x11 ∷ []) len below =
    cc (
      undone x0 x1 x2 x3 x4 x5 x6 x7 x8 x9 x10 x11 (below 0 0 (lit< tt)),
      undone x1 x2 x3 x4 x5 x6 x7 x8 x9 x10 x11 x0 (below 1 0 (lit< tt)),
      undone x2 x3 x4 x5 x6 x7 x8 x9 x10 x11 x0 x1 (below 2 0 (lit< tt)),
      undone x3 x4 x5 x6 x7 x8 x9 x10 x11 x0 x1 x2 (below 3 0 (lit< tt)),
      undone x4 x5 x6 x7 x8 x9 x10 x11 x0 x1 x2 x3 (below 4 0 (lit< tt)),
      undone x5 x6 x7 x8 x9 x10 x11 x0 x1 x2 x3 x4 (below 5 0 (lit< tt)),
      undone x6 x7 x8 x9 x10 x11 x0 x1 x2 x3 x4 x5 (below 6 0 (lit< tt)),
      undone x7 x8 x9 x10 x11 x0 x1 x2 x3 x4 x5 x6 (below 7 0 (lit< tt)),
      undone x8 x9 x10 x11 x0 x1 x2 x3 x4 x5 x6 x7 (below 8 0 (lit< tt)),
      undone x9 x10 x11 x0 x1 x2 x3 x4 x5 x6 x7 x8 (below 9 0 (lit< tt)),
      undone x10 x11 x0 x1 x2 x3 x4 x5 x6 x7 x8 x9 (below 10 0 (lit< tt)),
      undone x11 x0 x1 x2 x3 x4 x5 x6 x7 x8 x9 x10 (below 11 0 (lit< tt)),
    )
unmixed-mixed _ len below = absurd (omega arith)

-- states with one product are one
pub same_from_mixed : (x y : List ℕ) → length x ≡ 12 → length y ≡ 12 → All (λ e. e < prime) x → All (λ e. e < prime) y
    → mixed x ≡ mixed y → x ≡ y
same_from_mixed x y lx ly bx by same = sym (unmixed-mixed x lx bx) ∙ ap unmixed same ∙ unmixed-mixed y ly by
