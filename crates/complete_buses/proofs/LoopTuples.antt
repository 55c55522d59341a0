-- The tuples of loops that a row gives and asks, by its operation.
use Rattle.complete_rows.proofs.Words
use Words.{◌≡◌, ℕ, suc, ◌+◌, true, false, cond, nat_eq, List, [], ◌∷◌, refl, arith, counted, hits, counted-none, Op, addr, w, front}
use Words.{loops_asked, loops_given}
use Words.ops
use Words.flags
use lib.Pointwise.{pointwise}
use Rattle.complete_buses.proofs.Hits.{hit, one_count}

-- so often where u is this tuple, else 0
unfoldable pub times : List ℕ → ℕ → List ℕ → ℕ
times t n u = hits t n u

pub no_times : (t u : List ℕ) → times t 0 u ≡ 0
unfolding times
no_times t u = elim (pointwise nat_eq t u) as (λ b. ◌≡◌ {A = ℕ} (cond b 0 0) 0) [ true ↦ refl | false ↦ refl ]

pub once_more : (t : List ℕ) (n : ℕ) (u : List ℕ) → times t (suc n) u ≡ hit t u + times t n u
unfolding times hit
once_more t n u =
    elim (pointwise nat_eq t u) as (λ b. cond b (suc n) 0 ≡ cond b 1 0 + cond b n 0) [ true ↦ omega arith | false ↦ omega arith ]

so_often : (t : List ℕ) (n : ℕ) (u : List ℕ) → counted (record { tuple = t; count = n } ∷ []) u ≡ times t n u
unfolding counted times
so_often t n u = omega arith

module _ (x y u : List ℕ) where
  pub none_given : {op : Op} → flags.op_of x ≡ op → flags.is_op op ops.Loop ≡ false → counted (loops_given x y) u ≡ 0
  unfolding loops_given
  none_given is apart = rw (is, apart) (counted-none u)

  pub none_asked : {op : Op} → flags.op_of x ≡ op → flags.is_op op ops.Repeat ≡ false → counted (loops_asked x y) u ≡ 0
  unfolding loops_asked
  none_asked is apart = rw (is, apart) (counted-none u)

  pub loop_gives : {word : List ℕ} {n k : ℕ} → flags.op_of x ≡ ops.Loop → addr y ≡ n → front x ≡ word → w x 0 ≡ k
      → counted (loops_given x y) u ≡ times (n ∷ word) k u
  unfolding loops_given
  loop_gives {word = word} {n = n} {k = k} is at digest often = rw (is, at, digest, often) (so_often (n ∷ word) k u)

  pub turn_asks : {word : List ℕ} {n : ℕ} → flags.op_of x ≡ ops.Repeat → addr x ≡ n → front x ≡ word
      → counted (loops_asked x y) u ≡ hit (n ∷ word) u
  unfolding loops_asked
  turn_asks {word = word} {n = n} is at digest = rw (is, at, digest) (one_count (n ∷ word) u)
