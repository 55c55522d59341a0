-- The states of the first row and of the last one.
use Rattle.sound_runs.proofs.Words.{◌≡◌, ℕ, zero, suc, ◌-◌, ◌<◌, ◌≤◌, List, [], ◌∷◌, drop, eqb, length, refl, ap, arith, lit<, f, Claim, memory_at, overflow_at}
use Rattle.sound_runs.proofs.Words.{tape_of, function_digest, row_at, op_in, EndFacts}
use Rattle.vm_field.specs.Machine.{start}
use Rattle.facts_main.specs.Bounds.{IsFirstRow}
use Rattle.sound_runs.proofs.Going.{same_state}
use Rattle.sound_runs.proofs.Premises.{Known, clock_at, state_in}
use Rattle.sound_runs.proofs.Stacks.{all_filled}

-- ---- the first row

zero_digest : (x : List ℕ) → ((j : ℕ) → j < 4 → f x j ≡ 0) → function_digest x ≡ 0 ∷ 0 ∷ 0 ∷ 0 ∷ []
unfolding function_digest
zero_digest x e = λ i. e 0 (lit< tt) i ∷ e 1 (lit< tt) i ∷ e 2 (lit< tt) i ∷ e 3 (lit< tt) i ∷ []

pub first_state : (k : Claim) (rows : List (List ℕ)) → IsFirstRow k (op_in rows 0) (row_at rows 0)
    → state_in k rows 0 ≡ start k.inputs (tape_of rows)
unfolding start overflow_at memory_at
first_state k rows first =
    same_state first.start.clock first.start.context first.start.frame (ap (λ n. eqb n 1) first.start.syscall)
    (zero_digest (row_at rows 0) first.start.digest) first.start.level
    (all_filled (row_at rows 0) k.inputs first.inputs) refl refl

-- ---- the last row

nothing_taken : (rows : List (List ℕ)) (i : ℕ) → suc i ≡ length rows → tape_of (drop i rows) ≡ []
unfolding tape_of
nothing_taken (x ∷ []) zero e = refl
nothing_taken (x ∷ rows) (suc i) e = nothing_taken rows i (omega (arith, e))
nothing_taken rows i e = absurd (omega (arith, e))

pub end_facts : {constants : List ℕ} {kernel rows : List (List ℕ)} {k : Claim} → Known constants kernel k rows → 1 ≤ length rows
    → EndFacts k rows
end_facts {rows = rows} {k = k} known some = record {
  starts = first_state k rows (known.shows.first some);
  stands = record {
    stack = known.lists.stack_left (length rows - 1) (omega (arith, some));
    tape = nothing_taken rows (length rows - 1) (omega (arith, some));
  };
  clock = clock_at known (length rows - 1) (omega (arith, some));
}
