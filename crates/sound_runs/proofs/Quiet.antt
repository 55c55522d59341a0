-- What the row of a block leaves as it is: memory, the tape and, unless it calls or ends a call, the function that runs.
use Rattle.sound_runs.proofs.Words.{◌≡◌, ℕ, suc, ◌<◌, false, List, [], ◌∷◌, ◌++◌, drop, None, ap, sym, ◌∙◌, lit<, Op, fmp, ctx, sys, f, is_op, is_right}
use Rattle.sound_runs.proofs.Words.{is_call_op, memory_at, memory_behind, taken_by, tape_of, written_by, function_digest, KeepsBlock, ends_call, row_at}
use Rattle.sound_runs.proofs.Words.{tape_goes, IsAt}
use Rattle.std.proofs.lemmas.Bool.{not_from_false, or_from, or_parts}
use Rattle.sound_runs.proofs.Words.ops

-- an operation that takes nothing from the tape and writes nothing, and neither pushes a cell nor moves the frame pointer
pub record IsQuiet (m : Op) : Type 0 where
  pub right : is_right m ≡ false
  pub writes : (x : List ℕ) → written_by m x ≡ None
  pub takes : (y : List ℕ) → taken_by m y ≡ []
  pub update : is_op m ops.FmpUpdate ≡ false

pub memory_stays : (rows : List (List ℕ)) (i : ℕ) (m : Op) → IsAt rows i m → IsQuiet m → memory_at rows i ≡ memory_at rows (suc i)
unfolding memory_at
memory_stays rows i m at quiet =
    sym (ap (λ o. memory_behind (row_at rows i) (written_by o (row_at rows i)) (memory_at rows i)) at.is
    ∙ ap (λ o. memory_behind (row_at rows i) o (memory_at rows i)) (quiet.writes (row_at rows i)))

pub tape_stays : (rows : List (List ℕ)) (i : ℕ) (m : Op) → IsAt rows i m → IsQuiet m → tape_of (drop i rows) ≡ tape_of (drop (suc i) rows)
tape_stays rows i m at quiet =
    tape_goes rows i at.within
    ∙ ap (λ o. taken_by o (row_at rows (suc i)) ++ tape_of (drop (suc i) rows)) at.is
    ∙ ap (λ (u : List ℕ). u ++ tape_of (drop (suc i) rows)) (quiet.takes (row_at rows (suc i)))

-- the function that runs, by the rows' cells
pub record IsSameFunction (x y : List ℕ) : Type 0 where
  pub context : ctx x ≡ ctx y
  pub frame : fmp x ≡ fmp y
  pub syscall : sys x ≡ sys y
  pub digest : function_digest x ≡ function_digest y

pub digest_same : (x y : List ℕ) → ((j : ℕ) → j < 4 → f y j ≡ f x j) → function_digest x ≡ function_digest y
unfolding function_digest
digest_same x y e = λ i. sym (e 0 (lit< tt)) i ∷ sym (e 1 (lit< tt)) i ∷ sym (e 2 (lit< tt)) i ∷ sym (e 3 (lit< tt)) i ∷ []

pub same_function : (op : Op) (x y : List ℕ) → KeepsBlock op x y → is_call_op op ≡ false → ends_call op x ≡ false → is_op op ops.FmpUpdate ≡ false
    → IsSameFunction x y
same_function op x y keeps no_call no_return no_update = record {
  context = sym stays.0;
  frame = sym (keeps.frame (not_from_false _ (or_from _ _ (or_from (is_call_op op) (ends_call op x) no_call no_return) no_update)));
  syscall = sym stays.1;
  digest = digest_same x y (keeps.digest (not_from_false _ (or_from _ _ (or_parts (is_op op ops.Call) (is_op op ops.Syscall) no_call).0 no_return)));
}
  where
    stays : (ctx y ≡ ctx x) × (sys y ≡ sys x)
    stays = keeps.function (not_from_false _ (or_from (is_call_op op) (ends_call op x) no_call no_return))
