-- Sizes of lists, one behind the other.
use Rattle.std.proofs.Common.{◌≡◌, ◌≢◌, ℕ, zero, suc, ◌+◌, ◌-◌, ◌*◌, ◌<◌, Bool, List, [], ◌∷◌, ◌++◌, length, take, get_or, refl, sym, ap, ◌∙◌, arith}
use Rattle.std.specs.Prelude.{slice_get}
use Rattle.std.proofs.lemmas.Bool.Decides.{nat_tests}
use Rattle.std.proofs.lemmas.List.{take_more}
use Rattle.masm_size.specs.declared.shape.Rise.{Rise}
use Rattle.masm_size.specs.Sizes.{ShapeRow, Size, limited, run_of, nothing, one_run, capped, top_of, top_after, rises_behind, offset_of, starts_with, row_behind, row_times, times_size}

-- the last part that is higher than all before it
top_any : (below : ℕ) (rise : Rise) (rises : List Rise)
    → top_of below (rise ∷ rises) ≡ top_after (slice_get (rise ∷ rises) (length (rise ∷ rises) - 1))
top_any below rise [] = refl
top_any below rise (next ∷ rises) =
    let last : length (rise ∷ next ∷ rises) - 1 ≡ suc (length (next ∷ rises) - 1) = omega arith in
    top_any (suc rise.height) next rises ∙ ap (λ k. top_after (slice_get (rise ∷ next ∷ rises) k)) (sym last)

pub top_last : (rises : List Rise) → top_of 0 rises ≡ top_after (slice_get rises (length rises - 1))
top_last [] = refl
top_last (rise ∷ rises) = top_any 0 rise rises

behind-append : (offset below : ℕ) (xs ys : List Rise)
    → rises_behind offset below (xs ++ ys) ≡ rises_behind offset below xs ++ rises_behind offset below ys
behind-append offset below [] ys = refl
behind-append offset below (x ∷ xs) ys = grind (arith, nat_tests, behind-append offset below xs ys)

pub behind_more : (offset below : ℕ) (rises : List Rise) (i : ℕ) (rise : Rise) → i < length rises
    → rises_behind offset below (take (i + 1) rises)
    ≡ rises_behind offset below (take i rises) ++ rises_behind offset below (get_or rises i rise ∷ [])
behind_more offset below rises i rise within =
    ap (rises_behind offset below) (take_more rises i rise within) ∙ behind-append offset below (take i rises) (get_or rises i rise ∷ [])

pub behind_none : (a b : ShapeRow) (rises : List Rise) → rises ≡ [] → row_behind a b rises ≡ a
behind_none a b rises none = ap (row_behind a b) none

pub behind_some : (a b : ShapeRow) (rises : List Rise) → rises ≢ [] → row_behind a b rises ≡ record {
  whole = capped (offset_of a b.starts + b.whole);
  starts = starts_with a b.starts a.rises;
  ends = b.ends;
  rises = a.rises ++ rises_behind (offset_of a b.starts) (top_of 0 a.rises) rises;
}
behind_some a b [] some = absurd (some refl)
behind_some a b (rise ∷ rises) some = refl

pub starts_none : (a : ShapeRow) (b : Bool) (rises : List Rise) → rises ≡ [] → starts_with a b rises ≡ b
starts_none a b rises none = ap (starts_with a b) none

pub starts_some : (a : ShapeRow) (b : Bool) (rises : List Rise) → rises ≢ [] → starts_with a b rises ≡ a.starts
starts_some a b [] some = absurd (some refl)
starts_some a b (rise ∷ rises) some = refl

pub ruleset rows = (behind_none, behind_some, starts_none, starts_some)

pub times_none : (n : ℕ) (s : Size) → n ≡ 0 → times_size n s ≡ nothing
times_none n s none = ap (λ k. times_size k s) none

pub times_some : (n : ℕ) (s : Size) → 0 < n → times_size n s ≡ limited (n * s.operations) (row_times (n - 1) s.row)
times_some zero s h = absurd (omega arith)
times_some (suc n) s h =
    let same : suc n - 1 ≡ n = omega arith in
    ap (λ k. limited (suc n * s.operations) (row_times k s.row)) (sym same)

pub ruleset many_times = (times_none, times_some)

pub run_of_some : (n : ℕ) → 0 < n → run_of n ≡ limited n one_run
run_of_some zero h = absurd (omega arith)
run_of_some (suc n) h = refl
