-- The rows of the kernel's table.
use Rattle.std.specs.Prelude.{ℕ, nat_eq, if◌then◌else◌, List, [], ◌∷◌, ◌++◌, count_by}
use lib.Pointwise.{pointwise}

-- how often a word is called
abbrev pub times_called : List (List ℕ) → List ℕ → ℕ
times_called calls word = count_by (λ call. pointwise nat_eq call word) calls

-- how often each word counts where this one was counted before
abbrev pub without : List ℕ → (List ℕ → ℕ) → List ℕ → ℕ
without word times u = if pointwise nat_eq word u then 0 else times u

-- each word with how often it counts; where a word stands twice, its first row has its count
unfoldable pub kernel_rows : (List ℕ → ℕ) → List (List ℕ) → List (List ℕ)
kernel_rows times [] = []
kernel_rows times (word ∷ words) = (word ++ times word ∷ []) ∷ kernel_rows (without word times) words
