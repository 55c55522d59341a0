-- The rows of the kernel's table have entries 0, and give the calls.
use Rattle.fill_chips.proofs.Words.{◌≡◌, ℕ, zero, suc, ◌+◌, ◌<◌, Bool, true, false, ◌||◌, cond, nat_eq, List, [], ◌∷◌, ◌++◌, length, map, slice_index}
use Rattle.fill_chips.proofs.Words.{slice_index_or, All, refl, sym, ap, ap₂, ◌∙◌, arith, add-zero, same_text, get_or_append_left, All-head, All-tail}
use Rattle.fill_chips.proofs.Words.{sum_by-cons, pointwise, IsWord, ◌⊟◌, counted, once, over_rows, kernel_given, Claim, at_number, family, spot_of}
use Rattle.fill_chips.proofs.Words.{kernel_rows, times_called, without}
use Rattle.std.specs.List.{list_any}
use Rattle.std.proofs.lemmas.List.Folds.{list_any_at}
use Rattle.vm_field.proofs.Algebra.{felt_sub-same}
use Rattle.vm_field.proofs.Elements.{elements-index}
use Rattle.air_kit.specs.KernelValues.{kernel_values}
use Rattle.facts_hasher.proofs.BlockLemmas.{all_family}
use Rattle.facts_memory.proofs.RowsZero.{zero_number}
use Rattle.fill_chips.proofs.GivenLemmas.{over-cons, over-none}

pub kernel-size : (times : List ℕ → ℕ) (words : List (List ℕ)) → length (kernel_rows times words) ≡ length words
unfolding kernel_rows
kernel-size times [] = refl
kernel-size times (word ∷ words) = ap suc (kernel-size (without word times) words)

-- ---- entries

row-at : (times : List ℕ → ℕ) (words : List (List ℕ)) (i j : ℕ) → All IsWord words → i < length words → j < 4
    → slice_index (slice_index_or (kernel_rows times words) i []) j ≡ slice_index (slice_index_or words i []) j
unfolding kernel_rows
row-at times [] i j are within low = absurd (omega arith)
row-at times (word ∷ words) zero j are within low =
    let four = (All-head IsWord word words are).size in
    get_or_append_left word (times word ∷ []) 0 j (omega (arith, four))
row-at times (word ∷ words) (suc i) j are within low = row-at (without word times) words i j (All-tail IsWord word words are) (omega arith) low

pub kernel-zero : (c : Claim) (times : List ℕ → ℕ) (words : List (List ℕ)) → c.kernel ≡ words → All IsWord words → (i number : ℕ)
    → i < length (kernel_rows times words) → at_number (kernel_values c (spot_of (kernel_rows times words) i)) number ≡ 0
unfolding kernel_values
kernel-zero c times words e are i number within =
    zero_number (family 4 (λ j. slice_index (slice_index_or (kernel_rows times words) i []) j ⊟ slice_index (slice_index_or c.kernel i []) j))
    number (all_family 4 _ (λ j low.
    let low_i : i < length words = omega (arith, kernel-size times words) in
    let same = row-at times words i j are low_i low in
    ap₂ (λ (m : ℕ) (kernel : List (List ℕ)). m ⊟ slice_index (slice_index_or kernel i []) j) same e
    ∙ felt_sub-same (slice_index (slice_index_or words i []) j) (slice_index (slice_index_or words i []) j)
    (elements-index (slice_index_or words i []) j (are i [] low_i).below) refl))

-- ---- what is given

abbrev pub kernel_over : List (List ℕ) → List ℕ → ℕ
kernel_over rows u = over_rows (λ i row next. kernel_given row) rows u

row-gives : (word : List ℕ) (n : ℕ) (u : List ℕ) → length word ≡ 4 → counted (kernel_given (word ++ n ∷ [])) u ≡ cond (pointwise nat_eq word u) n 0
unfolding kernel_given counted
row-gives (a ∷ b ∷ c ∷ d ∷ []) n u four = add-zero (cond (pointwise nat_eq (a ∷ b ∷ c ∷ d ∷ []) u) n 0)
row-gives _ n u four = absurd (omega arith)

-- whether a word is one of these
abbrev stands_in : List (List ℕ) → List ℕ → Bool
stands_in words u = list_any (λ word. pointwise nat_eq word u) words

sum_is : (here later : Bool) (m n : ℕ) → (here ≡ true → m ≡ n) → cond here m 0 + cond later (cond here 0 n) 0 ≡ cond (here || later) n 0
sum_is true true m n same = let e = same refl in omega (arith, e)
sum_is true false m n same = let e = same refl in omega (arith, e)
sum_is false true m n same = omega arith
sum_is false false m n same = refl

rows-give : (times : List ℕ → ℕ) (words : List (List ℕ)) (u : List ℕ) → All IsWord words
    → kernel_over (kernel_rows times words) u ≡ cond (stands_in words u) (times u) 0
unfolding kernel_rows
rows-give times [] u are = over-none (λ i row next. kernel_given row) u
rows-give times (word ∷ words) u are =
    over-cons kernel_given (word ++ times word ∷ []) (kernel_rows (without word times) words) u
    ∙ ap₂ (λ m n. m + n) (row-gives word (times word) u (All-head IsWord word words are).size)
    (rows-give (without word times) words u (All-tail IsWord word words are))
    ∙ sum_is (pointwise nat_eq word u) (stands_in words u) (times word) (times u) (λ same. ap times (same_text word u (sym same)))

-- a call is of one of the words
abbrev IsOneOf : List (List ℕ) → List ℕ → Type 0
IsOneOf words call = (i : ℕ) × (i < length words) × (slice_index_or words i [] ≡ call)

calls-are : (calls : List (List ℕ)) (u : List ℕ) → counted (map once calls) u ≡ times_called calls u
unfolding counted
calls-are [] u = refl
calls-are (call ∷ calls) u =
    ap (λ n. cond (pointwise nat_eq call u) 1 0 + n) (calls-are calls u) ∙ sym (sum_by-cons (λ c. cond (pointwise nat_eq c u) 1 0) call calls)

-- what is no word is not called
none-called : (words calls : List (List ℕ)) (u : List ℕ) → All (IsOneOf words) calls → stands_in words u ≡ false → times_called calls u ≡ 0
none-called words [] u are none = refl
none-called words (call ∷ calls) u are none =
    sum_by-cons (λ c. cond (pointwise nat_eq c u) 1 0) call calls
    ∙ ap₂ (λ m n. m + n) (apart (pointwise nat_eq call u) refl) (none-called words calls u (All-tail (IsOneOf words) call calls are) none)
  where
    one : IsOneOf words call
    one = All-head (IsOneOf words) call calls are

    apart : (b : Bool) → pointwise nat_eq call u ≡ b → ◌≡◌ {A = ℕ} (cond b 1 0) 0
    apart true same =
        absurd (let found : stands_in words u
        ≡ true = list_any_at (λ word. pointwise nat_eq word u) words one.0 [] one.1
        (ap (λ w. pointwise nat_eq w u) one.2 ∙ same) in cc)
    apart false other = refl

given_by : (b : Bool) (n : ℕ) → (b ≡ false → n ≡ 0) → cond b n 0 ≡ n
given_by true n none = refl
given_by false n none = sym (none refl)

pub kernel_gives : (words calls : List (List ℕ)) (u : List ℕ) → All IsWord words → All (IsOneOf words) calls
    → kernel_over (kernel_rows (times_called calls) words) u ≡ counted (map once calls) u
kernel_gives words calls u are one_of =
    rows-give (times_called calls) words u are
    ∙ given_by (stands_in words u) (times_called calls u) (none-called words calls u one_of)
    ∙ sym (calls-are calls u)
