-- The word that the accesses so far leave at a place, and that it is the word before the next access there.
use Rattle.complete_rows.proofs.Words
use Words.{◌≡◌, ◌⊎◌, inl, inr, ℕ, ◌-◌, ◌<◌, ◌≤◌, List, [], ◌∷◌, ◌++◌, length, slice_index_or, All, refl, sym, ap, ap₂, ◌∙◌, subst, arith, length-append}
use Words.{cases_lt, get_or_append_left, get_or_past, All-append, All-cons, All-nil, zero_word, Access}
use Rattle.std.proofs.lemmas.List.{get_or-append_right}
use Rattle.std.proofs.Math.Seq.{get_or-append_seam}
use Rattle.vm_field.proofs.Places.{same_place}
use Rattle.air_kit.specs.Requests as requests
use Rattle.air_kit.specs.Requests.{IsWordBefore}

abbrev pub IsAt : Access → ℕ → ℕ → Type 0
IsAt a context address = (a.ctx ≡ context) × (a.addr ≡ address)

-- that of the last access there, or zeros
pub data IsLatest (past : List Access) (context address : ℕ) : List ℕ → Type 0 where
  none : All (λ o. IsAt o context address → ⊥) past → IsLatest past context address zero_word
  some : (i : ℕ) (last : Access) → i < length past → ((d : Access) → slice_index_or past i d ≡ last) → IsAt last context address
      → All (λ o. IsAt o context address → o.clk ≤ last.clk) past → IsLatest past context address last.word

-- ---- behind one more access

one_more : (P : Access → Type 0) (past : List Access) (a : Access) → All P past → P a → All P (past ++ a ∷ [])
one_more P past a all new = All-append P past (a ∷ []) all (All-cons P a [] new (All-nil P))

here : (past : List Access) (a : Access) (context address : ℕ) → All (λ o. o.clk < a.clk) past → IsAt a context address
    → IsLatest (past ++ a ∷ []) context address a.word
here past a context address low at =
    some (length past) a (let size = length-append past (a ∷ []) in omega (arith, size))
    (get_or-append_seam past a []) at
    (one_more (λ o. IsAt o context address → o.clk ≤ a.clk) past a (λ k d h also. let less = low k d h in omega (arith, less)) (λ also. omega arith))

elsewhere : (past : List Access) (a : Access) (context address : ℕ) (word : List ℕ) → (IsAt a context address → ⊥)
    → IsLatest past context address word → IsLatest (past ++ a ∷ []) context address word
elsewhere past a context address word away (none all) = none (one_more (λ o. IsAt o context address → ⊥) past a all away)
elsewhere past a context address word away (some i last low is at all) =
    some i last (let size = length-append past (a ∷ []) in omega (arith, size, low))
    (λ d. get_or_append_left past (a ∷ []) d i low ∙ is d) at
    (one_more (λ o. IsAt o context address → o.clk ≤ last.clk) past a all (λ also. absurd (away also)))

pub one_later : (past : List Access) (a : Access) (context address : ℕ) (old new : List ℕ) → All (λ o. o.clk < a.clk) past
    → IsLatest past context address old → (IsAt a context address → new ≡ a.word) → ((IsAt a context address → ⊥) → new ≡ old)
    → IsLatest (past ++ a ∷ []) context address new
one_later past a context address old new low latest accessed kept =
    elim (same_place (a.ctx, a.addr) (context, address)) [
      | inl same ↦
          let at : IsAt a context address = (ap (λ (p : ℕ × ℕ). p.0) same, ap (λ (p : ℕ × ℕ). p.1) same) in
          subst (IsLatest (past ++ a ∷ []) context address) (sym (accessed at)) (here past a context address low at)
      | inr differ ↦
          let away : IsAt a context address → ⊥ = λ at. differ (ap₂ (λ (c p : ℕ). (c, p)) at.0 at.1) in
          subst (IsLatest (past ++ a ∷ []) context address) (sym (kept away)) (elsewhere past a context address old away latest)
    ]

-- ---- before an access, with others behind it

not_earlier : (rest : List Access) (a : Access) (i : ℕ) → All (λ o. a.clk ≤ o.clk) rest → a.clk ≤ (slice_index_or rest i a).clk
not_earlier rest a i high = go (cases_lt i (length rest))
  where
    go : (i < length rest) ⊎ (length rest ≤ i) → a.clk ≤ (slice_index_or rest i a).clk
    go (inl low) = high i a low
    go (inr far) = let same : (slice_index_or rest i a).clk ≡ a.clk = ap (λ o. o.clk) (get_or_past rest i a far) in omega (arith, same)

-- an earlier access stands among those before it
in_past : (past rest : List Access) (a other : Access) (i : ℕ) → All (λ o. a.clk ≤ o.clk) rest → slice_index_or (past ++ rest) i a ≡ other
    → other.clk < a.clk → (i < length past) × (slice_index_or past i a ≡ other)
in_past past rest a other i high is early = go (cases_lt i (length past))
  where
    go : (i < length past) ⊎ (length past ≤ i) → (i < length past) × (slice_index_or past i a ≡ other)
    go (inl low) = (low, sym (get_or_append_left past rest a i low) ∙ is)
    go (inr far) =
        let place : (slice_index_or rest (i - length past) a).clk ≡ other.clk
        = ap (λ o. o.clk) (sym (get_or-append_right past rest (length past) i a refl far) ∙ is) in
        let late = not_earlier rest a (i - length past) high in
        absurd (omega (arith, place, late, early))

pub word_before : (past rest : List Access) (a : Access) (word : List ℕ) → All (λ o. o.clk < a.clk) past → All (λ o. a.clk ≤ o.clk) rest
    → IsLatest past a.ctx a.addr word → IsWordBefore (past ++ rest) a word
word_before past rest a word low high (none all) =
    requests.never (λ i other is earlier.
    let found = in_past past rest a other i high is earlier.clk in
    all i a found.0 (ap (λ o. o.ctx) found.1 ∙ earlier.ctx, ap (λ o. o.addr) found.1 ∙ earlier.addr))
word_before past rest a word low high (some i last small is at all) =
    requests.last i last (get_or_append_left past rest a i small ∙ is a)
    (record { ctx = at.0; addr = at.1; clk = subst (λ o. o.clk < a.clk) (is a) (low i a small) })
    (λ j between same earlier.
    let found = in_past past rest a between j high same earlier.clk in
    subst (λ o. o.clk ≤ last.clk) found.1
    (all j a found.0 (ap (λ o. o.ctx) found.1 ∙ earlier.ctx, ap (λ o. o.addr) found.1 ∙ earlier.addr)))
