-- Laws of parts that are read one after the other, from those of one part.
use Rattle.table_file.proofs.Words.{◌≡◌, ℕ, zero, suc, ◌+◌, ◌*◌, List, [], ◌∷◌, ◌++◌, length, drop, All, Result, Ok, refl, sym, ap, ap₂, subst, ◌∙◌, arith}
use Rattle.table_file.proofs.Words.{append_assoc, drop-append_seam, drop-drop, length-append, FileError, behind, parts_at, parts_bytes}
use Rattle.std.proofs.lemmas.List.Elements.{All-nil, All-cons, All-head, All-tail}
use Rattle.table_file.proofs.Chains.{chain}
use Rattle.table_file.proofs.Going.{parts_more, parts_none}

-- what stands behind a part of this size
pub behind_part : (bytes part rest : List ℕ) (at size : ℕ) → length part ≡ size → drop at bytes ≡ part ++ rest → drop (at + size) bytes ≡ rest
behind_part bytes part rest at size wide is =
    sym (drop-drop size at bytes) ∙ ap (drop size) is ∙ ap (λ (n : ℕ). drop n (part ++ rest)) (sym wide) ∙ drop-append_seam part rest

module _ {A : Type 0} (part : ℕ → Result A FileError) (size : ℕ) where
  same : (xs ys : List A) (r : Result (List A) FileError) → r ≡ Ok xs → r ≡ Ok ys → ys ≡ xs
  same xs ys r a b = cc

  none_is : (at : ℕ) (all : List A) → parts_at part size zero at ≡ Ok all → all ≡ []
  none_is at all is = same [] all (parts_at part size zero at) (parts_none part size at) is

  split : (m at : ℕ) (all : List A) → parts_at part size (suc m) at ≡ Ok all
      → (x : A) × (part at ≡ Ok x) × (rest : List A) × (parts_at part size m (at + size) ≡ Ok rest) × (all ≡ x ∷ rest)
  unfolding parts_at
  split m at all is =
      let a = chain (part at) all _ is in
      let b = chain (parts_at part size m (at + size)) all _ a.2 in
      (a.0, a.1, b.0, b.1, same (a.0 ∷ b.0) all (Ok (a.0 ∷ b.0)) refl b.2)

  pub parts-count : (n at : ℕ) (all : List A) → parts_at part size n at ≡ Ok all → length all ≡ n
  parts-count zero at all is = ap length (none_is at all is)
  parts-count (suc n) at all is =
      let s = split n at all is in
      ap length s.4 ∙ ap suc (parts-count n (at + size) s.2 s.3)

  -- what each good part has, all have
  pub parts-have : (Good : A → Type 0) → ((at : ℕ) (x : A) → part at ≡ Ok x → Good x) → (n at : ℕ) (all : List A)
      → parts_at part size n at ≡ Ok all → All Good all
  parts-have Good each zero at all is = subst (All Good) (sym (none_is at all is)) (All-nil Good)
  parts-have Good each (suc n) at all is =
      let s = split n at all is in
      subst (All Good) (sym s.4) (All-cons Good s.0 s.2 (each at s.0 s.1) (parts-have Good each n (at + size) s.2 s.3))

  module _ (bytes : List ℕ) (write : A → List ℕ) where
    -- the bytes of good parts are their own, where each part's are
    pub parts-written : ((at : ℕ) (x : A) → part at ≡ Ok x → write x ++ drop (at + size) bytes ≡ drop at bytes)
        → (n at : ℕ) (all : List A) → parts_at part size n at ≡ Ok all
        → parts_bytes write all ++ drop (at + size * n) bytes ≡ drop at bytes
    unfolding parts_bytes
    parts-written each zero at all is =
        let place : at + size * 0 ≡ at = omega arith in
        ap₂ (λ (xs : List A) (k : ℕ). parts_bytes write xs ++ drop k bytes) (none_is at all is) place
    parts-written each (suc n) at all is =
        let s = split n at all is in
        let place : at + size * suc n ≡ at + size + size * n = omega arith in
        ap₂ (λ (xs : List A) (k : ℕ). parts_bytes write xs ++ drop k bytes) s.4 place
        ∙ append_assoc (write s.0) (parts_bytes write s.2) (drop (at + size + size * n) bytes)
        ∙ ap (λ (bs : List ℕ). write s.0 ++ bs) (parts-written each n (at + size) s.2 s.3)
        ∙ each at s.0 s.1

    module _ (Good : A → Type 0) (wide : (x : A) → Good x → length (write x) ≡ size) where
      pub parts-wide : (xs : List A) → All Good xs → length (parts_bytes write xs) ≡ size * length xs
      unfolding parts_bytes
      parts-wide [] good = omega arith
      parts-wide (x ∷ xs) good =
          let one = wide x (All-head Good x xs good) in
          let more = parts-wide xs (All-tail Good x xs good) in
          omega (arith, one, more, length-append (write x) (parts_bytes write xs))

      -- the bytes of parts read as the parts, where each part's do
      pub parts-read : ((at : ℕ) (x : A) (rest : List ℕ) → Good x → drop at bytes ≡ write x ++ rest → part at ≡ Ok x)
          → (xs : List A) (at : ℕ) (rest : List ℕ) → All Good xs → drop at bytes ≡ parts_bytes write xs ++ rest
          → parts_at part size (length xs) at ≡ Ok xs
      unfolding parts_bytes
      parts-read each [] at rest good is = parts_none part size at
      parts-read each (x ∷ xs) at rest good is =
          let first = All-head Good x xs good in
          let there : drop at bytes ≡ write x ++ (parts_bytes write xs ++ rest) = is ∙ append_assoc (write x) (parts_bytes write xs) rest in
          parts_more part size (length xs) at x (each at x (parts_bytes write xs ++ rest) first there)
          ∙ ap (λ r. behind r (λ ys. Ok (x ∷ ys)))
          (parts-read each xs (at + size) rest (All-tail Good x xs good)
          (behind_part bytes (write x) (parts_bytes write xs ++ rest) at size (wide x first) there))
