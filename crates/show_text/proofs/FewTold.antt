-- The first numbers that pass a test, told one by one.
use Rattle.std.proofs.Common.{◌≡◌, ℕ, zero, suc, ◌+◌, ◌<◌, ◌≤◌, Bool, true, false, cond, List, [], ◌∷◌, ◌++◌, length, take, min, refl, sym, ap, ◌∙◌, arith, append-nil, length-append}
use Rattle.std.specs.List.{filter, flat_map, range_with_len}
use Rattle.std.proofs.lemmas.List.{flat_map_more, take-append-le, take_all}
use Rattle.std.proofs.lemmas.List.Elements.{filter-append}

-- those below n
abbrev pub passing : (ℕ → Bool) → ℕ → List ℕ
passing test n = filter test (range_with_len 0 n)

-- of those below n at most m are told behind a text, and counted
pub record Told (f : ℕ → List ℕ) (test : ℕ → Bool) (m n : ℕ) (text longer : List ℕ) (told : ℕ) : Type 0 where
  pub is : longer ≡ text ++ flat_map f (take m (passing test n))
  pub many : told ≡ min m (length (passing test n))

range_more : (a n j : ℕ) → a + n ≡ j → range_with_len a (suc n) ≡ range_with_len a n ++ j ∷ []
range_more a zero j is = ap (λ x. x ∷ []) (start a j is)
  where
    start : (a j : ℕ) → a + 0 ≡ j → a ≡ j
    start a j e = omega arith
range_more a (suc n) j is = ap (λ later. a ∷ later) (range_more (a + 1) n j (omega arith))

-- one more number
passing_more : (test : ℕ → Bool) (n : ℕ) (passes : Bool) → test n ≡ passes → passing test (suc n) ≡ passing test n ++ cond passes (n ∷ []) []
passing_more test n passes is =
    ap (filter test) (range_more 0 n n (omega arith)) ∙ filter-append test (range_with_len 0 n) (n ∷ [])
    ∙ ap (λ t. passing test n ++ cond t (n ∷ []) []) is

one_more : (n next : ℕ) → next ≡ n + 1 → next ≡ suc n
one_more n next is = omega arith

-- it passes, and is told
pub tells : (f : ℕ → List ℕ) (test : ℕ → Bool) (m n next : ℕ) (text so_far longer : List ℕ) (before told : ℕ) → Told f test m n text so_far before
    → before < m → test n ≡ true → longer ≡ so_far ++ f n → told ≡ before + 1 → next ≡ n + 1 → Told f test m next text longer told
tells f test m n next text so_far longer before told h few passes is counted step = record {
  is =
      is ∙ ap (λ t. t ++ f n) h.is ∙ flat_map_more f text (take m kept) n
      ∙ ap (λ xs. text ++ flat_map f (xs ++ n ∷ [])) (take_all m kept (omega arith))
      ∙ ap (λ xs. text ++ flat_map f xs) (sym (ap (take m) more ∙ take_all m (kept ++ n ∷ []) (omega (arith, long))));
  many = omega (arith, ap length more, long);
}
  where
    kept : List ℕ
    kept = passing test n

    long : length (kept ++ n ∷ []) ≡ length kept + 1
    long = length-append kept (n ∷ [])

    more : passing test next ≡ kept ++ n ∷ []
    more = ap (passing test) (one_more n next step) ∙ passing_more test n true passes

-- it does not pass
pub passes_by : (f : ℕ → List ℕ) (test : ℕ → Bool) (m n next : ℕ) (text so_far longer : List ℕ) (before told : ℕ)
    → Told f test m n text so_far before → test n ≡ false → longer ≡ so_far → told ≡ before → next ≡ n + 1 → Told f test m next text longer told
passes_by f test m n next text so_far longer before told h fails is counted step = record {
  is = is ∙ h.is ∙ ap (λ xs. text ++ flat_map f (take m xs)) (sym same);
  many = counted ∙ h.many ∙ ap (λ xs. min m (length xs)) (sym same);
}
  where
    same : passing test next ≡ passing test n
    same =
        ap (passing test) (one_more n next step) ∙ passing_more test n false fails ∙ append-nil (passing test n)

-- as many as may be told are told
pub is_full : (f : ℕ → List ℕ) (test : ℕ → Bool) (m n next : ℕ) (text so_far longer : List ℕ) (before told : ℕ)
    → Told f test m n text so_far before → m ≤ before → longer ≡ so_far → told ≡ before → next ≡ n + 1 → Told f test m next text longer told
is_full f test m n next text so_far longer before told h full is counted step = record {
  is = is ∙ h.is ∙ ap (λ xs. text ++ flat_map f xs) (sym (ap (take m) more ∙ take-append-le m kept rest (omega arith)));
  many = omega (arith, ap length more, length-append kept rest);
}
  where
    kept : List ℕ
    kept = passing test n

    rest : List ℕ
    rest = cond (test n) (n ∷ []) []

    more : passing test next ≡ kept ++ rest
    more = ap (passing test) (one_more n next step) ∙ passing_more test n (test n) refl
