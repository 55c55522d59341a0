-- Numbers, read line by line: the elements so far in front of what the rest gives are what the whole text gives.
use Rattle.std.proofs.Common.{◌≡◌, ℕ, zero, suc, ◌+◌, ◌-◌, ◌<◌, ◌≤◌, ◌==◌, Bool, true, false, cond, option_map, List, [], ◌∷◌, ◌++◌, length, Option, Some, None, Result, Ok, Err, refl, sym, ap, ◌∙◌, arith, append_assoc, append-nil, length-append}
use Rattle.std.proofs.lemmas.Bool.Decides.{nat_tests}
use Rattle.rpo_hash.specs.ParamText.{one_line, one_element}
use Rattle.number_files.specs.declared.numbers.NumbersCause.TheVariants as cause
use Rattle.number_files.specs.declared.numbers.NumbersError.{NumbersError}
use Rattle.number_files.specs.Grammar.{with_first, one_more, elements_from}

abbrev Read : Type 0
Read = Result (List ℕ) NumbersError

abbrev joined : List ℕ → Read → Read
joined xs (Ok ys) = Ok (xs ++ ys)
joined xs (Err e) = Err e

joined-first : (xs : List ℕ) (x : ℕ) (r : Read) → joined xs (with_first x r) ≡ joined (xs ++ x ∷ []) r
joined-first xs x (Ok ys) = ap Ok (sym (append_assoc xs (x ∷ []) ys))
joined-first xs x (Err e) = refl

abbrev pub Goes : List ℕ → List ℕ → List ℕ → Type 0
Goes bytes xs rest = joined xs (elements_from (length bytes - length xs) (length xs + 1) rest) ≡ elements_from (length bytes) 1 bytes

pub begins : (bytes : List ℕ) → Goes bytes [] bytes
begins bytes = empty _ ∙ ap (λ k. elements_from k 1 bytes) (same (length bytes))
  where
    empty : (r : Read) → joined [] r ≡ r
    empty (Ok ys) = refl
    empty (Err e) = refl

    same : (n : ℕ) → n - 0 ≡ n
    same n = omega arith

step : (k j n : ℕ) (rest : List ℕ) (o : Option (ℕ × List ℕ)) → o ≡ one_element rest → k ≡ j + 1 → 0 < length rest
    → elements_from k n rest ≡ one_more (elements_from j (n + 1)) (record { line = n; cause = cause.Number }) o
unfolding elements_from
step zero j n rest o e one full = absurd (omega arith)
step (suc k) j n [] o e one full = absurd (omega arith)
step (suc k) j n (b ∷ bs) o e one full =
    ap (one_more (elements_from k (n + 1)) (record { line = n; cause = cause.Number })) (sym e)
    ∙ ap (λ i. one_more (elements_from i (n + 1)) (record { line = n; cause = cause.Number }) o) same
  where
    same : k ≡ j
    same = omega arith

pub goes_on : (bytes xs rest behind : List ℕ) (x : ℕ) → Some (x, behind) ≡ one_element rest → 0 < length rest → length xs + length rest ≤ length bytes
    → Goes bytes xs rest → Goes bytes (xs ++ x ∷ []) behind
goes_on bytes xs rest behind x is some fits goes = sym taken ∙ goes
  where
    next : ℕ
    next = length bytes - length (xs ++ x ∷ [])

    one : length bytes - length xs ≡ next + 1
    one = omega (arith, length-append xs (x ∷ []))

    taken : joined xs (elements_from (length bytes - length xs) (length xs + 1) rest)
        ≡ joined (xs ++ x ∷ []) (elements_from next (length (xs ++ x ∷ []) + 1) behind)
    taken =
        ap (joined xs) (step (length bytes - length xs) next (length xs + 1) rest _ is one some)
        ∙ joined-first xs x _
        ∙ ap (λ n. joined (xs ++ x ∷ []) (elements_from next (n + 1) behind)) (sym (length-append xs (x ∷ [])))

pub stops : (bytes xs rest : List ℕ) → None ≡ one_element rest → 0 < length rest → length xs + length rest ≤ length bytes → Goes bytes xs rest
    → elements_from (length bytes) 1 bytes ≡ Err (record { line = length xs + 1; cause = cause.Number })
stops bytes xs rest is some fits goes =
    sym goes ∙ ap (joined xs) (step (length bytes - length xs) (length bytes - length xs - 1) (length xs + 1) rest _ is (omega arith) some)

none_left : (k n : ℕ) (rest : List ℕ) → length rest ≡ 0 → elements_from k n rest ≡ Ok []
unfolding elements_from
none_left zero n rest none = refl
none_left (suc k) n [] none = refl
none_left (suc k) n (b ∷ bs) none = absurd (omega arith)

pub ends : (bytes xs rest : List ℕ) → length rest ≡ 0 → Goes bytes xs rest → elements_from (length bytes) 1 bytes ≡ Ok xs
ends bytes xs rest none goes =
    sym goes ∙ ap (joined xs) (none_left (length bytes - length xs) (length xs + 1) rest none) ∙ ap Ok (append-nil xs)

abbrev pub parted : List ℕ → List ℕ → Option (List ℕ × List ℕ)
parted line behind = Some (line, behind)

abbrev behind_of : Option (List ℕ × List ℕ) → List ℕ
behind_of None = []
behind_of (Some l) = l.1

pub some_left : (n : ℕ) → (n == 0) ≡ false → 0 < n
some_left zero h = absurd (cc)
some_left (suc n) h = omega arith

pub none_is_left : (n : ℕ) → (n == 0) ≡ true → n ≡ 0
none_is_left zero h = refl
none_is_left (suc n) h = grind (arith, nat_tests)

-- a line takes its line feed at least
pub shorter : (bytes line behind : List ℕ) → parted line behind ≡ one_line bytes → length behind < length bytes
unfolding one_line
shorter [] line behind is = absurd (cc)
shorter (b ∷ bs) line behind is = go (shorter bs) (b == 10) is
  where
    later : (o : Option (List ℕ × List ℕ)) → ((l r : List ℕ) → parted l r ≡ o → length r < length bs)
        → parted line behind ≡ option_map (λ l. (b ∷ l.0, l.1)) o → length behind < suc (length bs)
    later None front h = absurd (cc)
    later (Some (l, r)) front h = let same : length behind ≡ length r = ap (λ o. length (behind_of o)) h in omega (arith, front l r refl, same)

    go : ((l r : List ℕ) → parted l r ≡ one_line bs → length r < length bs) → (t : Bool)
        → parted line behind ≡ cond t (Some ([], bs)) (option_map (λ l. (b ∷ l.0, l.1)) (one_line bs))
        → length behind < suc (length bs)
    go front true h = let same : length behind ≡ length bs = ap (λ o. length (behind_of o)) h in omega (arith, same)
    go front false h = later (one_line bs) front h

pub one_more_fits : (bytes xs rest behind : List ℕ) (x : ℕ) → length behind < length rest → length xs + length rest ≤ length bytes
    → length (xs ++ x ∷ []) + length behind ≤ length bytes
one_more_fits bytes xs rest behind x less fits = omega (arith, length-append xs (x ∷ []))
