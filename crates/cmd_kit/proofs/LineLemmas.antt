-- A line of a list: its names, and those of the lines behind it.
use Rattle.cmd_kit.proofs.Words.{◌≡◌, ℕ, zero, suc, ◌+◌, ◌<◌, ◌≤◌, true, List, [], ◌∷◌, drop, get_or, length, map, Bor, Some, slice_get, sym, ap, subst, ◌∙◌}
use Rattle.cmd_kit.proofs.Words.{arith, AllByRecursion, list_all, and_parts, nat_tests, is_file_name, most_name_bytes, IsLine, chain_link, run_link}

same : (a b : List (List ℕ)) → Some a ≡ Some b → a ≡ b
same a b e = cc

pub line_behind : (lines : List (List (List ℕ))) (i : ℕ) (names : List (List ℕ)) → slice_get lines i ≡ Some names
    → drop i lines ≡ names ∷ drop (i + 1) lines
line_behind [] i names e = absurd (cc)
line_behind (x ∷ lines) zero names e = ap (λ y. y ∷ lines) (same x names e)
line_behind (x ∷ lines) (suc i) names e =
    let on : suc i + 1 ≡ suc (i + 1) = omega arith in
    line_behind lines i names e ∙ ap (λ k. names ∷ drop k (x ∷ lines)) (sym on)

pub line_at : (count : ℕ) (lines : List (List (List ℕ))) (i : ℕ) (names : List (List ℕ)) → AllByRecursion (IsLine count) lines
    → slice_get lines i ≡ Some names → IsLine count names
line_at count [] i names all e = absurd (cc)
line_at count (x ∷ lines) zero names all e = subst (IsLine count) (same x names e) all.0
line_at count (x ∷ lines) (suc i) names all e = line_at count lines i names all.1 e

pub short_name : (name : List ℕ) → is_file_name name ≡ true → length name ≤ most_name_bytes
short_name name is = grind (arith, nat_tests, is)

-- each of so many names is that of a file
pub short_at : (names : List (Bor (List ℕ))) (i : ℕ) (d : Bor (List ℕ)) → i < length names → list_all is_file_name (map (λ n. n.now) names) ≡ true
    → length (get_or names i d).now ≤ most_name_bytes
short_at [] i d within all = absurd (omega (arith, within))
short_at (x ∷ names) zero d within all =
    short_name x.now (and_parts (is_file_name x.now) (list_all is_file_name (map (λ n. n.now) names)) all).0
short_at (x ∷ names) (suc i) d within all =
    short_at names i d (omega (arith, within)) (and_parts (is_file_name x.now) (list_all is_file_name (map (λ n. n.now) names)) all).1

-- the two names of a line are those of a link
pub two_names : (lines : List (List (List ℕ))) (i : ℕ) (names : List (Bor (List ℕ))) (d : Bor (List ℕ))
    → slice_get lines i ≡ Some (map (λ n. n.now) names) → 2 ≤ length names
    → map chain_link (drop i lines)
    ≡ record { table = (get_or names 0 d).now; statement = (get_or names 1 d).now } ∷ map chain_link (drop (i + 1) lines)
two_names lines i [] d e two = absurd (omega (arith, two))
two_names lines i (x ∷ []) d e two = absurd (omega (arith, two))
two_names lines i (x ∷ y ∷ names) d e two = ap (map chain_link) (line_behind lines i (x.now ∷ y.now ∷ map (λ n. n.now) names) e)

-- the four names of a line are those of a link
pub four_names : (lines : List (List (List ℕ))) (i : ℕ) (names : List (Bor (List ℕ))) (d : Bor (List ℕ))
    → slice_get lines i ≡ Some (map (λ n. n.now) names) → 4 ≤ length names
    → map run_link (drop i lines)
    ≡ record {
      source = (get_or names 0 d).now;
      inputs = (get_or names 1 d).now;
      outputs = record { table = (get_or names 2 d).now; statement = (get_or names 3 d).now };
    } ∷ map run_link (drop (i + 1) lines)
four_names lines i [] d e four = absurd (omega (arith, four))
four_names lines i (x ∷ []) d e four = absurd (omega (arith, four))
four_names lines i (x ∷ y ∷ []) d e four = absurd (omega (arith, four))
four_names lines i (x ∷ y ∷ z ∷ []) d e four = absurd (omega (arith, four))
four_names lines i (x ∷ y ∷ z ∷ w ∷ names) d e four =
    ap (map run_link) (line_behind lines i (x.now ∷ y.now ∷ z.now ∷ w.now ∷ map (λ n. n.now) names) e)
