-- Rounds of the permutation under the constants of a parameter file.
use Rattle.std.proofs.Common.{◌≡◌, ℕ, zero, suc, ◌+◌, ◌*◌, ◌<◌, List, [], ◌∷◌, ◌++◌, length, get_or, take, drop, sym, refl, ap, ap₂, ◌∙◌, arith, append_assoc, length-append}
use Rattle.std.proofs.lemmas.List.{drop-drop}
use Rattle.vm_field.specs.Permutation.{added, mixed, seventh_powers, powered, before_roots, round_constants}
use Rattle.rpo_hash.specs.Constants.{interleaved}
use Rattle.rpo_hash.proofs.Lists.{front, back, whole}

-- a round before its roots, under its constants in two parts
pub before_roots-parts : (constants first second x : List ℕ) → constants ≡ first ++ second → length first ≡ 12 → length second ≡ 12
    → before_roots constants x ≡ added (mixed (seventh_powers (added (mixed x) first))) second
unfolding before_roots powered
before_roots-parts constants first second x parts lf ls =
    ap (λ cs. added (mixed (seventh_powers (added (mixed x) (take 12 cs)))) (take 12 (drop 12 cs))) parts
    ∙ ap₂ (λ cs ds. added (mixed (seventh_powers (added (mixed x) cs))) (take 12 ds)) (front 12 first second lf) (back 12 first second lf)
    ∙ ap (λ cs. added (mixed (seventh_powers (added (mixed x) first))) cs) (whole 12 second ls)

-- the constants at each round are twelve and twelve
abbrev pub AreTwelve : List (List ℕ) → List (List ℕ) → Type 0
AreTwelve firsts seconds = (j : ℕ) → j < length firsts → (length (get_or firsts j []) ≡ 12) × (length (get_or seconds j []) ≡ 12)

-- those of a round stand at its place
pub constants-at : (firsts seconds : List (List ℕ)) (k : ℕ) → k < length firsts → length seconds ≡ length firsts → AreTwelve firsts seconds
    → round_constants (interleaved firsts seconds) k ≡ get_or firsts k [] ++ get_or seconds k []
unfolding interleaved
constants-at [] seconds k below len twelve = absurd (omega arith)
constants-at (first ∷ firsts) [] k below len twelve = absurd (omega arith)
constants-at (first ∷ firsts) (second ∷ seconds) zero below len twelve =
    let here = twelve 0 (omega arith) in
    ap (take 24) (sym (append_assoc first second (interleaved firsts seconds)))
    ∙ front 24 (first ++ second) (interleaved firsts seconds) (length-append first second ∙ omega (arith, here.0, here.1))
constants-at (first ∷ firsts) (second ∷ seconds) (suc k) below len twelve =
    let here = twelve 0 (omega arith) in
    let next : 24 * suc k ≡ 24 + 24 * k = omega arith in
    ap (λ n. take 24 (drop n (first ++ (second ++ interleaved firsts seconds)))) next
    ∙ ap (take 24) (sym (drop-drop (24 * k) 24 (first ++ (second ++ interleaved firsts seconds))))
    ∙ ap (λ cs. take 24 (drop (24 * k) cs)) (ap (drop 24) (sym (append_assoc first second (interleaved firsts seconds)))
    ∙ back 24 (first ++ second) (interleaved firsts seconds) (length-append first second ∙ omega (arith, here.0, here.1)))
    ∙ constants-at firsts seconds k (omega arith) (omega arith) (λ j h. twelve (suc j) (omega arith))

pub length-interleaved : (firsts seconds : List (List ℕ)) → length seconds ≡ length firsts → AreTwelve firsts seconds
    → length (interleaved firsts seconds) ≡ 24 * length firsts
unfolding interleaved
length-interleaved [] seconds len twelve = refl
length-interleaved (first ∷ firsts) [] len twelve = absurd (omega arith)
length-interleaved (first ∷ firsts) (second ∷ seconds) len twelve =
    let here = twelve 0 (omega arith) in
    let rest = length-interleaved firsts seconds (omega arith) (λ j h. twelve (suc j) (omega arith)) in
    length-append first (second ++ interleaved firsts seconds)
    ∙ omega (arith, here.0, here.1, rest, length-append second (interleaved firsts seconds))
