-- Evidence, read line by line: the text so far in front of what the rest gives is what the whole evidence gives.
use Rattle.std.proofs.Common.{◌≡◌, ℕ, zero, suc, ◌+◌, ◌-◌, ◌<◌, ◌≤◌, option_map, List, [], ◌∷◌, ◌++◌, length, Option, Some, None, Result, Ok, Err, refl, sym, ap, ◌∙◌, arith, append_assoc, append-nil}
use Rattle.std.specs.Option.{option_and_then}
use Rattle.rpo_hash.specs.ParamText.{one_line}
use Rattle.show_text.specs.EvidenceLines.{told_line}
use Rattle.show_text.specs.EvidenceText.{first_told, one_more, told_from, with_first}

abbrev Read : Type 0
Read = Result (List ℕ) ℕ

abbrev pub Goes : List ℕ → List ℕ → ℕ → List ℕ → Type 0
Goes bytes text line rest = with_first text (told_from (length bytes + 1 - line) line rest) ≡ told_from (length bytes) 1 bytes

pub begins : (bytes : List ℕ) → Goes bytes [] 1 bytes
begins bytes = empty _ ∙ ap (λ k. told_from k 1 bytes) (same (length bytes))
  where
    empty : (r : Read) → with_first [] r ≡ r
    empty (Ok text) = refl
    empty (Err line) = refl

    same : (n : ℕ) → n + 1 - 1 ≡ n
    same n = omega arith

step : (k j n : ℕ) (rest : List ℕ) (o : Option (List ℕ × List ℕ)) → o ≡ first_told rest → k ≡ j + 1 → 0 < length rest
    → told_from k n rest ≡ one_more (told_from j (n + 1)) n o
unfolding told_from
step zero j n rest o e one full = absurd (omega arith)
step (suc k) j n [] o e one full = absurd (omega arith)
step (suc k) j n (b ∷ bs) o e one full =
    ap (one_more (told_from k (n + 1)) n) (sym e) ∙ ap (λ i. one_more (told_from i (n + 1)) n o) same
  where
    same : k ≡ j
    same = omega arith

joined-first : (text told : List ℕ) (r : Read) → with_first text (with_first told r) ≡ with_first (text ++ told) r
joined-first text told (Ok later) = ap Ok (sym (append_assoc text told later))
joined-first text told (Err line) = refl

pub goes_on : (bytes text : List ℕ) (line : ℕ) (rest told behind : List ℕ) → Some (told, behind) ≡ first_told rest → 0 < length rest
    → line + length rest ≤ length bytes + 1 → Goes bytes text line rest → Goes bytes (text ++ told) (line + 1) behind
goes_on bytes text line rest told behind is some fits goes =
    sym (joined-first text told _)
    ∙ sym (ap (with_first text) (step (length bytes + 1 - line) (length bytes + 1 - (line + 1)) line rest _ is (omega arith) some))
    ∙ goes

pub stops : (bytes text : List ℕ) (line : ℕ) (rest : List ℕ) → None ≡ first_told rest → 0 < length rest → line + length rest ≤ length bytes + 1
    → Goes bytes text line rest → told_from (length bytes) 1 bytes ≡ Err line
stops bytes text line rest is some fits goes =
    sym goes ∙ ap (with_first text) (step (length bytes + 1 - line) (length bytes + 1 - (line + 1)) line rest _ is (omega arith) some)

none_left : (k n : ℕ) (rest : List ℕ) → length rest ≡ 0 → told_from k n rest ≡ Ok []
unfolding told_from
none_left zero n rest none = refl
none_left (suc k) n [] none = refl
none_left (suc k) n (b ∷ bs) none = absurd (omega arith)

pub ends : (bytes text : List ℕ) (line : ℕ) (rest : List ℕ) → length rest ≡ 0 → Goes bytes text line rest → told_from (length bytes) 1 bytes ≡ Ok text
ends bytes text line rest none goes =
    sym goes ∙ ap (with_first text) (none_left (length bytes + 1 - line) line rest none) ∙ ap Ok (append-nil text)

-- the first line, and how it is told
pub first-at : (bytes line behind : List ℕ) (told : Option (List ℕ)) → Some (line, behind) ≡ one_line bytes → told ≡ told_line line
    → option_map (λ t. (t, behind)) told ≡ first_told bytes
unfolding first_told
first-at bytes line behind told at is =
    ap (option_map (λ t. (t, behind))) is ∙ ap (option_and_then (λ l. option_map (λ t. (t, l.1)) (told_line l.0))) at

-- no line feed ends it
pub first-none : (bytes : List ℕ) → None ≡ one_line bytes → None ≡ first_told bytes
unfolding first_told
first-none bytes at = ap (option_and_then (λ l. option_map (λ t. (t, l.1)) (told_line l.0))) at
