-- The source is no longer than a source may be, and there are as many squares as turns.
use Rattle.std.proofs.Common.{◌≡◌, ℕ, zero, suc, ◌*◌, ◌≤◌, List, [], ◌∷◌, ◌++◌, decimal, length, refl, arith}
use Rattle.std.proofs.lemmas.List.{length-append}
use Rattle.std.proofs.lemmas.Fmt.{length-decimal-le}
use Rattle.vm_field.specs.Limits.{most_source_bytes}
use Rattle.workloads.specs.Workloads.{most_turns, source_text, squares, text_before, text_behind}

before_size : length text_before ≡ 61
unfolding text_before
before_size = refl

behind_size : length text_behind ≡ 321
unfolding text_behind
behind_size = refl

-- three texts, one behind the other
joined : (a b c : List ℕ) → length a ≤ 61 → length b ≤ 4 → length c ≤ 321 → length (a ++ b ++ c) ≤ most_source_bytes
joined a b c first second third = omega (arith, first, second, third, length-append (a ++ b) c, length-append a b)

pub short_source : (turns : ℕ) → turns ≤ most_turns → length (source_text turns) ≤ most_source_bytes
unfolding source_text
short_source turns few =
    joined text_before (decimal turns) text_behind (omega (arith, before_size))
    (length-decimal-le 4 turns (omega arith) (omega (arith, few)) (omega (arith, few))) (omega (arith, behind_size))

pub squares_count : (n : ℕ) → length (squares n) ≡ n
squares_count zero = refl
squares_count (suc n) = omega (arith, squares_count n, length-append (squares n) (suc n * suc n ∷ []))
