-- One list of tuples behind another.
use Rattle.std.proofs.Common.{◌≡◌, ℕ, ◌+◌, ◌≤◌, List, [], ◌∷◌, ◌++◌, Result, Ok, Err, OnOk, arith, lit≤}
use Rattle.buses.specs.Counts.{Counted, once}
use Rattle.buses.proofs.Counting.{counted-none, counted-append}
use Rattle.bus_kit.specs.Adding.{Tallied, IsCounted}
use Rattle.bus_kit.proofs.AddingLemmas.{counted_within, then_asked}

-- given tuples, and then others asked and given
pub given_first : (n m k : ℕ) (a b c : Tallied) (xs asked ys : List Counted) → IsCounted n a b [] xs → IsCounted m b c asked ys → n + m ≤ k
    → IsCounted k a c asked (xs ++ ys)
given_first n m k a b c xs asked ys p q few = record {
  asked_is = λ u. let first = p.asked_is u in let second = q.asked_is u in let none = counted-none u in omega arith;
  given_is = λ u. let sum = counted-append xs ys u in let first = p.given_is u in let second = q.given_is u in omega arith;
  asked_grows = λ u. let first = p.asked_grows u in let second = q.asked_grows u in omega arith;
  given_grows = λ u. let first = p.given_grows u in let second = q.given_grows u in omega arith;
}

-- two tuples, each under another name
pub two_given : {E : Type 0} (a b c : Tallied) (r : Result (Unit {0}) E) (t u t' u' : List ℕ) → t ≡ t' → u ≡ u'
    → IsCounted 1 a b [] (once t ∷ []) → OnOk r (IsCounted 1 b c [] (once u ∷ [])) → OnOk r (IsCounted 2 a c [] (once t' ∷ once u' ∷ []))
two_given a b c (Ok v) t u t' u' first second p q = rw (← first, ← second) (given_first 1 1 2 a b c (once t ∷ []) [] (once u ∷ []) p q (lit≤ tt))
two_given a b c (Err e) t u t' u' first second p q = tt

pub two_asked : {E : Type 0} (a b c : Tallied) (r : Result (Unit {0}) E) (t u t' u' : List ℕ) → t ≡ t' → u ≡ u'
    → IsCounted 1 a b (once t ∷ []) [] → OnOk r (IsCounted 1 b c (once u ∷ []) []) → OnOk r (IsCounted 2 a c (once t' ∷ once u' ∷ []) [])
two_asked a b c (Ok v) t u t' u' first second p q = rw (← first, ← second) (then_asked 1 1 2 a b c (once t ∷ []) (once u ∷ []) p q (lit≤ tt))
two_asked a b c (Err e) t u t' u' first second p q = tt

-- the same where counts may grow by more
pub wider : {E : Type 0} (n k : ℕ) (a b : Tallied) (r : Result (Unit {0}) E) (xs ys : List Counted) → n ≤ k
    → OnOk r (IsCounted n a b xs ys) → OnOk r (IsCounted k a b xs ys)
wider n k a b (Ok v) xs ys few p = counted_within n k a b xs ys p few
wider n k a b (Err e) xs ys few p = tt
