-- A list of one tuple was counted.
use Rattle.std.proofs.Common.{◌≡◌, ℕ, ◌+◌, ◌≤◌, List, [], ◌∷◌, ◌++◌, ◌<◌, take, get_or, length, Result, Ok, Err, OnOk, refl, sym, ap, ◌∙◌, arith, add-zero}
use Rattle.std.proofs.lemmas.List.{take_more}
use Rattle.buses.specs.Counts.{Counted, counted, hits, once}
use Rattle.buses.proofs.Counting.{counted-none, counted-append}
use Rattle.bus_kit.specs.Adding.{Tallied, IsCounted, singles}
use Rattle.bus_kit.specs.Counting.{IsAdded}
use Rattle.bus_kit.specs.declared.count.Side.TheVariants.{Asked, Given}
use Rattle.bus_kit.proofs.PairLemmas as pairs

counted_one : (c : Counted) (u : List ℕ) → counted (c ∷ []) u ≡ hits c.tuple c.count u
unfolding counted
counted_one c u = add-zero (hits c.tuple c.count u)

-- nothing was counted
pub none_counted : (n : ℕ) (t : Tallied) → IsCounted n t t [] []
none_counted n t = record {
  asked_is = λ u. let none = counted-none u in omega arith;
  given_is = λ u. let none = counted-none u in omega arith;
  asked_grows = λ u. omega arith;
  given_grows = λ u. omega arith;
}

pub ask_counted : {E : Type 0} (n : ℕ) (old new : Tallied) (c : Counted) (r : Result (Unit {0}) E) → c.count ≤ n
    → OnOk r ((u : List ℕ) → (new u).0 ≡ (old u).0 + hits c.tuple c.count u) → OnOk r ((u : List ℕ) → (new u).1 ≡ (old u).1)
    → OnOk r ((u : List ℕ) → (new u).0 ≤ (old u).0 + c.count) → OnOk r (IsCounted n old new (c ∷ []) [])
ask_counted n old new c (Err e) few is other grows = tt
ask_counted n old new c (Ok x) few is other grows = record {
  asked_is = λ u. let one = counted_one c u in is u ∙ ap (λ k. (old u).0 + k) (sym one);
  given_is = λ u. let none = counted-none u in let same = other u in omega arith;
  asked_grows = λ u. let grown = grows u in omega arith;
  given_grows = λ u. let same = other u in omega arith;
}

pub give_counted : {E : Type 0} (n : ℕ) (old new : Tallied) (c : Counted) (r : Result (Unit {0}) E) → c.count ≤ n
    → OnOk r ((u : List ℕ) → (new u).1 ≡ (old u).1 + hits c.tuple c.count u) → OnOk r ((u : List ℕ) → (new u).0 ≡ (old u).0)
    → OnOk r ((u : List ℕ) → (new u).1 ≤ (old u).1 + c.count) → OnOk r (IsCounted n old new [] (c ∷ []))
give_counted n old new c (Err e) few is other grows = tt
give_counted n old new c (Ok x) few is other grows = record {
  asked_is = λ u. let none = counted-none u in let same = other u in omega arith;
  given_is = λ u. let one = counted_one c u in is u ∙ ap (λ k. (old u).1 + k) (sym one);
  asked_grows = λ u. let same = other u in omega arith;
  given_grows = λ u. let grown = grows u in omega arith;
}

-- a tuple that was added on one side was counted there
pub added_asked : {E : Type 0} (n : ℕ) (old new : Tallied) (c : Counted) (r : Result (Unit {0}) E) → c.count ≤ n
    → IsAdded Asked c.tuple c.count old new r → OnOk r (IsCounted n old new (c ∷ []) [])
added_asked n old new c r few added =
    ask_counted n old new c r few (pairs.counted Asked c.tuple c.count old new r added) (pairs.counted_other Asked c.tuple c.count old new r added)
    (pairs.counted_few Asked c.tuple c.count old new r added)

pub added_given : {E : Type 0} (n : ℕ) (old new : Tallied) (c : Counted) (r : Result (Unit {0}) E) → c.count ≤ n
    → IsAdded Given c.tuple c.count old new r → OnOk r (IsCounted n old new [] (c ∷ []))
added_given n old new c r few added =
    give_counted n old new c r few (pairs.counted Given c.tuple c.count old new r added) (pairs.counted_other Given c.tuple c.count old new r added)
    (pairs.counted_few Given c.tuple c.count old new r added)

-- what counts 0 times is not counted
pub none_given : (n : ℕ) (t : Tallied) (c : Counted) → c.count ≡ 0 → IsCounted n t t [] (c ∷ [])
none_given n t c zero = record {
  asked_is = λ u. let none = counted-none u in omega arith;
  given_is = λ u. let one = counted_one c u in let none = pairs.hits_zero c.tuple u c.count zero in omega arith;
  asked_grows = λ u. omega arith;
  given_grows = λ u. omega arith;
}

-- one list of asked tuples behind another
pub then_asked : (n m k : ℕ) (a b c : Tallied) (xs ys : List Counted) → IsCounted n a b xs [] → IsCounted m b c ys [] → n + m ≤ k
    → IsCounted k a c (xs ++ ys) []
then_asked n m k a b c xs ys p q few = record {
  asked_is = λ u. let sum = counted-append xs ys u in let first = p.asked_is u in let second = q.asked_is u in omega arith;
  given_is = λ u. let first = p.given_is u in let second = q.given_is u in let none = counted-none u in omega arith;
  asked_grows = λ u. let first = p.asked_grows u in let second = q.asked_grows u in omega arith;
  given_grows = λ u. let first = p.given_grows u in let second = q.given_grows u in omega arith;
}

-- given tuples behind asked ones
pub ask_then_give : (n m k : ℕ) (a b c : Tallied) (xs ys : List Counted) → IsCounted n a b xs [] → IsCounted m b c [] ys → n + m ≤ k
    → IsCounted k a c xs ys
ask_then_give n m k a b c xs ys p q few = record {
  asked_is = λ u. let first = p.asked_is u in let second = q.asked_is u in let none = counted-none u in omega arith;
  given_is = λ u. let first = p.given_is u in let second = q.given_is u in let none = counted-none u in omega arith;
  asked_grows = λ u. let first = p.asked_grows u in let second = q.asked_grows u in omega arith;
  given_grows = λ u. let first = p.given_grows u in let second = q.given_grows u in omega arith;
}

-- no count grew by more than a greater number
pub counted_within : (n k : ℕ) (a b : Tallied) (xs ys : List Counted) → IsCounted n a b xs ys → n ≤ k → IsCounted k a b xs ys
counted_within n k a b xs ys p few = record {
  asked_is = p.asked_is;
  given_is = p.given_is;
  asked_grows = λ u. let grown = p.asked_grows u in omega arith;
  given_grows = λ u. let grown = p.given_grows u in omega arith;
}

singles_append : (xs : List ℕ) (v : ℕ) → singles (xs ++ v ∷ []) ≡ singles xs ++ once (v ∷ []) ∷ []
singles_append [] v = refl
singles_append (x ∷ xs) v = ap (λ rest. once (x ∷ []) ∷ rest) (singles_append xs v)

-- one more value of a list
pub one_more_value : (i : ℕ) (a b c : Tallied) (vs : List ℕ) (v d : ℕ) → i < length vs → v ≡ get_or vs i d
    → IsCounted i a b (singles (take i vs)) [] → IsCounted 1 b c (once (v ∷ []) ∷ []) [] → IsCounted (i + 1) a c (singles (take (i + 1) vs)) []
one_more_value i a b c vs v d within is p q =
    let more : take (i + 1) vs ≡ take i vs ++ get_or vs i d ∷ [] = take_more vs i d within in
    rw (more, ← is, singles_append (take i vs) v) (then_asked i 1 (i + 1) a b c (singles (take i vs)) (once (v ∷ []) ∷ []) p q (omega arith))
