-- What the rows of operations give on the bitwise bus, and what that means.
use Rattle.std.proofs.Common.{if◌then◌else◌, ◌≡◌, ℕ, zero, suc, ◌+◌, ◌%◌, ◌^◌, ◌<◌, ◌==◌, ◌⊎◌, inl, inr, Bool, true, false, List, [], ◌∷◌, map, slice_index, bit_and, bit_xor, refl, sym, ap, ap₂, ◌∙◌, arith, lit<}
use Rattle.std.proofs.lemmas.Bool.{ne_eqb}
use Rattle.std.proofs.lemmas.List.Elements.{All-head, All-tail}
use Rattle.vm_ops.specs.Values.{bit_of}
use Rattle.buses.specs.Counts.{Counted, counted, once, total}
use Rattle.buses.proofs.Counting.{counted-none, counted-append}
use Rattle.chip_columns.specs.BitwiseColumns as bitwise_columns
use Rattle.air_kit.specs.declared.requests.BitOp.{BitOp}
use Rattle.air_kit.specs.ChipTuples.{bitwise_given}
use Rattle.air_kit.specs.Requests.{bit_given}
use Rattle.facts_hasher.proofs.BlockLemmas.{given_all, given_eight, given_from}
use Rattle.facts_hasher.proofs.Totals.{eight, once_same}
use Rattle.facts_bitwise.specs.BitRows.{bitwise, bit_row, rows_before, rows_of_bits}
use Rattle.facts_bitwise.specs.BitTables.{HasWords, HaveWords, GivesOps, IsBitwise}

-- the tuple of an operation
abbrev pub tuple_of : BitOp → List ℕ
tuple_of p = bit_of p.xor ∷ p.a ∷ p.b ∷ bitwise p.xor p.a p.b ∷ []

by_kind : (xor : Bool) (u v : ℕ) → ◌≡◌ {A = Counted} (if xor then once (1 ∷ u ∷ v ∷ bit_xor u v ∷ []) else once (0 ∷ u ∷ v ∷ bit_and u v ∷ []))
    (once (bit_of xor ∷ u ∷ v ∷ bitwise xor u v ∷ []))
by_kind true u v = refl
by_kind false u v = refl

-- ---- by the row's number

-- what the last row of its eight gives
abbrev last_given : List ℕ → List Counted
last_given row = once (bitwise_columns.op row ∷ bitwise_columns.a row ∷ bitwise_columns.b row ∷ bitwise_columns.z row ∷ []) ∷ []

gives_by : (i k : ℕ) (row : List ℕ) → i % 8 ≡ 0 → k < 8 → bitwise_given (i + k) row ≡ (if k == 7 then last_given row else [])
unfolding bitwise_given
gives_by i k row start h =
    let place : (i + k) % 8 ≡ k = omega (arith, start, h) in ap (λ m. if m == 7 then last_given row else []) place

gives_none : (i k : ℕ) (row : List ℕ) → i % 8 ≡ 0 → k < 7 → bitwise_given (i + k) row ≡ []
gives_none i k row start h =
    gives_by i k row start (omega (arith, h)) ∙ ap (λ last. if last then last_given row else []) (ne_eqb k 7 (λ e. omega (arith, e, h)))

gives_last : (i : ℕ) (p : BitOp) → i % 8 ≡ 0 → bitwise_given (i + 7) (bit_row p.xor p.a p.b) ≡ once (tuple_of p) ∷ []
unfolding bit_row
gives_last i p start = gives_by i 7 (bit_row p.xor p.a p.b) start (lit< tt)

head_counts : (p : BitOp) (ops : List BitOp) (u : List ℕ)
    → counted (map bit_given (p ∷ ops)) u ≡ counted (once (tuple_of p) ∷ []) u + counted (map bit_given ops) u
head_counts p ops u =
    ap (λ (c : Counted). counted (c ∷ map bit_given ops) u) (by_kind p.xor p.a p.b) ∙ counted-append (once (tuple_of p) ∷ []) (map bit_given ops) u

given_ops : (i : ℕ) (ops : List BitOp) (u : List ℕ) → i % 8 ≡ 0 → given_from bitwise_given i (rows_of_bits ops) u ≡ counted (map bit_given ops) u
unfolding rows_of_bits rows_before total
given_ops i [] u start = sym (counted-none u)
given_ops i (p ∷ ops) u start =
    given_eight bitwise_given i _ _ _ _ _ _ _ _ (rows_of_bits ops) u (λ k row low. gives_none i k row start)
    ∙ ap₂ (λ m n. m + n) (ap (λ xs. counted xs u) (gives_none i 0 _ start (lit< tt)) ∙ counted-none u)
    (ap₂ (λ m n. m + n) (ap (λ xs. counted xs u) (gives_last i p start)) (given_ops (eight i) ops u (omega (arith, start))))
    ∙ (let e = head_counts p ops u in omega (arith, e))

pub rows_give : (ops : List BitOp) → GivesOps ops (rows_of_bits ops)
rows_give ops u = given_all bitwise_given (rows_of_bits ops) u ∙ given_ops 0 ops u refl

-- ---- what a tuple that is given means

-- it is that of an operation on numbers of 32 bits
pub record IsGiven (u : List ℕ) : Type 0 where
  pub p : BitOp
  pub words : HasWords p
  pub tuple_is : u ≡ tuple_of p

one_of_two : (k l : ℕ) → 0 < k + l → (0 < k) ⊎ (0 < l)
one_of_two zero l h = inr (omega (arith, h))
one_of_two (suc k) l h = inl (omega arith)

pub given_by_one : (ops : List BitOp) (u : List ℕ) → HaveWords ops → 0 < counted (map bit_given ops) u → IsGiven u
given_by_one [] u words h = absurd (let e = counted-none u in omega (arith, e, h))
given_by_one (p ∷ ops) u words h =
    elim (one_of_two (counted (once (tuple_of p) ∷ []) u) (counted (map bit_given ops) u) (let e = head_counts p ops u in omega (arith, e, h))) [
      | inl k ↦ record { p = p; words = All-head HasWords p ops words; tuple_is = once_same (tuple_of p) u k }
      | inr k ↦ given_by_one ops u (All-tail HasWords p ops words) k
    ]

right_by : (xor : Bool) (kind s t u v w : ℕ) → s < 2 ^ 32 → t < 2 ^ 32 → kind ≡ bit_of xor → u ≡ s → v ≡ t → w ≡ bitwise xor s t
    → IsBitwise kind u v w
right_by true kind s t u v w hs ht ek eu ev ew = record {
  kind_bit = omega arith;
  first = omega arith;
  second = omega arith;
  conjunction = λ none. absurd (omega arith);
  difference = λ _. ew ∙ ap₂ bit_xor (sym eu) (sym ev);
}
right_by false kind s t u v w hs ht ek eu ev ew = record {
  kind_bit = omega arith;
  first = omega arith;
  second = omega arith;
  conjunction = λ _. ew ∙ ap₂ bit_and (sym eu) (sym ev);
  difference = λ one. absurd (omega arith);
}

pub is_right : (kind u v w : ℕ) → IsGiven (kind ∷ u ∷ v ∷ w ∷ []) → IsBitwise kind u v w
is_right kind u v w g =
    right_by g.p.xor kind g.p.a g.p.b u v w g.words.0 g.words.1 (ap (λ xs. slice_index xs 0) g.tuple_is) (ap (λ xs. slice_index xs 1) g.tuple_is)
    (ap (λ xs. slice_index xs 2) g.tuple_is) (ap (λ xs. slice_index xs 3) g.tuple_is)
