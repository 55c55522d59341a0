-- U32AND and U32XOR take numbers of 32 bits and leave what the bitwise table gives.
use Rattle.sound_buses.proofs.Words.{◌≡◌, ℕ, suc, ◌<◌, List, [], ◌∷◌, length, refl, once, s, bitwise_asked, row_at, BitFacts}
use Rattle.facts_bitwise.specs.BitTables.{IsBitwise, BitwiseIsZero, given_in}
use Rattle.facts_bitwise.proofs.TableLaws.{means}
use Rattle.sound_buses.proofs.RowSums.{in_rows, is_given, row_has}

module _ (rows table : List (List ℕ)) (zero : BitwiseIsZero table) (alike : (u : List ℕ) → in_rows bitwise_asked rows u ≡ given_in table u) where
  looked_up : {i : ℕ} (kind : ℕ) → suc i < length rows
      → bitwise_asked (row_at rows i) (row_at rows (suc i)) ≡ once (kind ∷ s (row_at rows i) 0 ∷ s (row_at rows i) 1 ∷ s (row_at rows (suc i)) 0 ∷ []) ∷ []
      → IsBitwise kind (s (row_at rows i) 0) (s (row_at rows i) 1) (s (row_at rows (suc i)) 0)
  looked_up kind within asks = means table kind _ _ _ zero (is_given alike (row_has [] within asks))

  pub bit_facts : BitFacts rows
  unfolding bitwise_asked
  bit_facts = record {
    conjunction = λ i at. looked_up 0 at.within (rw at.is refl);
    difference = λ i at. looked_up 1 at.within (rw at.is refl);
  }
