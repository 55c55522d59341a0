-- Where the hasher's table gives the blocks of a hash: at the first row of eight, so that no address of one wraps.
use Rattle.sound_blocks.proofs.Words.{◌≡◌, ℕ, suc, ◌+◌, ◌%◌, ◌<◌, Bool, true, false, if◌then◌else◌, eqb, List, [], ◌∷◌, slice_index, slice_index_or, refl, sym}
use Rattle.sound_blocks.proofs.Words.{ap, arith, eqb-true, prime, ◌⊞◌, hasher_gives}
use Rattle.buses.specs.Counts.{counted, once}
use Rattle.buses.specs.declared.bus.Bus.TheVariants as bus
use Rattle.chip_columns.specs.HasherColumns.{mode, cont, more}
use Rattle.air_kit.specs.ChipTuples.{chip_given, hasher_given, permutation_begins, permutation_ends}
use Rattle.air_kit.specs.declared.trace.TableName.TheVariants as table
use Rattle.sound_buses.proofs.TableSums.{IsInTable, table_some}
use Rattle.sound_buses.proofs.Tuples.{nothing_counts, single_is}

-- the address in a tuple, and its tag
abbrev address_in : List ℕ → ℕ
address_in u = slice_index u 1

abbrev tag_in : List ℕ → ℕ
tag_in u = slice_index u 0

module _ (a : ℕ) (u : List ℕ) where
  begins_by : (m c : Bool) (xs ys zs : List ℕ)
      → 0 < counted (if m then once (4 ∷ a ∷ xs) ∷ [] else if c then once (2 ∷ a ∷ ys) ∷ [] else once (1 ∷ a ∷ zs) ∷ []) u → address_in u ≡ a
  begins_by true c xs ys zs h = sym (ap address_in (single_is _ u h))
  begins_by false true xs ys zs h = sym (ap address_in (single_is _ u h))
  begins_by false false xs ys zs h = sym (ap address_in (single_is _ u h))

  ends_by : (m e : Bool) (xs ys : List ℕ) → 0 < counted (if m then once (5 ∷ a ∷ xs) ∷ [] else if e then once (3 ∷ a ∷ ys) ∷ [] else []) u
      → 2 < tag_in u
  ends_by true e xs ys h = omega (arith, ap tag_in (single_is _ u h))
  ends_by false true xs ys h = omega (arith, ap tag_in (single_is _ u h))
  ends_by false false xs ys h = nothing_counts u h

given_by : (i : ℕ) (first last : Bool) (row u : List ℕ) → (first ≡ true → i % 8 ≡ 0) → tag_in u < 3
    → 0 < counted (if first then permutation_begins (suc i) row else if last then permutation_ends (suc i) row else []) u → address_in u % 8 ≡ 1
unfolding permutation_begins permutation_ends
given_by i true last row u is few h = omega (arith, begins_by (suc i) u (eqb (mode row) 1) (eqb (cont row) 1) _ _ _ h, is refl)
given_by i false true row u is few h = absurd (omega (arith, few, ends_by (suc i) u (eqb (mode row) 1) (eqb (more row) 0) _ _ h))
given_by i false false row u is few h = nothing_counts u h

-- a block of a hash
pub address_of_block : (hasher : List (List ℕ)) (tag a : ℕ) (xs : List ℕ) → tag < 3 → 0 < hasher_gives hasher (tag ∷ a ∷ xs) → a % 8 ≡ 1
unfolding hasher_given
address_of_block hasher tag a xs few h =
    let found : (i : ℕ) × IsInTable (chip_given bus.Hasher table.Hasher) hasher (tag ∷ a ∷ xs) i = table_some h in
    given_by found.0 (eqb (found.0 % 8) 0) (eqb (found.0 % 8) 7) (slice_index_or hasher found.0 []) (tag ∷ a ∷ xs) (λ e. eqb-true (found.0 % 8) 0 e)
    few found.1.positive

-- ---- sums of addresses

pub next_block : (a : ℕ) → a < prime → a % 8 ≡ 1 → (a ⊞ 8) % 8 ≡ 1 → a ⊞ 8 ≡ a + 8
next_block a low e f = omega arith

pub last_row : (a : ℕ) → a < prime → a % 8 ≡ 1 → a ⊞ 7 ≡ a + 7
last_row a low e = omega arith
