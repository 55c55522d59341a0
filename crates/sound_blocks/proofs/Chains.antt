-- What a chain has in front, and that its cells are elements.
use Rattle.sound_blocks.proofs.Words.{◌≡◌, ℕ, suc, ◌-◌, ◌<◌, ◌≤◌, ◌^◌, false, List, ◌∷◌, length, slice_index, sym, ap, ◌∙◌, arith, prime, AreElements, s}
use Rattle.sound_blocks.proofs.Words.{deep_at_start, input_key, input_keys, key_of, is_right, Claim, row_at, op_in, off, IsEntry, IsInput, IsPushed, input}
use Rattle.sound_blocks.proofs.Words.{pushed, Chain, none, some, rank_of}
use Rattle.vm_field.proofs.Elements.{elements-cons, elements-index, elements-none}
use Rattle.air_kit.proofs.InputKeys.{input_key_high, input_key_one}

-- Few rows and few inputs, so that no clock is an input's key; and the first row, whose clock is 0, pushes no cell.
pub record KeysDiffer (k : Claim) (rows : List (List ℕ)) : Type 0 where
  pub few : length rows ≤ 2 ^ 19
  pub shallow : length (deep_at_start k) ≤ 2 ^ 19
  pub goes : is_right (op_in rows 0) ≡ false

abbrev pub Entry : Claim → List (List ℕ) → ℕ → ℕ → ℕ → Type 0
Entry k rows at cell below = IsEntry (deep_at_start k) rows at cell below

-- what a chain has in front, and behind it
pub record Front (k : Claim) (rows : List (List ℕ)) (at cell below : ℕ) (cells : List ℕ) : Type 0 where
  pub later : List ℕ
  pub is : cells ≡ cell ∷ later
  pub falls : rank_of k below < rank_of k at
  pub chain : Chain k rows below later

module _ {k : Claim} {rows : List (List ℕ)} (differ : KeysDiffer k rows) where
  input_high : (i : ℕ) → i < length (deep_at_start k) → 2 ^ 20 ≤ input_key i
  input_high i h = input_key_high i (omega (arith, h, differ.shallow))

  no_clock : {A : Type 0} {at cell below other under : ℕ} → IsPushed rows at cell below → IsInput (deep_at_start k) at other under → A
  no_clock p q = absurd (omega (arith, input_high q.number q.within, q.key_is, p.within, differ.few))

  -- no cell is under 0
  pub no_entry : {A : Type 0} {cell below : ℕ} → Entry k rows 0 cell below → A
  no_entry (pushed p) = off (sym differ.goes ∙ p.right)
  no_entry (input q) = absurd (omega (arith, input_high q.number q.within, q.key_is))

  -- under a key is one cell alone
  pub same_entry : {at cell below other under : ℕ} → Entry k rows at cell below → Entry k rows at other under → (cell ≡ other) × (below ≡ under)
  same_entry (pushed p) (pushed q) = (p.cell_is ∙ sym q.cell_is, p.below_is ∙ sym q.below_is)
  same_entry (pushed p) (input q) = no_clock p q
  same_entry (input p) (pushed q) = no_clock q p
  same_entry (input p) (input q) =
      let e = input_key_one p.number q.number (omega (arith, p.within, differ.shallow)) (omega (arith, q.within, differ.shallow))
      (sym p.key_is ∙ q.key_is) in (
        p.cell_is ∙ ap (slice_index (deep_at_start k)) e ∙ sym q.cell_is,
        p.below_is ∙ ap (λ i. key_of (input_keys (suc i) (length (deep_at_start k) - suc i))) e ∙ sym q.below_is,
      )

  pub front_of : {at : ℕ} {cells : List ℕ} → Chain k rows at cells → {cell below : ℕ} → Entry k rows at cell below → Front k rows at cell below cells
  front_of none entry = no_entry entry
  front_of (some r other next later here falls rest) entry =
      let same = same_entry here entry in
      record { later = later; is = ap (λ n. n ∷ later) same.0; falls = rw same.1 at falls; chain = rw same.1 at rest }

module _ (k : Claim) (rows : List (List ℕ)) (inputs : AreElements (deep_at_start k)) (low : (r : ℕ) → r < length rows → s (row_at rows r) 15 < prime) where
  low_cell : {at cell below : ℕ} → Entry k rows at cell below → cell < prime
  low_cell {at} (pushed p) = omega (arith, p.cell_is, low at (omega (arith, p.within)))
  low_cell (input q) = omega (arith, q.cell_is, elements-index (deep_at_start k) q.number inputs)

  pub elements_of : {at : ℕ} {cells : List ℕ} → Chain k rows at cells → AreElements cells
  elements_of none = elements-none
  elements_of (some r cell below later here falls rest) = elements-cons cell later (low_cell here) (elements_of rest)
