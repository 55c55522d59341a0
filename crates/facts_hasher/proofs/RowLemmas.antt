-- Rows of the hasher's table: their flags and their states.
use Rattle.std.proofs.Common.{All, Bool, List, [], arith, false, length, refl, slice_index, subst, suc, sym, true, zero, ℕ, ◌+◌, ◌<◌, ◌==◌, ◌∙◌, ◌∷◌, ◌≡◌}
use Rattle.std.proofs.lemmas.List.{get_or_default}
use Rattle.std.proofs.lemmas.List.Elements.{All-head, All-tail}
use Rattle.vm_ops.specs.Values.{bit_of}
use Rattle.vm_field.specs.Field.{prime}
use Rattle.chip_columns.specs.HasherColumns.{mode, cont, more, x, state}
use Rattle.rpo_hash.specs.States.{IsState}
use Rattle.air_kit.proofs.FaultLemmas.{family_at}
use Rattle.air_kit.specs.Places.{family}
use Rattle.air_kit.specs.declared.requests.Perm.{Perm}

-- each cell is an element
abbrev pub CellsBelow : List ℕ → Type 0
CellsBelow row = (k : ℕ) → slice_index row k < prime

-- fifteen cells are the flags and the state
pub row_is : (r : List ℕ) → length r ≡ 15 → r ≡ mode r ∷ cont r ∷ more r ∷ state r
unfolding state
row_is (a ∷ b ∷ c ∷ d ∷ e ∷ f ∷ g ∷ h ∷ i ∷ j ∷ k ∷ l ∷ m ∷ n ∷ o ∷ []) len = refl
row_is _ len = absurd (omega arith)

-- the state behind three flags
pub state_is : (a b c : ℕ) (s : List ℕ) → length s ≡ 12 → state (a ∷ b ∷ c ∷ s) ≡ s
unfolding state
state_is a b c (d ∷ e ∷ f ∷ g ∷ h ∷ i ∷ j ∷ k ∷ l ∷ m ∷ n ∷ o ∷ []) len = refl
state_is a b c _ len = absurd (omega arith)

pub state-IsState : (r : List ℕ) → CellsBelow r → IsState (state r)
unfolding state family
state-IsState r below = record {
  size = refl;
  below = λ k d h. subst (λ n. n < prime) (sym (get_or_default (state r) k d 0 h ∙ family_at 12 (x r) k h)) (below (3 + k));
}

-- a bit is what its test says
pub bit_is : (a : ℕ) → a < 2 → a ≡ bit_of (a == 1)
bit_is zero h = refl
bit_is (suc zero) h = refl
bit_is (suc (suc a)) h = absurd (omega arith)

pub bit_again : (b : Bool) → (bit_of b == 1) ≡ b
bit_again true = refl
bit_again false = refl

-- ---- permutations of states

abbrev pub OfStates : List Perm → Type 0
OfStates perms = All (λ p. IsState p.start) perms

pub first_state : (p : Perm) (perms : List Perm) → OfStates (p ∷ perms) → IsState p.start
first_state p perms s = All-head (λ p. IsState p.start) p perms s

pub later_states : (p : Perm) (perms : List Perm) → OfStates (p ∷ perms) → OfStates perms
later_states p perms s = All-tail (λ p. IsState p.start) p perms s

-- a hash that begins has zeros in its capacity, but for its domain
abbrev pub IsFresh : Perm → Type 0
IsFresh p = p.mode ≡ false → p.cont ≡ false → (slice_index p.start 0 ≡ 0) × (slice_index p.start 2 ≡ 0) × (slice_index p.start 3 ≡ 0)
