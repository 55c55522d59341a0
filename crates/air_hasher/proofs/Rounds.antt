-- The entries of a round, by whether the row is inside its eight and whether one follows.
use Rattle.std.proofs.Common.{◌≡◌, ℕ, Bool, true, false, List, length, slice_index, Option, Some, None, replicate, refl, sym, ap, ap₂, ◌∙◌}
use Rattle.vm_field.specs.Field.{felt_pow}
use Rattle.vm_field.specs.Permutation.{before_roots}
use Rattle.vm_field.specs.Signs.{◌⊟◌}
use Rattle.chip_columns.specs.HasherColumns.{state, x}
use Rattle.air_kit.specs.Places.{family}
use Rattle.air_kit.specs.HasherValues.{hasher_flag_values, chain_values, round_values}

pub flag_values-length : (first begins inside ends : Bool) (row : List ℕ) (next : Option (List ℕ))
    → length (hasher_flag_values first begins inside ends row next) ≡ 13
unfolding hasher_flag_values
flag_values-length first begins inside ends row next = refl

pub chain_values-length : (ends : Bool) (row : List ℕ) (next : Option (List ℕ)) → length (chain_values ends row next) ≡ 4
unfolding chain_values family
chain_values-length ends row next = refl

pub round_values-inside : (constants row y before values : List ℕ) (inside : Bool) (next : Option (List ℕ)) → inside ≡ true → next ≡ Some y
    → before ≡ before_roots constants (state row)
    → values ≡ family 12 (λ j. felt_pow (x y j) 7 ⊟ slice_index before j)
    → values ≡ round_values inside constants row next
unfolding round_values
round_values-inside constants row y before values inside next within follows is e =
    e ∙ ap (λ xs. family 12 (λ j. felt_pow (x y j) 7 ⊟ slice_index xs j)) is
    ∙ ap₂ (λ test later. round_values test constants row later) (sym within) (sym follows)

pub round_values-outside : (constants row : List ℕ) (inside : Bool) (next : Option (List ℕ)) → inside ≡ false
    → replicate 12 0 ≡ round_values inside constants row next
unfolding round_values family
round_values-outside constants row inside next outside = ap (λ test. round_values test constants row next) (sym outside)

pub round_values-last : (constants row : List ℕ) (inside : Bool) (next : Option (List ℕ)) → next ≡ None
    → replicate 12 0 ≡ round_values inside constants row next
unfolding round_values family
round_values-last constants row true next last = ap (λ later. round_values true constants row later) (sym last)
round_values-last constants row false next last = ap (λ later. round_values false constants row later) (sym last)
