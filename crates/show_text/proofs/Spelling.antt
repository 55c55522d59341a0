-- The operation that a row spells.
use Rattle.std.proofs.Common.{◌≡◌, Bool, true, false, List, ℕ, Option, None, refl, sym, ap, ◌∙◌}
use Rattle.std.specs.Prelude.{if◌then◌else◌}
use Rattle.vm_ops.specs.Codes.{op_at}
use Rattle.vm_ops.specs.declared.op.Op.{Op}
use Rattle.vm_table.specs.MainColumns.{b}
use Rattle.air_kit.specs.Decoding.{are_bits}
use Rattle.air_kit.specs.Flags.{HasBits, spelled}
use Rattle.air_kit.proofs.DecodeLemmas.{bits_tested}
use Rattle.show_text.specs.RunText.{op_spelled}

-- whose columns are bits
pub spelled_bits : (row : List ℕ) (found : Option Op) → HasBits row → found ≡ op_at (spelled 7 (b row)) → found ≡ op_spelled row
spelled_bits row found bits is =
    is ∙ sym (ap (λ (t : Bool). if t then op_at (spelled 7 (b row)) else None) ((bits_tested row).1 bits))

-- or one of them is none
pub spelled_none : (row : List ℕ) → (HasBits row → ⊥) → None ≡ op_spelled row
spelled_none row none = go (are_bits row) (λ h. none ((bits_tested row).0 h))
  where
    go : (t : Bool) → (t ≡ true → ⊥) → None ≡ (if t then op_at (spelled 7 (b row)) else None)
    go true h = absurd (h refl)
    go false h = refl
