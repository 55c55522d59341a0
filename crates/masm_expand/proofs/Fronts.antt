-- The instructions with no front of their own.
use Rattle.std.proofs.Common.{◌≡◌, ℕ, List, map, refl}
use Rattle.masm_instr.specs.declared.name.Name.{Name}
use Rattle.masm_instr.specs.declared.name.Name.TheVariants as names
use Rattle.masm_expand.specs.Expansion.{front, lit}

pub front_plain : (name : Name) (numbers : List ℕ) (locals : ℕ)
    → (name ≡ names.Exp → ⊥) → (name ≡ names.Pow2 → ⊥) → (name ≡ names.IsOdd → ⊥) → (name ≡ names.U32Assert → ⊥)
    → (name ≡ names.U32CheckedNot → ⊥) → (name ≡ names.U32CheckedShl → ⊥) → (name ≡ names.U32CheckedShr → ⊥) → (name ≡ names.U32CheckedRotl → ⊥)
    → (name ≡ names.U32CheckedRotr → ⊥) → (name ≡ names.Dup → ⊥) → (name ≡ names.Dupw → ⊥) → (name ≡ names.Movup → ⊥)
    → (name ≡ names.Movdn → ⊥) → (name ≡ names.Swap → ⊥) → (name ≡ names.Swapw → ⊥) → (name ≡ names.Movupw → ⊥)
    → (name ≡ names.Movdnw → ⊥) → (name ≡ names.AdvPush → ⊥) → (name ≡ names.Locaddr → ⊥) → (name ≡ names.LocLoad → ⊥)
    → (name ≡ names.LocLoadw → ⊥) → (name ≡ names.LocStore → ⊥) → (name ≡ names.LocStorew → ⊥)
    → front name numbers locals ≡ map lit numbers
unfolding front
front_plain names.Exp numbers locals is _ _ _ _ _ _ _ _ _ _ _ _ _ _ _ _ _ _ _ _ _ _ = absurd (is refl)
front_plain names.Pow2 numbers locals _ is _ _ _ _ _ _ _ _ _ _ _ _ _ _ _ _ _ _ _ _ _ = absurd (is refl)
front_plain names.IsOdd numbers locals _ _ is _ _ _ _ _ _ _ _ _ _ _ _ _ _ _ _ _ _ _ _ = absurd (is refl)
front_plain names.U32Assert numbers locals _ _ _ is _ _ _ _ _ _ _ _ _ _ _ _ _ _ _ _ _ _ _ = absurd (is refl)
front_plain names.U32CheckedNot numbers locals _ _ _ _ is _ _ _ _ _ _ _ _ _ _ _ _ _ _ _ _ _ _ = absurd (is refl)
front_plain names.U32CheckedShl numbers locals _ _ _ _ _ is _ _ _ _ _ _ _ _ _ _ _ _ _ _ _ _ _ = absurd (is refl)
front_plain names.U32CheckedShr numbers locals _ _ _ _ _ _ is _ _ _ _ _ _ _ _ _ _ _ _ _ _ _ _ = absurd (is refl)
front_plain names.U32CheckedRotl numbers locals _ _ _ _ _ _ _ is _ _ _ _ _ _ _ _ _ _ _ _ _ _ _ = absurd (is refl)
front_plain names.U32CheckedRotr numbers locals _ _ _ _ _ _ _ _ is _ _ _ _ _ _ _ _ _ _ _ _ _ _ = absurd (is refl)
front_plain names.Dup numbers locals _ _ _ _ _ _ _ _ _ is _ _ _ _ _ _ _ _ _ _ _ _ _ = absurd (is refl)
front_plain names.Dupw numbers locals _ _ _ _ _ _ _ _ _ _ is _ _ _ _ _ _ _ _ _ _ _ _ = absurd (is refl)
front_plain names.Movup numbers locals _ _ _ _ _ _ _ _ _ _ _ is _ _ _ _ _ _ _ _ _ _ _ = absurd (is refl)
front_plain names.Movdn numbers locals _ _ _ _ _ _ _ _ _ _ _ _ is _ _ _ _ _ _ _ _ _ _ = absurd (is refl)
front_plain names.Swap numbers locals _ _ _ _ _ _ _ _ _ _ _ _ _ is _ _ _ _ _ _ _ _ _ = absurd (is refl)
front_plain names.Swapw numbers locals _ _ _ _ _ _ _ _ _ _ _ _ _ _ is _ _ _ _ _ _ _ _ = absurd (is refl)
front_plain names.Movupw numbers locals _ _ _ _ _ _ _ _ _ _ _ _ _ _ _ is _ _ _ _ _ _ _ = absurd (is refl)
front_plain names.Movdnw numbers locals _ _ _ _ _ _ _ _ _ _ _ _ _ _ _ _ is _ _ _ _ _ _ = absurd (is refl)
front_plain names.AdvPush numbers locals _ _ _ _ _ _ _ _ _ _ _ _ _ _ _ _ _ is _ _ _ _ _ = absurd (is refl)
front_plain names.Locaddr numbers locals _ _ _ _ _ _ _ _ _ _ _ _ _ _ _ _ _ _ is _ _ _ _ = absurd (is refl)
front_plain names.LocLoad numbers locals _ _ _ _ _ _ _ _ _ _ _ _ _ _ _ _ _ _ _ is _ _ _ = absurd (is refl)
front_plain names.LocLoadw numbers locals _ _ _ _ _ _ _ _ _ _ _ _ _ _ _ _ _ _ _ _ is _ _ = absurd (is refl)
front_plain names.LocStore numbers locals _ _ _ _ _ _ _ _ _ _ _ _ _ _ _ _ _ _ _ _ _ is _ = absurd (is refl)
front_plain names.LocStorew numbers locals _ _ _ _ _ _ _ _ _ _ _ _ _ _ _ _ _ _ _ _ _ _ is = absurd (is refl)
front_plain name numbers locals _ _ _ _ _ _ _ _ _ _ _ _ _ _ _ _ _ _ _ _ _ _ _ = refl
