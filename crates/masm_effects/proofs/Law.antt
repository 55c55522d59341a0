-- Each instruction has its effect.
use Rattle.std.proofs.Common.{◌≡◌, ℕ, ◌<◌, ◌+◌, ◌*◌, ◌==◌, nat_lt, true, false, List, [], ◌∷◌, ◌++◌, length, Ok, refl, ap, lit≤, arith, append-nil, ltb-true}
use Rattle.vm_field.specs.Limits.{number_of_constants}
use Rattle.vm_field.specs.Machine.{State, IsWellFormed}
use Rattle.vm_field.specs.Sponge.{hashed}
use Rattle.masm_instr.specs.declared.name.Name.{Name}
use Rattle.masm_instr.specs.declared.name.Name.TheVariants as names
use Rattle.masm_instr.specs.Instructions.{first, is_in_form, names_local}
use Rattle.masm_expand.proofs.Packing.{expansions_are_packable}
use Rattle.vm_ops.specs.Runs.{run}
use Rattle.vm_ops.specs.Step.{left_cells}
use Rattle.vm_ops.specs.Values.{bit_of, computed, trap_of}
use Rattle.vm_ops.proofs.RunLemmas.{run-kept}
use Rattle.masm_effects.specs.Effects.{are_u32, cells, instr_effect, leaving, loading, loading_word, storing, storing_word, top}
use Rattle.masm_expand.specs.Expansion.{expansion, front, dup, movup, movdn, movupw, movdnw, pow2, swap}
use Rattle.masm_effects.specs.HasEffect.{HasEffect}
use Rattle.masm_effects.proofs.Windows.{last, trap, fits}
use Rattle.masm_effects.proofs.Quiets.{computes, head-is, shown, tested}
use Rattle.masm_effects.proofs.Tables.{by_form}
use Rattle.masm_effects.proofs.Ways.{Way, alone, each, either, given, of_local, otherwise, pushed, way-law}
use Rattle.masm_effects.proofs.Pushes.{advice-effect, lits-effect}
use Rattle.masm_effects.proofs.Tests.{bit-free, free-of, not-is, one-trap, two-traps}
use Rattle.masm_effects.proofs.Fields.{odd-free, odd-is, sub-is, zero-trap}
use Rattle.masm_effects.proofs.Truths.{asserts, eqw-free, eqw-is, words-asserted, xor-is, xor-trap}
use Rattle.masm_effects.proofs.Ordered.{at-most-is, cell-small, order-alone, order-denied, order-is}
use Rattle.masm_effects.proofs.Exponents.{exp-acts}
use Rattle.masm_effects.proofs.Powers.{amount, back-trap, divide-trap, divided-there, power-is, power-trap, product-trap, quotient-trap, shift-trap, shifted-there, turned, turned-back, turned-there}
use Rattle.masm_effects.proofs.Words32.{borrow-is, borrow-trap, carry-is, carry-trap, high-none, quotient-free}
use Rattle.masm_effects.proofs.Bits32.{complement-is, max-is, min-is, not-less, or-is, then-not, turned-not, turned-trap}
use Rattle.masm_effects.proofs.Choices.{cdrop-leaves, cdropw-leaves, cswap-leaves, cswapw-leaves, plus-zero}
use Rattle.masm_effects.proofs.Readings.{all-left, clock-is, depth-is, digest-left, short-alone}

module _ (constants : List ℕ) (count : length constants ≡ number_of_constants) (locals : ℕ) where
  way : (name : Name) → Way constants locals name
  unfolding hashed expansion front dup movup movdn movupw movdnw pow2 swap instr_effect last trap fits left_cells computed trap_of
  way names.Add = pushed (λ n s. refl) (λ s. computes refl)
  way names.Sub = pushed (λ n s. refl) (λ s. shown refl refl (λ free. head-is (sub-is _ _)))
  way names.Mul = pushed (λ n s. refl) (λ s. computes refl)
  way names.Div = pushed (λ n s. refl) (λ s. tested refl (zero-trap _))
  way names.Neg = alone refl (λ s well. computes refl)
  way names.Inv = alone refl (λ s well. tested refl (zero-trap _))
  way names.Exp = given refl refl (λ s well n ok. let most = ok.most in exp-acts constants locals s n (omega arith))
  way names.Pow2 = alone refl (λ s well. shown refl (power-trap _) (λ free. head-is (power-is _ (ltb-true _ _ (free-of _ free)))))
  way names.Not = alone refl (λ s well. tested refl (one-trap _ _))
  way names.And = alone refl (λ s well. tested refl (one-trap _ _))
  way names.Or = alone refl (λ s well. tested refl (one-trap _ _))
  way names.Xor = alone refl (λ s well. shown refl (xor-trap (top s 0) (top s 1)) (λ free. head-is (xor-is (top s 0) (top s 1) (free-of _ free))))
  way names.Eq = pushed (λ n s. refl) (λ s. computes refl)
  way names.Neq = pushed (λ n s. refl) (λ s. shown refl (bit-free _) (λ free. head-is (not-is _)))
  way names.Lt = alone refl (λ s well. shown refl (order-alone _ _ (cell-small s 1 well) (cell-small s 0 well)) (λ free. head-is (order-is _ _)))
  way names.Gt = alone refl (λ s well. shown refl (order-alone _ _ (cell-small s 0 well) (cell-small s 1 well)) (λ free. head-is (order-is _ _)))
  way names.Lte = alone refl (λ s well. shown refl (order-denied _ _ (cell-small s 0 well) (cell-small s 1 well)) (λ free. head-is (at-most-is _ _)))
  way names.Gte = alone refl (λ s well. shown refl (order-denied _ _ (cell-small s 1 well) (cell-small s 0 well)) (λ free. head-is (at-most-is _ _)))
  way names.IsOdd = alone refl (λ s well. shown refl (odd-free _) (λ free. head-is (odd-is _)))
  way names.Eqw =
      alone refl (λ s well. shown refl (eqw-free (top s 0 == top s 4) (top s 1 == top s 5) (top s 2 == top s 6) (top s 3 == top s 7))
      (λ free. head-is (eqw-is (top s 0 == top s 4) (top s 1 == top s 5) (top s 2 == top s 6) (top s 3 == top s 7))))
  way names.Assert = alone refl (λ s well. tested refl (one-trap _ _))
  way names.Assertz = alone refl (λ s well. tested refl (asserts _))
  way names.AssertEq = alone refl (λ s well. tested refl (asserts _))
  way names.AssertEqw = alone refl (λ s well. tested refl (words-asserted s))
  way names.U32Test = alone refl (λ s well. shown refl refl (λ free. head-is (ap bit_of (high-none _))))
  way names.U32Assert = either refl (λ s well. tested refl (one-trap _ _)) (λ s well n ok. tested refl (one-trap _ _))
  way names.U32Assertw = alone refl (λ s well. tested refl (two-traps _ _ _ _))
  way names.U32Cast = alone refl (λ s well. computes refl)
  way names.U32Split = alone refl (λ s well. computes refl)
  way names.U32CheckedAdd =
      pushed (λ n s. refl) (λ s. shown refl (carry-trap (are_u32 (top s 0) (top s 1)) (top s 1 + top s 0))
      (λ free. head-is (carry-is (are_u32 (top s 0) (top s 1)) (top s 1 + top s 0) free)))
  way names.U32CheckedSub =
      pushed (λ n s. refl) (λ s. shown refl (borrow-trap (are_u32 (top s 0) (top s 1)) (nat_lt (top s 1) (top s 0)))
      (λ free. head-is (borrow-is (top s 0) (top s 1) free)))
  way names.U32CheckedMul =
      pushed (λ n s. refl) (λ s. shown refl (carry-trap (are_u32 (top s 0) (top s 1)) (top s 1 * top s 0))
      (λ free. head-is (carry-is (are_u32 (top s 0) (top s 1)) (top s 1 * top s 0) free)))
  way names.U32WrappingAdd = pushed (λ n s. refl) (λ s. tested refl (one-trap _ _))
  way names.U32WrappingSub = pushed (λ n s. refl) (λ s. tested refl (one-trap _ _))
  way names.U32WrappingMul = pushed (λ n s. refl) (λ s. tested refl (one-trap _ _))
  way names.U32OverflowingAdd = pushed (λ n s. refl) (λ s. tested refl (one-trap _ _))
  way names.U32OverflowingSub = pushed (λ n s. refl) (λ s. tested refl (one-trap _ _))
  way names.U32OverflowingMul = pushed (λ n s. refl) (λ s. tested refl (one-trap _ _))
  way names.U32OverflowingAdd3 = alone refl (λ s well. tested refl (one-trap _ _))
  way names.U32WrappingAdd3 = alone refl (λ s well. tested refl (one-trap _ _))
  way names.U32OverflowingMadd = alone refl (λ s well. tested refl (one-trap _ _))
  way names.U32WrappingMadd = alone refl (λ s well. tested refl (one-trap _ _))
  way names.U32CheckedDiv = pushed (λ n s. refl) (λ s. tested refl (quotient-free _ _))
  way names.U32CheckedMod = pushed (λ n s. refl) (λ s. tested refl (quotient-free _ _))
  way names.U32CheckedDivmod = pushed (λ n s. refl) (λ s. tested refl (quotient-free _ _))
  way names.U32CheckedAnd = alone refl (λ s well. tested refl (one-trap _ _))
  way names.U32CheckedXor = alone refl (λ s well. tested refl (one-trap _ _))
  way names.U32CheckedOr = alone refl (λ s well. shown refl (one-trap _ _) (λ free. head-is (or-is _ _ free)))
  way names.U32CheckedNot = alone refl (λ s well. shown refl (one-trap _ _) (λ free. head-is (complement-is _ free)))
  way names.U32CheckedShl =
      either refl (λ s well. shown refl (shift-trap (top s 0) (top s 1)) (λ free. head-is (shifted-there (top s 0) (top s 1) free)))
      (λ s well n ok. tested refl (product-trap n _ (amount ok.most)))
  way names.U32CheckedShr =
      either refl (λ s well. shown refl (divide-trap (top s 0) (top s 1)) (λ free. head-is (divided-there (top s 0) (top s 1) free)))
      (λ s well n ok. tested refl (quotient-trap n _ (amount ok.most)))
  way names.U32CheckedRotl =
      either refl (λ s well. shown refl (shift-trap (top s 0) (top s 1)) (λ free. head-is (turned-there (top s 0) (top s 1) free)))
      (λ s well n ok. shown refl (product-trap n _ (amount ok.most)) (λ free. head-is (turned n (top s 0) free)))
  way names.U32CheckedRotr = given refl refl (λ s well n ok. shown refl (back-trap n _ ok.most) (λ free. head-is (turned-back n _ free)))
  way names.U32CheckedLt = alone refl (λ s well. tested refl (one-trap _ _))
  way names.U32CheckedGte = alone refl (λ s well. shown refl (then-not _ _) (λ free. head-is (not-less _ _)))
  way names.U32CheckedGt = alone refl (λ s well. tested refl (turned-trap (top s 0) (top s 1)))
  way names.U32CheckedLte = alone refl (λ s well. shown refl (turned-not (top s 0) (top s 1)) (λ free. head-is (not-less (top s 1) (top s 0))))
  way names.U32CheckedMax = alone refl (λ s well. shown refl (then-not _ _) (λ free. head-is (max-is _ _)))
  way names.U32CheckedMin = alone refl (λ s well. shown refl (then-not _ _) (λ free. head-is (min-is _ _)))
  way names.Drop = alone refl (λ s well. computes refl)
  way names.Dropw = alone refl (λ s well. computes refl)
  way names.Padw = alone refl (λ s well. computes refl)
  way names.Dup =
      either refl (λ s well. computes refl)
      (λ s well. each constants locals names.Dup s (rw (plus-zero s 8 well, plus-zero s 10 well, plus-zero s 12 well, plus-zero s 14 well) refl))
  way names.Dupw = either refl (λ s well. computes refl) (λ s well. each constants locals names.Dupw s refl)
  way names.Movup = given refl refl (λ s well. each constants locals names.Movup s refl)
  way names.Movdn = given refl refl (λ s well. each constants locals names.Movdn s refl)
  way names.Swap = either refl (λ s well. computes refl) (λ s well. each constants locals names.Swap s refl)
  way names.Swapw = either refl (λ s well. computes refl) (λ s well. each constants locals names.Swapw s refl)
  way names.Swapdw = alone refl (λ s well. computes refl)
  way names.Movupw = given refl refl (λ s well. each constants locals names.Movupw s refl)
  way names.Movdnw = given refl refl (λ s well. each constants locals names.Movdnw s refl)
  way names.Cswap = alone refl (λ s well. shown refl (one-trap _ _) (λ free. cswap-leaves (top s 0 == 0) s _))
  way names.Cswapw = alone refl (λ s well. shown refl (one-trap _ _) (λ free. cswapw-leaves (top s 0 == 0) s _))
  way names.Cdrop = alone refl (λ s well. shown refl (one-trap _ _) (λ free. cdrop-leaves (top s 0 == 0) s _))
  way names.Cdropw = alone refl (λ s well. shown refl (one-trap _ _) (λ free. cdropw-leaves (top s 0 == 0) s _))
  way names.Push = otherwise (λ count s sized numbers form. rw append-nil (lits-effect constants count numbers s sized))
  way names.Sdepth = alone refl (λ s well. shown refl refl (λ free. head-is (depth-is _ well.core.deep)))
  way names.Caller = alone refl (λ s well. tested refl (one-trap _ _))
  way names.Clk = alone refl (λ s well. shown refl refl (λ free. head-is (clock-is _)))
  way names.AdvPush = otherwise (λ count s sized numbers form.
      by_form names.AdvPush (λ ns. HasEffect constants (expansion names.AdvPush ns locals) s (instr_effect constants names.AdvPush ns locals s)) numbers form
      (lit≤ tt) (λ few. absurd (omega arith)) (λ some n ok. rw append-nil (advice-effect constants count n s.core s.tape sized)))
  way names.AdvLoadw = alone refl (λ s well. tested refl (short-alone _))
  way names.MemLoad = pushed (λ n s. refl) (λ s. tested refl (one-trap _ _))
  way names.MemLoadw = pushed (λ n s. refl) (λ s. tested refl (one-trap _ _))
  way names.MemStore = pushed (λ n s. refl) (λ s. tested refl (one-trap _ _))
  way names.MemStorew = pushed (λ n s. refl) (λ s. tested refl (one-trap _ _))
  way names.Locaddr = of_local (λ s i. leaving false 0 (i ∷ [])) (λ i s. refl) (λ v s. computes refl)
  way names.LocLoad = of_local (λ s i. loading 0 i s) (λ i s. refl) (λ v s. tested refl (one-trap _ _))
  way names.LocLoadw = of_local (λ s i. loading_word 4 i s) (λ i s. refl) (λ v s. tested refl (one-trap _ _))
  way names.LocStore = of_local (λ s i. storing 1 i (top s 0) s) (λ i s. refl) (λ v s. tested refl (one-trap _ _))
  way names.LocStorew = of_local (λ s i. storing_word 0 i 0 s) (λ i s. refl) (λ v s. tested refl (one-trap _ _))
  way names.Hperm = alone refl (λ s well. shown refl refl (λ free. all-left constants count (cells s 12 0) _ refl))
  way names.Hmerge = alone refl (λ s well. shown refl refl (λ free. digest-left constants count (cells s 8 0 ++ 0 ∷ 0 ∷ 0 ∷ 0 ∷ []) _ refl))

pub instruction-effects : (constants : List ℕ) (locals : ℕ) (s : State) → length constants ≡ number_of_constants → IsWellFormed s
    → (name : Name) (numbers : List ℕ) → is_in_form name numbers ≡ true
    → HasEffect constants (expansion name numbers locals) s (instr_effect constants name numbers locals s)
instruction-effects constants locals s count well name numbers form = way-law constants count locals name s well (way constants count locals name) numbers form

pub instruction-kept : (constants : List ℕ) (locals : ℕ) (s t : State) → length constants ≡ number_of_constants → IsWellFormed s
    → (name : Name) (numbers : List ℕ) → is_in_form name numbers ≡ true → (names_local name ≡ true → first numbers < locals)
    → run constants (expansion name numbers locals) s ≡ Ok t → IsWellFormed t
instruction-kept constants locals s t count well name numbers form local e =
    let each = (expansions_are_packable name numbers locals form local).each in
    run-kept constants (expansion name numbers locals) s t count (λ k item h. (each k item h).ordinary) well e
