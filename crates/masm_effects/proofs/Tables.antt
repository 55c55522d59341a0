-- Facts of each number of a range, and the numbers that an instruction's form allows.
use Rattle.std.proofs.Common.{◌≡◌, ℕ, zero, suc, ◌+◌, ◌<◌, ◌≤◌, inl, inr, Bool, true, ◌&&◌, nat_le, List, [], ◌∷◌, length, subst, arith}
use Rattle.std.proofs.lemmas.Bool.Decides.{nat_tests}
use Rattle.std.proofs.lemmas.Bool.{cases_eq}
use Rattle.std.specs.List.{list_all}
use Rattle.masm_instr.specs.declared.name.Name.{Name}
use Rattle.masm_instr.specs.Instructions.{is_in_form, is_in_range}
use Rattle.masm_instr.specs.Table.{form_of}

module _ {A : Type 0} where
  -- the values at so many numbers from the least on
  abbrev pub values : (ℕ → A) → ℕ → ℕ → List A
  values f zero least = []
  values f (suc n) least = f least ∷ values f n (suc least)

  pub values-at : (f g : ℕ → A) (n least k : ℕ) → values f n least ≡ values g n least → least ≤ k → k < least + n → f k ≡ g k
  values-at f g zero least k e low high = absurd (omega arith)
  values-at f g (suc n) least k e low high =
      let all : f least ∷ values f n (suc least) ≡ g least ∷ values g n (suc least) = e in
      let first : f least ≡ g least = cc in
      let others : values f n (suc least) ≡ values g n (suc least) = cc in
      elim (cases_eq least k) [
        | inl same ↦ subst (λ (i : ℕ). f i ≡ g i) same first
        | inr other ↦ values-at f g n (suc least) k others (let differ : least ≡ k → ⊥ = other in omega arith) (omega arith)
      ]

-- a number that the instruction may have
pub record IsAllowed (name : Name) (n : ℕ) : Type 0 where
  pub least : (form_of name).low ≤ n
  pub most : n ≤ (form_of name).high

in-range : (low n high : ℕ) (more : Bool) → (nat_le low n && nat_le n high) && more ≡ true → (low ≤ n) × (n ≤ high) × (more ≡ true)
in-range low n high more e = grind (arith, nat_tests)

-- an instruction that takes one number at most: none, or one that it may have
pub by_form : (name : Name) (P : List ℕ → Type 0) (numbers : List ℕ) → is_in_form name numbers ≡ true → (form_of name).most ≤ 1
    → ((form_of name).least ≡ 0 → P []) → ((form_of name).most ≡ 1 → (n : ℕ) → IsAllowed name n → P (n ∷ [])) → P numbers
by_form name P numbers form few none one =
    go numbers (in-range (form_of name).least (length numbers) (form_of name).most (list_all (is_in_range (form_of name)) numbers) form)
  where
    go : (numbers : List ℕ) → ((form_of name).least ≤ length numbers) × (length numbers ≤ (form_of name).most)
        × (list_all (is_in_range (form_of name)) numbers ≡ true) → P numbers
    go [] counted = none (omega arith)
    go (n ∷ []) counted =
        let range = in-range (form_of name).low n (form_of name).high true counted.2 in
        one (omega arith) n (record { least = range.0; most = range.1 })
    go (n ∷ m ∷ numbers) counted = absurd (omega arith)
