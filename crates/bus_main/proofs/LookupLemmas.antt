-- What a row asks of the small tables, by its operation.
use Rattle.std.proofs.Common.{◌≡◌, ℕ, zero, suc, ◌≤◌, true, false, cond, List, [], ◌∷◌, Result, Ok, OnOk, refl, ap, sym, ◌∙◌, subst, take, arith}
use Rattle.vm_field.specs.Signs.{◌⊞◌, ◌⊟◌}
use Rattle.buses.specs.Counts.{Counted, once}
use Rattle.bus_kit.specs.Adding.{Tallied, IsCounted, singles}
use Rattle.bus_kit.proofs.AddingLemmas.{none_counted}
use Rattle.air_kit.specs.Flags.{is_op, op_of}
use Rattle.air_kit.specs.MainTuples.{accesses_of, bitwise_asked, domain_of, eight, front, hash_end, hasher_asked, limbs_from, count_of_limbs, memory_asked, range_asked, twelve}
use Rattle.vm_ops.specs.Codes.{is_start_op}
use Rattle.vm_ops.specs.declared.op.Op.{Op}
use Rattle.vm_ops.specs.declared.op.Op.TheVariants as ops
use Rattle.vm_table.specs.MainColumns.{addr, ha, lv, s, t, w}

module _ {E : Type 0} (n : ℕ) (a b : Tallied) (r : Result (Unit {0}) E) (x y : List ℕ) where
  -- the hasher's bus
  abbrev HasherBy : Op → Type 0
  HasherBy op =
      OnOk r (IsCounted n a b
      (cond (is_start_op op) (once (1 ∷ addr y ∷ domain_of op ∷ eight x) ∷ [])
      (cond (is_op op ops.Respan) (once (2 ∷ (ha x ⊞ 8) ∷ eight x) ∷ [])
      (cond (is_op op ops.End) (once (3 ∷ hash_end x ∷ front x) ∷ [])
      (cond (is_op op ops.HPerm) (once (4 ∷ w x 0 ∷ twelve x) ∷ once (5 ∷ (w x 0 ⊞ 7) ∷ twelve y) ∷ []) [])))) [])

  hasher_by : (op : Op) → op ≡ op_of x → HasherBy op → OnOk r (IsCounted n a b (hasher_asked x y) [])
  unfolding hasher_asked
  hasher_by op is p = subst HasherBy is p

  pub hash_begins : (op : Op) (u : List ℕ) → op ≡ op_of x → true ≡ is_start_op op → u ≡ 1 ∷ addr y ∷ domain_of op ∷ eight x
      → OnOk r (IsCounted n a b (once u ∷ []) []) → OnOk r (IsCounted n a b (hasher_asked x y) [])
  hash_begins op u is holds tuple p = hasher_by op is (rw (← holds, ← tuple) p)

  pub hash_goes_on : (op : Op) (u : List ℕ) → op ≡ op_of x → op ≡ ops.Respan → u ≡ 2 ∷ (ha x ⊞ 8) ∷ eight x
      → OnOk r (IsCounted n a b (once u ∷ []) []) → OnOk r (IsCounted n a b (hasher_asked x y) [])
  hash_goes_on op u is same tuple p = hasher_by ops.Respan (sym same ∙ is) (rw (← tuple) p)

  pub hash_ends : (op : Op) (u : List ℕ) → op ≡ op_of x → op ≡ ops.End → u ≡ 3 ∷ hash_end x ∷ front x
      → OnOk r (IsCounted n a b (once u ∷ []) []) → OnOk r (IsCounted n a b (hasher_asked x y) [])
  hash_ends op u is same tuple p = hasher_by ops.End (sym same ∙ is) (rw (← tuple) p)

  pub state_permuted : (op : Op) → op ≡ op_of x → op ≡ ops.HPerm
      → OnOk r (IsCounted n a b (once (4 ∷ w x 0 ∷ twelve x) ∷ once (5 ∷ (w x 0 ⊞ 7) ∷ twelve y) ∷ []) [])
      → OnOk r (IsCounted n a b (hasher_asked x y) [])
  state_permuted op is same p = hasher_by ops.HPerm (sym same ∙ is) p

  -- the bus of bitwise operations
  abbrev BitwiseBy : Op → Type 0
  BitwiseBy op =
      OnOk r (IsCounted n a b
      (cond (is_op op ops.U32And) (once (0 ∷ s x 0 ∷ s x 1 ∷ s y 0 ∷ []) ∷ [])
      (cond (is_op op ops.U32Xor) (once (1 ∷ s x 0 ∷ s x 1 ∷ s y 0 ∷ []) ∷ []) [])) [])

  bitwise_by : (op : Op) → op ≡ op_of x → BitwiseBy op → OnOk r (IsCounted n a b (bitwise_asked x y) [])
  unfolding bitwise_asked
  bitwise_by op is p = subst BitwiseBy is p

  pub and_asked : (op : Op) (u : List ℕ) → op ≡ op_of x → op ≡ ops.U32And → u ≡ 0 ∷ s x 0 ∷ s x 1 ∷ s y 0 ∷ []
      → OnOk r (IsCounted n a b (once u ∷ []) []) → OnOk r (IsCounted n a b (bitwise_asked x y) [])
  and_asked op u is same tuple p = bitwise_by ops.U32And (sym same ∙ is) (rw (← tuple) p)

  pub xor_asked : (op : Op) (u : List ℕ) → op ≡ op_of x → op ≡ ops.U32Xor → u ≡ 1 ∷ s x 0 ∷ s x 1 ∷ s y 0 ∷ []
      → OnOk r (IsCounted n a b (once u ∷ []) []) → OnOk r (IsCounted n a b (bitwise_asked x y) [])
  xor_asked op u is same tuple p = bitwise_by ops.U32Xor (sym same ∙ is) (rw (← tuple) p)

  -- the bus of memory
  abbrev MemoryBy : Op → Type 0
  MemoryBy op = OnOk r (IsCounted n a b (accesses_of op x y) [])

  memory_by : (op : Op) → op ≡ op_of x → MemoryBy op → OnOk r (IsCounted n a b (memory_asked x y) [])
  unfolding memory_asked
  memory_by op is p = subst MemoryBy is p

  -- those of an operation that is given
  accesses_by : (op own : Op) (cs : List Counted) → op ≡ op_of x → op ≡ own → cs ≡ accesses_of own x y
      → OnOk r (IsCounted n a b cs []) → OnOk r (IsCounted n a b (memory_asked x y) [])
  accesses_by op own cs is same asked p = memory_by own (sym same ∙ is) (rw (← asked) p)

  pub access_by : (op own : Op) (u v : List ℕ) → op ≡ op_of x → op ≡ own → u ≡ v → once v ∷ [] ≡ accesses_of own x y
      → OnOk r (IsCounted n a b (once u ∷ []) []) → OnOk r (IsCounted n a b (memory_asked x y) [])
  access_by op own u v is same tuple asked p = accesses_by op own (once u ∷ []) is same (ap (λ k. once k ∷ []) tuple ∙ asked) p

  -- the range bus
  abbrev RangeBy : Op → Type 0
  RangeBy op = OnOk r (IsCounted n a b (cond (is_start_op op) (once ((1024 ⊟ lv y) ∷ []) ∷ []) (limbs_from x 0 (count_of_limbs op))) [])

  range_by : (op : Op) → op ≡ op_of x → RangeBy op → OnOk r (IsCounted n a b (range_asked x y) [])
  unfolding range_asked
  range_by op is p = subst RangeBy is p

  pub nesting_asked : (op : Op) (u : List ℕ) → op ≡ op_of x → true ≡ is_start_op op → u ≡ (1024 ⊟ lv y) ∷ []
      → OnOk r (IsCounted n a b (once u ∷ []) []) → OnOk r (IsCounted n a b (range_asked x y) [])
  nesting_asked op u is holds tuple p = range_by op is (rw (← holds, ← tuple) p)

  pub limbs_asked : (op : Op) (count : ℕ) → op ≡ op_of x → false ≡ is_start_op op → count ≡ count_of_limbs op
      → OnOk r (IsCounted n a b (limbs_from x 0 count) []) → OnOk r (IsCounted n a b (range_asked x y) [])
  limbs_asked op count is fails few p = range_by op is (rw (← fails, ← few) p)

-- The same where an operation has no tuple.
module _ (n : ℕ) (a : Tallied) (x y : List ℕ) (op : Op) (is : op ≡ op_of x) where
  pub no_hash : false ≡ is_start_op op → false ≡ is_op op ops.Respan → false ≡ is_op op ops.End → false ≡ is_op op ops.HPerm
      → IsCounted n a a (hasher_asked x y) []
  no_hash e0 e1 e2 e3 = hasher_by {E = Unit {0}} n a a (Ok tt) x y op is (rw (← e0, ← e1, ← e2, ← e3) (none_counted n a))

  pub none_combined : false ≡ is_op op ops.U32And → false ≡ is_op op ops.U32Xor → IsCounted n a a (bitwise_asked x y) []
  none_combined e0 e1 = bitwise_by {E = Unit {0}} n a a (Ok tt) x y op is (rw (← e0, ← e1) (none_counted n a))

  pub no_access : [] ≡ accesses_of op x y → IsCounted n a a (memory_asked x y) []
  no_access e0 = memory_by {E = Unit {0}} n a a (Ok tt) x y op is (rw (← e0) (none_counted n a))

-- an operation that is not this one
pub not_respan : (op : Op) → (op ≡ ops.Respan → ⊥) → false ≡ is_op op ops.Respan
not_respan ops.Respan h = absurd (h refl)
not_respan op h = refl

pub not_hperm : (op : Op) → (op ≡ ops.HPerm → ⊥) → false ≡ is_op op ops.HPerm
not_hperm ops.HPerm h = absurd (h refl)
not_hperm op h = refl

pub not_and : (op : Op) → (op ≡ ops.U32And → ⊥) → false ≡ is_op op ops.U32And
not_and ops.U32And h = absurd (h refl)
not_and op h = refl

pub not_xor : (op : Op) → (op ≡ ops.U32Xor → ⊥) → false ≡ is_op op ops.U32Xor
not_xor ops.U32Xor h = absurd (h refl)
not_xor op h = refl

-- one that is none of those of memory
pub not_access : (op : Op) (x y : List ℕ) → (op ≡ ops.MLoad → ⊥) → (op ≡ ops.MLoadW → ⊥) → (op ≡ ops.MStore → ⊥)
    → (op ≡ ops.MStoreW → ⊥) → [] ≡ accesses_of op x y
unfolding accesses_of
not_access ops.MLoad x y h0 h1 h2 h3 = absurd (h0 refl)
not_access ops.MLoadW x y h0 h1 h2 h3 = absurd (h1 refl)
not_access ops.MStore x y h0 h1 h2 h3 = absurd (h2 refl)
not_access ops.MStoreW x y h0 h1 h2 h3 = absurd (h3 refl)
not_access op x y h0 h1 h2 h3 = refl

-- limbs are a front of all
pub limbs_are : (x all : List ℕ) (count : ℕ) → count ≤ 10
    → all ≡ t x 0 ∷ t x 1 ∷ t x 2 ∷ t x 3 ∷ t x 4 ∷ t x 5 ∷ t x 6 ∷ t x 7 ∷ t x 8 ∷ t x 9 ∷ []
    → singles (take count all) ≡ limbs_from x 0 count
unfolding limbs_from
limbs_are x all zero few is = refl
limbs_are x all (suc zero) few is = rw is refl
limbs_are x all (suc (suc zero)) few is = rw is refl
limbs_are x all (suc (suc (suc zero))) few is = rw is refl
limbs_are x all (suc (suc (suc (suc zero)))) few is = rw is refl
limbs_are x all (suc (suc (suc (suc (suc zero))))) few is = rw is refl
limbs_are x all (suc (suc (suc (suc (suc (suc zero)))))) few is = rw is refl
limbs_are x all (suc (suc (suc (suc (suc (suc (suc zero))))))) few is = rw is refl
limbs_are x all (suc (suc (suc (suc (suc (suc (suc (suc zero)))))))) few is = rw is refl
limbs_are x all (suc (suc (suc (suc (suc (suc (suc (suc (suc zero))))))))) few is = rw is refl
limbs_are x all (suc (suc (suc (suc (suc (suc (suc (suc (suc (suc zero)))))))))) few is = rw is refl
limbs_are x all (suc (suc (suc (suc (suc (suc (suc (suc (suc (suc (suc n))))))))))) few is = absurd (omega (arith, few))

pub no_limbs : (a : Tallied) (x : List ℕ) (count : ℕ) → count ≡ 0 → IsCounted 16 a a (limbs_from x 0 count) []
unfolding limbs_from
no_limbs a x count is = rw is (none_counted 16 a)
