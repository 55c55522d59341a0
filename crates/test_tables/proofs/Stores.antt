-- What a word that is written, and two bitwise operations, ask can be answered.
use Rattle.std.proofs.Common.{◌≡◌, ℕ, zero, suc, ◌^◌, ◌<◌, arith, List, [], ◌∷◌, length, slice_index_or, refl, sym, ap, subst, ◌∙◌}
use Rattle.std.proofs.lemmas.List.Elements.{All-cons, All-nil}
use Rattle.vm_field.specs.Machine.{zero_word}
use Rattle.air_kit.specs.declared.requests.Access.{Access}
use Rattle.air_kit.specs.declared.requests.Requests.{Requests}
use Rattle.air_kit.specs.Requests.{FitsMemory, Fits, IsEarlier, never}

module _ (a : Access) (writes : a.kind ≡ 1) (early : a.clk ≡ 3) where
  one_item : (i : ℕ) → slice_index_or (a ∷ []) i a ≡ a
  one_item zero = refl
  one_item (suc i) = refl

  none_earlier : (i : ℕ) (other : Access) → slice_index_or (a ∷ []) i a ≡ other → IsEarlier a other → ⊥
  none_earlier i other is earlier =
      let same : other.clk ≡ a.clk = ap (λ (x : Access). x.clk) (sym is ∙ one_item i) in
      let before : other.clk < a.clk = earlier.clk in
      omega (arith, same, before)

  fits : FitsMemory (a ∷ []) a
  fits = record {
    kind = omega (arith, writes);
    clk = subst (λ n. n < 2 ^ 19) (sym early) (omega arith);
    before = zero_word;
    is_before = never none_earlier;
    reads = λ reads. absurd (omega (arith, writes, reads));
    keeps = λ stores. absurd (omega (arith, writes, stores));
  }

  pub write_fits : (constants : List ℕ) (r : Requests) → r.perms ≡ [] → length r.bits ≡ 2 → r.accesses ≡ a ∷ [] → r.calls ≡ [] → r.keys ≡ []
      → Fits constants [] r
  write_fits constants r perms bits accesses calls keys = record {
    perms = rw perms refl;
    accesses = rw accesses (All-cons (FitsMemory (a ∷ [])) a [] fits (All-nil (FitsMemory (a ∷ []))));
    apart = λ i j x y _ _ _ one other.
        let few : length r.accesses ≡ 1 = ap length accesses in
        omega (arith, few, one, other);
    calls = rw calls (All-nil _);
    room = record {
      perms = rw perms (omega arith);
      bits = rw bits (omega arith);
      accesses = rw accesses (omega arith);
      words = omega arith;
      keys = rw keys (omega arith);
    };
  }
