-- What is put at a place of a list.
use Rattle.masm_tables.proofs.Words.{◌≡◌, ℕ, ◌<◌, Bool, true, List, length, set, slice_get, ◌⊎◌, inl, inr, sym, ap, ◌∙◌, false≢true, cases_Bool, eqb_tells}
use Rattle.masm_tables.proofs.Words.{length-set, got_other, Puts}
use Rattle.masm_tables.proofs.Got.{got_same}

module _ {X : Type 0} {wanted : Bool} {place : ℕ} {Is : X → Type 0} {Stays : ℕ → Type 0} {old new : List X} where
  -- a place is as it was, or it is the one where something is put
  pub put_cases : Puts wanted place Is Stays old new → (q : ℕ) → Stays q → (slice_get new q ≡ slice_get old q) ⊎ ((q ≡ place) × (wanted ≡ true))
  put_cases puts q stays = elim (eqb_tells q place) [
    | inl same ↦ elim (cases_Bool wanted) [ inl is ↦ inr (same.1, is) | inr isnt ↦ inl (puts.others q stays (inr isnt)) ]
    | inr apart ↦ inl (puts.others q stays (inl apart.1))
  ]

  pub puts_one : (x : X) → wanted ≡ true → place < length old → new ≡ set old place x → Is x → Puts wanted place Is Stays old new
  puts_one x is_so below sets is = record {
    put = λ again. (x, ap (λ xs. slice_get xs place) sets ∙ got_same old place x below, is);
    others = λ q stays apart. ap (λ xs. slice_get xs q) sets ∙ (elim apart [
      | inl other ↦ got_other old place q x other
      | inr isnt ↦ absurd (false≢true (sym isnt ∙ is_so))
    ]);
    count = ap length sets ∙ length-set old place x;
  }

-- what stays may be less, and what is put another thing
pub puts_as : {X : Type 0} {wanted : Bool} {place : ℕ} {Is Is' : X → Type 0} {Stays Stays' : ℕ → Type 0} {old mid new : List X}
    → ((q : ℕ) → Stays' q → Stays q) → ((q : ℕ) → Stays' q → slice_get mid q ≡ slice_get old q) → length mid ≡ length old
    → (wanted ≡ true → (x : X) → Is x → Is' x) → Puts wanted place Is Stays mid new → Puts wanted place Is' Stays' old new
puts_as fewer same count to puts = record {
  put = λ is_so. let put = puts.put is_so in (put.0, put.1, to is_so put.0 put.2);
  others = λ q stays apart. puts.others q (fewer q stays) apart ∙ same q stays;
  count = puts.count ∙ count;
}
