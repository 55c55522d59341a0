-- What is found by a name, and the place of the name.
use Rattle.masm_flat.proofs.Words.{◌≡◌, ℕ, Bor, length, ◌+◌, List, [], ◌∷◌, map, Option, Some, None, inl, inr, refl, ap, ◌∙◌, sym, bytes_eq, add-one}
use Rattle.masm_flat.proofs.Words.{cases_Bool, slice_get_past, slice_get_read, find, option_map, option_copied, place_in}
use Rattle.std.specs.Prelude.{option_and_then, slice_get}
use Rattle.std.specs.Slice.{IsItemAt}

behind : {X : Type 0} (x : X) (xs : List X) (o : Option ℕ)
    → option_and_then (slice_get (x ∷ xs)) (option_map (λ i. i + 1) o) ≡ option_and_then (slice_get xs) o
behind x xs None = refl
behind x xs (Some i) = ap (slice_get (x ∷ xs)) (add-one i)

-- the first element of that name stands at the first place of the name
find_placed : {X : Type 0} (name : X → List ℕ) (xs : List X) (text : List ℕ)
    → find (λ x. bytes_eq (name x) text) xs ≡ option_and_then (slice_get xs) (place_in (map name xs) text)
find_placed name [] text = refl
find_placed name (x ∷ xs) text = elim (cases_Bool (bytes_eq (name x) text)) [
  | inl same ↦ rw same refl
  | inr other ↦ rw other (find_placed name xs text ∙ sym (behind x xs (place_in (map name xs) text)))
]

-- what is found, once the place of the name is known
pub found_at : {X : Type 0} (name : X → List ℕ) (xs : List X) (text : List ℕ) (place : Option ℕ) → place_in (map name xs) text ≡ place
    → find (λ x. bytes_eq (name x) text) xs ≡ option_and_then (slice_get xs) place
found_at name xs text place placed = find_placed name xs text ∙ ap (option_and_then (slice_get xs)) placed

-- what a look-up by a place gives
pub got_at : {X : Type 0} (xs : List X) (place : ℕ) (r : Option (Bor X)) → IsItemAt xs place r → option_copied r ≡ slice_get xs place
got_at xs place None got = sym (slice_get_past xs place got.3)
got_at xs place (Some x) got = sym (slice_get_read xs (length xs) place x.now refl got.3.0 got.1)
