-- A list so many times.
use Rattle.masm_flat.proofs.Words.{◌≡◌, ℕ, zero, suc, ◌+◌, List, [], ◌++◌, refl, sym, ap, ◌∙◌, append_assoc, add-one, Tree, times, pieces_of}
use Rattle.std.proofs.lemmas.List.{append-nil}
use Rattle.masm_flat.specs.declared.piece.Piece.{Piece}
use Rattle.masm_flat.specs.Blocks as blocks

pub times_suc : {A : Type 0} (n : ℕ) (xs : List A) → times (suc n) xs ≡ times n xs ++ xs
times_suc zero xs = append-nil xs
times_suc (suc n) xs = ap (λ ys. xs ++ ys) (times_suc n xs) ∙ sym (append_assoc xs (times n xs) xs)

times_none : {A : Type 0} (n : ℕ) → times n (let none : List A = [] in none) ≡ []
times_none zero = refl
times_none (suc n) = times_none n

pub times_of_none : (n : ℕ) (list : List Piece) (out : List (blocks.Piece Tree)) → list ≡ [] → out ≡ out ++ times n (pieces_of list)
times_of_none n list out none = sym (append-nil out) ∙ ap (λ xs. out ++ xs) (sym (times_none n)) ∙ ap (λ xs. out ++ times n (pieces_of xs)) (sym none)

pub times_more : {A : Type 0} (n : ℕ) (xs : List A) → times (n + 1) xs ≡ times n xs ++ xs
times_more n xs = ap (λ k. times k xs) (add-one n) ∙ times_suc n xs
