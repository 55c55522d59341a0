-- The digests of a kernel's exports, each once.
use Rattle.std.proofs.Common.{◌≡◌, ℕ, ◌+◌, ◌≤◌, cond, ◌||◌, nat_eq, List, [], ◌∷◌, ◌++◌, length, fold, inl, inr, refl, sym, ap, ap₂, subst, ◌∙◌, bytes_eq, arith}
use Rattle.std.proofs.lemmas.Bool.{cases_Bool}
use Rattle.std.proofs.lemmas.Cmp.{nat_list_eq_equiv}
use Rattle.std.proofs.lemmas.List.{length-append}
use Rattle.std.proofs.lemmas.Map.Keys.{IsDistinct-push}
use Rattle.std.specs.List.{list_any, IsDistinct}
use Rattle.block_tree.specs.Kernels.{AreDistinct}
use Rattle.masm_link.specs.Assembling.{add_word, without_repeats}
use lib.Pointwise.{pointwise}

pub distinct_none : AreDistinct []
unfolding IsDistinct
distinct_none = tt

any_flip : (w : List ℕ) (words : List (List ℕ)) → list_any (λ v. bytes_eq v w) words ≡ list_any (pointwise nat_eq w) words
any_flip w [] = refl
any_flip w (v ∷ words) = ap₂ (λ a b. a || b) (nat_list_eq_equiv.symm v w) (any_flip w words)

-- one more word
pub words_more : (words : List (List ℕ)) (w : List ℕ) → AreDistinct words
    → (length (add_word words w) ≤ length words + 1) × AreDistinct (add_word words w)
words_more words w distinct = elim (cases_Bool (list_any (λ v. bytes_eq v w) words)) [
  | inl there ↦
      let same : add_word words w ≡ words = ap (λ b. cond b words (words ++ w ∷ [])) there in
      (let count = ap length same in omega arith, subst AreDistinct (sym same) distinct)
  | inr fresh ↦
      let longer : add_word words w ≡ words ++ w ∷ [] = ap (λ b. cond b words (words ++ w ∷ [])) fresh in (
        let count = ap length longer ∙ length-append words (w ∷ []) in omega arith,
        subst AreDistinct (sym longer) (IsDistinct-push nat_list_eq_equiv words w distinct (sym (any_flip w words) ∙ fresh)),
      )
]

fold_push : (words more : List (List ℕ)) (w : List ℕ) → fold add_word words (more ++ w ∷ []) ≡ add_word (fold add_word words more) w
fold_push words [] w = refl
fold_push words (v ∷ more) w = fold_push (add_word words v) more w

pub without_push : (words : List (List ℕ)) (w : List ℕ) → without_repeats (words ++ w ∷ []) ≡ add_word (without_repeats words) w
without_push words w = fold_push [] words w
