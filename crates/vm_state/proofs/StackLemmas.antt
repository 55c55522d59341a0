-- The sixteen visible cells of a stack, and the cells below them, the highest last.
use Rattle.std.proofs.Common.{◌≡◌, ℕ, ◌-◌, ◌≤◌, List, [], ◌∷◌, ◌++◌, length, take, drop, set, replicate, reverse, refl, sym, ap, subst, ◌∙◌, arith, length-append, append-nil, append_assoc, min, ◌⊎◌, inl, inr, ◌<◌}
use Rattle.std.specs.Prelude.{Option, Some, None, unwrap_or}
use Rattle.std.specs.Option.{MatchOption, option_to_list}
use Rattle.std.proofs.lemmas.Option.{none-some}
use Rattle.std.proofs.Math.Seq.{take-append_seam, drop-append_seam, set-append_seam, take-length, drop-length}
use Rattle.std.proofs.lemmas.Bool.{cases_lt}
use Rattle.std.proofs.lemmas.List.{reverse-append, take-append-drop, drop-replicate, length-drop}
use Rattle.vm_field.specs.Machine.{filled_up}

pub visible-is : (top below : List ℕ) → length top ≡ 16 → top ≡ take 16 (top ++ below)
visible-is top below size = subst (λ n. top ≡ take n (top ++ below)) size (sym (take-append_seam top below))

pub hidden-is : (top below : List ℕ) → length top ≡ 16 → below ≡ drop 16 (top ++ below)
hidden-is top below size = subst (λ n. below ≡ drop n (top ++ below)) size (sym (drop-append_seam top below))

-- sixteen cells and more have no zeros below
full : (cells : List ℕ) → 16 ≤ length cells → cells ≡ filled_up cells
full cells enough = let none : 16 - length cells ≡ 0 = omega arith in rw none (sym (append-nil cells))

-- cells, and zeros in place of the top of a stack that they don't fill
held : (cells : List ℕ) (n : ℕ) → n ≡ min (length cells) 16 → (16 < length cells) ⊎ (length cells ≤ 16)
    → (take n cells ++ replicate (16 - n) 0) ++ drop n cells ≡ filled_up cells
held cells n is (inr few) =
    let all : n ≡ length cells = omega (arith, is, few) in
    rw (all, take-length cells, drop-length cells) (append-nil _)
held cells n is (inl many) =
    let sixteen : n ≡ 16 = omega (arith, is, many) in
    rw sixteen (ap (λ xs. xs ++ drop 16 cells) (append-nil (take 16 cells)) ∙ take-append-drop 16 cells ∙ full cells (omega (arith, many)))

pub held-is : (cells : List ℕ) (n : ℕ) → n ≡ min (length cells) 16 → (take n cells ++ drop n (replicate 16 0)) ++ drop n cells ≡ filled_up cells
held-is cells n is = rw (drop-replicate {X = ℕ} n 16 0) (held cells n is (cases_lt 16 (length cells)))

-- a slice from a place on
pub rest-is : (cells : List ℕ) (n : ℕ) → take (length cells - n) (drop n cells) ≡ drop n cells
rest-is cells n = subst (λ k. take k (drop n cells) ≡ drop n cells) (length-drop n cells) (take-length (drop n cells))

-- the visible cells moved up by one, and a cell in the last place
rotated : (top : List ℕ) (v : ℕ) → length top ≡ 16 → set (drop 1 top ++ take 1 top) 15 v ≡ drop 1 top ++ v ∷ []
rotated [] v size = absurd (omega (arith, size))
rotated (t ∷ ts) v size =
    let later : length ts ≡ 15 = omega (arith, size) in
    subst (λ n. set (ts ++ t ∷ []) n v ≡ ts ++ v ∷ []) later (set-append_seam ts t [] v)

-- the top cell is gone, and the highest cell below comes in, or a zero where there is none
pub dropped-is : (top below rest : List ℕ) (popped : Option ℕ) → length top ≡ 16 → below ≡ rest ++ option_to_list popped
    → (popped ≡ None → length rest ≡ 0) →
    set (drop 1 top ++ take 1 top) 15 (unwrap_or popped 0) ++ reverse rest ≡ filled_up (drop 1 (top ++ reverse below))
dropped-is [] below rest popped size was none = absurd (omega (arith, size))
dropped-is (t ∷ ts) below (r ∷ rest) None size was none = absurd (omega (arith, none refl))
dropped-is (t ∷ ts) below [] None size was none =
    let later : length ts ≡ 15 = omega (arith, size) in
    rw (rotated (t ∷ ts) 0 size, was, append-nil ts, later) (append-nil (ts ++ 0 ∷ []))
dropped-is (t ∷ ts) below rest (Some v) size was none =
    let later : length ts ≡ 15 = omega (arith, size) in
    rw (rotated (t ∷ ts) v size, was, reverse-append rest (v ∷ []))
    (append_assoc ts (v ∷ []) (reverse rest) ∙ full (ts ++ v ∷ reverse rest) (rw (length-append ts (v ∷ reverse rest)) (omega (arith, later))))

-- what stood at a pop that gave nothing
pub emptied : (popped : Option ℕ) (m n : ℕ) (before after : List ℕ) (P : ℕ → Type 0) → MatchOption popped ((m ≡ 0) × (n ≡ 0)) P
    → after ≡ take (m - 1) before → popped ≡ None → length after ≡ 0
emptied None m n before after P cases rest none =
    let nothing : m - 1 ≡ 0 = omega (arith, cases.0) in
    rw (rest, nothing) refl
emptied (Some v) m n before after P cases rest none = absurd (none-some v (sym none))
