-- The rows of the kernel's table, one by one, by counts in a map.
use Rattle.fill_chips.proofs.Words.{◌≡◌, ℕ, ◌+◌, ◌<◌, ◌≤◌, Bool, true, false, cond, nat_eq, Option, None, unwrap_or, List, [], ◌∷◌, ◌++◌, length, get_or}
use Rattle.fill_chips.proofs.Words.{drop, refl, sym, ap, ap₂, ◌∙◌, append_assoc, add-one, arith, drop-cons, append-nil, drop_all, HashMap, get, pointwise}
use Rattle.fill_chips.proofs.Words.{kernel_rows, without}

-- the count of a word in a map
abbrev pub times_in : {S : Type 0} → HashMap (List ℕ) ℕ S → List ℕ → ℕ
times_in times u = unwrap_or (get (pointwise nat_eq) times u) 0

-- counts that are alike give one table
pub rows-alike : (f g : List ℕ → ℕ) (words : List (List ℕ)) → ((u : List ℕ) → f u ≡ g u) → kernel_rows f words ≡ kernel_rows g words
rows-alike f g words same = ap (λ (h : List ℕ → ℕ). kernel_rows h words) (λ i u. same u i)

-- what is left where a word was taken out
pub without-is : (b : Bool) (o : Option ℕ) → unwrap_or (cond b None o) 0 ≡ cond b 0 (unwrap_or o 0)
without-is true o = refl
without-is false o = refl

-- one more row
pub rows-next : (f g : List ℕ → ℕ) (word : List ℕ) (words : List (List ℕ)) (table : List (List ℕ)) → ((u : List ℕ) → g u ≡ without word f u)
    → (table ++ (word ++ f word ∷ []) ∷ []) ++ kernel_rows g words ≡ table ++ kernel_rows f (word ∷ words)
unfolding kernel_rows
rows-next f g word words table same =
    append_assoc table ((word ++ f word ∷ []) ∷ []) (kernel_rows g words)
    ∙ ap (λ rows. table ++ (word ++ f word ∷ []) ∷ rows) (rows-alike g (without word f) words same)

pub without-few : (b : Bool) (n left most : ℕ) → left ≡ cond b 0 n → n ≤ most → left ≤ most
without-few true n left most e h = omega (arith, e)
without-few false n left most e h = omega (arith, e, h)

-- the row of the word at a place
pub rows-step : (f g : List ℕ → ℕ) (kernel table new : List (List ℕ)) (row : List ℕ) (i : ℕ) (word : List ℕ) (count : ℕ) → i < length kernel
    → word ≡ get_or kernel i word → new ≡ table ++ row ∷ [] → row ≡ word ++ count ∷ [] → count ≡ f word → ((u : List ℕ) → g u ≡ without word f u)
    → new ++ kernel_rows g (drop (i + 1) kernel) ≡ table ++ kernel_rows f (drop i kernel)
rows-step f g kernel table new row i word count within word_is new_is row_is count_is same =
    ap (λ (t : List (List ℕ)). t ++ kernel_rows g (drop (i + 1) kernel))
    (new_is ∙ ap (λ (r : List ℕ). table ++ r ∷ []) (row_is ∙ ap (λ (n : ℕ). word ++ n ∷ []) count_is))
    ∙ rows-next f g word (drop (i + 1) kernel) table same ∙ ap (λ (words : List (List ℕ)). table ++ kernel_rows f words) (sym here)
  where
    here : drop i kernel ≡ word ∷ drop (i + 1) kernel
    here = drop-cons kernel i word within ∙ ap₂ (λ (w : List ℕ) (n : ℕ). w ∷ drop n kernel) (sym word_is) (sym (add-one i))

pub rows-done : (f : List ℕ → ℕ) (kernel table : List (List ℕ)) (i : ℕ) → length kernel ≤ i → table ++ kernel_rows f (drop i kernel) ≡ table
unfolding kernel_rows
rows-done f kernel table i past =
    ap (λ (words : List (List ℕ)). table ++ kernel_rows f words) (drop_all i kernel past) ∙ append-nil table
