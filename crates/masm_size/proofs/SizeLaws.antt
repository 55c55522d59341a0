-- The size of a list that is made of others, and the extent of its block.
use Rattle.std.proofs.Common.{◌≡◌, ℕ, zero, suc, ◌+◌, ◌-◌, ◌*◌, ◌<◌, ◌≤◌, min, max, Bool, true, false, cond, List, [], ◌∷◌, ◌++◌, length, map, ⊎_elim, inl, inr, refl, sym, ap, ap₂, subst, ◌∙◌, append-nil, add-zero, length-append, arith}
use Rattle.std.specs.Prelude.{nat_le, not, ◌&&◌}
use Rattle.std.proofs.lemmas.List.{length-map, map-append}
use Rattle.std.proofs.lemmas.Bool.{cases_Bool, cases_lt}
use Rattle.std.proofs.lemmas.Bool.Decides.{nat_tests}
use Rattle.vm_ops.specs.declared.item.Item.{Item}
use Rattle.masm_flat.specs.declared.extent.Extent.{Extent}
use Rattle.masm_size.specs.declared.shape.Rise.{Rise}
use Rattle.masm_flat.specs.Blocks.{Piece, Operation, Whole, blocks_behind, paired, joined, all_joined, whole_of, whole}
use Rattle.masm_flat.specs.Lists.{times}
use Rattle.masm_size.specs.Sizes.{as_extent, Shape, Run, High, ShapeRow, Size, put, shape_of, shapes_of, total, limited, size_of, run_of, no_row, one_if, capped, starts_in_run, ends_in_run, rises_from, row_of, top_of, rises_behind, offset_of, starts_with, row_behind, row_both, row_times, both, times_size, one_block, height_of, one_high, join_heights, height_joined, extent_of, block_size}
use Rattle.masm_flat.proofs.Levels.{length-paired}
use Rattle.masm_size.proofs.Rows.{yes_le, no_le, rise-taken, rise-left, one_if-le, AreLow, height-row}
use Rattle.masm_flat.proofs.Seen.{seen-joined}

-- the parts of two lists, one behind the other; two runs that meet are one part
abbrev without_run : List Shape → List Shape
without_run (Run ∷ xs) = xs
without_run xs = xs

abbrev merged : List Shape → List Shape → List Shape
merged xs ys = xs ++ cond (ends_in_run xs) (without_run ys) ys

merged-put : (x : Shape) (s t : List Shape) → merged (put x s) t ≡ put x (merged s t)
merged-put Run [] [] = refl
merged-put Run [] (Run ∷ t) = refl
merged-put Run [] (High h ∷ t) = refl
merged-put (High k) [] t = refl
merged-put Run (Run ∷ s) t = refl
merged-put Run (High h ∷ s) t = refl
merged-put (High k) (y ∷ s) t = refl

shapes-append : (xs ys : List (Piece Extent)) → shapes_of (xs ++ ys) ≡ merged (shapes_of xs) (shapes_of ys)
shapes-append [] ys = refl
shapes-append (x ∷ xs) ys = ap (put (shape_of x)) (shapes-append xs ys) ∙ sym (merged-put (shape_of x) (shapes_of xs) (shapes_of ys))

-- rises of two lists

rises-append : (i below : ℕ) (xs ys : List ℕ)
    → rises_from i below (xs ++ ys) ≡ rises_from i below xs ++ rises_from (i + length xs) (top_of below (rises_from i below xs)) ys
rises-append i below [] ys = ap (λ k. rises_from k below ys) (sym (add-zero i))
rises-append i below (h ∷ hs) ys = elim (cases_Bool (nat_le below h)) [
  | inl above ↦ rw above (ap (λ rs. (record { index = capped i; height = h }) ∷ rs) (rises-append (suc i) (suc h) hs ys
      ∙ ap (λ k. rises_from (suc i) (suc h) hs ++ rises_from k (top_of (suc h) (rises_from (suc i) (suc h) hs)) ys) (omega arith)))
  | inr under ↦ rw under (rises-append (suc i) below hs ys
      ∙ ap (λ k. rises_from (suc i) below hs ++ rises_from k (top_of below (rises_from (suc i) below hs)) ys) (omega arith))
]

-- the rises of a list that stands behind others
rises-behind : (d i below low : ℕ) (hs : List ℕ) → rises_behind (capped d) below (rises_from i low hs) ≡ rises_from (d + i) (max below low) hs
rises-behind d i below low [] = refl
rises-behind d i below low (h ∷ hs) = elim (cases_lt h low) [
  | inl under ↦ rw (no_le low h under, no_le (max below low) h (omega arith))
      (rises-behind d (suc i) below low hs ∙ ap (λ k. rises_from k (max below low) hs) (omega arith))
  | inr above ↦ elim (cases_lt h below) [
    | inl hidden ↦ rw (yes_le low h above, no_le below h hidden, no_le (max below low) h (omega arith))
        (rises-behind d (suc i) below (suc h) hs ∙ ap₂ (λ k m. rises_from k m hs) (omega arith) (omega arith))
    | inr seen ↦ rw (yes_le low h above, yes_le below h seen, yes_le (max below low) h (omega arith))
        (ap₂ (λ k rs. (record { index = k; height = h }) ∷ rs) (capped_sum d i)
        (rises-behind d (suc i) below (suc h) hs ∙ ap₂ (λ k m. rises_from k m hs) (omega arith) (omega arith)))
  ]
]
  where
    capped_sum : (a b : ℕ) → capped (capped a + capped b) ≡ capped (a + b)
    capped_sum a b = omega arith

-- none of a list's parts is higher than the last that is higher than all before it
none_higher : (i d below : ℕ) (hs : List ℕ) (rises : List Rise) → rises ≡ rises_from i below hs → rises_from d (top_of below rises) hs ≡ []
none_higher i d below [] rises is = refl
none_higher i d below (h ∷ hs) rises is = elim (cases_lt h below) [
  | inl under ↦
      let same = is ∙ rise-left i below h hs under in
      let top = top-le below hs (suc i) in
      let high : below ≤ top_of below rises = subst (λ rs. below ≤ top_of below rs) (sym same) top in
      rise-left d (top_of below rises) h hs (omega arith) ∙ none_higher (suc i) (suc d) below hs rises same
  | inr above ↦
      let same = is ∙ rise-taken i below h hs above in
      let top = top-le (suc h) hs (suc i) in
      let first : Rise = record { index = capped i; height = h } in
      let high : suc h ≤ top_of below rises = subst (λ rs. suc h ≤ top_of below rs) (sym same) top in
      rise-left d (top_of below rises) h hs (omega arith)
      ∙ (ap (λ rs. rises_from (suc d) (top_of below rs) hs) same ∙ none_higher (suc i) (suc d) (suc h) hs (rises_from (suc i) (suc h) hs) refl)
]
  where
    top-le : (below : ℕ) (hs : List ℕ) (i : ℕ) → below ≤ top_of below (rises_from i below hs)
    top-le below [] i = omega arith
    top-le below (h ∷ hs) i = elim (cases_lt h below) [
      | inl under ↦ rw (no_le below h under) (top-le below hs (suc i))
      | inr above ↦ rw (yes_le below h above) (let next = top-le (suc h) hs (suc i) in omega arith)
    ]

-- rows of two lists

abbrev is_none : List Shape → Bool
is_none [] = true
is_none (x ∷ xs) = false

ends-length : (xs : List Shape) → one_if (ends_in_run xs) ≤ length xs
ends-length [] = omega arith
ends-length (x ∷ xs) = omega (arith, one_if-le (ends_in_run (x ∷ xs)))

ends-append : (xs : List Shape) (y : Shape) (ys : List Shape) → ends_in_run (xs ++ y ∷ ys) ≡ ends_in_run (y ∷ ys)
ends-append [] y ys = refl
ends-append (Run ∷ []) y ys = refl
ends-append (High h ∷ []) y ys = refl
ends-append (x ∷ z ∷ xs) y ys = ends-append (z ∷ xs) y ys

starts-append : (xs ys : List Shape) → starts_in_run (xs ++ ys) ≡ cond (is_none xs) (starts_in_run ys) (starts_in_run xs)
starts-append [] ys = refl
starts-append (Run ∷ xs) ys = refl
starts-append (High h ∷ xs) ys = refl

starts-with : (xs : List Shape) (row : ShapeRow) (b : Bool) → row.starts ≡ starts_in_run xs
    → starts_with row b (rises_from 0 0 (map height_of xs)) ≡ cond (is_none xs) b (starts_in_run xs)
starts-with [] row b same = refl
starts-with (x ∷ xs) row b same = ap (starts_with row b) (rise-taken 0 0 (height_of x) (map height_of xs) (omega arith)) ∙ same

abbrev joined_row : ShapeRow → ShapeRow → List Rise → ShapeRow
joined_row a b rs = record {
  whole = capped (offset_of a b.starts + b.whole);
  starts = starts_with a b.starts a.rises;
  ends = b.ends;
  rises = a.rises ++ rises_behind (offset_of a b.starts) (top_of 0 a.rises) rs;
}

row-behind : (a b : ShapeRow) (y : Shape) (ys : List Shape) → b.rises ≡ rises_from 0 0 (map height_of (y ∷ ys)) → row_both a b ≡ joined_row a b b.rises
unfolding row_both
row-behind a b y ys is =
    let some = is ∙ rise-taken 0 0 (height_of y) (map height_of ys) (omega arith) in
    ap (row_behind a b) some ∙ ap (joined_row a b) (sym some)

row_same : (w w' : ℕ) (s s' e e' : Bool) (r r' : List Rise) → w ≡ w' → s ≡ s' → e ≡ e' → r ≡ r'
    → (let row : ShapeRow = record { whole = w; starts = s; ends = e; rises = r } in row)
    ≡ (let row : ShapeRow = record { whole = w'; starts = s'; ends = e'; rises = r' } in row)
row_same w w' s s' e e' r r' p q t u = λ i. record { whole = p i; starts = q i; ends = t i; rises = u i }

-- where two runs do not meet
row-apart : (xs : List Shape) (y : Shape) (ys : List Shape) → (ends_in_run xs && starts_in_run (y ∷ ys)) ≡ false
    → row_of (xs ++ y ∷ ys) ≡ row_both (row_of xs) (row_of (y ∷ ys))
row-apart xs y ys apart =
    let a = row_of xs in
    let b = row_of (y ∷ ys) in
    let ends = ends-append xs y ys in
    let same_ends = ap one_if ends in
    let long = length-append xs (y ∷ ys) in
    let run = ends-length xs in
    let run' = ends-length (y ∷ ys) in
    let offset : offset_of a b.starts ≡ capped (length xs) = by (ends_in_run xs) (starts_in_run (y ∷ ys)) apart (length xs) run in
    row_same _ _ _ _ _ _ _ _
    (let c = ap (λ n. capped (n + b.whole)) offset in omega arith)
    (starts-append xs (y ∷ ys) ∙ sym (starts-with xs a b.starts refl))
    ends
    (ap (rises_from 0 0) (map-append height_of xs (y ∷ ys))
    ∙ (rises-append 0 0 (map height_of xs) (map height_of (y ∷ ys))
    ∙ ap (λ rs. a.rises ++ rs)
    (ap (λ k. rises_from k (top_of 0 a.rises) (map height_of (y ∷ ys)))
    (let e : 0 + length (map height_of xs) ≡ length xs + 0 = omega (arith, length-map xs height_of) in e)
    ∙ (ap (λ m. rises_from (length xs + 0) m (map height_of (y ∷ ys))) (max-zero (top_of 0 a.rises))
    ∙ (sym (rises-behind (length xs) 0 (top_of 0 a.rises) 0 (map height_of (y ∷ ys)))
    ∙ ap (λ k. rises_behind k (top_of 0 a.rises) b.rises) (sym offset))))))
    ∙ sym (row-behind a b y ys refl)
  where
    by : (e s : Bool) → (e && s) ≡ false → (n : ℕ) → one_if e ≤ n → capped (capped (n - one_if e) + one_if (e && not s)) ≡ capped n
    by true true is n le = cc
    by true false is n le = omega arith
    by false true is n le = omega arith
    by false false is n le = omega arith

    max-zero : (n : ℕ) → n ≡ max n 0
    max-zero n = omega arith

-- where they do
ends_high : (xs : List Shape) (i below : ℕ) → ends_in_run xs ≡ true → 2 ≤ top_of below (rises_from i below (map height_of xs))
ends_high [] i below ends = cc
ends_high (Run ∷ []) i below ends = elim (cases_lt 1 below) [
  | inl under ↦ rw (no_le below 1 under) (omega arith)
  | inr above ↦ rw (yes_le below 1 above) (omega arith)
]
ends_high (High h ∷ []) i below ends = cc
ends_high (x ∷ y ∷ xs) i below ends = elim (cases_lt (height_of x) below) [
  | inl under ↦ rw (no_le below (height_of x) under) (ends_high (y ∷ xs) (suc i) below ends)
  | inr above ↦ rw (yes_le below (height_of x) above) (ends_high (y ∷ xs) (suc i) (suc (height_of x)) ends)
]

ends-met : (xs ys : List Shape) → ends_in_run xs ≡ true → ends_in_run (xs ++ ys) ≡ ends_in_run (Run ∷ ys)
ends-met xs [] ends = ap ends_in_run (append-nil xs) ∙ ends
ends-met xs (y ∷ ys) ends = ends-append xs y ys

row-met : (xs ys : List Shape) → ends_in_run xs ≡ true → row_of (xs ++ ys) ≡ row_both (row_of xs) (row_of (Run ∷ ys))
row-met xs ys ends =
    let a = row_of xs in
    let b = row_of (Run ∷ ys) in
    let met = ends-met xs ys ends in
    let same_ends = ap one_if met in
    let long = length-append xs ys in
    let run : 1 ≤ length xs = subst (λ t. one_if t ≤ length xs) ends (ends-length xs) in
    let run' = ends-length (Run ∷ ys) in
    let d = length xs - 1 in
    let offset : offset_of a true ≡ capped d = ap (λ t. capped (capped (length xs - one_if t) + one_if (t && false))) ends ∙ omega arith in
    let high = ends_high xs 0 0 ends in
    let top = top_of 0 a.rises in
    let behind : d + 1 ≡ length xs = omega arith in
    row_same _ _ _ _ _ _ _ _
    (let c = ap (λ n. capped (n + b.whole)) offset in omega arith)
    (starts-append xs ys ∙ (some xs run ∙ sym (starts-with xs a true refl)))
    met
    (ap (rises_from 0 0) (map-append height_of xs ys)
    ∙ (rises-append 0 0 (map height_of xs) (map height_of ys)
    ∙ ap (λ rs. a.rises ++ rs)
    (ap (λ k. rises_from k top (map height_of ys)) (let e : 0 + length (map height_of xs) ≡ suc (d + 0) = omega (arith, length-map xs height_of) in e)
    ∙ (sym (rise-left (d + 0) (max top 0) 1 (map height_of ys) (omega arith) ∙ ap (λ m. rises_from (suc (d + 0)) m (map height_of ys)) (omega arith))
    ∙ (sym (rises-behind d 0 top 0 (map height_of (Run ∷ ys)))
    ∙ ap (λ k. rises_behind k top b.rises) (sym offset))))))
    ∙ sym (row-behind a b Run ys refl)
  where
    some : (xs : List Shape) → 1 ≤ length xs → cond (is_none xs) (starts_in_run ys) (starts_in_run xs) ≡ cond (is_none xs) true (starts_in_run xs)
    some [] h = absurd (omega arith)
    some (x ∷ xs) h = refl

row-merged : (xs ys : List Shape) → row_of (merged xs ys) ≡ row_both (row_of xs) (row_of ys)
unfolding row_both
row-merged xs [] = ap row_of (ap (λ zs. xs ++ zs) (same (ends_in_run xs)) ∙ append-nil xs)
  where
    same : (t : Bool) → cond t (let none : List Shape = [] in none) [] ≡ []
    same true = refl
    same false = refl
row-merged xs (Run ∷ ys) = by (ends_in_run xs) refl
  where
    by : (t : Bool) → ends_in_run xs ≡ t → row_of (merged xs (Run ∷ ys)) ≡ row_both (row_of xs) (row_of (Run ∷ ys))
    by true is = ap (λ t. row_of (xs ++ cond t ys (Run ∷ ys))) is ∙ row-met xs ys is
    by false is = ap (λ t. row_of (xs ++ cond t ys (Run ∷ ys))) is ∙ row-apart xs Run ys (ap (λ t. t && true) is)
row-merged xs (High h ∷ ys) = ap (λ zs. row_of (xs ++ zs)) (same (ends_in_run xs)) ∙ row-apart xs (High h) ys (none (ends_in_run xs))
  where
    same : (t : Bool) → cond t (High h ∷ ys) (High h ∷ ys) ≡ High h ∷ ys
    same true = refl
    same false = refl

    none : (t : Bool) → (t && false) ≡ false
    none true = refl
    none false = refl

total-append : (xs ys : List (Piece Extent)) → total (xs ++ ys) ≡ total xs + total ys
total-append [] ys = omega arith
total-append (Operation item ∷ xs) ys = omega (arith, total-append xs ys)
total-append (Whole e ∷ xs) ys = omega (arith, total-append xs ys)

limited-small : (n : ℕ) (row : ShapeRow) → n ≤ 524288 → limited n row ≡ record { operations = n; row = row }
limited-small n row h = grind (arith, nat_tests)

limited-large : (n : ℕ) (row : ShapeRow) → 524288 < n → limited n row ≡ record { operations = 524289; row = no_row }
limited-large n row h = grind (arith, nat_tests)

both-limited : (m n : ℕ) (s t : ShapeRow) → both (limited m s) (limited n t) ≡ limited (m + n) (row_both s t)
unfolding both
both-limited m n s t =
    ⊎_elim
    (λ (large : 524288 < m).
    ap (λ (z : Size). limited (z.operations + (limited n t).operations) (row_both z.row (limited n t).row)) (limited-large m s large)
    ∙ limited-large (524289 + (limited n t).operations) _ (omega arith) ∙ sym (limited-large (m + n) (row_both s t) (omega arith)))
    (λ (small : m ≤ 524288).
    ap (λ (z : Size). limited (z.operations + (limited n t).operations) (row_both z.row (limited n t).row)) (limited-small m s small)
    ∙ ⊎_elim
    (λ (large : 524288 < n).
    ap (λ (z : Size). limited (m + z.operations) (row_both s z.row)) (limited-large n t large)
    ∙ limited-large (m + 524289) _ (omega arith) ∙ sym (limited-large (m + n) (row_both s t) (omega arith)))
    (λ (small' : n ≤ 524288). ap (λ (z : Size). limited (m + z.operations) (row_both s z.row)) (limited-small n t small'))
    (cases_lt 524288 n))
    (cases_lt 524288 m)

pub size-append : (xs ys : List (Piece Extent)) → size_of (xs ++ ys) ≡ both (size_of xs) (size_of ys)
size-append xs ys =
    ap₂ limited (total-append xs ys) (ap row_of (shapes-append xs ys) ∙ row-merged (shapes_of xs) (shapes_of ys))
    ∙ sym (both-limited (total xs) (total ys) (row_of (shapes_of xs)) (row_of (shapes_of ys)))

row_one : (x : Shape) → rises_from 0 0 (height_of x ∷ []) ≡ (record { index = 0; height = height_of x }) ∷ []
row_one x = rise-taken 0 0 (height_of x) [] (omega arith)

pub size-block : (e : Extent) → size_of (Whole e ∷ []) ≡ block_size e
size-block e =
    ap₂ limited (add-zero e.operations) (row_same _ _ _ _ _ _ _ _ refl refl refl (row_one (High e.height)))

total-run : (items : List Item) → total (map Operation items) ≡ length items
total-run [] = refl
total-run (item ∷ items) = omega (arith, total-run items)

shapes-run : (item : Item) (items : List Item) → shapes_of (map Operation (item ∷ items)) ≡ Run ∷ []
shapes-run item [] = refl
shapes-run item (next ∷ items) = ap (put Run) (shapes-run next items)

pub size-run : (items : List Item) → size_of (map Operation items) ≡ run_of (length items)
size-run [] = refl
size-run (item ∷ items) =
    ap₂ limited (total-run (item ∷ items)) (ap row_of (shapes-run item items) ∙ row_same _ _ _ _ _ _ _ _ refl refl refl (row_one Run))

-- a list so many times

row_times-none : (row : ShapeRow) → row.whole ≤ 4294967295 → row_times 0 row ≡ row
unfolding row_times
row_times-none row low = row_same _ _ _ _ _ _ _ _ (no_times row.whole (offset_of row row.starts) low) refl refl refl
  where
    no_times : (w o : ℕ) → w ≤ 4294967295 → capped (w + 0 * o) ≡ w
    no_times w o h = omega arith

row_times-more : (n : ℕ) (xs : List Shape) → row_both (row_of xs) (row_times n (row_of xs)) ≡ row_times (suc n) (row_of xs)
unfolding row_times row_both
row_times-more n [] = row_same _ _ _ _ _ _ _ _ (omega arith) refl refl refl
row_times-more n (x ∷ xs) =
    let r = row_of (x ∷ xs) in
    let hs = map height_of (x ∷ xs) in
    let d = r.whole + one_if (r.ends && not r.starts) in
    let top = top_of 0 r.rises in
    let none : rises_behind (capped d) top r.rises ≡ [] =
    rises-behind d 0 top 0 hs ∙ (ap (λ m. rises_from (d + 0) m hs) (max_zero top) ∙ none_higher 0 (d + 0) 0 hs r.rises refl) in
    row-behind r (row_times n r) x xs refl
    ∙ row_same _ _ _ _ _ _ _ _ (grown (capped d) r.whole n) (starts-with (x ∷ xs) r r.starts refl) refl
    (ap (λ rs. r.rises ++ rs) none ∙ append-nil r.rises)
  where
    max_zero : (n : ℕ) → max n 0 ≡ n
    max_zero n = omega arith

    grown : (o w n : ℕ) → capped (o + capped (w + n * o)) ≡ capped (w + suc n * o)
    grown o w n = omega arith

times-limited : (n m : ℕ) (row : ShapeRow) → times_size (suc n) (limited m row) ≡ limited (suc n * m) (row_times n row)
times-limited n m row = elim (cases_lt 524288 m) [
  | inl large ↦
      ap (times_size (suc n)) (limited-large m row large)
      ∙ (limited-large (suc n * 524289) (row_times n no_row) (omega arith) ∙ sym (limited-large (suc n * m) (row_times n row) (omega arith)))
  | inr small ↦ ap (times_size (suc n)) (limited-small m row small)
]

pub size-copies : (n : ℕ) (xs : List (Piece Extent)) → size_of (times n xs) ≡ times_size n (size_of xs)
size-copies zero xs = refl
size-copies (suc zero) xs =
    let t = total xs in
    let r = row_of (shapes_of xs) in
    ap size_of (append-nil xs)
    ∙ (ap₂ limited (one_time t) (sym (row_times-none r (omega arith))) ∙ sym (times-limited 0 t r))
  where
    one_time : (n : ℕ) → n ≡ 1 * n
    one_time n = omega arith
size-copies (suc (suc n)) xs =
    let t = total xs in
    let r = row_of (shapes_of xs) in
    size-append xs (times (suc n) xs)
    ∙ (ap (both (size_of xs)) (size-copies (suc n) xs ∙ times-limited n t r)
    ∙ (both-limited t (suc n * t) r (row_times n r)
    ∙ (ap₂ limited (once_more t n) (row_times-more n (shapes_of xs)) ∙ sym (times-limited (suc n) t r))))
  where
    once_more : (t n : ℕ) → t + suc n * t ≡ suc (suc n) * t
    once_more t n = omega arith

-- heights

put-again : (s : List Shape) → put Run (put Run s) ≡ put Run s
put-again [] = refl
put-again (Run ∷ s) = refl
put-again (High h ∷ s) = refl

abbrev heights : List Extent → List ℕ
heights blocks = map (λ (e : Extent). e.height) blocks

abbrev mutual
  behind-none : (pieces : List (Piece Extent)) → heights (blocks_behind as_extent.span as_extent.join [] pieces) ≡ map height_of (shapes_of pieces)
  behind-none [] = refl
  behind-none (Operation item ∷ pieces) = behind-some item [] pieces
  behind-none (Whole e ∷ pieces) = ap (λ hs. e.height ∷ hs) (behind-none pieces)

  behind-some : (item : Item) (items : List Item) (pieces : List (Piece Extent))
      → heights (blocks_behind as_extent.span as_extent.join (item ∷ items) pieces) ≡ map height_of (put Run (shapes_of pieces))
  behind-some item items [] = refl
  behind-some item items (Operation next ∷ pieces) =
      behind-some item (items ++ next ∷ []) pieces ∙ ap (map height_of) (sym (put-again (shapes_of pieces)))
  behind-some item items (Whole e ∷ pieces) = ap (λ hs. 1 ∷ e.height ∷ hs) (behind-none pieces)

pub height-whole : (pieces : List (Piece Extent)) → (whole as_extent pieces).height ≡ height_joined (map height_of (shapes_of pieces))
unfolding whole_of all_joined
height-whole pieces =
    let blocks = blocks_behind as_extent.span as_extent.join [] pieces in
    seen-joined (λ (e : Extent). e.height) as_extent.span as_extent.join one_high join_heights (λ items. refl) (λ a b. refl) (length blocks) blocks
    ∙ ap₂ (joined one_high join_heights) (sym (length-map blocks (λ (e : Extent). e.height)) ∙ ap length (behind-none pieces)) (behind-none pieces)

-- operations

abbrev pub IsSome_size : Extent → Type 0
IsSome_size e = (1 ≤ e.operations) × (e.operations ≤ 524289) × (e.height ≤ 1025)

-- each block has an operation
abbrev pub IsSolid : List (Piece Extent) → Type 0
IsSolid [] = Unit {0}
IsSolid (Operation item ∷ pieces) = IsSolid pieces
IsSolid (Whole e ∷ pieces) = IsSome_size e × IsSolid pieces

abbrev AreSome : List Extent → Type 0
AreSome [] = Unit {0}
AreSome (e ∷ es) = IsSome_size e × AreSome es

abbrev sum_of : List Extent → ℕ
sum_of [] = 0
sum_of (e ∷ es) = e.operations + sum_of es

AreSome-behind : (items : List Item) (pieces : List (Piece Extent)) → IsSolid pieces
    → AreSome (blocks_behind as_extent.span as_extent.join items pieces)
AreSome-behind [] [] h = tt
AreSome-behind (item ∷ items) [] h = ((omega arith, omega arith, omega arith), tt)
AreSome-behind items (Operation item ∷ pieces) h = AreSome-behind (items ++ item ∷ []) pieces h
AreSome-behind [] (Whole e ∷ pieces) h = (h.0, AreSome-behind [] pieces h.1)
AreSome-behind (item ∷ items) (Whole e ∷ pieces) h = ((omega arith, omega arith, omega arith), (h.0, AreSome-behind [] pieces h.1))

sum-behind : (items : List Item) (pieces : List (Piece Extent))
    → min (sum_of (blocks_behind as_extent.span as_extent.join items pieces)) 524289 ≡ min (length items + total pieces) 524289
sum-behind [] [] = omega arith
sum-behind (item ∷ items) [] = omega arith
sum-behind items (Operation item ∷ pieces) = omega (arith, sum-behind (items ++ item ∷ []) pieces, length-append items (item ∷ []))
sum-behind [] (Whole e ∷ pieces) = omega (arith, sum-behind [] pieces)
sum-behind (item ∷ items) (Whole e ∷ pieces) = omega (arith, sum-behind [] pieces)

AreSome-paired : (blocks : List Extent) → AreSome blocks → AreSome (paired as_extent.span as_extent.join blocks)
AreSome-paired [] h = tt
AreSome-paired (a ∷ []) h = h
AreSome-paired (a ∷ b ∷ blocks) h = ((omega arith, omega arith, omega arith), AreSome-paired blocks h.1.1)

sum-paired : (blocks : List Extent) → min (sum_of (paired as_extent.span as_extent.join blocks)) 524289 ≡ min (sum_of blocks) 524289
sum-paired [] = refl
sum-paired (a ∷ []) = refl
sum-paired (a ∷ b ∷ blocks) = omega (arith, sum-paired blocks)

sum-joined : (n : ℕ) (blocks : List Extent) → length blocks ≤ suc n → AreSome blocks
    → (joined as_extent.span as_extent.join n blocks).operations ≡ min (max 1 (sum_of blocks)) 524289
sum-joined n [] k h = refl
sum-joined n (a ∷ []) k h = omega arith
sum-joined zero (a ∷ b ∷ blocks) k h = absurd (omega arith)
sum-joined (suc n) (a ∷ b ∷ blocks) k h =
    omega (
      arith,
      sum-joined n (paired as_extent.span as_extent.join (a ∷ b ∷ blocks))
          (omega (arith, length-paired as_extent.span as_extent.join blocks)) (AreSome-paired (a ∷ b ∷ blocks) h),
      sum-paired (a ∷ b ∷ blocks),
    )

pub operations-whole : (pieces : List (Piece Extent)) → IsSolid pieces → (whole as_extent pieces).operations ≡ min (max 1 (total pieces)) 524289
unfolding whole_of all_joined
operations-whole pieces h =
    let blocks = blocks_behind as_extent.span as_extent.join [] pieces in
    omega (arith, sum-joined (length blocks) blocks (omega arith) (AreSome-behind [] pieces h), sum-behind [] pieces)

-- heights of parts, up to the ceiling, and how many parts there are

low-put : (x : Shape) (xs : List Shape) → height_of x ≤ 1025 → AreLow (map height_of xs) → AreLow (map height_of (put x xs))
low-put Run [] h low = (h, low)
low-put Run (Run ∷ xs) h low = low
low-put Run (High k ∷ xs) h low = (h, low)
low-put (High k) xs h low = (h, low)

low-shapes : (pieces : List (Piece Extent)) → IsSolid pieces → AreLow (map height_of (shapes_of pieces))
low-shapes [] h = tt
low-shapes (Operation item ∷ pieces) h = low-put Run (shapes_of pieces) (omega arith) (low-shapes pieces h)
low-shapes (Whole e ∷ pieces) h = low-put (High e.height) (shapes_of pieces) h.0.2 (low-shapes pieces h.1)

length-put : (x : Shape) (xs : List Shape) → length (put x xs) ≤ suc (length xs)
length-put Run [] = omega arith
length-put Run (Run ∷ xs) = omega arith
length-put Run (High k ∷ xs) = omega arith
length-put (High k) xs = omega arith

few-shapes : (pieces : List (Piece Extent)) → IsSolid pieces → length (shapes_of pieces) ≤ total pieces
few-shapes [] h = omega arith
few-shapes (Operation item ∷ pieces) h = omega (arith, few-shapes pieces h, length-put Run (shapes_of pieces))
few-shapes (Whole e ∷ pieces) h = omega (arith, few-shapes pieces h.1, length-put (High e.height) (shapes_of pieces), h.0.0)

-- Extents that agree in what counts: of too many operations no height is kept.
pub record Agree (e f : Extent) : Type 0 where
  pub operations : e.operations ≡ f.operations
  pub height : e.operations ≤ 524288 → e.height ≡ f.height

pub extent-whole : (pieces : List (Piece Extent)) → IsSolid pieces → Agree (extent_of (size_of pieces)) (whole as_extent pieces)
extent-whole pieces h =
    let operations = operations-whole pieces h in
    ⊎_elim
    (λ (large : 524288 < total pieces).
    let is = limited-large (total pieces) (row_of (shapes_of pieces)) large in
    record {
      operations = ap (λ (z : Size). (extent_of z).operations) is ∙ omega arith;
      height = λ few. absurd (omega (arith, ap (λ (z : Size). (extent_of z).operations) is));
    })
    (λ (small : total pieces ≤ 524288).
    let is = limited-small (total pieces) (row_of (shapes_of pieces)) small in
    record {
      operations = ap (λ (z : Size). (extent_of z).operations) is ∙ omega arith;
      height = λ few.
          ap (λ (z : Size). (extent_of z).height) is
          ∙ (height-row (shapes_of pieces) (omega (arith, few-shapes pieces h)) (low-shapes pieces h) ∙ sym (height-whole pieces));
    })
    (cases_lt 524288 (total pieces))

pub block-agree : (e f : Extent) → Agree e f → block_size e ≡ block_size f
block-agree e f same =
    ⊎_elim
    (λ (large : 524288 < e.operations).
    limited-large e.operations _ large ∙ sym (limited-large f.operations _ (omega (arith, same.operations))))
    (λ (small : e.operations ≤ 524288). ap₂ (λ n h. limited n (one_block h)) same.operations (same.height small))
    (cases_lt 524288 e.operations)

-- the blocks around others
pub block-over : (e f : Extent) → Agree e f → block_size (as_extent.call e) ≡ block_size (as_extent.call f)
block-over e f same =
    block-agree (as_extent.call e) (as_extent.call f) (record {
      operations = ap (λ n. min n 524289) same.operations;
      height = λ few. ap (λ h. min (1 + h) 1025) (same.height (omega arith));
    })

pub block-over_two : (a b c d : Extent) → Agree a c → Agree b d → block_size (as_extent.split a b) ≡ block_size (as_extent.split c d)
block-over_two a b c d first second =
    block-agree (as_extent.split a b) (as_extent.split c d) (record {
      operations = ap₂ (λ m n. min (m + n) 524289) first.operations second.operations;
      height = λ few. ap₂ (λ h k. min (1 + max h k) 1025) (first.height (omega arith)) (second.height (omega arith));
    })
