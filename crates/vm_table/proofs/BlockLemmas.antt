-- Rows in blocks.
use Rattle.std.proofs.Common.{◌≡◌, ◌≢◌, ℕ, ◌+◌, ◌-◌, ◌*◌, ◌/◌, ◌%◌, ◌<◌, ◌≤◌, min, List, [], ◌∷◌, ◌++◌, length, get_or, take, drop, map, refl, sym, ap, ap₂, subst, ◌∙◌, arith, inl, inr, lit<, length-take, length-drop}
use Rattle.std.proofs.Math.ListN.{set}
use Rattle.std.proofs.lemmas.Bool.{cases_lt, cases_Bool, eqb-true, eqb-false}
use Rattle.std.proofs.Common.{eqb}
use Rattle.std.proofs.lemmas.List.{length-map, get_or-set_same, get_or-set_other, get_or_past, get_or-map, get_or-take, get_or-drop, ext_get_or, length-set}
use Rattle.std.proofs.lemmas.List.FromFn.{length-map-range_with_len, get_or-map-range_with_len, map-range_with_len_more, fill_by_all}
use Rattle.vm_field.specs.Field.{prime}
use Rattle.vm_table.specs.Blocks.{block_row, row_in, rows_in, blocks_for}
use Rattle.vm_table.specs.Layout.{IsHeld}

-- a row of a block has a cell of each column
pub row_length : (w : ℕ) (block : List (List ℕ)) (p : ℕ) → length (block_row w block p) ≡ w
unfolding block_row
row_length w block p = length-map-range_with_len (λ c. get_or (get_or block c []) p 0) 0 w

pub row_cell : (w : ℕ) (block : List (List ℕ)) (p c : ℕ) → c < w → get_or (block_row w block p) c 0 ≡ get_or (get_or block c []) p 0
unfolding block_row
row_cell w block p c h = get_or-map-range_with_len (λ c. get_or (get_or block c []) p 0) 0 w c c 0 h (omega arith)

-- a list with these cells is the row
pub row_by_cells : (w : ℕ) (block : List (List ℕ)) (p : ℕ) (xs : List ℕ) → length xs ≡ w
    → ((c : ℕ) → c < w → get_or xs c 0 ≡ get_or (get_or block c []) p 0) → xs ≡ block_row w block p
unfolding block_row
row_by_cells w block p xs wide cells = fill_by_all (λ c. get_or (get_or block c []) p 0) xs w 0 wide cells

pub same_row : (w : ℕ) (a b : List (List ℕ)) (p q : ℕ) → ((c : ℕ) → c < w → get_or (get_or a c []) p 0 ≡ get_or (get_or b c []) q 0)
    → block_row w a p ≡ block_row w b q
same_row w a b p q cells = row_by_cells w b q (block_row w a p) (row_length w a p) (λ c h. row_cell w a p c h ∙ cells c h)

pub rows_length : (w : ℕ) (blocks : List (List (List ℕ))) (n : ℕ) → length (rows_in w blocks n) ≡ n
unfolding rows_in
rows_length w blocks n = length-map-range_with_len (row_in w blocks) 0 n

pub rows_at : (w : ℕ) (blocks : List (List (List ℕ))) (n i : ℕ) → i < n → get_or (rows_in w blocks n) i [] ≡ row_in w blocks i
unfolding rows_in
rows_at w blocks n i h = get_or-map-range_with_len (row_in w blocks) 0 n i i [] h (omega arith)

-- a list of these rows is the table's
pub rows_by_row : (w : ℕ) (blocks : List (List (List ℕ))) (n : ℕ) (rows : List (List ℕ)) → length rows ≡ n
    → ((i : ℕ) → i < n → get_or rows i [] ≡ row_in w blocks i) → rows ≡ rows_in w blocks n
unfolding rows_in
rows_by_row w blocks n rows long each = fill_by_all (row_in w blocks) rows n [] long each

pub rows_none : (w : ℕ) (blocks : List (List (List ℕ))) → rows_in w blocks 0 ≡ []
unfolding rows_in
rows_none w blocks = refl

pub rows_more : (w : ℕ) (blocks : List (List (List ℕ))) (n : ℕ) → rows_in w blocks (n + 1) ≡ rows_in w blocks n ++ row_in w blocks n ∷ []
unfolding rows_in
rows_more w blocks n = map-range_with_len_more (row_in w blocks) 0 n n (omega arith)

-- A row more: the blocks that were there are as before, but for the row's place in the last of them.
pub rows_pushed : (w n : ℕ) (old mid : List (List (List ℕ))) (block : List (List ℕ)) (row : List ℕ) → length old ≡ blocks_for n → length mid ≡ blocks_for (n + 1)
    → ((b : ℕ) → b < length old → get_or mid b [] ≡ get_or old b [])
    → block_row w block (n % 256) ≡ row → ((p : ℕ) → p ≢ n % 256 → block_row w block p ≡ block_row w (get_or mid (n / 256) []) p)
    → rows_in w (set mid (n / 256) block) (n + 1) ≡ rows_in w old n ++ row ∷ []
rows_pushed w n old mid block row full room same here others =
    let new = set mid (n / 256) block in
    let inside : n / 256 < length mid = omega (arith, room) in
    let last : row_in w new n ≡ row = ap (λ b. block_row w b (n % 256)) (get_or-set_same mid (n / 256) block [] inside) ∙ here in
    let before : rows_in w new n ≡ rows_in w old n = rows_by_row w old n (rows_in w new n) (rows_length w new n) (λ i h. rows_at w new n i h ∙ elim (cases_Bool (eqb (i / 256) (n / 256))) [
      | inl equal ↦
          let b : i / 256 ≡ n / 256 = eqb-true (i / 256) (n / 256) equal in
          let p : i % 256 ≢ n % 256 = λ e. absurd (omega (arith, b, e, h)) in
          let low : i / 256 < length old = omega (arith, full, h) in
          ap (λ k. block_row w (get_or new k []) (i % 256)) b ∙ ap (λ k. block_row w k (i % 256)) (get_or-set_same mid (n / 256) block [] inside)
          ∙ others (i % 256) p ∙ ap (λ k. block_row w (get_or mid k []) (i % 256)) (sym b) ∙ ap (λ k. block_row w k (i % 256)) (same (i / 256) low)
      | inr other ↦
          let b : i / 256 ≢ n / 256 = eqb-false (i / 256) (n / 256) other in
          let low : i / 256 < length old = omega (arith, full, h) in
          ap (λ k. block_row w k (i % 256)) (get_or-set_other mid (n / 256) (i / 256) block [] b ∙ same (i / 256) low)
    ]) in
    rows_more w new n ∙ ap₂ (λ rows r. rows ++ r ∷ []) before last

-- a block's rows are those of a column
pub column_is : (w n b c count : ℕ) (blocks : List (List (List ℕ))) (cells : List ℕ) → b < blocks_for n → c < w → count ≡ min (n - 256 * b) 256
    → length (get_or (get_or blocks b []) c []) ≡ 264 → cells ≡ take count (get_or (get_or blocks b []) c [])
    → cells ≡ map (λ row. get_or row c 0) (take 256 (drop (256 * b) (rows_in w blocks n)))
column_is w n b c count blocks cells within h much long is =
    let rows = rows_in w blocks n in
    let column = get_or (get_or blocks b []) c [] in
    let part = take 256 (drop (256 * b) rows) in
    let size : length part ≡ count = omega (arith, length-take 256 (drop (256 * b) rows), length-drop (256 * b) rows, rows_length w blocks n, much) in
    let size' : length (take count column) ≡ count = omega (arith, length-take count column, long, much) in
    is ∙ ext_get_or 0 (take count column) (map (λ row. get_or row c 0) part) (size' ∙ sym size ∙ sym (length-map part (λ row. get_or row c 0)))
    (λ k low.
    let few : k < count = omega (arith, low, size') in
    let place : k < 256 = omega (arith, few, much) in
    let number : 256 * b + k < n = omega (arith, few, much) in
    let at : get_or part k [] ≡ row_in w blocks (256 * b + k) =
    get_or-take 256 (drop (256 * b) rows) k [] place ∙ get_or-drop (256 * b) rows k [] ∙ rows_at w blocks n (256 * b + k) number in
    let which : (256 * b + k) / 256 ≡ b = omega (arith, place) in
    let where_it : (256 * b + k) % 256 ≡ k = omega (arith, place) in
    get_or-take count column k 0 few
    ∙ sym (get_or-map (λ row. get_or row c 0) part k [] 0 (omega (arith, size, few)) ∙ ap (λ row. get_or row c 0) at
    ∙ row_cell w (get_or blocks ((256 * b + k) / 256) []) ((256 * b + k) % 256) c h
    ∙ ap₂ (λ x y. get_or (get_or (get_or blocks x []) c []) y 0) which where_it))

-- a cell that is changed
pub rows_set : (w n i c v : ℕ) (blocks : List (List (List ℕ))) (block : List (List ℕ)) → length blocks ≡ blocks_for n → i < n → c < w
    → get_or (get_or block c []) (i % 256) 0 ≡ v
    → ((p : ℕ) → p ≢ i % 256 → get_or (get_or block c []) p 0 ≡ get_or (get_or (get_or blocks (i / 256) []) c []) p 0)
    → ((k : ℕ) → k ≢ c → get_or block k [] ≡ get_or (get_or blocks (i / 256) []) k [])
    → rows_in w (set blocks (i / 256) block) n ≡ set (rows_in w blocks n) i (set (get_or (rows_in w blocks n) i []) c v)
rows_set w n i c v blocks block full within h cell places columns =
    let rows = rows_in w blocks n in
    let new = set blocks (i / 256) block in
    let row = get_or rows i [] in
    let inside : i / 256 < length blocks = omega (arith, full, within) in
    let wide : length row ≡ w = ap length (rows_at w blocks n i within) ∙ row_length w (get_or blocks (i / 256) []) (i % 256) in
    sym (rows_by_row w new n (set rows i (set row c v)) (length-set rows i (set row c v) ∙ rows_length w blocks n) (λ j low. elim (cases_Bool (eqb j i)) [
      | inl equal ↦
          let e : j ≡ i = eqb-true j i equal in
          ap (λ k. get_or (set rows i (set row c v)) k []) e ∙ get_or-set_same rows i (set row c v) [] (omega (arith, within, rows_length w blocks n))
          ∙ row_by_cells w block (i % 256) (set row c v) (length-set row c v ∙ wide) (λ k few. elim (cases_Bool (eqb k c)) [
            | inl same ↦
                let f : k ≡ c = eqb-true k c same in
                ap (λ x. get_or (set row c v) x 0) f ∙ get_or-set_same row c v 0 (omega (arith, h, wide)) ∙ sym cell ∙ ap (λ x. get_or (get_or block x []) (i % 256) 0) (sym f)
            | inr other ↦
                let f : k ≢ c = eqb-false k c other in
                get_or-set_other row c k v 0 f ∙ ap (λ r. get_or r k 0) (rows_at w blocks n i within) ∙ row_cell w (get_or blocks (i / 256) []) (i % 256) k few
                ∙ ap (λ x. get_or x (i % 256) 0) (sym (columns k f))
          ])
          ∙ ap (λ x. block_row w x (i % 256)) (sym (get_or-set_same blocks (i / 256) block [] inside))
          ∙ ap (λ k. row_in w new k) (sym e)
      | inr other ↦
          let f : j ≢ i = eqb-false j i other in
          get_or-set_other rows i j (set row c v) [] f ∙ rows_at w blocks n j low
          ∙ elim (cases_Bool (eqb (j / 256) (i / 256))) [
            | inl same ↦
                let e : j / 256 ≡ i / 256 = eqb-true (j / 256) (i / 256) same in
                let p : j % 256 ≢ i % 256 = λ g. absurd (f (omega (arith, e, g))) in
                ap (λ x. block_row w (get_or blocks x []) (j % 256)) e
                ∙ same_row w (get_or blocks (i / 256) []) block (j % 256) (j % 256) (λ k few. elim (cases_Bool (eqb k c)) [
                  | inl here ↦
                      let at : k ≡ c = eqb-true k c here in
                      ap (λ x. get_or (get_or (get_or blocks (i / 256) []) x []) (j % 256) 0) at ∙ sym (places (j % 256) p) ∙ ap (λ x. get_or (get_or block x []) (j % 256) 0) (sym at)
                  | inr there ↦ ap (λ x. get_or x (j % 256) 0) (sym (columns k (eqb-false k c there)))
                ])
                ∙ ap (λ x. block_row w x (j % 256)) (sym (get_or-set_same blocks (i / 256) block [] inside))
                ∙ ap (λ x. block_row w (get_or new x []) (j % 256)) (sym e)
            | inr apart ↦ ap (λ x. block_row w x (j % 256)) (sym (get_or-set_other blocks (i / 256) (j / 256) block [] (eqb-false (j / 256) (i / 256) apart)))
          ]
    ]))

-- as many rows as before, and one more
pub rows_of_push : (w n : ℕ) (old : List (List (List ℕ))) (rows : List (List ℕ)) → rows_in w old n ≡ rows → n ≡ length rows
rows_of_push w n old rows is = sym (rows_length w old n) ∙ ap length is

-- a changed cell keeps a table's shape
pub held_changed : (w : ℕ) (rows : List (List ℕ)) (i c v : ℕ) → IsHeld w rows → i < length rows → v < prime → IsHeld w (set rows i (set (get_or rows i []) c v))
held_changed w rows i c v held within low =
    let row = set (get_or rows i []) c v in record {
      shape = record {
        wide = λ j h. elim (cases_Bool (eqb j i)) [
          | inl equal ↦
              let e : j ≡ i = eqb-true j i equal in
              ap (λ k. length (get_or (set rows i row) k [])) e ∙ ap length (get_or-set_same rows i row [] within)
              ∙ length-set (get_or rows i []) c v ∙ held.shape.wide i within
          | inr other ↦
              ap length (get_or-set_other rows i j row [] (eqb-false j i other)) ∙ held.shape.wide j (subst (λ n. j < n) (length-set rows i row) h)
        ];
        below = λ j k. elim (cases_Bool (eqb j i)) [
          | inl equal ↦
              let e : j ≡ i = eqb-true j i equal in
              subst (λ x. get_or x k 0 < prime) (sym (ap (λ n. get_or (set rows i row) n []) e ∙ get_or-set_same rows i row [] within)) (elim (cases_Bool (eqb k c)) [
                | inl here ↦ elim (cases_lt c (length (get_or rows i []))) [
                  | inl inside ↦
                      subst (λ x. x < prime) (sym (ap (λ n. get_or row n 0) (eqb-true k c here) ∙ get_or-set_same (get_or rows i []) c v 0 inside)) low
                  | inr past ↦
                      let out : length row ≤ k = omega (arith, past, length-set (get_or rows i []) c v, eqb-true k c here) in
                      subst (λ x. x < prime) (sym (get_or_past row k 0 out)) (lit< tt)
                ]
                | inr there ↦ subst (λ x. x < prime) (sym (get_or-set_other (get_or rows i []) c k v 0 (eqb-false k c there))) (held.shape.below i k)
              ])
          | inr other ↦ subst (λ x. get_or x k 0 < prime) (sym (get_or-set_other rows i j row [] (eqb-false j i other))) (held.shape.below j k)
        ];
      };
      few = λ some. held.few (omega (arith, within));
    }

pub held_none : (w : ℕ) (blocks : List (List (List ℕ))) → IsHeld w (rows_in w blocks 0)
held_none w blocks = subst (IsHeld w) (sym (rows_none w blocks)) (record {
  shape = record { wide = λ i h. absurd (omega (arith, h)); below = λ i k. lit< tt };
  few = λ some. absurd (omega (arith, some));
})
