-- How the stack of a row and that of the row behind it hang together: the cells that the operation leaves are on top, and the shift
-- brings all others.
use Rattle.facts_steps.proofs.Words
use Words.{◌≡◌, ◌≢◌, ◌⊎◌, inl, inr, ℕ, ◌+◌, ◌-◌, ◌<◌, ◌≤◌, Bool, true, false, ◌&&◌, eqb, List, [], ◌∷◌, ◌++◌, take, drop, length, slice_index, refl, ap}
use Words.{ap₂, sym, subst, ◌∙◌, arith, lit<, same_number_lists, length-take-le, get_or-take, take-append-drop, nil_from_length, leaves_of, takes_of}
use Words.{shift_of, IsSeenBy, stack_after, Seen, Op, Shift, Left, Stay, Right, s, depth, is_left, is_shift, cells, off, never, either_or}
use Words.{ShiftsCells, ShiftsBelow}
use Rattle.std.proofs.lemmas.Bool.{cases_lt, eqb-false, eqb-true}
use Rattle.vm_ops.proofs.FrameLemmas.{drop-stack_after, index-below, index-left}
use Rattle.vm_ops.proofs.MoveLemmas.{ByOne, leaves_of-below, takes_of-below, shift_of-by_one}
use Rattle.vm_ops.proofs.Sizing.{length-stack_after}
use Rattle.facts_steps.proofs.Seeing.{length_cells, drop_cells, drop_most, drop_more_cells, top_index, below_index, cells_index}
use Rattle.facts_steps.proofs.Tops.{Leaves}

-- ---- the cells below the sixteenth

-- by the shift: what stands below, and which cell of it is the sixteenth cell behind a left shift
abbrev pub Behind : Shift → ℕ → ℕ → List ℕ → List ℕ → Type 0
Behind Right top fresh before after = after ≡ top ∷ before
Behind Stay top fresh before after = after ≡ before
Behind Left top fresh before after = (after ≡ drop 1 before) × (fresh ≡ slice_index before 0)

-- a shift is no other one
pub not_side : {A : Type 0} {this that : Shift} (side : Shift) → this ≡ that → is_shift side that ≡ false → is_shift side this ≡ true → A
not_side side e other is = off (sym (ap (is_shift side) e ∙ other) ∙ is)

pub none_below : {deep : ℕ} {before : List ℕ} → deep ≡ 16 + length before → deep ≡ 16 → before ≡ []
none_below {before = before} e flat = nil_from_length before (omega (arith, e, flat))

pub front_of : (xs : List ℕ) → length xs ≢ 0 → xs ≡ slice_index xs 0 ∷ drop 1 xs
front_of [] some = absurd (some refl)
front_of (x ∷ xs) some = refl

module _ {op : Op} {x y before after : List ℕ} (deep : depth x ≡ 16 + length before) where
  pub behind_from : ShiftsCells op x y → ShiftsBelow op x y before after → Behind (shift_of op) (s x 15) (s y 15) before after
  behind_from moves below = go (shift_of op) refl
    where
      left_behind : is_left op ≡ true → (depth x ≡ 16) ⊎ (depth x ≢ 16) → (after ≡ drop 1 before) × (s y 15 ≡ slice_index before 0)
      left_behind left (inl at) =
          let none : before ≡ [] = none_below deep at in
          (below.left_flat left at ∙ none ∙ ap (drop 1) (sym none), moves.last left at ∙ ap (λ (xs : List ℕ). slice_index xs 0) (sym none))
      left_behind left (inr more) =
          let front = below.left_deep left more in (sym (ap (drop 1) front), sym (ap (λ (xs : List ℕ). slice_index xs 0) front))

      go : (shift : Shift) → shift_of op ≡ shift → Behind shift (s x 15) (s y 15) before after
      go Right e = below.right (ap (is_shift Right) e)
      go Stay e = below.same (ap (is_shift Left) e) (ap (is_shift Right) e)
      go Left e = left_behind (ap (is_shift Left) e) (either_or (depth x) 16)

  pub below_from : Behind (shift_of op) (s x 15) (s y 15) before after → ShiftsBelow op x y before after
  below_from = go (shift_of op) refl
    where
      go : (shift : Shift) → shift_of op ≡ shift → Behind shift (s x 15) (s y 15) before after → ShiftsBelow op x y before after
      go Right e h = record {
        right = λ is. h;
        left_flat = not_side Left e refl;
        left_deep = not_side Left e refl;
        same = λ is other. never (sym (ap (is_shift Right) e) ∙ other);
      }
      go Stay e h = record {
        right = not_side Right e refl;
        left_flat = not_side Left e refl;
        left_deep = not_side Left e refl;
        same = λ is other. h;
      }
      go Left e h = record {
        right = not_side Right e refl;
        left_flat = λ is at. (let none : before ≡ [] = none_below deep at in h.0 ∙ ap (drop 1) none ∙ sym none);
        left_deep = λ is at.
            front_of before (λ z. at (omega (arith, deep, z))) ∙ ap₂ (λ (c : ℕ) (cs : List ℕ). c ∷ cs) (sym h.1) (sym h.0);
        same = λ is other. never (sym (ap (is_shift Left) e) ∙ is);
      }

-- ---- the stack behind an operation

abbrev got : Op → Seen → List ℕ → List ℕ → List ℕ
got op sn x before = stack_after op sn (cells x ++ before)

module _ {op : Op} {sn : Seen} (h : IsSeenBy op sn) (x before : List ℕ) where
  -- the cells from the left ones on are those from the taken ones on
  got_from : (j n : ℕ) → leaves_of op ≤ j → takes_of op + (j - leaves_of op) ≡ n → slice_index (got op sn x before) j ≡ slice_index (cells x ++ before) n
  got_from j n past place = index-below op sn (cells x ++ before) j h past ∙ ap (slice_index (cells x ++ before)) place

  -- a cell that is not left, but the last one at a left shift
  got_cell : (j : ℕ) → leaves_of op ≤ j → j < 16 → is_left op && eqb j 15 ≡ false → slice_index (got op sn x before) j ≡ s x (j + takes_of op - leaves_of op)
  got_cell j past few inner =
      got_from j (j + takes_of op - leaves_of op) past (omega (arith, past))
      ∙ top_index x before (j + takes_of op - leaves_of op) (go (shift_of op) refl (shift_of-by_one op))
    where
      go : (shift : Shift) → shift_of op ≡ shift → ByOne shift (takes_of op) (leaves_of op) → j + takes_of op - leaves_of op < 16
      go Right e by = omega (arith, by, few)
      go Stay e by = omega (arith, by, few)
      go Left e by =
          let other : j ≢ 15 = eqb-false j 15 (ap (λ side. is_shift Left side && eqb j 15) (sym e) ∙ inner) in omega (arith, by, few, other)

  -- and that one
  got_last : shift_of op ≡ Left → slice_index (got op sn x before) 15 ≡ slice_index before 0
  got_last e =
      let by : ByOne Left (takes_of op) (leaves_of op) = subst (λ (shift : Shift). ByOne shift (takes_of op) (leaves_of op)) e (shift_of-by_one op) in
      let most : takes_of op ≤ 16 = takes_of-below op in
      let past : leaves_of op ≤ 15 = omega (arith, by, most) in
      got_from 15 16 past (omega (arith, by, past)) ∙ below_index x before

  -- the cells below
  got_below : {fresh : ℕ} → slice_index (got op sn x before) 15 ≡ fresh → Behind (shift_of op) (s x 15) fresh before (drop 16 (got op sn x before))
  got_below {fresh = fresh} is = go (shift_of op) (shift_of-by_one op) got_last
    where
      from : (n : ℕ) → takes_of op + (16 - leaves_of op) ≡ n → drop 16 (got op sn x before) ≡ drop n (cells x ++ before)
      from n at = drop-stack_after op sn (cells x ++ before) h ∙ ap (λ k. drop k (cells x ++ before)) at

      most : takes_of op ≤ 16
      most = takes_of-below op

      few : leaves_of op ≤ 16
      few = leaves_of-below op

      go : (shift : Shift) → ByOne shift (takes_of op) (leaves_of op) → (shift ≡ Left → slice_index (got op sn x before) 15 ≡ slice_index before 0)
          → Behind shift (s x 15) fresh before (drop 16 (got op sn x before))
      go Right by last = from 15 (omega (arith, by, most, few)) ∙ drop_most x before
      go Stay by last = from 16 (omega (arith, by, most, few)) ∙ drop_cells x before
      go Left by last = (from 17 (omega (arith, by, most, few)) ∙ drop_more_cells x before, sym is ∙ last refl)

-- ---- from the facts of rows to the stack

-- two lists with the same sixteen cells and the same cells below
joined : (list y after : List ℕ) → 16 ≤ length list → ((j : ℕ) → j < 16 → slice_index list j ≡ s y j) → drop 16 list ≡ after → list ≡ cells y ++ after
joined list y after deep same rest =
    let count : length (take 16 list) ≡ 16 = length-take-le 16 list deep in
    let tops : take 16 list ≡ cells y = same_number_lists (take 16 list) (cells y) (count ∙ sym (length_cells y))
    (λ k few. let less : k < 16 = omega (arith, few, count) in get_or-take 16 list k 0 less ∙ same k less ∙ sym (cells_index y k less)) in
    sym (take-append-drop 16 list) ∙ ap₂ (λ (u v : List ℕ). u ++ v) tops rest

module _ {op : Op} {sn : Seen} (h : IsSeenBy op sn) {x y : List ℕ} (before after : List ℕ) where
  pub stack_is : ShiftsCells op x y → Behind (shift_of op) (s x 15) (s y 15) before after → Leaves op sn y
      → stack_after op sn (cells x ++ before) ≡ cells y ++ after
  stack_is moves behind tops =
      joined (got op sn x before) y after (let count = length-stack_after op sn (cells x ++ before) h in omega (arith, count))
      (λ j few. cell j few (cases_lt j (leaves_of op))) (same_below (shift_of op) (got_below h x before refl) behind)
    where
      same_below : (shift : Shift) → Behind shift (s x 15) (slice_index (got op sn x before) 15) before (drop 16 (got op sn x before))
          → Behind shift (s x 15) (s y 15) before after → drop 16 (got op sn x before) ≡ after
      same_below Right g b = g ∙ sym b
      same_below Stay g b = g ∙ sym b
      same_below Left g b = g.0 ∙ sym b.0

      last_cell : (shift : Shift) → shift_of op ≡ shift → Behind shift (s x 15) (s y 15) before after → (j : ℕ) → is_shift Left shift && eqb j 15 ≡ true
          → slice_index (got op sn x before) j ≡ s y j
      last_cell Right e b j t = off t
      last_cell Stay e b j t = off t
      last_cell Left e b j t =
          let at : j ≡ 15 = eqb-true j 15 t in ap (slice_index (got op sn x before)) at ∙ got_last h x before e ∙ sym b.1 ∙ ap (s y) (sym at)

      inner : (j : ℕ) → j < 16 → leaves_of op ≤ j → (t : Bool) → is_left op && eqb j 15 ≡ t → slice_index (got op sn x before) j ≡ s y j
      inner j few past true e = last_cell (shift_of op) refl behind j e
      inner j few past false e = got_cell h x before j past few e ∙ sym (moves.brings j past few e)

      cell : (j : ℕ) → j < 16 → (j < leaves_of op) ⊎ (leaves_of op ≤ j) → slice_index (got op sn x before) j ≡ s y j
      cell j few (inl left) = index-left op sn (cells x ++ before) j h left ∙ sym (tops j left)
      cell j few (inr past) = inner j few past (is_left op && eqb j 15) refl

-- ---- and back

pub record Moved (op : Op) (sn : Seen) (x y before after : List ℕ) : Type 0 where
  pub tops : Leaves op sn y
  pub brings : (j : ℕ) → leaves_of op ≤ j → j < 16 → is_left op && eqb j 15 ≡ false → s y j ≡ s x (j + takes_of op - leaves_of op)
  pub behind : Behind (shift_of op) (s x 15) (s y 15) before after

pub stack_moved : {op : Op} {sn : Seen} {x y before after : List ℕ} → IsSeenBy op sn → stack_after op sn (cells x ++ before) ≡ cells y ++ after
    → Moved op sn x y before after
stack_moved {op = op} {sn = sn} {x = x} {y = y} {before = before} {after = after} h e = record {
  tops = λ j left. (let most : leaves_of op ≤ 16 = leaves_of-below op in
      sym (shown j (omega (arith, left, most))) ∙ index-left op sn (cells x ++ before) j h left);
  brings = λ j past few inner. sym (shown j few) ∙ got_cell h x before j past few inner;
  behind = subst (Behind (shift_of op) (s x 15) (s y 15) before) (ap (drop 16) e ∙ drop_cells y after) (got_below h x before (shown 15 (lit< tt)));
}
  where
    shown : (j : ℕ) → j < 16 → slice_index (got op sn x before) j ≡ s y j
    shown j few = ap (λ (u : List ℕ). slice_index u j) e ∙ top_index y after j few

pub shifts_from : {op : Op} {sn : Seen} {x y before after : List ℕ} → depth x ≡ 16 + length before → Moved op sn x y before after → ShiftsCells op x y
shifts_from {op = op} {x = x} {y = y} {before = before} {after = after} deep m = record { brings = m.brings; last = go (shift_of op) refl m.behind }
  where
    go : (shift : Shift) → shift_of op ≡ shift → Behind shift (s x 15) (s y 15) before after → is_left op ≡ true → depth x ≡ 16 → s y 15 ≡ 0
    go Right e h = not_side Left e refl
    go Stay e h = not_side Left e refl
    go Left e h = λ left flat. h.1 ∙ ap (λ (xs : List ℕ). slice_index xs 0) (none_below deep flat)
