-- How deep the stack is behind an operation, and the key of the first cell below the sixteenth.
use Rattle.facts_steps.proofs.Words
use Words.{◌≡◌, ℕ, ◌+◌, ◌-◌, ◌^◌, ◌<◌, true, false, ◌||◌, not, List, ◌∷◌, length, refl, ap, sym, ◌∙◌, ⊎_elim, arith, length-drop, felt_add, felt_sub, shift_of}
use Words.{Op, Shift, Left, Stay, Right, s, depth, is_left, is_shift, Elsewhere, off, either_or, MovesDepth, mover, keeps_stack, FilledBy}
use Rattle.facts_steps.proofs.Ordinary.{IsOrdinary, mover_is, keeps_is}
use Rattle.facts_steps.proofs.Shifts.{Behind, not_side}

module _ {op : Op} (x y before after : List ℕ) (o : IsOrdinary op) (deep : depth x ≡ 16 + length before) (shallow : depth x < 2 ^ 20) where
  left_mover : shift_of op ≡ Left → is_left (mover op x) ≡ true
  left_mover e = ap is_left (mover_is op x o) ∙ ap (is_shift Left) e

  same_depth : after ≡ before → 16 + length after ≡ depth x
  same_depth e = ap (λ (xs : List ℕ). 16 + length xs) e ∙ sym deep

  pub depth_shown : MovesDepth op x y → Behind (shift_of op) (s x 15) (s y 15) before after → depth y ≡ 16 + length after
  depth_shown m = go (shift_of op) refl
    where
      go : (shift : Shift) → shift_of op ≡ shift → Behind shift (s x 15) (s y 15) before after → depth y ≡ 16 + length after
      go Right e h =
          let k : depth y ≡ felt_add (depth x) 1 = (m.right (ap (is_shift Right) e)).0 in
          let n : length after ≡ length (s x 15 ∷ before) = ap length h in
          omega (arith, k, n, deep, shallow)
      go Stay e h = (m.same (keeps_is x o ∙ ap (λ u. not (is_shift Right u || is_shift Left u)) e)).0 ∙ sym (same_depth h)
      go Left e h =
          let n : length after ≡ length before - 1 = ap length h.0 ∙ length-drop 1 before in
          ⊎_elim (λ flat. let k : depth y ≡ 16 = (m.left_flat (left_mover e) flat).0 in omega (arith, k, n, deep, flat))
          (λ more. let k : depth y ≡ felt_sub (depth x) 1 = m.left_deep (left_mover e) more in omega (arith, k, n, deep, more, shallow))
          (either_or (depth x) 16)

  -- ---- and back

  pub depth_filled : {e : Elsewhere} → depth y ≡ 16 + length after → FilledBy op x y e → Behind (shift_of op) (s x 15) (s y 15) before after
      → MovesDepth op x y
  depth_filled next k = go (shift_of op) refl
    where
      never_left : {A : Type 0} {shift : Shift} → shift_of op ≡ shift → is_shift Left shift ≡ false → is_left (mover op x) ≡ true → A
      never_left e other is = not_side Left e other (sym (ap is_left (mover_is op x o)) ∙ is)

      moves : {A : Type 0} {shift : Shift} → shift_of op ≡ shift → is_shift Right shift || is_shift Left shift ≡ true → keeps_stack op x ≡ true → A
      moves e some is = off (sym (keeps_is x o ∙ ap (λ u. not (is_shift Right u || is_shift Left u)) e ∙ ap not some) ∙ is)

      go : (shift : Shift) → shift_of op ≡ shift → Behind shift (s x 15) (s y 15) before after → MovesDepth op x y
      go Right e h =
          let n : length after ≡ length (s x 15 ∷ before) = ap length h in
          record {
            right = λ is. (omega (arith, deep, next, n, shallow), k.key_right is);
            left_flat = never_left e refl;
            left_deep = never_left e refl;
            call = λ is. off (sym o.not_call ∙ is);
            same = moves e refl;
          }
      go Stay e h = record {
        right = not_side Right e refl;
        left_flat = never_left e refl;
        left_deep = never_left e refl;
        call = λ is. off (sym o.not_call ∙ is);
        same = λ is. (next ∙ same_depth h, k.key_same (ap (is_shift Left) e) (ap (is_shift Right) e));
      }
      go Left e h =
          let n : length after ≡ length before - 1 = ap length h.0 ∙ length-drop 1 before in
          record {
            right = not_side Right e refl;
            left_flat = λ is flat. (omega (arith, deep, next, n, flat), k.key_flat (ap (is_shift Left) e) flat);
            left_deep = λ is more. omega (arith, deep, next, n, more, shallow);
            call = λ is. off (sym o.not_call ∙ is);
            same = moves e refl;
          }
