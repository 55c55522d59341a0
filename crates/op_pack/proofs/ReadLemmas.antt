-- One digit of a reading.
use Rattle.std.proofs.Common.{◌≡◌, ℕ, suc, ◌/◌, ◌%◌, ◌<◌, List, [], ◌∷◌, Option, Some, None, refl, ap, sym, ◌∙◌, arith, ◌-◌, ◌≢◌, ◌++◌, append_assoc}
use Rattle.std.proofs.lemmas.Bool.{lt-ltb, le-ltb, eq-eqb, ne_eqb, cond-true, cond-false}
use Rattle.op_pack.specs.Digits.{after_items, go_on, pushed_on}
use Rattle.op_pack.specs.Reading.{read_on, before, plain_digit}
use Rattle.vm_ops.specs.declared.item.Item.{Item}

pub read_on-full : (positions : List ℕ) (number : ℕ) → read_on positions 0 number ≡ None
unfolding read_on
read_on-full [] number = refl
read_on-full (position ∷ later) number = refl

pub read_on-plain : (positions : List ℕ) (room number : ℕ) → number % 128 < 69
    → read_on positions (suc room) number ≡ before (plain_digit (number % 128)) (go_on positions room (number / 128))
unfolding read_on
read_on-plain [] room number h = cond-true _ _ _ (lt-ltb (number % 128) 69 h)
read_on-plain (position ∷ later) room number h = cond-true _ _ _ (lt-ltb (number % 128) 69 h)

pub read_on-push : (positions : List ℕ) (room number : ℕ) → number % 128 ≡ 69
    → read_on positions (suc room) number ≡ pushed_on positions room (number / 128)
unfolding read_on
read_on-push [] room number h = cond-false _ _ _ (le-ltb (number % 128) 69 (omega arith))
read_on-push (position ∷ later) room number h =
    cond-false _ _ _ (le-ltb (number % 128) 69 (omega arith)) ∙ cond-true _ _ _ (eq-eqb (number % 128) 69 h)

pub read_on-above : (positions : List ℕ) (room number : ℕ) → 69 < number % 128 → read_on positions (suc room) number ≡ None
unfolding read_on
read_on-above [] room number h = cond-false _ _ _ (le-ltb (number % 128) 69 (omega arith))
read_on-above (position ∷ later) room number h =
    cond-false _ _ _ (le-ltb (number % 128) 69 (omega arith)) ∙ cond-false _ _ _ (ne_eqb (number % 128) 69 (λ e. omega arith))

-- a reading with room has room for one operation and the rest
pub room-is : (positions : List ℕ) (room number : ℕ) → room ≢ 0 → read_on positions room number ≡ read_on positions (suc (room - 1)) number
room-is positions room number some = let one : room ≡ suc (room - 1) = omega arith in ap (λ m. read_on positions m number) one

pub after_items-before : (items : List Item) (item : Item) (rest : Option (List Item))
    → after_items items (before item rest) ≡ after_items (items ++ item ∷ []) rest
after_items-before items item None = refl
after_items-before items item (Some later) = ap Some (sym (append_assoc items (item ∷ []) later))

pub after_none : (rest : Option (List Item)) → after_items [] rest ≡ rest
after_none None = refl
after_none (Some later) = refl
