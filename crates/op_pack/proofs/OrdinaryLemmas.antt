-- A reading holds ordinary items, where the batch is made of elements.
use Rattle.std.proofs.Common.{◌≡◌, ◌⊎◌, inl, inr, ℕ, zero, suc, ◌/◌, ◌%◌, ◌<◌, ◌==◌, Bool, true, false, cond, List, [], ◌∷◌, take, drop, slice_index, Option, Some, None, refl, ap, ◌∙◌, arith, unwrap_or, lit<}
use Rattle.std.proofs.lemmas.Bool.{lt-ltb}
use Rattle.std.proofs.lemmas.List.Elements.{All-cons, All-head, All-nil, All-tail}
use Rattle.std.specs.List.{All}
use Rattle.op_pack.proofs.ReadLemmas.{read_on-full, read_on-plain, read_on-push, read_on-above}
use Rattle.op_pack.specs.Digits.{next_group, pushed_on}
use Rattle.op_pack.specs.Reading.{IsBatch, positions_in_use, plain_digit, before, read_on, reading}
use Rattle.vm_field.proofs.Elements.{elements-drop, elements-take}
use Rattle.vm_field.specs.Field.{prime, AreElements}
use Rattle.vm_ops.proofs.CodeLemmas.{code_of-op_at, ordinary-below}
use Rattle.vm_ops.specs.Codes.{code_of, op_at}
use Rattle.vm_ops.specs.declared.item.Item.{Item}
use Rattle.vm_ops.specs.declared.op.Op.{Op}
use Rattle.vm_ops.specs.declared.op.Op.TheVariants.{Noop}
use Rattle.vm_ops.specs.Items.{plain_item, push_item, IsOrdinaryItem}

plain-ordinary : (op : Op) → code_of op < 69 → IsOrdinaryItem (plain_item op)
plain-ordinary op low = record {
  ordinary = ordinary-below op ∙ lt-ltb (code_of op) 70 (omega arith);
  immediate = λ e. (let push : code_of op ≡ 69 = ap code_of e in omega arith);
}

pub plain_digit-ordinary : (digit : ℕ) → digit < 69 → IsOrdinaryItem (plain_digit digit)
plain_digit-ordinary digit low = go (op_at digit) refl
  where
    go : (o : Option Op) → op_at digit ≡ o → IsOrdinaryItem (plain_item (unwrap_or o Noop))
    go None e = plain-ordinary Noop (lit< tt)
    go (Some op) e = plain-ordinary op (let same = code_of-op_at digit op e in omega arith)

pub push_item-ordinary : (value : ℕ) → value < prime → IsOrdinaryItem (push_item value)
push_item-ordinary value below = record { ordinary = refl; immediate = (refl, below) }

-- each reading that there is holds ordinary items
abbrev AreOrdinary : Option (List Item) → Type 0
AreOrdinary o = (items : List Item) → o ≡ Some items → All IsOrdinaryItem items

ordinary-none : AreOrdinary None
ordinary-none items e = cc

ordinary-nil : AreOrdinary (Some [])
ordinary-nil items e = let none : [] ≡ items = cc in rw (← none) (All-nil IsOrdinaryItem)

ordinary-before : (item : Item) (o : Option (List Item)) → IsOrdinaryItem item → AreOrdinary o → AreOrdinary (before item o)
ordinary-before item None h later items e = cc
ordinary-before item (Some rest) h later items e =
    let whole : item ∷ rest ≡ items = cc in rw (← whole) (All-cons IsOrdinaryItem item rest h (later rest refl))

ordinary-cond : (b : Bool) (o p : Option (List Item)) → AreOrdinary o → AreOrdinary p → AreOrdinary (cond b o p)
ordinary-cond true o p h k = h
ordinary-cond false o p h k = k

-- by what follows an operation, and a PUSH
ordinary-room : (positions : List ℕ) → AreOrdinary (next_group positions) → ((room number : ℕ) → AreOrdinary (pushed_on positions room number))
    → (room number : ℕ) → AreOrdinary (read_on positions room number)
ordinary-room positions group pushed zero number = rw read_on-full ordinary-none
ordinary-room positions group pushed (suc room) number = elim (compared (number % 128) 69) [
  | inl low ↦
      rw (read_on-plain positions room number low) (ordinary-before _ _ (plain_digit-ordinary _ low)
      (ordinary-cond (number / 128 == 0) _ _ group (ordinary-room positions group pushed room (number / 128))))
  | inr (inl push) ↦ rw (read_on-push positions room number push) (pushed room (number / 128))
  | inr (inr high) ↦ rw (read_on-above positions room number high) ordinary-none
]
  where
    compared : (a b : ℕ) → (a < b) ⊎ ((a ≡ b) ⊎ (b < a))
    compared a b = grind arith

ordinary-read_on : (positions : List ℕ) → AreElements positions → (room number : ℕ) → AreOrdinary (read_on positions room number)
ordinary-read_on [] below = ordinary-room [] ordinary-nil (λ room number. ordinary-none)
ordinary-read_on (position ∷ later) below =
    let behind = ordinary-read_on later (All-tail (λ e. e < prime) position later below) in
    ordinary-room (position ∷ later) (behind 9 position) (λ room number.
    ordinary-before (push_item position) _ (push_item-ordinary position (All-head (λ e. e < prime) position later below)) (behind room number))

pub ordinary_reading : (batch : List ℕ) (items : List Item) → IsBatch batch → reading batch ≡ Some items → All IsOrdinaryItem items
unfolding reading
ordinary_reading batch items h e =
    ordinary-read_on (drop 1 (take (positions_in_use batch) batch))
    (elements-drop 1 (take (positions_in_use batch) batch) (elements-take (positions_in_use batch) batch h.below)) 9 (slice_index batch 0) items e
