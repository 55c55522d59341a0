-- What is read from a row on, by the digit that it takes and by what is read from the row behind it: positions, room, number.
use Rattle.sound_blocks.proofs.Words.{◌≡◌, ◌≢◌, ℕ, suc, ◌+◌, ◌*◌, ◌/◌, ◌%◌, ◌^◌, ◌<◌, ◌≤◌, lit<, List, [], ◌∷◌, Some, ap, ap₂, ◌∙◌, arith, eqb, ne_eqb}
use Rattle.sound_blocks.proofs.Words.{cond-false, ◌⊞◌, ◌⊠◌, code_of, plain_item, push_item, Item, Op}
use Rattle.op_pack.specs.Digits.{go_on, next_group}
use Rattle.op_pack.specs.Reading.{before, plain_digit, read_on}
use Rattle.op_pack.proofs.ReadLemmas.{read_on-plain, read_on-push}
use Rattle.op_pack.proofs.RoundTripLemmas.{plain_digit-code_of}
use Rattle.sound_blocks.proofs.DigitSteps.{unwrapped, one_more, one_digit}

low_digit : (number code rest : ℕ) → code < 128 → number ≡ code + 128 * rest → number % 128 ≡ code
low_digit number code rest h e = omega arith

high_digits : (number code rest : ℕ) → code < 128 → number ≡ code + 128 * rest → number / 128 ≡ rest
high_digits number code rest h e = omega arith

-- an operation that is no PUSH, in front of what is read behind it
plain_step : (positions : List ℕ) (room number rest : ℕ) (op : Op) → code_of op < 69 → number ≡ code_of op + 128 * rest
    → read_on positions (suc room) number ≡ before (plain_item op) (go_on positions room rest)
plain_step positions room number rest op few e =
    read_on-plain positions room number (omega (arith, low, few))
    ∙ ap₂ (λ (i : Item) (m : ℕ). before i (go_on positions room m)) (ap plain_digit low ∙ plain_digit-code_of op)
    (high_digits number (code_of op) rest (omega (arith, few)) e)
  where
    low : number % 128 ≡ code_of op
    low = low_digit number (code_of op) rest (omega (arith, few)) e

-- these items are read, and the number has no more digits than there is room for
pub record Found (positions : List ℕ) (room number : ℕ) (items : List Item) : Type 0 where
  pub reads : read_on positions room number ≡ Some items
  pub fits : number < 128 ^ room

-- something is left of the group
pub found-stays : (op : Op) {positions : List ℕ} {room number rest : ℕ} {items : List Item} → room ≤ 8 → code_of op < 69
    → number ≡ code_of op ⊞ 128 ⊠ rest → number ≢ code_of op → Found positions room rest items
    → Found positions (suc room) number (plain_item op ∷ items)
found-stays op {positions} {room} {number} {rest} few plain is apart f =
    let low : code_of op < 128 = omega (arith, plain) in
    let whole = unwrapped number (code_of op) rest room is low few f.fits in
    record {
      reads = plain_step positions room number rest op plain whole
          ∙ ap (before (plain_item op)) (cond-false (eqb rest 0) (next_group positions) (read_on positions room rest)
          (ne_eqb rest 0 (λ none. apart (let same : number ≡ code_of op = omega (arith, whole, none) in same))) ∙ f.reads);
      fits = one_more number (code_of op) rest room whole low f.fits;
    }

-- a PUSH takes a position
pub found-pushes : {position : ℕ} {positions : List ℕ} {room number rest : ℕ} {items : List Item} → room ≤ 8 → number ≡ 69 ⊞ 128 ⊠ rest
    → Found positions room rest items → Found (position ∷ positions) (suc room) number (push_item position ∷ items)
found-pushes {position} {positions} {room} {number} {rest} few is f =
    let whole = unwrapped number 69 rest room is (lit< tt) few f.fits in
    record {
      reads = read_on-push (position ∷ positions) room number (let e : number % 128 ≡ 69 = omega (arith, whole) in e)
          ∙ ap (λ m. before (push_item position) (read_on positions room m)) (let e : number / 128 ≡ rest = omega (arith, whole) in e)
          ∙ ap (before (push_item position)) f.reads;
      fits = one_more number 69 rest room whole (lit< tt) f.fits;
    }

-- nothing is left of it, and a position is left, or none
pub found-opens : (op : Op) {position : ℕ} {positions : List ℕ} {room number : ℕ} {items : List Item} → code_of op < 69 → number ≡ code_of op
    → Found positions 9 position items → Found (position ∷ positions) (suc room) number (plain_item op ∷ items)
found-opens op {position} {positions} {room} {number} plain is f = record {
  reads = plain_step (position ∷ positions) room number 0 op plain (omega (arith, is)) ∙ ap (before (plain_item op)) f.reads;
  fits = one_digit number room (omega (arith, is, plain));
}

pub found-ends : (op : Op) {room number : ℕ} → code_of op < 69 → number ≡ code_of op → Found [] (suc room) number (plain_item op ∷ [])
found-ends op {room} {number} plain is =
    record { reads = plain_step [] room number 0 op plain (omega (arith, is)); fits = one_digit number room (omega (arith, is, plain)) }
