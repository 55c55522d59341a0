-- One operation more is taken of a batch: what was read goes on with what is left.
use Rattle.complete_rows.proofs.Words
use Words.{◌≡◌, ◌≢◌, ◌⊎◌, inl, inr, ℕ, zero, suc, ◌/◌, ◌%◌, ◌<◌, ◌≤◌, Bool, true, false, eqb, cond, List, [], ◌∷◌, take, drop, slice_index, Option, Some, None}
use Words.{unwrap_or, refl, sym, ap, ◌∙◌, arith, eqb-true, code_of, op_at, push_item, Item, Op, positions_in_use, read_on, reading}
use Rattle.std.proofs.lemmas.Bool.{cases_order}
use Rattle.std.proofs.lemmas.Bool.Decides.{nat_tests}
use Rattle.vm_ops.specs.declared.op.Op.TheVariants.{Noop}
use Rattle.vm_ops.proofs.CodeLemmas.{code_of-op_at, op_at-outside}
use Rattle.op_pack.specs.Digits.{go_on, pushed_on, next_group}
use Rattle.op_pack.specs.Reading.{before, plain_digit}
use Rattle.op_pack.proofs.ReadLemmas.{read_on-above, read_on-full, read_on-plain, read_on-push}

-- what an operation takes: the number of its group has its code as the lowest digit
pub data Takes (item : Item) (items : List Item) (positions : List ℕ) (room number : ℕ) : Type 0 where
  pushes : (position : ℕ) (later : List ℕ) → positions ≡ position ∷ later → item ≡ push_item position → number % 128 ≡ 69
      → read_on later room (number / 128) ≡ Some items → Takes item items positions room number
  goes : number % 128 < 69 → code_of item.op ≡ number % 128 → number / 128 ≢ 0 → read_on positions room (number / 128) ≡ Some items
      → Takes item items positions room number
  opens : (position : ℕ) (later : List ℕ) → number % 128 < 69 → code_of item.op ≡ number % 128 → number / 128 ≡ 0
      → positions ≡ position ∷ later → read_on later 9 position ≡ Some items → Takes item items positions room number
  ends : number % 128 < 69 → code_of item.op ≡ number % 128 → number / 128 ≡ 0 → positions ≡ [] → items ≡ []
      → Takes item items positions room number

before_is : (item first : Item) (rest : Option (List Item)) (items : List Item) → before item rest ≡ Some (first ∷ items)
    → (item ≡ first) × (rest ≡ Some items)
before_is item first None items e = cc
before_is item first (Some later) items e = (cc, cc)

before_some : (item : Item) (rest : Option (List Item)) → before item rest ≢ Some []
before_some item None e = cc
before_some item (Some later) e = cc

digit_code : (digit : ℕ) → digit < 69 → code_of (plain_digit digit).op ≡ digit
digit_code digit low = go (op_at digit) refl
  where
    go : (o : Option Op) → op_at digit ≡ o → code_of (unwrap_or o Noop) ≡ digit
    go None e = let far : 81 ≤ digit = (op_at-outside digit).0 e in absurd (omega (arith, far, low))
    go (Some op) e = code_of-op_at digit op e

plain_takes : (item : Item) (items : List Item) (positions : List ℕ) (room number : ℕ) → number % 128 < 69
    → code_of item.op ≡ number % 128 → (b : Bool) → eqb (number / 128) 0 ≡ b
    → cond b (next_group positions) (read_on positions room (number / 128)) ≡ Some items
    → Takes item items positions room number
plain_takes item items positions room number low code false b e =
    goes low code (λ z. (let t : eqb (number / 128) 0 ≡ true = grind (arith, nat_tests, z) in let clash : ⊥ = cc in clash)) e
plain_takes item items [] room number low code true b e = ends low code (eqb-true (number / 128) 0 b) refl cc
plain_takes item items (position ∷ later) room number low code true b e =
    opens position later low code (eqb-true (number / 128) 0 b) refl e

push_takes : (item : Item) (items : List Item) (positions : List ℕ) (room number : ℕ) → number % 128 ≡ 69
    → pushed_on positions room (number / 128) ≡ Some (item ∷ items) → Takes item items positions room number
push_takes item items [] room number is e = cc
push_takes item items (position ∷ later) room number is e =
    let i = before_is (push_item position) item (read_on later room (number / 128)) items e in
    pushes position later refl (sym i.0) is i.1

order : (n : ℕ) → (n ≡ 69) ⊎ ((n < 69) ⊎ (69 < n))
order n = cases_order n 69

pub takes : (item : Item) (items : List Item) (positions : List ℕ) (room number : ℕ)
    → read_on positions (suc room) number ≡ Some (item ∷ items) → Takes item items positions room number
takes item items positions room number e = go (order (number % 128))
  where
    go : (number % 128 ≡ 69) ⊎ ((number % 128 < 69) ⊎ (69 < number % 128)) → Takes item items positions room number
    go (inr (inl low)) =
        let i = before_is (plain_digit (number % 128)) item (go_on positions room (number / 128)) items
        (sym (read_on-plain positions room number low) ∙ e) in
        plain_takes item items positions room number low (ap (λ x. code_of x.op) (sym i.0) ∙ digit_code (number % 128) low)
        (eqb (number / 128) 0) refl i.1
    go (inl is) = push_takes item items positions room number is (sym (read_on-push positions room number is) ∙ e)
    go (inr (inr high)) = let none = read_on-above positions room number high in cc

-- a reading has an operation
pub reads_some : (positions : List ℕ) (room number : ℕ) → read_on positions room number ≢ Some []
reads_some positions zero number e = let none = read_on-full positions number in cc
reads_some positions (suc room) number e = go (order (number % 128))
  where
    pushed : (places : List ℕ) → pushed_on places room (number / 128) ≡ Some [] → ⊥
    pushed [] p = cc
    pushed (position ∷ later) p = before_some (push_item position) (read_on later room (number / 128)) p

    go : (number % 128 ≡ 69) ⊎ ((number % 128 < 69) ⊎ (69 < number % 128)) → ⊥
    go (inr (inl low)) =
        before_some (plain_digit (number % 128)) (go_on positions room (number / 128)) (sym (read_on-plain positions room number low) ∙ e)
    go (inl is) = pushed positions (sym (read_on-push positions room number is) ∙ e)
    go (inr (inr high)) = let none = read_on-above positions room number high in cc

-- and as many places as it says are left
pub reads_room : (positions : List ℕ) (room number : ℕ) (items : List Item) → read_on positions room number ≡ Some items → room ≢ 0
reads_room positions zero number items e z = let none = read_on-full positions number in cc
reads_room positions (suc room) number items e z = omega arith

pub reading_some : (batch : List ℕ) (items : List Item) → reading batch ≡ Some items → items ≢ []
unfolding reading
reading_some batch items e none =
    reads_some (drop 1 (take (positions_in_use batch) batch)) 9 (slice_index batch 0) (e ∙ ap Some none)
