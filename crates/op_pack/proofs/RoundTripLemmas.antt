-- What is placed is read back, with or without zeros behind it.
use Rattle.std.proofs.Common.{◌≡◌, ◌≢◌, ℕ, zero, suc, ◌+◌, ◌-◌, ◌*◌, ◌/◌, ◌%◌, ◌<◌, ◌==◌, Bool, true, false, cond, List, [], ◌∷◌, Option, Some, None, unwrap_or, refl, ap, ap₂, sym, ◌∙◌, arith, lit<}
use Rattle.std.proofs.lemmas.Bool.{ltb-true, eqb-true, cond-true, cond-false, ne_eqb, eq-eqb, lt-leb}
use Rattle.std.specs.List.{AllByRecursion}
use Rattle.op_pack.proofs.NoopLemmas.{ReadsItems, reads-along, reads-before, reads-noop, reads-skip}
use Rattle.op_pack.proofs.PackLemmas.{fits-first, fits-inv, placed-along, placed-fits}
use Rattle.op_pack.proofs.ReadLemmas.{read_on-plain, read_on-push}
use Rattle.op_pack.specs.Digits.{go_on, next_group}
use Rattle.op_pack.specs.Packing.{Placed, has_immediate, positions_of, with_immediate, put, new_group, placed, first_placed}
use Rattle.op_pack.specs.Reading.{before, plain_digit, read_on}
use Rattle.vm_ops.proofs.CodeLemmas.{code_of-different, op_at-code_of, ordinary-below}
use Rattle.vm_ops.specs.Codes.{code_of}
use Rattle.vm_ops.specs.declared.item.Item.{Item}
use Rattle.vm_ops.specs.declared.op.Op.{Op}
use Rattle.vm_ops.specs.declared.op.Op.TheVariants.{Noop, Push}
use Rattle.vm_ops.specs.Items.{plain_item, push_item, IsPackableItem}

pub plain_digit-code_of : (op : Op) → plain_digit (code_of op) ≡ plain_item op
plain_digit-code_of op = ap (λ o. plain_item (unwrap_or o Noop)) (op_at-code_of op)

-- the first positions are the second ones up to zeros behind them
abbrev pub IsKept : List ℕ → List ℕ → Type 0
IsKept [] xs = AllByRecursion (λ x. x ≡ 0) xs
IsKept (p ∷ ps) [] = (p ≡ 0) × IsKept ps []
IsKept (p ∷ ps) (x ∷ xs) = (p ≡ x) × IsKept ps xs

-- each item is one that a batch may hold
abbrev pub Each : List Item → Type 0
Each items = AllByRecursion IsPackableItem items

-- a zero in front of what is read is a NOOP
zero-read : (positions : List ℕ) (room : ℕ) → read_on positions (suc room) 0 ≡ before (plain_item Noop) (next_group positions)
zero-read positions room =
    read_on-plain positions room 0 (lit< tt) ∙ ap (λ item. before item (next_group positions)) (plain_digit-code_of Noop)

zeros-read : (ps : List ℕ) (rest : List Item) → IsKept ps [] → ReadsItems (next_group ps) rest rest
zeros-read [] rest kept = record { read = []; is = refl; same = refl }
zeros-read (p ∷ ps) rest kept =
    reads-along (ap (read_on ps 9) kept.0 ∙ zero-read ps 8) (reads-noop (zeros-read ps rest kept.1))

-- behind a PUSH a group goes on, with a NOOP where its number is used up
kept_open : (positions : List ℕ) (room number : ℕ) {rest items : List Item} → 0 < room → ReadsItems (go_on positions room number) rest items
    → ReadsItems (read_on positions room number) rest items
kept_open positions zero number some h = absurd (omega arith)
kept_open positions (suc room) zero some h =
    reads-along (zero-read positions room) (reads-noop h)
kept_open positions (suc room) (suc number) some h =
    reads-along (sym (cond-false (suc number == 0) _ _ (ne_eqb (suc number) 0 (λ e. omega arith)))) h

-- operations that are read behind these positions, with or without zeros
abbrev AreRead : ℕ → List Item → Placed → Type 0
AreRead room items p = (ps : List ℕ) → IsKept ps p.positions → ReadsItems (go_on ps room p.number) p.rest items

-- an operation next in a group is read in front of what follows it
module _ (room : ℕ) (items : List Item) (p : Placed) (reads : AreRead room items p) where
  put_plain : (op : Op) (ps : List ℕ) → IsPackableItem (plain_item op) → IsKept ps p.positions
      → ReadsItems (read_on ps (suc room) (code_of op + 128 * p.number)) p.rest (plain_item op ∷ items)
  put_plain op ps h kept =
      let n : ℕ = code_of op + 128 * p.number in
      let ordinary : code_of op < 70 = ltb-true (code_of op) 70 (sym (ordinary-below op) ∙ h.ordinary.ordinary) in
      let other : code_of op ≢ 69 = λ e. h.ordinary.immediate (code_of-different op Push e) in
      let low : n % 128 ≡ code_of op = omega arith in
      let high : n / 128 ≡ p.number = omega arith in
      reads-along (read_on-plain ps room n (omega arith)
      ∙ ap₂ (λ (i : Item) (m : ℕ). before i (go_on ps room m)) (ap plain_digit low ∙ plain_digit-code_of op) high)
      (reads-before (plain_item op) (reads ps kept))

  put_push : (value : ℕ) (ps : List ℕ) → value ≢ 0 → 0 < room → IsKept ps (value ∷ p.positions)
      → ReadsItems (read_on ps (suc room) (69 + 128 * p.number)) p.rest (push_item value ∷ items)
  put_push value [] other some kept = absurd (other kept.0)
  put_push value (x ∷ ps) other some kept =
      let n : ℕ = 69 + 128 * p.number in
      let high : n / 128 ≡ p.number = omega arith in
      reads-along (read_on-push (x ∷ ps) room n (omega arith)
      ∙ ap₂ (λ (v m : ℕ). before (push_item v) (read_on ps room m)) kept.0 high)
      (reads-before (push_item value) (kept_open ps room p.number some (reads ps kept.1)))

  put_as : (op : Op) (imm : Option ℕ) (ps : List ℕ) → IsPackableItem (record { op = op; imm = imm })
      → (has_immediate (record { op = op; imm = imm }) ≡ true → 0 < room)
      → IsKept ps (with_immediate (record { op = op; imm = imm }) p.positions)
      → ReadsItems (read_on ps (suc room) (code_of op + 128 * p.number)) p.rest (record { op = op; imm = imm } ∷ items)
  put_as op None ps h some kept =
      let ordinary : code_of op < 70 = ltb-true (code_of op) 70 (sym (ordinary-below op) ∙ h.ordinary.ordinary) in
      let other : code_of op ≢ 69 = λ e. h.ordinary.immediate (code_of-different op Push e) in
      put_plain op ps h (rw (cond-false (has_immediate (plain_item op)) _ _ (lt-leb 69 (code_of op) (omega arith))) at kept)
  put_as op (Some value) ps h some kept =
      rw h.ordinary.immediate.0 (put_push value ps h.immediate (some (rw h.ordinary.immediate.0 refl)) (rw h.ordinary.immediate.0 at kept))

  put_read : (item : Item) (ps : List ℕ) → IsPackableItem item → (has_immediate item ≡ true → 0 < room) → IsKept ps (with_immediate item p.positions)
      → ReadsItems (read_on ps (suc room) (put item p).number) p.rest (item ∷ items)
  put_read item ps h some kept = put_as item.op item.imm ps h some kept

  -- a NOOP that nothing follows is not read
  put_noop : (item : Item) (ps : List ℕ) → IsKept ps (with_immediate item p.positions) → (put item p).number ≡ 0
      → ReadsItems (next_group ps) p.rest (item ∷ items)
  put_noop item ps kept none =
      let code : code_of item.op ≡ 0 = omega arith in
      let behind : p.number ≡ 0 = omega arith in
      reads-skip item (eq-eqb (code_of item.op) 0 code)
      (reads-along (sym (cond-true (p.number == 0) _ _ (eq-eqb p.number 0 behind)))
      (reads ps (rw (cond-false (has_immediate item) _ _ (lt-leb 69 (code_of item.op) (omega arith))) at kept)))

  -- an operation that opens a group
  put_group : (item : Item) (ps : List ℕ) → room ≡ 8 → IsPackableItem item → IsKept ps (new_group (put item p)).positions
      → ReadsItems (next_group ps) p.rest (item ∷ items)
  put_group item [] eight h kept = put_noop item [] kept.1 kept.0
  put_group item (x ∷ ps) eight h kept =
      reads-along (ap₂ (read_on ps) (ap suc (sym eight)) kept.0) (put_read item ps h (λ has. omega arith) kept.1)

-- an operation in the current group
fitting : (room : ℕ) (item : Item) (items : List Item) (p : Placed) (ps : List ℕ) → AreRead (room - 1) items p → IsPackableItem item → 0 < room
    → (has_immediate item ≡ true → 0 < room - 1) → IsKept ps (with_immediate item p.positions)
    → ReadsItems (go_on ps room (put item p).number) p.rest (item ∷ items)
fitting room item items p ps reads h some push kept = go ((put item p).number == 0) refl
  where
    go : (none : Bool) → ((put item p).number == 0) ≡ none
        → ReadsItems (cond none (next_group ps) (read_on ps room (put item p).number)) p.rest (item ∷ items)
    go true e = put_noop (room - 1) items p reads item ps kept (eqb-true _ 0 e)
    go false e =
        let same : suc (room - 1) ≡ room = omega arith in
        rw same at (put_read (room - 1) items p reads item ps h push kept)

placed-read : (items : List Item) (room free : ℕ) → Each items → AreRead room items (placed room free items)
placed-read items room free = placed-along (λ room free items p. Each items → AreRead room items p)
    (λ room free items each ps kept. zeros-read ps items kept)
    (λ room free item items p e h each ps kept.
    let f = fits-inv room free item e in fitting room item items p ps (h each.1) each.0 f.0 f.2 kept)
    (λ room free item items p e h each ps kept. put_group 8 items p (h each.1) item ps refl each.0 kept) items room free

-- the first batch of some operations
pub first-read : (item : Item) (items : List Item) (ps : List ℕ) → Each (item ∷ items) → IsKept ps (first_placed (item ∷ items)).positions
    → ReadsItems (read_on ps 9 (first_placed (item ∷ items)).number) (first_placed (item ∷ items)).rest (item ∷ items)
unfolding first_placed
first-read item items ps each kept =
    let path = placed-fits 9 7 item items (fits-first (has_immediate item)) in
    rw path (put_read 8 items (placed 8 (7 - positions_of item) items) (placed-read items 8 (7 - positions_of item) each.1) item ps each.0
    (λ has. lit< tt) (rw path at kept))
