-- Each batch holds one operation at least, so that the batches of a list are its first one and those of the rest.
use Rattle.std.proofs.Common.{◌≡◌, ◌≢◌, ℕ, zero, suc, ◌-◌, ◌<◌, ◌≤◌, Bool, true, false, cond, ◌&&◌, List, [], ◌∷◌, ◌++◌, length, refl, ap, sym, ◌∙◌, append_assoc, arith, nat_lt, ◌==◌}
use Rattle.std.proofs.lemmas.Bool.{and_parts, eqb-true, ltb-true}
use Rattle.op_pack.specs.Packing.{Placed, has_immediate, positions_of, fits, opens, put, new_group, full, placed, batch_of, first_placed, batches_within, packed}
use Rattle.vm_ops.specs.declared.item.Item.{Item}

-- What holds of a full batch, and of an operation in the current group or in a new one where it holds behind it, holds of
-- what is placed.
pub placed-along : (P : ℕ → ℕ → List Item → Placed → Type 0)
    → ((room free : ℕ) (items : List Item) → P room free items (full items))
    → ((room free : ℕ) (item : Item) (items : List Item) (p : Placed) → fits room free item ≡ true → P (room - 1) (free - positions_of item) items p
    → P room free (item ∷ items) (put item p))
    → ((room free : ℕ) (item : Item) (items : List Item) (p : Placed) → opens free item ≡ true → P 8 (free - 1 - positions_of item) items p
    → P room free (item ∷ items) (new_group (put item p)))
    → (items : List Item) (room free : ℕ) → P room free items (placed room free items)
placed-along P ends fitted opened [] room free = ends room free []
placed-along P ends fitted opened (item ∷ items) room free = go (fits room free item) (opens free item) refl refl (placed-along P ends fitted opened items)
  where
    go : (b c : Bool) → fits room free item ≡ b → opens free item ≡ c → ((r f : ℕ) → P r f items (placed r f items))
        → P room free (item ∷ items) (cond b (put item (placed (room - 1) (free - positions_of item) items))
        (cond c (new_group (put item (placed 8 (free - 1 - positions_of item) items))) (full (item ∷ items))))
    go true c e f later = fitted room free item items _ e (later (room - 1) (free - positions_of item))
    go false true e f later = opened room free item items _ f (later 8 (free - 1 - positions_of item))
    go false false e f later = ends room free (item ∷ items)

-- an operation that fits takes room and positions, and a PUSH leaves room behind it
pub fits-inv : (room free : ℕ) (item : Item) → fits room free item ≡ true
    → (0 < room) × (positions_of item ≤ free) × (has_immediate item ≡ true → 0 < room - 1)
fits-inv room free item e = go (has_immediate item) e
  where
    go : (has : Bool) → cond has (nat_lt 1 room && nat_lt 0 free) (nat_lt 0 room) ≡ true
        → (0 < room) × (cond has 1 0 ≤ free) × (has ≡ true → 0 < room - 1)
    go true e =
        let h = and_parts (nat_lt 1 room) (nat_lt 0 free) e in
        let above : 1 < room = ltb-true 1 room h.0 in
        let some : 0 < free = ltb-true 0 free h.1 in
        (omega arith, omega arith, λ has. omega arith)
    go false e = (ltb-true 0 room e, omega arith, λ has. cc)

length-placed_rest : (items : List Item) (room free : ℕ) → length (placed room free items).rest ≤ length items
length-placed_rest = placed-along (λ room free items p. length p.rest ≤ length items) (λ room free items. omega arith)
    (λ room free item items p e h. omega arith) (λ room free item items p e h. omega arith)

pub fits-first : (b : Bool) → cond b (nat_lt 1 9 && nat_lt 0 7) (nat_lt 0 9) ≡ true
fits-first true = refl
fits-first false = refl

pub placed-fits : (room free : ℕ) (item : Item) (items : List Item) → fits room free item ≡ true
    → placed room free (item ∷ items) ≡ put item (placed (room - 1) (free - positions_of item) items)
placed-fits room free item items e = rw e refl

pub first_rest-shorter : (items : List Item) → items ≢ [] → length (first_placed items).rest < length items
unfolding first_placed
first_rest-shorter [] some = absurd (some refl)
first_rest-shorter (item ∷ items) some =
    let e = placed-fits 9 7 item items (fits-first (has_immediate item)) in
    let h = length-placed_rest items 8 (7 - positions_of item) in
    rw e (omega arith)

within-enough : (n m : ℕ) (items : List Item) → length items ≤ n → length items ≤ m → batches_within n items ≡ batches_within m items
within-enough (suc n) (suc m) (item ∷ items) h k =
    let shorter = first_rest-shorter (item ∷ items) (λ e. cc) in
    ap (λ later. batch_of (first_placed (item ∷ items)) ∷ later)
    (within-enough n m (first_placed (item ∷ items)).rest (omega arith) (omega arith))
within-enough zero m (item ∷ items) h k = absurd (omega arith)
within-enough (suc n) zero (item ∷ items) h k = absurd (omega arith)
within-enough zero zero [] h k = refl
within-enough zero (suc m) [] h k = refl
within-enough (suc n) zero [] h k = refl
within-enough (suc n) (suc m) [] h k = refl

pub packed-next : (items : List Item) → items ≢ [] → packed items ≡ batch_of (first_placed items) ∷ packed (first_placed items).rest
unfolding packed
packed-next [] some = absurd (some refl)
packed-next (item ∷ items) some =
    let shorter = first_rest-shorter (item ∷ items) some in
    ap (λ later. batch_of (first_placed (item ∷ items)) ∷ later)
    (within-enough (length items) _ (first_placed (item ∷ items)).rest (omega arith) (omega arith))

pub packed-none : packed [] ≡ []
unfolding packed
packed-none = refl

-- one batch more, and what is left behind it
pub packed-push : (done : List (List ℕ)) (items rest : List Item) (batch : List ℕ) → items ≢ [] → batch ≡ batch_of (first_placed items)
    → rest ≡ (first_placed items).rest → done ++ packed items ≡ (done ++ batch ∷ []) ++ packed rest
packed-push done items rest batch some e f =
    rw (e, f, append_assoc) (ap (λ batches. done ++ batches) (packed-next items some))

pub some_left : (items : List Item) (empty : Bool) → empty ≡ (length items == 0) → empty ≡ false → items ≢ []
some_left [] empty e f = cc
some_left (item ∷ items) empty e f = λ none. cc

pub none_left : (items : List Item) (empty : Bool) → empty ≡ (length items == 0) → empty ≡ true → items ≡ []
none_left [] empty e f = refl
none_left (item ∷ items) empty e f = absurd (let none = eqb-true (length (item ∷ items)) 0 (sym e ∙ f) in omega arith)
