-- The batches of some operations are read as these, up to NOOPs.
use Rattle.std.proofs.Common.{◌≡◌, ℕ, zero, suc, ◌+◌, ◌<◌, ◌≤◌, ◌==◌, Bool, true, false, cond, not, List, [], ◌∷◌, ◌++◌, replicate, length, take, drop, option_map, option_and_then, refl, ap, ◌∙◌, arith, unwrap_or}
use Rattle.std.proofs.Math.ListN.{drop_of_length-le}
use Rattle.std.proofs.lemmas.Bool.{and_parts, eqb-true, ltb-true}
use Rattle.std.proofs.lemmas.List.{length-append, length-replicate}
use Rattle.std.proofs.lemmas.List.Elements.{filter-append}
use Rattle.std.specs.List.{All, AllByRecursion}
use Rattle.op_pack.proofs.NoopLemmas.{ReadsItems}
use Rattle.op_pack.proofs.PackLemmas.{first_rest-shorter, fits-inv, placed-along}
use Rattle.op_pack.proofs.RoundTripLemmas.{Each, IsKept, first-read}
use Rattle.op_pack.specs.Packing.{IsPackable, Placed, has_immediate, positions_of, with_immediate, placed, first_placed, zeros_behind, batch_of, batches_within, packed}
use Rattle.op_pack.specs.Reading.{are_zero, positions_in_use, reading}
use Rattle.op_pack.specs.RoundTrip.{is_noop, without_noops, read_batches, IsReadAs}
use Rattle.vm_ops.specs.declared.item.Item.{Item}
use Rattle.vm_ops.specs.Items.{IsPackableItem}

-- at most as many positions as are free
length-with_immediate : (item : Item) (positions : List ℕ) → length (with_immediate item positions) ≡ positions_of item + length positions
length-with_immediate item positions = go (has_immediate item)
  where
    go : (has : Bool) → length (cond has (unwrap_or item.imm 0 ∷ positions) positions) ≡ cond has 1 0 + length positions
    go true = omega arith
    go false = omega arith

pub length-placed : (items : List Item) (room free : ℕ) → length (placed room free items).positions ≤ free
length-placed = placed-along (λ room free items p. length p.positions ≤ free) (λ room free items. omega arith)
    (λ room free item items p e h.
    let count = length-with_immediate item p.positions in let taken = (fits-inv room free item e).1 in omega arith)
    (λ room free item items p e h.
    let count = length-with_immediate item p.positions in let taken : positions_of item < free = ltb-true (positions_of item) free e in omega arith)

-- a list of zeros
zeros : (xs : List ℕ) → are_zero xs ≡ true → AllByRecursion (λ x. x ≡ 0) xs
zeros [] e = tt
zeros (x ∷ xs) e = let h = and_parts (x == 0) (are_zero xs) e in (eqb-true x 0 h.0, zeros xs h.1)

-- positions are kept where zeros behind them are cut off
kept-take : (n : ℕ) (xs : List ℕ) → are_zero (drop n xs) ≡ true → IsKept (take n xs) xs
kept-take zero xs e = zeros xs e
kept-take (suc n) [] e = tt
kept-take (suc n) (x ∷ xs) e = (refl, kept-take n xs e)

kept-front : (ps xs : List ℕ) (z : ℕ) → IsKept ps (xs ++ replicate z 0) → IsKept ps xs
kept-front [] [] z kept = tt
kept-front [] (x ∷ xs) z kept = (kept.0, kept-front [] xs z kept.1)
kept-front (p ∷ ps) (x ∷ xs) z kept = (kept.0, kept-front ps xs z kept.1)
kept-front (p ∷ ps) [] zero kept = kept
kept-front (p ∷ ps) [] (suc z) kept = (kept.0, kept-front ps [] z kept.1)

-- behind the positions in use stand zeros
used : (x : ℕ) (xs : List ℕ) → length xs ≤ 7 → IsKept (drop 1 (take (positions_in_use (x ∷ xs)) (x ∷ xs))) xs
used x xs h = go (are_zero xs) (are_zero (drop 1 xs)) (are_zero (drop 3 xs)) refl refl refl
  where
    go : (a b c : Bool) → are_zero xs ≡ a → are_zero (drop 1 xs) ≡ b → are_zero (drop 3 xs) ≡ c
        → IsKept (drop 1 (take (cond a 1 (cond b 2 (cond c 4 8))) (x ∷ xs))) xs
    go true b c e f g = zeros xs e
    go false true c e f g = kept-take 1 xs f
    go false false true e f g = kept-take 3 xs g
    go false false false e f g = kept-take 7 xs (ap are_zero (drop_of_length-le xs h))

-- the first batch is read as operations that, with those that it doesn't hold, are these up to NOOPs
batch_read : (item : Item) (items : List Item) → Each (item ∷ items)
    → ReadsItems (reading (batch_of (first_placed (item ∷ items)))) (first_placed (item ∷ items)).rest (item ∷ items)
unfolding reading first_placed
batch_read item items each =
    let p : Placed = first_placed (item ∷ items) in
    let few : length p.positions ≤ 7 = length-placed (item ∷ items) 9 7 in
    let seven : length (zeros_behind 7 p.positions) ≤ 7 = simp (length-append, length-replicate) (omega arith) in
    first-read item items _ each (kept-front _ p.positions _ (used p.number (zeros_behind 7 p.positions) seven))

each-rest : (items : List Item) (room free : ℕ) → Each items → Each (placed room free items).rest
each-rest = placed-along (λ room free items p. Each items → Each p.rest) (λ room free items each. each)
    (λ room free item items p e h each. h each.1) (λ room free item items p e h each. h each.1)

pub each-first : (items : List Item) → Each items → Each (first_placed items).rest
unfolding first_placed
each-first items h = each-rest items 9 7 h

batches_read : (n : ℕ) (items : List Item) → length items ≤ n → Each items → IsReadAs (read_batches (batches_within n items)) items
batches_read zero [] h each = record { read = []; is = refl; same = refl }
batches_read zero (item ∷ items) h each = absurd (omega arith)
batches_read (suc n) [] h each = record { read = []; is = refl; same = refl }
batches_read (suc n) (item ∷ items) h each =
    let all : List Item = item ∷ items in
    let rest : List Item = (first_placed all).rest in
    let shorter = first_rest-shorter all (λ e. cc) in
    let first = batch_read item items each in
    let later = batches_read n rest (omega arith) (each-first all each) in
    record {
      read = first.read ++ later.read;
      is = ap (λ o. option_and_then (λ (xs : List Item). option_map (λ (ys : List Item). xs ++ ys) (read_batches (batches_within n rest))) o) first.is
          ∙ ap (λ o. option_map (λ (ys : List Item). first.read ++ ys) o) later.is;
      same = filter-append (λ (i : Item). not (is_noop i)) first.read later.read
          ∙ ap (λ (ys : List Item). without_noops first.read ++ ys) later.same ∙ first.same;
    }

pub each-all : (items : List Item) → All IsPackableItem items → Each items
each-all [] h = tt
each-all (item ∷ items) h = (h 0 item (omega arith), each-all items (λ k d l. h (suc k) d (omega arith)))

pub read_back : (items : List Item) → IsPackable items → IsReadAs (read_batches (packed items)) items
unfolding packed
read_back items h = batches_read (length items) items (omega arith) (each-all items h.each)
