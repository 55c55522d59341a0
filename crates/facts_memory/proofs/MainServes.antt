-- A table of memory serves the rows of a main table that ask what it gives.
use Rattle.facts_memory.proofs.Words.{◌≡◌, ℕ, zero, suc, ◌+◌, ◌<◌, ◌^◌, List, [], length, slice_get, Option, Some, None, refl, sym, ap, ap₂, subst, ◌∙◌}
use Rattle.facts_memory.proofs.Words.{arith, slice_get-get_or, slice_get_within, WordMap, word_at, Access, Keeps, row_at, HaveLimbs, MemoryIsZero, access_at}
use Rattle.facts_memory.proofs.Words.{AreAsks, ArePaired, GivesAsks, asked_of, memory_before, memory_behind}
use Rattle.buses.specs.Counts.{counted, over_first, total, with_next}
use Rattle.vm_ops.specs.declared.op.Op.{Op}
use Rattle.vm_ops.specs.declared.op.Op.TheVariants as ops
use Rattle.vm_table.specs.MainColumns.{clk, ctx}
use Rattle.air_kit.specs.Flags.{op_of}
use Rattle.air_kit.specs.MainTuples.{accesses_of, memory_asked}
use Rattle.air_kit.specs.RowStates.{memory_at, memory_behind as row_behind, written_by}
use Rattle.facts_memory.specs.MainAccesses.{GivesMain, HasMainRow, IsClocked, PairsMain, ServesMain, access_by}
use Rattle.facts_memory.proofs.TableServes.{pairs, serves}

-- ---- by the operation

-- a row accesses at its clock and in its context, if it does
abbrev AccessIs : List ℕ → Option Access → Type 0
AccessIs x None = Unit {0}
AccessIs x (Some a) = (a.clk ≡ clk x) × (a.ctx ≡ ctx x)

by_operation : (op : Op) (x y : List ℕ) → AccessIs x (access_by op x y)
by_operation ops.MLoad x y = (refl, refl)
by_operation ops.MLoadW x y = (refl, refl)
by_operation ops.MStore x y = (refl, refl)
by_operation ops.MStoreW x y = (refl, refl)
by_operation op x y = tt

tuples_are : (op : Op) (x y : List ℕ) → accesses_of op x y ≡ asked_of (access_by op x y)
unfolding accesses_of
tuples_are ops.MLoad x y = refl
tuples_are ops.MLoadW x y = refl
tuples_are ops.MStore x y = refl
tuples_are ops.MStoreW x y = refl
tuples_are op x y = refl

memory_is : (op : Op) (x y : List ℕ) (memory : WordMap) → row_behind x (written_by op x) memory ≡ memory_behind (access_by op x y) memory
memory_is ops.MLoad x y memory = refl
memory_is ops.MLoadW x y memory = refl
memory_is ops.MStore x y memory = refl
memory_is ops.MStoreW x y memory = refl
memory_is op x y memory = refl

-- ---- the rows

with_row : List ℕ → Option (List ℕ) → Option Access
with_row x None = None
with_row x (Some y) = access_by (op_of x) x y

asks_of : List (List ℕ) → ℕ → Option Access
asks_of main i = with_row (row_at main i) (slice_get main (suc i))

row_is : (x : List ℕ) (next : Option (List ℕ)) (a : Access) → with_row x next ≡ Some a → (a.clk ≡ clk x) × (a.ctx ≡ ctx x)
unfolding with_row
row_is x None a e = absurd (let clash : ⊥ = cc in clash)
row_is x (Some y) a e = subst (AccessIs x) e (by_operation (op_of x) x y)

are_asks : (main : List (List ℕ)) → IsClocked main → AreAsks (asks_of main) (length main)
unfolding asks_of
are_asks main c = record {
  few = c.few;
  clocks = λ i a h is. (row_is (row_at main i) (slice_get main (suc i)) a is).0 ∙ c.clocks i h;
  contexts = λ i a h is. subst (λ k. k < 2 ^ 32) (sym (row_is (row_at main i) (slice_get main (suc i)) a is).1) (c.contexts i h);
}

total_same : (n : ℕ) (f g : ℕ → ℕ) → ((i : ℕ) → f i ≡ g i) → total n f ≡ total n g
unfolding total
total_same zero f g same = refl
total_same (suc n) f g same = ap₂ (λ a b. a + b) (total_same n f g same) (same n)

row_tuples : (i : ℕ) (x : List ℕ) (next : Option (List ℕ)) → with_next memory_asked i x next ≡ asked_of (with_row x next)
unfolding memory_asked with_row
row_tuples i x None = refl
row_tuples i x (Some y) = tuples_are (op_of x) x y

gives : (main rows : List (List ℕ)) → GivesMain main rows → GivesAsks (asks_of main) (length main) rows
unfolding asks_of over_first
gives main rows alike u =
    total_same (length main) _ _ (λ i. ap (λ cs. counted cs u) (sym (row_tuples i (row_at main i) (slice_get main (suc i))))) ∙ alike u

row_asks : (main : List (List ℕ)) (i : ℕ) (y : List ℕ) → slice_get main (suc i) ≡ Some y
    → asks_of main i ≡ access_by (op_of (row_at main i)) (row_at main i) y
unfolding asks_of with_row
row_asks main i y e = ap (with_row (row_at main i)) e

memory_same : (main : List (List ℕ)) (i : ℕ) → i < length main → memory_at main i ≡ memory_before (asks_of main) i
unfolding memory_at memory_before
memory_same main zero h = refl
memory_same main (suc i) h =
    let next : slice_get main (suc i) ≡ Some (row_at main (suc i)) = slice_get-get_or main (suc i) [] h in
    memory_is (op_of (row_at main i)) (row_at main i) (row_at main (suc i)) (memory_at main i)
    ∙ ap₂ memory_behind (sym (row_asks main i (row_at main (suc i)) next)) (memory_same main i (omega (arith, h)))

-- the access that a row makes, with the row behind it
row_makes : (x : List ℕ) (next : Option (List ℕ)) (a : Access) → with_row x next ≡ Some a
    → (y : List ℕ) × (next ≡ Some y) × (access_by (op_of x) x y ≡ Some a)
unfolding with_row
row_makes x None a is = absurd (let clash : ⊥ = cc in clash)
row_makes x (Some y) a is = (y, refl, is)

main_row : (main : List (List ℕ)) (a : Access) → asks_of main a.clk ≡ Some a → HasMainRow main a
unfolding asks_of
main_row main a is =
    let made = row_makes (row_at main a.clk) (slice_get main (suc a.clk)) a is in
    record { behind = made.0; next = made.1; accesses = made.2 }

module _ (main rows : List (List ℕ)) (c : IsClocked main) (z : MemoryIsZero rows) (limbs : HaveLimbs rows) (alike : GivesMain main rows) where
  pub main_serves : ServesMain main
  main_serves i y a next is =
      let after = slice_get_within main (suc i) y next in
      let inside : i < length main = omega (arith, after) in
      let served = serves (asks_of main) (length main) rows (are_asks main c) z limbs (gives main rows alike) in
      let ask = row_asks main i y next ∙ is in
      record {
        address = served.addresses i a inside ask;
        keeps = subst (λ m. Keeps a (word_at m a.ctx a.addr)) (sym (memory_same main i inside)) (served.keeps i a inside ask);
      }

  pub pairs_main : PairsMain main rows
  pairs_main = record {
    shown = λ i y a next is.
        (let after = slice_get_within main (suc i) y next in p.asked.asked i a (omega (arith, after)) (row_asks main i y next ∙ is));
    accessed = λ q h. main_row main (access_at rows q) (p.asked.given q h);
    once = p.once;
  }
    where
      p : ArePaired (asks_of main) (length main) rows
      p = pairs (asks_of main) (length main) rows (are_asks main c) z limbs (gives main rows alike)
