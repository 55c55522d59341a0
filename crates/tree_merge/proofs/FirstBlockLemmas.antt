-- The first block that is hashed at an address stands in the row there.
use Rattle.std.proofs.Common.{◌≡◌, ℕ, ◌+◌, ◌-◌, ◌%◌, ◌<◌, ◌≤◌, Bool, true, false, ◌==◌, if◌then◌else◌, List, [], ◌∷◌, length, drop, get_or, Option, None, Some, refl, ap, subst, ◌∙◌, arith, eqb-true}
use Rattle.std.proofs.lemmas.List.{get_or-drop, length-drop}
use Rattle.vm_field.specs.Sponge.{HashInput}
use Rattle.air_kit.specs.ChipTuples.{absorbed_part}
use Rattle.air_kit.specs.Hashes.{begins_hash, blocks_from, computation_from, computation_at}
use Rattle.tree_merge.specs.FirstBlocks.{HasFirst, HasBlock, first_of, first_block_of}

-- a hash that these rows begin with has the first row's block
pub record Begins (rows : List (List ℕ)) (found : Option HashInput) : Type 0 where
  pub some : 0 < length rows
  pub block : first_block_of found ≡ absorbed_part (get_or rows 0 [])

first-block : (rows : List (List ℕ)) → HasFirst (blocks_from rows) → first_of (blocks_from rows) ≡ absorbed_part (get_or rows 0 [])
unfolding blocks_from
first-block (r0 ∷ r1 ∷ r2 ∷ r3 ∷ r4 ∷ r5 ∷ r6 ∷ r7 ∷ rows) h = refl
first-block rows h = absurd h

begun : (begins : Bool) (row : List ℕ) (rows : List (List ℕ)) (domain : ℕ)
    → HasBlock (if begins then Some (record { domain = domain; blocks = blocks_from (row ∷ rows) }) else None)
    → Begins (row ∷ rows) (if begins then Some (record { domain = domain; blocks = blocks_from (row ∷ rows) }) else None)
begun true row rows domain h = record { some = omega arith; block = first-block (row ∷ rows) h }
begun false row rows domain h = absurd h

begins-rows : (rows : List (List ℕ)) → HasBlock (computation_from rows) → Begins rows (computation_from rows)
begins-rows [] h = absurd h
begins-rows (row ∷ rows) h = begun (begins_hash row) row rows _ h

-- at an address where a hash begins there is a row, which has the first block
pub record HasFirstBlock (rows : List (List ℕ)) (address : ℕ) : Type 0 where
  pub some : 1 ≤ address
  pub within : address - 1 < length rows
  pub block : first_block_of (computation_at rows address) ≡ absorbed_part (get_or rows (address - 1) [])

placed : (test : Bool) (found : Option HashInput) → HasBlock (if test then found else None) → test ≡ true
placed true found h = refl
placed false found h = absurd h

there : (rows : List (List ℕ)) (address : ℕ) → 1 ≤ address → Begins (drop (address - 1) rows) (computation_from (drop (address - 1) rows))
    → computation_at rows address ≡ computation_from (drop (address - 1) rows) → HasFirstBlock rows address
there rows address le b e = record {
  some = le;
  within = let l = length-drop (address - 1) rows in let s = b.some in omega (arith, l, s);
  block = ap first_block_of e ∙ b.block ∙ ap absorbed_part (get_or-drop (address - 1) rows 0 [])
      ∙ ap (λ n. absorbed_part (get_or rows n [])) (add-zero (address - 1));
}
  where
    add-zero : (n : ℕ) → n + 0 ≡ n
    add-zero n = omega arith

pub stands : (rows : List (List ℕ)) (address : ℕ) → HasBlock (computation_at rows address) → HasFirstBlock rows address
stands rows address h =
    let is : (address % 8 == 1) ≡ true = placed (address % 8 == 1) (computation_from (drop (address - 1) rows)) h in
    let e : computation_at rows address ≡ computation_from (drop (address - 1) rows)
    = ap (λ b. if b then computation_from (drop (address - 1) rows) else None) is in
    there rows address (from (eqb-true (address % 8) 1 is)) (begins-rows (drop (address - 1) rows) (subst HasBlock e h)) e
  where
    from : address % 8 ≡ 1 → 1 ≤ address
    from m = omega (arith, m)
