-- The rows of the hasher's table as the permutations that they show, eight rows each.
use Rattle.std.specs.Prelude.{ℕ, Bool, false, ◌==◌, List, [], ◌∷◌}
use Rattle.vm_ops.specs.Values.{bit_of}
use Rattle.vm_field.specs.Permutation.{rounds}
use Rattle.chip_columns.specs.HasherColumns.{mode, cont, more, state}
use Rattle.air_kit.specs.declared.requests.Perm.{Perm}

-- the row behind k rounds, with its third flag
unfoldable pub perm_row : List ℕ → Perm → ℕ → Bool → List ℕ
perm_row constants p k goes_on = bit_of p.mode ∷ bit_of p.cont ∷ bit_of goes_on ∷ rounds k constants p.start

-- the eight rows of a permutation, and further rows; the last of the eight says whether the hash goes on
unfoldable pub rows_before : List ℕ → Perm → List (List ℕ) → List (List ℕ)
rows_before constants p rows =
    perm_row constants p 0 false ∷ perm_row constants p 1 false ∷ perm_row constants p 2 false ∷ perm_row constants p 3 false
    ∷ perm_row constants p 4 false ∷ perm_row constants p 5 false ∷ perm_row constants p 6 false
    ∷ perm_row constants p 7 p.more ∷ rows

-- the rows of permutations, one behind the other
unfoldable pub rows_of_perms : List ℕ → List Perm → List (List ℕ)
rows_of_perms constants [] = []
rows_of_perms constants (p ∷ perms) = rows_before constants p (rows_of_perms constants perms)

-- the permutation that a first and a last row show
unfoldable pub perm_of : List ℕ → List ℕ → Perm
perm_of first last = record {
  mode = mode first == 1;
  cont = cont first == 1;
  more = more last == 1;
  start = state first;
}

-- the permutations that rows show
unfoldable pub perms_in : List (List ℕ) → List Perm
perms_in (r0 ∷ r1 ∷ r2 ∷ r3 ∷ r4 ∷ r5 ∷ r6 ∷ r7 ∷ rows) = perm_of r0 r7 ∷ perms_in rows
perms_in rows = []
