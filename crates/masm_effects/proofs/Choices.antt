-- The instructions that choose between cells, and those that copy one.
use Rattle.std.proofs.Common.{◌≡◌, ℕ, ◌<◌, Bool, true, false, cond, List, [], ◌∷◌, ◌++◌, drop, refl, add-zero, mod-eq_of_lt}
use Rattle.vm_field.specs.Field.{prime, felt_add}
use Rattle.vm_field.specs.Machine.{State, IsWellFormed}
use Rattle.vm_field.proofs.Elements.{elements-index}
use Rattle.masm_effects.specs.Effects.{cells, listed, top}

-- the cells that are left, whichever way the test goes
pub cswap-leaves : (test : Bool) (s : State) (rest : List ℕ)
    → listed 2 0 (cond test (cells s 2 1) (cells s 1 2 ++ cells s 1 1) ++ []) ++ rest ≡ cond test (cells s 2 1) (cells s 1 2 ++ cells s 1 1) ++ rest
cswap-leaves true s rest = refl
cswap-leaves false s rest = refl

pub cswapw-leaves : (test : Bool) (s : State) (rest : List ℕ)
    → listed 8 0 (cond test (cells s 8 1) (cells s 4 5 ++ cells s 4 1) ++ []) ++ rest ≡ cond test (cells s 8 1) (cells s 4 5 ++ cells s 4 1) ++ rest
cswapw-leaves true s rest = refl
cswapw-leaves false s rest = refl

pub cdrop-leaves : (test : Bool) (s : State) (rest : List ℕ)
    → drop 1 (listed 2 0 (cond test (cells s 2 1) (cells s 1 2 ++ cells s 1 1) ++ [])) ++ rest ≡ cond test (top s 2) (top s 1) ∷ rest
cdrop-leaves true s rest = refl
cdrop-leaves false s rest = refl

pub cdropw-leaves : (test : Bool) (s : State) (rest : List ℕ)
    → drop 4 (listed 8 0 (cond test (cells s 8 1) (cells s 4 5 ++ cells s 4 1) ++ [])) ++ rest ≡ cond test (cells s 4 5) (cells s 4 1) ++ rest
cdropw-leaves true s rest = refl
cdropw-leaves false s rest = refl

-- an element and 0
pub plus-zero : (s : State) (k : ℕ) → IsWellFormed s → felt_add (top s k) 0 ≡ top s k
plus-zero s k well =
    let below : top s k < prime = elements-index s.core.stack k well.core.cells in
    rw add-zero (mod-eq_of_lt below)
