-- The operations that read what no row shows: memory, the tape, an immediate or the permutation.
use Rattle.facts_steps.proofs.Words
use Words.{◌≡◌, ℕ, true, List, [], ◌∷◌, ◌++◌, take, reverse, slice_index, refl, ap, sym, reads_elsewhere, leaves_of, left_cells, computed, Op, Elsewhere}
use Words.{taken_by, cells, off, item_of, Lookups}
use Words.ops
use Rattle.facts_steps.proofs.Seeing.{seen_by}

pub outside_left : (op : Op) {constants x y : List ℕ} {e : Elsewhere} (rest : List ℕ) → reads_elsewhere op ≡ true
    → Lookups constants op x y e → e.tape ≡ taken_by op y ++ rest
    → left_cells op (seen_by constants (item_of op y) x e) ≡ take (leaves_of op) (cells y)
unfolding left_cells computed cells
outside_left ops.Push rest is k tape = refl
outside_left ops.AdvPop rest is k tape = ap (λ (u : List ℕ). take 1 u ++ []) tape
outside_left ops.AdvPopW rest is k tape = ap (λ (u : List ℕ). reverse (take 4 u) ++ []) tape
outside_left ops.MLoad rest is k tape = ap (λ (u : List ℕ). slice_index u 0 ∷ []) (k.memory.element refl)
outside_left ops.MLoadW rest is k tape = ap (λ (u : List ℕ). reverse u ++ []) (k.memory.word refl)
outside_left ops.HPerm rest is k tape = ap (λ (u : List ℕ). reverse u ++ []) (sym (k.permutes refl))
outside_left op rest is k tape = off is
