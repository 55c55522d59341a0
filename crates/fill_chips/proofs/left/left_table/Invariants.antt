use Rattle.fill_chips.proofs.Words.{◌≡◌, [], ◌∷◌, map, take}
use Rattle.fill_chips.proofs.left.left_table.Given as goal

abbrev pub invariant-loop-key : goal.invariant-loop-key
invariant-loop-key l = l.table ≡ map (λ key. key ∷ []) (take l.key-index l.keys)
