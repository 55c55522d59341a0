use Rattle.masm_flat.proofs.Words.{◌≡◌, ℕ, ◌<◌, length, take, get_or}
use Rattle.masm_names.specs.UsedPlaces.{times_among}
use Rattle.masm_flat.proofs.table.Table.expect.Given as goal

abbrev pub invariant-loop-place : goal.invariant-loop-place
invariant-loop-place l = record {
  lists : l.self.lists ≡ l.fn.self.lists;
  left : (q : ℕ) → q < length l.fn.self.left.items → get_or l.self.left.items q 0 ≡ times_among (take l.place-index l.uses) q;
  count : length l.self.left.items ≡ length l.fn.self.left.items;
}
