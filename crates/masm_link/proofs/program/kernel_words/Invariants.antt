use Rattle.std.proofs.Common.{◌≡◌, ◌≤◌, length, map, take}
use Rattle.block_tree.specs.Kernels.{AreDistinct}
use Rattle.masm_link.specs.Assembling.{without_repeats}
use Rattle.masm_link.proofs.program.kernel_words.Given as goal

abbrev pub invariant-loop-export : goal.invariant-loop-export
invariant-loop-export l =
    (l.words ≡ without_repeats (map (λ e. e.digest) (take l.export-index l.exports))) × (length l.words ≤ l.export-index) × AreDistinct l.words
