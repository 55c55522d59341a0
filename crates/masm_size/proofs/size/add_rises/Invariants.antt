use Rattle.std.proofs.Common.{◌≡◌, ◌++◌, take}
use Rattle.masm_size.specs.Sizes.{top_of, rises_behind}
use Rattle.masm_size.proofs.size.add_rises.Given as goal

abbrev pub invariant-loop-rise : goal.invariant-loop-rise
invariant-loop-rise l =
    l.rises.items ≡ l.fn.rises.items ++ rises_behind l.offset (top_of 0 l.fn.rises.items) (take l.rise-index l.more)
