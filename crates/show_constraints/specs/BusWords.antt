-- What each bus is for, and what a false run could do without it: the words of docs/CONSTRAINTS.md, "Buses".
use Rattle.std.specs.Prelude.{ℕ, List, ◌++◌, codes}
use Rattle.buses.specs.Names.{text_of_bus}
use Rattle.buses.specs.declared.bus.Bus.{Bus}
use Rattle.buses.specs.declared.bus.Bus.TheVariants as bus

-- what it is for
abbrev pub purpose_of : Bus → List ℕ
purpose_of bus.Blocks =
    codes "each END closes the block that was started, returns to its parent, and a call gives back what it set aside"
purpose_of bus.Children =
    codes "the block that ran is the one that its parent's hash names, or, behind DYN, the digest on top of the stack, first child before "
    ++ codes "second; the outermost one has the statement's digest"
purpose_of bus.Loops = codes "each turn runs the loop's own body"
purpose_of bus.Groups = codes "groups and immediates are the positions of the batch, in order, each once"
purpose_of bus.Overflow = codes "cells below the sixteenth come back as they went"
purpose_of bus.Hasher = codes "a block's digest is the hash of what its start shows"
purpose_of bus.Bitwise = codes "the results of bitwise operations"
purpose_of bus.Memory = codes "words are what was written last"
purpose_of bus.Range = codes "numbers of 16 bits; no more than 1,024 blocks nest"
purpose_of bus.Kernel = codes "a syscall goes to a digest of the statement's kernel"

-- what a false run could do without it
abbrev pub harm_without : Bus → List ℕ
harm_without bus.Blocks =
    codes "end a block twice, or one that was never started, return to another parent, and bring back any context, frame, depth and cells "
    ++ codes "below the sixteenth behind a call"
harm_without bus.Children =
    codes "run any block in place of a child, run a join's first child alone or twice, and show a tree of another digest than the "
    ++ codes "statement's"
harm_without bus.Loops = codes "run another body at a later turn of a loop than at its first one"
harm_without bus.Groups = codes "run groups behind the first one, and push immediates, that are not the batch's"
harm_without bus.Overflow = codes "bring in any cell from below the sixteenth, and end with other outputs there"
harm_without bus.Hasher =
    codes "show a batch or children that the block's digest does not come from, and leave any state at HPERM"
harm_without bus.Bitwise = codes "leave any element at U32AND and U32XOR, and run them on operands of more than 32 bits"
harm_without bus.Memory = codes "read any word"
harm_without bus.Range =
    codes "take any element for a limb, so that words and addresses have no bound and memory may stand in any order, and nest more than "
    ++ codes "1,024 blocks"
harm_without bus.Kernel = codes "let a syscall go to any procedure"

abbrev pub bus_words : Bus → List ℕ
bus_words bus =
    codes "bus " ++ text_of_bus bus ++ codes " must be even: " ++ purpose_of bus ++ codes "; without it a false run could " ++ harm_without bus

abbrev pub bus_words_line : Bus → List ℕ
bus_words_line bus = bus_words bus ++ codes "\n"
