-- The answer of the bus's tally.
use Rattle.bus_kit.proofs.tallies.Tallies.unequal.Goals as goal

pub returns-in-Blocks : goal.returns-in-Blocks
returns-in-Blocks c = rw c.in-Blocks.is c.unequal.ensures.least

pub returns-in-Children : goal.returns-in-Children
returns-in-Children c = rw c.in-Children.is c.unequal-in-Children.ensures.least

pub returns-in-Loops : goal.returns-in-Loops
returns-in-Loops c = rw c.in-Loops.is c.unequal-in-Loops.ensures.least

pub returns-in-Groups : goal.returns-in-Groups
returns-in-Groups c = rw c.in-Groups.is c.unequal-in-Groups.ensures.least

pub returns-in-Overflow : goal.returns-in-Overflow
returns-in-Overflow c = rw c.in-Overflow.is c.unequal-in-Overflow.ensures.least

pub returns-in-Hasher : goal.returns-in-Hasher
returns-in-Hasher c = rw c.in-Hasher.is c.unequal-in-Hasher.ensures

pub returns-in-Bitwise : goal.returns-in-Bitwise
returns-in-Bitwise c = rw c.in-Bitwise.is c.unequal-in-Bitwise.ensures.least

pub returns-in-Memory : goal.returns-in-Memory
returns-in-Memory c = rw c.in-Memory.is c.unequal-in-Memory.ensures.least

pub returns-in-Range : goal.returns-in-Range
returns-in-Range c = rw c.in-Range.is c.unequal-in-Range.ensures

pub returns-in-Kernel : goal.returns-in-Kernel
returns-in-Kernel c = rw c.in-Kernel.is c.unequal-in-Kernel.ensures.least
