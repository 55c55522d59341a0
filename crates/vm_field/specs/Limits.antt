-- The limits of the machine, of its programs and of its files, each once (docs/FORMATS.md, docs/MACHINE.md). The rows of tables have
-- theirs in air_kit.
use Rattle.std.specs.Prelude.{ℕ, ◌+◌}

-- the bytes of a file's name
abbrev pub most_name_bytes : ℕ
most_name_bytes = 200

-- the bytes of a source
abbrev pub most_source_bytes : ℕ
most_source_bytes = 1048576

-- the constants of the permutation: twelve first and twelve second ones for each of seven rounds
abbrev pub number_of_constants : ℕ
number_of_constants = 168

-- the cycles of a run
abbrev pub most_cycles : ℕ
most_cycles = 524287

-- the cells of the stack that instructions reach, and that always stand
abbrev pub least_depth : ℕ
least_depth = 16

-- the cells of the stack at the start
abbrev pub most_inputs : ℕ
most_inputs = 1024

-- those at the end: a cycle adds one at most
abbrev pub most_outputs : ℕ
most_outputs = most_cycles + most_inputs

-- the elements of the tape
abbrev pub most_advice : ℕ
most_advice = 1048576

-- the procedures of a kernel
abbrev pub most_kernel : ℕ
most_kernel = 255

-- the blocks that are open at once
abbrev pub most_nesting : ℕ
most_nesting = 1024

-- the operations of a procedure's list, and of a program
abbrev pub most_operations : ℕ
most_operations = 524288
