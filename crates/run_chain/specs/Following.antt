-- When a statement follows another one.
use Rattle.std.specs.Prelude.{◌≡◌, ℕ, List, []}
use Rattle.vm_field.specs.Machine.{start}
use Rattle.vm_state.specs.declared.statement.Statement.{Statement}

-- the stack with which a run on these inputs starts, whatever its tape is
abbrev pub first_stack : List ℕ → List ℕ
first_stack inputs = (start inputs []).core.stack

-- the outputs of a are the stack with which a run on the inputs of b starts
abbrev pub Follows : Statement → Statement → Type 0
Follows a b = a.outputs ≡ first_stack b.inputs
