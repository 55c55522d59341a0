-- What a terminal says by itself.
use Rattle.std.specs.Prelude.{Bool, true, false, List, [], ◌∷◌, map}
use Rattle.masm_reading.specs.declared.constant.Const.{Const}
use Rattle.masm_tree.specs.declared.tree.Position.{Position}
use Rattle.masm_tree.specs.declared.terminal.Role.{Role}
use Rattle.masm_tree.specs.declared.terminal.Role.TheVariants as roles
use Rattle.masm_tree.specs.declared.terminal.Terminal.{Terminal}
use Rattle.masm_tree.specs.declared.terminal.Terminal.TheVariants as terminals

-- which headers may stand in a kernel, and which in a program
abbrev pub may_begin : Bool → Role → Bool
may_begin kernel roles.Proc = true
may_begin true roles.Export = true
may_begin false roles.Export = false
may_begin true roles.Main = false
may_begin false roles.Main = true

-- whether it opens a statement that has bodies
abbrev pub is_opening : Terminal → Bool
is_opening (terminals.Const c) = false
is_opening (terminals.Header header) = false
is_opening (terminals.Leaf at leaf) = false
is_opening (terminals.If at) = true
is_opening terminals.Else = false
is_opening (terminals.While at) = true
is_opening (terminals.Repeat at times) = true
is_opening terminals.End = false

-- the constants of the tokens, in order
abbrev pub constants : List Terminal → List Const
constants [] = []
constants (terminals.Const c ∷ ts) = c ∷ constants ts
constants (terminals.Header header ∷ ts) = constants ts
constants (terminals.Leaf at l ∷ ts) = constants ts
constants (terminals.If at ∷ ts) = constants ts
constants (terminals.Else ∷ ts) = constants ts
constants (terminals.While at ∷ ts) = constants ts
constants (terminals.Repeat at times ∷ ts) = constants ts
constants (terminals.End ∷ ts) = constants ts

abbrev pub const_positions : List Const → List Position
const_positions consts = map (λ c. record { line = c.line; column = c.column }) consts

-- the place that a token adds to those of procedures and statements
abbrev pub terminal_positions : Terminal → List Position
terminal_positions (terminals.Const c) = []
terminal_positions (terminals.Header header) = header.at ∷ []
terminal_positions (terminals.Leaf at leaf) = at ∷ []
terminal_positions (terminals.If at) = at ∷ []
terminal_positions terminals.Else = []
terminal_positions (terminals.While at) = at ∷ []
terminal_positions (terminals.Repeat at times) = at ∷ []
terminal_positions terminals.End = []
