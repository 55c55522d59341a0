-- The rows of accesses that stand in order.
use Rattle.std.specs.Prelude.{ℕ, ◌-◌, ◌/◌, ◌%◌, ◌^◌, ◌==◌, if◌then◌else◌, List, [], ◌∷◌, slice_index, Option, Some, None}
use Rattle.air_kit.specs.declared.requests.Access.{Access}

-- 1 where the context is a new one
abbrev pub new_context : Option Access → Access → ℕ
new_context None a = 1
new_context (Some before) a = if before.ctx == a.ctx then 0 else 1

-- 1 where the address is a new one in its context
abbrev pub new_address : Option Access → Access → ℕ
new_address None a = 0
new_address (Some before) a = if before.ctx == a.ctx then (if before.addr == a.addr then 0 else 1) else 0

-- by how much what is new has grown, less one
abbrev pub step_behind : Option Access → Access → ℕ
step_behind None a = 0
step_behind (Some before) a =
    if before.ctx == a.ctx
    then (if before.addr == a.addr then a.clk - before.clk - 1 else a.addr - before.addr - 1)
    else a.ctx - before.ctx - 1

-- the row of an access behind another one
unfoldable pub row_behind : Option Access → Access → List ℕ
row_behind before a =
    a.kind ∷ a.ctx ∷ a.addr ∷ a.clk ∷ slice_index a.word 0 ∷ slice_index a.word 1 ∷ slice_index a.word 2 ∷ slice_index a.word 3
    ∷ new_context before a ∷ new_address before a ∷ step_behind before a % 2 ^ 16 ∷ step_behind before a / 2 ^ 16 ∷ a.addr % 2 ^ 16
    ∷ a.addr / 2 ^ 16 ∷ []

-- those of accesses, one behind the other
unfoldable pub rows_behind : Option Access → List Access → List (List ℕ)
rows_behind before [] = []
rows_behind before (a ∷ accesses) = row_behind before a ∷ rows_behind (Some a) accesses

abbrev pub rows_of_accesses : List Access → List (List ℕ)
rows_of_accesses accesses = rows_behind None accesses
