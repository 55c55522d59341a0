-- Entries 92 to 114 of the main table: how a span's rows take the groups and the immediates of its batches.
use Rattle.std.specs.Prelude.{ℕ, ◌+◌, ◌==◌, nat_lt, if◌then◌else◌, List, [], ◌∷◌, ◌++◌}
use Rattle.vm_field.specs.Signs.{◌⊞◌, ◌⊟◌, ◌⊠◌}
use Rattle.vm_ops.specs.declared.op.Op.TheVariants as ops
use Rattle.vm_table.specs.MainColumns.{b, h, sp, gc, ox, c, w}
use Rattle.air_kit.specs.Places.{RowEntry, PairEntry, Spot, on_row, on_pair, family}
use Rattle.air_kit.specs.BlockValues.{batches}

-- the number of the row's operation
unfoldable pub opcode_in : List ℕ → ℕ
opcode_in x = b x 0 ⊞ 2 ⊠ b x 1 ⊞ 4 ⊠ b x 2 ⊞ 8 ⊠ b x 3 ⊞ 16 ⊠ b x 4 ⊞ 32 ⊠ b x 5 ⊞ 64 ⊠ b x 6

-- what is left of the group without the row's operation
unfoldable pub rest : List ℕ → ℕ
rest x = h x 0 ⊟ opcode_in x

-- 1 where something is left, else 0: the witness is the inverse
unfoldable pub rest_flag : List ℕ → ℕ
rest_flag x = rest x ⊠ w x 3

-- 1 where the group goes on: something is left of it, or a PUSH waits for its NOOP
unfoldable pub goes_on : RowEntry
goes_on fl x = rest_flag x ⊞ fl ops.Push ⊠ (1 ⊟ rest_flag x)

-- how many of the flags of positions in use are set
unfoldable pub size_flags : List ℕ → ℕ
size_flags x = c x 0 ⊞ c x 1 ⊞ c x 2

-- 1 where position q of a batch is not in use, from q = 1 on
unfoldable pub unused : ℕ → List ℕ → ℕ
unused q x =
    if q == 1 then 1 ⊟ c x 0 ⊟ c x 1 ⊟ c x 2 else if nat_lt q 4 then 1 ⊟ c x 0 ⊟ c x 1 else 1 ⊟ c x 0

-- 92 to 94: the flags of positions in use are 0 or 1
unfoldable pub entry_92 : ℕ → RowEntry
entry_92 j fl x = batches fl ⊠ c x j ⊠ (c x j ⊟ 1)

-- and at most one is 1
unfoldable pub entry_95 : RowEntry
entry_95 fl x = batches fl ⊠ size_flags x ⊠ (size_flags x ⊟ 1)

-- 96 to 102: a position that is not in use is 0
unfoldable pub entry_96 : ℕ → RowEntry
entry_96 j fl x = batches fl ⊠ unused (j + 1) x ⊠ h x (j + 1)

-- one of the positions that a smaller count would leave out is not 0: no more are in use than need be
unfoldable pub entry_103 : RowEntry
entry_103 fl x =
    batches fl
    ⊠ (c x 0 ⊠ (h x 4 ⊠ w x 0 ⊞ h x 5 ⊠ w x 1 ⊞ h x 6 ⊠ w x 2 ⊞ h x 7 ⊠ w x 3 ⊟ 1)
    ⊞ c x 1 ⊠ (h x 2 ⊠ w x 0 ⊞ h x 3 ⊠ w x 1 ⊟ 1) ⊞ c x 2 ⊠ (h x 1 ⊠ w x 0 ⊟ 1))

-- the first operation has position 0 as its group
unfoldable pub entry_104 : PairEntry
entry_104 fl gl x y = batches fl ⊠ (h y 0 ⊟ h x 0)

-- all other positions are left
unfoldable pub entry_105 : PairEntry
entry_105 fl gl x y = batches fl ⊠ (gc y ⊟ 7 ⊠ c x 0 ⊟ 3 ⊠ c x 1 ⊟ c x 2)

-- and it is the first of its group
unfoldable pub entry_106 : PairEntry
entry_106 fl gl x y = batches fl ⊠ ox y

-- where something is left of the group, the flag is 1
unfoldable pub entry_107 : RowEntry
entry_107 fl x = sp x ⊠ rest x ⊠ (1 ⊟ rest_flag x)

-- a group that goes on goes on in the next row
unfoldable pub entry_108 : PairEntry
entry_108 fl gl x y = sp x ⊠ goes_on fl x ⊠ (1 ⊟ sp y)

-- with what is left, one operation down
unfoldable pub entry_109 : PairEntry
entry_109 fl gl x y = sp x ⊠ goes_on fl x ⊠ (128 ⊠ h y 0 ⊟ rest x)

-- and one place up
unfoldable pub entry_110 : PairEntry
entry_110 fl gl x y = sp x ⊠ goes_on fl x ⊠ (ox y ⊟ ox x ⊟ 1)

-- a new group begins at place 0
unfoldable pub entry_111 : PairEntry
entry_111 fl gl x y = sp x ⊠ (1 ⊟ goes_on fl x) ⊠ sp y ⊠ ox y

-- a batch ends where no position is left
unfoldable pub entry_112 : PairEntry
entry_112 fl gl x y = sp x ⊠ (1 ⊟ sp y) ⊠ gc x

-- an immediate takes a position, and so does a new group
unfoldable pub entry_113 : PairEntry
entry_113 fl gl x y = sp x ⊠ sp y ⊠ (gc y ⊟ gc x ⊞ fl ops.Push ⊞ 1 ⊟ goes_on fl x)

-- a group has nine operations at most
unfoldable pub entry_114 : RowEntry
entry_114 fl x =
    sp x ⊠ ox x ⊠ (ox x ⊟ 1) ⊠ (ox x ⊟ 2) ⊠ (ox x ⊟ 3) ⊠ (ox x ⊟ 4) ⊠ (ox x ⊟ 5) ⊠ (ox x ⊟ 6) ⊠ (ox x ⊟ 7) ⊠ (ox x ⊟ 8)

-- 92 to 106
unfoldable pub batch_values : Spot → List ℕ
batch_values p =
    family 3 (λ j. on_row (entry_92 j) p)
    ++ (on_row entry_95 p
    ∷ (family 7 (λ j. on_row (entry_96 j) p)
    ++ (on_row entry_103 p ∷ on_pair entry_104 p ∷ on_pair entry_105 p ∷ on_pair entry_106 p ∷ [])))

-- 107 to 114
unfoldable pub group_values : Spot → List ℕ
group_values p =
    on_row entry_107 p ∷ on_pair entry_108 p ∷ on_pair entry_109 p ∷ on_pair entry_110 p ∷ on_pair entry_111 p
    ∷ on_pair entry_112 p ∷ on_pair entry_113 p ∷ on_row entry_114 p ∷ []

unfoldable pub span_values : Spot → List ℕ
span_values p = batch_values p ++ group_values p
