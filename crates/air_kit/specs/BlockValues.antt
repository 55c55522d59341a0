-- Entries 60 to 91 of the main table: which operation may follow which, what a block's row shows, and what is kept between rows.
use Rattle.std.specs.Prelude.{ℕ, ◌+◌, ◌^◌, List, [], ◌∷◌, ◌++◌}
use Rattle.vm_field.specs.Signs.{◌⊞◌, ◌⊟◌, ◌⊠◌}
use Rattle.vm_ops.specs.Codes.{is_ordinary_op, is_start_op}
use Rattle.vm_ops.specs.declared.op.Op.TheVariants as ops
use Rattle.vm_table.specs.MainColumns.{clk, fmp, ctx, sys, f, addr, h, sp, s, ha, lv}
use Rattle.air_kit.specs.Flags.{Flags, flags_of}
use Rattle.air_kit.specs.Places.{RowEntry, PairEntry, Spot, on_row, on_pair, family}

-- the row starts a block
unfoldable pub starts : Flags → ℕ
starts fl = flags_of is_start_op fl

-- the row starts a batch
unfoldable pub batches : Flags → ℕ
batches fl = fl ops.Span ⊞ fl ops.Respan

-- the row calls
unfoldable pub calls : Flags → ℕ
calls fl = fl ops.Call ⊞ fl ops.Syscall

-- the row ends a call
unfoldable pub returns : RowEntry
returns fl x = fl ops.End ⊠ (h x 6 ⊞ h x 7)

-- the context, the frame pointer and the digest of the function are kept: the row neither calls nor ends a call
unfoldable pub stays_inside : RowEntry
stays_inside fl x = 1 ⊟ calls fl ⊟ returns fl x

-- nothing follows HALT
unfoldable pub entry_60 : PairEntry
entry_60 fl gl x y = fl ops.Halt

-- sp is 1 exactly in the rows of ordinary operations
unfoldable pub entry_61 : RowEntry
entry_61 fl x = sp x ⊟ flags_of is_ordinary_op fl

-- a child, or a body, starts behind the block's row
unfoldable pub entry_62 : PairEntry
entry_62 fl gl x y =
    (fl ops.Join ⊞ fl ops.Split ⊞ calls fl ⊞ fl ops.Repeat ⊞ fl ops.Dyn ⊞ fl ops.Loop ⊠ s x 0) ⊠ (1 ⊟ starts gl)

-- a loop that is not entered ends
unfoldable pub entry_63 : PairEntry
entry_63 fl gl x y = fl ops.Loop ⊠ (1 ⊟ s x 0) ⊠ (1 ⊟ gl ops.End)

-- a batch begins with an operation
unfoldable pub entry_64 : PairEntry
entry_64 fl gl x y = batches fl ⊠ (1 ⊟ sp y)

-- behind an operation comes another one, the span's end, or its next batch
unfoldable pub entry_65 : PairEntry
entry_65 fl gl x y = sp x ⊠ (1 ⊟ sp y ⊟ gl ops.End ⊟ gl ops.Respan)

-- behind an end comes a start, another end, REPEAT or HALT
unfoldable pub entry_66 : PairEntry
entry_66 fl gl x y = fl ops.End ⊠ (1 ⊟ starts gl ⊟ gl ops.End ⊟ gl ops.Repeat ⊟ gl ops.Halt)

-- a condition is 0 or 1
unfoldable pub entry_67 : RowEntry
entry_67 fl x = (fl ops.Split ⊞ fl ops.Loop) ⊠ s x 0 ⊠ (s x 0 ⊟ 1)

-- a loop goes on where its condition is 1
unfoldable pub entry_68 : RowEntry
entry_68 fl x = fl ops.Repeat ⊠ (s x 0 ⊟ 1)

-- and ends where it is 0
unfoldable pub entry_69 : RowEntry
entry_69 fl x = fl ops.End ⊠ h x 4 ⊠ s x 0

-- 70 to 73: at an END the hash elements 4 to 7 are flags
unfoldable pub entry_70 : ℕ → RowEntry
entry_70 j fl x = fl ops.End ⊠ h x (4 + j) ⊠ (h x (4 + j) ⊟ 1)

-- their sum
unfoldable pub kind_flags : List ℕ → ℕ
kind_flags x = h x 4 ⊞ h x 5 ⊞ h x 6 ⊞ h x 7

-- of which at most one is 1
unfoldable pub entry_74 : RowEntry
entry_74 fl x = fl ops.End ⊠ kind_flags x ⊠ (kind_flags x ⊟ 1)

-- 75 to 78: behind a single child's digest stand zeros; a dynamic block is hashed as zeros throughout (148 to 151)
unfoldable pub entry_75 : ℕ → RowEntry
entry_75 j fl x = (fl ops.Loop ⊞ calls fl ⊞ fl ops.Dyn) ⊠ h x (4 + j)

-- no call inside a syscall
unfoldable pub entry_79 : RowEntry
entry_79 fl x = calls fl ⊠ sys x

-- CALLER inside a syscall alone
unfoldable pub entry_80 : RowEntry
entry_80 fl x = fl ops.Caller ⊠ (1 ⊟ sys x)

-- at HALT no block is open
unfoldable pub entry_81 : RowEntry
entry_81 fl x = fl ops.Halt ⊠ addr x

-- a call's context is its clock and one, a syscall's is 0
unfoldable pub entry_82 : PairEntry
entry_82 fl gl x y =
    fl ops.Call ⊠ (ctx y ⊟ clk x ⊟ 1) ⊞ fl ops.Syscall ⊠ ctx y ⊞ stays_inside fl x ⊠ (ctx y ⊟ ctx x)

-- the frame pointer starts at 2^30 in a call, at 2^31 in a syscall, and moves at FMPUPDATE alone
unfoldable pub entry_83 : PairEntry
entry_83 fl gl x y =
    fl ops.Call ⊠ (fmp y ⊟ 2 ^ 30) ⊞ fl ops.Syscall ⊠ (fmp y ⊟ 2 ^ 31) ⊞ fl ops.FmpUpdate ⊠ (fmp y ⊟ fmp x ⊟ s x 0)
    ⊞ (stays_inside fl x ⊟ fl ops.FmpUpdate) ⊠ (fmp y ⊟ fmp x)

-- the bit of a syscall
unfoldable pub entry_84 : PairEntry
entry_84 fl gl x y = fl ops.Call ⊠ sys y ⊞ fl ops.Syscall ⊠ (sys y ⊟ 1) ⊞ stays_inside fl x ⊠ (sys y ⊟ sys x)

-- 85 to 88: a call's function is its child; a syscall keeps the caller's
unfoldable pub entry_85 : ℕ → PairEntry
entry_85 j fl gl x y = fl ops.Call ⊠ (f y j ⊟ h x j) ⊞ (1 ⊟ fl ops.Call ⊟ returns fl x) ⊠ (f y j ⊟ f x j)

-- the block stays the same but at starts and ends
unfoldable pub entry_89 : PairEntry
entry_89 fl gl x y = (1 ⊟ starts fl ⊟ fl ops.End) ⊠ (addr y ⊟ addr x)

-- the open blocks are counted
unfoldable pub entry_90 : PairEntry
entry_90 fl gl x y = lv y ⊟ lv x ⊟ starts fl ⊞ fl ops.End

-- a span's batches lie one behind the other in the hasher
unfoldable pub entry_91 : PairEntry
entry_91 fl gl x y =
    fl ops.Span ⊠ (ha y ⊟ addr y) ⊞ fl ops.Respan ⊠ (ha y ⊟ ha x ⊟ 8) ⊞ sp x ⊠ (ha y ⊟ ha x)

-- 60 to 69
unfoldable pub follow_values : Spot → List ℕ
follow_values p =
    on_pair entry_60 p ∷ on_row entry_61 p ∷ on_pair entry_62 p ∷ on_pair entry_63 p ∷ on_pair entry_64 p ∷ on_pair entry_65 p
    ∷ on_pair entry_66 p ∷ on_row entry_67 p ∷ on_row entry_68 p ∷ on_row entry_69 p ∷ []

-- 70 to 81
unfoldable pub shown_values : Spot → List ℕ
shown_values p =
    family 4 (λ j. on_row (entry_70 j) p)
    ++ (on_row entry_74 p
    ∷ (family 4 (λ j. on_row (entry_75 j) p) ++ (on_row entry_79 p ∷ on_row entry_80 p ∷ on_row entry_81 p ∷ [])))

-- 82 to 91
unfoldable pub kept_values : Spot → List ℕ
kept_values p =
    on_pair entry_82 p ∷ on_pair entry_83 p ∷ on_pair entry_84 p
    ∷ (family 4 (λ j. on_pair (entry_85 j) p) ++ (on_pair entry_89 p ∷ on_pair entry_90 p ∷ on_pair entry_91 p ∷ []))

unfoldable pub block_values : Spot → List ℕ
block_values p = follow_values p ++ (shown_values p ++ kept_values p)
