-- The entries of memory's table: accesses ordered by context, address and clock, each with the word behind it.
use Rattle.std.specs.Prelude.{ℕ, ◌+◌, Bool, ◌==◌, List, [], ◌∷◌, ◌++◌, Option}
use Rattle.vm_field.specs.Signs.{◌⊞◌, ◌⊟◌, ◌⊠◌}
use Rattle.chip_columns.specs.MemoryColumns.{kind, ctx, addr, clk, v, n0, n1, d0, d1, a0, a1}
use Rattle.air_kit.specs.Places.{Spot, family}
use Rattle.air_kit.specs.ChipPlaces.{only, paired}
use Rattle.air_kit.specs.HasherValues.{bit_value}

-- by how much the order grows, less one
unfoldable pub step_of : List ℕ → ℕ
step_of row = d0 row ⊞ 65536 ⊠ d1 row

-- 1 where the row accesses the word of the row before, else 0
unfoldable pub goes_on_here : List ℕ → ℕ
goes_on_here row = 1 ⊟ n0 row ⊟ n1 row

-- the context, the address or the clock grows, by one more than the row says
unfoldable pub order_step : List ℕ → List ℕ → ℕ
order_step x y =
    n0 y ⊠ (ctx y ⊟ ctx x ⊟ 1 ⊟ step_of y) ⊞ n1 y ⊠ (addr y ⊟ addr x ⊟ 1 ⊟ step_of y)
    ⊞ goes_on_here y ⊠ (clk y ⊟ clk x ⊟ 1 ⊟ step_of y)

-- not 0 where element 0 is not written, and where the others are not
abbrev pub read_factor : List ℕ → ℕ
read_factor row = (kind row ⊟ 1) ⊠ (kind row ⊟ 2)

abbrev pub kept_factor : List ℕ → ℕ
kept_factor row = kind row ⊟ 1

-- what element j would have been without a write is taken off: that of the row before where it has the same word, else 0
abbrev pub element_change : List ℕ → List ℕ → ℕ → ℕ
element_change x y j = v y j ⊟ goes_on_here y ⊠ v x j

-- the kind is 0, 1 or 2
unfoldable pub entry_1 : List ℕ → ℕ
entry_1 row = kind row ⊠ (kind row ⊟ 1) ⊠ (kind row ⊟ 2)

-- the flags are bits, and not both are set
abbrev pub entry_2 : List ℕ → ℕ
entry_2 row = bit_value (n0 row)

abbrev pub entry_3 : List ℕ → ℕ
entry_3 row = bit_value (n1 row)

abbrev pub entry_4 : List ℕ → ℕ
entry_4 row = n0 row ⊠ n1 row

-- the address is the number of its limbs
unfoldable pub entry_5 : List ℕ → ℕ
entry_5 row = addr row ⊟ a0 row ⊟ 65536 ⊠ a1 row

-- the first row's context is new
abbrev pub entry_6 : Bool → List ℕ → ℕ
entry_6 first row = only first (1 ⊟ n0 row)

-- the context stays where it is not a new one
abbrev pub entry_7 : List ℕ → Option (List ℕ) → ℕ
entry_7 x next = paired (λ y. (1 ⊟ n0 y) ⊠ (ctx y ⊟ ctx x)) next

-- so does the address, where neither is new
abbrev pub entry_8 : List ℕ → Option (List ℕ) → ℕ
entry_8 x next = paired (λ y. (1 ⊟ n0 y) ⊠ (1 ⊟ n1 y) ⊠ (addr y ⊟ addr x)) next

-- the accesses stand in order
abbrev pub entry_9 : List ℕ → Option (List ℕ) → ℕ
entry_9 x next = paired (λ y. order_step x y) next

-- in the first row element 0 is 0 where it is not written
abbrev pub entry_10 : Bool → List ℕ → ℕ
entry_10 first row = only first (read_factor row ⊠ v row 0)

-- 11 + j: so is element j + 1
abbrev pub entry_11 : ℕ → Bool → List ℕ → ℕ
entry_11 j first row = only first (kept_factor row ⊠ v row (j + 1))

-- in a further row element 0 is as it was where it is not written
abbrev pub entry_14 : List ℕ → Option (List ℕ) → ℕ
entry_14 x next = paired (λ y. read_factor y ⊠ element_change x y 0) next

-- 15 + j: so is element j + 1
abbrev pub entry_15 : ℕ → List ℕ → Option (List ℕ) → ℕ
entry_15 j x next = paired (λ y. kept_factor y ⊠ element_change x y (j + 1)) next

-- 1 to 9: kinds, flags, addresses and the order
unfoldable pub access_values : Spot → List ℕ
access_values p =
    entry_1 p.cur ∷ entry_2 p.cur ∷ entry_3 p.cur ∷ entry_4 p.cur ∷ entry_5 p.cur ∷ entry_6 (p.row == 0) p.cur
    ∷ entry_7 p.cur p.next ∷ entry_8 p.cur p.next ∷ entry_9 p.cur p.next ∷ []

-- 10 to 17: what is not written is as it was: zero, or the word of the row before
unfoldable pub word_values : Spot → List ℕ
word_values p =
    entry_10 (p.row == 0) p.cur
    ∷ (family 3 (λ j. entry_11 j (p.row == 0) p.cur) ++ (entry_14 p.cur p.next ∷ family 3 (λ j. entry_15 j p.cur p.next)))

unfoldable pub memory_values : Spot → List ℕ
memory_values p = access_values p ++ word_values p
