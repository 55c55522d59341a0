-- Accesses of memory: their order, and the word that stands before each.
use Rattle.std.specs.Prelude.{◌≡◌, ℕ, ◌+◌, ◌*◌, ◌^◌, ◌==◌, ◌&&◌, Bool, if◌then◌else◌, List, [], ◌∷◌, drop, Option, Some, None}
use Rattle.vm_field.specs.Machine.{zero_word}
use Rattle.chip_columns.specs.MemoryColumns.{kind, ctx, addr, clk, v}
use Rattle.air_kit.specs.declared.requests.Access.{Access}

-- the access that a row shows
abbrev pub access_of : List ℕ → Access
access_of row = record {
  kind = kind row;
  ctx = ctx row;
  addr = addr row;
  clk = clk row;
  word = v row 0 ∷ v row 1 ∷ v row 2 ∷ v row 3 ∷ [];
}

-- Accesses stand by context, then by address, then by clock, where each is below 2^32.
abbrev pub access_key : Access → ℕ
access_key a = (a.ctx * 2 ^ 32 + a.addr) * 2 ^ 32 + a.clk

-- an access of this address in this context
abbrev pub is_at : Access → ℕ → ℕ → Bool
is_at a context address = (a.ctx == context) && (a.addr == address)

-- the word before an access that stands behind another one: zeros where it is the first one of its word
abbrev pub word_behind : Option Access → Access → List ℕ
word_behind None a = zero_word
word_behind (Some before) a = if is_at before a.ctx a.addr then before.word else zero_word

-- What an access does not write is as it was: the whole word where it reads, all but element 0 where it writes this one alone.
pub record Keeps (a : Access) (before : List ℕ) : Type 0 where
  pub reads : a.kind ≡ 0 → a.word ≡ before
  pub keeps : a.kind ≡ 2 → drop 1 a.word ≡ drop 1 before
