-- What an operation sees of a well-formed state, and how deep the stack is behind it.
use Rattle.std.specs.Prelude.{◌≡◌, ℕ, ◌+◌, ◌-◌, ◌<◌, max, length}
use Rattle.vm_field.specs.Limits.{number_of_constants}
use Rattle.vm_field.specs.Field.{prime, AreElements}
use Rattle.vm_ops.specs.declared.op.Op.{Op}
use Rattle.vm_ops.specs.Moves.{takes_of, leaves_of}
use Rattle.vm_ops.specs.Values.{Seen, advice_of}

-- sixteen cells, words of four elements, and as much advice as the operation takes
pub record IsSeenBy (op : Op) (s : Seen) : Type 0 where
  pub constants : length s.constants ≡ number_of_constants
  pub cells : length s.cells ≡ 16
  pub word : length s.word ≡ 4
  pub digest : length s.digest ≡ 4
  pub advice : length s.advice ≡ advice_of op

-- each part that an operation may leave in the state is made of elements
pub record IsMadeOfElements (s : Seen) : Type 0 where
  pub immediate : s.immediate < prime
  pub advice : AreElements s.advice
  pub word : AreElements s.word
  pub fmp : s.fmp < prime
  pub digest : AreElements s.digest
  pub cells : AreElements s.cells

-- the depth behind an operation
abbrev pub depth_after : Op → ℕ → ℕ
depth_after op depth = max 16 (leaves_of op + (depth - takes_of op))
