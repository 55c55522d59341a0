-- Where a cycle belongs, told by the walk behind it: the levels from the one of its instruction outwards.
--
-- An operation belongs to its instruction, and the moves of the frame pointer around a body with locals to the header of its procedure.
-- The cycle that starts the block of a statement belongs to the statement, and so do that block's END and REPEAT. A start of a join or a
-- span, and RESPAN, belong to the statement that comes next; NOOP, and END of a join or a span, to the one that came last.
use Rattle.std.specs.Prelude.{ℕ, ◌==◌, ◌&&◌, Bool, true, false, if◌then◌else◌, List, drop}
use Rattle.vm_ops.specs.Codes.{kind_of}
use Rattle.vm_ops.specs.declared.kind.Kind.{Kind}
use Rattle.vm_ops.specs.declared.kind.Kind.TheVariants as kinds
use Rattle.vm_ops.specs.declared.op.Op.{Op}
use Rattle.masm_places.specs.Pending.{Level, Walk}

-- whether the block of a statement starts
abbrev pub starts_part : Kind → Bool
starts_part kinds.Ordinary = false
starts_part kinds.Join = false
starts_part kinds.Split = true
starts_part kinds.Loop = true
starts_part kinds.Span = false
starts_part kinds.Call = true
starts_part kinds.Syscall = true
starts_part kinds.Dyn = true
starts_part kinds.End = false
starts_part kinds.Repeat = false
starts_part kinds.Respan = false
starts_part kinds.Halt = false

-- The level that the cycle has begun is not told. Inside a dynamic block none is begun, and a join or a span more is open.
abbrev pub skipped : Op → Walk → ℕ
skipped op w = if starts_part (kind_of op) && w.nested == 0 then 1 else 0

abbrev pub told : Op → Walk → List Level
told op w = drop (skipped op w) w.levels
