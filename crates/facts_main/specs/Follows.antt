-- Which operation may follow which.
use Rattle.std.specs.Prelude.{ℕ, Bool, false, ◌==◌, ◌||◌, if◌then◌else◌}
use Rattle.vm_ops.specs.Codes.{is_ordinary_op, is_start_op}
use Rattle.vm_ops.specs.declared.op.Op.{Op}
use Rattle.vm_ops.specs.declared.op.Op.TheVariants as ops
use Rattle.air_kit.specs.Flags.{is_op}
use Rattle.air_kit.specs.MainTuples.{is_batch_op}

-- Behind an ordinary operation comes another one, the END of the span or its next batch, and a batch begins with one. Behind the
-- END of a block comes a start, another END, REPEAT or HALT, and nothing comes behind HALT. A loop that finds 0 on top ends at
-- once. Behind every other row a block starts.
abbrev pub may_follow : Op → ℕ → Op → Bool
may_follow op top next =
    if is_ordinary_op op then is_ordinary_op next || is_op next ops.End || is_op next ops.Respan
    else if is_batch_op op then is_ordinary_op next
    else if is_op op ops.Loop then (if top == 0 then is_op next ops.End else is_start_op next)
    else if is_op op ops.End then is_start_op next || is_op next ops.End || is_op next ops.Repeat || is_op next ops.Halt
    else if is_op op ops.Halt then false else is_start_op next
