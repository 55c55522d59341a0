use Rattle.std.proofs.Common.{None, ap, ap₂, ◌∙◌}
use Rattle.air_kit.specs.Places.{first_fault_of}
use Rattle.air_kit.specs.RangeValues.{range_values}
use Rattle.air_kit.specs.HasherValues.{hasher_values}
use Rattle.air_kit.specs.BitwiseValues.{bitwise_values}
use Rattle.air_kit.specs.MemoryValues.{memory_values}
use Rattle.air_kit.specs.KernelValues.{kernel_values}
use Rattle.air_kit.specs.declared.trace.TableName.TheVariants as table
use Rattle.checker.specs.Settings.{claim_in}
use Rattle.checker.proofs.RowLemmas.{row_answer, row_renamed, left_zero}
use Rattle.checker.proofs.rows.row_fault.Goals as goal

pub returns-in-Main : goal.returns-in-Main
returns-in-Main c =
    row_renamed (claim_in c.args.setting.now) c.args.trace.now c.args.name table.Main c.args.row _ c.in-Main.is
    (row_answer (claim_in c.args.setting.now) c.args.trace.now table.Main c.args.row c.main_fault.result c.main_fault.ensures)

pub returns-in-Range : goal.returns-in-Range
returns-in-Range c =
    row_renamed (claim_in c.args.setting.now) c.args.trace.now c.args.name table.Range c.args.row _ c.in-Range.is
    (row_answer (claim_in c.args.setting.now) c.args.trace.now table.Range c.args.row c.first_fault_range.result
    (c.first_fault_range.ensures ∙ ap (λ p. first_fault_of 1 (range_values p)) c.place.ensures.spot))

pub returns-in-Hasher : goal.returns-in-Hasher
returns-in-Hasher c =
    row_renamed (claim_in c.args.setting.now) c.args.trace.now c.args.name table.Hasher c.args.row _ c.in-Hasher.is
    (row_answer (claim_in c.args.setting.now) c.args.trace.now table.Hasher c.args.row c.first_fault.result
    (c.first_fault.ensures ∙ ap₂ (λ k p. first_fault_of 1 (hasher_values k p)) c.place-in-Hasher.ensures.claim c.place-in-Hasher.ensures.spot))

pub returns-in-Bitwise : goal.returns-in-Bitwise
returns-in-Bitwise c =
    row_renamed (claim_in c.args.setting.now) c.args.trace.now c.args.name table.Bitwise c.args.row _ c.in-Bitwise.is
    (row_answer (claim_in c.args.setting.now) c.args.trace.now table.Bitwise c.args.row c.first_fault-in-Bitwise.result
    (c.first_fault-in-Bitwise.ensures ∙ ap (λ p. first_fault_of 1 (bitwise_values p)) c.place-in-Bitwise.ensures.spot))

pub returns-in-Memory : goal.returns-in-Memory
returns-in-Memory c =
    row_renamed (claim_in c.args.setting.now) c.args.trace.now c.args.name table.Memory c.args.row _ c.in-Memory.is
    (row_answer (claim_in c.args.setting.now) c.args.trace.now table.Memory c.args.row c.first_fault-in-Memory.result
    (c.first_fault-in-Memory.ensures ∙ ap (λ p. first_fault_of 1 (memory_values p)) c.place-in-Memory.ensures.spot))

pub returns-in-Kernel : goal.returns-in-Kernel
returns-in-Kernel c =
    row_renamed (claim_in c.args.setting.now) c.args.trace.now c.args.name table.Kernel c.args.row _ c.in-Kernel.is
    (row_answer (claim_in c.args.setting.now) c.args.trace.now table.Kernel c.args.row c.first_fault_kernel.result
    (c.first_fault_kernel.ensures ∙ ap₂ (λ k p. first_fault_of 1 (kernel_values k p)) c.place-in-Kernel.ensures.claim c.place-in-Kernel.ensures.spot))

pub returns-in-Left : goal.returns-in-Left
returns-in-Left c =
    row_renamed (claim_in c.args.setting.now) c.args.trace.now c.args.name table.Left c.args.row None c.in-Left.is
    (left_zero (claim_in c.args.setting.now) c.args.trace.now c.args.row)
