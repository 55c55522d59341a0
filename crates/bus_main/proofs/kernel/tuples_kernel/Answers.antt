-- By the row's operation.
use Rattle.bus_main.proofs.KernelLemmas.{kernel_called, no_call, not_syscall}
use Rattle.bus_kit.specs.Widths.{tallied}
use Rattle.bus_main.proofs.kernel.tuples_kernel.Goals as goal

pub returns-in-Syscall : goal.returns-in-Syscall
returns-in-Syscall g c = λ next. kernel_called _ _ _ _ _ next _ _ c.requires.op c.in-Syscall.is c.digest.ensures c.ask.ensures

pub returns-in_default : goal.returns-in_default
returns-in_default g c = λ next. no_call 1 (tallied c.args.tally.now) _ next c.args.op c.requires.op (not_syscall c.args.op c.in_default.not-Syscall)
