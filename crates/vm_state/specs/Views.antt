-- A state as the definitions of the machine see it.
use Rattle.vm_field.specs.Machine as machine
use Rattle.vm_field.specs.Machine.{Core}
use Rattle.vm_state.specs.declared.state.State.{State}

-- all but the tape
abbrev pub core_of : State → Core
core_of s = record {
  clock = s.clock;
  context = s.context;
  fmp = s.fmp;
  in_syscall = s.in_syscall;
  digest = s.digest;
  nesting = s.nesting;
  stack = s.stack;
  memory = s.memory;
}

abbrev pub state_of : State → machine.State
state_of s = record { core = core_of s; tape = s.tape }
