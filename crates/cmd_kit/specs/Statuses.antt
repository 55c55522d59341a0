-- The exit statuses of the program, and what each speaks of.
use Rattle.std.specs.Prelude.{ℕ}
use Rattle.cmd_kit.specs.declared.status.Status.{Status}
use Rattle.cmd_kit.specs.declared.status.Status.TheVariants as status

abbrev pub number_of : Status → ℕ
number_of status.Ok = 0
number_of status.Refused = 1
number_of status.Usage = 2
number_of status.Source = 3
number_of status.Trap = 4
number_of status.OutOfCycles = 5
number_of status.Missing = 6
number_of status.ReadFault = 7
number_of status.WriteFault = 8
number_of status.SinkFault = 9
number_of status.Malformed = 10
number_of status.TooLong = 11
number_of status.Memory = 12
number_of status.OtherProgram = 14
number_of status.Broken = 15

-- what a status speaks of
pub data StatusKind : Type 0 where
  planned : StatusKind  -- what the words and the files come to
  no_command : StatusKind  -- the words
  failed_read : StatusKind
  failed_write : StatusKind
  failed_print : StatusKind
  no_memory : StatusKind

abbrev pub kind_of : Status → StatusKind
kind_of status.Ok = planned
kind_of status.Refused = planned
kind_of status.Usage = no_command
kind_of status.Source = planned
kind_of status.Trap = planned
kind_of status.OutOfCycles = planned
kind_of status.Missing = planned
kind_of status.ReadFault = failed_read
kind_of status.WriteFault = failed_write
kind_of status.SinkFault = failed_print
kind_of status.Malformed = planned
kind_of status.TooLong = planned
kind_of status.Memory = no_memory
kind_of status.OtherProgram = planned
kind_of status.Broken = planned
