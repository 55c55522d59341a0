-- Where a run starts, the state is one of the machine.
use Rattle.std.proofs.Common.{ℕ, List, arith, lit<}
use Rattle.vm_field.specs.Field.{AreElements}
use Rattle.vm_field.specs.Machine.{IsWellFormed, start}
use Rattle.vm_field.proofs.Elements.{elements-filled_up, length-filled_up, word-zero}
use Rattle.vm_field.proofs.Places.{words-empty}

pub start-IsWellFormed : (inputs tape : List ℕ) → AreElements inputs → AreElements tape → IsWellFormed (start inputs tape)
unfolding start
start-IsWellFormed inputs tape inputs_below tape_below = record {
  core = record {
    deep = omega (arith, length-filled_up inputs);
    cells = elements-filled_up inputs inputs_below;
    fmp = lit< tt;
    digest = word-zero;
    words = words-empty;
  };
  tape = tape_below;
}
