use Rattle.std.proofs.Common.{◌≡◌, ◌*◌, length, take}
use Rattle.merkle_lib.specs.Paths.{tape_of}
use Rattle.merkle_lib.proofs.programs.inputs.Given as goal

-- the steps so far, of five elements each
abbrev pub invariant-loop-step : goal.invariant-loop-step
invariant-loop-step l = record {
  tape : l.advice ≡ tape_of (take l.step-index l.path);
  count : length l.advice ≡ 5 * l.step-index;
}
