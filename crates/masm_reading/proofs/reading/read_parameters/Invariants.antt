use Rattle.std.proofs.Common.{◌≡◌, ◌++◌, map, drop}
use Rattle.std.specs.Option.{option_map}
use Rattle.masm_reading.specs.Reading.{parameters_of}
use Rattle.masm_reading.proofs.reading.read_parameters.Given as goal

abbrev pub invariant-loop-part : goal.invariant-loop-part
invariant-loop-part l =
    option_map (λ more. l.numbers ++ more) (parameters_of l.consts l.constants (map (λ part. part.now) (drop l.part-index l.parts)))
    ≡ parameters_of l.consts l.constants (map (λ part. part.now) l.parts)
