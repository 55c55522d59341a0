use Rattle.std.proofs.Common.{ap, arith, length}
use Rattle.vm_field.specs.Machine.{filled_up}
use Rattle.rpo_hash.specs.Constants.{constants_of}
use Rattle.merkle_lib.proofs.Cuts.{cut-is-path, length-tape, path_found}
use Rattle.merkle_lib.proofs.Law.{run-path}
use Rattle.merkle_lib.proofs.paths.path_of.Goals as goal

pub steps_on-requires : goal.steps_on-requires
steps_on-requires c =
    let constants = constants_of c.args.params.now in
    let found = run-path constants c.args.depth c.args.inputs.now c.args.tape.now c.known_constants.ensures.count
    c.len.ensures.below c.len-2.ensures.below c.requires in
    omega (
      arith,
      ap length c.as_slice.ensures.items,
      length-tape constants c.args.depth (filled_up c.args.inputs.now) c.args.tape.now found.0 found.1,
    )

pub returns : goal.returns
returns c =
    let constants = constants_of c.args.params.now in
    let found = run-path constants c.args.depth c.args.inputs.now c.args.tape.now c.known_constants.ensures.count
    c.len.ensures.below c.len-2.ensures.below c.requires in
    path_found constants c.args.depth (filled_up c.args.inputs.now) c.args.tape.now c.as_slice.result.now c.steps_on.result
    c.as_slice.ensures.items (cut-is-path constants c.args.depth (filled_up c.args.inputs.now) c.args.tape.now found.0 found.1)
    c.steps_on.ensures
