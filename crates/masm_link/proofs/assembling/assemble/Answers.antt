use Rattle.std.proofs.Common.{subst}
use Rattle.std.specs.Option.{option_map}
use Rattle.rpo_hash.specs.Constants.{constants_of}
use Rattle.masm_link.specs.Assembling.{Assembles}
use Rattle.masm_link.proofs.assembling.assemble.Goals as goal

pub returns : goal.returns
returns c =
    subst (λ library. Assembles (constants_of c.args.params.now) library c.args.source.now (option_map (λ text. text.now) c.args.kernel)
    c.assemble_with.result) c.new-library.ensures.empty c.assemble_with.ensures
