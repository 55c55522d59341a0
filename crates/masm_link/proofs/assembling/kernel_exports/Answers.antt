use Rattle.std.proofs.Common.{sym, ap, subst}
use Rattle.std.specs.Option.{option_map}
use Rattle.masm_link.specs.Programs.{ExportsIn}
use Rattle.masm_link.proofs.Assembled.{kernel_none}
use Rattle.masm_link.proofs.assembling.kernel_exports.Goals as goal

pub returns-in-Some-clause-exports : goal.returns-in-Some-clause-exports
returns-in-Some-clause-exports c = subst (λ kernel. ExportsIn c.args.digests.now.permutations (option_map (λ text. text.now) kernel) c.text_exports.result) (sym c.in-Some.is) c.text_exports.ensures.exports

pub returns-in-None-clause-exports : goal.returns-in-None-clause-exports
returns-in-None-clause-exports c =
    kernel_none c.args.digests.now.permutations (option_map (λ text. text.now) c.args.kernel) c.new.result (ap (option_map (λ text. text.now)) c.in-None.is)
    c.new.ensures.items
