use Rattle.std.proofs.Common.{sym, subst, ◌∙◌, ap, ◌++◌, List}
use Rattle.vm_ops.specs.declared.item.Item.{Item}
use Rattle.masm_expand.specs.Expansion.{expansion}
use Rattle.masm_expand.specs.Packable.{ArePackable}
use Rattle.masm_expand.proofs.Packing.{expansions_are_packable}
use Rattle.masm_expand.proofs.expansion.expand.Goals as goal

pub returns-clause-packable : goal.returns-clause-packable
returns-clause-packable c =
    subst ArePackable
    (sym (c.in_ok-add_expansion.ensures.items
    ∙ ap (λ (old : List Item). old ++ expansion c.args.instr.now.name c.args.instr.now.numbers c.args.locals)
    c.new-items.ensures.empty))
    (expansions_are_packable c.args.instr.now.name c.args.instr.now.numbers c.args.locals c.add_expansion.ensures.form c.requires)
