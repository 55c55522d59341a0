use Rattle.table_file.proofs.Words.{Option, Some, sym, subst, ◌∙◌, PartTrace, GoesFurther}
use Rattle.table_file.proofs.Readers.{head_goes}
use Rattle.table_file.proofs.reader.begin.Goals as goal

pub returns-in-Ok-clause-ok : goal.returns-in-Ok-clause-ok
returns-in-Ok-clause-ok c =
    subst (λ (old : Option PartTrace). GoesFurther old (Some c.new.result) c.args.bytes.now 36) (sym c.requires.none)
    (head_goes c.args.bytes.now c.requires.enough c.in-Ok.counts c.new.result (sym c.in-Ok.is ∙ c.read_head.ensures.is)
    c.new.ensures.place c.new.ensures.ready c.new.ensures.begins)
