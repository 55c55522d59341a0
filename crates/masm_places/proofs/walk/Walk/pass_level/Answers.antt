use Rattle.masm_places.specs.Indexed.{texts_in}
use Rattle.masm_places.specs.Pending.{level_of, walk_of}
use Rattle.masm_places.proofs.Statements.{none_left, one_left, passed_same}
use Rattle.masm_places.proofs.walk.Walk.pass_level.Goals as goal

pub returns-in-empty-clause-moved : goal.returns-in-empty-clause-moved
returns-in-empty-clause-moved c =
    passed_same (texts_in c.args.sources.now) (walk_of c.args.self.now) (level_of c.args.level) _ _ c.pass_end.result _
    (none_left c.args.level.left.now c.in-empty.len_below) c.pass_end.ensures.moved

pub returns-in-len1-up-clause-moved : goal.returns-in-len1-up-clause-moved
returns-in-len1-up-clause-moved c =
    passed_same (texts_in c.args.sources.now) (walk_of c.args.self.now) (level_of c.args.level) _ _ c.pass_statement.result _
    (one_left c.args.level.left.now c.stmt-item.result c.in-len1-up.len_at_least c.stmt-item.is) c.pass_statement.ensures.moved
