use Rattle.std.proofs.Common.{◌≡◌, ◌-◌, true, false, length, take, drop, ap, sym, ◌∙◌}
use Rattle.masm_tree.specs.Trees.{Body}
use Rattle.masm_tree.specs.Views.{body_of, stmt_view}
use Rattle.masm_places.specs.Indexed.{texts_in}
use Rattle.masm_places.specs.Pending.{level_of, walk_of}
use Rattle.masm_places.specs.Steps.{block_op, is_op, enters}
use Rattle.masm_places.proofs.Statements.{none_left, one_left, enters_by-same, enters_by-other, comes_same}
use Rattle.masm_places.proofs.walk.Walk.enter_level.Goals as goal

pub returns-in-empty : goal.returns-in-empty
returns-in-empty c =
    comes_same c.stray.result _ _ _
    (enters_by-other (texts_in c.args.sources.now) c.args.op c.args.top (walk_of c.args.self.now) (level_of c.args.level)
    (ap (λ (b : Body). is_op (block_op b) c.args.op) (none_left c.args.level.left.now c.in-empty.len_below))) c.stray.ensures

pub returns-then-is_op : goal.returns-then-is_op
returns-then-is_op c =
    let rest : Body = body_of (take (length c.args.level.left.now - 1) (drop 1 c.args.level.left.now)) in
    let texts = texts_in c.args.sources.now in
    let w = walk_of c.args.self.now in
    let l = level_of c.args.level in
    let one : body_of c.args.level.left.now ≡ stmt_view c.stmt-item.result rest =
    one_left c.args.level.left.now c.stmt-item.result c.in-len1-up.len_at_least c.stmt-item.is in
    let same : is_op (block_op (body_of c.args.level.left.now)) c.args.op ≡ true =
    ap (λ (b : Body). is_op (block_op b) c.args.op) one ∙ sym (ap (λ o. is_op o c.args.op) (c.block_op.ensures rest))
    ∙ sym c.is_op.ensures ∙ c.if-is_op.true in
    comes_same c.enter_statement.result _ _ _
    (enters_by-same texts c.args.op c.args.top w l same ∙ ap (enters texts c.args.top w l) one) c.enter_statement.ensures

pub returns-else-is_op : goal.returns-else-is_op
returns-else-is_op c =
    let rest : Body = body_of (take (length c.args.level.left.now - 1) (drop 1 c.args.level.left.now)) in
    let one : body_of c.args.level.left.now ≡ stmt_view c.stmt-item.result rest =
    one_left c.args.level.left.now c.stmt-item.result c.in-len1-up.len_at_least c.stmt-item.is in
    let other : is_op (block_op (body_of c.args.level.left.now)) c.args.op ≡ false =
    ap (λ (b : Body). is_op (block_op b) c.args.op) one ∙ sym (ap (λ o. is_op o c.args.op) (c.block_op.ensures rest))
    ∙ sym c.is_op.ensures ∙ c.if-is_op.false in
    comes_same c.stray-else-is_op.result _ _ _
    (enters_by-other (texts_in c.args.sources.now) c.args.op c.args.top (walk_of c.args.self.now) (level_of c.args.level) other)
    c.stray-else-is_op.ensures
