use Rattle.std.proofs.Common.{ap, subst, ◌∙◌, ◌<◌, ◌≡◌, ◌*◌, length, get_or, [], map, take, drop, arith}
use Rattle.vm_table.specs.Blocks.{blocks_for}
use Rattle.std.proofs.lemmas.List.{get_or_read}
use Rattle.vm_table.proofs.BlockLemmas.{rows_of_push, column_is}
use Rattle.vm_table.proofs.table.Table.column.Goals as goal

pub overflow_mul-block : goal.overflow_mul-block
overflow_mul-block g c =
    let long : c.self.inside.rows ≡ length c.args.self.now = rows_of_push g.row.W c.self.inside.rows c.self.inside.blocks.items c.args.self.now c.self.view_is in
    let full = c.self.invariant.1 in
    omega (arith, long, full, c.requires.block)

pub overflow_sub-self-inside : goal.overflow_sub-self-inside
overflow_sub-self-inside g c =
    let long : c.self.inside.rows ≡ length c.args.self.now = rows_of_push g.row.W c.self.inside.rows c.self.inside.blocks.items c.args.self.now c.self.view_is in
    let full = c.self.invariant.1 in
    omega (arith, long, full, c.requires.block)

pub index-requires : goal.index-requires
index-requires g c =
    let long : c.self.inside.rows ≡ length c.args.self.now = rows_of_push g.row.W c.self.inside.rows c.self.inside.blocks.items c.args.self.now c.self.view_is in
    let full = c.self.invariant.1 in
    omega (arith, long, full, c.requires.block)

pub returns : goal.returns
returns g c =
    let long : c.self.inside.rows ≡ length c.args.self.now = rows_of_push g.row.W c.self.inside.rows c.self.inside.blocks.items c.args.self.now c.self.view_is in
    let full = c.self.invariant.1 in
    let inside : c.args.block < length c.self.inside.blocks.items = omega (arith, long, full, c.requires.block) in
    let many : c.args.block < blocks_for c.self.inside.rows = omega (arith, full, inside) in
    let here = get_or_read c.self.inside.blocks.items c.args.block c.index.result.now inside c.index.ensures [] in
    record {
      is = column_is g.row.W c.self.inside.rows c.args.block c.args.column c.min-count.result c.self.inside.blocks.items c.column_of_block.result.now many
          c.requires.column c.min-count.ensures (subst (λ b. length (get_or b c.args.column []) ≡ 264) here c.column_of_block.ensures.long)
          (c.column_of_block.ensures.is ∙ ap (λ b. take c.min-count.result (get_or b c.args.column [])) here)
          ∙ ap (λ rows. map (λ row. get_or row c.args.column 0) (take 256 (drop (256 * c.args.block) rows))) c.self.view_is;
    }
