use Rattle.std.proofs.Common.{sym, ap, ◌∙◌, ◌<◌, ◌≡◌, ◌/◌, ◌%◌, ◌*◌, length, get_or, [], arith, lit<}
use Rattle.vm_table.specs.Blocks.{block_row}
use Rattle.vm_table.proofs.BlockLemmas.{rows_at, rows_length, rows_of_push}
use Rattle.vm_table.proofs.table.Table.row.Goals as goal
use Rattle.std.proofs.lemmas.List.{get_or_read}

pub index-requires : goal.index-requires
index-requires g c =
    let long : c.self.inside.rows ≡ length c.args.self.now = rows_of_push g.row.W c.self.inside.rows c.self.inside.blocks.items c.args.self.now c.self.view_is in
    let full = c.self.invariant.1 in
    omega (arith, long, full, c.requires)

pub of-requires : goal.of-requires
of-requires g c =
    let long : c.self.inside.rows ≡ length c.args.self.now = rows_of_push g.row.W c.self.inside.rows c.self.inside.blocks.items c.args.self.now c.self.view_is in
    let full = c.self.invariant.1 in
    let few : g.row.W * 2112 < 9223372036854775808 = c.self.invariant.0.few (omega (arith, c.requires, long, rows_length g.row.W c.self.inside.blocks.items c.self.inside.rows)) in
    (few, (lit< tt, omega arith))

pub returns : goal.returns
returns g c =
    let long : c.self.inside.rows ≡ length c.args.self.now = rows_of_push g.row.W c.self.inside.rows c.self.inside.blocks.items c.args.self.now c.self.view_is in
    let full = c.self.invariant.1 in
    let inside : c.args.i / 256 < length c.self.inside.blocks.items = omega (arith, long, full, c.requires) in
    let within : c.args.i < c.self.inside.rows = omega (arith, long, c.requires) in
    record {
      cells = c.of.ensures.cells ∙ ap (λ b. block_row g.row.W b (c.args.i % 256)) (get_or_read c.self.inside.blocks.items (c.args.i / 256) c.index.result.now inside c.index.ensures [])
          ∙ sym (rows_at g.row.W c.self.inside.blocks.items c.self.inside.rows c.args.i within) ∙ ap (λ rows. get_or rows c.args.i []) c.self.view_is;
    }
