use Rattle.std.proofs.Common.{sym, ap, subst, ◌∙◌, ◌<◌, ◌≡◌, ◌/◌, length, get_or, [], arith}
use Rattle.vm_table.specs.Blocks.{rows_in}
use Rattle.std.proofs.Math.ListN.{set}
use Rattle.std.proofs.lemmas.List.{get_or_read, length-set}
use Rattle.vm_table.specs.Layout.{IsHeld}
use Rattle.vm_table.proofs.BlockLemmas.{rows_set, rows_length, rows_of_push, held_changed}
use Rattle.vm_table.proofs.table.Table.set_cell.Goals as goal

pub index_mut-requires : goal.index_mut-requires
index_mut-requires g c =
    let long : c.self.inside.rows ≡ length c.args.self.now = rows_of_push g.row.W c.self.inside.rows c.self.inside.blocks.items c.args.self.now c.self.view_is in
    let full = c.self.invariant.1 in
    omega (arith, long, full, c.requires.row)

pub invariant_of-self : goal.invariant_of-self
invariant_of-self g c =
    let long : c.self.inside.rows ≡ length c.args.self.now = rows_of_push g.row.W c.self.inside.rows c.self.inside.blocks.items c.args.self.now c.self.view_is in
    let full = c.self.invariant.1 in
    let inside : c.args.row / 256 < length c.self.inside.blocks.items = omega (arith, long, full, c.requires.row) in
    let within : c.args.row < c.self.inside.rows = omega (arith, long, c.requires.row) in
    let block = get_or_read c.self.inside.blocks.items (c.args.row / 256) c.index_mut.result.now inside c.index_mut.ensures.value [] in
    let changed = rows_set g.row.W c.self.inside.rows c.args.row c.args.column c.args.value c.self.inside.blocks.items c.set_in_block.new.block full within c.requires.column
    c.set_in_block.ensures.cell
    (λ p apart. c.set_in_block.ensures.places p apart ∙ ap (λ b. get_or (get_or b c.args.column []) p 0) block)
    (λ k apart. c.set_in_block.ensures.columns k apart ∙ ap (λ b. get_or b k []) block) in (
      subst (IsHeld g.row.W) (sym changed)
          (held_changed g.row.W (rows_in g.row.W c.self.inside.blocks.items c.self.inside.rows) c.args.row c.args.column c.args.value c.self.invariant.0
          (omega (arith, within, rows_length g.row.W c.self.inside.blocks.items c.self.inside.rows)) (omega (arith, c.value.ensures.below, c.value.ensures.is))),
      length-set c.self.inside.blocks.items (c.args.row / 256) c.set_in_block.new.block ∙ full,
    )

pub returns : goal.returns
returns g c =
    let long : c.self.inside.rows ≡ length c.args.self.now = rows_of_push g.row.W c.self.inside.rows c.self.inside.blocks.items c.args.self.now c.self.view_is in
    let full = c.self.invariant.1 in
    let inside : c.args.row / 256 < length c.self.inside.blocks.items = omega (arith, long, full, c.requires.row) in
    let within : c.args.row < c.self.inside.rows = omega (arith, long, c.requires.row) in
    let block = get_or_read c.self.inside.blocks.items (c.args.row / 256) c.index_mut.result.now inside c.index_mut.ensures.value [] in
    let changed = rows_set g.row.W c.self.inside.rows c.args.row c.args.column c.args.value c.self.inside.blocks.items c.set_in_block.new.block full within c.requires.column
    c.set_in_block.ensures.cell
    (λ p apart. c.set_in_block.ensures.places p apart ∙ ap (λ b. get_or (get_or b c.args.column []) p 0) block)
    (λ k apart. c.set_in_block.ensures.columns k apart ∙ ap (λ b. get_or b k []) block) in
    changed ∙ ap (λ rows. set rows c.args.row (set (get_or rows c.args.row []) c.args.column c.args.value)) c.self.view_is
