use Rattle.std.proofs.Common.{sym, ap, subst, ◌∙◌, ◌<◌, ◌≡◌, ◌/◌, ◌+◌, length, get_or, [], ◌∷◌, ◌++◌, ℕ, arith}
use Rattle.vm_table.specs.Blocks.{block_row, blocks_for}
use Rattle.std.proofs.lemmas.List.{get_or_read, length-set}
use Rattle.vm_table.specs.Layout.{IsHeld}
use Rattle.vm_table.proofs.BlockLemmas.{rows_pushed}
use Rattle.vm_table.proofs.table.Table.push_row.Goals as goal
use Rattle.vm_field.proofs.Elements.{elements-index}
use Rattle.vm_table.proofs.LayoutLemmas.{held_with}

pub room_for_row-requires : goal.room_for_row-requires
room_for_row-requires g c = (omega arith, omega (arith, c.self.invariant.1))

pub invariant_of-self-2 : goal.invariant_of-self-2
invariant_of-self-2 g c =
    let n = c.self.inside.rows in
    let mid = c.room_for_row.new.blocks.items in
    let room : length mid ≡ blocks_for (n + 1) = omega (arith, c.in_ok-room_for_row.ensures.ok) in
    let inside : n / 256 < length mid = omega (arith, room) in
    let same : (b : ℕ) → b < length c.self.inside.blocks.items → get_or mid b [] ≡ get_or c.self.inside.blocks.items b [] = λ b h. c.in_ok-room_for_row.ensures.same b (omega (arith, h)) in
    let block = get_or_read mid (n / 256) c.index_mut.result.now inside c.index_mut.ensures.value [] in
    let pushed = rows_pushed g.row.W n c.self.inside.blocks.items mid c.write_row.new.block c.args.row.now c.self.invariant.1 room same c.write_row.ensures.row
    (λ p apart. c.write_row.ensures.others p apart ∙ ap (λ b. block_row g.row.W b p) block) in (
      subst (IsHeld g.row.W) (sym pushed)
          (held_with _ _ _ c.self.invariant.0 c.told-row (λ k. elements-index _ k c.known_elements.ensures) (omega arith)),
      length-set mid (n / 256) c.write_row.new.block ∙ room,
    )

pub returns-clause-ok : goal.returns-clause-ok
returns-clause-ok g c =
    let n = c.self.inside.rows in
    let mid = c.room_for_row.new.blocks.items in
    let room : length mid ≡ blocks_for (n + 1) = omega (arith, c.in_ok-room_for_row.ensures.ok) in
    let inside : n / 256 < length mid = omega (arith, room) in
    let same : (b : ℕ) → b < length c.self.inside.blocks.items → get_or mid b [] ≡ get_or c.self.inside.blocks.items b [] = λ b h. c.in_ok-room_for_row.ensures.same b (omega (arith, h)) in
    let block = get_or_read mid (n / 256) c.index_mut.result.now inside c.index_mut.ensures.value [] in
    let pushed = rows_pushed g.row.W n c.self.inside.blocks.items mid c.write_row.new.block c.args.row.now c.self.invariant.1 room same c.write_row.ensures.row
    (λ p apart. c.write_row.ensures.others p apart ∙ ap (λ b. block_row g.row.W b p) block) in
    pushed ∙ ap (λ rows. rows ++ c.args.row.now ∷ []) c.self.view_is
