use Rattle.std.proofs.Common.{◌≡◌, List, ℕ, ◌∷◌, [], ap, sym, ◌∙◌}
use Rattle.chip_columns.specs.HasherColumns.{x}
use Rattle.vm_table.specs.Rows.{row_cells}
use Rattle.air_kit.specs.ChipTuples.{absorbed_part}
use Rattle.tree_merge.proofs.FirstBlockLemmas.{stands}
use Rattle.tree_merge.proofs.hashes.TraceHashes.first_block.Goals as goal

-- eight cells that are those of a row
eight : (row : List ℕ) (a b c d e f g h : ℕ) → a ≡ x row 4 → b ≡ x row 5 → c ≡ x row 6 → d ≡ x row 7 → e ≡ x row 8 → f ≡ x row 9
    → g ≡ x row 10 → h ≡ x row 11 → a ∷ b ∷ c ∷ d ∷ e ∷ f ∷ g ∷ h ∷ [] ≡ absorbed_part row
eight row a b c d e f g h p q r s t u v w = λ i. p i ∷ q i ∷ r i ∷ s i ∷ t i ∷ u i ∷ v i ∷ w i ∷ []

pub returns : goal.returns
returns c =
    eight (row_cells c.row-row.result) _ _ _ _ _ _ _ _ c.x4.ensures.is c.x5.ensures.is c.x6.ensures.is c.x7.ensures.is c.x8.ensures.is c.x9.ensures.is
    c.x10.ensures.is c.x11.ensures.is
    ∙ ap absorbed_part c.row-row.ensures.cells
    ∙ sym (stands c.args.self.now.hasher c.args.address c.requires).block
