-- The operations of an instruction can be packed into a batch.
use Rattle.std.specs.Prelude.{◌≡◌, ◌≢◌, ℕ, ◌<◌, true, List, [], All}
use Rattle.vm_ops.specs.declared.item.Item.{Item}
use Rattle.vm_ops.specs.Items.{IsPackableItem}
use Rattle.masm_instr.specs.declared.name.Name.{Name}
use Rattle.masm_instr.specs.Instructions.{first, is_in_form, names_local}
use Rattle.masm_expand.specs.Expansion.{expansion}

-- some operations, each of which can be packed
pub record ArePackable (items : List Item) : Type 0 where
  pub some : items ≢ []
  pub each : All IsPackableItem items

-- numbers in form, and a local that is one of so many, give operations that can be packed
abbrev pub ExpansionsArePackable : Type 0
ExpansionsArePackable =
    (name : Name) (numbers : List ℕ) (locals : ℕ) → is_in_form name numbers ≡ true
    → (names_local name ≡ true → first numbers < locals) → ArePackable (expansion name numbers locals)
