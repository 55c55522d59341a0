-- No name of an instruction is among those that this machine does not have.
use Rattle.std.proofs.Common.{◌≡◌, ℕ, false, List, Some, refl, bytes_eq}
use Rattle.std.specs.List.{list_any}
use Rattle.masm_instr.specs.declared.name.Name.{Name}
use Rattle.masm_instr.specs.declared.name.Name.TheVariants as names
use Rattle.masm_instr.specs.Names.{name_of}
use Rattle.masm_instr.specs.Table.{text_of}
use Rattle.masm_instr.proofs.NameLemmas.{names_are_texts}
use Rattle.masm_reading.specs.Reading.{unsupported}

text_is_supported : (name : Name) → list_any (λ word. bytes_eq word (text_of name)) unsupported ≡ false
unfolding unsupported
text_is_supported names.Add = refl
text_is_supported name = refl

pub name_is_supported : (first : List ℕ) (name : Name) → name_of first ≡ Some name
    → list_any (λ word. bytes_eq word first) unsupported ≡ false
name_is_supported first name e = rw (← (names_are_texts name first).0 e) (text_is_supported name)
