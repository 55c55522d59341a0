-- An instruction: a name with its numbers.
use Rattle.std.specs.Prelude.{◌≡◌, ℕ, ◌<◌, Bool, true, false, ◌&&◌, nat_le, List, length, slice_index, slice_index_or}
use Rattle.std.specs.List.{list_all}
use Rattle.masm_instr.specs.declared.name.Name.{Name}
use Rattle.masm_instr.specs.declared.name.Name.TheVariants as names
use Rattle.masm_instr.specs.declared.form.Form.{Form}
use Rattle.masm_instr.specs.Table.{form_of}

pub record Instruction : Type 0 where
  pub name : Name
  pub numbers : List ℕ

-- the first number
abbrev pub first : List ℕ → ℕ
first numbers = slice_index numbers 0

-- the first number, or the default where none is given
abbrev pub first_or : ℕ → List ℕ → ℕ
first_or default numbers = slice_index_or numbers 0 default

-- whether a number lies in the range of a form
abbrev pub is_in_range : Form → ℕ → Bool
is_in_range f n = nat_le f.low n && nat_le n f.high

-- whether there are as many numbers as a form wants
abbrev pub is_count : Form → ℕ → Bool
is_count f n = nat_le f.least n && nat_le n f.most

-- as many numbers as the name takes, each in its range
abbrev pub is_in_form : Name → List ℕ → Bool
is_in_form name numbers = is_count (form_of name) (length numbers) && list_all (is_in_range (form_of name)) numbers

abbrev pub IsInForm : Instruction → Type 0
IsInForm instr = is_in_form instr.name instr.numbers ≡ true

-- the instructions whose number is that of a local
abbrev pub names_local : Name → Bool
names_local names.Locaddr = true
names_local names.LocLoad = true
names_local names.LocLoadw = true
names_local names.LocStore = true
names_local names.LocStorew = true
names_local name = false

-- a local that the instruction names is one of so many
abbrev pub HasLocal : Instruction → ℕ → Type 0
HasLocal instr locals = names_local instr.name ≡ true → first instr.numbers < locals
