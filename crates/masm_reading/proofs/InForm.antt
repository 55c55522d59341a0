-- What is read by the definition is in form.
use Rattle.std.proofs.Common.{◌≡◌, ℕ, Bool, true, false, ◌&&◌, cond, List, [], ◌∷◌, length, Option, Some, None, Result, Ok, Err, refl, ap, ap₂, ◌∙◌}
use Rattle.std.specs.List.{list_all}
use Rattle.masm_instr.specs.declared.name.Name.{Name}
use Rattle.masm_instr.specs.Instructions.{Instruction, IsInForm, is_count, is_in_range}
use Rattle.masm_instr.specs.Names.{name_of}
use Rattle.masm_instr.specs.Table.{form_of}
use Rattle.masm_reading.specs.declared.constant.Const.{Const}
use Rattle.masm_reading.specs.declared.refusal.InstrError.{InstrError}
use Rattle.masm_reading.specs.declared.refusal.InstrError.TheVariants as errors
use Rattle.masm_reading.specs.Reading.{read, named, formed, ranged, is_unsupported, read_parts, parts_of, parameters_of}
use Rattle.masm_reading.proofs.ReadingLemmas.{length-parameters_of}

abbrev pub IsInFormIf : Result Instruction InstrError → Type 0
IsInFormIf (Ok instr) = IsInForm instr
IsInFormIf (Err error) = Unit {0}

form-tested : (name : Name) (numbers : List ℕ) (parts : List (List ℕ)) (b : Bool) → list_all (is_in_range (form_of name)) numbers ≡ b
    → is_count (form_of name) (length parts) ≡ true → length numbers ≡ length parts
    → IsInFormIf (cond b (Ok (record { name = name; numbers = numbers })) (Err errors.NumberRange))
form-tested name numbers parts false is count same = tt
form-tested name numbers parts true is count same = ap₂ (λ a b. a && b) (ap (is_count (form_of name)) same ∙ count) is

form-ranged : (name : Name) (parts : List (List ℕ)) (o : Option (List ℕ)) → is_count (form_of name) (length parts) ≡ true
    → ((numbers : List ℕ) → o ≡ Some numbers → length numbers ≡ length parts) → IsInFormIf (ranged name o)
form-ranged name parts None count same = tt
form-ranged name parts (Some numbers) count same =
    form-tested name numbers parts (list_all (is_in_range (form_of name)) numbers) refl count (same numbers refl)

form-counted : (consts : List Const) (parts : List (List ℕ)) (name : Name) (b : Bool) → is_count (form_of name) (length parts) ≡ b
    → IsInFormIf (cond b (ranged name (parameters_of consts (form_of name).constants parts)) (Err errors.Syntax))
form-counted consts parts name false is = tt
form-counted consts parts name true is =
    form-ranged name parts (parameters_of consts (form_of name).constants parts) is (length-parameters_of consts (form_of name).constants parts)

form-formed : (consts : List Const) (parts : List (List ℕ)) (name : Name) → IsInFormIf (formed consts parts name)
unfolding formed
form-formed consts parts name = form-counted consts parts name (is_count (form_of name) (length parts)) refl

form-named : (consts : List Const) (parts : List (List ℕ)) (o : Option Name) → IsInFormIf (named consts parts o)
form-named consts parts None = tt
form-named consts parts (Some name) = form-formed consts parts name

form-supported : (b : Bool) (r : Result Instruction InstrError) → IsInFormIf r → IsInFormIf (cond b (Err errors.Unsupported) r)
form-supported true r h = tt
form-supported false r h = h

form-parts : (consts : List Const) (token : List ℕ) (parts : List (List ℕ)) → IsInFormIf (read_parts consts token parts)
form-parts consts token [] = tt
form-parts consts token (first ∷ parts) = form-supported (is_unsupported token first) _ (form-named consts parts (name_of first))

pub read-in_form : (consts : List Const) (token : List ℕ) → IsInFormIf (read consts token)
unfolding read
read-in_form consts token = form-parts consts token (parts_of token)
