-- What is read has as many numbers as parts.
use Rattle.std.proofs.Common.{◌≡◌, ℕ, ◌≤◌, Bool, true, suc, List, [], ◌∷◌, length, map, Option, Some, None, refl, ap, ◌∙◌, Bor, le-leb}
use Rattle.std.proofs.lemmas.List.{length-map}
use Rattle.std.specs.List.{list_all}
use Rattle.masm_instr.specs.declared.name.Name.{Name}
use Rattle.masm_instr.specs.declared.form.Form.{Form}
use Rattle.masm_reading.specs.declared.constant.Const.{Const}
use Rattle.masm_instr.specs.Table.{form_of}
use Rattle.masm_instr.specs.Instructions.{is_in_range, IsInForm}
use Rattle.masm_reading.specs.Reading.{both, parameter_of, parameters_of}

length-both : (n : Option ℕ) (more : Option (List ℕ)) (numbers : List ℕ) (k : ℕ) → both n more ≡ Some numbers
    → ((rest : List ℕ) → more ≡ Some rest → length rest ≡ k) → length numbers ≡ suc k
length-both None more numbers k e h = cc
length-both (Some n) None numbers k e h = cc
length-both (Some n) (Some ns) numbers k e h =
    let same : n ∷ ns ≡ numbers = cc in
    rw (← same) (ap suc (h ns refl))

pub length-parameters_of : (consts : List Const) (constants : Bool) (parts : List (List ℕ)) (numbers : List ℕ)
    → parameters_of consts constants parts ≡ Some numbers → length numbers ≡ length parts
length-parameters_of consts constants [] numbers e =
    let same : [] ≡ numbers = cc in
    rw (← same) refl
length-parameters_of consts constants (part ∷ parts) numbers e =
    length-both (parameter_of consts constants part) (parameters_of consts constants parts) numbers (length parts) e
    (length-parameters_of consts constants parts)

pub is_in_form_read : (consts : List Const) (name : Name) (form : Form) (parts : List (Bor (List ℕ))) (numbers shown : List ℕ)
    → form ≡ form_of name → form.least ≤ length parts → length parts ≤ form.most
    → parameters_of consts form.constants (map (λ part. part.now) parts) ≡ Some numbers → shown ≡ numbers
    → list_all (is_in_range form) shown ≡ true → IsInForm (record { name = name; numbers = numbers })
is_in_form_read consts name form parts numbers shown is_form least most given is_shown ranged =
    let count : length numbers ≡ length parts =
    length-parameters_of consts form.constants (map (λ part. part.now) parts) numbers given
    ∙ length-map parts (λ part. part.now) in
    rw (← is_form, ← is_shown) (rw (is_shown, count, le-leb _ _ least, le-leb _ _ most) (rw (← is_shown) ranged))
