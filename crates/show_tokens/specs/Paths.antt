-- Names with a path before them, as u64::wrapping_add: here a name has none, and those of the library are as u64_wrapping_add.
use Rattle.std.specs.Prelude.{ℕ, ◌-◌, Bool, ◌==◌, ◌&&◌, ◌||◌, not, nat_le, nat_lt, if◌then◌else◌, List, [], ◌∷◌, ◌++◌, codes, length, slice_index_or}
use Rattle.std.specs.List.{list_any, slice_split}
use Rattle.std.specs.Str.{bytes_eq}
use Rattle.masm_link.specs.Libraries.{has_name}
use Rattle.masm_tree.specs.declared.terminal.Header.{Header}
use Rattle.std_u64.specs.Libraries.{u64_library}
use Rattle.show_tokens.specs.Forms.{is_use, parameter}
use Rattle.show_tokens.specs.Words.{sentence, word}

-- what stands between the colons of a part
abbrev pub pieces_of : List ℕ → List (List ℕ)
pieces_of part = slice_split (λ byte. byte == 58) part

-- the piece so many places before their end
abbrev pub piece_before : ℕ → List (List ℕ) → List ℕ
piece_before count pieces = slice_index_or pieces (length pieces - count) []

-- a path's last two colons are one behind the other, and a name stands behind them
abbrev pub is_path : List (List ℕ) → Bool
is_path pieces = nat_le 3 (length pieces) && (length (piece_before 2 pieces) == 0) && not (length (piece_before 1 pieces) == 0)

-- whether a token names one procedure
abbrev pub names_one : List ℕ → List (List ℕ) → Bool
names_one first more = is_use first && (length more == 1)

-- whether it names it with a path
abbrev pub has_path : List ℕ → List (List ℕ) → Bool
has_path first more = names_one first more && is_path (pieces_of (parameter more))

-- the last two names of a path as one
abbrev pub joined_name : List (List ℕ) → List ℕ
joined_name pieces = piece_before 3 pieces ++ codes "_" ++ piece_before 1 pieces

abbrev pub has_header : List Header → List ℕ → Bool
has_header procedures name = list_any (λ header. bytes_eq header.name name) procedures

-- whether one of these procedures has the name; those that are refused have none
abbrev pub is_procedure_of : List Header → List ℕ → Bool
is_procedure_of procedures name = nat_lt 0 (length name) && has_header procedures name

-- whether a source may use a procedure of the library by this name; a kernel has no library
abbrev pub is_of_library : Bool → List ℕ → Bool
is_of_library kernel name = not kernel && has_name u64_library name

-- whether the name is that of a procedure, of the source or of the library
abbrev pub names_procedure : Bool → List Header → List ℕ → Bool
names_procedure kernel procedures name = is_procedure_of procedures name || is_of_library kernel name

-- whether a token of this first part may; no syscall does
abbrev pub reaches_library : Bool → List ℕ → List ℕ → Bool
reaches_library kernel first name = not (bytes_eq first (codes "syscall")) && is_of_library kernel name

abbrev pub alone_line : List ℕ → List ℕ → List ℕ → List ℕ
alone_line what first name =
    sentence (codes "names have no path here: " ∷ what ∷ codes " named alone, as " ∷ word first ∷ codes "." ∷ word name ∷ [])

-- whether no procedure has the name that a token of this first part uses; a syscall uses those of the kernel
abbrev pub is_missing : Bool → List Header → List ℕ → List ℕ → Bool
is_missing kernel procedures first name = not (bytes_eq first (codes "syscall")) && not (names_procedure kernel procedures name)

abbrev pub definer : Bool → List ℕ
definer kernel =
    if kernel then codes "names have no path here, and this kernel defines no procedure "
    else codes "names have no path here, and neither this source nor the library defines a procedure "

abbrev pub missing_line : Bool → List ℕ → List ℕ
missing_line kernel name = sentence (definer kernel ∷ word name ∷ [])

-- a path by its last name
abbrev pub last_line : Bool → List Header → List ℕ → List ℕ → List ℕ
last_line kernel procedures first last =
    if is_missing kernel procedures first last then missing_line kernel last else alone_line (codes "a procedure is") first last

-- the library's procedure of the joined name, where the token reaches it, or one of the last name
abbrev pub either_line : Bool → List Header → List ℕ → List ℕ → List ℕ → List ℕ
either_line kernel procedures first joined last =
    if reaches_library kernel first joined then alone_line (codes "the library's procedures are") first joined
    else last_line kernel procedures first last

abbrev pub path_line : Bool → List Header → List ℕ → List (List ℕ) → List ℕ
path_line kernel procedures first pieces = either_line kernel procedures first (joined_name pieces) (piece_before 1 pieces)
