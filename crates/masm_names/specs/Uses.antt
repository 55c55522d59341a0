-- The uses of procedures in a source, and which procedures are reached by them.
use Rattle.std.specs.Prelude.{◌≡◌, ℕ, ◌+◌, Bool, true, false, List, [], ◌∷◌, ◌++◌, not, Option, Some, None, bytes_eq, if◌then◌else◌, map, slice_get}
use Rattle.std.specs.List.{filter, flat_map, Contains}
use Rattle.std.specs.Option.{option_map, option_to_list}
use Rattle.masm_tree.specs.declared.terminal.Leaf.TheVariants as leaves
use Rattle.masm_tree.specs.declared.tree.Position.{Position}
use Rattle.masm_tree.specs.Trees.{Body, Empty, Leaf_then, If_then, While_then, Repeat_then, Procedure, Source}

-- whether the procedure is one of the source's own or one of the kernel's
pub data Owner : Type 0 where
  Own : Owner
  Kernel : Owner

-- an exec, call, syscall or procref, with the place of its token
pub record Use : Type 0 where
  pub at : Position
  pub kind : Owner
  pub refers : Bool  -- whether it is a procref, which asks for the digest and runs nothing
  pub name : List ℕ

abbrev pub use_at : Position → Owner → List ℕ → Use
use_at at kind name = record { at = at; kind = kind; refers = false; name = name }

abbrev pub ref_at : Position → List ℕ → Use
ref_at at name = record { at = at; kind = Own; refers = true; name = name }

-- the uses in a body, in order
abbrev pub uses_of : Body → List Use
uses_of Empty = []
uses_of (Leaf_then at (leaves.Instr instr) rest) = uses_of rest
uses_of (Leaf_then at (leaves.Exec name) rest) = use_at at Own name ∷ uses_of rest
uses_of (Leaf_then at (leaves.Call name) rest) = use_at at Own name ∷ uses_of rest
uses_of (Leaf_then at (leaves.Syscall name) rest) = use_at at Kernel name ∷ uses_of rest
uses_of (Leaf_then at (leaves.ProcRef name) rest) = ref_at at name ∷ uses_of rest
uses_of (Leaf_then at leaves.DynExec rest) = uses_of rest
uses_of (If_then at first second rest) = uses_of first ++ (uses_of second ++ uses_of rest)
uses_of (While_then at turn rest) = uses_of turn ++ uses_of rest
uses_of (Repeat_then at times turn rest) = uses_of turn ++ uses_of rest

-- the places of the dynexecs in a body, in order
abbrev pub dynexecs_of : Body → List Position
dynexecs_of Empty = []
dynexecs_of (Leaf_then at (leaves.Instr instr) rest) = dynexecs_of rest
dynexecs_of (Leaf_then at (leaves.Exec name) rest) = dynexecs_of rest
dynexecs_of (Leaf_then at (leaves.Call name) rest) = dynexecs_of rest
dynexecs_of (Leaf_then at (leaves.Syscall name) rest) = dynexecs_of rest
dynexecs_of (Leaf_then at (leaves.ProcRef name) rest) = dynexecs_of rest
dynexecs_of (Leaf_then at leaves.DynExec rest) = at ∷ dynexecs_of rest
dynexecs_of (If_then at first second rest) = dynexecs_of first ++ (dynexecs_of second ++ dynexecs_of rest)
dynexecs_of (While_then at turn rest) = dynexecs_of turn ++ dynexecs_of rest
dynexecs_of (Repeat_then at times turn rest) = dynexecs_of turn ++ dynexecs_of rest

-- the procedures of a source, and then the body between begin and end
abbrev pub bodies_of : Source → List Procedure
bodies_of source = source.procs ++ option_to_list source.main

abbrev pub all_uses : Source → List Use
all_uses source = flat_map (λ p. uses_of p.body) (bodies_of source)

-- names in their order, each once
abbrev pub each_once : List (List ℕ) → List (List ℕ)
each_once [] = []
each_once (name ∷ names) = name ∷ filter (λ other. not (bytes_eq name other)) (each_once names)

-- the names that the procrefs of a source give, which are the targets of each dynexec
abbrev pub target_names : Source → List (List ℕ)
target_names source = each_once (map (λ u. u.name) (filter (λ u. u.refers) (all_uses source)))

-- the first place at which a name stands
abbrev pub place_in : List (List ℕ) → List ℕ → Option ℕ
place_in [] name = None
place_in (n ∷ names) name = if bytes_eq n name then Some 0 else option_map (λ i. i + 1) (place_in names name)

-- the place of the first procedure of that name
abbrev pub first_place : List Procedure → List ℕ → Option ℕ
first_place procs name = place_in (map (λ p. p.name) procs) name

-- a use of the source's own procedures, in the body of the procedure at a place
pub record UsedIn (procs : List Procedure) (i : ℕ) (u : Use) (j : ℕ) : Type 0 where
  pub procedure : Procedure
  pub here : slice_get procs i ≡ Some procedure
  pub among : Contains (uses_of procedure.body) u
  pub own : u.kind ≡ Own
  pub target : first_place procs u.name ≡ Some j

-- the procedure at a place reaches another by zero or more uses
pub data Reaches (procs : List Procedure) : ℕ → ℕ → Type 0 where
  itself : {i : ℕ} → Reaches procs i i
  through : {i j k : ℕ} (u : Use) → UsedIn procs i u j → Reaches procs j k → Reaches procs i k

-- a procref of the source names the procedure at a place, which so is a target of each dynexec
pub record IsTarget (source : Source) (j : ℕ) : Type 0 where
  pub by : Use
  pub among : Contains (all_uses source) by
  pub refers : by.refers ≡ true
  pub named : first_place source.procs by.name ≡ Some j

-- the body of the procedure at a place has a dynexec
pub record HasDynexec (procs : List Procedure) (i : ℕ) : Type 0 where
  pub procedure : Procedure
  pub here : slice_get procs i ≡ Some procedure
  pub at : Position
  pub among : Contains (dynexecs_of procedure.body) at

-- a body of the source has a dynexec
pub record IsDynamic (source : Source) : Type 0 where
  pub procedure : Procedure
  pub here : Contains (bodies_of source) procedure
  pub at : Position
  pub among : Contains (dynexecs_of procedure.body) at
