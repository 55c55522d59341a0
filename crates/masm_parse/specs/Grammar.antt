-- The grammar of sources, over the terminals of their tokens: which lists of terminals spell which trees.
use Rattle.std.specs.Prelude.{◌≡◌, ℕ, Bool, true, false, List, [], ◌∷◌, ◌++◌, Option, Some, None}
use Rattle.masm_reading.specs.declared.constant.Const.{Const}
use Rattle.masm_tree.specs.declared.tree.Position.{Position}
use Rattle.masm_tree.specs.declared.terminal.Role.{Role}
use Rattle.masm_tree.specs.declared.terminal.Role.TheVariants as roles
use Rattle.masm_tree.specs.declared.terminal.Header.{Header}
use Rattle.masm_tree.specs.declared.terminal.Leaf.{Leaf}
use Rattle.masm_tree.specs.declared.terminal.Terminal.{Terminal}
use Rattle.masm_tree.specs.declared.terminal.Terminal.TheVariants as terminals
use Rattle.masm_tree.specs.Terminals.{constants}
use Rattle.masm_tree.specs.Trees.{Body, Empty, Leaf_then, If_then, While_then, Repeat_then, Procedure, Source}
use Rattle.masm_parse.specs.Machine.{procedure}

-- these tokens spell this body
pub data Spells : Body → List Terminal → Type 0 where
  nothing : Spells Empty []
  leaf : (at : Position) (l : Leaf) {b : Body} {ts : List Terminal} → Spells b ts → Spells (Leaf_then at l b) (terminals.Leaf at l ∷ ts)
  if_only : (at : Position) {a b : Body} {us ts : List Terminal} → Spells a us → Spells b ts
      → Spells (If_then at a Empty b) (terminals.If at ∷ (us ++ terminals.End ∷ ts))
  if_else : (at : Position) {a e b : Body} {us vs ts : List Terminal} → Spells a us → Spells e vs → Spells b ts
      → Spells (If_then at a e b) (terminals.If at ∷ (us ++ terminals.Else ∷ (vs ++ terminals.End ∷ ts)))
  while : (at : Position) {a b : Body} {us ts : List Terminal} → Spells a us → Spells b ts
      → Spells (While_then at a b) (terminals.While at ∷ (us ++ terminals.End ∷ ts))
  repeated : (at : Position) (times : ℕ) {a b : Body} {us ts : List Terminal} → Spells a us → Spells b ts
      → Spells (Repeat_then at times a b) (terminals.Repeat at times ∷ (us ++ terminals.End ∷ ts))

-- whether a header is one of a procedure, which only in a kernel may be exported
abbrev pub is_item : Bool → Role → Bool
is_item kernel roles.Proc = true
is_item kernel roles.Export = kernel
is_item kernel roles.Main = false

-- these tokens spell constants and these procedures, in any order
pub data SpellsProcs (kernel : Bool) : List Procedure → List Terminal → Type 0 where
  none : SpellsProcs kernel [] []
  constant : (c : Const) {ps : List Procedure} {ts : List Terminal} → SpellsProcs kernel ps ts
      → SpellsProcs kernel ps (ts ++ terminals.Const c ∷ [])
  item : (h : Header) {ps : List Procedure} {b : Body} {ts us : List Terminal} → is_item kernel h.role ≡ true
      → SpellsProcs kernel ps ts → Spells b us
      → SpellsProcs kernel (ps ++ procedure h b ∷ []) (ts ++ terminals.Header h ∷ (us ++ terminals.End ∷ []))

-- begin, a body and end, behind constants and procedures
pub record SpellsMain (procs : List Procedure) (main : Procedure) (ts : List Terminal) : Type 0 where
  pub front : List Terminal
  pub header : Header
  pub body : Body
  pub inner : List Terminal
  pub role : header.role ≡ roles.Main
  pub is : main ≡ procedure header body
  pub items : SpellsProcs false procs front
  pub spelled : Spells body inner
  pub whole : ts ≡ front ++ terminals.Header header ∷ (inner ++ terminals.End ∷ [])

-- procedures alone in a kernel; procedures and begin in a program
abbrev pub SpellsParts : Bool → List Procedure → Option Procedure → List Terminal → Type 0
SpellsParts true procs None ts = SpellsProcs true procs ts
SpellsParts true procs (Some main) ts = ⊥
SpellsParts false procs None ts = ⊥
SpellsParts false procs (Some main) ts = SpellsMain procs main ts

-- these tokens spell this source, a kernel or a program
pub record IsSource (kernel : Bool) (source : Source) (ts : List Terminal) : Type 0 where
  pub consts : source.consts ≡ constants ts
  pub whole : SpellsParts kernel source.procs source.main ts
