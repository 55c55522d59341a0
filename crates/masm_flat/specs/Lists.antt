-- The list of operations and blocks that a body is flattened to (docs/ASSEMBLY.md, "Blocks").
use Rattle.std.specs.Prelude.{◌≡◌, ℕ, zero, suc, ◌-◌, List, [], ◌∷◌, ◌++◌, map, Option, Some, None, bytes_eq, if◌then◌else◌}
use Rattle.vm_field.specs.Field.{prime}
use Rattle.vm_ops.specs.declared.item.Item.{Item}
use Rattle.vm_ops.specs.declared.op.Op.TheVariants.{FmpUpdate}
use Rattle.vm_ops.specs.Items.{plain_item}
use Rattle.masm_instr.specs.declared.instr.Instr.{Instr}
use Rattle.masm_expand.specs.Expansion.{lit, expansion}
use Rattle.masm_tree.specs.declared.terminal.Leaf.TheVariants as leaves
use Rattle.masm_tree.specs.declared.tree.Position.{Position}
use Rattle.masm_tree.specs.Trees.{Body, Empty, Leaf_then, If_then, While_then, Repeat_then, Procedure, Source}
use Rattle.masm_names.specs.Uses.{target_names}
use Rattle.block_tree.specs.Trees.{tree_digest}
use Rattle.masm_flat.specs.Blocks.{Block, Split, Loop, Call, Syscall, Dyn, Piece, Operation, Whole, block_of, blocks_from, seen_as, as_tree}

-- a procedure of the kernel that programs may call
pub record Exported : Type 0 where
  pub name : List ℕ
  pub block : Block

-- what lies outside a source, and its meaning rests on: the permutation's constants, and what the kernel exports
pub record Outside : Type 0 where
  pub constants : List ℕ
  pub exports : List Exported

abbrev pub outside_of : List ℕ → List Exported → Outside
outside_of constants exports = record { constants = constants; exports = exports }

abbrev pub first_procedure : List Procedure → List ℕ → Option Procedure
first_procedure [] name = None
first_procedure (p ∷ procs) name = if bytes_eq p.name name then Some p else first_procedure procs name

abbrev pub first_export : List Exported → List ℕ → Option Block
first_export [] name = None
first_export (e ∷ kernel) name = if bytes_eq e.name name then Some e.block else first_export kernel name

abbrev pub times : {A : Type 0} → ℕ → List A → List A
times zero xs = []
times (suc n) xs = xs ++ times n xs

-- The list of a procedure with so many locals: the frame pointer goes up before its body, and down behind it.
abbrev pub with_locals : {A : Type 0} → ℕ → List (Piece A) → List (Piece A)
with_locals zero pieces = pieces
with_locals (suc n) pieces =
    Operation (lit (suc n)) ∷ Operation (plain_item FmpUpdate)
    ∷ (pieces ++ Operation (lit (prime - suc n)) ∷ Operation (plain_item FmpUpdate) ∷ [])

-- the digest of a block's tree
abbrev pub block_digest : List ℕ → Block → List ℕ
block_digest constants block = tree_digest constants (seen_as as_tree block)

-- what puts a digest on the stack, its first element first
abbrev pub digest_items : List ℕ → List Item
digest_items digest = map lit digest

mutual
  -- The list of the procedure that a name means, with its locals. There is none where no procedure has the name, or it uses itself.
  pub data ListOf (source : Source) (out : Outside) : List ℕ → List (Piece Block) → Type 0 where
    own : (name : List ℕ) {p : Procedure} {ys : List (Piece Block)} → first_procedure source.procs name ≡ Some p
        → IsList source out p.locals p.body ys → ListOf source out name (with_locals p.locals ys)

  -- the lists of procedures by their names
  pub data ListsOf (source : Source) (out : Outside) : List (List ℕ) → List (List (Piece Block)) → Type 0 where
    no_list : ListsOf source out [] []
    list_before : (name : List ℕ) {names : List (List ℕ)} {ys : List (Piece Block)} {lists : List (List (Piece Block))}
        → ListOf source out name ys → ListsOf source out names lists → ListsOf source out (name ∷ names) (ys ∷ lists)

  -- The list of a body in a procedure of so many locals. There is none where a procedure that it uses, or that a dynexec of
  -- it may run, has none, or is not the kernel's.
  pub data IsList (source : Source) (out : Outside) : ℕ → Body → List (Piece Block) → Type 0 where
    nothing : {locals : ℕ} → IsList source out locals Empty []
    instr : (at : Position) (i : Instr) {locals : ℕ} {b : Body} {xs : List (Piece Block)} → IsList source out locals b xs
        → IsList source out locals (Leaf_then at (leaves.Instr i) b) (map Operation (expansion i.name i.numbers locals) ++ xs)
    exec : (at : Position) (name : List ℕ) {locals : ℕ} {b : Body} {ys xs : List (Piece Block)} → ListOf source out name ys
        → IsList source out locals b xs → IsList source out locals (Leaf_then at (leaves.Exec name) b) (ys ++ xs)
    call : (at : Position) (name : List ℕ) {locals : ℕ} {b : Body} {ys xs : List (Piece Block)} → ListOf source out name ys
        → IsList source out locals b xs → IsList source out locals (Leaf_then at (leaves.Call name) b) (Whole (Call (block_of ys)) ∷ xs)
    procref : (at : Position) (name : List ℕ) {locals : ℕ} {b : Body} {ys xs : List (Piece Block)} → ListOf source out name ys
        → IsList source out locals b xs
        → IsList source out locals (Leaf_then at (leaves.ProcRef name) b)
        (map Operation (digest_items (block_digest out.constants (block_of ys))) ++ xs)
    syscall : (at : Position) (name : List ℕ) {locals : ℕ} {callee : Block} {b : Body} {xs : List (Piece Block)}
        → first_export out.exports name ≡ Some callee → IsList source out locals b xs
        → IsList source out locals (Leaf_then at (leaves.Syscall name) b) (Whole (Syscall callee) ∷ xs)
    dynexec : (at : Position) {locals : ℕ} {b : Body} {lists : List (List (Piece Block))} {xs : List (Piece Block)}
        → ListsOf source out (target_names source) lists → IsList source out locals b xs
        → IsList source out locals (Leaf_then at leaves.DynExec b) (Whole (Dyn (blocks_from (map block_of lists))) ∷ xs)
    branches : (at : Position) {locals : ℕ} {a e b : Body} {ys zs xs : List (Piece Block)} → IsList source out locals a ys
        → IsList source out locals e zs → IsList source out locals b xs
        → IsList source out locals (If_then at a e b) (Whole (Split (block_of ys) (block_of zs)) ∷ xs)
    loops : (at : Position) {locals : ℕ} {a b : Body} {ys xs : List (Piece Block)} → IsList source out locals a ys → IsList source out locals b xs
        → IsList source out locals (While_then at a b) (Whole (Loop (block_of ys)) ∷ xs)
    repeated : (at : Position) (n : ℕ) {locals : ℕ} {a b : Body} {ys xs : List (Piece Block)} → IsList source out locals a ys
        → IsList source out locals b xs → IsList source out locals (Repeat_then at n a b) (times n ys ++ xs)

-- a procedure is this block
pub record IsBlockOf (source : Source) (out : Outside) (p : Procedure) (block : Block) : Type 0 where
  pub pieces : List (Piece Block)
  pub flat : IsList source out p.locals p.body pieces
  pub is : block ≡ block_of (with_locals p.locals pieces)
