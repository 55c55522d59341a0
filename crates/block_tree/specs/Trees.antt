-- Trees of blocks, their digests and refinement (docs/MACHINE.md, "Trees"). A word is a list of four elements, a batch one
-- of eight. The permutation's constants are an argument throughout.
use Rattle.std.specs.Prelude.{◌≡◌, ◌≢◌, ℕ, ◌+◌, max, nat_eq, if◌then◌else◌, List, [], ◌∷◌, ◌++◌, All, Option, Some, None}
use lib.Pointwise.{pointwise}
use Rattle.vm_field.specs.Machine.{IsWord, zero_word}
use Rattle.vm_field.specs.Sponge.{HashInput, digest_of_input}
use Rattle.vm_ops.specs.declared.op.Op.{Op}
use Rattle.vm_ops.specs.declared.op.Op.TheVariants as op
use Rattle.vm_ops.specs.Codes.{code_of}
use Rattle.op_pack.specs.Reading.{IsBatch}

mutual
  pub data Tree : Type 0 where
    Opaque : (digest : List ℕ) → Tree  -- a block of which only the digest is known
    Span : (batches : List (List ℕ)) → Tree  -- one batch or more
    Join : (first second : Tree) → Tree
    Split : (on_one on_zero : Tree) → Tree
    Loop : (body : Tree) → Tree
    Call : (callee : Tree) → Tree
    Syscall : (callee : Tree) → Tree
    Dyn : (targets : Targets) → Tree  -- its child is the target whose digest is the word on top of the stack

  -- a list of trees
  pub data Targets : Type 0 where
    no_target : Targets
    target : (first : Tree) (more : Targets) → Targets

-- the trees of a list, as targets
abbrev pub targets_from : List Tree → Targets
targets_from [] = no_target
targets_from (tree ∷ trees) = target tree (targets_from trees)

-- a tree as the machine has it: each span has a batch, batches are eight elements, and digests of opaque blocks are words
abbrev mutual
  pub IsWhole : Tree → Type 0
  IsWhole (Opaque digest) = IsWord digest
  IsWhole (Span batches) = (batches ≢ []) × All IsBatch batches
  IsWhole (Join first second) = IsWhole first × IsWhole second
  IsWhole (Split on_one on_zero) = IsWhole on_one × IsWhole on_zero
  IsWhole (Loop body) = IsWhole body
  IsWhole (Call callee) = IsWhole callee
  IsWhole (Syscall callee) = IsWhole callee
  IsWhole (Dyn targets) = AreWhole targets

  pub AreWhole : Targets → Type 0
  AreWhole no_target = Unit {0}
  AreWhole (target first more) = IsWhole first × AreWhole more

-- batches are hashed with the domain 0
abbrev pub input_of_batches : List (List ℕ) → HashInput
input_of_batches batches = record { domain = 0; blocks = batches }

-- two digests are one block, and the domain is the code of the block's operation
abbrev pub input_of_two : Op → List ℕ → List ℕ → HashInput
input_of_two start first second = record { domain = code_of start; blocks = (first ++ second) ∷ [] }

-- four zeros stand behind the digest of an only child
abbrev pub input_of_one : Op → List ℕ → HashInput
input_of_one start child = input_of_two start child zero_word

-- A dynamic block is one block of eight zeros, whatever its targets are, under the code of its operation.
abbrev pub input_of_dyn : HashInput
input_of_dyn = record { domain = code_of op.Dyn; blocks = (zero_word ++ zero_word) ∷ [] }

-- the digest of a tree: that of the hash input of its root
abbrev pub tree_digest : List ℕ → Tree → List ℕ
tree_digest constants (Opaque digest) = digest
tree_digest constants (Span batches) = digest_of_input constants (input_of_batches batches)
tree_digest constants (Join first second) =
    digest_of_input constants (input_of_two op.Join (tree_digest constants first) (tree_digest constants second))
tree_digest constants (Split on_one on_zero) =
    digest_of_input constants (input_of_two op.Split (tree_digest constants on_one) (tree_digest constants on_zero))
tree_digest constants (Loop body) = digest_of_input constants (input_of_one op.Loop (tree_digest constants body))
tree_digest constants (Call callee) = digest_of_input constants (input_of_one op.Call (tree_digest constants callee))
tree_digest constants (Syscall callee) = digest_of_input constants (input_of_one op.Syscall (tree_digest constants callee))
tree_digest constants (Dyn targets) = digest_of_input constants input_of_dyn

-- the hash input of a tree's root; an opaque block has none
abbrev pub input_of : List ℕ → Tree → Option HashInput
input_of constants (Opaque digest) = None
input_of constants (Span batches) = Some (input_of_batches batches)
input_of constants (Join first second) = Some (input_of_two op.Join (tree_digest constants first) (tree_digest constants second))
input_of constants (Split on_one on_zero) = Some (input_of_two op.Split (tree_digest constants on_one) (tree_digest constants on_zero))
input_of constants (Loop body) = Some (input_of_one op.Loop (tree_digest constants body))
input_of constants (Call callee) = Some (input_of_one op.Call (tree_digest constants callee))
input_of constants (Syscall callee) = Some (input_of_one op.Syscall (tree_digest constants callee))
input_of constants (Dyn targets) = Some input_of_dyn

-- the number of blocks on the longest path, where paths lead from a dynamic block into each of its targets
abbrev mutual
  pub tree_height : Tree → ℕ
  tree_height (Opaque digest) = 1
  tree_height (Span batches) = 1
  tree_height (Join first second) = 1 + max (tree_height first) (tree_height second)
  tree_height (Split on_one on_zero) = 1 + max (tree_height on_one) (tree_height on_zero)
  tree_height (Loop body) = 1 + tree_height body
  tree_height (Call callee) = 1 + tree_height callee
  tree_height (Syscall callee) = 1 + tree_height callee
  tree_height (Dyn targets) = 1 + targets_height targets

  -- of the highest one, 0 where there is none
  pub targets_height : Targets → ℕ
  targets_height no_target = 0
  targets_height (target first more) = max (tree_height first) (targets_height more)

-- the first target of a digest
abbrev pub first_target : List ℕ → List ℕ → Targets → Option Tree
first_target constants digest no_target = None
first_target constants digest (target first more) =
    if pointwise nat_eq (tree_digest constants first) digest then Some first else first_target constants digest more

-- The first tree refines the second: they are equal, but that in place of each opaque block of the second there may be any
-- tree of its digest, and that a dynamic block of the first may have other targets than that of the second, where for each
-- digest the second's first target of it, if there is one, is refined by the first's.
mutual
  pub data Refines (constants : List ℕ) : Tree → Tree → Type 0 where
    opaque : {t : Tree} {digest : List ℕ} → tree_digest constants t ≡ digest → Refines constants t (Opaque digest)
    span : {batches : List (List ℕ)} → Refines constants (Span batches) (Span batches)
    join : {a b c d : Tree} → Refines constants a c → Refines constants b d → Refines constants (Join a b) (Join c d)
    split : {a b c d : Tree} → Refines constants a c → Refines constants b d → Refines constants (Split a b) (Split c d)
    loop : {a c : Tree} → Refines constants a c → Refines constants (Loop a) (Loop c)
    call : {a c : Tree} → Refines constants a c → Refines constants (Call a) (Call c)
    syscall : {a c : Tree} → Refines constants a c → Refines constants (Syscall a) (Syscall c)
    dyn : {ts us : Targets}
        → ((digest : List ℕ) → RefinesFirst constants (first_target constants digest ts) (first_target constants digest us))
        → Refines constants (Dyn ts) (Dyn us)

  -- the second, if there is one, is refined by the first
  pub data RefinesFirst (constants : List ℕ) : Option Tree → Option Tree → Type 0 where
    none : {first : Option Tree} → RefinesFirst constants first None
    some : {t u : Tree} → Refines constants t u → RefinesFirst constants (Some t) (Some u)
