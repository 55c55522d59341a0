-- The procedures that a body uses, told by its form.
use Rattle.std.proofs.Common.{◌≡◌, ℕ, true, false, List, [], ◌∷◌, ◌++◌, inl, inr, refl, subst, arith}
use Rattle.std.specs.List.{Contains}
use Rattle.std.proofs.lemmas.List.Elements.{Contains-append_left, Contains-append_right, Contains-append_cases}
use Rattle.masm_tree.specs.declared.terminal.Leaf.TheVariants as leaves
use Rattle.masm_tree.specs.Trees.{Body, Empty, Leaf_then, If_then, While_then, Repeat_then}
use Rattle.masm_names.specs.Uses.{Use, Own, Kernel, use_at, ref_at, uses_of}
use Rattle.masm_names.proofs.DoubleLemmas.{cons_cases, cons_here}

-- each procedure of the source that a body runs is one of these, and each whose digest it asks for is one of those
abbrev pub UsesOnly : (Runs Refers : List ℕ → Type 0) → Body → Type 0
UsesOnly P R Empty = Unit {0}
UsesOnly P R (Leaf_then at (leaves.Exec name) rest) = P name × UsesOnly P R rest
UsesOnly P R (Leaf_then at (leaves.Call name) rest) = P name × UsesOnly P R rest
UsesOnly P R (Leaf_then at (leaves.ProcRef name) rest) = R name × UsesOnly P R rest
UsesOnly P R (Leaf_then at other rest) = UsesOnly P R rest
UsesOnly P R (If_then at first second rest) = UsesOnly P R first × UsesOnly P R second × UsesOnly P R rest
UsesOnly P R (While_then at turn rest) = UsesOnly P R turn × UsesOnly P R rest
UsesOnly P R (Repeat_then at n turn rest) = UsesOnly P R turn × UsesOnly P R rest

-- each procedure of the kernel that a body uses is one of these
abbrev pub SyscallsOnly : (List ℕ → Type 0) → Body → Type 0
SyscallsOnly P Empty = Unit {0}
SyscallsOnly P (Leaf_then at (leaves.Syscall name) rest) = P name × SyscallsOnly P rest
SyscallsOnly P (Leaf_then at other rest) = SyscallsOnly P rest
SyscallsOnly P (If_then at first second rest) = SyscallsOnly P first × SyscallsOnly P second × SyscallsOnly P rest
SyscallsOnly P (While_then at turn rest) = SyscallsOnly P turn × SyscallsOnly P rest
SyscallsOnly P (Repeat_then at n turn rest) = SyscallsOnly P turn × SyscallsOnly P rest

-- What holds of each element of a list.
module _ {X : Type 0} (Q : X → Type 0) where
  abbrev pub Each : List X → Type 0
  Each xs = (x : X) → Contains xs x → Q x

  pub each_left : (xs ys : List X) → Each (xs ++ ys) → Each xs
  each_left xs ys h x k = h x (Contains-append_left xs ys x k)

  pub each_right : (xs ys : List X) → Each (xs ++ ys) → Each ys
  each_right xs ys h x k = h x (Contains-append_right xs ys x k)

  each_append : (xs ys : List X) → Each xs → Each ys → Each (xs ++ ys)
  each_append xs ys f g x k = elim (Contains-append_cases xs ys x k) [ inl left ↦ f x left | inr right ↦ g x right ]

  each_cons : (x : X) (xs : List X) → Q x → Each xs → Each (x ∷ xs)
  each_cons x xs q f y k = elim (cons_cases x xs y k) [ inl same ↦ subst Q same q | inr later ↦ f y later ]

-- What holds of each use holds of the procedures of its kind.
module _ (P R K : List ℕ → Type 0) where
  abbrev Told : Use → Type 0
  Told u = (u.kind ≡ Own → u.refers ≡ false → P u.name) × (u.kind ≡ Own → u.refers ≡ true → R u.name) × (u.kind ≡ Kernel → K u.name)

  told : (b : Body) → Each Told (uses_of b) → UsesOnly P R b × SyscallsOnly K b
  told Empty h = (tt, tt)
  told (Leaf_then at (leaves.Instr i) rest) h = told rest h
  told (Leaf_then at leaves.DynExec rest) h = told rest h
  told (Leaf_then at (leaves.Exec name) rest) h =
      let more = told rest (each_right Told (use_at at Own name ∷ []) (uses_of rest) h) in (((h _ (cons_here _ _)).0 refl refl, more.0), more.1)
  told (Leaf_then at (leaves.Call name) rest) h =
      let more = told rest (each_right Told (use_at at Own name ∷ []) (uses_of rest) h) in (((h _ (cons_here _ _)).0 refl refl, more.0), more.1)
  told (Leaf_then at (leaves.Syscall name) rest) h =
      let more = told rest (each_right Told (use_at at Kernel name ∷ []) (uses_of rest) h) in (more.0, ((h _ (cons_here _ _)).2 refl, more.1))
  told (Leaf_then at (leaves.ProcRef name) rest) h =
      let more = told rest (each_right Told (ref_at at name ∷ []) (uses_of rest) h) in (((h _ (cons_here _ _)).1 refl refl, more.0), more.1)
  told (If_then at first second rest) h =
      let behind = each_right Told (uses_of first) (uses_of second ++ uses_of rest) h in
      let one = told first (each_left Told (uses_of first) (uses_of second ++ uses_of rest) h) in
      let two = told second (each_left Told (uses_of second) (uses_of rest) behind) in
      let more = told rest (each_right Told (uses_of second) (uses_of rest) behind) in
      ((one.0, two.0, more.0), (one.1, two.1, more.1))
  told (While_then at turn rest) h =
      let one = told turn (each_left Told (uses_of turn) (uses_of rest) h) in
      let more = told rest (each_right Told (uses_of turn) (uses_of rest) h) in
      ((one.0, more.0), (one.1, more.1))
  told (Repeat_then at n turn rest) h =
      let one = told turn (each_left Told (uses_of turn) (uses_of rest) h) in
      let more = told rest (each_right Told (uses_of turn) (uses_of rest) h) in
      ((one.0, more.0), (one.1, more.1))

pub uses_only : (P R : List ℕ → Type 0) (b : Body) → ((u : Use) → Contains (uses_of b) u → u.kind ≡ Own → u.refers ≡ false → P u.name)
    → ((u : Use) → Contains (uses_of b) u → u.kind ≡ Own → u.refers ≡ true → R u.name) → UsesOnly P R b
uses_only P R b h g = (told P R (λ name. Unit {0}) b (λ u k. (h u k, g u k, λ kernel. tt))).0

pub syscalls_only : (P : List ℕ → Type 0) (b : Body) → ((u : Use) → Contains (uses_of b) u → u.kind ≡ Kernel → P u.name) → SyscallsOnly P b
syscalls_only P b h = (told (λ name. Unit {0}) (λ name. Unit {0}) P b (λ u k. (λ own runs. tt, λ own refers. tt, h u k))).1

-- each procref is of a procedure of the source
abbrev IsOwn : Use → Type 0
IsOwn u = u.refers ≡ true → u.kind ≡ Own

pub refs_are_own : (b : Body) (u : Use) → Contains (uses_of b) u → u.refers ≡ true → u.kind ≡ Own
refs_are_own Empty u h = absurd (omega (arith, h.1))
refs_are_own (Leaf_then at (leaves.Instr i) rest) u h = refs_are_own rest u h
refs_are_own (Leaf_then at leaves.DynExec rest) u h = refs_are_own rest u h
refs_are_own (Leaf_then at (leaves.Exec name) rest) u h = each_cons IsOwn (use_at at Own name) (uses_of rest) (λ refers. refl) (refs_are_own rest) u h
refs_are_own (Leaf_then at (leaves.Call name) rest) u h = each_cons IsOwn (use_at at Own name) (uses_of rest) (λ refers. refl) (refs_are_own rest) u h
refs_are_own (Leaf_then at (leaves.Syscall name) rest) u h =
    each_cons IsOwn (use_at at Kernel name) (uses_of rest) (λ refers. cc) (refs_are_own rest) u h
refs_are_own (Leaf_then at (leaves.ProcRef name) rest) u h = each_cons IsOwn (ref_at at name) (uses_of rest) (λ refers. refl) (refs_are_own rest) u h
refs_are_own (If_then at first second rest) u h =
    each_append IsOwn (uses_of first) (uses_of second ++ uses_of rest) (refs_are_own first)
    (each_append IsOwn (uses_of second) (uses_of rest) (refs_are_own second) (refs_are_own rest)) u h
refs_are_own (While_then at turn rest) u h = each_append IsOwn (uses_of turn) (uses_of rest) (refs_are_own turn) (refs_are_own rest) u h
refs_are_own (Repeat_then at n turn rest) u h = each_append IsOwn (uses_of turn) (uses_of rest) (refs_are_own turn) (refs_are_own rest) u h
