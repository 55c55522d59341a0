-- What the rows of a run ask of the small tables.
use Rattle.std.specs.Prelude.{ℕ, ◌-◌, Bool, true, false, if◌then◌else◌, List, [], ◌∷◌, ◌++◌, take, reverse}
use Rattle.vm_field.specs.Limits.{most_nesting}
use Rattle.vm_field.specs.Sponge.{absorbed, begun}
use Rattle.vm_ops.specs.Codes.{code_of, is_start_op}
use Rattle.vm_ops.specs.declared.op.Op.{Op}
use Rattle.vm_ops.specs.declared.op.Op.TheVariants as ops
use Rattle.air_kit.specs.Flags.{is_op}
use Rattle.air_kit.specs.declared.requests.Access.{Access}
use Rattle.air_kit.specs.declared.requests.BitOp.{BitOp}
use Rattle.air_kit.specs.declared.requests.Perm.{Perm}
use Rattle.air_kit.specs.declared.requests.Requests.{Requests}
use Rattle.machine_cycles.specs.declared.event.Event.{Event}
use Rattle.machine_cycles.specs.declared.event.Visible.{Visible}
use Rattle.complete_rows.specs.Decoder.{at_start, decoder_after}
use Rattle.complete_rows.specs.Filling.{deep_before, seen_behind}
use Rattle.vm_ops.specs.declared.kind.Kind.TheVariants as kinds
use Rattle.vm_ops.specs.declared.kind.Kind.{Kind}
use Rattle.vm_ops.specs.Codes.{kind_of}
use Rattle.complete_rows.specs.Limbs.{cell, limbs_by}
use Rattle.complete_rows.specs.Turns.{respans}

abbrev pub is_empty : List (List ℕ) → Bool
is_empty [] = true
is_empty (block ∷ blocks) = false

-- the permutations of a hash from a state on, which goes on as long as there are blocks
unfoldable pub chain : List ℕ → List ℕ → Bool → List (List ℕ) → List Perm
chain constants state going [] = []
chain constants state going (block ∷ blocks) =
    record { mode = false; cont = going; more = if is_empty blocks then false else true; start = take 4 state ++ block }
    ∷ chain constants (absorbed constants state block) true blocks

-- those of the hash of a domain and blocks
abbrev pub hash_perms : List ℕ → ℕ → List (List ℕ) → List Perm
hash_perms constants domain blocks = chain constants (begun domain) false blocks

-- HPERM's
abbrev pub perms_by_op : Op → Visible → List Perm
perms_by_op ops.HPerm seen = record { mode = true; cont = false; more = false; start = reverse (take 12 seen.cells) } ∷ []
perms_by_op op seen = []

-- A start asks for the hash of its block: a span with all its batches, a dynamic block with zeros, another block with its children's
-- digests.
abbrev pub perms_by : Kind → List ℕ → Event → List Event → List Perm
perms_by kinds.Ordinary constants e later = perms_by_op e.op e.before
perms_by kinds.Join constants e later = hash_perms constants (code_of ops.Join) (e.hash ∷ [])
perms_by kinds.Split constants e later = hash_perms constants (code_of ops.Split) (e.hash ∷ [])
perms_by kinds.Loop constants e later = hash_perms constants (code_of ops.Loop) (e.hash ∷ [])
perms_by kinds.Span constants e later = hash_perms constants 0 (e.hash ∷ respans later)
perms_by kinds.Call constants e later = hash_perms constants (code_of ops.Call) (e.hash ∷ [])
perms_by kinds.Syscall constants e later = hash_perms constants (code_of ops.Syscall) (e.hash ∷ [])
perms_by kinds.Dyn constants e later = hash_perms constants (code_of ops.Dyn) (e.hash ∷ [])
perms_by kinds.End constants e later = []
perms_by kinds.Repeat constants e later = []
perms_by kinds.Respan constants e later = []
perms_by kinds.Halt constants e later = []

unfoldable pub perms_of : List ℕ → List Event → List Perm
perms_of constants [] = []
perms_of constants (e ∷ later) = perms_by (kind_of e.op) constants e later ++ perms_of constants later

abbrev pub bits_by : Op → Visible → List BitOp
bits_by ops.U32And seen = record { xor = false; a = cell seen 0; b = cell seen 1 } ∷ []
bits_by ops.U32Xor seen = record { xor = true; a = cell seen 0; b = cell seen 1 } ∷ []
bits_by op seen = []

unfoldable pub bits_of : List Event → List BitOp
bits_of [] = []
bits_of (e ∷ later) = bits_by e.op e.before ++ bits_of later

-- an access of the word at the address on top, which is this word behind it
abbrev pub access : ℕ → Event → List Access
access kind e = record { kind = kind; ctx = e.before.context; addr = cell e.before 0; clk = e.before.clock; word = e.word } ∷ []

abbrev pub accesses_by : Op → Event → List Access
accesses_by ops.MLoad e = access 0 e
accesses_by ops.MLoadW e = access 0 e
accesses_by ops.MStore e = access 2 e
accesses_by ops.MStoreW e = access 1 e
accesses_by op e = []

unfoldable pub accesses_of : List Event → List Access
accesses_of [] = []
accesses_of (e ∷ later) = accesses_by e.op e ++ accesses_of later

-- a start shows how many more blocks may nest in it; other rows show their limbs
abbrev pub ranges_by : Event → Visible → List ℕ
ranges_by e next = if is_start_op e.op then (most_nesting - next.nesting) ∷ [] else limbs_by e.op e.before next

unfoldable pub ranges_of : Visible → List Event → List ℕ
ranges_of last [] = []
ranges_of last (e ∷ later) = ranges_by e (seen_behind last later) ++ ranges_of last later

-- the digests that syscalls call
unfoldable pub calls_of : List Event → List (List ℕ)
calls_of [] = []
calls_of (e ∷ later) = (if is_op e.op ops.Syscall then take 4 e.hash ∷ [] else []) ++ calls_of later

-- the requests of a run that ends in this state
abbrev pub requests_of : List ℕ → Visible → List Event → Requests
requests_of constants last events = record {
  perms = perms_of constants events;
  bits = bits_of events;
  accesses = accesses_of events;
  ranges = ranges_of last events;
  calls = calls_of events;
  keys = (decoder_after (at_start (deep_before last events)) events).keys;
}
