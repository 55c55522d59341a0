-- The trees of assembled programs are ready: their operations can be packed, and what is packed has a reading.
use Rattle.std.proofs.Common.{◌≡◌, ◌≢◌, ℕ, zero, suc, ◌-◌, ◌<◌, ◌≤◌, Bool, true, false, cond, List, [], ◌∷◌, ◌++◌, length, map, Option, Some, None, MatchOption, option_map, option_and_then, Result, Ok, Err, refl, sym, ap, subst, bytes_eq, arith}
use Rattle.std.proofs.lemmas.List.Elements.{All-from_recursion, All-head, All-tail}
use Rattle.std.proofs.lemmas.Option.{same_Some}
use Rattle.std.specs.List.{All, AllByRecursion, AllZip}
use Rattle.vm_field.specs.Field.{prime, AreElements}
use Rattle.vm_ops.specs.declared.item.Item.{Item}
use Rattle.vm_ops.specs.declared.op.Op.{Op}
use Rattle.vm_ops.specs.declared.op.Op.TheVariants as ops
use Rattle.vm_ops.specs.Items.{plain_item, IsPackableItem}
use Rattle.op_pack.specs.Packing.{IsPackable, packed}
use Rattle.op_pack.specs.Reading.{reading}
use Rattle.op_pack.specs.RoundTrip.{read_batches}
use Rattle.op_pack.proofs.BatchLemmas.{read_back}
use Rattle.op_pack.proofs.PackedLemmas.{packed-some}
use Rattle.block_tree.specs.Behind.{HasReading}
use Rattle.masm_expand.specs.Expansion.{lit, expansion}
use Rattle.masm_expand.proofs.Packing.{expansions_are_packable, lit_packs}
use Rattle.masm_lex.specs.declared.list.Token.{Token}
use Rattle.masm_lex.specs.declared.refusal.LexError.{LexError}
use Rattle.masm_lex.specs.Tokens.{lexed}
use Rattle.masm_parse.specs.declared.refusal.ParseError.{ParseError}
use Rattle.masm_tree.specs.Forms.{BodyIsInForm, ProcedureIsInForm, MainIsInForm}
use Rattle.masm_tree.specs.Locals.{HasLocals, ProcedureFits, MainFits}
use Rattle.masm_parse.specs.Machine.{parsed}
use Rattle.masm_tree.specs.Trees.{Body, Procedure, Source}
use Rattle.masm_parse.proofs.Fitting.{locals-fit}
use Rattle.masm_parse.proofs.Forming.{trees_are_in_form}
use Rattle.masm_flat.specs.Blocks.{Block, Blocks, Span, Join, Split, Loop, Call, Syscall, Dyn, no_block, block_before, blocks_from, seen_all, Piece, Operation, Whole, span_before, blocks_behind, paired, joined, all_joined, whole_of, block_of, seen_as, as_tree}
use Rattle.masm_flat.specs.Lists.{Exported, Outside, outside_of, ListOf, ListsOf, no_list, list_before, IsList, nothing, instr, exec, call, procref, syscall, dynexec, branches, loops, repeated, first_procedure, first_export, times, with_locals, block_digest, digest_items, IsBlockOf}
use Rattle.masm_flat.specs.Lists as lists
use Rattle.masm_flat.proofs.Digests.{block-elements}
use Rattle.masm_names.specs.Naming.{exported_of}
use Rattle.masm_link.specs.Libraries.{LibraryProcedure, are_plain, with_library}
use Rattle.masm_link.proofs.LibraryLemmas.{whole_fits, whole_is_in_form}
use Rattle.masm_link.specs.Assembling.{reads, read_tokens, read_parsed, KernelExports, no_kernel, of_kernel, assembled}
use Rattle.block_tree.specs.KnownTrees.{IsReady, AreReady}
use Rattle.block_tree.specs.Trees.{targets_from}
use Rattle.masm_runs.specs.Runs.{AssembledIsReady}

-- batches that are read together are read each
batches-read : (batches : List (List ℕ)) (items : List Item) → read_batches batches ≡ Some items → AllByRecursion HasReading batches
batches-read [] items e = tt
batches-read (batch ∷ batches) items e = by (λ ys there. batches-read batches ys there) (reading batch) refl (read_batches batches) refl e
  where
    by : ((ys : List Item) → read_batches batches ≡ Some ys → AllByRecursion HasReading batches) → (first : Option (List Item))
        → reading batch ≡ first → (later : Option (List Item)) → read_batches batches ≡ later
        → option_and_then (λ xs. option_map (λ ys. xs ++ ys) later) first ≡ Some items → AllByRecursion HasReading (batch ∷ batches)
    by others None is later there none = cc
    by others (Some xs) is None there none = cc
    by others (Some xs) is (Some ys) there some = ((xs, is), others ys there)

-- the operations of each span can be packed
abbrev mutual
  Packs : Block → Type 0
  Packs (Span items) = IsPackable items
  Packs (Join first second) = Packs first × Packs second
  Packs (Split on_one on_zero) = Packs on_one × Packs on_zero
  Packs (Loop body) = Packs body
  Packs (Call callee) = Packs callee
  Packs (Syscall callee) = Packs callee
  Packs (Dyn targets) = AllPack targets

  AllPack : Blocks → Type 0
  AllPack no_block = Unit {0}
  AllPack (block_before first more) = Packs first × AllPack more

mutual
  ready-block : (b : Block) → Packs b → IsReady (seen_as as_tree b)
  ready-block (Span items) h =
      let back = read_back items h in
      (packed-some items h.some, batches-read (packed items) back.read back.is)
  ready-block (Join a b) h = (ready-block a h.0, ready-block b h.1)
  ready-block (Split a b) h = (ready-block a h.0, ready-block b h.1)
  ready-block (Loop a) h = ready-block a h
  ready-block (Call a) h = ready-block a h
  ready-block (Syscall a) h = ready-block a h
  ready-block (Dyn targets) h = ready-all targets h

  ready-all : (bs : Blocks) → AllPack bs → AreReady (targets_from (seen_all as_tree bs))
  ready-all no_block h = tt
  ready-all (block_before first more) h = (ready-block first h.0, ready-all more h.1)

-- the same of a list's pieces
abbrev PiecePacks : Piece Block → Type 0
PiecePacks (Operation item) = IsPackableItem item
PiecePacks (Whole block) = Packs block

all-append : {X : Type 0} (P : X → Type 0) (xs ys : List X) → AllByRecursion P xs → AllByRecursion P ys → AllByRecursion P (xs ++ ys)
all-append P [] ys h k = k
all-append P (x ∷ xs) ys h k = (h.0, all-append P xs ys h.1 k)

all-recursion : (items : List Item) → All IsPackableItem items → AllByRecursion IsPackableItem items
all-recursion [] h = tt
all-recursion (item ∷ items) h = (h 0 item (omega arith), all-recursion items (λ k d l. h (suc k) d (omega arith)))

never_empty : {X : Type 0} (x : X) (xs : List X) → x ∷ xs ≢ []
never_empty x xs e = cc

packs-span : (items : List Item) (blocks : List Block) → AllByRecursion IsPackableItem items → AllByRecursion Packs blocks
    → AllByRecursion Packs (span_before Span Join items blocks)
packs-span [] blocks h k = k
packs-span (item ∷ items) blocks h k =
    (record { some = never_empty item items; each = All-from_recursion IsPackableItem (item ∷ items) h }, k)

packs-behind : (items : List Item) (pieces : List (Piece Block)) → AllByRecursion IsPackableItem items → AllByRecursion PiecePacks pieces
    → AllByRecursion Packs (blocks_behind Span Join items pieces)
packs-behind items [] h k = packs-span items [] h tt
packs-behind items (Operation item ∷ pieces) h k =
    packs-behind (items ++ item ∷ []) pieces (all-append IsPackableItem items (item ∷ []) h (k.0, tt)) k.1
packs-behind items (Whole block ∷ pieces) h k =
    packs-span items (block ∷ blocks_behind Span Join [] pieces) h (k.0, packs-behind [] pieces tt k.1)

packs-paired : (blocks : List Block) → AllByRecursion Packs blocks → AllByRecursion Packs (paired Span Join blocks)
packs-paired [] h = tt
packs-paired (a ∷ []) h = h
packs-paired (a ∷ b ∷ blocks) h = ((h.0, h.1.0), packs-paired blocks h.1.1)

plain_packs : (op : Op) → IsPackableItem (plain_item op) → Packs (Span (plain_item op ∷ []))
plain_packs op h = record { some = never_empty (plain_item op) []; each = All-from_recursion IsPackableItem (plain_item op ∷ []) (h, tt) }

noop_packs : IsPackableItem (plain_item ops.Noop)
noop_packs = record { ordinary = record { ordinary = refl; immediate = λ e. cc }; immediate = tt }

packs-joined : (n : ℕ) (blocks : List Block) → AllByRecursion Packs blocks → Packs (joined Span Join n blocks)
packs-joined n [] h = plain_packs ops.Noop noop_packs
packs-joined n (a ∷ []) h = h.0
packs-joined zero (a ∷ b ∷ blocks) h = h.0
packs-joined (suc n) (a ∷ b ∷ blocks) h = packs-joined n (paired Span Join (a ∷ b ∷ blocks)) (packs-paired (a ∷ b ∷ blocks) h)

packs-block : (pieces : List (Piece Block)) → AllByRecursion PiecePacks pieces → Packs (block_of pieces)
unfolding whole_of all_joined
packs-block pieces h = packs-joined (length (blocks_behind Span Join [] pieces)) _ (packs-behind [] pieces tt h)

packs-times : (n : ℕ) (xs : List (Piece Block)) → AllByRecursion PiecePacks xs → AllByRecursion PiecePacks (times n xs)
packs-times zero xs h = tt
packs-times (suc n) xs h = all-append PiecePacks xs (times n xs) h (packs-times n xs h)

-- the frame pointer's moves
update_packs : IsPackableItem (plain_item ops.FmpUpdate)
update_packs = record { ordinary = record { ordinary = refl; immediate = λ e. cc }; immediate = tt }

packs-locals : (n : ℕ) (xs : List (Piece Block)) → n ≤ 65535 → AllByRecursion PiecePacks xs → AllByRecursion PiecePacks (with_locals n xs)
packs-locals zero xs few h = h
packs-locals (suc n) xs few h =
    let behind = all-append PiecePacks xs (Operation (lit (prime - suc n)) ∷ Operation (plain_item ops.FmpUpdate) ∷ []) h
    (lit_packs (prime - suc n) (omega arith), (update_packs, tt)) in
    (lit_packs (suc n) (omega arith), (update_packs, behind))

packs-operations : (items : List Item) → AllByRecursion IsPackableItem items → AllByRecursion PiecePacks (map Operation items)
packs-operations [] h = tt
packs-operations (item ∷ items) h = (h.0, packs-operations items h.1)

-- a procedure's instructions are in form, and name its own locals
abbrev IsGood : Procedure → Type 0
IsGood p = ProcedureFits p × ProcedureIsInForm p

both-of : (procs : List Procedure) → AllByRecursion ProcedureFits procs → AllByRecursion ProcedureIsInForm procs → AllByRecursion IsGood procs
both-of [] h k = tt
both-of (p ∷ procs) h k = ((h.0, k.0), both-of procs h.1 k.1)

found-good : (procs : List Procedure) (name : List ℕ) (p : Procedure) → AllByRecursion IsGood procs → first_procedure procs name ≡ Some p → IsGood p
found-good [] name p h e = cc
found-good (q ∷ procs) name p h e = by (λ is. found-good procs name p h.1 is) (bytes_eq q.name name) e
  where
    by : (first_procedure procs name ≡ Some p → IsGood p) → (b : Bool) → cond b (Some q) (first_procedure procs name) ≡ Some p → IsGood p
    by later true is = subst IsGood (same_Some q p is) h.0
    by later false is = later is

-- what puts elements on the stack
packs-literals : (elements : List ℕ) → AreElements elements → AllByRecursion PiecePacks (map Operation (digest_items elements))
packs-literals [] h = tt
packs-literals (v ∷ elements) h =
    (lit_packs v (All-head (λ e. e < prime) v elements h), packs-literals elements (All-tail (λ e. e < prime) v elements h))

module _ (source : Source) (out : Outside) (good : AllByRecursion IsGood source.procs)
    (packs : (name : List ℕ) (block : Block) → first_export out.exports name ≡ Some block → Packs block) where
  mutual
    packs-list-of : {name : List ℕ} {ys : List (Piece Block)} → ListOf source out name ys → AllByRecursion PiecePacks ys
    packs-list-of (lists.own name {p} {ys} found d) =
        let is = found-good source.procs name p good found in
        packs-locals p.locals ys is.1.0 (packs-list d is.0 is.1.1)

    packs-lists : {names : List (List ℕ)} {all : List (List (Piece Block))} → ListsOf source out names all → AllPack (blocks_from (map block_of all))
    packs-lists no_list = tt
    packs-lists (list_before name {names} {ys} d ds) = (packs-block ys (packs-list-of d), packs-lists ds)

    packs-list : {locals : ℕ} {b : Body} {xs : List (Piece Block)} → IsList source out locals b xs → HasLocals locals b
        → BodyIsInForm b → AllByRecursion PiecePacks xs
    packs-list nothing h k = tt
    packs-list {locals} (instr at i {xs} d) h k =
        all-append PiecePacks (map Operation (expansion i.name i.numbers locals)) xs
        (packs-operations (expansion i.name i.numbers locals) (all-recursion (expansion i.name i.numbers locals)
        (expansions_are_packable i.name i.numbers locals k.0 h.0).each)) (packs-list d h.1 k.1)
    packs-list (exec at name {ys} {xs} d f) h k = all-append PiecePacks ys xs (packs-list-of d) (packs-list f h.1 k.1)
    packs-list (call at name {ys} d f) h k = (packs-block ys (packs-list-of d), packs-list f h.1 k.1)
    packs-list (procref at name {ys} {xs} d f) h k =
        let digest = block_digest out.constants (block_of ys) in
        all-append PiecePacks (map Operation (digest_items digest)) xs (packs-literals digest (block-elements out.constants (block_of ys)))
        (packs-list f h.1 k.1)
    packs-list (syscall at name {callee} found f) h k = (packs name callee found, packs-list f h.1 k.1)
    packs-list (dynexec at ds f) h k = (packs-lists ds, packs-list f h.1 k.1)
    packs-list (branches at {ys} {zs} a e f) h k =
        ((packs-block ys (packs-list a h.0 k.0), packs-block zs (packs-list e h.1 k.1)), packs-list f h.2 k.2)
    packs-list (loops at {ys} d f) h k = (packs-block ys (packs-list d h.0 k.0), packs-list f h.1 k.1)
    packs-list (repeated at n {ys} {xs} d f) h k =
        all-append PiecePacks (times n ys) xs (packs-times n ys (packs-list d h.0 k.0)) (packs-list f h.1 k.1)

  packs-procedure : (p : Procedure) (block : Block) → IsGood p → IsBlockOf source out p block → Packs block
  packs-procedure p block is built =
      subst Packs (sym built.is)
      (packs-block (with_locals p.locals built.pieces) (packs-locals p.locals built.pieces is.1.0 (packs-list built.flat is.0 is.1.1)))

-- a source that is read

parsed-ok : (is_kernel : Bool) (source : Source) (r : Result Source ParseError) → read_parsed is_kernel r ≡ Ok source → r ≡ Ok source
parsed-ok is_kernel source (Ok other) e = let same : other ≡ source = cc in ap Ok same
parsed-ok is_kernel source (Err refusal) e = cc

tokens-of : (is_kernel : Bool) (text : List ℕ) (source : Source) (r : Result (List Token) LexError) → read_tokens is_kernel text r ≡ Ok source
    → (tokens : List Token) × (parsed is_kernel text tokens ≡ Ok source)
tokens-of is_kernel text source (Ok tokens) e = (tokens, parsed-ok is_kernel source (parsed is_kernel text tokens) e)
tokens-of is_kernel text source (Err refusal) e = cc

read-tokens : (is_kernel : Bool) (text : List ℕ) (source : Source) → reads is_kernel text ≡ Ok source
    → (tokens : List Token) × (parsed is_kernel text tokens ≡ Ok source)
unfolding reads
read-tokens is_kernel text source e = tokens-of is_kernel text source (lexed text) e

good-procs : (is_kernel : Bool) (library : List LibraryProcedure) (text : List ℕ) (source : Source) → are_plain library ≡ true
    → reads is_kernel text ≡ Ok source → AllByRecursion IsGood (with_library library source).procs
good-procs is_kernel library text source plain e =
    let r = read-tokens is_kernel text source e in
    both-of (with_library library source).procs (whole_fits library source plain (locals-fit is_kernel text r.0 source r.1)).procs
    (whole_is_in_form library source plain (trees_are_in_form is_kernel text r.0 source r.1).procs)

good-main : (is_kernel : Bool) (text : List ℕ) (source : Source) (p : Procedure) → reads is_kernel text ≡ Ok source
    → source.main ≡ Some p → IsGood p
good-main is_kernel text source p e is =
    let r = read-tokens is_kernel text source e in (
      subst MainFits is (locals-fit is_kernel text r.0 source r.1).main,
      subst MainIsInForm is (trees_are_in_form is_kernel text r.0 source r.1).main,
    )

-- what a kernel exports

good-exported : (procs : List Procedure) → AllByRecursion IsGood procs → AllByRecursion IsGood (exported_of procs)
good-exported [] h = tt
good-exported (p ∷ procs) h = by (good-exported procs h.1) p.exported
  where
    by : AllByRecursion IsGood (exported_of procs) → (b : Bool) → AllByRecursion IsGood (cond b (p ∷ exported_of procs) (exported_of procs))
    by others true = (h.0, others)
    by others false = others

module _ (constants : List ℕ) (source : Source) (good : AllByRecursion IsGood source.procs) where
  none-found : (name : List ℕ) (block : Block) → first_export [] name ≡ Some block → Packs block
  none-found name block e = cc

  exports-pack : (own : List Procedure) (exports : List Exported) → AllByRecursion IsGood own
      → AllZip (λ p e. (e.name ≡ p.name) × IsBlockOf source (outside_of constants []) p e.block) own exports
      → (name : List ℕ) (block : Block) → first_export exports name ≡ Some block → Packs block
  exports-pack [] [] h z name block found = cc
  exports-pack [] (e ∷ exports) h z name block found = absurd z
  exports-pack (p ∷ own) [] h z name block found = absurd z
  exports-pack (p ∷ own) (e ∷ exports) h z name block found =
      by (λ is. exports-pack own exports h.1 z.1 name block is) (bytes_eq e.name name) found
    where
      by : (first_export exports name ≡ Some block → Packs block) → (b : Bool) → cond b (Some e.block) (first_export exports name) ≡ Some block
          → Packs block
      by later true is = subst Packs (same_Some e.block block is) (packs-procedure source (outside_of constants []) good none-found p e.block h.0 z.0.1)
      by later false is = later is

kernel-packs : (constants : List ℕ) (kernel : Option (List ℕ)) (exports : List Exported) → KernelExports constants kernel exports
    → (name : List ℕ) (block : Block) → first_export exports name ≡ Some block → Packs block
kernel-packs constants kernel exports no_kernel name block found = cc
kernel-packs constants kernel exports (of_kernel text own links) name block found =
    let source = with_library [] links.source in
    let good = good-procs true [] text links.source refl links.read in
    exports-pack constants source good (exported_of source.procs) own (good-exported source.procs good) links.links.exported name block found

-- the body between begin and end

main-packs : (source : Source) (out : Outside) (own : List Exported) (block : Block) → AllByRecursion IsGood source.procs
    → ((name : List ℕ) (callee : Block) → first_export out.exports name ≡ Some callee → Packs callee)
    → (main : Option Procedure) → ((p : Procedure) → main ≡ Some p → IsGood p)
    → MatchOption main (Some block ≡ None) (λ p. (b : Block) × (Some block ≡ Some b) × IsBlockOf source out p b) → Packs block
main-packs source out own block good packs None fits h = cc
main-packs source out own block good packs (Some p) fits h =
    subst Packs (sym (same_Some block h.0 h.1)) (packs-procedure source out good packs p h.0 (fits p refl) h.2)

pub assembled-ready : AssembledIsReady
assembled-ready constants library text kernel program plain (assembled exports own block _ k links is) =
    let source = with_library library links.source in
    subst IsReady (sym is.tree)
    (ready-block block
    (main-packs source (outside_of constants exports) own block (good-procs false library text links.source plain links.read)
    (kernel-packs constants kernel exports k) source.main (λ p there. good-main false text links.source p links.read there) links.links.body))
