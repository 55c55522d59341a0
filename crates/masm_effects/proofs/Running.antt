-- A list of operations run from a state does what it does on a window of the state's stack.
use Rattle.std.proofs.Common.{◌≡◌, ℕ, zero, suc, ◌+◌, ◌-◌, ◌≤◌, max, ◌⊎◌, inl, inr, Bool, true, false, ◌||◌, not, nat_le, nat_lt, List, [], ◌∷◌, ◌++◌, length, take, drop, slice_index, Option, Some, None, Result, Ok, Err, refl, sym, ◌∙◌, ap, subst, arith, ltb-true, ltb-false, le-ltb, ◌&&◌}
use Rattle.std.proofs.lemmas.Bool.Decides.{nat_tests}
use Rattle.std.proofs.lemmas.Bool.{and_parts}
use Rattle.std.proofs.lemmas.List.{get_or_append_left, length-append, length-drop, length-take-le}
use Rattle.vm_field.specs.Limits.{number_of_constants}
use Rattle.vm_field.specs.Machine.{Core, State, word_at}
use Rattle.vm_ops.specs.declared.cause.Cause.{Cause}
use Rattle.vm_ops.specs.declared.cause.Cause.TheVariants as causes
use Rattle.vm_ops.specs.declared.item.Item.{Item}
use Rattle.vm_ops.specs.declared.op.Op.{Op}
use Rattle.vm_ops.specs.Moves.{takes_of, leaves_of}
use Rattle.vm_ops.specs.Sizes.{IsSeenBy}
use Rattle.masm_effects.proofs.Sized.{IsSized, step-sized}
use Rattle.vm_ops.specs.Step.{left_cells, stack_after, performed, step}
use Rattle.vm_ops.specs.Stepping.{seen_at}
use Rattle.vm_ops.specs.Values.{Seen, advice_of, or_else, trap_of, unless}
use Rattle.vm_ops.proofs.MoveLemmas.{takes_of-below}
use Rattle.vm_ops.proofs.Sizing.{length-left_cells, length-stack_after}
use Rattle.vm_ops.proofs.StepLemmas.{step-goes, step-traps}
use Rattle.masm_effects.specs.Effects.{listed}
use Rattle.vm_ops.specs.Runs.{after_ok, run}
use Rattle.masm_effects.proofs.Alikes.{Alike, alike-stack, alike-top, length-listed, listed-all, listed-front}
use Rattle.masm_effects.proofs.Windows.{Window, seen_in, next, is_short, trap_in, has_room, last, trap, fits}

-- A state is what the window shows, in a run from a state of this core; the rest of the stack lies below the known cells.
pub record WindowShows (c : Core) (rest : List ℕ) (w : Window) (s : State) : Type 0 where
  pub clock : s.core.clock ≡ c.clock + w.turn
  pub context : s.core.context ≡ c.context
  pub fmp : s.core.fmp ≡ w.fmp
  pub in_syscall : s.core.in_syscall ≡ c.in_syscall
  pub digest : s.core.digest ≡ c.digest
  pub nesting : s.core.nesting ≡ c.nesting
  pub stack : Alike s.core.stack (w.cells ++ rest)
  pub depth : length s.core.stack ≡ max 16 (length w.cells + length c.stack - 24)
  pub memory : s.core.memory ≡ w.memory
  pub tape : s.tape ≡ w.tape

-- the outcome is the trap, or a state that the window shows
abbrev pub Does : Option Cause → Result State Cause → Core → List ℕ → Window → Type 0
Does None r c rest w = (t : State) × (r ≡ Ok t) × WindowShows c rest w t
Does (Some cause) r c rest w = r ≡ Err cause

is_short-is : (n : ℕ) (tape : List ℕ) → is_short n tape ≡ nat_lt (length tape) n
is_short-is zero tape = sym (le-ltb (length tape) 0 (omega arith))
is_short-is (suc n) tape = refl

-- the depth behind an operation, from the count of known cells
depth-next : (takes leaves known deep before : ℕ) → 16 ≤ deep → takes ≤ 16 → 16 ≤ known → (leaves ≤ takes) ⊎ (24 ≤ known)
    → before ≡ max 16 (known + deep - 24)
    → max 16 (leaves + (before - takes)) ≡ max 16 (leaves + (known - takes) + deep - 24)
depth-next takes leaves known deep before h few enough (inl shrinks) is = omega arith
depth-next takes leaves known deep before h few enough (inr whole) is = omega arith

record Room (item : Item) (cells : List ℕ) : Type 0 where
  enough : 16 ≤ length cells
  grows : (leaves_of item.op ≤ takes_of item.op) ⊎ (24 ≤ length cells)

is-enough : (known leaves takes : ℕ) → nat_le 16 known && (nat_le leaves takes || nat_le 24 known) ≡ true → 16 ≤ known
is-enough known leaves takes e = grind (arith, nat_tests)

may-grow : (known leaves takes : ℕ) → nat_le 16 known && (nat_le leaves takes || nat_le 24 known) ≡ true → (leaves ≤ takes) ⊎ (24 ≤ known)
may-grow known leaves takes e = grind (arith, nat_tests)

room : (item : Item) (cells : List ℕ) → has_room item cells ≡ true → Room item cells
room item cells e = record {
  enough = is-enough (length cells) (leaves_of item.op) (takes_of item.op) e;
  grows = may-grow (length cells) (leaves_of item.op) (takes_of item.op) e;
}

-- the state behind an operation with the clock one later and the advice taken
abbrev behind : Op → Seen → State → State
behind op v s = record {
  core = record (performed op v s.core) { clock = s.core.clock + 1 };
  tape = drop (advice_of op) s.tape;
}

module _ (constants : List ℕ) (c : Core) (rest : List ℕ) where
  module _ (item : Item) (w : Window) (s : State) (count : length constants ≡ number_of_constants) (deep : 16 ≤ length c.stack)
      (r : Room item w.cells) (sized : IsSized s.core) (shows : WindowShows c rest w s) where
    abbrev sees : Seen
    sees = seen_in constants c item w

    -- cell 0 of the state is that of the window
    top-is : slice_index s.core.stack 0 ≡ slice_index w.cells 0
    top-is = let enough = r.enough in shows.stack.at 0 ∙ get_or_append_left w.cells rest 0 0 (omega arith)

    -- what the operation sees, where the tape has what it takes
    seen-is : advice_of item.op ≤ length s.tape → seen_at constants item s ≡ sees
    seen-is taken =
        let place : slice_index s.core.stack 0 ≡ slice_index w.cells 0 = top-is in
        let advice : take (advice_of item.op) s.tape ≡ listed (advice_of item.op) 0 w.tape =
        sym (listed-front (advice_of item.op) s.tape taken) ∙ ap (listed (advice_of item.op) 0) shows.tape in
        let word : word_at s.core.memory s.core.context (slice_index s.core.stack 0) ≡ listed 4 0 (word_at w.memory c.context (slice_index w.cells 0)) =
        sym (listed-all 4 (word_at s.core.memory s.core.context (slice_index s.core.stack 0)) (sized.words s.core.context (slice_index s.core.stack 0)))
        ∙ rw (place, shows.memory, shows.context) refl in
        let digest : s.core.digest ≡ listed 4 0 c.digest = sym (listed-all 4 s.core.digest sized.digest) ∙ ap (listed 4 0) shows.digest in
        let cells : take 16 s.core.stack ≡ take 16 w.cells = alike-top s.core.stack w.cells rest sized.stack r.enough shows.stack in
        let clock = shows.clock in
        let fmp = shows.fmp in
        let in_syscall = shows.in_syscall in
        let depth = shows.depth in
        cc

    -- what it then sees is of the right size
    seen-sized : IsSeenBy item.op sees
    seen-sized = record {
      constants = count;
      cells = length-take-le 16 w.cells r.enough;
      word = refl;
      digest = refl;
      advice = length-listed (advice_of item.op) 0 w.tape;
    }

    shows-next : WindowShows c rest (next constants c item w) (behind item.op sees s)
    unfolding stack_after
    shows-next =
        let left : length (left_cells item.op sees) ≡ leaves_of item.op = length-left_cells item.op sees seen-sized in
        let few : takes_of item.op ≤ 16 = takes_of-below item.op in
        let enough : 16 ≤ length w.cells = r.enough in
        let place : slice_index s.core.stack 0 ≡ slice_index w.cells 0 = top-is in
        let before = shows.clock in
        record {
          clock = omega arith;
          context = shows.context;
          fmp = refl;
          in_syscall = shows.in_syscall;
          digest = shows.digest;
          nesting = shows.nesting;
          stack = alike-stack (left_cells item.op sees) (listed (leaves_of item.op) 0 (left_cells item.op sees)) s.core.stack w.cells rest
              (takes_of item.op) (listed-all (leaves_of item.op) (left_cells item.op sees) left) (omega arith) shows.stack;
          depth = length-stack_after item.op sees s.core.stack seen-sized
              ∙ (depth-next (takes_of item.op) (leaves_of item.op) (length w.cells) (length c.stack) (length s.core.stack) deep few
              enough r.grows shows.depth
              ∙ rw (length-append, length-listed, length-drop) refl);
          memory = rw (place, shows.memory, shows.context) refl;
          tape = ap (drop (advice_of item.op)) shows.tape;
        }

    -- an operation that is not short of advice
    goes : advice_of item.op ≤ length s.tape → (own : Option Cause) → trap_of item.op sees ≡ own
        → Does own (step constants item s) c rest (next constants c item w)
    goes enough None free = (
      behind item.op sees s,
      step-goes constants item s (behind item.op sees s) (record {
        enough = enough;
        free = ap (trap_of item.op) (seen-is enough) ∙ free;
        is = ap (λ (v : Seen). behind item.op v s) (sym (seen-is enough));
      }),
      shows-next,
    )
    goes enough (Some cause) traps = step-traps constants item s cause (record { why = inr (enough, ap (trap_of item.op) (seen-is enough) ∙ traps) })

    step-does : Does (trap_in constants c item w) (step constants item s) c rest (next constants c item w)
    step-does = go (is_short (advice_of item.op) w.tape) refl
      where
        short-is : nat_lt (length s.tape) (advice_of item.op) ≡ is_short (advice_of item.op) w.tape
        short-is = ap (λ (tape : List ℕ). nat_lt (length tape) (advice_of item.op)) shows.tape ∙ sym (is_short-is (advice_of item.op) w.tape)

        go : (short : Bool) → is_short (advice_of item.op) w.tape ≡ short
            → Does (or_else (unless (not short) causes.AdviceEmpty) (trap_of item.op sees)) (step constants item s) c rest (next constants c item w)
        go true e = step-traps constants item s causes.AdviceEmpty (record { why = inl (ltb-true _ _ (short-is ∙ e), refl) })
        go false e = goes (ltb-false _ _ (short-is ∙ e)) (trap_of item.op sees) refl

  -- the first step, and then the others
  run-on : (items : List Item) (w v : Window) (own later : Option Cause) (r : Result State Cause) → Does own r c rest w
      → ((t : State) → r ≡ Ok t → WindowShows c rest w t → Does later (run constants items t) c rest v)
      → Does (or_else own later) (after_ok (run constants items) r) c rest v
  run-on items w v None later r (t, is, shows) go =
      let P : Result State Cause → Type 0 = λ o. Does later (after_ok (run constants items) o) c rest v in
      subst P (sym is) (go t is shows)
  run-on items w v (Some cause) later r is go = ap (after_ok (run constants items)) is

  pub run-does : (items : List Item) (w : Window) (s : State) → length constants ≡ number_of_constants → 16 ≤ length c.stack
      → fits constants c items w ≡ true → IsSized s.core → WindowShows c rest w s
      → Does (trap constants c items w) (run constants items s) c rest (last constants c items w)
  unfolding run last trap fits
  run-does [] w s e deep fit sized shows = (s, refl, shows)
  run-does (item ∷ items) w s e deep fit sized shows =
      let after : Window = next constants c item w in
      let parts = and_parts (has_room item w.cells) (fits constants c items after) fit in
      run-on items after (last constants c items after) (trap_in constants c item w) (trap constants c items after) (step constants item s)
      (step-does item w s e deep (room item w.cells parts.0) sized shows)
      (λ t is shown. run-does items after t e deep parts.1 (step-sized constants item s t e sized is) shown)

-- the clock of the window counts the operations
pub last-turn : (constants : List ℕ) (c : Core) (items : List Item) (w : Window) → (last constants c items w).turn ≡ length items + w.turn
unfolding last
last-turn constants c [] w = omega arith
last-turn constants c (item ∷ items) w =
    let later : (last constants c items (next constants c item w)).turn ≡ length items + suc w.turn =
    last-turn constants c items (next constants c item w) in
    omega arith
