-- One cycle of an operation, as the code answers it.
use Rattle.std.proofs.Common.{◌≡◌, ℕ, ◌^◌, ◌<◌, ◌≤◌, Bool, true, false, List, [], ◌∷◌, ◌++◌, length, take, slice_index, Option, Some, None, Ok, Err, IsTrue, IfSome, MatchOption, ◌≢◌, refl, subst, sym, ap, ◌∙◌, arith, if◌then◌else◌}
use Rattle.std.proofs.lemmas.Bool.{ltb-true}
use Rattle.std.proofs.lemmas.List.{get_or-take}
use Rattle.vm_field.specs.Machine as machine
use Rattle.vm_field.specs.Machine.{Core, word_at, zero_word}
use Rattle.vm_ops.specs.declared.cause.Cause.{Cause}
use Rattle.vm_ops.specs.declared.cause.Cause.TheVariants.{AddressRange}
use Rattle.vm_ops.specs.declared.item.Item.{Item}
use Rattle.vm_ops.specs.declared.op.Op.{Op}
use Rattle.vm_ops.specs.declared.op.Op.TheVariants as ops
use Rattle.vm_ops.specs.Items.{IsOrdinaryItem}
use Rattle.vm_field.specs.Field.{prime}
use Rattle.vm_ops.specs.Codes.{accesses_memory}
use Rattle.vm_ops.specs.Step.{act, step}
use Rattle.vm_ops.specs.Values.{Seen, advice_of, cell, is_u32, trap_of, unless}
use Rattle.block_tree.specs.Cycles.{Do, top}
use Rattle.block_tree.proofs.Parts.{taking-ok, taking-trap}
use Rattle.op_steps.specs.Steps.{AnswersStep}
use Rattle.op_steps.specs.declared.refusal.StepStop.{StepStop}
use Rattle.op_steps.specs.declared.refusal.StepStop.TheVariants as step_stop
use Rattle.vm_state.specs.Views.{core_of, state_of}
use Rattle.vm_state.specs.declared.state.State.{State}
use Rattle.block_tree.specs.Rows.{four_of}
use Rattle.machine_cycles.specs.Events.{visible_of}
use Rattle.machine_cycles.specs.Running.{Ran, RanAs}
use Rattle.machine_cycles.specs.Stops.{stop_at}
use Rattle.machine_cycles.specs.Settings.{constants_in, cycle_in}
use Rattle.machine_cycles.specs.declared.cycling.Runner.{Runner}
use Rattle.machine_cycles.specs.declared.event.Event.{Event}
use Rattle.machine_cycles.specs.declared.event.Visible.{Visible}
use Rattle.machine_cycles.specs.declared.refusal.Stop.{Stop}
use Rattle.machine_cycles.specs.declared.setting.Setting.{Setting}
use Rattle.vm_ops.specs.Stepping.{seen_at}
use Rattle.vm_ops.proofs.StepLemmas.{stepped}
use Rattle.machine_cycles.proofs.CycleLemmas.{ran-done}

at-push : (tape advice : List ℕ) → (advice_of ops.Push ≤ length advice → tape ≡ four_of (take (advice_of ops.Push) advice)) → tape ≡ zero_word
at-push tape advice h = h (omega arith)

alone : (imm : Option ℕ) (op : Op) → MatchOption imm (op ≢ ops.Push) (λ value. (op ≡ ops.Push) × (value < prime)) → (tape word advice w : List ℕ)
    → (advice_of op ≤ length advice → tape ≡ four_of (take (advice_of op) advice)) → word ≡ (if accesses_memory op then w else zero_word)
    → IfSome imm (λ x. (tape ≡ zero_word) × (word ≡ zero_word))
alone None op m tape word advice w is_tape is_word = tt
alone (Some x) op m tape word advice w is_tape is_word = (
  at-push tape advice (subst (λ o. advice_of o ≤ length advice → tape ≡ four_of (take (advice_of o) advice)) m.0 is_tape),
  subst (λ o. word ≡ (if accesses_memory o then w else zero_word)) m.0 is_word,
)

-- an operation with an immediate takes nothing of the tape and accesses no memory
pub pushes-alone : (item : Item) → IsOrdinaryItem item → (tape word advice w : List ℕ)
    → (advice_of item.op ≤ length advice → tape ≡ four_of (take (advice_of item.op) advice))
    → word ≡ (if accesses_memory item.op then w else zero_word)
    → IfSome item.imm (λ x. (tape ≡ zero_word) × (word ≡ zero_word))
pushes-alone item is = alone item.imm item.op is.immediate

unless-true : (b : Bool) (cause : Cause) → unless b cause ≡ None → b ≡ true
unless-true true cause e = refl
unless-true false cause e = cc

-- a memory operation that does not trap has an address on top
fits : (op : Op) (s : Seen) → trap_of op s ≡ None → IsTrue (accesses_memory op) → cell s 0 < 2 ^ 32
unfolding trap_of
fits ops.MLoad s e h = ltb-true (cell s 0) (2 ^ 32) (unless-true (is_u32 (cell s 0)) AddressRange e)
fits ops.MLoadW s e h = ltb-true (cell s 0) (2 ^ 32) (unless-true (is_u32 (cell s 0)) AddressRange e)
fits ops.MStore s e h = ltb-true (cell s 0) (2 ^ 32) (unless-true (is_u32 (cell s 0)) AddressRange e)
fits ops.MStoreW s e h = ltb-true (cell s 0) (2 ^ 32) (unless-true (is_u32 (cell s 0)) AddressRange e)
fits _ s e h = cc

module _ (constants : List ℕ) (item : Item) (state : State) where
  step-fits : (t : machine.State) → step constants item (state_of state) ≡ Ok t → IsTrue (accesses_memory item.op)
      → slice_index (take 16 state.stack) 0 < 2 ^ 32
  step-fits t e h = fits item.op (seen_at constants item (state_of state)) (stepped constants item (state_of state) t e).free h

  step-enough : (t : machine.State) → step constants item (state_of state) ≡ Ok t → advice_of item.op ≤ length state.tape
  step-enough t e = (stepped constants item (state_of state) t e).enough

  pub address-fits : (t : machine.State) (visible : Visible) → visible ≡ visible_of (core_of state) → step constants item (state_of state) ≡ Ok t
      → IsTrue (accesses_memory item.op) → slice_index visible.cells 0 < 4294967296
  address-fits t visible is e h = rw is (step-fits t e h)

module _ (setting : Setting) (item : Item) (before : State) where
  stop-as : (log : List Event) (after : Runner) (mid : machine.State) (stop : StepStop) → before.clock < setting.limit
      → AnswersStep (step (constants_in setting) item (state_of before)) (Err stop) (state_of before) mid
      → RanAs setting (cycle_in setting (Do item) (state_of before)) log (Err (stop_at before.clock stop)) after
  stop-as log after mid (step_stop.Trap cause) within e =
      taking-trap setting.limit (Do item) (advice_of item.op) (act (constants_in setting) item) (state_of before) cause within e.0
  stop-as log after mid step_stop.Memory within e = tt

  -- the cycle stopped
  pub operation-stop : {log : List Event} {after : Runner} (stop : StepStop) (mid : machine.State) (visible : Visible) (stopped : Stop)
      → (visible ≡ visible_of (core_of before)) × (before.clock < setting.limit)
      → stopped ≡ stop_at visible.clock stop
      → AnswersStep (step (constants_in setting) item (state_of before)) (Err stop) (state_of before) mid
      → Ran setting (cycle_in setting (Do item) (state_of before)) log (Err stopped) after
  operation-stop {log} {after} stop mid visible stopped began is e = rw (is, began.0) (record { answer = stop-as log after mid stop began.1 e })

  -- the word at the address on top
  same_word : (after : Core) → (if accesses_memory item.op then word_at after.memory before.context
      (slice_index (take 16 before.stack) 0) else zero_word)
      ≡ (if accesses_memory item.op then word_at after.memory before.context (top (core_of before)) else zero_word)
  same_word after =
      ap (λ x. if accesses_memory item.op then word_at after.memory before.context x else zero_word)
      (get_or-take 16 before.stack 0 0 (omega arith))

  -- the cycle was done
  pub operation-done : {log : List Event} {after : Runner} {u : Unit {0}} (visible : Visible) (tape word : List ℕ) (result : ℕ)
      → (visible ≡ visible_of (core_of before)) × (before.clock < setting.limit)
      → step (constants_in setting) item (state_of before) ≡ Ok (state_of after.state)
      → (advice_of item.op ≤ length before.tape → tape ≡ four_of (take (advice_of item.op) before.tape))
      → word ≡ (if accesses_memory item.op then word_at after.state.memory visible.context (slice_index visible.cells 0) else zero_word)
      → result ≡ top (core_of after.state)
      → after.log ≡ log ++ (record {
        op = item.op;
        before = visible;
        imm = item.imm;
        tape = tape;
        word = word;
        hash = zero_word ++ zero_word;
        result = result;
      }) ∷ []
      → Ran setting (cycle_in setting (Do item) (state_of before)) log (Ok u) after
  operation-done {log} {after} {u} visible tape word result began e is_tape is_word is_result logged =
      ran-done setting (Do item) (state_of before) log after u
      (record { op = item.op; before = visible; imm = item.imm; tape = tape; word = word; hash = zero_word ++ zero_word; result = result })
      (taking-ok setting.limit (Do item) (advice_of item.op) (act (constants_in setting) item) (state_of before) (state_of after.state) began.1 e)
      logged
      (rw (
        is_word,
        began.0,
        is_tape (step-enough (constants_in setting) item before (state_of after.state) e),
        is_result,
        same_word (core_of after.state),
      ) refl)

  -- the same where it takes nothing of the tape, accesses no memory and has no immediate
  pub plain-done : {log : List Event} {after : Runner} {u : Unit {0}}
      → (item.imm ≡ None) × (advice_of item.op ≡ 0) × (accesses_memory item.op ≡ false) → (visible : Visible) (result : ℕ)
      → (visible ≡ visible_of (core_of before)) × (before.clock < setting.limit)
      → step (constants_in setting) item (state_of before) ≡ Ok (state_of after.state)
      → result ≡ top (core_of after.state)
      → after.log ≡ log ++ (record {
        op = item.op;
        before = visible;
        imm = None;
        tape = zero_word;
        word = zero_word;
        hash = zero_word ++ zero_word;
        result = result;
      }) ∷ []
      → Ran setting (cycle_in setting (Do item) (state_of before)) log (Ok u) after
  plain-done {log} {after} {u} plain visible result began e is_result logged =
      operation-done visible zero_word zero_word result began e
      (λ enough. sym (ap (λ n. four_of (take n before.tape)) plain.1))
      (sym (ap (λ b. if b then word_at after.state.memory visible.context (slice_index visible.cells 0) else zero_word) plain.2))
      is_result
      (logged ∙ ap (λ imm. log ++ (record {
        op = item.op;
        before = visible;
        imm = imm;
        tape = zero_word;
        word = zero_word;
        hash = zero_word ++ zero_word;
        result = result;
      }) ∷ []) (sym plain.0))
