-- Blocks with children, and the turns of a loop, as the code answers them.
use Rattle.std.proofs.Common.{◌≡◌, ℕ, zero, suc, ◌+◌, ◌-◌, ◌<◌, ◌≤◌, ◌≢◌, List, [], Bool, Option, Some, None, is_some, Result, Ok, Err, refl, sym, ap, ◌∙◌, arith}
use Rattle.std.specs.Option.{option_map}
use Rattle.vm_field.specs.Machine as machine
use Rattle.block_tree.specs.Cycles as cycles
use Rattle.block_tree.specs.Cycles.{End, EndCall, EndLoop, EndSyscall, Frame, Repeat, StartCall, StartJoin, StartLoop, StartSplit, StartSyscall, StartDyn, advice_taken, called_word, effect_of, frame_of, top}
use Rattle.block_tree.specs.Execution.{Part, at_bit, seq}
use Rattle.block_tree.specs.Trees.{Tree, Targets, Call, Dyn, Join, Loop, Split, Syscall, first_target, targets_height, tree_height}
use Rattle.block_tree.proofs.Keeping.{cycle-ticks}
use Rattle.block_tree.proofs.Limits.{execution-late, execution-strict}
use Rattle.block_tree.proofs.TargetLemmas.{execution-Dyn, first-lower, run_option}
use Rattle.block_tree.proofs.Parts.{seq-late, taking-inv}
use Rattle.vm_state.specs.Views.{core_of, state_of}
use Rattle.machine_cycles.specs.Running.{Ran}
use Rattle.machine_cycles.specs.Settings.{constants_in, cycle_in}
use Rattle.processor.specs.Parts.{digest_of, execution_in, run_option_in, turns_in}
use Rattle.machine_cycles.specs.declared.cycling.Runner.{Runner}
use Rattle.machine_cycles.specs.declared.event.Event.{Event}
use Rattle.machine_cycles.specs.declared.refusal.Stop.{Stop}
use Rattle.machine_cycles.specs.declared.setting.Setting.{Setting}
use Rattle.processor.proofs.RunLemmas.{Left, left-along, left-fail, left-next, left-start, ran-along}

pub at_bit-zero : (n : ℕ) (f g : Part) → n ≡ 0 → at_bit n f g ≡ f
at_bit-zero n f g e = rw e refl

pub at_bit-one : (n : ℕ) (f g : Part) → n ≢ 0 → at_bit n f g ≡ g
at_bit-one zero f g h = absurd (h refl)
at_bit-one (suc n) f g h = refl

abbrev pub option_height : Option Tree → ℕ
option_height None = 0
option_height (Some tree) = tree_height tree

-- what is found is no higher than the highest target
pub found-low : (constants digest : List ℕ) (ts : Targets) (o : Option Tree) → o ≡ first_target constants digest ts
    → option_height o ≤ targets_height ts
found-low constants digest ts None e = omega arith
found-low constants digest ts (Some tree) e = first-lower constants ts digest tree (sym e)

pub is_some-map : {A B : Type 0} (f : A → B) (o : Option A) → is_some (option_map f o) ≡ is_some o
is_some-map f None = refl
is_some-map f (Some x) = refl

module _ (setting : Setting) where
  pub join-as : (a b : Tree) (first second digest : List ℕ) (s : machine.State)
      → first ≡ digest_of setting a → second ≡ digest_of setting b → digest ≡ digest_of setting (Join a b)
      → execution_in setting (Join a b) s
      ≡ seq (cycle_in setting (StartJoin first second))
      (seq (execution_in setting a) (seq (execution_in setting b) (cycle_in setting (End digest)))) s
  join-as a b first second digest s e f g = rw (e, f, g) refl

  pub split-as : (a b : Tree) (first second digest : List ℕ) (condition : ℕ) (s : machine.State)
      → first ≡ digest_of setting a → second ≡ digest_of setting b → digest ≡ digest_of setting (Split a b) → condition ≡ top s.core
      → execution_in setting (Split a b) s
      ≡ seq (cycle_in setting (StartSplit first second))
      (seq (at_bit condition (execution_in setting b) (execution_in setting a)) (cycle_in setting (End digest))) s
  split-as a b first second digest condition s e f g h = rw (e, f, g, h) refl

  pub loop-as : (a : Tree) (body digest : List ℕ) (condition : ℕ) (s : machine.State)
      → body ≡ digest_of setting a → digest ≡ digest_of setting (Loop a) → condition ≡ top s.core
      → execution_in setting (Loop a) s
      ≡ seq (cycle_in setting (StartLoop body))
      (at_bit condition (cycle_in setting (End digest)) (turns_in setting digest a (setting.limit - s.core.clock))) s
  loop-as a body digest condition s e f g = rw (e, f, g) refl

  pub call-as : (a : Tree) (callee digest : List ℕ) (frame : Frame) (s : machine.State)
      → callee ≡ digest_of setting a → digest ≡ digest_of setting (Call a) → frame ≡ frame_of s.core
      → execution_in setting (Call a) s
      ≡ seq (cycle_in setting (StartCall callee)) (seq (execution_in setting a) (cycle_in setting (EndCall digest frame))) s
  call-as a callee digest frame s e f g = rw (e, f, g) refl

  pub syscall-as : (a : Tree) (callee digest : List ℕ) (frame : Frame) (s : machine.State)
      → callee ≡ digest_of setting a → digest ≡ digest_of setting (Syscall a) → frame ≡ frame_of s.core
      → execution_in setting (Syscall a) s
      ≡ seq (cycle_in setting (StartSyscall callee)) (seq (execution_in setting a) (cycle_in setting (EndSyscall digest frame))) s
  syscall-as a callee digest frame s e f g = rw (e, f, g) refl

  run-option : (o : Option Tree) → run_option (constants_in setting) setting.kernel.now setting.limit o ≡ run_option_in setting o
  run-option None = refl
  run-option (Some tree) = refl

  pub dyn-as : (ts : Targets) (found : Option Tree) (known : Bool) (digest : List ℕ) (s : machine.State)
      → found ≡ first_target (constants_in setting) (called_word s.core) ts → known ≡ is_some found → digest ≡ digest_of setting (Dyn ts)
      → execution_in setting (Dyn ts) s
      ≡ seq (cycle_in setting (StartDyn known)) (seq (run_option_in setting found) (cycle_in setting (End digest))) s
  dyn-as ts found known digest s e f g =
      execution-Dyn (constants_in setting) setting.kernel.now setting.limit ts s
      ∙ rw (f, e, g, run-option (first_target (constants_in setting) (called_word s.core) ts)) refl

  -- a block takes a cycle at least
  pub block-ticks : {log : List Event} {u : Unit {0}} (tree : Tree) (s : machine.State) (after : Runner)
      → Ran setting (execution_in setting tree s) log (Ok u) after
      → s.core.clock < after.state.clock
  block-ticks tree s after h =
      execution-strict (constants_in setting) setting.kernel.now setting.limit tree s (state_of after.state) h.answer.more h.answer.done

  -- a cycle takes one, and was below the limit
  pub ran-ticks : {log : List Event} {u : Unit {0}} (mark : cycles.Mark) (s : machine.State) (after : Runner)
      → Ran setting (cycle_in setting mark s) log (Ok u) after
      → (after.state.clock ≡ s.core.clock + 1) × (s.core.clock < setting.limit)
  ran-ticks mark s after h = (
    cycle-ticks (constants_in setting) setting.kernel.now setting.limit mark s (state_of after.state) h.answer.more h.answer.done,
    (taking-inv setting.limit mark (advice_taken mark) (effect_of (constants_in setting) setting.kernel.now mark) s
        (state_of after.state) h.answer.more h.answer.done).before,
  )

  module _ (digest : List ℕ) (body : Tree) where
    -- what follows a turn's body
    abbrev turn : ℕ → Part
    turn n t =
        at_bit (top t.core) (cycle_in setting (EndLoop digest))
        (seq (cycle_in setting (Repeat (digest_of setting body))) (turns_in setting digest body n)) t

    record Turn (n : ℕ) (s : machine.State) : Type 0 where
      left : ℕ
      enough : n ≤ left + 1
      is : turns_in setting digest body n s ≡ seq (execution_in setting body) (turn left) s

    -- where no turn is left the limit cuts the body off
    one_turn : (n : ℕ) (s : machine.State) → setting.limit ≤ n + s.core.clock → Turn n s
    one_turn zero s room = record {
      left = 0;
      enough = omega arith;
      is = sym (seq-late (execution_in setting body) (turn 0) s s []
          (execution-late (constants_in setting) setting.kernel.now setting.limit body s (omega arith)));
    }
    one_turn (suc n) s room = record { left = n; enough = omega arith; is = refl }

    -- the turns that are left
    pub record TurnsLeft (n : ℕ) (from now : Runner) : Type 0 where
      pub left : ℕ
      pub enough : setting.limit ≤ left + now.state.clock
      pub rest : Left setting (turns_in setting digest body n) (turns_in setting digest body left) from now

    pub turns-start : (n : ℕ) (from : Runner) → setting.limit ≤ n + from.state.clock → TurnsLeft n from from
    turns-start n from room = record { left = n; enough = room; rest = left-start setting (turns_in setting digest body n) from }

    -- a turn's body, and then the rest
    record Body (n : ℕ) (from now : Runner) : Type 0 where
      left : ℕ
      enough : setting.limit ≤ left + 1 + now.state.clock
      rest : Left setting (turns_in setting digest body n) (seq (execution_in setting body) (turn left)) from now

    body_of : (n : ℕ) (from now : Runner) → TurnsLeft n from now → Body n from now
    body_of n from now t = go (one_turn t.left (state_of now.state) t.enough)
      where
        go : Turn t.left (state_of now.state) → Body n from now
        go one =
            let few : t.left ≤ one.left + 1 = one.enough in
            let room : setting.limit ≤ t.left + now.state.clock = t.enough in
            record {
              left = one.left;
              enough = omega arith;
              rest = left-along (turns_in setting digest body t.left) (seq (execution_in setting body) (turn one.left)) one.is
                  t.rest;
            }

    -- the body stopped
    pub turns-fail : (n : ℕ) {from now : Runner} {stop : Stop} {r : Result (Unit {0}) Stop} {after : Runner}
        → TurnsLeft n from now → r ≡ Err stop → Ran setting (execution_in setting body (state_of now.state)) now.log (Err stop) after
        → Ran setting (turns_in setting digest body n (state_of from.state)) from.log r after
    turns-fail n {from} {now} t e h =
        let b : Body n from now = body_of n from now t in
        left-fail (execution_in setting body) (turn b.left) b.rest e h

    -- a 0 on top ended the loop
    pub turns-end : (n : ℕ) (top_cell : ℕ) {from now : Runner} {u : Unit {0}} {mid : Runner} {r : Result (Unit {0}) Stop} {after : Runner}
        → TurnsLeft n from now → Ran setting (execution_in setting body (state_of now.state)) now.log (Ok u) mid
        → top_cell ≡ top (core_of mid.state) → top_cell ≡ 0
        → Ran setting (cycle_in setting (EndLoop digest) (state_of mid.state)) mid.log r after
        → Ran setting (turns_in setting digest body n (state_of from.state)) from.log r after
    turns-end n top_cell {from} {now} {mid = mid} {r = r} {after = after} t h is zero_on_top k =
        let b : Body n from now = body_of n from now t in
        (left-next (execution_in setting body) (turn b.left) b.rest h).goes r after
        (ran-along (ap (λ (f : Part). f (state_of mid.state)) (at_bit-zero (top (core_of mid.state)) _ _ (sym is ∙ zero_on_top))) k)

    -- a 1 on top, or another value: REPEAT, and then the other turns
    repeats : (n : ℕ) (top_cell : ℕ) {from now : Runner} {u : Unit {0}} {mid : Runner} (b : Body n from now)
        → Ran setting (execution_in setting body (state_of now.state)) now.log (Ok u) mid
        → top_cell ≡ top (core_of mid.state) → top_cell ≢ 0
        → Left setting (turns_in setting digest body n)
        (seq (cycle_in setting (Repeat (digest_of setting body))) (turns_in setting digest body b.left)) from mid
    repeats n top_cell {mid = mid} b h is not_zero =
        left-along (turn b.left) (seq (cycle_in setting (Repeat (digest_of setting body))) (turns_in setting digest body b.left))
        (ap (λ (f : Part). f (state_of mid.state)) (at_bit-one (top (core_of mid.state)) _ _ (λ e. not_zero (is ∙ e))))
        (left-next (execution_in setting body) (turn b.left) b.rest h)

    same_repeat : (digest_now : List ℕ) (s : machine.State) → digest_now ≡ digest_of setting body
        → cycle_in setting (Repeat (digest_of setting body)) s ≡ cycle_in setting (Repeat digest_now) s
    same_repeat digest_now s e = rw e refl

    -- REPEAT stopped
    pub turns-repeat_fail : (n : ℕ) (top_cell : ℕ) (digest_now : List ℕ) {from now : Runner} {u : Unit {0}} {mid : Runner}
        {stop : Stop} {r : Result (Unit {0}) Stop} {after : Runner}
        → TurnsLeft n from now → Ran setting (execution_in setting body (state_of now.state)) now.log (Ok u) mid
        → top_cell ≡ top (core_of mid.state) → top_cell ≢ 0
        → digest_now ≡ digest_of setting body
        → r ≡ Err stop
        → Ran setting (cycle_in setting (Repeat digest_now) (state_of mid.state)) mid.log (Err stop) after
        → Ran setting (turns_in setting digest body n (state_of from.state)) from.log r after
    turns-repeat_fail n top_cell digest_now {from} {now} {mid = mid} t h is not_zero same e k =
        let b : Body n from now = body_of n from now t in
        left-fail (cycle_in setting (Repeat (digest_of setting body))) (turns_in setting digest body b.left)
        (repeats n top_cell b h is not_zero) e (ran-along (same_repeat digest_now (state_of mid.state) same) k)

    -- another turn is to come
    pub turns-more : (n : ℕ) (top_cell : ℕ) (digest_now : List ℕ) {from now : Runner} {u v : Unit {0}} {mid next : Runner}
        → TurnsLeft n from now → Ran setting (execution_in setting body (state_of now.state)) now.log (Ok u) mid
        → top_cell ≡ top (core_of mid.state) → top_cell ≢ 0
        → digest_now ≡ digest_of setting body
        → Ran setting (cycle_in setting (Repeat digest_now) (state_of mid.state)) mid.log (Ok v) next
        → TurnsLeft n from next
    turns-more n top_cell digest_now {from} {now} {mid = mid} {next = next} t h is not_zero same k =
        let b : Body n from now = body_of n from now t in
        let room : setting.limit ≤ b.left + 1 + now.state.clock = b.enough in
        let later : now.state.clock < mid.state.clock = block-ticks body (state_of now.state) mid h in
        let repeat : next.state.clock ≡ mid.state.clock + 1 = (ran-ticks (Repeat digest_now) (state_of mid.state) next k).0 in
        record {
          left = b.left;
          enough = omega arith;
          rest =
              left-next (cycle_in setting (Repeat (digest_of setting body))) (turns_in setting digest body b.left)
              (repeats n top_cell b h is not_zero) (ran-along (same_repeat digest_now (state_of mid.state) same) k);
        }
