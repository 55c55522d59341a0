-- What holds of each state of a run: nesting, depth and contexts.
use Rattle.std.proofs.Common.{◌≡◌, ℕ, ◌+◌, ◌≤◌, List, [], ◌∷◌, ◌++◌, length, take, drop, refl, sym, ap, ◌∙◌, subst, arith, length-append, length-drop, All, Ok}
use Rattle.std.specs.List.{AllByRecursion}
use Rattle.std.proofs.lemmas.List.{length-take-le}
use Rattle.std.proofs.lemmas.List.Elements.{All-nil, All-cons}
use Rattle.vm_field.specs.Limits.{number_of_constants}
use Rattle.vm_field.specs.Machine.{Core, State, IsWellFormed}
use Rattle.vm_field.proofs.Elements.{length-filled_up}
use Rattle.vm_ops.specs.declared.item.Item.{Item}
use Rattle.vm_ops.specs.declared.op.Shift.{Shift}
use Rattle.vm_ops.specs.declared.op.Shift.TheVariants.{Left}
use Rattle.vm_ops.specs.Moves.{takes_of, leaves_of, shift_of}
use Rattle.vm_ops.specs.Step.{step}
use Rattle.vm_ops.proofs.MoveLemmas.{ByOne, shift_of-by_one, takes_of-below}
use Rattle.vm_ops.proofs.StepLemmas.{step-depth}
use Rattle.block_tree.specs.Behind.{core_behind, IsAllowed}
use Rattle.block_tree.specs.Cycles.{Mark, StartOpaque, StartJoin, Do, advice_taken}
use Rattle.block_tree.specs.Execution.{Event, event_of}
use Rattle.block_tree.specs.Logs.{IsLog, over, next}
use Rattle.block_tree.specs.Steps.{Task, Block, Returning, Leaving, Next, span, call, syscall, operation, returns, leaves, IsCycle, Steps, ended, goes}
use Rattle.block_tree.proofs.BehindLemmas.{behind-cycle}
use Rattle.block_tree.proofs.KeptLemmas.{cycle-kept, cycle-step}
use Rattle.block_tree.proofs.TaskLemmas.{AreWholeTasks, each-append, next-whole, whole-append}
pub use Rattle.block_tree.proofs.Keeping.{cycle-clock}

-- of a list of tasks, what each of them counts
abbrev pub total : (Task → ℕ) → List Task → ℕ
total f [] = 0
total f (task ∷ tasks) = f task + total f tasks

total-append : (f : Task → ℕ) (a b : List Task) → total f (a ++ b) ≡ total f a + total f b
total-append f [] b = omega arith
total-append f (task ∷ tasks) b = let h = total-append f tasks b in omega arith

-- the blocks that are open, by the tasks that end them
abbrev pub opened_by : Task → ℕ
opened_by (Block tree) = 0
opened_by _ = 1

-- the cells that calls have hidden
abbrev pub hidden_by : Task → ℕ
hidden_by (Returning digest frame) = length frame.hidden
hidden_by (Leaving digest frame) = length frame.hidden
hidden_by _ = 0

-- the contexts of the callers are ones that the clock has reached
abbrev pub IsWithin : ℕ → Task → Type 0
IsWithin clock (Returning digest frame) = frame.context ≤ clock
IsWithin clock (Leaving digest frame) = frame.context ≤ clock
IsWithin clock _ = Unit {0}

abbrev pub AreWithin : ℕ → List Task → Type 0
AreWithin clock tasks = AllByRecursion (IsWithin clock) tasks

within-later : (clock : ℕ) (task : Task) → IsWithin clock task → IsWithin (clock + 1) task
within-later clock (Returning digest frame) h = omega arith
within-later clock (Leaving digest frame) h = omega arith
within-later clock _ h = tt

all-later : (clock : ℕ) (tasks : List Task) → AreWithin clock tasks → AreWithin (clock + 1) tasks
all-later clock [] h = tt
all-later clock (task ∷ tasks) h = (within-later clock task h.0, all-later clock tasks h.1)

module _ (constants advice : List ℕ) where
  -- as many blocks are open behind a cycle as its tasks say
  next-nesting : {task : Task} {c : Core} {mark : Mark} {rest : List Task} → Next constants task c mark rest
      → opened_by task ≤ c.nesting → (core_behind constants mark advice c).nesting + opened_by task ≡ c.nesting + total opened_by rest
  next-nesting (span read) h = omega arith
  next-nesting _ h = omega arith

  -- the stack and the cells that calls have hidden grow by one cell at most
  next-depth : {task : Task} {c : Core} {mark : Mark} {rest : List Task} → Next constants task c mark rest
      → 16 ≤ length c.stack
      → ((item : Item) → mark ≡ Do item → length (core_behind constants mark advice c).stack ≤ length c.stack + 1)
      → length (core_behind constants mark advice c).stack + total hidden_by rest ≤ length c.stack + hidden_by task + 1
  next-depth (operation {item = i}) h item = let grows = item i refl in omega arith
  next-depth (call {c = c}) h item = omega (arith, length-take-le 16 c.stack h, length-drop 16 c.stack)
  next-depth (syscall {c = c}) h item = omega (arith, length-take-le 16 c.stack h, length-drop 16 c.stack)
  next-depth (returns {c = c} {frame = frame}) h item = omega (arith, length-append c.stack frame.hidden)
  next-depth (leaves {c = c} {frame = frame}) h item = omega (arith, length-append c.stack frame.hidden)
  next-depth {c = c} _ h item = omega (arith, length-filled_up (drop 1 c.stack), length-drop 1 c.stack)

  -- a context is one that the clock reaches
  next-context : {task : Task} {c : Core} {mark : Mark} {rest : List Task} → Next constants task c mark rest
      → c.context ≤ c.clock → IsWithin c.clock task
      → ((core_behind constants mark advice c).context ≤ c.clock + 1) × AreWithin c.clock rest
  next-context (span read) h w = (omega arith, assumption (tt, h))
  next-context _ h w = (omega arith, assumption (tt, h))

-- never are more than 1,024 blocks open
nested-below : (constants advice : List ℕ) (kernel : List (List ℕ)) (mark : Mark) (c : Core) → IsAllowed constants kernel mark advice c
    → c.nesting ≤ 1024 → (core_behind constants mark advice c).nesting ≤ 1024
nested-below constants advice kernel StartOpaque c a h = absurd a
nested-below constants advice kernel (Do item) c a h = h
nested-below constants advice kernel (StartJoin first second) c a h = omega arith
nested-below constants advice kernel _ c a h = omega arith

by-one : (shift : Shift) (taken left : ℕ) → ByOne shift taken left → left ≤ taken + 1
by-one Left taken left h = omega arith
by-one _ taken left h = omega arith

-- an operation leaves at most one cell more
step-grows : (constants : List ℕ) (item : Item) (s t : State) → length constants ≡ number_of_constants → IsWellFormed s → step constants item s ≡ Ok t
    → length t.core.stack ≤ length s.core.stack + 1
step-grows constants item s t len h e =
    let depth = step-depth constants item s t len h e in
    let left = by-one (shift_of item.op) (takes_of item.op) (leaves_of item.op) (shift_of-by_one item.op) in
    let deep = h.core.deep in
    omega (arith, takes_of-below item.op)

abbrev pub one_later : Core → Core
one_later c = record c { clock = c.clock + 1 }

module _ (constants : List ℕ) (kernel : List (List ℕ)) (limit : ℕ) where
  abbrev behind : Mark → State → Core
  behind mark s = core_behind constants mark (take (advice_taken mark) s.tape) s.core

  behind-is : (mark : Mark) (s t : State) → IsCycle constants kernel limit mark s t → t.core ≡ one_later (behind mark s)
  behind-is mark s t c =
      ap (λ x. x.core) c.now ∙ ap one_later (behind-cycle constants kernel mark _ s.core c.core c.made).1

  -- what each cycle keeps holds of each state of a log
  pub log-along : (P : Core → Type 0) → ((mark : Mark) (s t : State) → IsCycle constants kernel limit mark s t → P s.core → P t.core)
      → {s t : State} {events : List Event} → IsLog constants kernel limit s events t → P s.core → All (λ e. P e.core) events × P t.core
  log-along P kept over p = (All-nil (λ e. P e.core), p)
  log-along P kept (next {mark = mark} {s = s} {t = t} {events = events} cycle later) p =
      let r = log-along P kept later (kept mark s t cycle p) in
      (All-cons (λ e. P e.core) (event_of mark (advice_taken mark) s) events p r.0, r.1)

  pub log-counts : {s t : State} {events : List Event} → IsLog constants kernel limit s events t → t.core.clock ≡ s.core.clock + length events
  log-counts over = omega arith
  log-counts (next {mark = mark} {s = s} {t = t} cycle later) =
      let ticks = cycle-clock constants kernel limit mark s t cycle in
      let counts = log-counts later in
      omega arith

  -- what each cycle keeps of the tasks and the state holds of each state of a run
  pub steps-along : (P : List Task → State → Type 0) (Q : Core → Type 0)
      → ((task : Task) (rest todo : List Task) (mark : Mark) (s t : State) → Next constants task s.core mark rest
      → IsCycle constants kernel limit mark s t
      → P (task ∷ todo) s → P (rest ++ todo) t)
      → ((todo : List Task) (s : State) → P todo s → Q s.core)
      → {todo : List Task} {s t : State} {events : List Event} → Steps constants kernel limit todo s events t → P todo s
      → All (λ e. Q e.core) events × P [] t
  steps-along P Q kept shows ended p = (All-nil (λ e. Q e.core), p)
  steps-along P Q kept shows (goes {task = task} {rest = rest} {todo = todo} {mark = mark} {s = s} {t = t} {events = events} first cycle later) p =
      let r = steps-along P Q kept shows later (kept task rest todo mark s t first cycle p) in
      (All-cons (λ e. Q e.core) (event_of mark (advice_taken mark) s) events (shows (task ∷ todo) s p) r.0, r.1)

  nested-cycle : (mark : Mark) (s t : State) → IsCycle constants kernel limit mark s t → s.core.nesting ≤ 1024 → t.core.nesting ≤ 1024
  nested-cycle mark s t c h =
      subst (λ x. x.nesting ≤ 1024) (sym (behind-is mark s t c))
      (nested-below constants _ kernel mark s.core (behind-cycle constants kernel mark _ s.core c.core c.made).0 h)

  pub log-nested : {s t : State} {events : List Event} → IsLog constants kernel limit s events t → s.core.nesting ≤ 1024
      → All (λ e. e.core.nesting ≤ 1024) events × (t.core.nesting ≤ 1024)
  log-nested log h = log-along (λ c. c.nesting ≤ 1024) nested-cycle log h

  pub steps-nesting : {todo : List Task} {s t : State} {events : List Event} → Steps constants kernel limit todo s events t
      → (n : ℕ) → s.core.nesting ≡ n + total opened_by todo → t.core.nesting ≡ n
  steps-nesting ended n h = omega arith
  steps-nesting (goes {task = task} {rest = rest} {todo = todo} {mark = mark} {s = s} {t = t} first cycle later) n h =
      let same : t.core.nesting ≡ (behind mark s).nesting = ap (λ x. x.nesting) (behind-is mark s t cycle) in
      let sum : (behind mark s).nesting + opened_by task ≡ s.core.nesting + total opened_by rest
      = next-nesting constants (take (advice_taken mark) s.tape) first (omega arith) in
      let both : total opened_by (rest ++ todo) ≡ total opened_by rest + total opened_by todo = total-append opened_by rest todo in
      steps-nesting later n (omega arith)

  -- the tasks are whole, the state is well-formed, and the cells are no more than those m with the cycles since the clock n
  abbrev pub IsShallow : ℕ → ℕ → List Task → State → Type 0
  IsShallow n m todo s = (length s.core.stack + total hidden_by todo + n ≤ m + s.core.clock) × AreWholeTasks todo × IsWellFormed s

  behind-grows : (mark : Mark) (s t : State) → length constants ≡ number_of_constants → IsCycle constants kernel limit mark s t → IsWellFormed s
      → (item : Item) → mark ≡ Do item → length (behind mark s).stack ≤ length s.core.stack + 1
  behind-grows mark s t len c h item is =
      subst (λ x. length x.stack ≤ length s.core.stack + 1) (behind-is mark s t c)
      (step-grows constants item s t len h (cycle-step constants kernel limit item s t (subst (λ m. IsCycle constants kernel limit m s t) is c)))

  shallow-step : length constants ≡ number_of_constants
      → (n m : ℕ) (task : Task) (rest todo : List Task) (mark : Mark) (s t : State) → Next constants task s.core mark rest
      → IsCycle constants kernel limit mark s t → IsShallow n m (task ∷ todo) s → IsShallow n m (rest ++ todo) t
  shallow-step len n m task rest todo mark s t first c h =
      let w = next-whole constants len first h.1.0 h.2.core in
      let grown = next-depth constants (take (advice_taken mark) s.tape) first h.2.core.deep (behind-grows mark s t len c h.2) in
      let stack : length t.core.stack ≡ length (behind mark s).stack
      = ap (λ x. length x.stack) (behind-is mark s t c) in
      let ticks = cycle-clock constants kernel limit mark s t c in
      let both : total hidden_by (rest ++ todo) ≡ total hidden_by rest + total hidden_by todo = total-append hidden_by rest todo in
      let before = h.0 in
      (omega arith, whole-append rest todo w.1 h.1.1, cycle-kept constants kernel limit mark s t len c w.0 h.2)

  pub steps-shallow : length constants ≡ number_of_constants
      → {todo : List Task} {s t : State} {events : List Event} (n m : ℕ) → Steps constants kernel limit todo s events t → IsShallow n m todo s
      → All (λ e. length e.core.stack + n ≤ m + e.core.clock) events × (length t.core.stack + n ≤ m + t.core.clock)
  steps-shallow len n m steps h =
      let r = steps-along (IsShallow n m) (λ c. length c.stack + n ≤ m + c.clock) (shallow-step len n m)
      (λ todo s p. let l = p.0 in omega arith) steps h in
      let last = r.1.0 in
      (r.0, omega arith)

  abbrev pub IsReached : List Task → State → Type 0
  IsReached todo s = (s.core.context ≤ s.core.clock) × AreWithin s.core.clock todo

  reached-step : (task : Task) (rest todo : List Task) (mark : Mark) (s t : State) → Next constants task s.core mark rest
      → IsCycle constants kernel limit mark s t → IsReached (task ∷ todo) s → IsReached (rest ++ todo) t
  reached-step task rest todo mark s t first c h =
      let n = next-context constants (take (advice_taken mark) s.tape) first h.0 h.1.0 in
      let ticks = cycle-clock constants kernel limit mark s t c in
      let context : t.core.context ≡ (behind mark s).context =
      ap (λ x. x.context) (behind-is mark s t c) in
      let below = n.0 in (
        omega arith,
        subst (λ k. AreWithin k (rest ++ todo)) (sym ticks)
            (all-later s.core.clock (rest ++ todo) (each-append (IsWithin s.core.clock) rest todo n.1 h.1.1)),
      )

  pub steps-reached : {todo : List Task} {s t : State} {events : List Event} → Steps constants kernel limit todo s events t → IsReached todo s
      → All (λ e. e.core.context ≤ e.core.clock) events × (t.core.context ≤ t.core.clock)
  steps-reached steps h =
      let r = steps-along IsReached (λ c. c.context ≤ c.clock) reached-step (λ todo s p. p.0) steps h in
      (r.0, r.1.0)
