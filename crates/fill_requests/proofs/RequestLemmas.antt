-- What each event of a run adds to its requests.
use Rattle.std.proofs.Common.{All, ◌≡◌, ℕ, ◌+◌, ◌<◌, ◌≤◌, if◌then◌else◌, List, [], ◌∷◌, ◌++◌, length, get_or, drop, take, refl, ap, ap₂, ◌∙◌}
use Rattle.vm_ops.specs.declared.op.Op.TheVariants as ops
use Rattle.air_kit.specs.Flags.{is_op}
use Rattle.air_kit.specs.declared.requests.Access.{Access}
use Rattle.air_kit.specs.declared.requests.BitOp.{BitOp}
use Rattle.air_kit.specs.declared.requests.Perm.{Perm}
use Rattle.air_kit.specs.declared.requests.Requests.{Requests}
use Rattle.machine_cycles.specs.declared.event.Event.{Event}
use Rattle.machine_cycles.specs.declared.event.Visible.{Visible}
use Rattle.complete_rows.specs.Filling.{seen_behind}
use Rattle.complete_rows.specs.Numbers.{HasU32Address, HasU32Operands, IsU16}
use Rattle.vm_ops.specs.declared.kind.Kind.TheVariants as kinds
use Rattle.vm_ops.specs.declared.kind.Kind.{Kind}
use Rattle.vm_ops.specs.Codes.{kind_of}
use Rattle.complete_rows.specs.RunRequests.{accesses_by, accesses_of, bits_by, bits_of, calls_of, hash_perms, perms_by, perms_of, ranges_by, ranges_of}
use Rattle.complete_rows.specs.Turns.{respans}
use Rattle.fill_requests.specs.Asked.{perms_as}
use Rattle.fill_requests.proofs.LoopLemmas.{ended, step, step-all}

pub bits-step : (events : List Event) (i : ℕ) (e : Event) (done more : List BitOp) → i < length events → e ≡ get_or events i e
    → more ≡ done ++ bits_by e.op e.before → more ++ bits_of (drop (i + 1) events) ≡ done ++ bits_of (drop i events)
unfolding bits_of
bits-step events i e done more within is added =
    step bits_of (λ e later. bits_by e.op e.before) (λ e later. refl) events i e done more within is added

pub bits-ended : (events : List Event) (i : ℕ) (done : List BitOp) → length events ≤ i → done ++ bits_of (drop i events) ≡ done
unfolding bits_of
bits-ended events i done past = ended bits_of refl events i done past

pub bits-fit : (events : List Event) (i : ℕ) (e : Event) (done : List BitOp) → i < length events → e ≡ get_or events i e
    → done ++ bits_of (drop i events) ≡ bits_of events → All HasU32Operands (bits_of events) → All HasU32Operands (bits_by e.op e.before)
unfolding bits_of
bits-fit events i e done within is whole fit =
    step-all HasU32Operands bits_of (λ e later. bits_by e.op e.before) (λ e later. refl) events i e done (bits_of events) within is whole fit

pub accesses-step : (events : List Event) (i : ℕ) (e : Event) (done more : List Access) → i < length events → e ≡ get_or events i e
    → more ≡ done ++ accesses_by e.op e → more ++ accesses_of (drop (i + 1) events) ≡ done ++ accesses_of (drop i events)
unfolding accesses_of
accesses-step events i e done more within is added =
    step accesses_of (λ e later. accesses_by e.op e) (λ e later. refl) events i e done more within is added

pub accesses-ended : (events : List Event) (i : ℕ) (done : List Access) → length events ≤ i → done ++ accesses_of (drop i events) ≡ done
unfolding accesses_of
accesses-ended events i done past = ended accesses_of refl events i done past

pub accesses-fit : (events : List Event) (i : ℕ) (e : Event) (done : List Access) → i < length events → e ≡ get_or events i e
    → done ++ accesses_of (drop i events) ≡ accesses_of events → All HasU32Address (accesses_of events) → All HasU32Address (accesses_by e.op e)
unfolding accesses_of
accesses-fit events i e done within is whole fit =
    step-all HasU32Address accesses_of (λ e later. accesses_by e.op e) (λ e later. refl) events i e done (accesses_of events) within is whole fit

pub calls-step : (events : List Event) (i : ℕ) (e : Event) (done more : List (List ℕ)) → i < length events → e ≡ get_or events i e
    → more ≡ done ++ (if is_op e.op ops.Syscall then take 4 e.hash ∷ [] else [])
    → more ++ calls_of (drop (i + 1) events) ≡ done ++ calls_of (drop i events)
unfolding calls_of
calls-step events i e done more within is added =
    step calls_of (λ e later. if is_op e.op ops.Syscall then take 4 e.hash ∷ [] else []) (λ e later. refl) events i e done more within is added

pub calls-ended : (events : List Event) (i : ℕ) (done : List (List ℕ)) → length events ≤ i → done ++ calls_of (drop i events) ≡ done
unfolding calls_of
calls-ended events i done past = ended calls_of refl events i done past

pub ranges-step : (last : Visible) (events : List Event) (i : ℕ) (e : Event) (done more : List ℕ) → i < length events → e ≡ get_or events i e
    → more ≡ done ++ ranges_by e (seen_behind last (drop (i + 1) events))
    → more ++ ranges_of last (drop (i + 1) events) ≡ done ++ ranges_of last (drop i events)
unfolding ranges_of
ranges-step last events i e done more within is added =
    step (ranges_of last) (λ e later. ranges_by e (seen_behind last later)) (λ e later. refl) events i e done more within is added

pub ranges-ended : (last : Visible) (events : List Event) (i : ℕ) (done : List ℕ) → length events ≤ i → done ++ ranges_of last (drop i events) ≡ done
unfolding ranges_of
ranges-ended last events i done past = ended (ranges_of last) refl events i done past

pub ranges-fit : (last : Visible) (events : List Event) (i : ℕ) (e : Event) (done : List ℕ) → i < length events → e ≡ get_or events i e
    → done ++ ranges_of last (drop i events) ≡ ranges_of last events → All IsU16 (ranges_of last events)
    → All IsU16 (ranges_by e (seen_behind last (drop (i + 1) events)))
unfolding ranges_of
ranges-fit last events i e done within is whole fit =
    step-all IsU16 (ranges_of last) (λ e later. ranges_by e (seen_behind last later)) (λ e later. refl) events i e done (ranges_of last events)
    within is whole fit

pub perms-step : (constants : List ℕ) (events : List Event) (i : ℕ) (e : Event) (done more : List Perm) → i < length events → e ≡ get_or events i e
    → more ≡ done ++ perms_by (kind_of e.op) constants e (drop (i + 1) events)
    → more ++ perms_of constants (drop (i + 1) events) ≡ done ++ perms_of constants (drop i events)
unfolding perms_of
perms-step constants events i e done more within is added =
    step (perms_of constants) (λ e later. perms_by (kind_of e.op) constants e later) (λ e later. refl) events i e done more within is added

pub perms-ended : (constants : List ℕ) (events : List Event) (i : ℕ) (done : List Perm) → length events ≤ i
    → done ++ perms_of constants (drop i events) ≡ done
unfolding perms_of
perms-ended constants events i done past = ended (perms_of constants) refl events i done past

perms-as : (constants : List ℕ) (kind : Kind) (e : Event) (batches : List (List ℕ)) (later : List Event)
    → (kind ≡ kinds.Span → batches ≡ respans later) → perms_as kind constants e batches ≡ perms_by kind constants e later
perms-as constants kinds.Ordinary e batches later known = refl
perms-as constants kinds.Join e batches later known = refl
perms-as constants kinds.Split e batches later known = refl
perms-as constants kinds.Loop e batches later known = refl
perms-as constants kinds.Span e batches later known = ap (λ (blocks : List (List ℕ)). hash_perms constants 0 (e.hash ∷ blocks)) (known refl)
perms-as constants kinds.Call e batches later known = refl
perms-as constants kinds.Syscall e batches later known = refl
perms-as constants kinds.Dyn e batches later known = refl
perms-as constants kinds.End e batches later known = refl
perms-as constants kinds.Repeat e batches later known = refl
perms-as constants kinds.Respan e batches later known = refl
perms-as constants kinds.Halt e batches later known = refl

-- what an event asks where its kind, its span's later batches and the constants are known
pub perms-known : (constants state : List ℕ) (kind : Kind) (e : Event) (batches : List (List ℕ)) (later : List Event)
    → state ≡ constants → kind ≡ kind_of e.op → (kind_of e.op ≡ kinds.Span → batches ≡ respans later)
    → perms_as kind state e batches ≡ perms_by (kind_of e.op) constants e later
perms-known constants state kind e batches later same is known =
    ap₂ (λ (k : Kind) (xs : List ℕ). perms_as k xs e batches) is same ∙ perms-as constants (kind_of e.op) e batches later known

-- requests whose lists are these
pub all-asked : (perms perms' : List Perm) (bits bits' : List BitOp) (accesses accesses' : List Access) (ranges ranges' : List ℕ)
    (calls calls' : List (List ℕ)) (keys keys' : List ℕ)
    → perms ≡ perms' → bits ≡ bits' → accesses ≡ accesses' → ranges ≡ ranges' → calls ≡ calls' → keys ≡ keys'
    → ◌≡◌ {A = Requests} (record { perms = perms; bits = bits; accesses = accesses; ranges = ranges; calls = calls; keys = keys })
    (record { perms = perms'; bits = bits'; accesses = accesses'; ranges = ranges'; calls = calls'; keys = keys' })
all-asked perms perms' bits bits' accesses accesses' ranges ranges' calls calls' keys keys' p b a r c k = cc
