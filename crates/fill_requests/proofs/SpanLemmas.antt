-- The later batches of a span.
use Rattle.std.proofs.Common.{◌≡◌, ℕ, ◌+◌, ◌<◌, ◌≤◌, Bool, true, false, List, [], ◌∷◌, ◌++◌, length, get_or, drop, sym, refl, ap, ◌∙◌, append_assoc}
use Rattle.std.proofs.lemmas.Bool.{false≢true}
use Rattle.std.proofs.lemmas.List.{append-nil, drop_all, get_or_default}
use Rattle.vm_ops.specs.declared.op.Op.{Op}
use Rattle.machine_cycles.specs.Log.{ShowsAt}
use Rattle.machine_cycles.specs.declared.event.Event.{Event}
use Rattle.vm_ops.specs.declared.kind.Kind.TheVariants as kinds
use Rattle.vm_ops.specs.declared.kind.Kind.{Kind}
use Rattle.vm_ops.specs.Codes.{kind_of}
use Rattle.complete_rows.specs.Turns.{respans, respans_by}
use Rattle.fill_requests.specs.Spans.{batch_by, stays}
use Rattle.fill_requests.proofs.LoopLemmas.{suffix}

-- the operation that is shown at a place is that of the event there
pub same_op : (events : List Event) (i : ℕ) (op : Op) (e : Event) → i < length events → ShowsAt events i (λ e. op ≡ e.op)
    → e ≡ get_or events i e → op ≡ e.op
same_op events i op e within shown is =
    shown.2 ∙ ap (λ (x : Event). x.op) (shown.1 ∙ get_or_default events i shown.0 e within ∙ sym is)

respans-more : (e : Event) (later : List Event) → respans (e ∷ later) ≡ respans_by (kind_of e.op) e.hash (respans later)
unfolding respans
respans-more e later = refl

respans-here : (events : List Event) (i : ℕ) (e : Event) → i < length events → e ≡ get_or events i e
    → respans (drop i events) ≡ respans_by (kind_of e.op) e.hash (respans (drop (i + 1) events))
respans-here events i e within is = ap respans (suffix events i e within is) ∙ respans-more e (drop (i + 1) events)

respans-end : (events : List Event) (i : ℕ) → length events ≤ i → respans (drop i events) ≡ []
unfolding respans
respans-end events i past = ap respans (drop_all i events past)

goes : (kind : Kind) (batch : List ℕ) (later : List (List ℕ)) → stays kind ≡ true → respans_by kind batch later ≡ batch_by kind batch ++ later
goes kinds.Ordinary batch later held = refl
goes kinds.Respan batch later held = refl
goes kinds.Join batch later held = absurd (false≢true held)
goes kinds.Split batch later held = absurd (false≢true held)
goes kinds.Loop batch later held = absurd (false≢true held)
goes kinds.Span batch later held = absurd (false≢true held)
goes kinds.Call batch later held = absurd (false≢true held)
goes kinds.Syscall batch later held = absurd (false≢true held)
goes kinds.Dyn batch later held = absurd (false≢true held)
goes kinds.End batch later held = absurd (false≢true held)
goes kinds.Repeat batch later held = absurd (false≢true held)
goes kinds.Halt batch later held = absurd (false≢true held)

stops : (kind : Kind) (batch : List ℕ) (later : List (List ℕ)) → stays kind ≡ false → respans_by kind batch later ≡ []
stops kinds.Ordinary batch later fails = absurd (false≢true (sym fails))
stops kinds.Respan batch later fails = absurd (false≢true (sym fails))
stops kinds.Join batch later fails = refl
stops kinds.Split batch later fails = refl
stops kinds.Loop batch later fails = refl
stops kinds.Span batch later fails = refl
stops kinds.Call batch later fails = refl
stops kinds.Syscall batch later fails = refl
stops kinds.Dyn batch later fails = refl
stops kinds.End batch later fails = refl
stops kinds.Repeat batch later fails = refl
stops kinds.Halt batch later fails = refl

pub respans-step : (events : List Event) (i : ℕ) (e : Event) (kind : Kind) (stay : Bool) (done more : List (List ℕ))
    → i < length events → e ≡ get_or events i e
    → kind ≡ kind_of e.op → stay ≡ stays kind → stay ≡ true → more ≡ done ++ batch_by kind e.hash
    → more ++ respans (drop (i + 1) events) ≡ done ++ respans (drop i events)
respans-step events i e kind stay done more within is kind_is stay_is held added =
    let rest = respans (drop (i + 1) events) in
    ap (λ (xs : List (List ℕ)). xs ++ rest) added ∙ append_assoc done (batch_by kind e.hash) rest
    ∙ ap (λ (xs : List (List ℕ)). done ++ xs)
    (sym (goes kind e.hash rest (sym stay_is ∙ held)) ∙ ap (λ (k : Kind). respans_by k e.hash rest) kind_is ∙ sym (respans-here events i e within is))

pub respans-stop : (events : List Event) (i : ℕ) (e : Event) (kind : Kind) (stay : Bool) (done : List (List ℕ)) → i < length events
    → e ≡ get_or events i e
    → kind ≡ kind_of e.op → stay ≡ stays kind → stay ≡ false → done ++ respans (drop i events) ≡ done
respans-stop events i e kind stay done within is kind_is stay_is fails =
    let rest = respans (drop (i + 1) events) in
    ap (λ (xs : List (List ℕ)). done ++ xs)
    (respans-here events i e within is ∙ ap (λ (k : Kind). respans_by k e.hash rest) (sym kind_is) ∙ stops kind e.hash rest (sym stay_is ∙ fails))
    ∙ append-nil done

pub respans-ended : (events : List Event) (i : ℕ) (done : List (List ℕ)) → length events ≤ i → done ++ respans (drop i events) ≡ done
respans-ended events i done past = ap (λ (xs : List (List ℕ)). done ++ xs) (respans-end events i past) ∙ append-nil done
