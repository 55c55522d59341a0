-- The rows of events, one by one.
use Rattle.std.proofs.Common.{◌≡◌, ℕ, ◌+◌, ◌^◌, ◌<◌, ◌≤◌, List, [], ◌∷◌, ◌++◌, length, get_or, drop, slice_index, sym, refl, ap, ◌∙◌, append_assoc, arith}
use Rattle.std.proofs.lemmas.List.{drop_all}
use Rattle.std.proofs.lemmas.List.Elements.{All-head}
use Rattle.machine_cycles.specs.declared.event.Event.{Event}
use Rattle.machine_cycles.specs.declared.event.Visible.{Visible}
use Rattle.complete_rows.specs.Decoder.{Decoder, advance, at_start, decoder_after}
use Rattle.complete_rows.specs.Filling.{deep_before, fill, halted, row_of, rows_of_run, seen_behind}
use Rattle.vm_ops.specs.Codes.{kind_of}
use Rattle.complete_rows.specs.Numbers.{HasSmallNumbers}
use Rattle.complete_rows.specs.Turns.{repeats, repeats_by}
use Rattle.vm_ops.specs.declared.kind.Kind.{Kind}
use Rattle.fill_main.specs.Turns.{turns_by, turns_of}
use Rattle.fill_requests.proofs.LoopLemmas.{suffix}

fill-more : (last : Visible) (d : Decoder) (e : Event) (later : List Event)
    → fill last d (e ∷ later) ≡ row_of d e (seen_behind last later) later ∷ fill last (advance d e later) later
unfolding fill
fill-more last d e later = refl

fill-last : (last : Visible) (d : Decoder) → fill last d [] ≡ row_of d (halted last) last [] ∷ []
unfolding fill
fill-last last d = refl

pub whole : (last : Visible) (events : List Event) → rows_of_run last events ≡ fill last (at_start (deep_before last events)) events
unfolding rows_of_run
whole last events = refl

-- the cells below the sixteenth at the start are few
pub deep-low : (last : Visible) (events : List Event) → HasSmallNumbers last events → deep_before last events < 2 ^ 32
deep-low last [] small = let low = small.depth in omega (arith, low)
deep-low last (e ∷ later) small =
    let low = All-head (λ (x : Event). x.before.depth < 2 ^ 32) e later small.depths in omega (arith, low)

pub rows-step : (last : Visible) (d after : Decoder) (events : List Event) (i : ℕ) (e : Event) (row : List ℕ) (done more : List (List ℕ))
    → i < length events → e ≡ get_or events i e → row ≡ row_of d e (seen_behind last (drop (i + 1) events)) (drop (i + 1) events)
    → more ≡ done ++ row ∷ [] → after ≡ advance d e (drop (i + 1) events)
    → more ++ fill last after (drop (i + 1) events) ≡ done ++ fill last d (drop i events)
rows-step last d after events i e row done more within is shown added moved =
    let later = drop (i + 1) events in
    ap (λ (rows : List (List ℕ)). rows ++ fill last after later) (added ∙ ap (λ (x : List ℕ). done ++ x ∷ []) shown)
    ∙ append_assoc done (row_of d e (seen_behind last later) later ∷ []) (fill last after later)
    ∙ ap (λ (b : Decoder). done ++ row_of d e (seen_behind last later) later ∷ fill last b later) moved
    ∙ ap (λ (rows : List (List ℕ)). done ++ rows) (sym (fill-more last d e later) ∙ ap (fill last d) (sym (suffix events i e within is)))

pub rows-end : (last : Visible) (d : Decoder) (events : List Event) (i : ℕ) (row : List ℕ) (done more : List (List ℕ))
    → length events ≤ i → row ≡ row_of d (halted last) last [] → more ≡ done ++ row ∷ [] → more ≡ done ++ fill last d (drop i events)
rows-end last d events i row done more past shown added =
    added ∙ ap (λ (x : List ℕ). done ++ x ∷ []) shown ∙ ap (λ (rows : List (List ℕ)). done ++ rows) (sym (fill-last last d))
    ∙ ap (λ (xs : List Event). done ++ fill last d xs) (sym (drop_all i events past))

decoder-more : (d : Decoder) (e : Event) (later : List Event) → decoder_after d (e ∷ later) ≡ decoder_after (advance d e later) later
unfolding decoder_after
decoder-more d e later = refl

decoder-none : (d : Decoder) → decoder_after d [] ≡ d
unfolding decoder_after
decoder-none d = refl

pub decoder-step : (d after : Decoder) (events : List Event) (i : ℕ) (e : Event) → i < length events → e ≡ get_or events i e
    → after ≡ advance d e (drop (i + 1) events) → decoder_after after (drop (i + 1) events) ≡ decoder_after d (drop i events)
decoder-step d after events i e within is moved =
    ap (λ (b : Decoder). decoder_after b (drop (i + 1) events)) moved ∙ sym (decoder-more d e (drop (i + 1) events))
    ∙ ap (decoder_after d) (sym (suffix events i e within is))

pub decoder-end : (d : Decoder) (events : List Event) (i : ℕ) → length events ≤ i → d ≡ decoder_after d (drop i events)
decoder-end d events i past = sym (ap (decoder_after d) (drop_all i events past) ∙ decoder-none d)

turns-more : (e : Event) (later : List Event) → turns_of (e ∷ later) ≡ turns_by (kind_of e.op) (repeats later) (turns_of later)
unfolding turns_of
turns-more e later = refl

-- the turns from a place on
pub turns-here : (events : List Event) (i : ℕ) (e : Event) → i < length events → e ≡ get_or events i e
    → turns_of (drop i events) ≡ turns_by (kind_of e.op) (repeats (drop (i + 1) events)) (turns_of (drop (i + 1) events))
turns-here events i e within is = ap turns_of (suffix events i e within is) ∙ turns-more e (drop (i + 1) events)

-- the turns from an event of a kind on
pub turns-known : (turns : List ℕ) (events : List Event) (i : ℕ) (e : Event) (kind : Kind) → i < length events → e ≡ get_or events i e
    → turns ≡ turns_of (drop i events) → kind ≡ kind_of e.op
    → turns ≡ turns_by kind (repeats (drop (i + 1) events)) (turns_of (drop (i + 1) events))
turns-known turns events i e kind within is are known =
    are ∙ turns-here events i e within is
    ∙ ap (λ k. turns_by k (repeats (drop (i + 1) events)) (turns_of (drop (i + 1) events))) (sym known)

repeats-more : (e : Event) (later : List Event) → repeats (e ∷ later) ≡ repeats_by (kind_of e.op) (repeats later)
unfolding repeats
repeats-more e later = refl

pub repeats-here : (events : List Event) (i : ℕ) (e : Event) → i < length events → e ≡ get_or events i e
    → repeats (drop i events) ≡ repeats_by (kind_of e.op) (repeats (drop (i + 1) events))
repeats-here events i e within is = ap repeats (suffix events i e within is) ∙ repeats-more e (drop (i + 1) events)

pub none-behind : (events : List Event) (i : ℕ) → length events ≤ i → (repeats (drop i events) ≡ []) × (turns_of (drop i events) ≡ [])
unfolding repeats turns_of
none-behind events i past = (ap repeats (drop_all i events past), ap turns_of (drop_all i events past))

pub no-repeats : 0 ≡ slice_index (repeats []) 0
unfolding repeats
no-repeats = refl
