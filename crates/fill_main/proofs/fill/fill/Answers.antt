use Rattle.std.proofs.Common.{All, ◌≡◌, ℕ, ◌+◌, ◌-◌, ◌^◌, ◌<◌, ◌≤◌, List, ◌++◌, [], drop, length, refl, sym, ap, ◌∙◌, arith, slice_index, subst, get_or}
use Rattle.std.proofs.lemmas.List.{length-drop}
use Rattle.std.proofs.lemmas.List.Elements.{All-get_or}
use Rattle.vm_field.specs.Limits.{most_cycles}
use Rattle.vm_field.specs.Field.{prime}
use Rattle.air_kit.specs.declared.requests.Perm.{Perm}
use Rattle.air_kit.specs.declared.requests.Requests.{Requests}
use Rattle.machine_cycles.specs.declared.event.Event.{Event}
use Rattle.machine_cycles.specs.declared.event.Visible.{Visible}
use Rattle.complete_rows.specs.Decoder.{Decoder, at_start, decoder_after}
use Rattle.complete_rows.specs.Filling.{deep_before, fill, row_of}
use Rattle.complete_rows.specs.Numbers.{IsU16}
use Rattle.complete_rows.specs.RunRequests.{accesses_of, bits_of, calls_of, perms_of, ranges_by, ranges_of}
use Rattle.complete_rows.specs.Turns.{repeats}
use Rattle.vm_ops.specs.Codes.{kind_of}
use Rattle.vm_ops.specs.declared.kind.Kind.TheVariants as kinds
use Rattle.fill_main.specs.Turns.{turns_of}
use Rattle.fill_requests.proofs.RequestLemmas as ask
use Rattle.fill_decoder.specs.Bounds.{IsSmall}
use Rattle.fill_decoder.specs.Views.{decoder_in}
use Rattle.fill_decoder.proofs.BoundLemmas.{small_room, small_shows, small_start, small_step}
use Rattle.fill_decoder.proofs.DecoderLemmas.{known}
use Rattle.complete_rows.proofs.LineLemmas.{few_repeats}
use Rattle.fill_main.proofs.FillLemmas.{decoder-end, decoder-step, deep-low, rows-end, rows-step, turns-known, no-repeats, whole}
use Rattle.fill_main.proofs.fill.fill.Goals as goal

pub new-requires : goal.new-requires
new-requires c =
    let few = deep-low c.args.last.now c.args.events.now c.requires in
    let is = ap (λ (v : Visible). v.depth - 16) c.seen_behind.ensures in
    omega (arith, few, is)

pub loop-i-init : goal.loop-i-init
loop-i-init c =
    let constants = c.args.permutations.now in
    let last = c.args.last.now in
    let events = c.args.events.now in
    let none = c.no_requests-requests.ensures in
    let deep : c.saturating_sub-deep.result ≡ deep_before last events
    = c.saturating_sub-deep.ensures ∙ ap (λ (v : Visible). v.depth - 16) c.seen_behind.ensures in
    let begun : decoder_in c.in_ok-decoder.decoder ≡ at_start (deep_before last events) = c.in_ok-decoder.ensures ∙ ap at_start deep in
    record {
      rows =
          ap (λ done. done ++ fill last (decoder_in c.in_ok-decoder.decoder) events) (c.reserve.ensures ∙ c.new-table.ensures.empty)
          ∙ ap (λ (d : Decoder). fill last d events) begun;
      after = ap (λ (d : Decoder). decoder_after d events) begun;
      turns = c.in_ok-turns.ensures;
      small = subst (λ d. IsSmall d 0 events) (sym begun) (small_start (deep_before last events) events c.requires.few);
      perms = ap (λ (r : Requests). r.perms ++ perms_of constants events) none;
      bits = ap (λ (r : Requests). r.bits ++ bits_of events) none;
      accesses = ap (λ (r : Requests). r.accesses ++ accesses_of events) none;
      ranges = ap (λ (r : Requests). r.ranges ++ ranges_of last events) none;
      calls = ap (λ (r : Requests). r.calls ++ calls_of events) none;
      same = refl;
    }

pub loop-i-preserved : goal.loop-i-preserved
loop-i-preserved c =
    let constants = c.args.permutations.now in
    let last = c.args.last.now in
    let events = c.args.events.now in
    let i = c.loop-i.i in
    let e = c.event-event.result in
    let shown = c.event-event.ensures in
    let is = subst (λ (x : Event). x ≡ get_or events i x) (sym shown.2) shown.1 in
    let later = drop (i + 1) events in
    let d = decoder_in c.loop-i.decoder in
    let asked = c.loop-i.requests in
    let added = c.in_ok-push_requests.ensures in
    let invariant = c.loop-i.invariant in
    let next = c.seen_behind-next.ensures in
    let here = turns-known c.loop-i.turns events i e c.kind_of-kind.result (omega arith) is invariant.turns c.kind_of-kind.ensures in
    let turn : kind_of e.op ≡ kinds.Loop → c.take_turns-turn.result ≡ slice_index (repeats later) 0
    = λ loops. c.take_turns-turn.ensures.are (repeats later) (turns_of later) here (c.kind_of-kind.ensures ∙ loops) in
    let moved = c.in_ok-advance.ensures ∙ known e c.kind_of-kind.result d _ later c.kind_of-kind.ensures
    (λ starts. c.len.ensures.count ∙ ap (λ (xs : List (List ℕ)). length xs) (c.in_ok-batches.ensures.are (c.kind_of-kind.ensures ∙ starts))) in
    record {
      rows =
          rows-step last d _ events i e _ c.loop-i.table _ (omega arith) is
          (c.write_row.ensures later turn ∙ ap (λ seen. row_of d e seen later) next)
          c.in_ok-push_row.ensures.ok moved
          ∙ invariant.rows;
      after = decoder-step d _ events i e (omega arith) is moved ∙ invariant.after;
      turns = c.take_turns-turn.ensures.left (repeats later) (turns_of later) here;
      small = small_step d _ events i e (omega arith) is moved invariant.small;
      perms =
          ask.perms-step constants events i e asked.perms _ (omega arith) is
          (added.perms ∙ ap (λ (more : List Perm). asked.perms ++ more)
          (ask.perms-known constants c.loop-i.permutations c.kind_of-kind.result e _ later invariant.same c.kind_of-kind.ensures
          (λ starts. c.as_slice.ensures.items ∙ c.in_ok-batches.ensures.are (c.kind_of-kind.ensures ∙ starts))))
          ∙ invariant.perms;
      bits = ask.bits-step events i e asked.bits _ (omega arith) is added.bits ∙ invariant.bits;
      accesses = ask.accesses-step events i e asked.accesses _ (omega arith) is added.accesses ∙ invariant.accesses;
      ranges =
          ask.ranges-step last events i e asked.ranges _ (omega arith) is
          (added.ranges ∙ ap (λ (seen : Visible). asked.ranges ++ ranges_by e seen) next)
          ∙ invariant.ranges;
      calls = ask.calls-step events i e asked.calls _ (omega arith) is added.calls ∙ invariant.calls;
      same = c.push_requests.ensures.same ∙ invariant.same;
    }

pub write_row-requires : goal.write_row-requires
write_row-requires c =
    let events = c.args.events.now in
    let i = c.loop-i.i in
    let e = c.event-event.result in
    let shown = c.event-event.ensures in
    let is = subst (λ (x : Event). x ≡ get_or events i x) (sym shown.2) shown.1 in
    let later = drop (i + 1) events in
    let invariant = c.loop-i.invariant in
    let here = turns-known c.loop-i.turns events i e c.kind_of-kind.result (omega arith) is invariant.turns c.kind_of-kind.ensures in
    let turn = c.take_turns-turn.ensures.few (repeats later) (turns_of later) here in
    let most = few_repeats later in
    let few : length events ≤ most_cycles = c.requires.few in
    record {
      decoder = small_shows (decoder_in c.loop-i.decoder) i (drop i events) invariant.small;
      depth =
          let low = All-get_or (λ (x : Event). x.before.depth < 2 ^ 32) events i e (omega arith) c.requires.depths in
          subst (λ (x : Event). x.before.depth < prime) (sym is) (omega (arith, low));
      turns = omega (arith, turn, most, few, length-drop (i + 1) events);
    }

pub advance-requires : goal.advance-requires
advance-requires c =
    let events = c.args.events.now in
    let i = c.loop-i.i in
    let count = c.len.ensures.count in
    let most = c.in_ok-batches.ensures.few in
    let few : length events ≤ most_cycles = c.requires.few in
    small_room (decoder_in c.loop-i.decoder) i c.len.result (drop i events) c.loop-i.invariant.small (omega (arith, count, most, few))

pub push_requests-requires : goal.push_requests-requires
push_requests-requires c =
    let last = c.args.last.now in
    let events = c.args.events.now in
    let i = c.loop-i.i in
    let e = c.event-event.result in
    let shown = c.event-event.ensures in
    let is = subst (λ (x : Event). x ≡ get_or events i x) (sym shown.2) shown.1 in
    let asked = c.loop-i.requests in
    let invariant = c.loop-i.invariant in
    record {
      bits = ask.bits-fit events i e asked.bits (omega arith) is invariant.bits c.requires.bits;
      accesses = ask.accesses-fit events i e asked.accesses (omega arith) is invariant.accesses c.requires.accesses;
      ranges = subst (λ (seen : Visible). All IsU16 (ranges_by e seen)) (sym c.seen_behind-next.ensures)
          (ask.ranges-fit last events i e asked.ranges (omega arith) is invariant.ranges c.requires.ranges);
    }

pub write_row-requires-2 : goal.write_row-requires-2
write_row-requires-2 c =
    let events = c.args.events.now in
    let i = c.loop-i.i in
    record {
      decoder = small_shows (decoder_in c.loop-i.decoder) i (drop i events) c.loop-i.invariant.small;
      depth = let low = c.requires.depth in subst (λ (x : Event). x.before.depth < prime) (sym c.halted.ensures) (omega (arith, low));
      turns = omega arith;
    }

pub returns : goal.returns
returns c =
    let constants = c.args.permutations.now in
    let last = c.args.last.now in
    let events = c.args.events.now in
    let i = c.loop-i.i in
    let asked = c.loop-i.requests in
    let invariant = c.loop-i.invariant in
    let d = decoder_in c.loop-i.decoder in
    let row = c.write_row-2.ensures [] (λ loops. no-repeats) ∙ ap (λ e. row_of d e last []) c.halted.ensures in
    record {
      rows = rows-end last d events i _ c.loop-i.table _ (omega arith) row c.in_ok-push_row-2.ensures.ok ∙ invariant.rows ∙ sym (whole last events);
      requests =
          ask.all-asked _ _ _ _ _ _ _ _ _ _ _ _
          (sym (ask.perms-ended constants events i asked.perms (omega arith)) ∙ invariant.perms)
          (sym (ask.bits-ended events i asked.bits (omega arith)) ∙ invariant.bits)
          (sym (ask.accesses-ended events i asked.accesses (omega arith)) ∙ invariant.accesses)
          (sym (ask.ranges-ended last events i asked.ranges (omega arith)) ∙ invariant.ranges)
          (sym (ask.calls-ended events i asked.calls (omega arith)) ∙ invariant.calls)
          (c.into_elements.ensures ∙ ap (λ (b : Decoder). b.keys) (decoder-end d events i (omega arith) ∙ invariant.after));
      same = invariant.same;
    }
