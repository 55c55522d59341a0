use Rattle.std.proofs.Common.{◌≡◌, ℕ, ◌+◌, ◌-◌, ◌<◌, List, drop, length, sym, ap, ap₂, ◌∙◌, arith, slice_index}
use Rattle.std.proofs.lemmas.List.{length-drop}
use Rattle.vm_ops.specs.declared.kind.Kind.{Kind}
use Rattle.vm_ops.specs.Codes.{kind_of}
use Rattle.complete_rows.specs.Turns.{repeats, repeats_by}
use Rattle.fill_main.specs.Turns.{turns_by, turns_of}
use Rattle.complete_rows.proofs.LineLemmas.{few_repeats}
use Rattle.fill_main.proofs.FillLemmas.{none-behind, repeats-here, turns-here}
use Rattle.fill_main.proofs.turns.turns_of.Goals as goal

pub loop-i-init : goal.loop-i-init
loop-i-init c =
    let none = none-behind c.args.events.now c.len-i.result (omega (arith, c.len-i.ensures.count)) in
    record { counts = c.new-counts.ensures ∙ sym none.0; turns = c.new-turns.ensures ∙ sym none.1 }

pub loop-i-preserved : goal.loop-i-preserved
loop-i-preserved c =
    let events = c.args.events.now in
    let i = c.loop-i.i in
    let j = i - 1 in
    let shown = c.op.ensures in
    let e = shown.0 in
    let within : j < length events = omega arith in
    let next : i ≡ j + 1 = omega arith in
    let counts = c.loop-i.invariant.counts ∙ ap (λ n. repeats (drop n events)) next in
    let turns = c.loop-i.invariant.turns ∙ ap (λ n. turns_of (drop n events)) next in
    record {
      counts =
          c.in_ok-count.ensures ∙ ap₂ (λ (k : Kind) (xs : List ℕ). repeats_by k xs) (c.kind_of-kind.ensures ∙ ap kind_of shown.2) counts
          ∙ sym (repeats-here events j e within shown.1);
      turns =
          c.in_ok-add_turns.ensures ∙ ap (λ (k : Kind). turns_by k c.loop-i.counts c.loop-i.turns) (c.kind_of-kind.ensures ∙ ap kind_of shown.2)
          ∙ ap₂ (λ (xs ys : List ℕ). turns_by (kind_of e.op) xs ys) counts turns
          ∙ sym (turns-here events j e within shown.1);
    }

-- a number that the length of a list goes beyond
pub count-requires : goal.count-requires
count-requires c =
    let events = c.args.events.now in
    let i = c.loop-i.i in
    let most = few_repeats (drop i events) in
    let here : slice_index c.loop-i.counts 0 ≡ slice_index (repeats (drop i events)) 0
    = ap (λ (xs : List ℕ). slice_index xs 0) c.loop-i.invariant.counts in
    omega (arith, here, most, length-drop i events)

pub returns : goal.returns
returns c =
    let none : c.loop-i.i ≡ 0 = omega arith in
    c.loop-i.invariant.turns ∙ ap (λ n. turns_of (drop n c.args.events.now)) none
