use Rattle.fill_chips.proofs.Words.{◌≡◌, ◌∷◌, [], ◌++◌, List, ℕ, ◌<◌, map, All, ap, ap₂, subst, ◌∙◌, arith, IsState, IsWord, rows_of_perms, HaveWords}
use Rattle.fill_chips.proofs.Words.{rules, ShowsAccesses, kernel_rows, times_called, limbs_in, range_rows}
use Rattle.facts_bitwise.specs.BitRows.{rows_of_bits as bit_rows}
use Rattle.fill_chips.proofs.AccessLemmas.{rows-shown}
use Rattle.fill_chips.proofs.ChipAnswers.{filled-answers, filled-sizes}
use Rattle.fill_chips.proofs.chips.fill_chips.Goals as goal

pub range_table-requires : goal.range_table-requires
range_table-requires g c =
    let r = c.args.requests.now in
    let memory = c.in_ok-memory.memory in
    let shown : ShowsAccesses r.accesses memory =
    rows-shown c.args.permutations.now c.args.kernel.now r c.as_slice.result.now memory c.as_slice.ensures.items c.requires.fit
    c.in_ok-memory.ensures.small c.in_ok-memory.ensures.rows in
    record { limbs = shown.limbs; few = omega (arith, shown.size, c.requires.fit.room.accesses) }

pub returns : goal.returns
returns g c =
    let constants = c.args.permutations.now in
    let kernel = c.args.kernel.now in
    let r = c.args.requests.now in
    let memory = c.in_ok-memory.memory in
    let shown : ShowsAccesses r.accesses memory =
    rows-shown constants kernel r c.as_slice.result.now memory c.as_slice.ensures.items c.requires.fit c.in_ok-memory.ensures.small
    c.in_ok-memory.ensures.rows in
    let range_is : c.in_ok-range_table.field-0 ≡ range_rows (r.ranges ++ limbs_in memory) =
    c.in_ok-range_table.ensures.rows ∙ ap (λ ranges. range_rows (ranges ++ limbs_in memory)) c.as_slice-2.ensures.items in
    let hasher_is : c.in_ok-hasher_table.field-0 ≡ rows_of_perms constants r.perms =
    c.in_ok-hasher_table.ensures.rows ∙ ap (rows_of_perms constants) c.as_slice-3.ensures.items in
    let bitwise_is : c.in_ok-bitwise_table.field-0 ≡ bit_rows r.bits = c.in_ok-bitwise_table.ensures.rows ∙ ap bit_rows c.as_slice-4.ensures.items in
    let kernel_is : c.in_ok-kernel_table.field-0 ≡ kernel_rows (times_called r.calls) kernel =
    c.in_ok-kernel_table.ensures.rows ∙ ap₂ (λ (calls words : List (List ℕ)). kernel_rows (times_called calls) words) c.as_slice-6.ensures.items
    c.as_slice-5.ensures.items in
    let left_is : c.in_ok-left_table.field-0 ≡ map (λ key. key ∷ []) r.keys =
    c.in_ok-left_table.ensures.rows ∙ ap (map (λ (key : ℕ). key ∷ [])) c.as_slice-7.ensures.items in
    let words : HaveWords r.bits = subst HaveWords c.as_slice-4.ensures.items c.in_ok-bitwise_table.ensures.words in
    rw (range_is, hasher_is, bitwise_is, c.memory.view_is, kernel_is, left_is)
    (record {
      answers = filled-answers constants kernel r memory c.hasher_table.ensures.constants c.requires.fit
          (subst (All (λ p. IsState p.start)) c.as_slice-3.ensures.items c.in_ok-hasher_table.ensures.states) words shown
          (subst (All IsWord) c.as_slice-5.ensures.items c.as_slice-5.ensures.words)
          (subst (All (λ v. v < 65536)) c.as_slice-2.ensures.items c.range_table.ensures.small);
      sizes = filled-sizes constants kernel r memory words shown;
      first = search rules;
      range = search rules;
    })
