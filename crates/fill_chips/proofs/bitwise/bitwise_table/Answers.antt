use Rattle.fill_chips.proofs.Words.{[], ◌∷◌, ◌++◌, false, get_or, take, sym, subst, ap, ◌∙◌, take_more, All-append, All-cons, All-nil, rows_of_bits}
use Rattle.fill_chips.proofs.Words.{HaveWords, HasWords}
use Rattle.facts_bitwise.specs.BitRows.{rows_before}
use Rattle.fill_chips.proofs.BitLemmas.{rows-push}
use Rattle.fill_chips.proofs.bitwise.bitwise_table.Goals as goal

pub loop-op-init : goal.loop-op-init
unfolding rows_of_bits
loop-op-init c = record { rows = c.reserve.ensures ∙ c.new-table.ensures.empty; words = All-nil HasWords }

pub loop-op-preserved : goal.loop-op-preserved
loop-op-preserved c =
    let ops = c.args.ops.now in
    let i = c.loop-op.op-index in
    let op = get_or ops i (record { xor = false; a = 0; b = 0 }) in
    let more = take_more ops i (record { xor = false; a = 0; b = 0 }) c.loop-op-test.true in
    record {
      rows =
          c.in_ok-push_operation.ensures.rows ∙ ap (λ table. table ++ rows_before op []) c.loop-op.invariant.rows
          ∙ sym (rows-push (take i ops) op) ∙ ap rows_of_bits (sym more);
      words =
          subst HaveWords (sym more)
          (All-append HasWords (take i ops) (op ∷ []) c.loop-op.invariant.words
          (All-cons HasWords op [] c.push_operation.ensures.words (All-nil HasWords)));
    }
