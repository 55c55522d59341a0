use Rattle.fill_chips.proofs.Words.{◌≡◌, ◌+◌, [], ◌∷◌, ◌++◌, take, All, None, sym, subst, ap, ◌∙◌, take_more, All-append, All-cons, All-nil, IsSmallAccess}
use Rattle.facts_memory.specs.AccessRows.{rows_behind}
use Rattle.fill_chips.proofs.AccessLemmas.{no_first_step, rows-done, rows-step}
use Rattle.fill_chips.proofs.memory.table_of.Goals as goal

pub loop-access-init : goal.loop-access-init
loop-access-init c = record {
  rows = ap (λ table. table ++ rows_behind None c.args.sorted.now) (c.reserve.ensures ∙ c.new-table.ensures.empty);
  small = All-nil IsSmallAccess;
}

pub loop-access-preserved : goal.loop-access-preserved
loop-access-preserved c =
    let sorted = c.args.sorted.now in
    let i = c.loop-access.access-index in
    let access = c.access-item.result in
    let more : take (i + 1) sorted ≡ take i sorted ++ access ∷ []
    = take_more sorted i access c.loop-access-test.true ∙ ap (λ a. take i sorted ++ a ∷ []) (sym c.access-item.is) in
    record {
      rows =
          rows-step sorted c.loop-access.table c.push_row.new.self c.row_behind.result c.loop-access.before i access
          c.loop-access-test.true c.access-item.is
          c.in_ok-push_row.ensures.ok c.row_behind.ensures.row
          ∙ c.loop-access.invariant.rows;
      small =
          subst (All IsSmallAccess) (sym more)
          (All-append IsSmallAccess (take i sorted) (access ∷ []) c.loop-access.invariant.small
          (All-cons IsSmallAccess access [] c.row_behind.ensures.small (All-nil IsSmallAccess)));
    }

pub returns-clause-rows : goal.returns-clause-rows
returns-clause-rows c =
    sym (rows-done c.args.sorted.now c.loop-access.table c.loop-access.before c.loop-access.access-index c.loop-access-test.false)
    ∙ c.loop-access.invariant.rows

pub returns-clause-first : goal.returns-clause-first
returns-clause-first c = no_first_step c.args.sorted.now c.loop-access.table (returns-clause-rows c)
