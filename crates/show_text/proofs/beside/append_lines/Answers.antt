use Rattle.std.proofs.Common.{ℕ, [], ◌++◌, take, refl, sym, ap, ◌∙◌, arith}
use Rattle.std.specs.Prelude.{slice_index_or}
use Rattle.std.specs.List.{flat_map}
use Rattle.air_kit.specs.declared.trace.TableName.TheVariants as table
use Rattle.show_text.specs.BesideText.{beside_line, is_beside, most_beside}
use Rattle.show_text.proofs.FewTold.{passing, tells, passes_by, is_full}
use Rattle.show_text.proofs.beside.append_lines.Goals as goal
use Rattle.show_text.proofs.beside.append_lines.Goals.{then-told-lt-MOST_BESIDE+then-is_beside+in_ok-append_beside, else-told-lt-MOST_BESIDE, else-told-lt-MOST_BESIDE-via-then-told-lt-MOST_BESIDE+else-is_beside, else-told-lt-MOST_BESIDE-via-else-told-lt-MOST_BESIDE}

pub loop-i-preserved : goal.loop-i-preserved
loop-i-preserved c =
    let row = λ (i : ℕ). slice_index_or c.args.trace.now.memory i [] in
    let line = λ (i : ℕ). beside_line table.Memory i (row i) in
    let test = λ (i : ℕ). is_beside c.args.tuple.now (row i) in
    let i = c.loop-i.i in
    elim c.if-told-lt-MOST_BESIDE.branch [
      | then-told-lt-MOST_BESIDE+then-is_beside+in_ok-append_beside w ↦
          tells line test most_beside i _ c.args.text.now c.loop-i.text _ c.loop-i.told _ c.loop-i.invariant w.if-told-lt-MOST_BESIDE.true
          (ap (is_beside c.args.tuple.now) (sym c.row-row.ensures.cells) ∙ sym w.is_beside.ensures ∙ w.if-is_beside.true)
          (w.text-is ∙ w.in_ok-append_beside.ensures)
          w.told-is refl
      | else-told-lt-MOST_BESIDE w ↦ elim w.else-told-lt-MOST_BESIDE.branch [
        | else-told-lt-MOST_BESIDE-via-then-told-lt-MOST_BESIDE+else-is_beside v ↦
            passes_by line test most_beside i _ c.args.text.now c.loop-i.text _ c.loop-i.told _ c.loop-i.invariant
            (ap (is_beside c.args.tuple.now) (sym c.row-row.ensures.cells) ∙ sym v.is_beside.ensures ∙ v.if-is_beside.false) w.text-is w.told-is refl
        | else-told-lt-MOST_BESIDE-via-else-told-lt-MOST_BESIDE v ↦
            is_full line test most_beside i _ c.args.text.now c.loop-i.text _ c.loop-i.told _ c.loop-i.invariant v.if-told-lt-MOST_BESIDE.false
            w.text-is w.told-is refl
      ]
    ]

pub returns : goal.returns
returns c =
    let row = λ (i : ℕ). slice_index_or c.args.trace.now.memory i [] in
    c.loop-i.invariant.is
    ∙ ap (λ n. c.args.text.now
    ++ flat_map (λ i. beside_line table.Memory i (row i)) (take most_beside (passing (λ i. is_beside c.args.tuple.now (row i)) n)))
    (omega arith)
