use Rattle.std.proofs.Common.{◌≡◌, ℕ, ◌+◌, ◌-◌, List, ◌++◌, ◌∙◌, ap, ap₂, drop, length, replicate, take, reverse, refl, arith}
use Rattle.machine_cycles.proofs.NameLemmas.{put-behind}
use Rattle.machine_cycles.proofs.names.cells_named.Goals as goal

pub returns : goal.returns
returns c =
    let count : c.args.place + 12 - c.args.place ≡ 12 = omega arith in
    put-behind c.copy_from_slice-2.new.self (replicate {A = ℕ} 12 0) c.copy_from_slice-3.new.self _
    (omega (arith, ap length c.copy_from_slice-2.ensures.after, c.told-top)) refl
    ∙ ap₂ (λ (x y : List ℕ). x ++ y) c.copy_from_slice-2.ensures.after
    (c.copy_from_slice-3.ensures.after ∙ c.reverse.ensures.after ∙ ap reverse c.copy_from_slice.ensures.after
    ∙ ap (λ n. reverse (take n (drop c.args.place c.args.list.now))) count)
