use Rattle.std.proofs.Common.{◌+◌, take, drop, ◌∷◌, ap, sym, true≢false, ◌∙◌, arith}
use lib.Pointwise.{bytes_decides}
use Rattle.std.proofs.lemmas.List.{drop_more, take_all, length-map}
use Rattle.std.proofs.lemmas.List.Elements.{All-same, All-more}
use Rattle.tree_merge.specs.Placed.{Entry}
use Rattle.tree_merge.specs.declared.addr_tree.Target.{Target}
use Rattle.tree_merge.specs.AddrView.{entry_of, entries_of}
use Rattle.tree_merge.proofs.DistinctLemmas.{IsOther}
use Rattle.tree_merge.proofs.ViewLemmas.{drop-entries, get-entries}
use Rattle.tree_merge.proofs.targets.place.Goals as goal

pub returns-then-eq-clause-some : goal.returns-then-eq-clause-some
returns-then-eq-clause-some c =
    let xs = c.args.targets.now in
    let here = drop_more xs c.loop-i.i c.index-targets-i.result (omega arith) ∙ ap (λ y. y ∷ drop (c.loop-i.i + 1) xs) (sym c.index-targets-i.is) in
    record {
      inside = omega (arith, length-map xs entry_of);
      entry = entry_of c.index-targets-i.result;
      is = drop-entries xs c.loop-i.i c.index-targets-i.result here;
      noted = ap (λ (x : Target). x.digest) c.index-targets-i.is ∙ (bytes_decides _ _).0 (sym c.eq.ensures ∙ c.if-eq.true);
      before = c.loop-i.invariant;
    }

pub loop-i-preserved : goal.loop-i-preserved
loop-i-preserved c =
    let xs = c.args.targets.now in
    let d = c.index-targets-i.result in
    All-more (IsOther c.args.digest) (entries_of xs) c.loop-i.i (entry_of d) (omega (arith, length-map xs entry_of))
    c.loop-i.invariant
    (λ e. true≢false (sym ((bytes_decides _ _).1 (ap (λ (x : Entry). x.digest) (sym (get-entries xs c.loop-i.i d)) ∙ e)) ∙ sym c.eq.ensures ∙ c.if-eq.false))

pub returns-clause-none : goal.returns-clause-none
returns-clause-none c =
    let es = entries_of c.args.targets.now in
    All-same (IsOther c.args.digest) es (take c.loop-i.i es)
    (sym (take_all c.loop-i.i es (omega (arith, length-map c.args.targets.now entry_of)))) c.loop-i.invariant
