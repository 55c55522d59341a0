use Rattle.std.proofs.Common.{◌≡◌, ℕ, ◌<◌, ◌≤◌, List, refl, ◌∷◌, ◌++◌, [], Option, ap, set, sym, subst, ◌∙◌, arith, append_assoc, OnOk, Result, Ok, Err}
use Rattle.std.specs.Vec.Iter.{into_iter_items}
use Rattle.std.proofs.lemmas.List.{map-append, map-set}
use Rattle.std.proofs.lemmas.List.Elements.{All-same}
use Rattle.std.proofs.Math.Path.{subst₂}
use Rattle.vm_field.specs.Sponge.{HashInput}
use Rattle.rpo_hash.specs.Constants.{constants_of}
use Rattle.block_tree.specs.Trees.{tree_height, targets_height, targets_from}
use Rattle.tree_merge.specs.AddrView.{placed_of, entry_of, entries_of}
use Rattle.tree_merge.specs.Placed.{PlacedTree, Entry, plain}
use Rattle.tree_merge.specs.declared.addr_tree.AddrTree.{AddrTree}
use Rattle.tree_merge.specs.Merging.{Mergeable, Merged}
use Rattle.tree_merge.specs.Targets.{IsGoodEntry, IsAdded, AreMerged, HasNone, Distinct, digests_in, trees_in}
use Rattle.tree_merge.specs.declared.addr_tree.Target.{Target}
use Rattle.tree_merge.specs.Pairs.{Differs}
use Rattle.tree_merge.proofs.ChildLemmas.{twos-second}
use Rattle.tree_merge.proofs.RootLemmas.{opaque-first, opaque-second, unlike-differ}
use Rattle.tree_merge.proofs.ViewLemmas.{placed-Dyn, plain-targets, get-entries}
use Rattle.tree_merge.proofs.MergeLemmas.{join-twos, split-twos, loop-ones, call-ones, syscall-ones, join-merged, split-merged, loop-merged, call-merged, syscall-merged}
use Rattle.tree_merge.proofs.TargetLemmas.{dyn-first, dyn-second, dyn-distinct, dyn-merged, added-push, merged-none, merged-more, height-inside, good-inside, mergeable-place, added-set, at-place}
use Rattle.tree_merge.proofs.SideLemmas.{passed-on, above-root, up_to-root, joins-apart, splits-apart, loops-apart, calls-apart, syscalls-apart, dyn-each, there-inside, new-target, above-all, above-push, above-set, above-place}
use Rattle.tree_merge.specs.Sides.{AreAbove, AreUpTo, IsAboveUnless, AreAboveUnless, IsTargetApart, AreTargetsApart}
use Rattle.tree_merge.proofs.merging.+merging.Goals as goal

-- what is known of two trees is known of what they were found to be, and the other way round
found : (constants : List ℕ) (comp : ℕ → Option HashInput) (a b x y : PlacedTree) → a ≡ x → b ≡ y → Mergeable constants comp a b
    → Mergeable constants comp x y
found constants comp a b x y e f m = subst₂ (λ u v. Mergeable constants comp u v) e f m

made : (constants : List ℕ) (comp : ℕ → Option HashInput) (a b x y m : PlacedTree) → a ≡ x → b ≡ y → Merged constants comp x y m
    → Merged constants comp a b m
made constants comp a b x y m e f h = subst₂ (λ u v. Merged constants comp u v m) (sym e) (sym f) h

moved : (constants : List ℕ) (comp : ℕ → Option HashInput) (p q r s : ℕ) → r ≡ p → s ≡ q → Differs constants comp p q → Differs constants comp r s
moved constants comp p q r s e f d = subst₂ (λ x y. Differs constants comp x y) (sym e) (sym f) d

abbrev tall : AddrTree → ℕ
tall x = tree_height (plain (placed_of x))

pub merge_in-returns-then-kind-eq0-clause-ok : goal.merge_in-returns-then-kind-eq0-clause-ok
merge_in-returns-then-kind-eq0-clause-ok g t c = opaque-first _ _ _ _ c.requires (sym c.kind.ensures.is ∙ c.if-kind-eq0.true)

pub merge_in-returns-then-kind-eq0-2-clause-ok : goal.merge_in-returns-then-kind-eq0-2-clause-ok
merge_in-returns-then-kind-eq0-2-clause-ok g t c = opaque-second _ _ _ _ c.requires (sym c.kind-2.ensures.is ∙ c.if-kind-eq0-2.true)

pub merge_in-pair-requires : goal.merge_in-pair-requires
merge_in-pair-requires g t c =
    moved _ _ _ _ _ _ c.address.ensures.is c.address-then-kind.ensures.is
    (unlike-differ _ _ _ _ c.requires (λ e. c.if-kind-eq0.false (c.kind.ensures.is ∙ e)) (λ e. c.if-kind-eq0-2.false (c.kind-2.ensures.is ∙ e))
    (λ e. c.if-kind.true (c.kind-3.ensures.is ∙ e ∙ sym c.kind-4.ensures.is)))

pub merge_in-of_one_kind-requires : goal.merge_in-of_one_kind-requires
merge_in-of_one_kind-requires g t c = λ κs within. (
  omega arith,
  (
    within,
    (
      c.requires,
      (λ e. c.if-kind-eq0.false (c.kind.ensures.is ∙ e), sym c.kind-3.ensures.is ∙ c.if-kind.false ∙ c.kind-4.ensures.is),
    ),
  ),
)

pub of_one_kind-span-requires : goal.of_one_kind-span-requires
of_one_kind-span-requires g t c = found _ _ _ _ _ _ (ap placed_of c.in-Span.is) (ap placed_of c.in-Span-b.is) c.requires.mergeable

pub of_one_kind-two-requires : goal.of_one_kind-two-requires
of_one_kind-two-requires g t c =
    let e = ap tall c.in-Join-b.is in
    let d = c.decreases in
    let known = found _ _ _ _ _ _ (ap placed_of c.in-Join.is) (ap placed_of c.in-Join-b.is) c.requires.mergeable in
    λ κs within. (omega (arith, e, d), (within, join-twos _ _ _ _ _ _ _ _ known))

pub of_one_kind-returns-in_ok-x-in-Join-b-clause-ok : goal.of_one_kind-returns-in_ok-x-in-Join-b-clause-ok
of_one_kind-returns-in_ok-x-in-Join-b-clause-ok g t c =
    let first = ap placed_of c.in-Join.is in
    let second = ap placed_of c.in-Join-b.is in
    made _ _ _ _ _ _ _ first second (
    join-merged _ _ _ _ _ _ _ _ _ _ (found _ _ _ _ _ _ first second c.requires.mergeable)
    c.in_ok-x-in-Join-b.ensures.first c.in_ok-x-in-Join-b.ensures.second)

pub of_one_kind-two-requires-in-Split-b : goal.of_one_kind-two-requires-in-Split-b
of_one_kind-two-requires-in-Split-b g t c =
    let e = ap tall c.in-Split-b.is in
    let d = c.decreases in
    let known = found _ _ _ _ _ _ (ap placed_of c.in-Split.is) (ap placed_of c.in-Split-b.is) c.requires.mergeable in
    λ κs within. (omega (arith, e, d), (within, split-twos _ _ _ _ _ _ _ _ known))

pub of_one_kind-returns-in_ok-x-in-Split-b-clause-ok : goal.of_one_kind-returns-in_ok-x-in-Split-b-clause-ok
of_one_kind-returns-in_ok-x-in-Split-b-clause-ok g t c =
    let first = ap placed_of c.in-Split.is in
    let second = ap placed_of c.in-Split-b.is in
    made _ _ _ _ _ _ _ first second (
    split-merged _ _ _ _ _ _ _ _ _ _ (found _ _ _ _ _ _ first second c.requires.mergeable)
    c.in_ok-x-in-Split-b.ensures.first c.in_ok-x-in-Split-b.ensures.second)

pub of_one_kind-one-requires : goal.of_one_kind-one-requires
of_one_kind-one-requires g t c =
    let e = ap tall c.in-Loop-b.is in
    let d = c.decreases in
    let known = found _ _ _ _ _ _ (ap placed_of c.in-Loop.is) (ap placed_of c.in-Loop-b.is) c.requires.mergeable in
    λ κs within. (omega (arith, e, d), (within, loop-ones _ _ _ _ _ _ known))

pub of_one_kind-returns-in_ok-one-in-Loop-b-clause-ok : goal.of_one_kind-returns-in_ok-one-in-Loop-b-clause-ok
of_one_kind-returns-in_ok-one-in-Loop-b-clause-ok g t c =
    let first = ap placed_of c.in-Loop.is in
    let second = ap placed_of c.in-Loop-b.is in
    made _ _ _ _ _ _ _ first second
    (loop-merged _ _ _ _ _ _ _ (found _ _ _ _ _ _ first second c.requires.mergeable) c.in_ok-one-in-Loop-b.ensures.ok)

pub of_one_kind-one-requires-in-Call-b : goal.of_one_kind-one-requires-in-Call-b
of_one_kind-one-requires-in-Call-b g t c =
    let e = ap tall c.in-Call-b.is in
    let d = c.decreases in
    let known = found _ _ _ _ _ _ (ap placed_of c.in-Call.is) (ap placed_of c.in-Call-b.is) c.requires.mergeable in
    λ κs within. (omega (arith, e, d), (within, call-ones _ _ _ _ _ _ known))

pub of_one_kind-returns-in_ok-one-in-Call-b-clause-ok : goal.of_one_kind-returns-in_ok-one-in-Call-b-clause-ok
of_one_kind-returns-in_ok-one-in-Call-b-clause-ok g t c =
    let first = ap placed_of c.in-Call.is in
    let second = ap placed_of c.in-Call-b.is in
    made _ _ _ _ _ _ _ first second
    (call-merged _ _ _ _ _ _ _ (found _ _ _ _ _ _ first second c.requires.mergeable) c.in_ok-one-in-Call-b.ensures.ok)

pub of_one_kind-one-requires-in-Syscall-b : goal.of_one_kind-one-requires-in-Syscall-b
of_one_kind-one-requires-in-Syscall-b g t c =
    let e = ap tall c.in-Syscall-b.is in
    let d = c.decreases in
    let known = found _ _ _ _ _ _ (ap placed_of c.in-Syscall.is) (ap placed_of c.in-Syscall-b.is) c.requires.mergeable in
    λ κs within. (omega (arith, e, d), (within, syscall-ones _ _ _ _ _ _ known))

pub of_one_kind-returns-in_ok-one-in-Syscall-b-clause-ok : goal.of_one_kind-returns-in_ok-one-in-Syscall-b-clause-ok
of_one_kind-returns-in_ok-one-in-Syscall-b-clause-ok g t c =
    let first = ap placed_of c.in-Syscall.is in
    let second = ap placed_of c.in-Syscall-b.is in
    made _ _ _ _ _ _ _ first second
    (syscall-merged _ _ _ _ _ _ _ (found _ _ _ _ _ _ first second c.requires.mergeable) c.in_ok-one-in-Syscall-b.ensures.ok)

pub of_one_kind-merge_targets-requires : goal.of_one_kind-merge_targets-requires
of_one_kind-merge_targets-requires g t c =
    let first = ap placed_of c.in-Dyn.is ∙ placed-Dyn _ _ in
    let second = ap placed_of c.in-Dyn-b.is ∙ placed-Dyn _ _ in
    let known = found _ _ _ _ _ _ first second c.requires.mergeable in
    let e = ap (λ x. tree_height (plain x)) second in
    let same = ap targets_height (plain-targets (entries_of c.in-Dyn-b.y.items)) in
    let d = c.decreases in
    λ κs within. (omega (arith, e, same, d), (within, (dyn-first _ _ _ _ _ _ known, dyn-second _ _ _ _ _ _ known)))

pub of_one_kind-returns-in_ok-merge_targets-in-Dyn-b-clause-ok : goal.of_one_kind-returns-in_ok-merge_targets-in-Dyn-b-clause-ok
of_one_kind-returns-in_ok-merge_targets-in-Dyn-b-clause-ok g t c =
    let first = ap placed_of c.in-Dyn.is ∙ placed-Dyn _ _ in
    let second = ap placed_of c.in-Dyn-b.is ∙ placed-Dyn _ _ in
    let known = found _ _ _ _ _ _ first second c.requires.mergeable in
    let m = dyn-merged _ _ _ _ _ _ known _ c.in_ok-merge_targets-in-Dyn-b.ensures.ok in
    made _ _ _ _ _ _ _ first second (subst (Merged _ _ _ _) (sym (placed-Dyn _ _)) m)

pub two-boxed-requires-2 : goal.two-boxed-requires-2
two-boxed-requires-2 g t c =
    let d = c.decreases in
    λ κs within. (omega (arith, d), (within, twos-second _ _ _ _ _ _ _ _ c.requires (c.same_block.ensures.is.0 c.if-not-same_block.false)))

OnOk-map : {E : Type 0} (P Q : Type 0) (r : Result (Unit {0}) E) → (P → Q) → OnOk r P → OnOk r Q
OnOk-map P Q (Ok x) f p = f p
OnOk-map P Q (Err x) f p = p

pub add_target-returns-in-None-clause-ok : goal.add_target-returns-in-None-clause-ok
add_target-returns-in-None-clause-ok g t c =
    let targets = c.args.targets.now.items in
    OnOk-map _ _ c.push.result (λ e.
    subst (IsAdded _ _ (entries_of targets) (entry_of c.args.target))
    (sym (ap entries_of e ∙ map-append entry_of targets (c.args.target ∷ [])))
    (added-push _ _ (entry_of c.args.target) c.requires.one (entries_of targets) c.requires.old
    (subst (λ ts. HasNone c.args.target.digest (entries_of ts)) c.as_slice.ensures.value c.in-None.ensures.none))) c.push.ensures.ok

pub merge_at-merge_in-requires : goal.merge_at-merge_in-requires
merge_at-merge_in-requires g t c =
    let slot = c.index_mut-slot.result.now in
    let entry = ap entry_of c.index_mut-slot.ensures.value ∙ sym (get-entries c.args.targets.now.items c.args.i slot)
    ∙ at-place _ _ _ c.requires.place (entry_of slot) in
    let same = ap placed_of c.replace-first.ensures.value ∙ ap (λ (e : Entry). e.tree) entry in
    λ κs within. (
      omega arith,
      (
        within,
        subst (λ x. Mergeable (constants_of c.args.params.now) (g.H.Hashes.hashed_at c.args.hashes.now) x (placed_of c.args.target.tree)) (sym same)
            (mergeable-place _ _ _ (entry_of c.args.target) _ c.requires.place c.requires.old c.requires.one),
      ),
    )

pub merge_at-returns-clause-ok : goal.merge_at-returns-clause-ok
merge_at-returns-clause-ok g t c =
    let targets = c.args.targets.now.items in
    let slot = c.index_mut-slot.result.now in
    let entry = ap entry_of c.index_mut-slot.ensures.value ∙ sym (get-entries targets c.args.i slot) ∙ at-place _ _ _ c.requires.place (entry_of slot) in
    let same = ap placed_of c.replace-first.ensures.value ∙ ap (λ (e : Entry). e.tree) entry in
    let m = placed_of c.in_ok-slot.field-0 in
    let merged = subst
    (λ x. Merged (constants_of c.args.params.now) (g.H.Hashes.hashed_at c.args.hashes.now) x (placed_of c.args.target.tree) m) same
    c.in_ok-slot.ensures.ok in
    let added = added-set _ _ _ (entry_of c.args.target) _ c.requires.place c.requires.old c.requires.one m merged in
    let back : set (entries_of targets) c.args.i (record { digest = c.requires.place.entry.digest; tree = m })
    ≡ entries_of (set targets c.args.i (record { digest = slot.digest; tree = c.in_ok-slot.field-0 }))
    = ap (λ w. set (entries_of targets) c.args.i (record { digest = w; tree = m })) (sym (ap (λ (e : Entry). e.digest) entry))
    ∙ sym (map-set entry_of targets c.args.i _) in
    subst (IsAdded _ _ (entries_of targets) (entry_of c.args.target)) back added

-- the targets that were merged, and one more
more-digests : (before : List Target) (target : Target)
    → digests_in (entries_of (before ++ target ∷ [])) ≡ digests_in (entries_of before) ++ target.digest ∷ []
more-digests before target =
    ap digests_in (map-append entry_of before (target ∷ [])) ∙ map-append (λ (e : Entry). e.digest) (entries_of before) (entry_of target ∷ [])

-- the next target is none of those that were merged
next-apart : (bound : ℕ) (a b before : List Target) (target : Target) (behind merged : List Target)
    → entries_of before ++ entry_of target ∷ entries_of behind ≡ entries_of b → AreTargetsApart bound a b
    → AreAboveUnless bound (digests_in (entries_of before)) merged → IsTargetApart bound (digests_in (entries_of before)) merged target
next-apart bound a b before target behind merged split apart above = record {
  above = above;
  new = new-target (entries_of before) (entry_of target) (entries_of behind) (subst Distinct (sym split) apart.distinct);
  up_to = there-inside (λ at. at ≤ bound) (entries_of before) (entry_of target) (entries_of behind)
      (All-same (λ (e : Entry). AreUpTo bound e.tree) _ _ split apart.up_to);
}

pub merge_targets-loop-target-init : goal.merge_targets-loop-target-init
merge_targets-loop-target-init g t c = record {
  all = c.into_iter-target-iterator.ensures.into_iter_gives.0;
  merged = merged-none _ _ _ c.requires.first;
  above = λ bound apart. above-all bound (entries_of c.args.a.items) apart.above;
}

pub merge_targets-add_target-requires : goal.merge_targets-add_target-requires
merge_targets-add_target-requires g t c =
    let before = c.loop-target.yielded in
    let behind = into_iter_items c.next.new.self in
    let here = ap (λ ys. before ++ ys) (sym c.in-Some.ensures.steps.0) ∙ c.loop-target.invariant.all in
    let split = sym (map-append entry_of before (c.in-Some.target ∷ behind)) ∙ ap entries_of here in
    let lower = height-inside (entries_of before) (entry_of c.in-Some.target) (entries_of behind) in
    let same = ap (λ es. targets_height (targets_from (trees_in es))) split in
    λ κs within. (
      omega (arith, lower, same),
      (
        within,
        (
          c.loop-target.invariant.merged.good,
          good-inside _ _ (entries_of before) (entry_of c.in-Some.target) (entries_of behind)
              (All-same (IsGoodEntry _ _) _ _ split c.requires.second),
        ),
      ),
    )

pub merge_targets-loop-target-preserved : goal.merge_targets-loop-target-preserved
merge_targets-loop-target-preserved g t c =
    let before = c.loop-target.yielded in
    let behind = into_iter_items c.next.new.self in
    let here = ap (λ ys. before ++ ys) (sym c.in-Some.ensures.steps.0) ∙ c.loop-target.invariant.all in
    let split = sym (map-append entry_of before (c.in-Some.target ∷ behind)) ∙ ap entries_of here in
    let good = good-inside _ _ (entries_of before) (entry_of c.in-Some.target) (entries_of behind)
    (All-same (IsGoodEntry _ _) _ _ split c.requires.second) in
    record {
      all = append_assoc before (c.in-Some.target ∷ []) behind ∙ here;
      merged = subst
          (λ es. AreMerged (constants_of c.args.params.now) (g.H.Hashes.hashed_at c.args.hashes.now) (entries_of c.args.a.items) es
          (entries_of c.add_target.new.targets.items))
          (sym (map-append entry_of before (c.in-Some.target ∷ [])))
          (merged-more _ _ _ (entries_of before) _ _ (entry_of c.in-Some.target) good c.loop-target.invariant.merged c.in_ok-add_target.ensures.ok);
      above = λ bound apart.
          subst (λ known. AreAboveUnless bound known c.add_target.new.targets.items) (sym (more-digests before c.in-Some.target))
          (c.in_ok-add_target.ensures.above bound (digests_in (entries_of before))
          (next-apart bound c.args.a.items c.args.b.items before c.in-Some.target behind c.loop-target.merged.items split apart
          (c.loop-target.invariant.above bound apart)));
    }

pub merge_targets-returns-in_err-add_target-clause-sides : goal.merge_targets-returns-in_err-add_target-clause-sides
merge_targets-returns-in_err-add_target-clause-sides g t c = λ bound apart.
    let before = c.loop-target.yielded in
    let behind = into_iter_items c.next.new.self in
    let here = ap (λ ys. before ++ ys) (sym c.in-Some.ensures.steps.0) ∙ c.loop-target.invariant.all in
    let split = sym (map-append entry_of before (c.in-Some.target ∷ behind)) ∙ ap entries_of here in
    passed-on bound _ _ c.from_residual.ensures.1
    (c.in_err-add_target.ensures.sides bound (digests_in (entries_of before))
    (next-apart bound c.args.a.items c.args.b.items before c.in-Some.target behind c.loop-target.merged.items split apart
    (c.loop-target.invariant.above bound apart)))

pub merge_in-returns-then-kind-clause-sides : goal.merge_in-returns-then-kind-clause-sides
merge_in-returns-then-kind-clause-sides g t c = λ bound apart.
    c.pair.ensures.sides bound
    (subst (λ at. bound < at) (sym c.address.ensures.is)
    (above-root bound _ apart.0 (λ e. c.if-kind-eq0.false (c.kind.ensures.is ∙ e))))
    (subst (λ at. at ≤ bound) (sym c.address-then-kind.ensures.is) (up_to-root bound _ apart.1))

pub of_one_kind-returns-in_err-x-in-Join-b-clause-sides : goal.of_one_kind-returns-in_err-x-in-Join-b-clause-sides
of_one_kind-returns-in_err-x-in-Join-b-clause-sides g t c = λ bound apart.
    let s = joins-apart bound _ _ apart _ _ _ _ _ _ (ap placed_of c.in-Join.is) (ap placed_of c.in-Join-b.is) in
    passed-on bound _ _ c.from_residual.ensures.1 (c.in_err-x-in-Join-b.ensures.sides bound s.above s.up_to s.first s.second)

pub of_one_kind-returns-in_err-x-in-Split-b-clause-sides : goal.of_one_kind-returns-in_err-x-in-Split-b-clause-sides
of_one_kind-returns-in_err-x-in-Split-b-clause-sides g t c = λ bound apart.
    let s = splits-apart bound _ _ apart _ _ _ _ _ _ (ap placed_of c.in-Split.is) (ap placed_of c.in-Split-b.is) in
    passed-on bound _ _ c.from_residual-in_err-x-in-Split-b.ensures.1 (c.in_err-x-in-Split-b.ensures.sides bound s.above s.up_to s.first s.second)

pub of_one_kind-returns-in_err-one-in-Loop-b-clause-sides : goal.of_one_kind-returns-in_err-one-in-Loop-b-clause-sides
of_one_kind-returns-in_err-one-in-Loop-b-clause-sides g t c = λ bound apart.
    let s = loops-apart bound _ _ apart _ _ _ _ (ap placed_of c.in-Loop.is) (ap placed_of c.in-Loop-b.is) in
    passed-on bound _ _ c.from_residual-in_err-one-in-Loop-b.ensures.1 (c.in_err-one-in-Loop-b.ensures.sides bound s.above s.up_to s.child)

pub of_one_kind-returns-in_err-one-in-Call-b-clause-sides : goal.of_one_kind-returns-in_err-one-in-Call-b-clause-sides
of_one_kind-returns-in_err-one-in-Call-b-clause-sides g t c = λ bound apart.
    let s = calls-apart bound _ _ apart _ _ _ _ (ap placed_of c.in-Call.is) (ap placed_of c.in-Call-b.is) in
    passed-on bound _ _ c.from_residual-in_err-one-in-Call-b.ensures.1 (c.in_err-one-in-Call-b.ensures.sides bound s.above s.up_to s.child)

pub of_one_kind-returns-in_err-one-in-Syscall-b-clause-sides : goal.of_one_kind-returns-in_err-one-in-Syscall-b-clause-sides
of_one_kind-returns-in_err-one-in-Syscall-b-clause-sides g t c = λ bound apart.
    let s = syscalls-apart bound _ _ apart _ _ _ _ (ap placed_of c.in-Syscall.is) (ap placed_of c.in-Syscall-b.is) in
    passed-on bound _ _ c.from_residual-in_err-one-in-Syscall-b.ensures.1
    (c.in_err-one-in-Syscall-b.ensures.sides bound s.above s.up_to s.child)

pub of_one_kind-returns-in_err-merge_targets-in-Dyn-b-clause-sides : goal.of_one_kind-returns-in_err-merge_targets-in-Dyn-b-clause-sides
of_one_kind-returns-in_err-merge_targets-in-Dyn-b-clause-sides g t c = λ bound apart.
    let first = ap placed_of c.in-Dyn.is ∙ placed-Dyn _ _ in
    let second = ap placed_of c.in-Dyn-b.is ∙ placed-Dyn _ _ in
    let known = found _ _ _ _ _ _ first second c.requires.mergeable in
    passed-on bound _ _ c.from_residual-in_err-merge_targets-in-Dyn-b.ensures.1
    (c.in_err-merge_targets-in-Dyn-b.ensures.sides bound (record {
      above = dyn-each (λ at. bound < at) _ _ _ first apart.0;
      up_to = dyn-each (λ at. at ≤ bound) _ _ _ second apart.1;
      distinct = dyn-distinct _ _ _ _ _ _ known;
    }))

pub two-returns-in_err-boxed-clause-sides : goal.two-returns-in_err-boxed-clause-sides
two-returns-in_err-boxed-clause-sides g t c = λ bound above up_to first second.
    passed-on bound _ _ c.from_residual.ensures.1 (c.in_err-boxed.ensures.sides bound first)

pub two-returns-in_err-boxed-2-clause-sides : goal.two-returns-in_err-boxed-2-clause-sides
two-returns-in_err-boxed-2-clause-sides g t c = λ bound above up_to first second.
    passed-on bound _ _ c.from_residual-in_err-boxed-2.ensures.1 (c.in_err-boxed-2.ensures.sides bound second)

pub one-returns-then-same_block-clause-sides : goal.one-returns-then-same_block-clause-sides
one-returns-then-same_block-clause-sides g t c = λ bound above up_to apart. c.boxed.ensures.sides bound apart

pub boxed-returns-in_err-a-clause-sides : goal.boxed-returns-in_err-a-clause-sides
boxed-returns-in_err-a-clause-sides g t c = λ bound apart.
    passed-on bound _ _ c.from_residual.ensures.1 (c.in_err-a.ensures.sides bound (
      subst (λ x. AreAbove bound (placed_of x)) (sym (c.replace-first.ensures.value ∙ c.deref_mut.ensures.value)) apart.0,
      subst (λ x. AreUpTo bound (placed_of x)) (sym c.into_inner.ensures) apart.1,
    ))

pub add_target-returns-in-None-clause-above : goal.add_target-returns-in-None-clause-above
add_target-returns-in-None-clause-above g t c = λ bound known apart.
    let targets = c.args.targets.now.items in
    OnOk-map _ _ c.push.result (λ e.
    subst (λ es. AreAboveUnless bound (known ++ c.args.target.digest ∷ []) es) (sym e)
    (All-same (IsAboveUnless bound (known ++ c.args.target.digest ∷ [])) _ _ (map-append entry_of targets (c.args.target ∷ []))
    (above-push bound known c.args.target.digest (entries_of targets) (entry_of c.args.target) refl apart.above))) c.push.ensures.ok

pub merge_at-returns-in_err-slot-clause-sides : goal.merge_at-returns-in_err-slot-clause-sides
merge_at-returns-in_err-slot-clause-sides g t c = λ bound known apart.
    let slot = c.index_mut-slot.result.now in
    let entry = ap entry_of c.index_mut-slot.ensures.value ∙ sym (get-entries c.args.targets.now.items c.args.i slot)
    ∙ at-place _ _ _ c.requires.place (entry_of slot) in
    let same = ap placed_of c.replace-first.ensures.value ∙ ap (λ (e : Entry). e.tree) entry in
    passed-on bound _ _ c.from_residual.ensures.1 (c.in_err-slot.ensures.sides bound (
      subst (AreAbove bound) (sym same) (above-place bound known _ _ _ c.requires.place apart.above apart.new),
      apart.up_to,
    ))

pub merge_at-returns-clause-above : goal.merge_at-returns-clause-above
merge_at-returns-clause-above g t c = λ bound known apart.
    let targets = c.args.targets.now.items in
    let slot = c.index_mut-slot.result.now in
    let entry = ap entry_of c.index_mut-slot.ensures.value ∙ sym (get-entries targets c.args.i slot) ∙ at-place _ _ _ c.requires.place (entry_of slot) in
    let new : Target = record { digest = slot.digest; tree = c.in_ok-slot.field-0 } in
    All-same (IsAboveUnless bound (known ++ c.args.target.digest ∷ [])) _ _ (map-set entry_of targets c.args.i new)
    (above-set bound known c.args.target.digest (entries_of targets) c.args.i (entry_of new)
    (ap (λ (e : Entry). e.digest) entry ∙ c.requires.place.noted) apart.above)

pub boxed-merge_in-requires : goal.boxed-merge_in-requires
boxed-merge_in-requires g t c =
    let first = ap placed_of (c.replace-first.ensures.value ∙ c.deref_mut.ensures.value) in
    let second = ap placed_of c.into_inner.ensures in
    let d = c.decreases in
    let e = ap (λ x. tree_height (plain x)) second in
    λ κs within. (omega (arith, e, d), (within, found _ _ _ _ _ _ (sym first) (sym second) c.requires))
