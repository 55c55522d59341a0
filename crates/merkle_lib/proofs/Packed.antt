-- The operations of a walk can be packed, none of them is a NOOP, and none sees the clock.
use Rattle.std.proofs.Common.{◌≡◌, ◌≢◌, ℕ, zero, suc, Bool, true, false, not, List, [], ◌∷◌, ◌++◌, refl}
use Rattle.std.specs.List.{All, list_all}
use Rattle.std.proofs.lemmas.Bool.{and_parts}
use Rattle.std.proofs.lemmas.List.Elements.{All-append, All-nil, filter-append}
use Rattle.vm_ops.specs.declared.item.Item.{Item}
use Rattle.vm_ops.specs.Items.{IsPackableItem}
use Rattle.op_pack.specs.Packing.{IsPackable}
use Rattle.op_pack.specs.RoundTrip.{is_noop, without_noops}
use Rattle.masm_instr.specs.declared.name.Name.TheVariants as names
use Rattle.masm_expand.specs.Expansion.{expansion, front}
use Rattle.masm_expand.proofs.Packing.{expansions_are_packable}
use Rattle.merkle_lib.specs.Programs.{last_items, level_items, levels, walk_items}
use Rattle.merkle_lib.proofs.Clocks.{AreUnclocked, is_clocked}

level-packs : All IsPackableItem level_items
unfolding level_items
level-packs =
    All-append IsPackableItem _ _
    (All-append IsPackableItem _ _
    (All-append IsPackableItem _ _
    (All-append IsPackableItem _ _ (expansions_are_packable names.Padw [] 0 refl (λ e. cc)).each
    (expansions_are_packable names.AdvLoadw [] 0 refl (λ e. cc)).each)
    (expansions_are_packable names.AdvPush (1 ∷ []) 0 refl (λ e. cc)).each)
    (expansions_are_packable names.Cswapw [] 0 refl (λ e. cc)).each)
    (expansions_are_packable names.Hmerge [] 0 refl (λ e. cc)).each

last-packs : All IsPackableItem last_items
unfolding last_items
last-packs = (expansions_are_packable names.AssertEqw [] 0 refl (λ e. cc)).each

levels-pack : (depth : ℕ) → All IsPackableItem (levels depth)
levels-pack zero = All-nil IsPackableItem
levels-pack (suc n) = All-append IsPackableItem level_items (levels n) level-packs (levels-pack n)

walk-some : (depth : ℕ) → walk_items depth ≢ []
unfolding level_items last_items expansion front
walk-some zero e = cc
walk-some (suc n) e = cc

pub walk-packs : (depth : ℕ) → IsPackable (walk_items depth)
walk-packs depth = record { some = walk-some depth; each = All-append IsPackableItem (levels depth) last_items (levels-pack depth) last-packs }

kept-level : without_noops level_items ≡ level_items
unfolding level_items expansion front
kept-level = refl

kept-last : without_noops last_items ≡ last_items
unfolding last_items expansion front
kept-last = refl

kept-both : (xs ys : List Item) → without_noops xs ≡ xs → without_noops ys ≡ ys → without_noops (xs ++ ys) ≡ xs ++ ys
kept-both xs ys e f = rw (filter-append (λ item. not (is_noop item)) xs ys, e, f) refl

kept-levels : (depth : ℕ) → without_noops (levels depth) ≡ levels depth
kept-levels zero = refl
kept-levels (suc n) = kept-both level_items (levels n) kept-level (kept-levels n)

pub kept-walk : (depth : ℕ) → without_noops (walk_items depth) ≡ walk_items depth
kept-walk depth = kept-both (levels depth) last_items (kept-levels depth) kept-last

free-of : (items : List Item) → list_all (λ item. not (is_clocked item.op)) items ≡ true → AreUnclocked items
free-of [] e = tt
free-of (item ∷ items) e =
    let two = and_parts (not (is_clocked item.op)) (list_all (λ x. not (is_clocked x.op)) items) e in
    (not-true (is_clocked item.op) two.0, free-of items two.1)
  where
    not-true : (b : Bool) → not b ≡ true → b ≡ false
    not-true true h = cc
    not-true false h = refl

free-level : AreUnclocked level_items
unfolding level_items expansion front
free-level = free-of level_items refl

free-last : AreUnclocked last_items
unfolding last_items expansion front
free-last = free-of last_items refl

free-both : (xs ys : List Item) → AreUnclocked xs → AreUnclocked ys → AreUnclocked (xs ++ ys)
free-both [] ys h k = k
free-both (x ∷ xs) ys h k = (h.0, free-both xs ys h.1 k)

free-levels : (depth : ℕ) → AreUnclocked (levels depth)
free-levels zero = tt
free-levels (suc n) = free-both level_items (levels n) free-level (free-levels n)

pub free-walk : (depth : ℕ) → AreUnclocked (walk_items depth)
free-walk depth = free-both (levels depth) last_items (free-levels depth) free-last
