-- Readings up to NOOPs.
use Rattle.std.proofs.Common.{◌≡◌, Bool, true, false, List, ◌∷◌, ◌++◌, Option, Some, refl, ap}
use Rattle.op_pack.specs.Reading.{before}
use Rattle.op_pack.specs.RoundTrip.{is_noop, without_noops}
use Rattle.vm_ops.specs.declared.item.Item.{Item}
use Rattle.vm_ops.specs.declared.op.Op.TheVariants.{Noop}
use Rattle.vm_ops.specs.Items.{plain_item}

-- What was read and the operations that open the next batch are these operations, up to NOOPs.
pub record ReadsItems (reading : Option (List Item)) (rest items : List Item) : Type 0 where
  pub read : List Item
  pub is : reading ≡ Some read
  pub same : without_noops read ++ without_noops rest ≡ without_noops items

pub kept : (item : Item) (items : List Item) → is_noop item ≡ false → without_noops (item ∷ items) ≡ item ∷ without_noops items
kept item items e = rw e refl

pub skipped : (item : Item) (items : List Item) → is_noop item ≡ true → without_noops (item ∷ items) ≡ without_noops items
skipped item items e = rw e refl

without_noops-next : (item : Item) (read rest items : List Item) → without_noops read ++ without_noops rest ≡ without_noops items
    → without_noops (item ∷ read) ++ without_noops rest ≡ without_noops (item ∷ items)
without_noops-next item read rest items e = go (is_noop item) refl
  where
    go : (noop : Bool) → is_noop item ≡ noop → without_noops (item ∷ read) ++ without_noops rest ≡ without_noops (item ∷ items)
    go true h = rw (skipped item read h, skipped item items h) e
    go false h = rw (kept item read h, kept item items h) (ap (λ later. item ∷ later) e)

module _ {o : Option (List Item)} {rest items : List Item} where
  pub reads-along : {q : Option (List Item)} → o ≡ q → ReadsItems q rest items → ReadsItems o rest items
  reads-along e h = rw e h

  pub reads-before : (item : Item) → ReadsItems o rest items → ReadsItems (before item o) rest (item ∷ items)
  reads-before item h = record {
    read = item ∷ h.read;
    is = ap (λ q. before item q) h.is;
    same = without_noops-next item h.read rest items h.same;
  }

  pub reads-noop : ReadsItems o rest items → ReadsItems (before (plain_item Noop) o) rest items
  reads-noop h = record { read = plain_item Noop ∷ h.read; is = ap (λ q. before (plain_item Noop) q) h.is; same = h.same }

  pub reads-skip : (item : Item) → is_noop item ≡ true → ReadsItems o rest items → ReadsItems o rest (item ∷ items)
  reads-skip item e h = record { read = h.read; is = h.is; same = rw (skipped item items e) h.same }
