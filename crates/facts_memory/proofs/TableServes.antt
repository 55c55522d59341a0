-- A table whose entries are 0 serves the accesses that it gives.
use Rattle.facts_memory.proofs.Words.{◌≡◌, ℕ, ◌<◌, ◌^◌, List, length, Option, inl, inr, sym, ap, subst, arith, cases_order, Access, Keeps, access_key}
use Rattle.facts_memory.proofs.Words.{AreOrdered, HaveLimbs, MemoryIsZero, access_at, AreAsks, ArePaired, AreServed, AreAsked, GivesAsks}
use Rattle.facts_memory.proofs.Asked.{are_asked, rows_small}
use Rattle.facts_memory.proofs.InOrder.{keep_latest}
use Rattle.facts_memory.proofs.Keys.{rise}
use Rattle.facts_memory.proofs.Latest.{KeepLatest, memory_latest}
use Rattle.facts_memory.proofs.ZerosOrder.{zeros_are_ordered}

-- rows that show the same access are one
same_row : (rows : List (List ℕ)) → AreOrdered rows → (q r : ℕ) → q < length rows → r < length rows → access_at rows q ≡ access_at rows r → q ≡ r
same_row rows o q r hq hr same = elim (cases_order q r) [
  | inl is ↦ is
  | inr (inl less) ↦ absurd (let up = rises q r less hr in let e = ap access_key same in omega (arith, up, e))
  | inr (inr more) ↦ absurd (let up = rises r q more hq in let e = ap access_key same in omega (arith, up, e))
]
  where
    rises : (i j : ℕ) → i < j → j < length rows → access_key (access_at rows i) < access_key (access_at rows j)
    rises = rise (λ k. access_key (access_at rows k)) (length rows) o.grows

module _ (asks : ℕ → Option Access) (m : ℕ) (rows : List (List ℕ)) (are : AreAsks asks m) (z : MemoryIsZero rows) (limbs : HaveLimbs rows)
    (gives : GivesAsks asks m rows) where
  ordered : AreOrdered rows
  ordered = zeros_are_ordered rows z limbs (rows_small asks m rows gives are)

  asked : AreAsked asks m rows
  asked = are_asked asks m rows gives are

  keep : KeepLatest asks m
  keep = keep_latest asks m rows (record { ordered = ordered; small = rows_small asks m rows gives are; asked = asked; clocks = are.clocks })

  pub serves : AreServed asks m
  serves = record {
    keeps = λ i a h is. subst (Keeps a) (sym (memory_latest asks m keep i (omega (arith, h)) a.ctx a.addr)) (keep i a h is);
    addresses = λ i a h is. (let row = asked.asked i a h is in subst (λ b. b.addr < 2 ^ 32) row.shows (ordered.addresses row.at row.within));
  }

  pub pairs : ArePaired asks m rows
  pairs = record { asked = asked; once = same_row rows ordered }
