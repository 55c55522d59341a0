use Rattle.masm_uses.proofs.Words.{◌≡◌, ℕ, length, true, false, get_or, reverse, rows_of, All, Builds, EndsInGraph, IsHeldFor, keeps_list, ended_lists}
use Rattle.masm_uses.proofs.Words.{makes_digest, no_ends}
use Rattle.masm_uses.proofs.PlanLemmas.{Seen}
use Rattle.masm_uses.proofs.planning.steps_of.Given as goal

abbrev pub invariant-loop-k : goal.invariant-loop-k
invariant-loop-k l = record {
  lists :
      Builds keeps_list ended_lists (IsHeldFor (rows_of l.lists) l.fn.needed.lists.items l.order) (length (rows_of l.lists))
      (λ place. get_or l.fn.needed.lists.items place false ≡ true)
      (Seen l.needs.lists.items l.order l.k) (reverse l.steps.items);
  digests :
      Builds makes_digest no_ends (IsHeldFor (rows_of l.digests) l.fn.needed.digests.items l.order) (length (rows_of l.digests))
      (λ place. get_or l.fn.needed.digests.items place false ≡ true)
      (Seen l.needs.digests.items l.order l.k) (reverse l.steps.items);
  lists_kept : (place : ℕ) → get_or l.fn.needed.lists.items place false ≡ true → get_or l.needs.lists.items place false ≡ true;
  digests_kept : (place : ℕ) → get_or l.fn.needed.digests.items place false ≡ true → get_or l.needs.digests.items place false ≡ true;
  lists_count : length l.needs.lists.items ≡ length l.lists;
  digests_count : length l.needs.digests.items ≡ length l.digests;
  ended : All (EndsInGraph (rows_of l.lists)) l.steps.items;
}
