-- No word stands twice among none, and none among one.
use Rattle.std.proofs.Common.{◌≡◌, ℕ, List, [], ◌∷◌, Result, Ok, Err, IfOk, nat_eq}
use Rattle.std.specs.List.{IsDistinct}
use lib.Pointwise.{pointwise}
use Rattle.test_check.proofs.making.kernel_of.Goals as goal

one_is_distinct : {E : Type 0} (r : Result (List (List ℕ)) E) (word : List ℕ) → IfOk r (λ words. words ≡ word ∷ [])
    → IfOk r (IsDistinct (pointwise nat_eq))
unfolding IsDistinct
one_is_distinct (Ok words) word is = rw is (tt, tt)
one_is_distinct (Err e) word is = is

pub returns-then-has_kernel-clause-distinct : goal.returns-then-has_kernel-clause-distinct
returns-then-has_kernel-clause-distinct c = one_is_distinct c.copied.result _ c.copied.ensures.items

pub returns-else-has_kernel-clause-distinct : goal.returns-else-has_kernel-clause-distinct
unfolding IsDistinct
returns-else-has_kernel-clause-distinct c = rw c.new.ensures.empty tt
