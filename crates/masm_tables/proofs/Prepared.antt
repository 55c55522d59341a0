-- What is made once, for the first body that has a dynexec.
use Rattle.masm_tables.proofs.Words.{◌≡◌, [], Option, Some, None, MatchOption, is_some, slice_get, refl, subst, true, false, List, ◌∷◌, arith, Contains}
use Rattle.masm_tables.proofs.Words.{Position, Body, dynexecs_of, Prepares, had, unasked, made}

some_first : (xs : List Position) → is_some (slice_get xs 0) ≡ true → (at : Position) × Contains xs at
some_first [] some = cc
some_first (at ∷ xs) some = (at, (0, omega arith, refl))

none_first : (xs : List Position) → is_some (slice_get xs 0) ≡ false → xs ≡ []
none_first [] none = refl
none_first (at ∷ xs) none = cc

module _ {X : Type 0} (Is : X → Type 0) (b : Body) where
  pub prepares_kept : (old : Option X) → is_some old ≡ true → Prepares Is b old old
  prepares_kept None some = cc
  prepares_kept (Some x) some = had x

  pub prepares_none : (old : Option X) → is_some old ≡ false → is_some (slice_get (dynexecs_of b) 0) ≡ false → Prepares Is b old old
  prepares_none None isnt none = unasked (none_first (dynexecs_of b) none)
  prepares_none (Some x) isnt none = cc

  pub prepares_made : (old : Option X) (new : X) → is_some old ≡ false → is_some (slice_get (dynexecs_of b) 0) ≡ true → Is new
      → Prepares Is b old (Some new)
  prepares_made None new isnt some is = let first = some_first (dynexecs_of b) some in made first.0 new first.1 is
  prepares_made (Some x) new isnt some is = cc

  module _ (Good : X → Type 0) where
    -- what is made is good, where it is when the body has a dynexec
    pub prepared : {old new : Option X} → Prepares Is b old new → MatchOption old (Unit {0}) Good
        → ((at : Position) → Contains (dynexecs_of b) at → (x : X) → Is x → Good x) → MatchOption new (Unit {0}) Good
    prepared (had x) good when = good
    prepared (unasked none) good when = tt
    prepared (made at x has is) good when = when at has x is

    -- where the body has one it is made
    pub asked : {old new : Option X} → Prepares Is b old new → MatchOption new (Unit {0}) Good
        → (at : Position) → Contains (dynexecs_of b) at → (x : X) × (new ≡ Some x) × Good x
    asked (had x) good at has = (x, refl, good)
    asked (unasked none) good at has = absurd (let here = subst (λ xs. Contains xs at) none has in omega (arith, here.1))
    asked (made at' x has' is) good at has = (x, refl, good)
