-- What a function gives of numbers one behind another: such lists joined, their members, and the first of them; and lists of which only the
-- first ones are kept.
use Rattle.std.proofs.Common.{◌≡◌, ℕ, zero, suc, ◌+◌, ◌-◌, ◌<◌, ◌≤◌, min, List, [], ◌∷◌, ◌++◌, length, slice_get, slice_index_or, take, Option, Some, None, refl, sym, ap, subst, ◌∙◌, arith, inl, inr, ◌⊎◌}
use Rattle.std.specs.List.{Contains, cons_option, filter_map, flat_map, range_with_len}
use Rattle.std.specs.Option.{option_or, option_to_list}
use Rattle.std.proofs.lemmas.Bool.{cases_lt}
use Rattle.std.proofs.lemmas.List.{append-nil, append_assoc, length-append, length-take}
use Rattle.std.proofs.lemmas.List.Elements.{Contains-append_cases, Contains-append_left, Contains-append_right, filter_map-append}

-- what is given of so many numbers, from a on
abbrev pub given : {X : Type 0} → (ℕ → Option X) → ℕ → ℕ → List X
given h a n = filter_map h (range_with_len a n)

-- one of these was given of one of these numbers
pub record IsGiven {X : Type 0} (h : ℕ → Option X) (a n : ℕ) (x : X) : Type 0 where
  pub place : ℕ
  pub from : a ≤ place
  pub to : place < a + n
  pub made : h place ≡ Some x

-- the first of them was given of the first number of which any is
pub record IsFirstGiven {X : Type 0} (h : ℕ → Option X) (a n : ℕ) (x : X) : Type 0 where
  pub place : ℕ
  pub from : a ≤ place
  pub to : place < a + n
  pub made : h place ≡ Some x
  pub earlier : (i : ℕ) → a ≤ i → i < place → h i ≡ None

abbrev pub IsFirstOf : {X : Type 0} → (ℕ → Option X) → ℕ → ℕ → Option X → Type 0
IsFirstOf h a n None = (i : ℕ) → a ≤ i → i < a + n → h i ≡ None
IsFirstOf h a n (Some x) = IsFirstGiven h a n x

module _ {X : Type 0} where
  at_cons : (y : X) (ys : List X) (x : X) (k : ℕ) → k < length (y ∷ ys) → slice_index_or (y ∷ ys) k x ≡ x → (y ≡ x) ⊎ Contains ys x
  at_cons y ys x zero within is = inl is
  at_cons y ys x (suc k) within is = inr (k, omega (arith, within), is)

  -- a member is the first one or one of the others
  pub member_cases : (y : X) (ys : List X) (x : X) → Contains (y ∷ ys) x → (y ≡ x) ⊎ Contains ys x
  member_cases y ys x has = at_cons y ys x has.0 has.1 has.2

  pub member_first : (y : X) (ys : List X) (x : X) → y ≡ x → Contains (y ∷ ys) x
  member_first y ys x same = (0, omega arith, same)

  -- the first of two lists one behind the other
  pub first_of_two : (xs ys : List X) → slice_get (xs ++ ys) 0 ≡ option_or (slice_get xs 0) (slice_get ys 0)
  first_of_two [] ys = refl
  first_of_two (x ∷ xs) ys = refl

  pub empty_list : (xs : List X) → slice_get xs 0 ≡ None → xs ≡ []
  empty_list [] none = refl
  empty_list (x ∷ xs) none = absurd (cc)

  pub first_taken : (most : ℕ) (xs : List X) → 0 < most → slice_get (take most xs) 0 ≡ slice_get xs 0
  first_taken zero xs some = absurd (omega (arith, some))
  first_taken (suc most) [] some = refl
  first_taken (suc most) (x ∷ xs) some = refl

  pub take_none : (n : ℕ) → take {A = X} n [] ≡ []
  take_none zero = refl
  take_none (suc n) = refl

  take_two : (m : ℕ) (xs ys : List X) → take m (xs ++ ys) ≡ take m xs ++ take (m - length xs) ys
  take_two zero xs ys = let e : 0 - length xs ≡ 0 = omega arith in ap (λ k. take k ys) (sym e)
  take_two (suc m) [] ys = let e : suc m - 0 ≡ suc m = omega arith in ap (λ k. take k ys) (sym e)
  take_two (suc m) (x ∷ xs) ys =
      let e : suc m - suc (length xs) ≡ m - length xs = omega arith in
      ap (λ l. x ∷ l) (take_two m xs ys) ∙ ap (λ k. x ∷ take m xs ++ take k ys) (sym e)

  -- nothing more is kept of an empty list
  pub none_kept : (most : ℕ) (kept more : List X) → more ≡ [] → kept ≡ kept ++ take (most - length kept) more
  none_kept most kept more none =
      sym (ap (λ l. kept ++ take (most - length kept) l) none ∙ ap (λ l. kept ++ l) (take_none (most - length kept)) ∙ append-nil kept)

  -- the same of what may be one item, and where it is one for which there is room
  pub kept_none : (most : ℕ) (kept : List X) (o : Option X) → o ≡ None → kept ≡ kept ++ take (most - length kept) (option_to_list o)
  kept_none most kept o none =
      none_kept most kept (option_to_list o) (ap option_to_list none)

  pub kept_one : (most : ℕ) (kept : List X) (o : Option X) (x : X) → o ≡ Some x → length kept < most
      → kept ++ x ∷ [] ≡ kept ++ take (most - length kept) (option_to_list o)
  kept_one most kept o x some room =
      let e : most - length kept ≡ suc (most - length kept - 1) = omega (arith, room) in
      sym (ap (λ l. kept ++ take (most - length kept) (option_to_list l)) some ∙ ap (λ k. kept ++ take k (x ∷ [])) e
      ∙ ap (λ l. kept ++ x ∷ l) (take_none (most - length kept - 1)))

  -- where nothing was kept before
  pub kept_of_none : (most : ℕ) (xs : List X) → [] ++ take (most - 0) xs ≡ take most xs
  kept_of_none most xs = let e : most - 0 ≡ most = omega arith in ap (λ k. take k xs) e

  -- two lists one behind the other
  pub kept_two : (most : ℕ) (kept now longer xs ys : List X) → now ≡ kept ++ take (most - length kept) xs → longer ≡ now ++ take (most - length now) ys
      → longer ≡ kept ++ take (most - length kept) (xs ++ ys)
  kept_two most kept now longer xs ys is more =
      let room = most - length kept in
      let len : length now ≡ length kept + min room (length xs) =
      ap length is ∙ length-append kept (take room xs) ∙ ap (λ k. length kept + k) (length-take room xs) in
      let left : most - length now ≡ room - length xs = omega (arith, len) in
      more ∙ ap (λ k. now ++ take k ys) left ∙ ap (λ l. l ++ take (room - length xs) ys) is
      ∙ append_assoc kept (take room xs) (take (room - length xs) ys) ∙ ap (λ l. kept ++ l) (sym (take_two room xs ys))

  pub few_given : (o : Option X) → length (option_to_list o) ≤ 1
  few_given None = omega arith
  few_given (Some x) = omega arith

module _ {X : Type 0} (h : ℕ → Option X) where
  range_joined : (a m n : ℕ) → range_with_len a m ++ range_with_len (a + m) n ≡ range_with_len a (m + n)
  range_joined a zero n =
      let e : a + 0 ≡ a = omega arith in
      let all : n ≡ 0 + n = omega arith in
      ap (λ k. range_with_len k n) e ∙ ap (range_with_len a) all
  range_joined a (suc m) n =
      let e : a + suc m ≡ a + 1 + m = omega arith in
      let all : suc (m + n) ≡ suc m + n = omega arith in
      ap (λ k. a ∷ range_with_len (a + 1) m ++ range_with_len k n) e ∙ ap (λ l. a ∷ l) (range_joined (a + 1) m n) ∙ ap (range_with_len a) all

  pub given_joined : (a m n : ℕ) → given h a m ++ given h (a + m) n ≡ given h a (m + n)
  given_joined a m n =
      sym (filter_map-append h (range_with_len a m) (range_with_len (a + m) n)) ∙ ap (filter_map h) (range_joined a m n)

  one_given : (o : Option X) → cons_option o [] ≡ option_to_list o
  one_given None = refl
  one_given (Some x) = refl

  pub given_next : (n : ℕ) → given h 0 (n + 1) ≡ given h 0 n ++ option_to_list (h n)
  given_next n =
      let e : 0 + n ≡ n = omega arith in
      sym (given_joined 0 n 1) ∙ ap (λ k. given h 0 n ++ given h k 1) e ∙ ap (λ l. given h 0 n ++ l) (one_given (h n))

  -- members, both ways
  later_given : (a n : ℕ) (x : X) → IsGiven h (a + 1) n x → IsGiven h a (suc n) x
  later_given a n x later = record {
    place = later.place;
    from = let k = later.from in omega (arith, k);
    to = let k = later.to in omega (arith, k);
    made = later.made;
  }

  given_or_later : (a n : ℕ) (x : X) (o : Option X) → h a ≡ o → (Contains (given h (a + 1) n) x → IsGiven h (a + 1) n x)
      → Contains (cons_option o (given h (a + 1) n)) x → IsGiven h a (suc n) x
  given_or_later a n x None none rest has = later_given a n x (rest has)
  given_or_later a n x (Some y) some rest has = elim (member_cases y (given h (a + 1) n) x has) [
    | inl same ↦ record { place = a; from = omega arith; to = omega arith; made = some ∙ ap Some same }
    | inr behind ↦ later_given a n x (rest behind)
  ]

  pub given_of : (a n : ℕ) (x : X) → Contains (given h a n) x → IsGiven h a n x
  given_of a zero x has = absurd (let none = has.1 in omega (arith, none))
  given_of a (suc n) x has = given_or_later a n x (h a) refl (given_of (a + 1) n x) has

  here_or_later : (a n i : ℕ) (x : X) (o : Option X) → h a ≡ o → a ≤ i → h i ≡ Some x → (a + 1 ≤ i → Contains (given h (a + 1) n) x)
      → Contains (cons_option o (given h (a + 1) n)) x
  here_or_later a n i x None none from made rest = elim (cases_lt a i) [
    | inl above ↦ rest (omega (arith, above))
    | inr low ↦ absurd (let same : i ≡ a = omega (arith, from, low) in let apart : None ≡ Some x = sym none ∙ ap h (sym same) ∙ made in cc)
  ]
  here_or_later a n i x (Some y) some from made rest = elim (cases_lt a i) [
    | inl above ↦ Contains-append_right (y ∷ []) (given h (a + 1) n) x (rest (omega (arith, above)))
    | inr low ↦
        let same : i ≡ a = omega (arith, from, low) in
        let both : Some y ≡ Some x = sym some ∙ ap h (sym same) ∙ made in
        member_first y (given h (a + 1) n) x (cc)
  ]

  pub is_given : (a n i : ℕ) (x : X) → a ≤ i → i < a + n → h i ≡ Some x → Contains (given h a n) x
  is_given a zero i x from to made = absurd (omega (arith, from, to))
  is_given a (suc n) i x from to made =
      here_or_later a n i x (h a) refl from made (λ above. is_given (a + 1) n i x above (omega (arith, to)) made)

  -- the first one
  none_here : (a i : ℕ) → h a ≡ None → a ≤ i → (a + 1 ≤ i → h i ≡ None) → h i ≡ None
  none_here a i none from later = elim (cases_lt a i) [
    | inl above ↦ later (omega (arith, above))
    | inr low ↦ let same : i ≡ a = omega (arith, from, low) in ap h same ∙ none
  ]

  first_or_later : (a n : ℕ) (o r : Option X) → h a ≡ o → (slice_get (given h (a + 1) n) 0 ≡ r → IsFirstOf h (a + 1) n r)
      → slice_get (cons_option o (given h (a + 1) n)) 0 ≡ r → IsFirstOf h a (suc n) r
  first_or_later a n None None none rest e = λ i from to. none_here a i none from (λ above. rest e i above (omega (arith, to)))
  first_or_later a n None (Some x) none rest e =
      let later = rest e in
      record {
        place = later.place;
        from = let k = later.from in omega (arith, k);
        to = let k = later.to in omega (arith, k);
        made = later.made;
        earlier = λ i from to. none_here a i none from (λ above. later.earlier i above to);
      }
  first_or_later a n (Some y) None some rest e = absurd (cc)
  first_or_later a n (Some y) (Some x) some rest e = record {
    place = a;
    from = omega arith;
    to = omega arith;
    made = some ∙ e;
    earlier = λ i from to. absurd (omega (arith, from, to));
  }

  pub first_given : (a n : ℕ) (r : Option X) → slice_get (given h a n) 0 ≡ r → IsFirstOf h a n r
  first_given a zero None e = λ i from to. absurd (omega (arith, from, to))
  first_given a zero (Some x) e = absurd (cc)
  first_given a (suc n) r e = first_or_later a n (h a) r refl (first_given (a + 1) n r) e

-- lists of parts one behind another
module _ {X A : Type 0} (f : X → List A) where
  pub member_of_part : (xs : List X) (a : A) → Contains (flat_map f xs) a → (x : X) × Contains (f x) a
  member_of_part [] a has = absurd (let none = has.1 in omega (arith, none))
  member_of_part (x ∷ xs) a has = elim (Contains-append_cases (f x) (flat_map f xs) a has) [ inl here ↦ (x, here) | inr behind ↦ member_of_part xs a behind ]

  pub part_member : (xs : List X) (x : X) (a : A) → Contains xs x → Contains (f x) a → Contains (flat_map f xs) a
  part_member [] x a at has = absurd (let none = at.1 in omega (arith, none))
  part_member (y ∷ xs) x a at has = elim (member_cases y xs x at) [
    | inl same ↦ Contains-append_left (f y) (flat_map f xs) a (subst (λ z. Contains (f z) a) (sym same) has)
    | inr behind ↦ Contains-append_right (f y) (flat_map f xs) a (part_member xs x a behind has)
  ]
