-- The reader of one word at a time, against the parts that words spell.
use Rattle.std.proofs.Common.{◌≡◌, ◌∙◌, ◌+◌, ℕ, suc, Bool, cond, true, false, refl, sym, ap, subst, List, [], ◌∷◌, Option, Some, None, ◌≤◌, take, drop, true≢false, arith}
use Rattle.std.specs.Prelude.{not, nat_lt, length, ◌||◌, ◌==◌, if◌then◌else◌}
use Rattle.std.specs.List.{before_first, after_first, position_or_len}
use Rattle.std.proofs.lemmas.Bool.Decides.{nat_tests}
use Rattle.std.proofs.lemmas.List.{take_all}
use Rattle.std.proofs.lemmas.Bool.{eqb-true}
use Rattle.clap.specs.Lexer.{has_byte, name_and_value}
use Rattle.clap.specs.Words.{Text}
use Rattle.cmd_reading.specs.Form.{WordForm, dashed, options_of}
use Rattle.cmd_reading.proofs.OneByOne.{Use, in_place, clap_flag, option_read, plus, read, read_places}
use Rattle.cmd_reading.proofs.FormUses.{clap_form, place_from}
use Rattle.cmd_reading.proofs.PartUses.{AllPlain, named, plus-is, uses_from}
use Rattle.cmd_words.specs.Words.{CommandPart, given, anything, positionals, value_comes, sign_in, option_part, mode_behind_option, parts_from, with_part}

-- ---- what the one reads is what the other is, and the other way round where no text looks like an option

pub record Close (o p : Option (List Use)) : Type 0 where
  pub below : (us : List Use) → o ≡ Some us → p ≡ Some us
  pub above : (us : List Use) → p ≡ Some us → AllPlain us → o ≡ Some us

close-same : (o : Option (List Use)) → Close o o
close-same o = record { below = λ us e. e; above = λ us e plain. e }

close-none : (p : Option (List Use)) → ((us : List Use) → p ≡ Some us → AllPlain us → ⊥) → Close None p
close-none p h = record { below = λ us e. absurd (cc); above = λ us e plain. absurd (h us e plain) }

close-plus : (id v : Text) (o p : Option (List Use)) → Close o p → Close (plus id v o) (plus id v p)
close-plus id v o p c = record {
  below = λ us e. let r = plus-is id v o us e in ap (plus id v) (c.below r.0 r.1) ∙ ap Some r.2;
  above = λ us e plain.
      let r = plus-is id v p us e in
      ap (plus id v) (c.above r.0 r.1 (subst AllPlain (sym r.2) plain).1) ∙ ap Some r.2;
}

-- a text that looks like an option is not plain
close-flag : (id v : Text) (p : Option (List Use)) → clap_flag v ≡ true → Close None (plus id v p)
close-flag id v p flag = close-none (plus id v p) (λ us e plain.
    let r = plus-is id v p us e in
    true≢false (sym flag ∙ (subst AllPlain (sym r.2) plain).0))

close-place : (o : Option Text) (v : Text) (p q : Option (List Use)) → Close p q → Close (in_place o v p) (in_place o v q)
close-place None v p q c = close-same None
close-place (Some id) v p q c = close-plus id v p q c

close-place_flag : (o : Option Text) (v : Text) (q : Option (List Use)) → clap_flag v ≡ true → Close None (in_place o v q)
close-place_flag None v q flag = close-same None
close-place_flag (Some id) v q flag = close-flag id v q flag

-- ---- the first `=`

abbrev is_sign : ℕ → Bool
is_sign x = x == 61

lt-suc : (a b : ℕ) → nat_lt (1 + a) (suc b) ≡ nat_lt a b
lt-suc a b = grind (arith, nat_tests)

has-sign : (xs : Text) → nat_lt (position_or_len is_sign xs) (length xs) ≡ has_byte 61 xs
has-sign [] = refl
has-sign (x ∷ xs) = go (x == 61) refl (has-sign xs)
  where
    go : (b : Bool) → (x == 61) ≡ b → nat_lt (position_or_len is_sign xs) (length xs) ≡ has_byte 61 xs
        → nat_lt (cond (not b) (1 + position_or_len is_sign xs) 0) (suc (length xs)) ≡ (b || has_byte 61 xs)
    go true e h = grind (arith, nat_tests)
    go false e h = lt-suc (position_or_len is_sign xs) (length xs) ∙ h

take-two : (a b : ℕ) (n : ℕ) (xs : Text) → take (1 + (1 + n)) (a ∷ b ∷ xs) ≡ a ∷ b ∷ take n xs
take-two a b n xs = ap (λ k. take k (a ∷ b ∷ xs)) (two n)
  where
    two : (n : ℕ) → 1 + (1 + n) ≡ suc (suc n)
    two n = omega arith

drop-two : (a b : ℕ) (n : ℕ) (xs : Text) → drop (1 + (1 + n) + 1) (a ∷ b ∷ xs) ≡ drop (n + 1) xs
drop-two a b n xs = ap (λ k. drop k (a ∷ b ∷ xs)) (two n)
  where
    two : (n : ℕ) → 1 + (1 + n) + 1 ≡ suc (suc (n + 1))
    two n = omega arith

whole-name : (xs : Text) → has_byte 61 xs ≡ false → before_first is_sign xs ≡ xs
whole-name xs e = take_all (position_or_len is_sign xs) xs (past (has-sign xs ∙ e))
  where
    past : nat_lt (position_or_len is_sign xs) (length xs) ≡ false → length xs ≤ position_or_len is_sign xs
    past h = grind (arith, nat_tests)

-- the place of the sign behind two dashes
sign-behind : (rest : Text) → sign_in (45 ∷ 45 ∷ rest) ≡ cond (has_byte 61 rest) (Some (1 + (1 + position_or_len is_sign rest))) None
sign-behind rest =
    ap (λ b. cond b (Some (1 + (1 + position_or_len is_sign rest))) None)
    (lt-suc (1 + position_or_len is_sign rest) (suc (length rest)) ∙ lt-suc (position_or_len is_sign rest) (length rest) ∙ has-sign rest)

-- ---- words

module _ (f : WordForm) where
  abbrev Reads : ℕ → List Text → Type 0
  Reads k words = Close (read (clap_form f) None k words) (uses_from f k (parts_from anything words))

  abbrev Awaits : Text → Text → ℕ → List Text → Type 0
  Awaits id name k words = Close (read (clap_form f) (Some id) k words) (uses_from f k (parts_from (value_comes name) words))

  pub places-read : (k : ℕ) (words : List Text) → read_places (clap_form f) k words ≡ uses_from f k (parts_from positionals words)
  unfolding read_places parts_from
  places-read k [] = refl
  places-read k (word ∷ rest) = ap (in_place (place_from 1 f.places k) word) (places-read (suc k) rest)

  -- an option of no known name
  unknown : (name : Text) (k : ℕ) (words : List Text) → named (options_of f) name ≡ None → uses_from f k (parts_from (value_comes name) words) ≡ None
  unfolding parts_from
  unknown name k [] e = refl
  unknown name k (word ∷ rest) e = ap (λ o. in_place o word (uses_from f k (parts_from anything rest))) e

  module _ (k : ℕ) (rest : List Text) (same : Reads k rest)
      (value : (id name : Text) → named (options_of f) name ≡ Some id → Awaits id name k rest) where
    -- behind the name x, with its value or without
    abbrev Option-is : Text → Option Text → List CommandPart → Type 0
    Option-is x v parts = Close
        (option_read ((clap_form f).option x) v (read (clap_form f) None k rest) (λ id. read (clap_form f) (Some id) k rest)) (uses_from f k parts)

    with-value : (x v : Text) → Option-is x (Some v) (given (dashed x) v ∷ parts_from anything rest)
    with-value x v = go (named (options_of f) (dashed x))
      where
        go : (o : Option Text) → Close (option_read o (Some v) (read (clap_form f) None k rest) (λ id. read (clap_form f) (Some id) k rest))
            (in_place o v (uses_from f k (parts_from anything rest)))
        go None = close-same None
        go (Some id) = close-plus id v _ _ same

    without-value : (x : Text) → Option-is x None (parts_from (value_comes (dashed x)) rest)
    without-value x = go (named (options_of f) (dashed x)) refl
      where
        go : (o : Option Text) → named (options_of f) (dashed x) ≡ o
            → Close (option_read o None (read (clap_form f) None k rest) (λ id. read (clap_form f) (Some id) k rest))
            (uses_from f k (parts_from (value_comes (dashed x)) rest))
        go None e = subst (Close None) (sym (unknown (dashed x) k rest e)) (close-same None)
        go (Some id) e = value id (dashed x) e

    option-step : (y : ℕ) (ys : Text)
        → Option-is (name_and_value (y ∷ ys)).0 (name_and_value (y ∷ ys)).1
        (with_part (option_part (dashed (y ∷ ys)) (sign_in (dashed (y ∷ ys))))
        (parts_from (mode_behind_option (dashed (y ∷ ys)) (sign_in (dashed (y ∷ ys)))) rest))
    option-step y ys = go (y ∷ ys) (has_byte 61 (y ∷ ys)) refl
      where
        go : (xs : Text) (b : Bool) → has_byte 61 xs ≡ b
            → Option-is (name_and_value xs).0 (name_and_value xs).1
            (with_part (option_part (dashed xs) (sign_in (dashed xs))) (parts_from (mode_behind_option (dashed xs) (sign_in (dashed xs))) rest))
        go xs true e =
            let at : sign_in (dashed xs) ≡ Some (1 + (1 + position_or_len is_sign xs)) =
            sign-behind xs ∙ ap (λ b. cond b (Some (1 + (1 + position_or_len is_sign xs))) None) e in
            rw (e, at, take-two 45 45 (position_or_len is_sign xs) xs, drop-two 45 45 (position_or_len is_sign xs) xs)
            (with-value (before_first is_sign xs) (after_first is_sign xs))
        go xs false e =
            let at : sign_in (dashed xs) ≡ None = sign-behind xs ∙ ap (λ b. cond b (Some (1 + (1 + position_or_len is_sign xs))) None) e in
            rw (e, at, whole-name xs e) (without-value xs)

  module _ (k : ℕ) (rest : List Text) (same : Reads k rest) (next : Reads (suc k) rest)
      (value : (id name : Text) → named (options_of f) name ≡ Some id → Awaits id name k rest) where
    placed : (word : Text) → Close (in_place (place_from 1 f.places k) word (read (clap_form f) None (suc k) rest))
        (in_place (place_from 1 f.places k) word (uses_from f (suc k) (parts_from anything rest)))
    placed word = close-place (place_from 1 f.places k) word _ _ next

    two-dashes : (bytes : Text) → Reads k ((45 ∷ 45 ∷ bytes) ∷ rest)
    unfolding read parts_from
    two-dashes [] = subst (Close (read_places (clap_form f) k rest)) (places-read k rest) (close-same _)
    two-dashes (y ∷ ys) = option-step k rest same value y ys

    word-step : (word : Text) → Reads k (word ∷ rest)
    unfolding read parts_from
    word-step [] = placed []
    word-step (a ∷ []) = go (a == 45) refl
      where
        go : (t : Bool) → (a == 45) ≡ t → Reads k ((a ∷ []) ∷ rest)
        go true e = rw e (placed (a ∷ []))
        go false e = rw e (placed (a ∷ []))
    word-step (a ∷ b ∷ bytes) = go (a == 45) (b == 45) refl refl
      where
        go : (t u : Bool) → (a == 45) ≡ t → (b == 45) ≡ u → Reads k ((a ∷ b ∷ bytes) ∷ rest)
        go false u e h = rw e (placed (a ∷ b ∷ bytes))
        go true false e h =
            let flag : clap_flag (a ∷ b ∷ bytes) ≡ true = rw (e, h) refl in
            rw (e, h) (close-place_flag (place_from 1 f.places k) (a ∷ b ∷ bytes) _ flag)
        go true true e h =
            subst (λ x. Reads k ((x ∷ b ∷ bytes) ∷ rest)) (sym (eqb-true a 45 e))
            (subst (λ x. Reads k ((45 ∷ x ∷ bytes) ∷ rest)) (sym (eqb-true b 45 h)) (two-dashes bytes))

  value-step : (id name : Text) (k : ℕ) (word : Text) (rest : List Text) → named (options_of f) name ≡ Some id → Reads k rest
      → Awaits id name k (word ∷ rest)
  unfolding read parts_from
  value-step id name k word rest e same =
      subst (λ o. Close (read (clap_form f) (Some id) k (word ∷ rest)) (in_place o word (uses_from f k (parts_from anything rest)))) (sym e)
      (go (clap_flag word) refl)
    where
      go : (b : Bool) → clap_flag word ≡ b
          → Close (if b then None else plus id word (read (clap_form f) None k rest)) (plus id word (uses_from f k (parts_from anything rest)))
      go true flag = close-flag id word _ flag
      go false flag = close-plus id word _ _ same

  mutual
    unfolding read parts_from

    pub words-close : (k : ℕ) (words : List Text) → Reads k words
    words-close k [] = close-same (Some [])
    words-close k (word ∷ rest) =
        word-step k rest (words-close k rest) (words-close (suc k) rest) (λ id name e. value-close id name k rest e) word

    pub value-close : (id name : Text) (k : ℕ) (words : List Text) → named (options_of f) name ≡ Some id → Awaits id name k words
    value-close id name k [] e = close-same None
    value-close id name k (word ∷ rest) e = value-step id name k word rest e (words-close k rest)
