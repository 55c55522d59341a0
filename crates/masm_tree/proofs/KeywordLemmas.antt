-- Each keyword is found at its own text, and no other text.
use Rattle.std.proofs.Common.{◌≡◌, ℕ, Bool, true, false, cond, List, [], ◌∷◌, Option, Some, None, ◌⊎◌, inl, inr, refl, sym, ap, ◌∙◌, bytes_eq, slice_get, slice_index}
use Rattle.std.proofs.lemmas.Slice.Eq.{bytes_eq-Decides}
use Rattle.masm_tree.specs.declared.keyword.Keyword.{Keyword}
use Rattle.masm_tree.specs.declared.keyword.Keyword.TheVariants as keywords
use Rattle.masm_tree.specs.declared.keyword.TheConstants.{SLOTS, KEYWORDS}
use Rattle.masm_tree.specs.Keywords.{text_of_keyword, every_keyword, first_keyword, keyword_of, slot}

found : (keyword : Keyword) → first_keyword every_keyword (text_of_keyword keyword) ≡ Some keyword
unfolding every_keyword
found keywords.Const = refl
found keyword = refl

-- what a test chose
chosen : (test : Bool) (here keyword : Keyword) (later : Option Keyword) → cond test (Some here) later ≡ Some keyword
    → ((test ≡ true) × (here ≡ keyword)) ⊎ (later ≡ Some keyword)
chosen true here keyword later e = inl (refl, cc)
chosen false here keyword later e = inr e

has_text : (all : List Keyword) (text : List ℕ) (keyword : Keyword) → first_keyword all text ≡ Some keyword
    → text_of_keyword keyword ≡ text
has_text [] text keyword e = cc
has_text (here ∷ more) text keyword e =
    elim (chosen (bytes_eq (text_of_keyword here) text) here keyword (first_keyword more text) e) [
      | inl (same, is_here) ↦ rw (← is_here) ((bytes_eq-Decides (text_of_keyword here) text).0 same)
      | inr later ↦ has_text more text keyword later
    ]

of_text : (keyword : Keyword) (text : List ℕ) → keyword_of text ≡ Some keyword → text_of_keyword keyword ≡ text
unfolding keyword_of
of_text keyword text e = has_text every_keyword text keyword e

at_text : (keyword : Keyword) (text : List ℕ) → text_of_keyword keyword ≡ text → keyword_of text ≡ Some keyword
unfolding keyword_of
at_text keyword text same = rw (← same) (found keyword)

-- each keyword stands in the slot of its own text
in_slot : (keyword : Keyword) → slice_get KEYWORDS (slice_index SLOTS (slot (text_of_keyword keyword))) ≡ Some keyword
unfolding slot
in_slot keywords.Const = refl
in_slot keyword = refl

pub at_slot : (keyword : Keyword) (text : List ℕ) → text_of_keyword keyword ≡ text
    → slice_get KEYWORDS (slice_index SLOTS (slot text)) ≡ Some keyword
at_slot keyword text same = rw (← same) (in_slot keyword)

none_of : (found : Option Keyword) → ((keyword : Keyword) → found ≡ Some keyword → ⊥) → None ≡ found
none_of None h = refl
none_of (Some keyword) h = absurd (h keyword refl)

-- a guess is right where it has the text
pub guessed : (keyword : Keyword) (text own : List ℕ) → own ≡ text_of_keyword keyword → bytes_eq own text ≡ true
    → Some keyword ≡ keyword_of text
guessed keyword text own is same =
    sym (at_text keyword text ((bytes_eq-Decides (text_of_keyword keyword) text).0 (rw (← is) same)))

-- Where a guess does not have the text, no keyword has it.
pub not_guessed : (guess : Option Keyword) (text : List ℕ)
    → ((keyword : Keyword) → text_of_keyword keyword ≡ text → guess ≡ Some keyword)
    → ((keyword : Keyword) → guess ≡ Some keyword → text_of_keyword keyword ≡ text → ⊥) → None ≡ keyword_of text
not_guessed guess text guesses refuses =
    none_of (keyword_of text) (λ keyword e.
    let is_text : text_of_keyword keyword ≡ text = of_text keyword text e in
    refuses keyword (guesses keyword is_text) is_text)

pub differs : (guess : Option Keyword) (here : Keyword) (text own : List ℕ) → guess ≡ Some here
    → own ≡ text_of_keyword here → bytes_eq own text ≡ false
    → (keyword : Keyword) → guess ≡ Some keyword → text_of_keyword keyword ≡ text → ⊥
differs guess here text own is_here is other keyword is_keyword same =
    let alike : here ≡ keyword = cc in
    let equal : bytes_eq own text ≡ true = (bytes_eq-Decides own text).1 (is ∙ (ap text_of_keyword alike ∙ same)) in
    cc

pub none_differs : (guess : Option Keyword) (text : List ℕ) → guess ≡ None → (keyword : Keyword) → guess ≡ Some keyword
    → text_of_keyword keyword ≡ text → ⊥
none_differs guess text is_none keyword is_keyword same = cc
