-- Each name is found at its own text, and no other text.
use Rattle.std.proofs.Common.{◌≡◌, ℕ, Bool, true, false, cond, List, [], ◌∷◌, Option, Some, None, ◌⊎◌, inl, inr, refl, sym, ap, ◌∙◌, bytes_eq, slice_get, slice_index}
use Rattle.std.proofs.lemmas.Slice.Eq.{bytes_eq-Decides}
use Rattle.masm_instr.specs.declared.name.Name.{Name}
use Rattle.masm_instr.specs.declared.name.Name.TheVariants as names
use Rattle.masm_instr.specs.Table.{text_of}
use Rattle.masm_instr.specs.Names.{every_name, first_named, name_of, NamesAreTexts}
use Rattle.masm_instr.specs.Slots.{slot}
use Rattle.masm_instr.specs.declared.slot.TheConstants.{SLOTS}
use Rattle.masm_instr.specs.declared.table.TheConstants.{EVERY}

pub found : (name : Name) → first_named every_name (text_of name) ≡ Some name
unfolding every_name
found names.Add = refl
found name = refl

-- what a test chose
chosen : (test : Bool) (here name : Name) (later : Option Name) → cond test (Some here) later ≡ Some name
    → ((test ≡ true) × (here ≡ name)) ⊎ (later ≡ Some name)
chosen true here name later e = inl (refl, cc)
chosen false here name later e = inr e

pub has_text : (all : List Name) (text : List ℕ) (name : Name) → first_named all text ≡ Some name → text_of name ≡ text
has_text [] text name e = cc
has_text (here ∷ more) text name e =
    elim (chosen (bytes_eq (text_of here) text) here name (first_named more text) e) [
      | inl (same, is_here) ↦ rw (← is_here) ((bytes_eq-Decides (text_of here) text).0 same)
      | inr later ↦ has_text more text name later
    ]

pub names_are_texts : NamesAreTexts
unfolding name_of
names_are_texts name text = (has_text every_name text name, λ same. rw (← same) (found name))

-- each name stands in the slot of its own text
in_slot : (name : Name) → slice_get EVERY (slice_index SLOTS (slot (text_of name))) ≡ Some name
unfolding slot
in_slot names.Add = refl
in_slot name = refl

pub at_slot : (name : Name) (text : List ℕ) → text_of name ≡ text → slice_get EVERY (slice_index SLOTS (slot text)) ≡ Some name
at_slot name text same = rw (← same) (in_slot name)

none_of : (found : Option Name) → ((name : Name) → found ≡ Some name → ⊥) → None ≡ found
none_of None h = refl
none_of (Some name) h = absurd (h name refl)

-- a guess is right where it has the text
pub guessed : (name : Name) (text own : List ℕ) → own ≡ text_of name → bytes_eq own text ≡ true → Some name ≡ name_of text
guessed name text own is same =
    sym ((names_are_texts name text).1 ((bytes_eq-Decides (text_of name) text).0 (rw (← is) same)))

-- Where a guess does not have the text, no name has it.
pub not_guessed : (guess : Option Name) (text : List ℕ) → ((name : Name) → text_of name ≡ text → guess ≡ Some name)
    → ((name : Name) → guess ≡ Some name → text_of name ≡ text → ⊥) → None ≡ name_of text
not_guessed guess text guesses refuses =
    none_of (name_of text) (λ name e.
    let is_text : text_of name ≡ text = (names_are_texts name text).0 e in
    refuses name (guesses name is_text) is_text)

pub differs : (guess : Option Name) (here : Name) (text own : List ℕ) → guess ≡ Some here → own ≡ text_of here
    → bytes_eq own text ≡ false → (name : Name) → guess ≡ Some name → text_of name ≡ text → ⊥
differs guess here text own is_here is other name is_name same =
    let alike : here ≡ name = cc in
    let equal : bytes_eq own text ≡ true = (bytes_eq-Decides own text).1 (is ∙ (ap text_of alike ∙ same)) in
    cc

pub none_differs : (guess : Option Name) (text : List ℕ) → guess ≡ None → (name : Name) → guess ≡ Some name
    → text_of name ≡ text → ⊥
none_differs guess text is_none name is_name same = cc
