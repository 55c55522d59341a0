-- Texts that are made piece by piece.
use Rattle.std.proofs.Common.{◌≡◌, ℕ, zero, suc, ◌+◌, ◌<◌, ◌≤◌, Bool, eq-eqb, List, [], ◌∷◌, ◌++◌, length, map, get_or, take, Bor, refl, sym, ap, ◌∙◌, arith, append_assoc, append-nil, Option, Some, None, option_map}
use Rattle.std.specs.List.{flat_map, range_with_len}
use Rattle.std.specs.Option.{option_and_then}
use Rattle.std.specs.Prelude.{◌==◌, if◌then◌else◌}
use Rattle.std.proofs.lemmas.List.{flat_map_more, get_or-map, take_more}
use Rattle.vm_field.specs.Decimal.{element_of}
use Rattle.show_text.specs.EvidenceLines.{elements_of}

-- a piece more, for the number behind those of a range
pub pieces_more : (f : ℕ → List ℕ) (a n j : ℕ) → a + n ≡ j → flat_map f (range_with_len a (suc n)) ≡ flat_map f (range_with_len a n) ++ f j
pieces_more f a zero j is = append-nil (f a) ∙ ap f (start a j is)
  where
    start : (a j : ℕ) → a + 0 ≡ j → a ≡ j
    start a j e = omega arith
pieces_more f a (suc n) j is =
    ap (λ later. f a ++ later) (pieces_more f (a + 1) n j (omega arith)) ∙ sym (append_assoc (f a) (flat_map f (range_with_len (a + 1) n)) (f j))

-- and behind a text that was made so far
pub piece_more : (f : ℕ → List ℕ) (text so_far longer piece : List ℕ) (a n j m : ℕ) → so_far ≡ text ++ flat_map f (range_with_len a n)
    → longer ≡ so_far ++ piece → piece ≡ f j → a + n ≡ j → suc n ≡ m → longer ≡ text ++ flat_map f (range_with_len a m)
piece_more f text so_far longer piece a n j m made is piece_is at one =
    is ∙ ap (λ t. t ++ piece) made ∙ append_assoc text (flat_map f (range_with_len a n)) piece
    ∙ ap (λ p. text ++ (flat_map f (range_with_len a n) ++ p)) piece_is
    ∙ ap (λ t. text ++ t) (sym (pieces_more f a n j at)) ∙ ap (λ k. text ++ flat_map f (range_with_len a k)) one

-- the same for the rows of a list, one behind another
pub row_more : {X : Type 0} (f : X → List ℕ) (rows : List X) (text so_far longer : List ℕ) (i : ℕ) (d x : X) → i < length rows
    → so_far ≡ text ++ flat_map f (take i rows) → longer ≡ so_far ++ f x → x ≡ get_or rows i d → longer ≡ text ++ flat_map f (take (i + 1) rows)
row_more f rows text so_far longer i d x within made is row =
    is ∙ ap (λ t. t ++ f x) made ∙ flat_map_more f text (take i rows) x
    ∙ ap (λ y. text ++ flat_map f (take i rows ++ y ∷ [])) row
    ∙ ap (λ taken. text ++ flat_map f taken) (sym (take_more rows i d within))

-- three pieces behind a text
pub three_more : (text a b c one two three : List ℕ) → one ≡ text ++ a → two ≡ one ++ b → three ≡ two ++ c → three ≡ text ++ (a ++ (b ++ c))
three_more text a b c one two three is_one is_two is_three =
    is_three ∙ ap (λ x. x ++ c) (is_two ∙ ap (λ x. x ++ b) is_one) ∙ append_assoc (text ++ a) b c ∙ append_assoc text a (b ++ c)

-- one piece more behind those that stand behind a text
pub then_more : (text so_far longer a b : List ℕ) → so_far ≡ text ++ a → longer ≡ so_far ++ b → longer ≡ text ++ (a ++ b)
then_more text so_far longer a b made is = is ∙ ap (λ x. x ++ b) made ∙ append_assoc text a b

-- the name at a place, as text
pub name_at : (names : List (Bor (List ℕ))) (i : ℕ) (d : Bor (List ℕ)) → i < length names → (get_or names i d).now ≡ get_or (map (λ n. n.now) names) i []
name_at names i d within = sym (get_or-map (λ n. n.now) names i d [] within)

-- elements in front of those that words write
abbrev joined : List ℕ → Option (List ℕ) → Option (List ℕ)
joined elements later = option_map (λ more. elements ++ more) later

-- elements, in front of those of the rest of words, are those of all of them
abbrev pub Goes : List ℕ → List (List ℕ) → List (List ℕ) → Type 0
Goes elements rest words = joined elements (elements_of rest) ≡ elements_of words

pub begins : (words : List (List ℕ)) → Goes [] words words
begins words = empty (elements_of words)
  where
    empty : (later : Option (List ℕ)) → joined [] later ≡ later
    empty None = refl
    empty (Some more) = refl

pub goes_on : (elements : List ℕ) (word : List ℕ) (rest words : List (List ℕ)) (x : ℕ) → element_of word ≡ Some x → Goes elements (word ∷ rest) words
    → Goes (elements ++ x ∷ []) rest words
goes_on elements word rest words x is goes =
    behind (elements_of rest) ∙ ap (λ o. joined elements (option_and_then (λ e. option_map (λ later. e ∷ later) (elements_of rest)) o)) (sym is) ∙ goes
  where
    behind : (later : Option (List ℕ)) → joined (elements ++ x ∷ []) later ≡ joined elements (option_map (λ more. x ∷ more) later)
    behind None = refl
    behind (Some more) = ap Some (append_assoc elements (x ∷ []) more)

pub ends : (elements : List ℕ) (words : List (List ℕ)) → Goes elements [] words → Some elements ≡ elements_of words
ends elements words goes = ap Some (sym (append-nil elements)) ∙ goes

-- eight elements, one by one
pub eight : (xs : List ℕ) (a b c d e f g h : ℕ) → 8 ≤ length xs → length xs < 9 → a ≡ get_or xs 0 a → b ≡ get_or xs 1 b → c ≡ get_or xs 2 c → d ≡ get_or xs 3 d
    → e ≡ get_or xs 4 e → f ≡ get_or xs 5 f → g ≡ get_or xs 6 g → h ≡ get_or xs 7 h → a ∷ b ∷ c ∷ d ∷ e ∷ f ∷ g ∷ h ∷ [] ≡ xs
eight (a' ∷ b' ∷ c' ∷ d' ∷ e' ∷ f' ∷ g' ∷ h' ∷ []) a b c d e f g h least most ea eb ec ed ee ef eg eh = cc
eight xs a b c d e f g h least most ea eb ec ed ee ef eg eh = absurd (omega (arith, least, most))

pub found_eight : (xs found : List ℕ) → 8 ≤ length xs → length xs < 9 → found ≡ xs → Some found ≡ (if length xs == 8 then Some xs else None)
found_eight xs found least most is =
    ap Some is ∙ sym (ap (λ (t : Bool). if t then Some xs else None) (eq-eqb (length xs) 8 (omega arith)))
