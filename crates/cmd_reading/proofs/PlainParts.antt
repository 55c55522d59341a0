-- Words that can be meant: their parts are plain, and they are text.
use Rattle.std.proofs.Common.{◌≡◌, ◌∙◌, ◌+◌, ◌<◌, ℕ, zero, suc, true, false, refl, sym, ap, subst, List, [], ◌∷◌, ◌++◌, length, map, take, drop, get_or, codes, Option, Some, None, arith, lit<, drop-cons, inl, inr, ◌≤◌}
use Rattle.std.specs.Prelude.{not, ◌==◌, is_some, IfSome}
use Rattle.std.specs.List.{list_any, range_with_len}
use Rattle.std.specs.Str.{IsUtf8, bytes_eq}
use Rattle.std.proofs.lemmas.Bool.{cases_Bool, eqb-true}
use Rattle.std.proofs.lemmas.Bool.Decides.{nat_tests}
use Rattle.std.proofs.lemmas.List.{map-append, take-append-drop}
use Rattle.std.proofs.lemmas.List.Quantifiers.{position-Some}
use Rattle.std.proofs.lemmas.Slice.Eq.{bytes_eq-Decides}
use Rattle.std.proofs.lemmas.Str.{IsUtf8-append, IsUtf8-from_ascii}
use Rattle.std.proofs.lemmas.Str.Ascii.{IsAscii-cons, IsAscii-nil}
use Rattle.cmd_words.specs.Words.{CommandPart, positional, given, lacking, Mode, anything, positionals, value_comes, begins_with_dashes, has_form, mode_behind_option, option_part, parts_from, positional_at, sign_in, value_of, with_part}
use Rattle.cmd_reading.specs.Form.{WordForm, AllText, IsPlain, dashed, is_flag, options_of}
use Rattle.cmd_reading.specs.Meaning.{AreThere, IsThere, MayBeMeant, MayStand}
use Rattle.cmd_reading.proofs.OneByOne.{Use, clap_flag}
use Rattle.cmd_reading.proofs.Members.{In, find-in, here, later, same-text, three_parts}
use Rattle.cmd_reading.proofs.PartUses.{AllPlain, AreUses, none, placed, valued}
use Rattle.cmd_reading.proofs.PartTexts.{less, named-is, nonzero}
use Rattle.cmd_reading.proofs.PartForm.{name-known}

abbrev Text : Type 0
Text = List ℕ

-- ---- plain texts

-- the texts of all parts are plain, and the names of options are such
abbrev pub ArePlain : (Text → Type 0) → List CommandPart → Type 0
ArePlain Named [] = Unit {0}
ArePlain Named (positional word ∷ parts) = IsPlain word × ArePlain Named parts
ArePlain Named (given name value ∷ parts) = Named name × IsPlain value × ArePlain Named parts
ArePlain Named (lacking ∷ parts) = ⊥

abbrev PlainAt : ℕ → List CommandPart → Type 0
PlainAt count parts = (i : ℕ) → i < count → IfSome (positional_at i parts) IsPlain

abbrev PlainValues : List Text → List CommandPart → Type 0
PlainValues names parts = (name : Text) → list_any (bytes_eq name) names ≡ true → IfSome (value_of name parts) IsPlain

none-there : (o : Option Text) → not (is_some o) ≡ true → o ≡ None
none-there None e = refl
none-there (Some t) e = absurd (cc)

-- where each positional and each value is plain, all parts are
plain-parts : {Named : Text → Type 0} (names : List Text) → ((name : Text) → list_any (bytes_eq name) names ≡ true → Named name)
    → (count : ℕ) (parts : List CommandPart) → has_form count names parts ≡ true → PlainAt count parts → PlainValues names parts → ArePlain Named parts
plain-parts names known count [] e there values = tt
plain-parts names known zero (positional w ∷ parts) e there values = absurd (cc)
plain-parts names known (suc c) (positional w ∷ parts) e there values = (
  there 0 (omega arith),
  plain-parts names known c parts (rw (nonzero c, less c) at e) (λ i l. rw (nonzero i, less i) at (there (suc i) (omega (arith, l)))) values,
)
plain-parts names known count (given name v ∷ parts) e there values =
    let h = three_parts (list_any (bytes_eq name) names) (not (is_some (value_of name parts))) (has_form count names parts) e in
    let own : IfSome (Some v) IsPlain = rw (same-text name) at (values name h.0) in
    let behind : PlainValues names parts = λ other listed. elim (cases_Bool (bytes_eq name other)) [
      | inl q ↦ subst (λ x. IfSome (value_of x parts) IsPlain) ((bytes_eq-Decides name other).0 q) (rw (none-there _ h.1) tt)
      | inr q ↦ rw q at (values other listed)
    ] in
    (known name h.0, own, plain-parts names known count parts h.2 there behind)
plain-parts names known count (lacking ∷ parts) e there values = absurd (cc)

there-plain : (o : Option Text) → IsThere o → IfSome o IsPlain
there-plain None h = absurd h
there-plain (Some t) h = h

there-at : (k n : ℕ) (parts : List CommandPart) → AreThere (map (λ i. positional_at i parts) (range_with_len k n)) → (j : ℕ) → k ≤ j → j < k + n
    → IfSome (positional_at j parts) IsPlain
there-at k zero parts h j l m = absurd (omega (arith, l, m))
there-at k (suc n) parts h j l m = elim (cases_Bool (k == j)) [
  | inl e ↦ subst (λ i. IfSome (positional_at i parts) IsPlain) (eqb-true k j e) (there-plain (positional_at k parts) h.0)
  | inr e ↦ let more : k + 1 ≤ j = grind (arith, nat_tests) in there-at (k + 1) n parts h.1 j more (omega (arith, m))
]

there-stands : (ts : List (Option Text)) → AreThere ts → MayStand ts
there-stands [] h = tt
there-stands (t ∷ ts) h = (there-plain t h.0, there-stands ts h.1)

stand-append : (xs ys : List (Option Text)) → MayStand xs → MayStand ys → MayStand (xs ++ ys)
stand-append [] ys h k = k
stand-append (x ∷ xs) ys h k = (h.0, stand-append xs ys h.1 k)

stand-in : (g : Text → Option Text) {x : Text} {names : List Text} → In x names → MayStand (map g names) → IfSome (g x) IsPlain
stand-in g here h = h.0
stand-in g (later i) h = stand-in g i h.1

-- what holds of each option as it is written
known-then : (P : Text → Type 0) (names : List Text) → ((x : Text) → In x names → P (dashed x)) → (name : Text)
    → list_any (bytes_eq name) (map dashed names) ≡ true → P name
known-then P names all name known =
    let m = name-known names name known in
    subst P (sym (named-is names name m.1)) (all m.0 (find-in _ names m.1).0)

-- all parts of words that can be meant are plain
pub meant-plain : (f : WordForm) (words : List Text) (Named : Text → Type 0)
    → ((name : Text) → list_any (bytes_eq name) (map dashed (options_of f)) ≡ true → Named name) → MayBeMeant f words → ArePlain Named (parts_from anything words)
meant-plain f words Named known m =
    let parts = parts_from anything words in
    let value = λ (n : Text). value_of (dashed n) parts in
    let stand = subst MayStand (sym (map-append value f.needed f.free)) (stand-append _ _ (there-stands _ m.needed) m.free) in
    plain-parts (map dashed (options_of f)) known (length f.places) parts m.form
    (λ j l. there-at 0 (length f.places) parts m.places j (omega arith) (omega (arith, l)))
    (known-then (λ name. IfSome (value_of name parts) IsPlain) (options_of f) (λ x i. stand-in value i stand))

-- ---- plain parts are plain uses

plain-flag : (v : Text) → is_flag v ≡ false → clap_flag v ≡ false
plain-flag [] e = refl
plain-flag (a ∷ []) e = elim (cases_Bool (a == 45)) [ inl h ↦ rw h refl | inr h ↦ rw h refl ]
plain-flag (a ∷ b ∷ bytes) e = rw e refl

pub plain-uses : {f : WordForm} {k : ℕ} {parts : List CommandPart} {us : List Use} (Named : Text → Type 0) → AreUses f k parts us
    → ArePlain Named parts → AllPlain us
plain-uses Named none h = tt
plain-uses Named (placed {word} e r) h = (plain-flag word h.0.apart, plain-uses Named r h.1)
plain-uses Named (valued {value} e r) h = (plain-flag value h.1.apart, plain-uses Named r h.2)

-- ---- words that can be meant are text

abbrev pub Texts : List Text → Type 0
Texts [] = Unit {0}
Texts (word ∷ words) = IsUtf8 word × Texts words

dashes-text : IsUtf8 (45 ∷ 45 ∷ [])
dashes-text = IsUtf8-from_ascii (45 ∷ 45 ∷ []) (IsAscii-cons 45 (45 ∷ []) (lit< tt) (IsAscii-cons 45 [] (lit< tt) IsAscii-nil))

sign-text : IsUtf8 (61 ∷ [])
sign-text = IsUtf8-from_ascii (61 ∷ []) (IsAscii-cons 61 [] (lit< tt) IsAscii-nil)

text-in : {x : Text} {names : List Text} → In x names → Texts names → IsUtf8 x
text-in here h = h.0
text-in (later i) h = text-in i h.1

-- a word with a sign, from its two sides
sided-text : (word : Text) (sign : ℕ) → sign_in word ≡ Some sign → IsUtf8 (take sign word) → IsUtf8 (drop (sign + 1) word) → IsUtf8 word
sided-text word sign e left right =
    let at = position-Some (λ (b : ℕ). b == 61) word sign 0 e in
    let is_sign : get_or word sign 0 ≡ 61 = eqb-true _ 61 at.1 in
    let tail : drop sign word ≡ 61 ∷ drop (sign + 1) word =
    drop-cons word sign 0 at.0 ∙ ap (λ (x : ℕ). x ∷ drop (suc sign) word) is_sign ∙ ap (λ (n : ℕ). 61 ∷ drop n word) (next sign) in
    subst IsUtf8 (ap (λ (t : Text). take sign word ++ t) (sym tail) ∙ take-append-drop sign word)
    (IsUtf8-append (take sign word) (61 ∷ drop (sign + 1) word) left (IsUtf8-append (61 ∷ []) (drop (sign + 1) word) sign-text right))
  where
    next : (n : ℕ) → suc n ≡ n + 1
    next n = omega arith

abbrev TextFrom : Mode → List Text → Type 0
TextFrom mode words = ArePlain IsUtf8 (parts_from mode words) → Texts words

-- an option without its value is not plain
awaited : (name : Text) (words : List Text) → ArePlain IsUtf8 (parts_from (value_comes name) words) → IsUtf8 name
unfolding parts_from
awaited name [] h = absurd h
awaited name (w ∷ words) h = h.0

-- a word that begins as an option does
option-word : (word : Text) (words : List Text) → ((mode : Mode) → TextFrom mode words) → (sign : Option ℕ) → sign_in word ≡ sign
    → ArePlain IsUtf8 (with_part (option_part word sign) (parts_from (mode_behind_option word sign) words)) → Texts (word ∷ words)
option-word word words rest None at h = (awaited word words h, rest (value_comes word) h)
option-word word words rest (Some sign) at h = (sided-text word sign at h.0 h.1.utf8, rest anything h.2)

first-word : (word : Text) (words : List Text) → ((mode : Mode) → TextFrom mode words) → TextFrom anything (word ∷ words)
unfolding parts_from
first-word word words rest h = elim (cases_Bool (bytes_eq word (codes "--"))) [
  | inl same ↦ (subst IsUtf8 (sym ((bytes_eq-Decides word (codes "--")).0 same)) dashes-text, rest positionals (rw same at h))
  | inr same ↦ elim (cases_Bool (begins_with_dashes word)) [
    | inl begins ↦ option-word word words rest (sign_in word) refl (rw (same, begins) at h)
    | inr begins ↦ let plain = rw (same, begins) at h in (plain.0.utf8, rest anything plain.1)
  ]
]

text-from : (words : List Text) (mode : Mode) → TextFrom mode words
unfolding parts_from
text-from [] mode h = tt
text-from (word ∷ words) anything h = first-word word words (text-from words) h
text-from (word ∷ words) positionals h = (h.0.utf8, text-from words positionals h.1)
text-from (word ∷ words) (value_comes name) h = (h.1.utf8, text-from words anything h.2)

all-text : (words : List Text) → Texts words → AllText words
all-text [] h k d l = absurd (omega (arith, l))
all-text (word ∷ words) h zero d l = h.0
all-text (word ∷ words) h (suc k) d l = all-text words h.1 k d (omega (arith, l))

-- words that can be meant by a form are text where its options have names that are
pub meant-text : (f : WordForm) (words : List Text) → Texts (options_of f) → MayBeMeant f words → AllText words
meant-text f words names m =
    let known = known-then IsUtf8 (options_of f) (λ x i. IsUtf8-append (45 ∷ 45 ∷ []) x dashes-text (text-in i names)) in
    all-text words (text-from words anything (meant-plain f words IsUtf8 known m))
