-- The uses that parts are.
use Rattle.std.proofs.Common.{◌≡◌, refl, subst}
use Rattle.std.specs.Prelude.{ℕ, suc, false, List, [], ◌∷◌, Option, Some, None, find}
use Rattle.std.specs.Str.{bytes_eq}
use Rattle.std.proofs.lemmas.Option.{same_Some}
use Rattle.clap.specs.Words.{Text}
use Rattle.cmd_reading.specs.Form.{WordForm, dashed, options_of}
use Rattle.cmd_reading.proofs.OneByOne.{Use, in_place, clap_flag, plus}
use Rattle.cmd_reading.proofs.FormUses.{place_from}
use Rattle.cmd_words.specs.Words.{CommandPart, positional, given, lacking}

-- the option of this name with its dashes
abbrev pub named : List Text → Text → Option Text
named names name = find (λ n. bytes_eq (dashed n) name) names

-- no text begins with a dash and goes on
abbrev pub AllPlain : List Use → Type 0
AllPlain [] = Unit {0}
AllPlain (u ∷ us) = (clap_flag u.1 ≡ false) × AllPlain us

pub plus-is : (id v : Text) (p : Option (List Use)) (us : List Use) → plus id v p ≡ Some us → (vs : List Use) × (p ≡ Some vs) × ((id, v) ∷ vs ≡ us)
plus-is id v None us e = absurd (cc)
plus-is id v (Some vs) us e = (vs, refl, cc)

in-place-is : (o : Option Text) (v : Text) (p : Option (List Use)) (us : List Use) → in_place o v p ≡ Some us
    → (id : Text) × (vs : List Use) × (o ≡ Some id) × (p ≡ Some vs) × ((id, v) ∷ vs ≡ us)
in-place-is None v p us e = absurd (cc)
in-place-is (Some id) v p us e = let r = plus-is id v p us e in (id, r.0, refl, r.1, r.2)

module _ (f : WordForm) where
  -- where the next place is the k-th
  abbrev pub uses_from : ℕ → List CommandPart → Option (List Use)
  uses_from k [] = Some []
  uses_from k (positional word ∷ parts) = in_place (place_from 1 f.places k) word (uses_from (suc k) parts)
  uses_from k (given name value ∷ parts) = in_place (named (options_of f) name) value (uses_from k parts)
  uses_from k (lacking ∷ parts) = None

  -- the same, use by use
  pub data AreUses : ℕ → List CommandPart → List Use → Type 0 where
    none : {k : ℕ} → AreUses k [] []
    placed : {k : ℕ} {id word : Text} {parts : List CommandPart} {us : List Use} → place_from 1 f.places k ≡ Some id → AreUses (suc k) parts us
        → AreUses k (positional word ∷ parts) ((id, word) ∷ us)
    valued : {k : ℕ} {id name value : Text} {parts : List CommandPart} {us : List Use} → named (options_of f) name ≡ Some id → AreUses k parts us
        → AreUses k (given name value ∷ parts) ((id, value) ∷ us)

  pub are-uses : (k : ℕ) (parts : List CommandPart) (us : List Use) → uses_from k parts ≡ Some us → AreUses k parts us
  are-uses k [] us e = subst (AreUses k []) (same_Some [] us e) none
  are-uses k (positional w ∷ parts) us e =
      let r = in-place-is (place_from 1 f.places k) w (uses_from (suc k) parts) us e in
      subst (AreUses k (positional w ∷ parts)) r.4 (placed r.2 (are-uses (suc k) parts r.1 r.3))
  are-uses k (given name v ∷ parts) us e =
      let r = in-place-is (named (options_of f) name) v (uses_from k parts) us e in
      subst (AreUses k (given name v ∷ parts)) r.4 (valued r.2 (are-uses k parts r.1 r.3))
  are-uses k (lacking ∷ parts) us e = absurd (cc)

  pub uses-are : {k : ℕ} {parts : List CommandPart} {us : List Use} → AreUses k parts us → uses_from k parts ≡ Some us
  uses-are none = refl
  uses-are (placed e r) = rw (e, uses-are r) refl
  uses-are (valued e r) = rw (e, uses-are r) refl
