-- The command of a form is one of which clap's contract says all.
use Rattle.std.proofs.Common.{◌≡◌, ◌∙◌, ℕ, Bool, true, false, refl, sym, ap, subst, List, [], ◌∷◌, ◌++◌, map}
use Rattle.std.specs.Prelude.{not, ◌||◌, ◌&&◌, ◌==◌, is_some, unwrap_or}
use Rattle.std.specs.List.{list_any, list_all}
use Rattle.clap.specs.Walk.{Rule, Text, action_of, is_append, is_early_multiple, takes_several}
use Rattle.clap.specs.Words.{is_simple, is_simple_and_free}
use Rattle.clap.specs.Simple.{filled_from}
use Rattle.cmd_reading.specs.Form.{WordForm, IsForm}
use Rattle.cmd_reading.specs.FormApp.{place_rule, option_rule, form_rules, form_app}
use Rattle.cmd_reading.proofs.FormRules.{form-filled, form-settled}
use Rattle.cmd_reading.proofs.Walks.{AllSettled, IsSettled}

-- before building
simple-then : (rule : Text → Rule) → ((id : Text) → (rule id).is_simple ≡ true) → (ids : List Text) (rest : List Rule)
    → list_all (λ a. a.is_simple) rest ≡ true → list_all (λ a. a.is_simple) (map rule ids ++ rest) ≡ true
simple-then rule h [] rest e = e
simple-then rule h (id ∷ ids) rest e = ap (λ b. b && list_all (λ (a : Rule). a.is_simple) (map rule ids ++ rest)) (h id) ∙ simple-then rule h ids rest e

simple-options : (ids : List Text) → list_all (λ a. a.is_simple) (map (option_rule false) ids) ≡ true
simple-options [] = refl
simple-options (id ∷ ids) = simple-options ids

simple-form : (f : WordForm) → list_all (λ a. a.is_simple) (form_rules f) ≡ true
simple-form f =
    simple-then place_rule (λ id. refl) f.places _ (simple-then (option_rule true) (λ id. refl) f.needed _ (simple-options f.free))

-- when built
all-simple : (c : List Rule) → AllSettled c → list_all (λ a. a.is_simple) c ≡ true
all-simple [] h = refl
all-simple (a ∷ c) h = ap (λ b. b && list_all (λ (x : Rule). x.is_simple) c) h.0.simple ∙ all-simple c h.1

all-free : (c : List Rule) → AllSettled c → list_all (λ a. a.is_free) c ≡ true
all-free [] h = refl
all-free (a ∷ c) h = ap (λ b. b && list_all (λ (x : Rule). x.is_free) c) h.0.free ∙ all-free c h.1

one-early : (n : ℕ) (a : Rule) → IsSettled a → is_early_multiple n a ≡ false
one-early n a h = go (is_some a.index) (takes_several a) (is_append (action_of a)) (not (n == unwrap_or a.index 0)) h.several h.append
  where
    go : (i s p l : Bool) → s ≡ false → p ≡ false → (i && (s || p) && l) ≡ false
    go i s p l e f = rw (e, f) (last i)
      where
        last : (i : Bool) → (i && false && l) ≡ false
        last true = refl
        last false = refl

none-early : (n : ℕ) (c : List Rule) → AllSettled c → list_any (is_early_multiple n) c ≡ false
none-early n [] h = refl
none-early n (a ∷ c) h = ap (λ b. b || list_any (is_early_multiple n) c) (one-early n a h.0) ∙ none-early n c h.1

module _ (f : WordForm) (h : IsForm f) where
  built-settled : AllSettled (filled_from 1 (form_rules f))
  built-settled = subst AllSettled (sym (form-filled f h)) (form-settled f h)

  pub form-is_simple : is_simple (form_app f) ≡ true
  form-is_simple = rw (simple-form f, all-simple _ built-settled, none-early _ _ built-settled) refl

  pub form-simple : is_simple_and_free (form_app f) ≡ true
  form-simple = rw (simple-form f, all-simple _ built-settled, none-early _ _ built-settled, all-free _ built-settled) refl
