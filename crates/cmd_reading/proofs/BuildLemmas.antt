-- A command to which rules are added in turn.
use Rattle.std.proofs.Common.{◌≡◌, ◌∙◌, ◌+◌, ◌<◌, ◌++◌, ◌∷◌, [], List, ℕ, length, map, take, sym, ap}
use Rattle.std.specs.Borrow.{Bor}
use Rattle.std.specs.List.{slice_index_or}
use Rattle.std.proofs.lemmas.List.{map-append, append_assoc, take_more}
use Rattle.clap.specs.Words.{App, Rule, Text, with_rule}
use Rattle.cmd_reading.specs.FormApp.{bare_app, with_rules}

module _ (rule : Text → Rule) where
  abbrev rules_of_ids : List (Bor Text) → List Rule
  rules_of_ids ids = map rule (map (λ s. s.now) ids)

  one-more : (xs : List (Bor Text)) (x : Bor Text) → rules_of_ids (xs ++ x ∷ []) ≡ rules_of_ids xs ++ rule x.now ∷ []
  one-more xs x = ap (map rule) (map-append (λ (s : Bor Text). s.now) xs (x ∷ [])) ∙ map-append rule (map (λ (s : Bor Text). s.now) xs) (x.now ∷ [])

  pub added-rule : (a : App) (ids : List (Bor Text)) (i : ℕ) (d : Bor Text) → i < length ids
      → with_rule (with_rules a (rules_of_ids (take i ids))) (rule (slice_index_or ids i d).now) ≡ with_rules a (rules_of_ids (take (i + 1) ids))
  added-rule a ids i d l =
      ap (λ (c : List Rule). record a { top = record a.top { rules = c } })
      (append_assoc a.top.rules (rules_of_ids (take i ids)) (rule (slice_index_or ids i d).now ∷ [])
      ∙ ap (λ (c : List Rule). a.top.rules ++ c) (sym (ap rules_of_ids (take_more ids i d l) ∙ one-more (take i ids) (slice_index_or ids i d))))

pub in-turn : (w x y z : App) (p n f : List Rule) → w ≡ bare_app → x ≡ with_rules w p → y ≡ with_rules x n → z ≡ with_rules y f
    → z ≡ with_rules bare_app (p ++ (n ++ f))
in-turn w x y z p n f e g h k =
    k ∙ ap (λ (a : App). with_rules a f) (h ∙ ap (λ (a : App). with_rules a n) (g ∙ ap (λ (a : App). with_rules a p) e))
    ∙ ap (λ (c : List Rule). with_rules bare_app c) (append_assoc p n f)
