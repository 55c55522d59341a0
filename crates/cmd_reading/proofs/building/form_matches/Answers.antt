use Rattle.std.proofs.Common.{◌≡◌, ◌∙◌, [], rules, true, sym, ap, subst, map}
use Rattle.clap.specs.Kinds.{Kinds, HasKind}
use Rattle.clap.specs.Words.{app_of, fault_of, is_simple, is_simple_and_free, matches_of}
use Rattle.cmd_reading.proofs.FormSimple.{form-is_simple, form-simple}
use Rattle.cmd_reading.proofs.building.form_matches.Goals as goal

pub returns-in-Ok-try_get_matches_from-clause-ok :
    goal.returns-in-Ok-try_get_matches_from-clause-ok
returns-in-Ok-try_get_matches_from-clause-ok c =
    let app = c.in-Ok.ensures in
    let free : is_simple_and_free (app_of c.in-Ok.command) ≡ true = ap is_simple_and_free app ∙ form-simple _ c.requires.names in
    let simple : is_simple (app_of c.in-Ok.command) ≡ true = ap is_simple app ∙ form-is_simple _ c.requires.names in (
      ap (λ a. fault_of a (map (λ s. s.now) c.args.words.now)) (sym app) ∙ c.in-Ok-try_get_matches_from.ensures.kinds free,
      (c.in-Ok-try_get_matches_from.ensures.matches simple).0 ∙ ap (λ a. matches_of a (map (λ s. s.now) c.args.words.now)) app,
    )

pub returns-after-eq-clause-usage : goal.returns-after-eq-clause-usage
returns-after-eq-clause-usage c =
    let app = c.in-Ok.ensures in
    let free : is_simple_and_free (app_of c.in-Ok.command) ≡ true = ap is_simple_and_free app ∙ form-simple _ c.requires.names in
    λ usage none.
    let no_kind : HasKind [] c.in-Err.error = subst (λ (k : Kinds). HasKind k c.in-Err.error)
    (ap (λ a. fault_of a (map (λ s. s.now) c.args.words.now)) app ∙ none) (c.in-Err.ensures.kinds free) in
    search rules
