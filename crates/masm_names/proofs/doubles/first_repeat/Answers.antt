use Rattle.std.proofs.Common.{◌≡◌, ℕ, List, Option, length, sym, ◌∙◌, rules, ◌≤◌}
use Rattle.masm_tree.specs.declared.tree.Position.{Position}
use Rattle.masm_names.specs.declared.refusal.Refusal.{Refusal}
use Rattle.masm_names.specs.Among.{Among}
use Rattle.masm_names.specs.Least.{FindsLeast}
use Rattle.masm_names.specs.Names.{place_at}
use Rattle.masm_names.specs.Repeats.{IsDoubled}
use Rattle.masm_names.proofs.LeastLemmas.{FindsLeast-same, Among-more, Among-end}
use Rattle.masm_names.proofs.doubles.first_repeat.Goals as goal

pub loop-place-preserved : goal.loop-place-preserved
loop-place-preserved g c =
    rw c.earlier-first.ensures (Among-more
    (λ place x. IsDoubled (place_at c.in_ok-names.names) (g.T.Named.name x) (g.T.Defined.at x) place) c.args.items.now
    c.loop-place.place c.index-items-place.result c.loop-place.first _ c.loop-place-test.true c.index-items-place.is
    c.loop-place.invariant c.repeat_at.ensures)

by_places : {X : Type 0} (name : X → List ℕ) (at : X → Position) (items : List X) (f h : List ℕ → Option ℕ) (r : Option Refusal)
    → ((text : List ℕ) → f text ≡ h text)
    → FindsLeast (Among (λ place x. IsDoubled f (name x) (at x) place) items) r → FindsLeast (Among (λ place x. IsDoubled h (name x) (at x) place) items) r
by_places name at items f h r same =
    FindsLeast-same (Among (λ place x. IsDoubled f (name x) (at x) place) items) (Among (λ place x. IsDoubled h (name x) (at x) place) items) r
    (λ a cause k. (k.0, (k.1.0, k.1.1, ((λ e. k.1.2.0 (same (name k.1.0) ∙ e)), k.1.2.1, k.1.2.2))))
    (λ a cause k. (k.0, (k.1.0, k.1.1, ((λ e. k.1.2.0 (sym (same (name k.1.0)) ∙ e)), k.1.2.1, k.1.2.2))))

pub returns : goal.returns
returns g c =
    let ended : length c.args.items.now ≤ c.loop-place.place = search rules in
    by_places g.T.Named.name g.T.Defined.at c.args.items.now (place_at c.in_ok-names.names) _ c.loop-place.first c.in_ok-names.ensures
    (Among-end (λ place x. IsDoubled (place_at c.in_ok-names.names) (g.T.Named.name x) (g.T.Defined.at x) place) c.args.items.now
    c.loop-place.place c.loop-place.first ended
    c.loop-place.invariant)
