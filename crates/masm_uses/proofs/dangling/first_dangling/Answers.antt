use Rattle.masm_uses.proofs.Words.{◌≡◌, ◌<◌, ℕ, List, Option, map, length, sym, ap, subst, ◌∙◌, All, rows_of, IsGraph, links_in, own_places, places_referred}
use Rattle.masm_uses.proofs.Words.{place_at, UsesProcedure, AreUsers, place_in}
use Rattle.std.proofs.lemmas.List.{map-id}
use Rattle.masm_uses.proofs.DanglingAnswers.{FindsLeast-dangling}
use Rattle.masm_uses.proofs.Lent.{rows_are, count_rows, referred_is}
use Rattle.masm_uses.proofs.TargetLemmas.{referred_within}
use Rattle.masm_uses.proofs.UseOrderLemmas.{is-graph}
use Rattle.masm_uses.proofs.UsedLemmas.{goes_within}
use Rattle.masm_uses.proofs.dangling.first_dangling.Goals as goal

pub users_of-requires : goal.users_of-requires
users_of-requires c =
    let own : List ℕ → Option ℕ = place_at c.args.names.now in
    let kernel : List ℕ → Option ℕ = place_at c.in_ok-exports.exports in
    let procs = c.args.ast.now.procs.items in
    let rows = rows_are own kernel c.deref.ensures.value c.deref-2.ensures.value c.in_ok-rows.ensures in
    record {
      within = λ i j goes. subst (λ n. j < n) (sym (count_rows own kernel procs _ rows))
          (goes_within own kernel procs c.requires.names i j (subst (λ r. UsesProcedure r i j) rows goes));
    }

pub first_recursion-requires : goal.first_recursion-requires
first_recursion-requires c =
    subst (λ vecs. AreUsers (rows_of vecs) (rows_of c.deref-5.result.now)) (c.deref-2.ensures.value ∙ sym c.deref-6.ensures.value)
    (subst (λ us. AreUsers (rows_of c.deref-2.result.now) (rows_of us)) (sym c.deref-5.ensures.value) c.in_ok-users.ensures)

pub first_dispatch-requires : goal.first_dispatch-requires
first_dispatch-requires c =
    let own : List ℕ → Option ℕ = place_at c.args.names.now in
    let kernel : List ℕ → Option ℕ = place_at c.in_ok-exports.exports in
    let ast = c.args.ast.now in
    let procs = ast.procs.items in
    let rows = rows_are own kernel c.deref.ensures.value c.deref-8.ensures.value c.in_ok-rows.ensures in
    record {
      graph = subst (λ rs. IsGraph (map own_places rs)) (sym rows) (is-graph own kernel procs c.requires.names);
      targets = subst (λ n. All (λ q. q < n) (places_referred (rows_of c.deref-8.result.now) c.deref-9.result.now))
          (sym (count_rows own kernel procs _ rows))
          (subst (All (λ q. q < length procs)) (sym (referred_is own kernel procs ast.main _ rows (c.deref-9.ensures.value ∙ c.in_ok-main.ensures)))
          (referred_within own kernel procs c.requires.names ast.consts ast.main));
    }

pub returns : goal.returns
returns c =
    let ast = c.args.ast.now in
    let own : List ℕ → Option ℕ = place_at c.args.names.now in
    let kernel : List ℕ → Option ℕ = place_at c.in_ok-exports.exports in
    let rows : rows_of c.in_ok-rows.rows.items ≡ map (links_in own kernel) ast.procs.items =
    c.in_ok-rows.ensures ∙ ap (map (links_in own kernel)) c.deref.ensures.value in
    let exports : (name : List ℕ) → kernel name ≡ place_in c.args.kernel.now name =
    λ name. c.in_ok-exports.ensures name ∙ ap (λ names. place_in names name) (map-id c.args.kernel.now) in
    let are : AreUsers (map (links_in own kernel) ast.procs.items) (rows_of c.in_ok-users.users.items) =
    subst (λ r. AreUsers r (rows_of c.in_ok-users.users.items)) (ap rows_of c.deref-2.ensures.value ∙ rows) c.in_ok-users.ensures in
    rw (c.earlier.ensures, c.earlier-dangling.ensures, c.earlier-missing.ensures)
    (FindsLeast-dangling own kernel ast.consts ast.procs.items ast.main c.args.kernel.now (rows_of c.in_ok-users.users.items)
    c.requires.names exports are
    c.first_missing_of.result c.first_missing.result c.in_ok-first_recursion.field-0 c.in_ok-dispatch.dispatch
    (rw (ap rows_of c.deref-3.ensures.value ∙ rows) at c.first_missing_of.ensures)
    (rw (c.deref-4.ensures.value ∙ c.in_ok-main.ensures) at c.first_missing.ensures)
    (rw (c.deref-5.ensures.value, ap rows_of c.deref-6.ensures.value ∙ rows) at c.in_ok-first_recursion.ensures)
    (rw (c.deref-7.ensures.value, c.deref-9.ensures.value ∙ c.in_ok-main.ensures, ap rows_of c.deref-8.ensures.value ∙ rows)
    at c.in_ok-dispatch.ensures))
