use Rattle.std.proofs.Common.{◌<◌, ◌++◌, ℕ, List, [], ◌∷◌, length, map, option_map, Option, Bor, Vec, Global, sym, ap, subst, ◌∙◌, arith}
use Rattle.std.proofs.lemmas.Bool.{eqb-true}
use Rattle.std.proofs.lemmas.List.{length-map, length_push, map-append}
use Rattle.run_chain.specs.declared.refusal.LinkCause.TheVariants as cause
use Rattle.run_chain.specs.Names.{names_of_words, roles_for, with_roles, has_clash}
use Rattle.run_chain.specs.Lists.{Ended, Open, lines_of, names_in}
use Rattle.run_chain.specs.Reads.{given, named_as}
use Rattle.run_chain.proofs.ListLemmas.{Goes, goes_on, ends, some, full, fewer, shorter, none-at-all, refused, first-of, line-ended, line-open, too-many, no-names, no-text, clashes, good, texts, added}
use Rattle.run_chain.proofs.reading.read_links.Goals as goal

pub returns-then-is_empty : goal.returns-then-is_empty
returns-then-is_empty c =
    rw c.wrong.ensures (none-at-all (given c.args.params.now c.args.list.now c.args.evidence) c.args.bytes.now
    (eqb-true _ 0 (sym c.is_empty.ensures ∙ c.if-is_empty.true)))

pub returns-then-len-eq-MOST_LINKS : goal.returns-then-len-eq-MOST_LINKS
returns-then-len-eq-MOST_LINKS c =
    let words = given c.args.params.now c.args.list.now c.args.evidence in
    let before = map named_as c.loop-roles.seen.items in
    let rest = c.loop-roles.rest.now in
    let here : 0 < length c.args.bytes.now = full _ (sym c.is_empty.ensures ∙ c.if-is_empty.false) in
    let more : 0 < length c.loop-roles.rest.now = full _ (sym c.is_empty-in-loop-roles.ensures ∙ c.loop-roles-test.true) in
    let count = length-map c.loop-roles.lines.items (λ line. map (λ n. n.now) line.items) in
    let first = first-of rest more in
    rw c.wrong-then-len-eq-MOST_LINKS.ensures
    (refused words c.args.bytes.now (texts c.loop-roles.lines.items) before rest first.0 first.1 cause.Count c.len-then-len-eq-MOST_LINKS.result
    here (omega (arith, count, c.len-then-len-eq-MOST_LINKS.ensures, c.loop-roles.lines.ok)) first.2
    (too-many _ c.len-then-len-eq-MOST_LINKS.result before first.0
    (omega (arith, c.len-then-len-eq-MOST_LINKS.ensures, c.len.ensures, c.if-len-eq-MOST_LINKS.true))) c.loop-roles.invariant.goes)

pub returns-in_default : goal.returns-in_default
returns-in_default c =
    let words = given c.args.params.now c.args.list.now c.args.evidence in
    let before = map named_as c.loop-roles.seen.items in
    let rest = c.loop-roles.rest.now in
    let here : 0 < length c.args.bytes.now = full _ (sym c.is_empty.ensures ∙ c.if-is_empty.false) in
    let more : 0 < length c.loop-roles.rest.now = full _ (sym c.is_empty-in-loop-roles.ensures ∙ c.loop-roles-test.true) in
    let count = length-map c.loop-roles.lines.items (λ line. map (λ n. n.now) line.items) in
    let few = fewer c.len-in_default.result (omega (arith, c.loop-roles.invariant.few, c.len-in_default.ensures, c.loop-roles.lines.ok))
    (λ all. c.if-len-eq-MOST_LINKS.false (omega (arith, all, c.len.ensures, c.len-in_default.ensures))) in
    rw c.wrong-in_default.ensures
    (refused words c.args.bytes.now (texts c.loop-roles.lines.items) before rest (Open rest) [] cause.Line c.len-in_default.result
    here (omega (arith, count, c.len-in_default.ensures, c.loop-roles.lines.ok)) (line-open rest c.in_default.ensures.is more)
    (no-text _ c.len-in_default.result before rest few) c.loop-roles.invariant.goes)

pub returns-in_default-2 : goal.returns-in_default-2
returns-in_default-2 c =
    let words = given c.args.params.now c.args.list.now c.args.evidence in
    let before = map named_as c.loop-roles.seen.items in
    let rest = c.loop-roles.rest.now in
    let here : 0 < length c.args.bytes.now = full _ (sym c.is_empty.ensures ∙ c.if-is_empty.false) in
    let more : 0 < length c.loop-roles.rest.now = full _ (sym c.is_empty-in-loop-roles.ensures ∙ c.loop-roles-test.true) in
    let count = length-map c.loop-roles.lines.items (λ line. map (λ n. n.now) line.items) in
    let few = fewer c.len-in_default-2.result (omega (arith, c.loop-roles.invariant.few, c.len-in_default-2.ensures, c.loop-roles.lines.ok))
    (λ all. c.if-len-eq-MOST_LINKS.false (omega (arith, all, c.len.ensures, c.len-in_default-2.ensures))) in
    let as_texts : Option (Vec (Bor (List ℕ)) Global) → Option (List (List ℕ)) = option_map (λ ns. map (λ n. n.now) ns.items) in
    let given_names = c.in_ok-names.ensures ∙ ap (λ roles. names_in (length roles) (Ended c.in-Some.text.now)) c.roles_for-roles.ensures in
    rw c.wrong-in_default-2.ensures
    (refused words c.args.bytes.now (texts c.loop-roles.lines.items) before rest (Ended c.in-Some.text.now) (lines_of c.in-Some.behind.now) cause.Line c.len-in_default-2.result
    here (omega (arith, count, c.len-in_default-2.ensures, c.loop-roles.lines.ok)) (line-ended rest c.in-Some.text.now c.in-Some.behind.now c.in-Some.ensures.is)
    (no-names _ c.len-in_default-2.result before (Ended c.in-Some.text.now) few (ap as_texts (sym c.in_default-2.is) ∙ given_names)) c.loop-roles.invariant.goes)

pub returns-then-has_clash : goal.returns-then-has_clash
returns-then-has_clash c =
    let words = given c.args.params.now c.args.list.now c.args.evidence in
    let before = map named_as c.loop-roles.seen.items in
    let rest = c.loop-roles.rest.now in
    let here : 0 < length c.args.bytes.now = full _ (sym c.is_empty.ensures ∙ c.if-is_empty.false) in
    let more : 0 < length c.loop-roles.rest.now = full _ (sym c.is_empty-in-loop-roles.ensures ∙ c.loop-roles-test.true) in
    let count = length-map c.loop-roles.lines.items (λ line. map (λ n. n.now) line.items) in
    let few = fewer c.len-then-has_clash.result (omega (arith, c.loop-roles.invariant.few, c.len-then-has_clash.ensures, c.loop-roles.lines.ok))
    (λ all. c.if-len-eq-MOST_LINKS.false (omega (arith, all, c.len.ensures, c.len-then-has_clash.ensures))) in
    let as_texts : Option (Vec (Bor (List ℕ)) Global) → Option (List (List ℕ)) = option_map (λ ns. map (λ n. n.now) ns.items) in
    let given_names = c.in_ok-names.ensures ∙ ap (λ roles. names_in (length roles) (Ended c.in-Some.text.now)) c.roles_for-roles.ensures in
    let names = map (λ n. n.now) c.in-Some-2.names.items in
    let now = map named_as c.add_names.new.seen.items in
    let grown = added (roles_for words.evidence) c.roles_for-roles.result.now before names now c.roles_for-roles.ensures
    (c.in_ok-add_names.ensures ∙ ap (λ ns. before ++ with_roles c.roles_for-roles.result.now (map (λ n. n.now) ns)) c.as_slice.ensures.value) in
    let tested = ap has_clash (sym grown) ∙ ap (λ ns. has_clash (map named_as ns)) (sym c.as_slice-in-loop-roles.ensures.value) ∙ sym c.has_clash.ensures in
    rw c.wrong-then-has_clash.ensures
    (refused words c.args.bytes.now (texts c.loop-roles.lines.items) before rest (Ended c.in-Some.text.now) (lines_of c.in-Some.behind.now) cause.Output c.len-then-has_clash.result
    here (omega (arith, count, c.len-then-has_clash.ensures, c.loop-roles.lines.ok)) (line-ended rest c.in-Some.text.now c.in-Some.behind.now c.in-Some.ensures.is)
    (clashes _ c.len-then-has_clash.result before (Ended c.in-Some.text.now) names few (ap as_texts (sym c.in-Some-2.is) ∙ given_names)
    (tested ∙ c.if-has_clash.true)) c.loop-roles.invariant.goes)

pub loop-roles-smaller : goal.loop-roles-smaller
loop-roles-smaller c =
    shorter c.loop-roles.rest.now c.in-Some.text.now c.in-Some.behind.now
    (line-ended c.loop-roles.rest.now c.in-Some.text.now c.in-Some.behind.now c.in-Some.ensures.is)

pub loop-roles-preserved : goal.loop-roles-preserved
loop-roles-preserved c =
    let words = given c.args.params.now c.args.list.now c.args.evidence in
    let before = map named_as c.loop-roles.seen.items in
    let rest = c.loop-roles.rest.now in
    let behind = c.in-Some.behind.now in
    let xs = texts c.loop-roles.lines.items in
    let count = length-map c.loop-roles.lines.items (λ line. map (λ n. n.now) line.items) in
    let most = fewer (length xs) (omega (arith, count, c.loop-roles.invariant.few))
    (λ all. c.if-len-eq-MOST_LINKS.false (omega (arith, all, count, c.len.ensures, c.loop-roles.lines.ok))) in
    let as_texts : Option (Vec (Bor (List ℕ)) Global) → Option (List (List ℕ)) = option_map (λ ns. map (λ n. n.now) ns.items) in
    let given_names = c.in_ok-names.ensures ∙ ap (λ roles. names_in (length roles) (Ended c.in-Some.text.now)) c.roles_for-roles.ensures in
    let names = map (λ n. n.now) c.in-Some-2.names.items in
    let now = map named_as c.add_names.new.seen.items in
    let grown = added (roles_for words.evidence) c.roles_for-roles.result.now before names now c.roles_for-roles.ensures
    (c.in_ok-add_names.ensures ∙ ap (λ ns. before ++ with_roles c.roles_for-roles.result.now (map (λ n. n.now) ns)) c.as_slice.ensures.value) in
    let tested = ap has_clash (sym grown) ∙ ap (λ ns. has_clash (map named_as ns)) (sym c.as_slice-in-loop-roles.ensures.value) ∙ sym c.has_clash.ensures in
    let line = good _ (length xs) before (Ended c.in-Some.text.now) names most (ap as_texts (sym c.in-Some-2.is) ∙ given_names)
    (tested ∙ c.if-has_clash.false) in
    let on = goes_on (roles_for words.evidence) (names_of_words words) c.args.bytes.now xs before rest behind (Ended c.in-Some.text.now) names
    (line-ended rest c.in-Some.text.now behind c.in-Some.ensures.is) line c.loop-roles.invariant.goes in
    let lines = ap texts c.in_ok-push.ensures.items ∙ map-append (λ line. map (λ n. n.now) line.items) c.loop-roles.lines.items (c.in-Some-2.names ∷ []) in
    record {
      goes = subst (λ ys. Goes (roles_for words.evidence) (names_of_words words) c.args.bytes.now ys now behind) (sym lines)
          (subst (λ ns. Goes (roles_for words.evidence) (names_of_words words) c.args.bytes.now (xs ++ names ∷ []) ns behind) (sym grown) on);
      few = omega (arith, most, count, ap length c.in_ok-push.ensures.items, length_push c.loop-roles.lines.items c.in-Some-2.names);
    }

pub returns : goal.returns
returns c =
    let words = given c.args.params.now c.args.list.now c.args.evidence in
    some words c.args.bytes.now (full _ (sym c.is_empty.ensures ∙ c.if-is_empty.false))
    ∙ ends (roles_for words.evidence) (names_of_words words) c.args.bytes.now (texts c.loop-roles.lines.items)
    (map named_as c.loop-roles.seen.items) c.loop-roles.rest.now
    (eqb-true _ 0 (sym c.is_empty-in-loop-roles.ensures ∙ c.loop-roles-test.false)) c.loop-roles.invariant.goes
