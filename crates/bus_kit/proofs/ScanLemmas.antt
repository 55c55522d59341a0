-- The pass over a map's entries finds the least tuple apart.
use Rattle.std.proofs.Common.{◌≡◌, ◌≢◌, ℕ, ◌==◌, true, false, cond, List, [], ◌∷◌, Option, Some, None, All, IfSome, fold, nat_eq, nat_cmp, Ordering, Less, Equal, Greater, unwrap_or, option_map, refl, sym, ap, ◌∙◌, subst}
use Rattle.std.specs.Ordering.{is_lt, ordering_reverse}
use Rattle.std.specs.Cmp.{IsTotalOrder}
use Rattle.std.specs.Cmp.Lexicographic.{slice_cmp, texts_ties}
use Rattle.std.specs.Map.{lookup}
use Rattle.std.specs.HashMap.{HashMap, get}
use Rattle.std.proofs.lemmas.Cmp.{nat_list_cmp_total}
use Rattle.std.proofs.lemmas.Bool.{eqb-true, eqb-false}
use Rattle.std.proofs.lemmas.List.Elements.{All-head, All-tail}
use lib.Pointwise.{pointwise}
use Rattle.bus_kit.specs.Counting.{both_in}
use Rattle.bus_kit.specs.declared.tuple.Unequal.{Unequal}
use Rattle.bus_kit.specs.Scanning.{lesser, scanned, told, IsAnswerOf}

abbrev Entry : Type 0
Entry = List ℕ × (ℕ × ℕ)

-- the tuple is lesser than the best, if there is one
abbrev Below : List ℕ → Option Entry → Type 0
Below u None = Unit {0}
Below u (Some best) = slice_cmp nat_cmp u best.0 ≡ Less

-- both counts of a tuple in a list of entries
abbrev look : List Entry → List ℕ → ℕ × ℕ
look es u = unwrap_or (lookup (pointwise nat_eq u) es) (0, 0)

-- a lesser tuple is another one
apart_from_less : (u v : List ℕ) → slice_cmp nat_cmp u v ≡ Less → pointwise nat_eq u v ≡ false
apart_from_less u v h = rw (texts_ties u v, h) refl

-- what is less than one value is less than each that is not
pub less_than_rest : {K : Type 0} {R : K → K → Ordering} → IsTotalOrder R → (u v w : K) → R u w ≡ Less → is_lt (R v w) ≡ false → R u v ≡ Less
less_than_rest {K} {R} o u v w h e =
    elim (R v w) as (λ r. R v w ≡ r → is_lt r ≡ false → R u v ≡ Less) [
      | Less ↦ λ _ k. cc
      | Equal ↦ λ same _. o.antisymm u v ∙ ap ordering_reverse (o.congr v w u same ∙ o.antisymm w u ∙ ap ordering_reverse h)
      | Greater ↦ λ more _. o.trans u w v h (o.antisymm w v ∙ ap ordering_reverse more)
    ] refl e

pub less_from_is_lt : (r : Ordering) → is_lt r ≡ true → r ≡ Less
less_from_is_lt Less e = refl
less_from_is_lt Equal e = cc
less_from_is_lt Greater e = cc

below_lesser : (u : List ℕ) (e : Entry) (best : Option Entry) → Below u (lesser e best) → Below u best × (pointwise nat_eq u e.0 ≡ false)
below_lesser u e None h = (tt, apart_from_less u e.0 h)
below_lesser u e (Some best) h =
    elim (is_lt (slice_cmp nat_cmp e.0 best.0)) as
    (λ b. is_lt (slice_cmp nat_cmp e.0 best.0) ≡ b → Below u (cond b (Some e) (Some best))
    → Below u (Some best) × (pointwise nat_eq u e.0 ≡ false)) [
      | true ↦
          λ less below. (
            nat_list_cmp_total.trans u e.0 best.0 below (less_from_is_lt (slice_cmp nat_cmp e.0 best.0) less),
            apart_from_less u e.0 below,
          )
      | false ↦ λ more below. (below, apart_from_less u e.0 (less_than_rest nat_list_cmp_total u e.0 best.0 below more))
    ] refl h

-- what is lesser than the best of some entries is lesser than the best before, and alike in the entries
scan_below : (u : List ℕ) (es : List Entry) (best : Option Entry) → Below u (fold scanned best es) → Below u best × ((look es u).0 ≡ (look es u).1)
scan_below u [] best h = (h, refl)
scan_below u (e ∷ es) best h =
    let rest = scan_below u es (scanned best e) h in
    elim (e.1.0 == e.1.1) as (λ b. (e.1.0 == e.1.1) ≡ b → Below u (cond b best (lesser e best))
    → Below u best × ((look (e ∷ es) u).0 ≡ (look (e ∷ es) u).1)) [
      | true ↦
          λ alike below. (
            below,
            elim (pointwise nat_eq u e.0) as
                (λ b. (unwrap_or (cond b (Some e.1) (lookup (pointwise nat_eq u) es)) (0, 0)).0
                ≡ (unwrap_or (cond b (Some e.1) (lookup (pointwise nat_eq u) es)) (0, 0)).1)
                [ true ↦ eqb-true e.1.0 e.1.1 alike | false ↦ rest.1 ],
          )
      | false ↦ λ apart below. let both = below_lesser u e best below in (both.0, rw both.1 rest.1)
    ] refl rest.0

lesser_keeps : (P : Entry → Type 0) (e : Entry) (best : Option Entry) → P e → (e.1.0 ≢ e.1.1)
    → IfSome best (λ e. P e × (e.1.0 ≢ e.1.1)) → IfSome (lesser e best) (λ e. P e × (e.1.0 ≢ e.1.1))
lesser_keeps P e None p apart had = (p, apart)
lesser_keeps P e (Some best) p apart had =
    elim (is_lt (slice_cmp nat_cmp e.0 best.0)) as (λ b. IfSome (cond b (Some e) (Some best)) (λ e. P e × (e.1.0 ≢ e.1.1)))
    [ true ↦ (p, apart) | false ↦ had ]

-- what holds of each entry holds of the best, which is apart
scan_keeps : (P : Entry → Type 0) (es : List Entry) (best : Option Entry) → All P es → IfSome best (λ e. P e × (e.1.0 ≢ e.1.1))
    → IfSome (fold scanned best es) (λ e. P e × (e.1.0 ≢ e.1.1))
scan_keeps P [] best all had = had
scan_keeps P (e ∷ es) best all had = scan_keeps P es (scanned best e) (All-tail P e es all)
    (elim (e.1.0 == e.1.1) as (λ b. (e.1.0 == e.1.1) ≡ b → IfSome (cond b best (lesser e best)) (λ e. P e × (e.1.0 ≢ e.1.1))) [
      | true ↦ λ _. had
      | false ↦ λ apart. lesser_keeps P e best (All-head P e es all) (eqb-false e.1.0 e.1.1 apart) had
    ] refl)

-- the pass over a map's entries finds the least tuple apart
pub scan_is : {S : Type 0} (m : HashMap (List ℕ) (ℕ × ℕ) S) (r : Option Entry) → fold scanned None m.entries ≡ r
    → All (λ e. get (pointwise nat_eq) m e.0 ≡ Some e.1) m.entries → IsAnswerOf (both_in m) (option_map told r)
scan_is m None is found = λ u. (scan_below u m.entries None (rw is tt)).1
scan_is m (Some e) is found =
    let kept : IfSome (Some e) (λ e. (get (pointwise nat_eq) m e.0 ≡ Some e.1) × (e.1.0 ≢ e.1.1)) =
    subst (λ r. IfSome r (λ e. (get (pointwise nat_eq) m e.0 ≡ Some e.1) × (e.1.0 ≢ e.1.1))) is
    (scan_keeps (λ e. get (pointwise nat_eq) m e.0 ≡ Some e.1) m.entries None found tt) in
    let both : both_in m e.0 ≡ e.1 = ap (λ o. unwrap_or o (0, 0)) kept.0 in
    record {
      asked_is = ap (λ k. k.0) (sym both);
      given_is = ap (λ k. k.1) (sym both);
      apart = kept.1;
      least = λ u h. (scan_below u m.entries None (rw is h)).1;
    }

-- the same of what the best is told as, behind a pass that has nothing left
pub scan_told : {S : Type 0} (m : HashMap (List ℕ) (ℕ × ℕ) S) (r : Option Entry) (rest : List Entry) (x : Option Unequal)
    → fold scanned r rest ≡ fold scanned None m.entries → rest ≡ [] → All (λ e. get (pointwise nat_eq) m e.0 ≡ Some e.1) m.entries
    → x ≡ option_map told r → IsAnswerOf (both_in m) x
scan_told m r rest x is none found as_told = rw as_told (scan_is m r (sym is ∙ ap (fold scanned r) none) found)
