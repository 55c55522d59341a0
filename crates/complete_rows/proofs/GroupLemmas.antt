-- A row of an ordinary operation takes its digit of the group, and the row behind it shows what is left.
use Rattle.complete_rows.proofs.Words
use Words.{◌≡◌, ◌≢◌, ℕ, zero, suc, ◌+◌, ◌-◌, ◌/◌, ◌%◌, ◌<◌, ◌≤◌, true, false, ◌||◌, List, [], ◌∷◌, length, Some, refl, sym, ap, ◌∙◌, subst, arith, eqb-true}
use Words.{prime, felt_inv, Core, ◌⊞◌, ◌⊟◌, ◌⊠◌, felt_mul-felt_inv, code_of, is_ordinary_op, Item, Op, code_of-below, h, gc, ox, w, read_on, Task, Within}
use Words.{is_op, IsLowUnread, ReadsOn, Unread, group_after, taken_from, Comes}
use Words.ops
use Rattle.facts_main.specs.Groups as groups
use Rattle.facts_main.specs.Groups.{IsGroupRow, GoesOn}
use Rattle.complete_rows.proofs.AgreeLemmas.{apart_from_push, is_push, takes_next}
use Rattle.complete_rows.proofs.FollowLemmas.{closes_batch, goes_within}
use Rattle.complete_rows.proofs.ReadingLemmas.{Takes, pushes, goes, opens, ends, reads_some}

-- the witness of what is left of a group
pub witness_shown : (number code : ℕ) → number < prime → code < prime → number ≢ code → (number ⊟ code) ⊠ felt_inv (number ⊟ code) ≡ 1
witness_shown number code low few apart =
    felt_mul-felt_inv (number ⊟ code) (omega (arith, low, few, apart)) (omega arith)

-- what a row shows of what is unread
pub record ShowsUnread (u : Unread) (x : List ℕ) : Type 0 where
  pub left : gc x ≡ length u.positions
  pub place : ox x ≡ u.place

pub group_row : (op : Op) (u : Unread) (x : List ℕ) → ShowsUnread u x → h x 0 ≡ u.number → w x 3 ≡ felt_inv (u.number ⊟ code_of op)
    → u.number < prime → u.place ≤ 8 → IsGroupRow op x
group_row op u x shows number witness low place = record {
  place = rw shows.place place;
  witness = λ apart. rw (number, witness)
      (witness_shown u.number (code_of op) low (let few = code_of-below op in omega (arith, few)) (λ e. apart (number ∙ e)));
}

digit_of : (number code rest : ℕ) → code ≡ number % 128 → rest ≡ number / 128 → number < prime → number ≡ code ⊞ 128 ⊠ rest
digit_of number code rest is of low = omega (arith, is, of, low)

-- the next place, and one position fewer
next_place : (place : ℕ) → place ≤ 8 → place + 1 ≡ place ⊞ 1
next_place place low = omega (arith, low)

one_fewer : (n : ℕ) → suc n ≤ 7 → suc n ≡ n ⊞ 1
one_fewer n few = omega (arith, few)

push_code_is : (item : Item) (number : ℕ) → is_op item.op ops.Push ≡ true → number % 128 ≡ 69 → code_of item.op ≡ number % 128
push_code_is item number is e = eqb-true (code_of item.op) 69 is ∙ sym e

-- ---- what is left, by what was taken

pub after_push : (op : Op) (u : Unread) (position : ℕ) (later : List ℕ) → is_op op ops.Push ≡ true → u.positions ≡ position ∷ later
    → taken_from (is_op op ops.Push) u ≡ record { number = u.number / 128; place = u.place + 1; positions = later }
after_push op u position later push at = rw (push, at) refl

going : (n place : ℕ) (positions : List ℕ) → n ≢ 0
    → group_after false n place positions ≡ record { number = n; place = place + 1; positions = positions }
going zero place positions some = absurd (some refl)
going (suc n) place positions some = refl

pub after_goes : (op : Op) (u : Unread) → is_op op ops.Push ≡ false → u.number / 128 ≢ 0
    → taken_from (is_op op ops.Push) u ≡ record { number = u.number / 128; place = u.place + 1; positions = u.positions }
after_goes op u apart some = rw apart (going (u.number / 128) u.place u.positions some)

pub after_opens : (op : Op) (u : Unread) (position : ℕ) (later : List ℕ) → is_op op ops.Push ≡ false → u.number / 128 ≡ 0
    → u.positions ≡ position ∷ later → taken_from (is_op op ops.Push) u ≡ record { number = position; place = 0; positions = later }
after_opens op u position later apart none at = rw (apart, none, at) refl

-- ---- what comes behind

pub some_of : (positions : List ℕ) (room number : ℕ) (items : List Item) → read_on positions room number ≡ Some items → items ≢ []
some_of positions room number items e none = reads_some positions room number (e ∙ ap Some none)

pub same_code : (number code : ℕ) → code ≡ number % 128 → number / 128 ≡ 0 → number ≡ code
same_code number code is none = omega (arith, is, none)

pub other_code : (number code : ℕ) → code < 128 → number / 128 ≢ 0 → number ≢ code
other_code number code few some e = omega (arith, few, some, e)

module _ (constants : List ℕ) where
  pub some_next : (items : List Item) (later : List (List ℕ)) (digest : List ℕ) (todo : List Task) (c : Core) (next : Op)
      → items ≢ [] → Comes constants (Within items later digest ∷ todo) c next → is_ordinary_op next ≡ true
  some_next [] later digest todo c next some comes = absurd (some refl)
  some_next (item ∷ items) later digest todo c next some comes = goes_within constants item items later digest todo c next comes

  pub none_next : (items : List Item) (later : List (List ℕ)) (digest : List ℕ) (todo : List Task) (c : Core) (next : Op)
      → items ≡ [] → Comes constants (Within items later digest ∷ todo) c next → is_ordinary_op next ≡ false
  none_next [] later digest todo c next none comes = (closes_batch constants later digest todo c next comes).0
  none_next (item ∷ items) later digest todo c next none comes = cc

  pub within_follow : (items : List Item) (later : List (List ℕ)) (digest : List ℕ) (todo : List Task) (c : Core) (next : Op)
      → Comes constants (Within items later digest ∷ todo) c next
      → is_ordinary_op next || is_op next ops.End || is_op next ops.Respan ≡ true
  within_follow [] later digest todo c next comes =
      let closes = closes_batch constants later digest todo c next comes in rw closes.0 closes.1
  within_follow (item ∷ items) later digest todo c next comes = rw (goes_within constants item items later digest todo c next comes) refl

  pub goes_on_shown : (item : Item) (items : List Item) (later : List (List ℕ)) (digest : List ℕ) (todo : List Task) (c : Core) (next : Op)
      (u : Unread) (x y : List ℕ) → ReadsOn (item ∷ items) u → IsLowUnread u → ShowsUnread u x → h x 0 ≡ u.number
      → ShowsUnread (taken_from (is_op item.op ops.Push) u) y
      → (is_ordinary_op next ≡ true → h y 0 ≡ (taken_from (is_op item.op ops.Push) u).number)
      → Comes constants (Within items later digest ∷ todo) c next → GoesOn item.op next x y
  goes_on_shown item items later digest todo c next u x y reads low sx number sy number_next comes = go (takes_next item items u reads)
    where
      few : code_of item.op < 128
      few = let below = code_of-below item.op in omega (arith, below)

      placed : u.place + 1 ≡ ox x ⊞ 1
      placed = next_place u.place reads.1 ∙ ap (λ n. n ⊞ 1) (sym sx.place)

      -- the place and the positions of the row behind
      place_is : (v : Unread) → taken_from (is_op item.op ops.Push) u ≡ v → ox y ≡ v.place
      place_is v e = sy.place ∙ ap (λ z. z.place) e

      left_is : (v : Unread) → taken_from (is_op item.op ops.Push) u ≡ v → gc y ≡ length v.positions
      left_is v e = sy.left ∙ ap (λ z. length z.positions) e

      number_is : (v : Unread) → taken_from (is_op item.op ops.Push) u ≡ v → is_ordinary_op next ≡ true → h y 0 ≡ v.number
      number_is v e is = number_next is ∙ ap (λ z. z.number) e

      fewer : (position : ℕ) (behind : List ℕ) → u.positions ≡ position ∷ behind → gc y ≡ length behind → gc x ≡ gc y ⊞ 1
      fewer position behind at left =
          let most : suc (length behind) ≤ 7 = subst (λ n. n ≤ 7) (ap length at) low.few in
          sx.left ∙ ap length at ∙ one_fewer (length behind) most ∙ ap (λ n. n ⊞ 1) (sym left)

      digit : code_of item.op ≡ u.number % 128 → h y 0 ≡ u.number / 128 → h x 0 ≡ code_of item.op ⊞ 128 ⊠ h y 0
      digit code rest = number ∙ digit_of u.number (code_of item.op) (h y 0) code rest low.number

      go : Takes item items u.positions (8 - u.place) u.number → GoesOn item.op next x y
      go (pushes position behind at is digit_is e) =
          let push : is_op item.op ops.Push ≡ true = is_push item position is in
          let after = after_push item.op u position behind push at in
          let ordinary : is_ordinary_op next ≡ true
          = some_next items later digest todo c next (some_of behind (8 - u.place) (u.number / 128) items e) comes in
          groups.pushes push ordinary (digit (push_code_is item u.number push digit_is) (number_is _ after ordinary))
          (place_is _ after ∙ placed) (fewer position behind at (left_is _ after))
      go (goes lower code some e) =
          let apart : is_op item.op ops.Push ≡ false = apart_from_push item.op (u.number % 128) code lower in
          let after = after_goes item.op u apart some in
          let ordinary : is_ordinary_op next ≡ true
          = some_next items later digest todo c next (some_of u.positions (8 - u.place) (u.number / 128) items e) comes in
          groups.stays apart ordinary (λ same. other_code u.number (code_of item.op) few some (sym number ∙ same))
          (digit code (number_is _ after ordinary)) (place_is _ after ∙ placed) (left_is _ after ∙ sym sx.left)
      go (opens position behind lower code none at e) =
          let apart : is_op item.op ops.Push ≡ false = apart_from_push item.op (u.number % 128) code lower in
          let after = after_opens item.op u position behind apart none at in
          let ordinary : is_ordinary_op next ≡ true
          = some_next items later digest todo c next (some_of behind 9 position items e) comes in
          groups.opens apart ordinary (number ∙ same_code u.number (code_of item.op) code none) (place_is _ after)
          (fewer position behind at (left_is _ after))
      go (ends lower code none at no_items) =
          let apart : is_op item.op ops.Push ≡ false = apart_from_push item.op (u.number % 128) code lower in
          groups.ends apart (none_next items later digest todo c next no_items comes)
          (number ∙ same_code u.number (code_of item.op) code none) (sx.left ∙ ap length at)
