-- What the row of an operation asks of its batch.
use Rattle.complete_rows.proofs.Words
use Words.{◌≡◌, ℕ, ◌+◌, ◌-◌, ◌/◌, ◌%◌, ◌<◌, ◌==◌, Bool, true, false, ◌&&◌, cond, eqb, List, [], ◌∷◌, length, slice_index, refl, sym, ap}
use Words.{◌∙◌, arith, ne_eqb, Core, code_of, is_ordinary_op, push_item, left_cells, performed, seen, computed, Item, Op, code_of-below, counted, gc, h, ha, s}
use Words.{sp, Task, Within, groups_asked, opens_group, rest_flag, ReadsAs, ReadsOn, Unread, taken_from, Comes}
use Words.ops
use Words.flags
use Rattle.std.proofs.lemmas.Bool.{eq-eqb}
use Rattle.vm_ops.specs.Step.{stack_after}
use Rattle.facts_main.specs.Groups.{IsGroupRow}
use Rattle.facts_main.proofs.RunFacts.{nothing_left}
use Rattle.complete_rows.proofs.AgreeLemmas.{apart_from_push, is_push, takes_next}
use Rattle.complete_rows.proofs.GroupLemmas.{after_goes, after_opens, after_push, none_next, other_code, same_code, some_next, some_of}
use Rattle.complete_rows.proofs.ReadingLemmas.{Takes, pushes, goes, opens, ends}
use Rattle.complete_buses.proofs.GroupTuples.{group_asks, none_asked, positions_given, push_asks}
use Rattle.complete_buses.proofs.Hits.{hit}

-- what PUSH leaves on top
push_cell : (constants advice : List ℕ) (position : ℕ) (c : Core)
    → slice_index (performed ops.Push (seen constants (push_item position) advice c) c).stack 0 ≡ position
unfolding stack_after left_cells computed
push_cell constants advice position c = refl

pub pushed : (constants advice : List ℕ) (position : ℕ) (item : Item) (c : Core) → item ≡ push_item position
    → slice_index (performed item.op (seen constants item advice c) c).stack 0 ≡ position
pushed constants advice position item c is =
    ap (λ i. slice_index (performed i.op (seen constants i advice c) c).stack 0) is ∙ push_cell constants advice position c

-- the row of an operation, and the row behind it
pub record Operates (constants advice : List ℕ) (item : Item) (address : ℕ) (u : Unread) (c : Core) (x y : List ℕ) : Type 0 where
  pub op : flags.op_of x ≡ item.op
  pub ordinary : is_ordinary_op item.op ≡ true
  pub reads : ReadsAs (flags.op_of x) x
  pub group : IsGroupRow (flags.op_of x) x
  pub inside : sp y ≡ cond (is_ordinary_op (flags.op_of y)) 1 0
  pub batch : ha x ≡ address
  pub left : gc x ≡ length u.positions
  pub number : h x 0 ≡ u.number
  pub top : s y 0 ≡ slice_index (performed item.op (seen constants item advice c) c).stack 0
  pub next : is_ordinary_op (flags.op_of y) ≡ true → h y 0 ≡ (taken_from (flags.is_op item.op ops.Push) u).number

after_ends : (op : Op) (u : Unread) → flags.is_op op ops.Push ≡ false → u.number / 128 ≡ 0 → u.positions ≡ []
    → (taken_from (flags.is_op op ops.Push) u).positions ≡ []
after_ends op u apart none at = rw (apart, none, at) refl

taking : (address position : ℕ) (later positions : List ℕ) (u : List ℕ) → positions ≡ position ∷ later
    → positions_given address positions u ≡ hit (address ∷ length positions ∷ position ∷ []) u + positions_given address later u
unfolding positions_given
taking address position later positions u at = rw at refl

module _ (constants advice : List ℕ) where
  -- a position is asked where one is taken
  pub operation_asks : (item : Item) (items : List Item) (more : List (List ℕ)) (digest : List ℕ) (todo : List Task) (c after : Core) (address : ℕ)
      (u : Unread) (x y tuple : List ℕ) → Operates constants advice item address u c x y → ReadsOn (item ∷ items) u
      → Comes constants (Within items more digest ∷ todo) after (flags.op_of y)
      → positions_given address u.positions tuple
      ≡ counted (groups_asked x y) tuple + positions_given address (taken_from (flags.is_op item.op ops.Push) u).positions tuple
  operation_asks item items more digest todo c after address u x y tuple shows reads comes = go (takes_next item items u reads)
    where
      inside : (b : Bool) → is_ordinary_op (flags.op_of y) ≡ b → (sp y == 1) ≡ b
      inside true is = rw (shows.inside, is) refl
      inside false is = rw (shows.inside, is) refl

      few : code_of item.op < 128
      few = let below = code_of-below item.op in omega (arith, below)

      nothing : (b : Bool) → eqb u.number (code_of item.op) ≡ b → (rest_flag x == 0) ≡ b
      nothing b is =
          nothing_left (flags.op_of x) x shows.reads shows.group ∙ ap (λ o. eqb (h x 0) (code_of o)) shows.op
          ∙ ap (λ n. eqb n (code_of item.op)) shows.number ∙ is

      opens_is : (b c : Bool) → eqb u.number (code_of item.op) ≡ b → is_ordinary_op (flags.op_of y) ≡ c → opens_group x y ≡ (b && c)
      opens_is b c left is =
          rw (ap (λ o. is_ordinary_op o) shows.op ∙ shows.ordinary, nothing b left, inside c is) refl

      same_number : u.number ≡ code_of item.op → eqb u.number (code_of item.op) ≡ true
      same_number e = eq-eqb u.number (code_of item.op) e

      go : Takes item items u.positions (8 - u.place) u.number → positions_given address u.positions tuple
          ≡ counted (groups_asked x y) tuple + positions_given address (taken_from (flags.is_op item.op ops.Push) u).positions tuple
      go (pushes position behind at is digit e) =
          let push : flags.is_op item.op ops.Push ≡ true = is_push item position is in
          let asked = push_asks x y tuple shows.op push shows.batch shows.left
          (shows.top ∙ pushed constants advice position item c is) in
          let kept = ap (λ (z : Unread). positions_given address z.positions tuple) (after_push item.op u position behind push at) in
          let taken = taking address position behind u.positions tuple at in omega (arith, asked, kept, taken)
      go (goes lower code some e) =
          let apart : flags.is_op item.op ops.Push ≡ false = apart_from_push item.op (u.number % 128) code lower in
          let left : eqb u.number (code_of item.op) ≡ false = ne_eqb u.number (code_of item.op) (other_code u.number (code_of item.op) few some) in
          let asked = none_asked x y tuple shows.op apart (opens_is false (is_ordinary_op (flags.op_of y)) left refl) in
          let kept = ap (λ (z : Unread). positions_given address z.positions tuple) (after_goes item.op u apart some) in omega (arith, asked, kept)
      go (opens position behind lower code none at e) =
          let apart : flags.is_op item.op ops.Push ≡ false = apart_from_push item.op (u.number % 128) code lower in
          let left : eqb u.number (code_of item.op) ≡ true = same_number (same_code u.number (code_of item.op) code none) in
          let ordinary : is_ordinary_op (flags.op_of y) ≡ true
          = some_next constants items more digest todo after (flags.op_of y) (some_of behind 9 position items e) comes in
          let opened = after_opens item.op u position behind apart none at in
          let asked = group_asks x y tuple shows.op apart (opens_is true true left ordinary) shows.batch
          shows.left (shows.next ordinary ∙ ap (λ (z : Unread). z.number) opened) in
          let kept = ap (λ (z : Unread). positions_given address z.positions tuple) opened in
          let taken = taking address position behind u.positions tuple at in omega (arith, asked, kept, taken)
      go (ends lower code none at no_items) =
          let apart : flags.is_op item.op ops.Push ≡ false = apart_from_push item.op (u.number % 128) code lower in
          let left : eqb u.number (code_of item.op) ≡ true = same_number (same_code u.number (code_of item.op) code none) in
          let outside : is_ordinary_op (flags.op_of y) ≡ false = none_next constants items more digest todo after (flags.op_of y) no_items comes in
          let asked = none_asked x y tuple shows.op apart (opens_is true false left outside) in
          let kept = ap (λ places. positions_given address places tuple) (after_ends item.op u apart none at ∙ sym at) in omega (arith, asked, kept)
