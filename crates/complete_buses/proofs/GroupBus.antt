-- The bus of groups is even: a batch gives its positions, and each is asked where it is taken.
use Rattle.complete_rows.proofs.Words
use Words.{◌≡◌, ℕ, ◌+◌, ◌-◌, true, cond, List, ◌∷◌, ◌++◌, refl, ap, ◌∙◌, arith, lit<, Core, is_ordinary_op, counted, gc, sp, positions_in_use, Mark, Do, Task}
use Words.{Next, span, operation, respan, groups_asked, groups_given, is_batch_op, positions, shown_between, Event, IsPair, IsRow, ReadsAs, Agrees, Decoder}
use Words.{advance, Unread, nothing_unread, Comes}
use Words.flags
use Rattle.complete_rows.proofs.AgreeLemmas.{ordinary_advance}
use Rattle.complete_rows.proofs.PairLemmas.{no_batch}
use Rattle.complete_buses.proofs.GroupAsks.{operation_asks}
use Rattle.complete_buses.proofs.GroupTuples.{batch_gives, none_given, none_outside, positions_given}
use Rattle.complete_buses.proofs.PairShown.{Pair}

-- the facts of a row and of the row behind it
pub record GroupPair (x y : List ℕ) : Type 0 where
  pub reads : ReadsAs (flags.op_of x) x
  pub row : IsRow (flags.op_of x) x
  pub pair : IsPair (flags.op_of x) (flags.op_of y) x y
  pub inside : sp y ≡ cond (is_ordinary_op (flags.op_of y)) 1 0

-- what is given and not yet asked: the positions that are left
abbrev pub owed_groups : Decoder → List ℕ → ℕ
owed_groups d u = positions_given d.ha d.unread.positions u

pub nothing_owed : (address : ℕ) (v : Unread) (u : List ℕ) → v ≡ nothing_unread → positions_given address v.positions u ≡ 0
unfolding positions_given
nothing_owed address v u is = ap (λ z. positions_given address z.positions u) is

left_of : (n left many : ℕ) → n + 1 ≡ left → n ≡ many → left - 1 ≡ many
left_of n left many is e = omega (arith, is, e)

module _ {constants : List ℕ} {kernel : List (List ℕ)} {advice : List ℕ} {b : Core} {d : Decoder} {events : List Event} {todo : List Task}
    {x y : List ℕ} (after : Core) (u : List ℕ) where
  pub groups_pair : {task : Task} {c : Core} {mark : Mark} {rest : List Task} → Next constants task c mark rest
      → Pair constants kernel mark advice c b d events x y → GroupPair x y → Agrees (task ∷ todo) d c
      → Comes constants (rest ++ todo) after (flags.op_of y)
      → counted (groups_given x y) u + owed_groups d u
      ≡ counted (groups_asked x y) u + owed_groups (advance d (shown_between mark advice c b) events) u
  groups_pair (span {batch = batch} read) p g agrees comes =
      let many = left_of (gc y) (positions x) _ (g.pair.opens (ap (λ o. is_batch_op o) p.op)).left p.next.left in
      let given = batch_gives x y u batch (positions_in_use batch) p.op refl refl refl p.next.batch many p.whole.size p.hash in
      omega (arith, given, nothing_owed d.ha d.unread u agrees.reads.0)
  groups_pair (respan {batch = batch} read) p g agrees comes =
      let many = left_of (gc y) (positions x) _ (g.pair.opens (ap (λ o. is_batch_op o) p.op)).left p.next.left in
      let given = batch_gives x y u batch (positions_in_use batch) p.op refl refl refl p.next.batch many p.whole.size p.hash in
      omega (arith, given, nothing_owed d.ha d.unread u agrees.reads.0)
  groups_pair (operation {c = c} {item = item} {items = items} {later = more} {digest = digest}) p g agrees comes =
      let moved = ordinary_advance d (shown_between (Do item) advice c b) events p.whole.ordinary in
      let ordinary : is_ordinary_op (flags.op_of x) ≡ true = ap (λ o. is_ordinary_op o) p.op ∙ p.whole.ordinary in
      let given = none_given x y u p.op (no_batch item.op p.whole.ordinary) in
      let asked = operation_asks constants advice item items more digest todo c after d.ha d.unread x y u (record {
        op = p.op;
        ordinary = p.whole.ordinary;
        reads = g.reads;
        group = g.row.group ordinary;
        inside = g.inside;
        batch = p.here.batch;
        left = p.here.left;
        number = p.here.number ordinary;
        top = p.next.cells 0 (lit< tt);
        next = λ is. p.next.number is ∙ ap (λ (z : Decoder). z.unread.number) moved;
      }) agrees.reads.0 comes in
      let kept = ap (λ (z : Decoder). positions_given z.ha z.unread.positions u) moved in omega (arith, given, asked, kept)
  groups_pair {c = c} {mark = mark} next p g agrees comes =
      let before = nothing_owed d.ha d.unread u agrees.reads.0 in
      let behind = nothing_owed (advance d (shown_between mark advice c b) events).ha d.unread u agrees.reads.0 in
      omega (arith, none_given x y u p.op refl, none_outside x y u p.op refl refl, before, behind)
