-- A row asks on the bus of memory what its operation requests.
use Rattle.complete_rows.proofs.Words
use Words.{◌≡◌, ℕ, ◌<◌, true, List, [], ◌∷◌, ◌++◌, length, map, drop, reverse, slice_index, unwrap_or, refl, sym, ap, ◌∙◌, subst, arith, lit<, get_or-drop}
use Words.{length-drop, number_of_constants, State, accesses_memory, left_cells, seen_at, Seen, computed, written, Item, Op, clk, ctx, s, t, Mark, Do, top}
use Words.{op_of_mark, IsCycle, memory_asked, access_given, visible_of, Event, Visible, limbs_by, limbs_of, word_rest, IsMoment, event_at, access, accesses_by}
use Words.ops
use Words.tuples
use Rattle.vm_field.proofs.Elements.{word-is}
use Rattle.vm_ops.specs.Values.{cell}
use Rattle.complete_rows.proofs.MomentFacts.{moment_event, moment_limb, moment_op, moment_shows}
use Rattle.complete_requests.proofs.AccessWords.{event_word}
use Rattle.complete_requests.proofs.Tops.{ShowsTops, moment_cell, moment_tops}

-- what a row of an operation and the row behind it show of an access
record ShowsAccess (op : Op) (sn : Seen) (e : Event) (next : Visible) (x y : List ℕ) : Type 0 where
  is : e.op ≡ op
  context : ctx x ≡ e.before.context
  clock : clk x ≡ e.before.clock
  address : cell sn 0 ≡ slice_index e.before.cells 0
  cells : (j : ℕ) → j < 16 → s x j ≡ cell sn j
  tops : ShowsTops op sn y
  limbs : (j : ℕ) → j < 10 → t x j ≡ slice_index (limbs_of e next) j
  word : accesses_memory op ≡ true → e.word ≡ unwrap_or (written op sn) sn.word
  size : length sn.word ≡ 4

-- ---- words

-- the first element from a cell, and the others from limbs
first_and_rest : (word : List ℕ) (a : ℕ) (x : List ℕ) → length word ≡ 4 → a ≡ slice_index word 0
    → ((j : ℕ) → j < 10 → t x j ≡ slice_index (drop 1 word) j) → a ∷ t x 0 ∷ t x 1 ∷ t x 2 ∷ [] ≡ word
first_and_rest word a x size first rest =
    word-is word a (t x 0) (t x 1) (t x 2) size first (rest 0 (lit< tt) ∙ get_or-drop 1 word 0 0) (rest 1 (lit< tt) ∙ get_or-drop 1 word 1 0)
    (rest 2 (lit< tt) ∙ get_or-drop 1 word 2 0)

-- a word lies on the stack with its last element on top
turned : (word y : List ℕ) → length word ≡ 4 → ((j : ℕ) → j < 4 → s y j ≡ slice_index (reverse word ++ []) j)
    → s y 3 ∷ s y 2 ∷ s y 1 ∷ s y 0 ∷ [] ≡ word
turned word y size tops =
    let parts : word ≡ slice_index word 0 ∷ slice_index word 1 ∷ slice_index word 2 ∷ slice_index word 3 ∷ []
    = sym (word-is word (slice_index word 0) (slice_index word 1) (slice_index word 2) (slice_index word 3) size refl refl refl refl) in
    word-is word (s y 3) (s y 2) (s y 1) (s y 0) size (tops 3 (lit< tt) ∙ ap (λ w. slice_index (reverse w ++ []) 3) parts)
    (tops 2 (lit< tt) ∙ ap (λ w. slice_index (reverse w ++ []) 2) parts) (tops 1 (lit< tt) ∙ ap (λ w. slice_index (reverse w ++ []) 1) parts)
    (tops 0 (lit< tt) ∙ ap (λ w. slice_index (reverse w ++ []) 0) parts)

-- ---- each operation's access

module _ {sn : Seen} {e : Event} {next : Visible} {x y : List ℕ} where
  asks : {op : Op} (kind : ℕ) {word : List ℕ} → ShowsAccess op sn e next x y → word ≡ e.word
      → tuples.access kind x word ≡ map access_given (access kind e)
  asks kind shows is = rw (shows.context, shows.cells 0 (lit< tt), shows.address, shows.clock, is) refl

  rest_of : (op : Op) → ShowsAccess op sn e next x y → limbs_by op e.before next ≡ []
      → (j : ℕ) → j < 10 → t x j ≡ slice_index (word_rest op e.word) j
  unfolding limbs_of
  rest_of op shows none j low =
      shows.limbs j low ∙ ap (λ o. slice_index (limbs_by o e.before next ++ word_rest o e.word) j) shows.is
      ∙ ap (λ l. slice_index (l ++ word_rest op e.word) j) none

  loads : ShowsAccess ops.MLoad sn e next x y → s y 0 ∷ t x 0 ∷ t x 1 ∷ t x 2 ∷ [] ≡ e.word
  unfolding left_cells computed
  loads shows =
      let word = shows.word refl in
      first_and_rest e.word (s y 0) x (ap length word ∙ shows.size) (shows.tops 0 (lit< tt) ∙ ap (λ w. slice_index w 0) (sym word))
      (rest_of ops.MLoad shows refl)

  loads_word : ShowsAccess ops.MLoadW sn e next x y → s y 3 ∷ s y 2 ∷ s y 1 ∷ s y 0 ∷ [] ≡ e.word
  unfolding left_cells computed
  loads_word shows = turned sn.word y shows.size shows.tops ∙ sym (shows.word refl)

  stores : ShowsAccess ops.MStore sn e next x y → s x 1 ∷ t x 0 ∷ t x 1 ∷ t x 2 ∷ [] ≡ e.word
  stores shows =
      let word : e.word ≡ cell sn 1 ∷ drop 1 sn.word = shows.word refl in
      let size : length e.word ≡ 4
      = ap length word ∙ (let size = shows.size in let rest = length-drop 1 sn.word in omega (arith, size, rest)) in
      first_and_rest e.word (s x 1) x size (shows.cells 1 (lit< tt) ∙ ap (λ w. slice_index w 0) (sym word)) (rest_of ops.MStore shows refl)

  stores_word : ShowsAccess ops.MStoreW sn e next x y → s x 4 ∷ s x 3 ∷ s x 2 ∷ s x 1 ∷ [] ≡ e.word
  stores_word shows =
      rw (shows.cells 4 (lit< tt), shows.cells 3 (lit< tt), shows.cells 2 (lit< tt), shows.cells 1 (lit< tt)) (sym (shows.word refl))

  op_accesses : (op : Op) → ShowsAccess op sn e next x y → tuples.accesses_of op x y ≡ map access_given (accesses_by op e)
  unfolding tuples.accesses_of
  op_accesses ops.MLoad shows = asks 0 shows (loads shows)
  op_accesses ops.MLoadW shows = asks 0 shows (loads_word shows)
  op_accesses ops.MStore shows = asks 2 shows (stores shows)
  op_accesses ops.MStoreW shows = asks 1 shows (stores_word shows)
  op_accesses op shows = refl

-- ---- each row's

mark_accesses : (constants : List ℕ) (mark : Mark) (before : State) (e : Event) (next : Visible) (x y : List ℕ)
    → ((item : Item) → mark ≡ Do item → ShowsAccess item.op (seen_at constants item before) e next x y)
    → tuples.accesses_of (op_of_mark mark) x y ≡ map access_given (accesses_by (op_of_mark mark) e)
unfolding tuples.accesses_of
mark_accesses constants (Do item) before e next x y shows = op_accesses item.op (shows item refl)
mark_accesses constants mark before e next x y shows = refl

module _ {constants : List ℕ} (len : length constants ≡ number_of_constants) {kernel : List (List ℕ)} {limit : ℕ} {x y : List ℕ}
    (m : IsMoment constants kernel limit x y) where
  moment_access : (item : Item) → m.mark ≡ Do item
      → ShowsAccess item.op (seen_at constants item m.s) (moment_event m) (visible_of m.t.core) x y
  moment_access item is = record {
    is = ap op_of_mark is;
    context = (moment_shows m).context;
    clock = (moment_shows m).clock;
    address = refl;
    cells = moment_cell len m;
    tops = moment_tops len m item is;
    limbs = moment_limb m;
    word = λ accesses.
        ap (λ mark. (event_at constants kernel mark m.s).word) is
        ∙ event_word (subst (λ mark. IsCycle constants kernel limit mark m.s m.t) is m.cycle) accesses;
    size = (m.before.core.words m.s.core.context (top m.s.core)).size;
  }

  pub row_accesses : memory_asked x y ≡ map access_given (accesses_by (op_of_mark m.mark) (moment_event m))
  unfolding memory_asked
  row_accesses =
      ap (λ o. tuples.accesses_of o x y) (moment_op m)
      ∙ mark_accesses constants m.mark m.s (moment_event m) (visible_of m.t.core) x y moment_access
