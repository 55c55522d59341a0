-- The rows of a run show the facts of blocks, batches, groups and boundaries.
use Rattle.complete_rows.proofs.Words
use Words.{◌≡◌, ◌⊎◌, inl, inr, ℕ, suc, ◌+◌, ◌-◌, ◌<◌, ◌≤◌, All, List, [], ◌∷◌, length, drop, slice_index, refl, sym, ap, ◌∙◌, subst, arith, lit<, cases_eq}
use Words.{cases_lt, get_or_past, length-drop, length-map, most_cycles, most_inputs, prime, State, IsWellFormed, filled_up, start, zero_word, length-filled_up}
use Words.{start-IsWellFormed, index-filled_up, Block, Steps, Tree, steps-shallow, run-steps, key_of, keys_at_start, Claim, shown, visible_of, Event, Visible}
use Words.{row_at, op_in, ReadsAs, IsRow, Agrees, ClaimsRun, IsWholeRun, decoder_behind, events_of, filled, keys_of, IsSmallCore, AreLinked, Decoder, advance}
use Words.{at_start, decoder_after, Line, laid_out, AreMoments, IsLastMoment, IsMoment, IsRowAt, Shows}
use Words.ops
use Words.run
use Words.flags
use Rattle.block_tree.proofs.AlongLemmas.{log-nested, steps-reached}
use Rattle.block_tree.proofs.TaskLemmas.{steps-log}
use Rattle.air_kit.proofs.InputKeys.{input_keys_length}
use Rattle.facts_main.specs.Bounds.{IsFirstRow, IsLastRow}
use Rattle.complete_rows.specs.BlockRows.{RowsAreCounted, RunHasMoments, RunShowsBlocks}
use Rattle.complete_rows.specs.Chains.{RunIsLinked}
use Rattle.complete_rows.specs.Filling.{deep_before, fill, rows_of_run}
use Rattle.complete_rows.specs.RunRequests.{requests_of}
use Rattle.complete_rows.proofs.AgreeLemmas.{low_nothing}
use Rattle.complete_rows.proofs.BoundLemmas.{bounded_start}
use Rattle.complete_rows.proofs.ColumnLemmas.{below_four}
use Rattle.complete_rows.proofs.FollowLemmas.{starts_block}
use Rattle.complete_rows.proofs.MomentFacts.{end_op, end_reads, end_row_shown, end_shows, moment_pair, moment_reads, moment_row, place_comes, place_shows}
use Rattle.complete_rows.proofs.MomentLemmas.{Filled, along, behind_is, end_at, moment_at, steps_within, unlinked}

-- ---- the start

-- a key for each cell below the sixteenth
agrees_start : (tree : Tree) (inputs tape : List ℕ) → Agrees (Block tree ∷ []) (at_start (length inputs - 16)) (start inputs tape).core
unfolding start
agrees_start tree inputs tape = record {
  framed = refl;
  reads = (refl, tt);
  low = low_nothing;
  nesting = refl;
  keyed = omega (arith, input_keys_length 0 (length inputs - 16), length-filled_up inputs);
}

-- ---- a run

module _ {constants : List ℕ} {kernel : List (List ℕ)} {limit : ℕ} {tree : Tree} {inputs tape : List ℕ} {u : State} {log : List run.Event}
    (r : IsWholeRun constants kernel limit tree inputs tape u log) where
  -- where it begins, its events and its rows
  abbrev first : Decoder
  first = at_start (length inputs - 16)

  abbrev begin : State
  begin = start inputs tape

  abbrev events : List Event
  events = events_of constants kernel log

  abbrev rows : List (List ℕ)
  rows = filled constants kernel u log

  steps_of : Steps constants kernel limit (Block tree ∷ []) begin log u
  steps_of = run-steps constants kernel limit tree begin u log r.whole r.done

  formed : IsWellFormed begin
  formed = start-IsWellFormed inputs tape r.inputs_are r.tape_is

  -- the states of a run are small
  small : All (λ e. IsSmallCore e.core) log × IsSmallCore u.core
  unfolding start
  small =
      let nested = log-nested constants kernel limit (steps-log constants kernel limit steps_of) (omega arith) in
      let shallow = steps-shallow constants kernel limit r.constants_are 0 most_inputs steps_of
      (let few = r.few in omega (arith, few, length-filled_up inputs), (r.whole, tt), formed) in
      let reached = steps-reached constants kernel limit steps_of (omega arith, (tt, tt)) in (
        λ k d h. record {
          nesting = nested.0 k d h;
          depth = (let deep = shallow.0 k d h in omega (arith, deep));
          context = reached.0 k d h;
        },
        record { nesting = nested.1; depth = (let deep = shallow.1 in omega (arith, deep)); context = reached.1 },
      )

  -- what is seen before the first event is the start
  deep_is : deep_before (visible_of u.core) events ≡ length inputs - 16
  unfolding start
  deep_is =
      let deep : length (filled_up inputs) - 16 ≡ length inputs - 16 = omega (arith, length-filled_up inputs) in
      ap (λ (v : Visible). v.depth - 16) (behind_is steps_of) ∙ deep

  pub keys_asked : (requests_of constants (visible_of u.core) (events_of constants kernel log)).keys ≡ keys_of constants kernel inputs log
  keys_asked = ap (λ deep. (decoder_after (at_start deep) events).keys) deep_is

  filled_run : Filled constants kernel limit (Block tree ∷ []) first begin u events rows
  unfolding rows_of_run start
  filled_run =
      let few : length events ≤ most_cycles
      = let within = steps_within constants kernel limit steps_of (omega arith) in
      let limited = r.within in omega (arith, within, limited, length-map log (shown constants kernel)) in
      subst (λ deep. Filled constants kernel limit (Block tree ∷ []) first begin u events (fill (visible_of u.core) (at_start deep) events)) (sym deep_is)
      (along r.constants_are steps_of (r.whole, tt) formed first (agrees_start tree inputs tape)
      (bounded_start (length inputs - 16) events few) small.0 small.1)

  pub linked : AreLinked constants kernel limit u (Block tree ∷ []) (at_start (length inputs - 16)) (start inputs tape)
      (events_of constants kernel log) (filled constants kernel u log)
  linked =
      subst (AreLinked constants kernel limit u (Block tree ∷ []) first begin events) (sym filled_run.are) filled_run.linked

  first_place : IsRowAt constants (Block tree ∷ []) first begin.core (row_at rows 0)
  first_place =
      subst (IsRowAt constants (Block tree ∷ []) first begin.core) (sym (ap (λ xs. row_at xs 0) filled_run.are)) filled_run.at

-- ---- each row

wide : (l : Line) → length (laid_out l) ≡ 65
unfolding laid_out
wide l = refl

-- the last row or not
last_or : (rows : List (List ℕ)) (i : ℕ) → i < length rows → (suc i ≡ length rows) ⊎ (suc i < length rows)
last_or rows i h = go (cases_eq (suc i) (length rows))
  where
    go : (suc i ≡ length rows) ⊎ (suc i ≡ length rows → ⊥) → (suc i ≡ length rows) ⊎ (suc i < length rows)
    go (inl e) = inl e
    go (inr apart) = inr (omega (arith, h, apart))

module _ {constants : List ℕ} {kernel : List (List ℕ)} {limit : ℕ} (within : limit ≤ most_cycles) {d : Decoder} {u : State} {rows : List (List ℕ)}
    (moments : AreMoments constants kernel limit d u rows) where
  -- what is so of the row of HALT and of those of cycles is so of all rows
  each : (P : List ℕ → Type 0) → ((x : List ℕ) → IsLastMoment d u x → P x)
      → ((x y : List ℕ) → IsMoment constants kernel limit x y → P x)
      → (i : ℕ) → i < length rows → P (row_at rows i)
  each P at_end at_moment i h = go (last_or rows i h)
    where
      go : (suc i ≡ length rows) ⊎ (suc i < length rows) → P (row_at rows i)
      go (inl e) = at_end _ (end_at rows moments i e)
      go (inr more) = at_moment _ _ (moment_at rows moments i more)

  all_read : (i : ℕ) → i < length rows → ReadsAs (op_in rows i) (row_at rows i)
  all_read = each (λ x. ReadsAs (flags.op_of x) x) (λ x e. end_reads e) (λ x y m. moment_reads m)

  all_rows : (i : ℕ) → i < length rows → IsRow (op_in rows i) (row_at rows i)
  all_rows = each (λ x. IsRow (flags.op_of x) x) (λ x e. end_row_shown e) (λ x y m. moment_row m within)

  all_wide : (i : ℕ) → i < length rows → length (row_at rows i) ≡ 65
  all_wide = each (λ x. length x ≡ 65) (λ x e. ap length e.row ∙ wide _) (λ x y m. ap length m.row ∙ wide _)

  all_low : (i k : ℕ) → slice_index (row_at rows i) k < prime
  all_low i k = go (cases_lt i (length rows))
    where
      go : (i < length rows) ⊎ (length rows ≤ i) → slice_index (row_at rows i) k < prime
      go (inl h) = (all_read i h).low k
      go (inr past) = rw (get_or_past rows i [] past) (lit< tt)

  last_shown : (k : Claim) (inputs : List ℕ) → ClaimsRun k inputs d.keys u → (i : ℕ) → suc i ≡ length rows
      → IsLastRow k (op_in rows i) (row_at rows i)
  last_shown k inputs claims i e =
      let end : IsLastMoment d u (row_at rows i) = end_at rows moments i e in
      let shows : Shows (op_in rows i) d u.core (row_at rows i) = end_shows end in
      record {
        halts = ap (λ op. flags.is_op op ops.Halt) (end_op end);
        depth_is = shows.deep ∙ ap length (sym claims.outputs_are);
        key_is = shows.key_is ∙ sym claims.left_key_is;
        outputs = λ j low. shows.cells j low ∙ ap (λ v. slice_index v j) (sym claims.outputs_are);
      }

  last_keyed : 0 < length rows → length d.keys + 16 ≡ length u.core.stack
  last_keyed some =
      let place : suc (length rows - 1) ≡ length rows = omega (arith, some) in (end_at rows moments (length rows - 1) place).agrees.keyed

-- ---- the first row

first_shown : (constants : List ℕ) (tree : Tree) (inputs tape : List ℕ) (u : State) (d : Decoder) (x : List ℕ) (k : Claim)
    → IsRowAt constants (Block tree ∷ []) (at_start (length inputs - 16)) (start inputs tape).core x
    → ClaimsRun k inputs d.keys u → length d.keys + 16 ≡ length u.core.stack → IsFirstRow k (flags.op_of x) x
unfolding start
first_shown constants tree inputs tape u d x k at claims keyed =
    let deep : length (drop 16 k.inputs) ≡ length inputs - 16 = ap (λ v. length (drop 16 v)) claims.inputs_are ∙ length-drop 16 inputs in
    let shows : Shows (flags.op_of x) (at_start (length inputs - 16)) (start inputs tape).core x = place_shows at in
    record {
      start = record {
        starts = starts_block constants tree [] (start inputs tape).core (flags.op_of x) (place_comes at);
        clock = shows.clock;
        block = shows.address;
        context = shows.context;
        frame = shows.frame;
        syscall = shows.syscall;
        digest = λ j low. shows.digest j low ∙ below_four (λ n. slice_index zero_word n ≡ 0) refl refl refl refl j low;
        level = shows.level;
        depth_is = let full = shows.deep in omega (arith, full, deep, length-filled_up inputs);
        key_is = shows.key_is ∙ ap (λ n. key_of (keys_at_start n)) (sym deep);
      };
      inputs = λ j low. shows.cells j low ∙ index-filled_up inputs j ∙ ap (λ v. slice_index v j) (sym claims.inputs_are);
      kernel = claims.kernel_rows;
      left = ap (λ n. n + 16) claims.left_rows ∙ keyed ∙ ap length (sym claims.outputs_are);
    }

-- ---- all of them

fill_count : (last : Visible) (d : Decoder) (events : List Event) → length (fill last d events) ≡ length events + 1
unfolding fill
fill_count last d [] = refl
fill_count last d (e ∷ later) = let behind = fill_count last (advance d e later) later in omega (arith, behind)

pub rows_counted : RowsAreCounted
unfolding rows_of_run
rows_counted constants kernel u log =
    let deep : ℕ = deep_before (visible_of u.core) (events_of constants kernel log) in
    let count = fill_count (visible_of u.core) (at_start deep) (events_of constants kernel log) in
    omega (arith, count, length-map log (shown constants kernel))

pub is_linked : RunIsLinked
is_linked constants kernel limit tree inputs tape u log r = linked r

pub has_moments : RunHasMoments
has_moments constants kernel limit tree inputs tape u log r = (unlinked (linked r), first_place r)

pub shows_blocks : RunShowsBlocks
shows_blocks constants kernel limit tree inputs tape u log r k claims =
    let moments = unlinked (linked r) in
    record {
      table = record { wide = all_wide r.within moments; below = all_low r.within moments };
      reads = all_read r.within moments;
      row_is = all_rows r.within moments;
      pair_is = λ i h. moment_pair (moment_at (filled constants kernel u log) moments i h) r.within;
      first = λ h. first_shown constants tree inputs tape u (decoder_behind constants kernel inputs log)
          (row_at (filled constants kernel u log) 0) k (first_place r) claims (last_keyed r.within moments h);
      last = last_shown r.within moments k inputs claims;
    }
