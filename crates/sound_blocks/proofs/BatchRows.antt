-- How the rows of a batch read it: from each row on, by the row behind it.
use Rattle.sound_blocks.proofs.Words.{◌≡◌, ℕ, suc, ◌-◌, ◌<◌, ◌≤◌, true, ◌||◌, cond, List, [], ◌∷◌, length, Some, None, refl, ap, subst, push_item, ◌∙◌}
use Rattle.sound_blocks.proofs.Words.{and_from, arith, cond-true, eq-eqb, ◌⊞◌, ◌⊠◌, is_ordinary_op, Item, Op, code_of, addr, h, gc, ox, ha, s, sp, is_op}
use Rattle.sound_blocks.proofs.Words.{opens_group, positions, Claim, ShowsRow, ShowsRows, op_in, IsPair, nothing_left, Begins, GroupFacts, IsTaken, batch_at}
use Rattle.sound_blocks.proofs.Words.{AreItems, item_at, next, over, op_from, row_at}
use Rattle.sound_blocks.proofs.Words.ops
use Rattle.facts_main.specs.Groups.{GoesOn, stays, pushes, opens, ends}
use Rattle.sound_blocks.proofs.Operations.{ordinary_keeps}
use Rattle.sound_blocks.proofs.Rows.{has_next}
use Rattle.sound_blocks.proofs.Tests.{op_apart, plain_code, behind_last, stop_goes}
use Rattle.sound_blocks.proofs.DigitSteps.{next_place, fewer_left}
use Rattle.sound_blocks.proofs.InUse.{TakesPlace, left_of, left_more, left_none}
use Rattle.sound_blocks.proofs.ReadSteps.{Found, found-stays, found-pushes, found-opens, found-ends}

-- what is known of the rows, and that a batch begins in row i
pub record IsRead (rows : List (List ℕ)) (i : ℕ) : Type 0 where
  pub claim : Claim
  pub shows : ShowsRows claim rows
  pub groups : GroupFacts rows
  pub begins : Begins rows i
  pub few : positions (row_at rows i) ≤ 8

-- row r is one of an ordinary operation of this batch
pub record IsInBatch (rows : List (List ℕ)) (i r : ℕ) : Type 0 where
  pub within : suc r < length rows
  pub ordinary : is_ordinary_op (op_in rows r) ≡ true
  pub same : ha (row_at rows r) ≡ batch_at rows i
  pub left : gc (row_at rows r) < positions (row_at rows i)

-- what is left of the batch in row r is read as these items
abbrev FoundAt : List (List ℕ) → ℕ → ℕ → List Item → Type 0
FoundAt rows i r items = Found (left_of (row_at rows i) (gc (row_at rows r))) (9 - ox (row_at rows r)) (h (row_at rows r) 0) items

-- the rows from row r on read it
pub record Runs (rows : List (List ℕ)) (i r : ℕ) : Type 0 where
  pub end : ℕ
  pub items : List Item
  pub are : AreItems rows r end items
  pub found : FoundAt rows i r items
  pub inside : addr (row_at rows end) ≡ addr (row_at rows r)
  pub hashed : ha (row_at rows end) ≡ ha (row_at rows r)
  pub stops : is_op (op_in rows end) ops.End || is_op (op_in rows end) ops.Respan ≡ true
  pub within : suc end < length rows
  pub behind : r < end

push_at : (op : Op) (value : ℕ) → op ≡ ops.Push → push_item value ≡ record { op = op; imm = cond (is_op op ops.Push) (Some value) None }
push_at op value is = rw is refl

one_less : (n : ℕ) → n ≤ 8 → suc (8 - n) ≡ 9 - n
one_less n few = omega arith

module _ {rows : List (List ℕ)} {i : ℕ} (c : IsRead rows i) (r : ℕ) (here : IsInBatch rows i r) where
  abbrev x : List ℕ
  x = row_at rows r

  abbrev y : List ℕ
  y = row_at rows (suc r)

  row : ShowsRow (op_in rows r) (row_at rows r)
  row = c.shows.row_is r (omega (arith, here.within))

  pair : IsPair (op_in rows r) (op_in rows (suc r)) (row_at rows r) (row_at rows (suc r))
  pair = (c.shows.pair_is r here.within).pair

  extended : (l : Runs rows i (suc r)) → FoundAt rows i r (item_at rows r ∷ l.items) → Runs rows i r
  extended l found = record {
    end = l.end;
    items = item_at rows r ∷ l.items;
    are = next r l.end l.items here.within here.ordinary l.are;
    found = found;
    inside = l.inside ∙ pair.block.block (ordinary_keeps (op_in rows r) here.ordinary);
    hashed = l.hashed ∙ pair.batch.same here.ordinary;
    stops = l.stops;
    within = l.within;
    behind = omega (arith, l.behind);
  }

  room : is_ordinary_op (op_in rows (suc r)) ≡ true → ox y ≡ ox x ⊞ 1 → suc (9 - ox y) ≡ 9 - ox x
  room ordinary place =
      next_place (ox x) (ox y) (row.row.group here.ordinary).place ((c.shows.row_is (suc r) here.within).row.group ordinary).place place

  last_room : suc (8 - ox x) ≡ 9 - ox x
  last_room = one_less (ox x) (row.row.group here.ordinary).place

  -- what the row takes, it takes of this batch, which has one position fewer left behind it
  taken : {element : ℕ} → IsTaken rows r element → gc x ≡ gc y ⊞ 1
      → (left_of (row_at rows i) (gc x) ≡ element ∷ left_of (row_at rows i) (gc y)) × (gc y < positions (row_at rows i))
  taken {element} t left = (left_more (row_at rows i) (gc x) (gc y) c.few place fewer, omega (arith, here.left, fewer))
    where
      place : TakesPlace (row_at rows i) (gc x) element
      place =
          subst (λ (b : ℕ). TakesPlace (row_at rows b) (gc x) element) (c.groups.one t.batch i t.begins c.begins (t.same ∙ here.same))
          (record { place = t.place; behind = t.behind; in_use = t.in_use; left_is = t.left; is = t.is })

      fewer : gc x ≡ suc (gc y)
      fewer = fewer_left (gc x) (gc y) (row.reads.low 25) ((c.shows.row_is (suc r) here.within).reads.low 25) (omega (arith, place.left_is, place.in_use)) left

  -- the row behind has the next group
  group_opens : is_ordinary_op (op_in rows (suc r)) ≡ true → h x 0 ≡ code_of (op_in rows r) → opens_group x y ≡ true
  group_opens ordinary is =
      and_from _ _ (and_from _ _ here.ordinary
      (nothing_left (op_in rows r) x row.reads (row.row.group here.ordinary) ∙ eq-eqb (h x 0) (code_of (op_in rows r)) is))
      (eq-eqb (sp y) 1 ((c.shows.row_is (suc r) here.within).reads.span ∙ cond-true (is_ordinary_op (op_in rows (suc r))) 1 0 ordinary))

  -- by how the group goes on
  pub step : (is_ordinary_op (op_in rows (suc r)) ≡ true → gc y < positions (row_at rows i) → Runs rows i (suc r))
      → GoesOn (op_in rows r) (op_in rows (suc r)) x y → Runs rows i r
  step later (stays other ordinary apart is place left) =
      let l = later ordinary (rw left here.left) in
      let e = room ordinary place in
      extended l (rw (other, ← left, ← e) (found-stays (op_in rows r) (omega (arith, e)) (plain_code (op_in rows r) here.ordinary other) is apart l.found))
  step later (pushes push ordinary is place left) =
      let named = op_from {other = ops.Push} push in
      let t = taken (c.groups.immediate r (record { within = here.within; is = named })) left in
      let l = later ordinary t.1 in
      let e = room ordinary place in
      extended l (subst (λ (it : Item). FoundAt rows i r (it ∷ l.items)) (push_at (op_in rows r) (s y 0) named)
      (rw (t.0, ← e) (found-pushes (omega (arith, e)) (is ∙ ap (λ (o : Op). code_of o ⊞ 128 ⊠ h y 0) named) l.found)))
  step later (opens other ordinary is place left) =
      let t = taken (c.groups.group r here.within (group_opens ordinary is) (op_apart (op_in rows r) ops.Push other)) left in
      let l = later ordinary t.1 in
      extended l (rw (other, t.0, ← last_room)
      (found-opens (op_in rows r) (plain_code (op_in rows r) here.ordinary other) is (rw place at l.found)))
  step later (ends other stop is left) = record {
    end = suc r;
    items = item_at rows r ∷ [];
    are = next r (suc r) [] here.within here.ordinary (over (suc r) more stop);
    found = rw (other, left_none (row_at rows i) (gc x) left, ← last_room)
        (found-ends (op_in rows r) (plain_code (op_in rows r) here.ordinary other) is);
    inside = pair.block.block (ordinary_keeps (op_in rows r) here.ordinary);
    hashed = pair.batch.same here.ordinary;
    stops = stops;
    within = more;
    behind = omega arith;
  }
    where
      stops : is_op (op_in rows (suc r)) ops.End || is_op (op_in rows (suc r)) ops.Respan ≡ true
      stops = behind_last (op_in rows r) (op_in rows (suc r)) (s x 0) here.ordinary stop pair.follows

      more : suc (suc r) < length rows
      more = has_next c.shows (suc r) here.within (stop_goes (op_in rows (suc r)) stops)
