use Rattle.table_file.proofs.Words.{◌≡◌, ◌≤◌, true, List, ℕ, take, drop, length, ◌++◌, sym, ap, subst, ◌∙◌, append-nil, arith, length-drop, take_rest}
use Rattle.table_file.proofs.Words.{is_some, HasRead, HasTaken, Reader}
use Rattle.table_file.proofs.Readers.{read_further, read_so_far, stays, taken_both, taken_so_far}
use Rattle.table_file.proofs.reader.TableReader.take_whole.Goals as goal

pub loop-self-init : goal.loop-self-init
loop-self-init c = record {
  within = omega arith;
  empty = c.requires.empty;
  read = λ before taken.
      subst (HasRead c.args.self.now.stop c.args.self.now.part) (sym (append-nil before)) (read_so_far c.args.self.now before c.requires.empty taken);
}

pub loop-self-preserved : goal.loop-self-preserved
loop-self-preserved c =
    let at = c.loop-self.at in
    let piece = c.args.piece.now in
    let so_far = c.loop-self.invariant in
    let further = c.go_on-at.ensures in
    let within : at ≤ length piece = so_far.within in
    let used = further.within in
    let rest = take_rest piece at in
    record {
      within = omega (arith, within, used, ap length rest, length-drop at piece);
      empty = ap (λ (r : Reader). r.carried) c.self.view_is ∙ so_far.empty;
      read = λ before taken.
          read_further c.self.inside.stop _ c.self.inside.part _ before piece at c.go_on-at.result c.loop-self-test.ensures
          (subst (λ (r : Reader). HasRead r.stop r.part (before ++ take at piece)) (sym c.self.view_is) (so_far.read before taken))
          (λ done on. subst (λ (bs : List ℕ). HasRead c.go_on-at.new.stop c.go_on-at.new.part (done ++ take c.go_on-at.result bs))
          rest (further.read done on));
    }

pub returns-then-is_none : goal.returns-then-is_none
returns-then-is_none c = record {
  taken = λ before taken.
      let at = c.loop-self.at in
      let piece = c.args.piece.now in
      let front = before ++ take at piece in
      taken_both c.carry.new.self before piece at
      (subst (λ (bs : List ℕ). HasTaken c.carry.new.self (front ++ bs)) (take_rest piece at)
      (c.carry.ensures front (taken_so_far c.loop-self.self front c.loop-self.invariant.empty (c.loop-self.invariant.read before taken))));
}

pub returns-else-is_none : goal.returns-else-is_none
returns-else-is_none c = record {
  taken = λ before taken.
      let at = c.loop-self.at in
      let piece = c.args.piece.now in
      let reader = c.loop-self.self in
      let front = before ++ take at piece in
      let is : is_some reader.stop ≡ true = subst (λ (r : Reader). is_some r.stop ≡ true) c.self-2.view_is c.if-is_none.ensures in
      taken_both reader before piece at
      (taken_so_far reader (front ++ drop at piece) c.loop-self.invariant.empty
      (stays reader.stop reader.part front (drop at piece) is (c.loop-self.invariant.read before taken)));
}
