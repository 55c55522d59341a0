-- A reader of a table file: what a head, rows and further bytes leave of the file.
use Rattle.table_file.proofs.Words.{◌≡◌, ℕ, ◌+◌, ◌*◌, ◌≤◌, ◌==◌, Bool, true, false, List, [], ◌∷◌, ◌++◌, drop, take, length, Option, Some, None, Result, Ok}
use Rattle.table_file.proofs.Words.{Err, inl, inr, refl, sym, ap, subst, ◌∙◌, arith, append_assoc, append-nil, drop-append_seam, take-add, le-ltb}
use Rattle.table_file.proofs.Words.{drop-append-le, length-append, length-drop, length-take-le, nil_from_length, take_all, take-append-drop, is_some}
use Rattle.table_file.proofs.Words.{little_number, every_table, TableName, Trace, FileCause, FileError, PartTrace, GivesRead, behind, number_at, counts_at}
use Rattle.table_file.proofs.Words.{head_of, is_version, magic, may_have_in, no_rows, tables_from, trace_of, Advances, GoesFurther, ReadsBehind, HasRead}
use Rattle.table_file.proofs.Words.{HasTaken, IsMissing, IsReady, Reader, StandsAt, rest_of}
use Rattle.table_file.specs.declared.cause.FileCause.TheVariants as cause
use Rattle.table_file.proofs.Chains.{bad-read, goes_past, same_next}
use Rattle.table_file.proofs.HeadLaws.{head-says}
use Rattle.table_file.proofs.PartReading.{little-front, stands_behind}

module _ (head more : List ℕ) (whole : 36 ≤ length head) where
  number_front : (why : FileCause) (test : ℕ → Bool) (at : ℕ) → at + 4 ≤ 36 → number_at (head ++ more) 4 why test at ≡ number_at head 4 why test at
  unfolding number_at
  number_front why test at within =
      let before : at ≤ length head = omega (arith, whole, within) in
      let there : at + 4 ≤ length head = omega (arith, whole, within) in
      let there_too : at + 4 ≤ length (head ++ more) = omega (arith, there, length-append head more) in
      let long : 4 ≤ length (drop at head) = omega (arith, there, length-drop at head) in
      let number : little_number 4 (drop at (head ++ more)) ≡ little_number 4 (drop at head)
      = ap (little_number 4) (drop-append-le at head more before) ∙ little-front 4 (drop at head) more long in
      rw (le-ltb (length (head ++ more)) (at + 4) there_too, le-ltb (length head) (at + 4) there, number) refl

  counts_front : (version : ℕ) (names : List TableName) (at : ℕ) → at + 4 * length names ≤ 36
      → counts_at (head ++ more) version names at ≡ counts_at head version names at
  unfolding counts_at
  counts_front version [] at within = refl
  counts_front version (name ∷ names) at within =
      rw (
        number_front cause.Count (may_have_in version name) at (omega (arith, within)),
        counts_front version names (at + 4) (omega (arith, within)),
      ) refl

  -- a head is that of its own bytes
  pub head_front : head_of (head ++ more) ≡ head_of head
  unfolding head_of
  head_front =
      let counts : List ℕ → ℕ → Result (List ℕ) FileError = λ bytes version. counts_at bytes version every_table 8 in
      rw (number_front cause.Magic (λ n. n == magic) 0 (omega arith), number_front cause.Version is_version 4 (omega arith))
      (same_next (number_at head 4 cause.Magic (λ n. n == magic) 0) (λ _. behind (number_at head 4 cause.Version is_version 4) (counts (head ++ more)))
      (λ _. behind (number_at head 4 cause.Version is_version 4) (counts head))
      (λ _. same_next (number_at head 4 cause.Version is_version 4) (counts (head ++ more)) (counts head)
      (λ version. counts_front version every_table 8 (omega arith))))

-- a good head is whole
pub head_whole : (bytes counts : List ℕ) → head_of bytes ≡ Ok counts → 36 ≤ length bytes
head_whole bytes counts is = (head-says bytes counts is).counted.within

-- a bad head is the file's answer
pub head_bad : (bytes : List ℕ) (e : FileError) → Err e ≡ head_of bytes → GivesRead {A = Trace} (Err e) (trace_of bytes)
unfolding trace_of
head_bad bytes e is =
    bad-read (trace_of bytes) e (ap (λ (r : Result (List ℕ) FileError). behind r (λ counts. tables_from bytes every_table counts 36 no_rows)) (sym is))

module _ (bytes : List ℕ) (whole : 36 ≤ length bytes) where
  abbrev head : List ℕ
  head = take 36 bytes

  head_long : length head ≡ 36
  head_long = length-take-le 36 bytes whole

  pub head_goes : (c : List ℕ) (p : PartTrace) → Ok c ≡ head_of head → p.at ≡ 36 → IsReady p
      → ((all : List ℕ) → tables_from all every_table c 36 no_rows ≡ rest_of all p) → GoesFurther None (Some p) bytes 36
  unfolding trace_of
  head_goes c p is at ready begins = record {
    some = omega arith;
    within = whole;
    ready = ready;
    goes = λ done none. subst (λ (d : List ℕ). ReadsBehind (Some p) (d ++ head)) (sym none) (
      head_long ∙ sym at,
      λ more. goes_past (head_of (head ++ more)) c (λ counts. tables_from (head ++ more) every_table counts 36 no_rows)
          (head_front head more (omega (arith, head_long)) ∙ sym is) ∙ begins (head ++ more),
    );
  }

  pub head_stops : (e : FileError) → Err e ≡ head_of head → (done more : List ℕ) → ReadsBehind None done
      → GivesRead {A = Trace} (Err e) (trace_of (done ++ (bytes ++ more)))
  head_stops e is done more none =
      let parts : bytes ++ more ≡ head ++ (drop 36 bytes ++ more)
      = ap (λ (bs : List ℕ). bs ++ more) (sym (take-append-drop 36 bytes)) ∙ append_assoc head (drop 36 bytes) more in
      subst (λ (d : List ℕ). GivesRead {A = Trace} (Err e) (trace_of (d ++ (bytes ++ more)))) (sym none)
      (head_bad (bytes ++ more) e (is ∙ sym (ap head_of parts ∙ head_front head (drop 36 bytes ++ more) (omega (arith, head_long)))))

pub rows_go : (p q : PartTrace) (bytes : List ℕ) (count : ℕ) → Advances p q bytes count → GoesFurther (Some p) (Some q) bytes count
rows_go p q bytes count a = record {
  some = a.some;
  within = a.within;
  ready = a.ready;
  goes = λ done on.
      let part = take count bytes in
      let within = a.within in (
        (let place = a.place in let before = on.0 in omega (arith, length-append done part, length-take-le count bytes within, place, before)),
        λ more.
            ap trace_of (append_assoc done part more) ∙ on.1 (part ++ more)
            ∙ a.goes (done ++ (part ++ more)) (stands_behind done part more p.at on.0)
            ∙ ap (λ (all : List ℕ). rest_of all q) (sym (append_assoc done part more)),
      );
}

pub rows_stop : (p : PartTrace) (bytes : List ℕ) (e : FileError)
    → ((all : List ℕ) → StandsAt all p.at bytes → GivesRead (Err e) (rest_of all p)) → (done more : List ℕ)
    → ReadsBehind (Some p) done → GivesRead {A = Trace} (Err e) (trace_of (done ++ (bytes ++ more)))
rows_stop p bytes e stops done more on =
    subst (GivesRead (Err e)) (sym (on.1 (bytes ++ more))) (stops (done ++ (bytes ++ more)) (stands_behind done bytes more p.at on.0))

-- the reading stops within these bytes
pub stopped : (bytes done : List ℕ) (e : FileError) (part : Option PartTrace)
    → ((more : List ℕ) → GivesRead {A = Trace} (Err e) (trace_of (done ++ (bytes ++ more))))
    → HasRead (Some e) part (done ++ take (length bytes) bytes)
stopped bytes done e part stops more =
    let all : (done ++ take (length bytes) bytes) ++ more ≡ done ++ (bytes ++ more)
    = append_assoc done (take (length bytes) bytes) more ∙ ap (λ (bs : List ℕ). done ++ (bs ++ more)) (take_all (length bytes) bytes (omega arith)) in
    subst (λ (bs : List ℕ). GivesRead {A = Trace} (Err e) (trace_of bs)) (sym all) (stops more)

-- where the reading has stopped, more bytes change nothing
pub stays : (stop : Option FileError) (part : Option PartTrace) (bytes more : List ℕ) → is_some stop ≡ true
    → HasRead stop part bytes → HasRead stop part (bytes ++ more)
stays (Some e) part bytes more is read =
    λ later. subst (λ (bs : List ℕ). GivesRead {A = Trace} (Err e) (trace_of bs)) (sym (append_assoc bytes more later)) (read (more ++ later))
stays None part bytes more is read = absurd (none_some is)
  where
    none_some : false ≡ true → ⊥
    none_some h = cc

going_on : (stop : Option FileError) (part : Option PartTrace) (bytes : List ℕ) → is_some stop ≡ false → HasRead stop part bytes → ReadsBehind part bytes
going_on None part bytes is read = read
going_on (Some e) part bytes is read = absurd (some_none is)
  where
    some_none : true ≡ false → ⊥
    some_none h = cc

-- what was read, where nothing is carried
pub read_so_far : (r : Reader) (bytes : List ℕ) → r.carried ≡ [] → HasTaken r bytes → HasRead r.stop r.part bytes
read_so_far r bytes empty taken =
    subst (HasRead r.stop r.part) (sym (taken.parts ∙ ap (λ (bs : List ℕ). taken.done ++ bs) empty ∙ append-nil taken.done)) taken.read

pub taken_so_far : (r : Reader) (bytes : List ℕ) → r.carried ≡ [] → HasRead r.stop r.part bytes → HasTaken r bytes
taken_so_far r bytes empty read = record {
  done = bytes;
  parts = sym (append-nil bytes) ∙ ap (λ (bs : List ℕ). bytes ++ bs) (sym empty);
  read = read;
}

-- the head or the row that was carried is whole, and read
pub completed : (old new : Reader) (front : List ℕ) (count : ℕ) → old.stop ≡ None → new.carried ≡ [] → length (old.carried ++ front) ≤ count
    → ((done : List ℕ) → ReadsBehind old.part done → HasRead new.stop new.part (done ++ take count (old.carried ++ front)))
    → (before : List ℕ) → HasTaken old before → HasTaken new (before ++ front)
completed old new front count going empty whole reads before taken =
    let all : taken.done ++ take count (old.carried ++ front) ≡ before ++ front
    = ap (λ (bs : List ℕ). taken.done ++ bs) (take_all count (old.carried ++ front) whole) ∙ sym (append_assoc taken.done old.carried front)
    ∙ ap (λ (bs : List ℕ). bs ++ front) (sym taken.parts) in
    let on : ReadsBehind old.part taken.done = subst (λ (stop : Option FileError). HasRead stop old.part taken.done) going taken.read in
    taken_so_far new (before ++ front) empty (subst (HasRead new.stop new.part) all (reads taken.done on))

-- a further part of a piece was read
pub read_further : (stopped stop : Option FileError) (old new : Option PartTrace) (before piece : List ℕ) (at count : ℕ) → is_some stopped ≡ false
    → HasRead stopped old (before ++ take at piece) → ((done : List ℕ) → ReadsBehind old done → HasRead stop new (done ++ take count (drop at piece)))
    → HasRead stop new (before ++ take (at + count) piece)
read_further stopped stop old new before piece at count going so_far reads =
    subst (HasRead stop new)
    (append_assoc before (take at piece) (take count (drop at piece)) ∙ ap (λ (bs : List ℕ). before ++ bs) (sym (take-add at count piece)))
    (reads (before ++ take at piece) (going_on stopped old (before ++ take at piece) going so_far))

-- two parts of a piece were taken
pub taken_both : (r : Reader) (before piece : List ℕ) (at : ℕ) → HasTaken r ((before ++ take at piece) ++ drop at piece)
    → HasTaken r (before ++ piece)
taken_both r before piece at taken =
    subst (HasTaken r) (append_assoc before (take at piece) (drop at piece) ∙ ap (λ (bs : List ℕ). before ++ bs) (take-append-drop at piece)) taken

-- nothing was carried, and nothing was missing
pub nothing_missing : (old new : Reader) (front : List ℕ) → old.carried ≡ [] → IsMissing old (length front) → new ≡ old
    → (before : List ℕ) → HasTaken old before → HasTaken new (before ++ front)
nothing_missing old new front empty (inl none) same before taken =
    let nothing : front ≡ [] = nil_from_length front none.1 in
    rw same (subst (HasTaken old) (sym (ap (λ (bs : List ℕ). before ++ bs) nothing ∙ append-nil before)) taken)
nothing_missing old new front empty (inr some) same before taken = let long = ap length empty in let one = some.0 in absurd (omega (arith, long, one))

-- a piece behind what stopped the reading
pub taken_stopped : (old new : Reader) (piece : List ℕ) → is_some old.stop ≡ true → new.stop ≡ old.stop → new.part ≡ old.part → new.carried ≡ []
    → (before : List ℕ) → HasTaken old before → HasTaken new (before ++ piece)
taken_stopped old new piece is same same_part empty before taken =
    let all : taken.done ++ (old.carried ++ piece) ≡ before ++ piece
    = sym (append_assoc taken.done old.carried piece) ∙ ap (λ (bs : List ℕ). bs ++ piece) (sym taken.parts) in
    taken_so_far new (before ++ piece) empty
    (subst (HasRead new.stop new.part) all (rw (same, same_part) (stays old.stop old.part taken.done (old.carried ++ piece) is taken.read)))

-- what was taken, where no head was whole
pub carried_all : (r : Reader) (bytes : List ℕ) → r.stop ≡ None → r.part ≡ None → HasTaken r bytes → bytes ≡ r.carried
carried_all r bytes going none taken =
    let empty : ReadsBehind None taken.done =
    subst (λ (part : Option PartTrace). ReadsBehind part taken.done) none
    (subst (λ (stop : Option FileError). HasRead stop r.part taken.done) going taken.read) in
    taken.parts ∙ ap (λ (bs : List ℕ). bs ++ r.carried) empty

-- the answer behind the last bytes
pub answer_of : (r : Reader) (p : PartTrace) (result : Result Trace FileError) → r.stop ≡ None → r.part ≡ Some p
    → ((all : List ℕ) → drop p.at all ≡ r.carried → GivesRead result (rest_of all p)) → (bytes : List ℕ) → HasTaken r bytes
    → GivesRead result (trace_of bytes)
answer_of r p result going some reads bytes taken =
    let on : ReadsBehind (Some p) taken.done =
    subst (λ (part : Option PartTrace). ReadsBehind part taken.done) some
    (subst (λ (stop : Option FileError). HasRead stop r.part taken.done) going taken.read) in
    let rest : drop p.at (taken.done ++ r.carried) ≡ r.carried
    = ap (λ (n : ℕ). drop n (taken.done ++ r.carried)) (sym on.0) ∙ drop-append_seam taken.done r.carried in
    subst (λ (bs : List ℕ). GivesRead result (trace_of bs)) (sym taken.parts)
    (subst (GivesRead result) (sym (on.1 r.carried)) (reads (taken.done ++ r.carried) rest))
