-- How the steps of a command go together: what each stop leaves, and a file read or written in front of further steps.
use Rattle.cmd_kit.proofs.Words.{◌≡◌, ℕ, ◌<◌, ◌≤◌, List, codes, length, replicate, ◌+◌, arith, Option, Some, None, refl, sym, subst, inl, inr, ◌∙◌, IfSome}
use Rattle.cmd_kit.proofs.Words.{IsSomeAnd, length-replicate, get, most_name_bytes, Files, ShelfState, with_file, kept_whole, Status, Answer, StatusKind}
use Rattle.cmd_kit.proofs.Words.{planned, failed_read, failed_write, kind_of, End, stop, Finding, Question, Right, Steps, reading, writing, asking, ending}
use Rattle.cmd_kit.proofs.Words.{ends_with, named_line, Finds, IsRight, EndsAs, past_read, past_write, past_finding, ComesWhere, Concludes, Works, GivesUp}
use Rattle.vm_io.specs.Count.{Rose}
use Rattle.vm_io.specs.Shelf.{Told, Reads, ReadFails, WriteFails, with_failed_name}
use Rattle.cmd_kit.specs.declared.status.Status.TheVariants as status
use Rattle.cmd_kit.specs.declared.outcome.Outcome.{Outcome}
use Rattle.cmd_kit.specs.declared.outcome.Outcome.TheVariants as outcome
use Rattle.cmd_kit.specs.Serving.{none_yet, NoFault, Ends, Stops, FailsAtRead, FailsAtWrite}
use Rattle.cmd_kit.specs.Outcomes.{IsAnswerOfEnd, ComesTo, EndsIn, Continues, SaysStatus}

no_fault : (s : ShelfState) → NoFault s s
no_fault s = record { reads = refl; writes = refl }

-- the steps stand where they began
here : (steps : Steps) (P : Steps → Option Files → Type 0) (m : Option Files) → P steps m → ComesWhere steps P m
here steps P m there = record { left = steps; now = m; passes = none_yet; there = there }

-- no step was taken
pub same_again : (steps : Steps) (s : ShelfState) → EndsIn (Some steps) outcome.Memory s s
same_again steps s = inl (record { counts = no_fault s; files = here steps _ s.files refl })

-- an answer to the next step ends the steps
concluded : (steps : Steps) (a : Answer) (s : ShelfState) → kind_of a.status ≡ planned → Concludes steps s.files a
    → Works (Some steps) (kind_of a.status) a s s
concluded steps a s kind last =
    subst (λ k. Works (Some steps) k a s s) (sym kind) (record { counts = no_fault s; files = here steps _ s.files (last, refl) })

-- A command's own work ends its steps.
pub work_ends : (end : End) (o : Outcome) (s : ShelfState) → ComesTo end o → EndsIn (Some (ending end)) o s s
work_ends end (outcome.Ends a) s h = concluded (ending end) a s h.kind h.ends
work_ends end outcome.Memory s h = same_again (ending end) s

-- what is said is one of the end's answers
pub says_ends : (end : End) (s : Status) (line : List ℕ) (o : Outcome) → kind_of s ≡ planned → EndsAs end (ends_with s line)
    → SaysStatus o s line → ComesTo end o
says_ends end s line (outcome.Ends a) kind ends is = subst (IsAnswerOfEnd end) (sym is) (record { ends = ends; kind = kind })
says_ends end s line outcome.Memory kind ends is = tt

-- what is said is the end that is determined
pub says_comes : (s : Status) (line : List ℕ) (o : Outcome) → kind_of s ≡ planned → SaysStatus o s line → ComesTo (stop s line) o
says_comes s line o kind is = says_ends (stop s line) s line o kind refl is

-- what is said, for what holds of the answer and at want of memory
said : (steps : Option Steps) (s : Status) (line : List ℕ) (o : Outcome) (old new : ShelfState) → SaysStatus o s line
    → Works steps (kind_of s) (ends_with s line) old new → GivesUp steps old new → EndsIn steps o old new
said steps s line (outcome.Ends a) old new is works gives_up = subst (λ (x : Answer). Works steps (kind_of x.status) x old new) (sym is) works
said steps s line outcome.Memory old new is works gives_up = gives_up

-- words of no command
pub usage_ends : (o : Outcome) (s : ShelfState) → SaysStatus o status.Usage (codes "usage\n") → EndsIn None o s s
usage_ends o s is = said None status.Usage (codes "usage\n") o s s is (refl, refl) refl

-- a file that is missing, or too long
refused_file : (name : List ℕ) (most : ℕ) (next : List ℕ → Steps) (a : Answer) (o : Outcome) (old new : ShelfState) → new ≡ old
    → kind_of a.status ≡ planned
    → Concludes (reading name most next) old.files a → SaysStatus o a.status a.line → EndsIn (Some (reading name most next)) o old new
refused_file name most next a o old new same kind last is =
    subst (EndsIn (Some (reading name most next)) o old) (sym same)
    (said (Some (reading name most next)) a.status a.line o old old is (concluded (reading name most next) a old kind last)
    (same_again (reading name most next) old))

pub missing_ends : (name : List ℕ) (most : ℕ) (next : List ℕ → Steps) (o : Outcome) (old new : ShelfState) → new ≡ old
    → Told old (λ m. get m name ≡ None)
    → SaysStatus o status.Missing (named_line (codes "missing ") name) → EndsIn (Some (reading name most next)) o old new
missing_ends name most next o old new same none is =
    refused_file name most next (ends_with status.Missing (named_line (codes "missing ") name)) o old new same refl (None, none, refl) is

pub too_long_ends : (name : List ℕ) (most : ℕ) (next : List ℕ → Steps) (o : Outcome) (old new : ShelfState) → new ≡ old
    → Told old (λ m. IsSomeAnd (get m name) (λ bytes. most < length bytes))
    → SaysStatus o status.TooLong (named_line (codes "too long ") name) → EndsIn (Some (reading name most next)) o old new
too_long_ends name most next o old new same long is = refused_file name most next answer o old new same refl (told old.files long) is
  where
    answer : Answer
    answer = ends_with status.TooLong (named_line (codes "too long ") name)

    file : (m : Files) (held : Option (List ℕ)) → get m name ≡ held → IsSomeAnd held (λ bytes. most < length bytes)
        → Concludes (reading name most next) (Some m) answer
    file m None is h = absurd h
    file m (Some bytes) is h = (Some bytes, is, (h, refl))

    told : (files : Option Files) → IfSome files (λ m. IsSomeAnd (get m name) (λ bytes. most < length bytes))
        → Concludes (reading name most next) files answer
    told None h = (Some (replicate (most + 1) 0), tt, (omega (arith, length-replicate {A = ℕ} (most + 1) 0), refl))
    told (Some m) h = file m (get m name) refl h

named : (told new : Option (List ℕ)) (name : List ℕ) → length name ≤ most_name_bytes → new ≡ with_failed_name told name → IfSome new (λ failed. failed ≡ name)
named None new name short is = subst (λ o. IfSome o (λ failed. failed ≡ name)) (sym is) tt
named (Some old) new name short is = subst (λ o. IfSome o (λ failed. failed ≡ name)) (sym is) (kept_whole name short)

pub read_fault_ends : (name : List ℕ) (most : ℕ) (next : List ℕ → Steps) (o : Outcome) (old new : ShelfState) → length name ≤ most_name_bytes
    → ReadFails old new name
    → SaysStatus o status.ReadFault (named_line (codes "read fault ") name) → EndsIn (Some (reading name most next)) o old new
read_fault_ends name most next o old new short f is =
    said (Some (reading name most next)) status.ReadFault _ o old new is (name, fails, refl) (inr (inl (name, fails)))
  where
    fails : FailsAtRead (reading name most next) name old new
    fails = record {
      counts = record { reads = f.read_faults; writes = f.write_faults };
      told = named old.failed_name new.failed_name name short f.failed_name;
      files = here (reading name most next) _ old.files (refl, f.files);
    }

pub write_fault_ends : (name : List ℕ) (right : Right) (next : List ℕ → Steps) (bytes : List ℕ) (o : Outcome) (old new : ShelfState)
    → length name ≤ most_name_bytes
    → IsRight right bytes → WriteFails old new name bytes
    → SaysStatus o status.WriteFault (named_line (codes "write fault ") name) → EndsIn (Some (writing name right next)) o old new
write_fault_ends name right next bytes o old new short fit f is =
    said (Some (writing name right next)) status.WriteFault _ o old new is (name, fails, refl) (inr (inr (name, fails)))
  where
    fails : FailsAtWrite (writing name right next) name old new
    fails = record {
      counts = record { reads = f.read_faults; writes = f.write_faults };
      told = named old.failed_name new.failed_name name short f.failed_name;
      files = here (writing name right next) _ old.files (record { bytes = bytes; right = (refl, fit); front = f.front; files = f.files });
    }

-- The rest of the steps goes on from where these steps came to without a fault.
module _ (steps rest : Steps) (old mid : ShelfState) (counts : NoFault old mid)
    (behind : (P : Steps → Option Files → Type 0) → ComesWhere rest P mid.files → ComesWhere steps P old.files) where
  ends_further : (a : Answer) (new : ShelfState) → Ends rest a mid new → Ends steps a old new
  ends_further a new h = record {
    counts = record { reads = h.counts.reads ∙ counts.reads; writes = h.counts.writes ∙ counts.writes };
    files = behind _ h.files;
  }

  stops_further : (new : ShelfState) → Stops rest mid new → Stops steps old new
  stops_further new h = record {
    counts = record { reads = h.counts.reads ∙ counts.reads; writes = h.counts.writes ∙ counts.writes };
    files = behind _ h.files;
  }

  read_fails_further : (name : List ℕ) (new : ShelfState) → FailsAtRead rest name mid new → FailsAtRead steps name old new
  read_fails_further name new h = record {
    counts = record { reads = subst (λ n. Rose n new.read_faults) counts.reads h.counts.reads; writes = h.counts.writes ∙ counts.writes };
    told = h.told;
    files = behind _ h.files;
  }

  write_fails_further : (name : List ℕ) (new : ShelfState) → FailsAtWrite rest name mid new → FailsAtWrite steps name old new
  write_fails_further name new h = record {
    counts = record { reads = h.counts.reads ∙ counts.reads; writes = subst (λ n. Rose n new.write_faults) counts.writes h.counts.writes };
    told = h.told;
    files = behind _ h.files;
  }

  works_further : (kind : StatusKind) (a : Answer) (new : ShelfState) → Works (Some rest) kind a mid new → Works (Some steps) kind a old new
  works_further planned a new h = ends_further a new h
  works_further failed_read a new h = (h.0, read_fails_further h.0 new h.1, h.2)
  works_further failed_write a new h = (h.0, write_fails_further h.0 new h.1, h.2)
  works_further kind a new h = absurd h

  goes_further : Continues steps rest old mid
  goes_further (outcome.Ends a) new h = works_further (kind_of a.status) a new h
  goes_further outcome.Memory new (inl h) = inl (stops_further new h)
  goes_further outcome.Memory new (inr (inl h)) = inr (inl (h.0, read_fails_further h.0 new h.1))
  goes_further outcome.Memory new (inr (inr h)) = inr (inr (h.0, write_fails_further h.0 new h.1))

-- a file that was read
pub goes_past_read : (name : List ℕ) (most : ℕ) (next : List ℕ → Steps) (bytes : List ℕ) (old mid : ShelfState) → Reads old mid name most bytes
    → Continues (reading name most next) (next bytes) old mid
goes_past_read name most next bytes old mid found =
    subst (Continues (reading name most next) (next bytes) old) (sym found.same)
    (goes_further (reading name most next) (next bytes) old old (no_fault old) past)
  where
    past : (P : Steps → Option Files → Type 0) → ComesWhere (next bytes) P old.files → ComesWhere (reading name most next) P old.files
    past P h = record { left = h.left; now = h.now; passes = past_read name most next bytes found.file found.within h.passes; there = h.there }

-- a file that a taker took
pub goes_past_taken : (name : List ℕ) (most : ℕ) (took : List ℕ → Type 0) (old mid : ShelfState)
    → (bytes : List ℕ) × Reads old mid name most bytes × took bytes
    → (bytes : List ℕ) × took bytes × ((next : List ℕ → Steps) → Continues (reading name most next) (next bytes) old mid)
goes_past_taken name most took old mid found = (found.0, found.2, λ next. goes_past_read name most next found.0 old mid found.1)

-- want of memory, at a read that changed nothing
pub gives_up_at : (steps : Steps) (old new : ShelfState) → new ≡ old → EndsIn (Some steps) outcome.Memory old new
gives_up_at steps old new same = subst (EndsIn (Some steps) outcome.Memory old) (sym same) (same_again steps old)

-- a file that was written
pub goes_past_write : (name : List ℕ) (right : Right) (next : List ℕ → Steps) (bytes : List ℕ) (old mid : ShelfState) → IsRight right bytes
    → mid ≡ record old { files = with_file old.files name bytes }
    → Continues (writing name right next) (next bytes) old mid
goes_past_write name right next bytes old mid fit is =
    subst (Continues (writing name right next) (next bytes) old) (sym is)
    (goes_further (writing name right next) (next bytes) old _ (record { reads = refl; writes = refl }) past)
  where
    past : (P : Steps → Option Files → Type 0) → ComesWhere (next bytes) P (with_file old.files name bytes) → ComesWhere (writing name right next) P old.files
    past P h = record { left = h.left; now = h.now; passes = past_write name right next bytes fit h.passes; there = h.there }

-- something that was found
pub goes_past_finding : (question : Question) (next : Finding question → Steps) (finding : Finding question) (s : ShelfState) → Finds question finding
    → Continues (asking question next) (next finding) s s
goes_past_finding question next finding s found = goes_further (asking question next) (next finding) s s (no_fault s) past
  where
    past : (P : Steps → Option Files → Type 0) → ComesWhere (next finding) P s.files → ComesWhere (asking question next) P s.files
    past P h = record { left = h.left; now = h.now; passes = past_finding question next finding found h.passes; there = h.there }
