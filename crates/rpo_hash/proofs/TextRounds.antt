-- The constants of the rounds, read one round after another.
use Rattle.std.proofs.Common.{◌≡◌, ℕ, ◌+◌, ◌*◌, ◌<◌, List, [], ◌∷◌, ◌++◌, length, take, set, Result, Ok, Err, sym, ap, ap₂, ◌∙◌, arith, append_assoc, append-nil}
use Rattle.std.proofs.lemmas.List.{length-take-le}
use Rattle.vm_field.specs.Limits.{number_of_constants}
use Rattle.rpo_hash.specs.Constants.{interleaved}
use Rattle.rpo_hash.specs.ParamText.{and_then, element_lines, nothing_left, parameters_of}
use Rattle.rpo_hash.specs.declared.params.ParamError.{ParamError}
use Rattle.rpo_hash.proofs.Lists.{take-set_next, whole}
use Rattle.rpo_hash.proofs.TextLines.{element_lines-length, element_lines-zero, lines_more, lines_stop}

interleaved-push : (firsts seconds : List (List ℕ)) (first second : List ℕ) → length seconds ≡ length firsts
    → interleaved (firsts ++ first ∷ []) (seconds ++ second ∷ []) ≡ interleaved firsts seconds ++ (first ++ second)
unfolding interleaved
interleaved-push [] [] first second len = ap (λ xs. first ++ xs) (append-nil second)
interleaved-push [] (s ∷ ss) first second len = absurd (omega arith)
interleaved-push (f ∷ fs) [] first second len = absurd (omega arith)
interleaved-push (f ∷ fs) (s ∷ ss) first second len =
    ap (λ xs. f ++ (s ++ xs)) (interleaved-push fs ss first second (omega arith))
    ∙ ap (λ xs. f ++ xs) (sym (append_assoc s (interleaved fs ss) (first ++ second)))
    ∙ sym (append_assoc f (s ++ interleaved fs ss) (first ++ second))

-- the rounds before k were read, and are what stands in front of place k
abbrev pub ReadRounds : ℕ → List ℕ → List (List ℕ) → List (List ℕ) → List ℕ → Type 0
ReadRounds k bytes firsts seconds rest = element_lines (24 * k) 1 bytes ≡ Ok (interleaved (take k firsts) (take k seconds), rest)

pub read_none : (bytes : List ℕ) (firsts seconds : List (List ℕ)) → ReadRounds 0 bytes firsts seconds bytes
unfolding interleaved
read_none bytes firsts seconds = element_lines-zero 1 bytes

pub read_more : (k line middle : ℕ) (bytes rest behind end first second : List ℕ) (firsts seconds : List (List ℕ))
    → ReadRounds k bytes firsts seconds rest → k < length firsts → length seconds ≡ length firsts → line ≡ 24 * k + 1
    → element_lines 12 line rest ≡ Ok (first, behind) → middle ≡ line + 12 → element_lines 12 middle behind ≡ Ok (second, end)
    → ReadRounds (k + 1) bytes (set firsts k first) (set seconds k second) end
read_more k line middle bytes rest behind end first second firsts seconds read below len line_is half middle_is other =
    ap (λ n. element_lines n 1 bytes) count
    ∙ lines_more (24 * k + 12) 12 1 middle bytes (interleaved (take k firsts) (take k seconds) ++ first) behind second end
    (lines_more (24 * k) 12 1 line bytes (interleaved (take k firsts) (take k seconds)) rest first behind read (omega arith) half) (omega arith) other
    ∙ ap (λ (xs : List ℕ). Ok (xs, end)) constants
  where
    count : 24 * (k + 1) ≡ 24 * k + 12 + 12
    count = omega arith

    constants : (interleaved (take k firsts) (take k seconds) ++ first) ++ second
        ≡ interleaved (take (k + 1) (set firsts k first)) (take (k + 1) (set seconds k second))
    constants =
        append_assoc (interleaved (take k firsts) (take k seconds)) first second
        ∙ sym (interleaved-push (take k firsts) (take k seconds) first second
        (length-take-le k seconds (omega arith) ∙ sym (length-take-le k firsts (omega arith))))
        ∙ ap₂ interleaved (sym (take-set_next firsts k first below)) (sym (take-set_next seconds k second (omega arith)))

pub refused : (bytes : List ℕ) (error : ParamError) → element_lines 168 1 bytes ≡ Err error → parameters_of bytes ≡ Err error
unfolding parameters_of
refused bytes error stop = ap (and_then (λ read. and_then (λ _. Ok read.0) (nothing_left 169 read.1))) stop

-- the first twelve lines of round k stop
pub refused_first : (k line : ℕ) (bytes rest : List ℕ) (firsts seconds : List (List ℕ)) (error : ParamError)
    → ReadRounds k bytes firsts seconds rest → k < 7 → line ≡ 24 * k + 1 → element_lines 12 line rest ≡ Err error
    → parameters_of bytes ≡ Err error
refused_first k line bytes rest firsts seconds error read below line_is stop =
    refused bytes error (lines_stop (24 * k) 12 1 line 168 bytes (interleaved (take k firsts) (take k seconds)) rest error read
    (omega arith) stop (omega arith))

-- or its second
pub refused_second : (k line middle : ℕ) (bytes rest behind first : List ℕ) (firsts seconds : List (List ℕ)) (error : ParamError)
    → ReadRounds k bytes firsts seconds rest → k < 7 → line ≡ 24 * k + 1 → element_lines 12 line rest ≡ Ok (first, behind) → middle ≡ line + 12
    → element_lines 12 middle behind ≡ Err error → parameters_of bytes ≡ Err error
refused_second k line middle bytes rest behind first firsts seconds error read below line_is half middle_is stop =
    refused bytes error
    (lines_stop (24 * k + 12) 12 1 middle 168 bytes (interleaved (take k firsts) (take k seconds) ++ first) behind error
    (lines_more (24 * k) 12 1 line bytes (interleaved (take k firsts) (take k seconds)) rest first behind read (omega arith) half) (omega arith)
    stop (omega arith))

-- all seven rounds were read
pub read_all : (k line : ℕ) (bytes rest : List ℕ) (firsts seconds : List (List ℕ)) (r : Result Unit ParamError)
    → ReadRounds k bytes firsts seconds rest → k ≡ 7 → length firsts ≡ 7 → length seconds ≡ 7 → line ≡ 169 → r ≡ nothing_left line rest
    → parameters_of bytes ≡ and_then (λ _. Ok (interleaved firsts seconds)) r
unfolding parameters_of
read_all k line bytes rest firsts seconds r read is lf ls line_is last =
    ap (and_then (λ all. and_then (λ _. Ok all.0) (nothing_left 169 all.1))) whole_read
    ∙ ap (and_then (λ _. Ok (interleaved firsts seconds))) (ap (λ n. nothing_left n rest) (sym line_is) ∙ sym last)
  where
    whole_read : element_lines 168 1 bytes ≡ Ok (interleaved firsts seconds, rest)
    whole_read =
        ap (λ n. element_lines n 1 bytes) (ap (λ n. 24 * n) (sym is)) ∙ read
        ∙ ap₂ (λ (fs ss : List (List ℕ)). Ok (interleaved fs ss, rest)) (ap (λ n. take n firsts) is ∙ whole 7 firsts lf)
        (ap (λ n. take n seconds) is ∙ whole 7 seconds ls)

pub length-read_all : (k : ℕ) (bytes rest : List ℕ) (firsts seconds : List (List ℕ)) → ReadRounds k bytes firsts seconds rest → k ≡ 7
    → length firsts ≡ 7 → length seconds ≡ 7 → length (interleaved firsts seconds) ≡ number_of_constants
length-read_all k bytes rest firsts seconds read is lf ls =
    ap₂ (λ (fs ss : List (List ℕ)). length (interleaved fs ss)) (sym (ap (λ n. take n firsts) is ∙ whole 7 firsts lf))
    (sym (ap (λ n. take n seconds) is ∙ whole 7 seconds ls))
    ∙ element_lines-length (24 * k) 1 bytes (interleaved (take k firsts) (take k seconds)) rest read ∙ ap (λ n. 24 * n) is
