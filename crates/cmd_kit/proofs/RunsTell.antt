-- What a line of `runs` that begins with a link's number tells of the links before it.
use Rattle.cmd_kit.proofs.Words.{◌≡◌, ℕ, ◌+◌, ◌^◌, ◌<◌, ◌≤◌, true, List, [], ◌∷◌, ◌++◌, append_assoc, codes, decimal, get_or, length, length-append, Option}
use Rattle.cmd_kit.proofs.Words.{Some, None, refl, sym, ap, inl, ◌∙◌, arith, all_ascii_digits, append_cancel_left, length-map, Files, ShelfState, SinkState}
use Rattle.cmd_kit.proofs.Words.{with_piece, Status, line_of_link, RunLink, run_link, kind_of, planned}
use Rattle.std.proofs.lemmas.Fmt.{decimal_injective, digits_decimal}
use Rattle.std.proofs.lemmas.Str.Parse.{IsNumeralModel, numerals_by_value, tells_all_ascii_digits}
use Rattle.std.specs.Str.Parse.{digits_value}
use Rattle.cmd_kit.specs.RunsLaws.{Reached, behind_links, RunsLeft, came, TellsOfFile, missing, too_long, bad_line, bad_text, unread, Tells, start_stops, file_stops, run_stops, write_stops, breaks, all_done, StandBefore, RunsTellTheLink}
use Rattle.cmd_kit.proofs.RunsLeave.{runs_leave_links, told_line}
use Rattle.cmd_kit.proofs.RunsNames.{is_list}

abbrev AreDigits : List ℕ → Type 0
AreDigits text = all_ascii_digits text ≡ true

own : IsNumeralModel AreDigits (digits_value 10)
own = numerals_by_value _ tells_all_ascii_digits

heads : (x y : ℕ) (xs ys : List ℕ) → x ∷ xs ≡ y ∷ ys → x ≡ y
heads x y xs ys same = cc

tails : (x y : ℕ) (xs ys : List ℕ) → x ∷ xs ≡ y ∷ ys → xs ≡ ys
tails x y xs ys same = cc

-- where a space ends them, the digits in front of one text are those of the other
same_digits : (xs ys rest other : List ℕ) → AreDigits xs → AreDigits ys → xs ++ (32 ∷ rest) ≡ ys ++ (32 ∷ other) → xs ≡ ys
same_digits [] [] rest other a b same = refl
same_digits [] (y ∷ ys) rest other a b same =
    let head : 32 ≡ y = heads 32 y rest (ys ++ (32 ∷ other)) same in
    absurd (omega (arith, head, (tells_all_ascii_digits.parts y ys b).0))
same_digits (x ∷ xs) [] rest other a b same =
    let head : x ≡ 32 = heads x 32 (xs ++ (32 ∷ rest)) other same in
    absurd (omega (arith, head, (tells_all_ascii_digits.parts x xs a).0))
same_digits (x ∷ xs) (y ∷ ys) rest other a b same =
    let head : x ≡ y = heads x y (xs ++ (32 ∷ rest)) (ys ++ (32 ∷ other)) same in
    let tail : xs ++ (32 ∷ rest) ≡ ys ++ (32 ∷ other) = tails x y (xs ++ (32 ∷ rest)) (ys ++ (32 ∷ other)) same in
    let later =
    same_digits xs ys rest other (tells_all_ascii_digits.parts x xs a).1 (tells_all_ascii_digits.parts y ys b).1 tail in
    ap (λ z. z ∷ xs) head ∙ ap (λ zs. y ∷ zs) later

-- a line tells of one link
same_link : (a b : ℕ) (s t : List ℕ) → a < 2 ^ 64 → b < 2 ^ 64 → line_of_link a s ≡ line_of_link b t → a ≡ b
same_link a b s t small few same =
    decimal_injective a b small few
    (same_digits (decimal a) (decimal b) s t (digits_decimal own a small) (digits_decimal own b few)
    (append_cancel_left (codes "link ") (decimal a ++ (32 ∷ s)) (decimal b ++ (32 ∷ t)) (sym (spelled a s) ∙ same ∙ spelled b t)))
  where
    spelled : (number : ℕ) (text : List ℕ) → line_of_link number text ≡ codes "link " ++ (decimal number ++ (32 ∷ text))
    spelled number text = ap (λ t. codes "link " ++ t) (append_assoc (decimal number) (codes " ") text)

abbrev byte : ℕ → List ℕ → ℕ
byte i line = get_or line i 0

-- a line that tells of a file is none that tells of a link
no_file : (name line text : List ℕ) (s : Status) (number : ℕ) → kind_of s ≡ planned → TellsOfFile name s line → line ≡ line_of_link number text → ⊥
no_file name line text s number kind missing same = let e : 109 ≡ 108 = ap (byte 0) same in omega (arith, e)
no_file name line text s number kind too_long same = let e : 116 ≡ 108 = ap (byte 0) same in omega (arith, e)
no_file name line text s number kind (bad_line row cause) same = let e : 109 ≡ 108 = ap (byte 0) same in omega (arith, e)
no_file name line text s number kind (bad_text cause) same = let e : 109 ≡ 108 = ap (byte 0) same in omega (arith, e)
no_file name line text s number kind unread same = absurd (cc (kind))

few_done : (params list : List ℕ) (m : Files) (done later : List RunLink) (left torn : Option (List ℕ)) (n : Files)
    → RunsLeft params list m (behind_links done later left torn) n → length done ≤ 64
few_done params list m done later left torn n (came constants lines _ _ params_say list_says all written part) =
    let few = (is_list params list list_says.bytes lines list_says.says).few in
    let parts = length-append done later in
    let whole : length (done ++ later) ≡ length lines = ap length all ∙ length-map lines run_link in
    omega (arith, few, parts, whole)

module _ (params list : List ℕ) (m : Files) (new : ShelfState) (number : ℕ) (text : List ℕ) (small : number < 2 ^ 64) where
  stand : (reached : Reached) (n : Files) (s : Status) (line : List ℕ) → kind_of s ≡ planned → line ≡ line_of_link number text → new.files ≡ Some n
      → RunsLeft params list m reached n → Tells params list reached s line → StandBefore params list m new number
  stand reached n s line kind same files stands (start_stops name one of) = absurd (no_file name line text s number kind of same)
  stand reached n s line kind same files stands (file_stops link name one of) = absurd (no_file name line text s number kind of same)
  stand reached n s line kind same files stands (run_stops link {done} {later} {left} said of) =
      let few = few_done params list m done (link ∷ later) left None n stands in
      record {
        done = done;
        later = link ∷ later;
        left = left;
        files_now = n;
        many = same_link (length done + 1) number said text (omega (arith, few)) small same;
        files = files;
        stand = stands;
      }
  stand reached n s line kind same files stands (write_stops name) = absurd (cc (kind))
  stand reached n s line kind same files stands (breaks link more) = let e : 98 ≡ 108 = ap (byte 0) same in absurd (omega (arith, e))
  stand reached n s line kind same files stands all_done = let e : 115 ≡ 32 = ap (byte 4) same in absurd (omega (arith, e))

-- what was printed behind the same text is the same
same_line : (told : Option (List ℕ)) (printed line other : List ℕ) → told ≡ Some printed → with_piece told line ≡ Some (printed ++ other) → line ≡ other
same_line told printed line other is same = append_cancel_left printed line other (pieces (sym (ap (λ t. with_piece t line) is) ∙ same))
  where
    pieces : Some (printed ++ line) ≡ Some (printed ++ other) → printed ++ line ≡ printed ++ other
    pieces e = cc

pub runs_tell_the_link : RunsTellTheLink
runs_tell_the_link words s old new before now params list m number printed text serves kind command is stood stands small =
    let all = runs_leave_links words s old new before now params list m serves command is in
    let told = told_line params list all.0 (kind_of s) s before now (inl kind) all.4 in
    let line : told.0 ≡ line_of_link number text =
    same_line before.taken printed told.0 (line_of_link number text) stood (sym (ap (λ (k : SinkState). k.taken) told.1) ∙ stands) in
    stand params list m new number text small all.0 all.1 s told.0 kind line all.2 all.3 told.2
