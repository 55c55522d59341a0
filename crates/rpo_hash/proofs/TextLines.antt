-- Lines of one element each, read one after another.
use Rattle.std.proofs.Common.{◌≡◌, ℕ, zero, suc, ◌+◌, ◌-◌, ◌<◌, ◌≤◌, ◌==◌, nat_lt, not, Bool, true, false, cond, List, [], ◌∷◌, ◌++◌, length, take, drop, Option, Some, None, option_map, option_and_then, ok_or, Result, Ok, Err, position, sym, refl, ap, ◌∙◌, arith, zero-add, suc-add, eqb-true}
use Rattle.std.proofs.lemmas.Bool.{false≢true}
use Rattle.std.proofs.lemmas.Bool.Decides.{nat_tests}
use Rattle.std.specs.List.{position_or_len}
use Rattle.vm_field.specs.Decimal.{element_of}
use Rattle.rpo_hash.specs.ParamText.{one_line, one_element, and_then, element_line, element_lines}
use Rattle.rpo_hash.specs.declared.params.ParamCause.TheVariants.{Ended, Number}
use Rattle.rpo_hash.specs.declared.params.ParamError.{ParamError}

-- ---- one line

parted : List ℕ → ℕ → List ℕ × List ℕ
parted bytes i = (take i bytes, drop (i + 1) bytes)

-- a place one further on
shifted : (m n : ℕ) → cond (nat_lt (1 + m) (suc n)) (Some (1 + m)) None ≡ option_map suc (cond (nat_lt m n) (Some m) None)
shifted m n = ap (λ b. cond b (Some (1 + m)) None) same ∙ go (nat_lt m n)
  where
    same : nat_lt (1 + m) (suc n) ≡ nat_lt m n
    same = grind (arith, nat_tests)

    go : (b : Bool) → cond b (Some (1 + m)) None ≡ option_map suc (cond b (Some m) None)
    go true = ap Some (omega arith)
    go false = refl

parted-suc : (b : ℕ) (bs : List ℕ) (o : Option ℕ)
    → option_map (λ l. (b ∷ l.0, l.1)) (option_map (parted bs) o) ≡ option_map (parted (b ∷ bs)) (option_map suc o)
unfolding parted
parted-suc b bs None = refl
parted-suc b bs (Some i) = ap (λ k. Some (b ∷ take i bs, drop k (b ∷ bs))) one_more
  where
    one_more : suc (i + 1) ≡ suc i + 1
    one_more = omega arith

-- the first line ends at the first line feed
pub one_line-position : (bytes : List ℕ) → one_line bytes ≡ option_map (λ i. (take i bytes, drop (i + 1) bytes)) (position (λ b. b == 10) bytes)
unfolding one_line parted
one_line-position [] = refl
one_line-position (b ∷ bs) = go (b == 10) refl (one_line-position bs)
  where
    some : nat_lt 0 (suc (length bs)) ≡ true
    some = grind (arith, nat_tests)

    m : ℕ
    m = position_or_len (λ c. c == 10) bs

    go : (t : Bool) → (b == 10) ≡ t → one_line bs ≡ option_map (parted bs) (position (λ c. c == 10) bs)
        → cond t (Some ([], bs)) (option_map (λ l. (b ∷ l.0, l.1)) (one_line bs))
        ≡ option_map (parted (b ∷ bs)) (cond (nat_lt (cond (not t) (1 + m) 0) (suc (length bs))) (Some (cond (not t) (1 + m) 0)) None)
    go true e rest = ap (λ t. option_map (parted (b ∷ bs)) (cond t (Some 0) None)) (sym some)
    go false e rest =
        ap (option_map (λ l. (b ∷ l.0, l.1))) rest
        ∙ parted-suc b bs (position (λ c. c == 10) bs) ∙ ap (option_map (parted (b ∷ bs))) (sym (shifted m (length bs)))

-- a text that is not empty
pub element_line-some : (n : ℕ) (bytes : List ℕ) → 0 < length bytes
    → element_line n bytes ≡ ok_or (one_element bytes) (record { line = n; cause = Number })
unfolding element_line
element_line-some n [] some = absurd (omega arith)
element_line-some n (b ∷ bs) some = refl

pub element_line-none : (n : ℕ) (bytes : List ℕ) → length bytes ≡ 0 → element_line n bytes ≡ Err (record { line = n; cause = Ended })
unfolding element_line
element_line-none n [] none = refl
element_line-none n (b ∷ bs) none = absurd (omega arith)

-- what a text gives whose first line is known
pub one_element-at : (bytes : List ℕ) (l : Option (List ℕ × List ℕ)) → l ≡ one_line bytes
    → one_element bytes ≡ option_and_then (λ p. option_map (λ e. (e, p.1)) (element_of p.0)) l
unfolding one_element
one_element-at bytes l e = ap (option_and_then (λ p. option_map (λ x. (x, p.1)) (element_of p.0))) (sym e)

-- ---- some lines, and then more

-- what was read, and what is behind
abbrev pub Read : Type 0
Read = Result (List ℕ × List ℕ) ParamError

abbrev pub put_first : ℕ → List ℕ × List ℕ → Read
put_first e later = Ok (e ∷ later.0, later.1)

abbrev put_behind : List ℕ → List ℕ × List ℕ → Read
put_behind es later = Ok (es ++ later.0, later.1)

-- what was read, and what is read from what is behind
joined : Read → (List ℕ → Read) → Read
joined r more = and_then (λ a. and_then (put_behind a.0) (more a.1)) r

joined-first : (e : ℕ) (r : Read) (more : List ℕ → Read) → and_then (put_first e) (joined r more) ≡ joined (and_then (put_first e) r) more
unfolding joined
joined-first e (Err x) more = refl
joined-first e (Ok a) more = go (more a.1)
  where
    go : (r : Read) → and_then (put_first e) (and_then (put_behind a.0) r) ≡ and_then (put_behind (e ∷ a.0)) r
    go (Err x) = refl
    go (Ok b) = refl

element_lines-add : (k m n : ℕ) (bytes : List ℕ) → element_lines (k + m) n bytes ≡ joined (element_lines k n bytes) (element_lines m (n + k))
unfolding element_lines joined
element_lines-add zero m n bytes =
    ap (λ j. element_lines j n bytes) (zero-add m) ∙ ap (λ j. element_lines m j bytes) none ∙ same (element_lines m (n + 0) bytes)
  where
    none : n ≡ n + 0
    none = omega arith

    same : (r : Read) → r ≡ and_then (put_behind []) r
    same (Ok b) = refl
    same (Err e) = refl
element_lines-add (suc k) m n bytes =
    ap (λ j. element_lines j n bytes) (suc-add k m) ∙ go (element_line n bytes) (λ first. element_lines-add k m (n + 1) first.1)
  where
    one_more : n + 1 + k ≡ n + suc k
    one_more = omega arith

    go : (r : Result (ℕ × List ℕ) ParamError)
        → ((first : ℕ × List ℕ) → element_lines (k + m) (n + 1) first.1 ≡ joined (element_lines k (n + 1) first.1) (element_lines m (n + 1 + k)))
        → and_then (λ first. and_then (put_first first.0) (element_lines (k + m) (n + 1) first.1)) r
        ≡ joined (and_then (λ first. and_then (put_first first.0) (element_lines k (n + 1) first.1)) r) (element_lines m (n + suc k))
    go (Err e) rest = refl
    go (Ok first) rest =
        ap (and_then (put_first first.0)) (rest first) ∙ joined-first first.0 (element_lines k (n + 1) first.1) (element_lines m (n + 1 + k))
        ∙ ap (λ j. joined (and_then (put_first first.0) (element_lines k (n + 1) first.1)) (element_lines m j)) one_more

-- what was read goes on
pub element_lines-more : (k m n : ℕ) (bytes es rest fs end : List ℕ) → element_lines k n bytes ≡ Ok (es, rest)
    → element_lines m (n + k) rest ≡ Ok (fs, end) → element_lines (k + m) n bytes ≡ Ok (es ++ fs, end)
unfolding joined
element_lines-more k m n bytes es rest fs end first later =
    element_lines-add k m n bytes ∙ ap (λ r. joined r (element_lines m (n + k))) first ∙ ap (and_then (put_behind es)) later

-- or ends with a refusal
pub element_lines-stop : (k m n : ℕ) (bytes es rest : List ℕ) (error : ParamError) → element_lines k n bytes ≡ Ok (es, rest)
    → element_lines m (n + k) rest ≡ Err error → element_lines (k + m) n bytes ≡ Err error
unfolding joined
element_lines-stop k m n bytes es rest error first later =
    element_lines-add k m n bytes ∙ ap (λ r. joined r (element_lines m (n + k))) first ∙ ap (and_then (put_behind es)) later

-- which stands for all longer texts
pub element_lines-stopped : (k m n : ℕ) (bytes : List ℕ) (error : ParamError) → element_lines k n bytes ≡ Err error
    → element_lines (k + m) n bytes ≡ Err error
unfolding joined
element_lines-stopped k m n bytes error first = element_lines-add k m n bytes ∙ ap (λ r. joined r (element_lines m (n + k))) first

ok_read : Read → List ℕ × List ℕ
ok_read (Ok read) = read
ok_read (Err e) = ([], [])

pub same_read : (a b : List ℕ × List ℕ) → ◌≡◌ {A = Read} (Ok a) (Ok b) → a ≡ b
unfolding ok_read
same_read a b e = ap ok_read e

-- k lines give k elements
pub element_lines-length : (k n : ℕ) (bytes es rest : List ℕ) → element_lines k n bytes ≡ Ok (es, rest) → length es ≡ k
unfolding element_lines
element_lines-length zero n bytes es rest read =
    ap (λ p. length p.0) (sym (same_read ([], bytes) (es, rest) read))
element_lines-length (suc k) n bytes es rest read =
    go (element_line n bytes) (λ first later. element_lines-length k (n + 1) first.1 later.0 later.1) read
  where
    more : (e : ℕ) (fs : List ℕ) → e ∷ fs ≡ es → length fs ≡ k → length es ≡ suc k
    more e fs same size = ap length (sym same) ∙ ap suc size

    inner : (first : ℕ × List ℕ) (r : Read) → ((later : List ℕ × List ℕ) → r ≡ Ok later → length later.0 ≡ k)
        → and_then (put_first first.0) r ≡ Ok (es, rest) → length es ≡ suc k
    inner first (Err e) size same = cc
    inner first (Ok later) size same =
        more first.0 later.0 (ap (λ p. p.0) (same_read (first.0 ∷ later.0, later.1) (es, rest) same)) (size later refl)

    go : (r : Result (ℕ × List ℕ) ParamError)
        → ((first : ℕ × List ℕ) (later : List ℕ × List ℕ) → element_lines k (n + 1) first.1 ≡ Ok later → length later.0 ≡ k)
        → and_then (λ first. and_then (put_first first.0) (element_lines k (n + 1) first.1)) r ≡ Ok (es, rest) → length es ≡ suc k
    go (Err e) sizes same = cc
    go (Ok first) sizes same = inner first (element_lines k (n + 1) first.1) (sizes first) same

-- one line is the first of one
pub element_lines-one : (n : ℕ) (bytes : List ℕ) (e : ℕ) (rest : List ℕ) → element_line n bytes ≡ Ok (e, rest)
    → element_lines 1 n bytes ≡ Ok (e ∷ [], rest)
unfolding element_lines
element_lines-one n bytes e rest line = ap (and_then (λ first. and_then (put_first first.0) (Ok ([], first.1)))) line

pub element_lines-one_stop : (n : ℕ) (bytes : List ℕ) (error : ParamError) → element_line n bytes ≡ Err error
    → element_lines 1 n bytes ≡ Err error
unfolding element_lines
element_lines-one_stop n bytes error line = ap (and_then (λ first. and_then (put_first first.0) (Ok ([], first.1)))) line

pub element_lines-zero : (n : ℕ) (bytes : List ℕ) → element_lines 0 n bytes ≡ Ok ([], bytes)
unfolding element_lines
element_lines-zero n bytes = refl

-- ---- the three ends of a line

some_from_test : (bytes : List ℕ) → (length bytes == 0) ≡ false → 0 < length bytes
some_from_test [] h = absurd (false≢true (sym h))
some_from_test (b ∷ bs) h = omega arith

pub line_ended : (n : ℕ) (bytes : List ℕ) → (length bytes == 0) ≡ true → element_line n bytes ≡ Err (record { line = n; cause = Ended })
line_ended n bytes h = element_line-none n bytes (eqb-true (length bytes) 0 h)

pub line_open : (n : ℕ) (bytes : List ℕ) → (length bytes == 0) ≡ false → None ≡ one_line bytes
    → element_line n bytes ≡ Err (record { line = n; cause = Number })
line_open n bytes h none =
    element_line-some n bytes (some_from_test bytes h) ∙ ap (λ o. ok_or o (record { line = n; cause = Number })) (one_element-at bytes None none)

pub line_wrong : (n : ℕ) (bytes text rest : List ℕ) → (length bytes == 0) ≡ false → Some (text, rest) ≡ one_line bytes
    → None ≡ element_of text → element_line n bytes ≡ Err (record { line = n; cause = Number })
line_wrong n bytes text rest h some none =
    element_line-some n bytes (some_from_test bytes h)
    ∙ ap (λ o. ok_or o (record { line = n; cause = Number }))
    (one_element-at bytes (Some (text, rest)) some ∙ ap (option_map (λ e. (e, rest))) (sym none))

pub line_right : (n : ℕ) (bytes text rest : List ℕ) (e : ℕ) → (length bytes == 0) ≡ false → Some (text, rest) ≡ one_line bytes
    → Some e ≡ element_of text → element_line n bytes ≡ Ok (e, rest)
line_right n bytes text rest e h some is =
    element_line-some n bytes (some_from_test bytes h)
    ∙ ap (λ o. ok_or o (record { line = n; cause = Number }))
    (one_element-at bytes (Some (text, rest)) some ∙ ap (option_map (λ x. (x, rest))) (sym is))

-- ---- one line more, and lines more of the same text

pub line_more : (k n m : ℕ) (bytes es rest end : List ℕ) (e : ℕ) → element_lines k n bytes ≡ Ok (es, rest) → m ≡ n + k
    → element_line m rest ≡ Ok (e, end) → element_lines (k + 1) n bytes ≡ Ok (es ++ e ∷ [], end)
line_more k n m bytes es rest end e read is line =
    element_lines-more k 1 n bytes es rest (e ∷ []) end read
    (ap (λ j. element_lines 1 j rest) (sym is) ∙ element_lines-one m rest e end line)

-- lines that stop in one of the next j of t
pub lines_stop : (k j n m t : ℕ) (bytes es rest : List ℕ) (error : ParamError) → element_lines k n bytes ≡ Ok (es, rest) → m ≡ n + k
    → element_lines j m rest ≡ Err error → k + j ≤ t → element_lines t n bytes ≡ Err error
lines_stop k j n m t bytes es rest error read is stop below =
    ap (λ i. element_lines i n bytes) whole_is
    ∙ element_lines-stopped (k + j) (t - (k + j)) n bytes error
    (element_lines-stop k j n bytes es rest error read (ap (λ i. element_lines j i rest) (sym is) ∙ stop))
  where
    whole_is : t ≡ k + j + (t - (k + j))
    whole_is = omega arith

pub line_stop : (k n m t : ℕ) (bytes es rest : List ℕ) (error : ParamError) → element_lines k n bytes ≡ Ok (es, rest) → m ≡ n + k
    → element_line m rest ≡ Err error → k < t → element_lines t n bytes ≡ Err error
line_stop k n m t bytes es rest error read is stop below =
    lines_stop k 1 n m t bytes es rest error read is (element_lines-one_stop m rest error stop) (omega arith)

pub lines_more : (k j n m : ℕ) (bytes es rest fs end : List ℕ) → element_lines k n bytes ≡ Ok (es, rest) → m ≡ n + k
    → element_lines j m rest ≡ Ok (fs, end) → element_lines (k + j) n bytes ≡ Ok (es ++ fs, end)
lines_more k j n m bytes es rest fs end read is more =
    element_lines-more k j n bytes es rest fs end read (ap (λ i. element_lines j i rest) (sym is) ∙ more)
