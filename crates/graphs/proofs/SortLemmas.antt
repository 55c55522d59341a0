-- Sorting a graph's places: what a step keeps, and what holds at the end.
use Rattle.std.proofs.Common.{◌≡◌, ◌≢◌, ℕ, zero, suc, ◌+◌, ◌-◌, ◌<◌, ◌≤◌, Bool, true, false, List, [], ◌∷◌, ◌++◌, length, take, drop, get_or, set, count_by, replicate, Result, Ok, Err, OnOk, inl, inr, refl, sym, ap, subst, ◌∙◌, append-nil, append_assoc, arith}
use Rattle.std.proofs.lemmas.Bool.{false≢true, cases_lt}
use Rattle.std.proofs.lemmas.Bool.Decides.{eqb_tells}
use Rattle.std.proofs.lemmas.List.{take_more, take-append-le, take-append-drop, get_or-set_same, get_or-set_other, get_or_append_left, get_or_default, get_or-map, get_or_past, get_or_read, get_or-replicate, length-replicate, length-map, length-set}
use Rattle.std.proofs.lemmas.List.Elements.{Contains-append_left, Contains-push, Contains-push_cases, Contains-get_or}
use Rattle.std.proofs.Math.Seq.{take-append-add}
use Rattle.std.specs.List.{All, Contains}
use Rattle.std.specs.declared.vec.Vec.{Vec}
use Rattle.std.specs.declared.alloc.Global.{Global}
use Rattle.graphs.specs.Graph.{rows_of, Edge, IsGraph}
use Rattle.graphs.specs.Orders.{IsAcyclic, StandsBehind, IsOrder}
use Rattle.graphs.specs.Walks.{AreMarks, AddsPlaces}
use Rattle.graphs.specs.Sorting.{waiters, IsSorting, IsSettled, Grows}
use Rattle.graphs.specs.declared.ordering.Sorter.{Sorter}
use Rattle.graphs.proofs.WalkLemmas.{contains_one, AddsPlaces-keeps}
use Rattle.graphs.proofs.Stuck.{not-stuck}

pub OnOk-both : {T E P Q R : Type 0} (r : Result T E) → (P → Q → R) → OnOk r P → OnOk r Q → OnOk r R
OnOk-both (Ok x) f p q = f p q
OnOk-both (Err e) f p q = tt

-- lists

pub contains_whole : (n : ℕ) (xs : List ℕ) (x : ℕ) → Contains (take n xs) x → Contains xs x
contains_whole n xs x h = subst (λ ys. Contains ys x) (take-append-drop n xs) (Contains-append_left (take n xs) (drop n xs) x h)

pub contains_front : (n : ℕ) (xs ys : List ℕ) (x : ℕ) → length xs ≤ n → Contains xs x → Contains (take n (xs ++ ys)) x
contains_front n xs ys x long h =
    let split : length xs + (n - length xs) ≡ n = omega arith in
    subst (λ m. Contains (take m (xs ++ ys)) x) split
    (subst (λ zs. Contains zs x) (sym (take-append-add xs ys (n - length xs))) (Contains-append_left xs (take (n - length xs) ys) x h))

pub contains_none : (x : ℕ) → ¬ (Contains [] x)
contains_none x h = omega (arith, h.1)

-- orders

StandsBehind-visit : (graph : List (List ℕ)) (old new : List ℕ) (place : ℕ) → StandsBehind graph old → AddsPlaces old (place ∷ []) new
    → ((b : ℕ) → Edge graph place b → Contains old b) → StandsBehind graph new
StandsBehind-visit graph old new place behind adds free k b below edge =
    subst (λ xs. Contains (take k xs) b) (sym adds.keeps)
    (elim (cases_lt k (length old)) [
      | inl early ↦
          let low : k < length old = early in
          let same : get_or new k 0 ≡ get_or old k 0 = ap (λ xs. get_or xs k 0) adds.keeps ∙ get_or_append_left old adds.more 0 k low in
          subst (λ xs. Contains xs b) (sym (take-append-le k old adds.more (omega arith))) (behind k b low (subst (λ p. Edge graph p b) same edge))
      | inr late ↦
          contains_front k old adds.more b (late)
          (elim (adds.only (get_or new k 0) (Contains-get_or new k 0 below)) [
            | inl before ↦
                contains_whole before.0 old b (behind before.0 b before.1
                (subst (λ p. Edge graph p b) (sym before.2 ∙ get_or_default old before.0 (get_or new k 0) 0 before.1) edge))
            | inr here ↦ free b (subst (λ p. Edge graph p b) (sym (contains_one place (get_or new k 0) here)) edge)
          ])
    ])

-- rows

pub row_of : (vecs : List (Vec ℕ Global)) (place : ℕ) (vec : Vec ℕ Global) (row : List ℕ) → place < length vecs → vec ≡ get_or vecs place vec
    → row ≡ vec.items → row ≡ get_or (rows_of vecs) place []
row_of vecs place vec row within read is = is ∙ (ap (λ v. v.items) read ∙ sym (get_or-map (λ v. v.items) vecs place vec [] within))

pub edge_at : (graph : List (List ℕ)) (row : List ℕ) (place k d : ℕ) → row ≡ get_or graph place [] → k < length row
    → Edge graph place (get_or row k d)
edge_at graph row place k d is below = subst (λ xs. Contains xs (get_or row k d)) is (Contains-get_or row k d below)

pub rows_set-same : (rows new : List (List ℕ)) (i : ℕ) (row : List ℕ) → new ≡ set rows i row → i < length rows → get_or new i [] ≡ row
rows_set-same rows new i row is within = ap (λ xs. get_or xs i []) is ∙ get_or-set_same rows i row [] within

pub rows_set-other : (rows new : List (List ℕ)) (i j : ℕ) (row : List ℕ) → new ≡ set rows i row → j ≢ i → get_or new j [] ≡ get_or rows j []
rows_set-other rows new i j row is apart = ap (λ xs. get_or xs j []) is ∙ get_or-set_other rows i j row [] apart

-- settled places

pub Grows-join : (s t u : Sorter) → Grows s t → Grows t u → Grows s u
Grows-join s t u first second =
    record {
      more = first.more ++ second.more;
      seen = second.seen ∙ (ap (λ xs. xs ++ second.more) first.seen ∙ append_assoc s.walk.seen.items first.more second.more);
      waits = λ b q h. second.waits b q (first.waits b q h);
    }

pub Grows-keeps : (s t : Sorter) (q : ℕ) → Grows s t → Contains s.walk.seen.items q → Contains t.walk.seen.items q
Grows-keeps s t q grows h = subst (λ xs. Contains xs q) (sym grows.seen) (Contains-append_left s.walk.seen.items grows.more q h)

pub IsSettled-grows : (graph : List (List ℕ)) (done : List ℕ) (s t : Sorter) (q : ℕ) → Grows s t → IsSettled graph done s q → IsSettled graph done t q
IsSettled-grows graph done s t q grows h =
    elim h [
      | inl seen ↦ inl (Grows-keeps s t q grows seen)
      | inr waits ↦ inr (waits.0, waits.1, grows.waits waits.0 q waits.2, waits.3)
    ]

pub IsSettled-fewer : (graph : List (List ℕ)) (done fewer : List ℕ) (s : Sorter) (q : ℕ) → ((b : ℕ) → Contains fewer b → Contains done b)
    → IsSettled graph done s q → IsSettled graph fewer s q
IsSettled-fewer graph done fewer s q part h =
    elim h [ inl seen ↦ inl seen | inr waits ↦ inr (waits.0, waits.1, waits.2, λ b. waits.3 (part waits.0 b)) ]

-- steps

replicate_default : {X : Type 0} (n i : ℕ) (x : X) → get_or (replicate n x) i x ≡ x
replicate_default n i x =
    elim (cases_lt i n) [
      | inl low ↦ get_or-replicate n i x x low
      | inr past ↦ get_or_past (replicate n x) i x
          (omega (arith, past, length-replicate n x))
    ]

count_unmarked : (n : ℕ) → count_by (λ (mark : Bool). mark) (replicate n false) ≡ 0
count_unmarked zero = refl
count_unmarked (suc n) = omega (arith, count_unmarked n)

AreMarks-none : (n : ℕ) → AreMarks (replicate n false) []
AreMarks-none n =
    record {
      marked = λ q. (λ marked. absurd (false≢true (sym (replicate_default n q false) ∙ marked)), λ h. absurd (contains_none q h));
      once = count_unmarked n;
    }

pub IsSorting-start : (graph : List (List ℕ)) (s : Sorter) → s.walk.marks.items ≡ replicate (length graph) false → s.walk.seen.items ≡ []
    → s.passed.items ≡ replicate (length graph) 0 → All (λ row. row ≡ []) (rows_of s.waiting.items)
    → length s.waiting.items ≡ length graph → IsSorting graph s
IsSorting-start graph s marks none passed empty waiting_len =
    record {
      marks = subst (λ ms. AreMarks ms s.walk.seen.items) (sym marks)
          (subst (AreMarks (replicate (length graph) false)) (sym none) (AreMarks-none (length graph)));
      behind = λ k b below. absurd (omega (arith, below, ap length none));
      passed = λ q k below. absurd (omega (arith, below, start q));
      within = λ b q h. absurd (contains_none q (subst (λ xs. Contains xs q) (row b) h));
      marks_len = ap length marks ∙ length-replicate (length graph) false;
      passed_len = ap length passed ∙ length-replicate (length graph) 0;
      waiting_len = waiting_len;
    }
  where
    start : (q : ℕ) → get_or s.passed.items q 0 ≡ 0
    start q = subst (λ xs. get_or xs q 0 ≡ 0) (sym passed) (replicate_default {X = ℕ} (length graph) q 0)

    row : (b : ℕ) → waiters s b ≡ []
    row b = elim (cases_lt b (length (rows_of s.waiting.items))) [
      | inl low ↦ empty b [] low
      | inr past ↦ get_or_past (rows_of s.waiting.items) b [] past
    ]

pub IsSorting-pass : (graph : List (List ℕ)) (s t : Sorter) (place from edge : ℕ) (row : List ℕ) → IsSorting graph s → place < length graph
    → row ≡ get_or graph place [] → from ≡ get_or s.passed.items place from
    → ((k : ℕ) → from ≤ k → k < edge → get_or s.walk.marks.items (get_or row k 0) false ≡ true)
    → t.walk ≡ s.walk → t.passed.items ≡ set s.passed.items place edge → t.waiting ≡ s.waiting → IsSorting graph t
IsSorting-pass graph s t place from edge row old within is read run walk passed waiting =
    record {
      marks = subst (λ w. AreMarks w.marks.items w.seen.items) (sym walk) old.marks;
      behind = subst (λ w. StandsBehind graph w.seen.items) (sym walk) old.behind;
      passed =
          λ q k below inside. subst (λ w. Contains w.seen.items (get_or (get_or graph q []) k 0)) (sym walk)
          (go q k (subst (λ xs. k < get_or xs q 0) passed below) inside);
      within = λ b q h. old.within b q (subst (λ w. Contains (get_or (rows_of w.items) b []) q) waiting h);
      marks_len = ap (λ w. length w.marks.items) walk ∙ old.marks_len;
      passed_len = ap (λ xs. length xs) passed ∙ (length-set s.passed.items place edge ∙ old.passed_len);
      waiting_len = ap (λ w. length w.items) waiting ∙ old.waiting_len;
    }
  where
    count : place < length s.passed.items
    count = omega (arith, old.passed_len)

    go : (q k : ℕ) → k < get_or (set s.passed.items place edge) q 0 → k < length (get_or graph q [])
        → Contains s.walk.seen.items (get_or (get_or graph q []) k 0)
    go q k below inside =
        elim (eqb_tells q place) [
          | inl same ↦
              let now : k < edge =
              subst (λ n. k < n) (get_or-set_same s.passed.items place edge 0 count)
              (subst (λ p. k < get_or (set s.passed.items place edge) p 0) same.1 below) in
              subst (λ p. Contains s.walk.seen.items (get_or (get_or graph p []) k 0)) (sym same.1)
              (elim (cases_lt k (get_or s.passed.items place 0)) [
                | inl early ↦ old.passed place k early (subst (λ p. k < length (get_or graph p [])) same.1 inside)
                | inr late ↦
                    let start : from ≡ get_or s.passed.items place 0 = get_or_read s.passed.items place from count read 0 in
                    (old.marks.marked (get_or (get_or graph place []) k 0)).0
                    (subst (λ xs. get_or s.walk.marks.items (get_or xs k 0) false ≡ true) is (run k (omega arith) now))
              ])
          | inr other ↦ old.passed q k (subst (λ n. k < n) (get_or-set_other s.passed.items place q edge 0 other.1) below) inside
        ]

-- where the rows alone change, and only places wait
IsSorting-rows : (graph : List (List ℕ)) (s t : Sorter) → IsSorting graph s → t.walk ≡ s.walk → t.passed ≡ s.passed
    → length t.waiting.items ≡ length s.waiting.items → ((b q : ℕ) → Contains (waiters t b) q → q < length graph) → IsSorting graph t
IsSorting-rows graph s t old walk passed count within =
    record {
      marks = subst (λ w. AreMarks w.marks.items w.seen.items) (sym walk) old.marks;
      behind = subst (λ w. StandsBehind graph w.seen.items) (sym walk) old.behind;
      passed = λ q k below inside. subst (λ w. Contains w.seen.items (get_or (get_or graph q []) k 0)) (sym walk)
          (old.passed q k (subst (λ v. k < get_or v.items q 0) passed below) inside);
      within = within;
      marks_len = ap (λ w. length w.marks.items) walk ∙ old.marks_len;
      passed_len = ap (λ v. length v.items) passed ∙ old.passed_len;
      waiting_len = count ∙ old.waiting_len;
    }

pub IsSorting-wait : (graph : List (List ℕ)) (s t : Sorter) (place other : ℕ) → IsSorting graph s → place < length graph → other < length graph
    → t.walk ≡ s.walk → t.passed ≡ s.passed → length t.waiting.items ≡ length s.waiting.items
    → rows_of t.waiting.items ≡ set (rows_of s.waiting.items) other (waiters s other ++ place ∷ []) → IsSorting graph t
IsSorting-wait graph s t place other old within free walk passed count rows = IsSorting-rows graph s t old walk passed count go
  where
    low : other < length (rows_of s.waiting.items)
    low = omega (arith, length-map s.waiting.items (λ vec. vec.items), old.waiting_len)

    go : (b q : ℕ) → Contains (waiters t b) q → q < length graph
    go b q h =
        elim (eqb_tells b other) [
          | inl same ↦
              let row : waiters t b ≡ waiters s other ++ place ∷ [] =
              ap (λ j. waiters t j) same.1 ∙ rows_set-same (rows_of s.waiting.items) _ other _ rows low in
              elim (Contains-push_cases (waiters s other) place q (subst (λ xs. Contains xs q) row h)) [
                | inl before ↦ old.within other q before
                | inr is ↦ subst (λ p. p < length graph) is within
              ]
          | inr apart ↦ old.within b q (subst (λ xs. Contains xs q) (rows_set-other (rows_of s.waiting.items) _ other b _ rows apart.1) h)
        ]

pub Grows-wait : (s t : Sorter) (place other : ℕ) → other < length s.waiting.items → t.walk ≡ s.walk
    → rows_of t.waiting.items ≡ set (rows_of s.waiting.items) other (waiters s other ++ place ∷ []) → Grows s t × Contains (waiters t other) place
Grows-wait s t place other free walk rows = (
  record { more = []; seen = ap (λ w. w.seen.items) walk ∙ sym (append-nil s.walk.seen.items); waits = go },
  subst (λ xs. Contains xs place) (sym same_row) (Contains-push (waiters s other) place),
)
  where
    low : other < length (rows_of s.waiting.items)
    low = omega (arith, length-map s.waiting.items (λ vec. vec.items))

    same_row : waiters t other ≡ waiters s other ++ place ∷ []
    same_row = rows_set-same (rows_of s.waiting.items) _ other _ rows low

    go : (b q : ℕ) → Contains (waiters s b) q → Contains (waiters t b) q
    go b q h =
        elim (eqb_tells b other) [
          | inl same ↦
              subst (λ j. Contains (waiters t j) q) (sym same.1)
              (subst (λ xs. Contains xs q) (sym same_row)
              (Contains-append_left (waiters s other) (place ∷ []) q (subst (λ j. Contains (waiters s j) q) same.1 h)))
          | inr apart ↦ subst (λ xs. Contains xs q) (sym (rows_set-other (rows_of s.waiting.items) _ other b _ rows apart.1)) h
        ]

-- each edge of a place whose row was passed leads to what was seen
pub all-passed : (graph : List (List ℕ)) (s : Sorter) (place : ℕ) → IsSorting graph s → length (get_or graph place []) ≤ get_or s.passed.items place 0
    → (b : ℕ) → Edge graph place b → Contains s.walk.seen.items b
all-passed graph s place sorting whole b edge =
    subst (Contains s.walk.seen.items) (get_or_default (get_or graph place []) edge.0 0 b edge.1 ∙ edge.2)
    (sorting.passed place edge.0 (omega (arith, edge.1)) edge.1)

pub IsSorting-visit : (graph : List (List ℕ)) (s t : Sorter) (place : ℕ) → IsSorting graph s → AreMarks t.walk.marks.items t.walk.seen.items
    → AddsPlaces s.walk.seen.items (place ∷ []) t.walk.seen.items → length t.walk.marks.items ≡ length s.walk.marks.items
    → t.passed ≡ s.passed → t.waiting ≡ s.waiting
    → length (get_or graph place []) ≤ get_or s.passed.items place 0 → IsSorting graph t
IsSorting-visit graph s t place old marks adds count passed waiting whole =
    record {
      marks = marks;
      behind = StandsBehind-visit graph _ _ place old.behind adds (all-passed graph s place old whole);
      passed = λ q k below inside. AddsPlaces-keeps _ (place ∷ []) _ _ adds (old.passed q k (subst (λ v. k < get_or v.items q 0) passed below) inside);
      within = λ b q h. old.within b q (subst (λ v. Contains (get_or (rows_of v.items) b []) q) waiting h);
      marks_len = count ∙ old.marks_len;
      passed_len = ap (λ v. length v.items) passed ∙ old.passed_len;
      waiting_len = ap (λ v. length v.items) waiting ∙ old.waiting_len;
    }

-- only places are seen
pub seen-low : (graph : List (List ℕ)) (s : Sorter) (next place : ℕ) → IsSorting graph s → next < length s.walk.seen.items
    → place ≡ get_or s.walk.seen.items next place → place < length graph
seen-low graph s next place sorting within is =
    let marked : get_or s.walk.marks.items place false ≡ true = (sorting.marks.marked place).1 (next, within, sym is) in
    elim (cases_lt place (length s.walk.marks.items)) [
      | inl low ↦ omega (arith, low, sorting.marks_len)
      | inr past ↦ absurd (false≢true (sym (get_or_past s.walk.marks.items place false past) ∙ marked))
    ]

pub IsSorting-take : (graph : List (List ℕ)) (s t : Sorter) (place : ℕ) → IsSorting graph s → place < length graph
    → t.walk ≡ s.walk → t.passed ≡ s.passed → length t.waiting.items ≡ length s.waiting.items
    → rows_of t.waiting.items ≡ set (rows_of s.waiting.items) place [] → IsSorting graph t
IsSorting-take graph s t place old free walk passed count rows = IsSorting-rows graph s t old walk passed count go
  where
    low : place < length (rows_of s.waiting.items)
    low = omega (arith, length-map s.waiting.items (λ vec. vec.items), old.waiting_len)

    go : (b q : ℕ) → Contains (waiters t b) q → q < length graph
    go b q h =
        elim (eqb_tells b place) [
          | inl same ↦
              absurd (contains_none q (subst (λ xs. Contains xs q)
              (ap (λ j. waiters t j) same.1 ∙ rows_set-same (rows_of s.waiting.items) _ place _ rows low) h))
          | inr apart ↦ old.within b q (subst (λ xs. Contains xs q) (rows_set-other (rows_of s.waiting.items) _ place b _ rows apart.1) h)
        ]

-- one more of those seen is done, once all that waited for it are settled
pub IsSettled-next : (graph : List (List ℕ)) (s t u : Sorter) (next place q : ℕ) → next < length s.walk.seen.items
    → place ≡ get_or s.walk.seen.items next 0
    → t.walk ≡ s.walk → rows_of t.waiting.items ≡ set (rows_of s.waiting.items) place [] → Grows t u
    → (Contains (waiters s place) q → IsSettled graph t.walk.seen.items u q)
    → IsSettled graph (take next s.walk.seen.items) s q → IsSettled graph (take (next + 1) u.walk.seen.items) u q
IsSettled-next graph s t u next place q within is walk rows grows waited old =
    elim old [
      | inl seen ↦ inl (Grows-keeps t u q grows (subst (λ w. Contains w.seen.items q) (sym walk) seen))
      | inr waits ↦
          elim (eqb_tells waits.0 place) [
            | inl same ↦ IsSettled-fewer graph t.walk.seen.items _ u q part (waited (subst (λ j. Contains (waiters s j) q) same.1 waits.2))
            | inr apart ↦
                inr (
                  waits.0,
                  waits.1,
                  grows.waits waits.0 q (subst (λ xs. Contains xs q)
                      (sym (rows_set-other (rows_of s.waiting.items) _ place waits.0 _ rows apart.1)) waits.2),
                  λ done. elim (Contains-push_cases (take next s.walk.seen.items) (get_or s.walk.seen.items next 0) waits.0
                      (subst (λ xs. Contains xs waits.0) front done)) [
                        | inl before ↦ waits.3 before
                        | inr here ↦ apart.1 (sym (is ∙ here))
                      ],
                )
          ]
    ]
  where
    seen : u.walk.seen.items ≡ s.walk.seen.items ++ grows.more
    seen = grows.seen ∙ ap (λ w. w.seen.items ++ grows.more) walk

    kept : take (next + 1) u.walk.seen.items ≡ take (next + 1) s.walk.seen.items
    kept = ap (λ xs. take (next + 1) xs) seen ∙ take-append-le (next + 1) s.walk.seen.items grows.more (omega arith)

    front : take (next + 1) u.walk.seen.items ≡ take next s.walk.seen.items ++ get_or s.walk.seen.items next 0 ∷ []
    front = kept ∙ take_more s.walk.seen.items next 0 within

    part : (b : ℕ) → Contains (take (next + 1) u.walk.seen.items) b → Contains t.walk.seen.items b
    part b h = subst (λ w. Contains w.seen.items b) (sym walk) (contains_whole (next + 1) s.walk.seen.items b (subst (λ xs. Contains xs b) kept h))

-- at the end all places were seen
pub IsOrder-end : (graph : List (List ℕ)) (s : Sorter) (next : ℕ) → IsGraph graph → IsAcyclic graph → IsSorting graph s
    → length s.walk.seen.items ≤ next
    → ((q : ℕ) → q < length graph → IsSettled graph (take next s.walk.seen.items) s q) → IsOrder graph s.walk.seen.items
IsOrder-end graph s next is_graph acyclic sorting ended settled = record { within = low; all = all; behind = sorting.behind }
  where
    low : (k : ℕ) → k < length s.walk.seen.items → get_or s.walk.seen.items k 0 < length graph
    low k below = seen-low graph s k _ sorting below (get_or_default s.walk.seen.items k 0 _ below)

    stuck : (a : ℕ) → a < length graph → ¬ (Contains s.walk.seen.items a) → (b : ℕ) × Edge graph a b × ¬ (Contains s.walk.seen.items b)
    stuck a low left =
        elim (settled a low) [
          | inl here ↦ absurd (left here)
          | inr waits ↦ (
            waits.0,
            waits.1,
            λ h. waits.3
                (subst (λ xs. Contains (take next xs) waits.0) (append-nil s.walk.seen.items)
                (contains_front next s.walk.seen.items [] waits.0 ended h)),
          )
        ]

    decided : (a : ℕ) (mark : Bool) → get_or s.walk.marks.items a false ≡ mark → a < length graph → Contains s.walk.seen.items a
    decided a true is low = (sorting.marks.marked a).0 is
    decided a false is low =
        absurd (not-stuck graph acyclic is_graph (λ b. ¬ (Contains s.walk.seen.items b)) stuck a low
        (λ h. false≢true (sym is ∙ (sorting.marks.marked a).1 h)))

    all : (a : ℕ) → a < length graph → Contains s.walk.seen.items a
    all a low = decided a (get_or s.walk.marks.items a false) refl low
