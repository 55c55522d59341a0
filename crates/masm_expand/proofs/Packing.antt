-- The operations of an instruction can be packed.
use Rattle.std.proofs.Common.{◌≡◌, ◌≢◌, ℕ, zero, suc, ◌+◌, ◌-◌, ◌*◌, ◌/◌, ◌%◌, ◌^◌, ◌<◌, ◌≤◌, Bool, true, false, not, ◌&&◌, ◌||◌, cond, List, [], ◌∷◌, ◌++◌, map, length, replicate, refl, ap, subst, ◌∙◌, arith, leb-true, ltb-true, ◌==◌, nat_lt, nat_le, lit<}
use Rattle.std.specs.List.{list_all, flat_map, AllByRecursion}
use Rattle.std.proofs.lemmas.List.Elements.{All-from_recursion}
use Rattle.std.proofs.Math.Nat.{pow-le-pow_right}
use Rattle.std.proofs.lemmas.Bool.{and_parts}
use Rattle.vm_field.specs.Field.{prime}
use Rattle.vm_ops.specs.declared.op.Op.{Op}
use Rattle.vm_ops.specs.declared.op.Op.TheVariants as ops
use Rattle.vm_ops.specs.declared.item.Item.{Item}
use Rattle.vm_ops.specs.Codes.{code_of, is_ordinary_op}
use Rattle.vm_ops.specs.Items.{plain_item, push_item, IsPackableItem}
use Rattle.masm_instr.specs.declared.name.Name.{Name}
use Rattle.masm_instr.specs.declared.name.Name.TheVariants as names
use Rattle.masm_instr.specs.declared.form.Form.{Form}
use Rattle.masm_instr.specs.Table.{one_amount, form_of, fixed}
use Rattle.masm_instr.specs.Instructions.{first, first_or, is_in_range, is_count, is_in_form, names_local}
use Rattle.masm_expand.specs.Expansion.{plain, lit, dups, movups, movdns, swapws, entry, dup, movup, movdn, swap, movupw, movdnw, exp_digit, exp_digits, pow2, pow2_step, two_to, assert_u32, local, front, expansion}
use Rattle.masm_expand.specs.Packable.{ExpansionsArePackable}

abbrev pub Each : List Item → Type 0
Each items = AllByRecursion IsPackableItem items

-- an operation of a batch that takes no immediate
abbrev pub is_plain : Op → Bool
is_plain op = is_ordinary_op op && not (code_of op == 69)

no_push : (op : Op) → not (code_of op == 69) ≡ true → op ≢ ops.Push
no_push op e is = let wrong : not (code_of ops.Push == 69) ≡ true = subst (λ x. not (code_of x == 69) ≡ true) is e in cc

plain_packs : (op : Op) → is_plain op ≡ true → IsPackableItem (plain_item op)
plain_packs op e =
    let two : (is_ordinary_op op ≡ true) × (not (code_of op == 69) ≡ true) = and_parts (is_ordinary_op op) (not (code_of op == 69)) e in
    record { ordinary = record { ordinary = two.0; immediate = no_push op two.1 }; immediate = tt }

push_packs : (v : ℕ) → v < prime → v ≢ 0 → IsPackableItem (push_item v)
push_packs v small some = record { ordinary = record { ordinary = refl; immediate = (refl, small) }; immediate = some }

lit_by : (v : ℕ) (test : Bool) → (v == 0) ≡ test → v < prime → IsPackableItem (cond test (plain_item ops.Pad) (push_item v))
lit_by v true e small = plain_packs ops.Pad refl
lit_by v false e small = push_packs v small (λ is. let zero_too : (v == 0) ≡ true = ap (λ x. x == 0) is in cc)

pub lit_packs : (v : ℕ) → v < prime → IsPackableItem (lit v)
lit_packs v small = lit_by v (v == 0) refl small

each_append : (xs ys : List Item) → Each xs → Each ys → Each (xs ++ ys)
each_append [] ys h k = k
each_append (x ∷ xs) ys h k = (h.0, each_append xs ys h.1 k)

-- operations of a batch that take no immediate
abbrev pub are_plain : List Op → Bool
are_plain operations = list_all is_plain operations

each_plain : (operations : List Op) → are_plain operations ≡ true → Each (plain operations)
each_plain [] e = tt
each_plain (op ∷ more) e =
    let two : (is_plain op ≡ true) × (are_plain more ≡ true) = and_parts (is_plain op) (are_plain more) e in
    (plain_packs op two.0, each_plain more two.1)

plain_append : (xs ys : List Op) → are_plain xs ≡ true → are_plain ys ≡ true → are_plain (xs ++ ys) ≡ true
plain_append [] ys h k = k
plain_append (x ∷ xs) ys h k =
    let two : (is_plain x ≡ true) × (are_plain xs ≡ true) = and_parts (is_plain x) (are_plain xs) h in
    ap (λ b. b && are_plain (xs ++ ys)) two.0 ∙ plain_append xs ys two.1 k

plain_if : (test : Bool) (xs ys : List Op) → are_plain xs ≡ true → are_plain ys ≡ true → are_plain (cond test xs ys) ≡ true
plain_if true xs ys h k = h
plain_if false xs ys h k = k

-- an entry of a table, and the operations round it
plain_entry : (table : List Op) (n : ℕ) → are_plain table ≡ true → is_plain (entry table n) ≡ true
plain_entry [] n e = refl
plain_entry (op ∷ table) zero e = (and_parts (is_plain op) (are_plain table) e).0
plain_entry (op ∷ table) (suc n) e = plain_entry table n (and_parts (is_plain op) (are_plain table) e).1

around : (xs ys : List Op) (op : Op) → are_plain xs ≡ true → is_plain op ≡ true → are_plain ys ≡ true → are_plain (xs ++ op ∷ ys) ≡ true
around xs ys op h o k = plain_append xs (op ∷ ys) h (ap (λ b. b && are_plain ys) o ∙ k)

plain_dup : (n : ℕ) → are_plain (dup n) ≡ true
unfolding dup
plain_dup n =
    plain_if (nat_lt n 8 || n % 2 == 1) (entry dups n ∷ []) (ops.Pad ∷ entry dups (n + 1) ∷ ops.Add ∷ [])
    (around [] [] (entry dups n) refl (plain_entry dups n refl) refl)
    (around (ops.Pad ∷ []) (ops.Add ∷ []) (entry dups (n + 1)) refl (plain_entry dups (n + 1) refl) refl)

plain_movup : (n : ℕ) → are_plain (movup n) ≡ true
unfolding movup
plain_movup n =
    plain_if (nat_le n 8) (entry movups n ∷ []) (ops.SwapDW ∷ entry movups (n - 8) ∷ ops.SwapDW ∷ ops.MovUp8 ∷ [])
    (around [] [] (entry movups n) refl (plain_entry movups n refl) refl)
    (around (ops.SwapDW ∷ []) (ops.SwapDW ∷ ops.MovUp8 ∷ []) (entry movups (n - 8)) refl (plain_entry movups (n - 8) refl) refl)

plain_movdn : (n : ℕ) → are_plain (movdn n) ≡ true
unfolding movdn
plain_movdn n =
    plain_if (nat_le n 8) (entry movdns n ∷ []) (ops.MovDn8 ∷ ops.SwapDW ∷ entry movdns (n - 8) ∷ ops.SwapDW ∷ [])
    (around [] [] (entry movdns n) refl (plain_entry movdns n refl) refl)
    (around (ops.MovDn8 ∷ ops.SwapDW ∷ []) (ops.SwapDW ∷ []) (entry movdns (n - 8)) refl (plain_entry movdns (n - 8) refl) refl)

plain_swap : (n : ℕ) → are_plain (swap n) ≡ true
unfolding swap
plain_swap n =
    plain_if (n == 1) (ops.Swap ∷ []) (movdn n ++ movup (n - 1)) refl
    (plain_append (movdn n) (movup (n - 1)) (plain_movdn n) (plain_movup (n - 1)))

plain_movupw : (n : ℕ) → are_plain (movupw n) ≡ true
unfolding movupw
plain_movupw n = plain_if _ (ops.SwapW ∷ ops.SwapW2 ∷ []) (ops.SwapW ∷ ops.SwapW2 ∷ ops.SwapW3 ∷ []) refl refl

plain_movdnw : (n : ℕ) → are_plain (movdnw n) ≡ true
unfolding movdnw
plain_movdnw n = plain_if _ (ops.SwapW2 ∷ ops.SwapW ∷ []) (ops.SwapW3 ∷ ops.SwapW2 ∷ ops.SwapW ∷ []) refl refl

plain_digit : (v : ℕ) → are_plain (exp_digit v) ≡ true
plain_digit v =
    plain_if (v == 0) [] _ refl
    (plain_if (v % 2 == 1) (ops.Dup0 ∷ ops.Mul ∷ ops.Dup1 ∷ ops.Mul ∷ []) (ops.Dup0 ∷ ops.Mul ∷ []) refl refl)

plain_digits : (k e : ℕ) → are_plain (exp_digits k e) ≡ true
unfolding exp_digits
plain_digits zero e = refl
plain_digits (suc k) e = plain_append (exp_digit (e / 2 ^ k)) (exp_digits k e) (plain_digit (e / 2 ^ k)) (plain_digits k e)

plain_times : (n : ℕ) (op : Op) → is_plain op ≡ true → are_plain (replicate n op) ≡ true
plain_times zero op e = refl
plain_times (suc n) op e = ap (λ b. b && are_plain (replicate n op)) e ∙ plain_times n op e

plain_asserts : (numbers : List ℕ) → are_plain (assert_u32 numbers) ≡ true
plain_asserts [] = refl
plain_asserts (n ∷ numbers) = refl

-- 2 to a power below 32 is an element, and not 0
power_packs : (b : ℕ) → b ≤ 31 → IsPackableItem (push_item (2 ^ b))
power_packs b few =
    let most : 2 ^ b ≤ 2 ^ 31 = pow-le-pow_right {n = 2} (lit< tt) few in
    let least : 2 ^ 0 ≤ 2 ^ b = pow-le-pow_right {n = 2} (lit< tt) {i = 0} {j = b} (omega arith) in
    push_packs (2 ^ b) (omega arith) (λ e. omega arith)

each_step : (less : ℕ) → less < prime → less ≢ 0 → Each (pow2_step less)
each_step less small some = (
  push_packs 2 (lit< tt) (λ e. omega arith),
  (
    plain_packs ops.U32Div refl,
    (push_packs less small some, each_plain (ops.Mul ∷ ops.Incr ∷ ops.MovUp2 ∷ ops.Mul ∷ ops.Swap ∷ []) refl),
  ),
)

each_steps : (factors : List ℕ) → list_all (λ n. nat_lt 0 n && nat_lt n prime) factors ≡ true → Each (flat_map pow2_step factors)
each_steps [] e = tt
each_steps (n ∷ factors) e =
    let two : ((nat_lt 0 n && nat_lt n prime) ≡ true) × (list_all (λ n. nat_lt 0 n && nat_lt n prime) factors ≡ true) =
    and_parts (nat_lt 0 n && nat_lt n prime) _ e in
    let bounds : (nat_lt 0 n ≡ true) × (nat_lt n prime ≡ true) = and_parts (nat_lt 0 n) (nat_lt n prime) two.0 in
    let some : 0 < n = ltb-true 0 n bounds.0 in
    each_append (pow2_step n) (flat_map pow2_step factors) (each_step n (ltb-true n prime bounds.1) (λ is. omega arith)) (each_steps factors two.1)

each_pow2 : Each pow2
unfolding pow2
each_pow2 = (
  push_packs 1 (lit< tt) (λ e. omega arith),
  (
    plain_packs ops.Swap refl,
    each_append (flat_map pow2_step (1 ∷ 3 ∷ 15 ∷ 255 ∷ 65535 ∷ 4294967295 ∷ [])) (plain (ops.Eqz ∷ ops.Assert ∷ []))
        (each_steps (1 ∷ 3 ∷ 15 ∷ 255 ∷ 65535 ∷ 4294967295 ∷ []) refl) (each_plain (ops.Eqz ∷ ops.Assert ∷ []) refl),
  ),
)

-- what is known of numbers in form
record InForm (f : Form) (numbers : List ℕ) : Type 0 where
  least : f.least ≤ length numbers
  most : length numbers ≤ f.most
  ranged : list_all (is_in_range f) numbers ≡ true

in_form : (name : Name) (numbers : List ℕ) → is_in_form name numbers ≡ true → InForm (form_of name) numbers
in_form name numbers e =
    let two : (is_count (form_of name) (length numbers) ≡ true) × (list_all (is_in_range (form_of name)) numbers ≡ true) =
    and_parts (is_count (form_of name) (length numbers)) _ e in
    let counts : (nat_le (form_of name).least (length numbers) ≡ true) × (nat_le (length numbers) (form_of name).most ≡ true) =
    and_parts (nat_le (form_of name).least (length numbers)) _ two.0 in
    record { least = leb-true _ _ counts.0; most = leb-true _ _ counts.1; ranged = two.1 }

range : (f : Form) (n : ℕ) (numbers : List ℕ) → list_all (is_in_range f) (n ∷ numbers) ≡ true
    → (f.low ≤ n) × (n ≤ f.high) × (list_all (is_in_range f) numbers ≡ true)
range f n numbers e =
    let two : (is_in_range f n ≡ true) × (list_all (is_in_range f) numbers ≡ true) = and_parts (is_in_range f n) _ e in
    let bounds : (nat_le f.low n ≡ true) × (nat_le n f.high ≡ true) = and_parts (nat_le f.low n) (nat_le n f.high) two.0 in
    (leb-true _ _ bounds.0, leb-true _ _ bounds.1, two.1)

first_high : (f : Form) (numbers : List ℕ) → list_all (is_in_range f) numbers ≡ true → first numbers ≤ f.high
first_high f [] e = omega arith
first_high f (n ∷ numbers) e = (range f n numbers e).1

lits_pack : (f : Form) (numbers : List ℕ) → f.high < prime → list_all (is_in_range f) numbers ≡ true → Each (map lit numbers)
lits_pack f [] small e = tt
lits_pack f (n ∷ numbers) small e =
    let r : (f.low ≤ n) × (n ≤ f.high) × (list_all (is_in_range f) numbers ≡ true) = range f n numbers e in
    (lit_packs n (omega (arith, small, r.1)), lits_pack f numbers small r.2)

local_packs : (locals i : ℕ) → i < locals → IsPackableItem (local locals i)
local_packs locals i within = lit_packs (prime - (locals - i)) (omega arith)

two_to_packs : (numbers : List ℕ) → first numbers ≤ 31 → Each (two_to numbers)
two_to_packs [] few = each_pow2
two_to_packs (b ∷ more) few = (power_packs b few, tt)

front_packs : (name : Name) (numbers : List ℕ) (locals : ℕ) → InForm (form_of name) numbers
    → (names_local name ≡ true → first numbers < locals) → Each (front name numbers locals)
unfolding front
front_packs names.Exp numbers locals f l = (lit_packs 1 (lit< tt), each_plain (exp_digits 64 (first numbers)) (plain_digits 64 (first numbers)))
front_packs names.Pow2 numbers locals f l = each_pow2
front_packs names.IsOdd numbers locals f l =
    each_append (plain (ops.U32Split ∷ ops.Drop ∷ [])) (push_item 2 ∷ []) (each_plain (ops.U32Split ∷ ops.Drop ∷ []) refl)
    (push_packs 2 (lit< tt) (λ e. omega arith), tt)
front_packs names.U32Assert numbers locals f l = each_plain (assert_u32 numbers) (plain_asserts numbers)
front_packs names.U32CheckedNot numbers locals f l = (push_packs 4294967295 (lit< tt) (λ e. omega arith), tt)
front_packs names.U32CheckedShl numbers locals f l = two_to_packs numbers (first_high one_amount numbers f.ranged)
front_packs names.U32CheckedShr numbers locals f l = two_to_packs numbers (first_high one_amount numbers f.ranged)
front_packs names.U32CheckedRotl numbers locals f l = two_to_packs numbers (first_high one_amount numbers f.ranged)
front_packs names.U32CheckedRotr numbers locals f l = (power_packs ((32 - first numbers) % 32) (omega arith), tt)
front_packs names.Dup numbers locals f l = each_plain (dup (first_or 0 numbers)) (plain_dup (first_or 0 numbers))
front_packs names.Dupw numbers locals f l =
    each_plain (replicate 4 (entry dups (4 * first_or 0 numbers + 3)))
    (plain_times 4 (entry dups (4 * first_or 0 numbers + 3)) (plain_entry dups (4 * first_or 0 numbers + 3) refl))
front_packs names.Movup numbers locals f l = each_plain (movup (first numbers)) (plain_movup (first numbers))
front_packs names.Movdn numbers locals f l = each_plain (movdn (first numbers)) (plain_movdn (first numbers))
front_packs names.Swap numbers locals f l = each_plain (swap (first_or 1 numbers)) (plain_swap (first_or 1 numbers))
front_packs names.Swapw numbers locals f l =
    each_plain (entry swapws (first_or 1 numbers) ∷ [])
    (around [] [] (entry swapws (first_or 1 numbers)) refl (plain_entry swapws (first_or 1 numbers) refl) refl)
front_packs names.Movupw numbers locals f l = each_plain (movupw (first numbers)) (plain_movupw (first numbers))
front_packs names.Movdnw numbers locals f l = each_plain (movdnw (first numbers)) (plain_movdnw (first numbers))
front_packs names.AdvPush numbers locals f l = each_plain (replicate (first numbers) ops.AdvPop) (plain_times (first numbers) ops.AdvPop refl)
front_packs names.Locaddr numbers locals f l = (local_packs locals (first numbers) (l refl), tt)
front_packs names.LocLoad numbers locals f l = (local_packs locals (first numbers) (l refl), tt)
front_packs names.LocLoadw numbers locals f l = (local_packs locals (first numbers) (l refl), tt)
front_packs names.LocStore numbers locals f l = (local_packs locals (first numbers) (l refl), tt)
front_packs names.LocStorew numbers locals f l = (local_packs locals (first numbers) (l refl), tt)
front_packs name numbers locals f l = lits_pack (form_of name) numbers (lit< tt) f.ranged

fixed_plain : (name : Name) → are_plain (fixed name) ≡ true
fixed_plain names.Add = refl
fixed_plain name = refl

-- no list is empty
some_left : (xs ys : List Item) → xs ≢ [] → xs ++ ys ≢ []
some_left [] ys some e = some refl
some_left (x ∷ xs) ys some e = cc

some_right : (xs ys : List Item) → ys ≢ [] → xs ++ ys ≢ []
some_right [] ys some e = some e
some_right (x ∷ xs) ys some e = cc

some_plain : (operations : List Op) → operations ≢ [] → plain operations ≢ []
some_plain [] some e = some refl
some_plain (op ∷ more) some e = cc

some_if : (test : Bool) (xs ys : List Op) → xs ≢ [] → ys ≢ [] → cond test xs ys ≢ []
some_if true xs ys h k = h
some_if false xs ys h k = k

some_ops_left : (xs ys : List Op) → xs ≢ [] → xs ++ ys ≢ []
some_ops_left [] ys some e = some refl
some_ops_left (x ∷ xs) ys some e = cc

some_op : (op : Op) (more : List Op) → op ∷ more ≢ []
some_op op more e = cc

some_dup : (n : ℕ) → dup n ≢ []
unfolding dup
some_dup n = some_if (nat_lt n 8 || n % 2 == 1) _ _ (some_op (entry dups n) []) (some_op ops.Pad (entry dups (n + 1) ∷ ops.Add ∷ []))

some_movup : (n : ℕ) → movup n ≢ []
unfolding movup
some_movup n = some_if (nat_le n 8) _ _ (some_op (entry movups n) []) (some_op ops.SwapDW (entry movups (n - 8) ∷ ops.SwapDW ∷ ops.MovUp8 ∷ []))

some_movdn : (n : ℕ) → movdn n ≢ []
unfolding movdn
some_movdn n = some_if (nat_le n 8) _ _ (some_op (entry movdns n) []) (some_op ops.MovDn8 (ops.SwapDW ∷ entry movdns (n - 8) ∷ ops.SwapDW ∷ []))

some_swap : (n : ℕ) → swap n ≢ []
unfolding swap
some_swap n = some_if (n == 1) _ _ (some_op ops.Swap []) (some_ops_left (movdn n) (movup (n - 1)) (some_movdn n))

some_movupw : (n : ℕ) → movupw n ≢ []
unfolding movupw
some_movupw n = some_if (n == 2) _ _ (some_op ops.SwapW (ops.SwapW2 ∷ [])) (some_op ops.SwapW (ops.SwapW2 ∷ ops.SwapW3 ∷ []))

some_movdnw : (n : ℕ) → movdnw n ≢ []
unfolding movdnw
some_movdnw n = some_if (n == 2) _ _ (some_op ops.SwapW2 (ops.SwapW ∷ [])) (some_op ops.SwapW3 (ops.SwapW2 ∷ ops.SwapW ∷ []))

some_asserts : (numbers : List ℕ) → assert_u32 numbers ≢ []
some_asserts [] e = cc
some_asserts (n ∷ numbers) e = cc

some_lits : (numbers : List ℕ) → 1 ≤ length numbers → map lit numbers ≢ []
some_lits [] least e = let wrong : ⊥ = omega arith in wrong
some_lits (n ∷ numbers) least e = cc

some_times : (n : ℕ) (op : Op) → 1 ≤ n → replicate n op ≢ []
some_times zero op least e = let wrong : ⊥ = omega arith in wrong
some_times (suc n) op least e = cc

first_low : (f : Form) (numbers : List ℕ) → 1 ≤ length numbers → list_all (is_in_range f) numbers ≡ true → f.low ≤ first numbers
first_low f [] least e = let wrong : ⊥ = omega arith in absurd wrong
first_low f (n ∷ numbers) least e = (range f n numbers e).0

-- an instruction with no front of its own
some_fixed : (name : Name) (numbers : List ℕ) (locals : ℕ) → plain (fixed name) ≢ [] → expansion name numbers locals ≢ []
unfolding expansion
some_fixed name numbers locals some = some_right (front name numbers locals) (plain (fixed name)) some

-- an instruction with a front of operations
some_front : (name : Name) (numbers : List ℕ) (locals : ℕ) → front name numbers locals ≢ [] → expansion name numbers locals ≢ []
unfolding expansion
some_front name numbers locals some = some_left (front name numbers locals) (plain (fixed name)) some

some_expansion : (name : Name) (numbers : List ℕ) (locals : ℕ) → InForm (form_of name) numbers → expansion name numbers locals ≢ []
unfolding front pow2
some_expansion names.Pow2 numbers locals f = some_front names.Pow2 numbers locals (λ e. cc)
some_expansion names.U32Assert numbers locals f = some_front names.U32Assert numbers locals (some_plain (assert_u32 numbers) (some_asserts numbers))
some_expansion names.Dup numbers locals f =
    some_front names.Dup numbers locals (some_plain (dup (first_or 0 numbers)) (some_dup (first_or 0 numbers)))
some_expansion names.Dupw numbers locals f = some_front names.Dupw numbers locals (λ e. cc)
some_expansion names.Movup numbers locals f = some_front names.Movup numbers locals (some_plain (movup (first numbers)) (some_movup (first numbers)))
some_expansion names.Movdn numbers locals f = some_front names.Movdn numbers locals (some_plain (movdn (first numbers)) (some_movdn (first numbers)))
some_expansion names.Swap numbers locals f =
    some_front names.Swap numbers locals (some_plain (swap (first_or 1 numbers)) (some_swap (first_or 1 numbers)))
some_expansion names.Swapw numbers locals f = some_front names.Swapw numbers locals (λ e. cc)
some_expansion names.Movupw numbers locals f =
    some_front names.Movupw numbers locals (some_plain (movupw (first numbers)) (some_movupw (first numbers)))
some_expansion names.Movdnw numbers locals f =
    some_front names.Movdnw numbers locals (some_plain (movdnw (first numbers)) (some_movdnw (first numbers)))
some_expansion names.Push numbers locals f = some_front names.Push numbers locals (some_lits numbers f.least)
some_expansion names.AdvPush numbers locals f =
    some_front names.AdvPush numbers locals
    (some_plain (replicate (first numbers) ops.AdvPop)
    (some_times (first numbers) ops.AdvPop (first_low (form_of names.AdvPush) numbers f.least f.ranged)))
some_expansion name numbers locals f = some_fixed name numbers locals (λ e. cc)

each_expansion : (name : Name) (numbers : List ℕ) (locals : ℕ) → InForm (form_of name) numbers
    → (names_local name ≡ true → first numbers < locals) → Each (expansion name numbers locals)
unfolding expansion
each_expansion name numbers locals f l =
    each_append (front name numbers locals) (plain (fixed name)) (front_packs name numbers locals f l) (each_plain (fixed name) (fixed_plain name))

pub expansions_are_packable : ExpansionsArePackable
expansions_are_packable name numbers locals e l = record {
  some = some_expansion name numbers locals (in_form name numbers e);
  each = All-from_recursion IsPackableItem (expansion name numbers locals) (each_expansion name numbers locals (in_form name numbers e) l);
}
