-- The filled tables answer the requests.
use Rattle.fill_chips.proofs.Words.{◌≡◌, ◌≢◌, ℕ, zero, suc, ◌+◌, ◌^◌, ◌<◌, ◌≤◌, List, [], ◌∷◌, ◌++◌, length, map, All, refl, sym, ap, subst, ◌∙◌, arith}
use Rattle.fill_chips.proofs.Words.{length-map, All-append, IsWord, counted, once, over_rows, counted-none, IsState, Perm, Requests, chip_given, Claim}
use Rattle.fill_chips.proofs.Words.{at_number, Fits, answers_on, HasCounts, rows_of, value_at, HaveWords, ShowsOps, ShowsAccesses, kernel_rows, times_called}
use Rattle.fill_chips.proofs.Words.{limbs_in, range_rows}
use Rattle.vm_field.specs.Limits.{number_of_constants}
use Rattle.facts_hasher.specs.PermRows.{rows_of_perms as perm_rows}
use Rattle.facts_bitwise.specs.BitRows.{rows_of_bits as bit_rows}
use Rattle.facts_bitwise.proofs.Given.{rows_give as bits_give}
use Rattle.facts_bitwise.proofs.TableLaws.{rows_show as bits_show}
use Rattle.buses.specs.declared.bus.Bus.{Bus}
use Rattle.buses.specs.declared.bus.Bus.TheVariants as bus
use Rattle.chip_columns.specs.LeftColumns.{key}
use Rattle.air_kit.specs.declared.trace.TableName.{TableName}
use Rattle.air_kit.specs.declared.trace.TableName.TheVariants as table
use Rattle.air_kit.specs.declared.trace.Trace.{Trace}
use Rattle.air_kit.specs.Acceptance.{over_chips}
use Rattle.facts_hasher.specs.HashTables.{PermsFit, HasherIsZero}
use Rattle.facts_hasher.proofs.GivenLemmas.{rows_give}
use Rattle.facts_hasher.proofs.RowsAreZero.{rows_of-size}
use Rattle.facts_hasher.proofs.TableLaws.{rows_show}
use Rattle.fill_chips.specs.declared.chips.Chips.{Chips}
use Rattle.fill_chips.specs.Beside.{AnswersBeside, HasSizes, beside}
use Rattle.fill_chips.proofs.GivenLemmas.{over-quiet}
use Rattle.fill_chips.proofs.KernelGiven.{kernel-size, kernel-zero, kernel_gives}
use Rattle.fill_chips.proofs.LimbLemmas.{asked-both, limbs-asked, limbs-small}
use Rattle.fill_chips.proofs.RangeGiven.{range_gives}
use Rattle.fill_chips.proofs.RangeZero.{range-few, range-some, range-zero}

-- the tables of the requests, by the rows of their accesses
abbrev pub filled : List ℕ → List (List ℕ) → Requests → List (List ℕ) → Chips
filled constants kernel r memory = record {
  range = range_rows (r.ranges ++ limbs_in memory);
  hasher = perm_rows constants r.perms;
  bitwise = bit_rows r.bits;
  memory = memory;
  kernel = kernel_rows (times_called r.calls) kernel;
  left = map (λ k. k ∷ []) r.keys;
}

-- ---- entries

hasher-zero : (c : Claim) (constants : List ℕ) (perms : List Perm) → c.constants ≡ constants → length constants ≡ number_of_constants → PermsFit constants perms
    → HasherIsZero c (perm_rows constants perms)
hasher-zero c constants perms e =
    subst (λ (k : List ℕ). length k ≡ number_of_constants → PermsFit k perms → HasherIsZero c (perm_rows k perms)) e (λ len fit. (rows_show c perms len fit).zero)

none_at : (number : ℕ) → at_number [] number ≡ 0
unfolding at_number
none_at zero = refl
none_at (suc n) = refl

-- ---- buses

-- a sum of six, by what each of them is
six_are : {a b c d e f : ℕ} (g h i j k l n : ℕ) → a ≡ g → b ≡ h → c ≡ i → d ≡ j → e ≡ k → f ≡ l → g + h + i + j + k + l ≡ n
    → a + (b + (c + (d + (e + (f + 0))))) ≡ n
six_are g h i j k l n za zb zc zd ze zf is = omega (arith, za, zb, zc, zd, ze, zf, is)

all_quiet : (r h b m k l : List (List ℕ)) (u : List ℕ)
    → over_rows (λ i x next. []) r u + (over_rows (λ i x next. []) h u + (over_rows (λ i x next. []) b u
    + (over_rows (λ i x next. []) m u + (over_rows (λ i x next. []) k u + (over_rows (λ i x next. []) l u + 0))))) ≡ counted [] u
all_quiet r h b m k l u =
    six_are 0 0 0 0 0 0 0 (over-quiet r u) (over-quiet h u) (over-quiet b u) (over-quiet m u) (over-quiet k u) (over-quiet l u) refl
    ∙ sym (counted-none u)

keys_again : (keys : List ℕ) → map key (map (λ (k : ℕ). k ∷ []) keys) ≡ keys
keys_again [] = refl
keys_again (k ∷ keys) = ap (λ (ks : List ℕ). k ∷ ks) (keys_again keys)

module _ (constants : List ℕ) (kernel : List (List ℕ)) (r : Requests) (memory : List (List ℕ)) (main : List (List ℕ))
    (bits : ShowsOps r.bits (bit_rows r.bits)) (shown : ShowsAccesses r.accesses memory) where
  abbrev trace : Trace
  trace = beside main (filled constants kernel r memory)

  counts_are : Fits constants kernel r → 1 ≤ length main → length main ≤ 2 ^ 19 → HasCounts trace
  counts_are fits some most table.Main = record { least = some; most = most; whole = omega arith }
  counts_are fits some most table.Range =
      let few = range-few (r.ranges ++ limbs_in memory) in
      record { least = range-some (r.ranges ++ limbs_in memory); most = omega (arith, few); whole = omega arith }
  counts_are fits some most table.Hasher =
      let size = rows_of-size constants r.perms in
      let room = fits.room.perms in
      record { least = omega arith; most = omega (arith, size, room); whole = omega (arith, size) }
  counts_are fits some most table.Bitwise =
      let size = bits.size in
      let room = fits.room.bits in
      record { least = omega arith; most = omega (arith, size, room); whole = bits.zero.whole }
  counts_are fits some most table.Memory =
      let size = shown.size in
      let room = fits.room.accesses in
      record { least = omega arith; most = omega (arith, size, room); whole = omega arith }
  counts_are fits some most table.Kernel =
      let size = kernel-size (times_called r.calls) kernel in
      let room = fits.room.words in
      record { least = omega arith; most = omega (arith, size, room); whole = omega arith }
  counts_are fits some most table.Left =
      let size = length-map r.keys (λ (k : ℕ). k ∷ []) in
      let room = fits.room.keys in
      record { least = omega arith; most = omega (arith, size, room); whole = omega arith }

  zeros : length constants ≡ number_of_constants → PermsFit constants r.perms → All IsWord kernel → (c : Claim) (name : TableName) (row number : ℕ)
      → c.constants ≡ constants
      → c.kernel ≡ kernel → name ≢ table.Main → row < length (rows_of trace name) → value_at c trace name row number ≡ 0
  zeros len fit words c table.Main row number ec ek apart within = absurd (apart refl)
  zeros len fit words c table.Range row number ec ek apart within = range-zero (r.ranges ++ limbs_in memory) row number within
  zeros len fit words c table.Hasher row number ec ek apart within = (hasher-zero c constants r.perms ec len fit).zero row number within
  zeros len fit words c table.Bitwise row number ec ek apart within = bits.zero.zero row number within
  zeros len fit words c table.Memory row number ec ek apart within = shown.zero.zero row number within
  zeros len fit words c table.Kernel row number ec ek apart within = kernel-zero c (times_called r.calls) kernel ek words row number within
  zeros len fit words c table.Left row number ec ek apart within = none_at number

  gives : length constants ≡ number_of_constants → Fits constants kernel r → All (λ p. IsState p.start) r.perms → All IsWord kernel
      → (on : Bus) (u : List ℕ) → on ≢ bus.Range
      → over_chips (λ name rows. over_rows (chip_given on name) rows u) trace ≡ counted (answers_on constants r on) u
  gives len fits states words bus.Blocks u apart = all_quiet _ _ _ _ _ _ u
  gives len fits states words bus.Children u apart = all_quiet _ _ _ _ _ _ u
  gives len fits states words bus.Loops u apart = all_quiet _ _ _ _ _ _ u
  gives len fits states words bus.Groups u apart = all_quiet _ _ _ _ _ _ u
  gives len fits states words bus.Overflow u apart = all_quiet _ _ _ _ _ _ u
  gives len fits states words bus.Hasher u apart =
      let n = counted (answers_on constants r bus.Hasher) u in
      six_are 0 n 0 0 0 0 n (over-quiet _ u) (rows_give constants len r.perms u states) (over-quiet _ u) (over-quiet _ u) (over-quiet _ u)
      (over-quiet _ u) (omega arith)
  gives len fits states words bus.Bitwise u apart =
      let n = counted (answers_on constants r bus.Bitwise) u in
      six_are 0 0 n 0 0 0 n (over-quiet _ u) (over-quiet _ u) (bits_give r.bits u) (over-quiet _ u) (over-quiet _ u) (over-quiet _ u) (omega arith)
  gives len fits states words bus.Memory u apart =
      let n = counted (answers_on constants r bus.Memory) u in
      six_are 0 0 0 n 0 0 n (over-quiet _ u) (over-quiet _ u) (over-quiet _ u) (shown.given u) (over-quiet _ u) (over-quiet _ u) (omega arith)
  gives len fits states words bus.Range u apart = absurd (apart refl)
  gives len fits states words bus.Kernel u apart =
      let n = counted (answers_on constants r bus.Kernel) u in
      six_are 0 0 0 0 n 0 n (over-quiet _ u) (over-quiet _ u) (over-quiet _ u) (over-quiet _ u) (kernel_gives kernel r.calls u words fits.calls)
      (over-quiet _ u) (omega arith)

pub filled-answers : (constants : List ℕ) (kernel : List (List ℕ)) (r : Requests) (memory : List (List ℕ)) → length constants ≡ number_of_constants
    → Fits constants kernel r → All (λ p. IsState p.start) r.perms → HaveWords r.bits → ShowsAccesses r.accesses memory → All IsWord kernel
    → All (λ v. v < 65536) r.ranges → AnswersBeside constants kernel r (filled constants kernel r memory)
filled-answers constants kernel r memory len fits states operands shown words small main some most =
    let bits = bits_show r.bits operands in
    record {
      counts = counts_are constants kernel r memory main bits shown fits some most;
      words = kernel-size (times_called r.calls) kernel;
      keys = keys_again r.keys;
      zero = zeros constants kernel r memory main bits shown len (record { follows = fits.perms; states = states }) words;
      given = gives constants kernel r memory main bits shown len fits states words;
      ranges = λ u.
          range_gives (r.ranges ++ limbs_in memory) u
          (All-append (λ v. v < 65536) r.ranges (limbs_in memory) small (limbs-small memory shown.limbs))
          ∙ asked-both r.ranges (limbs_in memory) u ∙ ap (λ n. counted (map (λ v. once (v ∷ [])) r.ranges) u + n) (limbs-asked memory u);
    }

pub filled-sizes : (constants : List ℕ) (kernel : List (List ℕ)) (r : Requests) (memory : List (List ℕ)) → HaveWords r.bits
    → ShowsAccesses r.accesses memory → HasSizes r (filled constants kernel r memory)
filled-sizes constants kernel r memory operands shown = record {
  hasher = rows_of-size constants r.perms;
  bitwise = (bits_show r.bits operands).size;
  memory = shown.size;
}
