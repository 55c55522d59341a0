-- Laws of the head of a table file.
use Rattle.table_file.proofs.Words.{◌≡◌, ℕ, suc, ◌+◌, ◌*◌, ◌^◌, ◌<◌, ◌≤◌, Bool, true, ◌==◌, List, [], ◌∷◌, ◌++◌, drop, length, map, codes, Result, Ok, refl}
use Rattle.table_file.proofs.Words.{sym, ap, subst, ◌∙◌, arith, append_assoc, eqb-true, little_bytes, length-bytes_low_first, every_table, most_rows}
use Rattle.table_file.proofs.Words.{TableName, FileCause, FileError, number_at, parts_bytes, magic, count_at, count_bytes, counts_at, head_of, head_bytes}
use Rattle.table_file.proofs.Words.{is_version, may_have_in, version_of}
use Rattle.air_kit.specs.declared.trace.TableName.TheVariants as table
use Rattle.table_file.specs.declared.cause.FileCause.TheVariants as cause
use Rattle.table_file.proofs.Chains.{chain}
use Rattle.table_file.proofs.NumberLaws.{AreBytes, number-says, number-tested, number-written, number-reads}
use Rattle.table_file.proofs.PartLaws.{behind_part}
use Rattle.table_file.proofs.TablesByName.{Each}
use Rattle.table_file.proofs.Versions.{IsCountIn, is_count_in, may_have_in_if, version_fits}

-- a count fits its bytes
pub few-fit : (name : TableName) (n : ℕ) → n ≤ most_rows name → n < 256 ^ 4
few-fit table.Main n h = omega arith
few-fit table.Range n h = omega arith
few-fit table.Hasher n h = omega arith
few-fit table.Bitwise n h = omega arith
few-fit table.Memory n h = omega arith
few-fit table.Kernel n h = omega arith
few-fit table.Left n h = omega arith

module _ (bytes : List ℕ) where
  -- counts that read well from a place on
  pub record CountsSay (version : ℕ) (names : List TableName) (at : ℕ) (counts : List ℕ) : Type 0 where
    pub each : length counts ≡ length names
    pub may : Each (IsCountIn version) names counts
    pub within : at + 4 * length names ≤ length bytes
    pub written : AreBytes bytes → parts_bytes count_bytes counts ++ drop (at + 4 * length names) bytes ≡ drop at bytes

  inside : {A : Type 0} (a b : A) → (let r : Result A FileError = Ok a in r) ≡ Ok b → a ≡ b
  inside a b e = cc

  -- a field in front of what follows it
  joined : (part more rest : List ℕ) (at next : ℕ) → part ++ drop next bytes ≡ drop at bytes → more ++ rest ≡ drop next bytes
      → (part ++ more) ++ rest ≡ drop at bytes
  joined part more rest at next here follows = append_assoc part more rest ∙ ap (λ (bs : List ℕ). part ++ bs) follows ∙ here

  counts-say : (version : ℕ) (names : List TableName) (at : ℕ) (counts : List ℕ) → at ≤ length bytes
      → counts_at bytes version names at ≡ Ok counts → CountsSay version names at counts
  unfolding counts_at parts_bytes
  counts-say version [] at counts before is =
      subst (CountsSay version [] at) (inside [] counts is) (record {
        each = refl;
        may = tt;
        within = omega arith;
        written = λ low. let here : at + 4 * 0 ≡ at = omega arith in ap (λ (n : ℕ). drop n bytes) here;
      })
  counts-say version (name ∷ names) at counts before is =
      let test = may_have_in version name in
      let a = chain (count_at bytes version name at) counts _ is in
      let b = chain (counts_at bytes version names (at + 4)) counts _ a.2 in
      let fits = (number-says bytes 4 cause.Count test at a.0 a.1).0 in
      let rest = counts-say version names (at + 4) b.0 fits b.1 in
      let place : at + 4 * suc (length names) ≡ at + 4 + 4 * length names = omega arith in
      subst (CountsSay version (name ∷ names) at) (inside (a.0 ∷ b.0) counts b.2) (record {
        each = ap suc rest.each;
        may = (is_count_in version name a.0 (number-tested bytes 4 cause.Count test at a.0 a.1), rest.may);
        within = let long = rest.within in omega (arith, long, place);
        written = λ low.
            ap (λ (n : ℕ). (count_bytes a.0 ++ parts_bytes count_bytes b.0) ++ drop n bytes) place
            ∙ joined (count_bytes a.0) (parts_bytes count_bytes b.0) (drop (at + 4 + 4 * length names) bytes) at (at + 4)
            (number-written bytes 4 cause.Count test at a.0 low a.1) (rest.written low);
      })

  -- what a good head says
  pub record HeadSays (counts : List ℕ) : Type 0 where
    pub version : is_version (version_of bytes) ≡ true
    pub counted : CountsSay (version_of bytes) every_table 8 counts
    pub written : AreBytes bytes → head_bytes (version_of bytes) counts ++ drop 36 bytes ≡ bytes

  pub head-says : (counts : List ℕ) → head_of bytes ≡ Ok counts → HeadSays counts
  unfolding head_of head_bytes
  head-says counts e =
      let is_magic : ℕ → Bool = λ n. n == magic in
      let v = version_of bytes in
      let word = chain (number_at bytes 4 cause.Magic is_magic 0) counts _ e in
      let version = chain (number_at bytes 4 cause.Version is_version 4) counts _ word.2 in
      let says = number-says bytes 4 cause.Version is_version 4 version.0 version.1 in
      let is_word : word.0 ≡ magic = eqb-true word.0 magic (number-tested bytes 4 cause.Magic is_magic 0 word.0 word.1) in
      let say = counts-say v every_table 8 counts says.0 (ap (λ (n : ℕ). counts_at bytes n every_table 8) says.2 ∙ version.2) in
      record {
        version = says.1;
        counted = say;
        written = λ low.
            let first : codes "MDTB" ++ drop 4 bytes ≡ bytes =
            ap (λ (n : ℕ). little_bytes 4 n ++ drop 4 bytes) (sym is_word)
            ∙ number-written bytes 4 cause.Magic is_magic 0 word.0 low word.1 in
            let second : count_bytes v ++ drop 8 bytes ≡ drop 4 bytes =
            ap (λ (n : ℕ). little_bytes 4 n ++ drop 8 bytes) says.2
            ∙ number-written bytes 4 cause.Version is_version 4 version.0 low version.1 in
            joined (codes "MDTB") (count_bytes v ++ parts_bytes count_bytes counts) (drop 36 bytes) 0 4 first
            (joined (count_bytes v) (parts_bytes count_bytes counts) (drop 36 bytes) 4 8 second (say.written low));
      }

  field-read : (why : FileCause) (test : ℕ → Bool) (at n : ℕ) (rest : List ℕ) → n < 256 ^ 4 → test n ≡ true
      → drop at bytes ≡ little_bytes 4 n ++ rest → (number_at bytes 4 why test at ≡ Ok n) × (drop (at + 4) bytes ≡ rest)
  field-read why test at n rest fits good is = (
    number-reads bytes 4 why test at n rest (omega arith) fits good is,
    behind_part bytes (little_bytes 4 n) rest at 4 (length-bytes_low_first 0 4 n) is,
  )

  module _ (version : ℕ) (of : TableName → ℕ) (may : (name : TableName) → IsCountIn version name (of name)) where
    counts-read : (names : List TableName) (at : ℕ) (rest : List ℕ) → drop at bytes ≡ parts_bytes count_bytes (map of names) ++ rest
        → (counts_at bytes version names at ≡ Ok (map of names)) × (drop (at + 4 * length names) bytes ≡ rest)
    unfolding counts_at parts_bytes
    counts-read [] at rest is = (refl, (let here : at + 4 * 0 ≡ at = omega arith in ap (λ (n : ℕ). drop n bytes) here ∙ is))
    counts-read (name ∷ names) at rest is =
        let more = parts_bytes count_bytes (map of names) in
        let one =
        field-read cause.Count (may_have_in version name) at (of name) (more ++ rest) (few-fit name (of name) (may name).is.most)
        (may_have_in_if version name (of name) (may name)) (is ∙ append_assoc (count_bytes (of name)) more rest) in
        let others = counts-read names (at + 4) rest one.1 in
        let place : at + 4 * suc (length names) ≡ at + 4 + 4 * length names = omega arith in
        (rw (one.0, others.0) refl, ap (λ (n : ℕ). drop n bytes) place ∙ others.1)

    -- a head's bytes read as it, and what follows stands behind it
    pub head-read : is_version version ≡ true → (rest : List ℕ) → bytes ≡ head_bytes version (map of every_table) ++ rest
        → (head_of bytes ≡ Ok (map of every_table)) × (drop 36 bytes ≡ rest)
    unfolding head_bytes head_of
    head-read good rest is =
        let counts = parts_bytes count_bytes (map of every_table) in
        let word =
        field-read cause.Magic (λ n. n == magic) 0 magic ((count_bytes version ++ counts) ++ rest) (omega arith) refl
        (is ∙ append_assoc (codes "MDTB") (count_bytes version ++ counts) rest) in
        let said =
        field-read cause.Version is_version 4 version (counts ++ rest) (version_fits version good) good
        (word.1 ∙ append_assoc (count_bytes version) counts rest) in
        let others = counts-read every_table 8 rest said.1 in
        (rw (word.0, said.0) others.0, others.1)
