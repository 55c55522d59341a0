-- Fields one behind the other.
use Rattle.table_file.proofs.Words.{◌≡◌, Result, Ok, Err, refl, ap, FileError, Bad, Memory, behind, GivesRead}

-- a good field leaves what follows it
pub goes_past : {A B : Type 0} (r : Result A FileError) (x : A) (next : A → Result B FileError) → r ≡ Ok x → behind r next ≡ next x
goes_past r x next is = ap (λ o. behind o next) is

-- what follows a field is the same where it is at each value
pub same_next : {A B : Type 0} (r : Result A FileError) (f g : A → Result B FileError) → ((x : A) → f x ≡ g x) → behind r f ≡ behind r g
same_next (Ok x) f g same = same x
same_next (Err e) f g same = refl

-- a bad field is an answer
pub bad-read : {A : Type 0} (r : Result A FileError) (e : FileError) → r ≡ Err e → GivesRead (Err e) r
bad-read r (Bad offset why) is = is
bad-read r Memory is = tt

-- the good field that another stands behind
pub chain : {A B : Type 0} (r : Result A FileError) (y : B) (next : A → Result B FileError) → behind r next ≡ Ok y
    → (x : A) × (r ≡ Ok x) × (next x ≡ Ok y)
chain (Ok x) y next e = (x, refl, e)
chain (Err why) y next e = cc
