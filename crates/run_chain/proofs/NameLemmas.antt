-- Names that clash, and names that are added.
use Rattle.std.proofs.Common.{◌≡◌, ℕ, Bool, ◌||◌, List, [], ◌∷◌, ◌++◌, map, Bor, refl, sym, ap, ◌∙◌, append_assoc}
use Rattle.std.specs.List.{list_any, zip}
use Rattle.std.proofs.lemmas.List.{map-append}
use Rattle.run_chain.specs.Names.{named, is_clash, has_clash, with_roles}
use Rattle.run_chain.specs.Names as names
use Rattle.run_chain.specs.Reads.{named_as}
use Rattle.run_chain.specs.declared.naming.Named.{Named}
use Rattle.run_chain.specs.declared.naming.Role.{Role}

any-map : {A B : Type 0} (p : B → Bool) (f : A → B) (xs : List A) → list_any p (map f xs) ≡ list_any (λ x. p (f x)) xs
any-map p f [] = refl
any-map p f (x ∷ xs) = ap (λ b. p (f x) || b) (any-map p f xs)

-- the first name clashes with one behind it, or two of these clash
pub clash-first : (all others : List Named) (first : Named) → all ≡ first ∷ others
    → has_clash (map named_as all)
    ≡ (list_any (λ other. is_clash (named_as first) (named_as other)) others || has_clash (map named_as others))
clash-first all others first is =
    ap (λ ns. has_clash (map named_as ns)) is
    ∙ ap (λ b. b || has_clash (map named_as others)) (any-map (is_clash (named_as first)) named_as others)

-- a role and a name that are lent
abbrev pub lent : Bor Role × Bor (Bor (List ℕ)) → names.Named
lent p = named p.0.now p.1.now.now

-- one name more
pub added-more : (before now : List Named) (yielded : List (Bor Role × Bor (Bor (List ℕ)))) (n : Named) (p : Bor Role × Bor (Bor (List ℕ)))
    → named_as n ≡ lent p → map named_as now ≡ map named_as before ++ map lent yielded
    → map named_as (now ++ n ∷ []) ≡ map named_as before ++ map lent (yielded ++ p ∷ [])
added-more before now yielded n p same so_far =
    map-append named_as now (n ∷ [])
    ∙ ap (λ ns. ns ++ named_as n ∷ []) so_far
    ∙ append_assoc (map named_as before) (map lent yielded) (named_as n ∷ [])
    ∙ ap (λ x. map named_as before ++ (map lent yielded ++ x ∷ [])) same
    ∙ ap (λ ns. map named_as before ++ ns) (sym (map-append lent yielded (p ∷ [])))

abbrev pub both : Bor Role × Bor (Bor (List ℕ)) → Role × Bor (List ℕ)
both p = (p.0.now, p.1.now)

-- all names, with their roles
pub added-all : (roles : List Role) (texts : List (Bor (List ℕ))) (yielded : List (Bor Role × Bor (Bor (List ℕ))))
    → map both yielded ≡ zip roles texts → map lent yielded ≡ with_roles roles (map (λ n. n.now) texts)
added-all roles texts yielded whole = pairs yielded ∙ ap (map (λ p. named p.0 p.1.now)) whole ∙ zipped roles texts
  where
    pairs : (ps : List (Bor Role × Bor (Bor (List ℕ)))) → map lent ps ≡ map (λ p. named p.0 p.1.now) (map both ps)
    pairs [] = refl
    pairs (p ∷ ps) = ap (λ ns. lent p ∷ ns) (pairs ps)

    zipped : (roles : List Role) (texts : List (Bor (List ℕ)))
        → map (λ p. named p.0 p.1.now) (zip roles texts) ≡ with_roles roles (map (λ n. n.now) texts)
    zipped [] texts = refl
    zipped (role ∷ roles) [] = refl
    zipped (role ∷ roles) (text ∷ texts) = ap (λ ns. named role text.now ∷ ns) (zipped roles texts)
