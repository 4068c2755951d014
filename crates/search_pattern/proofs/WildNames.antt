-- Names compared with wild cards: that it is enough to go back to the last `*`.
use Rattle.std.proofs.Common.{◌≡◌, ℕ, ◌≤◌, suc, Bool, true, false, ◌&&◌, ◌||◌, eqb, List, [], ◌∷◌, length, refl, sym, ap, ◌∙◌, subst, arith}
use Rattle.std.specs.List.{list_any}
use Rattle.java_model.specs.SearchPattern.NameMatch.{is_same, is_wild, ends_of, after_one, star, question_mark}
use Rattle.search_pattern.specs.Wild.{BeginAlike}

-- the shorter ends of a name
abbrev pub shorter_ends : List ℕ → List (List ℕ)
shorter_ends [] = []
shorter_ends (n ∷ ns) = ends_of ns

abbrev pub any_end : Bool → List ℕ → List ℕ → Bool
any_end case pattern name = list_any (is_wild case pattern) (ends_of name)

abbrev pub any_shorter : Bool → List ℕ → List ℕ → Bool
any_shorter case pattern name = list_any (is_wild case pattern) (shorter_ends name)

or_left : (a b : Bool) → a ≡ true → (a || b) ≡ true
or_left true b e = refl
or_left false b e = cc

or_right : (a b : Bool) → b ≡ true → (a || b) ≡ true
or_right true b e = refl
or_right false b e = e

pub any_end_is : (case : Bool) (pattern name : List ℕ) → any_end case pattern name ≡ (is_wild case pattern name || any_shorter case pattern name)
any_end_is case pattern [] = refl
any_end_is case pattern (n ∷ ns) = refl

any_from_shorter : (case : Bool) (pattern name : List ℕ) → any_shorter case pattern name ≡ true → any_end case pattern name ≡ true
any_from_shorter case pattern name e = rw (any_end_is case pattern name) (or_right (is_wild case pattern name) (any_shorter case pattern name) e)

or_cases : (a b : Bool) (C : Type 0) → (a || b) ≡ true → (a ≡ true → C) → (b ≡ true → C) → C
or_cases true b C e f g = f refl
or_cases false b C e f g = g e

and_right : (a b : Bool) → (a && b) ≡ true → b ≡ true
and_right true b e = e
and_right false b e = cc

-- an end of an end is an end
end_of_end : (case : Bool) (pattern name : List ℕ) → any_end case (star ∷ pattern) name ≡ true → any_end case pattern name ≡ true
end_of_end case pattern [] e = or_cases (any_end case pattern []) false (any_end case pattern [] ≡ true) e (λ h. h) (λ h. cc)
end_of_end case pattern (n ∷ ns) e =
    or_cases (any_end case pattern (n ∷ ns)) (any_end case (star ∷ pattern) ns) (any_end case pattern (n ∷ ns) ≡ true) e
    (λ h. h)
    (λ h. or_right (is_wild case pattern (n ∷ ns)) (any_end case pattern ns) (end_of_end case pattern ns h))

one_is : (case : Bool) (p : ℕ) (ps name : List ℕ) → eqb p star ≡ false →
    is_wild case (p ∷ ps) name ≡ after_one (λ n. eqb p question_mark || is_same case p n) (is_wild case ps) name
one_is case p ps name e = rw e refl

-- what an end matches after one character, a shorter end matches
shorter_after_one : (case : Bool) (p : ℕ) (ps name : List ℕ) → eqb p star ≡ false → any_end case (p ∷ ps) name ≡ true → any_shorter case ps name ≡ true
shorter_after_one case p ps [] s e =
    or_cases (is_wild case (p ∷ ps) []) false (any_shorter case ps [] ≡ true) e (λ h. sym (one_is case p ps [] s) ∙ h) (λ h. h)
shorter_after_one case p ps (n ∷ ns) s e =
    or_cases (is_wild case (p ∷ ps) (n ∷ ns)) (any_end case (p ∷ ps) ns) (any_end case ps ns ≡ true) e
    (λ h. rw (any_end_is case ps ns) (or_left (is_wild case ps ns) (any_shorter case ps ns) (and_right (eqb p question_mark || is_same case p n) (is_wild case ps ns) (sym (one_is case p ps (n ∷ ns) s) ∙ h))))
    (λ h. any_from_shorter case ps ns (shorter_after_one case p ps ns s h))

-- While what follows a `*` is tried on a name from one place on, what is left of both decides: it matches, or what
-- follows the `*` matches a shorter end; and whatever a shorter end can give, what is left can give.
pub record Tries (case target : Bool) (whole after tried pattern name : List ℕ) : Type 0 where
  pub decides : target ≡ (is_wild case pattern name || any_shorter case after tried)
  pub kept : any_shorter case after tried ≡ true → any_end case pattern name ≡ true
  pub pattern_fits : length pattern ≤ length whole
  pub after_fits : length after ≤ length whole
  pub name_fits : length name ≤ length tried

pub tries_first : (case target : Bool) (whole after tried : List ℕ) → target ≡ any_end case after tried → length after ≤ length whole → Tries case target whole after tried after tried
tries_first case target whole after tried e h = record {
  decides = e ∙ any_end_is case after tried;
  kept = any_from_shorter case after tried;
  pattern_fits = h;
  after_fits = h;
  name_fits = omega arith;
}

or_within : (a b : Bool) → (b ≡ true → a ≡ true) → (a || b) ≡ a
or_within true b f = refl
or_within false true f = sym (f refl)
or_within false false f = refl

pub tries_star : (case target : Bool) (whole after tried pattern name rest : List ℕ) → Tries case target whole after tried pattern name →
    pattern ≡ star ∷ rest → Tries case target whole rest name rest name
tries_star case target whole after tried pattern name rest t e =
    let decides : target ≡ (any_end case rest name || any_shorter case after tried) = t.decides ∙ ap (λ p. is_wild case p name || any_shorter case after tried) e in
    let fits : suc (length rest) ≤ length whole = subst (λ (p : List ℕ). length p ≤ length whole) e t.pattern_fits in
    tries_first case target whole rest name
    (decides ∙ or_within (any_end case rest name) (any_shorter case after tried) (λ h. end_of_end case rest name (sym (ap (λ p. any_end case p name) e) ∙ t.kept h)))
    (omega arith)

tries_one : (case target : Bool) (whole after tried : List ℕ) (p n : ℕ) (ps ns : List ℕ) → Tries case target whole after tried (p ∷ ps) (n ∷ ns) →
    eqb p star ≡ false → (eqb p question_mark || is_same case p n) ≡ true → Tries case target whole after tried ps ns
tries_one case target whole after tried p n ps ns t s m = record {
  decides = t.decides ∙ ap (λ b. b || any_shorter case after tried) (one_is case p ps (n ∷ ns) s ∙ ap (λ b. b && is_wild case ps ns) m);
  kept = λ h. shorter_after_one case p ps (n ∷ ns) s (t.kept h);
  pattern_fits = omega (arith, t.pattern_fits);
  after_fits = t.after_fits;
  name_fits = omega (arith, t.name_fits);
}

pub tries_both : (case target : Bool) (whole after tried pattern name ps ns : List ℕ) → Tries case target whole after tried pattern name →
    BeginAlike case pattern name ps ns → Tries case target whole after tried ps ns
tries_both case target whole after tried pattern name ps ns t b =
    tries_one case target whole after tried b.wanted b.first ps ns
    (subst (λ (xs : List ℕ). Tries case target whole after tried xs (b.first ∷ ns)) b.pattern_is (subst (λ (xs : List ℕ). Tries case target whole after tried pattern xs) b.name_is t))
    b.no_star b.same

stuck : (case target : Bool) (whole after tried pattern name : List ℕ) → Tries case target whole after tried pattern name →
    is_wild case pattern name ≡ false → target ≡ any_shorter case after tried
stuck case target whole after tried pattern name h f = h.decides ∙ ap (λ b. b || any_shorter case after tried) f

pub tries_next : (case target : Bool) (whole after tried pattern name : List ℕ) (t : ℕ) (ts : List ℕ) → Tries case target whole after tried pattern name →
    is_wild case pattern name ≡ false → tried ≡ t ∷ ts → Tries case target whole after ts after ts
tries_next case target whole after tried pattern name t ts h f e =
    tries_first case target whole after ts (stuck case target whole after tried pattern name h f ∙ ap (any_shorter case after) e) h.after_fits

pub tries_no_more : (case target : Bool) (whole after tried pattern name : List ℕ) → Tries case target whole after tried pattern name →
    is_wild case pattern name ≡ false → tried ≡ [] → target ≡ false
tries_no_more case target whole after tried pattern name h f e = stuck case target whole after tried pattern name h f ∙ ap (any_shorter case after) e

pub tries_end : (case target : Bool) (whole after tried pattern name : List ℕ) → Tries case target whole after tried pattern name →
    pattern ≡ [] → name ≡ [] → target ≡ true
tries_end case target whole after tried pattern name h e f =
    h.decides ∙ (ap (λ p. is_wild case p name || any_shorter case after tried) e ∙ ap (λ n. is_wild case [] n || any_shorter case after tried) f)
