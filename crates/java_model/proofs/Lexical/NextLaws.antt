-- The next element of inputs is the one that is read, so it is unique.
use Rattle.std.proofs.Common.{◌≡◌, ℕ, zero, suc, ◌<◌, ◌≤◌, true, false, ◌==◌, List, [], ◌∷◌, ◌++◌, length, refl, sym, ap, ap₂, ◌∙◌, subst, inl, inr, arith, true≢false, eqb-true}
use Rattle.std.proofs.lemmas.Bool.{cond_both, and_parts}
use Rattle.std.proofs.lemmas.List.{length-map, map-append}
use Rattle.java_tree.specs.declared.outline.Level.{Level}
use Rattle.java_model.specs.Lexical.Characters.{double_quote, single_quote, slash, star, full_stop, is_white, is_letter, is_digit}
use Rattle.java_model.specs.Lexical.Escapes.{Input, characters_of}
use Rattle.java_model.specs.Lexical.Elements.{Element, IsElement, begins_comment, IsNext}
use Rattle.java_model.specs.Lexical.Elements.Element.{white_space, traditional_comment}
use Rattle.java_model.proofs.Lexical.Reading.{Found, Family, family_of, next_in, next_of, tail_length, comment_of}
use Rattle.java_model.proofs.Lexical.Reading.Found.{found, nothing}
use Rattle.java_model.proofs.Lexical.Families.{family_slash}
use Rattle.java_model.proofs.Lexical.LongestComments.{Best, slashed_star}
use Rattle.java_model.proofs.Lexical.Next.{front_best, empty_element}
use Rattle.java_model.proofs.Lexical.Sound.{Front, Sound}
use Rattle.java_model.proofs.Lexical.SoundNumbers.{number_sound, point_sound}
use Rattle.java_model.proofs.Lexical.SoundQuoted.{string_sound, character_sound}
use Rattle.java_model.proofs.Lexical.SoundOthers.{word_sound, symbol_sound, point_symbol, slashed_sound}

-- what is read is an element

white_sound : (level : Level) (c : ℕ) (cs : List ℕ) → is_white c ≡ true → Front level (c ∷ cs) white_space 1
white_sound level c cs h = record { front = c ∷ []; rest = cs; parted = refl; here = (c, refl, h); counted = refl }

at_head : (level : Level) (c d : ℕ) (cs : List ℕ) (f : Found) → c == d ≡ true → Sound level (d ∷ cs) f → Sound level (c ∷ cs) f
at_head level c d cs f e h = subst (λ x. Sound level (x ∷ cs) f) (sym (eqb-true c d e)) h

pub next_sound : (level : Level) (cs : List ℕ) → Sound level cs (next_of level cs)
unfolding family_of
next_sound level [] = tt
next_sound level (c ∷ cs) =
    let P : Family → Type 0 = λ f. Sound level (c ∷ cs) (next_in level f c cs) in
    cond_both (is_white c) _ _ P (λ h. white_sound level c cs h) (λ _.
    cond_both (is_letter c) _ _ P (λ h. word_sound level c cs h) (λ _.
    cond_both (is_digit c) _ _ P (λ h. number_sound level c cs h) (λ _.
    cond_both (c == full_stop) _ _ P (λ h. point_sound level c cs (eqb-true c full_stop h) point_symbol) (λ _.
    cond_both (c == double_quote) _ _ P (λ h. at_head level c double_quote cs _ h (string_sound level cs)) (λ _.
    cond_both (c == single_quote) _ _ P (λ h. at_head level c single_quote cs _ h (character_sound level cs)) (λ _.
    cond_both (c == slash) _ _ P (λ h. at_head level c slash cs _ h (slashed_sound level cs)) (λ _. symbol_sound level (c ∷ cs))))))))

-- where the characters part, the inputs do

pub record Split (inputs : List Input) (p q : List ℕ) : Type 0 where
  pub front : List Input
  pub after : List Input
  pub parted : inputs ≡ front ++ after
  pub before : characters_of front ≡ p
  pub behind : characters_of after ≡ q

pub split_at : (inputs : List Input) (p q : List ℕ) → characters_of inputs ≡ p ++ q → Split inputs p q
split_at inputs [] q e = record { front = []; after = inputs; parted = refl; before = refl; behind = e }
split_at [] (c ∷ p) q e = absurd (cc)
split_at (input ∷ inputs) (c ∷ p) q e =
    let s = split_at inputs p q (cc) in
    let same : input.character ≡ c = cc in
    record { front = input ∷ s.front; after = s.after; parted = ap (λ x. input ∷ x) s.parted; before = ap₂ (λ a b. a ∷ b) same s.before; behind = s.behind }

pub length_characters : (inputs : List Input) → length (characters_of inputs) ≡ length inputs
length_characters inputs = length-map inputs (λ input. input.character)

pub characters_append : (front after : List Input) → characters_of (front ++ after) ≡ characters_of front ++ characters_of after
characters_append front after = map-append (λ input. input.character) front after

-- each front that is an element is no longer than what is read
pub no_longer : (level : Level) (inputs longer rest : List Input) (other : Element) → inputs ≡ longer ++ rest → IsElement level other (characters_of longer) → Best (characters_of inputs) other (length longer) (next_of level (characters_of inputs))
no_longer level inputs longer rest other e h =
    let c : characters_of inputs ≡ characters_of longer ++ characters_of rest = ap characters_of e ∙ characters_append longer rest in
    let b = front_best level other (characters_of longer) (characters_of rest) h in
    subst (λ n. Best (characters_of inputs) other n (next_of level (characters_of inputs))) (length_characters longer)
    (subst (λ cs. Best cs other (length (characters_of longer)) (next_of level cs)) (sym c) b)

-- at `/*` only a comment is read

comment_read : (n : ℕ) (e : Element) (m : ℕ) → comment_of n ≡ found e m → e ≡ traditional_comment
comment_read zero e m h = cc
comment_read (suc n) e m h = cc

comment_here : (level : Level) (c d : ℕ) (cs : List ℕ) (e : Element) (n : ℕ) → c ≡ slash → d ≡ star → next_of level (c ∷ d ∷ cs) ≡ found e n → e ≡ traditional_comment
comment_here level c d cs e n hc hd h =
    let r : next_of level (slash ∷ star ∷ cs) ≡ comment_of (tail_length false cs) = ap (λ f. next_in level f slash (star ∷ cs)) family_slash ∙ slashed_star cs in
    comment_read (tail_length false cs) e n (sym r ∙ (ap₂ (λ x y. next_of level (x ∷ y ∷ cs)) (sym hc) (sym hd) ∙ h))

pub comment_next : (level : Level) (cs : List ℕ) (e : Element) (n : ℕ) → begins_comment cs ≡ true → next_of level cs ≡ found e n → e ≡ traditional_comment
comment_next level [] e n b h = absurd (true≢false (sym b))
comment_next level (c ∷ []) e n b h = absurd (true≢false (sym b))
comment_next level (c ∷ d ∷ cs) e n b h =
    let parts = and_parts (c == slash) (d == star) b in
    comment_here level c d cs e n (eqb-true c slash parts.0) (eqb-true d star parts.1) h

-- what is read is the next element

best_le : (cs : List ℕ) (other : Element) (m : ℕ) (e : Element) (n : ℕ) (f : Found) → f ≡ found e n → Best cs other m f → m ≤ n
best_le cs other m e n nothing h b = cc
best_le cs other m e n (found k j) h (inl less) = let same : j ≡ n = cc in omega arith
best_le cs other m e n (found k j) h (inr (same, _)) = let both : j ≡ n = cc in omega arith

next_of_split : (level : Level) (inputs : List Input) (e : Element) (n : ℕ) (f : Front level (characters_of inputs) e n) → next_of level (characters_of inputs) ≡ found e n → (s : Split inputs f.front f.rest) → IsNext level inputs e s.front s.after
next_of_split level inputs e n f h s =
    let l : length s.front ≡ n = sym (length_characters s.front) ∙ (ap length s.before ∙ f.counted) in
    record {
      parted = s.parted;
      here = subst (IsElement level e) (sym s.before) f.here;
      longest = λ longer rest other p is. subst (λ k. length longer ≤ k) (sym l) (best_le (characters_of inputs) other (length longer) e n (next_of level (characters_of inputs)) h (no_longer level inputs longer rest other p is));
      comment = λ b. comment_next level (characters_of inputs) e n b h;
    }

pub record NextPart (level : Level) (inputs : List Input) (e : Element) (n : ℕ) : Type 0 where
  pub front : List Input
  pub after : List Input
  pub counted : length front ≡ n
  pub is : IsNext level inputs e front after

sound_front : (level : Level) (cs : List ℕ) (e : Element) (n : ℕ) → next_of level cs ≡ found e n → Front level cs e n
sound_front level cs e n h = let s = next_sound level cs in subst (Sound level cs) h s

pub next_part : (level : Level) (inputs : List Input) (e : Element) (n : ℕ) → next_of level (characters_of inputs) ≡ found e n → NextPart level inputs e n
next_part level inputs e n h =
    let f = sound_front level (characters_of inputs) e n h in
    let s = split_at inputs f.front f.rest f.parted in
    record { front = s.front; after = s.after; counted = sym (length_characters s.front) ∙ (ap length s.before ∙ f.counted); is = next_of_split level inputs e n f h s }

-- and the next element is what is read

next_found : (level : Level) (inputs : List Input) (e : Element) (front after : List Input) (f : Found) → next_of level (characters_of inputs) ≡ f → IsNext level inputs e front after → Best (characters_of inputs) e (length front) f → f ≡ found e (length front)
next_found level inputs e front after nothing h is (b, apart) = absurd (apart (is.comment b))
next_found level inputs e front after (found k n) h is (inr (same, kind)) = ap₂ found (sym kind) (sym same)
next_found level inputs e front after (found k n) h is (inl less) =
    let p = next_part level inputs k n h in
    let l = is.longest p.front p.after k p.is.parted p.is.here in
    absurd (omega (arith, p.counted))

pub IsNext-read : (level : Level) (inputs : List Input) (e : Element) (front after : List Input) → IsNext level inputs e front after → next_of level (characters_of inputs) ≡ found e (length front)
IsNext-read level inputs e front after is =
    next_found level inputs e front after (next_of level (characters_of inputs)) refl is (no_longer level inputs front after e is.parted is.here)

pub front_some : (level : Level) (inputs : List Input) (e : Element) (front after : List Input) → IsNext level inputs e front after → 0 < length front
front_some level inputs e [] after is = absurd (empty_element level e is.here)
front_some level inputs e (input ∷ front) after is = omega arith
