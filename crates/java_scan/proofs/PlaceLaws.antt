-- How a place in a text moves on.
use Rattle.std.proofs.Common.{◌≡◌, ℕ, zero, suc, ◌+◌, ◌-◌, ◌<◌, ◌≤◌, Bool, true, false, List, [], ◌∷◌, ◌++◌, length, take, drop, map, get_or, chars, encode_utf8, encode_utf8_all, Some, None, IsUtf8, refl, sym, ap, ◌∙◌, arith, length-append}
use Rattle.std.specs.Char.{len_utf8}
use Rattle.std.specs.Str.{IsCharBoundary, all_scalars}
use Rattle.std.specs.List.{slice_range}
use Rattle.std.proofs.lemmas.Bool.{and_parts}
use Rattle.std.proofs.lemmas.List.{drop_more, take_at}
use Rattle.std.proofs.lemmas.Str.{chars-nil, chars-encodes, chars_past_char, encode_ascii, encodes-chars, scalars-chars, drop_past_char, IsUtf8-drop, IsCharBoundary-past_char, length-encode, encodes-append}
use Rattle.java_model.specs.Lexical.Escapes.{raw, width_of}
use Rattle.java_model.proofs.Lexical.Reading.{run, begins}
use Rattle.java_scan.specs.declared.class.Class.TheVariants.{LetterOrDigit}
use Rattle.java_scan.specs.Classes.{passes}
use Rattle.java_scan.specs.Steps.{word_length}
use Rattle.java_scan.specs.Place.{Place, place_in, first, after_first, next, advance, after_run}

-- the first of characters

pub first_split : (cs : List ℕ) (c : ℕ) → first cs ≡ Some c → cs ≡ c ∷ drop 1 cs
first_split [] c e = cc
first_split (d ∷ cs) c e = let same : d ≡ c = cc in ap (λ x. x ∷ cs) same

pub first_none : (cs : List ℕ) → first cs ≡ None → cs ≡ []
first_none [] e = refl
first_none (d ∷ cs) e = cc

pub begins_some : (test : ℕ → Bool) (cs : List ℕ) (c : ℕ) → first cs ≡ Some c → begins test cs ≡ test c
begins_some test [] c e = cc
begins_some test (d ∷ cs) c e = let same : d ≡ c = cc in ap test same

pub begins_none : (test : ℕ → Bool) (cs : List ℕ) → first cs ≡ None → begins test cs ≡ false
begins_none test [] e = refl
begins_none test (d ∷ cs) e = cc

-- one character on

after_first-left : (p : Place) (cs : List ℕ) → p.left ≡ cs → (after_first p cs).left ≡ drop 1 cs
after_first-left p [] e = e
after_first-left p (c ∷ cs) e = refl

pub next-left : (p : Place) → (next p).left ≡ drop 1 p.left
unfolding next
next-left p = after_first-left p p.left refl

pub next_at : (p : Place) (c : ℕ) (cs : List ℕ) → p.left ≡ c ∷ cs → next p ≡ record p { at = p.at + len_utf8 c; left = cs }
unfolding next
next_at p c cs e = ap (after_first p) e

pub next_end : (p : Place) → p.left ≡ [] → next p ≡ p
unfolding next
next_end p e = ap (after_first p) e

pub next_shorter : (p : Place) (c : ℕ) → first p.left ≡ Some c → length (next p).left < length p.left
next_shorter p c e = let s = first_split p.left c e in omega (arith, ap length (next-left p), ap length s)

-- many characters on

pub advance-zero : (p : Place) → advance 0 p ≡ p
unfolding advance
advance-zero p = refl

pub advance-suc : (n : ℕ) (p : Place) → advance (suc n) p ≡ advance n (next p)
unfolding advance
advance-suc n p = refl

pub advance-one : (p : Place) → advance 1 p ≡ next p
unfolding advance
advance-one p = refl

pub advance-advance : (n m : ℕ) (p : Place) → advance m (advance n p) ≡ advance (n + m) p
unfolding advance
advance-advance zero m p = let e : 0 + m ≡ m = omega arith in ap (λ k. advance k p) (sym e)
advance-advance (suc n) m p = let e : suc n + m ≡ suc (n + m) = omega arith in advance-advance n m (next p) ∙ ap (λ k. advance k p) (sym e)

pub advance-next : (n : ℕ) (p : Place) → next (advance n p) ≡ advance (suc n) p
advance-next n p = let e : n + 1 ≡ suc n = omega arith in sym (advance-one (advance n p)) ∙ (advance-advance n 1 p ∙ ap (λ k. advance k p) e)

drop_tail : (n : ℕ) (cs : List ℕ) → drop n (drop 1 cs) ≡ drop (suc n) cs
drop_tail zero [] = refl
drop_tail (suc n) [] = refl
drop_tail n (c ∷ cs) = refl

pub advance-left : (n : ℕ) (p : Place) → (advance n p).left ≡ drop n p.left
unfolding advance
advance-left zero p = refl
advance-left (suc n) p = advance-left n (next p) ∙ (ap (drop n) (next-left p) ∙ drop_tail n p.left)

next-text : (p : Place) → (next p).text ≡ p.text
unfolding next
next-text p = kept p.left
  where
    kept : (cs : List ℕ) → (after_first p cs).text ≡ p.text
    kept [] = refl
    kept (c ∷ cs) = refl

pub advance-text : (n : ℕ) (p : Place) → (advance n p).text ≡ p.text
unfolding advance
advance-text zero p = refl
advance-text (suc n) p = advance-text n (next p) ∙ next-text p

next-at : (p : Place) → (next p).at ≡ p.at + width_of (map raw (take 1 p.left))
unfolding next
next-at p = by_cases p.left
  where
    by_cases : (cs : List ℕ) → (after_first p cs).at ≡ p.at + width_of (map raw (take 1 cs))
    by_cases [] = omega arith
    by_cases (c ∷ cs) = omega arith

width_tail : (n : ℕ) (cs : List ℕ) → width_of (map raw (take 1 cs)) + width_of (map raw (take n (drop 1 cs))) ≡ width_of (map raw (take (suc n) cs))
width_tail zero [] = refl
width_tail (suc n) [] = refl
width_tail zero (c ∷ cs) = omega arith
width_tail (suc n) (c ∷ cs) = omega arith

pub advance-at : (n : ℕ) (p : Place) → (advance n p).at ≡ p.at + width_of (map raw (take n p.left))
unfolding advance
advance-at zero p = omega arith
advance-at (suc n) p =
    omega (arith, advance-at n (next p), next-at p, ap (λ cs. width_of (map raw (take n cs))) (next-left p), width_tail n p.left)

-- bytes

pub width-encodes : (cs : List ℕ) → width_of (map raw cs) ≡ length (encode_utf8_all cs)
width-encodes [] = refl
width-encodes (c ∷ cs) = omega (arith, length-encode c, width-encodes cs, length-append (encode_utf8 c) (encode_utf8_all cs))

-- what stands at a place between characters
pub record Cut (text : List ℕ) (at c : ℕ) (cs : List ℕ) : Type 0 where
  pub bytes : drop at text ≡ encode_utf8 c ++ encode_utf8_all cs
  pub after : chars (drop (at + len_utf8 c) text) ≡ cs
  pub boundary : IsCharBoundary text (at + len_utf8 c)

pub cut : (text : List ℕ) (at c : ℕ) (cs : List ℕ) → IsUtf8 text → IsCharBoundary text at → chars (drop at text) ≡ c ∷ cs → Cut text at c cs
cut text at c cs utf8 boundary e =
    let u : IsUtf8 (drop at text) = IsUtf8-drop text at utf8 boundary in
    let bytes : drop at text ≡ encode_utf8 c ++ encode_utf8_all cs = sym (encodes-chars (drop at text) u) ∙ ap encode_utf8_all e in
    let s : all_scalars (c ∷ cs) ≡ true = ap all_scalars (sym e) ∙ scalars-chars (drop at text) u in
    record {
      bytes = bytes;
      after = ap chars (drop_past_char text (encode_utf8_all cs) at c bytes) ∙ chars-encodes cs (and_parts _ (all_scalars cs) s).1;
      boundary = IsCharBoundary-past_char text (encode_utf8_all cs) at c boundary.0 u bytes;
    }

pub cut_first : (text : List ℕ) (at c : ℕ) → IsUtf8 text → IsCharBoundary text at → first (chars (drop at text)) ≡ Some c → Cut text at c (drop 1 (chars (drop at text)))
cut_first text at c utf8 boundary e = cut text at c (drop 1 (chars (drop at text))) utf8 boundary (first_split (chars (drop at text)) c e)

pub place_next : (text : List ℕ) (at c : ℕ) → IsUtf8 text → IsCharBoundary text at → first (chars (drop at text)) ≡ Some c → place_in text (at + len_utf8 c) ≡ next (place_in text at)
place_next text at c utf8 boundary e =
    let p : Place = place_in text at in
    let k = cut_first text at c utf8 boundary e in
    ap (λ cs. record p { at = at + len_utf8 c; left = cs }) k.after ∙ sym (next_at p c (drop 1 (chars (drop at text))) (first_split (chars (drop at text)) c e))

pub first_at_end : (text : List ℕ) (at : ℕ) → length text ≤ at → first (chars (drop at text)) ≡ None
first_at_end text at h = ap (λ bs. first (chars bs)) (none text at h) ∙ ap first chars-nil
  where
    none : (text : List ℕ) (at : ℕ) → length text ≤ at → drop at text ≡ []
    none [] zero h = refl
    none [] (suc n) h = refl
    none (b ∷ text) zero h = absurd (omega arith)
    none (b ∷ text) (suc n) h = none text n (omega arith)

pub first_ascii : (text : List ℕ) (at : ℕ) → IsUtf8 text → IsCharBoundary text at → at < length text → get_or text at 0 < 128 → Some (get_or text at 0) ≡ first (chars (drop at text))
first_ascii text at utf8 boundary within ascii =
    let b = get_or text at 0 in
    let bytes : drop at text ≡ encode_utf8 b ++ drop (at + 1) text = drop_more text at 0 within ∙ ap (λ x. x ++ drop (at + 1) text) (sym (encode_ascii b ascii)) in
    sym (ap first (chars_past_char (drop at text) (drop (at + 1) text) b (IsUtf8-drop text at utf8 boundary) bytes))

-- the bytes between two places
pub range_between : (text : List ℕ) (at n : ℕ) → IsUtf8 text → IsCharBoundary text at → (end : ℕ) → end ≡ (advance n (place_in text at)).at → slice_range text at end ≡ encode_utf8_all (take n (chars (drop at text)))
range_between text at n utf8 boundary end e =
    let cs = chars (drop at text) in
    let front = encode_utf8_all (take n cs) in
    let l : end - at ≡ length front = omega (arith, e, advance-at n (place_in text at), width-encodes (take n cs)) in
    let parted : drop at text ≡ front ++ encode_utf8_all (drop n cs) = sym (encodes-chars (drop at text) (IsUtf8-drop text at utf8 boundary)) ∙ (ap encode_utf8_all (sym (take_drop n cs)) ∙ encodes-append (take n cs) (drop n cs)) in
    ap (λ k. take k (drop at text)) l ∙ (ap (take (length front)) parted ∙ take_at front (encode_utf8_all (drop n cs)) (length front) refl)
  where
    take_drop : (n : ℕ) (cs : List ℕ) → take n cs ++ drop n cs ≡ cs
    take_drop zero cs = refl
    take_drop (suc n) [] = refl
    take_drop (suc n) (c ∷ cs) = ap (λ x. c ∷ x) (take_drop n cs)

-- runs

run_more : (test : ℕ → Bool) (cs : List ℕ) (c : ℕ) → first cs ≡ Some c → test c ≡ true → run test cs ≡ suc (run test (drop 1 cs))
run_more test [] c e h = cc
run_more test (d ∷ cs) c e h = let same : test d ≡ true = let s : d ≡ c = cc in ap test s ∙ h in rw same refl

pub run_step : (test : ℕ → Bool) (p : Place) (c : ℕ) → first p.left ≡ Some c → test c ≡ true → after_run test (next p) ≡ after_run test p
run_step test p c e h =
    ap (λ cs. advance (run test cs) (next p)) (next-left p) ∙ (sym (advance-suc (run test (drop 1 p.left)) p) ∙ ap (λ n. advance n p) (sym (run_more test p.left c e h)))

run_none : (test : ℕ → Bool) (cs : List ℕ) → begins test cs ≡ false → run test cs ≡ 0
run_none test [] h = refl
run_none test (c ∷ cs) h = rw h refl

pub run_stop : (test : ℕ → Bool) (p : Place) → begins test p.left ≡ false → after_run test p ≡ p
run_stop test p h = ap (λ n. advance n p) (run_none test p.left h) ∙ advance-zero p

pub word_end : (p q end : Place) → q ≡ next p → end ≡ after_run (passes LetterOrDigit) q → end ≡ advance (word_length p.left) p
word_end p q end e r =
    r ∙ (ap (after_run (passes LetterOrDigit)) e ∙ (ap (λ cs. advance (run (passes LetterOrDigit) cs) (next p)) (next-left p) ∙ sym (advance-suc (run (passes LetterOrDigit) (drop 1 p.left)) p)))
