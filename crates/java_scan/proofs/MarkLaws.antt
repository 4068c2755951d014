-- A search for a character by the bytes of a text.
use Rattle.std.proofs.Common.{◌≡◌, ◌≢◌, ℕ, zero, suc, ◌+◌, ◌-◌, ◌<◌, ◌≤◌, ◌==◌, List, [], ◌∷◌, ◌++◌, length, take, drop, get_or, chars, encode_utf8, encode_utf8_all, IsUtf8, refl, sym, ap, ◌∙◌, subst, inl, inr, arith, length-append, eqb-true, eq-eqb}
use Rattle.std.specs.Char.{len_utf8}
use Rattle.std.specs.Str.{IsCharBoundary}
use Rattle.std.proofs.lemmas.Bool.{cases_Bool, eqb-false}
use Rattle.std.proofs.lemmas.List.{get_or-append-add}
use Rattle.std.proofs.lemmas.Str.{byte_from_char, inside_one, encodes-chars, IsUtf8-drop}
use Rattle.memchr.specs.Find.{NoneBefore, Nowhere, Passes, is_byte}
use Rattle.java_model.proofs.Lexical.Reading.{run}
use Rattle.java_scan.specs.Place.{Place, place_in, first, advance, after_run, differs}
use Rattle.java_scan.proofs.PlaceLaws.{next_end, advance-suc, advance-at, advance-zero, width-encodes, cut, place_next}

-- so many bytes aren't the mark, and then it stands or the bytes end
pub record IsPlainFor (mark : ℕ) (bytes : List ℕ) (count : ℕ) : Type 0 where
  pub within : count ≤ length bytes
  pub plain : (i : ℕ) → i < count → get_or bytes i 0 ≢ mark
  pub over : count < length bytes → get_or bytes count 0 ≡ mark

pub plain_found : (mark : ℕ) (bytes : List ℕ) (k : ℕ) → NoneBefore (Passes (is_byte mark) bytes) 0 (length bytes) k → Passes (is_byte mark) bytes k → IsPlainFor mark bytes k
plain_found mark bytes k none here = record {
  within = omega (arith, none.high);
  plain = λ i lt e. none.before i (omega arith) lt (eq-eqb (get_or bytes i 0) mark e);
  over = λ lt. eqb-true (get_or bytes k 0) mark here;
}

pub plain_nowhere : (mark : ℕ) (bytes : List ℕ) → Nowhere (Passes (is_byte mark) bytes) 0 (length bytes) → IsPlainFor mark bytes (length bytes)
plain_nowhere mark bytes nowhere = record {
  within = omega arith;
  plain = λ i lt e. nowhere i (omega arith) lt (eq-eqb (get_or bytes i 0) mark e);
  over = λ lt. absurd (omega (arith, lt));
}

-- they are whole characters
run_bytes : (mark : ℕ) → mark < 128 → (cs : List ℕ) (count : ℕ) → IsPlainFor mark (encode_utf8_all cs) count → length (encode_utf8_all (take (run (differs mark) cs) cs)) ≡ count
run_bytes mark ascii [] count h = omega (arith, h.within)
run_bytes mark ascii (c ∷ cs) count h = elim (cases_Bool (c == mark)) [
  | inl is ↦ rw is (none_first count (λ some. h.plain 0 some (byte_from_char (encode_utf8_all (c ∷ cs)) (encode_utf8_all cs) mark (ap (λ d. encode_utf8 d ++ encode_utf8_all cs) (eqb-true c mark is)) ascii)))
  | inr isnt ↦
      let whole = encode_utf8_all (c ∷ cs) in
      let size = length (encode_utf8 c) in
      let inside : count < size → ⊥ = λ lt.
      let here : get_or whole count 0 ≡ mark = h.over (omega (arith, length-append (encode_utf8 c) (encode_utf8_all cs))) in
      eqb-false c mark isnt (inside_one c (encode_utf8_all cs) whole count refl lt (omega (arith, here, ascii)) ∙ here) in
      let fits : size ≤ count = omega (arith, inside) in
      let rest = run_bytes mark ascii cs (count - size) (rest_plain mark c cs count h fits) in
      rw isnt (omega (arith, rest, fits, length-append (encode_utf8 c) (encode_utf8_all (take (run (differs mark) cs) cs))))
]
  where
    none_first : (count : ℕ) → (0 < count → ⊥) → 0 ≡ count
    none_first zero none = refl
    none_first (suc n) none = absurd (none (omega arith))

    rest_plain : (mark c : ℕ) (cs : List ℕ) (count : ℕ) → IsPlainFor mark (encode_utf8_all (c ∷ cs)) count → length (encode_utf8 c) ≤ count → IsPlainFor mark (encode_utf8_all cs) (count - length (encode_utf8 c))
    rest_plain mark c cs count h fits =
        let size = length (encode_utf8 c) in
        let at : (i : ℕ) → get_or (encode_utf8_all (c ∷ cs)) (size + i) 0 ≡ get_or (encode_utf8_all cs) i 0 = λ i. get_or-append-add (encode_utf8 c) (encode_utf8_all cs) i 0 in
        let whole : length (encode_utf8_all (c ∷ cs)) ≡ size + length (encode_utf8_all cs) = length-append (encode_utf8 c) (encode_utf8_all cs) in
        record {
          within = omega (arith, h.within, whole, fits);
          plain = λ i lt e. h.plain (size + i) (omega (arith, lt, fits)) (at i ∙ e);
          over = λ lt.
              let n : size + (count - size) ≡ count = omega (arith, fits) in
              sym (at (count - size)) ∙ (ap (λ k. get_or (encode_utf8_all (c ∷ cs)) k 0) n ∙ h.over (omega (arith, lt, whole, fits)));
        }

-- so many characters on is a place between characters
record IsPlace (text : List ℕ) (p : Place) : Type 0 where
  same : p ≡ place_in text p.at
  boundary : IsCharBoundary text p.at

advanced : (text : List ℕ) (n at : ℕ) → IsUtf8 text → IsCharBoundary text at → IsPlace text (advance n (place_in text at))
advanced text zero at utf8 boundary = subst (IsPlace text) (sym (advance-zero (place_in text at))) (record { same = refl; boundary = boundary })
advanced text (suc n) at utf8 boundary = by_left (advanced text n) (chars (drop at text)) refl
  where
    by_left : ((at : ℕ) → IsUtf8 text → IsCharBoundary text at → IsPlace text (advance n (place_in text at))) → (cs : List ℕ) → chars (drop at text) ≡ cs → IsPlace text (advance (suc n) (place_in text at))
    by_left later [] e = subst (IsPlace text) (sym (advance-suc n (place_in text at) ∙ ap (advance n) (next_end (place_in text at) e))) (later at utf8 boundary)
    by_left later (c ∷ cs) e =
        let k = cut text at c cs utf8 boundary e in
        subst (IsPlace text) (sym (advance-suc n (place_in text at) ∙ ap (advance n) (sym (place_next text at c utf8 boundary (ap first e))))) (later (at + len_utf8 c) utf8 k.boundary)

-- a search by bytes ends where the run of characters ends
run_place : (mark : ℕ) → mark < 128 → (text : List ℕ) (at count : ℕ) → IsUtf8 text → IsCharBoundary text at → IsPlainFor mark (drop at text) count → (after_run (differs mark) (place_in text at)).at ≡ at + count
run_place mark ascii text at count utf8 boundary h =
    let cs = chars (drop at text) in
    let n = run (differs mark) cs in
    let bytes : encode_utf8_all cs ≡ drop at text = encodes-chars (drop at text) (IsUtf8-drop text at utf8 boundary) in
    omega (arith, advance-at n (place_in text at), width-encodes (take n cs), run_bytes mark ascii cs count (subst (λ bs. IsPlainFor mark bs count) (sym bytes) h))

pub run_is : (mark : ℕ) → mark < 128 → (text : List ℕ) (at count : ℕ) → IsUtf8 text → IsCharBoundary text at → IsPlainFor mark (drop at text) count → place_in text (at + count) ≡ after_run (differs mark) (place_in text at)
run_is mark ascii text at count utf8 boundary h = ap (place_in text) (sym (run_place mark ascii text at count utf8 boundary h)) ∙ sym (advanced text (run (differs mark) (chars (drop at text))) at utf8 boundary).same

pub run_boundary : (mark : ℕ) → mark < 128 → (text : List ℕ) (at count : ℕ) → IsUtf8 text → IsCharBoundary text at → IsPlainFor mark (drop at text) count → IsCharBoundary text (at + count)
run_boundary mark ascii text at count utf8 boundary h = subst (IsCharBoundary text) (run_place mark ascii text at count utf8 boundary h) (advanced text (run (differs mark) (chars (drop at text))) at utf8 boundary).boundary
