-- The end of a file.
use Rattle.std.proofs.Common.{◌≡◌, ℕ, ◌-◌, ◌≤◌, List, ◌++◌, length, drop, min, inl, inr, refl, sym, ap, subst, ◌∙◌, append_assoc, arith}
use Rattle.std.proofs.lemmas.List.{drop_at, length-append}
use Rattle.std.proofs.lemmas.Bool.{cases_lt}
use Rattle.std.proofs.Math.ListN.{drop_of_length-le}
use Rattle.java_model.proofs.IndexFile.Fields.{IsBytes, IsBytes-drop, Takes}
use Rattle.disk_index.specs.Reads.{EndsWith}

pub EndsWith-long : (file rest : List ℕ) → EndsWith file rest → length rest ≤ length file
EndsWith-long file rest e = omega (arith, ap length e.1, length-append e.0 rest)

pub EndsWith-drop : (file rest : List ℕ) → EndsWith file rest → drop (length file - length rest) file ≡ rest
EndsWith-drop file rest e =
    let place : length file - length rest ≡ length e.0 = omega (arith, ap length e.1, length-append e.0 rest) in
    ap (λ (n : ℕ). drop n file) place ∙ ap (λ (f : List ℕ). drop (length e.0) f) e.1 ∙ drop_at e.0 rest (length e.0) refl

pub EndsWith-bytes : (file rest : List ℕ) → EndsWith file rest → IsBytes file → IsBytes rest
EndsWith-bytes file rest e fits = subst IsBytes (EndsWith-drop file rest e) (IsBytes-drop (length file - length rest) file fits)

pub EndsWith-takes : (file rest text after : List ℕ) → EndsWith file rest → Takes rest text after → EndsWith file after
EndsWith-takes file rest text after e t = (e.0 ++ text, e.1 ∙ ap (λ (r : List ℕ). e.0 ++ r) t.parts ∙ sym (append_assoc e.0 text after))

pub drop-min : (n : ℕ) (xs : List ℕ) → drop (min n (length xs)) xs ≡ drop n xs
drop-min n xs =
    elim (cases_lt n (length xs)) [
      | inl lt ↦ let e : min n (length xs) ≡ n = omega arith in ap (λ (k : ℕ). drop k xs) e
      | inr le ↦ let e : min n (length xs) ≡ length xs = omega arith in
          ap (λ (k : ℕ). drop k xs) e ∙ drop_of_length-le xs {i = length xs} (omega arith) ∙ sym (drop_of_length-le xs le)
    ]
