-- A field that is read is the field that was spelled, and what was spelled is read again.
use Rattle.std.proofs.Common.{◌≡◌, ℕ, ◌+◌, ◌^◌, ◌<◌, ◌≤◌, Bool, true, false, cond, ltb, List, [], ◌∷◌, ◌++◌, length, get_or, take, drop, Result, Ok, Err, refl, sym, ap, subst, ◌∙◌, append_assoc, arith, inl, inr}
use Rattle.std.proofs.lemmas.Bool.{cases_lt, ltb-false, le-ltb}
use Rattle.std.proofs.lemmas.List.{take_at, drop_at, take-append-drop, length-append, length-take, get_or-drop, get_or-take, get_or_past}
use Rattle.std.proofs.lemmas.Nat.{be_bytes_2, be_bytes_4, be_bytes_8}
use Rattle.byteorder.specs.Endian.{big_bytes, big_number}
use Rattle.byteorder.specs.Numbers.{big_number-reads_back, length-bytes_high_first}
use Rattle.java_model.specs.IndexFile.Reading.{◌>>=◌, number_at, slice_at, ruled}

abbrev pub IsBytes : List ℕ → Type 0
IsBytes bytes = (i : ℕ) → get_or bytes i 0 < 256

pub IsBytes-drop : (n : ℕ) (bytes : List ℕ) → IsBytes bytes → IsBytes (drop n bytes)
IsBytes-drop n bytes h i = rw get_or-drop (h (n + i))

pub IsBytes-take : (n : ℕ) (bytes : List ℕ) → IsBytes bytes → IsBytes (take n bytes)
IsBytes-take n bytes h i =
    elim (cases_lt i n) [
      | inl lt ↦ rw (get_or-take n bytes i 0 lt) (h i)
      | inr le ↦ rw (get_or_past (take n bytes) i 0 (omega (arith, length-take n bytes))) (omega arith)
    ]

-- the value of a step that didn't fail
pub bind_ok : {A B : Type 0} (r : Result A ℕ) (f : A → Result B ℕ) (y : B) → (r >>= f) ≡ Ok y → (x : A) × (r ≡ Ok x) × (f x ≡ Ok y)
bind_ok (Ok x) f y e = (x, refl, e)
bind_ok (Err d) f y e = absurd cc

-- tests that didn't fail
pub guard_ok : {A : Type 0} (b : Bool) (d : ℕ) (x y : A) → cond b (Err d) (Ok x) ≡ Ok y → (b ≡ false) × (x ≡ y)
guard_ok true d x y e = absurd cc
guard_ok false d x y e = (refl, cc)

pub rule_ok : {A : Type 0} (b : Bool) (d : ℕ) (x y : A) → cond b (Ok x) (Err d) ≡ Ok y → (b ≡ true) × (x ≡ y)
rule_ok true d x y e = (refl, cc)
rule_ok false d x y e = absurd cc

abbrev done : {A : Type 0} → A → Result A ℕ
done x = Ok x

pub ok_is : {A : Type 0} (x y : A) → done x ≡ done y → x ≡ y
ok_is x y e = cc

-- what a field took from the front
pub record Takes (bytes text rest : List ℕ) : Type 0 where
  pub parts : bytes ≡ text ++ rest
  pub rest_fits : IsBytes rest

pub Takes-then : (a x b y c : List ℕ) → Takes a x b → Takes b y c → Takes a (x ++ y) c
Takes-then a x b y c p q = record { parts = p.parts ∙ ap (λ (t : List ℕ). x ++ t) q.parts ∙ sym (append_assoc x y c); rest_fits = q.rest_fits }

-- ---- numbers

pub record IsWide (n limit : ℕ) : Type 0 where
  pub back : (bytes : List ℕ) → n ≤ length bytes → IsBytes bytes → big_bytes n (big_number n bytes) ≡ take n bytes
  pub again : (x : ℕ) (rest : List ℕ) → x < limit → big_number n (big_bytes n x ++ rest) ≡ x
  pub below : (bytes : List ℕ) → IsBytes bytes → big_number n bytes < limit

back_2 : (bytes : List ℕ) → 2 ≤ length bytes → IsBytes bytes → big_bytes 2 (big_number 2 bytes) ≡ take 2 bytes
back_2 (a ∷ b ∷ rest) long fits = be_bytes_2 (a ∷ b ∷ []) (big_number 2 (a ∷ b ∷ rest)) refl (IsBytes-take 2 (a ∷ b ∷ rest) fits) (omega arith)
back_2 (a ∷ []) long fits = absurd (omega arith)
back_2 [] long fits = absurd (omega arith)

pub wide_2 : IsWide 2 (2 ^ 16)
wide_2 = record { back = back_2; again = λ x rest lt. big_number-reads_back 2 x rest lt; below = λ bytes fits. omega (arith, fits 0, fits 1) }

back_4 : (bytes : List ℕ) → 4 ≤ length bytes → IsBytes bytes → big_bytes 4 (big_number 4 bytes) ≡ take 4 bytes
back_4 (a ∷ b ∷ c ∷ d ∷ rest) long fits = be_bytes_4 (a ∷ b ∷ c ∷ d ∷ []) (big_number 4 (a ∷ b ∷ c ∷ d ∷ rest)) refl (IsBytes-take 4 (a ∷ b ∷ c ∷ d ∷ rest) fits) (omega arith)
back_4 (a ∷ b ∷ c ∷ []) long fits = absurd (omega arith)
back_4 (a ∷ b ∷ []) long fits = absurd (omega arith)
back_4 (a ∷ []) long fits = absurd (omega arith)
back_4 [] long fits = absurd (omega arith)

pub wide_4 : IsWide 4 (2 ^ 32)
wide_4 = record { back = back_4; again = λ x rest lt. big_number-reads_back 4 x rest lt; below = λ bytes fits. omega (arith, fits 0, fits 1, fits 2, fits 3) }

back_8 : (bytes : List ℕ) → 8 ≤ length bytes → IsBytes bytes → big_bytes 8 (big_number 8 bytes) ≡ take 8 bytes
back_8 (a ∷ b ∷ c ∷ d ∷ e ∷ f ∷ g ∷ h ∷ rest) long fits = be_bytes_8 (a ∷ b ∷ c ∷ d ∷ e ∷ f ∷ g ∷ h ∷ []) (big_number 8 (a ∷ b ∷ c ∷ d ∷ e ∷ f ∷ g ∷ h ∷ rest)) refl (IsBytes-take 8 (a ∷ b ∷ c ∷ d ∷ e ∷ f ∷ g ∷ h ∷ rest) fits) (omega arith)
back_8 (a ∷ b ∷ c ∷ d ∷ e ∷ f ∷ g ∷ []) long fits = absurd (omega arith)
back_8 (a ∷ b ∷ c ∷ d ∷ e ∷ f ∷ []) long fits = absurd (omega arith)
back_8 (a ∷ b ∷ c ∷ d ∷ e ∷ []) long fits = absurd (omega arith)
back_8 (a ∷ b ∷ c ∷ d ∷ []) long fits = absurd (omega arith)
back_8 (a ∷ b ∷ c ∷ []) long fits = absurd (omega arith)
back_8 (a ∷ b ∷ []) long fits = absurd (omega arith)
back_8 (a ∷ []) long fits = absurd (omega arith)
back_8 [] long fits = absurd (omega arith)

pub wide_8 : IsWide 8 (2 ^ 64)
wide_8 = record { back = back_8; again = λ x rest lt. big_number-reads_back 8 x rest lt; below = λ bytes fits. omega (arith, fits 0, fits 1, fits 2, fits 3, fits 4, fits 5, fits 6, fits 7) }

pub number_takes : (n limit : ℕ) (wide : IsWide n limit) (bytes : List ℕ) (x : ℕ × List ℕ) → IsBytes bytes → number_at n bytes ≡ Ok x → Takes bytes (big_bytes n x.0) x.1 × (x.0 < limit)
number_takes n limit wide bytes x fits e =
    let g = guard_ok (ltb (length bytes) n) 0 (big_number n bytes, drop n bytes) x e in
    let long : n ≤ length bytes = ltb-false _ _ g.0 in
    let made : Takes bytes (big_bytes n (big_number n bytes)) (drop n bytes) × (big_number n bytes < limit) =
    (record { parts = rw (wide.back bytes long fits) (sym (take-append-drop n bytes)); rest_fits = IsBytes-drop n bytes fits }, wide.below bytes fits) in
    subst (λ (y : ℕ × List ℕ). Takes bytes (big_bytes n y.0) y.1 × (y.0 < limit)) g.1 made

pub number_again : (n limit : ℕ) (wide : IsWide n limit) (x : ℕ) (rest : List ℕ) → x < limit → number_at n (big_bytes n x ++ rest) ≡ Ok (x, rest)
number_again n limit wide x rest lt =
    let len : length (big_bytes n x) ≡ n = length-bytes_high_first n x in
    let long : ltb (length (big_bytes n x ++ rest)) n ≡ false = le-ltb _ _ (omega (arith, length-append (big_bytes n x) rest)) in
    rw (long, drop_at (big_bytes n x) rest n len, wide.again x rest lt) refl

-- ---- slices

pub slice_takes : (n : ℕ) (bytes : List ℕ) (x : List ℕ × List ℕ) → IsBytes bytes → slice_at n bytes ≡ Ok x → Takes bytes x.0 x.1 × (length x.0 ≡ n)
slice_takes n bytes x fits e =
    let g = guard_ok (ltb (length bytes) n) 0 (take n bytes, drop n bytes) x e in
    let long : n ≤ length bytes = ltb-false _ _ g.0 in
    let made : Takes bytes (take n bytes) (drop n bytes) × (length (take n bytes) ≡ n) =
    (record { parts = sym (take-append-drop n bytes); rest_fits = IsBytes-drop n bytes fits }, omega (arith, length-take n bytes)) in
    subst (λ (y : List ℕ × List ℕ). Takes bytes y.0 y.1 × (length y.0 ≡ n)) g.1 made

pub slice_again : (text rest : List ℕ) (n : ℕ) → n ≡ length text → slice_at n (text ++ rest) ≡ Ok (text, rest)
slice_again text rest n len =
    let long : ltb (length (text ++ rest)) n ≡ false = le-ltb _ _ (omega (arith, length-append text rest)) in
    rw (long, take_at text rest n (sym len), drop_at text rest n (sym len)) refl

-- ---- rules

pub ruled_ok : {A : Type 0} (rule : A → Bool) (field : List ℕ → Result (A × List ℕ) ℕ) (bytes : List ℕ) (x : A × List ℕ) → ruled rule field bytes ≡ Ok x → (field bytes ≡ Ok x) × (rule x.0 ≡ true)
ruled_ok rule field bytes x e =
    let b = bind_ok (field bytes) (λ y. cond (rule y.0) (Ok y) (Err (length bytes))) x e in
    let g = rule_ok (rule b.0.0) (length bytes) b.0 x b.2 in
    subst (λ y. (field bytes ≡ Ok y) × (rule y.0 ≡ true)) g.1 (b.1, g.0)

pub ruled_again : {A : Type 0} (rule : A → Bool) (field : List ℕ → Result (A × List ℕ) ℕ) (bytes : List ℕ) (x : A × List ℕ) → field bytes ≡ Ok x → rule x.0 ≡ true → ruled rule field bytes ≡ Ok x
ruled_again rule field bytes x e ok = rw (e, ok) refl
