-- Texts without the spaces at their ends.
use Rattle.std.proofs.Common.{◌≡◌, ℕ, ◌-◌, Bool, true, false, ◌&&◌, eqb, cond, List, [], ◌∷◌, ◌++◌, length, take, drop, Option, Some, None, refl, sym, ap, ◌∙◌, arith}
use Rattle.std.proofs.lemmas.Bool.{eqb-true}
use Rattle.std.proofs.lemmas.List.{take-append-drop, drop_all}
use Rattle.std.proofs.lemmas.Str.Pattern.{drop_at_char}
use Rattle.std.specs.Option.{IfSome}
use Rattle.std.specs.Str.Pattern.{FindsCharPrefix, FindsCharSuffix, CutsPrefixes, CutsSuffixes, IsTrimStartMatches, IsTrimEndMatches}
use Rattle.java_model.specs.SearchPattern.Texts.{space, is_empty, without_leading_spaces, without_trailing_spaces, before_spaces}

no_leading : (r : List ℕ) → ((rest : List ℕ) → r ≡ space ∷ rest → ⊥) → without_leading_spaces r ≡ r
no_leading [] h = refl
no_leading (b ∷ bs) h = elim (eqb b space) as (λ v. eqb b space ≡ v → cond v (without_leading_spaces bs) (b ∷ bs) ≡ b ∷ bs) [
  | true ↦ λ e. absurd (h bs (ap (λ x. x ∷ bs) (eqb-true b space e)))
  | false ↦ λ e. refl
] refl

cut_leading : (ns : List ℕ) (s r : List ℕ) → CutsPrefixes (FindsCharPrefix space) s ns r → without_leading_spaces r ≡ without_leading_spaces s
cut_leading [] s r h = ap without_leading_spaces h
cut_leading (n ∷ ns) s r h =
    let here : h.0 ≡ space ∷ drop n h.0 = drop_at_char space h.0 0 n h.2 (omega arith) in
    ap without_leading_spaces h.3 ∙ (sym (ap without_leading_spaces here) ∙ cut_leading ns s h.0 h.1)

fully_leading : (r : List ℕ) (o : Option ℕ) → FindsCharPrefix space r o → IfSome o (λ n. n ≡ 0) → (rest : List ℕ) → r ≡ space ∷ rest → ⊥
unfolding lib.Utf8.encode
fully_leading r None f z rest e = f rest e
fully_leading r (Some n) f z rest e = absurd (omega (arith, f.ends, z))

pub leading_cut : (s r : List ℕ) → IsTrimStartMatches (FindsCharPrefix space) s r → r ≡ without_leading_spaces s
leading_cut s r h = sym (no_leading r (fully_leading r h.1.0 h.1.1 h.1.2)) ∙ cut_leading h.0.0 s r h.0.1

no_trailing : (r : List ℕ) → ((front : List ℕ) → r ≡ front ++ space ∷ [] → ⊥) → without_trailing_spaces r ≡ r
no_trailing [] h = refl
no_trailing (b ∷ bs) h =
    ap (before_spaces b) (no_trailing bs (λ front e. h (b ∷ front) (ap (λ xs. b ∷ xs) e)))
    ∙ last_stays b bs h (eqb b space) refl
  where
    last_stays : (b : ℕ) (bs : List ℕ) → ((front : List ℕ) → b ∷ bs ≡ front ++ space ∷ [] → ⊥) → (v : Bool) → eqb b space ≡ v →
        cond (v && is_empty bs) [] (b ∷ bs) ≡ b ∷ bs
    last_stays b [] h true e = absurd (h [] (ap (λ x. x ∷ []) (eqb-true b space e)))
    last_stays b (c ∷ cs) h true e = refl
    last_stays b bs h false e = refl

trailing_more : (xs : List ℕ) → without_trailing_spaces (xs ++ space ∷ []) ≡ without_trailing_spaces xs
trailing_more [] = refl
trailing_more (x ∷ xs) = ap (before_spaces x) (trailing_more xs)

cut_trailing : (ns : List ℕ) (s r : List ℕ) → CutsSuffixes (FindsCharSuffix space) s ns r → without_trailing_spaces r ≡ without_trailing_spaces s
cut_trailing [] s r h = ap without_trailing_spaces h
cut_trailing (n ∷ ns) s r h =
    let m = h.0 in
    let last : drop (length m - n) m ≡ space ∷ drop (length m) m = drop_at_char space m (length m - n) (length m) h.2.1 (omega arith) in
    let whole : r ++ space ∷ [] ≡ m =
    ap (λ xs. xs ++ space ∷ []) h.3 ∙ (sym (ap (λ xs. take (length m - n) m ++ xs) (last ∙ ap (λ xs. space ∷ xs) (drop_all (length m) m (omega arith)))) ∙ take-append-drop (length m - n) m) in
    sym (trailing_more r) ∙ (ap without_trailing_spaces whole ∙ cut_trailing ns s m h.1)

fully_trailing : (r : List ℕ) (o : Option ℕ) → FindsCharSuffix space r o → IfSome o (λ n. n ≡ 0) → (front : List ℕ) → r ≡ front ++ space ∷ [] → ⊥
unfolding lib.Utf8.encode
fully_trailing r None f z front e = f front e
fully_trailing r (Some n) f z front e = absurd (omega (arith, f.0, z))

pub trailing_cut : (s r : List ℕ) → IsTrimEndMatches (FindsCharSuffix space) s r → r ≡ without_trailing_spaces s
trailing_cut s r h = sym (no_trailing r (fully_trailing r h.1.0 h.1.1 h.1.2)) ∙ cut_trailing h.0.0 s r h.0.1
