-- Where in a list of tokens what is read stands, and the runs of its bodies.
use Rattle.std.proofs.Common.{◌≡◌, ℕ, zero, suc, ◌+◌, ◌-◌, ◌≤◌, List, [], ◌∷◌, ◌++◌, length, drop, Some, refl, sym, ap, ◌∙◌, subst, arith, append_assoc}
use Rattle.std.proofs.lemmas.List.{append-nil, drop-drop, length-drop}
use Rattle.java_tree.specs.declared.mark.Mark.TheVariants as marks
use Rattle.java_model.specs.Grammar.Signs.{Sign, mark, left_brace, this, super, word, literal, stray}
use Rattle.java_model.specs.Grammar.Pieces.{Piece, token, hole, Hole}
use Rattle.java_model.specs.Grammar.Runs.{after_body, Reads, holes_of, IsRunOf}
use Rattle.java_expr_reading.specs.Input.{Input, sign, first_of, next, past_body}
use Rattle.java_expr_reading.specs.Answers.{AreRunsOf}
use Rattle.java_expr_reading.specs.declared.parsed.PendingBody.{PendingBody}
use Rattle.java_expr_reading.proofs.Taken.{Taken, Fit, after_body-shorter}

-- ---- on lists

first_of-is : (ts : List Sign) (s : Sign) → first_of ts ≡ Some s → ts ≡ s ∷ drop 1 ts
first_of-is [] s h = absurd cc
first_of-is (t ∷ ts) s h = let is : t ≡ s = cc in ap (λ x. x ∷ ts) is

pub sign-is : (i : Input) (s : Sign) → sign i ≡ Some s → i.rest ≡ s ∷ drop 1 i.rest
unfolding sign
sign-is i s h = first_of-is i.rest s h

sign-from : (i : Input) (s : Sign) (vs : List Sign) → i.rest ≡ s ∷ vs → sign i ≡ Some s
unfolding sign
sign-from i s vs h = ap first_of h

next-rest : (i : Input) → (next i).rest ≡ drop 1 i.rest
unfolding next
next-rest i = refl

past_body-rest : (n : ℕ) (i : Input) → (past_body n i).rest ≡ after_body (drop 1 i.rest) zero
unfolding past_body
past_body-rest n i = refl

tail_is : (s : Sign) (ts vs : List Sign) → ts ≡ s ∷ vs → drop 1 ts ≡ vs
tail_is s ts vs h = ap (drop 1) h

-- ---- pieces that are taken stand in the tokens, and the other way round

pub fit-reads : (ps : List Piece) (i j : Input) → Fit ps i j → Reads ps i.rest j.rest
fit-reads [] i j h = ap (λ x. x.rest) h
fit-reads (token s ∷ ps) i j h = (drop 1 i.rest, sign-is i s h.0, subst (λ ts. Reads ps ts j.rest) (next-rest i) (fit-reads ps (next i) j h.1))
fit-reads (hole n ∷ ps) i j h =
    (drop 1 i.rest, sign-is i (left_brace n.brace) h.0, subst (λ ts. Reads ps ts j.rest) (past_body-rest n.around.left i) (fit-reads ps (past_body n.around.left i) j h.2))

pub reads-taken : {C : Type 0} (ps : List Piece) (i : Input) (us : List Sign) → Reads ps i.rest us → ((j : Input) → Taken ps i j → j.rest ≡ us → C) → C
reads-taken [] i us h f = f i refl h
reads-taken (token s ∷ ps) i us h f =
    reads-taken ps (next i) us (subst (λ ts. Reads ps ts us) (sym (next-rest i ∙ tail_is s i.rest h.0 h.1)) h.2)
    (λ j t e. f j (sign-from i s h.0 h.1, t) e)
reads-taken (hole n ∷ ps) i us h f =
    reads-taken ps (past_body n.around.left i) us
    (subst (λ ts. Reads ps ts us) (sym (past_body-rest n.around.left i ∙ ap (λ ts. after_body ts zero) (tail_is (left_brace n.brace) i.rest h.0 h.1))) h.2)
    (λ j t e. f j (sign-from i (left_brace n.brace) h.0 h.1, t) e)

-- ---- where a body ends

one_later : (n m : ℕ) (t : Sign) (ts : List Sign) → m ≤ n → drop (suc n - m) (t ∷ ts) ≡ drop (n - m) ts
one_later n m t ts h = ap (λ k. drop k (t ∷ ts)) (let e : suc n - m ≡ suc (n - m) = omega arith in e)

after_body-drop : (ts : List Sign) (d : ℕ) → after_body ts d ≡ drop (length ts - length (after_body ts d)) ts
after_body-drop [] d = refl
after_body-drop (left_brace at ∷ ts) d = after_body-drop ts (suc d) ∙ sym (one_later (length ts) (length (after_body ts (suc d))) (left_brace at) ts (after_body-shorter ts (suc d)))
after_body-drop (mark marks.RightBrace ∷ ts) zero = ap (λ k. drop k (mark marks.RightBrace ∷ ts)) (let e : 1 ≡ suc (length ts) - length ts = omega arith in e)
after_body-drop (mark marks.RightBrace ∷ ts) (suc d) = after_body-drop ts d ∙ sym (one_later (length ts) (length (after_body ts d)) (mark marks.RightBrace) ts (after_body-shorter ts d))
after_body-drop (mark m ∷ ts) d = after_body-drop ts d ∙ sym (one_later (length ts) (length (after_body ts d)) (mark m) ts (after_body-shorter ts d))
after_body-drop (this s ∷ ts) d = after_body-drop ts d ∙ sym (one_later (length ts) (length (after_body ts d)) (this s) ts (after_body-shorter ts d))
after_body-drop (super s ∷ ts) d = after_body-drop ts d ∙ sym (one_later (length ts) (length (after_body ts d)) (super s) ts (after_body-shorter ts d))
after_body-drop (word i ∷ ts) d = after_body-drop ts d ∙ sym (one_later (length ts) (length (after_body ts d)) (word i) ts (after_body-shorter ts d))
after_body-drop (literal l ∷ ts) d = after_body-drop ts d ∙ sym (one_later (length ts) (length (after_body ts d)) (literal l) ts (after_body-shorter ts d))
after_body-drop (stray ∷ ts) d = after_body-drop ts d ∙ sym (one_later (length ts) (length (after_body ts d)) stray ts (after_body-shorter ts d))

-- ---- places in the tokens

-- what is left are the tokens from a place on
pub record IsAt (tokens : List Sign) (i : Input) : Type 0 where
  pub rest : i.rest ≡ drop i.at tokens
  pub within : i.at ≤ length tokens

-- some token is left
pub inside : (tokens : List Sign) (i : Input) (s : Sign) → IsAt tokens i → sign i ≡ Some s → i.at + length i.rest ≡ length tokens
inside tokens i s h e = let l : length i.rest ≡ length tokens - i.at = ap length h.rest ∙ length-drop i.at tokens in let w = h.within in omega arith

at_next : (tokens : List Sign) (i : Input) (s : Sign) → IsAt tokens i → sign i ≡ Some s → IsAt tokens (next i)
unfolding next
at_next tokens i s h e =
    let some_ : length i.rest ≡ suc (length (drop 1 i.rest)) = ap length (sign-is i s e) in
    let l = inside tokens i s h e in
    record { rest = ap (drop 1) h.rest ∙ drop-drop 1 i.at tokens; within = omega arith }

-- where the run of a body begins and ends
pub record Passes (tokens : List Sign) (h : Hole) (i j : Input) (b : PendingBody) : Type 0 where
  pub there : IsAt tokens j
  pub bodies : j.bodies ≡ i.bodies ++ b ∷ []
  pub run : IsRunOf tokens h b.first b.last b.depth

passes_body : (tokens : List Sign) (h : Hole) (i : Input) → IsAt tokens i → sign i ≡ Some (left_brace h.brace) → h.around.left ≤ 256
    → (b : PendingBody) × Passes tokens h i (past_body h.around.left i) b
unfolding past_body
passes_body tokens h i place e fits =
    let vs : List Sign = drop 1 i.rest in
    let rest : List Sign = after_body vs zero in
    let opens = sign-is i (left_brace h.brace) e in
    let some_ : length i.rest ≡ suc (length vs) = ap length opens in
    let l = inside tokens i (left_brace h.brace) place e in
    let shorter : length rest ≤ length vs = after_body-shorter vs zero in
    let at : ℕ = i.at + (length i.rest - length rest) in
    let behind : rest ≡ drop at tokens =
    after_body-drop vs zero ∙ drop-drop (length vs - length rest) 1 i.rest
    ∙ ap (λ k. drop k i.rest) (let n : 1 + (length vs - length rest) ≡ length i.rest - length rest = omega arith in n)
    ∙ ap (drop (length i.rest - length rest)) place.rest ∙ drop-drop (length i.rest - length rest) i.at tokens in (
      record { first = i.at; last = at - 1; depth = 256 - h.around.left },
      record {
        there = record { rest = behind; within = omega arith };
        bodies = refl;
        run = record { rest = vs; opens = sym place.rest ∙ opens; closes = omega arith; counted = omega arith };
      },
    )

-- what is taken leaves a place in the tokens, and behind it the runs of its holes
pub record Leaves (tokens : List Sign) (ps : List Piece) (i j : Input) (bs : List PendingBody) : Type 0 where
  pub there : IsAt tokens j
  pub bodies : j.bodies ≡ i.bodies ++ bs
  pub runs : AreRunsOf tokens (holes_of ps) bs

next-bodies : (i : Input) → (next i).bodies ≡ i.bodies
unfolding next
next-bodies i = refl

pub fit-leaves : (tokens : List Sign) (ps : List Piece) (i j : Input) → IsAt tokens i → Fit ps i j → (bs : List PendingBody) × Leaves tokens ps i j bs
fit-leaves tokens [] i j place h =
    ([], record { there = subst (IsAt tokens) h place; bodies = sym (ap (λ x. x.bodies) h) ∙ sym (append-nil i.bodies); runs = tt })
fit-leaves tokens (token s ∷ ps) i j place h =
    let more = fit-leaves tokens ps (next i) j (at_next tokens i s place h.0) h.1 in
    (more.0, record { there = more.1.there; bodies = more.1.bodies ∙ ap (λ xs. xs ++ more.0) (next-bodies i); runs = more.1.runs })
fit-leaves tokens (hole n ∷ ps) i j place h =
    let one = passes_body tokens n i place h.0 h.1 in
    let more = fit-leaves tokens ps (past_body n.around.left i) j one.1.there h.2 in (
      one.0 ∷ more.0,
      record {
        there = more.1.there;
        bodies = more.1.bodies ∙ ap (λ xs. xs ++ more.0) one.1.bodies ∙ append_assoc i.bodies (one.0 ∷ []) more.0;
        runs = (one.1.run, more.1.runs);
      },
    )
