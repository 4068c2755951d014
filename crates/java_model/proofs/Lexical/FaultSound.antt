-- Where characters are left and no element is next, a fault stands.
use Rattle.std.proofs.Common.{◌≡◌, ℕ, zero, suc, ◌+◌, ◌⊎◌, Bool, true, false, cond, ◌||◌, ◌==◌, List, [], ◌∷◌, ◌++◌, length, take, drop, refl, sym, ap, ap₂, ◌∙◌, subst, inl, inr, arith, true≢false, nat_lt, eqb-true}
use Rattle.std.specs.List.{list_all}
use Rattle.std.proofs.lemmas.Bool.{cond_both, and_parts, or_left, or_right, and_from}
use Rattle.std.proofs.lemmas.Bool.Decides.{nat_tests}
use Rattle.std.proofs.lemmas.List.{take_at}
use Rattle.java_tree.specs.declared.outline.Level.{Level}
use Rattle.java_tree.specs.declared.token.TokenKind.{TokenKind}
use Rattle.java_tree.specs.declared.token.TokenKind.TheVariants.{Identifier, Keyword, IntLit, LongLit, FloatLit, DoubleLit, CharLit, StringLit, Symbol}
use Rattle.java_model.specs.Lexical.Characters.{backslash, double_quote, single_quote, slash, full_stop, is_line_end, is_digit, is_letter, is_letter_or_digit, is_octal_digit, is_zero_to_three}
use Rattle.java_model.specs.Lexical.Escapes.{Input, HasNoFront, characters_of, width_of}
use Rattle.java_model.specs.Lexical.Words.{is_listed, is_word, is_reserved}
use Rattle.java_model.specs.Lexical.Numbers.{is_decimal, is_hex, is_octal}
use Rattle.java_model.specs.Lexical.Quoted.{is_escape_sequence}
use Rattle.java_model.specs.Lexical.Comments.{IsTraditionalComment}
use Rattle.java_model.specs.Lexical.Symbols.{symbols, separators, operators, IsSymbol}
use Rattle.java_model.specs.Lexical.Elements.{Element, IsToken, IsElement, begins_comment}
use Rattle.java_model.specs.Lexical.Elements.Element.{white_space, traditional_comment, end_of_line_comment, token}
use Rattle.java_model.specs.Lexical.Faults.{is_line_over, IsBadBackslash, IsFaultAt}
use Rattle.java_model.specs.Lexical.Faults.LexicalFault.{bad_char, unclosed}
use Rattle.java_model.specs.Lexical.Faults.IsFaultAt.{open_comment, open_string, string_escape, open_literal, empty_literal, literal_escape, long_literal, stray}
use Rattle.java_model.proofs.Lexical.Reading.{begins, is_escaped, is_bare, inside_length, one_length, word_kind, next_in, next_of}
use Rattle.java_model.proofs.Lexical.Reading.Found.{found, nothing}
use Rattle.java_model.proofs.Lexical.Families.{family_string}
use Rattle.java_model.proofs.Lexical.Listed.{listed-all}
use Rattle.java_model.proofs.Lexical.LongestComments.{Best}
use Rattle.java_model.proofs.Lexical.LongestFloats.{floating_begins}
use Rattle.java_model.proofs.Lexical.LongestInts.{numeral_first, long_first}
use Rattle.java_model.proofs.Lexical.LongestQuoted.{Quoted, quoted_forms, three_octal}
use Rattle.java_model.proofs.Lexical.LongestWords.{reserved_word}
use Rattle.java_model.proofs.Lexical.Next.{front_best}
use Rattle.java_model.proofs.Lexical.SoundQuoted.{Stops, InsidePart, inside_part, inside_dropped, IsOne, one_part}
use Rattle.java_model.proofs.Lexical.SoundOthers.{word_element, slash_symbol, point_symbol}
use Rattle.java_model.proofs.Lexical.NextLaws.{Split, split_at, length_characters}
use Rattle.java_model.proofs.Lexical.Faulting.{string_fault, literal_fault, fault_of}

-- the first character of an element is a quote, or an element alone

abbrev Single : Level → ℕ → Type 0
Single level c = (e : Element) × IsElement level e (c ∷ [])

abbrev Begins : Level → ℕ → Type 0
Begins level c = ((c ≡ double_quote) ⊎ (c ≡ single_quote)) ⊎ Single level c

single_word : (level : Level) (c : ℕ) (more : List ℕ) → is_word (c ∷ more) ≡ true → Single level c
single_word level c more h =
    let w : is_word (c ∷ []) ≡ true = and_from (is_letter c) true (and_parts (is_letter c) (list_all is_letter_or_digit more) h).0 refl in
    (token (word_kind (is_reserved level (c ∷ []))), word_element level (c ∷ []) w)

single_digit : (level : Level) (c : ℕ) → is_digit c ≡ true → Single level c
single_digit level c h = (token IntLit, or_left (is_decimal (c ∷ []) || is_hex (c ∷ [])) (is_octal (c ∷ [])) (or_left (is_decimal (c ∷ [])) (is_hex (c ∷ [])) h))

single_symbol : (level : Level) (c : ℕ) (d : ℕ) → c ≡ d → IsSymbol (d ∷ []) → Single level c
single_symbol level c d e h = (token Symbol, subst (λ x. IsSymbol (x ∷ [])) (sym e) h)

symbols_single : (s : List ℕ) → is_listed symbols s ≡ true → is_listed symbols (take 1 s) ≡ true
unfolding symbols separators operators
symbols_single s h = listed-all (λ w. is_listed symbols (take 1 w)) symbols s refl h

single_floating : (level : Level) (c : ℕ) → (is_digit c ≡ true) ⊎ (c ≡ full_stop) → Single level c
single_floating level c (inl d) = single_digit level c d
single_floating level c (inr p) = single_symbol level c full_stop p point_symbol

begins_token : (level : Level) (kind : TokenKind) (c : ℕ) (more : List ℕ) → IsToken level kind (c ∷ more) → Begins level c
begins_token level Identifier c more h = inr (single_word level c more h.word)
begins_token level Keyword c more h = inr (single_word level c more (reserved_word level (c ∷ more) h))
begins_token level IntLit c more h = inr (single_digit level c (numeral_first c more h))
begins_token level LongLit c more h = inr (single_digit level c (long_first c more h))
begins_token level FloatLit c more (f, h, is) = inr (single_floating level c (floating_begins (c ∷ more) (f ∷ []) h))
begins_token level DoubleLit c more (S, h, is) = inr (single_floating level c (floating_begins (c ∷ more) S h))
begins_token level CharLit c more h = let e = h.spelled in inl (inr (cc))
begins_token level StringLit c more h = let e = h.spelled in inl (inl (cc))
begins_token level Symbol c more h = inr (token Symbol, symbols_single (c ∷ more) h)

begins_element : (level : Level) (e : Element) (c : ℕ) (more : List ℕ) → IsElement level e (c ∷ more) → Begins level c
begins_element level white_space c more (d, e, h) = let same : d ≡ c = cc in inr (white_space, (d, ap (λ x. x ∷ []) (sym same), h))
begins_element level traditional_comment c more (tail, e, t) = let same : c ≡ slash = cc in inr (single_symbol level c slash same slash_symbol)
begins_element level end_of_line_comment c more (l, e, t) = let same : c ≡ slash = cc in inr (single_symbol level c slash same slash_symbol)
begins_element level (token kind) c more h = begins_token level kind c more h

-- where no element is next, a front is one only where a comment doesn't end
nothing_best : (level : Level) (p rest : List ℕ) (e : Element) → next_of level (p ++ rest) ≡ nothing → IsElement level e p → (begins_comment (p ++ rest) ≡ true) × (e ≡ traditional_comment → ⊥)
nothing_best level p rest e over h = let b = front_best level e p rest h in subst (Best (p ++ rest) e (length p)) over b

no_front : (level : Level) (cs p rest : List ℕ) (e : Element) → next_of level cs ≡ nothing → begins_comment cs ≡ false → cs ≡ p ++ rest → IsElement level e p → ⊥
no_front level cs p rest e over b same h =
    true≢false (sym (nothing_best level p rest e (ap (next_of level) (sym same) ∙ over) h).0 ∙ (ap begins_comment (sym same) ∙ b))

no_traditional : (level : Level) (cs : List ℕ) → next_of level cs ≡ nothing → HasNoFront IsTraditionalComment cs
no_traditional level cs over front rest same h =
    (nothing_best level front rest traditional_comment (ap (next_of level) (sym same) ∙ over) h).1 refl

-- what stops the characters between quotes

stop_char : (quote c : ℕ) → is_bare quote c ≡ false → is_line_end c ≡ false → c == quote ≡ false → c ≡ backslash
stop_char quote c h l q = grind (arith, nat_tests)

not_escaped : (after front rest : List ℕ) → begins is_escaped after ≡ false → backslash ∷ after ≡ front ++ rest → is_escape_sequence front ≡ true → ⊥
not_escaped after front rest h same is = forms front same (quoted_forms double_quote front (or_right _ (is_escape_sequence front) is)) is
  where
    clash : (c : ℕ) (more : List ℕ) → is_escaped c ≡ true → after ≡ c ∷ more → ⊥
    clash c more e s = true≢false (sym e ∙ (ap (begins is_escaped) (sym s) ∙ h))

    octal : (c : ℕ) → is_octal_digit c ≡ true → is_escaped c ≡ true
    octal c o = or_right _ (is_octal_digit c) o

    three : (c : ℕ) → is_zero_to_three c ≡ true → is_escaped c ≡ true
    three c o = octal c (three_octal c o)

    forms : (front : List ℕ) → backslash ∷ after ≡ front ++ rest → Quoted double_quote front → is_escape_sequence front ≡ true → ⊥
    forms _ same (Quoted.bare c b) is = true≢false (sym is)
    forms _ same (Quoted.simple c e) is = clash c rest e (cc)
    forms _ same (Quoted.octal_two c d hc hd) is = clash c (d ∷ rest) (octal c hc) (cc)
    forms _ same (Quoted.octal_three c d e hc hd he) is = clash c (d ∷ e ∷ rest) (three c hc) (cc)

bad_backslash : (quote c : ℕ) (cs : List ℕ) → Stops quote (c ∷ cs) → is_line_end c ≡ false → c == quote ≡ false → IsBadBackslash (c ∷ cs)
bad_backslash quote c cs stop l q =
    let e = stop_char quote c stop.0 l q in
    (cs, ap (λ x. x ∷ cs) e, λ front rest same is. not_escaped cs front rest (stop.1 e) (ap (λ x. x ∷ cs) (sym e) ∙ same) is)

bad_rest : (quote : ℕ) (cs : List ℕ) → Stops quote cs → is_line_over cs ≡ false → begins (λ x. x == quote) cs ≡ false → IsBadBackslash cs
bad_rest quote [] stop l q = absurd (true≢false l)
bad_rest quote (c ∷ cs) stop l q = bad_backslash quote c cs stop l q

-- strings

string_unquoted : (level : Level) (cs : List ℕ) → next_of level (double_quote ∷ cs) ≡ nothing → begins (λ x. x == double_quote) (drop (inside_length false cs) cs) ≡ false
string_unquoted level cs over =
    none_found (begins (λ x. x == double_quote) (drop (inside_length false cs) cs)) (suc (suc (inside_length false cs)))
    (sym (ap (λ f. next_in level f double_quote cs) family_string) ∙ over)
  where
    none_found : (b : Bool) (n : ℕ) → cond b (found (token StringLit) n) nothing ≡ nothing → b ≡ false
    none_found false n h = refl
    none_found true n h = cc

string_bad : (level : Level) (at : ℕ) (quote : Input) (inputs : List Input) (p : InsidePart (characters_of inputs) (inside_length false (characters_of inputs))) (s : Split inputs p.front p.rest) → quote.character ≡ double_quote → is_line_over p.rest ≡ false → begins (λ x. x == double_quote) p.rest ≡ false → IsFaultAt level at (quote ∷ inputs) (bad_char (at + width_of (take (suc (inside_length false (characters_of inputs))) (quote ∷ inputs))))
string_bad level at quote inputs p s q l u =
    let n : length s.front ≡ inside_length false (characters_of inputs) = sym (length_characters s.front) ∙ (ap length s.before ∙ p.counted) in
    let t : take (inside_length false (characters_of inputs)) inputs ≡ s.front = ap (λ k. take k inputs) (sym n) ∙ (ap (take (length s.front)) s.parted ∙ take_at s.front s.after (length s.front) refl) in
    let f : IsFaultAt level at (quote ∷ inputs) (bad_char (at + width_of (quote ∷ s.front))) =
    string_escape (quote ∷ s.front) s.after p.front (ap (λ x. quote ∷ x) s.parted) (ap₂ (λ x y. x ∷ y) q s.before) p.valid (subst IsBadBackslash (sym s.behind) (bad_rest double_quote p.rest p.stop l u)) in
    subst (λ x. IsFaultAt level at (quote ∷ inputs) (bad_char (at + width_of (quote ∷ x)))) (sym t) f

string_from : (level : Level) (at : ℕ) (quote : Input) (inputs : List Input) → quote.character ≡ double_quote → begins (λ x. x == double_quote) (drop (inside_length false (characters_of inputs)) (characters_of inputs)) ≡ false → IsFaultAt level at (quote ∷ inputs) (string_fault at quote inputs)
string_from level at quote inputs q unquoted =
    let cs : List ℕ = characters_of inputs in
    let p = inside_part (characters_of inputs) in
    let d = inside_dropped (characters_of inputs) p in
    cond_both (is_line_over (drop (inside_length false (characters_of inputs)) (characters_of inputs))) _ _ (IsFaultAt level at (quote ∷ inputs))
    (λ l. open_string p.front p.rest (ap₂ (λ x y. x ∷ y) q p.same) p.valid (ap is_line_over (sym d) ∙ l))
    (λ l. string_bad level at quote inputs p (split_at inputs p.front p.rest p.same) q (ap is_line_over (sym d) ∙ l) (ap (begins (λ x. x == double_quote)) (sym d) ∙ unquoted))

-- character literals

literal_one : (level : Level) (at : ℕ) (quote : Input) (inputs : List Input) (n : ℕ) → quote.character ≡ single_quote → next_of level (quote.character ∷ characters_of inputs) ≡ nothing → begins_comment (quote.character ∷ characters_of inputs) ≡ false → is_line_over (characters_of inputs) ≡ false → begins (λ x. x == single_quote) (characters_of inputs) ≡ false → IsOne (characters_of inputs) n → IsFaultAt level at (quote ∷ inputs) (cond (nat_lt 0 n) (unclosed at) (bad_char (at + quote.width)))
literal_one level at quote inputs zero q over b l u stop = literal_escape quote inputs refl q (bad_rest single_quote (characters_of inputs) stop l u)
literal_one level at quote inputs (suc n) q over b l u p =
    rw (positive n) (long_literal p.front p.rest (ap₂ (λ x y. x ∷ y) q p.same) p.valid (λ front rest same h. no_front level (quote.character ∷ characters_of inputs) front rest (token CharLit) over b same h))
  where
    positive : (n : ℕ) → nat_lt 0 (suc n) ≡ true
    positive n = grind (arith, nat_tests)

literal_from : (level : Level) (at : ℕ) (quote : Input) (inputs : List Input) → quote.character ≡ single_quote → next_of level (quote.character ∷ characters_of inputs) ≡ nothing → begins_comment (quote.character ∷ characters_of inputs) ≡ false → IsFaultAt level at (quote ∷ inputs) (literal_fault at quote.width (characters_of inputs))
literal_from level at quote inputs q over b =
    cond_both (is_line_over (characters_of inputs)) _ _ (IsFaultAt level at (quote ∷ inputs))
    (λ l. open_literal (characters_of inputs) (ap (λ x. x ∷ characters_of inputs) q) l)
    (λ l. cond_both (begins (λ x. x == single_quote) (characters_of inputs)) _ _ (IsFaultAt level at (quote ∷ inputs))
    (λ e. empty_at (characters_of inputs) refl e)
    (λ u. literal_one level at quote inputs (one_length (characters_of inputs)) q over b l u (one_part (characters_of inputs))))
  where
    empty_at : (cs : List ℕ) → characters_of inputs ≡ cs → begins (λ x. x == single_quote) cs ≡ true → IsFaultAt level at (quote ∷ inputs) (bad_char at)
    empty_at [] e h = absurd (true≢false (sym h))
    empty_at (c ∷ cs) e h = empty_literal cs (ap₂ (λ x y. x ∷ y) q (e ∙ ap (λ x. x ∷ cs) (eqb-true c single_quote h)))

-- a stray character

stray_from : (level : Level) (at : ℕ) (input : Input) (inputs : List Input) → next_of level (input.character ∷ characters_of inputs) ≡ nothing → begins_comment (input.character ∷ characters_of inputs) ≡ false → input.character == double_quote ≡ false → input.character == single_quote ≡ false → IsFaultAt level at (input ∷ inputs) (bad_char at)
stray_from level at input inputs over b d s = stray input.character (characters_of inputs) refl (λ e more h. none_begins (begins_element level e input.character more h))
  where
    none_begins : Begins level input.character → ⊥
    none_begins (inl (inl e)) = true≢false (sym (ap (λ x. x == double_quote) e) ∙ d)
    none_begins (inl (inr e)) = true≢false (sym (ap (λ x. x == single_quote) e) ∙ s)
    none_begins (inr (e, h)) = no_front level (input.character ∷ characters_of inputs) (input.character ∷ []) (characters_of inputs) e over b refl h

-- all

pub fault_stands : (level : Level) (at : ℕ) (input : Input) (inputs : List Input) → next_of level (characters_of (input ∷ inputs)) ≡ nothing → IsFaultAt level at (input ∷ inputs) (fault_of at (input ∷ inputs))
fault_stands level at input inputs over =
    cond_both (begins_comment (input.character ∷ characters_of inputs)) _ _ (IsFaultAt level at (input ∷ inputs))
    (λ b. open_comment b (no_traditional level (input.character ∷ characters_of inputs) over))
    (λ b. cond_both (input.character == double_quote) _ _ (IsFaultAt level at (input ∷ inputs))
    (λ q. let e = eqb-true input.character double_quote q in string_from level at input inputs e (string_unquoted level (characters_of inputs) (ap (λ x. next_of level (x ∷ characters_of inputs)) (sym e) ∙ over)))
    (λ d. cond_both (input.character == single_quote) _ _ (IsFaultAt level at (input ∷ inputs))
    (λ q. literal_from level at input inputs (eqb-true input.character single_quote q) over b)
    (λ s. stray_from level at input inputs over b d s)))
